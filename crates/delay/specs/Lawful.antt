-- A delayed traffic is a traffic. Assumes nothing.
use Rattle.std.specs.Prelude.{◌≡◌, ℕ, ◌+◌, ◌-◌, ◌<◌, ◌≤◌, Bool, cond, List, ℤ, pos, ◌-ℤ◌, ◌≤ℤ◌, int_le, nat_le}
use Rattle.std.proofs.Common.{sym, ap, subst, ◌∙◌, ⊎_elim, arith}
use Rattle.std.proofs.lemmas.Int.{ints, by_lt_z}
use Rattle.std.proofs.lemmas.Bool.{leb-true, le-leb, cond-true, cases_Bool}
use Rattle.bus.specs.Sums.{sum_below, largest_below, only}
use Rattle.bus.specs.Meaning.{Meaning, Limits, Laws, count}
use Rattle.bus.proofs.Adding.{sum_same, sum_rest, largest_has}
use Rattle.bus.proofs.Growing.{above, upto, far}
use Rattle.bus.proofs.Phases.{reduced_below}
use Rattle.delay.specs.Delayed.{delayed, earlier, counting, listed, largest_of}
use Rattle.delay.specs.Reducing.{reduced_next}

-- what is taken from a place may be added to the window
moved : (a : ℤ) (e w : ℕ) → int_le (a -ℤ pos e) (pos w) ≡ int_le a (pos (w + e))
moved a e w =
    by_lt_z (pos (w + e)) a
    (λ h. above (a -ℤ pos e) (pos w) (omega (arith, ints)) ∙ sym (above a (pos (w + e)) h))
    (λ h. upto (a -ℤ pos e) (pos w) (omega (arith, ints)) ∙ sym (upto a (pos (w + e)) h))

module _ (m : Meaning) (limits : Limits m) (delay : ℕ → ℕ) where
  pub earlier_below : (n p : ℕ) → n < 16 → earlier m delay n p < m.cycle n
  earlier_below n p h = reduced_below (m.cycle n) (pos p -ℤ pos (delay n)) (limits.some_phase n h)

  pub delayed_limits : m.reach + largest_below 16 delay ≤ 16777216 → Limits (delayed m delay)
  delayed_limits fits = record {
    few = limits.few;
    node_below = limits.node_below;
    identifier_below = limits.identifier_below;
    long = limits.long;
    short = limits.short;
    some_phase = limits.some_phase;
    few_phases = limits.few_phases;
    place_fits = λ i p q known inside some few.
        let below = limits.place_fits i (earlier m delay (m.node i) p) q known (earlier_below (m.node i) p (limits.node_below i known)) some few in
        omega (arith, ints);
    reach_fits = fits;
  }

  module _ (laws : Laws m) where
    pub delayed_laws : Laws (delayed m delay)
    delayed_laws = record {
      first = λ i p known inside.
          let node = limits.node_below i known in
          let below = laws.first i (earlier m delay (m.node i) p) known (earlier_below (m.node i) p node) in
          let most = largest_has 16 delay (m.node i) node in
          omega (arith, ints);
      apart = λ i p q known inside some.
          let below = laws.apart i (earlier m delay (m.node i) p) q known (earlier_below (m.node i) p (limits.node_below i known)) some in
          omega (arith, ints);
      one_node = laws.one_node;
      closer = λ i p q known inside turns some.
          let node = limits.node_below i known in
          let phase = limits.some_phase (m.node i) node in
          let some_phase : 0 < m.cycle (m.node i) = omega arith in
          let below = laws.closer i (earlier m delay (m.node i) p) q known (earlier_below (m.node i) p node) turns some in
          let next = reduced_next (m.cycle (m.node i)) p (delay (m.node i)) some_phase in
          let moved = subst (λ (y : ℕ). m.place i y q ≤ℤ m.place i (earlier m delay (m.node i) p) q) (sym next) below in
          omega (arith, ints);
    }

    -- the instances within w are those within w and the delay below
    pub delayed_count : (i p w : ℕ) → i < m.streams → count (delayed m delay) i p w ≡ count m i (earlier m delay (m.node i) p) (w + delay (m.node i))
    delayed_count i p w known =
        let node = limits.node_below i known in
        let most = largest_has 16 delay (m.node i) node in
        let e : ℕ = delay (m.node i) in
        let here : ℕ = earlier m delay (m.node i) p in
        let inside : here < m.cycle (m.node i) = earlier_below (m.node i) p node in
        let one : ℕ → ℕ = λ k. only (int_le (m.place i here (k + 1)) (pos (w + e))) 1 in
        sum_same (w + (m.reach + largest_below 16 delay) + 1) _ one (λ k h. ap (λ (t : Bool). only t 1) (moved (m.place i here (k + 1)) e w))
        ∙ ap (λ n. sum_below n one) (let parts : w + (m.reach + largest_below 16 delay) + 1 ≡ (w + e + m.reach + 1) + (largest_below 16 delay - e) = omega arith in parts)
        ∙ sum_rest (w + e + m.reach + 1) (largest_below 16 delay - e) one (λ k h.
        let from = far m laws i here known inside (k + 1) (omega arith) in
        ap (λ (t : Bool). only t 1) (above (m.place i here (k + 1)) (pos (w + e)) (omega (arith, ints))))

-- the delays that count are those listed, where the reach is not too large
pub counting_listed : (m : Meaning) (delays : List ℕ) → m.reach + largest_of delays ≤ 16777216 → counting m delays ≡ listed delays
counting_listed m delays fits = cond-true (nat_le (m.reach + largest_of delays) 16777216) (listed delays) (λ _. 0) (le-leb (m.reach + largest_of delays) 16777216 fits)

-- the delays that count leave the reach within its limit
pub counting_fits : (m : Meaning) → Limits m → (delays : List ℕ) → m.reach + largest_below 16 (counting m delays) ≤ 16777216
counting_fits m limits delays =
    ⊎_elim
    (λ yes. subst (λ (b : Bool). m.reach + largest_below 16 (cond b (listed delays) (λ _. 0)) ≤ 16777216) (sym yes) (leb-true (m.reach + largest_of delays) 16777216 yes))
    (λ no. subst (λ (b : Bool). m.reach + largest_below 16 (cond b (listed delays) (λ _. 0)) ≤ 16777216) (sym no) (omega (arith, limits.reach_fits)))
    (cases_Bool (nat_le (m.reach + largest_of delays) 16777216))
