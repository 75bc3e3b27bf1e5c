-- The answers of a delayed traffic, from those of the traffic below. Assumes nothing.
use Rattle.std.proofs.Common.{◌≡◌, ℕ, ◌+◌, ◌^◌, ◌<◌, ◌≤◌, ℤ, pos, ◌-ℤ◌, neg_ℤ, ◌≤ℤ◌, ◌<ℤ◌, IsErrAnd, Ok, Err, Result, sym, refl, ap, ◌∙◌, subst, arith}
use Rattle.std.proofs.lemmas.Result.{err_from_is_err_and}
use Rattle.std.proofs.lemmas.Int.{ints}
use Rattle.bus.specs.declared.refusal.Refusal.{Refusal}
use Rattle.bus.specs.Asked.{Asked, CycleAsked, StreamAsked, PlaceAsked, CountAsked}
use Rattle.bus.specs.Meaning.{Meaning, Limits, Laws, count}
use Rattle.bus.proofs.Adding.{largest_has}
use Rattle.bus.proofs.Answered.{within, answer, below_or_not}
use Rattle.bus.proofs.Finding.{both_or_not}
use Rattle.bus.proofs.Growing.{far}
use Rattle.delay.specs.declared.delayed.Shift.{Shift}
use Rattle.delay.specs.Delayed.{earlier, delayed, shifted, ShiftAsked, StreamShiftAsked}
use Rattle.delay.specs.Lawful.{earlier_below, delayed_count}

-- a refusal says that the question was out of range
pub out : {A : Type 0} {fits : Type 0} {v : A} {e : Refusal} → Asked fits v (Err e) → fits → ⊥
out a f = let is = a.answered f in let z : ◌≡◌ {A = ℕ} 0 1 = cc in omega arith

-- and so is any question that it is part of
pub passed : {A B : Type 0} {fits fits' : Type 0} {v : A} {w : B} {r : Result B Refusal} {e : Refusal} → Asked fits v (Err e) → (fits' → fits) → IsErrAnd r (λ y. y ≡ e) → Asked fits' w r
passed {r = r} a part on =
    let p = err_from_is_err_and r on in
    let same = p.2 in
    let is = p.1 in
    let question = a.refused (out a) in
    record { answered = λ f. absurd (out a (part f)); refused = λ _. cc }

-- the same question in other words
alike : {A : Type 0} {fits fits' : Type 0} {v w : A} {r : Result A Refusal} → Asked fits v r → (fits' → fits) → (fits → fits') → v ≡ w → Asked fits' w r
alike a to from same = record { answered = λ f. a.answered (to f) ∙ ap Ok same; refused = λ none. a.refused (λ f. none (from f)) }

pub cycle_in : (m : Meaning) (n : ℕ) {c : ℕ} → CycleAsked m n (Ok c) → (n < 16) × (c ≡ m.cycle n)
cycle_in m n a = within (below_or_not n 16) a refl

module _ (m : Meaning) (delay : ℕ → ℕ) where
  -- stream i at its node's phase p stands below as `here` says
  pub record Stands (i p : ℕ) (here : Shift) : Type 0 where
    pub known : i < m.streams
    pub inside : p < m.cycle (m.node i)
    pub phase_is : here.phase ≡ earlier m delay (m.node i) p
    pub delay_is : here.delay ≡ delay (m.node i)
    pub inside_below : here.phase < m.cycle (m.node i)
    pub small : here.delay ≤ (delayed m delay).reach

  module _ (limits : Limits m) where
    pub stream_shift_answer : (i p n : ℕ) {r : Result Shift Refusal} → StreamAsked m m.node i (Ok n) → ShiftAsked m delay n p r → StreamShiftAsked m delay i p r
    stream_shift_answer i p n a asked =
        let k = within (below_or_not i m.streams) a refl in
        let is : n ≡ m.node i = k.1 in
        let node = limits.node_below i k.0 in
        alike asked
        (λ f. (omega arith, subst (λ x. p < m.cycle x) (sym is) f.1))
        (λ f. (k.0, subst (λ x. p < m.cycle x) is f.1))
        (ap (λ x. shifted m delay x p) is)

    pub stands : (i p : ℕ) {here : Shift} → StreamShiftAsked m delay i p (Ok here) → Stands i p here
    stands i p {here} a =
        let k = within (both_or_not (below_or_not i m.streams) (below_or_not p (m.cycle (m.node i)))) a refl in
        let phase_is : here.phase ≡ earlier m delay (m.node i) p = ap (λ (s : Shift). s.phase) k.1 in
        let delay_is : here.delay ≡ delay (m.node i) = ap (λ (s : Shift). s.delay) k.1 in
        let node = limits.node_below i k.0.0 in
        let below = earlier_below m limits delay (m.node i) p node in
        let most = largest_has 16 delay (m.node i) node in
        record { known = k.0.0; inside = k.0.1; phase_is = phase_is; delay_is = delay_is; inside_below = omega arith; small = omega arith }

  module _ (i p : ℕ) (here : Shift) (s : Stands i p here) where
    -- of a place that is known but for the instance
    place_in : (q : ℕ) {x : ℤ} → PlaceAsked m i here.phase q (Ok x) → (1 ≤ q) × (q ≤ 4194306) × (x ≡ m.place i here.phase q)
    place_in q a =
        let k = within (both_or_not (below_or_not 0 q) (below_or_not q 4194307)) (alike a (λ f. (s.known, s.inside_below, omega (arith, f.0), omega (arith, f.1))) (λ f. (f.2, omega (arith, f.3))) refl) refl in
        (k.0.0, omega (arith, k.0.1), k.1)

    pub place_answer : (q : ℕ) {x y : ℤ} → y ≡ x -ℤ pos here.delay → PlaceAsked m i here.phase q (Ok x) → PlaceAsked (delayed m delay) i p q (Ok y)
    place_answer q {x} {y} less a =
        let k = place_in q a in
        answer (s.known, s.inside, k.0, k.1)
        (less ∙ ap (λ z. z -ℤ pos here.delay) k.2 ∙ ap (λ z. m.place i z q -ℤ pos here.delay) s.phase_is
        ∙ ap (λ z. m.place i (earlier m delay (m.node i) p) q -ℤ pos z) s.delay_is)

    module _ (limits : Limits m) (laws : Laws m) where
      pub place_bounds : (q : ℕ) {x : ℤ} → PlaceAsked m i here.phase q (Ok x) → (neg_ℤ (pos 16777216) ≤ℤ x) × (x <ℤ pos (2 ^ 62))
      place_bounds q {x} a =
          let k = place_in q a in
          let is = k.2 in
          let high = limits.place_fits i here.phase q s.known s.inside_below k.0 k.1 in
          let low = far m laws i here.phase s.known s.inside_below q k.0 in
          let reach = limits.reach_fits in
          (omega (arith, ints), omega (arith, ints))

      pub count_answer : (w : ℕ) {r : Result ℕ Refusal} → w + (delayed m delay).reach ≤ 20971520 → CountAsked m i here.phase (w + here.delay) r → CountAsked (delayed m delay) i p w r
      count_answer w fits asked =
          let is = s.delay_is in
          let most = largest_has 16 delay (m.node i) (limits.node_below i s.known) in
          alike asked (λ _. (s.known, s.inside_below, omega arith)) (λ _. (s.known, s.inside, fits))
          (ap (λ x. count m i x (w + here.delay)) s.phase_is
          ∙ ap (λ x. count m i (earlier m delay (m.node i) p) (w + x)) is
          ∙ sym (delayed_count m limits delay laws i p w s.known))
