-- What is computed is the bound. Assumes nothing.
use Rattle.std.proofs.Common.{◌≡◌, ℕ, zero, suc, ◌+◌, ◌-◌, ◌*◌, ◌<◌, ◌≤◌, max, Bool, true, false, cond, not, eqb, leb, ◌⊎◌, ℤ, pos, ◌<ℤ◌, Some, None, Option, refl, ap, ◌∙◌, subst, inl, inr, arith}
use lib.Signed.{le_z}
use Rattle.std.proofs.lemmas.Int.{ints}
use Rattle.std.proofs.lemmas.Bool.{leb-true}
use Rattle.bus.specs.Sums.{only}
use Rattle.bus.specs.Meaning.{Meaning, Limits, Laws}
use Rattle.bus.specs.Asked.{FirstTurn}
use Rattle.bus.specs.Bound.{horizon, blocking, demand, heaviest, own, need, SettlingWindow, IsBound}
use Rattle.bus.specs.Search.{SettledPhase}
use Rattle.bus.proofs.Adding.{sum_same}
use Rattle.bus.proofs.Nearer.{Nearer}
use Rattle.bus.proofs.Demands.{demand_more, others_all}
use Rattle.bus.proofs.Moments.{leZ_true}
use Rattle.bus.proofs.Climb.{Climbed, climb_start, climb_on, climb_end}
use Rattle.bus.proofs.Windows.{starts_on}
use Rattle.bus.proofs.Listing.{Listing, wait_is, listing_start, listing_on, listing_end}
use Rattle.bus.proofs.Bounding.{Bounding, bounding_start, bounding_on, bounding_end}
use Rattle.worked.proofs.Walking.{walked}
use Rattle.worked.proofs.Computing.{larger, peak, asks, wait, worst, worst_at, computed}

-- which way a test went
ways : {A : Type 0} (b : Bool) (x y v : A) → cond b x y ≡ v → ((b ≡ true) × (x ≡ v)) ⊎ ((b ≡ false) × (y ≡ v))
ways true x y v e = inl (refl, e)
ways false x y v e = inr (refl, e)

none_some : (b : ℕ) → ◌≡◌ {A = Option ℕ} None (Some b) → ⊥
none_some b e = let z : ◌≡◌ {A = ℕ} 0 1 = cc in omega arith

too_late : (a : ℤ) (w : ℕ) → le_z a (pos w) ≡ false → pos w <ℤ a
too_late a w h = grind (arith, ints)

module _ (m : Meaning) (limits : Limits m) (laws : Laws m) where
  peak_is : (i n w : ℕ) → n < 16 → peak m i n w ≡ heaviest m i n w
  peak_is i n w h =
      let f : ℕ → ℕ = λ p. demand m i n p w in
      let rises : (p c : ℕ) → Nearer m n p c → f p ≤ f c = λ p c near. demand_more m i n p c w w near (omega arith) in
      let some = limits.some_phase n h in
      let end = walked m n (λ most p. max most (f p)) (Climbed m n f) (λ from turn most so first. climb_on m limits laws n f rises from most turn so first) (m.cycle n - 1) 1 1 (f 0) (omega arith) (omega arith) (λ k l below. absurd (omega arith)) (climb_start m limits laws n f rises h) in
      climb_end m limits laws n f rises end.0 (peak m i n w) end.1 end.2

  asks_is : (i p q w : ℕ) → asks m i p q w ≡ need m i p q w
  asks_is i p q w =
      ap (λ x. blocking m i + x + own m i p w + (q - 1) * m.longest i)
      (sum_same 16 (λ n. only (not (eqb n (m.node i))) (peak m i n w)) (λ n. only (not (eqb n (m.node i))) (heaviest m i n w)) (λ n h. ap (only (not (eqb n (m.node i)))) (peak_is i n w h)) ∙ others_all m i w 16 refl)

  module _ (i : ℕ) (known : i < m.streams) where
    module _ (p : ℕ) (is_phase : p < m.cycle (m.node i)) where
      -- a window that is asked for is no longer than the settling one
      longer : (q most w n : ℕ) → Listing m i p q most w → n ≡ need m i p q w → n ≤ horizon → Listing m i p q most n
      longer q most w n so is fits = record {
        counts = so.counts;
        few = so.few;
        within = fits;
        starts = λ v settles. omega (arith, starts_on m i p q w so.starts v settles);
        reached = so.reached;
        largest = so.largest;
        attained = so.attained;
      }

      worst_from : (turns q w most b : ℕ) → Listing m i p q most w → worst m i turns p q w most ≡ Some b → SettledPhase m i p b
      worst_from zero q w most b so e = absurd (none_some b e)
      worst_from (suc turns) q w most b so e = elim (ways (leb (asks m i p q w) w) _ _ (Some b) e) [
        | inl settled ↦
            let settling : SettlingWindow m i p q w = record { settles = omega (arith, leb-true (asks m i p q w) w settled.0, asks_is i p q w); within = so.within; least = so.starts } in
            elim (ways (le_z (m.place i p q) (pos w)) _ _ (Some b) settled.1) [
              | inl taken ↦
                  let here = leZ_true (m.place i p q) (pos w) taken.0 in
                  worst_from turns (q + 1) w (max most (wait m i p q w)) b (listing_on m limits i p known is_phase q most w w (wait m i p q w) so settling here (wait_is w (m.longest i) (m.place i p q) here)) taken.1
              | inr past ↦
                  let same : most ≡ b = let is = past.1 in cc in
                  subst (SettledPhase m i p) same (listing_end m limits i p known is_phase q most w w so settling (too_late (m.place i p q) w past.0))
            ]
        | inr short ↦ elim (ways (leb (asks m i p q w) horizon) _ _ (Some b) short.1) [
          | inl fits ↦ worst_from turns q (asks m i p q w) most b (longer q most w (asks m i p q w) so (asks_is i p q w) (leb-true _ _ fits.0)) fits.1
          | inr far ↦ absurd (none_some b far.1)
        ]
      ]

      worst_is : (b : ℕ) → worst_at m i p ≡ Some b → SettledPhase m i p b
      worst_is b e = worst_from 100 1 (blocking m i) 0 b (listing_start m limits i p known is_phase) e

    -- what is known on the way, by what phase 0 has
    abbrev State : Option ℕ → ℕ → Option ℕ → Type 0
    State (Some first) from (Some most) = Bounding m i first from most
    State (Some first) from None = Unit {0}
    State None from (Some most) = ⊥
    State None from None = Unit {0}

    on : (at-0 : Option ℕ) (from turn : ℕ) (most here : Option ℕ) → worst_at m i turn ≡ here → State at-0 from most → FirstTurn m (m.node i) from (Some turn) → State at-0 (turn + 1) (larger most here)
    on (Some first) from turn (Some most) (Some b) e so turns = bounding_on m limits laws i known first from most turn b so turns (worst_is turn turns.1 b e)
    on (Some first) from turn (Some most) None e so turns = tt
    on (Some first) from turn None here e so turns = tt
    on None from turn (Some most) here e so turns = absurd so
    on None from turn None here e so turns = tt

    start : 1 ≤ m.cycle (m.node i) → (at-0 : Option ℕ) → worst_at m i 0 ≡ at-0 → State at-0 1 at-0
    start some (Some first) e = bounding_start m limits laws i known first (worst_is 0 some first e)
    start some None e = tt

    end : (at-0 : Option ℕ) (from b : ℕ) → State at-0 from (Some b) → FirstTurn m (m.node i) from None → IsBound m i b
    end (Some first) from b so none = bounding_end m limits laws i known first from b so none
    end None from b so none = absurd so

    pub computed_is : (b : ℕ) → computed m i ≡ Some b → IsBound m i b
    computed_is b e =
        let n = m.node i in
        let some = limits.some_phase n (limits.node_below i known) in
        let at-0 = worst_at m i 0 in
        let last = walked m n (λ most p. larger most (worst_at m i p)) (State at-0) (λ from turn most so first. on at-0 from turn most (worst_at m i turn) refl so first) (m.cycle n - 1) 1 1 at-0 (omega arith) (omega arith) (λ k l below. absurd (omega arith)) (start some at-0 refl) in
        end at-0 last.0 b (subst (State at-0 last.0) e last.1) last.2
