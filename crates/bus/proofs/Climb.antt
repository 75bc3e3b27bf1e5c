-- What grows toward nearer phases is largest at phase 0 or at a turning phase. Assumes nothing.
use Rattle.std.proofs.Common.{◌≡◌, ℕ, ◌+◌, ◌<◌, ◌≤◌, max, Some, None, refl, inl, inr, arith}
use Rattle.std.proofs.lemmas.Bool.{cases_lt}
use Rattle.bus.specs.Sums.{largest_below}
use Rattle.bus.specs.Meaning.{Meaning, Limits, Laws}
use Rattle.bus.specs.Asked.{FirstTurn}
use Rattle.bus.proofs.Adding.{largest_is}
use Rattle.bus.proofs.Nearer.{Nearer, nearer_turn, nearer_zero}

-- `most` is the largest of f over the phases below `from`, phase 0 among them
pub record Climbed (m : Meaning) (n : ℕ) (f : ℕ → ℕ) (from most : ℕ) : Type 0 where
  pub within : from ≤ m.cycle n
  pub begun : 1 ≤ from
  pub below : (p : ℕ) → p < from → f p ≤ most
  pub at : ℕ
  pub is_phase : at < m.cycle n
  pub reached : most ≡ f at

module _ (m : Meaning) (limits : Limits m) (laws : Laws m) (n : ℕ) (f : ℕ → ℕ) (rises : (p c : ℕ) → Nearer m n p c → f p ≤ f c) where
  pub climb_start : n < 16 → Climbed m n f 1 (f 0)
  climb_start h = record {
    within = limits.some_phase n h;
    begun = omega arith;
    below = λ p l. let same : p ≡ 0 = omega arith in rw same (omega arith);
    at = 0;
    is_phase = omega (arith, limits.some_phase n h);
    reached = refl;
  }

  pub climb_on : (from most turn : ℕ) → Climbed m n f from most → FirstTurn m n from (Some turn) → Climbed m n f (turn + 1) (max most (f turn))
  climb_on from most turn so turns =
      let passed : (p : ℕ) → p < turn + 1 → f p ≤ max most (f turn) =
      λ p l. elim (cases_lt p from) [
        | inl below ↦ omega (arith, so.below p below)
        | inr above ↦ omega (arith, rises p turn (nearer_turn m laws n from turn p turns above (omega arith)))
      ] in
      elim (cases_lt most (f turn)) [
        | inl less ↦ record { within = omega arith; begun = omega arith; below = passed; at = turn; is_phase = omega arith; reached = omega arith }
        | inr more ↦ record { within = omega arith; begun = omega arith; below = passed; at = so.at; is_phase = so.is_phase; reached = omega (arith, so.reached) }
      ]

  pub climb_end : (from most : ℕ) → Climbed m n f from most → FirstTurn m n from None → most ≡ largest_below (m.cycle n) f
  climb_end from most so none =
      let all : (p : ℕ) → p < m.cycle n → f p ≤ most =
      λ p l. elim (cases_lt p from) [
        | inl below ↦ so.below p below
        | inr above ↦ omega (arith, so.below 0 so.begun, rises p 0 (nearer_zero m laws n from p none above l))
      ] in
      largest_is (m.cycle n) f most so.at all so.is_phase so.reached
