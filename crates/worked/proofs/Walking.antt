-- A walk over the turning phases of a node. Assumes nothing.
use Rattle.std.proofs.Common.{◌≡◌, ℕ, zero, suc, ◌+◌, ◌<◌, ◌≤◌, false, cond, Some, None, inl, inr, arith}
use Rattle.std.proofs.lemmas.Bool.{cases_Bool, cases_eq}
use Rattle.bus.specs.Meaning.{Meaning}
use Rattle.bus.specs.Asked.{FirstTurn}

module _ (m : Meaning) (n : ℕ) {A : Type 0} (join : A → ℕ → A) where
  -- over so many phases from p on, a is joined with each that turns
  abbrev pub walk : ℕ → ℕ → A → A
  walk zero p a = a
  walk (suc few) p a = walk few (p + 1) (cond (m.turns n p) (join a p) a)

  -- what each turning phase carries on is so at the cycle's end
  module _ (State : ℕ → A → Type 0) (on : (from turn : ℕ) (a : A) → State from a → FirstTurn m n from (Some turn) → State (turn + 1) (join a turn)) where
    pub walked : (few p from : ℕ) (a : A) → p + few ≡ m.cycle n → from ≤ p → ((k : ℕ) → from ≤ k → k < p → m.turns n k ≡ false) → State from a → (last : ℕ) × State last (walk few p a) × FirstTurn m n last None
    walked zero p from a end le quiet so = (from, so, λ k l h. quiet k l (omega arith))
    walked (suc few) p from a end le quiet so = elim (cases_Bool (m.turns n p)) [
      | inl turns ↦ rw turns (walked few (p + 1) (p + 1) (join a p) (omega arith) (omega arith) (λ k l h. absurd (omega arith)) (on from p a so (le, omega arith, turns, quiet)))
      | inr still ↦ rw still (walked few (p + 1) from a (omega arith) (omega arith) (λ k l h. elim (cases_eq k p) [ inl same ↦ rw same still | inr other ↦ quiet k l (omega arith) ]) so)
    ]
