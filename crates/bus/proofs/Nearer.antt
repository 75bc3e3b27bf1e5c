-- Every phase has its places no nearer than the first turning phase from it on, or than phase 0. Assumes nothing.
use Rattle.std.proofs.Common.{◌≡◌, ℕ, zero, suc, ◌+◌, ◌-◌, ◌<◌, ◌≤◌, false, ◌≤ℤ◌, Some, None, mod-eq_of_lt, arith}
use native.Mathlib.Nat.{mod_self}
use lib.Signed.{≤ℤ_refl}
use Rattle.std.proofs.lemmas.Int.{ints}
use Rattle.bus.specs.Meaning.{Meaning, Laws, next_phase}
use Rattle.bus.specs.Asked.{FirstTurn}

-- each instance of node n is placed at the phase c no later than at p
abbrev pub Nearer : Meaning → ℕ → ℕ → ℕ → Type 0
Nearer m n p c = (k q : ℕ) → k < m.streams → m.node k ≡ n → 1 ≤ q → m.place k c q ≤ℤ m.place k p q

module _ (m : Meaning) where
  pub nearer_self : (n p : ℕ) → Nearer m n p p
  nearer_self n p = λ k q _ _ _. ≤ℤ_refl (m.place k p q)

  pub nearer_on : (n p c d : ℕ) → Nearer m n p c → Nearer m n c d → Nearer m n p d
  nearer_on n p c d pc cd = λ k q h e one. let x = pc k q h e one in let y = cd k q h e one in omega (arith, ints)

module _ (m : Meaning) (laws : Laws m) where
  nearer_next : (n p c : ℕ) → p < m.cycle n → m.turns n p ≡ false → next_phase (m.cycle n) p ≡ c → Nearer m n p c
  nearer_next n p c h turns is = λ k q k< e one.
      let h' : p < m.cycle (m.node k) = rw e h in
      let turns' : m.turns (m.node k) p ≡ false = rw e turns in
      let near = laws.closer k p q k< h' turns' one in
      rw (e, is) at near

  toward_turn : (n from t : ℕ) → FirstTurn m n from (Some t) → (d p : ℕ) → from ≤ p → p + d ≡ t → Nearer m n p t
  toward_turn n from t first zero p h e = let same : p ≡ t = omega arith in rw same (nearer_self m n t)
  toward_turn n from t first (suc d) p h e =
      let inside : p + 1 < m.cycle n = omega arith in
      nearer_on m n p (p + 1) t
      (nearer_next n p (p + 1) (omega arith) (first.3 p h (omega arith)) (mod-eq_of_lt inside))
      (toward_turn n from t first d (p + 1) (omega arith) (omega arith))

  toward_zero : (n from : ℕ) → FirstTurn m n from None → (d p : ℕ) → from ≤ p → p + suc d ≡ m.cycle n → Nearer m n p 0
  toward_zero n from first zero p h e =
      let end : p + 1 ≡ m.cycle n = omega arith in
      nearer_next n p 0 (omega arith) (first p h (omega arith)) (rw end (mod_self (m.cycle n)))
  toward_zero n from first (suc d) p h e =
      let inside : p + 1 < m.cycle n = omega arith in
      nearer_on m n p (p + 1) 0
      (nearer_next n p (p + 1) (omega arith) (first p h (omega arith)) (mod-eq_of_lt inside))
      (toward_zero n from first d (p + 1) (omega arith) (omega arith))

  -- the phases from `from` to the first turning one, t
  pub nearer_turn : (n from t p : ℕ) → FirstTurn m n from (Some t) → from ≤ p → p ≤ t → Nearer m n p t
  nearer_turn n from t p first h below = toward_turn n from t first (t - p) p h (omega arith)

  -- the phases from `from` to the cycle's end, where none turns
  pub nearer_zero : (n from p : ℕ) → FirstTurn m n from None → from ≤ p → p < m.cycle n → Nearer m n p 0
  nearer_zero n from p first h below = toward_zero n from first (m.cycle n - suc p) p h (omega arith)
