-- The order of moments, and the last moment of a kind before another. Assumes nothing.
use Rattle.std.proofs.Common.{◌≡◌, ℕ, zero, suc, ◌+◌, ◌-◌, ◌<◌, true, ◌⊎◌, ℤ, pos, ◌+ℤ◌, ◌-ℤ◌, ◌≤ℤ◌, ◌<ℤ◌, ap, subst, inl, inr, arith}
use borrow.Author.Differences.{up, down}
use lib.Signed.{lt_z, le_z}
use Rattle.std.proofs.lemmas.Int.{ints, by_lt_z}
use Rattle.std.proofs.lemmas.Bool.{cases_eq}

pub cases_ltZ : (a b : ℤ) → (a <ℤ b) ⊎ (b ≤ℤ a)
cases_ltZ a b = by_lt_z a b inl inr

pub lt_ltZ : (a b : ℤ) → a <ℤ b → lt_z a b ≡ true
lt_ltZ a b h = grind (arith, ints)

pub ltZ_true : (a b : ℤ) → lt_z a b ≡ true → a <ℤ b
ltZ_true a b e = omega (arith, ints)

pub leZ_true : (a b : ℤ) → le_z a b ≡ true → a ≤ℤ b
leZ_true a b e = omega (arith, ints)

-- how far b is after a
pub after : (a b : ℤ) → a ≤ℤ b → (n : ℕ) × (b ≡ a +ℤ pos n)
after a b h = (up b + down a - (down b + up a), omega (arith, ints))

-- a moment that is not after any of some
earliest : (n : ℕ) (at : ℕ → ℤ) → (low : ℤ) × ((k : ℕ) → k < n → low ≤ℤ at k)
earliest zero at = (pos 0, λ k l. absurd (omega arith))
earliest (suc n) at =
    let before = earliest n at in
    elim (cases_ltZ before.0 (at n)) [
      | inl less ↦ (before.0, λ k l. elim (cases_eq k n) [ inl same ↦ let e = ap at same in omega (arith, ints) | inr other ↦ before.1 k (omega arith) ])
      | inr more ↦ (at n, λ k l. elim (cases_eq k n) [ inl same ↦ let e = ap at same in omega (arith, ints) | inr other ↦ let o = before.1 k (omega arith) in omega (arith, ints) ])
    ]

module _ (P Q : ℤ → Type 0) (either : (t : ℤ) → P t ⊎ Q t) where
  -- from t down, over n moments at most, to one of P; those passed over are of Q
  descend : (n : ℕ) (t : ℤ) → ((u : ℤ) → (u +ℤ pos n) ≤ℤ t → P u) → (s : ℤ) × (s ≤ℤ t) × P s × ((u : ℤ) → s <ℤ u → u ≤ℤ t → Q u)
  descend zero t low = (t, omega (arith, ints), low t (omega (arith, ints)), λ u a b. absurd (omega (arith, ints)))
  descend (suc n) t low = elim (either t) [
    | inl p ↦ (t, omega (arith, ints), p, λ u a b. absurd (omega (arith, ints)))
    | inr q ↦
        let below = descend n (t -ℤ pos 1) (λ u h. low u (omega (arith, ints))) in
        let o = below.1 in
        (below.0, omega (arith, ints), below.2, λ u a b. elim (cases_ltZ u t) [ inl c ↦ below.3 u a (omega (arith, ints)) | inr c ↦ let e : t ≡ u = omega (arith, ints) in subst Q e q ])
  ]

  -- the last moment of P that is not after t, where P holds of what is before all of some moments
  pub last_moment : (n : ℕ) (at : ℕ → ℤ) (t : ℤ) → ((u : ℤ) → ((k : ℕ) → k < n → u ≤ℤ at k) → P u) → (s : ℤ) × (s ≤ℤ t) × P s × ((u : ℤ) → s <ℤ u → u ≤ℤ t → Q u)
  last_moment n at t early =
      let low = earliest n at in
      descend (up t + down low.0) t (λ u h. early u (λ k l. let o = low.1 k l in omega (arith, ints)))
