-- Searches among the numbers below a limit. Assumes nothing.
use Rattle.std.proofs.Common.{◌≡◌, ℕ, zero, suc, ◌<◌, ◌≤◌, Bool, true, ◌⊎◌, ℤ, ◌≤ℤ◌, ◌<ℤ◌, ap, subst, inl, inr, arith}
use Rattle.std.proofs.lemmas.Int.{ints}
use Rattle.std.proofs.lemmas.Bool.{cases_lt, cases_eq, cases_Bool, both_ways}
use Rattle.bus.proofs.Moments.{cases_ltZ}

-- it holds or it does not
abbrev pub Decided : Type 0 → Type 0
Decided P = P ⊎ (P → ⊥)

pub is_or_not : (b : Bool) → Decided (b ≡ true)
is_or_not b = elim (cases_Bool b) [ inl holds ↦ inl holds | inr fails ↦ inr (both_ways b fails) ]

pub at_most_or_not : (a b : ℕ) → Decided (a ≤ b)
at_most_or_not a b = elim (cases_lt b a) [ inl above ↦ inr (λ h. omega arith) | inr below ↦ inl below ]

pub before_or_not : (a b : ℤ) → Decided (a <ℤ b)
before_or_not a b = elim (cases_ltZ a b) [ inl before ↦ inl before | inr after ↦ inr (λ h. omega (arith, ints)) ]

pub both_or_not : {A B : Type 0} → Decided A → Decided B → Decided (A × B)
both_or_not (inl a) (inl b) = inl (a, b)
both_or_not (inl a) (inr fails) = inr (λ p. fails p.1)
both_or_not (inr fails) (inl b) = inr (λ p. fails p.0)
both_or_not (inr fails) (inr _) = inr (λ p. fails p.0)

module _ (P : ℕ → Type 0) (decide : (k : ℕ) → Decided (P k)) where
  -- the least of P
  pub least_below : (n : ℕ) → ((k : ℕ) × (k < n) × P k × ((l : ℕ) → l < k → P l → ⊥)) ⊎ ((k : ℕ) → k < n → P k → ⊥)
  least_below zero = inr (λ k l. absurd (omega arith))
  least_below (suc n) = elim (least_below n) [
    | inl f ↦ inl (f.0, omega arith, f.2, f.3)
    | inr none ↦ elim (decide n) [
      | inl holds ↦ inl (n, omega arith, holds, none)
      | inr fails ↦ inr (λ k l pk. elim (cases_eq k n) [ inl same ↦ fails (subst P same pk) | inr other ↦ none k (omega arith) pk ])
    ]
  ]

  -- the last of P in the order of keys
  pub last_below : (key : ℕ → ℤ) (n : ℕ) → ((y : ℕ) × (y < n) × P y × ((x : ℕ) → x < n → P x → key x ≤ℤ key y)) ⊎ ((k : ℕ) → k < n → P k → ⊥)
  last_below key zero = inr (λ k l. absurd (omega arith))
  last_below key (suc n) =
      let here : (x : ℕ) → x ≡ n → key x ≤ℤ key n = λ x same. let e = ap key same in omega (arith, ints) in
      elim (last_below key n) [
        | inl f ↦ elim (decide n) [
          | inl holds ↦ elim (cases_ltZ (key f.0) (key n)) [
            | inl less ↦ inl (n, omega arith, holds, λ x l px. elim (cases_eq x n) [ inl same ↦ here x same | inr other ↦ let o = f.3 x (omega arith) px in omega (arith, ints) ])
            | inr more ↦ inl (f.0, omega arith, f.2, λ x l px. elim (cases_eq x n) [ inl same ↦ let o = here x same in omega (arith, ints) | inr other ↦ f.3 x (omega arith) px ])
          ]
          | inr fails ↦ inl (f.0, omega arith, f.2, λ x l px. elim (cases_eq x n) [ inl same ↦ absurd (fails (subst P same px)) | inr other ↦ f.3 x (omega arith) px ])
        ]
        | inr none ↦ elim (decide n) [
          | inl holds ↦ inl (n, omega arith, holds, λ x l px. elim (cases_eq x n) [ inl same ↦ here x same | inr other ↦ absurd (none x (omega arith) px) ])
          | inr fails ↦ inr (λ k l pk. elim (cases_eq k n) [ inl same ↦ fails (subst P same pk) | inr other ↦ none k (omega arith) pk ])
        ]
      ]
