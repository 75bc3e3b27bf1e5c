-- What an answer tells of its question. Assumes nothing.
use Rattle.std.proofs.Common.{◌≡◌, ℕ, ◌<◌, ◌⊎◌, Ok, Err, Result, ap, inl, inr, ⊎_elim, arith}
use Rattle.std.proofs.lemmas.Bool.{cases_lt}
use Rattle.bus.specs.declared.refusal.Refusal.{Refusal}
use Rattle.bus.specs.Asked.{Asked}

never : {A B : Type 0} (x : A) (e : B) {r : Result A B} → r ≡ Ok x → r ≡ Err e → ⊥
never x e p q = let z : ◌≡◌ {A = ℕ} 0 1 = cc in omega arith

-- a value says that the question was in range
pub within : {A : Type 0} {fits : Type 0} {v : A} {r : Result A Refusal} {x : A} → fits ⊎ (fits → ⊥) → Asked fits v r → r ≡ Ok x → fits × (x ≡ v)
within (inl f) a is = (f, (let q = a.answered f in cc))
within (inr out_of_lem) a is = absurd (never _ _ is (a.refused out_of_lem))

pub answer : {A : Type 0} {fits : Type 0} {v w : A} → fits → w ≡ v → Asked fits v (Ok w)
answer f same = record { answered = λ _. ap Ok same; refused = λ none. absurd (none f) }

pub below_or_not : (a b : ℕ) → (a < b) ⊎ (a < b → ⊥)
below_or_not a b = ⊎_elim inl (λ h. inr (λ l. omega arith)) (cases_lt a b)
