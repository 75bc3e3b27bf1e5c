-- What an answer tells of the rules of its call. Assumes nothing.
use Rattle.std.proofs.Common.{◌≡◌, Bool, true, false, cond, [], ◌∷◌, ◌++◌, is_ok, Ok, Err, Result, sym, refl, ap}
use Rattle.std.specs.List.{AllByRecursion}
use Rattle.std.proofs.lemmas.Bool.{false≢true}
use Rattle.bus.specs.declared.refusal.Refusal.{Refusal}
use Rattle.bus.specs.Refused.{Rules, answer}

-- a rule that does not apply is passed
pub rule_passed : {A : Type 0} (b : Bool) (e : Refusal) (rest : Result A Refusal) → is_ok (cond b (Err e) rest) ≡ true → (b ≡ false) × (is_ok rest ≡ true)
rule_passed true e rest h = absurd (false≢true h)
rule_passed false e rest h = (refl, h)

-- a call that is not refused meets no rule
pub none_applies : {A : Type 0} (rules : Rules) (v : A) → is_ok (answer rules v) ≡ true → AllByRecursion (λ rule. rule.0 ≡ false) rules
none_applies [] v passed = tt
none_applies (rule ∷ rules) v passed =
    let p = rule_passed rule.0 rule.1 (answer rules v) passed in
    (p.0, none_applies rules v p.1)

-- where all rules are passed the answer is the value
pub answer_passed : {A B : Type 0} (rules : Rules) (v : A) (w : B) → is_ok (answer rules v) ≡ true → answer rules w ≡ Ok w
answer_passed [] v w h = refl
answer_passed (rule ∷ rules) v w h =
    let p = rule_passed rule.0 rule.1 (answer rules v) h in
    rw p.0 (answer_passed rules v w p.1)

-- one that applies stays the answer
rule_stays : {A B : Type 0} (b : Bool) (d e : Refusal) (rest : Result A Refusal) (more : Result B Refusal) → cond b (Err d) rest ≡ Err e → (rest ≡ Err e → more ≡ Err e) → cond b (Err d) more ≡ Err e
rule_stays true d e rest more h on = cc
rule_stays false d e rest more h on = on h

-- a refusal does not depend on the value
pub answer_refused : {A B : Type 0} (rules : Rules) (v : A) (w : B) (e : Refusal) → answer rules v ≡ Err e → answer rules w ≡ Err e
answer_refused [] v w e h = absurd (false≢true (sym (ap is_ok h)))
answer_refused (rule ∷ rules) v w e h = rule_stays rule.0 rule.1 e (answer rules v) (answer rules w) h (answer_refused rules v w e)

-- the rules of two parts: the second is asked where the first passes
pub answer_past : {A : Type 0} (xs ys : Rules) (v : A) → is_ok (answer xs (tt {0})) ≡ true → answer (xs ++ ys) v ≡ answer ys v
answer_past [] ys v h = refl
answer_past (x ∷ xs) ys v h =
    let p = rule_passed x.0 x.1 (answer xs (tt {0})) h in
    rw p.0 (answer_past xs ys v p.1)

pub answer_stays : {A : Type 0} (xs ys : Rules) (v : A) (e : Refusal) → answer xs (tt {0}) ≡ Err e → answer (xs ++ ys) v ≡ Err e
answer_stays [] ys v e h = absurd (false≢true (sym (ap is_ok h)))
answer_stays (x ∷ xs) ys v e h = rule_stays x.0 x.1 e (answer xs (tt {0})) (answer (xs ++ ys) v) h (answer_stays xs ys v e)

-- and both were passed where all are
pub answer_parts : {A : Type 0} (xs ys : Rules) (v : A) → is_ok (answer (xs ++ ys) v) ≡ true → (is_ok (answer xs (tt {0})) ≡ true) × (is_ok (answer ys v) ≡ true)
answer_parts [] ys v h = (refl, h)
answer_parts (x ∷ xs) ys v h =
    let p = rule_passed x.0 x.1 (answer (xs ++ ys) v) h in
    let q = answer_parts xs ys v p.1 in
    (rw p.0 q.0, q.1)
