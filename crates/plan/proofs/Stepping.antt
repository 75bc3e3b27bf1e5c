-- What an open plan has done is a step of its book. Assumes nothing.
use Rattle.std.proofs.Common.{◌≡◌, ℕ, Bool, true, false, ◌||◌, eqb, List, [], ◌∷◌, ◌++◌, length, is_ok, Some, Ok, Err, Result, sym, refl, ap, ◌∙◌, inl, inr}
use Rattle.std.specs.List.{AllByRecursion}
use Rattle.std.proofs.lemmas.Bool.{cases_Bool, cond-true, cond-false, eqb-true, false≢true, not-false}
use Rattle.bus.specs.declared.refusal.Refusal.{Refusal}
use Rattle.bus.specs.Refused.{Rules, answer, Done}
use Rattle.bus.proofs.Refusing.{none_applies, answer_passed, answer_refused}
use Rattle.plan.specs.declared.record.Record.{Record}
use Rattle.plan.specs.Record.{limits}
use Rattle.plan.specs.Book.{Call, Enter, Alter, Strike, open_book, settled_before, settled_after, rules_of, GivesWay, Makes, tells, Step}
use Rattle.plan.specs.Open.{holds, giving_way, altered, struck, enter_rules, alter_rules, strike_rules}
use Rattle.plan.proofs.Judged.{of_altered}
use Rattle.plan.specs.Carried.{all_parts}

-- none of the rules applies to a call that is not refused
abbrev Allowed : Rules → Type 0
Allowed rules = AllByRecursion (λ rule. rule.0 ≡ false) rules

pub told : (rules : Rules) (n m : ℕ) → Ok n ≡ answer rules m → n ≡ m
told rules n m h = let passed = answer_passed rules m m (sym (ap is_ok h)) in cc

-- a call that comes while the book is open, and makes `new` of its records
stepped : (call : Call) (rs new left : List Record) (a : Result ℕ Refusal) → false ≡ settled_before call → false ≡ settled_after call → ((xs : List Record) → tells call xs ≡ Some (Ok (length xs)))
    → (Allowed (rules_of call rs) → Makes call rs new) → Done (rules_of call rs) rs new a left → Step (open_book rs) call (Some a) (open_book left)
stepped call rs new left (Ok n) may leaves counts makes done =
    let allowed = none_applies (rules_of call rs) (length new) (sym (ap is_ok done.answers)) in
    record {
      may = may;
      allowed = allowed;
      makes = rw done.leaves (makes allowed);
      tells = ap (λ k. Some (Ok k)) (told (rules_of call rs) n (length new) done.answers ∙ ap length (sym done.leaves)) ∙ sym (counts left);
      leaves = leaves;
    }
stepped call rs new left (Err e) may leaves counts makes done =
    record { may = may; refused = answer_refused (rules_of call rs) (length new) (tt {0}) e (sym done.answers); same = ap open_book done.leaves }

-- the record that is held gives way
gives_way : (identifier : ℕ) (others rs : List Record) → holds identifier rs ≡ true → GivesWay identifier others rs (giving_way identifier others rs)
gives_way identifier others [] found = absurd (false≢true found)
gives_way identifier others (r ∷ rs) found = elim (cases_Bool (eqb r.identifier identifier)) [
  | inl here ↦ record { front = []; gone = r; back = rs; was = refl; named = eqb-true _ _ here; is = cond-true (eqb r.identifier identifier) _ _ here }
  | inr past ↦
      let rest = gives_way identifier others rs (sym (ap (λ b. b || holds identifier rs) past) ∙ found) in
      record { front = r ∷ rest.front; gone = rest.gone; back = rest.back; was = ap (λ xs. r ∷ xs) rest.was; named = rest.named; is = cond-false (eqb r.identifier identifier) _ _ past ∙ ap (λ xs. r ∷ xs) rest.is }
]

alter_gives_way : (r : Record) (rs : List Record) → Allowed (alter_rules r rs) → GivesWay r.identifier (r ∷ []) rs (altered r rs)
unfolding alter_rules
alter_gives_way r rs allowed = gives_way r.identifier (r ∷ []) rs (not-false _ (all_parts (λ (rule : Bool × Refusal). rule.0 ≡ false) (limits r) (of_altered rs r) allowed).1.0)

strike_gives_way : (identifier : ℕ) (rs : List Record) → Allowed (strike_rules identifier rs) → GivesWay identifier [] rs (struck identifier rs)
unfolding strike_rules
strike_gives_way identifier rs allowed = gives_way identifier [] rs (not-false _ allowed.0)

module _ (rs left : List Record) (a : Result ℕ Refusal) where
  pub enter_steps : (r : Record) → Done (enter_rules r rs) rs (rs ++ r ∷ []) a left → Step (open_book rs) (Enter r) (Some a) (open_book left)
  enter_steps r done = stepped (Enter r) rs (rs ++ r ∷ []) left a refl refl (λ _. refl) (λ _. refl) done

  pub alter_steps : (r : Record) → Done (alter_rules r rs) rs (altered r rs) a left → Step (open_book rs) (Alter r) (Some a) (open_book left)
  alter_steps r done = stepped (Alter r) rs (altered r rs) left a refl refl (λ _. refl) (alter_gives_way r rs) done

  pub strike_steps : (identifier : ℕ) → Done (strike_rules identifier rs) rs (struck identifier rs) a left → Step (open_book rs) (Strike identifier) (Some a) (open_book left)
  strike_steps identifier done = stepped (Strike identifier) rs (struck identifier rs) left a refl refl (λ _. refl) (strike_gives_way identifier rs) done
