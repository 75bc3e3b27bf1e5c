use Rattle.std.proofs.Common.{◌≡◌, ℕ, true, List, [], ◌∷◌, ◌++◌, length, is_ok, Ok, Err, Result, sym, refl, ap, ◌∙◌, subst, rules}
use Rattle.std.proofs.lemmas.Bool.{false≢true}
use Rattle.bus.specs.declared.refusal.Refusal.{Refusal}
use Rattle.bus.specs.Refused.{after}
use Rattle.bus.proofs.Refusing.{answer_passed}
use Rattle.plan.specs.declared.record.Record.{Record}
use Rattle.plan.specs.Held.{held}
use Rattle.plan.specs.Open.{enter_rules}
use Rattle.line.specs.Line.{Read}
use Rattle.table.proofs.table.enter_line.Goals as goal

-- what is not refused is made
after_taken : (r : Result ℕ Refusal) (old made : List Record) → is_ok r ≡ true → after r old made ≡ made
after_taken (Ok n) old made h = refl
after_taken (Err e) old made h = absurd (false≢true h)

pub returns : goal.returns
returns c =
    let old = held c.args.plan.now in
    let message = c.in_ok-message.message in
    let done = c.enter.ensures.entered in
    let read : c.read_line.result ≡ Ok (message, c.in_ok-message.next) = search rules in
    let accepted : is_ok c.enter.result ≡ true = search rules in
    record {
      message = message;
      reads = subst (Read c.args.rest.now) read c.read_line.ensures;
      takes = answer_passed (enter_rules message old) (length (old ++ message ∷ [])) tt (sym (ap is_ok done.answers) ∙ accepted);
      is = done.leaves ∙ after_taken c.enter.result old (old ++ message ∷ []) accepted;
    }
