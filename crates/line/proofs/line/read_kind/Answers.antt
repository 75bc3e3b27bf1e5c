use Rattle.line.specs.Grammar.{timed_form, kind_form, kind_rest}
use Rattle.line.proofs.Passing.{pass_on, stop_on, fault_gives, pass_gives}
use Rattle.line.proofs.line.read_kind.Goals as goal

pub returns-in_err-either : goal.returns-in_err-either
returns-in_err-either c = fault_gives kind_form _ _ _ c.from_residual.ensures.1 (λ K. c.in_err-either.ensures (kind_rest K))

pub returns-in-Timed : goal.returns-in-Timed
returns-in-Timed c = pass_gives timed_form _ c.read_timed.result (λ K. rw c.in-Timed.is at (c.in_ok-either.ensures (kind_rest K))) c.read_timed.ensures

pub returns-in_err-gap-in-Event : goal.returns-in_err-gap-in-Event
returns-in_err-gap-in-Event c =
    fault_gives kind_form _ _ _ c.from_residual-in_err-gap-in-Event.ensures.1
    (λ K. stop_on (rw c.in-Event.is at (c.in_ok-either.ensures (kind_rest K))) (c.in_err-gap-in-Event.ensures _))

pub returns-in_ok-gap-in-Event : goal.returns-in_ok-gap-in-Event
returns-in_ok-gap-in-Event c K = pass_on (rw c.in-Event.is at (c.in_ok-either.ensures (kind_rest K))) (c.in_ok-gap-in-Event.ensures _)
