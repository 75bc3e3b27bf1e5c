use Rattle.std.proofs.Common.{sym, ap, ◌∙◌, subst}
use Rattle.plan.specs.Messages.{records_of}
use Rattle.plan.specs.Open.{too_long}
use Rattle.plan.specs.Schedule.{Works}
use Rattle.plan.specs.Kept.{none_long}
use Rattle.plan.proofs.open.OpenPlan.new.Goals as goal

pub invariant_of-result-clause-short : goal.invariant_of-result-clause-short
invariant_of-result-clause-short c = ap (λ ms. too_long (records_of ms)) c.in_ok-messages.ensures.items ∙ none_long

pub invariant_of-result-clause-works : goal.invariant_of-result-clause-works
invariant_of-result-clause-works c = subst (λ ms. Works (records_of ms) c.in_ok-schedule.schedule) (sym c.in_ok-messages.ensures.items) c.in_ok-schedule.ensures
