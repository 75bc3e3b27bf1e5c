use Rattle.plan.specs.declared.record.Kind.{Kind}
use Rattle.line.specs.Forms.{Form}
use Rattle.line.specs.Reader.{Past}
use Rattle.line.specs.Grammar.{timed_form, timed_rest}
use Rattle.line.proofs.Passing.{pass_on, stop_on, fault_gives}
use Rattle.line.proofs.line.read_timed.Goals as goal
use Rattle.line.proofs.line.read_timed.Goals.{In_ok-either}

-- past the word that tells what comes
past_word : (c : In_ok-either) (K : Kind → Form) → Past (timed_form K) c.args.reader.now c.either.new.self (timed_rest K c.in_ok-period.period c.in_ok-offset.offset c.in_ok-either.field-0)
past_word c K = pass_on (c.in_ok-period.ensures _) (pass_on (c.in_ok-offset.ensures _) (c.in_ok-either.ensures (timed_rest K c.in_ok-period.period c.in_ok-offset.offset)))

pub returns-in_err-offset : goal.returns-in_err-offset
returns-in_err-offset c = fault_gives timed_form _ _ _ c.from_residual-in_err-offset.ensures.1 (λ K. stop_on (c.in_ok-period.ensures _) (c.in_err-offset.ensures _))

pub returns-in_err-either : goal.returns-in_err-either
returns-in_err-either c =
    fault_gives timed_form _ _ _ c.from_residual-in_err-either.ensures.1
    (λ K. stop_on (c.in_ok-period.ensures _) (stop_on (c.in_ok-offset.ensures _) (c.in_err-either.ensures (timed_rest K c.in_ok-period.period c.in_ok-offset.offset))))

pub returns-in_err-gap-in-Gap : goal.returns-in_err-gap-in-Gap
returns-in_err-gap-in-Gap c =
    fault_gives timed_form _ _ _ c.from_residual-in_err-gap-in-Gap.ensures.1
    (λ K. stop_on (rw c.in-Gap.is at (past_word (goal.at.returns-in_err-gap-in-Gap c).In_ok-either K)) (c.in_err-gap-in-Gap.ensures _))

pub returns-in_ok-gap-in-Gap : goal.returns-in_ok-gap-in-Gap
returns-in_ok-gap-in-Gap c K = pass_on (rw c.in-Gap.is at (past_word (goal.at.returns-in_ok-gap-in-Gap c).In_ok-either K)) (c.in_ok-gap-in-Gap.ensures _)

pub returns-in-Jitter : goal.returns-in-Jitter
returns-in-Jitter c K = rw c.in-Jitter.is at (past_word (goal.at.returns-in-Jitter c).In_ok-either K)
