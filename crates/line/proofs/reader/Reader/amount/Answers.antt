use Rattle.line.specs.Reader.{amount}
use Rattle.line.proofs.Passing.{past_given, pass_on, stop_on, fault_given, fault_gives}
use Rattle.line.proofs.reader.Reader.amount.Goals as goal

pub returns-in_err-mark : goal.returns-in_err-mark
returns-in_err-mark c = fault_gives (amount c.args.after) _ _ _ c.from_residual-in_err-mark.ensures.1 (λ K. stop_on (c.in_ok-n.ensures _) (fault_given c.in_err-mark.ensures))

pub returns : goal.returns
returns c K = pass_on (c.in_ok-n.ensures _) (past_given c.in_ok-mark.ensures)
