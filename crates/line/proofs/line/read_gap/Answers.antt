use Rattle.line.specs.Grammar.{gap_form}
use Rattle.line.proofs.Passing.{past_given, pass_on, stop_on, fault_given, fault_gives}
use Rattle.line.proofs.line.read_gap.Goals as goal

pub returns-in_err-opening : goal.returns-in_err-opening
returns-in_err-opening c = fault_gives gap_form _ _ _ c.from_residual-in_err-opening.ensures.1 (λ K. stop_on (c.in_ok-gap.ensures _) (fault_given c.in_err-opening.ensures))

pub returns : goal.returns
returns c K = pass_on (c.in_ok-gap.ensures _) (past_given c.in_ok-opening.ensures)
