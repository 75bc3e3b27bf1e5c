use Rattle.line.specs.Names.{name_text}
use Rattle.line.specs.Reader.{either}
use Rattle.line.proofs.Passing.{past_given, stop_on, pass_first, pass_second, fault_given, fault_choice, fault_gives}
use Rattle.line.proofs.reader.Reader.either.Goals as goal

pub returns-in_err-mark : goal.returns-in_err-mark
returns-in_err-mark g c = fault_gives (either (name_text c.args.first.0, c.args.first.1) (name_text c.args.second.0, c.args.second.1)) _ _ _ c.from_residual.ensures.1 (λ K. fault_given c.in_err-mark.ensures)

pub returns-in_default : goal.returns-in_default
returns-in_default g c K = pass_first K c.requires c.in_ok-mark.ensures c.in_default.ensures

pub returns-in_default-word : goal.returns-in_default-word
returns-in_default-word g c K = pass_second K c.requires c.in_ok-mark.ensures c.in_default-word.ensures

pub returns : goal.returns
returns g c = rw c.max.ensures (λ K. stop_on (past_given c.in_ok-mark.ensures) (fault_choice (fault_given c.in-Err.ensures) (fault_given c.in-Err-word.ensures)))
