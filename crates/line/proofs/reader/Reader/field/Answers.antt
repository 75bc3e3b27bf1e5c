use Rattle.line.specs.Names.{name_text}
use Rattle.line.specs.Reader.{amount, field}
use Rattle.line.proofs.Passing.{past_given, fault_given, fault_gives, pass_gives}
use Rattle.line.proofs.reader.Reader.field.Goals as goal

pub returns-in_err-opening : goal.returns-in_err-opening
returns-in_err-opening c = fault_gives (field (name_text c.args.name) c.args.after) _ _ _ c.from_residual.ensures.1 (λ K. fault_given c.in_err-opening.ensures)

pub returns : goal.returns
returns c = pass_gives (amount c.args.after) _ c.amount.result (λ K. past_given c.in_ok-opening.ensures) c.amount.ensures
