use Rattle.std.proofs.Common.{subst}
use Rattle.line.specs.Tokens.{TokenStands, NumberStands}
use Rattle.line.specs.Forms.{number}
use Rattle.line.proofs.Marks.{not_digit}
use Rattle.line.proofs.Numbers.{no_number, pass_number, fault_number}
use Rattle.line.proofs.Passing.{fault_gives}
use Rattle.line.proofs.reader.Reader.number.Goals as goal
use Rattle.line.proofs.reader.Reader.number.Goals.{In-Number}

found : (c : In-Number) → NumberStands c.args.self.now.text.now c.args.self.now.at c.in-Number.digits.now
found c = subst (TokenStands c.args.self.now.text.now c.args.self.now.at) c.in-Number.is c.in_ok-placed.ensures.2

pub returns-in_err-placed : goal.returns-in_err-placed
returns-in_err-placed c =
    let none = c.in_err-placed.ensures in
    fault_gives (number c.args.after) _ _ _ c.from_residual.ensures.1 (rw none.0 (λ K. no_number none.1.digit))

pub returns-in_default : goal.returns-in_default
returns-in_default c =
    let other = c.in_ok-placed.ensures in
    rw other.0 (λ K. no_number (not_digit c.args.self.now.text.now c.args.self.now.at _ other.2 c.in_default.not-Number))

pub returns-in_err-mark : goal.returns-in_err-mark
returns-in_err-mark c = fault_gives (number c.args.after) _ _ _ c.from_residual-in_err-mark.ensures.1 (λ K. fault_number (found (goal.at.returns-in_err-mark c).In-Number) c.in_err-mark.ensures)

pub value_of-requires : goal.value_of-requires
value_of-requires c = (found (goal.at.value_of-requires c).In-Number).numeral

pub returns : goal.returns
returns c = rw c.value_of.ensures (λ K. record { same = c.in_ok-mark.ensures.0; passes = pass_number (found (goal.at.returns c).In-Number) c.in_ok-mark.ensures.1 })
