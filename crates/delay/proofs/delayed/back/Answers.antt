use Rattle.std.proofs.Common.{sym, arith}
use Rattle.delay.specs.Reducing.{reduced_from}
use Rattle.delay.proofs.delayed.back.Goals as goal

pub returns : goal.returns
returns c = sym (reduced_from c.args.cycle c.args.phase c.args.delay (omega arith))
