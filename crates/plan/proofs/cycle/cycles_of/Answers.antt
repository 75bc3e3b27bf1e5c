use Rattle.std.proofs.Common.{◌≤◌, arith}
use Rattle.plan.specs.Messages.{records_of}
use Rattle.plan.specs.Kept.{long_at, short_nowhere}
use Rattle.plan.proofs.cycle.cycles_of.Goals as goal

pub returns-in_err-cycle : goal.returns-in_err-cycle
returns-in_err-cycle c = rw c.from_residual.ensures (long_at (records_of c.args.messages.now) c.loop-node.node (omega arith) c.in_err-cycle.ensures)

pub returns : goal.returns
returns c =
    let all : 16 ≤ c.loop-node.node = omega arith in
    (λ n h. c.loop-node.invariant.1 n (omega arith), short_nowhere (records_of c.args.messages.now) (λ n h. c.loop-node.invariant.2 n (omega arith)))
