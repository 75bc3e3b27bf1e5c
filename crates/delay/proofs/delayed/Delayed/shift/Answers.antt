use Rattle.std.proofs.Common.{arith}
use Rattle.delay.proofs.Asking.{cycle_in}
use Rattle.delay.proofs.delayed.Delayed.shift.Goals as goal

pub back-requires : goal.back-requires
back-requires g c =
    let below = c.args.self.now.below in
    let k = cycle_in (g.T.Traffic.meaning below) c.args.node c.in_ok-cycle.ensures in
    let few = (g.met.T.Traffic.limits below).few_phases c.args.node k.0 in
    let is = k.1 in
    (c.if-phase-cycle.false, omega arith)
