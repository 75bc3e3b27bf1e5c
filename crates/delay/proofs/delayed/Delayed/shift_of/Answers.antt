use Rattle.delay.specs.Delayed.{listed}
use Rattle.delay.proofs.Asking.{stream_shift_answer}
use Rattle.delay.proofs.delayed.Delayed.shift_of.Goals as goal

pub returns : goal.returns
returns g c =
    let below = c.args.self.now.below in
    stream_shift_answer (g.T.Traffic.meaning below) (listed c.args.self.now.delays) (g.met.T.Traffic.limits below) c.args.stream c.args.phase c.in_ok-node.node c.in_ok-node.ensures c.shift.ensures
