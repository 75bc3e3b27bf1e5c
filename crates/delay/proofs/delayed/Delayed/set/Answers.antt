use Rattle.delay.specs.Delayed.{listed}
use Rattle.delay.proofs.Keeping.{delays_hold}
use Rattle.delay.proofs.delayed.Delayed.set.Goals as goal

pub returns-clause-later : goal.returns-clause-later
returns-clause-later g c _ =
    let below = c.args.self.now.below in
    delays_hold (g.T.Traffic.meaning below) (g.met.T.Traffic.limits below) (g.met.T.Traffic.laws below) (listed c.args.delays)
