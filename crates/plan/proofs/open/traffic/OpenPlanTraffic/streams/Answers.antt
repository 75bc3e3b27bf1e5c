use Rattle.std.proofs.Common.{length, ap, arith}
use Rattle.plan.specs.Held.{held}
use Rattle.plan.specs.Kept.{streams_few}
use Rattle.plan.specs.Plans.{sound}
use Rattle.plan.proofs.open.traffic.OpenPlanTraffic.streams.Goals as goal

pub overflow_cast-result : goal.overflow_cast-result
overflow_cast-result c =
    omega (arith, c.args.self.now.schedule.streams.ok.0, ap length c.args.self.now.works.carried, streams_few (held c.args.self.now), (sound c.args.self.now).few)
