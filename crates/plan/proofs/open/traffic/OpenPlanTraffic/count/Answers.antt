use Rattle.std.proofs.Common.{arith}
use Rattle.plan.specs.Held.{held}
use Rattle.plan.specs.Plans.{sound}
use Rattle.plan.proofs.Found.{count_found}
use Rattle.plan.proofs.open.traffic.OpenPlanTraffic.count.Goals as goal

pub returns : goal.returns
returns c =
    count_found (held c.args.self.now) c.args.stream (sound c.args.self.now) c.in_ok-asked.asked c.args.phase c.in_ok-asked.ensures c.args.window c.count.result
    (omega (arith, c.args.self.now.works.reached)) c.count.ensures
