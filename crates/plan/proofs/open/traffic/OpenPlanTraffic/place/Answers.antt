use Rattle.plan.specs.Held.{held}
use Rattle.plan.specs.Plans.{sound}
use Rattle.plan.proofs.Found.{place_found}
use Rattle.plan.proofs.open.traffic.OpenPlanTraffic.place.Goals as goal

pub returns : goal.returns
returns c =
    place_found (held c.args.self.now) c.args.stream (sound c.args.self.now) c.in_ok-asked.asked c.args.phase c.in_ok-asked.ensures c.args.instance c.place.result c.place.ensures.asked
