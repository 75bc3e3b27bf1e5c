use Rattle.plan.specs.Plans.{sound}
use Rattle.plan.specs.Held.{held}
use Rattle.runs.proofs.Arrivals.{declared_kept}
use Rattle.runs.proofs.declarations_kept.Goals as goal

pub returns : goal.returns
returns c = declared_kept (held c.args.plan.now) (sound c.args.plan.now)
