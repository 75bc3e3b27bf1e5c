use Rattle.plan.specs.Plans.{sound}
use Rattle.plan.specs.Held.{held}
use Rattle.runs.proofs.Delivering.{declared_delivered}
use Rattle.runs.proofs.declarations_delivered.Goals as goal

pub returns : goal.returns
returns c = declared_delivered (held c.args.plan.now) (sound c.args.plan.now)
