use Rattle.plan.specs.Plans.{sound}
use Rattle.plan.specs.Held.{held}
use Rattle.runs.proofs.Lone.{declared_met}
use Rattle.runs.proofs.declarations_met.Goals as goal

pub returns : goal.returns
returns c = declared_met (held c.args.plan.now) (sound c.args.plan.now)
