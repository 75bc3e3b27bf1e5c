use Rattle.bus.proofs.Delivering.{bounds_hold}
use Rattle.bus.proofs.traffic.bounds_hold.Goals as goal

pub returns : goal.returns
returns c = bounds_hold
