use Rattle.bus.proofs.Growing.{count_whole}
use Rattle.bus.proofs.traffic.count_is_whole.Goals as goal

pub returns : goal.returns
returns c = count_whole
