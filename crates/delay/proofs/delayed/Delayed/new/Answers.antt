use Rattle.delay.proofs.Setting.{undelayed_alike}
use Rattle.delay.proofs.delayed.Delayed.new.Goals as goal

pub returns-clause-alike : goal.returns-clause-alike
returns-clause-alike g c = undelayed_alike (g.T.Traffic.meaning c.args.below)
