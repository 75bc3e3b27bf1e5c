use Rattle.std.proofs.Common.{◌≡◌, take}
use Rattle.std.specs.Prelude.{sum_by}
use Rattle.engine.specs.Group.{heaviest_sent}
use Rattle.engine.proofs.profile.Profile.others.Given as goal

abbrev pub invariant-loop-group : goal.invariant-loop-group
invariant-loop-group g l = l.sum ≡ sum_by (λ group. heaviest_sent (g.T.Traffic.meaning l.self.stream.traffic.now) group l.window.bits) (take l.group-index l.self.elsewhere.items)
