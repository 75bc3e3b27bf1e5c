use Rattle.std.proofs.Common.{◌≡◌, take}
use Rattle.std.specs.Prelude.{sum_by}
use Rattle.bus.specs.Bound.{load}
use Rattle.engine.proofs.group.Group.demand.Given as goal

abbrev pub invariant-loop-stream : goal.invariant-loop-stream
invariant-loop-stream g l = l.sum ≡ sum_by (λ k. load (g.T.Traffic.meaning l.traffic) k l.phase l.window.bits) (take l.stream-index l.self.streams.items)
