use Rattle.engine.specs.Group.{Gathered}
use Rattle.engine.proofs.Gathering.{group}
use Rattle.engine.proofs.stream.Stream.gather.Given as goal

abbrev pub invariant-loop-other : goal.invariant-loop-other
invariant-loop-other g l = Gathered (g.T.Traffic.meaning l.self.traffic.now) l.self.number l.node l.other (group l.node l.streams.items)
