use Rattle.engine.specs.Group.{Elsewhere}
use Rattle.engine.proofs.stream.Stream.elsewhere.Given as goal

abbrev pub invariant-loop-node : goal.invariant-loop-node
invariant-loop-node g l = Elsewhere (g.T.Traffic.meaning l.self.traffic.now) l.self.number l.node l.groups.items
