use Rattle.std.proofs.Common.{◌≡◌, leb}
use Rattle.bus.specs.Sums.{largest_below, only}
use Rattle.engine.proofs.stream.Stream.blocking.Given as goal

abbrev pub invariant-loop-other : goal.invariant-loop-other
invariant-loop-other g l =
    let m = g.T.Traffic.meaning l.self.traffic.now in
    l.most ≡ largest_below l.other (λ k. only (leb (m.identifier l.self.number) (m.identifier k)) (m.longest k))
