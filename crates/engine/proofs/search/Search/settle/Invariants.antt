use Rattle.std.proofs.Common.{◌≡◌, ◌-◌}
use Rattle.bus.specs.Bound.{horizon}
use Rattle.bus.specs.Search.{Starts}
use Rattle.engine.proofs.search.Search.settle.Given as goal

abbrev pub invariant-loop-window : goal.invariant-loop-window
invariant-loop-window g l =
    let p = l.fn.self.profile in
    (l.self.profile ≡ p) × Starts (g.T.Traffic.meaning p.stream.traffic.now) p.stream.number l.phase l.instance l.window.bits

abbrev pub decreases-loop-window : goal.decreases-loop-window
decreases-loop-window g l = horizon - l.window.bits
