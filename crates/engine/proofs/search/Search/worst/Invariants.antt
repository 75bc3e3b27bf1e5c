use Rattle.std.proofs.Common.{◌≡◌, ◌-◌}
use Rattle.bus.proofs.Listing.{Listing}
use Rattle.engine.proofs.search.Search.worst.Given as goal

abbrev pub invariant-loop-window : goal.invariant-loop-window
invariant-loop-window g l =
    let p = l.fn.self.profile in
    (l.self.profile ≡ p) × Listing (g.T.Traffic.meaning p.stream.traffic.now) p.stream.number l.phase l.instance l.most l.start.bits

abbrev pub decreases-loop-window : goal.decreases-loop-window
decreases-loop-window g l = 4194306 - l.instance
