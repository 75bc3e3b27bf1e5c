use Rattle.std.proofs.Common.{◌≡◌}
use Rattle.bus.proofs.Bounding.{Bounding}
use Rattle.engine.proofs.bound.bound.Given as goal

abbrev pub invariant-loop-turn : goal.invariant-loop-turn
invariant-loop-turn g l =
    let s = l.search.profile.stream in
    let turns = l.turn-iterator in
    (s.traffic.now ≡ l.traffic) × (s.number ≡ l.stream) × (turns.traffic.now ≡ l.traffic) × (turns.node ≡ l.node) × Bounding (g.T.Traffic.meaning l.traffic) l.stream l.first turns.from l.most
