use Rattle.std.proofs.Common.{◌≡◌}
use Rattle.bus.proofs.Climb.{Climbed}
use Rattle.engine.specs.Group.{sent}
use Rattle.engine.proofs.group.Group.heaviest.Given as goal

abbrev pub invariant-loop-turn : goal.invariant-loop-turn
invariant-loop-turn g l =
    let turns = l.turn-iterator in
    (turns.traffic.now ≡ l.traffic) × (turns.node ≡ l.self.node) × Climbed (g.T.Traffic.meaning l.traffic) l.self.node (λ p. sent (g.T.Traffic.meaning l.traffic) l.self p l.window.bits) turns.from l.most
