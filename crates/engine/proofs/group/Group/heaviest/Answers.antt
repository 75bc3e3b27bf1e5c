use Rattle.std.proofs.Common.{Some, None, ◌∙◌}
use Rattle.bus.specs.Asked.{FirstTurn}
use Rattle.bus.proofs.Climb.{climb_on, climb_end}
use Rattle.engine.specs.Group.{sent}
use Rattle.engine.proofs.Sending.{sent_rises}
use Rattle.engine.proofs.group.Group.heaviest.Goals as goal

pub loop-turn-preserved : goal.loop-turn-preserved
loop-turn-preserved g c =
    let m = g.T.Traffic.meaning c.args.traffic.now in
    let group = c.args.self.now in
    let so = c.loop-turn.invariant in
    let first : FirstTurn m group.node c.loop-turn.turn-iterator.from (Some c.in-Some.turn) = rw (c.in-Some.is, so.0, so.1) at c.next.ensures.steps.0 in
    let on = rw c.in-Some.is at c.next.ensures.steps.1 in
    let climbed = climb_on m (g.met.T.Traffic.limits c.args.traffic.now) (g.met.T.Traffic.laws c.args.traffic.now) group.node (λ p. sent m group p c.args.window.bits) (sent_rises m group c.requires.0 c.args.window.bits) _ _ _ so.2 first in
    (on.0 ∙ so.0, on.1 ∙ so.1, rw (on.2, c.max-most.ensures, c.demand.ensures) climbed)

pub returns : goal.returns
returns g c =
    let m = g.T.Traffic.meaning c.args.traffic.now in
    let group = c.args.self.now in
    let so = c.loop-turn.invariant in
    let none : FirstTurn m group.node c.loop-turn.turn-iterator.from None = rw (c.in-None.is, so.0, so.1) at c.next.ensures.steps.0 in
    climb_end m (g.met.T.Traffic.limits c.args.traffic.now) (g.met.T.Traffic.laws c.args.traffic.now) group.node (λ p. sent m group p c.args.window.bits) (sent_rises m group c.requires.0 c.args.window.bits) _ _ so.2 none
