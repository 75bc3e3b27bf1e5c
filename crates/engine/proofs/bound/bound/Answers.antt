use Rattle.std.proofs.Common.{◌≡◌, ◌<◌, ◌∙◌, Some, None}
use Rattle.bus.specs.Asked.{FirstTurn}
use Rattle.bus.proofs.Bounding.{bounding_start, bounding_on, bounding_end}
use Rattle.bus.proofs.Delivering.{bounds_hold}
use Rattle.engine.proofs.bound.bound.Given as given
use Rattle.engine.proofs.bound.bound.Goals as goal
use Rattle.engine.proofs.bound.bound.Goals.{In_ok-profile}

known : (g : given.Over) (c : In_ok-profile g) → c.args.stream < (g.T.Traffic.meaning c.args.traffic.now).streams
known g c = rw (c.in_ok-profile.ensures.0, c.in_ok-profile.ensures.1) at c.in_ok-profile.profile.stream.known

node_is : (g : given.Over) (c : In_ok-profile g) → c.in_ok-profile.profile.stream.node ≡ (g.T.Traffic.meaning c.args.traffic.now).node c.args.stream
node_is g c = rw (c.in_ok-profile.ensures.0, c.in_ok-profile.ensures.1) at c.in_ok-profile.profile.stream.of_node

pub loop-turn-init : goal.loop-turn-init
loop-turn-init g c =
    let at = goal.at.loop-turn-init g c in
    let is = c.in_ok-profile.ensures in
    let turns = c.into_iter-turn-iterator.result in
    let begun : (turns.traffic.now ≡ c.args.traffic.now) × (turns.node ≡ c.in_ok-profile.profile.stream.node) × (turns.from ≡ 1) = rw c.into_iter-turn-iterator.ensures.into_iter_gives c.new-turn-items.ensures in
    let zero = rw (c.in-Some.is, c.new-search.ensures, is.0, is.1) at c.worst.ensures.worst in
    let bounding = bounding_start _ (g.met.T.Traffic.limits c.args.traffic.now) (g.met.T.Traffic.laws c.args.traffic.now) c.args.stream (known g at.In_ok-profile) _ zero in
    rw (c.worst.ensures.same, c.new-search.ensures) (is.0, is.1, begun.0, begun.1, rw begun.2 bounding)

pub loop-turn-preserved : goal.loop-turn-preserved
loop-turn-preserved g c =
    let at = goal.at.loop-turn-preserved g c in
    let m = g.T.Traffic.meaning c.args.traffic.now in
    let so = c.loop-turn.invariant in
    let steps = c.next.ensures.steps in
    let first : FirstTurn m (m.node c.args.stream) c.loop-turn.turn-iterator.from (Some c.in-Some-turn.turn) = rw (c.in-Some-turn.is, so.2, so.3, node_is g at.In_ok-profile) at steps.0 in
    let on = rw c.in-Some-turn.is at steps.1 in
    let here = rw (c.in-Some-worst.is, so.0, so.1) at c.worst-in-loop-turn.ensures.worst in
    let bounding = bounding_on m (g.met.T.Traffic.limits c.args.traffic.now) (g.met.T.Traffic.laws c.args.traffic.now) c.args.stream (known g at.In_ok-profile) _ _ _ _ _ so.4 first here in
    rw c.worst-in-loop-turn.ensures.same (so.0, so.1, on.0 ∙ so.2, on.1 ∙ so.3, rw (on.2, c.max-most.ensures) bounding)

pub returns : goal.returns
returns g c =
    let at = goal.at.returns g c in
    let m = g.T.Traffic.meaning c.args.traffic.now in
    let limits = g.met.T.Traffic.limits c.args.traffic.now in
    let laws = g.met.T.Traffic.laws c.args.traffic.now in
    let there = known g at.In_ok-profile in
    let so = c.loop-turn.invariant in
    let steps = c.next.ensures.steps in
    let none : FirstTurn m (m.node c.args.stream) c.loop-turn.turn-iterator.from None = rw (c.in-None.is, so.2, so.3, node_is g at.In_ok-profile) at steps.0 in
    let is_bound = bounding_end m limits laws c.args.stream there _ _ _ so.4 none in
    record { asked = (there, is_bound); delivered = bounds_hold m limits laws c.args.stream _ there is_bound }
