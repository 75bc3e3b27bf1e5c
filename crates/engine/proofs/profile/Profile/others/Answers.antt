use Rattle.std.proofs.Common.{◌∙◌, refl, arith}
use Rattle.std.proofs.lemmas.List.{take_all}
use Rattle.std.proofs.lemmas.List.Sums.{sum_by_more_le}
use Rattle.bus.proofs.Demands.{others_all}
use Rattle.bus.proofs.Loads.{others_at_most}
use Rattle.engine.specs.Group.{heaviest_sent}
use Rattle.engine.proofs.profile.Profile.others.Goals as goal

pub overflow_add-sum : goal.overflow_add-sum
overflow_add-sum g c =
    let p = c.args.self.now in
    let m = g.T.Traffic.meaning p.stream.traffic.now in
    let limits = g.met.T.Traffic.limits p.stream.traffic.now in
    let w = c.args.window.bits in
    let is = c.as_slice-group-items.ensures.value in
    let inside = rw is at c.loop-group-test.true in
    let item = rw is at c.group-item.is in
    let within = sum_by_more_le (λ group. heaviest_sent m group w) p.elsewhere.items c.loop-group.group-index c.group-item.result inside in
    let most = others_at_most m limits p.stream.number w (omega (arith, limits.reach_fits, c.args.window.within)) in
    let whole = p.other_groups.whole w ∙ others_all m p.stream.number w 16 refl in
    grind arith

pub returns : goal.returns
returns g c =
    let p = c.args.self.now in
    let m = g.T.Traffic.meaning p.stream.traffic.now in
    let past = rw c.as_slice-group-items.ensures.value at c.loop-group-test.false in
    let all = take_all c.loop-group.group-index p.elsewhere.items past in
    let whole = p.other_groups.whole c.args.window.bits ∙ others_all m p.stream.number c.args.window.bits 16 refl in
    c.loop-group.invariant ∙ rw all whole
