use Rattle.std.proofs.Common.{arith}
use Rattle.std.proofs.lemmas.List.Sums.{sum_by_more_le}
use Rattle.bus.specs.Bound.{load}
use Rattle.engine.proofs.Sending.{sent_at_most}
use Rattle.engine.proofs.group.Group.demand.Goals as goal

pub overflow_add-sum : goal.overflow_add-sum
overflow_add-sum g c =
    let m = g.T.Traffic.meaning c.args.traffic.now in
    let xs = c.args.self.now.streams.items in
    let is = c.as_slice-stream-items.ensures.value in
    let few = rw is at c.as_slice-stream-items.ensures.fits in
    let inside = rw is at c.loop-stream-test.true in
    let within = sum_by_more_le (λ k. load m k c.args.phase c.args.window.bits) xs c.loop-stream.stream-index 0 inside in
    let all = sent_at_most m c.args.self.now c.requires.0 (g.met.T.Traffic.limits c.args.traffic.now) c.args.phase c.args.window.bits c.args.window.within in
    grind arith
