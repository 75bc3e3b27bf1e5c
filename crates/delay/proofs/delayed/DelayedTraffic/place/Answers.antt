use Rattle.std.proofs.Common.{arith}
use Rattle.std.proofs.lemmas.Int.{ints}
use Rattle.delay.specs.Delayed.{listed}
use Rattle.delay.proofs.Asking.{passed, stands, place_answer, place_bounds}
use Rattle.delay.proofs.delayed.DelayedTraffic.place.Goals as goal

pub returns-in_err-here : goal.returns-in_err-here
returns-in_err-here g c = passed c.in_err-here.ensures (λ f. (f.0, f.1)) c.from_residual.ensures.1

pub overflow_sub-result : goal.overflow_sub-result
overflow_sub-result g c =
    let below = c.args.self.now.below in
    let m = g.T.Traffic.meaning below in
    let limits = g.met.T.Traffic.limits below in
    let laws = g.met.T.Traffic.laws below in
    let delay = listed c.args.self.now.delays in
    let i = c.args.stream in
    let p = c.args.phase in
    let here = c.in_ok-here.here in
    let s = stands m delay limits i p c.in_ok-here.ensures in
    let b = place_bounds m delay i p here s limits laws c.args.instance c.in_ok-place.ensures in
    let low = b.0 in
    let high = b.1 in
    omega (arith, ints)

pub returns : goal.returns
returns g c =
    let below = c.args.self.now.below in
    let m = g.T.Traffic.meaning below in
    let limits = g.met.T.Traffic.limits below in
    let laws = g.met.T.Traffic.laws below in
    let delay = listed c.args.self.now.delays in
    let i = c.args.stream in
    let p = c.args.phase in
    let here = c.in_ok-here.here in
    let s = stands m delay limits i p c.in_ok-here.ensures in
    let b = place_bounds m delay i p here s limits laws c.args.instance c.in_ok-place.ensures in
    let low = b.0 in
    let high = b.1 in
    place_answer m delay i p here s c.args.instance (omega (arith, ints)) c.in_ok-place.ensures
