use Rattle.std.proofs.Common.{◌+◌, ◌≤◌, subst, arith}
use Rattle.delay.specs.Delayed.{listed}
use Rattle.delay.proofs.Asking.{passed, stands, count_answer}
use Rattle.delay.proofs.delayed.DelayedTraffic.count.Goals as goal

pub returns-in_err-here : goal.returns-in_err-here
returns-in_err-here g c = passed c.in_err-here.ensures (λ f. (f.0, f.1)) c.from_residual.ensures.1

pub overflow_add-window : goal.overflow_add-window
overflow_add-window g c =
    let below = c.args.self.now.below in
    let m = g.T.Traffic.meaning below in
    let limits = g.met.T.Traffic.limits below in
    let s = stands m (listed c.args.self.now.delays) limits c.args.stream c.args.phase c.in_ok-here.ensures in
    omega (arith, s.small, c.reach.ensures, c.if-window-reach.false)

pub returns : goal.returns
returns g c =
    let below = c.args.self.now.below in
    let m = g.T.Traffic.meaning below in
    let limits = g.met.T.Traffic.limits below in
    let laws = g.met.T.Traffic.laws below in
    let delay = listed c.args.self.now.delays in
    let i = c.args.stream in
    let p = c.args.phase in
    let here = c.in_ok-here.here in
    let s = stands m delay limits i p c.in_ok-here.ensures in
    count_answer m delay i p here s limits laws c.args.window (subst (λ r. c.args.window + r ≤ 20971520) c.reach.ensures (omega (arith, c.if-window-reach.false, c.args.self.now.fits))) c.count.ensures
