use Rattle.std.proofs.Common.{ℕ, ◌<◌, ◌≤◌, ◌∙◌, arith}
use Rattle.bus.specs.Bound.{horizon, Settles}
use Rattle.bus.specs.Search.{Starts}
use Rattle.bus.proofs.Windows.{starts_on}
use Rattle.engine.proofs.search.Search.settle.Given as given
use Rattle.engine.proofs.search.Search.settle.Goals as goal
use Rattle.engine.proofs.search.Search.settle.Goals.{After-need-wanted}

-- no window below what is wanted settles
starts : (g : given.Over) (c : After-need-wanted g) → Starts (g.T.Traffic.meaning c.args.self.now.profile.stream.traffic.now) c.args.self.now.profile.stream.number c.args.phase c.args.instance c.need-wanted.result
starts g c =
    let s = c.args.self.now.profile.stream in
    let wanted = rw c.loop-window.invariant.0 at c.need-wanted.ensures.value in
    rw wanted (starts_on (g.T.Traffic.meaning s.traffic.now) s.number c.args.phase c.args.instance c.loop-window.window.bits c.loop-window.invariant.1)

pub returns-in_err-window-clause-window : goal.returns-in_err-window-clause-window
returns-in_err-window-clause-window g c =
    let none_below = starts g (goal.at.returns-in_err-window-clause-window g c).After-need-wanted in
    let over : horizon < c.need-wanted.result = c.in_err-window.ensures in
    let s = c.args.self.now.profile.stream in
    let never : (w : ℕ) → w ≤ horizon → Settles (g.T.Traffic.meaning s.traffic.now) s.number c.args.phase c.args.instance w → ⊥ =
    λ w within settles. omega (arith, none_below w settles) in
    rw c.from_residual.ensures never

pub loop-window-preserved : goal.loop-window-preserved
loop-window-preserved g c =
    (c.need-wanted.ensures.same ∙ c.loop-window.invariant.0, rw c.in_ok-window.ensures (starts g (goal.at.loop-window-preserved g c).After-need-wanted))
