use Rattle.std.proofs.Common.{◌-◌, ◌%◌, Ok, sym, subst, rules}
use borrow.Author.Tests.{tests}
use Rattle.bus.specs.Asked.{NextTurnAsked}
use Rattle.delay.specs.Delayed.{delayed, listed}
use Rattle.delay.proofs.Turning.{turning, late_asked, early_turn, Quiet, quiet_before, quiet_past, later_told, late}
use Rattle.delay.proofs.delayed.DelayedTraffic.next_turn.Goals as goal
use Rattle.delay.proofs.delayed.DelayedTraffic.next_turn.Goals.{then-phase-delay+in_ok-turn+in_default, else-phase-delay}

pub returns-in-Some : goal.returns-in-Some
returns-in-Some g c =
    let m = g.T.Traffic.meaning c.args.self.now.below in
    let delay = listed c.args.self.now.delays in
    let n = c.args.node in
    let p = c.args.phase in
    let k = c.in_ok-cycle.cycle in
    let s = turning m delay n p k c.in_ok-cycle.ensures c.if-phase-cycle.false in
    early_turn m delay n p k s _ c.in-Some.turn c.if-phase-delay.true c.in-Some.is c.in_ok-turn.ensures

pub returns-in_err-turn-2 : goal.returns-in_err-turn-2
returns-in_err-turn-2 g c =
    let m = g.T.Traffic.meaning c.args.self.now.below in
    let delay = listed c.args.self.now.delays in
    let n = c.args.node in
    let p = c.args.phase in
    let k = c.in_ok-cycle.cycle in
    let s = turning m delay n p k c.in_ok-cycle.ensures c.if-phase-cycle.false in
    absurd (late_asked m delay n p k s c.saturating_sub.result c.saturating_sub.ensures c.in_err-turn-2.ensures)

pub returns : goal.returns
returns g c =
    let m = g.T.Traffic.meaning c.args.self.now.below in
    let delay = listed c.args.self.now.delays in
    let n = c.args.node in
    let p = c.args.phase in
    let k = c.in_ok-cycle.cycle in
    let s = turning m delay n p k c.in_ok-cycle.ensures c.if-phase-cycle.false in
    let quiet = elim c.if-phase-delay.branch as (λ _. Quiet m delay n p k s) [
      | then-phase-delay+in_ok-turn+in_default w ↦ quiet_before m delay n p k s _ w.if-phase-delay.true w.in_default.is w.in_ok-turn.ensures
      | else-phase-delay w ↦ quiet_past m delay n p k s w.if-phase-delay.false
    ] in
    let told = later_told (k - delay n % k) (delay n % k) _ (λ t b so. search (rules, tests)) _ (λ t r so. search rules) c.in_ok-turn-2.turn c.filter.result c.map.result c.filter.ensures c.map.ensures.cases in
    subst (λ r. NextTurnAsked (delayed m delay) n p (Ok r)) (sym told) (late m delay n p k s quiet c.saturating_sub.result c.saturating_sub.ensures c.in_ok-turn-2.turn c.in_ok-turn-2.ensures)
