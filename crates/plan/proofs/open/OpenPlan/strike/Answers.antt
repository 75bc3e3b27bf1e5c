use Rattle.std.proofs.Common.{◌≡◌, false, length, Ok, Err, sym, refl, ap, ◌∙◌, subst, arith}
use Rattle.std.specs.List.{remove}
use Rattle.std.specs.Option.{ok_or}
use Rattle.std.proofs.lemmas.List.Edits.{length-remove}
use Rattle.std.proofs.lemmas.Result.{err_from_is_err_and}
use Rattle.bus.specs.declared.refusal.Refusal.TheVariants.{NotHeld}
use Rattle.plan.specs.Held.{held, PositionAsked, Stands}
use Rattle.plan.specs.Messages.{records_of}
use Rattle.plan.specs.Open.{apart, too_long, struck, strike_rules}
use Rattle.plan.specs.Schedule.{Works}
use Rattle.plan.specs.Plans.{sound}
use Rattle.plan.proofs.Changed.{works, struck_is, apart_removed, short_removed}
use Rattle.plan.proofs.Judged.{strike_refused, strike_accepted, done_refused, done_made}
use Rattle.plan.proofs.Places.{holds_told}
use Rattle.plan.proofs.Recorded.{recorded_remove}
use Rattle.plan.proofs.Stepping.{strike_steps}
use Rattle.plan.proofs.open.OpenPlan.strike.Goals as goal
use Rattle.plan.proofs.open.OpenPlan.strike.Goals.{After-work_out}

stands : (c : After-work_out) → Stands c.args.identifier (held c.args.self.now) c.in_ok-at.at
stands c = subst (PositionAsked c.args.identifier (held c.args.self.now)) c.in_ok-at.ensures.ok_part c.position.ensures

-- the records that are left
left : (c : After-work_out) → records_of c.remove.new.self.items ≡ remove (held c.args.self.now) c.in_ok-at.at
left c = ap records_of c.remove.ensures.items ∙ recorded_remove c.args.self.now.messages.items c.in_ok-at.at

left_short : (c : After-work_out) → too_long (remove (held c.args.self.now) c.in_ok-at.at) ≡ false
left_short c = short_removed (held c.args.self.now) c.in_ok-at.at (sound c.args.self.now)

pub returns-in_err-at : goal.returns-in_err-at
returns-in_err-at c =
    let p = err_from_is_err_and c.from_residual.result c.from_residual.ensures.1 in
    let rs = held c.args.self.now in
    let none = holds_told c.args.identifier rs c.position.result c.position.ensures ∙ sym c.in_err-at.ensures.variant in
    let is = p.1 ∙ ap Err p.2 ∙ c.in_err-at.ensures.value ∙ ap (λ o. ok_or o NotHeld) c.in_err-at.ensures.ok_part in
    let done = done_refused (strike_rules c.args.identifier rs) rs (struck c.args.identifier rs) c.from_residual.result NotHeld rs (strike_refused rs c.args.identifier _ none) is refl in
    record { done = done; step = strike_steps rs rs c.from_residual.result c.args.identifier done }

pub invariant_of-self : goal.invariant_of-self
invariant_of-self c =
    let p = c.args.self.now in
    let short = ap (λ ms. too_long (records_of ms)) c.deref.ensures.value ∙ ap too_long (left c) ∙ left_short c in
    record {
      few = omega (arith, ap length (left c), length-remove (held p) c.in_ok-at.at (stands c).inside, p.few);
      distinct = ap apart (left c) ∙ apart_removed (held p) c.in_ok-at.at p.distinct;
      short = ap too_long (left c) ∙ left_short c;
      room = omega (arith, c.remove.ensures.capacity, p.room);
      works = subst (λ ms. Works (records_of ms) c.work_out.new.self) c.deref.ensures.value (works (records_of c.deref.result.now) p.schedule c.work_out.new.self c.work_out.result c.work_out.ensures short);
    }

pub returns : goal.returns
returns c =
    let rs = held c.args.self.now in
    let h = (goal.at.returns c).After-work_out in
    let at = stands h in
    let found = holds_told c.args.identifier rs c.position.result c.position.ensures ∙ sym c.in_ok-at.ensures.variant in
    let kept = records_of c.remove.new.self.items in
    let done = done_made (strike_rules c.args.identifier rs) rs (struck c.args.identifier rs) c.len.result kept (strike_accepted rs c.args.identifier _ found) c.len.ensures (left h ∙ struck_is c.args.identifier rs c.in_ok-at.at at) in
    record { done = done; step = strike_steps rs kept (Ok c.len.result) c.args.identifier done }
