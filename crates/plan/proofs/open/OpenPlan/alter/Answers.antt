use Rattle.std.proofs.Common.{◌≡◌, true, length, set, Ok, Err, sym, refl, ap, ◌∙◌, subst, arith}
use Rattle.std.specs.Option.{ok_or}
use Rattle.std.proofs.lemmas.List.{map-set, length-set, set-set, set-get_or}
use Rattle.std.proofs.lemmas.Result.{err_from_is_err_and}
use Rattle.bus.specs.declared.refusal.Refusal.TheVariants.{NotHeld, Cycle}
use Rattle.plan.specs.declared.record.Message.{Message}
use Rattle.plan.specs.declared.record.Record.{Record}
use Rattle.plan.specs.Record.{within}
use Rattle.plan.specs.Held.{held, PositionAsked, Stands}
use Rattle.plan.specs.Messages.{records_of}
use Rattle.plan.specs.Open.{holds, apart, too_long, altered, alter_rules}
use Rattle.plan.specs.Schedule.{Works}
use Rattle.plan.proofs.Changed.{altered_is, altered_apart}
use Rattle.plan.proofs.Judged.{alter_refused_limits, alter_refused_held, alter_refused_cycle, alter_accepted, done_refused, done_made}
use Rattle.plan.proofs.Places.{holds_told}
use Rattle.plan.proofs.Stepping.{alter_steps}
use Rattle.plan.proofs.open.OpenPlan.alter.Goals as goal
use Rattle.plan.proofs.open.OpenPlan.alter.Goals.{After-work_out, In-Err}

good : (c : After-work_out) → within c.args.message ≡ true
good c = subst (λ (r : Record). within r ≡ true) c.in_ok-checked.ensures c.in_ok-checked.checked.within

stands : (c : After-work_out) → Stands c.args.message.identifier (held c.args.self.now) c.in_ok-at.at
stands c = subst (PositionAsked c.args.message.identifier (held c.args.self.now)) c.in_ok-at.ensures.ok_part c.position.ensures

found : (c : After-work_out) → holds c.args.message.identifier (held c.args.self.now) ≡ true
found c = holds_told c.args.message.identifier (held c.args.self.now) c.position.result c.position.ensures ∙ sym c.in_ok-at.ensures.variant

-- the records as they would stand
stand : (c : After-work_out) → records_of (set c.args.self.now.messages.items c.in_ok-at.at c.in_ok-checked.checked) ≡ set (held c.args.self.now) c.in_ok-at.at c.args.message
stand c =
    map-set (λ (m : Message). m.record) c.args.self.now.messages.items c.in_ok-at.at c.in_ok-checked.checked
    ∙ ap (set (held c.args.self.now) c.in_ok-at.at) c.in_ok-checked.ensures

stand_altered : (c : After-work_out) → records_of (set c.args.self.now.messages.items c.in_ok-at.at c.in_ok-checked.checked) ≡ altered c.args.message (held c.args.self.now)
stand_altered c = stand c ∙ altered_is (held c.args.self.now) c.in_ok-at.at c.args.message (stands c)

-- the former message stands there again
restored : (c : After-work_out) → set (set c.args.self.now.messages.items c.in_ok-at.at c.in_ok-checked.checked) c.in_ok-at.at c.index-former.result.now ≡ c.args.self.now.messages.items
restored c =
    let ms = c.args.self.now.messages.items in
    set-set ms c.in_ok-at.at c.in_ok-checked.checked c.index-former.result.now ∙ ap (set ms c.in_ok-at.at) c.index-former.ensures ∙ set-get_or ms c.in_ok-at.at _

pub returns-in_err-checked : goal.returns-in_err-checked
returns-in_err-checked c =
    let p = err_from_is_err_and c.from_residual.result c.from_residual.ensures.1 in
    let rs = held c.args.self.now in
    let r = c.args.message in
    let refused = alter_refused_limits rs r (length (altered r rs)) p.0 (c.in_err-checked.ensures ∙ ap Err (sym p.2)) in
    let done = done_refused (alter_rules r rs) rs (altered r rs) c.from_residual.result p.0 rs refused p.1 refl in
    record { done = done; step = alter_steps rs rs c.from_residual.result r done }

pub returns-in_err-at : goal.returns-in_err-at
returns-in_err-at c =
    let p = err_from_is_err_and c.from_residual-in_err-at.result c.from_residual-in_err-at.ensures.1 in
    let rs = held c.args.self.now in
    let r = c.args.message in
    let fit = subst (λ (x : Record). within x ≡ true) c.in_ok-checked.ensures c.in_ok-checked.checked.within in
    let none = holds_told r.identifier rs c.position.result c.position.ensures ∙ sym c.in_err-at.ensures.variant in
    let is = p.1 ∙ ap Err p.2 ∙ c.in_err-at.ensures.value ∙ ap (λ o. ok_or o NotHeld) c.in_err-at.ensures.ok_part in
    let done = done_refused (alter_rules r rs) rs (altered r rs) c.from_residual-in_err-at.result NotHeld rs (alter_refused_held rs r _ fit none) is refl in
    record { done = done; step = alter_steps rs rs c.from_residual-in_err-at.result r done }

pub invariant_of-self : goal.invariant_of-self
invariant_of-self c =
    let p = c.args.self.now in
    let back = restored (goal.at.invariant_of-self c).After-work_out in
    let same = c.in-Err.ensures.2 in
    record {
      few = omega (arith, ap (λ ms. length (records_of ms)) back, p.few);
      distinct = ap (λ ms. apart (records_of ms)) back ∙ p.distinct;
      short = ap (λ ms. too_long (records_of ms)) back ∙ p.short;
      room = p.room;
      works = subst (λ ms. Works (records_of ms) c.work_out.new.self) (sym back) (subst (Works (held p)) (sym same) p.works);
    }

pub returns-in-Err : goal.returns-in-Err
returns-in-Err c =
    let rs = held c.args.self.now in
    let r = c.args.message in
    let h = (goal.at.returns-in-Err c).After-work_out in
    let long = sym (ap too_long (ap records_of c.deref.ensures.value ∙ stand_altered h)) ∙ c.in-Err.ensures.0 in
    let left = records_of (set (set c.args.self.now.messages.items c.in_ok-at.at c.in_ok-checked.checked) c.in_ok-at.at c.index-former.result.now) in
    let done = done_refused (alter_rules r rs) rs (altered r rs) (Err c.in-Err.refusal) Cycle left (alter_refused_cycle rs r _ (good h) (found h) long) (ap Err c.in-Err.ensures.1) (ap records_of (restored h)) in
    record { done = done; step = alter_steps rs left (Err c.in-Err.refusal) r done }

pub invariant_of-self-in_default : goal.invariant_of-self-in_default
invariant_of-self-in_default c =
    let p = c.args.self.now in
    let rs = held p in
    let at = c.in_ok-at.at in
    let h = (goal.at.invariant_of-self-in_default c).After-work_out in
    let short = sym (ap too_long (ap records_of c.deref.ensures.value ∙ stand h)) ∙ c.in_default.ensures.0 in
    record {
      few = omega (arith, ap length (stand h), length-set rs at c.args.message, p.few);
      distinct = ap apart (stand h) ∙ altered_apart rs at c.args.message (stands h) p.distinct;
      short = ap too_long (stand h) ∙ short;
      room = p.room;
      works = subst (λ ms. Works (records_of ms) c.work_out.new.self) c.deref.ensures.value c.in_default.ensures.1;
    }

pub returns : goal.returns
returns c =
    let rs = held c.args.self.now in
    let r = c.args.message in
    let h = (goal.at.returns c).After-work_out in
    let short = sym (ap too_long (ap records_of c.deref.ensures.value ∙ stand_altered h)) ∙ c.in_default.ensures.0 in
    let left = records_of (set c.args.self.now.messages.items c.in_ok-at.at c.in_ok-checked.checked) in
    let done = done_made (alter_rules r rs) rs (altered r rs) c.len.result left (alter_accepted rs r _ (good h) (found h) short) c.len.ensures (stand_altered h) in
    record { done = done; step = alter_steps rs left (Ok c.len.result) r done }
