use Rattle.std.proofs.Common.{◌≡◌, [], ◌∷◌, ◌++◌, length, is_ok, Ok, Err, sym, refl, ap, ◌∙◌, subst, arith, rules}
use Rattle.std.proofs.lemmas.List.{length-map, map_push}
use Rattle.std.proofs.lemmas.Result.{err_from_is_err_and}
use Rattle.bus.specs.Refused.{answer}
use Rattle.bus.proofs.Refusing.{answer_passed, answer_refused}
use Rattle.plan.specs.declared.record.Message.{Message}
use Rattle.plan.specs.declared.record.Record.{Record}
use Rattle.plan.specs.Cycle.{cycle_of}
use Rattle.plan.specs.Held.{held}
use Rattle.plan.specs.Messages.{records_of}
use Rattle.plan.specs.Open.{apart, too_long, enter_rules}
use Rattle.plan.specs.Schedule.{Works}
use Rattle.plan.specs.Kept.{streams_few, least_cycles, entered_kept}
use Rattle.plan.specs.Plans.{kept}
use Rattle.plan.proofs.Changed.{entered_works}
use Rattle.plan.proofs.Judged.{Accepted, accepted_by, refused_limits, done_refused, done_made}
use Rattle.plan.proofs.Stepping.{told, enter_steps}
use Rattle.plan.proofs.open.OpenPlan.enter.Goals as goal
use Rattle.plan.proofs.open.OpenPlan.enter.Goals.{In_ok-cycle}

-- what is known of the message that is taken in
taken : (c : In_ok-cycle) → Accepted (held c.args.self.now) c.in_ok-checked.checked.record
taken c = accepted_by (held c.args.self.now) c.in_ok-checked.checked.record _ (sym (ap is_ok c.in_ok-cycle.ensures))

pub returns-in_err-checked : goal.returns-in_err-checked
returns-in_err-checked c =
    let p = err_from_is_err_and c.from_residual.result c.from_residual.ensures.1 in
    let rs = held c.args.self.now in
    let r = c.args.message in
    let refused = refused_limits rs r (length (rs ++ r ∷ [])) p.0 (c.in_err-checked.ensures ∙ ap Err (sym p.2)) in
    let done = done_refused (enter_rules r rs) rs (rs ++ r ∷ []) c.from_residual.result p.0 rs refused p.1 refl in
    record { entered = done; step = enter_steps rs rs c.from_residual.result r done; cycles = least_cycles }

pub returns-in_err-cycle : goal.returns-in_err-cycle
returns-in_err-cycle c =
    let p = err_from_is_err_and c.from_residual-in_err-cycle.result c.from_residual-in_err-cycle.ensures.1 in
    let rs = held c.args.self.now in
    let r = c.args.message in
    let x = c.in_ok-checked.checked.record in
    let judged = answer_refused (enter_rules x rs) (cycle_of x.node (rs ++ x ∷ [])) (length (rs ++ x ∷ [])) p.0 (sym c.in_err-cycle.ensures ∙ ap Err (sym p.2)) in
    let refused = subst (λ (y : Record). answer (enter_rules y rs) (length (rs ++ y ∷ [])) ≡ Err p.0) c.in_ok-checked.ensures judged in
    let done = done_refused (enter_rules r rs) rs (rs ++ r ∷ []) c.from_residual-in_err-cycle.result p.0 rs refused p.1 refl in
    record { entered = done; step = enter_steps rs rs c.from_residual-in_err-cycle.result r done; cycles = least_cycles }

pub push_reserved-requires : goal.push_reserved-requires
push_reserved-requires c =
    let p = c.args.self.now in
    let a = taken (goal.at.push_reserved-requires c).In_ok-cycle in
    omega (arith, a.room, p.room, p.messages.ok.0, length-map p.messages.items (λ m. m.record))

pub add-requires : goal.add-requires
add-requires c =
    let p = c.args.self.now in
    let a = taken (goal.at.add-requires c).In_ok-cycle in
    omega (arith, a.room, streams_few (held p), ap length p.works.carried, p.schedule.streams.ok.0)

pub invariant_of-self : goal.invariant_of-self
invariant_of-self c =
    let p = c.args.self.now in
    let rs = held p in
    let r = c.in_ok-checked.checked.record in
    let v = cycle_of r.node (rs ++ r ∷ []) in
    let a = taken (goal.at.invariant_of-self c).In_ok-cycle in
    let is = told (enter_rules r rs) c.in_ok-cycle.cycle v c.in_ok-cycle.ensures in
    let all : length p.schedule.cycles ≡ 16 = search rules in
    let new = ap records_of c.push_reserved.ensures.items ∙ map_push (λ (m : Message). m.record) p.messages.items c.in_ok-checked.checked in
    let after = entered_kept rs p.schedule.streams.items p.schedule.cycles p.schedule.reach r (kept p) a.good a.free a.room a.short all in
    record {
      few = omega (arith, ap length new, after.sound.few);
      distinct = ap apart new ∙ after.sound.distinct;
      short = ap too_long new ∙ after.sound.short;
      room = omega (arith, c.push_reserved.ensures.capacity, p.room);
      works = subst (λ xs. Works xs c.add.new.self) (sym new) (entered_works rs r p.schedule c.add.new.self c.in_ok-cycle.cycle p.works all is c.add.ensures.streams c.add.ensures.cycles c.add.ensures.reach);
    }

pub returns : goal.returns
returns c =
    let p = c.args.self.now in
    let rs = held p in
    let r = c.args.message in
    let x = c.in_ok-checked.checked.record in
    let v = cycle_of x.node (rs ++ x ∷ []) in
    let left = records_of c.push_reserved.new.self.items in
    let new = ap records_of c.push_reserved.ensures.items ∙ map_push (λ (m : Message). m.record) p.messages.items c.in_ok-checked.checked in
    let judged = answer_passed (enter_rules x rs) v (length (rs ++ x ∷ [])) (sym (ap is_ok c.in_ok-cycle.ensures)) in
    let passed = subst (λ (y : Record). answer (enter_rules y rs) (length (rs ++ y ∷ [])) ≡ Ok (length (rs ++ y ∷ []))) c.in_ok-checked.ensures judged in
    let done = done_made (enter_rules r rs) rs (rs ++ r ∷ []) c.len.result left passed c.len.ensures (new ∙ ap (λ (y : Record). rs ++ y ∷ []) c.in_ok-checked.ensures) in
    record { entered = done; step = enter_steps rs left (Ok c.len.result) r done; cycles = least_cycles }
