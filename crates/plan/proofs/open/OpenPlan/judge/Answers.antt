use Rattle.std.proofs.Common.{sym, ap, ◌∙◌, subst, fold, arith}
use Rattle.std.specs.List.{slice_index}
use Rattle.clock.specs.Multiple.{lcm}
use Rattle.plan.specs.Cycle.{periods_in, CycleTold}
use Rattle.plan.specs.Held.{held}
use Rattle.plan.specs.Plans.{node_cycle_with}
use Rattle.plan.proofs.Judged.{refused_held, refused_full, judged}
use Rattle.plan.proofs.Places.{holds_told}
use Rattle.plan.proofs.open.OpenPlan.judge.Goals as goal

pub returns-then-is_some : goal.returns-then-is_some
returns-then-is_some c =
    let rs = held c.args.self.now in
    let m = c.args.message.now in
    let found = holds_told m.record.identifier rs c.position.result c.position.ensures ∙ sym c.is_some.ensures ∙ c.if-is_some.true in
    sym (refused_held rs m.record _ m.within found)

pub returns-then-len-ge-MOST_RECORDS : goal.returns-then-len-ge-MOST_RECORDS
returns-then-len-ge-MOST_RECORDS c =
    let rs = held c.args.self.now in
    let m = c.args.message.now in
    let free = holds_told m.record.identifier rs c.position.result c.position.ensures ∙ sym c.is_some.ensures ∙ c.if-is_some.false in
    sym (refused_full rs m.record _ m.within free (omega arith))

pub returns : goal.returns
returns c =
    let p = c.args.self.now in
    let rs = held p in
    let m = c.args.message.now in
    let free = holds_told m.record.identifier rs c.position.result c.position.ensures ∙ sym c.is_some.ensures ∙ c.if-is_some.false in
    let is = ap (λ n. fold lcm (slice_index p.schedule.cycles n) (periods_in m.record.kind)) c.node.ensures ∙ node_cycle_with p m.record m.within in
    c.ok_or.ensures.value ∙ judged rs m.record m.within free (omega arith) p.short c.cycle_with.result (subst (λ whole. CycleTold whole c.cycle_with.result) is c.cycle_with.ensures)
