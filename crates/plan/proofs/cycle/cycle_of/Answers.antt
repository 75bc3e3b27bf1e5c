use Rattle.std.proofs.Common.{◌≡◌, ◌+◌, ◌<◌, length, take, fold, sym, ap, ◌∙◌, arith}
use Rattle.std.proofs.lemmas.List.{length-map}
use Rattle.clock.specs.Multiple.{lcm}
use Rattle.plan.specs.declared.record.Record.{Record}
use Rattle.plan.specs.Cycle.{cycle_of, periods_in}
use Rattle.plan.specs.Held.{record_at}
use Rattle.plan.specs.Messages.{records_of}
use Rattle.plan.specs.Kept.{records_within}
use Rattle.plan.proofs.Recorded.{recorded_at}
use Rattle.plan.proofs.Walked.{cycle_before, cycle_on, cycle_past}
use Rattle.plan.proofs.cycle.cycle_of.Goals as goal
use Rattle.plan.proofs.cycle.cycle_of.Goals.{then-message-node+in_ok-cycle, else-message-node}

pub returns-in_err-cycle : goal.returns-in_err-cycle
returns-in_err-cycle c =
    let ms = c.args.messages.now in
    let rs = records_of ms in
    let k = c.loop-message.message-index in
    let inside : k < length rs = omega (arith, length-map ms (λ m. m.record)) in
    let this = recorded_at ms k c.message-item.result c.loop-message-test.true c.message-item.is in
    let on = cycle_on rs k inside c.args.node (ap (λ (r : Record). r.node) (sym this) ∙ c.if-message-node.true) in
    let is : fold lcm c.loop-message.cycle (periods_in c.message-item.result.record.kind) ≡ cycle_of c.args.node (take (k + 1) rs) =
    ap (λ (r : Record). fold lcm c.loop-message.cycle (periods_in r.kind)) this ∙ ap (λ x. fold lcm x (periods_in (record_at rs k).kind)) c.loop-message.invariant.0 ∙ sym on in
    rw c.from_residual.ensures (omega (arith, is, c.in_err-cycle.ensures, cycle_before rs (records_within ms) c.args.node (k + 1)))

pub loop-message-preserved : goal.loop-message-preserved
loop-message-preserved c =
    let ms = c.args.messages.now in
    let rs = records_of ms in
    let k = c.loop-message.message-index in
    let inside : k < length rs = omega (arith, length-map ms (λ m. m.record)) in
    let this = recorded_at ms k c.message-item.result c.loop-message-test.true c.message-item.is in
    elim c.if-message-node.branch [
      | then-message-node+in_ok-cycle w ↦
          let on = cycle_on rs k inside c.args.node (ap (λ (r : Record). r.node) (sym this) ∙ w.if-message-node.true) in
          let told = w.in_ok-cycle.ensures in
          (w.cycle-is ∙ told.0 ∙ ap (λ (r : Record). fold lcm c.loop-message.cycle (periods_in r.kind)) this ∙ ap (λ x. fold lcm x (periods_in (record_at rs k).kind)) c.loop-message.invariant.0 ∙ sym on, omega (arith, w.cycle-is, told.1))
      | else-message-node w ↦
          let past = cycle_past rs k inside c.args.node (λ e. w.if-message-node.false (ap (λ (r : Record). r.node) this ∙ e)) in
          (w.cycle-is ∙ c.loop-message.invariant.0 ∙ sym past, omega (arith, w.cycle-is, c.loop-message.invariant.1))
    ]
