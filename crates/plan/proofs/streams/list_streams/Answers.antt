use Rattle.std.proofs.Common.{◌++◌, ◌<◌, length, take, sym, ap, ◌∙◌, arith}
use Rattle.std.proofs.lemmas.List.{length-take-le, length-map}
use Rattle.plan.specs.declared.record.Record.{Record}
use Rattle.plan.specs.Messages.{records_of}
use Rattle.plan.specs.Streams.{parts, streams_of}
use Rattle.plan.specs.Kept.{streams_few}
use Rattle.plan.proofs.Recorded.{recorded_at}
use Rattle.plan.proofs.Walked.{streams_on}
use Rattle.plan.proofs.streams.list_streams.Goals as goal

pub push_streams-requires : goal.push_streams-requires
push_streams-requires c =
    let rs = records_of c.args.messages.now in
    let k = c.loop-message.message-index in
    let inside : k < length rs = omega (arith, length-map c.args.messages.now (λ m. m.record)) in
    omega (arith, c.loop-message.streams.ok.0, ap length c.loop-message.invariant.0, streams_few (take k rs), length-take-le k rs (omega arith), c.loop-message.invariant.1, c.clear.ensures.capacity, c.requires)

pub loop-message-preserved : goal.loop-message-preserved
loop-message-preserved c =
    let ms = c.args.messages.now in
    let rs = records_of ms in
    let k = c.loop-message.message-index in
    let inside : k < length rs = omega (arith, length-map ms (λ m. m.record)) in
    let this = recorded_at ms k c.message-item.result (omega arith) c.message-item.is in
    (c.push_streams.ensures.items ∙ ap (λ ss. ss ++ parts c.message-item.result.record c.message-item.result.record.kind) c.loop-message.invariant.0 ∙ ap (λ (r : Record). streams_of (take k rs) ++ parts r r.kind) this ∙ sym (streams_on rs k inside), c.push_streams.ensures.capacity ∙ c.loop-message.invariant.1)
