use Rattle.std.proofs.Common.{length, ap, arith}
use Rattle.std.proofs.lemmas.List.{length-map}
use Rattle.plan.specs.declared.record.Message.{Message}
use Rattle.plan.specs.Held.{held, record_at}
use Rattle.plan.specs.Streams.{traffic_of}
use Rattle.plan.specs.Plans.{sound}
use Rattle.settled.specs.Figures.{figure_at, Known}
use Rattle.settled.proofs.Delivering.{verdict_holds}
use Rattle.settled.proofs.settled.calls.settle.Goals as goal

pub returns-clause-figures : goal.returns-clause-figures
returns-clause-figures c = λ k inside.
    let records = held c.args.plan in
    let figure = figure_at c.loop-message.rows.items k in
    let here : Known (traffic_of records) (record_at records k) figure = c.loop-message.invariant.2 k (omega (arith, c.loop-message-test.false, ap length c.messages-message-items.ensures, length-map c.messages-message-items.result.now (λ (m : Message). m.record))) in
    record { known = here; delivered = verdict_holds records (sound c.args.plan) (record_at records k) figure here }
