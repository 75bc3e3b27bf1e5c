use Rattle.std.proofs.Common.{ℕ, length, IsOk, Ok, Err, Option, Result, sym, refl, subst}
use Rattle.bus.specs.declared.refusal.Refusal.{Refusal}
use Rattle.bus.specs.Meaning.{Meaning}
use Rattle.plan.specs.declared.record.Record.{Record}
use Rattle.plan.specs.Streams.{streams_of, traffic_of}
use Rattle.verdict.specs.declared.Verdict.{Verdict}
use Rattle.verdict.specs.Judged.{Sends, Judged}
use Rattle.plan.specs.Held.{held}
use Rattle.settled.proofs.Sending.{sends_at}
use Rattle.settled.proofs.settled.calls.work_out.Goals as goal
use Rattle.settled.proofs.settled.calls.work_out.Goals.{Start}

-- a message with a stream is not refused
judged_ok : (m : Meaning) (identifier due : ℕ) (r : Result (Option Verdict) Refusal) → Judged m identifier due r → (i : ℕ) → Sends m identifier m.streams i → IsOk r
judged_ok m identifier due (Ok v) judged i sends = refl
judged_ok m identifier due (Err e) judged i sends = absurd (judged.1 i sends)

pub unwrap-requires : goal.unwrap-requires
unwrap-requires c =
    let records = held c.args.plan.now in
    let at = c.requires in
    let found = sends_at records at.place at.inside in
    judged_ok (traffic_of records) c.args.message.now.record.identifier _ c.judge-judged.result c.judge-judged.ensures.judged found.0
    (subst (λ (message : Record). Sends (traffic_of records) message.identifier (length (streams_of records)) found.0) (sym at.is) found.1)
