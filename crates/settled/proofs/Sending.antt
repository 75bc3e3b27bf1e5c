-- Every message held has a stream. Assumes nothing.
use Rattle.std.proofs.Common.{◌≡◌, ℕ, zero, suc, ◌+◌, ◌<◌, List, [], ◌∷◌, ◌++◌, length, get_or, refl, ap, ◌∙◌, arith, length-append}
use Rattle.std.proofs.lemmas.List.{get_or-append-add}
use Rattle.plan.specs.declared.record.Kind.{Kind}
use Rattle.plan.specs.declared.record.Kind.TheVariants.{Periodic, Sporadic, Mixed}
use Rattle.plan.specs.declared.record.Record.{Record}
use Rattle.plan.specs.declared.streams.Stream.{Stream}
use Rattle.plan.specs.Held.{record_at}
use Rattle.plan.specs.Streams.{parts, silent, streams_of, traffic_of}
use Rattle.verdict.specs.Judged.{Sends}

-- a message has a stream, and the first is its own
first_sends : (r : Record) (kind : Kind) (rest : List Stream) → (0 < length (parts r kind ++ rest)) × ((get_or (parts r kind ++ rest) 0 silent).identifier ≡ r.identifier)
first_sends r (Periodic period offset) rest = (omega arith, refl)
first_sends r (Sporadic gap) rest = (omega arith, refl)
first_sends r (Mixed period offset gap) rest = (omega arith, refl)

-- one of its streams
pub sends_at : (records : List Record) (k : ℕ) → k < length records → (i : ℕ) × Sends (traffic_of records) (record_at records k).identifier (length (streams_of records)) i
sends_at [] k l = absurd (omega arith)
sends_at (r ∷ records) zero l = let first = first_sends r r.kind (streams_of records) in (0, record { known = first.0; is = first.1 })
sends_at (r ∷ records) (suc k) l =
    let found = sends_at records k (omega arith) in
    let here : ℕ = length (parts r r.kind) in (
      here + found.0,
      record {
        known = omega (arith, length-append (parts r r.kind) (streams_of records), found.1.known);
        is = ap (λ s. s.identifier) (get_or-append-add (parts r r.kind) (streams_of records) found.0 silent) ∙ found.1.is;
      },
    )
