-- What is done to messages is done to their records. Assumes nothing.
use Rattle.std.proofs.Common.{◌≡◌, ℕ, ◌<◌, List, length, get_or, sym, refl, ap, ◌∙◌}
use Rattle.std.specs.List.{remove}
use Rattle.std.proofs.lemmas.List.{get_or-map, map-append, take-map, drop-map}
use Rattle.plan.specs.declared.record.Kind.TheVariants.{Periodic}
use Rattle.plan.specs.declared.record.Message.{Message}
use Rattle.plan.specs.Held.{no_record, record_at}
use Rattle.plan.specs.Messages.{records_of}

-- what is read past the end
pub a_message : Message
a_message = record { «record» = record { identifier = 0; node = 0; bytes = 0; kind = Periodic 1 0; jitter = 0; due = 1 }; within = refl }

pub record_read : (ms : List Message) (k : ℕ) → k < length ms → record_at (records_of ms) k ≡ (get_or ms k a_message).record
record_read ms k inside = get_or-map (λ m. m.record) ms k a_message no_record inside

pub recorded_at : (ms : List Message) (k : ℕ) (m : Message) → k < length ms → m ≡ get_or ms k m → m.record ≡ record_at (records_of ms) k
recorded_at ms k m inside is = ap (λ x. x.record) is ∙ sym (get_or-map (λ x. x.record) ms k m no_record inside)

pub recorded_remove : (ms : List Message) (k : ℕ) → records_of (remove ms k) ≡ remove (records_of ms) k
recorded_remove ms k = simp (map-append, take-map, drop-map)
