-- The records that a plan holds: those of its messages. Assumes nothing.
use Rattle.std.specs.Prelude.{◌≡◌, ℕ, ◌<◌, ◌≤◌, false, List, length, take, Some, None, Option, slice_index_or}
use Rattle.plan.specs.declared.record.Kind.TheVariants.{Periodic}
use Rattle.plan.specs.declared.record.Record.{Record}
use Rattle.plan.specs.declared.open.OpenPlan.{OpenPlan}
use Rattle.plan.specs.Messages.{records_of}
use Rattle.plan.specs.Open.{holds}

abbrev pub held : OpenPlan → List Record
held p = records_of p.messages.items

-- what is read past the end
abbrev pub no_record : Record
no_record = record { identifier = 0; node = 0; bytes = 0; kind = Periodic 0 0; jitter = 0; due = 0 }

abbrev pub record_at : List Record → ℕ → Record
record_at records k = slice_index_or records k no_record

-- the record at a position from 0, if there is one
abbrev pub MessageAsked : List Record → ℕ → Option Record → Type 0
MessageAsked records k (Some message) = (k < length records) × (message ≡ record_at records k)
MessageAsked records k None = length records ≤ k

-- the first record with the identifier stands at position k
pub record Stands (identifier : ℕ) (records : List Record) (k : ℕ) : Type 0 where
  pub inside : k < length records
  pub named : (record_at records k).identifier ≡ identifier
  pub first : holds identifier (take k records) ≡ false

-- its position, if there is one
abbrev pub PositionAsked : ℕ → List Record → Option ℕ → Type 0
PositionAsked identifier records (Some k) = Stands identifier records k
PositionAsked identifier records None = holds identifier records ≡ false
