-- What a settled plan holds and answers. Assumes nothing.
use Rattle.std.specs.Prelude.{◌≡◌, ℕ, ◌<◌, ◌≤◌, List, length, Some, None, Ok, Err, Option, Result, ◌≢◌}
use Rattle.bus.specs.declared.refusal.Refusal.{Refusal}
use Rattle.bus.specs.declared.refusal.Refusal.TheVariants.{NotHeld, Question}
use Rattle.plan.specs.declared.record.Record.{Record}
use Rattle.plan.specs.Held.{held, record_at}
use Rattle.plan.specs.Streams.{traffic_of}
use Rattle.runs.specs.Delivery.{MessageDelivered}
use Rattle.verdict.specs.declared.Verdict.{Verdict}
use Rattle.settled.specs.declared.settled.SettledPlan.{SettledPlan}
use Rattle.settled.specs.declared.settled.calls.Row.{Row}
use Rattle.settled.specs.Figures.{figure_at, Among, Known}

-- the records that it holds
abbrev pub holding : SettledPlan → List Record
holding s = held s.plan

-- a bound is kept: in every run that keeps the declarations, every instance of the message is off the wire within it
abbrev pub VerdictHolds : List Record → ℕ → Option Verdict → Type 0
VerdictHolds records identifier (Some v) = MessageDelivered records identifier v.bound
VerdictHolds records identifier None = Unit {0}

-- v is the verdict on the record at a position
pub record FigureOf (records : List Record) (position : ℕ) (v : Option Verdict) : Type 0 where
  pub known : Known (traffic_of records) (record_at records position) v
  pub delivered : VerdictHolds records (record_at records position).identifier v

-- and such is the figure of every record held
abbrev pub FiguresHold : SettledPlan → Type 0
FiguresHold s = (k : ℕ) → k < length (holding s) → FigureOf (holding s) k (figure_at s.rows.items k)

-- v is the verdict on the message with the identifier
pub record VerdictOf (records : List Record) (identifier : ℕ) (v : Option Verdict) : Type 0 where
  pub message : Record
  pub among : Among records message
  pub named : message.identifier ≡ identifier
  pub known : Known (traffic_of records) message v

abbrev pub VerdictAsked : List Record → ℕ → Result (Option Verdict) Refusal → Type 0
VerdictAsked records identifier (Ok v) = VerdictOf records identifier v
VerdictAsked records identifier (Err e) = (e ≡ NotHeld) × ((message : Record) → Among records message → message.identifier ≢ identifier)

-- the row at a position is that of the record there
pub record RowOf (records : List Record) (position : ℕ) (row : Row) : Type 0 where
  pub inside : position < length records
  pub named : row.identifier ≡ (record_at records position).identifier
  pub known : Known (traffic_of records) (record_at records position) row.verdict

abbrev pub RowAsked : List Record → ℕ → Result Row Refusal → Type 0
RowAsked records position (Ok row) = RowOf records position row
RowAsked records position (Err e) = (e ≡ Question) × (length records ≤ position)

-- every verdict on one of the records that is a bound is kept
abbrev pub VerdictsHold : List Record → Type 0
VerdictsHold records = (identifier : ℕ) (v : Option Verdict) → VerdictOf records identifier v → VerdictHolds records identifier v
