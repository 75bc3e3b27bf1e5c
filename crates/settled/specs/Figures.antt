-- The figures of a settled plan. Assumes nothing.
use Rattle.std.specs.Prelude.{◌≡◌, ℕ, ◌<◌, List, length, None, Option, slice_index_or}
use Rattle.bus.specs.Meaning.{Meaning}
use Rattle.plan.specs.declared.record.Record.{Record}
use Rattle.plan.specs.Held.{record_at}
use Rattle.verdict.specs.declared.Verdict.{Verdict}
use Rattle.verdict.specs.Judged.{VerdictIs}
use Rattle.settled.specs.declared.settled.calls.Row.{Row}

-- what is read past the end
abbrev pub no_row : Row
no_row = record { identifier = 0; verdict = None }

abbrev pub row_at : List Row → ℕ → Row
row_at rows k = slice_index_or rows k no_row

abbrev pub figure_at : List Row → ℕ → Option Verdict
figure_at rows k = (row_at rows k).verdict

-- v is the verdict on the message; that it is, and not how it was found, is kept
abbrev pub Known : Meaning → Record → Option Verdict → Type 0
Known m message v = ∥ VerdictIs m message.identifier message.due v ∥₁

-- the message is one of the records
pub record Among (records : List Record) (message : Record) : Type 0 where
  pub place : ℕ
  pub inside : place < length records
  pub is : message ≡ record_at records place
