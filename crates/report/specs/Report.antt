-- The text of a report: a line for each message, in rising identifier. Assumes nothing.
use Rattle.std.specs.Prelude.{◌≡◌, ℕ, ◌<◌, List, ◌++◌, length, None, codes, Option, slice_index_or}
use Rattle.std.specs.List.{flat_map}
use Rattle.plan.specs.declared.record.Record.{Record}
use Rattle.verdict.specs.declared.Verdict.{Verdict}
use Rattle.settled.specs.Text.{figure_text}
use Rattle.settled.specs.Figures.{Among}
use Rattle.settled.specs.Holding.{VerdictOf}

-- the line on a message; a line feed closes it
abbrev pub row_text : ℕ → Option Verdict → List ℕ
row_text identifier verdict = figure_text identifier verdict ++ codes "\n"

-- a line: an identifier and the verdict on its message
pub record Line : Type 0 where
  pub identifier : ℕ
  pub verdict : Option Verdict

abbrev pub no_line : Line
no_line = record { identifier = 0; verdict = None }

abbrev pub line_at : List Line → ℕ → Line
line_at lines k = slice_index_or lines k no_line

abbrev pub line_text : Line → List ℕ
line_text line = row_text line.identifier line.verdict

-- some line is on the identifier
pub record Listed (lines : List Line) (identifier : ℕ) : Type 0 where
  pub place : ℕ
  pub inside : place < length lines
  pub named : (line_at lines place).identifier ≡ identifier

-- The text has a line for each message with an identifier below the limit, in rising identifier, each with the message's verdict.
pub record ReportsBelow (limit : ℕ) (records : List Record) (text : List ℕ) : Type 0 where
  pub lines : List Line
  pub is : text ≡ flat_map line_text lines
  pub rising : (j k : ℕ) → j < k → k < length lines → (line_at lines j).identifier < (line_at lines k).identifier
  pub below : (k : ℕ) → k < length lines → (line_at lines k).identifier < limit
  pub told : (k : ℕ) → k < length lines → VerdictOf records (line_at lines k).identifier (line_at lines k).verdict
  pub whole : (message : Record) → Among records message → message.identifier < limit → Listed lines message.identifier

-- and there is no other message
pub record Reports (records : List Record) (text : List ℕ) : Type 0 where
  pub lines : ReportsBelow 2048 records text
  pub all : (message : Record) → Among records message → message.identifier < 2048
