-- The answer to a table, as text. Assumes nothing.
use Rattle.std.specs.Prelude.{◌≡◌, ℕ, ◌⊎◌, List, [], ◌++◌, Err, codes}
use Rattle.plan.specs.declared.record.Record.{Record}
use Rattle.settled.specs.Holding.{VerdictsHold}
use Rattle.report.specs.Report.{Reports}
use Rattle.table.specs.declared.table.Fault.{Fault}
use Rattle.table.specs.Table.{TableEntered, TableRead}
use Rattle.table.specs.Text.{fault_told}

-- a line that tells a fault; a line feed closes it
abbrev pub fault_text : Fault → List ℕ
fault_text fault = fault_told fault ++ codes "\n"

-- every line was taken, and the text is the report on those messages
pub record Accepted (table out : List ℕ) : Type 0 where
  pub records : List Record
  pub entered : TableEntered [] table records
  pub reports : Reports records out

-- the text tells the first fault
pub record Refused (table out : List ℕ) : Type 0 where
  pub fault : Fault
  pub records : List Record
  pub stopped : TableRead [] table (Err fault) records
  pub tells : out ≡ fault_text fault

abbrev pub Answers : List ℕ → List ℕ → Type 0
Answers table out = Accepted table out ⊎ Refused table out

-- the text is the report on a table, and each bound that it tells is kept
pub record Kept (table out : List ℕ) : Type 0 where
  pub accepted : Accepted table out
  pub delivered : VerdictsHold accepted.records

abbrev pub AnswersHold : List ℕ → List ℕ → Type 0
AnswersHold table out = Kept table out ⊎ Refused table out
