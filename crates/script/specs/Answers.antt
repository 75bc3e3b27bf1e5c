-- The answers to a list of calls, as text. Assumes nothing.
use Rattle.std.specs.Prelude.{◌≡◌, ℕ, ◌+◌, List, [], ◌++◌, Some, None, vec_items, codes, decimal, Option}
use Rattle.std.specs.List.{flat_map}
use Rattle.life.specs.declared.life.Answer.{Answer}
use Rattle.life.specs.declared.life.Call.{Call}
use Rattle.life.specs.declared.life.Life.{Life}
use Rattle.life.specs.Life.{Lived}
use Rattle.life.specs.Text.{answer_told}
use Rattle.script.specs.declared.answers.Ending.{Ending}
use Rattle.script.specs.declared.answers.Ending.TheVariants.{Misplaced, Unread}
use Rattle.script.specs.Calls.{CallsRead}

-- a line feed closes each line
abbrev pub answer_text : Answer → List ℕ
answer_text answer = answer_told answer ++ codes "\n"

-- lines are counted from 1
abbrev pub ending_told : Ending → List ℕ
ending_told (Misplaced place) = codes "misplaced " ++ decimal (place + 1)
ending_told (Unread place) = codes "unread " ++ decimal (place + 1)

-- a call that may not come, else a line that is none
abbrev pub ending_of : Option ℕ → Option ℕ → Option Ending
ending_of (Some place) unread = Some (Misplaced place)
ending_of None (Some place) = Some (Unread place)
ending_of None None = None

abbrev pub ending_text : Option Ending → List ℕ
ending_text (Some ending) = ending_told ending ++ codes "\n"
ending_text None = []

-- the calls of the text make a life, whose answers are told
pub record Played (text out : List ℕ) : Type 0 where
  pub calls : List Call
  pub unread : Option ℕ
  pub read : CallsRead text calls unread
  pub life : Life
  pub lived : Lived calls life
  pub tells : out ≡ flat_map answer_text (vec_items life.answers) ++ ending_text (ending_of life.misplaced unread)
