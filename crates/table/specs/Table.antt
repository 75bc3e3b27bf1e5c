-- What it is to read a table into a plan. Assumes nothing.
use Rattle.std.specs.Prelude.{◌≡◌, ℕ, ◌+◌, ◌<◌, ◌≤◌, ◌⊎◌, List, [], ◌∷◌, ◌++◌, length, Ok, Err, Result}
use Rattle.std.specs.List.{flat_map, AllByRecursion}
use Rattle.bus.specs.declared.refusal.Refusal.{Refusal}
use Rattle.bus.specs.declared.refusal.Refusal.TheVariants.{Identifier, Node, Bytes, Period, Offset, Jitter, Due, Line, Text, Question, Delay, Spans, Held, NotHeld, Full, Cycle, Reach}
use Rattle.bus.specs.Refused.{answer}
use Rattle.plan.specs.declared.record.Record.{Record}
use Rattle.plan.specs.Open.{enter_rules}
use Rattle.line.specs.Line.{line_of, Lawful, Reads, Faults}
use Rattle.table.specs.declared.table.Fault.{Fault}
use Rattle.table.specs.declared.table.Layer.{Layer}
use Rattle.table.specs.declared.table.Layer.TheVariants.{Text as TextLayer, Plan as PlanLayer}

-- the longest text that is read
abbrev pub longest_text : ℕ
longest_text = 16384

-- the layer that a refusal is told by
abbrev pub layer_of : Refusal → Layer
layer_of Line = TextLayer
layer_of Text = TextLayer
layer_of Identifier = PlanLayer
layer_of Node = PlanLayer
layer_of Bytes = PlanLayer
layer_of Period = PlanLayer
layer_of Offset = PlanLayer
layer_of Jitter = PlanLayer
layer_of Due = PlanLayer
layer_of Question = PlanLayer
layer_of Delay = PlanLayer
layer_of Spans = PlanLayer
layer_of Held = PlanLayer
layer_of NotHeld = PlanLayer
layer_of Full = PlanLayer
layer_of Cycle = PlanLayer
layer_of Reach = PlanLayer

-- a plan that holds the records takes the message in, or refuses it for e
abbrev pub Takes : List Record → Record → Type 0
Takes records message = answer (enter_rules message records) (tt {0}) ≡ Ok (tt {0})

abbrev pub Refuses : List Record → Record → Refusal → Type 0
Refuses records message e = answer (enter_rules message records) (tt {0}) ≡ Err e

-- and the messages after it, one after another
abbrev pub TakesAll : List Record → List Record → Type 0
TakesAll records [] = Unit {0}
TakesAll records (message ∷ messages) = Takes records message × TakesAll (records ++ message ∷ []) messages

-- the text begins with a line that is no record's: it is at fault after the longest beginning that some lawful line shares
pub record TextFault (text : List ℕ) (line : ℕ) (fault : Fault) : Type 0 where
  pub at : ℕ
  pub faults : Faults text at
  pub line_is : fault.line ≡ line
  pub place_is : fault.place ≡ at + 1
  pub refusal_is : fault.refusal ≡ Line

-- the text begins with the line of a record that the plan refuses
pub record PlanFault (records : List Record) (text : List ℕ) (line : ℕ) (fault : Fault) : Type 0 where
  pub message : Record
  pub next : ℕ
  pub reads : Reads text message next
  pub refuses : Refuses records message fault.refusal
  pub line_is : fault.line ≡ line
  pub place_is : fault.place ≡ 1

abbrev pub LineFault : List Record → List ℕ → ℕ → Fault → Type 0
LineFault records text line fault = TextFault text line fault ⊎ PlanFault records text line fault

-- the text begins with the line of a record, which the plan has taken in
pub record LineTaken (old : List Record) (text : List ℕ) (next : ℕ) (new : List Record) : Type 0 where
  pub message : Record
  pub reads : Reads text message next
  pub takes : Takes old message
  pub is : new ≡ old ++ message ∷ []

abbrev pub LineEntered : List Record → List ℕ → ℕ → Result ℕ Fault → List Record → Type 0
LineEntered old text line (Ok next) new = LineTaken old text next new
LineEntered old text line (Err fault) new = LineFault old text line fault × (new ≡ old)

-- the text begins with the lawful lines of these messages, which the plan took in one after another
pub record LinesTaken (old : List Record) (text : List ℕ) (messages : List Record) (rest : List ℕ) (new : List Record) : Type 0 where
  pub lawful : AllByRecursion Lawful messages
  pub is : text ≡ flat_map line_of messages ++ rest
  pub takes : TakesAll old messages
  pub held : new ≡ old ++ messages

-- all of the text
pub record TableEntered (old : List Record) (text : List ℕ) (new : List Record) : Type 0 where
  pub short : length text ≤ longest_text
  pub messages : List Record
  pub taken : LinesTaken old text messages [] new

-- or up to the first line that is refused
pub record TableStopped (old : List Record) (text : List ℕ) (fault : Fault) (new : List Record) : Type 0 where
  pub short : length text ≤ longest_text
  pub messages : List Record
  pub rest : List ℕ
  pub taken : LinesTaken old text messages rest new
  pub some : 0 < length rest
  pub refused : LineFault new rest (length messages + 1) fault

-- or nothing of it
pub record TableTooLong (old : List Record) (text : List ℕ) (fault : Fault) (new : List Record) : Type 0 where
  pub long : longest_text < length text
  pub fault_is : fault ≡ record { line = 0; place = 0; refusal = Text }
  pub untouched : new ≡ old

abbrev pub TableRead : List Record → List ℕ → Result (Unit {0}) Fault → List Record → Type 0
TableRead old text (Ok _) new = TableEntered old text new
TableRead old text (Err fault) new = TableTooLong old text fault new ⊎ TableStopped old text fault new
