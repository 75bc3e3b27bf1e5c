-- The line of a call, and what it is to read calls. Assumes nothing.
use Rattle.std.specs.Prelude.{◌≡◌, ℕ, ◌<◌, ◌≤◌, List, [], ◌∷◌, ◌++◌, length, drop, Some, None, Ok, Err, vec_items, decimal, Option, Result, ◌≢◌}
use Rattle.std.specs.Borrow.{Bor}
use Rattle.std.specs.List.{flat_map, AllByRecursion}
use Rattle.plan.specs.declared.record.Record.{Record}
use Rattle.line.specs.Line.{line_of, Short, Lawful}
use Rattle.life.specs.declared.life.Call.{Call}
use Rattle.life.specs.declared.life.Call.TheVariants.{Enter, Alter, Strike, Settle, Reopen, Verdict, Row}
use Rattle.script.specs.declared.calls.Script.{Script}
use Rattle.script.specs.declared.words.Word.{Word}
use Rattle.script.specs.declared.words.Word.TheVariants.{Enter as EnterWord, Alter as AlterWord, Strike as StrikeWord, Settle as SettleWord, Reopen as ReopenWord, Verdict as VerdictWord, Row as RowWord}
use Rattle.script.specs.Words.{word_text}

abbrev pub word_of : Call → Word
word_of (Enter message) = EnterWord
word_of (Alter message) = AlterWord
word_of (Strike identifier) = StrikeWord
word_of Settle = SettleWord
word_of Reopen = ReopenWord
word_of (Verdict identifier) = VerdictWord
word_of (Row position) = RowWord

-- a number that closes its line
abbrev pub number_line : ℕ → List ℕ
number_line n = decimal n ++ 10 ∷ []

-- the argument and the line feed that closes the line, as a table has them
abbrev pub argument_text : Call → List ℕ
argument_text (Enter message) = line_of message
argument_text (Alter message) = line_of message
argument_text (Strike identifier) = number_line identifier
argument_text Settle = []
argument_text Reopen = []
argument_text (Verdict identifier) = number_line identifier
argument_text (Row position) = number_line position

abbrev pub call_line : Call → List ℕ
call_line call = word_text (word_of call) ++ argument_text call

-- each number has at most ten digits
abbrev pub LawfulCall : Call → Type 0
LawfulCall (Enter message) = Lawful message
LawfulCall (Alter message) = Lawful message
LawfulCall (Strike identifier) = Short identifier
LawfulCall Settle = Unit {0}
LawfulCall Reopen = Unit {0}
LawfulCall (Verdict identifier) = Short identifier
LawfulCall (Row position) = Short position

-- the text begins with the lawful line of a value, and this comes after it
pub record Begins {A : Type 0} (Allowed : A → Type 0) (text : A → List ℕ) (s : List ℕ) (value : A) (rest : List ℕ) : Type 0 where
  pub lawful : Allowed value
  pub is : s ≡ text value ++ rest

-- or with none
abbrev pub BeginsNone : {A : Type 0} → (A → Type 0) → (A → List ℕ) → List ℕ → Type 0
BeginsNone {A} Allowed text s = (value : A) (rest : List ℕ) → Allowed value → s ≢ text value ++ rest

abbrev pub Found : {A : Type 0} → (A → Type 0) → (A → List ℕ) → List ℕ → Option (A × Bor (List ℕ)) → Type 0
Found Allowed text s (Some found) = Begins Allowed text s found.0 found.1.now
Found Allowed text s None = BeginsNone Allowed text s

-- what is read ends within the text
abbrev pub Within : {V E : Type 0} → List ℕ → Result (V × ℕ) E → Type 0
Within text (Ok read) = read.1 ≤ length text
Within text (Err e) = Unit {0}

-- what was read, and what comes after the place where it ends
abbrev pub Follows : {V E : Type 0} → List ℕ → Result (V × ℕ) E → Option (V × Bor (List ℕ)) → Type 0
Follows text (Ok read) (Some found) = (found.0 ≡ read.0) × (found.1.now ≡ drop read.1 text)
Follows text (Ok read) None = ⊥
Follows text (Err e) (Some found) = ⊥
Follows text (Err e) None = Unit {0}

abbrev pub MessageRead : List ℕ → Option (Record × Bor (List ℕ)) → Type 0
MessageRead s r = Found Lawful line_of s r

abbrev pub AmountRead : List ℕ → Option (ℕ × Bor (List ℕ)) → Type 0
AmountRead s r = Found Short number_line s r

abbrev pub CallRead : List ℕ → Option (Call × Bor (List ℕ)) → Type 0
CallRead s r = Found LawfulCall call_line s r

-- the text begins with the line of no call
abbrev pub NoCall : List ℕ → Type 0
NoCall s = BeginsNone LawfulCall call_line s

-- nothing is left, or something that begins with the line of no call, which comes after those of the calls
abbrev pub Ends : ℕ → Option ℕ → List ℕ → Type 0
Ends calls None rest = rest ≡ []
Ends calls (Some place) rest = (place ≡ calls) × (0 < length rest) × NoCall rest

-- the text consists of the lines of these calls and of what is left
pub record CallsRead (text : List ℕ) (calls : List Call) (unread : Option ℕ) : Type 0 where
  pub lawful : AllByRecursion LawfulCall calls
  pub rest : List ℕ
  pub is : text ≡ flat_map call_line calls ++ rest
  pub ends : Ends (length calls) unread rest

abbrev pub ScriptRead : List ℕ → Script → Type 0
ScriptRead text script = CallsRead text (vec_items script.calls) script.unread
