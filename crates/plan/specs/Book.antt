-- The book of a plan: what a plan is, and the step that each call makes. Assumes nothing.
use Rattle.std.specs.Prelude.{◌≡◌, ℕ, Bool, true, false, List, [], ◌∷◌, ◌++◌, length, Some, None, Ok, Err, Option, Result}
use Rattle.std.specs.List.{AllByRecursion}
use Rattle.bus.specs.declared.refusal.Refusal.{Refusal}
use Rattle.bus.specs.Refused.{Rules, answer}
use Rattle.plan.specs.declared.record.Record.{Record}
use Rattle.plan.specs.Open.{enter_rules, alter_rules, strike_rules}

pub record Book : Type 0 where
  pub settled : Bool
  pub records : List Record

abbrev pub open_book : List Record → Book
open_book records = record { settled = false; records = records }

abbrev pub settled_book : List Record → Book
settled_book records = record { settled = true; records = records }

-- it begins open and without records
abbrev pub first_book : Book
first_book = open_book []

-- it is fed the arguments of the calls
pub data Call : Type 0 where
  Enter : Record → Call
  Alter : Record → Call
  Strike : ℕ → Call
  Settle : Call
  Reopen : Call

-- reopen comes only while the book is settled, the others only while it is open
abbrev pub settled_before : Call → Bool
settled_before (Enter r) = false
settled_before (Alter r) = false
settled_before (Strike identifier) = false
settled_before Settle = false
settled_before Reopen = true

abbrev pub settled_after : Call → Bool
settled_after (Enter r) = false
settled_after (Alter r) = false
settled_after (Strike identifier) = false
settled_after Settle = true
settled_after Reopen = false

-- what refuses a call, judged on the book's records
abbrev pub rules_of : Call → List Record → Rules
rules_of (Enter r) rs = enter_rules r rs
rules_of (Alter r) rs = alter_rules r rs
rules_of (Strike identifier) rs = strike_rules identifier rs
rules_of Settle rs = []
rules_of Reopen rs = []

-- a record with the identifier gives its place to others; those before it and those after it stay as they are
pub record GivesWay (identifier : ℕ) (others old new : List Record) : Type 0 where
  pub front : List Record
  pub gone : Record
  pub back : List Record
  pub was : old ≡ front ++ gone ∷ back
  pub named : gone.identifier ≡ identifier
  pub is : new ≡ front ++ (others ++ back)

-- what a call that is not refused makes of the records
abbrev pub Makes : Call → List Record → List Record → Type 0
Makes (Enter r) old new = new ≡ old ++ r ∷ []
Makes (Alter r) old new = GivesWay r.identifier (r ∷ []) old new
Makes (Strike identifier) old new = GivesWay identifier [] old new
Makes Settle old new = new ≡ old
Makes Reopen old new = new ≡ old

-- how many are held then, or why the call is refused; settle and reopen answer neither
abbrev pub Answer : Type 0
Answer = Option (Result ℕ Refusal)

abbrev pub tells : Call → List Record → Answer
tells (Enter r) new = Some (Ok (length new))
tells (Alter r) new = Some (Ok (length new))
tells (Strike identifier) new = Some (Ok (length new))
tells Settle new = None
tells Reopen new = None

-- no rule applies
pub record Accepted (b : Book) (call : Call) (told : Answer) (b' : Book) : Type 0 where
  pub may : b.settled ≡ settled_before call
  pub allowed : AllByRecursion (λ rule. rule.0 ≡ false) (rules_of call b.records)
  pub makes : Makes call b.records b'.records
  pub tells : told ≡ tells call b'.records
  pub leaves : b'.settled ≡ settled_after call

-- the first rule that applies is e, and nothing changes
pub record Declined (b : Book) (call : Call) (e : Refusal) (b' : Book) : Type 0 where
  pub may : b.settled ≡ settled_before call
  pub refused : answer (rules_of call b.records) (tt {0}) ≡ Err e
  pub same : b' ≡ b

-- a call makes of the book b the book b' and gets the answer
abbrev pub Step : Book → Call → Answer → Book → Type 0
Step b call (Some (Ok n)) b' = Accepted b call (Some (Ok n)) b'
Step b call (Some (Err e)) b' = Declined b call e b'
Step b call None b' = Accepted b call None b'
