-- The numbers of the refusals, and which of several is told. Assumes nothing.
use Rattle.std.specs.Prelude.{◌≡◌, ℕ, Bool, cond, List, [], ◌∷◌, length, Ok, Err, Result}
use Rattle.bus.specs.declared.refusal.Refusal.{Refusal}
use Rattle.bus.specs.declared.refusal.Refusal.TheVariants.{Identifier, Node, Bytes, Period, Offset, Jitter, Due, Line, Text, Question, Delay, Spans, Held, NotHeld, Full, Cycle, Reach}

abbrev pub number : Refusal → ℕ
number Identifier = 1
number Node = 2
number Bytes = 3
number Period = 4
number Offset = 5
number Jitter = 6
number Due = 7
number Line = 8
number Text = 9
number Question = 10
number Delay = 11
number Spans = 12
number Held = 31
number NotHeld = 32
number Full = 33
number Cycle = 34
number Reach = 35

-- what can refuse a call, each with whether it applies, in rising number
abbrev pub Rules : Type 0
Rules = List (Bool × Refusal)

-- the first that applies is told, which is the lowest number; where none applies the answer is v
abbrev pub answer : {A : Type 0} → Rules → A → Result A Refusal
answer [] v = Ok v
answer (rule ∷ rules) v = cond rule.0 (Err rule.1) (answer rules v)

-- a refusal changes nothing
abbrev pub after : {A : Type 0} → Result ℕ Refusal → List A → List A → List A
after (Ok n) old new = new
after (Err e) old new = old

-- a call that makes `new` of the old entries answers how many are held then
pub record Done {A : Type 0} (rules : Rules) (old new : List A) (r : Result ℕ Refusal) (left : List A) : Type 0 where
  pub answers : r ≡ answer rules (length new)
  pub leaves : left ≡ after r old new
