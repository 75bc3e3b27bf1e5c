-- The life of a plan: the calls that are made of it, what each gets for an answer, and the book that they leave. Assumes nothing.
use Rattle.std.specs.Prelude.{◌≡◌, ℕ, Bool, true, false, List, [], ◌∷◌, ◌++◌, length, Some, None, Ok, Err, IfOk, vec_items, Option, Result}
use Rattle.bus.specs.declared.refusal.Refusal.{Refusal}
use Rattle.plan.specs.Book as book
use Rattle.plan.specs.Book.{Book, open_book, settled_book, first_book, Step}
use Rattle.plan.specs.declared.record.Record.{Record}
use Rattle.plan.specs.Held.{held}
use Rattle.verdict.specs.declared.Verdict.{Verdict}
use Rattle.settled.specs.declared.settled.calls.Row.{Row}
use Rattle.settled.specs.Holding.{holding, FiguresHold, VerdictHolds, VerdictAsked, RowAsked}
use Rattle.life.specs.declared.life.Call.{Call}
use Rattle.life.specs.declared.life.Call.TheVariants.{Enter, Alter, Strike, Settle, Reopen, Verdict as VerdictCall, Row as RowCall}
use Rattle.life.specs.declared.life.Answer.{Answer}
use Rattle.life.specs.declared.life.Answer.TheVariants.{Held, Refused, Settled, Open, Told}
use Rattle.life.specs.declared.life.Plan.{Plan}
use Rattle.life.specs.declared.life.Plan.TheVariants.{Open as PlanOpen, Settled as PlanSettled}
use Rattle.life.specs.declared.life.Life.{Life}

-- the book of a plan
abbrev pub book_of : Plan → Book
book_of (PlanOpen p) = open_book (held p)
book_of (PlanSettled s) = settled_book (holding s)

-- reopen, verdict and row come only while the book is settled, the others only while it is open
abbrev pub while_settled : Call → Bool
while_settled (Enter message) = false
while_settled (Alter message) = false
while_settled (Strike identifier) = false
while_settled Settle = false
while_settled Reopen = true
while_settled (VerdictCall identifier) = true
while_settled (RowCall position) = true

abbrev pub MayCome : Book → Call → Type 0
MayCome b call = b.settled ≡ while_settled call

-- ---- what is answered

abbrev pub counted : Result ℕ Refusal → Answer
counted (Ok n) = Held n
counted (Err e) = Refused e

abbrev pub verdict_told : ℕ → Result (Option Verdict) Refusal → Answer
verdict_told identifier (Ok v) = Told (record { identifier = identifier; verdict = v })
verdict_told identifier (Err e) = Refused e

abbrev pub row_told : Result Row Refusal → Answer
row_told (Ok row) = Told row
row_told (Err e) = Refused e

-- the book makes the step of the call, which answers how many are held then, or is refused
pub record Counted (b : Book) (call : book.Call) (a : Answer) (b' : Book) : Type 0 where
  pub result : Result ℕ Refusal
  pub told : a ≡ counted result
  pub step : Step b call (Some result) b'

-- the book makes the step of the call, which answers only that it is made
pub record Made (b : Book) (call : book.Call) (said a : Answer) (b' : Book) : Type 0 where
  pub told : a ≡ said
  pub step : Step b call None b'

-- reading alters nothing
pub record Read {R : Type 0} (Asked : List Record → Result R Refusal → Type 0) (tell : Result R Refusal → Answer) (b : Book) (a : Answer) (b' : Book) : Type 0 where
  pub may : b.settled ≡ true
  pub result : Result R Refusal
  pub told : a ≡ tell result
  pub answers : Asked b.records result
  pub same : b' ≡ b

-- a call makes of the book b the book b' and gets the answer a
abbrev pub Works : Book → Call → Answer → Book → Type 0
Works b (Enter message) a b' = Counted b (book.Enter message) a b'
Works b (Alter message) a b' = Counted b (book.Alter message) a b'
Works b (Strike identifier) a b' = Counted b (book.Strike identifier) a b'
Works b Settle a b' = Made b book.Settle Settled a b'
Works b Reopen a b' = Made b book.Reopen Open a b'
Works b (VerdictCall identifier) a b' = Read (λ records r. VerdictAsked records identifier r × IfOk r (λ v. VerdictHolds records identifier v)) (verdict_told identifier) b a b'
Works b (RowCall position) a b' = Read (λ records r. RowAsked records position r × IfOk r (λ row. VerdictHolds records row.identifier row.verdict)) row_told b a b'

-- or it may not come, and gets none
abbrev pub Worked : Book → Call → Option Answer → Book → Type 0
Worked b call (Some a) b' = Works b call a b'
Worked b call None b' = (b' ≡ b) × (MayCome b call → ⊥)

-- ---- whole lives

-- the calls one after another
abbrev pub WorksAll : Book → List Call → List Answer → Book → Type 0
WorksAll b [] [] b' = b' ≡ b
WorksAll b [] (a ∷ answers) b' = ⊥
WorksAll b (call ∷ calls) [] b' = ⊥
WorksAll b (call ∷ calls) (a ∷ answers) b' = (mid : Book) × Works b call a mid × WorksAll mid calls answers b'

-- from an empty plan on
abbrev pub Lives : List Call → List Answer → Book → Type 0
Lives calls answers b = WorksAll first_book calls answers b

-- the calls up to one that may not come, which stands at the place
pub record Stops (calls : List Call) (answers : List Answer) (place : ℕ) (b : Book) : Type 0 where
  pub front : List Call
  pub call : Call
  pub back : List Call
  pub is : calls ≡ front ++ call ∷ back
  pub lives : Lives front answers b
  pub place_is : place ≡ length front
  pub misplaced : MayCome b call → ⊥

abbrev pub Goes : List Call → List Answer → Option ℕ → Book → Type 0
Goes calls answers None b = Lives calls answers b
Goes calls answers (Some place) b = Stops calls answers place b

-- the verdicts of a plan that is settled are those defined for the records in its book, and each that is a bound is kept in
-- every run that keeps what those records declare
abbrev pub Figured : Plan → Type 0
Figured (PlanOpen p) = Unit {0}
Figured (PlanSettled s) = FiguresHold s

pub record Lived (calls : List Call) (life : Life) : Type 0 where
  pub goes : Goes calls (vec_items life.answers) life.misplaced (book_of life.plan)
  pub figured : Figured life.plan
