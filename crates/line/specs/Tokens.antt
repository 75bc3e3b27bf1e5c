-- The tokens of a text: which bytes each one takes. A place past the end reads as byte 0, with which no token begins. Assumes nothing.
use Rattle.std.specs.Prelude.{◌≡◌, ℕ, ◌+◌, ◌<◌, ◌≤◌, ◌⊎◌, List, ◌++◌, length, drop, Ok, Err, Result, ◌≢◌, slice_index, slice_index_or}
use Rattle.std.specs.List.{AllByRecursion}
use Rattle.line.specs.declared.line.LineFault.{LineFault}
use Rattle.line.specs.declared.tokens.Mark.{Mark}
use Rattle.line.specs.declared.tokens.Mark.TheVariants.{Open, Close, Space, Feed}
use Rattle.line.specs.declared.tokens.Token.{Token}
use Rattle.line.specs.declared.tokens.Token.TheVariants.{Mark as MarkToken, Word, Number}
use Rattle.line.specs.declared.tokens.Placed.{Placed}

abbrev pub Letter : ℕ → Type 0
Letter c = (97 ≤ c) × (c ≤ 122)

abbrev pub Digit : ℕ → Type 0
Digit c = (48 ≤ c) × (c ≤ 57)

abbrev pub byte_of : Mark → ℕ
byte_of Open = 40
byte_of Close = 41
byte_of Space = 32
byte_of Feed = 10

-- one to ten digits, and no 0 before another
pub record Numeral (digits : List ℕ) : Type 0 where
  pub all : AllByRecursion Digit digits
  pub some : 0 < length digits
  pub short : length digits ≤ 10
  pub lone : slice_index_or digits 0 0 ≡ 48 → length digits ≡ 1

-- the bytes w stand from `at` to n
pub record Stands (w s : List ℕ) (at n : ℕ) : Type 0 where
  pub is : drop at s ≡ w ++ drop n s
  pub ends : n ≡ at + length w

-- the word w stands at `at`, and no letter after it
pub record WordStands (s : List ℕ) (at : ℕ) (w : List ℕ) : Type 0 where
  pub letters : AllByRecursion Letter w
  pub some : 0 < length w
  pub stands : Stands w s at (at + length w)
  pub stops : Letter (slice_index s (at + length w)) → ⊥

-- the number w stands at `at`, and no longer one does
pub record NumberStands (s : List ℕ) (at : ℕ) (w : List ℕ) : Type 0 where
  pub numeral : Numeral w
  pub stands : Stands w s at (at + length w)
  pub stops : Digit (slice_index s (at + length w)) → (slice_index w 0 ≡ 48) ⊎ (length w ≡ 10)

abbrev pub TokenStands : List ℕ → ℕ → Token → Type 0
TokenStands s at (MarkToken mark) = slice_index s at ≡ byte_of mark
TokenStands s at (Word w) = WordStands s at w.now
TokenStands s at (Number w) = NumberStands s at w.now

-- no token begins with c
pub record BeginsNone (c : ℕ) : Type 0 where
  pub mark : (mark : Mark) → c ≢ byte_of mark
  pub letter : Letter c → ⊥
  pub digit : Digit c → ⊥

-- the token that stands at `at` is handed out with its place
abbrev pub Found : List ℕ → ℕ → Result Placed LineFault → Type 0
Found s at (Ok placed) = (placed.at ≡ at) × (at < length s) × TokenStands s at placed.token
Found s at (Err fault) = (fault.at ≡ at) × BeginsNone (slice_index s at)
