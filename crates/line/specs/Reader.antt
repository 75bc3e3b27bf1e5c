-- What it is to read what a line asks for at a place. Assumes nothing.
use Rattle.std.specs.Prelude.{◌≡◌, ℕ, ◌<◌, List, [], ◌∷◌, ◌++◌, length, drop, Ok, Err, Result}
use Rattle.line.specs.declared.line.LineFault.{LineFault}
use Rattle.line.specs.declared.reader.Reader.{Reader}
use Rattle.line.specs.declared.tokens.Mark.{Mark}
use Rattle.line.specs.declared.tokens.Mark.TheVariants.{Close}
use Rattle.line.specs.Tokens.{byte_of, Stands}
use Rattle.line.specs.Forms.{shared, Form, given, number, choice, reach, Passes, Fault}

-- the bytes w do not stand at `at`: another byte, or the end, comes first at p
pub record Missed (w s : List ℕ) (at p : ℕ) : Type 0 where
  pub short : shared w (drop at s) < length w
  pub place : p ≡ reach s at w

-- the bytes w are read, and the reader stays in its text
abbrev pub Skips : List ℕ → Reader → Reader → Result (Unit {0}) LineFault → Type 0
Skips w old new (Ok _) = (new.text ≡ old.text) × Stands w old.text.now old.at new.at
Skips w old new (Err fault) = Missed w old.text.now old.at fault.at

-- F is asked of the old reader, and G of the new one, in the same text
pub record Past (F : Form) (old new : Reader) (G : Form) : Type 0 where
  pub same : new.text ≡ old.text
  pub passes : Passes F old.text.now old.at new.at G

-- a value is read by the form F, whatever is asked after it
abbrev pub Gives : {A : Type 0} → ((A → Form) → Form) → Reader → Reader → Result A LineFault → Type 0
Gives {A} F old new (Ok v) = (K : A → Form) → Past (F K) old new (K v)
Gives {A} F old new (Err fault) = (K : A → Form) → Fault (F K) old.text.now old.at fault.at

-- `(NAME `
abbrev pub opening : List ℕ → List ℕ
opening name = 40 ∷ (name ++ 32 ∷ [])

-- `NUMBER)` and the mark `after`
abbrev pub amount : Mark → (ℕ → Form) → Form
amount after K = number Close (λ n. given (byte_of after ∷ []) (K n))

-- `(NAME NUMBER)` and the mark `after`
abbrev pub field : List ℕ → Mark → (ℕ → Form) → Form
field name after K = given (opening name) (amount after K)

-- `(NAME ` with the name of one of the two: what it stands for
abbrev pub either : {C : Type 0} → List ℕ × C → List ℕ × C → (C → Form) → Form
either first second K = given (40 ∷ []) (choice (given (first.0 ++ 32 ∷ []) (K first.1)) (given (second.0 ++ 32 ∷ []) (K second.1)))
