-- What a token says of the byte that stands at its place. Assumes nothing.
use Rattle.std.proofs.Common.{◌≡◌, ℕ, ◌<◌, List, [], ◌∷◌, length, get_or, drop, sym, refl, ap, ◌∙◌, subst, add-zero, arith}
use Rattle.std.specs.List.{AllByRecursion}
use Rattle.std.proofs.lemmas.List.{get_or-drop}
use Rattle.line.specs.declared.tokens.Mark.{Mark}
use Rattle.line.specs.declared.tokens.Mark.TheVariants.{Open, Close, Space, Feed}
use Rattle.line.specs.declared.tokens.Token.{Token}
use Rattle.line.specs.declared.tokens.Token.TheVariants.{Mark as MarkToken, Word, Number}
use Rattle.line.specs.Tokens.{Letter, Digit, byte_of, Stands, TokenStands}

pub mark_below : (mark : Mark) → (0 < byte_of mark) × (byte_of mark < 48)
mark_below Open = (omega arith, omega arith)
mark_below Close = (omega arith, omega arith)
mark_below Space = (omega arith, omega arith)
mark_below Feed = (omega arith, omega arith)

pub first_byte : (s : List ℕ) (at : ℕ) → get_or (drop at s) 0 0 ≡ get_or s at 0
first_byte s at = get_or-drop at s 0 0 ∙ ap (λ k. get_or s k 0) (add-zero at)

-- the first byte of a part
first_of : (P : ℕ → Type 0) {s : List ℕ} {at n : ℕ} (w : List ℕ) → 0 < length w → AllByRecursion P w → Stands w s at n → P (get_or s at 0)
first_of P [] some all h = absurd (omega arith)
first_of P {s} {at} (c ∷ w) some all h = subst P (sym (ap (λ u. get_or u 0 0) h.is) ∙ first_byte s at) all.0

-- only a word begins with a letter, and only a number with a digit
pub not_letter : (s : List ℕ) (at : ℕ) (token : Token) → TokenStands s at token → ((w : _) → token ≡ Word w → ⊥) → Letter (get_or s at 0) → ⊥
not_letter s at (MarkToken mark) h n l = omega (arith, (mark_below mark).1, l.0)
not_letter s at (Word w) h n l = n w refl
not_letter s at (Number w) h n l = omega (arith, l.0, (first_of Digit w.now h.numeral.some h.numeral.all h.stands).1)

pub not_digit : (s : List ℕ) (at : ℕ) (token : Token) → TokenStands s at token → ((w : _) → token ≡ Number w → ⊥) → Digit (get_or s at 0) → ⊥
not_digit s at (MarkToken mark) h n d = omega (arith, (mark_below mark).1, d.0)
not_digit s at (Word w) h n d = omega (arith, d.1, (first_of Letter w.now h.some h.letters h.stands).0)
not_digit s at (Number w) h n d = n w refl
