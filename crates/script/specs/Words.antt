-- The words that calls begin with. Assumes nothing.
use Rattle.std.specs.Prelude.{◌≡◌, ℕ, List, ◌++◌, Some, None, codes, Option, ◌≢◌}
use Rattle.std.specs.Borrow.{Bor}
use Rattle.script.specs.declared.words.Word.{Word}
use Rattle.script.specs.declared.words.Word.TheVariants.{Enter, Alter, Strike, Settle, Reopen, Verdict, Row}

-- what a word puts at the beginning of its line: a space where an argument follows, else the line feed
abbrev pub word_text : Word → List ℕ
word_text Enter = codes "enter "
word_text Alter = codes "alter "
word_text Strike = codes "strike "
word_text Settle = codes "settle\n"
word_text Reopen = codes "reopen\n"
word_text Verdict = codes "verdict "
word_text Row = codes "row "

-- the word that the text begins with, if there is one
abbrev pub WordRead : List ℕ → Option (Word × Bor (List ℕ)) → Type 0
WordRead s (Some found) = s ≡ word_text found.0 ++ found.1.now
WordRead s None = (w : Word) (rest : List ℕ) → s ≢ word_text w ++ rest
