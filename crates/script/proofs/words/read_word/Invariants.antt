use Rattle.std.proofs.Common.{ℕ, ◌<◌, ◌++◌, List, [], ◌∷◌, get_or, ◌≢◌}
use Rattle.script.specs.declared.words.Word.{Word}
use Rattle.script.specs.declared.words.Word.TheVariants.{Enter, Alter, Strike, Settle, Reopen, Verdict, Row}
use Rattle.script.specs.Words.{word_text}
use Rattle.script.proofs.words.read_word.Given as goal

abbrev pub words : List Word
words = Enter ∷ Alter ∷ Strike ∷ Settle ∷ Reopen ∷ Verdict ∷ Row ∷ []

-- the text begins with none of the words so far
abbrev pub invariant-loop-word : goal.invariant-loop-word
invariant-loop-word l = (n : ℕ) → n < l.word-index → (rest : List ℕ) → l.text ≢ word_text (get_or words n Enter) ++ rest
