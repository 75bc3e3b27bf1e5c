use Rattle.std.proofs.Common.{ℕ, ◌≤◌, ◌<◌, ◌++◌, List, get_or, ◌≢◌, arith}
use Rattle.script.specs.declared.words.Word.{Word}
use Rattle.script.specs.declared.words.Word.TheVariants.{Enter, Alter, Strike, Settle, Reopen, Verdict, Row}
use Rattle.script.specs.Words.{word_text}
use Rattle.script.proofs.words.read_word.Invariants.{words}
use Rattle.script.proofs.words.read_word.Goals as goal

-- what holds of all places holds of each word
each : (text : List ℕ) (few : ℕ) → 7 ≤ few → ((n : ℕ) → n < few → (rest : List ℕ) → text ≢ word_text (get_or words n Enter) ++ rest) → (w : Word) (rest : List ℕ) → text ≢ word_text w ++ rest
each text few all so Enter = so 0 (omega arith)
each text few all so Alter = so 1 (omega arith)
each text few all so Strike = so 2 (omega arith)
each text few all so Settle = so 3 (omega arith)
each text few all so Reopen = so 4 (omega arith)
each text few all so Verdict = so 5 (omega arith)
each text few all so Row = so 6 (omega arith)

pub returns : goal.returns
returns c = each c.args.text.now c.loop-word.word-index c.loop-word-test.false c.loop-word.invariant
