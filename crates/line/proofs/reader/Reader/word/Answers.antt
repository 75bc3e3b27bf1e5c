use Rattle.std.proofs.Common.{[], ◌∷◌, ◌++◌, sym, subst, refl, arith, rules, tests}
use Rattle.line.specs.Names.{name_text}
use Rattle.line.specs.Tokens.{TokenStands, WordStands}
use Rattle.line.proofs.Marks.{not_letter}
use Rattle.line.proofs.Parts.{no_word, other_word, same_word, stands_within}
use Rattle.line.proofs.Passing.{then_skips, fault_skips}
use Rattle.line.proofs.Sharing.{shared_at_most}
use Rattle.line.proofs.reader.Reader.word.Goals as goal
use Rattle.line.proofs.reader.Reader.word.Goals.{In-Word}

found : (c : In-Word) → WordStands c.args.self.now.text.now c.args.self.now.at c.in-Word.found.now
found c = subst (TokenStands c.args.self.now.text.now c.args.self.now.at) c.in-Word.is c.in_ok-placed.ensures.2

pub returns-in_err-placed : goal.returns-in_err-placed
returns-in_err-placed c =
    let none = c.in_err-placed.ensures in
    fault_skips (name_text c.args.name ++ 32 ∷ []) _ _ _ c.from_residual.ensures.1 (rw (sym c.text-word.ensures.is, none.0) (no_word c.text-word.result.now c.text-word.ensures.asked none.1.letter))

pub returns-in_default : goal.returns-in_default
returns-in_default c =
    let other = c.in_ok-placed.ensures in
    rw (sym c.text-word.ensures.is, other.0) (no_word c.text-word.result.now c.text-word.ensures.asked (not_letter c.args.self.now.text.now c.args.self.now.at _ other.2 c.in_default.not-Word))

pub overflow_add-result : goal.overflow_add-result
overflow_add-result c =
    let here = found (goal.at.overflow_add-result c).In-Word in
    let same = c.shared_length-same.ensures in
    omega (arith, stands_within here.some here.stands, shared_at_most c.text-word.result.now c.in-Word.found.now)

pub returns-then-ne : goal.returns-then-ne
returns-then-ne c =
    let same = c.shared_length-same.ensures in
    rw (sym c.text-word.ensures.is) (other_word c.text-word.ensures.asked (found (goal.at.returns-then-ne c).In-Word) (search (rules, tests)) (omega arith))

pub returns : goal.returns
returns c = rw (sym c.text-word.ensures.is) (then_skips (32 ∷ []) _ c.mark.result (refl, same_word (found (goal.at.returns c).In-Word) (search (rules, tests))) c.mark.ensures)
