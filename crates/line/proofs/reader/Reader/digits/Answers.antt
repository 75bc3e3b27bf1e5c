use Rattle.std.proofs.Common.{◌≡◌, ◌∙◌, ◌-◌, ◌⊎◌, get_or, length, take, drop, inl, inr, rules, tests}
use Rattle.std.specs.Char.{is_ascii_digit}
use Rattle.std.proofs.lemmas.Iterator.{YieldsList-from_slice, YieldsList-from_take}
use Rattle.std.proofs.lemmas.Iterator.Consumers.{count_from_yields_List}
use Rattle.std.proofs.lemmas.Iterator.Search.{YieldsList-from_take_while}
use Rattle.std.proofs.lemmas.List.Folds.{length-prefix_len}
use Rattle.line.proofs.Parts.{number_stands}
use Rattle.line.proofs.reader.Reader.digits.Goals as goal
use Rattle.line.proofs.reader.Reader.digits.Goals.{then-rest-eq48, else-rest-eq48}

pub returns : goal.returns
returns c =
    let rest = take (length c.args.self.now.text.now - c.args.self.now.at) (drop c.args.self.now.at c.args.self.now.text.now) in
    let most = c.if-rest-eq48.most in
    let count =
    count_from_yields_List c.take_while-digits.result _ c.count.ensures.ran
    (YieldsList-from_take_while _ is_ascii_digit (YieldsList-from_take most (YieldsList-from_slice rest cc) cc) c.take_while-digits.ensures.closure c.take_while-digits.ensures.done (λ x b q k. search (rules, tests)))
    ∙ length-prefix_len is_ascii_digit (take most rest) in
    let digits : ((get_or rest 0 0 ≡ 48) × (most ≡ 1)) ⊎ ((get_or rest 0 0 ≡ 48 → ⊥) × (most ≡ 10)) = elim c.if-rest-eq48.branch [
      | then-rest-eq48 w ↦ inl (w.if-rest-eq48.true, w.most-is)
      | else-rest-eq48 w ↦ inr (w.if-rest-eq48.false, w.most-is)
    ] in
    number_stands c.args.self.now.text.now c.args.self.now.at c.requires.within c.requires.first most c.count.result digits count
