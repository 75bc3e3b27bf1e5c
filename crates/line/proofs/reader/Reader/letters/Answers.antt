use Rattle.std.proofs.Common.{◌∙◌, ◌-◌, length, take, drop, rules, tests}
use Rattle.std.specs.Char.{is_ascii_lowercase}
use Rattle.std.proofs.lemmas.Iterator.{YieldsList-from_slice}
use Rattle.std.proofs.lemmas.Iterator.Consumers.{count_from_yields_List}
use Rattle.std.proofs.lemmas.Iterator.Search.{YieldsList-from_take_while}
use Rattle.std.proofs.lemmas.List.Folds.{length-prefix_len}
use Rattle.line.proofs.Parts.{word_stands}
use Rattle.line.proofs.reader.Reader.letters.Goals as goal

pub returns : goal.returns
returns c =
    let rest = take (length c.args.self.now.text.now - c.args.self.now.at) (drop c.args.self.now.at c.args.self.now.text.now) in
    let count =
    count_from_yields_List c.take_while-letters.result _ c.count.ensures.ran
    (YieldsList-from_take_while _ is_ascii_lowercase (YieldsList-from_slice rest cc) c.take_while-letters.ensures.closure c.take_while-letters.ensures.done (λ x b q k. search (rules, tests)))
    ∙ length-prefix_len is_ascii_lowercase rest in
    word_stands c.args.self.now.text.now c.args.self.now.at c.requires.within c.requires.first c.count.result count
