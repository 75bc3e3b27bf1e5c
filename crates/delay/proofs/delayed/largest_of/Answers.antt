use Rattle.std.proofs.Common.{◌≡◌, length, ◌∙◌, rules}
use Rattle.delay.proofs.Setting.{largest_found}
use Rattle.delay.proofs.delayed.largest_of.Goals as goal

pub returns : goal.returns
returns c =
    let delays = c.args.delays.now in
    let long : length delays ≡ 16 = search rules in
    c.unwrap_or.ensures ∙ largest_found delays c.max.result long (search rules) (search rules) (search rules)
