-- How an answer is written. Assumes nothing.
use Rattle.std.specs.Prelude.{ℕ, List, ◌++◌, codes, decimal}
use Rattle.bus.specs.Refused.{number}
use Rattle.settled.specs.Text.{figure_text}
use Rattle.life.specs.declared.life.Answer.{Answer}
use Rattle.life.specs.declared.life.Answer.TheVariants.{Held, Refused, Settled, Open, Told}

-- without a line feed
abbrev pub answer_told : Answer → List ℕ
answer_told (Held n) = codes "held " ++ decimal n
answer_told (Refused e) = codes "refused " ++ decimal (number e)
answer_told Settled = codes "settled"
answer_told Open = codes "open"
answer_told (Told row) = figure_text row.identifier row.verdict
