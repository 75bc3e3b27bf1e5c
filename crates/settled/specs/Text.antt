-- How a row is written. Assumes nothing.
use Rattle.std.specs.Prelude.{ℕ, List, ◌++◌, Some, None, codes, decimal, Option}
use Rattle.verdict.specs.declared.Verdict.{Verdict}
use Rattle.verdict.specs.Text.{judgement_text}

-- the identifier and the verdict, without a line feed
abbrev pub figure_text : ℕ → Option Verdict → List ℕ
figure_text identifier (Some v) = codes "(bound " ++ (decimal identifier ++ (codes " " ++ (decimal v.bound ++ (codes " " ++ (judgement_text v.judgement ++ codes ")")))))
figure_text identifier None = codes "(bound " ++ (decimal identifier ++ codes " unsettled)")
