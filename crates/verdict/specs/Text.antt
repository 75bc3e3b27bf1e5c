-- How a judgement is written. Assumes nothing.
use Rattle.std.specs.Prelude.{ℕ, List, codes}
use Rattle.verdict.specs.declared.Judgement.{Judgement}
use Rattle.verdict.specs.declared.Judgement.TheVariants.{Met, Late}

abbrev pub judgement_text : Judgement → List ℕ
judgement_text Met = codes "met"
judgement_text Late = codes "late"
