use Rattle.worked.proofs.Running.{runs_kept}
use Rattle.worked.proofs.runs_kept.Goals as goal

pub returns : goal.returns
returns c = runs_kept
