use Rattle.delay.proofs.Asking.{passed}
use Rattle.delay.proofs.delayed.DelayedTraffic.turns.Goals as goal

pub returns-in_err-here : goal.returns-in_err-here
returns-in_err-here g c = passed c.in_err-here.ensures (λ f. f) c.from_residual.ensures.1
