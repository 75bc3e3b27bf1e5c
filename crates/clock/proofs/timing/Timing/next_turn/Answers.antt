use Rattle.std.proofs.Common.{◌≤◌, refl, subst, arith}
use Rattle.clock.specs.Timing.{Paced}
use Rattle.clock.proofs.Turnings.{first_turn}
use Rattle.clock.proofs.timing.Timing.next_turn.Goals as goal

pub returns-in-Timed : goal.returns-in-Timed
returns-in-Timed c =
    let some : 1 ≤ c.in-Timed.period = subst Paced c.in-Timed.is (c.if-not-is_paced.ensures.0 refl) in
    rw c.in-Timed.is
    (record { answered = λ _. first_turn c.in-Timed.period c.in-Timed.offset c.args.jitter c.args.phase _ some (omega (arith, c.lead.ensures.is)); refused = λ out. absurd (out some) })
