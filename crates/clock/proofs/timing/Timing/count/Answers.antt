use Rattle.std.proofs.Common.{◌≤◌, refl, subst, arith}
use Rattle.clock.specs.Timing.{Paced}
use Rattle.clock.proofs.Tallies.{counted_event, count_answered}
use Rattle.clock.proofs.timing.Timing.count.Goals as goal

pub returns-in-Event : goal.returns-in-Event
returns-in-Event c =
    let some : 1 ≤ c.in-Event.gap = subst Paced c.in-Event.is (c.if-not-is_paced.ensures.0 refl) in
    rw (c.in-Event.is, c.from-in-Event.ensures, c.from.ensures, c.from-2.ensures)
    (count_answered _ c.args.jitter c.args.phase c.args.window _ some (omega arith) (counted_event c.in-Event.gap c.args.jitter c.args.phase c.args.window some))
