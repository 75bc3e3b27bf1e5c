use Rattle.std.proofs.Common.{sym, ◌∙◌, subst}
use Rattle.std.specs.List.{AllByRecursion}
use Rattle.std.proofs.ByRecursion.{All-weaker}
use Rattle.clock.specs.Timing.{Paced}
use Rattle.plan.specs.Held.{held}
use Rattle.plan.specs.Streams.{streams_of}
use Rattle.plan.specs.Carried.{Known, all_known}
use Rattle.plan.specs.Plans.{sound}
use Rattle.plan.proofs.open.traffic.OpenPlanTraffic.next_turn.Goals as goal

pub soonest_turn-requires : goal.soonest_turn-requires
soonest_turn-requires c =
    let p = c.args.self.now in
    subst (AllByRecursion (λ s. Paced s.timing)) (sym (c.deref.ensures.value ∙ p.works.carried)) (All-weaker (Known (held p)) (λ s. Paced s.timing) (λ s k. k.paced) (streams_of (held p)) (all_known (held p) (sound p)))
