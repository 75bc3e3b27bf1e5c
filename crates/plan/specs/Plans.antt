-- What an open plan keeps. Assumes nothing.
use Rattle.std.specs.Prelude.{◌≡◌, ◌≤◌, true, [], ◌∷◌, ◌++◌, fold, slice_index, slice_index_or}
use Rattle.std.proofs.Common.{sym, ap, ◌∙◌, arith}
use Rattle.clock.specs.Multiple.{lcm}
use Rattle.plan.specs.declared.open.OpenPlan.{OpenPlan}
use Rattle.plan.specs.declared.record.Record.{Record}
use Rattle.plan.specs.Record.{within}
use Rattle.plan.specs.Cycle.{cycle_of, periods_in}
use Rattle.plan.specs.Held.{held}
use Rattle.plan.specs.Limited.{fits}
use Rattle.plan.specs.Kept.{Sound, Kept, records_within, cycle_some, cycle_here}

pub sound : (p : OpenPlan) → Sound (held p)
sound p = record { few = p.few; within = records_within p.messages.items; distinct = p.distinct; short = p.short }

pub kept : (p : OpenPlan) → Kept (held p) p.schedule.streams.items p.schedule.cycles p.schedule.reach
kept p = record { sound = sound p; carried = p.works.carried; cycled = p.works.cycled; reached = p.works.reached }

module _ (p : OpenPlan) (r : Record) (good : within r ≡ true) where
  -- the cycle that is kept for the message's node
  node_cycle : slice_index_or p.schedule.cycles r.node 0 ≡ cycle_of r.node (held p)
  node_cycle = p.works.cycled r.node (let n = (fits r good).node in omega arith)

  pub node_cycle_some : 1 ≤ slice_index p.schedule.cycles r.node
  node_cycle_some = omega (arith, node_cycle, cycle_some r.node (held p) (sound p).within)

  -- and the one with the message's period
  pub node_cycle_with : fold lcm (slice_index p.schedule.cycles r.node) (periods_in r.kind) ≡ cycle_of r.node (held p ++ r ∷ [])
  node_cycle_with = ap (λ c. fold lcm c (periods_in r.kind)) node_cycle ∙ sym (cycle_here (held p) r)
