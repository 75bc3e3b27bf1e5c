use Rattle.std.proofs.Common.{◌≡◌, ◌≤◌, take}
use Rattle.plan.specs.Cycle.{cycle_of}
use Rattle.plan.specs.Messages.{records_of}
use Rattle.plan.proofs.cycle.cycle_of.Given as goal

abbrev pub invariant-loop-message : goal.invariant-loop-message
invariant-loop-message l = (l.cycle ≡ cycle_of l.node (take l.message-index (records_of l.messages))) × (l.cycle ≤ 4194304)
