use Rattle.std.proofs.Common.{◌≡◌, ℕ, ◌<◌, ◌≤◌, length, get_or}
use Rattle.plan.specs.Cycle.{cycle_of}
use Rattle.plan.specs.Messages.{records_of}
use Rattle.plan.proofs.cycle.cycles_of.Given as goal

abbrev pub invariant-loop-node : goal.invariant-loop-node
invariant-loop-node l = (length l.cycle-items ≡ 16) × ((n : ℕ) → n < l.node → get_or l.cycle-items n 0 ≡ cycle_of n (records_of l.messages)) × ((n : ℕ) → n < l.node → cycle_of n (records_of l.messages) ≤ 4194304)
