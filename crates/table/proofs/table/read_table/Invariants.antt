use Rattle.std.proofs.Common.{length}
use Rattle.plan.specs.Held.{held}
use Rattle.table.proofs.Taking.{Taken}
use Rattle.table.proofs.table.read_table.Given as goal

abbrev pub invariant-loop-rest : goal.invariant-loop-rest
invariant-loop-rest l = Taken (held l.initial.plan) l.text l.rest l.line (held l.plan)

abbrev pub decreases-loop-rest : goal.decreases-loop-rest
decreases-loop-rest l = length l.rest
