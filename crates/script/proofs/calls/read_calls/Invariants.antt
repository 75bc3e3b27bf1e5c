use Rattle.std.proofs.Common.{length, vec_items}
use Rattle.script.proofs.Reading.{Gone}
use Rattle.script.proofs.calls.read_calls.Given as goal

abbrev pub invariant-loop-rest : goal.invariant-loop-rest
invariant-loop-rest l = Gone l.text (vec_items l.calls) l.rest

abbrev pub decreases-loop-rest : goal.decreases-loop-rest
decreases-loop-rest l = length l.rest
