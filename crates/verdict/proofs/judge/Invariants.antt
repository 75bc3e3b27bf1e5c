use Rattle.verdict.proofs.Gaining.{Gained}
use Rattle.verdict.proofs.judge.Given as goal

abbrev pub invariant-loop-stream : goal.invariant-loop-stream
invariant-loop-stream g l = Gained (g.T.Traffic.meaning l.traffic) l.identifier l.stream l.most
