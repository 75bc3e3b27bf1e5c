use Rattle.std.proofs.Common.{string_bytes}
use Rattle.settled.specs.Holding.{holding}
use Rattle.report.specs.Report.{ReportsBelow}
use Rattle.report.proofs.report.Given as goal

abbrev pub invariant-loop-identifier : goal.invariant-loop-identifier
invariant-loop-identifier l = ReportsBelow l.identifier (holding l.plan) (string_bytes l.text)
