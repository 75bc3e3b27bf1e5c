use Rattle.std.proofs.Common.{Ok, rules}
use Rattle.settled.specs.Holding.{holding, VerdictAsked}
use Rattle.settled.proofs.Delivering.{verdicts_hold}
use Rattle.settled.proofs.settled.SettledPlan.verdict.Goals as goal

pub returns-clause-delivered : goal.returns-clause-delivered
returns-clause-delivered c =
    let verdict = c.in_ok-row.row.now.verdict in
    let asked : VerdictAsked (holding c.args.self.now) c.args.identifier (Ok verdict) = search rules in
    verdicts_hold c.args.self.now c.args.identifier verdict asked
