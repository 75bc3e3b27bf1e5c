use Rattle.std.proofs.Common.{rules}
use Rattle.settled.specs.Holding.{holding, RowAsked}
use Rattle.settled.proofs.Delivering.{row_holds}
use Rattle.settled.proofs.settled.SettledPlan.row.Goals as goal

pub returns-clause-delivered : goal.returns-clause-delivered
returns-clause-delivered c =
    let asked : RowAsked (holding c.args.self.now) c.args.position c.ok_or.result = search rules in
    row_holds c.args.self.now c.args.position c.ok_or.result asked
