use Rattle.std.proofs.Common.{sym, arith}
use Rattle.bus.proofs.Answered.{answer}
use Rattle.sheet.proofs.Measuring.{found, count_found}
use Rattle.sheet.proofs.sheet.SheetTraffic.count.Goals as goal

pub overflow_sub-self : goal.overflow_sub-self
overflow_sub-self c =
    let f = found c.args.self.now c.in_ok-sender.ensures in
    omega (arith, c.args.self.now.largest)

pub within-requires : goal.within-requires
within-requires c =
    let f = found c.args.self.now c.in_ok-sender.ensures in
    (f.keeps, omega (arith, c.args.self.now.largest))

pub returns : goal.returns
returns c =
    let f = found c.args.self.now c.in_ok-sender.ensures in
    answer (f.known, omega arith, omega (arith, c.args.self.now.largest))
    (sym (count_found c.args.self.now c.args.stream c.args.phase c.args.window c.within.result c.in_ok-sender.sender f (omega arith) c.within.ensures.last c.within.ensures.next))
