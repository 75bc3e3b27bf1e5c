use Rattle.std.proofs.Common.{ap, arith}
use Rattle.std.proofs.lemmas.Int.{ints}
use Rattle.bus.proofs.Answered.{answer}
use Rattle.sheet.specs.declared.sender.Sender.{Sender}
use Rattle.sheet.specs.Sender.{span}
use Rattle.sheet.proofs.Measuring.{found}
use Rattle.sheet.proofs.sheet.SheetTraffic.place.Goals as goal

pub overflow_cast-result : goal.overflow_cast-result
overflow_cast-result c =
    let f = found c.args.self.now c.in_ok-sender.ensures in
    omega (arith, ints, f.short c.args.instance c.if-instance-lt1.false)

pub overflow_sub-result : goal.overflow_sub-result
overflow_sub-result c =
    let f = found c.args.self.now c.in_ok-sender.ensures in
    omega (arith, ints, f.short c.args.instance c.if-instance-lt1.false)

pub returns : goal.returns
returns c =
    let f = found c.args.self.now c.in_ok-sender.ensures in
    let q = c.args.instance in
    let same_span = ap (λ (y : Sender). span y.spans q) f.is in
    let same-jitter = ap (λ (y : Sender). y.jitter) f.is in
    answer (f.known, omega arith, c.if-instance-lt1.false, c.if-instance-gt-LAST_INSTANCE.false) (omega (arith, ints, f.short q c.if-instance-lt1.false))
