use Rattle.std.proofs.Common.{◌≡◌, sym, subst, arith}
use Rattle.clock.specs.Multiple.{Divides}
use Rattle.clock.proofs.Multiples.{divides_mod, divides_unmod, divides_zero, divides_self}
use Rattle.clock.proofs.multiple.gcd.Goals as goal

pub loop-y-preserved : goal.loop-y-preserved
loop-y-preserved c = (
  (λ e da db. let p = c.loop-y.invariant.0 e da db in (p.1, divides_mod e c.loop-y.x c.loop-y.y p.0 p.1)),
  (λ e dy dm. c.loop-y.invariant.1 e (divides_unmod e c.loop-y.x c.loop-y.y dy dm) dy),
)

pub returns : goal.returns
returns c =
    let z : c.loop-y.y ≡ 0 = omega arith in
    let last : Divides c.loop-y.x c.loop-y.y = subst (Divides c.loop-y.x) (sym z) (divides_zero c.loop-y.x) in
    let p = c.loop-y.invariant.1 c.loop-y.x (divides_self c.loop-y.x) last in
    record { left = p.0; right = p.1; greatest = λ e da db. (c.loop-y.invariant.0 e da db).0 }
