use Rattle.std.proofs.Common.{ℕ}
use Rattle.clock.specs.Multiple.{Divides}
use Rattle.clock.proofs.multiple.gcd.Given as goal

-- the common divisors stay the same
abbrev pub invariant-loop-y : goal.invariant-loop-y
invariant-loop-y l =
    ((e : ℕ) → Divides e l.a → Divides e l.b → Divides e l.x × Divides e l.y)
    × ((e : ℕ) → Divides e l.x → Divides e l.y → Divides e l.a × Divides e l.b)

abbrev pub decreases-loop-y : goal.decreases-loop-y
decreases-loop-y l = l.y
