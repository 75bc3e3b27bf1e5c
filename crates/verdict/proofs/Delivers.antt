-- The bound of a verdict is kept. Assumes nothing.
use Rattle.std.proofs.Common.{ℕ, Some, None, Option}
use Rattle.bus.specs.Meaning.{Meaning, Limits, Laws}
use Rattle.bus.proofs.Delivering.{bounds_hold, delivered_more}
use Rattle.verdict.specs.declared.Verdict.{Verdict}
use Rattle.verdict.specs.Judged.{VerdictIs, Delivers}

-- each stream of the message keeps its own bound, which is no larger
pub verdict_delivers : (m : Meaning) → Limits m → Laws m → (identifier due : ℕ) (v : Option Verdict) → VerdictIs m identifier due v → Delivers m identifier v
verdict_delivers m limits laws identifier due (Some v) is = λ i sends.
    let found = is.0.each i sends in
    delivered_more m i found.0 v.bound found.2 (bounds_hold m limits laws i found.0 sends.known found.1)
verdict_delivers m limits laws identifier due None is = tt
