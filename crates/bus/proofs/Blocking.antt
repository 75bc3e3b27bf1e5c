-- What the blocking makes room for. Assumes nothing.
use Rattle.std.proofs.Common.{ℕ, ◌+◌, ◌<◌, ◌≤◌, leb, arith}
use Rattle.std.proofs.lemmas.Bool.{le-leb}
use Rattle.bus.specs.Sums.{only}
use Rattle.bus.specs.Meaning.{Meaning}
use Rattle.bus.specs.Bound.{blocking}
use Rattle.bus.proofs.Adding.{largest_has, only_yes}

-- a frame of a higher identifier, but for its first bit
pub blocking_covers : (m : Meaning) (i k : ℕ) → k < m.streams → m.identifier i < m.identifier k → m.longest k ≤ blocking m i + 1
blocking_covers m i k known higher =
    let has = largest_has m.streams (λ j. only (leb (m.identifier i) (m.identifier j)) (m.longest j)) k known in
    let yes = only_yes (leb (m.identifier i) (m.identifier k)) (m.longest k) (le-leb _ _ (omega arith)) in
    omega arith
