-- The cycle of a node: the least common multiple of its periods. Assumes nothing.
use Rattle.std.specs.Prelude.{◌≡◌, ℕ, ◌<◌, ◌≤◌, Bool, true, cond, ◌&&◌, List, [], ◌∷◌, Some, None, Option, ◌==◌}
use Rattle.std.specs.List.{flat_map}
use Rattle.clock.specs.Multiple.{LeastCommon, lcm_of}
use Rattle.plan.specs.declared.record.Kind.{Kind}
use Rattle.plan.specs.declared.record.Kind.TheVariants.{Periodic, Sporadic, Mixed}
use Rattle.plan.specs.declared.record.Record.{Record}
use Rattle.plan.specs.Record.{within}

-- the period of a message's timed stream, if it has one
abbrev pub periods_in : Kind → List ℕ
periods_in (Periodic period offset) = period ∷ []
periods_in (Sporadic gap) = []
periods_in (Mixed period offset gap) = period ∷ []

-- if it is a message of node n
abbrev pub periods_at : ℕ → Record → List ℕ
periods_at n r = cond (r.node == n) (periods_in r.kind) []

-- the periods of node n
abbrev pub periods : ℕ → List Record → List ℕ
periods n rs = flat_map (periods_at n) rs

-- their least common multiple, 1 where there is none
abbrev pub cycle_of : ℕ → List Record → ℕ
cycle_of n rs = lcm_of (periods n rs)

-- a cycle is told unless it is above 4,194,304
abbrev pub CycleTold : ℕ → Option ℕ → Type 0
CycleTold whole (Some cycle) = (cycle ≡ whole) × (cycle ≤ 4194304)
CycleTold whole None = 4194304 < whole

abbrev pub CycleAsked : ℕ → List Record → Option ℕ → Type 0
CycleAsked n rs told = CycleTold (cycle_of n rs) told

abbrev pub all_within : List Record → Bool
all_within [] = true
all_within (r ∷ rs) = within r && all_within rs

-- so it is indeed
abbrev pub LeastCycles : Type 0
LeastCycles = (rs : List Record) → all_within rs ≡ true → (n : ℕ) → LeastCommon (periods n rs) (cycle_of n rs)
