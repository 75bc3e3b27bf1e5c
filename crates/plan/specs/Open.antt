-- What a plan may hold, what each call makes of it, and what refuses the call. Assumes nothing.
use Rattle.std.specs.Prelude.{◌≡◌, ℕ, ◌<◌, Bool, true, false, cond, not, ◌&&◌, ◌||◌, List, [], ◌∷◌, ◌++◌, length, Some, None, Option, ◌==◌, nat_le, nat_lt, slice_index}
use Rattle.bus.specs.declared.refusal.Refusal.TheVariants.{Held, NotHeld, Full, Cycle}
use Rattle.bus.specs.Refused.{Rules}
use Rattle.bus.specs.Sums.{largest_below}
use Rattle.plan.specs.declared.record.Record.{Record}
use Rattle.plan.specs.Record.{limits}
use Rattle.plan.specs.Cycle.{cycle_of}

-- whether a record has the identifier
abbrev pub holds : ℕ → List Record → Bool
holds identifier [] = false
holds identifier (r ∷ rs) = r.identifier == identifier || holds identifier rs

-- whether no two records have the same
abbrev pub apart : List Record → Bool
apart [] = true
apart (r ∷ rs) = not (holds r.identifier rs) && apart rs

-- whether the cycle of some node is above 4,194,304
unfoldable pub too_long : List Record → Bool
too_long rs = nat_lt 4194304 (largest_below 16 (λ n. cycle_of n rs))

-- what refuses a new record, in rising number
unfoldable pub enter_rules : Record → List Record → Rules
enter_rules r rs = limits r ++ (holds r.identifier rs, Held) ∷ (nat_le 64 (length rs), Full) ∷ (too_long (rs ++ r ∷ []), Cycle) ∷ []

-- the record with the identifier gives its place to others; those before it and those after it stay as they are
abbrev pub giving_way : ℕ → List Record → List Record → List Record
giving_way identifier others [] = []
giving_way identifier others (r ∷ rs) = cond (r.identifier == identifier) (others ++ rs) (r ∷ giving_way identifier others rs)

-- a record stands in the place of the one with its identifier
abbrev pub altered : Record → List Record → List Record
altered r rs = giving_way r.identifier (r ∷ []) rs

-- nothing stands in the place of the one with the identifier
abbrev pub struck : ℕ → List Record → List Record
struck identifier rs = giving_way identifier [] rs

-- what refuses a record in the place of another, in rising number; the cycles are those of the records as they would stand
unfoldable pub alter_rules : Record → List Record → Rules
alter_rules r rs = limits r ++ (not (holds r.identifier rs), NotHeld) ∷ (too_long (altered r rs), Cycle) ∷ []

-- what refuses to take a record out
unfoldable pub strike_rules : ℕ → List Record → Rules
strike_rules identifier rs = (not (holds identifier rs), NotHeld) ∷ []

-- the cycle of each node, unless one is above 4,194,304
abbrev pub CyclesAsked : List Record → Option (List ℕ) → Type 0
CyclesAsked rs (Some cycles) = ((n : ℕ) → n < 16 → slice_index cycles n ≡ cycle_of n rs) × (too_long rs ≡ false)
CyclesAsked rs None = too_long rs ≡ true
