-- Each worked example. Assumes nothing.
use Rattle.std.proofs.Common.{◌≡◌, ℕ, ◌+◌, ◌<◌, ◌≤◌, Bool, true, not, ◌&&◌, leb, List, length, Some, refl, arith}
use Rattle.std.proofs.lemmas.Bool.{and_parts, leb-true, not-true}
use Rattle.clock.specs.Multiple.{lcm_steps}
use Rattle.plan.specs.declared.record.Record.{Record}
use Rattle.plan.specs.Cycle.{all_within}
use Rattle.plan.specs.Open.{apart, too_long}
use Rattle.plan.specs.Streams.{streams_of, traffic_of}
use Rattle.plan.specs.Kept.{Sound}
use Rattle.plan.specs.Carried.{limits_of, laws_of}
use Rattle.delay.specs.Delayed.{delayed, listed, largest_of}
use Rattle.delay.specs.Lawful.{delayed_limits, delayed_laws}
use Rattle.worked.specs.Examples.{BoundOf, Holds, timed, delays, one_node, two_nodes, mixed, urgent_events, early_events, ExamplesHold}
use Rattle.worked.proofs.Computing.{computed}
use Rattle.worked.proofs.Exact.{computed_is}

-- whether a plan can hold the records
abbrev sound : List Record → Bool
sound rs = leb (length rs) 64 && (all_within rs && (apart rs && not (too_long rs)))

is_sound : (rs : List Record) → sound rs ≡ true → Sound rs
is_sound rs e =
    let a = and_parts _ _ e in
    let b = and_parts _ _ a.1 in
    let c = and_parts _ _ b.1 in
    record { few = leb-true _ _ a.0; within = b.0; distinct = c.0; short = not-true _ c.1 }

-- the bound that is computed of a stream of some messages
planned : (rs : List Record) (i b : ℕ) → sound rs ≡ true → i < length (streams_of rs) → computed (traffic_of rs) i ≡ Some b → Holds (BoundOf (traffic_of rs) i b)
planned rs i b e known is =
    let s = is_sound rs e in
    (known, computed_is (traffic_of rs) (limits_of rs s) (laws_of rs s) i known b is)

-- and where they are delayed
postponed : (rs : List Record) (late : List ℕ) (i b : ℕ) → sound rs ≡ true → (traffic_of rs).reach + largest_of late ≤ 16777216 → i < length (streams_of rs) → computed (delayed (traffic_of rs) (listed late)) i ≡ Some b → Holds (BoundOf (delayed (traffic_of rs) (listed late)) i b)
postponed rs late i b e fits known is =
    let s = is_sound rs e in
    (known, computed_is (delayed (traffic_of rs) (listed late)) (delayed_limits (traffic_of rs) (limits_of rs s) (listed late) fits) (delayed_laws (traffic_of rs) (limits_of rs s) (listed late) (laws_of rs s)) i known b is)

-- this one, and the rest
◌and◌ : {A B : Type 0} → A → B → A × B
a and b = (a, b)

infixr 4 ◌and◌
pub examples_hold : ExamplesHold
unfolding too_long lcm_steps
examples_hold =
    refl
    and refl
    and (omega arith, refl)
    and (omega arith, refl)
    and (omega arith, omega arith, refl)
    and (omega arith, omega arith, refl)
    and (omega arith, omega arith, refl)
    and planned timed _ _ refl (omega arith) refl
    and postponed timed delays _ _ refl (omega arith) (omega arith) refl
    and planned one_node _ _ refl (omega arith) refl
    and planned two_nodes _ _ refl (omega arith) refl
    and planned mixed _ _ refl (omega arith) refl
    and planned mixed _ _ refl (omega arith) refl
    and planned urgent_events _ _ refl (omega arith) refl
    and planned early_events _ _ refl (omega arith) refl
    and tt
