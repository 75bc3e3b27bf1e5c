-- The places of a timed and of an event stream, and its turning phases. Assumes nothing.
use Rattle.std.specs.Prelude.{◌≡◌, ℕ, ◌+◌, ◌-◌, ◌*◌, ◌%◌, ◌<◌, ◌≤◌, Bool, true, false, ◌&&◌, ℤ, pos, ◌+ℤ◌, ◌-ℤ◌, ◌*ℤ◌, neg_ℤ, ◌≤ℤ◌, ◌<ℤ◌, Some, None, Ok, Err, Option, Result, int_le}
use Rattle.bus.specs.declared.refusal.Refusal.{Refusal}
use Rattle.bus.specs.declared.refusal.Refusal.TheVariants.{Question}
use Rattle.bus.specs.Asked.{Asked}
use Rattle.clock.specs.declared.timing.Timing.{Timing}
use Rattle.clock.specs.declared.timing.Timing.TheVariants.{Timed, Event}

-- a period and a gap are not 0
abbrev pub Paced : Timing → Type 0
Paced (Timed period offset) = 1 ≤ period
Paced (Event gap) = 1 ≤ gap

-- how far the first place lies past -jitter
abbrev pub lead : ℕ → ℕ → ℕ → ℕ → ℕ
lead period offset jitter p = (offset + jitter + (period - p % period)) % period

-- and how far the place of instance q
abbrev pub late : Timing → ℕ → ℕ → ℕ → ℕ
late (Timed period offset) jitter p q = lead period offset jitter p + (q - 1) * period
late (Event gap) jitter p q = (q - 1) * gap

-- the place of instance q at the phase p
abbrev pub place_of : Timing → ℕ → ℕ → ℕ → ℤ
place_of t jitter p q = pos (late t jitter p q) -ℤ pos jitter

abbrev pub MultipleOf : ℕ → ℤ → Type 0
MultipleOf period x = (k : ℤ) × (x ≡ k *ℤ pos period)

-- d is the least, not below -jitter, for which p + d - offset is a multiple of the period
pub record IsFirst (period offset jitter p : ℕ) (d : ℤ) : Type 0 where
  pub early : neg_ℤ (pos jitter) ≤ℤ d
  pub meets : MultipleOf period ((pos p +ℤ d) -ℤ pos offset)
  pub least : (x : ℤ) → neg_ℤ (pos jitter) ≤ℤ x → MultipleOf period ((pos p +ℤ x) -ℤ pos offset) → d ≤ℤ x

-- such is the first place of a timed stream
abbrev pub FirstPlaces : Type 0
FirstPlaces = (period offset jitter p : ℕ) → 1 ≤ period → IsFirst period offset jitter p (place_of (Timed period offset) jitter p 1)

abbrev pub same : ℤ → ℤ → Bool
same x y = int_le x y && int_le y x

-- a timed stream turns at a phase where its first place is -jitter; an event stream never does
abbrev pub turns_at : Timing → ℕ → ℕ → Bool
turns_at (Timed period offset) jitter p = same (place_of (Timed period offset) jitter p 1) (neg_ℤ (pos jitter))
turns_at (Event gap) jitter p = false

abbrev pub PlaceTold : Timing → ℕ → ℕ → ℕ → Result ℤ Refusal → Type 0
PlaceTold t jitter p q r = Asked (Paced t × (1 ≤ q) × (q ≤ 4194306)) (place_of t jitter p q) r

-- the first n instances, and no others, have a place of at most w
pub record Counted (t : Timing) (jitter p w n : ℕ) : Type 0 where
  pub placed : (q : ℕ) → 1 ≤ q → q ≤ n → place_of t jitter p q ≤ℤ pos w
  pub later : (q : ℕ) → n < q → pos w <ℤ place_of t jitter p q

abbrev pub Counts : Timing → ℕ → ℕ → ℕ → Result ℕ Refusal → Type 0
Counts t jitter p w (Ok n) = Counted t jitter p w n
Counts t jitter p w (Err e) = ⊥

pub record CountTold (t : Timing) (jitter p w : ℕ) (r : Result ℕ Refusal) : Type 0 where
  pub answered : Paced t → w + jitter ≤ 20971520 → Counts t jitter p w r
  pub refused : (Paced t × (w + jitter ≤ 20971520) → ⊥) → r ≡ Err Question

-- the first phase from p on at which the stream turns, or that there is none
abbrev pub FirstTurning : Timing → ℕ → ℕ → Option ℕ → Type 0
FirstTurning t jitter p (Some n) = (p ≤ n) × (turns_at t jitter n ≡ true) × ((k : ℕ) → p ≤ k → k < n → turns_at t jitter k ≡ false)
FirstTurning t jitter p None = (k : ℕ) → p ≤ k → turns_at t jitter k ≡ false

abbrev pub TurnsFirst : Timing → ℕ → ℕ → Result (Option ℕ) Refusal → Type 0
TurnsFirst t jitter p (Ok n) = FirstTurning t jitter p n
TurnsFirst t jitter p (Err e) = ⊥

pub record TurnTold (t : Timing) (jitter p : ℕ) (r : Result (Option ℕ) Refusal) : Type 0 where
  pub answered : Paced t → TurnsFirst t jitter p r
  pub refused : (Paced t → ⊥) → r ≡ Err Question
