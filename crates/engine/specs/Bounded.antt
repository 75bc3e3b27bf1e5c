-- What the engine answers of a phase and of a stream. Assumes nothing.
use Rattle.std.specs.Prelude.{◌≡◌, ℕ, ◌<◌, Some, None, Ok, Err, Option, Result}
use Rattle.bus.specs.declared.refusal.Refusal.{Refusal}
use Rattle.bus.specs.declared.refusal.Refusal.TheVariants.{Question}
use Rattle.bus.specs.Meaning.{Meaning}
use Rattle.bus.specs.Bound.{Unsettled, IsBound}
use Rattle.bus.specs.Search.{SettledPhase}
use Rattle.bus.specs.Run.{Delivered}

module _ (m : Meaning) where
  -- the largest response at a phase, or that something reached never settles
  abbrev pub Worst : ℕ → ℕ → Option ℕ → Type 0
  Worst i p (Some b) = SettledPhase m i p b
  Worst i p None = Unsettled m i

  -- what an answer says of a stream: its bound, or that it is unsettled
  abbrev pub OutcomeIs : ℕ → Option ℕ → Type 0
  OutcomeIs i (Some b) = IsBound m i b
  OutcomeIs i None = Unsettled m i

  -- the answer for a stream, or the refusal of a question where there is no such stream
  abbrev pub BoundAsked : ℕ → Result (Option ℕ) Refusal → Type 0
  BoundAsked i (Ok answer) = (i < m.streams) × OutcomeIs i answer
  BoundAsked i (Err e) = (e ≡ Question) × (i < m.streams → ⊥)

  -- a bound is kept in every run that keeps the traffic's places
  abbrev pub BoundDelivered : ℕ → Result (Option ℕ) Refusal → Type 0
  BoundDelivered i (Ok (Some b)) = Delivered m i b
  BoundDelivered i (Ok None) = Unit {0}
  BoundDelivered i (Err e) = Unit {0}
