-- The verdict on a message, whose streams are those with its identifier. Assumes nothing.
use Rattle.std.specs.Prelude.{◌≡◌, ℕ, ◌<◌, ◌≤◌, cond, Some, None, Ok, Err, Option, Result, nat_le}
use Rattle.bus.specs.declared.refusal.Refusal.{Refusal}
use Rattle.bus.specs.declared.refusal.Refusal.TheVariants.{NotHeld}
use Rattle.bus.specs.Meaning.{Meaning}
use Rattle.bus.specs.Bound.{Unsettled, IsBound}
use Rattle.bus.specs.Run.{Delivered}
use Rattle.verdict.specs.declared.Judgement.{Judgement}
use Rattle.verdict.specs.declared.Judgement.TheVariants.{Met, Late}
use Rattle.verdict.specs.declared.Verdict.{Verdict}

-- met up to the due time, late above it
abbrev pub judgement_of : ℕ → ℕ → Judgement
judgement_of bound due = cond (nat_le bound due) Met Late

module _ (m : Meaning) (identifier : ℕ) where
  -- i is one of the first few streams, and of the message
  pub record Sends (few i : ℕ) : Type 0 where
    pub known : i < few
    pub is : m.identifier i ≡ identifier

  -- b is the largest bound of the message's streams among the first few
  pub record Largest (few b : ℕ) : Type 0 where
    pub each : (i : ℕ) → Sends few i → (c : ℕ) × IsBound m i c × (c ≤ b)
    pub stream : ℕ
    pub sends : Sends few stream
    pub reached : IsBound m stream b

  -- a stream of the message is unsettled
  pub record SomeUnsettled : Type 0 where
    pub stream : ℕ
    pub sends : Sends m.streams stream
    pub unsettled : Unsettled m stream

  -- none if a stream of the message is unsettled, else the largest bound of its streams
  abbrev pub VerdictIs : ℕ → Option Verdict → Type 0
  VerdictIs due (Some v) = Largest m.streams v.bound × (v.judgement ≡ judgement_of v.bound due)
  VerdictIs due None = SomeUnsettled

  -- or that there is no such message
  abbrev pub Judged : ℕ → Result (Option Verdict) Refusal → Type 0
  Judged due (Ok v) = VerdictIs due v
  Judged due (Err e) = (e ≡ NotHeld) × ((i : ℕ) → Sends m.streams i → ⊥)

  -- a bound is kept by each stream of the message, in every run that keeps the traffic's places
  abbrev pub Delivers : Option Verdict → Type 0
  Delivers (Some v) = (i : ℕ) → Sends m.streams i → Delivered m i v.bound
  Delivers None = Unit {0}

  abbrev pub JudgedDelivers : Result (Option Verdict) Refusal → Type 0
  JudgedDelivers (Ok v) = Delivers v
  JudgedDelivers (Err e) = Unit {0}
