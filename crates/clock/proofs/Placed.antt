-- The places of a stream keep what is asked of a traffic. Assumes nothing.
use Rattle.std.proofs.Common.{◌≡◌, ℕ, ◌+◌, ◌-◌, ◌*◌, ◌^◌, ◌≤◌, false, pos, ◌+ℤ◌, neg_ℤ, ◌≤ℤ◌, ◌<ℤ◌, ap, ◌∙◌, inl, inr, add-mul, arith}
use Rattle.std.proofs.lemmas.Nat.{mul-le}
use Rattle.std.proofs.lemmas.Int.{ints}
use Rattle.std.proofs.lemmas.Bool.{cases_lt, both_ways}
use Rattle.bus.specs.Meaning.{next_phase}
use Rattle.clock.specs.declared.timing.Timing.{Timing}
use Rattle.clock.specs.declared.timing.Timing.TheVariants.{Timed, Event}
use Rattle.clock.specs.Multiple.{Divides}
use Rattle.clock.specs.Timing.{Paced, lead, place_of, turns_at}
use Rattle.clock.proofs.Leads.{lead_below, lead_next, lead_cycle}
use Rattle.clock.proofs.Turnings.{turns_yes}

-- a period or gap is at most 1,048,576
abbrev pub Brief : Timing → Type 0
Brief (Timed period offset) = period ≤ 1048576
Brief (Event gap) = gap ≤ 1048576

-- the cycle is one of whole periods
abbrev pub Cycles : ℕ → Timing → Type 0
Cycles c (Timed period offset) = Divides period c
Cycles c (Event gap) = Unit {0}

pub place_first : (t : Timing) (jitter p b : ℕ) → jitter ≤ b → neg_ℤ (pos b) ≤ℤ place_of t jitter p 1
place_first (Timed period offset) jitter p b h = omega (arith, ints)
place_first (Event gap) jitter p b h = omega (arith, ints)

-- one instance more is a period or gap more
step_more : (q t : ℕ) → 1 ≤ q → (q + 1 - 1) * t ≡ (q - 1) * t + t
step_more q t h = let e : q + 1 - 1 ≡ q - 1 + 1 = omega arith in ap (λ x. x * t) e ∙ omega (arith, add-mul (q - 1) 1 t)

pub place_apart : (t : Timing) (jitter p q : ℕ) → Paced t → 1 ≤ q → (place_of t jitter p q +ℤ pos 1) ≤ℤ place_of t jitter p (q + 1)
place_apart (Timed period offset) jitter p q some h = let s = step_more q period h in omega (arith, ints)
place_apart (Event gap) jitter p q some h = let s = step_more q gap h in omega (arith, ints)

pub place_small : (t : Timing) (jitter p q : ℕ) → Paced t → Brief t → q ≤ 4194306 → place_of t jitter p q <ℤ pos (2 ^ 62)
place_small (Timed period offset) jitter p q some brief h =
    let far = mul-le (q - 1) period 4194305 1048576 (omega arith) brief in
    let near = lead_below period offset jitter some p in
    omega (arith, ints)
place_small (Event gap) jitter p q some brief h = let far = mul-le (q - 1) gap 4194305 1048576 (omega arith) brief in omega (arith, ints)

pub place_closer : (c : ℕ) (t : Timing) (jitter p q : ℕ) → Paced t → Cycles c t → turns_at t jitter p ≡ false → place_of t jitter (next_phase c p) q ≤ℤ place_of t jitter p q
place_closer c (Timed period offset) jitter p q some whole still = elim (cases_lt (lead period offset jitter p) 1) [
  | inl none ↦ absurd (both_ways (turns_at (Timed period offset) jitter p) still (turns_yes period offset jitter p (omega arith)))
  | inr ahead ↦
      let next : lead period offset jitter (next_phase c p) ≡ lead period offset jitter p - 1 = lead_cycle period offset jitter some c (p + 1) whole ∙ lead_next period offset jitter some p ahead in
      omega (arith, ints)
]
place_closer c (Event gap) jitter p q some whole still = omega (arith, ints)
