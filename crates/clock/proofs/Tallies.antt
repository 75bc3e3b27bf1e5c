-- How many instances are placed within a window. Assumes nothing.
use Rattle.std.proofs.Common.{ℕ, ◌+◌, ◌-◌, ◌*◌, ◌/◌, ◌<◌, ◌≤◌, pos, ◌-ℤ◌, ◌≤ℤ◌, ◌<ℤ◌, Ok, inl, inr, mul-le-mul_right, div-mul-le_self, arith}
use Rattle.std.proofs.lemmas.Nat.{le-div}
use Rattle.std.proofs.lemmas.Int.{ints}
use Rattle.std.proofs.lemmas.Bool.{cases_lt}
use Rattle.clock.specs.declared.timing.Timing.{Timing}
use Rattle.clock.specs.declared.timing.Timing.TheVariants.{Event}
use Rattle.clock.specs.Timing.{Paced, Counted, CountTold}

in_time : (x jitter w : ℕ) → x ≤ w + jitter → (pos x -ℤ pos jitter) ≤ℤ pos w
in_time x jitter w h = omega (arith, ints)

too_late : (x jitter w : ℕ) → w + jitter < x → pos w <ℤ (pos x -ℤ pos jitter)
too_late x jitter w h = omega (arith, ints)

-- the first d / t + 1 multiples of t are at most d
steps_within : (d t k : ℕ) → k < d / t + 1 → k * t ≤ d
steps_within d t k h = let q : k ≤ d / t = omega arith in omega (arith, mul-le-mul_right t q, div-mul-le_self d t)

steps_past : (d t k : ℕ) → 1 ≤ t → d / t + 1 ≤ k → d < k * t
steps_past d t k some h = elim (cases_lt d (k * t)) [ inl past ↦ past | inr upto ↦ absurd (omega (arith, le-div k d t some upto)) ]

pub counted_event : (gap jitter p w : ℕ) → 1 ≤ gap → Counted (Event gap) jitter p w ((w + jitter) / gap + 1)
counted_event gap jitter p w some = record {
  placed = λ q one upto. in_time ((q - 1) * gap) jitter w (steps_within (w + jitter) gap (q - 1) (omega arith));
  later = λ q past. too_late ((q - 1) * gap) jitter w (steps_past (w + jitter) gap (q - 1) some (omega arith));
}

pub count_answered : (t : Timing) (jitter p w n : ℕ) → Paced t → w + jitter ≤ 20971520 → Counted t jitter p w n → CountTold t jitter p w (Ok n)
count_answered t jitter p w n paced fits counted = record { answered = λ _ _. counted; refused = λ out. absurd (out (paced, fits)) }
