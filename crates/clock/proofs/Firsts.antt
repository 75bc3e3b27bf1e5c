-- The closed form of a first place is the least that meets the period. Assumes nothing.
use Rattle.std.proofs.Common.{◌≡◌, ℕ, suc, ◌+◌, ◌-◌, ◌*◌, ◌/◌, ◌%◌, ◌≤◌, ℤ, pos, negsuc, ◌+ℤ◌, ◌-ℤ◌, neg_ℤ, ◌≤ℤ◌, sym, ap, ◌∙◌, inl, inr, add-mul, arith}
use native.Mathlib.Nat.{mul-mod_left, add-mul-mod_self_right}
use Rattle.std.proofs.lemmas.Nat.{div-add-mod', mod_below}
use Rattle.std.proofs.lemmas.Int.{ints}
use Rattle.std.proofs.lemmas.Bool.{cases_lt}
use Rattle.clock.specs.declared.timing.Timing.TheVariants.{Timed}
use Rattle.clock.specs.Timing.{lead, late, place_of, MultipleOf, FirstPlaces}
use Rattle.clock.proofs.Leads.{lead_falls}

-- a difference of multiples is one
pub multiple_between : (period a b : ℕ) (z : ℤ) → z +ℤ pos (a * period) ≡ pos (b * period) → MultipleOf period z
multiple_between period a b z e = elim (cases_lt b a) [
  | inl h ↦
      let d : ℕ = a - suc b in
      let s : suc d + b ≡ a = omega arith in
      let m : suc d * period + b * period ≡ a * period = sym (add-mul (suc d) b period) ∙ ap (λ x. x * period) s in
      (negsuc d, omega (arith, ints))
  | inr h ↦
      let d : ℕ = b - a in
      let s : d + a ≡ b = omega arith in
      let m : d * period + a * period ≡ b * period = sym (add-mul d a period) ∙ ap (λ x. x * period) s in
      (pos d, omega (arith, ints))
]

module _ (period offset jitter : ℕ) (some : 1 ≤ period) where
  -- where z meets the period nothing is left to wait for
  lead_none : (z a b : ℕ) → z + a * period ≡ offset + jitter + b * period → lead period offset jitter z ≡ 0
  lead_none z a b e =
      let l = mod_below z period some in
      let d = div-add-mod' z period in
      let m : ℕ = offset + jitter + (period - z % period) in
      let whole : m + b * period ≡ (z / period + a + 1) * period = omega (arith, add-mul (z / period + a) 1 period, add-mul (z / period) a period) in
      sym (add-mul-mod_self_right m b period) ∙ ap (λ x. x % period) whole ∙ mul-mod_left (z / period + a + 1) period

  lead_none_at : (z : ℕ) (x : ℤ) → MultipleOf period ((pos z +ℤ x) -ℤ pos offset) → x ≡ neg_ℤ (pos jitter) → lead period offset jitter z ≡ 0
  lead_none_at z x (pos b, e) is = lead_none z 0 b (omega (arith, ints))
  lead_none_at z x (negsuc a, e) is = lead_none z (suc a) 0 (omega (arith, ints))

  meets : (p : ℕ) → MultipleOf period ((pos p +ℤ place_of (Timed period offset) jitter p 1) -ℤ pos offset)
  meets p =
      let m : ℕ = offset + jitter + (period - p % period) in
      let l = mod_below p period some in
      let d = div-add-mod' p period in
      let q = div-add-mod' m period in
      let s = add-mul (p / period) 1 period in
      let one : late (Timed period offset) jitter p 1 ≡ lead period offset jitter p = omega arith in
      multiple_between period (m / period) (p / period + 1) _ (omega (arith, ints, one, q, d, s, l))

  -- x is y less the jitter
  past_jitter : (x : ℤ) → neg_ℤ (pos jitter) ≤ℤ x → (y : ℕ) × (x ≡ pos y -ℤ pos jitter)
  past_jitter (pos n) h = (n + jitter, omega (arith, ints))
  past_jitter (negsuc n) h = (jitter - suc n, omega (arith, ints))

  least : (p : ℕ) (x : ℤ) → neg_ℤ (pos jitter) ≤ℤ x → MultipleOf period ((pos p +ℤ x) -ℤ pos offset) → place_of (Timed period offset) jitter p 1 ≤ℤ x
  least p x early (k, e) =
      let y = past_jitter x early in
      let is = y.1 in
      let one : late (Timed period offset) jitter p 1 ≡ lead period offset jitter p = omega arith in
      elim (cases_lt y.0 (lead period offset jitter p)) [
        | inl h ↦
            let falls = lead_falls period offset jitter some p y.0 (omega arith) in
            let none = lead_none_at (p + y.0) (neg_ℤ (pos jitter)) (k, omega (arith, ints)) (omega (arith, ints)) in
            absurd (omega (arith, falls, none))
        | inr h ↦ omega (arith, ints)
      ]

pub first_places : FirstPlaces
first_places period offset jitter p some =
    record { early = omega (arith, ints); meets = meets period offset jitter some p; least = least period offset jitter some p }
