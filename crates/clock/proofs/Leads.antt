-- How a timed stream's lead falls from phase to phase. Assumes nothing.
use Rattle.std.proofs.Common.{◌≡◌, ℕ, zero, suc, ◌+◌, ◌-◌, ◌*◌, ◌/◌, ◌%◌, ◌<◌, ◌≤◌, ◌⊎◌, sym, ap, ◌∙◌, inl, inr, mul_assoc, add-mul, arith}
use native.Mathlib.Nat.{div-add-mod, mul-add-mod_self_left}
use Rattle.std.proofs.lemmas.Nat.{mod-mul-add, div-add-mod', mod_below}
use Rattle.std.proofs.lemmas.Bool.{cases_lt}
use Rattle.clock.specs.Multiple.{Divides}
use Rattle.clock.specs.Timing.{lead}

-- one less has one less left over, unless nothing was
mod_less : (m t : ℕ) → 1 ≤ m % t → 1 ≤ t → (m - 1) % t ≡ m % t - 1
mod_less m t h some =
    let split : m - 1 ≡ (m / t) * t + (m % t - 1) = (let e = div-add-mod' m t in omega arith) in
    ap (λ x. x % t) split ∙ mod-mul-add (m / t) t (m % t - 1) (let l = mod_below m t some in omega arith)

mod_next : (p t : ℕ) → 1 ≤ t → ((p % t + 1 < t) × ((p + 1) % t ≡ p % t + 1)) ⊎ ((p % t + 1 ≡ t) × ((p + 1) % t ≡ 0))
mod_next p t some =
    let below = mod_below p t some in
    let split = div-add-mod' p t in
    elim (cases_lt (p % t + 1) t) [
      | inl h ↦ inl (h, (let s : p + 1 ≡ (p / t) * t + (p % t + 1) = omega arith in ap (λ x. x % t) s ∙ mod-mul-add (p / t) t (p % t + 1) h))
      | inr h ↦ inr (omega arith, (let s : p + 1 ≡ (p / t + 1) * t + 0 = omega (arith, add-mul (p / t) 1 t) in ap (λ x. x % t) s ∙ mod-mul-add (p / t + 1) t 0 some))
    ]

module _ (period offset jitter : ℕ) (some : 1 ≤ period) where
  pub lead_below : (p : ℕ) → lead period offset jitter p < period
  lead_below p = mod_below _ period some

  pub lead_next : (p : ℕ) → 1 ≤ lead period offset jitter p → lead period offset jitter (p + 1) ≡ lead period offset jitter p - 1
  lead_next p h = elim (mod_next p period some) [
    | inl c ↦
        ap (λ x. (offset + jitter + (period - x)) % period) c.1 ∙ ap (λ x. x % period) (let l = c.0 in omega arith)
        ∙ mod_less (offset + jitter + (period - p % period)) period h some
    | inr c ↦
        let a : ℕ = offset + jitter in
        let whole : a + (period - 0) ≡ period * 1 + a = omega arith in
        let less : a + (period - p % period) - 1 ≡ a = (let l = c.0 in omega arith) in
        ap (λ x. (offset + jitter + (period - x)) % period) c.1 ∙ ap (λ x. x % period) whole ∙ mul-add-mod_self_left period 1 a
        ∙ sym (ap (λ x. x % period) less) ∙ mod_less (offset + jitter + (period - p % period)) period h some
  ]

  pub lead_falls : (p j : ℕ) → j ≤ lead period offset jitter p → lead period offset jitter (p + j) ≡ lead period offset jitter p - j
  lead_falls p zero h = let e : p + 0 ≡ p = omega arith in omega (arith, ap (lead period offset jitter) e)
  lead_falls p (suc j) h =
      let before = lead_falls p j (omega arith) in
      let e : p + suc j ≡ p + j + 1 = omega arith in
      omega (arith, ap (lead period offset jitter) e, lead_next (p + j) (omega (arith, before)), before)

  -- in a cycle of whole periods the lead at the next phase is the same as without an end
  pub lead_cycle : (c p : ℕ) → Divides period c → lead period offset jitter (p % c) ≡ lead period offset jitter p
  lead_cycle c p (k, e) =
      ap (λ x. (offset + jitter + (period - x)) % period)
      (sym (ap (λ y. y % period) (sym (div-add-mod p c) ∙ ap (λ y. y * (p / c) + p % c) e ∙ ap (λ y. y + p % c) (mul_assoc period k (p / c))) ∙ mul-add-mod_self_left period (k * (p / c)) (p % c)))
