-- A timed stream turns where its lead is 0, and from p on first as far ahead as its lead there. Assumes nothing.
use Rattle.std.proofs.Common.{◌≡◌, ℕ, ◌+◌, ◌-◌, ◌≤◌, true, false, pos, ◌-ℤ◌, neg_ℤ, Some, ap, ◌∙◌, arith}
use Rattle.std.proofs.lemmas.Int.{ints}
use Rattle.clock.specs.declared.timing.Timing.TheVariants.{Timed}
use Rattle.clock.specs.Timing.{lead, late, same, turns_at, FirstTurning}
use Rattle.clock.proofs.Leads.{lead_falls}

same_yes : (x jitter : ℕ) → x ≡ 0 → same (pos x -ℤ pos jitter) (neg_ℤ (pos jitter)) ≡ true
same_yes x jitter h = grind (arith, ints)

same_no : (x jitter : ℕ) → 1 ≤ x → same (pos x -ℤ pos jitter) (neg_ℤ (pos jitter)) ≡ false
same_no x jitter h = grind (arith, ints)

module _ (period offset jitter : ℕ) where
  pub turns_yes : (p : ℕ) → lead period offset jitter p ≡ 0 → turns_at (Timed period offset) jitter p ≡ true
  turns_yes p h = same_yes (late (Timed period offset) jitter p 1) jitter (omega arith)

  pub turns_no : (p : ℕ) → 1 ≤ lead period offset jitter p → turns_at (Timed period offset) jitter p ≡ false
  turns_no p h = same_no (late (Timed period offset) jitter p 1) jitter (omega arith)

  pub first_turn : (p n : ℕ) → 1 ≤ period → n ≡ p + lead period offset jitter p → FirstTurning (Timed period offset) jitter p (Some n)
  first_turn p n some is = (
    omega arith,
    turns_yes n (ap (lead period offset jitter) is ∙ omega (arith, lead_falls period offset jitter some p (lead period offset jitter p) (omega arith))),
    (λ k low high.
        let e : p + (k - p) ≡ k = omega arith in
        turns_no k (omega (arith, lead_falls period offset jitter some p (k - p) (omega arith), ap (lead period offset jitter) e))),
  )
