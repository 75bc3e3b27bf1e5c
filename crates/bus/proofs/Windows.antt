-- Settling windows are found from below, and grow with the instance and toward a nearer phase. Assumes nothing.
use Rattle.std.proofs.Common.{◌≡◌, ℕ, ◌+◌, ◌≤◌, ◌⊎◌, inl, inr, arith}
use Rattle.std.proofs.lemmas.Bool.{cases_lt}
use Rattle.bus.specs.Meaning.{Meaning}
use Rattle.bus.specs.Bound.{horizon, need, Settles, SettlingWindow}
use Rattle.bus.specs.Search.{Starts}
use Rattle.bus.proofs.Nearer.{Nearer, nearer_self}
use Rattle.bus.proofs.Demands.{need_more, need_later, need_earlier}
use Rattle.bus.proofs.Finding.{at_most_or_not, least_below}

module _ (m : Meaning) where
  -- what a window needs is no more than a settling one
  pub starts_on : (i p q w : ℕ) → Starts m i p q w → Starts m i p q (need m i p q w)
  starts_on i p q w starts = λ v settles. omega (arith, need_more m i p p q w v (nearer_self m (m.node i) p) (starts v settles))

  pub starts_later : (i p q w : ℕ) → Starts m i p q w → Starts m i p (q + 1) w
  starts_later i p q w starts = λ v settles. let s : Settles m i p q v = omega (arith, need_later m i p q v) in starts v s

  -- a settling window of the nearer phase settles here too
  pub settles_nearer : (i p c q w : ℕ) → Nearer m (m.node i) p c → Settles m i c q w → Settles m i p q w
  settles_nearer i p c q w near settles = omega (arith, need_more m i p c q w w near (omega arith))

  pub windows_nearer : (i p c q v w : ℕ) → Nearer m (m.node i) p c → SettlingWindow m i p q v → SettlingWindow m i c q w → v ≤ w
  windows_nearer i p c q v w near here there = here.least w (settles_nearer i p c q w near there.settles)

  -- two settling windows are one
  pub windows_same : (i p q v w : ℕ) → SettlingWindow m i p q v → SettlingWindow m i p q w → v ≡ w
  windows_same i p q v w a b = omega (arith, a.least w b.settles, b.least v a.settles)

  -- an instance that settles is not the last that may be asked for
  pub settled_few : (i p q w : ℕ) → 1 ≤ m.longest i → SettlingWindow m i p q w → q + 1 ≤ 4194306
  settled_few i p q w long settling = omega (arith, need_earlier m i p q w long, settling.settles, settling.within)

  -- an instance has a settling window, or none up to h settles
  window_within : (i p q h : ℕ) → ((w : ℕ) × (w ≤ h) × Settles m i p q w × ((v : ℕ) → Settles m i p q v → w ≤ v)) ⊎ ((w : ℕ) → w ≤ h → Settles m i p q w → ⊥)
  window_within i p q h = elim (least_below (Settles m i p q) (λ w. at_most_or_not (need m i p q w) w) (h + 1)) [
    | inl found ↦ inl (found.0, omega arith, found.2, λ v settles. elim (cases_lt v found.0) [ inl less ↦ absurd (found.3 v less settles) | inr more ↦ more ])
    | inr none ↦ inr (λ w l. none w (omega arith))
  ]

  pub window_or_none : (i p q : ℕ) → ((w : ℕ) × SettlingWindow m i p q w) ⊎ ((w : ℕ) → w ≤ horizon → Settles m i p q w → ⊥)
  window_or_none i p q = elim (window_within i p q horizon) [
    | inl found ↦ inl (found.0, record { settles = found.2; within = found.1; least = found.3 })
    | inr none ↦ inr none
  ]
