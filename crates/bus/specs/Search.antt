-- What a search for the bound knows on its way, window by window and phase by phase. Assumes nothing.
use Rattle.std.specs.Prelude.{◌≡◌, ℕ, ◌≤◌, ◌⊎◌, pos, ◌<ℤ◌}
use Rattle.bus.specs.Meaning.{Meaning}
use Rattle.bus.specs.Bound.{Settles, SettlingWindow, Reached, Response}

module _ (m : Meaning) where
  -- no window below w settles
  abbrev pub Starts : ℕ → ℕ → ℕ → ℕ → Type 0
  Starts i p q w = (v : ℕ) → Settles m i p q v → w ≤ v

  -- b is the largest response at the phase, or 0; the first instance that is not listed there has a settling window
  pub record SettledPhase (i p b : ℕ) : Type 0 where
    pub stop : ℕ
    pub counts : 1 ≤ stop
    pub reached : Reached m i p stop
    pub window : ℕ
    pub settling : SettlingWindow m i p stop window
    pub late : pos window <ℤ m.place i p stop
    pub largest : (q r : ℕ) → Response m i p q r → r ≤ b
    pub attained : (b ≡ 0) ⊎ ((q : ℕ) × Response m i p q b)
