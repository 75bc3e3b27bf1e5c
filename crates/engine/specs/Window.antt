-- What is asked of a phase and an instance, and what the search for a window finds. Assumes nothing.
use Rattle.std.specs.Prelude.{ℕ, ◌<◌, ◌≤◌, Some, None, Option}
use Rattle.bus.specs.Meaning.{Meaning}
use Rattle.bus.specs.Bound.{horizon, Settles, SettlingWindow}
use Rattle.engine.specs.declared.window.Window.{Window}

module _ (m : Meaning) where
  -- a phase of the stream's node, and an instance that a traffic can be asked for
  pub record Asks (i phase instance : ℕ) : Type 0 where
    pub is_phase : phase < m.cycle (m.node i)
    pub counts : 1 ≤ instance
    pub few : instance ≤ 4194306

  -- the settling window, or that there is none
  abbrev pub Settled : ℕ → ℕ → ℕ → Option Window → Type 0
  Settled i p q (Some w) = SettlingWindow m i p q w.bits
  Settled i p q None = (w : ℕ) → w ≤ horizon → Settles m i p q w → ⊥
