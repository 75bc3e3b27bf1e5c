-- What is kept of windows that were worked out before. Assumes nothing.
use Rattle.std.specs.Prelude.{◌≡◌, ℕ, Option, List, All, IfSome}
use Rattle.bus.specs.Meaning.{Meaning}
use Rattle.bus.specs.Bound.{others}
use Rattle.engine.specs.declared.search.Kept.{Kept}

module _ (m : Meaning) (i : ℕ) where
  -- a slot that keeps a window has what the other nodes send in it
  abbrev pub IsRight : Option Kept → Type 0
  IsRight slot = IfSome slot (λ kept. kept.sent ≡ others m i kept.window)

  -- every slot does
  abbrev pub Keeps : List (Option Kept) → Type 0
  Keeps slots = All IsRight slots
