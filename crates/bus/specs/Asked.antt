-- What a traffic answers to each question. Assumes nothing.
use Rattle.std.specs.Prelude.{◌≡◌, ℕ, ◌+◌, ◌<◌, ◌≤◌, Bool, true, false, ℤ, Some, None, Ok, Err, Option, Result}
use Rattle.bus.specs.declared.refusal.Refusal.{Refusal}
use Rattle.bus.specs.declared.refusal.Refusal.TheVariants.{Question}
use Rattle.bus.specs.Meaning.{Meaning, count}

-- the answer is v where the question is in range, and else the refusal of a question
pub record Asked {A : Type 0} (fits : Type 0) (v : A) (r : Result A Refusal) : Type 0 where
  pub answered : fits → r ≡ Ok v
  pub refused : (fits → ⊥) → r ≡ Err Question

-- of a stream: its node, its identifier or its longest length
abbrev pub StreamAsked : Meaning → (ℕ → ℕ) → ℕ → Result ℕ Refusal → Type 0
StreamAsked m f i r = Asked (i < m.streams) (f i) r

abbrev pub CycleAsked : Meaning → ℕ → Result ℕ Refusal → Type 0
CycleAsked m n r = Asked (n < 16) (m.cycle n) r

abbrev pub PlaceAsked : Meaning → ℕ → ℕ → ℕ → Result ℤ Refusal → Type 0
PlaceAsked m i p q r = Asked ((i < m.streams) × (p < m.cycle (m.node i)) × (1 ≤ q) × (q ≤ 4194306)) (m.place i p q) r

abbrev pub CountAsked : Meaning → ℕ → ℕ → ℕ → Result ℕ Refusal → Type 0
CountAsked m i p w r = Asked ((i < m.streams) × (p < m.cycle (m.node i)) × (w + m.reach ≤ 20971520)) (count m i p w) r

abbrev pub TurnsAsked : Meaning → ℕ → ℕ → Result Bool Refusal → Type 0
TurnsAsked m n p r = Asked ((n < 16) × (p < m.cycle n)) (m.turns n p) r

-- the first turning phase from p to the cycle's end, or that there is none
abbrev pub FirstTurn : Meaning → ℕ → ℕ → Option ℕ → Type 0
FirstTurn m n p (Some t) = (p ≤ t) × (t < m.cycle n) × (m.turns n t ≡ true) × ((k : ℕ) → p ≤ k → k < t → m.turns n k ≡ false)
FirstTurn m n p None = (k : ℕ) → p ≤ k → k < m.cycle n → m.turns n k ≡ false

abbrev pub TurnFound : Meaning → ℕ → ℕ → Result (Option ℕ) Refusal → Type 0
TurnFound m n p (Ok t) = FirstTurn m n p t
TurnFound m n p (Err e) = ⊥

pub record NextTurnAsked (m : Meaning) (n p : ℕ) (r : Result (Option ℕ) Refusal) : Type 0 where
  pub answered : (n < 16) → (p < m.cycle n) → TurnFound m n p r
  pub refused : (((n < 16) × (p < m.cycle n)) → ⊥) → r ≡ Err Question
