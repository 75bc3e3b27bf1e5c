-- A run of the bus, what it means that a run keeps a traffic's places, and that every instance is delivered in time. Assumes nothing.
use Rattle.std.specs.Prelude.{◌≡◌, ℕ, ◌+◌, ◌-◌, ◌%◌, ◌<◌, ◌≤◌, Bool, ◌&&◌, ◌⊎◌, List, length, ℤ, pos, negsuc, ◌+ℤ◌, ◌-ℤ◌, ◌≤ℤ◌, ◌<ℤ◌, ◌==◌, ◌≢◌, int_le, int_lt, slice_index_or}
use Rattle.bus.specs.Sums.{sum_below, only}
use Rattle.bus.specs.Meaning.{Meaning, Limits, Laws}
use Rattle.bus.specs.Bound.{IsBound}

-- An instance of a stream. Moments are whole numbers, negative ones too. Its frame is on the wire for so many bits from its start on.
pub record Instance : Type 0 where
  pub stream : ℕ
  pub arrival : ℤ
  pub queued : ℤ
  pub start : ℤ
  pub bits : ℕ

-- what stands past the last
abbrev pub nowhere : Instance
nowhere = record { stream = 0; arrival = pos 0; queued = pos 0; start = pos 0; bits = 0 }

module _ (run : List Instance) where
  abbrev pub at : ℕ → Instance
  at k = slice_index_or run k nowhere

  -- the moment at which instance k is off the wire
  abbrev pub end : ℕ → ℤ
  end k = (at k).start +ℤ pos (at k).bits

  -- queued, and not started before t
  abbrev pub Waits : ℕ → ℤ → Type 0
  Waits k t = ((at k).queued ≤ℤ t) × (t ≤ℤ (at k).start)

  -- started before t, and not yet off the wire
  abbrev pub OnWire : ℕ → ℤ → Type 0
  OnWire k t = ((at k).start <ℤ t) × (t <ℤ end k)

  -- which of two instances of a stream goes first: the earlier queued, then the earlier arrived, then the earlier listed
  abbrev pub GoesBefore : ℕ → ℕ → Type 0
  GoesBefore j k = ((at j).queued <ℤ (at k).queued) ⊎ (((at j).queued ≡ (at k).queued) × (((at j).arrival <ℤ (at k).arrival) ⊎ (((at j).arrival ≡ (at k).arrival) × (j < k))))

  pub record IsRun (m : Meaning) : Type 0 where
    pub known : (k : ℕ) → k < length run → (at k).stream < m.streams
    pub after_arrival : (k : ℕ) → k < length run → (at k).arrival ≤ℤ (at k).queued
    pub after_queueing : (k : ℕ) → k < length run → (at k).queued ≤ℤ (at k).start
    pub some_bits : (k : ℕ) → k < length run → 1 ≤ (at k).bits
    pub few_bits : (k : ℕ) → k < length run → (at k).bits ≤ m.longest (at k).stream
    -- none starts while a frame is on the wire, nor with another
    pub alone : (j k : ℕ) → j < length run → k < length run → (j ≢ k) → (at j).start ≤ℤ (at k).start → end j ≤ℤ (at k).start
    -- a free wire is taken where an instance waits
    pub eager : (t : ℤ) (k : ℕ) → k < length run → Waits k t → ((j : ℕ) → j < length run → OnWire j t → ⊥) → (j : ℕ) × (j < length run) × ((at j).start ≡ t)
    -- by the lowest identifier that waits
    pub urgent : (j k : ℕ) → j < length run → k < length run → Waits k (at j).start → m.identifier (at j).stream ≤ m.identifier (at k).stream
    pub in_order : (j k : ℕ) → j < length run → k < length run → (at j).stream ≡ (at k).stream → GoesBefore j k → (at j).start <ℤ (at k).start

  -- whether x is an instance of k's stream, queued at or after s, that goes before k
  abbrev pub leads : ℤ → ℕ → ℕ → Bool
  leads s k x = (at x).stream == (at k).stream && (int_le s (at x).queued && int_lt (at x).start (at k).start)

  -- how many do
  abbrev pub ahead : ℤ → ℕ → ℕ
  ahead s k = sum_below (length run) (λ x. only (leads s k x) 1)

-- z reduced into a cycle of c
abbrev pub reduced : ℕ → ℤ → ℕ
reduced c (pos n) = n % c
reduced c (negsuc n) = c - 1 - n % c

-- the phase of node n at the moment s, where each node has a base moment
abbrev pub phase_of : Meaning → (ℕ → ℤ) → ℕ → ℤ → ℕ
phase_of m base n s = reduced (m.cycle n) (s -ℤ base n)

-- for every moment s, the q-th instance of a stream that is queued at or after s arrived no earlier than s and its place
abbrev pub Keeps : Meaning → (ℕ → ℤ) → List Instance → Type 0
Keeps m base run = (s : ℤ) (k : ℕ) → k < length run → s ≤ℤ (at run k).queued → (s +ℤ m.place (at run k).stream (phase_of m base (m.node (at run k).stream) s) (ahead run s k + 1)) ≤ℤ (at run k).arrival

-- instance k is off the wire within b, counted from its arrival
abbrev pub InTime : List Instance → ℕ → ℕ → Type 0
InTime run k b = end run k ≤ℤ ((at run k).arrival +ℤ pos b)

-- in every run that keeps the places, every instance of stream i is off the wire within b
abbrev pub Delivered : Meaning → ℕ → ℕ → Type 0
Delivered m i b = (base : ℕ → ℤ) (run : List Instance) → IsRun run m → Keeps m base run → (k : ℕ) → k < length run → (at run k).stream ≡ i → InTime run k b

-- every bound is kept
abbrev pub BoundsHold : Type 0
BoundsHold = (m : Meaning) → Limits m → Laws m → (i b : ℕ) → i < m.streams → IsBound m i b → Delivered m i b
