-- Worked examples: small traffics, and what is to be found in them. Assumes nothing.
use Rattle.std.specs.Prelude.{◌≡◌, ℕ, ◌<◌, List, [], ◌∷◌, ℤ, pos}
use Rattle.std.specs.List.{AllByRecursion}
use Rattle.bus.specs.Frame as frame
use Rattle.bus.specs.Meaning.{Meaning}
use Rattle.bus.specs.Bound.{IsBound}
use Rattle.plan.specs.declared.record.Kind.{Kind}
use Rattle.plan.specs.declared.record.Kind.TheVariants.{Periodic, Sporadic, Mixed}
use Rattle.plan.specs.declared.record.Record.{Record}
use Rattle.plan.specs.Streams.{traffic_of}
use Rattle.sheet.specs.declared.sender.Sender.{Sender}
use Rattle.sheet.specs.Sheet.{measured}
use Rattle.delay.specs.Delayed.{delayed, listed}

-- a value that a frame or a stream has
pub data Example : Type 0 where
  FrameOf : ℕ → ℕ → Example
  LengthOf : Meaning → ℕ → ℕ → Example
  PlaceOf : Meaning → ℕ → ℕ → ℕ → ℤ → Example
  BoundOf : Meaning → ℕ → ℕ → Example

abbrev pub Holds : Example → Type 0
-- of so many data bytes
Holds (FrameOf bytes bits) = frame.longest bytes ≡ bits
-- of stream i
Holds (LengthOf m i bits) = (i < m.streams) × (m.longest i ≡ bits)
-- at phase p, of instance q
Holds (PlaceOf m i p q place) = (i < m.streams) × (p < m.cycle (m.node i)) × (m.place i p q ≡ place)
Holds (BoundOf m i bound) = (i < m.streams) × IsBound m i bound

-- ---- the traffics

abbrev pub message : ℕ → ℕ → ℕ → Kind → ℕ → Record
message identifier node bytes kind jitter = record { identifier = identifier; node = node; bytes = bytes; kind = kind; jitter = jitter; due = 4194304 }

abbrev pub two_lengths : List Record
two_lengths = message 10 0 0 (Periodic 400 0) 0 ∷ message 20 0 8 (Periodic 400 0) 0 ∷ []

abbrev pub timed : List Record
timed = message 10 0 0 (Periodic 400 0) 0 ∷ []

abbrev pub spanned : List Sender
spanned = record { node = 0; identifier = 10; bytes = 0; jitter = 0; spans = 100 ∷ 600 ∷ 700 ∷ 1200 ∷ 1300 ∷ 1800 ∷ 1900 ∷ [] } ∷ []

-- the delay of node 0, and of no other
abbrev pub delays : List ℕ
delays = 100 ∷ []

abbrev pub one_node : List Record
one_node = message 10 0 0 (Periodic 400 0) 0 ∷ message 20 0 0 (Periodic 400 200) 0 ∷ []

abbrev pub two_nodes : List Record
two_nodes = message 10 0 0 (Periodic 400 0) 0 ∷ message 20 1 0 (Periodic 400 200) 0 ∷ []

abbrev pub mixed : List Record
mixed = message 10 0 0 (Mixed 400 0 400) 0 ∷ []

abbrev pub urgent_events : List Record
urgent_events = message 1 0 0 (Sporadic 110) 0 ∷ message 2 1 0 (Sporadic 5000) 0 ∷ []

abbrev pub early_events : List Record
early_events = message 10 0 0 (Sporadic 200) 450 ∷ []

-- ---- what is found in them

abbrev pub examples : List Example
examples =
    FrameOf 0 55
    ∷ FrameOf 8 135
    ∷ LengthOf (traffic_of two_lengths) 0 55
    ∷ LengthOf (traffic_of two_lengths) 1 135
    ∷ PlaceOf (traffic_of timed) 0 0 1 (pos 0)
    ∷ PlaceOf (traffic_of timed) 0 1 1 (pos 399)
    ∷ PlaceOf (measured spanned) 0 0 9 (pos 2000)
    ∷ BoundOf (traffic_of timed) 0 110
    ∷ BoundOf (delayed (traffic_of timed) (listed delays)) 0 210
    ∷ BoundOf (traffic_of one_node) 1 110
    ∷ BoundOf (traffic_of two_nodes) 1 165
    ∷ BoundOf (traffic_of mixed) 0 165
    ∷ BoundOf (traffic_of mixed) 1 165
    ∷ BoundOf (traffic_of urgent_events) 1 220
    ∷ BoundOf (traffic_of early_events) 0 560
    ∷ []

abbrev pub ExamplesHold : Type 0
ExamplesHold = AllByRecursion Holds examples
