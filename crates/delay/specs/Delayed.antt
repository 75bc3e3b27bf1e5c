-- A traffic whose nodes queue up to a delay later than those of another. Assumes nothing.
use Rattle.std.specs.Prelude.{◌≡◌, ℕ, ◌+◌, ◌<◌, cond, List, [], ◌∷◌, length, ℤ, pos, ◌+ℤ◌, ◌-ℤ◌, ◌≤ℤ◌, ◌<ℤ◌, Result, nat_le, nat_lt, slice_index}
use Rattle.bus.specs.declared.refusal.Refusal.{Refusal}
use Rattle.bus.specs.declared.refusal.Refusal.TheVariants.{Delay, Reach}
use Rattle.bus.specs.Asked.{Asked}
use Rattle.bus.specs.Refused.{Rules}
use Rattle.bus.specs.Sums.{largest_below}
use Rattle.bus.specs.Meaning.{Meaning}
use Rattle.bus.specs.Run.{Instance, at, reduced, Keeps}
use Rattle.delay.specs.declared.delayed.Shift.{Shift}

-- the phase of node n that stands its delay before p
abbrev pub earlier : Meaning → (ℕ → ℕ) → ℕ → ℕ → ℕ
earlier m delay n p = reduced (m.cycle n) (pos p -ℤ pos (delay n))

-- m with each node's instances queued up to the node's delay later: those queued from a moment on were queued, without the
-- delay, from the delay before that moment on
abbrev pub delayed : Meaning → (ℕ → ℕ) → Meaning
delayed m delay = record {
  streams = m.streams;
  node = m.node;
  identifier = m.identifier;
  longest = m.longest;
  cycle = m.cycle;
  place = λ i p q. m.place i (earlier m delay (m.node i) p) q -ℤ pos (delay (m.node i));
  turns = λ n p. m.turns n (earlier m delay n p);
  reach = m.reach + largest_below 16 delay;
}

-- the delay of each node, as listed
abbrev pub listed : List ℕ → ℕ → ℕ
listed delays n = slice_index delays n

-- the largest of the 16
abbrev pub largest_of : List ℕ → ℕ
largest_of delays = largest_below 16 (listed delays)

-- the delays that count above m: those listed, or none where the reach would be too large, which no delayed traffic has
abbrev pub counting : Meaning → List ℕ → ℕ → ℕ
counting m delays = cond (nat_le (m.reach + largest_of delays) 16777216) (listed delays) (λ _. 0)

-- the traffic that stands on m with the delays listed
abbrev pub standing : Meaning → List ℕ → Meaning
standing m delays = delayed m (counting m delays)

-- where node n's phase p stands below, and how much later the node queues
abbrev pub shifted : Meaning → (ℕ → ℕ) → ℕ → ℕ → Shift
shifted m delay n p = record { phase = earlier m delay n p; delay = delay n }

abbrev pub ShiftAsked : Meaning → (ℕ → ℕ) → ℕ → ℕ → Result Shift Refusal → Type 0
ShiftAsked m delay n p r = Asked ((n < 16) × (p < m.cycle n)) (shifted m delay n p) r

-- the same of a phase of stream i's node
abbrev pub StreamShiftAsked : Meaning → (ℕ → ℕ) → ℕ → ℕ → Result Shift Refusal → Type 0
StreamShiftAsked m delay i p r = Asked ((i < m.streams) × (p < m.cycle (m.node i))) (shifted m delay (m.node i) p) r

-- what can refuse a setting of the delays above m
abbrev pub set_rules : Meaning → List ℕ → Rules
set_rules m delays = (nat_lt 1048576 (largest_of delays), Delay) ∷ (nat_lt 16777216 (m.reach + largest_of delays), Reach) ∷ []

-- two traffics answer every question alike
pub record Alike (m d : Meaning) : Type 0 where
  pub streams : d.streams ≡ m.streams
  pub node : d.node ≡ m.node
  pub identifier : d.identifier ≡ m.identifier
  pub longest : d.longest ≡ m.longest
  pub cycle : d.cycle ≡ m.cycle
  pub place : (i p q : ℕ) → p < m.cycle (m.node i) → d.place i p q ≡ m.place i p q
  pub turns : (n p : ℕ) → p < m.cycle n → d.turns n p ≡ m.turns n p
  pub reach : d.reach ≡ m.reach

-- `late` has the instances of `run`, each queued from 0 up to its node's delay later, and each stream's in the same order
pub record Later (m : Meaning) (delay : ℕ → ℕ) (run late : List Instance) : Type 0 where
  pub as_many : length late ≡ length run
  pub same_stream : (k : ℕ) → k < length run → (at late k).stream ≡ (at run k).stream
  pub same_arrival : (k : ℕ) → k < length run → (at late k).arrival ≡ (at run k).arrival
  pub not_before : (k : ℕ) → k < length run → (at run k).queued ≤ℤ (at late k).queued
  pub in_time : (k : ℕ) → k < length run → (at late k).queued ≤ℤ ((at run k).queued +ℤ pos (delay (m.node (at run k).stream)))
  pub same_order : (j k : ℕ) → j < length run → k < length run → (at run j).stream ≡ (at run k).stream → (at late j).start <ℤ (at late k).start → (at run j).start <ℤ (at run k).start

-- instances that keep the places of m keep those of d once they are queued later
abbrev pub DelaysHold : Meaning → (ℕ → ℕ) → Meaning → Type 0
DelaysHold m delay d = (base : ℕ → ℤ) (run late : List Instance) → ((k : ℕ) → k < length run → (at run k).stream < m.streams) → Keeps m base run → Later m delay run late → Keeps d base late
