-- What a traffic means: which streams share the bus, and when their instances may come. Assumes nothing.
use Rattle.std.specs.Prelude.{◌≡◌, ℕ, ◌+◌, ◌%◌, ◌^◌, ◌<◌, ◌≤◌, Bool, false, ℤ, pos, ◌+ℤ◌, neg_ℤ, ◌≤ℤ◌, ◌<ℤ◌, int_le}
use Rattle.bus.specs.Sums.{sum_below, only}

-- Streams are numbered from 0 and nodes from 0 to 15. A node goes through the phases of its cycle, 0 to the cycle less
-- one, and then begins again at 0. Times are bit times.
pub record Meaning : Type 0 where
  pub streams : ℕ
  -- of a stream: the node that sends it, its identifier (the lower wins the bus), and the longest that its frame can be
  pub node : ℕ → ℕ
  pub identifier : ℕ → ℕ
  pub longest : ℕ → ℕ
  -- how many phases a node has
  pub cycle : ℕ → ℕ
  -- The place of an instance: of a stream, at a phase of its node and for q = 1, 2, .., the earliest arrival, counted from a
  -- moment of that phase, of the q-th instance that is queued from that moment on. It is negative where an
  -- instance may have arrived before that moment and be queued after it.
  pub place : ℕ → ℕ → ℕ → ℤ
  -- A turning phase of a node is one after which its places may grow; after any other phase they come nearer.
  pub turns : ℕ → ℕ → Bool
  -- The reach: no instance that is queued from a moment on arrived earlier than the reach before it.
  pub reach : ℕ

pub record Limits (m : Meaning) : Type 0 where
  pub few : m.streams ≤ 128
  pub node_below : (i : ℕ) → i < m.streams → m.node i < 16
  pub identifier_below : (i : ℕ) → i < m.streams → m.identifier i < 2048
  pub long : (i : ℕ) → i < m.streams → 1 ≤ m.longest i
  pub short : (i : ℕ) → i < m.streams → m.longest i ≤ 200
  pub some_phase : (n : ℕ) → n < 16 → 1 ≤ m.cycle n
  pub few_phases : (n : ℕ) → n < 16 → m.cycle n ≤ 4194304
  pub place_fits : (i p q : ℕ) → i < m.streams → p < m.cycle (m.node i) → 1 ≤ q → q ≤ 4194306 → m.place i p q <ℤ pos (2 ^ 62)
  pub reach_fits : m.reach ≤ 16777216

-- the phase that follows p in a cycle of c
abbrev pub next_phase : ℕ → ℕ → ℕ
next_phase c p = (p + 1) % c

pub record Laws (m : Meaning) : Type 0 where
  -- no first place lies before minus the reach
  pub first : (i p : ℕ) → i < m.streams → p < m.cycle (m.node i) → neg_ℤ (pos m.reach) ≤ℤ m.place i p 1
  -- each place is at least one more than the place before
  pub apart : (i p q : ℕ) → i < m.streams → p < m.cycle (m.node i) → 1 ≤ q → (m.place i p q +ℤ pos 1) ≤ℤ m.place i p (q + 1)
  -- streams with equal identifiers belong to one node
  pub one_node : (i j : ℕ) → i < m.streams → j < m.streams → m.identifier i ≡ m.identifier j → m.node i ≡ m.node j
  -- at a phase that does not turn, no place is earlier than the same instance's at the next phase
  pub closer : (i p q : ℕ) → i < m.streams → p < m.cycle (m.node i) → m.turns (m.node i) p ≡ false → 1 ≤ q → m.place i (next_phase (m.cycle (m.node i)) p) q ≤ℤ m.place i p q

-- how many instances of a stream have a place of at most w at a phase; the laws leave none past the first w + reach + 1
abbrev pub count : Meaning → ℕ → ℕ → ℕ → ℕ
count m i p w = sum_below (w + m.reach + 1) (λ k. only (int_le (m.place i p (k + 1)) (pos w)) 1)

-- no instance that the count leaves out has a place of at most w
abbrev pub CountWhole : Type 0
CountWhole = (m : Meaning) → Laws m → (i p q w : ℕ) → i < m.streams → p < m.cycle (m.node i) → 1 ≤ q → m.place i p q ≤ℤ pos w → q ≤ w + m.reach + 1
