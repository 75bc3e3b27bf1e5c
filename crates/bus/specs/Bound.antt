-- The longest wait of a stream's instances, by response-time analysis over all phases. Assumes nothing.
use Rattle.std.specs.Prelude.{◌≡◌, ℕ, ◌+◌, ◌-◌, ◌*◌, ◌<◌, ◌≤◌, Bool, not, ◌&&◌, ◌⊎◌, pos, ◌-ℤ◌, ◌≤ℤ◌, ◌==◌, nat_le, nat_lt}
use Rattle.bus.specs.Sums.{sum_below, largest_below, only}
use Rattle.bus.specs.Meaning.{Meaning, count}

-- the longest window that is looked at
abbrev pub horizon : ℕ
horizon = 4194304

module _ (m : Meaning) where
  -- the bits that stream k may send in a window of w that begins at phase p
  abbrev pub load : ℕ → ℕ → ℕ → ℕ
  load k p w = count m k p w * m.longest k

  -- the longest frame of the same or a higher identifier, which may be on the wire already
  abbrev pub blocking : ℕ → ℕ
  blocking i = largest_below m.streams (λ k. only (nat_le (m.identifier i) (m.identifier k)) (m.longest k))

  -- whether stream k is one of node n with a lower identifier than i's
  abbrev pub urgent : ℕ → ℕ → ℕ → Bool
  urgent i n k = m.node k == n && nat_lt (m.identifier k) (m.identifier i)

  -- what those send from the node's phase p on
  abbrev pub demand : ℕ → ℕ → ℕ → ℕ → ℕ
  demand i n p w = sum_below m.streams (λ k. only (urgent i n k) (load k p w))

  -- the largest of that over the node's phases, since its clock is not i's
  abbrev pub heaviest : ℕ → ℕ → ℕ → ℕ
  heaviest i n w = largest_below (m.cycle n) (λ p. demand i n p w)

  unfoldable pub others : ℕ → ℕ → ℕ
  others i w = sum_below 16 (λ n. only (not (n == m.node i)) (heaviest i n w))

  -- whether k is another stream of i's node with the same or a lower identifier
  abbrev pub beside : ℕ → ℕ → Bool
  beside i k = (m.node k == m.node i && not (k == i)) && nat_le (m.identifier k) (m.identifier i)

  -- what those send from the same phase on
  abbrev pub own : ℕ → ℕ → ℕ → ℕ
  own i p w = sum_below m.streams (λ k. only (beside i k) (load k p w))

  -- what may be sent before instance q of stream i in a window of w that begins at phase p
  abbrev pub need : ℕ → ℕ → ℕ → ℕ → ℕ
  need i p q w = blocking i + others i w + own i p w + (q - 1) * m.longest i

  abbrev pub Settles : ℕ → ℕ → ℕ → ℕ → Type 0
  Settles i p q w = need i p q w ≤ w

  -- the least window that settles, up to the horizon
  pub record SettlingWindow (i p q w : ℕ) : Type 0 where
    pub settles : Settles i p q w
    pub within : w ≤ horizon
    pub least : (v : ℕ) → Settles i p q v → w ≤ v

  -- it is not smaller than the instance's place
  pub record Taken (i p q : ℕ) : Type 0 where
    pub window : ℕ
    pub settling : SettlingWindow i p q window
    pub in_time : m.place i p q ≤ℤ pos window

  -- all instances before q are listed
  abbrev pub Reached : ℕ → ℕ → ℕ → Type 0
  Reached i p q = (e : ℕ) → 1 ≤ e → e < q → Taken i p e

  -- and q too
  abbrev pub Listed : ℕ → ℕ → ℕ → Type 0
  Listed i p q = Reached i p (q + 1)

  -- a reached instance has no settling window
  pub record Unsettled (i : ℕ) : Type 0 where
    pub phase : ℕ
    pub is_phase : phase < m.cycle (m.node i)
    pub instance : ℕ
    pub counts : 1 ≤ instance
    pub reached : Reached i phase instance
    pub never : (w : ℕ) → w ≤ horizon → Settles i phase instance w → ⊥

  -- the longest time from the arrival of a listed instance until its frame is off the wire
  pub record Response (i p q r : ℕ) : Type 0 where
    pub is_phase : p < m.cycle (m.node i)
    pub counts : 1 ≤ q
    pub listed : Listed i p q
    pub window : ℕ
    pub settling : SettlingWindow i p q window
    pub is : pos r ≡ pos (window + m.longest i) -ℤ m.place i p q

  -- the largest response, or 0 where nothing is listed
  pub record IsBound (i b : ℕ) : Type 0 where
    pub settled : Unsettled i → ⊥
    pub largest : (p q r : ℕ) → Response i p q r → r ≤ b
    pub reached : ((p : ℕ) × (q : ℕ) × Response i p q b) ⊎ ((b ≡ 0) × ((p q r : ℕ) → Response i p q r → ⊥))
