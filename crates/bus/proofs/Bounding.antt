-- The phases of a stream's node, from one turning phase to the next. Assumes nothing.
use Rattle.std.proofs.Common.{◌≡◌, ℕ, ◌+◌, ◌<◌, ◌≤◌, max, ◌⊎◌, ℤ, pos, ◌-ℤ◌, ◌≤ℤ◌, Some, None, refl, inl, inr, ⊎_elim, arith}
use Rattle.std.proofs.lemmas.Int.{ints}
use Rattle.std.proofs.lemmas.Bool.{cases_lt}
use Rattle.bus.specs.Meaning.{Meaning, Limits, Laws}
use Rattle.bus.specs.Asked.{FirstTurn}
use Rattle.bus.specs.Bound.{horizon, Settles, Taken, Reached, Response, IsBound}
use Rattle.bus.specs.Search.{SettledPhase}
use Rattle.bus.proofs.Nearer.{Nearer, nearer_self, nearer_turn, nearer_zero}
use Rattle.bus.proofs.Windows.{settles_nearer, windows_nearer, windows_same}
use Rattle.bus.proofs.Listing.{listed_response}

-- a wait is the longer, the longer the window and the earlier the place
wait_longer : (v w l r s : ℕ) (x y : ℤ) → v ≤ w → y ≤ℤ x → pos r ≡ pos (v + l) -ℤ x → pos s ≡ pos (w + l) -ℤ y → r ≤ s
wait_longer v w l r s x y h k e f = omega (arith, ints)

-- all that is reached at a phase settles, and no response there is above b
pub record Under (m : Meaning) (i p b : ℕ) : Type 0 where
  pub settled : (q : ℕ) → 1 ≤ q → Reached m i p q → ((w : ℕ) → w ≤ horizon → Settles m i p q w → ⊥) → ⊥
  pub largest : (q r : ℕ) → Response m i p q r → r ≤ b

-- `most` is the largest response of the phases below `from`; `first` is that of phase 0
pub record Bounding (m : Meaning) (i first from most : ℕ) : Type 0 where
  pub within : from ≤ m.cycle (m.node i)
  pub zero : SettledPhase m i 0 first
  pub more : first ≤ most
  pub below : (p : ℕ) → p < from → Under m i p most
  pub attained : (most ≡ 0) ⊎ ((p : ℕ) × (q : ℕ) × Response m i p q most)

module _ (m : Meaning) (limits : Limits m) (laws : Laws m) (i : ℕ) (known : i < m.streams) where
  -- a phase is under what a nearer phase has
  module _ (p c b : ℕ) (near : Nearer m (m.node i) p c) (there : SettledPhase m i c b) (is_phase : c < m.cycle (m.node i)) where
    -- no instance from the nearer phase's first late one on is taken here
    not_taken : Taken m i p there.stop → ⊥
    not_taken taken =
        let less = windows_nearer m i p c there.stop taken.window there.window near taken.settling there.settling in
        let nearer = near i there.stop known refl there.counts in
        let in_time = taken.in_time in
        let late = there.late in
        omega (arith, ints)

    settled_under : (q : ℕ) → 1 ≤ q → Reached m i p q → ((w : ℕ) → w ≤ horizon → Settles m i p q w → ⊥) → ⊥
    settled_under q one reached never = elim (cases_lt q there.stop) [
      | inl less ↦
          let taken = there.reached q one less in
          never taken.window taken.settling.within (settles_nearer m i p c q taken.window near taken.settling.settles)
      | inr above ↦ elim (cases_lt there.stop q) [
        | inl past ↦ not_taken (reached there.stop there.counts past)
        | inr level ↦
            let same : q ≡ there.stop = omega arith in
            let settles : Settles m i p q there.window = rw same (settles_nearer m i p c there.stop there.window near there.settling.settles) in
            never there.window there.settling.within settles
      ]
    ]

    -- the nearer phase's response to the same instance is no less
    response_under : (q r : ℕ) → q < there.stop → Response m i p q r → r ≤ b
    response_under q r less response =
        let other = listed_response m i c q is_phase response.counts (λ e one below. there.reached e one (omega arith)) in
        let longer = windows_nearer m i p c q response.window other.1.window near response.settling other.1.settling in
        let nearer = near i q known refl response.counts in
        let more = wait_longer response.window other.1.window (m.longest i) r other.0 (m.place i p q) (m.place i c q) longer nearer response.is other.1.is in
        omega (arith, there.largest q other.0 other.1)

    pub under : Under m i p b
    under = record {
      settled = settled_under;
      largest = λ q r response. elim (cases_lt q there.stop) [
        | inl less ↦ response_under q r less response
        | inr above ↦ absurd (not_taken (response.listed there.stop there.counts (omega arith)))
      ];
    }

  -- a response holds the instance's own frame
  response_some : (p q r : ℕ) → Response m i p q r → 1 ≤ r
  response_some p q r response =
      let taken = response.listed q response.counts (omega arith) in
      let same = windows_same m i p q taken.window response.window taken.settling response.settling in
      let in_time = taken.in_time in
      let long = limits.long i known in
      let is = response.is in
      omega (arith, ints)

  under_more : (p b d : ℕ) → b ≤ d → Under m i p b → Under m i p d
  under_more p b d more u = record { settled = u.settled; largest = λ q r response. omega (arith, u.largest q r response) }

  attained_at : (p b : ℕ) → SettledPhase m i p b → (b ≡ 0) ⊎ ((p : ℕ) × (q : ℕ) × Response m i p q b)
  attained_at p b at = ⊎_elim inl (λ found. inr (p, found.0, found.1)) at.attained

  pub bounding_start : (b : ℕ) → SettledPhase m i 0 b → Bounding m i b 1 b
  bounding_start b zero =
      let some : 1 ≤ m.cycle (m.node i) = limits.some_phase (m.node i) (limits.node_below i known) in
      record {
        within = some;
        zero = zero;
        more = omega arith;
        below = λ p l. let same : p ≡ 0 = omega arith in rw same (under 0 0 b (nearer_self m (m.node i) 0) zero some);
        attained = attained_at 0 b zero;
      }

  pub bounding_on : (first from most turn b : ℕ) → Bounding m i first from most → FirstTurn m (m.node i) from (Some turn) → SettledPhase m i turn b → Bounding m i first (turn + 1) (max most b)
  bounding_on first from most turn b so turns at = record {
    within = omega arith;
    zero = so.zero;
    more = omega (arith, so.more);
    below = λ p l. elim (cases_lt p from) [
      | inl before ↦ under_more p most (max most b) (omega arith) (so.below p before)
      | inr after ↦ under_more p b (max most b) (omega arith) (under p turn b (nearer_turn m laws (m.node i) from turn p turns after (omega arith)) at turns.1)
    ];
    attained = elim (cases_lt most b) [
      | inl less ↦ let same : max most b ≡ b = omega arith in rw same (attained_at turn b at)
      | inr more ↦ let same : max most b ≡ most = omega arith in rw same so.attained
    ];
  }

  pub bounding_end : (first from most : ℕ) → Bounding m i first from most → FirstTurn m (m.node i) from None → IsBound m i most
  bounding_end first from most so none =
      let all : (p : ℕ) → p < m.cycle (m.node i) → Under m i p most =
      λ p l. elim (cases_lt p from) [
        | inl before ↦ so.below p before
        | inr after ↦ under_more p first most so.more (under p 0 first (nearer_zero m laws (m.node i) from p none after l) so.zero (omega arith))
      ] in
      record {
        settled = λ u. (all u.phase u.is_phase).settled u.instance u.counts u.reached u.never;
        largest = λ p q r response. (all p response.is_phase).largest q r response;
        reached = ⊎_elim
            (λ none_yet. inr (none_yet, λ p q r response. omega (arith, (all p response.is_phase).largest q r response, response_some p q r response)))
            inl
            so.attained;
      }
