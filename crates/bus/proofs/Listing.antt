-- The instances of a phase, one after another. Assumes nothing.
use Rattle.std.proofs.Common.{◌≡◌, ℕ, ◌+◌, ◌<◌, ◌≤◌, max, ◌⊎◌, ℤ, pos, ◌-ℤ◌, nat_abs, ◌≤ℤ◌, ◌<ℤ◌, refl, inl, inr, arith}
use lib.Signed.{pos-nat_abs, yes_non_neg}
use Rattle.std.proofs.lemmas.Int.{ints}
use Rattle.std.proofs.lemmas.Bool.{cases_lt}
use Rattle.bus.specs.Meaning.{Meaning, Limits}
use Rattle.bus.specs.Bound.{horizon, blocking, Settles, SettlingWindow, Taken, Reached, Listed, Response, Unsettled}
use Rattle.bus.specs.Search.{Starts, SettledPhase}
use Rattle.bus.proofs.Loads.{blocking_at_most}
use Rattle.bus.proofs.Windows.{starts_later, windows_same, settled_few}

-- the instances below q are taken, and `most` is their largest response, or 0
pub record Listing (m : Meaning) (i p q most start : ℕ) : Type 0 where
  pub counts : 1 ≤ q
  pub few : q ≤ 4194306
  pub within : start ≤ horizon
  pub starts : Starts m i p q start
  pub reached : Reached m i p q
  pub largest : (e r : ℕ) → e < q → Response m i p e r → r ≤ most
  pub attained : (most ≡ 0) ⊎ ((e : ℕ) × Response m i p e most)

-- the wait of an instance that is placed within its window
pub wait_is : (w l : ℕ) (x : ℤ) → x ≤ℤ pos w → pos (nat_abs (pos (w + l) -ℤ x)) ≡ pos (w + l) -ℤ x
wait_is w l x h = let some : pos 0 ≤ℤ (pos (w + l) -ℤ x) = omega (arith, ints) in pos-nat_abs (pos (w + l) -ℤ x) (yes_non_neg some)

-- what is listed has a response
pub listed_response : (m : Meaning) (i p q : ℕ) → p < m.cycle (m.node i) → 1 ≤ q → Listed m i p q → (r : ℕ) × Response m i p q r
listed_response m i p q is_phase counts listed =
    let taken = listed q counts (omega arith) in
    (nat_abs (pos (taken.window + m.longest i) -ℤ m.place i p q), record { is_phase = is_phase; counts = counts; listed = listed; window = taken.window; settling = taken.settling; is = wait_is taken.window (m.longest i) (m.place i p q) taken.in_time })

module _ (m : Meaning) (limits : Limits m) (i p : ℕ) (known : i < m.streams) (is_phase : p < m.cycle (m.node i)) where
  -- the search begins at the blocking, which every window needs
  pub listing_start : Listing m i p 1 0 (blocking m i)
  listing_start = record {
    counts = omega arith;
    few = omega arith;
    within = omega (arith, blocking_at_most m limits i);
    starts = λ v settles. omega arith;
    reached = λ e one below. absurd (omega arith);
    largest = λ e r below response. omega (arith, response.counts);
    attained = inl refl;
  }

  -- an instance that is taken
  taken_more : (q w : ℕ) → Reached m i p q → SettlingWindow m i p q w → m.place i p q ≤ℤ pos w → Reached m i p (q + 1)
  taken_more q w reached settling in_time = λ e one below. elim (cases_lt e q) [
    | inl less ↦ reached e one less
    | inr above ↦ let same : e ≡ q = omega arith in rw same (record { window = w; settling = settling; in_time = in_time })
  ]

  -- its response is the only one
  response_same : (q w r s : ℕ) → SettlingWindow m i p q w → pos r ≡ pos (w + m.longest i) -ℤ m.place i p q → Response m i p q s → s ≡ r
  response_same q w r s settling is response =
      let same = windows_same m i p q w response.window settling response.settling in
      let other = response.is in
      omega (arith, ints)

  pub listing_on : (q most start w r : ℕ) → Listing m i p q most start → SettlingWindow m i p q w → m.place i p q ≤ℤ pos w → pos r ≡ pos (w + m.longest i) -ℤ m.place i p q → Listing m i p (q + 1) (max most r) w
  listing_on q most start w r so settling in_time is =
      let reached = taken_more q w so.reached settling in_time in
      let here : Response m i p q r = record { is_phase = is_phase; counts = so.counts; listed = reached; window = w; settling = settling; is = is } in
      record {
        counts = omega arith;
        few = settled_few m i p q w (limits.long i known) settling;
        within = settling.within;
        starts = starts_later m i p q w settling.least;
        reached = reached;
        largest = λ e s below response. elim (cases_lt e q) [
          | inl less ↦ omega (arith, so.largest e s less response)
          | inr above ↦
              let same : e ≡ q = omega arith in
              let response' : Response m i p q s = rw same at response in
              omega (arith, response_same q w r s settling is response')
        ];
        attained = elim (cases_lt most r) [
          | inl less ↦ let same : max most r ≡ r = omega arith in rw same (inr (q, here))
          | inr more ↦ let same : max most r ≡ most = omega arith in rw same so.attained
        ];
      }

  pub listing_end : (q most start w : ℕ) → Listing m i p q most start → SettlingWindow m i p q w → pos w <ℤ m.place i p q → SettledPhase m i p most
  listing_end q most start w so settling late = record {
    stop = q;
    counts = so.counts;
    reached = so.reached;
    window = w;
    settling = settling;
    late = late;
    largest = λ e r response. elim (cases_lt e q) [
      | inl less ↦ so.largest e r less response
      | inr above ↦
          let taken : Taken m i p q = response.listed q so.counts (omega arith) in
          let same = windows_same m i p q w taken.window settling taken.settling in
          let in_time = taken.in_time in
          absurd (omega (arith, ints))
    ];
    attained = so.attained;
  }

  pub listing_never : (q most start : ℕ) → Listing m i p q most start → ((w : ℕ) → w ≤ horizon → Settles m i p q w → ⊥) → Unsettled m i
  listing_never q most start so never = record { phase = p; is_phase = is_phase; instance = q; counts = so.counts; reached = so.reached; never = never }
