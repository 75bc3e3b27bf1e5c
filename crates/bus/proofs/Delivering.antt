-- Every bound holds: an instance is off the wire within its stream's bound. Assumes nothing.
use Rattle.std.proofs.Common.{ℕ, zero, suc, ◌+◌, ◌-◌, ◌*◌, ◌<◌, ◌≤◌, List, length, ℤ, pos, ◌+ℤ◌, ◌≤ℤ◌, sym, subst, inl, inr, mul-le-mul_right, arith}
use Rattle.std.proofs.lemmas.Int.{ints}
use Rattle.std.proofs.lemmas.Bool.{cases_lt}
use Rattle.bus.specs.Meaning.{Meaning, Limits, Laws}
use Rattle.bus.specs.Bound.{blocking, others, own, Settles, Taken, Reached, Listed, IsBound}
use Rattle.bus.specs.Run.{Instance, at, ahead, IsRun, phase_of, Keeps, InTime, Delivered, BoundsHold}
use Rattle.bus.proofs.Windows.{window_or_none}
use Rattle.bus.proofs.Listing.{listed_response}
use Rattle.bus.proofs.Moments.{cases_ltZ}
use Rattle.bus.proofs.Phases.{phase_below}
use Rattle.bus.proofs.Busy.{Busy, busy_before, queued_since}
use Rattle.bus.proofs.Filling.{started, work, filled}
use Rattle.bus.proofs.Counting.{started_before, started_after, placed}
use Rattle.bus.proofs.Meeting.{work_met}

-- a window that settles is not filled, in numbers alone
overfull : (w all blocked away near c n long : ℕ) → w + 1 ≤ blocked + all → all ≤ away + near + c * long → c ≤ n → blocked + away + near + n * long ≤ w → ⊥
overfull w all blocked away near c n long full met few settles = omega (arith, mul-le-mul_right long few)

module _ (m : Meaning) (limits : Limits m) (laws : Laws m) (base : ℕ → ℤ) (run : List Instance) (r : IsRun run m) (keeps : Keeps m base run) (k : ℕ) (within : k < length run) (s : ℤ) (b : Busy m run (at run k).stream k s) where
  abbrev i : ℕ
  i = (at run k).stream

  abbrev p : ℕ
  p = phase_of m base (m.node i) s

  -- k is the e-th of its stream that is queued at or after s
  abbrev e : ℕ
  e = ahead run s k + 1

  is_phase : p < m.cycle (m.node i)
  is_phase = phase_below m limits base (m.node i) s (limits.node_below i (r.known k within))

  -- in a window that settles for q, q instances of the stream start
  q_start : (q w : ℕ) → 1 ≤ q → q ≤ e → Settles m i p q w → q ≤ started run s (w + 1) i
  q_start q w some most settles = elim (cases_lt (started run s (w + 1) i) q) [
    | inr enough ↦ enough
    | inl few ↦ elim (cases_ltZ (s +ℤ pos w) (at run k).start) [
      | inl later ↦ absurd (overfull w (work m run i s (w + 1)) (blocking m i) (others m i w) (own m i p w) (started run s (w + 1) i) (q - 1) (m.longest i)
          (filled m run r i k s b (w + 1) (omega (arith, ints)))
          (work_met m run r i k s b limits laws base keeps w (r.known k within))
          (omega arith)
          settles)
      | inr sooner ↦ omega (arith, started_after m run r i k s b w within sooner)
    ]
  ]

  -- so k starts in a window that settles for it
  starts_within : (w : ℕ) → Settles m i p e w → (at run k).start ≤ℤ (s +ℤ pos w)
  starts_within w settles = elim (cases_ltZ (s +ℤ pos w) (at run k).start) [
    | inl later ↦ absurd (omega (arith, started_before m run r i k s b w (omega arith) later, q_start e w (omega arith) (omega arith) settles))
    | inr sooner ↦ sooner
  ]

  module _ (bound : ℕ) (is_bound : IsBound m i bound) where
    -- an instance that is reached is taken
    takes : (q : ℕ) → 1 ≤ q → q ≤ e → Reached m i p q → Taken m i p q
    takes q some most reached = elim (window_or_none m i p q) [
      | inl found ↦ record {
        window = found.0;
        settling = found.1;
        in_time = placed m run r i k s b limits laws base keeps found.0 i q (r.known k within) (omega arith) some (q_start q found.0 some most found.1.settles);
      }
      | inr never ↦ absurd (is_bound.settled (record { phase = p; is_phase = is_phase; instance = q; counts = some; reached = reached; never = never }))
    ]

    -- so all up to k are listed
    all_listed : (q : ℕ) → q ≤ e → Listed m i p q
    all_listed zero most a some less = absurd (omega arith)
    all_listed (suc q) most a some less =
        let before = all_listed q (omega arith) in
        elim (cases_lt a (q + 1)) [ inl below ↦ before a some below | inr last ↦ takes a some (omega arith) (λ c one l. before c one (omega arith)) ]

    -- and k is off the wire within its response, which is at most the bound
    pub in_time : InTime run k bound
    in_time =
        let response = listed_response m i p e is_phase (omega arith) (all_listed e (omega arith)) in
        let small = is_bound.largest p e response.0 response.1 in
        let is = response.1.is in
        let starts = starts_within response.1.window response.1.settling.settles in
        let kept = keeps s k within (queued_since m run r i k s b k within (omega arith) b.early) in
        let few = r.few_bits k within in
        omega (arith, ints)

pub bounds_hold : BoundsHold
bounds_hold m limits laws i bound known is_bound base run r keeps k within same =
    let busy = busy_before m run (at run k).stream k in
    in_time m limits laws base run r keeps k within busy.0 busy.1 bound (subst (λ (z : ℕ). IsBound m z bound) (sym same) is_bound)

-- what is off the wire within c is so within more
pub delivered_more : (m : Meaning) (i c b : ℕ) → c ≤ b → Delivered m i c → Delivered m i b
delivered_more m i c b more delivered base run r keeps k within same = let o = delivered base run r keeps k within same in omega (arith, ints)
