-- The traffic of a plan keeps the limits and the laws. Assumes nothing.
use Rattle.std.specs.Prelude.{◌≡◌, ℕ, zero, suc, ◌<◌, ◌≤◌, max, true, false, cond, not, List, [], ◌∷◌, ◌++◌, length, fold, ◌==◌, slice_index_or, refl}
use Rattle.std.proofs.Common.{sym, ap, subst, ◌∙◌, inl, inr, arith}
use Rattle.std.specs.List.{AllByRecursion}
use Rattle.std.proofs.ByRecursion.{All-append, All-get_or, All-weaker}
use Rattle.std.proofs.lemmas.Bool.{and_parts, and_cases, or_parts, not-true, cond-true, cond-false, eq-eqb, ne_eqb, eqb-false}
use Rattle.bus.specs.Meaning.{Limits, Laws}
use Rattle.clock.specs.declared.timing.Timing.{Timing}
use Rattle.clock.specs.declared.timing.Timing.TheVariants.{Timed, Event}
use Rattle.clock.specs.Multiple.{Divides}
use Rattle.clock.specs.Timing.{Paced, turns_at}
use Rattle.clock.proofs.Placed.{Brief, Cycles, place_first, place_apart, place_small, place_closer}
use Rattle.plan.specs.declared.record.Kind.{Kind}
use Rattle.plan.specs.declared.record.Kind.TheVariants.{Periodic, Sporadic, Mixed}
use Rattle.plan.specs.declared.record.Record.{Record}
use Rattle.plan.specs.declared.streams.Stream.{Stream}
use Rattle.plan.specs.Record.{interval, intervals, within}
use Rattle.plan.specs.Cycle.{all_within, periods_in, periods_at, periods, cycle_of}
use Rattle.plan.specs.Open.{holds, apart}
use Rattle.plan.specs.Streams.{stream_of, parts, streams_of, silent, turning, some_turn, reach_of, stream_at, traffic_of}
use Rattle.plan.specs.Limited.{Fits, fits, interval_some, interval_most}
use Rattle.plan.specs.Kept.{Sound, cycle_some, least_cycles, short_at, streams_few}

all_both : {X : Type 0} (P Q : X → Type 0) (xs : List X) → AllByRecursion P xs → AllByRecursion Q xs → AllByRecursion (λ x. P x × Q x) xs
all_both P Q [] p q = tt
all_both P Q (x ∷ xs) p q = ((p.0, q.0), all_both P Q xs p.1 q.1)

pub all_parts : {X : Type 0} (P : X → Type 0) (xs ys : List X) → AllByRecursion P (xs ++ ys) → AllByRecursion P xs × AllByRecursion P ys
all_parts P [] ys h = (tt, h)
all_parts P (x ∷ xs) ys h = let rest = all_parts P xs ys h.1 in ((h.0, rest.0), rest.1)

-- ---- what is known of each record

all_fit : (rs : List Record) → all_within rs ≡ true → AllByRecursion Fits rs
all_fit [] h = tt
all_fit (r ∷ rs) h = let both = and_parts (within r) (all_within rs) h in (fits r both.0, all_fit rs both.1)

reach_grows : (a : ℕ) (rs : List Record) → a ≤ fold (λ m r. max m r.jitter) a rs
reach_grows a [] = omega arith
reach_grows a (r ∷ rs) = let h = reach_grows (max a r.jitter) rs in omega arith

-- no jitter is above the reach
all_reached : (a : ℕ) (rs : List Record) → AllByRecursion (λ r. r.jitter ≤ fold (λ m x. max m x.jitter) a rs) rs
all_reached a [] = tt
all_reached a (r ∷ rs) = ((let h = reach_grows (max a r.jitter) rs in omega arith), all_reached (max a r.jitter) rs)

pub reach_small : (a b : ℕ) (rs : List Record) → a ≤ b → AllByRecursion (λ r. r.jitter ≤ b) rs → fold (λ m r. max m r.jitter) a rs ≤ b
reach_small a b [] h all = h
reach_small a b (r ∷ rs) h all = reach_small (max a r.jitter) b rs (let j = all.0 in omega arith) all.1

-- a period divides what all periods of its node divide
all_divide : (c : ℕ → ℕ) (rs : List Record) → ((n : ℕ) → AllByRecursion (λ t. Divides t (c n)) (periods n rs)) → AllByRecursion (λ r. AllByRecursion (λ t. Divides t (c r.node)) (periods_in r.kind)) rs
all_divide c [] h = tt
all_divide c (r ∷ rs) h =
    let D : ℕ → ℕ → Type 0 = λ n t. Divides t (c n) in
    let here = (all_parts (D r.node) (periods_at r.node r) (periods r.node rs) (h r.node)).0 in (
      subst (AllByRecursion (D r.node)) (cond-true (r.node == r.node) (periods_in r.kind) [] (eq-eqb r.node r.node refl)) here,
      all_divide c rs (λ n. (all_parts (D n) (periods_at n r) (periods n rs) (h n)).1),
    )

-- the node of the first record with an identifier
abbrev sender : ℕ → List Record → ℕ
sender identifier [] = 0
sender identifier (r ∷ rs) = cond (r.identifier == identifier) r.node (sender identifier rs)

sent_past : (x : Record) (rs ys : List Record) → holds x.identifier ys ≡ false → AllByRecursion (λ r. r.node ≡ sender r.identifier rs) ys → AllByRecursion (λ r. r.node ≡ sender r.identifier (x ∷ rs)) ys
sent_past x rs [] free h = tt
sent_past x rs (y ∷ ys) free h =
    let other = or_parts (y.identifier == x.identifier) (holds x.identifier ys) free in (
      h.0 ∙ sym (cond-false (x.identifier == y.identifier) x.node (sender y.identifier rs) (ne_eqb _ _ (λ e. eqb-false y.identifier x.identifier other.0 (sym e)))),
      sent_past x rs ys other.1 h.1,
    )

-- where identifiers differ, each record's node is that of its identifier
all_sent : (rs : List Record) → apart rs ≡ true → AllByRecursion (λ r. r.node ≡ sender r.identifier rs) rs
all_sent [] h = tt
all_sent (r ∷ rs) h =
    let both = and_parts (not (holds r.identifier rs)) (apart rs) h in (
      sym (cond-true (r.identifier == r.identifier) r.node (sender r.identifier rs) (eq-eqb r.identifier r.identifier refl)),
      sent_past r rs rs (not-true _ both.0) (all_sent rs both.1),
    )

-- ---- no stream turns where none of its node does

no_turn : (n p : ℕ) (ss : List Stream) (i : ℕ) → i < length ss → some_turn n p ss ≡ false → (slice_index_or ss i silent).node ≡ n → turns_at (slice_index_or ss i silent).timing (slice_index_or ss i silent).jitter p ≡ false
no_turn n p [] i h still is = absurd (omega arith)
no_turn n p (s ∷ ss) zero h still is = elim (and_cases (s.node == n) (turns_at s.timing s.jitter p) (or_parts (turning n p s) (some_turn n p ss) still).0) [
  | inl other ↦ absurd (eqb-false s.node n other is)
  | inr here ↦ here
]
no_turn n p (s ∷ ss) (suc i) h still is = no_turn n p ss i (omega arith) (or_parts (turning n p s) (some_turn n p ss) still).1 is

-- ---- and so of each stream

pub record Known (rs : List Record) (s : Stream) : Type 0 where
  pub node : s.node ≤ 15
  pub identifier : s.identifier ≤ 2047
  pub long : 1 ≤ s.longest
  pub short : s.longest ≤ 200
  pub reached : s.jitter ≤ reach_of rs
  pub paced : Paced s.timing
  pub brief : Brief s.timing
  pub cycled : Cycles (cycle_of s.node rs) s.timing
  pub sent : s.node ≡ sender s.identifier rs

parts_known : (rs : List Record) (r : Record) (k : Kind) → intervals k ≡ true → AllByRecursion (λ t. Divides t (cycle_of r.node rs)) (periods_in k) → ((t : Timing) → Paced t → Brief t → Cycles (cycle_of r.node rs) t → Known rs (stream_of r t)) → AllByRecursion (Known rs) (parts r k)
parts_known rs r (Periodic period offset) h d one = (one (Timed period offset) (interval_some period h) (interval_most period h) d.0, tt)
parts_known rs r (Sporadic gap) h d one = (one (Event gap) (interval_some gap h) (interval_most gap h) tt, tt)
parts_known rs r (Mixed period offset gap) h d one =
    let both = and_parts (interval period) (interval gap) h in
    (one (Timed period offset) (interval_some period both.0) (interval_most period both.0) d.0, (one (Event gap) (interval_some gap both.1) (interval_most gap both.1) tt, tt))

-- what holds of each record's streams holds of all
each_stream : (P : Record → Type 0) (Q : Stream → Type 0) → ((r : Record) → P r → AllByRecursion Q (parts r r.kind)) → (rs : List Record) → AllByRecursion P rs → AllByRecursion Q (streams_of rs)
each_stream P Q f [] h = tt
each_stream P Q f (r ∷ rs) h = All-append Q (parts r r.kind) (streams_of rs) (f r h.0) (each_stream P Q f rs h.1)

module _ (rs : List Record) (s : Sound rs) where
  Declared : Record → Type 0
  Declared r = (Fits r × (r.jitter ≤ reach_of rs)) × (AllByRecursion (λ t. Divides t (cycle_of r.node rs)) (periods_in r.kind) × (r.node ≡ sender r.identifier rs))

  all_declared : AllByRecursion Declared rs
  unfolding Declared
  all_declared =
      all_both _ _ rs (all_both Fits _ rs (all_fit rs s.within) (all_reached 0 rs))
      (all_both _ _ rs (all_divide (λ n. cycle_of n rs) rs (λ n. (least_cycles rs s.within n).common)) (all_sent rs s.distinct))

  one_known : (r : Record) → Declared r → AllByRecursion (Known rs) (parts r r.kind)
  unfolding Declared
  one_known r d =
      let f = d.0.0 in
      parts_known rs r r.kind f.intervals d.1.0 (λ t paced brief cycles. record {
        node = f.node;
        identifier = f.identifier;
        long = omega arith;
        short = omega (arith, f.bytes);
        reached = d.0.1;
        paced = paced;
        brief = brief;
        cycled = cycles;
        sent = d.1.1;
      })

  pub all_known : AllByRecursion (Known rs) (streams_of rs)
  all_known = each_stream Declared (Known rs) one_known rs all_declared

  pub known : (i : ℕ) → i < length (streams_of rs) → Known rs (stream_at rs i)
  known i h = All-get_or (Known rs) (streams_of rs) i silent h all_known

  pub reach_fits : reach_of rs ≤ 1048576
  reach_fits = reach_small 0 1048576 rs (omega arith) (All-weaker Fits (λ r. r.jitter ≤ 1048576) (λ r f. f.jitter) rs (all_fit rs s.within))

  pub limits_of : Limits (traffic_of rs)
  limits_of = record {
    few = omega (arith, streams_few rs, s.few);
    node_below = λ i h. omega (arith, (known i h).node);
    identifier_below = λ i h. omega (arith, (known i h).identifier);
    long = λ i h. (known i h).long;
    short = λ i h. (known i h).short;
    some_phase = λ n h. cycle_some n rs s.within;
    few_phases = λ n h. short_at rs n s.short h;
    place_fits = λ i p q h inside some few. place_small (stream_at rs i).timing (stream_at rs i).jitter p q (known i h).paced (known i h).brief few;
    reach_fits = omega (arith, reach_fits);
  }

  pub laws_of : Laws (traffic_of rs)
  laws_of = record {
    first = λ i p h inside. place_first (stream_at rs i).timing (stream_at rs i).jitter p (reach_of rs) (known i h).reached;
    apart = λ i p q h inside some. place_apart (stream_at rs i).timing (stream_at rs i).jitter p q (known i h).paced some;
    one_node = λ i j h l e. (known i h).sent ∙ ap (λ x. sender x rs) e ∙ sym (known j l).sent;
    closer = λ i p q h inside still some.
        place_closer (cycle_of (stream_at rs i).node rs) (stream_at rs i).timing (stream_at rs i).jitter p q (known i h).paced (known i h).cycled (no_turn (stream_at rs i).node p (streams_of rs) i h still refl);
  }
