-- What an open plan keeps true of its records, and what follows from it. Assumes nothing.
use Rattle.std.specs.Prelude.{◌≡◌, ℕ, ◌*◌, ◌<◌, ◌≤◌, max, Bool, true, false, cond, not, List, [], ◌∷◌, ◌++◌, length, replicate, fold, ◌==◌, ◌≢◌, slice_index, slice_set, refl}
use Rattle.std.proofs.Common.{sym, ap, subst, ◌∙◌, inl, inr, le_trans, lt_of_lt_of_le, arith}
use Rattle.std.specs.List.{AllByRecursion}
use Rattle.std.proofs.lemmas.List.{get_or-replicate, get_or-set_same, get_or-set_other, length-append, length_push, flat_map_more}
use Rattle.std.proofs.ByRecursion.{All-append}
use Rattle.std.proofs.lemmas.Bool.{and_from, and_parts, or_from, or_parts, not-true, not_from_false, cond-true, cond-false, eq-eqb, ne_eqb, eqb-false, cases_eq, le-ltb, lt-ltb, ltb-false}
use Rattle.std.proofs.lemmas.List.Recursion.{and_at, or_push}
use Rattle.std.proofs.lemmas.List.Sums.{fold_push}
use Rattle.bus.specs.Sums.{largest_below}
use Rattle.bus.proofs.Adding.{largest_has, largest_at_most}
use Rattle.clock.specs.Multiple.{lcm, lcm_of}
use Rattle.clock.proofs.Multiples.{lcm_of_some, least_multiples}
use Rattle.plan.specs.declared.record.Kind.{Kind}
use Rattle.plan.specs.declared.record.Kind.TheVariants.{Periodic, Sporadic, Mixed}
use Rattle.plan.specs.declared.record.Message.{Message}
use Rattle.plan.specs.declared.record.Record.{Record}
use Rattle.plan.specs.declared.streams.Stream.{Stream}
use Rattle.plan.specs.Record.{within, interval, intervals}
use Rattle.plan.specs.Cycle.{all_within, periods_in, periods_at, periods, cycle_of, LeastCycles}
use Rattle.plan.specs.Messages.{records_of}
use Rattle.plan.specs.Open.{holds, apart, too_long}
use Rattle.plan.specs.Held.{no_record, record_at}
use Rattle.plan.specs.Streams.{parts, streams_of, reach_of}
use Rattle.plan.specs.Limited.{interval_some, fits}

-- what an open plan keeps true of its records
pub record Sound (records : List Record) : Type 0 where
  pub few : length records ≤ 64
  pub within : all_within records ≡ true
  pub distinct : apart records ≡ true
  pub short : too_long records ≡ false

-- and of what stands beside them
pub record Kept (records : List Record) (streams : List Stream) (cycles : List ℕ) (reach : ℕ) : Type 0 where
  pub sound : Sound records
  pub carried : streams ≡ streams_of records
  pub cycled : (n : ℕ) → n < 16 → slice_index cycles n ≡ cycle_of n records
  pub reached : reach ≡ reach_of records

pub within_at : (records : List Record) → all_within records ≡ true → (k : ℕ) → k < length records → within (record_at records k) ≡ true
within_at records all k inside = and_at all_within within refl (λ _ _. refl) records k no_record inside all

-- the records of messages are
pub records_within : (ms : List Message) → all_within (records_of ms) ≡ true
records_within [] = refl
records_within (m ∷ ms) = and_from (within m.record) (all_within (records_of ms)) m.within (records_within ms)

-- ---- cycles

-- a period is not 0
kind_some : (k : Kind) → intervals k ≡ true → AllByRecursion (λ t. 1 ≤ t) (periods_in k)
kind_some (Periodic period offset) h = (interval_some period h, tt)
kind_some (Sporadic gap) h = tt
kind_some (Mixed period offset gap) h = (interval_some period (and_parts (interval period) (interval gap) h).0, tt)

pub periods_some : (n : ℕ) (rs : List Record) → all_within rs ≡ true → AllByRecursion (λ t. 1 ≤ t) (periods n rs)
periods_some n [] h = tt
periods_some n (r ∷ rs) h =
    let both = and_parts (within r) (all_within rs) h in
    All-append (λ t. 1 ≤ t) (periods_at n r) (periods n rs) (here (r.node == n) both.0) (periods_some n rs both.1)
  where
    here : (b : Bool) → within r ≡ true → AllByRecursion (λ t. 1 ≤ t) (cond b (periods_in r.kind) [])
    here true g = kind_some r.kind (fits r g).intervals
    here false g = tt

pub cycle_some : (n : ℕ) (rs : List Record) → all_within rs ≡ true → 1 ≤ cycle_of n rs
cycle_some n rs h = lcm_of_some (periods n rs) (periods_some n rs h)

pub least_cycles : LeastCycles
least_cycles rs h n = least_multiples (periods n rs) (periods_some n rs h)

folded_append : (c : ℕ) (xs ys : List ℕ) → fold lcm c (xs ++ ys) ≡ fold lcm (fold lcm c xs) ys
folded_append c [] ys = refl
folded_append c (x ∷ xs) ys = folded_append (lcm c x) xs ys

module _ (rs : List Record) (r : Record) where
  cycle_push : (n : ℕ) → cycle_of n (rs ++ r ∷ []) ≡ fold lcm (cycle_of n rs) (periods_at n r)
  cycle_push n = ap lcm_of (sym (flat_map_more (periods_at n) [] rs r)) ∙ folded_append 1 (periods n rs) (periods_at n r)

  -- the message's period counts at its node
  pub cycle_here : cycle_of r.node (rs ++ r ∷ []) ≡ fold lcm (cycle_of r.node rs) (periods_in r.kind)
  cycle_here = cycle_push r.node ∙ ap (fold lcm (cycle_of r.node rs)) (cond-true (r.node == r.node) (periods_in r.kind) [] (eq-eqb r.node r.node refl))

  -- and at no other
  pub cycle_elsewhere : (n : ℕ) → (r.node ≢ n) → cycle_of n (rs ++ r ∷ []) ≡ cycle_of n rs
  cycle_elsewhere n other = cycle_push n ∙ ap (fold lcm (cycle_of n rs)) (cond-false (r.node == n) (periods_in r.kind) [] (ne_eqb r.node n other))

pub long_at : (rs : List Record) (n : ℕ) → n < 16 → 4194304 < cycle_of n rs → too_long rs ≡ true
unfolding too_long
long_at rs n h long = lt-ltb 4194304 (largest_below 16 (λ k. cycle_of k rs)) (lt_of_lt_of_le long (largest_has 16 (λ k. cycle_of k rs) n h))

pub short_at : (rs : List Record) (n : ℕ) → too_long rs ≡ false → n < 16 → cycle_of n rs ≤ 4194304
unfolding too_long
short_at rs n short h = le_trans (largest_has 16 (λ k. cycle_of k rs) n h) (ltb-false 4194304 (largest_below 16 (λ k. cycle_of k rs)) short)

pub short_nowhere : (rs : List Record) → ((n : ℕ) → n < 16 → cycle_of n rs ≤ 4194304) → too_long rs ≡ false
unfolding too_long
short_nowhere rs h = le-ltb 4194304 (largest_below 16 (λ k. cycle_of k rs)) (largest_at_most 16 4194304 (λ k. cycle_of k rs) h)

-- the message's own node decides
pub short_entered : (rs : List Record) (r : Record) → too_long rs ≡ false → cycle_of r.node (rs ++ r ∷ []) ≤ 4194304 → too_long (rs ++ r ∷ []) ≡ false
short_entered rs r short here = short_nowhere (rs ++ r ∷ []) (λ n h. elim (cases_eq r.node n) [
  | inl same ↦ subst (λ k. cycle_of k (rs ++ r ∷ []) ≤ 4194304) same here
  | inr other ↦ rw (cycle_elsewhere rs r n other) (short_at rs n short h)
])

-- ---- streams

parts_few : (r : Record) (k : Kind) → length (parts r k) ≤ 2
parts_few r (Periodic period offset) = omega arith
parts_few r (Sporadic gap) = omega arith
parts_few r (Mixed period offset gap) = omega arith

pub streams_few : (rs : List Record) → length (streams_of rs) ≤ 2 * length rs
streams_few [] = omega arith
streams_few (r ∷ rs) = omega (arith, streams_few rs, parts_few r r.kind, length-append (parts r r.kind) (streams_of rs))

-- ---- an empty plan

pub none_long : too_long [] ≡ false
unfolding too_long
none_long = refl

pub none_kept : Kept [] [] (replicate 16 1) 0
none_kept = record { sound = record { few = omega arith; within = refl; distinct = refl; short = none_long }; carried = refl; cycled = λ n h. get_or-replicate 16 n 1 0 h; reached = refl }

-- ---- one message more

within_push : (rs : List Record) (r : Record) → all_within rs ≡ true → within r ≡ true → all_within (rs ++ r ∷ []) ≡ true
within_push [] r h g = and_from (within r) true g refl
within_push (x ∷ rs) r h g =
    let both = and_parts (within x) (all_within rs) h in
    and_from (within x) (all_within (rs ++ r ∷ [])) both.0 (within_push rs r both.1 g)

pub holds_push : (identifier : ℕ) (rs : List Record) (r : Record) → holds identifier rs ≡ false → (r.identifier ≢ identifier) → holds identifier (rs ++ r ∷ []) ≡ false
holds_push identifier rs r none other = or_push (holds identifier) (λ x. x.identifier == identifier) refl (λ _ _. refl) rs r ∙ or_from _ _ none (ne_eqb r.identifier identifier other)

pub apart_push : (rs : List Record) (r : Record) → apart rs ≡ true → holds r.identifier rs ≡ false → apart (rs ++ r ∷ []) ≡ true
apart_push [] r h free = refl
apart_push (x ∷ rs) r h free =
    let both = and_parts (not (holds x.identifier rs)) (apart rs) h in
    let new = or_parts (x.identifier == r.identifier) (holds r.identifier rs) free in
    and_from (not (holds x.identifier (rs ++ r ∷ []))) (apart (rs ++ r ∷ []))
    (not_from_false _ (holds_push x.identifier rs r (not-true _ both.0) (λ e. eqb-false x.identifier r.identifier new.0 (sym e))))
    (apart_push rs r both.1 new.1)

module _ (rs : List Record) (r : Record) where
  pub streams_push : streams_of rs ++ parts r r.kind ≡ streams_of (rs ++ r ∷ [])
  streams_push = flat_map_more (λ x. parts x x.kind) [] rs r

  pub cycles_push : (cs : List ℕ) → ((n : ℕ) → n < 16 → slice_index cs n ≡ cycle_of n rs) → length cs ≡ 16 → (n : ℕ) → n < 16 → slice_index (slice_set cs r.node (cycle_of r.node (rs ++ r ∷ []))) n ≡ cycle_of n (rs ++ r ∷ [])
  cycles_push cs before all n h = elim (cases_eq r.node n) [
    | inl same ↦ subst (λ k. slice_index (slice_set cs r.node (cycle_of r.node (rs ++ r ∷ []))) k ≡ cycle_of k (rs ++ r ∷ [])) same
        (get_or-set_same cs r.node (cycle_of r.node (rs ++ r ∷ [])) 0 (omega arith))
    | inr other ↦ get_or-set_other cs r.node n (cycle_of r.node (rs ++ r ∷ [])) 0 (λ e. other (sym e)) ∙ before n h ∙ sym (cycle_elsewhere rs r n other)
  ]

  pub reach_push : max (reach_of rs) r.jitter ≡ reach_of (rs ++ r ∷ [])
  reach_push = sym (fold_push (λ m x. max m x.jitter) 0 rs r)

pub entered_kept : (rs : List Record) (ss : List Stream) (cs : List ℕ) (reach : ℕ) (r : Record) → Kept rs ss cs reach → within r ≡ true → holds r.identifier rs ≡ false → length rs < 64 → too_long (rs ++ r ∷ []) ≡ false → length cs ≡ 16
    → Kept (rs ++ r ∷ []) (ss ++ parts r r.kind) (slice_set cs r.node (cycle_of r.node (rs ++ r ∷ []))) (max reach r.jitter)
entered_kept rs ss cs reach r old good free room short all = record {
  sound = record {
    few = omega (arith, length_push rs r);
    within = within_push rs r old.sound.within good;
    distinct = apart_push rs r old.sound.distinct free;
    short = short;
  };
  carried = ap (λ x. x ++ parts r r.kind) old.carried ∙ streams_push rs r;
  cycled = cycles_push rs r cs old.cycled all;
  reached = ap (λ x. max x r.jitter) old.reached ∙ reach_push rs r;
}
