-- The records stay sound, and their schedule in step, as a message is entered, altered or struck. Assumes nothing.
use Rattle.std.proofs.Common.{◌≡◌, ℕ, zero, suc, ◌<◌, max, true, false, not, ◌&&◌, ◌||◌, eqb, List, [], ◌∷◌, ◌++◌, length, set, Ok, Err, Result, sym, refl, ap, ◌∙◌, le_trans, arith}
use Rattle.std.specs.List.{remove, slice_index, slice_set}
use Rattle.std.proofs.lemmas.List.{set_split}
use Rattle.std.proofs.lemmas.Bool.{and_parts, and_from, or_from, or_parts, not-true, not_from_false, both_ways}
use Rattle.bus.specs.declared.refusal.Refusal.{Refusal}
use Rattle.plan.specs.declared.record.Record.{Record}
use Rattle.plan.specs.declared.schedule.Schedule.{Schedule}
use Rattle.plan.specs.Cycle.{cycle_of}
use Rattle.plan.specs.Held.{record_at, Stands}
use Rattle.plan.specs.Open.{holds, apart, too_long, altered, struck}
use Rattle.plan.specs.Schedule.{Works, WorksOut}
use Rattle.plan.specs.Streams.{parts}
use Rattle.plan.specs.Kept.{Sound, short_at, short_nowhere, streams_push, cycles_push, reach_push}
use Rattle.plan.proofs.Places.{giving_way_at}
use Rattle.plan.proofs.Walked.{cycle_without}

-- ---- a schedule worked out

module _ (rs : List Record) (old new : Schedule) where
  pub works : (done : Result (Unit {0}) Refusal) → WorksOut rs old done new → too_long rs ≡ false → Works rs new
  works (Ok done) out short = out.1
  works (Err e) out short = absurd (both_ways (too_long rs) short out.0)

-- ---- one message more

-- what is added to a schedule
pub entered_works : (rs : List Record) (r : Record) (old new : Schedule) (cycle : ℕ) → Works rs old → length old.cycles ≡ 16 → cycle ≡ cycle_of r.node (rs ++ r ∷ []) → new.streams.items ≡ old.streams.items ++ parts r r.kind → new.cycles ≡ slice_set old.cycles r.node cycle → new.reach ≡ max old.reach r.jitter
    → Works (rs ++ r ∷ []) new
entered_works rs r old new cycle before all is streams cycles reach = record {
  carried = streams ∙ ap (λ x. x ++ parts r r.kind) before.carried ∙ streams_push rs r;
  cycled = λ n h. ap (λ cs. slice_index cs n) (cycles ∙ ap (slice_set old.cycles r.node) is) ∙ cycles_push rs r old.cycles before.cycled all n h;
  reached = reach ∙ ap (λ x. max x r.jitter) before.reached ∙ reach_push rs r;
}

-- ---- another record in a place

holds_set : (identifier : ℕ) (rs : List Record) (k : ℕ) (r : Record) → k < length rs → (record_at rs k).identifier ≡ r.identifier → holds identifier (set rs k r) ≡ holds identifier rs
holds_set identifier [] k r inside same = refl
holds_set identifier (x ∷ rs) zero r inside same = ap (λ i. eqb i identifier || holds identifier rs) (sym same)
holds_set identifier (x ∷ rs) (suc k) r inside same = ap (λ b. eqb x.identifier identifier || b) (holds_set identifier rs k r (omega arith) same)

apart_set : (rs : List Record) (k : ℕ) (r : Record) → k < length rs → (record_at rs k).identifier ≡ r.identifier → apart (set rs k r) ≡ apart rs
apart_set [] k r inside same = refl
apart_set (x ∷ rs) zero r inside same = ap (λ i. not (holds i rs) && apart rs) (sym same)
apart_set (x ∷ rs) (suc k) r inside same =
    ap (λ b. not b && apart (set rs k r)) (holds_set x.identifier rs k r (omega arith) same)
    ∙ ap (λ b. not (holds x.identifier rs) && b) (apart_set rs k r (omega arith) same)

module _ (rs : List Record) (k : ℕ) (r : Record) (at : Stands r.identifier rs k) where
  pub altered_is : set rs k r ≡ altered r rs
  altered_is = set_split rs k r at.inside ∙ sym (giving_way_at r.identifier (r ∷ []) rs k at.inside at.named at.first)

  pub altered_apart : apart rs ≡ true → apart (set rs k r) ≡ true
  altered_apart distinct = apart_set rs k r at.inside at.named ∙ distinct

-- ---- no record in a place

holds_removed : (identifier : ℕ) (rs : List Record) (k : ℕ) → holds identifier rs ≡ false → holds identifier (remove rs k) ≡ false
holds_removed identifier [] zero none = refl
holds_removed identifier [] (suc k) none = refl
holds_removed identifier (x ∷ rs) zero none = (or_parts (eqb x.identifier identifier) (holds identifier rs) none).1
holds_removed identifier (x ∷ rs) (suc k) none =
    let both = or_parts (eqb x.identifier identifier) (holds identifier rs) none in
    or_from (eqb x.identifier identifier) (holds identifier (remove rs k)) both.0 (holds_removed identifier rs k both.1)

pub apart_removed : (rs : List Record) (k : ℕ) → apart rs ≡ true → apart (remove rs k) ≡ true
apart_removed [] zero distinct = refl
apart_removed [] (suc k) distinct = refl
apart_removed (x ∷ rs) zero distinct = (and_parts (not (holds x.identifier rs)) (apart rs) distinct).1
apart_removed (x ∷ rs) (suc k) distinct =
    let both = and_parts (not (holds x.identifier rs)) (apart rs) distinct in
    and_from (not (holds x.identifier (remove rs k))) (apart (remove rs k)) (not_from_false _ (holds_removed x.identifier rs k (not-true _ both.0))) (apart_removed rs k both.1)

module _ (identifier : ℕ) (rs : List Record) (k : ℕ) (at : Stands identifier rs k) where
  pub struck_is : remove rs k ≡ struck identifier rs
  struck_is = sym (giving_way_at identifier [] rs k at.inside at.named at.first)

pub short_removed : (rs : List Record) (k : ℕ) → Sound rs → too_long (remove rs k) ≡ false
short_removed rs k s = short_nowhere (remove rs k) (λ n h. le_trans (cycle_without rs s.within n k) (short_at rs n s.short h))
