-- A walk over records that looks for an identifier, and what gives way where it is found. Assumes nothing.
use Rattle.std.proofs.Common.{◌≡◌, ℕ, zero, suc, ◌<◌, ◌≤◌, true, false, eqb, List, [], ◌∷◌, ◌++◌, length, take, drop, is_some, Some, None, Option, MatchOption, sym, refl, ap, ◌∙◌, subst, arith}
use Rattle.std.specs.List.{AllWithin, HoldsAt}
use Rattle.std.proofs.lemmas.List.{length-map, take_all}
use Rattle.std.proofs.lemmas.List.Recursion.{or_at}
use Rattle.std.proofs.lemmas.Bool.{or_from, or_parts, eq-eqb, ne_eqb, cond-true, cond-false}
use Rattle.plan.specs.declared.record.Message.{Message}
use Rattle.plan.specs.declared.record.Record.{Record}
use Rattle.plan.specs.Held.{no_record, record_at, PositionAsked}
use Rattle.plan.specs.Messages.{records_of}
use Rattle.plan.specs.Open.{holds, giving_way}
use Rattle.plan.proofs.Recorded.{a_message, record_read}

-- none of the first n records has the identifier
none_before : (identifier : ℕ) (rs : List Record) (n : ℕ) → ((k : ℕ) → k < n → (record_at rs k).identifier ≡ identifier → ⊥) → n ≤ length rs → holds identifier (take n rs) ≡ false
none_before identifier rs zero other inside = refl
none_before identifier [] (suc n) other inside = absurd (omega arith)
none_before identifier (r ∷ rs) (suc n) other inside =
    or_from _ _ (ne_eqb r.identifier identifier (other 0 (omega arith))) (none_before identifier rs n (λ k below. other (suc k) (omega arith)) (omega arith))

module _ (identifier : ℕ) (ms : List Message) where
  abbrev Named : Message → Type 0
  Named m = m.record.identifier ≡ identifier

  abbrev Other : Message → Type 0
  Other m = m.record.identifier ≡ identifier → ⊥

  all_other : (n : ℕ) → n ≤ length ms → AllWithin Other ms 0 n → holds identifier (take n (records_of ms)) ≡ false
  all_other n inside other =
      none_before identifier (records_of ms) n (λ k below. subst (λ (r : Record). r.identifier ≡ identifier → ⊥) (sym (record_read ms k (omega arith))) (other k a_message (omega arith) below)) (omega (arith, length-map ms (λ m. m.record)))

  -- the first message with the identifier, told of the records
  pub position_told : (told : Option ℕ) → MatchOption told (AllWithin Other ms 0 (length ms)) (λ k. (k < length ms) × HoldsAt Named ms k × AllWithin Other ms 0 k) → PositionAsked identifier (records_of ms) told
  position_told None none = subst (λ rs. holds identifier rs ≡ false) (take_all (length ms) (records_of ms) (omega (arith, length-map ms (λ m. m.record)))) (all_other (length ms) (omega arith) none)
  position_told (Some k) found = record {
    inside = omega (arith, found.0, length-map ms (λ m. m.record));
    named = ap (λ (r : Record). r.identifier) (record_read ms k found.0) ∙ found.1 a_message;
    first = all_other k (omega (arith, found.0)) found.2;
  }

pub held_at : (identifier : ℕ) (rs : List Record) (k : ℕ) → k < length rs → (record_at rs k).identifier ≡ identifier → holds identifier rs ≡ true
held_at identifier rs k inside named = or_at (holds identifier) (λ r. eqb r.identifier identifier) refl (λ _ _. refl) rs k no_record inside (eq-eqb _ _ named)

pub holds_told : (identifier : ℕ) (rs : List Record) (told : Option ℕ) → PositionAsked identifier rs told → holds identifier rs ≡ is_some told
holds_told identifier rs (Some k) at = held_at identifier rs k at.inside at.named
holds_told identifier rs None none = none

pub giving_way_at : (identifier : ℕ) (others rs : List Record) (k : ℕ) → k < length rs → (record_at rs k).identifier ≡ identifier → holds identifier (take k rs) ≡ false → giving_way identifier others rs ≡ take k rs ++ (others ++ drop (suc k) rs)
giving_way_at identifier others [] k inside named first = absurd (omega arith)
giving_way_at identifier others (r ∷ rs) zero inside named first = cond-true (eqb r.identifier identifier) _ _ (eq-eqb _ _ named)
giving_way_at identifier others (r ∷ rs) (suc k) inside named first =
    let passed = or_parts (eqb r.identifier identifier) (holds identifier (take k rs)) first in
    cond-false (eqb r.identifier identifier) _ _ passed.0 ∙ ap (λ x. r ∷ x) (giving_way_at identifier others rs k (omega arith) named passed.1)
