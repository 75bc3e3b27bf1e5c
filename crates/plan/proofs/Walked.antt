-- A walk over records that works out what stands beside them. Assumes nothing.
use Rattle.std.proofs.Common.{◌≡◌, ℕ, zero, suc, ◌+◌, ◌<◌, ◌≤◌, true, List, [], ◌∷◌, ◌++◌, length, take, fold, sym, ap, ◌∙◌, subst}
use Rattle.std.specs.List.{remove, AllByRecursion}
use Rattle.std.proofs.ByRecursion.{All-append}
use Rattle.std.proofs.lemmas.List.{take_more, flat_map_more}
use Rattle.clock.specs.Multiple.{Divides, lcm, lcm_of}
use Rattle.clock.proofs.Multiples.{divides_le, lcm_of_some, least_multiples}
use Rattle.plan.specs.declared.record.Record.{Record}
use Rattle.plan.specs.Cycle.{all_within, periods_in, periods_at, periods, cycle_of}
use Rattle.plan.specs.Held.{no_record, record_at}
use Rattle.plan.specs.Streams.{parts, streams_of}
use Rattle.plan.specs.Carried.{all_parts}
use Rattle.plan.specs.Kept.{periods_some, cycle_here, cycle_elsewhere}

-- ---- fewer messages have no longer a cycle

fewer_multiples : (ns ms : List ℕ) → AllByRecursion (λ t. 1 ≤ t) ms → ((P : ℕ → Type 0) → AllByRecursion P ms → AllByRecursion P ns) → lcm_of ns ≤ lcm_of ms
fewer_multiples ns ms some part =
    divides_le (lcm_of ns) (lcm_of ms) (lcm_of_some ms some)
    ((least_multiples ns (part (λ t. 1 ≤ t) some)).least (lcm_of ms) (part (λ t. Divides t (lcm_of ms)) (least_multiples ms some).common))

periods_take : (n : ℕ) (rs : List Record) (k : ℕ) (P : ℕ → Type 0) → AllByRecursion P (periods n rs) → AllByRecursion P (periods n (take k rs))
periods_take n [] zero P h = tt
periods_take n [] (suc k) P h = tt
periods_take n (r ∷ rs) zero P h = tt
periods_take n (r ∷ rs) (suc k) P h =
    let both = all_parts P (periods_at n r) (periods n rs) h in
    All-append P (periods_at n r) (periods n (take k rs)) both.0 (periods_take n rs k P both.1)

periods_removed : (n : ℕ) (rs : List Record) (k : ℕ) (P : ℕ → Type 0) → AllByRecursion P (periods n rs) → AllByRecursion P (periods n (remove rs k))
periods_removed n [] zero P h = tt
periods_removed n [] (suc k) P h = tt
periods_removed n (r ∷ rs) zero P h = (all_parts P (periods_at n r) (periods n rs) h).1
periods_removed n (r ∷ rs) (suc k) P h =
    let both = all_parts P (periods_at n r) (periods n rs) h in
    All-append P (periods_at n r) (periods n (remove rs k)) both.0 (periods_removed n rs k P both.1)

module _ (rs : List Record) (all : all_within rs ≡ true) (n k : ℕ) where
  pub cycle_before : cycle_of n (take k rs) ≤ cycle_of n rs
  cycle_before = fewer_multiples (periods n (take k rs)) (periods n rs) (periods_some n rs all) (periods_take n rs k)

  pub cycle_without : cycle_of n (remove rs k) ≤ cycle_of n rs
  cycle_without = fewer_multiples (periods n (remove rs k)) (periods n rs) (periods_some n rs all) (periods_removed n rs k)

-- ---- one message further

module _ (rs : List Record) (k : ℕ) (inside : k < length rs) where
  pub cycle_on : (n : ℕ) → (record_at rs k).node ≡ n → cycle_of n (take (k + 1) rs) ≡ fold lcm (cycle_of n (take k rs)) (periods_in (record_at rs k).kind)
  cycle_on n same =
      ap (cycle_of n) (take_more rs k no_record inside)
      ∙ subst (λ m. cycle_of m (take k rs ++ record_at rs k ∷ []) ≡ fold lcm (cycle_of m (take k rs)) (periods_in (record_at rs k).kind)) same (cycle_here (take k rs) (record_at rs k))

  pub cycle_past : (n : ℕ) → ((record_at rs k).node ≡ n → ⊥) → cycle_of n (take (k + 1) rs) ≡ cycle_of n (take k rs)
  cycle_past n other = ap (cycle_of n) (take_more rs k no_record inside) ∙ cycle_elsewhere (take k rs) (record_at rs k) n other

  pub streams_on : streams_of (take (k + 1) rs) ≡ streams_of (take k rs) ++ parts (record_at rs k) (record_at rs k).kind
  streams_on = ap streams_of (take_more rs k no_record inside) ∙ sym (flat_map_more (λ r. parts r r.kind) [] (take k rs) (record_at rs k))
