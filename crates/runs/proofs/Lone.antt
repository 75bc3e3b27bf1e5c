-- A run of one instance keeps the declarations. Assumes nothing.
use Rattle.std.proofs.Common.{◌≡◌, ℕ, zero, suc, ◌+◌, ◌*◌, ◌<◌, ◌≤◌, List, [], ◌∷◌, length, ℤ, pos, ◌+ℤ◌, ◌≤ℤ◌, ◌<ℤ◌, sym, refl, ap, ◌∙◌, subst, inl, inr, arith}
use Rattle.std.proofs.lemmas.Int.{ints}
use Rattle.bus.specs.Meaning.{Meaning}
use Rattle.bus.specs.Run.{Instance, at, Waits, GoesBefore, IsRun}
use Rattle.clock.specs.declared.timing.Timing.{Timing}
use Rattle.clock.specs.declared.timing.Timing.TheVariants.{Timed, Event}
use Rattle.plan.specs.declared.record.Record.{Record}
use Rattle.plan.specs.Streams.{stream_at, traffic_of}
use Rattle.plan.specs.Kept.{Sound}
use Rattle.plan.specs.Carried.{limits_of}
use Rattle.runs.specs.Declarations.{Comes, Arrivals, Queueing, DeclaredMet}

abbrev first_arrival : Timing → ℤ → ℤ
first_arrival (Timed period offset) base = base +ℤ pos (offset + 0 * period)
first_arrival (Event gap) base = base

-- sent at once, in one bit
abbrev lone : ℕ → ℤ → List Instance
lone i t = record { stream = i; arrival = t; queued = t; start = t; bits = 1 } ∷ []

only_first : (k : ℕ) → k < 1 → zero ≡ k
only_first k l = omega arith

module _ (i : ℕ) (t : ℤ) where
  at_first : (P : ℕ → Type 0) → P zero → (k : ℕ) → k < length (lone i t) → P k
  at_first P h zero l = h
  at_first P h (suc k) l = absurd (omega arith)

  at_both : (P : ℕ → ℕ → Type 0) → P zero zero → (j k : ℕ) → j < length (lone i t) → k < length (lone i t) → P j k
  at_both P h j k l l' = at_first (λ x. P x k) (at_first (P zero) h k l') j l

  is_run : (m : Meaning) → i < m.streams → 1 ≤ m.longest i → IsRun (lone i t) m
  is_run m known long = record {
    known = at_first (λ k. (at (lone i t) k).stream < m.streams) known;
    after_arrival = at_first (λ k. (at (lone i t) k).arrival ≤ℤ (at (lone i t) k).queued) (omega (arith, ints));
    after_queueing = at_first (λ k. (at (lone i t) k).queued ≤ℤ (at (lone i t) k).start) (omega (arith, ints));
    some_bits = at_first (λ k. 1 ≤ (at (lone i t) k).bits) (omega arith);
    few_bits = at_first (λ k. (at (lone i t) k).bits ≤ m.longest (at (lone i t) k).stream) long;
    alone = λ j k l l' other. absurd (other (sym (only_first j l) ∙ only_first k l'));
    eager = λ u k l waits free. (zero, omega arith, (let w = subst (λ x. Waits (lone i t) x u) (sym (only_first k l)) waits in let a = w.0 in let b = w.1 in omega (arith, ints)));
    urgent = at_both (λ j k. Waits (lone i t) k (at (lone i t) j).start → m.identifier (at (lone i t) j).stream ≤ m.identifier (at (lone i t) k).stream) (λ _. omega arith);
    in_order = λ j k l l' _. at_both (λ j k. GoesBefore (lone i t) j k → (at (lone i t) j).start <ℤ (at (lone i t) k).start) (λ before. absurd (not_itself before)) j k l l';
  }
    where
      not_itself : GoesBefore (lone i t) zero zero → ⊥
      not_itself (inl earlier) = omega (arith, ints)
      not_itself (inr (same, inl earlier)) = omega (arith, ints)
      not_itself (inr (same, inr listed)) = let less = listed.1 in omega arith

  module _ (k : ℕ) where
    arrives : (base : ℤ) (s : Timing) → (i ≡ k → t ≡ first_arrival s base) → Arrivals (lone i t) k base s
    arrives base (Timed period offset) e = record {
      comes = λ j o. at_first (λ x. (at (lone i t) x).stream ≡ k → (n : ℕ) × Comes (lone i t) k base period offset x n) (λ same. (0, e same)) j o.0 o.1;
      once = λ j l n o o' _ _. sym (only_first j o.0) ∙ only_first l o'.0;
    }
    arrives base (Event gap) e = record { apart = λ j l o o' other. absurd (other (sym (only_first j o.0) ∙ only_first l o'.0)) }

    queues : (jitter : ℕ) → Queueing (lone i t) k jitter
    queues jitter = record {
      soon = λ j o. at_first (λ x. (at (lone i t) x).queued ≤ℤ ((at (lone i t) x).arrival +ℤ pos jitter)) (omega (arith, ints)) j o.0;
      in_order = λ j l o o'. at_both (λ x y. (at (lone i t) x).arrival <ℤ (at (lone i t) y).arrival → (at (lone i t) x).queued ≤ℤ (at (lone i t) y).queued) (λ _. omega (arith, ints)) j l o.0 o'.0;
    }

pub declared_met : (records : List Record) → Sound records → DeclaredMet records
declared_met records sound i l base =
    let first : ℕ → ℤ = (λ k. first_arrival (stream_at records k).timing (base (stream_at records k).node)) in
    record {
      run = lone i (first i);
      is_run = is_run i (first i) (traffic_of records) l ((limits_of records sound).long i l);
      keeps = λ k _. record { arrivals = arrives i (first i) k (base (stream_at records k).node) (stream_at records k).timing (λ e. ap first e); queueing = queues i (first i) k (stream_at records k).jitter };
      instance = zero;
      is = (omega arith, refl);
    }
