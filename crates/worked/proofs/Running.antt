-- The runs of two messages. Assumes nothing.
use Rattle.std.proofs.Common.{ℕ, zero, suc, ◌<◌, List, ℤ, refl, arith}
use Rattle.bus.specs.Run.{Instance}
use Rattle.clock.specs.declared.timing.Timing.TheVariants.{Timed}
use Rattle.plan.specs.Streams.{traffic_of, stream_at}
use Rattle.runs.specs.Declarations.{KeepsStream}
use Rattle.worked.specs.Runs.{Kept, apart, together, RunsKept}
use Rattle.worked.proofs.Checking.{is_run, Timely, by_time, queueing}

-- both of two streams
both : (P : ℕ → Type 0) → P 0 → P 1 → (i : ℕ) → i < 2 → P i
both P a b zero l = a
both P a b (suc zero) l = b
both P a b (suc (suc i)) l = absurd (omega arith)

keeps_timed : (run : List Instance) (i : ℕ) (base : ℕ → ℤ) (node identifier longest jitter period offset : ℕ) → Timely run i (base node) period offset jitter → KeepsStream run i base (record { node = node; identifier = identifier; longest = longest; jitter = jitter; timing = Timed period offset })
keeps_timed run i base node identifier longest jitter period offset timely = record { arrivals = by_time run i (base node) period offset jitter timely; queueing = queueing run i (base node) period offset jitter timely }

apart_kept : Kept apart
apart_kept = record {
  is_run = is_run (traffic_of apart.records) apart.run (record { known = refl; rising = refl; bits = refl; following = refl; spacing = refl; yielding = refl; ordering = refl });
  keeps = both (λ i. KeepsStream apart.run i apart.base (stream_at apart.records i))
      (keeps_timed apart.run 0 apart.base 0 10 55 0 400 0 (record { coming = refl; differing = refl }))
      (keeps_timed apart.run 1 apart.base 0 20 55 0 400 200 (record { coming = refl; differing = refl }));
}

together_kept : Kept together
together_kept = record {
  is_run = is_run (traffic_of together.records) together.run (record { known = refl; rising = refl; bits = refl; following = refl; spacing = refl; yielding = refl; ordering = refl });
  keeps = both (λ i. KeepsStream together.run i together.base (stream_at together.records i))
      (keeps_timed together.run 0 together.base 0 10 55 0 400 0 (record { coming = refl; differing = refl }))
      (keeps_timed together.run 1 together.base 1 20 55 0 400 200 (record { coming = refl; differing = refl }));
}

pub runs_kept : RunsKept
runs_kept = (apart_kept, (together_kept, tt))
