-- Counts and loads fit, and grow with the window. Assumes nothing.
use Rattle.std.proofs.Common.{ℕ, ◌+◌, ◌-◌, ◌*◌, ◌<◌, ◌≤◌, Bool, not, eqb, leb, pos, mul-le-mul, arith}
use lib.Signed.{le_z}
use Rattle.bus.specs.Sums.{sum_below, only}
use Rattle.bus.specs.Meaning.{Meaning, Limits, count}
use Rattle.bus.specs.Bound.{load, blocking, heaviest, others, own, urgent, beside}
use Rattle.bus.proofs.Adding.{sum_at_most, largest_at_most, only_at_most}

module _ (m : Meaning) where
  pub count_at_most : (k p w : ℕ) → count m k p w ≤ w + m.reach + 1
  count_at_most k p w =
      omega (arith, sum_at_most (w + m.reach + 1) 1 (λ j. only (le_z (m.place k p (j + 1)) (pos w)) 1) (λ j _. only_at_most _ 1))

  pub load_at_most : Limits m → (k p w : ℕ) → k < m.streams → w + m.reach ≤ 20971520 → load m k p w ≤ 4194304200
  load_at_most limits k p w h fits =
      let c : count m k p w ≤ 20971521 = omega (arith, count_at_most k p w) in
      let l : m.longest k ≤ 200 = limits.short k h in
      mul-le-mul c l

  -- the loads of some of the first n streams
  pub loads_at_most : Limits m → (sent : ℕ → Bool) (n p w : ℕ) → n ≤ m.streams → w + m.reach ≤ 20971520 → sum_below n (λ k. only (sent k) (load m k p w)) ≤ n * 4194304200
  loads_at_most limits sent n p w h fits =
      sum_at_most n 4194304200 _ (λ k l. omega (arith, only_at_most (sent k) (load m k p w), load_at_most limits k p w (omega arith) fits))

  pub heaviest_at_most : Limits m → (i n w : ℕ) → w + m.reach ≤ 20971520 → heaviest m i n w ≤ 536870937600
  heaviest_at_most limits i n w fits =
      largest_at_most (m.cycle n) 536870937600 _ (λ p _. omega (arith, loads_at_most limits (urgent m i n) m.streams p w (omega arith) fits, limits.few))

  -- the heaviest demands of some of the first n nodes
  pub heaviests_at_most : Limits m → (other : ℕ → Bool) (i n w : ℕ) → w + m.reach ≤ 20971520 → sum_below n (λ k. only (other k) (heaviest m i k w)) ≤ n * 536870937600
  heaviests_at_most limits other i n w fits =
      sum_at_most n 536870937600 _ (λ k _. omega (arith, only_at_most (other k) (heaviest m i k w), heaviest_at_most limits i k w fits))

  pub others_at_most : Limits m → (i w : ℕ) → w + m.reach ≤ 20971520 → others m i w ≤ 8589935001600
  unfolding others
  others_at_most limits i w fits = heaviests_at_most limits (λ n. not (eqb n (m.node i))) i 16 w fits

  pub own_at_most : Limits m → (i p w : ℕ) → w + m.reach ≤ 20971520 → own m i p w ≤ 536870937600
  own_at_most limits i p w fits = omega (arith, loads_at_most limits (beside m i) m.streams p w (omega arith) fits, limits.few)

  pub blocking_at_most : Limits m → (i : ℕ) → blocking m i ≤ 200
  blocking_at_most limits i = largest_at_most m.streams 200 _ (λ k l. omega (arith, only_at_most (leb (m.identifier i) (m.identifier k)) (m.longest k), limits.short k l))

  pub earlier_at_most : Limits m → (i q : ℕ) → i < m.streams → q ≤ 4194306 → (q - 1) * m.longest i ≤ 838861000
  earlier_at_most limits i q h few =
      let b : q - 1 ≤ 4194305 = omega arith in
      mul-le-mul b (limits.short i h)
