-- What the streams send grows with the window, and toward a nearer phase. Assumes nothing.
use Rattle.std.proofs.Common.{◌≡◌, ℕ, ◌+◌, ◌-◌, ◌*◌, ◌<◌, ◌≤◌, Bool, true, not, eqb, ℤ, pos, ◌≤ℤ◌, refl, ap, mul-le-mul, arith}
use lib.Signed.{le_z}
use Rattle.std.proofs.lemmas.Int.{ints}
use Rattle.std.proofs.lemmas.Bool.{and_parts, eqb-true}
use Rattle.bus.specs.Sums.{sum_below, only}
use Rattle.bus.specs.Meaning.{Meaning, count}
use Rattle.bus.specs.Bound.{load, demand, heaviest, others, own, need, urgent, beside}
use Rattle.bus.proofs.Adding.{sum_grows, sum_longer, largest_grows, only_grows}
use Rattle.bus.proofs.Nearer.{Nearer, nearer_self}

-- an instance that is placed earlier counts in a longer window too
placed : (a b : ℤ) (v w : ℕ) → b ≤ℤ a → v ≤ w → only (le_z a (pos v)) 1 ≤ only (le_z b (pos w)) 1
placed a b v w h l = grind (arith, ints)

module _ (m : Meaning) where
  pub count_more : (k p c v w : ℕ) → k < m.streams → Nearer m (m.node k) p c → v ≤ w → count m k p v ≤ count m k c w
  count_more k p c v w h near more =
      let longer = sum_longer (v + m.reach + 1) (w + m.reach + 1) (λ j. only (le_z (m.place k c (j + 1)) (pos w)) 1) (omega arith) in
      let each = sum_grows (v + m.reach + 1) (λ j. only (le_z (m.place k p (j + 1)) (pos v)) 1) (λ j. only (le_z (m.place k c (j + 1)) (pos w)) 1) (λ j _. placed _ _ v w (near k (j + 1) h refl (omega arith)) more) in
      omega arith

  pub load_more : (n k p c v w : ℕ) → k < m.streams → m.node k ≡ n → Nearer m n p c → v ≤ w → load m k p v ≤ load m k c w
  load_more n k p c v w h e near more =
      let near' : Nearer m (m.node k) p c = rw e near in
      mul-le-mul (count_more k p c v w h near' more) (omega arith)

  -- what some streams of one node send
  pub loads_more : (sent : ℕ → Bool) (n p c v w : ℕ) → ((k : ℕ) → sent k ≡ true → m.node k ≡ n) → Nearer m n p c → v ≤ w → sum_below m.streams (λ k. only (sent k) (load m k p v)) ≤ sum_below m.streams (λ k. only (sent k) (load m k c w))
  loads_more sent n p c v w of_node near more =
      sum_grows m.streams _ _ (λ k h. only_grows (sent k) _ _ (λ e. load_more n k p c v w h (of_node k e) near more))

  pub demand_more : (i n p c v w : ℕ) → Nearer m n p c → v ≤ w → demand m i n p v ≤ demand m i n c w
  demand_more i n p c v w near more = loads_more (urgent m i n) n p c v w (λ k e. eqb-true _ _ (and_parts _ _ e).0) near more

  own_more : (i p c v w : ℕ) → Nearer m (m.node i) p c → v ≤ w → own m i p v ≤ own m i c w
  own_more i p c v w near more = loads_more (beside m i) (m.node i) p c v w (λ k e. eqb-true _ _ (and_parts _ _ (and_parts _ _ e).0).0) near more

  heaviest_more : (i n v w : ℕ) → v ≤ w → heaviest m i n v ≤ heaviest m i n w
  heaviest_more i n v w more = largest_grows (m.cycle n) _ _ (λ p _. demand_more i n p p v w (nearer_self m n p) more)

  -- all 16 nodes
  pub others_all : (i w n : ℕ) → n ≡ 16 → sum_below n (λ k. only (not (eqb k (m.node i))) (heaviest m i k w)) ≡ others m i w
  unfolding others
  others_all i w n all = ap (λ x. sum_below x (λ k. only (not (eqb k (m.node i))) (heaviest m i k w))) all

  others_more : (i v w : ℕ) → v ≤ w → others m i v ≤ others m i w
  unfolding others
  others_more i v w more = sum_grows 16 _ _ (λ n _. only_grows (not (eqb n (m.node i))) _ _ (λ _. heaviest_more i n v w more))

  pub need_more : (i p c q v w : ℕ) → Nearer m (m.node i) p c → v ≤ w → need m i p q v ≤ need m i c q w
  need_more i p c q v w near more = omega (arith, others_more i v w more, own_more i p c v w near more)

  -- a later instance needs no less
  pub need_later : (i p q w : ℕ) → need m i p q w ≤ need m i p (q + 1) w
  need_later i p q w =
      let more : (q - 1) * m.longest i ≤ (q + 1 - 1) * m.longest i = mul-le-mul (omega arith) (omega arith) in
      omega arith

  -- at least the instances that went before
  pub need_earlier : (i p q w : ℕ) → 1 ≤ m.longest i → q - 1 ≤ need m i p q w
  need_earlier i p q w long =
      let some : (q - 1) * 1 ≤ (q - 1) * m.longest i = mul-le-mul (omega arith) long in
      omega arith
