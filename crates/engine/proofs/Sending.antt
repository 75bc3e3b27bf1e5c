-- What a group sends: how much it can be, and that it grows toward nearer phases. Assumes nothing.
use Rattle.std.proofs.Common.{◌≡◌, ℕ, ◌*◌, ◌<◌, ◌≤◌, List, [], ◌∷◌, length, arith}
use Rattle.std.specs.Prelude.{All, sum_by}
use Rattle.std.proofs.lemmas.List.{nil_from_length}
use Rattle.std.proofs.lemmas.List.Elements.{All-head, All-tail, All-weaker}
use Rattle.std.proofs.lemmas.List.Sums.{sum_by-cons, sum_by-le}
use Rattle.bus.specs.Meaning.{Meaning, Limits}
use Rattle.bus.specs.Bound.{horizon, load}
use Rattle.bus.proofs.Adding.{largest_at_most}
use Rattle.bus.proofs.Demands.{load_more}
use Rattle.bus.proofs.Loads.{load_at_most}
use Rattle.bus.proofs.Nearer.{Nearer}
use Rattle.engine.specs.declared.group.Group.{Group}
use Rattle.engine.specs.Group.{Members, sent, heaviest_sent}

sums_grow : (f g : ℕ → ℕ) (xs : List ℕ) → All (λ x. f x ≤ g x) xs → sum_by f xs ≤ sum_by g xs
sums_grow f g [] all = omega arith
sums_grow f g (x ∷ xs) all =
    let first = All-head (λ x. f x ≤ g x) x xs all in
    let rest = sums_grow f g xs (All-tail (λ x. f x ≤ g x) x xs all) in
    omega (arith, sum_by-cons f x xs, sum_by-cons g x xs)

module _ (m : Meaning) (g : Group) (members : Members m g) where
  pub sent_rises : (w p c : ℕ) → Nearer m g.node p c → sent m g p w ≤ sent m g c w
  sent_rises w p c near = sums_grow _ _ g.streams.items (All-weaker _ _ (λ (k : ℕ) (is : (k < m.streams) × (m.node k ≡ g.node)). load_more m g.node k p c w w is.0 is.1 near (omega arith)) g.streams.items members)

  pub sent_at_most : Limits m → (p w : ℕ) → w ≤ horizon → sent m g p w ≤ length g.streams.items * 4194304200
  sent_at_most limits p w fits =
      sum_by-le (λ k. load m k p w) 4194304200 g.streams.items (All-weaker _ _ (λ (k : ℕ) (is : (k < m.streams) × (m.node k ≡ g.node)). load_at_most m limits k p w is.0 (omega (arith, limits.reach_fits))) g.streams.items members)

pub heaviest_none : (m : Meaning) (g : Group) (w : ℕ) → length g.streams.items ≡ 0 → heaviest_sent m g w ≡ 0
heaviest_none m g w none =
    let empty = nil_from_length g.streams.items none in
    let nothing : (p : ℕ) → sent m g p w ≤ 0 = λ p. rw empty (omega arith) in
    omega (arith, largest_at_most (m.cycle g.node) 0 (λ p. sent m g p w) (λ p _. nothing p))
