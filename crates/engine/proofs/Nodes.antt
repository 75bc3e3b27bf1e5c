-- The groups of the other nodes are gathered, node by node. Assumes nothing.
use Rattle.std.proofs.Common.{◌≡◌, ℕ, ◌+◌, ◌<◌, not, eqb, List, [], ◌∷◌, ◌++◌, length, sym, ap, ◌∙◌, arith}
use Rattle.std.proofs.lemmas.Bool.{ne_eqb, eq-eqb}
use Rattle.std.proofs.lemmas.List.{length-append}
use Rattle.std.proofs.lemmas.List.Elements.{All-push}
use Rattle.std.proofs.lemmas.List.Sums.{sum_by_push}
use Rattle.bus.specs.Sums.{only}
use Rattle.bus.specs.Meaning.{Meaning, Laws}
use Rattle.bus.specs.Bound.{heaviest}
use Rattle.bus.proofs.Adding.{sum_more}
use Rattle.engine.specs.declared.group.Group.{Group}
use Rattle.engine.specs.Group.{Members, Gathers, Elsewhere, heaviest_sent}
use Rattle.engine.proofs.Rivals.{heaviest_is}
use Rattle.engine.proofs.Sending.{heaviest_none}

module _ (m : Meaning) (laws : Laws m) (i n : ℕ) (known : i < m.streams) (groups : List Group) (so : Elsewhere m i n groups) where
  pub elsewhere_home : n ≡ m.node i → Elsewhere m i (n + 1) groups
  elsewhere_home home = record {
    short = omega (arith, so.short);
    each = so.each;
    whole = λ w.
        let more = sum_more n (λ k. only (not (eqb k (m.node i))) (heaviest m i k w)) in
        let none : only (not (eqb n (m.node i))) (heaviest m i n w) ≡ 0 = ap (λ b. only (not b) (heaviest m i n w)) (eq-eqb n (m.node i) home) in
        omega (arith, so.whole w);
  }

  module _ (other : n ≡ m.node i → ⊥) (g : Group) (gathers : Gathers m i n g) where
    adds : (w : ℕ) → only (not (eqb n (m.node i))) (heaviest m i n w) ≡ heaviest_sent m g w
    adds w = ap (λ b. only (not b) (heaviest m i n w)) (ne_eqb n (m.node i) other) ∙ sym (heaviest_is m laws i n known other g w gathers)

    pub elsewhere_empty : length g.streams.items ≡ 0 → Elsewhere m i (n + 1) groups
    elsewhere_empty none = record {
      short = omega (arith, so.short);
      each = so.each;
      whole = λ w.
          let more = sum_more n (λ k. only (not (eqb k (m.node i))) (heaviest m i k w)) in
          omega (arith, so.whole w, adds w, heaviest_none m g w none);
    }

    pub elsewhere_more : n < 16 → Elsewhere m i (n + 1) (groups ++ g ∷ [])
    elsewhere_more is-node = record {
      short = omega (arith, so.short, length-append groups (g ∷ []));
      each = All-push (λ g. (g.node < 16) × Members m g) groups g so.each (omega (arith, gathers.is_node), gathers.members);
      whole = λ w.
          let more = sum_more n (λ k. only (not (eqb k (m.node i))) (heaviest m i k w)) in
          omega (arith, so.whole w, adds w, sum_by_push (λ g. heaviest_sent m g w) groups g);
    }
