-- A group gathers the streams that pass, one after another. Assumes nothing.
use Rattle.std.proofs.Common.{◌≡◌, ℕ, ◌+◌, ◌<◌, true, false, List, [], ◌∷◌, ◌++◌, refl, ap, arith}
use Rattle.std.proofs.lemmas.Bool.{and_parts, eqb-true}
use Rattle.std.proofs.lemmas.List.{length-append}
use Rattle.std.proofs.lemmas.List.Elements.{All-push}
use Rattle.std.proofs.lemmas.List.Sums.{sum_by_push}
use Rattle.bus.specs.Sums.{only}
use Rattle.bus.specs.Meaning.{Meaning}
use Rattle.bus.proofs.Adding.{sum_more}
use Rattle.engine.specs.declared.group.Group.{Group}
use Rattle.engine.specs.Group.{Gathered, rival}

abbrev pub group : ℕ → List ℕ → Group
group n xs = record { node = n; streams = record { items = xs } }

module _ (m : Meaning) (i n : ℕ) where
  pub gathered_past : (k : ℕ) (xs : List ℕ) → rival m i n k ≡ false → Gathered m i n k (group n xs) → Gathered m i n (k + 1) (group n xs)
  gathered_past k xs not_rival so = record {
    is_node = refl;
    members = so.members;
    short = omega (arith, so.short);
    whole = λ f.
        let more = sum_more k (λ j. only (rival m i n j) (f j)) in
        let none : only (rival m i n k) (f k) ≡ 0 = ap (λ b. only b (f k)) not_rival in
        omega (arith, so.whole f);
  }

  pub gathered_more : (k : ℕ) (xs : List ℕ) → rival m i n k ≡ true → k < m.streams → Gathered m i n k (group n xs) → Gathered m i n (k + 1) (group n (xs ++ k ∷ []))
  gathered_more k xs is-rival known so =
      let is-n : m.node k ≡ n = eqb-true _ _ (and_parts _ _ (and_parts _ _ is-rival).0).0 in
      record {
        is_node = refl;
        members = All-push (λ j. (j < m.streams) × (m.node j ≡ n)) xs k so.members (known, is-n);
        short = omega (arith, so.short, length-append xs (k ∷ []));
        whole = λ f.
            let more = sum_more k (λ j. only (rival m i n j) (f j)) in
            let one : only (rival m i n k) (f k) ≡ f k = ap (λ b. only b (f k)) is-rival in
            omega (arith, so.whole f, sum_by_push f xs k);
      }
