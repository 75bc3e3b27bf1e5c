-- The groups of a stream's rivals at other nodes send just its demands. Assumes nothing.
use Rattle.std.proofs.Common.{◌≡◌, ℕ, ◌<◌, Bool, true, false, not, ◌&&◌, eqb, ltb, leb, sym, refl, ap, ◌∙◌, arith}
use Rattle.std.proofs.lemmas.Bool.{eqb-true}
use Rattle.std.proofs.lemmas.Bool.Decides.{nat_tests}
use Rattle.bus.specs.Sums.{only}
use Rattle.bus.specs.Meaning.{Meaning, Laws}
use Rattle.bus.specs.Bound.{load, demand, heaviest, urgent}
use Rattle.bus.proofs.Adding.{sum_same, largest_same}
use Rattle.engine.specs.declared.group.Group.{Group}
use Rattle.engine.specs.Group.{Gathers, sent, heaviest_sent, rival}

-- a test that a stream of another node passes, by its identifier alone
test_same : (k i a b : ℕ) (here : Bool) → (here ≡ true → (k ≡ i → ⊥) × (a ≡ b → ⊥)) → ((here && not (eqb k i)) && leb a b) ≡ (here && ltb a b)
test_same k i a b true apart = let p = apart refl in grind (arith, nat_tests)
test_same k i a b false apart = refl

module _ (m : Meaning) (laws : Laws m) (i n : ℕ) (known : i < m.streams) (other : n ≡ m.node i → ⊥) where
  -- at another node a rival has a lower identifier
  rival_urgent : (k : ℕ) → k < m.streams → rival m i n k ≡ urgent m i n k
  rival_urgent k known-k =
      test_same k i (m.identifier k) (m.identifier i) (eqb (m.node k) n) (λ e.
      let of-n : m.node k ≡ n = eqb-true (m.node k) n e in (
        λ same. other (sym of-n ∙ ap m.node same),
        λ same. other (sym of-n ∙ laws.one_node k i known-k known same),
      ))

  pub sent_demand : (g : Group) (p w : ℕ) → Gathers m i n g → sent m g p w ≡ demand m i n p w
  sent_demand g p w gathers =
      gathers.whole (λ k. load m k p w)
      ∙ sum_same m.streams _ _ (λ k l. ap (λ b. only b (load m k p w)) (rival_urgent k l))

  pub heaviest_is : (g : Group) (w : ℕ) → Gathers m i n g → heaviest_sent m g w ≡ heaviest m i n w
  heaviest_is g w gathers =
      rw gathers.is_node (largest_same (m.cycle n) (λ p. sent m g p w) (λ p. demand m i n p w) (λ p l. sent_demand g p w gathers))
