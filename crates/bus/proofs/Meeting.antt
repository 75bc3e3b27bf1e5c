-- The work of a window is met by the demands in it. Assumes nothing.
use Rattle.std.proofs.Common.{◌≡◌, ℕ, ◌+◌, ◌*◌, ◌<◌, ◌≤◌, not, eqb, leb, List, ℤ, sym, refl, ap, ◌∙◌, inl, inr, le_trans, le_refl, mul-le-mul_right, arith}
use Rattle.std.proofs.lemmas.Bool.{cases_eq, and_from, leb-true, le-leb, lt-ltb, eq-eqb, ne_eqb, not_from_false}
use Rattle.bus.specs.Sums.{sum_below, only}
use Rattle.bus.specs.Meaning.{Meaning, Limits, Laws}
use Rattle.bus.specs.Bound.{load, demand, heaviest, others, own, urgent, beside}
use Rattle.bus.specs.Run.{Instance, IsRun, phase_of, Keeps}
use Rattle.bus.proofs.Adding.{sum_has, sum_only, sum_spread, largest_has, only_yes, only_within, only_grows}
use Rattle.bus.proofs.Phases.{phase_below}
use Rattle.bus.proofs.Busy.{Busy}
use Rattle.bus.proofs.Filling.{started, work}
use Rattle.bus.proofs.Counting.{started_counted}

module _ (m : Meaning) (i w : ℕ) (phase : ℕ → ℕ) where
  -- the load of a stream where it is in the own demand
  abbrev near : ℕ → ℕ
  near j = only (beside m i j) (load m j (phase (m.node i)) w)

  -- and where it is in the demand of another node n
  abbrev far : ℕ → ℕ → ℕ
  far j n = only (not (eqb n (m.node i))) (only (urgent m i n j) (load m j (phase n) w))

  near_is : (j : ℕ) → m.node j ≡ m.node i → (j ≡ i → ⊥) → m.identifier j ≤ m.identifier i → near j ≡ load m j (phase (m.node j)) w
  near_is j e other level =
      only_yes (beside m i j) _ (and_from _ _ (and_from _ _ (eq-eqb _ _ e) (not_from_false _ (ne_eqb j i other))) (le-leb _ _ level))
      ∙ ap (λ n. load m j (phase n) w) (sym e)

  far_is : (j : ℕ) → (m.node j ≡ m.node i → ⊥) → m.identifier j < m.identifier i → far j (m.node j) ≡ load m j (phase (m.node j)) w
  far_is j other lower =
      only_yes (not (eqb (m.node j) (m.node i))) _ (not_from_false _ (ne_eqb (m.node j) (m.node i) other))
      ∙ only_yes (urgent m i (m.node j) j) _ (and_from _ _ (eq-eqb (m.node j) (m.node j) refl) (lt-ltb _ _ lower))

  -- a stream but i that is no higher is one or the other
  near_or_far : Laws m → i < m.streams → (N j : ℕ) → m.node j < N → j < m.streams → (j ≡ i → ⊥) → m.identifier j ≤ m.identifier i → load m j (phase (m.node j)) w ≤ near j + sum_below N (far j)
  near_or_far laws known N j below known-too other level = elim (cases_eq (m.node j) (m.node i)) [
    | inl same ↦ omega (arith, near_is j same other level)
    | inr apart ↦
        let lower : m.identifier j < m.identifier i = omega (arith, λ (equal : m.identifier j ≡ m.identifier i). apart (laws.one_node j i known-too known equal)) in
        let has = sum_has N (far j) (m.node j) below in
        omega (arith, far_is j apart lower)
  ]

  -- what another node has is at most its heaviest demand
  far_under : (n : ℕ) → phase n < m.cycle n → sum_below m.streams (λ j. far j n) ≤ only (not (eqb n (m.node i))) (heaviest m i n w)
  far_under n below =
      let other = not (eqb n (m.node i)) in
      let whole = sum_only m.streams other (λ j. only (urgent m i n j) (load m j (phase n) w)) in
      let top = only_grows other (demand m i n (phase n) w) (heaviest m i n w) (λ _. largest_has (m.cycle n) (λ p. demand m i n p w) (phase n) below) in
      omega arith

-- it is met by the demands at the phases of s, and by the stream's own instances
module _ (m : Meaning) (run : List Instance) (r : IsRun run m) (i k : ℕ) (s : ℤ) (b : Busy m run i k s) (limits : Limits m) (laws : Laws m) (base : ℕ → ℤ) (keeps : Keeps m base run) where
  pub work_met : (w : ℕ) → i < m.streams → work m run i s (w + 1) ≤ others m i w + own m i (phase_of m base (m.node i) s) w + started run s (w + 1) i * m.longest i
  unfolding others
  work_met w known =
      let phase : ℕ → ℕ = λ n. phase_of m base n s in
      let sent : ℕ → ℕ = λ j. started run s (w + 1) j * m.longest j in
      sum_spread m.streams 16 (λ j. only (leb (m.identifier j) (m.identifier i)) (sent j)) (near m i w phase) (far m i w phase) (λ n. only (not (eqb n (m.node i))) (heaviest m i n w)) i (sent i)
      (λ j known-too other. only_within (leb (m.identifier j) (m.identifier i)) (sent j) _ (λ t.
      let level = leb-true (m.identifier j) (m.identifier i) t in
      le_trans
      (mul-le-mul_right (m.longest j) (started_counted m run r i k s b limits laws base keeps w j known-too level))
      (near_or_far m i w phase laws known 16 j (limits.node_below j known-too) known-too other level)))
      (only_within (leb (m.identifier i) (m.identifier i)) (sent i) (sent i) (λ t. le_refl _))
      (λ n below. far_under m i w phase n (phase_below m limits base n s below))
