-- Spans that rise, as their array shows it. Assumes nothing.
use Rattle.std.proofs.Common.{◌≡◌, ℕ, zero, suc, ◌+◌, ◌<◌, ◌≤◌, Bool, true, false, leb, ltb, List, length, get_or, Decides, sym, refl, ap, ◌∙◌, ⊎_elim, arith}
use Rattle.std.specs.List.{IsAllAdjacentAnswer}
use Rattle.std.specs.List.Sorted.{IsNonDecreasingBy, IsPartitionPoint}
use Rattle.std.proofs.lemmas.Bool.{false≢true, ltb-true, ltb-false, leb-true, leb-false, cases_lt}
use Rattle.std.proofs.lemmas.List.{get_or_default}
use Rattle.std.proofs.lemmas.List.Sorted.{IsNonDecreasingBy-from_all_adjacent}
use Rattle.sheet.specs.Sender.{span}
use Rattle.sheet.specs.Spanning.{Rising, span_given}

module _ (spans : List ℕ) (seven : length spans ≡ 7) where
  given : (k d : ℕ) → k < 7 → get_or spans k d ≡ span spans (k + 2)
  given k d h = get_or_default spans k d 0 (omega arith) ∙ span_given spans k h

  next : (k d : ℕ) → k + 1 < 7 → get_or spans (k + 1) d ≡ span spans (k + 3)
  next k d h = given (k + 1) d h ∙ ap (span spans) (omega arith)

  above : (k : ℕ) → k + 1 < 7 → Rising spans 7 → span spans (k + 2) < span spans (k + 3)
  above k h rising =
      let up = rising (k + 1) h in
      let low = ap (span spans) (let e : k + 1 + 1 ≡ k + 2 = omega arith in e) in
      let high = ap (span spans) (let e : k + 1 + 2 ≡ k + 3 = omega arith in e) in
      omega arith

  pub rising_sorted : Rising spans 7 → IsNonDecreasingBy (λ x. x) spans
  rising_sorted rising =
      IsNonDecreasingBy-from_all_adjacent (λ x. x) spans (λ k d h. let inside : k + 1 < 7 = omega arith in omega (arith, given k d (omega arith), next k d inside, above k inside rising))

  rises : 0 < get_or spans 0 0 → IsAllAdjacentAnswer (λ x y b. b ≡ ltb x y) spans true → Rising spans 7
  rises first all zero h = omega (arith, given 0 0 h)
  rises first all (suc k) h =
      let up = ltb-true (get_or spans k 0) (get_or spans (k + 1) 0) (sym (all k 0 (omega arith))) in
      let high = next k 0 (omega arith) in
      let low = ap (span spans) (let e : suc k + 1 ≡ k + 2 = omega arith in e) in
      let here = ap (span spans) (let e : suc k + 2 ≡ k + 3 = omega arith in e) in
      omega (arith, given k 0 (omega arith))

  falls : IsAllAdjacentAnswer (λ x y b. b ≡ ltb x y) spans false → Rising spans 7 → ⊥
  falls some rising =
      let k : ℕ = some.0 in
      let inside : k + 1 < 7 = omega (arith, some.1) in
      let down = ltb-false (get_or spans k 0) (get_or spans (k + 1) 0) (sym (some.2 0)) in
      omega (arith, given k 0 (omega arith), next k 0 inside, above k inside rising)

  -- they rise from 0 where the first is above 0 and each is above the one before
  pub rising_tells : (sorted : Bool) → 0 < get_or spans 0 0 → IsAllAdjacentAnswer (λ x y b. b ≡ ltb x y) spans sorted → Decides sorted (Rising spans 7)
  rising_tells true first all = (λ _. rises first all, λ _. refl)
  rising_tells false first some = (λ e. absurd (false≢true e), λ rising. absurd (falls some rising))

  up_to : (rest more : ℕ) → more < 7 → ((k d : ℕ) → 0 ≤ k → k < more → leb (get_or spans k d) rest ≡ true) → span spans (more + 1) ≤ rest
  up_to rest zero h low = omega arith
  up_to rest (suc k) h low =
      let here = leb-true (get_or spans k 0) rest (low k 0 (omega arith) (omega arith)) in
      let at = ap (span spans) (let e : suc k + 1 ≡ k + 2 = omega arith in e) in
      omega (arith, given k 0 (omega arith))

  -- as many spans as are at most `rest` follow the first arrival within it
  pub cut : (rest more : ℕ) → more ≤ length spans → rest < get_or spans 6 0 → IsPartitionPoint (λ y. leb y rest ≡ true) (λ y. leb y rest ≡ false) spans more → (span spans (more + 1) ≤ rest) × (rest < span spans (more + 2))
  cut rest more bound short point =
      let few : more < 7 = ⊎_elim (λ l. l) (λ l. absurd (let high = leb-true (get_or spans 6 0) rest (point.0 6 0 (omega arith) (omega arith)) in omega arith)) (cases_lt more 7) in
      (up_to rest more few point.0, let over = leb-false (get_or spans more 0) rest (point.1 more 0 (omega arith) (omega arith)) in omega (arith, given more 0 few))
