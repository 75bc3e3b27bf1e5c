-- The places of a stream grow with the instance. Assumes nothing.
use Rattle.std.proofs.Common.{◌≡◌, ℕ, zero, suc, ◌+◌, ◌-◌, ◌<◌, ◌≤◌, true, false, ℤ, pos, ◌+ℤ◌, ◌-ℤ◌, neg_ℤ, ◌≤ℤ◌, ◌<ℤ◌, sym, ap, subst, ⊎_elim, add-zero, arith}
use lib.Signed.{le_z}
use Rattle.std.proofs.lemmas.Int.{ints}
use Rattle.std.proofs.lemmas.Bool.{cases_lt}
use Rattle.bus.specs.Sums.{only}
use Rattle.bus.specs.Meaning.{Meaning, Laws, count}
use Rattle.bus.proofs.Adding.{sum_front, sum_ones, sum_longer}

pub above : (a b : ℤ) → b <ℤ a → le_z a b ≡ false
above a b h = grind (arith, ints)

pub upto : (a b : ℤ) → a ≤ℤ b → le_z a b ≡ true
upto a b h = grind (arith, ints)

module _ (m : Meaning) (laws : Laws m) (i p : ℕ) (known : i < m.streams) (inside : p < m.cycle (m.node i)) where
  -- d instances on, the place is d or more on
  pub grows : (q d : ℕ) → 1 ≤ q → (m.place i p q +ℤ pos d) ≤ℤ m.place i p (q + d)
  grows q zero h = subst (λ x. (m.place i p q +ℤ pos 0) ≤ℤ m.place i p x) (sym (add-zero q)) (omega (arith, ints))
  grows q (suc d) h =
      let step : (m.place i p (q + d) +ℤ pos 1) ≤ℤ m.place i p (q + d + 1) = laws.apart i p (q + d) known inside (omega arith) in
      let before : (m.place i p q +ℤ pos d) ≤ℤ m.place i p (q + d) = grows q d h in
      subst (λ x. (m.place i p q +ℤ pos (suc d)) ≤ℤ m.place i p x) (let e : q + d + 1 ≡ q + suc d = omega arith in e) (omega (arith, ints))

  pub later : (a b : ℕ) → 1 ≤ a → a ≤ b → m.place i p a ≤ℤ m.place i p b
  later a b some h =
      let on : m.place i p (a + (b - a)) ≡ m.place i p b = ap (m.place i p) (let e : a + (b - a) ≡ b = omega arith in e) in
      let grown = grows a (b - a) some in
      omega (arith, ints)

  -- no place stands before its instance less the reach
  pub far : (q : ℕ) → 1 ≤ q → (pos (q - 1) -ℤ pos m.reach) ≤ℤ m.place i p q
  far q some =
      let first : neg_ℤ (pos m.reach) ≤ℤ m.place i p 1 = laws.first i p known inside in
      let grown : (m.place i p 1 +ℤ pos (q - 1)) ≤ℤ m.place i p (1 + (q - 1)) = grows 1 (q - 1) (omega arith) in
      subst (λ x. (pos (q - 1) -ℤ pos m.reach) ≤ℤ m.place i p x) (let e : 1 + (q - 1) ≡ q = omega arith in e) (omega (arith, ints))

-- the count leaves none out
pub count_whole : (m : Meaning) → Laws m → (i p q w : ℕ) → i < m.streams → p < m.cycle (m.node i) → 1 ≤ q → m.place i p q ≤ℤ pos w → q ≤ w + m.reach + 1
count_whole m laws i p q w known inside some placed =
    let from : (pos (q - 1) -ℤ pos m.reach) ≤ℤ m.place i p q = far m laws i p known inside q some in
    omega (arith, ints)

-- those before a place of at most w count
placed_counts : (m : Meaning) → Laws m → (i p w n : ℕ) → i < m.streams → p < m.cycle (m.node i) → (1 ≤ n → m.place i p n ≤ℤ pos w) → (k : ℕ) → k < n → only (le_z (m.place i p (k + 1)) (pos w)) 1 ≡ 1
placed_counts m laws i p w n known inside last k l =
    let grown = later m laws i p known inside (k + 1) n (omega arith) (omega arith) in
    let below = last (omega arith) in
    ap (λ b. only b 1) (upto (m.place i p (k + 1)) (pos w) (omega (arith, ints)))

-- so the count is no less than n where place n is at most w
pub count_has : (m : Meaning) → Laws m → (i p w n : ℕ) → i < m.streams → p < m.cycle (m.node i) → (1 ≤ n → m.place i p n ≤ℤ pos w) → n ≤ count m i p w
count_has m laws i p w n known inside last =
    let f : ℕ → ℕ = λ k. only (le_z (m.place i p (k + 1)) (pos w)) 1 in
    let few : n ≤ w + m.reach + 1 = ⊎_elim (λ none. omega arith) (λ some. count_whole m laws i p n w known inside some (last some)) (cases_lt n 1) in
    omega (arith, sum_ones n f (placed_counts m laws i p w n known inside last), sum_longer n (w + m.reach + 1) f few)

-- n is the count where place n, if there is one, is the last of at most w
pub count_is : (m : Meaning) → Laws m → (i p w n : ℕ) → i < m.streams → p < m.cycle (m.node i) → (1 ≤ n → m.place i p n ≤ℤ pos w) → pos w <ℤ m.place i p (n + 1) → count m i p w ≡ n
count_is m laws i p w n known inside last next =
    sum_front n (w + m.reach + 1) (λ k. only (le_z (m.place i p (k + 1)) (pos w)) 1)
    (⊎_elim (λ none. omega arith) (λ some. count_whole m laws i p n w known inside some (last some)) (cases_lt n 1))
    (λ k l. placed_counts m laws i p w n known inside last k l)
    (λ k l.
    let grown = later m laws i p known inside (n + 1) (k + 1) (omega arith) (omega arith) in
    ap (λ b. only b 1) (above (m.place i p (k + 1)) (pos w) (omega (arith, ints))))
