-- The least common multiple: its laws, from its being the least. Assumes nothing.
use Rattle.std.proofs.Common.{◌≡◌, ℕ, zero, suc, ◌+◌, ◌-◌, ◌*◌, ◌/◌, ◌%◌, ◌<◌, ◌≤◌, Bool, true, false, eqb, List, [], ◌∷◌, fold, sym, refl, ap, ◌∙◌, subst, inl, inr, add-zero, mod-lt, mul_assoc, mul_comm, mul-pos, mul-zero, zero-mul, mul-one, mul-add, mul_left_comm, arith}
use Prim.Native.Nat.{◌∣◌}
use native.Mathlib.Nat.{mod-eq-zero_of_dvd, dvd_antisymm, dvd-mod_iff, le_of_dvd, pos_of_dvd_of_pos, mul-sub, div-add-mod, eq_of_mul-eq-mul_left, mul-div_cancel_left, zero-div}
use Rattle.std.specs.List.{AllByRecursion}
use Rattle.std.proofs.lemmas.Bool.{cond_both, eqb-true, eqb-false, eq-eqb, cases_eq, cases_lt}
use Rattle.clock.specs.Multiple.{first_from, lcm_steps, lcm, lcm_of, Divides, GreatestCommon, LeastCommon, LeastMultiples}

-- the search ends at a number that passes, where the last does
first_passes : (n k : ℕ) (test : ℕ → Bool) → test (k + n) ≡ true → test (first_from n k test) ≡ true
first_passes zero k test h = rw add-zero at h
first_passes (suc n) k test h =
    cond_both (test k) k (first_from n (k + 1) test) (λ x. test x ≡ true) (λ e. e)
    (λ _. first_passes n (k + 1) test (subst (λ x. test x ≡ true) (omega arith) h))

first_above : (n k : ℕ) (test : ℕ → Bool) → k ≤ first_from n k test
first_above zero k test = omega arith
first_above (suc n) k test =
    cond_both (test k) k (first_from n (k + 1) test) (λ x. k ≤ x) (λ _. omega arith) (λ _. let h = first_above n (k + 1) test in omega arith)

-- and none before it does
first_least : (n k : ℕ) (test : ℕ → Bool) (j : ℕ) → k ≤ j → j < first_from n k test → test j ≡ false
first_least zero k test j h = λ l. absurd (omega arith)
first_least (suc n) k test j h =
    cond_both (test k) k (first_from n (k + 1) test) (λ x. j < x → test j ≡ false) (λ _ l. absurd (omega arith))
    (λ e l. elim (cases_eq k j) [ inl same ↦ subst (λ x. test x ≡ false) same e | inr other ↦ first_least n (k + 1) test j (omega arith) l ])

-- ---- division

pub divides_from_mod : (d n : ℕ) → n % d ≡ 0 → Divides d n
divides_from_mod d n h = (n / d, omega (arith, div-add-mod n d))

-- the library's form
dvd : (d n : ℕ) → Divides d n → d ∣ n
dvd d n h = ∣ h ∣₁

from_dvd : (d n : ℕ) → d ∣ n → Divides d n
from_dvd d n h = divides_from_mod d n (mod-eq-zero_of_dvd d h)

mod_from_divides : (d n : ℕ) → Divides d n → n % d ≡ 0
mod_from_divides d n h = mod-eq-zero_of_dvd d (dvd d n h)

pub divides_self : (n : ℕ) → Divides n n
divides_self n = (1, sym (mul-one n))

pub divides_zero : (d : ℕ) → Divides d 0
divides_zero d = (0, sym (mul-zero d))

pub divides_on : (a b c : ℕ) → Divides a b → Divides b c → Divides a c
divides_on a b c (j, e) (k, f) = (j * k, f ∙ ap (λ x. x * k) e ∙ mul_assoc a j k)

divides_rest : (d m n : ℕ) → Divides d (m + n) → Divides d m → Divides d n
divides_rest d m n (j, e) (k, f) = (j - k, omega (arith, mul-sub d j k))

divides_times : (d n k : ℕ) → Divides d n → Divides d (n * k)
divides_times d n k h = divides_on d n (n * k) h (k, refl)

pub divides_le : (d n : ℕ) → 1 ≤ n → Divides d n → d ≤ n
divides_le d n some h = le_of_dvd some (dvd d n h)

divides_some : (d n : ℕ) → 1 ≤ n → Divides d n → 1 ≤ d
divides_some d n some h = pos_of_dvd_of_pos (dvd d n h) some

-- numbers that divide each other are the same
divides_same : (a b : ℕ) → Divides a b → Divides b a → a ≡ b
divides_same a b h k = dvd_antisymm (dvd a b h) (dvd b a k)

-- Euclid's step: x and y have the common divisors of y and x % y
pub divides_mod : (d x y : ℕ) → Divides d x → Divides d y → Divides d (x % y)
divides_mod d x y dx dy = from_dvd d (x % y) ((dvd-mod_iff d (dvd d y dy)).1 (dvd d x dx))

pub divides_unmod : (d x y : ℕ) → Divides d y → Divides d (x % y) → Divides d x
divides_unmod d x y dy dm = from_dvd d x ((dvd-mod_iff d (dvd d y dy)).0 (dvd d (x % y) dm))

-- ---- two numbers

module _ (a b : ℕ) (pa : 1 ≤ a) (pb : 1 ≤ b) where
  steps_pass : Divides b (a * lcm_steps a b)
  unfolding lcm_steps
  steps_pass =
      let last : 1 + (b - 1) ≡ b = omega arith in
      let ok : eqb ((a * (1 + (b - 1))) % b) 0 ≡ true = eq-eqb _ 0 (mod_from_divides b _ (a, ap (λ x. a * x) last ∙ mul_comm a b)) in
      divides_from_mod b (a * lcm_steps a b) (eqb-true _ 0 (first_passes (b - 1) 1 (λ k. eqb ((a * k) % b) 0) ok))

  steps_some : 1 ≤ lcm_steps a b
  unfolding lcm_steps
  steps_some = first_above (b - 1) 1 (λ k. eqb ((a * k) % b) 0)

  steps_least : (j : ℕ) → 1 ≤ j → j < lcm_steps a b → Divides b (a * j) → ⊥
  unfolding lcm_steps
  steps_least j h l d = eqb-false _ 0 (first_least (b - 1) 1 (λ k. eqb ((a * k) % b) 0) j h l) (mod_from_divides b (a * j) d)

  -- every number of steps to a common multiple is a multiple of the least
  steps_divide : (j : ℕ) → Divides b (a * j) → Divides (lcm_steps a b) j
  steps_divide j d =
      let s : ℕ = lcm_steps a b in
      let split : a * j ≡ a * (s * (j / s)) + a * (j % s) = ap (λ x. a * x) (sym (div-add-mod j s)) ∙ mul-add a (s * (j / s)) (j % s) in
      let whole : Divides b (a * (s * (j / s))) = subst (Divides b) (mul_assoc a s (j / s)) (divides_times b (a * s) (j / s) steps_pass) in
      let rest : Divides b (a * (j % s)) = divides_rest b (a * (s * (j / s))) (a * (j % s)) (subst (Divides b) split d) whole in
      elim (cases_lt (j % s) 1) [ inl none ↦ divides_from_mod s j (omega arith) | inr some ↦ absurd (steps_least (j % s) some (mod-lt j steps_some) rest) ]

  lcm_some : 1 ≤ lcm a b
  lcm_some = mul-pos pa steps_some

  lcm_divides : (m : ℕ) → Divides a m → Divides b m → Divides (lcm a b) m
  lcm_divides m (j, e) d =
      let q : Divides (lcm_steps a b) j = steps_divide j (subst (Divides b) e d) in
      (q.0, e ∙ ap (λ x. a * x) q.1 ∙ sym (mul_assoc a (lcm_steps a b) q.0))

  lcm_pair : LeastCommon (a ∷ b ∷ []) (lcm a b)
  lcm_pair = record { common = ((lcm_steps a b, refl), (steps_pass, tt)); least = λ m d. lcm_divides m d.0 d.1.0 }

  -- no other is the least
  pub lcm_is : (m : ℕ) → LeastCommon (a ∷ b ∷ []) m → m ≡ lcm a b
  lcm_is m h = divides_same m (lcm a b) (h.least (lcm a b) lcm_pair.common) (lcm_pair.least m h.common)

  -- by the greatest common divisor
  lcm_by_gcd : (g : ℕ) → GreatestCommon a b g → b / g * a ≡ lcm a b
  lcm_by_gcd g h =
      let s : ℕ = lcm_steps a b in
      let ps : 0 < s = omega (arith, steps_some) in
      let whole : Divides s b = steps_divide b (a, mul_comm a b) in
      let d : ℕ = whole.0 in
      let is_b : b ≡ s * d = whole.1 in
      let t : ℕ = steps_pass.0 in
      let da : Divides d a = (t, eq_of_mul-eq-mul_left s ps a (d * t) (mul_comm s a ∙ steps_pass.1 ∙ ap (λ x. x * t) is_b ∙ mul_assoc s d t)) in
      let db : Divides d b = (s, is_b ∙ mul_comm s d) in
      let a' : ℕ = h.left.0 in
      let b' : ℕ = h.right.0 in
      let common : a * b' ≡ b * a' = ap (λ x. x * b') h.left.1 ∙ mul_assoc g a' b' ∙ ap (λ x. g * x) (mul_comm a' b') ∙ sym (mul_assoc g b' a') ∙ ap (λ x. x * a') (sym h.right.1) in
      let sb' : Divides s b' = steps_divide b' (a', common) in
      let gd : Divides g d = (sb'.0, eq_of_mul-eq-mul_left s ps d (g * sb'.0) (sym is_b ∙ h.right.1 ∙ ap (λ x. g * x) sb'.1 ∙ mul_left_comm g s sb'.0)) in
      let same : d ≡ g = divides_same d g (h.greatest d da db) gd in
      let pd : 1 ≤ d = divides_some d b pb db in
      let quot : b / g ≡ s = ap (λ x. b / x) (sym same) ∙ ap (λ x. x / d) is_b ∙ ap (λ x. x / d) (mul_comm s d) ∙ mul-div_cancel_left s pd in
      ap (λ x. x * a) quot ∙ mul_comm s a

-- ---- what the code finds

pub lcm_found : (a b g : ℕ) → 1 ≤ a → GreatestCommon a b g → LeastCommon (a ∷ b ∷ []) (b / g * a)
lcm_found a zero g pa h =
    let none : 0 / g * a ≡ 0 = ap (λ x. x * a) (zero-div g) ∙ zero-mul a in
    rw none (record { common = (divides_zero a, (divides_zero 0, tt)); least = λ k d. d.1.0 })
lcm_found a (suc b) g pa h = let some : 1 ≤ suc b = omega arith in rw (lcm_by_gcd a (suc b) pa some g h) (lcm_pair a (suc b) pa some)

-- the least common multiple of any number and one from 1 on
pub lcm_told : (a b m : ℕ) → 1 ≤ b → LeastCommon (a ∷ b ∷ []) m → m ≡ lcm a b
lcm_told zero b m pb h = divides_same m 0 (divides_zero m) h.common.0 ∙ sym (zero-mul (lcm_steps 0 b))
lcm_told (suc a) b m pb h = lcm_is (suc a) b (omega arith) pb m h

-- ---- lists

record MultipleFrom (c : ℕ) (ns : List ℕ) (m : ℕ) : Type 0 where
  some : 1 ≤ m
  from : Divides c m
  common : AllByRecursion (λ n. Divides n m) ns
  least : (k : ℕ) → Divides c k → AllByRecursion (λ n. Divides n k) ns → Divides m k

multiple_from : (ns : List ℕ) (c : ℕ) → 1 ≤ c → AllByRecursion (λ n. 1 ≤ n) ns → MultipleFrom c ns (fold lcm c ns)
multiple_from [] c pc all = record { some = pc; from = divides_self c; common = tt; least = λ k d _. d }
multiple_from (n ∷ ns) c pc all =
    let pair : LeastCommon (c ∷ n ∷ []) (lcm c n) = lcm_pair c n pc all.0 in
    let rest = multiple_from ns (lcm c n) (lcm_some c n pc all.0) all.1 in
    let m : ℕ = fold lcm (lcm c n) ns in
    record {
      some = rest.some;
      from = divides_on c (lcm c n) m pair.common.0 rest.from;
      common = (divides_on n (lcm c n) m pair.common.1.0 rest.from, rest.common);
      least = λ k d ds. rest.least k (lcm_divides c n pc all.0 k d ds.0) ds.1;
    }

one : 1 ≤ 1
one = omega arith

pub lcm_of_some : (ns : List ℕ) → AllByRecursion (λ n. 1 ≤ n) ns → 1 ≤ lcm_of ns
lcm_of_some ns all = (multiple_from ns 1 one all).some

pub least_multiples : LeastMultiples
least_multiples ns all =
    let m = multiple_from ns 1 one all in
    record { common = m.common; least = λ k ds. m.least k (k, omega arith) ds }
