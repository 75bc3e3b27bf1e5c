-- Sums and largest values over the numbers below a limit. Assumes nothing.
use Rattle.std.proofs.Common.{◌≡◌, ℕ, zero, suc, ◌+◌, ◌-◌, ◌*◌, ◌<◌, ◌≤◌, max, Bool, true, false, refl, ap, ◌∙◌, subst, inl, inr, add-zero, add-suc, suc-mul, add-one, arith}
use Rattle.std.proofs.lemmas.Bool.{cases_lt, cases_eq}
use Rattle.bus.specs.Sums.{sum_below, largest_below, only}

pub sum_more : (n : ℕ) (f : ℕ → ℕ) → sum_below (n + 1) f ≡ sum_below n f + f n
sum_more n f = rw add-one

pub sum_same : (n : ℕ) (f g : ℕ → ℕ) → ((k : ℕ) → k < n → f k ≡ g k) → sum_below n f ≡ sum_below n g
sum_same zero f g same = refl
sum_same (suc n) f g same = omega (arith, sum_same n f g (λ k h. same k (omega arith)), same n (omega arith))

pub sum_grows : (n : ℕ) (f g : ℕ → ℕ) → ((k : ℕ) → k < n → f k ≤ g k) → sum_below n f ≤ sum_below n g
sum_grows zero f g h = omega arith
sum_grows (suc n) f g h = omega (arith, sum_grows n f g (λ k l. h k (omega arith)), h n (omega arith))

pub sum_at_most : (n b : ℕ) (f : ℕ → ℕ) → ((k : ℕ) → k < n → f k ≤ b) → sum_below n f ≤ n * b
sum_at_most zero b f h = omega arith
sum_at_most (suc n) b f h = omega (arith, sum_at_most n b f (λ k l. h k (omega arith)), h n (omega arith), suc-mul n b)

-- more terms make no less
pub sum_longer : (n m : ℕ) (f : ℕ → ℕ) → n ≤ m → sum_below n f ≤ sum_below m f
sum_longer n zero f h = let e : n ≡ 0 = omega arith in rw e (omega arith)
sum_longer n (suc m) f h =
    elim (cases_lt n (suc m)) [ inl below ↦ omega (arith, sum_longer n m f (omega arith)) | inr above ↦ let e : n ≡ suc m = omega arith in rw e (omega arith) ]

-- what is 0 from n on adds nothing
pub sum_rest : (n d : ℕ) (f : ℕ → ℕ) → ((k : ℕ) → n ≤ k → f k ≡ 0) → sum_below (n + d) f ≡ sum_below n f
sum_rest n zero f none = ap (λ x. sum_below x f) (add-zero n)
sum_rest n (suc d) f none = ap (λ x. sum_below x f) (add-suc n d) ∙ omega (arith, sum_rest n d f none, none (n + d) (omega arith))

pub sum_ones : (n : ℕ) (f : ℕ → ℕ) → ((k : ℕ) → k < n → f k ≡ 1) → sum_below n f ≡ n
sum_ones zero f ones = refl
sum_ones (suc n) f ones = omega (arith, sum_ones n f (λ k h. ones k (omega arith)), ones n (omega arith))

-- 1 below n and 0 from there on
pub sum_front : (n l : ℕ) (f : ℕ → ℕ) → n ≤ l → ((k : ℕ) → k < n → f k ≡ 1) → ((k : ℕ) → n ≤ k → f k ≡ 0) → sum_below l f ≡ n
sum_front n l f le ones none = ap (λ x. sum_below x f) (let e : l ≡ n + (l - n) = omega arith in e) ∙ sum_rest n (l - n) f none ∙ sum_ones n f ones

pub sum_has : (n : ℕ) (f : ℕ → ℕ) (a : ℕ) → a < n → f a ≤ sum_below n f
sum_has n f a h = omega (arith, sum_more a f, sum_longer (a + 1) n f (omega arith))

-- larger by d where one part is, and none is smaller
pub sum_gains : (n : ℕ) (f g : ℕ → ℕ) (a d : ℕ) → ((k : ℕ) → k < n → f k ≤ g k) → a < n → f a + d ≤ g a → sum_below n f + d ≤ sum_below n g
sum_gains zero f g a d more h gain = omega arith
sum_gains (suc n) f g a d more h gain = elim (cases_eq a n) [
  | inl same ↦ let here : f n + d ≤ g n = subst (λ (k : ℕ). f k + d ≤ g k) same gain in omega (arith, sum_grows n f g (λ k l. more k (omega arith)))
  | inr other ↦ omega (arith, sum_gains n f g a d (λ k l. more k (omega arith)) (omega arith) gain, more n (omega arith))
]

-- larger by d at most where one part is, and none else is larger
pub sum_but_one : (n : ℕ) (f g : ℕ → ℕ) (a d : ℕ) → ((k : ℕ) → k < n → (k ≡ a → ⊥) → f k ≤ g k) → f a ≤ g a + d → sum_below n f ≤ sum_below n g + d
sum_but_one zero f g a d less one = omega arith
sum_but_one (suc n) f g a d less one = elim (cases_eq a n) [
  | inl same ↦ let here : f n ≤ g n + d = subst (λ (k : ℕ). f k ≤ g k + d) same one in omega (arith, sum_grows n f g (λ k l. less k (omega arith) (omega arith)))
  | inr other ↦ omega (arith, sum_but_one n f g a d (λ k l. less k (omega arith)) one, less n (omega arith) (λ t. other (omega arith)))
]

sum_plus : (n : ℕ) (f g : ℕ → ℕ) → sum_below n (λ k. f k + g k) ≡ sum_below n f + sum_below n g
sum_plus zero f g = refl
sum_plus (suc n) f g = omega (arith, sum_plus n f g)

sum_none : (n : ℕ) → sum_below n (λ k. 0) ≡ 0
sum_none n = omega (arith, sum_at_most n 0 (λ k. 0) (λ k l. omega arith))

-- a double sum in either order
sum_swap : (n m : ℕ) (f : ℕ → ℕ → ℕ) → sum_below n (λ a. sum_below m (λ b. f a b)) ≡ sum_below m (λ b. sum_below n (λ a. f a b))
sum_swap zero m f = omega (arith, sum_none m)
sum_swap (suc n) m f = omega (arith, sum_swap n m f, sum_plus m (λ b. sum_below n (λ a. f a b)) (f n))

-- each part but one is met by a part of g and by one that is spread over N others; that one is at most d
pub sum_spread : (n N : ℕ) (f g : ℕ → ℕ) (h : ℕ → ℕ → ℕ) (top : ℕ → ℕ) (a d : ℕ) → ((k : ℕ) → k < n → (k ≡ a → ⊥) → f k ≤ g k + sum_below N (h k)) → f a ≤ d → ((b : ℕ) → b < N → sum_below n (λ k. h k b) ≤ top b) → sum_below n f ≤ sum_below N top + sum_below n g + d
sum_spread n N f g h top a d each one over =
    let whole = sum_but_one n f (λ k. g k + sum_below N (h k)) a d each (omega arith) in
    let parts = sum_plus n g (λ k. sum_below N (h k)) in
    let turned = sum_swap n N h in
    let under = sum_grows N (λ b. sum_below n (λ k. h k b)) top over in
    omega arith

pub sum_only : (n : ℕ) (b : Bool) (f : ℕ → ℕ) → sum_below n (λ k. only b (f k)) ≡ only b (sum_below n f)
sum_only n true f = refl
sum_only n false f = sum_none n

pub largest_more : (n : ℕ) (f : ℕ → ℕ) → largest_below (n + 1) f ≡ max (largest_below n f) (f n)
largest_more n f = rw add-one

pub largest_same : (n : ℕ) (f g : ℕ → ℕ) → ((k : ℕ) → k < n → f k ≡ g k) → largest_below n f ≡ largest_below n g
largest_same zero f g same = refl
largest_same (suc n) f g same = omega (arith, largest_same n f g (λ k h. same k (omega arith)), same n (omega arith))

pub largest_grows : (n : ℕ) (f g : ℕ → ℕ) → ((k : ℕ) → k < n → f k ≤ g k) → largest_below n f ≤ largest_below n g
largest_grows zero f g h = omega arith
largest_grows (suc n) f g h = omega (arith, largest_grows n f g (λ k l. h k (omega arith)), h n (omega arith))

pub largest_at_most : (n b : ℕ) (f : ℕ → ℕ) → ((k : ℕ) → k < n → f k ≤ b) → largest_below n f ≤ b
largest_at_most zero b f h = omega arith
largest_at_most (suc n) b f h = omega (arith, largest_at_most n b f (λ k l. h k (omega arith)), h n (omega arith))

pub largest_has : (n : ℕ) (f : ℕ → ℕ) (k : ℕ) → k < n → f k ≤ largest_below n f
largest_has zero f k h = omega arith
largest_has (suc n) f k h =
    elim (cases_lt k n) [ inl below ↦ omega (arith, largest_has n f k below) | inr above ↦ let e : k ≡ n = omega arith in rw e (omega arith) ]

-- the largest is a bound that is one of the values
pub largest_is : (n : ℕ) (f : ℕ → ℕ) (v k : ℕ) → ((j : ℕ) → j < n → f j ≤ v) → k < n → v ≡ f k → v ≡ largest_below n f
largest_is n f v k below h is = omega (arith, largest_at_most n v f below, largest_has n f k h)

-- a value that is larger wherever the test holds
pub only_grows : (b : Bool) (x y : ℕ) → (b ≡ true → x ≤ y) → only b x ≤ only b y
only_grows true x y h = h refl
only_grows false x y h = omega arith

pub only_at_most : (b : Bool) (x : ℕ) → only b x ≤ x
only_at_most true x = omega arith
only_at_most false x = omega arith

pub only_yes : (b : Bool) (x : ℕ) → b ≡ true → only b x ≡ x
only_yes b x e = ap (λ t. only t x) e

-- at most y where what the test lets through is
pub only_within : (b : Bool) (x y : ℕ) → (b ≡ true → x ≤ y) → only b x ≤ y
only_within true x y h = h refl
only_within false x y h = omega arith

-- a test that implies another
pub only_implied : (a b : Bool) (x : ℕ) → (a ≡ true → b ≡ true) → only a x ≤ only b x
only_implied a b x h = only_within a x (only b x) (λ e. omega (arith, only_yes b x (h e)))
