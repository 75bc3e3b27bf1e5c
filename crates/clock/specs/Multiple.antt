-- Common divisors and common multiples. Assumes nothing.
use Rattle.std.specs.Prelude.{◌≡◌, ℕ, zero, suc, ◌+◌, ◌-◌, ◌*◌, ◌%◌, ◌≤◌, Bool, cond, List, fold, nat_eq}
use Rattle.std.specs.List.{AllByRecursion}

abbrev pub Divides : ℕ → ℕ → Type 0
Divides d n = (k : ℕ) × (n ≡ d * k)

-- g divides both, and each that does divides g
pub record GreatestCommon (a b g : ℕ) : Type 0 where
  pub left : Divides g a
  pub right : Divides g b
  pub greatest : (e : ℕ) → Divides e a → Divides e b → Divides e g

-- m is a multiple of each number of the list, and divides each that is; that of no number is 1
pub record LeastCommon (ns : List ℕ) (m : ℕ) : Type 0 where
  pub common : AllByRecursion (λ n. Divides n m) ns
  pub least : (k : ℕ) → AllByRecursion (λ n. Divides n k) ns → Divides m k

-- the first of k, k + 1, .., k + n that passes the test, or k + n where none before it does
abbrev pub first_from : ℕ → ℕ → (ℕ → Bool) → ℕ
first_from zero k test = k
first_from (suc n) k test = cond (test k) k (first_from n (k + 1) test)

-- the least k from 1 on for which b divides a * k
unfoldable pub lcm_steps : ℕ → ℕ → ℕ
lcm_steps a b = first_from (b - 1) 1 (λ k. nat_eq ((a * k) % b) 0)

-- the least common multiple of two numbers from 1 on
abbrev pub lcm : ℕ → ℕ → ℕ
lcm a b = a * lcm_steps a b

-- and of a list of them
abbrev pub lcm_of : List ℕ → ℕ
lcm_of ns = fold lcm 1 ns

abbrev pub LeastMultiples : Type 0
LeastMultiples = (ns : List ℕ) → AllByRecursion (λ n. 1 ≤ n) ns → LeastCommon ns (lcm_of ns)
