-- What no delay, and delays that are set, make of a traffic. Assumes nothing.
use Rattle.std.proofs.Common.{◌≡◌, ℕ, zero, suc, ◌%◌, ◌<◌, ◌≤◌, ◌↔◌, List, [], length, replicate, All, Contains, IfSome, IsNone, Option, Some, None, unwrap_or, pos, ◌-ℤ◌, sym, refl, ap, ◌∙◌, add-zero, mod-eq_of_lt, arith}
use Rattle.std.proofs.lemmas.Int.{ints}
use Rattle.std.proofs.lemmas.List.{get_or_default}
use Rattle.bus.specs.Meaning.{Meaning}
use Rattle.bus.specs.Run.{reduced}
use Rattle.bus.proofs.Adding.{largest_at_most, largest_is}
use Rattle.delay.specs.Delayed.{delayed, listed, largest_of, Alike}

reduced_here : (c p : ℕ) → p < c → reduced c (pos p -ℤ pos 0) ≡ p
reduced_here c p inside = ap (λ x. x % c) (add-zero p) ∙ mod-eq_of_lt inside

undelayed : (m : Meaning) (delay : ℕ → ℕ) → ((n : ℕ) → delay n ≡ 0) → Alike m (delayed m delay)
undelayed m delay none = record {
  streams = refl;
  node = refl;
  identifier = refl;
  longest = refl;
  cycle = refl;
  place = λ i p q inside. let here = ap (λ x. m.place i x q) (reduced_here (m.cycle (m.node i)) p inside) in rw (none (m.node i)) (omega (arith, ints));
  turns = λ n p inside. rw (none n) (ap (m.turns n) (reduced_here (m.cycle n) p inside));
  reach = omega (arith, largest_at_most 16 0 delay (λ n _. let e = none n in omega arith));
}

listed_none : (k n : ℕ) → listed (replicate k 0) n ≡ 0
listed_none zero n = refl
listed_none (suc k) zero = refl
listed_none (suc k) (suc n) = listed_none k n

-- without delays a traffic is as below
pub undelayed_alike : (m : Meaning) → Alike m (delayed m (listed (replicate 16 0)))
undelayed_alike m = undelayed m (listed (replicate 16 0)) (listed_none 16)

-- the largest of the 16 is a bound on them that is one of them
pub largest_found : (delays : List ℕ) (o : Option ℕ) → length delays ≡ 16 → (IsNone o ↔ (delays ≡ [])) → IfSome o (Contains delays) → IfSome o (λ most. All (λ d. d ≤ most) delays) → unwrap_or o 0 ≡ largest_of delays
largest_found delays None long none held most = absurd (let short = ap length (none.0 refl) in omega arith)
largest_found delays (Some x) long none held most = largest_is 16 (listed delays) x held.0 (λ j h. most j 0 (omega arith)) (omega arith) (sym held.2 ∙ get_or_default delays held.0 x 0 held.1)
