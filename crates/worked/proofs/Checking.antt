-- Tests that a list of instances is a run, and keeps what a timed stream declares. Assumes nothing.
use Rattle.std.proofs.Common.{◌≡◌, ℕ, zero, suc, ◌+◌, ◌*◌, ◌/◌, ◌<◌, ◌≤◌, Bool, true, false, not, ◌&&◌, ◌||◌, eqb, ltb, leb, List, length, ℤ, pos, ◌+ℤ◌, ◌-ℤ◌, nat_abs, ◌≤ℤ◌, ◌<ℤ◌, sym, refl, ◌∙◌, subst, inl, inr, arith}
use lib.Signed.{lt_z, le_z}
use Rattle.std.proofs.lemmas.Int.{ints}
use Rattle.std.proofs.lemmas.Bool.{ltb-true}
use Rattle.std.proofs.lemmas.Bool.Decides.{nat_tests, Decides-below_and, Decides-below_or}
use Rattle.bus.specs.Meaning.{Meaning}
use Rattle.bus.specs.Run.{Instance, at, end, Waits, OnWire, GoesBefore, IsRun}
use Rattle.bus.proofs.Moments.{cases_ltZ}
use Rattle.sheet.specs.Sender.{every_below}
use Rattle.clock.specs.Timing.{same}
use Rattle.runs.specs.Declarations.{Of, Comes, ByTime, Queueing}

-- whether the test holds of one of 0, 1, .., n - 1
abbrev pub some_below : ℕ → (ℕ → Bool) → Bool
some_below zero test = false
some_below (suc n) test = test n || some_below n test

-- whether it holds of all pairs of them
abbrev pub pairs_below : ℕ → (ℕ → ℕ → Bool) → Bool
pairs_below n test = every_below n (λ j. every_below n (test j))

every_true : (n : ℕ) (test : ℕ → Bool) → every_below n test ≡ true → (k : ℕ) → k < n → test k ≡ true
every_true n test = (Decides-below_and test (λ k. test k ≡ true) (λ x. every_below x test) (λ k. (λ e. e, λ e. e)) refl (λ _. refl) n).0

some_true : (n : ℕ) (test : ℕ → Bool) → some_below n test ≡ true → (k : ℕ) × (k < n) × (test k ≡ true)
some_true n test = (Decides-below_or test (λ k. test k ≡ true) (λ x. some_below x test) (λ k. (λ e. e, λ e. e)) refl (λ _. refl) n).0

pairs_true : (n : ℕ) (test : ℕ → ℕ → Bool) → pairs_below n test ≡ true → (j k : ℕ) → j < n → k < n → test j k ≡ true
pairs_true n test e j k l l' = every_true n (test j) (every_true n (λ x. every_below n (test x)) e j l) k l'

-- ---- what each test tells

rising_true : (a b c d : ℤ) → (le_z a b && le_z c d) ≡ true → (a ≤ℤ b) × (c ≤ℤ d)
rising_true a b c d e = (grind (arith, ints), grind (arith, ints))

within_true : (x y z : ℕ) → (leb x y && leb y z) ≡ true → (x ≤ y) × (y ≤ z)
within_true x y z e = (grind (arith, nat_tests), grind (arith, nat_tests))

spaced_true : (j k : ℕ) (a b c : ℤ) → (eqb j k || (lt_z b a || le_z c b)) ≡ true → (j ≡ k → ⊥) → a ≤ℤ b → c ≤ℤ b
spaced_true j k a b c e other le = grind (arith, ints, nat_tests)

yields_true : (x y : ℕ) (a b c : ℤ) → (leb x y || (lt_z a b || lt_z c a)) ≡ true → b ≤ℤ a → a ≤ℤ c → x ≤ y
yields_true x y a b c e waits till = grind (arith, ints, nat_tests)

ordered_true : (x y j k : ℕ) (a b p q : ℤ) → (not (eqb x y) || (eqb j k || (lt_z a b || lt_z q p))) ≡ true → x ≡ y → (j ≡ k → ⊥) → p ≤ℤ q → a <ℤ b
ordered_true x y j k a b p q e of other before = grind (arith, ints, nat_tests)

comes_true : (x i : ℕ) (a b q d : ℤ) → (not (eqb x i) || (same a b && le_z q d)) ≡ true → x ≡ i → (a ≡ b) × (q ≤ℤ d)
comes_true x i a b q d e of = (grind (arith, ints, nat_tests), grind (arith, ints, nat_tests))

differs_true : (x y i j k : ℕ) (a b p q : ℤ) → ((not (eqb x i) || not (eqb y i)) || ((eqb j k || (lt_z a b || lt_z b a)) && (le_z b a || le_z p q))) ≡ true → x ≡ i → y ≡ i → (a ≡ b → j ≡ k) × (a <ℤ b → p ≤ℤ q)
differs_true x y i j k a b p q e of of' = (λ level. grind (arith, ints, nat_tests), λ less. grind (arith, ints, nat_tests))

-- ---- a run

-- one that goes before another is another, and was queued no later
goes_other : (run : List Instance) (j k : ℕ) → GoesBefore run j k → j ≡ k → ⊥
goes_other run j k before e = not_itself (subst (λ (x : ℕ). GoesBefore run x k) e before)
  where
    not_itself : GoesBefore run k k → ⊥
    not_itself (inl earlier) = omega (arith, ints)
    not_itself (inr (level, inl earlier)) = omega (arith, ints)
    not_itself (inr (level, inr listed)) = let less = listed.1 in omega arith

goes_queued : (run : List Instance) (j k : ℕ) → GoesBefore run j k → (at run j).queued ≤ℤ (at run k).queued
goes_queued run j k (inl earlier) = omega (arith, ints)
goes_queued run j k (inr (level, later)) = omega (arith, ints)

module _ (m : Meaning) (run : List Instance) where
  abbrev n : ℕ
  n = length run

  -- j is k, or is on the wire until k starts, from no later than k is queued
  abbrev follows : ℕ → ℕ → Bool
  follows k j = le_z (at run j).start (at run k).queued && le_z (at run k).start (end run j)

  abbrev spaced : ℕ → ℕ → Bool
  spaced j k = eqb j k || (lt_z (at run k).start (at run j).start || le_z (end run j) (at run k).start)

  abbrev yields : ℕ → ℕ → Bool
  yields j k = leb (m.identifier (at run j).stream) (m.identifier (at run k).stream) || (lt_z (at run j).start (at run k).queued || lt_z (at run k).start (at run j).start)

  abbrev ordered : ℕ → ℕ → Bool
  ordered j k = not (eqb (at run j).stream (at run k).stream) || (eqb j k || (lt_z (at run j).start (at run k).start || lt_z (at run k).queued (at run j).queued))

  pub record Passes : Type 0 where
    pub known : every_below n (λ k. ltb (at run k).stream m.streams) ≡ true
    pub rising : every_below n (λ k. le_z (at run k).arrival (at run k).queued && le_z (at run k).queued (at run k).start) ≡ true
    pub bits : every_below n (λ k. leb 1 (at run k).bits && leb (at run k).bits (m.longest (at run k).stream)) ≡ true
    pub following : every_below n (λ k. some_below n (follows k)) ≡ true
    pub spacing : pairs_below n spaced ≡ true
    pub yielding : pairs_below n yields ≡ true
    pub ordering : pairs_below n ordered ≡ true

  module _ (passes : Passes) where
    rises : (k : ℕ) → k < n → ((at run k).arrival ≤ℤ (at run k).queued) × ((at run k).queued ≤ℤ (at run k).start)
    rises k l = rising_true (at run k).arrival (at run k).queued (at run k).queued (at run k).start (every_true n _ passes.rising k l)

    long : (k : ℕ) → k < n → (1 ≤ (at run k).bits) × ((at run k).bits ≤ m.longest (at run k).stream)
    long k l = within_true 1 (at run k).bits (m.longest (at run k).stream) (every_true n _ passes.bits k l)

    -- where k waits, the one before it is on the wire, or one starts
    taken : (t : ℤ) (k : ℕ) → k < n → Waits run k t → ((j : ℕ) → j < n → OnWire run j t → ⊥) → (j : ℕ) × (j < n) × ((at run j).start ≡ t)
    taken t k l (queued, till) free =
        let found = some_true n (follows k) (every_true n _ passes.following k l) in
        let j = found.0 in
        let both = rising_true (at run j).start (at run k).queued (at run k).start (end run j) found.2 in
        let from = both.0 in
        let until = both.1 in
        elim (cases_ltZ t (at run k).start) [
          | inr at_last ↦ (k, l, omega (arith, ints))
          | inl sooner ↦ elim (cases_ltZ (at run j).start t) [ inl on ↦ absurd (free j found.1 (on, omega (arith, ints))) | inr at_first ↦ (j, found.1, omega (arith, ints)) ]
        ]

    pub is_run : IsRun run m
    is_run = record {
      known = λ k l. ltb-true _ _ (every_true n _ passes.known k l);
      after_arrival = λ k l. (rises k l).0;
      after_queueing = λ k l. (rises k l).1;
      some_bits = λ k l. (long k l).0;
      few_bits = λ k l. (long k l).1;
      alone = λ j k l l'. spaced_true j k (at run j).start (at run k).start (end run j) (pairs_true n spaced passes.spacing j k l l');
      eager = taken;
      urgent = λ j k l l' waits. yields_true (m.identifier (at run j).stream) (m.identifier (at run k).stream) (at run j).start (at run k).queued (at run k).start (pairs_true n yields passes.yielding j k l l') waits.0 waits.1;
      in_order = λ j k l l' of before. ordered_true (at run j).stream (at run k).stream j k (at run j).start (at run k).start (at run j).queued (at run k).queued (pairs_true n ordered passes.ordering j k l l') of (goes_other run j k before) (goes_queued run j k before);
    }

-- ---- a timed stream

module _ (run : List Instance) (i : ℕ) (base : ℤ) (period offset jitter : ℕ) where
  -- how many periods after its first moment instance k arrives
  abbrev periods_on : ℕ → ℕ
  periods_on k = nat_abs ((at run k).arrival -ℤ (base +ℤ pos offset)) / period

  abbrev comes : ℕ → Bool
  comes k = not (eqb (at run k).stream i) || (same (at run k).arrival (base +ℤ pos (offset + periods_on k * period)) && le_z (at run k).queued ((at run k).arrival +ℤ pos jitter))

  abbrev differs : ℕ → ℕ → Bool
  differs j k = (not (eqb (at run j).stream i) || not (eqb (at run k).stream i)) || ((eqb j k || (lt_z (at run j).arrival (at run k).arrival || lt_z (at run k).arrival (at run j).arrival)) && (le_z (at run k).arrival (at run j).arrival || le_z (at run j).queued (at run k).queued))

  pub record Timely : Type 0 where
    pub coming : every_below (length run) comes ≡ true
    pub differing : pairs_below (length run) differs ≡ true

  module _ (timely : Timely) where
    came : (k : ℕ) → Of run i k → Comes run i base period offset k (periods_on k) × ((at run k).queued ≤ℤ ((at run k).arrival +ℤ pos jitter))
    came k of = comes_true (at run k).stream i (at run k).arrival (base +ℤ pos (offset + periods_on k * period)) (at run k).queued ((at run k).arrival +ℤ pos jitter) (every_true (length run) comes timely.coming k of.0) of.1

    differ : (j k : ℕ) → Of run i j → Of run i k → ((at run j).arrival ≡ (at run k).arrival → j ≡ k) × ((at run j).arrival <ℤ (at run k).arrival → (at run j).queued ≤ℤ (at run k).queued)
    differ j k of of' = differs_true (at run j).stream (at run k).stream i j k (at run j).arrival (at run k).arrival (at run j).queued (at run k).queued (pairs_true (length run) differs timely.differing j k of.0 of'.0) of.1 of'.1

    pub by_time : ByTime run i base period offset
    by_time = record { comes = λ k of. (periods_on k, (came k of).0); once = λ j k n of of' e e'. (differ j k of of').0 (e ∙ sym e') }

    pub queueing : Queueing run i jitter
    queueing = record { soon = λ k of. (came k of).1; in_order = λ j k of of'. (differ j k of of').1 }
