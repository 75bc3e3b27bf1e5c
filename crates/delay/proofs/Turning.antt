-- The first turning phase of a delayed traffic, from those of the traffic below. Assumes nothing.
use Rattle.std.proofs.Common.{◌≡◌, ℕ, ◌+◌, ◌-◌, ◌%◌, ◌<◌, ◌≤◌, Bool, true, false, cond, nat_lt, pos, ◌-ℤ◌, Some, None, Ok, Err, Option, MatchOption, IsSomeAnd, inl, inr, refl, sym, ap, ◌∙◌, subst, ⊎_elim, mod-lt, arith}
use Rattle.std.specs.Bool.{then_some}
use Rattle.std.proofs.lemmas.Bool.{cases_lt, cond-true, cond-false}
use Rattle.bus.specs.declared.refusal.Refusal.{Refusal}
use Rattle.bus.specs.Asked.{CycleAsked, NextTurnAsked, FirstTurn}
use Rattle.bus.specs.Meaning.{Meaning}
use Rattle.bus.specs.Run.{reduced}
use Rattle.delay.specs.Delayed.{delayed, earlier}
use Rattle.delay.specs.Reducing.{reduced_down, reduced_up}
use Rattle.delay.proofs.Asking.{cycle_in}

-- what is left of the cycle, the delay later
abbrev pub later : ℕ → ℕ → Option ℕ → Option ℕ
later left delay (Some t) = cond (nat_lt t left) (Some (t + delay)) None
later left delay None = None

-- a turning phase that passes the test of being left, with the delay added
module _ (left delay : ℕ) (P : ℕ → Bool → Type 0) (tests : (t : ℕ) (b : Bool) → P t b → b ≡ nat_lt t left) (Q : ℕ → ℕ → Type 0) (adds : (t r : ℕ) → Q t r → r ≡ t + delay) where
  added : (t : ℕ) (r : Option ℕ) → IsSomeAnd r (Q t) → r ≡ Some (t + delay)
  added t (Some y) so = ap Some (adds t y so)
  added t None so = absurd so

  passed_on : (t : ℕ) (b : Bool) (kept r : Option ℕ) → kept ≡ then_some b t → MatchOption kept (r ≡ None) (λ x. IsSomeAnd r (Q x)) → r ≡ cond b (Some (t + delay)) None
  passed_on t true kept r is made = added t r (subst (λ (o : Option ℕ). MatchOption o (r ≡ None) (λ x. IsSomeAnd r (Q x))) is made)
  passed_on t false kept r is made = subst (λ (o : Option ℕ). MatchOption o (r ≡ None) (λ x. IsSomeAnd r (Q x))) is made

  pub later_told : (o kept r : Option ℕ) → MatchOption o (kept ≡ None) (λ x. (b : Bool) × P x b × (kept ≡ then_some b x)) → MatchOption kept (r ≡ None) (λ x. IsSomeAnd r (Q x)) → r ≡ later left delay o
  later_told (Some t) kept r is made = passed_on t is.0 kept r is.2 made ∙ ap (λ b. cond b (Some (t + delay)) None) (tests t is.0 is.1)
  later_told None kept r is made = subst (λ (o : Option ℕ). MatchOption o (r ≡ None) (λ x. IsSomeAnd r (Q x))) is made

module _ (m : Meaning) (delay : ℕ → ℕ) (n p : ℕ) where
  abbrev e : ℕ
  e = delay n

  -- node n has a cycle of c phases, and p is one of them
  pub record Turning (c : ℕ) : Type 0 where
    pub known : n < 16
    pub inside : p < c
    pub cycle_is : c ≡ m.cycle n
    pub over : e % c < c

  pub turning : (c : ℕ) → CycleAsked m n (Ok c) → p < c → Turning c
  turning c a inside =
      let k = cycle_in m n a in
      record { known = k.0; inside = inside; cycle_is = k.1; over = mod-lt e (omega arith) }

  module _ (c : ℕ) (s : Turning c) where
    -- what is asked below is answered
    pub late_asked : {x : Refusal} (q : ℕ) → q ≡ p - e % c → NextTurnAsked m n q (Err x) → ⊥
    late_asked q from a = a.answered s.known (omega (arith, s.inside, s.cycle_is))

    below_is : (k : ℕ) → earlier m delay n k ≡ reduced c (pos k -ℤ pos e)
    below_is k = ap (λ x. reduced x (pos k -ℤ pos e)) (sym s.cycle_is)

    turns_down : (k : ℕ) → k < c → e % c ≤ k → m.turns n (earlier m delay n k) ≡ m.turns n (k - e % c)
    turns_down k h l = ap (m.turns n) (below_is k ∙ reduced_down c k e h l)

    turns_up : (k : ℕ) → k < c → k < e % c → m.turns n (earlier m delay n k) ≡ m.turns n (k + c - e % c)
    turns_up k h l = ap (m.turns n) (below_is k ∙ reduced_up c k e h l)

    turn_answer : (o : Option ℕ) → FirstTurn (delayed m delay) n p o → NextTurnAsked (delayed m delay) n p (Ok o)
    turn_answer o first = record { answered = λ _ _. first; refused = λ none. absurd (none (s.known, omega (arith, s.inside, s.cycle_is))) }

    told : (q : ℕ) (o o' : Option ℕ) → q < c → o ≡ o' → NextTurnAsked m n q (Ok o) → FirstTurn m n q o'
    told q o o' inside is a = subst (FirstTurn m n q) is (a.answered s.known (omega (arith, s.cycle_is)))

    -- a turn before the delay's end
    pub early_turn : (o : Option ℕ) (t : ℕ) → p < e % c → o ≡ Some t → NextTurnAsked m n (p + c - e % c) (Ok o) → NextTurnAsked (delayed m delay) n p (Ok (Some (t + e % c - c)))
    early_turn o t early is a =
        let over = s.over in
        let same = s.cycle_is in
        let first = told (p + c - e % c) o (Some t) (omega arith) is a in
        let low = first.0 in
        let high = first.1 in
        let back : (t + e % c - c) + c - e % c ≡ t = omega arith in
        turn_answer (Some (t + e % c - c)) (
          omega arith,
          omega arith,
          turns_up (t + e % c - c) (omega arith) (omega arith) ∙ ap (m.turns n) back ∙ first.2,
          λ k l h. turns_up k (omega arith) (omega arith) ∙ first.3 (k + c - e % c) (omega arith) (omega arith),
        )

    -- no phase from p to the delay's end turns
    abbrev pub Quiet : Type 0
    Quiet = (k : ℕ) → p ≤ k → k < e % c → m.turns n (earlier m delay n k) ≡ false

    pub quiet_before : (o : Option ℕ) → p < e % c → o ≡ None → NextTurnAsked m n (p + c - e % c) (Ok o) → Quiet
    quiet_before o early is a k l h =
        let over = s.over in
        let same = s.cycle_is in
        turns_up k (omega arith) h ∙ told (p + c - e % c) o None (omega arith) is a (k + c - e % c) (omega arith) (omega arith)

    pub quiet_past : e % c ≤ p → Quiet
    quiet_past late k l h = absurd (omega arith)

    module _ (quiet : Quiet) (q : ℕ) (from : q ≡ p - e % c) (o : Option ℕ) (a : NextTurnAsked m n q (Ok o)) where
      -- nor does one before `end` where none below does, from q on
      quiet_until : (end : ℕ) → end ≤ c → ((k : ℕ) → q ≤ k → k + e % c < end → m.turns n k ≡ false) → (k : ℕ) → p ≤ k → k < end → m.turns n (earlier m delay n k) ≡ false
      quiet_until end inside none k l h =
          ⊎_elim (λ early. quiet k l early) (λ late. turns_down k (omega arith) late ∙ none (k - e % c) (omega arith) (omega arith)) (cases_lt k (e % c))

      pub late_turn : (t : ℕ) → o ≡ Some t → t < c - e % c → NextTurnAsked (delayed m delay) n p (Ok (Some (t + e % c)))
      late_turn t is fits =
          let over = s.over in
          let same = s.cycle_is in
          let first = told q o (Some t) (omega (arith, s.inside)) is a in
          let low = first.0 in
          turn_answer (Some (t + e % c)) (
            omega arith,
            omega arith,
            turns_down (t + e % c) (omega arith) (omega arith) ∙ ap (m.turns n) (omega arith) ∙ first.2,
            quiet_until (t + e % c) (omega arith) (λ k l h. first.3 k l (omega arith)),
          )

      pub late_past : (t : ℕ) → o ≡ Some t → c - e % c ≤ t → NextTurnAsked (delayed m delay) n p (Ok None)
      late_past t is past =
          let over = s.over in
          let same = s.cycle_is in
          let first = told q o (Some t) (omega (arith, s.inside)) is a in
          turn_answer None (λ k l h. quiet_until c (omega arith) (λ j l h. first.3 j l (omega arith)) k l (omega arith))

      pub late_none : o ≡ None → NextTurnAsked (delayed m delay) n p (Ok None)
      late_none is =
          let same = s.cycle_is in
          let first = told q o None (omega (arith, s.inside)) is a in
          turn_answer None (λ k l h. quiet_until c (omega arith) (λ j l h. first j l (omega arith)) k l (omega arith))

    module _ (quiet : Quiet) (q : ℕ) (from : q ≡ p - e % c) where
      pub late : (o : Option ℕ) → NextTurnAsked m n q (Ok o) → NextTurnAsked (delayed m delay) n p (Ok (later (c - e % c) (e % c) o))
      late None a = late_none quiet q from None a refl
      late (Some t) a = elim (cases_lt t (c - e % c)) [
        | inl fits ↦ subst (λ r. NextTurnAsked (delayed m delay) n p (Ok r)) (sym (cond-true (nat_lt t (c - e % c)) (Some (t + e % c)) None (grind arith))) (late_turn quiet q from (Some t) a t refl fits)
        | inr past ↦ subst (λ r. NextTurnAsked (delayed m delay) n p (Ok r)) (sym (cond-false (nat_lt t (c - e % c)) (Some (t + e % c)) None (grind arith))) (late_past quiet q from (Some t) a t refl past)
      ]
