-- Which rule refuses a call. Assumes nothing.
use Rattle.std.proofs.Common.{◌≡◌, ℕ, ◌<◌, ◌≤◌, true, false, not, leb, List, [], ◌∷◌, ◌++◌, length, is_ok, Some, None, Ok, Err, Option, Result, sym, ap, ◌∙◌, arith}
use Rattle.std.specs.Option.{ok_or}
use Rattle.std.proofs.lemmas.Bool.{cond-true, cond-false, not_from_true, not_from_false, le-leb, lt-leb, leb-false}
use Rattle.bus.specs.declared.refusal.Refusal.{Refusal}
use Rattle.bus.specs.declared.refusal.Refusal.TheVariants.{Held, NotHeld, Full, Cycle}
use Rattle.bus.specs.Refused.{Rules, answer, Done}
use Rattle.bus.proofs.Refusing.{rule_passed, answer_past, answer_stays, answer_parts}
use Rattle.plan.specs.declared.record.Record.{Record}
use Rattle.plan.specs.Record.{limits, within}
use Rattle.plan.specs.Cycle.{cycle_of, CycleTold}
use Rattle.plan.specs.Open.{holds, too_long, altered, enter_rules, alter_rules, strike_rules}
use Rattle.plan.specs.Limited.{fits}
use Rattle.plan.specs.Kept.{long_at, short_entered}

module _ (rs : List Record) (r : Record) where
  -- the rules past the record's own limits
  abbrev later : Rules
  later = (holds r.identifier rs, Held) ∷ (leb 64 (length rs), Full) ∷ (too_long (rs ++ r ∷ []), Cycle) ∷ []

  module _ (v : ℕ) where
    pub refused_limits : (e : Refusal) → answer (limits r) (tt {0}) ≡ Err e → answer (enter_rules r rs) v ≡ Err e
    unfolding enter_rules
    refused_limits e h = answer_stays (limits r) later v e h

    module _ (good : within r ≡ true) where
      pub refused_held : holds r.identifier rs ≡ true → answer (enter_rules r rs) v ≡ Err Held
      unfolding enter_rules
      refused_held h = answer_past (limits r) later v good ∙ cond-true (holds r.identifier rs) _ _ h

      module _ (free : holds r.identifier rs ≡ false) where
        pub refused_full : 64 ≤ length rs → answer (enter_rules r rs) v ≡ Err Full
        unfolding enter_rules
        refused_full h = answer_past (limits r) later v good ∙ cond-false (holds r.identifier rs) _ _ free ∙ cond-true (leb 64 (length rs)) _ _ (le-leb 64 (length rs) h)

        module _ (room : length rs < 64) where
          to_cycle : answer (enter_rules r rs) v ≡ answer ((too_long (rs ++ r ∷ []), Cycle) ∷ []) v
          unfolding enter_rules
          to_cycle = answer_past (limits r) later v good ∙ cond-false (holds r.identifier rs) _ _ free ∙ cond-false (leb 64 (length rs)) _ _ (lt-leb 64 (length rs) room)

          pub refused_cycle : 4194304 < cycle_of r.node (rs ++ r ∷ []) → answer (enter_rules r rs) v ≡ Err Cycle
          refused_cycle long = to_cycle ∙ cond-true (too_long (rs ++ r ∷ [])) _ _ (long_at (rs ++ r ∷ []) r.node (let n = (fits r good).node in omega arith) long)

          pub accepted : too_long (rs ++ r ∷ []) ≡ false → answer (enter_rules r rs) v ≡ Ok v
          accepted short = to_cycle ∙ cond-false (too_long (rs ++ r ∷ [])) _ _ short

  -- the cycle decides on a message that no earlier rule refuses
  pub judged : within r ≡ true → holds r.identifier rs ≡ false → length rs < 64 → too_long rs ≡ false → (told : Option ℕ) → CycleTold (cycle_of r.node (rs ++ r ∷ [])) told → ok_or told Cycle ≡ answer (enter_rules r rs) (cycle_of r.node (rs ++ r ∷ []))
  judged good free room short (Some cycle) is = ap Ok is.0 ∙ sym (accepted (cycle_of r.node (rs ++ r ∷ [])) good free room (short_entered rs r short (omega (arith, is))))
  judged good free room short None long = sym (refused_cycle (cycle_of r.node (rs ++ r ∷ [])) good free room long)

  -- what is known of a message that no rule refuses
  pub record Accepted : Type 0 where
    pub good : within r ≡ true
    pub free : holds r.identifier rs ≡ false
    pub room : length rs < 64
    pub short : too_long (rs ++ r ∷ []) ≡ false

  pub accepted_by : (v : ℕ) → is_ok (answer (enter_rules r rs) v) ≡ true → Accepted
  unfolding enter_rules
  accepted_by v h =
      let parts = answer_parts (limits r) later v h in
      let p = rule_passed _ _ _ parts.1 in
      let q = rule_passed _ _ _ p.1 in
      let s = rule_passed _ _ _ q.1 in
      record { good = parts.0; free = p.0; room = leb-false 64 (length rs) q.0; short = s.0 }

-- ---- a message in the place of another, or none

-- the rules past the record's own limits
abbrev pub of_altered : List Record → Record → Rules
of_altered rs r = (not (holds r.identifier rs), NotHeld) ∷ (too_long (altered r rs), Cycle) ∷ []

module _ (rs : List Record) (r : Record) (v : ℕ) where
  pub alter_refused_limits : (e : Refusal) → answer (limits r) (tt {0}) ≡ Err e → answer (alter_rules r rs) v ≡ Err e
  unfolding alter_rules
  alter_refused_limits e h = answer_stays (limits r) (of_altered rs r) v e h

  module _ (good : within r ≡ true) where
    pub alter_refused_held : holds r.identifier rs ≡ false → answer (alter_rules r rs) v ≡ Err NotHeld
    unfolding alter_rules
    alter_refused_held none = answer_past (limits r) (of_altered rs r) v good ∙ cond-true (not (holds r.identifier rs)) _ _ (not_from_false _ none)

    module _ (found : holds r.identifier rs ≡ true) where
      to_altered : answer (alter_rules r rs) v ≡ answer ((too_long (altered r rs), Cycle) ∷ []) v
      unfolding alter_rules
      to_altered = answer_past (limits r) (of_altered rs r) v good ∙ cond-false (not (holds r.identifier rs)) _ _ (not_from_true _ found)

      pub alter_refused_cycle : too_long (altered r rs) ≡ true → answer (alter_rules r rs) v ≡ Err Cycle
      alter_refused_cycle long = to_altered ∙ cond-true (too_long (altered r rs)) _ _ long

      pub alter_accepted : too_long (altered r rs) ≡ false → answer (alter_rules r rs) v ≡ Ok v
      alter_accepted short = to_altered ∙ cond-false (too_long (altered r rs)) _ _ short

module _ (rs : List Record) (identifier v : ℕ) where
  pub strike_refused : holds identifier rs ≡ false → answer (strike_rules identifier rs) v ≡ Err NotHeld
  unfolding strike_rules
  strike_refused none = cond-true (not (holds identifier rs)) _ _ (not_from_false _ none)

  pub strike_accepted : holds identifier rs ≡ true → answer (strike_rules identifier rs) v ≡ Ok v
  unfolding strike_rules
  strike_accepted found = cond-false (not (holds identifier rs)) _ _ (not_from_true _ found)

-- ---- what a call has done

module _ (rules : Rules) (old new : List Record) where
  pub done_refused : (r : Result ℕ Refusal) (e : Refusal) (left : List Record) → answer rules (length new) ≡ Err e → r ≡ Err e → left ≡ old → Done rules old new r left
  done_refused r e left why is same = record { answers = is ∙ sym why; leaves = rw is same }

  pub done_made : (n : ℕ) (left : List Record) → answer rules (length new) ≡ Ok (length new) → n ≡ length left → left ≡ new → Done rules old new (Ok n) left
  done_made n left passed told made = record { answers = ap Ok (told ∙ ap length made) ∙ sym passed; leaves = made }
