-- The first turning phase of a node, stream by stream. Assumes nothing.
use Rattle.std.proofs.Common.{◌≡◌, ℕ, zero, suc, ◌+◌, ◌-◌, ◌*◌, ◌%◌, ◌<◌, ◌≤◌, pos, ◌-ℤ◌, neg_ℤ, min, Bool, true, false, cond, ◌||◌, ◌&&◌, eqb, ltb, List, [], ◌∷◌, length, get_or, Some, None, Option, MatchOption, IsSomeAnd, sym, refl, ap, ◌∙◌, subst, inl, inr, ◌⊎◌, arith}
use Rattle.std.specs.Bool.{then_some}
use Rattle.std.specs.Option.{option_map}
use Rattle.std.specs.List.{AllByRecursion, filter, filter_map, cons_option, fold, reduce}
use Rattle.std.proofs.ByRecursion.{All-get_or}
use Rattle.std.proofs.lemmas.Bool.{or_left, or_right, or_from, cases_lt, ltb-true, ltb-false, both_ways}
use Rattle.clock.specs.declared.timing.Timing.{Timing}
use Rattle.clock.specs.declared.timing.Timing.TheVariants.{Timed, Event}
use Rattle.clock.specs.Timing.{Paced, lead, same, turns_at, FirstTurning}
use Rattle.clock.proofs.Turnings.{first_turn}
use Rattle.plan.specs.declared.streams.Stream.{Stream}
use Rattle.plan.specs.Streams.{turning, some_turn, SoonestFound}

-- ---- of a timing there is one first turning phase from p on, or none

module _ (jitter p : ℕ) where
  one_turn : (t : Timing) (a b : Option ℕ) → FirstTurning t jitter p a → FirstTurning t jitter p b → a ≡ b
  one_turn t (Some a) (Some b) x y = elim (cases_lt a b) [
    | inl sooner ↦ absurd (both_ways (turns_at t jitter a) (y.2 a x.0 sooner) x.1)
    | inr level ↦ elim (cases_lt b a) [
      | inl later ↦ absurd (both_ways (turns_at t jitter b) (x.2 b y.0 later) y.1)
      | inr same ↦ let is : a ≡ b = omega arith in ap Some is
    ]
  ]
  one_turn t (Some a) None x y = absurd (both_ways (turns_at t jitter a) (y a x.0) x.1)
  one_turn t None (Some b) x y = absurd (both_ways (turns_at t jitter b) (x b y.0) y.1)
  one_turn t None None x y = refl

  -- where the period is 0, each phase is as p
  abbrev turn_of : Timing → Option ℕ
  turn_of (Timed zero offset) = cond (turns_at (Timed 0 offset) jitter p) (Some p) None
  turn_of (Timed (suc period) offset) = Some (p + lead (suc period) offset jitter p)
  turn_of (Event gap) = None

  unpaced : (offset : ℕ) (b : Bool) → turns_at (Timed 0 offset) jitter p ≡ b → FirstTurning (Timed 0 offset) jitter p (cond b (Some p) None)
  unpaced offset true is = (omega arith, is, λ k low high. absurd (omega arith))
  unpaced offset false is = λ k low. sym (ap (λ x. same (pos ((offset + jitter + x) % 0 + (1 - 1) * 0) -ℤ pos jitter) (neg_ℤ (pos jitter))) (level k)) ∙ is
    where
      level : (k : ℕ) → 0 - p % 0 ≡ 0 - k % 0
      level k = omega arith

  turn_is : (t : Timing) → FirstTurning t jitter p (turn_of t)
  turn_is (Timed zero offset) = unpaced offset (turns_at (Timed 0 offset) jitter p) refl
  turn_is (Timed (suc period) offset) = first_turn (suc period) offset jitter p _ (omega arith) refl
  turn_is (Event gap) = λ k low. refl

module _ (n p : ℕ) where
  abbrev pub own : Stream → Bool
  own s = eqb s.node n

  abbrev pub next_of : Stream → Option ℕ
  next_of s = turn_of s.jitter p s.timing

  pub next_is : (s : Stream) (r : Option ℕ) → FirstTurning s.timing s.jitter p r → r ≡ next_of s
  next_is s r told = one_turn s.jitter p s.timing r (next_of s) told (turn_is s.jitter p s.timing)

  -- ---- of a stream, if it is one of the node

  abbrev FirstOf : (ℕ → Bool) → Option ℕ → Type 0
  FirstOf turns (Some t) = (p ≤ t) × (turns t ≡ true) × ((k : ℕ) → p ≤ k → k < t → turns k ≡ false)
  FirstOf turns None = (k : ℕ) → p ≤ k → turns k ≡ false

  own_first : (s : Stream) (b : Bool) (o : Option ℕ) → FirstTurning s.timing s.jitter p o → FirstOf (λ k. b && turns_at s.timing s.jitter k) (cond b o None)
  own_first s true (Some t) told = told
  own_first s true None told = told
  own_first s false o told = λ k low. refl

  -- ---- and of the streams

  abbrev picks : List Stream → List ℕ
  picks ss = filter_map next_of (filter own ss)

  pick_on : (s : Stream) (ss : List Stream) (b : Bool) → filter_map next_of (cond b (s ∷ filter own ss) (filter own ss)) ≡ cons_option (cond b (next_of s) None) (picks ss)
  pick_on s ss true = refl
  pick_on s ss false = refl

  -- t is the least of b and of where the streams turn first
  record Least (b : ℕ) (turns : ℕ → Bool) (t : ℕ) : Type 0 where
    low : p ≤ b → p ≤ t
    high : t ≤ b
    here : (t ≡ b) ⊎ (turns t ≡ true)
    none : (k : ℕ) → p ≤ k → k < t → turns k ≡ false

  least_on : (b : ℕ) (one more : ℕ → Bool) (o : Option ℕ) (xs : List ℕ) → FirstOf one o → ((c : ℕ) → Least c more (fold min c xs)) → Least b (λ k. one k || more k) (fold min b (cons_option o xs))
  least_on b one more None xs told rest =
      let r = rest b in
      let t = fold min b xs in
      record {
        low = r.low;
        high = r.high;
        here = elim r.here [ inl same ↦ inl same | inr on ↦ inr (or_right (one t) (more t) on) ];
        none = λ k low high. or_from (one k) (more k) (told k low) (r.none k low high);
      }
  least_on b one more (Some x) xs told rest =
      let r = rest (min b x) in
      let t = fold min (min b x) xs in
      record {
        low = λ low. r.low (let l = told.0 in omega arith);
        high = let h = r.high in omega arith;
        here = elim r.here [
          | inl same ↦ elim (cases_lt x b) [
            | inl sooner ↦ let is : x ≡ t = omega arith in inr (or_left (one t) (more t) (subst (λ k. one k ≡ true) is told.1))
            | inr level ↦ inl (omega arith)
          ]
          | inr on ↦ inr (or_right (one t) (more t) on)
        ];
        none = λ k low high. or_from (one k) (more k) (told.2 k low (let h = r.high in omega arith)) (r.none k low high);
      }

  picked : (s : Stream) → FirstOf (λ k. turning n k s) (cond (own s) (next_of s) None)
  picked s = own_first s (own s) (next_of s) (turn_is s.jitter p s.timing)

  least : (ss : List Stream) (b : ℕ) → Least b (λ k. some_turn n k ss) (fold min b (picks ss))
  least [] b = record { low = λ low. low; high = omega arith; here = inl refl; none = λ k low high. refl }
  least (s ∷ ss) b =
      subst (λ xs. Least b (λ k. some_turn n k (s ∷ ss)) (fold min b xs)) (sym (pick_on s ss (own s)))
      (least_on b (λ k. turning n k s) (λ k. some_turn n k ss) (cond (own s) (next_of s) None) (picks ss) (picked s) (least ss))

  first_on : (one more : ℕ → Bool) (o : Option ℕ) (xs : List ℕ) → FirstOf one o → FirstOf more (reduce min xs) → ((c : ℕ) → Least c more (fold min c xs)) → FirstOf (λ k. one k || more k) (reduce min (cons_option o xs))
  first_on one more None [] told rest all = λ k low. or_from (one k) (more k) (told k low) (rest k low)
  first_on one more None (x ∷ xs) told rest all =
      let t = fold min x xs in
      (rest.0, or_right (one t) (more t) rest.1, λ k low high. or_from (one k) (more k) (told k low) (rest.2 k low high))
  first_on one more (Some x) xs told rest all =
      let r = all x in
      let t = fold min x xs in (
        r.low told.0,
        elim r.here [
          | inl same ↦ or_left (one t) (more t) (subst (λ k. one k ≡ true) (sym same) told.1)
          | inr on ↦ or_right (one t) (more t) on
        ],
        λ k low high. or_from (one k) (more k) (told.2 k low (let h = r.high in omega arith)) (r.none k low high),
      )

  first : (ss : List Stream) → FirstOf (λ k. some_turn n k ss) (reduce min (picks ss))
  first [] = λ k low. refl
  first (s ∷ ss) =
      subst (λ xs. FirstOf (λ k. some_turn n k (s ∷ ss)) (reduce min xs)) (sym (pick_on s ss (own s)))
      (first_on (λ k. turning n k s) (λ k. some_turn n k ss) (cond (own s) (next_of s) None) (picks ss) (picked s) (first ss) (least ss))

  -- ---- before the end

  module _ (end : ℕ) (ss : List Stream) where
    before : (b : Bool) (t : ℕ) (kept r : Option ℕ) → FirstOf (λ k. some_turn n k ss) (Some t) → ltb t end ≡ b → kept ≡ then_some b t → MatchOption kept (r ≡ None) (λ x. r ≡ Some x) → SoonestFound n p end ss r
    before true t kept r told is same made =
        let found : r ≡ Some t = subst (λ o. MatchOption o (r ≡ None) (λ x. r ≡ Some x)) same made in
        subst (SoonestFound n p end ss) (sym found) (told.0, ltb-true t end is, told.1, told.2)
    before false t kept r told is same made =
        let none : r ≡ None = subst (λ o. MatchOption o (r ≡ None) (λ x. r ≡ Some x)) same made in
        subst (SoonestFound n p end ss) (sym none) (λ k low high. told.2 k low (omega (arith, ltb-false t end is)))

    module _ (P : ℕ → Bool → Type 0) (test : (x : ℕ) (b : Bool) → P x b → b ≡ ltb x end) (Q : ℕ → ℕ → Type 0) (same : (x y : ℕ) → Q x y → y ≡ x) where
      made_of : (kept r : Option ℕ) → MatchOption kept (r ≡ None) (λ x. IsSomeAnd r (Q x)) → MatchOption kept (r ≡ None) (λ x. r ≡ Some x)
      made_of None r is = is
      made_of (Some x) None is = elim is [ ]
      made_of (Some x) (Some y) is = ap Some (same x y is)

      ended : (o kept r : Option ℕ) → FirstOf (λ k. some_turn n k ss) o → MatchOption o (kept ≡ None) (λ x. (b : Bool) × P x b × (kept ≡ then_some b x)) → MatchOption kept (r ≡ None) (λ x. IsSomeAnd r (Q x)) → SoonestFound n p end ss r
      ended (Some t) kept r told is made = before (ltb t end) t kept r told refl (is.2 ∙ ap (λ b. then_some b t) (test t is.0 is.1)) (made_of kept r made)
      ended None kept r told is made =
          let none : r ≡ None = subst (λ o. MatchOption o (r ≡ None) (λ x. r ≡ Some x)) is (made_of kept r made) in
          subst (SoonestFound n p end ss) (sym none) (λ k low high. told k low)

      pub soonest : (o kept r : Option ℕ) → option_map (λ x. x) o ≡ reduce min (picks ss) → MatchOption o (kept ≡ None) (λ x. (b : Bool) × P x b × (kept ≡ then_some b x)) → MatchOption kept (r ≡ None) (λ x. IsSomeAnd r (Q x)) → SoonestFound n p end ss r
      soonest o kept r least is made = ended o kept r (subst (FirstOf (λ k. some_turn n k ss)) (sym (sym (mapped o) ∙ least)) (first ss)) is made
        where
          mapped : (o : Option ℕ) → option_map (λ x. x) o ≡ o
          mapped None = refl
          mapped (Some x) = refl

  -- ---- a stream of the node is one of the streams

  own_all : (P : Stream → Type 0) (ss : List Stream) → AllByRecursion P ss → AllByRecursion P (filter own ss)
  own_all P [] all = tt
  own_all P (s ∷ ss) all = one (own s) (own_all P ss all.1)
    where
      one : (b : Bool) → AllByRecursion P (filter own ss) → AllByRecursion P (cond b (s ∷ filter own ss) (filter own ss))
      one true rest = (all.0, rest)
      one false rest = rest

  pub own_paced : (ss : List Stream) (k : ℕ) (s : Stream) → AllByRecursion (λ x. Paced x.timing) ss → k < length (filter own ss) → s ≡ get_or (filter own ss) k s → Paced s.timing
  own_paced ss k s all inside is = subst (λ (x : Stream). Paced x.timing) (sym is) (All-get_or (λ (x : Stream). Paced x.timing) (filter own ss) k s inside (own_all (λ x. Paced x.timing) ss all))
