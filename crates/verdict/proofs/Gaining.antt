-- The largest bound of a message's streams, stream by stream. Assumes nothing.
use Rattle.std.proofs.Common.{◌≡◌, ℕ, ◌+◌, ◌<◌, ◌≤◌, max, Bool, true, false, cond, Some, None, Option, Less, Equal, Greater, ◌==◌, nat_lt, refl, ◌∙◌, inl, inr, arith}
use Rattle.std.specs.Option.{option_cmp}
use Rattle.std.specs.Ordering.{is_lt, nat_cmp, ord_max}
use Rattle.std.proofs.lemmas.Bool.{cases_lt, cond-true, cond-false}
use Rattle.bus.specs.Meaning.{Meaning}
use Rattle.bus.specs.Bound.{IsBound}
use Rattle.verdict.specs.Judged.{Sends, Largest}

-- what is known after the first few streams
abbrev pub Gained : Meaning → ℕ → ℕ → Option ℕ → Type 0
Gained m identifier few (Some b) = Largest m identifier few b
Gained m identifier few None = (i : ℕ) → Sends m identifier few i → ⊥

-- r is the larger of a bound and those before it
abbrev pub NoLess : Option ℕ → ℕ → ℕ → Type 0
NoLess (Some before) bound r = r ≡ max before bound
NoLess None bound r = r ≡ bound

by_test : (less same : Bool) (before b : ℕ) → cond (is_lt (cond less Less (cond same Equal Greater))) (Some before) (Some b) ≡ cond less (Some before) (Some b)
by_test true same before b = refl
by_test false true before b = refl
by_test false false before b = refl

-- where none is below all, the larger is one
pub larger : (most : Option ℕ) (b : ℕ) → (r : ℕ) × (ord_max (option_cmp nat_cmp) most (Some b) ≡ Some r) × NoLess most b r
larger None b = (b, refl, refl)
larger (Some before) b =
    let test = by_test (nat_lt b before) (b == before) before b in
    elim (cases_lt b before) [
      | inl less ↦ (before, test ∙ cond-true (nat_lt b before) (Some before) (Some b) (grind arith), omega arith)
      | inr more ↦ (b, test ∙ cond-false (nat_lt b before) (Some before) (Some b) (grind arith), omega arith)
    ]

module _ (m : Meaning) (identifier k : ℕ) where
  -- one stream more, as one of the former or the last
  earlier : (i : ℕ) → Sends m identifier (k + 1) i → i < k → Sends m identifier k i
  earlier i sends less = record { known = less; is = sends.is }

  pub gained_past : (most : Option ℕ) → (m.identifier k ≡ identifier → ⊥) → Gained m identifier k most → Gained m identifier (k + 1) most
  gained_past (Some b) other so = record {
    each = λ i sends. elim (cases_lt i k) [
      | inl less ↦ so.each i (earlier i sends less)
      | inr above ↦ absurd (let last : i ≡ k = omega (arith, sends.known) in other (rw last at sends.is))
    ];
    stream = so.stream;
    sends = record { known = omega (arith, so.sends.known); is = so.sends.is };
    reached = so.reached;
  }
  gained_past None other so = λ i sends. elim (cases_lt i k) [
    | inl less ↦ so i (earlier i sends less)
    | inr above ↦ let last : i ≡ k = omega (arith, sends.known) in other (rw last at sends.is)
  ]

  here : (b : ℕ) → m.identifier k ≡ identifier → IsBound m k b → Sends m identifier (k + 1) k
  here b is bound = record { known = omega arith; is = is }

  -- the last one's bound among the others'
  at_last : (i b r : ℕ) → i ≡ k → IsBound m k b → b ≤ r → (c : ℕ) × IsBound m i c × (c ≤ r)
  at_last i b r last bound le = rw last (b, bound, le)

  pub gained_more : (most : Option ℕ) (b r : ℕ) → m.identifier k ≡ identifier → IsBound m k b → NoLess most b r → Gained m identifier k most → Largest m identifier (k + 1) r
  gained_more (Some before) b r is bound larger so =
      let each : (i : ℕ) → Sends m identifier (k + 1) i → (c : ℕ) × IsBound m i c × (c ≤ r) =
      λ i sends. elim (cases_lt i k) [
        | inl less ↦ let found = so.each i (earlier i sends less) in (found.0, found.1, omega (arith, found.2))
        | inr above ↦ at_last i b r (omega (arith, sends.known)) bound (omega arith)
      ] in
      elim (cases_lt before b) [
        | inl less ↦ record { each = each; stream = k; sends = here b is bound; reached = let same : r ≡ b = omega arith in rw same bound }
        | inr more ↦ record { each = each; stream = so.stream; sends = record { known = omega (arith, so.sends.known); is = so.sends.is }; reached = let same : r ≡ before = omega arith in rw same so.reached }
      ]
  gained_more None b r is bound larger so = record {
    each = λ i sends. elim (cases_lt i k) [
      | inl less ↦ absurd (so i (earlier i sends less))
      | inr above ↦ at_last i b r (omega (arith, sends.known)) bound (omega arith)
    ];
    stream = k;
    sends = here b is bound;
    reached = rw larger bound;
  }
