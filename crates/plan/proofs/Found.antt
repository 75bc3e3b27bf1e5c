-- What an open plan answers, from the stream that it found. Assumes nothing.
use Rattle.std.proofs.Common.{◌≡◌, ℕ, ◌+◌, ◌<◌, ◌≤◌, ◌⊎◌, List, length, ℤ, Ok, Err, Result, sym, refl, ap, ◌∙◌, subst, inl, inr, arith}
use Rattle.std.proofs.lemmas.Bool.{cases_lt}
use Rattle.bus.specs.declared.refusal.Refusal.{Refusal}
use Rattle.bus.specs.declared.refusal.Refusal.TheVariants.{Question}
use Rattle.bus.specs.Asked.{Asked, PlaceAsked, CountAsked}
use Rattle.bus.proofs.Answered.{within, answer, below_or_not}
use Rattle.bus.proofs.Growing.{count_is}
use Rattle.clock.specs.Timing.{place_of, Counted, PlaceTold, CountTold}
use Rattle.plan.specs.declared.record.Record.{Record}
use Rattle.plan.specs.declared.streams.Stream.{Stream}
use Rattle.plan.specs.Cycle.{cycle_of}
use Rattle.plan.specs.Streams.{streams_of, stream_at, reach_of, traffic_of}
use Rattle.plan.specs.Kept.{Sound}
use Rattle.plan.specs.Carried.{Known, known, laws_of}

module _ (rs : List Record) (i : ℕ) where
  -- the number of a stream
  abbrev Numbered : Type 0
  Numbered = i < length (streams_of rs)

  -- and a phase of its node
  abbrev Phased : ℕ → Type 0
  Phased p = p < cycle_of (stream_at rs i).node rs

  numbered_phased : (p : ℕ) → (Numbered × Phased p) ⊎ (Numbered × Phased p → ⊥)
  numbered_phased p = elim (cases_lt i (length (streams_of rs))) [
    | inl numbered ↦ elim (cases_lt p (cycle_of (stream_at rs i).node rs)) [ inl phased ↦ inl (numbered, phased) | inr past ↦ inr (λ f. let l = f.1 in omega arith) ]
    | inr past ↦ inr (λ f. let l = f.0 in omega arith)
  ]

  module _ (s : Sound rs) (x : Stream) (told : Asked Numbered (stream_at rs i) (Ok x)) where
    found : Numbered × (x ≡ stream_at rs i)
    found = within (below_or_not i (length (streams_of rs))) told refl

    pub found_node : x.node < 16
    found_node = let is = ap (λ y. y.node) found.1 in omega (arith, (known rs s i found.0).node)

    -- the phase is held to the cycle of the stream's node
    module _ (p cycle : ℕ) (is : cycle ≡ cycle_of x.node rs) where
      cycle_is : cycle ≡ cycle_of (stream_at rs i).node rs
      cycle_is = is ∙ ap (λ y. cycle_of y.node rs) found.1

      pub phase_past : cycle ≤ p → Asked (Numbered × Phased p) (stream_at rs i) (Err Question)
      phase_past past = record { answered = λ f. absurd (let l = f.1 in omega (arith, cycle_is)); refused = λ _. refl }

  module _ (s : Sound rs) (x : Stream) (p : ℕ) (told : Asked (Numbered × Phased p) (stream_at rs i) (Ok x)) where
    held : (Numbered × Phased p) × (x ≡ stream_at rs i)
    held = within (numbered_phased p) told refl

    know : Known rs x
    know = subst (Known rs) (sym held.1) (known rs s i held.0.0)

    pub place_found : (q : ℕ) (r : Result ℤ Refusal) → PlaceTold x.timing x.jitter p q r → PlaceAsked (traffic_of rs) i p q r
    place_found q r placed = record {
      answered = λ f. placed.answered (know.paced, f.2, f.3) ∙ ap (λ y. Ok (place_of y.timing y.jitter p q)) held.1;
      refused = λ out. placed.refused (λ f. out (held.0.0, held.0.1, f.1, f.2));
    }

    pub count_found : (w : ℕ) (r : Result ℕ Refusal) → w + reach_of rs ≤ 20971520 → CountTold x.timing x.jitter p w r → CountAsked (traffic_of rs) i p w r
    count_found w (Ok n) fits counted =
        let few : w + x.jitter ≤ 20971520 = omega (arith, know.reached) in
        let c : Counted (stream_at rs i).timing (stream_at rs i).jitter p w n = subst (λ y. Counted y.timing y.jitter p w n) held.1 (counted.answered know.paced few) in
        answer (held.0.0, held.0.1, fits) (sym (count_is (traffic_of rs) (laws_of rs s) i p w n held.0.0 held.0.1 (λ some. c.placed n some (omega arith)) (c.later (n + 1) (omega arith))))
    count_found w (Err e) fits counted = absurd (counted.answered know.paced (omega (arith, know.reached)))
