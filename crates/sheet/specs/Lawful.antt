-- The senders of a sheet keep the limits and the laws of a traffic. Assumes nothing.
use Rattle.std.proofs.Common.{ℕ, ◌<◌, ◌≤◌, List, length, sym, ap, ⊎_elim, arith}
use lib.Signed.{≤ℤ_refl}
use Rattle.std.proofs.lemmas.Int.{ints}
use Rattle.std.proofs.lemmas.Bool.{cases_order}
use Rattle.bus.specs.Meaning.{Limits, Laws}
use Rattle.bus.proofs.Adding.{largest_has, largest_at_most}
use Rattle.sheet.specs.declared.sender.Sender.{Sender}
use Rattle.sheet.specs.Sheet.{sender_of, measured, AllLawful, Apart}
use Rattle.sheet.specs.Spanning.{span_rises, span_small}
use Rattle.sheet.specs.Limited.{Fit, fit}

module _ (senders : List Sender) (lawful : AllLawful senders) where
  pub fit_of : (i : ℕ) → i < length senders → Fit (sender_of senders i)
  fit_of i h = fit (sender_of senders i) (lawful i h)

  pub jitter_reaches : (i : ℕ) → i < length senders → (sender_of senders i).jitter ≤ (measured senders).reach
  jitter_reaches i h = largest_has (length senders) (λ k. (sender_of senders k).jitter) i h

  pub reach_small : (measured senders).reach ≤ 1048576
  reach_small = largest_at_most (length senders) 1048576 (λ k. (sender_of senders k).jitter) (λ k h. (fit_of k h).jitter_fits)

  pub measured_limits : length senders ≤ 64 → Limits (measured senders)
  measured_limits few = record {
    few = omega (arith, few);
    node_below = λ i h. omega (arith, (fit_of i h).node_fits);
    identifier_below = λ i h. omega (arith, (fit_of i h).identifier_fits);
    long = λ i h. omega arith;
    short = λ i h. omega (arith, (fit_of i h).bytes_fit);
    some_phase = λ n h. omega arith;
    few_phases = λ n h. omega arith;
    place_fits = λ i p q h _ some most.
        let f = fit_of i h in
        let small = span_small (sender_of senders i).spans f.rising f.last_fits q some in
        omega (arith, ints);
    reach_fits = omega (arith, reach_small);
  }

  pub measured_laws : Apart senders → Laws (measured senders)
  measured_laws apart = record {
    first = λ i p h _. let far = jitter_reaches i h in omega (arith, ints);
    apart = λ i p q h _ some. let up = span_rises (sender_of senders i).spans (fit_of i h).rising q some in omega (arith, ints);
    one_node = λ i j hi hj same.
        ⊎_elim (λ e. ap (λ k. (sender_of senders k).node) e) (⊎_elim (λ l. absurd (apart i j l hj same)) (λ l. absurd (apart j i l hi (sym same)))) (cases_order i j);
    closer = λ i p q h _ _ some. ≤ℤ_refl _;
  }
