-- What is found of a sheet's senders, and what a count answers. Assumes nothing.
use Rattle.std.proofs.Common.{◌≡◌, ℕ, ◌+◌, ◌*◌, ◌<◌, ◌≤◌, List, length, Ok, vec_items, sym, refl, ap, subst, arith}
use Rattle.std.proofs.lemmas.Int.{ints}
use Rattle.bus.specs.Asked.{Asked}
use Rattle.bus.specs.Meaning.{count}
use Rattle.bus.proofs.Answered.{within, below_or_not}
use Rattle.bus.proofs.Growing.{count_is}
use Rattle.sheet.specs.declared.sender.Sender.{Sender}
use Rattle.sheet.specs.declared.sheet.Sheet.{Sheet}
use Rattle.sheet.specs.Sender.{span, Lawful}
use Rattle.sheet.specs.Sheet.{sender_of, measured}
use Rattle.sheet.specs.Spanning.{span_small}
use Rattle.sheet.specs.Limited.{fit}
use Rattle.sheet.specs.Lawful.{jitter_reaches, reach_small, measured_laws}

module _ (sheet : Sheet) where
  abbrev senders : List Sender
  senders = vec_items sheet.senders

  -- x is the sender of stream i
  pub record Found (i : ℕ) (x : Sender) : Type 0 where
    pub known : i < length senders
    pub is : x ≡ sender_of senders i
    pub keeps : Lawful x
    pub early : x.jitter ≤ (measured senders).reach
    pub near : (measured senders).reach ≤ 1048576
    pub short : (q : ℕ) → 1 ≤ q → span x.spans q ≤ q * 8388608

  pub found : {i : ℕ} {x : Sender} → Asked (i < length senders) (sender_of senders i) (Ok x) → Found i x
  found {i} {x} asked =
      let in_range = within (below_or_not i (length senders)) asked refl in
      let keeps : Lawful x = subst Lawful (sym in_range.1) (sheet.lawful i in_range.0) in
      let f = fit x keeps in
      record {
        known = in_range.0;
        is = in_range.1;
        keeps = keeps;
        early = omega (arith, jitter_reaches senders sheet.lawful i in_range.0, ap (λ (y : Sender). y.jitter) in_range.1);
        near = reach_small senders sheet.lawful;
        short = span_small x.spans f.rising f.last_fits;
      }

  pub count_found : (i p w n : ℕ) (x : Sender) → Found i x → p < 1 → span x.spans n ≤ w + x.jitter → w + x.jitter < span x.spans (n + 1) → count (measured senders) i p w ≡ n
  count_found i p w n x f inside last next =
      let jitter = ap (λ (y : Sender). y.jitter) f.is in
      let here = ap (λ (y : Sender). span y.spans n) f.is in
      let on = ap (λ (y : Sender). span y.spans (n + 1)) f.is in
      count_is (measured senders) (measured_laws senders sheet.lawful sheet.apart) i p w n f.known inside (λ some. omega (arith, ints)) (omega (arith, ints))
