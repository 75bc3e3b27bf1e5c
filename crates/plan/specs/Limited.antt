-- What it says of a record that it is within its limits. Assumes nothing.
use Rattle.std.specs.Prelude.{◌≡◌, ℕ, ◌≤◌, true, nat_lt}
use Rattle.std.proofs.lemmas.Bool.{ltb-false, ltb-true, leb-true, and_parts, not-false}
use Rattle.bus.proofs.Refusing.{rule_passed}
use Rattle.plan.specs.declared.record.Record.{Record}
use Rattle.plan.specs.Record.{interval, intervals, offset_below, within}

pub interval_some : (n : ℕ) → interval n ≡ true → 1 ≤ n
interval_some n h = ltb-true 0 n (and_parts _ _ h).0

pub interval_most : (n : ℕ) → interval n ≡ true → n ≤ 1048576
interval_most n h = leb-true n _ (and_parts (nat_lt 0 n) _ h).1

pub record Fits (r : Record) : Type 0 where
  pub identifier : r.identifier ≤ 2047
  pub node : r.node ≤ 15
  pub bytes : r.bytes ≤ 8
  pub intervals : intervals r.kind ≡ true
  pub offset : offset_below r.kind ≡ true
  pub jitter : r.jitter ≤ 1048576
  pub due : r.due ≤ 4194304

pub fits : (r : Record) → within r ≡ true → Fits r
fits r h =
    let p1 = rule_passed _ _ _ h in
    let p2 = rule_passed _ _ _ p1.1 in
    let p3 = rule_passed _ _ _ p2.1 in
    let p4 = rule_passed _ _ _ p3.1 in
    let p5 = rule_passed _ _ _ p4.1 in
    let p6 = rule_passed _ _ _ p5.1 in
    let p7 = rule_passed _ _ _ p6.1 in
    record {
      identifier = ltb-false _ _ p1.0;
      node = ltb-false _ _ p2.0;
      bytes = ltb-false _ _ p3.0;
      intervals = not-false _ p4.0;
      offset = not-false _ p5.0;
      jitter = ltb-false _ _ p6.0;
      due = leb-true r.due _ (and_parts (nat_lt 0 r.due) _ (not-false _ p7.0)).1;
    }
