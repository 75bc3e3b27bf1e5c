-- What the limits of a sender tell. Assumes nothing.
use Rattle.std.proofs.Common.{◌≤◌}
use Rattle.std.proofs.lemmas.Bool.{ltb-false, not-false}
use Rattle.bus.proofs.Refusing.{none_applies}
use Rattle.sheet.specs.declared.sender.Sender.{Sender}
use Rattle.sheet.specs.Sender.{span, spans_fit, limits, Lawful}
use Rattle.sheet.specs.Spanning.{Rising, spans_fit_tells}

pub record Fit (s : Sender) : Type 0 where
  pub identifier_fits : s.identifier ≤ 2047
  pub node_fits : s.node ≤ 15
  pub bytes_fit : s.bytes ≤ 8
  pub jitter_fits : s.jitter ≤ 1048576
  pub rising : Rising s.spans 7
  pub last_fits : span s.spans 8 ≤ 8388608

pub fit : (s : Sender) → Lawful s → Fit s
fit s lawful =
    let kept = none_applies (limits s) (tt {0}) lawful in
    let spans = (spans_fit_tells s.spans).0 (not-false (spans_fit s.spans) kept.1.1.1.1.0) in
    record {
      identifier_fits = ltb-false 2047 s.identifier kept.0;
      node_fits = ltb-false 15 s.node kept.1.0;
      bytes_fit = ltb-false 8 s.bytes kept.1.1.0;
      jitter_fits = ltb-false 1048576 s.jitter kept.1.1.1.0;
      rising = spans.0;
      last_fits = spans.1;
    }
