use Rattle.std.proofs.Common.{◌≡◌, ℕ, ◌+◌, ◌≤◌, ◌++◌, string_bytes, sym, ap, ◌∙◌, subst, arith}
use Rattle.plan.specs.declared.record.Record.{Record}
use Rattle.plan.specs.Held.{held, record_at}
use Rattle.plan.specs.Limited.{fits}
use Rattle.plan.specs.Plans.{sound}
use Rattle.plan.specs.Kept.{within_at}
use Rattle.settled.specs.Holding.{holding}
use Rattle.settled.proofs.Delivering.{verdicts_hold}
use Rattle.report.specs.Report.{row_text, ReportsBelow}
use Rattle.report.proofs.Lining.{reports_past, reports_more}
use Rattle.report.proofs.report.Goals as goal
use Rattle.report.proofs.report.Goals.{in-Ok+in_ok-row_text+in_ok-push_str, in_default}

pub loop-identifier-preserved : goal.loop-identifier-preserved
loop-identifier-preserved c =
    let records = holding c.args.plan.now in
    let n = c.loop-identifier.identifier in
    let before = string_bytes c.loop-identifier.text in
    elim c.match-verdict.branch [
      | in-Ok+in_ok-row_text+in_ok-push_str w ↦
          let line = w.in_ok-row_text.ensures in
          let grown : string_bytes c.match-verdict.text ≡ before ++ row_text n w.in-Ok.verdict = ap string_bytes w.text-is ∙ w.in_ok-push_str.ensures.bytes ∙ ap (λ bytes. before ++ bytes) (w.deref.ensures ∙ line) in
          subst (ReportsBelow (n + 1) records) (sym grown) (reports_more records n w.in-Ok.verdict before w.in-Ok.ensures.asked c.loop-identifier.invariant)
      | in_default w ↦
          subst (ReportsBelow (n + 1) records) (sym (ap string_bytes w.text-is)) (reports_past records n before w.in_default.ensures.asked.1 c.loop-identifier.invariant)
    ]

pub returns-clause-reports : goal.returns-clause-reports
returns-clause-reports c =
    let plan = c.args.plan.now.plan in
    let last : c.loop-identifier.identifier ≡ 2048 = omega arith in
    record {
      lines = subst (λ (n : ℕ). ReportsBelow n (holding c.args.plan.now) (string_bytes c.loop-identifier.text)) last c.loop-identifier.invariant;
      all = λ message among.
          let fit : (record_at (held plan) among.place).identifier ≤ 2047 = (fits (record_at (held plan) among.place) (within_at (held plan) (sound plan).within among.place among.inside)).identifier in
          let is = ap (λ (r : Record). r.identifier) among.is in
          omega arith;
    }

pub returns-clause-delivered : goal.returns-clause-delivered
returns-clause-delivered c = verdicts_hold c.args.plan.now
