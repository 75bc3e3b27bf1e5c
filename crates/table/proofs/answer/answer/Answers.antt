use Rattle.std.proofs.Common.{ℕ, List, [], Ok, Err, Result, IfOk, inl}
use Rattle.plan.specs.declared.record.Record.{Record}
use Rattle.settled.specs.Holding.{holding, VerdictsHold}
use Rattle.report.specs.Report.{Reports}
use Rattle.table.specs.Answer.{AnswersHold}
use Rattle.table.specs.Table.{TableEntered}
use Rattle.table.proofs.answer.answer.Goals as goal

-- the report on a table that was entered tells bounds that are kept
kept : {S E : Type 0} (bytes : S → List ℕ) (table : List ℕ) (records : List Record) → TableEntered [] table records → (r : Result S E) → IfOk r (λ s. Reports records (bytes s)) → IfOk r (λ _. VerdictsHold records) → IfOk r (λ s. AnswersHold table (bytes s))
kept bytes table records entered (Ok s) reports holds = inl (record { accepted = record { records = records; entered = entered; reports = reports }; delivered = holds })
kept bytes table records entered (Err e) reports holds = tt

pub returns-in-Ok-clause-delivered : goal.returns-in-Ok-clause-delivered
returns-in-Ok-clause-delivered c =
    let records = holding c.settle.result in
    let entered : TableEntered [] c.args.text.now records = rw c.settle.ensures.holds (rw c.in_ok-plan.ensures.empty at c.in-Ok.ensures) in
    kept _ c.args.text.now records entered c.report.result c.report.ensures.reports c.report.ensures.delivered
