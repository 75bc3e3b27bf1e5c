-- A verdict that is a bound is kept. Assumes nothing.
use Rattle.std.proofs.Common.{ℕ, List, Some, None, Ok, Err, Option, Result, IfOk, sym, subst}
use mathlib.Core.Logic.{∥∥₁_elim}
use denote.Struct.Props.{props}
use Rattle.bus.specs.declared.refusal.Refusal.{Refusal}
use Rattle.plan.specs.declared.record.Record.{Record}
use Rattle.plan.specs.Held.{record_at}
use Rattle.plan.specs.Streams.{traffic_of}
use Rattle.plan.specs.Kept.{Sound}
use Rattle.plan.specs.Carried.{limits_of, laws_of}
use Rattle.plan.specs.Plans.{sound}
use Rattle.runs.proofs.Delivering.{as_declared}
use Rattle.verdict.specs.declared.Verdict.{Verdict}
use Rattle.verdict.proofs.Delivers.{verdict_delivers}
use Rattle.settled.specs.declared.settled.SettledPlan.{SettledPlan}
use Rattle.settled.specs.declared.settled.calls.Row.{Row}
use Rattle.settled.specs.Figures.{figure_at, Known}
use Rattle.settled.specs.Holding.{holding, VerdictHolds, FiguresHold, VerdictsHold, RowAsked}

pub verdict_holds : (records : List Record) → Sound records → (message : Record) (v : Option Verdict) → Known (traffic_of records) message v → VerdictHolds records message.identifier v
verdict_holds records sound message (Some v) so = λ i known named base run r keeps k of. ∥∥₁_elim so (hlevel props) (λ is.
    let delivers = verdict_delivers (traffic_of records) (limits_of records sound) (laws_of records sound) message.identifier message.due (Some v) is in
    as_declared records sound i v.bound (delivers i (record { known = known; is = named })) base run r keeps k of)
verdict_holds records sound message None so = tt

pub figures_hold : (s : SettledPlan) → FiguresHold s
figures_hold s k inside = record { known = s.known k inside; delivered = verdict_holds (holding s) (sound s.plan) (record_at (holding s) k) (figure_at s.rows.items k) (s.known k inside) }

-- so is the verdict on a message with an identifier
pub verdicts_hold : (s : SettledPlan) → VerdictsHold (holding s)
verdicts_hold s identifier v of = subst (λ (n : ℕ). VerdictHolds (holding s) n v) of.named (verdict_holds (holding s) (sound s.plan) of.message v of.known)

-- and that of a row
pub row_holds : (s : SettledPlan) (position : ℕ) (r : Result Row Refusal) → RowAsked (holding s) position r → IfOk r (λ row. VerdictHolds (holding s) row.identifier row.verdict)
row_holds s position (Ok row) of = subst (λ (n : ℕ). VerdictHolds (holding s) n row.verdict) (sym of.named) (verdict_holds (holding s) (sound s.plan) (record_at (holding s) position) row.verdict of.known)
row_holds s position (Err e) of = tt
