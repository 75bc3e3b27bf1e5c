use Rattle.std.proofs.Common.{◌≡◌, Some, sym, ◌∙◌, arith, rules}
use Rattle.std.specs.Option.{option_cmp}
use Rattle.std.specs.Ordering.{nat_cmp, ord_max}
use Rattle.bus.specs.Bound.{IsBound}
use Rattle.verdict.specs.declared.Verdict.{Verdict}
use Rattle.verdict.specs.Judged.{VerdictIs}
use Rattle.verdict.proofs.Delivers.{verdict_delivers}
use Rattle.verdict.proofs.Gaining.{larger, gained_past, gained_more}
use Rattle.verdict.proofs.judge.Goals as goal
use Rattle.verdict.proofs.judge.Goals.{then-branch-identifier+in_ok-bound+in-Some, else-branch-identifier}

pub loop-stream-preserved : goal.loop-stream-preserved
loop-stream-preserved g c =
    let m = g.T.Traffic.meaning c.args.traffic.now in
    let k = c.loop-stream.stream in
    let asked = c.in_ok-identifier.ensures.answered (omega arith) in
    let is : c.in_ok-identifier.field-0 ≡ m.identifier k = cc in
    elim c.if-branch-identifier.branch [
      | then-branch-identifier+in_ok-bound+in-Some w ↦
          let bound : IsBound m k w.in-Some.bound = rw w.in-Some.is at w.in_ok-bound.ensures.asked.1 in
          let most = larger c.loop-stream.most w.in-Some.bound in
          let is-larger : c.if-branch-identifier.most ≡ ord_max (option_cmp nat_cmp) c.loop-stream.most (Some w.in-Some.bound) = search rules in
          rw (is-larger ∙ most.1) (gained_more m c.args.identifier k c.loop-stream.most w.in-Some.bound most.0 (sym is ∙ w.if-branch-identifier.true) bound most.2 c.loop-stream.invariant)
      | else-branch-identifier w ↦
          rw w.most-is (gained_past m c.args.identifier k c.loop-stream.most (λ e. w.if-branch-identifier.false (is ∙ e)) c.loop-stream.invariant)
    ]

pub returns-clause-delivered : goal.returns-clause-delivered
returns-clause-delivered g c =
    let m = g.T.Traffic.meaning c.args.traffic.now in
    let t = c.args.traffic.now in
    let v : Verdict = record { bound = c.in_ok-bound-2.bound; judgement = c.compare.result } in
    let judged : VerdictIs m c.args.identifier c.args.due (Some v) = search rules in
    verdict_delivers m (g.met.T.Traffic.limits t) (g.met.T.Traffic.laws t) c.args.identifier c.args.due (Some v) judged
