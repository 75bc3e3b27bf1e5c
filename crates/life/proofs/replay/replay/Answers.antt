use Rattle.std.proofs.Common.{◌+◌, ◌≤◌, List, length, take, vec_items, sym, subst, arith}
use Rattle.std.proofs.lemmas.List.{take_all}
use Rattle.life.specs.declared.life.Answer.{Answer}
use Rattle.life.specs.declared.life.Call.{Call}
use Rattle.life.specs.Life.{book_of, Lives}
use Rattle.life.proofs.Living.{lives_on, stops_at, figured}
use Rattle.life.proofs.replay.replay.Goals as goal

pub returns-in_default : goal.returns-in_default
returns-in_default c = record { goes = stops_at c.args.calls.now c.loop-place.place _ c.loop-place-test.true _ _ c.loop-place.invariant _ _ c.work-left.ensures c.in_default.is; figured = figured c.work-left.result.0 }

pub loop-place-preserved : goal.loop-place-preserved
loop-place-preserved c =
    subst (λ (answers : List Answer). Lives (take (c.loop-place.place + 1) c.args.calls.now) answers (book_of c.work-left.result.0)) (sym c.in_ok-push.ensures.items)
    (lives_on c.args.calls.now c.loop-place.place _ c.loop-place-test.true _ _ c.loop-place.invariant _ _ c.work-left.ensures c.in-Some.answer c.in-Some.is)

pub returns : goal.returns
returns c =
    let all : length c.args.calls.now ≤ c.loop-place.place = omega arith in
    record {
      goes = subst (λ (front : List Call). Lives front (vec_items c.loop-place.answers) (book_of c.loop-place.plan)) (take_all c.loop-place.place c.args.calls.now all) c.loop-place.invariant;
      figured = figured c.loop-place.plan;
    }
