use Rattle.std.proofs.Common.{take, vec_items}
use Rattle.life.specs.Life.{book_of, Lives}
use Rattle.life.proofs.replay.replay.Given as goal

abbrev pub invariant-loop-place : goal.invariant-loop-place
invariant-loop-place l = Lives (take l.place l.calls) (vec_items l.answers) (book_of l.plan)
