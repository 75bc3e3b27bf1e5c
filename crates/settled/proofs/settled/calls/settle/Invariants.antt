use Rattle.std.proofs.Common.{◌≡◌, ℕ, ◌<◌, length}
use Rattle.plan.specs.Held.{held, record_at}
use Rattle.plan.specs.Streams.{traffic_of}
use Rattle.settled.specs.Figures.{row_at, figure_at, Known}
use Rattle.settled.proofs.settled.calls.settle.Given as goal

-- a row stands for each of the messages so far
abbrev pub invariant-loop-message : goal.invariant-loop-message
invariant-loop-message l =
    let records = held l.fn.plan in
    let rows = l.rows.items in
    (length rows ≡ l.message-index) × ((n : ℕ) → n < l.message-index → (row_at rows n).identifier ≡ (record_at records n).identifier) × ((n : ℕ) → n < l.message-index → Known (traffic_of records) (record_at records n) (figure_at rows n))
