-- What a schedule is of some records, and what working it out again makes of it. Assumes nothing.
use Rattle.std.specs.Prelude.{◌≡◌, ℕ, ◌<◌, true, false, List, Ok, Err, Result, slice_index}
use Rattle.bus.specs.declared.refusal.Refusal.{Refusal}
use Rattle.bus.specs.declared.refusal.Refusal.TheVariants.{Cycle}
use Rattle.plan.specs.declared.record.Record.{Record}
use Rattle.plan.specs.declared.schedule.Schedule.{Schedule}
use Rattle.plan.specs.Cycle.{cycle_of}
use Rattle.plan.specs.Open.{too_long}
use Rattle.plan.specs.Streams.{streams_of, reach_of}

-- it is the one of the records
pub record Works (rs : List Record) (s : Schedule) : Type 0 where
  pub carried : s.streams.items ≡ streams_of rs
  pub cycled : (n : ℕ) → n < 16 → slice_index s.cycles n ≡ cycle_of n rs
  pub reached : s.reach ≡ reach_of rs

-- it is afterwards, or stays where a cycle is too long
abbrev pub WorksOut : List Record → Schedule → Result (Unit {0}) Refusal → Schedule → Type 0
WorksOut rs old (Ok done) new = (too_long rs ≡ false) × Works rs new
WorksOut rs old (Err e) new = (too_long rs ≡ true) × (e ≡ Cycle) × (new ≡ old)
