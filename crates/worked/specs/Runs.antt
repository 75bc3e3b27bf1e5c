-- Runs of two messages, which keep what the messages declare. Assumes nothing.
use Rattle.std.specs.Prelude.{ℕ, cond, List, [], ◌∷◌, ℤ, pos, negsuc, ◌==◌}
use Rattle.std.specs.List.{AllByRecursion}
use Rattle.bus.specs.Run.{Instance, IsRun}
use Rattle.plan.specs.declared.record.Record.{Record}
use Rattle.plan.specs.Streams.{traffic_of}
use Rattle.runs.specs.Declarations.{KeepsDeclarations}
use Rattle.worked.specs.Examples.{one_node, two_nodes}

-- messages, the base moment of each node, and a run
pub record DeclaredRun : Type 0 where
  pub records : List Record
  pub base : ℕ → ℤ
  pub run : List Instance

pub record Kept (l : DeclaredRun) : Type 0 where
  pub is_run : IsRun l.run (traffic_of l.records)
  pub keeps : KeepsDeclarations l.records l.base l.run

-- an instance of a stream that is queued as it arrives, with the start and the bits of its frame
abbrev sent : ℕ → ℤ → ℤ → ℕ → Instance
sent stream arrival start bits = record { stream = stream; arrival = arrival; queued = arrival; start = start; bits = bits }

-- in one node each is sent at once
abbrev pub apart : DeclaredRun
apart = record {
  records = one_node;
  base = λ _. pos 0;
  run = sent 0 (pos 0) (pos 0) 55 ∷ sent 1 (pos 200) (pos 200) 47 ∷ sent 0 (pos 400) (pos 400) 55 ∷ sent 1 (pos 600) (pos 600) 55 ∷ [];
}

-- where the clock of the other node stands 200 before, both arrive together, and the one with the higher identifier waits
abbrev pub together : DeclaredRun
together = record {
  records = two_nodes;
  base = λ n. cond (n == 1) (negsuc 199) (pos 0);
  run = sent 0 (pos 0) (pos 0) 55 ∷ sent 1 (pos 0) (pos 55) 55 ∷ sent 0 (pos 400) (pos 400) 47 ∷ sent 1 (pos 400) (pos 447) 55 ∷ [];
}

abbrev pub RunsKept : Type 0
RunsKept = AllByRecursion Kept (apart ∷ together ∷ [])
