-- What is known while calls are read. Assumes nothing.
use Rattle.std.proofs.Common.{◌≡◌, ℕ, List, ◌++◌}
use Rattle.std.specs.List.{flat_map, AllByRecursion}
use Rattle.life.specs.declared.life.Call.{Call}
use Rattle.script.specs.Calls.{LawfulCall, call_line}

-- these calls have been read, and the rest has not
pub record Gone (text : List ℕ) (calls : List Call) (rest : List ℕ) : Type 0 where
  pub lawful : AllByRecursion LawfulCall calls
  pub is : text ≡ flat_map call_line calls ++ rest
