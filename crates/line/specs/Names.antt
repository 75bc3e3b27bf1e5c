-- The words of a line. Assumes nothing.
use Rattle.std.specs.Prelude.{ℕ, ◌<◌, List, length, codes}
use Rattle.std.specs.List.{AllByRecursion}
use Rattle.line.specs.declared.names.Name.{Name}
use Rattle.line.specs.declared.names.Name.TheVariants.{Message, Node, Bytes, Timed, Event, Jitter, Due}
use Rattle.line.specs.Tokens.{Letter}

abbrev pub name_text : Name → List ℕ
name_text Message = codes "message"
name_text Node = codes "node"
name_text Bytes = codes "bytes"
name_text Timed = codes "timed"
name_text Event = codes "event"
name_text Jitter = codes "jitter"
name_text Due = codes "due"

-- a word as it may be asked for
pub record Asked (w : List ℕ) : Type 0 where
  pub some : 0 < length w
  pub letters : AllByRecursion Letter w
