-- The records of messages. Assumes nothing.
use Rattle.std.specs.Prelude.{List, map}
use Rattle.plan.specs.declared.record.Message.{Message}
use Rattle.plan.specs.declared.record.Record.{Record}

abbrev pub records_of : List Message → List Record
records_of ms = map (λ m. m.record) ms
