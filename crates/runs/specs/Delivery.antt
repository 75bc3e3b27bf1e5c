-- Delivery in the runs that keep a plan's declarations. Assumes nothing.
use Rattle.std.specs.Prelude.{◌≡◌, ℕ, ◌<◌, List, length, ℤ}
use Rattle.bus.specs.Bound.{IsBound}
use Rattle.bus.specs.Run.{Instance, IsRun, InTime}
use Rattle.plan.specs.declared.record.Record.{Record}
use Rattle.plan.specs.Streams.{streams_of, stream_at, traffic_of}
use Rattle.runs.specs.Declarations.{Of, KeepsDeclarations}

module _ (records : List Record) where
  -- in every run that keeps the declarations, every instance of stream i is off the wire within b, counted from its arrival
  abbrev pub DeliveredAsDeclared : ℕ → ℕ → Type 0
  DeliveredAsDeclared i b = (base : ℕ → ℤ) (run : List Instance) → IsRun run (traffic_of records) → KeepsDeclarations records base run → (k : ℕ) → Of run i k → InTime run k b

  -- and so is every instance of the message with the identifier
  abbrev pub MessageDelivered : ℕ → ℕ → Type 0
  MessageDelivered identifier b = (i : ℕ) → i < length (streams_of records) → (stream_at records i).identifier ≡ identifier → DeliveredAsDeclared i b

  -- every bound is kept so
  abbrev pub DeclaredDelivered : Type 0
  DeclaredDelivered = (i b : ℕ) → i < length (streams_of records) → IsBound (traffic_of records) i b → DeliveredAsDeclared i b
