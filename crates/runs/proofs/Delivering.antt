-- What is delivered where the places are kept is delivered where the declarations are. Assumes nothing.
use Rattle.std.proofs.Common.{ℕ, List}
use Rattle.bus.specs.Run.{Delivered}
use Rattle.bus.proofs.Delivering.{bounds_hold}
use Rattle.plan.specs.declared.record.Record.{Record}
use Rattle.plan.specs.Streams.{traffic_of}
use Rattle.plan.specs.Kept.{Sound}
use Rattle.plan.specs.Carried.{limits_of, laws_of}
use Rattle.runs.specs.Delivery.{DeliveredAsDeclared, DeclaredDelivered}
use Rattle.runs.proofs.Arrivals.{declared_kept}

module _ (records : List Record) (sound : Sound records) where
  pub as_declared : (i b : ℕ) → Delivered (traffic_of records) i b → DeliveredAsDeclared records i b
  as_declared i b delivered base run r keeps k of = delivered base run r (declared_kept records sound base run r keeps) k of.0 of.1

  pub declared_delivered : DeclaredDelivered records
  declared_delivered i b known bound = as_declared i b (bounds_hold (traffic_of records) (limits_of records sound) (laws_of records sound) i b known bound)
