use Rattle.std.proofs.Common.{◌≡◌, take, vec_items, vec_capacity}
use Rattle.plan.specs.Messages.{records_of}
use Rattle.plan.specs.Streams.{streams_of}
use Rattle.plan.proofs.streams.list_streams.Given as goal

abbrev pub invariant-loop-message : goal.invariant-loop-message
invariant-loop-message l = (vec_items l.streams ≡ streams_of (take l.message-index (records_of l.messages))) × (vec_capacity l.streams ≡ vec_capacity l.initial.streams)
