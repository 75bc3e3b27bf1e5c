-- The streams of a plan's messages, and the traffic that they are. Assumes nothing.
use Rattle.std.specs.Prelude.{◌≡◌, ℕ, ◌<◌, ◌≤◌, max, Bool, true, false, ◌&&◌, ◌||◌, List, [], ◌∷◌, length, Some, None, Option, fold, ◌==◌, slice_index_or}
use Rattle.std.specs.List.{flat_map}
use Rattle.bus.specs.Frame as frame
use Rattle.bus.specs.Meaning.{Meaning}
use Rattle.clock.specs.declared.timing.Timing.{Timing}
use Rattle.clock.specs.declared.timing.Timing.TheVariants.{Timed, Event}
use Rattle.clock.specs.Timing.{place_of, turns_at}
use Rattle.plan.specs.declared.record.Kind.{Kind}
use Rattle.plan.specs.declared.record.Kind.TheVariants.{Periodic, Sporadic, Mixed}
use Rattle.plan.specs.declared.record.Record.{Record}
use Rattle.plan.specs.declared.streams.Stream.{Stream}
use Rattle.plan.specs.Cycle.{cycle_of}

abbrev pub stream_of : Record → Timing → Stream
stream_of r t = record { node = r.node; identifier = r.identifier; longest = frame.longest r.bytes; jitter = r.jitter; timing = t }

-- a message's timed stream, if it has one, and then its event stream, if it has one
abbrev pub parts : Record → Kind → List Stream
parts r (Periodic period offset) = stream_of r (Timed period offset) ∷ []
parts r (Sporadic gap) = stream_of r (Event gap) ∷ []
parts r (Mixed period offset gap) = stream_of r (Timed period offset) ∷ stream_of r (Event gap) ∷ []

abbrev pub streams_of : List Record → List Stream
streams_of rs = flat_map (λ r. parts r r.kind) rs

-- what stands past the last
abbrev pub silent : Stream
silent = record { node = 0; identifier = 0; longest = 0; jitter = 0; timing = Timed 0 0 }

abbrev pub turning : ℕ → ℕ → Stream → Bool
turning n p s = s.node == n && turns_at s.timing s.jitter p

-- whether a stream of node n turns at p
abbrev pub some_turn : ℕ → ℕ → List Stream → Bool
some_turn n p [] = false
some_turn n p (s ∷ ss) = turning n p s || some_turn n p ss

-- the largest jitter held, or 0
abbrev pub reach_of : List Record → ℕ
reach_of rs = fold (λ m r. max m r.jitter) 0 rs

-- the stream of a number
abbrev pub stream_at : List Record → ℕ → Stream
stream_at rs i = slice_index_or (streams_of rs) i silent

abbrev pub traffic_of : List Record → Meaning
traffic_of rs = record {
  streams = length (streams_of rs);
  node = λ i. (stream_at rs i).node;
  identifier = λ i. (stream_at rs i).identifier;
  longest = λ i. (stream_at rs i).longest;
  cycle = λ n. cycle_of n rs;
  place = λ i p q. place_of (stream_at rs i).timing (stream_at rs i).jitter p q;
  turns = λ n p. some_turn n p (streams_of rs);
  reach = reach_of rs;
}

-- the first phase from p on, and before the end, at which a stream of node n turns, or that there is none
abbrev pub SoonestFound : ℕ → ℕ → ℕ → List Stream → Option ℕ → Type 0
SoonestFound n p end ss (Some t) = (p ≤ t) × (t < end) × (some_turn n t ss ≡ true) × ((k : ℕ) → p ≤ k → k < t → some_turn n k ss ≡ false)
SoonestFound n p end ss None = (k : ℕ) → p ≤ k → k < end → some_turn n k ss ≡ false
