-- What the messages of a plan declare of the runs of its bus: when instances arrive, and how soon they are queued. Assumes nothing.
use Rattle.std.specs.Prelude.{◌≡◌, ℕ, ◌+◌, ◌*◌, ◌<◌, List, length, ℤ, pos, ◌+ℤ◌, ◌≤ℤ◌, ◌<ℤ◌, ◌≢◌}
use Rattle.bus.specs.Run.{Instance, at, IsRun, Keeps}
use Rattle.clock.specs.declared.timing.Timing.{Timing}
use Rattle.clock.specs.declared.timing.Timing.TheVariants.{Timed, Event}
use Rattle.plan.specs.declared.record.Record.{Record}
use Rattle.plan.specs.declared.streams.Stream.{Stream}
use Rattle.plan.specs.Streams.{streams_of, stream_at, traffic_of}

module _ (run : List Instance) (i : ℕ) where
  -- k is an instance of stream i
  abbrev pub Of : ℕ → Type 0
  Of k = (k < length run) × ((at run k).stream ≡ i)

  -- instance k arrives n periods after the offset, counted from the node's base moment
  abbrev pub Comes : ℤ → ℕ → ℕ → ℕ → ℕ → Type 0
  Comes base period offset k n = (at run k).arrival ≡ (base +ℤ pos (offset + n * period))

  -- so every instance arrives, and no two with the same n
  pub record ByTime (base : ℤ) (period offset : ℕ) : Type 0 where
    pub comes : (k : ℕ) → Of k → (n : ℕ) × Comes base period offset k n
    pub once : (j k n : ℕ) → Of j → Of k → Comes base period offset j n → Comes base period offset k n → j ≡ k

  -- any two arrivals lie at least the gap apart
  pub record ByEvent (gap : ℕ) : Type 0 where
    pub apart : (j k : ℕ) → Of j → Of k → (j ≢ k) → (at run j).arrival ≤ℤ (at run k).arrival → ((at run j).arrival +ℤ pos gap) ≤ℤ (at run k).arrival

  abbrev pub Arrivals : ℤ → Timing → Type 0
  Arrivals base (Timed period offset) = ByTime base period offset
  Arrivals base (Event gap) = ByEvent gap

  pub record Queueing (jitter : ℕ) : Type 0 where
    -- at most the jitter after the arrival
    pub soon : (k : ℕ) → Of k → (at run k).queued ≤ℤ ((at run k).arrival +ℤ pos jitter)
    -- in order of arrival
    pub in_order : (j k : ℕ) → Of j → Of k → (at run j).arrival <ℤ (at run k).arrival → (at run j).queued ≤ℤ (at run k).queued

  -- each node has a base moment
  pub record KeepsStream (base : ℕ → ℤ) (s : Stream) : Type 0 where
    pub arrivals : Arrivals (base s.node) s.timing
    pub queueing : Queueing s.jitter

-- the run keeps what the records declare
abbrev pub KeepsDeclarations : List Record → (ℕ → ℤ) → List Instance → Type 0
KeepsDeclarations records base run = (i : ℕ) → i < length (streams_of records) → KeepsStream run i base (stream_at records i)

-- every run that does keeps the places of the plan's traffic
abbrev pub DeclaredKept : List Record → Type 0
DeclaredKept records = (base : ℕ → ℤ) (run : List Instance) → IsRun run (traffic_of records) → KeepsDeclarations records base run → Keeps (traffic_of records) base run

-- a run that does, with an instance of stream i
pub record Meets (records : List Record) (base : ℕ → ℤ) (i : ℕ) : Type 0 where
  pub run : List Instance
  pub is_run : IsRun run (traffic_of records)
  pub keeps : KeepsDeclarations records base run
  pub instance : ℕ
  pub is : Of run i instance

-- there is one for each stream, whatever the base moments
abbrev pub DeclaredMet : List Record → Type 0
DeclaredMet records = (i : ℕ) → i < length (streams_of records) → (base : ℕ → ℤ) → Meets records base i
