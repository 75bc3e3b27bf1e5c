-- Groups of streams of one node, and what they send. Assumes nothing.
use Rattle.std.specs.Prelude.{◌≡◌, ℕ, ◌<◌, ◌≤◌, Bool, not, ◌&&◌, List, length, ◌==◌, nat_le, All, sum_by}
use Rattle.bus.specs.Sums.{sum_below, largest_below, only}
use Rattle.bus.specs.Meaning.{Meaning}
use Rattle.bus.specs.Bound.{load, heaviest}
use Rattle.engine.specs.declared.group.Group.{Group}

module _ (m : Meaning) where
  -- the group lists streams of its node
  abbrev pub Members : Group → Type 0
  Members g = All (λ k. (k < m.streams) × (m.node k ≡ g.node)) g.streams.items

  -- the bits that they may send in a window of w that begins at the node's phase p
  abbrev pub sent : Group → ℕ → ℕ → ℕ
  sent g p w = sum_by (λ k. load m k p w) g.streams.items

  -- the most, over the phases of the group's node
  abbrev pub heaviest_sent : Group → ℕ → ℕ
  heaviest_sent g w = largest_below (m.cycle g.node) (λ p. sent g p w)

  -- whether k is another stream of node n with the same or a lower identifier than i's
  abbrev pub rival : ℕ → ℕ → ℕ → Bool
  rival i n k = (m.node k == n && not (k == i)) && nat_le (m.identifier k) (m.identifier i)

  -- the group lists just these of the first few streams: whatever is summed over it is summed over them
  pub record Gathered (i n few : ℕ) (g : Group) : Type 0 where
    pub is_node : g.node ≡ n
    pub members : Members g
    pub short : length g.streams.items ≤ few
    pub whole : (f : ℕ → ℕ) → sum_by f g.streams.items ≡ sum_below few (λ k. only (rival i n k) (f k))

  -- of all streams
  abbrev pub Gathers : ℕ → ℕ → Group → Type 0
  Gathers i n g = Gathered i n m.streams g

  -- the groups send what those of the first few nodes can send before i's frames that are not i's node
  pub record Elsewhere (i few : ℕ) (groups : List Group) : Type 0 where
    pub short : length groups ≤ few
    pub each : All (λ g. (g.node < 16) × Members g) groups
    pub whole : (w : ℕ) → sum_by (λ g. heaviest_sent g w) groups ≡ sum_below few (λ n. only (not (n == m.node i)) (heaviest m i n w))
