-- The line of a record, and what it is to read one. Assumes nothing.
use Rattle.std.specs.Prelude.{◌≡◌, ℕ, ◌^◌, ◌<◌, ◌≤◌, List, [], ◌∷◌, ◌++◌, length, take, drop, Ok, Err, codes, decimal, Result}
use Rattle.std.specs.List.{flat_map, AllByRecursion}
use Rattle.plan.specs.declared.record.Kind.{Kind}
use Rattle.plan.specs.declared.record.Kind.TheVariants.{Periodic, Sporadic, Mixed}
use Rattle.plan.specs.declared.record.Record.{Record}
use Rattle.line.specs.declared.line.LineFault.{LineFault}

-- the parts of a line that tell the kind, one after another
abbrev pub kind_parts : Kind → List (List ℕ)
kind_parts (Periodic period offset) = codes "(timed " ∷ decimal period ∷ codes " " ∷ decimal offset ∷ codes ")" ∷ []
kind_parts (Sporadic gap) = codes "(event " ∷ decimal gap ∷ codes ")" ∷ []
kind_parts (Mixed period offset gap) =
    codes "(timed " ∷ decimal period ∷ codes " " ∷ decimal offset ∷ codes ") (event " ∷ decimal gap ∷ codes ")" ∷ []

-- all parts of the line of a record
abbrev pub parts : Record → List (List ℕ)
parts r =
    (codes "(message " ∷ decimal r.identifier ∷ codes " (node " ∷ decimal r.node ∷ codes ") (bytes " ∷ decimal r.bytes ∷ codes ") " ∷ [])
    ++ (kind_parts r.kind
    ++ (codes " (jitter " ∷ decimal r.jitter ∷ codes ") (due " ∷ decimal r.due ∷ codes "))\n" ∷ []))

-- the line of a record, with the line feed that closes it
abbrev pub line_of : Record → List ℕ
line_of r = flat_map (λ part. part) (parts r)

abbrev pub kind_numbers : Kind → List ℕ
kind_numbers (Periodic period offset) = period ∷ offset ∷ []
kind_numbers (Sporadic gap) = gap ∷ []
kind_numbers (Mixed period offset gap) = period ∷ offset ∷ gap ∷ []

abbrev pub numbers : Record → List ℕ
numbers r = r.identifier ∷ r.node ∷ r.bytes ∷ r.jitter ∷ r.due ∷ kind_numbers r.kind

-- at most ten digits
abbrev pub Short : ℕ → Type 0
Short n = n < 10 ^ 10

-- the line of a record is lawful if each of its numbers has at most ten digits
abbrev pub Lawful : Record → Type 0
Lawful r = AllByRecursion Short (numbers r)

-- the text begins with the lawful line of r
pub record LineStands (s : List ℕ) (r : Record) : Type 0 where
  pub lawful : Lawful r
  pub rest : List ℕ
  pub is : s ≡ line_of r ++ rest

-- the front is how some lawful line begins
pub record StartsLine (front : List ℕ) : Type 0 where
  pub line : Record
  pub lawful : Lawful line
  pub rest : List ℕ
  pub is : front ++ rest ≡ line_of line

-- the text begins with the lawful line of r, and of no other record, and the next line begins at n
pub record Reads (s : List ℕ) (r : Record) (n : ℕ) : Type 0 where
  pub lawful : Lawful r
  pub is : s ≡ line_of r ++ drop n s
  pub next : n ≡ length (line_of r)
  pub only : (q : Record) → LineStands s q → q ≡ r

-- the text begins with no lawful line, and its first `at` bytes are its longest beginning that a lawful line shares
pub record Faults (s : List ℕ) (at : ℕ) : Type 0 where
  pub none : (q : Record) → LineStands s q → ⊥
  pub within : at ≤ length s
  pub shared : StartsLine (take at s)
  pub longest : (k : ℕ) → k ≤ length s → StartsLine (take k s) → k ≤ at

abbrev pub Read : List ℕ → Result (Record × ℕ) LineFault → Type 0
Read s (Ok found) = Reads s found.0 found.1
Read s (Err fault) = Faults s fault.at
