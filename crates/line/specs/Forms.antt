-- What may stand in a text, part by part, and how far a text goes along with it. Assumes nothing.
use Rattle.std.specs.Prelude.{◌≡◌, ℕ, ◌+◌, ◌<◌, ◌≤◌, ◌⊎◌, List, [], ◌∷◌, ◌++◌, length, drop, decimal, ◌==◌}
use Rattle.std.specs.List.{common_prefix_len}
use Rattle.plan.specs.declared.record.Record.{Record}
use Rattle.line.specs.declared.tokens.Mark.{Mark}
use Rattle.line.specs.Line.{Short}
use Rattle.line.specs.Tokens.{byte_of}

-- how many bytes two texts share at their beginnings
abbrev pub shared : List ℕ → List ℕ → ℕ
shared t s = common_prefix_len (λ c d. c == d) t s

-- the end; given bytes; a number and the mark after it; either of two
pub data Form : Type 0 where
  end : Record → Form
  given : List ℕ → Form → Form
  number : Mark → (ℕ → Form) → Form
  choice : Form → Form → Form

-- t is a text of the form, for the record r
abbrev pub Text : Form → Record → List ℕ → Type 0
Text (end q) r t = (r ≡ q) × (t ≡ [])
Text (given w F) r t = (u : List ℕ) × (t ≡ w ++ u) × Text F r u
Text (number mark F) r t = (n : ℕ) × (u : List ℕ) × Short n × (t ≡ decimal n ++ byte_of mark ∷ u) × Text (F n) r u
Text (choice F G) r t = Text F r t ⊎ Text G r t

-- where what stands at `at` leaves the text t, and where t would end
abbrev pub reach : List ℕ → ℕ → List ℕ → ℕ
reach s at t = at + shared t (drop at s)

abbrev pub close : ℕ → List ℕ → ℕ
close at t = at + length t

-- t from `at` on is what stands there up to n, and then u
pub record Leads (s : List ℕ) (at n : ℕ) (t u : List ℕ) : Type 0 where
  pub reaches : reach s at t ≡ reach s n u
  pub closes : close at t ≡ close n u

-- what stands at `at` leaves t before n
pub record Leaves (s : List ℕ) (at n : ℕ) (t : List ℕ) : Type 0 where
  pub early : reach s at t < n
  pub partly : reach s at t < close at t

-- F is asked at `at`, and once n is reached G is
pub record Passes (F : Form) (s : List ℕ) (at n : ℕ) (G : Form) : Type 0 where
  pub onward : at ≤ n
  pub back : (r : Record) (u : List ℕ) → Text G r u → (t : List ℕ) × Text F r t × Leads s at n t u
  pub on : (r : Record) (t : List ℕ) → Text F r t → ((u : List ℕ) × Text G r u × Leads s at n t u) ⊎ Leaves s at n t

-- no text of the form stands at `at`, and p is as far as one goes along
pub record Fault (F : Form) (s : List ℕ) (at p : ℕ) : Type 0 where
  pub line : Record
  pub text : List ℕ
  pub is_text : Text F line text
  pub reaches : p ≡ reach s at text
  pub leaves : (r : Record) (t : List ℕ) → Text F r t → Leaves s at (p + 1) t
