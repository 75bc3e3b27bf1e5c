-- What it is to read a number that closes its line. Assumes nothing.
use Rattle.std.specs.Prelude.{◌≡◌, ℕ, ◌+◌, List, ◌∷◌, ◌++◌, length, drop, Ok, Err, decimal, Result, ◌≢◌}
use Rattle.line.specs.declared.line.LineFault.{LineFault}
use Rattle.line.specs.Line.{Short}

-- the text begins with the number n and a line feed, and the next line begins at `next`
pub record ReadsNumber (s : List ℕ) (n next : ℕ) : Type 0 where
  pub short : Short n
  pub is : s ≡ decimal n ++ 10 ∷ drop next s
  pub ends : next ≡ length (decimal n) + 1

abbrev pub NumberRead : List ℕ → Result (ℕ × ℕ) LineFault → Type 0
NumberRead s (Ok found) = ReadsNumber s found.0 found.1
NumberRead s (Err fault) = (n : ℕ) (rest : List ℕ) → Short n → s ≢ decimal n ++ 10 ∷ rest
