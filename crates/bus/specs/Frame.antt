-- The longest a data frame can be on the wire, intermission included. Assumes nothing.
use Rattle.std.specs.Prelude.{◌≡◌, ℕ, ◌+◌, ◌*◌, ◌≤◌, Ok, Err, Result}
use Rattle.bus.specs.declared.refusal.Refusal.{Refusal}
use Rattle.bus.specs.declared.refusal.Refusal.TheVariants.{Bytes}

-- by the number of data bytes
abbrev pub longest : ℕ → ℕ
longest bytes = 55 + 10 * bytes

-- a frame has at most 8 data bytes
pub record LongestAsked (bytes : ℕ) (r : Result ℕ Refusal) : Type 0 where
  pub answered : bytes ≤ 8 → r ≡ Ok (longest bytes)
  pub refused : (bytes ≤ 8 → ⊥) → r ≡ Err Bytes
