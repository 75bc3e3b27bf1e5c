-- A moment's phase is one of its node's. Assumes nothing.
use Rattle.std.proofs.Common.{ℕ, ◌<◌, ◌≤◌, ℤ, pos, negsuc, ◌-ℤ◌, mod-lt, arith}
use Rattle.bus.specs.Meaning.{Meaning, Limits}
use Rattle.bus.specs.Run.{reduced, phase_of}

pub reduced_below : (c : ℕ) (z : ℤ) → 1 ≤ c → reduced c z < c
reduced_below c (pos n) h = mod-lt n h
reduced_below c (negsuc n) h = omega arith

pub phase_below : (m : Meaning) → Limits m → (base : ℕ → ℤ) (n : ℕ) (s : ℤ) → n < 16 → phase_of m base n s < m.cycle n
phase_below m limits base n s h = reduced_below (m.cycle n) (s -ℤ base n) (limits.some_phase n h)
