-- The bound of a stream, computed at phase 0 and the turning phases. Assumes nothing.
use Rattle.std.proofs.Common.{ℕ, zero, suc, ◌+◌, ◌-◌, ◌*◌, max, cond, not, eqb, leb, pos, ◌-ℤ◌, nat_abs, Some, None, Option}
use lib.Signed.{le_z}
use Rattle.bus.specs.Sums.{sum_below, only}
use Rattle.bus.specs.Meaning.{Meaning}
use Rattle.bus.specs.Bound.{horizon, blocking, demand, own}
use Rattle.worked.proofs.Walking.{walk}

-- None stands for what was not found
abbrev pub larger : Option ℕ → Option ℕ → Option ℕ
larger (Some a) (Some b) = Some (max a b)
larger (Some a) None = None
larger None y = None

module _ (m : Meaning) (i : ℕ) where
  -- the heaviest demand of a node
  abbrev pub peak : ℕ → ℕ → ℕ
  peak n w = walk m n (λ most p. max most (demand m i n p w)) (m.cycle n - 1) 1 (demand m i n 0 w)

  -- what may be sent before instance q in a window of w
  abbrev pub asks : ℕ → ℕ → ℕ → ℕ
  asks p q w = blocking m i + sum_below 16 (λ n. only (not (eqb n (m.node i))) (peak n w)) + own m i p w + (q - 1) * m.longest i

  abbrev pub wait : ℕ → ℕ → ℕ → ℕ
  wait p q w = nat_abs (pos (w + m.longest i) -ℤ m.place i p q)

  -- instance q at the window w, which asks for n: on to the next instance, to the end, or to a longer window
  abbrev pub turn : ℕ → (ℕ → ℕ → ℕ → Option ℕ) → ℕ → ℕ → ℕ → ℕ → Option ℕ
  turn p again q w most n =
      cond (leb n w)
      (cond (le_z (m.place i p q) (pos w)) (again (q + 1) w (max most (wait p q w))) (Some most))
      (cond (leb n horizon) (again q n most) None)

  -- the largest response at the phase p, in so many turns
  abbrev pub worst : ℕ → ℕ → ℕ → ℕ → ℕ → Option ℕ
  worst zero p q w most = None
  worst (suc turns) p q w most = turn p (worst turns p) q w most (asks p q w)

  abbrev pub worst_at : ℕ → Option ℕ
  worst_at p = worst 100 p 1 (blocking m i) 0

  abbrev pub computed : Option ℕ
  computed = walk m (m.node i) (λ most p. larger most (worst_at p)) (m.cycle (m.node i) - 1) 1 (worst_at 0)
