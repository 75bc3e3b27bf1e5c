-- The frames that start in a window of the busy time, and what they fill. Assumes nothing.
use Rattle.std.proofs.Common.{◌≡◌, ℕ, zero, suc, ◌+◌, ◌*◌, ◌<◌, ◌≤◌, Bool, true, ◌&&◌, eqb, leb, List, length, ℤ, pos, ◌+ℤ◌, ◌≤ℤ◌, ◌<ℤ◌, refl, inl, inr, mul-le-mul_right, arith}
use lib.Signed.{lt_z, le_z}
use Rattle.std.proofs.lemmas.Int.{ints}
use Rattle.std.proofs.lemmas.Bool.{and_parts, and_from, le-leb, eqb-true, eq-eqb}
use Rattle.bus.specs.Sums.{sum_below, only}
use Rattle.bus.specs.Meaning.{Meaning}
use Rattle.bus.specs.Bound.{blocking}
use Rattle.bus.specs.Run.{Instance, at, IsRun}
use Rattle.bus.proofs.Adding.{sum_grows, sum_gains, only_yes, only_grows, only_within, only_implied}
use Rattle.bus.proofs.Growing.{upto}
use Rattle.bus.proofs.Moments.{cases_ltZ, lt_ltZ, ltZ_true, leZ_true, after}
use Rattle.bus.proofs.Blocking.{blocking_covers}
use Rattle.bus.proofs.Busy.{Busy, taken, starts_urgent, blocks}

-- y is of stream j and starts in the w moments from s on
pub record Starting (run : List Instance) (s : ℤ) (w j y : ℕ) : Type 0 where
  pub stream : (at run y).stream ≡ j
  pub since : s ≤ℤ (at run y).start
  pub before : (at run y).start <ℤ (s +ℤ pos w)

abbrev pub starting : List Instance → ℤ → ℕ → ℕ → ℕ → Bool
starting run s w j y = eqb (at run y).stream j && (le_z s (at run y).start && lt_z (at run y).start (s +ℤ pos w))

pub starting_true : (run : List Instance) (s : ℤ) (w j y : ℕ) → starting run s w j y ≡ true → Starting run s w j y
starting_true run s w j y e =
    let a = and_parts (eqb (at run y).stream j) (le_z s (at run y).start && lt_z (at run y).start (s +ℤ pos w)) e in
    let b = and_parts (le_z s (at run y).start) (lt_z (at run y).start (s +ℤ pos w)) a.1 in
    record { stream = eqb-true _ _ a.0; since = leZ_true _ _ b.0; before = ltZ_true _ _ b.1 }

pub true_starting : (run : List Instance) (s : ℤ) (w j y : ℕ) → Starting run s w j y → starting run s w j y ≡ true
true_starting run s w j y h = and_from _ _ (eq-eqb _ _ h.stream) (and_from _ _ (upto _ _ h.since) (lt_ltZ _ _ h.before))

-- how many do
abbrev pub started : List Instance → ℤ → ℕ → ℕ → ℕ
started run s w j = sum_below (length run) (λ y. only (starting run s w j y) 1)

-- the longest that the urgent ones may take
abbrev pub work : Meaning → List Instance → ℕ → ℤ → ℕ → ℕ
work m run i s w = sum_below m.streams (λ j. only (leb (m.identifier j) (m.identifier i)) (started run s w j * m.longest j))

module _ (run : List Instance) (s : ℤ) (v w : ℕ) (less : v < w) where
  starts_too : (j y : ℕ) → starting run s v j y ≡ true → starting run s w j y ≡ true
  starts_too j y e =
      let f = starting_true run s v j y e in
      let before = f.before in
      true_starting run s w j y (record { stream = f.stream; since = f.since; before = omega (arith, ints) })

  started_grows : (j : ℕ) → started run s v j ≤ started run s w j
  started_grows j = sum_grows (length run) _ _ (λ y _. only_implied (starting run s v j y) (starting run s w j y) 1 (starts_too j y))

  -- one more where an instance starts at the end of the smaller window
  started_more : (y : ℕ) → y < length run → (at run y).start ≡ (s +ℤ pos v) → started run s v (at run y).stream + 1 ≤ started run s w (at run y).stream
  started_more y l e =
      let j = (at run y).stream in
      let not_yet = only_within (starting run s v j y) 1 0 (λ t. absurd (let o = (starting_true run s v j y t).before in omega (arith, ints))) in
      let now-too = only_yes (starting run s w j y) 1 (true_starting run s w j y (record { stream = refl; since = omega (arith, ints); before = omega (arith, ints) })) in
      sum_gains (length run) (λ x. only (starting run s v j x) 1) (λ x. only (starting run s w j x) 1) y 1
      (λ x _. only_implied (starting run s v j x) (starting run s w j x) 1 (starts_too j x))
      l
      (omega arith)

  -- and the work is more by the longest of its frames
  work_more : (m : Meaning) (i y : ℕ) → y < length run → (at run y).stream < m.streams → m.identifier (at run y).stream ≤ m.identifier i → (at run y).start ≡ (s +ℤ pos v) → work m run i s v + m.longest (at run y).stream ≤ work m run i s w
  work_more m i y l known urgent e =
      let j = (at run y).stream in
      let yes = le-leb (m.identifier j) (m.identifier i) urgent in
      let one = only_yes (leb (m.identifier j) (m.identifier i)) (started run s v j * m.longest j) yes in
      let two = only_yes (leb (m.identifier j) (m.identifier i)) (started run s w j * m.longest j) yes in
      let more : (started run s v j + 1) * m.longest j ≤ started run s w j * m.longest j = mul-le-mul_right (m.longest j) (started_more y l e) in
      sum_gains m.streams (λ a. only (leb (m.identifier a) (m.identifier i)) (started run s v a * m.longest a)) (λ a. only (leb (m.identifier a) (m.identifier i)) (started run s w a * m.longest a)) j (m.longest j)
      (λ a _. only_grows (leb (m.identifier a) (m.identifier i)) _ _ (λ _. mul-le-mul_right (m.longest a) (started_grows a)))
      known
      (omega arith)

-- while the busy time lasts, what blocks and what starts fill it: the frame on the wire at the window's last moment blocks, or starts in it
module _ (m : Meaning) (run : List Instance) (r : IsRun run m) (i k : ℕ) (s : ℤ) (b : Busy m run i k s) where
  fills : (n v : ℕ) → v ≤ n → (s +ℤ pos v) ≤ℤ (at run k).start → v ≤ blocking m i + work m run i s v
  fills zero v h within = omega arith
  fills (suc n) zero h within = omega arith
  fills (suc n) (suc v) h within =
      let last = taken m run r i k s b (s +ℤ pos v) (omega (arith, ints)) (omega (arith, ints)) in
      let y = last.0 in
      let from = last.2 in
      let until = last.3 in
      let few = r.few_bits y last.1 in
      elim (cases_ltZ (at run y).start s) [
        | inl before ↦
            let covers = blocking_covers m i (at run y).stream (r.known y last.1) (blocks m run r i k s b y last.1 before (omega (arith, ints))) in
            omega (arith, ints)
        | inr since ↦
            let start = after s (at run y).start since in
            let e = start.1 in
            let before = fills n start.0 (omega (arith, ints)) (omega (arith, ints)) in
            let urgent = starts_urgent m run r i k s b y last.1 since (omega (arith, ints)) in
            let more = work_more run s start.0 (suc v) (omega (arith, ints)) m i y last.1 (r.known y last.1) urgent e in
            omega (arith, ints)
      ]

  pub filled : (v : ℕ) → (s +ℤ pos v) ≤ℤ (at run k).start → v ≤ blocking m i + work m run i s v
  filled v within = fills v v (omega arith) within
