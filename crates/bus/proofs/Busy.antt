-- The busy time before an instance: at its beginning nothing urgent is left, and after that something urgent always is. Assumes nothing.
use Rattle.std.proofs.Common.{ℕ, ◌<◌, ◌≤◌, ◌⊎◌, List, length, ℤ, pos, ◌+ℤ◌, ◌≤ℤ◌, ◌<ℤ◌, subst, inl, inr, arith}
use Rattle.std.proofs.lemmas.Int.{ints}
use Rattle.std.proofs.lemmas.Bool.{cases_eq, cases_lt}
use Rattle.bus.specs.Meaning.{Meaning}
use Rattle.bus.specs.Run.{Instance, at, end, OnWire, IsRun}
use Rattle.bus.proofs.Moments.{cases_ltZ, last_moment}
use Rattle.bus.proofs.Finding.{Decided, at_most_or_not, before_or_not, both_or_not, least_below}

-- x is urgent, so no higher than stream i, was queued before t, and is not off the wire at t
pub record Pending (m : Meaning) (run : List Instance) (i : ℕ) (t : ℤ) (x : ℕ) : Type 0 where
  pub urgent : m.identifier (at run x).stream ≤ m.identifier i
  pub queued : (at run x).queued <ℤ t
  pub unsent : t <ℤ end run x

-- from s to the start of k
pub record Busy (m : Meaning) (run : List Instance) (i k : ℕ) (s : ℤ) : Type 0 where
  pub early : s ≤ℤ (at run k).start
  pub clear : (x : ℕ) → x < length run → Pending m run i s x → ⊥
  pub held : (t : ℤ) → s <ℤ t → t ≤ℤ (at run k).start → (x : ℕ) × (x < length run) × Pending m run i t x

module _ (m : Meaning) (run : List Instance) (i : ℕ) where
  pending_or_not : (t : ℤ) (x : ℕ) → Decided (Pending m run i t x)
  pending_or_not t x =
      elim (both_or_not (at_most_or_not (m.identifier (at run x).stream) (m.identifier i)) (both_or_not (before_or_not (at run x).queued t) (before_or_not t (end run x)))) [
        | inl holds ↦ inl (record { urgent = holds.0; queued = holds.1.0; unsent = holds.1.1 })
        | inr fails ↦ inr (λ h. fails (h.urgent, (h.queued, h.unsent)))
      ]

  clear_or_held : (t : ℤ) → ((x : ℕ) → x < length run → Pending m run i t x → ⊥) ⊎ ((x : ℕ) × (x < length run) × Pending m run i t x)
  clear_or_held t = elim (least_below (Pending m run i t) (pending_or_not t) (length run)) [ inl found ↦ inr (found.0, found.1, found.2) | inr none ↦ inl none ]

  -- each instance has a busy time before it, since nothing is pending before all are queued
  pub busy_before : (k : ℕ) → (s : ℤ) × Busy m run i k s
  busy_before k =
      let last = last_moment (λ t. (x : ℕ) → x < length run → Pending m run i t x → ⊥) (λ t. (x : ℕ) × (x < length run) × Pending m run i t x) clear_or_held (length run) (λ x. (at run x).queued) (at run k).start
      (λ u before x l pending. let o = before x l in let q = pending.queued in omega (arith, ints)) in
      (last.0, record { early = last.1; clear = last.2; held = last.3 })

module _ (m : Meaning) (run : List Instance) (r : IsRun run m) (i k : ℕ) (s : ℤ) (b : Busy m run i k s) where
  -- the wire is taken all the while
  pub taken : (t : ℤ) → s ≤ℤ t → t <ℤ (at run k).start → (y : ℕ) × (y < length run) × ((at run y).start ≤ℤ t) × (t <ℤ end run y)
  taken t after before =
      let h = b.held (t +ℤ pos 1) (omega (arith, ints)) (omega (arith, ints)) in
      let queued = h.2.queued in
      let unsent = h.2.unsent in
      elim (cases_ltZ t (at run h.0).start) [
        | inr sent ↦ (h.0, h.1, sent, omega (arith, ints))
        | inl waits ↦ elim (least_below (λ j. OnWire run j t) (λ j. both_or_not (before_or_not (at run j).start t) (before_or_not t (end run j))) (length run)) [
          | inl found ↦ let o = found.2.0 in (found.0, found.1, omega (arith, ints), found.2.1)
          | inr free ↦
              let next = r.eager t h.0 h.1 (omega (arith, ints), omega (arith, ints)) free in
              let e = next.2 in
              let some = r.some_bits next.0 next.1 in
              (next.0, next.1, omega (arith, ints), omega (arith, ints))
        ]
      ]

  -- and only urgent instances start
  pub starts_urgent : (y : ℕ) → y < length run → s ≤ℤ (at run y).start → (at run y).start <ℤ (at run k).start → m.identifier (at run y).stream ≤ m.identifier i
  starts_urgent y l after before =
      let h = b.held ((at run y).start +ℤ pos 1) (omega (arith, ints)) (omega (arith, ints)) in
      let urgent = h.2.urgent in
      let queued = h.2.queued in
      let unsent = h.2.unsent in
      elim (cases_ltZ (at run y).start (at run h.0).start) [
        | inl waits ↦ omega (arith, r.urgent y h.0 l h.1 (omega (arith, ints), omega (arith, ints)))
        | inr sent ↦ elim (cases_eq h.0 y) [
          | inl same ↦ subst (λ (z : ℕ). m.identifier (at run z).stream ≤ m.identifier i) same urgent
          | inr other ↦ absurd (let o = r.alone h.0 y h.1 l other sent in omega (arith, ints))
        ]
      ]

  -- an urgent instance that starts at or after s is queued at or after s
  pub queued_since : (y : ℕ) → y < length run → m.identifier (at run y).stream ≤ m.identifier i → s ≤ℤ (at run y).start → s ≤ℤ (at run y).queued
  queued_since y l urgent after = elim (cases_ltZ (at run y).queued s) [
    | inl before ↦ absurd (b.clear y l (record { urgent = urgent; queued = before; unsent = let some = r.some_bits y l in omega (arith, ints) }))
    | inr since ↦ since
  ]

  -- what is on the wire over s is not urgent
  pub blocks : (y : ℕ) → y < length run → (at run y).start <ℤ s → s <ℤ end run y → m.identifier i < m.identifier (at run y).stream
  blocks y l before over = elim (cases_lt (m.identifier i) (m.identifier (at run y).stream)) [
    | inl higher ↦ higher
    | inr urgent ↦ absurd (b.clear y l (record { urgent = urgent; queued = let q = r.after_queueing y l in omega (arith, ints); unsent = over }))
  ]
