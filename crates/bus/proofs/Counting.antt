-- How many instances of a stream start in a window of the busy time. Assumes nothing.
use Rattle.std.proofs.Common.{◌≡◌, ℕ, ◌+◌, ◌<◌, ◌≤◌, true, List, length, ℤ, pos, ◌+ℤ◌, ◌≤ℤ◌, ◌<ℤ◌, sym, refl, ap, ◌∙◌, subst, inl, inr, arith}
use Rattle.std.proofs.lemmas.Int.{ints}
use Rattle.bus.specs.Sums.{only}
use Rattle.bus.specs.Meaning.{Meaning, Limits, Laws, count}
use Rattle.bus.specs.Run.{Instance, at, leads, ahead, IsRun, phase_of, Keeps}
use Rattle.bus.proofs.Adding.{sum_grows, sum_gains, sum_but_one, sum_at_most, only_yes, only_at_most, only_within, only_implied}
use Rattle.bus.proofs.Growing.{later, count_has}
use Rattle.bus.proofs.Finding.{is_or_not, last_below}
use Rattle.bus.proofs.Phases.{phase_below}
use Rattle.bus.proofs.Leading.{leads_true, true_leads}
use Rattle.bus.proofs.Busy.{Busy, queued_since}
use Rattle.bus.proofs.Filling.{starting, starting_true, true_starting, started}

module _ (m : Meaning) (run : List Instance) (r : IsRun run m) (i k : ℕ) (s : ℤ) (b : Busy m run i k s) where
  -- what starts in the busy time, and before y, is ahead of y
  starts_ahead : (w j x y : ℕ) → x < length run → m.identifier j ≤ m.identifier i → (at run y).stream ≡ j → (at run x).start <ℤ (at run y).start → starting run s w j x ≡ true → leads run s y x ≡ true
  starts_ahead w j x y l urgent e before t =
      let f = starting_true run s w j x t in
      let level : m.identifier (at run x).stream ≤ m.identifier i = omega (arith, ap m.identifier f.stream) in
      true_leads run s y x (record { stream = f.stream ∙ sym e; queued = queued_since m run r i k s b x l level f.since; before = before })

  -- all those that start in a window are ahead of the last of them, but for itself
  started_last : (w j y : ℕ) → m.identifier j ≤ m.identifier i → y < length run → (at run y).stream ≡ j → ((x : ℕ) → x < length run → starting run s w j x ≡ true → (at run x).start ≤ℤ (at run y).start) → started run s w j ≤ ahead run s y + 1
  started_last w j y urgent l e last =
      sum_but_one (length run) (λ x. only (starting run s w j x) 1) (λ x. only (leads run s y x) 1) y 1
      (λ x lx other. only_implied (starting run s w j x) (leads run s y x) 1 (λ t.
      let alone = r.alone x y lx l other (last x lx t) in
      let some = r.some_bits x lx in
      starts_ahead w j x y lx urgent e (omega (arith, ints)) t))
      (omega (arith, only_at_most (starting run s w j y) 1))

  -- those of k's stream that start before k are ahead of k
  pub started_before : (w : ℕ) → m.identifier (at run k).stream ≤ m.identifier i → (s +ℤ pos w) <ℤ (at run k).start → started run s (w + 1) (at run k).stream ≤ ahead run s k
  started_before w urgent after =
      sum_grows (length run) _ _ (λ x lx. only_implied (starting run s (w + 1) (at run k).stream x) (leads run s k x) 1 (λ t.
      let before = (starting_true run s (w + 1) (at run k).stream x t).before in
      starts_ahead (w + 1) (at run k).stream x k lx urgent refl (omega (arith, ints)) t))

  -- where k starts in the window, so do all that are ahead of it
  pub started_after : (w : ℕ) → k < length run → (at run k).start ≤ℤ (s +ℤ pos w) → ahead run s k + 1 ≤ started run s (w + 1) (at run k).stream
  started_after w l within =
      let j = (at run k).stream in
      let early = b.early in
      let not-ahead = only_within (leads run s k k) 1 0 (λ t. absurd (let before = (leads_true run s k k t).before in omega (arith, ints))) in
      let starts = only_yes (starting run s (w + 1) j k) 1 (true_starting run s (w + 1) j k (record { stream = refl; since = early; before = omega (arith, ints) })) in
      sum_gains (length run) (λ x. only (leads run s k x) 1) (λ x. only (starting run s (w + 1) j x) 1) k 1
      (λ x lx. only_implied (leads run s k x) (starting run s (w + 1) j x) 1 (λ t.
      let f = leads_true run s k x t in
      let queued = f.queued in
      let before = f.before in
      let waits = r.after_queueing x lx in
      true_starting run s (w + 1) j x (record { stream = f.stream; since = omega (arith, ints); before = omega (arith, ints) })))
      l
      (omega arith)

  module _ (limits : Limits m) (laws : Laws m) (base : ℕ → ℤ) (keeps : Keeps m base run) where
    -- the places of those that start in a window lie in it, since the last of them arrived no later than it starts
    pub placed : (w j q : ℕ) → j < m.streams → m.identifier j ≤ m.identifier i → 1 ≤ q → q ≤ started run s (w + 1) j → m.place j (phase_of m base (m.node j) s) q ≤ℤ pos w
    placed w j q known urgent some few =
        elim (last_below (λ y. starting run s (w + 1) j y ≡ true) (λ y. is_or_not (starting run s (w + 1) j y)) (λ y. (at run y).start) (length run)) [
          | inl last ↦
              let y = last.0 in
              let f = starting_true run s (w + 1) j y last.2 in
              let before = f.before in
              let most = started_last (w + 1) j y urgent last.1 f.stream last.3 in
              let level : m.identifier (at run y).stream ≤ m.identifier i = omega (arith, ap m.identifier f.stream) in
              let kept = keeps s y last.1 (queued_since m run r i k s b y last.1 level f.since) in
              let here : (s +ℤ m.place j (phase_of m base (m.node j) s) (ahead run s y + 1)) ≤ℤ (at run y).arrival = subst (λ (z : ℕ). (s +ℤ m.place z (phase_of m base (m.node z) s) (ahead run s y + 1)) ≤ℤ (at run y).arrival) f.stream kept in
              let grown = later m laws j (phase_of m base (m.node j) s) known (phase_below m limits base (m.node j) s (limits.node_below j known)) q (ahead run s y + 1) some (omega arith) in
              let arrives = r.after_arrival y last.1 in
              let waits = r.after_queueing y last.1 in
              omega (arith, ints)
          | inr none ↦
              let zero = sum_at_most (length run) 0 (λ y. only (starting run s (w + 1) j y) 1) (λ y l. only_within (starting run s (w + 1) j y) 1 0 (λ t. absurd (none y l t))) in
              absurd (omega arith)
        ]

    pub started_counted : (w j : ℕ) → j < m.streams → m.identifier j ≤ m.identifier i → started run s (w + 1) j ≤ count m j (phase_of m base (m.node j) s) w
    started_counted w j known urgent =
        count_has m laws j (phase_of m base (m.node j) s) w (started run s (w + 1) j) known (phase_below m limits base (m.node j) s (limits.node_below j known))
        (λ some. placed w j (started run s (w + 1) j) known urgent some (omega arith))
