-- Instances that are queued later keep the delayed places. Assumes nothing.
use Rattle.std.proofs.Common.{◌≡◌, ℕ, ◌+◌, ◌<◌, ◌≤◌, List, length, ℤ, pos, ◌+ℤ◌, ◌-ℤ◌, ◌≤ℤ◌, sym, ap, ◌∙◌, subst, arith}
use Rattle.std.proofs.lemmas.Int.{ints}
use Rattle.bus.specs.Sums.{sum_below, only}
use Rattle.bus.specs.Meaning.{Meaning, Limits, Laws}
use Rattle.bus.specs.Run.{Instance, at, leads, ahead, reduced, phase_of}
use Rattle.bus.proofs.Adding.{sum_grows, only_implied}
use Rattle.bus.proofs.Growing.{later}
use Rattle.bus.proofs.Leading.{leads_true, true_leads}
use Rattle.bus.proofs.Phases.{phase_below}
use Rattle.delay.specs.Delayed.{delayed, earlier, Later, DelaysHold}
use Rattle.delay.specs.Reducing.{reduced_twice}

module _ (m : Meaning) (delay : ℕ → ℕ) (run late : List Instance) (queued : Later m delay run late) where
  -- no more lead k, from s on, than led it from the delay before s on
  ahead_grows : (s : ℤ) (k : ℕ) → k < length run → ahead late s k ≤ ahead run (s -ℤ pos (delay (m.node (at run k).stream))) k
  ahead_grows s k h =
      let e : ℕ = delay (m.node (at run k).stream) in
      subst (λ n. sum_below n (λ j. only (leads late s k j) 1) ≤ ahead run (s -ℤ pos e) k) (sym queued.as_many)
      (sum_grows (length run) _ _ (λ j l. only_implied (leads late s k j) (leads run (s -ℤ pos e) k j) 1 (λ yes.
      let led = leads_true late s k j yes in
      let since = led.queued in
      let stream : (at run j).stream ≡ (at run k).stream = sym (queued.same_stream j l) ∙ led.stream ∙ queued.same_stream k h in
      let time = subst (λ i. (at late j).queued ≤ℤ ((at run j).queued +ℤ pos (delay (m.node i)))) stream (queued.in_time j l) in
      true_leads run (s -ℤ pos e) k j (record { stream = stream; queued = omega (arith, ints); before = queued.same_order j k l h stream led.before }))))

pub delays_hold : (m : Meaning) → Limits m → Laws m → (delay : ℕ → ℕ) → DelaysHold m delay (delayed m delay)
delays_hold m limits laws delay base run late known keeps queued s k h since =
    let l : k < length run = subst (λ n. k < n) queued.as_many h in
    let i : ℕ = (at run k).stream in
    let n : ℕ = m.node i in
    let node : n < 16 = limits.node_below i (known k l) in
    let e : ℕ = delay n in
    let from : ℤ = s -ℤ pos e in
    let p : ℕ = phase_of m base n from in
    let q : ℕ = ahead late s k + 1 in
    let time = queued.in_time k l in
    let arrival = queued.same_arrival k l in
    let kept = keeps from k l (omega (arith, ints)) in
    let more : ahead late s k ≤ ahead run from k = ahead_grows m delay run late queued s k l in
    let place = later m laws i p (known k l) (phase_below m limits base n from node) q (ahead run from k + 1) (omega arith) (omega arith) in
    let phase : earlier m delay n (phase_of m base n s) ≡ p = reduced_twice (m.cycle n) (s -ℤ base n) e (limits.some_phase n node) ∙ ap (reduced (m.cycle n)) (omega (arith, ints)) in
    subst (λ j. (s +ℤ (m.place j (earlier m delay (m.node j) (phase_of m base (m.node j) s)) q -ℤ pos (delay (m.node j)))) ≤ℤ (at late k).arrival) (sym (queued.same_stream k l))
    (subst (λ y. (s +ℤ (m.place i y q -ℤ pos e)) ≤ℤ (at late k).arrival) (sym phase) (omega (arith, ints)))
