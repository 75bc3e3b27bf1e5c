-- A run that keeps the declarations keeps the places. Assumes nothing.
use Rattle.std.proofs.Common.{◌≡◌, ℕ, zero, suc, ◌+◌, ◌-◌, ◌*◌, ◌/◌, ◌<◌, ◌≤◌, true, List, length, ℤ, pos, negsuc, ◌+ℤ◌, ◌-ℤ◌, ◌≤ℤ◌, ◌<ℤ◌, sym, refl, ap, ◌∙◌, inl, inr, mul-le-mul_right, mul_assoc, mul_comm, add-mul, arith}
use Rattle.std.proofs.lemmas.Nat.{div-add-mod', mod_below}
use Rattle.std.proofs.lemmas.Int.{ints}
use Rattle.std.proofs.lemmas.Bool.{cases_lt}
use Rattle.bus.specs.Sums.{only}
use Rattle.bus.specs.Meaning.{Meaning}
use Rattle.bus.specs.Run.{Instance, at, leads, ahead, GoesBefore, IsRun, reduced}
use Rattle.bus.proofs.Adding.{sum_at_most, sum_but_one, only_implied, only_within, only_at_most}
use Rattle.bus.proofs.Finding.{is_or_not, last_below}
use Rattle.bus.proofs.Leading.{leads_true, true_leads}
use Rattle.bus.proofs.Moments.{cases_ltZ}
use Rattle.clock.specs.declared.timing.Timing.{Timing}
use Rattle.clock.specs.declared.timing.Timing.TheVariants.{Timed, Event}
use Rattle.clock.specs.Multiple.{Divides}
use Rattle.clock.specs.Timing.{Paced, place_of, MultipleOf}
use Rattle.clock.proofs.Firsts.{multiple_between, first_places}
use Rattle.clock.proofs.Placed.{Cycles}
use Rattle.plan.specs.declared.record.Record.{Record}
use Rattle.plan.specs.declared.streams.Stream.{Stream}
use Rattle.plan.specs.Cycle.{cycle_of}
use Rattle.plan.specs.Streams.{stream_at, traffic_of}
use Rattle.plan.specs.Kept.{Sound, cycle_some}
use Rattle.plan.specs.Carried.{known}
use Rattle.runs.specs.Declarations.{Of, Arrivals, Queueing, DeclaredKept}

-- ---- phases

-- z reduced into the cycle differs from z by whole cycles
reduced_is : (c : ℕ) (z : ℤ) → 1 ≤ c → (a : ℕ) × (b : ℕ) × (pos (reduced c z + a * c) ≡ (z +ℤ pos (b * c)))
reduced_is c (pos n) h = (n / c, 0, (let e = div-add-mod' n c in omega (arith, ints)))
reduced_is c (negsuc n) h = (0, n / c + 1, (let e = div-add-mod' n c in let l = mod_below n c h in let s = add-mul (n / c) 1 c in omega (arith, ints)))

-- an arrival n periods past the offset meets the period from the phase of s on
meets_from : (c period offset n : ℕ) (base s arrival : ℤ) → 1 ≤ c → Divides period c → arrival ≡ (base +ℤ pos (offset + n * period))
    → MultipleOf period ((pos (reduced c (s -ℤ base)) +ℤ (arrival -ℤ s)) -ℤ pos offset)
meets_from c period offset n base s arrival some (k, e) comes =
    let r = reduced_is c (s -ℤ base) some in
    let a : ℕ = r.0 in
    let b : ℕ = r.1 in
    let is = r.2 in
    let whole : (x : ℕ) → x * c ≡ x * k * period = (λ x. ap (λ y. x * y) (e ∙ mul_comm period k) ∙ sym (mul_assoc x k period)) in
    let wa = whole a in
    let wb = whole b in
    let both = add-mul n (b * k) period in
    multiple_between period (a * k) (n + b * k) _ (omega (arith, ints))

-- ---- places

-- a period or a gap
abbrev pace : Timing → ℕ
pace (Timed period offset) = period
pace (Event gap) = gap

place_climbs : (t : Timing) (jitter p n : ℕ) → place_of t jitter p (n + 1) ≡ place_of t jitter p 1 +ℤ pos (n * pace t)
place_climbs (Timed period offset) jitter p n = let e : (n + 1 - 1) * period ≡ n * period = ap (λ x. x * period) (omega arith) in omega (arith, ints)
place_climbs (Event gap) jitter p n = let e : (n + 1 - 1) * gap ≡ n * gap = ap (λ x. x * gap) (omega arith) in omega (arith, ints)

-- ---- instances of a stream

module _ (run : List Instance) (i : ℕ) where
  -- no two start together
  abbrev StartsApart : Type 0
  StartsApart = (j k : ℕ) → Of run i j → Of run i k → (j ≡ k → ⊥) → (at run j).start ≤ℤ (at run k).start → (at run j).start <ℤ (at run k).start

  -- each arrives at least the gap after any that starts before it
  abbrev Spaced : ℕ → Type 0
  Spaced gap = (j k : ℕ) → Of run i j → Of run i k → (at run j).start <ℤ (at run k).start → ((at run j).arrival +ℤ pos gap) ≤ℤ (at run k).arrival

  -- none that is queued at or after s arrived before low
  abbrev From : ℤ → ℤ → Type 0
  From s low = (k : ℕ) → Of run i k → s ≤ℤ (at run k).queued → low ≤ℤ (at run k).arrival

  module _ (gap : ℕ) (s low : ℤ) (alone : StartsApart) (spaced : Spaced gap) (from : From s low) where
    -- all that are ahead of k are ahead of the last of them, but for itself
    ahead_last : (y k : ℕ) → Of run i y → Of run i k → ((x : ℕ) → x < length run → leads run s k x ≡ true → (at run x).start ≤ℤ (at run y).start) → ahead run s k ≤ ahead run s y + 1
    ahead_last y k oy ok last =
        sum_but_one (length run) (λ x. only (leads run s k x) 1) (λ x. only (leads run s y x) 1) y 1
        (λ x l other. only_implied (leads run s k x) (leads run s y x) 1 (λ t.
        let f = leads_true run s k x t in
        let ox : Of run i x = (l, f.stream ∙ ok.1) in
        true_leads run s y x (record { stream = ox.1 ∙ sym oy.1; queued = f.queued; before = alone x y ox oy other (last x l t) })))
        (omega (arith, only_at_most (leads run s k y) 1))

    -- with n ahead of it an instance arrives at least n gaps after low
    climbs : (n k : ℕ) → Of run i k → s ≤ℤ (at run k).queued → n ≤ ahead run s k → (low +ℤ pos (n * gap)) ≤ℤ (at run k).arrival
    climbs zero k ok since h = let f = from k ok since in omega (arith, ints)
    climbs (suc n) k ok since h = elim (last_below (λ x. leads run s k x ≡ true) (λ x. is_or_not (leads run s k x)) (λ x. (at run x).start) (length run)) [
      | inl f ↦
          let y : ℕ = f.0 in
          let g = leads_true run s k y f.2 in
          let oy : Of run i y = (f.1, g.stream ∙ ok.1) in
          let few = ahead_last y k oy ok f.3 in
          let before = climbs n y oy g.queued (omega arith) in
          let step = spaced y k oy ok g.before in
          let e = add-mul n 1 gap in
          omega (arith, ints)
      | inr none ↦
          let nobody = sum_at_most (length run) 0 (λ x. only (leads run s k x) 1) (λ x l. only_within (leads run s k x) 1 0 (λ t. absurd (none x l t))) in
          absurd (omega arith)
    ]

-- ---- as declared

module _ (m : Meaning) (run : List Instance) (r : IsRun run m) (i jitter : ℕ) (q : Queueing run i jitter) (base : ℤ) where
  starts_apart : StartsApart run i
  starts_apart j k oj ok other h = let e = r.alone j k oj.0 ok.0 other h in let b = r.some_bits j oj.0 in omega (arith, ints)

  -- what starts earlier arrived no later
  arrives_before : (j k : ℕ) → Of run i j → Of run i k → (at run j).start <ℤ (at run k).start → (at run j).arrival ≤ℤ (at run k).arrival
  arrives_before j k oj ok h = elim (cases_ltZ (at run k).arrival (at run j).arrival) [
    | inl later ↦
        let o = q.in_order k j ok oj later in
        let before : GoesBefore run k j = elim (cases_ltZ (at run k).queued (at run j).queued) [ inl sooner ↦ inl sooner | inr same ↦ inr (omega (arith, ints), inl later) ] in
        let turned = r.in_order k j ok.0 oj.0 (ok.1 ∙ sym oj.1) before in
        absurd (omega (arith, ints))
    | inr no-later ↦ no-later
  ]

  other_than : (j k : ℕ) → (at run j).start <ℤ (at run k).start → j ≡ k → ⊥
  other_than j k h e = let f = ap (λ x. (at run x).start) e in omega (arith, ints)

  spaced : (t : Timing) → Arrivals run i base t → Spaced run i (pace t)
  spaced (Timed period offset) a j k oj ok h =
      let l = arrives_before j k oj ok h in
      let x = a.comes j oj in
      let y = a.comes k ok in
      let ej = x.1 in
      let ek = y.1 in
      elim (cases_lt x.0 y.0) [
        | inl less ↦
            let next : x.0 + 1 ≤ y.0 = omega arith in
            let w = mul-le-mul_right period next in
            let e = add-mul x.0 1 period in
            omega (arith, ints)
        | inr more ↦
            let w = mul-le-mul_right period more in
            let same : (at run j).arrival ≡ (at run k).arrival = omega (arith, ints) in
            absurd (other_than j k h (a.once j k y.0 oj ok (same ∙ ek) ek))
      ]
  spaced (Event gap) a j k oj ok h = a.apart j k oj ok (other_than j k h) (arrives_before j k oj ok h)

  -- the first place is counted from s on
  from_first : (c : ℕ) (t : Timing) (s : ℤ) → 1 ≤ c → Paced t → Cycles c t → Arrivals run i base t → From run i s (s +ℤ place_of t jitter (reduced c (s -ℤ base)) 1)
  from_first c (Timed period offset) s some paced cycles a k ok since =
      let p : ℕ = reduced c (s -ℤ base) in
      let x = a.comes k ok in
      let soon = q.soon k ok in
      let least = (first_places period offset jitter p paced).least ((at run k).arrival -ℤ s) (omega (arith, ints)) (meets_from c period offset x.0 base s (at run k).arrival some cycles x.1) in
      omega (arith, ints)
  from_first c (Event gap) s some paced cycles a k ok since = let soon = q.soon k ok in omega (arith, ints)

pub declared_kept : (records : List Record) → Sound records → DeclaredKept records
declared_kept records sound base run r keeps s k l since =
    let m : Meaning = traffic_of records in
    let i : ℕ = (at run k).stream in
    let x : Stream = stream_at records i in
    let t : Timing = x.timing in
    let b : ℤ = base x.node in
    let c : ℕ = cycle_of x.node records in
    let is = known records sound i (r.known k l) in
    let kept = keeps i (r.known k l) in
    let q = kept.queueing in
    let a = kept.arrivals in
    let from = from_first m run r i x.jitter q b c t s (cycle_some x.node records sound.within) is.paced is.cycled a in
    let up = climbs run i (pace t) s _ (starts_apart m run r i x.jitter q b) (spaced m run r i x.jitter q b t a) from (ahead run s k) k (l, refl) since (omega arith) in
    let place = place_climbs t x.jitter (reduced c (s -ℤ b)) (ahead run s k) in
    omega (arith, ints)
