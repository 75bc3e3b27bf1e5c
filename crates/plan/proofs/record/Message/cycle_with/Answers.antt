use Rattle.std.proofs.Common.{◌≡◌, true, leb, is_some, Some, None, IfSome, Option, sym, ap, ◌∙◌, subst, inl, inr, fold, arith, rules, ℕ}
use Rattle.std.proofs.lemmas.Bool.{and_parts, leb-true, leb-false}
use Rattle.clock.specs.Multiple.{lcm}
use Rattle.clock.proofs.Multiples.{lcm_told}
use Rattle.plan.specs.Record.{interval, intervals}
use Rattle.plan.specs.Cycle.{periods_in, CycleTold}
use Rattle.plan.specs.Limited.{fits, interval_some}
use Rattle.plan.proofs.record.Message.cycle_with.Goals as goal
use Rattle.plan.proofs.record.Message.cycle_with.Goals.{in-Sporadic, in-Periodic2}

told : (whole longer : ℕ) (cycle : Option ℕ) → is_some cycle ≡ leb longer 4194304 → IfSome cycle (λ x. x ≡ longer) → longer ≡ whole → CycleTold whole cycle
told whole longer (Some cycle) short same is = (same ∙ is, let h = leb-true longer 4194304 (sym short) in omega arith)
told whole longer None short same is = let h = leb-false longer 4194304 (sym short) in omega arith

pub returns : goal.returns
returns c =
    let kind = c.args.self.now.record.kind in
    let good : intervals kind ≡ true = (fits c.args.self.now.record c.args.self.now.within).intervals in
    let whole : c.match-self.longer ≡ fold lcm c.args.cycle (periods_in kind) = elim c.match-self.branch [
      | in-Sporadic w ↦ w.longer-is ∙ w.from-longer.ensures ∙ ap (λ k. fold lcm c.args.cycle (periods_in k)) (sym w.in-Sporadic.is)
      | in-Periodic2 w ↦ elim w.in-Periodic.is [
        | inl p ↦
            let some = interval_some w.in-Periodic.period (subst (λ k. intervals k ≡ true) p.1 good) in
            w.longer-is ∙ lcm_told c.args.cycle w.in-Periodic.period _ some w.lcm-longer.ensures.pair ∙ ap (λ k. fold lcm c.args.cycle (periods_in k)) (sym p.1)
        | inr m ↦
            let both = and_parts (interval w.in-Periodic.period) _ (subst (λ k. intervals k ≡ true) m.2 good) in
            let some = interval_some w.in-Periodic.period both.0 in
            w.longer-is ∙ lcm_told c.args.cycle w.in-Periodic.period _ some w.lcm-longer.ensures.pair ∙ ap (λ k. fold lcm c.args.cycle (periods_in k)) (sym m.2)
      ]
    ] in
    told _ c.match-self.longer c.then.result c.then.ensures.variant (search rules) whole
