use Rattle.std.proofs.Common.{◌+◌, ◌-◌, length, drop, sym, subst, arith, length-drop}
use Rattle.std.proofs.lemmas.List.{take_all}
use Rattle.plan.specs.Held.{held}
use Rattle.table.proofs.Taking.{Taken, taken_more}
use Rattle.table.proofs.table.read_table.Goals as goal

pub loop-rest-preserved : goal.loop-rest-preserved
loop-rest-preserved c =
    let rest = c.loop-rest.rest.now in
    let next = c.in_ok-next.next in
    subst (λ left. Taken (held c.args.plan.now) c.args.text.now left (c.loop-rest.line + 1) (held c.enter_line.new.plan)) (sym (take_all (length rest - next) (drop next rest) (omega (arith, length-drop next rest))))
    (taken_more _ _ _ _ _ _ _ c.loop-rest.invariant c.in_ok-next.ensures)
