use Rattle.std.proofs.Common.{◌+◌, ◌*◌, ◌≤◌, ◌∙◌, arith}
use Rattle.bus.proofs.Loads.{blocking_at_most, others_at_most, own_at_most, earlier_at_most}
use Rattle.engine.proofs.search.Search.need.Given as given
use Rattle.engine.proofs.search.Search.need.Goals as goal
use Rattle.engine.proofs.search.Search.need.Goals.{After-from-3}

-- what is added up fits
total : (g : given.Over) (c : After-from-3 g) → (c.from-3.result + c.recall-others.result + c.own-own.result + c.from.result * c.from-2.result) ≤ 18446744073709551615
total g c =
    let p = c.args.self.now.profile in
    let s = p.stream in
    let m = g.T.Traffic.meaning s.traffic.now in
    let limits = g.met.T.Traffic.limits s.traffic.now in
    let w = c.args.window.bits in
    let same = c.recall-others.ensures.same in
    let others-is = c.recall-others.ensures.value in
    let own_is = rw same at c.own-own.ensures in
    let block-is = (rw same at c.from-3.ensures) ∙ p.blocks in
    let long-is = (rw same at c.from-2.ensures) ∙ s.long in
    let earlier : c.from.result * c.from-2.result ≤ 838861000 = rw (c.from.ensures, long-is) (earlier_at_most m limits s.number c.args.instance s.known c.requires.few) in
    let fits : w + m.reach ≤ 20971520 = omega (arith, limits.reach_fits, c.args.window.within) in
    omega (arith, blocking_at_most m limits s.number, others_at_most m limits s.number w fits, own_at_most m limits s.number c.args.phase w fits)

pub overflow_add-result : goal.overflow_add-result
overflow_add-result g c = omega (arith, total g c)

pub overflow_add-result-2 : goal.overflow_add-result-2
overflow_add-result-2 g c = omega (arith, total g c)

pub overflow_add-result-3 : goal.overflow_add-result-3
overflow_add-result-3 g c = omega (arith, total g c)
