use Rattle.std.proofs.Common.{◌∙◌, sym}
use Rattle.std.proofs.lemmas.Bool.{eqb-true}
use Rattle.engine.proofs.Nodes.{elsewhere_home, elsewhere_empty, elsewhere_more}
use Rattle.engine.proofs.stream.Stream.elsewhere.Goals as goal
use Rattle.engine.proofs.stream.Stream.elsewhere.Goals.{then-node-self+then-not-is_empty, then-node-self+else-not-is_empty, else-node-self}

pub loop-node-preserved : goal.loop-node-preserved
loop-node-preserved g c =
    let s = c.args.self.now in
    let m = g.T.Traffic.meaning s.traffic.now in
    let laws = g.met.T.Traffic.laws s.traffic.now in
    let n = c.loop-node.node in
    let so = c.loop-node.invariant in
    elim c.if-node-self.branch [
      | then-node-self+then-not-is_empty w ↦
          rw (w.groups-is, w.push.ensures.items) (elsewhere_more m laws s.number n s.known c.loop-node.groups.items so (λ e. w.if-node-self.true (e ∙ sym s.of_node)) w.gather-group.result w.gather-group.ensures c.loop-node-test.true)
      | then-node-self+else-not-is_empty w ↦
          rw w.groups-is (elsewhere_empty m laws s.number n s.known c.loop-node.groups.items so (λ e. w.if-node-self.true (e ∙ sym s.of_node)) w.gather-group.result w.gather-group.ensures (eqb-true _ 0 (sym w.is_empty.ensures ∙ w.if-not-is_empty.false)))
      | else-node-self w ↦ rw w.groups-is (elsewhere_home m laws s.number n s.known c.loop-node.groups.items so (w.if-node-self.false ∙ s.of_node))
    ]
