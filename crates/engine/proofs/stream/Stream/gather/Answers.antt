use Rattle.std.proofs.Common.{◌≡◌, sym, ◌∙◌, arith}
use Rattle.engine.specs.Group.{rival}
use Rattle.engine.proofs.Gathering.{gathered_more, gathered_past}
use Rattle.engine.proofs.stream.Stream.gather.Goals as goal
use Rattle.engine.proofs.stream.Stream.gather.Goals.{then-is_rival, else-is_rival}

pub loop-other-preserved : goal.loop-other-preserved
loop-other-preserved g c =
    let m = g.T.Traffic.meaning c.args.self.now.traffic.now in
    let i = c.args.self.now.number in
    let is : c.is_rival.result ≡ rival m i c.args.node c.loop-other.other = c.is_rival.ensures in
    elim c.if-is_rival.branch [
      | then-is_rival w ↦
          let more = gathered_more m i c.args.node c.loop-other.other c.loop-other.streams.items (sym is ∙ w.if-is_rival.true) (omega arith) c.loop-other.invariant in
          rw (w.streams-is, w.push.ensures.items) more
      | else-is_rival w ↦ rw w.streams-is (gathered_past m i c.args.node c.loop-other.other c.loop-other.streams.items (sym is ∙ w.if-is_rival.false) c.loop-other.invariant)
    ]
