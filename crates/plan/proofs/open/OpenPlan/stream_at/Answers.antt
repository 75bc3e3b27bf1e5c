use Rattle.plan.specs.Held.{held}
use Rattle.plan.specs.Plans.{sound}
use Rattle.plan.proofs.Found.{found_node, phase_past}
use Rattle.plan.proofs.open.OpenPlan.stream_at.Goals as goal

pub bounds-self-stream : goal.bounds-self-stream
bounds-self-stream c = found_node (held c.args.self.now) c.args.number (sound c.args.self.now) c.in_ok-stream.stream c.in_ok-stream.ensures

pub returns-then-phase-self : goal.returns-then-phase-self
returns-then-phase-self c =
    let rs = held c.args.self.now in
    let s = sound c.args.self.now in
    let below = found_node rs c.args.number s c.in_ok-stream.stream c.in_ok-stream.ensures in
    phase_past rs c.args.number s c.in_ok-stream.stream c.in_ok-stream.ensures c.args.phase _ (c.args.self.now.works.cycled c.in_ok-stream.stream.node below) c.if-phase-self.true
