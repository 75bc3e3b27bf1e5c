use Rattle.std.proofs.Common.{◌≡◌, ◌+◌, ◌-◌, ◌*◌, ◌/◌, ◌%◌, ap, ◌∙◌, arith}
use Rattle.sheet.specs.Sender.{span}
use Rattle.sheet.specs.Spanning.{span_given, span_turned}
use Rattle.sheet.proofs.sender.Sender.span.Goals as goal
use Rattle.sheet.proofs.sender.Sender.span.Goals.{then-later-eq0, else-later-eq0}

pub returns : goal.returns
returns c =
    let spans = c.args.self.now.spans in
    let q = c.args.arrivals in
    let over = (q - 1) % 7 in
    let rest : c.if-later-eq0.rest ≡ span spans (over + 1) =
    elim c.if-later-eq0.branch [
      | then-later-eq0 w ↦ w.rest-is ∙ ap (λ n. span spans (n + 1)) (let e : 0 ≡ over = omega (arith, w.if-later-eq0.true) in e)
      | else-later-eq0 w ↦ w.rest-is ∙ span_given spans (over - 1) (omega arith) ∙ ap (span spans) (let e : over - 1 + 2 ≡ over + 1 = omega (arith, w.if-later-eq0.false) in e)
    ] in
    let turned = span_turned spans ((q - 1) / 7) (over + 1) (omega arith) in
    let all = ap (span spans) (let e : (q - 1) / 7 * 7 + (over + 1) ≡ q = omega arith in e) in
    cc
