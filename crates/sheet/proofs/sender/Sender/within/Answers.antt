use Rattle.std.proofs.Common.{◌≡◌, ◌+◌, ◌*◌, ◌/◌, ◌%◌, ◌<◌, leb, length, get_or, ap, mod-lt, div-add-mod', arith, rules}
use Rattle.std.proofs.lemmas.List.Sorted.{IsPartitionPoint-from_clause, IsPartitionedBy-leb}
use Rattle.sheet.specs.Sender.{span}
use Rattle.sheet.specs.Spanning.{span_turned}
use Rattle.sheet.specs.Limited.{fit}
use Rattle.sheet.proofs.Rising.{rising_sorted, cut}
use Rattle.sheet.proofs.sender.Sender.within.Goals as goal

pub returns : goal.returns
returns c =
    let spans = c.args.self.now.spans in
    let span_of_all = c.args.length in
    let turn = get_or spans 6 0 in
    let rest = span_of_all % turn in
    let more = c.partition_point-more.result in
    let f = fit c.args.self.now c.requires.0 in
    let seven : length spans ≡ 7 = search rules in
    let long : 0 < turn = (let up = f.rising 6 (omega arith) in omega arith) in
    let point = IsPartitionPoint-from_clause (λ y. leb y rest) _ _ c.partition_point-more.ensures.partitioned (IsPartitionedBy-leb (λ y. y) spans rest (rising_sorted spans seven f.rising)) (λ a r q k. search rules) in
    let parted = cut spans seven rest more c.partition_point-more.ensures.bound (mod-lt span_of_all long) point in
    let low = parted.0 in
    let high = parted.1 in
    let parts = div-add-mod' span_of_all turn in
    let here = span_turned spans (span_of_all / turn) (more + 1) (omega arith) in
    let next = span_turned spans (span_of_all / turn) (more + 2) (omega arith) in
    let at = ap (span spans) (let e : span_of_all / turn * 7 + (more + 1) ≡ span_of_all / turn * 7 + 1 + more = omega arith in e) in
    let on = ap (span spans) (let e : span_of_all / turn * 7 + (more + 2) ≡ span_of_all / turn * 7 + 1 + more + 1 = omega arith in e) in
    record { some = omega arith; last = omega arith; next = omega arith }
