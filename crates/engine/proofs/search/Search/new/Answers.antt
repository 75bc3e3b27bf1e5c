use Rattle.std.proofs.Common.{None}
use Rattle.std.proofs.lemmas.List.Elements.{All-replicate}
use Rattle.engine.specs.Kept.{IsRight}
use Rattle.engine.proofs.search.Search.new.Goals as goal

pub invariant_of-result : goal.invariant_of-result
invariant_of-result g c =
    let s = c.args.profile.stream in
    record { keeps = All-replicate (IsRight (g.T.Traffic.meaning s.traffic.now) s.number) 256 None (tt {0}) }
