use Rattle.std.proofs.Common.{◌≡◌, min, ap, ◌∙◌, rules}
use borrow.Author.Tests.{tests}
use Rattle.std.specs.List.{filter, reduce, filter_map}
use Rattle.std.specs.Iterator.Adapters.{filter_callee}
use Rattle.std.specs.Option.{option_map}
use Rattle.std.proofs.lemmas.Iterator.{YieldsList-from_slice}
use Rattle.std.proofs.lemmas.Iterator.Adapters.{serves_from_places}
use Rattle.std.proofs.lemmas.Iterator.Consumers.{YieldsList-from_filter, YieldsList-from_filter_map, min_from_yields_List}
use Rattle.clock.specs.Timing.{Paced, FirstTurning}
use Rattle.plan.proofs.Turned.{own, next_of, next_is, own_paced, soonest}
use Rattle.plan.proofs.streams.soonest_turn.Goals as goal

pub min-requires-clause-can : goal.min-requires-clause-can
min-requires-clause-can c =
    let ss = c.args.streams.now in
    (search rules, search rules, serves_from_places (YieldsList-from_filter _ (own c.args.node c.args.phase) (YieldsList-from_slice ss cc) (ap filter_callee c.filter_map.ensures.source ∙ c.filter.ensures.closure) (λ x b q k. search (rules, tests))) (λ x q k. search rules) (λ x k inside is. let paced : Paced x.now.timing = own_paced c.args.node c.args.phase ss k x.now c.requires inside is in search rules))

pub returns : goal.returns
returns c =
    let n = c.args.node in
    let p = c.args.phase in
    let ss = c.args.streams.now in
    let least : option_map (λ x. x) c.min.result ≡ reduce min (filter_map (next_of n p) (filter (own n p) ss)) =
    min_from_yields_List c.filter_map.result c.min.result c.min.ensures.ran
    (YieldsList-from_filter_map _ (next_of n p)
    (YieldsList-from_filter _ (own n p) (YieldsList-from_slice ss cc) (ap filter_callee c.filter_map.ensures.source ∙ c.filter.ensures.closure) (λ x b q k. search (rules, tests))) c.filter_map.ensures.closure
    (λ x r q k. let first : FirstTurning x.now.timing x.now.jitter p r = search rules in (search rules, next_is n p x.now r first))) in
    soonest n p c.args.end ss _ (λ x b k. search (rules, tests)) _ (λ x y k. search rules) c.min.result c.filter-2.result c.map.result least c.filter-2.ensures c.map.ensures.cases
