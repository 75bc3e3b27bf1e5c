use Rattle.std.proofs.Common.{ℕ, max, sym, ap, ◌∙◌, rules}
use Rattle.std.specs.Option.{unwrap_or}
use Rattle.std.proofs.lemmas.Iterator.{YieldsList-from_slice, YieldsList-from_map}
use Rattle.std.proofs.lemmas.Iterator.Consumers.{reduce_from_yields_List}
use Rattle.std.proofs.lemmas.List.Folds.{fold-map, max_of_map}
use Rattle.plan.specs.declared.record.Message.{Message}
use Rattle.plan.specs.declared.record.Record.{Record}
use Rattle.plan.proofs.streams.largest_jitter.Goals as goal

pub returns : goal.returns
returns c =
    let ms = c.args.messages.now in
    c.unwrap_or.ensures
    ∙ ap (λ o. unwrap_or o 0) (reduce_from_yields_List _ c.map.result _ c.max.ensures.ran (YieldsList-from_map _ (λ (m : Message). m.record.jitter) (YieldsList-from_slice ms cc) c.map.ensures.closure (λ x r q k. search rules)))
    ∙ max_of_map (λ (m : Message). m.record.jitter) ms
    ∙ sym (fold-map (λ (m : ℕ) (r : Record). max m r.jitter) (λ (m : Message). m.record) 0 ms)
