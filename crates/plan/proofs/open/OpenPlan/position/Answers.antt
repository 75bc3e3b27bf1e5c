use Rattle.std.proofs.Common.{◌≡◌, rules}
use borrow.Author.Tests.{tests}
use Rattle.std.proofs.lemmas.Iterator.{YieldsList-from_slice, IsFirst-from_position}
use Rattle.plan.specs.declared.record.Message.{Message}
use Rattle.plan.proofs.Places.{position_told}
use Rattle.plan.proofs.open.OpenPlan.position.Goals as goal

pub returns : goal.returns
returns c =
    let ms = c.args.self.now.messages.items in
    position_told c.args.identifier ms c.position.result
    (IsFirst-from_position _ _ c.position.result (λ (m : Message). m.record.identifier ≡ c.args.identifier) (λ (m : Message). m.record.identifier ≡ c.args.identifier → ⊥) c.position.ensures.ran (YieldsList-from_slice ms cc) (λ x q k. search (rules, tests)) (λ x q k. search (rules, tests)))
