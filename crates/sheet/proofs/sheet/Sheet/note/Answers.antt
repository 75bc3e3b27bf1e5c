use Rattle.std.proofs.Common.{◌≡◌, max, false, List, [], ◌∷◌, ◌++◌, length, is_ok, vec_items, sym, ap, ◌∙◌, subst, arith}
use Rattle.std.proofs.lemmas.List.{length_push}
use Rattle.sheet.specs.declared.sender.Sender.{Sender}
use Rattle.sheet.specs.Sender.{Lawful}
use Rattle.sheet.specs.Sheet.{measured, holds, AllLawful, Apart}
use Rattle.sheet.proofs.Noting.{note_lawful, note_apart, note_reach}
use Rattle.sheet.proofs.sheet.Sheet.note.Goals as goal

pub invariant_of-self : goal.invariant_of-self
invariant_of-self c =
    let old = c.args.self.now in
    let senders = vec_items old.senders in
    let sender = c.args.sender in
    let new = vec_items c.push_reserved.new.self in
    let items : senders ++ sender ∷ [] ≡ new = sym c.push_reserved.ensures.items in
    let lawful : Lawful sender = ap (λ r. is_ok r) (sym c.check.ensures ∙ c.in_ok-check.was) in
    let free : holds senders sender.identifier ≡ false = sym c.holds.ensures ∙ c.if-holds.false in
    let largest : c.max-self.result ≡ (measured new).reach =
    c.max-self.ensures ∙ ap (λ x. max x sender.jitter) old.largest ∙ sym (note_reach senders sender) ∙ ap (λ (xs : List Sender). (measured xs).reach) items in
    let long = length_push senders sender in
    let more = ap length items in
    record {
      room = omega arith;
      few = omega arith;
      lawful = subst AllLawful items (note_lawful senders sender old.lawful lawful);
      apart = subst Apart items (note_apart senders sender old.apart free);
      largest = largest;
    }
