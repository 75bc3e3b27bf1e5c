-- One line more of a table. Assumes nothing.
use Rattle.std.proofs.Common.{◌≡◌, ℕ, ◌+◌, ◌≤◌, List, [], ◌∷◌, ◌++◌, length, drop, sym, ap, ◌∙◌, subst, append_assoc, append-nil, arith, length-append}
use Rattle.std.specs.List.{flat_map}
use Rattle.std.proofs.lemmas.List.{flat_map_more, length_push}
use Rattle.std.proofs.ByRecursion.{All-push}
use Rattle.plan.specs.declared.record.Record.{Record}
use Rattle.line.specs.Line.{line_of, Lawful}
use Rattle.table.specs.Table.{Takes, TakesAll, LinesTaken, LineTaken}

-- `line` - 1 lines have been taken, and this is left
pub record Taken (old : List Record) (text rest : List ℕ) (line : ℕ) (new : List Record) : Type 0 where
  pub messages : List Record
  pub taken : LinesTaken old text messages rest new
  pub counted : line ≡ length messages + 1
  pub few : length messages + length rest ≤ length text

takes_push : (old messages : List Record) (message : Record) → TakesAll old messages → Takes (old ++ messages) message → TakesAll old (messages ++ message ∷ [])
takes_push old [] message all last = (subst (λ (records : List Record). Takes records message) (append-nil old) last, tt)
takes_push old (m ∷ messages) message all last =
    (all.0, takes_push (old ++ m ∷ []) messages message all.1 (subst (λ (records : List Record). Takes records message) (sym (append_assoc old (m ∷ []) messages)) last))

pub taken_more : (old : List Record) (text rest : List ℕ) (line : ℕ) (now : List Record) (next : ℕ) (new : List Record) → Taken old text rest line now → LineTaken now rest next new → Taken old text (drop next rest) (line + 1) new
taken_more old text rest line now next new so one =
    let ms = so.messages in
    let m = one.message in
    let some : 1 ≤ length (line_of m) = omega arith in
    let both = ap length one.reads.is ∙ length-append (line_of m) (drop next rest) in
    record {
      messages = ms ++ m ∷ [];
      taken = record {
        lawful = All-push Lawful ms m so.taken.lawful one.reads.lawful;
        is = so.taken.is
            ∙ ap (λ tail. flat_map line_of ms ++ tail) one.reads.is
            ∙ sym (append_assoc (flat_map line_of ms) (line_of m) (drop next rest))
            ∙ ap (λ front. front ++ drop next rest) (flat_map_more line_of [] ms m);
        takes = takes_push old ms m so.taken.takes (subst (λ (records : List Record). Takes records m) so.taken.held one.takes);
        held = one.is ∙ ap (λ (records : List Record). records ++ m ∷ []) so.taken.held ∙ append_assoc old ms (m ∷ []);
      };
      counted = omega (arith, so.counted, length_push ms m);
      few = omega (arith, so.few, both, length_push ms m);
    }
