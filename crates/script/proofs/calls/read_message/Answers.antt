use Rattle.std.proofs.Common.{ℕ, List, Some, None, Ok, Err, Option, Result, Bor, sym, ◌∙◌, subst, ap₂, ◌++◌}
use Rattle.plan.specs.declared.record.Record.{Record}
use Rattle.line.specs.declared.line.LineFault.{LineFault}
use Rattle.line.specs.Line.{line_of, Lawful, Read}
use Rattle.script.specs.Calls.{Follows, MessageRead}
use Rattle.script.proofs.calls.read_message.Goals as goal

message_read : (text : List ℕ) (r : Result (Record × ℕ) LineFault) (o : Option (Record × Bor (List ℕ))) → Read text r → Follows text r o → MessageRead text o
message_read text (Ok read) (Some found) reads follows = record {
  lawful = subst Lawful (sym follows.0) reads.lawful;
  is = reads.is ∙ ap₂ (λ (r : Record) (rest : List ℕ). line_of r ++ rest) (sym follows.0) (sym follows.1);
}
message_read text (Ok read) None reads follows = absurd follows
message_read text (Err e) (Some found) reads follows = absurd follows
message_read text (Err e) None faults follows = λ message rest lawful is. faults.none message (record { lawful = lawful; rest = rest; is = is })

pub returns : goal.returns
returns c = message_read c.args.text.now c.read_line.result c.follow.result c.read_line.ensures c.follow.ensures
