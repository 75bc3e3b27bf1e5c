use Rattle.std.proofs.Common.{◌≡◌, List, ◌++◌, Some, None, vec_items, string_bytes, sym, ap, ◌∙◌, subst, append-nil, ap₂, rules}
use Rattle.std.specs.List.{flat_map}
use Rattle.life.specs.declared.life.Answer.{Answer}
use Rattle.life.specs.declared.life.Call.{Call}
use Rattle.life.specs.Life.{Lived}
use Rattle.script.specs.Answers.{answer_text, ending_of, ending_text}
use Rattle.script.proofs.answers.play.Goals as goal
use Rattle.script.proofs.answers.play.Goals.{in-Some+in_ok-writeln, in_default}

pub returns : goal.returns
returns c =
    let script = c.in_ok-script.script in
    let life = c.in_ok-life.life in
    let answers : string_bytes c.in_ok-out.out ≡ flat_map answer_text (vec_items life.answers) = c.in_ok-out.ensures ∙ ap (λ (xs : List Answer). flat_map answer_text xs) c.deref-2.ensures.value in
    record {
      calls = vec_items script.calls;
      unread = script.unread;
      read = c.in_ok-script.ensures;
      life = life;
      lived = subst (λ (calls : List Call). Lived calls life) c.deref.ensures.value c.in_ok-life.ensures;
      tells = elim c.match-ending_of.branch [
        | in-Some+in_ok-writeln w ↦
            let ending : Some w.in-Some.ending ≡ ending_of life.misplaced script.unread = search rules in
            ap string_bytes w.out-is ∙ w.in_ok-writeln.ensures.bytes ∙ ap₂ ◌++◌ answers (ap ending_text ending)
        | in_default w ↦
            let ending : None ≡ ending_of life.misplaced script.unread = search rules in
            ap string_bytes w.out-is ∙ sym (append-nil _) ∙ ap₂ ◌++◌ answers (ap ending_text ending)
      ];
    }
