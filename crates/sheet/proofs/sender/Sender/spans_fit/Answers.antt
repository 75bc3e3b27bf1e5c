use Rattle.std.proofs.Common.{◌≡◌, ltb, length, sym, ◌∙◌, arith, rules}
use Rattle.std.proofs.lemmas.Bool.{false≢true, ltb-true, leb-true, le-leb}
use Rattle.std.proofs.lemmas.Bool.Decides.{same_from_decides}
use Rattle.std.proofs.lemmas.Fn.{always_returns_same}
use Rattle.sheet.specs.Sender.{spans_fit}
use Rattle.sheet.specs.Spanning.{Rising, spans_fit_tells}
use Rattle.sheet.proofs.Rising.{rising_tells}
use Rattle.sheet.proofs.sender.Sender.spans_fit.Goals as goal
use Rattle.sheet.proofs.sender.Sender.spans_fit.Goals.{then-self-gt0, else-self-gt0}

pub returns-then-is_sorted_by : goal.returns-then-is_sorted_by
returns-then-is_sorted_by c =
    let spans = c.args.self.now.spans in
    let seven : length spans ≡ 7 = search rules in
    let rising : Rising spans 7 =
    elim c.if-self-gt0.branch [
      | then-self-gt0 w ↦ (rising_tells spans seven w.is_sorted_by.result (omega (arith, w.if-self-gt0.true)) (w.is_sorted_by.ensures.cases (λ x y. ltb x y) (always_returns_same _ _ _ (λ a r f k. search rules)))).0 (sym w.value-is ∙ c.if-is_sorted_by.true)
      | else-self-gt0 w ↦ absurd (let first = ltb-true 0 _ (sym w.value-is ∙ c.if-is_sorted_by.true) in omega (arith, w.if-self-gt0.false))
    ] in
    same_from_decides _ (spans_fit spans)
    (λ e. (rising, omega (arith, leb-true _ 8388608 e)), λ fits. le-leb _ 8388608 (omega (arith, fits.1)))
    (spans_fit_tells spans)

pub returns-else-is_sorted_by : goal.returns-else-is_sorted_by
returns-else-is_sorted_by c =
    let spans = c.args.self.now.spans in
    let seven : length spans ≡ 7 = search rules in
    same_from_decides _ (spans_fit spans) (
      λ e. absurd (false≢true (sym c.if-is_sorted_by.false ∙ e)),
      λ fits.
          elim c.if-self-gt0.branch [
            | then-self-gt0 w ↦ w.value-is ∙ (rising_tells spans seven w.is_sorted_by.result (omega (arith, w.if-self-gt0.true)) (w.is_sorted_by.ensures.cases (λ x y. ltb x y) (always_returns_same _ _ _ (λ a r f k. search rules)))).1 fits.0
            | else-self-gt0 w ↦ absurd (let first = fits.0 0 (omega arith) in omega (arith, w.if-self-gt0.false))
          ],
    )
    (spans_fit_tells spans)
