-- A report grows identifier by identifier. Assumes nothing.
use Rattle.std.proofs.Common.{◌≡◌, ℕ, ◌+◌, ◌<◌, List, [], ◌∷◌, ◌++◌, length, Option, sym, refl, ap, ◌∙◌, subst, inl, inr, arith}
use Rattle.std.proofs.lemmas.List.{length_push, get_or_push, get_or_append_left, flat_map_more}
use Rattle.std.proofs.lemmas.Bool.{cases_lt}
use Rattle.plan.specs.declared.record.Record.{Record}
use Rattle.verdict.specs.declared.Verdict.{Verdict}
use Rattle.settled.specs.Figures.{Among}
use Rattle.settled.specs.Holding.{VerdictOf}
use Rattle.report.specs.Report.{Line, no_line, line_at, line_text, row_text, Listed, ReportsBelow}

module _ (records : List Record) where
  -- no message has the identifier
  pub reports_past : (n : ℕ) (text : List ℕ) → ((message : Record) → Among records message → message.identifier ≡ n → ⊥) → ReportsBelow n records text → ReportsBelow (n + 1) records text
  reports_past n text none so = record {
    lines = so.lines;
    is = so.is;
    rising = so.rising;
    below = λ k inside. omega (arith, so.below k inside);
    told = so.told;
    whole = λ message among below. elim (cases_lt message.identifier n) [
      | inl less ↦ so.whole message among less
      | inr above ↦ absurd (none message among (omega arith))
    ];
  }

  -- one more line
  module _ (n : ℕ) (v : Option Verdict) (text : List ℕ) (told : VerdictOf records n v) (so : ReportsBelow n records text) where
    abbrev last : Line
    last = record { identifier = n; verdict = v }

    -- a line stands as before, or is the last
    at : (P : Line → Type 0) (k : ℕ) → k < length (so.lines ++ last ∷ []) → (k < length so.lines → P (line_at so.lines k)) → P last → P (line_at (so.lines ++ last ∷ []) k)
    at P k inside before here = elim (cases_lt k (length so.lines)) [
      | inl less ↦ subst P (sym (get_or_append_left so.lines (last ∷ []) no_line k less)) (before less)
      | inr above ↦ subst P (sym (get_or_push so.lines last no_line k (omega (arith, length_push so.lines last)))) here
    ]

    listed : (identifier : ℕ) → Listed so.lines identifier → Listed (so.lines ++ last ∷ []) identifier
    listed identifier found = record {
      place = found.place;
      inside = omega (arith, length_push so.lines last, found.inside);
      named = ap (λ (line : Line). line.identifier) (get_or_append_left so.lines (last ∷ []) no_line found.place found.inside) ∙ found.named;
    }

    listed_last : Listed (so.lines ++ last ∷ []) n
    listed_last = record {
      place = length so.lines;
      inside = omega (arith, length_push so.lines last);
      named = ap (λ (line : Line). line.identifier) (get_or_push so.lines last no_line (length so.lines) refl);
    }

    pub reports_more : ReportsBelow (n + 1) records (text ++ row_text n v)
    reports_more = record {
      lines = so.lines ++ last ∷ [];
      is = ap (λ front. front ++ row_text n v) so.is ∙ flat_map_more line_text [] so.lines last;
      rising = λ j k less inside. at (λ line. (line_at (so.lines ++ last ∷ []) j).identifier < line.identifier) k inside
          (λ early. subst (λ (line : Line). line.identifier < (line_at so.lines k).identifier) (sym (get_or_append_left so.lines (last ∷ []) no_line j (omega arith))) (so.rising j k less early))
          (let early : j < length so.lines = omega (arith, length_push so.lines last) in
          subst (λ (line : Line). line.identifier < n) (sym (get_or_append_left so.lines (last ∷ []) no_line j early)) (so.below j early));
      below = λ k inside. at (λ line. line.identifier < n + 1) k inside (λ early. omega (arith, so.below k early)) (omega arith);
      told = λ k inside. at (λ line. VerdictOf records line.identifier line.verdict) k inside (λ early. so.told k early) told;
      whole = λ message among below. elim (cases_lt message.identifier n) [
        | inl less ↦ listed message.identifier (so.whole message among less)
        | inr above ↦ let same : message.identifier ≡ n = omega arith in rw same listed_last
      ];
    }
