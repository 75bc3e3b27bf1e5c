-- The identifiers that are held, and one more sender. Assumes nothing.
use Rattle.std.proofs.Common.{◌≡◌, ℕ, ◌<◌, max, false, eqb, List, [], ◌∷◌, ◌++◌, length, Decides, sym, refl, ap, ◌∙◌, subst, ⊎_elim, arith}
use Rattle.std.proofs.lemmas.List.{length_push, get_or_push, get_or_append_left, get_or_default}
use Rattle.std.proofs.lemmas.Bool.{cases_lt}
use Rattle.std.proofs.lemmas.Bool.Decides.{Decides-eqb, Decides-like, Decides-by_or, not_from_Decides}
use Rattle.bus.specs.Sums.{largest_below}
use Rattle.bus.proofs.Adding.{largest_same, largest_more}
use Rattle.sheet.specs.declared.sender.Sender.{Sender}
use Rattle.sheet.specs.Sender.{Lawful}
use Rattle.sheet.specs.Sheet.{nobody, sender_of, holds, measured, AllLawful, Apart}

-- an identifier is held where some sender has it
pub holds_tells : (senders : List Sender) (identifier : ℕ) → Decides (holds senders identifier) ((k : ℕ) × (k < length senders) × ((sender_of senders k).identifier ≡ identifier))
holds_tells senders identifier =
    Decides-like (holds senders identifier)
    (λ found. (found.0, found.1, found.2 nobody))
    (λ found. (found.0, found.1, λ d. ap (λ (s : Sender). s.identifier) (get_or_default senders found.0 d nobody found.1) ∙ found.2))
    (Decides-by_or (λ s. eqb s.identifier identifier) (λ s. s.identifier ≡ identifier) (λ xs. holds xs identifier) (λ s. Decides-eqb s.identifier identifier) refl (λ _ _. refl) senders)

module _ (senders : List Sender) (s : Sender) where
  before : (i : ℕ) → i < length senders → sender_of (senders ++ s ∷ []) i ≡ sender_of senders i
  before i h = get_or_append_left senders (s ∷ []) nobody i h

  last : (i : ℕ) → length senders ≡ i → sender_of (senders ++ s ∷ []) i ≡ s
  last i h = get_or_push senders s nobody i h

  pub note_lawful : AllLawful senders → Lawful s → AllLawful (senders ++ s ∷ [])
  note_lawful old new i h =
      let long = length_push senders s in
      ⊎_elim (λ l. subst Lawful (sym (before i l)) (old i l)) (λ l. subst Lawful (sym (last i (omega arith))) new) (cases_lt i (length senders))

  pub note_apart : Apart senders → holds senders s.identifier ≡ false → Apart (senders ++ s ∷ [])
  note_apart old free i j l h same =
      let long = length_push senders s in
      let first = ap (λ (x : Sender). x.identifier) (before i (omega arith)) in
      ⊎_elim
      (λ below. let second = ap (λ (x : Sender). x.identifier) (before j below) in old i j l below (omega arith))
      (λ above. let second = ap (λ (x : Sender). x.identifier) (last j (omega arith)) in not_from_Decides _ (holds_tells senders s.identifier) free (i, omega arith, omega arith))
      (cases_lt j (length senders))

  pub note_reach : (measured (senders ++ s ∷ [])).reach ≡ max (measured senders).reach s.jitter
  note_reach =
      let jitters : ℕ → ℕ = λ i. (sender_of (senders ++ s ∷ []) i).jitter in
      ap (λ n. largest_below n jitters) (length_push senders s)
      ∙ largest_more (length senders) jitters
      ∙ ap (λ x. max x (jitters (length senders))) (largest_same (length senders) jitters (λ i. (sender_of senders i).jitter) (λ k h. ap (λ (x : Sender). x.jitter) (before k h)))
      ∙ ap (λ (x : Sender). max (measured senders).reach x.jitter) (last (length senders) refl)
