-- The laws of the beginning that two texts share. Assumes nothing.
use Rattle.std.proofs.Common.{◌≡◌, ℕ, suc, ◌+◌, ◌<◌, ◌≤◌, cond, ◌==◌, ◌⊎◌, List, [], ◌∷◌, ◌++◌, length, get_or, take, drop, sym, refl, ap, ◌∙◌, ap₂, inl, inr, ⊎_elim, append-nil, arith, take-append-drop}
use Rattle.std.specs.List.{AllByRecursion, prefix_len, zip}
use Rattle.std.proofs.lemmas.List.Sums.{common_prefix_len-le}
use Rattle.std.proofs.lemmas.Bool.{cases_eq, cases_lt, eq-eqb, ne_eqb}
use Rattle.std.proofs.lemmas.List.{length-take-le, take_all, drop_all}
use Rattle.line.specs.Forms.{shared}
use Rattle.line.specs.Tokens.{Letter}

pub shared_same : (c d : ℕ) (t s : List ℕ) → c ≡ d → shared (c ∷ t) (d ∷ s) ≡ suc (shared t s)
shared_same c d t s e = rw (eq-eqb c d e) (omega arith)

pub shared_differ : (c d : ℕ) (t s : List ℕ) → (c ≡ d → ⊥) → shared (c ∷ t) (d ∷ s) ≡ 0
shared_differ c d t s h = rw (ne_eqb c d h)

-- one byte is shared and more may be, or none is
pub shared_step : (c d : ℕ) (t s : List ℕ) → ((c ≡ d) × (shared (c ∷ t) (d ∷ s) ≡ suc (shared t s))) ⊎ ((c ≡ d → ⊥) × (shared (c ∷ t) (d ∷ s) ≡ 0))
shared_step c d t s = ⊎_elim (λ e. inl (e, shared_same c d t s e)) (λ h. inr (h, shared_differ c d t s h)) (cases_eq c d)

-- nothing is shared where the first byte is another
pub shared_none : (c : ℕ) (t s : List ℕ) → (get_or s 0 0 ≡ c → ⊥) → shared (c ∷ t) s ≡ 0
shared_none c t [] h = refl
shared_none c t (d ∷ s) h = shared_differ c d t s (λ e. h (sym e))

-- what is shared, as the pairs of equal bytes that come first
pub shared_pairs : (t s : List ℕ) → prefix_len (λ p. p.0 == p.1) (zip t s) ≡ shared t s
shared_pairs [] s = refl
shared_pairs (c ∷ t) [] = refl
shared_pairs (c ∷ t) (d ∷ s) = ap (λ n. cond (c == d) (1 + n) 0) (shared_pairs t s)

pub shared_append : (w t u : List ℕ) → shared (w ++ t) (w ++ u) ≡ length w + shared t u
shared_append [] t u = omega arith
shared_append (c ∷ w) t u = omega (arith, shared_same c c (w ++ t) (w ++ u) refl, shared_append w t u)

pub shared_at_most : (t s : List ℕ) → (shared t s ≤ length t) × (shared t s ≤ length s)
shared_at_most t s = common_prefix_len-le (λ c d. c == d) t s

-- what is shared is equal
pub take_shared : (t s : List ℕ) → take (shared t s) t ≡ take (shared t s) s
take_shared [] s = refl
take_shared (c ∷ t) [] = refl
take_shared (c ∷ t) (d ∷ s) = elim (shared_step c d t s) [ inl h ↦ rw h.1 (ap₂ ◌∷◌ h.0 (take_shared t s)) | inr h ↦ rw h.1 refl ]

-- a text that is shared whole begins the other
pub front_from_shared : (t s : List ℕ) → length t ≤ shared t s → s ≡ t ++ drop (length t) s
front_from_shared t s whole =
    let same : shared t s ≡ length t = omega (arith, shared_at_most t s) in
    let front : take (length t) s ≡ t = rw same at (sym (take_shared t s)) ∙ take_all (length t) t (omega arith) in
    sym (take-append-drop (length t) s) ∙ ap (λ w. w ++ drop (length t) s) front

-- two texts that are not one do not share both whole
pub shared_part : (t s : List ℕ) → (s ≡ t → ⊥) → (shared t s < length t) ⊎ (shared t s < length s)
shared_part t s differ = elim (cases_lt (shared t s) (length t)) [
  | inl less ↦ inl less
  | inr whole ↦ elim (cases_lt (shared t s) (length s)) [
    | inl less ↦ inr less
    | inr all ↦ absurd (differ (front_from_shared t s whole ∙ ap (λ u. t ++ u) (drop_all (length t) s (omega (arith, shared_at_most t s))) ∙ append-nil t))
  ]
]

pub shared_from_whole : (t s rest : List ℕ) → s ≡ t ++ rest → shared t s ≡ length t
shared_from_whole t s rest e = ap₂ shared (sym (append-nil t)) e ∙ shared_append t [] rest ∙ omega arith

-- a front of s that t begins with is shared
pub shared_from_front : (k : ℕ) (s t rest : List ℕ) → k ≤ length s → take k s ++ rest ≡ t → k ≤ shared t s
shared_from_front k s t rest h e =
    let same = ap₂ shared (sym e) (sym (take-append-drop k s)) ∙ shared_append (take k s) rest (drop k s) in
    omega (arith, length-take-le k s h)

-- where w is left early, what comes after it does not matter
pub shared_short : (w t s : List ℕ) → shared w s < length w → shared (w ++ t) s ≡ shared w s
shared_short [] t s h = absurd (omega arith)
shared_short (c ∷ w) t [] h = refl
shared_short (c ∷ w) t (d ∷ s) h = elim (shared_step c d w s) [
  | inl e ↦ omega (arith, shared_same c d (w ++ t) s e.0, shared_short w t s (omega arith))
  | inr e ↦ omega (arith, shared_differ c d (w ++ t) s e.0)
]

-- a word w and its space, beside a whole word v that is another
pub shared_words : (w v more : List ℕ) → AllByRecursion Letter w → AllByRecursion Letter v → (Letter (get_or more 0 0) → ⊥) → (shared w v < length w) ⊎ (shared w v < length v) → shared (w ++ 32 ∷ []) (v ++ more) ≡ shared w v
shared_words [] [] more a b stop u = absurd (⊎_elim (λ h. omega arith) (λ h. omega arith) u)
shared_words [] (x ∷ v) more a b stop u = shared_none 32 [] (x ∷ (v ++ more)) (λ e. omega (arith, b.0.0))
shared_words (y ∷ w) [] more a b stop u = shared_none y (w ++ 32 ∷ []) more (λ e. stop (rw e a.0))
shared_words (y ∷ w) (x ∷ v) more a b stop u = elim (shared_step y x w v) [
  | inl e ↦ omega (arith, shared_same y x (w ++ 32 ∷ []) (v ++ more) e.0, shared_words w v more a.1 b.1 stop (⊎_elim (λ h. inl (omega arith)) (λ h. inr (omega arith)) u))
  | inr e ↦ omega (arith, shared_differ y x (w ++ 32 ∷ []) (v ++ more) e.0)
]
