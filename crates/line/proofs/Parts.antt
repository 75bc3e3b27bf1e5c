-- A part of the text, as a token hands it out, and what is asked for beside it. Assumes nothing.
use Rattle.std.proofs.Common.{◌≡◌, ℕ, ◌+◌, ◌-◌, ◌<◌, ◌≤◌, ◌⊎◌, List, [], ◌∷◌, ◌++◌, length, get_or, take, drop, sym, refl, ap, ◌∙◌, subst, inl, inr, arith, length-append, length-drop, length-take, ⊎_elim, take-append-drop, Bool, true, false}
use Rattle.std.specs.List.{AllByRecursion, prefix_len}
use Rattle.std.specs.Int.{is_in_range}
use Rattle.std.specs.Char.{is_ascii_lowercase, is_ascii_digit}
use Rattle.std.proofs.lemmas.Bool.Decides.{nat_tests}
use Rattle.std.proofs.lemmas.List.Sums.{prefix_len-le-length, prefix_len_passes, prefix_len_stops}
use Rattle.std.proofs.ByRecursion.{All-from_get_or}
use Rattle.std.proofs.lemmas.Bool.{cases_eq, cases_lt}
use Rattle.std.proofs.lemmas.List.{get_or_past, take_all, drop-drop, get_or-drop, get_or-take, length-take-le}
use Rattle.line.specs.Tokens.{Letter, Digit, Stands, WordStands, NumberStands}
use Rattle.line.specs.Forms.{shared}
use Rattle.line.specs.Names.{Asked}
use Rattle.line.specs.Reader.{Missed}
use Rattle.line.proofs.Sharing.{shared_none, shared_words, shared_at_most, shared_part}
use Rattle.line.proofs.Marks.{first_byte}

-- the test p tells P, which 0 is not
record Tells (p : ℕ → Bool) (P : ℕ → Type 0) : Type 0 where
  passes : (c : ℕ) → p c ≡ true → P c
  fails : (c : ℕ) → p c ≡ false → P c → ⊥
  zero : P 0 → ⊥

in_range : (lo hi c : ℕ) → is_in_range lo hi c ≡ true → (lo ≤ c) × (c ≤ hi)
in_range lo hi c e = (grind (arith, nat_tests), grind (arith, nat_tests))

out_of_range : (lo hi c : ℕ) → is_in_range lo hi c ≡ false → (lo ≤ c) × (c ≤ hi) → ⊥
out_of_range lo hi c e h = grind (arith, nat_tests)

tells_letters : Tells is_ascii_lowercase Letter
tells_letters = record { passes = in_range 97 122; fails = out_of_range 97 122; zero = λ l. omega (arith, l.0) }

tells_digits : Tells is_ascii_digit Digit
tells_digits = record { passes = in_range 48 57; fails = out_of_range 48 57; zero = λ d. omega (arith, d.0) }

-- the bytes w stand from `at` on, each is P, and so is no more that comes, but past `most`
record Part (P : ℕ → Type 0) (s : List ℕ) (at most : ℕ) (w : List ℕ) : Type 0 where
  some : 0 < length w
  short : length w ≤ most
  stands : Stands w s at (at + length w)
  first : get_or w 0 0 ≡ get_or s at 0
  all : AllByRecursion P w
  stops : P (get_or s (at + length w) 0) → length w ≡ most

module _ (s : List ℕ) (at : ℕ) (within : at < length s) where
  whole_rest : take (length s - at) (drop at s) ≡ drop at s
  whole_rest = take_all (length s - at) (drop at s) (omega (arith, length-drop at s))

  part : {p : ℕ → Bool} {P : ℕ → Type 0} → Tells p P → P (get_or s at 0) → (most n : ℕ) → 0 < most → n ≡ prefix_len p (take most (drop at s)) → Part P s at most (take n (drop at s))
  part {p} {P} tells here most n some count =
      let rest : List ℕ = take most (drop at s) in
      let le : n ≤ length rest = omega (arith, prefix_len-le-length p rest) in
      let long : length (take n (drop at s)) ≡ n = length-take-le n (drop at s) (omega (arith, length-take most (drop at s))) in
      let counted = λ (i : ℕ) (l : i < most). get_or-take most (drop at s) i 0 l in
      let held = λ (i : ℕ) (l : i < n). get_or-take n (drop at s) i 0 l in
      let ends : n < length rest → P (get_or s (at + n) 0) → ⊥ =
      λ h d. tells.fails (get_or s (at + n) 0) (ap p (sym (counted n (omega (arith, length-take most (drop at s))) ∙ get_or-drop at s n 0)) ∙ ap (λ k. p (get_or rest k 0)) count ∙ prefix_len_stops p rest 0 (omega arith)) d in
      let some : 0 < n = ⊎_elim (λ none. absurd (ends (omega (arith, length-take most (drop at s), length-drop at s)) (subst P (ap (λ k. get_or s k 0) (omega arith)) here))) (λ other. omega arith) (cases_eq n 0) in
      record {
        some = omega arith;
        short = omega (arith, length-take most (drop at s));
        stands = record { is = sym (take-append-drop n (drop at s)) ∙ ap (λ u. take n (drop at s) ++ u) (drop-drop n at s ∙ ap (λ k. drop (at + k) s) (sym long)); ends = refl };
        first = held 0 some ∙ first_byte s at;
        all = All-from_get_or P (take n (drop at s)) 0 (λ i l. subst P (counted i (omega (arith, length-take most (drop at s))) ∙ sym (held i (omega arith))) (tells.passes (get_or rest i 0) (prefix_len_passes p rest i 0 (omega arith))));
        stops = λ d. elim (cases_lt n (length rest)) [
          | inl more ↦ absurd (ends more (subst (λ k. P (get_or s (at + k) 0)) long d))
          | inr end ↦ elim (cases_lt n most) [
            | inl less ↦ absurd (tells.zero (subst P (get_or_past s (at + length (take n (drop at s))) 0 (omega (arith, length-take most (drop at s), length-drop at s))) d))
            | inr full ↦ omega (arith, length-take most (drop at s))
          ]
        ];
      }

  pub word_stands : Letter (get_or s at 0) → (n : ℕ) → n ≡ prefix_len is_ascii_lowercase (take (length s - at) (drop at s)) → WordStands s at (take n (take (length s - at) (drop at s)))
  word_stands here n count =
      let p = part tells_letters here (length s - at) n (omega arith) count in
      rw whole_rest (record {
        letters = p.all;
        some = p.some;
        stands = p.stands;
        stops = λ l. tells_letters.zero (subst Letter (get_or_past s (at + length (take n (drop at s))) 0 (omega (arith, p.stops l))) l);
      })

  -- a number has one digit if that is 0, and else up to ten
  pub number_stands : Digit (get_or s at 0) → (most n : ℕ) → ((get_or (take (length s - at) (drop at s)) 0 0 ≡ 48) × (most ≡ 1)) ⊎ ((get_or (take (length s - at) (drop at s)) 0 0 ≡ 48 → ⊥) × (most ≡ 10)) → n ≡ prefix_len is_ascii_digit (take most (take (length s - at) (drop at s))) → NumberStands s at (take n (take (length s - at) (drop at s)))
  number_stands here most n digits count =
      let begins : get_or (take (length s - at) (drop at s)) 0 0 ≡ get_or s at 0 = ap (λ u. get_or u 0 0) whole_rest ∙ first_byte s at in
      let p = part tells_digits here most n (⊎_elim (λ zero. omega arith) (λ other. omega arith) digits) (rw whole_rest at count) in
      rw whole_rest (record {
        numeral = record {
          all = p.all;
          some = p.some;
          short = ⊎_elim (λ zero. omega (arith, p.short)) (λ other. omega (arith, p.short)) digits;
          lone = λ zero. ⊎_elim (λ one. omega (arith, p.some, p.short)) (λ other. absurd (other.0 (begins ∙ sym p.first ∙ zero))) digits;
        };
        stands = p.stands;
        stops = λ d. ⊎_elim (λ zero. inl (p.first ∙ sym begins ∙ zero.0)) (λ other. inr (p.stops d ∙ other.1)) digits;
      })

-- a part stands within the text
pub stands_within : {w s : List ℕ} {at n : ℕ} → 0 < length w → Stands w s at n → n ≤ length s
stands_within {w} {s} {at} {n} some h =
    let long = ap length h.is ∙ length-append w (drop n s) in
    omega (arith, h.ends, length-drop at s, length-drop n s)

-- no word stands there
pub no_word : {s : List ℕ} {at : ℕ} (w : List ℕ) → Asked w → (Letter (get_or s at 0) → ⊥) → Missed (w ++ 32 ∷ []) s at at
no_word [] h none = absurd (omega (arith, h.some))
no_word {s} {at} (c ∷ w) h none =
    let e = shared_none c (w ++ 32 ∷ []) (drop at s) (λ e. none (subst Letter (sym e ∙ first_byte s at) h.letters.0)) in
    record { short = omega arith; place = omega arith }

-- another word stands there
pub other_word : {w v s : List ℕ} {at p : ℕ} → Asked w → WordStands s at v → (v ≡ w → ⊥) → p ≡ at + shared w v → Missed (w ++ 32 ∷ []) s at p
other_word {w} {v} {s} {at} h stands differ place =
    let e = ap (shared (w ++ 32 ∷ [])) stands.stands.is ∙ shared_words w v (drop (at + length v) s) h.letters stands.letters (λ l. stands.stops (subst Letter (first_byte s (at + length v)) l)) (shared_part w v differ) in
    record { short = omega (arith, shared_at_most w v, length-append w (32 ∷ [])); place = omega arith }

-- that word stands there
pub same_word : {w v s : List ℕ} {at : ℕ} → WordStands s at v → v ≡ w → Stands w s at (at + length w)
same_word {w} {v} {s} {at} stands same = subst (λ u. Stands u s at (at + length u)) same stands.stands
