-- The texts of numbers: none goes along farther than the longest number that stands there. Assumes nothing.
use Rattle.std.proofs.Common.{◌≡◌, ℕ, suc, ◌+◌, ◌-◌, ◌*◌, ◌^◌, ◌<◌, ◌≤◌, ◌⊎◌, List, [], ◌∷◌, ◌++◌, length, get_or, take, drop, decimal, sym, refl, ap, ◌∙◌, subst, ap₂, inl, inr, ⊎_elim, arith, length-append, length-take, rules}
use Rattle.std.specs.Str.Parse.{digits_value}
use Rattle.std.specs.List.{AllByRecursion}
use Rattle.std.specs.Char.{digit_value as digitValue}
use Rattle.std.proofs.lemmas.Bool.{cases_eq, le-ltb, lt-ltb}
use Rattle.std.proofs.lemmas.Int.Digits.{digits_value_more}
use Rattle.std.proofs.ByRecursion.{All-get_or, All-take}
use Rattle.std.proofs.lemmas.List.{get_or_append_left, get_or-append-add}
use Rattle.std.proofs.lemmas.Str.Parse.{IsNumeralModel, IsDigitsTest, numerals_by_value, digits_value_short}
use Rattle.std.proofs.lemmas.Fmt.{digits_decimal, decimal-digits_value, length-decimal-le, decimal_nonempty, first_decimal, decimal_digit, decimal_injective}
use Rattle.line.specs.declared.tokens.Mark.{Mark}
use Rattle.line.specs.Line.{Short}
use Rattle.line.specs.Tokens.{Digit, byte_of, Numeral, NumberStands, Stands}
use Rattle.line.specs.Forms.{shared, Form, given, number, Text, Leaves, Passes, Fault}
use Rattle.line.specs.Reader.{Missed}
use Rattle.line.proofs.Marks.{mark_below, first_byte}
use Rattle.line.proofs.Sharing.{shared_none, shared_step}
use Rattle.line.proofs.Passing.{pass, stop, pass_given, fault_given, fault_apart, Narrows, narrow_passes, narrow_faults}

own : IsNumeralModel (AllByRecursion Digit) (digits_value 10)
own = let tells : IsDigitsTest (AllByRecursion Digit) = search rules in numerals_by_value (AllByRecursion Digit) tells

-- a number of up to ten digits is written by a numeral, and only by that
pub numeral_of : (n : ℕ) → Short n → Numeral (decimal n)
numeral_of n h = record {
  all = digits_decimal own n (omega arith);
  some = decimal_nonempty n (omega arith);
  short = length-decimal-le 10 n (omega arith) h (omega arith);
  lone = λ e. ⊎_elim (λ zero. ap (λ k. length (decimal k)) zero ∙ ap length (decimal_digit 0 (omega arith))) (λ other. absurd (omega (arith, first_decimal n (omega arith) (omega arith)))) (cases_eq n 0);
}

pub short_value : {ds : List ℕ} → Numeral ds → Short (digits_value 10 ds)
short_value {ds} h = digits_value_short own ds 10 h.all h.short

numeral_is : {ds : List ℕ} → Numeral ds → decimal (digits_value 10 ds) ≡ ds
numeral_is {ds} h = decimal-digits_value own ds h.all h.some h.lone (omega (arith, short_value h))

-- digits ys and a byte that is none, beside digits xs and what comes after: where xs does not go on as ys does, the two share no more than xs
along : (xs ys : List ℕ) (c : ℕ) (u s : List ℕ) → AllByRecursion Digit xs → AllByRecursion Digit ys → (Digit c → ⊥) → ((y : ℕ) (zs : List ℕ) → ys ≡ xs ++ y ∷ zs → get_or s 0 0 ≡ y → ⊥) → (ys ≡ xs) ⊎ ((shared (ys ++ c ∷ u) (xs ++ s) ≤ length xs) × (shared (ys ++ c ∷ u) (xs ++ s) < length (ys ++ c ∷ u)))
along [] [] c u s a b no_digit ends = inl refl
along [] (y ∷ ys) c u s a b no_digit ends = let none = shared_none y (ys ++ c ∷ u) s (ends y ys refl) in inr (omega arith, omega arith)
along (x ∷ xs) [] c u s a b no_digit ends = let none = shared_none c u (x ∷ (xs ++ s)) (λ e. no_digit (subst Digit e a.0)) in inr (omega arith, omega arith)
along (x ∷ xs) (y ∷ ys) c u s a b no_digit ends = elim (shared_step y x (ys ++ c ∷ u) (xs ++ s)) [
  | inl e ↦ ⊎_elim (λ same. inl (ap₂ ◌∷◌ e.0 same)) (λ l. inr (omega (arith, l.0), omega (arith, l.1))) (along xs ys c u s a.1 b.1 no_digit (λ z zs is. ends z zs (ap₂ ◌∷◌ e.0 is)))
  | inr e ↦ inr (omega arith, omega arith)
]

no_longer : (s : List ℕ) (at : ℕ) (ds ys : List ℕ) → NumberStands s at ds → Numeral ys → (y : ℕ) (zs : List ℕ) → ys ≡ ds ++ y ∷ zs → get_or (drop (at + length ds) s) 0 0 ≡ y → ⊥
no_longer s at ds ys l h y zs e first =
    let long : length ys ≡ length ds + suc (length zs) = ap length e ∙ length-append ds (y ∷ zs) in
    let some = l.numeral.some in
    let is : Digit y = subst Digit (ap (λ z. get_or z (length ds + 0) 0) e ∙ get_or-append-add ds (y ∷ zs) 0 0) (All-get_or Digit ys (length ds + 0) 0 (omega arith) h.all) in
    ⊎_elim
    (λ zero. omega (arith, h.lone (ap (λ z. get_or z 0 0) e ∙ get_or_append_left ds (y ∷ zs) 0 0 some ∙ zero)))
    (λ ten. omega (arith, h.short))
    (l.stops (subst Digit (sym first ∙ first_byte s (at + length ds)) is))

module _ {F : ℕ → Form} {s : List ℕ} {at : ℕ} {mark : Mark} {ds : List ℕ} (l : NumberStands s at ds) where
  -- the number that stands there is the one that is asked for
  narrow_number : Narrows (number mark F) s at (at + length ds + 1) (given ds (given (byte_of mark ∷ []) (F (digits_value 10 ds))))
  narrow_number = record {
    back = λ r t x. (digits_value 10 ds, x.2.0, short_value l.numeral, x.1 ∙ ap₂ ◌++◌ (sym (numeral_is l.numeral)) x.2.1, x.2.2);
    on = λ r t x.
        let n = x.0 in
        let numeral = numeral_of n x.2 in
        ⊎_elim
        (λ same.
        let is : n ≡ digits_value 10 ds = decimal_injective n (digits_value 10 ds) (omega (arith, x.2)) (omega (arith, short_value l.numeral)) (same ∙ sym (numeral_is l.numeral)) in
        inl (byte_of mark ∷ x.1, x.3 ∙ ap (λ z. z ++ byte_of mark ∷ x.1) same, (x.1, refl, subst (λ k. Text (F k) r x.1) is x.4)))
        (λ b. let same = ap₂ shared x.3 l.stands.is in inr (record { early = omega (arith, b.0); partly = omega (arith, b.1, ap length x.3) }))
        (along ds (decimal n) (byte_of mark) x.1 (drop (at + length ds) s) l.numeral.all numeral.all (λ d. omega (arith, (mark_below mark).1, d.0)) (no_longer s at ds (decimal n) l numeral));
  }

  pub pass_number : {n : ℕ} → Stands (byte_of mark ∷ []) s (at + length ds) n → Passes (number mark F) s at n (F (digits_value 10 ds))
  pass_number h = narrow_passes (omega (arith, h.ends)) narrow_number (pass (pass_given l.stands) (pass_given h))

  pub fault_number : {p : ℕ} → Missed (byte_of mark ∷ []) s (at + length ds) p → Fault (number mark F) s at p
  fault_number h = narrow_faults (omega (arith, h.place)) narrow_number (stop (pass_given l.stands) (fault_given h))

-- no number stands there
pub no_number : {F : ℕ → Form} {s : List ℕ} {at : ℕ} {mark : Mark} → (Digit (get_or s at 0) → ⊥) → Fault (number mark F) s at at
no_number {F} {s} {at} {mark} h = fault_apart (record { leaves = λ r t x. none t (decimal x.0) (byte_of mark ∷ x.1) x.3 (numeral_of x.0 x.2) })
  where
    none : (t ds u : List ℕ) → t ≡ ds ++ u → Numeral ds → Leaves s at (at + 1) t
    none t [] u is k = absurd (omega (arith, k.some))
    none t (d ∷ ds) u is k =
        let e = ap (λ z. shared z (drop at s)) is ∙ shared_none d (ds ++ u) (drop at s) (λ e. h (subst Digit (sym e ∙ first_byte s at) k.all.0)) in
        record { early = omega arith; partly = omega (arith, ap length is) }

digit_value : (c : ℕ) → Digit c → digitValue c ≡ c - 48
digit_value c d = rw (le-ltb c 48 d.0, lt-ltb c 58 (omega (arith, d.1)))

-- one more digit is read
pub value_step : (ds : List ℕ) (i n digit : ℕ) → Numeral ds → i < length ds → n ≡ digits_value 10 (take i ds) → digit ≡ get_or ds i 0 - 48 → (n * 10 + digit < 10 ^ 10) × (n * 10 + digit ≡ digits_value 10 (take (i + 1) ds))
value_step ds i n digit h l e is =
    let m = digits_value_more 10 ds i l in
    let k = digit_value (get_or ds i 0) (All-get_or Digit ds i 0 l h.all) in
    let value : n * 10 + digit ≡ digits_value 10 (take (i + 1) ds) = omega arith in
    (omega (arith, digits_value_short own (take (i + 1) ds) 10 (All-take Digit (i + 1) ds h.all) (simp length-take (omega (arith, h.short)))), value)
