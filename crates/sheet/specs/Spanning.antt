-- The spans of a sender. Assumes nothing.
use Rattle.std.proofs.Common.{◌≡◌, ℕ, zero, suc, ◌+◌, ◌-◌, ◌*◌, ◌/◌, ◌%◌, ◌<◌, ◌≤◌, Bool, ltb, leb, List, get_or, Decides, refl, ap, ◌∙◌, suc-mul, mul-le-mul_left, add-one, arith}
use Rattle.std.proofs.lemmas.Bool.{leb-true, le-leb}
use Rattle.std.proofs.lemmas.Bool.Decides.{Decides-ltb, Decides-and, Decides-below_and}
use Rattle.sheet.specs.Sender.{span, every_below, spans_fit}

-- s(2) to s(8) are those that were measured
pub span_given : (spans : List ℕ) (k : ℕ) → k < 7 → get_or spans k 0 ≡ span spans (k + 2)
span_given spans zero h = refl
span_given spans (suc zero) h = refl
span_given spans (suc (suc zero)) h = refl
span_given spans (suc (suc (suc zero))) h = refl
span_given spans (suc (suc (suc (suc zero)))) h = refl
span_given spans (suc (suc (suc (suc (suc zero))))) h = refl
span_given spans (suc (suc (suc (suc (suc (suc zero)))))) h = omega arith
span_given spans (suc (suc (suc (suc (suc (suc (suc k))))))) h = absurd (omega arith)

-- each of the first n is above the one before
abbrev pub Rising : List ℕ → ℕ → Type 0
Rising spans n = (k : ℕ) → k < n → span spans (k + 1) < span spans (k + 2)

pub spans_fit_tells : (spans : List ℕ) → Decides (spans_fit spans) (Rising spans 7 × (span spans 8 ≤ 8388608))
spans_fit_tells spans =
    let rises : ℕ → Bool = λ k. ltb (span spans (k + 1)) (span spans (k + 2)) in
    Decides-and (every_below 7 rises) (leb (span spans 8) 8388608)
    (Decides-below_and rises (λ k. span spans (k + 1) < span spans (k + 2)) (λ n. every_below n rises) (λ k. Decides-ltb (span spans (k + 1)) (span spans (k + 2))) refl (λ _. refl) 7)
    (leb-true (span spans 8) 8388608, le-leb (span spans 8) 8388608)

-- s(q + 7 a) = a s(8) + s(q)
pub span_turned : (spans : List ℕ) (a q : ℕ) → 1 ≤ q → span spans (a * 7 + q) ≡ a * get_or spans 6 0 + span spans q
span_turned spans zero q some = ap (span spans) (let e : zero * 7 + q ≡ q = omega arith in e) ∙ omega arith
span_turned spans (suc a) zero some = absurd (omega arith)
span_turned spans (suc a) (suc q) some =
    ap (span spans) (let e : suc a * 7 + suc q ≡ suc (suc (suc (suc (suc (suc (suc (suc (a * 7 + q)))))))) = omega arith in e)
    ∙ ap (λ x. span spans x + get_or spans 6 0) (let e : suc (a * 7 + q) ≡ a * 7 + suc q = omega arith in e)
    ∙ omega (arith, span_turned spans a (suc q) some, suc-mul a (get_or spans 6 0))

-- each is above the one before
pub span_rises : (spans : List ℕ) → Rising spans 7 → (q : ℕ) → 1 ≤ q → span spans q < span spans (q + 1)
span_rises spans rising zero some = absurd (omega arith)
span_rises spans rising (suc zero) some = rising 0 (omega arith)
span_rises spans rising (suc (suc zero)) some = rising 1 (omega arith)
span_rises spans rising (suc (suc (suc zero))) some = rising 2 (omega arith)
span_rises spans rising (suc (suc (suc (suc zero)))) some = rising 3 (omega arith)
span_rises spans rising (suc (suc (suc (suc (suc zero))))) some = rising 4 (omega arith)
span_rises spans rising (suc (suc (suc (suc (suc (suc zero)))))) some = rising 5 (omega arith)
span_rises spans rising (suc (suc (suc (suc (suc (suc (suc zero))))))) some = rising 6 (omega arith)
span_rises spans rising (suc (suc (suc (suc (suc (suc (suc (suc q)))))))) some =
    let before = span_rises spans rising (suc q) (omega arith) in
    let near = ap (span spans) (add-one (suc q)) in
    let far = ap (span spans) (add-one (suc (suc (suc (suc (suc (suc (suc (suc q))))))))) in
    omega arith

-- and none up to s(8) above s(8)
span_upto : (spans : List ℕ) → Rising spans 7 → (d q : ℕ) → 1 ≤ q → q + d ≡ 8 → span spans q ≤ span spans 8
span_upto spans rising zero q some is = let last : q ≡ 8 = omega arith in rw last (omega arith)
span_upto spans rising (suc d) q some is = omega (arith, span_rises spans rising q some, span_upto spans rising d (q + 1) (omega arith) (omega arith))

pub span_small : (spans : List ℕ) → Rising spans 7 → span spans 8 ≤ 8388608 → (q : ℕ) → 1 ≤ q → span spans q ≤ q * 8388608
span_small spans rising last q some =
    let a : ℕ = (q - 1) / 7 in
    let b : ℕ = (q - 1) % 7 + 1 in
    let all = ap (span spans) (let e : a * 7 + b ≡ q = omega arith in e) in
    let turned = span_turned spans a b (omega arith) in
    let rest = span_upto spans rising (8 - b) b (omega arith) (omega arith) in
    let turn : get_or spans 6 0 ≤ 8388608 = omega arith in
    omega (arith, mul-le-mul_left a turn)
