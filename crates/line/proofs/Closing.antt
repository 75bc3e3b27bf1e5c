-- A number that is read before a line feed stands there. Assumes nothing.
use Rattle.std.proofs.Common.{◌≡◌, ℕ, ◌≤◌, List, [], ◌∷◌, ◌++◌, length, drop, IsErrAnd, decimal, Result, sym, refl, ap, ◌∙◌, subst, append_assoc, arith, length-append}
use Rattle.std.proofs.lemmas.Result.{err_from_is_err_and}
use Rattle.plan.specs.declared.record.Kind.TheVariants.{Sporadic}
use Rattle.plan.specs.declared.record.Record.{Record}
use Rattle.line.specs.declared.line.LineFault.{LineFault}
use Rattle.line.specs.declared.tokens.Mark.TheVariants.{Feed}
use Rattle.line.specs.Line.{Short}
use Rattle.line.specs.Forms.{shared, Form, end, number, Text, Passes, Fault}
use Rattle.line.specs.Number.{ReadsNumber, NumberRead}
use Rattle.line.proofs.Sharing.{shared_from_whole, front_from_shared}

-- a record that tells the number
abbrev telling : ℕ → Record
telling n = record { identifier = n; node = 0; bytes = 0; kind = Sporadic 0; jitter = 0; due = 0 }

abbrev closed : ℕ → Form
closed n = end (telling n)

text_of : (n : ℕ) → Short n → Text (number Feed closed) (telling n) (decimal n ++ 10 ∷ [])
text_of n h = (n, [], h, refl, (refl, refl))

pub number_reads : {s : List ℕ} {n next : ℕ} → ((K : ℕ → Form) → Passes (number Feed K) s 0 next (K n)) → ReadsNumber s n next
number_reads {s} {n} {next} gives =
    let t : List ℕ = decimal n ++ 10 ∷ [] in
    let x = (gives closed).back (telling n) [] (refl, refl) in
    let same : x.1.0 ≡ n = sym (ap (λ (r : Record). r.identifier) x.1.4.0) in
    let is : x.0 ≡ t = x.1.3 ∙ ap (λ u. decimal x.1.0 ++ 10 ∷ u) x.1.4.1 ∙ ap (λ k. decimal k ++ 10 ∷ []) same in
    let closes : length t ≡ next = omega (arith, x.2.closes, ap length is) in
    let whole : length t ≤ shared t s = omega (arith, x.2.reaches, ap (λ u. shared u s) is) in
    record {
      short = subst Short same x.1.2;
      is = front_from_shared t s whole ∙ append_assoc (decimal n) (10 ∷ []) (drop (length t) s) ∙ ap (λ k. decimal n ++ 10 ∷ drop k s) closes;
      ends = omega (arith, length-append (decimal n) (10 ∷ []));
    }

-- a fault is handed on
pub fault_number_read : {s : List ℕ} {e : LineFault} (r : Result (ℕ × ℕ) LineFault) → IsErrAnd r (λ y. y ≡ e) → ((K : ℕ → Form) → Fault (number Feed K) s 0 e.at) → NumberRead s r
fault_number_read {s} r h gives = let p = err_from_is_err_and r h in rw p.1 (λ n rest h is.
    let t : List ℕ = decimal n ++ 10 ∷ [] in
    omega (arith, ((gives closed).leaves (telling n) t (text_of n h)).partly, shared_from_whole t s rest (is ∙ sym (append_assoc (decimal n) (10 ∷ []) rest))))
