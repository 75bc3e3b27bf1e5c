-- The texts of the form of a line are the lawful lines, so what the form says of a text is what the lines say. Assumes nothing.
use Rattle.std.proofs.Common.{◌≡◌, ℕ, ◌≤◌, List, [], ◌∷◌, ◌++◌, length, drop, IsErrAnd, codes, decimal, Result, sym, refl, ap, ◌∙◌, subst, subst₂, inl, inr, ⊎_elim, arith, take-append-drop}
use Rattle.std.specs.List.{flat_map, AllByRecursion}
use Rattle.std.proofs.lemmas.Result.{err_from_is_err_and}
use Rattle.plan.specs.declared.record.Kind.{Kind}
use Rattle.plan.specs.declared.record.Kind.TheVariants.{Periodic, Sporadic, Mixed}
use Rattle.plan.specs.declared.record.Record.{Record}
use Rattle.line.specs.declared.line.LineFault.{LineFault}
use Rattle.line.specs.Line.{line_of, kind_parts, kind_numbers, Short, Lawful, Reads, Faults, Read}
use Rattle.line.specs.Tokens.{byte_of}
use Rattle.line.specs.Forms.{shared, Form, end, given, number, choice, Text, Passes, Fault}
use Rattle.line.specs.Grammar.{kind_form, line_rest, line_form}
use Rattle.line.proofs.Sharing.{shared_at_most, shared_from_whole, shared_from_front, front_from_shared, take_shared}

-- P holds of every text of the form, after what f puts before it
abbrev Each : (Record → List ℕ → Type 0) → Form → (List ℕ → List ℕ) → Type 0
Each P (end q) f = P q (f [])
Each P (given w F) f = Each P F (λ u. f (w ++ u))
Each P (number mark F) f = (n : ℕ) → Short n → Each P (F n) (λ u. f (decimal n ++ byte_of mark ∷ u))
Each P (choice F G) f = Each P F f × Each P G f

each_text : (P : Record → List ℕ → Type 0) (F : Form) (f : List ℕ → List ℕ) → Each P F f → (r : Record) (t : List ℕ) → Text F r t → P r (f t)
each_text P (end q) f h r t x = subst₂ (λ a b. P a (f b)) (sym x.0) (sym x.1) h
each_text P (given w F) f h r t x = subst (λ b. P r (f b)) (sym x.1) (each_text P F (λ u. f (w ++ u)) h r x.0 x.2)
each_text P (number mark F) f h r t x = subst (λ b. P r (f b)) (sym x.3) (each_text P (F x.0) (λ u. f (decimal x.0 ++ byte_of mark ∷ u)) (h x.0 x.2) r x.1 x.4)
each_text P (choice F G) f h r t x = ⊎_elim (λ y. each_text P F f h.0 r t y) (λ y. each_text P G f h.1 r t y) x

lawful : {r : Record} {t : List ℕ} → Text line_form r t → Lawful r × (t ≡ line_of r)
lawful {r} {t} x = each_text (λ r t. Lawful r × (t ≡ line_of r)) line_form (λ u. u) each r t x
  where
    each : Each (λ r t. Lawful r × (t ≡ line_of r)) line_form (λ u. u)
    each = λ identifier a node b bytes c. (
      λ period d offset e. (
        λ gap f jitter g due h. ((a, (b, (c, (g, (h, (d, (e, (f, tt)))))))), refl),
        λ jitter g due h. ((a, (b, (c, (g, (h, (d, (e, tt))))))), refl),
      ),
      λ gap f jitter g due h. ((a, (b, (c, (g, (h, (f, tt)))))), refl),
    )

-- the text after the word of the jitter
abbrev tail : ℕ → ℕ → List ℕ
tail jitter due = flat_map (λ part. part) (decimal jitter ∷ codes ") (due " ∷ decimal due ∷ codes "))\n" ∷ [])

tail_text : (identifier node bytes : ℕ) (k : Kind) (jitter due : ℕ) → Short jitter → Short due → Text (line_rest identifier node bytes k) (record { identifier = identifier; node = node; bytes = bytes; kind = k; jitter = jitter; due = due }) (tail jitter due)
tail_text identifier node bytes k jitter due g h = (jitter, _, g, refl, (_, refl, (_, refl, (due, _, h, refl, (_, refl, (_, refl, (refl, refl)))))))

kind_text : (K : Kind → Form) (r : Record) (k : Kind) (jitter due : ℕ) → AllByRecursion Short (kind_numbers k) → Text (K k) r (tail jitter due) → Text (kind_form K) r (flat_map (λ part. part) (kind_parts k ++ (codes " (jitter " ∷ decimal jitter ∷ codes ") (due " ∷ decimal due ∷ codes "))\n" ∷ [])))
kind_text K r (Periodic period offset) jitter due d x =
    (_, refl, inl (_, refl, (period, _, d.0, refl, (offset, _, d.1.0, refl, (_, refl, (_, refl, inr (_, refl, x)))))))
kind_text K r (Sporadic gap) jitter due d x = (_, refl, inr (_, refl, (gap, _, d.0, refl, (_, refl, (_, refl, x)))))
kind_text K r (Mixed period offset gap) jitter due d x =
    (_, refl, inl (_, refl, (period, _, d.0, refl, (offset, _, d.1.0, refl, (_, refl, (_, refl, inl (_, refl, (gap, _, d.1.1.0, refl, (_, refl, (_, refl, x))))))))))

-- the line of a record is a text of the form
text_of : (r : Record) → Lawful r → Text line_form r (line_of r)
text_of r h =
    let rest = tail_text r.identifier r.node r.bytes r.kind r.jitter r.due h.1.1.1.0 h.1.1.1.1.0 in
    let kind = kind_text (line_rest r.identifier r.node r.bytes) r r.kind r.jitter r.due h.1.1.1.1.1 rest in
    (_, refl, (r.identifier, _, h.0, refl, (_, refl, (r.node, _, h.1.0, refl, (_, refl, (_, refl, (r.bytes, _, h.1.1.0, refl, (_, refl, kind))))))))

-- the form is passed to its end
pub line_reads : {s : List ℕ} {n : ℕ} (r : Record) → Passes line_form s 0 n (end r) → Reads s r n
line_reads {s} {n} r a =
    let x = a.back r [] (refl, refl) in
    let l = lawful x.1 in
    let closes : length (line_of r) ≡ n = omega (arith, x.2.closes, ap length l.1) in
    let whole : length (line_of r) ≤ shared (line_of r) s = omega (arith, x.2.reaches, ap (λ t. shared t s) l.1) in
    record {
      lawful = l.0;
      is = front_from_shared (line_of r) s whole ∙ ap (λ k. line_of r ++ drop k s) closes;
      next = sym closes;
      only = λ q h.
          let far = shared_from_whole (line_of q) s h.rest h.is in
          elim (a.on q (line_of q) (text_of q h.lawful)) [ inl y ↦ y.1.0 | inr l ↦ absurd (omega (arith, l.partly)) ];
    }

line_faults : {s : List ℕ} {p : ℕ} → Fault line_form s 0 p → Faults s p
line_faults {s} {p} f =
    let l = lawful f.is_text in
    let place : shared f.text s ≡ p = omega (arith, f.reaches) in
    record {
      none = λ q h. omega (arith, (f.leaves q (line_of q) (text_of q h.lawful)).partly, shared_from_whole (line_of q) s h.rest h.is);
      within = omega (arith, shared_at_most f.text s);
      shared = record {
        line = f.line;
        lawful = l.0;
        rest = drop p f.text;
        is = ap (λ u. u ++ drop p f.text) (rw place at (sym (take_shared f.text s))) ∙ take-append-drop p f.text ∙ l.1;
      };
      longest = λ k h v. omega (arith, (f.leaves v.line (line_of v.line) (text_of v.line v.lawful)).early, shared_from_front k s (line_of v.line) v.rest h v.is);
    }

-- a fault is handed on
pub fault_read : {s : List ℕ} {e : LineFault} (r : Result (Record × ℕ) LineFault) → IsErrAnd r (λ y. y ≡ e) → Fault line_form s 0 e.at → Read s r
fault_read r h f = let p = err_from_is_err_and r h in rw (p.1, p.2) (line_faults f)
