-- How the reach of a text passes from the parts of a form to the whole. Assumes nothing.
use Rattle.std.proofs.Common.{◌≡◌, ℕ, ◌+◌, ◌<◌, ◌≤◌, max, ◌⊎◌, List, [], ◌∷◌, ◌++◌, length, get_or, drop, IsErrAnd, Ok, Err, decimal, Result, sym, refl, ap, ◌∙◌, ap₂, inl, inr, append_assoc, arith, lit<, length-append, ◌≢◌}
use Rattle.std.proofs.lemmas.Bool.{cases_lt}
use Rattle.std.proofs.lemmas.Result.{err_from_is_err_and}
use Rattle.plan.specs.declared.record.Record.{Record}
use Rattle.line.specs.declared.line.LineFault.{LineFault}
use Rattle.line.specs.declared.names.Name.{Name}
use Rattle.line.specs.declared.reader.Reader.{Reader}
use Rattle.line.specs.Tokens.{byte_of, Stands}
use Rattle.line.specs.Forms.{shared, Form, end, given, number, choice, Text, Leads, Leaves, Passes, Fault}
use Rattle.line.specs.Names.{name_text}
use Rattle.line.specs.Reader.{Missed, Skips, Past, Gives, either}
use Rattle.line.proofs.Words.{some, begin_apart}
use Rattle.line.proofs.Sharing.{shared_append, shared_short, shared_none}

-- every form has a text
pub some_text : (F : Form) → (r : Record) × (t : List ℕ) × Text F r t
some_text (end q) = (q, [], (refl, refl))
some_text (given w F) = let x = some_text F in (x.0, w ++ x.1, (x.1, refl, x.2))
some_text (number mark F) = let x = some_text (F 0) in (x.0, decimal 0 ++ byte_of mark ∷ x.1, (0, x.1, lit< tt, refl, x.2))
some_text (choice F G) = let x = some_text F in (x.0, x.1, inl x.2)

later : {s t : List ℕ} {at n m : ℕ} → n ≤ m → Leaves s at n t → Leaves s at m t
later le l = record { early = omega arith; partly = l.partly }

-- one step after another
pub pass : {F G H : Form} {s : List ℕ} {at n m : ℕ} → Passes F s at n G → Passes G s n m H → Passes F s at m H
pass a b = record {
  onward = omega arith;
  back = λ r u x.
      let y = b.back r u x in
      let z = a.back r y.0 y.1 in
      (z.0, z.1, record { reaches = z.2.reaches ∙ y.2.reaches; closes = z.2.closes ∙ y.2.closes });
  on = λ r t x. elim (a.on r t x) [
    | inl y ↦ elim (b.on r y.0 y.1) [
      | inl z ↦ inl (z.0, z.1, record { reaches = y.2.reaches ∙ z.2.reaches; closes = y.2.closes ∙ z.2.closes })
      | inr l ↦ inr (record { early = omega (arith, y.2.reaches, l.early); partly = omega (arith, y.2.reaches, y.2.closes, l.partly) })
    ]
    | inr l ↦ inr (later b.onward l)
  ];
}

-- a fault after a step
pub stop : {F G : Form} {s : List ℕ} {at n p : ℕ} → Passes F s at n G → Fault G s n p → Fault F s at p
stop {p = p} a f =
    let far = a.back f.line f.text f.is_text in
    record {
      line = f.line;
      text = far.0;
      is_text = far.1;
      reaches = f.reaches ∙ sym far.2.reaches;
      leaves = λ r t x. elim (a.on r t x) [
        | inl y ↦ let l = f.leaves r y.0 y.1 in record { early = omega (arith, y.2.reaches, l.early); partly = omega (arith, y.2.reaches, y.2.closes, l.partly) }
        | inr l ↦ later (omega (arith, f.reaches)) l
      ];
    }

-- given bytes that stand there
pub pass_given : {F : Form} {w s : List ℕ} {at n : ℕ} → Stands w s at n → Passes (given w F) s at n F
pass_given {F} {w} {s} {at} {n} h = record {
  onward = omega (arith, h.ends);
  back = λ r u x. (w ++ u, (u, refl, x), leads (w ++ u) u refl);
  on = λ r t x. inl (x.0, x.2, leads t x.0 x.1);
}
  where
    leads : (t u : List ℕ) → t ≡ w ++ u → Leads s at n t u
    leads t u is = record {
      reaches = omega (arith, ap₂ shared is h.is ∙ shared_append w u (drop n s), h.ends);
      closes = omega (arith, ap length is ∙ length-append w u, h.ends);
    }

-- given bytes that do not stand there
pub fault_given : {F : Form} {w s : List ℕ} {at p : ℕ} → Missed w s at p → Fault (given w F) s at p
fault_given {F} {w} {s} {at} {p} h =
    let x = some_text F in
    record {
      line = x.0;
      text = w ++ x.1;
      is_text = (x.1, refl, x.2);
      reaches = omega (arith, h.place, same (w ++ x.1) x.1 refl);
      leaves = λ r t y. record {
        early = omega (arith, h.place, same t y.0 y.1);
        partly = omega (arith, h.short, same t y.0 y.1, ap length y.1 ∙ length-append w y.0);
      };
    }
  where
    same : (t u : List ℕ) → t ≡ w ++ u → shared t (drop at s) ≡ shared w (drop at s)
    same t u is = ap (λ z. shared z (drop at s)) is ∙ shared_short w u (drop at s) h.short

-- given bytes, in two parts
stands_both : {v w s : List ℕ} {at n m : ℕ} → Stands v s at n → Stands w s n m → Stands (v ++ w) s at m
stands_both {v} {w} {s} {at} {n} {m} h k = record {
  is = h.is ∙ ap (λ u. v ++ u) k.is ∙ sym (append_assoc v w (drop m s));
  ends = omega (arith, h.ends, k.ends, length-append v w);
}

missed_second : {v w s : List ℕ} {at n p : ℕ} → Stands v s at n → Missed w s n p → Missed (v ++ w) s at p
missed_second {v} {w} {s} {at} {n} {p} h k =
    let same = ap (shared (v ++ w)) h.is ∙ shared_append v w (drop n s) in
    record { short = omega (arith, k.short, length-append v w); place = omega (arith, h.ends, k.place) }

-- no text of the form begins with what stands there
pub record Apart (F : Form) (s : List ℕ) (at : ℕ) : Type 0 where
  pub leaves : (r : Record) (t : List ℕ) → Text F r t → Leaves s at (at + 1) t

pub fault_apart : {F : Form} {s : List ℕ} {at : ℕ} → Apart F s at → Fault F s at at
fault_apart {F} away =
    let x = some_text F in
    record { line = x.0; text = x.1; is_text = x.2; reaches = omega (arith, (away.leaves x.0 x.1 x.2).early); leaves = away.leaves }

-- where what stands at `at` goes on to m, the texts of F are those of G
pub record Narrows (F : Form) (s : List ℕ) (at m : ℕ) (G : Form) : Type 0 where
  pub back : (r : Record) (t : List ℕ) → Text G r t → Text F r t
  pub on : (r : Record) (t : List ℕ) → Text F r t → Text G r t ⊎ Leaves s at m t

pub narrow_passes : {F G K : Form} {s : List ℕ} {at m n : ℕ} → m ≤ n → Narrows F s at m G → Passes G s at n K → Passes F s at n K
narrow_passes le h a = record {
  onward = a.onward;
  back = λ r u x. let y = a.back r u x in (y.0, h.back r y.0 y.1, y.2);
  on = λ r t x. elim (h.on r t x) [ inl y ↦ a.on r t y | inr l ↦ inr (later le l) ];
}

pub narrow_faults : {F G : Form} {s : List ℕ} {at m p : ℕ} → m ≤ p + 1 → Narrows F s at m G → Fault G s at p → Fault F s at p
narrow_faults le h f = record {
  line = f.line;
  text = f.text;
  is_text = h.back f.line f.text f.is_text;
  reaches = f.reaches;
  leaves = λ r t x. elim (h.on r t x) [ inl y ↦ f.leaves r t y | inr l ↦ later le l ];
}

narrow_first : {F G : Form} {s : List ℕ} {at : ℕ} → Apart G s at → Narrows (choice F G) s at (at + 1) F
narrow_first away = record { back = λ r t x. inl x; on = λ r t x. elim x [ inl y ↦ inl y | inr y ↦ inr (away.leaves r t y) ] }

narrow_second : {F G : Form} {s : List ℕ} {at : ℕ} → Apart F s at → Narrows (choice F G) s at (at + 1) G
narrow_second away = record { back = λ r t x. inr x; on = λ r t x. elim x [ inl y ↦ inr (away.leaves r t y) | inr y ↦ inl y ] }

apart_given : {F : Form} {w s : List ℕ} {at c : ℕ} → (get_or (drop at s) 0 0 ≡ c → ⊥) → Apart (given (c ∷ w) F) s at
apart_given {F} {w} {s} {at} {c} h = record {
  leaves = λ r t x.
      let none = ap (λ z. shared z (drop at s)) x.1 ∙ shared_none c (w ++ x.0) (drop at s) h in
      record { early = omega arith; partly = omega (arith, ap length x.1) };
}

-- where neither of two stands there, the farther fault is the fault of the choice
pub fault_choice : {F G : Form} {s : List ℕ} {at p q : ℕ} → Fault F s at p → Fault G s at q → Fault (choice F G) s at (max p q)
fault_choice {F} {G} {s} {at} {p} {q} f g = elim (cases_lt p q) [
  | inl less ↦ record { line = g.line; text = g.text; is_text = inr g.is_text; reaches = omega (arith, g.reaches); leaves = leaves }
  | inr more ↦ record { line = f.line; text = f.text; is_text = inl f.is_text; reaches = omega (arith, f.reaches); leaves = leaves }
]
  where
    leaves : (r : Record) (t : List ℕ) → Text (choice F G) r t → Leaves s at (max p q + 1) t
    leaves r t x = elim x [ inl y ↦ later (omega arith) (f.leaves r t y) | inr y ↦ later (omega arith) (g.leaves r t y) ]

-- where one of two words that begin apart stands, the other shares nothing
begins : (v s : List ℕ) (at n : ℕ) → 0 < length v → Stands (v ++ 32 ∷ []) s at n → get_or (drop at s) 0 0 ≡ get_or v 0 0
begins [] s at n h k = absurd (omega arith)
begins (c ∷ v) s at n h k = ap (λ u. get_or u 0 0) k.is

apart_words : (F : Form) (v w s : List ℕ) (at n : ℕ) → 0 < length v → 0 < length w → get_or v 0 0 ≢ get_or w 0 0 → Stands (v ++ 32 ∷ []) s at n → Apart (given (w ++ 32 ∷ []) F) s at
apart_words F v [] s at n a b differ h = absurd (omega arith)
apart_words F v (c ∷ w) s at n a b differ h = apart_given (λ e. differ (sym (begins v s at n a h) ∙ e))

apart_names : (F : Form) (v w : Name) (s : List ℕ) (at n : ℕ) → v ≢ w → Stands (name_text v ++ 32 ∷ []) s at n → Apart (given (name_text w ++ 32 ∷ []) F) s at
apart_names F v w s at n differ h = apart_words F (name_text v) (name_text w) s at n (some v) (some w) (begin_apart v w differ) h

-- a reader skips the bytes w
abbrev pub Skipped : List ℕ → Reader → Reader → Type 0
Skipped w a b = Skips w a b (Ok tt)

pub past_given : {F : Form} {w : List ℕ} {a b : Reader} → Skipped w a b → Past (given w F) a b F
past_given h = record { same = h.0; passes = pass_given h.1 }

-- one step of a reader after another
pub pass_on : {F G H : Form} {a b c : Reader} → Past F a b G → Past G b c H → Past F a c H
pass_on x y = record { same = y.same ∙ x.same; passes = pass x.passes (rw x.same at y.passes) }

-- a fault after a step of a reader
pub stop_on : {F G : Form} {a b : Reader} {p : ℕ} → Past F a b G → Fault G b.text.now b.at p → Fault F a.text.now a.at p
stop_on x f = stop x.passes (rw x.same at f)

-- bytes read in two parts
pub then_skips : {v : List ℕ} {a b : Reader} (w : List ℕ) (c : Reader) (r : Result (Unit {0}) LineFault) → Skipped v a b → Skips w b c r → Skips (v ++ w) a c r
then_skips w c (Ok u) h k = (k.0 ∙ h.0, stands_both h.1 (rw h.0 at k.1))
then_skips w c (Err fault) h k = missed_second h.1 (rw h.0 at k)

module _ {C : Type 0} {v w : Name} {x y : C} {a b c : Reader} (K : C → Form) (differ : v ≢ w) (bracket : Skipped (40 ∷ []) a b) where
  pub pass_first : Skipped (name_text v ++ 32 ∷ []) b c → Past (either (name_text v, x) (name_text w, y) K) a c (K x)
  pass_first h = pass_on (past_given bracket) (record {
    same = h.0;
    passes = narrow_passes (omega (arith, h.1.ends, length-append (name_text v) (32 ∷ []))) (narrow_first (apart_names (K y) v w b.text.now b.at c.at differ h.1)) (pass_given h.1);
  })

  pub pass_second : Skipped (name_text w ++ 32 ∷ []) b c → Past (either (name_text v, x) (name_text w, y) K) a c (K y)
  pass_second h = pass_on (past_given bracket) (record {
    same = h.0;
    passes = narrow_passes (omega (arith, h.1.ends, length-append (name_text w) (32 ∷ []))) (narrow_second (apart_names (K x) w v b.text.now b.at c.at (λ e. differ (sym e)) h.1)) (pass_given h.1);
  })

-- a value read after a step
pub pass_gives : {A : Type 0} {F : (A → Form) → Form} {a b : Reader} (G : (A → Form) → Form) (c : Reader) (r : Result A LineFault) → ((K : A → Form) → Past (F K) a b (G K)) → Gives G b c r → Gives F a c r
pass_gives G c (Ok v) h g = λ K. pass_on (h K) (g K)
pass_gives G c (Err e) h g = λ K. stop_on (h K) (g K)

-- a fault is handed on
pub fault_skips : {e : LineFault} (w : List ℕ) (a b : Reader) (r : Result (Unit {0}) LineFault) → IsErrAnd r (λ y. y ≡ e) → Missed w a.text.now a.at e.at → Skips w a b r
fault_skips w a b r h f = let p = err_from_is_err_and r h in rw (p.1, p.2) f

pub fault_gives : {A : Type 0} {e : LineFault} (F : (A → Form) → Form) (a b : Reader) (r : Result A LineFault) → IsErrAnd r (λ y. y ≡ e) → ((K : A → Form) → Fault (F K) a.text.now a.at e.at) → Gives F a b r
fault_gives F a b r h f = let p = err_from_is_err_and r h in rw (p.1, p.2) f
