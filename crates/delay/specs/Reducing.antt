-- Phases reduced into a cycle. Assumes nothing.
use Rattle.std.specs.Prelude.{◌≡◌, ℕ, zero, suc, ◌+◌, ◌-◌, ◌*◌, ◌/◌, ◌%◌, ◌<◌, ◌≤◌, ℤ, pos, negsuc, ◌+ℤ◌, ◌-ℤ◌, unsigned_abs, refl}
use Rattle.std.proofs.Common.{sym, ap, ◌∙◌, arith, mod-lt, mod-eq_of_lt, div-add-mod', add-mul}
use Rattle.std.proofs.Math.Nat.{mod-add-mod, add-mod_right}
use Rattle.std.specs.Int.{int_rem_euclid}
use Rattle.std.proofs.lemmas.Int.{ints, int_rem_euclid_is}
use Rattle.bus.specs.Run.{reduced}

remainder : (c : ℕ) (z : ℤ) → int_rem_euclid z (pos c) ≡ pos (reduced c z)
remainder c (pos n) = refl
remainder c (negsuc n) = refl

-- k cycles after z comes x
reduced_is : (c : ℕ) (z : ℤ) (k x : ℕ) → 0 < c → z +ℤ pos (k * c) ≡ pos x → reduced c z ≡ x % c
reduced_is c z k x some e = ap unsigned_abs (sym (remainder c z) ∙ int_rem_euclid_is z (pos c) c k x some refl e)

times_grows : (c n : ℕ) → 0 < c → n ≤ n * c
times_grows c zero some = omega arith
times_grows c (suc n) some = omega (arith, times_grows c n some, add-mul n 1 c)

-- some cycles after z comes a natural number
cycles_after : (c : ℕ) (z : ℤ) → 0 < c → (k : ℕ) × (x : ℕ) × (z +ℤ pos (k * c) ≡ pos x)
cycles_after c (pos n) some = (0, n, omega (arith, ints))
cycles_after c (negsuc n) some = (suc n, suc n * c - suc n, let h : suc n ≤ suc n * c = times_grows c (suc n) some in omega (arith, ints))

reduced_back : (c : ℕ) (z : ℤ) (e k x : ℕ) → 0 < c → z +ℤ pos (k * c) ≡ pos x → reduced c (z -ℤ pos e) ≡ (x + (c - e % c)) % c
reduced_back c z e k x some is =
    let below : e % c < c = mod-lt e some in
    let parts : e / c * c + e % c ≡ e = div-add-mod' e c in
    let more : (k + (e / c + 1)) * c ≡ k * c + (e / c + 1) * c = add-mul k (e / c + 1) c in
    let one : (e / c + 1) * c ≡ e / c * c + 1 * c = add-mul (e / c) 1 c in
    reduced_is c (z -ℤ pos e) (k + (e / c + 1)) (x + (c - e % c)) some (omega (arith, ints))

-- e before the phase p
pub reduced_from : (c p e : ℕ) → 0 < c → reduced c (pos p -ℤ pos e) ≡ (p + (c - e % c)) % c
reduced_from c p e some = reduced_back c (pos p) e 0 p some (omega (arith, ints))

-- to reduce before going back changes nothing
pub reduced_twice : (c : ℕ) (z : ℤ) (e : ℕ) → 0 < c → reduced c (pos (reduced c z) -ℤ pos e) ≡ reduced c (z -ℤ pos e)
reduced_twice c z e some =
    let w = cycles_after c z some in
    reduced_from c (reduced c z) e some
    ∙ ap (λ y. (y + (c - e % c)) % c) (reduced_is c z w.0 w.1 some w.2)
    ∙ mod-add-mod w.1 c (c - e % c)
    ∙ sym (reduced_back c z e w.0 w.1 some w.2)

-- the phase after p, and the one after that which stands e before p
pub reduced_next : (c p e : ℕ) → 0 < c → reduced c (pos ((p + 1) % c) -ℤ pos e) ≡ (reduced c (pos p -ℤ pos e) + 1) % c
reduced_next c p e some =
    reduced_from c ((p + 1) % c) e some
    ∙ mod-add-mod (p + 1) c (c - e % c)
    ∙ ap (λ y. y % c) (omega arith)
    ∙ sym (mod-add-mod (p + (c - e % c)) c 1)
    ∙ ap (λ y. (y + 1) % c) (sym (reduced_from c p e some))

pub reduced_down : (c p e : ℕ) → p < c → e % c ≤ p → reduced c (pos p -ℤ pos e) ≡ p - e % c
reduced_down c p e inside h =
    let some : 0 < c = omega arith in
    let below : e % c < c = mod-lt e some in
    reduced_from c p e some ∙ ap (λ y. y % c) (omega arith) ∙ add-mod_right (p - e % c) c ∙ mod-eq_of_lt (omega arith)

pub reduced_up : (c p e : ℕ) → p < c → p < e % c → reduced c (pos p -ℤ pos e) ≡ p + c - e % c
reduced_up c p e inside h =
    let some : 0 < c = omega arith in
    let below : e % c < c = mod-lt e some in
    reduced_from c p e some ∙ mod-eq_of_lt (omega arith) ∙ omega arith
