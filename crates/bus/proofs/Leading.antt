-- Which instances go before one of their stream. Assumes nothing.
use Rattle.std.proofs.Common.{◌≡◌, ℕ, true, ◌&&◌, eqb, List, ℤ, ◌≤ℤ◌, ◌<ℤ◌}
use lib.Signed.{lt_z, le_z}
use Rattle.std.proofs.lemmas.Bool.{and_parts, and_from, eqb-true, eq-eqb}
use Rattle.bus.specs.Run.{Instance, at, leads}
use Rattle.bus.proofs.Growing.{upto}
use Rattle.bus.proofs.Moments.{lt_ltZ, ltZ_true, leZ_true}

-- x is of k's stream, queued at or after s, and starts before k
pub record Leads (run : List Instance) (s : ℤ) (k x : ℕ) : Type 0 where
  pub stream : (at run x).stream ≡ (at run k).stream
  pub queued : s ≤ℤ (at run x).queued
  pub before : (at run x).start <ℤ (at run k).start

pub leads_true : (run : List Instance) (s : ℤ) (k x : ℕ) → leads run s k x ≡ true → Leads run s k x
leads_true run s k x e =
    let a = and_parts (eqb (at run x).stream (at run k).stream) (le_z s (at run x).queued && lt_z (at run x).start (at run k).start) e in
    let b = and_parts (le_z s (at run x).queued) (lt_z (at run x).start (at run k).start) a.1 in
    record { stream = eqb-true _ _ a.0; queued = leZ_true _ _ b.0; before = ltZ_true _ _ b.1 }

pub true_leads : (run : List Instance) (s : ℤ) (k x : ℕ) → Leads run s k x → leads run s k x ≡ true
true_leads run s k x h = and_from _ _ (eq-eqb _ _ h.stream) (and_from _ _ (upto _ _ h.queued) (lt_ltZ _ _ h.before))
