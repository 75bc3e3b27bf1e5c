-- A measured sender: its spans and its limits. Assumes nothing.
use Rattle.std.specs.Prelude.{◌≡◌, ℕ, zero, suc, ◌+◌, Bool, true, not, ◌&&◌, List, [], ◌∷◌, is_ok, nat_le, nat_lt, slice_index}
use Rattle.bus.specs.declared.refusal.Refusal.TheVariants.{Identifier, Node, Bytes, Jitter, Spans}
use Rattle.bus.specs.Refused.{Rules, answer}
use Rattle.sheet.specs.declared.sender.Sender.{Sender}

-- s(q), for q = 1, 2, ..: any q consecutive arrivals lie at least so far apart. s(1) is 0, s(2) to s(8) are the seven that
-- were measured, and s(q + 7) = s(q) + s(8).
abbrev pub span : List ℕ → ℕ → ℕ
span spans zero = 0
span spans (suc zero) = 0
span spans (suc (suc zero)) = slice_index spans 0
span spans (suc (suc (suc zero))) = slice_index spans 1
span spans (suc (suc (suc (suc zero)))) = slice_index spans 2
span spans (suc (suc (suc (suc (suc zero))))) = slice_index spans 3
span spans (suc (suc (suc (suc (suc (suc zero)))))) = slice_index spans 4
span spans (suc (suc (suc (suc (suc (suc (suc zero))))))) = slice_index spans 5
span spans (suc (suc (suc (suc (suc (suc (suc (suc n)))))))) = span spans (suc n) + slice_index spans 6

-- whether the test holds of 0, 1, .., n - 1
abbrev pub every_below : ℕ → (ℕ → Bool) → Bool
every_below zero test = true
every_below (suc n) test = test n && every_below n test

-- s(2) to s(8) are each above the one before, from s(1) = 0, and at most 8,388,608
abbrev pub spans_fit : List ℕ → Bool
spans_fit spans = every_below 7 (λ k. nat_lt (span spans (k + 1)) (span spans (k + 2))) && nat_le (span spans 8) 8388608

-- what can refuse a sender by itself
abbrev pub limits : Sender → Rules
limits sender =
    (nat_lt 2047 sender.identifier, Identifier)
    ∷ (nat_lt 15 sender.node, Node)
    ∷ (nat_lt 8 sender.bytes, Bytes)
    ∷ (nat_lt 1048576 sender.jitter, Jitter)
    ∷ (not (spans_fit sender.spans), Spans)
    ∷ []

-- none of these refuses it
abbrev pub Lawful : Sender → Type 0
Lawful sender = is_ok (answer (limits sender) (tt {0})) ≡ true
