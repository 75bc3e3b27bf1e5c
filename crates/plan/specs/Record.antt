-- The limits of a record, and what refuses one. Assumes nothing.
use Rattle.std.specs.Prelude.{ℕ, Bool, true, not, ◌&&◌, [], ◌∷◌, is_ok, nat_le, nat_lt}
use Rattle.bus.specs.declared.refusal.Refusal.TheVariants.{Identifier, Node, Bytes, Period, Offset, Jitter, Due}
use Rattle.bus.specs.Refused.{Rules, answer}
use Rattle.plan.specs.declared.record.Kind.{Kind}
use Rattle.plan.specs.declared.record.Kind.TheVariants.{Periodic, Sporadic, Mixed}
use Rattle.plan.specs.declared.record.Record.{Record}

-- a period or a gap is 1 to 1,048,576
abbrev pub interval : ℕ → Bool
interval n = nat_lt 0 n && nat_le n 1048576

abbrev pub intervals : Kind → Bool
intervals (Periodic period offset) = interval period
intervals (Sporadic gap) = interval gap
intervals (Mixed period offset gap) = interval period && interval gap

abbrev pub offset_below : Kind → Bool
offset_below (Periodic period offset) = nat_lt offset period
offset_below (Sporadic gap) = true
offset_below (Mixed period offset gap) = nat_lt offset period

-- what refuses a record by itself, in rising number
abbrev pub limits : Record → Rules
limits r =
    (nat_lt 2047 r.identifier, Identifier)
    ∷ (nat_lt 15 r.node, Node)
    ∷ (nat_lt 8 r.bytes, Bytes)
    ∷ (not (intervals r.kind), Period)
    ∷ (not (offset_below r.kind), Offset)
    ∷ (nat_lt 1048576 r.jitter, Jitter)
    ∷ (not (nat_lt 0 r.due && nat_le r.due 4194304), Due)
    ∷ []

-- whether nothing does
abbrev pub within : Record → Bool
within r = is_ok (answer (limits r) (tt {0}))
