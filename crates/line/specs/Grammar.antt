-- The form of a line, in the parts that are read one after another. Assumes nothing.
use Rattle.std.specs.Prelude.{ℕ, [], ◌∷◌, codes}
use Rattle.plan.specs.declared.record.Kind.{Kind}
use Rattle.plan.specs.declared.record.Kind.TheVariants.{Periodic, Sporadic, Mixed}
use Rattle.line.specs.declared.line.Start.{Start}
use Rattle.line.specs.declared.line.Start.TheVariants.{Timed, Event}
use Rattle.line.specs.declared.line.Rest.{Rest}
use Rattle.line.specs.declared.line.Rest.TheVariants.{Gap, Jitter}
use Rattle.line.specs.declared.tokens.Mark.TheVariants.{Close, Space}
use Rattle.line.specs.Forms.{Form, end, given, number}
use Rattle.line.specs.Reader.{opening, amount, field, either}

-- `G) (jitter `
abbrev pub gap_form : (ℕ → Form) → Form
gap_form K = amount Space (λ gap. given (opening (codes "jitter")) (K gap))

-- `T O) (event G) (jitter ` or `T O) (jitter `
abbrev pub timed_rest : (Kind → Form) → ℕ → ℕ → Rest → Form
timed_rest K period offset Gap = gap_form (λ gap. K (Mixed period offset gap))
timed_rest K period offset Jitter = K (Periodic period offset)

abbrev pub timed_form : (Kind → Form) → Form
timed_form K = number Space (λ period. amount Space (λ offset. either (codes "event", Gap) (codes "jitter", Jitter) (timed_rest K period offset)))

-- the kind, up to the word of the jitter, which tells that no more of it comes
abbrev pub kind_rest : (Kind → Form) → Start → Form
kind_rest K Timed = timed_form K
kind_rest K Event = gap_form (λ gap. K (Sporadic gap))

abbrev pub kind_form : (Kind → Form) → Form
kind_form K = either (codes "timed", Timed) (codes "event", Event) (kind_rest K)

-- what comes after the word of the jitter
abbrev pub line_rest : ℕ → ℕ → ℕ → Kind → Form
line_rest identifier node bytes kind =
    amount Space (λ jitter. field (codes "due") Close (λ due. given (10 ∷ []) (
    end (record { identifier = identifier; node = node; bytes = bytes; kind = kind; jitter = jitter; due = due }))))

abbrev pub line_form : Form
line_form =
    given (opening (codes "message")) (number Space (λ identifier.
    field (codes "node") Space (λ node.
    field (codes "bytes") Space (λ bytes.
    kind_form (line_rest identifier node bytes)))))
