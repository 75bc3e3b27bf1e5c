use Rattle.line.specs.Reader.{Past}
use Rattle.line.specs.Grammar.{line_rest, line_form}
use Rattle.line.proofs.Lines.{line_reads, fault_read}
use Rattle.line.proofs.Passing.{past_given, pass_on, stop_on, fault_given}
use Rattle.line.proofs.line.read_line.Goals as goal
use Rattle.line.proofs.line.read_line.Goals.{In_ok-kind}

past_kind : (c : In_ok-kind) → Past line_form (record { text = c.args.text; at = 0 }) c.read_kind.new.reader (line_rest c.in_ok-identifier.identifier c.in_ok-node.node c.in_ok-bytes.bytes c.in_ok-kind.kind)
past_kind c =
    pass_on (past_given c.in_ok-opening.ensures) (pass_on (c.in_ok-identifier.ensures _) (pass_on (c.in_ok-node.ensures _) (pass_on (c.in_ok-bytes.ensures _) (
    c.in_ok-kind.ensures (line_rest c.in_ok-identifier.identifier c.in_ok-node.node c.in_ok-bytes.bytes)))))

pub returns-in_err-opening : goal.returns-in_err-opening
returns-in_err-opening c = fault_read _ c.from_residual.ensures.1 (fault_given c.in_err-opening.ensures)

pub returns-in_err-identifier : goal.returns-in_err-identifier
returns-in_err-identifier c = fault_read _ c.from_residual-in_err-identifier.ensures.1 (stop_on (past_given c.in_ok-opening.ensures) (c.in_err-identifier.ensures _))

pub returns-in_err-node : goal.returns-in_err-node
returns-in_err-node c = fault_read _ c.from_residual-in_err-node.ensures.1 (stop_on (past_given c.in_ok-opening.ensures) (stop_on (c.in_ok-identifier.ensures _) (c.in_err-node.ensures _)))

pub returns-in_err-bytes : goal.returns-in_err-bytes
returns-in_err-bytes c = fault_read _ c.from_residual-in_err-bytes.ensures.1 (stop_on (past_given c.in_ok-opening.ensures) (stop_on (c.in_ok-identifier.ensures _) (stop_on (c.in_ok-node.ensures _) (c.in_err-bytes.ensures _))))

pub returns-in_err-kind : goal.returns-in_err-kind
returns-in_err-kind c =
    fault_read _ c.from_residual-in_err-kind.ensures.1 (stop_on (past_given c.in_ok-opening.ensures) (stop_on (c.in_ok-identifier.ensures _) (stop_on (c.in_ok-node.ensures _) (stop_on (c.in_ok-bytes.ensures _) (
    c.in_err-kind.ensures (line_rest c.in_ok-identifier.identifier c.in_ok-node.node c.in_ok-bytes.bytes))))))

pub returns-in_err-jitter : goal.returns-in_err-jitter
returns-in_err-jitter c = fault_read _ c.from_residual-in_err-jitter.ensures.1 (stop_on (past_kind (goal.at.returns-in_err-jitter c).In_ok-kind) (c.in_err-jitter.ensures _))

pub returns-in_err-due : goal.returns-in_err-due
returns-in_err-due c = fault_read _ c.from_residual-in_err-due.ensures.1 (stop_on (past_kind (goal.at.returns-in_err-due c).In_ok-kind) (stop_on (c.in_ok-jitter.ensures _) (c.in_err-due.ensures _)))

pub returns-in_err-mark : goal.returns-in_err-mark
returns-in_err-mark c = fault_read _ c.from_residual-in_err-mark.ensures.1 (stop_on (past_kind (goal.at.returns-in_err-mark c).In_ok-kind) (stop_on (c.in_ok-jitter.ensures _) (stop_on (c.in_ok-due.ensures _) (fault_given c.in_err-mark.ensures))))

pub returns : goal.returns
returns c = line_reads _ (pass_on (past_kind (goal.at.returns c).In_ok-kind) (pass_on (c.in_ok-jitter.ensures _) (pass_on (c.in_ok-due.ensures _) (past_given c.in_ok-mark.ensures)))).passes
