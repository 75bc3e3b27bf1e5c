use Rattle.line.proofs.Closing.{number_reads, fault_number_read}
use Rattle.line.proofs.number.read_number.Goals as goal

pub returns-in_err-n : goal.returns-in_err-n
returns-in_err-n c = fault_number_read _ c.from_residual.ensures.1 c.in_err-n.ensures

pub returns : goal.returns
returns c = number_reads (λ K. (c.in_ok-n.ensures K).passes)
