use Rattle.std.proofs.Common.{arith}
use Rattle.clock.proofs.Multiples.{lcm_found, least_multiples}
use Rattle.clock.proofs.multiple.lcm.Goals as goal

pub returns-clause-pair : goal.returns-clause-pair
returns-clause-pair c = rw (c.from.ensures, c.from-2.ensures) (lcm_found c.args.a c.args.b c.gcd.result (omega arith) c.gcd.ensures)

pub returns-clause-lists : goal.returns-clause-lists
returns-clause-lists c = least_multiples

pub returns-then-a-eq0-clause-lists : goal.returns-then-a-eq0-clause-lists
returns-then-a-eq0-clause-lists c = least_multiples
