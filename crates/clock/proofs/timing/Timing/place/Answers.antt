use Rattle.clock.proofs.Firsts.{first_places}
use Rattle.clock.proofs.timing.Timing.place.Goals as goal

pub returns-clause-first : goal.returns-clause-first
returns-clause-first c = first_places

pub returns-then-not-is_paced-clause-first : goal.returns-then-not-is_paced-clause-first
returns-then-not-is_paced-clause-first c = first_places
