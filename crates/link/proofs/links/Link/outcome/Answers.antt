use Rattle.std.proofs.Common.{rules}
use Rattle.link.proofs.Laws.{outcome_told}
use Rattle.link.proofs.links.Link.outcome.Goals as goal

pub returns-in_err-joined-clause-law : goal.returns-in_err-joined-clause-law
returns-in_err-joined-clause-law g c = outcome_told _ _ (search rules)

pub returns-then-is_open-clause-law : goal.returns-then-is_open-clause-law
returns-then-is_open-clause-law g c = outcome_told _ _ (search rules)

pub returns-in_err-word-clause-law : goal.returns-in_err-word-clause-law
returns-in_err-word-clause-law g c = outcome_told _ _ (search rules)

pub returns-clause-law : goal.returns-clause-law
returns-clause-law g c = outcome_told _ _ (search rules)
