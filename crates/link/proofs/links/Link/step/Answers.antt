use Rattle.std.proofs.Common.{rules}
use Rattle.link.proofs.Laws.{refusal_stays, step_lawful}
use Rattle.link.proofs.links.Link.step.Goals as goal

pub returns-clause-law : goal.returns-clause-law
returns-clause-law g c = step_lawful g.K.Channel g.L.Channel _ _ _ _ (search rules)

pub returns-clause-refused : goal.returns-clause-refused
returns-clause-refused g c = refusal_stays _ _ _ _ c.make-answer.ensures.open_answer.leads
