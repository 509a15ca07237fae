use Rattle.link.proofs.Moves.{history_lawful}
use Rattle.link.proofs.histories.histories_are_truthful.Goals as goal

pub returns-clause-truthful : goal.returns-clause-truthful
returns-clause-truthful g c = search history_lawful
