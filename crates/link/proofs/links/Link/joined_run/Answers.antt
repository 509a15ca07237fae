use Rattle.std.proofs.Common.{◌≡◌, [], length, take, refl, rules}
use Rattle.link.specs.Histories.{HistoryLeads}
use Rattle.link.specs.Laws.{IsLawful}
use Rattle.link.specs.Runs.{written}
use Rattle.link.specs.States.{plain, started}
use Rattle.link.proofs.Laws.{outcome_told}
use Rattle.link.proofs.RunLaws.{events_leave}
use Rattle.link.proofs.links.Link.joined_run.Given as given
use Rattle.link.proofs.links.Link.joined_run.Goals as goal

-- the log is a history from the join on, and the law holds of it
lawful : (g : given.Over) (c : goal.In_default-run g)
    → HistoryLeads c.args.book.now c.args.repeats (take (length c.args.calls.now) c.run.new.log) (plain g.K.Channel g.L.Channel c.run.new.self)
    × IsLawful c.args.book.now c.args.repeats (take (length c.args.calls.now) c.run.new.log)
lawful g c =
    let begun : HistoryLeads c.args.book.now c.args.repeats [] (plain g.K.Channel g.L.Channel c.join.new.self) = search (rules, c.join.ensures.law) in
    let all : written c.args.calls.now c.args.log.now c.run.new.log ≡ take (length c.args.calls.now) c.run.new.log = search rules in
    rw all at (c.run.ensures.law c.args.repeats [] begun)

pub returns-clause-after : goal.returns-clause-after
returns-clause-after g c = events_leave c.args.book.now (started c.args.repeats) _ _ (lawful g c).0.1

pub returns-clause-law : goal.returns-clause-law
returns-clause-law g c = lawful g c

pub returns-clause-outcome : goal.returns-clause-outcome
returns-clause-outcome g c = outcome_told _ _ refl _ _ _ (lawful g c).0
