use Rattle.std.proofs.Common.{◌≡◌, length, take, take_all, arith, rules}
use Rattle.showlink.proofs.send_three.Given as given
use Rattle.showlink.proofs.send_three.Goals as goal

-- the log has one entry for each call
whole : (g : given.Over) (c : goal.In_ok-link g) → take 27 c.joined_run.new.log ≡ c.joined_run.new.log
whole g c =
    let size : length c.joined_run.new.log ≡ 27 = search rules in
    take_all 27 c.joined_run.new.log (omega (size, arith))

pub returns-clause-calls : goal.returns-clause-calls
returns-clause-calls g c =
    let said = rw (whole g c) at c.in_ok-link.ensures.called in
    search (rules, said)

pub returns-clause-open_answers : goal.returns-clause-open_answers
returns-clause-open_answers g c =
    let said = rw (whole g c) at c.in_ok-link.ensures.open_answers in
    search (rules, said)

pub returns-clause-after : goal.returns-clause-after
returns-clause-after g c =
    let said = rw (whole g c) at c.in_ok-link.ensures.after in
    search (rules, said)

pub returns-clause-law : goal.returns-clause-law
returns-clause-law g c =
    let said = rw (whole g c) at c.in_ok-link.ensures.law in
    search (rules, said)

pub returns-clause-outcome : goal.returns-clause-outcome
returns-clause-outcome g c =
    let said = rw (whole g c) at c.in_ok-link.ensures.outcome in
    search (rules, said)
