use Rattle.std.proofs.Common.{leb, rules, tests}
use Rattle.std.proofs.lemmas.Iterator.{YieldsList-from_slice}
use Rattle.std.proofs.lemmas.Iterator.Search.{all_from_yields_List}
use Rattle.channels.proofs.marks.good_marks.Goals as goal

pub returns-then-octets-le-MOST_MARKS : goal.returns-then-octets-le-MOST_MARKS
returns-then-octets-le-MOST_MARKS c =
    let all = all_from_yields_List (λ octet. leb octet 2) _ _ _ c.all.ensures.ran (YieldsList-from_slice c.args.octets.now cc) (λ x b q k. search (rules, tests)) in
    search (rules, tests)
