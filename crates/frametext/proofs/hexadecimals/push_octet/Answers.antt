use Rattle.std.proofs.Common.{arith}
use Rattle.std.proofs.lemmas.Bool.Decides.{nat_tests}
use Rattle.frametext.proofs.AdditionLaws.{pushed, continued}
use Rattle.frametext.proofs.hexadecimals.push_octet.Goals as goal

pub returns : goal.returns
returns c =
    let high = c.push.ensures.ascii (grind (arith, nat_tests)) in
    let low = c.push-2.ensures.ascii (grind (arith, nat_tests)) in
    record {
      added =
          continued (cc c.in_ok-push.was) (cc (high, low))
          (pushed c.push.new.self c.push.ensures.bytes c.push.ensures.capacity c.push.ensures.full)
          (pushed c.push-2.new.self c.push-2.ensures.bytes c.push-2.ensures.capacity c.push-2.ensures.full);
    }
