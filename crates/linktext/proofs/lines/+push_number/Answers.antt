use Rattle.std.proofs.Common.{arith}
use Rattle.std.proofs.lemmas.Fmt.{decimal_digit, decimal_step}
use Rattle.frametext.proofs.AdditionLaws.{pushed, continued, stopped}
use Rattle.linktext.proofs.lines.+push_number.Goals as goal

pub returns-then-number-lt10 : goal.returns-then-number-lt10
returns-then-number-lt10 t c =
    let digit = c.push.ensures.ascii (omega (arith, c.from.ensures)) in
    record {
      added = rw (decimal_digit c.args.number (omega arith), ← c.from.ensures, ← digit) (pushed c.push.new.self c.push.ensures.bytes c.push.ensures.capacity c.push.ensures.full);
    }

pub returns-in_err-push_number : goal.returns-in_err-push_number
returns-in_err-push_number t c =
    record {
      added = stopped _ (cc c.in_err-push_number.was) c.from_residual.ensures.0 (decimal_step c.args.number (omega arith) (omega arith)) c.push_number.ensures.added;
    }

pub returns : goal.returns
returns t c =
    let digit = c.push-2.ensures.ascii (omega (arith, c.from-2.ensures)) in
    record {
      added =
          continued (cc c.in_ok-push_number.was) (cc (decimal_step c.args.number (omega arith) (omega arith), digit, c.from-2.ensures))
          c.push_number.ensures.added
          (pushed c.push-2.new.self c.push-2.ensures.bytes c.push-2.ensures.capacity c.push-2.ensures.full);
    }
