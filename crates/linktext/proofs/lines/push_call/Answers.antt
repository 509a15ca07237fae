use Rattle.std.proofs.Common.{rules, ◌<◌, arith, refl}
use Rattle.linktext.specs.Lines.{shown_text}
use Rattle.frametext.proofs.AdditionLaws.{pushed, continued, stopped}
use Rattle.linktext.proofs.lines.push_call.Goals as goal

pub returns-in_err-push_number : goal.returns-in_err-push_number
returns-in_err-push_number g c =
    let small : c.letter.result < 128 = search rules in
    let letter = c.push.ensures.ascii small in
    let space = c.push-2.ensures.ascii (omega arith) in
    record {
      added =
          continued (cc c.in_ok-push.was) (rw (letter, space) (search rules))
          (pushed c.push.new.self c.push.ensures.bytes c.push.ensures.capacity c.push.ensures.full)
          (continued (cc c.in_ok-push-2.was) refl
          (pushed c.push-2.new.self c.push-2.ensures.bytes c.push-2.ensures.capacity c.push-2.ensures.full)
          (stopped (shown_text g.T.Load c.args.event.now.answer) (cc c.in_err-push_number.was) c.from_residual-in_err-push_number.ensures.0 refl c.push_number.ensures.added));
    }

pub returns : goal.returns
returns g c =
    let small : c.letter.result < 128 = search rules in
    let letter = c.push.ensures.ascii small in
    let space = c.push-2.ensures.ascii (omega arith) in
    record {
      added =
          continued (cc c.in_ok-push.was) (rw (letter, space) (search rules))
          (pushed c.push.new.self c.push.ensures.bytes c.push.ensures.capacity c.push.ensures.full)
          (continued (cc c.in_ok-push-2.was) refl
          (pushed c.push-2.new.self c.push-2.ensures.bytes c.push-2.ensures.capacity c.push-2.ensures.full)
          (continued (cc c.in_ok-push_number.was) refl c.push_number.ensures.added c.push_shown.ensures.added));
    }
