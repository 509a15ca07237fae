use Rattle.std.proofs.Common.{rules, arith, ◌∷◌, refl}
use Rattle.linktext.specs.Lines.{load_text}
use Rattle.frametext.proofs.AdditionLaws.{pushed, continued, stopped}
use Rattle.linktext.proofs.lines.push_shown.Goals as goal

pub returns-in_err-push_word-in-Ok-Told : goal.returns-in_err-push_word-in-Ok-Told
returns-in_err-push_word-in-Ok-Told g c =
    record {
      added = stopped (32 ∷ load_text g.T.Load c.in-Ok-Told.load) (cc c.in_err-push_word-in-Ok-Told.was) c.from_residual.ensures.0 (search rules) c.push_word-in-Ok-Told.ensures.added;
    }

pub returns-in_err-push-in-Ok-Told : goal.returns-in_err-push-in-Ok-Told
returns-in_err-push-in-Ok-Told g c =
    let space = c.push.ensures.ascii (omega arith) in
    record {
      added =
          continued (cc c.in_ok-push_word-in-Ok-Told.was) (rw space (search rules)) c.push_word-in-Ok-Told.ensures.added
          (stopped (load_text g.T.Load c.in-Ok-Told.load) (cc c.in_err-push-in-Ok-Told.was) c.from_residual-in_err-push-in-Ok-Told.ensures.0 refl
          (pushed c.push.new.self c.push.ensures.bytes c.push.ensures.capacity c.push.ensures.full));
    }

pub returns-in_ok-push-in-Ok-Told : goal.returns-in_ok-push-in-Ok-Told
returns-in_ok-push-in-Ok-Told g c =
    let space = c.push.ensures.ascii (omega arith) in
    record {
      added =
          continued (cc c.in_ok-push_word-in-Ok-Told.was) (rw space (search rules)) c.push_word-in-Ok-Told.ensures.added
          (continued (cc c.in_ok-push-in-Ok-Told.was) refl
          (pushed c.push.new.self c.push.ensures.bytes c.push.ensures.capacity c.push.ensures.full)
          c.push_load.ensures.added);
    }
