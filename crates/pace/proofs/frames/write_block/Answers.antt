use Rattle.std.proofs.Common.{◌<◌, length, ◌∙◌, arith}
use Rattle.std.proofs.lemmas.List.Elements.{AllWithin-more_set}
use Rattle.pace.specs.Frames.{HoldsFrames, fields}
use Rattle.pace.proofs.Rounds.{flat_set}
use Rattle.pace.proofs.frames.write_block.Goals as goal

pub loop-pair-preserved : goal.loop-pair-preserved
loop-pair-preserved c =
    let pairs = c.loop-pair.pairs in
    let i = c.loop-pair.pair-index in
    let item = c.pair-item.result in
    let within : i < length pairs = omega (arith, c.loop-pair-test.true) in
    record {
      frames = flat_set fields pairs i c.write.new.self item c.write.ensures.frames ∙ c.loop-pair.invariant.frames;
      written = AllWithin-more_set pairs i c.write.new.self within HoldsFrames c.loop-pair.invariant.written c.write.ensures.written;
    }

pub returns-clause-written : goal.returns-clause-written
returns-clause-written c = λ k d within. c.loop-pair.invariant.written k d (omega arith) (omega (arith, within, c.loop-pair-test.false))
