use Rattle.std.proofs.Common.{ap, sym, fold, ◌∙◌}
use Rattle.pace.specs.Frames.{fields, added, added_block}
use Rattle.std.specs.List.{flat_map}
use Rattle.pace.proofs.Rounds.{iterate_more}
use Rattle.pace.proofs.frames.sum_of_rounds.Goals as goal

pub loop-preserved : goal.loop-preserved
loop-preserved c =
    let block = flat_map fields c.args.pairs.now in
    let frames = c.write_block.ensures.frames ∙ c.loop.invariant.frames in
    record {
      frames = frames;
      sum =
          (λ i. added (c.loop.invariant.sum i) ((c.read_block-sum.ensures.answer ∙ ap (fold added 0) frames) i))
          ∙ sym (iterate_more (added_block block) c.loop.counter 0);
    }
