use Rattle.std.proofs.Common.{◌≡◌, map, take, vec_items}
use Rattle.sheet.specs.Parts.{part_state, loads_in, marks_in, calls_in}
use Rattle.sheet.specs.declared.parts.Way.TheVariants.{ToHut, Back}
use Rattle.sheet.proofs.sheets.Sheet.of_parts.Given as goal

abbrev pub invariant-loop-part : goal.invariant-loop-part
invariant-loop-part g l =
    let parts = map part_state (take l.part-index l.part-items) in
    record {
      loads : vec_items l.loads ≡ loads_in parts;
      to_hut : vec_items l.to_hut ≡ marks_in ToHut parts;
      back : vec_items l.back ≡ marks_in Back parts;
      calls : vec_items l.calls ≡ calls_in parts;
    }
