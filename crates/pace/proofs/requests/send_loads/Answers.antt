use Rattle.std.proofs.Common.{ℕ, ◌+◌, ap, sym, ◌∙◌}
use Rattle.std.specs.Fn.{iterate}
use Rattle.pace.specs.Links.{counts, counts_all}
use Rattle.pace.specs.Repeats.{next, request_calls}
use Rattle.pace.proofs.Rounds.{rounds_more, iterate_more}
use Rattle.pace.proofs.requests.send_loads.Goals as goal

pub loop-preserved : goal.loop-preserved
loop-preserved c =
    let chance = c.next-chance.ensures.answer ∙ ap next c.loop.invariant.chance ∙ sym (iterate_more next c.loop.counter 1) in
    record {
      chance = chance;
      made =
          c.send_load.ensures.after
          ∙ ap (λ chance. counts_all (request_calls c.args.loads chance) c.loop.link) chance
          ∙ ap (counts_all (request_calls c.args.loads (iterate next (c.loop.counter + 1) 1))) c.loop.invariant.made
          ∙ sym (rounds_more counts (λ (round : ℕ). request_calls c.args.loads (iterate next (round + 1) 1)) c.loop.counter c.args.link.now);
    }
