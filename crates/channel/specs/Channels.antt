-- What is known of any channel's put and poll: what the rule and its implementation say.
use Rattle.std.specs.Prelude.{◌≡◌}
use Rattle.loads.specs.declared.frames.Frame.{Frame}
use Rattle.channel.specs.declared.polls.Poll.{Poll}
use Rattle.channel.specs.declared.rules.Channel.{Ghosts}
use Rattle.channel.specs.Rules.{put_leaves, IsAllowed, poll_leaves}

module _ {T C : Type 0} (channel : Ghosts C T) where
  -- all that is known of a put but its answer: the channel before, the frame, the channel after
  abbrev pub Puts : C → Frame T → C → Type 0
  Puts before frame after =
      (channel.waiting after ≡ put_leaves (channel.waiting before) frame)
      × channel.puts before frame after

  -- all that is known of a poll: the channel before, the answer, the channel after
  abbrev pub Polls : C → Poll T → C → Type 0
  Polls before answer after =
      IsAllowed (channel.waiting before) answer
      × (channel.waiting after ≡ poll_leaves (channel.waiting before) answer)
      × channel.polls before answer after
