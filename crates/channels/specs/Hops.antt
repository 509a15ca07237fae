-- What waits in a hop, and how its two channels share a put and a poll.
use Rattle.std.specs.Prelude.{◌≡◌, Bool, true, false, List, ◌++◌}
use Rattle.loads.specs.declared.frames.Frame.{Frame}
use Rattle.channel.specs.declared.polls.Poll.{Poll}
use Rattle.channel.specs.declared.polls.Poll.TheVariants.{Still, Arrived}
use Rattle.channel.specs.declared.rules.Channel.{Ghosts}
use Rattle.channel.specs.Channels.{Puts, Polls}
use Rattle.channel.specs.Rules.{held}

-- a hop as plain values: its two channels
pub record HopState (N F : Type 0) : Type 0 where
  pub near : N
  pub far : F

-- by what its two channels are known to do
module _ {T N F : Type 0} (near : Ghosts N T) (far : Ghosts F T) where
  -- the frames in far are older than those in near
  abbrev pub hop_waits : HopState N F → List (Frame T)
  hop_waits hop = far.waiting hop.far ++ near.waiting hop.near

  -- a put, by whether near or far holds a frame: refused, and the hop as before; or given to near
  abbrev pub HopPuts : Bool → HopState N F → Frame T → HopState N F → Type 0
  HopPuts true before frame after = after ≡ before
  HopPuts false before frame after =
      Puts near before.near frame after.near × (after.far ≡ before.far)

  -- what comes of near's answer: a frame that arrived moves into far and the hop answers Still; any
  -- other is passed on
  abbrev pub HopMoves : Poll T → F → Poll T → F → Type 0
  HopMoves (Arrived frame) before answer after = (answer ≡ Still) × Puts far before frame after
  HopMoves heard before answer after = (answer ≡ heard) × (after ≡ before)

  -- a poll, by whether far holds a frame: far's, or else near's
  abbrev pub HopPolls : Bool → HopState N F → Poll T → HopState N F → Type 0
  HopPolls true before answer after =
      Polls far before.far answer after.far × (after.near ≡ before.near)
  HopPolls false before answer after =
      (heard : Poll T)
      × Polls near before.near heard after.near
      × HopMoves heard before.far answer after.far

  -- all that a hop says of itself
  abbrev pub hops : Ghosts (HopState N F) T
  hops = record {
    waiting = hop_waits;
    puts = λ before frame after. HopPuts (held (hop_waits before)) before frame after;
    polls = λ before answer after. HopPolls (held (far.waiting before.far)) before answer after;
  }
