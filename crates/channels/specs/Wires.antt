-- What waits in a wire, by its load kind.
use Rattle.std.specs.Prelude.{ℕ, ◌+◌, List, take, Some, None, Option, option_to_list}
use Rattle.std.specs.Result.{result_ok}
use Rattle.loads.specs.declared.frames.Frame.{Frame}
use Rattle.loads.specs.declared.kinds.Load.{Ghosts}
use Rattle.loads.specs.Frames.{frame_reads}
use Rattle.channel.specs.declared.rules.Channel as channel
use Rattle.channels.specs.declared.wires.Wire.{Wire}
use Rattle.channels.specs.Singles.{singles}

module _ {T : Type 0} (kind : Ghosts T) where
  -- the frame that octets spell at their front, if they spell one
  abbrev pub front_frame : Option (List ℕ) → Option (Frame T)
  front_frame None = None
  front_frame (Some octets) = result_ok (frame_reads kind (take (kind.SIZE + 1) octets))

  -- the frame that a wire's octets spell
  abbrev pub wire_waits : Wire T → List (Frame T)
  wire_waits wire = option_to_list (front_frame wire.octets)

  -- all that a wire says of itself
  abbrev pub wires : channel.Ghosts (Wire T) T
  wires = singles wire_waits
