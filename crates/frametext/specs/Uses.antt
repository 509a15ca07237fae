-- The printed line of a put or a poll.
use Rattle.std.specs.Prelude.{ℕ, List, ◌++◌, codes, decimal}
use Rattle.loads.specs.declared.frames.Frame.{Frame}
use Rattle.loads.specs.declared.kinds.Load.{Ghosts}
use Rattle.loads.specs.Frames.{frame_spelled}
use Rattle.channel.specs.declared.polls.Poll.{Poll}
use Rattle.channel.specs.declared.polls.Poll.TheVariants.{Arrived}
use Rattle.channel.specs.declared.rows.Used.{Used}
use Rattle.channel.specs.declared.rows.Used.TheVariants.{Put, Poll as Polled}
use Rattle.channel.specs.Words.{put_number, poll_word}
use Rattle.frametext.specs.Hexadecimals.{hexadecimal}

-- by the load kind
module _ {T : Type 0} (kind : Ghosts T) where
  -- a frame's octets
  abbrev pub octets_text : Frame T → List ℕ
  octets_text frame = hexadecimal (frame_spelled kind frame)

  -- a poll's answer, with the frame that arrived
  abbrev pub poll_text : Poll T → List ℕ
  poll_text (Arrived frame) = poll_word (Arrived frame) ++ (codes " " ++ octets_text frame)
  poll_text answer = poll_word answer

  -- a put with its frame and the number of its answer, or a poll with its answer
  abbrev pub use_text : Used T → List ℕ
  use_text (Put frame answer) =
      codes "put " ++ (octets_text frame ++ (codes ": " ++ decimal (put_number answer)))
  use_text (Polled answer) = codes "poll: " ++ poll_text answer
