-- Examples with the answers that the definitions of the contracts give to their questions.
use Rattle.std.specs.Prelude.{map, replicate, Result}
use Rattle.std.specs.Result.{result_map_both}
use Rattle.loads.specs.Empties.{empties}
use Rattle.loads.specs.Frames.{frame_spelled}
use Rattle.loads.specs.Readings.{readings}
use Rattle.worked.specs.declared.examples.Examples.{Examples}
use Rattle.worked.specs.declared.questions.PieceExample.{PieceExample}
use Rattle.worked.specs.declared.questions.RequestExample.{RequestExample}
use Rattle.worked.specs.declared.questions.TimerExample.{TimerExample}
use Rattle.worked.specs.Answers.{piece_answer, request_answer, timer_answer}
use Rattle.worked.specs.Messages.{MessageParts, message_of}

-- one example of each sort: its question, with the answer of the definitions
abbrev pub piece_by_definition : PieceExample → PieceExample
piece_by_definition it = record it { answer = piece_answer it.zoom it.column it.row it.number it.body }

abbrev pub request_by_definition : RequestExample → RequestExample
request_by_definition it =
    record it { answer = request_answer (replicate it.loads (record { value = 0 })) it.start it.count }

abbrev pub message_by_definition : MessageParts → MessageParts
message_by_definition it = message_of it.repeats it.book it.to_hut it.back (map (λ event. event.call) it.events)

abbrev pub timers_by_definition : TimerExample → TimerExample
timers_by_definition it = record it { answer = timer_answer it.repeats it.bound it.t1 it.t2 }

-- what there was memory for, changed
abbrev pub changed : {X E : Type 0} → (X → X) → Result X E → Result X E
changed change given = result_map_both change (λ why. why) given

-- all of the examples
abbrev pub by_definition : Examples → Examples
by_definition given = record {
  frame = (given.frame.0, frame_spelled readings given.frame.0);
  reply = (given.reply.0, frame_spelled empties given.reply.0);
  pieces = map piece_by_definition given.pieces;
  requests = changed (map request_by_definition) given.requests;
  lost_frame = changed message_by_definition given.lost_frame;
  abandoned = changed message_by_definition given.abandoned;
  lost_reply = changed message_by_definition given.lost_reply;
  timers = map timers_by_definition given.timers;
}
