-- The worked examples: each question with its answer.
use Rattle.std.specs.Prelude.{◌≡◌, true, false, [], ◌∷◌, Ok, Err, IfOk, refl}
use Rattle.loads.specs.declared.readings.Reading.{Reading}
use Rattle.channels.specs.declared.marks.Mark.TheVariants.{Lose}
use Rattle.link.specs.declared.calls.Call.{Call}
use Rattle.link.specs.declared.calls.Call.TheVariants.{Request, Send, Carry, Tell, Reply, Return, Retry, Abandon, Confirm, Part, Break, Meet}
use Rattle.link.specs.declared.events.Answer.{Answer}
use Rattle.link.specs.declared.events.Answer.TheVariants.{Done, Polled, Told, Confirmed}
use Rattle.link.specs.declared.events.Event.{Event}
use Rattle.link.specs.declared.words.Heard.TheVariants.{Arrived, Lost}
use Rattle.link.specs.declared.words.Position.TheVariants as position
use Rattle.link.specs.declared.words.Word.TheVariants.{NotOk, DontKnow}
use Rattle.worked.specs.declared.examples.Examples.{Examples}

-- a call that is accepted, with what it answers
abbrev pub accepted : Call → Answer Reading → Event Reading
accepted call answer = record { call = call; answer = Ok answer }

-- the examples; a refusal is answered as its number
abbrev pub examples : Examples
examples = record {
  frame = (
    record { first = true; last = false; toggle = false; load = record { value = 7 } },
    0x81 ∷ 0x00 ∷ 0x00 ∷ 0x00 ∷ 0x07 ∷ [],
  );
  reply = (record { first = false; last = true; toggle = true; load = record {} }, 0x60 ∷ []);
  pieces =
      record {
        zoom = 20;
        column = 1048575;
        row = 0;
        number = 0;
        body = 0;
        answer = Ok (record { zoom = 20; column = 1048575; row = 0; number = 0; body = 0; held = refl });
      }
      ∷ record { zoom = 20; column = 1048576; row = 0; number = 0; body = 0; answer = Err 16 }
      ∷ record { zoom = 21; column = 0; row = 0; number = 0; body = 0; answer = Err 16 }
      ∷ [];
  requests =
      Ok (record { loads = 4096; start = 0; count = 4097; answer = Err 6 }
      ∷ record { loads = 4096; start = 1; count = 4096; answer = Err 7 }
      ∷ record { loads = 4096; start = 0; count = 4096; answer = Ok tt }
      ∷ []);
  lost_frame =
      Ok (record {
        repeats = 0;
        book = record { value = 7 } ∷ [];
        to_hut = Lose ∷ [];
        back = [];
        events =
            accepted (Request 0 1) Done ∷ accepted Send Done ∷ accepted Carry (Polled Lost)
            ∷ accepted Retry Done ∷ accepted Confirm (Confirmed DontKnow) ∷ [];
        outcome = Ok (DontKnow, 0);
      });
  abandoned =
      Ok (record {
        repeats = 0;
        book = record { value = 7 } ∷ record { value = 8 } ∷ [];
        to_hut = [];
        back = [];
        events =
            accepted (Request 0 2) Done ∷ accepted Send Done ∷ accepted Carry (Polled Arrived)
            ∷ accepted Tell (Told position.First (record { value = 7 }))
            ∷ accepted Reply Done ∷ accepted Return (Polled Arrived)
            ∷ accepted Abandon Done ∷ accepted Confirm (Confirmed NotOk)
            ∷ accepted Part Done ∷ accepted Break Done ∷ [];
        outcome = Ok (NotOk, 1);
      });
  lost_reply =
      Ok (record {
        repeats = 0;
        book = record { value = 7 } ∷ [];
        to_hut = [];
        back = Lose ∷ [];
        events =
            accepted (Request 0 1) Done ∷ accepted Send Done ∷ accepted Carry (Polled Arrived)
            ∷ accepted Tell (Told position.Ok (record { value = 7 }))
            ∷ accepted Reply Done ∷ accepted Return (Polled Lost)
            ∷ accepted Retry Done ∷ accepted Confirm (Confirmed DontKnow)
            ∷ accepted Part Done ∷ accepted Meet Done ∷ [];
        outcome = Ok (DontKnow, 1);
      });
  timers =
      record { repeats = 2; bound = 2; t1 = 4; t2 = 10; answer = Err 24 }
      ∷ record { repeats = 2; bound = 2; t1 = 5; t2 = 10; answer = Err 25 }
      ∷ record { repeats = 2; bound = 2; t1 = 5; t2 = 11; answer = Ok tt }
      ∷ [];
}

-- these are the examples; those that need a book or a log, where there is memory for them
pub record AreExamples (given : Examples) : Type 0 where
  pub frame : given.frame ≡ examples.frame
  pub reply : given.reply ≡ examples.reply
  pub pieces : given.pieces ≡ examples.pieces
  pub requests : IfOk given.requests (λ it. Ok it ≡ examples.requests)
  pub lost_frame : IfOk given.lost_frame (λ it. Ok it ≡ examples.lost_frame)
  pub abandoned : IfOk given.abandoned (λ it. Ok it ≡ examples.abandoned)
  pub lost_reply : IfOk given.lost_reply (λ it. Ok it ≡ examples.lost_reply)
  pub timers : given.timers ≡ examples.timers
