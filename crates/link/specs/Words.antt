-- The letters of the calls, and the words of what they answer.
use Rattle.std.specs.Prelude.{ℕ, List, codes}
use Rattle.std.specs.Str.{byte}
use Rattle.link.specs.declared.calls.Call.{Call}
use Rattle.link.specs.declared.calls.Call.TheVariants.{Request, Send, Carry, Tell, Reply, Return, Retry, Abandon, Confirm, Part, Break, Meet}
use Rattle.link.specs.declared.words.Heard.{Heard}
use Rattle.link.specs.declared.words.Heard.TheVariants.{Still, Arrived, Lost}
use Rattle.link.specs.declared.words.Position.{Position}
use Rattle.link.specs.declared.words.Position.TheVariants as position
use Rattle.link.specs.declared.words.Word.{Word}
use Rattle.link.specs.declared.words.Word.TheVariants as word

-- the letter of a call
abbrev pub letter : Call → ℕ
letter (Request start count) = byte "Q"
letter Send = byte "S"
letter Carry = byte "C"
letter Tell = byte "T"
letter Reply = byte "R"
letter Return = byte "B"
letter Retry = byte "Y"
letter Abandon = byte "A"
letter Confirm = byte "F"
letter Part = byte "P"
letter Break = byte "N"
letter Meet = byte "M"

-- what became of a frame
abbrev pub heard_text : Heard → List ℕ
heard_text Still = codes "STILL"
heard_text Arrived = codes "ARRIVED"
heard_text Lost = codes "LOST"

-- a load's position in its message
abbrev pub position_text : Position → List ℕ
position_text position.Ok = codes "OK"
position_text position.First = codes "FIRST"
position_text position.Incomplete = codes "INCOMPLETE"

-- how a message ended
abbrev pub word_text : Word → List ℕ
word_text word.Ok = codes "OK"
word_text word.NotOk = codes "NOT_OK"
word_text word.DontKnow = codes "DONT_KNOW"
