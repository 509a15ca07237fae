-- The calls that the program makes.
use Rattle.std.specs.Prelude.{List, [], ◌∷◌, ◌++◌}
use Rattle.link.specs.declared.calls.Call.{Call}
use Rattle.link.specs.declared.calls.Call.TheVariants.{Request, Send, Carry, Tell, Reply, Return, Retry, Confirm}

-- a load is sent, reaches the hut, is told and replied to
abbrev pub crosses : List Call
crosses = Send ∷ Carry ∷ Tell ∷ Reply ∷ Return ∷ []

-- a message of three: the first frame is lost, and the reply to the second load; at the end a send that is not due
abbrev pub sendings : List Call
sendings =
    Request 0 3 ∷ Send ∷ Carry ∷ Retry ∷ (crosses ++ (crosses ++ (Retry ∷ (crosses ++ (crosses ++ (Send ∷ Confirm ∷ []))))))
