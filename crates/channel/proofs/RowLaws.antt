-- Rows of uses: one more at the end, and no frame made up, doubled or out of order.
use Rattle.std.proofs.Common.{◌≡◌, List, [], ◌∷◌, ◌++◌, Result, refl}
use Rattle.std.proofs.lemmas.List.{append-nil}
use Rattle.loads.specs.declared.frames.Frame.{Frame}
use Rattle.channel.specs.declared.polls.Poll.{Poll}
use Rattle.channel.specs.declared.polls.Poll.TheVariants.{Empty, Still, Arrived, Lost}
use Rattle.channel.specs.declared.refusals.Full.{Full}
use Rattle.channel.specs.declared.rows.Used.{Used}
use Rattle.channel.specs.declared.rows.Used.TheVariants.{Put, Poll as Polled}
use Rattle.channel.specs.declared.rules.Channel.{Ghosts}
use Rattle.channel.specs.Rules.{put_answer, put_leaves, IsAllowed, poll_leaves}
use Rattle.channel.specs.Rows.{UseLeads, RowLeads, IsConserved}

module _ {T : Type 0} where
  -- a put in front
  put_first : (before between after : List (Frame T)) (frame : Frame T)
      (answer : Result (Unit {0}) Full) (row : List (Used T))
      → answer ≡ put_answer before → between ≡ put_leaves before frame
      → IsConserved between row after → IsConserved before (Put frame answer ∷ row) after
  put_first [] between after frame answer row said left (gone, went, kept) =
      (gone, went, rw said (cc))
  put_first (oldest ∷ others) between after frame answer row said left (gone, went, kept) =
      (gone, went, rw said (cc))

  -- a poll in front
  poll_first : (before between after : List (Frame T)) (answer : Poll T) (row : List (Used T))
      → IsAllowed before answer → between ≡ poll_leaves before answer
      → IsConserved between row after → IsConserved before (Polled answer ∷ row) after
  poll_first before between after Empty row may left (gone, went, kept) = (gone, went, cc)
  poll_first before between after Still row may left (gone, went, kept) = (gone, went, cc)
  poll_first [] between after (Arrived frame) row may left rest = absurd may
  poll_first (oldest ∷ others) between after (Arrived frame) row may left (gone, went, kept) =
      (frame ∷ gone, (refl, went), cc)
  poll_first [] between after Lost row may left rest = absurd may
  poll_first (oldest ∷ others) between after Lost row may left (gone, went, kept) =
      (oldest ∷ gone, went, cc)

module _ {T C : Type 0} (channel : Ghosts C T) where
  -- one use more at the end of a row
  pub row_longer : (before between after : C) (row : List (Used T)) (used : Used T)
      → RowLeads channel before row between → UseLeads channel between used after
      → RowLeads channel before (row ++ used ∷ []) after
  row_longer before between after [] used leads step = (after, rw leads at step, refl)
  row_longer before between after (first ∷ row) used (next, stepped, leads) step =
      (next, stepped, row_longer next between after row used leads step)

  -- the rule alone gives the law
  pub row_conserves : (before after : C) (row : List (Used T))
      → RowLeads channel before row after
      → IsConserved (channel.waiting before) row (channel.waiting after)
  row_conserves before after [] leads = ([], tt, cc (append-nil (channel.waiting before)))
  row_conserves before after (Put frame answer ∷ row) (next, stepped, leads) =
      put_first _ _ _ _ _ row stepped.0 stepped.1.0 (row_conserves next after row leads)
  row_conserves before after (Polled answer ∷ row) (next, stepped, leads) =
      poll_first _ _ _ _ row stepped.0 stepped.1 (row_conserves next after row leads)
