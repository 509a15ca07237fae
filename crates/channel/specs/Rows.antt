-- A row of puts and polls on one channel, each with its answer.
use Rattle.std.specs.Prelude.{◌≡◌, List, [], ◌∷◌, ◌++◌, Ok, Some, None, Option, ⊤}
use Rattle.std.specs.List.{filter_map}
use Rattle.loads.specs.declared.frames.Frame.{Frame}
use Rattle.channel.specs.declared.polls.Poll.TheVariants.{Empty, Still, Arrived, Lost}
use Rattle.channel.specs.declared.rows.Use.{Use}
use Rattle.channel.specs.declared.rows.Use.TheVariants.{Put as PutUse, Poll as PollUse}
use Rattle.channel.specs.declared.rows.Used.{Used}
use Rattle.channel.specs.declared.rows.Used.TheVariants.{Put, Poll as Polled}
use Rattle.channel.specs.declared.rules.Channel.{Ghosts}
use Rattle.channel.specs.Rules.{put_answer}
use Rattle.channel.specs.Channels.{Puts, Polls}

-- a use without its answer
abbrev pub use_of : {T : Type 0} → Used T → Use T
use_of (Put frame answer) = PutUse frame
use_of (Polled answer) = PollUse

module _ {T C : Type 0} (channel : Ghosts C T) where
  -- a use with its answer leads from a channel to what is left of it: by the rule, and as the
  -- implementation says
  abbrev pub UseLeads : C → Used T → C → Type 0
  UseLeads before (Put frame answer) after =
      (answer ≡ put_answer (channel.waiting before)) × Puts channel before frame after
  UseLeads before (Polled answer) after = Polls channel before answer after

  -- uses one after another lead from a channel to what is left of it
  abbrev pub RowLeads : C → List (Used T) → C → Type 0
  RowLeads before [] after = after ≡ before
  RowLeads before (used ∷ row) after =
      (between : C) × UseLeads before used between × RowLeads between row after

module _ {T : Type 0} where
  -- the frame that an accepted put brought
  abbrev pub accepted_frame : Used T → Option (Frame T)
  accepted_frame (Put frame (Ok done)) = Some frame
  accepted_frame used = None

  -- these frames, and no others, arrived or were lost in the row, in this order
  abbrev pub HaveLeft : List (Used T) → List (Frame T) → Type 0
  HaveLeft [] [] = ⊤
  HaveLeft (Put frame answer ∷ row) gone = HaveLeft row gone
  HaveLeft (Polled Empty ∷ row) gone = HaveLeft row gone
  HaveLeft (Polled Still ∷ row) gone = HaveLeft row gone
  HaveLeft (Polled (Arrived frame) ∷ row) (oldest ∷ gone) = (oldest ≡ frame) × HaveLeft row gone
  HaveLeft (Polled Lost ∷ row) (oldest ∷ gone) = HaveLeft row gone
  HaveLeft row gone = ⊥

  -- no frame is made up, doubled or out of order: what arrived and what was lost, in order, followed
  -- by what waits after the row, is what waited before it followed by what was accepted
  abbrev pub IsConserved : List (Frame T) → List (Used T) → List (Frame T) → Type 0
  IsConserved before row after =
      (gone : List (Frame T))
      × HaveLeft row gone
      × (gone ++ after ≡ before ++ filter_map accepted_frame row)
