-- What a call of one end comes to: its answer and the end after, or why it is turned down; and how it uses its channel.
use Rattle.std.specs.Prelude.{Bool, if◌then◌else◌, List, [], ◌∷◌, Ok, Err, Result}
use Rattle.loads.specs.declared.frames.Frame.{Frame}
use Rattle.channel.specs.declared.rows.Used.{Used}
use Rattle.channel.specs.declared.rows.Used.TheVariants.{Put}
use Rattle.link.specs.declared.refusals.LinkRefusal.{LinkRefusal}
use Rattle.link.specs.declared.refusals.LinkRefusal.TheVariants.{NotDue, ChannelFull}

-- the place where a call leads, if it is due
abbrev pub next_if : {P : Type 0} → Bool → P → Result P LinkRefusal
next_if due place = if due then Ok place else Err NotDue

-- as Rust's `?`: the next step with what the first gives, or the refusal of the first
infixl 10 ◌>>=◌
abbrev pub ◌>>=◌ : {A B : Type 0} → Result A LinkRefusal → (A → Result B LinkRefusal) → Result B LinkRefusal
Ok x >>= step = step x
Err why >>= step = Err why

-- what an accepted call answers and what it leaves, or why the call is turned down
abbrev pub Change : Type 0 → Type 0 → Type 0
Change S X = Result (X × S) LinkRefusal

-- the answer of such a call
abbrev pub answer_of : {X S : Type 0} → Change S X → Result X LinkRefusal
answer_of (Ok (answer, after)) = Ok answer
answer_of (Err why) = Err why

-- what it leaves: a call that is turned down leaves all as it was
abbrev pub after_of : {X S : Type 0} → S → Change S X → S
after_of before (Ok (answer, after)) = after
after_of before (Err why) = before

-- what a call comes to that may put a frame: its answer, the end after, what waits after, and the puts that it makes
pub record PutEffect (S T : Type 0) : Type 0 where
  pub answer : Result (Unit {0}) LinkRefusal
  pub after : S
  pub waiting : List (Frame T)
  pub puts : List (Used T)

-- an end offers a frame to its channel, and is as given after an accepted put; where a frame waits, the put is refused
abbrev pub offers : {S T : Type 0} → S → List (Frame T) → Change S (Frame T) → PutEffect S T
offers before waiting (Err why) = record { answer = Err why; after = before; waiting = waiting; puts = [] }
offers before [] (Ok (frame, after)) = record {
  answer = Ok tt;
  after = after;
  waiting = frame ∷ [];
  puts = Put frame (Ok tt) ∷ [];
}
offers before (oldest ∷ others) (Ok (frame, after)) = record {
  answer = Err ChannelFull;
  after = before;
  waiting = oldest ∷ others;
  puts = Put frame (Err (record {})) ∷ [];
}
