-- What is told of one connection before any byte of its next answer goes out.
use Rattle.std.specs.Prelude.{◌≡◌, ℕ, List, [], ◌∷◌, ◌++◌, Option, None, Some}
use Rattle.spec_crypto.specs.tokens.Tokens.{Users}
use Rattle.spec_exchange.specs.State as model
use Rattle.spec_wire.specs.messages.Frames.{Frames}
use Rattle.spec_world.specs.Answering.{Seal}
use Rattle.spec_world.specs.Ends.{ServerEnd, Logons, first_server_end}
use Rattle.spec_world.specs.Settings.{ServerSettings}
use Rattle.serve_turns.specs.connection_turns.Ending.{refusal_of}
use Rattle.serve_turns.specs.connection_turns.Frames.{AnswersAll}
use Rattle.serve_turns.specs.connection_turns.Passing.{FramesGo}
use Rattle.serve_turns.specs.link_serving.Passage.{Passed}
use Rattle.serve_turns.specs.connection_turns.Turning.{IsThe}
use Rattle.serve_turns.specs.declared.connection_turns.state.ConnectionState.{ConnectionState}
use Rattle.serve_turns.specs.declared.event_book.book.EventBook.{EventBook}
use Rattle.serve_turns.specs.declared.event_book.turn.Answer.{Answer}
use Rattle.serve_turns.specs.declared.event_book.turn.Turn.{Turn}
use Rattle.serve_turns.specs.declared.event_book.turn.What.TheVariants.{Accept}
use Rattle.serve_turns.specs.declared.shared_book.view.Entry.{Entry}
use Rattle.serve_turns.specs.declared.shared_book.view.View.{View}
use Rattle.serve_turns.specs.event_book.History.{AllMeet, Course, On, Placed, RunsBy, Stand}
use Rattle.serve_turns.specs.event_book.Steps.{EventSteps, GoesOn}
use Rattle.serve_turns.specs.shared_book.Histories.{Replays, entries_of}

-- The history so far, as of the connection's last turn: from where it began to a server that goes on and shows what it came to, so that
-- its disk stands for that, by a snapshot and the records behind it. The turns of the connection in it are those of the frames that came,
-- and what was written so far and the answer that is due are the answers to these frames.
pub record AnswerIsDue {S : Type 0} (shows : S → Users → model.Server → Logons → List model.Record → Type 0) (stopped : S → Option ℕ)
    (faults : S → ℕ)
    (z : ServerSettings) (k seat : ℕ) (opening : EventBook S) (from : Stand) (came wrote answer : List ℕ) : Type 0 where
  pub salt : List ℕ
  pub log : List (Entry Turn Answer)
  pub h : Course
  pub stand : Stand
  pub last : EventBook S
  pub replays : Replays (EventSteps shows stopped faults) opening log last
  pub runs : RunsBy z (On from) log h (On stand)
  pub stands : GoesOn shows stopped faults last z.users stand.server stand.logons stand.records
  pub made : Placed
  pub turns : List Placed
  pub own_are : entries_of seat 0 log ≡ made ∷ turns
  pub is_made : IsThe (Accept k) made
  pub taken_in : refusal_of made.1.reply.reply ≡ None
  pub frames : List (List ℕ)
  pub rest : List ℕ
  pub framed : Frames came frames rest
  pub behind : ServerEnd
  pub setups : ℕ
  pub seals : List Seal
  pub answers : AnswersAll z h k (first_server_end salt) 0 frames turns (wrote ++ answer) behind setups seals

-- a turn took the connection of this number in, the first one since it began
pub record IsTakenIn {B : Type 0} (k : ℕ) (begun v : View B Turn Answer) : Type 0 where
  pub made : Placed
  pub own : v.own ≡ begun.own ++ made ∷ []
  pub is_made : IsThe (Accept k) made
  pub taken_in : refusal_of made.1.reply.reply ≡ None

module _ {K : Type 0} (told : Type 0) (given left written : K → List ℕ) where
  -- A connection of this number goes on over a link, since a turn took it in: what came, the turns of its frames, and what was written,
  -- which are the answers to these frames, whatever the places of a history found that these turns meet.
  pub record IsUnderWay {B : Type 0} (guid : List ℕ) (k : ℕ) (begun : View B Turn Answer) (first : K) (v : View B Turn Answer)
      (state : ConnectionState) (stream : List ℕ) (link : K) : Type 0 where
    pub made : Placed
    pub turns : List Placed
    pub own : v.own ≡ begun.own ++ made ∷ turns
    pub is_made : IsThe (Accept k) made
    pub taken_in : refusal_of made.1.reply.reply ≡ None
    pub came : List ℕ
    pub wrote : List ℕ
    pub passed : Passed told given left written first link came wrote
    pub goes : (z : ServerSettings) (h : Course) → z.guid ≡ guid → AllMeet z h turns
        → (salt : List ℕ) × FramesGo z h k (first_server_end salt) 0 turns [] came wrote stream state

  module _ {S : Type 0} (shows : S → Users → model.Server → Logons → List model.Record → Type 0) (stopped : S → Option ℕ)
      (faults : S → ℕ) where
    -- The answer is due of what passed over the link since the connection began, by a seat that had no entries then, whatever the server
    -- shows with which the history opens.
    abbrev pub IsAnswerDue : List ℕ → ℕ → (begun : View (EventBook S) Turn Answer) → K → View (EventBook S) Turn Answer → K → List ℕ
        → Type 0
    IsAnswerDue guid k begun first v link answer =
        begun.own ≡ [] → (came : List ℕ) × (wrote : List ℕ) × Passed told given left written first link came wrote
        × ((z : ServerSettings) (opening : EventBook S) (from : Stand) → z.guid ≡ guid → v.opening ≡ Some opening
        → GoesOn shows stopped faults opening z.users from.server from.logons from.records
        → AnswerIsDue shows stopped faults z k v.number opening from came wrote answer)
