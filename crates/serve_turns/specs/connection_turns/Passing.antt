-- The link of one connection: what came, which turns were taken for it, what was written, and how that ended.
use Rattle.std.specs.Prelude.{◌≡◌, ◌≤◌, ℕ, Bool, true, List, [], ◌∷◌, ◌++◌, Option, None, Some, Result, Ok, Err, Vec, ◌⊎◌}
use Rattle.std.specs.Global.{Global}
use Rattle.base_outside.specs.streams.Faults.{Rose}
use Rattle.spec_crypto.specs.sessions.Nonces.{last_counter}
use Rattle.spec_wire.specs.messages.Frames.{Waits, Whole, Breaks, Frames, front}
use Rattle.spec_wire.specs.declared.messages.refusal.FrameError.{FrameError}
use Rattle.spec_world.specs.Answering.{Seal}
use Rattle.spec_world.specs.Ends.{ServerEnd}
use Rattle.spec_world.specs.Settings.{ServerSettings}
use Rattle.conn_core.specs.Shown.{ShowsEnd}
use Rattle.conn_core.specs.declared.end.ConnEnd.{ConnEnd}
use Rattle.conn_core.specs.declared.end.ConnEnd.TheVariants.{BadFrame, LinkFault, Memory}
use Rattle.serve_turns.specs.connection_turns.Frames.{Answers, AnswersAll, EndsFrame, LacksFrame, StopsFrame}
use Rattle.serve_turns.specs.declared.connection_turns.state.ConnectionState.{ConnectionState}
use Rattle.serve_turns.specs.declared.event_book.turn.Answer.{Answer}
use Rattle.serve_turns.specs.declared.event_book.turn.Turn.{Turn}
use Rattle.serve_turns.specs.declared.shared_book.view.View.{View}
use Rattle.serve_turns.specs.event_book.History.{AllMeet, Course, Placed}
use Rattle.serve_turns.specs.link_serving.Passage.{Passed}

-- the link took these bytes and gave none
module _ {K : Type 0} (told : Type 0) (given left written : K → List ℕ) where
  abbrev pub HasWritten : K → K → List ℕ → Type 0
  HasWritten old new wrote = Passed told given left written old new [] wrote

module _ {K : Type 0} (told : Type 0) (given left written : K → List ℕ) (faults : K → ℕ) where
  -- the link failed in the middle of an answer: its count of faults rose, and a front of the answer was written
  pub record PutFails (old : K) (answer : List ℕ) (new : K) (why : ConnEnd) : Type 0 where
    pub wrote : List ℕ
    pub lost : List ℕ
    pub answer_is : answer ≡ wrote ++ lost
    pub passed : HasWritten told given left written old new wrote
    pub is : why ≡ LinkFault (faults new)
    pub rose : Rose (faults old) (faults new)

  -- an answer was put onto a link; or the connection ends so
  abbrev pub Puts : K → List ℕ → K → Result Unit ConnEnd → Type 0
  Puts old answer new (Ok x) = HasWritten told given left written old new answer × (faults new ≡ faults old)
  Puts old answer new (Err why) = PutFails old answer new why

  -- why a stream could not be fed: the link failed and gave nothing, or the bytes that it gave found no memory
  abbrev pub CannotFeed : K → K → List ℕ → ConnEnd → Type 0
  CannotFeed old new came why =
      ((why ≡ LinkFault (faults new)) × Rose (faults old) (faults new) × (came ≡ []))
      ⊎ ((why ≡ Memory) × (faults new ≡ faults old))

  module _ (ended : K → Bool) where
    -- what a link gave was put behind a stream; or the peer sends no more; or the connection ends so, and the stream stays
    abbrev pub Feeds : K → List ℕ → K → List ℕ → Result Unit (Option ConnEnd) → Type 0
    Feeds old stream new stream' (Ok x) =
        (came : List ℕ) × Passed told given left written old new came [] × (faults new ≡ faults old) × (stream' ≡ stream ++ came)
    Feeds old stream new stream' (Err None) =
        Passed told given left written old new [] [] × (faults new ≡ faults old) × (ended new ≡ true) × (stream' ≡ stream)
    Feeds old stream new stream' (Err (Some why)) =
        (came : List ℕ) × Passed told given left written old new came [] × (stream' ≡ stream) × CannotFeed old new came why

-- what stands at the front of these bytes is no frame, or it found no memory
abbrev pub CannotRead : List ℕ → ConnEnd → Type 0
CannotRead rest why = ((why ≡ BadFrame) × ((refusal : FrameError) × (front rest ≡ Breaks refusal))) ⊎ (why ≡ Memory)

-- What the next whole frame of a stream is; none, where more bytes are needed; or why it can't be read. The stream stays then.
abbrev pub NextFrame : List ℕ → List ℕ → Result (Option (List ℕ)) ConnEnd → Type 0
NextFrame old new (Ok (Some message)) = front old ≡ Whole message new
NextFrame old new (Ok None) = (front old ≡ Waits) × (new ≡ old)
NextFrame old new (Err why) = (new ≡ old) × CannotRead old why

-- ---- one frame

abbrev pub FrameComes : ServerSettings → Course → ℕ → ServerEnd → ℕ → List ℕ → List Placed → Result (Vec ℕ Global) ConnEnd
    → ConnectionState → Type 0
FrameComes z h k f before frame turns (Ok v) new = (behind : ServerEnd) × (seals : List Seal)
    × Answers z h k f before frame turns v.items behind new.setups seals × ShowsEnd k z.guid new.conn behind
    × (behind.counter ≤ last_counter)
FrameComes z h k f before frame turns (Err why) new = StopsFrame z h k f before frame turns why

-- its turns, and what came of it, whatever the places of a history found that these turns meet
pub record FrameTaken {B : Type 0} (v : View B Turn Answer) (old : ConnectionState) (frame : List ℕ)
    (result : Result (Vec ℕ Global) ConnEnd) (new : ConnectionState) (w : View B Turn Answer) : Type 0 where
  pub turns : List Placed
  pub own : w.own ≡ v.own ++ turns
  pub comes : (z : ServerSettings) (h : Course) (f : ServerEnd) → AllMeet z h turns → ShowsEnd old.conn.id z.guid old.conn f
      → f.counter ≤ last_counter → FrameComes z h old.conn.id f old.setups frame turns result new

-- ---- frames that were answered, one after the other

-- behind the bytes of a stream further ones came; this is left of them
pub record FramesGo (z : ServerSettings) (h : Course) (k : ℕ) (f : ServerEnd) (before : ℕ) (turns : List Placed)
    (stream came wrote rest : List ℕ) (new : ConnectionState) : Type 0 where
  pub frames : List (List ℕ)
  pub framed : Frames (stream ++ came) frames rest
  pub behind : ServerEnd
  pub seals : List Seal
  pub answers : AnswersAll z h k f before frames turns wrote behind new.setups seals
  pub shows : ShowsEnd k z.guid new.conn behind
  pub bound : behind.counter ≤ last_counter

-- ---- why no further frame is answered. Of the link its count of faults is known before and behind, and whether it gave the end.

-- the peer sends no more, no whole frame is left, and each answer was written
pub record IsClosed (rest wrote said : List ℕ) (last : List Placed) (faults faults' : ℕ) (ended : Bool) : Type 0 where
  pub ends : ended ≡ true
  pub waits : front rest ≡ Waits
  pub wrote_is : wrote ≡ said
  pub none_more : last ≡ []
  pub calm : faults' ≡ faults

-- the link failed
pub record HasFailed (last : List Placed) (faults faults' : ℕ) : Type 0 where
  pub rose : Rose faults faults'
  pub none_more : last ≡ []

-- It failed in a read: no whole frame is left, and each answer was written.
pub record HasFailedReading (rest wrote said : List ℕ) : Type 0 where
  pub waits : front rest ≡ Waits
  pub wrote_is : wrote ≡ said

-- It failed in a write: the answers to all frames but the last were written, and a front of that one's.
pub record HasFailedWriting (z : ServerSettings) (h : Course) (k : ℕ) (f : ServerEnd) (before : ℕ) (frames : List (List ℕ))
    (turns : List Placed) (wrote said : List ℕ) (behind : ServerEnd) (setups : ℕ) (seals : List Seal) : Type 0 where
  pub early : List (List ℕ)
  pub frame : List ℕ
  pub frames_are : frames ≡ early ++ frame ∷ []
  pub turns_early : List Placed
  pub own : List Placed
  pub turns_are : turns ≡ turns_early ++ own
  pub whole : List ℕ
  pub part : List ℕ
  pub lost : List ℕ
  pub wrote_is : wrote ≡ whole ++ part
  pub said_is : said ≡ whole ++ (part ++ lost)
  pub middle : ServerEnd
  pub between : ℕ
  pub made : List Seal
  pub more : List Seal
  pub seals_are : seals ≡ made ++ more
  pub answered : AnswersAll z h k f before early turns_early whole middle between made
  pub answer : Answers z h k middle between frame own (part ++ lost) behind setups more

-- the next frame ended the connection, for its own cause; its events stand
pub record WasEnded (z : ServerSettings) (h : Course) (k : ℕ) (f : ServerEnd) (before : ℕ) (rest wrote said : List ℕ) (last : List Placed)
    (faults faults' : ℕ) (why : ConnEnd) : Type 0 where
  pub frame : List ℕ
  pub later : List ℕ
  pub here : Frames rest (frame ∷ []) later
  pub ends : EndsFrame z h k f before frame last why
  pub wrote_is : wrote ≡ said
  pub calm : faults' ≡ faults

-- memory ran out: the events of a front of the next frame's messages stand, and it has no answer
pub record HasLacked (z : ServerSettings) (h : Course) (k : ℕ) (f : ServerEnd) (before : ℕ) (rest wrote said : List ℕ) (last : List Placed)
    (faults faults' : ℕ) : Type 0 where
  pub here : (last ≡ []) ⊎ ((frame : List ℕ) × (later : List ℕ) × Frames rest (frame ∷ []) later × LacksFrame z h k f before frame last)
  pub wrote_is : wrote ≡ said
  pub calm : faults' ≡ faults

-- what came next is no frame
pub record HasBroken (rest wrote said : List ℕ) (last : List Placed) (faults faults' : ℕ) : Type 0 where
  pub refusal : FrameError
  pub breaks : front rest ≡ Breaks refusal
  pub wrote_is : wrote ≡ said
  pub none_more : last ≡ []
  pub calm : faults' ≡ faults

abbrev pub StopsBy : ServerSettings → Course → ℕ → ServerEnd → ℕ → (rest wrote said : List ℕ) → List Placed → (faults faults' : ℕ) → Bool
    → Option ConnEnd → Type 0
StopsBy z h k f before rest wrote said last faults faults' ended None = IsClosed rest wrote said last faults faults' ended
StopsBy z h k f before rest wrote said last faults faults' ended (Some (LinkFault count)) =
    (count ≡ faults') × HasFailed last faults faults'
StopsBy z h k f before rest wrote said last faults faults' ended (Some Memory) =
    HasLacked z h k f before rest wrote said last faults faults'
StopsBy z h k f before rest wrote said last faults faults' ended (Some BadFrame) =
    HasBroken rest wrote said last faults faults' ⊎ WasEnded z h k f before rest wrote said last faults faults' BadFrame
StopsBy z h k f before rest wrote said last faults faults' ended (Some why) =
    WasEnded z h k f before rest wrote said last faults faults' why

-- Frames were answered up to where no further one was, and why. Where the link failed, each whole frame that came before was answered, or
-- it failed in the last answer.
pub record FramesStop (z : ServerSettings) (h : Course) (k : ℕ) (f : ServerEnd) (before : ℕ) (turns : List Placed)
    (stream came wrote : List ℕ) (faults faults' : ℕ) (ended : Bool) (why : Option ConnEnd) (seals : List Seal) : Type 0 where
  pub answered : List Placed
  pub last : List Placed
  pub turns_are : turns ≡ answered ++ last
  pub frames : List (List ℕ)
  pub rest : List ℕ
  pub framed : Frames (stream ++ came) frames rest
  pub said : List ℕ
  pub behind : ServerEnd
  pub setups : ℕ
  pub answers : AnswersAll z h k f before frames answered said behind setups seals
  pub stops : StopsBy z h k behind setups rest wrote said last faults faults' ended why
  pub failed : (count : ℕ) → why ≡ Some (LinkFault count)
      → HasFailedReading rest wrote said ⊎ HasFailedWriting z h k f before frames answered wrote said behind setups seals

-- ---- over a link, in code

module _ {B K : Type 0} (told : Type 0) (given left written : K → List ℕ) (faults : K → ℕ) where
  -- frames were taken and answered on a link that has not failed meanwhile
  pub record GoesOn (v : View B Turn Answer) (old : ConnectionState) (stream : List ℕ) (l : K) (w : View B Turn Answer)
      (new : ConnectionState) (rest : List ℕ) (n : K) : Type 0 where
    pub came : List ℕ
    pub wrote : List ℕ
    pub passed : Passed told given left written l n came wrote
    pub calm : faults n ≡ faults l
    pub turns : List Placed
    pub own : w.own ≡ v.own ++ turns
    pub goes : (z : ServerSettings) (h : Course) (f : ServerEnd) → AllMeet z h turns → ShowsEnd old.conn.id z.guid old.conn f
        → f.counter ≤ last_counter → FramesGo z h old.conn.id f old.setups turns stream came wrote rest new

  module _ (ended : K → Bool) where
    -- up to where no further frame is answered
    pub record Stops (v : View B Turn Answer) (old : ConnectionState) (stream : List ℕ) (l : K) (w : View B Turn Answer) (n : K)
        (why : Option ConnEnd) : Type 0 where
      pub came : List ℕ
      pub wrote : List ℕ
      pub passed : Passed told given left written l n came wrote
      pub turns : List Placed
      pub own : w.own ≡ v.own ++ turns
      pub stops : (z : ServerSettings) (h : Course) (f : ServerEnd) → AllMeet z h turns → ShowsEnd old.conn.id z.guid old.conn f
          → f.counter ≤ last_counter → (seals : List Seal)
          × FramesStop z h old.conn.id f old.setups turns stream came wrote (faults l) (faults n) (ended n) why seals

    -- all whole frames of a stream were taken, or it ended before
    abbrev pub TakesAll : View B Turn Answer → ConnectionState → List ℕ → K → View B Turn Answer → ConnectionState → List ℕ → K
        → Option ConnEnd → Type 0
    TakesAll v old stream l w new rest n None = GoesOn v old stream l w new rest n × (front rest ≡ Waits)
    TakesAll v old stream l w new rest n (Some why) = Stops v old stream l w n (Some why)
