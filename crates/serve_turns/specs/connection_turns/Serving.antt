-- One connection from its first turn to its last: the turns of its seat, the bytes of its link, and its end.
use Rattle.std.specs.Prelude.{◌≡◌, ℕ, Bool, true, false, List, [], ◌∷◌, ◌++◌, Option, Some, None, ◌⊎◌}
use Rattle.spec_world.specs.Answering.{Seal}
use Rattle.spec_world.specs.Ends.{first_server_end}
use Rattle.spec_world.specs.Settings.{ServerSettings}
use Rattle.conn_core.specs.Shown.{ShowsEnd}
use Rattle.conn_core.specs.declared.end.ConnEnd.{ConnEnd}
use Rattle.conn_core.specs.declared.end.ConnEnd.TheVariants.{Memory}
use Rattle.serve_turns.specs.connection_turns.Ending.{ended_by, ended_of, has_lost, refusal_of}
use Rattle.serve_turns.specs.connection_turns.Passing.{FramesStop, Stops}
use Rattle.conn_core.specs.frame_events.Dealing.{EventAnswer}
use Rattle.serve_turns.specs.connection_turns.Turning.{HearsOnce, IsThe}
use Rattle.serve_turns.specs.declared.connection_turns.state.ConnectionState.{ConnectionState}
use Rattle.serve_turns.specs.declared.event_book.turn.Answer.{Answer}
use Rattle.serve_turns.specs.declared.event_book.turn.Turn.{Turn}
use Rattle.serve_turns.specs.declared.event_book.turn.What.TheVariants.{Accept, End}
use Rattle.serve_turns.specs.declared.link_serving.ended.Ended.{Ended}
use Rattle.serve_turns.specs.declared.shared_book.view.View.{View}
use Rattle.serve_turns.specs.event_book.History.{AllMeet, Course, Placed}
use Rattle.serve_turns.specs.link_serving.Passage.{Passage, Passed}

-- nothing came, nothing was written, and the link didn't fail
pub record IsTurnIdle (came wrote : List ℕ) (faults faults' : ℕ) : Type 0 where
  pub nothing_came : came ≡ []
  pub nothing_written : wrote ≡ []
  pub calm : faults' ≡ faults

-- it was taken in: a turn when it was made, those of its frames, one when it was lost, and no others
pub record WasTakenIn (z : ServerSettings) (h : Course) (k : ℕ) (own : List Placed) (came wrote : List ℕ) (faults faults' : ℕ)
    (ended : Bool) (end : Ended) (seals : List Seal) : Type 0 where
  pub salt : List ℕ
  pub made : Placed
  pub turns : List Placed
  pub lost : Placed
  pub own_are : own ≡ made ∷ (turns ++ lost ∷ [])
  pub is_made : IsThe (Accept k) made
  pub taken_in : refusal_of made.1.reply.reply ≡ None
  pub is_lost : IsThe (End k) lost
  pub why : Option ConnEnd
  pub frames : FramesStop z h k (first_server_end salt) 0 turns [] came wrote faults faults' ended why seals
  pub end_is : end ≡ ended_of why lost.1.reply.reply

-- It was taken in, but there was no room for its state.
pub record HadNoRoom (k : ℕ) (own : List Placed) (came wrote : List ℕ) (faults faults' : ℕ) (end : Ended) (seals : List Seal)
    : Type 0 where
  pub made : Placed
  pub lost : Placed
  pub own_are : own ≡ made ∷ (lost ∷ [])
  pub is_made : IsThe (Accept k) made
  pub taken_in : refusal_of made.1.reply.reply ≡ None
  pub is_lost : IsThe (End k) lost
  pub idle : IsTurnIdle came wrote faults faults'
  pub end_is : end ≡ ended_by Memory
  pub none_sealed : seals ≡ []

-- It was not taken in: a turn when it was made, and one when it was lost, where the reply to the first one was.
pub record WasRefused (k : ℕ) (own : List Placed) (came wrote : List ℕ) (faults faults' : ℕ) (end : Ended) (seals : List Seal)
    : Type 0 where
  pub made : Placed
  pub behind : List Placed
  pub own_are : own ≡ made ∷ behind
  pub is_made : IsThe (Accept k) made
  pub why : ConnEnd
  pub refused : refusal_of made.1.reply.reply ≡ Some why
  pub none_behind : has_lost made.1.reply.reply ≡ false → behind ≡ []
  pub one_behind : has_lost made.1.reply.reply ≡ true → (lost : Placed) × (behind ≡ lost ∷ []) × IsThe (End k) lost
  pub idle : IsTurnIdle came wrote faults faults'
  pub end_is : end ≡ ended_by why
  pub none_sealed : seals ≡ []

-- The server hears nothing of a link that is let go.
pub record WasLetGo (own : List Placed) (came wrote : List ℕ) (faults faults' : ℕ) (end : Ended) (seals : List Seal) : Type 0 where
  pub none : own ≡ []
  pub idle : IsTurnIdle came wrote faults faults'
  pub end_is : end ≡ ended_by Memory
  pub none_sealed : seals ≡ []

abbrev pub WasServedBy : ServerSettings → Course → ℕ → List Placed → (came wrote : List ℕ) → (faults faults' : ℕ) → Bool → Ended
    → List Seal → Type 0
WasServedBy z h k own came wrote faults faults' ended end seals =
    WasTakenIn z h k own came wrote faults faults' ended end seals
    ⊎ (HadNoRoom k own came wrote faults faults' end seals
    ⊎ (WasRefused k own came wrote faults faults' end seals ⊎ WasLetGo own came wrote faults faults' end seals))

-- The connection of this number was served by a seat: its turns, what its link gave and took, the link's count of faults before and behind,
-- whether the link gave the end, and how it is told to have ended; whatever the places of a history found that these turns meet.
pub record IsServed {B : Type 0} (guid : List ℕ) (number : ℕ) (v : View B Turn Answer) (came wrote : List ℕ) (faults faults' : ℕ)
    (ended : Bool) (end : Ended) (w : View B Turn Answer) : Type 0 where
  pub turns : List Placed
  pub own : w.own ≡ v.own ++ turns
  pub by : (z : ServerSettings) (h : Course) → z.guid ≡ guid → AllMeet z h turns
      → (seals : List Seal) × WasServedBy z h number turns came wrote faults faults' ended end seals

-- the rest of one whose first turn took it in
pub record IsServedOn {B : Type 0} (guid : List ℕ) (number : ℕ) (v : View B Turn Answer) (came wrote : List ℕ) (faults faults' : ℕ)
    (ended : Bool) (end : Ended) (w : View B Turn Answer) : Type 0 where
  pub turns : List Placed
  pub own : w.own ≡ v.own ++ turns
  pub by : (z : ServerSettings) (h : Course) (made : Placed) → z.guid ≡ guid → IsThe (Accept number) made
      → refusal_of made.1.reply.reply ≡ None → AllMeet z h turns
      → (seals : List Seal) × WasServedBy z h number (made ∷ turns) came wrote faults faults' ended end seals

module _ {B : Type 0} where
  -- it was served so, by what passed over its link
  abbrev pub Serves : List ℕ → ℕ → Passage → View B Turn Answer → Ended → View B Turn Answer → Type 0
  Serves guid number p v end w = IsServed guid number v p.came p.wrote p.faults p.faults' p.ended end w

module _ {B : Type 0} where
  -- one that was not taken in: a turn where the reply to the first one was lost
  abbrev pub LetsGoBy : Bool → ℕ → View B Turn Answer → View B Turn Answer → Type 0
  LetsGoBy true number v w = (last : EventAnswer) × HearsOnce v (End number) last w
  LetsGoBy false number v w = w ≡ v

  abbrev pub LetsGo : ℕ → EventAnswer → View B Turn Answer → View B Turn Answer → Type 0
  LetsGo number first v w = LetsGoBy (has_lost first) number v w

module _ {B K : Type 0} (told : Type 0) (given left written : K → List ℕ) (faults : K → ℕ) (ended : K → Bool) where
  -- the frames of a connection that was taken in; or there was no room for its state
  abbrev pub OnLinkFrames : List ℕ → ℕ → View B Turn Answer → K → Option ConnEnd → View B Turn Answer → K → Type 0
  OnLinkFrames guid number v old why w new =
      ((c : ConnectionState) × (salt : List ℕ) × ShowsEnd number guid c.conn (first_server_end salt) × (c.setups ≡ 0)
      × Stops told given left written faults ended v c [] old w new why)
      ⊎ ((why ≡ Some Memory) × (w ≡ v) × (new ≡ old))

  -- the same over this link: the rest of a connection that was taken in, and the whole
  pub record OnLinkTaken (guid : List ℕ) (number : ℕ) (v : View B Turn Answer) (old : K) (end : Ended) (w : View B Turn Answer) (new : K)
      : Type 0 where
    pub came : List ℕ
    pub wrote : List ℕ
    pub passed : Passed told given left written old new came wrote
    pub rest : IsServedOn guid number v came wrote (faults old) (faults new) (ended new) end w

  pub record OnLink (guid : List ℕ) (number : ℕ) (v : View B Turn Answer) (old : K) (end : Ended) (w : View B Turn Answer) (new : K)
      : Type 0 where
    pub came : List ℕ
    pub wrote : List ℕ
    pub passed : Passed told given left written old new came wrote
    pub served : IsServed guid number v came wrote (faults old) (faults new) (ended new) end w
