-- Random bytes, and what is made of them.
use Rattle.std.specs.Prelude.{◌≡◌, ℕ, Bool, true, false, List, [], ◌∷◌, ◌++◌, replicate, ⊤}
use Rattle.rand_core.specs.Stream.{Stream, fill_bytes}
use Rattle.spec_world.specs.Ends.{first_server_end}
use Rattle.conn_core.specs.Shown.{ShowsEnd}
use Rattle.conn_core.specs.frame_messages.Checking.{holds_setup}
use Rattle.serve_turns.specs.connection_turns.Frames.{AreAtOnce}
use Rattle.serve_turns.specs.declared.connection_turns.state.ConnectionState.{ConnectionState}
use Rattle.serve_turns.specs.declared.event_book.turn.Answer.{Answer}
use Rattle.serve_turns.specs.declared.event_book.turn.Turn.{Turn}
use Rattle.serve_turns.specs.declared.event_book.turn.What.{What}
use Rattle.serve_turns.specs.declared.event_book.turn.What.TheVariants.{Accept, Message, End}
use Rattle.serve_turns.specs.declared.shared_book.view.View.{View}
use Rattle.serve_turns.specs.event_book.History.{Placed}

-- So many bytes are what a generator in some state gives next. Code over any kind of generator has no state but by its calls.
pub record IsDrawn {R : Type 0} (stream : R → Stream) (count : ℕ) (bytes : List ℕ) : Type 0 where
  pub generator : R
  pub is : bytes ≡ (fill_bytes count (stream generator)).0

-- a connection that was just taken in: its salt was drawn
pub record BeginsSalted {R : Type 0} (stream : R → Stream) (number : ℕ) (guid : List ℕ) (state : ConnectionState) : Type 0 where
  pub salt : List ℕ
  pub drawn : IsDrawn stream 32 salt
  pub shows : ShowsEnd number guid state.conn (first_server_end salt)
  pub none : state.setups ≡ 0

-- 8 bytes that were drawn; or none were, and these are zeros
abbrev pub IsDrawnIf : {R : Type 0} → (R → Stream) → Bool → List ℕ → Type 0
IsDrawnIf stream true fresh = IsDrawn stream 8 fresh
IsDrawnIf stream false fresh = fresh ≡ replicate 8 0

-- what a turn is told: bytes that were drawn, if its message's frame holds a SESSION_SETUP
abbrev pub ToldDrawn : {R : Type 0} → (R → Stream) → What → Type 0
ToldDrawn stream (Accept k) = ⊤
ToldDrawn stream (Message a) = IsDrawnIf stream (holds_setup a.frame.messages.items) a.told.fresh
ToldDrawn stream (End k) = ⊤

abbrev pub AllToldDrawn : {R : Type 0} → (R → Stream) → List Placed → Type 0
AllToldDrawn stream [] = ⊤
AllToldDrawn stream (x ∷ xs) = ToldDrawn stream x.1.event.what × AllToldDrawn stream xs

-- A frame's turns: of one moment, each told the same bytes, which were drawn if the frame holds a SESSION_SETUP.
pub record HasDrawn {B R : Type 0} (stream : R → Stream) (v w : View B Turn Answer) : Type 0 where
  pub turns : List Placed
  pub own : w.own ≡ v.own ++ turns
  pub now : ℕ
  pub fresh : List ℕ
  pub at_once : AreAtOnce now fresh turns
  pub drawn : AllToldDrawn stream turns
