-- A channel's end of its link, from its NEGOTIATE to where the link is used no more (MS-SMB2 3.2.4.2, 3.2.5), and which turn at the client
-- is due there.
use Rattle.std.specs.Prelude.{◌≡◌, ℕ, Bool, true, false, List, Option, None, Some, is_some, if◌then◌else◌}
use Rattle.client_ends.specs.declared.dialog_calls.heard.Heard.{Heard}
use Rattle.client_ends.specs.declared.dialog_calls.heard.Heard.TheVariants as heards
use Rattle.client_ends.specs.declared.ends.dialog.Dialog.{Dialog}
use Rattle.client_ends.specs.declared.ends.line.Line.{Line}
use Rattle.client_ends.specs.declared.line_calls.incoming.Answer.{Answer}
use Rattle.spec_crypto.specs.declared.sessions.material.Keys.{Keys}
use Rattle.wire_bytes.specs.declared.headers.request.Request.{Request}
use Rattle.wire_bytes.specs.declared.session_messages.refusal.Refusal.{Refusal}
use Rattle.client_book.specs.Steps.{is_nothing}
use Rattle.client_channels.specs.declared.channel_turns.starting.Aim.{Aim}
use Rattle.client_channels.specs.declared.channel_turns.starting.Aim.TheVariants as aims
use Rattle.client_book.specs.declared.turn.Told.{Told}
use Rattle.client_book.specs.declared.turn.Told.TheVariants as tells
use Rattle.client_book.specs.declared.turn.Turn.{Turn}
use Rattle.client_book.specs.declared.turn.Turn.TheVariants as turns

pub data Side : Type 0 where
  Says : (message : List ℕ) (behind : Side) → Side  -- this message is to go out
  Talks : (dialog : Dialog) → Side  -- its dialog waits for a response
  Joins : (dialog : Dialog) → Side  -- its dialog bound it to a session, and gives its line away next
  Accepts : (keys : Keys) (tree_connect : List ℕ) (dialog : Dialog) → Side  -- its dialog accepted a session
  IsReady : (line : Line) (session tree : ℕ) → Side  -- its dialog ended well
  IsDenied : (why : Refusal) → Side  -- its dialog was refused
  Finishes : (why : Refusal) → Side  -- so that no session can be had
  IsStale : Side  -- it named a session that has ended
  Leaves : Side  -- its link ended in the course of the dialog
  Runs : (line : Line) → Side
  Sends : (line : Line) (request : Request) → Side  -- the client told it to send this
  Hears : (line : Line) (answer : Answer) → Side  -- a reply came
  Breaks : Side  -- it is to be cut
  Lost : Side  -- something that came found no memory
  Ends : Side  -- the link is used no more

-- what a channel connects for

-- the number that the nonces of a bound channel carry
abbrev pub number_in : Aim → ℕ
number_in (aims.Make previous) = 0
number_in (aims.Bind bound number) = number

abbrev pub aim_of : Told → Option Aim
aim_of (tells.Make previous) = Some (aims.Make previous)
aim_of (tells.Bind bound number) = Some (aims.Bind bound number)
aim_of _ = None

-- ---- what comes of what it hears

-- the link ended, failed, or gave what is no frame
abbrev pub over : Side → Side
over (Talks dialog) = Leaves
over (Runs line) = Breaks
over _ = Ends

-- a dialog heard a response
abbrev pub side_heard : Heard → Dialog → Side
side_heard (heards.Say message) d = Says message (Talks d)
side_heard (heards.Accepted keys chosen message) d = if is_some d.bound then Joins d else Accepts keys message d
side_heard (heards.Ready line session tree) d = IsReady line session tree
side_heard (heards.Refused why) d = IsDenied why

-- ---- its turns

-- behind a turn that was told to stop nothing more is done
abbrev pub is_stop : Told → Bool
is_stop tells.Stop = true
is_stop _ = false

abbrev pub unless_stopped : Told → Side → Side
unless_stopped told s = if is_stop told then Ends else s

abbrev pub behind_ready : Told → Line → Side
behind_ready told line = if is_nothing told then Runs line else if is_stop told then Ends else IsStale

-- a refused dialog of a new session gives all up
abbrev pub behind_refused : Aim → Refusal → Side
behind_refused (aims.Make previous) why = Finishes why
behind_refused (aims.Bind bound number) why = Ends

abbrev pub behind_push : Told → Line → Side
behind_push tells.Nothing line = Runs line
behind_push (tells.Send request) line = Sends line request
behind_push _ line = Ends

abbrev pub behind_hear : Told → Line → Side
behind_hear told line = if is_nothing told then Runs line else Ends

-- the turn that a side takes, what it is told, and the side behind it
abbrev pub TakesTurn : Aim → ℕ → Side → Turn → Told → Side → Type 0
TakesTurn a k (Accepts keys message d) turn told s = (turn ≡ turns.Accept d.session keys) ×
    (s ≡ unless_stopped told (Says message (Talks d)))
TakesTurn a k (IsReady line session tree) turn told s = (turn ≡ turns.Ready k session tree) × (s ≡ behind_ready told line)
TakesTurn a k (IsDenied why) turn told s = (turn ≡ turns.Refused k why) × (s ≡ unless_stopped told (behind_refused a why))
TakesTurn a k (Finishes why) turn told s = (turn ≡ turns.Finish why) × (s ≡ Ends)
TakesTurn a k IsStale turn told s = (turn ≡ turns.Failed k) × (s ≡ Ends)
TakesTurn a k Leaves turn told s = (turn ≡ turns.Leave k) × (s ≡ Ends)
TakesTurn a k (Runs line) turn told s = (turn ≡ turns.Push k line.purse.held) × (s ≡ behind_push told line)
TakesTurn a k (Hears line answer) turn told s = (turn ≡ turns.Hear k answer) × (s ≡ behind_hear told line)
TakesTurn a k Breaks turn told s = (turn ≡ turns.Cut k) × (s ≡ Ends)
TakesTurn a k _ turn told s = ⊥
