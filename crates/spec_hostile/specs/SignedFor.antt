-- What both ends of a repeat run signed, with the keys and the place that each signature is for, and what an end takes with a valid
-- signature. A place is the opening of a connection where the key is that opening's own, as of final responses and all later messages.
-- It is the session where the key is the session's: of the requests, the interim response and the refusals of a binding
-- (MS-SMB2 3.2.4.1.1, 3.2.5.3, 3.3.4.1.1, 3.3.5.5.2).
use Rattle.std.specs.Prelude.{◌≡◌, ℕ, Bool, true, false, ◌&&◌, if◌then◌else◌, List, [], ◌∷◌, ◌++◌, length, take, drop, Option, Some, None}
use Rattle.std.specs.Prelude.{is_none, is_some, slice_get, Result, Ok, Err}
use Rattle.spec_exchange.specs.Table.{put}
use Rattle.spec_exchange.specs.Commands.{has_bit}
use Rattle.spec_exchange.specs.Client.{Stage, Apart, SaidNegotiate, SaidFirst}
use Rattle.spec_exchange.specs.State.{Server}
use Rattle.spec_wire.specs.messages.SessionSetup.{session_setup_request_in, session_setup_request_fault}
use Rattle.spec_crypto.specs.sessions.Chain.{chain}
use Rattle.spec_crypto.specs.sessions.Signing.{verifies}
use Rattle.spec_world.specs.Settings.{WorldSettings, draw}
use Rattle.spec_world.specs.Messages.{HeardMessage, header_in}
use Rattle.spec_world.specs.Ends.{ClientEnd, ServerEnd, ConnEnd}
use Rattle.spec_world.specs.Answering.{Ending, SaidReply, all_texts, joined_in, text_limit, concatenated}
use Rattle.spec_world.specs.Connection.{Going, went_all, beginning}
use Rattle.spec_world.specs.Hearing.{Checked, Frame, check_frame, signed_by, is_setup}
use Rattle.spec_world.specs.Logon.{Progress, Stays, Interim, Final, full_transcript}
use Rattle.spec_world.specs.Dialog.{line_response, dialog_response, status_due, dialog_fault}
use Rattle.spec_world.specs.World.{World, step_at}
use Rattle.spec_hostile.specs.RepeatRuns.{RepeatWorld, RepeatEvent, Same, Give, UpFrame, DownFrame, own_connection, repeat_happens}
use Rattle.spec_hostile.specs.RepeatRuns.{loaded_up, is_heard, is_served}

-- ---- keys, by what they are derived from

pub record Secret : Type 0 where
  pub base : List ℕ
  pub value : List ℕ  -- of the chain

abbrev pub no_secret : Secret
no_secret = record { base = []; value = [] }

pub data KeyPlace : Type 0 where
  OnOpening : (k opening : ℕ) → KeyPlace
  InSession : (session : ℕ) → KeyPlace

pub record SignedEntry : Type 0 where
  pub to_server : Bool
  pub secret : Secret
  pub place : KeyPlace
  pub message : List ℕ

-- ---- what is remembered of a run: which secret stands behind the server's keys of each connection and of each session, and behind
-- those of the client's session, and what was signed

pub record Watched : Type 0 where
  pub repeating : RepeatWorld
  pub on_connection : ℕ → Secret
  pub in_session : ℕ → Secret
  pub of_client : Secret
  pub signed : List SignedEntry

abbrev pub watching : RepeatWorld → Watched
watching r = record { repeating = r; on_connection = λ k. no_secret; in_session = λ x. no_secret; of_client = no_secret; signed = [] }

abbrev pub opening_of : RepeatWorld → ℕ → KeyPlace
opening_of r k = OnOpening k (r.openings k)

-- a client's end behind its logon
abbrev pub own_secret : ClientEnd → Secret
own_secret n = record { base = n.base; value = chain n.transcript }

-- ---- what the client signed: in a binding a SESSION_SETUP with the session's key, any other request with its channel's

abbrev pub carries_signature : List ℕ → Bool
carries_signature m = has_bit (header_in m).flags 8

abbrev pub entry_up : Watched → ℕ → RepeatWorld → List ℕ → SignedEntry
entry_up t k r m =
    if is_setup (header_in m) then record {
      to_server = true;
      secret = t.of_client;
      place = InSession (header_in m).session;
      message = m;
    }
    else record { to_server = true; secret = own_secret (r.world.wires k).client_end; place = opening_of r k; message = m }

-- t has the session's secret, r the connection's end, both as they are behind the event
unfoldable pub entries_up : Watched → ℕ → RepeatWorld → List UpFrame → List SignedEntry
entries_up t k r [] = []
entries_up t k r (u ∷ us) =
    if carries_signature u.frame then entry_up t k r u.frame ∷ entries_up t k r us else entries_up t k r us

-- what stands behind all that was put before
abbrev pub put_since : RepeatWorld → RepeatWorld → List UpFrame
put_since old new = drop (length old.ups) new.ups

-- ---- what the server signed: its replies to a frame, each with its text

abbrev pub went_at : WorldSettings → World → ℕ → Frame → Going
went_at z w k x =
    went_all z.server k w.values.moment (take 8 (draw z.seed w.draws)) x.server_end
    (beginning w.values.server w.logons x.server_end) x.messages

abbrev pub texts_said : List SaidReply → List (List ℕ)
texts_said rs = concatenated (all_texts false (joined_in (text_limit false) rs))

-- the secret that a final response makes: of the logon, and of the five messages of this end's transcript
abbrev pub secret_made : ServerEnd → SaidReply → Secret
secret_made f r = record { base = r.base; value = chain (full_transcript f r.request.raw) }

-- a SESSION_SETUP that binds to a session which stands
abbrev pub asks_binding : List ℕ → Bool
asks_binding m = is_none (session_setup_request_fault m) && has_bit (session_setup_request_in m).flags 1

abbrev pub binds_to : Server → Checked → Bool
binds_to s c = is_setup c.header && (asks_binding c.bytes && s.present c.header.session)

abbrev pub by_session : Watched → ℕ → List ℕ → SignedEntry
by_session t session m = record { to_server = false; secret = t.in_session session; place = InSession session; message = m }

abbrev pub by_opening : Watched → ℕ → Secret → List ℕ → SignedEntry
by_opening t k s m = record { to_server = false; secret = s; place = opening_of t.repeating k; message = m }

-- A final response is signed with the key that it makes. An interim one that is signed belongs to a binding, and it and the refusal of
-- a binding have the session's key. Any other reply has the channel's.
abbrev pub entry_by : Watched → ℕ → Server → ServerEnd → SaidReply → List ℕ → Progress → SignedEntry
entry_by t k s f r m (Final binding channel encrypts) = by_opening t k (secret_made f r) m
entry_by t k s f r m (Interim binding) = by_session t r.request.header.session m
entry_by t k s f r m Stays =
    if binds_to s r.request then by_session t r.request.header.session m else by_opening t k (t.on_connection k) m

unfoldable pub entries_said : Watched → ℕ → Server → ServerEnd → List SaidReply → List (List ℕ) → List SignedEntry
entries_said t k s f [] ms = []
entries_said t k s f (r ∷ rs) [] = []
entries_said t k s f (r ∷ rs) (m ∷ ms) =
    if is_some r.signer then entry_by t k s f r m r.progress ∷ entries_said t k s f rs ms else entries_said t k s f rs ms

-- the keys behind a final response: the connection's, and those of a session that it makes
abbrev pub noted_final : Watched → ℕ → ServerEnd → SaidReply → Progress → Watched
noted_final t k f r (Final true channel encrypts) = record t { on_connection = put t.on_connection k (secret_made f r) }
noted_final t k f r (Final false channel encrypts) = record t {
  on_connection = put t.on_connection k (secret_made f r);
  in_session = put t.in_session r.request.header.session (secret_made f r);
}
noted_final t k f r _ = t

unfoldable pub noted_each : Watched → ℕ → ServerEnd → List SaidReply → Watched
noted_each t k f [] = t
noted_each t k f (r ∷ rs) = noted_each (noted_final t k f r r.progress) k f rs

-- what is sealed isn't signed
abbrev pub signed_in : WorldSettings → Watched → ℕ → World → Frame → List SignedEntry
signed_in z t k w x =
    let g = went_at z w k x in if x.sealed then [] else entries_said t k g.server x.server_end g.replies (texts_said g.replies)

abbrev pub noted_in : WorldSettings → Watched → ℕ → World → Frame → Watched
noted_in z t k w x = record (noted_each t k x.server_end (went_at z w k x).replies) { signed = t.signed ++ signed_in z t k w x }

-- an end that closes says nothing
abbrev pub said_in : WorldSettings → Watched → ℕ → World → Option ConnEnd → Result Frame ConnEnd → Watched
said_in z t k w (Some why) x = t
said_in z t k w None (Err why) = t
said_in z t k w None (Ok x) = noted_in z t k w x

-- ---- one event

abbrev pub watched_same : WorldSettings → Watched → RepeatEvent → ℕ → Watched
watched_same z t e k =
    let r = repeat_happens z t.repeating e in
    record t { repeating = r; signed = t.signed ++ entries_up t k r (put_since t.repeating r) }

abbrev pub watched_up : WorldSettings → Watched → ℕ → UpFrame → RepeatEvent → Watched
watched_up z t k u e =
    let w = loaded_up t.repeating k u in
    record (said_in z t k w (step_at z w k u.frame).ends (check_frame (w.wires k).server_end u.frame)) {
      repeating = repeat_happens z t.repeating e;
    }

abbrev pub watched_served : WorldSettings → Watched → ℕ → Option UpFrame → RepeatEvent → Watched
watched_served z t k None e = t
watched_served z t k (Some u) e = if is_served t.repeating.world k then watched_up z t k u e else t

-- a session that the client accepts has the keys of the dialog that it was accepted on
abbrev pub secret_accepted : List Ending → Secret → Secret
secret_accepted [] s = s
secret_accepted (a ∷ rest) s = record { base = a.base; value = a.chain }

abbrev pub client_secret : Watched → RepeatWorld → Secret
client_secret t r =
    if t.repeating.world.values.client.live then t.of_client
    else secret_accepted (drop (length t.repeating.world.accepted) r.world.accepted) t.of_client

abbrev pub watched_down : WorldSettings → Watched → ℕ → RepeatEvent → Watched
watched_down z t k e =
    let r = repeat_happens z t.repeating e in
    let behind = record t { repeating = r; of_client = client_secret t r } in
    record behind { signed = t.signed ++ entries_up behind k r (put_since t.repeating r) }

abbrev pub watched_happens : WorldSettings → Watched → RepeatEvent → Watched
watched_happens z t (Same e) = watched_same z t (Same e) (own_connection e)
watched_happens z t (Give k true place) = watched_served z t k (slice_get t.repeating.ups place) (Give k true place)
watched_happens z t (Give k false place) = watched_down z t k (Give k false place)

unfoldable pub watched_run : WorldSettings → List RepeatEvent → Watched → Watched
watched_run z [] t = t
watched_run z (e ∷ es) t = watched_run z es (watched_happens z t e)

-- ---- what an end takes with a valid signature

-- of a frame's message that the server hears: by the connection's key, or, of a SESSION_SETUP, by the key of the session that it names,
-- which stands
abbrev pub VerifiesUp : Watched → ℕ → ServerEnd → Checked → SignedEntry → Bool → Type 0
VerifiesUp t k f c e true =
    (t.repeating.world.values.server.present c.header.session ≡ true)
    × (verifies (t.repeating.world.logons.keys c.header.session).signing c.raw ≡ true)
    × (e.secret ≡ t.in_session c.header.session) × (e.place ≡ InSession c.header.session)
VerifiesUp t k f c e false =
    (signed_by f.keys c.raw ≡ true) × (e.secret ≡ t.on_connection k) × (e.place ≡ opening_of t.repeating k)

abbrev pub TakenUp : Watched → ℕ → ServerEnd → Checked → SignedEntry → Type 0
TakenUp t k f c e =
    (has_bit c.header.flags 8 ≡ true) × (c.fault ≡ None) × (e.to_server ≡ true) × (e.message ≡ c.raw)
    × VerifiesUp t k f c e (is_setup c.header)

-- the dialog takes it as the response that is due
abbrev pub Passes : WorldSettings → ClientEnd → Stage → Option HeardMessage → Type 0
Passes z n stage None = ⊥
Passes z n stage (Some x) = (x.header.status ≡ status_due stage) × (dialog_fault z.client n stage x ≡ None)

abbrev pub PassesAt : WorldSettings → ClientEnd → Stage → List ℕ → Type 0
PassesAt z n stage m = Passes z n stage (dialog_response n stage m)

-- of a frame that the client hears: by the stage of its dialog; before the first interim response, and there but in a binding, nothing
-- is signed
abbrev pub TakenDown : WorldSettings → Watched → ℕ → ClientEnd → List ℕ → SignedEntry → Stage → Type 0
TakenDown z t k n m e Apart =
    (is_some (line_response n m) ≡ true) × (e.secret ≡ own_secret n) × (e.place ≡ opening_of t.repeating k)
TakenDown z t k n m e (SaidNegotiate bound) = ⊥
TakenDown z t k n m e (SaidFirst bound) =
    (bound ≡ true) × PassesAt z n (SaidFirst bound) m × (e.secret ≡ t.of_client)
    × (e.place ≡ InSession t.repeating.world.values.client.session)
TakenDown z t k n m e stage = PassesAt z n stage m × (e.secret ≡ own_secret n) × (e.place ≡ opening_of t.repeating k)

-- in this event an end takes this entry's message
pub data Takes (z : WorldSettings) (t : Watched) (e : SignedEntry) : RepeatEvent → Type 0 where
  TakesUp : (k place i : ℕ) (u : UpFrame) (x : Frame) (c : Checked) → slice_get t.repeating.ups place ≡ Some u
      → is_served t.repeating.world k ≡ true
      → check_frame (t.repeating.world.wires k).server_end u.frame ≡ Ok x → slice_get x.messages i ≡ Some c
      → TakenUp t k x.server_end c e → Takes z t e (Give k true place)
  TakesDown : (k place : ℕ) (d : DownFrame) → slice_get t.repeating.downs place ≡ Some d
      → is_heard t.repeating.world k ≡ true → e.to_server ≡ false → e.message ≡ d.frame
      → TakenDown z t k (t.repeating.world.wires k).client_end d.frame e (t.repeating.world.wires k).client_end.stage
      → Takes z t e (Give k false place)

-- it was signed, for its place
abbrev pub WasSigned : Watched → SignedEntry → Type 0
WasSigned t e = (i : ℕ) × (slice_get t.signed i ≡ Some e)

-- at some event an end takes a message with a valid signature that no end made for that place
pub data HasForged (z : WorldSettings) : List RepeatEvent → Watched → Type 0 where
  Forges : (e : RepeatEvent) (es : List RepeatEvent) (t : Watched) (x : SignedEntry) → Takes z t x e → (WasSigned t x → ⊥)
      → HasForged z (e ∷ es) t
  Later : (e : RepeatEvent) (es : List RepeatEvent) (t : Watched) → HasForged z es (watched_happens z t e) → HasForged z (e ∷ es) t
