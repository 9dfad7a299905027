-- The replies to a frame's messages in code, one after the other.
use Rattle.std.specs.Prelude.{◌≡◌, ℕ, ◌≤◌, ◌==◌, Bool, true, false, not, is_some, ◌&&◌, if◌then◌else◌, List, [], ◌∷◌}
use Rattle.std.specs.Prelude.{Option, Some, None, Result, Ok, Err, ⊤}
use Rattle.spec_exchange.specs.Status.{invalid_parameter, no_memory, success}
use Rattle.spec_exchange.specs.Commands.{Aside}
use Rattle.spec_exchange.specs.State as model
use Rattle.spec_wire.specs.messages.Bare.{bare_fault}
use Rattle.spec_commands.specs.CommandOf.{echo_status}
use Rattle.spec_crypto.specs.declared.sessions.material.Keys.{Keys}
use Rattle.spec_crypto.specs.declared.sessions.material.Signer.{Signer}
use Rattle.spec_world.specs.Negotiate.{negotiate_status}
use Rattle.spec_wire.specs.credits.Window.{HeldIds, granted, after_grant}
use Rattle.spec_world.specs.Settings.{ServerSettings}
use Rattle.spec_world.specs.Ends.{ServerEnd, no_keys, signer_on}
use Rattle.spec_world.specs.Hearing as hearing
use Rattle.spec_world.specs.Logon as logon
use Rattle.spec_world.specs.Answering as answering
use Rattle.spec_world.specs.Connection.{said_failed}
use Rattle.conn_core.specs.declared.conn.Conn.{Conn}
use Rattle.conn_core.specs.declared.frame_messages.checked.Checked.{Checked}
use Rattle.conn_core.specs.declared.served.serve.Reply.{Reply}
use Rattle.conn_core.specs.declared.conn.Progress.{Progress}
use Rattle.conn_core.specs.declared.conn.Progress.TheVariants.{Stays, Refused, Interim, Final}
use Rattle.conn_core.specs.declared.served.error.ServeError.{ServeError}
use Rattle.conn_core.specs.declared.served.error.ServeError.TheVariants as errors
use Rattle.conn_core.specs.frame_messages.Checking.{ShowsGoing, message_in}
use Rattle.conn_core.specs.declared.frame_messages.checked.CheckedFrame.{CheckedFrame}
use Rattle.conn_core.specs.declared.negotiating.greeting.Hello.{Hello}
use Rattle.conn_core.specs.declared.reply_sealing.said.Said.{Said}
use Rattle.conn_core.specs.negotiating.Greeting.{IsHello}
use Rattle.conn_core.specs.related.Carrying.{is_broken}
use Rattle.conn_core.specs.served.Serving.{IsServerShort}
use Rattle.conn_core.specs.reply_sealing.Saying.{AreProgressKeys, IsReplySaid, MovesAs}

-- ---- one reply

-- by the server's answer: who signs it goes by what a SESSION_SETUP comes to, and else own does
abbrev pub progress_signer : Progress → Option Signer → Option Signer
progress_signer Stays own = own
progress_signer (Refused signer) own = signer
progress_signer (Interim signer) own = signer
progress_signer (Final keys channel encrypts) own = Some keys.signing

abbrev pub signer_due : ServerEnd → hearing.Checked → Progress → Option Signer
signer_due f c p = logon.unless_faulty c.fault (progress_signer p (signer_on f.keys))

-- an interim response is a SESSION_SETUP's
abbrev pub MessageSetsUp : Progress → hearing.Checked → Type 0
MessageSetsUp (Interim signer) c = hearing.is_setup c.header ≡ true
MessageSetsUp _ c = ⊤

pub record IsSaidTo (f : ServerEnd) (w : HeldIds) (c : hearing.Checked) (r : Reply) (s : answering.SaidReply) : Type 0 where
  pub header : s.header ≡ answering.reply_header c r.status r.session r.tree (granted c.header.credits w)
  pub body : s.body ≡ r.body
  pub signer : s.signer ≡ signer_due f c r.progress
  pub request : s.request ≡ c
  pub progress : MovesAs r.progress s
  pub sets : MessageSetsUp r.progress c
  pub known : AreProgressKeys r.progress

-- of a NEGOTIATE or an ECHO, by the connection alone; nobody signs the answer to an ECHO of SessionId 0
abbrev pub said_aside : ServerSettings → ℕ → ServerEnd → HeldIds → hearing.Checked → ℕ → answering.SaidReply
said_aside z now f w c status = record {
  header = answering.reply_header c status c.header.session c.header.tree (granted c.header.credits w);
  body = answering.said_body z.guid f.salt now c [] (Aside status) (record {
    status = status;
    session_id = c.header.session;
    tree_id = c.header.tree;
    body = model.Empty;
  });
  signer = logon.unless_faulty c.fault (logon.plain_signer f c);
  request = c;
  progress = logon.Stays;
  base = [];
  keys = no_keys;
}

abbrev pub negotiate_due : hearing.Checked → ℕ
negotiate_due c = if is_broken c then invalid_parameter else negotiate_status c.bytes

abbrev pub echo_due : hearing.Checked → ℕ
echo_due c = if is_broken c then invalid_parameter else echo_status c.fault (bare_fault c.bytes)

abbrev pub aside_status : hearing.Checked → Option ℕ
aside_status c =
    if hearing.is_negotiate c.header then Some (negotiate_due c)
    else if c.header.command == 13 then Some (echo_due c)
    else None

-- ---- the replies of a frame's messages in order, each of the credits that the window grants it, and the window behind them

-- what is due of the messages behind one: their events' answers, the window, and their replies
abbrev pub Later : Type 1
Later = List (Result Reply ServeError) → HeldIds → List answering.SaidReply → Type 0

-- by the answer that its event has
abbrev pub IsMessageAnswered : ServerEnd → HeldIds → hearing.Checked → Result Reply ServeError → answering.SaidReply → Type 0
IsMessageAnswered f w c (Ok r) s = IsSaidTo f w c r s
IsMessageAnswered f w c (Err errors.Memory) s = s ≡ said_failed f w c no_memory
IsMessageAnswered f w c (Err e) s = ⊥

abbrev pub SaysReply : ServerEnd → HeldIds → hearing.Checked → Later → List (Result Reply ServeError) → List answering.SaidReply → Type 0
SaysReply f w c later (r ∷ rs) (s ∷ ss) = IsMessageAnswered f w c r s × later rs (after_grant c.header.credits w) ss
SaysReply f w c later (r ∷ rs) [] = ⊥
SaysReply f w c later [] ss = ⊥

abbrev pub SaysThis : answering.SaidReply → HeldIds → Later → List (Result Reply ServeError) → List answering.SaidReply → Type 0
SaysThis due w later rs (s ∷ ss) = (s ≡ due) × later rs w ss
SaysThis due w later rs [] = ⊥

-- whatever is remembered of a logon beside it
abbrev pub SaysAside : answering.SaidReply → HeldIds → Later → List (Result Reply ServeError) → List answering.SaidReply → Type 0
SaysAside due w later rs (s ∷ ss) = ((base : List ℕ) × (s ≡ record due { base = base })) × later rs w ss
SaysAside due w later rs [] = ⊥

-- none to a CANCEL; of a message that fails, of a NEGOTIATE or an ECHO by the connection alone; else by its event's answer
abbrev pub MessageSays : ServerSettings → ℕ → ServerEnd → HeldIds → hearing.Checked → Bool → Option ℕ → Option ℕ → Later
    → List (Result Reply ServeError) → List answering.SaidReply → Type 0
MessageSays z now f w c true fails aside later rs ss = later rs w ss
MessageSays z now f w c false (Some status) aside later rs ss = SaysThis (said_failed f w c status)
    (after_grant c.header.credits w) later rs ss
MessageSays z now f w c false None (Some status) later rs ss = SaysAside (said_aside z now f w c status)
    (after_grant c.header.credits w) later rs ss
MessageSays z now f w c false None None later rs ss = SaysReply f w c later rs ss

abbrev pub AreMessagesSaid : ServerSettings → ℕ → ServerEnd → List Checked → List hearing.Checked → List (Result Reply ServeError) → HeldIds
    → List answering.SaidReply → HeldIds → Type 0
AreMessagesSaid z now f [] [] rs w ss v = (rs ≡ []) × (ss ≡ []) × (v ≡ w)
AreMessagesSaid z now f (m ∷ ms) (c ∷ cs) rs w ss v =
    MessageSays z now f w c (hearing.is_cancel c.header) m.fails (aside_status c) (λ later u rest.
    AreMessagesSaid z now f ms cs later u rest v) rs ss
AreMessagesSaid z now f [] (c ∷ cs) rs w ss v = ⊥
AreMessagesSaid z now f (m ∷ ms) [] rs w ss v = ⊥

-- ---- one reply in its turn

-- a checked message in code is the definitions', in what its reply's header and signature take of it
pub record IsLike (m : Checked) (c : hearing.Checked) : Type 0 where
  pub header : c.header ≡ m.header
  pub related : c.related ≡ m.related
  pub fault : c.fault ≡ m.fault

-- and in its bytes
pub record IsShown (x : CheckedFrame) (m : Checked) (c : hearing.Checked) : Type 0 where
  pub like : IsLike m c
  pub bytes : c.bytes ≡ message_in x.bytes.items m

-- nothing of the connection changes but its window
pub record MessageKept (old new : Conn) : Type 0 where
  pub id : new.id ≡ old.id
  pub guid : new.guid ≡ old.guid
  pub salt : new.salt ≡ old.salt
  pub asked : new.asked ≡ old.asked
  pub logon : new.logon ≡ old.logon
  pub nonces : new.nonces ≡ old.nonces
  pub spare : new.spare ≡ old.spare

-- credits are granted
pub record Grants (credits : ℕ) (old new : Conn) : Type 0 where
  pub window : new.window ≡ after_grant credits old.window
  pub kept : MessageKept old new

-- it goes its way, and is no NEGOTIATE, ECHO or CANCEL
abbrev pub has_message_event : Checked → Bool
has_message_event m = not (is_some m.fails)
    && (not (m.header.command == 0) && (not (m.header.command == 13) && not (m.header.command == 12)))

-- of a NEGOTIATE what answers it
abbrev pub HelloFor : List ℕ → List ℕ → ℕ → hearing.Checked → Option Hello → Type 0
HelloFor guid salt now c (Some h) = hearing.is_negotiate c.header ≡ true → IsHello guid salt now c.bytes h
HelloFor guid salt now c None = hearing.is_negotiate c.header ≡ false

-- a NEGOTIATE is the first of its frame
abbrev pub HelloOf : List ℕ → List ℕ → ℕ → List hearing.Checked → Option Hello → Type 0
HelloOf guid salt now [] hello = hello ≡ None
HelloOf guid salt now (c ∷ cs) (Some h) = (hearing.is_negotiate c.header ≡ true) × IsHello guid salt now c.bytes h
HelloOf guid salt now (c ∷ cs) None = hearing.is_negotiate c.header ≡ false

-- by the answer that its event has
abbrev pub SaidOf : ServerEnd → HeldIds → hearing.Checked → Option (Result Reply ServeError) → Said → Type 0
SaidOf f w c (Some (Ok r)) said = (s : answering.SaidReply) → IsSaidTo f w c r s → IsReplySaid said s
SaidOf f w c _ said = IsReplySaid said (said_failed f w c no_memory)

abbrev pub SaidIf : ServerSettings → ℕ → ServerEnd → HeldIds → hearing.Checked → Option ℕ → Option ℕ → Option (Result Reply ServeError)
    → Said → Type 0
SaidIf z now f w c (Some status) aside given said = IsReplySaid said (said_failed f w c status)
SaidIf z now f w c None (Some status) given said = IsReplySaid said (said_aside z now f w c status)
SaidIf z now f w c None None given said = SaidOf f w c given said

abbrev pub SaidBy : ServerSettings → ℕ → ServerEnd → HeldIds → Checked → hearing.Checked → Option (Result Reply ServeError) → Said → Type 0
SaidBy z now f w m c given said = SaidIf z now f w c m.fails (aside_status c) given said

-- the next reply of a frame's, to the message c, none to a CANCEL, and what is due behind it
abbrev pub SaysNext : ServerSettings → ℕ → ServerEnd → hearing.Checked → List Checked → List hearing.Checked
    → List (Result Reply ServeError) → Conn → List answering.SaidReply → HeldIds → ℕ → Option Said → Type 0
SaysNext z now f c ms cs rs new ss v at None = AreMessagesSaid z now f ms cs rs new.window ss v
SaysNext z now f c ms cs rs new ss v at (Some said) = (s : answering.SaidReply) × (rest : List answering.SaidReply) × (ss ≡ s ∷ rest)
    × IsReplySaid said s × (s.request ≡ c) × (said.at ≡ at) × AreMessagesSaid z now f ms cs rs new.window rest v

-- the messages as they stand behind what they took over; what is hashed stands as it was heard
abbrev pub ShowsTaken : List ℕ → List Checked → List hearing.Checked → Type 0
ShowsTaken bytes [] [] = ⊤
ShowsTaken bytes (m ∷ ms) (c ∷ cs) = ShowsGoing bytes m c × ShowsTaken bytes ms cs
ShowsTaken bytes [] (c ∷ cs) = ⊥
ShowsTaken bytes (m ∷ ms) [] = ⊥

-- bodies that fit a frame
abbrev pub IsShortAnswer : Result Reply ServeError → Type 0
IsShortAnswer (Ok r) = IsServerShort r
IsShortAnswer (Err e) = ⊤

unfoldable pub AreMessagesShort : List (Result Reply ServeError) → Type 0
AreMessagesShort [] = ⊤
AreMessagesShort (Ok r ∷ rs) = IsServerShort r × AreMessagesShort rs
AreMessagesShort (Err e ∷ rs) = AreMessagesShort rs

-- a message that fails with a CREATE before it has a status that isn't a success
abbrev pub FailsAt : Option ℕ → Type 0
FailsAt None = ⊤
FailsAt (Some status) = status ≡ success → ⊥

abbrev pub FailRightly : List Checked → Type 0
FailRightly [] = ⊤
FailRightly (m ∷ ms) = FailsAt m.fails × FailRightly ms

-- ---- what the connection behind a reply takes of it

-- of a NEGOTIATE that was answered with success the definitions choose
abbrev pub GreetsBy : answering.SaidReply → Type 0
GreetsBy s = hearing.is_negotiate s.request.header ≡ true → s.header.status ≡ success → negotiate_status s.request.bytes ≡ success

-- an interim response is a SESSION_SETUP's, and the keys of a final one have a known cipher
abbrev pub SettlesBy : logon.Progress → hearing.Checked → Keys → Type 0
SettlesBy logon.Stays c keys = ⊤
SettlesBy (logon.Interim binding) c keys = hearing.is_setup c.header ≡ true
SettlesBy (logon.Final binding channel encrypts) c keys = keys.cipher ≤ 4

pub record IsSound (s : answering.SaidReply) : Type 0 where
  pub settles : SettlesBy s.progress s.request s.keys
  pub greets : GreetsBy s

unfoldable pub AreSound : List answering.SaidReply → Type 0
AreSound [] = ⊤
AreSound (s ∷ ss) = IsSound s × AreSound ss

-- where a NEGOTIATE is among them one was heard
abbrev pub AskedBy : Bool → hearing.Checked → Type 0
AskedBy asked c = hearing.is_negotiate c.header ≡ true → asked ≡ true

unfoldable pub AreAsked : Bool → List hearing.Checked → Type 0
AreAsked asked [] = ⊤
AreAsked asked (c ∷ cs) = AskedBy asked c × AreAsked asked cs
