-- What a server in code answers, over the model's state and the logons that its tables show.
use Rattle.std.specs.Prelude.{◌≡◌, ◌⊎◌, ℕ, ◌≤◌, nat_le, Bool, ◌&&◌, if◌then◌else◌, List, [], ◌++◌, length, Option, Some, None, Result, Ok, Err, ⊤}
use Rattle.base_outside.specs.streams.Faults.{Rose}
use Rattle.spec_crypto.specs.declared.sessions.material.Signer.{Signer}
use Rattle.spec_crypto.specs.sessions.Signing.{verifies}
use Rattle.spec_crypto.specs.tokens.Tokens.{Users}
use Rattle.spec_exchange.specs.Commands as asks
use Rattle.spec_exchange.specs.State as model
use Rattle.spec_exchange.specs.Network.{answer_to}
use Rattle.spec_exchange.specs.Step.{step}
use Rattle.spec_commands.specs.ReplyBody.{reply_body}
use Rattle.wire_commands.specs.values.Meaning
use Rattle.spec_world.specs.Ends.{Logons}
use Rattle.spec_world.specs.Logon as logon
use Rattle.spec_world.specs.Lacking.{alone_records, Expires}
use Rattle.server_checks.specs.setups.Setups.{setup_message, keys_behind, request_of, setup_logons}
use Rattle.server_checks.specs.declared.setups.setup.SetupHeard.{SetupHeard}
use Rattle.conn_core.specs.declared.served.error.ServeError.{ServeError}
use Rattle.conn_core.specs.declared.served.error.ServeError.TheVariants.{Memory, Stopped, Unanswered}
use Rattle.server_checks.specs.declared.event_heard.event.ServerEvent.{ServerEvent}
use Rattle.server_checks.specs.declared.event_heard.event.ServerEvent.TheVariants as events
use Rattle.conn_core.specs.frame_messages.Checking.{IsDenied}
use Rattle.conn_core.specs.declared.conn.Progress.{Progress}
use Rattle.conn_core.specs.declared.conn.Progress.TheVariants.{Stays, Refused, Interim, Final}
use Rattle.conn_core.specs.declared.served.serve.Reply.{Reply}

-- the open that a body tells
abbrev pub created_in : model.Body → Option ℕ
created_in (model.Created reply) = Some reply.id
created_in _ = None

-- a reply in code has the status, the ids and the open of the model's
pub record IsNamed (r : Reply) (due : model.Reply) : Type 0 where
  pub status : due.status ≡ r.status
  pub session : due.session_id ≡ r.session
  pub tree : due.tree_id ≡ r.tree
  pub file : created_in due.body ≡ r.file

-- ---- what a SESSION_SETUP comes to

-- whether it has the signature of its session's own key, live or not
abbrev pub has_own_signature : Logons → SetupHeard → Bool
has_own_signature L q = q.form.signed && (nat_le 64 (length q.bytes.now) && verifies (L.keys q.session_id).signing q.bytes.now)

-- who signs where it is refused, by whether its session is live and by the status; own signs for the connection
abbrev pub refusal_due : Users → model.Server → Logons → SetupHeard → Bool → ℕ → Option Signer → Option Signer
refusal_due users s L q live status own =
    if q.form.binding then logon.binding_signer live (L.keys q.session_id) own (record (request_of users L s q) { verified = has_own_signature L q }) status
    else own

abbrev pub RefusesBy : Progress → Option Signer → Option Signer → Type 0
RefusesBy Stays own due = due ≡ own
RefusesBy (Refused signer) own due = due ≡ signer
RefusesBy _ own due = ⊥

abbrev pub IsProgress : Users → model.Server → Logons → SetupHeard → Bool → ℕ → logon.Progress → Progress → Type 0
IsProgress users s L q live status logon.Stays p = (own : Option Signer) → RefusesBy p own (refusal_due users s L q live status own)
IsProgress users s L q live status (logon.Interim binding) (Interim signer) =
    signer ≡ (if binding then Some (L.keys q.session_id).signing else None)
IsProgress users s L q live status (logon.Final binding channel encrypts) (Final keys number seals) =
    (keys ≡ keys_behind users L q binding) × (keys.cipher ≤ 4) × (number ≡ channel) × (seals ≡ encrypts)
IsProgress users s L q live status _ _ = ⊥

-- ---- an answer

-- a body fits a frame
abbrev pub IsServerShort : Reply → Type 0
IsServerShort r = length r.body ≤ 1113984

pub record ServerAnswers (m : model.Message) (token : List ℕ) (A : model.Answer) (r : Reply) : Type 0 where
  pub named : IsNamed r A.reply
  pub body : r.body ≡ reply_body token m.command A.reply
  pub short : IsServerShort r
  pub acted : r.acted ≡ A.acted

abbrev pub ServerStands : Progress → Type 0
ServerStands Stays = ⊤
ServerStands _ = ⊥

-- what a server shows: a state of the model, logons, and the records that were written
abbrev pub Showing : Type 1
Showing = model.Server → Logons → List model.Record → Type 0

-- the step's own answer, and the state, the logons and the records behind it
abbrev pub RepliesHeard : Showing → model.Server → Logons → List model.Record → ℕ → model.Message → Reply → Type 0
RepliesHeard shown s L records now m r =
    let A = answer_to s now m m.command in
    ServerAnswers m [] A r × ServerStands r.progress × shown A.server L (records ++ A.records)

abbrev pub RepliesSetup : Showing → Users → model.Server → Logons → List model.Record → ℕ → SetupHeard → Reply → Type 0
RepliesSetup shown users s L records now q r =
    let m = setup_message users L s q in
    let A = answer_to s now m m.command in
    let p = logon.progress m.command A.reply in
    ServerAnswers m (logon.answer_token_by users (L.pending q.connection) q.form.token.now q.fresh now p) A r
    × IsProgress users s L q (A.server.present q.session_id) A.reply.status p r.progress × shown A.server (setup_logons users L q now p) (records ++ A.records)

-- the step's answer to what isn't a message: its status alone, and the state and the records behind it
abbrev pub RepliesOther : Showing → model.Server → Logons → List model.Record → ℕ → model.ServerEvent → Reply → Type 0
RepliesOther shown s L records now e r =
    let A = step s now e in
    (r.status ≡ A.reply.status) × (r.acted ≡ A.acted) × shown A.server L (records ++ A.records)

abbrev pub ServerReplies : Showing → Users → model.Server → Logons → List model.Record → ℕ → ServerEvent → Reply → Type 0
ServerReplies shown users s L records now (events.Message message) r =
    RepliesHeard shown s L records now (Meaning.message_of message) r
ServerReplies shown users s L records now (events.Setup setup) r = RepliesSetup shown users s L records now setup r
ServerReplies shown users s L records now (events.Accept connection) r = RepliesOther shown s L records now (model.Accept connection) r
ServerReplies shown users s L records now (events.End connection) r = RepliesOther shown s L records now (model.End connection) r
ServerReplies shown users s L records now events.Stop r = RepliesOther shown s L records now model.Stop r

-- ---- an event that was carried out, whose reply is lost: whether it acted, and what is behind it

abbrev pub IsLost : Showing → model.Answer → Logons → List model.Record → Bool → Type 0
IsLost shown A L records acted = (acted ≡ A.acted) × shown A.server L (records ++ A.records)

abbrev pub LosesHeard : Showing → model.Server → Logons → List model.Record → ℕ → model.Message → Bool → Type 0
LosesHeard shown s L records now m acted = IsLost shown (answer_to s now m m.command) L records acted

abbrev pub LosesSetup : Showing → Users → model.Server → Logons → List model.Record → ℕ → SetupHeard → Bool → Type 0
LosesSetup shown users s L records now q acted =
    let m = setup_message users L s q in
    let A = answer_to s now m m.command in
    IsLost shown A (setup_logons users L q now (logon.progress m.command A.reply)) records acted

abbrev pub ServerLoses : Showing → Users → model.Server → Logons → List model.Record → ℕ → ServerEvent → Bool → Type 0
ServerLoses shown users s L records now (events.Message message) acted =
    LosesHeard shown s L records now (Meaning.message_of message) acted
ServerLoses shown users s L records now (events.Setup setup) acted = LosesSetup shown users s L records now setup acted
ServerLoses shown users s L records now (events.Accept connection) acted =
    IsLost shown (step s now (model.Accept connection)) L records acted
ServerLoses shown users s L records now (events.End connection) acted = IsLost shown (step s now (model.End connection)) L records acted
ServerLoses shown users s L records now events.Stop acted = IsLost shown (step s now model.Stop) L records acted

-- ---- what a server is asked: no NEGOTIATE and no ECHO, and no SESSION_SETUP without what its connection tells, whose fault is
-- ACCESS_DENIED, if it has one

abbrev pub IsServerPlain : asks.Command → Type 0
IsServerPlain (asks.Aside status) = ⊥
IsServerPlain (asks.Setup request) = ⊥
IsServerPlain _ = ⊤

abbrev pub IsServerServed : ServerEvent → Type 0
IsServerServed (events.Message message) = IsServerPlain (Meaning.command_of message.command)
IsServerServed (events.Setup setup) = IsDenied setup.fault
IsServerServed _ = ⊤

-- Where no memory was found the state and the records are as before, or behind one expiry alone.
abbrev pub LeftBy : model.Server → ℕ → model.ServerEvent → model.Server → List model.Record → Type 0
LeftBy s now e t more =
    ((t ≡ s) × (more ≡ [])) ⊎ ((o : ℕ) × Expires s now e t o × (more ≡ alone_records s now e o))

abbrev pub ServerLacks : Users → model.Server → Logons → ℕ → ServerEvent → model.Server → List model.Record → Type 0
ServerLacks users s L now (events.Message message) t more = LeftBy s now (model.Heard (Meaning.message_of message)) t more
ServerLacks users s L now (events.Setup setup) t more = LeftBy s now (model.Heard (setup_message users L s setup)) t more
ServerLacks users s L now (events.Accept connection) t more = LeftBy s now (model.Accept connection) t more
ServerLacks users s L now (events.End connection) t more = LeftBy s now (model.End connection) t more
ServerLacks users s L now events.Stop t more = LeftBy s now model.Stop t more

abbrev pub ServerServes : Showing → Users → model.Server → Logons → List model.Record → ℕ → ServerEvent
    → Result Reply ServeError → Type 0
ServerServes shown users s L records now event (Ok r) = ServerReplies shown users s L records now event r
ServerServes shown users s L records now event (Err Memory) =
    (t : model.Server) × (more : List model.Record) × ServerLacks users s L now event t more × shown t L (records ++ more)
ServerServes shown users s L records now event (Err (Unanswered acted)) = ServerLoses shown users s L records now event acted
ServerServes shown users s L records now event (Err (Stopped count)) = ⊤

-- ---- where a server stops: it answers `Stopped` with the count of its disk's faults, and did so where it had stopped before; any other
-- answer is that of one that goes on

abbrev pub Halts : Option ℕ → Option ℕ → Result Reply ServeError → Type 0
Halts old new (Err (Stopped count)) = (new ≡ Some count) × ((n : ℕ) → old ≡ Some n → count ≡ n)
Halts old new _ = (old ≡ None) × (new ≡ None)

-- in the call in which it stops: of its disk's faults, whose count rose, it tells just the count behind the call
abbrev pub StopsAtFault : (faults faults' count : ℕ) → Type 0
StopsAtFault faults faults' count = Rose faults count × (count ≡ faults')

-- it shows a state, and hasn't stopped but where it had before
abbrev pub Onward : Showing → Option ℕ → Option ℕ → Showing
Onward shown old new s L records = shown s L records × (new ≡ old)
