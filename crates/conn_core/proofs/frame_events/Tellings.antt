-- What an event gives by what its connection tells of its message.
use Rattle.std.proofs.Common.{◌≡◌, ℕ, ◌+◌, ◌≤◌, Bool, if◌then◌else◌, List, ◌++◌, length, Option, Some, None}
use Rattle.std.proofs.Common.{Result, Ok, Err, inl, inr, refl, sym, ap, subst, ◌∙◌}
use Rattle.spec_exchange.specs.State as model
use Rattle.spec_exchange.specs.Table.{put}
use Rattle.spec_exchange.specs.Network.{answer_to}
use Rattle.spec_commands.specs.ReplyBody.{reply_body}
use Rattle.spec_crypto.specs.sessions.Derivation.{keys_of}
use Rattle.spec_crypto.specs.tokens.Tokens.{Users}
use Rattle.wire_commands.specs.values.Meaning.{message_of, command_of}
use Rattle.wire_commands.specs.declared.values.request.Message.{Message}
use Rattle.spec_world.specs.Settings.{ServerSettings}
use Rattle.spec_world.specs.Ends.{ServerEnd, Logons}
use Rattle.spec_world.specs.Hearing as hearing
use Rattle.spec_world.specs.Logon as logon
use Rattle.server_checks.specs.setups.Setups.{request_of, setup_logons, setup_message}
use Rattle.server_checks.specs.declared.setups.setup.SetupHeard.{SetupHeard}
use Rattle.server_checks.specs.declared.event_heard.event.ServerEvent.{ServerEvent}
use Rattle.server_checks.specs.declared.event_heard.event.ServerEvent.TheVariants as events
use Rattle.conn_core.specs.declared.frame_messages.checked.Checked.{Checked}
use Rattle.conn_core.specs.frame_messages.Checking.{IsDenied, ShowsGoing, message_in}
use Rattle.conn_core.specs.declared.served.error.ServeError.{ServeError}
use Rattle.conn_core.specs.declared.served.error.ServeError.TheVariants as errors
use Rattle.conn_core.specs.declared.served.serve.Reply.{Reply}
use Rattle.conn_core.specs.served.Serving.{IsServerPlain, ServerServes, Showing}
use Rattle.conn_core.specs.declared.requests.hearing.Told.{Told}
use Rattle.conn_core.specs.requests.Asking.{IsRequestEvent, IsRequestHeard, IsRequestTold, message_for, setup_of}
use Rattle.conn_core.specs.requests.Telling.{told_checked, told_logons}
use Rattle.conn_core.proofs.requests.Plain.{plain_event}
use Rattle.conn_core.proofs.requests.Setups.{same_answer}
use Rattle.conn_core.specs.frame_events.Dealing.{GivesIf}
use Rattle.conn_core.specs.frame_events.Telling.{ToldBy, ToldIf, ToldLost, ToldReply}
use Rattle.conn_core.proofs.frame_events.Plainly.{no_token, plain_stays}
use Rattle.conn_core.proofs.frame_events.Setting.{HasToken, LostOver, Over, has_token, kind_alone, left_same}

-- ---- it finds no memory, or asks nothing

pub lack_told : (shown : Showing) (z : ServerSettings) (now : ℕ) (s : model.Server) (L : Logons) (records : List model.Record) (t : Told)
    (m : Checked) (bytes : List ℕ) (f : ServerEnd) (c : hearing.Checked) (due : Option model.Message)
    → GivesIf shown z t.connection now t.fresh s L records f c due (Some (Err errors.Memory))
    → ToldIf shown z now s L records t m bytes due (Some (Err errors.Memory))
lack_told shown z now s L records t m bytes f c None gives = absurd gives
lack_told shown z now s L records t m bytes f c (Some x) gives = gives

pub none_told : (shown : Showing) (z : ServerSettings) (now : ℕ) (s : model.Server) (L : Logons) (records : List model.Record) (t : Told)
    (m : Checked) (bytes : List ℕ) (f : ServerEnd) (c : hearing.Checked) (due : Option model.Message)
    → GivesIf shown z t.connection now t.fresh s L records f c due None → ToldIf shown z now s L records t m bytes due None
none_told shown z now s L records t m bytes f c None gives = gives
none_told shown z now s L records t m bytes f c (Some x) gives = gives

-- a message is shown by itself
pub shows_itself : (bytes : List ℕ) (m : Checked) → m.span.start + 64 ≤ m.span.end → m.span.end ≤ length bytes → IsDenied m.fault
    → ShowsGoing bytes m (told_checked m (message_in bytes m))
shows_itself bytes m whole inside denied = record {
  whole = whole;
  inside = inside;
  header = refl;
  bytes_are = refl;
  raw = λ none. refl;
  related = refl;
  fault = refl;
  denied = denied;
}

-- ---- what each end that told this is given, where the message is this one

abbrev pub GivesEach : Showing → ServerSettings → ℕ → model.Server → Logons → List model.Record → Told → Checked → List ℕ → model.Message
    → Result Reply ServeError → Type 0
GivesEach shown z now s L records t m bytes x r =
    (f : ServerEnd) (c : hearing.Checked) → ShowsGoing bytes m c → IsRequestTold f c t
    → GivesIf shown z t.connection now t.fresh s L records f c (Some x) (Some r)

-- ---- a plain message

plain_told : (shown : Showing) (z : ServerSettings) (now : ℕ) (s : model.Server) (L : Logons) (records : List model.Record) (t : Told)
    (m : Checked) (bytes : List ℕ) (message : Message) (r : Result Reply ServeError) → IsServerPlain (command_of message.command)
    → ServerServes shown z.users s L records now (events.Message message) r
    → GivesEach shown z now s L records t m bytes (message_of message) r
    → ToldBy shown z now s L records t m bytes (message_of message) r
plain_told shown z now s L records t m bytes message (Ok r) plain serves each =
    let x = message_of message in
    let A = answer_to s now x x.command in
    let p : logon.progress x.command A.reply ≡ logon.Stays = plain_stays x.command A.reply plain in
    let token = logon.token_in (message_in bytes m) in
    record {
      state = subst (λ (q : logon.Progress). shown A.server (told_logons z.users L t m (message_in bytes m) now q) (records ++ A.records))
          (sym p) serves.2;
      named = serves.0.named;
      body = serves.0.body ∙ ap (λ (b : List ℕ). reply_body b x.command A.reply)
          (sym (no_token z.users (L.pending t.connection) token t.fresh now (logon.progress x.command A.reply) p));
      acted = serves.0.acted;
      said = λ f c going told w. (each f c going told).1.said w;
    }
plain_told shown z now s L records t m bytes message (Err errors.Memory) plain serves each = serves
plain_told shown z now s L records t m bytes message (Err (errors.Unanswered acted)) plain serves each =
    let x = message_of message in
    let A = answer_to s now x x.command in
    record {
      state = subst (λ (q : logon.Progress). shown A.server (told_logons z.users L t m (message_in bytes m) now q) (records ++ A.records))
          (sym (plain_stays x.command A.reply plain)) serves.1;
      acted_is = serves.0;
    }
plain_told shown z now s L records t m bytes message (Err (errors.Stopped count)) plain serves each = tt

-- ---- a SESSION_SETUP

abbrev Alike : Users → Logons → Told → Checked → List ℕ → SetupHeard → Type 0
Alike users L t m text q = IsRequestHeard users L t (told_checked m text) q (message_for users L q)

logons_told : (users : Users) (L : Logons) (t : Told) (m : Checked) (text : List ℕ) (now : ℕ) (q : SetupHeard) (p : logon.Progress)
    → Alike users L t m text q → HasToken (told_checked m text) q p
    → setup_logons users L q now p ≡ told_logons users L t m text now p
logons_told users L t m text now q p is (inl none) =
    ap (λ (x : logon.Progress). setup_logons users L q now x) none
    ∙ sym (ap (λ (x : logon.Progress). told_logons users L t m text now x) none)
logons_told users L t m text now q logon.Stays is (inr token) = refl
logons_told users L t m text now q (logon.Interim binding) is (inr token) =
    let connection : q.connection ≡ t.connection = is.connection in
    let fresh : q.fresh ≡ t.fresh = is.fresh in
    λ i. record L { pending = put L.pending (connection i) (logon.pending_by users.bare (token i) (fresh i) now) }
logons_told users L t m text now q (logon.Final binding number encrypts) is (inr token) =
    let connection : q.connection ≡ t.connection = is.connection in
    let session : q.session_id ≡ m.header.session = is.session in
    let value : q.chain ≡ t.chain = is.chain_is in
    let chosen : q.chosen ≡ t.chosen = is.chosen in
    λ i. if binding then L else record L {
      keys = put L.keys (session i) (keys_of (logon.exported users (L.pending (connection i)) (token i)) (value i) (chosen i).cipher
          (chosen i).signing (session i));
    }

token_told : (users : Users) (L : Logons) (t : Told) (m : Checked) (text : List ℕ) (now : ℕ) (q : SetupHeard) (p : logon.Progress)
    → Alike users L t m text q → HasToken (told_checked m text) q p
    → logon.answer_token_by users (L.pending q.connection) q.form.token.now q.fresh now p
    ≡ logon.answer_token_by users (L.pending t.connection) (logon.token_in text) t.fresh now p
token_told users L t m text now q p is (inl none) =
    no_token users (L.pending q.connection) q.form.token.now q.fresh now p none
    ∙ sym (no_token users (L.pending t.connection) (logon.token_in text) t.fresh now p none)
token_told users L t m text now q p is (inr token) =
    let connection : q.connection ≡ t.connection = is.connection in
    let fresh : q.fresh ≡ t.fresh = is.fresh in
    λ i. logon.answer_token_by users (L.pending (connection i)) (token i) (fresh i) now p

setup_over : (shown : Showing) (z : ServerSettings) (now : ℕ) (s : model.Server) (L : Logons) (records : List model.Record) (t : Told)
    (m : Checked) (bytes : List ℕ) (q : SetupHeard) (r : Reply) → Alike z.users L t m (message_in bytes m) q
    → HasToken (told_checked m (message_in bytes m)) q
    (logon.setup_progress q.form.binding (answer_to s now (message_for z.users L q) (message_for z.users L q).command).reply)
    → Over shown z.users s L records now q r (setup_message z.users L s q)
    (answer_to s now (message_for z.users L q) (message_for z.users L q).command)
    → GivesEach shown z now s L records t m bytes (message_for z.users L q) (Ok r)
    → ToldReply shown z now s L records t m bytes (message_for z.users L q) r
setup_over shown z now s L records t m bytes q r is token over each =
    let text = message_in bytes m in
    let M = message_for z.users L q in
    let A = answer_to s now M M.command in
    let p = logon.setup_progress q.form.binding A.reply in
    let told = logon.answer_token_by z.users (L.pending q.connection) q.form.token.now q.fresh now p in
    let logons : setup_logons z.users L q now p ≡ told_logons z.users L t m text now p = logons_told z.users L t m text now q p is token in
    record {
      state = subst (λ (x : Logons). shown A.server x (records ++ A.records)) logons over.2;
      named = over.0.named;
      body = over.0.body ∙ (sym (kind_alone told (setup_of z.users L q) (request_of z.users L s q) A.reply)
          ∙ ap (λ (b : List ℕ). reply_body b M.command A.reply) (token_told z.users L t m text now q p is token));
      acted = over.0.acted;
      said = λ f c going tells w. (each f c going tells).1.said w;
    }

setup_lost : (shown : Showing) (z : ServerSettings) (now : ℕ) (s : model.Server) (L : Logons) (records : List model.Record) (t : Told)
    (m : Checked) (bytes : List ℕ) (q : SetupHeard) (acted : Bool) → Alike z.users L t m (message_in bytes m) q
    → HasToken (told_checked m (message_in bytes m)) q
    (logon.setup_progress q.form.binding (answer_to s now (message_for z.users L q) (message_for z.users L q).command).reply)
    → LostOver shown z.users L records now q acted (answer_to s now (message_for z.users L q) (message_for z.users L q).command)
    → ToldLost shown z now s L records t m bytes (message_for z.users L q) acted
setup_lost shown z now s L records t m bytes q acted is token over =
    let text = message_in bytes m in
    let M = message_for z.users L q in
    let A = answer_to s now M M.command in
    let p = logon.setup_progress q.form.binding A.reply in
    let logons : setup_logons z.users L q now p ≡ told_logons z.users L t m text now p = logons_told z.users L t m text now q p is token in
    record {
      state = subst (λ (x : Logons). shown A.server x (records ++ A.records)) logons over.1;
      acted_is = over.0;
    }

setup_told : (shown : Showing) (z : ServerSettings) (now : ℕ) (s : model.Server) (L : Logons) (records : List model.Record) (t : Told)
    (m : Checked) (bytes : List ℕ) (q : SetupHeard) (r : Result Reply ServeError) → 64 ≤ length q.bytes.now
    → Alike z.users L t m (message_in bytes m) q → HasToken (told_checked m (message_in bytes m)) q
    (logon.setup_progress q.form.binding (answer_to s now (message_for z.users L q) (message_for z.users L q).command).reply)
    → ServerServes shown z.users s L records now (events.Setup q) r
    → GivesEach shown z now s L records t m bytes (message_for z.users L q) r
    → ToldBy shown z now s L records t m bytes (message_for z.users L q) r
setup_told shown z now s L records t m bytes q (Ok r) whole is token serves each =
    setup_over shown z now s L records t m bytes q r is token
    (subst (λ (A : model.Answer). Over shown z.users s L records now q r (setup_message z.users L s q) A)
    (sym (same_answer z.users L s now q whole)) serves) each
setup_told shown z now s L records t m bytes q (Err errors.Memory) whole is token serves each =
    (serves.0, serves.1, left_same z.users L s now q serves.0 serves.1 serves.2, serves.3)
setup_told shown z now s L records t m bytes q (Err (errors.Unanswered acted)) whole is token serves each =
    setup_lost shown z now s L records t m bytes q acted is token
    (subst (λ (A : model.Answer). LostOver shown z.users L records now q acted A) (sym (same_answer z.users L s now q whole)) serves)
setup_told shown z now s L records t m bytes q (Err (errors.Stopped count)) whole is token serves each = tt

-- ---- the server's answer to what is asked

heard_itself : (users : Users) (L : Logons) (t : Told) (c : hearing.Checked) (q : SetupHeard) (x : model.Message)
    → IsRequestHeard users L t c q x → IsRequestHeard users L t c q (message_for users L q)
heard_itself users L t c q x is = record {
  message = refl;
  setup = is.setup;
  session = is.session;
  connection = is.connection;
  token = is.token;
  raw = is.raw;
  chain_is = is.chain_is;
  chosen = is.chosen;
  fresh = is.fresh;
}

-- the bytes that are handed on have a header
pub record IsWhole (m : Checked) (bytes : List ℕ) : Type 0 where
  pub long : 64 ≤ length (message_in bytes m)

pub answered_told : (shown : Showing) (z : ServerSettings) (now : ℕ) (s : model.Server) (L : Logons) (records : List model.Record) (t : Told)
    (m : Checked) (bytes : List ℕ) (due : Option model.Message) (e : ServerEvent) (r : Result Reply ServeError) → IsWhole m bytes
    → IsRequestEvent z.users L t (told_checked m (message_in bytes m)) due (Some e) → ServerServes shown z.users s L records now e r
    → ((f : ServerEnd) (c : hearing.Checked) → ShowsGoing bytes m c → IsRequestTold f c t
    → GivesIf shown z t.connection now t.fresh s L records f c due (Some r))
    → ToldIf shown z now s L records t m bytes due (Some r)
answered_told shown z now s L records t m bytes None e r whole event serves each = absurd event
answered_told shown z now s L records t m bytes (Some x) (events.Message message) r whole event serves each =
    subst (λ (y : model.Message). ToldIf shown z now s L records t m bytes (Some y) (Some r)) event.1 (
      plain_event (command_of message.command) event.0,
      plain_told shown z now s L records t m bytes message r event.0 serves
          (subst (λ (y : model.Message). GivesEach shown z now s L records t m bytes y r) (sym event.1) each),
    )
answered_told shown z now s L records t m bytes (Some x) (events.Setup q) r whole event serves each =
    let c = told_checked m (message_in bytes m) in
    let long : 64 ≤ length q.bytes.now = subst (λ (b : List ℕ). 64 ≤ length b) (sym event.1.raw) whole.long in
    let mine = heard_itself z.users L t c q x event.1 in
    subst (λ (y : model.Message). ToldIf shown z now s L records t m bytes (Some y) (Some r)) event.1.message (
      refl,
      setup_told shown z now s L records t m bytes q r long mine (has_token z s now L c t q x q.form.readable refl event.0 event.1) serves
          (subst (λ (y : model.Message). GivesEach shown z now s L records t m bytes y r) (sym event.1.message) each),
    )
answered_told shown z now s L records t m bytes (Some x) (events.Accept connection) r whole event serves each = absurd event.1
answered_told shown z now s L records t m bytes (Some x) (events.End connection) r whole event serves each = absurd event.1
answered_told shown z now s L records t m bytes (Some x) events.Stop r whole event serves each = absurd event.1
