-- What a connection is told, from what the server answers.
use Rattle.std.proofs.Common.{◌≡◌, ℕ, ◌==◌, ◌&&◌, ◌||◌, not, Bool, true, false, if◌then◌else◌, List, [], ◌++◌, ◌⊎◌, inl, inr, refl}
use Rattle.std.proofs.Common.{sym, ap, subst, ◌∙◌}
use Rattle.std.proofs.Common.{Option, Some, None, is_some, Result, Ok, Err, IfOk}
use Rattle.std.proofs.lemmas.List.{append-nil}
use Rattle.law_snapshots.specs.snapshots.Pieces.{SnapshotPiece}
use Rattle.server_core.specs.event_replies.Told.{IsBookTold, ProgressTold, SetupTold, refused_progress}
use Rattle.server_core.specs.declared.event_replies.progress.Logon.{Logon}
use Rattle.spec_commands.specs.ReplyBody.{reply_body, seals_in}
use Rattle.wire_commands.specs.values.Meaning.{body_of, command_of, message_of, reply_of}
use Rattle.wire_commands.specs.declared.values.command.Command.{Command}
use Rattle.wire_commands.specs.declared.values.request.Message.{Message}
use Rattle.conn_core.specs.declared.conn.Progress.{Progress}
use Rattle.conn_core.specs.declared.conn.Progress.TheVariants as goes
use Rattle.conn_core.specs.served.Serving.{Halts, IsNamed, IsServerPlain, IsProgress, IsServerServed, IsServerShort}
use Rattle.conn_core.specs.served.Serving.{RefusesBy, has_own_signature, refusal_due}
use Rattle.conn_core.specs.served.Serving.{ServerLacks, ServerLoses, ServerReplies, ServerServes, Showing, StopsAtFault}
use Rattle.conn_core.specs.declared.served.error.ServeError.{ServeError}
use Rattle.conn_core.specs.declared.served.error.ServeError.TheVariants as errors
use Rattle.conn_core.specs.declared.served.serve.Reply.{Reply}
use Rattle.spec_exchange.specs.Check.{check, has_session, owed}
use Rattle.spec_exchange.specs.Commands as asks
use Rattle.spec_exchange.specs.Network.{answer_to}
use Rattle.spec_exchange.specs.State as model
use Rattle.spec_exchange.specs.Status.{access_denied, more_processing_required, success, user_session_deleted}
use Rattle.spec_exchange.specs.Step.{step, without_room}
use Rattle.spec_exchange.specs.Verdict.{Verdict, Refuse}
use Rattle.law_server.proofs.tables.Doors.{Finds, by_verdict, recorded}
use Rattle.spec_exchange.specs.Effects.{apply}
use Rattle.conn_core.specs.frame_messages.Checking.{IsDenied}
use Rattle.server_checks.specs.event_heard.Heard.{heard_event, without_token}
use Rattle.server_checks.specs.declared.event_heard.event.ServerEvent.{ServerEvent}
use Rattle.server_checks.specs.declared.event_heard.event.ServerEvent.TheVariants as events
use Rattle.server_core.specs.disk_server.Asked.{HasShape, BookLogonIs, IsBookLogon, signs_binding}
use Rattle.server_core.specs.disk_server.Telling.{TellsAnswer, refusal}
use Rattle.server_core.specs.Shown.{HoldsServerOver, config_of, state_of}
use Rattle.server_core.specs.declared.server.Server.{Server}
use Rattle.server_effects.specs.declared.answering.Answer.{Answer}
use Rattle.server_checks.specs.setups.Setups.{keys_behind, progress_of, request_of, setup_logons, setup_message, unless_fault}
use Rattle.server_checks.specs.declared.setups.error.EventError.{EventError}
use Rattle.server_checks.specs.declared.setups.error.EventError.TheVariants.{Memory, DiskFault, Stopped}
use Rattle.server_checks.specs.declared.setups.setup.SetupHeard.{SetupHeard}
use Rattle.server_core.specs.journaled_tables.Beside.{BesideReply, SetupAnswers, logons_behind}
use Rattle.server_core.specs.journaled_tables.Holds.{EventRefused, ExpiredAlone, HoldsOver, StepAnswers}
use Rattle.server_core.specs.declared.journaled_tables.state.ServerState.{ServerState}
use Rattle.spec_crypto.specs.declared.sessions.material.Keys.{Keys}
use Rattle.spec_crypto.specs.declared.sessions.material.Signer.{Signer}
use Rattle.spec_crypto.specs.tokens.Tokens.{Users}
use Rattle.spec_world.specs.Ends.{Logons}
use Rattle.spec_world.specs.Lacking.{alone_records}
use Rattle.spec_world.specs.Logon as logon
use Rattle.spec_world.specs.Logon.{answer_token_by}
use Rattle.server_core.proofs.logon_progress.Along.{present_kept}

-- ---- a message that isn't a SESSION_SETUP, NEGOTIATE or ECHO is heard as it is, and answered by the step

plain_command : (c : asks.Command) → IsServerPlain c → without_token c ≡ c
plain_command (asks.Unreadable status) h = refl
plain_command asks.Logoff h = refl
plain_command (asks.TreeConnect share) h = refl
plain_command asks.TreeDisconnect h = refl
plain_command (asks.Create request) h = refl
plain_command (asks.Close file query) h = refl
plain_command (asks.Flush file) h = refl
plain_command (asks.Read file at size minimum channel) h = refl
plain_command (asks.Write file at bytes channel) h = refl
plain_command (asks.Lock file index number elements) h = refl
plain_command (asks.Ioctl file code room) h = refl
plain_command (asks.ListDirectory file class restart single pattern room) h = refl
plain_command (asks.QueryFile file class room) h = refl
plain_command (asks.QueryVolume file class room) h = refl
plain_command (asks.SetInfo file setting) h = refl
plain_command (asks.Aside status) h = absurd h
plain_command (asks.Setup request) h = absurd h

plain_answer : (s : model.Server) (now : ℕ) (m : model.Message) (c : asks.Command) → IsServerPlain c
    → step s now (model.Heard m) ≡ answer_to s now m c
plain_answer s now m (asks.Unreadable status) h = refl
plain_answer s now m asks.Logoff h = refl
plain_answer s now m (asks.TreeConnect share) h = refl
plain_answer s now m asks.TreeDisconnect h = refl
plain_answer s now m (asks.Create request) h = refl
plain_answer s now m (asks.Close file query) h = refl
plain_answer s now m (asks.Flush file) h = refl
plain_answer s now m (asks.Read file at size minimum channel) h = refl
plain_answer s now m (asks.Write file at bytes channel) h = refl
plain_answer s now m (asks.Lock file index number elements) h = refl
plain_answer s now m (asks.Ioctl file code room) h = refl
plain_answer s now m (asks.ListDirectory file class restart single pattern room) h = refl
plain_answer s now m (asks.QueryFile file class room) h = refl
plain_answer s now m (asks.QueryVolume file class room) h = refl
plain_answer s now m (asks.SetInfo file setting) h = refl
plain_answer s now m (asks.Aside status) h = absurd h
plain_answer s now m (asks.Setup request) h = absurd h

plain_event : (users : Users) (L : Logons) (s : model.Server) (message : Message) → IsServerPlain (command_of message.command)
    → heard_event users L s (events.Message message) ≡ model.Heard (message_of message)
plain_event users L s message h =
    ap (λ (c : asks.Command). model.Heard (record (message_of message) { command = c })) (plain_command (command_of message.command) h)

-- ---- a SESSION_SETUP with a fault comes to nothing

faulty : (t : model.Server) (m : model.Message) (r : asks.SetupRequest) (status : ℕ) → m.command ≡ asks.Setup r → m.fault ≡ Some status
    → check t m ≡ Refuse status
faulty t m r status is fault =
    ap (λ (c : asks.Command). if asks.is_setup c || has_session t m then owed t m m.fault else Refuse user_session_deleted) is
    ∙ ap (λ (u : Option ℕ). owed t m u) fault

refused : (m : model.Message) (now : ℕ) (t : model.Server) (v : Verdict) (records : List model.Record) (status : ℕ)
    → check t m ≡ Refuse status → Finds t m v → (recorded (apply t m now v) records).reply.status ≡ status
refused m now t v records status e (inl is) = ap (λ (x : Verdict). (recorded (apply t m now x) records).reply.status) (is ∙ e)
refused m now t v records status e (inr is) =
    ap (λ (x : Verdict). (recorded (apply t m now x) records).reply.status) (is ∙ ap without_room e)

denied : (s : model.Server) (now : ℕ) (m : model.Message) (r : asks.SetupRequest) (status : ℕ) → m.command ≡ asks.Setup r
    → m.fault ≡ Some status → (step s now (model.Heard m)).reply.status ≡ status
denied s now m r status is fault =
    by_verdict (λ A. A.reply.status ≡ status) s now m
    (λ t v records b f. refused m now t v records status (faulty t m r status is fault) f)

stays : (binding : Bool) (r : model.Reply) → r.status ≡ access_denied → logon.Stays ≡ logon.setup_progress binding r
stays binding r e =
    sym (ap (λ (n : ℕ). if n == more_processing_required then logon.Interim binding
    else if n == success then logon.Final binding (logon.channel_in r.body) (seals_in r.body)
    else logon.Stays) e)

same_by : (u : Option ℕ) (binding : Bool) (r : model.Reply) → IsDenied u → ((status : ℕ) → u ≡ Some status → r.status ≡ status)
    → unless_fault u (logon.setup_progress binding r) ≡ logon.setup_progress binding r
same_by None binding r d k = refl
same_by (Some status) binding r d k = stays binding r (k status refl ∙ d)

-- ---- what it comes to

some_same : {X : Type 0} (x y : X) → Some x ≡ Some y → x ≡ y
some_same x y e = cc

clash : (b : Bool) → b ≡ false → b ≡ true → ⊥
clash b e f = cc

signed : (binds present : Bool) (k : Signer) (own signer : Option Signer) → own ≡ (if present then Some k else None)
    → signer ≡ (if binds then own else None) → (binds ≡ true → is_some own ≡ true) → signer ≡ (if binds then Some k else None)
signed true true k own signer e f h = f ∙ e
signed true false k own signer e f h = absurd (clash (is_some own) (ap (λ (o : Option Signer). is_some o) e) (h refl))
signed false present k own signer e f h = f

abbrev by_tests : Bool → Bool → Bool → model.Body → logon.Progress
by_tests interim done binds body =
    if interim then logon.Interim binds
    else if done then logon.Final binds (logon.channel_in body) (seals_in body)
    else logon.Stays

-- a refusal, where the session is live: its own key judged the request and signs; and where it isn't
refused_live_as : (binds signed own_signed deleted : Bool) (algorithm : ℕ) (k : Signer) (own : Option Signer)
    → RefusesBy (if not binds then goes.Stays else if deleted then goes.Refused None
    else goes.Refused (if not signed || not (binds && own_signed) then None else Some (record k { algorithm = algorithm }))) own
    (if binds then (if deleted then None else if not signed || not own_signed then None else Some
    (record k { algorithm = algorithm })) else own)
refused_live_as false signed own_signed deleted algorithm k own = refl
refused_live_as true signed own_signed true algorithm k own = refl
refused_live_as true signed own_signed false algorithm k own = refl

refused_gone_as : (binds deleted : Bool) (own : Option Signer)
    → RefusesBy (if not binds then goes.Stays else if deleted then goes.Refused None else goes.Stays) own
    (if binds then (if deleted then None else own) else own)
refused_gone_as false deleted own = refl
refused_gone_as true true own = refl
refused_gone_as true false own = refl

refused_as : (users : Users) (s : model.Server) (L : Logons) (q : SetupHeard) (l : Logon) (status : ℕ) (present : Bool)
    → s.present q.session_id ≡ present → IsBookLogon s L q l → (own : Option Signer)
    → RefusesBy (refused_progress l status) own (refusal_due users s L q present status own)
refused_as users s L q l status true e known own =
    let k = (L.keys q.session_id).signing in
    let signer : l.signer ≡ Some k = known.signer ∙ ap (λ (b : Bool). if b then Some k else None) e in
    let verified : l.verified ≡ (q.form.binding && has_own_signature L q) = known.verified
    ∙ ap (λ (o : Option Signer). signs_binding q o) signer in
    let told : refused_progress l status ≡ refused_progress (record {
      binds = q.form.binding;
      signed = q.form.signed;
      verified = q.form.binding && has_own_signature L q;
      algorithm = q.chosen.signing;
      signer = Some k;
    }) status =
    λ i. refused_progress (record {
      binds = known.binds i;
      signed = known.signed i;
      verified = verified i;
      algorithm = known.algorithm i;
      signer = signer i;
    }) status in
    subst (λ (x : Progress). RefusesBy x own (refusal_due users s L q true status own)) (sym told)
    (refused_live_as q.form.binding q.form.signed (has_own_signature L q) (status == user_session_deleted)
    q.chosen.signing k own)
refused_as users s L q l status false e known own =
    let k = (L.keys q.session_id).signing in
    let signer : l.signer ≡ None = known.signer ∙ ap (λ (b : Bool). if b then Some k else None) e in
    let told : refused_progress l status ≡ refused_progress (record l { binds = q.form.binding; signer = None }) status =
    λ i. refused_progress (record l { binds = known.binds i; signer = signer i }) status in
    subst (λ (x : Progress). RefusesBy x own (refusal_due users s L q false status own)) (sym told)
    (refused_gone_as q.form.binding (status == user_session_deleted) own)

told_progress : (users : Users) (s : model.Server) (L : Logons) (q : SetupHeard) (now : ℕ) (l : Logon) (a : Answer) (p : Progress)
    (interim done : Bool) (body : model.Body) (live : Bool) (status : ℕ) → IsBookLogon s L q l → body_of a.reply.body ≡ body
    → a.reply.status ≡ status → (by_tests interim done q.form.binding body ≡ logon.Stays → live ≡ s.present q.session_id)
    → SetupAnswers users L q now (by_tests interim done q.form.binding body) a.token a.keys a.channel
    → SetupTold l a (by_tests interim done q.form.binding body) p
    → IsProgress users s L q live status (by_tests interim done q.form.binding body) p
told_progress users s L q now l a (goes.Interim signer) true done body live status known same word kept k t =
    subst (λ (b : Bool). signer ≡ (if b then Some (L.keys q.session_id).signing else None)) known.binds
    (signed l.binds (s.present q.session_id) (L.keys q.session_id).signing l.signer signer known.signer t.0 t.1)
told_progress users s L q now l a goes.Stays true done body live status known same word kept k t = absurd t
told_progress users s L q now l a (goes.Refused signer) true done body live status known same word kept k t = absurd t
told_progress users s L q now l a (goes.Final keys number seals) true done body live status known same word kept k t = absurd t
told_progress users s L q now l a (goes.Final keys number seals) false true body live status known same word kept k t = (
  some_same keys (keys_behind users L q q.form.binding) (sym t.0 ∙ k.1),
  t.1,
  some_same number (logon.channel_in body) (sym t.2 ∙ k.2),
  t.3 ∙ ap (λ (b : model.Body). seals_in b) same,
)
told_progress users s L q now l a goes.Stays false true body live status known same word kept k t = absurd t
told_progress users s L q now l a (goes.Refused signer) false true body live status known same word kept k t = absurd t
told_progress users s L q now l a (goes.Interim signer) false true body live status known same word kept k t = absurd t
told_progress users s L q now l a p false false body live status known same word kept k t =
    λ own. subst (λ (x : Progress). RefusesBy x own (refusal_due users s L q live status own))
    (sym (t ∙ ap (λ (n : ℕ). refused_progress l n) word))
    (subst (λ (b : Bool). RefusesBy (refused_progress l status) own (refusal_due users s L q b status own)) (sym (kept refl))
    (refused_as users s L q l status (s.present q.session_id) refl known own))

token_is : (users : Users) (L : Logons) (q : SetupHeard) (now : ℕ) (p : logon.Progress) (token : List ℕ) (keys : Option Keys)
    (channel : Option ℕ) → SetupAnswers users L q now p token keys channel
    → token ≡ answer_token_by users (L.pending q.connection) q.form.token.now q.fresh now p
unfolding answer_token_by
token_is users L q now logon.Stays token keys channel k = k.0
token_is users L q now (logon.Interim binding) token keys channel k = k.0
token_is users L q now (logon.Final binding number encrypts) token keys channel k = k.0

module _ {D : Type 0} (told : Type 0) (seen : D → List ℕ) (may_leave : D → List ℕ → Type 0) (base : List SnapshotPiece) where
  -- what `StepAnswers` says, of the users that the event is heard with and of those of the tables
  abbrev Mixed : Users → Users → ServerState D → model.Server → Logons → List model.Record → ℕ → ServerEvent → Answer → Type 0
  Mixed w v c s L records now e a =
      let A = step s now (heard_event v L s e) in
      let p = progress_of (heard_event w L s e) A.reply in
      (c.stopped ≡ None) × (reply_of a.reply ≡ A.reply) × (a.acted ≡ A.acted) × BesideReply w L e now p a.token a.keys a.channel
      × HoldsOver told seen may_leave base c A.server (logons_behind w L e now p) (records ++ A.records)

  abbrev Shows : Showing → ServerState D → Type 0
  Shows shown c = (t : model.Server) (M : Logons) (rs : List model.Record) → HoldsOver told seen may_leave base c t M rs → shown t M rs

  replied : (shown : Showing) (c : ServerState D) → Shows shown c → (users : Users) (s : model.Server) (L : Logons)
      (records : List model.Record) (now : ℕ) (event : ServerEvent) (d : Command) (l : Option Logon) (a : Answer) (r : Reply)
      → IsServerServed event → HasShape event d → BookLogonIs s L event l → Mixed users users c s L records now event a → IsBookTold d l a r
      → ServerReplies shown users s L records now event r
  replied shown c show users s L records now (events.Accept connection) d l a r served shape known k t =
      (sym t.named.status ∙ ap (λ (R : model.Reply). R.status) k.1, t.acted ∙ k.2, show _ L _ k.4)
  replied shown c show users s L records now (events.End connection) d l a r served shape known k t =
      (sym t.named.status ∙ ap (λ (R : model.Reply). R.status) k.1, t.acted ∙ k.2, show _ L _ k.4)
  replied shown c show users s L records now events.Stop d l a r served shape known k t =
      (sym t.named.status ∙ ap (λ (R : model.Reply). R.status) k.1, t.acted ∙ k.2, show _ L _ k.4)
  replied shown c show users s L records now (events.Message message) d l a r served shape known k t =
      let m = message_of message in
      let A = answer_to s now m m.command in
      let same : step s now (heard_event users L s (events.Message message)) ≡ A =
      ap (λ (e : model.ServerEvent). step s now e) (plain_event users L s message served)
      ∙ plain_answer s now m (command_of message.command) served in
      let reply : reply_of a.reply ≡ A.reply = k.1 ∙ ap (λ (B : model.Answer). B.reply) same in
      let beside = k.3 in (
        record {
          named = subst (λ (R : model.Reply). IsNamed r R) reply t.named;
          body =
              t.body ∙ (shape a.token (reply_of a.reply)
              ∙ (ap (λ (bytes : List ℕ). reply_body bytes (command_of message.command) (reply_of a.reply)) beside.0
              ∙ ap (λ (R : model.Reply). reply_body [] (command_of message.command) R) reply));
          short = t.short;
          acted = t.acted ∙ (k.2 ∙ ap (λ (B : model.Answer). B.acted) same);
        },
        subst (λ (o : Option Logon). ProgressTold o a r.progress) known t.progress,
        show A.server L (records ++ A.records)
            (subst (λ (B : model.Answer). HoldsOver told seen may_leave base c B.server L (records ++ B.records)) same k.4),
      )
  replied shown c show users s L records now (events.Setup q) d None a r served shape known k t = absurd known
  replied shown c show users s L records now (events.Setup q) d (Some l) a r served shape known k t =
      let m = setup_message users L s q in
      let A = step s now (model.Heard m) in
      let p : logon.Progress = logon.setup_progress q.form.binding A.reply in
      let steady : progress_of (model.Heard m) A.reply ≡ p =
      same_by q.fault q.form.binding A.reply served (λ status e. denied s now m (request_of users L s q) status refl e) in
      let beside : SetupAnswers users L q now p a.token a.keys a.channel =
      subst (λ (x : logon.Progress). SetupAnswers users L q now x a.token a.keys a.channel) steady k.3 in
      let reply : reply_of a.reply ≡ A.reply = k.1 in
      let own : SetupTold l a p r.progress =
      subst (λ (R : model.Reply). SetupTold l a (logon.setup_progress q.form.binding R) r.progress) reply
      (subst (λ (b : Bool). SetupTold l a (logon.setup_progress b (reply_of a.reply)) r.progress) known.binds t.progress) in
      let token = token_is users L q now p a.token a.keys a.channel beside in (
        record {
          named = subst (λ (R : model.Reply). IsNamed r R) reply t.named;
          body =
              t.body ∙ (shape a.token (request_of users L s q) (reply_of a.reply)
              ∙ (ap (λ (bytes : List ℕ). reply_body bytes m.command (reply_of a.reply)) token
              ∙ ap (λ (R : model.Reply). reply_body (answer_token_by users (L.pending q.connection) q.form.token.now q.fresh now p)
              m.command R) reply));
          short = t.short;
          acted = t.acted ∙ k.2;
        },
        told_progress users s L q now l a r.progress (A.reply.status == more_processing_required) (A.reply.status == success)
            A.reply.body (A.server.present q.session_id) A.reply.status known (ap (λ (R : model.Reply). R.body) reply)
            (ap (λ (R : model.Reply). R.status) reply) (λ e. present_kept s now m q.session_id refl (steady ∙ e)) beside own,
        show A.server (setup_logons users L q now p) (records ++ A.records)
            (subst (λ (x : logon.Progress). HoldsOver told seen may_leave base c A.server (setup_logons users L q now x)
            (records ++ A.records))
            steady k.4),
      )

  -- ---- where the reply is lost

  lost : (shown : Showing) (c : ServerState D) → Shows shown c → (users : Users) (s : model.Server) (L : Logons)
      (records : List model.Record) (now : ℕ) (event : ServerEvent) (a : Answer) (acted : Bool) → IsServerServed event
      → Mixed users users c s L records now event a → acted ≡ a.acted → ServerLoses shown users s L records now event acted
  lost shown c show users s L records now (events.Accept connection) a acted served k same = (same ∙ k.2, show _ L _ k.4)
  lost shown c show users s L records now (events.End connection) a acted served k same = (same ∙ k.2, show _ L _ k.4)
  lost shown c show users s L records now events.Stop a acted served k same = (same ∙ k.2, show _ L _ k.4)
  lost shown c show users s L records now (events.Message message) a acted served k same =
      let m = message_of message in
      let A = answer_to s now m m.command in
      let is : step s now (heard_event users L s (events.Message message)) ≡ A =
      ap (λ (e : model.ServerEvent). step s now e) (plain_event users L s message served)
      ∙ plain_answer s now m (command_of message.command) served in (
        same ∙ (k.2 ∙ ap (λ (B : model.Answer). B.acted) is),
        show A.server L (records ++ A.records)
            (subst (λ (B : model.Answer). HoldsOver told seen may_leave base c B.server L (records ++ B.records)) is k.4),
      )
  lost shown c show users s L records now (events.Setup q) a acted served k same =
      let m = setup_message users L s q in
      let A = step s now (model.Heard m) in
      let p : logon.Progress = logon.setup_progress q.form.binding A.reply in
      let steady : progress_of (model.Heard m) A.reply ≡ p =
      same_by q.fault q.form.binding A.reply served (λ status e. denied s now m (request_of users L s q) status refl e) in (
        same ∙ k.2,
        show A.server (setup_logons users L q now p) (records ++ A.records)
            (subst (λ (x : logon.Progress). HoldsOver told seen may_leave base c A.server (setup_logons users L q now x)
            (records ++ A.records))
            steady k.4),
      )

  -- ---- where no memory was found

  as_before : (users : Users) (s : model.Server) (L : Logons) (now : ℕ) (event : ServerEvent) → IsServerServed event
      → ServerLacks users s L now event s []
  as_before users s L now (events.Accept connection) served = inl (refl, refl)
  as_before users s L now (events.End connection) served = inl (refl, refl)
  as_before users s L now events.Stop served = inl (refl, refl)
  as_before users s L now (events.Message message) served = inl (refl, refl)
  as_before users s L now (events.Setup q) served = inl (refl, refl)

  pub unchanged : (shown : Showing) (c : ServerState D) → Shows shown c → (users : Users) (s : model.Server) (L : Logons)
      (records : List model.Record) (now : ℕ) (event : ServerEvent) → IsServerServed event → HoldsOver told seen
      may_leave base c s L records
      → ServerServes shown users s L records now event (Err errors.Memory)
  unchanged shown c show users s L records now event served h = (
    s,
    [],
    as_before users s L now event served,
    show s L (records ++ [])
        (subst (λ (rs : List model.Record). HoldsOver told seen may_leave base c s L rs) (sym (append-nil records)) h),
  )

  expired_alone : (shown : Showing) (c : ServerState D) → Shows shown c → (users : Users) (s : model.Server) (L : Logons)
      (records : List model.Record) (now : ℕ) (event : ServerEvent) → IsServerServed event
      → ExpiredAlone told seen may_leave base c s L records now (heard_event users L s event)
      → ServerServes shown users s L records now event (Err errors.Memory)
  expired_alone shown c show users s L records now (events.Accept connection) served x = (
    x.1,
    alone_records s now (model.Accept connection) x.0,
    inr (x.0, x.2, refl),
    show x.1 L (records ++ alone_records s now (model.Accept connection) x.0) x.3,
  )
  expired_alone shown c show users s L records now (events.End connection) served x = (
    x.1,
    alone_records s now (model.End connection) x.0,
    inr (x.0, x.2, refl),
    show x.1 L (records ++ alone_records s now (model.End connection) x.0) x.3,
  )
  expired_alone shown c show users s L records now events.Stop served x = (
    x.1,
    alone_records s now model.Stop x.0,
    inr (x.0, x.2, refl),
    show x.1 L (records ++ alone_records s now model.Stop x.0) x.3,
  )
  expired_alone shown c show users s L records now (events.Message message) served x =
      let y = subst (λ (e : model.ServerEvent). ExpiredAlone told seen may_leave base c s L records now e)
      (plain_event users L s message served) x in (
        y.1,
        alone_records s now (model.Heard (message_of message)) y.0,
        inr (y.0, y.2, refl),
        show y.1 L (records ++ alone_records s now (model.Heard (message_of message)) y.0) y.3,
      )
  expired_alone shown c show users s L records now (events.Setup q) served x = (
    x.1,
    alone_records s now (model.Heard (setup_message users L s q)) x.0,
    inr (x.0, x.2, refl),
    show x.1 L (records ++ alone_records s now (model.Heard (setup_message users L s q)) x.0) x.3,
  )

  lacking : (shown : Showing) (c : ServerState D) → Shows shown c → (users : Users) (s : model.Server) (L : Logons)
      (records : List model.Record) (now : ℕ) (event : ServerEvent) → IsServerServed event
      → HoldsOver told seen may_leave base c s L records ⊎ ExpiredAlone told seen may_leave base c s L records now
      (heard_event users L s event)
      → ServerServes shown users s L records now event (Err errors.Memory)
  lacking shown c show users s L records now event served (inl h) = unchanged shown c show users s L records now event served h
  lacking shown c show users s L records now event served (inr x) = expired_alone shown c show users s L records now event served x

  refusing_as : (faults : D → ℕ) (shown : Showing) (old c : ServerState D) → Shows shown c → (users : Users) (s : model.Server)
      (L : Logons) (records : List model.Record) (now : ℕ) (event : ServerEvent) (M : Logons) (x : EventError) (y : ServeError)
      → IsServerServed event → y ≡ refusal c.stopped
      → EventRefused told seen may_leave base faults x old c s L records now (heard_event users L s event) M
      → ServerServes shown users s L records now event (Err y)
  refusing_as faults shown old c show users s L records now event M Memory y served is k =
      subst (λ (e : ServeError). ServerServes shown users s L records now event (Err e))
      (sym (is ∙ ap (λ (o : Option ℕ). refusal o) k.0)) (lacking shown c show users s L records now event served k.1)
  refusing_as faults shown old c show users s L records now event M (DiskFault count) y served is k =
      subst (λ (e : ServeError). ServerServes shown users s L records now event (Err e))
      (sym (is ∙ ap (λ (o : Option ℕ). refusal o) k.1)) tt
  refusing_as faults shown old c show users s L records now event M (Stopped count) y served is k =
      subst (λ (e : ServeError). ServerServes shown users s L records now event (Err e))
      (sym (is ∙ ap (λ (o : Option ℕ). refusal o) (ap (λ (d : ServerState D). d.stopped) k.1 ∙ k.0))) tt

  pub refusing : (faults : D → ℕ) (shown : Showing) (old c : ServerState D) → Shows shown c → (users v : Users) (s : model.Server)
      (L : Logons) (records : List model.Record) (now : ℕ) (event : ServerEvent) (M : Logons) (x : EventError) (y : ServeError)
      → v ≡ users → IsServerServed event → y ≡ refusal c.stopped
      → EventRefused told seen may_leave base faults x old c s L records now (heard_event v L s event) M
      → ServerServes shown users s L records now event (Err y)
  refusing faults shown old c show users v s L records now event M x y same served is k =
      refusing_as faults shown old c show users s L records now event M x y served is
      (subst (λ (w : Users). EventRefused told seen may_leave base faults x old c s L records now (heard_event w L s event) M) same k)

  pub answering : (shown : Showing) (c : ServerState D) → Shows shown c → (users v : Users) (s : model.Server) (L : Logons)
      (records : List model.Record) (now : ℕ) (event : ServerEvent) (d : Command) (l : Option Logon) (a : Answer)
      (x : Result Reply ServeError) → v ≡ users → c.tables.config.users ≡ users → IsServerServed event → HasShape event d
      → BookLogonIs s L event l → StepAnswers told seen may_leave base c s L records now event a (step s now (heard_event v L s event))
      → TellsAnswer d l a x → ServerServes shown users s L records now event x
  answering shown c show users v s L records now event d l a (Ok r) same config served shape known k t =
      replied shown c show users s L records now event d l a r served shape known
      (subst (λ (w : Users). Mixed w users c s L records now event a) config
      (subst (λ (w : Users). Mixed c.tables.config.users w c s L records now event a) same k)) t
  answering shown c show users v s L records now event d l a (Err errors.Memory) same config served shape known k t = absurd t
  answering shown c show users v s L records now event d l a (Err (errors.Unanswered acted)) same config served shape known k t =
      lost shown c show users s L records now event a acted served
      (subst (λ (w : Users). Mixed w users c s L records now event a) config
      (subst (λ (w : Users). Mixed c.tables.config.users w c s L records now event a) same k)) t
  answering shown c show users v s L records now event d l a (Err (errors.Stopped count)) same config served shape known k t = absurd t

-- what a server shows to its connections
abbrev pub ShownBy : {D : Type 0} → Type 0 → (D → List ℕ) → (D → List ℕ → Type 0) → List SnapshotPiece → Server D → Users
    → model.Server → Logons → List model.Record → Type 0
ShownBy told seen may_leave base x users t M rs = ((config_of x).users ≡ users) × HoldsServerOver told seen may_leave base x t M rs

pub showing : {D : Type 0} (told : Type 0) (seen : D → List ℕ) (may_leave : D → List ℕ → Type 0) (base : List SnapshotPiece)
    (x : Server D) (users : Users)
    → (config_of x).users ≡ users → (t : model.Server) (M : Logons) (rs : List model.Record)
    → HoldsOver told seen may_leave base (state_of x) t M rs → ShownBy told seen may_leave base x users t M rs
showing told seen may_leave base x users e t M rs k = (e, k)

-- ---- a reply is short

pub told_short : (d : Command) (l : Option Logon) (a : Answer) (x : Result Reply ServeError) → TellsAnswer d l a x
    → IfOk x (λ r. IsServerShort r)
told_short d l a (Ok r) t = t.short
told_short d l a (Err e) t = tt

-- ---- where it stops

pub told_goes : (d : Command) (l : Option Logon) (a : Answer) (x : Result Reply ServeError) (old new : Option ℕ) → TellsAnswer d l a x
    → old ≡ None → new ≡ None → Halts old new x
told_goes d l a (Ok r) old new t was is = (was, is)
told_goes d l a (Err errors.Memory) old new t was is = absurd t
told_goes d l a (Err (errors.Unanswered acted)) old new t was is = (was, is)
told_goes d l a (Err (errors.Stopped count)) old new t was is = absurd t

-- an event that was answered stops nothing
pub told_stops : (d : Command) (l : Option Logon) (a : Answer) (x : Result Reply ServeError) (count : ℕ) (new : Option ℕ)
    → TellsAnswer d l a x → x ≡ Err (errors.Stopped count) → new ≡ Some count
told_stops d l a x count new t is = absurd (subst (λ (y : Result Reply ServeError). TellsAnswer d l a y) is t)

none_some : (o : Option ℕ) (n : ℕ) → o ≡ None → o ≡ Some n → ⊥
none_some o n e f = apart n (sym e ∙ f)
  where
    apart : (n : ℕ) → None ≡ Some n → ⊥
    apart n e = absurd cc

halts_by : (old new o : Option ℕ) → new ≡ o → old ≡ None → Halts old new (Err (refusal o))
halts_by old new None is was = (was, is)
halts_by old new (Some count) is was = (is, λ n e. absurd (none_some old n was e))

pub refused_halts : (old new : Option ℕ) (y : ServeError) → y ≡ refusal new → old ≡ None → Halts old new (Err y)
refused_halts old new y is was =
    subst (λ (e : ServeError). Halts old new (Err e)) (sym is) (halts_by old new new refl was)

stops_by : (o : Option ℕ) (count : ℕ) → refusal o ≡ errors.Stopped count → o ≡ Some count
stops_by None count e = absurd cc
stops_by (Some n) count e = ap (λ (x : ServeError). stop_in x) e
  where
    stop_in : ServeError → Option ℕ
    stop_in errors.Memory = None
    stop_in (errors.Unanswered acted) = None
    stop_in (errors.Stopped k) = Some k

error_in : ServeError → Result Reply ServeError → ServeError
error_in d (Ok r) = d
error_in d (Err e) = e

pub refused_stops : (new : Option ℕ) (y : ServeError) (count : ℕ) (x : Result Reply ServeError) → y ≡ refusal new → x ≡ Err y
    → x ≡ Err (errors.Stopped count) → new ≡ Some count
unfolding error_in
refused_stops new y count x is made stop =
    stops_by new count (sym is ∙ ap (λ (r : Result Reply ServeError). error_in y r) (sym made ∙ stop))

-- ---- an event of a server that stopped before, and one that finds no room

one_count : (o : Option ℕ) (count n : ℕ) → Some count ≡ o → o ≡ Some n → count ≡ n
one_count o count n e f = ap (λ (x : Option ℕ). count_in x) (e ∙ f)
  where
    count_in : Option ℕ → ℕ
    count_in None = 0
    count_in (Some k) = k

pub halts_stopped : (o : Option ℕ) (count : ℕ) → Some count ≡ o → Halts o o (Err (errors.Stopped count))
halts_stopped o count e = (sym e, λ n f. one_count o count n e f)

abbrev fails_as : ServeError → Result Reply ServeError
fails_as e = Err e

pub stops_same : (o : Option ℕ) (count n : ℕ) → Some count ≡ o → o ≡ Some n → fails_as (errors.Stopped count) ≡ fails_as (errors.Stopped n)
stops_same o count n e f = ap (λ (k : ℕ). fails_as (errors.Stopped k)) (one_count o count n e f)

pub stops_goes : (o : Option ℕ) (count n : ℕ) → Some count ≡ o → fails_as (errors.Stopped count) ≡ fails_as (errors.Stopped n) → o ≡ Some n
stops_goes o count n e f = sym e ∙ ap (λ (r : Result Reply ServeError). stop_of r) f
  where
    stop_of : Result Reply ServeError → Option ℕ
    stop_of (Ok r) = None
    stop_of (Err errors.Memory) = None
    stop_of (Err (errors.Unanswered acted)) = None
    stop_of (Err (errors.Stopped k)) = Some k

pub room_halts : (o : Option ℕ) → None ≡ o → Halts o o (Err errors.Memory)
room_halts o e = (sym e, sym e)

memory_apart : (count : ℕ) → errors.Memory ≡ errors.Stopped count → ⊥
memory_apart count e = absurd cc

pub room_stops : (o : Option ℕ) (count : ℕ) → fails_as errors.Memory ≡ fails_as (errors.Stopped count) → o ≡ Some count
unfolding error_in
room_stops o count e = absurd (memory_apart count (ap (λ (r : Result Reply ServeError). error_in errors.Memory r) e))

-- one that goes on hasn't stopped
pub goes_not : {B : Type 0} (o : Option ℕ) (count : ℕ) (r : Result Reply ServeError) (new old : B) → None ≡ o → o ≡ Some count
    → (r ≡ fails_as (errors.Stopped count)) × (new ≡ old)
goes_not o count r new old e f = absurd (none_some o count (sym e) f)

-- ---- the disk's count of faults where it stops

pub refused_faults : {D : Type 0} (told : Type 0) (seen : D → List ℕ) (may_leave : D → List ℕ → Type 0) (base : List SnapshotPiece)
    (faults : D → ℕ)
    (old new : ServerState D) (s : model.Server) (L : Logons) (records : List model.Record) (now : ℕ) (e : model.ServerEvent) (M : Logons)
    (why : EventError) (y : ServeError) (count : ℕ) (x : Result Reply ServeError) → old.stopped ≡ None
    → EventRefused told seen may_leave base faults why old new s L records now e M → y ≡ refusal new.stopped → x ≡ Err y
    → x ≡ Err (errors.Stopped count) → StopsAtFault (faults old.journal.disk) (faults new.journal.disk) count
refused_faults told seen may_leave base faults old new s L records now e M Memory y count x goes k is made stop =
    absurd (none_some new.stopped count k.0 (refused_stops new.stopped y count x is made stop))
refused_faults told seen may_leave base faults old new s L records now e M (DiskFault n) y count x goes k is made stop =
    let same : n ≡ count = one_count new.stopped n count (sym k.1) (refused_stops new.stopped y count x is made stop) in
    subst (λ (m : ℕ). StopsAtFault (faults old.journal.disk) (faults new.journal.disk) m) same (k.2, k.3)
refused_faults told seen may_leave base faults old new s L records now e M (Stopped n) y count x goes k is made stop =
    absurd (none_some old.stopped n goes k.0)

-- no event stops a server that was answered, nor one that found no room, nor one of a server that had stopped before
pub told_never : (d : Command) (l : Option Logon) (a : Answer) (x : Result Reply ServeError) (count : ℕ) → TellsAnswer d l a x
    → x ≡ Err (errors.Stopped count) → ⊥
told_never d l a x count t is = subst (λ (y : Result Reply ServeError). TellsAnswer d l a y) is t

pub room_never : (count : ℕ) → fails_as errors.Memory ≡ fails_as (errors.Stopped count) → ⊥
unfolding error_in
room_never count e = memory_apart count (ap (λ (r : Result Reply ServeError). error_in errors.Memory r) e)

pub never_again : (o : Option ℕ) (n : ℕ) → Some n ≡ o → o ≡ None → ⊥
never_again o n e f = none_some o n f (sym e)

-- ---- what is shown in one way is shown in another

module _ (P Q : Showing) (so : (t : model.Server) (M : Logons) (rs : List model.Record) → P t M rs → Q t M rs) where
  replies_so : (users : Users) (s : model.Server) (L : Logons) (records : List model.Record) (now : ℕ) (event : ServerEvent) (r : Reply)
      → ServerReplies P users s L records now event r → ServerReplies Q users s L records now event r
  replies_so users s L records now (events.Message message) r h = (h.0, h.1, so _ _ _ h.2)
  replies_so users s L records now (events.Setup setup) r h = (h.0, h.1, so _ _ _ h.2)
  replies_so users s L records now (events.Accept connection) r h = (h.0, h.1, so _ _ _ h.2)
  replies_so users s L records now (events.End connection) r h = (h.0, h.1, so _ _ _ h.2)
  replies_so users s L records now events.Stop r h = (h.0, h.1, so _ _ _ h.2)

  loses_so : (users : Users) (s : model.Server) (L : Logons) (records : List model.Record) (now : ℕ) (event : ServerEvent) (acted : Bool)
      → ServerLoses P users s L records now event acted → ServerLoses Q users s L records now event acted
  loses_so users s L records now (events.Message message) acted h = (h.0, so _ _ _ h.1)
  loses_so users s L records now (events.Setup setup) acted h = (h.0, so _ _ _ h.1)
  loses_so users s L records now (events.Accept connection) acted h = (h.0, so _ _ _ h.1)
  loses_so users s L records now (events.End connection) acted h = (h.0, so _ _ _ h.1)
  loses_so users s L records now events.Stop acted h = (h.0, so _ _ _ h.1)

  pub serves_so : (users : Users) (s : model.Server) (L : Logons) (records : List model.Record) (now : ℕ) (event : ServerEvent)
      (x : Result Reply ServeError) → ServerServes P users s L records now event x → ServerServes Q users s L records now event x
  serves_so users s L records now event (Ok r) h = replies_so users s L records now event r h
  serves_so users s L records now event (Err errors.Memory) h = (h.0, h.1, h.2, so h.0 L (records ++ h.1) h.3)
  serves_so users s L records now event (Err (errors.Unanswered acted)) h = loses_so users s L records now event acted h
  serves_so users s L records now event (Err (errors.Stopped count)) h = tt
