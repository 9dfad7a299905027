-- What a plain message's event gives.
use Rattle.std.proofs.Common.{◌≡◌, ℕ, ◌==◌, Bool, false, ◌&&◌, if◌then◌else◌, List, [], ◌++◌}
use Rattle.std.proofs.Common.{Option, Some, Result, Ok, Err, refl, sym, ap, subst}
use Rattle.std.proofs.Common.{◌∙◌}
use Rattle.spec_exchange.specs.Commands as asks
use Rattle.spec_exchange.specs.State as model
use Rattle.spec_exchange.specs.Network.{answer_to}
use Rattle.spec_exchange.specs.Status.{success}
use Rattle.spec_commands.specs.ReplyBody.{reply_body}
use Rattle.wire_commands.specs.values.Meaning.{message_of, command_of}
use Rattle.wire_commands.specs.declared.values.request.Message.{Message}
use Rattle.spec_wire.specs.credits.Window.{granted}
use Rattle.spec_crypto.specs.declared.sessions.material.Signer.{Signer}
use Rattle.spec_crypto.specs.tokens.Tokens.{Users}
use Rattle.spec_crypto.specs.tokens.Tokens.{Pending}
use Rattle.spec_world.specs.Settings.{ServerSettings}
use Rattle.spec_world.specs.Ends.{ServerEnd, Logons, signer_on}
use Rattle.spec_world.specs.Hearing as hearing
use Rattle.spec_world.specs.Negotiate.{negotiate_response_body}
use Rattle.spec_world.specs.Answering as answering
use Rattle.spec_world.specs.Connection.{said_to}
use Rattle.spec_world.specs.Logon as logon
use Rattle.conn_core.specs.declared.served.error.ServeError.{ServeError}
use Rattle.conn_core.specs.declared.served.error.ServeError.TheVariants as errors
use Rattle.server_checks.specs.declared.event_heard.event.ServerEvent.TheVariants as events
use Rattle.conn_core.specs.declared.conn.Progress.{Progress}
use Rattle.conn_core.specs.declared.conn.Progress.TheVariants.{Stays, Refused, Interim, Final}
use Rattle.conn_core.specs.reply_sealing.Saying.{AreProgressKeys, MovesAs}
use Rattle.conn_core.specs.served.Serving.{IsServerPlain, LosesHeard, RepliesHeard, ServerServes, Showing, ServerStands}
use Rattle.conn_core.specs.declared.served.serve.Reply.{Reply}
use Rattle.conn_core.specs.message_replies.Replying.{MessageSetsUp, progress_signer}
use Rattle.conn_core.proofs.message_replies.Parts.{signs_on}
use Rattle.conn_core.proofs.requests.Plain.{plain_event}
use Rattle.conn_core.specs.frame_events.Dealing.{GivesBy, GivesIf, GivesReply, LosesReply}

pub plain_stays : (c : asks.Command) (r : model.Reply) → IsServerPlain c → logon.progress c r ≡ logon.Stays
plain_stays (asks.Unreadable status) r p = refl
plain_stays (asks.Aside status) r p = absurd p
plain_stays (asks.Setup request) r p = absurd p
plain_stays asks.Logoff r p = refl
plain_stays (asks.TreeConnect share) r p = refl
plain_stays asks.TreeDisconnect r p = refl
plain_stays (asks.Create request) r p = refl
plain_stays (asks.Close file query) r p = refl
plain_stays (asks.Flush file) r p = refl
plain_stays (asks.Read file at size minimum channel) r p = refl
plain_stays (asks.Write file at bytes channel) r p = refl
plain_stays (asks.Lock file index number elements) r p = refl
plain_stays (asks.Ioctl file code room) r p = refl
plain_stays (asks.ListDirectory file class restart single pattern room) r p = refl
plain_stays (asks.QueryFile file class room) r p = refl
plain_stays (asks.QueryVolume file class room) r p = refl
plain_stays (asks.SetInfo file setting) r p = refl

stands_is : (x : Progress) → ServerStands x → x ≡ Stays
stands_is Stays p = refl
stands_is (Refused signer) p = absurd p
stands_is (Interim signer) p = absurd p
stands_is (Final keys channel encrypts) p = absurd p

plain_signer : (s : model.Server) (L : Logons) (f : ServerEnd) (c : hearing.Checked) (m : asks.Command) (status : ℕ) → IsServerPlain m
    → logon.staying_signer s L f c m status ≡ logon.plain_signer f c
plain_signer s L f c (asks.Setup request) status p = absurd p
plain_signer s L f c m status p = refl

-- of any message but a NEGOTIATE that was answered
pub body_is : (guid salt : List ℕ) (now : ℕ) (c : hearing.Checked) (token : List ℕ) (command : asks.Command) (r : model.Reply)
    → (c.header.command == 0) ≡ false → answering.said_body guid salt now c token command r ≡ reply_body token command r
unfolding answering.said_body
body_is guid salt now c token command r e =
    ap (λ (b : Bool). if b && (r.status == success) then negotiate_response_body guid salt now c.bytes else reply_body token command r) e

pub no_token : (users : Users) (pending : Option Pending) (token fresh : List ℕ) (now : ℕ) (p : logon.Progress) → p ≡ logon.Stays
    → logon.answer_token_by users pending token fresh now p ≡ []
unfolding logon.answer_token_by
no_token users pending token fresh now p e = ap (λ (q : logon.Progress). logon.answer_token_by users pending token fresh now q) e

plain_reply : (shown : Showing) (z : ServerSettings) (k now : ℕ) (fresh : List ℕ) (s : model.Server) (L : Logons)
    (records : List model.Record) (f : ServerEnd) (c : hearing.Checked) (m : model.Message) (r : Reply) → (c.header.command == 0) ≡ false
    → (c.header.command == 13) ≡ false → IsServerPlain m.command → RepliesHeard shown s L records now m r → GivesReply shown z k now fresh s L records f c m r
plain_reply shown z k now fresh s L records f c m r negotiate echo plain serves =
    let A = answer_to s now m m.command in
    let a = serves.0 in
    let p : logon.progress m.command A.reply ≡ logon.Stays = plain_stays m.command A.reply plain in
    let stands : r.progress ≡ Stays = stands_is r.progress serves.1 in
    let token = logon.answer_token_by z.users (L.pending k) (logon.token_in c.bytes) fresh now (logon.progress m.command A.reply) in
    let none : token ≡ [] =
    no_token z.users (L.pending k) (logon.token_in c.bytes) fresh now (logon.progress m.command A.reply) p in
    record {
      state = subst (λ (q : logon.Progress). shown A.server (logon.logons_behind z.users L k f c fresh now q) (records ++ A.records))
          (sym p)
          serves.2;
      named = a.named;
      acted = a.acted;
      said = λ w. record {
        header = λ i. answering.reply_header c (a.named.status i) (a.named.session i) (a.named.tree i) (granted c.header.credits w);
        body = body_is z.guid f.salt now c token m.command A.reply negotiate
            ∙ (ap (λ (t : List ℕ). reply_body t m.command A.reply) none ∙ sym a.body);
        signer = ap (λ (o : Option Signer). logon.unless_faulty c.fault o)
            (ap (λ (q : logon.Progress). logon.signer_by A.server z.users L k f c m.command A.reply.status q) p
            ∙ (plain_signer A.server L f c m.command A.reply.status plain
            ∙ (signs_on f c echo ∙ sym (ap (λ (x : Progress). progress_signer x (signer_on f.keys)) stands))));
        request = refl;
        progress = subst (λ (x : Progress). MovesAs x (said_to z k now fresh f L w c m.command A)) (sym stands) p;
        known = subst (λ (x : Progress). AreProgressKeys x) (sym stands) tt;
        sets = subst (λ (x : Progress). MessageSetsUp x c) (sym stands) tt;
      };
    }

plain_lost : (shown : Showing) (z : ServerSettings) (k now : ℕ) (fresh : List ℕ) (s : model.Server) (L : Logons)
    (records : List model.Record) (f : ServerEnd) (c : hearing.Checked) (m : model.Message) (acted : Bool) → IsServerPlain m.command
    → LosesHeard shown s L records now m acted → LosesReply shown z k now fresh s L records f c m acted
plain_lost shown z k now fresh s L records f c m acted plain loses =
    let A = answer_to s now m m.command in
    let p : logon.progress m.command A.reply ≡ logon.Stays = plain_stays m.command A.reply plain in
    record {
      state = subst (λ (q : logon.Progress). shown A.server (logon.logons_behind z.users L k f c fresh now q) (records ++ A.records))
          (sym p) loses.1;
      acted_is = loses.0;
    }

plain_by : (shown : Showing) (z : ServerSettings) (k now : ℕ) (fresh : List ℕ) (s : model.Server) (L : Logons)
    (records : List model.Record) (f : ServerEnd) (c : hearing.Checked) (message : Message) (r : Result Reply ServeError)
    → (c.header.command == 0) ≡ false → (c.header.command == 13) ≡ false → IsServerPlain (command_of message.command)
    → ServerServes shown z.users s L records now (events.Message message) r
    → GivesBy shown z k now fresh s L records f c (message_of message) r
plain_by shown z k now fresh s L records f c message (Ok r) negotiate echo plain serves =
    plain_reply shown z k now fresh s L records f c (message_of message) r negotiate echo plain serves
plain_by shown z k now fresh s L records f c message (Err errors.Memory) negotiate echo plain serves = serves
plain_by shown z k now fresh s L records f c message (Err (errors.Unanswered acted)) negotiate echo plain serves =
    plain_lost shown z k now fresh s L records f c (message_of message) acted plain serves
plain_by shown z k now fresh s L records f c message (Err (errors.Stopped count)) negotiate echo plain serves = tt

pub plain_gives : (shown : Showing) (z : ServerSettings) (k now : ℕ) (fresh : List ℕ) (s : model.Server) (L : Logons)
    (records : List model.Record) (f : ServerEnd) (c : hearing.Checked) (message : Message) (m : model.Message)
    (r : Result Reply ServeError) → (c.header.command == 0) ≡ false → (c.header.command == 13) ≡ false
    → IsServerPlain (command_of message.command) → message_of message ≡ m
    → ServerServes shown z.users s L records now (events.Message message) r → GivesIf shown z k now fresh s L records f c (Some m) (Some r)
plain_gives shown z k now fresh s L records f c message m r negotiate echo plain same serves =
    subst (λ (x : model.Message). GivesIf shown z k now fresh s L records f c (Some x) (Some r)) same
    (plain_event (command_of message.command) plain, plain_by shown z k now fresh s L records f c message r negotiate echo plain serves)
