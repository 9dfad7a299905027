-- What a SESSION_SETUP's event gives.
use Rattle.std.proofs.Common.{◌≡◌, ℕ, ◌==◌, ◌≤◌, Bool, true, false, if◌then◌else◌, List, ◌++◌, length, Some, None, Result, Ok, Err, ◌⊎◌, inl, inr, refl, sym, ap, subst, ◌∙◌, Option}
use Rattle.spec_wire.specs.declared.messages.header.Header.{Header}
use Rattle.spec_exchange.specs.Commands as asks
use Rattle.spec_exchange.specs.State as model
use Rattle.spec_exchange.specs.Table.{put}
use Rattle.spec_exchange.specs.Network.{answer_to}
use Rattle.spec_commands.specs.ReplyBody.{reply_body}
use Rattle.spec_wire.specs.credits.Window.{granted}
use Rattle.spec_crypto.specs.sessions.Chain.{chain}
use Rattle.spec_crypto.specs.sessions.Derivation.{keys_of, bound_keys}
use Rattle.spec_crypto.specs.declared.sessions.material.Keys.{Keys}
use Rattle.spec_crypto.specs.declared.sessions.material.Signer.{Signer}
use Rattle.spec_crypto.specs.tokens.Tokens.{Users}
use Rattle.spec_world.specs.Settings.{ServerSettings}
use Rattle.spec_world.specs.Ends.{ServerEnd, Logons, chosen_on, signer_on}
use Rattle.spec_world.specs.Hearing as hearing
use Rattle.spec_world.specs.Answering as answering
use Rattle.spec_world.specs.Connection.{keys_said, said_to}
use Rattle.spec_world.specs.Logon as logon
use Rattle.server_checks.specs.setups.Setups.{keys_behind, request_of, setup_logons, setup_message}
use Rattle.server_checks.specs.declared.setups.setup.SetupHeard.{SetupHeard}
use Rattle.conn_core.specs.declared.served.error.ServeError.{ServeError}
use Rattle.conn_core.specs.declared.served.error.ServeError.TheVariants as errors
use Rattle.server_checks.specs.declared.event_heard.event.ServerEvent.TheVariants as events
use Rattle.conn_core.specs.declared.conn.Progress.{Progress}
use Rattle.conn_core.specs.declared.conn.Progress.TheVariants.{Stays, Refused, Interim, Final}
use Rattle.conn_core.specs.declared.frame_messages.checked.Checked.{Checked}
use Rattle.conn_core.specs.frame_messages.Checking.{IsDenied, ShowsGoing, message_in}
use Rattle.conn_core.proofs.frame_messages.Headers.{one_number}
use Rattle.conn_core.specs.reply_sealing.Saying.{AreProgressKeys, MovesAs}
use Rattle.conn_core.specs.served.Serving.{ServerAnswers, IsProgress, LeftBy, ServerServes, Showing, has_own_signature, refusal_due}
use Rattle.conn_core.specs.declared.served.serve.Reply.{Reply}
use Rattle.conn_core.specs.message_replies.Replying.{MessageSetsUp, progress_signer}
use Rattle.conn_core.specs.requests.Asking.{IsRequestHeard, IsRequestTold, message_for, setup_of}
use Rattle.conn_core.specs.declared.requests.hearing.Told.{Told}
use Rattle.conn_core.proofs.message_replies.Parts.{part_long}
use Rattle.conn_core.proofs.requests.Found.{none_named}
use Rattle.conn_core.proofs.requests.Setups.{own_same, same_answer, told_by}
use Rattle.conn_core.proofs.requests.Unread.{unread_stays}
use Rattle.conn_core.specs.frame_events.Dealing.{GivesBy, GivesIf, GivesReply, LosesReply}
use Rattle.conn_core.proofs.frame_events.Plainly.{body_is, no_token}

-- ---- a SESSION_SETUP as it is handed on, and the definitions' of it; its token is that of its bytes, or nothing comes of it

pub record IsSame (f : ServerEnd) (k : ℕ) (fresh : List ℕ) (c : hearing.Checked) (q : SetupHeard) : Type 0 where
  pub connection : q.connection ≡ k
  pub session : q.session_id ≡ c.header.session
  pub random : q.fresh ≡ fresh
  pub chain_is : q.chain ≡ chain (logon.full_transcript f c.raw)
  pub chosen : q.chosen ≡ chosen_on f.greeting
  pub setup : hearing.is_setup c.header ≡ true

abbrev pub HasToken : hearing.Checked → SetupHeard → logon.Progress → Type 0
HasToken c q p = (p ≡ logon.Stays) ⊎ (q.form.token.now ≡ logon.token_in c.bytes)

same_keys : (users : Users) (L : Logons) (k : ℕ) (f : ServerEnd) (fresh : List ℕ) (c : hearing.Checked) (q : SetupHeard)
    → IsSame f k fresh c q → q.form.token.now ≡ logon.token_in c.bytes → (binding : Bool)
    → keys_behind users L q binding ≡ logon.final_keys users L k f c binding
same_keys users L k f fresh c q is token binding =
    let connection : q.connection ≡ k = is.connection in
    let session : q.session_id ≡ c.header.session = is.session in
    let value : q.chain ≡ chain (logon.full_transcript f c.raw) = is.chain_is in
    let chosen : q.chosen ≡ chosen_on f.greeting = is.chosen in
    λ i. if binding then bound_keys (logon.exported users (L.pending (connection i)) (token i)) (value i) (L.keys (session i))
    else keys_of (logon.exported users (L.pending (connection i)) (token i)) (value i) (chosen i).cipher (chosen i).signing (session i)

-- ---- the logons, and the token that answers

logons_by : (users : Users) (L : Logons) (k now : ℕ) (f : ServerEnd) (fresh : List ℕ) (c : hearing.Checked) (q : SetupHeard)
    (p : logon.Progress) → IsSame f k fresh c q → q.form.token.now ≡ logon.token_in c.bytes
    → setup_logons users L q now p ≡ logon.logons_behind users L k f c fresh now p
logons_by users L k now f fresh c q logon.Stays is token = refl
logons_by users L k now f fresh c q (logon.Interim binding) is token =
    let connection : q.connection ≡ k = is.connection in
    let random : q.fresh ≡ fresh = is.random in
    λ i. record L { pending = put L.pending (connection i) (logon.pending_by users.bare (token i) (random i) now) }
logons_by users L k now f fresh c q (logon.Final binding number encrypts) is token =
    let session : q.session_id ≡ c.header.session = is.session in
    let keys = same_keys users L k f fresh c q is token false in
    λ i. if binding then L else record L { keys = put L.keys (session i) (keys i) }

logons_are : (users : Users) (L : Logons) (k now : ℕ) (f : ServerEnd) (fresh : List ℕ) (c : hearing.Checked) (q : SetupHeard)
    (p : logon.Progress) → IsSame f k fresh c q → HasToken c q p
    → setup_logons users L q now p ≡ logon.logons_behind users L k f c fresh now p
logons_are users L k now f fresh c q p is (inl none) =
    ap (λ (x : logon.Progress). setup_logons users L q now x) none
    ∙ sym (ap (λ (x : logon.Progress). logon.logons_behind users L k f c fresh now x) none)
logons_are users L k now f fresh c q p is (inr token) = logons_by users L k now f fresh c q p is token

token_is : (users : Users) (L : Logons) (k now : ℕ) (f : ServerEnd) (fresh : List ℕ) (c : hearing.Checked) (q : SetupHeard)
    (p : logon.Progress) → IsSame f k fresh c q → HasToken c q p
    → logon.answer_token_by users (L.pending q.connection) q.form.token.now q.fresh now p
    ≡ logon.answer_token_by users (L.pending k) (logon.token_in c.bytes) fresh now p
token_is users L k now f fresh c q p is (inl none) =
    no_token users (L.pending q.connection) q.form.token.now q.fresh now p none
    ∙ sym (no_token users (L.pending k) (logon.token_in c.bytes) fresh now p none)
token_is users L k now f fresh c q p is (inr token) =
    let connection : q.connection ≡ k = is.connection in
    let random : q.fresh ≡ fresh = is.random in
    λ i. logon.answer_token_by users (L.pending (connection i)) (token i) (random i) now p

-- ---- what it comes to

abbrev Moves : logon.Progress → Keys → Progress → Type 0
Moves p keys Stays = p ≡ logon.Stays
Moves p keys (Refused signer) = p ≡ logon.Stays
Moves p keys (Interim signer) = (binding : Bool) × (p ≡ logon.Interim binding)
Moves p keys (Final known channel encrypts) = (binding : Bool) × (p ≡ logon.Final binding channel encrypts) × (keys ≡ known)

moves_as : (x : Progress) (s : answering.SaidReply) → Moves s.progress s.keys x → MovesAs x s
moves_as Stays s m = m
moves_as (Refused signer) s m = m
moves_as (Interim signer) s m = m
moves_as (Final keys channel encrypts) s m = m

-- a refusal is signed as the server said, who judges a signature by the session's own key
due_is : (users : Users) (s t : model.Server) (L : Logons) (f : ServerEnd) (c : hearing.Checked) (q : SetupHeard) (status : ℕ)
    → q.session_id ≡ c.header.session → has_own_signature L q ≡ told_by L q
    → refusal_due users s L q (t.present q.session_id) status (signer_on f.keys)
    ≡ logon.staying_signer t L f c (asks.Setup (setup_of users L q)) status
due_is users s t L f c q status session own =
    λ i. if q.form.binding
    then logon.binding_signer (t.present (session i)) (L.keys (session i)) (signer_on f.keys)
    (record (setup_of users L q) { verified = own i }) status
    else signer_on f.keys

record Comes (users : Users) (t : model.Server) (L : Logons) (k : ℕ) (f : ServerEnd) (c : hearing.Checked) (q : SetupHeard)
    (status : ℕ) (keys : Keys) (p : logon.Progress) (x : Progress) : Type 0 where
  pub signer :
      logon.signer_by t users L k f c (asks.Setup (setup_of users L q)) status p ≡ progress_signer x (signer_on f.keys)
  pub moves : Moves p keys x
  pub known : AreProgressKeys x
  pub sets : MessageSetsUp x c

comes_to : (z : ServerSettings) (s t : model.Server) (L : Logons) (k : ℕ) (f : ServerEnd) (fresh : List ℕ) (c : hearing.Checked)
    (q : SetupHeard) (status : ℕ) (p : logon.Progress) (x : Progress) → IsSame f k fresh c q → has_own_signature L q ≡ told_by L q → HasToken c q p
    → IsProgress z.users s L q (t.present q.session_id) status p x
    → Comes z.users t L k f c q status (keys_said z L k f c p) p x
comes_to z s t L k f fresh c q status logon.Stays Stays is own token g = record {
  signer = sym (due_is z.users s t L f c q status is.session own) ∙ g (signer_on f.keys);
  moves = refl;
  known = tt;
  sets = tt;
}
comes_to z s t L k f fresh c q status logon.Stays (Refused signer) is own token g = record {
  signer = sym (due_is z.users s t L f c q status is.session own) ∙ g (signer_on f.keys);
  moves = refl;
  known = tt;
  sets = tt;
}
comes_to z s t L k f fresh c q status logon.Stays (Interim signer) is own token g = absurd (g None)
comes_to z s t L k f fresh c q status logon.Stays (Final keys channel encrypts) is own token g = absurd (g None)
comes_to z s t L k f fresh c q status (logon.Interim binding) Stays is own token g = absurd g
comes_to z s t L k f fresh c q status (logon.Interim binding) (Refused signer) is own token g = absurd g
comes_to z s t L k f fresh c q status (logon.Interim binding) (Interim signer) is own token g = record {
  signer = ap (λ (n : ℕ). if binding then Some (L.keys n).signing else None) (sym is.session) ∙ sym g;
  moves = (binding, refl);
  known = tt;
  sets = is.setup;
}
comes_to z s t L k f fresh c q status (logon.Interim binding) (Final keys channel encrypts) is own token g = absurd g
comes_to z s t L k f fresh c q status (logon.Final binding number seals) Stays is own token g = absurd g
comes_to z s t L k f fresh c q status (logon.Final binding number seals) (Refused signer) is own token g = absurd g
comes_to z s t L k f fresh c q status (logon.Final binding number seals) (Interim signer) is own token g = absurd g
comes_to z s t L k f fresh c q status (logon.Final binding number seals) (Final keys channel encrypts) is own (inl none) g = absurd cc
comes_to z s t L k f fresh c q status (logon.Final binding number seals) (Final keys channel encrypts) is own (inr token) g =
    let same : logon.final_keys z.users L k f c binding ≡ keys = sym (g.0 ∙ same_keys z.users L k f fresh c q is token binding) in
    let numbers : number ≡ channel = sym g.2 in
    let sealing : seals ≡ encrypts = sym g.3 in
    record {
      signer = ap (λ (y : Keys). Some y.signing) same;
      moves = (binding, (λ i. logon.Final binding (numbers i) (sealing i)), same);
      known = g.1;
      sets = tt;
    }

-- ---- its reply

pub kind_alone : (token : List ℕ) (a b : asks.SetupRequest) (r : model.Reply)
    → reply_body token (asks.Setup a) r ≡ reply_body token (asks.Setup b) r
unfolding reply_body
kind_alone token a b r = refl

-- the server's answer over the definitions' message
abbrev pub Over : Showing → Users → model.Server → Logons → List model.Record → ℕ → SetupHeard → Reply → model.Message → model.Answer
    → Type 0
Over shown users s L records now q r m A =
    let p = logon.setup_progress q.form.binding A.reply in
    ServerAnswers m (logon.answer_token_by users (L.pending q.connection) q.form.token.now q.fresh now p) A r
    × IsProgress users s L q (A.server.present q.session_id) A.reply.status p r.progress × shown A.server (setup_logons users L q now p) (records ++ A.records)

setup_over : (shown : Showing) (z : ServerSettings) (k now : ℕ) (fresh : List ℕ) (s : model.Server) (L : Logons)
    (records : List model.Record) (f : ServerEnd) (c : hearing.Checked) (q : SetupHeard) (r : Reply) → (c.header.command == 0) ≡ false
    → IsSame f k fresh c q → has_own_signature L q ≡ told_by L q
    → HasToken c q (logon.setup_progress q.form.binding (answer_to s now (message_for z.users L q) (message_for z.users L q).command).reply)
    → Over shown z.users s L records now q r (setup_message z.users L s q)
    (answer_to s now (message_for z.users L q) (message_for z.users L q).command)
    → GivesReply shown z k now fresh s L records f c (message_for z.users L q) r
setup_over shown z k now fresh s L records f c q r negotiate is own token over =
    let M = message_for z.users L q in
    let A = answer_to s now M M.command in
    let a = over.0 in
    let p = logon.setup_progress q.form.binding A.reply in
    let mine = logon.answer_token_by z.users (L.pending k) (logon.token_in c.bytes) fresh now p in
    let told = logon.answer_token_by z.users (L.pending q.connection) q.form.token.now q.fresh now p in
    let same : told ≡ mine = token_is z.users L k now f fresh c q p is token in
    let logons : setup_logons z.users L q now p ≡ logon.logons_behind z.users L k f c fresh now p =
    logons_are z.users L k now f fresh c q p is token in
    let comes = comes_to z s A.server L k f fresh c q A.reply.status p r.progress is own token over.1 in
    record {
      state = subst (λ (x : Logons). shown A.server x (records ++ A.records)) logons over.2;
      named = a.named;
      acted = a.acted;
      said = λ w. record {
        header = λ i. answering.reply_header c (a.named.status i) (a.named.session i) (a.named.tree i) (granted c.header.credits w);
        body = body_is z.guid f.salt now c mine M.command A.reply negotiate
            ∙ (ap (λ (t : List ℕ). reply_body t M.command A.reply) (sym same)
            ∙ (kind_alone told (setup_of z.users L q) (request_of z.users L s q) A.reply ∙ sym a.body));
        signer = ap (λ (o : Option Signer). logon.unless_faulty c.fault o) comes.signer;
        request = refl;
        progress = moves_as r.progress (said_to z k now fresh f L w c M.command A) comes.moves;
        known = comes.known;
        sets = comes.sets;
      };
    }

-- the same, where the reply is lost
abbrev pub LostOver : Showing → Users → Logons → List model.Record → ℕ → SetupHeard → Bool → model.Answer → Type 0
LostOver shown users L records now q acted A =
    (acted ≡ A.acted) × shown A.server (setup_logons users L q now (logon.setup_progress q.form.binding A.reply)) (records ++ A.records)

setup_lost : (shown : Showing) (z : ServerSettings) (k now : ℕ) (fresh : List ℕ) (s : model.Server) (L : Logons)
    (records : List model.Record) (f : ServerEnd) (c : hearing.Checked) (q : SetupHeard) (acted : Bool) → IsSame f k fresh c q
    → HasToken c q (logon.setup_progress q.form.binding (answer_to s now (message_for z.users L q) (message_for z.users L q).command).reply)
    → LostOver shown z.users L records now q acted (answer_to s now (message_for z.users L q) (message_for z.users L q).command)
    → LosesReply shown z k now fresh s L records f c (message_for z.users L q) acted
setup_lost shown z k now fresh s L records f c q acted is token over =
    let M = message_for z.users L q in
    let A = answer_to s now M M.command in
    let p = logon.setup_progress q.form.binding A.reply in
    let logons : setup_logons z.users L q now p ≡ logon.logons_behind z.users L k f c fresh now p =
    logons_are z.users L k now f fresh c q p is token in
    record {
      state = subst (λ (x : Logons). shown A.server x (records ++ A.records)) logons over.1;
      acted_is = over.0;
    }

-- ---- the whole of it

is_same : (users : Users) (L : Logons) (f : ServerEnd) (k : ℕ) (fresh : List ℕ) (c : hearing.Checked) (t : Told) (q : SetupHeard)
    (x : model.Message) → t.connection ≡ k → t.fresh ≡ fresh → IsRequestTold f c t → IsRequestHeard users L t c q x → IsSame f k fresh c q
is_same users L f k fresh c t q x same random told heard = record {
  connection = heard.connection ∙ same;
  session = heard.session;
  random = heard.fresh ∙ random;
  chain_is = heard.chain_is ∙ told.chain_is heard.setup;
  chosen = heard.chosen ∙ told.chosen;
  setup = heard.setup;
}

pub has_token : (z : ServerSettings) (s : model.Server) (now : ℕ) (L : Logons) (c : hearing.Checked) (t : Told) (q : SetupHeard)
    (x : model.Message) (b : Bool) → q.form.readable ≡ b → IsDenied q.fault → IsRequestHeard z.users L t c q x
    → HasToken c q (logon.setup_progress q.form.binding (answer_to s now (message_for z.users L q) (message_for z.users L q).command).reply)
has_token z s now L c t q x true e denied heard = inr (heard.token e)
has_token z s now L c t q x false e denied heard =
    inl (unread_stays s now (message_for z.users L q) (setup_of z.users L q) refl e denied)

is_long : (bytes : List ℕ) (m : Checked) (c : hearing.Checked) (q : SetupHeard) → ShowsGoing bytes m c → hearing.is_setup c.header ≡ true
    → q.bytes.now ≡ c.raw → 64 ≤ length q.bytes.now
is_long bytes m c q shows setup raw =
    let number : m.header.command ≡ 1 =
    one_number m.header.command 1 (sym (ap (λ (h : Header). h.command == 1) shows.header) ∙ setup) in
    let text : q.bytes.now ≡ message_in bytes m = raw ∙ shows.raw (none_named m.header.command number) in
    subst (λ (b : List ℕ). 64 ≤ length b) (sym text) (part_long m.span.start m.span.end bytes shows.whole shows.inside)

pub left_same : (users : Users) (L : Logons) (s : model.Server) (now : ℕ) (q : SetupHeard) (t : model.Server)
    (more : List model.Record) → LeftBy s now (model.Heard (setup_message users L s q)) t more
    → LeftBy s now (model.Heard (message_for users L q)) t more
left_same users L s now q t more (inl p) = inl p
left_same users L s now q t more (inr (o, x, e)) =
    inr (o, record { is_due = x.is_due; kept = x.kept; room = x.room; behind = x.behind }, e)

setup_by : (shown : Showing) (z : ServerSettings) (k now : ℕ) (fresh : List ℕ) (s : model.Server) (L : Logons)
    (records : List model.Record) (f : ServerEnd) (c : hearing.Checked) (q : SetupHeard) (r : Result Reply ServeError)
    → (c.header.command == 0) ≡ false → IsSame f k fresh c q → 64 ≤ length q.bytes.now
    → HasToken c q (logon.setup_progress q.form.binding (answer_to s now (message_for z.users L q) (message_for z.users L q).command).reply)
    → ServerServes shown z.users s L records now (events.Setup q) r → GivesBy shown z k now fresh s L records f c
    (message_for z.users L q) r
setup_by shown z k now fresh s L records f c q (Ok r) negotiate is whole token serves =
    setup_over shown z k now fresh s L records f c q r negotiate is (own_same L q whole) token
    (subst (λ (A : model.Answer). Over shown z.users s L records now q r (setup_message z.users L s q) A)
    (sym (same_answer z.users L s now q whole)) serves)
setup_by shown z k now fresh s L records f c q (Err errors.Memory) negotiate is whole token serves =
    (serves.0, serves.1, left_same z.users L s now q serves.0 serves.1 serves.2, serves.3)
setup_by shown z k now fresh s L records f c q (Err (errors.Unanswered acted)) negotiate is whole token serves =
    setup_lost shown z k now fresh s L records f c q acted is token
    (subst (λ (A : model.Answer). LostOver shown z.users L records now q acted A) (sym (same_answer z.users L s now q whole)) serves)
setup_by shown z k now fresh s L records f c q (Err (errors.Stopped count)) negotiate is whole token serves = tt

pub setup_gives : (shown : Showing) (z : ServerSettings) (k now : ℕ) (fresh : List ℕ) (s : model.Server) (L : Logons)
    (records : List model.Record) (f : ServerEnd) (m : Checked) (c : hearing.Checked) (t : Told) (q : SetupHeard) (x : model.Message)
    (r : Result Reply ServeError) (bytes : List ℕ) → ShowsGoing bytes m c → (c.header.command == 0) ≡ false → t.connection ≡ k
    → t.fresh ≡ fresh → IsRequestTold f c t → IsDenied q.fault → IsRequestHeard z.users L t c q x
    → ServerServes shown z.users s L records now (events.Setup q) r → GivesIf shown z k now fresh s L records f c (Some x) (Some r)
setup_gives shown z k now fresh s L records f m c t q x r bytes shows negotiate same random told denied heard serves =
    subst (λ (y : model.Message). GivesIf shown z k now fresh s L records f c (Some y) (Some r)) heard.message (
      refl,
      setup_by shown z k now fresh s L records f c q r negotiate (is_same z.users L f k fresh c t q x same random told heard)
          (is_long bytes m c q shows heard.setup heard.raw) (has_token z s now L c t q x q.form.readable refl denied heard) serves,
    )
