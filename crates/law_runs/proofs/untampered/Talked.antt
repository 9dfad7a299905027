-- What the Serve of a NEGOTIATE or a SESSION_SETUP asks.
use Rattle.std.proofs.Common.{◌≡◌, ℕ, ◌+◌, ◌<◌, ◌≤◌, ◌^◌, Bool, true, false, ◌&&◌, if◌then◌else◌, List, ◌∷◌, refl, sym}
use Rattle.std.proofs.Common.{ap, ◌∙◌, subst, arith}
use Rattle.spec_exchange.specs.Table.{is_filled}
use Rattle.spec_exchange.specs.Status.{success}
use Rattle.spec_exchange.specs.Commands.{Setup, SetupRequest, Shows, Begins, Bad, Refused, Logon, Command, Aside}
use Rattle.spec_exchange.specs.Commands.{Unreadable, Logoff, TreeConnect, TreeDisconnect, Create, Close, Flush, Read}
use Rattle.spec_exchange.specs.Commands.{Write, Lock, Ioctl, ListDirectory, QueryFile, QueryVolume, SetInfo}
use Rattle.spec_exchange.specs.Schedules.{is_talking}
use Rattle.spec_exchange.specs.State.{Message, last_moment}
use Rattle.spec_exchange.specs.Client.{Identity, Stage, Apart, SaidNegotiate, SaidFirst, SaidSecond, AskedTree, guid_for}
use Rattle.spec_exchange.specs.Dialogs.{stage_command}
use Rattle.spec_exchange.specs.Network.{World as Values, Event, Sent, Token, ForDialog, ForOp, ForAttach, Settings}
use Rattle.spec_exchange.specs.Network.{op_of, answer, may_serve}
use Rattle.spec_exchange.specs.Network.{run, start}
use Rattle.law_sessions.specs.messages.Connections.{its_request, create_at, count_up, count_down}
use Rattle.law_sessions.proofs.messages.Lists.{front_up, counted_up}
use Rattle.law_sessions.specs.sessions.Sessions.{is_logon}
use Rattle.law_sessions.specs.sessions.Dialogs.{Channel, IsClosed, IsReady, IsInDialog}
use Rattle.law_answers.proofs.answers.Logs.{successes_log_on}
use Rattle.law_replies.specs.counters.Low.{last_id}
use Rattle.law_replies.proofs.counters.LowIds.{replies_are_low}
use Rattle.spec_world.specs.Settings.{WorldSettings, logon_of, values_of}
use Rattle.spec_world.specs.World.{World}
use Rattle.law_ties.specs.wire_facts.Steps.{restarts_in}
use Rattle.law_ties.specs.events.Links.{is_lined}
use Rattle.law_ties.specs.requests.Lines.{is_lines}
use Rattle.law_dialogs.specs.runs.Bounds.{DialogBounds}
use Rattle.law_runs.proofs.untampered.Values.{Facts}
use Rattle.law_runs.proofs.untampered.Requests.{own_plain, asked_plain, creates}
use Rattle.law_runs.proofs.untampered.Pushed.{small_id, small_tree}
use Rattle.law_runs.proofs.untampered.Sealed.{seals_fit}
use Rattle.law_answers.proofs.statuses.Runs.{statuses_fit}
use Rattle.law_answers.specs.sealing_logons.Sealed.{sets_up}

pub not_both : {X : Type 0} (b : Bool) → b ≡ true → b ≡ false → X
not_both b e f = absurd (let h : true ≡ false = sym e ∙ f in cc)

-- ---- an operation's message is a line's

own_line : (z : Settings) (es : List Event) (v : Values) → Facts z es v → (k : ℕ) (x : Sent) (xs : List Sent) → (v.conns k).up ≡ x ∷ xs
    → (g : ℕ) → x.token ≡ ForOp g → is_lines x.message.command ≡ true
unfolding its_request
own_line z es v f k x xs h g e =
    let carried = f.carried in
    let c = v.client in
    let body = carried.bodies k 0 g x (front_up (v.conns k).up x xs h) e in
    let plain = own_plain (c.op g) (guid_for c g) (c.file (create_at c g)) (c.slot_of g) (c.number_of g) in
    ap is_lines body.1 ∙ plain.line

asked_line : (z : Settings) (es : List Event) (v : Values) → Facts z es v → (k : ℕ) (x : Sent) (xs : List Sent) → (v.conns k).up ≡ x ∷ xs
    → (g : ℕ) → x.token ≡ ForAttach g → is_lines x.message.command ≡ true
asked_line z es v f k x xs h g e =
    let carried = f.carried in
    let locked = f.locked in
    let c = v.client in
    let asked = locked.ask_up k 0 g x (front_up (v.conns k).up x xs h) e in
    let create = carried.creates g asked.0 asked.1 asked.2 in
    let plain = asked_plain (c.op (create_at c g)) (guid_for c (create_at c g)) (c.file (create_at c g))
    (creates (c.op (create_at c g)) create.2) in
    ap is_lines asked.4 ∙ plain.line

own : (z : Settings) (es : List Event) (v : Values) → Facts z es v → (k : ℕ) (x : Sent) (xs : List Sent) → (v.conns k).up ≡ x ∷ xs
    → is_lines x.message.command ≡ false → x.token ≡ ForDialog
own z es v f k x xs h talks = by x.token refl
  where
    by : (t : Token) → x.token ≡ t → x.token ≡ ForDialog
    by ForDialog e = e
    by (ForOp g) e = not_both (is_lines x.message.command) (own_line z es v f k x xs h g e) talks
    by (ForAttach g) e = not_both (is_lines x.message.command) (asked_line z es v f k x xs h g e) talks

-- ---- such a message waits where the client's end is no line

dialog_counts : (t : Token) → t ≡ ForDialog → op_of t ≡ 0
dialog_counts t e = ap op_of e

some_none : {X : Type 0} (a b : ℕ) → 1 ≤ a → a + b ≡ 0 → X
some_none a b l e = absurd (zero a b l e)
  where
    zero : (a b : ℕ) → 1 ≤ a → a + b ≡ 0 → ⊥
    zero a b l e = omega (arith, l, e)

no_talk : is_talking Apart ≡ false
unfolding is_talking
no_talk = refl

talks_at : (s : Stage) → is_lined s ≡ false → is_talking s ≡ true
unfolding is_talking
talks_at Apart e = absurd (let h : true ≡ false = e in cc)
talks_at AskedTree e = absurd (let h : true ≡ false = e in cc)
talks_at (SaidNegotiate bound) e = refl
talks_at (SaidFirst bound) e = refl
talks_at (SaidSecond bound) e = refl

tree_talks : is_talking AskedTree ≡ true
unfolding is_talking
tree_talks = refl

unlined : (z : Settings) (es : List Event) (v : Values) → Facts z es v → (k : ℕ) (x : Sent) (xs : List Sent) → (v.conns k).up ≡ x ∷ xs
    → is_lines x.message.command ≡ false → x.token ≡ ForDialog → (v.conns k).client_open ≡ true → is_lined (v.client.stage k) ≡ false
unlined z es v f k x xs h talks token co = by (v.client.stage k) refl
  where
    over : v.client.stage k ≡ Apart → Channel (v.client.ready k) (v.client.stage k) (v.conns k) → is_lined (v.client.stage k) ≡ false
    over e (IsClosed r s o n) = not_both (v.conns k).client_open co o
    over e (IsReady r s o) =
        let carried = f.carried in
        let all = carried.ready k r in
        some_none (count_up 0 (v.conns k).up) (count_down 0 (v.conns k).down)
        (counted_up 0 (v.conns k).up 0 x (front_up (v.conns k).up x xs h) (dialog_counts x.token token)) all.2
    over e (IsInDialog r t o a) = not_both (is_talking (v.client.stage k)) t (ap is_talking e ∙ no_talk)

    by : (s : Stage) → v.client.stage k ≡ s → is_lined (v.client.stage k) ≡ false
    by Apart e = (let talk = f.talk in over e (talk.channels k))
    by AskedTree e =
        let m = f.exact k co (ap is_talking e ∙ tree_talks) x xs h in
        not_both (is_lines x.message.command)
        (ap (λ (m : Message). is_lines m.command) m.1 ∙ ap (λ (s : Stage). is_lines (stage_command v.client s)) e) talks
    by (SaidNegotiate bound) e = ap is_lined e
    by (SaidFirst bound) e = ap is_lined e
    by (SaidSecond bound) e = ap is_lined e

-- ---- a logon's success is that of the settings' user

logon_by : (s : Shows) → is_logon s ≡ true → (user : List ℕ) × (s ≡ Logon user)
logon_by Begins e = absurd (let h : false ≡ true = e in cc)
logon_by Bad e = absurd (let h : false ≡ true = e in cc)
logon_by Refused e = absurd (let h : false ≡ true = e in cc)
logon_by (Logon user) e = (user, refl)

second_talks : (bound : Bool) → is_talking (SaidSecond bound) ≡ true
unfolding is_talking
second_talks bound = refl

logs_on : (z : WorldSettings) (es : List Event) (v : Values) → Facts (values_of z) es v → (k : ℕ) (x : Sent) (xs : List Sent)
    → (v.conns k).up ≡ x ∷ xs → (v.conns k).client_open ≡ true → (bound : Bool) → v.client.stage k ≡ SaidSecond bound
    → (answer v x).reply.status ≡ success → (user : List ℕ) × (logon_of z ≡ Logon user)
logs_on z es v f k x xs h co bound at ok =
    let c = v.client in
    let sits = f.sits in
    let talk = f.talk in
    let m = f.exact k co (ap is_talking at ∙ second_talks bound) x xs h in
    let r : SetupRequest = record {
      readable = true;
      binding = bound;
      signed = bound;
      verified = bound;
      previous = if bound then 0 else c.accepted;
      cipher = c.who.cipher;
      signing = c.who.signing;
      shows = c.who.logon;
    } in
    let command : x.message.command ≡ Setup r =
    ap (λ (q : Message). q.command) m.1 ∙ ap (λ (s : Stage). stage_command c s) at in
    let mine = sits.from_client k 0 x (front_up (v.conns k).up x xs h) in
    let shown : is_logon c.who.logon ≡ true = successes_log_on v x r command mine.2 ok in
    logon_by (logon_of z) (sym (ap (λ (i : Identity). is_logon i.logon) talk.who) ∙ shown)

-- ---- what is no line's is a NEGOTIATE or a SESSION_SETUP, or what else the connection answers by itself

talks_up : (c : Command) → is_lines c ≡ false → sets_up c ≡ true
talks_up (Aside status) off = refl
talks_up (Setup request) off = refl
talks_up (Unreadable status) off = absurd (let h : true ≡ false = off in cc)
talks_up Logoff off = absurd (let h : true ≡ false = off in cc)
talks_up (TreeConnect share) off = absurd (let h : true ≡ false = off in cc)
talks_up TreeDisconnect off = absurd (let h : true ≡ false = off in cc)
talks_up (Create request) off = absurd (let h : true ≡ false = off in cc)
talks_up (Close file query) off = absurd (let h : true ≡ false = off in cc)
talks_up (Flush file) off = absurd (let h : true ≡ false = off in cc)
talks_up (Read file at size minimum channel) off = absurd (let h : true ≡ false = off in cc)
talks_up (Write file at bytes channel) off = absurd (let h : true ≡ false = off in cc)
talks_up (Lock file index number elements) off = absurd (let h : true ≡ false = off in cc)
talks_up (Ioctl file code room) off = absurd (let h : true ≡ false = off in cc)
talks_up (ListDirectory file class restart single pattern room) off = absurd (let h : true ≡ false = off in cc)
talks_up (QueryFile file class room) off = absurd (let h : true ≡ false = off in cc)
talks_up (QueryVolume file class room) off = absurd (let h : true ≡ false = off in cc)
talks_up (SetInfo file setting) off = absurd (let h : true ≡ false = off in cc)

-- ---- all of it

pub fills : (b : Bool) (xs : List Sent) (x : Sent) (rest : List Sent) → b ≡ true → xs ≡ x ∷ rest → (b && is_filled xs) ≡ true
unfolding is_filled
fills true xs x rest e h = ap is_filled h
fills false xs x rest e h = absurd (let q : false ≡ true = e in cc)

moment_low : (n : ℕ) → n ≤ last_moment → n < 256 ^ 8
moment_low n l = omega (arith, l)

abbrev Told : (es : List Event) → Values → Sent → Type 0
Told es v x = ((answer v x).reply.session_id ≤ last_id es) × ((answer v x).reply.tree_id < 256 ^ 4)

pub replies_fit : (z : Settings) (es : List Event) (v : Values) → v ≡ run es (start z) → (k : ℕ) (x : Sent) (xs : List Sent)
    → (v.conns k).server_open ≡ true → (v.conns k).up ≡ x ∷ xs
    → ((answer v x).reply.session_id ≤ last_id es) × ((answer v x).reply.tree_id < 256 ^ 4)
replies_fit z es v e k x xs so h =
    let may = fills (v.conns k).server_open (v.conns k).up x xs so h in
    let told = replies_are_low z es k x xs (subst (λ (u : Values). may_serve u k ≡ true) e may)
    (subst (λ (u : Values). (u.conns k).up ≡ x ∷ xs) e h) in
    let back : Told es v x = subst (λ (u : Values). Told es u x) (sym e)
    (told.0, small_tree (answer (run es (start z)) x).reply.tree_id told.1) in
    back

pub status_fits : (z : Settings) (es : List Event) (v : Values) → v ≡ run es (start z) → (k : ℕ) (x : Sent) (xs : List Sent)
    → (v.conns k).up ≡ x ∷ xs → (answer v x).reply.status < 256 ^ 4
status_fits z es v e k x xs h =
    subst (λ (u : Values). (answer u x).reply.status < 256 ^ 4) (sym e)
    (statuses_fit z es k x xs (subst (λ (u : Values). (u.conns k).up ≡ x ∷ xs) e h))

pub dialogs_fit : (z : WorldSettings) (w : World) (es : List Event) → w.values ≡ run es (start (values_of z))
    → Facts (values_of z) es w.values → restarts_in es < 4294967295 → (k : ℕ) (x : Sent) (xs : List Sent)
    → (w.values.conns k).server_open ≡ true → (w.values.conns k).up ≡ x ∷ xs → is_lines x.message.command ≡ false
    → DialogBounds z w k x
dialogs_fit z w es e f few k x xs so h talks =
    let token = own (values_of z) es w.values f k x xs h talks in
    let told = replies_fit (values_of z) es w.values e k x xs so h in
    record {
      own = token;
      unlined = λ co. unlined (values_of z) es w.values f k x xs h talks token co;
      fits = record {
        status = status_fits (values_of z) es w.values e k x xs h;
        session = small_id (answer w.values x).reply.session_id (restarts_in es) few told.0;
        tree = told.1;
      };
      moment = moment_low w.values.moment f.moment;
      logs_on = λ co bound at ok. logs_on z es w.values f k x xs h co bound at ok;
      seals = seals_fit z es w.values e k x xs h (talks_up x.message.command talks);
    }
