-- Every event keeps it, and so what a logon's success tells is of a client with a cipher.
use Rattle.std.proofs.Common.{◌≡◌, ℕ, ◌==◌, Bool, true, false, not, List, [], ◌∷◌, ◌++◌, refl, sym, ap, ◌∙◌, subst, eqb-true}
use Rattle.std.proofs.Common.{Some, None}
use Rattle.spec_exchange.specs.Commands.{Command, Aside, Unreadable, Setup, Logoff, TreeConnect, TreeDisconnect, Create, Close, Flush, Read}
use Rattle.spec_exchange.specs.Commands.{Write, Lock, Ioctl, ListDirectory, QueryFile, QueryVolume, SetInfo, SetupRequest}
use Rattle.spec_exchange.specs.State.{Server, Message, Reply, Record, Heard}
use Rattle.spec_exchange.specs.Fold.{fold}
use Rattle.spec_exchange.specs.Verdict.{Verdict, Refuse, Give, KeepRefusal, Repeat, Attach, Make, TurnDown, Tell, Show, KeepSlot, PutRanges}
use Rattle.spec_exchange.specs.Verdict.{Alter, CloseOpen, Challenge, ChallengeBinding, Begin, Join, EndSession, AddTree, DropTree}
use Rattle.spec_exchange.specs.Effects.{apply}
use Rattle.spec_exchange.specs.Step.{step}
use Rattle.spec_exchange.specs.Client.{Client, Identity, Stage, Apart, SaidNegotiate, SaidFirst, SaidSecond, AskedTree}
use Rattle.spec_exchange.specs.Dialogs.{DialogStep, GoesOn, Accepts, Binds, Readies, Refuses, dialog_step}
use Rattle.spec_exchange.specs.Dialogs.{dialog_message, went_on, stage_command}
use Rattle.spec_exchange.specs.ClientStep.{Act, Nothing, Sends, Asks, CloseChannel, CloseChannels, AllSettled, Pushes}
use Rattle.spec_exchange.specs.ClientStep.{IsCut, act, client_after}
use Rattle.spec_exchange.specs.Network.{World, Event, Submit, Open, Push, Serve, Take, Cut, Drop, Restart, Crash, Wait}
use Rattle.spec_exchange.specs.Network.{Finish, Sent, Received}
use Rattle.spec_exchange.specs.Network.{Token, ForDialog, ForOp, ForAttach, Settings, start, run, happens, changed}
use Rattle.spec_exchange.specs.Network.{later, may_open, may_serve}
use Rattle.spec_exchange.specs.Network.{may_take_reply, pushed_by, serve_front, absorb_front, take_reply, took_by, dialog_took, closed_by}
use Rattle.spec_exchange.specs.Network.{cut_by, behind_reply, restarted, answer_to}
use Rattle.law_sessions.proofs.messages.Lists.{front_up}
use Rattle.law_sessions.proofs.messages.Reached.{on_every_run, run_more}
use Rattle.law_server.proofs.tables.Logic.{either}
use Rattle.law_server.proofs.tables.Doors.{by_verdict, recorded}
use Rattle.law_sessions.specs.sessions.Sessions.{is_work}
use Rattle.law_sessions.proofs.sessions.Always.{stored}
use Rattle.law_sessions.proofs.sessions.DialogFacts.{dialogs}
use Rattle.law_sessions.proofs.sessions.Waiting.{AllUp, News, still_all_up}
use Rattle.law_answers.specs.sealing_logons.Sealed.{seals, sets_up, Ciphered, SealsHaveCiphers}
use Rattle.law_answers.proofs.sealing_logons.Checks.{Sealing, finds_sealing}
use Rattle.law_answers.proofs.sealing_logons.Server.{before, answered, accepted, left_by}

-- ---- what the server doesn't meet leaves it

by_server : (w v : World) → v.server ≡ w.server → Ciphered w.server → Ciphered v.server
by_server w v e h = subst Ciphered (sym e) h

pushed_same : (w : World) (k : ℕ) (c : Client) (x : Act) → (pushed_by w k c x).server ≡ w.server
pushed_same w k c Nothing = refl
pushed_same w k c (Sends g) = refl
pushed_same w k c (Asks g) = refl
pushed_same w k c CloseChannel = refl
pushed_same w k c CloseChannels = refl
pushed_same w k c AllSettled = refl

closed_same : (w : World) (k : ℕ) (x : Act) → (closed_by w k x).server ≡ w.server
closed_same w k Nothing = refl
closed_same w k (Sends g) = refl
closed_same w k (Asks g) = refl
closed_same w k CloseChannel = refl
closed_same w k CloseChannels = refl
closed_same w k AllSettled = refl

cut_same : (w : World) (k : ℕ) (x : Act) → (cut_by w k x).server ≡ w.server
cut_same w k Nothing = refl
cut_same w k (Sends g) = refl
cut_same w k (Asks g) = refl
cut_same w k CloseChannel = refl
cut_same w k CloseChannels = refl
cut_same w k AllSettled = refl

dialog_same : (w : World) (k : ℕ) (r : Reply) (d : DialogStep) → (dialog_took w k r d).server ≡ w.server
dialog_same w k r (GoesOn s) = refl
dialog_same w k r Accepts = refl
dialog_same w k r Binds = closed_same w k _
dialog_same w k r Readies = closed_same w k _
dialog_same w k r (Refuses status) = closed_same w k CloseChannel

take_same : (w : World) (k : ℕ) (ys : List Received) → (take_reply w k ys).server ≡ w.server
take_same w k [] = refl
take_same w k (y ∷ rest) = by y.token
  where
    by : (t : Token) → (took_by (behind_reply w k rest) k y.reply y.place t).server ≡ w.server
    by ForDialog = dialog_same (behind_reply w k rest) k y.reply (dialog_step (w.client.stage k) y.reply.status)
    by (ForOp g) = closed_same (behind_reply w k rest) k _
    by (ForAttach g) = closed_same (behind_reply w k rest) k _

-- ---- a restart leaves no session

of_restart : (u : World) → ((x : ℕ) → (fold (restarted u).records).present x ≡ false) → Ciphered (restarted u).server
of_restart u none e x p = absurd (let h : false ≡ true = sym (none x) ∙ p in cc)

crashed : (w : World) (k : ℕ) (kept : Bool) → ((x : ℕ) → (fold (changed w (Crash k kept)).records).present x ≡ false)
    → Ciphered (changed w (Crash k kept)).server
crashed w k true none = of_restart (absorb_front w k (w.conns k).up) none
crashed w k false none = of_restart w none

none_behind : (z : Settings) (es : List Event) (e : Event) (x : ℕ) → (fold (happens (run es (start z)) e).records).present x ≡ false
none_behind z es e x =
    let f = stored z (es ++ e ∷ []) in
    subst (λ (w : World). (fold w.records).present x ≡ false) (run_more es e (start z)) (f.present x)

-- ---- every event

serves : (w : World) (k : ℕ) (xs : List Sent) → Ciphered w.server → Ciphered (serve_front w k xs).server
serves w k [] h = h
serves w k (x ∷ rest) h = answered w.server w.moment x.message x.message.command h

cuts : (w : World) (k : ℕ) → Ciphered w.server → Ciphered (changed w (Cut k)).server
cuts w k h =
    either (λ (v : World). Ciphered v.server) (w.client.ready k) _ _
    (λ _. by_server w (cut_by w k (act w.client (IsCut k))) (cut_same w k (act w.client (IsCut k))) h) (λ _. h)

stays : (w : World) (e : Event) → ((x : ℕ) → (fold (happens w e).records).present x ≡ false) → Ciphered w.server
    → Ciphered (happens w e).server
stays w (Submit g op) none h = h
stays w (Open k) none h =
    either (λ (v : World). Ciphered v.server) (may_open w k) (later (changed w (Open k)) 1) w (λ _. accepted w.server w.moment k h) (λ _. h)
stays w (Push k slotless pick) none h =
    let c = client_after w.client (Pushes k slotless pick) in
    let a = act w.client (Pushes k slotless pick) in
    either (λ (v : World). Ciphered v.server) (w.client.ready k) (later (changed w (Push k slotless pick)) 1) w
    (λ _. by_server w (pushed_by w k c a) (pushed_same w k c a) h) (λ _. h)
stays w (Serve k) none h =
    either (λ (v : World). Ciphered v.server) (may_serve w k) (later (serve_front w k (w.conns k).up) 1) w
    (λ _. serves w k (w.conns k).up h) (λ _. h)
stays w (Take k) none h =
    either (λ (v : World). Ciphered v.server) (may_take_reply w k) (later (changed w (Take k)) 1) w
    (λ _. by_server w (take_reply w k (w.conns k).down) (take_same w k (w.conns k).down) h) (λ _. h)
stays w (Cut k) none h =
    either (λ (v : World). Ciphered v.server) (w.conns k).client_open (later (changed w (Cut k)) 1) w (λ _. cuts w k h) (λ _. h)
stays w (Drop k) none h =
    either (λ (v : World). Ciphered v.server) (w.conns k).server_open (later (changed w (Drop k)) 1) w
    (λ _. left_by w.server w.moment k h) (λ _. h)
stays w Restart none h = of_restart w none
stays w (Crash k kept) none h =
    either (λ (v : World). ((x : ℕ) → (fold v.records).present x ≡ false) → Ciphered v.server) (may_serve w k)
    (later (changed w (Crash k kept)) 1) w (λ _ gone. crashed w k kept gone) (λ _ gone. h) none
stays w (Wait n) none h = h
stays w (Finish refusal) none h =
    either (λ (v : World). Ciphered v.server) (not w.client.live) (later (changed w (Finish refusal)) 1) w (λ _. h) (λ _. h)

first_none : (z : Settings) (x : ℕ) → (start z).server.present x ≡ false
unfolding run
first_none z x = (let f = stored z [] in f.present x)

begins : (z : Settings) → Ciphered (start z).server
begins z e x p = absurd (let h : false ≡ true = sym (first_none z x) ∙ p in cc)

ciphered : (z : Settings) (es : List Event) → Ciphered (run es (start z)).server
ciphered z es =
    on_every_run (λ w a. Ciphered w.server) z (begins z) (λ xs e h. stays (run xs (start z)) e (none_behind z xs e) h) es

-- ---- a SESSION_SETUP that waits tells its client's cipher

abbrev cipher_in : Command → ℕ
cipher_in (Setup r) = r.cipher
cipher_in _ = 0

abbrev is_setup_at : Command → Bool
is_setup_at (Setup r) = true
is_setup_at _ = false

abbrev Tells : ℕ → Sent → Type 0
Tells cipher x = (r : SetupRequest) → x.message.command ≡ Setup r → r.cipher ≡ cipher

never : {X : Type 0} (c : Command) (r : SetupRequest) → is_setup_at c ≡ false → c ≡ Setup r → X
never c r off e = absurd (let h : false ≡ true = sym off ∙ ap is_setup_at e in cc)

work_not : (c : Command) (r : SetupRequest) → is_work c ≡ true → c ≡ Setup r → ⊥
unfolding is_work
work_not c r w e = let h : true ≡ false = sym w ∙ ap is_work e in cc

next_tells : (c : Client) (k id : ℕ) (s : Stage) → Tells c.who.cipher (record { token = ForDialog; message = dialog_message c k id s })
next_tells c k id Apart r e = never (stage_command c Apart) r refl e
next_tells c k id (SaidNegotiate bound) r e = never (stage_command c (SaidNegotiate bound)) r refl e
next_tells c k id (SaidFirst bound) r e = sym (ap cipher_in e)
next_tells c k id (SaidSecond bound) r e = sym (ap cipher_in e)
next_tells c k id AskedTree r e = never (stage_command c AskedTree) r refl e

news : (w : World) (cipher : ℕ) → w.client.who.cipher ≡ cipher → News (Tells cipher) w
news w cipher is =
    record {
      work = λ t m a r e. absurd (work_not m.command r a e);
      first = λ k id b r e. next_tells w.client k id (SaidNegotiate b) r e ∙ is;
      next = λ k id reply s goes r e. next_tells (went_on w.client k s reply) k id s r e ∙ is;
      tree = λ k id r e. next_tells w.client k id AskedTree r e ∙ is;
    }

none_first : (z : Settings) → AllUp (Tells z.who.cipher) (start z).conns
none_first z k n x h = absurd (let q : None ≡ Some x = h in cc)

who_is : (z : Settings) (es : List Event) → (run es (start z)).client.who.cipher ≡ z.who.cipher
who_is z es = (let d = dialogs z es in ap (λ (i : Identity). i.cipher) d.who)

tells : (z : Settings) (es : List Event) → AllUp (Tells z.who.cipher) (run es (start z)).conns
tells z es =
    on_every_run (λ w a. AllUp (Tells z.who.cipher) w.conns) z (none_first z)
    (λ xs e h. still_all_up (Tells z.who.cipher) (run xs (start z)) e (news (run xs (start z)) z.who.cipher (who_is z xs)) h) es

-- ---- what a success tells

same_not : (a b : ℕ) → (a == b) ≡ true → (b == 0) ≡ false → (a == 0) ≡ false
same_not a b e off = ap (λ n. n == 0) (eqb-true a b e) ∙ off

absent : {X : Type 0} → false ≡ true → X
absent e = absurd (let h : false ≡ true = e in cc)

told : (t : Server) (m : Message) (now : ℕ) (records : List Record) (r : SetupRequest) (v : Verdict) → Ciphered t → Sealing t m r v
    → seals (recorded (apply t m now v) records).reply.body ≡ true → (r.cipher == 0) ≡ false
told t m now records r (Begin session user previous request is_quiet) h f e = (let both = f e in both.0)
told t m now records r (Join session) h f e = same_not r.cipher (t.cipher m.session_id) f.1 (h e m.session_id f.0)
told t m now records r (Refuse status) h f e = absent e
told t m now records r Challenge h f e = absent e
told t m now records r (ChallengeBinding session) h f e = absent e
told t m now records r (Give body) h f e = absurd f
told t m now records r (KeepRefusal guid status) h f e = absurd f
told t m now records r (Repeat o request) h f e = absurd f
told t m now records r (Attach o request) h f e = absurd f
told t m now records r (Make request place action) h f e = absurd f
told t m now records r (TurnDown o status) h f e = absurd f
told t m now records r (Tell o body) h f e = absurd f
told t m now records r (Show o last body) h f e = absurd f
told t m now records r (KeepSlot o index number status elements) h f e = absurd f
told t m now records r (PutRanges o index number ranges elements) h f e = absurd f
told t m now records r (Alter o change body) h f e = absurd f
told t m now records r (CloseOpen o body) h f e = absurd f
told t m now records r (EndSession session is_quiet) h f e = absurd f
told t m now records r (AddTree pipes) h f e = absurd f
told t m now records r DropTree h f e = absurd f

stepped : (s : Server) (now : ℕ) (m : Message) (r : SetupRequest) → m.command ≡ Setup r → Ciphered s
    → seals (step s now (Heard m)).reply.body ≡ true → (r.cipher == 0) ≡ false
stepped s now m r e h =
    by_verdict (λ A. seals A.reply.body ≡ true → (r.cipher == 0) ≡ false) s now m
    (λ t v records b f. told t m now records r v (before s now t b h) (finds_sealing t m r e v f))

by_command : (s : Server) (now : ℕ) (m : Message) (cipher : ℕ) (c : Command) → c ≡ m.command → sets_up c ≡ true
    → ((r : SetupRequest) → m.command ≡ Setup r → r.cipher ≡ cipher) → Ciphered s
    → seals (answer_to s now m c).reply.body ≡ true → (cipher == 0) ≡ false
by_command s now m cipher (Aside status) is up own h e = absent e
by_command s now m cipher (Setup r) is up own h e =
    ap (λ n. n == 0) (sym (own r (sym is))) ∙ stepped s now m r (sym is) h e
by_command s now m cipher (Unreadable status) is up own h e = absent up
by_command s now m cipher Logoff is up own h e = absent up
by_command s now m cipher (TreeConnect share) is up own h e = absent up
by_command s now m cipher TreeDisconnect is up own h e = absent up
by_command s now m cipher (Create request) is up own h e = absent up
by_command s now m cipher (Close file query) is up own h e = absent up
by_command s now m cipher (Flush file) is up own h e = absent up
by_command s now m cipher (Read file at size minimum channel) is up own h e = absent up
by_command s now m cipher (Write file at bytes channel) is up own h e = absent up
by_command s now m cipher (Lock file index number elements) is up own h e = absent up
by_command s now m cipher (Ioctl file code room) is up own h e = absent up
by_command s now m cipher (ListDirectory file class restart single pattern room) is up own h e = absent up
by_command s now m cipher (QueryFile file class room) is up own h e = absent up
by_command s now m cipher (QueryVolume file class room) is up own h e = absent up
by_command s now m cipher (SetInfo file setting) is up own h e = absent up

pub seals_have_ciphers : SealsHaveCiphers
seals_have_ciphers z es k x xs h up e =
    let w = run es (start z) in
    by_command w.server w.moment x.message z.who.cipher x.message.command refl up (tells z es k 0 x (front_up (w.conns k).up x xs h))
    (ciphered z es) e
