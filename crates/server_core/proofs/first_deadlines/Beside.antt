-- What an answer has beside its reply, and what is kept of logons, by what was made ready (MS-SMB2 3.3.5.5.3).
use Rattle.std.proofs.Common.{◌≡◌, ℕ, ◌+◌, Bool, false, true, List, length, Option, Some, None, is_some, refl, sym, ap, subst, ◌∙◌}
use Rattle.std.specs.Prelude.{⊤}
use Rattle.spec_exchange.specs.State as model
use Rattle.spec_exchange.specs.Step.{connection_of}
use Rattle.spec_exchange.specs.Step as rules
use Rattle.spec_exchange.specs.Table.{put}
use Rattle.crypto_sessions.specs.ntlmv2.Judging.{AcceptorState}
use Rattle.server_checks.specs.session_table.Logons.{LogonsShown, begun_in, shown_of}
use Rattle.server_checks.specs.declared.session_table.row.SessionRow.{SessionRow}
use Rattle.spec_crypto.specs.declared.sessions.choice.Chosen.{Chosen}
use Rattle.spec_crypto.specs.declared.sessions.material.Keys.{Keys}
use Rattle.spec_crypto.specs.sessions.Derivation.{bound_keys, keys_of}
use Rattle.spec_crypto.specs.tokens.Tokens.{Users}
use Rattle.spec_crypto.specs.tokens.Tokens as tokens
use Rattle.spec_crypto.specs.tokens.Tokens.{Begun, Pending, begun_by, shown}
use Rattle.spec_world.specs.Ends.{Logons}
use Rattle.spec_world.specs.Logon.{Final, Interim, Progress, Stays, answer_token_by, exported, exported_by, pending_by, pending_with}
use Rattle.server_effects.specs.event_effects.Acts.{BesidePrepared}
use Rattle.wire_commands.specs.values.Meaning.{message_of}
use Rattle.server_checks.specs.event_heard.Heard.{HeardLogonIs, PartOf, event_of, heard_event, part_in}
use Rattle.server_checks.specs.declared.event_heard.asked.Asked.{Asked}
use Rattle.server_checks.specs.declared.event_heard.asked.Asked.TheVariants as askings
use Rattle.server_checks.specs.declared.event_heard.asked.LogonPart.{LogonPart}
use Rattle.server_checks.specs.declared.event_heard.event.ServerEvent.{ServerEvent}
use Rattle.server_checks.specs.declared.event_heard.event.ServerEvent.TheVariants as events
use Rattle.server_effects.specs.verdict_effects.Beside.{Beside}
use Rattle.server_checks.specs.Shown.{TablesShown}
use Rattle.server_checks.specs.declared.tables.Tables.{Tables}
use Rattle.server_effects.specs.Able.{Able}
use Rattle.server_effects.specs.Carried.{IsEffectBare, KeepsChallenge}
use Rattle.server_effects.specs.declared.answering.Answer.{Answer}
use Rattle.server_checks.specs.setups.Setups.{in_the_making, keys_behind, setup_message}
use Rattle.server_checks.specs.declared.setups.setup.SetupHeard.{SetupHeard}
use Rattle.server_core.specs.journaled_tables.Beside.{BesideCarried}
use Rattle.server_core.specs.journaled_tables.Heard.{IsJournaledHeard}
use Rattle.server_effects.specs.prepared_event.Prepared.{IsPrepared, prepared_ruling}
use Rattle.server_effects.specs.declared.prepared_event.prepared.Prepared.{Prepared}
use Rattle.server_effects.specs.declared.prepared_event.prepared.Prepared.TheVariants as prepared
use Rattle.server_effects.specs.reserved.Readied.{readied}
use Rattle.server_effects.specs.declared.reserved.ready.Ready.{Ready}
use Rattle.server_effects.specs.declared.reserved.ready.Ready.TheVariants as readies
use Rattle.server_effects.specs.declared.reserved.ready.SetupReady.{SetupReady}
use Rattle.server_effects.specs.declared.reserved.ready.SetupReady.TheVariants as steps
use Rattle.server_effects.specs.reserved.Room.{IsReadied}
use Rattle.server_plan.specs.rulings.Rulings.{AbleToRule}
use Rattle.server_plan.specs.reserving.Logons.{ChallengeOf, EndOf, ReadyStep, StepBy, StepFor}
use Rattle.server_plan.specs.logon_steps.Steps.{PreparedStep}
use Rattle.law_records.specs.effects.Making.{EndsMaking}
use Rattle.server_core.specs.logon_progress.Progress.{ruled_progress}
use Rattle.server_core.proofs.first_deadlines.Kept.{step_shown}
use Rattle.server_core.proofs.first_deadlines.Steps.{challenge_kept, challenge_sent, end_sent, made_there}

-- ---- an answer with nothing beside its reply

abbrev Bare : Tables → Tables → Answer → Type 0
Bare old new r = IsEffectBare r × ((keys : ℕ → Keys) (pending : ℕ → Option Pending) → LogonsShown old.sessions keys pending
    → LogonsShown new.sessions keys pending)

-- of a SESSION_SETUP that comes to nothing, and of any other event whatever it comes to
bare_setup : (old new : Tables) (r : Answer) (users : Users) (L : Logons) (h : SetupHeard) (now : ℕ) (q : Progress) → q ≡ Stays
    → LogonsShown old.sessions L.keys L.pending → Bare old new r → BesideCarried new users L (events.Setup h) now q r
bare_setup old new r users L h now q e l b =
    subst (λ (p : Progress). BesideCarried new users L (events.Setup h) now p r) (sym e) (b.1 L.keys L.pending l, b.0)

bare : (old new : Tables) (r : Answer) (users : Users) (L : Logons) (e : ServerEvent) (now : ℕ) (q : Progress)
    → ((h : SetupHeard) → e ≡ events.Setup h → q ≡ Stays)
    → LogonsShown old.sessions L.keys L.pending → Bare old new r → BesideCarried new users L e now q r
bare old new r users L (events.Accept connection) now q stays l b = (b.1 L.keys L.pending l, b.0)
bare old new r users L (events.Message message) now q stays l b = (b.1 L.keys L.pending l, b.0)
bare old new r users L (events.Setup h) now q stays l b = bare_setup old new r users L h now q (stays h refl) l b
bare old new r users L (events.End connection) now q stays l b = (b.1 L.keys L.pending l, b.0)
bare old new r users L events.Stop now q stays l b = (b.1 L.keys L.pending l, b.0)

-- ---- a step of a logon

-- what is known of the SESSION_SETUP: its message, its token and its state, in which it can be carried out
record Known (users : Users) (L : Logons) (s d : model.Server) (h : SetupHeard) (m : model.Message) (p : LogonPart) : Type 0 where
  connection_is : m.connection ≡ h.connection
  session_is : m.session_id ≡ h.session_id
  part : PartOf users (in_the_making s L) h (Some p)
  eight : length p.fresh ≡ 8
  making_is : d.making ≡ s.making

fresh_is : (users : Users) (L : Logons) (s d : model.Server) (h : SetupHeard) (m : model.Message) (p : LogonPart)
    → Known users L s d h m p → length h.fresh ≡ 8
fresh_is users L s d h m p k = subst (λ (f : List ℕ). length f ≡ 8) k.part.4 k.eight

-- the challenge by what the request has
challenged : (users : Users) (L : Logons) (s d : model.Server) (h : SetupHeard) (m : model.Message) (p : LogonPart) (now : ℕ)
    (list : List ℕ) (acceptor : AcceptorState) (token : List ℕ) → Known users L s d h m p
    → ChallengeOf (begun_in p.shown) p.fresh now list acceptor token → ChallengeOf (begun_by users.bare h.form.token.now) h.fresh
    now list acceptor token
challenged users L s d h m p now list acceptor token k c =
    subst (λ (b : Option Begun). ChallengeOf b h.fresh now list acceptor token) k.part.1
    (subst (λ (f : List ℕ). ChallengeOf (begun_in p.shown) f now list acceptor token) k.part.4 c)

challenge : (old new : Tables) (r : Answer) (users : Users) (L : Logons) (s d : model.Server) (h : SetupHeard) (m : model.Message)
    (p : LogonPart) (now : ℕ) (list : List ℕ) (acceptor : AcceptorState) (token : List ℕ) (binding : Bool) → Known users L s d h m p
    → LogonsShown old.sessions L.keys L.pending → ChallengeOf (begun_in p.shown) p.fresh now list acceptor token
    → KeepsChallenge old new r m list acceptor token → BesideCarried new users L (events.Setup h) now (Interim binding) r
unfolding pending_by answer_token_by
challenge old new r users L s d h m p now list acceptor token binding k l c g =
    let n = fresh_is users L s d h m p k in
    let e = challenged users L s d h m p now list acceptor token k c in
    let kept = challenge_kept (begun_by users.bare h.form.token.now) h.fresh now list acceptor token n e in (
      subst (λ (x : ℕ). LogonsShown new.sessions L.keys (put L.pending x (pending_with (begun_by users.bare h.form.token.now) h.fresh now)))
          k.connection_is
          (subst (λ (w : Option Pending). LogonsShown new.sessions L.keys (put L.pending m.connection w)) kept
          (g.logons L.keys L.pending l)),
      (g.token_is ∙ challenge_sent (begun_by users.bare h.form.token.now) h.fresh now list acceptor token n e, g.no_keys, g.no_channel),
    )

-- what its token shows, by all that is kept
shown_there : (users : Users) (L : Logons) (s d : model.Server) (h : SetupHeard) (m : model.Message) (p : LogonPart)
    → Known users L s d h m p → is_some (d.making m.connection) ≡ true → shown_of p.shown
    ≡ shown users (L.pending h.connection) h.form.token.now
shown_there users L s d h m p k e =
    let there = subst (λ (f : ℕ → Option model.Making). is_some (f h.connection) ≡ true) k.making_is
    (subst (λ (x : ℕ). is_some (d.making x) ≡ true) k.connection_is e) in
    k.part.0 ∙ ap (λ (w : Option Pending). shown users w h.form.token.now) (made_there s L h.connection there)

new_keys : (users : Users) (L : Logons) (s d : model.Server) (h : SetupHeard) (m : model.Message) (p : LogonPart) (session : ℕ)
    → Known users L s d h m p → is_some (d.making m.connection) ≡ true → session ≡ m.session_id
    → keys_of (exported_by (shown_of p.shown)) p.chain p.chosen.cipher p.chosen.signing session ≡ keys_behind users L h false
unfolding exported
new_keys users L s d h m p session k e i =
    ap (λ (v : tokens.Shown). keys_of (exported_by v) p.chain p.chosen.cipher p.chosen.signing session) (shown_there users L s d h m p k e)
    ∙ (ap (λ (c : List ℕ). keys_of (exported users (L.pending h.connection) h.form.token.now) c p.chosen.cipher
    p.chosen.signing session) k.part.3
    ∙ (ap (λ (c : Chosen). keys_of (exported users (L.pending h.connection) h.form.token.now) h.chain c.cipher c.signing session) k.part.2
    ∙ ap (λ (x : ℕ). keys_of (exported users (L.pending h.connection) h.form.token.now) h.chain h.chosen.cipher h.chosen.signing x)
    (i ∙ k.session_is)))

joined_keys : (users : Users) (L : Logons) (s d : model.Server) (h : SetupHeard) (m : model.Message) (p : LogonPart) (session : ℕ)
    → Known users L s d h m p → is_some (d.making m.connection) ≡ true → session ≡ m.session_id
    → bound_keys (exported_by (shown_of p.shown)) p.chain (L.keys session) ≡ keys_behind users L h true
unfolding exported
joined_keys users L s d h m p session k e i =
    ap (λ (v : tokens.Shown). bound_keys (exported_by v) p.chain (L.keys session)) (shown_there users L s d h m p k e)
    ∙ (ap (λ (c : List ℕ). bound_keys (exported users (L.pending h.connection) h.form.token.now) c (L.keys session)) k.part.3
    ∙ ap (λ (x : ℕ). bound_keys (exported users (L.pending h.connection) h.form.token.now) h.chain (L.keys x)) (i ∙ k.session_is))

-- the end of a logon: its token
ended : (users : Users) (L : Logons) (s d : model.Server) (h : SetupHeard) (m : model.Message) (p : LogonPart) (token : List ℕ)
    (now number : ℕ) (binding encrypts : Bool) → Known users L s d h m p → is_some (d.making m.connection) ≡ true
    → (k : ℕ) → k ≡ h.connection
    → EndOf (L.pending k) (shown_of p.shown) token
    → token ≡ answer_token_by users (L.pending h.connection) h.form.token.now h.fresh now (Final binding number encrypts)
unfolding answer_token_by
ended users L s d h m p token now number binding encrypts known e k i w =
    end_sent users (L.pending h.connection) h.form.token.now (shown_of p.shown) token (shown_there users L s d h m p known e)
    (subst (λ (x : ℕ). EndOf (L.pending x) (shown_of p.shown) token) i w)

begun : (old new : Tables) (r : Answer) (users : Users) (L : Logons) (s d : model.Server) (h : SetupHeard) (m : model.Message)
    (p : LogonPart) (now session : ℕ) (row : SessionRow) (token : List ℕ) (encrypts : Bool) → Known users L s d h m p
    → LogonsShown old.sessions L.keys L.pending → is_some (d.making m.connection) ≡ true → session ≡ m.session_id
    → (k : ℕ) → k ≡ h.connection
    → EndOf (L.pending k) (shown_of p.shown) token
    → row.keys ≡ keys_of (exported_by (shown_of p.shown)) p.chain p.chosen.cipher p.chosen.signing session
    → r.token ≡ token → r.keys ≡ Some row.keys → r.channel ≡ Some 1
    → ((keys : ℕ → Keys) (pending : ℕ → Option Pending) → LogonsShown old.sessions keys pending
    → LogonsShown new.sessions (put keys session row.keys) pending)
    → BesideCarried new users L (events.Setup h) now (Final false 1 encrypts) r
begun old new r users L s d h m p now session row token encrypts known l e i k c w keys_are t_is k_is c_is logons =
    let same = keys_are ∙ new_keys users L s d h m p session known e i in (
      subst (λ (x : ℕ). LogonsShown new.sessions (put L.keys x (keys_behind users L h false)) L.pending) (i ∙ known.session_is)
          (subst (λ (y : Keys). LogonsShown new.sessions (put L.keys session y) L.pending) same (logons L.keys L.pending l)),
      (t_is ∙ ended users L s d h m p token now 1 false encrypts known e k c w, k_is ∙ ap (λ (y : Keys). Some y) same, c_is),
    )

joined : (old new : Tables) (r : Answer) (users : Users) (L : Logons) (s d : model.Server) (h : SetupHeard) (m : model.Message)
    (p : LogonPart) (now session number : ℕ) (made : Keys) (token : List ℕ) (encrypts : Bool) → Known users L s d h m p
    → LogonsShown old.sessions L.keys L.pending → is_some (d.making m.connection) ≡ true → session ≡ m.session_id
    → (k : ℕ) → k ≡ h.connection
    → EndOf (L.pending k) (shown_of p.shown) token
    → made ≡ bound_keys (exported_by (shown_of p.shown)) p.chain (L.keys session)
    → r.token ≡ token → r.keys ≡ Some made → r.channel ≡ Some number
    → ((keys : ℕ → Keys) (pending : ℕ → Option Pending) → LogonsShown old.sessions keys pending → LogonsShown new.sessions keys pending)
    → BesideCarried new users L (events.Setup h) now (Final true number encrypts) r
joined old new r users L s d h m p now session number made token encrypts known l e i k c w keys_are t_is k_is c_is logons =
    let same = keys_are ∙ joined_keys users L s d h m p session known e i in (
      logons L.keys L.pending l,
      (t_is ∙ ended users L s d h m p token now number true encrypts known e k c w, k_is ∙ ap (λ (y : Keys). Some y) same, c_is),
    )

-- what is known of the event before its answer, and of the answer
record Acted (old new : Tables) (r : Answer) (users : Users) (L : Logons) (d : model.Server) (e : ServerEvent) (now : ℕ)
    (q : Progress) (m : model.Message) (ready : Ready) : Type 0 where
  logons : LogonsShown old.sessions L.keys L.pending
  beside : Beside old new r m ready
  told : q ≡ ruled_progress d (rules.Says m (readied m.command ready))
  ends : EndsMaking d m (readied m.command ready)
  able : Able d m (readied m.command ready)

by_step : (old new : Tables) (r : Answer) (users : Users) (L : Logons) (s d : model.Server) (h : SetupHeard) (m : model.Message)
    (p : LogonPart) (now : ℕ) (q : Progress) (step : SetupReady) → Known users L s d h m p
    → Acted old new r users L d (events.Setup h) now q m (readies.Setup step) → TablesShown old d
    → StepFor L.keys L.pending m.connection p now step → BesideCarried new users L (events.Setup h) now q r
by_step old new r users L s d h m p now q (steps.Challenge list acceptor token) k a t w =
    subst (λ (x : Progress). BesideCarried new users L (events.Setup h) now x r) (sym a.told)
    (challenge old new r users L s d h m p now list acceptor token false k a.logons w a.beside)
by_step old new r users L s d h m p now q (steps.ChallengeBinding session list acceptor token) k a t w =
    subst (λ (x : Progress). BesideCarried new users L (events.Setup h) now x r) (sym a.told)
    (challenge old new r users L s d h m p now list acceptor token true k a.logons w a.beside)
by_step old new r users L s d h m p now q (steps.Begin session row token previous quiet) k a t w =
    subst (λ (x : Progress). BesideCarried new users L (events.Setup h) now x r) (sym a.told)
    (begun old new r users L s d h m p now session row token d.encrypts k a.logons a.ends.1 a.ends.0 m.connection k.connection_is w.0 w.1
    a.beside.0 a.beside.1 a.beside.2 a.beside.3)
by_step old new r users L s d h m p now q (steps.Join session keys token) k a t w =
    subst (λ (x : Progress). BesideCarried new users L (events.Setup h) now x r) (sym a.told)
    (joined old new r users L s d h m p now session (d.channel_numbers_drawn session + 1) keys token d.encrypts k a.logons a.ends.1 a.ends.0
    m.connection k.connection_is w.0 w.1 a.beside.0 a.beside.1 (a.beside.2 d t a.able) a.beside.3)

abbrev session_in : model.ServerEvent → ℕ
session_in (model.Heard m) = m.session_id
session_in _ = 0

by_setup : (old new : Tables) (r : Answer) (users : Users) (L : Logons) (s d : model.Server) (h : SetupHeard) (m : model.Message)
    (logon : Option LogonPart) (now : ℕ) (q : Progress) (step : SetupReady) → d.making ≡ s.making
    → model.Heard m ≡ heard_event users (in_the_making s L) s (events.Setup h) → PartOf users (in_the_making s L) h logon
    → ((p : LogonPart) → logon ≡ Some p → length p.fresh ≡ 8)
    → Acted old new r users L d (events.Setup h) now q m (readies.Setup step) → TablesShown old d
    → StepBy L.keys L.pending m.connection logon now step → BesideCarried new users L (events.Setup h) now q r
by_setup old new r users L s d h m None now q step making said part eight a t w = absurd part
by_setup old new r users L s d h m (Some p) now q step making said part eight a t w =
    by_step old new r users L s d h m p now q step (record {
      connection_is = ap connection_of said;
      session_is = ap session_in said;
      part = part;
      eight = eight p refl;
      making_is = making;
    }) a t w

by_event : (old new : Tables) (r : Answer) (users : Users) (L : Logons) (s d : model.Server) (e : ServerEvent) (m : model.Message)
    (logon : Option LogonPart) (now : ℕ) (q : Progress) (step : SetupReady) → d.making ≡ s.making
    → model.Heard m ≡ heard_event users (in_the_making s L) s e → HeardLogonIs users (in_the_making s L) e logon
    → ((p : LogonPart) → logon ≡ Some p → length p.fresh ≡ 8)
    → Acted old new r users L d e now q m (readies.Setup step) → TablesShown old d
    → StepBy L.keys L.pending m.connection logon now step → BesideCarried new users L e now q r
by_event old new r users L s d (events.Accept connection) m logon now q step making said part eight a t w = absurd (cc)
by_event old new r users L s d (events.Message message) m logon now q step making said part eight a t w =
    absurd (subst (λ (x : Option LogonPart). StepBy L.keys L.pending m.connection x now step) part w)
by_event old new r users L s d (events.Setup h) m logon now q step making said part eight a t w =
    by_setup old new r users L s d h m logon now q step making said part eight a t w
by_event old new r users L s d (events.End connection) m logon now q step making said part eight a t w = absurd (cc)
by_event old new r users L s d events.Stop m logon now q step making said part eight a t w = absurd (cc)

by_ready : (old new : Tables) (r : Answer) (users : Users) (L : Logons) (s d : model.Server) (e : ServerEvent) (m : model.Message)
    (logon : Option LogonPart) (now : ℕ) (q : Progress) (ready : Ready) → d.making ≡ s.making
    → model.Heard m ≡ heard_event users (in_the_making s L) s e → HeardLogonIs users (in_the_making s L) e logon
    → ((p : LogonPart) → logon ≡ Some p → length p.fresh ≡ 8)
    → Acted old new r users L d e now q m ready → IsReadied old d m now ready
    → ReadyStep L.keys L.pending m.connection logon now ready → BesideCarried new users L e now q r
by_ready old new r users L s d e m logon now q (readies.Refuse status) making said part eight a i w =
    bare old new r users L e now q (λ h k. a.told) a.logons a.beside
by_ready old new r users L s d e m logon now q (readies.Give body) making said part eight a i w =
    bare old new r users L e now q (λ h k. a.told) a.logons a.beside
by_ready old new r users L s d e m logon now q (readies.KeepRefusal guid status) making said part eight a i w =
    bare old new r users L e now q (λ h k. a.told) a.logons a.beside
by_ready old new r users L s d e m logon now q (readies.Repeat id) making said part eight a i w =
    bare old new r users L e now q (λ h k. a.told) a.logons a.beside
by_ready old new r users L s d e m logon now q (readies.Attach id) making said part eight a i w =
    bare old new r users L e now q (λ h k. a.told) a.logons a.beside
by_ready old new r users L s d e m logon now q (readies.Make file row) making said part eight a i w =
    bare old new r users L e now q (λ h k. a.told) a.logons a.beside
by_ready old new r users L s d e m logon now q (readies.TurnDown id status) making said part eight a i w =
    bare old new r users L e now q (λ h k. a.told) a.logons a.beside
by_ready old new r users L s d e m logon now q (readies.Tell id body) making said part eight a i w =
    bare old new r users L e now q (λ h k. a.told) a.logons a.beside
by_ready old new r users L s d e m logon now q (readies.Show id last body) making said part eight a i w =
    bare old new r users L e now q (λ h k. a.told) a.logons a.beside
by_ready old new r users L s d e m logon now q (readies.Seek id position) making said part eight a i w =
    bare old new r users L e now q (λ h k. a.told) a.logons a.beside
by_ready old new r users L s d e m logon now q (readies.KeepSlot id index number status) making said part eight a i w =
    bare old new r users L e now q (λ h k. a.told) a.logons a.beside
by_ready old new r users L s d e m logon now q (readies.PutRanges id index number ranges) making said part eight a i w =
    bare old new r users L e now q (λ h k. a.told) a.logons a.beside
by_ready old new r users L s d e m logon now q (readies.Alter id change body acts) making said part eight a i w =
    bare old new r users L e now q (λ h k. a.told) a.logons a.beside
by_ready old new r users L s d e m logon now q (readies.CloseOpen id body) making said part eight a i w =
    bare old new r users L e now q (λ h k. a.told) a.logons a.beside
by_ready old new r users L s d e m logon now q (readies.Setup step) making said part eight a i w =
    by_event old new r users L s d e m logon now q step making said part eight a (step_shown old d m now step i) w
by_ready old new r users L s d e m logon now q (readies.EndSession session quiet) making said part eight a i w =
    bare old new r users L e now q (λ h k. a.told) a.logons a.beside
by_ready old new r users L s d e m logon now q (readies.AddTree pipes) making said part eight a i w =
    bare old new r users L e now q (λ h k. a.told) a.logons a.beside
by_ready old new r users L s d e m logon now q (readies.DropTree opens) making said part eight a i w =
    bare old new r users L e now q (λ h k. a.told) a.logons a.beside

-- ---- any event

-- what is no message is no SESSION_SETUP
unsaid : (users : Users) (L : Logons) (s : model.Server) (e : ServerEvent) (x : model.ServerEvent)
    → x ≡ heard_event users (in_the_making s L) s e → ((m : model.Message) → x ≡ model.Heard m → ⊥)
    → (h : SetupHeard) → e ≡ events.Setup h → ⊥
unsaid users L s e x said none h is = none (setup_message users (in_the_making s L) s h)
    (said ∙ ap (λ (v : ServerEvent). heard_event users (in_the_making s L) s v) is)

abbrev pub EndsOn : model.Server → rules.Ruling → Type 0
EndsOn d (rules.Says m v) = EndsMaking d m v
EndsOn d _ = ⊤

pub record Facts (old new : Tables) (r : Answer) (users : Users) (L : Logons) (s d : model.Server) (e : ServerEvent) (a : Asked)
    (now : ℕ) (p : Prepared) (q : Progress) : Type 0 where
  pub making : d.making ≡ s.making
  pub heard : IsJournaledHeard users L s e a
  pub eight : (x : LogonPart) → part_in a ≡ Some x → length x.fresh ≡ 8
  pub logons : LogonsShown old.sessions L.keys L.pending
  pub beside : BesidePrepared old new r (event_of a) p
  pub told : q ≡ ruled_progress d (prepared_ruling (event_of a) p)
  pub ends : EndsOn d (prepared_ruling (event_of a) p)
  pub able : AbleToRule d (prepared_ruling (event_of a) p)
  pub shown : IsPrepared old d now (event_of a) p
  pub step : PreparedStep L a now p

pub beside_carried : (old new : Tables) (r : Answer) (users : Users) (L : Logons) (s d : model.Server) (e : ServerEvent) (a : Asked)
    (now : ℕ) (p : Prepared) (q : Progress) → Facts old new r users L s d e a now p q → BesideCarried new users L e now q r
beside_carried old new r users L s d e (askings.Says message logon) now (prepared.Says ready) q f =
    by_ready old new r users L s d e (message_of message) logon now q ready f.making f.heard.said f.heard.logon f.eight
    (record { logons = f.logons; beside = f.beside; told = f.told; ends = f.ends; able = f.able }) f.shown f.step
beside_carried old new r users L s d e (askings.Accept connection) now (prepared.Says ready) q f =
    bare old new r users L e now q (λ h k. absurd (unsaid users L s e (model.Accept connection) f.heard.said (λ m i. absurd (cc)) h k))
    f.logons f.beside
beside_carried old new r users L s d e (askings.End connection) now (prepared.Says ready) q f =
    bare old new r users L e now q (λ h k. absurd (unsaid users L s e (model.End connection) f.heard.said (λ m i. absurd (cc)) h k))
    f.logons f.beside
beside_carried old new r users L s d e askings.Stop now (prepared.Says ready) q f =
    bare old new r users L e now q (λ h k. absurd (unsaid users L s e model.Stop f.heard.said (λ m i. absurd (cc)) h k)) f.logons f.beside
beside_carried old new r users L s d e a now (prepared.TakesIn connection) q f = bare old new r users L e now q
    (λ h k. f.told) f.logons f.beside
beside_carried old new r users L s d e a now prepared.TurnsAway q f = bare old new r users L e now q (λ h k. f.told) f.logons f.beside
beside_carried old new r users L s d e a now (prepared.TakesOut connection quiet) q f =
    bare old new r users L e now q (λ h k. f.told) f.logons f.beside
beside_carried old new r users L s d e a now (prepared.TakesAllOut quiet) q f =
    bare old new r users L e now q (λ h k. f.told) f.logons f.beside
