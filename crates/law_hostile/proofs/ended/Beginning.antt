-- Along a repeat run each final response that the server made for a new session began it: the session that the last message before it names
-- isn't made any more, and the one that it names as the one before is over.
use Rattle.std.proofs.Common.{◌≡◌, ℕ, zero, suc, Bool, true, false, ◌||◌, if◌then◌else◌, List, [], ◌∷◌, ◌++◌, ◌⊎◌, inl, inr, refl, sym}
use Rattle.std.proofs.Common.{ap, ◌∙◌, subst, arith, take, Option, Some, None, slice_get, Ok, Err}
use Rattle.law_server.proofs.tables.Logic.{either}
use Rattle.law_server.proofs.tables.Doors.{Finds, by_verdict}
use Rattle.spec_exchange.specs.Status.{success, access_denied, invalid_parameter, user_session_deleted}
use Rattle.spec_exchange.specs.Commands.{Setup, SetupRequest, is_setup, form}
use Rattle.spec_exchange.specs.State.{Server, Message, Heard, Answer}
use Rattle.spec_wire.specs.declared.messages.header.Header.{Header}
use Rattle.spec_commands.specs.CommandOf.{Told}
use Rattle.spec_world.specs.Messages.{header_in}
use Rattle.law_sessions.proofs.sessions.Answers.{Facts}
use Rattle.spec_exchange.specs.Verdict.{Verdict, Refuse}
use Rattle.spec_exchange.specs.Check.{check, owed, formed, has_session}
use Rattle.spec_exchange.specs.Step.{step}
use Rattle.spec_exchange.specs.CheckSetup.{is_new}
use Rattle.spec_exchange.specs.Network.{answer_to}
use Rattle.spec_world.specs.Settings.{WorldSettings, draw, logon_of}
use Rattle.spec_world.specs.Ends.{ServerEnd, Logons, ConnEnd}
use Rattle.spec_world.specs.Logon.{Progress, Stays, Interim, Final, progress, token_in, before_setup}
use Rattle.spec_world.specs.Answering.{Ending, SaidReply, told_each, ending_of, ending_by, first_text}
use Rattle.spec_world.specs.Connection.{Going, step_of, counted_on, said_to, told_of, heard_message}
use Rattle.spec_world.specs.Hearing.{Checked, check_frame}
use Rattle.spec_world.specs.World.{Wires, step_at}
use Rattle.spec_hostile.specs.RepeatRuns.{RepeatWorld, RepeatEvent, Same, Give, UpFrame, is_served, loaded_up, given_up, give_up, repeat_happens}
use Rattle.spec_hostile.specs.SignedFor.{went_at}
use Rattle.law_sessions.specs.sessions.Sessions.{logon_user, user_in, previous_in}
use Rattle.law_sessions.proofs.sessions.Heard.{answered}
use Rattle.law_ties.specs.wire_facts.Fitting.{IsFitting}
use Rattle.law_hostile.specs.loosely.LooseRuns.{shows_user}
use Rattle.law_hostile.specs.loosely.LooseSessions.{IsOver}
use Rattle.law_hostile.specs.ended.Requests.{AsksSession, session_named, previous_named}
use Rattle.law_hostile.proofs.puts.Growing.{none_in}
use Rattle.law_hostile.proofs.puts.Replies.{in_either, wires_loaded}
use Rattle.law_hostile.proofs.ids.Bearing.{bears_one, bears_request}
use Rattle.law_hostile.proofs.dialogs.Lined.{AllPut}
use Rattle.law_hostile.proofs.finals.Fine.{IsDenied, full_denies, Tells, told_by, faulty_stays, heard_fault}
use Rattle.law_hostile.proofs.finals.Replying.{Lone, IsLone, lone_frame, made_are}
use Rattle.law_hostile.proofs.finals.Signing.{made_behind, given_made, same_made, down_made}
use Rattle.law_hostile.proofs.greeted.Greeting.{AllFine}
use Rattle.law_hostile.proofs.setups.Own.{Asks, asks}
use Rattle.law_hostile.proofs.setups.Tokens.{RespReads, own_token_fine}
use Rattle.law_hostile.proofs.replied.Saying.{SaidBy, said_all}
use Rattle.law_hostile.proofs.loosely.Over.{KeepsOver, Stands}
use Rattle.law_hostile.proofs.loosely.Giving.{Steps, step_given}
use Rattle.law_hostile.proofs.ended.Given.{HearsOne, StepsUp, steps_up}
use Rattle.law_hostile.proofs.ended.Moving.{event_moves}
use Rattle.law_hostile.proofs.ended.Knowing.{Known, NoneOrKnown, PreviousKnown, known_kept}
use Rattle.law_hostile.proofs.ended.Asking.{BodyTells, HearsSetup, hears_setup}
use Rattle.law_hostile.proofs.ended.Begun.{begun_known, begun_over, own_user, own_previous}
use Rattle.law_hostile.proofs.ended.Final.{setup_final, begins_at_final}

-- ---- what is kept

pub record BeginsBy (z : WorldSettings) (s : Server) (m : List ℕ) : Type 0 where
  pub session : Known z s (session_named m)
  pub previous : (previous_named m ≡ 0) ⊎ IsOver s (previous_named m)

-- of the last of these messages, where it asks for a session
abbrev pub LastHas : (List ℕ → Type 0) → List (List ℕ) → Type 0
LastHas P ts = (front : List (List ℕ)) (last : List ℕ) → ts ≡ front ++ last ∷ [] → AsksSession last → P last

abbrev pub AllLast : (List ℕ → Type 0) → List Ending → Type 0
AllLast P made = (i : ℕ) (e : Ending) → slice_get made i ≡ Some e → LastHas P e.transcript

abbrev pub AllBegun : WorldSettings → Server → List Ending → Type 0
AllBegun z s made = AllLast (BeginsBy z s) made

over_kept : (s u : Server) (x : ℕ) → KeepsOver s u → (x ≡ 0) ⊎ IsOver s x → (x ≡ 0) ⊎ IsOver u x
over_kept s u x k (inl e) = inl e
over_kept s u x k (inr o) = inr (k.over x o)

begun_kept : (z : WorldSettings) (s u : Server) (made : List Ending) → KeepsOver s u → AllBegun z s made → AllBegun z u made
begun_kept z s u made k all i e at front last is a =
    let b = all i e at front last is a in
    record {
      session = known_kept z s u (session_named last) k b.session;
      previous = over_kept s u (previous_named last) k b.previous;
    }

pub none_last : (P : List ℕ → Type 0) → AllLast P []
none_last P i e at = absurd (none_in [] i e refl at)

pub both_last : (P : List ℕ → Type 0) (made more : List Ending) → AllLast P made → AllLast P more → AllLast P (made ++ more)
both_last P made more a b i e at = by (in_either made more i e at)
  where
    by : ((m : ℕ) × (slice_get made m ≡ Some e)) ⊎ ((m : ℕ) × (slice_get more m ≡ Some e)) → LastHas P e.transcript
    by (inl m) = a m.0 e m.1
    by (inr m) = b m.0 e m.1

-- ---- the last one of a list

last_of : List (List ℕ) → Option (List ℕ)
last_of [] = None
last_of (x ∷ []) = Some x
last_of (x ∷ y ∷ ys) = last_of (y ∷ ys)

last_behind : (xs : List (List ℕ)) (x : List ℕ) → last_of (xs ++ x ∷ []) ≡ Some x
unfolding last_of
last_behind [] x = refl
last_behind (y ∷ []) x = refl
last_behind (y ∷ w ∷ xs) x = last_behind (w ∷ xs) x

same_last : (xs ys : List (List ℕ)) (x y : List ℕ) → xs ++ x ∷ [] ≡ ys ++ y ∷ [] → x ≡ y
same_last xs ys x y e =
    let q : Some x ≡ Some y = sym (last_behind xs x) ∙ (ap last_of e ∙ last_behind ys y) in
    cc

last_begins : (P : List ℕ → Type 0) (before : List (List ℕ)) (raw : List ℕ) → (AsksSession raw → P raw) → LastHas P (before ++ raw ∷ [])
last_begins P before raw h front last is a =
    let same : raw ≡ last = same_last before front raw last is in
    subst P same (h (subst AsksSession (sym same) a))

-- ---- a SESSION_SETUP that doesn't read isn't answered with success

unread_check : (s : Server) (m : Message) (request : SetupRequest) → m.command ≡ Setup request → request.readable ≡ false → m.fault ≡ None
    → IsDenied invalid_parameter (check s m)
unread_check s m request e off none =
    either (IsDenied invalid_parameter) (is_setup m.command || has_session s m) (owed s m m.fault) (Refuse user_session_deleted)
    (λ _. inl (ap (owed s m) none ∙ ap (formed s m) (ap form e ∙ ap (λ b. if b then None else Some invalid_parameter) off))) (λ _. inr refl)

unread_found : (t : Server) (m : Message) (request : SetupRequest) (v : Verdict) → m.command ≡ Setup request → request.readable ≡ false
    → m.fault ≡ None → Finds t m v → IsDenied invalid_parameter v
unread_found t m request v e off none (inl q) = subst (IsDenied invalid_parameter) (sym q) (unread_check t m request e off none)
unread_found t m request v e off none (inr q) =
    subst (IsDenied invalid_parameter) (sym q) (full_denies invalid_parameter (check t m) (unread_check t m request e off none))

unread_step : (s : Server) (now : ℕ) (m : Message) (request : SetupRequest) → m.command ≡ Setup request → request.readable ≡ false
    → m.fault ≡ None → (let A = step s now (Heard m) in Tells invalid_parameter A.reply)
unread_step s now m request e off none =
    by_verdict (λ A. Tells invalid_parameter A.reply) s now m
    (λ t v records before finds. told_by t m now v records invalid_parameter (unread_found t m request v e off none finds))

pub unread_not : (s : Server) (now : ℕ) (m : Message) (request : SetupRequest) → m.command ≡ Setup request → request.readable ≡ false
    → m.fault ≡ None → (answer_to s now m m.command).reply.status ≡ success → ⊥
unread_not s now m request e off none ok =
    by (unread_step s now m request e off none) (sym (ap (λ c. (answer_to s now m c).reply.status) e) ∙ ok)
  where
    by : (let A = step s now (Heard m) in Tells invalid_parameter A.reply) → (step s now (Heard m)).reply.status ≡ success → ⊥
    by (inl q) is = absurd (let h : invalid_parameter ≡ success = sym q ∙ is in omega (arith, h))
    by (inr q) is = absurd (let h : user_session_deleted ≡ success = sym q ∙ is in omega (arith, h))

-- ---- one message

stays_not : (p : Progress) (binding : Bool) (channel : ℕ) (encrypts : Bool) → p ≡ Stays → p ≡ Final binding channel encrypts → ⊥
stays_not Stays binding channel encrypts e f = absurd (cc)
stays_not (Interim b) binding channel encrypts e f = absurd (cc)
stays_not (Final b c n) binding channel encrypts e f = absurd (cc)

same_message : (x y : Message) → Some x ≡ Some y → x ≡ y
same_message x y e = cc

same_checked : (a b : Checked) → a ∷ [] ≡ b ∷ [] → a ≡ b
same_checked a b e = cc

-- it has no fault where its answer is final
pub no_fault : (s : Server) (now : ℕ) (m : Message) (binding : Bool) (channel : ℕ) (encrypts : Bool)
    → (m.fault ≡ None) ⊎ (m.fault ≡ Some access_denied)
    → progress m.command (answer_to s now m m.command).reply ≡ Final binding channel encrypts → m.fault ≡ None
no_fault s now m binding channel encrypts (inl none) is = none
no_fault s now m binding channel encrypts (inr denied) is =
    absurd (stays_not (progress m.command (answer_to s now m m.command).reply) binding channel encrypts (faulty_stays s now m denied) is)

fault_from : (c d : Checked) (m : Message) → d ≡ c → (d.fault ≡ None) ⊎ (d.fault ≡ Some access_denied) → c.fault ≡ m.fault
    → (m.fault ≡ None) ⊎ (m.fault ≡ Some access_denied)
fault_from c d m same (inl none) e = inl (sym e ∙ (sym (ap (λ (x : Checked). x.fault) same) ∙ none))
fault_from c d m same (inr denied) e = inr (sym e ∙ (sym (ap (λ (x : Checked). x.fault) same) ∙ denied))

pub read_body : (t : Told) (b : List ℕ) (h : Header) (s : Server) (now : ℕ) (m : Message) (request : SetupRequest) → m.command ≡ Setup request
    → (request.readable ≡ false) ⊎ BodyTells t b request → m.fault ≡ None → (answer_to s now m m.command).reply.status ≡ success
    → BodyTells t b request
read_body t b h s now m request e (inl off) none ok = absurd (unread_not s now m request e off none ok)
read_body t b h s now m request e (inr tells) none ok = tells

known_over : (z : WorldSettings) (s : Server) (m : Message) (A : Answer) (x : ℕ) (f : Facts s m A) → f.begins ≡ true
    → user_in m.command ≡ logon_user (logon_of z) → previous_in m.command ≡ x → NoneOrKnown z s x → (x ≡ 0) ⊎ IsOver A.server x
known_over z s m A x f on user e (inl none) = inl none
known_over z s m A x f on user e (inr known) =
    inr (subst (IsOver A.server) e (begun_over z s m A f on user (subst (Known z s) (sym e) known)))

-- the request that is heard of a frame
pub record HeardOf (z : WorldSettings) (r : RepeatWorld) (k : ℕ) (u : UpFrame) (h : HearsOne z r k u) : Type 0 where
  pub request : SetupRequest
  pub command : (let m = h.message in m.command ≡ Setup request)
  pub body : (request.readable ≡ false) ⊎ BodyTells (told_of z.server r.world.logons k h.frame.server_end h.checked) u.frame request
  pub session : (let m = h.message in m.session_id ≡ session_named u.frame)
  pub fault : (let m = h.message in (m.fault ≡ None) ⊎ (m.fault ≡ Some access_denied))
  pub shows : BodyTells (told_of z.server r.world.logons k h.frame.server_end h.checked) u.frame request
      → shows_user (logon_user (logon_of z)) request.shows ≡ true

pub heard_of : RespReads → (z : WorldSettings) (r : RepeatWorld) (k i : ℕ) (u : UpFrame) → IsFitting z → AllFine z r → slice_get r.ups i ≡ Some u
    → (h : HearsOne z r k u) → (header_in u.frame).command ≡ 1 → HeardOf z r k u h
heard_of reads z r k i u fitting fine at h one =
    let c = h.checked in
    let L = r.world.logons in
    let f = h.frame.server_end in
    let t = told_of z.server L k f c in
    let bare = fine.1.ups i u at in
    let bears = fine.0.bear i u at in
    let alone = bears_one z u.connection u.frame u.sent.message bare bears in
    let own = bears_request z u.connection u.frame u.sent.message bare bears in
    let bytes : c.bytes ≡ u.frame = ap (λ (d : Checked). d.bytes) h.is in
    let number : c.header.command ≡ 1 = ap (λ (d : Checked). d.header.command) h.is ∙ one in
    let lone : IsLone h.frame =
    subst Lone h.checks (lone_frame (r.world.wires k).server_end u.frame bare alone.alone) in
    let s : HearsSetup t c.bytes c.header h.message = hears_setup z.server L k f c h.message h.heard number in
    let asked : Asks z u.frame = asks z u.frame u.sent.message own.meant one in
    record {
      request = s.request;
      command = s.command;
      body = subst (λ b. (s.request.readable ≡ false) ⊎ BodyTells t b s.request) bytes s.body;
      session = s.session ∙ ap (λ (d : Checked). d.header.session) h.is;
      fault = fault_from c lone.message h.message (same_checked lone.message c (sym lone.messages ∙ h.alone)) lone.fault
          (heard_fault z.server L k f c h.message h.heard);
      shows = λ tells. ap (shows_user (logon_user (logon_of z))) tells.shows
          ∙ own_token_fine reads z (L.pending k) (token_in u.frame) fitting asked.token;
    }

-- where its answer is final
abbrev pub FinalHas : (List ℕ → Type 0) → Server → ℕ → Message → List ℕ → Type 0
FinalHas P s now m raw =
    (binding : Bool) (channel : ℕ) (encrypts : Bool)
    → progress m.command (answer_to s now m m.command).reply ≡ Final binding channel encrypts → AsksSession raw → P raw

abbrev FinalBegins : WorldSettings → Server → ℕ → Message → List ℕ → Type 0
FinalBegins z s now m raw = FinalHas (BeginsBy z (answer_to s now m m.command).server) s now m raw

final_begins : RespReads → (z : WorldSettings) (r : RepeatWorld) (k i : ℕ) (u : UpFrame) → IsFitting z → AllFine z r → Stands r.world.values
    → slice_get r.ups i ≡ Some u → AllPut (PreviousKnown z r.world.values.server) r.ups → (h : HearsOne z r k u)
    → FinalBegins z r.world.values.server r.world.values.moment h.message u.frame
final_begins reads z r k i u fitting fine stands at known h binding channel encrypts is a =
    let s = r.world.values.server in
    let now = r.world.values.moment in
    let m = h.message in
    let A = answer_to s now m m.command in
    let q : HeardOf z r k u h = heard_of reads z r k i u fitting fine at h a.command in
    let none : m.fault ≡ None = no_fault s now m binding channel encrypts q.fault is in
    let final = setup_final q.request.binding binding A.reply channel encrypts (sym (ap (λ d. progress d A.reply) q.command) ∙ is) in
    let t = told_of z.server r.world.logons k h.frame.server_end h.checked in
    let tells : BodyTells t u.frame q.request =
    read_body t u.frame (header_in u.frame) s now m q.request q.command q.body none final.0 in
    let new : binding ≡ false = sym final.1 ∙ (tells.binding ∙ a.flags) in
    let facts = answered s now m m.command refl in
    let on : facts.begins ≡ true =
    begins_at_final s now m channel encrypts none (is ∙ ap (λ b. Final b channel encrypts) new) in
    let enters = facts.enters on in
    let user = own_user (logon_user (logon_of z)) m.command q.request q.command (q.shows tells) enters.logs in
    let previous : previous_in m.command ≡ previous_named u.frame = own_previous m.command q.request q.command ∙ tells.previous in
    record {
      session = subst (Known z A.server) q.session (begun_known z s m A stands.fits.0 facts on user);
      previous = known_over z s m A (previous_named u.frame) facts on user previous (known i u at (fine.1.ups i u at) a);
    }

-- the session that it begins was in the making
pub final_new : RespReads → (z : WorldSettings) (r : RepeatWorld) (k i : ℕ) (u : UpFrame) → IsFitting z → AllFine z r → slice_get r.ups i ≡ Some u
    → (h : HearsOne z r k u)
    → (let m = h.message in
    FinalHas (λ raw. is_new (session_named raw) (r.world.values.server.making m.connection) ≡ true) r.world.values.server
    r.world.values.moment m u.frame)
final_new reads z r k i u fitting fine at h binding channel encrypts is a =
    let s = r.world.values.server in
    let now = r.world.values.moment in
    let m = h.message in
    let A = answer_to s now m m.command in
    let q : HeardOf z r k u h = heard_of reads z r k i u fitting fine at h a.command in
    let none : m.fault ≡ None = no_fault s now m binding channel encrypts q.fault is in
    let final = setup_final q.request.binding binding A.reply channel encrypts (sym (ap (λ d. progress d A.reply) q.command) ∙ is) in
    let t = told_of z.server r.world.logons k h.frame.server_end h.checked in
    let tells : BodyTells t u.frame q.request =
    read_body t u.frame (header_in u.frame) s now m q.request q.command q.body none final.0 in
    let new : binding ≡ false = sym final.1 ∙ (tells.binding ∙ a.flags) in
    let facts = answered s now m m.command refl in
    let enters = facts.enters (begins_at_final s now m channel encrypts none (is ∙ ap (λ b. Final b channel encrypts) new)) in
    subst (λ x. is_new x (s.making m.connection) ≡ true) q.session enters.made

-- ---- what is made of its answer

one_begun : (P : List ℕ → Type 0) (f : ServerEnd) (r : SaidReply) (text : List ℕ) (p : Progress)
    → ((binding : Bool) (channel : ℕ) (encrypts : Bool) → p ≡ Final binding channel encrypts → AsksSession r.request.raw → P r.request.raw)
    → AllLast P (ending_by false f r text p ++ [])
one_begun P f r text Stays h = none_last P
one_begun P f r text (Interim binding) h = none_last P
one_begun P f r text (Final binding channel encrypts) h = by
  where
    by : AllLast P (ending_of f r text ∷ [])
    by zero e at =
        let q : Some (ending_of f r text) ≡ Some e = at in
        let same : ending_of f r text ≡ e = cc in
        subst (λ (x : Ending). LastHas P x.transcript) same
        (last_begins P (before_setup f) r.request.raw (h binding channel encrypts refl))
    by (suc i) e at = absurd (none_in [] i e refl at)

told_begun : (P : List ℕ → Type 0) (z : WorldSettings) (f : ServerEnd) (g : Going) (n : ℕ) (texts : List (List ℕ)) (k now : ℕ) (fresh : List ℕ)
    (h : ServerEnd) (s : Server) (L : Logons) (c : Checked) (m : Message) (rs : List SaidReply) → heard_message z.server L k h c ≡ Some m
    → FinalHas P s now m c.raw → (rs ≡ []) ⊎ SaidBy z.server k now fresh h s L c rs
    → AllLast P (told_each false (counted_on f false g n) rs texts).endings
unfolding told_each
told_begun P z f g n texts k now fresh h s L c m rs heard final (inl none) =
    subst (λ l. AllLast P (told_each false (counted_on f false g n) l texts).endings) (sym none) (none_last P)
told_begun P z f g n texts k now fresh h s L c m rs heard final (inr b) =
    let same : b.message ≡ m = same_message b.message m (sym b.heard ∙ heard) in
    subst (λ l. AllLast P (told_each false (counted_on f false g n) l texts).endings) (sym b.is)
    (subst (λ (x : Message). AllLast P (told_each false (counted_on f false g n)
    (said_to z.server k now fresh h L h.window c x.command (answer_to s now x x.command) ∷ []) texts).endings) (sym same)
    (one_begun P (counted_on f false g n) (said_to z.server k now fresh h L h.window c m.command (answer_to s now m m.command))
    (first_text texts) (progress m.command (answer_to s now m m.command).reply) final))

-- what it made, where each that is final has P
pub heard_last : (P : List ℕ → Type 0) (z : WorldSettings) (r : RepeatWorld) (k : ℕ) (u : UpFrame) → (h : HearsOne z r k u)
    → FinalHas P r.world.values.server r.world.values.moment h.message u.frame
    → (let S = step_at z (loaded_up r k u) k u.frame in AllLast P S.made)
heard_last P z r k u h final =
    let w = loaded_up r k u in
    let s = r.world.values.server in
    let now = r.world.values.moment in
    let m = h.message in
    let x = h.frame in
    let ok : check_frame (w.wires k).server_end u.frame ≡ Ok x =
    ap (λ (v : Wires). check_frame v.server_end u.frame) (wires_loaded r k u) ∙ h.checks in
    let q = made_are z w k u.frame x ok h.plain in
    let raw : h.checked.raw ≡ u.frame = ap (λ (d : Checked). d.raw) h.is in
    let fresh = take 8 (draw z.seed w.draws) in
    subst (AllLast P) (sym q.2)
    (told_begun P z x.server_end (went_at z w k x) q.0 q.1 k now fresh x.server_end s r.world.logons h.checked m (went_at z w k x).replies h.heard
    (subst (FinalHas P s now m) (sym raw) final)
    (said_all z.server k now fresh x.server_end s r.world.logons x.messages h.checked h.alone))

heard_begun : RespReads → (z : WorldSettings) (r : RepeatWorld) (k i : ℕ) (u : UpFrame) → IsFitting z → AllFine z r → Stands r.world.values
    → slice_get r.ups i ≡ Some u → AllPut (PreviousKnown z r.world.values.server) r.ups → (h : HearsOne z r k u)
    → (let S = step_at z (loaded_up r k u) k u.frame in
    AllBegun z (answer_to r.world.values.server r.world.values.moment h.message h.message.command).server S.made)
heard_begun reads z r k i u fitting fine stands at known h =
    heard_last (BeginsBy z (answer_to r.world.values.server r.world.values.moment h.message h.message.command).server) z r k u h
    (final_begins reads z r k i u fitting fine stands at known h)

-- ---- each event

abbrev pub Begun : WorldSettings → RepeatWorld → Type 0
Begun z r = AllBegun z r.world.values.server r.world.made

pub ended_made : (z : WorldSettings) (r : RepeatWorld) (k : ℕ) (u : UpFrame) (why : ConnEnd) → is_served r.world k ≡ true
    → check_frame (r.world.wires k).server_end u.frame ≡ Err why → (given_up z r k u).world.made ≡ r.world.made
ended_made z r k u why on e =
    let w = loaded_up r k u in
    let S = step_at z w k u.frame in
    let bad : check_frame (w.wires k).server_end u.frame ≡ Err why =
    ap (λ (v : Wires). check_frame v.server_end u.frame) (wires_loaded r k u) ∙ e in
    let ends : S.ends ≡ Some why =
    ap (λ q. (step_of z.server k w.values.moment (take 8 (draw z.seed w.draws)) w.values.server w.logons (w.wires k).server_end q).ends) bad in
    given_made z r k u on ∙ ap (made_behind r.world.made S) ends

pub heard_made : (z : WorldSettings) (r : RepeatWorld) (k : ℕ) (u : UpFrame) → is_served r.world k ≡ true → (h : HearsOne z r k u)
    → (let S = step_at z (loaded_up r k u) k u.frame in (given_up z r k u).world.made ≡ r.world.made ++ S.made)
heard_made z r k u on h =
    let S = step_at z (loaded_up r k u) k u.frame in
    let q : Steps S h.message (answer_to r.world.values.server r.world.values.moment h.message h.message.command) =
    step_given z r k u h.frame h.checked h.message h.checks h.plain h.alone h.heard in
    given_made z r k u on ∙ ap (made_behind r.world.made S) q.ends

up_begun : RespReads → (z : WorldSettings) (r : RepeatWorld) (k i : ℕ) (u : UpFrame) → IsFitting z → AllFine z r → Stands r.world.values
    → slice_get r.ups i ≡ Some u → AllPut (PreviousKnown z r.world.values.server) r.ups → is_served r.world k ≡ true
    → KeepsOver r.world.values.server (given_up z r k u).world.values.server → Begun z r → Begun z (given_up z r k u)
up_begun reads z r k i u fitting fine stands at known on over old =
    let v = given_up z r k u in
    let kept : AllBegun z v.world.values.server r.world.made =
    begun_kept z r.world.values.server v.world.values.server r.world.made over old in
    by kept (steps_up z r k i u fine at on)
  where
    by : AllBegun z (given_up z r k u).world.values.server r.world.made → StepsUp z r k u → Begun z (given_up z r k u)
    by kept (inl q) = subst (AllBegun z (given_up z r k u).world.values.server) (sym (ended_made z r k u q.0 on q.1)) kept
    by kept (inr h) =
        let v = given_up z r k u in
        let S = step_at z (loaded_up r k u) k u.frame in
        let t = h.took in
        subst (AllBegun z v.world.values.server) (sym (heard_made z r k u on h))
        (both_last (BeginsBy z v.world.values.server) r.world.made S.made kept
        (subst (λ a. AllBegun z a S.made) (sym t.server) (heard_begun reads z r k i u fitting fine stands at known h)))

give_up_begun : RespReads → (z : WorldSettings) (r : RepeatWorld) (k i : ℕ) (o : Option UpFrame) → slice_get r.ups i ≡ o → IsFitting z
    → AllFine z r → Stands r.world.values → AllPut (PreviousKnown z r.world.values.server) r.ups
    → KeepsOver r.world.values.server (give_up z r k o).world.values.server → Begun z r → Begun z (give_up z r k o)
give_up_begun reads z r k i None at fitting fine stands known over old = old
give_up_begun reads z r k i (Some u) at fitting fine stands known over old = by (is_served r.world k) refl over
  where
    by : (b : Bool) → is_served r.world k ≡ b
        → KeepsOver r.world.values.server (if b then given_up z r k u else r).world.values.server → Begun z (if b then given_up z r k u else r)
    by true on keeps = up_begun reads z r k i u fitting fine stands at known on keeps old
    by false off keeps = old

pub event_begun : RespReads → (z : WorldSettings) (r : RepeatWorld) (e : RepeatEvent) → IsFitting z → AllFine z r → Stands r.world.values
    → AllPut (PreviousKnown z r.world.values.server) r.ups → Begun z r → Begun z (repeat_happens z r e)
event_begun reads z r (Same e) fitting fine stands known old =
    let v = repeat_happens z r (Same e) in
    let m = event_moves z r (Same e) fine stands in
    subst (AllBegun z v.world.values.server) (sym (same_made z r e))
    (begun_kept z r.world.values.server v.world.values.server r.world.made m.over old)
event_begun reads z r (Give k true place) fitting fine stands known old =
    let m = event_moves z r (Give k true place) fine stands in
    give_up_begun reads z r k place (slice_get r.ups place) refl fitting fine stands known m.over old
event_begun reads z r (Give k false place) fitting fine stands known old =
    let v = repeat_happens z r (Give k false place) in
    let m = event_moves z r (Give k false place) fine stands in
    subst (AllBegun z v.world.values.server) (sym (down_made z r k (slice_get r.downs place)))
    (begun_kept z r.world.values.server v.world.values.server r.world.made m.over old)
