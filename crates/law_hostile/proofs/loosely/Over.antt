-- A session that is over stays so: no step of the server makes one of an id that it gave before.
use Rattle.std.proofs.Common.{◌≡◌, ◌≢◌, ℕ, ◌+◌, ◌≤◌, Bool, true, false, if◌then◌else◌, List, [], ◌∷◌, ◌++◌, refl, sym, ap, ◌∙◌, subst, arith}
use Rattle.law_server.proofs.tables.Logic.{either}
use Rattle.spec_exchange.specs.State.{Server, Message, Answer, Reply}
use Rattle.spec_exchange.specs.CheckSetup.{is_new}
use Rattle.spec_exchange.specs.Opens.{id_of, max_ids}
use Rattle.spec_exchange.specs.Client.{Client}
use Rattle.spec_exchange.specs.ClientStep.{Act, Nothing, Sends, Asks, CloseChannel, CloseChannels, AllSettled, Pushes, IsCut, IsReady, Hears as HearsReply}
use Rattle.spec_exchange.specs.ClientStep.{act, client_after}
use Rattle.spec_exchange.specs.Dialogs.{DialogStep, GoesOn, Accepts, Binds, Readies, Refuses, dialog_step}
use Rattle.spec_exchange.specs.Network.{World, Event, Submit, Open, Push, Serve, Take, Cut, Drop, Restart, Crash, Wait, Finish, Sent, Received}
use Rattle.spec_exchange.specs.Network.{Token, ForDialog, ForOp, ForAttach, start, happens, changed, later, moments, is_possible, may_serve}
use Rattle.spec_exchange.specs.Network.{pushed_by, serve_front, absorb_front, take_reply, took_by, dialog_took, closed_by, cut_by, behind_reply}
use Rattle.spec_exchange.specs.Network.{restarted, answer}
use Rattle.law_records.specs.recovery.Restarted.{Restarted}
use Rattle.law_records.proofs.recovery.Restarts.{restarted as restarted_by}
use Rattle.law_sessions.proofs.sessions.Answers.{Facts}
use Rattle.law_sessions.proofs.sessions.Heard.{answered}
use Rattle.law_sessions.proofs.sessions.Connected.{Falls, falls_accept, falls_end}
use Rattle.law_hostile.specs.loosely.LooseRuns.{LooseEvent, Meets, Loses, Overtakes, Hears, may_hear, heard_apart, loose_happens, loose_run}
use Rattle.law_hostile.specs.loosely.LooseSessions.{NoMoreMade, IsOver, SessionsStayOver}
use Rattle.law_records.specs.recovery.Recovers.{RecordRecovers}
use Rattle.law_records.proofs.recovery.Worlds.{keeps as records_keep}
use Rattle.law_server.proofs.tables.Run.{ServerFits, holds_behind}
use Rattle.law_hostile.proofs.loosely.Staying.{Held}
use Rattle.law_hostile.proofs.loosely.Runs.{loose_after, event_keeps, held}

-- ---- what a step does to such sessions

pub record KeepsOver (s u : Server) : Type 0 where
  pub made : (x : ℕ) → NoMoreMade s x → NoMoreMade u x
  pub over : (x : ℕ) → IsOver s x → IsOver u x
  pub users : (x : ℕ) → NoMoreMade s x → u.present x ≡ true → (s.present x ≡ true) × (u.user x ≡ s.user x)

pub keeps_self : (s : Server) → KeepsOver s s
keeps_self s = record { made = λ x i. i; over = λ x i. i; users = λ x i p. (p, refl) }

pub same_keeps : (s u : Server) → u ≡ s → KeepsOver s u
same_keeps s u e = subst (λ t. KeepsOver s t) (sym e) (keeps_self s)

pub refuted : (b : Bool) → (b ≡ true → b ≡ false) → b ≡ false
refuted true f = f refl
refuted false f = refl

pub never : (b : Bool) → b ≡ false → b ≡ true → (P : Type 0) → P
never b e f P = absurd (let q : true ≡ false = sym f ∙ e in cc)

-- ---- an answer

more_given : (e d n b x : ℕ) → d ≡ e → b ≡ n + 1 → x ≤ id_of e n → x ≤ id_of d b
more_given e d n b x a c l = omega (arith, a, c, l)

same_given : (e d n b x : ℕ) → d ≡ e → b ≡ n → x ≤ id_of e n → x ≤ id_of d b
same_given e d n b x a c l = omega (arith, a, c, l)

not_next : (e n y : ℕ) → y ≤ id_of e n → y ≢ id_of e (n + 1)
not_next e n y l = omega (arith, l)

pub given_on : (s : Server) (m : Message) (A : Answer) (x : ℕ) → Facts s m A → x ≤ id_of s.epoch s.session_ids_given
    → x ≤ id_of A.server.epoch A.server.session_ids_given
given_on s m A x f l = by f.challenges refl
  where
    by : (b : Bool) → f.challenges ≡ b → x ≤ id_of A.server.epoch A.server.session_ids_given
    by true e = more_given s.epoch A.server.epoch s.session_ids_given A.server.session_ids_given x f.epoch (f.counted e).0 l
    by false e = same_given s.epoch A.server.epoch s.session_ids_given A.server.session_ids_given x f.epoch (f.uncounted e).0 l

pub made_on : (s : Server) (m : Message) (A : Answer) (x : ℕ) → Facts s m A → NoMoreMade s x → NoMoreMade A.server x
made_on s m A x f i =
    record {
      given = given_on s m A x f i.given;
      unmade = λ k. refuted (is_new x (A.server.making k)) (λ h. never (is_new x (s.making k)) (i.unmade k)
          (f.making k x h (λ _. not_next s.epoch s.session_ids_given x i.given)) _);
    }

pub answered_over : (s : Server) (now : ℕ) (m : Message) (A : Answer) → Facts s m A → KeepsOver s A.server
answered_over s now m A f =
    record {
      made = λ x i. made_on s m A x f i;
      over = λ x i. record {
        made = made_on s m A x f i.made;
        absent = refuted (A.server.present x) (λ h. never (s.present x) i.absent (f.present x h (λ b. other x i.made b)) _);
      };
      users = λ x i p. (f.present x p (λ b. other x i b), f.users x p (λ b. other x i b));
    }
  where
    other : (x : ℕ) → NoMoreMade s x → f.begins ≡ true → x ≢ m.session_id
    other x i b = λ e. (
        let w = f.enters b in
        never (is_new x (s.making m.connection)) (i.unmade m.connection)
        (subst (λ y. is_new y (s.making m.connection) ≡ true) (sym e) w.made) _)

-- ---- a session that ends, and a restart

falls_over : (s u : Server) → Falls s u → KeepsOver s u
falls_over s u f =
    record {
      made = λ x i. of_made x i;
      over = λ x i. record {
        made = of_made x i.made;
        absent = refuted (u.present x) (λ h. never (s.present x) i.absent (f.present x h) _);
      };
      users = λ x i p. (f.present x p, ap (λ g. g x) f.user);
    }
  where
    of_made : (x : ℕ) → NoMoreMade s x → NoMoreMade u x
    of_made x i = record {
      given = same_given s.epoch u.epoch s.session_ids_given u.session_ids_given x f.epoch f.session_ids_given i.given;
      unmade = λ k. refuted (is_new x (u.making k)) (λ h. never (is_new x (s.making k)) (i.unmade k) (f.making k x h) _);
    }

next_epoch : (e d n b x : ℕ) → d ≡ e + 1 → n ≤ max_ids → x ≤ id_of e n → x ≤ id_of d b
next_epoch e d n b x a few l = omega (arith, a, few, l)

restart_over : (s u : Server) → s.session_ids_given ≤ max_ids → Restarted s u → KeepsOver s u
restart_over s u few r =
    record {
      made = λ x i. of_made x i;
      over = λ x i. record { made = of_made x i.made; absent = r.bare.absent x };
      users = λ x i p. absurd (let h : true ≡ false = sym p ∙ r.bare.absent x in cc);
    }
  where
    of_made : (x : ℕ) → NoMoreMade s x → NoMoreMade u x
    of_made x i = record {
      given = next_epoch s.epoch u.epoch s.session_ids_given u.session_ids_given x r.epoch few i.given;
      unmade = λ k. ap (is_new x) (r.bare.unmade k);
    }

-- ---- each event

abbrev Over : World → World → Type 0
Over w v = KeepsOver w.server v.server

pushed_same : (w : World) (k : ℕ) (c : Client) (x : Act) → (pushed_by w k c x).server ≡ w.server
pushed_same w k c Nothing = refl
pushed_same w k c (Sends g) = refl
pushed_same w k c (Asks g) = refl
pushed_same w k c CloseChannel = refl
pushed_same w k c CloseChannels = refl
pushed_same w k c AllSettled = refl

pub closed_same : (w : World) (k : ℕ) (x : Act) → (closed_by w k x).server ≡ w.server
closed_same w k Nothing = refl
closed_same w k (Sends g) = refl
closed_same w k (Asks g) = refl
closed_same w k CloseChannel = refl
closed_same w k CloseChannels = refl
closed_same w k AllSettled = refl

cut_same : (w : World) (k : ℕ) (x : Act) → (cut_by w k x).server ≡ w.server
cut_same w k Nothing = refl
cut_same w k (Sends g) = refl
cut_same w k (Asks g) = refl
cut_same w k CloseChannel = refl
cut_same w k CloseChannels = refl
cut_same w k AllSettled = refl

pub dialog_same : (w : World) (k : ℕ) (r : Reply) (d : DialogStep) → (dialog_took w k r d).server ≡ w.server
dialog_same w k r (GoesOn stage) = refl
dialog_same w k r Accepts = refl
dialog_same w k r Binds = closed_same w k (act w.client (IsReady k w.client.session w.client.tree))
dialog_same w k r Readies = closed_same w k (act w.client (IsReady k w.client.pending r.tree_id))
dialog_same w k r (Refuses status) = closed_same w k CloseChannel

token_same : (w : World) (k : ℕ) (r : Reply) (place : ℕ) (t : Token) → (took_by w k r place t).server ≡ w.server
token_same w k r place ForDialog = dialog_same w k r (dialog_step (w.client.stage k) r.status)
token_same w k r place (ForOp g) = closed_same w k (act w.client (HearsReply k g false r place))
token_same w k r place (ForAttach g) = closed_same w k (act w.client (HearsReply k g true r place))

take_same : (w : World) (k : ℕ) (ys : List Received) → (take_reply w k ys).server ≡ w.server
take_same w k [] = refl
take_same w k (y ∷ rest) = token_same (behind_reply w k rest) k y.reply y.place y.token

pub cut_off_same : (w : World) (k : ℕ) → (changed w (Cut k)).server ≡ w.server
cut_off_same w k =
    either (λ (v : World). v.server ≡ w.server) (w.client.ready k) _ _ (λ _. cut_same w k (act w.client (IsCut k))) (λ _. refl)

serve_over : (w : World) (k : ℕ) (xs : List Sent) → Over w (serve_front w k xs)
serve_over w k [] = keeps_self w.server
serve_over w k (x ∷ rest) =
    answered_over w.server w.moment x.message (answer w x) (answered w.server w.moment x.message x.message.command refl)

absorb_over : (w : World) (k : ℕ) (xs : List Sent) → Over w (absorb_front w k xs)
absorb_over w k [] = keeps_self w.server
absorb_over w k (x ∷ rest) =
    answered_over w.server w.moment x.message (answer w x) (answered w.server w.moment x.message x.message.command refl)

-- what is known of the server: its tables fit together, and its records stand for it
pub record Stands (w : World) : Type 0 where
  pub fits : ServerFits w
  pub recorded : RecordRecovers w.records w.server

pub stands_of : (share : List ℕ) (w : World) (a : ℕ → ℕ) → Held share w a → Stands w
stands_of share w a i = let c = i.core in record { fits = c.fits; recorded = c.recorded }

pub stands_on : (w : World) (e : Event) → Stands w → Stands (happens w e)
stands_on w e i =
    record {
      fits = holds_behind w e i.fits;
      recorded = records_keep w e i.fits.0 (λ x. (holds_behind w x i.fits).0) i.recorded;
    }

-- of the server behind an absorbed front, which is the one behind a serve
record Behind (u : World) : Type 0 where
  few : u.server.session_ids_given ≤ max_ids
  anew : Restarted u.server (restarted u).server

behind_absorbed : (w : World) (k : ℕ) (xs : List Sent) → Behind (serve_front w k xs) → Behind (absorb_front w k xs)
behind_absorbed w k [] h = h
behind_absorbed w k (x ∷ rest) h = record { few = h.few; anew = h.anew }

behind_of : (v : World) → Stands v → Behind v
behind_of v i = record { few = i.fits.0.begun; anew = restarted_by v.server v.records i.recorded }

if_true : {X : Type 0} (b : Bool) (x y : X) → b ≡ true → (if b then x else y) ≡ x
if_true true x y e = refl
if_true false x y e = absurd (let h : false ≡ true = e in cc)

pub then_over : (s t u : Server) → KeepsOver s t → KeepsOver t u → KeepsOver s u
then_over s t u f g =
    record {
      made = λ x i. g.made x (f.made x i);
      over = λ x i. g.over x (f.over x i);
      users = λ x i p. (let b = g.users x (f.made x i) p in let a = f.users x i b.0 in (a.0, b.1 ∙ a.1));
    }

crash_over : (w : World) (k : ℕ) (kept : Bool) → may_serve w k ≡ true → Stands w
    → Over w (if kept then restarted (absorb_front w k (w.conns k).up) else restarted w)
crash_over w k true may i =
    let xs = (w.conns k).up in
    let is : happens w (Serve k) ≡ later (serve_front w k xs) 1 = if_true (may_serve w k) (later (serve_front w k xs) 1) w may in
    let h = subst (λ v. Behind v) is (behind_of (happens w (Serve k)) (stands_on w (Serve k) i)) in
    let b = behind_absorbed w k xs (record { few = h.few; anew = h.anew }) in
    let u = absorb_front w k xs in
    then_over w.server u.server (restarted u).server (absorb_over w k xs) (restart_over u.server (restarted u).server b.few b.anew)
crash_over w k false may i =
    let b = behind_of w i in restart_over w.server (restarted w).server b.few b.anew

changed_over : (w : World) (e : Event) → is_possible w e ≡ true → Stands w → Over w (changed w e)
changed_over w (Submit g op) may i = keeps_self w.server
changed_over w (Open k) may i = falls_over w.server _ (falls_accept w.server w.moment k)
changed_over w (Push k slotless pick) may i =
    let c = client_after w.client (Pushes k slotless pick) in
    let x = act w.client (Pushes k slotless pick) in
    same_keeps w.server (pushed_by w k c x).server (pushed_same w k c x)
changed_over w (Serve k) may i = serve_over w k (w.conns k).up
changed_over w (Take k) may i = same_keeps w.server (take_reply w k (w.conns k).down).server (take_same w k (w.conns k).down)
changed_over w (Cut k) may i = same_keeps w.server (changed w (Cut k)).server (cut_off_same w k)
changed_over w (Drop k) may i = falls_over w.server _ (falls_end w.server w.moment k)
changed_over w Restart may i =
    let b = behind_of w i in restart_over w.server (restarted w).server b.few b.anew
changed_over w (Crash k kept) may i = crash_over w k kept may i
changed_over w (Wait n) may i = keeps_self w.server
changed_over w (Finish refusal) may i = keeps_self w.server

pub happens_over : (w : World) (e : Event) → Stands w → Over w (happens w e)
happens_over w e i =
    either (λ (v : World). Over w v) (is_possible w e) (later (changed w e) (moments e)) w (λ may. changed_over w e may i)
    (λ _. keeps_self w.server)

loose_over : (w : World) (e : LooseEvent) → Stands w → Over w (loose_happens w e)
loose_over w (Meets e) i = happens_over w e i
loose_over w (Loses k up place) i = keeps_self w.server
loose_over w (Overtakes k up place) i = keeps_self w.server
loose_over w (Hears x) i =
    either (λ (v : World). Over w v) (may_hear w.client x) (heard_apart w x (answer w x)) w
    (λ _. answered_over w.server w.moment x.message (answer w x) (answered w.server w.moment x.message x.message.command refl))
    (λ _. keeps_self w.server)

-- ---- every loose run

run_over : (share : List ℕ) (es : List LooseEvent) (w : World) (a : ℕ → ℕ) → Held share w a → Over w (loose_run es w)
unfolding loose_run
run_over share [] w a i = keeps_self w.server
run_over share (e ∷ es) w a i =
    then_over w.server (loose_happens w e).server (loose_run es (loose_happens w e)).server (loose_over w e (stands_of share w a i))
    (run_over share es (loose_happens w e) (loose_after w e a) (event_keeps share w a e i))

more_run : (es more : List LooseEvent) (w : World) → loose_run (es ++ more) w ≡ loose_run more (loose_run es w)
unfolding loose_run
more_run [] more w = refl
more_run (e ∷ es) more w = more_run es more (loose_happens w e)

pub sessions_stay_over : SessionsStayOver
sessions_stay_over z es more =
    let v = loose_run es (start z) in
    let k : Over v (loose_run (es ++ more) (start z)) =
    subst (λ (u : World). Over v u) (sym (more_run es more (start z))) (run_over z.who.share more v _ (held z es)) in
    record { made = k.made; over = k.over }
