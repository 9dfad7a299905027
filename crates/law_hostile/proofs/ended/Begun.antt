-- A session that begins isn't made any more, and one of the same user that was named as the one before it is over.
use Rattle.std.proofs.Common.{◌≡◌, ◌≢◌, ℕ, List, true, sym, ap, ◌∙◌, subst, eqb-true, Option, Some, None}
use Rattle.law_server.specs.tables.Fits.{Fits}
use Rattle.spec_exchange.specs.State.{Server, Message, Answer, Making, NewSession, Binding}
use Rattle.spec_exchange.specs.CheckSetup.{is_new}
use Rattle.spec_exchange.specs.Texts.{same_name}
use Rattle.spec_exchange.specs.Commands.{Command, Setup, SetupRequest}
use Rattle.spec_exchange.specs.Commands.{Shows, Begins, Bad, Refused, Logon}
use Rattle.spec_exchange.proofs.Content.{same_bytes-true}
use Rattle.spec_world.specs.Settings.{WorldSettings, logon_of}
use Rattle.law_sessions.specs.sessions.Sessions.{logon_user, is_logon, logs_on, user_in, previous_in}
use Rattle.law_sessions.proofs.sessions.Answers.{Facts}
use Rattle.law_sessions.proofs.sessions.Serving.{same_itself}
use Rattle.law_hostile.specs.loosely.LooseRuns.{shows_user}
use Rattle.law_hostile.specs.loosely.LooseSessions.{NoMoreMade, IsOver}
use Rattle.law_hostile.proofs.loosely.Over.{refuted, never, given_on, made_on}
use Rattle.law_hostile.proofs.ended.Knowing.{Known}

pub new_is : (x : ℕ) (o : Option Making) → is_new x o ≡ true → o ≡ Some (NewSession x)
new_is x None e = absurd (cc)
new_is x (Some (NewSession id)) e = ap (λ i. Some (NewSession i)) (eqb-true id x e)
new_is x (Some (Binding id)) e = absurd (cc)

-- the session
pub begun_made : (s : Server) (m : Message) (A : Answer) → Fits s → (f : Facts s m A) → f.begins ≡ true → NoMoreMade A.server m.session_id
begun_made s m A fits f b =
    let w = f.enters b in
    let here = new_is m.session_id (s.making m.connection) w.made in
    let ids = fits.making_ids m.connection m.session_id here in
    record {
      given = given_on s m A m.session_id f ids.1;
      unmade = λ k. refuted (is_new m.session_id (A.server.making k)) (λ h.
          let q = w.unmade k h in
          absurd (q.1 (fits.making_once k m.connection m.session_id (new_is m.session_id (s.making k) q.0) here)));
    }

-- it is known to its user
pub begun_known : (z : WorldSettings) (s : Server) (m : Message) (A : Answer) → Fits s → (f : Facts s m A) → f.begins ≡ true
    → user_in m.command ≡ logon_user (logon_of z) → Known z A.server m.session_id
begun_known z s m A fits f b user =
    let w = f.enters b in
    record { made = begun_made s m A fits f b; user = λ p. w.user ∙ user }

-- and the one before it, which was known
pub begun_over : (z : WorldSettings) (s : Server) (m : Message) (A : Answer) → (f : Facts s m A) → f.begins ≡ true
    → user_in m.command ≡ logon_user (logon_of z) → Known z s (previous_in m.command) → IsOver A.server (previous_in m.command)
begun_over z s m A f b user known =
    let w = f.enters b in
    let p = previous_in m.command in
    let i = known.made in
    let apart : p ≢ m.session_id = λ e.
    never (is_new p (s.making m.connection)) (i.unmade m.connection)
    (subst (λ y. is_new y (s.making m.connection) ≡ true) (sym e) w.made) _ in
    record {
      made = made_on s m A p f i;
      absent = refuted (A.server.present p) (λ h.
          let there : s.present p ≡ true = f.present p h (λ _. apart) in
          let same : same_name (s.user p) (user_in m.command) ≡ true =
          subst (λ u. same_name u (user_in m.command) ≡ true) (sym (known.user there ∙ sym user)) (same_itself (user_in m.command)) in
          w.gone there same);
    }

-- ---- the user that a client's own SESSION_SETUP logs on

shown_user : (own : List ℕ) (shows : Shows) → shows_user own shows ≡ true → is_logon shows ≡ true → logon_user shows ≡ own
shown_user own (Logon user) e on = same_bytes-true user own e
shown_user own Begins e on = absurd (cc)
shown_user own Bad e on = absurd (cc)
shown_user own Refused e on = absurd (cc)

pub own_user : (own : List ℕ) (c : Command) (r : SetupRequest) → c ≡ Setup r → shows_user own r.shows ≡ true → logs_on c ≡ true → user_in c ≡ own
unfolding logs_on user_in
own_user own c r e shows on =
    ap user_in e ∙ shown_user own r.shows shows (sym (ap logs_on e) ∙ on)

-- and the session that it names as the one before
pub own_previous : (c : Command) (r : SetupRequest) → c ≡ Setup r → previous_in c ≡ r.previous
unfolding previous_in
own_previous c r e = ap previous_in e
