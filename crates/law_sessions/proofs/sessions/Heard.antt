-- What a message that is answered does to sessions, whatever expired in front of it.
use Rattle.std.proofs.Common.{◌≡◌, ◌≢◌, ℕ, ◌+◌, Bool, true, false, inl, inr, refl, sym, subst, ◌∙◌, ap, is_some}
use Rattle.spec_exchange.specs.Texts.{same_name}
use Rattle.spec_exchange.specs.Commands.{Command, Unreadable, Aside, Setup, Logoff, TreeConnect, TreeDisconnect, Create}
use Rattle.spec_exchange.specs.Commands.{Close, Flush, Read, Write, Lock, Ioctl, ListDirectory, QueryFile, QueryVolume}
use Rattle.spec_exchange.specs.Commands.{SetInfo}
use Rattle.spec_exchange.specs.State.{Server, Message, Heard, Answer}
use Rattle.spec_exchange.specs.CheckSetup.{is_new, tree_in}
use Rattle.spec_exchange.specs.Opens.{id_of}
use Rattle.spec_exchange.specs.Check.{check}
use Rattle.spec_exchange.specs.Effects.{apply}
use Rattle.spec_exchange.specs.Verdict.{Verdict}
use Rattle.spec_exchange.specs.Step.{step, with_deadlines, expire}
use Rattle.spec_exchange.specs.Network.{answer_to, untouched}
use Rattle.law_server.proofs.tables.Doors.{by_verdict, Before, Finds, recorded}
use Rattle.law_sessions.specs.sessions.Sessions.{user_in, previous_in, is_new_setup, is_tree_connect}
use Rattle.law_sessions.proofs.sessions.Checks.{Found, found, found_full, asks}
use Rattle.law_sessions.proofs.sessions.Columns.{Stays, stays_so, stays_same, stays_dated, stays_expired}
use Rattle.law_sessions.proofs.sessions.Answers.{Facts, Enters, by_verdicts, quiet_facts, untold}

seen_enters : (s t : Server) (m : Message) (A : Answer) → Stays s t → Enters t m A → Enters s m A
seen_enters s t m A q e =
    record {
      logs = e.logs;
      user = e.user;
      made = ap (λ f. is_new m.session_id (f m.connection)) (sym q.making) ∙ e.made;
      gone = λ p n. e.gone (ap (λ f. f (previous_in m.command)) q.present ∙ p)
          (ap (λ f. same_name (f (previous_in m.command)) (user_in m.command)) q.user ∙ n);
      unmade = λ j h. let u = e.unmade j h in (ap (λ f. is_new m.session_id (f j)) (sym q.making) ∙ u.0, u.1);
    }

same_id : (e1 e2 n1 n2 : ℕ) → e1 ≡ e2 → n1 ≡ n2 → id_of e1 (n1 + 1) ≡ id_of e2 (n2 + 1)
same_id e1 e2 n1 n2 a b = ap (λ e. id_of e (n1 + 1)) a ∙ ap (λ n. id_of e2 (n + 1)) b

elsewhere : (b : Bool) (x y z : ℕ) → y ≡ z → (b ≡ true → x ≢ z) → b ≡ true → x ≢ y
elsewhere b x y z e n h = λ i. n h (i ∙ e)

seen_facts : (s t : Server) (m : Message) (A : Answer) → Stays s t → Facts t m A → Facts s m A
seen_facts s t m A q f =
    let ns = same_id t.epoch s.epoch t.session_ids_given s.session_ids_given q.epoch q.session_ids_given in
    let no = same_id t.epoch s.epoch t.open_ids_given s.open_ids_given q.epoch q.open_ids_given in
    record {
      begins = f.begins;
      challenges = f.challenges;
      makes = f.makes;
      present = λ x p n. ap (λ g. g x) (sym q.present) ∙ f.present x p n;
      users = λ x p n. f.users x p n ∙ ap (λ g. g x) q.user;
      enters = λ e. seen_enters s t m A q (f.enters e);
      making = λ k y e n. ap (λ g. is_new y (g k)) (sym q.making)
          ∙ f.making k y e (elsewhere f.challenges y (id_of t.epoch (t.session_ids_given + 1))
          (id_of s.epoch (s.session_ids_given + 1)) ns n);
      epoch = f.epoch ∙ q.epoch;
      counted = λ e. let c = f.counted e in (c.0 ∙ ap (λ n. n + 1) q.session_ids_given, c.1 ∙ ns, c.2);
      uncounted = λ e. let c = f.uncounted e in (c.0 ∙ q.session_ids_given, c.1);
      once = f.once;
      welcome = f.welcome;
      interim = f.interim;
      trees = λ x id p a n h. f.trees x id (ap (λ g. g x) q.present ∙ p) a n (ap (λ g. is_some (tree_in (g x) id)) q.trees ∙ h);
      connected = f.connected;
      opens = λ o e n. q.standing o
          (f.opens o e (elsewhere f.makes o (id_of t.epoch (t.open_ids_given + 1))
          (id_of s.epoch (s.open_ids_given + 1)) no n));
      rows = λ o n. f.rows o (elsewhere f.makes o (id_of t.epoch (t.open_ids_given + 1))
          (id_of s.epoch (s.open_ids_given + 1)) no n) ∙ ap (λ g. g o) q.opened;
      maker = λ e. let w = f.maker e in (
        subst (λ i. (A.server.opened i).user ≡ s.user m.session_id) no (w.0 ∙ ap (λ g. g m.session_id) q.user),
        subst (λ i. (A.server.opened i).client_guid ≡ m.client_guid) no w.1,
        ap (λ g. g m.connection)
            (sym q.session_on) ∙ w.2,
      );
    }

pub before_stays : (s : Server) (now : ℕ) (t : Server) → Before s now t → Stays s t
before_stays s now t (inl e) = subst (λ u. Stays s u) (sym e) (stays_dated s now)
before_stays s now t (inr h) = subst (λ u. Stays s u) (sym h.2)
    (stays_so s (with_deadlines s now) (expire (with_deadlines s now) h.0) (stays_dated s now)
    (stays_expired (with_deadlines s now) h.0))

finds_found : (t : Server) (m : Message) (v : Verdict) → Finds t m v → Found t m v
finds_found t m v (inl e) = subst (λ u. Found t m u) (sym e) (found t m)
finds_found t m v (inr e) = subst (λ u. Found t m u) (sym e) (found_full t m (check t m) (found t m))

stepped : (s : Server) (now : ℕ) (m : Message) → Facts s m (step s now (Heard m))
stepped s now m =
    by_verdict (λ A. Facts s m A) s now m
    (λ t v records b f. seen_facts s t m (recorded (apply t m now v) records) (before_stays s now t b)
    (by_verdicts t m now records v (finds_found t m v f)))

quiet_aside : (m : Message) (status : ℕ) → m.command ≡ Aside status → asks m.command ≡ false
unfolding is_new_setup is_tree_connect
quiet_aside m status e = ap asks e

aside : (s : Server) (m : Message) (status : ℕ) → m.command ≡ Aside status → Facts s m (untouched s m status)
aside s m status e = quiet_facts s m (untouched s m status) (stays_same s) refl
    (λ a f. untold (asks m.command) (quiet_aside m status e) a _)

pub answered : (s : Server) (now : ℕ) (m : Message) (c : Command) → m.command ≡ c → Facts s m (answer_to s now m c)
answered s now m (Aside status) e = aside s m status e
answered s now m (Unreadable status) e = stepped s now m
answered s now m (Setup request) e = stepped s now m
answered s now m Logoff e = stepped s now m
answered s now m (TreeConnect share) e = stepped s now m
answered s now m TreeDisconnect e = stepped s now m
answered s now m (Create request) e = stepped s now m
answered s now m (Close file query) e = stepped s now m
answered s now m (Flush file) e = stepped s now m
answered s now m (Read file at size minimum channel) e = stepped s now m
answered s now m (Write file at bytes channel) e = stepped s now m
answered s now m (Lock file index number elements) e = stepped s now m
answered s now m (Ioctl file code room) e = stepped s now m
answered s now m (ListDirectory file class restart single pattern room) e = stepped s now m
answered s now m (QueryFile file class room) e = stepped s now m
answered s now m (QueryVolume file class room) e = stepped s now m
answered s now m (SetInfo file setting) e = stepped s now m
