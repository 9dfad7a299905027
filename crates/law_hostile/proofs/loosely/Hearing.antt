-- What each law on once and newer rests on stays where the server hears an idle message, or a SESSION_SETUP of the client, that no list has.
use Rattle.std.proofs.Common.{◌≡◌, ℕ, ◌+◌, ◌≤◌, ◌<◌, Bool, true, false, ◌&&◌, ◌||◌, if◌then◌else◌, List, [], ◌∷◌, ◌++◌, refl, arith, sym}
use Rattle.std.proofs.Common.{◌∙◌, ap, subst, Option, Some, None, inl, inr, ◌⊎◌, eqb-true, not, ◌==◌}
use Rattle.std.specs.Prelude.{is_some}
use Rattle.spec_exchange.specs.Table.{put, is_at}
use Rattle.spec_exchange.specs.Content.{same_bytes}
use Rattle.spec_exchange.specs.Commands.{Command, Unreadable, Aside, Setup, Logoff, TreeConnect, TreeDisconnect, Create, Close, Flush}
use Rattle.spec_exchange.specs.Commands.{Read, Write, Lock, Ioctl, ListDirectory, QueryFile, QueryVolume, SetInfo, SetupRequest}
use Rattle.spec_exchange.specs.Commands.{Shows, Begins, Bad, Refused, Logon}
use Rattle.spec_exchange.specs.State.{Server, Message, Heard, Answer}
use Rattle.spec_exchange.specs.Opens.{id_of}
use Rattle.spec_exchange.specs.CheckSetup.{is_new}
use Rattle.spec_exchange.specs.Client.{Client}
use Rattle.spec_exchange.specs.Fold.{fold}
use Rattle.spec_exchange.specs.Step.{step}
use Rattle.spec_exchange.specs.Network.{World, Sent, Token, ForDialog, ForOp, ForAttach, answer_to, untouched, answer, is_own}
use Rattle.spec_exchange.specs.Runs.{is_send_of, alters, is_newer}
use Rattle.law_server.proofs.tables.Folded.{sound_more, sound_none}
use Rattle.law_server.proofs.tables.Stepped.{Good, stepped}
use Rattle.law_records.specs.recovery.Recovers.{RecordRecovers}
use Rattle.law_records.proofs.recovery.Lists.{put_here}
use Rattle.law_records.proofs.recovery.Worlds.{stepped as recorded_on}
use Rattle.law_sessions.specs.sessions.Sessions.{Sessions, OpenTrees, logon_user, is_logon, logs_on, user_in, is_dialog}
use Rattle.law_sessions.proofs.sessions.Connected.{Falls, moves_falls}
use Rattle.law_sessions.proofs.sessions.Moved.{moved_keeps}
use Rattle.law_sessions.proofs.sessions.Written.{Clean, Folds, folds_more}
use Rattle.law_sessions.proofs.sessions.Restoring.{Bare, bare_more}
use Rattle.law_sessions.proofs.sessions.Heard.{answered}
use Rattle.law_sessions.proofs.sessions.Serving.{moves_of}
use Rattle.law_sessions.proofs.sessions.Trees.{Ties, Newly, ties_answered}
use Rattle.law_sessions.proofs.sessions.Owed.{clean_answer}
use Rattle.law_sessions.proofs.sessions.Sorted.{Sorted, answer_sorted, answer_bare}
use Rattle.law_creates.specs.Creates.{Creates, seen}
use Rattle.law_locks.specs.Locks.{Locks}
use Rattle.law_locks.proofs.Serve.{Under}
use Rattle.law_order.specs.order.Newest.{Pair, LowSequences, Newest}
use Rattle.law_order.proofs.order.Answers.{Given, facts}
use Rattle.law_order.proofs.order.Calm.{aloof}
use Rattle.law_order.proofs.order.Words.{split, put_old}
use Rattle.law_order.proofs.order.Pairs.{Moves, same, moves_alike}
use Rattle.law_hostile.specs.loosely.LooseRuns.{is_aside, is_idle, shows_user, is_own_logon, sets_up_own, may_hear, heard_apart}
use Rattle.law_hostile.proofs.acts.Faulty.{faulty_acts_not}
use Rattle.law_hostile.proofs.loosely.KindsStay.{Piped, trees_of}
use Rattle.law_hostile.proofs.loosely.Refusing.{reaches_none, alters_none, refused_falls, refused_sorted, refused_clean}
use Rattle.law_hostile.proofs.loosely.Refusing.{refused_creates, refused_locks, refused_moves}
use Rattle.law_hostile.proofs.loosely.SettingUp.{setup_keeps, setup_creates, setup_locks}
use Rattle.law_hostile.proofs.loosely.Staying.{Core, Held}
use Rattle.law_server.proofs.tables.Logic.{front_of, back_of}

-- ---- what an answer leaves of each part

-- pairs of accepted sessions stay
record Goes (w : World) (A : Answer) : Type 0 where
  pair :
      (x q o : ℕ) → 0 < w.client.rank x → o ≤ id_of w.server.epoch w.server.open_ids_given → Pair w.server x q o → Pair A.server x q o
  ids : id_of w.server.epoch w.server.open_ids_given ≤ id_of A.server.epoch A.server.open_ids_given
  low : LowSequences A.server

record Idles (share : List ℕ) (w : World) (a : ℕ → ℕ) (A : Answer) : Type 0 where
  good : Good A
  recorded : RecordRecovers (w.records ++ A.records) A.server
  sits : Sessions w.client w.conns A.server
  stored : Folds w.client.who.guid (logon_user w.client.who.logon) A.server.epoch (fold (w.records ++ A.records))
  sorted : Sorted (Piped share) A.server
  bare : Bare (Piped share) A.server.epoch (w.records ++ A.records)
  creates : Creates w.client w.conns (seen A.server) a
  locks : Locks w.client w.conns A.server a
  goes : Goes w A
  reached : A.reached ≡ None
  altered : A.altered ≡ None

same_id : (a b c d : ℕ) → c ≡ a → d ≡ b → id_of a b ≡ id_of c d
same_id a b c d e f = rw (e, f) refl

nothing_behind : {X : Type 0} (xs : List X) → xs ++ [] ≡ xs
nothing_behind [] = refl
nothing_behind (x ∷ xs) = ap (λ ys. x ∷ ys) (nothing_behind xs)

under_of : (share : List ℕ) (w : World) (a : ℕ → ℕ) → Held share w a → Under w.client w.conns w.server a
under_of share w a i =
    record {
      links = i.core.links;
      sessions = i.core.sessions.sits;
      kinds = trees_of share w i.core.kinds;
      creates = i.creates;
      fits = i.core.fits.0;
    }

fallen : (share : List ℕ) (w : World) (a : ℕ → ℕ) (A : Answer) → Falls w.server A.server → Held share w a
    → Sessions w.client w.conns A.server
fallen share w a A f i =
    let c = w.client in
    let s = i.core.sessions.sits in
    moved_keeps c w.conns w.server A.server
    (moves_falls c w.server A.server f s.making_unranked s.session_users s.open_users s.open_trees) s

filed : (share : List ℕ) (w : World) (a : ℕ → ℕ) (A : Answer) → A.server.epoch ≡ w.server.epoch
    → Clean w.client.who.guid (logon_user w.client.who.logon) A.records → Held share w a
    → Folds w.client.who.guid (logon_user w.client.who.logon) A.server.epoch (fold (w.records ++ A.records))
filed share w a A e clean i =
    let guid = w.client.who.guid in
    let user = logon_user w.client.who.logon in
    subst (λ n. Folds guid user n (fold (w.records ++ A.records))) (sym e)
    (folds_more guid user w.server.epoch w.records A.records clean i.core.sessions.stored)

same_pairs : (w : World) (A : Answer) → Moves w.server A.server → Newest w → Goes w A
same_pairs w A m n =
    record {
      pair = λ x q o r l p. m.pair x q o p;
      ids = (let e = same_id w.server.epoch w.server.open_ids_given A.server.epoch A.server.open_ids_given m.epoch m.given in
          omega (arith, e));
      low = m.low n.low_sequences;
    }

aside_idles : (share : List ℕ) (w : World) (a : ℕ → ℕ) (m : Message) (status : ℕ) → Held share w a
    → Idles share w a (untouched w.server m status)
unfolding Clean
aside_idles share w a m status i =
    let A = untouched w.server m status in
    let falls : Falls w.server A.server = record {
      present = λ x p. p;
      user = refl;
      making = λ k y e. e;
      epoch = refl;
      session_ids_given = refl;
      trees = λ x id p h. h;
      standing = λ o e. e;
      opened = refl;
      attached = λ o x h. (h, refl);
    } in
    record {
      good = (i.core.fits.0, sound_none);
      recorded = subst (λ rs. RecordRecovers rs w.server) (sym (nothing_behind w.records)) i.core.recorded;
      sits = fallen share w a A falls i;
      stored = filed share w a A refl tt i;
      sorted = i.core.kinds.sorted;
      bare = bare_more (Piped share) w.server.epoch A.server.epoch w.records A.records refl (λ piped g. tt) i.core.kinds.bare;
      creates = i.creates;
      locks = i.locks;
      goes = same_pairs w A (moves_alike w.server w.server (same w.server)) i.newest;
      reached = refl;
      altered = refl;
    }

step_idles : (share : List ℕ) (w : World) (a : ℕ → ℕ) (m : Message) → is_some m.fault ≡ true → Held share w a
    → Idles share w a (step w.server w.moment (Heard m))
step_idles share w a m e i =
    let s = w.server in let now = w.moment in
    let A = step s now (Heard m) in
    let falls = refused_falls s now m e in
    record {
      good = stepped s now (Heard m) i.core.fits.0;
      recorded = recorded_on w.records s now (Heard m) tt i.core.fits.0 i.core.recorded;
      sits = fallen share w a A falls i;
      stored = filed share w a A falls.epoch (refused_clean w.client.who.guid (logon_user w.client.who.logon) s now m e) i;
      sorted = refused_sorted (Piped share) s now m e i.core.kinds.sorted;
      bare = bare_more (Piped share) s.epoch A.server.epoch w.records A.records falls.epoch (λ piped g. refused_clean g [] s now m e)
          i.core.kinds.bare;
      creates = refused_creates w.client w.conns a s now m e i.creates;
      locks = refused_locks w.client w.conns s a now m e (under_of share w a i) i.locks;
      goes = same_pairs w A (refused_moves s now m e) i.newest;
      reached = reaches_none s now m e;
      altered = alters_none s now m e;
    }

-- ---- a SESSION_SETUP of the client

record AsksSetup (w : World) (m : Message) : Type 0 where
  request : SetupRequest
  command : m.command ≡ Setup request
  client : m.client_guid ≡ w.client.who.guid
  logon : logs_on m.command ≡ true → user_in m.command ≡ logon_user w.client.who.logon
  sequence : m.channel_sequence ≤ 32767

given_to : (share : List ℕ) (w : World) (a : ℕ → ℕ) (m : Message) → m.channel_sequence ≤ 32767 → Held share w a → Given w.server m
given_to share w a m low i =
    let f = i.core.fits.0 in
    record {
      low = i.newest.low_sequences;
      sequence = low;
      attached = λ o y e. (f.attached o y e).1;
      named = λ c g o e. (f.open_ids o (f.guid_open c g o e).0).1;
      ids = λ o e. (f.open_ids o e).1;
    }

ranked_not : (b : Bool) (r : ℕ) → (b ≡ true → r ≡ 0) → 0 < r → b ≡ false
ranked_not false r f l = refl
ranked_not true r f l = absurd (let e = f refl in omega (arith, e, l))

setup_goes : (share : List ℕ) (w : World) (a : ℕ → ℕ) (m : Message) → m.channel_sequence ≤ 32767 → Held share w a
    → Goes w (answer_to w.server w.moment m m.command)
setup_goes share w a m low i =
    let f = facts w.server w.moment m m.command (given_to share w a m low i) in
    let s = i.core.sessions.sits in
    record {
      pair = λ x q o r l p. f.pair x q o
          (ranked_not (is_new x (w.server.making m.connection)) (w.client.rank x) (s.making_unranked m.connection x) r) l p;
      ids = f.ids;
      low = f.low;
    }

setup_dialog : (c : Command) (r : SetupRequest) → c ≡ Setup r → is_dialog c ≡ true
unfolding is_dialog
setup_dialog c r e = subst (λ d. is_dialog d ≡ true) (sym e) refl

no_share : (c : Command) (r : SetupRequest) (share other : List ℕ) → c ≡ Setup r → c ≡ TreeConnect other → other ≡ share
no_share c r share other e f = absurd (let h : Setup r ≡ TreeConnect other = sym e ∙ f in cc)

trees_stay : (share : List ℕ) (w : World) (a : ℕ → ℕ) (m : Message) (A : Answer) → Ties w.server m A.server → is_dialog m.command ≡ true
    → Held share w a → OpenTrees w.client A.server
trees_stay share w a m A each dialog i o x h = by (each o x h)
  where
    by : ((w.server.session_of_open o ≡ Some x) × (A.server.tree_of_open o ≡ w.server.tree_of_open o)) ⊎ Newly w.server m A.server o x
        → 0 < w.client.session_number × x ≡ w.client.session × A.server.tree_of_open o ≡ w.client.tree
    by (inl q) = (let old = i.core.sessions.sits.open_trees o x q.0 in (old.0, old.1, q.1 ∙ old.2))
    by (inr n) = absurd (let f : false ≡ true = sym n.works ∙ dialog in cc)

setup_sits : (share : List ℕ) (w : World) (a : ℕ → ℕ) (m : Message) → AsksSetup w m → Held share w a
    → Sessions w.client w.conns (answer_to w.server w.moment m m.command).server
setup_sits share w a m asks i =
    let c = w.client in
    let s = w.server in
    let q = i.core.sessions.sits in
    let A = answer_to s w.moment m m.command in
    moved_keeps c w.conns s A.server
    (moves_of c s m A (answered s w.moment m m.command refl) q.making_unranked q.ranked_given q.session_users q.open_users
    (trees_stay share w a m A (ties_answered s w.moment m m.command) (setup_dialog m.command asks.request asks.command) i)
    i.core.fits.0.on_present asks.client (setup_keeps m.command asks.request asks.command) asks.logon) q

setup_step : (s : Server) (now : ℕ) (m : Message) (r : SetupRequest) → m.command ≡ Setup r
    → step s now (Heard m) ≡ answer_to s now m m.command
setup_step s now m r e = sym (ap (answer_to s now m) e)

setup_idles : (share : List ℕ) (w : World) (a : ℕ → ℕ) (m : Message) → AsksSetup w m → Held share w a
    → Idles share w a (answer_to w.server w.moment m m.command)
setup_idles share w a m asks i =
    let s = w.server in
    let now = w.moment in
    let A = answer_to s now m m.command in
    let r = asks.request in
    let is : step s now (Heard m) ≡ A = setup_step s now m r asks.command in
    let f = answered s now m m.command refl in
    let sits = i.core.sessions.sits in
    let on = i.core.fits.0.on_present in
    let calm = aloof s now m m.command (setup_dialog m.command r asks.command) in
    record {
      good = subst Good is (stepped s now (Heard m) i.core.fits.0);
      recorded = subst (λ (B : Answer). RecordRecovers (w.records ++ B.records) B.server) is
          (recorded_on w.records s now (Heard m) tt i.core.fits.0 i.core.recorded);
      sits = setup_sits share w a m asks i;
      stored = filed share w a A f.epoch
          (clean_answer w.client.who.guid (logon_user w.client.who.logon) s now m asks.client
          (λ at. sits.session_users m.session_id (on m.connection m.session_id at)) m.command) i;
      sorted = answer_sorted share s now m (λ other e. no_share m.command r share other asks.command e) i.core.kinds.sorted m.command;
      bare = bare_more (Piped share) s.epoch A.server.epoch w.records A.records f.epoch
          (λ piped g. answer_bare (Piped share) s now m i.core.kinds.sorted piped g m.command) i.core.kinds.bare;
      creates = subst (λ (B : Answer). Creates w.client w.conns (seen B.server) a) is
          (setup_creates w.client w.conns a s now m r asks.command sits i.creates);
      locks = subst (λ (B : Answer). Locks w.client w.conns B.server a) is
          (setup_locks w.client w.conns s a now m r asks.command (under_of share w a i) i.locks);
      goes = setup_goes share w a m asks.sequence i;
      reached = calm.reached;
      altered = calm.altered;
    }

front_true : (b : Bool) → (b || false) ≡ true → b ≡ true
front_true true e = refl
front_true false e = e

by_answer : (P : Answer → Type 0) (s : Server) (now : ℕ) (m : Message) → ((status : ℕ) → P (untouched s m status))
    → (is_some m.fault ≡ true → P (step s now (Heard m))) → (c : Command) → (is_some m.fault || is_aside c) ≡ true
    → P (answer_to s now m c)
by_answer P s now m f g (Aside status) e = f status
by_answer P s now m f g (Unreadable status) e = g (front_true (is_some m.fault) e)
by_answer P s now m f g (Setup request) e = g (front_true (is_some m.fault) e)
by_answer P s now m f g Logoff e = g (front_true (is_some m.fault) e)
by_answer P s now m f g (TreeConnect share) e = g (front_true (is_some m.fault) e)
by_answer P s now m f g TreeDisconnect e = g (front_true (is_some m.fault) e)
by_answer P s now m f g (Create request) e = g (front_true (is_some m.fault) e)
by_answer P s now m f g (Close file query) e = g (front_true (is_some m.fault) e)
by_answer P s now m f g (Flush file) e = g (front_true (is_some m.fault) e)
by_answer P s now m f g (Read file at size minimum channel) e = g (front_true (is_some m.fault) e)
by_answer P s now m f g (Write file at bytes channel) e = g (front_true (is_some m.fault) e)
by_answer P s now m f g (Lock file index number elements) e = g (front_true (is_some m.fault) e)
by_answer P s now m f g (Ioctl file code room) e = g (front_true (is_some m.fault) e)
by_answer P s now m f g (ListDirectory file class restart single pattern room) e = g (front_true (is_some m.fault) e)
by_answer P s now m f g (QueryFile file class room) e = g (front_true (is_some m.fault) e)
by_answer P s now m f g (QueryVolume file class room) e = g (front_true (is_some m.fault) e)
by_answer P s now m f g (SetInfo file setting) e = g (front_true (is_some m.fault) e)

idles : (share : List ℕ) (w : World) (a : ℕ → ℕ) (x : Sent) → is_idle x.message ≡ true → Held share w a → Idles share w a (answer w x)
idles share w a x e i =
    by_answer (Idles share w a) w.server w.moment x.message (λ status. aside_idles share w a x.message status i)
    (λ f. step_idles share w a x.message f i) x.message.command e

-- ---- the log has a place more, which reached no open

no_open : (a : Option ℕ) (o : ℕ) → a ≡ None → a ≡ Some o → (P : Type 0) → P
no_open None o e h P = absurd (let q : None ≡ Some o = h in cc)
no_open (Some x) o e h P = absurd (let q : Some x ≡ None = e in cc)

no_change : (b : Bool) (a : Option ℕ) (o : ℕ) → a ≡ None → (b && is_at o a) ≡ true → (P : Type 0) → P
no_change b None o e h P = absurd (grind arith)
no_change b (Some x) o e h P = absurd (let q : Some x ≡ None = e in cc)

up_to : (o a b : ℕ) → o ≤ a → a ≤ b → o ≤ b
up_to o a b l m = omega (arith, l, m)

newest_apart : (w : World) (x : Sent) (A : Answer) → A.reached ≡ None → A.altered ≡ None → Goes w A → Newest w
    → Newest (heard_apart w x A)
newest_apart w x A none calm m n =
    let N = w.log.places in
    let v = heard_apart w x A in
    record {
      ranked = λ i o l. split (λ j. v.trace.reached j ≡ Some o → 0 < w.client.rank (v.trace.session j)) N i l
          (λ lt h. subst (λ s. 0 < w.client.rank s) (sym (put_old w.trace.session N x.message.session_id i lt))
          (n.ranked i o lt (sym (put_old w.trace.reached N A.reached i lt) ∙ h)))
          (λ h. no_open A.reached o none (sym (put_here w.trace.reached N A.reached) ∙ h) _);
      ranked_change = λ i o l. split (λ j. v.trace.altered j ≡ Some o → 0 < w.client.rank (v.trace.session j)) N i l
          (λ lt h. subst (λ s. 0 < w.client.rank s) (sym (put_old w.trace.session N x.message.session_id i lt))
          (n.ranked_change i o lt (sym (put_old w.trace.altered N A.altered i lt) ∙ h)))
          (λ h. no_open A.altered o calm (sym (put_here w.trace.altered N A.altered) ∙ h) _);
      reached_given = λ i o l. split (λ j. v.trace.reached j ≡ Some o → o ≤ id_of A.server.epoch A.server.open_ids_given) N i l
          (λ lt h. up_to o (id_of w.server.epoch w.server.open_ids_given) (id_of A.server.epoch A.server.open_ids_given)
          (n.reached_given i o lt (sym (put_old w.trace.reached N A.reached i lt) ∙ h)) m.ids)
          (λ h. no_open A.reached o none (sym (put_here w.trace.reached N A.reached) ∙ h) _);
      held = λ i o l. split (λ j. v.trace.reached j ≡ Some o → Pair A.server (v.trace.session j) (v.trace.sequence j) o) N i l
          (λ lt h. let h' = sym (put_old w.trace.reached N A.reached i lt) ∙ h in
          subst (λ s. Pair A.server s (v.trace.sequence i) o) (sym (put_old w.trace.session N x.message.session_id i lt))
          (subst (λ q. Pair A.server (w.trace.session i) q o)
          (sym (put_old w.trace.sequence N x.message.channel_sequence i lt))
          (m.pair (w.trace.session i) (w.trace.sequence i) o (n.ranked i o lt h') (n.reached_given i o lt h') (n.held i o lt h'))))
          (λ h. no_open A.reached o none (sym (put_here w.trace.reached N A.reached) ∙ h) _);
      low_sequences = m.low;
      ordered = λ p i o l lt. split (λ j. i < j → alters v j o ≡ true → v.trace.reached i ≡ Some o → is_newer v i j ≡ false) N p l
          (λ lp li d h. old_order p i o lp li d h)
          (λ li d h. no_change (v.log.did N) (v.trace.altered N) o (put_here w.trace.altered N A.altered ∙ calm) d _) lt;
    }
  where
    old_order : (p i o : ℕ) → p < w.log.places → i < p → alters (heard_apart w x A) p o ≡ true
        → (heard_apart w x A).trace.reached i ≡ Some o → is_newer (heard_apart w x A) i p ≡ false
    old_order p i o lp li d h =
        let N = w.log.places in let m = x.message in let l : i < N = omega arith in
        let e1 = put_old w.log.did N (is_own x.token && A.acted) p lp in let e2 = put_old w.trace.altered N A.altered p
        lp in let e3 = put_old w.trace.reached N A.reached i l in
        let e4 = put_old w.trace.session N m.session_id p lp in let e5 = put_old w.trace.session N m.session_id i l in
        let e6 = put_old w.trace.sequence N m.channel_sequence p lp in let e7 = put_old w.trace.sequence N
        m.channel_sequence i l in
        let old = n.ordered p i o lp li (ap (λ a. w.log.did p && is_at o a) (sym e2)
        ∙ (ap (λ b. b && is_at o (put w.trace.altered N A.altered p)) (sym e1) ∙ d)) (sym e3 ∙ h) in
        rw (e4, e5, e6, e7) old

-- ---- all of it

core_apart : (share : List ℕ) (w : World) (a : ℕ → ℕ) (x : Sent) (A : Answer) → Idles share w a A → Core share w a
    → Core share (heard_apart w x A) a
core_apart share w a x A q i =
    record {
      links = i.links;
      fits = (q.good.0, sound_more w.records A.records i.fits.1 q.good.1);
      sessions = record { sits = q.sits; stored = q.stored };
      kinds = record { who = i.kinds.who; waits = i.kinds.waits; sorted = q.sorted; bare = q.bare };
      recorded = q.recorded;
    }

held_apart : (share : List ℕ) (w : World) (a : ℕ → ℕ) (x : Sent) (A : Answer) → Idles share w a A → Held share w a
    → Held share (heard_apart w x A) a
held_apart share w a x A q i =
    record {
      core = core_apart share w a x A q i.core;
      creates = q.creates;
      locks = q.locks;
      newest = newest_apart w x A q.reached q.altered q.goes i.newest;
    }

never_counts : (b c d : Bool) (n : ℕ) → d ≡ false → (if b && (c && d) then n + 1 else n) ≡ n
never_counts true true d n e = rw (e) refl
never_counts true false d n e = refl
never_counts false c d n e = refl

-- ---- no operation's count changes

idle_acts : (m : Message) (s : Server) (now : ℕ) → is_idle m ≡ true → (answer_to s now m m.command).acted ≡ false
idle_acts m s now e =
    by_answer (λ A. A.acted ≡ false) s now m (λ status. refl) (λ f. faulty_acts_not s now m f) m.command e

own_token : (g : ℕ) (t : Token) → is_own t ≡ false → is_send_of g t ≡ false
own_token g ForDialog e = refl
own_token g (ForOp h) e = absurd (let f : true ≡ false = e in cc)
own_token g (ForAttach h) e = refl

never_sent : (b c d : Bool) (n : ℕ) → c ≡ false → (if b && (c && d) then n + 1 else n) ≡ n
never_sent true c d n e = rw (e) refl
never_sent false c d n e = refl

same_guid : (a b : ℕ) → (a == b) ≡ true → a ≡ b
same_guid a b e = eqb-true a b e

low_zero : (n : ℕ) → n ≡ 0 → n ≤ 32767
low_zero n e = omega (arith, e)

same_of : (xs ys : List ℕ) → same_bytes xs ys ≡ true → xs ≡ ys
unfolding same_bytes
same_of [] [] e = refl
same_of [] (y ∷ ys) e = absurd (cc)
same_of (x ∷ xs) [] e = absurd (cc)
same_of (x ∷ xs) (y ∷ ys) e =
    let a = eqb-true x y (front_of (x == y) (same_bytes xs ys) e) in
    let b = same_of xs ys (back_of (x == y) (same_bytes xs ys) e) in
    λ t. a t ∷ b t

user_shown : (user : List ℕ) (shows : Shows) → shows_user user shows ≡ true → is_logon shows ≡ true → logon_user shows ≡ user
user_shown user (Logon other) e l = same_of other user e
user_shown user Begins e l = absurd (let h : false ≡ true = l in cc)
user_shown user Bad e l = absurd (let h : false ≡ true = l in cc)
user_shown user Refused e l = absurd (let h : false ≡ true = l in cc)

asked_by : (c : Client) (command : Command) → is_own_logon c command ≡ true
    → (r : SetupRequest) × (command ≡ Setup r) × (logs_on command ≡ true → user_in command ≡ logon_user c.who.logon)
unfolding logs_on user_in
asked_by c (Setup r) e = (r, refl, λ l. user_shown (logon_user c.who.logon) r.shows e l)
asked_by c (Aside status) e = absurd (cc)
asked_by c (Unreadable status) e = absurd (cc)
asked_by c Logoff e = absurd (cc)
asked_by c (TreeConnect share) e = absurd (cc)
asked_by c TreeDisconnect e = absurd (cc)
asked_by c (Create request) e = absurd (cc)
asked_by c (Close file query) e = absurd (cc)
asked_by c (Flush file) e = absurd (cc)
asked_by c (Read file at size minimum channel) e = absurd (cc)
asked_by c (Write file at bytes channel) e = absurd (cc)
asked_by c (Lock file index number elements) e = absurd (cc)
asked_by c (Ioctl file code room) e = absurd (cc)
asked_by c (ListDirectory file class restart single pattern room) e = absurd (cc)
asked_by c (QueryFile file class room) e = absurd (cc)
asked_by c (QueryVolume file class room) e = absurd (cc)
asked_by c (SetInfo file setting) e = absurd (cc)

asks_of : (w : World) (m : Message) → sets_up_own w.client m ≡ true → AsksSetup w m
asks_of w m e =
    let c = w.client in
    let tail = back_of (m.channel_sequence == 0) ((m.client_guid == c.who.guid) && is_own_logon c m.command) e in
    let q = asked_by c m.command (back_of (m.client_guid == c.who.guid) (is_own_logon c m.command) tail) in
    record {
      request = q.0;
      command = q.1;
      client = same_guid m.client_guid c.who.guid (front_of (m.client_guid == c.who.guid) (is_own_logon c m.command) tail);
      logon = q.2;
      sequence = low_zero m.channel_sequence
          (eqb-true m.channel_sequence 0 (front_of (m.channel_sequence == 0) ((m.client_guid == c.who.guid) && is_own_logon c m.command) e));
    }

abbrev counts_heard : World → (ℕ → ℕ) → Sent → ℕ → ℕ
counts_heard w a x g = if may_hear w.client x && (is_send_of g x.token && (answer w x).acted) then a g + 1 else a g

-- it isn't signed or sealed as owed, or asks for nothing
idle_hears : (share : List ℕ) (w : World) (a : ℕ → ℕ) (x : Sent) → is_idle x.message ≡ true → Held share w a
    → Held share (heard_apart w x (answer w x)) (counts_heard w a x)
idle_hears share w a x e i =
    let A = answer w x in
    subst (λ b. Held share (heard_apart w x A) b)
    (λ t g. sym (never_counts (may_hear w.client x) (is_send_of g x.token) A.acted (a g) (idle_acts x.message w.server w.moment e)) t)
    (held_apart share w a x A (idles share w a x e i) i)

-- or it sets up a session, or binds to one
setup_hears : (share : List ℕ) (w : World) (a : ℕ → ℕ) (x : Sent) → is_own x.token ≡ false → sets_up_own w.client x.message ≡ true
    → Held share w a → Held share (heard_apart w x (answer w x)) (counts_heard w a x)
setup_hears share w a x t e i =
    let A = answer w x in
    subst (λ b. Held share (heard_apart w x A) b)
    (λ j g. sym (never_sent (may_hear w.client x) (is_send_of g x.token) A.acted (a g) (own_token g x.token t)) j)
    (held_apart share w a x A (setup_idles share w a x.message (asks_of w x.message e) i) i)

by_either : {P : Type 0} (a b : Bool) → (a || b) ≡ true → (a ≡ true → P) → (b ≡ true → P) → P
by_either true b e f g = f refl
by_either false b e f g = g e

not_own : (b : Bool) → not b ≡ true → b ≡ false
not_own true e = absurd (let h : false ≡ true = e in cc)
not_own false e = refl

pub held_hears : (share : List ℕ) (w : World) (a : ℕ → ℕ) (x : Sent) → may_hear w.client x ≡ true → Held share w a
    → Held share (heard_apart w x (answer w x)) (counts_heard w a x)
held_hears share w a x e i =
    by_either (is_idle x.message) (not (is_own x.token) && sets_up_own w.client x.message) e (λ f. idle_hears share w a x f i)
    (λ f. setup_hears share w a x (not_own (is_own x.token) (front_of (not (is_own x.token)) (sets_up_own w.client x.message) f))
    (back_of (not (is_own x.token)) (sets_up_own w.client x.message) f) i)
