-- What an answer of the server does to sessions, trees and ids, for whichever check answered.
use Rattle.std.proofs.lemmas.Bool.{eqb-false}
use Rattle.std.proofs.Common.{◌≡◌, ◌≢◌, ℕ, ◌+◌, ◌==◌, Bool, true, false, not, ◌&&◌, List, [], ◌∷◌, ◌++◌, refl, arith}
use Rattle.std.proofs.Common.{sym, ◌∙◌, ap, Option, Some, None, is_some}
use Rattle.spec_exchange.specs.Table.{put}
use Rattle.spec_exchange.specs.Status.{success, more_processing_required}
use Rattle.spec_exchange.specs.Texts.{same_name}
use Rattle.spec_exchange.specs.Commands.{Command, TreeDisconnect, Setup, SetupRequest, CreateRequest}
use Rattle.spec_exchange.specs.State.{Server, Message, Answer, Record, Making, NewSession, Binding, Tree, Open}
use Rattle.spec_exchange.specs.CheckSetup.{is_new, tree_in, previous_of}
use Rattle.spec_exchange.specs.Opens.{leave_open}
use Rattle.spec_exchange.specs.CheckOpen.{file_of}
use Rattle.spec_exchange.specs.Effects.{apply, next_session, next_open, reach, set_ranges, file_made, end_if_named, open_row, new_file}
use Rattle.spec_exchange.specs.Effects.{opens_of_tree}
use Rattle.spec_exchange.specs.Verdict.{Verdict, Refuse, Give, KeepRefusal, Repeat, Attach, Make, TurnDown, Tell, Show}
use Rattle.spec_exchange.specs.Verdict.{KeepSlot, PutRanges, Alter, CloseOpen, Challenge, ChallengeBinding, Begin, Join}
use Rattle.spec_exchange.specs.Verdict.{EndSession, AddTree, DropTree}
use Rattle.law_server.proofs.tables.Doors.{recorded}
use Rattle.law_server.proofs.tables.Closing.{closed_beside, closed_fewer}
use Rattle.law_sessions.specs.sessions.Sessions.{is_new_setup, is_tree_connect, is_logon, logon_user, logs_on, user_in, previous_in}
use Rattle.law_sessions.proofs.sessions.Checks.{Found, Begun, asks}
use Rattle.law_sessions.proofs.sessions.Columns.{Stays, stays_same, stays_so, stays_reached, stays_attached, stays_kept}
use Rattle.law_sessions.proofs.sessions.Columns.{stays_ranged, stays_closed, stays_changed, stays_left, stays_made, stays_refused}
use Rattle.law_sessions.proofs.sessions.Columns.{stays_shown}

-- a session begins
pub record Enters (s : Server) (m : Message) (A : Answer) : Type 0 where
  pub logs : logs_on m.command ≡ true
  pub user : A.server.user m.session_id ≡ user_in m.command
  pub made : is_new m.session_id (s.making m.connection) ≡ true
  pub gone : s.present (previous_in m.command) ≡ true → same_name (s.user (previous_in m.command)) (user_in m.command)
      ≡ true → A.server.present (previous_in m.command) ≡ false
  pub unmade : (j : ℕ) → is_new m.session_id (A.server.making j) ≡ true → is_new m.session_id (s.making j) ≡ true × j ≢ m.connection

pub record Facts (s : Server) (m : Message) (A : Answer) : Type 0 where
  pub begins : Bool
  pub challenges : Bool
  pub makes : Bool
  pub present : (x : ℕ) → A.server.present x ≡ true → (begins ≡ true → x ≢ m.session_id) → s.present x ≡ true
  pub users : (x : ℕ) → A.server.present x ≡ true → (begins ≡ true → x ≢ m.session_id) → A.server.user x ≡ s.user x
  pub enters : begins ≡ true → Enters s m A
  pub making : (k y : ℕ) → is_new y (A.server.making k) ≡ true → (challenges ≡ true → y ≢ next_session s) → is_new y (s.making k) ≡ true
  pub epoch : A.server.epoch ≡ s.epoch
  pub counted : challenges ≡ true → A.server.session_ids_given ≡ s.session_ids_given + 1 × A.reply.session_id
      ≡ next_session s × is_new_setup m.command ≡ true
  pub uncounted : challenges ≡ false → A.server.session_ids_given ≡ s.session_ids_given × A.reply.session_id ≡ m.session_id
  pub once : begins ≡ true → challenges ≡ false
  pub welcome : A.reply.status ≡ success → is_new_setup m.command ≡ true → m.fault ≡ None → begins ≡ true
  pub interim : A.reply.status ≡ more_processing_required → is_new_setup m.command ≡ true → m.fault ≡ None → challenges ≡ true
  pub trees : (x id : ℕ) → s.present x ≡ true → A.server.present x ≡ true → m.command ≢ TreeDisconnect
      → is_some (tree_in (s.trees x) id) ≡ true → is_some (tree_in (A.server.trees x) id) ≡ true
  pub connected : A.reply.status ≡ success → is_tree_connect m.command ≡ true → m.fault ≡ None
      → is_some (tree_in (A.server.trees m.session_id) A.reply.tree_id) ≡ true
  pub opens : (o : ℕ) → A.server.standing o ≡ true → (makes ≡ true → o ≢ next_open s) → s.standing o ≡ true
  pub rows : (o : ℕ) → (makes ≡ true → o ≢ next_open s) → A.server.opened o ≡ s.opened o
  pub maker : makes ≡ true → (A.server.opened (next_open s)).user ≡ s.user m.session_id
      × (A.server.opened (next_open s)).client_guid ≡ m.client_guid × s.session_on m.connection ≡ Some m.session_id

-- ---- answers that leave sessions alone

no_setup : (c : Command) → asks c ≡ false → is_new_setup c ≡ true → (P : Type 0) → P
no_setup c a e P = absurd (grind arith)

asks_setup : (c : Command) → is_new_setup c ≡ true → asks c ≡ true
asks_setup c e = grind arith

asks_tree : (c : Command) → is_tree_connect c ≡ true → asks c ≡ true
asks_tree c e = grind arith

not_it : (status wanted : ℕ) → (status == wanted) ≡ false → status ≡ wanted → (P : Type 0) → P
not_it status wanted n e P = absurd (eqb-false status wanted n e)

abbrev Declines : Message → Answer → Type 0
Declines m A = asks m.command ≡ true → m.fault ≡ None → (A.reply.status == success) ≡ false
    × (A.reply.status == more_processing_required) ≡ false

pub quiet_facts : (s : Server) (m : Message) (A : Answer) → Stays s A.server → A.reply.session_id ≡ m.session_id
    → Declines m A → Facts s m A
quiet_facts s m A q own d =
    record {
      begins = false;
      challenges = false;
      makes = false;
      present = λ x p n. ap (λ f. f x) (sym q.present) ∙ p;
      users = λ x p n. ap (λ f. f x) q.user;
      enters = λ e. absurd (cc);
      making = λ k y e n. ap (λ f. is_new y (f k)) (sym q.making) ∙ e;
      epoch = q.epoch;
      counted = λ e. absurd (cc);
      uncounted = λ e. (q.session_ids_given, own);
      once = λ e. absurd (cc);
      welcome = λ e n f. not_it A.reply.status success (d (asks_setup m.command n) f).0 e _;
      interim = λ e n f. not_it A.reply.status more_processing_required (d (asks_setup m.command n) f).1 e _;
      trees = λ x id p r n h. ap (λ f. is_some (tree_in (f x) id)) q.trees ∙ h;
      connected = λ e n f. not_it A.reply.status success (d (asks_tree m.command n) f).0 e _;
      opens = λ o e n. q.standing o e;
      rows = λ o n. ap (λ f. f o) q.opened;
      maker = λ e. absurd (cc);
    }

-- the journal grows
stays_written : (s t : Server) (j : ℕ) → Stays s t → Stays s (record t { journal = j })
stays_written s t j q =
    record {
      present = q.present;
      user = q.user;
      trees = q.trees;
      next_tree = q.next_tree;
      epoch = q.epoch;
      open_ids_given = q.open_ids_given;
      session_ids_given = q.session_ids_given;
      making = q.making;
      session_on = q.session_on;
      opened = q.opened;
      standing = q.standing;
    }

pub untold : (b : Bool) → b ≡ false → b ≡ true → (P : Type 0) → P
untold b e f P = absurd (cc)

quiet_by : (s : Server) (m : Message) (B : Answer) (records : List Record) → Stays s B.server → B.reply.session_id
    ≡ m.session_id → asks m.command ≡ false → Facts s m (recorded B records)
quiet_by s m B records q own n = quiet_facts s m (recorded B records) (stays_written s B.server _ q) own
    (λ a f. untold (asks m.command) n a _)

-- ---- a session is asked for: its id is given

given_elsewhere : (f : ℕ → Option Making) (k n j y : ℕ) → is_new y (put f k (Some (NewSession n)) j) ≡ true → y ≢ n → is_new y (f j) ≡ true
given_elsewhere f k n j y e d = grind arith

new_not_tree : (c : Command) → is_new_setup c ≡ true → is_tree_connect c ≡ true → (P : Type 0) → P
unfolding is_new_setup is_tree_connect
new_not_tree c e f P = absurd (grind arith)

not_interim : (P : Type 0) → more_processing_required ≡ success → P
not_interim P e = absurd (cc)

challenged : (s : Server) (m : Message) (now : ℕ) (records : List Record) → is_new_setup m.command ≡ true
    → Facts s m (recorded (apply s m now Challenge) records)
challenged s m now records new =
    record {
      begins = false;
      challenges = true;
      makes = false;
      present = λ x p n. p;
      users = λ x p n. refl;
      enters = λ e. absurd (cc);
      making = λ k y e n. given_elsewhere s.making m.connection (next_session s) k y e (n refl);
      epoch = refl;
      counted = λ e. (refl, refl, new);
      uncounted = λ e. absurd (cc);
      once = λ e. absurd (cc);
      welcome = λ e n f. not_interim _ e;
      interim = λ e n f. refl;
      trees = λ x id p r n h. h;
      connected = λ e n f. not_interim _ e;
      opens = λ o e n. e;
      rows = λ o n. refl;
      maker = λ e. absurd (cc);
    }

-- ---- a further channel

bound_elsewhere : (f : ℕ → Option Making) (k x j y : ℕ) → is_new y (put f k (Some (Binding x)) j) ≡ true → is_new y (f j) ≡ true
bound_elsewhere f k x j y e = grind arith

pub none_elsewhere : (f : ℕ → Option Making) (k j y : ℕ) → is_new y (put f k None j) ≡ true → is_new y (f j) ≡ true
none_elsewhere f k j y e = grind arith

-- an answer that makes no session, gives no id and makes no open
silent_facts : (s : Server) (m : Message) (A : Answer) → asks m.command ≡ false
    → ((x : ℕ) → A.server.present x ≡ true → s.present x ≡ true) → A.server.user ≡ s.user
    → ((k y : ℕ) → is_new y (A.server.making k) ≡ true → is_new y (s.making k) ≡ true)
    → A.server.epoch ≡ s.epoch → A.server.session_ids_given ≡ s.session_ids_given → A.reply.session_id ≡ m.session_id
    → ((x id : ℕ) → A.server.present x ≡ true → m.command ≢ TreeDisconnect → is_some (tree_in (s.trees x) id) ≡ true
    → is_some (tree_in (A.server.trees x) id) ≡ true)
    → ((o : ℕ) → A.server.standing o ≡ true → s.standing o ≡ true) → A.server.opened ≡ s.opened → Facts s m A
silent_facts s m A quiet present user making epoch begun own trees standing opened =
    record {
      begins = false;
      challenges = false;
      makes = false;
      present = λ x p n. present x p;
      users = λ x p n. ap (λ f. f x) user;
      enters = λ e. absurd (cc);
      making = λ k y e n. making k y e;
      epoch = epoch;
      counted = λ e. absurd (cc);
      uncounted = λ e. (begun, own);
      once = λ e. absurd (cc);
      welcome = λ e n f. untold (asks m.command) quiet (asks_setup m.command n) _;
      interim = λ e n f. untold (asks m.command) quiet (asks_setup m.command n) _;
      trees = λ x id p r n h. trees x id r n h;
      connected = λ e n f. untold (asks m.command) quiet (asks_tree m.command n) _;
      opens = λ o e n. standing o e;
      rows = λ o n. ap (λ f. f o) opened;
      maker = λ e. absurd (cc);
    }

challenged_binding : (s : Server) (m : Message) (now session : ℕ) (records : List Record) → asks m.command ≡ false
    → Facts s m (recorded (apply s m now (ChallengeBinding session)) records)
challenged_binding s m now session records quiet =
    silent_facts s m (recorded (apply s m now (ChallengeBinding session)) records) quiet (λ x p. p) refl
    (λ k y e. bound_elsewhere s.making m.connection session k y e) refl refl refl (λ x id p n h. h) (λ o e. e) refl

joined : (s : Server) (m : Message) (now session : ℕ) (records : List Record) → asks m.command ≡ false
    → Facts s m (recorded (apply s m now (Join session)) records)
joined s m now session records quiet =
    silent_facts s m (recorded (apply s m now (Join session)) records) quiet (λ x p. p) refl
    (λ k y e. none_elsewhere s.making m.connection k y e) refl refl refl (λ x id p n h. h) (λ o e. e) refl

-- ---- a session ends

put_off : (f : ℕ → Bool) (y x : ℕ) → put f y false x ≡ true → f x ≡ true
put_off f y x e = grind arith

off_other : (f : ℕ → Bool) (y x : ℕ) → put f y false x ≡ true → x ≢ y
off_other f y x e = grind arith

off_trees : (f : ℕ → Bool) (g : ℕ → List Tree) (y x id : ℕ) → put f y false x ≡ true → is_some (tree_in (g x) id) ≡ true
    → is_some (tree_in (put g y [] x) id) ≡ true
off_trees f g y x id e h = let d = off_other f y x e in grind arith

fewer : (a b : Bool) → (a && not b) ≡ true → a ≡ true
fewer true b e = refl
fewer false b e = e

ended : (s : Server) (m : Message) (now session : ℕ) (is_quiet : Bool) (records : List Record) → asks m.command ≡ false
    → Facts s m (recorded (apply s m now (EndSession session is_quiet)) records)
ended s m now session is_quiet records quiet =
    silent_facts s m (recorded (apply s m now (EndSession session is_quiet)) records) quiet
    (λ x p. put_off s.present session x p) refl (λ k y e. e) refl refl refl
    (λ x id p n h. off_trees s.present s.trees session x id p h) (λ o e. fewer (s.standing o) _ e) refl

-- ---- trees

unasked : (P : Type 0) (c : Command) → c ≡ TreeDisconnect → asks c ≡ false
unfolding is_new_setup is_tree_connect
unasked P c e = ap asks e

dropped_tree : (s : Server) (m : Message) (now : ℕ) (records : List Record) → m.command ≡ TreeDisconnect
    → Facts s m (recorded (apply s m now DropTree) records)
dropped_tree s m now records is =
    let os = opens_of_tree s m.session_id m.tree_id in let b = closed_beside s m.session_id os in
    silent_facts s m (recorded (apply s m now DropTree) records) (unasked ℕ m.command is)
    (λ x p. ap (λ (f : ℕ → Bool). f x) (sym b.present) ∙ p) b.user
    (λ k y e. ap (λ (f : ℕ → Option Making). is_new y (f k)) (sym b.making) ∙ e) b.epoch b.session_ids_given refl
    (λ x id p n h. absurd (n is)) (λ o e. (closed_fewer s m.session_id os).standing o e) b.opened

more_trees : (ts : List Tree) (t : Tree) (id : ℕ) → is_some (tree_in ts id) ≡ true → is_some (tree_in (ts ++ t ∷ []) id) ≡ true
more_trees [] t id e = absurd (cc)
more_trees (x ∷ ts) t id e = let old = more_trees ts t id in grind arith

last_tree : (ts : List Tree) (t : Tree) → is_some (tree_in (ts ++ t ∷ []) t.id) ≡ true
last_tree [] t = grind arith
last_tree (x ∷ ts) t = let old = last_tree ts t in grind arith

put_trees : (f : ℕ → List Tree) (y x : ℕ) (ts : List Tree) (id : ℕ)
    → (is_some (tree_in (f y) id) ≡ true → is_some (tree_in ts id) ≡ true) → is_some (tree_in (f x) id) ≡ true
    → is_some (tree_in (put f y ts x) id) ≡ true
put_trees f y x ts id g h = grind arith

put_own : (f : ℕ → List Tree) (y : ℕ) (ts : List Tree) (id : ℕ) → is_some (tree_in ts id) ≡ true
    → is_some (tree_in (put f y ts y) id) ≡ true
put_own f y ts id h = grind arith

added_tree : (s : Server) (m : Message) (now : ℕ) (pipes : Bool) (records : List Record) → is_tree_connect m.command
    ≡ true → Facts s m (recorded (apply s m now (AddTree pipes)) records)
added_tree s m now pipes records is =
    record {
      begins = false;
      challenges = false;
      makes = false;
      present = λ x p n. p;
      users = λ x p n. refl;
      enters = λ e. absurd (cc);
      making = λ k y e n. e;
      epoch = refl;
      counted = λ e. absurd (cc);
      uncounted = λ e. (refl, refl);
      once = λ e. absurd (cc);
      welcome = λ e n f. new_not_tree m.command n is _;
      interim = λ e n f. new_not_tree m.command n is _;
      trees = λ x id p r n h. put_trees s.trees m.session_id x _ id (λ g. more_trees (s.trees m.session_id) (record {
        id = s.next_tree m.session_id;
        pipes = pipes;
      }) id g) h;
      connected = λ e n f. put_own s.trees m.session_id _ (s.next_tree m.session_id)
          (last_tree (s.trees m.session_id) (record { id = s.next_tree m.session_id; pipes = pipes }));
      opens = λ o e n. e;
      rows = λ o n. refl;
      maker = λ e. absurd (cc);
    }

-- ---- a session begins

-- what the end of the session before does
pub record Ends (s u : Server) (previous : Option ℕ) : Type 0 where
  pub present : (x : ℕ) → u.present x ≡ true → s.present x ≡ true
  pub user : u.user ≡ s.user
  pub making : u.making ≡ s.making
  pub epoch : u.epoch ≡ s.epoch
  pub session_ids_given : u.session_ids_given ≡ s.session_ids_given
  pub trees : (x id : ℕ) → u.present x ≡ true → is_some (tree_in (s.trees x) id) ≡ true → is_some (tree_in (u.trees x) id) ≡ true
  pub standing : (o : ℕ) → u.standing o ≡ true → s.standing o ≡ true
  pub opened : u.opened ≡ s.opened
  pub gone : (x : ℕ) → previous ≡ Some x → u.present x ≡ false

off_itself : (f : ℕ → Bool) (y x : ℕ) → Some y ≡ Some x → put f y false x ≡ false
off_itself f y x e = grind arith

pub ends : (s : Server) (now : ℕ) (is_quiet : Bool) (previous : Option ℕ) → Ends s (end_if_named s now previous is_quiet) previous
ends s now is_quiet None =
    record {
      present = λ x p. p;
      user = refl;
      making = refl;
      epoch = refl;
      session_ids_given = refl;
      trees = λ x id p h. h;
      standing = λ o e. e;
      opened = refl;
      gone = λ x e. absurd (cc);
    }
ends s now is_quiet (Some session) =
    record {
      present = λ x p. put_off s.present session x p;
      user = refl;
      making = refl;
      epoch = refl;
      session_ids_given = refl;
      trees = λ x id p h. off_trees s.present s.trees session x id p h;
      standing = λ o e. fewer (s.standing o) _ e;
      opened = refl;
      gone = λ x e. off_itself s.present session x e;
    }

on_elsewhere : (f : ℕ → Bool) (y x : ℕ) → put f y true x ≡ true → x ≢ y → f x ≡ true
on_elsewhere f y x e d = grind arith

user_elsewhere : (f : ℕ → List ℕ) (y x : ℕ) (u : List ℕ) → x ≢ y → put f y u x ≡ f x
user_elsewhere f y x u d = grind arith

user_itself : (f : ℕ → List ℕ) (y : ℕ) (u : List ℕ) → put f y u y ≡ u
user_itself f y u = grind arith

apart_of : (f : ℕ → Bool) (x y : ℕ) → f x ≡ true → f y ≡ false → x ≢ y
apart_of f x y a b = λ e. absurd (grind arith)

trees_elsewhere : (f : ℕ → List Tree) (y x id : ℕ) → x ≢ y → is_some (tree_in (f x) id) ≡ true → is_some (tree_in (put f y [] x) id) ≡ true
trees_elsewhere f y x id d h = grind arith

off_elsewhere : (f : ℕ → Bool) (y x : ℕ) → x ≢ y → f x ≡ false → put f y true x ≡ false
off_elsewhere f y x d e = grind arith

unmade_there : (f : ℕ → Option Making) (k j y : ℕ) → is_new y (put f k None j) ≡ true → j ≢ k
unmade_there f k j y e = grind arith

setup_words : (c : Command) (r : SetupRequest) → c ≡ Setup r → logs_on c ≡ is_logon r.shows × user_in c
    ≡ logon_user r.shows × previous_in c ≡ r.previous
unfolding logs_on user_in previous_in
setup_words c r e = (ap logs_on e, ap user_in e, ap previous_in e)

named : (s : Server) (user : List ℕ) (p : ℕ) → s.present p ≡ true → same_name (s.user p) user ≡ true → previous_of s user p ≡ Some p
named s user p a b = grind arith

entered : (s u : Server) (m : Message) (session : ℕ) (user : List ℕ) (previous : Option ℕ) (r : SetupRequest)
    (A : Answer) → Begun s m session user previous r → Ends s u previous
    → A.server.user ≡ put u.user m.session_id user → A.server.present ≡ put u.present m.session_id true
    → A.server.making ≡ put u.making m.connection None → Enters s m A
entered s u m session user previous r A b q users present making =
    let w = setup_words m.command r b.command in
    record {
      logs = w.0 ∙ b.logon;
      user = ap (λ f. f m.session_id) users ∙ user_itself u.user m.session_id user ∙ b.its_user ∙ sym w.1;
      made = b.made;
      gone = λ p n.
          let d = apart_of s.present (previous_in m.command) m.session_id p b.apart in
          let is : previous ≡ Some (previous_in m.command) = b.before ∙ ap (λ z. previous_of s user z) (sym w.2)
          ∙ named s user (previous_in m.command) p (ap (λ z. same_name (s.user (previous_in m.command)) z)
          (b.its_user ∙ sym w.1) ∙ n) in
          ap (λ f. f (previous_in m.command)) present ∙ off_elsewhere u.present m.session_id (previous_in m.command) d
          (q.gone (previous_in m.command) is);
      unmade = λ j e.
          let e2 : is_new m.session_id (put u.making m.connection None j) ≡ true = ap (λ f. is_new m.session_id (f j)) (sym making) ∙ e in (
            ap (λ f. is_new m.session_id (f j)) (sym q.making) ∙ none_elsewhere u.making m.connection j m.session_id e2,
            unmade_there u.making m.connection j m.session_id e2,
          );
    }

new_of : (m : Message) (r : SetupRequest) → m.command ≡ Setup r → r.binding ≡ false → is_new_setup m.command ≡ true
unfolding is_new_setup
new_of m r e b = ap is_new_setup e ∙ ap not b

not_more : (P : Type 0) → success ≡ more_processing_required → P
not_more P e = absurd (cc)

began : (s : Server) (m : Message) (now session : ℕ) (user : List ℕ) (previous : Option ℕ) (r : SetupRequest)
    (is_quiet : Bool) (records : List Record) → Begun s m session user previous r
    → Facts s m (recorded (apply s m now (Begin session user previous r is_quiet)) records)
began s m now session user previous r is_quiet records b =
    let u = end_if_named s now previous is_quiet in let q = ends s now is_quiet previous in let new = new_of m r b.command b.unbound in
    record {
      begins = true;
      challenges = false;
      makes = false;
      present = λ x p n. q.present x (on_elsewhere u.present m.session_id x p (n refl));
      users = λ x p n. user_elsewhere u.user m.session_id x user (n refl) ∙ ap (λ f. f x) q.user;
      enters = λ e. entered s u m session user previous r
          (recorded (apply s m now (Begin session user previous r is_quiet)) records) b q refl refl refl;
      making = λ k y e n. ap (λ f. is_new y (f k)) (sym q.making) ∙ none_elsewhere u.making m.connection k y e;
      epoch = q.epoch;
      counted = λ e. absurd (cc);
      uncounted = λ e. (q.session_ids_given, refl);
      once = λ e. refl;
      welcome = λ e n f. refl;
      interim = λ e n f. not_more _ e;
      trees = λ x id p a n h.
          let d = apart_of s.present x m.session_id p b.apart in trees_elsewhere u.trees m.session_id x id d
          (q.trees x id (on_elsewhere u.present m.session_id x a d) h);
      connected = λ e n f. new_not_tree m.command new n _;
      opens = λ o e n. q.standing o e;
      rows = λ o n. ap (λ f. f o) q.opened;
      maker = λ e. absurd (cc);
    }

-- ---- an open is made

row_elsewhere : (f : ℕ → Open) (y x : ℕ) (row : Open) → x ≢ y → put f y row x ≡ f x
row_elsewhere f y x row d = grind arith

row_itself : (f : ℕ → Open) (y : ℕ) (row : Open) → put f y row y ≡ row
row_itself f y row = grind arith

made_open : (s : Server) (m : Message) (now : ℕ) (r : CreateRequest) (found : Option ℕ) (action : ℕ)
    (records : List Record) → asks m.command ≡ false → s.session_on m.connection ≡ Some m.session_id
    → Facts s m (recorded (apply s m now (Make r found action)) records)
made_open s m now r found action records quiet on =
    let u = file_made s r found now in let q = stays_made s r found now in let row = open_row s m r (new_file s found) action in
    record {
      begins = false;
      challenges = false;
      makes = true;
      present = λ x p n. ap (λ f. f x) (sym q.present) ∙ p;
      users = λ x p n. ap (λ f. f x) q.user;
      enters = λ e. absurd (cc);
      making = λ k y e n. ap (λ f. is_new y (f k)) (sym q.making) ∙ e;
      epoch = q.epoch;
      counted = λ e. absurd (cc);
      uncounted = λ e. (q.session_ids_given, refl);
      once = λ e. absurd (cc);
      welcome = λ e n f. untold (asks m.command) quiet (asks_setup m.command n) _;
      interim = λ e n f. untold (asks m.command) quiet (asks_setup m.command n) _;
      trees = λ x id p a n h. ap (λ f. is_some (tree_in (f x) id)) q.trees ∙ h;
      connected = λ e n f. untold (asks m.command) quiet (asks_tree m.command n) _;
      opens = λ o e n. q.standing o (on_elsewhere u.standing (next_open s) o e (n refl));
      rows = λ o n. row_elsewhere u.opened (next_open s) o row (n refl) ∙ ap (λ f. f o) q.opened;
      maker = λ e.
          let i = row_itself u.opened (next_open s) row in (ap (λ (x : Open). x.user) i, ap (λ (x : Open). x.client_guid) i, on);
    }

-- ---- every verdict

pub by_verdicts : (s : Server) (m : Message) (now : ℕ) (records : List Record) (v : Verdict) → Found s m v
    → Facts s m (recorded (apply s m now v) records)
by_verdicts s m now records (Refuse status) f = quiet_facts s m (recorded (apply s m now (Refuse status)) records)
    (stays_written s s _ (stays_same s)) refl f
by_verdicts s m now records (Give body) f = quiet_by s m (apply s m now (Give body)) records (stays_same s) refl f.0
by_verdicts s m now records (KeepRefusal guid status) f = quiet_by s m (apply s m now (KeepRefusal guid status)) records
    (stays_refused s m.session_id guid status) refl f.0
by_verdicts s m now records (Repeat o r) f = quiet_by s m (apply s m now (Repeat o r)) records (stays_attached s m o) refl f.0
by_verdicts s m now records (Attach o r) f = quiet_by s m (apply s m now (Attach o r)) records (stays_attached s m o) refl f.0
by_verdicts s m now records (Make r found action) f = made_open s m now r found action records f.0 f.1
by_verdicts s m now records (TurnDown o status) f = quiet_by s m (apply s m now (TurnDown o status)) records (stays_reached s m o) refl f.0
by_verdicts s m now records (Tell o body) f = quiet_by s m (apply s m now (Tell o body)) records (stays_reached s m o) refl f.0
by_verdicts s m now records (Show o last body) f = quiet_by s m (apply s m now (Show o last body)) records
    (stays_so s (reach s m o) _ (stays_reached s m o) (stays_shown (reach s m o) _ _)) refl f.0
by_verdicts s m now records (KeepSlot o index number status elements) f =
    quiet_by s m (apply s m now (KeepSlot o index number status elements)) records
    (stays_so s (reach s m o) _ (stays_reached s m o) (stays_kept (reach s m o) o index number status)) refl f.0
by_verdicts s m now records (PutRanges o index number ranges elements) f =
    let a = reach s m o in let b = set_ranges a (file_of s o) ranges in
    quiet_by s m (apply s m now (PutRanges o index number ranges elements)) records
    (stays_so s a _ (stays_reached s m o) (stays_so a b _ (stays_ranged a (file_of s o) ranges)
    (stays_kept b o index number success))) refl f.0
by_verdicts s m now records (Alter o change body) f =
    quiet_by s m (apply s m now (Alter o change body)) records (stays_so s (reach s m o) _ (stays_reached s m o)
    (stays_changed (reach s m o) (file_of s o) now change)) refl f.0
by_verdicts s m now records (CloseOpen o body) f =
    quiet_by s m (apply s m now (CloseOpen o body)) records (stays_so s (leave_open s o) _ (stays_left s o)
    (stays_closed (leave_open s o) m.session_id (s.opened o).create_guid)) refl f.0
by_verdicts s m now records Challenge f = challenged s m now records f
by_verdicts s m now records (ChallengeBinding session) f = challenged_binding s m now session records f
by_verdicts s m now records (Begin session user previous r is_quiet) f = began s m now session user previous r is_quiet records f
by_verdicts s m now records (Join session) f = joined s m now session records f
by_verdicts s m now records (EndSession session is_quiet) f = ended s m now session is_quiet records f
by_verdicts s m now records (AddTree pipes) f = added_tree s m now pipes records f
by_verdicts s m now records DropTree f = dropped_tree s m now records f
