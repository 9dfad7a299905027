-- What the checks' verdicts say of sessions and trees.
use Rattle.std.proofs.Common.{◌≡◌, ℕ, ◌==◌, Bool, true, false, not, ◌&&◌, ◌||◌, nat_le, List, [], ◌∷◌, refl, arith, sym}
use Rattle.std.proofs.Common.{subst, ◌∙◌, ap, Option, Some, None, is_some}
use Rattle.spec_exchange.specs.Status.{success, more_processing_required, insufficient_resources, disk_full}
use Rattle.spec_exchange.specs.Status.{invalid_parameter, user_session_deleted}
use Rattle.spec_exchange.specs.Texts.{same_name}
use Rattle.spec_exchange.specs.Commands.{Command, Unreadable, Aside, Setup, Logoff, TreeConnect, TreeDisconnect, Create}
use Rattle.spec_exchange.specs.Commands.{Close, Flush, Read, Write, Lock, Ioctl, ListDirectory, QueryFile, QueryVolume}
use Rattle.spec_exchange.specs.Commands.{SetInfo, Element, SetupRequest, CreateRequest, Durable, Shows, Begins, Bad}
use Rattle.spec_exchange.specs.Commands.{Refused, Logon, Setting, form, is_setup, no_file}
use Rattle.spec_exchange.specs.State.{Server, Message, Named}
use Rattle.spec_exchange.specs.Opens.{max_ids}
use Rattle.spec_exchange.specs.Verdict.{Verdict, Refuse, Give, KeepRefusal, Repeat, Attach, Make, TurnDown, Tell, Show}
use Rattle.spec_exchange.specs.Verdict.{KeepSlot, PutRanges, Alter, CloseOpen, Challenge, ChallengeBinding, Begin, Join}
use Rattle.spec_exchange.specs.Verdict.{EndSession, AddTree, DropTree}
use Rattle.spec_exchange.specs.CheckCreate.{create_check, refused_by}
use Rattle.spec_exchange.specs.CheckOpen.{close_check, flush_check, read_check, write_check, lock_check, ioctl_check}
use Rattle.spec_exchange.specs.CheckOpen.{free_ioctl_check, list_check, file_query_check, volume_query_check, set_check}
use Rattle.spec_exchange.specs.CheckOpen.{listing_of}
use Rattle.spec_exchange.specs.CheckSetup.{session_check, binding_check, second_token, first_token, granted_session}
use Rattle.spec_exchange.specs.CheckSetup.{previous_of, setup_check, tree_check, tree_in, is_new, max_sessions}
use Rattle.spec_exchange.specs.CheckSetup.{pipes_name, no_tree_left}
use Rattle.spec_exchange.specs.Check.{check, owed, formed, command_check, with_tree, in_tree, tree_command, on_open, has_session}
use Rattle.spec_exchange.specs.Step.{without_room}
use Rattle.law_server.proofs.tables.Logic.{either, at_of, other_on}
use Rattle.law_sessions.specs.sessions.Sessions.{is_new_setup, is_tree_connect, is_logon, logon_user}

-- a new session or a tree is asked for
abbrev pub asks : Command → Bool
asks c = is_new_setup c || is_tree_connect c

-- of what begins a session
pub record Begun (s : Server) (m : Message) (session : ℕ) (user : List ℕ) (previous : Option ℕ) (r : SetupRequest) : Type 0 where
  pub command : m.command ≡ Setup r
  pub unbound : r.binding ≡ false
  pub own : session ≡ m.session_id
  pub logon : is_logon r.shows ≡ true
  pub its_user : user ≡ logon_user r.shows
  pub made : is_new m.session_id (s.making m.connection) ≡ true
  pub apart : s.present m.session_id ≡ false
  pub before : previous ≡ previous_of s user r.previous

abbrev pub OnFile : Server → Message → Type 0
OnFile s m = asks m.command ≡ false × s.session_on m.connection ≡ Some m.session_id

abbrev pub Found : Server → Message → Verdict → Type 0
Found s m (Refuse status) = asks m.command ≡ true → m.fault ≡ None → (status == success) ≡ false
    × (status == more_processing_required) ≡ false
Found s m (Give body) = OnFile s m
Found s m (KeepRefusal guid status) = OnFile s m
Found s m (Repeat o r) = OnFile s m
Found s m (Attach o r) = OnFile s m
Found s m (Make r found action) = OnFile s m
Found s m (TurnDown o status) = OnFile s m
Found s m (Tell o body) = OnFile s m
Found s m (Show o last body) = OnFile s m
Found s m (KeepSlot o index number status elements) = OnFile s m
Found s m (PutRanges o index number ranges elements) = OnFile s m
Found s m (Alter o change body) = OnFile s m
Found s m (CloseOpen o body) = OnFile s m
Found s m Challenge = is_new_setup m.command ≡ true
Found s m (ChallengeBinding session) = asks m.command ≡ false
Found s m (Begin session user previous r is_quiet) = Begun s m session user previous r
Found s m (Join session) = asks m.command ≡ false
Found s m (EndSession session is_quiet) = asks m.command ≡ false
Found s m (AddTree pipes) = is_tree_connect m.command ≡ true
Found s m DropTree = m.command ≡ TreeDisconnect

-- ---- a new session

abbrev Asked : Message → SetupRequest → Type 0
Asked m r = m.command ≡ Setup r × r.binding ≡ false

granted : (s : Server) (m : Message) (r : SetupRequest) (user : List ℕ) → Asked m r → s.present m.session_id ≡ false
    → is_new m.session_id (s.making m.connection) ≡ true → r.shows ≡ Logon user → Found s m (granted_session s m r user)
granted s m r user q apart made shows =
    let P : Verdict → Type 0 = λ v. Found s m v in
    either P (s.encrypts && (r.cipher == 0)) _ _ (λ _ a f. (refl, refl))
    (λ _. either P (nat_le max_sessions s.sessions) _ _ (λ _ a f. (refl, refl))
    (λ _. record {
      command = q.0;
      unbound = q.1;
      own = refl;
      logon = ap is_logon shows;
      its_user = ap logon_user (sym shows);
      made = made;
      apart = apart;
      before = refl;
    }))

second : (s : Server) (m : Message) (r : SetupRequest) → Asked m r → s.present m.session_id ≡ false
    → is_new m.session_id (s.making m.connection) ≡ true → (shows : Shows) → r.shows ≡ shows
    → Found s m (second_token s m r shows)
second s m r q apart made Begins e = λ a f. (refl, refl)
second s m r q apart made Bad e = λ a f. (refl, refl)
second s m r q apart made Refused e = λ a f. (refl, refl)
second s m r q apart made (Logon user) e = granted s m r user q apart made e

asks_new : (m : Message) (r : SetupRequest) → Asked m r → is_new_setup m.command ≡ true
unfolding is_new_setup
asks_new m r q = ap is_new_setup q.0 ∙ ap not q.1

first : (s : Server) (m : Message) (r : SetupRequest) → Asked m r → (shows : Shows) → Found s m (first_token s shows)
first s m r q Begins = either (λ v. Found s m v) (nat_le max_ids s.session_ids_given) (Refuse insufficient_resources)
    Challenge (λ _ a f. (refl, refl)) (λ _. asks_new m r q)
first s m r q Bad = λ a f. (refl, refl)
first s m r q Refused = λ a f. (refl, refl)
first s m r q (Logon user) = λ a f. (refl, refl)

new_session : (s : Server) (m : Message) (r : SetupRequest) → Asked m r → Found s m (session_check s m r)
new_session s m r q =
    let P : Verdict → Type 0 = λ v. Found s m v in
    either P (m.session_id == 0) _ _ (λ _. either P (is_some (s.session_on m.connection)) _ _ (λ _ a f. (refl, refl))
    (λ _. first s m r q r.shows))
    (λ _. either P (s.present m.session_id) _ _ (λ _ a f. (refl, refl))
    (λ apart. either P (is_new m.session_id (s.making m.connection)) _ _ (λ made. second s m r q apart made r.shows
    refl) (λ _ a f. (refl, refl))))

-- ---- a further channel

abbrev binds_only : Verdict → Bool
binds_only (Refuse status) = true
binds_only (ChallengeBinding session) = true
binds_only (Join session) = true
binds_only _ = false

binding : (s : Server) (m : Message) (r : SetupRequest) → binds_only (binding_check s m r) ≡ true
binding s m r = grind arith

untold : (b : Bool) → b ≡ false → b ≡ true → (P : Type 0) → P
untold b e f P = absurd (cc)

by_binding : (s : Server) (m : Message) → asks m.command ≡ false → (v : Verdict) → binds_only v ≡ true → Found s m v
by_binding s m n (Refuse status) b = λ a f. untold (asks m.command) n a _
by_binding s m n (ChallengeBinding session) b = n
by_binding s m n (Join session) b = n
by_binding s m n _ b = absurd (cc)

bound_asks : (m : Message) (r : SetupRequest) → m.command ≡ Setup r → r.binding ≡ true → asks m.command ≡ false
unfolding is_new_setup is_tree_connect
bound_asks m r e b = ap asks e ∙ ap (λ x. not x || false) b

setups : (s : Server) (m : Message) (r : SetupRequest) → m.command ≡ Setup r → Found s m (setup_check s m r)
setups s m r e =
    either (λ v. Found s m v) r.binding (binding_check s m r) (session_check s m r)
    (λ b. by_binding s m (bound_asks m r e b) (binding_check s m r) (binding s m r))
    (λ b. new_session s m r (e, b))

-- ---- trees

asks_tree : (m : Message) (share : List ℕ) → m.command ≡ TreeConnect share → is_tree_connect m.command ≡ true
unfolding is_tree_connect
asks_tree m share e = ap is_tree_connect e

trees : (s : Server) (m : Message) (share : List ℕ) → m.command ≡ TreeConnect share → Found s m (tree_check s m share)
trees s m share e =
    let P : Verdict → Type 0 = λ v. Found s m v in
    either P (no_tree_left s m.session_id) _ _ (λ _ a f. (refl, refl))
    (λ _. either P (same_name share pipes_name) _ _ (λ _. asks_tree m share e)
    (λ _. either P (same_name share s.share) _ _ (λ _. asks_tree m share e) (λ _ a f. (refl, refl))))

-- ---- what names an open, or makes one

abbrev on_file : Verdict → Bool
on_file (Refuse status) = true
on_file (Give body) = true
on_file (KeepRefusal guid status) = true
on_file (Repeat o r) = true
on_file (Attach o r) = true
on_file (Make r found action) = true
on_file (TurnDown o status) = true
on_file (Tell o body) = true
on_file (Show o last body) = true
on_file (KeepSlot o index number status elements) = true
on_file (PutRanges o index number ranges elements) = true
on_file (Alter o change body) = true
on_file (CloseOpen o body) = true
on_file _ = false

by_file : (s : Server) (m : Message) → asks m.command ≡ false → s.session_on m.connection ≡ Some m.session_id
    → (v : Verdict) → on_file v ≡ true → Found s m v
by_file s m n o (Refuse status) b = λ a f. untold (asks m.command) n a _
by_file s m n o (Give body) b = (n, o)
by_file s m n o (KeepRefusal guid status) b = (n, o)
by_file s m n o (Repeat i r) b = (n, o)
by_file s m n o (Attach i r) b = (n, o)
by_file s m n o (Make r found action) b = (n, o)
by_file s m n o (TurnDown i status) b = (n, o)
by_file s m n o (Tell i body) b = (n, o)
by_file s m n o (Show i last body) b = (n, o)
by_file s m n o (KeepSlot i index number status elements) b = (n, o)
by_file s m n o (PutRanges i index number ranges elements) b = (n, o)
by_file s m n o (Alter i change body) b = (n, o)
by_file s m n o (CloseOpen i body) b = (n, o)
by_file s m n o _ b = absurd (cc)

file_create : (s : Server) (m : Message) (r : CreateRequest) (pipes : Bool) → on_file (create_check s m r pipes) ≡ true
file_create s m r pipes = grind arith

file_close : (s : Server) (o : ℕ) (query : Bool) → on_file (close_check s o query) ≡ true
file_close s o query = grind arith

file_flush : (s : Server) (o : ℕ) → on_file (flush_check s o) ≡ true
file_flush s o = grind arith

file_read : (s : Server) (o at size minimum : ℕ) → on_file (read_check s o at size minimum) ≡ true
file_read s o at size minimum = grind arith

file_write : (s : Server) (m : Message) (o at : ℕ) (bytes : List ℕ) → on_file (write_check s m o at bytes) ≡ true
file_write s m o at bytes = grind arith

file_lock : (s : Server) (o index number : ℕ) (elements : List Element) → on_file (lock_check s o index number elements) ≡ true
file_lock s o index number elements = grind arith

file_ioctl : (s : Server) (m : Message) (o code room : ℕ) → on_file (ioctl_check s m o code room) ≡ true
file_ioctl s m o code room = grind arith

file_free_ioctl : (s : Server) (code room : ℕ) → on_file (free_ioctl_check s code room) ≡ true
file_free_ioctl s code room = grind arith

file_listing : (o class : ℕ) (last : Option (List ℕ)) (all fit : List Named) → on_file (listing_of o class last all fit) ≡ true
unfolding listing_of
file_listing o class last [] fit = refl
file_listing o class last (n ∷ ns) [] = refl
file_listing o class last (n ∷ ns) (k ∷ ks) = refl

file_list : (s : Server) (o class : ℕ) (restart single : Bool) (pattern : List ℕ) (room : ℕ)
    → on_file (list_check s o class restart single pattern room) ≡ true
file_list s o class restart single pattern room = grind (arith, file_listing)

file_query : (s : Server) (o class room : ℕ) → on_file (file_query_check s o class room) ≡ true
file_query s o class room = grind arith

file_volume : (s : Server) (o class room : ℕ) → on_file (volume_query_check s o class room) ≡ true
file_volume s o class room = grind arith

file_set : (s : Server) (m : Message) (o : ℕ) (setting : Setting) → on_file (set_check s m o setting) ≡ true
file_set s m o setting = grind arith

-- ---- every check

-- a command that names an open or makes one, or none that the server knows
abbrev plain : Command → Bool
plain (Setup request) = false
plain Logoff = false
plain (TreeConnect share) = false
plain TreeDisconnect = false
plain _ = true

plain_asks : (c : Command) → plain c ≡ true → asks c ≡ false
unfolding is_new_setup is_tree_connect
plain_asks c p = grind arith

file_open : (s : Server) (m : Message) (o : ℕ) (v : Verdict) → on_file v ≡ true → on_file (on_open s m o v) ≡ true
file_open s m o v e = grind arith

file_tree : (s : Server) (m : Message) (pipes : Bool) (c : Command) → plain c ≡ true → on_file (tree_command s m pipes c) ≡ true
file_tree s m pipes (Unreadable status) p = refl
file_tree s m pipes (Aside status) p = refl
file_tree s m pipes (Create request) p = file_create s m request pipes
file_tree s m pipes (Close o query) p = file_open s m o (close_check s o query) (file_close s o query)
file_tree s m pipes (Flush o) p = file_open s m o (flush_check s o) (file_flush s o)
file_tree s m pipes (Read o at size minimum channel) p = file_open s m o (read_check s o at size minimum) (file_read s o at size minimum)
file_tree s m pipes (Write o at bytes channel) p = file_open s m o (write_check s m o at bytes) (file_write s m o at bytes)
file_tree s m pipes (Lock o index number elements) p = file_open s m o (lock_check s o index number elements)
    (file_lock s o index number elements)
file_tree s m pipes (Ioctl o code room) p =
    either (λ v. on_file v ≡ true) (o == no_file) (free_ioctl_check s code room) (on_open s m o (ioctl_check s m o code room))
    (λ _. file_free_ioctl s code room) (λ _. file_open s m o (ioctl_check s m o code room) (file_ioctl s m o code room))
file_tree s m pipes (ListDirectory o class restart single pattern room) p =
    file_open s m o (list_check s o class restart single pattern room) (file_list s o class restart single pattern room)
file_tree s m pipes (QueryFile o class room) p = file_open s m o (file_query_check s o class room) (file_query s o class room)
file_tree s m pipes (QueryVolume o class room) p = file_open s m o (volume_query_check s o class room) (file_volume s o class room)
file_tree s m pipes (SetInfo o setting) p = file_open s m o (set_check s m o setting) (file_set s m o setting)
file_tree s m pipes _ p = absurd (cc)

file_in_tree : (s : Server) (m : Message) (pipes : Option Bool) → plain m.command ≡ true → on_file (in_tree s m pipes) ≡ true
file_in_tree s m None p = refl
file_in_tree s m (Some pipes) p = file_tree s m pipes m.command p

with_a_tree : (s : Server) (m : Message) → plain m.command ≡ true → s.session_on m.connection ≡ Some m.session_id
    → Found s m (with_tree s m)
with_a_tree s m p o = by_file s m (plain_asks m.command p) o (with_tree s m) (file_in_tree s m (tree_in (s.trees m.session_id) m.tree_id) p)

not_asks : (m : Message) (c : Command) → asks c ≡ false → m.command ≡ c → (n : Bool) → n ≡ asks m.command → n ≡ false
not_asks m c a e n i = i ∙ ap asks e ∙ a

drops : (s : Server) (m : Message) (pipes : Option Bool) → m.command ≡ TreeDisconnect → Found s m (in_tree s m pipes)
drops s m None e = λ a f. (refl, refl)
drops s m (Some pipes) e = subst (λ c. Found s m (tree_command s m pipes c)) (sym e) e

log_off : (m : Message) → m.command ≡ Logoff → asks m.command ≡ false
unfolding is_new_setup is_tree_connect
log_off m e = ap asks e

refuse_plain : (s : Server) (m : Message) (c : Command) (status : ℕ) → plain c ≡ true → m.command ≡ c → Found s m (Refuse status)
refuse_plain s m c status p e = λ a f. untold (asks m.command) (ap asks e ∙ plain_asks c p) a _

-- the command, where its session is there or it is a SESSION_SETUP
of_command : (s : Server) (m : Message) → (is_setup m.command ≡ false → s.session_on m.connection ≡ Some m.session_id)
    → (c : Command) → m.command ≡ c → Found s m (command_check s m c)
of_command s m o (Unreadable status) e = refuse_plain s m (Unreadable status) status refl e
of_command s m o (Setup request) e = setups s m request e
of_command s m o Logoff e = log_off m e
of_command s m o (TreeConnect share) e = trees s m share e
of_command s m o (Aside status) e = refuse_plain s m (Aside status) status refl e
of_command s m o TreeDisconnect e = drops s m (tree_in (s.trees m.session_id) m.tree_id) e
of_command s m o (Create request) e = with_a_tree s m (ap plain e) (o (ap is_setup e))
of_command s m o (Close file query) e = with_a_tree s m (ap plain e) (o (ap is_setup e))
of_command s m o (Flush file) e = with_a_tree s m (ap plain e) (o (ap is_setup e))
of_command s m o (Read file at size minimum channel) e = with_a_tree s m (ap plain e) (o (ap is_setup e))
of_command s m o (Write file at bytes channel) e = with_a_tree s m (ap plain e) (o (ap is_setup e))
of_command s m o (Lock file index number elements) e = with_a_tree s m (ap plain e) (o (ap is_setup e))
of_command s m o (Ioctl file code room) e = with_a_tree s m (ap plain e) (o (ap is_setup e))
of_command s m o (ListDirectory file class restart single pattern room) e = with_a_tree s m (ap plain e) (o (ap is_setup e))
of_command s m o (QueryFile file class room) e = with_a_tree s m (ap plain e) (o (ap is_setup e))
of_command s m o (QueryVolume file class room) e = with_a_tree s m (ap plain e) (o (ap is_setup e))
of_command s m o (SetInfo file setting) e = with_a_tree s m (ap plain e) (o (ap is_setup e))

-- a form that is broken is refused with this status alone
setup_form : (c : Command) (status : ℕ) → asks c ≡ true → form c ≡ Some status → status ≡ invalid_parameter
unfolding is_new_setup is_tree_connect
setup_form (Setup request) status a e = grind arith
setup_form (TreeConnect share) status a e = absurd (cc)
setup_form _ status a e = absurd (cc)

refuse_form : (s : Server) (m : Message) (status : ℕ) → form m.command ≡ Some status → Found s m (Refuse status)
refuse_form s m status e = λ a f. subst (λ x. (x == success) ≡ false × (x == more_processing_required) ≡ false)
    (sym (setup_form m.command status a e)) (refl, refl)

of_form : (s : Server) (m : Message) → (is_setup m.command ≡ false → s.session_on m.connection ≡ Some m.session_id)
    → (o : Option ℕ) → form m.command ≡ o → Found s m (formed s m o)
of_form s m o (Some status) e = refuse_form s m status e
of_form s m o None e = of_command s m o m.command refl

of_fault : (s : Server) (m : Message) → (is_setup m.command ≡ false → s.session_on m.connection ≡ Some m.session_id)
    → (o : Option ℕ) → m.fault ≡ o → Found s m (owed s m o)
of_fault s m o (Some status) e = λ a f. absurd (cc)
of_fault s m o None e = of_form s m o (form m.command) refl

pub found : (s : Server) (m : Message) → Found s m (check s m)
found s m =
    either (λ v. Found s m v) (is_setup m.command || has_session s m) (owed s m m.fault) (Refuse user_session_deleted)
    (λ e. of_fault s m (λ n. at_of m.session_id (s.session_on m.connection)
    (other_on (is_setup m.command) (has_session s m) e n)) m.fault refl)
    (λ _ a f. (refl, refl))

-- ---- where the records don't fit

full_create : (s : Server) (m : Message) → OnFile s m → (o : Option Durable) → Found s m (refused_by o disk_full)
full_create s m f None = λ a n. untold (asks m.command) f.0 a _
full_create s m f (Some d) = f

pub found_full : (s : Server) (m : Message) (v : Verdict) → Found s m v → Found s m (without_room v)
found_full s m (Refuse status) f = f
found_full s m (Give body) f = f
found_full s m (KeepRefusal guid status) f = f
found_full s m (Repeat o r) f = f
found_full s m (Attach o r) f = f
found_full s m (Make r place action) f = full_create s m f r.durable
found_full s m (TurnDown o status) f = f
found_full s m (Tell o body) f = f
found_full s m (Show o last body) f = f
found_full s m (KeepSlot o index number status elements) f = f
found_full s m (PutRanges o index number ranges elements) f = f
found_full s m (Alter o change body) f = f
found_full s m (CloseOpen o body) f = f
found_full s m Challenge f = f
found_full s m (ChallengeBinding session) f = f
found_full s m (Begin session user previous r is_quiet) f = f
found_full s m (Join session) f = f
found_full s m (EndSession session is_quiet) f = f
found_full s m (AddTree pipes) f = f
found_full s m DropTree f = λ a e. (refl, refl)
