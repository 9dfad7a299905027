-- A step of the server keeps the kind of trees, and makes an open only where the kind isn't that of the pipes.
use Rattle.spec_exchange.specs.Effects.{opens_of_tree}
use Rattle.law_server.proofs.tables.Closing.{closed_fewer}
use Rattle.std.proofs.Common.{◌≡◌, ℕ, ◌==◌, Bool, true, false, not, ◌||◌, if◌then◌else◌, List, [], ◌∷◌, ◌++◌, inl, inr}
use Rattle.std.proofs.Common.{refl, arith, sym, ◌∙◌, ap, Option, Some, None}
use Rattle.spec_exchange.specs.Table.{put, is_at}
use Rattle.spec_exchange.specs.Status.{user_session_deleted, insufficient_resources, bad_network_name, disk_full}
use Rattle.spec_exchange.specs.Texts.{same_name}
use Rattle.spec_exchange.specs.Commands.{Command, CreateRequest, Durable, SetupRequest, TreeConnect, is_setup}
use Rattle.spec_exchange.specs.Commands.{Unreadable, Aside, Setup, Logoff, TreeDisconnect, Create, Close, Flush, Read}
use Rattle.spec_exchange.specs.Commands.{Write, Lock, Ioctl, ListDirectory, QueryFile, QueryVolume, SetInfo}
use Rattle.spec_exchange.specs.State.{Server, Message, ServerEvent, Accept, Heard, End, Answer, Record, Tree}
use Rattle.spec_exchange.specs.Opens.{leave_open}
use Rattle.spec_exchange.specs.Check.{check, owed, formed, command_check}
use Rattle.spec_exchange.specs.CheckCreate.{refused_by}
use Rattle.spec_exchange.specs.CheckOpen.{file_of}
use Rattle.spec_exchange.specs.CheckSetup.{tree_in, tree_check, pipes_name, no_tree_left}
use Rattle.spec_exchange.specs.Effects.{apply, reach, set_ranges, end_session, end_if_named, file_made, without_tree, leaves}
use Rattle.spec_exchange.specs.Verdict.{Verdict, Refuse, Give, KeepRefusal, Repeat, Attach, Make, TurnDown, Tell, Show}
use Rattle.spec_exchange.specs.Verdict.{KeepSlot, PutRanges, Alter, CloseOpen, Challenge, ChallengeBinding, Begin, Join}
use Rattle.spec_exchange.specs.Verdict.{EndSession, AddTree, DropTree}
use Rattle.spec_exchange.specs.Step.{step, without_room, Ruling, TakesIn, TurnsAway, TakesOut, ruling, carried_out, ends_with}
use Rattle.spec_exchange.specs.Network.{answer_to, untouched}
use Rattle.law_server.proofs.tables.Doors.{by_verdict, Finds}
use Rattle.law_server.proofs.tables.Logic.{either}
use Rattle.law_server.proofs.tables.Logic.{front_of}
use Rattle.law_server.proofs.tables.Doors.{by_ruling, Front}
use Rattle.law_server.proofs.tables.Found.{Facts, SessionFacts}
use Rattle.law_server.proofs.tables.Checked.{checked, found}
use Rattle.law_sessions.proofs.sessions.Columns.{Stays, stays_reached, stays_attached, stays_kept, stays_closed, stays_changed}
use Rattle.law_sessions.proofs.sessions.Columns.{stays_left, stays_made}
use Rattle.law_sessions.proofs.sessions.Heard.{before_stays}
use Rattle.law_sessions.proofs.sessions.Owed.{connects, connects_by, takes_in}
use Rattle.law_sessions.proofs.sessions.Written.{Clean}
use Rattle.law_sessions.proofs.sessions.Owed.{is_make}
use Rattle.law_sessions.proofs.sessions.Restoring.{bare_heard}

-- each tree is of this kind, and an open stands only where it isn't that of the pipes
abbrev pub AllOfKind : Bool → (ℕ → List Tree) → Type 0
AllOfKind kind trees = (x id : ℕ) (b : Bool) → tree_in (trees x) id ≡ Some b → b ≡ kind

abbrev pub Sorted : Bool → Server → Type 0
Sorted kind s = AllOfKind kind s.trees × ((o : ℕ) → s.standing o ≡ true → kind ≡ false)

sorted_stays : (kind : Bool) (s u : Server) → Stays s u → Sorted kind s → Sorted kind u
sorted_stays kind s u q i = (λ x id b h. i.0 x id b (ap (λ f. tree_in (f x) id) (sym q.trees) ∙ h), λ o h. i.1 o (q.standing o h))

-- ---- trees

put_kind : (kind : Bool) (f : ℕ → List Tree) (y : ℕ) (ts : List Tree) → ((id : ℕ) (b : Bool) → tree_in ts id ≡ Some b
    → b ≡ kind) → AllOfKind kind f → AllOfKind kind (put f y ts)
put_kind kind f y ts new old x id b = either (λ l. tree_in l id ≡ Some b → b ≡ kind) (x == y) ts (f x) (λ _. new id b) (λ _. old x id b)

no_trees : (kind : Bool) (id : ℕ) (b : Bool) → tree_in [] id ≡ Some b → b ≡ kind
no_trees kind id b h = absurd (cc)

added_tree : (kind : Bool) (ts : List Tree) (t : Tree) (id : ℕ) (b : Bool) → t.pipes ≡ kind
    → (tree_in ts id ≡ Some b → b ≡ kind) → tree_in (ts ++ t ∷ []) id ≡ Some b → b ≡ kind
added_tree kind [] t id b is old h = grind arith
added_tree kind (y ∷ ts) t id b is old h =
    either (λ o. (o ≡ Some b → b ≡ kind)) (y.id == id) (Some y.pipes) (tree_in (ts ++ t ∷ []) id)
    (λ e q. old (here (y.id == id) (Some y.pipes) (tree_in ts id) e ∙ q))
    (λ e. added_tree kind ts t id b is (λ q. old (there (y.id == id) (Some y.pipes) (tree_in ts id) e ∙ q)))
    h
  where
    here : (c : Bool) (u v : Option Bool) → c ≡ true → (if c then u else v) ≡ u
    here c u v e = rw e refl

    there : (c : Bool) (u v : Option Bool) → c ≡ false → (if c then u else v) ≡ v
    there c u v e = rw e refl

none_left : (id : ℕ) (ts : List Tree) → tree_in (without_tree id ts) id ≡ None
unfolding without_tree
none_left id [] = refl
none_left id (t ∷ ts) = let rest = none_left id ts in grind arith

dropped_tree : (gone : ℕ) (ts : List Tree) (id : ℕ) (b : Bool) → tree_in (without_tree gone ts) id ≡ Some b → tree_in ts id ≡ Some b
unfolding without_tree
dropped_tree gone [] id b h = h
dropped_tree gone (t ∷ ts) id b h = let rest = dropped_tree gone ts id b in let none = none_left gone ts in grind arith

-- ---- which tree a TREE_CONNECT adds

abbrev added : Verdict → Option Bool
added (AddTree pipes) = Some pipes
added _ = None

added_refused : (o : Option Durable) (status : ℕ) → added (refused_by o status) ≡ None
added_refused None status = refl
added_refused (Some d) status = refl

added_full : (v : Verdict) → added (without_room v) ≡ added v
added_full (Refuse status) = refl
added_full (Give body) = refl
added_full (KeepRefusal guid status) = refl
added_full (Repeat o r) = refl
added_full (Attach o r) = refl
added_full (Make r found action) = added_refused r.durable disk_full
added_full (TurnDown o status) = refl
added_full (Tell o body) = refl
added_full (Show o last body) = refl
added_full (KeepSlot o index number status elements) = refl
added_full (PutRanges o index number ranges elements) = refl
added_full (Alter o change body) = refl
added_full (CloseOpen o body) = refl
added_full Challenge = refl
added_full (ChallengeBinding session) = refl
added_full (Begin session user previous r is_quiet) = refl
added_full (Join session) = refl
added_full (EndSession session is_quiet) = refl
added_full (AddTree pipes) = refl
added_full DropTree = refl

added_by : (full pipes ours b : Bool) → (if full then Refuse insufficient_resources else if pipes then AddTree true else
    if ours then AddTree false else Refuse bad_network_name) ≡ AddTree b → b ≡ pipes
added_by true pipes ours b e = absurd (cc)
added_by false true ours b e = grind arith
added_by false false true b e = grind arith
added_by false false false b e = absurd (cc)

has_it : (x : ℕ) (o : Option ℕ) (b : Bool) → o ≡ Some x → (b || is_at x o) ≡ true
has_it x o b e = grind arith

asks_tree : (s : Server) (m : Message) (share : List ℕ) → SessionFacts s m → m.command ≡ TreeConnect share → check s m
    ≡ tree_check s m share
asks_tree s m share f command =
    ap (λ b. if b then owed s m m.fault else Refuse user_session_deleted)
    (has_it m.session_id (s.session_on m.connection) (is_setup m.command) f.session_on)
    ∙ ap (λ o. owed s m o) f.fault
    ∙ ap (λ o. formed s m o) f.formed
    ∙ ap (λ c. command_check s m c) command

added_here : (s : Server) (m : Message) (v : Verdict) (b : Bool) → Facts s m v → check s m ≡ v → added v ≡ Some b
    → (share : List ℕ) × m.command ≡ TreeConnect share × b ≡ same_name share pipes_name
added_here s m (AddTree pipes) b f e is =
    let t = sym (asks_tree s m f.share f.session f.command) ∙ e in (
      f.share,
      f.command,
      same_option pipes b is ∙ added_by (no_tree_left s m.session_id) (same_name f.share pipes_name)
          (same_name f.share s.share) pipes t,
    )
  where
    same_option : (p q : Bool) → Some p ≡ Some q → q ≡ p
    same_option p q e = grind arith
added_here s m _ b f e is = absurd (cc)

added_from : (s : Server) (m : Message) (v : Verdict) → Finds s m v → added v ≡ added (check s m)
added_from s m v (inl e) = ap added e
added_from s m v (inr e) = ap added e ∙ added_full (check s m)

abbrev Asks : List ℕ → Message → Type 0
Asks share m = (other : List ℕ) → m.command ≡ TreeConnect other → other ≡ share

added_kind : (share : List ℕ) (s : Server) (m : Message) (v : Verdict) → Asks share m → Finds s m v → (b : Bool)
    → added v ≡ Some b → b ≡ same_name share pipes_name
added_kind share s m v asks f b is =
    let h = added_here s m (check s m) b (checked s m) refl (sym (added_from s m v f) ∙ is) in
    h.2 ∙ ap (λ n. same_name n pipes_name) (asks h.0 h.1)

-- ---- sessions that end, and opens that are made

sorted_ended : (kind : Bool) (s : Server) (session now : ℕ) (is_quiet : Bool) → Sorted kind s
    → Sorted kind (end_session s session now is_quiet)
sorted_ended kind s session now is_quiet i = (
  put_kind kind s.trees session [] (no_trees kind) i.0,
  λ o h.
      i.1 o (front_of (s.standing o) (not (leaves s session o)) h),
)

sorted_named : (kind : Bool) (s : Server) (now : ℕ) (named : Option ℕ) (is_quiet : Bool) → Sorted kind s
    → Sorted kind (end_if_named s now named is_quiet)
sorted_named kind s now None is_quiet i = i
sorted_named kind s now (Some session) is_quiet i = sorted_ended kind s session now is_quiet i

sorted_made : (kind : Bool) (s : Server) (m : Message) (now : ℕ) (r : CreateRequest) (found : Option ℕ) (action : ℕ)
    → kind ≡ false → Sorted kind s → Sorted kind (apply s m now (Make r found action)).server
sorted_made kind s m now r found action plain i =
    ((sorted_stays kind s (file_made s r found now) (stays_made s r found now) i).0, λ o h. plain)

sorted_begun : (kind : Bool) (s : Server) (m : Message) (now session : ℕ) (user : List ℕ) (previous : Option ℕ)
    (r : SetupRequest) (is_quiet : Bool) → Sorted kind s
    → Sorted kind (apply s m now (Begin session user previous r is_quiet)).server
sorted_begun kind s m now session user previous r is_quiet i =
    let u = end_if_named s now previous is_quiet in let j = sorted_named kind s now previous is_quiet i in
    (put_kind kind u.trees m.session_id [] (no_trees kind) j.0, j.1)

sorted_added : (kind : Bool) (s : Server) (m : Message) (now : ℕ) (pipes : Bool) → pipes ≡ kind → Sorted kind s
    → Sorted kind (apply s m now (AddTree pipes)).server
sorted_added kind s m now pipes is i =
    let t : Tree = record { id = s.next_tree m.session_id; pipes = pipes } in (
      put_kind kind s.trees m.session_id (s.trees m.session_id ++ t ∷ []) (λ id b. added_tree kind (s.trees m.session_id)
          t id b is (i.0 m.session_id id b)) i.0,
      i.1,
    )

sorted_dropped : (kind : Bool) (s : Server) (m : Message) (now : ℕ) → Sorted kind s → Sorted kind (apply s m now DropTree).server
sorted_dropped kind s m now i = (
  put_kind kind s.trees m.session_id (without_tree m.tree_id (s.trees m.session_id))
      (λ id b h. i.0 m.session_id id b (dropped_tree m.tree_id (s.trees m.session_id) id b h)) i.0,
  λ o h. i.1 o ((closed_fewer s m.session_id (opens_of_tree s m.session_id m.tree_id)).standing o h),
)

-- ---- by verdict

-- what is made was asked for in a tree that isn't that of the pipes
made_plain : (kind : Bool) (s : Server) (m : Message) (v : Verdict) → Facts s m v → Sorted kind s → is_make v ≡ true → kind ≡ false
made_plain kind s m (Make r found action) f i e = sym (i.0 m.session_id m.tree_id false f.new.create.tree)
made_plain kind s m _ f i e = absurd (cc)

sorted_by : (kind : Bool) (s : Server) (m : Message) (now : ℕ) (v : Verdict) → (is_make v ≡ true → kind ≡ false)
    → ((b : Bool) → added v ≡ Some b → b ≡ kind) → Sorted kind s → Sorted kind (apply s m now v).server
sorted_by kind s m now (Refuse status) f g i = i
sorted_by kind s m now (Give body) f g i = i
sorted_by kind s m now (KeepRefusal guid status) f g i = i
sorted_by kind s m now (Repeat o r) f g i = sorted_stays kind s (apply s m now (Repeat o r)).server (stays_attached s m o) i
sorted_by kind s m now (Attach o r) f g i = sorted_stays kind s (apply s m now (Attach o r)).server (stays_attached s m o) i
sorted_by kind s m now (Make r found action) f g i = sorted_made kind s m now r found action (f refl) i
sorted_by kind s m now (TurnDown o status) f g i = sorted_stays kind s (reach s m o) (stays_reached s m o) i
sorted_by kind s m now (Tell o body) f g i = sorted_stays kind s (reach s m o) (stays_reached s m o) i
sorted_by kind s m now (Show o last body) f g i = sorted_stays kind s (reach s m o) (stays_reached s m o) i
sorted_by kind s m now (KeepSlot o index number status elements) f g i =
    let a = reach s m o in sorted_stays kind a (apply s m now (KeepSlot o index number status elements)).server
    (stays_kept a o index number status) (sorted_stays kind s a (stays_reached s m o) i)
sorted_by kind s m now (PutRanges o index number ranges elements) f g i =
    let a = reach s m o in let b = set_ranges a (file_of s o) ranges in
    sorted_stays kind b (apply s m now (PutRanges o index number ranges elements)).server
    (stays_kept b o index number _) (sorted_stays kind s a (stays_reached s m o) i)
sorted_by kind s m now (Alter o change body) f g i =
    let a = reach s m o in sorted_stays kind a (apply s m now (Alter o change body)).server
    (stays_changed a (file_of s o) now change) (sorted_stays kind s a (stays_reached s m o) i)
sorted_by kind s m now (CloseOpen o body) f g i =
    let a = leave_open s o in sorted_stays kind a (apply s m now (CloseOpen o body)).server
    (stays_closed a m.session_id (s.opened o).create_guid) (sorted_stays kind s a (stays_left s o) i)
sorted_by kind s m now Challenge f g i = i
sorted_by kind s m now (ChallengeBinding session) f g i = i
sorted_by kind s m now (Begin session user previous r is_quiet) f g i = sorted_begun kind s m now session user previous r is_quiet i
sorted_by kind s m now (Join session) f g i = i
sorted_by kind s m now (EndSession session is_quiet) f g i = sorted_ended kind s session now is_quiet i
sorted_by kind s m now (AddTree pipes) f g i = sorted_added kind s m now pipes (g pipes refl) i
sorted_by kind s m now DropTree f g i = sorted_dropped kind s m now i

-- ---- a message

heard_sorted : (share : List ℕ) (s : Server) (now : ℕ) (m : Message) → Asks share m
    → Sorted (same_name share pipes_name) s → Sorted (same_name share pipes_name) (step s now (Heard m)).server
heard_sorted share s now m asks i =
    let kind = same_name share pipes_name in
    by_verdict (λ A. Sorted kind A.server) s now m
    (λ t v records before finds. let j = sorted_stays kind s t (before_stays s now t before) i in
    sorted_by kind t m now v (made_plain kind t m v (found t m v finds) j) (added_kind share t m v asks finds) j)

not_both : (b : Bool) → (b ≡ true → true ≡ false) → b ≡ false
not_both true f = f refl
not_both false f = refl

heard_bare : (kind : Bool) (s : Server) (now : ℕ) (m : Message) → Sorted kind s → kind ≡ true → (g : ℕ)
    → Clean g [] (step s now (Heard m)).records
heard_bare kind s now m i piped g =
    bare_heard g s now m (λ t v before finds.
    not_both (is_make v) (λ e. sym piped ∙ made_plain kind t m v (found t m v finds)
    (sorted_stays kind s t (before_stays s now t before) i) e))

-- NEGOTIATE and ECHO touch nothing
by_answer : (P : Answer → Type 0) (s : Server) (now : ℕ) (m : Message) → ((status : ℕ) → P (untouched s m status))
    → P (step s now (Heard m)) → (c : Command) → P (answer_to s now m c)
by_answer P s now m f i (Aside status) = f status
by_answer P s now m f i (Unreadable status) = i
by_answer P s now m f i (Setup request) = i
by_answer P s now m f i Logoff = i
by_answer P s now m f i (TreeConnect share) = i
by_answer P s now m f i TreeDisconnect = i
by_answer P s now m f i (Create request) = i
by_answer P s now m f i (Close file query) = i
by_answer P s now m f i (Flush file) = i
by_answer P s now m f i (Read file at size minimum channel) = i
by_answer P s now m f i (Write file at bytes channel) = i
by_answer P s now m f i (Lock file index number elements) = i
by_answer P s now m f i (Ioctl file code room) = i
by_answer P s now m f i (ListDirectory file class restart single pattern room) = i
by_answer P s now m f i (QueryFile file class room) = i
by_answer P s now m f i (QueryVolume file class room) = i
by_answer P s now m f i (SetInfo file setting) = i

pub answer_sorted : (share : List ℕ) (s : Server) (now : ℕ) (m : Message) → Asks share m
    → Sorted (same_name share pipes_name) s → (c : Command) → Sorted (same_name share pipes_name)
    (answer_to s now m c).server
answer_sorted share s now m asks i c = by_answer (λ A. Sorted (same_name share pipes_name) A.server) s now m (λ _. i)
    (heard_sorted share s now m asks i) c

pub answer_bare : (kind : Bool) (s : Server) (now : ℕ) (m : Message) → Sorted kind s → kind ≡ true
    → (g : ℕ) (c : Command) → Clean g [] (answer_to s now m c).records
unfolding Clean
answer_bare kind s now m i piped g c = by_answer (λ A. Clean g [] A.records) s now m (λ _. tt) (heard_bare kind s now m i piped g) c

-- ---- a connection that is made or ends

sorted_rule : (kind : Bool) (s : Server) (now : ℕ) (r : Ruling) → connects r ≡ true → Sorted kind s
    → Sorted kind (carried_out s now r).server
sorted_rule kind s now (TakesIn k) c i = i
sorted_rule kind s now TurnsAway c i = i
sorted_rule kind s now (TakesOut k is_quiet) c i = sorted_named kind s now (ends_with s k) is_quiet i
sorted_rule kind s now _ c i = absurd (cc)

front_sorted : (kind : Bool) (s : Server) (now : ℕ) (e : ServerEvent) (t : Server) (front : List Record)
    → Front s now e t front → Sorted kind s → Sorted kind t
front_sorted kind s now e t front (inl q) i = sorted_stays kind s t (before_stays s now t (inl q.0)) i
front_sorted kind s now e t front (inr q) i = sorted_stays kind s t (before_stays s now t (inr (q.0, q.1, q.2))) i

connected_sorted : (kind : Bool) (s : Server) (now : ℕ) (e : ServerEvent)
    → ((t : Server) → connects (ruling t e) ≡ true) → Sorted kind s → Sorted kind (step s now e).server
connected_sorted kind s now e c i =
    by_ruling (λ A. Sorted kind A.server) s now e (λ t front r at rules. sorted_rule kind t now r
    (connects_by t e r (c t) rules) (front_sorted kind s now e t front at i))

pub accept_sorted : (kind : Bool) (s : Server) (now k : ℕ) → Sorted kind s → Sorted kind (step s now (Accept k)).server
accept_sorted kind s now k i = connected_sorted kind s now (Accept k) (λ t. takes_in t k) i

pub end_sorted : (kind : Bool) (s : Server) (now k : ℕ) → Sorted kind s → Sorted kind (step s now (End k)).server
end_sorted kind s now k i = connected_sorted kind s now (End k) (λ t. refl) i
