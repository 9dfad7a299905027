-- The checks grant a tree to a TREE_CONNECT alone, while an id is left.
use Rattle.std.proofs.lemmas.Bool.{eqb-false}
use Rattle.std.proofs.lemmas.Bool.Decides.{nat_tests}
use Rattle.std.proofs.Common.{◌≡◌, ℕ, ◌≤◌, ◌==◌, nat_le, nat_lt, Bool, true, false, ◌||◌, List, inl, inr, refl, sym, ap}
use Rattle.std.proofs.Common.{◌∙◌, subst, arith, length}
use Rattle.std.proofs.Common.{Option, Some, None}
use Rattle.spec_exchange.specs.Status.{success, user_session_deleted, disk_full}
use Rattle.spec_exchange.specs.Texts.{same_name}
use Rattle.spec_exchange.specs.Commands.{Command, Aside, Unreadable, Setup, Logoff, TreeConnect, TreeDisconnect, Create, Close, Flush, Read}
use Rattle.spec_exchange.specs.Commands.{Write, Lock, Ioctl, ListDirectory, QueryFile, QueryVolume, SetInfo, Durable, form, is_setup}
use Rattle.spec_exchange.specs.State.{Server, Message, Record, Heard}
use Rattle.spec_exchange.specs.Verdict.{Verdict, Refuse, Give, KeepRefusal, Repeat, Attach, Make, TurnDown, Tell, Show, KeepSlot, PutRanges}
use Rattle.spec_exchange.specs.Verdict.{Alter, CloseOpen, Challenge, ChallengeBinding, Begin, Join, EndSession, AddTree, DropTree}
use Rattle.spec_exchange.specs.CheckCreate.{refused_by}
use Rattle.spec_exchange.specs.CheckSetup.{last_tree, max_trees, no_tree_left, tree_check, pipes_name}
use Rattle.spec_exchange.specs.Check.{command_check, formed, owed, has_session, check}
use Rattle.spec_exchange.specs.Effects.{apply, connected}
use Rattle.spec_exchange.specs.Step.{step, without_room}
use Rattle.spec_exchange.specs.Network.{answer_to}
use Rattle.law_server.proofs.tables.Logic.{either, back_off}
use Rattle.law_server.proofs.tables.Doors.{by_verdict, recorded, Finds}
use Rattle.law_sessions.specs.sessions.Sessions.{is_tree_connect}
use Rattle.law_sessions.proofs.sessions.Checks.{Found, found}
use Rattle.law_answers.specs.answers.Trees.{TellsTree, TreesAreTold, IsConnected, TreesAreConnected}

-- of a verdict: an id is left for the tree that it grants
abbrev Left : Server → Message → Verdict → Type 0
Left s m (AddTree pipes) = s.next_tree m.session_id ≤ last_tree
Left s m _ = Unit {0}

left_over : (n : ℕ) → nat_lt last_tree n ≡ false → n ≤ last_tree
left_over n e = grind (arith, nat_tests)

granted : (s : Server) (m : Message) (share : List ℕ) → Left s m (tree_check s m share)
granted s m share =
    let P : Verdict → Type 0 = λ v. Left s m v in
    either P (no_tree_left s m.session_id) _ _ (λ _. tt)
    (λ e. (let l = left_over (s.next_tree m.session_id)
    (back_off (nat_le max_trees (length (s.trees m.session_id))) (nat_lt last_tree (s.next_tree m.session_id)) e) in
    either P (same_name share pipes_name) (AddTree true) _ (λ _. l)
    (λ _. either P (same_name share s.share) (AddTree false) _ (λ _. l) (λ _. tt))))

by_form : (s : Server) (m : Message) (share : List ℕ) → m.command ≡ TreeConnect share → (o : Option ℕ) → Left s m (formed s m o)
by_form s m share e (Some status) = tt
by_form s m share e None = subst (λ c. Left s m (command_check s m c)) (sym e) (granted s m share)

by_fault : (s : Server) (m : Message) (share : List ℕ) → m.command ≡ TreeConnect share → (o : Option ℕ) → Left s m (owed s m o)
by_fault s m share e (Some status) = tt
by_fault s m share e None = by_form s m share e (form m.command)

checked : (s : Server) (m : Message) (share : List ℕ) → m.command ≡ TreeConnect share → Left s m (check s m)
checked s m share e =
    either (λ v. Left s m v) (is_setup m.command || has_session s m) (owed s m m.fault) (Refuse user_session_deleted)
    (λ _. by_fault s m share e m.fault) (λ _. tt)

-- no other command is granted one
others : (s : Server) (m : Message) (v : Verdict) → is_tree_connect m.command ≡ false → Found s m v → Left s m v
others s m (AddTree pipes) off f = absurd (let h : true ≡ false = sym f ∙ off in cc)
others s m (Refuse status) off f = tt
others s m (Give body) off f = tt
others s m (KeepRefusal guid status) off f = tt
others s m (Repeat o request) off f = tt
others s m (Attach o request) off f = tt
others s m (Make request place action) off f = tt
others s m (TurnDown o status) off f = tt
others s m (Tell o body) off f = tt
others s m (Show o last body) off f = tt
others s m (KeepSlot o index number status elements) off f = tt
others s m (PutRanges o index number ranges elements) off f = tt
others s m (Alter o change body) off f = tt
others s m (CloseOpen o body) off f = tt
others s m Challenge off f = tt
others s m (ChallengeBinding session) off f = tt
others s m (Begin session user previous request is_quiet) off f = tt
others s m (Join session) off f = tt
others s m (EndSession session is_quiet) off f = tt
others s m DropTree off f = tt

other : (s : Server) (m : Message) → is_tree_connect m.command ≡ false → Left s m (check s m)
other s m off = others s m (check s m) off (found s m)

of_command : (s : Server) (m : Message) (c : Command) → m.command ≡ c → Left s m (check s m)
unfolding is_tree_connect
of_command s m (TreeConnect share) e = checked s m share e
of_command s m (Aside status) e = other s m (ap is_tree_connect e)
of_command s m (Unreadable status) e = other s m (ap is_tree_connect e)
of_command s m (Setup request) e = other s m (ap is_tree_connect e)
of_command s m Logoff e = other s m (ap is_tree_connect e)
of_command s m TreeDisconnect e = other s m (ap is_tree_connect e)
of_command s m (Create request) e = other s m (ap is_tree_connect e)
of_command s m (Close file query) e = other s m (ap is_tree_connect e)
of_command s m (Flush file) e = other s m (ap is_tree_connect e)
of_command s m (Read file at size minimum channel) e = other s m (ap is_tree_connect e)
of_command s m (Write file at bytes channel) e = other s m (ap is_tree_connect e)
of_command s m (Lock file index number elements) e = other s m (ap is_tree_connect e)
of_command s m (Ioctl file code room) e = other s m (ap is_tree_connect e)
of_command s m (ListDirectory file class restart single pattern room) e = other s m (ap is_tree_connect e)
of_command s m (QueryFile file class room) e = other s m (ap is_tree_connect e)
of_command s m (QueryVolume file class room) e = other s m (ap is_tree_connect e)
of_command s m (SetInfo file setting) e = other s m (ap is_tree_connect e)

full : (s : Server) (m : Message) (v : Verdict) → Left s m v → Left s m (without_room v)
full s m (AddTree pipes) f = f
full s m (Refuse status) f = tt
full s m (Give body) f = tt
full s m (KeepRefusal guid status) f = tt
full s m (Repeat o request) f = tt
full s m (Attach o request) f = tt
full s m (Make request place action) f = by request.durable
  where
    by : (d : Option Durable) → Left s m (refused_by d disk_full)
    by None = tt
    by (Some d) = tt
full s m (TurnDown o status) f = tt
full s m (Tell o body) f = tt
full s m (Show o last body) f = tt
full s m (KeepSlot o index number status elements) f = tt
full s m (PutRanges o index number ranges elements) f = tt
full s m (Alter o change body) f = tt
full s m (CloseOpen o body) f = tt
full s m Challenge f = tt
full s m (ChallengeBinding session) f = tt
full s m (Begin session user previous request is_quiet) f = tt
full s m (Join session) f = tt
full s m (EndSession session is_quiet) f = tt
full s m DropTree f = tt

finds : (t : Server) (m : Message) (v : Verdict) → Finds t m v → Left t m v
finds t m v (inl is) = subst (λ u. Left t m u) (sym is) (of_command t m m.command refl)
finds t m v (inr is) = subst (λ u. Left t m u) (sym is) (full t m (check t m) (of_command t m m.command refl))

-- ---- carried out

told : (t : Server) (m : Message) (now : ℕ) (records : List Record) (v : Verdict) → Left t m v
    → TellsTree m (recorded (apply t m now v) records)
told t m now records (AddTree pipes) f = inr f
told t m now records (Refuse status) f = inl refl
told t m now records (Give body) f = inl refl
told t m now records (KeepRefusal guid status) f = inl refl
told t m now records (Repeat o request) f = inl refl
told t m now records (Attach o request) f = inl refl
told t m now records (Make request place action) f = inl refl
told t m now records (TurnDown o status) f = inl refl
told t m now records (Tell o body) f = inl refl
told t m now records (Show o last body) f = inl refl
told t m now records (KeepSlot o index number status elements) f = inl refl
told t m now records (PutRanges o index number ranges elements) f = inl refl
told t m now records (Alter o change body) f = inl refl
told t m now records (CloseOpen o body) f = inl refl
told t m now records Challenge f = inl refl
told t m now records (ChallengeBinding session) f = inl refl
told t m now records (Begin session user previous request is_quiet) f = inl refl
told t m now records (Join session) f = inl refl
told t m now records (EndSession session is_quiet) f = inl refl
told t m now records DropTree f = inl refl

stepped : (s : Server) (now : ℕ) (m : Message) → TellsTree m (step s now (Heard m))
stepped s now m = by_verdict (λ A. TellsTree m A) s now m (λ t v records b f. told t m now records v (finds t m v f))

answered : (s : Server) (now : ℕ) (m : Message) (c : Command) → TellsTree m (answer_to s now m c)
answered s now m (Aside status) = inl refl
answered s now m (Unreadable status) = stepped s now m
answered s now m (Setup request) = stepped s now m
answered s now m Logoff = stepped s now m
answered s now m (TreeConnect share) = stepped s now m
answered s now m TreeDisconnect = stepped s now m
answered s now m (Create request) = stepped s now m
answered s now m (Close file query) = stepped s now m
answered s now m (Flush file) = stepped s now m
answered s now m (Read file at size minimum channel) = stepped s now m
answered s now m (Write file at bytes channel) = stepped s now m
answered s now m (Lock file index number elements) = stepped s now m
answered s now m (Ioctl file code room) = stepped s now m
answered s now m (ListDirectory file class restart single pattern room) = stepped s now m
answered s now m (QueryFile file class room) = stepped s now m
answered s now m (QueryVolume file class room) = stepped s now m
answered s now m (SetInfo file setting) = stepped s now m

pub trees_are_told : TreesAreTold
trees_are_told w x = answered w.server w.moment x.message x.message.command

-- ---- the success of a TREE_CONNECT: of a verdict on one

abbrev Granted : Verdict → Type 0
Granted (Refuse status) = (status == success) ≡ false
Granted (AddTree pipes) = Unit {0}
Granted _ = ⊥

grants : (s : Server) (m : Message) (share : List ℕ) → Granted (tree_check s m share)
grants s m share =
    let P : Verdict → Type 0 = λ v. Granted v in
    either P (no_tree_left s m.session_id) _ _ (λ _. refl)
    (λ _. either P (same_name share pipes_name) (AddTree true) _ (λ _. tt)
    (λ _. either P (same_name share s.share) (AddTree false) _ (λ _. tt) (λ _. refl)))

share_form : (share : List ℕ) (status : ℕ) → form (TreeConnect share) ≡ Some status → ⊥
share_form share status e = absurd (let h : None ≡ Some status = e in cc)

grants_form : (s : Server) (m : Message) (share : List ℕ) → m.command ≡ TreeConnect share → (o : Option ℕ)
    → form (TreeConnect share) ≡ o → Granted (formed s m o)
grants_form s m share e (Some status) f = absurd (share_form share status f)
grants_form s m share e None f = subst (λ c. Granted (command_check s m c)) (sym e) (grants s m share)

grants_fault : (s : Server) (m : Message) (share : List ℕ) → m.command ≡ TreeConnect share → (o : Option ℕ) → m.fault ≡ o
    → m.fault ≡ None → Granted (owed s m o)
grants_fault s m share e (Some status) q f = absurd (let h : Some status ≡ None = sym q ∙ f in cc)
grants_fault s m share e None q f = grants_form s m share e (form m.command) (ap form (sym e))

grants_checked : (s : Server) (m : Message) (share : List ℕ) → m.command ≡ TreeConnect share
    → m.fault ≡ None → Granted (check s m)
grants_checked s m share e f =
    either (λ v. Granted v) (is_setup m.command || has_session s m) (owed s m m.fault) (Refuse user_session_deleted)
    (λ _. grants_fault s m share e m.fault refl f) (λ _. refl)

grants_full : (v : Verdict) → Granted v → Granted (without_room v)
grants_full (Refuse status) f = f
grants_full (AddTree pipes) f = f
grants_full (Give body) f = absurd f
grants_full (KeepRefusal guid status) f = absurd f
grants_full (Repeat o request) f = absurd f
grants_full (Attach o request) f = absurd f
grants_full (Make request place action) f = absurd f
grants_full (TurnDown o status) f = absurd f
grants_full (Tell o body) f = absurd f
grants_full (Show o last body) f = absurd f
grants_full (KeepSlot o index number status elements) f = absurd f
grants_full (PutRanges o index number ranges elements) f = absurd f
grants_full (Alter o change body) f = absurd f
grants_full (CloseOpen o body) f = absurd f
grants_full Challenge f = absurd f
grants_full (ChallengeBinding session) f = absurd f
grants_full (Begin session user previous request is_quiet) f = absurd f
grants_full (Join session) f = absurd f
grants_full (EndSession session is_quiet) f = absurd f
grants_full DropTree f = absurd f

grants_found : (t : Server) (m : Message) (share : List ℕ) → m.command ≡ TreeConnect share → m.fault ≡ None → (v : Verdict) → Finds t m v
    → Granted v
grants_found t m share e none v (inl is) = subst (λ u. Granted u) (sym is) (grants_checked t m share e none)
grants_found t m share e none v (inr is) =
    subst (λ u. Granted u) (sym is) (grants_full (check t m) (grants_checked t m share e none))

by_kind : (pipes : Bool) → IsConnected (connected pipes)
by_kind true = (0x2, 0x0, 0x1f_01ff, refl, omega arith, omega arith, omega arith)
by_kind false = (0x1, 0x10, 0x1f_01ff, refl, omega arith, omega arith, omega arith)

connects : (t : Server) (m : Message) (now : ℕ) (records : List Record) (v : Verdict) → Granted v
    → (recorded (apply t m now v) records).reply.status ≡ success → IsConnected (recorded (apply t m now v) records).reply.body
connects t m now records (AddTree pipes) f e = by_kind pipes
connects t m now records (Refuse status) f e = absurd (eqb-false status success f e)
connects t m now records (Give body) f e = absurd f
connects t m now records (KeepRefusal guid status) f e = absurd f
connects t m now records (Repeat o request) f e = absurd f
connects t m now records (Attach o request) f e = absurd f
connects t m now records (Make request place action) f e = absurd f
connects t m now records (TurnDown o status) f e = absurd f
connects t m now records (Tell o body) f e = absurd f
connects t m now records (Show o last body) f e = absurd f
connects t m now records (KeepSlot o index number status elements) f e = absurd f
connects t m now records (PutRanges o index number ranges elements) f e = absurd f
connects t m now records (Alter o change body) f e = absurd f
connects t m now records (CloseOpen o body) f e = absurd f
connects t m now records Challenge f e = absurd f
connects t m now records (ChallengeBinding session) f e = absurd f
connects t m now records (Begin session user previous request is_quiet) f e = absurd f
connects t m now records (Join session) f e = absurd f
connects t m now records (EndSession session is_quiet) f e = absurd f
connects t m now records DropTree f e = absurd f

connect_step : (s : Server) (now : ℕ) (m : Message) (share : List ℕ) → m.command ≡ TreeConnect share → m.fault ≡ None
    → (step s now (Heard m)).reply.status ≡ success → IsConnected (step s now (Heard m)).reply.body
connect_step s now m share e none =
    by_verdict (λ A. A.reply.status ≡ success → IsConnected A.reply.body) s now m
    (λ t v records b f. connects t m now records v (grants_found t m share e none v f))

connect_answer : (s : Server) (now : ℕ) (m : Message) (share : List ℕ) (c : Command) → c ≡ TreeConnect share → m.command ≡ TreeConnect share
    → m.fault ≡ None → (answer_to s now m c).reply.status ≡ success → IsConnected (answer_to s now m c).reply.body
connect_answer s now m share c is e none =
    subst (λ (d : Command). (answer_to s now m d).reply.status ≡ success → IsConnected (answer_to s now m d).reply.body) (sym is)
    (connect_step s now m share e none)

pub trees_are_connected : TreesAreConnected
trees_are_connected w x share e none = connect_answer w.server w.moment x.message share x.message.command e e none
