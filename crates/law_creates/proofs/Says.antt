-- What the reply to a create's own message says of it, for whichever check answers.
use Rattle.std.proofs.Common.{◌≡◌, ℕ, ◌≤◌, ◌==◌, nat_le, Bool, true, false, not, ◌&&◌, ◌||◌, List, [], ◌∷◌, Option}
use Rattle.std.proofs.Common.{Some, None, is_some, refl, arith, sym, ◌∙◌, ap, subst}
use Rattle.spec_exchange.specs.Table.{is_at}
use Rattle.spec_exchange.specs.Texts.{same_name}
use Rattle.spec_exchange.specs.Status.{success, user_session_deleted, duplicate_objectid, insufficient_resources}
use Rattle.spec_exchange.specs.Status.{sharing_violation, disk_full, object_name_not_found}
use Rattle.spec_exchange.specs.Commands.{Command, Create, CreateRequest, Durable, create_form, path_form, form, deletes_on_close, is_setup}
use Rattle.spec_exchange.specs.State.{Server, Message, Reply}
use Rattle.spec_exchange.specs.Files.{find}
use Rattle.spec_exchange.specs.Opens.{deletes, mapped}
use Rattle.spec_exchange.specs.CheckSetup.{tree_in}
use Rattle.spec_exchange.specs.CheckCreate.{keeps_guid, max_guids, is_counted_out, names, shares, names}
use Rattle.spec_exchange.specs.CheckCreate.{action_of, refused_by, refused_create}
use Rattle.spec_exchange.specs.CheckCreate.{after_names, new_check, refusal_check, live_check, guid_check}
use Rattle.spec_exchange.specs.CheckCreate.{durable_check, reconnect_or_create, create_check}
use Rattle.spec_exchange.specs.Check.{check, owed, formed, command_check, in_tree, tree_command, has_session}
use Rattle.spec_exchange.specs.Effects.{apply, next_open, open_row, new_file, guid_of}
use Rattle.spec_exchange.specs.Verdict.{Verdict, Refuse, KeepRefusal, Repeat, Make}
use Rattle.spec_exchange.specs.Step.{without_room}
use Rattle.spec_exchange.specs.Operations.{durable_of, id_in}
use Rattle.spec_exchange.specs.Client.{Client}
use Rattle.spec_exchange.specs.Network.{Token, ForOp}
use Rattle.law_sessions.specs.messages.Connections.{makes_open}
use Rattle.law_server.proofs.tables.Logic.{either, at_of, front_of, back_of}
use Rattle.law_sessions.specs.sessions.Sessions.{logon_user}
use Rattle.law_creates.specs.Creates.{Seen, seen, named, guid_at, is_kept, is_current, is_barred, is_full, refuses}
use Rattle.law_creates.specs.Creates.{outlives, keeps_form, Made, Named, NamedGiven, NamedKind, FormActed, RefusedStatus}
use Rattle.law_creates.specs.Creates.{has_files}
use Rattle.law_creates.proofs.Words.{zero_by}
use Rattle.law_creates.proofs.Moves.{make_new}
use Rattle.law_creates.proofs.Seeing.{make_seen}
use Rattle.law_creates.proofs.Moved.{counted}
use Rattle.law_server.proofs.tables.Checked.{names_refuse}

-- what a reply to the create's own message says
pub record SayFor (c : Client) (v : Seen) (b : ℕ → ℕ) (g : ℕ) (r : Reply) : Type 0 where
  pub never : refuses (c.unanswered g) r.status ≡ true → b g ≡ 0
  pub barred : c.unanswered g ≡ true → refuses true r.status ≡ true → is_current c v ≡ true → is_barred c v c.session g ≡ true
  pub acted : r.status ≡ success → 1 ≤ b g
  pub guid : r.status ≡ success → id_in r.body ≤ v.last
      × (v.standing (id_in r.body) ≡ true → (v.opened (id_in r.body)).client_guid ≡ c.who.guid
      × (v.opened (id_in r.body)).create_guid ≡ Some (guid_at c g))
  pub names : (o : ℕ) → r.status ≡ success → named c v g ≡ Some o → o ≡ id_in r.body

-- the message of a create, and what is known where the server takes it
pub record Mine (c : Client) (t : Server) (a : ℕ → ℕ) (g : ℕ) (tk : Token) (m : Message) (r : CreateRequest) : Type 0 where
  pub token : tk ≡ ForOp g
  pub create : makes_open (c.op g) ≡ true
  pub client : m.client_guid ≡ c.who.guid
  pub fault : m.fault ≡ None
  pub command : m.command ≡ Create r
  pub new : r.reconnect ≡ None
  pub durable : r.durable ≡ Some (durable_of (guid_at c g) (outlives (c.op g)))
  pub keeps : deletes_on_close r.options ≡ false
  pub form : is_some (create_form r) ≡ not (keeps_form (c.op g))
  pub fresh : c.unanswered g ≡ false → a g ≡ 0
  pub mine : is_current c (seen t) ≡ true → t.present m.session_id ≡ true → c.session ≡ m.session_id
  pub made : Made c (seen t) a
  pub named_ : Named c (seen t)
  pub given : NamedGiven c (seen t)
  pub kind : NamedKind c (seen t)
  pub formed : FormActed c a
  pub statuses : RefusedStatus (seen t)
  pub kept : t.present m.session_id ≡ true → 1 ≤ a g → (t.closed m.session_id (guid_at c g) || is_kept c (seen t) g) ≡ true
  pub there : t.session_on m.connection ≡ Some m.session_id → t.present m.session_id ≡ true
  pub users : t.present m.session_id ≡ true → t.user m.session_id ≡ logon_user c.who.logon
  pub tree : t.present m.session_id ≡ true → is_some (tree_in (t.trees m.session_id) m.tree_id) ≡ true
  pub files : (b : Bool) → tree_in (t.trees m.session_id) m.tree_id ≡ Some b → has_files c.who.share ≡ not b

abbrev Says : Client → Server → (ℕ → ℕ) → ℕ → Token → Message → ℕ → Verdict → Type 0
Says c t a g tk m now v = SayFor c (seen (apply t m now v).server) (counted a tk (apply t m now v).acted) g (apply t m now v).reply

-- ---- refusals

same_self : (xs : List ℕ) → same_name xs xs ≡ true
unfolding same_name
same_self [] = refl
same_self (x ∷ xs) = let h = same_self xs in grind arith

uncounted : (a : ℕ → ℕ) (tk : Token) (g : ℕ) → a g ≡ 0 → counted a tk false g ≡ 0
uncounted a tk g e = grind arith

refuses_by : (c : Client) (t : Server) (a : ℕ → ℕ) (g : ℕ) (tk : Token) (m : Message) (now status : ℕ)
    → (status == success) ≡ false → (refuses (c.unanswered g) status ≡ true → a g ≡ 0)
    → (c.unanswered g ≡ true → refuses true status ≡ true → is_current c (seen t) ≡ true
    → is_barred c (seen t) c.session g ≡ true) → Says c t a g tk m now (Refuse status)
refuses_by c t a g tk m now status bad never barred =
    record {
      never = λ e. uncounted a tk g (never e);
      barred = barred;
      acted = λ e. absurd (grind arith);
      guid = λ e. absurd (grind arith);
      names = λ o e. absurd (grind arith);
    }

-- a refusal after which a copy may still be answered otherwise
soft : (c : Client) (t : Server) (a : ℕ → ℕ) (g : ℕ) (tk : Token) (m : Message) (now : ℕ)
    → (c.unanswered g ≡ false → a g ≡ 0) → Says c t a g tk m now (Refuse duplicate_objectid)
soft c t a g tk m now fresh = refuses_by c t a g tk m now duplicate_objectid refl
    (λ e. by_before (c.unanswered g) refl e) (λ e h. absurd (cc))
  where
    by_before : (b : Bool) → c.unanswered g ≡ b → refuses b duplicate_objectid ≡ true → a g ≡ 0
    by_before true e h = absurd (cc)
    by_before false e h = fresh e

deleted : (c : Client) (t : Server) (a : ℕ → ℕ) (g : ℕ) (tk : Token) (m : Message) (now : ℕ)
    → Says c t a g tk m now (Refuse user_session_deleted)
deleted c t a g tk m now = refuses_by c t a g tk m now user_session_deleted refl (λ e. absurd (cc)) (λ e h. absurd (cc))

-- where the guid names nothing, and neither the session nor an expired guid tells of it, the create didn't act
pub record Free (c : Client) (t : Server) (g x : ℕ) : Type 0 where
  pub unnamed : named c (seen t) g ≡ None
  pub unclosed : t.closed x (guid_at c g) ≡ false
  pub not_pending : t.expired_guids c.who.guid (guid_at c g) ≡ false

idle : (c : Client) (t : Server) (a : ℕ → ℕ) (g : ℕ) (tk : Token) (m : Message) (r : CreateRequest)
    → Mine c t a g tk m r → Free c t g m.session_id → t.present m.session_id ≡ true → a g ≡ 0
idle c t a g tk m r mi fr there = zero_by (a g) (λ l. let q = mi.kept there l in let e1 = fr.unnamed in
    let e2 = fr.unclosed in let e3 = fr.not_pending in grind arith)

ill_formed : (r : CreateRequest) (status : ℕ) → create_form r ≡ Some status → (status == success) ≡ false
unfolding path_form
ill_formed r status e = grind arith

formless : (c : Client) (t : Server) (a : ℕ → ℕ) (g : ℕ) (tk : Token) (m : Message) (r : CreateRequest) (now status : ℕ)
    → Mine c t a g tk m r → create_form r ≡ Some status → Says c t a g tk m now (Refuse status)
formless c t a g tk m r now status mi e =
    let broken : keeps_form (c.op g) ≡ false = broken_of (keeps_form (c.op g)) (create_form r) status mi.form e in
    refuses_by c t a g tk m now status (ill_formed r status e)
    (λ _. zero_by (a g) (λ l. sym (front_of (keeps_form (c.op g)) _ (mi.formed g mi.create l)) ∙ broken))
    (λ _ _ _. barred_by (is_some (t.refused c.session (guid_at c g))) (is_full (t.guids c.session))
    (keeps_form (c.op g)) (has_files c.who.share) broken)
  where
    broken_of : (b : Bool) (u : Option ℕ) (status : ℕ) → is_some u ≡ not b → u ≡ Some status → b ≡ false
    broken_of b u status e f = grind arith

    barred_by : (x y b f : Bool) → b ≡ false → (x || (y || not (b && f))) ≡ true
    barred_by x y b f e = grind arith

-- on the pipes' share
no_name : (c : Client) (t : Server) (a : ℕ → ℕ) (g : ℕ) (tk : Token) (m : Message) (r : CreateRequest) (now : ℕ)
    → Mine c t a g tk m r → has_files c.who.share ≡ false → Says c t a g tk m now (Refuse object_name_not_found)
no_name c t a g tk m r now mi off =
    refuses_by c t a g tk m now object_name_not_found refl
    (λ _. zero_by (a g) (λ l. sym (back_of (keeps_form (c.op g)) (has_files c.who.share) (mi.formed g mi.create l)) ∙ off))
    (λ _ _ _. barred_by (is_some (t.refused c.session (guid_at c g))) (is_full (t.guids c.session))
    (keeps_form (c.op g)) (has_files c.who.share) off)
  where
    barred_by : (x y b f : Bool) → f ≡ false → (x || (y || not (b && f))) ≡ true
    barred_by x y b f e = grind arith

-- ---- the first answer again

repeats : (c : Client) (t : Server) (a : ℕ → ℕ) (g : ℕ) (tk : Token) (m : Message) (r : CreateRequest) (now o : ℕ)
    → Mine c t a g tk m r → named c (seen t) g ≡ Some o → Says c t a g tk m now (Repeat o r)
repeats c t a g tk m r now o mi is =
    let md = mi.made g o is in let nm = mi.named_ g o is in let gv = mi.given g o is in
    either (λ u. SayFor c (seen u) (counted a tk false) g (apply t m now (Repeat o r)).reply) (is_some (t.session_of_open o)) _ _
    (λ _. record {
      never = λ e. absurd (let h = never_of (c.unanswered g) e in cc);
      barred = λ _ e. absurd (cc);
      acted = λ _. acts md.1;
      guid = λ _. (gv, λ _. (nm.1, nm.2));
      names = λ p _ e. same p e;
    })
    (λ _. record {
      never = λ e. absurd (let h = never_of (c.unanswered g) e in cc);
      barred = λ _ e. absurd (cc);
      acted = λ _. acts md.1;
      guid = λ _. (gv, λ _. (nm.1, nm.2));
      names = λ p _ e. same p e;
    })
  where
    never_of : (b : Bool) → refuses b success ≡ true → true ≡ false
    never_of b e = cc

    acts : 1 ≤ a g → 1 ≤ counted a tk false g
    acts l = grind arith

    same : (p : ℕ) → named c (seen t) g ≡ Some p → p ≡ o
    same p e = let is2 = is in grind arith

-- ---- a new one

keeps_it : (c : Client) (t : Server) (a : ℕ → ℕ) (g : ℕ) (tk : Token) (m : Message) (r : CreateRequest) (now status : ℕ)
    → Mine c t a g tk m r → Free c t g m.session_id → t.present m.session_id ≡ true → (status == success) ≡ false
    → Says c t a g tk m now (KeepRefusal (guid_at c g) status)
keeps_it c t a g tk m r now status mi fr there bad =
    record {
      never = λ _. uncounted a tk g (idle c t a g tk m r mi fr there);
      barred = λ _ _ cur. let same = mi.mine cur there in grind arith;
      acted = λ e. absurd (grind arith);
      guid = λ e. absurd (grind arith);
      names = λ o e. absurd (grind arith);
    }

turned : (c : Client) (t : Server) (a : ℕ → ℕ) (g : ℕ) (tk : Token) (m : Message) (r : CreateRequest) (now status : ℕ)
    → Mine c t a g tk m r → Free c t g m.session_id → t.present m.session_id ≡ true → (status == success) ≡ false
    → (u : Option Durable) → u ≡ Some (durable_of (guid_at c g) (outlives (c.op g))) → Says c t a g tk m now (refused_by u status)
turned c t a g tk m r now status mi fr there bad u e =
    subst (λ w. Says c t a g tk m now (refused_by w status)) (sym e) (keeps_it c t a g tk m r now status mi fr there bad)

makes_it : (c : Client) (t : Server) (a : ℕ → ℕ) (g : ℕ) (tk : Token) (m : Message) (r : CreateRequest) (now : ℕ)
    (found : Option ℕ) (action : ℕ) → Mine c t a g tk m r → Says c t a g tk m now (Make r found action)
makes_it c t a g tk m r now found action mi =
    let d : Durable = durable_of (guid_at c g) (outlives (c.op g)) in
    subst (λ v. SayFor c v (counted a tk true) g (apply t m now (Make r found action)).reply)
    (sym (make_seen t m r found action now d mi.durable))
    (record {
      never = λ e. absurd (cc);
      barred = λ _ e. absurd (cc);
      acted = λ _. acts mi.token;
      guid = λ _. (same_le (next_open t), λ _. (row_client (next_open t), row_guid (next_open t)));
      names = λ o _ e. newest o (next_open t) mi.client e;
    })
  where
    acts : tk ≡ ForOp g → 1 ≤ counted a tk true g
    acts e = grind arith

    same_le : (n : ℕ) → n ≤ n
    same_le n = omega arith

    row_client : (n : ℕ) → ((make_new (seen t) n (open_row t m r (new_file t found) action) m.session_id
        (guid_at c g)).opened n).client_guid ≡ c.who.guid
    row_client n = let e = mi.client in grind arith

    row_guid : (n : ℕ) → ((make_new (seen t) n (open_row t m r (new_file t found) action) m.session_id
        (guid_at c g)).opened n).create_guid ≡ Some (guid_at c g)
    row_guid n = let e : guid_of r.durable ≡ Some (guid_at c g) = ap guid_of mi.durable in grind arith

    newest : (o n : ℕ) → m.client_guid ≡ c.who.guid
        → named c (make_new (seen t) n (open_row t m r (new_file t found) action) m.session_id (guid_at c g)) g ≡ Some o
        → o ≡ n
    newest o n client e = grind arith

-- ---- the checks of a create, in their order; each answer too where the records don't fit

abbrev Both : Client → Server → (ℕ → ℕ) → ℕ → Token → Message → ℕ → Verdict → Type 0
Both c t a g tk m now v = Says c t a g tk m now v × Says c t a g tk m now (without_room v)

both_turned : (c : Client) (t : Server) (a : ℕ → ℕ) (g : ℕ) (tk : Token) (m : Message) (r : CreateRequest)
    (now status : ℕ) → Mine c t a g tk m r → Free c t g m.session_id → t.present m.session_id ≡ true
    → (status == success) ≡ false → Both c t a g tk m now (refused_create r status)
both_turned c t a g tk m r now status mi fr there bad =
    subst (λ w. Both c t a g tk m now (refused_by w status)) (sym mi.durable) (
      keeps_it c t a g tk m r now status mi fr
          there bad,
      keeps_it c t a g tk m r now status mi fr there bad,
    )

by_names : (c : Client) (t : Server) (a : ℕ → ℕ) (g : ℕ) (tk : Token) (m : Message) (r : CreateRequest) (now : ℕ)
    (found : Option ℕ) → Mine c t a g tk m r → Free c t g m.session_id → t.present m.session_id ≡ true
    → (u : Option ℕ) → names t r found ≡ u → Both c t a g tk m now (after_names t r found u)
by_names c t a g tk m r now found mi fr there (Some status) e = both_turned c t a g tk m r now status mi fr there
    (names_refuse t r found status e)
by_names c t a g tk m r now found mi fr there None e =
    either (λ v. Both c t a g tk m now v) (shares t r found) _ _
    (λ _. (
      makes_it c t a g tk m r now found (action_of r found) mi,
      turned c t a g tk m r now disk_full mi fr there
          refl r.durable mi.durable,
    ))
    (λ _. both_turned c t a g tk m r now sharing_violation mi fr there refl)

full_barred : (x y z : Bool) → y ≡ true → (x || (y || z)) ≡ true
full_barred x y z e = grind arith

full_of : (r : CreateRequest) (n : ℕ) → (keeps_guid r && nat_le max_guids n) ≡ true → is_full n ≡ true
unfolding is_full
full_of r n e = grind arith

by_new : (c : Client) (t : Server) (a : ℕ → ℕ) (g : ℕ) (tk : Token) (m : Message) (r : CreateRequest) (now : ℕ)
    (found : Option ℕ) → Mine c t a g tk m r → Free c t g m.session_id → t.present m.session_id ≡ true
    → Both c t a g tk m now (new_check t m r found)
by_new c t a g tk m r now found mi fr there =
    either (λ v. Both c t a g tk m now v) (deletes_on_close r.options && not (deletes (mapped r.access))) _ _
    (λ e. absurd (let h = no_delete (deletes_on_close r.options) _ mi.keeps e in cc))
    (λ _. either (λ v. Both c t a g tk m now v) (keeps_guid r && nat_le max_guids (t.guids m.session_id)) _ _
    (λ e. let q : Says c t a g tk m now (Refuse insufficient_resources) = refuses_by c t a g tk m now
    insufficient_resources refl (λ _. idle c t a g tk m r mi fr there)
    (λ _ _ cur. full_barred _ (is_full (t.guids c.session)) _
    (subst (λ x. is_full (t.guids x) ≡ true) (sym (mi.mine cur there)) (full_of r (t.guids m.session_id) e))) in
    (q, q))
    (λ _. either (λ v. Both c t a g tk m now v) (is_counted_out t r found) _ _
    (λ _. both_turned c t a g tk m r now insufficient_resources mi fr there refl)
    (λ _. by_names c t a g tk m r now found mi fr there (names t r found) refl)))
  where
    no_delete : (x y : Bool) → x ≡ false → (x && y) ≡ true → true ≡ false
    no_delete x y e f = grind arith

by_refusal : (c : Client) (t : Server) (a : ℕ → ℕ) (g : ℕ) (tk : Token) (m : Message) (r : CreateRequest) (now : ℕ)
    → Mine c t a g tk m r → Free c t g m.session_id → t.present m.session_id ≡ true
    → (u : Option ℕ) → t.refused m.session_id (guid_at c g) ≡ u → Both c t a g tk m now (refusal_check t m r u)
by_refusal c t a g tk m r now mi fr there (Some status) e =
    let q : Says c t a g tk m now (Refuse status) = refuses_by c t a g tk m now status
    (mi.statuses m.session_id (guid_at c g) status e) (λ _. idle c t a g tk m r mi fr there)
    (λ _ _ cur. let same = mi.mine cur there in grind arith) in (q, q)
by_refusal c t a g tk m r now mi fr there None e = by_new c t a g tk m r now (find t r.path) mi fr there

by_live : (c : Client) (t : Server) (a : ℕ → ℕ) (g : ℕ) (tk : Token) (m : Message) (r : CreateRequest) (now o : ℕ)
    → Mine c t a g tk m r → t.present m.session_id ≡ true → named c (seen t) g ≡ Some o
    → Both c t a g tk m now (live_check t m r o)
by_live c t a g tk m r now o mi there is =
    let P : Verdict → Type 0 = λ v. Both c t a g tk m now v in
    let s = soft c t a g tk m now mi.fresh in
    let q = repeats c t a g tk m r now o mi is in
    either P (not m.replay) _ _ (λ _. (s, s))
    (λ _. either P (is_at m.session_id (t.session_of_open o)) _ _ (λ _. (q, q))
    (λ _. either P (is_some (t.session_of_open o) || not (t.opened o).persistent) _ _ (λ _. (s, s))
    (λ _. either P (same_name (t.opened o).user (t.user m.session_id)) _ _ (λ _. (q, q))
    (λ e. absurd (let h = stranger ((mi.kind g o is).1 ∙ sym (mi.users there)) e in cc)))))
  where
    stranger : (t.opened o).user ≡ t.user m.session_id → same_name (t.opened o).user (t.user m.session_id) ≡ false → true ≡ false
    stranger same e = sym (subst (λ x. same_name x (t.user m.session_id) ≡ true) (sym same) (same_self (t.user m.session_id))) ∙ e

by_guid_is : (c : Client) (t : Server) (a : ℕ → ℕ) (g : ℕ) (tk : Token) (m : Message) (r : CreateRequest) (now : ℕ)
    → Mine c t a g tk m r → t.present m.session_id ≡ true
    → (u : Option ℕ) → named c (seen t) g ≡ u → Both c t a g tk m now (guid_check t m r (durable_of (guid_at c g) (outlives (c.op g))) u)
by_guid_is c t a g tk m r now mi there (Some o) e = by_live c t a g tk m r now o mi there e
by_guid_is c t a g tk m r now mi there None e =
    let P : Verdict → Type 0 = λ v. Both c t a g tk m now v in
    let s = soft c t a g tk m now mi.fresh in
    either P (t.closed m.session_id (guid_at c g)) _ _ (λ _. (s, s))
    (λ x. either P (t.expired_guids m.client_guid (guid_at c g)) _ _ (λ _. (s, s))
    (λ y. by_refusal c t a g tk m r now mi (record {
      unnamed = e;
      unclosed = x;
      not_pending = subst (λ p. t.expired_guids p (guid_at c g) ≡ false) mi.client y;
    }) there
    (t.refused m.session_id (guid_at c g)) refl))

by_durable : (c : Client) (t : Server) (a : ℕ → ℕ) (g : ℕ) (tk : Token) (m : Message) (r : CreateRequest) (now : ℕ)
    → Mine c t a g tk m r → t.present m.session_id ≡ true → Both c t a g tk m now (durable_check t m r r.durable)
by_durable c t a g tk m r now mi there =
    subst (λ u. Both c t a g tk m now (durable_check t m r u)) (sym mi.durable)
    (subst (λ u. Both c t a g tk m now (guid_check t m r (durable_of (guid_at c g) (outlives (c.op g))) u))
    (ap (λ p. t.by_guid p (guid_at c g)) (sym mi.client))
    (by_guid_is c t a g tk m r now mi there (named c (seen t) g) refl))

by_share : (c : Client) (t : Server) (a : ℕ → ℕ) (g : ℕ) (tk : Token) (m : Message) (r : CreateRequest) (now : ℕ)
    → Mine c t a g tk m r → t.present m.session_id ≡ true → (b : Bool) → has_files c.who.share ≡ not b
    → Both c t a g tk m now (create_check t m r b)
by_share c t a g tk m r now mi there true off = let q = no_name c t a g tk m r now mi off in (q, q)
by_share c t a g tk m r now mi there false on = subst (λ x. Both c t a g tk m now (reconnect_or_create t m r x))
    (sym mi.new) (by_durable c t a g tk m r now mi there)

by_tree : (c : Client) (t : Server) (a : ℕ → ℕ) (g : ℕ) (tk : Token) (m : Message) (r : CreateRequest) (now : ℕ)
    → Mine c t a g tk m r → t.present m.session_id ≡ true → (u : Option Bool) → tree_in (t.trees m.session_id) m.tree_id
    ≡ u → Both c t a g tk m now (in_tree t m u)
by_tree c t a g tk m r now mi there None e = absurd (let h = mi.tree there in grind arith)
by_tree c t a g tk m r now mi there (Some pipes) e =
    subst (λ x. Both c t a g tk m now (tree_command t m pipes x)) (sym mi.command)
    (by_share c t a g tk m r now mi there pipes (mi.files pipes e))

by_form : (c : Client) (t : Server) (a : ℕ → ℕ) (g : ℕ) (tk : Token) (m : Message) (r : CreateRequest) (now : ℕ)
    → Mine c t a g tk m r → t.present m.session_id ≡ true → (u : Option ℕ) → create_form r ≡ u
    → Both c t a g tk m now (formed t m u)
by_form c t a g tk m r now mi there (Some status) e = let q = formless c t a g tk m r now status mi e in (q, q)
by_form c t a g tk m r now mi there None e =
    subst (λ x. Both c t a g tk m now (command_check t m x)) (sym mi.command)
    (by_tree c t a g tk m r now mi there (tree_in (t.trees m.session_id) m.tree_id) refl)

by_owed : (c : Client) (t : Server) (a : ℕ → ℕ) (g : ℕ) (tk : Token) (m : Message) (r : CreateRequest) (now : ℕ)
    → Mine c t a g tk m r → t.present m.session_id ≡ true → Both c t a g tk m now (owed t m m.fault)
by_owed c t a g tk m r now mi there =
    subst (λ u. Both c t a g tk m now (owed t m u)) (sym mi.fault)
    (subst (λ x. Both c t a g tk m now (formed t m (form x))) (sym mi.command) (by_form c t a g tk m r now mi there (create_form r) refl))

pub says : (c : Client) (t : Server) (a : ℕ → ℕ) (g : ℕ) (tk : Token) (m : Message) (r : CreateRequest) (now : ℕ)
    → Mine c t a g tk m r → Both c t a g tk m now (check t m)
says c t a g tk m r now mi =
    let d = deleted c t a g tk m now in
    either (λ v. Both c t a g tk m now v) (is_setup m.command || has_session t m) _ _
    (λ e. by_owed c t a g tk m r now mi
    (mi.there (at_of m.session_id (t.session_on m.connection) (session_of m.command (has_session t m) mi.command
    e))))
    (λ _. (d, d))
  where
    session_of : (x : Command) (b : Bool) → x ≡ Create r → (is_setup x || b) ≡ true → b ≡ true
    session_of x b e f = grind arith
