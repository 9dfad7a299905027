-- What a success says to a create's own message: its open was made now, or its guid names the one that it tells.
use Rattle.law_server.proofs.tables.Closing.{left_beside}
use Rattle.std.proofs.Common.{◌⊎◌, inl, inr, ◌≡◌, ℕ, ◌==◌, nat_le, Bool, true, false, not, ◌&&◌, ◌||◌, refl, arith, sym}
use Rattle.std.proofs.Common.{subst, ◌∙◌, ap, Option, Some, None, is_some}
use Rattle.spec_exchange.specs.Table.{is_at}
use Rattle.spec_exchange.specs.Texts.{same_name}
use Rattle.spec_exchange.specs.Status.{success}
use Rattle.spec_exchange.specs.Commands.{Create, CreateRequest, Durable, deletes_on_close, form, create_form, path_form, is_setup}
use Rattle.spec_exchange.specs.State.{Server, Message, Heard, Answer}
use Rattle.spec_exchange.specs.Files.{find}
use Rattle.spec_exchange.specs.Opens.{deletes, mapped, leave_open}
use Rattle.spec_exchange.specs.Operations.{id_in}
use Rattle.spec_exchange.specs.CheckCreate.{shares, keeps_guid, max_guids, is_counted_out, refused_by, after_names}
use Rattle.spec_exchange.specs.CheckCreate.{names, new_check, live_check, refusal_check, guid_check, durable_check}
use Rattle.spec_exchange.specs.CheckCreate.{reconnect_or_create}
use Rattle.spec_exchange.specs.CheckSetup.{tree_in}
use Rattle.spec_exchange.specs.Check.{has_session, in_tree, tree_command, command_check, formed, owed, check}
use Rattle.spec_exchange.specs.Effects.{apply}
use Rattle.spec_exchange.specs.Verdict.{Verdict, Refuse, Give, KeepRefusal, Repeat, Attach, Make, TurnDown, Tell, Show}
use Rattle.spec_exchange.specs.Verdict.{KeepSlot, PutRanges, Alter, CloseOpen, Challenge, ChallengeBinding, Begin, Join}
use Rattle.spec_exchange.specs.Verdict.{EndSession, AddTree, DropTree}
use Rattle.spec_exchange.specs.Step.{step, without_room, with_deadlines, add_expired_guid}
use Rattle.spec_exchange.specs.Network.{answer_to}
use Rattle.law_server.proofs.tables.Doors.{by_verdict, Before, Finds}
use Rattle.law_server.proofs.tables.Logic.{either}
use Rattle.law_server.proofs.tables.Found.{Facts as Found}
use Rattle.law_server.proofs.tables.Checked.{found}
use Rattle.law_order.proofs.order.Answers.{Earlier, earlier}

abbrev SureBy : Server → Message → Durable → Verdict → Type 0
SureBy s m d (Refuse status) = (status == success) ≡ false
SureBy s m d (KeepRefusal guid status) = Unit {0}
SureBy s m d (Repeat o r) = s.by_guid m.client_guid d.guid ≡ Some o
SureBy s m d (Make r found action) = Unit {0}
SureBy s m d _ = ⊥

record Sure (s : Server) (m : Message) (d : Durable) (v : Verdict) : Type 0 where
  is : SureBy s m d v

-- no refusal that is kept is a success
abbrev pub Unkept : Server → Message → Type 0
Unkept s m = (q status : ℕ) → s.refused m.session_id q ≡ Some status → (status == success) ≡ false

refused_sure : (s : Server) (m : Message) (d : Durable) (e : Option Durable) (status : ℕ) → e ≡ Some d → Sure s m d (refused_by e status)
refused_sure s m d None status k = absurd (cc)
refused_sure s m d (Some e) status k = record { is = tt }

names_sure : (s : Server) (m : Message) (d : Durable) (r : CreateRequest) (f n : Option ℕ) → r.durable ≡ Some d
    → Sure s m d (after_names s r f n)
names_sure s m d r f (Some status) k = refused_sure s m d r.durable status k
names_sure s m d r f None k = either (Sure s m d) (shares s r f) _ _ (λ _. record { is = tt }) (λ _. refused_sure s m d r.durable _ k)

new_sure : (s : Server) (m : Message) (d : Durable) (r : CreateRequest) (f : Option ℕ) → r.durable ≡ Some d → Sure s m d (new_check s m r f)
new_sure s m d r f k =
    either (Sure s m d) (deletes_on_close r.options && not (deletes (mapped r.access))) _ _ (λ _. record { is = refl })
    (λ _. either (Sure s m d) (keeps_guid r && nat_le max_guids (s.guids m.session_id)) _ _ (λ _. record {
      is = refl;
    }) (λ _. either (Sure s m d) (is_counted_out s r f) _ _ (λ _. refused_sure s m d r.durable _ k)
    (λ _. names_sure s m d r f (names s r f) k)))

live_sure : (s : Server) (m : Message) (d : Durable) (r : CreateRequest) (o : ℕ) → s.by_guid m.client_guid d.guid
    ≡ Some o → Sure s m d (live_check s m r o)
live_sure s m d r o e =
    either (Sure s m d) (not m.replay) _ _ (λ _. record {
      is = refl;
    }) (λ _. either (Sure s m d) (is_at m.session_id (s.session_of_open o)) _ _ (λ _. record { is = e })
    (λ _. either (Sure s m d) (is_some (s.session_of_open o) || not (s.opened o).persistent) _ _ (λ _. record {
      is = refl;
    }) (λ _. either (Sure s m d) (same_name (s.opened o).user (s.user m.session_id)) _ _ (λ _. record {
      is = e;
    }) (λ _. record { is = refl }))))

refusal_sure : (s : Server) (m : Message) (d : Durable) (r : CreateRequest) (k : Option ℕ) → r.durable ≡ Some d
    → ((status : ℕ) → k ≡ Some status → (status == success) ≡ false) → Sure s m d (refusal_check s m r k)
refusal_sure s m d r (Some status) k f = record { is = f status refl }
refusal_sure s m d r None k f = new_sure s m d r (find s r.path) k

guid_sure : (s : Server) (m : Message) (d : Durable) (r : CreateRequest) (o : Option ℕ) → r.durable ≡ Some d
    → Unkept s m → s.by_guid m.client_guid d.guid ≡ o → Sure s m d (guid_check s m r d o)
guid_sure s m d r (Some o) k u e = live_sure s m d r o e
guid_sure s m d r None k u e =
    either (Sure s m d) (s.closed m.session_id d.guid) _ _ (λ _. record {
      is = refl;
    }) (λ _. either (Sure s m d) (s.expired_guids m.client_guid d.guid) _ _ (λ _. record {
      is = refl;
    }) (λ _. refusal_sure s m d r (s.refused m.session_id d.guid) k (u d.guid)))

tree_sure : (s : Server) (m : Message) (d : Durable) (r : CreateRequest) → m.command ≡ Create r → r.reconnect ≡ None
    → r.durable ≡ Some d → Unkept s m → (t : Option Bool) → Sure s m d (in_tree s m t)
tree_sure s m d r e n k u None = record { is = refl }
tree_sure s m d r e n k u (Some true) = subst (λ c. Sure s m d (tree_command s m true c)) (sym e) (record { is = refl })
tree_sure s m d r e n k u (Some false) =
    subst (λ c. Sure s m d (tree_command s m false c)) (sym e) (subst (λ x. Sure s m d (reconnect_or_create s m r x)) (sym n)
    (subst (λ x. Sure s m d (durable_check s m r x)) (sym k) (guid_sure s m d r (s.by_guid m.client_guid d.guid) k u refl)))

ill_formed : (r : CreateRequest) (status : ℕ) → create_form r ≡ Some status → (status == success) ≡ false
unfolding path_form
ill_formed r status e = grind arith

formed_sure : (s : Server) (m : Message) (d : Durable) (r : CreateRequest) → m.command ≡ Create r → r.reconnect ≡ None
    → r.durable ≡ Some d → Unkept s m → (f : Option ℕ) → form m.command ≡ f → Sure s m d (formed s m f)
formed_sure s m d r e n k u (Some status) f = record { is = ill_formed r status (ap form (sym e) ∙ f) }
formed_sure s m d r e n k u None f = subst (λ c. Sure s m d (command_check s m c)) (sym e)
    (tree_sure s m d r e n k u (tree_in (s.trees m.session_id) m.tree_id))

check_sure : (s : Server) (m : Message) (d : Durable) (r : CreateRequest) → m.command ≡ Create r → r.reconnect ≡ None
    → r.durable ≡ Some d → m.fault ≡ None → Unkept s m → Sure s m d (check s m)
check_sure s m d r e n k f u =
    either (Sure s m d) (is_setup m.command || has_session s m) _ _ (λ _. subst (λ x. Sure s m d (owed s m x)) (sym f)
    (formed_sure s m d r e n k u (form m.command) refl)) (λ _. record { is = refl })

sure_without_room : (s : Server) (m : Message) (d : Durable) (v : Verdict) → Sure s m d v
    → ((r : CreateRequest) (f : Option ℕ) (action : ℕ) → v ≡ Make r f action → r.durable ≡ Some d)
    → Sure s m d (without_room v)
sure_without_room s m d (Refuse status) h k = h
sure_without_room s m d (KeepRefusal guid status) h k = h
sure_without_room s m d (Repeat o r) h k = h
sure_without_room s m d (Make r f action) h k = refused_sure s m d r.durable _ (k r f action refl)
sure_without_room s m d (Attach o r) h k = absurd (h.is)
sure_without_room s m d (Give body) h k = absurd (h.is)
sure_without_room s m d (TurnDown o status) h k = absurd (h.is)
sure_without_room s m d (Tell o body) h k = absurd (h.is)
sure_without_room s m d (Show o last body) h k = absurd (h.is)
sure_without_room s m d (KeepSlot o index number status elements) h k = absurd (h.is)
sure_without_room s m d (PutRanges o index number ranges elements) h k = absurd (h.is)
sure_without_room s m d (Alter o change body) h k = absurd (h.is)
sure_without_room s m d (CloseOpen o body) h k = absurd (h.is)
sure_without_room s m d Challenge h k = absurd (h.is)
sure_without_room s m d (ChallengeBinding session) h k = absurd (h.is)
sure_without_room s m d (Begin session user previous r1 is_quiet) h k = absurd (h.is)
sure_without_room s m d (Join session) h k = absurd (h.is)
sure_without_room s m d (EndSession session is_quiet) h k = absurd (h.is)
sure_without_room s m d (AddTree pipes) h k = absurd (h.is)
sure_without_room s m d DropTree h k = absurd (h.is)

-- a success tells the open that was made, or the one that the guid names
pub record Tells (s : Server) (m : Message) (d : Durable) (A : Answer) : Type 0 where
  pub tells : (A.reply.status == success) ≡ true → (A.acted ≡ true × A.reached ≡ Some (id_in A.reply.body))
      ⊎ (s.by_guid m.client_guid d.guid ≡ Some (id_in A.reply.body))

tells_at : (s : Server) (m : Message) (d : Durable) (now : ℕ) (v : Verdict) → Sure s m d v → Found s m v → Tells s m d (apply s m now v)
tells_at s m d now (Refuse status) h f = record { tells = λ e. absurd (let z = h.is in grind arith) }
tells_at s m d now (KeepRefusal guid status) h f = record { tells = λ e. absurd (let z = f.refused in grind arith) }
tells_at s m d now (Repeat o r) h f = record { tells = λ e. inr h.is }
tells_at s m d now (Make r g action) h f = record { tells = λ e. inl (refl, refl) }
tells_at s m d now (Attach o r) h f = absurd (h.is)
tells_at s m d now (Give body) h f = absurd (h.is)
tells_at s m d now (TurnDown o status) h f = absurd (h.is)
tells_at s m d now (Tell o body) h f = absurd (h.is)
tells_at s m d now (Show o last body) h f = absurd (h.is)
tells_at s m d now (KeepSlot o index number status elements) h f = absurd (h.is)
tells_at s m d now (PutRanges o index number ranges elements) h f = absurd (h.is)
tells_at s m d now (Alter o change body) h f = absurd (h.is)
tells_at s m d now (CloseOpen o body) h f = absurd (h.is)
tells_at s m d now Challenge h f = absurd (h.is)
tells_at s m d now (ChallengeBinding session) h f = absurd (h.is)
tells_at s m d now (Begin session user previous r1 is_quiet) h f = absurd (h.is)
tells_at s m d now (Join session) h f = absurd (h.is)
tells_at s m d now (EndSession session is_quiet) h f = absurd (h.is)
tells_at s m d now (AddTree pipes) h f = absurd (h.is)
tells_at s m d now DropTree h f = absurd (h.is)

leave_refused : (s : Server) (o : ℕ) → (leave_open s o).refused ≡ s.refused
leave_refused s o = (left_beside s o).refused

before_refused : (s : Server) (now : ℕ) (t : Server) → Before s now t → t.refused ≡ s.refused
before_refused s now t (inl e) = ap (λ (u : Server). u.refused) e
before_refused s now t (inr (o, q, e)) = ap (λ (u : Server). u.refused) e
    ∙ guid_added (leave_open (with_deadlines s now) o) (s.opened o).client_guid (s.opened o).create_guid
    ∙ leave_refused (with_deadlines s now) o
  where
    guid_added : (s : Server) (client : ℕ) (guid : Option ℕ) → (add_expired_guid s client guid).refused ≡ s.refused
    guid_added s client None = refl
    guid_added s client (Some g) = refl

found_sure : (t : Server) (m : Message) (d : Durable) (r : CreateRequest) (v : Verdict) → m.command ≡ Create r
    → r.durable ≡ Some d → Sure t m d (check t m) → Finds t m v → Sure t m d v
found_sure t m d r v e k c (inl q) = subst (Sure t m d) (sym q) c
found_sure t m d r v e k c (inr q) = subst (Sure t m d) (sym q)
    (sure_without_room t m d (check t m) c (λ r2 f action z. its r2 f action z (found t m (check t m) (inl refl))))
  where
    its : (r2 : CreateRequest) (f : Option ℕ) (action : ℕ) → check t m ≡ Make r2 f action → Found t m (check t m) → r2.durable ≡ Some d
    its r2 f action z h = let x : Found t m (Make r2 f action) = subst (Found t m) z h in
        same_request r r2 (sym e ∙ x.new.create.command) ∙ k
      where
        same_request : (r r2 : CreateRequest) → Create r ≡ Create r2 → r2.durable ≡ r.durable
        same_request r r2 e = grind arith

tells_step : (s : Server) (now : ℕ) (m : Message) (d : Durable) (r : CreateRequest) → m.command ≡ Create r → r.reconnect
    ≡ None → r.durable ≡ Some d → m.fault ≡ None → Unkept s m → Tells s m d (step s now (Heard m))
tells_step s now m d r e n k f u =
    by_verdict (Tells s m d) s now m
    (λ t v records b h. let q = earlier s now t b in let c = check_sure t m d r e n k f
    (λ x status z. u x status (ap (λ g. g m.session_id x) (sym (before_refused s now t b)) ∙ z)) in
    let a = tells_at t m d now v (found_sure t m d r v e k c h) (found t m v h) in record { tells = λ z. by_side t q v (a.tells z) })
  where
    by_side : (t : Server) → Earlier s t → (v : Verdict) → ((apply t m now v).acted ≡ true × (apply t m now v).reached
        ≡ Some (id_in (apply t m now v).reply.body))
        ⊎ (t.by_guid m.client_guid d.guid ≡ Some (id_in (apply t m now v).reply.body))
        → ((apply t m now v).acted ≡ true × (apply t m now v).reached ≡ Some (id_in (apply t m now v).reply.body))
        ⊎ (s.by_guid m.client_guid d.guid ≡ Some (id_in (apply t m now v).reply.body))
    by_side t q v (inl z) = inl z
    by_side t q v (inr z) = inr (q.moves.guid m.client_guid d.guid (id_in (apply t m now v).reply.body) z)

pub tells : (s : Server) (now : ℕ) (m : Message) (d : Durable) (r : CreateRequest) → m.command ≡ Create r → r.reconnect
    ≡ None → r.durable ≡ Some d → m.fault ≡ None → Unkept s m → Tells s m d (answer_to s now m m.command)
tells s now m d r e n k f u = subst (λ c. Tells s m d (answer_to s now m c)) (sym e) (tells_step s now m d r e n k f u)
