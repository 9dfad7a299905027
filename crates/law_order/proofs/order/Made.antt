-- Which opens an answer makes: a create's alone, with the guid and the share access that it asked for.
use Rattle.law_order.proofs.order.Pairs.{tree_moves}
use Rattle.std.proofs.lemmas.Bool.{eqb-false}
use Rattle.std.proofs.Common.{eqb-true, ◌⊎◌, inl, inr, ◌≡◌, ◌≢◌, ℕ, ◌≤◌, ◌<◌, ◌==◌, nat_le, Bool, true, false, not}
use Rattle.std.proofs.Common.{◌&&◌, ◌||◌, List, refl, arith, sym, subst, ◌∙◌, ap, Option, Some, None, is_some}
use Rattle.spec_exchange.specs.Table.{put, is_at}
use Rattle.spec_exchange.specs.Texts.{same_name}
use Rattle.spec_exchange.specs.Commands.{Command, Aside, Unreadable, Setup, Logoff, TreeConnect, TreeDisconnect, Create}
use Rattle.spec_exchange.specs.Commands.{Close, Flush, Read, Write, Lock, Ioctl, ListDirectory, QueryFile, QueryVolume}
use Rattle.spec_exchange.specs.Commands.{SetInfo, CreateRequest, Durable, Reconnect, deletes_on_close, form, is_setup}
use Rattle.spec_exchange.specs.State.{Server, Message, Heard, Record, Answer}
use Rattle.spec_exchange.specs.Files.{find}
use Rattle.spec_exchange.specs.Opens.{id_of, deletes, mapped, with_guid}
use Rattle.spec_exchange.specs.Operations.{id_in}
use Rattle.spec_exchange.specs.CheckCreate.{shares, keeps_guid, max_guids, is_counted_out, has_guid, refused_by}
use Rattle.spec_exchange.specs.CheckCreate.{after_names, names, new_check, live_check, refusal_check, guid_check}
use Rattle.spec_exchange.specs.CheckCreate.{reconnect_check, durable_check, reconnect_or_create}
use Rattle.spec_exchange.specs.CheckSetup.{tree_in}
use Rattle.spec_exchange.specs.Check.{has_session, tree_command, in_tree, command_check, formed, owed, check}
use Rattle.spec_exchange.specs.Effects.{apply, reach, attached, file_made, make_open, next_open, guid_of, set_ranges}
use Rattle.spec_exchange.specs.CheckOpen.{file_of}
use Rattle.spec_exchange.specs.Verdict.{Verdict, Refuse, Give, KeepRefusal, Repeat, Attach, Make, TurnDown, Tell, Show}
use Rattle.spec_exchange.specs.Verdict.{KeepSlot, PutRanges, Alter, CloseOpen, Challenge, ChallengeBinding, Begin, Join}
use Rattle.spec_exchange.specs.Verdict.{EndSession, AddTree, DropTree}
use Rattle.spec_exchange.specs.Step.{step, without_room}
use Rattle.spec_exchange.specs.Network.{answer_to}
use Rattle.law_server.proofs.tables.Doors.{by_verdict, recorded, Finds}
use Rattle.law_server.proofs.tables.Logic.{either}
use Rattle.law_server.specs.tables.Fits.{Fits}
use Rattle.law_server.proofs.tables.Found.{Facts as Found}
use Rattle.law_server.proofs.tables.Checked.{found}
use Rattle.law_order.specs.order.Newest.{Pair, LowSequences}
use Rattle.law_order.proofs.order.Pairs.{Moves, file_alike, slot_alike, change_alike, reach_moves, attached_moves, shut_moves}
use Rattle.law_order.proofs.order.Pairs.{end_moves, end_named_moves}
use Rattle.law_order.proofs.order.Answers.{Earlier, earlier, Given, given_behind}
use Rattle.law_order.proofs.order.Served.{joined}
use Rattle.law_order.proofs.order.Writing.{fits_before, given_of}
use Rattle.spec_exchange.specs.Status.{object_name_not_found}

-- ---- which verdicts answer a create

abbrev is_creation : Verdict → Bool
is_creation (Refuse status) = true
is_creation (KeepRefusal guid status) = true
is_creation (Repeat o r) = true
is_creation (Attach o r) = true
is_creation (Make r found action) = true
is_creation _ = false

record Creation (v : Verdict) : Type 0 where
  is : is_creation v ≡ true

refused_creation : (d : Option Durable) (status : ℕ) → Creation (refused_by d status)
refused_creation None status = record { is = refl }
refused_creation (Some d) status = record { is = refl }

names_creation : (s : Server) (r : CreateRequest) (f n : Option ℕ) → Creation (after_names s r f n)
names_creation s r f (Some status) = refused_creation r.durable status
names_creation s r f None = either Creation (shares s r f) _ _ (λ _. record { is = refl }) (λ _. refused_creation r.durable _)

new_creation : (s : Server) (m : Message) (r : CreateRequest) (f : Option ℕ) → Creation (new_check s m r f)
new_creation s m r f =
    either Creation (deletes_on_close r.options && not (deletes (mapped r.access))) _ _ (λ _. record { is = refl })
    (λ _. either Creation (keeps_guid r && nat_le max_guids (s.guids m.session_id)) _ _ (λ _. record {
      is = refl;
    }) (λ _. either Creation (is_counted_out s r f) _ _ (λ _. refused_creation r.durable _)
    (λ _. names_creation s r f (names s r f))))

live_creation : (s : Server) (m : Message) (r : CreateRequest) (o : ℕ) → Creation (live_check s m r o)
live_creation s m r o =
    either Creation (not m.replay) _ _ (λ _. record {
      is = refl;
    }) (λ _. either Creation (is_at m.session_id (s.session_of_open o)) _ _ (λ _. record { is = refl })
    (λ _. either Creation (is_some (s.session_of_open o) || not (s.opened o).persistent) _ _ (λ _. record {
      is = refl;
    }) (λ _. either Creation (same_name (s.opened o).user (s.user m.session_id)) _ _ (λ _. record {
      is = refl;
    }) (λ _. record { is = refl }))))

refusal_creation : (s : Server) (m : Message) (r : CreateRequest) (k : Option ℕ) → Creation (refusal_check s m r k)
refusal_creation s m r (Some status) = record { is = refl }
refusal_creation s m r None = new_creation s m r (find s r.path)

guid_creation : (s : Server) (m : Message) (r : CreateRequest) (d : Durable) (o : Option ℕ) → Creation (guid_check s m r d o)
guid_creation s m r d (Some o) = live_creation s m r o
guid_creation s m r d None =
    either Creation (s.closed m.session_id d.guid) _ _ (λ _. record {
      is = refl;
    }) (λ _. either Creation (s.expired_guids m.client_guid d.guid) _ _ (λ _. record {
      is = refl;
    }) (λ _. refusal_creation s m r (s.refused m.session_id d.guid)))

reconnect_creation : (s : Server) (m : Message) (r : CreateRequest) (c : Reconnect) → Creation (reconnect_check s m r c)
reconnect_creation s m r c =
    either Creation (not (s.standing c.file && has_guid c.guid (s.opened c.file).create_guid)) _ _ (λ _. record {
      is = refl;
    }) (λ _. either Creation (not (same_name (s.opened c.file).user (s.user m.session_id))) _ _
    (λ _. record { is = refl })
    (λ _. either Creation (is_some (s.session_of_open c.file) && not (is_at m.session_id (s.session_of_open c.file))) _
    _ (λ _. record { is = refl }) (λ _. record { is = refl })))

durable_creation : (s : Server) (m : Message) (r : CreateRequest) (d : Option Durable) → Creation (durable_check s m r d)
durable_creation s m r None = new_creation s m r (find s r.path)
durable_creation s m r (Some d) = guid_creation s m r d (s.by_guid m.client_guid d.guid)

create_creation : (s : Server) (m : Message) (r : CreateRequest) (c : Option Reconnect) → Creation (reconnect_or_create s m r c)
create_creation s m r (Some c) = reconnect_creation s m r c
create_creation s m r None = durable_creation s m r r.durable

tree_creation : (s : Server) (m : Message) (r : CreateRequest) → m.command ≡ Create r → (t : Option Bool) → Creation (in_tree s m t)
tree_creation s m r e None = record { is = refl }
tree_creation s m r e (Some pipes) = subst (λ c. Creation (tree_command s m pipes c)) (sym e)
    (either Creation pipes (Refuse object_name_not_found) (reconnect_or_create s m r r.reconnect) (λ _. record {
      is = refl;
    }) (λ _. create_creation s m r r.reconnect))

formed_creation : (s : Server) (m : Message) (r : CreateRequest) → m.command ≡ Create r → (f : Option ℕ) → Creation (formed s m f)
formed_creation s m r e (Some status) = record { is = refl }
formed_creation s m r e None = subst (λ c. Creation (command_check s m c)) (sym e)
    (tree_creation s m r e (tree_in (s.trees m.session_id) m.tree_id))

owed_creation : (s : Server) (m : Message) (r : CreateRequest) → m.command ≡ Create r → (f : Option ℕ) → Creation (owed s m f)
owed_creation s m r e (Some status) = record { is = refl }
owed_creation s m r e None = formed_creation s m r e (form m.command)

check_creation : (s : Server) (m : Message) (r : CreateRequest) → m.command ≡ Create r → Creation (check s m)
check_creation s m r e = either Creation (is_setup m.command || has_session s m) _ _
    (λ _. owed_creation s m r e m.fault) (λ _. record { is = refl })

creation_without_room : (v : Verdict) → is_creation v ≡ true → Creation (without_room v)
creation_without_room (Refuse status) h = record { is = refl }
creation_without_room (KeepRefusal guid status) h = record { is = refl }
creation_without_room (Repeat o r) h = record { is = refl }
creation_without_room (Attach o r) h = record { is = refl }
creation_without_room (Make r found action) h = refused_creation r.durable _
creation_without_room (Give body) h = absurd (cc)
creation_without_room (TurnDown o status) h = absurd (cc)
creation_without_room (Tell o body) h = absurd (cc)
creation_without_room (Show o last body) h = absurd (cc)
creation_without_room (KeepSlot o index number status elements) h = absurd (cc)
creation_without_room (PutRanges o index number ranges elements) h = absurd (cc)
creation_without_room (Alter o change body) h = absurd (cc)
creation_without_room (CloseOpen o body) h = absurd (cc)
creation_without_room Challenge h = absurd (cc)
creation_without_room (ChallengeBinding session) h = absurd (cc)
creation_without_room (Begin session user previous r is_quiet) h = absurd (cc)
creation_without_room (Join session) h = absurd (cc)
creation_without_room (EndSession session is_quiet) h = absurd (cc)
creation_without_room (AddTree pipes) h = absurd (cc)
creation_without_room DropTree h = absurd (cc)

found_creation : (t : Server) (m : Message) (v : Verdict) (r : CreateRequest) → m.command ≡ Create r → Finds t m v → is_creation v ≡ true
found_creation t m v r e (inl q) = let c = check_creation t m r e in subst (λ u. is_creation u ≡ true) (sym q) c.is
found_creation t m v r e (inr q) = let c = check_creation t m r e in let w = creation_without_room (check t m) c.is in
    subst (λ u. is_creation u ≡ true) (sym q) w.is

-- ---- what is made

-- a create, and the guid and the share access that it asks for
abbrev pub creates : Command → Bool
creates (Create r) = true
creates _ = false

abbrev pub asks_guid : Command → Option ℕ
asks_guid (Create r) = guid_of r.durable
asks_guid _ = None

abbrev pub asks_share : Command → ℕ
asks_share (Create r) = r.share
asks_share _ = 0

-- it asks to attach a standing open
abbrev pub attaches : Command → Bool
attaches (Create r) = is_some r.reconnect
attaches _ = false

pub record Making (s : Server) (m : Message) (A : Answer) : Type 0 where
  pub guid : (p q o : ℕ) → A.server.by_guid p q ≡ Some o → (s.by_guid p q ≡ Some o)
      ⊎ (creates m.command ≡ true × A.acted ≡ true × A.reached ≡ Some o × p ≡ m.client_guid × asks_guid m.command
      ≡ Some q)
  pub new : (o : ℕ) → A.server.standing o ≡ true → (s.standing o ≡ true) ⊎ (creates m.command ≡ true × A.acted ≡ true × A.reached ≡ Some o)
  pub row : (o : ℕ) → creates m.command ≡ true → A.acted ≡ true → A.reached ≡ Some o
      → (A.server.opened o).create_guid ≡ asks_guid m.command × (A.server.opened o).client_guid ≡ m.client_guid
      × (A.server.opened o).share ≡ asks_share m.command × id_of s.epoch s.open_ids_given < o
  pub acts : creates m.command ≡ true → A.acted ≡ true → is_some A.reached ≡ true
  pub fresh : creates m.command ≡ true → A.acted ≡ true → attaches m.command ≡ false
  pub pair : creates m.command ≡ true → Pair A.server m.session_id 0 (id_in A.reply.body)

creates_of : (c : Command) → creates c ≡ true → (r : CreateRequest) × (c ≡ Create r)
creates_of (Create r) e = (r, refl)
creates_of (Aside status) e = absurd (cc)
creates_of (Unreadable status) e = absurd (cc)
creates_of (Setup request) e = absurd (cc)
creates_of Logoff e = absurd (cc)
creates_of (TreeConnect share) e = absurd (cc)
creates_of TreeDisconnect e = absurd (cc)
creates_of (Close file query) e = absurd (cc)
creates_of (Flush file) e = absurd (cc)
creates_of (Read file at size minimum channel) e = absurd (cc)
creates_of (Write file at bytes channel) e = absurd (cc)
creates_of (Lock file index number elements) e = absurd (cc)
creates_of (Ioctl file code room) e = absurd (cc)
creates_of (ListDirectory file class restart single pattern room) e = absurd (cc)
creates_of (QueryFile file class room) e = absurd (cc)
creates_of (QueryVolume file class room) e = absurd (cc)
creates_of (SetInfo file setting) e = absurd (cc)

-- no open is made
record Less (s t : Server) : Type 0 where
  guid : (p q o : ℕ) → t.by_guid p q ≡ Some o → s.by_guid p q ≡ Some o
  stands : (o : ℕ) → t.standing o ≡ true → s.standing o ≡ true

less_of : (s t : Server) → Moves s t → Less s t
less_of s t h = record { guid = h.guid; stands = h.stands }

less_on : (s t u : Server) → Less s t → Less t u → Less s u
less_on s t u a b = record { guid = λ p q o e. a.guid p q o (b.guid p q o e); stands = λ o e. a.stands o (b.stands o e) }

less_same : (s t : Server) → t.by_guid ≡ s.by_guid → t.standing ≡ s.standing → Less s t
less_same s t g st = record { guid = λ p q o e. ap (λ f. f p q) (sym g) ∙ e; stands = λ o e. ap (λ f. f o) (sym st) ∙ e }

none_made : (s : Server) (m : Message) (A : Answer) → Less s A.server → (creates m.command ≡ true → A.acted ≡ false)
    → (creates m.command ≡ true → Pair A.server m.session_id 0 (id_in A.reply.body)) → Making s m A
none_made s m A h idle pair =
    record {
      guid = λ p q o e. inl (h.guid p q o e);
      new = λ o e. inl (h.stands o e);
      row = λ o c a r. absurd (let z = idle c in grind arith);
      acts = λ c a. absurd (let z = idle c in grind arith);
      fresh = λ c a. absurd (let z = idle c in grind arith);
      pair = pair;
    }

-- what isn't a create's verdict comes to no create
other_made : (s : Server) (m : Message) (A : Answer) (v : Verdict) → is_creation v ≡ false
    → (creates m.command ≡ true → is_creation v ≡ true) → Less s A.server → Making s m A
other_made s m A v n f h = none_made s m A h (λ c. absurd (let z = f c in grind arith)) (λ c. absurd (let z = f c in grind arith))

no_zero : (s t : Server) (x : ℕ) → ((o : ℕ) → s.standing o ≡ true → 0 < o) → Less s t → Pair t x 0 0
no_zero s t x above h st pr = absurd (let l = above 0 (h.stands 0 st) in omega (arith, l))

not_other : (s : Server) (m : Message) (o : ℕ) → (s.session_of_open o ≡ Some m.session_id)
    ⊎ (s.session_of_open o ≡ None) → (is_some (s.session_of_open o) && not (is_at m.session_id (s.session_of_open o)))
    ≡ false
not_other s m o (inl e) = grind arith
not_other s m o (inr e) = grind arith

attached_pair : (s : Server) (m : Message) (o : ℕ) → (s.session_of_open o ≡ Some m.session_id)
    ⊎ (s.session_of_open o ≡ None) → Pair (attached s m o) m.session_id 0 o
attached_pair s m o h st pr = (joined s m o (not_other s m o h), omega arith)

make_making : (s : Server) (m : Message) (r : CreateRequest) (found : Option ℕ) (action now : ℕ) → m.command ≡ Create r
    → r.reconnect ≡ None → Making s m (apply s m now (Make r found action))
make_making s m r found action now e nr =
    record {
      guid = λ p q o h. by_guid p q o h;
      new = λ o h. by_new o h;
      row = λ o c a h. (row_guid o h ∙ sym (ap asks_guid e), row_client o h, row_share o h ∙ sym (ap asks_share e), above o h);
      acts = λ c a. refl;
      fresh = λ c a. ap attaches e ∙ ap is_some nr;
      pair = λ c st pr. (own_at, omega arith);
    }
  where
    u : Server
    u = file_made s r found now

    by_guid : (p q o : ℕ) → (make_open s m r found action now).by_guid p q ≡ Some o
        → (s.by_guid p q ≡ Some o) ⊎ (creates m.command ≡ true × (apply s m now (Make r found action)).acted ≡ true
        × (apply s m now (Make r found action)).reached ≡ Some o × p ≡ m.client_guid × asks_guid m.command ≡ Some q)
    by_guid p q o h = let al = file_alike s r found now in by_durable (guid_of r.durable) refl
        (ap (λ g. with_guid g m.client_guid (guid_of r.durable) (Some (next_open s)) p q) (sym al.by_guid) ∙ h)
      where
        by_durable : (g : Option ℕ) → guid_of r.durable ≡ g → with_guid s.by_guid m.client_guid g (Some (next_open s)) p q ≡ Some o
            → (s.by_guid p q ≡ Some o) ⊎ (creates m.command ≡ true × (apply s m now (Make r found action)).acted ≡ true
            × (apply s m now (Make r found action)).reached ≡ Some o × p ≡ m.client_guid × asks_guid m.command
            ≡ Some q)
        by_durable None k h = inl h
        by_durable (Some g) k h =
            elim (p == m.client_guid) as (λ b. p == m.client_guid ≡ b → (s.by_guid p q ≡ Some o)
            ⊎ (creates m.command ≡ true × (apply s m now (Make r found action)).acted ≡ true
            × (apply s m now (Make r found action)).reached ≡ Some o × p ≡ m.client_guid × asks_guid m.command
            ≡ Some q)) [
              | true ↦ λ zp. elim (q == g) as (λ b. q == g ≡ b → (s.by_guid p q ≡ Some o)
                  ⊎ (creates m.command ≡ true × (apply s m now (Make r found action)).acted ≡ true
                  × (apply s m now (Make r found action)).reached ≡ Some o × p ≡ m.client_guid × asks_guid m.command
                  ≡ Some q)) [
                    | true ↦ λ zq. let pe : p ≡ m.client_guid = eqb-true p m.client_guid zp in let qe : q
                        ≡ g = eqb-true q g zq in inr (
                          ap creates e,
                          refl,
                          grind arith,
                          pe,
                          ap asks_guid e
                              ∙ (k ∙ ap Some (sym qe)),
                        )
                    | false ↦ λ zq. let qe : q ≢ g = eqb-false q g zq in inl (grind arith)
                  ] refl
              | false ↦ λ zp. let pe : p ≢ m.client_guid = eqb-false p m.client_guid zp in inl (grind arith)
            ] refl

    by_new : (o : ℕ) → (make_open s m r found action now).standing o ≡ true → (s.standing o ≡ true)
        ⊎ (creates m.command ≡ true × (apply s m now (Make r found action)).acted ≡ true
        × (apply s m now (Make r found action)).reached ≡ Some o)
    by_new o h = let al = file_alike s r found now in let st = al.standing in
        elim (o == next_open s) as (λ b. o == next_open s ≡ b → (s.standing o ≡ true)
        ⊎ (creates m.command ≡ true × (apply s m now (Make r found action)).acted ≡ true
        × (apply s m now (Make r found action)).reached ≡ Some o)) [
          | true ↦ λ z. inr (ap creates e, refl, ap Some (sym (eqb-true o (next_open s) z)))
          | false ↦ λ z. let oe : o ≢ next_open s = eqb-false o (next_open s) z in inl (grind arith)
        ] refl

    some_same : (x y : ℕ) → Some x ≡ Some y → x ≡ y
    some_same x y h = grind arith

    row_guid : (o : ℕ) → Some (next_open s) ≡ Some o → ((make_open s m r found action now).opened o).create_guid ≡ guid_of r.durable
    row_guid o h = let z : next_open s ≡ o = some_same (next_open s) o h in grind arith

    row_client : (o : ℕ) → Some (next_open s) ≡ Some o → ((make_open s m r found action now).opened o).client_guid ≡ m.client_guid
    row_client o h = let z : next_open s ≡ o = some_same (next_open s) o h in grind arith

    row_share : (o : ℕ) → Some (next_open s) ≡ Some o → ((make_open s m r found action now).opened o).share ≡ r.share
    row_share o h = let z : next_open s ≡ o = some_same (next_open s) o h in grind arith

    above : (o : ℕ) → Some (next_open s) ≡ Some o → id_of s.epoch s.open_ids_given < o
    above o h = let z = some_same (next_open s) o h in omega (arith, z)

    own_at : (make_open s m r found action now).session_of_open (next_open s) ≡ Some m.session_id
    own_at = put_here u.session_of_open (next_open s) (Some m.session_id)
      where
        put_here : (g : ℕ → Option ℕ) (k : ℕ) (v : Option ℕ) → put g k v k ≡ v
        put_here g k v = grind arith

verdict_making : (s : Server) (m : Message) (now : ℕ) → Given s m → ((o : ℕ) → s.standing o ≡ true → 0 < o)
    → (v : Verdict) → Found s m v → (creates m.command ≡ true → is_creation v ≡ true) → Making s m (apply s m now v)
verdict_making s m now g above (Refuse status) h f = none_made s m _ (less_same s s refl refl) (λ c. refl)
    (λ c. no_zero s s m.session_id above (less_same s s refl refl))
verdict_making s m now g above (KeepRefusal guid status) h f = let l =
    less_same s (apply s m now (KeepRefusal guid status)).server refl refl in none_made s m _ l (λ c. refl)
    (λ c. no_zero s _ m.session_id above l)
verdict_making s m now g above (Repeat o r) h f = none_made s m _ (less_of s _ (attached_moves s m o g.sequence))
    (λ c. refl) (λ c. attached_pair s m o (whose h.whose))
  where
    whose : (s.session_of_open o ≡ Some m.session_id) ⊎ (s.session_of_open o ≡ None × (s.opened o).persistent ≡ true
        × same_name (s.opened o).user (s.user m.session_id) ≡ true) → (s.session_of_open o ≡ Some m.session_id)
        ⊎ (s.session_of_open o ≡ None)
    whose (inl e) = inl e
    whose (inr e) = inr e.0
verdict_making s m now g above (Attach o r) h f = none_made s m _ (less_of s _ (attached_moves s m o g.sequence))
    (λ c. refl) (λ c. attached_pair s m o (whose h.whose))
  where
    whose : (s.session_of_open o ≡ None) ⊎ (s.session_of_open o ≡ Some m.session_id)
        → (s.session_of_open o ≡ Some m.session_id) ⊎ (s.session_of_open o ≡ None)
    whose (inl e) = inr e
    whose (inr e) = inl e
verdict_making s m now g above (Make r found action) h f = make_making s m r found action now h.new.create.command h.new.new
verdict_making s m now g above (Give body) h f = other_made s m _ (Give body) refl f (less_same s _ refl refl)
verdict_making s m now g above (TurnDown o status) h f = other_made s m _ (TurnDown o status) refl f
    (less_of s _ (reach_moves s m o g.low g.sequence))
verdict_making s m now g above (Tell o body) h f = other_made s m _ (Tell o body) refl f (less_of s _ (reach_moves s m o g.low g.sequence))
verdict_making s m now g above (Show o last body) h f = other_made s m _ (Show o last body) refl f
    (less_on s (reach s m o) _ (less_of s _ (reach_moves s m o g.low g.sequence)) (less_same (reach s m o) _ refl refl))
verdict_making s m now g above (KeepSlot o index number status elements) h f = other_made s m _
    (KeepSlot o index number status elements) refl f
    (less_on s (reach s m o) _ (less_of s _ (reach_moves s m o g.low g.sequence))
    (let a = slot_alike (reach s m o) o index number status in less_same (reach s m o) _ a.by_guid a.standing))
verdict_making s m now g above (PutRanges o index number ranges elements) h f = other_made s m _
    (PutRanges o index number ranges elements) refl f
    (less_on s (reach s m o) _ (less_of s _ (reach_moves s m o g.low g.sequence))
    (let a = slot_alike (set_ranges (reach s m o) (file_of s o) ranges) o index number 0 in less_same (reach s m o) _
    a.by_guid a.standing))
verdict_making s m now g above (Alter o change body) h f = other_made s m _ (Alter o change body) refl f
    (less_on s (reach s m o) _ (less_of s _ (reach_moves s m o g.low g.sequence))
    (let a = change_alike (reach s m o) (file_of s o) now change in less_same (reach s m o) _ a.by_guid a.standing))
verdict_making s m now g above (CloseOpen o body) h f = other_made s m _ (CloseOpen o body) refl f
    (less_of s _ (shut_moves s o m.session_id (s.opened o).create_guid))
verdict_making s m now g above Challenge h f = other_made s m _ Challenge refl f (less_same s _ refl refl)
verdict_making s m now g above (ChallengeBinding session) h f = other_made s m _ (ChallengeBinding session) refl f (less_same s _ refl refl)
verdict_making s m now g above (Begin session user previous r is_quiet) h f = other_made s m _
    (Begin session user previous r is_quiet) refl f (let e = end_named_moves s now previous is_quiet in record {
      guid = e.guid;
      stands = e.stands;
    })
verdict_making s m now g above (Join session) h f = other_made s m _ (Join session) refl f (less_same s _ refl refl)
verdict_making s m now g above (EndSession session is_quiet) h f = other_made s m _ (EndSession session is_quiet) refl f
    (less_of s _ (end_moves s session now is_quiet))
verdict_making s m now g above (AddTree pipes) h f = other_made s m _ (AddTree pipes) refl f (less_same s _ refl refl)
verdict_making s m now g above DropTree h f = other_made s m _ DropTree refl f (less_of s _ (tree_moves s m.session_id m.tree_id))

-- ---- the event

making_before : (s t : Server) (m : Message) (A : Answer) → Earlier s t → Making t m A → Making s m A
making_before s t m A k f =
    record {
      guid = λ p q o e. by_guid p q o (f.guid p q o e);
      new = λ o e. by_new o (f.new o e);
      row = λ o c a r. let h = f.row o c a r in let x = k.moves.epoch in let y = k.moves.given in let l = h.3 in
          (h.0, h.1, h.2, up s.epoch s.open_ids_given t.epoch t.open_ids_given o x y l);
      acts = f.acts;
      fresh = f.fresh;
      pair = f.pair;
    }
  where
    up : (e g e2 g2 o : ℕ) → e2 ≡ e → g2 ≡ g → id_of e2 g2 < o → id_of e g < o
    up e g e2 g2 o a b l = omega (arith, a, b, l)

    by_guid : (p q o : ℕ) → (t.by_guid p q ≡ Some o) ⊎ (creates m.command ≡ true × A.acted ≡ true × A.reached ≡ Some o
        × p ≡ m.client_guid × asks_guid m.command ≡ Some q) → (s.by_guid p q ≡ Some o)
        ⊎ (creates m.command ≡ true × A.acted ≡ true × A.reached ≡ Some o × p ≡ m.client_guid × asks_guid m.command
        ≡ Some q)
    by_guid p q o (inl e) = inl (k.moves.guid p q o e)
    by_guid p q o (inr e) = inr e

    by_new : (o : ℕ) → (t.standing o ≡ true) ⊎ (creates m.command ≡ true × A.acted ≡ true × A.reached ≡ Some o)
        → (s.standing o ≡ true) ⊎ (creates m.command ≡ true × A.acted ≡ true × A.reached ≡ Some o)
    by_new o (inl e) = inl (k.moves.stands o e)
    by_new o (inr e) = inr e

making_recorded : (s : Server) (m : Message) (A : Answer) (records : List Record) → Making s m A → Making s m (recorded A records)
making_recorded s m A records f = record { guid = f.guid; new = f.new; row = f.row; acts = f.acts; fresh = f.fresh; pair = f.pair }

making_step : (s : Server) (now : ℕ) (m : Message) → Fits s → LowSequences s → m.channel_sequence ≤ 32767
    → Making s m (step s now (Heard m))
making_step s now m f low l =
    by_verdict (Making s m) s now m
    (λ t v records b h. let k = earlier s now t b in let ft = fits_before s now m t b f in
    making_recorded s m _ records
    (making_before s t m _ k (verdict_making t m now (given_behind s t m (given_of s m f low l) k)
    (λ o st. (ft.open_ids o st).0) v (found t m v h) (λ c. let r = creates_of m.command c in
    found_creation t m v r.0 r.1 h))))

pub making : (s : Server) (now : ℕ) (m : Message) (c : Command) → c ≡ m.command → Fits s → LowSequences s
    → m.channel_sequence ≤ 32767 → Making s m (answer_to s now m c)
making s now m (Aside status) e f low l = none_made s m _ (less_same s s refl refl) (λ c. refl)
    (λ c. absurd (let z = ap creates e in grind arith))
making s now m (Unreadable status) e f low l = making_step s now m f low l
making s now m (Setup request) e f low l = making_step s now m f low l
making s now m Logoff e f low l = making_step s now m f low l
making s now m (TreeConnect share) e f low l = making_step s now m f low l
making s now m TreeDisconnect e f low l = making_step s now m f low l
making s now m (Create request) e f low l = making_step s now m f low l
making s now m (Close file query) e f low l = making_step s now m f low l
making s now m (Flush file) e f low l = making_step s now m f low l
making s now m (Read file at size minimum channel) e f low l = making_step s now m f low l
making s now m (Write file at bytes channel) e f low l = making_step s now m f low l
making s now m (Lock file index number elements) e f low l = making_step s now m f low l
making s now m (Ioctl file code room) e f low l = making_step s now m f low l
making s now m (ListDirectory file class restart single pattern room) e f low l = making_step s now m f low l
making s now m (QueryFile file class room) e f low l = making_step s now m f low l
making s now m (QueryVolume file class room) e f low l = making_step s now m f low l
making s now m (SetInfo file setting) e f low l = making_step s now m f low l
