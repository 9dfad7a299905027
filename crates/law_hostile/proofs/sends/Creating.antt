-- The open that the answer to a CREATE names has an id of the server's epoch, or of one before it.
use Rattle.std.proofs.Common.{◌≡◌, ℕ, ◌+◌, ◌<◌, ◌≤◌, nat_le, Bool, true, false, not, ◌&&◌, ◌||◌, List, sym, subst, arith}
use Rattle.std.proofs.Common.{inl, inr, Option, Some, None, is_some}
use Rattle.spec_exchange.specs.Table.{is_at}
use Rattle.spec_exchange.specs.Status.{user_session_deleted, sharing_violation, insufficient_resources, disk_full}
use Rattle.spec_exchange.specs.Texts.{same_name}
use Rattle.spec_exchange.specs.Commands.{Command, Create, CreateRequest, Durable, Reconnect, deletes_on_close, form, is_setup}
use Rattle.spec_exchange.specs.State.{Server, Message, Heard, Record}
use Rattle.spec_exchange.specs.Files.{find}
use Rattle.spec_exchange.specs.Opens.{id_of, max_ids, deletes, mapped, leave_open}
use Rattle.spec_exchange.specs.CheckCreate.{keeps_guid, max_guids, is_counted_out, action_of, names, shares, refused_by, refused_create, after_names}
use Rattle.spec_exchange.specs.CheckCreate.{new_check, live_check, refusal_check, guid_check, has_guid, reconnect_check, durable_check, create_check}
use Rattle.spec_exchange.specs.CheckCreate.{reconnect_or_create}
use Rattle.spec_exchange.specs.CheckSetup.{tree_in}
use Rattle.spec_exchange.specs.Check.{check, owed, formed, command_check, in_tree, tree_command, has_session}
use Rattle.spec_exchange.specs.Effects.{apply}
use Rattle.spec_exchange.specs.Verdict.{Verdict, Refuse, Give, KeepRefusal, Repeat, Attach, Make, TurnDown, Tell, Show, KeepSlot, PutRanges, Alter}
use Rattle.spec_exchange.specs.Verdict.{CloseOpen, Challenge, ChallengeBinding, Begin, Join, EndSession, AddTree, DropTree}
use Rattle.spec_exchange.specs.Step.{step, without_room, with_deadlines, add_expired_guid}
use Rattle.spec_exchange.specs.Operations.{id_in}
use Rattle.law_server.specs.tables.Fits.{Fits}
use Rattle.law_server.proofs.tables.Closing.{left_beside}
use Rattle.law_server.proofs.tables.Logic.{either}
use Rattle.law_server.proofs.tables.Doors.{Before, Finds, by_verdict, recorded}
use Rattle.law_server.proofs.tables.Found.{Facts}
use Rattle.law_server.proofs.tables.Checked.{found}
use Rattle.law_server.proofs.tables.SessionEffects.{deadlines_keeps}
use Rattle.law_server.proofs.tables.Applied.{expired_keeps}

-- ---- the verdicts on a CREATE

abbrev OfCreate : Verdict → Type 0
OfCreate (Refuse status) = Unit {0}
OfCreate (KeepRefusal guid status) = Unit {0}
OfCreate (Repeat o r) = Unit {0}
OfCreate (Attach o r) = Unit {0}
OfCreate (Make r found action) = Unit {0}
OfCreate (TurnDown o status) = Unit {0}
OfCreate _ = ⊥

of_refused : (u : Option Durable) (status : ℕ) → OfCreate (refused_by u status)
of_refused None status = tt
of_refused (Some d) status = tt

of_after : (s : Server) (r : CreateRequest) (found u : Option ℕ) → OfCreate (after_names s r found u)
of_after s r found (Some status) = of_refused r.durable status
of_after s r found None =
    either OfCreate (shares s r found) (Make r found (action_of r found)) (refused_create r sharing_violation) (λ _. tt)
    (λ _. of_refused r.durable sharing_violation)

of_new : (s : Server) (m : Message) (r : CreateRequest) (found : Option ℕ) → OfCreate (new_check s m r found)
of_new s m r found =
    either OfCreate (deletes_on_close r.options && not (deletes (mapped r.access))) _ _ (λ _. tt)
    (λ _. either OfCreate (keeps_guid r && nat_le max_guids (s.guids m.session_id)) _ _ (λ _. tt)
    (λ _. either OfCreate (is_counted_out s r found) _ _ (λ _. of_refused r.durable insufficient_resources)
    (λ _. of_after s r found (names s r found))))

of_live : (s : Server) (m : Message) (r : CreateRequest) (o : ℕ) → OfCreate (live_check s m r o)
of_live s m r o =
    either OfCreate (not m.replay) _ _ (λ _. tt)
    (λ _. either OfCreate (is_at m.session_id (s.session_of_open o)) _ _ (λ _. tt)
    (λ _. either OfCreate (is_some (s.session_of_open o) || not (s.opened o).persistent) _ _ (λ _. tt)
    (λ _. either OfCreate (same_name (s.opened o).user (s.user m.session_id)) _ _ (λ _. tt) (λ _. tt))))

of_refusal : (s : Server) (m : Message) (r : CreateRequest) (u : Option ℕ) → OfCreate (refusal_check s m r u)
of_refusal s m r (Some status) = tt
of_refusal s m r None = of_new s m r (find s r.path)

of_guid : (s : Server) (m : Message) (r : CreateRequest) (d : Durable) (u : Option ℕ) → OfCreate (guid_check s m r d u)
of_guid s m r d (Some o) = of_live s m r o
of_guid s m r d None =
    either OfCreate (s.closed m.session_id d.guid) _ _ (λ _. tt)
    (λ _. either OfCreate (s.expired_guids m.client_guid d.guid) _ _ (λ _. tt)
    (λ _. of_refusal s m r (s.refused m.session_id d.guid)))

of_durable : (s : Server) (m : Message) (r : CreateRequest) (u : Option Durable) → OfCreate (durable_check s m r u)
of_durable s m r None = of_new s m r (find s r.path)
of_durable s m r (Some d) = of_guid s m r d (s.by_guid m.client_guid d.guid)

of_reconnect : (s : Server) (m : Message) (r : CreateRequest) (c : Reconnect) → OfCreate (reconnect_check s m r c)
of_reconnect s m r c =
    either OfCreate (not (s.standing c.file && has_guid c.guid (s.opened c.file).create_guid)) _ _ (λ _. tt)
    (λ _. either OfCreate (not (same_name (s.opened c.file).user (s.user m.session_id))) _ _ (λ _. tt)
    (λ _. either OfCreate (is_some (s.session_of_open c.file) && not (is_at m.session_id (s.session_of_open c.file))) _ _
    (λ _. tt) (λ _. tt)))

of_either : (s : Server) (m : Message) (r : CreateRequest) (u : Option Reconnect) → OfCreate (reconnect_or_create s m r u)
of_either s m r (Some c) = of_reconnect s m r c
of_either s m r None = of_durable s m r r.durable

of_create : (s : Server) (m : Message) (r : CreateRequest) (pipes : Bool) → OfCreate (create_check s m r pipes)
of_create s m r true = tt
of_create s m r false = of_either s m r r.reconnect

of_check : (s : Server) (m : Message) (r : CreateRequest) → m.command ≡ Create r → OfCreate (check s m)
of_check s m r e =
    either OfCreate (is_setup m.command || has_session s m) (owed s m m.fault) (Refuse user_session_deleted)
    (λ _. by_fault m.fault) (λ _. tt)
  where
    in_trees : (u : Option Bool) → OfCreate (in_tree s m u)
    in_trees None = tt
    in_trees (Some pipes) = subst (λ (d : Command). OfCreate (tree_command s m pipes d)) (sym e) (of_create s m r pipes)

    by_form : (u : Option ℕ) → OfCreate (formed s m u)
    by_form (Some status) = tt
    by_form None =
        subst (λ (d : Command). OfCreate (command_check s m d)) (sym e) (in_trees (tree_in (s.trees m.session_id) m.tree_id))

    by_fault : (u : Option ℕ) → OfCreate (owed s m u)
    by_fault (Some status) = tt
    by_fault None = by_form (form m.command)

of_full : (v : Verdict) → OfCreate v → OfCreate (without_room v)
of_full (Refuse status) e = tt
of_full (KeepRefusal guid status) e = tt
of_full (Repeat o r) e = tt
of_full (Attach o r) e = tt
of_full (Make r found action) e = of_refused r.durable disk_full
of_full (TurnDown o status) e = tt
of_full (Give body) e = absurd e
of_full (Tell o body) e = absurd e
of_full (Show o last body) e = absurd e
of_full (KeepSlot o index number status elements) e = absurd e
of_full (PutRanges o index number ranges elements) e = absurd e
of_full (Alter o change body) e = absurd e
of_full (CloseOpen o body) e = absurd e
of_full Challenge e = absurd e
of_full (ChallengeBinding session) e = absurd e
of_full (Begin session user previous r is_quiet) e = absurd e
of_full (Join session) e = absurd e
of_full (EndSession session is_quiet) e = absurd e
of_full (AddTree pipes) e = absurd e
of_full DropTree e = absurd e

of_found : (t : Server) (m : Message) (r : CreateRequest) (v : Verdict) → m.command ≡ Create r → Finds t m v → OfCreate v
of_found t m r v e (inl is) = subst OfCreate (sym is) (of_check t m r e)
of_found t m r v e (inr is) = subst OfCreate (sym is) (of_full (check t m) (of_check t m r e))

-- ---- the answer

none_low : (n : ℕ) → 0 ≤ id_of n max_ids
none_low n = omega arith

given_low : (o e g n : ℕ) → o ≤ id_of e g → e ≤ n → g ≤ max_ids → o ≤ id_of n max_ids
given_low o e g n l k h = omega (arith, l, k, h)

next_low : (e g n : ℕ) → e ≤ n → g < max_ids → id_of e (g + 1) ≤ id_of n max_ids
next_low e g n k h = omega (arith, k, h)

body_low : (n : ℕ) (t : Server) (m : Message) (now : ℕ) (records : List Record) (v : Verdict) → t.epoch ≤ n → Fits t → Facts t m v → OfCreate v
    → id_in (recorded (apply t m now v) records).reply.body ≤ id_of n max_ids
body_low n t m now records (Refuse status) k i f e = none_low n
body_low n t m now records (KeepRefusal guid status) k i f e = none_low n
body_low n t m now records (TurnDown o status) k i f e = none_low n
body_low n t m now records (Repeat o r) k i f e =
    let named = i.guid_open m.client_guid f.durable.guid o f.named in
    let id = i.open_ids o named.0 in
    given_low o t.epoch t.open_ids_given n id.1 k i.given
body_low n t m now records (Attach o r) k i f e =
    let id = i.open_ids o f.standing in given_low o t.epoch t.open_ids_given n id.1 k i.given
body_low n t m now records (Make r found action) k i f e = next_low t.epoch t.open_ids_given n k f.given
body_low n t m now records (Give body) k i f e = absurd e
body_low n t m now records (Tell o body) k i f e = absurd e
body_low n t m now records (Show o last body) k i f e = absurd e
body_low n t m now records (KeepSlot o index number status elements) k i f e = absurd e
body_low n t m now records (PutRanges o index number ranges elements) k i f e = absurd e
body_low n t m now records (Alter o change body) k i f e = absurd e
body_low n t m now records (CloseOpen o body) k i f e = absurd e
body_low n t m now records Challenge k i f e = absurd e
body_low n t m now records (ChallengeBinding session) k i f e = absurd e
body_low n t m now records (Begin session user previous r is_quiet) k i f e = absurd e
body_low n t m now records (Join session) k i f e = absurd e
body_low n t m now records (EndSession session is_quiet) k i f e = absurd e
body_low n t m now records (AddTree pipes) k i f e = absurd e
body_low n t m now records DropTree k i f e = absurd e

-- ---- the state that the checks see

epoch_left : (n : ℕ) (s : Server) (o : ℕ) → s.epoch ≤ n → (leave_open s o).epoch ≤ n
epoch_left n s o l = subst (λ (k : ℕ). k ≤ n) (sym (left_beside s o).epoch) l

epoch_added : (n : ℕ) (s : Server) (client : ℕ) (g : Option ℕ) → s.epoch ≤ n → (add_expired_guid s client g).epoch ≤ n
epoch_added n s client None l = l
epoch_added n s client (Some g) l = l

abbrev Seen : ℕ → Server → Type 0
Seen n t = Fits t × (t.epoch ≤ n)

seen_by : (n : ℕ) (s : Server) (now : ℕ) (t : Server) → Before s now t → Fits s → s.epoch ≤ n → Seen n t
seen_by n s now t (inl q) i l = subst (Seen n) (sym q) (deadlines_keeps s now i, l)
seen_by n s now t (inr q) i l =
    let d = with_deadlines s now in
    let o = q.0 in
    subst (Seen n) (sym q.2) (
      expired_keeps d now o q.1 (deadlines_keeps s now i),
      epoch_added n (leave_open d o) (d.opened o).client_guid (d.opened o).create_guid (epoch_left n d o l),
    )

pub create_low : (n : ℕ) (s : Server) (now : ℕ) (m : Message) (r : CreateRequest) → m.command ≡ Create r → s.epoch ≤ n → Fits s
    → id_in (step s now (Heard m)).reply.body ≤ id_of n max_ids
create_low n s now m r e l i =
    by_verdict (λ A. id_in A.reply.body ≤ id_of n max_ids) s now m
    (λ t v records b f. (let c = seen_by n s now t b i l in
    body_low n t m now records v c.1 c.0 (found t m v f) (of_found t m r v e f)))
