-- The verdicts on a CREATE: a refusal is no success, and all others make, repeat or attach an open.
use Rattle.std.proofs.Common.{◌≡◌, ℕ, ◌==◌, nat_le, nat_lt, Bool, true, false, not, ◌&&◌, ◌||◌, List, refl, sym, subst}
use Rattle.std.proofs.Common.{Option, Some, None, is_some, inl, inr}
use Rattle.spec_exchange.specs.Table.{is_at}
use Rattle.spec_exchange.specs.Status.{success, user_session_deleted, sharing_violation, insufficient_resources, disk_full}
use Rattle.spec_exchange.specs.Texts.{same_name, begins_with_backslash, is_path}
use Rattle.spec_exchange.specs.Commands.{Command, Create, CreateRequest, Durable, Reconnect}
use Rattle.spec_exchange.specs.Commands.{deletes_on_close, asks_directory, asks_file, form, path_form}
use Rattle.spec_exchange.specs.Commands.{made_form, create_form, is_setup}
use Rattle.spec_exchange.specs.Commands.{has_bit}
use Rattle.spec_exchange.specs.State.{Server, Message}
use Rattle.spec_exchange.specs.Files.{find}
use Rattle.spec_exchange.specs.Opens.{deletes, mapped}
use Rattle.spec_exchange.specs.CheckCreate.{keeps_guid, max_guids, is_counted_out, action_of, names, shares, refused_by, refused_create}
use Rattle.spec_exchange.specs.CheckCreate.{after_names, new_check, live_check, refusal_check, guid_check, reconnect_check, has_guid}
use Rattle.spec_exchange.specs.CheckCreate.{durable_check, reconnect_or_create, create_check}
use Rattle.spec_exchange.specs.CheckSetup.{tree_in}
use Rattle.spec_exchange.specs.Check.{check, owed, formed, command_check, in_tree, tree_command, has_session}
use Rattle.spec_exchange.specs.Verdict.{Verdict, Refuse, Give, KeepRefusal, Repeat, Attach, Make, TurnDown, Tell, Show}
use Rattle.spec_exchange.specs.Verdict.{KeepSlot, PutRanges, Alter, CloseOpen, Challenge, ChallengeBinding, Begin, Join}
use Rattle.spec_exchange.specs.Verdict.{EndSession, AddTree, DropTree}
use Rattle.spec_exchange.specs.Step.{without_room}
use Rattle.law_server.proofs.tables.Logic.{either}
use Rattle.law_server.proofs.tables.Doors.{Finds}
use Rattle.law_answers.proofs.statuses.Checks.{KeptIn, LowServer, low_names}

abbrev pub Opens : Verdict → Type 0
Opens (Refuse status) = (status == success) ≡ false
Opens (KeepRefusal guid status) = (status == success) ≡ false
Opens (Repeat o r) = Unit {0}
Opens (Attach o r) = Unit {0}
Opens (Make r found action) = Unit {0}
Opens _ = ⊥

open_refused : (u : Option Durable) (status : ℕ) → (status == success) ≡ false → Opens (refused_by u status)
open_refused None status off = off
open_refused (Some d) status off = off

open_after : (s : Server) (r : CreateRequest) (found u : Option ℕ) → KeptIn u → Opens (after_names s r found u)
open_after s r found (Some status) e = open_refused r.durable status e.1
open_after s r found None e =
    either Opens (shares s r found) (Make r found (action_of r found)) (refused_create r sharing_violation) (λ _. tt)
    (λ _. open_refused r.durable sharing_violation refl)

open_new : (s : Server) (m : Message) (r : CreateRequest) (found : Option ℕ) → Opens (new_check s m r found)
open_new s m r found =
    either Opens (deletes_on_close r.options && not (deletes (mapped r.access))) _ _ (λ _. refl)
    (λ _. either Opens (keeps_guid r && nat_le max_guids (s.guids m.session_id)) _ _ (λ _. refl)
    (λ _. either Opens (is_counted_out s r found) _ _ (λ _. open_refused r.durable insufficient_resources refl)
    (λ _. open_after s r found (names s r found) (low_names s r found))))

open_live : (s : Server) (m : Message) (r : CreateRequest) (o : ℕ) → Opens (live_check s m r o)
open_live s m r o =
    either Opens (not m.replay) _ _ (λ _. refl) (λ _. either Opens (is_at m.session_id (s.session_of_open o)) _ _ (λ _. tt)
    (λ _. either Opens (is_some (s.session_of_open o) || not (s.opened o).persistent) _ _ (λ _. refl)
    (λ _. either Opens (same_name (s.opened o).user (s.user m.session_id)) _ _ (λ _. tt) (λ _. refl))))

open_refusal : (s : Server) (m : Message) (r : CreateRequest) (u : Option ℕ) → KeptIn u → Opens (refusal_check s m r u)
open_refusal s m r (Some status) e = e.1
open_refusal s m r None e = open_new s m r (find s r.path)

open_guid : (s : Server) (m : Message) (r : CreateRequest) (d : Durable) (u : Option ℕ) → LowServer s → Opens (guid_check s m r d u)
open_guid s m r d (Some o) f = open_live s m r o
open_guid s m r d None f =
    either Opens (s.closed m.session_id d.guid) _ _ (λ _. refl)
    (λ _. either Opens (s.expired_guids m.client_guid d.guid) _ _ (λ _. refl)
    (λ _. open_refusal s m r (s.refused m.session_id d.guid) (f.creates m.session_id d.guid)))

open_durable : (s : Server) (m : Message) (r : CreateRequest) (u : Option Durable) → LowServer s → Opens (durable_check s m r u)
open_durable s m r None f = open_new s m r (find s r.path)
open_durable s m r (Some d) f = open_guid s m r d (s.by_guid m.client_guid d.guid) f

open_reconnect : (s : Server) (m : Message) (r : CreateRequest) (c : Reconnect) → Opens (reconnect_check s m r c)
open_reconnect s m r c =
    either Opens (not (s.standing c.file && has_guid c.guid (s.opened c.file).create_guid)) _ _ (λ _. refl)
    (λ _. either Opens (not (same_name (s.opened c.file).user (s.user m.session_id))) _ _ (λ _. refl)
    (λ _. either Opens (is_some (s.session_of_open c.file) && not (is_at m.session_id (s.session_of_open c.file))) _ _
    (λ _. refl) (λ _. tt)))

open_connect_or : (s : Server) (m : Message) (r : CreateRequest) (u : Option Reconnect) → LowServer s
    → Opens (reconnect_or_create s m r u)
open_connect_or s m r (Some c) f = open_reconnect s m r c
open_connect_or s m r None f = open_durable s m r r.durable f

open_create : (s : Server) (m : Message) (r : CreateRequest) (pipes : Bool) → LowServer s → Opens (create_check s m r pipes)
open_create s m r true f = refl
open_create s m r false f = open_connect_or s m r r.reconnect f

-- ---- the ordered checks

open_in_tree : (s : Server) (m : Message) (r : CreateRequest) (u : Option Bool) → m.command ≡ Create r → LowServer s → Opens (in_tree s m u)
open_in_tree s m r None e f = refl
open_in_tree s m r (Some pipes) e f = by m.command e
  where
    by : (c : Command) → c ≡ Create r → Opens (tree_command s m pipes c)
    by c is = subst (λ d. Opens (tree_command s m pipes d)) (sym is) (open_create s m r pipes f)

open_command : (s : Server) (m : Message) (r : CreateRequest) → m.command ≡ Create r → LowServer s → Opens (command_check s m m.command)
open_command s m r e f =
    subst (λ d. Opens (command_check s m d)) (sym e) (open_in_tree s m r (tree_in (s.trees m.session_id) m.tree_id) e f)

-- where a status is named, it is no success
abbrev OtherIn : Option ℕ → Type 0
OtherIn None = Unit {0}
OtherIn (Some status) = (status == success) ≡ false

other_path : (path : List ℕ) → OtherIn (path_form path)
unfolding path_form
other_path path =
    either OtherIn (begins_with_backslash path) _ _ (λ _. refl) (λ _. either OtherIn (is_path path) _ _ (λ _. tt) (λ _. refl))

other_made_form : (r : CreateRequest) → OtherIn (made_form r)
other_made_form r =
    either OtherIn (nat_lt 5 r.disposition) _ _ (λ _. refl)
    (λ _. either OtherIn (asks_directory r && asks_file r) _ _ (λ _. refl)
    (λ _. either OtherIn (asks_directory r && has_bit r.attributes 0x100) _ _ (λ _. refl) (λ _. other_path r.path)))

other_form : (r : CreateRequest) → OtherIn (create_form r)
other_form r =
    either OtherIn (is_some r.reconnect) _ _ (λ _. either OtherIn (is_some r.durable) _ _ (λ _. refl) (λ _. tt))
    (λ _. other_made_form r)

open_formed : (s : Server) (m : Message) (r : CreateRequest) (u : Option ℕ) → OtherIn u → m.command ≡ Create r → LowServer s
    → Opens (formed s m u)
open_formed s m r (Some status) off e f = off
open_formed s m r None off e f = open_command s m r e f

open_owed : (s : Server) (m : Message) (r : CreateRequest) → m.fault ≡ None → m.command ≡ Create r → LowServer s → Opens (owed s m m.fault)
open_owed s m r fault e f =
    subst (λ u. Opens (owed s m u)) (sym fault)
    (open_formed s m r (form m.command) (subst (λ d. OtherIn (form d)) (sym e) (other_form r)) e f)

open_check : (s : Server) (m : Message) (r : CreateRequest) → m.fault ≡ None → m.command ≡ Create r → LowServer s → Opens (check s m)
open_check s m r fault e f =
    either Opens (is_setup m.command || has_session s m) (owed s m m.fault) (Refuse user_session_deleted)
    (λ _. open_owed s m r fault e f) (λ _. refl)

open_full : (v : Verdict) → Opens v → Opens (without_room v)
open_full (Refuse status) e = e
open_full (KeepRefusal guid status) e = e
open_full (Repeat o r) e = tt
open_full (Attach o r) e = tt
open_full (Make r found action) e = open_refused r.durable disk_full refl
open_full (Give body) e = absurd e
open_full (TurnDown o status) e = absurd e
open_full (Tell o body) e = absurd e
open_full (Show o last body) e = absurd e
open_full (KeepSlot o index number status elements) e = absurd e
open_full (PutRanges o index number ranges elements) e = absurd e
open_full (Alter o change body) e = absurd e
open_full (CloseOpen o body) e = absurd e
open_full Challenge e = absurd e
open_full (ChallengeBinding session) e = absurd e
open_full (Begin session user previous r is_quiet) e = absurd e
open_full (Join session) e = absurd e
open_full (EndSession session is_quiet) e = absurd e
open_full (AddTree pipes) e = absurd e
open_full DropTree e = absurd e

pub finds_open : (t : Server) (m : Message) (r : CreateRequest) (v : Verdict) → m.fault ≡ None → m.command ≡ Create r → LowServer t
    → Finds t m v → Opens v
finds_open t m r v fault e f (inl is) = subst Opens (sym is) (open_check t m r fault e f)
finds_open t m r v fault e f (inr is) = subst Opens (sym is) (open_full (check t m) (open_check t m r fault e f))
