-- What the server's effects do, as far as creates go.
use Rattle.std.proofs.Common.{◌≡◌, ℕ, ◌+◌, Bool, true, false, if◌then◌else◌, Option, Some, None, refl, ◌∙◌, ap}
use Rattle.spec_exchange.specs.Table.{put, put2}
use Rattle.spec_exchange.specs.Commands.{CreateRequest, Durable, deletes_on_close}
use Rattle.spec_exchange.specs.State.{Server, Message, Open}
use Rattle.spec_exchange.specs.Files.{set_delete_pending}
use Rattle.spec_exchange.specs.Opens.{drop_open, leave_open, pending_behind, goes, is_kept_back, with_guid}
use Rattle.spec_exchange.specs.CheckCreate.{empties}
use Rattle.spec_exchange.specs.CheckOpen.{is_late, is_slot}
use Rattle.spec_exchange.specs.Effects.{reach, keep_closed, keep_slot, change_file, make_open, open_row, new_file}
use Rattle.spec_exchange.specs.Effects.{next_open, guids_after, guid_of, end_session, guid_staying}
use Rattle.spec_exchange.specs.Verdict.{Change, PutBytes, PutEnd, PutBasic, PutDeletePending, PutPath, PutNothing}
use Rattle.spec_exchange.specs.Step.{expire, add_expired_guid}
use Rattle.law_server.proofs.tables.Logic.{either}
use Rattle.law_creates.specs.Creates.{Seen, seen}
use Rattle.law_creates.proofs.Moves.{make_new, leave_by, closed_by, shut_in, expire_by, named_still, end_of}

pub reach_seen : (s : Server) (m : Message) (o : ℕ) → seen (reach s m o) ≡ seen s
reach_seen s m o = either (λ u. seen u ≡ seen s) (is_late s m o) _ _ (λ _. refl) (λ _. refl)

pub slot_seen : (s : Server) (o index number status : ℕ) → seen (keep_slot s o index number status) ≡ seen s
slot_seen s o index number status = either (λ u. seen u ≡ seen s) (is_slot index) _ _ (λ _. refl) (λ _. refl)

pub change_seen : (s : Server) (f now : ℕ) (change : Change) → seen (change_file s f now change) ≡ seen s
change_seen s f now (PutBytes at bytes) = refl
change_seen s f now (PutEnd size) = refl
change_seen s f now (PutBasic basic) = refl
change_seen s f now (PutDeletePending flag) = refl
change_seen s f now (PutPath replaced path) = refl
change_seen s f now PutNothing = refl

-- an open that leaves
drop_seen : (s : Server) (o : ℕ) (b : Bool)
    → seen (drop_open (if b then set_delete_pending s (s.opened o).file true else s) o)
    ≡ leave_by (seen s) o (s.opened o).create_guid
drop_seen s o true = refl
drop_seen s o false = refl

pub leave_seen : (s : Server) (o : ℕ) → seen (leave_open s o) ≡ leave_by (seen s) o (s.opened o).create_guid
leave_seen s o =
    let d = drop_open (pending_behind s o) o in
    either (λ u. seen u ≡ leave_by (seen s) o (s.opened o).create_guid) (is_kept_back d (s.opened o).file) _ _
    (λ _. drop_seen s o (deletes_on_close (s.opened o).options))
    (λ _. either (λ u. seen u ≡ leave_by (seen s) o (s.opened o).create_guid) (goes d (s.opened o).file) _ _
    (λ _. drop_seen s o (deletes_on_close (s.opened o).options))
    (λ _. drop_seen s o (deletes_on_close (s.opened o).options)))

closed_seen : (s : Server) (x : ℕ) (q : Option ℕ) → seen (keep_closed s x q) ≡ record (seen s) { closed = closed_by (seen s).closed x q }
closed_seen s x None = refl
closed_seen s x (Some g) = refl

pub shut_seen : (s : Server) (o x : ℕ) → seen (keep_closed (leave_open s o) x (s.opened o).create_guid)
    ≡ shut_in (seen s) o x (s.opened o).create_guid
shut_seen s o x = closed_seen (leave_open s o) x (s.opened o).create_guid ∙ ap {A = Seen} (λ v. record v {
  closed = closed_by v.closed x (s.opened o).create_guid;
}) (leave_seen s o)

expired_seen : (s : Server) (client : ℕ) (q : Option ℕ) → seen (add_expired_guid s client q) ≡ record (seen s) {
  expired_guids = closed_by (seen s).expired_guids client q;
}
expired_seen s client None = refl
expired_seen s client (Some g) = refl

pub expire_seen : (s : Server) (o : ℕ) → seen (expire s o) ≡ expire_by (seen s) o (s.opened o).create_guid
expire_seen s o = expired_seen (leave_open s o) (s.opened o).client_guid (s.opened o).create_guid
    ∙ ap {A = Seen} (λ v. record v {
      expired_guids = closed_by v.expired_guids (s.opened o).client_guid (s.opened o).create_guid;
    }) (leave_seen s o)

-- a session that ends
stays_named : (s : Server) (x : ℕ) (o : Option ℕ) → guid_staying s x o ≡ named_still (seen s) x o
stays_named s x None = refl
stays_named s x (Some o) = refl

pub end_seen : (s : Server) (x now : ℕ) (quiet : Bool) → seen (end_session s x now quiet) ≡ end_of (seen s) x
end_seen s x now quiet = λ t. record (end_of (seen s) x) { by_guid = λ p q. stays_named s x (s.by_guid p q) t }

-- a new open
with_file : (s : Server) (m : Message) (r : CreateRequest) (found : Option ℕ) (action now : ℕ)
    → seen (make_open s m r found action now) ≡ record (seen s) {
      standing = put s.standing (next_open s) true;
      opened = put s.opened (next_open s) (open_row s m r (new_file s found) action);
      session_of_open = put s.session_of_open (next_open s) (Some m.session_id);
      by_guid = with_guid s.by_guid m.client_guid (guid_of r.durable) (Some (next_open s));
      guids = guids_after s m.session_id r.durable;
      last = next_open s;
    }
with_file s m r None action now = refl
with_file s m r (Some f) action now = by_kind (empties r.disposition) refl
  where
    by_kind : (b : Bool) → empties r.disposition ≡ b → seen (make_open s m r (Some f) action now) ≡ record (seen s) {
      standing = put s.standing (next_open s) true;
      opened = put s.opened (next_open s) (open_row s m r f action);
      session_of_open = put s.session_of_open (next_open s) (Some m.session_id);
      by_guid = with_guid s.by_guid m.client_guid (guid_of r.durable) (Some (next_open s));
      guids = guids_after s m.session_id r.durable;
      last = next_open s;
    }
    by_kind true e = rw e refl
    by_kind false e = rw e refl

with_durable : (s : Server) (m : Message) (row : Open) (d : Durable) (u : Option Durable) → u ≡ Some d
    → record (seen s) {
      standing = put s.standing (next_open s) true;
      opened = put s.opened (next_open s) row;
      session_of_open = put s.session_of_open (next_open s) (Some m.session_id);
      by_guid = with_guid s.by_guid m.client_guid (guid_of u) (Some (next_open s));
      guids = guids_after s m.session_id u;
      last = next_open s;
    } ≡ record (seen s) {
      standing = put s.standing (next_open s) true;
      opened = put s.opened (next_open s) row;
      session_of_open = put s.session_of_open (next_open s) (Some m.session_id);
      by_guid = put2 s.by_guid m.client_guid d.guid (Some (next_open s));
      guids = put s.guids m.session_id (s.guids m.session_id + 1);
      last = next_open s;
    }
with_durable s m row d u e = rw e refl

pub make_seen : (s : Server) (m : Message) (r : CreateRequest) (found : Option ℕ) (action now : ℕ) (d : Durable) → r.durable ≡ Some d
    → seen (make_open s m r found action now) ≡ make_new (seen s) (next_open s)
    (open_row s m r (new_file s found) action) m.session_id d.guid
make_seen s m r found action now d e = with_file s m r found action now
    ∙ with_durable s m (open_row s m r (new_file s found) action) d r.durable e
