-- The row of a new open has what its request asks.
use Rattle.std.proofs.Common.{◌≡◌, ℕ, Bool, List, Some, refl, ap, ◌∙◌}
use Rattle.std.specs.Prelude.{Option}
use Rattle.spec_exchange.specs.Commands.{CreateRequest}
use Rattle.spec_exchange.specs.Effects.{guid_of, is_persistent, new_file, open_row, timeout_asked}
use Rattle.spec_exchange.specs.Opens.{granted}
use Rattle.spec_exchange.specs.State as model
use Rattle.spec_exchange.specs.State.{Message, Server}
use Rattle.store_opens.specs.open_table.Rows.{IsOpenNewRow, open_with}
use Rattle.store_opens.specs.declared.open_table.row.OpenParts.{OpenParts}
use Rattle.store_opens.specs.declared.open_table.row.Row.{Row}
use Rattle.server_effects.specs.Making.{RowFor}

-- an open of this request, but for what is made of it
abbrev pub open_by : Message → CreateRequest → ℕ → List ℕ → ℕ → ℕ → Bool → Option ℕ → ℕ → model.Open
open_by m r action user file access persistent guid timeout = record {
  file = file;
  access = access;
  share = r.share;
  options = r.options;
  action = action;
  persistent = persistent;
  client_guid = m.client_guid;
  create_guid = guid;
  user = user;
  timeout = timeout;
}

pub asked_open : (s : Server) (m : Message) (r : CreateRequest) (found : Option ℕ) (action : ℕ) (user : List ℕ) (file access : ℕ)
    (persistent : Bool) (guid : Option ℕ) (timeout : ℕ) → file ≡ new_file s found → access ≡ granted s file r.access
    → persistent ≡ is_persistent r.durable → guid ≡ guid_of r.durable → timeout ≡ timeout_asked r.durable → user ≡ s.user m.session_id
    → open_by m r action user file access persistent guid timeout ≡ open_row s m r (new_file s found) action
asked_open s m r found action user file access persistent guid timeout f a p g t u =
    ap (λ (x : ℕ). open_by m r action user x access persistent guid timeout) f
    ∙ (ap (λ (x : ℕ). open_by m r action user (new_file s found) x persistent guid timeout) (a ∙ ap (λ (x : ℕ). granted s x r.access) f)
    ∙ (ap (λ (x : Bool). open_by m r action user (new_file s found) (granted s (new_file s found) r.access) x guid timeout) p
    ∙ (ap (λ (x : Option ℕ). open_by m r action user (new_file s found) (granted s (new_file s found) r.access) (is_persistent r.durable) x timeout) g
    ∙ (ap (λ (x : ℕ). open_by m r action user (new_file s found) (granted s (new_file s found) r.access) (is_persistent r.durable) (guid_of r.durable) x) t
    ∙ ap (λ (x : List ℕ). open_by m r action x (new_file s found) (granted s (new_file s found) r.access) (is_persistent r.durable) (guid_of r.durable)
    (timeout_asked r.durable)) u))))

-- a new row of these parts is the one of the open that is made
pub row_for : (s : Server) (m : Message) (r : CreateRequest) (found : Option ℕ) (action : ℕ) (row : Row) (parts : OpenParts) (user : List ℕ)
    → IsOpenNewRow row parts user → open_with parts user ≡ open_row s m r (new_file s found) action → parts.session ≡ Some m.session_id
    → parts.tree ≡ m.tree_id → parts.sequence ≡ m.channel_sequence → RowFor s m r found action row
row_for s m r found action row parts user n e x y q = record {
  opened_is = ap (λ (p : OpenParts). open_with p row.user) n.parts_are ∙ (ap (open_with parts) n.user_is ∙ e);
  session_is = ap (λ (p : OpenParts). p.session) n.parts_are ∙ x;
  tree_is = ap (λ (p : OpenParts). p.tree) n.parts_are ∙ y;
  sequence_is = ap (λ (p : OpenParts). p.sequence) n.parts_are ∙ q;
  is_new = record {
    parts_are = refl;
    user_is = refl;
    no_deadline = n.no_deadline;
    no_location = n.no_location;
    no_position = n.no_position;
    no_slots = n.no_slots;
  };
}
