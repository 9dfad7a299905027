-- What the calls do to the model's columns, in the model's own functions where it has one.
use Rattle.std.specs.Prelude.{◌≡◌, ℕ, [], ◌∷◌, ◌+◌, ◌/◌, ◌%◌, ◌==◌, max, nat_le, nat_lt, Bool, true, false, not, ◌&&◌}
use Rattle.std.specs.Prelude.{◌||◌, if◌then◌else◌, List, length, Option, Some, None, is_some}
use Rattle.spec_exchange.specs.Table.{put, is_at}
use Rattle.spec_exchange.specs.Status.{insufficient_resources, duplicate_objectid, object_name_not_found, access_denied}
use Rattle.spec_exchange.specs.Texts.{same_name}
use Rattle.spec_exchange.specs.State.{Server}
use Rattle.spec_exchange.specs.Opens.{add_open, drop_open, max_ids}
use Rattle.spec_exchange.specs.CheckOpen.{is_stale}
use Rattle.spec_exchange.specs.CheckCreate.{max_opens, max_guids, has_guid}
use Rattle.spec_exchange.specs.Effects.{next_open, keep_closed, cleared, dated, leaves}
use Rattle.store_opens.specs.open_table.Rows.{open_with}
use Rattle.store_opens.specs.open_index.Keep.{one_more, guids_with}
use Rattle.store_opens.specs.declared.open_table.row.Row.{Row}
use Rattle.store_opens.specs.declared.open_table.row.OpenParts.{OpenParts}
use Rattle.store_opens.specs.declared.open_table.error.OpenError.{OpenError}
use Rattle.store_opens.specs.declared.open_table.error.OpenError.TheVariants.{Memory, Status}

-- a sequence comes to an open: a newer one is adopted
abbrev pub offered_to : Server → ℕ → ℕ → Server
offered_to s o n = if is_stale n (s.sequence o) then s else record s { sequence = put s.sequence o n }

abbrev pub located_at : Server → ℕ → Option (List ℕ) → Server
located_at s o last = record s { enumeration_location = put s.enumeration_location o last }

abbrev pub offset_at : Server → ℕ → ℕ → Server
offset_at s o position = record s { current_byte_offset = put s.current_byte_offset o position }

-- ---- creates

-- a count stands at its limit: opens, ids of the epoch, and where a guid is to be kept, guids of the session
abbrev pub guids_full : Server → Option ℕ → Option ℕ → Bool
guids_full s None guid = false
guids_full s (Some x) None = false
guids_full s (Some x) (Some g) = nat_le max_guids (s.guids x)

abbrev pub create_refusal : Server → OpenParts → Option ℕ
create_refusal s p = if nat_le max_opens (length s.opens)
    || (nat_le max_ids s.open_ids_given || guids_full s p.session p.guid) then Some insufficient_resources else None

-- an open of the next id
abbrev pub created : Server → OpenParts → List ℕ → Server
created s p user =
    record (add_open s (next_open s) (open_with p user) p.session p.sequence) {
      open_ids_given = s.open_ids_given + 1;
      tree_of_open = put s.tree_of_open (next_open s) p.tree;
      guids = guids_with p.session p.guid s.guids;
    }

abbrev pub restore_refusal : Server → ℕ → Option ℕ
restore_refusal s o =
    if nat_le max_opens (length s.opens) || nat_le max_ids s.open_ids_given then Some insufficient_resources
    else if s.standing o || not ((o / 0x1_0000_0000 == s.epoch) && nat_lt 0 (o % 0x1_0000_0000)) then Some duplicate_objectid else None

-- an open that the journal tells, without a session
abbrev pub restored : Server → ℕ → OpenParts → List ℕ → Server
restored s o p user = record (add_open s o (open_with p user) None p.sequence) { open_ids_given = max s.open_ids_given (o % 0x1_0000_0000) }

abbrev pub epoch_begun : Server → ℕ → Server
epoch_begun s number = record s { epoch = number; open_ids_given = 0 }

-- ---- reconnects (MS-SMB2 3.3.5.9.12)

abbrev pub attach_refusal : Server → ℕ → ℕ → ℕ → List ℕ → Option ℕ
attach_refusal s o guid session user =
    if not (s.standing o && has_guid guid (s.opened o).create_guid) then Some object_name_not_found
    else if not (same_name (s.opened o).user user) then Some access_denied
    else if is_some (s.session_of_open o) && not (is_at session (s.session_of_open o)) then Some object_name_not_found
    else None

-- the same of an open that stands, by its row
abbrev pub row_refusal : Row → ℕ → ℕ → List ℕ → Option ℕ
row_refusal r guid session user =
    if not (has_guid guid r.guid) then Some object_name_not_found
    else if not (same_name r.user user) then Some access_denied
    else if is_some r.session && not (is_at session r.session) then Some object_name_not_found
    else None

-- an open without a session becomes this one's, with the request's tree and sequence
abbrev pub attached_to : Server → ℕ → ℕ → ℕ → ℕ → Server
attached_to s o session tree sequence =
    record s {
      session_of_open = put s.session_of_open o (Some session);
      tree_of_open = put s.tree_of_open o tree;
      sequence = put s.sequence o sequence;
      deadline = put s.deadline o None;
      guids = one_more session s.guids;
    }

-- one that is this session's already keeps its tree and its sequence
abbrev pub attached_if : Server → ℕ → ℕ → ℕ → ℕ → Server
attached_if s o session tree sequence = if is_some (s.session_of_open o) then s else attached_to s o session tree sequence

-- ---- what leaves

-- the session of the open keeps that it was closed
abbrev pub closed_in : Server → ℕ → Option ℕ → Server
closed_in s o None = drop_open s o
closed_in s o (Some x) = keep_closed (drop_open s o) x (s.opened o).create_guid

abbrev pub open_closed : Server → ℕ → Server
open_closed s o = closed_in s o (s.session_of_open o)

-- a session's opens stay without it, and what it kept is forgotten
abbrev pub detached : Server → ℕ → ℕ → Server
detached s session now =
    record s {
      session_of_open = λ o. cleared session (s.session_of_open o);
      deadline = λ o. dated session now (s.opened o) (s.session_of_open o) (s.deadline o);
      closed = put s.closed session (λ g. false);
      refused = put s.refused session (λ g. None);
      guids = put s.guids session 0;
    }

-- the first of an ascending list that is above a number
abbrev pub first_above : ℕ → List ℕ → Option ℕ
first_above n [] = None
first_above n (x ∷ xs) = if nat_lt n x then Some x else first_above n xs

-- a refusal tells the status of the rule; where memory runs out alone it tells none
abbrev pub OpenTells : OpenError → Option ℕ → Type 0
OpenTells Memory refusal = refusal ≡ None
OpenTells (Status status) refusal = refusal ≡ Some status

-- no open is left that leaves with its session
abbrev pub HasNoPlain : Server → ℕ → Type 0
HasNoPlain s session = (o : ℕ) → s.standing o ≡ true → leaves s session o ≡ false

-- whether an open of these guids expired before; of none, no
abbrev pub is_expired_in : Server → ℕ → Option ℕ → Bool
is_expired_in s client None = false
is_expired_in s client (Some g) = s.expired_guids client g
