-- A row of the table shows the model's columns at its id (MS-SMB2 3.3.1.10).
use Rattle.std.specs.Prelude.{◌≡◌, ℕ, Bool, true, false, if◌then◌else◌, List, Option, Some, None, ⊤}
use Rattle.spec_exchange.specs.Table.{is_at}
use Rattle.spec_exchange.specs.State as model
use Rattle.spec_exchange.specs.Effects.{dated}
use Rattle.store_opens.specs.channel_sequence.Offered.{kept_after}
use Rattle.store_opens.specs.lock_replay.Shown.{SlotsShown}
use Rattle.store_opens.specs.declared.lock_replay.slots.Slots.{Slots}
use Rattle.store_opens.specs.declared.open_table.row.OpenParts.{OpenParts}
use Rattle.store_opens.specs.declared.open_table.row.Row.{Row}

-- the row of the model, which never changes
abbrev pub open_of : Row → model.Open
open_of r =
    record {
      file = r.file;
      access = r.access;
      share = r.share;
      options = r.options;
      action = r.action;
      persistent = r.persistent;
      client_guid = r.client;
      create_guid = r.guid;
      user = r.user;
      timeout = r.timeout;
    }

-- where an open stands: the last name that its listing gave, and its position
abbrev pub OpenPlace : Type 0
OpenPlace = Option (List ℕ) × ℕ

pub record OpenRowIs (r : Row) (opened : model.Open) (session : Option ℕ) (sequence : ℕ) (deadline : Option ℕ)
    (location : OpenPlace) (lock_sequences : ℕ → Option model.Kept) : Type 0 where
  pub opened_is : opened ≡ open_of r
  pub session_is : session ≡ r.session
  pub sequence_is : sequence ≡ r.sequence
  pub deadline_is : deadline ≡ r.deadline
  pub location_is : location.0 ≡ r.location
  pub position_is : location.1 ≡ r.position
  pub slots_are : SlotsShown r.slots lock_sequences

-- what an id says of the columns at it; of an open that left only that it doesn't stand
abbrev pub OpenRowShown : Option Row → Bool → model.Open → Option ℕ → ℕ → Option ℕ → OpenPlace → (ℕ → Option model.Kept) → Type 0
OpenRowShown None stands opened session sequence deadline location lock_sequences = stands ≡ false
OpenRowShown (Some r) stands opened session sequence deadline location lock_sequences = (stands ≡ true)
    × OpenRowIs r opened session sequence deadline location lock_sequences

-- the tree of an open that is attached
abbrev pub OpenTreeShown : Option Row → ℕ → Type 0
OpenTreeShown None tree = ⊤
OpenTreeShown (Some r) tree = (x : ℕ) → r.session ≡ Some x → tree ≡ r.tree

-- the row at an id of a state
abbrev pub OpenRowFound : Option Row → model.Server → ℕ → Type 0
OpenRowFound r s o = OpenRowShown r (s.standing o) (s.opened o) (s.session_of_open o) (s.sequence o) (s.deadline o)
    (s.enumeration_location o, s.current_byte_offset o) (s.lock_sequences o)

-- ---- what an open is made with

abbrev pub parts_of : Row → OpenParts
parts_of r =
    record {
      file = r.file;
      access = r.access;
      share = r.share;
      options = r.options;
      action = r.action;
      persistent = r.persistent;
      client = r.client;
      guid = r.guid;
      session = r.session;
      tree = r.tree;
      sequence = r.sequence;
      timeout = r.timeout;
    }

abbrev pub open_with : OpenParts → List ℕ → model.Open
open_with p user =
    record {
      file = p.file;
      access = p.access;
      share = p.share;
      options = p.options;
      action = p.action;
      persistent = p.persistent;
      client_guid = p.client;
      create_guid = p.guid;
      user = user;
      timeout = p.timeout;
    }

-- the parts of an open that stands
pub record PartsAre (p : OpenParts) (opened : model.Open) (session : Option ℕ) (sequence : ℕ) : Type 0 where
  pub opened_is : opened ≡ open_with p opened.user
  pub session_is : session ≡ p.session
  pub sequence_is : sequence ≡ p.sequence

abbrev pub PartsShown : Option OpenParts → Bool → model.Open → Option ℕ → ℕ → Type 0
PartsShown None stands opened session sequence = stands ≡ false
PartsShown (Some p) stands opened session sequence = (stands ≡ true) × PartsAre p opened session sequence

abbrev pub PartsFound : Option OpenParts → model.Server → ℕ → Type 0
PartsFound p s o = PartsShown p (s.standing o) (s.opened o) (s.session_of_open o) (s.sequence o)

-- a row that was just made of parts
pub record IsMadeRow (r : Row) (p : OpenParts) (user : List ℕ) (slots : Slots) : Type 0 where
  pub parts_are : parts_of r ≡ p
  pub user_is : r.user ≡ user
  pub no_deadline : r.deadline ≡ None
  pub no_location : r.location ≡ None
  pub no_position : r.position ≡ 0
  pub slots_are : r.slots ≡ slots

-- a row for a new open
pub record IsOpenNewRow (r : Row) (p : OpenParts) (user : List ℕ) : Type 0 where
  pub parts_are : parts_of r ≡ p
  pub user_is : r.user ≡ user
  pub no_deadline : r.deadline ≡ None
  pub no_location : r.location ≡ None
  pub no_position : r.position ≡ 0
  pub no_slots : SlotsShown r.slots (λ i. None)

-- a row for an open that the journal tells, which has no session
pub record IsRestoredRow (r : Row) (p : OpenParts) (user : List ℕ) : Type 0 where
  pub parts_are : parts_of (record r { session = p.session }) ≡ p
  pub user_is : r.user ≡ user
  pub no_session : r.session ≡ None
  pub no_deadline : r.deadline ≡ None
  pub no_location : r.location ≡ None
  pub no_position : r.position ≡ 0
  pub no_slots : SlotsShown r.slots (λ i. None)

-- ---- rows behind a change

abbrev pub attached_row : ℕ → ℕ → ℕ → Option Row → Option Row
attached_row session tree sequence None = None
attached_row session tree sequence (Some r) = Some (record r {
  session = Some session;
  tree = tree;
  sequence = sequence;
  deadline = None;
})

-- behind a request of this channel sequence
abbrev pub offered_row : ℕ → Option Row → Option Row
offered_row n None = None
offered_row n (Some r) = Some (record r { sequence = kept_after n r.sequence })

abbrev pub located_row : Option (List ℕ) → Option Row → Option Row
located_row last None = None
located_row last (Some r) = Some (record r { location = last })

abbrev pub positioned_row : ℕ → Option Row → Option Row
positioned_row position None = None
positioned_row position (Some r) = Some (record r { position = position })

-- where there is a row, only its slots changed
abbrev pub SlotsPut : Option Row → Option Row → (Slots → Slots → Type 0) → Type 0
SlotsPut None new P = new ≡ None
SlotsPut (Some r) new P = (x : Slots) × (new ≡ Some (record r { slots = x })) × P r.slots x

abbrev pub guid_at : Option Row → Option ℕ
guid_at None = None
guid_at (Some r) = r.guid

-- of a row that ends with its session the deadline and the session go
abbrev pub detached_row : ℕ → ℕ → Option Row → Option Row
detached_row session now None = None
detached_row session now (Some r) = if is_at session r.session then Some (record r {
  session = None;
  deadline = dated session now (open_of r) r.session r.deadline;
}) else Some r
