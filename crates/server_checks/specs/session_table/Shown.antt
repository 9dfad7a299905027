-- A table of sessions shows the model's sessions and connections; what the model remembers of a session that ended is free.
use Rattle.std.specs.Prelude.{◌≡◌, ℕ, ◌<◌, Bool, true, false, List, [], Option, Some, None, nat_eq, vec_len, vec_capacity}
use Rattle.std.specs.HashMap.{get, hash_map_len, spare}
use Rattle.spec_exchange.specs.Table.{has}
use Rattle.spec_exchange.specs.State as model
use Rattle.server_checks.specs.declared.session_table.row.SessionRow.{SessionRow}
use Rattle.server_checks.specs.declared.session_table.row.InMaking.{InMaking}
use Rattle.server_checks.specs.declared.session_table.row.Link.{Link}
use Rattle.server_checks.specs.declared.session_table.row.Purpose.{Purpose}
use Rattle.server_checks.specs.declared.session_table.row.Purpose.TheVariants.{New, Binding}
use Rattle.server_checks.specs.declared.session_table.table.Sessions.{Sessions}

pub record SessionRowIs (r : SessionRow) (user : List ℕ) (client cipher signing drawn : ℕ) (trees : List model.Tree)
    (next_tree : ℕ) : Type 0 where
  pub user_is : user ≡ r.user
  pub client_is : client ≡ r.client
  pub cipher_is : cipher ≡ r.cipher
  pub signing_is : signing ≡ r.signing
  pub drawn_is : drawn ≡ r.drawn
  pub trees_are : trees ≡ r.trees.items
  pub next_tree_is : next_tree ≡ r.next_tree

-- of a session that isn't there only that it has no tree
abbrev pub SessionRowShown : Option SessionRow → Bool → List ℕ → ℕ → ℕ → ℕ → ℕ → List model.Tree → ℕ → Type 0
SessionRowShown None present user client cipher signing drawn trees next_tree = (present ≡ false) × (trees ≡ [])
SessionRowShown (Some r) present user client cipher signing drawn trees next_tree = (present ≡ true)
    × SessionRowIs r user client cipher signing drawn trees next_tree

abbrev pub making_for : Purpose → model.Making
making_for (New session) = model.NewSession session
making_for (Binding session) = model.Binding session

abbrev pub making_of : Option InMaking → Option model.Making
making_of None = None
making_of (Some m) = Some (making_for m.purpose)

abbrev pub LinkShown : Option Link → Option ℕ → Option model.Making → Type 0
LinkShown None session making = (session ≡ None) × (making ≡ None)
LinkShown (Some l) session making = (session ≡ l.session) × (making ≡ making_of l.making)

-- the connection is among those of the session's row
abbrev pub session_lists : Option SessionRow → ℕ → Bool
session_lists None k = false
session_lists (Some r) k = has k r.channels.items

pub record SessionsShown (t : Sessions) (epoch : ℕ) (present : ℕ → Bool) (sessions session_ids_given : ℕ) (user : ℕ
    → List ℕ) (client cipher signing channel_numbers_drawn : ℕ → ℕ)
    (trees : ℕ → List model.Tree) (next_tree : ℕ → ℕ) (connections : List ℕ) (session_on : ℕ → Option ℕ) (making : ℕ
    → Option model.Making) : Type 0 where
  pub epoch_is : epoch ≡ t.epoch
  pub given_is : session_ids_given ≡ t.given
  pub count_is : sessions ≡ hash_map_len t.rows
  pub rows_are : (x : ℕ)
      → SessionRowShown (get nat_eq t.rows x) (present x) (user x) (client x) (cipher x) (signing x) (channel_numbers_drawn x)
      (trees x) (next_tree x)
  pub connections_are : connections ≡ t.order.items
  pub links_are : (k : ℕ) → LinkShown (get nat_eq t.links k) (session_on k) (making k)
  pub listed : (k x : ℕ) → session_on k ≡ Some x → present x ≡ true → session_lists (get nat_eq t.rows x) k ≡ true

abbrev pub ShowsSessions : Sessions → model.Server → Type 0
ShowsSessions t s = SessionsShown t s.epoch s.present s.sessions s.session_ids_given s.user s.client s.cipher s.signing
    s.channel_numbers_drawn s.trees s.next_tree s.connections s.session_on s.making

abbrev pub SessionRowFound : Option SessionRow → model.Server → ℕ → Type 0
SessionRowFound r s x = SessionRowShown r (s.present x) (s.user x) (s.client x) (s.cipher x) (s.signing x) (s.channel_numbers_drawn x)
    (s.trees x) (s.next_tree x)

-- ---- room

-- for one more session
abbrev pub HasSessionRoom : Sessions → Type 0
HasSessionRoom t = 0 < spare t.rows

-- for what is in the making, or live, on a connection
abbrev pub IsLink : Option Link → Type 0
IsLink None = ⊥
IsLink (Some l) = Unit {0}

abbrev pub HasLink : Sessions → ℕ → Type 0
HasLink t k = IsLink (get nat_eq t.links k)

-- for one more channel of a session
abbrev pub RowHasRoom : Option SessionRow → Type 0
RowHasRoom None = ⊥
RowHasRoom (Some r) = vec_len r.channels < vec_capacity r.channels

abbrev pub HasChannelRoom : Sessions → ℕ → Type 0
HasChannelRoom t x = RowHasRoom (get nat_eq t.rows x)

-- for one more tree of a session
abbrev pub RowHasTreeRoom : Option SessionRow → Type 0
RowHasTreeRoom None = ⊥
RowHasTreeRoom (Some r) = vec_len r.trees < vec_capacity r.trees

abbrev pub HasTreeRoom : Sessions → ℕ → Type 0
HasTreeRoom t x = RowHasTreeRoom (get nat_eq t.rows x)

-- for one more connection
abbrev pub HasConnectionRoom : Sessions → Type 0
HasConnectionRoom t = vec_len t.order < vec_capacity t.order

-- the user of a session exactly where it has a channel on this connection
abbrev pub UserFound : Option (List ℕ) → Bool → List ℕ → Type 0
UserFound None live user = live ≡ false
UserFound (Some name) live user = (live ≡ true) × (name ≡ user)
