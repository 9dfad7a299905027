-- Small steps on rows of sessions and connections.
use Rattle.std.specs.Prelude.{◌≡◌, ℕ, ◌+◌, ◌<◌, ◌^◌, ◌==◌, Bool, false, List, [], ◌∷◌, ◌++◌, if◌then◌else◌, Option, Some, None}
use Rattle.spec_exchange.specs.Table.{is_at, has}
use Rattle.spec_exchange.specs.State as model
use Rattle.spec_exchange.specs.Effects.{without_tree}
use Rattle.server_checks.specs.declared.session_table.row.SessionRow.{SessionRow}
use Rattle.server_checks.specs.declared.session_table.row.InMaking.{InMaking}
use Rattle.server_checks.specs.declared.session_table.row.Link.{Link}

abbrev pub with_making : InMaking → Option Link → Option Link
with_making m None = None
with_making m (Some l) = Some (record l { making = Some m })

abbrev pub with_session : ℕ → Option Link → Option Link
with_session x None = None
with_session x (Some l) = Some (record l { session = Some x; making = None })

abbrev pub without_session : ℕ → Option Link → Option Link
without_session x None = None
without_session x (Some l) = if is_at x l.session then Some (record l { session = None }) else Some l

-- a row that a logon just made: one channel number is drawn, for the channel on this connection, and there is no tree
pub record IsNewSession (r : SessionRow) (k : ℕ) : Type 0 where
  pub drawn_is : r.drawn ≡ 1
  pub no_trees : r.trees.items ≡ []
  pub first_tree : r.next_tree ≡ 1
  pub channels_are : r.channels.items ≡ k ∷ []

-- what stays of a row whatever becomes of its channels and trees
pub record KeepsLogon (r n : SessionRow) : Type 0 where
  pub user_is : n.user ≡ r.user
  pub client_is : n.client ≡ r.client
  pub cipher_is : n.cipher ≡ r.cipher
  pub signing_is : n.signing ≡ r.signing
  pub keys_are : n.keys ≡ r.keys

-- a row that has its keys
abbrev pub KeysStay : Option SessionRow → Option SessionRow → Type 0
KeysStay None new = new ≡ None
KeysStay (Some r) None = ⊥
KeysStay (Some r) (Some n) = n.keys ≡ r.keys

-- a row of which the room alone is another one
pub record SameRow (r n : SessionRow) : Type 0 where
  pub logon : KeepsLogon r n
  pub drawn_is : n.drawn ≡ r.drawn
  pub channels_are : n.channels.items ≡ r.channels.items
  pub trees_are : n.trees.items ≡ r.trees.items
  pub next_tree_is : n.next_tree ≡ r.next_tree

abbrev pub SessionRowStays : Option SessionRow → Option SessionRow → Type 0
SessionRowStays None new = new ≡ None
SessionRowStays (Some r) None = ⊥
SessionRowStays (Some r) (Some n) = SameRow r n

-- one more channel, whose number is the next one
pub record SessionRowJoins (r n : SessionRow) (k number : ℕ) : Type 0 where
  pub logon : KeepsLogon r n
  pub drawn_is : r.drawn + 1 < 2 ^ 32 → n.drawn ≡ r.drawn + 1
  pub number_is : number ≡ n.drawn
  pub channels_are : n.channels.items ≡ r.channels.items ++ k ∷ []
  pub trees_are : n.trees ≡ r.trees
  pub next_tree_is : n.next_tree ≡ r.next_tree

abbrev pub DrawsChannel : Option SessionRow → Option SessionRow → ℕ → ℕ → Type 0
DrawsChannel None new k number = new ≡ None
DrawsChannel (Some r) None k number = ⊥
DrawsChannel (Some r) (Some n) k number = SessionRowJoins r n k number

-- each channel that isn't on this connection stays
pub record RowParts (r n : SessionRow) (k : ℕ) : Type 0 where
  pub logon : KeepsLogon r n
  pub drawn_is : n.drawn ≡ r.drawn
  pub others_stay : (q : ℕ) → (q == k) ≡ false → has q n.channels.items ≡ has q r.channels.items
  pub trees_are : n.trees ≡ r.trees
  pub next_tree_is : n.next_tree ≡ r.next_tree

abbrev pub DropsChannel : Option SessionRow → Option SessionRow → ℕ → Type 0
DropsChannel None new k = new ≡ None
DropsChannel (Some r) None k = ⊥
DropsChannel (Some r) (Some n) k = RowParts r n k

-- other trees
pub record RowTrees (r n : SessionRow) (trees : List model.Tree) (next_tree : ℕ) : Type 0 where
  pub logon : KeepsLogon r n
  pub drawn_is : n.drawn ≡ r.drawn
  pub channels_are : n.channels ≡ r.channels
  pub trees_are : n.trees.items ≡ trees
  pub next_tree_is : n.next_tree ≡ next_tree

-- a tree of the next id behind them
abbrev pub AddsTree : Option SessionRow → Option SessionRow → Bool → ℕ → Type 0
AddsTree None new pipes id = new ≡ None
AddsTree (Some r) None pipes id = ⊥
AddsTree (Some r) (Some n) pipes id = r.next_tree < 2 ^ 32 → (id ≡ r.next_tree)
    × RowTrees r n (r.trees.items ++ record { id = r.next_tree; pipes = pipes } ∷ []) (r.next_tree + 1)

-- one tree less
abbrev pub DropsTree : Option SessionRow → Option SessionRow → ℕ → Type 0
DropsTree None new id = new ≡ None
DropsTree (Some r) None id = ⊥
DropsTree (Some r) (Some n) id = RowTrees r n (without_tree id r.trees.items) r.next_tree
