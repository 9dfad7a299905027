-- A table of opens shows the columns of the model's opens; what the model remembers of opens that left is free.
use Rattle.std.specs.Prelude.{◌≡◌, ℕ, ◌+◌, ◌*◌, ◌^◌, ◌<◌, Bool, true, false, ◌&&◌, List, Option, Some, None}
use Rattle.std.specs.Prelude.{nat_eq, length, ⊤, vec_len, vec_capacity}
use Rattle.std.specs.HashMap.{get, hash_map_len, spare}
use Rattle.std.specs.HashSet as set
use Rattle.spec_exchange.specs.Table.{has}
use Rattle.spec_exchange.specs.State as model
use Rattle.store_opens.specs.open_table.Rows.{OpenRowShown, OpenTreeShown}
use Rattle.store_opens.specs.open_index.Held.{HeldShown, sharing_in}
use Rattle.store_opens.specs.open_index.Keep.{SessionShown, keep_lists, lists_plain, keep_names, HasKeepPlace}
use Rattle.store_opens.specs.open_index.Index.{IsOpenIndexed}
use Rattle.store_opens.specs.declared.open_table.row.Row.{Row}
use Rattle.store_opens.specs.declared.open_table.table.Opens.{Opens}

abbrev pub pair_eq : ℕ × ℕ → ℕ × ℕ → Bool
pair_eq x y = nat_eq x.0 y.0 && nat_eq x.1 y.1

pub record OpensShown (t : Opens) (epoch : ℕ) (opens : List ℕ) (standing : ℕ → Bool) (open_ids_given : ℕ) (opened : ℕ → model.Open)
    (session_of_open : ℕ → Option ℕ) (tree_of_open : ℕ → ℕ) (sequence : ℕ → ℕ) (deadline : ℕ → Option ℕ) (enumeration_location : ℕ → Option (List ℕ))
    (current_byte_offset : ℕ → ℕ) (lock_sequences : ℕ → ℕ → Option model.Kept) (by_guid : ℕ → ℕ → Option ℕ) (ranges : ℕ → List model.Range)
    (closed : ℕ → ℕ → Bool) (refused : ℕ → ℕ → Option ℕ) (guids : ℕ → ℕ) (expired_guids : ℕ → ℕ → Bool) (expired_count : ℕ) : Type 0 where
  pub epoch_is : epoch ≡ t.epoch
  pub given_is : open_ids_given ≡ t.given
  pub count_is : length opens ≡ hash_map_len t.rows
  pub rows_are : (o : ℕ) → OpenRowShown (get nat_eq t.rows o) (standing o) (opened o) (session_of_open o) (sequence o)
      (deadline o) (enumeration_location o, current_byte_offset o) (lock_sequences o)
  pub trees_are : (o : ℕ) → OpenTreeShown (get nat_eq t.rows o) (tree_of_open o)
  pub guids_are : (c g : ℕ) → by_guid c g ≡ get pair_eq t.guids (c, g)
  -- what is held of each file
  pub files_are : (f : ℕ) → HeldShown (get nat_eq t.files f) (sharing_in opened opens f) (ranges f)
  -- what is kept for each session; its row has each of its opens, the plain ones apart too, and a place for the close
  -- of each of their guids
  pub sessions_are : (x : ℕ) → SessionShown (get nat_eq t.sessions x) (closed x) (refused x) (guids x)
  pub listed : (o x : ℕ) → session_of_open o ≡ Some x → keep_lists (get nat_eq t.sessions x) o ≡ true
  pub plain_listed : (o x : ℕ) → session_of_open o ≡ Some x → (opened o).persistent ≡ false → lists_plain (get nat_eq t.sessions x) o ≡ true
  pub named : (o x g : ℕ) → session_of_open o ≡ Some x → (opened o).create_guid ≡ Some g → keep_names (get nat_eq t.sessions x) g ≡ true
  pub expired_are : (c g : ℕ) → expired_guids c g ≡ set.contains pair_eq t.expired (c, g)
  pub expired_count_is : expired_count ≡ t.expired_count
  pub indexed : IsOpenIndexed t.deadlines deadline
  pub undated : (o : ℕ) → standing o ≡ true → session_of_open o ≡ None → deadline o ≡ None → has o t.undated.items ≡ true

abbrev pub ShowsOpens : Opens → model.Server → Type 0
ShowsOpens t s = OpensShown t s.epoch s.opens s.standing s.open_ids_given s.opened s.session_of_open s.tree_of_open s.sequence
    s.deadline s.enumeration_location s.current_byte_offset s.lock_sequences s.by_guid s.ranges s.closed s.refused s.guids s.expired_guids
    s.expired_count

-- ---- room, which is no part of what is shown

-- for one more open, of whatever file, whose count of opens then is one of 64 bits
abbrev pub HasOpensRoom : Opens → Type 0
HasOpensRoom t = (0 < spare t.rows) × (0 < spare t.guids) × (0 < spare t.files) × (hash_map_len t.rows < 2 ^ 63)

-- in a session's row, for one more guid
abbrev pub HasResultRoom : Opens → ℕ → Type 0
HasResultRoom t x = HasKeepPlace (get nat_eq t.sessions x)

-- a plain open of a row that stands has its place among the plain ones
abbrev pub HasPlainPlace : Option Row → Bool → Type 0
HasPlainPlace None listed = ⊤
HasPlainPlace (Some r) listed = r.persistent ≡ false → listed ≡ true

-- and for this open
abbrev pub HasOpensSessionRoom : Opens → ℕ → ℕ → Type 0
HasOpensSessionRoom t x o = HasResultRoom t x × (keep_lists (get nat_eq t.sessions x) o ≡ true)
    × HasPlainPlace (get nat_eq t.rows o) (lists_plain (get nat_eq t.sessions x) o)

-- the id that comes next
abbrev pub next_of : Opens → ℕ
next_of t = t.epoch * 0x1_0000_0000 + (t.given + 1)

-- for a new open, among the plain ones too where it isn't persistent; without a session, among those that wait for a deadline
abbrev pub HasRoomIn : Opens → Option ℕ → ℕ → Bool → Type 0
HasRoomIn t None o persistent = vec_len t.undated < vec_capacity t.undated
HasRoomIn t (Some x) o persistent = HasResultRoom t x × (keep_lists (get nat_eq t.sessions x) o ≡ true)
    × (persistent ≡ false → lists_plain (get nat_eq t.sessions x) o ≡ true)

abbrev pub HasExpiredRoom : Opens → Type 0
HasExpiredRoom t = 0 < set.spare t.expired
