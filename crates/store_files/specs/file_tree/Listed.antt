-- What a listing takes: entries under way, as the model's, and the names of a directory among the keys of the index.
use Rattle.std.specs.Prelude.{◌≡◌, ℕ, ◌+◌, ◌*◌, ◌==◌, nat_le, Bool, true, false, not, ◌&&◌, if◌then◌else◌, List, []}
use Rattle.std.specs.Prelude.{◌∷◌, ◌++◌, length, map, drop, String, Option, Some, None, ⊤}
use Rattle.std.specs.String.{string_bytes}
use Rattle.std.specs.List.{filter}
use Rattle.spec_exchange.specs.State.{Server, Named}
use Rattle.spec_exchange.specs.Table.{is_filled}
use Rattle.spec_exchange.specs.Texts.{leaf_of, parent_of, utf16_length}
use Rattle.spec_exchange.specs.Files.{find, info_of, path_of, path_in}
use Rattle.spec_exchange.specs.Listing.{accepts, rank, is_behind, fitting, one_or_all, parent_file, wanted, all_named}
use Rattle.spec_exchange.specs.Listing.{entry_part, next_multiple}
use Rattle.store_files.specs.declared.file_tree.row.Row.{Row}
use Rattle.store_files.specs.declared.file_tree.row.Info.{Info}
use Rattle.store_files.specs.declared.file_tree.list.Entry.{Entry}
use Rattle.store_files.specs.declared.file_tree.list.Asked.{Asked}
use Rattle.store_files.specs.declared.file_tree.list.Taken.{Taken}
use Rattle.store_files.specs.declared.file_tree.list.Stage.{Stage}
use Rattle.store_files.specs.declared.file_tree.list.Stage.TheVariants.{Nothing, More, Full}
use Rattle.store_files.specs.declared.file_tree.error.StoreError.{StoreError}
use Rattle.store_files.specs.declared.file_tree.error.StoreError.TheVariants.{Memory, Status}
use Rattle.store_files.specs.file_tree.Shown.{model_info, folded, InfoIs}
use Rattle.store_files.specs.file_tree.Keys.{key_begins, key_le, has_slash}

abbrev pub model_named : Entry → Named
model_named e = record { name = e.name; info = model_info e.info }

-- without a class all fit
abbrev pub fitting_of : Option ℕ → ℕ → ℕ → List Named → List Named
fitting_of None room at ns = ns
fitting_of (Some class) room at ns = fitting class room at ns

-- what the listing gives where these names are still to come
abbrev pub given_at : Stage → List Named → List Named → List Named
given_at Nothing taken more = taken ++ more
given_at More taken more = taken ++ more
given_at Full taken more = taken

abbrev pub listing_given : Asked → Taken → List Named → List Named
listing_given a t ns = given_at t.stage (map model_named t.entries.items) (one_or_all a.single (fitting_of a.class a.room t.at ns))

-- whether there is any name that it takes
abbrev pub any_at : Stage → List Named → Bool
any_at Nothing ns = is_filled ns
any_at More ns = true
any_at Full ns = true

abbrev pub is_listing_full : Stage → Bool
is_listing_full Nothing = false
is_listing_full More = false
is_listing_full Full = true

abbrev pub stage_behind : Bool → Stage
stage_behind true = Full
stage_behind false = More

-- where an entry ends, if it fits
abbrev pub EndsIn : Option ℕ → ℕ → ℕ → Type 0
EndsIn None end room = nat_le end room ≡ false
EndsIn (Some e) end room = (e ≡ end) × (nat_le end room ≡ true)

abbrev pub ListingEnds : Option ℕ → Option ℕ → ℕ → ℕ → List ℕ → Type 0
ListingEnds r None room at name = r ≡ Some at
ListingEnds r (Some class) room at name = EndsIn r (next_multiple at + (entry_part class + 2 * utf16_length name)) room

-- the name in front, where the pattern accepts it
abbrev pub with_accepted : List ℕ → Named → List Named → List Named
with_accepted pattern n ns = if accepts pattern n.name then n ∷ ns else ns

abbrev pub listing_accepted : List ℕ → List Named → List Named
listing_accepted pattern [] = []
listing_accepted pattern (n ∷ ns) = with_accepted pattern n (listing_accepted pattern ns)

-- `.` and `..` in front, where they stand behind the last name
abbrev pub with_dot : Option (List ℕ) → List ℕ → Server → ℕ → List Named → List Named
with_dot None pattern s f ns = with_accepted pattern (record { name = 46 ∷ []; info = info_of s f }) ns
with_dot (Some last) pattern s f ns = ns

abbrev pub with_dots : Option (List ℕ) → List ℕ → Server → ℕ → List Named → List Named
with_dots last pattern s f ns = if is_behind last (46 ∷ 46 ∷ []) then with_accepted pattern (record {
  name = 46 ∷ 46 ∷ [];
  info = info_of s (parent_file (find s (parent_of (path_of s f))));
}) ns else ns

-- NO_SUCH_FILE where no name is accepted (MS-FSA 2.1.5.6.3)
abbrev pub listing_refusal : Server → ℕ → List ℕ → Option ℕ
listing_refusal s f pattern = if is_filled (wanted None pattern (all_named s f)) then None else Some 0xc000_000f

-- a refusal tells the status of the rule; where memory runs out it tells nothing
abbrev pub Explains : StoreError → Option ℕ → Type 0
Explains Memory refusal = ⊤
Explains (Status status) refusal = refusal ≡ Some status

-- the key from which a listing goes on
abbrev pub start_key : List ℕ → Option (List ℕ) → List ℕ
start_key front None = front
start_key front (Some last) = if rank last == 2 then front ++ (folded last ++ 0 ∷ []) else front

-- the entries of the index from a key on
abbrev pub from_key : {Y : Type 0} → List ℕ → List (String Y × ℕ) → List (String Y × ℕ)
from_key start [] = []
from_key start (e ∷ es) = if key_le start (string_bytes e.0) then e ∷ from_key start es else from_key start es

-- nothing but a name stands behind the front
abbrev pub is_child : List ℕ → List ℕ → Bool
is_child front key = key_begins front key && not (has_slash (drop (length front) key))

-- the names of a directory among them
abbrev pub kids : {Y : Type 0} → (ℕ → Named) → List ℕ → List (String Y × ℕ) → List Named
kids names front [] = []
kids names front (e ∷ es) = if is_child front (string_bytes e.0) then names e.1 ∷ kids names front es else kids names front es

-- the names of a directory from a key on; none where there is no key
abbrev pub kids_left : {Y : Type 0} → (ℕ → Named) → List ℕ → Option (String Y) → List (String Y × ℕ) → List Named
kids_left names front None es = []
kids_left names front (Some k) es = kids names front (from_key (string_bytes k) es)

-- a row has this name and says this of its file
abbrev pub IsRowNamed : Option Row → ℕ → Named → Type 0
IsRowNamed None f n = ⊥
IsRowNamed (Some r) f n = (n.name ≡ leaf_of r.path) × ((i : Info) → InfoIs i f r → model_info i ≡ n.info)

-- each file that a key names has such a row
abbrev pub AreListingRows : (List ℕ → Option ℕ) → (ℕ → Option Row) → (ℕ → Named) → Type 0
AreListingRows at rows names = (q : List ℕ) (f : ℕ) → at q ≡ Some f → IsRowNamed (rows f) f (names f)

abbrev pub named_of : Server → ℕ → Named
named_of s f = record { name = leaf_of (path_in s.entries f); info = info_of s f }
