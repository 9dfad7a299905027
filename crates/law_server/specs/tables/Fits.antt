-- What holds of the server alone in every world that a run leads to.
use Rattle.std.specs.Prelude.{◌≡◌, ◌≢◌, ℕ, ◌≤◌, ◌<◌, nat_lt, Bool, true, false, not, ◌&&◌, ◌==◌, List, [], ◌∷◌, Option}
use Rattle.std.specs.Prelude.{Some, None, is_some, slice_get}
use Rattle.spec_exchange.specs.Table.{has}
use Rattle.spec_exchange.specs.Commands.{deletes_on_close}
use Rattle.spec_exchange.specs.State.{Server, Range, Tree, NewSession, NewOpen, Record, CreateRecord}
use Rattle.spec_exchange.specs.Files.{root, exists, exists_in}
use Rattle.spec_exchange.specs.Opens.{id_of, max_ids}
use Rattle.spec_exchange.specs.Records.{lower_limit}
use Rattle.spec_exchange.specs.Fold.{full_room}

-- ---- opens

-- an open that is attached stands, and its session is there
abbrev pub Attached : Server → Type 0
Attached s = (o x : ℕ) → s.session_of_open o ≡ Some x → s.standing o ≡ true × s.present x ≡ true

-- a plain open that stands has a session
abbrev pub PlainAttached : Server → Type 0
PlainAttached s = (o : ℕ) → s.standing o ≡ true → (s.opened o).persistent ≡ false → is_some (s.session_of_open o) ≡ true

-- a guid names exactly the open that stands with it
abbrev pub GuidOpen : Server → Type 0
GuidOpen s = (c g o : ℕ) → s.by_guid c g ≡ Some o → s.standing o ≡ true × (s.opened o).client_guid ≡ c × (s.opened o).create_guid ≡ Some g

-- and the other way round: the guid of an open that stands names it
abbrev pub OpenGuid : Server → Type 0
OpenGuid s = (o g : ℕ) → s.standing o ≡ true → (s.opened o).create_guid ≡ Some g → s.by_guid (s.opened o).client_guid g ≡ Some o

-- an open that outlives its session has a guid
abbrev pub PersistentGuid : Server → Type 0
PersistentGuid s = (o : ℕ) → s.standing o ≡ true → (s.opened o).persistent ≡ true → is_some (s.opened o).create_guid ≡ true

-- an open without a session alone has a deadline
abbrev pub Deadlines : Server → Type 0
Deadlines s = (o d : ℕ) → s.deadline o ≡ Some d → s.session_of_open o ≡ None

-- the list of opens is the table of those that stand, in ascending order
abbrev pub Listed : Server → Type 0
Listed s = (o : ℕ) → has o s.opens ≡ s.standing o

-- each is above the one before it
unfoldable pub is_ascending : List ℕ → Bool
is_ascending [] = true
is_ascending (o ∷ []) = true
is_ascending (o ∷ p ∷ os) = nat_lt o p && is_ascending (p ∷ os)

-- GlobalOpenTable is kept in the order of the ids
abbrev pub Ascending : Server → Type 0
Ascending s = is_ascending s.opens ≡ true

-- ---- ids

-- an open that stands has an id of this epoch or an earlier one, at most the last that was given
abbrev pub OpenIds : Server → Type 0
OpenIds s = (o : ℕ) → s.standing o ≡ true → 0 < o × o ≤ id_of s.epoch s.open_ids_given

-- ids of opens are given as long as their counter has 32 bits
abbrev pub Given : Server → Type 0
Given s = s.open_ids_given ≤ max_ids

-- and so are ids of sessions
abbrev pub Begun : Server → Type 0
Begun s = s.session_ids_given ≤ max_ids

-- a session that is there has an id that was given
abbrev pub SessionIds : Server → Type 0
SessionIds s = (x : ℕ) → s.present x ≡ true → 0 < x × x ≤ id_of s.epoch s.session_ids_given

-- a session in the making has an id of its own, and isn't there yet
abbrev pub MakingIds : Server → Type 0
MakingIds s = (k x : ℕ) → s.making k ≡ Some (NewSession x) → 0 < x × x ≤ id_of s.epoch s.session_ids_given × s.present x ≡ false

-- no session is in the making on two connections
abbrev pub MakingOnce : Server → Type 0
MakingOnce s = (j k x : ℕ) → s.making j ≡ Some (NewSession x) → s.making k ≡ Some (NewSession x) → j ≡ k

-- a connection's live session is there
abbrev pub OnPresent : Server → Type 0
OnPresent s = (k x : ℕ) → s.session_on k ≡ Some x → s.present x ≡ true

-- where a session is live nothing is in the making
abbrev pub OnMade : Server → Type 0
OnMade s = (k x : ℕ) → s.session_on k ≡ Some x → s.making k ≡ None

-- ---- what a session keeps

-- a session that isn't there, be it gone or not begun yet, keeps nothing
abbrev pub NoTrees : Server → Type 0
NoTrees s = (x : ℕ) → s.present x ≡ false → s.trees x ≡ []

-- nor guids of closed opens
abbrev pub NoClosed : Server → Type 0
NoClosed s = (x g : ℕ) → s.present x ≡ false → s.closed x g ≡ false

-- nor refusals of creates
abbrev pub NoRefused : Server → Type 0
NoRefused s = (x g : ℕ) → s.present x ≡ false → s.refused x g ≡ None

-- nor a count of guids
abbrev pub NoGuids : Server → Type 0
NoGuids s = (x : ℕ) → s.present x ≡ false → s.guids x ≡ 0

-- ids of trees count from 1
abbrev pub NextTree : Server → Type 0
NextTree s = (x : ℕ) → s.present x ≡ true → 0 < s.next_tree x

-- a tree has an id that was given
abbrev pub TreeIds : Server → Type 0
TreeIds s = (x n : ℕ) (t : Tree) → slice_get (s.trees x) n ≡ Some t → 0 < t.id × t.id < s.next_tree x

-- ---- files

-- a range's owner stands, at this file
abbrev pub RangeOwners : Server → Type 0
RangeOwners s = (f n : ℕ) (r : Range) → slice_get (s.ranges f) n ≡ Some r → s.standing r.owner ≡ true × (s.opened r.owner).file ≡ f

-- no open, standing or gone, deletes the root on close
abbrev pub NotRoot : Server → Type 0
NotRoot s = (o : ℕ) → deletes_on_close (s.opened o).options ≡ true → (s.opened o).file ≢ root

-- the root is never delete pending
abbrev pub RootStays : Server → Type 0
RootStays s = s.delete_pending root ≡ false

-- the file of an open is there
abbrev pub OpenFiles : Server → Type 0
OpenFiles s = (o : ℕ) → s.standing o ≡ true → exists s (s.opened o).file ≡ true

-- files count from 1, and 0 is the root
abbrev pub NextFile : Server → Type 0
NextFile s = 0 < s.next_file

-- a file that is there has a number that was given
abbrev pub FileNumbers : Server → Type 0
FileNumbers s = (f : ℕ) → exists_in s.entries f ≡ true → 0 < f × f < s.next_file

-- no server has more room than the fold
abbrev pub Room : Server → Type 0
Room s = s.room ≤ full_room

-- the records of events have the whole of the journal below its lower limit
abbrev pub Limit : Server → Type 0
Limit s = s.limit ≡ lower_limit

pub record Fits (s : Server) : Type 0 where
  pub attached : Attached s
  pub plain_attached : PlainAttached s
  pub guid_open : GuidOpen s
  pub open_guid : OpenGuid s
  pub persistent_guid : PersistentGuid s
  pub deadlines : Deadlines s
  pub listed : Listed s
  pub ascending : Ascending s
  pub open_ids : OpenIds s
  pub given : Given s
  pub begun : Begun s
  pub session_ids : SessionIds s
  pub making_ids : MakingIds s
  pub making_once : MakingOnce s
  pub on_present : OnPresent s
  pub on_made : OnMade s
  pub no_trees : NoTrees s
  pub no_closed : NoClosed s
  pub no_refused : NoRefused s
  pub no_guids : NoGuids s
  pub next_tree : NextTree s
  pub tree_ids : TreeIds s
  pub range_owners : RangeOwners s
  pub not_root : NotRoot s
  pub root_stays : RootStays s
  pub open_files : OpenFiles s
  pub next_file : NextFile s
  pub file_numbers : FileNumbers s
  pub room : Room s
  pub limit : Limit s

-- ---- records

-- no record makes an open that deletes the root on close
abbrev pub keeps_root : ℕ → Option NewOpen → Bool
keeps_root f None = true
keeps_root f (Some n) = not (deletes_on_close n.options && (f == root))

abbrev pub is_sound : Record → Bool
is_sound (CreateRecord origin action f path attributes is_dir time opened) = keeps_root f opened
is_sound _ = true

unfoldable pub all_sound : List Record → Bool
all_sound [] = true
all_sound (r ∷ rs) = is_sound r && all_sound rs
