-- The order of each open in code, and up to a place.
use Rattle.std.specs.Prelude.{◌≡◌, ℕ, ◌+◌, ◌-◌, ◌==◌, Bool, false, List, [], ◌∷◌, ◌++◌, length, slice_get, Option, Some, None}
use Rattle.spec_exchange.specs.Order.{Account, is_entry, order_from, order_of, placed}
use Rattle.spec_exchange.specs.Runs.{account}
use Rattle.client_values.specs.declared.operations.values.OpKind.{OpKind}
use Rattle.client_values.specs.declared.operations.values.OpKind.TheVariants as kinds
use Rattle.spec_world.specs.Settings.{WorldSettings}
use Rattle.spec_world.specs.World as bytes
use Rattle.world_ends.specs.results.Ended.{ShowsEnded}
use Rattle.world_ends.specs.declared.results.ending.EndedWorld.{EndedWorld}
use Rattle.world_ends.specs.declared.results.ordering.Order.{Order}
use Rattle.world_ends.specs.declared.world.Marks.{Marks}

-- ---- what is looked up

-- the create on whose open a write, a read or an end is
abbrev pub create_under : OpKind → Option ℕ
create_under (kinds.Write create at bytes) = Some create
create_under (kinds.Read create at length) = Some create
create_under (kinds.SetEnd create length) = Some create
create_under _ = None

abbrev pub on_in : Option OpKind → Option ℕ
on_in None = None
on_in (Some kind) = create_under kind

abbrev pub placed_in : Option Marks → Option ℕ
placed_in None = None
placed_in (Some m) = placed m.first m.by

abbrev pub born_in : Option Marks → ℕ
born_in None = 0
born_in (Some m) = m.birth

-- ---- a place

abbrev pub is_listing_told : Option ℕ → ℕ → Bool
is_listing_told None c = false
is_listing_told (Some x) c = x == c

-- of the open of which create a place is an entry, where its message is this operation's
abbrev pub ListingTellsOpen : Account → ℕ → ℕ → Option ℕ → Type 0
ListingTellsOpen a g n told = a.log.who n ≡ g → (c : ℕ) → is_entry a c n ≡ is_listing_told told c

-- ---- orders up to a place

abbrev pub order_to : Account → ℕ → ℕ → List ℕ
order_to a n o = order_from a o (a.log.birth o) (n - a.log.birth o)

abbrev pub AreOrdersTo : Account → ℕ → List Order → Type 0
AreOrdersTo a n xs = (o : ℕ) (x : Order) → slice_get xs o ≡ Some x → x.numbers.items ≡ order_to a n o

-- so many, each without an operation
pub record AreBare (n : ℕ) (xs : List Order) : Type 0 where
  pub counted : length xs ≡ n
  pub each : (o : ℕ) (x : Order) → slice_get xs o ≡ Some x → x.numbers.items ≡ []

-- the order of one create has an operation more, where there is one; the others stay
pub record AddsAt (c g : ℕ) (xs ys : List Order) : Type 0 where
  pub counted : length ys ≡ length xs
  pub here : (y : Order) → slice_get ys c ≡ Some y
      → (x : Order) × (slice_get xs c ≡ Some x) × (y.numbers.items ≡ x.numbers.items ++ g ∷ [])
  pub there : (o : ℕ) → (o ≡ c → ⊥) → slice_get ys o ≡ slice_get xs o

-- orders up to a place are those up to the next one, by what its message's operation tells
pub record ListingPuts (v : EndedWorld) (n g : ℕ) (told : Option ℕ) (xs ys : List Order) : Type 0 where
  pub counted : length ys ≡ length xs
  pub goes_on : (z : WorldSettings) (w : bytes.World) → ShowsEnded z v w → ListingTellsOpen (account w.values) g n told
      → w.values.log.who n ≡ g → AreOrdersTo (account w.values) n xs → AreOrdersTo (account w.values) (n + 1) ys

pub record ListingNotes (v : EndedWorld) (n g : ℕ) (xs ys : List Order) : Type 0 where
  pub counted : length ys ≡ length xs
  pub goes_on : (z : WorldSettings) (w : bytes.World) → ShowsEnded z v w → w.values.log.who n ≡ g → AreOrdersTo (account w.values) n xs
      → AreOrdersTo (account w.values) (n + 1) ys

pub record NotesAll (v : EndedWorld) (xs ys : List Order) : Type 0 where
  pub counted : length ys ≡ length xs
  pub all : (z : WorldSettings) (w : bytes.World) → ShowsEnded z v w → AreOrdersTo (account w.values) 0 xs
      → AreOrdersTo (account w.values) w.values.log.places ys

-- ---- the whole: by operation, of so many that were taken

pub record AreOrders (taken : ℕ) (a : Account) (xs : List Order) : Type 0 where
  pub counted : length xs ≡ taken + 1
  pub each : (o : ℕ) (x : Order) → slice_get xs o ≡ Some x → x.numbers.items ≡ order_of a o
