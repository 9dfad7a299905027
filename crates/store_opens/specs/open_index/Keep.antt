-- What is kept for a session (this project's, beside MS-SMB2 3.3.1.8): what became of its CreateGuids, and its opens.
use Rattle.std.specs.Prelude.{◌≡◌, ◌==◌, ℕ, ◌+◌, ◌<◌, min, Bool, true, false, Option, Some, None, is_some, nat_eq}
use Rattle.std.specs.HashMap.{get, spare}
use Rattle.std.specs.BTreeSet.{contains}
use Rattle.std.specs.Ordering.{nat_cmp}
use Rattle.spec_exchange.specs.Table.{put, put2}
use Rattle.store_opens.specs.declared.open_index.keep.KeptCreate.{KeptCreate}
use Rattle.store_opens.specs.declared.open_index.keep.KeptCreate.TheVariants as told
use Rattle.store_opens.specs.declared.open_index.keep.KeptResult.{KeptResult}
use Rattle.store_opens.specs.declared.open_index.keep.KeptResult.TheVariants.{Standing, Closed, Refused}
use Rattle.store_opens.specs.declared.open_index.keep.SessionOpens.{SessionOpens}

-- of a guid that was closed, what was refused before is free
abbrev pub ResultShown : Option KeptResult → Bool → Option ℕ → Type 0
ResultShown None closed refused = (closed ≡ false) × (refused ≡ None)
ResultShown (Some Standing) closed refused = (closed ≡ false) × (refused ≡ None)
ResultShown (Some Closed) closed refused = closed ≡ true
ResultShown (Some (Refused status)) closed refused = (closed ≡ false) × (refused ≡ Some status)

-- a count of 64 bits stands still at its end
abbrev pub keep_capped : ℕ → ℕ
keep_capped n = min n 0xffff_ffff_ffff_ffff

pub record SessionIs (r : SessionOpens) (closed : ℕ → Bool) (refused : ℕ → Option ℕ) (guids : ℕ) : Type 0 where
  pub results_are : (g : ℕ) → ResultShown (get nat_eq r.results g) (closed g) (refused g)
  pub guids_are : keep_capped guids ≡ r.guids

pub record NothingKept (closed : ℕ → Bool) (refused : ℕ → Option ℕ) (guids : ℕ) : Type 0 where
  pub none_closed : (g : ℕ) → closed g ≡ false
  pub none_refused : (g : ℕ) → refused g ≡ None
  pub no_guids : guids ≡ 0

-- for a session without a row nothing is kept
abbrev pub SessionShown : Option SessionOpens → (ℕ → Bool) → (ℕ → Option ℕ) → ℕ → Type 0
SessionShown None closed refused guids = NothingKept closed refused guids
SessionShown (Some r) closed refused guids = SessionIs r closed refused guids

-- the open is among those of the session's row
abbrev pub keep_lists : Option SessionOpens → ℕ → Bool
keep_lists None o = false
keep_lists (Some r) o = contains nat_cmp r.opens o

-- and among the plain ones of these
abbrev pub lists_plain : Option SessionOpens → ℕ → Bool
lists_plain None o = false
lists_plain (Some r) o = contains nat_cmp r.plain o

-- the open is in neither
abbrev pub IsNotListed : Option SessionOpens → ℕ → Type 0
IsNotListed r o = (keep_lists r o ≡ false) × (lists_plain r o ≡ false)

-- the guid's close has its place there
abbrev pub keep_names : Option SessionOpens → ℕ → Bool
keep_names None g = false
keep_names (Some r) g = is_some (get nat_eq r.results g)

-- there is room for what becomes of a guid
abbrev pub HasKeepPlace : Option SessionOpens → Type 0
HasKeepPlace None = ⊥
HasKeepPlace (Some r) = 0 < spare r.results

-- what a session keeps of a guid: that it was closed comes first
abbrev pub kept_of : Bool → Option ℕ → Option KeptCreate
kept_of true refused = Some told.Closed
kept_of false None = None
kept_of false (Some status) = Some (told.Refused status)

-- ---- rows of sessions that keep what they show, and may list more opens and have more places

pub record SessionsGrow (old new : ℕ → Option SessionOpens) : Type 0 where
  pub shown : (q : ℕ) (closed : ℕ → Bool) (refused : ℕ → Option ℕ) (guids : ℕ)
      → SessionShown (old q) closed refused guids → SessionShown (new q) closed refused guids
  pub listed : (q o : ℕ) → keep_lists (old q) o ≡ true → keep_lists (new q) o ≡ true
  pub plain : (q o : ℕ) → lists_plain (old q) o ≡ true → lists_plain (new q) o ≡ true
  pub named : (q g : ℕ) → keep_names (old q) g ≡ true → keep_names (new q) g ≡ true

-- rows in which the counts of guids are changed so, and else as grown
pub record SessionsCount (old new : ℕ → Option SessionOpens) (count : (ℕ → ℕ) → ℕ → ℕ) : Type 0 where
  pub shown : (closed : ℕ → ℕ → Bool) (refused : ℕ → ℕ → Option ℕ) (guids : ℕ → ℕ)
      → ((x : ℕ) → SessionShown (old x) (closed x) (refused x) (guids x))
      → (x : ℕ) → SessionShown (new x) (closed x) (refused x) (count guids x)
  pub listed : (q o : ℕ) → keep_lists (old q) o ≡ true → keep_lists (new q) o ≡ true
  pub plain : (q o : ℕ) → lists_plain (old q) o ≡ true → lists_plain (new q) o ≡ true
  pub named : (q g : ℕ) → keep_names (old q) g ≡ true → keep_names (new q) g ≡ true

-- one more guid of a session
abbrev pub one_more : ℕ → (ℕ → ℕ) → ℕ → ℕ
one_more x guids = put guids x (guids x + 1)

-- of a session and a guid, where there are both
abbrev pub guids_with : Option ℕ → Option ℕ → (ℕ → ℕ) → ℕ → ℕ
guids_with None guid guids = guids
guids_with (Some x) None guids = guids
guids_with (Some x) (Some g) guids = one_more x guids

abbrev pub HasPlaceIn : (ℕ → Option SessionOpens) → Option ℕ → Type 0
HasPlaceIn rows None = Unit {0}
HasPlaceIn rows (Some x) = HasKeepPlace (rows x)

abbrev pub closed_with : Option ℕ → Option ℕ → (ℕ → ℕ → Bool) → ℕ → ℕ → Bool
closed_with None guid closed = closed
closed_with (Some x) None closed = closed
closed_with (Some x) (Some g) closed = put2 closed x g true

-- rows of sessions in which this guid of this one is closed, where there are both and it has its place
pub record ClosesGuid (old new : ℕ → Option SessionOpens) (session guid : Option ℕ) : Type 0 where
  pub shown : (closed : ℕ → ℕ → Bool) (refused : ℕ → ℕ → Option ℕ) (guids : ℕ → ℕ)
      → ((x g : ℕ) → session ≡ Some x → guid ≡ Some g → keep_names (old x) g ≡ true)
      → ((x : ℕ) → SessionShown (old x) (closed x) (refused x) (guids x)) → (x : ℕ)
      → SessionShown (new x) (closed_with session guid closed x) (refused x) (guids x)
  pub listed : (q o : ℕ) → keep_lists (new q) o ≡ keep_lists (old q) o
  pub plain : (q o : ℕ) → lists_plain (new q) o ≡ lists_plain (old q) o
  pub named : (q g : ℕ) → keep_names (new q) g ≡ keep_names (old q) g

-- rows of sessions in which the create of this guid is refused, where none of it was closed
pub record RefusesGuid (old new : ℕ → Option SessionOpens) (session guid status : ℕ) : Type 0 where
  pub shown : (closed : ℕ → ℕ → Bool) (refused : ℕ → ℕ → Option ℕ) (guids : ℕ → ℕ) → closed session guid ≡ false
      → ((x : ℕ) → SessionShown (old x) (closed x) (refused x) (guids x)) → (x : ℕ)
      → SessionShown (new x) (closed x) (put2 refused session guid (Some status) x) (guids x)
  pub listed : (q o : ℕ) → keep_lists (old q) o ≡ true → keep_lists (new q) o ≡ true
  pub plain : (q o : ℕ) → lists_plain (old q) o ≡ true → lists_plain (new q) o ≡ true
  pub named : (q g : ℕ) → keep_names (old q) g ≡ true → keep_names (new q) g ≡ true

-- rows that keep what they show, and may list this open no more
pub record SessionsUnlist (old new : ℕ → Option SessionOpens) (id : ℕ) : Type 0 where
  pub shown : (q : ℕ) (closed : ℕ → Bool) (refused : ℕ → Option ℕ) (guids : ℕ) → SessionShown (old q) closed refused guids
      → SessionShown (new q) closed refused guids
  pub listed : (q o : ℕ) → (o == id) ≡ false → keep_lists (new q) o ≡ keep_lists (old q) o
  pub plain : (q o : ℕ) → (o == id) ≡ false → lists_plain (new q) o ≡ lists_plain (old q) o
  pub named : (q g : ℕ) → keep_names (new q) g ≡ keep_names (old q) g
