-- What a search for an operation tells of the model's choice.
use Rattle.std.specs.Prelude.{◌≡◌, ℕ, ◌+◌, ◌<◌, ◌≤◌, true, List, [], ◌∷◌, ◌++◌, length, slice_index_or, Some, None}
use Rattle.spec_exchange.specs.Client.{Client, goes_itself, has_its_slot, lacks_slot, settle_no_slot}
use Rattle.spec_exchange.specs.Schedules.{choose}
use Rattle.law_client.specs.choice.Choosing.{ChoiceGoes, chosen}
use Rattle.client_rows.specs.declared.operation_rows.row.Row.{Row}
use Rattle.client_rows.specs.operation_rows.Rows.{row_at}
use Rattle.client_rows.specs.declared.session_state.session.Session.{Session}
use Rattle.client_rows.specs.lock_slots.Shown.{HaveRows}
use Rattle.client_tables.specs.pushes.Shown.{PushShowsOpen}
use Rattle.client_tables.specs.declared.choice.finding.Attached.{Attached}
use Rattle.client_tables.specs.declared.choice.finding.Found.{Found}
use Rattle.client_tables.specs.declared.choice.finding.Found.TheVariants as found

-- it stands at a place of a list
abbrev pub IsChoiceAt : List Attached → ℕ → Attached → Type 0
IsChoiceAt opens i o = o ≡ slice_index_or opens i o

-- each operation has its open
abbrev pub HaveOpens : List Row → List Attached → Type 0
HaveOpens rows opens = (g : ℕ) → 0 < g → g < length rows → (row_at rows g).«open» < length opens

-- an open has 64 slots at most, and their users have rows
abbrev pub AreChoicesBounded : List Row → List Attached → Type 0
AreChoicesBounded rows opens = (i : ℕ) (o : Attached) → i < length opens → IsChoiceAt opens i o
    → (length o.slots.items ≤ 64) × HaveRows rows o.slots.items

abbrev pub ChoiceShowsOpens : List Row → List Attached → Session → Client → Type 0
ChoiceShowsOpens rows opens session c = (g : ℕ) (o : Attached) → 0 < g → g < length rows → IsChoiceAt opens (row_at rows g).«open» o
    → PushShowsOpen rows o.slots.items session o.session g c

-- of an operation that goes, what the model's choice is
abbrev pub TellsOf : Client → (k credits : ℕ) → List ℕ → (index : ℕ) → Found → Type 0
TellsOf c k credits slotless index found.Nothing = Unit {0}
TellsOf c k credits slotless index (found.Goes i slot) = (i ≡ index) × (goes_itself c index ≡ true → has_its_slot c index slot ≡ true)
    × ((n : ℕ) → chosen c k credits slotless index n
    ≡ record { slotless = slotless; pick = Some (record { op = index; slot = slot }) })
TellsOf c k credits slotless index (found.Slotless i) = (i ≡ index) × (lacks_slot c k index ≡ true)
    × ((n : ℕ) → chosen c k credits slotless index n
    ≡ choose (settle_no_slot c k index) k credits (slotless ++ index ∷ []) (index + 1) n)

-- from one operation on, what it is: none; this one, which may go, with this slot; or it goes on behind a lock that settles for want of one
abbrev pub ChoiceTells : Client → (k credits : ℕ) → List ℕ → (start : ℕ) → Found → Type 0
ChoiceTells c k credits slotless start found.Nothing = (m : ℕ) → start + m ≡ c.taken + 1
    → choose c k credits slotless start m ≡ record { slotless = slotless; pick = None }
ChoiceTells c k credits slotless start (found.Goes i slot) = ChoiceGoes c credits i
    × (goes_itself c i ≡ true → has_its_slot c i slot ≡ true)
    × ((d n : ℕ) → start + d ≡ i → i + n ≡ c.taken
    → choose c k credits slotless start (d + (n + 1)) ≡ record { slotless = slotless; pick = Some (record { op = i; slot = slot }) })
ChoiceTells c k credits slotless start (found.Slotless i) = (lacks_slot c k i ≡ true) × ((d n : ℕ) → start + d ≡ i → i + n ≡ c.taken
    → choose c k credits slotless start (d + (n + 1)) ≡ choose (settle_no_slot c k i) k credits (slotless ++ i ∷ []) (i + 1) n)

-- what is found is one of the rows, from one on; its slot is one of its open's, or the one behind those, of 64
abbrev pub IsChoiceInside : List Row → List Attached → (start : ℕ) → Found → Type 0
IsChoiceInside rows opens start found.Nothing = Unit {0}
IsChoiceInside rows opens start (found.Goes i slot) = (start ≤ i) × (i < length rows)
    × ((o : Attached) → IsChoiceAt opens (row_at rows i).«open» o → slot ≤ length o.slots.items + 1) × (slot ≤ 64)
IsChoiceInside rows opens start (found.Slotless i) = (start ≤ i) × (i < length rows)
