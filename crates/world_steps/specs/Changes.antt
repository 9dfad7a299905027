-- The front of what goes up, or comes down, becomes another one.
use Rattle.std.specs.Prelude.{◌≡◌, ℕ, ◌<◌, ◌^◌, Bool, true, false, List, [], ◌∷◌, length, Option, Some, None}
use Rattle.spec_exchange.specs.Table.{is_filled}
use Rattle.spec_world.specs.Events.{flipped}
use Rattle.world_ends.specs.Tests.{opened_in, served_in}
use Rattle.world_ends.specs.declared.sides.Channel.{Channel}
use Rattle.world_ends.specs.declared.sides.Down.{Down}
use Rattle.world_ends.specs.declared.sides.Up.{Up}
use Rattle.world_steps.specs.declared.tampering.Change.{Change}
use Rattle.world_steps.specs.declared.tampering.Change.TheVariants as changes

abbrev pub change_of : Change → List ℕ → List ℕ
change_of (changes.Replaced bytes) = λ front. bytes
change_of (changes.Flipped at mask) = flipped at mask

-- ---- the lists

abbrev pub PutUp : List Up → ℕ → List ℕ → List Up → Type 0
PutUp us token bytes [] = ⊥
PutUp us token bytes (q ∷ qs) = (q.token ≡ token) × (q.bytes.items ≡ bytes) × (length q.bytes.items < 2 ^ 60) × (qs ≡ us)

abbrev pub PutDown : List Down → ℕ → List ℕ → List Down → Type 0
PutDown ds place bytes [] = ⊥
PutDown ds place bytes (q ∷ qs) = (q.place ≡ place) × (q.bytes.items ≡ bytes) × (length q.bytes.items < 2 ^ 60) × (qs ≡ ds)

abbrev pub ChangesUp : (List ℕ → List ℕ) → List Up → List Up → Type 0
ChangesUp f [] us = ⊥
ChangesUp f (p ∷ ps) us = PutUp ps p.token (f p.bytes.items) us

abbrev pub ChangesDown : (List ℕ → List ℕ) → List Down → List Down → Type 0
ChangesDown f [] ds = ⊥
ChangesDown f (p ∷ ps) ds = PutDown ps p.place (f p.bytes.items) ds

-- of a connection
abbrev pub ChangesFront : Bool → (List ℕ → List ℕ) → Channel → Channel → Type 0
ChangesFront true f old new = (new.client ≡ old.client) × (new.server ≡ old.server) × (new.down.items ≡ old.down.items)
    × ChangesUp f old.up.items new.up.items
ChangesFront false f old new = (new.client ≡ old.client) × (new.server ≡ old.server) × (new.up.items ≡ old.up.items)
    × ChangesDown f old.down.items new.down.items

-- ---- whether the end that is to hear it is open, and whether something is on its way

abbrev pub has_open_end : Bool → Option Channel → Bool
has_open_end true o = served_in o
has_open_end false o = opened_in o

abbrev pub coming_to : Bool → Channel → Bool
coming_to true x = is_filled x.up.items
coming_to false x = is_filled x.down.items

abbrev pub coming_in : Bool → Option Channel → Bool
coming_in up None = false
coming_in up (Some x) = coming_to up x
