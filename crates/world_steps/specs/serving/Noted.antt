-- The place of a message that the server took.
use Rattle.std.specs.Prelude.{◌≡◌, ℕ, ◌+◌, ◌≤◌, ◌<◌, Bool, true, false, ◌&&◌, if◌then◌else◌, List, [], ◌∷◌, ◌++◌, length}
use Rattle.client_steps.specs.whole_client.Shown.{ShowsClient}
use Rattle.client_steps.specs.declared.whole_client.client.Client.{Client as Core}
use Rattle.spec_exchange.specs.Client.{Client}
use Rattle.spec_exchange.specs.Network.{first_noted, is_own, op_of}
use Rattle.spec_exchange.specs.Operations.{is_create}
use Rattle.client_ends.specs.ends.Shown.{token_of}
use Rattle.world_ends.specs.Places.{marks_at}
use Rattle.world_ends.specs.declared.world.Marks.{Marks}
use Rattle.world_ends.specs.declared.world.Places.{Places}

-- the first message of an operation that acted, and of one that makes an open the place behind it
abbrev pub noted_by : Bool → ℕ → ℕ → Marks → Marks
noted_by makes place behind m = record { first = first_noted m.first place; by = m.by; birth = if makes then behind else m.birth }

-- the marks of one operation are noted, and the others stay
pub record MarksOne (old : List Marks) (g place behind : ℕ) (makes : Bool) (new : List Marks) : Type 0 where
  pub counted : length new ≡ length old
  pub here : marks_at new g ≡ noted_by makes place behind (marks_at old g)
  pub there : (j : ℕ) → (j ≡ g → ⊥) → marks_at new j ≡ marks_at old j

-- where its message acted
abbrev pub MarksBy : Bool → List Marks → ℕ → ℕ → ℕ → Bool → List Marks → Type 0
MarksBy true old g place behind makes new = g < length old → MarksOne old g place behind makes new
MarksBy false old g place behind makes new = new ≡ old

-- a message of this operation got the next place
pub record NotesOne (x : Places) (g : ℕ) (acts makes : Bool) (y : Places) : Type 0 where
  pub served : y.served.items ≡ x.served.items ++ g ∷ []
  pub marks : MarksBy acts x.marks.items g (length x.served.items) (length x.served.items + 1) makes y.marks.items

-- a message of this token
abbrev pub NotesAt : Core → Places → ℕ → Bool → Places → Type 0
NotesAt client x token acted y =
    (c : Client) → ShowsClient client c → op_of (token_of token) ≤ c.taken
    → NotesOne x (op_of (token_of token)) (is_own (token_of token) && acted) (is_create (c.op (op_of (token_of token)))) y

-- or none
abbrev pub ServeNotesBy : Bool → Core → Places → ℕ → Bool → Places → Type 0
ServeNotesBy true client x token acted y = NotesAt client x token acted y
ServeNotesBy false client x token acted y = y ≡ x
