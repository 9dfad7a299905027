-- A dialog that hears the front of what comes down.
use Rattle.std.specs.Prelude.{◌≡◌, ℕ, ◌+◌, Bool, if◌then◌else◌, List, ◌∷◌, slice_get, Option, Some, None}
use Rattle.client_ends.specs.dialog_calls.Turning.{DialogHears}
use Rattle.spec_exchange.specs.Table.{is_filled}
use Rattle.client_ends.specs.ends.Shown.{ShowsDialog}
use Rattle.client_ends.specs.declared.ends.dialog.Dialog.{Dialog}
use Rattle.spec_world.specs.Ends.{ClientEnd}
use Rattle.spec_world.specs.Notes as notes
use Rattle.world_ends.specs.Tests.{is_open}
use Rattle.world_ends.specs.declared.sides.Channel.{Channel}
use Rattle.world_ends.specs.declared.sides.ClientSide.{ClientSide}
use Rattle.world_ends.specs.declared.sides.ClientSide.TheVariants.{Closed, Talks}
use Rattle.world_ends.specs.declared.sides.Down.{Down}
use Rattle.world_steps.specs.opening.Putting.{Becomes}
use Rattle.world_steps.specs.Lists.{ChangedAt}
use Rattle.world_steps.specs.declared.dialogs.fronting.Talk.{Talk}
use Rattle.world_steps.specs.declared.dialogs.hearing.Turn.{Turn}

-- ---- why it hears nothing

abbrev pub taking_refusal_on : Channel → ℕ → Option notes.WorldError
taking_refusal_on c k = if is_open c.client then (if is_filled c.down.items then None else Some (notes.NothingThere k))
    else Some (notes.NoChannel k)

abbrev pub taking_refusal : Option Channel → ℕ → Option notes.WorldError
taking_refusal None k = Some (notes.NoChannel k)
taking_refusal (Some c) k = taking_refusal_on c k

-- ---- it is taken out, with the front

abbrev pub HasDialog : ClientSide → Dialog → ClientSide → Type 0
HasDialog old d new = (old ≡ Talks d) × (new ≡ Closed)

pub record IsTalking (x : Channel) (t : Talk) : Type 0 where
  pub client : x.client ≡ Talks t.dialog
  pub front : Down
  pub down : x.down.items ≡ front ∷ t.rest.down.items
  pub frame : front.bytes.items ≡ t.frame.items
  pub closed : t.rest.client ≡ Closed
  pub server : t.rest.server ≡ x.server
  pub up : t.rest.up.items ≡ x.up.items

pub record TakesOut (xs : List Channel) (k : ℕ) (t : Talk) (ys : List Channel) : Type 0 where
  pub channel : Channel
  pub there : slice_get xs k ≡ Some channel
  pub talk : IsTalking channel t
  pub blank : Channel
  pub out : ChangedAt (Becomes blank) k xs ys

-- ---- it hears

-- the number that a bound channel gets
abbrev pub channel_number : Bool → ℕ → ℕ
channel_number bound numbers = if bound then numbers + 1 else 0

pub record IsTalkTurn (t : Talk) (number : ℕ) (u : Turn) : Type 0 where
  pub hears : (n : ClientEnd) → ShowsDialog t.dialog n → DialogHears n.stage t.dialog n t.frame.items number u.dialog u.heard
  pub rest : u.rest ≡ t.rest
