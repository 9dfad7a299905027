-- What keeps ends tied behind a Take: on a line, and where a dialog is refused.
use Rattle.std.specs.Prelude.{◌≡◌, ℕ, ◌==◌, true, false, List, [], ◌∷◌}
use Rattle.spec_exchange.specs.Status.{success}
use Rattle.spec_exchange.specs.Client.{Apart, AskedTree}
use Rattle.spec_exchange.specs.Network.{Take, Sent, Received, Token}
use Rattle.spec_world.specs.Settings.{WorldSettings}
use Rattle.spec_world.specs.Dialog.{status_due}
use Rattle.spec_world.specs.World.{World}
use Rattle.spec_world.specs.Events.{Plain, bytes_happen}
use Rattle.law_ties.specs.events.Links.{is_lined, IsTied}
use Rattle.law_ties.specs.events.InStep.{RepliesAreDue}

-- no other message or reply has this token
abbrev pub OtherUp : Token → List Sent → Type 0
OtherUp t [] = Unit {0}
OtherUp t (x ∷ xs) = (x.token ≡ t → ⊥) × OtherUp t xs

abbrev pub OtherDown : Token → List Received → Type 0
OtherDown t [] = Unit {0}
OtherDown t (y ∷ ys) = (y.token ≡ t → ⊥) × OtherDown t ys

-- an operation has one copy on a connection
pub record IsAlone (w : World) (k : ℕ) (y : Received) (ys : List Received) : Type 0 where
  pub up : OtherUp y.token (w.values.conns k).up
  pub down : OtherDown y.token ys

pub record TakesStayTied (z : WorldSettings) (w : World) (k : ℕ) (y : Received) (ys : List Received) : Type 0 where
  -- a line's reply
  pub line : w.values.client.stage k ≡ Apart → IsAlone w k y ys → IsTied z (bytes_happen z w (Plain (Take k)))
  -- a dialog's response of another status than the one that is due
  pub refused :
      (w.values.client.stage k ≡ Apart → ⊥) → (y.reply.status == status_due (w.values.client.stage k)) ≡ false →
      IsTied z (bytes_happen z w (Plain (Take k)))

abbrev pub TakesAreKept : Type 0
TakesAreKept =
    (z : WorldSettings) (w : World) (k : ℕ) (y : Received) (ys : List Received) → IsTied z w → RepliesAreDue w →
    (w.values.conns k).client_open ≡ true → (w.values.conns k).down ≡ y ∷ ys → TakesStayTied z w k y ys

-- ---- the response to a new session's TREE_CONNECT: its channel is ready

-- no other dialog is on its way
abbrev pub IsQuiet : World → ℕ → Type 0
IsQuiet w k = (j : ℕ) → (j == k) ≡ false → (w.values.conns j).client_open ≡ true → is_lined (w.values.client.stage j) ≡ true

abbrev pub TreeTakesAreKept : Type 0
TreeTakesAreKept =
    (z : WorldSettings) (w : World) (k : ℕ) (y : Received) (ys : List Received) → IsTied z w → RepliesAreDue w →
    (w.values.conns k).client_open ≡ true → (w.values.conns k).down ≡ y ∷ ys → w.values.client.stage k ≡ AskedTree →
    (y.reply.status == success) ≡ true → IsAlone w k y ys → IsQuiet w k → IsTied z (bytes_happen z w (Plain (Take k)))
