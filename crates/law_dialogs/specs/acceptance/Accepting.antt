-- What keeps ends tied behind the Take of a logon's final response.
use Rattle.std.specs.Prelude.{◌≡◌, ℕ, ◌+◌, ◌==◌, ◌<◌, ◌≤◌, ◌^◌, true, false, List, ◌∷◌, length}
use Rattle.spec_exchange.specs.Status.{success}
use Rattle.spec_exchange.specs.Commands.{TreeConnect}
use Rattle.spec_exchange.specs.Client.{SaidSecond}
use Rattle.spec_exchange.specs.Network.{Take, Received}
use Rattle.spec_commands.specs.BodyOf.{body_of}
use Rattle.spec_world.specs.Settings.{WorldSettings, identity_of}
use Rattle.spec_world.specs.World.{World}
use Rattle.spec_world.specs.Events.{Plain, bytes_happen}
use Rattle.law_ties.specs.wire_facts.Lawful.{IsLawful}
use Rattle.law_ties.specs.events.Links.{IsTied}
use Rattle.law_ties.specs.events.Taken.{IsQuiet}

-- a further channel is bound, to the last accepted session
abbrev pub BindsAreKept : Type 0
BindsAreKept =
    (z : WorldSettings) (w : World) (k : ℕ) (y : Received) (ys : List Received) → IsLawful z → IsTied z w →
    (w.values.conns k).client_open ≡ true → (w.values.conns k).down ≡ y ∷ ys → w.values.client.stage k ≡ SaidSecond true →
    (y.reply.status == success) ≡ true → 0 < w.values.client.rank w.values.client.accepted → IsTied z (bytes_happen z w (Plain (Take k)))

-- a new session is accepted, whose TREE_CONNECT fits a frame
pub record IsAccepting (z : WorldSettings) (w : World) (k : ℕ) : Type 0 where
  pub who : w.values.client.who ≡ identity_of z
  pub pending : w.values.client.pending < 2 ^ 64
  pub short : 64 + length (body_of (TreeConnect z.share)) ≤ 1114060
  pub quiet : IsQuiet w k

abbrev pub AcceptsAreKept : Type 0
AcceptsAreKept =
    (z : WorldSettings) (w : World) (k : ℕ) (y : Received) (ys : List Received) → IsLawful z → IsTied z w →
    (w.values.conns k).client_open ≡ true → (w.values.conns k).down ≡ y ∷ ys → w.values.client.stage k ≡ SaidSecond false →
    (y.reply.status == success) ≡ true → IsAccepting z w k → IsTied z (bytes_happen z w (Plain (Take k)))
