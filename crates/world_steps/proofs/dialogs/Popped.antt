-- The front of what comes down is heard: the connection without it.
use Rattle.std.proofs.Common.{◌≡◌, ℕ, true, List, [], ◌∷◌, Option, refl, sym, subst}
use Rattle.conn_core.specs.declared.conn.Conn.{Conn}
use Rattle.spec_exchange.specs.Network.{Conn as Link, Received, take_front}
use Rattle.client_ends.specs.declared.ends.config.ClientConfig.{ClientConfig}
use Rattle.client_ends.specs.declared.ends.dialog.Dialog.{Dialog}
use Rattle.spec_crypto.specs.declared.sessions.material.Keys.{Keys}
use Rattle.spec_world.specs.World.{Wires}
use Rattle.world_ends.specs.Channels.{AreDown, AreUp, IsDown, ChannelSeen, ShowsChannel, ShowsClientSide, ShowsServerSide, ChannelShowsTalk}
use Rattle.world_ends.specs.declared.sides.Channel.{Channel}
use Rattle.world_ends.specs.declared.sides.ClientSide.{ClientSide}
use Rattle.world_ends.specs.declared.sides.ClientSide.TheVariants.{Talks}
use Rattle.world_ends.specs.declared.sides.Down.{Down}
use Rattle.world_ends.specs.declared.sides.Up.{Up}
use Rattle.world_steps.specs.dialogs.Talking.{IsTalking}
use Rattle.world_steps.specs.declared.dialogs.fronting.Talk.{Talk}

-- the lists of the definitions have a front where the code's has
pub record HasFront (d : Down) (ds : List Down) (bs : List (List ℕ)) (ys : List Received) : Type 0 where
  pub frame : List ℕ
  pub frames : List (List ℕ)
  pub reply : Received
  pub replies : List Received
  pub frames_are : bs ≡ frame ∷ frames
  pub replies_are : ys ≡ reply ∷ replies
  pub front : IsDown d frame reply
  pub others : AreDown ds frames replies

pub front_of : (d : Down) (ds : List Down) (bs : List (List ℕ)) (ys : List Received) → AreDown (d ∷ ds) bs ys → HasFront d ds bs ys
front_of d ds [] [] h = absurd h
front_of d ds [] (y ∷ ys) h = absurd h
front_of d ds (b ∷ bs) [] h = absurd h
front_of d ds (b ∷ bs) (y ∷ ys) h = record {
  frame = b;
  frames = bs;
  reply = y;
  replies = ys;
  frames_are = refl;
  replies_are = refl;
  front = h.0;
  others = h.1;
}

-- the connection whose dialog hears it
abbrev pub facing : Dialog → Channel → Channel
facing d rest = record rest { client = Talks d }

module _ (k : ℕ) (s : ClientConfig) (guid : List ℕ) (keys : Keys) (taken : ℕ) (c : ChannelSeen) (i : Link) (u : Wires)
    (x : Channel) (t : Talk) where
  pub talks : IsTalking x t → ShowsChannel k s guid keys taken c i u x → (i.client_open ≡ true) × ChannelShowsTalk k s keys
      c u.client_end t.dialog
  talks e h = subst (λ (v : ClientSide). ShowsClientSide k s keys c i.client_open u.client_end v) e.client h.client

  pub fronted : (e : IsTalking x t) → ShowsChannel k s guid keys taken c i u x → HasFront e.front t.rest.down.items u.down i.down
  fronted e h =
      front_of e.front t.rest.down.items u.down i.down (subst (λ (v : List Down). AreDown v u.down i.down) e.down h.down)

  pub popped : (frames : List (List ℕ)) (replies : List Received) → IsTalking x t → AreDown t.rest.down.items frames replies
      → ShowsChannel k s guid keys taken c i u x
      → ShowsChannel k s guid keys taken c (take_front i replies) (record u { down = frames }) (facing t.dialog t.rest)
  popped frames replies e others h = record {
    client = talks e h;
    server = subst (λ (v : Option Conn). ShowsServerSide k guid i.server_open u.server_end v) (sym e.server) h.server;
    up = subst (λ (v : List Up). AreUp taken v u.up i.up) (sym e.up) h.up;
    down = others;
  }
