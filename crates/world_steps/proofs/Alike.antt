-- A connection is seen as before where the client's columns that it looks at are.
use Rattle.std.proofs.Common.{◌≡◌, ℕ, Bool, sym, ap, subst, ◌∙◌}
use Rattle.std.proofs.Common.{List, Option, Some, None}
use Rattle.spec_exchange.specs.Network.{Conn as Link}
use Rattle.client_ends.specs.declared.ends.config.Bound.{Bound}
use Rattle.client_ends.specs.declared.ends.config.ClientConfig.{ClientConfig}
use Rattle.client_ends.specs.declared.ends.dialog.Dialog.{Dialog}
use Rattle.spec_crypto.specs.declared.sessions.material.Keys.{Keys}
use Rattle.spec_world.specs.Ends.{ClientEnd}
use Rattle.spec_world.specs.World.{Wires}
use Rattle.world_ends.specs.Channels.{IsChannelFor, IsPrevious, ChannelSeen, ShowsChannel, ShowsClientSide, session_at}
use Rattle.world_ends.specs.declared.sides.Channel.{Channel}
use Rattle.world_ends.specs.declared.sides.ClientSide.{ClientSide}
use Rattle.world_ends.specs.declared.sides.ClientSide.TheVariants.{Closed, Talks, Ready}

pub record Alike (j : ℕ) (c d : ChannelSeen) : Type 0 where
  pub ready : d.ready j ≡ c.ready j
  pub stage : d.stage j ≡ c.stage j
  pub making : c.making ≡ Some j → d.making ≡ Some j
  pub live : d.live ≡ c.live
  pub session : d.session ≡ c.session
  pub tree : d.tree ≡ c.tree
  pub accepted : d.accepted ≡ c.accepted
  pub pending : d.pending ≡ c.pending

own_alike : (j : ℕ) (keys : Keys) (c d : ChannelSeen) (x : Dialog) (o : Option Bound) → Alike j c d
    → IsChannelFor j keys c x o → IsChannelFor j keys d x o
own_alike j keys c d x None a h = record {
  making = a.making h.making;
  apart = a.live ∙ h.apart;
  previous = subst (λ (n : ℕ). IsPrevious x.stage x.previous n) (sym a.accepted) h.previous;
  session = h.session ∙ ap (λ (n : ℕ). session_at x.stage n) (sym a.pending);
}
own_alike j keys c d x (Some b) a h = record {
  live = a.live ∙ h.live;
  session = h.session ∙ sym a.session;
  tree = h.tree ∙ sym a.tree;
  keys_are = h.keys_are;
  known = h.known;
}

side_alike : (j : ℕ) (s : ClientConfig) (keys : Keys) (c d : ChannelSeen) (there : Bool) (n : ClientEnd) (v : ClientSide) → Alike j c d
    → ShowsClientSide j s keys c there n v → ShowsClientSide j s keys d there n v
side_alike j s keys c d there n Closed a h = (h.0, a.ready ∙ h.1)
side_alike j s keys c d there n (Talks x) a h = (
  h.0,
  record {
    goes_on = h.1.goes_on;
    shown = h.1.shown;
    stage = a.stage ∙ h.1.stage;
    unready = a.ready ∙ h.1.unready;
    config = h.1.config;
    own = own_alike j keys c d x x.bound a h.1.own;
  },
)
side_alike j s keys c d there n (Ready l) a h = (
  h.0,
  record {
    shown = h.1.shown;
    over = h.1.over;
    apart = a.stage ∙ h.1.apart;
    ready = a.ready ∙ h.1.ready;
  },
)

pub seen_alike : (j : ℕ) (s : ClientConfig) (guid : List ℕ) (keys : Keys) (t : ℕ) (c d : ChannelSeen) (i : Link) (u : Wires) (x : Channel)
    → Alike j c d → ShowsChannel j s guid keys t c i u x → ShowsChannel j s guid keys t d i u x
seen_alike j s guid keys t c d i u x a h = record {
  client = side_alike j s keys c d i.client_open u.client_end x.client a h.client;
  server = h.server;
  up = h.up;
  down = h.down;
}
