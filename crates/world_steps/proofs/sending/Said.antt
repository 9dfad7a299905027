-- A channel on which a request went up.
use Rattle.std.proofs.Common.{◌≡◌, ℕ, ◌≤◌, ◌<◌, ◌^◌, List, [], ◌∷◌, ◌++◌, length, Option, Ok, sym, ap, subst, ◌∙◌}
use Rattle.client_ends.specs.line_calls.Sending.{IsRequest, LineSends}
use Rattle.conn_core.specs.declared.conn.Conn.{Conn}
use Rattle.spec_exchange.specs.Network.{Conn as Link, Sent, Token, op_of, send_up}
use Rattle.spec_exchange.specs.State.{Message}
use Rattle.client_ends.specs.ends.Shown.{ShowsLine, token_of}
use Rattle.client_ends.specs.declared.ends.config.ClientConfig.{ClientConfig}
use Rattle.spec_crypto.specs.declared.sessions.material.Keys.{Keys}
use Rattle.wire_bytes.specs.declared.headers.request.Request.{Request}
use Rattle.spec_world.specs.Sending.{line_frame, sealed_on, spent}
use Rattle.spec_world.specs.World.{Wires, queued}
use Rattle.world_ends.specs.Channels.{AreDown, AreUp, IsUp, ChannelSeen, ShowsChannel, ShowsClientSide, ShowsServerSide}
use Rattle.world_ends.specs.declared.sides.Channel.{Channel}
use Rattle.world_ends.specs.declared.sides.ClientSide.{ClientSide}
use Rattle.world_ends.specs.declared.sides.ClientSide.TheVariants.{Ready}
use Rattle.world_ends.specs.declared.sides.Down.{Down}
use Rattle.world_ends.specs.declared.sides.Up.{Up}
use Rattle.world_steps.specs.sending.Sending.{SendingSaysOn}

one_more : (t : ℕ) (us : List Up) (bs : List (List ℕ)) (xs : List Sent) (u : Up) (b : List ℕ) (x : Sent) → IsUp t u b x → AreUp t us bs xs
    → AreUp t (us ++ u ∷ []) (bs ++ b ∷ []) (xs ++ x ∷ [])
one_more t [] [] [] u b x i h = (i, tt)
one_more t (v ∷ us) (c ∷ bs) (y ∷ xs) u b x i h = (h.0, one_more t us bs xs u b x i h.1)
one_more t [] [] (y ∷ xs) u b x i h = absurd h
one_more t [] (c ∷ bs) [] u b x i h = absurd h
one_more t [] (c ∷ bs) (y ∷ xs) u b x i h = absurd h
one_more t (v ∷ us) [] [] u b x i h = absurd h
one_more t (v ∷ us) [] (y ∷ xs) u b x i h = absurd h
one_more t (v ∷ us) (c ∷ bs) [] u b x i h = absurd h

module _ (k : ℕ) (s : ClientConfig) (guid : List ℕ) (keys : Keys) (t : ℕ) (c : ChannelSeen) (i : Link) (u : Wires)
    (x y : Channel) (r : Request)
    (says : SendingSaysOn r x y) (h : ShowsChannel k s guid keys t c i u x) where
  -- its side was ready
  pub was_ready : ShowsClientSide k s keys c i.client_open u.client_end (Ready says.client.before)
  was_ready = subst (λ (v : ClientSide). ShowsClientSide k s keys c i.client_open u.client_end v) says.client.was h.client

  -- what the line did
  pub sends : (m : Message) (charge : ℕ) → IsRequest r m charge → m.message_id ≡ u.client_end.purse.next
      → LineSends u.client_end m charge (token_of r.token) says.client.behind (Ok says.said.bytes.items)
  sends m charge q id = says.client.sends.sends u.client_end m charge was_ready.1.shown q id

  pub said_on : (token : Token) (m sent : Message) (charge : ℕ) → token_of r.token ≡ token → op_of token ≤ t → IsRequest r m charge
      → m.message_id ≡ u.client_end.purse.next
      → ShowsChannel k s guid keys t c (send_up i token sent charge)
      (queued u (sealed_on (spent u.client_end charge token)) (line_frame u.client_end m charge)) y
  said_on token m sent charge is below q id =
      let went = sends m charge q id in
      let ready = was_ready in
      let behind = sealed_on (spent u.client_end charge token) in
      let frame = line_frame u.client_end m charge in
      let up : IsUp t says.said frame (record { token = token; message = sent }) = record {
        bytes = sym went.2;
        token = sym (ap token_of says.client.sends.token ∙ is);
        below = below;
        short = subst (λ (v : List ℕ). length v < 2 ^ 60) went.2 says.client.sends.short;
      } in
      record {
        client = subst (λ (v : ClientSide). ShowsClientSide k s keys c i.client_open behind v) (sym says.client.becomes) (
          ready.0,
          record {
            shown = subst (λ (v : Token). ShowsLine says.client.behind (sealed_on (spent u.client_end charge v))) is went.3;
            over = ready.1.over;
            apart = ready.1.apart;
            ready = ready.1.ready;
          },
        );
        server = subst (λ (v : Option Conn). ShowsServerSide k guid i.server_open u.server_end v) (sym says.server) h.server;
        up = subst (λ (v : List Up). AreUp t v (u.up ++ frame ∷ []) (i.up ++ record { token = token; message = sent } ∷ [])) (sym says.up)
            (one_more t x.up.items u.up i.up says.said frame (record { token = token; message = sent }) up h.up);
        down = subst (λ (v : List Down). AreDown v u.down i.down) (sym says.down) h.down;
      }
