-- Connections of which an end closes.
use Rattle.std.proofs.Common.{◌≡◌, ℕ, ◌==◌, Bool, true, false, if◌then◌else◌, refl, sym, subst, ◌∙◌, arith}
use Rattle.std.proofs.Common.{List, [], slice_get, Option, Some, None, is_some}
use Rattle.std.proofs.lemmas.Bool.Decides.{nat_tests}
use Rattle.conn_core.specs.declared.conn.Conn.{Conn}
use Rattle.spec_exchange.specs.Table.{put}
use Rattle.spec_exchange.specs.Network.{Conn as Link, client_off, server_off}
use Rattle.client_ends.specs.declared.ends.config.ClientConfig.{ClientConfig}
use Rattle.spec_crypto.specs.declared.sessions.material.Keys.{Keys}
use Rattle.spec_world.specs.Ends.{ClientEnd, ServerEnd}
use Rattle.spec_world.specs.World.{Wires, client_end_off, server_end_off}
use Rattle.world_ends.specs.Channels.{AreDown, AreUp, ChannelSeen, ShowsChannel, ShowsChannels, ShowsClientSide, ShowsServerSide}
use Rattle.world_ends.specs.Tests.{is_open, is_ready, opened_in, readied_in, served_in}
use Rattle.world_ends.specs.declared.sides.Channel.{Channel}
use Rattle.world_ends.specs.declared.sides.ClientSide.{ClientSide}
use Rattle.world_ends.specs.declared.sides.ClientSide.TheVariants.{Closed, Talks, Ready}
use Rattle.world_ends.specs.declared.sides.Down.{Down}
use Rattle.world_ends.specs.declared.sides.Up.{Up}
use Rattle.world_steps.specs.Lists.{ChangedAll, ChangedAt, ClosesClient, ClosesServer}

-- ---- one connection

pub server_closed : (k : ℕ) (s : ClientConfig) (guid : List ℕ) (keys : Keys) (t : ℕ) (c : ChannelSeen) (i : Link)
    (u : Wires) (x y : Channel)
    → ClosesServer x y → ShowsChannel k s guid keys t c i u x → ShowsChannel k s guid keys t c (server_off i) (server_end_off u) y
server_closed k s guid keys t c i u x y r h = record {
  client = subst (λ (v : ClientSide). ShowsClientSide k s keys c i.client_open u.client_end v) (sym r.client) h.client;
  server = subst (λ (v : Option Conn). ShowsServerSide k guid false u.server_end v) (sym r.server) refl;
  up = subst (λ (v : List Up). AreUp t v [] []) (sym r.up) tt;
  down = subst (λ (v : List Down). AreDown v u.down i.down) (sym r.down) h.down;
}

-- whatever the client behind it, of which this channel isn't ready
pub client_closed : (k : ℕ) (s : ClientConfig) (guid : List ℕ) (keys : Keys) (t : ℕ) (c d : ChannelSeen) (i : Link)
    (u : Wires) (x y : Channel)
    → ClosesClient x y → d.ready k ≡ false → ShowsChannel k s guid keys t c i u x
    → ShowsChannel k s guid keys t d (client_off i) (client_end_off u) y
client_closed k s guid keys t c d i u x y r ready h = record {
  client = subst (λ (v : ClientSide). ShowsClientSide k s keys d false u.client_end v) (sym r.client) (refl, ready);
  server = subst (λ (v : Option Conn). ShowsServerSide k guid i.server_open u.server_end v) (sym r.server) h.server;
  up = subst (λ (v : List Up). AreUp t v u.up i.up) (sym r.up) h.up;
  down = subst (λ (v : List Down). AreDown v [] []) (sym r.down) tt;
}

-- ---- one among all

pub same_number : (n k : ℕ) → (n == k) ≡ true → n ≡ k
same_number n k h = grind (arith, nat_tests)

pub other_number : (n k : ℕ) → (n == k) ≡ false → n ≡ k → ⊥
other_number n k h e = grind (arith, nat_tests)

some_same : {X : Type 0} (x y : X) → Some x ≡ Some y → x ≡ y
some_same x y e = cc

some_none : {X : Type 0} (x : X) → Some x ≡ None → ⊥
some_none x e = absurd (cc)

module _ (s : ClientConfig) (guid : List ℕ) (keys : Keys) (t : ℕ) (c d : ChannelSeen) where
  here_at : (b : Bool) (j k : ℕ) (i' i : Link) (u' u : Wires) (y : Channel) → (b ≡ true → j ≡ k)
      → (b ≡ true → ShowsChannel k s guid keys t d i' u' y)
      → (b ≡ false → ShowsChannel j s guid keys t d i u y) → ShowsChannel j s guid keys t d (if b then i' else i) (if b then u' else u) y
  here_at true j k i' i u' u y n p q = subst (λ (v : ℕ). ShowsChannel v s guid keys t d i' u' y) (sym (n refl)) (p refl)
  here_at false j k i' i u' u y n p q = q refl

  abbrev Beyond : Link → Bool → Type 0
  Beyond i ready = (i.client_open ≡ false) × (i.server_open ≡ false) × (ready ≡ false)

  past_at : (b : Bool) (i' i : Link) (ready : Bool) → (b ≡ true → ⊥) → (b ≡ false → Beyond i ready) → Beyond (if b then i' else i) ready
  past_at true i' i ready p q = absurd (p refl)
  past_at false i' i ready p q = q refl

  -- the others are seen so by the client behind it, and there are no more
  pub one_changed : (R : Channel → Channel → Type 0) (k : ℕ) (xs ys : List Channel) (conns : ℕ → Link) (wires : ℕ → Wires) (i : Link)
      (u : Wires) (x : Channel) → ChangedAt R k xs ys → slice_get xs k ≡ Some x
      → ((y : Channel) → R x y → ShowsChannel k s guid keys t c (conns k) (wires k) x → ShowsChannel k s guid keys t d i u y)
      → ((j : ℕ) (y : Channel) → (j ≡ k → ⊥) → ShowsChannel j s guid keys t c (conns j) (wires j) y
      → ShowsChannel j s guid keys t d (conns j) (wires j) y)
      → ((j : ℕ) → (j ≡ k → ⊥) → c.ready j ≡ false → d.ready j ≡ false)
      → ShowsChannels s guid keys t c conns wires xs → ShowsChannels s guid keys t d (put conns k i) (put wires k u) ys
  one_changed R k xs ys conns wires i u x r e to others unready h =
      let new = r.here x e in
      let own : (y : Channel) → slice_get ys k ≡ Some y → ShowsChannel k s guid keys t d i u y =
      (λ y f. subst (λ (v : Channel). ShowsChannel k s guid keys t d i u v) (some_same new.0 y (sym new.1 ∙ f))
      (to new.0 new.2 (h.each k x e))) in
      record {
        counted = r.counted ∙ h.counted;
        each = λ j y f. here_at (j == k) j k i (conns j) u (wires j) y (same_number j k)
            (λ b. own y (subst (λ (v : ℕ). slice_get ys v ≡ Some y) (same_number j k b) f))
            (λ b. others j y (other_number j k b) (h.each j y (sym (r.there j (other_number j k b)) ∙ f)));
        beyond = λ j f. past_at (j == k) i (conns j) (d.ready j)
            (λ b. some_none new.0 (sym new.1 ∙ subst (λ (v : ℕ). slice_get ys v ≡ None) (same_number j k b) f))
            (λ b. (let p = h.beyond j (sym (r.there j (other_number j k b)) ∙ f) in
            (p.0, p.1, unready j (other_number j k b) p.2)));
      }

  -- each connection has become another one, whose ends are closed beyond the last one
  pub all_changed : (R : Channel → Channel → Type 0) (xs ys : List Channel) (conns : ℕ → Link) (wires : ℕ → Wires) (f : Link → Link)
      (g : Wires → Wires) → ChangedAll R xs ys
      → ((k : ℕ) (x y : Channel) → R x y → ShowsChannel k s guid keys t c (conns k) (wires k) x
      → ShowsChannel k s guid keys t d (f (conns k)) (g (wires k)) y)
      → ((k : ℕ) → Beyond (conns k) (c.ready k) → Beyond (f (conns k)) (d.ready k))
      → ShowsChannels s guid keys t c conns wires xs → ShowsChannels s guid keys t d (λ k. f (conns k)) (λ k. g (wires k)) ys
  all_changed R xs ys conns wires f g r to past h = record {
    counted = r.counted ∙ h.counted;
    each = λ k y e. (let one = r.each k y e in to k one.0 y one.2 (h.each k one.0 one.1));
    beyond = λ k e. past k (h.beyond k (r.past k e));
  }

-- ---- what is open in code is in the definitions

served_side : (k : ℕ) (guid : List ℕ) (there : Bool) (f : ServerEnd) (o : Option Conn) → ShowsServerSide k guid there f
    o → there ≡ is_some o
served_side k guid there f None h = h
served_side k guid there f (Some x) h = h.0

opened_side : (k : ℕ) (s : ClientConfig) (keys : Keys) (c : ChannelSeen) (there : Bool) (n : ClientEnd) (v : ClientSide)
    → ShowsClientSide k s keys c there n v → there ≡ is_open v
opened_side k s keys c there n Closed h = h.0
opened_side k s keys c there n (Talks d) h = h.0
opened_side k s keys c there n (Ready l) h = h.0

ready_side : (k : ℕ) (s : ClientConfig) (keys : Keys) (c : ChannelSeen) (there : Bool) (n : ClientEnd) (v : ClientSide)
    → ShowsClientSide k s keys c there n v → c.ready k ≡ is_ready v
ready_side k s keys c there n Closed h = h.1
ready_side k s keys c there n (Talks d) h = h.1.unready
ready_side k s keys c there n (Ready l) h = h.1.ready

module _ (s : ClientConfig) (guid : List ℕ) (keys : Keys) (t : ℕ) (c : ChannelSeen) (conns : ℕ → Link)
    (wires : ℕ → Wires) (xs : List Channel)
    (h : ShowsChannels s guid keys t c conns wires xs) where
  served_by : (k : ℕ) (o : Option Channel) → slice_get xs k ≡ o → (conns k).server_open ≡ served_in o
  served_by k None e = (h.beyond k e).1
  served_by k (Some x) e = served_side k guid (conns k).server_open (wires k).server_end x.server (h.each k x e).server

  pub is_served : (k : ℕ) → (conns k).server_open ≡ served_in (slice_get xs k)
  is_served k = served_by k (slice_get xs k) refl

  opened_by : (k : ℕ) (o : Option Channel) → slice_get xs k ≡ o → (conns k).client_open ≡ opened_in o
  opened_by k None e = (h.beyond k e).0
  opened_by k (Some x) e = opened_side k s keys c (conns k).client_open (wires k).client_end x.client (h.each k x e).client

  pub is_opened : (k : ℕ) → (conns k).client_open ≡ opened_in (slice_get xs k)
  is_opened k = opened_by k (slice_get xs k) refl

  ready_by : (k : ℕ) (o : Option Channel) → slice_get xs k ≡ o → c.ready k ≡ readied_in o
  ready_by k None e = (h.beyond k e).2
  ready_by k (Some x) e = ready_side k s keys c (conns k).client_open (wires k).client_end x.client (h.each k x e).client

  pub is_readied : (k : ℕ) → c.ready k ≡ readied_in (slice_get xs k)
  is_readied k = ready_by k (slice_get xs k) refl

-- there is one where its end is open
found : (o : Option Channel) → served_in o ≡ true → (x : Channel) × (o ≡ Some x)
found None e = absurd (cc)
found (Some x) e = (x, refl)

pub served_one : (xs : List Channel) (k : ℕ) → served_in (slice_get xs k) ≡ true → (x : Channel) × (slice_get xs k ≡ Some x)
served_one xs k e = found (slice_get xs k) e

found_open : (o : Option Channel) → opened_in o ≡ true → (x : Channel) × (o ≡ Some x)
found_open None e = absurd (cc)
found_open (Some x) e = (x, refl)

pub opened_one : (xs : List Channel) (k : ℕ) → opened_in (slice_get xs k) ≡ true → (x : Channel) × (slice_get xs k ≡ Some x)
opened_one xs k e = found_open (slice_get xs k) e
