-- The front of what goes up, or comes down, becomes another one.
use Rattle.std.proofs.Common.{◌≡◌, ℕ, suc, ◌+◌, ◌<◌, ◌^◌, ◌==◌, ◌&&◌, nat_lt, Bool, true, false, not, if◌then◌else◌}
use Rattle.std.proofs.Common.{refl, sym, ap, subst, ◌∙◌}
use Rattle.std.proofs.Common.{List, [], ◌∷◌, length, slice_get, Option, Some, None, arith}
use Rattle.std.proofs.lemmas.Bool.Decides.{nat_tests}
use Rattle.conn_core.specs.declared.conn.Conn.{Conn}
use Rattle.spec_exchange.specs.Network.{Conn as Link, Received, Sent}
use Rattle.spec_exchange.specs.State.{no_later}
use Rattle.spec_exchange.specs.Table.{is_filled, put}
use Rattle.client_ends.specs.ends.Shown.{token_of}
use Rattle.client_ends.specs.declared.ends.config.ClientConfig.{ClientConfig}
use Rattle.spec_crypto.specs.declared.sessions.material.Keys.{Keys}
use Rattle.spec_world.specs.Events.{Tamper, bytes_happen, bytes_later, tampered, with_front}
use Rattle.spec_world.specs.Notes as notes
use Rattle.spec_world.specs.Notes.{step_error}
use Rattle.spec_world.specs.Settings.{WorldSettings}
use Rattle.spec_world.specs.World as bytes
use Rattle.spec_world.specs.World.{Wires}
use Rattle.world_ends.specs.Channels.{AreDown, AreUp, ChannelSeen, ShowsChannel, ShowsChannels, ShowsClientSide, ShowsServerSide, seen_of}
use Rattle.world_ends.specs.Shown.{ShowsWorld}
use Rattle.world_ends.specs.declared.sides.Channel.{Channel}
use Rattle.world_ends.specs.declared.sides.ClientSide.{ClientSide}
use Rattle.world_ends.specs.declared.sides.Down.{Down}
use Rattle.world_ends.specs.declared.sides.Up.{Up}
use Rattle.world_ends.specs.declared.world.World.{World}
use Rattle.world_steps.specs.Changes.{ChangesDown, ChangesFront, ChangesUp, PutDown, PutUp, coming_in, coming_to, has_open_end}
use Rattle.world_steps.specs.Lists.{ChangedAt}
use Rattle.world_steps.proofs.Closing.{is_opened, is_served, one_changed, opened_one, same_number, served_one}
use Rattle.world_steps.proofs.Onward.{later_shown}

-- ---- connections whose values stay

put_same : {X : Type 0} (f : ℕ → X) (k j : ℕ) (b : Bool) → (b ≡ true → j ≡ k) → (if b then f k else f j) ≡ f j
put_same f k j true e = ap f (sym (e refl))
put_same f k j false e = refl

pub kept_put : {X : Type 0} (f : ℕ → X) (k j : ℕ) → put f k (f k) j ≡ f j
kept_put f k j = put_same f k j (j == k) (same_number j k)

pub values_stay : (s : ClientConfig) (guid : List ℕ) (keys : Keys) (t : ℕ) (c : ChannelSeen) (k : ℕ) (conns : ℕ → Link) (wires : ℕ → Wires)
    (xs : List Channel) → ShowsChannels s guid keys t c (put conns k (conns k)) wires xs → ShowsChannels s guid keys t c conns wires xs
values_stay s guid keys t c k conns wires xs h = record {
  counted = h.counted;
  each = λ j x e. subst (λ (i : Link). ShowsChannel j s guid keys t c i (wires j) x) (kept_put conns k j) (h.each j x e);
  beyond = λ j e. (let p = h.beyond j e in (
    sym (ap (λ (i : Link). i.client_open) (kept_put conns k j)) ∙ p.0,
    sym (ap (λ (i : Link). i.server_open) (kept_put conns k j)) ∙ p.1,
    p.2,
  ));
}

-- ---- the lists

above : (n : ℕ) → nat_lt 0 (suc n) ≡ true
above n = grind (arith, nat_tests)

pub some_filled : {X : Type 0} (xs : List X) → nat_lt 0 (length xs) ≡ is_filled xs
unfolding is_filled
some_filled [] = refl
some_filled (x ∷ xs) = above (length xs)

is_below : (m n : ℕ) → nat_lt m n ≡ true → m < n
is_below m n t = grind (arith, nat_tests)

short : (n : ℕ) (b : Bool) → b ≡ nat_lt n (2 ^ 60) → b ≡ true → n < 2 ^ 60
short n b e f = is_below n (2 ^ 60) (sym e ∙ f)

pub is_put_up : (us : List Up) (q : Up) (vs : List Up) (b : Bool) → vs ≡ q ∷ us → b ≡ nat_lt (length q.bytes.items) (2 ^ 60)
    → b ≡ true → PutUp us q.token q.bytes.items vs
is_put_up us q vs b e told small =
    subst (λ (v : List Up). PutUp us q.token q.bytes.items v) (sym e) (refl, refl, short (length q.bytes.items) b told small, refl)

pub is_put_down : (ds : List Down) (q : Down) (vs : List Down) (b : Bool) → vs ≡ q ∷ ds → b ≡ nat_lt (length q.bytes.items) (2 ^ 60)
    → b ≡ true → PutDown ds q.place q.bytes.items vs
is_put_down ds q vs b e told small =
    subst (λ (v : List Down). PutDown ds q.place q.bytes.items v) (sym e) (refl, refl, short (length q.bytes.items) b told small, refl)

-- of what was a front and a rest
pub changes_up : (f : List ℕ → List ℕ) (us : List Up) (p : Up) (ps vs : List Up) → us ≡ p ∷ ps → PutUp ps p.token (f p.bytes.items) vs
    → ChangesUp f us vs
changes_up f us p ps vs e r = subst (λ (v : List Up). ChangesUp f v vs) (sym e) r

pub changes_down : (f : List ℕ → List ℕ) (ds : List Down) (p : Down) (ps vs : List Down) → ds ≡ p ∷ ps
    → PutDown ps p.place (f p.bytes.items) vs → ChangesDown f ds vs
changes_down f ds p ps vs e r = subst (λ (v : List Down). ChangesDown f v vs) (sym e) r

put_up : (t token : ℕ) (bytes b : List ℕ) (ps us : List Up) (bs : List (List ℕ)) (y : Sent) (xs : List Sent) → PutUp ps token bytes us
    → ((q : Up) → q.token ≡ token → q.bytes.items ≡ bytes → length q.bytes.items < 2 ^ 60 → AreUp t (q ∷ ps) (b ∷ bs) (y ∷ xs))
    → AreUp t us (b ∷ bs) (y ∷ xs)
put_up t token bytes b ps [] bs y xs r f = absurd r
put_up t token bytes b ps (q ∷ qs) bs y xs r f =
    subst (λ (v : List Up). AreUp t (q ∷ v) (b ∷ bs) (y ∷ xs)) (sym r.3) (f q r.0 r.1 r.2)

shorter : (q b : List ℕ) → q ≡ b → length q < 2 ^ 60 → length b < 2 ^ 60
shorter q b e l = subst (λ (v : List ℕ). length v < 2 ^ 60) e l

changed_up : (t : ℕ) (f : List ℕ → List ℕ) (us vs : List Up) (bs : List (List ℕ)) (xs : List Sent) → ChangesUp f us vs → AreUp t us bs xs
    → AreUp t vs (with_front f bs) xs
changed_up t f [] vs bs xs r h = absurd r
changed_up t f (p ∷ ps) vs [] [] r h = absurd h
changed_up t f (p ∷ ps) vs [] (y ∷ xs) r h = absurd h
changed_up t f (p ∷ ps) vs (b ∷ bs) [] r h = absurd h
changed_up t f (p ∷ ps) vs (b ∷ bs) (y ∷ xs) r h =
    put_up t p.token (f p.bytes.items) (f b) ps vs bs y xs r
    (λ q token bytes short. (let is : q.bytes.items ≡ f b = bytes ∙ ap f (sym h.0.bytes) in (
      record {
        bytes = sym is;
        token = h.0.token ∙ ap token_of (sym token);
        below = h.0.below;
        short = shorter q.bytes.items (f b) is short;
      },
      h.1,
    )))

put_down : (place : ℕ) (bytes b : List ℕ) (ps ds : List Down) (bs : List (List ℕ)) (y : Received) (ys : List Received)
    → PutDown ps place bytes ds
    → ((q : Down) → q.place ≡ place → q.bytes.items ≡ bytes → length q.bytes.items < 2 ^ 60 → AreDown (q ∷ ps) (b ∷ bs) (y ∷ ys))
    → AreDown ds (b ∷ bs) (y ∷ ys)
put_down place bytes b ps [] bs y ys r f = absurd r
put_down place bytes b ps (q ∷ qs) bs y ys r f =
    subst (λ (v : List Down). AreDown (q ∷ v) (b ∷ bs) (y ∷ ys)) (sym r.3) (f q r.0 r.1 r.2)

changed_down : (f : List ℕ → List ℕ) (us vs : List Down) (bs : List (List ℕ)) (ys : List Received) → ChangesDown f us vs
    → AreDown us bs ys → AreDown vs (with_front f bs) ys
changed_down f [] vs bs ys r h = absurd r
changed_down f (p ∷ ps) vs [] [] r h = absurd h
changed_down f (p ∷ ps) vs [] (y ∷ ys) r h = absurd h
changed_down f (p ∷ ps) vs (b ∷ bs) [] r h = absurd h
changed_down f (p ∷ ps) vs (b ∷ bs) (y ∷ ys) r h =
    put_down p.place (f p.bytes.items) (f b) ps vs bs y ys r
    (λ q place bytes short. (let is : q.bytes.items ≡ f b = bytes ∙ ap f (sym h.0.bytes) in
    (record { bytes = sym is; place = h.0.place ∙ sym place; short = shorter q.bytes.items (f b) is short }, h.1)))

-- ---- one connection

abbrev front_changed : Bool → (List ℕ → List ℕ) → Wires → Wires
front_changed up f u = if up then record u { up = with_front f u.up } else record u { down = with_front f u.down }

module _ (k : ℕ) (s : ClientConfig) (guid : List ℕ) (keys : Keys) (t : ℕ) (c : ChannelSeen) (i : Link) (u : Wires)
    (f : List ℕ → List ℕ) (x y : Channel)
    (h : ShowsChannel k s guid keys t c i u x) where
  one_tampered : (up : Bool) → ChangesFront up f x y → ShowsChannel k s guid keys t c i (front_changed up f u) y
  one_tampered true r = record {
    client = subst (λ (v : ClientSide). ShowsClientSide k s keys c i.client_open u.client_end v) (sym r.0) h.client;
    server = subst (λ (v : Option Conn). ShowsServerSide k guid i.server_open u.server_end v) (sym r.1) h.server;
    up = changed_up t f x.up.items y.up.items u.up i.up r.3 h.up;
    down = subst (λ (v : List Down). AreDown v u.down i.down) (sym r.2) h.down;
  }
  one_tampered false r = record {
    client = subst (λ (v : ClientSide). ShowsClientSide k s keys c i.client_open u.client_end v) (sym r.0) h.client;
    server = subst (λ (v : Option Conn). ShowsServerSide k guid i.server_open u.server_end v) (sym r.1) h.server;
    up = subst (λ (v : List Up). AreUp t v u.up i.up) (sym r.2) h.up;
    down = changed_down f x.down.items y.down.items u.down i.down r.3 h.down;
  }

-- ---- the whole

heard_one : (xs : List Channel) (k : ℕ) (up : Bool) → has_open_end up (slice_get xs k) ≡ true → (x : Channel) × (slice_get xs k ≡ Some x)
heard_one xs k true e = served_one xs k e
heard_one xs k false e = opened_one xs k e

tampered_built : (z : WorldSettings) (x y : World) (w : bytes.World) (k : ℕ) (up : Bool) (f : List ℕ → List ℕ)
    → ChangedAt (ChangesFront up f) k x.channels.items y.channels.items → has_open_end up (slice_get x.channels.items k) ≡ true
    → ShowsWorld z x w → ShowsWorld z (record x { channels = y.channels }) (tampered w k up f)
tampered_built z x y w k up f r there h =
    let t = w.values.client.taken in
    let c = seen_of w.values.client in
    let one = heard_one x.channels.items k up there in
    record {
      settings = h.settings;
      own = h.own;
      session = h.session;
      server = h.server;
      moment = h.moment;
      draws = h.draws;
      places = h.places;
      channels = values_stay x.settings x.guid x.keys t c k w.values.conns (put w.wires k (front_changed up f (w.wires k))) y.channels.items
          (one_changed x.settings x.guid x.keys t c c (ChangesFront up f) k x.channels.items y.channels.items w.values.conns w.wires
          (w.values.conns k) (front_changed up f (w.wires k)) one.0 r one.1
          (λ v changed shown. one_tampered k x.settings x.guid x.keys t c (w.values.conns k) (w.wires k) f one.0 v shown up changed)
          (λ j v other shown. shown) (λ j other ready. ready) h.channels);
    }

-- ---- what is open and on its way in code is in the definitions

pub filled_up : (t : ℕ) (us : List Up) (bs : List (List ℕ)) (xs : List Sent) → AreUp t us bs xs → is_filled bs ≡ is_filled us
unfolding is_filled
filled_up t [] [] [] h = refl
filled_up t (p ∷ us) (b ∷ bs) (x ∷ xs) h = refl
filled_up t [] [] (x ∷ xs) h = absurd h
filled_up t [] (b ∷ bs) [] h = absurd h
filled_up t [] (b ∷ bs) (x ∷ xs) h = absurd h
filled_up t (p ∷ us) [] [] h = absurd h
filled_up t (p ∷ us) [] (x ∷ xs) h = absurd h
filled_up t (p ∷ us) (b ∷ bs) [] h = absurd h

pub filled_down : (ds : List Down) (bs : List (List ℕ)) (ys : List Received) → AreDown ds bs ys → is_filled bs ≡ is_filled ds
unfolding is_filled
filled_down [] [] [] h = refl
filled_down (p ∷ ds) (b ∷ bs) (x ∷ ys) h = refl
filled_down [] [] (x ∷ ys) h = absurd h
filled_down [] (b ∷ bs) [] h = absurd h
filled_down [] (b ∷ bs) (x ∷ ys) h = absurd h
filled_down (p ∷ ds) [] [] h = absurd h
filled_down (p ∷ ds) [] (x ∷ ys) h = absurd h
filled_down (p ∷ ds) (b ∷ bs) [] h = absurd h

abbrev pub is_heard : Bool → Link → Bool
is_heard up i = if up then i.server_open else i.client_open

abbrev pub is_there : Bool → Wires → Bool
is_there up u = if up then is_filled u.up else is_filled u.down

module _ (z : WorldSettings) (x : World) (w : bytes.World) (k : ℕ) (h : ShowsWorld z x w) where
  pub heard_is : (up : Bool) → is_heard up (w.values.conns k) ≡ has_open_end up (slice_get x.channels.items k)
  heard_is true =
      is_served x.settings x.guid x.keys w.values.client.taken (seen_of w.values.client) w.values.conns w.wires
      x.channels.items h.channels k
  heard_is false =
      is_opened x.settings x.guid x.keys w.values.client.taken (seen_of w.values.client) w.values.conns w.wires
      x.channels.items h.channels k

  coming_one : (up : Bool) (o : Channel) → slice_get x.channels.items k ≡ Some o → is_there up (w.wires k) ≡ coming_to up o
  coming_one true o e = (let s = h.channels.each k o e in
      filled_up w.values.client.taken o.up.items (w.wires k).up (w.values.conns k).up s.up)
  coming_one false o e = (let s = h.channels.each k o e in filled_down o.down.items (w.wires k).down (w.values.conns k).down s.down)

  -- of a connection whose end is open
  pub coming_is : (up : Bool) → has_open_end up (slice_get x.channels.items k) ≡ true
      → is_there up (w.wires k) ≡ coming_in up (slice_get x.channels.items k)
  coming_is up there =
      let one = heard_one x.channels.items k up there in
      coming_one up one.0 one.1 ∙ ap (λ (o : Option Channel). coming_in up o) (sym one.1)

-- ---- the event, by what was tested

abbrev tampered_if : Bool → Bool → bytes.World → ℕ → Bool → (List ℕ → List ℕ) → bytes.World
tampered_if a b w k up f = if a && b then bytes_later (tampered w k up f) 1 else w

abbrev error_if : Bool → Bool → ℕ → Option notes.WorldError
error_if a b k = if not a then Some (notes.NoChannel k) else if b then None else Some (notes.NothingThere k)

-- the definitions' tests, for both ways
tested : (z : WorldSettings) (w : bytes.World) (k : ℕ) (up : Bool) (f : List ℕ → List ℕ)
    → bytes_happen z w (Tamper k up f) ≡ tampered_if (is_heard up (w.values.conns k)) (is_there up (w.wires k)) w k up f
tested z w k true f = refl
tested z w k false f = refl

told : (w : bytes.World) (k : ℕ) (up : Bool) (f : List ℕ → List ℕ)
    → step_error w (Tamper k up f) ≡ error_if (is_heard up (w.values.conns k)) (is_there up (w.wires k)) k
told w k true f = refl
told w k false f = refl

error_is : (w : bytes.World) (k : ℕ) (up : Bool) (f : List ℕ → List ℕ) (a b : Bool) → is_heard up (w.values.conns k) ≡ a
    → is_there up (w.wires k) ≡ b → step_error w (Tamper k up f) ≡ error_if a b k
error_is w k up f a b d e =
    told w k up f ∙ (ap (λ (v : Bool). error_if v (is_there up (w.wires k)) k) d ∙ ap (λ (v : Bool). error_if a v k) e)

pub tampers : (z : WorldSettings) (x y v : World) (w : bytes.World) (k : ℕ) (up : Bool) (f : List ℕ → List ℕ)
    → ChangedAt (ChangesFront up f) k x.channels.items y.channels.items → has_open_end up (slice_get x.channels.items k) ≡ true
    → coming_in up (slice_get x.channels.items k) ≡ true → v ≡ record (record x { channels = y.channels }) { moment = v.moment }
    → v.moment ≡ no_later (x.moment + 1) → ShowsWorld z x w
    → (step_error w (Tamper k up f) ≡ None) × ShowsWorld z v (bytes_happen z w (Tamper k up f))
tampers z x y v w k up f r heard coming late time h =
    let a : is_heard up (w.values.conns k) ≡ true = heard_is z x w k h up ∙ heard in
    let b : is_there up (w.wires k) ≡ true = coming_is z x w k h up heard ∙ coming in
    let shown : ShowsWorld z v (tampered_if true true w k up f) =
    later_shown z (record x { channels = y.channels }) v (tampered w k up f) 1 late time (tampered_built z x y w k up f r heard h) in (
      error_is w k up f true true a b,
      subst (λ (n : bytes.World). ShowsWorld z v n) (sym (tested z w k up f))
          (subst (λ (m : Bool). ShowsWorld z v (tampered_if m (is_there up (w.wires k)) w k up f)) (sym a)
          (subst (λ (m : Bool). ShowsWorld z v (tampered_if true m w k up f)) (sym b) shown)),
    )

pub not_heard : (z : WorldSettings) (x : World) (w : bytes.World) (k : ℕ) (up : Bool) (f : List ℕ → List ℕ)
    → has_open_end up (slice_get x.channels.items k) ≡ false → ShowsWorld z x w
    → (step_error w (Tamper k up f) ≡ Some (notes.NoChannel k)) × ShowsWorld z x w
not_heard z x w k up f e h = (error_is w k up f false (is_there up (w.wires k)) (heard_is z x w k h up ∙ e) refl, h)

pub nothing_there : (z : WorldSettings) (x : World) (w : bytes.World) (k : ℕ) (up : Bool) (f : List ℕ → List ℕ)
    → has_open_end up (slice_get x.channels.items k) ≡ true → coming_in up (slice_get x.channels.items k) ≡ false → ShowsWorld z x w
    → (step_error w (Tamper k up f) ≡ Some (notes.NothingThere k)) × ShowsWorld z x w
nothing_there z x w k up f heard e h =
    (error_is w k up f true false (heard_is z x w k h up ∙ heard) (coming_is z x w k h up heard ∙ e), h)
