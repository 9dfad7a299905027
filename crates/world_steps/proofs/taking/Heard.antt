-- A channel, and the world, behind a line that heard the front.
use Rattle.std.proofs.Common.{◌≡◌, ℕ, ◌==◌, not, Bool, true, false, if◌then◌else◌, refl, sym, ap, subst, ◌∙◌, arith}
use Rattle.std.proofs.Common.{List, [], ◌∷◌, length, slice_get, Option, Some, None}
use Rattle.std.proofs.lemmas.Bool.Decides.{nat_tests}
use Rattle.client_ends.specs.line_calls.Hearing.{IsLineOther, Unheard}
use Rattle.conn_core.specs.declared.conn.Conn.{Conn}
use Rattle.spec_exchange.specs.Network.{Conn as Link, ForAttach, ForDialog, ForOp, Received, Token, take_front}
use Rattle.spec_exchange.specs.Table.{is_filled, put}
use Rattle.client_ends.specs.declared.ends.config.ClientConfig.{ClientConfig}
use Rattle.client_ends.specs.declared.ends.line.Line.{Line}
use Rattle.spec_crypto.specs.declared.sessions.material.Keys.{Keys}
use Rattle.spec_world.specs.Dialog.{line_response, paid_in}
use Rattle.spec_world.specs.Messages.{HeardMessage}
use Rattle.spec_world.specs.Settings.{WorldSettings}
use Rattle.spec_world.specs.World as bytes
use Rattle.spec_world.specs.World.{Wires, behind_frame, cut_wires, line_heard, line_hears, op_heard, with_client_end}
use Rattle.world_ends.specs.Channels.{AreDown, AreUp, IsDown, ChannelSeen, ShowsChannel, ShowsChannels, ShowsClientSide}
use Rattle.world_ends.specs.Channels.{ShowsServerSide, seen_of}
use Rattle.world_ends.specs.Shown.{ShowsWorld}
use Rattle.world_ends.specs.declared.sides.Channel.{Channel}
use Rattle.world_ends.specs.declared.sides.ClientSide.{ClientSide}
use Rattle.world_ends.specs.declared.sides.ClientSide.TheVariants.{Ready}
use Rattle.world_ends.specs.declared.sides.Down.{Down}
use Rattle.world_ends.specs.declared.sides.Up.{Up}
use Rattle.world_ends.specs.declared.world.World.{World}
use Rattle.world_steps.specs.Lists.{ChangedAt}
use Rattle.world_steps.specs.taking.Replies.{TakeAnswered, TakeHearsAs, HearsAt}
use Rattle.world_steps.specs.declared.taking.hearing.Response.{Response}
use Rattle.world_steps.specs.sending.Sending.{token_for}

-- ---- the front of the lists

is_other : (n k : ℕ) → (n ≡ k → ⊥) → (n == k) ≡ false
is_other n k h = grind (arith, nat_tests)

not_empty : (d : Down) (ds : List Down) (n : ℕ) → n ≡ length (d ∷ ds) → n ≡ 0 → ⊥
not_empty d ds n e z = omega (arith, e, z)

-- whether a list is empty, by its length
pub filled_by : (ds : List Down) (n : ℕ) → n ≡ length ds → not (n == 0) ≡ is_filled ds
unfolding is_filled
filled_by [] n e = ap (λ (k : ℕ). not (k == 0)) e
filled_by (d ∷ ds) n e = ap not (is_other n 0 (not_empty d ds n e))

pub record Fronted (d : Down) (ds : List Down) (bs : List (List ℕ)) (ys : List Received) : Type 0 where
  pub frame : List ℕ
  pub frames : List (List ℕ)
  pub reply : Received
  pub replies : List Received
  pub frames_are : bs ≡ frame ∷ frames
  pub replies_are : ys ≡ reply ∷ replies
  pub front : IsDown d frame reply
  pub rest : AreDown ds frames replies

pub front_of : (d : Down) (ds : List Down) (bs : List (List ℕ)) (ys : List Received) → AreDown (d ∷ ds) bs ys → Fronted d ds bs ys
front_of d ds [] [] h = absurd h
front_of d ds [] (y ∷ ys) h = absurd h
front_of d ds (b ∷ bs) [] h = absurd h
front_of d ds (b ∷ bs) (y ∷ ys) h = record {
  frame = b;
  frames = bs;
  reply = y;
  replies = ys;
  frames_are = refl;
  replies_are = refl;
  front = h.0;
  rest = h.1;
}

-- ---- one channel

abbrev pub wires_behind : Wires → Option Response → Wires
wires_behind u None = u
wires_behind u (Some r) = record u { client_end = paid_in u.client_end r.header }

module _ (k : ℕ) (s : ClientConfig) (guid : List ℕ) (keys : Keys) (t : ℕ) (c : ChannelSeen) (i : Link) (u : Wires) (x y : Channel) where
  -- its side was ready
  pub was_ready : (o : Option Response) (r : HearsAt o x y) → ShowsChannel k s guid keys t c i u x
      → ShowsClientSide k s keys c i.client_open u.client_end (Ready r.client.before)
  was_ready o r h = subst (λ (v : ClientSide). ShowsClientSide k s keys c i.client_open u.client_end v) r.client.was h.client

  -- what the line heard
  pub line_heard_it : (o : Option Response) (r : HearsAt o x y) → ShowsChannel k s guid keys t c i u x
      → TakeHearsAs u.client_end (line_response u.client_end r.front.bytes.items) r.client.behind o
  line_heard_it o r h = r.client.hears.hears u.client_end (was_ready o r h).1.shown

  side_behind : (o : Option Response) (r : HearsAt o x y) → ShowsChannel k s guid keys t c i u x
      → ShowsClientSide k s keys c i.client_open (wires_behind u o).client_end (Ready r.client.behind)
  side_behind None r h =
      let was = was_ready None r h in
      (was.0, record { shown = (line_heard_it None r h).1; over = was.1.over; apart = was.1.apart; ready = was.1.ready })
  side_behind (Some a) r h =
      let was = was_ready (Some a) r h in
      (was.0, record { shown = (line_heard_it (Some a) r h).shown; over = was.1.over; apart = was.1.apart; ready = was.1.ready })

  server_behind : (o : Option Response) → ShowsServerSide k guid i.server_open u.server_end y.server
      → ShowsServerSide k guid i.server_open (wires_behind u o).server_end y.server
  server_behind None h = h
  server_behind (Some a) h = h

  up_behind : (o : Option Response) → AreUp t y.up.items u.up i.up → AreUp t y.up.items (wires_behind u o).up i.up
  up_behind None h = h
  up_behind (Some a) h = h

  down_behind : (o : Option Response) (bs : List (List ℕ)) (ys : List Received) → AreDown y.down.items bs ys
      → AreDown y.down.items (wires_behind (record u { down = bs }) o).down ys
  down_behind None bs ys h = h
  down_behind (Some a) bs ys h = h

  end_behind : (o : Option Response) (bs : List (List ℕ)) (v : ClientSide)
      → ShowsClientSide k s keys c i.client_open (wires_behind u o).client_end v
      → ShowsClientSide k s keys c i.client_open (wires_behind (record u { down = bs }) o).client_end v
  end_behind None bs v h = h
  end_behind (Some a) bs v h = h

  other_server : (o : Option Response) (bs : List (List ℕ)) → ShowsServerSide k guid i.server_open (wires_behind u o).server_end y.server
      → ShowsServerSide k guid i.server_open (wires_behind (record u { down = bs }) o).server_end y.server
  other_server None bs h = h
  other_server (Some a) bs h = h

  other_up : (o : Option Response) (bs : List (List ℕ)) → AreUp t y.up.items (wires_behind u o).up i.up
      → AreUp t y.up.items (wires_behind (record u { down = bs }) o).up i.up
  other_up None bs h = h
  other_up (Some a) bs h = h

  pub heard_on : (o : Option Response) (r : HearsAt o x y) (f : Fronted r.front y.down.items u.down i.down)
      → ShowsChannel k s guid keys t c i u x
      → ShowsChannel k s guid keys t c (take_front i f.replies) (wires_behind (record u { down = f.frames }) o) y
  heard_on o r f h = record {
    client = subst (λ (v : ClientSide). ShowsClientSide k s keys c i.client_open (wires_behind (record u {
      down = f.frames;
    }) o).client_end v)
        (sym r.client.becomes) (end_behind o f.frames (Ready r.client.behind) (side_behind o r h));
    server = other_server o f.frames (server_behind o
        (subst (λ (v : Option Conn). ShowsServerSide k guid i.server_open u.server_end v) (sym r.server) h.server));
    up = other_up o f.frames (up_behind o (subst (λ (v : List Up). AreUp t v u.up i.up) (sym r.up) h.up));
    down = down_behind o f.frames f.replies f.rest;
  }

  pub fronted_there : (o : Option Response) (r : HearsAt o x y) → ShowsChannel k s guid keys t c i u x
      → Fronted r.front y.down.items u.down i.down
  fronted_there o r h =
      front_of r.front y.down.items u.down i.down (subst (λ (v : List Down). AreDown v u.down i.down) r.down h.down)

-- ---- all channels

pub same_number : (n k : ℕ) → (n == k) ≡ true → n ≡ k
same_number n k h = grind (arith, nat_tests)

pub other_number : (n k : ℕ) → (n == k) ≡ false → n ≡ k → ⊥
other_number n k h e = grind (arith, nat_tests)

is_own : (n : ℕ) → (n == n) ≡ true
is_own n = grind (arith, nat_tests)

pub put_own : {X : Type 0} (f : ℕ → X) (k : ℕ) (v : X) → put f k v k ≡ v
put_own f k v = ap (λ (b : Bool). if b then v else f k) (is_own k)

pub put_other : {X : Type 0} (f : ℕ → X) (k : ℕ) (v : X) (j : ℕ) → (j ≡ k → ⊥) → put f k v j ≡ f j
put_other f k v j other = ap (λ (b : Bool). if b then v else f j) (is_other j k other)

some_same : (x y : Channel) → Some x ≡ Some y → x ≡ y
some_same x y e = cc

some_none : (x : Channel) → Some x ≡ None → ⊥
some_none x e = absurd (cc)

module _ (s : ClientConfig) (guid : List ℕ) (keys : Keys) (t : ℕ) (c : ChannelSeen) (conns conns' : ℕ → Link)
    (wires wires' : ℕ → Wires) where
  moved : (j : ℕ) (i : Link) (u : Wires) (y : Channel) → conns' j ≡ i → wires' j ≡ u → ShowsChannel j s guid keys t c i u y
      → ShowsChannel j s guid keys t c (conns' j) (wires' j) y
  moved j i u y e f h =
      subst (λ (v : Link). ShowsChannel j s guid keys t c v (wires' j) y) (sym e)
      (subst (λ (v : Wires). ShowsChannel j s guid keys t c i v y) (sym f) h)

  here_at : (b : Bool) (k j : ℕ) (y : Channel) → (b ≡ true → j ≡ k) → (b ≡ false → j ≡ k → ⊥)
      → (j ≡ k → ShowsChannel k s guid keys t c (conns' k) (wires' k) y)
      → ((j ≡ k → ⊥) → ShowsChannel j s guid keys t c (conns' j) (wires' j) y) → ShowsChannel j s guid keys t c (conns' j) (wires' j) y
  here_at true k j y is other p q =
      subst (λ (n : ℕ). ShowsChannel n s guid keys t c (conns' n) (wires' n) y) (sym (is refl)) (p (is refl))
  here_at false k j y is other p q = q (other refl)

  abbrev Beyond : Link → Bool → Type 0
  Beyond i ready = (i.client_open ≡ false) × (i.server_open ≡ false) × (ready ≡ false)

  past_at : (j : ℕ) → conns' j ≡ conns j
      → Beyond (conns j) (c.ready j) → Beyond (conns' j) (c.ready j)
  past_at j e h =
      (ap (λ (i : Link). i.client_open) e ∙ h.0, ap (λ (i : Link). i.server_open) e ∙ h.1, h.2)

  -- one has changed, at which the tables have other values
  pub rebuilt : (R : Channel → Channel → Type 0) (k : ℕ) (xs ys : List Channel) (x : Channel) (i : Link) (u : Wires) → ChangedAt R k xs ys
      → slice_get xs k ≡ Some x → conns' k ≡ i → wires' k ≡ u → ((j : ℕ) → (j ≡ k → ⊥) → conns' j ≡ conns j)
      → ((j : ℕ) → (j ≡ k → ⊥) → wires' j ≡ wires j)
      → ((y : Channel) → R x y → ShowsChannel k s guid keys t c (conns k) (wires k) x → ShowsChannel k s guid keys t c i u y)
      → ShowsChannels s guid keys t c conns wires xs → ShowsChannels s guid keys t c conns' wires' ys
  rebuilt R k xs ys x i u r e conn wire conns_stay wires_stay to h =
      let new = r.here x e in
      let own : (y : Channel) → slice_get ys k ≡ Some y → ShowsChannel k s guid keys t c (conns' k) (wires' k) y =
      (λ y f. moved k i u y conn wire
      (subst (λ (v : Channel). ShowsChannel k s guid keys t c i u v) (some_same new.0 y (sym new.1 ∙ f))
      (to new.0 new.2 (h.each k x e)))) in
      record {
        counted = r.counted ∙ h.counted;
        each = λ j y f. here_at (j == k) k j y (same_number j k) (other_number j k)
            (λ same. own y (subst (λ (v : ℕ). slice_get ys v ≡ Some y) same f))
            (λ other. moved j (conns j) (wires j) y (conns_stay j other) (wires_stay j other)
            (h.each j y (sym (r.there j other) ∙ f)));
        beyond = λ j f. (let other : j ≡ k → ⊥ =
            (λ same. some_none new.0 (sym new.1 ∙ subst (λ (v : ℕ). slice_get ys v ≡ None) same f)) in
            past_at j (conns_stay j other)
            (h.beyond j (sym (r.there j other) ∙ f)));
      }

-- ---- the world

abbrev pub world_behind : bytes.World → ℕ → Option Response → bytes.World
world_behind w k None = w
world_behind w k (Some r) = with_client_end w k (paid_in (w.wires k).client_end r.header)

wire_own : (w : bytes.World) (k : ℕ) (bs : List (List ℕ)) (ys : List Received) (o : Option Response)
    → (world_behind (behind_frame w k bs ys) k o).wires k ≡ wires_behind (record (w.wires k) { down = bs }) o
wire_own w k bs ys None = put_own w.wires k (record (w.wires k) { down = bs })
wire_own w k bs ys (Some r) =
    let v = behind_frame w k bs ys in
    put_own v.wires k (record (v.wires k) { client_end = paid_in (v.wires k).client_end r.header })
    ∙ ap (λ (u : Wires). record u { client_end = paid_in u.client_end r.header }) (put_own w.wires k (record (w.wires k) { down = bs }))

wire_other : (w : bytes.World) (k : ℕ) (bs : List (List ℕ)) (ys : List Received) (o : Option Response) (j : ℕ) → (j ≡ k → ⊥)
    → (world_behind (behind_frame w k bs ys) k o).wires j ≡ w.wires j
wire_other w k bs ys None j other = put_other w.wires k (record (w.wires k) { down = bs }) j other
wire_other w k bs ys (Some r) j other =
    let v = behind_frame w k bs ys in
    put_other v.wires k (record (v.wires k) { client_end = paid_in (v.wires k).client_end r.header }) j other
    ∙ put_other w.wires k (record (w.wires k) { down = bs }) j other

conns_of : (w : bytes.World) (k : ℕ) (bs : List (List ℕ)) (ys : List Received) (o : Option Response) (j : ℕ)
    → (world_behind (behind_frame w k bs ys) k o).values.conns j ≡ put w.values.conns k (take_front (w.values.conns k) ys) j
conns_of w k bs ys None j = refl
conns_of w k bs ys (Some r) j = refl

abbrev Popped : World → World → World
Popped x mid = record x { channels = mid.channels }

with_rest : (o : Option Response) (z : WorldSettings) (x mid : World) (w : bytes.World) (k : ℕ) (bs : List (List ℕ)) (ys : List Received)
    → ShowsChannels x.settings x.guid x.keys w.values.client.taken (seen_of w.values.client)
    (world_behind (behind_frame w k bs ys) k o).values.conns (world_behind (behind_frame w k bs ys) k o).wires mid.channels.items
    → ShowsWorld z x w → ShowsWorld z (Popped x mid) (world_behind (behind_frame w k bs ys) k o)
with_rest None z x mid w k bs ys c h = record {
  settings = h.settings;
  own = h.own;
  session = h.session;
  server = h.server;
  moment = h.moment;
  draws = h.draws;
  places = h.places;
  channels = c;
}
with_rest (Some r) z x mid w k bs ys c h = record {
  settings = h.settings;
  own = h.own;
  session = h.session;
  server = h.server;
  moment = h.moment;
  draws = h.draws;
  places = h.places;
  channels = c;
}

pub heard_world : (z : WorldSettings) (x mid : World) (w : bytes.World) (k : ℕ) (o : Option Response) (one : Channel)
    → (e : slice_get x.channels.items k ≡ Some one) → (r : ChangedAt (HearsAt o) k x.channels.items mid.channels.items)
    → (f : Fronted (r.here one e).2.front (r.here one e).0.down.items (w.wires k).down (w.values.conns k).down) → ShowsWorld z x w
    → ShowsWorld z (Popped x mid) (world_behind (behind_frame w k f.frames f.replies) k o)
heard_world z x mid w k o one e r f h =
    let c = seen_of w.values.client in
    let t = w.values.client.taken in
    let to = r.here one e in
    let behind = world_behind (behind_frame w k f.frames f.replies) k o in
    let i = take_front (w.values.conns k) f.replies in
    let u = wires_behind (record (w.wires k) { down = f.frames }) o in
    with_rest o z x mid w k f.frames f.replies
    (rebuilt x.settings x.guid x.keys t c w.values.conns behind.values.conns w.wires behind.wires (λ a b. b ≡ to.0) k x.channels.items
    mid.channels.items one i u
    (record {
      counted = r.counted;
      here = λ v g. (to.0, to.1, refl);
      there = r.there;
    }) e
    (conns_of w k f.frames f.replies o k ∙ put_own w.values.conns k i) (wire_own w k f.frames f.replies o)
    (λ j other. conns_of w k f.frames f.replies o j ∙ put_other w.values.conns k i j other) (wire_other w k f.frames f.replies o)
    (λ y is shown. subst (λ (v : Channel). ShowsChannel k x.settings x.guid x.keys t c i u v) (sym is)
    (heard_on k x.settings x.guid x.keys t c (w.values.conns k) (w.wires k) one to.0 o to.2 f shown)) h.channels) h

-- ---- what the definitions hear

token_heard : (w : bytes.World) (k : ℕ) (x : HeardMessage) (place g : ℕ) (asking : Bool)
    → line_heard w k x place (Some (token_for g asking)) ≡ op_heard w k g asking x place
token_heard w k x place g true = refl
token_heard w k x place g false = refl

other_heard : (w : bytes.World) (k : ℕ) (x : HeardMessage) (place : ℕ) (o : Option Token) → IsLineOther o
    → line_heard w k x place o ≡ cut_wires w k
other_heard w k x place None h = refl
other_heard w k x place (Some ForDialog) h = refl
other_heard w k x place (Some (ForOp g)) h = absurd h
other_heard w k x place (Some (ForAttach g)) h = absurd h

pub unheard_cuts : (w : bytes.World) (k place : ℕ) (due : Option HeardMessage) → Unheard (w.wires k).client_end due
    → line_hears w k place due ≡ cut_wires w k
unheard_cuts w k place None h = refl
unheard_cuts w k place (Some x) h = other_heard w k x place ((w.wires k).client_end.awaited x.header.message) h

pub answered_heard : (w : bytes.World) (k place : ℕ) (due : Option HeardMessage) (new : Line) (r : Response)
    → TakeAnswered (w.wires k).client_end due new r
    → line_hears w k place due ≡ op_heard w k r.number r.asking (record { header = r.header; bytes = r.message }) place
answered_heard w k place due new r a =
    let x : HeardMessage = record { header = r.header; bytes = r.message } in
    ap (λ (v : Option HeardMessage). line_hears w k place v) a.heard
    ∙ (ap (λ (v : Option Token). line_heard w k x place v) a.waits ∙ token_heard w k x place r.number r.asking)
