-- A world whose server took the front of what goes up.
use Rattle.std.proofs.Common.{◌≡◌, ℕ, ◌+◌, ◌++◌, ◌≤◌, Bool, true, false, if◌then◌else◌, refl, sym, ap, subst, ◌∙◌, List}
use Rattle.std.proofs.Common.{[], ◌∷◌, slice_get, Option, Some, None, is_some}
use Rattle.conn_core.specs.reply_frames.Joined.{AreAtMost}
use Rattle.conn_core.specs.reply_frames.Replying.{WalkGoes}
use Rattle.conn_core.specs.reply_sealing.Saying.{all_framed}
use Rattle.conn_core.specs.frame_events.Dealing.{taken_records}
use Rattle.conn_core.specs.declared.conn.Conn.{Conn}
use Rattle.spec_exchange.specs.Client.{Client}
use Rattle.spec_exchange.specs.Network.{Conn as Link, Received, Sent, Token, World as Values, behind_front, is_own, op_of, server_off}
use Rattle.spec_exchange.specs.Operations.{is_create}
use Rattle.spec_exchange.specs.Table.{put}
use Rattle.client_ends.specs.ends.Shown.{token_of}
use Rattle.client_ends.specs.declared.ends.config.ClientConfig.{ClientConfig}
use Rattle.spec_crypto.specs.declared.sessions.material.Keys.{Keys}
use Rattle.world_ends.specs.memory_server.Held.{HoldsBook}
use Rattle.spec_world.specs.Connection.{ConnectionStep, LastTaken}
use Rattle.spec_world.specs.Ends.{Logons, ServerEnd}
use Rattle.spec_world.specs.Notes.{has_acted}
use Rattle.spec_world.specs.Settings.{WorldSettings}
use Rattle.spec_world.specs.World as bytes
use Rattle.spec_world.specs.World.{Wires, answered_wires, last_reply, served_on, server_end_off, values_said, values_took}
use Rattle.world_ends.specs.Channels.{AreDown, AreUp, ChannelSeen, ShowsChannel, ShowsClientSide, ShowsServerSide, seen_of}
use Rattle.world_ends.specs.Places.{ChannelShowsPlaces}
use Rattle.world_ends.specs.Shown.{ShowsWorld}
use Rattle.world_ends.specs.Tests.{is_open}
use Rattle.world_ends.specs.declared.sides.Channel.{Channel}
use Rattle.world_ends.specs.declared.sides.ClientSide.{ClientSide}
use Rattle.world_ends.specs.declared.sides.Down.{Down}
use Rattle.world_ends.specs.declared.sides.Up.{Up}
use Rattle.world_ends.specs.declared.world.Places.{Places}
use Rattle.world_ends.specs.declared.world.World.{World}
use Rattle.world_steps.specs.serving.Fronted.{SaysBy}
use Rattle.world_steps.specs.serving.Noted.{ServeNotesBy}
use Rattle.world_steps.specs.declared.serving.fronts.Front.{Front}
use Rattle.world_steps.proofs.serving.Downs.{append_none, downs, replies}
use Rattle.world_steps.proofs.serving.Passing.{Passes}
use Rattle.world_steps.proofs.serving.Own.{server_of}
use Rattle.world_steps.proofs.serving.Placed.{noted}
use Rattle.world_steps.proofs.serving.Puts.{channels_alike}
use Rattle.world_steps.proofs.serving.Replied.{answered_conns, each_rest, took_conns, with_down}
use Rattle.world_steps.specs.Lists.{ChangedAt, ClosesServer}
use Rattle.world_steps.proofs.Closing.{one_changed}

-- ---- what it took stands, and the connections are aside

abbrev pub aside : bytes.World → ℕ → Token → List Sent → Option LastTaken → Logons → bytes.World
aside w k token xs o L = record w {
  values = record (values_took w.values k token xs o) { conns = w.values.conns };
  logons = L;
  draws = w.draws + 1;
}

abbrev pub Behind : World → World → World
Behind x y = record x { draws = y.draws; book = y.book; places = y.places; notes = y.notes }

pub took : (o : Option LastTaken) (z : WorldSettings) (x y : World) (w : bytes.World) (k n : ℕ) (xs : List Sent) (L : Logons)
    → y.draws ≡ x.draws + 1 → HoldsBook y.book z.server.users (server_of o w.values.server) L (w.values.records ++ taken_records o)
    → ServeNotesBy (is_some o) x.client x.places n (has_acted o) y.places → op_of (token_of n) ≤ w.values.client.taken → ShowsWorld z x w
    → ShowsWorld z (Behind x y) (aside w k (token_of n) xs o L)
took None z x y w k n xs L draws held notes below h = record {
  settings = h.settings;
  own = h.own;
  session = h.session;
  server = subst (λ l. HoldsBook y.book z.server.users w.values.server L l) (append_none w.values.records) held;
  moment = h.moment;
  draws = ap (λ (m : ℕ). m + 1) h.draws ∙ sym draws;
  places = subst (λ (p : Places). ChannelShowsPlaces p w.values.client.taken w.values.client.settled_by w.values.log.places w.values.log.who
      w.values.log.first w.values.log.birth) (sym notes) h.places;
  channels = h.channels;
}
took (Some t) z x y w k n xs L draws held notes below h =
    let c = w.values.client in
    let log = w.values.log in
    record {
      settings = h.settings;
      own = h.own;
      session = h.session;
      server = held;
      moment = h.moment;
      draws = ap (λ (m : ℕ). m + 1) h.draws ∙ sym draws;
      places = noted x.places y.places c.taken c.settled_by log.places log.who log.first log.birth (op_of (token_of n)) h.places
          (is_own (token_of n)) t.answer.acted (is_create (c.op (op_of (token_of n)))) below (notes c h.own.client below);
      channels = h.channels;
    }

-- ---- its end there closes

closed_one : (k : ℕ) (s : ClientConfig) (guid : List ℕ) (keys : Keys) (t : ℕ) (c : ChannelSeen) (i : Link) (u : Wires) (x y : Channel)
    (xs : List Sent) (e : ServerEnd) (bs : List (List ℕ)) → ClosesServer x y → ShowsChannel k s guid keys t c i u x
    → ShowsChannel k s guid keys t c (server_off (behind_front i xs)) (server_end_off (record u { server_end = e; up = bs })) y
closed_one k s guid keys t c i u x y xs e bs r h = record {
  client = subst (λ (v : ClientSide). ShowsClientSide k s keys c i.client_open u.client_end v) (sym r.client) h.client;
  server = subst (λ (v : Option Conn). ShowsServerSide k guid false e v) (sym r.server) refl;
  up = subst (λ (v : List Up). AreUp t v [] []) (sym r.up) tt;
  down = subst (λ (v : List Down). AreDown v u.down i.down) (sym r.down) h.down;
}

abbrev pub closed : bytes.World → ℕ → List (List ℕ) → Token → List Sent → Option LastTaken → Logons → ServerEnd → bytes.World
closed w k bs token xs o L e = record w {
  values = record (values_took w.values k token xs o) {
    conns = put w.values.conns k (server_off (behind_front (w.values.conns k) xs));
  };
  wires = put w.wires k (server_end_off (record (w.wires k) { server_end = e; up = bs }));
  logons = L;
  draws = w.draws + 1;
}

pub closes_off : (z : WorldSettings) (x y : World) (w : bytes.World) (k : ℕ) (token : Token) (bs : List (List ℕ)) (xs : List Sent)
    (o : Option LastTaken) (L : Logons) (e : ServerEnd) (one : Channel) (ys : List Channel) → ChangedAt ClosesServer k x.channels.items ys
    → slice_get x.channels.items k ≡ Some one → y.channels.items ≡ ys → ShowsWorld z (Behind x y) (aside w k token xs o L)
    → ShowsWorld z (record x {
      draws = y.draws;
      book = y.book;
      channels = y.channels;
      places = y.places;
      notes = y.notes;
    }) (closed w k bs token xs o L e)
closes_off z x y w k token bs xs o L e one ys r is same h =
    let v = (aside w k token xs o L).values in
    record {
      settings = h.settings;
      own = h.own;
      session = h.session;
      server = h.server;
      moment = h.moment;
      draws = h.draws;
      places = h.places;
      channels = one_changed x.settings x.guid x.keys v.client.taken (seen_of v.client) (seen_of v.client) ClosesServer k x.channels.items
          y.channels.items w.values.conns w.wires (server_off (behind_front (w.values.conns k) xs))
          (server_end_off (record (w.wires k) { server_end = e; up = bs })) one
          (subst (λ (l : List Channel). ChangedAt ClosesServer k x.channels.items l) (sym same) r) is
          (λ u shuts shown. closed_one k x.settings x.guid x.keys v.client.taken (seen_of v.client) (w.values.conns k)
          (w.wires k) one u xs e bs
          shuts shown) (λ j u other shown. shown) (λ j other ready. ready) h.channels;
    }

-- ---- or it goes on

down_by : (b : Bool) (place : ℕ) (answer : List ℕ) (frames : List (List ℕ)) (old new : List Down) (bs : List (List ℕ)) (rs : List Received)
    (y : Received) → y.place ≡ place → SaysBy b old place answer new → (b ≡ true → answer ≡ all_framed frames) → AreAtMost 1114112 frames
    → AreDown old bs rs → AreDown new (if b then bs ++ frames else bs) (if b then replies rs y frames else rs)
down_by true place answer frames old new bs rs y at says is short h = downs place answer frames old new bs rs y at says (is refl) short h
down_by false place answer frames old new bs rs y at says is short h = subst (λ (l : List Down). AreDown l bs rs) (sym says) h

going_one : (k : ℕ) (s : ClientConfig) (guid : List ℕ) (keys : Keys) (t : ℕ) (c : ChannelSeen) (i : Link) (u : Wires)
    (x v : Channel) (f : Front)
    (conn : Conn) (place : ℕ) (answer : List ℕ) (xs : List Sent) (bs : List (List ℕ)) (y : Received) (S : ConnectionStep)
    → Passes f conn place answer x v → i.client_open ≡ is_open x.client → i.server_open ≡ true → y.place ≡ place
    → WalkGoes k guid S answer conn → ((us : List Up) → x.up.items ≡ f.up ∷ us → AreUp t us bs xs) → ShowsChannel k s guid keys t c i u x
    → ShowsChannel k s guid keys t c (with_down (behind_front i xs) y S.frames) (answered_wires u i.client_open S.server_end bs S.frames) v
going_one k s guid keys t c i u x v f conn place answer xs bs y S r opened served at goes up h =
    let client : v.client ≡ x.client = r.goes.client ∙ r.taken.client in
    let says : SaysBy i.client_open x.down.items place answer v.down.items =
    subst (λ (b : Bool). SaysBy b x.down.items place answer v.down.items) (sym (opened ∙ ap is_open (sym r.taken.client)))
    (subst (λ (l : List Down). SaysBy (is_open r.mid.client) l place answer v.down.items) r.taken.down r.goes.down) in
    record {
      client = subst (λ (q : ClientSide). ShowsClientSide k s keys c i.client_open u.client_end q) (sym client) h.client;
      server = subst (λ (q : Option Conn). ShowsServerSide k guid i.server_open S.server_end q) (sym r.goes.server)
          (served, goes.behind, goes.bound);
      up = subst (λ (q : List Up). AreUp t q bs xs) (sym r.goes.up) (up r.mid.up.items r.taken.up);
      down = down_by i.client_open place answer S.frames x.down.items v.down.items u.down i.down y at says
          (λ e. goes.frames) goes.short h.down;
    }

pub goes_on : (z : WorldSettings) (x y : World) (w : bytes.World) (k : ℕ) (token : Token) (bs : List (List ℕ)) (xs : List Sent)
    (S : ConnectionStep) (one : Channel) (f : Front) (conn : Conn) (place : ℕ) (answer : List ℕ)
    → ChangedAt (λ u v. Passes f conn place answer u v) k x.channels.items y.channels.items → slice_get x.channels.items k ≡ Some one
    → (w.values.conns k).client_open ≡ is_open one.client → (w.values.conns k).server_open ≡ true → w.values.log.places ≡ place
    → WalkGoes k x.guid S answer conn → ((us : List Up) → one.up.items ≡ f.up ∷ us → AreUp w.values.client.taken us bs xs)
    → (aside w k token xs S.taken S.logons).values.client ≡ w.values.client
    → ShowsWorld z (Behind x y) (aside w k token xs S.taken S.logons)
    → ShowsWorld z (record x {
      draws = y.draws;
      book = y.book;
      channels = y.channels;
      places = y.places;
      notes = y.notes;
    }) (served_on w k bs xs token S)
goes_on z x y w k token bs xs S one f conn place answer r is opened served at goes up same h =
    let v = values_took w.values k token xs S.taken in
    let reply : Received = record { token = token; reply = last_reply S.taken; place = w.values.log.places } in
    let V = values_said w.values k token xs S in
    let i = with_down (behind_front (w.values.conns k) xs) reply S.frames in
    let u = answered_wires (w.wires k) (w.values.conns k).client_open S.server_end bs S.frames in
    let own : (us : List Up) → one.up.items ≡ f.up ∷ us → AreUp v.client.taken us bs xs =
    (λ us e. subst (λ (q : Client). AreUp q.taken us bs xs) (sym same) (up us e)) in
    subst (λ (q : Values). ShowsWorld z (record x {
      draws = y.draws;
      book = y.book;
      channels = y.channels;
      places = y.places;
      notes = y.notes;
    })
    (record (served_on w k bs xs token S) { values = q })) (sym (each_rest v k reply S.frames))
    (record {
      settings = h.settings;
      own = h.own;
      session = h.session;
      server = h.server;
      moment = h.moment;
      draws = h.draws;
      places = h.places;
      channels = channels_alike x.settings x.guid x.keys v.client.taken (seen_of v.client) (put w.values.conns k i)
          V.conns (put w.wires k u)
          (put w.wires k u) y.channels.items
          (answered_conns w.values v k xs reply S.frames (took_conns w.values k token xs S.taken)) (λ j. refl)
          (one_changed x.settings x.guid x.keys v.client.taken (seen_of v.client) (seen_of v.client)
          (λ p q. Passes f conn place answer p q) k
          x.channels.items y.channels.items w.values.conns w.wires i u one r is
          (λ q passes shown. going_one k x.settings x.guid x.keys v.client.taken (seen_of v.client) (w.values.conns k)
          (w.wires k) one q f conn
          place answer xs bs reply S passes opened served at goes own shown) (λ j q other shown. shown)
          (λ j other ready. ready) h.channels);
    })

pub took_client : (w : bytes.World) (k : ℕ) (token : Token) (xs : List Sent) (o : Option LastTaken) (L : Logons)
    → (aside w k token xs o L).values.client ≡ w.values.client
took_client w k token xs None L = refl
took_client w k token xs (Some t) L = refl
