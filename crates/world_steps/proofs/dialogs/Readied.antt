-- A dialog ends well: its channel is ready where the client takes it so, and else its connection counts as failed.
use Rattle.std.proofs.Common.{◌≡◌, ℕ, ◌<◌, ◌==◌, Bool, true, false, not, if◌then◌else◌, refl, sym, ap, subst, ◌∙◌, arith}
use Rattle.std.proofs.Common.{List, [], slice_get, Option, Some, None, is_some}
use Rattle.std.proofs.lemmas.Bool.Decides.{nat_tests}
use Rattle.client_steps.specs.whole_client.Shown.{ShowsClient}
use Rattle.client_steps.specs.declared.whole_client.client.Client.{Client as Core}
use Rattle.client_events.specs.declared.event_calls.steps.Event.TheVariants as happens
use Rattle.law_client.proofs.table.Events.{keeps}
use Rattle.law_client.specs.table.Kept.{TableKept}
use Rattle.client_events.specs.world_law.Asking.{AsksFit}
use Rattle.client_events.proofs.world_law.Events.{asks_on}
use Rattle.conn_core.specs.declared.conn.Conn.{Conn}
use Rattle.spec_exchange.specs.Client.{Apart, Client, begin_session, bind_channel, leave_dialog, unmade}
use Rattle.spec_exchange.specs.ClientStep.{Act, CloseChannel, IsReady, Nothing, act, becomes_ready, client_after}
use Rattle.spec_exchange.specs.Network.{Conn as Link, client_off, closed_by, with_client}
use Rattle.spec_exchange.specs.Table.{put}
use Rattle.client_ends.specs.ends.Shown.{ShowsLine}
use Rattle.client_ends.specs.declared.ends.config.Bound.{Bound}
use Rattle.client_ends.specs.declared.ends.dialog.Dialog.{Dialog}
use Rattle.client_ends.specs.declared.ends.line.Line.{Line}
use Rattle.spec_world.specs.Answering.{Ending}
use Rattle.spec_world.specs.Ends.{ClientEnd}
use Rattle.spec_world.specs.Settings.{WorldSettings}
use Rattle.spec_world.specs.World as bytes
use Rattle.spec_world.specs.World.{Wires, client_end_off, closed_wires, with_values}
use Rattle.world_ends.specs.Channels.{AreDown, AreUp, IsChannelFor, ShowsChannel, ShowsChannels, ShowsClientSide, ShowsServerSide, seen_of}
use Rattle.world_ends.specs.Shown.{ShowsOwn, ShowsWorld}
use Rattle.world_ends.specs.declared.sides.Channel.{Channel}
use Rattle.world_ends.specs.declared.sides.ClientSide.{ClientSide}
use Rattle.world_ends.specs.declared.sides.Down.{Down}
use Rattle.world_ends.specs.declared.sides.Up.{Up}
use Rattle.world_ends.specs.declared.world.World.{World}
use Rattle.world_steps.specs.opening.Putting.{Becomes}
use Rattle.world_steps.specs.Lists.{ChangedAt}
use Rattle.world_steps.proofs.Alike.{seen_alike}
use Rattle.world_steps.proofs.Closing.{one_changed}
use Rattle.world_steps.specs.dialogs.Turned.{TalkEndsBy, IsTalkLeft, closes_one}
use Rattle.world_steps.proofs.dialogs.Faces.{Faces}
use Rattle.world_steps.proofs.dialogs.Near.{Near, put_here, put_last, put_same, put_there, seen_near}
use Rattle.world_steps.proofs.dialogs.Off.{behind_leave, leave_alike, some_made}
use Rattle.world_steps.proofs.dialogs.Popped.{facing}
use Rattle.world_steps.proofs.dialogs.Said.{alone, here, talk}

false_true : false ≡ true → ⊥
false_true e = absurd (cc)

own_number : (n : ℕ) → (n == n) ≡ true
own_number n = grind (arith, nat_tests)

unmade_own : (k : ℕ) (m : Option ℕ) → m ≡ Some k → None ≡ unmade k m
unmade_own k m e = sym (ap (unmade k) e ∙ ap (λ (b : Bool). if b then None else Some k) (own_number k))

unmade_none : (k : ℕ) (m : Option ℕ) → m ≡ None → m ≡ unmade k m
unmade_none k m e = e ∙ ap (unmade k) (sym e)

none_live : (m : Option ℕ) (live : Bool) → live ≡ true → (is_some m ≡ true → live ≡ false) → m ≡ None
none_live None live e f = refl
none_live (Some j) live e f = absurd (false_true (sym (f refl) ∙ e))

no_some : (k : ℕ) (m : Option ℕ) {P : Type 0} → None ≡ unmade k m → is_some (unmade k m) ≡ true → P
no_some k m e s = absurd (false_true (ap (λ (o : Option ℕ). is_some o) e ∙ s))

fails_as : (b : Bool) → closes_one (if b then Nothing else CloseChannel) ≡ not b
fails_as true = refl
fails_as false = refl

module _ (z : WorldSettings) (x : World) (w : bytes.World) (k : ℕ) (d : Dialog) (rest : Channel) (xs : List Channel) (f : Faces z x xs w)
    (there : slice_get xs k ≡ Some (facing d rest)) (session tree : ℕ) where
  -- ---- the client behind it

  abbrev taken_in : Bool → Client
  taken_in live = if live then bind_channel w.values.client k else begin_session w.values.client k session tree

  abbrev client_by : Bool → Client
  client_by b = if b then taken_in w.values.client.live else leave_dialog w.values.client k

  made_here : (o : Option Bound) → IsChannelFor k x.keys (seen_of w.values.client) d o → w.values.client.live ≡ false
      → w.values.client.making ≡ Some k
  made_here None own dead = own.making
  made_here (Some b) own dead = absurd (false_true (sym dead ∙ own.live))

  making_by : (live : Bool) → w.values.client.live ≡ live → (taken_in live).making ≡ unmade k x.making
  making_by true e =
      f.own.making_is ∙ unmade_none k x.making (none_live x.making w.values.client.live e f.own.apart)
  making_by false e =
      unmade_own k x.making (sym f.own.making_is ∙ made_here d.bound (talk z x w k d rest xs f there).own e)

  none_behind : (live : Bool) → w.values.client.live ≡ live → None ≡ unmade k x.making
  none_behind true e =
      let none = none_live x.making w.values.client.live e f.own.apart in
      sym none ∙ unmade_none k x.making none
  none_behind false e =
      unmade_own k x.making (sym f.own.making_is ∙ made_here d.bound (talk z x w k d rest xs f there).own e)

  own_taken : (live : Bool) (y : Core) → w.values.client.live ≡ live → ShowsClient y (taken_in live) → TableKept (taken_in live)
      → AsksFit (taken_in live) → ShowsOwn z y x.accepted (unmade k x.making) (taken_in live)
  own_taken true y e s kept asks = record {
    client = s;
    kept = kept;
    asks = asks;
    who = f.own.who;
    accepted_is = f.own.accepted_is;
    making_is = making_by true e;
    apart = λ q. no_some k x.making (none_behind true e) q;
  }
  own_taken false y e s kept asks = record {
    client = s;
    kept = kept;
    asks = asks;
    who = f.own.who;
    accepted_is = f.own.accepted_is;
    making_is = making_by false e;
    apart = λ q. no_some k x.making (none_behind false e) q;
  }

  near_by : (live : Bool) → w.values.client.live ≡ live → (j : ℕ) → (j ≡ k → ⊥)
      → Near j (seen_of w.values.client) (seen_of (taken_in live))
  near_by true e j other = record {
    making = alone z x w k d rest xs f there j other;
    ready = put_there w.values.client.ready k true j other;
    stage = put_there w.values.client.stage k Apart j other;
    live = λ q. q;
    session = λ q. refl;
    tree = λ q. refl;
  }
  near_by false e j other = record {
    making = alone z x w k d rest xs f there j other;
    ready = put_there w.values.client.ready k true j other;
    stage = put_there w.values.client.stage k Apart j other;
    live = λ q. refl;
    session = λ q. absurd (false_true (sym e ∙ q));
    tree = λ q. absurd (false_true (sym e ∙ q));
  }

  ready_near : (live : Bool) → w.values.client.live ≡ live → (j : ℕ) → (j ≡ k → ⊥) → w.values.client.ready j ≡ false
      → (taken_in live).ready j ≡ false
  ready_near true e j other unready = put_there w.values.client.ready k true j other ∙ unready
  ready_near false e j other unready = put_there w.values.client.ready k true j other ∙ unready

  ready_here : (live : Bool) → (taken_in live).ready k ≡ true
  ready_here true = put_here w.values.client.ready k true
  ready_here false = put_here w.values.client.ready k true

  apart_here : (live : Bool) → (taken_in live).stage k ≡ Apart
  apart_here true = put_here w.values.client.stage k Apart
  apart_here false = put_here w.values.client.stage k Apart

  -- ---- the definitions' step

  abbrev wires_at : ClientEnd → Wires
  wires_at n = record (w.wires k) { client_end = n }

  abbrev pub ended_with : ClientEnd → ℕ → List Ending → Act → Client → bytes.World
  ended_with n numbers made told c =
      with_values (closed_wires (record w { wires = put w.wires k (wires_at n); numbers = numbers; accepted = made }) k told)
      (with_client (closed_by w.values k told) c)

  -- ---- the channel is ready

  taken_here : (live : Bool) (n : ClientEnd) (line : Line) (v : Channel) → ShowsLine line n → n.stage ≡ Apart → IsTalkLeft rest line false v
      → ShowsChannel k x.settings x.guid x.keys w.values.client.taken (seen_of (taken_in live)) (w.values.conns k) (wires_at n) v
  taken_here live n line v shown over t =
      let old = here z x w k d rest xs f there in
      record {
        client = subst (λ (o : ClientSide). ShowsClientSide k x.settings x.keys (seen_of (taken_in live))
            (w.values.conns k).client_open n o)
            (sym t.client.0) (
              old.client.0,
              record {
                shown = shown;
                over = over;
                apart = apart_here live;
                ready = ready_here live;
              },
            );
        server = subst (λ (o : Option Conn). ShowsServerSide k x.guid (w.values.conns k).server_open
            (w.wires k).server_end o) (sym t.server)
            old.server;
        up = subst (λ (o : List Up). AreUp w.values.client.taken o (w.wires k).up (w.values.conns k).up) (sym t.up) old.up;
        down = subst (λ (o : List Down). AreDown o (w.wires k).down (w.values.conns k).down) (sym t.client.1) old.down;
      }

  channels_taken : (live : Bool) → w.values.client.live ≡ live → (n : ClientEnd) (line : Line) (v : Channel) (ys : List Channel)
      → ShowsLine line n → n.stage ≡ Apart → IsTalkLeft rest line false v → ChangedAt (Becomes v) k xs ys
      → ShowsChannels x.settings x.guid x.keys w.values.client.taken (seen_of (taken_in live)) w.values.conns
      (put w.wires k (wires_at n)) ys
  channels_taken live e n line v ys shown over t placed =
      let s = seen_of w.values.client in
      let q = seen_of (taken_in live) in
      let u = wires_at n in
      subst (λ (o : ℕ → Link). ShowsChannels x.settings x.guid x.keys w.values.client.taken q o (put w.wires k u) ys)
      (put_same w.values.conns k)
      (one_changed x.settings x.guid x.keys w.values.client.taken s q (Becomes v) k xs ys w.values.conns w.wires (w.values.conns k) u
      (facing d rest) placed there
      (λ o becomes old. subst (λ (i : Channel). ShowsChannel k x.settings x.guid x.keys w.values.client.taken q (w.values.conns k) u i)
      (sym becomes) (taken_here live n line v shown over t))
      (λ j o other old. seen_near j x.settings x.guid x.keys w.values.client.taken s q (w.values.conns j) (w.wires j) o
      (near_by live e j other) old) (λ j other unready. ready_near live e j other unready) f.channels)

  taken_built : (live : Bool) → w.values.client.live ≡ live → (n : ClientEnd) (numbers count : ℕ) (made : List Ending) (line : Line)
      (v : Channel) (y : World) → (0 < numbers → w.keys ≡ x.keys) → numbers ≡ count → ShowsLine line n → n.stage ≡ Apart
      → IsTalkLeft rest line false v
      → ChangedAt (Becomes v) k xs y.channels.items → ShowsClient y.client (taken_in live) → TableKept (taken_in live)
      → AsksFit (taken_in live)
      → ShowsWorld z (record x { client = y.client; making = unmade k x.making; channels = y.channels; numbers = count })
      (ended_with n numbers made Nothing (taken_in live))
  taken_built true e n numbers count made line v y same_keys counts shown over t placed s kept asks = record {
    settings = f.settings;
    own = own_taken true y.client e s kept asks;
    session = record {
      keys_are = same_keys;
      known = f.session.known;
      encrypts_is = f.session.encrypts_is;
      numbers_are = counts;
    };
    server = f.server;
    moment = f.moment;
    draws = f.draws;
    places = f.places;
    channels = channels_taken true e n line v y.channels.items shown over t placed;
  }
  taken_built false e n numbers count made line v y same_keys counts shown over t placed s kept asks = record {
    settings = f.settings;
    own = own_taken false y.client e s kept asks;
    session = record {
      keys_are = same_keys;
      known = f.session.known;
      encrypts_is = f.session.encrypts_is;
      numbers_are = counts;
    };
    server = f.server;
    moment = f.moment;
    draws = f.draws;
    places = f.places;
    channels = channels_taken false e n line v y.channels.items shown over t placed;
  }

  -- ---- its connection failed

  failed_here : (n : ClientEnd) (line : Line) (v : Channel) → IsTalkLeft rest line true v
      → ShowsChannel k x.settings x.guid x.keys w.values.client.taken (behind_leave (seen_of w.values.client) k)
      (client_off (w.values.conns k)) (client_end_off (wires_at n)) v
  failed_here n line v t =
      let old = here z x w k d rest xs f there in
      record {
        client = subst (λ (o : ClientSide). ShowsClientSide k x.settings x.keys (behind_leave (seen_of w.values.client) k) false n o)
            (sym t.client.0) (refl, (talk z x w k d rest xs f there).unready);
        server = subst (λ (o : Option Conn). ShowsServerSide k x.guid (w.values.conns k).server_open
            (w.wires k).server_end o) (sym t.server)
            old.server;
        up = subst (λ (o : List Up). AreUp w.values.client.taken o (w.wires k).up (w.values.conns k).up) (sym t.up) old.up;
        down = subst (λ (o : List Down). AreDown o [] []) (sym t.client.1) tt;
      }

  abbrev failed_with : ClientEnd → ℕ → List Ending → (ℕ → Wires) → bytes.World
  failed_with n numbers made wires = record w {
    values = with_client (closed_by w.values k CloseChannel) (leave_dialog w.values.client k);
    wires = wires;
    numbers = numbers;
    accepted = made;
  }

  failed_is : (n : ClientEnd) (numbers : ℕ) (made : List Ending)
      → ended_with n numbers made CloseChannel (leave_dialog w.values.client k)
      ≡ failed_with n numbers made (put w.wires k (client_end_off (wires_at n)))
  failed_is n numbers made =
      let u = wires_at n in
      ap (λ (v : Wires). failed_with n numbers made (put (put w.wires k u) k (client_end_off v))) (put_here w.wires k u)
      ∙ ap (λ (v : ℕ → Wires). failed_with n numbers made v) (put_last w.wires k u (client_end_off u))

  failed_built : (n : ClientEnd) (numbers count : ℕ) (made : List Ending) (line : Line) (v : Channel) (y : World)
      → (0 < numbers → w.keys ≡ x.keys) → numbers ≡ count
      → IsTalkLeft rest line true v → ChangedAt (Becomes v) k xs y.channels.items → ShowsClient y.client (leave_dialog w.values.client k)
      → TableKept (leave_dialog w.values.client k) → AsksFit (leave_dialog w.values.client k)
      → ShowsWorld z (record x { client = y.client; making = unmade k x.making; channels = y.channels; numbers = count })
      (ended_with n numbers made CloseChannel (leave_dialog w.values.client k))
  failed_built n numbers count made line v y same_keys counts t placed s kept asks =
      let c = w.values.client in
      let b = behind_leave (seen_of c) k in
      subst (λ (q : bytes.World). ShowsWorld z (record x {
        client = y.client;
        making = unmade k x.making;
        channels = y.channels;
        numbers = count;
      }) q)
      (sym (failed_is n numbers made)) (record {
        settings = f.settings;
        own = record {
          client = s;
          kept = kept;
          asks = asks;
          who = f.own.who;
          accepted_is = f.own.accepted_is;
          making_is = ap (unmade k) f.own.making_is;
          apart = λ q. f.own.apart (some_made k x.making q);
        };
        session = record {
          keys_are = same_keys;
          known = f.session.known;
          encrypts_is = f.session.encrypts_is;
          numbers_are = counts;
        };
        server = f.server;
        moment = f.moment;
        draws = f.draws;
        places = f.places;
        channels = one_changed x.settings x.guid x.keys c.taken (seen_of c) b (Becomes v) k xs y.channels.items w.values.conns w.wires
            (client_off (w.values.conns k)) (client_end_off (wires_at n)) (facing d rest) placed there
            (λ o becomes old. subst (λ (i : Channel). ShowsChannel k x.settings x.guid x.keys c.taken b (client_off (w.values.conns k))
            (client_end_off (wires_at n)) i) (sym becomes) (failed_here n line v t))
            (λ j o other old. seen_alike j x.settings x.guid x.keys c.taken (seen_of c) b (w.values.conns j) (w.wires j) o
            (leave_alike (seen_of c) k j other) old) (λ j other ready. ready) f.channels;
      })

  -- ---- by whether the client takes it so

  ended_by : (b : Bool) (n : ClientEnd) (numbers count : ℕ) (made : List Ending) (line : Line) (v : Channel) (y : World)
      → (0 < numbers → w.keys ≡ x.keys) → numbers ≡ count
      → ShowsLine line n → n.stage ≡ Apart → IsTalkLeft rest line (not b) v → ChangedAt (Becomes v) k xs y.channels.items
      → ShowsClient y.client (client_by b) → TableKept (client_by b) → AsksFit (client_by b)
      → ShowsWorld z (record x { client = y.client; making = unmade k x.making; channels = y.channels; numbers = count })
      (ended_with n numbers made (if b then Nothing else CloseChannel) (client_by b))
  ended_by true n numbers count made line v y same_keys counts shown over t placed s kept asks =
      taken_built w.values.client.live refl n numbers count made line v y same_keys counts shown over t placed s kept asks
  ended_by false n numbers count made line v y same_keys counts shown over t placed s kept asks =
      failed_built n numbers count made line v y same_keys counts t placed s kept asks

  pub ended : (x' y : World) (n : ClientEnd) (numbers count : ℕ) (made : List Ending) (line : Line)
      → (0 < numbers → w.keys ≡ x.keys) → numbers ≡ count
      → x' ≡ record x { numbers = count; channels = x'.channels } → ShowsLine line n → n.stage ≡ Apart
      → TalkEndsBy x' k (happens.Ready k session tree) rest line y
      → ((v : Channel) → ChangedAt (Becomes v) k x'.channels.items y.channels.items → ChangedAt (Becomes v) k xs y.channels.items)
      → ShowsWorld z y (ended_with n numbers made (act w.values.client (IsReady k session tree))
      (client_after w.values.client (IsReady k session tree)))
  ended x' y n numbers count made line same_keys counts same shown over e placed =
      let c = w.values.client in
      let event = IsReady k session tree in
      let core : ShowsClient x'.client c = subst (λ (v : World). ShowsClient v.client c) (sym same) f.own.client in
      let told = e.ends.tells c event core f.own.kept refl in
      let left = subst (λ (b : Bool). IsTalkLeft rest line b e.ends.channel) (ap closes_one told
      ∙ fails_as (becomes_ready c session)) e.ends.left in
      let making : y.making ≡ unmade k x.making = e.making_is ∙ (λ t. unmade k (same t).making) in
      let behind : y ≡ record x { client = y.client; making = unmade k x.making; channels = y.channels; numbers = count } =
      e.others ∙ (λ t. record (same t) { client = y.client; making = making t; channels = y.channels }) in
      subst (λ (v : World). ShowsWorld z v (ended_with n numbers made (act c event) (client_after c event))) (sym behind)
      (ended_by (becomes_ready c session) n numbers count made line e.ends.channel y same_keys counts shown over left
      (placed e.ends.channel e.ends.placed) (e.ends.shown c event core f.own.kept refl) (keeps c event f.own.kept tt)
      (asks_on c event f.own.asks))
