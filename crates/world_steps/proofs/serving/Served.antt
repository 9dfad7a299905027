-- The server takes the front of what goes up.
use Rattle.std.proofs.Common.{◌≡◌, ℕ, ◌+◌, ◌++◌, ◌≤◌, ◌&&◌, not, Bool, true, false, if◌then◌else◌, refl, sym, ap, subst, ◌∙◌, take}
use Rattle.std.proofs.Common.{List, [], ◌∷◌, slice_get, Option, Some, None, is_some, Result, Ok, Err, MatchResult}
use Rattle.conn_core.specs.frame_events.Dealing.{taken_records}
use Rattle.conn_core.specs.Shown.{ShowsEnd}
use Rattle.spec_exchange.specs.Network.{Conn as Link, Crash, Restart, Sent, Serve, Token, behind_front, op_of, server_off}
use Rattle.spec_exchange.specs.State as model
use Rattle.spec_exchange.specs.State.{End, no_later}
use Rattle.spec_exchange.specs.Step.{step}
use Rattle.spec_exchange.specs.Table.{is_filled, put}
use Rattle.spec_crypto.specs.sessions.Nonces.{last_counter}
use Rattle.world_ends.specs.memory_server.Held.{HoldsBook}
use Rattle.spec_world.specs.Connection.{ConnectionStep, connection_step}
use Rattle.spec_world.specs.Ends.{ConnEnd, ServerEnd}
use Rattle.spec_world.specs.Events.{Plain, bytes_happen, bytes_later}
use Rattle.spec_world.specs.Notes as notes
use Rattle.spec_world.specs.Notes.{has_acted, step_error, unless_there}
use Rattle.spec_world.specs.Settings.{WorldSettings, draw}
use Rattle.spec_world.specs.World as bytes
use Rattle.spec_world.specs.World.{absorb_frame, dropped_wires, restarted_wires, serve_frame, served_by, served_mutely, server_end_off}
use Rattle.spec_world.specs.World.{Wires, step_at, values_took}
use Rattle.world_ends.specs.Channels.{AreUp, IsUp, seen_of}
use Rattle.world_ends.specs.Shown.{ShowsWorld}
use Rattle.world_ends.specs.Tests.{is_open, opened_in, served_in}
use Rattle.world_ends.specs.declared.events.WorldError.{WorldError}
use Rattle.world_ends.specs.declared.events.WorldError.TheVariants as errors
use Rattle.world_ends.specs.declared.sides.Channel.{Channel}
use Rattle.world_ends.specs.declared.sides.Up.{Up}
use Rattle.world_ends.specs.declared.world.World.{World}
use Rattle.world_steps.specs.serving.Answered.{Absorbs, ServeAnswers, ServeTakesFront}
use Rattle.world_steps.specs.serving.Fronted.{FrontTaken, FrontGoesOn, fronted_in}
use Rattle.world_steps.specs.serving.Heard.{AnswersAs, Serves}
use Rattle.world_steps.specs.serving.Noted.{ServeNotesBy}
use Rattle.world_steps.specs.declared.serving.hearing.Reply.{Reply}
use Rattle.world_steps.specs.declared.serving.hearing.Served.{Served}
use Rattle.world_steps.proofs.serving.Passing.{Passes, changed_twice, closes, front_is, passes}
use Rattle.world_steps.proofs.serving.Own.{server_of, step_server}
use Rattle.world_steps.proofs.serving.Puts.{channels_alike, put_over, put_through}
use Rattle.world_steps.proofs.serving.Replied.{took_conns}
use Rattle.world_steps.proofs.serving.Took.{Behind, aside, closed, closes_off, goes_on, took, took_client}
use Rattle.world_steps.specs.Lists.{ChangedAt, ClosesServer}
use Rattle.world_steps.specs.Parts.{Drops, IsWorldMemory}
use Rattle.world_steps.specs.Steps.{WorldRefuses, StepsAs}
use Rattle.world_steps.proofs.Closing.{is_opened, is_served, served_one}
use Rattle.world_steps.proofs.Onward.{later_shown}
use Rattle.world_steps.proofs.Refusing.{memory}

-- ---- what goes up

by_lists : (t : ℕ) (u : Up) (us : List Up) (P : List (List ℕ) → List Sent → Type 0) (bs : List (List ℕ)) (ss : List Sent)
    → AreUp t (u ∷ us) bs ss
    → ((b : List ℕ) (cs : List (List ℕ)) (s : Sent) (xs : List Sent) → IsUp t u b s → AreUp t us cs xs → P (b ∷ cs) (s ∷ xs)) → P bs ss
by_lists t u us P [] [] up f = absurd up
by_lists t u us P [] (s ∷ ss) up f = absurd up
by_lists t u us P (b ∷ bs) [] up f = absurd up
by_lists t u us P (b ∷ bs) (s ∷ ss) up f = f b bs s ss up.0 up.1

tail_same : {X : Type 0} (u : X) (xs ys : List X) → u ∷ xs ≡ u ∷ ys → xs ≡ ys
tail_same u xs ys e = cc

-- ---- the step is the connection's own

module _ (z : WorldSettings) (x m : World) (w : bytes.World) (k : ℕ) (r : Reply) (t : ServeTakesFront x k m r) (h : ShowsWorld z x w) where
  abbrev Own : List ℕ → Served → Type 0
  Own b s = Serves k x.guid w.values.records z.server (step_at z w k b) m.book r.conn s

  step_is : (b : List ℕ) → ShowsEnd k x.guid t.takes.front.conn (w.wires k).server_end → (w.wires k).server_end.counter ≤ last_counter
      → b ≡ t.takes.front.up.bytes.items → Own b t.takes.heard.served
  step_is b shown bound is =
      let f = t.takes.front in
      let s = t.takes.heard.served in
      let e = (w.wires k).server_end in
      let drawn = take 8 (draw x.seed x.draws) in
      let guid = h.settings.guid_is in
      let v = w.values.server in
      let L = w.logons in
      let records = w.values.records in
      let shows : ShowsEnd f.conn.id z.server.guid f.conn e =
      subst (λ (g : List ℕ). ShowsEnd f.conn.id g f.conn e) (sym guid) (subst (λ (n : ℕ). ShowsEnd n x.guid f.conn e)
      (sym shown.number) shown) in
      let at_first = t.takes.heard.serves z.server v L records e h.server shows bound in
      let at_k : Serves k z.server.guid records z.server (connection_step z.server k x.moment drawn v L e
      f.up.bytes.items) m.book r.conn s =
      subst (λ (n : ℕ). Serves n z.server.guid records z.server (connection_step z.server n x.moment drawn v L e
      f.up.bytes.items) m.book r.conn s)
      shown.number at_first in
      let at_guid : Serves k x.guid records z.server (connection_step z.server k x.moment drawn v L e f.up.bytes.items) m.book r.conn s =
      subst (λ (g : List ℕ). Serves k g records z.server (connection_step z.server k x.moment drawn v L e
      f.up.bytes.items) m.book r.conn s) guid at_k in
      let at_moment : Serves k x.guid records z.server (connection_step z.server k w.values.moment drawn v L e
      f.up.bytes.items) m.book r.conn s =
      subst (λ (n : ℕ). Serves k x.guid records z.server (connection_step z.server k n drawn v L e f.up.bytes.items)
      m.book r.conn s) (sym h.moment) at_guid in
      let at_seed : Serves k x.guid records z.server (connection_step z.server k w.values.moment
      (take 8 (draw z.seed x.draws)) v L e f.up.bytes.items)
      m.book r.conn s =
      subst (λ (l : List ℕ). Serves k x.guid records z.server (connection_step z.server k w.values.moment (take 8 (draw l x.draws)) v L e
      f.up.bytes.items) m.book r.conn s) (sym h.settings.seed_is) at_moment in
      let at_draw : Serves k x.guid records z.server (connection_step z.server k w.values.moment
      (take 8 (draw z.seed w.draws)) v L e f.up.bytes.items)
      m.book r.conn s =
      subst (λ (n : ℕ). Serves k x.guid records z.server (connection_step z.server k w.values.moment (take 8 (draw z.seed n)) v L e
      f.up.bytes.items) m.book r.conn s) (sym h.draws) at_seed in
      subst (λ (l : List ℕ). Own l s) (sym is) at_draw

  -- it stands
  stands : (b : List ℕ) (s : Sent) (xs : List Sent) → Own b t.takes.heard.served → IsUp w.values.client.taken t.takes.front.up b s
      → ShowsWorld z (Behind x m) (aside w k s.token xs (step_at z w k b).taken (step_at z w k b).logons)
  stands b s xs own up =
      let S = step_at z w k b in
      let n = t.takes.front.up.token in
      let noted : ServeNotesBy (is_some S.taken) x.client x.places n (has_acted S.taken) m.places =
      subst (λ (a : Bool). ServeNotesBy (is_some S.taken) x.client x.places n a m.places) own.acted_is
      (subst (λ (a : Bool). ServeNotesBy a x.client x.places n t.takes.heard.served.acted m.places) own.took_is
      t.takes.heard.notes.noted) in
      let held : HoldsBook m.book z.server.users (server_of S.taken w.values.server) S.logons (w.values.records ++ taken_records S.taken) =
      subst (λ (v : model.Server). HoldsBook m.book z.server.users v S.logons (w.values.records ++ taken_records S.taken))
      (step_server z.server k w.values.moment (take 8 (draw z.seed w.draws)) w.values.server w.logons (w.wires k).server_end b) own.held in
      let drew : m.draws ≡ x.draws + 1 = ap (λ (v : World). v.draws) t.rest in
      subst (λ tok. ShowsWorld z (Behind x m) (aside w k tok xs S.taken S.logons)) (sym up.token)
      (took S.taken z x m w k n xs S.logons drew held noted
      (subst (λ tok. op_of tok ≤ w.values.client.taken) up.token up.below) h)

-- ---- the connection at which it stands

abbrev Final : World → World → World → World
Final x m v = record x { draws = m.draws; book = m.book; channels = v.channels; places = m.places; notes = m.notes }

shuts : (x m v : World) (k : ℕ) (r : Reply) (t : ServeTakesFront x k m r) → ChangedAt ClosesServer k m.channels.items v.channels.items
    → ChangedAt ClosesServer k x.channels.items v.channels.items
shuts x m v k r t c =
    changed_twice (λ p q. FrontTaken p t.takes.front q) ClosesServer ClosesServer k x.channels.items m.channels.items v.channels.items
    (λ p q u a b. closes t.takes.front p q u a b) t.takes.taken c

drawn : (x m : World) (k : ℕ) (r : Reply) (t : ServeTakesFront x k m r)
    → m ≡ record x { draws = m.draws; book = m.book; channels = m.channels; places = m.places; notes = m.notes }
drawn x m k r t =
    subst (λ (n : ℕ). m ≡ record x { draws = n; book = m.book; channels = m.channels; places = m.places; notes = m.notes })
    (sym (ap (λ (q : World). q.draws) t.rest)) t.rest

-- it closes
shut_off : (z : WorldSettings) (x m v : World) (w : bytes.World) (k : ℕ) (r : Reply) (t : ServeTakesFront x k m r)
    (bs : List (List ℕ)) (s : Sent)
    (xs : List Sent) (S : ConnectionStep) (one : Channel) → slice_get x.channels.items k ≡ Some one
    → ChangedAt ClosesServer k m.channels.items v.channels.items
    → ShowsWorld z (Behind x m) (aside w k s.token xs S.taken S.logons)
    → ShowsWorld z (Final x m v) (closed w k bs s.token xs S.taken S.logons S.server_end)
shut_off z x m v w k r t bs s xs S one found c h =
    closes_off z x (Final x m v) w k s.token bs xs S.taken S.logons S.server_end one v.channels.items (shuts x m v k r t c) found refl h

same_off : (u : Link) → server_off (server_off u) ≡ server_off u
same_off u = refl

same_wires : (u : Wires) → server_end_off (server_end_off u) ≡ server_end_off u
same_wires u = refl

abbrev front_wires : bytes.World → ℕ → List (List ℕ) → ServerEnd → Wires
front_wires w k bs e = record (w.wires k) { server_end = e; up = bs }

-- and the server hears of it
dropped_behind : (z : WorldSettings) (x m v : World) (w : bytes.World) (k : ℕ) (bs : List (List ℕ)) (s : Sent) (xs : List Sent)
    (S : ConnectionStep) → m.moment ≡ x.moment → Drops m.book m.channels.items m.moment k v.book v.channels.items
    → ShowsWorld z (Final x m v) (closed w k bs s.token xs S.taken S.logons S.server_end)
    → ShowsWorld z (record (Final x m v) { book = v.book }) (dropped_wires (served_mutely w k bs xs s.token S) k)
dropped_behind z x m v w k bs s xs S same r h =
    let T = values_took w.values k s.token xs S.taken in
    let c = seen_of T.client in
    let front = behind_front (w.values.conns k) xs in
    let wires = (served_mutely w k bs xs s.token S).wires in
    record {
      settings = h.settings;
      own = h.own;
      session = h.session;
      server = subst (λ (n : ℕ). HoldsBook v.book z.server.users (step T.server n (End k)).server S.logons
          (T.records ++ (step T.server n (End k)).records)) (same ∙ sym h.moment)
          (r.server z.server.users T.server S.logons T.records h.server);
      moment = h.moment;
      draws = h.draws;
      places = h.places;
      channels = channels_alike x.settings x.guid x.keys T.client.taken c (put w.values.conns k (server_off front))
          (put T.conns k (server_off (T.conns k))) (put w.wires k (server_end_off (front_wires w k bs S.server_end)))
          (put wires k (server_end_off (wires k))) v.channels.items
          (put_over server_off T.conns w.values.conns k front (took_conns w.values k s.token xs S.taken))
          (put_over server_end_off wires w.wires k (front_wires w k bs S.server_end) refl) h.channels;
    }

-- or it starts anew
restarted_behind : (z : WorldSettings) (y : World) (w : bytes.World) (k : ℕ) (bs : List (List ℕ)) (s : Sent) (xs : List Sent)
    (S : ConnectionStep) → ShowsWorld z y (bytes_later (restarted_wires (closed w k bs s.token xs S.taken S.logons S.server_end)) 1)
    → ShowsWorld z y (bytes_later (restarted_wires (served_mutely w k bs xs s.token S)) 1)
restarted_behind z y w k bs s xs S h =
    let T = values_took w.values k s.token xs S.taken in
    let front = behind_front (w.values.conns k) xs in
    let mute = served_mutely w k bs xs s.token S in
    let shut = closed w k bs s.token xs S.taken S.logons S.server_end in
    record {
      settings = h.settings;
      own = h.own;
      session = h.session;
      server = h.server;
      moment = h.moment;
      draws = h.draws;
      places = h.places;
      channels = channels_alike y.settings y.guid y.keys T.client.taken (seen_of T.client) (λ j. server_off (shut.values.conns j))
          (λ j. server_off (T.conns j)) (λ j. server_end_off (shut.wires j)) (λ j. server_end_off (mute.wires j)) y.channels.items
          (λ j. ap (λ (c : ℕ → Link). server_off (c j)) (took_conns w.values k s.token xs S.taken)
          ∙ put_through server_off same_off w.values.conns k front j)
          (λ j. put_through server_end_off same_wires w.wires k (front_wires w k bs S.server_end) j) h.channels;
    }

-- ---- by whether it ends

ends_by : (z : WorldSettings) (y : World) (w : bytes.World) (k : ℕ) (bs : List (List ℕ)) (xs : List Sent) (tok : Token) (S : ConnectionStep)
    (o : Option ConnEnd) → is_some o ≡ true → ShowsWorld z y (dropped_wires (served_mutely w k bs xs tok S) k)
    → ShowsWorld z y (served_by w k bs xs tok S o)
ends_by z y w k bs xs tok S None e h = absurd (cc)
ends_by z y w k bs xs tok S (Some why) e h = h

-- what is known of the connection
pub record At (z : WorldSettings) (x m : World) (w : bytes.World) (k : ℕ) (r : Reply) (t : ServeTakesFront x k m r) (one : Channel)
    (us : List Up) : Type 0 where
  pub found : slice_get x.channels.items k ≡ Some one
  pub opened : (w.values.conns k).client_open ≡ is_open one.client
  pub served : (w.values.conns k).server_open ≡ true
  pub shown : ShowsEnd k x.guid t.takes.front.conn (w.wires k).server_end
  pub bound : (w.wires k).server_end.counter ≤ last_counter
  pub front : one.up.items ≡ t.takes.front.up ∷ us

after_answer : (o : Option (List ℕ)) (z : WorldSettings) (x m v : World) (w : bytes.World) (k : ℕ) (r : Reply) (t : ServeTakesFront x k m r)
    (one : Channel) (us : List Up) (bs : List (List ℕ)) (s : Sent) (xs : List Sent) (S : ConnectionStep) → At z x m w k r t one us
    → AnswersAs k x.guid S r.conn o → ServeAnswers o m k r.conn r.place v → AreUp w.values.client.taken us bs xs
    → w.values.log.places ≡ r.place
    → m.moment ≡ x.moment → ShowsWorld z (Behind x m) (aside w k s.token xs S.taken S.logons)
    → (y : World) × ShowsWorld z y (served_by w k bs xs s.token S S.ends) × (v ≡ record y { moment = v.moment }) × (y.moment ≡ x.moment)
after_answer (Some answer) z x m v w k r t one us bs s xs S a goes made up place same h =
    let u = made.mid in
    let passing : ChangedAt (λ p q. Passes t.takes.front r.conn r.place answer p q) k x.channels.items u.channels.items =
    changed_twice (λ p q. FrontTaken p t.takes.front q) (λ p q. FrontGoesOn p r.conn r.place answer q)
    (λ p q. Passes t.takes.front r.conn r.place answer p q) k x.channels.items m.channels.items u.channels.items
    (λ p q d e f. passes t.takes.front r.conn r.place answer p q d e f) t.takes.taken made.channels in (
      Final x m u,
      subst (λ (o : Option ConnEnd). ShowsWorld z (Final x m u) (served_by w k bs xs s.token S o)) (sym goes.goes_on)
          (goes_on z x (Final x m u) w k s.token bs xs S one t.takes.front r.conn r.place answer passing a.found
          a.opened a.served place goes
          (λ vs e. subst (λ (l : List Up). AreUp w.values.client.taken l bs xs) (tail_same t.takes.front.up us vs (sym a.front ∙ e)) up)
          (took_client w k s.token xs S.taken S.logons) h),
      made.rest ∙ ap (λ (q : World). record q { channels = u.channels; moment = v.moment }) (drawn x m k r t),
      refl,
    )
after_answer None z x m v w k r t one us bs s xs S a ends made up place same h =
    let u = made.mid in (
      record (Final x m u) { book = u.book },
      ends_by z (record (Final x m u) { book = u.book }) w k bs xs s.token S S.ends ends
          (dropped_behind z x m u w k bs s xs S same made.drops (shut_off z x m u w k r t bs s xs S one a.found made.drops.channels h)),
      made.rest ∙ ap (λ (q : World). record q { book = u.book; channels = u.channels; moment = v.moment }) (drawn x m k r t),
      refl,
    )

-- ---- the event

moment_same : (x m : World) (k : ℕ) (r : Reply) → ServeTakesFront x k m r → m.moment ≡ x.moment
moment_same x m k r t = ap (λ (q : World). q.moment) t.rest

at_one : (z : WorldSettings) (x m : World) (w : bytes.World) (k : ℕ) (r : Reply) (t : ServeTakesFront x k m r) (one : Channel)
    → slice_get x.channels.items k ≡ Some one → ShowsWorld z x w
    → (us : List Up) × At z x m w k r t one us × AreUp w.values.client.taken (t.takes.front.up ∷ us) (w.wires k).up (w.values.conns k).up
at_one z x m w k r t one found h =
    let took = t.takes.taken.here one found in
    let shows = h.channels.each k one found in
    let f = front_is k x.guid w.values.client.taken (w.values.conns k).server_open (w.wires k).server_end (w.wires k).up
    (w.values.conns k).up one
    t.takes.front took.0 took.2 shows.server shows.up in (
      took.0.up.items,
      record {
        found = found;
        opened = is_opened x.settings x.guid x.keys w.values.client.taken (seen_of w.values.client) w.values.conns w.wires x.channels.items
            h.channels k ∙ ap opened_in found;
        served = f.is_there;
        shown = f.shown;
        bound = f.bound;
        front = took.2.up;
      },
      f.up,
    )

abbrev ServedAs : WorldSettings → World → bytes.World → ℕ → World → List (List ℕ) → List Sent → Type 0
ServedAs z x w k v bs ss = (y : World) × ShowsWorld z y (serve_frame z w k bs ss) × (v ≡ record y { moment = v.moment })
    × (y.moment ≡ x.moment)

serves : (z : WorldSettings) (x m v : World) (w : bytes.World) (k : ℕ) (r : Reply) (one : Channel) → ServeTakesFront x k m r
    → ServeAnswers r.answer m k r.conn r.place v → slice_get x.channels.items k ≡ Some one → ShowsWorld z x w
    → ServedAs z x w k v (w.wires k).up (w.values.conns k).up
serves z x m v w k r one t made found h =
    let a = at_one z x m w k r t one found h in
    by_lists w.values.client.taken t.takes.front.up a.0 (λ bs ss. ServedAs z x w k v bs ss) (w.wires k).up (w.values.conns k).up a.2
    (λ b cs s xs up rest.
    let own = step_is z x m w k r t h b a.1.shown a.1.bound up.bytes in
    after_answer r.answer z x m v w k r t one a.0 cs s xs (step_at z w k b) a.1
    (subst (λ (o : Option (List ℕ)). AnswersAs k x.guid (step_at z w k b) r.conn o) (sym t.takes.heard.notes.answer)
    own.answer_is) made rest
    (h.places.places_are ∙ sym t.takes.heard.notes.place) (moment_same x m k r t) (stands z x m w k r t h b s xs own up))

made_moment : (o : Option (List ℕ)) (m v : World) (k : ℕ) (r : Reply) → ServeAnswers o m k r.conn r.place v → v.moment
    ≡ no_later (m.moment + 1)
made_moment (Some answer) m v k r a = a.time
made_moment None m v k r a = a.time

-- ---- what is there in code is in the definitions

filled_up : (t : ℕ) (us : List Up) (bs : List (List ℕ)) (ss : List Sent) → AreUp t us bs ss
    → (is_filled bs ≡ is_filled us) × (is_filled ss ≡ is_filled us)
unfolding is_filled
filled_up t [] [] [] h = (refl, refl)
filled_up t [] [] (s ∷ ss) h = absurd h
filled_up t [] (b ∷ bs) ss h = absurd h
filled_up t (u ∷ us) [] ss h = absurd h
filled_up t (u ∷ us) (b ∷ bs) [] h = absurd h
filled_up t (u ∷ us) (b ∷ bs) (s ∷ ss) h = (refl, refl)

open_there : (z : WorldSettings) (x : World) (w : bytes.World) (k : ℕ) → ShowsWorld z x w
    → (w.values.conns k).server_open ≡ served_in (slice_get x.channels.items k)
open_there z x w k h =
    is_served x.settings x.guid x.keys w.values.client.taken (seen_of w.values.client) w.values.conns w.wires x.channels.items h.channels k

fronted : (z : WorldSettings) (x : World) (w : bytes.World) (k : ℕ) (one : Channel) → slice_get x.channels.items k
    ≡ Some one → ShowsWorld z x w
    → (is_filled (w.wires k).up ≡ fronted_in (slice_get x.channels.items k))
    × (is_filled (w.values.conns k).up ≡ fronted_in (slice_get x.channels.items k))
fronted z x w k one found h =
    let f = filled_up w.values.client.taken one.up.items (w.wires k).up (w.values.conns k).up (h.channels.each k one found).up in
    let same = sym (ap fronted_in found) in
    (f.0 ∙ same, f.1 ∙ same)

abbrev error_by : Bool → Bool → ℕ → Option notes.WorldError
error_by opens filled k = if not opens then Some (notes.NoChannel k) else if filled then None else Some (notes.NothingThere k)

error_is : (opens filled a b : Bool) (k : ℕ) → opens ≡ a → filled ≡ b → error_by opens filled k ≡ error_by a b k
error_is opens filled a b k e f = ap (λ (c : Bool). error_by c filled k) e ∙ ap (λ (c : Bool). error_by a c k) f

pub not_there : (z : WorldSettings) (x : World) (w : bytes.World) (k : ℕ) → served_in (slice_get x.channels.items k)
    ≡ false → ShowsWorld z x w
    → (unless_there (w.values.conns k).server_open (w.wires k).up k ≡ Some (notes.NoChannel k)) × ShowsWorld z x w
not_there z x w k e h =
    (ap (λ (b : Bool). error_by b (is_filled (w.wires k).up) k) (open_there z x w k h ∙ e), h)

pub nothing_there : (z : WorldSettings) (x : World) (w : bytes.World) (k : ℕ) → served_in (slice_get x.channels.items k) ≡ true
    → fronted_in (slice_get x.channels.items k) ≡ false → ShowsWorld z x w
    → (unless_there (w.values.conns k).server_open (w.wires k).up k ≡ Some (notes.NothingThere k)) × ShowsWorld z x w
nothing_there z x w k e f h =
    let one = served_one x.channels.items k e in (
      error_is (w.values.conns k).server_open (is_filled (w.wires k).up) true false k (open_there z x w k h ∙ e)
          ((fronted z x w k one.0 one.1 h).0 ∙ f),
      h,
    )

both_are : (a b : Bool) → a ≡ true → b ≡ true → (a && b) ≡ true
both_are a b e f = ap (λ (c : Bool). c && b) e ∙ f

abbrev happen_if : Bool → bytes.World → bytes.World → bytes.World
happen_if b w v = if b then bytes_later v 1 else w

pub served : (z : WorldSettings) (x m v : World) (w : bytes.World) (k : ℕ) (r : Reply) → ServeTakesFront x k m r
    → ServeAnswers r.answer m k r.conn r.place v → served_in (slice_get x.channels.items k) ≡ true
    → fronted_in (slice_get x.channels.items k) ≡ true → ShowsWorld z x w
    → (step_error w (Plain (Serve k)) ≡ None) × ShowsWorld z v (bytes_happen z w (Plain (Serve k)))
served z x m v w k r t made there full h =
    let one = served_one x.channels.items k there in
    let f = fronted z x w k one.0 one.1 h in
    let opens : (w.values.conns k).server_open ≡ true = open_there z x w k h ∙ there in
    let s = serves z x m v w k r one.0 t made one.1 h in
    let late : v.moment ≡ no_later (s.0.moment + 1) =
    made_moment r.answer m v k r made ∙ ap (λ (n : ℕ). no_later (n + 1)) (moment_same x m k r t ∙ sym s.3) in (
      error_is (w.values.conns k).server_open (is_filled (w.wires k).up) true true k opens (f.0 ∙ full),
      subst (λ (b : Bool). ShowsWorld z v (happen_if b w (serve_frame z w k (w.wires k).up (w.values.conns k).up)))
          (sym (both_are (w.values.conns k).server_open (is_filled (w.values.conns k).up) opens (f.1 ∙ full)))
          (later_shown z s.0 v (serve_frame z w k (w.wires k).up (w.values.conns k).up) 1 s.2 late s.1),
    )

pub served_result : (z : WorldSettings) (x m v : World) (w : bytes.World) (k : ℕ) (r : Reply)
    (result : Result Unit WorldError) → ServeTakesFront x k m r
    → MatchResult result (λ _. ServeAnswers r.answer m k r.conn r.place v) (λ e. IsWorldMemory e)
    → served_in (slice_get x.channels.items k) ≡ true
    → fronted_in (slice_get x.channels.items k) ≡ true → ShowsWorld z x w → StepsAs z w (Plain (Serve k)) v result
served_result z x m v w k r (Ok u) t made there full h = served z x m v w k r t made there full h
served_result z x m v w k r (Err e) t is there full h = memory z v w (step_error w (Plain (Serve k))) e is

-- ---- a crash

abbrev Absorbed : WorldSettings → bytes.World → ℕ → World → List (List ℕ) → List Sent → Type 0
Absorbed z w k y bs ss = (u : bytes.World) × ShowsWorld z y u
    × ((v : World) → ShowsWorld z v (bytes_later (restarted_wires u) 1)
    → ShowsWorld z v (bytes_later (restarted_wires (absorb_frame z w k bs ss)) 1))

absorbs : (z : WorldSettings) (x y : World) (w : bytes.World) (k : ℕ) (one : Channel) → Absorbs x k y
    → slice_get x.channels.items k ≡ Some one
    → ShowsWorld z x w → Absorbed z w k y (w.wires k).up (w.values.conns k).up
absorbs z x y w k one p found h =
    let m = p.mid in
    let r = p.reply in
    let t = p.takes in
    let a = at_one z x m w k r t one found h in
    by_lists w.values.client.taken t.takes.front.up a.0 (λ bs ss. Absorbed z w k y bs ss) (w.wires k).up (w.values.conns k).up a.2
    (λ b cs s xs up rest.
    let own = step_is z x m w k r t h b a.1.shown a.1.bound up.bytes in
    let S = step_at z w k b in
    let shut = closed w k cs s.token xs S.taken S.logons S.server_end in (
      shut,
      subst (λ (q : World). ShowsWorld z q shut)
          (sym (p.rest ∙ ap (λ (q : World). record q { channels = y.channels }) (drawn x m k r t)))
          (shut_off z x m y w k r t cs s xs S one found p.closed (stands z x m w k r t h b s xs own up)),
      λ v shows. restarted_behind z v w k cs s xs S shows,
    ))

refused_restart : (z : WorldSettings) (v : World) (u w : bytes.World) (due : Option notes.WorldError) (e : WorldError)
    → WorldRefuses z v u None e
    → WorldRefuses z v w due e
refused_restart z v u w due errors.Memory h = tt
refused_restart z v u w due (errors.NoChannel k) h = absurd (let q : None ≡ Some (notes.NoChannel k) = h.0 in cc)
refused_restart z v u w due (errors.NothingThere k) h = absurd (let q : None ≡ Some (notes.NothingThere k) = h.0 in cc)
refused_restart z v u w due (errors.InUse k) h = absurd (let q : None ≡ Some (notes.InUse k) = h.0 in cc)

-- the server starts anew at what it shows
restart_result : (z : WorldSettings) (v : World) (u w : bytes.World) (k : ℕ) (kept : Bool) (result : Result Unit WorldError)
    → (w.values.conns k).server_open ≡ true → is_filled (w.wires k).up ≡ true → is_filled (w.values.conns k).up ≡ true
    → ((y : World) → ShowsWorld z y (bytes_later (restarted_wires u) 1) → ShowsWorld z y
    (bytes_later (restarted_wires (if kept then absorb_frame z w k (w.wires k).up (w.values.conns k).up else w)) 1))
    → StepsAs z u (Plain Restart) v result → StepsAs z w (Plain (Crash k kept)) v result
restart_result z v u w k kept (Ok q) opens full filled to h = (
  error_is (w.values.conns k).server_open (is_filled (w.wires k).up) true true k opens full,
  subst (λ (b : Bool). ShowsWorld z v (happen_if b w
      (restarted_wires (if kept then absorb_frame z w k (w.wires k).up (w.values.conns k).up else w))))
      (sym (both_are (w.values.conns k).server_open (is_filled (w.values.conns k).up) opens filled)) (to v h.1),
)
restart_result z v u w k kept (Err e) opens full filled to h = refused_restart z v u w (step_error w (Plain (Crash k kept))) e h

pub crashed : (z : WorldSettings) (x y v : World) (w : bytes.World) (k : ℕ) (result : Result Unit WorldError) → Absorbs x k y
    → ((u : bytes.World) → ShowsWorld z y u → StepsAs z u (Plain Restart) v result) → served_in (slice_get x.channels.items k) ≡ true
    → fronted_in (slice_get x.channels.items k) ≡ true → ShowsWorld z x w → StepsAs z w (Plain (Crash k true)) v result
crashed z x y v w k result p anew there full h =
    let one = served_one x.channels.items k there in
    let f = fronted z x w k one.0 one.1 h in
    let a = absorbs z x y w k one.0 p one.1 h in
    restart_result z v a.0 w k true result (open_there z x w k h ∙ there) (f.0 ∙ full) (f.1 ∙ full) a.2 (anew a.0 a.1)

-- nothing of the event stands
pub crashed_bare : (z : WorldSettings) (x v : World) (w : bytes.World) (k : ℕ) (result : Result Unit WorldError)
    → StepsAs z w (Plain Restart) v result → served_in (slice_get x.channels.items k) ≡ true
    → fronted_in (slice_get x.channels.items k) ≡ true → ShowsWorld z x w → StepsAs z w (Plain (Crash k false)) v result
crashed_bare z x v w k result anew there full h =
    let one = served_one x.channels.items k there in
    let f = fronted z x w k one.0 one.1 h in
    restart_result z v w w k false result (open_there z x w k h ∙ there) (f.0 ∙ full) (f.1 ∙ full) (λ y shows. shows) anew
