-- A world begins.
use Rattle.std.proofs.Common.{◌≡◌, ℕ, zero, suc, ◌+◌, ◌<◌, ◌≤◌, min, Bool, false, refl, sym, ap, subst, ◌∙◌, arith}
use Rattle.std.proofs.Common.{List, [], ◌∷◌, ◌++◌, length, slice_get, Option, Some, None}
use Rattle.client_steps.specs.whole_client.Shown.{ShowsClient}
use Rattle.law_client.proofs.table.Events.{begins}
use Rattle.client_events.specs.world_law.Asking.{AsksFit}
use Rattle.spec_exchange.specs.Fold.{Configuration, full_room, recovered, recovery_records}
use Rattle.spec_exchange.specs.Network.{no_conn, start}
use Rattle.spec_exchange.specs.State.{Address}
use Rattle.server_core.specs.declared.disk_server.book.Book.{Book}
use Rattle.server_checks.specs.declared.tables.Config.{Config}
use Rattle.server_core.specs.restart_tables.Restart.{configuration_of}
use Rattle.base_outside.specs.declared.streams.mem_disk.MemDisk.{MemDisk}
use Rattle.spec_wire.specs.messages.Places.{number_of}
use Rattle.std.specs.Prelude.{take}
use Rattle.spec_crypto.specs.tokens.Tokens.{Users}
use Rattle.client_ends.specs.declared.ends.config.ClientConfig.{ClientConfig}
use Rattle.world_ends.specs.memory_server.Held.{WorldHolds, HoldsBook}
use Rattle.spec_world.specs.Ends.{Logons, no_logons}
use Rattle.spec_world.specs.Events.{bytes_start, no_wires}
use Rattle.spec_world.specs.Settings.{WorldSettings, draw, values_of}
use Rattle.world_ends.specs.Channels.{AreDown, AreUp, ShowsChannel, ShowsClientSide, ShowsServerSide, seen_of}
use Rattle.world_ends.specs.Places.{ChannelShowsPlaces, marks_at, no_marks}
use Rattle.world_ends.specs.Shown.{ShowsWorld}
use Rattle.world_ends.specs.declared.sides.Channel.{Channel}
use Rattle.world_ends.specs.declared.sides.ClientSide.{ClientSide}
use Rattle.world_ends.specs.declared.sides.Down.{Down}
use Rattle.world_ends.specs.declared.sides.Up.{Up}
use Rattle.world_ends.specs.declared.world.Marks.{Marks}
use Rattle.world_ends.specs.declared.world.Places.{Places}
use Rattle.world_ends.specs.declared.world.World.{World}
use Rattle.world_steps.specs.beginning.Starting.{AreClosed, IsBegunBy, IsWorldClosed}
use Rattle.conn_core.specs.declared.conn.Conn.{Conn}

-- ---- one connection more

none_of : {X : Type 0} (x : X) → None ≡ Some x → ⊥
none_of x e = absurd (cc)

some_of : {X : Type 0} (x y : X) → Some x ≡ Some y → x ≡ y
some_of x y e = cc

more_each : (xs : List Channel) (y : Channel) → IsWorldClosed y → ((k : ℕ) (x : Channel) → slice_get xs k ≡ Some x
    → IsWorldClosed x) → (k : ℕ)
    (x : Channel) → slice_get (xs ++ y ∷ []) k ≡ Some x → IsWorldClosed x
more_each [] y c h zero x e = subst IsWorldClosed (some_of y x e) c
more_each [] y c h (suc k) x e = absurd (none_of x e)
more_each (v ∷ xs) y c h zero x e = h zero x e
more_each (v ∷ xs) y c h (suc k) x e = more_each xs y c (λ j u d. h (suc j) u d) k x e

one_longer : (xs : List Channel) (y : Channel) → length (xs ++ y ∷ []) ≡ length xs + 1
one_longer [] y = refl
one_longer (x ∷ xs) y =
    let e : suc (length (xs ++ y ∷ [])) ≡ suc (length xs) + 1 = (let d = one_longer xs y in omega (arith, d)) in e

pub one_closed : (n : ℕ) (xs : List Channel) (y : Channel) → IsWorldClosed y → AreClosed n xs → AreClosed (n + 1) (xs ++ y ∷ [])
one_closed n xs y c h = record {
  counted = one_longer xs y ∙ ap (λ (m : ℕ). m + 1) h.counted;
  each = more_each xs y c h.each;
}

pub none_closed : AreClosed 0 []
none_closed = record { counted = refl; each = λ k x e. absurd (none_of x e) }

-- ---- the parts

closed_shown : (k : ℕ) (z : WorldSettings) (x : World) (y : Channel) → IsWorldClosed y
    → ShowsChannel k x.settings x.guid x.keys 0 (seen_of (start (values_of z)).client) no_conn no_wires y
closed_shown k z x y c = record {
  client = subst (λ (v : ClientSide). ShowsClientSide k x.settings x.keys (seen_of (start (values_of z)).client) false
      no_wires.client_end v)
      (sym c.client) (refl, refl);
  server = subst (λ (v : Option Conn). ShowsServerSide k x.guid false no_wires.server_end v) (sym c.server) refl;
  up = subst (λ (v : List Up). AreUp 0 v [] []) (sym c.up) tt;
  down = subst (λ (v : List Down). AreDown v [] []) (sym c.down) tt;
}

none_below : (n : ℕ) → n < 0 → ⊥
none_below n l = omega (arith, l)

marks_none : (g : ℕ) → marks_at (no_marks ∷ []) g ≡ no_marks
marks_none zero = refl
marks_none (suc g) = refl

pub begun_places : (p : Places) → p.served.items ≡ [] → p.marks.items ≡ no_marks ∷ []
    → ChannelShowsPlaces p 0 (λ g. None) 0 (λ n. 0) (λ g. None) (λ g. 0)
begun_places p served marks =
    let m : (g : ℕ) → no_marks ≡ marks_at p.marks.items g =
    (λ g. sym (ap (λ (v : List Marks). marks_at v g) marks ∙ marks_none g)) in
    record {
      places_are = sym (ap (λ (v : List ℕ). length v) served);
      who_is = λ n l. absurd (none_below n (subst (λ (v : List ℕ). n < length v) served l));
      counted = ap (λ (v : List Marks). length v) marks;
      first_is = λ g. ap (λ (v : Marks). v.first) (m g);
      by_is = λ g. ap (λ (v : Marks). v.by) (m g);
      birth_is = λ g. ap (λ (v : Marks). v.birth) (m g);
    }

not_both : (g : ℕ) → 0 < g → g ≤ 0 → ⊥
not_both g low high = omega (arith, low, high)

none_high : 0 ≤ 64
none_high = omega arith

none_higher : 0 < 16
none_higher = omega arith

pub begun_asks : (z : WorldSettings) → AsksFit (start (values_of z)).client
begun_asks z = record {
  kept = λ g low high. absurd (not_both g low high);
  slots = λ g. none_high;
  numbers = λ g. none_higher;
}

-- the configuration of the settings is that of the server
abbrev configured : List ℕ → ℕ → Bool → Address → Configuration
configured share room encrypts address = record { share = share; room = min room full_room; encrypts = encrypts; address = address }

same_configuration : (z : WorldSettings) (c : Config) → z.share ≡ c.share → z.room ≡ c.room → z.encrypts ≡ c.encrypts
    → z.address ≡ (configuration_of c).address → configured z.share z.room z.encrypts z.address ≡ configuration_of c
same_configuration z c s r e a =
    ap (λ (v : List ℕ). configured v z.room z.encrypts z.address) s
    ∙ (ap (λ (v : ℕ). configured c.share v z.encrypts z.address) r
    ∙ (ap (λ (v : Bool). configured c.share c.room v z.address) e ∙ ap (λ (v : Address). configured c.share c.room c.encrypts v) a))

pub begun_book : (z : WorldSettings) (c : Config) (b : Book MemDisk) (guid : List ℕ) (settings : ClientConfig)
    (seed : List ℕ) → IsBegunBy z c guid settings seed
    → ((L : Logons) → WorldHolds b c.users (recovered (configuration_of c) 9 []) L (recovery_records []))
    → WorldHolds b z.server.users (start (values_of z)).server no_logons (start (values_of z)).records
begun_book z c b guid settings seed i h =
    subst (λ (users : Users). WorldHolds b users (start (values_of z)).server no_logons (recovery_records [])) (sym i.users)
    (subst (λ (d : Configuration). WorldHolds b c.users (recovered d 9 []) no_logons (recovery_records []))
    (sym (same_configuration z c i.shared i.room i.encrypts i.address)) (h no_logons))

-- ---- the whole

pub begun : (z : WorldSettings) (x : World) (config : Config) (b : Book MemDisk) → IsBegunBy z config x.guid x.settings x.seed
    → x.book ≡ Some b → ((L : Logons) → WorldHolds b config.users (recovered (configuration_of config) 9 []) L (recovery_records []))
    → ShowsClient x.client (start (values_of z)).client → x.salt ≡ number_of (take 8 (draw x.seed 0)) → x.accepted ≡ 0 → x.making ≡ None
    → x.keys.cipher ≤ 4 → x.encrypts ≡ false → x.numbers ≡ 0 → x.moment ≡ 0 → x.draws ≡ 1 → x.places.served.items ≡ []
    → x.places.marks.items ≡ no_marks ∷ [] → AreClosed 256 x.channels.items → ShowsWorld z x (bytes_start z)
begun z x config b i book held client salt accepted making known encrypts numbers moment draws served marks closed = record {
  settings = record {
    client = i.client;
    guid_is = i.guid_is;
    share = i.share;
    seed_is = i.seed_is;
    salt_is = ap (λ (seed : List ℕ). number_of (take 8 (draw seed 0))) i.seed_is ∙ sym salt;
    offers = i.offers;
    connects = i.connects;
  };
  own = record {
    client = client;
    kept = begins (values_of z);
    asks = begun_asks z;
    who = refl;
    accepted_is = sym accepted;
    making_is = sym making;
    apart = λ e. refl;
  };
  session = record {
    keys_are = λ l. absurd (none_below 0 l);
    known = known;
    encrypts_is = sym encrypts;
    numbers_are = sym numbers;
  };
  server = subst (λ (o : Option (Book MemDisk)). HoldsBook o z.server.users (start (values_of z)).server no_logons
      (start (values_of z)).records) (sym book) (begun_book z config b x.guid x.settings x.seed i held);
  moment = sym moment;
  draws = sym draws;
  places = begun_places x.places served marks;
  channels = record {
    counted = closed.counted;
    each = λ k y e. closed_shown k z x y (closed.each k y e);
    beyond = λ k e. (refl, refl, refl);
  };
}
