-- The client closes its end of a connection.
use Rattle.std.proofs.Common.{◌≡◌, ℕ, ◌+◌, ◌==◌, ◌&&◌, Bool, true, false, if◌then◌else◌, refl, sym, ap, subst, ◌∙◌, arith}
use Rattle.std.proofs.Common.{slice_get, Option, Some, None, is_some}
use Rattle.std.proofs.lemmas.Bool.Decides.{nat_tests}
use Rattle.client_steps.specs.whole_client.Shown.{ShowsClient}
use Rattle.client_steps.specs.declared.whole_client.client.Client.{Client as Core}
use Rattle.client_events.specs.event_calls.Events.{act_of}
use Rattle.client_events.specs.declared.event_calls.steps.Event.TheVariants as happens
use Rattle.law_client.proofs.table.Events.{keeps}
use Rattle.law_client.specs.table.Kept.{TableKept}
use Rattle.client_events.specs.world_law.Asking.{AsksFit}
use Rattle.client_events.proofs.world_law.Columns.{left as kept_left}
use Rattle.client_events.proofs.world_law.Events.{asks_alike, asks_on}
use Rattle.spec_exchange.specs.Client.{Client, Apart, cut_channel, end_session, ends_at_cut, leave_dialog, unmade}
use Rattle.spec_exchange.specs.ClientStep.{CloseChannels, IsCut, Nothing, client_after}
use Rattle.spec_exchange.specs.Network as network
use Rattle.spec_exchange.specs.Network.{Cut, client_off, cut_by, one_cut, with_client}
use Rattle.spec_exchange.specs.State.{no_later}
use Rattle.spec_exchange.specs.Table.{put}
use Rattle.client_steps.proofs.free_columns.Columns.{left as shown_left}
use Rattle.spec_world.specs.Events.{Plain, bytes_happen, bytes_later}
use Rattle.spec_world.specs.Notes as notes
use Rattle.spec_world.specs.Notes.{step_error, unless_open}
use Rattle.spec_world.specs.Settings.{WorldSettings}
use Rattle.spec_world.specs.World as bytes
use Rattle.spec_world.specs.World.{client_end_off, cut_wires, off_by, one_off, with_values}
use Rattle.world_ends.specs.Channels.{ChannelSeen, seen_of}
use Rattle.world_ends.specs.Shown.{ShowsOwn, ShowsWorld}
use Rattle.world_ends.specs.Tests.{opened_in, readied_in}
use Rattle.world_ends.specs.declared.world.World.{World}
use Rattle.world_steps.specs.Lists.{ChangedAll, ChangedAt, ClosesClient}
use Rattle.world_steps.specs.Parts.{ClosedBy, Cuts, CutsBy, CutsLine, WorldLeaves, all_close}
use Rattle.world_steps.proofs.Alike.{Alike, seen_alike}
use Rattle.world_steps.proofs.Closing.{all_changed, client_closed, is_opened, is_readied, one_changed, opened_one}
use Rattle.world_steps.proofs.Onward.{later_shown}

pub other_number : (n k : ℕ) → (n ≡ k → ⊥) → (n == k) ≡ false
other_number n k h = grind (arith, nat_tests)

pub own_number : (n : ℕ) → (n == n) ≡ true
own_number n = grind (arith, nat_tests)

pub put_own : {X : Type 0} (f : ℕ → X) (k : ℕ) (v : X) → put f k v k ≡ v
put_own f k v = ap (λ (b : Bool). if b then v else f k) (own_number k)

pub put_other : {X : Type 0} (f : ℕ → X) (k : ℕ) (v : X) (j : ℕ) → (j ≡ k → ⊥) → put f k v j ≡ f j
put_other f k v j other = ap (λ (b : Bool). if b then v else f j) (other_number j k other)

-- ---- the cut of a channel whose session goes on

abbrev without_one : ChannelSeen → ℕ → ChannelSeen
without_one c k = record c { ready = put c.ready k false }

cut_alike : (c : ChannelSeen) (k j : ℕ) → (j ≡ k → ⊥) → Alike j c (without_one c k)
cut_alike c k j other = record {
  ready = put_other c.ready k false j other;
  stage = refl;
  making = λ e. e;
  live = refl;
  session = refl;
  tree = refl;
  accepted = refl;
  pending = refl;
}

-- ---- a dialog that is left

abbrev behind_leave : ChannelSeen → ℕ → ChannelSeen
behind_leave c k = record c { stage = put c.stage k Apart; making = unmade k c.making }

still_made : (k j : ℕ) (m : Option ℕ) → (j ≡ k → ⊥) → m ≡ Some j → unmade k m ≡ Some j
still_made k j m other e =
    ap (unmade k) e ∙ ap (λ (b : Bool). if b then None else Some j) (other_number j k other)

leave_alike : (c : ChannelSeen) (k j : ℕ) → (j ≡ k → ⊥) → Alike j c (behind_leave c k)
leave_alike c k j other = record {
  ready = refl;
  stage = put_other c.stage k Apart j other;
  making = still_made k j c.making other;
  live = refl;
  session = refl;
  tree = refl;
  accepted = refl;
  pending = refl;
}

some_made : (k : ℕ) (m : Option ℕ) → is_some (unmade k m) ≡ true → is_some m ≡ true
some_made k None e = e
some_made k (Some j) e = refl

-- ---- the whole

left_built : (z : WorldSettings) (x y : World) (w : bytes.World) (k : ℕ) → ChangedAt ClosesClient k x.channels.items y.channels.items
    → opened_in (slice_get x.channels.items k) ≡ true → w.values.client.ready k ≡ false → ShowsWorld z x w
    → ShowsWorld z (record x { making = unmade k x.making; channels = y.channels })
    (with_values (one_off w k) (one_cut (with_client w.values (leave_dialog w.values.client k)) k))
left_built z x y w k r there unready h =
    let c = w.values.client in
    let s = seen_of c in
    let one = opened_one x.channels.items k there in
    record {
      settings = h.settings;
      own = record {
        client = shown_left x.client.table x.client.attached.items x.client.opened.items x.client.marks.items c k h.own.client;
        kept = kept_left c k h.own.kept;
        asks = asks_alike c (leave_dialog c k) refl refl refl refl h.own.asks;
        who = h.own.who;
        accepted_is = h.own.accepted_is;
        making_is = ap (unmade k) h.own.making_is;
        apart = λ e. h.own.apart (some_made k x.making e);
      };
      session = h.session;
      server = h.server;
      moment = h.moment;
      draws = h.draws;
      places = h.places;
      channels = one_changed x.settings x.guid x.keys c.taken s (behind_leave s k) ClosesClient k x.channels.items y.channels.items
          w.values.conns w.wires (client_off (w.values.conns k)) (client_end_off (w.wires k)) one.0 r one.1
          (λ v closed shown. client_closed k x.settings x.guid x.keys c.taken s (behind_leave s k) (w.values.conns k) (w.wires k) one.0 v
          closed unready shown)
          (λ j v other shown. seen_alike j x.settings x.guid x.keys c.taken s (behind_leave s k) (w.values.conns j) (w.wires j) v
          (leave_alike s k j other) shown) (λ j other ready. ready) h.channels;
    }

-- of a ready channel; whether it ends its session
abbrev cut_as : Bool → bytes.World → ℕ → bytes.World
cut_as e w k =
    let c = w.values.client in
    let a = if true && e then CloseChannels else Nothing in
    with_values (off_by w k a) (with_client (cut_by w.values k a) (if e then end_session c else cut_channel c k))

abbrev Behind : World → World → World
Behind x y = record x { client = y.client; making = y.making; channels = y.channels }

one_built : (z : WorldSettings) (x y : World) (w : bytes.World) (k : ℕ)
    → ChangedAt ClosesClient k x.channels.items y.channels.items → opened_in (slice_get x.channels.items k) ≡ true
    → ShowsOwn z y.client x.accepted x.making (cut_channel w.values.client k) → ShowsWorld z x w
    → ShowsWorld z (record x { client = y.client; channels = y.channels }) (cut_as false w k)
one_built z x y w k r there own h =
    let c = w.values.client in
    let s = seen_of c in
    let one = opened_one x.channels.items k there in
    record {
      settings = h.settings;
      own = own;
      session = h.session;
      server = h.server;
      moment = h.moment;
      draws = h.draws;
      places = h.places;
      channels = one_changed x.settings x.guid x.keys c.taken s (without_one s k) ClosesClient k x.channels.items y.channels.items
          w.values.conns w.wires (client_off (w.values.conns k)) (client_end_off (w.wires k)) one.0 r one.1
          (λ v closed shown. client_closed k x.settings x.guid x.keys c.taken s (without_one s k) (w.values.conns k) (w.wires k) one.0 v
          closed (put_own c.ready k false) shown)
          (λ j v other shown. seen_alike j x.settings x.guid x.keys c.taken s (without_one s k) (w.values.conns j) (w.wires j) v
          (cut_alike s k j other) shown) (λ j other ready. put_other c.ready k false j other ∙ ready) h.channels;
    }

all_built : (z : WorldSettings) (x y : World) (w : bytes.World) (k : ℕ) → ChangedAll ClosesClient x.channels.items y.channels.items
    → ShowsOwn z y.client x.accepted None (end_session w.values.client) → ShowsWorld z x w
    → ShowsWorld z (record x { client = y.client; making = None; channels = y.channels }) (cut_as true w k)
all_built z x y w k r own h =
    let c = w.values.client in
    record {
      settings = h.settings;
      own = own;
      session = h.session;
      server = h.server;
      moment = h.moment;
      draws = h.draws;
      places = h.places;
      channels = all_changed x.settings x.guid x.keys c.taken (seen_of c) (seen_of (end_session c)) ClosesClient x.channels.items
          y.channels.items w.values.conns w.wires client_off client_end_off r
          (λ j u v closed shown. client_closed j x.settings x.guid x.keys c.taken (seen_of c) (seen_of (end_session c)) (w.values.conns j)
          (w.wires j) u v closed refl shown) (λ j b. (refl, b.1, refl)) h.channels;
    }

-- ---- by what the client is told

closes : (r e : Bool) → r ≡ true → all_close (if r && e then CloseChannels else Nothing) ≡ e
closes true true h = refl
closes true false h = refl
closes false e h = absurd (cc)

-- the same of a world of other parts
with_making : (z : WorldSettings) (x y : World) (w : bytes.World) (m : Option ℕ) → y.making ≡ m
    → ShowsWorld z (record x { client = y.client; making = m; channels = y.channels }) w → ShowsWorld z (Behind x y) w
with_making z x y w m e h =
    subst (λ (v : Option ℕ). ShowsWorld z (record x { client = y.client; making = v; channels = y.channels }) w) (sym e) h

by_ends : (b : Bool) (z : WorldSettings) (x y : World) (w : bytes.World) (k : ℕ)
    → ClosedBy x.making x.channels.items k b y.making y.channels.items → opened_in (slice_get x.channels.items k) ≡ true
    → ShowsClient y.client (if b then end_session w.values.client else cut_channel w.values.client k)
    → TableKept (if b then end_session w.values.client else cut_channel w.values.client k)
    → AsksFit (if b then end_session w.values.client else cut_channel w.values.client k) → ShowsWorld z x w
    → ShowsWorld z (Behind x y) (cut_as b w k)
by_ends true z x y w k r there shown kept asks h =
    with_making z x y (cut_as true w k) None r.0
    (all_built z x y w k r.1 (record {
      client = shown;
      kept = kept;
      asks = asks;
      who = h.own.who;
      accepted_is = h.own.accepted_is;
      making_is = refl;
      apart = λ e. refl;
    }) h)
by_ends false z x y w k r there shown kept asks h =
    with_making z x y (cut_as false w k) x.making r.0
    (one_built z x y w k r.1 there (record {
      client = shown;
      kept = kept;
      asks = asks;
      who = h.own.who;
      accepted_is = h.own.accepted_is;
      making_is = h.own.making_is;
      apart = h.own.apart;
    }) h)

-- the definitions' cut, by whether the channel is ready
abbrev behind_cut : Bool → Client → ℕ → Client
behind_cut r c k = if r then (if ends_at_cut c then end_session c else cut_channel c k) else c

abbrev cut_with : Bool → bytes.World → ℕ → bytes.World
cut_with r w k =
    let c = w.values.client in
    let a = if r && ends_at_cut c then CloseChannels else Nothing in
    let v = if r then with_client (cut_by w.values k a) (behind_cut r c k) else one_cut (with_client w.values (leave_dialog c k)) k in
    if r then with_values (off_by w k a) v else with_values (one_off w k) v

abbrev CutsWorld : World → ℕ → World → Type 0
CutsWorld x k y = Cuts x.client x.making x.channels.items k y.client y.making y.channels.items

line_cut : (z : WorldSettings) (x y : World) (w : bytes.World) (k : ℕ)
    → CutsLine x.client x.making x.channels.items k k y.client y.making y.channels.items
    → opened_in (slice_get x.channels.items k) ≡ true → w.values.client.ready k ≡ true → ShowsWorld z x w
    → ShowsWorld z (Behind x y) (cut_with true w k)
line_cut z x y w k r there ready h =
    let c = w.values.client in
    let shown : ShowsClient y.client (client_after c (IsCut k)) = r.shown c (IsCut k) h.own.client h.own.kept refl in
    let told : all_close (act_of r.told) ≡ ends_at_cut c =
    ap all_close (r.tells c (IsCut k) h.own.client h.own.kept refl) ∙ closes (c.ready k) (ends_at_cut c) ready in
    by_ends (ends_at_cut c) z x y w k
    (subst (λ (b : Bool). ClosedBy x.making x.channels.items k b y.making y.channels.items) told r.closed) there
    (subst (λ (b : Bool). ShowsClient y.client (behind_cut b c k)) ready shown)
    (subst (λ (b : Bool). TableKept (behind_cut b c k)) ready (keeps c (IsCut k) h.own.kept tt))
    (subst (λ (b : Bool). AsksFit (behind_cut b c k)) ready (asks_on c (IsCut k) h.own.asks)) h

dialog_cut : (z : WorldSettings) (x y : World) (w : bytes.World) (k : ℕ)
    → WorldLeaves x.client x.making x.channels.items k y.client y.making y.channels.items → opened_in (slice_get x.channels.items k) ≡ true
    → w.values.client.ready k ≡ false → ShowsWorld z x w → ShowsWorld z (Behind x y) (cut_with false w k)
dialog_cut z x y w k r there unready h =
    let left = left_built z x y w k r.channels there unready h in
    with_making z x y (cut_with false w k) (unmade k x.making) r.making_is
    (subst (λ (v : Core). ShowsWorld z (record x { client = v; making = unmade k x.making; channels = y.channels }) (cut_with false w k))
    (sym r.client) left)

cuts_by : (b : Bool) (z : WorldSettings) (x y : World) (w : bytes.World) (k : ℕ)
    → CutsBy b x.client x.making x.channels.items k y.client y.making y.channels.items → opened_in (slice_get x.channels.items k) ≡ true
    → w.values.client.ready k ≡ b → ShowsWorld z x w → ShowsWorld z (Behind x y) (cut_with b w k)
cuts_by true z x y w k r there ready h = line_cut z x y w k r there ready h
cuts_by false z x y w k r there ready h = dialog_cut z x y w k r there ready h

pub cuts : (z : WorldSettings) (x y : World) (w : bytes.World) (k : ℕ) → CutsWorld x k y → opened_in (slice_get x.channels.items k) ≡ true
    → ShowsWorld z x w → ShowsWorld z (Behind x y) (cut_wires w k)
cuts z x y w k r there h =
    let c = w.values.client in
    let ready : c.ready k ≡ readied_in (slice_get x.channels.items k) =
    is_readied x.settings x.guid x.keys c.taken (seen_of c) w.values.conns w.wires x.channels.items h.channels k in
    subst (λ (b : Bool). ShowsWorld z (Behind x y) (cut_with b w k)) (sym ready)
    (cuts_by (readied_in (slice_get x.channels.items k)) z x y w k r there ready h)

-- ---- the event

abbrev cut_if : Bool → bytes.World → ℕ → bytes.World
cut_if b w k = if b then bytes_later (cut_wires w k) 1 else w

pub open_there : (z : WorldSettings) (x : World) (w : bytes.World) (k : ℕ) → ShowsWorld z x w
    → (w.values.conns k).client_open ≡ opened_in (slice_get x.channels.items k)
open_there z x w k h =
    is_opened x.settings x.guid x.keys w.values.client.taken (seen_of w.values.client) w.values.conns w.wires x.channels.items h.channels k

pub cut_off_at : (z : WorldSettings) (x y v : World) (w : bytes.World) (k : ℕ)
    → Cuts x.client x.making x.channels.items k y.client y.making y.channels.items → opened_in (slice_get x.channels.items k) ≡ true
    → v ≡ record (record x { client = y.client; making = y.making; channels = y.channels }) { moment = v.moment }
    → v.moment ≡ no_later (x.moment + 1) → ShowsWorld z x w
    → (step_error w (Plain (Cut k)) ≡ None) × ShowsWorld z v (bytes_happen z w (Plain (Cut k)))
cut_off_at z x y v w k r there late time h =
    let is_there = open_there z x w k h ∙ there in (
      ap (λ (b : Bool). unless_open b k) is_there,
      subst (λ (b : Bool). ShowsWorld z v (cut_if b w k)) (sym is_there)
          (later_shown z (Behind x y) v (cut_wires w k) 1 late time (cuts z x y w k r there h)),
    )

pub not_open : (z : WorldSettings) (x : World) (w : bytes.World) (k : ℕ) → opened_in (slice_get x.channels.items k)
    ≡ false → ShowsWorld z x w
    → (step_error w (Plain (Cut k)) ≡ Some (notes.NoChannel k)) × ShowsWorld z x w
not_open z x w k e h = (ap (λ (b : Bool). unless_open b k) (open_there z x w k h ∙ e), h)
