-- A world of which a connection is opened.
use Rattle.std.proofs.Common.{◌≡◌, ℕ, ◌+◌, ◌==◌, Bool, true, false, if◌then◌else◌, refl, sym, ap, subst, ◌∙◌}
use Rattle.std.proofs.Common.{List, slice_get, Option, Some, None, is_some}
use Rattle.client_events.proofs.world_law.Columns.{begun as kept_begun}
use Rattle.client_events.proofs.world_law.Events.{asks_alike}
use Rattle.spec_exchange.specs.Client.{Client, SaidNegotiate}
use Rattle.spec_exchange.specs.Dialogs.{open_channel}
use Rattle.spec_exchange.specs.Network.{Open, fresh}
use Rattle.spec_exchange.specs.State as model
use Rattle.spec_exchange.specs.State.{no_later}
use Rattle.spec_exchange.specs.Status.{success}
use Rattle.spec_exchange.specs.Step.{step}
use Rattle.spec_exchange.specs.Table.{put}
use Rattle.client_steps.proofs.free_columns.Columns.{begun as shown_begun}
use Rattle.spec_world.specs.Events.{Plain, bytes_happen, bytes_later}
use Rattle.spec_world.specs.Notes.{step_error}
use Rattle.spec_world.specs.Settings.{WorldSettings}
use Rattle.spec_world.specs.World as bytes
use Rattle.spec_world.specs.World.{fresh_wires, greeting_of, opened_wires}
use Rattle.world_ends.specs.Channels.{ShowsChannel, ShowsChannels, seen_of}
use Rattle.world_ends.specs.Shown.{ShowsOwn, ShowsWorld}
use Rattle.world_ends.specs.Tests.{readied_in}
use Rattle.world_ends.specs.declared.sides.Channel.{Channel}
use Rattle.world_ends.specs.declared.world.World.{World}
use Rattle.world_steps.specs.opening.Opening.{OpeningEnters, OpeningMakes, OpeningStands, opening_refusal}
use Rattle.world_steps.specs.opening.Putting.{Becomes}
use Rattle.world_steps.specs.declared.opening.beginning.Begun.{Begun}
use Rattle.world_steps.proofs.opening.Refused.{IsFree, closed_unready, due_is, free_of, possible}
use Rattle.world_steps.proofs.opening.Standing.{live_is, stands}
use Rattle.world_steps.specs.Parts.{BookTold}
use Rattle.world_steps.proofs.Alike.{Alike, seen_alike}
use Rattle.world_steps.proofs.Closing.{is_readied, one_changed}
use Rattle.world_steps.proofs.CutOff.{put_other}
use Rattle.world_steps.proofs.Onward.{later_shown}

-- ---- the other connections

none_made : (m : Option ℕ) (j : ℕ) {P : Type 0} → m ≡ None → m ≡ Some j → P
none_made m j n e = absurd (let d : None ≡ Some j = sym n ∙ e in cc)

begun_alike : (c : Client) (k j : ℕ) → c.making ≡ None → (j ≡ k → ⊥) → Alike j (seen_of c) (seen_of (open_channel c k))
begun_alike c k j none other = record {
  ready = refl;
  stage = put_other c.stage k (SaidNegotiate c.live) j other;
  making = λ e. none_made c.making j none e;
  live = refl;
  session = refl;
  tree = refl;
  accepted = refl;
  pending = refl;
}

-- ---- the client

apart_by : (b live : Bool) (m : Option ℕ) (k : ℕ) → live ≡ b → m ≡ None → is_some (if b then m else Some k) ≡ true → live ≡ false
apart_by false live m k l n e = l
apart_by true live m k l n e = absurd (let d : false ≡ true = ap (λ (o : Option ℕ). is_some o) (sym n) ∙ e in cc)

abbrev made : World → Begun → ℕ → Option ℕ
made x b k = if is_some b.dialog.bound then x.making else Some k

module _ (z : WorldSettings) (x : World) (w : bytes.World) (k : ℕ) (b : Begun) (m : OpeningMakes x k b) (h : ShowsWorld z x w) where
  own : x.making ≡ None → ShowsOwn z x.client x.accepted (made x b k) (open_channel w.values.client k)
  own none =
      let c = w.values.client in
      let live = live_is z x w k b m h in
      record {
        client = shown_begun x.client.table x.client.attached.items x.client.opened.items x.client.marks.items c k h.own.client;
        kept = kept_begun c k h.own.kept;
        asks = asks_alike c (open_channel c k) refl refl refl refl h.own.asks;
        who = h.own.who;
        accepted_is = h.own.accepted_is;
        making_is = λ t. if live t then h.own.making_is t else Some k;
        apart = λ e. apart_by (is_some b.dialog.bound) c.live x.making k live none e;
      }

  unready : (c : Channel) → slice_get x.channels.items k ≡ Some c → IsFree c x.making → w.values.client.ready k ≡ false
  unready c e f =
      is_readied x.settings x.guid x.keys w.values.client.taken (seen_of w.values.client) w.values.conns w.wires
      x.channels.items h.channels k
      ∙ (ap readied_in e ∙ closed_unready c.client f.client)

  channels_by : (served : Bool) (ys : List Channel) (c : Channel) → slice_get x.channels.items k ≡ Some c → IsFree c x.making
      → OpeningStands served b k x.channels.items ys
      → ShowsChannels x.settings x.guid x.keys w.values.client.taken (seen_of (open_channel w.values.client k))
      (put w.values.conns k (fresh w.values.client k served)) (put w.wires k (fresh_wires z w (greeting_of z w k) served)) ys
  channels_by served ys c e f r =
      let s = seen_of w.values.client in
      let d = seen_of (open_channel w.values.client k) in
      let t = w.values.client.taken in
      let i = fresh w.values.client k served in
      let u = fresh_wires z w (greeting_of z w k) served in
      one_changed x.settings x.guid x.keys t s d (Becomes r.channel) k x.channels.items ys w.values.conns w.wires i u c r.placed e
      (λ v becomes shown. subst (λ (q : Channel). ShowsChannel k x.settings x.guid x.keys t d i u q) (sym becomes)
      (stands z x w k b m h served r.channel r.opened (unready c e f) f.making_is))
      (λ j v other shown. seen_alike j x.settings x.guid x.keys t s d (w.values.conns j) (w.wires j) v
      (begun_alike w.values.client k j (h.own.making_is ∙ f.making_is) other) shown) (λ j other ready. ready) h.channels

  opened_world : (y : World) (draws : ℕ) → opening_refusal (slice_get x.channels.items k) x.making k ≡ None → draws ≡ x.draws + 4
      → OpeningEnters x.book x.channels.items x.moment k b y.book y.channels.items
      → ShowsWorld z (record x { book = y.book; channels = y.channels; making = made x b k; draws = draws }) (opened_wires z w k)
  opened_world y draws due e r =
      let f = free_of x.channels.items x.making k due in
      let told = r.server z.server.users w.values.server w.logons w.values.records h.server in
      let moved : (v : ℕ) → v ≡ w.values.moment → BookTold (step w.values.server v (model.Accept k)) y.book z.server.users w.logons
      w.values.records r.status → BookTold (step w.values.server w.values.moment (model.Accept k)) y.book z.server.users w.logons
      w.values.records r.status = (λ v same p. subst (λ (n : ℕ). BookTold (step w.values.server n (model.Accept k)) y.book
      z.server.users w.logons w.values.records r.status) same p) in
      let here = moved x.moment (sym h.moment) told in
      record {
        settings = h.settings;
        own = own f.2.making_is;
        session = h.session;
        server = here.1;
        moment = h.moment;
        draws = ap (λ (n : ℕ). n + 4) h.draws ∙ sym e;
        places = h.places;
        channels = channels_by ((step w.values.server w.values.moment (model.Accept k)).reply.status == success)
            y.channels.items f.0 f.1 f.2
            (subst (λ (n : ℕ). OpeningStands (n == success) b k x.channels.items y.channels.items) here.0 r.stands);
      }

  -- ---- the event

  pub opens : (y v : World) (draws : ℕ) → opening_refusal (slice_get x.channels.items k) x.making k ≡ None → draws ≡ x.draws + 4
      → OpeningEnters x.book x.channels.items x.moment k b y.book y.channels.items
      → v ≡ record (record x { book = y.book; channels = y.channels; making = made x b k; draws = draws }) { moment = v.moment }
      → v.moment ≡ no_later (x.moment + 1)
      → (step_error w (Plain (Open k)) ≡ None) × ShowsWorld z v (bytes_happen z w (Plain (Open k)))
  opens y v draws due e r late time = (
    due_is z x w k h ∙ due,
    subst (λ (q : Bool). ShowsWorld z v (if q then bytes_later (opened_wires z w k) 1 else w))
        (sym (possible z x w k h due))
        (later_shown z (record x { book = y.book; channels = y.channels; making = made x b k; draws = draws }) v
        (opened_wires z w k) 1 late time
        (opened_world y draws due e r)),
  )
