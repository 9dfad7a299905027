-- What is tested of a connection in code is what the definitions test.
use Rattle.std.proofs.Common.{◌≡◌, ℕ, ◌&&◌, ◌||◌, not, Bool, true, false, refl, sym, ap, ◌∙◌, slice_get, Option}
use Rattle.std.proofs.Common.{Some, None, is_some}
use Rattle.spec_exchange.specs.Client.{Stage}
use Rattle.spec_exchange.specs.Client as client
use Rattle.spec_exchange.specs.Network.{may_serve, may_take_reply}
use Rattle.spec_exchange.specs.Schedules.{both_open, hangs, has_more, is_apart, is_linking, is_orphan, is_talking}
use Rattle.spec_exchange.specs.Table.{is_filled}
use Rattle.client_ends.specs.ends.Shown.{IsStage}
use Rattle.client_ends.specs.declared.ends.dialog.Stage.{Stage as DialogStage}
use Rattle.client_ends.specs.declared.ends.dialog.Stage.TheVariants as stages
use Rattle.spec_crypto.specs.declared.sessions.material.Keys.{Keys}
use Rattle.client_ends.specs.declared.ends.config.ClientConfig.{ClientConfig}
use Rattle.spec_world.specs.Ends.{ClientEnd}
use Rattle.spec_world.specs.Settings.{WorldSettings}
use Rattle.spec_world.specs.World as bytes
use Rattle.world_ends.specs.Channels.{ChannelGoesOn, ChannelSeen, ShowsClientSide, seen_of}
use Rattle.world_ends.specs.Shown.{ShowsWorld}
use Rattle.world_ends.specs.Tests.{is_open, opened_in, readied_in, served_in}
use Rattle.world_ends.specs.declared.sides.Channel.{Channel}
use Rattle.world_ends.specs.declared.sides.ClientSide.{ClientSide}
use Rattle.world_ends.specs.declared.sides.ClientSide.TheVariants.{Closed, Talks, Ready}
use Rattle.world_ends.specs.declared.world.World.{World}
use Rattle.drill_command.specs.settling.Tests.{alone_in, apart_in, hanging_in, linking_in, more_in, orphan_in, serving_in, taking_in}
use Rattle.drill_command.specs.settling.Tests.{talks}
use Rattle.world_steps.proofs.events.Unmet.{both_false, down_there, up_there}
use Rattle.world_steps.proofs.Closing.{is_opened, is_readied, is_served}
use Rattle.world_steps.proofs.Tampered.{filled_down, filled_up}

-- ---- a dialog that goes on is in one of its stages

talking_stage : (s : DialogStage) (bound : Bool) (t : Stage) → ChannelGoesOn s → IsStage s bound t → is_talking t ≡ true
unfolding is_talking
talking_stage stages.SaidNegotiate bound t g e = ap is_talking e
talking_stage stages.SaidFirst bound t g e = ap is_talking e
talking_stage stages.SaidSecond bound t g e = ap is_talking e
talking_stage stages.AskedTree bound t g e = ap is_talking e
talking_stage stages.Joined bound t g e = absurd g
talking_stage (stages.Refused why) bound t g e = absurd g
talking_stage stages.Over bound t g e = absurd g

apart_stage : (t : Stage) → t ≡ client.Apart → is_talking t ≡ false
unfolding is_talking
apart_stage t e = ap is_talking e

closed_first : (o a b : Bool) → o ≡ false → (o && a) ≡ (false && b)
closed_first true a b e = absurd (cc)
closed_first false a b e = refl

-- of a client's end
hanging_side : (k : ℕ) (s : ClientConfig) (keys : Keys) (c : ChannelSeen) (there served : Bool) (n : ClientEnd) (v : ClientSide)
    → ShowsClientSide k s keys c there n v
    → (there && (not served || is_talking (c.stage k))) ≡ (is_open v && (not served || talks v))
hanging_side k s keys c there served n Closed h = closed_first there (not served || is_talking (c.stage k)) (not served || false) h.0
hanging_side k s keys c there served n (Talks d) h =
    ap (λ (b : Bool). b && (not served || is_talking (c.stage k))) h.0
    ∙ ap (λ (b : Bool). true && (not served || b))
    (ap is_talking h.1.stage ∙ talking_stage d.stage (is_some d.bound) n.stage h.1.goes_on h.1.shown.stage)
hanging_side k s keys c there served n (Ready l) h =
    ap (λ (b : Bool). b && (not served || is_talking (c.stage k))) h.0
    ∙ ap (λ (b : Bool). true && (not served || b)) (apart_stage (c.stage k) h.1.apart)

module _ (z : WorldSettings) (x : World) (w : bytes.World) (k : ℕ) (h : ShowsWorld z x w) where
  opened : (w.values.conns k).client_open ≡ opened_in (slice_get x.channels.items k)
  opened = is_opened x.settings x.guid x.keys w.values.client.taken (seen_of w.values.client) w.values.conns w.wires
      x.channels.items h.channels k

  served : (w.values.conns k).server_open ≡ served_in (slice_get x.channels.items k)
  served = is_served x.settings x.guid x.keys w.values.client.taken (seen_of w.values.client) w.values.conns w.wires
      x.channels.items h.channels k

  pub readied : w.values.client.ready k ≡ readied_in (slice_get x.channels.items k)
  readied = is_readied x.settings x.guid x.keys w.values.client.taken (seen_of w.values.client) w.values.conns w.wires
      x.channels.items h.channels k

  pub linking_is : is_linking w.values k ≡ linking_in (slice_get x.channels.items k)
  unfolding is_linking both_open
  linking_is =
      ap (λ (b : Bool). (b && (w.values.conns k).server_open) && not (w.values.client.ready k)) opened
      ∙ (ap (λ (b : Bool). (opened_in (slice_get x.channels.items k) && b) && not (w.values.client.ready k)) served
      ∙ ap (λ (b : Bool). (opened_in (slice_get x.channels.items k) && served_in (slice_get x.channels.items k)) && not b) readied)

  up_by : (o : Option Channel) → slice_get x.channels.items k ≡ o → may_serve w.values k ≡ serving_in o
  up_by None e = both_false (w.values.conns k).server_open (is_filled (w.values.conns k).up) (h.channels.beyond k e).1
  up_by (Some u) e =
      let s = h.channels.each k u e in
      let t = w.values.client.taken in
      ap (λ (b : Bool). b && is_filled (w.values.conns k).up) (served ∙ ap served_in e)
      ∙ ap (λ (b : Bool). served_in (Some u) && b)
      (sym (up_there t u.up.items (w.wires k).up (w.values.conns k).up s.up)
      ∙ filled_up t u.up.items (w.wires k).up (w.values.conns k).up s.up)

  pub serving_is : may_serve w.values k ≡ serving_in (slice_get x.channels.items k)
  serving_is = up_by (slice_get x.channels.items k) refl

  down_by : (o : Option Channel) → slice_get x.channels.items k ≡ o → may_take_reply w.values k ≡ taking_in o
  down_by None e = both_false (w.values.conns k).client_open (is_filled (w.values.conns k).down) (h.channels.beyond k e).0
  down_by (Some u) e =
      let s = h.channels.each k u e in
      ap (λ (b : Bool). b && is_filled (w.values.conns k).down) (opened ∙ ap opened_in e)
      ∙ ap (λ (b : Bool). opened_in (Some u) && b)
      (sym (down_there u.down.items (w.wires k).down (w.values.conns k).down s.down)
      ∙ filled_down u.down.items (w.wires k).down (w.values.conns k).down s.down)

  pub taking_is : may_take_reply w.values k ≡ taking_in (slice_get x.channels.items k)
  taking_is = down_by (slice_get x.channels.items k) refl

  more_by : (o : Option Channel) → slice_get x.channels.items k ≡ o → has_more w.values k ≡ more_in o
  unfolding has_more both_open
  more_by None e =
      both_false ((w.values.conns k).client_open && (w.values.conns k).server_open)
      (is_filled (w.values.conns k).up || is_filled (w.values.conns k).down)
      (both_false (w.values.conns k).client_open (w.values.conns k).server_open (h.channels.beyond k e).0)
  more_by (Some u) e =
      let s = h.channels.each k u e in
      let t = w.values.client.taken in
      let up : is_filled (w.values.conns k).up ≡ is_filled u.up.items =
      sym (up_there t u.up.items (w.wires k).up (w.values.conns k).up s.up)
      ∙ filled_up t u.up.items (w.wires k).up (w.values.conns k).up s.up in
      let down : is_filled (w.values.conns k).down ≡ is_filled u.down.items =
      sym (down_there u.down.items (w.wires k).down (w.values.conns k).down s.down)
      ∙ filled_down u.down.items (w.wires k).down (w.values.conns k).down s.down in
      ap (λ (b : Bool). (b && (w.values.conns k).server_open) && (is_filled (w.values.conns k).up || is_filled (w.values.conns k).down))
      (opened ∙ ap opened_in e)
      ∙ (ap (λ (b : Bool). (opened_in (Some u) && b) && (is_filled (w.values.conns k).up || is_filled (w.values.conns k).down))
      (served ∙ ap served_in e)
      ∙ (ap (λ (b : Bool). (opened_in (Some u) && served_in (Some u)) && (b || is_filled (w.values.conns k).down)) up
      ∙ ap (λ (b : Bool). (opened_in (Some u) && served_in (Some u)) && (is_filled u.up.items || b)) down))

  pub more_is : has_more w.values k ≡ more_in (slice_get x.channels.items k)
  more_is = more_by (slice_get x.channels.items k) refl

  hanging_by : (o : Option Channel) → slice_get x.channels.items k ≡ o → hangs w.values k ≡ hanging_in o
  unfolding hangs
  hanging_by None e =
      both_false (w.values.conns k).client_open (not (w.values.conns k).server_open || is_talking (w.values.client.stage k))
      (h.channels.beyond k e).0
  hanging_by (Some u) e =
      ap (λ (b : Bool). (w.values.conns k).client_open && (not b || is_talking (w.values.client.stage k))) (served ∙ ap served_in e)
      ∙ hanging_side k x.settings x.keys (seen_of w.values.client) (w.values.conns k).client_open (served_in (Some u))
      (w.wires k).client_end
      u.client (h.channels.each k u e).client

  pub hanging_is : hangs w.values k ≡ hanging_in (slice_get x.channels.items k)
  hanging_is = hanging_by (slice_get x.channels.items k) refl

  pub orphan_is : is_orphan w.values k ≡ orphan_in (slice_get x.channels.items k)
  unfolding is_orphan
  orphan_is =
      ap (λ (b : Bool). b && not (w.values.conns k).client_open) served
      ∙ ap (λ (b : Bool). served_in (slice_get x.channels.items k) && not b) opened

  pub alone_is : ((w.values.conns k).client_open && not (w.values.conns k).server_open) ≡ alone_in (slice_get x.channels.items k)
  alone_is =
      ap (λ (b : Bool). b && not (w.values.conns k).server_open) opened
      ∙ ap (λ (b : Bool). opened_in (slice_get x.channels.items k) && not b) served

  pub apart_is : is_apart w.values k ≡ apart_in (slice_get x.channels.items k)
  unfolding is_apart
  apart_is =
      ap (λ (b : Bool). not b && not (w.values.conns k).server_open) opened
      ∙ ap (λ (b : Bool). not (opened_in (slice_get x.channels.items k)) && not b) served
