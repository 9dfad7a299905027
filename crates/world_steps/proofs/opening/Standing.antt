-- A connection whose ends are open, and its dialog begun.
use Rattle.std.proofs.Common.{◌≡◌, ℕ, ◌+◌, ◌≤◌, ◌<◌, ◌^◌, ◌&&◌, Bool, true, false, if◌then◌else◌, refl, sym, ap, subst, ◌∙◌, arith}
use Rattle.std.proofs.Common.{List, [], ◌∷◌, length, take, Option, Some, None, is_some}
use Rattle.client_ends.specs.dialog_calls.Opening.{AreKeysOf, opened_end}
use Rattle.client_ends.specs.dialog_calls.Turning.{previous_in}
use Rattle.conn_core.specs.Shown.{ShowsEnd}
use Rattle.conn_core.specs.declared.conn.Conn.{Conn}
use Rattle.spec_wire.specs.credits.Purse.{after_spend, first_purse}
use Rattle.spec_exchange.specs.Client.{Client, SaidNegotiate}
use Rattle.spec_exchange.specs.Dialogs.{dialog_message, open_channel}
use Rattle.spec_exchange.specs.Network.{ForDialog, Sent, Token, fresh, op_of}
use Rattle.spec_exchange.specs.Table.{put}
use Rattle.client_ends.specs.ends.Shown.{ShowsDialog, token_of}
use Rattle.client_ends.specs.declared.ends.config.Bound.{Bound}
use Rattle.client_ends.specs.declared.ends.dialog.Stage.{Stage as DialogStage}
use Rattle.client_ends.specs.declared.ends.dialog.Stage.TheVariants as stages
use Rattle.spec_crypto.specs.sessions.Nonces.{last_counter}
use Rattle.spec_crypto.specs.declared.sessions.material.Keys.{Keys}
use Rattle.spec_world.specs.Ends.{ClientEnd, first_server_end, no_choice, no_keys}
use Rattle.spec_world.specs.Sending.{greeting_text}
use Rattle.spec_world.specs.Settings.{WorldSettings, draw}
use Rattle.spec_world.specs.World as bytes
use Rattle.spec_world.specs.World.{first_client_end, fresh_wires, greeting_of, salt_of}
use Rattle.world_ends.specs.Channels.{AreDown, AreUp, ChannelGoesOn, IsChannelFor, IsPrevious, ShowsChannel}
use Rattle.world_ends.specs.Channels.{ShowsClientSide, ShowsServerSide, ChannelShowsTalk}
use Rattle.world_ends.specs.Channels.{seen_of, session_at}
use Rattle.world_ends.specs.Shown.{ShowsWorld}
use Rattle.world_ends.specs.declared.sides.Channel.{Channel}
use Rattle.world_ends.specs.declared.sides.ClientSide.{ClientSide}
use Rattle.world_ends.specs.declared.sides.Down.{Down}
use Rattle.world_ends.specs.declared.sides.Up.{Up}
use Rattle.world_ends.specs.declared.world.World.{World}
use Rattle.world_steps.specs.opening.Opening.{IsBoundOf, IsOpened, OpeningMakes, SaysFirst}
use Rattle.world_steps.specs.declared.opening.beginning.Begun.{Begun}
use Rattle.world_steps.proofs.opening.Drawn.{whole}
use Rattle.world_steps.proofs.CutOff.{put_own}

-- ---- what a dialog is for

pub live_as : (keys : Keys) (c : Client) (o : Option Bound) → IsBoundOf keys c o → c.live ≡ is_some o
live_as keys c None h = h
live_as keys c (Some b) h = h.0

same_keys : (keys : Keys) (c : Client) (o : Option Bound) (mine none : Keys) → (is_some o ≡ true → mine ≡ keys) → IsBoundOf keys c o
    → AreKeysOf o (if c.live then mine else none)
same_keys keys c None mine none e h = tt
same_keys keys c (Some b) mine none e h = (λ t. if h.0 t then mine else none) ∙ (e refl ∙ sym h.3)

-- ---- by the columns that it looks at

abbrev end_with : Bool → List ℕ → List ℕ → List ℕ → Keys → Bool → ClientEnd
end_with bound base challenge greeting keys encrypts = record {
  stage = SaidNegotiate bound;
  purse = after_spend 1 first_purse;
  awaited = put (λ id. None) 0 (Some ForDialog);
  base = base;
  challenge = challenge;
  chosen = no_choice;
  transcript = greeting ∷ [];
  keys = keys;
  encrypts = encrypts;
  channel = 0;
  counter = 0;
}

module _ (z : WorldSettings) (x : World) (w : bytes.World) (k : ℕ) (b : Begun) (m : OpeningMakes x k b) (h : ShowsWorld z x w) where
  bound_is : IsBoundOf x.keys w.values.client m.bound
  bound_is = m.live w.values.client h.own.client

  pub live_is : w.values.client.live ≡ is_some b.dialog.bound
  live_is = live_as x.keys w.values.client m.bound bound_is ∙ ap (λ (o : Option Bound). is_some o) (sym m.begins.bound)

  draw_is : (i : ℕ) → draw x.seed (x.draws + i) ≡ draw z.seed (w.draws + i)
  draw_is i = λ t. draw (sym h.settings.seed_is t) (sym h.draws t + i)

  salt_is : m.fresh.salt ≡ salt_of z w
  salt_is = m.drawn.salt ∙ ((λ t. draw (sym h.settings.seed_is t) (sym h.draws t)) ∙ sym (whole z.seed w.draws))

  greeting_is : b.greeting ≡ greeting_of z w k
  greeting_is =
      let c = w.values.client in
      let said = dialog_message c k 0 (SaidNegotiate c.live) in
      m.begins.said said (record { number = refl; logon = refl; tree = refl; sequence = refl; replay = refl })
      ∙ (λ t. greeting_text (sym h.settings.client t) (salt_is t) said)

  end_is : opened_end m.fresh (is_some m.bound) (if w.values.client.live then w.keys else no_keys) (w.values.client.live
      && w.encrypts) b.greeting
      ≡ first_client_end z w (greeting_of z w k)
  end_is =
      let c = w.values.client in
      let live = live_as x.keys c m.bound bound_is in
      let key = m.drawn.key ∙ ap (λ (v : List ℕ). take 16 v) (draw_is 2) in
      let challenge = m.drawn.challenge ∙ ap (λ (v : List ℕ). take 8 v) (draw_is 1) in
      (λ t. end_with (sym live t) (key t) (challenge t) (greeting_is t) (if c.live then w.keys else no_keys) (c.live && w.encrypts))

  dialog_shown : ShowsDialog b.dialog (first_client_end z w (greeting_of z w k))
  dialog_shown =
      let c = w.values.client in
      let keys : Keys = if c.live then w.keys else no_keys in
      let keys_are : is_some m.bound ≡ true → w.keys ≡ x.keys =
      (λ some. h.session.keys_are (subst (λ (n : ℕ). 0 < n) (sym h.session.numbers_are) (m.counted some))) in
      subst (λ (n : ClientEnd). ShowsDialog b.dialog n) end_is
      (m.begins.shown keys (c.live && w.encrypts) (same_keys x.keys c m.bound w.keys no_keys keys_are bound_is))

  -- at its first stage
  at_first : (P : DialogStage → Type 0) → P stages.SaidNegotiate → P b.dialog.stage
  at_first P p = subst P (sym m.begins.stage) p

  own_by : (o : Option Bound) → m.bound ≡ o → x.making ≡ None → IsChannelFor k x.keys (seen_of (open_channel w.values.client k)) b.dialog o
  own_by None e none =
      let c = w.values.client in
      let free : c.live ≡ false = subst (λ (v : Option Bound). IsBoundOf x.keys c v) e bound_is in
      let before : b.dialog.previous ≡ c.accepted =
      m.begins.previous ∙ (ap (λ (v : Option Bound). previous_in v x.accepted) e ∙ sym h.own.accepted_is) in
      record {
        making = λ t. if free t then c.making else Some k;
        apart = free;
        previous = at_first (λ s. IsPrevious s b.dialog.previous c.accepted) before;
        session = at_first (λ s. b.dialog.session ≡ session_at s c.pending) m.begins.session;
      }
  own_by (Some v) e none =
      let c = w.values.client in
      let to : IsBoundOf x.keys c (Some v) = subst (λ (o : Option Bound). IsBoundOf x.keys c o) e bound_is in
      record {
        live = to.0;
        session = to.1;
        tree = to.2;
        keys_are = to.3;
        known = subst (λ (q : Keys). q.cipher ≤ 4) (sym to.3) h.session.known;
      }

  talk : w.values.client.ready k ≡ false → x.making ≡ None
      → ChannelShowsTalk k x.settings x.keys (seen_of (open_channel w.values.client k)) (first_client_end z w (greeting_of z w k)) b.dialog
  talk unready none =
      let c = w.values.client in
      record {
        goes_on = at_first (λ s. ChannelGoesOn s) tt;
        shown = dialog_shown;
        stage = put_own c.stage k (SaidNegotiate c.live);
        unready = unready;
        config = m.begins.config;
        own = subst (λ (o : Option Bound). IsChannelFor k x.keys (seen_of (open_channel c k)) b.dialog o) (sym m.begins.bound)
            (own_by m.bound refl none);
      }

  server_by : (served : Bool) → ShowsServerSide k x.guid served (first_server_end (take 32 (draw z.seed (w.draws + 3))))
      (if served then Some b.conn else None)
  server_by false = refl
  server_by true = (
    refl,
    subst (λ (v : List ℕ). ShowsEnd k x.guid b.conn (first_server_end v))
        (draw_is 3 ∙ sym (whole z.seed (w.draws + 3))) m.conn,
    least,
  )
    where
      least : 0 ≤ last_counter
      least = omega arith

  none_below : (n : ℕ) → 0 ≤ n
  none_below n = omega arith

  up_by : (served : Bool) (us : List Up) (first : Sent) → first.token ≡ ForDialog → SaysFirst served b.greeting us
      → AreUp w.values.client.taken us (if served then greeting_of z w k ∷ [] else []) (if served then first ∷ [] else [])
  up_by false us first token e = subst (λ (v : List Up). AreUp w.values.client.taken v [] []) (sym e) tt
  up_by true us first token e =
      subst (λ (v : List Up). AreUp w.values.client.taken v (greeting_of z w k ∷ []) (first ∷ [])) (sym e.list) (
        record {
          bytes = sym (e.bytes ∙ greeting_is);
          token = token ∙ ap (λ (n : ℕ). token_of n) (sym e.token_is);
          below = subst (λ (v : Token). op_of v ≤ w.values.client.taken) (sym token) (none_below w.values.client.taken);
          short = subst (λ (v : List ℕ). length v < 2 ^ 60) greeting_is e.short;
        },
        tt,
      )

  pub stands : (served : Bool) (y : Channel) → IsOpened served b y → w.values.client.ready k ≡ false → x.making ≡ None
      → ShowsChannel k x.settings x.guid x.keys w.values.client.taken (seen_of (open_channel w.values.client k))
      (fresh w.values.client k served) (fresh_wires z w (greeting_of z w k) served) y
  stands served y o unready none =
      let c = w.values.client in
      record {
        client = subst (λ (v : ClientSide). ShowsClientSide k x.settings x.keys (seen_of (open_channel c k)) true
            (first_client_end z w (greeting_of z w k)) v) (sym o.client) (refl, talk unready none);
        server = subst (λ (v : Option Conn). ShowsServerSide k x.guid served
            (first_server_end (take 32 (draw z.seed (w.draws + 3)))) v) (sym o.server) (server_by served);
        up = up_by served y.up.items (record { token = ForDialog; message = dialog_message c k 0 (SaidNegotiate c.live) }) refl o.up;
        down = subst (λ (v : List Down). AreDown v [] []) (sym o.down) tt;
      }
