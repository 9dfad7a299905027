-- A dialog goes on: its SESSION_SETUP goes up.
use Rattle.std.proofs.Common.{◌≡◌, ℕ, ◌≤◌, ◌<◌, ◌^◌, Bool, true, false, refl, sym, ap, subst, ◌∙◌, arith}
use Rattle.std.proofs.Common.{List, [], ◌∷◌, ◌++◌, length, slice_get, Option, Some, None, is_some}
use Rattle.client_events.proofs.world_law.Columns.{gone_on as kept_on}
use Rattle.client_events.proofs.world_law.Events.{asks_alike}
use Rattle.conn_core.specs.declared.conn.Conn.{Conn}
use Rattle.spec_exchange.specs.Client.{Client, Stage}
use Rattle.spec_exchange.specs.Dialogs.{dialog_message, went_on}
use Rattle.spec_exchange.specs.Network.{ForDialog, Sent, dialog_sent, send_up, with_client}
use Rattle.spec_exchange.specs.State.{Message, Reply}
use Rattle.spec_exchange.specs.Table.{put}
use Rattle.client_steps.proofs.free_columns.Columns.{gone_on as shown_on}
use Rattle.client_ends.specs.ends.Shown.{ShowsDialog, token_of}
use Rattle.client_ends.specs.declared.ends.config.Bound.{Bound}
use Rattle.client_ends.specs.declared.ends.dialog.Dialog.{Dialog}
use Rattle.client_ends.specs.declared.ends.dialog.Stage.TheVariants as stages
use Rattle.spec_world.specs.Ends.{ClientEnd}
use Rattle.spec_world.specs.Sending.{setup_frame, spent}
use Rattle.spec_world.specs.Settings.{WorldSettings}
use Rattle.spec_world.specs.World as bytes
use Rattle.spec_world.specs.World.{Wires, noted_sent, previous_of, queued, setup_sent, with_client_end, with_values}
use Rattle.world_ends.specs.Channels.{AreDown, AreUp, IsChannelFor, IsUp, ShowsChannel, ShowsClientSide}
use Rattle.world_ends.specs.Channels.{ShowsServerSide, ChannelShowsTalk, seen_of}
use Rattle.world_ends.specs.Shown.{ShowsOwn, ShowsWorld}
use Rattle.world_ends.specs.declared.sides.Channel.{Channel}
use Rattle.world_ends.specs.declared.sides.ClientSide.{ClientSide}
use Rattle.world_ends.specs.declared.sides.Down.{Down}
use Rattle.world_ends.specs.declared.sides.Up.{Up}
use Rattle.world_ends.specs.declared.world.World.{World}
use Rattle.world_steps.specs.opening.Opening.{IsOpeningSaid}
use Rattle.world_steps.specs.opening.Putting.{Becomes}
use Rattle.world_steps.specs.Lists.{ChangedAt}
use Rattle.world_steps.proofs.Closing.{one_changed}
use Rattle.world_steps.specs.dialogs.Turned.{TalksOn}
use Rattle.world_steps.proofs.dialogs.Faces.{Faces}
use Rattle.world_steps.proofs.dialogs.Judged.{IsAsked}
use Rattle.world_steps.proofs.dialogs.Near.{Near, put_here, put_last, put_there, seen_near}
use Rattle.world_steps.proofs.dialogs.Popped.{facing}
use Rattle.world_steps.proofs.dialogs.Stages.{goes_by}

-- ---- a frame more goes up

pub up_more : (t : ℕ) (us : List Up) (bs : List (List ℕ)) (xs : List Sent) (u : Up) (b : List ℕ) (x : Sent) → AreUp t us bs xs
    → IsUp t u b x → AreUp t (us ++ u ∷ []) (bs ++ b ∷ []) (xs ++ x ∷ [])
up_more t [] [] [] u b x h i = (i, tt)
up_more t (p ∷ us) (c ∷ bs) (y ∷ xs) u b x h i = (h.0, up_more t us bs xs u b x h.1 i)
up_more t [] [] (y ∷ xs) u b x h i = absurd h
up_more t [] (c ∷ bs) [] u b x h i = absurd h
up_more t [] (c ∷ bs) (y ∷ xs) u b x h i = absurd h
up_more t (p ∷ us) [] [] u b x h i = absurd h
up_more t (p ∷ us) [] (y ∷ xs) u b x h i = absurd h
up_more t (p ∷ us) (c ∷ bs) [] u b x h i = absurd h

none_below : (n : ℕ) → 0 ≤ n
none_below n = omega arith

-- a dialog's message
pub up_said : (t : ℕ) (us vs : List Up) (bs : List (List ℕ)) (xs : List Sent) (frame b : List ℕ) (m : Message) → IsOpeningSaid us 0 frame vs
    → frame ≡ b → AreUp t us bs xs → AreUp t vs (bs ++ b ∷ []) (xs ++ record { token = ForDialog; message = m } ∷ [])
up_said t us vs bs xs frame b m s e h =
    subst (λ (v : List Up). AreUp t v (bs ++ b ∷ []) (xs ++ record { token = ForDialog; message = m } ∷ [])) (sym s.list)
    (up_more t us bs xs s.said b (record { token = ForDialog; message = m }) h (record {
      bytes = sym (s.bytes ∙ e);
      token = ap (λ (n : ℕ). token_of n) (sym s.token_is);
      below = none_below t;
      short = subst (λ (v : List ℕ). length v < 2 ^ 60) e s.short;
    }))

-- ---- no other session is in the making

some_same : (j k : ℕ) → Some j ≡ Some k → j ≡ k
some_same j k e = cc

false_true : false ≡ true → ⊥
false_true e = absurd (cc)

module _ (z : WorldSettings) (x : World) (w : bytes.World) (k : ℕ) (d : Dialog) (rest : Channel) (xs : List Channel) (f : Faces z x xs w)
    (there : slice_get xs k ≡ Some (facing d rest)) where
  pub here : ShowsChannel k x.settings x.guid x.keys w.values.client.taken (seen_of w.values.client) (w.values.conns k) (w.wires k)
      (facing d rest)
  here = f.channels.each k (facing d rest) there

  pub talk : ChannelShowsTalk k x.settings x.keys (seen_of w.values.client) (w.wires k).client_end d
  talk = here.client.1

  alone_by : (o : Option Bound) → IsChannelFor k x.keys (seen_of w.values.client) d o → (j : ℕ) → (j ≡ k → ⊥)
      → w.values.client.making ≡ Some j → ⊥
  alone_by None own j other e = other (some_same j k (sym e ∙ own.making))
  alone_by (Some b) own j other e =
      let made : is_some x.making ≡ true = ap (λ (m : Option ℕ). is_some m) (sym f.own.making_is ∙ e) in
      false_true (sym (f.own.apart made) ∙ own.live)

  pub alone : (j : ℕ) → (j ≡ k → ⊥) → w.values.client.making ≡ Some j → ⊥
  alone j other e = alone_by d.bound talk.own j other e

  -- ---- the definitions' step, each table changed once

  abbrev frame_of : ClientEnd → Client → Stage → Bool → List ℕ → List ℕ
  frame_of n c next b token = setup_frame n b (previous_of c b) token (dialog_message c k n.purse.next next)

  abbrev behind_setup : Wires → Client → Stage → Bool → List ℕ → Wires
  behind_setup u c next b token =
      queued u (noted_sent (spent u.client_end 1 ForDialog) next (frame_of u.client_end c next b token))
      (frame_of u.client_end c next b token)

  abbrev pub setup_flat : ClientEnd → Client → Stage → Bool → List ℕ → bytes.World
  setup_flat n c next b token = record w {
    values = dialog_sent (with_client w.values c) k next;
    wires = put w.wires k (behind_setup (record (w.wires k) { client_end = n }) c next b token);
  }

  abbrev pub setup_went : ClientEnd → Client → Stage → Bool → List ℕ → bytes.World
  setup_went n c next b token =
      with_values (setup_sent (with_client_end (with_values w (with_client w.values c)) k n) k next b token)
      (dialog_sent (with_client w.values c) k next)

  pub setup_is : (n : ClientEnd) (c : Client) (next : Stage) (b : Bool) (token : List ℕ)
      → setup_went n c next b token ≡ setup_flat n c next b token
  setup_is n c next b token =
      let u = record (w.wires k) { client_end = n } in
      ap (λ (v : Wires). record w {
        values = dialog_sent (with_client w.values c) k next;
        wires = put (put w.wires k u) k (behind_setup v c next b token);
      }) (put_here w.wires k u)
      ∙ ap (λ (v : ℕ → Wires). record w { values = dialog_sent (with_client w.values c) k next; wires = v })
      (put_last w.wires k u (behind_setup u c next b token))

  -- ---- the world behind it

  went_near : (next : Stage) (r : Reply) (j : ℕ) → (j ≡ k → ⊥)
      → Near j (seen_of w.values.client) (seen_of (went_on w.values.client k next r))
  went_near next r j other = record {
    making = alone j other;
    ready = refl;
    stage = put_there w.values.client.stage k next j other;
    live = λ e. e;
    session = λ e. refl;
    tree = λ e. refl;
  }

  went_own : (next : Stage) (r : Reply) → ShowsOwn z x.client x.accepted x.making (went_on w.values.client k next r)
  went_own next r = record {
    client = shown_on x.client.table x.client.attached.items x.client.opened.items x.client.marks.items w.values.client k next r
        f.own.client;
    kept = kept_on w.values.client k next r f.own.kept;
    asks = asks_alike w.values.client (went_on w.values.client k next r) refl refl refl refl f.own.asks;
    who = f.own.who;
    accepted_is = f.own.accepted_is;
    making_is = f.own.making_is;
    apart = f.own.apart;
  }

  -- what it takes of the dialog behind the step
  pub record Went (n : ClientEnd) (next : Stage) (r : Reply) (b : Bool) (token : List ℕ) (e : Dialog) (frame : List ℕ) : Type 0 where
    pub asked : IsAsked next
    pub shown : ShowsDialog e (noted_sent (spent n 1 ForDialog) next frame)
    pub config : e.config ≡ d.config
    pub own : IsChannelFor k x.keys (seen_of (went_on w.values.client k next r)) e e.bound
    pub frame_is : frame ≡ frame_of n (went_on w.values.client k next r) next b token

  went_here : (n : ClientEnd) (next : Stage) (r : Reply) (b : Bool) (token : List ℕ) (e : Dialog) (frame : List ℕ) (v : Channel)
      → Went n next r b token e frame → TalksOn rest e frame v
      → ShowsChannel k x.settings x.guid x.keys w.values.client.taken (seen_of (went_on w.values.client k next r))
      (send_up (w.values.conns k) ForDialog
      (dialog_message (went_on w.values.client k next r) k (w.values.conns k).next_id next) 1)
      (behind_setup (record (w.wires k) { client_end = n }) (went_on w.values.client k next r) next b token) v
  went_here n next r b token e frame v g t =
      let c = went_on w.values.client k next r in
      let s = seen_of c in
      let final = frame_of n c next b token in
      let end = noted_sent (spent n 1 ForDialog) next final in
      let shown : ShowsDialog e end =
      subst (λ (m : List ℕ). ShowsDialog e (noted_sent (spent n 1 ForDialog) next m)) g.frame_is g.shown in
      record {
        client = subst (λ (q : ClientSide). ShowsClientSide k x.settings x.keys s (w.values.conns k).client_open end q) (sym t.client) (
          here.client.0,
          record {
            goes_on = goes_by e.stage (is_some e.bound) next shown.stage g.asked;
            shown = shown;
            stage = put_here w.values.client.stage k next;
            unready = talk.unready;
            config = g.config ∙ talk.config;
            own = g.own;
          },
        );
        server = subst (λ (q : Option Conn). ShowsServerSide k x.guid (w.values.conns k).server_open
            (w.wires k).server_end q) (sym t.server)
            here.server;
        up = up_said w.values.client.taken rest.up.items v.up.items (w.wires k).up (w.values.conns k).up frame final
            (dialog_message c k (w.values.conns k).next_id next) t.up g.frame_is here.up;
        down = subst (λ (q : List Down). AreDown q (w.wires k).down (w.values.conns k).down) (sym t.down) here.down;
      }

  pub said_built : (n : ClientEnd) (next : Stage) (r : Reply) (b : Bool) (token : List ℕ) (e : Dialog) (frame : List ℕ) (v : Channel)
      (y : World) → Went n next r b token e frame → TalksOn rest e frame v → ChangedAt (Becomes v) k xs y.channels.items
      → ShowsWorld z (record x { channels = y.channels }) (setup_flat n (went_on w.values.client k next r) next b token)
  said_built n next r b token e frame v y g t placed =
      let c = went_on w.values.client k next r in
      let i = send_up (w.values.conns k) ForDialog (dialog_message c k (w.values.conns k).next_id next) 1 in
      let u = behind_setup (record (w.wires k) { client_end = n }) c next b token in
      record {
        settings = f.settings;
        own = went_own next r;
        session = f.session;
        server = f.server;
        moment = f.moment;
        draws = f.draws;
        places = f.places;
        channels = one_changed x.settings x.guid x.keys w.values.client.taken (seen_of w.values.client) (seen_of c) (Becomes v) k xs
            y.channels.items w.values.conns w.wires i u (facing d rest) placed there
            (λ q becomes shown. subst (λ (o : Channel). ShowsChannel k x.settings x.guid x.keys w.values.client.taken (seen_of c) i u o)
            (sym becomes) (went_here n next r b token e frame v g t))
            (λ j q other shown. seen_near j x.settings x.guid x.keys w.values.client.taken (seen_of w.values.client) (seen_of c)
            (w.values.conns j) (w.wires j) q (went_near next r j other) shown) (λ j other ready. ready) f.channels;
      }
