-- A session is accepted: its TREE_CONNECT goes up.
use Rattle.std.proofs.Common.{◌≡◌, ℕ, ◌+◌, ◌≤◌, ◌&&◌, nat_le, Bool, true, false, if◌then◌else◌, refl, sym, ap, subst, ◌∙◌, arith}
use Rattle.std.proofs.Common.{List, [], ◌∷◌, ◌++◌, slice_get, Option, Some, None, is_some}
use Rattle.std.proofs.lemmas.Bool.Decides.{nat_tests}
use Rattle.client_ends.specs.dialog_calls.Turning.{DialogAccepts}
use Rattle.client_ends.specs.declared.dialog_calls.heard.Heard.TheVariants as heards
use Rattle.client_events.proofs.world_law.Columns.{taken as kept_taken}
use Rattle.client_events.proofs.world_law.Events.{asks_alike}
use Rattle.conn_core.specs.declared.conn.Conn.{Conn}
use Rattle.spec_exchange.specs.Commands.{TreeConnect}
use Rattle.spec_exchange.specs.Client.{AskedTree, SaidSecond, Stage}
use Rattle.spec_exchange.specs.Dialogs.{Accepts as AcceptsStep, accepted, dialog_message}
use Rattle.spec_exchange.specs.Network.{Conn as Link, ForDialog, dialog_sent, send_up, with_client}
use Rattle.spec_exchange.specs.State.{Message}
use Rattle.spec_exchange.specs.Table.{put}
use Rattle.client_steps.proofs.free_columns.Columns.{taken as shown_taken}
use Rattle.client_ends.specs.ends.Shown.{IsStage, ShowsDialog, ShowsStage}
use Rattle.client_ends.specs.declared.ends.config.Bound.{Bound}
use Rattle.client_ends.specs.declared.ends.config.ClientConfig.{ClientConfig}
use Rattle.client_ends.specs.declared.ends.dialog.Dialog.{Dialog}
use Rattle.client_ends.specs.declared.ends.dialog.Stage.{Stage as DialogStage}
use Rattle.client_ends.specs.declared.ends.dialog.Stage.TheVariants as stages
use Rattle.spec_crypto.specs.sessions.Choice.{is_cipher}
use Rattle.spec_crypto.specs.sessions.Derivation.{known}
use Rattle.spec_crypto.specs.declared.sessions.choice.Chosen.{Chosen}
use Rattle.spec_crypto.specs.declared.sessions.material.Keys.{Keys}
use Rattle.spec_world.specs.Dialog.{accepted_end, ended_on, own_final, seals_told}
use Rattle.spec_world.specs.Ends.{ClientEnd}
use Rattle.spec_world.specs.Messages.{HeardMessage}
use Rattle.spec_world.specs.Sending.{line_frame, seal_sent, sealed_on, spent}
use Rattle.spec_world.specs.Settings.{WorldSettings}
use Rattle.spec_world.specs.World as bytes
use Rattle.spec_world.specs.World.{Wires, queued}
use Rattle.world_ends.specs.Channels.{AreDown, IsChannelFor, IsMaking, IsPrevious, ChannelSeen, ShowsChannel}
use Rattle.world_ends.specs.Channels.{ShowsChannels, ShowsClientSide}
use Rattle.world_ends.specs.Channels.{ShowsServerSide, seen_of, session_at}
use Rattle.world_ends.specs.Shown.{ShowsWorld}
use Rattle.world_ends.specs.declared.sides.Channel.{Channel}
use Rattle.world_ends.specs.declared.sides.ClientSide.{ClientSide}
use Rattle.world_ends.specs.declared.sides.ClientSide.TheVariants.{Closed, Ready, Talks}
use Rattle.world_ends.specs.declared.sides.Down.{Down}
use Rattle.world_ends.specs.declared.world.World.{World}
use Rattle.world_steps.specs.opening.Putting.{Becomes}
use Rattle.world_steps.specs.Lists.{ChangedAt}
use Rattle.world_steps.proofs.Closing.{one_changed}
use Rattle.world_steps.specs.dialogs.Turned.{TalksOn}
use Rattle.world_steps.proofs.dialogs.Faces.{Faces}
use Rattle.world_steps.proofs.dialogs.Judged.{taken_as}
use Rattle.world_steps.proofs.dialogs.Near.{Near, put_here, put_last, put_there, seen_near}
use Rattle.world_steps.proofs.dialogs.Popped.{facing}
use Rattle.world_steps.proofs.dialogs.Said.{alone, talk, up_said}
use Rattle.world_steps.proofs.dialogs.Stages.{asks_as, bound_second, goes_by, second_as}

-- ---- while no session is live, no connection looks at its keys

false_true : false ≡ true → ⊥
false_true e = absurd (cc)

own_keyed : (j : ℕ) (old new : Keys) (c : ChannelSeen) (d : Dialog) (o : Option Bound) → c.live ≡ false
    → IsChannelFor j old c d o → IsChannelFor j new c d o
own_keyed j old new c d None dead h = h
own_keyed j old new c d (Some b) dead h = absurd (false_true (sym dead ∙ h.live))

side_keyed : (j : ℕ) (s : ClientConfig) (old new : Keys) (c : ChannelSeen) (there : Bool) (n : ClientEnd) (v : ClientSide) → c.live ≡ false
    → ShowsClientSide j s old c there n v → ShowsClientSide j s new c there n v
side_keyed j s old new c there n Closed dead h = h
side_keyed j s old new c there n (Ready l) dead h = h
side_keyed j s old new c there n (Talks d) dead h = (
  h.0,
  record {
    goes_on = h.1.goes_on;
    shown = h.1.shown;
    stage = h.1.stage;
    unready = h.1.unready;
    config = h.1.config;
    own = own_keyed j old new c d d.bound dead h.1.own;
  },
)

keyed : (s : ClientConfig) (guid : List ℕ) (old new : Keys) (t : ℕ) (c : ChannelSeen) (conns : ℕ → Link)
    (wires : ℕ → Wires) (xs : List Channel)
    → c.live ≡ false → ShowsChannels s guid old t c conns wires xs → ShowsChannels s guid new t c conns wires xs
keyed s guid old new t c conns wires xs dead h = record {
  counted = h.counted;
  each = λ k x e. (let g = h.each k x e in record {
    client = side_keyed k s old new c (conns k).client_open (wires k).client_end x.client dead g.client;
    server = g.server;
    up = g.up;
    down = g.down;
  });
  beyond = h.beyond;
}

-- ---- a session's keys are of a known cipher, or of none

back_of : (p q : Bool) → (p && q) ≡ true → q ≡ true
back_of true q e = e
back_of false q e = absurd (cc)

at_most : (c : ℕ) → nat_le c 4 ≡ true → c ≤ 4
at_most c e = grind (arith, nat_tests)

by_known : (b : Bool) (c : ℕ) → is_cipher c ≡ b → (if b then c else 0) ≤ 4
by_known true c e = at_most c (back_of (nat_le 1 c) (nat_le c 4) e)
by_known false c e = omega arith

known_most : (c : ℕ) → known c ≤ 4
known_most c = by_known (is_cipher c) c refl

none_bound : (o : Option Bound) → false ≡ is_some o → o ≡ None
none_bound None e = refl
none_bound (Some b) e = absurd (false_true e)

module _ (z : WorldSettings) (x : World) (w : bytes.World) (k : ℕ) (d : Dialog) (rest : Channel) (xs : List Channel) (f : Faces z x xs w)
    (there : slice_get xs k ≡ Some (facing d rest)) (h : HeardMessage) where
  -- ---- the definitions' step, each table changed once

  abbrev message : ClientEnd → Message
  message n = dialog_message (accepted w.values.client k) k n.purse.next AskedTree

  abbrev behind_tree : Wires → Wires
  behind_tree u = queued u (sealed_on (spent u.client_end 1 ForDialog)) (line_frame u.client_end (message u.client_end) 1)

  abbrev tree_with : Wires → (ℕ → Wires) → bytes.World
  tree_with v wires = record w {
    values = dialog_sent (with_client w.values (accepted w.values.client k)) k AskedTree;
    wires = wires;
    keys = own_final (w.wires k).client_end false w.values.client.pending;
    encrypts = seals_told h.bytes;
    numbers = 1;
    accepted = w.accepted ++ ended_on (w.wires k).client_end h false ∷ [];
    sealings = w.sealings ++ seal_sent v.client_end (message v.client_end) 1;
  }

  abbrev accepting : Wires
  accepting = record (w.wires k) { client_end = accepted_end (w.wires k).client_end h w.values.client.pending }

  pub tree_is : taken_as z w k (SaidSecond false) tt h AcceptsStep ≡ tree_with accepting (put w.wires k (behind_tree accepting))
  tree_is =
      ap (λ (v : Wires). tree_with v (put (put w.wires k accepting) k (behind_tree v))) (put_here w.wires k accepting)
      ∙ ap (λ (v : ℕ → Wires). tree_with accepting v) (put_last w.wires k accepting (behind_tree accepting))

  -- ---- the world behind it

  accept_near : (j : ℕ) → (j ≡ k → ⊥) → Near j (seen_of w.values.client) (seen_of (accepted w.values.client k))
  accept_near j other = record {
    making = alone z x w k d rest xs f there j other;
    ready = refl;
    stage = put_there w.values.client.stage k AskedTree j other;
    live = λ e. e;
    session = λ e. refl;
    tree = λ e. refl;
  }

  unbound : (w.wires k).client_end.stage ≡ SaidSecond false → d.bound ≡ None
  unbound e =
      let t = talk z x w k d rest xs f there in
      let i = subst (λ (q : Stage). IsStage d.stage (is_some d.bound) q) e t.shown.stage in
      none_bound d.bound (bound_second d.stage (is_some d.bound) false (second_as d.stage (is_some d.bound) false i) i)

  making : (w.wires k).client_end.stage ≡ SaidSecond false → IsMaking k (seen_of w.values.client) d
  making e = subst (λ (o : Option Bound). IsChannelFor k x.keys (seen_of w.values.client) d o) (unbound e)
      (talk z x w k d rest xs f there).own

  pending_is : (w.wires k).client_end.stage ≡ SaidSecond false → d.session ≡ w.values.client.pending
  pending_is e =
      let t = talk z x w k d rest xs f there in
      let i = subst (λ (q : Stage). IsStage d.stage (is_some d.bound) q) e t.shown.stage in
      subst (λ (s : DialogStage). d.session ≡ session_at s w.values.client.pending) (second_as d.stage (is_some d.bound) false i)
      (making e).session

  -- what the dialog's own step tells
  abbrev pub IsAccepted : Dialog → Keys → Chosen → List ℕ → Type 0
  IsAccepted e keys chosen frame =
      DialogAccepts d (w.wires k).client_end (accepted_end (w.wires k).client_end h d.session) e (heards.Accepted keys chosen frame)

  pub entered : (stage : (w.wires k).client_end.stage ≡ SaidSecond false) (e : Dialog) (keys : Keys) (chosen : Chosen) (frame : List ℕ)
      (v : Channel) (y : World) → IsAccepted e keys chosen frame → TalksOn rest e frame v → ChangedAt (Becomes v) k xs y.channels.items
      → ShowsWorld z (record x {
        channels = y.channels;
        keys = keys;
        encrypts = e.line.encrypts;
        numbers = 1;
        accepted = e.session;
      }) (tree_with accepting (put w.wires k (behind_tree accepting)))
  entered stage e keys chosen frame v y a t placed =
      let c = w.values.client in
      let n = (w.wires k).client_end in
      let was = talk z x w k d rest xs f there in
      let m = making stage in
      let same : d.session ≡ c.pending = pending_is stage in
      let end = sealed_on (spent (accepted_end n h c.pending) 1 ForDialog) in
      let shown : ShowsDialog e end =
      subst (λ (s : ℕ). ShowsDialog e (sealed_on (spent (accepted_end n h s) 1 ForDialog))) same a.3 in
      let at : e.stage ≡ stages.AskedTree = asks_as e.stage (is_some e.bound) shown.stage in
      let line = subst (λ (s : DialogStage). ShowsStage s e end) at shown.shown in
      let keys_are : own_final n false c.pending ≡ keys = (λ t. own_final n false (sym same t)) ∙ sym a.0 in
      let said : Message = message (accepted_end n h c.pending) in
      let share_is : TreeConnect c.who.share ≡ TreeConnect d.config.share =
      (λ t. TreeConnect (f.own.who t).share) ∙ (ap TreeConnect f.settings.share ∙ (λ t. TreeConnect (sym was.config t).share)) in
      let frame_is : frame ≡ line_frame (accepted_end n h c.pending) said 1 =
      a.2 said (record {
        said = record { number = refl; logon = sym same; tree = refl; sequence = refl; replay = refl };
        command = share_is;
      }) ∙ (λ t. line_frame (accepted_end n h (same t)) said 1) in
      let s = seen_of (accepted c k) in
      let i = send_up (w.values.conns k) ForDialog (dialog_message (accepted c k) k (w.values.conns k).next_id AskedTree) 1 in
      let u = behind_tree accepting in
      let rested = keyed x.settings x.guid x.keys keys c.taken (seen_of c) w.values.conns w.wires xs m.apart f.channels in
      record {
        settings = f.settings;
        own = record {
          client = shown_taken x.client.table x.client.attached.items x.client.opened.items x.client.marks.items c k f.own.client;
          kept = kept_taken c k f.own.kept;
          asks = asks_alike c (accepted c k) refl refl refl refl f.own.asks;
          who = f.own.who;
          accepted_is = sym (a.4.session ∙ same);
          making_is = f.own.making_is;
          apart = f.own.apart;
        };
        session = record {
          keys_are = λ counted. keys_are;
          known = subst (λ (q : Keys). q.cipher ≤ 4) keys_are (known_most n.chosen.cipher);
          encrypts_is = line.1.encrypts;
          numbers_are = refl;
        };
        server = f.server;
        moment = f.moment;
        draws = f.draws;
        places = f.places;
        channels = one_changed x.settings x.guid keys c.taken (seen_of c) s (Becomes v) k xs y.channels.items w.values.conns w.wires i u
            (facing d rest) placed there
            (λ q becomes old. subst (λ (o : Channel). ShowsChannel k x.settings x.guid keys c.taken s i u o) (sym becomes) (record {
              client = subst (λ (o : ClientSide). ShowsClientSide k x.settings keys s (w.values.conns k).client_open end o) (sym t.client) (
                old.client.0,
                record {
                  goes_on = goes_by e.stage (is_some e.bound) AskedTree shown.stage tt;
                  shown = shown;
                  stage = put_here c.stage k AskedTree;
                  unready = was.unready;
                  config = a.4.config ∙ was.config;
                  own = subst (λ (o : Option Bound). IsChannelFor k keys s e o) (sym (a.4.bound ∙ unbound stage)) (record {
                    making = m.making;
                    apart = m.apart;
                    previous = subst (λ (o : DialogStage). IsPrevious o e.previous c.pending) (sym at) tt;
                    session = subst (λ (o : DialogStage). e.session ≡ session_at o c.pending) (sym at) (a.4.session ∙ same);
                  });
                },
              );
              server = subst (λ (o : Option Conn). ShowsServerSide k x.guid (w.values.conns k).server_open (w.wires k).server_end o)
                  (sym t.server) old.server;
              up = up_said c.taken rest.up.items v.up.items (w.wires k).up (w.values.conns k).up frame
                  (line_frame (accepted_end n h c.pending) said 1)
                  (dialog_message (accepted c k) k (w.values.conns k).next_id AskedTree) t.up frame_is old.up;
              down = subst (λ (o : List Down). AreDown o (w.wires k).down (w.values.conns k).down) (sym t.down) old.down;
            }))
            (λ j q other old. seen_near j x.settings x.guid keys c.taken (seen_of c) s (w.values.conns j) (w.wires j) q
            (accept_near j other) old) (λ j other ready. ready) rested;
      }
