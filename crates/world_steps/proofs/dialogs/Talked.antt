-- A dialog hears the front of what comes down: the event.
use Rattle.std.proofs.Common.{◌≡◌, ℕ, ◌+◌, ◌<◌, ◌&&◌, Bool, true, false, if◌then◌else◌, refl, sym, ap, subst, ◌∙◌, arith}
use Rattle.std.proofs.Common.{List, set, slice_get, Option, Some, None, is_some}
use Rattle.client_ends.specs.dialog_calls.Turning.{DialogComes, ComesBy, DialogHears, HearsMessage, JoinsAs}
use Rattle.client_ends.specs.dialog_calls.Turning.{RefusesAs, Turns, refusal_on}
use Rattle.client_ends.specs.declared.dialog_calls.heard.Heard.{Heard as Told}
use Rattle.client_ends.specs.declared.dialog_calls.heard.Heard.TheVariants as heards
use Rattle.client_events.specs.declared.event_calls.steps.Event.TheVariants as happens
use Rattle.client_values.specs.outcomes.Meaning.{refusal_of}
use Rattle.client_events.specs.played_client.Holding.{PlayedSteps as Happens}
use Rattle.spec_exchange.specs.Client.{Stage, Apart, SaidNegotiate, SaidFirst, SaidSecond, AskedTree, unmade}
use Rattle.spec_exchange.specs.ClientStep.{IsReady, act}
use Rattle.spec_exchange.specs.Dialogs.{went_on}
use Rattle.spec_exchange.specs.Network as network
use Rattle.spec_exchange.specs.Network.{Take, is_possible}
use Rattle.spec_exchange.specs.Operations.{Refusal}
use Rattle.spec_exchange.specs.State.{no_later}
use Rattle.spec_exchange.specs.Table.{is_filled}
use Rattle.client_ends.specs.ends.Shown.{IsStage, ShowsLine, settings_of}
use Rattle.client_ends.specs.declared.ends.config.Bound.{Bound}
use Rattle.client_ends.specs.declared.ends.dialog.Dialog.{Dialog}
use Rattle.client_ends.specs.declared.ends.dialog.Stage.{Stage as DialogStage}
use Rattle.client_ends.specs.declared.ends.line.Line.{Line}
use Rattle.wire_bytes.specs.declared.session_messages.refusal.Refusal.{Refusal as DialogRefusal}
use Rattle.spec_crypto.specs.tokens.Tokens.{first_token}
use Rattle.spec_world.specs.Dialog.{bound_end, dialog_response, noted_heard, paid_in, setup_token}
use Rattle.spec_world.specs.Ends.{ClientEnd}
use Rattle.spec_world.specs.Events.{Plain, bytes_changed, bytes_happen, bytes_later}
use Rattle.spec_world.specs.Messages.{HeardMessage}
use Rattle.spec_world.specs.Notes.{NothingThere, step_error, unless_there}
use Rattle.spec_world.specs.Sending.{answer_of, or_no_token}
use Rattle.spec_world.specs.Settings.{ClientSettings, WorldSettings}
use Rattle.spec_world.specs.World as bytes
use Rattle.spec_world.specs.World.{behind_frame, dialog_hears, dialog_off, dialog_reply, hears, take_frame}
use Rattle.world_ends.specs.Channels.{IsChannelBinding, IsChannelFor, IsMaking, ChannelShowsTalk, seen_of, session_at}
use Rattle.world_ends.specs.Shown.{ShowsWorld}
use Rattle.world_ends.specs.declared.sides.Channel.{Channel}
use Rattle.world_ends.specs.declared.world.World.{World}
use Rattle.world_steps.specs.opening.Putting.{Becomes}
use Rattle.world_steps.specs.Lists.{ChangedAt}
use Rattle.world_steps.proofs.Onward.{later_shown}
use Rattle.world_steps.specs.dialogs.Talking.{channel_number}
use Rattle.world_steps.specs.dialogs.Turned.{TalkAccepts, RefusesBy, TalksAt, TurnsAs}
use Rattle.world_steps.proofs.dialogs.Accepted.{entered, tree_is}
use Rattle.world_steps.proofs.dialogs.Faces.{Faces, faces}
use Rattle.world_steps.proofs.dialogs.Judged.{IsAsked, hears_is, passed, refused, step_due, taken_as}
use Rattle.world_steps.proofs.dialogs.Near.{both_changed, set_becomes}
use Rattle.world_steps.proofs.dialogs.Off.{off_built}
use Rattle.world_steps.proofs.dialogs.Popped.{HasFront, facing, fronted, popped, talks}
use Rattle.world_steps.proofs.dialogs.Readied.{ended}
use Rattle.world_steps.proofs.dialogs.Refused.{filled_front}
use Rattle.world_steps.proofs.dialogs.Said.{said_built, setup_is, talk}
use Rattle.world_steps.proofs.dialogs.Setups.{first_went, reply_session, reply_tree, second_went}
use Rattle.world_steps.proofs.dialogs.Stages.{asked_by, asks_as, bound_second, second_as}

-- a dialog that goes on hears a message
message_by : (s : Stage) (d new : Dialog) (n : ClientEnd) (frame : List ℕ) (number : ℕ) (h : Told) → IsAsked s
    → DialogHears s d n frame number new h → HearsMessage s d n (dialog_response n s frame) number new h
message_by Apart d new n frame number h a e = absurd a
message_by (SaidNegotiate b) d new n frame number h a e = e
message_by (SaidFirst b) d new n frame number h a e = e
message_by (SaidSecond b) d new n frame number h a e = e
message_by AskedTree d new n frame number h a e = e

-- a bound channel's session and tree are its dialog's
pub record IsJoined (o : Option Bound) (n : ClientEnd) (line : Line) (session tree : ℕ) : Type 0 where
  pub bound : Bound
  pub is : o ≡ Some bound
  pub line_is : ShowsLine line n
  pub session_is : session ≡ bound.session
  pub tree_is : tree ≡ bound.tree

joined_by : (o : Option Bound) (n : ClientEnd) (new : Dialog) (line : Line) (session tree : ℕ)
    → JoinsAs o n new (heards.Ready line session tree) → IsJoined o n line session tree
joined_by None n new line session tree h = absurd h
joined_by (Some b) n new line session tree h = record { bound = b; is = refl; line_is = h.0; session_is = h.1; tree_is = h.2 }

no_number : (b : Bool) (numbers : ℕ) → channel_number b numbers ≡ 0 → b ≡ false
no_number false numbers e = refl
no_number true numbers e = absurd (let d : numbers + 1 ≡ 0 = e in omega (arith, d))

none_bound : (o : Option Bound) → is_some o ≡ false → o ≡ None
none_bound None e = refl
none_bound (Some b) e = absurd (cc)

module _ (z : WorldSettings) (x : World) (w : bytes.World) (k : ℕ) (d : Dialog) (rest : Channel) (xs : List Channel) (f : Faces z x xs w)
    (there : slice_get xs k ≡ Some (facing d rest)) (mid : World) (mid_is : mid ≡ record x { channels = mid.channels })
    (placed : (v : Channel) (ys : List Channel) → ChangedAt (Becomes v) k mid.channels.items ys → ChangedAt (Becomes v) k xs ys)
    (new : Dialog) (y : World) (counted : is_some d.bound ≡ true → 0 < x.numbers) where
  own_talk : ChannelShowsTalk k x.settings x.keys (seen_of w.values.client) (w.wires k).client_end d
  own_talk = talk z x w k d rest xs f there

  settings_is : settings_of d.config ≡ z.client
  settings_is = ap settings_of own_talk.config ∙ sym f.settings.client

  -- ---- it is refused

  off : (why : DialogRefusal) → RefusesBy mid k k rest why y → ShowsWorld z y (dialog_off w k (refusal_of why))
  off why r =
      let built = off_built z x w k d rest xs f there own_talk.unready y why r.refuses.closed r.refuses.is_closed
      (placed r.refuses.closed y.channels.items r.refuses.placed)
      (subst (λ (v : World). Happens v.client y.client (happens.Refused k why)) mid_is r.refuses.shown) in
      let making = r.making_is ∙ (λ t. unmade k (mid_is t).making) in
      let behind : y ≡ record x { client = y.client; making = unmade k x.making; channels = y.channels } =
      r.others ∙ (λ t. record (mid_is t) { client = y.client; making = making t; channels = y.channels }) in
      subst (λ (v : World). ShowsWorld z v (dialog_off w k (refusal_of why))) (sym behind) built

  refused_as : (s : Stage) (a : IsAsked s) (o : Option HeardMessage) (why : Refusal) (number : ℕ) (h : Told)
      → refusal_on z.client (w.wires k).client_end s o ≡ Some why → RefusesAs why new h → TurnsAs h mid k k number new rest y
      → ShowsWorld z y (dialog_hears z w k s o)
  refused_as s a o why number (heards.Say frame) e r t = absurd r.2
  refused_as s a o why number (heards.Accepted keys chosen frame) e r t = absurd r.2
  refused_as s a o why number (heards.Ready line session tree) e r t = absurd r.2
  refused_as s a o why number (heards.Refused told) e r t =
      let same : refusal_of told ≡ why = ap refusal_of r.2.0 ∙ r.1 in
      subst (λ (v : bytes.World). ShowsWorld z y v) (sym (refused z w k s a o why e ∙ ap (λ (q : Refusal). dialog_off w k q) (sym same)))
      (off told t)

  -- ---- it goes on

  first_as_said : (c : Bool) (x' : HeardMessage) (number : ℕ) (h : Told) → (w.wires k).client_end.stage ≡ SaidNegotiate c
      → DialogComes (SaidNegotiate c) d (w.wires k).client_end x' number new h → TurnsAs h mid k k number new rest y
      → ShowsWorld z y (taken_as z w k (SaidNegotiate c) tt x' (step_due (SaidNegotiate c)))
  first_as_said c x' number (heards.Accepted keys chosen frame) stage e t = absurd e
  first_as_said c x' number (heards.Ready line session tree) stage e t = absurd e
  first_as_said c x' number (heards.Refused why) stage e t = absurd e
  first_as_said c x' number (heards.Say frame) stage e t =
      let n = noted_heard (w.wires k).client_end (SaidNegotiate c) x' in
      let r = dialog_reply w (SaidNegotiate c) x' in
      let went = first_went z x w k d rest xs f there c n r first_token first_token new frame stage refl e in
      let built = said_built z x w k d rest xs f there n (SaidFirst c) r c first_token new frame t.0.channel y went t.0.talks
      (placed t.0.channel y.channels.items t.0.placed) in
      let behind : y ≡ record x { channels = y.channels } = t.1 ∙ (λ i. record (mid_is i) { channels = y.channels }) in
      subst (λ (v : World). ShowsWorld z v (taken_as z w k (SaidNegotiate c) tt x' (step_due (SaidNegotiate c)))) (sym behind)
      (subst (λ (v : bytes.World). ShowsWorld z (record x { channels = y.channels }) v)
      (sym (setup_is z x w k d rest xs f there n (went_on w.values.client k (SaidFirst c) r) (SaidFirst c) c first_token)) built)

  second_as_said : (c : Bool) (x' : HeardMessage) (number : ℕ) (h : Told) → (w.wires k).client_end.stage ≡ SaidFirst c
      → DialogComes (SaidFirst c) d (w.wires k).client_end x' number new h → TurnsAs h mid k k number new rest y
      → ShowsWorld z y (taken_as z w k (SaidFirst c) tt x' (step_due (SaidFirst c)))
  second_as_said c x' number (heards.Accepted keys chosen frame) stage e t = absurd e
  second_as_said c x' number (heards.Ready line session tree) stage e t = absurd e
  second_as_said c x' number (heards.Refused why) stage e t = absurd e
  second_as_said c x' number (heards.Say frame) stage e t =
      let own = (w.wires k).client_end in
      let n = noted_heard own (SaidFirst c) x' in
      let r = dialog_reply w (SaidFirst c) x' in
      let token = or_no_token (answer_of z.client own (setup_token x'.bytes)) in
      let same = ap (λ (q : ClientSettings). or_no_token (answer_of q own (setup_token x'.bytes))) settings_is in
      let went = second_went z x w k d rest xs f there c n r x'.header.session
      (or_no_token (answer_of (settings_of d.config) own (setup_token x'.bytes))) token new frame stage
      (sym (reply_session _ x'.header x'.bytes)) same e in
      let built = said_built z x w k d rest xs f there n (SaidSecond c) r c token new frame t.0.channel y went t.0.talks
      (placed t.0.channel y.channels.items t.0.placed) in
      let behind : y ≡ record x { channels = y.channels } = t.1 ∙ (λ i. record (mid_is i) { channels = y.channels }) in
      subst (λ (v : World). ShowsWorld z v (taken_as z w k (SaidFirst c) tt x' (step_due (SaidFirst c)))) (sym behind)
      (subst (λ (v : bytes.World). ShowsWorld z (record x { channels = y.channels }) v)
      (sym (setup_is z x w k d rest xs f there n (went_on w.values.client k (SaidSecond c) r) (SaidSecond c) c token)) built)

  -- ---- its session is accepted

  stage_here : (s : Stage) → (w.wires k).client_end.stage ≡ s → IsStage d.stage (is_some d.bound) s
  stage_here s e = subst (λ (q : Stage). IsStage d.stage (is_some d.bound) q) e own_talk.shown.stage

  binds_as : (c : Bool) → (w.wires k).client_end.stage ≡ SaidSecond c → c ≡ is_some d.bound
  binds_as c e =
      let i = stage_here (SaidSecond c) e in
      bound_second d.stage (is_some d.bound) c (second_as d.stage (is_some d.bound) c i) i

  accepted_as : (x' : HeardMessage) (number : ℕ) (h : Told) → (w.wires k).client_end.stage ≡ SaidSecond false
      → DialogComes (SaidSecond false) d (w.wires k).client_end x' number new h → TurnsAs h mid k k number new rest y
      → ShowsWorld z y (taken_as z w k (SaidSecond false) tt x' (step_due (SaidSecond false)))
  accepted_as x' number (heards.Say frame) stage e t = absurd e
  accepted_as x' number (heards.Ready line session tree) stage e t = absurd e
  accepted_as x' number (heards.Refused why) stage e t = absurd e
  accepted_as x' number (heards.Accepted keys chosen frame) stage e t =
      let none : is_some new.bound ≡ false = ap (λ (o : Option Bound). is_some o) e.4.bound ∙ sym (binds_as false stage) in
      let enters = subst (λ (b : Bool). TalkAccepts b mid k k number new rest keys frame y) none t in
      let built = entered z x w k d rest xs f there x' stage new keys chosen frame enters.says.channel y e enters.says.talks
      (placed enters.says.channel y.channels.items enters.says.placed) in
      let behind : y ≡ record x {
        channels = y.channels;
        keys = keys;
        encrypts = new.line.encrypts;
        numbers = 1;
        accepted = new.session;
      } = enters.others ∙ (λ i. record (mid_is i) {
        channels = y.channels;
        keys = keys;
        encrypts = new.line.encrypts;
        numbers = 1;
        accepted = new.session;
      }) in
      subst (λ (v : World). ShowsWorld z v (taken_as z w k (SaidSecond false) tt x' (step_due (SaidSecond false)))) (sym behind)
      (subst (λ (v : bytes.World). ShowsWorld z (record x {
        channels = y.channels;
        keys = keys;
        encrypts = new.line.encrypts;
        numbers = 1;
        accepted = new.session;
      }) v) (sym (tree_is z x w k d rest xs f there x')) built)

  -- ---- its channel is bound

  own_bound : (b : Bound) → d.bound ≡ Some b → IsChannelBinding x.keys (seen_of w.values.client) b
  own_bound b e = subst (λ (o : Option Bound). IsChannelFor k x.keys (seen_of w.values.client) d o) e own_talk.own

  bound_as : (x' : HeardMessage) (number : ℕ) (h : Told) → number ≡ channel_number (is_some d.bound) x.numbers
      → (w.wires k).client_end.stage ≡ SaidSecond true → DialogComes (SaidSecond true) d (w.wires k).client_end x' number new h
      → TurnsAs h mid k k number new rest y
      → ShowsWorld z y (taken_as z w k (SaidSecond true) tt x' (step_due (SaidSecond true)))
  bound_as x' number (heards.Say frame) counts stage e t = absurd e
  bound_as x' number (heards.Ready line session tree) counts stage e t = absurd e
  bound_as x' number (heards.Refused why) counts stage e t = absurd e
  bound_as x' number (heards.Accepted keys chosen frame) counts stage e t =
      let own = (w.wires k).client_end in
      let c = w.values.client in
      let binds : is_some d.bound ≡ true = sym (binds_as true stage) in
      let some : is_some new.bound ≡ true = ap (λ (o : Option Bound). is_some o) e.4.bound ∙ binds in
      let j = subst (λ (b : Bool). TalkAccepts b mid k k number new rest keys frame y) some t in
      let next : w.numbers + 1 ≡ number =
      ap (λ (m : ℕ). m + 1) f.session.numbers_are ∙ sym (counts ∙ ap (λ (b : Bool). channel_number b x.numbers) binds) in
      let some_before : 0 < w.numbers = subst (λ (m : ℕ). 0 < m) (sym f.session.numbers_are) (counted binds) in
      let n = bound_end own x' number in
      let to = joined_by new.bound n j.behind j.line j.session j.tree (j.hears n e.3) in
      let b = own_bound to.bound (sym e.4.bound ∙ to.is) in
      let ready = ended z x w k d rest xs f there j.session j.tree (record mid { numbers = number }) y n number number
      (bytes.channel_bound w k x').accepted j.line (λ q. f.session.keys_are some_before) refl (λ i. record (mid_is i) {
        numbers = number;
      }) to.line_is refl j.ends
      (λ v q. placed v y.channels.items q) in
      subst (λ (v : bytes.World). ShowsWorld z y v)
      (λ i. bytes.with_values (bytes.closed_wires (record (bytes.with_client_end w k (bound_end own x' (sym next i))) {
        numbers = sym next i;
        accepted = (bytes.channel_bound w k x').accepted;
      }) k (act c (IsReady k ((to.session_is ∙ b.session) i) ((to.tree_is ∙ b.tree) i))))
      (network.dialog_ended w.values k (IsReady k ((to.session_is ∙ b.session) i) ((to.tree_is ∙ b.tree) i)))) ready

  -- ---- its own session is ready

  readied_as : (x' : HeardMessage) (number : ℕ) (h : Told) → number ≡ channel_number (is_some d.bound) x.numbers
      → (w.wires k).client_end.stage ≡ AskedTree → DialogComes AskedTree d (w.wires k).client_end x' number new h
      → TurnsAs h mid k k number new rest y → ShowsWorld z y (taken_as z w k AskedTree tt x' (step_due AskedTree))
  readied_as x' number (heards.Say frame) counts stage e t = absurd e
  readied_as x' number (heards.Accepted keys chosen frame) counts stage e t = absurd e
  readied_as x' number (heards.Refused why) counts stage e t = absurd e
  readied_as x' number (heards.Ready line session tree) counts stage e t =
      let own = (w.wires k).client_end in
      let c = w.values.client in
      let unbound = none_bound d.bound (no_number (is_some d.bound) x.numbers (sym counts ∙ t.0)) in
      let m : IsMaking k (seen_of c) d = subst (λ (o : Option Bound). IsChannelFor k x.keys (seen_of c) d o) unbound own_talk.own in
      let at = asks_as d.stage (is_some d.bound) (stage_here AskedTree stage) in
      let pending : session ≡ c.pending =
      e.1 ∙ subst (λ (s : DialogStage). d.session ≡ session_at s c.pending) at m.session in
      let in_tree : tree ≡ (dialog_reply w AskedTree x').tree_id = e.2 ∙ sym (reply_tree _ x'.header x'.bytes) in
      let n : ClientEnd = record (paid_in own x'.header) { stage = Apart } in
      let ready = ended z x w k d rest xs f there session tree mid y n w.numbers x.numbers w.accepted line
      f.session.keys_are f.session.numbers_are mid_is e.0
      refl t.1 (λ v q. placed v y.channels.items q) in
      subst (λ (v : bytes.World). ShowsWorld z y v)
      (λ i. bytes.with_values (bytes.closed_wires (bytes.with_client_end w k n) k (act c (IsReady k (pending i) (in_tree i))))
      (network.dialog_ended w.values k (IsReady k (pending i) (in_tree i)))) ready

  -- ---- by its stage

  came : (s : Stage) (a : IsAsked s) (x' : HeardMessage) (number : ℕ) (h : Told) → number ≡ channel_number (is_some d.bound) x.numbers
      → (w.wires k).client_end.stage ≡ s → DialogComes s d (w.wires k).client_end x' number new h → TurnsAs h mid k k number new rest y
      → ShowsWorld z y (taken_as z w k s a x' (step_due s))
  came Apart a x' number h counts stage e t = absurd a
  came (SaidNegotiate c) a x' number h counts stage e t = first_as_said c x' number h stage e t
  came (SaidFirst c) a x' number h counts stage e t = second_as_said c x' number h stage e t
  came (SaidSecond false) a x' number h counts stage e t = accepted_as x' number h stage e t
  came (SaidSecond true) a x' number h counts stage e t = bound_as x' number h counts stage e t
  came AskedTree a x' number h counts stage e t = readied_as x' number h counts stage e t

  came_by : (s : Stage) (a : IsAsked s) (o : Option HeardMessage) (number : ℕ) (h : Told) → number
      ≡ channel_number (is_some d.bound) x.numbers
      → (w.wires k).client_end.stage ≡ s → refusal_on z.client (w.wires k).client_end s o ≡ None
      → ComesBy s d (w.wires k).client_end o number new h → TurnsAs h mid k k number new rest y
      → ShowsWorld z y (dialog_hears z w k s o)
  came_by s a None number h counts stage none e t = absurd e
  came_by s a (Some x') number h counts stage none e t =
      subst (λ (v : bytes.World). ShowsWorld z y v) (sym (passed z w k s a x' none)) (came s a x' number h counts stage e t)

  turned_by : (r : Option Refusal) (s : Stage) (a : IsAsked s) (o : Option HeardMessage) (number : ℕ) (h : Told)
      → number ≡ channel_number (is_some d.bound) x.numbers → (w.wires k).client_end.stage ≡ s
      → refusal_on z.client (w.wires k).client_end s o ≡ r → Turns r (ComesBy s d (w.wires k).client_end o number new h) new h
      → TurnsAs h mid k k number new rest y → ShowsWorld z y (dialog_hears z w k s o)
  turned_by None s a o number h counts stage is e t = came_by s a o number h counts stage is e t
  turned_by (Some why) s a o number h counts stage is e t = refused_as s a o why number h is e t

  pub turned : (s : Stage) (a : IsAsked s) (frame : List ℕ) (number : ℕ) (h : Told) → number ≡ channel_number (is_some d.bound) x.numbers
      → (w.wires k).client_end.stage ≡ s → DialogHears s d (w.wires k).client_end frame number new h → TurnsAs h mid k k number new rest y
      → ShowsWorld z y (dialog_hears z w k s (dialog_response (w.wires k).client_end s frame))
  turned s a frame number h counts stage e t =
      let own = (w.wires k).client_end in
      let o = dialog_response own s frame in
      let message = message_by s d new own frame number h a e in
      turned_by (refusal_on z.client own s o) s a o number h counts stage refl
      (subst (λ (q : ClientSettings). Turns (refusal_on q own s o) (ComesBy s d own o number new h) new h) settings_is message) t

-- ---- the event

module _ (z : WorldSettings) (x : World) (w : bytes.World) (k : ℕ) (h : ShowsWorld z x w) (y : World) (a : TalksAt x k y) where
  front : HasFront a.out.talk.front a.talk.rest.down.items (w.wires k).down (w.values.conns k).down
  front = fronted k x.settings x.guid x.keys w.values.client.taken (seen_of w.values.client) (w.values.conns k) (w.wires k) a.out.channel
      a.talk a.out.talk (h.channels.each k a.out.channel a.out.there)

  before : ((w.values.conns k).client_open ≡ true)
      × ChannelShowsTalk k x.settings x.keys (seen_of w.values.client) (w.wires k).client_end a.talk.dialog
  before = talks k x.settings x.guid x.keys w.values.client.taken (seen_of w.values.client) (w.values.conns k) (w.wires k) a.out.channel
      a.talk a.out.talk (h.channels.each k a.out.channel a.out.there)

  abbrev heard_in : bytes.World
  heard_in = behind_frame w k front.frames front.replies

  abbrev facing_in : List Channel
  facing_in = set x.channels.items k (facing a.talk.dialog a.talk.rest)

  faced : Faces z x facing_in heard_in
  faced = faces z x w k a.out.channel a.talk front.frames front.replies a.out.there
      (popped k x.settings x.guid x.keys w.values.client.taken (seen_of w.values.client) (w.values.conns k) (w.wires k) a.out.channel
      a.talk front.frames front.replies a.out.talk front.others) h

  found : slice_get facing_in k ≡ Some (facing a.talk.dialog a.talk.rest)
  found =
      let p = facing a.talk.dialog a.talk.rest in
      let g = (set_becomes k x.channels.items p).here a.out.channel a.out.there in
      g.1 ∙ ap (λ (v : Channel). Some v) g.2

  now : ChannelShowsTalk k x.settings x.keys (seen_of w.values.client) (heard_in.wires k).client_end a.talk.dialog
  now = talk z x heard_in k a.talk.dialog a.talk.rest facing_in faced found

  asked : IsAsked (heard_in.wires k).client_end.stage
  asked = asked_by a.talk.dialog.stage (is_some a.talk.dialog.bound) (heard_in.wires k).client_end.stage now.shown.stage now.goes_on

  taken_is : bytes_changed z w (Take k) ≡ dialog_hears z heard_in k (heard_in.wires k).client_end.stage
      (dialog_response (heard_in.wires k).client_end (heard_in.wires k).client_end.stage front.frame)
  taken_is =
      (λ t. take_frame z w k (front.frames_are t) (front.replies_are t))
      ∙ (ap (λ (s : Stage). hears z heard_in k front.frame front.reply.place s) (sym before.1.stage ∙ now.stage)
      ∙ hears_is z heard_in k front.frame front.reply.place (heard_in.wires k).client_end.stage asked)

  placed_by : (v : Channel) (ys : List Channel) → ChangedAt (Becomes v) k a.mid.channels.items ys → ChangedAt (Becomes v) k facing_in ys
  placed_by v ys r = both_changed k x.channels.items a.mid.channels.items ys a.out.channel (facing a.talk.dialog a.talk.rest) a.out.blank v
      a.out.there a.out.out r

  behind : ShowsWorld z y (bytes_changed z w (Take k))
  behind =
      let own = (heard_in.wires k).client_end in
      let number = channel_number (is_some a.talk.dialog.bound) x.numbers in
      let u = a.turns.turn in
      let frame_is : a.talk.frame.items ≡ front.frame = sym (front.front.bytes ∙ a.out.talk.frame) in
      let heard = subst (λ (m : List ℕ). DialogHears own.stage a.talk.dialog own m number u.dialog u.heard) frame_is
      (a.turns.is.hears own now.shown) in
      let turns = subst (λ (r : Channel). TurnsAs u.heard a.mid k k number u.dialog r y) a.turns.is.rest a.turns.turned in
      subst (λ (v : bytes.World). ShowsWorld z y v) (sym taken_is)
      (turned z x heard_in k a.talk.dialog a.talk.rest facing_in faced found a.mid a.mid_is placed_by u.dialog y
      (λ some. subst (λ (v : World). 0 < v.numbers) a.mid_is (a.turns.counted some)) own.stage asked front.frame
      number u.heard refl refl heard turns)

  possible : is_possible w.values (Take k) ≡ true
  possible = (λ t. (before.0 t) && is_filled (front.replies_are t)) ∙ filled_front front.reply front.replies

  pub talked : (v : World) → v ≡ record y { moment = v.moment } → v.moment ≡ no_later (y.moment + 1)
      → (step_error w (Plain (Take k)) ≡ None) × ShowsWorld z v (bytes_happen z w (Plain (Take k)))
  talked v late time = (
    (λ t. unless_there (before.0 t) (front.frames_are t) k)
        ∙ ap (λ (b : Bool). if b then None else Some (NothingThere k)) (filled_front front.frame front.frames),
    subst (λ (q : Bool). ShowsWorld z v (if q then bytes_later (bytes_changed z w (Take k)) 1 else w)) (sym possible)
        (later_shown z y v (bytes_changed z w (Take k)) 1 late time behind),
  )
