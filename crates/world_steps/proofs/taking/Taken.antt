-- Take on a line, in the exchange over bytes.
use Rattle.std.proofs.Common.{◌≡◌, ℕ, ◌+◌, ◌&&◌, not, Bool, true, false, if◌then◌else◌, refl, sym, ap, subst, ◌∙◌}
use Rattle.std.proofs.Common.{List, [], ◌∷◌, slice_get, Option, Some, None, is_some}
use Rattle.client_steps.specs.whole_client.Shown.{ShowsClient}
use Rattle.client_events.specs.event_calls.Events.{Means, act_of}
use Rattle.client_events.specs.declared.event_calls.steps.Event.TheVariants as happens
use Rattle.law_client.proofs.table.Events.{keeps}
use Rattle.law_client.specs.table.Kept.{TableKept}
use Rattle.client_events.proofs.world_law.Events.{asks_on}
use Rattle.client_events.proofs.world_law.Settling.{responds}
use Rattle.client_events.specs.world_law.Asking.{AsksFit}
use Rattle.spec_commands.specs.ReplyOf.{reply_of}
use Rattle.spec_exchange.specs.Client.{Apart, Client, Identity, Stage}
use Rattle.spec_exchange.specs.ClientStep.{Act, ClientEvent, CloseChannels, Hears, Nothing, act, client_after}
use Rattle.spec_exchange.specs.Network.{Received, Take, client_off, closed_by, with_client}
use Rattle.spec_exchange.specs.State.{Reply, no_later}
use Rattle.spec_exchange.specs.Table.{is_filled}
use Rattle.client_ends.specs.declared.ends.line.Line.{Line}
use Rattle.spec_world.specs.Dialog.{line_response}
use Rattle.spec_world.specs.Events.{Plain, bytes_changed, bytes_happen, bytes_later}
use Rattle.spec_world.specs.Notes as notes
use Rattle.spec_world.specs.Notes.{step_error}
use Rattle.spec_world.specs.Settings.{WorldSettings}
use Rattle.spec_world.specs.World as bytes
use Rattle.spec_world.specs.World.{Wires, behind_frame, client_end_off, closed_wires, command_asked, cut_wires, hears, op_heard}
use Rattle.spec_world.specs.World.{line_hears, take_frame, with_values}
use Rattle.world_ends.specs.Channels.{AreDown, ShowsChannels, seen_of}
use Rattle.world_ends.specs.Places.{ChannelShowsPlaces}
use Rattle.world_ends.specs.Shown.{ShowsWorld}
use Rattle.world_ends.specs.Tests.{is_open, is_ready, opened_in, readied_in}
use Rattle.world_ends.specs.declared.sides.Channel.{Channel}
use Rattle.world_ends.specs.declared.sides.ClientSide.{ClientSide}
use Rattle.world_ends.specs.declared.sides.ClientSide.TheVariants.{Closed, Talks, Ready}
use Rattle.world_ends.specs.declared.sides.Down.{Down}
use Rattle.world_ends.specs.declared.world.World.{World}
use Rattle.world_steps.specs.Lists.{ClosesClient}
use Rattle.world_steps.specs.Parts.{all_close}
use Rattle.world_steps.proofs.Closing.{all_changed, client_closed, is_opened}
use Rattle.world_steps.proofs.CutOff.{cuts}
use Rattle.world_steps.proofs.Onward.{later_shown}
use Rattle.world_steps.specs.taking.Replies.{TakeBehind, ClosesBy, TakeGoesOn, TakeHearsAs, IsTakeAt, IsResponded, TakesFront, waits_in}
use Rattle.world_steps.specs.declared.taking.hearing.Response.{Response}
use Rattle.world_steps.proofs.taking.Heard.{Fronted, answered_heard, fronted_there, heard_world, line_heard_it, put_own}
use Rattle.world_steps.proofs.taking.Heard.{unheard_cuts, was_ready}
use Rattle.world_steps.proofs.taking.Heard.{world_behind}
use Rattle.world_steps.proofs.taking.Left.{Columns, Ends, columns_of, session_ends, quiet, shut, stays}
use Rattle.world_steps.proofs.taking.Noted.{noted}

-- ---- the client hears a response

abbrev responded_by : bytes.World → ℕ → Client → Act → bytes.World
responded_by w k d a = with_values (closed_wires w k a) (with_client (closed_by w.values k a) d)

abbrev Places : World → World → Client → bytes.World → Type 0
Places x y d w = ChannelShowsPlaces y.places w.values.client.taken d.settled_by w.values.log.places w.values.log.who
    w.values.log.first w.values.log.birth

-- the session goes on
goes_on : (z : WorldSettings) (x y : World) (w : bytes.World) (k : ℕ) (d : Client) → columns_of d ≡ columns_of w.values.client
    → ShowsClient y.client d → TableKept d → AsksFit d → Places x y d w → ClosesBy false x.making x.channels.items y.making y.channels.items
    → ShowsWorld z x w → ShowsWorld z (TakeBehind x y) (responded_by w k d Nothing)
goes_on z x y w k d e shown kept asks places closes h =
    let c = w.values.client in
    record {
      settings = h.settings;
      own = record {
        client = shown;
        kept = kept;
        asks = asks;
        who = ap (λ (q : Columns). q.who) e ∙ h.own.who;
        accepted_is = ap (λ (q : Columns). q.seen.accepted) e ∙ h.own.accepted_is;
        making_is = ap (λ (q : Columns). q.seen.making) e ∙ (h.own.making_is ∙ sym closes.0);
        apart = λ s. ap (λ (q : Columns). q.seen.live) e
            ∙ h.own.apart (subst (λ (m : Option ℕ). is_some m ≡ true) closes.0 s);
      };
      session = h.session;
      server = h.server;
      moment = h.moment;
      draws = h.draws;
      places = subst (λ (q : Columns). ChannelShowsPlaces y.places q.taken d.settled_by w.values.log.places
          w.values.log.who w.values.log.first
          w.values.log.birth) (sym e) places;
      channels = subst (λ (q : Columns). ShowsChannels x.settings x.guid x.keys q.taken q.seen w.values.conns w.wires y.channels.items)
          (sym e) (subst (λ (v : List Channel). ShowsChannels x.settings x.guid x.keys c.taken (seen_of c) w.values.conns w.wires v)
          (sym closes.1) h.channels);
    }

-- it ends
goes_off : (z : WorldSettings) (x y : World) (w : bytes.World) (k : ℕ) (d : Client) → Ends w.values.client d
    → ShowsClient y.client d → TableKept d
    → AsksFit d → Places x y d w → ClosesBy true x.making x.channels.items y.making y.channels.items → ShowsWorld z x w
    → ShowsWorld z (TakeBehind x y) (responded_by w k d CloseChannels)
goes_off z x y w k d e shown kept asks places closes h =
    let c = w.values.client in
    record {
      settings = h.settings;
      own = record {
        client = shown;
        kept = kept;
        asks = asks;
        who = e.who ∙ h.own.who;
        accepted_is = e.accepted ∙ h.own.accepted_is;
        making_is = e.making ∙ sym closes.0;
        apart = λ s. e.live;
      };
      session = h.session;
      server = h.server;
      moment = h.moment;
      draws = h.draws;
      places = subst (λ (t : ℕ). ChannelShowsPlaces y.places t d.settled_by w.values.log.places w.values.log.who w.values.log.first
          w.values.log.birth) (sym e.taken) places;
      channels = subst (λ (t : ℕ). ShowsChannels x.settings x.guid x.keys t (seen_of d) (λ j. client_off (w.values.conns j))
          (λ j. client_end_off (w.wires j)) y.channels.items) (sym e.taken)
          (all_changed x.settings x.guid x.keys c.taken (seen_of c) (seen_of d) ClosesClient x.channels.items
          y.channels.items w.values.conns
          w.wires client_off client_end_off closes.1
          (λ j u v closed shows. client_closed j x.settings x.guid x.keys c.taken (seen_of c) (seen_of d) (w.values.conns j) (w.wires j) u v
          closed (e.ready j) shows) (λ j b. (refl, b.1, e.ready j)) h.channels);
    }

-- ---- a response in the world

abbrev reply_in : bytes.World → Response → Reply
reply_in w r = reply_of (command_asked w.values.client r.number r.asking) r.header r.message

abbrev event_in : bytes.World → ℕ → Response → ClientEvent
event_in w k r = Hears k r.number r.asking (reply_in w r) r.place

by_closing : (b : Bool) (z : WorldSettings) (x y : World) (w : bytes.World) (k : ℕ) (r : Response)
    → all_close (act w.values.client (event_in w k r)) ≡ b
    → ClosesBy b x.making x.channels.items y.making y.channels.items → ShowsClient y.client (client_after w.values.client (event_in w k r))
    → Places x y (client_after w.values.client (event_in w k r)) w → ShowsWorld z x w
    → ShowsWorld z (TakeBehind x y)
    (responded_by w k (client_after w.values.client (event_in w k r)) (act w.values.client (event_in w k r)))
by_closing true z x y w k r e closes shown places h =
    let c = w.values.client in
    let v = event_in w k r in
    let d = client_after c v in
    subst (λ (a : Act). ShowsWorld z (TakeBehind x y) (responded_by w k d a)) (sym (shut (act c v) e))
    (goes_off z x y w k d (session_ends c k r.number r.asking (reply_in w r) r.place e) shown (keeps c v h.own.kept tt)
    (asks_on c v h.own.asks) places
    closes h)
by_closing false z x y w k r e closes shown places h =
    let c = w.values.client in
    let v = event_in w k r in
    let d = client_after c v in
    subst (λ (a : Act). ShowsWorld z (TakeBehind x y) (responded_by w k d a)) (sym (quiet c k r.number r.asking (reply_in w r) e))
    (goes_on z x y w k d (stays c k r.number r.asking (reply_in w r) r.place e) shown (keeps c v h.own.kept tt)
    (asks_on c v h.own.asks) places
    closes h)

pub responded : (z : WorldSettings) (x y : World) (w : bytes.World) (k : ℕ) (r : Response) → IsResponded x k r y → ShowsWorld z x w
    → ShowsWorld z y (responded_by w k (client_after w.values.client (event_in w k r)) (act w.values.client (event_in w k r)))
responded z x y w k r i h =
    let c = w.values.client in
    let v = event_in w k r in
    let d = client_after c v in
    let reply = reply_in w r in
    let answers = i.replies.answers in
    let salted = ap (λ (q : Identity). q.salt) h.own.who ∙ h.settings.salt_is in
    let reads = i.replies.reads c h.own.client salted in
    let means : Means c (happens.Hear k r.number r.asking i.replies.reply.status i.replies.reply.body) v =
    (reply, r.place, sym (ap (λ (q : Reply). q.status) reads), sym (ap (λ (q : Reply). q.body) reads), refl) in
    let shown : ShowsClient y.client d = answers.responds.shown c v h.own.client h.own.kept means in
    let told : act_of i.told ≡ act c v = answers.responds.tells c v h.own.client h.own.kept means in
    let places : Places x y d w =
    noted x.places y.places r.number r.place c.taken c.settled_by w.values.log.places w.values.log.who w.values.log.first w.values.log.birth
    h.places answers.settles c d (answers.grows c d h.own.client shown) answers.notes refl
    (responds c k r.number r.asking reply r.place) in
    subst (λ (q : World). ShowsWorld z q (responded_by w k d (act c v))) (sym i.rest)
    (by_closing (all_close (act_of i.told)) z x y w k r (ap all_close (sym told)) i.closes shown places h)

-- ---- the front of a channel that is ready

ready_line : (v : ClientSide) → is_ready v ≡ true → is_open v ≡ true
ready_line Closed e = absurd (cc)
ready_line (Talks d) e = refl
ready_line (Ready l) e = refl

found : (o : Option Channel) → readied_in o ≡ true → (one : Channel) × (o ≡ Some one)
found None e = absurd (cc)
found (Some one) e = (one, refl)

open_too : (o : Option Channel) → readied_in o ≡ true → opened_in o ≡ true
open_too None e = absurd (cc)
open_too (Some one) e = ready_line one.client e

-- what the front comes to
abbrev comes : bytes.World → ℕ → ℕ → Option Response → bytes.World
comes w k place None = cut_wires w k
comes w k place (Some r) = op_heard w k r.number r.asking (record { header = r.header; bytes = r.message }) place

abbrev place_in : Option Response → ℕ
place_in None = 0
place_in (Some r) = r.place

abbrev line_takes : bytes.World → ℕ → ℕ → List ℕ → bytes.World
line_takes w k place b = line_hears w k place (line_response (w.wires k).client_end b)

hears_it : (w : bytes.World) (k place : ℕ) (b : List ℕ) (o : Option Response) (new : Line)
    → TakeHearsAs (w.wires k).client_end (line_response (w.wires k).client_end b) new o → line_takes w k place b ≡ comes w k place o
hears_it w k place b None new h = unheard_cuts w k place (line_response (w.wires k).client_end b) h.0
hears_it w k place b (Some r) new h = answered_heard w k place (line_response (w.wires k).client_end b) new r h

-- its place is that of the definitions' reply
same_place : (w : bytes.World) (k place other : ℕ) (o : Option Response) → IsTakeAt place o → other ≡ place
    → comes w k other o ≡ comes w k (place_in o) o
same_place w k place other None h e = refl
same_place w k place other (Some r) h e = ap (λ (n : ℕ). comes w k n (Some r)) (e ∙ sym h)

takes_front : (z : WorldSettings) (w : bytes.World) (k : ℕ) (d : Down) (ds : List Down)
    → (f : Fronted d ds (w.wires k).down (w.values.conns k).down) → (w.wires k).client_end.stage ≡ Apart
    → take_frame z w k (w.wires k).down (w.values.conns k).down
    ≡ line_takes (behind_frame w k f.frames f.replies) k f.reply.place f.frame
takes_front z w k d ds f e =
    ap (λ (v : List (List ℕ)). take_frame z w k v (w.values.conns k).down) f.frames_are
    ∙ (ap (λ (v : List Received). take_frame z w k (f.frame ∷ f.frames) v) f.replies_are
    ∙ ap (λ (v : Stage). hears z (behind_frame w k f.frames f.replies) k f.frame f.reply.place v) e)

goes_by : (o : Option Response) (z : WorldSettings) (x y : World) (w : bytes.World) (k : ℕ) → TakeGoesOn x k o y
    → opened_in (slice_get x.channels.items k) ≡ true → ShowsWorld z x (world_behind w k o) → ShowsWorld z y (comes w k (place_in o) o)
goes_by None z x y w k i there h =
    subst (λ (q : World). ShowsWorld z q (cut_wires w k)) (sym i.rest) (cuts z x y w k i.cuts there h)
goes_by (Some r) z x y w k i there h = responded z x y (world_behind w k (Some r)) k r i h

-- ---- the event

filled_one : (y : Received) (ys : List Received) → is_filled (y ∷ ys) ≡ true
unfolding is_filled
filled_one y ys = refl

filled_frame : (b : List ℕ) (bs : List (List ℕ)) → is_filled (b ∷ bs) ≡ true
unfolding is_filled
filled_frame b bs = refl

empty_frames : (bs : List (List ℕ)) → bs ≡ [] → is_filled bs ≡ false
unfolding is_filled
empty_frames [] e = refl
empty_frames (b ∷ bs) e = absurd (cc)

abbrev unless_by : Bool → Bool → ℕ → Option notes.WorldError
unless_by opened filled k = if not opened then Some (notes.NoChannel k) else if filled then None else Some (notes.NothingThere k)

abbrev taken_if : Bool → bytes.World → bytes.World → bytes.World
taken_if b v w = if b then bytes_later v 1 else w

both : (a b : Bool) → a ≡ true → b ≡ true → (a && b) ≡ true
both true true e f = refl
both true false e f = absurd (cc)
both false b e f = absurd (cc)

pub takes : (z : WorldSettings) (x y v : World) (w : bytes.World) (k : ℕ) → TakesFront x k y
    → readied_in (slice_get x.channels.items k) ≡ true
    → v ≡ record y { moment = v.moment } → v.moment ≡ no_later (y.moment + 1) → ShowsWorld z x w
    → (step_error w (Plain (Take k)) ≡ None) × ShowsWorld z v (bytes_happen z w (Plain (Take k)))
takes z x y v w k t ready late time h =
    let c = w.values.client in
    let s = seen_of c in
    let i = w.values.conns k in
    let u = w.wires k in
    let one = found (slice_get x.channels.items k) ready in
    let shown = h.channels.each k one.0 one.1 in
    let to = t.hears.here one.0 one.1 in
    let line = to.2.client in
    let f = fronted_there k x.settings x.guid x.keys c.taken s i u one.0 to.0 t.heard to.2 shown in
    let was = was_ready k x.settings x.guid x.keys c.taken s i u one.0 to.0 t.heard to.2 shown in
    let behind = behind_frame w k f.frames f.replies in
    let shows = heard_world z x t.mid w k t.heard one.0 one.1 t.hears f h in
    let there : opened_in (slice_get t.mid.channels.items k) ≡ true = ap opened_in to.1 ∙ ap is_open line.becomes in
    let went = goes_by t.heard z (record x { channels = t.mid.channels }) y behind k t.goes there shows in
    let heard_first : TakeHearsAs u.client_end (line_response u.client_end f.frame) line.behind t.heard =
    subst (λ (b : List ℕ). TakeHearsAs u.client_end (line_response u.client_end b) line.behind t.heard) (sym f.front.bytes)
    (line_heard_it k x.settings x.guid x.keys c.taken s i u one.0 to.0 t.heard to.2 shown) in
    let heard_there : TakeHearsAs (behind.wires k).client_end (line_response (behind.wires k).client_end f.frame) line.behind t.heard =
    subst (λ (q : Wires). TakeHearsAs q.client_end (line_response q.client_end f.frame) line.behind t.heard)
    (sym (put_own w.wires k (record u { down = f.frames }))) heard_first in
    let step : take_frame z w k u.down i.down ≡ comes behind k (place_in t.heard) t.heard =
    takes_front z w k to.2.front to.0.down.items f was.1.over
    ∙ (hears_it behind k f.reply.place f.frame t.heard line.behind heard_there
    ∙ same_place behind k to.2.front.place f.reply.place t.heard line.hears.place f.front.place) in
    let done : ShowsWorld z y (bytes_changed z w (Take k)) = subst (λ (q : bytes.World). ShowsWorld z y q) (sym step) went in
    let frames = ap (λ (q : List (List ℕ)). is_filled q) f.frames_are ∙ filled_frame f.frame f.frames in
    let replies = ap (λ (q : List Received). is_filled q) f.replies_are ∙ filled_one f.reply f.replies in (
      ap (λ (b : Bool). unless_by b (is_filled u.down) k) was.0 ∙ ap (λ (b : Bool). unless_by true b k) frames,
      subst (λ (b : Bool). ShowsWorld z v (taken_if b (bytes_changed z w (Take k)) w))
          (sym (both i.client_open (is_filled i.down) was.0 replies))
          (later_shown z y v (bytes_changed z w (Take k)) 1 late time done),
    )

-- ---- nothing is there

none_waits : (ds : List Down) → is_filled ds ≡ false → ds ≡ []
unfolding is_filled
none_waits [] e = refl
none_waits (d ∷ ds) e = absurd (cc)

no_frames : (ds : List Down) (bs : List (List ℕ)) (ys : List Received) → ds ≡ [] → AreDown ds bs ys → bs ≡ []
no_frames [] [] ys e h = refl
no_frames [] (b ∷ bs) [] e h = absurd h
no_frames [] (b ∷ bs) (y ∷ ys) e h = absurd h
no_frames (d ∷ ds) bs ys e h = absurd (cc)

pub nothing : (z : WorldSettings) (x : World) (w : bytes.World) (k : ℕ) → readied_in (slice_get x.channels.items k) ≡ true
    → waits_in (slice_get x.channels.items k) ≡ false → ShowsWorld z x w
    → (step_error w (Plain (Take k)) ≡ Some (notes.NothingThere k)) × ShowsWorld z x w
nothing z x w k ready e h =
    let c = w.values.client in
    let one = found (slice_get x.channels.items k) ready in
    let there = is_opened x.settings x.guid x.keys c.taken (seen_of c) w.values.conns w.wires x.channels.items h.channels k
    ∙ open_too (slice_get x.channels.items k) ready in
    let none = none_waits one.0.down.items (sym (ap waits_in one.1) ∙ e) in
    let frames = no_frames one.0.down.items (w.wires k).down (w.values.conns k).down none (h.channels.each k one.0 one.1).down in (
      ap (λ (b : Bool). unless_by b (is_filled (w.wires k).down) k) there
          ∙ ap (λ (b : Bool). unless_by true b k) (empty_frames (w.wires k).down frames),
      h,
    )
