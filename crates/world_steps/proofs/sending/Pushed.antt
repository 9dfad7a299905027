-- A push in the exchange over bytes.
use Rattle.std.proofs.Common.{◌≡◌, ℕ, ◌+◌, ◌≤◌, ◌<◌, nat_le, Bool, true, false, ◌&&◌, if◌then◌else◌, refl, sym, ap, subst, ◌∙◌, arith}
use Rattle.std.proofs.Common.{List, slice_get, Option, Some, None, ◌⊎◌, inl, inr}
use Rattle.std.proofs.lemmas.Bool.Decides.{nat_tests}
use Rattle.client_steps.specs.whole_client.Shown.{ShowsClient}
use Rattle.client_steps.specs.declared.whole_client.client.Client.{Client as Core}
use Rattle.client_events.specs.event_calls.Events.{act_of}
use Rattle.law_client.proofs.table.Events.{keeps}
use Rattle.law_client.specs.table.Kept.{TableKept}
use Rattle.client_steps.specs.pushing.Acts.{chosen_with}
use Rattle.client_events.proofs.world_law.Events.{asks_on}
use Rattle.client_events.proofs.world_law.Going.{asks_taken, sends_taken}
use Rattle.client_events.proofs.world_law.Picking.{pick_goes_out}
use Rattle.client_events.specs.world_law.Asking.{AsksFit}
use Rattle.spec_wire.specs.credits.Ids.{counted}
use Rattle.spec_wire.specs.credits.Purse.{Credits}
use Rattle.spec_exchange.specs.Client.{Client, Identity}
use Rattle.spec_exchange.specs.ClientStep.{Act, AllSettled, CloseChannel, CloseChannels, Nothing, Pick, Sends, Asks, act, client_after}
use Rattle.spec_exchange.specs.ClientStep as steps
use Rattle.spec_exchange.specs.Network.{Conn as Link, Token, first_push, op_of, pushed_by, send_up, with_client}
use Rattle.spec_exchange.specs.Operations.{is_firm}
use Rattle.spec_exchange.specs.Order.{Log}
use Rattle.spec_exchange.specs.Schedules.{push_by}
use Rattle.spec_exchange.specs.State.{Message, no_later}
use Rattle.spec_exchange.specs.Table.{put}
use Rattle.client_ends.specs.declared.ends.config.ClientConfig.{ClientConfig}
use Rattle.client_ends.specs.declared.ends.line.Line.{Line}
use Rattle.spec_crypto.specs.declared.sessions.material.Keys.{Keys}
use Rattle.spec_world.specs.Courses.{push_lowest}
use Rattle.spec_world.specs.Ends.{ClientEnd}
use Rattle.spec_world.specs.Events.{Plain, bytes_changed, bytes_happen, bytes_later}
use Rattle.spec_world.specs.Notes as notes
use Rattle.spec_world.specs.Notes.{step_error, unless_open}
use Rattle.spec_world.specs.Sending.{line_frame, may_seal, sealed_on, spent}
use Rattle.spec_world.specs.Settings.{WorldSettings}
use Rattle.spec_world.specs.World as bytes
use Rattle.spec_world.specs.World.{Wires, cost_of, line_sent, may_pay, paid, pushed_wires, pushed_with, queued, with_values}
use Rattle.world_ends.specs.Channels.{ShowsChannel, ShowsChannels, ShowsClientSide, seen_of}
use Rattle.world_ends.specs.Places.{ChannelShowsPlaces}
use Rattle.world_ends.specs.Shown.{ShowsOwn, ShowsWorld}
use Rattle.world_ends.specs.Tests.{is_ready, readied_in}
use Rattle.world_ends.specs.declared.sides.Channel.{Channel}
use Rattle.world_ends.specs.declared.sides.ClientSide.{ClientSide}
use Rattle.world_ends.specs.declared.sides.ClientSide.TheVariants.{Closed, Talks, Ready}
use Rattle.world_ends.specs.declared.world.Places.{Places}
use Rattle.world_ends.specs.declared.world.World.{World}
use Rattle.world_steps.specs.sending.Sending.{SendingGoes, GoesBy, Pushes, SendingSaysOn, charge_for, credits_in}
use Rattle.world_steps.specs.sending.Sending.{held_by, message_for, token_for}
use Rattle.world_steps.specs.Lists.{ChangedAt}
use Rattle.world_steps.proofs.Closing.{is_readied, one_changed}
use Rattle.world_steps.proofs.Onward.{later_shown}
use Rattle.world_steps.proofs.sending.Left.{Columns, columns_of, push_leaves}
use Rattle.world_steps.proofs.sending.Said.{said_on, sends}

-- ---- the client behind it, of which columns stay

own_behind : (z : WorldSettings) (x y : Core) (a : ℕ) (m : Option ℕ) (c d : Client) → columns_of d ≡ columns_of c
    → ShowsClient y d → TableKept d
    → AsksFit d → ShowsOwn z x a m c → ShowsOwn z y a m d
own_behind z x y a m c d e shown kept asks h = record {
  client = shown;
  kept = kept;
  asks = asks;
  who = ap (λ (q : Columns). q.who) e ∙ h.who;
  accepted_is = ap (λ (q : Columns). q.seen.accepted) e ∙ h.accepted_is;
  making_is = ap (λ (q : Columns). q.seen.making) e ∙ h.making_is;
  apart = λ t. ap (λ (q : Columns). q.seen.live) e ∙ h.apart t;
}

places_behind : (p : Places) (c d : Client) (places : ℕ) (who : ℕ → ℕ) (first : ℕ → Option ℕ) (birth : ℕ → ℕ)
    → columns_of d ≡ columns_of c → ChannelShowsPlaces p c.taken c.settled_by places who first birth
    → ChannelShowsPlaces p d.taken d.settled_by places who first birth
places_behind p c d places who first birth e h =
    subst (λ (q : Columns). ChannelShowsPlaces p q.taken q.settled_by places who first birth) (sym e) h

channels_behind : (s : ClientConfig) (guid : List ℕ) (keys : Keys) (c d : Client) (conns : ℕ → Link) (wires : ℕ → Wires) (xs : List Channel)
    → columns_of d ≡ columns_of c → ShowsChannels s guid keys c.taken (seen_of c) conns wires xs
    → ShowsChannels s guid keys d.taken (seen_of d) conns wires xs
channels_behind s guid keys c d conns wires xs e h =
    subst (λ (q : Columns). ShowsChannels s guid keys q.taken q.seen conns wires xs) (sym e) h

-- ---- the world behind it

abbrev Behind : World → World → World
Behind x y = record x { client = y.client; channels = y.channels }

abbrev went : bytes.World → ℕ → Client → Act → bytes.World
went w k d a = with_values (pushed_wires w k d a) (pushed_by w.values k d a)

abbrev spoken : bytes.World → ℕ → Client → Token → Message → Message → ℕ → Log → bytes.World
spoken w k d token m sent charge log =
    with_values (line_sent w k token m charge)
    (record w.values { client = d; conns = put w.values.conns k (send_up (w.values.conns k) token sent charge); log = log })

-- nothing goes out
mute : (z : WorldSettings) (x y : World) (w : bytes.World) (d : Client) → columns_of d ≡ columns_of w.values.client
    → y.channels.items ≡ x.channels.items → ShowsOwn z y.client x.accepted x.making d → ShowsWorld z x w
    → ShowsWorld z (Behind x y) (with_values w (with_client w.values d))
mute z x y w d e same own h = record {
  settings = h.settings;
  own = own;
  session = h.session;
  server = h.server;
  moment = h.moment;
  draws = h.draws;
  places = places_behind x.places w.values.client d w.values.log.places w.values.log.who w.values.log.first w.values.log.birth e h.places;
  channels = subst (λ (v : List Channel). ShowsChannels x.settings x.guid x.keys d.taken (seen_of d) w.values.conns w.wires v) (sym same)
      (channels_behind x.settings x.guid x.keys w.values.client d w.values.conns w.wires x.channels.items e h.channels);
}

-- a message goes out on a channel that is ready
speaks : (z : WorldSettings) (x y : World) (w : bytes.World) (k : ℕ) (d : Client) (token : Token) (m sent : Message)
    (charge : ℕ) (log : Log)
    (one : Channel) (R : Channel → Channel → Type 0) → columns_of d ≡ columns_of w.values.client
    → slice_get x.channels.items k ≡ Some one → ChangedAt R k x.channels.items y.channels.items
    → ((v : Channel) → R one v
    → ShowsChannel k x.settings x.guid x.keys w.values.client.taken (seen_of w.values.client) (w.values.conns k) (w.wires k) one
    → ShowsChannel k x.settings x.guid x.keys w.values.client.taken (seen_of w.values.client) (send_up (w.values.conns k) token sent charge)
    (queued (w.wires k) (sealed_on (spent (w.wires k).client_end charge token)) (line_frame (w.wires k).client_end m charge)) v)
    → ChannelShowsPlaces x.places w.values.client.taken w.values.client.settled_by log.places log.who log.first log.birth
    → ShowsOwn z y.client x.accepted x.making d → ShowsWorld z x w
    → ShowsWorld z (Behind x y) (spoken w k d token m sent charge log)
speaks z x y w k d token m sent charge log one R e at r to places own h =
    let c = w.values.client in
    let i = send_up (w.values.conns k) token sent charge in
    let u = queued (w.wires k) (sealed_on (spent (w.wires k).client_end charge token)) (line_frame (w.wires k).client_end m charge) in
    record {
      settings = h.settings;
      own = own;
      session = h.session;
      server = h.server;
      moment = h.moment;
      draws = h.draws;
      places = places_behind x.places c d log.places log.who log.first log.birth e places;
      channels = channels_behind x.settings x.guid x.keys c d (put w.values.conns k i) (put w.wires k u) y.channels.items e
          (one_changed x.settings x.guid x.keys c.taken (seen_of c) (seen_of c) R k x.channels.items y.channels.items w.values.conns w.wires
          i u one r at to (λ j v other shown. shown) (λ j other ready. ready) h.channels);
    }

-- ---- the channel

ready_line : (v : ClientSide) → is_ready v ≡ true → (l : Line) × (v ≡ Ready l)
ready_line Closed e = absurd (cc)
ready_line (Talks d) e = absurd (cc)
ready_line (Ready l) e = (l, refl)

found : (o : Option Channel) → readied_in o ≡ true → (one : Channel) × (l : Line) × (o ≡ Some one) × (one.client ≡ Ready l)
found None e = absurd (cc)
found (Some one) e = let r = ready_line one.client e in (one, r.0, refl, r.1)

-- ---- it is paid for

both : (a b : Bool) → a ≡ true → b ≡ true → (a && b) ≡ true
both true true e f = refl
both true false e f = absurd (cc)
both false b e f = absurd (cc)

at_most : (n m : ℕ) → n ≤ m → nat_le n m ≡ true
at_most n m l = grind (arith, nat_tests)

payable : (n : ClientEnd) (cost : ℕ) → counted cost ≤ n.purse.held → may_seal n ≡ true → may_pay n cost ≡ true
payable n cost l s = both (nat_le (counted cost) n.purse.held) (may_seal n) (at_most (counted cost) n.purse.held l) s

same_pick : (b : Bool) (p : Option Pick) → (if b then p else p) ≡ p
same_pick true p = refl
same_pick false p = refl

-- where no pick is
unpaid : (w : bytes.World) (k : ℕ) (gs : List ℕ) (p : Option Pick) → p ≡ None → paid w k gs p ≡ p
unpaid w k gs p e =
    subst (λ (q : Option Pick). paid w k gs q ≡ q) (sym e)
    (same_pick (may_pay (w.wires k).client_end (bytes.cost w.values.client k gs None)) None)

is_paid : (w : bytes.World) (k : ℕ) (gs : List ℕ) (p : Option Pick) (a : Act) → act w.values.client (steps.Pushes k gs p) ≡ a
    → may_pay (w.wires k).client_end (cost_of (client_after w.values.client (steps.Pushes k gs p)) a) ≡ true → paid w k gs p ≡ p
is_paid w k gs p a e m =
    let d = client_after w.values.client (steps.Pushes k gs p) in
    ap (λ (b : Bool). if b then p else None)
    (subst (λ (v : Act). may_pay (w.wires k).client_end (cost_of d v) ≡ true) (sym e) m)

-- ---- by what the client does

abbrev is_quiet : Act → Bool
is_quiet (Sends g) = false
is_quiet (Asks g) = false
is_quiet _ = true

loud : (a : Act) (g : ℕ) → (a ≡ Sends g) ⊎ (a ≡ Asks g) → is_quiet a ≡ true → ⊥
loud a g (inl e) q = let f : false ≡ true = sym (ap is_quiet e) ∙ q in absurd (cc)
loud a g (inr e) q = let f : false ≡ true = sym (ap is_quiet e) ∙ q in absurd (cc)

no_pick : (c : Client) (k held : ℕ) (p : Option Pick) → (chosen_with c k held).pick ≡ p
    → is_quiet (act c (steps.Pushes k (chosen_with c k held).slotless p)) ≡ true → p ≡ None
no_pick c k held None e q = refl
no_pick c k held (Some p) e q =
    absurd (loud (act c (steps.Pushes k (chosen_with c k held).slotless (Some p))) p.op (pick_goes_out c k held 1 c.taken p e) q)

id_is : (d : Client) (k id g : ℕ) (asking : Bool) → (message_for d k id g asking).message_id ≡ id
id_is d k id g true = refl
id_is d k id g false = refl

below : (g : ℕ) (asking : Bool) (t : ℕ) → g ≤ t → op_of (token_for g asking) ≤ t
below g true t l = l
below g false t l = l

-- an operation, or the request to attach its open, goes out, and is paid for
goes_out : (asking : Bool) (z : WorldSettings) (x y : World) (w : bytes.World) (k : ℕ) (d : Client) (g : ℕ)
    → SendingGoes y.client x.salt g asking k x.channels.items y.channels.items → columns_of d ≡ columns_of w.values.client → 0 < g
    → g ≤ w.values.client.taken → readied_in (slice_get x.channels.items k) ≡ true → ShowsOwn z y.client x.accepted x.making d → (log : Log)
    → ChannelShowsPlaces x.places w.values.client.taken w.values.client.settled_by log.places log.who log.first log.birth → ShowsWorld z x w
    → ShowsWorld z (Behind x y)
    (spoken w k d (token_for g asking) (message_for d k (w.wires k).client_end.purse.next g asking)
    (message_for d k (w.values.conns k).next_id g asking) (charge_for d g asking) log)
    × (may_pay (w.wires k).client_end (charge_for d g asking) ≡ true)
goes_out asking z x y w k d g goes e low high ready own log places h =
    let c = w.values.client in
    let n = (w.wires k).client_end in
    let one = found (slice_get x.channels.items k) ready in
    let shown = h.channels.each k one.0 one.2 in
    let m = message_for d k n.purse.next g asking in
    let charge = charge_for d g asking in
    let salted = ap (λ (i : Identity). i.salt) own.who ∙ h.settings.salt_is in
    let asked = goes.asks.request d k n.purse.next own.client salted low (subst (λ (v : Columns). g ≤ v.taken) (sym e) high) in
    let to = goes.says.here one.0 one.2 in
    let sent = sends k x.settings x.guid x.keys c.taken (seen_of c) (w.values.conns k) (w.wires k) one.0 to.0
    goes.request to.2 shown m charge
    asked (id_is d k n.purse.next g asking) in (
      speaks z x y w k d (token_for g asking) m (message_for d k (w.values.conns k).next_id g asking) charge log one.0
          (SendingSaysOn goes.request) e
          one.2 goes.says
          (λ v says s. said_on k x.settings x.guid x.keys c.taken (seen_of c) (w.values.conns k) (w.wires k) one.0 v goes.request says s
          (token_for g asking) m (message_for d k (w.values.conns k).next_id g asking) charge (goes.asks.token low)
          (below g asking c.taken high) asked (id_is d k n.purse.next g asking)) places own h,
      payable n charge sent.0 sent.1,
    )

-- what is remembered of a first push isn't kept
first_places : (b : Bool) (p : Places) (t : ℕ) (by : ℕ → Option ℕ) (l : Log) (since : ℕ → ℕ) (prior : ℕ → ℕ → Bool)
    → ChannelShowsPlaces p t by l.places l.who l.first l.birth
    → ChannelShowsPlaces p t by (if b then l else record l { since = since; prior = prior }).places
    (if b then l else record l { since = since; prior = prior }).who (if b then l else record l { since = since; prior = prior }).first
    (if b then l else record l { since = since; prior = prior }).birth
first_places true p t by l since prior h = h
first_places false p t by l since prior h = h

with_paid : (z : WorldSettings) (v : World) (w : bytes.World) (k : ℕ) (gs : List ℕ) (p : Option Pick) → paid w k gs p ≡ p
    → ShowsWorld z v (pushed_with w k gs p) → ShowsWorld z v (pushed_with w k gs (paid w k gs p))
with_paid z v w k gs p e h = subst (λ (q : Option Pick). ShowsWorld z v (pushed_with w k gs q)) (sym e) h

abbrev Own : WorldSettings → World → World → bytes.World → ℕ → List ℕ → Option Pick → Type 0
Own z x y w k gs p = ShowsOwn z y.client x.accepted x.making (client_after w.values.client (steps.Pushes k gs p))

quiet_one : (a : Act) (z : WorldSettings) (x y : World) (w : bytes.World) (k : ℕ) (gs : List ℕ) (p : Option Pick)
    → act w.values.client (steps.Pushes k gs p) ≡ a → p ≡ None
    → (went w k (client_after w.values.client (steps.Pushes k gs p)) a
    ≡ with_values w (with_client w.values (client_after w.values.client (steps.Pushes k gs p))))
    → y.channels.items ≡ x.channels.items → Own z x y w k gs p → ShowsWorld z x w
    → ShowsWorld z (Behind x y) (pushed_with w k gs (paid w k gs p))
quiet_one a z x y w k gs p e none is same own h =
    let d = client_after w.values.client (steps.Pushes k gs p) in
    with_paid z (Behind x y) w k gs p (unpaid w k gs p none)
    (subst (λ (v : Act). ShowsWorld z (Behind x y) (went w k d v)) (sym e)
    (subst (λ (v : bytes.World). ShowsWorld z (Behind x y) v) (sym is)
    (mute z x y w d (push_leaves w.values.client k gs p) same own h)))

by_act : (a : Act) (z : WorldSettings) (x y : World) (w : bytes.World) (k : ℕ) (gs : List ℕ) (p : Option Pick)
    → act w.values.client (steps.Pushes k gs p) ≡ a → (is_quiet a ≡ true → p ≡ None)
    → GoesBy a y.client x.salt k x.channels.items y.channels.items → readied_in (slice_get x.channels.items k) ≡ true → Own z x y w k gs p
    → ShowsWorld z x w → ShowsWorld z (Behind x y) (pushed_with w k gs (paid w k gs p))
by_act (Sends g) z x y w k gs p e none goes ready own h =
    let c = w.values.client in
    let d = client_after c (steps.Pushes k gs p) in
    let taken = sends_taken c k g gs p e in
    let all = goes_out false z x y w k d g goes (push_leaves c k gs p) taken.0 taken.1 ready own (first_push w.values g)
    (first_places (c.sent g) x.places c.taken c.settled_by w.values.log (put w.values.log.since g w.values.log.places)
    (put w.values.log.prior g (λ a. is_firm (c.outcome a))) h.places) h in
    with_paid z (Behind x y) w k gs p (is_paid w k gs p (Sends g) e all.1)
    (subst (λ (v : Act). ShowsWorld z (Behind x y) (went w k d v)) (sym e) all.0)
by_act (Asks g) z x y w k gs p e none goes ready own h =
    let c = w.values.client in
    let d = client_after c (steps.Pushes k gs p) in
    let taken = asks_taken c k g gs p e in
    let all = goes_out true z x y w k d g goes (push_leaves c k gs p) taken.0 taken.1 ready own w.values.log h.places h in
    with_paid z (Behind x y) w k gs p (is_paid w k gs p (Asks g) e all.1)
    (subst (λ (v : Act). ShowsWorld z (Behind x y) (went w k d v)) (sym e) all.0)
by_act Nothing z x y w k gs p e none goes ready own h = quiet_one Nothing z x y w k gs p e (none refl) refl goes own h
by_act CloseChannel z x y w k gs p e none goes ready own h = quiet_one CloseChannel z x y w k gs p e (none refl) refl goes own h
by_act CloseChannels z x y w k gs p e none goes ready own h = quiet_one CloseChannels z x y w k gs p e (none refl) refl goes own h
by_act AllSettled z x y w k gs p e none goes ready own h = quiet_one AllSettled z x y w k gs p e (none refl) refl goes own h

pushed : (z : WorldSettings) (x y : World) (w : bytes.World) (k : ℕ)
    → (r : Pushes x.client x.salt k x.channels.items y.client y.channels.items) → readied_in (slice_get x.channels.items k) ≡ true
    → ShowsWorld z x w
    → ShowsWorld z (Behind x y) (bytes_changed z w (push_by k (chosen_with w.values.client k r.chosen.held)))
pushed z x y w k r ready h =
    let c = w.values.client in
    let choice = chosen_with c k r.chosen.held in
    let e = steps.Pushes k choice.slotless choice.pick in
    let told = sym (r.chosen.chooses.tells c e h.own.client h.own.kept refl) in
    by_act (act_of r.told) z x y w k choice.slotless choice.pick told
    (λ q. no_pick c k r.chosen.held choice.pick refl (ap is_quiet told ∙ q)) r.goes ready
    (own_behind z x.client y.client x.accepted x.making c (client_after c e) (push_leaves c k choice.slotless choice.pick)
    (r.chosen.chooses.shown c e h.own.client h.own.kept refl) (keeps c e h.own.kept tt) (asks_on c e h.own.asks) h.own) h

-- ---- what the channel holds

some_held : (m n : ℕ) → Some m ≡ Some n → m ≡ n
some_held m n e = cc

held_in : (z : WorldSettings) (x : World) (w : bytes.World) (k held : ℕ) → credits_in (slice_get x.channels.items k) ≡ Some held
    → readied_in (slice_get x.channels.items k) ≡ true → ShowsWorld z x w → (w.wires k).client_end.purse.held ≡ held
held_in z x w k held credits ready h =
    let c = w.values.client in
    let one = found (slice_get x.channels.items k) ready in
    let side : ShowsClientSide k x.settings x.keys (seen_of c) (w.values.conns k).client_open (w.wires k).client_end (Ready one.1) =
    subst (λ (v : ClientSide). ShowsClientSide k x.settings x.keys (seen_of c) (w.values.conns k).client_open
    (w.wires k).client_end v) one.3
    (h.channels.each k one.0 one.2).client in
    let told : Some one.1.purse.held ≡ Some held = sym (ap held_by one.3) ∙ (sym (ap credits_in one.2) ∙ credits) in
    ap (λ (p : Credits). p.held) side.1.shown.0.purse ∙ some_held one.1.purse.held held told

-- ---- the event

abbrev pushed_if : Bool → bytes.World → bytes.World → bytes.World
pushed_if b v w = if b then bytes_later v 1 else w

pub pushes : (z : WorldSettings) (x y v : World) (w : bytes.World) (k : ℕ)
    → Pushes x.client x.salt k x.channels.items y.client y.channels.items → readied_in (slice_get x.channels.items k) ≡ true
    → v ≡ record (record x { client = y.client; channels = y.channels }) { moment = v.moment } → v.moment ≡ no_later (x.moment + 1)
    → ShowsWorld z x w
    → (step_error w (Plain (push_lowest w k)) ≡ None) × ShowsWorld z v (bytes_happen z w (Plain (push_lowest w k)))
pushes z x y v w k r ready late time h =
    let c = w.values.client in
    let is = is_readied x.settings x.guid x.keys c.taken (seen_of c) w.values.conns w.wires x.channels.items h.channels k ∙ ready in
    let behind = bytes_changed z w (push_by k (chosen_with c k r.chosen.held)) in
    subst (λ (m : ℕ). (step_error w (Plain (push_by k (chosen_with c k m))) ≡ None)
    × ShowsWorld z v (bytes_happen z w (Plain (push_by k (chosen_with c k m)))))
    (sym (held_in z x w k r.chosen.held r.chosen.credits ready h)) (
      ap (λ (b : Bool). unless_open b k) is,
      subst (λ (b : Bool). ShowsWorld z v (pushed_if b behind w)) (sym is)
          (later_shown z (Behind x y) v behind 1 late time (pushed z x y w k r ready h)),
    )

pub not_ready : (z : WorldSettings) (x : World) (w : bytes.World) (k : ℕ) → readied_in (slice_get x.channels.items k) ≡ false
    → ShowsWorld z x w → (step_error w (Plain (push_lowest w k)) ≡ Some (notes.NoChannel k)) × ShowsWorld z x w
not_ready z x w k e h =
    let c = w.values.client in (
      ap (λ (b : Bool). unless_open b k)
          (is_readied x.settings x.guid x.keys c.taken (seen_of c) w.values.conns w.wires x.channels.items h.channels k ∙ e),
      h,
    )
