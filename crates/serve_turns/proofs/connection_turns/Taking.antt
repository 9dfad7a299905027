-- One message of a frame in its turn, and what the definitions make of the frame's messages so far by what was given for each event.
use Rattle.std.proofs.Common.{◌≡◌, ℕ, ◌+◌, ◌==◌, ◌&&◌, ◌||◌, min, not, nat_le, if◌then◌else◌, Bool, true, false}
use Rattle.std.proofs.Common.{List, [], ◌∷◌, ◌++◌, Option, Some, None, Ok, Err, slice_get}
use Rattle.std.proofs.Common.{refl, sym, ap, subst, ◌∙◌, append-nil, eqb-true, arith}
use Rattle.std.specs.Prelude.{is_some, ⊤}
use Rattle.std.proofs.lemmas.Grind.{common_steps}
use Rattle.spec_wire.specs.declared.messages.header.Header.{Header}
use Rattle.spec_exchange.specs.Commands as asks
use Rattle.spec_exchange.specs.State as model
use Rattle.spec_exchange.specs.Network.{answer_to}
use Rattle.spec_exchange.specs.Status.{insufficient_resources, no_memory}
use Rattle.spec_commands.specs.CommandOf as commands
use Rattle.spec_world.specs.Connection as connection
use Rattle.spec_world.specs.Connection.{heard_message}
use Rattle.spec_world.specs.Ends.{ServerEnd, Logons}
use Rattle.spec_world.specs.Given as gives
use Rattle.spec_world.specs.Given.{Given, Answered, NoMemory, Stops, has_event, is_past_setups}
use Rattle.spec_world.specs.Hearing as hearing
use Rattle.spec_world.specs.Related as related
use Rattle.spec_world.specs.Related.{Fails, Goes, failed_as, turn_of}
use Rattle.spec_world.specs.Settings.{ServerSettings}
use Rattle.conn_core.specs.declared.end.ConnEnd.{ConnEnd}
use Rattle.conn_core.specs.declared.end.ConnEnd.TheVariants as ends
use Rattle.conn_core.specs.declared.frame_messages.checked.Checked.{Checked}
use Rattle.conn_core.specs.declared.frame_messages.checked.CheckedFrame.{CheckedFrame}
use Rattle.conn_core.specs.frame_messages.Checking.{ShowsGoing, message_in}
use Rattle.conn_core.specs.declared.frame_events.handing.Dealt.{Dealt}
use Rattle.conn_core.specs.declared.related.related.Carry.{Carry}
use Rattle.conn_core.specs.declared.requests.hearing.Told.{Told}
use Rattle.conn_core.specs.declared.served.error.ServeError.TheVariants as errors
use Rattle.conn_core.specs.declared.served.serve.Reply.{Reply}
use Rattle.conn_core.specs.served.Refusing.{IsMessageRefused}
use Rattle.conn_core.specs.frame_events.Dealing.{AddsTo, EventAnswer, GivesReply, event_listed, lost_in, stop_in, takes}
use Rattle.conn_core.specs.frame_events.Shared.{first_dealt}
use Rattle.conn_core.specs.frame_events.SoFar.{Facts}
use Rattle.conn_core.specs.frame_events.Telling.{ToldIf, ToldReply}
use Rattle.conn_core.specs.message_replies.Replying.{IsSaidTo, aside_status, echo_due, has_message_event, negotiate_due}
use Rattle.conn_core.specs.related.Carrying.{RelatedCarries, carry_of}
use Rattle.conn_core.specs.requests.Asking.{IsRequestTold}
use Rattle.conn_core.specs.requests.Telling.{told_message}
use Rattle.conn_core.proofs.frame_events.Givens.{given_lost, setups_behind}
use Rattle.conn_core.proofs.frame_events.Gives.{is_other}
use Rattle.conn_core.proofs.frame_events.Lists.{one_message}
use Rattle.conn_core.proofs.frame_events.Sharing.{SharedOn, alone, shared_answered, shared_aside, shared_cancels, shared_done, shared_fails}
use Rattle.conn_core.proofs.frame_events.Sharing.{shared_lacks, shared_refused, shared_stops}
use Rattle.conn_core.proofs.frame_events.Stepping.{Place}
use Rattle.conn_core.proofs.requests.Events.{of_cancel, of_echo, of_negotiate, with_event}
use Rattle.conn_core.proofs.requests.Asked.{greeting_told, told_is}
use Rattle.serve_turns.specs.connection_turns.Frames.{AreFor, AreGiven, IsTurnFor}
use Rattle.serve_turns.specs.connection_turns.Messages.{Counts, DealtBy, MessageSteps, MessagesLack, MessagesSoFar}
use Rattle.serve_turns.specs.connection_turns.Turning.{message_turn}
use Rattle.serve_turns.specs.declared.event_book.turn.Answer.{Answer}
use Rattle.serve_turns.specs.declared.event_book.turn.Asks.{Asks}
use Rattle.serve_turns.specs.declared.event_book.turn.Turn.{Turn}
use Rattle.serve_turns.specs.declared.event_book.turn.What.{What}
use Rattle.serve_turns.specs.declared.shared_book.view.Entry.{Entry}
use Rattle.serve_turns.specs.event_book.History.{Course, GivenIf, MeetsAt, MeetsFrom, MeetsMessage, MeetsOff, MeetsOn, Off, On, Placed, Stand}
use Rattle.serve_turns.specs.event_book.History.{Standing, StandsAt}

-- ---- turns for messages, and what they were given, one behind the other

pub given_behind : (h : Course) (xs ys : List Placed) (gs ks : List Given) → AreGiven h xs gs → AreGiven h ys ks
    → AreGiven h (xs ++ ys) (gs ++ ks)
given_behind h [] ys [] ks p q = q
given_behind h [] ys (g ∷ gs) ks p q = absurd p
given_behind h (x ∷ xs) ys [] ks p q = absurd p
given_behind h (x ∷ xs) ys (g ∷ gs) ks p q = (p.0, given_behind h xs ys gs ks p.1 q)

pub for_behind : (k : ℕ) (f : ServerEnd) (cs ds : List hearing.Checked) (xs ys : List Placed) → AreFor k f cs xs → AreFor k f ds ys
    → AreFor k f (cs ++ ds) (xs ++ ys)
for_behind k f [] ds [] ys p q = q
for_behind k f [] ds (x ∷ xs) ys p q = absurd p
for_behind k f (c ∷ cs) ds [] ys p q = absurd p
for_behind k f (c ∷ cs) ds (x ∷ xs) ys p q = (p.0, for_behind k f cs ds xs ys p.1 q)

-- ---- what a turn's entry meets, by what its event found

abbrev MeetsSo : ServerSettings → Standing → ℕ → Asks → Answer → Option Given → Standing → Type 0
MeetsSo z (On old) now a t g to = MeetsMessage z old now a t g to
MeetsSo z (Off count) now a t g to = MeetsOff count t g to

message_meets : (z : ServerSettings) (from to : Standing) (e : Entry Turn Answer) (g : Option Given) (now : ℕ) (a : Asks)
    → e.event ≡ message_turn now a → MeetsFrom z from e g to → MeetsSo z from now a e.reply g to
message_meets z (On old) to e g now a is m = subst (λ (v : Turn). MeetsOn z old v.now v.what e.reply g to) is m
message_meets z (Off count) to e g now a is m = m

-- A turn that a message took, and where it met a history.
pub record Turned (z : ServerSettings) (h : Course) (k now : ℕ) (f : ServerEnd) (x : CheckedFrame) (at : ℕ) (t : hearing.Checked)
    (given : EventAnswer) (turn : Placed) : Type 0 where
  pub asks : Asks
  pub frame : asks.frame ≡ x
  pub place : asks.at ≡ at
  pub told : IsRequestTold f t asks.told
  pub number : asks.told.connection ≡ k
  pub is_turn : turn.1.event ≡ message_turn now asks
  pub is : turn.1.reply.reply ≡ given
  pub meets : MeetsAt z h turn

-- by the message that the server heard at this place
record MeantOn (z : ServerSettings) (now : ℕ) (old : Stand) (told : Told) (n : Checked) (bytes : List ℕ) (q : model.Message)
    (given : EventAnswer) (g : Option Given) (to : Standing) : Type 0 where
  gives : ToldIf (StandsAt to) z now old.server old.logons old.records told n bytes (Some q) given
  given_is : GivenIf now told old (Some q) given to g

record MeantOff (count : ℕ) (given : EventAnswer) (g : Option Given) (to : Standing) : Type 0 where
  reply : given ≡ Some (Err (errors.Stopped count))
  given_is : g ≡ Some (Stops count)

meant_on : (z : ServerSettings) (h : Course) (k now : ℕ) (f : ServerEnd) (x : CheckedFrame) (at : ℕ) (n : Checked) (t : hearing.Checked)
    (given : EventAnswer) (turn : Placed) (old : Stand) (q : model.Message) → (u : Turned z h k now f x at t given turn)
    → slice_get x.messages.items at ≡ Some n → ShowsGoing x.bytes.items n t → u.meets.0 ≡ On old
    → heard_message z old.logons k f t ≡ Some q
    → MeantOn z now old u.asks.told n x.bytes.items q given (h.given turn.0) (h.found (turn.0 + 1))
meant_on z h k now f x at n t given turn old q u here shows found heard =
    let g = h.given turn.0 in
    let to = h.found (turn.0 + 1) in
    let told = u.asks.told in
    let m : MeetsMessage z old now u.asks turn.1.reply g to =
    subst (λ (s : Standing). MeetsSo z s now u.asks turn.1.reply g to) found
    (message_meets z u.meets.0 to turn.1 g now u.asks u.is_turn u.meets.2) in
    let there : slice_get u.asks.frame.messages.items u.asks.at ≡ slice_get x.messages.items at =
    λ i. slice_get (u.frame i).messages.items (u.place i) in
    let same : m.message ≡ n = one_message m.message n (sym m.here ∙ (there ∙ here)) in
    let bytes : u.asks.frame.bytes.items ≡ x.bytes.items = ap (λ (y : CheckedFrame). y.bytes.items) u.frame in
    let due : told_message z old.logons told n (message_in x.bytes.items n) ≡ Some q =
    sym (told_is z old.logons f n x.bytes.items t told shows (greeting_told f t told u.told))
    ∙ (ap (λ (j : ℕ). heard_message z old.logons j f t) u.number ∙ heard) in
    let whole : told_message z old.logons told m.message (message_in u.asks.frame.bytes.items m.message) ≡ Some q =
    (λ i. told_message z old.logons told (same i) (message_in (bytes i) (same i))) ∙ due in
    record {
      gives = subst (λ (o : Option model.Message). ToldIf (StandsAt to) z now old.server old.logons old.records told n x.bytes.items o given)
          whole (subst (λ (r : EventAnswer). ToldIf (StandsAt to) z now old.server old.logons old.records told n x.bytes.items
          (told_message z old.logons told m.message (message_in u.asks.frame.bytes.items m.message)) r) u.is
          (subst (λ (b : List ℕ). ToldIf (StandsAt to) z now old.server old.logons old.records told n b
          (told_message z old.logons told m.message (message_in u.asks.frame.bytes.items m.message)) turn.1.reply.reply) bytes
          (subst (λ (w : Checked). ToldIf (StandsAt to) z now old.server old.logons old.records told w u.asks.frame.bytes.items
          (told_message z old.logons told m.message (message_in u.asks.frame.bytes.items m.message)) turn.1.reply.reply) same m.gives)));
      given_is = subst (λ (o : Option model.Message). GivenIf now told old o given to g) whole
          (subst (λ (r : EventAnswer). GivenIf now told old
          (told_message z old.logons told m.message (message_in u.asks.frame.bytes.items m.message)) r to g) u.is m.given);
    }

meant_off : (z : ServerSettings) (h : Course) (k now : ℕ) (f : ServerEnd) (x : CheckedFrame) (at : ℕ) (t : hearing.Checked)
    (given : EventAnswer) (turn : Placed) (count : ℕ) (u : Turned z h k now f x at t given turn) → u.meets.0 ≡ Off count
    → MeantOff count given (h.given turn.0) (h.found (turn.0 + 1))
meant_off z h k now f x at t given turn count u found =
    let m : MeetsOff count turn.1.reply (h.given turn.0) (h.found (turn.0 + 1)) =
    subst (λ (s : Standing). MeetsSo z s now u.asks turn.1.reply (h.given turn.0) (h.found (turn.0 + 1))) found
    (message_meets z u.meets.0 (h.found (turn.0 + 1)) turn.1 (h.given turn.0) now u.asks u.is_turn u.meets.2) in
    record { reply = sym u.is ∙ m.reply; given_is = m.given }

-- it is a turn for this message
turn_for : (z : ServerSettings) (h : Course) (k now : ℕ) (f : ServerEnd) (x : CheckedFrame) (at : ℕ) (n : Checked) (t : hearing.Checked)
    (given : EventAnswer) (turn : Placed) → Turned z h k now f x at t given turn → slice_get x.messages.items at ≡ Some n
    → ShowsGoing x.bytes.items n t → AreFor k f (t ∷ []) (turn ∷ [])
turn_for z h k now f x at n t given turn u here shows = (
  subst (λ (w : What). IsTurnFor k f t w) (sym (ap (λ (v : Turn). v.what) u.is_turn))
      (record {
        message = n;
        here = (λ i. slice_get (u.frame i).messages.items (u.place i)) ∙ here;
        shows = subst (λ (y : CheckedFrame). ShowsGoing y.bytes.items n t) (sym u.frame) shows;
        told = u.told;
        connection = u.number;
      }),
  tt,
)

-- ---- how many SESSION_SETUPs had an event

early_few : (before : ℕ) → nat_le 4096 before ≡ false → min (before + 1) 4294967295 ≡ before + 1
early_few before e = grind (arith, common_steps)

counted_by : (before : ℕ) (hd : Header) (after : ℕ) (b : Bool) → (hd.command == 1) ≡ b
    → after ≡ (if hd.command == 1 then min (before + 1) 4294967295 else before) → is_past_setups before hd ≡ false
    → after ≡ setups_behind b before
counted_by before hd after true is count early =
    count ∙ (ap (λ (b : Bool). if b then min (before + 1) 4294967295 else before) is
    ∙ early_few before (sym (ap (λ (b : Bool). b && nat_le 4096 before) is) ∙ early))
counted_by before hd after false is count early = count ∙ ap (λ (b : Bool). if b then min (before + 1) 4294967295 else before) is

-- ---- a message that asks nothing: which one it is

abbrev event_test : Option ℕ → Bool → Bool → Bool → Bool
event_test o i j l = not (is_some o) && (not i && (not j && not l))

true_false : true ≡ false → ⊥
true_false e = absurd cc

no_stop : (count : ℕ) → None ≡ Some count → ⊥
no_stop count e = absurd cc

abbrev given_stops : Option ℕ → Option Given
given_stops None = None
given_stops (Some count) = Some (Stops count)

no_create : (n k : ℕ) → (n == k) ≡ true → (k == 5) ≡ false → (n == 5) ≡ false
no_create n k e f = ap (λ (q : ℕ). q == 5) (eqb-true n k e) ∙ f

echo_status : (t : hearing.Checked) → (t.header.command == 0) ≡ false → (t.header.command == 13) ≡ true
    → aside_status t ≡ Some (echo_due t)
echo_status t zero echo =
    ap (λ (b : Bool). if b then Some (negotiate_due t)
    else if t.header.command == 13 then Some (echo_due t) else None) zero
    ∙ ap (λ (b : Bool). if b then Some (echo_due t) else None) echo

-- ---- what goes on behind a message

-- the messages so far, of which the last one may have changed in its place, so that it stands at (at + 1) in code
module _ (z : ServerSettings) (h : Course) (k now : ℕ) (fresh : List ℕ) (server : model.Server) (logons : Logons) (f : ServerEnd)
    (before : ℕ) (cs : List hearing.Checked) (at : ℕ)
    (former : List Placed) (setups : ℕ) (old : CheckedFrame) (d : Dealt) (y : Option related.Carry)
    (s : MessagesSoFar z h k now fresh server logons f before cs at former setups old d y) (x : CheckedFrame)
    (far : Facts z k now fresh server logons f cs at (at + 1) x d y s.more (alone s.d)) where
  -- as its frame began
  abbrev First : gives.Dealt
  First = first_dealt server logons f before []

  stepped : (after : ℕ) (turns : List Placed) (e : Dealt) (u : Option related.Carry) (xs : List Given) (ms : List hearing.Checked)
      (v : gives.Dealt)
      → SharedOn z k now fresh server logons f First cs at x e u s.begins.given xs s.begins.asks ms v
      → AreGiven h turns xs → AreFor k f ms turns → after ≡ v.setups
      → MessagesSoFar z h k now fresh server logons f before cs (at + 1) (former ++ turns) after x e u
  stepped after turns e u xs ms v on given mine counts = record {
    d = v;
    more = on.more;
    facts = on.facts;
    begins = on.gone.so;
    are = subst (λ (l : List Given). AreGiven h (former ++ turns) l) (sym on.gone.given_is)
        (given_behind h former turns s.begins.given xs s.are given);
    asked = subst (λ (l : List hearing.Checked). AreFor k f l (former ++ turns)) (sym on.gone.asks_are)
        (for_behind k f s.begins.asks ms former turns s.asked mine);
    counted = counts;
  }

  -- it fails with a CREATE before it
  pub message_fails : (n : Checked) (c : hearing.Checked) (status : ℕ) → Place f cs at x n c (failed_as s.d.going.carried c)
      → turn_of s.d.going.carried c ≡ Fails status → n.fails ≡ Some status
      → MessagesSoFar z h k now fresh server logons f before cs (at + 1) (former ++ []) setups x d y
  message_fails n c status p fails is =
      let v = record s.d { going = connection.went_turn z k now fresh f s.d.going c (Fails status) } in
      stepped setups [] d y [] [] v
      (shared_fails z k now fresh server logons f First cs at x n c status d y s.more s.d p fails is far s.begins) tt tt s.counted

  module _ (n : Checked) (c t : hearing.Checked) (p : Place f cs at x n c t) (goes : turn_of s.d.going.carried c ≡ Goes t)
      (none : n.fails ≡ None) where
    -- it asks nothing
    aside_on : (told : commands.Told) (status : ℕ) (e : Dealt) (u : Carry)
        → heard_message z s.d.going.logons k f t ≡ Some (commands.heard_as told t.header (asks.Aside status))
        → aside_status t ≡ Some status → (t.header.command == 5) ≡ false
        → e.replies.items.items ≡ d.replies.items.items ++ [] → e.took ≡ (d.took || takes n None) → RelatedCarries y t None u
        → MessagesSoFar z h k now fresh server logons f before cs (at + 1) (former ++ []) setups x e (Some (carry_of u))
    aside_on told status e u heard aside other items took carries =
        let M = commands.heard_as told t.header (asks.Aside status) in
        let v = record s.d { going = connection.went_heard z k now fresh f s.d.going t (Some M) } in
        stepped setups [] e (Some (carry_of u)) [] [] v
        (shared_aside z k now fresh server logons f First cs at x n c t told status d e y u s.more s.d p goes none heard aside other
        items took carries far s.begins) tt tt s.counted

    plain_by : (e : Dealt) (u : Carry) (i j l : Bool) → (t.header.command == 0) ≡ i → (t.header.command == 13) ≡ j
        → (t.header.command == 12) ≡ l → has_message_event n ≡ false → e.replies.items.items ≡ d.replies.items.items ++ []
        → e.took ≡ (d.took || takes n None) → RelatedCarries y t None u
        → MessagesSoFar z h k now fresh server logons f before cs (at + 1) (former ++ []) setups x e (Some (carry_of u))
    plain_by e u true j l zero echo cancel plain items took carries =
        aside_on (connection.told_of z s.d.going.logons k f t) (negotiate_due t) e u (of_negotiate z s.d.going.logons k f t zero)
        (ap (λ (b : Bool). if b then Some (negotiate_due t)
        else if t.header.command == 13 then Some (echo_due t) else None) zero)
        (no_create t.header.command 0 zero refl) items took carries
    plain_by e u false true l zero echo cancel plain items took carries =
        aside_on (connection.told_of z s.d.going.logons k f t) (echo_due t) e u (of_echo z s.d.going.logons k f t echo)
        (echo_status t zero echo) (no_create t.header.command 13 echo refl) items took carries
    plain_by e u false false true zero echo cancel plain items took carries =
        let v = record s.d { going = connection.went_heard z k now fresh f s.d.going t None } in
        stepped setups [] e (Some (carry_of u)) [] [] v
        (shared_cancels z k now fresh server logons f First cs at x n c t d e y u s.more s.d p goes none
        (of_cancel z s.d.going.logons k f t cancel) items took carries far s.begins) tt tt s.counted
    plain_by e u false false false zero echo cancel plain items took carries =
        let same : t.header ≡ n.header = p.shows.header in
        let at_zero : (n.header.command == 0) ≡ false = sym (ap (λ (q : Header). q.command == 0) same) ∙ zero in
        let at_echo : (n.header.command == 13) ≡ false = sym (ap (λ (q : Header). q.command == 13) same) ∙ echo in
        let at_cancel : (n.header.command == 12) ≡ false = sym (ap (λ (q : Header). q.command == 12) same) ∙ cancel in
        let one : has_message_event n ≡ true = λ i. event_test (none i) (at_zero i) (at_echo i) (at_cancel i) in
        absurd (true_false (sym one ∙ plain))

    pub message_plain : (e : Dealt) (u : Carry) → has_message_event n ≡ false → e.replies.items.items ≡ d.replies.items.items ++ []
        → e.took ≡ (d.took || takes n None) → RelatedCarries y t None u
        → MessagesSoFar z h k now fresh server logons f before cs (at + 1) (former ++ []) setups x e (Some (carry_of u))
    message_plain e u plain items took carries =
        plain_by e u (t.header.command == 0) (t.header.command == 13) (t.header.command == 12) refl refl refl plain items took carries

    -- ---- it asks something

    module _ (event : has_message_event n ≡ true) where
      heard_so : (L : Logons) → (m : model.Message) × (heard_message z L k f t ≡ Some m) × (has_event m.command ≡ true)
      heard_so L =
          let o = is_other n t p.shows.header event in
          with_event z L k f t o.negotiate o.echo o.cancel

      past_as : (b : Bool) → is_past_setups setups n.header ≡ b → is_past_setups s.d.setups t.header ≡ b
      past_as b e = (λ i. is_past_setups (sym s.counted i) (p.shows.header i)) ∙ e

      -- it is a SESSION_SETUP past as many as the server hears
      pub message_refused : (r : Reply) (e : Dealt) (u : Carry) → is_past_setups setups n.header ≡ true
          → IsMessageRefused n insufficient_resources r → e.replies.items.items ≡ d.replies.items.items ++ Ok r ∷ [] → e.took ≡ d.took
          → RelatedCarries y t (Some (Ok r)) u
          → MessagesSoFar z h k now fresh server logons f before cs (at + 1) (former ++ []) setups x e (Some (carry_of u))
      message_refused r e u past is items took carries =
          let q = heard_so s.d.going.logons in
          let v = record s.d { going = gives.went_refused f s.d.going t insufficient_resources } in
          stepped setups [] e (Some (carry_of u)) [] [] v
          (shared_refused z k now fresh server logons f First cs at x n c t q.0 r d e y u s.more s.d p goes none q.1 q.2
          (past_as true past) is items took carries far s.begins) tt tt s.counted

      behind_is : (after : ℕ) → is_past_setups setups n.header ≡ false → Counts setups n after
          → after ≡ setups_behind (hearing.is_setup t.header) s.d.setups
      behind_is after early counts =
          counted_by setups n.header after (n.header.command == 1) refl counts early
          ∙ (ap (λ (q : Header). setups_behind (q.command == 1) setups) (sym p.shows.header)
          ∙ ap (λ (q : ℕ). setups_behind (hearing.is_setup t.header) q) s.counted)

      -- it was answered, or found no memory, at whatever state it found
      turn_on : (after : ℕ) (given : EventAnswer) (turn : Placed) (e : Dealt) (u : Carry) (st : Stand)
          (w : Turned z h k now f x at t given turn) → w.meets.0 ≡ On st → is_past_setups setups n.header ≡ false → Counts setups n after
          → stop_in given ≡ None → lost_in given ≡ false → e.replies.items.items ≡ d.replies.items.items ++ event_listed given
          → e.took ≡ (d.took || takes n given) → RelatedCarries y t given u
          → MessagesSoFar z h k now fresh server logons f before cs (at + 1) (former ++ turn ∷ []) after x e (Some (carry_of u))
      turn_on after None turn e u st w found early counts stop kept items took carries =
          let q = heard_so st.logons in
          let m = meant_on z h k now f x at n t None turn st q.0 w p.here p.shows found q.1 in
          absurd (true_false (sym q.2 ∙ m.gives.0))
      turn_on after (Some (Ok r)) turn e u st w found early counts stop kept items took carries =
          let own = heard_so s.d.going.logons in
          let q = heard_so st.logons in
          let m = meant_on z h k now f x at n t (Some (Ok r)) turn st q.0 w p.here p.shows found q.1 in
          let told : ToldReply (StandsAt (h.found (turn.0 + 1))) z now st.server st.logons st.records w.asks.told n x.bytes.items q.0 r =
          m.gives.1 in
          let A = answer_to st.server now q.0 q.0.command in
          let random = w.asks.told.fresh in
          let v = record s.d {
            going = connection.went_by z k now random f (record s.d.going { logons = st.logons }) t q.0 A;
            setups = setups_behind (hearing.is_setup t.header) s.d.setups;
          } in
          let gives : GivesReply (λ a b l. ⊤) z k now random st.server st.logons st.records f t q.0 r = record {
            state = tt;
            named = told.named;
            acted = told.acted;
            said = λ held. subst (λ (j : ℕ). IsSaidTo f held t r (connection.said_to z j now random f st.logons held t q.0.command A))
                w.number (told.said f t p.shows w.told held);
          } in
          stepped after (turn ∷ []) e (Some (carry_of u)) (Answered now random st.logons A ∷ []) (t ∷ []) v
          (shared_answered (λ a b l. ⊤) z k now fresh server logons st.records f First cs at x n c t own.0 q.0 r random d e y u s.more
          s.d st.server st.logons p goes none own.1 own.2 (past_as false early) q.1 q.2 items took carries gives far s.begins)
          (m.given_is, tt) (turn_for z h k now f x at n t (Some (Ok r)) turn w p.here p.shows) (behind_is after early counts)
      turn_on after (Some (Err errors.Memory)) turn e u st w found early counts stop kept items took carries =
          let own = heard_so s.d.going.logons in
          let q = heard_so st.logons in
          let m = meant_on z h k now f x at n t (Some (Err errors.Memory)) turn st q.0 w p.here p.shows found q.1 in
          let left = m.given_is.0.server in
          let v = record s.d {
            going = record (gives.went_refused f s.d.going t no_memory) { server = left };
            setups = setups_behind (hearing.is_setup t.header) s.d.setups;
            lacked = true;
          } in
          stepped after (turn ∷ []) e (Some (carry_of u)) (NoMemory left ∷ []) (t ∷ []) v
          (shared_lacks z k now fresh server logons f First cs at x n c t own.0 d e y u s.more s.d left p goes none own.1 own.2
          (past_as false early) items took carries far s.begins)
          (m.given_is.2, tt) (turn_for z h k now f x at n t (Some (Err errors.Memory)) turn w p.here p.shows) (behind_is after early counts)
      turn_on after (Some (Err (errors.Unanswered acted))) turn e u st w found early counts stop kept items took carries =
          absurd (true_false kept)
      turn_on after (Some (Err (errors.Stopped count))) turn e u st w found early counts stop kept items took carries =
          absurd (no_stop count (sym stop))

      -- behind a failure of the disk nothing goes on
      turn_off : (given : EventAnswer) (turn : Placed) (count : ℕ) (w : Turned z h k now f x at t given turn) → w.meets.0 ≡ Off count
          → stop_in given ≡ None → ⊥
      turn_off given turn count w found stop =
          let m = meant_off z h k now f x at t given turn count w found in
          no_stop count (sym stop ∙ ap (λ (g : EventAnswer). stop_in g) m.reply)

      turn_at : (after : ℕ) (given : EventAnswer) (turn : Placed) (e : Dealt) (u : Carry) (place : Standing)
          (w : Turned z h k now f x at t given turn) → w.meets.0 ≡ place → is_past_setups setups n.header ≡ false → Counts setups n after
          → stop_in given ≡ None → lost_in given ≡ false → e.replies.items.items ≡ d.replies.items.items ++ event_listed given
          → e.took ≡ (d.took || takes n given) → RelatedCarries y t given u
          → MessagesSoFar z h k now fresh server logons f before cs (at + 1) (former ++ turn ∷ []) after x e (Some (carry_of u))
      turn_at after given turn e u (On st) w found early counts stop kept items took carries =
          turn_on after given turn e u st w found early counts stop kept items took carries
      turn_at after given turn e u (Off count) w found early counts stop kept items took carries =
          absurd (turn_off given turn count w found stop)

      pub message_answered : (after : ℕ) (given : EventAnswer) (turn : Placed) (e : Dealt) (u : Carry)
          → Turned z h k now f x at t given turn → is_past_setups setups n.header ≡ false → Counts setups n after
          → stop_in given ≡ None → lost_in given ≡ false → e.replies.items.items ≡ d.replies.items.items ++ event_listed given
          → e.took ≡ (d.took || takes n given) → RelatedCarries y t given u
          → MessagesSoFar z h k now fresh server logons f before cs (at + 1) (former ++ turn ∷ []) after x e (Some (carry_of u))
      message_answered after given turn e u w early counts stop kept items took carries =
          turn_at after given turn e u w.meets.0 w refl early counts stop kept items took carries

      -- the server stopped
      stop_on : (given : EventAnswer) (turn : Placed) (count : ℕ) (st : Stand) (w : Turned z h k now f x at t given turn)
          → w.meets.0 ≡ On st → stop_in given ≡ Some count → h.given turn.0 ≡ Some (Stops count)
      stop_on None turn count st w found stop = absurd (no_stop count stop)
      stop_on (Some (Ok r)) turn count st w found stop = absurd (no_stop count stop)
      stop_on (Some (Err errors.Memory)) turn count st w found stop = absurd (no_stop count stop)
      stop_on (Some (Err (errors.Unanswered acted))) turn count st w found stop = absurd (no_stop count stop)
      stop_on (Some (Err (errors.Stopped j))) turn count st w found stop =
          let q = heard_so st.logons in
          let m = meant_on z h k now f x at n t (Some (Err (errors.Stopped j))) turn st q.0 w p.here p.shows found q.1 in
          m.given_is.1 ∙ ap (λ (o : Option ℕ). given_stops o) stop

      stop_at : (given : EventAnswer) (turn : Placed) (count : ℕ) (place : Standing) (w : Turned z h k now f x at t given turn)
          → w.meets.0 ≡ place → stop_in given ≡ Some count → h.given turn.0 ≡ Some (Stops count)
      stop_at given turn count (On st) w found stop = stop_on given turn count st w found stop
      stop_at given turn count (Off j) w found stop =
          let m = meant_off z h k now f x at t given turn j w found in
          m.given_is ∙ ap (λ (o : Option ℕ). given_stops o) (sym (ap (λ (g : EventAnswer). stop_in g) m.reply) ∙ stop)

      -- these turns are for the messages up to this one
      turns_for : (given : EventAnswer) (turn : Placed) → Turned z h k now f x at t given turn
          → AreFor k f (s.begins.asks ++ t ∷ []) (former ++ turn ∷ [])
      turns_for given turn w =
          for_behind k f s.begins.asks (t ∷ []) former (turn ∷ []) s.asked (turn_for z h k now f x at n t given turn w p.here p.shows)

      pub message_stops : (given : EventAnswer) (turn : Placed) (count : ℕ) → Turned z h k now f x at t given turn
          → is_past_setups setups n.header ≡ false → stop_in given ≡ Some count
          → (v : gives.Dealt) × DealtBy z h k now fresh server logons f before cs (former ++ turn ∷ []) v × (v.stopped ≡ Some count)
      message_stops given turn count w early stop =
          let own = heard_so s.d.going.logons in
          let halts : h.given turn.0 ≡ Some (Stops count) = stop_at given turn count w.meets.0 w refl stop in
          let end = shared_stops z k now fresh server logons f First cs at x n c t own.0 count d y s.more s.d p goes own.1 own.2
          (past_as false early) far s.begins in (
            record s.d { setups = setups_behind (hearing.is_setup t.header) s.d.setups; stopped = Some count; left = [] },
            record {
              given = s.begins.given ++ Stops count ∷ [];
              are = given_behind h former (turn ∷ []) s.begins.given (Stops count ∷ []) s.are (halts, tt);
              is = end.is;
              asked = subst (λ (l : List hearing.Checked). AreFor k f l (former ++ turn ∷ [])) (sym end.asks) (turns_for given turn w);
              none_missing = far.none_missing;
              none_left = refl;
            },
            refl,
          )

      -- its reply is lost
      pub message_lost : (given : EventAnswer) (turn : Placed) → Turned z h k now f x at t given turn
          → is_past_setups setups n.header ≡ false → MessagesLack z h k now fresh server logons f before cs (former ++ turn ∷ [])
      message_lost given turn w early =
          let own = heard_so s.d.going.logons in
          record {
            given = s.begins.given;
            answered = former;
            lost = turn ∷ [];
            turns_are = refl;
            one = omega arith;
            are = s.are;
            count = at + 1;
            asked = subst (λ (l : List hearing.Checked). AreFor k f l (former ++ turn ∷ []))
                (sym (given_lost z k now fresh f First cs at c t own.0 s.d p.checked far.goes goes own.1 own.2 (past_as false early)
                s.begins)) (turns_for given turn w);
          }

      pub message_ends : (given : EventAnswer) (turn : Placed) (e : Dealt) (after : ℕ) (why : ConnEnd)
          → Turned z h k now f x at t given turn → is_past_setups setups n.header ≡ false → AddsTo {A = Carry} given d e (Err why)
          → MessageSteps z h k now fresh server logons f before cs (at + 1) (former ++ turn ∷ []) after x e (Err why)
      message_ends given turn e after ends.BadFrame w early adds = absurd adds
      message_ends given turn e after (ends.OutsideWindow id) w early adds = absurd adds
      message_ends given turn e after ends.SecondNegotiate w early adds = absurd adds
      message_ends given turn e after ends.Unsealable w early adds = absurd adds
      message_ends given turn e after ends.Spent w early adds = absurd adds
      message_ends given turn e after ends.Full w early adds = absurd adds
      message_ends given turn e after (ends.LinkFault count) w early adds = absurd adds
      message_ends given turn e after (ends.Stopped count) w early adds = message_stops given turn count w early adds.0
      message_ends given turn e after ends.Memory w early adds = message_lost given turn w early

  -- memory ran out before anything was asked
  pub message_lacks : MessagesLack z h k now fresh server logons f before cs (former ++ [])
  message_lacks =
      let end = shared_done z k now fresh f First cs at s.d s.begins in
      record {
        given = s.begins.given;
        answered = former;
        lost = [];
        turns_are = refl;
        one = omega arith;
        are = s.are;
        count = at;
        asked = subst (λ (l : List hearing.Checked). AreFor k f l (former ++ [])) (sym end.asks)
            (subst (λ (l : List Placed). AreFor k f s.begins.asks l) (sym (append-nil former)) s.asked);
      }
