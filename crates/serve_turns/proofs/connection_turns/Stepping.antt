-- One message of a frame, from what its calls in code tell.
use Rattle.std.proofs.Common.{◌≡◌, ◌<◌, ◌≤◌, ℕ, ◌+◌, ◌==◌, min, if◌then◌else◌, Bool, true, false, List, [], ◌∷◌, ◌++◌, length}
use Rattle.std.proofs.Common.{Option, Some, None, Result, Ok, Err}
use Rattle.std.proofs.Common.{slice_get, option_map, inl, inr, refl, sym, ap, subst, ◌∙◌, append-nil, arith}
use Rattle.spec_exchange.specs.State as model
use Rattle.spec_exchange.specs.Status.{insufficient_resources}
use Rattle.spec_world.specs.Ends.{Logons, ServerEnd}
use Rattle.spec_world.specs.Given.{is_past_setups}
use Rattle.spec_world.specs.Hearing as hearing
use Rattle.spec_world.specs.Related as related
use Rattle.spec_world.specs.Related.{Goes, failed_as, turn_of}
use Rattle.spec_world.specs.Settings.{ServerSettings}
use Rattle.conn_core.specs.declared.conn.Conn.{Conn}
use Rattle.conn_core.specs.declared.end.ConnEnd.{ConnEnd}
use Rattle.conn_core.specs.declared.end.ConnEnd.TheVariants as ends
use Rattle.conn_core.specs.declared.frame_messages.checked.Checked.{Checked}
use Rattle.conn_core.specs.declared.frame_messages.checked.CheckedFrame.{CheckedFrame}
use Rattle.conn_core.specs.frame_messages.Checking.{AreInOrder, holds_setup, message_in}
use Rattle.conn_core.specs.declared.frame_events.handing.Dealt.{Dealt}
use Rattle.conn_core.specs.declared.related.related.Carry.{Carry}
use Rattle.conn_core.specs.frame_events.Dealing.{AddsTo, DealsOne, EventAnswer, RefusesOne}
use Rattle.conn_core.specs.frame_events.SoFar.{Facts}
use Rattle.conn_core.specs.message_replies.Replying.{AreMessagesShort, has_message_event}
use Rattle.conn_core.specs.related.Carrying.{Inherits, IsCarried, SameOthers, carry_of}
use Rattle.conn_core.proofs.frame_events.Lists.{there_checked}
use Rattle.conn_core.proofs.frame_events.Sharing.{alone}
use Rattle.conn_core.proofs.frame_events.Shorts.{kept_err, kept_ok, long_err, long_ok, short_one, short_refused}
use Rattle.conn_core.proofs.frame_events.SoFar.{facts_moved}
use Rattle.conn_core.proofs.frame_events.Stepping.{Place, carried_so, ready_fails, ready_goes}
use Rattle.serve_turns.specs.connection_turns.Frames.{AreAtOnce, AreOfSuch, HasBytes, IsOfSuch}
use Rattle.serve_turns.specs.connection_turns.Messages.{AsksNothing, DealsBy, DealsInTurn, MessageSteps, MessagesSoFar, RefusesLate}
use Rattle.serve_turns.specs.connection_turns.Messages.{TakesMessage}
use Rattle.serve_turns.specs.connection_turns.Turning.{message_turn}
use Rattle.serve_turns.specs.declared.connection_turns.state.ConnectionState.{ConnectionState}
use Rattle.serve_turns.specs.declared.event_book.turn.Answer.{Answer}
use Rattle.serve_turns.specs.declared.event_book.turn.Asks.{Asks}
use Rattle.serve_turns.specs.declared.event_book.turn.Turn.{Turn}
use Rattle.serve_turns.specs.declared.event_book.turn.What.{What}
use Rattle.serve_turns.specs.declared.shared_book.view.View.{View}
use Rattle.serve_turns.specs.event_book.History.{Course, Placed}
use Rattle.serve_turns.proofs.connection_turns.Taking.{Turned, message_answered, message_ends, message_fails}
use Rattle.serve_turns.proofs.connection_turns.Taking.{message_lacks, message_plain, message_refused}

-- what the message at its place became by what was handed to it
pub record Became (y : Option related.Carry) (old x : CheckedFrame) (at : ℕ) (m n : Checked) : Type 0 where
  pub order : AreInOrder old
  pub less : at < length old.messages.items
  pub others : SameOthers at old x
  pub was : slice_get old.messages.items at ≡ Some m
  pub here : slice_get x.messages.items at ≡ Some n
  pub span : n.span ≡ m.span
  pub link : n.related ≡ m.related
  pub setups : holds_setup x.messages.items ≡ holds_setup old.messages.items

abbrev pub InheritsAs : Option related.Carry → CheckedFrame → CheckedFrame → Checked → Checked → Bool → Type 0
InheritsAs y old x m n goes = (c : hearing.Checked) → IsCarried m (message_in old.bytes.items m) c → c.related ≡ m.related
    → m.fails ≡ None → Inherits (turn_of y c) goes (failed_as y c) n (message_in x.bytes.items n)

-- what is handed on in code
abbrev pub handed : Result Carry ConnEnd → Result (Option Carry) ConnEnd
handed (Ok u) = Ok (Some u)
handed (Err why) = Err why

none_err : (d e : Dealt) (why : ConnEnd) → AddsTo {A = Carry} None d e (Err why) → ⊥
none_err d e ends.BadFrame adds = adds
none_err d e (ends.OutsideWindow id) adds = adds
none_err d e ends.SecondNegotiate adds = adds
none_err d e ends.Unsealable adds = adds
none_err d e ends.Spent adds = adds
none_err d e ends.Full adds = adds
none_err d e (ends.LinkFault count) adds = adds
none_err d e (ends.Stopped count) adds = let no : None ≡ Some count = adds.0 in absurd cc
none_err d e ends.Memory adds = let no : false ≡ true = adds.0 in absurd cc

-- a message's turn has the moment and the random bytes that it was given
once_by : (now : ℕ) (fresh : List ℕ) (turn : Placed) (a : Asks) → turn.1.event ≡ message_turn now a → a.told.fresh ≡ fresh
    → AreAtOnce now fresh (turn ∷ [])
once_by now fresh turn a is bytes =
    (ap (λ (t : Turn). t.now) is, subst (λ (w : What). HasBytes fresh w) (sym (ap (λ (t : Turn). t.what) is)) bytes, tt)

-- and is of the frame that it was given
such_by : (now : ℕ) (setup : Bool) (turn : Placed) (a : Asks) (x : CheckedFrame) → turn.1.event ≡ message_turn now a → a.frame ≡ x
    → holds_setup x.messages.items ≡ setup → AreOfSuch setup (turn ∷ [])
such_by now setup turn a x is frame holds = (
  subst (λ (w : What). IsOfSuch setup w) (sym (ap (λ (t : Turn). t.what) is))
      (ap (λ (y : CheckedFrame). holds_setup y.messages.items) frame ∙ holds),
  tt,
)

module _ (z : ServerSettings) (h : Course) (conn : Conn) (now : ℕ) (fresh : List ℕ) (server : model.Server) (logons : Logons)
    (f : ServerEnd) (before : ℕ) (cs : List hearing.Checked) (at : ℕ)
    (former : List Placed) (setups : ℕ) (old : CheckedFrame) (d : Dealt) (y : Option related.Carry)
    (s : MessagesSoFar z h conn.id now fresh server logons f before cs at former setups old d y) (x : CheckedFrame) (m n : Checked)
    (b : Became y old x at m n) where
  moved_on : Facts z conn.id now fresh server logons f cs at (at + 1) x d y s.more (alone s.d)
  moved_on = facts_moved z conn.id now fresh server logons f cs at old x m d y s.more (alone s.d) b.order b.others b.was s.facts

  fails_so : InheritsAs y old x m n false → length old.messages.items ≡ length cs
      → MessagesSoFar z h conn.id now fresh server logons f before cs (at + 1) (former ++ []) setups x d y
  fails_so turn long =
      let less : at < length old.messages.items = b.less in
      let c = there_checked cs at (omega (arith, less, long)) in
      let was = s.facts.rest at m c.0 (omega arith) b.was c.1 in
      let mine = turn c.0 (carried_so old.bytes.items m c.0 was.0) was.0.related was.1 in
      let r = ready_fails z conn.id now fresh server logons f cs at old x m n c.0 d y s.more (alone s.d) b.others b.here c.1 was.0
      mine b.span b.link s.facts in
      message_fails z h conn.id now fresh server logons f before cs at former setups old d y s x moved_on n c.0 r.0 r.1 r.2 r.3

  -- it goes its way to the definitions
  record Ready : Type 0 where
    c : hearing.Checked
    t : hearing.Checked
    place : Place f cs at x n c t
    goes : turn_of s.d.going.carried c ≡ Goes t
    carried : IsCarried n (message_in x.bytes.items n) t
    none : n.fails ≡ None

  ready : InheritsAs y old x m n true → length old.messages.items ≡ length cs → Ready
  ready turn long =
      let less : at < length old.messages.items = b.less in
      let c = there_checked cs at (omega (arith, less, long)) in
      let was = s.facts.rest at m c.0 (omega arith) b.was c.1 in
      let mine = turn c.0 (carried_so old.bytes.items m c.0 was.0) was.0.related was.1 in
      let r = ready_goes z conn.id now fresh server logons f cs at old x m n c.0 d y s.more (alone s.d) b.others b.here c.1 was.0
      mine b.span b.link s.facts in
      record { c = c.0; t = r.0; place = r.1; goes = r.2; carried = r.3; none = r.4 }

  none_so : (e : Dealt) (result : Result Carry ConnEnd) → Ready → has_message_event n ≡ false
      → DealsOne n (message_in x.bytes.items n) y None d e result
      → MessageSteps z h conn.id now fresh server logons f before cs (at + 1) (former ++ []) setups x e (handed result)
  none_so e (Ok u) r plain deals =
      message_plain z h conn.id now fresh server logons f before cs at former setups old d y s x moved_on n r.c r.t r.place r.goes
      r.none e u plain deals.adds.2
      deals.took (deals.carries r.t r.carried)
  none_so e (Err why) r plain deals = absurd (none_err d e why deals.adds)

  turn_so : (after : ℕ) (given : EventAnswer) (turn : Placed) (e : Dealt) (result : Result Carry ConnEnd) → (r : Ready)
      → has_message_event n ≡ true → Turned z h conn.id now f x at r.t given turn → is_past_setups setups n.header ≡ false
      → after ≡ (if n.header.command == 1 then min (setups + 1) 4294967295 else setups)
      → DealsOne n (message_in x.bytes.items n) y given d e result
      → MessageSteps z h conn.id now fresh server logons f before cs (at + 1) (former ++ turn ∷ []) after x e (handed result)
  turn_so after given turn e (Ok u) r event w early counts deals =
      message_answered z h conn.id now fresh server logons f before cs at former setups old d y s x moved_on n r.c r.t r.place r.goes
      r.none event after given turn
      e u w early counts deals.adds.0 deals.adds.1 deals.adds.2 deals.took (deals.carries r.t r.carried)
  turn_so after given turn e (Err why) r event w early counts deals =
      message_ends z h conn.id now fresh server logons f before cs at former setups old d y s x moved_on n r.c r.t r.place r.goes r.none
      event given turn e after
      why w early deals.adds

  late_so : (e : Dealt) (result : Result Carry ConnEnd) → Ready → has_message_event n ≡ true → is_past_setups setups n.header ≡ true
      → RefusesOne n (message_in x.bytes.items n) y insufficient_resources d e result
      → MessageSteps z h conn.id now fresh server logons f before cs (at + 1) (former ++ []) setups x e (handed result)
  late_so e (Ok u) r event past refuses =
      message_refused z h conn.id now fresh server logons f before cs at former setups old d y s x moved_on n r.c r.t r.place r.goes
      r.none event refuses.0 e u
      past refuses.1 refuses.2 refuses.3 (refuses.4 r.t r.carried)
  late_so e (Err ends.BadFrame) r event past refuses = absurd refuses
  late_so e (Err (ends.OutsideWindow id)) r event past refuses = absurd refuses
  late_so e (Err ends.SecondNegotiate) r event past refuses = absurd refuses
  late_so e (Err ends.Unsealable) r event past refuses = absurd refuses
  late_so e (Err ends.Spent) r event past refuses = absurd refuses
  late_so e (Err ends.Full) r event past refuses = absurd refuses
  late_so e (Err (ends.LinkFault count)) r event past refuses = absurd refuses
  late_so e (Err (ends.Stopped count)) r event past refuses = absurd refuses
  late_so e (Err ends.Memory) r event past refuses =
      message_lacks z h conn.id now fresh server logons f before cs at former setups old d y s x moved_on

-- ---- the whole, for a seat

module _ {B : Type 0} (v w : View B Turn Answer) (now : ℕ) (fresh : List ℕ) (state new : ConnectionState) (old x : CheckedFrame) (at : ℕ)
    (y : Option related.Carry) (d e : Dealt) (m n : Checked) (b : Became y old x at m n) where
  -- what stands for a message that takes no turn
  none_taken : (result : Result Carry ConnEnd) → InheritsAs y old x m n true → new ≡ state → w ≡ v
      → ((z : ServerSettings) (h : Course) (server : model.Server) (logons : Logons) (f : ServerEnd) (cs : List hearing.Checked)
      (before : ℕ)
      (former : List Placed)
      (s : MessagesSoFar z h state.conn.id now fresh server logons f before cs at former state.setups old d y)
      → length old.messages.items ≡ length cs
      → MessageSteps z h state.conn.id now fresh server logons f before cs (at + 1) (former ++ []) state.setups x e (handed result))
      → TakesMessage v now fresh state old at y d new x e (handed result) w
  none_taken result turn same stays steps = record {
    turns = [];
    own = ap (λ (u : View B Turn Answer). u.own) stays ∙ sym (append-nil v.own);
    at_once = tt;
    of_frame = tt;
    conn = ap (λ (q : ConnectionState). q.conn) same;
    steps = λ z h server logons f cs before former all conn alone long s.
        subst (λ (k : ℕ). MessageSteps z h state.conn.id now fresh server logons f before cs (at + 1) (former ++ []) k x e (handed result))
        (sym (ap (λ (q : ConnectionState). q.setups) same)) (steps z h server logons f cs before former s long);
  }

  taken_late : (result : Result Carry ConnEnd) → InheritsAs y old x m n true
      → RefusesLate v state n (message_in x.bytes.items n) y d new e result w → TakesMessage v now fresh state old at y d new x e
      (handed result) w
  taken_late result turn late =
      none_taken result turn late.state late.same (λ z h server logons f cs before former s long.
      late_so z h state.conn now fresh server logons f before cs at former state.setups old d y s x m n b e result
      (ready z h state.conn now fresh server logons f before cs at former state.setups old d y s x m n b turn long) late.event late.late
      late.refuses)

  taken_plain : (result : Result Carry ConnEnd) → InheritsAs y old x m n true
      → AsksNothing v state n (message_in x.bytes.items n) y d new e result w → TakesMessage v now fresh state old at y d new x e
      (handed result) w
  taken_plain result turn asks =
      none_taken result turn asks.state asks.same (λ z h server logons f cs before former s long.
      none_so z h state.conn now fresh server logons f before cs at former state.setups old d y s x m n b e result
      (ready z h state.conn now fresh server logons f before cs at former state.setups old d y s x m n b turn long) asks.none asks.deals)

  taken_turn : (result : Result Carry ConnEnd) → InheritsAs y old x m n true → DealsInTurn v now fresh state x at n y d new e result w
      → TakesMessage v now fresh state old at y d new x e (handed result) w
  taken_turn result turn one = record {
    turns = one.takes.turn ∷ [];
    own = one.takes.own;
    at_once = once_by now fresh one.takes.turn one.takes.asks one.takes.is_turn one.takes.fresh_is;
    of_frame = such_by now (holds_setup old.messages.items) one.takes.turn one.takes.asks x one.takes.is_turn one.takes.frame b.setups;
    conn = one.takes.conn;
    steps = λ z h server logons f cs before former all shows alone long s.
        let r = ready z h state.conn now fresh server logons f before cs at former state.setups old d y s x m n b turn long in
        turn_so z h state.conn now fresh server logons f before cs at former state.setups old d y s x m n b new.setups one.given
        one.takes.turn e result r one.takes.event
        (record {
          asks = one.takes.asks;
          frame = one.takes.frame;
          place = one.takes.place;
          told = one.takes.told z.guid f n r.t shows b.here r.place.shows;
          number = one.takes.connection;
          is_turn = one.takes.is_turn;
          is = one.takes.is;
          meets = all.0;
        }) one.early one.takes.setups one.deals;
  }

  -- it goes its way
  pub takes_going : (result : Result Carry ConnEnd) → InheritsAs y old x m n true
      → DealsBy v now fresh state x at n y d new e result w → TakesMessage v now fresh state old at y d new x e (handed result) w
  takes_going result turn (inl none) = taken_plain result turn none
  takes_going result turn (inr (inl late)) = taken_late result turn late
  takes_going result turn (inr (inr one)) = taken_turn result turn one

-- it fails with a CREATE before it
pub takes_failed : {B : Type 0} (v : View B Turn Answer) (now : ℕ) (fresh : List ℕ) (state : ConnectionState) (old x : CheckedFrame)
    (at : ℕ)
    (c : Option Carry) (d : Dealt) (m n : Checked) → Became (option_map carry_of c) old x at m n
    → InheritsAs (option_map carry_of c) old x m n false → TakesMessage v now fresh state old at (option_map carry_of c) d state x d
    (Ok c) v
takes_failed v now fresh state old x at c d m n b turn = record {
  turns = [];
  own = sym (append-nil v.own);
  at_once = tt;
  of_frame = tt;
  conn = refl;
  steps = λ z h server logons f cs before former all conn alone long s.
      fails_so z h state.conn now fresh server logons f before cs at former state.setups old d (option_map carry_of c) s x m n b turn long;
}

-- ---- its answers: one more at most, and each body fits

late_long : (m : Checked) (bytes : List ℕ) (y : Option related.Carry) (d e : Dealt) (result : Result Carry ConnEnd)
    → RefusesOne m bytes y insufficient_resources d e result → length e.replies.items.items ≤ length d.replies.items.items + 1
late_long m bytes y d e (Ok u) refuses = long_ok (Some (Ok refuses.0)) d e refuses.2
late_long m bytes y d e (Err ends.BadFrame) refuses = absurd refuses
late_long m bytes y d e (Err (ends.OutsideWindow id)) refuses = absurd refuses
late_long m bytes y d e (Err ends.SecondNegotiate) refuses = absurd refuses
late_long m bytes y d e (Err ends.Unsealable) refuses = absurd refuses
late_long m bytes y d e (Err ends.Spent) refuses = absurd refuses
late_long m bytes y d e (Err ends.Full) refuses = absurd refuses
late_long m bytes y d e (Err (ends.LinkFault count)) refuses = absurd refuses
late_long m bytes y d e (Err (ends.Stopped count)) refuses = absurd refuses
late_long m bytes y d e (Err ends.Memory) refuses =
    let same : length e.replies.items.items ≡ length d.replies.items.items =
    ap (λ (q : Dealt). length q.replies.items.items) refuses in
    omega (arith, same)

late_short : (m : Checked) (bytes : List ℕ) (y : Option related.Carry) (d e : Dealt) (result : Result Carry ConnEnd)
    → RefusesOne m bytes y insufficient_resources d e result → AreMessagesShort d.replies.items.items → AreMessagesShort e.replies.items.items
late_short m bytes y d e (Ok u) refuses short =
    kept_ok (Some (Ok refuses.0)) d e refuses.2 (short_one (Ok refuses.0) (short_refused m insufficient_resources refuses.0 refuses.1)) short
late_short m bytes y d e (Err ends.BadFrame) refuses short = absurd refuses
late_short m bytes y d e (Err (ends.OutsideWindow id)) refuses short = absurd refuses
late_short m bytes y d e (Err ends.SecondNegotiate) refuses short = absurd refuses
late_short m bytes y d e (Err ends.Unsealable) refuses short = absurd refuses
late_short m bytes y d e (Err ends.Spent) refuses short = absurd refuses
late_short m bytes y d e (Err ends.Full) refuses short = absurd refuses
late_short m bytes y d e (Err (ends.LinkFault count)) refuses short = absurd refuses
late_short m bytes y d e (Err (ends.Stopped count)) refuses short = absurd refuses
late_short m bytes y d e (Err ends.Memory) refuses short =
    subst (λ (q : Dealt). AreMessagesShort q.replies.items.items) (sym refuses) short

one_long : (m : Checked) (bytes : List ℕ) (y : Option related.Carry) (given : EventAnswer) (d e : Dealt) (result : Result Carry ConnEnd)
    → DealsOne m bytes y given d e result → length e.replies.items.items ≤ length d.replies.items.items + 1
one_long m bytes y given d e (Ok u) deals = long_ok given d e deals.adds.2
one_long m bytes y given d e (Err why) deals = long_err given d e why deals.adds

one_short : (m : Checked) (bytes : List ℕ) (y : Option related.Carry) (given : EventAnswer) (d e : Dealt) (result : Result Carry ConnEnd)
    → DealsOne m bytes y given d e result → AreMessagesShort d.replies.items.items → AreMessagesShort e.replies.items.items
one_short m bytes y given d e (Ok u) deals short = kept_ok given d e deals.adds.2 deals.short short
one_short m bytes y given d e (Err why) deals short = kept_err given d e why deals.adds deals.short short

module _ {B : Type 0} where
  pub long_more : (v w : View B Turn Answer) (now : ℕ) (fresh : List ℕ) (old new : ConnectionState) (x : CheckedFrame) (at : ℕ)
      (n : Checked) (y : Option related.Carry) (d e : Dealt) (result : Result Carry ConnEnd)
      → DealsBy v now fresh old x at n y d new e result w → length e.replies.items.items ≤ length d.replies.items.items + 1
  long_more v w now fresh old new x at n y d e result (inl none) = one_long n (message_in x.bytes.items n) y None d e result none.deals
  long_more v w now fresh old new x at n y d e result (inr (inl late)) = late_long n (message_in x.bytes.items n) y d e result late.refuses
  long_more v w now fresh old new x at n y d e result (inr (inr one)) =
      one_long n (message_in x.bytes.items n) y one.given d e result one.deals

  pub short_more : (v w : View B Turn Answer) (now : ℕ) (fresh : List ℕ) (old new : ConnectionState) (x : CheckedFrame) (at : ℕ)
      (n : Checked) (y : Option related.Carry) (d e : Dealt) (result : Result Carry ConnEnd)
      → DealsBy v now fresh old x at n y d new e result w → AreMessagesShort d.replies.items.items → AreMessagesShort e.replies.items.items
  short_more v w now fresh old new x at n y d e result (inl none) short =
      one_short n (message_in x.bytes.items n) y None d e result none.deals short
  short_more v w now fresh old new x at n y d e result (inr (inl late)) short =
      late_short n (message_in x.bytes.items n) y d e result late.refuses short
  short_more v w now fresh old new x at n y d e result (inr (inr one)) short =
      one_short n (message_in x.bytes.items n) y one.given d e result one.deals short
