-- The events of the client's table and its channels, but for those of a reply.
use Rattle.std.proofs.lemmas.Bool.{eqb-false}
use Rattle.std.proofs.lemmas.Bool.Decides.{nat_tests}
use Rattle.std.proofs.Common.{eqb-true, ◌≡◌, ◌≢◌, ℕ, ◌+◌, ◌≤◌, ◌<◌, ◌==◌, Bool, true, false, not, ◌&&◌, ◌||◌}
use Rattle.std.proofs.Common.{if◌then◌else◌, List, [], ◌∷◌, refl, arith, sym, subst, ◌∙◌, ap, Option, Some, None}
use Rattle.std.proofs.Common.{is_some, slice_get}
use Rattle.spec_exchange.specs.Table.{put, put2}
use Rattle.spec_exchange.specs.Content.{is_listed, is_change, collides}
use Rattle.spec_exchange.specs.State.{Message}
use Rattle.spec_exchange.specs.Operations.{Op, OpClose, Outcome, Unsettled, NoSlot, NoOpen, Why, is_unsettled, is_firm}
use Rattle.spec_exchange.specs.Operations.{is_ok, is_create, is_lock, is_change as changes, create_of, holds_up, charge}
use Rattle.spec_exchange.specs.Operations.{weight}
use Rattle.spec_exchange.specs.Client.{Client, may_take, outcome_at_first, is_gone, is_taken, may_push, goes_itself}
use Rattle.spec_exchange.specs.Client.{has_its_slot, lacks_slot, settle_no_slot, settle_no_slots, begin, again}
use Rattle.spec_exchange.specs.Client.{take_slot, outstanding, asked, own_message, ask_message, create_for, cut_channel}
use Rattle.spec_exchange.specs.Client.{end_session, finish, ends_at_cut, is_replay}
use Rattle.spec_exchange.specs.ClientStep.{Pick, Act, Nothing, CloseChannels, pick_after, pick_act, some_unsettled}
use Rattle.spec_exchange.specs.Order.{Log}
use Rattle.spec_exchange.specs.Network.{World, Submit, Push, Cut, Conn, Sent, Received, ForOp, ForAttach, op_of}
use Rattle.spec_exchange.specs.Network.{changed, with_client, cut_by, pushed_by, first_push, send_up}
use Rattle.law_sessions.specs.messages.Connections.{Connections, create_at, makes_open, its_create, copies, Bodies}
use Rattle.law_sessions.proofs.messages.Lists.{own_up_count, counted_down}
use Rattle.law_server.proofs.tables.Logic.{either, front_of, back_of}
use Rattle.law_sessions.proofs.messages.Run.{MayPush, next_of, found, free_of, no_wait, own_for, own_create, both_ways, ok_is_settled}
use Rattle.law_order.specs.order.Contents.{Contents, lists, edits, clashes}
use Rattle.law_order.proofs.order.Front.{Lower, ContentsHold}
use Rattle.law_order.proofs.order.Server.{open_of_down}
use Rattle.law_order.proofs.order.Words.{ops_of}
use Rattle.law_order.proofs.order.OnSubmit.{submit_keeps}
use Rattle.law_order.proofs.order.OnFinished.{finished_keeps}
use Rattle.law_order.proofs.order.OnCut.{cut_keeps}
use Rattle.law_order.proofs.order.OnLeave.{leave_keeps}
use Rattle.law_order.proofs.order.OnDialogOff.{dialog_off_keeps}
use Rattle.law_order.proofs.order.OnOutcomes.{outcomes_keeps}
use Rattle.law_order.proofs.order.OnTakeSlot.{take_slot_keeps}
use Rattle.law_order.proofs.order.OnRetried.{retried_keeps}
use Rattle.law_order.proofs.order.OnStart.{start_keeps}
use Rattle.law_order.proofs.order.OnSend.{send_keeps}
use Rattle.law_order.proofs.order.OnAsk.{ask_keeps}

-- ---- Submit

first_outcome : (b d : Bool) (n : ℕ) → is_firm (if b then Unsettled else if d then NoOpen n else Unsettled) ≡ false
    × is_ok (if b then Unsettled else if d then NoOpen n else Unsettled) ≡ false
first_outcome true d n = (refl, refl)
first_outcome false true n = (refl, refl)
first_outcome false false n = (refl, refl)

not_taken : (c : Client) (g : ℕ) → g ≡ c.taken + 1 → is_taken c g ≡ false
not_taken c g e = grind (arith, nat_tests)

no_zeroth : (op : Op) → op ≡ OpClose 0 → lists op ≡ true → ⊥
unfolding lists is_listed
no_zeroth op e ls = absurd (grind arith)

above_zero : (n : ℕ) → (n ≡ 0 → ⊥) → 0 < n
above_zero n f = by_test (n == 0) refl
  where
    by_test : (b : Bool) → (n == 0) ≡ b → 0 < n
    by_test true e = absurd (f (eqb-true n 0 e))
    by_test false e = let z = eqb-false n 0 e in omega (arith, z)

pub below_taken : (c : Client) (conns : ℕ → Conn) (a : ℕ → ℕ) → Connections c conns a → (p : ℕ) → 0 < p → p ≤ c.taken
    → create_at c p ≤ c.taken
below_taken c conns a cn p ab wi = by_kind (makes_open (c.op p)) refl
  where
    by_kind : (b : Bool) → makes_open (c.op p) ≡ b → create_at c p ≤ c.taken
    by_kind true e = let z = own_create p (c.op p) e in omega (arith, z, wi)
    by_kind false e = let z = (cn.creates p ab wi e).1 in omega (arith, z, wi)

pub submits : (w : World) (a : ℕ → ℕ) (g : ℕ) (op : Op) → Lower w a → ContentsHold w a → ContentsHold (changed w (Submit g op)) a
submits w a g op l i =
    either (λ d. Contents d w.conns w.server w.trace w.log a) (may_take w.client g op) _ _
    (λ may. submit_keeps w.client w.conns w.server w.trace w.log a g op (outcome_at_first w.client g op)
    (next_of w.client g op may) (l.beyond g (not_taken w.client g (next_of w.client g op may))).0
    (first_outcome (is_create op) (is_gone w.client (create_of g op)) (create_of g op))
    (below_taken w.client w.conns a l.cn) (λ n ls. listed_above n ls)
    (λ n lt ls. below_taken w.client w.conns a l.cn (w.log.who n) (listed_above n ls) (i.whose n lt).0) l.cn.taken l.cn.creates i)
    (λ _. i)
  where
    listed_above : (n : ℕ) → lists (w.client.op (w.log.who n)) ≡ true → 0 < w.log.who n
    listed_above n ls = above_zero (w.log.who n) (λ z. no_zeroth (w.client.op (w.log.who n)) (ap w.client.op z ∙ (l.beyond 0 refl).1) ls)

-- ---- Finish

pub finishes : (w : World) (a : ℕ → ℕ) (why : Why) → w.client.live ≡ false → ContentsHold w a
    → Contents (finish w.client why) w.conns w.server w.trace w.log a
finishes w a why dead i = finished_keeps w.client w.conns w.server w.trace w.log a why dead i

-- ---- Cut

more_up : (conns : ℕ → Conn) (j n g : ℕ) (x : Sent) → slice_get (conns j).up n ≡ Some x → x.token ≡ ForOp g → 1 ≤ copies g (conns j)
more_up conns j n g x h e = let z = own_up_count g (conns j).up n x h e in omega (arith, z)

-- a copy on an open connection is outstanding there
pub out_there : (w : World) (a : ℕ → ℕ) → Lower w a → ContentsHold w a → (j n p : ℕ) (x : Sent)
    → slice_get (w.conns j).up n ≡ Some x → x.token ≡ ForOp p → (w.conns j).client_open ≡ true → w.client.outstanding_on
    p ≡ Some j × w.client.asks_attach p ≡ false
out_there w a l i j n p x h e o = (
  l.cn.outstanding j p o (more_up w.conns j n p x h e)
      (subst (λ g. 0 < g) (ap op_of e) (i.token_up j n x h (ops_of x.token p e)).0),
  l.cn.own_up j n p x h o e,
)

pub went_out : (w : World) (a : ℕ → ℕ) → Lower w a → (j n p : ℕ) (x : Sent) → slice_get (w.conns j).up n ≡ Some x
    → x.token ≡ ForOp p → w.client.sent p ≡ true
went_out w a l j n p x h e = (l.cn.bodies j n p x h e).0

pub not_there : (w : World) (a : ℕ → ℕ) (k : ℕ) → w.client.ready k ≡ false → Lower w a → ContentsHold w a
    → (n p : ℕ) (x : Sent) → slice_get (w.conns k).up n ≡ Some x → x.token ≡ ForOp p → (w.conns k).client_open ≡ false
not_there w a k apart l i n p x h e = by_test (w.conns k).client_open refl
  where
    by_test : (b : Bool) → (w.conns k).client_open ≡ b → (w.conns k).client_open ≡ false
    by_test true o = absurd (let z = (l.cn.on_ready p k (out_there w a l i k n p x h e o).0).0 in grind arith)
    by_test false o = o

cuts_ready : (w : World) (a : ℕ → ℕ) (k : ℕ) → Lower w a → ContentsHold w a → (b e : Bool) → b ≡ true
    → ContentsHold (with_client (cut_by w k (if b && e then CloseChannels else Nothing))
    (if b then (if e then end_session w.client else cut_channel w.client k) else w.client)) a
cuts_ready w a k l i true true h = leave_keeps w.client w.conns w.server w.trace w.log a (out_there w a l i) (went_out w a l) i
cuts_ready w a k l i true false h =
    cut_keeps w.client w.conns w.server w.trace w.log a k (λ n p x h e o. out_there w a l i k n p x h e o)
    (λ j n x h se lv. (l.ss.sequences_up j n x h).1 lv se) i
cuts_ready w a k l i false e h = absurd (cc)

pub cuts : (w : World) (a : ℕ → ℕ) (k : ℕ) → Lower w a → ContentsHold w a → ContentsHold (changed w (Cut k)) a
cuts w a k l i =
    either (λ v. ContentsHold v a) (w.client.ready k) _ _ (λ ready. cuts_ready w a k l i (w.client.ready k) (ends_at_cut w.client) ready)
    (λ apart. dialog_off_keeps w.client w.conns w.server w.trace w.log a k (not_there w a k apart l i) i)

-- ---- Push: locks that find no slot settle first

abbrev Only : Client → (ℕ → Outcome) → Client
Only c o = record c { outcome = o }

record Slotless (w : World) (a : ℕ → ℕ) (c : Client) : Type 0 where
  holds : Contents c w.conns w.server w.trace w.log a
  is : c ≡ Only w.client c.outcome
  same : (h : ℕ) → is_unsettled (w.client.outcome h) ≡ false → c.outcome h ≡ w.client.outcome h

other_put : (f : ℕ → Outcome) (g h : ℕ) (o : Outcome) → h ≢ g → put f g o h ≡ f h
other_put f g h o n = grind arith

own_put : (f : ℕ → Outcome) (g h : ℕ) (o : Outcome) → h ≡ g → put f g o h ≡ o
own_put f g h o e = grind arith

-- what is said of an outcome holds of a table with one more, where it holds of that and of the others
by_put : (P : ℕ → Outcome → Type 0) (f : ℕ → Outcome) (g h : ℕ) (o : Outcome) → (h ≡ g → P h o) → (h ≢ g → P h (f h)) → P h (put f g o h)
by_put P f g h o here there = elim (h == g) as (λ b. h == g ≡ b → P h (put f g o h)) [
  | true ↦ λ e. let z = eqb-true h g e in subst (P h) (sym (own_put f g h o z)) (here z)
  | false ↦ λ e. let z = eqb-false h g e in subst (P h) (sym (other_put f g h o z)) (there z)
] refl

differ : (x : Outcome) → is_unsettled x ≡ true → is_unsettled x ≡ false → ⊥
differ x e f = absurd (grind arith)

settles_one : (c : Client) (w : World) (a : ℕ → ℕ) (g n : ℕ) → is_unsettled (c.outcome g) ≡ true → c.sent g ≡ false
    → Bodies c w.conns → Contents c w.conns w.server w.trace w.log a → Contents (Only c (put c.outcome g (NoSlot n)))
    w.conns w.server w.trace w.log a
settles_one c w a g n u s b i =
    outcomes_keeps c w.conns w.server w.trace w.log a (put c.outcome g (NoSlot n))
    (λ h e. by_put (λ h o. is_unsettled (c.outcome h) ≡ false → o ≡ c.outcome h) c.outcome g h (NoSlot n)
    (λ z f. absurd (differ (c.outcome h) (ap (λ x. is_unsettled (c.outcome x)) z ∙ u) f)) (λ z f. refl) e)
    (λ h. by_put (λ h o. is_unsettled (c.outcome h) ≡ true → is_unsettled o ≡ false → c.sent h ≡ false × is_firm o
    ≡ false × is_ok o ≡ false) c.outcome g h (NoSlot n) (λ z e f. (ap c.sent z ∙ s, refl, refl))
    (λ z e f. absurd (differ (c.outcome h) e f)))
    (λ h. by_put (λ h o. is_unsettled o ≡ true → is_unsettled (c.outcome h) ≡ true) c.outcome g h (NoSlot n)
    (λ z e. absurd (cc)) (λ z e. e))
    (λ h. by_put (λ h o. is_firm o ≡ true → is_firm (c.outcome h) ≡ true) c.outcome g h (NoSlot n) (λ z e. absurd (cc)) (λ z e. e))
    (λ h. by_put (λ h o. is_ok o ≡ true → is_ok (c.outcome h) ≡ true) c.outcome g h (NoSlot n) (λ z e. absurd (cc)) (λ z e. e))
    (λ h. by_put (λ h o. is_ok (c.outcome h) ≡ true → is_ok o ≡ true) c.outcome g h (NoSlot n)
    (λ z e. absurd (differ (c.outcome h) (ap (λ x. is_unsettled (c.outcome x)) z ∙ u)
    (ok_is_settled (c.outcome h) e))) (λ z e. e))
    b i

lacks_parts : (x y z v : Bool) → (x && (y && ((z && not v) && true))) ≡ true → x ≡ true × v ≡ false
lacks_parts x y z v e = (grind arith, grind arith)

lacks_of : (c : Client) (k g : ℕ) → lacks_slot c k g ≡ true → may_push c k g ≡ true × c.sent g ≡ false
lacks_of c k g e = (front_of _ _ e, sent_of (may_push c k g) (goes_itself c g) (is_lock (c.op g)) (c.sent g) _ e)
  where
    sent_of : (x y z v u : Bool) → (x && (y && ((z && not v) && u))) ≡ true → v ≡ false
    sent_of x y z v u e = grind arith

only_bodies : (w : World) (c : Client) → c ≡ Only w.client c.outcome → Bodies w.client w.conns → Bodies c w.conns
only_bodies w c e b = subst (λ d. Bodies d w.conns) (sym e) b

slotless_one : (w : World) (a : ℕ → ℕ) (c : Client) (k g : ℕ) → Bodies w.client w.conns → Slotless w a c
    → Slotless w a (settle_no_slot c k g)
slotless_one w a c k g b i =
    either (Slotless w a) (lacks_slot c k g) (Only c (put c.outcome g (NoSlot (create_for c g)))) c
    (λ e. let m = lacks_of c k g e in let u = (found c k g m.0).pending in
    record {
      holds = settles_one c w a g (create_for c g) u m.1 (only_bodies w c i.is b) i.holds;
      is = ap (λ d. Only d (put c.outcome g (NoSlot (create_for c g)))) i.is;
      same = λ h f. by_put (λ h o. is_unsettled (w.client.outcome h) ≡ false → o ≡ w.client.outcome h) c.outcome g h
          (NoSlot (create_for c g))
          (λ z q. absurd (differ (c.outcome g) u (ap is_unsettled (ap c.outcome (sym z) ∙ i.same h q) ∙ q))) (λ z q. i.same h q) f;
    })
    (λ _. i)

slotless : (w : World) (a : ℕ → ℕ) (c : Client) (k : ℕ) (gs : List ℕ) → Bodies w.client w.conns → Slotless w a c
    → Slotless w a (settle_no_slots c k gs)
unfolding settle_no_slots
slotless w a c k [] b i = i
slotless w a c k (g ∷ gs) b i = slotless w a (settle_no_slot c k g) k gs b (slotless_one w a c k g b i)

-- ---- what goes out

replays_by : (op : Op) (b : Bool) → edits op ≡ true → (b && (is_create op || changes op)) ≡ b
unfolding edits is_change
replays_by op b e = grind arith

holds_clash : (x y : Op) → edits x ≡ true → edits y ≡ true → holds_up x y ≡ false → clashes x y ≡ false
unfolding edits is_change clashes collides
holds_clash x y e f h = grind arith

itself_of : (op : Op) (x : Bool) → edits op ≡ true → (is_create op || x) ≡ true → x ≡ true
unfolding edits is_change
itself_of op x e f = grind arith

none_out : (b : Bool) (o : Option ℕ) → o ≡ None → (if b then true else not (is_some o)) ≡ true
none_out b o e = grind arith

no_some : (o : Option ℕ) (k : ℕ) → o ≡ None → o ≡ Some k → ⊥
no_some o k e f = absurd (grind arith)

-- nothing of what isn't outstanding waits as a reply, nor on an open connection
quiet_down : (w : World) (a : ℕ → ℕ) → Lower w a → ContentsHold w a → (g : ℕ) → 0 < g → w.client.outstanding_on g ≡ None
    → (j n : ℕ) (y : Received) → slice_get (w.conns j).down n ≡ Some y → op_of y.token ≢ g
quiet_down w a l i g ab none j n y h e =
    no_some (w.client.outstanding_on g) j none (l.cn.outstanding j g (open_of_down w a l j n y h)
    (let c = counted_down g (w.conns j).down n y h e in omega (arith, c)) ab)

off_up : (w : World) (a : ℕ → ℕ) → Lower w a → ContentsHold w a → (g : ℕ) → w.client.outstanding_on g ≡ None
    → (j n : ℕ) (x : Sent) → slice_get (w.conns j).up n ≡ Some x → x.token ≡ ForOp g → (w.conns j).client_open ≡ false
off_up w a l i g none j n x h e = by_test (w.conns j).client_open refl
  where
    by_test : (b : Bool) → (w.conns j).client_open ≡ b → (w.conns j).client_open ≡ false
    by_test true o = absurd (no_some (w.client.outstanding_on g) j none (out_there w a l i j n g x h e o).0)
    by_test false o = o

-- it goes out from this table, which differs in outcomes, slots and what went out alone
record Goes (w : World) (a : ℕ → ℕ) (c : Client) (l : Log) (k g : ℕ) : Type 0 where
  holds : Contents c w.conns w.server w.trace l a
  file : c.file ≡ w.client.file
  op : c.op ≡ w.client.op
  outstanding_on : c.outstanding_on ≡ w.client.outstanding_on
  may : MayPush c k g
  live : c.live ≡ true
  itself : goes_itself c g ≡ true

sends : (w : World) (a : ℕ → ℕ) (c : Client) (l : Log) (k g n0 : ℕ) (m : Message) → Lower w a → ContentsHold w a
    → (w.conns k).client_open ≡ true → Goes w a c l k g → m.session_id ≡ c.session → m.channel_sequence ≡ c.sequence
    → m.replay ≡ is_replay c g
    → Contents (outstanding c k g) (put w.conns k (send_up (w.conns k) (ForOp g) m n0)) w.server w.trace l a
unfolding its_create
sends w a c l k g n0 m lw i0 stands q ms mq mr =
    let none : w.client.outstanding_on g ≡ None = ap (λ f. f g) (sym q.outstanding_on) ∙ q.may.none in
    send_keeps c w.conns w.server w.trace l a k g n0 m stands q.may.none q.may.above q.may.within q.may.pending q.live ms mq q.may.has_open
    (λ ed. mr ∙ replays_by (c.op g) (c.unanswered g) ed)
    (λ ed. q.holds.now_pair (create_for c g) (eqb-true _ _ (back_of c.live _ (itself_of (c.op g) _ ed q.itself))) q.live)
    (λ j n y h e. quiet_down w a lw i0 g q.may.above none j n y h (ap op_of e))
    (λ j n x h e. off_up w a lw i0 g none j n x h e)
    (λ ed b. q.holds.unacted g ed b (none_out (c.asks_attach g) (c.outstanding_on g) q.may.none) q.may.pending) q.holds

starts : (w : World) (a : ℕ → ℕ) (c : Client) (k g : ℕ) → Lower w a → ContentsHold w a → Slotless w a c → may_push c k g
    ≡ true → w.client.live ≡ true → c.live ≡ true → c.outstanding_on ≡ w.client.outstanding_on → c.sent g ≡ false
    → Contents (record c { sent = put c.sent g true }) w.conns w.server w.trace (record w.log {
      since = put w.log.since g w.log.places;
      prior = put w.log.prior g (λ q. is_firm (w.client.outcome q));
    }) a
starts w a c k g l i0 i may live lc on new =
    let m = found c k g may in
    start_keeps c w.conns w.server w.trace w.log a g (λ q. is_firm (w.client.outcome q)) new m.above m.pending lc
    (λ n lt cr en eg u. holds_clash (c.op n) (c.op g) en eg (not_held n lt cr u))
    (λ q f. subst (λ o. is_firm o ≡ true) (sym (i.same q (firm_is_settled (w.client.outcome q) f))) f)
    (λ j n y h. quiet_down w a l i0 g m.above (ap (λ f. f g) (sym on) ∙ m.none) j n y h) i.holds
  where
    firm_is_settled : (o : Outcome) → is_firm o ≡ true → is_unsettled o ≡ false
    firm_is_settled o e = grind arith

    not_held : (n : ℕ) → n < g → create_at c n ≡ create_at c g → is_unsettled (c.outcome n) ≡ true → holds_up (c.op n) (c.op g) ≡ false
    not_held n lt cr u = by_test (holds_up (c.op n) (c.op g)) refl
      where
        by_test : (b : Bool) → holds_up (c.op n) (c.op g) ≡ b → holds_up (c.op n) (c.op g) ≡ false
        by_test true h = absurd (differ (c.outcome n) u (no_wait c g g n (free_of c k g may) lt (own_for c n ∙ (cr ∙ sym (own_for c g))) h))
        by_test false h = h

-- ---- Push, all of it

-- the table and the client's own, but for outcomes
record Beside (w : World) (c : Client) : Type 0 where
  file : c.file ≡ w.client.file
  op : c.op ≡ w.client.op
  outstanding_on : c.outstanding_on ≡ w.client.outstanding_on
  sent : c.sent ≡ w.client.sent
  live : c.live ≡ w.client.live

beside_of : (w : World) (c : Client) → c ≡ Only w.client c.outcome → Beside w c
beside_of w c e = record {
  file = ap (λ (d : Client). d.file) e;
  op = ap (λ (d : Client). d.op) e;
  outstanding_on = ap (λ (d : Client). d.outstanding_on) e;
  sent = ap (λ (d : Client). d.sent) e;
  live = ap (λ (d : Client). d.live) e;
}

old_log : (w : World) (g : ℕ) → w.client.sent g ≡ true → first_push w g ≡ w.log
old_log w g e = rw e refl

new_log : (w : World) (g : ℕ) → w.client.sent g ≡ false → first_push w g ≡ record w.log {
  since = put w.log.since g w.log.places;
  prior = put w.log.prior g (λ q. is_firm (w.client.outcome q));
}
new_log w g e = rw e refl

abbrev Out : World → (ℕ → ℕ) → ℕ → ℕ → Log → Client → Type 0
Out w a k g l c =
    Contents (outstanding c k g)
    (put w.conns k (send_up (w.conns k) (ForOp g) (own_message (outstanding c k g) k (w.conns k).next_id g)
    (charge (weight ((outstanding c k g).op g))))) w.server w.trace l a

goes_out : (w : World) (a : ℕ → ℕ) (c : Client) (k g s : ℕ) → Lower w a → ContentsHold w a → Slotless w a c
    → may_push c k g ≡ true → goes_itself c g ≡ true → (w.conns k).client_open ≡ true → w.client.live ≡ true
    → (b : Bool) → c.sent g ≡ b → Out w a k g (first_push w g) (if b then again c g else begin c g s)
goes_out w a c k g s l i0 i may itself stands live true e =
    let y = beside_of w c i.is in let m = found c k g may in
    subst (λ lg. Out w a k g lg (again c g)) (sym (old_log w g (ap (λ f. f g) (sym y.sent) ∙ e)))
    (either (Out w a k g w.log) (is_lock (c.op g)) (record c { retried = put2 c.retried (create_for c g) (c.slot_of g) c.session_number }) c
    (λ _. sends w a (record c { retried = put2 c.retried (create_for c g) (c.slot_of g) c.session_number }) w.log k g _ _ l i0 stands
    (record {
      holds = retried_keeps c w.conns w.server w.trace w.log a (create_for c g) (c.slot_of g) i.holds;
      file = y.file;
      op = y.op;
      outstanding_on = y.outstanding_on;
      may = record {
        ready = m.ready;
        above = m.above;
        within = m.within;
        pending = m.pending;
        none = m.none;
        has_open = m.has_open;
      };
      live = y.live ∙ live;
      itself = itself;
    }) refl refl refl)
    (λ _. sends w a c w.log k g _ _ l i0 stands (record {
      holds = i.holds;
      file = y.file;
      op = y.op;
      outstanding_on = y.outstanding_on;
      may = m;
      live = y.live ∙ live;
      itself = itself;
    }) refl refl refl))
goes_out w a c k g s l i0 i may itself stands live false e =
    let y = beside_of w c i.is in let m = found c k g may in let h = starts w a c k g l i0 i may live (y.live ∙ live) y.outstanding_on e in
    let lg : Log = record w.log { since = put w.log.since g w.log.places; prior = put w.log.prior g (λ q. is_firm (w.client.outcome q)) } in
    subst (λ lg. Out w a k g lg (begin c g s)) (sym (new_log w g (ap (λ f. f g) (sym y.sent) ∙ e)))
    (either (Out w a k g lg) (is_lock (c.op g)) (record (take_slot c g s) { sent = put c.sent g true }) (record c {
      sent = put c.sent g true;
    })
    (λ _. sends w a (record (take_slot c g s) { sent = put c.sent g true }) lg k g _ _ l i0 stands
    (record {
      holds = take_slot_keeps (record c { sent = put c.sent g true }) w.conns w.server w.trace lg a g s h;
      file = y.file;
      op = y.op;
      outstanding_on = y.outstanding_on;
      may = record {
        ready = m.ready;
        above = m.above;
        within = m.within;
        pending = m.pending;
        none = m.none;
        has_open = m.has_open;
      };
      live = y.live ∙ live;
      itself = itself;
    }) refl refl refl)
    (λ _. sends w a (record c { sent = put c.sent g true }) lg k g _ _ l i0 stands
    (record {
      holds = h;
      file = y.file;
      op = y.op;
      outstanding_on = y.outstanding_on;
      may = record {
        ready = m.ready;
        above = m.above;
        within = m.within;
        pending = m.pending;
        none = m.none;
        has_open = m.has_open;
      };
      live = y.live ∙ live;
      itself = itself;
    }) refl refl refl))

no_create : (op : Op) (x : Bool) → (is_create op || x) ≡ false → makes_open op ≡ false
unfolding makes_open
no_create op x e = grind arith

asks_out : (w : World) (a : ℕ → ℕ) (c : Client) (k g : ℕ) → Slotless w a c → MayPush c k g → makes_open (c.op g) ≡ false
    → Contents (asked c k g)
    (put w.conns k (send_up (w.conns k) (ForAttach g) (ask_message (asked c k g) k (w.conns k).next_id g) 1))
    w.server w.trace w.log a
unfolding its_create
asks_out w a c k g i m n = ask_keeps c w.conns w.server w.trace w.log a k g 1
    (ask_message (asked c k g) k (w.conns k).next_id g) m.none m.above m.within n refl m.has_open i.holds

pushes_op : (w : World) (a : ℕ → ℕ) (c : Client) (k g s : ℕ) → Lower w a → ContentsHold w a → Slotless w a c
    → (w.conns k).client_open ≡ true → w.client.live ≡ true
    → ContentsHold (pushed_by w k (pick_after c k (Some (record { op = g; slot = s })))
    (pick_act c k (Some (record { op = g; slot = s })))) a
pushes_op w a c k g s l i0 i stands live =
    let P : Client → Act → Type 0 = λ d x. ContentsHold (pushed_by w k d x) a in
    both_ways P (may_push c k g) _ _ _ _
    (λ may. both_ways P (goes_itself c g) _ _ _ _
    (λ it. both_ways P (has_its_slot c g s) _ _ _ _ (λ _. goes_out w a c k g s l i0 i may it stands live (c.sent g) refl) (λ _. i.holds))
    (λ it. asks_out w a c k g i (found c k g may) (no_create (c.op g) _ it)))
    (λ _. i.holds)

picks : (w : World) (a : ℕ → ℕ) (c : Client) (k : ℕ) (pick : Option Pick) → Lower w a → ContentsHold w a
    → Slotless w a c → (w.conns k).client_open ≡ true → w.client.live ≡ true
    → ContentsHold (pushed_by w k (pick_after c k pick) (pick_act c k pick)) a
picks w a c k None l i0 i stands live = either (λ x. ContentsHold (pushed_by w k c x) a) (some_unsettled c c.taken) _ _
    (λ _. i.holds) (λ _. i.holds)
picks w a c k (Some p) l i0 i stands live = pushes_op w a c k p.op p.slot l i0 i stands live

pub pushes : (w : World) (a : ℕ → ℕ) (k : ℕ) (slots : List ℕ) (pick : Option Pick) → w.client.ready k ≡ true → Lower w a
    → ContentsHold w a → ContentsHold (changed w (Push k slots pick)) a
pushes w a k slots pick ready l i =
    let r = l.cn.ready k ready in
    both_ways (λ d x. ContentsHold (pushed_by w k d x) a) (w.client.ready k) _ _ _ _
    (λ _. picks w a (settle_no_slots w.client k slots) k pick l i (slotless w a w.client k slots l.cn.bodies (record {
      holds = i;
      is = refl;
      same = λ h e. refl;
    })) r.0 r.1)
    (λ off. absurd (grind arith))
