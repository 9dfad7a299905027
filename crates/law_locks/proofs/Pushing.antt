-- A push keeps what holds of locks: an operation goes out first, or again, or a DH2C in its place.
use Rattle.std.proofs.lemmas.Bool.{eqb-false}
use Rattle.std.proofs.lemmas.Bool.Decides.{nat_tests}
use Rattle.std.proofs.Common.{eqb-true, ◌≡◌, ◌≢◌, ℕ, ◌+◌, ◌≤◌, ◌<◌, ◌==◌, ◌%◌, nat_lt, nat_le, Bool, true, false, not}
use Rattle.std.proofs.Common.{◌&&◌, ◌||◌, if◌then◌else◌, List, [], ◌∷◌, refl, arith, sym, subst, ◌∙◌, ap, Option, Some}
use Rattle.std.proofs.Common.{None, slice_get, is_some}
use Rattle.spec_exchange.specs.Table.{put, put2}
use Rattle.spec_exchange.specs.State.{Server}
use Rattle.spec_exchange.specs.Operations.{Op, Outcome, NoSlot, is_unsettled, is_ok, is_create, is_lock, weight, charge, reconnect_of}
use Rattle.spec_exchange.specs.Client.{Client, create_for, guid_for, may_push, has_its_slot, needs_slot, goes_itself}
use Rattle.spec_exchange.specs.Client.{is_attached, lacks_slot, settle_no_slot, settle_no_slots, is_free, is_out_of_use}
use Rattle.spec_exchange.specs.Client.{next_number, begin, again, take_slot, outstanding, own_message, ask_message}
use Rattle.spec_exchange.specs.ClientStep.{Pick, Act, pick_after, pick_act, some_unsettled}
use Rattle.spec_exchange.specs.Network.{World, Push, Conn, Sent, ForOp, pushed_by, changed, send_up}
use Rattle.law_sessions.specs.messages.Connections.{Connections, makes_open, shuts_open, its_create, create_at, Lower}
use Rattle.law_sessions.proofs.messages.Run.{found, MayPush, both_ways, slotless_same, slotless_still, own_for}
use Rattle.law_sessions.proofs.messages.Outcomes.{outcomes_keeps}
use Rattle.law_sessions.proofs.messages.TakeSlot.{take_slot_keeps}
use Rattle.law_sessions.proofs.messages.Start.{start_keeps}
use Rattle.law_sessions.proofs.messages.Retried.{retried_keeps}
use Rattle.law_server.proofs.tables.Logic.{either, not_true, other_on, front_of, back_of}
use Rattle.law_locks.specs.Locks.{Locks, locking, open_at, firm, in_slots, is_unsent}
use Rattle.law_locks.proofs.Words.{lock_kind, close_kind, own_create}
use Rattle.law_locks.proofs.NoSlot.{no_slot_keeps}
use Rattle.law_locks.proofs.Begin.{begin_keeps}
use Rattle.law_locks.proofs.BeginLock.{begin_lock_keeps}
use Rattle.law_locks.proofs.Again.{again_keeps}
use Rattle.law_locks.proofs.Send.{send_keeps}
use Rattle.law_locks.proofs.Ask.{ask_keeps}

abbrev pub LocksHold : World → (ℕ → ℕ) → Type 0
LocksHold w a = Locks w.client w.conns w.server a

-- both of the connections and of locks
abbrev pub Both : Client → (ℕ → Conn) → Server → (ℕ → ℕ) → Type 0
Both c conns s a = Connections c conns a × Locks c conns s a

-- ---- locks for which there is no slot

put_other : (f : ℕ → Outcome) (g h : ℕ) (o : Outcome) → h ≢ g → put f g o h ≡ f h
put_other f g h o d = grind arith

put_own : (f : ℕ → Outcome) (g : ℕ) (create : ℕ) → is_unsent (put f g (NoSlot create) g) ≡ true
unfolding is_unsent
put_own f g create = let e : put f g (NoSlot create) g ≡ NoSlot create = grind arith in ap (λ o. is_unsent o) e

unsent_of : (c : Client) (g : ℕ) (b : Bool) → (needs_slot c g && b) ≡ true → c.sent g ≡ false
unsent_of c g b e = not_true (c.sent g) (back_of (is_lock (c.op g)) (not (c.sent g)) (front_of (needs_slot c g) b e))

no_slot : (c : Client) (conns : ℕ → Conn) (s : Server) (a : ℕ → ℕ) (k g : ℕ) → Both c conns s a → Both (settle_no_slot c k g) conns s a
no_slot c conns s a k g i =
    either (λ d. Both d conns s a) (lacks_slot c k g) (record c { outcome = put c.outcome g (NoSlot (create_for c g)) }) c
    (λ lacks. let may = found c k g (front_of (may_push c k g) _ lacks) in
    let unsent = unsent_of c g _ (back_of (goes_itself c g) _ (back_of (may_push c k g) _ lacks)) in (
      outcomes_keeps c conns a (put c.outcome g (NoSlot (create_for c g))) (slotless_same c g (NoSlot (create_for c g))
          may.pending) (slotless_still c g (NoSlot (create_for c g)) may.none i.0.settled) i.0,
      no_slot_keeps c conns s a g (put c.outcome g (NoSlot (create_for c g))) may.above may.pending unsent
          (put_own c.outcome g (create_for c g)) (λ h d. put_other c.outcome g h (NoSlot (create_for c g)) d) i.0 i.1,
    ))
    (λ _. i)

no_slots : (c : Client) (conns : ℕ → Conn) (s : Server) (a : ℕ → ℕ) (k : ℕ) (gs : List ℕ) → Both c conns s a
    → Both (settle_no_slots c k gs) conns s a
unfolding settle_no_slots
no_slots c conns s a k [] i = i
no_slots c conns s a k (g ∷ gs) i = no_slots (settle_no_slot c k g) conns s a k gs (no_slot c conns s a k g i)

-- ---- what went before

either_shuts : (x y : Bool) → y ≡ true → (x || y) ≡ true
either_shuts x y e = grind arith

front_shuts : (x y : Bool) → x ≡ true → (x || y) ≡ true
front_shuts x y e = grind arith

abbrev Lowest : Client → ℕ → Type 0
Lowest c g = (n : ℕ) → 0 < n → n < g → create_at c n ≡ create_at c g → (shuts_open (c.op g) || shuts_open (c.op n))
    ≡ true → is_unsettled (c.outcome n) ≡ false

no_two : (b : Bool) → b ≡ true → b ≡ false → true ≡ false
no_two b e f = sym e ∙ f

lower_closes : (c : Client) (conns : ℕ → Conn) (s : Server) (a : ℕ → ℕ) (k g : ℕ) → Both c conns s a → MayPush c k g
    → c.sent g ≡ false → Lowest c g
    → (h : ℕ) → 0 < h → h < g → create_at c h ≡ create_at c g → shuts_open (c.op h) ≡ true → is_unsettled (c.outcome h)
    ≡ false × is_ok (c.outcome h) ≡ false
lower_closes c conns s a k g i may unsent low h l m its sh = (
  low h l m its (either_shuts (shuts_open (c.op g)) (shuts_open (c.op h)) sh),
  by_kind (makes_open (c.op g)) refl
      (is_ok (c.outcome h)) refl,
)
  where
    within : h ≤ c.taken
    within = let w = may.within in omega (arith, w, m)

    not_self : create_at c h < h → h < g → create_at c h ≡ g → true ≡ false
    not_self x y e = absurd (omega (arith, x, y, e))

    by_kind : (mk : Bool) → makes_open (c.op g) ≡ mk → (ok : Bool) → is_ok (c.outcome h) ≡ ok → is_ok (c.outcome h) ≡ false
    by_kind mk e false f = f
    by_kind true e true f =
        let cr = i.0.creates h l within (close_kind (c.op h) sh) in let own = own_create g (c.op g) e in
        absurd (let x = not_self cr.1 m (its ∙ own) in cc)
    by_kind false e true f =
        let st : c.closed_ok (create_at c g) ≡ true = subst (λ z. c.closed_ok z ≡ true) its (i.1.shut_ok h sh f) in
        absurd (let x = no_two (is_unsettled (c.outcome g)) may.pending (i.1.shut_gone g may.above may.within e st unsent) in cc)

-- ---- it goes out

next_differs : (n : ℕ) → (n + 1) % 16 ≢ n
next_differs n = λ e. absurd (grind (arith, nat_tests, e))

slot_of_free : (c : Client) (q i : ℕ) → is_free c q i ≡ true → in_slots i ≡ true × is_out_of_use c (c.slot_user q i)
    ≡ true × c.retried q i ≢ c.session_number × c.full q i ≡ false
unfolding in_slots
slot_of_free c q i e =
    let p = parts4 (nat_lt 0 i) (nat_le i 64) (is_out_of_use c (c.slot_user q i)) (c.retried q i == c.session_number) (c.full q i) e in
    (within i p.0 p.1, p.2, eqb-false (c.retried q i) c.session_number p.3, p.4)
  where
    parts4 : (x y u r f : Bool) → ((x && y) && (u && (not r && not f))) ≡ true → x ≡ true × y ≡ true × u ≡ true × r ≡ false × f ≡ false
    parts4 x y u r f e = (grind arith, grind arith, grind arith, grind arith, grind arith)

    within : (i : ℕ) → nat_lt 0 i ≡ true → nat_le i 64 ≡ true → (nat_le 1 i && nat_le i 64) ≡ true
    within i x y = grind (arith, nat_tests)

used_firm : (c : Client) (u : Option ℕ) (h : ℕ) → is_out_of_use c u ≡ true → u ≡ Some h → firm (c.outcome h) ≡ true
    × next_number c u ≢ c.number_of h
unfolding firm
used_firm c u h e f = (
  subst (λ z. is_out_of_use c z ≡ true) f e,
  subst (λ z. next_number c z ≢ c.number_of h) (sym f)
      (next_differs (c.number_of h)),
)

abbrev Out : (ℕ → Conn) → Server → (ℕ → ℕ) → ℕ → ℕ → Client → Type 0
Out conns s a k g c = Locks (outstanding c k g)
    (put conns k (send_up (conns k) (ForOp g) (own_message c k (conns k).next_id g) (charge (weight (c.op g))))) s a

is_locking : (op : Op) → is_lock op ≡ locking op
unfolding locking
is_locking op = refl

-- what a push from this table finds
pub record Goes (c : Client) (conns : ℕ → Conn) (k g : ℕ) : Type 0 where
  pub may : MayPush c k g
  pub live : c.live ≡ true
  pub stands : (conns k).client_open ≡ true
  pub att : makes_open (c.op g) ≡ false → c.attached (create_at c g) ≡ c.session_number
  pub ok : makes_open (c.op g) ≡ false → is_ok (c.outcome (create_at c g)) ≡ true × makes_open (c.op (create_at c g)) ≡ true

sent_out : (c : Client) (conns : ℕ → Conn) (s : Server) (a : ℕ → ℕ) (k g : ℕ) → Both c conns s a → Goes c conns k g → c.sent g ≡ true
    → ((j n : ℕ) (x : Sent) → slice_get (conns j).up n ≡ Some x → x.token ≡ ForOp g → locking (c.op g) ≡ true
    → c.retried (create_at c g) (c.slot_of g) ≡ c.session_number) → Out conns s a k g c
sent_out c conns s a k g i go sent again1 = send_keeps c conns s a k g (charge (weight (c.op g)))
    (own_message c k (conns k).next_id g) go.may.ready go.may.none go.may.pending sent go.stands refl go.live go.att
    again1 go.ok i.1

put_two : (f : ℕ → ℕ → ℕ) (q i n : ℕ) → put2 f q i n q i ≡ n
put_two f q i n = grind arith

put_true : (f : ℕ → Bool) (g : ℕ) → put f g true g ≡ true
put_true f g = grind arith

not_first : (c : Client) (conns : ℕ → Conn) (a : ℕ → ℕ) (g j n : ℕ) (x : Sent) → Connections c conns a → c.sent g
    ≡ false → slice_get (conns j).up n ≡ Some x → x.token ≡ ForOp g → true ≡ false
not_first c conns a g j n x C unsent h t = let b = C.bodies j n g x h t in no_two (c.sent g) b.0 unsent

same_may : (c : Client) (k g : ℕ) (sent : ℕ → Bool) (slot_of number_of : ℕ → ℕ) (user : ℕ → ℕ → Option ℕ)
    (retried : ℕ → ℕ → ℕ) → MayPush c k g → MayPush (record c {
      sent = sent;
      slot_of = slot_of;
      number_of = number_of;
      slot_user = user;
      retried = retried;
    }) k g
same_may c k g sent slot_of number_of user retried m = record {
  ready = m.ready;
  above = m.above;
  within = m.within;
  pending = m.pending;
  none = m.none;
  has_open = m.has_open;
}

same_goes : (c : Client) (conns : ℕ → Conn) (k g : ℕ) (sent : ℕ → Bool) (slot_of number_of : ℕ → ℕ)
    (user : ℕ → ℕ → Option ℕ) (retried : ℕ → ℕ → ℕ) → Goes c conns k g → Goes (record c {
      sent = sent;
      slot_of = slot_of;
      number_of = number_of;
      slot_user = user;
      retried = retried;
    }) conns k g
same_goes c conns k g sent slot_of number_of user retried o = record {
  may = same_may c k g sent slot_of number_of user retried o.may;
  live = o.live;
  stands = o.stands;
  att = o.att;
  ok = o.ok;
}

begun_out : (c : Client) (conns : ℕ → Conn) (s : Server) (a : ℕ → ℕ) (k g n : ℕ) → Both c conns s a → Goes c conns k g
    → Lowest c g → has_its_slot c g n ≡ true → (b : Bool) → c.sent g ≡ b
    → Out conns s a k g (if b then again c g else begin c g n)
begun_out c conns s a k g n i go low slot true e =
    either (Out conns s a k g) (is_lock (c.op g)) (record c { retried = put2 c.retried (create_for c g) (c.slot_of g) c.session_number }) c
    (λ _. sent_out (record c { retried = put2 c.retried (create_for c g) (c.slot_of g) c.session_number }) conns s a k g (
      retried_keeps c conns a (create_for c g) (c.slot_of g) i.0,
      again_keeps c conns s a (create_for c g) (c.slot_of g)
          i.1,
    ) (same_goes c conns k g c.sent c.slot_of c.number_of c.slot_user _ go) e
    (λ j m x h t l. subst (λ z. put2 c.retried (create_for c g) (c.slot_of g) c.session_number z (c.slot_of g)
    ≡ c.session_number) (own_for c g) (put_two c.retried (create_for c g) (c.slot_of g) c.session_number)))
    (λ off. sent_out c conns s a k g i go e
    (λ j m x h t l. absurd (let y = no_two (locking (c.op g)) l (sym (is_locking (c.op g)) ∙ off) in cc)))
begun_out c conns s a k g n i go low slot false e =
    let may = go.may in let before = lower_closes c conns s a k g i may e low in
    either (Out conns s a k g) (is_lock (c.op g)) (record (take_slot c g n) { sent = put c.sent g true }) (record c {
      sent = put c.sent g true;
    })
    (λ l. let lk : locking (c.op g) ≡ true = sym (is_locking (c.op g)) ∙ l in let kind = lock_kind (c.op g) lk in
    let q = create_for c g in
    let fr = slot_of_free c q n (free_by slot l) in
    let oks = go.ok kind in
    sent_out (record (take_slot c g n) { sent = put c.sent g true }) conns s a k g (
      start_keeps (take_slot c g n) conns a g e may.has_open may.above may.within (take_slot_keeps c conns a g n e i.0),
      begin_lock_keeps c conns s a g q n (next_number c (c.slot_user q n)) e lk fr.0 (own_for c g) may.pending go.live
          (subst (λ z. is_ok (c.outcome z) ≡ true) (sym (own_for c g)) oks.0)
          (subst (λ z. makes_open (c.op z) ≡ true) (sym (own_for c g)) oks.1) before fr.2 fr.3
          (λ h u. used_firm c (c.slot_user q n) h fr.1 u) i.0 i.1,
    )
    (same_goes c conns k g _ _ _ _ c.retried go) (put_true c.sent g) (λ j m x h t l2.
    absurd (let y = not_first c conns a g j m x i.0 e h t in cc)))
    (λ off. sent_out (record c { sent = put c.sent g true }) conns s a k g (
      start_keeps c conns a g e may.has_open may.above may.within i.0,
      begin_keeps c conns s a g e (sym (is_locking (c.op g)) ∙ off) may.pending before (λ p l m its mk sh.
          low p l m its (front_shuts (shuts_open (c.op g)) (shuts_open (c.op p)) sh)) i.1,
    )
    (same_goes c conns k g _ c.slot_of c.number_of c.slot_user c.retried go) (put_true c.sent g) (λ j m x h t l2.
    absurd (let y = not_first c conns a g j m x i.0 e h t in cc)))
  where
    free_by : (if is_lock (c.op g) && not (c.sent g) then is_free c (create_for c g) n else true) ≡ true
        → is_lock (c.op g) ≡ true → is_free c (create_for c g) n ≡ true
    free_by h l = by_bools (is_lock (c.op g)) (c.sent g) (is_free c (create_for c g) n) h l e
      where
        by_bools : (x y z : Bool) → (if x && not y then z else true) ≡ true → x ≡ true → y ≡ false → z ≡ true
        by_bools x y z h l e = grind arith

-- ---- a push

itself_att : (c : Client) (g : ℕ) → goes_itself c g ≡ true → makes_open (c.op g) ≡ false → c.attached (create_at c g) ≡ c.session_number
unfolding makes_open its_create
itself_att c g e m = eqb-true (c.attached (create_for c g)) c.session_number
    (back_of c.live (c.attached (create_for c g) == c.session_number)
    (other_on (is_create (c.op g)) (is_attached c (create_for c g)) e m))

not_itself : (c : Client) (g : ℕ) → goes_itself c g ≡ false → c.live ≡ true → makes_open (c.op g) ≡ false
    × c.attached (create_at c g) ≢ c.session_number
unfolding makes_open its_create
not_itself c g e l = let p = both_off (is_create (c.op g)) c.live (c.attached (create_for c g) == c.session_number) e l
    in (p.0, eqb-false (c.attached (create_for c g)) c.session_number p.1)
  where
    both_off : (x y z : Bool) → (x || (y && z)) ≡ false → y ≡ true → x ≡ false × z ≡ false
    both_off x y z e l = (grind arith, grind arith)

ok_of_may : (c : Client) (conns : ℕ → Conn) (a : ℕ → ℕ) (k g : ℕ) → Connections c conns a → MayPush c k g
    → makes_open (c.op g) ≡ false → is_ok (c.outcome (create_at c g)) ≡ true × makes_open (c.op (create_at c g)) ≡ true
ok_of_may c conns a k g C m kind = let h = m.has_open in let cr = C.creates g m.above m.within kind in
    (other_on (makes_open (c.op g)) (is_ok (c.outcome (create_at c g))) h kind, cr.2)

ask_body : (c : Client) (k id g : ℕ) → (ask_message c k id g).command ≡ reconnect_of (c.op (create_at c g))
    (guid_for c (create_at c g)) (open_at c g)
unfolding its_create
ask_body c k id g = refl

begun_same : (c : Client) (g n : ℕ) (b : Bool) → (if b then again c g else begin c g n).op ≡ c.op
begun_same c g n true = either {X = Client} (λ d. d.op ≡ c.op) (is_lock (c.op g)) _ _ (λ _. refl) (λ _. refl)
begun_same c g n false = either {X = Client} (λ d. d.op ≡ c.op) (is_lock (c.op g)) _ _ (λ _. refl) (λ _. refl)

begun_outcome : (c : Client) (g n : ℕ) (b : Bool) → (if b then again c g else begin c g n).outcome ≡ c.outcome
begun_outcome c g n true = either {X = Client} (λ d. d.outcome ≡ c.outcome) (is_lock (c.op g)) _ _ (λ _. refl) (λ _. refl)
begun_outcome c g n false = either {X = Client} (λ d. d.outcome ≡ c.outcome) (is_lock (c.op g)) _ _ (λ _. refl) (λ _. refl)

abbrev LowestIn : (ℕ → Op) → (ℕ → Outcome) → ℕ → Type 0
LowestIn ops out g = (n : ℕ) → 0 < n → n < g → its_create n (ops n) ≡ its_create g (ops g)
    → (shuts_open (ops g) || shuts_open (ops n)) ≡ true → is_unsettled (out n) ≡ false

put_some : (f : ℕ → Option ℕ) (g k : ℕ) → is_some (put f g (Some k) g) ≡ true
put_some f g k = grind arith

lowest_of : (d : Client) (k g : ℕ) → Lower (outstanding d k g) → LowestIn d.op d.outcome g
lowest_of d k g low n l m its sh = low g n (put_some d.outstanding_on g k) l m its sh

lowest_before : (c d : Client) (g : ℕ) → d.op ≡ c.op → d.outcome ≡ c.outcome → LowestIn d.op d.outcome g → Lowest c g
lowest_before c d g e f low = subst (λ z. LowestIn c.op z g) f (subst (λ z. LowestIn z d.outcome g) e low)

-- of the world behind it the connections are known already
abbrev Then : World → ℕ → (ℕ → ℕ) → Client → Act → Type 0
Then w k a d x = Connections (pushed_by w k d x).client (pushed_by w k d x).conns a → LocksHold (pushed_by w k d x) a

pushes_op : (w : World) (a : ℕ → ℕ) (k g n : ℕ) (c : Client) → c.live ≡ true → (w.conns k).client_open ≡ true → Both c w.conns w.server a
    → Then w k a (pick_after c k (Some (record { op = g; slot = n }))) (pick_act c k (Some (record { op = g; slot = n })))
pushes_op w a k g n c live stands i =
    both_ways (Then w k a) (may_push c k g) _ _ _ _
    (λ may. let m = found c k g may in
    both_ways (Then w k a) (goes_itself c g) _ _ _ _
    (λ own. both_ways (Then w k a) (has_its_slot c g n) _ _ _ _
    (λ slot j. begun_out c w.conns w.server a k g n i (record {
      may = m;
      live = live;
      stands = stands;
      att = itself_att c g own;
      ok = ok_of_may c w.conns a k g i.0 m;
    })
    (lowest_before c (if c.sent g then again c g else begin c g n) g (begun_same c g n (c.sent g))
    (begun_outcome c g n (c.sent g)) (lowest_of (if c.sent g then again c g else begin c g n) k g j.lower)) slot
    (c.sent g) refl)
    (λ _ j. i.1))
    (λ other j. let o = not_itself c g other live in
    ask_keeps c w.conns w.server a k g 1 (ask_message c k (w.conns k).next_id g) m.ready m.none m.above m.within o.0
    (ok_of_may c w.conns a k g i.0 m o.0).0 refl live (ask_body c k (w.conns k).next_id g) o.1 stands i.1))
    (λ _ j. i.1)

picks : (w : World) (a : ℕ → ℕ) (k : ℕ) (c : Client) (pick : Option Pick) → c.live ≡ true → (w.conns k).client_open
    ≡ true → Both c w.conns w.server a → Then w k a (pick_after c k pick) (pick_act c k pick)
picks w a k c None live stands i = either (λ x. Then w k a c x) (some_unsettled c c.taken) _ _ (λ _ j. i.1) (λ _ j. i.1)
picks w a k c (Some p) live stands i = pushes_op w a k p.op p.slot c live stands i

live_still : (c : Client) (k g : ℕ) → (settle_no_slot c k g).live ≡ c.live
live_still c k g = either (λ d. d.live ≡ c.live) (lacks_slot c k g) (record c {
  outcome = put c.outcome g (NoSlot (create_for c g));
}) c (λ _. refl) (λ _. refl)

live_stays : (c : Client) (k : ℕ) (gs : List ℕ) → (settle_no_slots c k gs).live ≡ c.live
unfolding settle_no_slots
live_stays c k [] = refl
live_stays c k (g ∷ gs) = live_stays (settle_no_slot c k g) k gs ∙ live_still c k g

pub pushes : (w : World) (a : ℕ → ℕ) (k : ℕ) (slotless : List ℕ) (pick : Option Pick) → w.client.ready k ≡ true
    → Both w.client w.conns w.server a → Connections (changed w (Push k slotless pick)).client
    (changed w (Push k slotless pick)).conns a → LocksHold (changed w (Push k slotless pick)) a
pushes w a k slotless pick ready i =
    let rd = i.0.ready k ready in
    both_ways (Then w k a) (w.client.ready k) _ _ _ _
    (λ _. picks w a k (settle_no_slots w.client k slotless) pick (live_stays w.client k slotless ∙ rd.1) rd.0
    (no_slots w.client w.conns w.server a k slotless i))
    (λ off. absurd (grind arith))
