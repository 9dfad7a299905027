-- The server takes a copy of a lock or unlock.
use Rattle.law_server.specs.tables.Fits.{Limit}
use Rattle.law_server.proofs.tables.Logic.{both}
use Rattle.std.proofs.Common.{eqb-true, ◌≡◌, ◌≢◌, ◌⊎◌, inl, inr, ℕ, ◌+◌, ◌==◌, ◌≤◌, ◌<◌, Bool, true, false, ◌&&◌}
use Rattle.std.proofs.Common.{if◌then◌else◌, List, [], ◌∷◌, ◌++◌, length, Option, Some, None, slice_get, is_some, refl}
use Rattle.std.proofs.Common.{arith, sym, ◌∙◌, ap, subst}
use Rattle.spec_exchange.specs.Table.{put, put2, is_at}
use Rattle.spec_exchange.specs.Status.{success, user_session_deleted, disk_full}
use Rattle.spec_exchange.specs.Commands.{Command, Lock, Element, lock_form, deletes_on_close}
use Rattle.spec_exchange.specs.State.{Server, Message, Record, LockRecord, Kept, Range}
use Rattle.spec_exchange.specs.Files.{set_delete_pending, exists, is_full_directory, is_directory, path_of}
use Rattle.spec_exchange.specs.Opens.{is_kept_back, drop_open, file_has_open, is_of_tree}
use Rattle.spec_exchange.specs.CheckOpen.{is_late, is_slot, file_of}
use Rattle.spec_exchange.specs.Check.{check}
use Rattle.spec_exchange.specs.Records.{lower_limit, fits, entry_bytes, origin_of}
use Rattle.spec_exchange.specs.Effects.{apply, reach, keep_slot, set_ranges, lock_records, recorded_index}
use Rattle.spec_exchange.specs.Step.{without_room}
use Rattle.spec_exchange.specs.Operations.{Op, OpCreate, OpWrite, OpRead, OpEnd, OpTime, OpRename, OpRemove, OpLock}
use Rattle.spec_exchange.specs.Operations.{OpUnlock, OpFlush, OpStat, OpList, OpClose, is_unsettled, is_ok, element}
use Rattle.spec_exchange.specs.Operations.{lock_flags}
use Rattle.spec_exchange.specs.Client.{Client, guid_for}
use Rattle.spec_exchange.specs.Network.{Conn, Sent, Received, Token, ForOp, ForAttach}
use Rattle.spec_exchange.specs.Runs.{is_send_of}
use Rattle.spec_exchange.specs.Verdict.{Verdict, TurnDown}
use Rattle.law_sessions.specs.messages.Connections.{Connections, makes_open, shuts_open, create_at, its_request}
use Rattle.law_sessions.proofs.messages.Lists.{own_up_count, own_down_count}
use Rattle.law_server.proofs.tables.Logic.{either}
use Rattle.law_server.proofs.tables.Doors.{recorded}
use Rattle.law_server.proofs.tables.Checked.{found}
use Rattle.law_sessions.specs.sessions.Sessions.{is_ops}
use Rattle.law_creates.specs.Creates.{Creates, seen, guid_at}
use Rattle.law_creates.proofs.Words.{guid_once}
use Rattle.law_creates.proofs.Requests.{same_guid}
use Rattle.law_locks.specs.Locks.{Locks, locking, open_at, user_at, kept_of, kept_at, kept_with, is_alone, is_stuck, firm, in_slots}
use Rattle.law_locks.proofs.Words.{lock_kind, lock_stays, lock_once, ok_of, made_of, kept_same, up_on, down_on}
use Rattle.law_locks.proofs.Verdicts.{closes_in, is_slot_verdict}
use Rattle.law_locks.proofs.Rooms.{room_for_lock, Why, stuck_why, stuck_near, stuck_kept}
use Rattle.law_locks.proofs.Sees.{LockSees, Deleted, NoTree, Away, Done, Again, Refused, Granted}
use Rattle.law_locks.proofs.Serving.{Serving, Served, counted, not_acted, of_unmade, plain_other, quiet_serve}
use Rattle.law_locks.proofs.Writes.{writes_keeps}
use Rattle.law_locks.proofs.Say.{MaySay}

pub clash : (b : Bool) → b ≡ false → b ≡ true → true ≡ false
clash b e f = sym f ∙ e

-- ---- its request

unfoldable pub elements_in : Op → List Element
elements_in (OpLock create at n exclusive) = element at n (lock_flags exclusive)
elements_in (OpUnlock create at n) = element at n 0x4
elements_in _ = []

lock_request : (op : Op) (guid file slot number : ℕ) → locking op ≡ true → its_request op guid file slot number
    ≡ Lock file slot number (elements_in op)
unfolding locking its_request elements_in
lock_request op guid file slot number e = grind arith

pub lock_formed : (op : Op) → locking op ≡ true → lock_form (elements_in op) ≡ None
unfolding locking elements_in
lock_formed (OpLock create at n true) e = refl
lock_formed (OpLock create at n false) e = refl
lock_formed (OpUnlock create at n) e = refl
lock_formed (OpCreate path access share disposition persist directory) e = absurd (cc)
lock_formed (OpWrite create at bytes) e = absurd (cc)
lock_formed (OpRead create at size) e = absurd (cc)
lock_formed (OpEnd create size) e = absurd (cc)
lock_formed (OpTime create time) e = absurd (cc)
lock_formed (OpRename create path) e = absurd (cc)
lock_formed (OpRemove create) e = absurd (cc)
lock_formed (OpFlush create) e = absurd (cc)
lock_formed (OpStat create) e = absurd (cc)
lock_formed (OpList create) e = absurd (cc)
lock_formed (OpClose create) e = absurd (cc)

one_element : (op : Op) → locking op ≡ true → 1 ≤ length (elements_in op)
unfolding locking elements_in
one_element op e = grind arith

no_close : (x : Command) (o i n p : ℕ) (es : List Element) → x ≡ Lock o i n es → closes_in x p ≡ false
unfolding closes_in
no_close x o i n p es e = rw e refl

is_slot_of : (i : ℕ) → in_slots i ≡ true → is_slot i ≡ true
unfolding in_slots
is_slot_of i e = e

-- ---- opens and their creates

pub same_file : (c : Client) (conns : ℕ → Conn) (t : Server) (a : ℕ → ℕ) → Creates c conns (seen t) a → (q r : ℕ)
    → makes_open (c.op q) ≡ true → is_ok (c.outcome q) ≡ true → makes_open (c.op r) ≡ true → is_ok (c.outcome r) ≡ true
    → t.standing (c.file q) ≡ true → c.file q ≡ c.file r → q ≡ r
same_file c conns t a cr q r mq oq mr or1 st e =
    let one = ((cr.file_guid q mq oq).1 st).1 in
    let st2 : t.standing (c.file r) ≡ true = subst (λ z. t.standing z ≡ true) e st in
    let two = ((cr.file_guid r mr or1).1 st2).1 in
    let both : Some (guid_at c q) ≡ Some (guid_at c r) = sym one ∙ (ap (λ z. (t.opened z).create_guid) e ∙ two) in
    guid_once c.who.salt q r (grind arith)

unmade_at : (c : Client) (conns : ℕ → Conn) (t : Server) (a : ℕ → ℕ) → Creates c conns (seen t) a → (q r : ℕ)
    → is_ok (c.outcome q) ≡ false → makes_open (c.op r) ≡ true → is_ok (c.outcome r) ≡ true
    → t.standing (c.file r) ≡ true → t.by_guid c.who.guid (guid_for c q) ≢ Some (c.file r)
unmade_at c conns t a cr q r no1 mr or1 st = λ e.
    let e2 : t.by_guid c.who.guid (guid_at c q) ≡ Some (c.file r) = subst (λ z. t.by_guid c.who.guid z
    ≡ Some (c.file r)) (same_guid c q) e in
    let one = (cr.named q (c.file r) e2).2 in
    let two = ((cr.file_guid r mr or1).1 st).1 in
    let both : Some (guid_at c q) ≡ Some (guid_at c r) = sym one ∙ two in
    let same : q ≡ r = guid_once c.who.salt q r (grind arith) in absurd (grind arith)

-- ---- what doesn't look at slots

kept_same_with : (t : Server) (sq : ℕ → ℕ) (rg : ℕ → List Range) (sl : ℕ → ℕ → Option Kept) (j0 o : ℕ)
    → kept_with (record t { sequence = sq; ranges = rg; lock_sequences = sl; journal = j0 }) o ≡ kept_with t o
unfolding kept_with is_kept_back exists file_has_open is_full_directory is_directory path_of
kept_same_with t sq rg sl j0 o = by_kind (deletes_on_close (t.opened o).options)
  where
    by_kind : (b : Bool) → is_kept_back (drop_open (if b then set_delete_pending (record t {
      sequence = sq;
      ranges = rg;
      lock_sequences = sl;
      journal = j0;
    }) (t.opened o).file true else record t {
      sequence = sq;
      ranges = rg;
      lock_sequences = sl;
      journal = j0;
    }) o) (t.opened o).file
        ≡ is_kept_back (drop_open (if b then set_delete_pending t (t.opened o).file true else t) o) (t.opened o).file
    by_kind true = refl
    by_kind false = refl

pub stuck_same : (t : Server) (sq : ℕ → ℕ) (rg : ℕ → List Range) (sl : ℕ → ℕ → Option Kept) (j0 o : ℕ) → t.journal ≤ j0
    → is_stuck t o ≡ true → is_stuck (record t { sequence = sq; ranges = rg; lock_sequences = sl; journal = j0 }) o ≡ true
unfolding is_alone
stuck_same t sq rg sl j0 o grown e = by (stuck_why t o e)
  where
    u : Server
    u = record t { sequence = sq; ranges = rg; lock_sequences = sl; journal = j0 }

    more : (k : ℕ) → lower_limit < t.journal + k → lower_limit < j0 + k
    more k l = omega (arith, grown, l)

    by : Why t o → is_stuck u o ≡ true
    by (inl x) = stuck_near u o (more 34 x.0) x.1
    by (inr x) = stuck_kept u o (more 35 x.0) (kept_same_with t sq rg sl j0 o ∙ x.1)

-- ---- the slot keeps its answer

no_reply_beside : (c : Client) (conns : ℕ → Conn) (a : ℕ → ℕ) (k g : ℕ) (x0 : Sent) → Connections c conns a
    → slice_get (conns k).up 0 ≡ Some x0 → x0.token ≡ ForOp g → locking (c.op g) ≡ true → c.unanswered g ≡ false
    → (j n : ℕ) (y : Received) → slice_get (conns j).down n ≡ Some y → y.token ≢ ForOp g
no_reply_beside c conns a k g x0 C front tk lk bf j n y h = λ e.
    let fs = C.first k 0 g x0 front tk (lock_once (c.op g) lk) bf in
    let bd = C.bodies k 0 g x0 front tk in let tn = C.taken g bd.0 in
    let one = up_on c conns C.outstanding k 0 g x0 front tk tn.0 fs.0 in
    let two = down_on c conns C.outstanding C.down_open j n g y h e tn.0 in
    let same : j ≡ k = grind arith in
    let h2 : slice_get (conns k).down n ≡ Some y = subst (λ z. slice_get (conns z).down n ≡ Some y) same h in
    let u = own_up_count g (conns k).up 0 x0 front tk in let d = own_down_count g (conns k).down n y h2 e in let o = C.once k g in
    absurd (omega (arith, u, d, o))

unfirm_of : (c : Client) (conns : ℕ → Conn) (t : Server) (a : ℕ → ℕ) (k g : ℕ) (x0 : Sent) → Locks c conns t a
    → slice_get (conns k).up 0 ≡ Some x0 → x0.token ≡ ForOp g → locking (c.op g) ≡ true
    → t.present x0.message.session_id ≡ true
    → user_at c g ≡ Some g → t.standing (open_at c g) ≡ true → kept_of c t g ≡ None → firm (c.outcome g) ≡ false
unfirm_of c conns t a k g x0 i front tk lk p user st free =
    elim (firm (c.outcome g)) as (λ b. firm (c.outcome g) ≡ b → firm (c.outcome g) ≡ false) [
      | true ↦ λ f. let fd = i.full_dead k 0 g x0 front tk lk p f in let fk = i.firm_kept g user f fd st in absurd (grind arith)
      | false ↦ λ f. f
    ] refl

other_count : (a : ℕ → ℕ) (g p : ℕ) (acted : Bool) → p ≢ g → counted a (ForOp g) acted p ≡ a p
other_count a g p acted d = elim (g == p) as (λ b. g == p ≡ b → counted a (ForOp g) acted p ≡ a p) [
  | true ↦ λ q. absurd (d (sym (eqb-true g p q)))
  | false ↦ λ q. grind arith
] refl

own_count : (a : ℕ → ℕ) (g st0 : ℕ) (acted : Bool) → a g ≡ 0 → acted ≡ (st0 == success) → counted a (ForOp g) acted g
    ≡ (if st0 == success then 1 else 0)
own_count a g st0 acted z e = grind arith

pub lock_written : (c : Client) (conns : ℕ → Conn) (t : Server) (a : ℕ → ℕ) (k g st0 j0 : ℕ) (x0 : Sent) (sq : ℕ → ℕ)
    (rg : ℕ → List Range) (acted : Bool) → Serving c conns t a k x0 → x0.token ≡ ForOp g → locking (c.op g) ≡ true
    → t.present x0.message.session_id ≡ true → t.standing (open_at c g) ≡ true → kept_of c t g ≡ None → t.journal ≤ j0
    → ((t.opened (open_at c g)).persistent ≡ true → t.journal + 66 ≤ lower_limit) → acted ≡ (st0 == success)
    → Locks c conns (record t {
      sequence = sq;
      ranges = rg;
      lock_sequences = put2 t.lock_sequences (open_at c g) (c.slot_of g) (Some (record {
        number = c.number_of g;
        status = st0;
      }));
      journal = j0;
    }) (counted a (ForOp g) acted)
lock_written c conns t a k g st0 j0 x0 sq rg acted w tk lk p st free grown room act =
    let C = w.links in let i = w.locks in
    let bd = C.bodies k 0 g x0 w.front tk in
    let user = i.users k 0 g x0 w.front tk lk p in
    let kind = lock_kind (c.op g) lk in
    let ok = ok_of c C.has_open g bd.0 kind in let mk = made_of c C.taken C.creates g bd.0 kind in
    writes_keeps c conns t a g st0 j0 sq rg (counted a (ForOp g) acted) lk bd.0 user free st
    (unfirm_of c conns t a k g x0 i w.front tk lk p user st free) grown
    (λ q m d. other_count a g q acted d)
    (own_count a g st0 acted (i.not_kept g user st free) act)
    (λ q m. other_count a g q acted
    (λ e. absurd (let x = clash (makes_open (c.op q)) (subst (λ z. makes_open (c.op z) ≡ false) (sym e) kind) m in
    cc))) room
    (λ o e. stuck_same t sq rg _ j0 o grown e)
    (λ q mq oq sq1 e. same_file c conns t a w.creates q (create_at c g) mq oq mk ok sq1 e)
    (λ q mq no1. unmade_at c conns t a w.creates q (create_at c g) no1 mk ok st)
    (λ bf j n y h. no_reply_beside c conns a k g x0 C w.front tk lk bf j n y h) C i

-- in the words of the effects
slot_written : (t : Server) (m : Message) (P : Server → Type 0) (o i n st0 : ℕ) → is_slot i ≡ true
    → ((sq : ℕ → ℕ) → P (record t {
      sequence = sq;
      lock_sequences = put2 t.lock_sequences o i (Some (record { number = n; status = st0 }));
    }))
    → P (keep_slot (reach t m o) o i n st0)
slot_written t m P o i n st0 slot f =
    either P (is_slot i) _ _
    (λ _. either (λ u. P (record u {
      lock_sequences = put2 u.lock_sequences o i (Some (record { number = n; status = st0 }));
    })) (is_late t m o) t
    (record t { sequence = put t.sequence o m.channel_sequence }) (λ _. f t.sequence)
    (λ _. f (put t.sequence o m.channel_sequence)))
    (λ off. absurd (grind arith))

ranges_written : (t : Server) (m : Message) (P : Server → Type 0) (o i n f0 : ℕ) (ranges : List Range) → is_slot i
    ≡ true → ((sq : ℕ → ℕ) → P (record t {
      sequence = sq;
      ranges = put t.ranges f0 ranges;
      lock_sequences = put2 t.lock_sequences o i (Some (record { number = n; status = success }));
    }))
    → P (keep_slot (set_ranges (reach t m o) f0 ranges) o i n success)
ranges_written t m P o i n f0 ranges slot f =
    either P (is_slot i) _ _
    (λ _. either (λ u. P (record u {
      ranges = put u.ranges f0 ranges;
      lock_sequences = put2 u.lock_sequences o i (Some (record { number = n; status = success }));
    })) (is_late t m o)
    t (record t { sequence = put t.sequence o m.channel_sequence }) (λ _. f t.sequence)
    (λ _. f (put t.sequence o m.channel_sequence)))
    (λ off. absurd (grind arith))

-- ---- what is said of its reply

pub record Says (c : Client) (u : Server) (b : ℕ → ℕ) (g status : ℕ) : Type 0 where
  pub ok : status ≡ success → b g ≡ 1
  pub no : status ≢ success → status ≢ user_session_deleted → status ≢ disk_full → b g ≡ 0
  pub kept : status ≢ user_session_deleted → status ≢ disk_full → u.standing (open_at c g) ≡ true → is_some (kept_of c u g) ≡ true
  pub first : status ≢ success → c.unanswered g ≡ false → b g ≡ 0

pub same_op : (g h : ℕ) (t : Token) → t ≡ ForOp g → t ≡ ForOp h → g ≡ h
same_op g h t e f = grind arith

pub not_ask : (g h : ℕ) (t : Token) → t ≡ ForOp g → t ≡ ForAttach h → true ≡ false
not_ask g h t e f = absurd (grind arith)

pub say_lock : (c : Client) (u : Server) (b : ℕ → ℕ) (g : ℕ) (y0 : Received) → y0.token ≡ ForOp g → locking (c.op g)
    ≡ true → Says c u b g y0.reply.status → MaySay c u b y0
say_lock c u b g y0 tk lk s =
    let kind = lock_kind (c.op g) lk in let open1 = lock_stays (c.op g) lk in
    record {
      of_ask_down = λ h e. absurd (let x = not_ask g h y0.token tk e in cc);
      of_opened_reply = λ h e m.
          absurd (let x = clash (makes_open (c.op h)) (subst (λ z. makes_open (c.op z) ≡ false)
          (same_op g h y0.token tk e) kind) m in cc);
      of_join_reply = λ h e. absurd (let x = not_ask g h y0.token tk e in cc);
      of_joined_reply = λ h e. absurd (let x = not_ask g h y0.token tk e in cc);
      of_lost_reply = λ h e. absurd (let x = not_ask g h y0.token tk e in cc);
      of_ok_reply = λ h e m st. subst (λ z. b z ≡ 1) (same_op g h y0.token tk e) (s.ok st);
      of_no_reply = λ h e m n1 n2 n4. subst (λ z. b z ≡ 0) (same_op g h y0.token tk e) (s.no n1 n2 n4);
      of_kept_reply = λ h e m n2 n4. subst (λ z. u.standing (open_at c z) ≡ true → is_some (kept_of c u z) ≡ true)
          (same_op g h y0.token tk e) (s.kept n2 n4);
      of_first_reply = λ h e m n1. subst (λ z. c.unanswered z ≡ false → b z ≡ 0) (same_op g h y0.token tk e) (s.first n1);
      of_close_done = λ h e m.
          absurd (let x = clash (shuts_open (c.op h)) (subst (λ z. shuts_open (c.op z) ≡ false)
          (same_op g h y0.token tk e) open1) m in cc);
      of_close_full = λ h e m.
          absurd (let x = clash (shuts_open (c.op h)) (subst (λ z. shuts_open (c.op z) ≡ false)
          (same_op g h y0.token tk e) open1) m in cc);
      of_close_stuck = λ h e m.
          absurd (let x = clash (shuts_open (c.op h)) (subst (λ z. shuts_open (c.op z) ≡ false)
          (same_op g h y0.token tk e) open1) m in cc);
    }

-- ---- verdict by verdict

-- a copy of a lock waits in front
pub record Copy (c : Client) (conns : ℕ → Conn) (t : Server) (a : ℕ → ℕ) (k g : ℕ) (x0 : Sent) : Type 0 where
  pub serving : Serving c conns t a k x0
  pub token : x0.token ≡ ForOp g
  pub lock : locking (c.op g) ≡ true
  pub command : x0.message.command ≡ Lock (open_at c g) (c.slot_of g) (c.number_of g) (elements_in (c.op g))
  pub slot : is_slot (c.slot_of g) ≡ true

pub copy_of : (c : Client) (conns : ℕ → Conn) (t : Server) (a : ℕ → ℕ) (k g : ℕ) (x0 : Sent) → Serving c conns t a k x0
    → x0.token ≡ ForOp g → locking (c.op g) ≡ true → Copy c conns t a k g x0
copy_of c conns t a k g x0 w tk lk =
    let bd = w.links.bodies k 0 g x0 w.front tk in
    record {
      serving = w;
      token = tk;
      lock = lk;
      command = bd.1 ∙ lock_request (c.op g) (guid_for c g) (c.file (create_at c g)) (c.slot_of g) (c.number_of g) lk;
      slot = is_slot_of (c.slot_of g) (w.locks.slot_index g bd.0 lk);
    }

present_of : (c : Client) (conns : ℕ → Conn) (t : Server) (a : ℕ → ℕ) (k g : ℕ) (x0 : Sent) → Copy c conns t a k g x0
    → t.session_on x0.message.connection ≡ Some x0.message.session_id → t.present x0.message.session_id ≡ true
present_of c conns t a k g x0 w on = w.serving.low.fits.on_present x0.message.connection x0.message.session_id on

-- a verdict that changes nothing
quiet_lock : (c : Client) (conns : ℕ → Conn) (t : Server) (a : ℕ → ℕ) (k g : ℕ) (x0 : Sent) (now : ℕ) (v : Verdict)
    (rs : List Record) → Copy c conns t a k g x0 → (v ≡ check t x0.message) ⊎ (v ≡ without_room (check t x0.message))
    → is_slot_verdict v ≡ false
    → (apply t x0.message now v).records ≡ [] → (apply t x0.message now v).acted ≡ false
    → Locks c conns (recorded (apply t x0.message now v) rs).server
    (counted a x0.token (apply t x0.message now v).acted)
quiet_lock c conns t a k g x0 now v rs w is off bare quiet =
    quiet_serve c conns t a k x0 now v rs (counted a x0.token (apply t x0.message now v).acted) w.serving
    (found t x0.message v is) off (λ _. inl bare)
    (plain_other c conns t a k x0 _ w.serving (λ p m. ap (is_send_of p) w.token ∙ of_unmade c g p (lock_kind (c.op g) w.lock) m))
    (λ p m. not_acted a x0.token (apply t x0.message now v).acted p quiet)
    (λ h m s0 u lv p st cl off2. let n = no_close x0.message.command (open_at c g) (c.slot_of g) (c.number_of g)
    (open_at c h) (elements_in (c.op g)) w.command in absurd (grind arith))
    (λ j n h y e1 e2 ok lv p st cl off2. let n1 = no_close x0.message.command (open_at c g) (c.slot_of g)
    (c.number_of g) (open_at c h) (elements_in (c.op g)) w.command in absurd (grind arith))

sole_idle : (c : Client) (conns : ℕ → Conn) (t : Server) (a : ℕ → ℕ) (k g : ℕ) (x0 : Sent) → Copy c conns t a k g x0
    → c.unanswered g ≡ false → a g ≡ 0
sole_idle c conns t a k g x0 w bf = (w.serving.links.first k 0 g x0 w.serving.front w.token (lock_once (c.op g) w.lock) bf).1

count_same : (a : ℕ → ℕ) (tk : Token) (g n : ℕ) → a g ≡ n → counted a tk false g ≡ n
count_same a tk g n e = grind arith

same_number : (x : ℕ) → (x == x) ≡ true
same_number x = grind arith

all_hold : (b : Bool) (u : Option ℕ) (x y z : ℕ) → b ≡ true → u ≡ Some x → y ≡ z → ((b && is_at x u) && (y == z)) ≡ false → true ≡ false
all_hold b u x y z e f g h =
    let t : ((b && is_at x u) && (y == z)) ≡ true = rw (e, f, g) (both (x == x) (z == z) (same_number x) (same_number z)) in sym t ∙ h

-- the open of a copy that isn't attached to its session is gone
away_gone : (c : Client) (conns : ℕ → Conn) (t : Server) (a : ℕ → ℕ) (k g : ℕ) (x0 : Sent) → Copy c conns t a k g x0
    → t.present x0.message.session_id ≡ true → is_of_tree t (open_at c g) x0.message.session_id x0.message.tree_id ≡ false
    → t.standing (open_at c g) ≡ false
away_gone c conns t a k g x0 w p off =
    elim (t.standing (open_at c g)) as (λ b. t.standing (open_at c g) ≡ b → t.standing (open_at c g) ≡ false) [
      | true ↦ λ st. let at1 = w.serving.locks.copy_attached k 0 g x0 w.serving.front w.token
          (lock_kind (c.op g) w.lock) p st in
          absurd (let x = all_hold (t.standing (open_at c g)) (t.session_of_open (open_at c g)) x0.message.session_id
          (t.tree_of_open (open_at c g)) x0.message.tree_id st at1 (w.serving.own_tree (ap is_ops w.token) (open_at c g) at1) off in cc)
      | false ↦ λ st. st
    ] refl

unsettled_on : (c : Client) (g k : ℕ) → ((h : ℕ) → is_unsettled (c.outcome h) ≡ false → c.outstanding_on h ≡ None)
    → c.outstanding_on g ≡ Some k → is_unsettled (c.outcome g) ≡ true
unsettled_on c g k f e = elim (is_unsettled (c.outcome g)) as (λ b. is_unsettled (c.outcome g) ≡ b
    → is_unsettled (c.outcome g) ≡ true) [ true ↦ λ q. q | false ↦ λ q. let h = f g q in absurd (grind arith) ] refl

away_idle : (c : Client) (conns : ℕ → Conn) (t : Server) (a : ℕ → ℕ) (k g : ℕ) (x0 : Sent) → Copy c conns t a k g x0
    → t.present x0.message.session_id ≡ true → t.standing (open_at c g) ≡ false → (conns k).client_open ≡ true → a g ≡ 0
away_idle c conns t a k g x0 w p off o =
    let C = w.serving.links in let i = w.serving.locks in
    let cur = w.serving.current (ap is_ops w.token) o in
    let bd = C.bodies k 0 g x0 w.serving.front w.token in let tn = C.taken g bd.0 in
    let on1 = up_on c conns C.outstanding k 0 g x0 w.serving.front w.token tn.0 o in
    let now = i.copy_now k 0 g x0 w.serving.front w.token (lock_kind (c.op g) w.lock) p cur.0 in
    i.closed_not g w.lock bd.0 (unsettled_on c g k C.settled on1) cur.0 now.0 (subst (λ z. t.present z ≡ true) cur.1 p) off

lock_persistent : (t : Server) (m : Message) (o i n st : ℕ) (es : List Element) → (t.opened o).persistent ≡ true
    → lock_records t m o i n st es ≡ LockRecord (origin_of m) o (recorded_index i) n st es ∷ []
unfolding lock_records
lock_persistent t m o i n st es e = grind arith

refused_not : (st : ℕ) → (st == success) ≡ false → false ≡ (st == success)
refused_not st e = sym e

grown_by : (n m : ℕ) → n ≤ n + m
grown_by n m = omega arith

kept_put : (f : ℕ → ℕ → Option Kept) (o i n st : ℕ)
    → is_some (kept_at (put2 f o i (Some (record { number = n; status = st })) o i) n) ≡ true
kept_put f o i n st = let x : put2 f o i (Some (record { number = n; status = st })) o i ≡ Some (record {
  number = n;
  status = st;
}) = grind arith in ap (λ z. is_some (kept_at z n)) x ∙ ap (λ z. is_some z) (kept_same n st)

says_count : (b : ℕ → ℕ) (g st : ℕ) → (st == success) ≡ false → b g ≡ (if st == success then 1 else 0) → b g ≡ 0
says_count b g st e f = grind arith

-- where its records fit
pub lock_fits : (c : Client) (conns : ℕ → Conn) (d t : Server) (a : ℕ → ℕ) (k g : ℕ) (x0 : Sent) (now : ℕ)
    (front : List Record) (v : Verdict) → Copy c conns t a k g x0 → Limit d → t.journal ≡ d.journal → v ≡ check t x0.message
    → fits d (front ++ (apply t x0.message now v).records) ≡ true
    → LockSees t x0.message (open_at c g) (c.slot_of g) (c.number_of g) (elements_in (c.op g)) v
    → Served c conns a k x0 (recorded (apply t x0.message now v) (front ++ (apply t x0.message now v).records))
lock_fits c conns d t a k g x0 now front v w whole same is room Deleted = (
  quiet_lock c conns t a k g x0 now v _ w (inl is) refl refl refl,
  λ o place. say_lock c _ _ g _ w.token w.lock (record {
    ok = λ s. absurd (cc);
    no = λ n1 n2. absurd (n2 refl);
    kept = λ n2. absurd (n2 refl);
    first = λ n1 bf. count_same a x0.token g 0 (sole_idle c conns t a k g x0 w bf);
  }),
)
lock_fits c conns d t a k g x0 now front v w whole same is room (NoTree on e) =
    let p = present_of c conns t a k g x0 w on in let tr = w.serving.trees (ap is_ops w.token) p in absurd (grind arith)
lock_fits c conns d t a k g x0 now front v w whole same is room (Away on e) =
    let p = present_of c conns t a k g x0 w on in let off = away_gone c conns t a k g x0 w p e in (
      quiet_lock c conns t a k g x0 now v _ w (inl is) refl refl refl,
      λ o place. say_lock c _ _ g _ w.token w.lock (record {
        ok = λ s. absurd (cc);
        no = λ n1 n2 n4. count_same a x0.token g 0 (away_idle c conns t a k g x0 w p off o);
        kept = λ n2 n4 st. absurd (let x = clash (t.standing (open_at c g)) off st in cc);
        first = λ n1 bf. count_same a x0.token g 0 (sole_idle c conns t a k g x0 w bf);
      }),
    )
lock_fits c conns d t a k g x0 now front v w whole same is room (Done on st e) =
    let p = present_of c conns t a k g x0 w on in let user = w.serving.locks.users k 0 g x0 w.serving.front w.token w.lock p in (
      quiet_lock c conns t a k g x0 now v _ w (inl is) refl refl refl,
      λ o place. say_lock c _ _ g _ w.token w.lock (record {
        ok = λ s. count_same a x0.token g 1 (w.serving.locks.kept_says g success user st e);
        no = λ n1. absurd (n1 refl);
        kept = λ n2 n4 st2. ap (λ z. is_some z) e;
        first = λ n1. absurd (n1 refl);
      }),
    )
lock_fits c conns d t a k g x0 now front v w whole same is room (Again status on st e bad) =
    let p = present_of c conns t a k g x0 w on in let user = w.serving.locks.users k 0 g x0 w.serving.front w.token w.lock p in
    let idle = says_count a g status bad (w.serving.locks.kept_says g status user st e) in (
      quiet_lock c conns t a k g x0 now v _ w (inl is) refl refl refl,
      λ o place. say_lock c _ _ g _ w.token w.lock (record {
        ok = λ s. absurd (let x = is_it status bad s in cc);
        no = λ n1 n2 n4. count_same a x0.token g 0 idle;
        kept = λ n2 n4 st2. ap (λ z. is_some z) e;
        first = λ n1 bf. count_same a x0.token g 0 idle;
      }),
    )
  where
    is_it : (st : ℕ) → (st == success) ≡ false → st ≡ success → true ≡ false
    is_it st e f = grind arith
lock_fits c conns d t a k g x0 now front v w whole same is room (Refused status on st free bad) =
    let p = present_of c conns t a k g x0 w on in
    let m = x0.message in let o1 = open_at c g in let es = elements_in (c.op g) in
    let roomy : (t.opened o1).persistent ≡ true → t.journal + 66 ≤ lower_limit = λ pe. subst (λ z. z + 66 ≤ lower_limit)
    (sym same) (room_for_lock d front (origin_of m) o1 (recorded_index (c.slot_of g)) (c.number_of g) status es whole
    (one_element (c.op g) w.lock)
    (subst (λ z. fits d (front ++ z) ≡ true) (lock_persistent t m o1 (c.slot_of g) (c.number_of g) status es pe)
    room)) in
    let j0 = t.journal + entry_bytes (front ++ lock_records t m o1 (c.slot_of g) (c.number_of g) status es) in
    let idle = says_count (counted a (ForOp g) false) g status bad
    (own_count a g status false (w.serving.locks.not_kept g (w.serving.locks.users k 0 g x0 w.serving.front w.token
    w.lock p) st free) (sym bad)) in (
      subst (λ z. Locks c conns (recorded (apply t m now v) (front ++ (apply t m now v).records)).server (counted a z false)) (sym w.token)
          (journal_of c conns t m o1 status front (lock_records t m o1 (c.slot_of g) (c.number_of g) status es)
          (counted a (ForOp g) false) w.slot
          (λ sq. lock_written c conns t a k g status j0 x0 sq t.ranges false w.serving w.token w.lock p st free
          (grown_by t.journal _) roomy (sym bad))),
      λ o place. say_lock c _ _ g _ w.token w.lock (record {
        ok = λ s. absurd (let x = is_it status bad s in cc);
        no = λ n1 n2 n4. subst (λ z. counted a z false g ≡ 0) (sym w.token) idle;
        kept = λ n2 n4 st2. slot_written t m (λ u. is_some (kept_at (u.lock_sequences o1 (c.slot_of g)) (c.number_of g))
            ≡ true) o1 (c.slot_of g) (c.number_of g) status w.slot (λ sq. kept_put t.lock_sequences o1 (c.slot_of g)
            (c.number_of g) status);
        first = λ n1 bf. subst (λ z. counted a z false g ≡ 0) (sym w.token) idle;
      }),
    )
  where
    is_it : (st : ℕ) → (st == success) ≡ false → st ≡ success → true ≡ false
    is_it st e f = grind arith

    journal_of : (c : Client) (conns : ℕ → Conn) (t : Server) (m : Message) (o1 st1 : ℕ) (front rs : List Record)
        (b : ℕ → ℕ) → is_slot (c.slot_of g) ≡ true
        → ((sq : ℕ → ℕ) → Locks c conns (record t {
          sequence = sq;
          ranges = t.ranges;
          lock_sequences = put2 t.lock_sequences o1 (c.slot_of g) (Some (record {
            number = c.number_of g;
            status = st1;
          }));
          journal = t.journal + entry_bytes (front ++ rs);
        }) b)
        → Locks c conns (record (keep_slot (reach t m o1) o1 (c.slot_of g) (c.number_of g) st1) {
          journal = (keep_slot (reach t m o1) o1 (c.slot_of g) (c.number_of g) st1).journal + entry_bytes
              (front ++ rs);
        }) b
    journal_of c conns t m o1 st1 front rs b slot f = slot_written t m (λ u. Locks c conns (record u {
      journal = u.journal + entry_bytes (front ++ rs);
    }) b) o1 (c.slot_of g) (c.number_of g) st1 slot f
lock_fits c conns d t a k g x0 now front v w whole same is room (Granted ranges on st free) =
    let p = present_of c conns t a k g x0 w on in
    let m = x0.message in let o1 = open_at c g in let es = elements_in (c.op g) in
    let roomy : (t.opened o1).persistent ≡ true → t.journal + 66 ≤ lower_limit = λ pe. subst (λ z. z + 66 ≤ lower_limit)
    (sym same) (room_for_lock d front (origin_of m) o1 (recorded_index (c.slot_of g)) (c.number_of g) success es whole
    (one_element (c.op g) w.lock)
    (subst (λ z. fits d (front ++ z) ≡ true) (lock_persistent t m o1 (c.slot_of g) (c.number_of g) success es pe)
    room)) in
    let j0 = t.journal + entry_bytes (front ++ lock_records t m o1 (c.slot_of g) (c.number_of g) success es) in
    let one = own_count a g success true
    (w.serving.locks.not_kept g (w.serving.locks.users k 0 g x0 w.serving.front w.token w.lock p) st free) refl in (
      subst (λ z. Locks c conns (recorded (apply t m now v) (front ++ (apply t m now v).records)).server (counted a z true)) (sym w.token)
          (journal_of c conns t m o1 (file_of t o1) ranges front (lock_records t m o1 (c.slot_of g) (c.number_of g)
          success es) (counted a (ForOp g) true) w.slot
          (λ sq. lock_written c conns t a k g success j0 x0 sq (put t.ranges (file_of t o1) ranges) true w.serving
          w.token w.lock p st free (grown_by t.journal _) roomy refl)),
      λ o place. say_lock c _ _ g _ w.token w.lock (record {
        ok = λ s. subst (λ z. counted a z true g ≡ 1) (sym w.token) one;
        no = λ n1. absurd (n1 refl);
        kept = λ n2 n4 st2. ranges_written t m
            (λ u. is_some (kept_at (u.lock_sequences o1 (c.slot_of g)) (c.number_of g)) ≡ true) o1 (c.slot_of g)
            (c.number_of g) (file_of t o1) ranges w.slot (λ sq. kept_put t.lock_sequences o1 (c.slot_of g)
            (c.number_of g) success);
        first = λ n1. absurd (n1 refl);
      }),
    )
  where
    journal_of : (c : Client) (conns : ℕ → Conn) (t : Server) (m : Message) (o1 f0 : ℕ) (ranges : List Range)
        (front rs : List Record) (b : ℕ → ℕ) → is_slot (c.slot_of g) ≡ true
        → ((sq : ℕ → ℕ) → Locks c conns (record t {
          sequence = sq;
          ranges = put t.ranges f0 ranges;
          lock_sequences = put2 t.lock_sequences o1 (c.slot_of g) (Some (record {
            number = c.number_of g;
            status = success;
          }));
          journal = t.journal + entry_bytes (front ++ rs);
        }) b)
        → Locks c conns (record (keep_slot (set_ranges (reach t m o1) f0 ranges) o1 (c.slot_of g) (c.number_of g)
        success) {
          journal = (keep_slot (set_ranges (reach t m o1) f0 ranges) o1 (c.slot_of g) (c.number_of g)
              success).journal + entry_bytes (front ++ rs);
        }) b
    journal_of c conns t m o1 f0 ranges front rs b slot f = ranges_written t m (λ u. Locks c conns (record u {
      journal = u.journal + entry_bytes (front ++ rs);
    }) b) o1 (c.slot_of g) (c.number_of g) f0 ranges slot f

-- DISK_FULL in their place
full_down : (c : Client) (conns : ℕ → Conn) (d : Server) (a : ℕ → ℕ) (k g : ℕ) (x0 : Sent) (now : ℕ) (v : Verdict)
    → Copy c conns d a k g x0 → v ≡ without_room (check d x0.message) → v ≡ TurnDown (open_at c g) disk_full
    → Served c conns a k x0 (recorded (apply d x0.message now v) (apply d x0.message now v).records)
full_down c conns d a k g x0 now v w is e =
    subst (λ z. Served c conns a k x0 (recorded (apply d x0.message now z) (apply d x0.message now z).records)) (sym e) (
      quiet_lock c conns d a k g x0 now (TurnDown (open_at c g) disk_full) [] w (inr (sym e ∙ is)) refl refl refl,
      λ o place. say_lock c _ _ g _ w.token w.lock (record {
        ok = λ s. absurd (cc);
        no = λ n1 n2 n4. absurd (n4 refl);
        kept = λ n2 n4. absurd (n4 refl);
        first = λ n1 bf. count_same a x0.token g 0 (sole_idle c conns d a k g x0 w bf);
      }),
    )

-- where they don't
pub no_unfit : (d : Server) → fits d [] ≡ false → true ≡ false
unfolding fits
no_unfit d e = e

pub lock_full : (c : Client) (conns : ℕ → Conn) (d : Server) (a : ℕ → ℕ) (k g : ℕ) (x0 : Sent) (now : ℕ) (u v : Verdict)
    → Copy c conns d a k g x0 → u ≡ check d x0.message → v ≡ without_room u → fits d (apply d x0.message now u).records
    ≡ false
    → LockSees d x0.message (open_at c g) (c.slot_of g) (c.number_of g) (elements_in (c.op g)) u
    → Served c conns a k x0 (recorded (apply d x0.message now v) (apply d x0.message now v).records)
lock_full c conns d a k g x0 now u v w is e room Deleted = absurd (let x = no_unfit d room in cc)
lock_full c conns d a k g x0 now u v w is e room (NoTree on t) = absurd (let x = no_unfit d room in cc)
lock_full c conns d a k g x0 now u v w is e room (Away on t) = absurd (let x = no_unfit d room in cc)
lock_full c conns d a k g x0 now u v w is e room (Done on st t) = absurd (let x = no_unfit d room in cc)
lock_full c conns d a k g x0 now u v w is e room (Again status on st t bad) = absurd (let x = no_unfit d room in cc)
lock_full c conns d a k g x0 now u v w is e room (Refused status on st free bad) = full_down c conns d a k g x0 now v w
    (e ∙ ap without_room is) e
lock_full c conns d a k g x0 now u v w is e room (Granted ranges on st free) = full_down c conns d a k g x0 now v w
    (e ∙ ap without_room is) e
