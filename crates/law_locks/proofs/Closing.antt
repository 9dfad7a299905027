-- The server takes a copy of a close.
use Rattle.std.proofs.Common.{eqb-true, ◌≡◌, ◌≢◌, ◌⊎◌, inl, inr, ℕ, ◌+◌, ◌<◌, nat_lt, Bool, true, false, List, []}
use Rattle.std.proofs.Common.{◌++◌, refl, arith, sym, ◌∙◌, ap, subst}
use Rattle.std.proofs.lemmas.Bool.Decides.{nat_tests}
use Rattle.spec_exchange.specs.Table.{put}
use Rattle.spec_exchange.specs.Status.{success, user_session_deleted, disk_full, file_closed}
use Rattle.spec_exchange.specs.Commands.{Command, Close}
use Rattle.spec_exchange.specs.State.{Server, Message, Record, Empty}
use Rattle.spec_exchange.specs.Opens.{leave_records}
use Rattle.spec_exchange.specs.CheckOpen.{is_late}
use Rattle.spec_exchange.specs.Check.{check}
use Rattle.spec_exchange.specs.Records.{lower_limit, fits, entry_bytes, origin_of}
use Rattle.spec_exchange.specs.Effects.{apply, reach}
use Rattle.spec_exchange.specs.Step.{without_room}
use Rattle.spec_exchange.specs.Operations.{Op, is_unsettled, is_ok}
use Rattle.spec_exchange.specs.Client.{Client, guid_for}
use Rattle.spec_exchange.specs.Network.{Conn, Sent, Received, ForOp}
use Rattle.spec_exchange.specs.Runs.{is_send_of}
use Rattle.spec_exchange.specs.Verdict.{Verdict, TurnDown, CloseOpen}
use Rattle.law_sessions.specs.messages.Connections.{makes_open, shuts_open, create_at, its_request}
use Rattle.law_server.specs.tables.Fits.{Limit}
use Rattle.law_server.proofs.tables.Logic.{either}
use Rattle.law_server.proofs.tables.Doors.{recorded}
use Rattle.law_server.proofs.tables.Checked.{found}
use Rattle.law_sessions.specs.sessions.Sessions.{is_ops}
use Rattle.law_locks.specs.Locks.{Locks, locking, open_at, is_stuck}
use Rattle.law_locks.proofs.Words.{lock_kind, lock_stays, close_kind, ok_of, made_of}
use Rattle.law_locks.proofs.Views.{reach_view, shut_view}
use Rattle.law_locks.proofs.Verdicts.{closes_in, is_slot_verdict}
use Rattle.law_locks.proofs.Rooms.{full_persistent, full_plain, stuck_fits}
use Rattle.law_locks.proofs.Calm.{Ending}
use Rattle.law_locks.proofs.Steady.{ends_of, big_apply}
use Rattle.law_locks.proofs.Sees.{CloseSees, Deleted2, NoTree2, Away2, Shuts}
use Rattle.law_locks.proofs.Serving.{Serving, Served, counted, not_sent, of_other, of_unmade, plain_other, quiet_serve}
use Rattle.law_locks.proofs.Locking.{same_file, stuck_same, same_op, not_ask, clash, no_unfit}
use Rattle.law_locks.proofs.Say.{MaySay}

close_request : (op : Op) (guid file slot number : ℕ) → shuts_open op ≡ true → its_request op guid file slot number ≡ Close file false
unfolding shuts_open its_request
close_request op guid file slot number e = grind arith

close_unlocked : (op : Op) → shuts_open op ≡ true → locking op ≡ false
unfolding shuts_open locking
close_unlocked op e = grind arith

pub record Copy (c : Client) (conns : ℕ → Conn) (t : Server) (a : ℕ → ℕ) (k h : ℕ) (x0 : Sent) : Type 0 where
  pub serving : Serving c conns t a k x0
  pub token : x0.token ≡ ForOp h
  pub shuts : shuts_open (c.op h) ≡ true
  pub command : x0.message.command ≡ Close (open_at c h) false
  pub sent : c.sent h ≡ true
  pub ok : is_ok (c.outcome (create_at c h)) ≡ true
  pub made : makes_open (c.op (create_at c h)) ≡ true

pub copy_of : (c : Client) (conns : ℕ → Conn) (t : Server) (a : ℕ → ℕ) (k h : ℕ) (x0 : Sent) → Serving c conns t a k x0
    → x0.token ≡ ForOp h → shuts_open (c.op h) ≡ true → Copy c conns t a k h x0
copy_of c conns t a k h x0 w tk sh =
    let bd = w.links.bodies k 0 h x0 w.front tk in let kind = close_kind (c.op h) sh in
    record {
      serving = w;
      token = tk;
      shuts = sh;
      command = bd.1 ∙ close_request (c.op h) (guid_for c h) (c.file (create_at c h)) (c.slot_of h) (c.number_of h) sh;
      sent = bd.0;
      ok = ok_of c w.links.has_open h bd.0 kind;
      made = made_of c w.links.taken w.links.creates h bd.0 kind;
    }

-- ---- what is said of its reply

pub record Says (c : Client) (u : Server) (h status : ℕ) : Type 0 where
  pub done : status ≡ success → u.standing (open_at c h) ≡ false
  pub full : status ≢ user_session_deleted → status ≢ file_closed → u.standing (open_at c h) ≡ true
      → (u.opened (open_at c h)).persistent ≡ true → lower_limit < u.journal + 66
  pub stuck : status ≢ user_session_deleted → status ≢ file_closed → u.standing (open_at c h) ≡ true
      → (u.opened (open_at c h)).persistent ≡ false → is_stuck u (open_at c h) ≡ true

pub say_close : (c : Client) (u : Server) (b : ℕ → ℕ) (h : ℕ) (y0 : Received) → y0.token ≡ ForOp h → shuts_open (c.op h)
    ≡ true → Says c u h y0.reply.status → MaySay c u b y0
say_close c u b h y0 tk sh s =
    let kind = close_kind (c.op h) sh in let lk = close_unlocked (c.op h) sh in
    record {
      of_ask_down = λ g e. absurd (let x = not_ask h g y0.token tk e in cc);
      of_opened_reply = λ g e m.
          absurd (let x = clash (makes_open (c.op g)) (subst (λ z. makes_open (c.op z) ≡ false)
          (same_op h g y0.token tk e) kind) m in cc);
      of_join_reply = λ g e. absurd (let x = not_ask h g y0.token tk e in cc);
      of_joined_reply = λ g e. absurd (let x = not_ask h g y0.token tk e in cc);
      of_lost_reply = λ g e. absurd (let x = not_ask h g y0.token tk e in cc);
      of_ok_reply = λ g e m.
          absurd (let x = clash (locking (c.op g)) (subst (λ z. locking (c.op z) ≡ false) (same_op h g y0.token tk e)
          lk) m in cc);
      of_no_reply = λ g e m.
          absurd (let x = clash (locking (c.op g)) (subst (λ z. locking (c.op z) ≡ false) (same_op h g y0.token tk e)
          lk) m in cc);
      of_kept_reply = λ g e m.
          absurd (let x = clash (locking (c.op g)) (subst (λ z. locking (c.op z) ≡ false) (same_op h g y0.token tk e)
          lk) m in cc);
      of_first_reply = λ g e m.
          absurd (let x = clash (locking (c.op g)) (subst (λ z. locking (c.op z) ≡ false) (same_op h g y0.token tk e)
          lk) m in cc);
      of_close_done = λ g e m st. subst (λ z. u.standing (open_at c z) ≡ false) (same_op h g y0.token tk e) (s.done st);
      of_close_full = λ g e m n1 n2. subst (λ z. u.standing (open_at c z) ≡ true → (u.opened (open_at c z)).persistent
          ≡ true → lower_limit < u.journal + 66) (same_op h g y0.token tk e) (s.full n1 n2);
      of_close_stuck = λ g e m n1 n2. subst (λ z. u.standing (open_at c z) ≡ true → (u.opened (open_at c z)).persistent
          ≡ false → is_stuck u (open_at c z) ≡ true) (same_op h g y0.token tk e)
          (s.stuck n1 n2);
    }

-- ---- verdict by verdict

counts : (c : Client) (conns : ℕ → Conn) (t : Server) (a : ℕ → ℕ) (k h : ℕ) (x0 : Sent) (acted : Bool)
    → Copy c conns t a k h x0 → (p : ℕ) → locking (c.op p) ≡ true → counted a x0.token acted p ≡ a p
counts c conns t a k h x0 acted w p m = not_sent a x0.token acted p (ap (is_send_of p) w.token
    ∙ of_other c h p (close_unlocked (c.op h) w.shuts) m)

-- a verdict by which no open leaves
quiet_close : (c : Client) (conns : ℕ → Conn) (t : Server) (a : ℕ → ℕ) (k h : ℕ) (x0 : Sent) (now : ℕ) (v : Verdict)
    (rs : List Record) → Copy c conns t a k h x0 → (v ≡ check t x0.message) ⊎ (v ≡ without_room (check t x0.message))
    → is_slot_verdict v ≡ false
    → (apply t x0.message now v).records ≡ [] → (apply t x0.message now v).server.standing ≡ t.standing
    → Locks c conns (recorded (apply t x0.message now v) rs).server
    (counted a x0.token (apply t x0.message now v).acted)
quiet_close c conns t a k h x0 now v rs w is off bare same =
    quiet_serve c conns t a k x0 now v rs (counted a x0.token (apply t x0.message now v).acted) w.serving
    (found t x0.message v is) off (λ _. inl bare) (plain_other c conns t a k x0 _ w.serving
    (λ p m. ap (is_send_of p) w.token ∙ of_unmade c h p (close_kind (c.op h) w.shuts) m))
    (counts c conns t a k h x0 (apply t x0.message now v).acted w)
    (λ g m s0 u lv p st cl gone. absurd (let x = clash _ gone (ap (λ z. z (open_at c g)) same ∙ st) in cc))
    (λ j n g y e1 e2 ok lv p st cl gone. absurd (let x = clash _ gone (ap (λ z. z (open_at c g)) same ∙ st) in cc))

closes_same : (x : Command) (o p : ℕ) → x ≡ Close o false → closes_in x p ≡ true → o ≡ p
unfolding closes_in
closes_same x o p e f = eqb-true o p (sym (ap (λ z. closes_in z p) e) ∙ f)

apart : (c : Client) (g h : ℕ) → locking (c.op g) ≡ true → shuts_open (c.op h) ≡ true → g ≢ h
apart c g h m s = λ e. let l = lock_stays (c.op g) m in absurd (grind arith)

settled_not : (b : Bool) → b ≡ true → b ≡ false → true ≡ false
settled_not b e f = sym e ∙ f

-- a lock that is unsettled where the open is closed never acted
shut_idle : (c : Client) (conns : ℕ → Conn) (d t : Server) (a : ℕ → ℕ) (k h g : ℕ) (x0 : Sent) (front : List Record)
    → Copy c conns t a k h x0 → Limit d → t.journal ≡ d.journal
    → fits d (front ++ leave_records t (origin_of x0.message) (open_at c h)) ≡ true → t.present x0.message.session_id
    ≡ true
    → locking (c.op g) ≡ true → c.sent g ≡ true → is_unsettled (c.outcome g) ≡ true → c.live ≡ true
    → t.standing (open_at c h) ≡ true → create_at c h ≡ create_at c g → a g ≡ 0
shut_idle c conns d t a k h g x0 front w whole same room p m s0 un lv st its =
    let i = w.serving.locks in let C = w.serving.links in
    let tg = C.taken g s0 in let th = C.taken h w.sent in let kind = lock_kind (c.op g) m in
    elim (nat_lt h g) as (λ b. nat_lt h g ≡ b → a g ≡ 0) [
      | true ↦ λ l. let cb = i.close_before g h s0 kind th.0 (below h g l) its w.shuts in
          by_kind cb.0 cb.1 (below h g l) (t.opened (open_at c h)).persistent refl
      | false ↦ λ l. absurd (let x = settled_not (is_unsettled (c.outcome g)) un
          (i.close_after h g w.sent w.shuts tg.0 (above h g l (apart c g h m w.shuts)) (sym its) kind) in cc)
    ] refl
  where
    below : (h g : ℕ) → nat_lt h g ≡ true → h < g
    below h g l = grind (arith, nat_tests)

    above : (h g : ℕ) → nat_lt h g ≡ false → g ≢ h → g < h
    above h g l d = grind (arith, nat_tests)

    by_kind : is_unsettled (c.outcome h) ≡ false → is_ok (c.outcome h) ≡ false → h < g → (b : Bool)
        → (t.opened (open_at c h)).persistent ≡ b → a g ≡ 0
    by_kind se no1 l true pe = w.serving.locks.left_idle k 0 h g x0 w.serving.front w.token w.shuts p lv se no1 st pe m (sym its) l
    by_kind se no1 l false pe =
        let ls = w.serving.locks.left_stuck k 0 h x0 w.serving.front w.token w.shuts p lv se no1 st pe in
        absurd (let x = stuck_fits d t front (origin_of x0.message) (open_at c h) whole same
        (w.serving.low.fits.open_files (open_at c h) st) pe (w.serving.locks.kept_files (open_at c h) st) ls room in cc)

left_standing : (t : Server) (m : Message) (o : ℕ) → (apply t m 0 (CloseOpen o Empty)).server.standing o ≡ false
left_standing t m o = ap (λ z. z.standing o) (shut_view t o m.session_id) ∙ put_same t.standing o
  where
    put_same : (f : ℕ → Bool) (o : ℕ) → put f o false o ≡ false
    put_same f o = grind arith

pub close_fits : (c : Client) (conns : ℕ → Conn) (d t : Server) (a : ℕ → ℕ) (k h : ℕ) (x0 : Sent) (now : ℕ)
    (front : List Record) (v : Verdict) → Copy c conns t a k h x0 → Limit d → t.journal ≡ d.journal → v ≡ check t x0.message
    → fits d (front ++ (apply t x0.message now v).records) ≡ true
    → CloseSees t x0.message (open_at c h) v
    → Served c conns a k x0 (recorded (apply t x0.message now v) (front ++ (apply t x0.message now v).records))
close_fits c conns d t a k h x0 now front v w whole same is room Deleted2 = (
  quiet_close c conns t a k h x0 now v _ w (inl is) refl refl refl,
  λ o place. say_close c _ _ h _ w.token w.shuts (record {
    done = λ s. absurd (cc);
    full = λ n1. absurd (n1 refl);
    stuck = λ n1. absurd (n1 refl);
  }),
)
close_fits c conns d t a k h x0 now front v w whole same is room (NoTree2 on e) =
    let p = w.serving.low.fits.on_present x0.message.connection x0.message.session_id on in let tr =
    w.serving.trees (ap is_ops w.token) p in absurd (grind arith)
close_fits c conns d t a k h x0 now front v w whole same is room Away2 = (
  quiet_close c conns t a k h x0 now v _ w (inl is) refl refl refl,
  λ o place. say_close c _ _ h _ w.token w.shuts (record {
    done = λ s. absurd (cc);
    full = λ n1 n2. absurd (n2 refl);
    stuck = λ n1 n2. absurd (n2 refl);
  }),
)
close_fits c conns d t a k h x0 now front v w whole same is room (Shuts on st) =
    let m = x0.message in let o1 = open_at c h in let A = apply t m now v in
    let p = w.serving.low.fits.on_present m.connection m.session_id on in
    let full_ends : lower_limit < t.journal + 35 → Ending A.records (front ++ A.records) = λ full. ends_of d front A.records
    whole (big_apply t m now v) room (subst (λ z. lower_limit < z + 35) same full) in (
      quiet_serve c conns t a k x0 now v (front ++ A.records) (counted a x0.token A.acted) w.serving
          (found t m v (inl is)) refl full_ends (plain_other c conns t a k x0 A.acted w.serving
          (λ p mq. ap (is_send_of p) w.token ∙ of_unmade c h p (close_kind (c.op h) w.shuts) mq))
          (counts c conns t a k h x0 A.acted w)
          (λ g mg s0 u lv pr sg cl gone. let so = closes_same m.command o1 (open_at c g) w.command cl in let kind = lock_kind (c.op g) mg in
          shut_idle c conns d t a k h g x0 front w whole same room p mg s0 u lv st
          (same_file c conns t a w.serving.creates (create_at c h) (create_at c g) w.made w.ok
          (made_of c w.serving.links.taken w.serving.links.creates g s0 kind)
          (ok_of c w.serving.links.has_open g s0 kind) st so))
          (λ j n g y e1 e2 ok lv pr sg cl gone. let so = closes_same m.command o1 (open_at c g) w.command cl in
          let ad = w.serving.locks.ask_down j n g y e1 e2 in let cr = w.serving.links.creates g ad.0 ad.1 ad.2 in
          let its = same_file c conns t a w.serving.creates (create_at c h) (create_at c g) w.made w.ok cr.2 ad.3 st so in
          subst (λ z. c.attached z ≡ c.session_number) its (w.serving.locks.copy_now k 0 h x0 w.serving.front w.token
          (close_kind (c.op h) w.shuts) p lv).0),
      λ o place. say_close c _ _ h _ w.token w.shuts (record {
        done = λ s. left_standing t m o1;
        full = λ n1 n2 sd. absurd (let x = clash _ (left_standing t m o1) sd in cc);
        stuck = λ n1 n2 sd. absurd (let x = clash _ (left_standing t m o1) sd in cc);
      }),
    )

-- ---- where its records don't fit

reached_full : (d : Server) (m : Message) (o n : ℕ) → ((d.opened o).persistent ≡ true → lower_limit < d.journal + 66)
    → ((reach d m o).opened o).persistent ≡ true → lower_limit < (reach d m o).journal + n + 66
reached_full d m o n f pe = either (λ u. (u.opened o).persistent ≡ true → lower_limit < u.journal + n + 66)
    (is_late d m o) d (record d { sequence = put d.sequence o m.channel_sequence }) (λ _ e. more d.journal (f e))
    (λ _ e. more d.journal (f e)) pe
  where
    more : (j : ℕ) → lower_limit < j + 66 → lower_limit < j + n + 66
    more j l = omega (arith, l)

reached_stuck : (d : Server) (m : Message) (o n : ℕ) → ((d.opened o).persistent ≡ false → is_stuck d o ≡ true)
    → ((reach d m o).opened o).persistent ≡ false
    → is_stuck (record (reach d m o) { journal = (reach d m o).journal + n }) o ≡ true
reached_stuck d m o n f pe =
    either (λ u. (u.opened o).persistent ≡ false → is_stuck (record u { journal = u.journal + n }) o ≡ true) (is_late d m o) d
    (record d { sequence = put d.sequence o m.channel_sequence })
    (λ _ e. stuck_same d d.sequence d.ranges d.lock_sequences (d.journal + n) o (omega arith) (f e))
    (λ _ e. stuck_same d (put d.sequence o m.channel_sequence) d.ranges d.lock_sequences (d.journal + n) o (omega arith) (f e)) pe

close_down : (c : Client) (conns : ℕ → Conn) (d : Server) (a : ℕ → ℕ) (k h : ℕ) (x0 : Sent) (now : ℕ)
    → Copy c conns d a k h x0 → TurnDown (open_at c h) disk_full ≡ without_room (check d x0.message)
    → d.standing (open_at c h) ≡ true → fits d (leave_records d (origin_of x0.message) (open_at c h)) ≡ false
    → Served c conns a k x0 (recorded (apply d x0.message now (TurnDown (open_at c h) disk_full)) [])
close_down c conns d a k h x0 now w is st room =
    let m = x0.message in let o1 = open_at c h in (
      quiet_close c conns d a k h x0 now (TurnDown o1 disk_full) [] w (inr is) refl refl (ap (λ z. z.standing) (reach_view d m o1)),
      λ o place. say_close c _ _ h _ w.token w.shuts (record {
        done = λ s. absurd (cc);
        full = λ n1 n2 sd pe. reached_full d m o1 (entry_bytes []) (λ e. full_persistent d (origin_of m) o1 w.serving.low.fits.limit e room) pe;
        stuck = λ n1 n2 sd pe. reached_stuck d m o1 (entry_bytes [])
            (λ e. full_plain d (origin_of m) o1 w.serving.low.fits.limit e (w.serving.locks.kept_files o1 st) room) pe;
      }),
    )

pub close_full : (c : Client) (conns : ℕ → Conn) (d : Server) (a : ℕ → ℕ) (k h : ℕ) (x0 : Sent) (now : ℕ)
    (u v : Verdict) → Copy c conns d a k h x0 → u ≡ check d x0.message → v ≡ without_room u
    → fits d (apply d x0.message now u).records ≡ false
    → CloseSees d x0.message (open_at c h) u
    → Served c conns a k x0 (recorded (apply d x0.message now v) (apply d x0.message now v).records)
close_full c conns d a k h x0 now u v w is e room Deleted2 = absurd (let x = no_unfit d room in cc)
close_full c conns d a k h x0 now u v w is e room (NoTree2 on t) = absurd (let x = no_unfit d room in cc)
close_full c conns d a k h x0 now u v w is e room Away2 = absurd (let x = no_unfit d room in cc)
close_full c conns d a k h x0 now u v w is e room (Shuts on st) =
    subst (λ z. Served c conns a k x0 (recorded (apply d x0.message now z) (apply d x0.message now z).records)) (sym e)
    (close_down c conns d a k h x0 now w (ap without_room is) st room)
