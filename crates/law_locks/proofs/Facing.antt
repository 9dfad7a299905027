-- What is known where the server takes a message, and how an answer that carries out no lock keeps what holds of locks.
use Rattle.std.proofs.Common.{◌≡◌, ◌≢◌, ◌⊎◌, inl, inr, ℕ, ◌+◌, ◌≤◌, ◌<◌, Bool, true, false, if◌then◌else◌, List, []}
use Rattle.std.proofs.Common.{◌∷◌, Option, Some, None, slice_get, is_some, refl, arith, sym, ◌∙◌, ap, subst}
use Rattle.spec_exchange.specs.Table.{put}
use Rattle.spec_exchange.specs.Status.{success}
use Rattle.spec_exchange.specs.Commands.{deletes_on_close}
use Rattle.spec_exchange.specs.State.{Server}
use Rattle.spec_exchange.specs.Files.{set_delete_pending}
use Rattle.spec_exchange.specs.Opens.{drop_open, leave_open, pending_behind, goes, is_kept_back}
use Rattle.spec_exchange.specs.CheckSetup.{is_new}
use Rattle.spec_exchange.specs.Records.{lower_limit}
use Rattle.spec_exchange.specs.Step.{with_deadlines, due, due_in, is_past, expire, add_expired_guid}
use Rattle.spec_exchange.specs.Operations.{is_unsettled, is_ok, id_in}
use Rattle.spec_exchange.specs.Client.{Client, guid_for}
use Rattle.spec_exchange.specs.Network.{Conn, Received, ForOp, ForAttach}
use Rattle.law_sessions.specs.messages.Connections.{Connections, makes_open, create_at}
use Rattle.law_server.specs.tables.Fits.{Fits}
use Rattle.law_server.proofs.tables.Logic.{either}
use Rattle.law_server.proofs.tables.Doors.{Before}
use Rattle.law_server.proofs.tables.Applied.{expired_keeps, due_stands}
use Rattle.law_server.proofs.tables.SessionEffects.{deadlines_keeps}
use Rattle.law_sessions.specs.sessions.Sessions.{RankedUp}
use Rattle.law_locks.specs.Locks.{Locks, locking, open_at, piped}
use Rattle.law_locks.proofs.Views.{View, view, Quiet, same, leaves_by, without_guid, expire_view, still_named}
use Rattle.law_locks.proofs.Calm.{Steady, Steadies, steady_same}
use Rattle.law_locks.proofs.Steady.{stuck_on}
use Rattle.law_locks.proofs.Bare.{expire_steady}
use Rattle.law_locks.proofs.Rooms.{InFront}
use Rattle.law_locks.proofs.Moves.{moves_keeps}
use Rattle.law_locks.proofs.Words.{lock_kind, ok_of, made_of}

-- what the layers below say of this server
pub record Lower (c : Client) (conns : ℕ → Conn) (s : Server) : Type 0 where
  pub given : (q : ℕ) → makes_open (c.op q) ≡ true → is_ok (c.outcome q) ≡ true → c.file q ≤ (view s).last
  pub reply_given : (j n g : ℕ) (y : Received) → slice_get (conns j).down n ≡ Some y → y.token ≡ ForOp g
      → makes_open (c.op g) ≡ true → y.reply.status ≡ success → id_in y.reply.body ≤ (view s).last
  pub ranked_up : RankedUp c conns
  pub unranked : (j x : ℕ) → is_new x (s.making j) ≡ true → c.rank x ≡ 0
  pub lives : c.live ≡ true → 0 < c.rank c.session
  pub attached : (o y : ℕ) → s.session_of_open o ≡ Some y → o ≤ (view s).last × s.present y ≡ true
  pub named_given : (q o : ℕ) → s.by_guid c.who.guid (guid_for c q) ≡ Some o → o ≤ (view s).last
  pub fits : Fits s

never : (n : ℕ) → 0 < n → n ≡ 0 → true ≡ false
never n l e = absurd (omega (arith, l, e))

was_there : (c : Client) (begins closes : ℕ → Bool) (v u : View) → Quiet begins closes v u
    → ((x : ℕ) → begins x ≡ true → c.rank x ≡ 0) → (x : ℕ) → 0 < c.rank x → u.present x ≡ true → v.present x ≡ true
was_there c begins closes v u q un x ranked p = elim (v.present x) as (λ b. v.present x ≡ b → v.present x ≡ true) [
  | true ↦ λ e. e
  | false ↦ λ e. e ∙ sym (never (c.rank x) ranked (un x (q.present x p e)))
] refl

-- a server that moved quietly, but for the opens that the message closes
pub quiet_keeps : (c : Client) (conns : ℕ → Conn) (t : Server) (a : ℕ → ℕ) (u : Server) (a2 : ℕ → ℕ) (k : ℕ) (closes : ℕ → Bool)
    → Lower c conns t → Connections c conns a → ((p : ℕ) → locking (c.op p) ≡ true → a2 p ≡ a p)
    → Quiet (λ x. is_new x (t.making k)) closes (view t) (view u)
    → (lower_limit < t.journal + 35 → Steadies t u) → ((q : ℕ) → makes_open (c.op q) ≡ true → 1 ≤ a2 q → piped c.who.share
    ≡ false) → ((o : ℕ) → u.standing o ≡ true → deletes_on_close (u.opened o).options ≡ false)
    → ((g : ℕ) → locking (c.op g) ≡ true → c.sent g ≡ true → is_unsettled (c.outcome g) ≡ true → c.live ≡ true
    → u.present c.session ≡ true → t.standing (open_at c g) ≡ true → closes (open_at c g) ≡ true
    → u.standing (open_at c g) ≡ false → a g ≡ 0)
    → ((j n g : ℕ) (y : Received) → slice_get (conns j).down n ≡ Some y → y.token ≡ ForAttach g → y.reply.status
    ≡ success → c.live ≡ true → u.present c.session ≡ true → t.standing (open_at c g) ≡ true → closes (open_at c g)
    ≡ true → u.standing (open_at c g) ≡ false → c.attached (create_at c g) ≡ c.session_number)
    → Locks c conns t a → Locks c conns u a2
quiet_keeps c conns t a u a2 k closes l C same_a q steady plain keeps shut joined i =
    moves_keeps c conns t a u a2 same_a q.journal
    (λ j n x h o p. stay x.message.session_id (l.ranked_up j n x h o) p)
    stay_now
    (λ p m ok st. q.standing (c.file p) (l.given p m ok) st)
    (λ o y at st p. q.session_of_open o y (l.attached o y at).0 at st p)
    (λ p r m ok st. q.lock_sequences (c.file p) r (l.given p m ok))
    (λ p m ok st. ap (λ z. z.persistent) (q.opened (c.file p) (l.given p m ok)))
    (λ p m ok st pl g. stuck_on t u (c.file p) q.journal steady (q.opened (c.file p) (l.given p m ok))
    (i.kept_files (c.file p) (q.standing (c.file p) (l.given p m ok) st)) g)
    (λ p r o m ok e. unmade p r o m ok e)
    plain keeps
    (λ j n g y h e m ok st. q.standing (id_in y.reply.body) (l.reply_given j n g y h e m ok) st)
    (λ g m s0 un lv at1 p st off. closed_not g m s0 un lv at1 p st off)
    (λ j n g y h e ok lv p st off. joined_now j n g y h e ok lv p st off)
    C i
  where
    stay : (x : ℕ) → 0 < c.rank x → u.present x ≡ true → t.present x ≡ true
    stay x ranked p = was_there c (λ z. is_new z (t.making k)) closes (view t) (view u) q (l.unranked k) x ranked p

    stay_now : c.live ≡ true → u.present c.session ≡ true → t.present c.session ≡ true
    stay_now lv p = stay c.session (l.lives lv) p

    unmade : (p r o : ℕ) → makes_open (c.op p) ≡ true → is_ok (c.outcome p) ≡ false
        → u.by_guid c.who.guid (guid_for c p) ≡ Some o → u.lock_sequences o r ≡ None
    unmade p r o m ok e = of_named (q.named c.who.guid (guid_for c p) o r e)
      where
        of_named : (t.by_guid c.who.guid (guid_for c p) ≡ Some o) ⊎ (u.lock_sequences o r ≡ None) → u.lock_sequences o r ≡ None
        of_named (inl old) = q.lock_sequences o r (l.named_given p o old) ∙ i.no_slots p r o m ok old
        of_named (inr new) = new

    -- an open of the client's session stays, but where the message closes it
    still : (o : ℕ) → u.present c.session ≡ true → t.standing o ≡ true → t.session_of_open o ≡ Some c.session
        → u.standing o ≡ false → closes o ≡ true
    still o p st at off = elim (closes o) as (λ b. closes o ≡ b → closes o ≡ true) [
      | true ↦ λ e. e
      | false ↦ λ e. let x = q.lasts o c.session e st at p in absurd (grind arith)
    ] refl

    closed_not : (g : ℕ) → locking (c.op g) ≡ true → c.sent g ≡ true → is_unsettled (c.outcome g) ≡ true → c.live ≡ true
        → c.attached (create_at c g) ≡ c.session_number → u.present c.session ≡ true → t.standing (open_at c g) ≡ true
        → u.standing (open_at c g) ≡ false → a g ≡ 0
    closed_not g m s0 un lv at1 p st off =
        let lk = lock_kind (c.op g) m in let ok = ok_of c C.has_open g s0 lk in let mk = made_of c C.taken C.creates g s0 lk in
        shut g m s0 un lv p st (still (open_at c g) p st (i.now_attached (create_at c g) mk ok lv at1 (stay_now lv p) st) off) off

    joined_now : (j n g : ℕ) (y : Received) → slice_get (conns j).down n ≡ Some y → y.token ≡ ForAttach g
        → y.reply.status ≡ success → c.live ≡ true → u.present c.session ≡ true → t.standing (open_at c g) ≡ true
        → u.standing (open_at c g) ≡ false → c.attached (create_at c g) ≡ c.session_number
    joined_now j n g y h e ok lv p st off = joined j n g y h e ok lv p st
        (still (open_at c g) p st (i.join_reply j n g y h e ok lv (stay_now lv p) st) off) off

-- ---- an expiry in front

past_due : (deadline : ℕ → Option ℕ) (os : List ℕ) (now o : ℕ) → due_in deadline os now ≡ Some o → is_some (deadline o) ≡ true
unfolding due_in
past_due deadline [] now o e = absurd (cc)
past_due deadline (p ∷ os) now o e = elim (is_past now (deadline p)) as (λ b. is_past now (deadline p) ≡ b → is_some (deadline o) ≡ true) [
  | true ↦ λ h. let same : p ≡ o = grind arith in subst (λ z. is_some (deadline z) ≡ true) same (of_past (deadline p) h)
  | false ↦ λ h. past_due deadline os now o (grind arith)
] refl
  where
    of_past : (d : Option ℕ) → is_past now d ≡ true → is_some d ≡ true
    of_past None h = absurd (cc)
    of_past (Some d) h = refl

pub apart_due : (s : Server) (now o : ℕ) → Fits s → due s now ≡ Some o → s.session_of_open o ≡ None
apart_due s now o f e = of_deadline (s.deadline o) refl (past_due s.deadline s.opens now o e)
  where
    of_deadline : (d : Option ℕ) → s.deadline o ≡ d → is_some d ≡ true → s.session_of_open o ≡ None
    of_deadline None h x = absurd (cc)
    of_deadline (Some d) h x = f.deadlines o d h

drop_making : (s : Server) (o : ℕ) (b : Bool)
    → (drop_open (if b then set_delete_pending s (s.opened o).file true else s) o).making ≡ s.making
drop_making s o true = refl
drop_making s o false = refl

leave_making : (s : Server) (o : ℕ) → (leave_open s o).making ≡ s.making
leave_making s o =
    either (λ (u : Server). u.making ≡ s.making) (is_kept_back (drop_open (pending_behind s o) o) (s.opened o).file) _ _
    (λ _. drop_making s o (deletes_on_close (s.opened o).options))
    (λ _. either (λ (u : Server). u.making ≡ s.making) (goes (drop_open (pending_behind s o) o) (s.opened o).file) _ _
    (λ _. drop_making s o (deletes_on_close (s.opened o).options))
    (λ _. drop_making s o (deletes_on_close (s.opened o).options)))

expired_making : (s : Server) (client : ℕ) (q : Option ℕ) → (add_expired_guid s client q).making ≡ s.making
expired_making s client None = refl
expired_making s client (Some g) = refl

expire_making : (s : Server) (o : ℕ) → (expire s o).making ≡ s.making
expire_making s o = expired_making (leave_open s o) (s.opened o).client_guid (s.opened o).create_guid ∙ leave_making s o

none_of : ℕ → Bool
none_of o = false

abbrev Behind : Client → (ℕ → Conn) → (ℕ → ℕ) → Server → Type 0
Behind c conns a t = Lower c conns t × Locks c conns t a

due_keeps : (c : Client) (conns : ℕ → Conn) (s : Server) (a : ℕ → ℕ) (now : ℕ) → Lower c conns s → Connections c conns a
    → Locks c conns s a → Behind c conns a (with_deadlines s now)
unfolding none_of
due_keeps c conns s a now l C i = (
  record {
    given = l.given;
    reply_given = l.reply_given;
    ranked_up = l.ranked_up;
    unranked = l.unranked;
    lives = l.lives;
    attached = l.attached;
    named_given = l.named_given;
    fits = deadlines_keeps s now l.fits;
  },
  quiet_keeps c conns s a (with_deadlines s now) a 0 none_of l C (λ p m. refl)
      (same (λ x. is_new x (s.making 0)) none_of (view s) (view (with_deadlines s now)) refl)
      (λ _. inl (steady_same s (with_deadlines s now) refl refl refl refl refl))
      i.made_plain i.kept_files (λ g m s0 u lv p st e off. absurd (cc)) (λ j n g y h e ok lv p st x off. absurd (cc)) i,
)

expire_keeps : (c : Client) (conns : ℕ → Conn) (s : Server) (a : ℕ → ℕ) (now o : ℕ) → due s now ≡ Some o
    → (lower_limit < s.journal + 35 → Steady s (expire s o)) → Lower c conns s → Connections c conns a → Locks c conns s a
    → Behind c conns a (expire s o)
unfolding none_of
expire_keeps c conns s a now o e full l C i =
    let v = expire_view s o in let f = expired_keeps s now o e l.fits in let apart = apart_due s now o l.fits e in (
      record {
        given = λ q m ok. subst (λ z. c.file q ≤ z.last) (sym v) (l.given q m ok);
        reply_given = λ j n g y h t m ok. subst (λ z. id_in y.reply.body ≤ z.last) (sym v) (l.reply_given j n g y h t m ok);
        ranked_up = l.ranked_up;
        unranked = λ j x h. l.unranked j x (subst (λ z. is_new x (z j) ≡ true) (expire_making s o) h);
        lives = l.lives;
        attached = λ p y h. let old = l.attached p y (still_at p y (subst (λ z. z.session_of_open p ≡ Some y) v h)) in
            (subst (λ z. p ≤ z.last) (sym v) old.0, subst (λ z. z.present y ≡ true) (sym v) old.1);
        named_given = λ q p h. subst (λ z. p ≤ z.last) (sym v)
            (l.named_given q p (still_named s.by_guid (s.opened o).client_guid (s.opened o).create_guid c.who.guid
            (guid_for c q) p (subst (λ z. z.by_guid c.who.guid (guid_for c q) ≡ Some p) v h)));
        fits = f;
      },
      quiet_keeps c conns s a (expire s o) a 0 none_of l C (λ p m. refl)
          (subst (λ z. Quiet (λ x. is_new x (s.making 0)) none_of (view s) z) (sym v)
          (leaves_by (λ x. is_new x (s.making 0)) none_of (view s) o (without_guid s o)
          (λ p y n at. unattached p y at apart) (λ d g p h. still_named s.by_guid (s.opened o).client_guid
          (s.opened o).create_guid d g p h)))
          (λ big. inl (full big))
          i.made_plain
          (λ p st. let row : (expire s o).opened ≡ s.opened = ap (λ z. z.opened) v in let st2 : put s.standing o false p
          ≡ true = subst (λ z. z.standing p ≡ true) v st in subst (λ z. deletes_on_close (z p).options ≡ false)
          (sym row) (i.kept_files p (grind arith)))
          (λ g m s0 u lv p st e2 off. absurd (cc)) (λ j n g y h t ok lv p st x off. absurd (cc)) i,
    )
  where
    still_at : (p y : ℕ) → put s.session_of_open o None p ≡ Some y → s.session_of_open p ≡ Some y
    still_at p y h = grind arith

    unattached : (p y : ℕ) → s.session_of_open p ≡ Some y → s.session_of_open o ≡ None → p ≢ o
    unattached p y h n = λ same. absurd (grind arith)

-- an open that expired in front of an event on a full journal left the files as they were
front_steady : (s : Server) (now : ℕ) (t : Server) → Fits s
    → ((o : ℕ) → s.standing o ≡ true → deletes_on_close (s.opened o).options ≡ false) → InFront s now t
    → Steady (with_deadlines s now) t
front_steady s now t f kept (inl e) = subst (λ z. Steady (with_deadlines s now) z) (sym e)
    (steady_same (with_deadlines s now) (with_deadlines s now) refl refl refl refl refl)
front_steady s now t f kept (inr x) = subst (λ z. Steady (with_deadlines s now) z) (sym x.2)
    (expire_steady (with_deadlines s now) x.0 (kept x.0 (due_stands (with_deadlines s now) now x.0 x.1 f.listed)) x.3 x.4)

pub before_keeps : (c : Client) (conns : ℕ → Conn) (s : Server) (a : ℕ → ℕ) (now : ℕ) (t : Server) → Before s now t
    → (lower_limit < s.journal + 35 → InFront s now t) → Lower c conns s → Connections c conns a
    → Locks c conns s a → Behind c conns a t
before_keeps c conns s a now t (inl e) full l C i = subst (λ z. Behind c conns a z) (sym e) (due_keeps c conns s a now l C i)
before_keeps c conns s a now t (inr x) full l C i =
    let d = due_keeps c conns s a now l C i in
    subst (λ z. Behind c conns a z) (sym x.2) (expire_keeps c conns (with_deadlines s now) a now x.0 x.1
    (λ big. subst (λ z. Steady (with_deadlines s now) z) x.2 (front_steady s now t l.fits i.kept_files (full big))) d.0 C d.1)
