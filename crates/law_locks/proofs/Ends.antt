-- The server accepts a connection, hears of its end, or starts anew.
use Rattle.std.proofs.Common.{◌≡◌, ◌⊎◌, inl, inr, ℕ, ◌+◌, ◌≤◌, ◌<◌, nat_le, arith, Bool, true, false, List, [], ◌∷◌, ◌++◌, length}
use Rattle.std.proofs.Common.{Option, Some, None, refl, sym, subst}
use Rattle.spec_exchange.specs.State.{Server, ServerEvent, Accept, End, Answer, Record}
use Rattle.spec_exchange.specs.CheckSetup.{is_new}
use Rattle.spec_exchange.specs.Records.{lower_limit, fits, entry_bytes, origin_at}
use Rattle.spec_exchange.specs.Effects.{end_if_named, records_if_named, end_records}
use Rattle.spec_exchange.specs.Step.{step, event_answer, expiring, written_down, with_deadlines, due, expire}
use Rattle.spec_exchange.specs.Step.{expire_records, behind_expiry, max_expired_guids, max_connections, ruling}
use Rattle.spec_exchange.specs.Step.{ruling_without_room, carried_out, connection_of, Ruling, TakesIn, TurnsAway}
use Rattle.spec_exchange.specs.Step.{TakesOut, ends_with, forget_connection, take_out}
use Rattle.spec_exchange.specs.Client.{Client}
use Rattle.spec_exchange.specs.Network.{Conn}
use Rattle.law_sessions.specs.messages.Connections.{Connections}
use Rattle.law_server.specs.tables.Fits.{Limit}
use Rattle.law_server.proofs.tables.Logic.{either}
use Rattle.law_server.proofs.tables.Doors.{recorded, Before}
use Rattle.law_locks.specs.Locks.{Locks}
use Rattle.law_locks.proofs.Views.{view, Quiet, same, stays, grows, end_quiet}
use Rattle.law_locks.proofs.Calm.{Steady, Calm, Steadies, Ending, steady_same}
use Rattle.law_locks.proofs.Rooms.{InFront, expired_left}
use Rattle.law_locks.proofs.Steady.{ends_of, big_named}
use Rattle.law_locks.proofs.Bare.{named_steady, named_calm}
use Rattle.law_locks.proofs.Undeleting.{NoDelete, end_kept}
use Rattle.law_locks.proofs.Facing.{Lower, quiet_keeps, before_keeps}
use Rattle.law_locks.proofs.Serve.{Under, lower_of, journal_before}

-- ---- the door

abbrev Fitting : Server → ℕ → ServerEvent → (Answer → Type 0) → Type 0
Fitting s now e P = (t : Server) (front : List Record) → Before s now t
    → (lower_limit < s.journal + 35 → InFront s now t) → fits (with_deadlines s now)
    (front ++ (carried_out t now (ruling t e)).records) ≡ true
    → P (recorded (carried_out t now (ruling t e)) (front ++ (carried_out t now (ruling t e)).records))

abbrev Full : Server → ℕ → ServerEvent → (Answer → Type 0) → Type 0
Full s now e P = P (recorded
    (carried_out (with_deadlines s now) now (ruling_without_room (ruling (with_deadlines s now) e)))
    (carried_out (with_deadlines s now) now (ruling_without_room (ruling (with_deadlines s now) e))).records)

by_table : (P : Answer → Type 0) (s : Server) (now : ℕ) (e : ServerEvent) → Fitting s now e P → Full s now e P
    → P (written_down (event_answer (with_deadlines s now) now e))
by_table P s now e f g =
    let d = with_deadlines s now in
    either (λ A. P (written_down A)) (fits d (carried_out d now (ruling d e)).records) (carried_out d now (ruling d e))
    (carried_out d now (ruling_without_room (ruling d e))) (λ r. f d [] (inl refl) (λ _. inl refl) r) (λ _. g)

by_due : (P : Answer → Type 0) (s : Server) (now : ℕ) (e : ServerEvent) → Limit s → Fitting s now e P → Full s now e P
    → (u : Option ℕ) → due (with_deadlines s now) now ≡ u → P (written_down (expiring (with_deadlines s now) now e u))
by_due P s now e whole f g None h = by_table P s now e f g
by_due P s now e whole f g (Some o) h =
    let d = with_deadlines s now in let t = expire d o in
    either (λ A. P (written_down A)) (nat_le max_expired_guids d.expired_count) (event_answer d now e)
    (behind_expiry d now e (expire_records d (origin_at (connection_of e)) o) (carried_out t now (ruling t e)))
    (λ _. by_table P s now e f g)
    (λ _. either (λ A. P (written_down A))
    (fits d (expire_records d (origin_at (connection_of e)) o ++ (carried_out t now (ruling t e)).records))
    (record (carried_out t now (ruling t e)) {
      records = expire_records d (origin_at (connection_of e)) o ++ (carried_out t now (ruling t e)).records;
    })
    (event_answer d now e)
    (λ r. f t (expire_records d (origin_at (connection_of e)) o) (inr (o, h, refl))
    (λ l. let x = expired_left d (connection_of e) o (carried_out t now (ruling t e)).records whole r l in inr (o, h, refl, x.0, x.1)) r)
    (λ _. by_table P s now e f g))

by_event : (P : Answer → Type 0) (s : Server) (now : ℕ) (e : ServerEvent) → Limit s → Fitting s now e P → Full s now e P
    → P (step s now e)
by_event P s now e whole f g = by_due P s now e whole f g (due (with_deadlines s now) now) refl

-- ---- a server that moved, and no message closes

no_closes : ℕ → Bool
no_closes o = false

moved : (c : Client) (conns : ℕ → Conn) (t u : Server) (a : ℕ → ℕ) (rs : List Record) → Lower c conns t
    → Connections c conns a → Quiet (λ x. is_new x (t.making 0)) no_closes (view t) (view u)
    → (lower_limit < t.journal + 35 → Steady t u ⊎ (Calm t u × 34 ≤ entry_bytes rs)) → NoDelete (view u) → Locks c conns t a
    → Locks c conns (record u { journal = u.journal + entry_bytes rs }) a
unfolding no_closes
moved c conns t u a rs l C q st k i =
    quiet_keeps c conns t a (record u { journal = u.journal + entry_bytes rs }) a 0 no_closes l C (λ p m. refl)
    (grows (λ x. is_new x (t.making 0)) no_closes (view t) (view u) (entry_bytes rs) q)
    (λ big. by big (st big)) i.made_plain k
    (λ g m s0 un lv p sd e off. absurd (cc)) (λ j n g y h e ok lv p sd x off. absurd (cc)) i
  where
    fuller : (n m b : ℕ) → n ≤ m → lower_limit < n + 35 → 34 ≤ b → lower_limit < m + b + 34
    fuller n m b g l e = omega (arith, g, l, e)

    by : lower_limit < t.journal + 35 → Steady t u ⊎ (Calm t u × 34 ≤ entry_bytes rs)
        → Steadies t (record u { journal = u.journal + entry_bytes rs })
    by big (inl x) = inl (record {
      entries = x.entries;
      delete_pending = x.delete_pending;
      directory = x.directory;
      others = x.others;
    })
    by big (inr x) = inr (
      record { delete_pending = x.0.delete_pending; others = x.0.others },
      fuller t.journal u.journal (entry_bytes rs) q.journal big x.1,
    )

-- ---- a connection is accepted

accepted_locks : (c : Client) (conns : ℕ → Conn) (t : Server) (a : ℕ → ℕ) (k now : ℕ) (rs : List Record)
    → Lower c conns t → Connections c conns a → Locks c conns t a → (r : Ruling) → (r ≡ TurnsAway) ⊎ (r ≡ TakesIn k)
    → Locks c conns (recorded (carried_out t now r) rs).server a
accepted_locks c conns t a k now rs l C i r (inl e) =
    subst (λ z. Locks c conns (recorded (carried_out t now z) rs).server a) (sym e)
    (moved c conns t t a rs l C (stays _ _ (view t)) (λ _. inl (steady_same t t refl refl refl refl refl)) i.kept_files i)
accepted_locks c conns t a k now rs l C i r (inr e) =
    subst (λ z. Locks c conns (recorded (carried_out t now z) rs).server a) (sym e)
    (moved c conns t (record t { connections = t.connections ++ k ∷ [] }) a rs l C (same _ _ (view t) _ refl)
    (λ _. inl (steady_same t _ refl refl refl refl refl)) i.kept_files i)

accept_rules : (t : Server) (k : ℕ) → (ruling t (Accept k) ≡ TurnsAway) ⊎ (ruling t (Accept k) ≡ TakesIn k)
accept_rules t k = either (λ r. (r ≡ TurnsAway) ⊎ (r ≡ TakesIn k)) (nat_le max_connections (length t.connections))
    TurnsAway (TakesIn k) (λ _. inl refl) (λ _. inr refl)

accept_full : (t : Server) (k : ℕ) → (ruling_without_room (ruling t (Accept k)) ≡ TurnsAway)
    ⊎ (ruling_without_room (ruling t (Accept k)) ≡ TakesIn k)
accept_full t k = either (λ r. (ruling_without_room r ≡ TurnsAway) ⊎ (ruling_without_room r ≡ TakesIn k))
    (nat_le max_connections (length t.connections)) TurnsAway (TakesIn k) (λ _. inl refl) (λ _. inr refl)

pub accepts : (c : Client) (conns : ℕ → Conn) (s : Server) (a : ℕ → ℕ) (k now : ℕ) → Under c conns s a
    → Locks c conns s a → Locks c conns (step s now (Accept k)).server a
accepts c conns s a k now u i =
    by_event (λ A. Locks c conns A.server a) s now (Accept k) u.fits.limit
    (λ t front b full room. let x = before_keeps c conns s a now t b full (lower_of c conns s a u) u.links i in
    accepted_locks c conns t a k now _ x.0 u.links x.1 (ruling t (Accept k)) (accept_rules t k))
    (let x = before_keeps c conns s a now (with_deadlines s now) (inl refl) (λ _. inl refl) (lower_of c conns s a u) u.links i in
    accepted_locks c conns (with_deadlines s now) a k now _ x.0 u.links x.1
    (ruling_without_room (ruling (with_deadlines s now) (Accept k))) (accept_full (with_deadlines s now) k))

-- ---- a connection ends

ended_quiet : (t : Server) (k now : ℕ) (named : Option ℕ) (quiet : Bool) → Quiet (λ x. is_new x (t.making 0)) no_closes
    (view t) (view (forget_connection (end_if_named t now named quiet) k))
ended_quiet t k now None quiet = same _ _ (view t) _ refl
ended_quiet t k now (Some x) quiet = end_quiet (λ x. is_new x (t.making 0)) no_closes t x now quiet

ended_locks : (c : Client) (conns : ℕ → Conn) (t : Server) (a : ℕ → ℕ) (k now : ℕ) (quiet : Bool) (rs : List Record)
    → (lower_limit < t.journal + 35 → Ending (records_if_named t (origin_at k) (ends_with t k) quiet) rs) → Lower c conns t
    → Connections c conns a → Locks c conns t a
    → Locks c conns (recorded (carried_out t now (TakesOut k quiet)) rs).server a
ended_locks c conns t a k now quiet rs bare l C i =
    moved c conns t (take_out t k now quiet) a rs l C (ended_quiet t k now (ends_with t k) quiet)
    (λ big. by (bare big))
    (end_kept t now (ends_with t k) quiet i.kept_files) i
  where
    by : Ending (records_if_named t (origin_at k) (ends_with t k) quiet) rs
        → Steady t (take_out t k now quiet) ⊎ (Calm t (take_out t k now quiet) × 34 ≤ entry_bytes rs)
    by (inl e) = let x = named_steady t (origin_at k) now (ends_with t k) quiet e in inl (record {
      entries = x.entries;
      delete_pending = x.delete_pending;
      directory = x.directory;
      others = x.others;
    })
    by (inr e) = let x = named_calm t (origin_at k) now (ends_with t k) quiet e.0 in
        inr (record { delete_pending = x.delete_pending; others = x.others }, e.1)

quiet_none : (t : Server) (k : ℕ) (named : Option ℕ) → records_if_named t (origin_at k) named true ≡ []
unfolding end_records
quiet_none t k None = refl
quiet_none t k (Some x) = refl

pub ends : (c : Client) (conns : ℕ → Conn) (s : Server) (a : ℕ → ℕ) (k now : ℕ) → Under c conns s a → Locks c conns s a
    → Locks c conns (step s now (End k)).server a
ends c conns s a k now u i =
    by_event (λ A. Locks c conns A.server a) s now (End k) u.fits.limit
    (λ t front b full room. let x = before_keeps c conns s a now t b full (lower_of c conns s a u) u.links i in
    ended_locks c conns t a k now false _ (λ big. ends_of (with_deadlines s now) front
    (records_if_named t (origin_at k) (ends_with t k) false) u.fits.limit (big_named t (origin_at k) (ends_with t k) false)
    room
    (subst (λ z. lower_limit < z + 35) (journal_before s now t b) big)) x.0 u.links x.1)
    (let x = before_keeps c conns s a now (with_deadlines s now) (inl refl) (λ _. inl refl) (lower_of c conns s a u) u.links i in
    ended_locks c conns (with_deadlines s now) a k now true _ (λ big. inl (quiet_none (with_deadlines s now) k
    (ends_with (with_deadlines s now) k))) x.0 u.links x.1)
