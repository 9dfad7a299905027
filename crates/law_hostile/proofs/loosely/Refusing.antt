-- What the server's tables hold where it refuses a message with a fault: at most an open expired in front of it.
use Rattle.std.proofs.Common.{◌≡◌, ℕ, ◌+◌, ◌<◌, Bool, true, false, List, ◌++◌, inl, inr, refl, sym, ◌∙◌, ap, subst, None}
use Rattle.std.specs.Prelude.{is_some}
use Rattle.spec_exchange.specs.State.{Server, Message, Heard, Record, Answer}
use Rattle.spec_exchange.specs.Verdict.{Verdict, Refuse}
use Rattle.spec_exchange.specs.Check.{check}
use Rattle.spec_exchange.specs.CheckSetup.{tree_in, is_new}
use Rattle.spec_exchange.specs.Records.{entry_bytes, lower_limit}
use Rattle.spec_exchange.specs.Effects.{apply}
use Rattle.spec_exchange.specs.Step.{step, with_deadlines, without_room, Ruling, carried_out}
use Rattle.spec_exchange.specs.Client.{Client}
use Rattle.spec_exchange.specs.Network.{Conn}
use Rattle.law_server.proofs.tables.Doors.{recorded, Before, Finds, by_verdict}
use Rattle.law_sessions.specs.messages.Connections.{Connections}
use Rattle.law_sessions.proofs.sessions.Heard.{before_stays}
use Rattle.law_sessions.proofs.sessions.Trees.{before_tied}
use Rattle.law_sessions.proofs.sessions.Connected.{Falls}
use Rattle.law_sessions.proofs.sessions.Written.{Clean}
use Rattle.law_sessions.proofs.sessions.Owed.{Rules, clean_step, is_make, by_verdict as clean_by}
use Rattle.law_sessions.proofs.sessions.Sorted.{Sorted}
use Rattle.law_creates.specs.Creates.{Creates, seen}
use Rattle.law_creates.proofs.ExpireBy.{expire_by_creates}
use Rattle.law_creates.proofs.Seeing.{expire_seen}
use Rattle.law_locks.specs.Locks.{Locks}
use Rattle.law_locks.proofs.Views.{view, grows, stays}
use Rattle.law_locks.proofs.Calm.{steady_same}
use Rattle.law_locks.proofs.Rooms.{InFront, by_room}
use Rattle.law_locks.proofs.Facing.{Lower, quiet_keeps, before_keeps}
use Rattle.law_locks.proofs.Serve.{Under, lower_of}
use Rattle.law_order.proofs.order.Pairs.{Moves, moves_alike, moves_on, deadlines_moves, expire_moves}
use Rattle.law_hostile.proofs.acts.Faulty.{IsRefused, check_refuses}

-- ---- the way into the step

found_refused : (t : Server) (m : Message) (v : Verdict) → is_some m.fault ≡ true → Finds t m v → IsRefused v
found_refused t m v e (inl q) = let h = check_refuses t m e in (h.0, q ∙ h.1)
found_refused t m v e (inr q) = let h = check_refuses t m e in (h.0, q ∙ ap without_room h.1)

abbrev Refused : Server → ℕ → Message → (Answer → Type 0) → Type 0
Refused s now m P = (t : Server) (status : ℕ) (records : List Record) → Before s now t
    → P (recorded (apply t m now (Refuse status)) records)

by_refusal : (P : Answer → Type 0) (s : Server) (now : ℕ) (m : Message) → is_some m.fault ≡ true → Refused s now m P
    → P (step s now (Heard m))
by_refusal P s now m e f =
    by_verdict P s now m (λ t v records before finds. let h = found_refused t m v e finds in
    subst (λ x. P (recorded (apply t m now x) records)) (sym h.1) (f t h.0 records before))

-- ---- nothing acts, and no open is reached

pub reaches_none : (s : Server) (now : ℕ) (m : Message) → is_some m.fault ≡ true → (step s now (Heard m)).reached ≡ None
reaches_none s now m e = by_refusal (λ A. A.reached ≡ None) s now m e (λ t status records before. refl)

pub alters_none : (s : Server) (now : ℕ) (m : Message) → is_some m.fault ≡ true → (step s now (Heard m)).altered ≡ None
alters_none s now m e = by_refusal (λ A. A.altered ≡ None) s now m e (λ t status records before. refl)

-- ---- sessions and trees

falls_at : (s : Server) (now : ℕ) (m : Message) (t : Server) (status : ℕ) (records : List Record) → Before s now t
    → Falls s (recorded (apply t m now (Refuse status)) records).server
falls_at s now m t status records before =
    let q = before_stays s now t before in
    record {
      present = λ x p. ap (λ g. g x) (sym q.present) ∙ p;
      user = q.user;
      making = λ k y e. ap (λ g. is_new y (g k)) (sym q.making) ∙ e;
      epoch = q.epoch;
      session_ids_given = q.session_ids_given;
      trees = λ x id p h. ap (λ g. is_some (tree_in (g x) id)) q.trees ∙ h;
      standing = q.standing;
      opened = q.opened;
      attached = before_tied s now t before;
    }

pub refused_falls : (s : Server) (now : ℕ) (m : Message) → is_some m.fault ≡ true → Falls s (step s now (Heard m)).server
refused_falls s now m e = by_refusal (λ A. Falls s A.server) s now m e (falls_at s now m)

pub refused_sorted : (kind : Bool) (s : Server) (now : ℕ) (m : Message) → is_some m.fault ≡ true → Sorted kind s
    → Sorted kind (step s now (Heard m)).server
refused_sorted kind s now m e i =
    by_refusal (λ A. Sorted kind A.server) s now m e (λ t status records before. let q = before_stays s now t before in
    (λ x id b h. i.0 x id b (ap (λ f. tree_in (f x) id) (sym q.trees) ∙ h), λ o h. i.1 o (q.standing o h)))

not_made : (v : Verdict) → IsRefused v → is_make v ≡ false
not_made v h = ap is_make h.1

never_both : (b : Bool) → b ≡ false → b ≡ true → (P : Type 0) → P
never_both b e f P = absurd (cc)

clean_found : (guid : ℕ) (user : List ℕ) (t : Server) (now : ℕ) (m : Message) (v : Verdict) → IsRefused v
    → Clean guid user (apply t m now v).records
clean_found guid user t now m v h =
    clean_by guid user t m now v (λ mk. never_both (is_make v) (not_made v h) mk _)

pub refused_clean : (guid : ℕ) (user : List ℕ) (s : Server) (now : ℕ) (m : Message) → is_some m.fault ≡ true
    → Clean guid user (step s now (Heard m)).records
refused_clean guid user s now m e = clean_step guid user s now (Heard m) (λ t r before rules. ruled t r rules)
  where
    ruled : (t : Server) (r : Ruling) → Rules t (Heard m) r → Clean guid user (carried_out t now r).records
    ruled t r (inl q) = subst (λ x. Clean guid user (carried_out t now x).records) (sym q)
        (clean_found guid user t now m (check t m) (found_refused t m (check t m) e (inl refl)))
    ruled t r (inr q) = subst (λ x. Clean guid user (carried_out t now x).records) (sym q)
        (clean_found guid user t now m (without_room (check t m)) (found_refused t m (without_room (check t m)) e (inr refl)))

-- ---- creates

creates_before : (c : Client) (conns : ℕ → Conn) (a : ℕ → ℕ) (s : Server) (now : ℕ) (t : Server) → Creates c conns (seen s) a
    → Before s now t → Creates c conns (seen t) a
creates_before c conns a s now t i (inl e) = subst (λ u. Creates c conns (seen u) a) (sym e) i
creates_before c conns a s now t i (inr x) =
    let d = with_deadlines s now in
    subst (λ u. Creates c conns (seen u) a) (sym x.2) (subst (λ v. Creates c conns v a) (sym (expire_seen d x.0))
    (expire_by_creates c conns (seen d) a x.0 (d.opened x.0).create_guid refl i))

pub refused_creates : (c : Client) (conns : ℕ → Conn) (a : ℕ → ℕ) (s : Server) (now : ℕ) (m : Message) → is_some m.fault ≡ true
    → Creates c conns (seen s) a → Creates c conns (seen (step s now (Heard m)).server) a
refused_creates c conns a s now m e i =
    by_refusal (λ A. Creates c conns (seen A.server) a) s now m e
    (λ t status records before. creates_before c conns a s now t i before)

-- ---- locks

no_closes : ℕ → Bool
no_closes o = false

-- the journal grows
written : (c : Client) (conns : ℕ → Conn) (t : Server) (a : ℕ → ℕ) (rs : List Record) → Lower c conns t → Connections c conns a
    → Locks c conns t a → Locks c conns (record t { journal = t.journal + entry_bytes rs }) a
unfolding no_closes
written c conns t a rs l C i =
    quiet_keeps c conns t a (record t { journal = t.journal + entry_bytes rs }) a 0 no_closes l C (λ p m. refl)
    (grows (λ x. is_new x (t.making 0)) no_closes (view t) (view t) (entry_bytes rs) (stays _ _ (view t)))
    (λ _. inl (steady_same t _ refl refl refl refl refl)) i.made_plain i.kept_files
    (λ g m s0 un lv p sd e off. absurd (cc)) (λ j n g y h e ok lv p sd x off. absurd (cc)) i

locks_at : (c : Client) (conns : ℕ → Conn) (s : Server) (a : ℕ → ℕ) (now : ℕ) (m : Message) (t : Server) (v : Verdict)
    (records : List Record) → IsRefused v → Under c conns s a → Locks c conns s a → Before s now t
    → (lower_limit < s.journal + 35 → InFront s now t) → Locks c conns (recorded (apply t m now v) records).server a
locks_at c conns s a now m t v records h u i before full =
    let x = before_keeps c conns s a now t before full (lower_of c conns s a u) u.links i in
    subst (λ y. Locks c conns (recorded (apply t m now y) records).server a) (sym h.1)
    (written c conns t a records x.0 u.links x.1)

pub refused_locks : (c : Client) (conns : ℕ → Conn) (s : Server) (a : ℕ → ℕ) (now : ℕ) (m : Message) → is_some m.fault ≡ true
    → Under c conns s a → Locks c conns s a → Locks c conns (step s now (Heard m)).server a
refused_locks c conns s a now m e u i =
    by_room (λ A. Locks c conns A.server a) s now m u.fits.limit
    (λ t v front before full is room. locks_at c conns s a now m t v (front ++ (apply t m now v).records)
    (found_refused t m v e (inl is)) u i before full)
    (λ v is room. let d = with_deadlines s now in
    locks_at c conns s a now m d v (apply d m now v).records (found_refused d m v e (inr is)) u i (inl refl) (λ _. inl refl))

-- ---- pairs of session and sequence

before_moves : (s : Server) (now : ℕ) (t : Server) → Before s now t → Moves s t
before_moves s now t (inl e) = subst (λ u. Moves s u) (sym e) (deadlines_moves s now)
before_moves s now t (inr x) =
    let d = with_deadlines s now in
    subst (λ u. Moves s u) (sym x.2) (moves_on s d _ (deadlines_moves s now) (expire_moves d x.0))

moves_at : (s : Server) (now : ℕ) (m : Message) (t : Server) (status : ℕ) (records : List Record) → Before s now t
    → Moves s (recorded (apply t m now (Refuse status)) records).server
moves_at s now m t status records before =
    moves_on s t _ (before_moves s now t before) (moves_alike t _ (record {
      standing = refl;
      present = refl;
      session_of_open = refl;
      sequence = refl;
      epoch = refl;
      open_ids_given = refl;
      making = refl;
      by_guid = refl;
      opened = refl;
    }))

pub refused_moves : (s : Server) (now : ℕ) (m : Message) → is_some m.fault ≡ true → Moves s (step s now (Heard m)).server
refused_moves s now m e = by_refusal (λ A. Moves s A.server) s now m e (moves_at s now m)
