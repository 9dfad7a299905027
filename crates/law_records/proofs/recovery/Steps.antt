-- One event of the server: an expiry in front, then the verdict, or what stands in its place where no record fits.
use Rattle.std.proofs.Common.{◌≡◌, ℕ, nat_lt, nat_le, Bool, true, false, if◌then◌else◌, List, [], ◌∷◌, ◌++◌, length}
use Rattle.std.proofs.Common.{refl, arith, sym, subst, ◌∙◌, ap, Option, Some, None, is_some, ◌⊎◌, inl, inr}
use Rattle.std.proofs.lemmas.Bool.Decides.{nat_tests}
use Rattle.spec_exchange.specs.Table.{has}
use Rattle.spec_exchange.specs.State.{Server, ServerEvent, Accept, Heard, End, Open}
use Rattle.spec_exchange.specs.Files.{exists}
use Rattle.spec_exchange.specs.Check.{check}
use Rattle.spec_exchange.specs.Records.{fits, origin_at}
use Rattle.spec_exchange.specs.Step.{Ruling, Says, TakesIn, TurnsAway, TakesOut, TakesAllOut, ruling}
use Rattle.spec_exchange.specs.Step.{ruling_without_room, without_room, max_connections, carried_out, event_answer}
use Rattle.spec_exchange.specs.Step.{expiring, behind_expiry, step, with_deadlines, first_deadline, is_past, due_in}
use Rattle.spec_exchange.specs.Step.{due, expire, expire_records, connection_of, max_expired_guids, ends_with}
use Rattle.spec_exchange.specs.Fold.{fold_from}
use Rattle.law_server.specs.tables.Fits.{PlainAttached, Deadlines, Listed}
use Rattle.law_server.proofs.tables.Logic.{either}
use Rattle.law_server.proofs.tables.Checked.{found}
use Rattle.law_records.specs.recovery.Recovers.{Mirrors}
use Rattle.law_records.proofs.recovery.Lists.{at_head, in_tail}
use Rattle.law_records.proofs.recovery.Leaves.{fold_append, expires_recorded}
use Rattle.law_records.proofs.recovery.Ends.{ends_if_named}
use Rattle.law_server.proofs.tables.SessionEffects.{deadlines_keeps}
use Rattle.law_records.proofs.recovery.Verdicts.{Needs, ender, leaver, Good, nothing_owed, good}

-- a ruling that the checks give, or what stands in its place
abbrev pub Gives : Server → ServerEvent → Ruling → Type 0
Gives s e r = (r ≡ ruling s e) ⊎ (r ≡ ruling_without_room (ruling s e))

abbrev pub Rules : Server → Ruling → Type 0
Rules s (Says m v) = (v ≡ check s m) ⊎ (v ≡ without_room (check s m))
Rules s (TakesIn k) = Unit {0}
Rules s TurnsAway = Unit {0}
Rules s (TakesOut k is_quiet) = Unit {0}
Rules s (TakesAllOut is_quiet) = ⊥

carried : (d s : Server) (now : ℕ) (r : Ruling) → Rules s r → Needs s → Mirrors d s → Good d (carried_out s now r)
carried d s now (Says m v) ok n h = good d s m now v (found s m v ok) n h
carried d s now (TakesIn k) ok n h = nothing_owed d s h
carried d s now TurnsAway ok n h = nothing_owed d s h
carried d s now (TakesOut k is_quiet) ok n h = ends_if_named d s (origin_at k) (ends_with s k) now is_quiet (ender s n) h
carried d s now (TakesAllOut is_quiet) ok n h = absurd ok

-- the events of a run
abbrev pub Runs : ServerEvent → Type 0
Runs (Accept k) = Unit {0}
Runs (Heard m) = Unit {0}
Runs (End k) = Unit {0}
Runs _ = ⊥

rules : (s : Server) (e : ServerEvent) → Runs e → Rules s (ruling s e)
rules s (Accept k) ok = either (Rules s) (nat_le max_connections (length s.connections)) TurnsAway (TakesIn k) (λ _. tt) (λ _. tt)
rules s (Heard m) ok = inl refl
rules s (End k) ok = tt
rules s Rattle.spec_exchange.specs.State.Stop ok = absurd ok

rules_without_room : (s : Server) (e : ServerEvent) → Runs e → Rules s (ruling_without_room (ruling s e))
rules_without_room s (Accept k) ok = either (λ r. Rules s (ruling_without_room r))
    (nat_le max_connections (length s.connections)) TurnsAway (TakesIn k) (λ _. tt) (λ _. tt)
rules_without_room s (Heard m) ok = inr refl
rules_without_room s (End k) ok = tt
rules_without_room s Rattle.spec_exchange.specs.State.Stop ok = absurd ok

tables : (d s : Server) (now : ℕ) (e : ServerEvent) → Runs e → Needs s → Mirrors d s → Good d (event_answer s now e)
tables d s now e ok n h =
    either (Good d) (fits s (carried_out s now (ruling s e)).records) (carried_out s now (ruling s e))
    (carried_out s now (ruling_without_room (ruling s e)))
    (λ _. carried d s now (ruling s e) (rules s e ok) n h)
    (λ _. carried d s now (ruling_without_room (ruling s e)) (rules_without_room s e ok) n h)

-- ---- expiry

-- what the open that is due is
pub record Due (s : Server) (o : ℕ) : Type 0 where
  pub stands : s.standing o ≡ true
  pub persistent : (s.opened o).persistent ≡ true

found_due : (deadline : ℕ → Option ℕ) (os : List ℕ) (now o : ℕ) → due_in deadline os now ≡ Some o → has o os ≡ true
    × is_past now (deadline o) ≡ true
unfolding due_in
found_due deadline [] now o e = absurd (cc)
found_due deadline (x ∷ xs) now o e =
    let rest = found_due deadline xs now o in
    elim (is_past now (deadline x)) as (λ b. is_past now (deadline x) ≡ b
    → (if b then Some x else due_in deadline xs now) ≡ Some o → has o (x ∷ xs) ≡ true × is_past now (deadline o)
    ≡ true) [
      | true ↦ λ p q. let same = some_same x o q in subst (λ y. has y (x ∷ xs) ≡ true × is_past now (deadline y) ≡ true)
          same (at_head x xs, p)
      | false ↦ λ p q. let t = rest q in (in_tail o x xs t.0, t.1)
    ] refl e
  where
    some_same : (a b : ℕ) → Some a ≡ Some b → a ≡ b
    some_same a b q = cc

few : (n : ℕ) → nat_le max_expired_guids n ≡ false → nat_lt n max_expired_guids ≡ true
few n e = grind (arith, nat_tests)

expiring_good : (d s : Server) (now : ℕ) (e : ServerEvent) → Runs e → Needs s → ((o : ℕ) → due s now ≡ Some o → Due s o)
    → ((o : ℕ) → due s now ≡ Some o → Needs (expire s o)) → Mirrors d s
    → (x : Option ℕ) → due s now ≡ x → Good d (expiring s now e x)
expiring_good d s now e ok n dues behind h None q = tables d s now e ok n h
expiring_good d s now e ok n dues behind h (Some o) q =
    let t = expire s o in let front = expire_records s (origin_at (connection_of e)) o in let A = carried_out t now
    (ruling t e) in let is_due = dues o q in
    either (Good d) (nat_le max_expired_guids s.expired_count) (event_answer s now e) (behind_expiry s now e front A)
    (λ _. tables d s now e ok n h)
    (λ room. either (Good d) (fits s (front ++ A.records)) (record A { records = front ++ A.records }) (event_answer s now e)
    (λ _. subst (λ x. Mirrors x A.server) (sym (fold_append d front A.records))
    (carried (fold_from d front) t now (ruling t e) (rules t e ok) (behind o q)
    (expires_recorded d s (origin_at (connection_of e)) o (leaver s o n is_due.stands) is_due.persistent
    (few s.expired_count room) n.listed h)))
    (λ _. tables d s now e ok n h))

-- ---- the whole step

pub needs_dated : (s : Server) (now : ℕ) → Needs s → Needs (with_deadlines s now)
unfolding exists
needs_dated s now n = record {
  guid_open = n.guid_open;
  open_guid = n.open_guid;
  listed = n.listed;
  ascending = n.ascending;
  open_ids = n.open_ids;
  range_owners = n.range_owners;
  open_files = n.open_files;
  not_root = n.not_root;
  root_stays = n.root_stays;
  fits = deadlines_keeps s now n.fits;
}

by_deadline : (now : ℕ) (stands : Bool) (at : Option ℕ) (row : Open) (deadline : Option ℕ)
    → ((d : ℕ) → deadline ≡ Some d → at ≡ None) → is_past now (first_deadline now stands at row deadline) ≡ true → at
    ≡ None
by_deadline now stands None row deadline h e = refl
by_deadline now true (Some x) row None h e = absurd (cc)
by_deadline now false (Some x) row None h e = absurd (cc)
by_deadline now true (Some x) row (Some d) h e = h d refl
by_deadline now false (Some x) row (Some d) h e = h d refl

no_session : (s : Server) (now o : ℕ) → Deadlines s → is_past now ((with_deadlines s now).deadline o) ≡ true → s.session_of_open o ≡ None
no_session s now o deadlines e = by_deadline now (s.standing o) (s.session_of_open o) (s.opened o) (s.deadline o) (λ d. deadlines o d) e

kept_by : (persistent : Bool) (at : Option ℕ) → at ≡ None → (persistent ≡ false → is_some at ≡ true) → persistent ≡ true
kept_by true at e h = refl
kept_by false at e h = absurd (cc (h refl, ap is_some e))

due_is : (s : Server) (now o : ℕ) → Listed s → Deadlines s → PlainAttached s → due (with_deadlines s now) now ≡ Some o
    → Due (with_deadlines s now) o
due_is s now o listed deadlines plain e =
    let t = found_due (with_deadlines s now).deadline s.opens now o e in
    let stands = sym (listed o) ∙ t.0 in
    let none = no_session s now o deadlines t.1 in
    record { stands = stands; persistent = kept_by (s.opened o).persistent (s.session_of_open o) none (plain o stands) }

pub steps : (d s : Server) (now : ℕ) (e : ServerEvent) → Runs e → Needs s → Deadlines s → PlainAttached s
    → ((o : ℕ) → due (with_deadlines s now) now ≡ Some o → Needs (expire (with_deadlines s now) o)) → Mirrors d s
    → Good d (step s now e)
steps d s now e ok n deadlines plain behind h =
    let t = with_deadlines s now in
    expiring_good d t now e ok (needs_dated s now n) (λ o. due_is s now o n.listed deadlines plain) behind h (due t now) refl
