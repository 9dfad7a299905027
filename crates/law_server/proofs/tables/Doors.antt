-- The only way into the server's step: what a ruling carries out, on a state in front of which an open may have expired,
-- with the expiry's records in front of its own.
use Rattle.std.proofs.Common.{◌≡◌, ℕ, ◌+◌, nat_le, List, [], ◌++◌, ◌⊎◌, inl, inr, refl, sym, subst, Option, Some, None}
use Rattle.spec_exchange.specs.State.{Server, Message, ServerEvent, Heard, Record, Answer}
use Rattle.spec_exchange.specs.Verdict.{Verdict}
use Rattle.spec_exchange.specs.Check.{check}
use Rattle.spec_exchange.specs.Records.{entry_bytes, fits, origin_at}
use Rattle.spec_exchange.specs.Effects.{apply}
use Rattle.spec_exchange.specs.Step.{step, event_answer, behind_expiry, expiring, written_down, with_deadlines, due}
use Rattle.spec_exchange.specs.Step.{expire, expire_records, without_room, max_expired_guids, Ruling, ruling}
use Rattle.spec_exchange.specs.Step.{ruling_without_room, carried_out, connection_of}
use Rattle.law_server.proofs.tables.Logic.{either}

-- an answer whose records are these, written down
abbrev pub recorded : Answer → List Record → Answer
recorded A records = record A { server = record A.server { journal = A.server.journal + entry_bytes records }; records = records }

-- the state that the checks see, and the records owed for it
abbrev pub Front : Server → ℕ → ServerEvent → Server → List Record → Type 0
Front s now e t front =
    (t ≡ with_deadlines s now × front ≡ []) ⊎ ((o : ℕ) × due (with_deadlines s now) now ≡ Some o × t
    ≡ expire (with_deadlines s now) o × front ≡ expire_records (with_deadlines s now) (origin_at (connection_of e))
    o)

-- what the checks ask for, or what stands in its place where the records don't fit
abbrev pub Rules : Server → ServerEvent → Ruling → Type 0
Rules t e r = (r ≡ ruling t e) ⊎ (r ≡ ruling_without_room (ruling t e))

abbrev pub Path : Server → ℕ → ServerEvent → (Answer → Type 0) → Type 0
Path s now e P = (t : Server) (front : List Record) (r : Ruling) → Front s now e t front → Rules t e r
    → P (recorded (carried_out t now r) (front ++ (carried_out t now r).records))

by_table : (P : Answer → Type 0) (s : Server) (now : ℕ) (e : ServerEvent) → Path s now e P
    → P (written_down (event_answer (with_deadlines s now) now e))
by_table P s now e f =
    let d = with_deadlines s now in
    either (λ A. P (written_down A)) (fits d (carried_out d now (ruling d e)).records) _ _
    (λ _. f d [] (ruling d e) (inl (refl, refl)) (inl refl))
    (λ _. f d [] (ruling_without_room (ruling d e)) (inl (refl, refl)) (inr refl))

by_due : (P : Answer → Type 0) (s : Server) (now : ℕ) (e : ServerEvent) → Path s now e P → (u : Option ℕ)
    → due (with_deadlines s now) now ≡ u → P (written_down (expiring (with_deadlines s now) now e u))
by_due P s now e f None q = by_table P s now e f
by_due P s now e f (Some o) q =
    let d = with_deadlines s now in let t = expire d o in
    let A = carried_out t now (ruling t e) in let front = expire_records d (origin_at (connection_of e)) o in
    either (λ B. P (written_down B)) (nat_le max_expired_guids d.expired_count) (event_answer d now e)
    (behind_expiry d now e front A) (λ _. by_table P s now e f)
    (λ _. either (λ B. P (written_down B)) (fits d (front ++ A.records)) (record A { records = front ++ A.records }) (event_answer d now e)
    (λ _. f t (expire_records d (origin_at (connection_of e)) o) (ruling t e) (inr (o, q, refl, refl)) (inl refl))
    (λ _. by_table P s now e f))

pub by_ruling : (P : Answer → Type 0) (s : Server) (now : ℕ) (e : ServerEvent) → Path s now e P → P (step s now e)
by_ruling P s now e f = by_due P s now e f (due (with_deadlines s now) now) refl

-- ---- the same for a message, by its verdict

-- the state that the checks see: an open whose deadline is past is gone
abbrev pub Before : Server → ℕ → Server → Type 0
Before s now t = (t ≡ with_deadlines s now) ⊎ ((o : ℕ) × due (with_deadlines s now) now ≡ Some o × t ≡ expire (with_deadlines s now) o)

-- the verdict of the checks, or what stands in its place where the records don't fit
abbrev pub Finds : Server → Message → Verdict → Type 0
Finds t m v = (v ≡ check t m) ⊎ (v ≡ without_room (check t m))

abbrev pub Way : Server → ℕ → Message → (Answer → Type 0) → Type 0
Way s now m P = (t : Server) (v : Verdict) (records : List Record) → Before s now t → Finds t m v → P (recorded (apply t m now v) records)

before : (s : Server) (now : ℕ) (m : Message) (t : Server) (front : List Record) → Front s now (Heard m) t front → Before s now t
before s now m t front (inl q) = inl q.0
before s now m t front (inr q) = inr (q.0, q.1, q.2)

by_rules : (P : Answer → Type 0) (now : ℕ) (m : Message) (t : Server) (front : List Record)
    → ((v : Verdict) (records : List Record) → Finds t m v → P (recorded (apply t m now v) records))
    → (r : Ruling) → Rules t (Heard m) r → P (recorded (carried_out t now r) (front ++ (carried_out t now r).records))
by_rules P now m t front f r (inl q) =
    subst (λ x. P (recorded (carried_out t now x) (front ++ (carried_out t now x).records))) (sym q)
    (f (check t m) (front ++ (apply t m now (check t m)).records) (inl refl))
by_rules P now m t front f r (inr q) =
    subst (λ x. P (recorded (carried_out t now x) (front ++ (carried_out t now x).records))) (sym q)
    (f (without_room (check t m)) (front ++ (apply t m now (without_room (check t m))).records) (inr refl))

pub by_verdict : (P : Answer → Type 0) (s : Server) (now : ℕ) (m : Message) → Way s now m P → P (step s now (Heard m))
by_verdict P s now m f = by_ruling P s now (Heard m) (λ t front r at rules. by_rules P now m t front
    (λ v records. f t v records (before s now m t front at)) r rules)
