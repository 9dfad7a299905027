-- The records of one body: what is read of it, and what becomes of it.
use Rattle.std.proofs.Common.{◌≡◌, inl, inr, ℕ, ◌+◌, ◌<◌, ◌≤◌, zero, suc, ◌&&◌, Bool, true, false, List, [], ◌∷◌, length, drop, get_or}
use Rattle.std.proofs.Common.{refl, sym, ap, subst, ◌∙◌, arith}
use Rattle.std.proofs.lemmas.List.{drop_more}
use Rattle.std.specs.Prelude.{Err}
use Rattle.spec_exchange.specs.Fold.{fold_from}
use Rattle.spec_exchange.specs.State.{Server}
use Rattle.journal_bytes.specs.record_bytes.Grammar.{SpellsRecords, ReadsRecords}
use Rattle.journal_bytes.specs.record_bytes.Meaning.{record_of, records_of}
use Rattle.journal_bytes.specs.declared.record_bytes.fault.RecordError.{RecordError}
use Rattle.journal_bytes.specs.declared.record_bytes.fault.RecordError.TheVariants as faulty
use Rattle.journal_bytes.specs.declared.record_bytes.value.Record.{Record}
use Rattle.journal.specs.declared.disk_journal.journal.JournalError.{JournalError}
use Rattle.server_core.specs.durable_state.Durable.{DurableShown}
use Rattle.server_core.specs.declared.durable_state.durable.Durable.{Durable}
use Rattle.law_server.specs.tables.Fits.{is_sound, all_sound}
use Rattle.server_core.specs.Reading.{BodyCause, RecordsRefused, FoldedBy, NoServerWrites, cause_of}

-- ---- the records one by one

-- the records from one on are sound where it is and those behind it are
at_one : (all : List Record) (i : ℕ) (r : Record) → i < length all → r ≡ get_or all i r
    → all_sound (records_of (drop i all)) ≡ (is_sound (record_of r) && all_sound (records_of (drop (i + 1) all)))
unfolding all_sound
at_one all i r less item =
    ap (λ (xs : List Record). all_sound (records_of xs)) (drop_more all i r less)
    ∙ ap (λ (x : Record). is_sound (record_of x) && all_sound (records_of (drop (i + 1) all))) (sym item)

pub sound_on : (all : List Record) (i : ℕ) (r : Record) (b : Bool) → i < length all → r ≡ get_or all i r
    → b ≡ is_sound (record_of r) → b ≡ true → all_sound (records_of (drop i all)) ≡ all_sound (records_of all)
    → all_sound (records_of (drop (i + 1) all)) ≡ all_sound (records_of all)
sound_on all i r b less item is on was =
    ap (λ (x : Bool). x && all_sound (records_of (drop (i + 1) all))) (sym on ∙ is) ∙ (sym (at_one all i r less item) ∙ was)

pub sound_ends : (all : List Record) (i : ℕ) (r : Record) (b : Bool) → i < length all → r ≡ get_or all i r
    → b ≡ is_sound (record_of r) → b ≡ false → all_sound (records_of (drop i all)) ≡ all_sound (records_of all)
    → false ≡ all_sound (records_of all)
sound_ends all i r b less item is off was =
    ap (λ (x : Bool). x && all_sound (records_of (drop (i + 1) all))) (sym off ∙ is) ∙ (sym (at_one all i r less item) ∙ was)

drop_none : (all : List Record) (i : ℕ) → length all ≤ i → drop i all ≡ []
drop_none [] zero h = refl
drop_none [] (suc i) h = refl
drop_none (r ∷ all) zero h = absurd (omega (arith, h))
drop_none (r ∷ all) (suc i) h = drop_none all i (omega (arith, h))

pub sound_through : (all : List Record) (i : ℕ) → length all ≤ i → all_sound (records_of (drop i all)) ≡ all_sound (records_of all)
    → true ≡ all_sound (records_of all)
unfolding all_sound
sound_through all i past was = ap (λ (xs : List Record). all_sound (records_of xs)) (sym (drop_none all i past)) ∙ was

-- ---- what is read of a body

pub not_read : (version gate : ℕ) (body m : List ℕ) (error : RecordError) (x : JournalError) → m ≡ body → x ≡ cause_of error gate
    → ReadsRecords {X = List Record} (λ rs. rs) version m (Err error) → RecordsRefused version body x
not_read version gate body m error x same is h =
    subst (λ (y : JournalError). RecordsRefused version body y) (sym is)
    (by error (subst (λ (b : List ℕ). ReadsRecords {X = List Record} (λ rs. rs) version b (Err error)) same h))
  where
    by : (f : RecordError) → ReadsRecords {X = List Record} (λ rs. rs) version body (Err f) → RecordsRefused version body (cause_of f gate)
    by faulty.Memory b = tt
    by (faulty.BadRecord place) b = inl (place, b)

pub caused_of : (gate : ℕ) (error : RecordError) (x : JournalError) → x ≡ cause_of error gate → BodyCause gate x
caused_of gate error x is = subst (λ (y : JournalError). BodyCause gate y) (sym is) (by error)
  where
    by : (f : RecordError) → BodyCause gate (cause_of f gate)
    by faulty.Memory = tt
    by (faulty.BadRecord place) = refl

-- what the test of its records tells
pub read_as : (version : ℕ) (body m : List ℕ) (rs ms : List Record) (b : Bool) → m ≡ body → ms ≡ rs
    → SpellsRecords version m rs → b ≡ all_sound (records_of ms) → b ≡ true
    → SpellsRecords version body rs × (all_sound (records_of rs) ≡ true)
read_as version body m rs ms b same list spells is on = (
  subst (λ (bs : List ℕ). SpellsRecords version bs rs) same spells,
  ap (λ (xs : List Record). all_sound (records_of xs)) (sym list) ∙ (sym is ∙ on),
)

pub unsound_as : (version : ℕ) (body m : List ℕ) (rs ms : List Record) (b : Bool) → m ≡ body → ms ≡ rs
    → SpellsRecords version m rs → b ≡ all_sound (records_of ms) → b ≡ false → NoServerWrites version body
unsound_as version body m rs ms b same list spells is off = inr (
  rs,
  subst (λ (bs : List ℕ). SpellsRecords version bs rs) same spells,
  ap (λ (xs : List Record). all_sound (records_of xs)) (sym list) ∙ (sym is ∙ off),
)

-- ---- what becomes of it

pub folded_by : (d e : Durable) (s : Server) (body : List ℕ) (rs ms : List Record) → DurableShown d s
    → SpellsRecords d.version body rs × (all_sound (records_of rs) ≡ true) → ms ≡ rs
    → (all_sound (records_of ms) ≡ true → DurableShown e (fold_from s (records_of ms))) → FoldedBy e s body
folded_by d e s body rs ms shown read same h = (
  rs,
  subst (λ (v : ℕ). SpellsRecords v body rs) (sym shown.version_is) read.0,
  read.1,
  subst (λ (xs : List Record). all_sound (records_of xs) ≡ true → DurableShown e (fold_from s (records_of xs))) same h read.1,
)

pub refused_in : (d : Durable) (s : Server) (body : List ℕ) (x : JournalError) → DurableShown d s → RecordsRefused d.version body x
    → RecordsRefused s.version body x
refused_in d s body x shown h = subst (λ (v : ℕ). RecordsRefused v body x) (sym shown.version_is) h
