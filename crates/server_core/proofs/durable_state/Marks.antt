-- The marks that a start clears, as records.
use Rattle.std.proofs.Common.{◌≡◌, ℕ, ◌==◌, Bool, true, false, not, ◌&&◌, if◌then◌else◌, List, [], ◌∷◌, ◌++◌, map, sym, ap}
use Rattle.std.proofs.Common.{◌∙◌, append_assoc, Result, Ok, Err, OnOk}
use Rattle.std.proofs.lemmas.List.{append-nil, map-append}
use Rattle.std.specs.BTreeSet.{IsOrdered}
use Rattle.std.specs.Ordering.{nat_cmp}
use Rattle.spec_exchange.specs.State as model
use Rattle.spec_exchange.specs.State.{Server, DeleteRecord}
use Rattle.spec_exchange.specs.Files.{root, exists}
use Rattle.spec_exchange.specs.Opens.{file_has_open}
use Rattle.spec_exchange.specs.Records.{origin_at}
use Rattle.spec_exchange.specs.Fold.{unmark_records}
use Rattle.law_server.specs.tables.Fits.{Fits}
use Rattle.law_records.specs.fold.Order.{mark_at, marks_of}
use Rattle.law_records.proofs.fold.Marks.{marks_whole}
use Rattle.journal_bytes.specs.record_bytes.Meaning.{record_of, records_of}
use Rattle.journal_bytes.specs.declared.record_bytes.value.Record.{Record}
use Rattle.journal_bytes.specs.declared.record_bytes.value.Record.TheVariants.{SetDelete}
use Rattle.server_core.specs.durable_state.Durable.{DurableShown}
use Rattle.server_core.specs.declared.durable_state.durable.Durable.{Durable}
use Rattle.server_core.proofs.durable_state.Keys.{ascending_keys, has_key}

-- the test of one of them
abbrev pub is_left : Server → ℕ → Bool
is_left s f = not (f == root) && ((exists s f && s.delete_pending f) && not (file_has_open s f))

pub none_at : (s : Server) (f : ℕ) (rs : List model.Record) → is_left s f ≡ false → rs ≡ rs ++ mark_at s f
none_at s f rs e = sym (append-nil rs)
    ∙ ap (λ (b : Bool). rs ++ (if b then DeleteRecord (origin_at 0) f false ∷ [] else [])) (sym e)

on_ok_by : {T E P Q : Type 0} (r : Result T E) → OnOk r P → (P → Q) → OnOk r Q
on_ok_by (Ok x) p f = f p
on_ok_by (Err e) p f = tt

pub more_marks : {T E : Type 0} (r : Result T E) (s : Server) (f : ℕ) (origin : model.Origin) (old new : List Record)
    → origin ≡ origin_at 0 → OnOk r (new ≡ old ++ SetDelete origin f false ∷ []) → is_left s f ≡ true
    → OnOk r (records_of new ≡ records_of old ++ mark_at s f)
more_marks r s f origin old new o p e = on_ok_by r p (λ q.
    ap (λ (v : List Record). map record_of v) q ∙ (map-append record_of old (SetDelete origin f false ∷ [])
    ∙ (ap (λ (x : model.Origin). records_of old ++ DeleteRecord x f false ∷ []) o
    ∙ ap (λ (b : Bool). records_of old ++ (if b then DeleteRecord (origin_at 0) f false ∷ [] else [])) (sym e))))

-- one more of them
pub marks_front : (s : Server) (f : ℕ) (fs rest : List ℕ) (old new : List Record) → fs ≡ f ∷ rest
    → records_of new ≡ records_of old ++ mark_at s f → records_of new ++ marks_of s rest ≡ records_of old ++ marks_of s fs
unfolding marks_of
marks_front s f fs rest old new e h =
    ap (λ (v : List model.Record). v ++ marks_of s rest) h ∙ (append_assoc (records_of old) (mark_at s f) (marks_of s rest)
    ∙ ap (λ (v : List ℕ). records_of old ++ marks_of s v) (sym e))

-- and no more
pub marks_end : (s : Server) (fs : List ℕ) (rs : List model.Record) → fs ≡ [] → rs ≡ rs ++ marks_of s fs
unfolding marks_of
marks_end s fs rs e = sym (append-nil rs) ∙ ap (λ (v : List ℕ). rs ++ marks_of s v) (sym e)

-- the marks of the same files
pub marks_over : (s : Server) (fs gs : List ℕ) (before now : List model.Record) → now ≡ before ++ marks_of s gs → gs ≡ fs
    → now ≡ before ++ marks_of s fs
marks_over s fs gs before now e same = e ∙ ap (λ (v : List ℕ). before ++ marks_of s v) same

pub marks_told : {T E : Type 0} (r : Result T E) (d : Durable) (s : Server) (old new : List Record) → Fits s → DurableShown d s
    → IsOrdered nat_cmp d.pending → OnOk r (records_of new ≡ records_of old ++ marks_of s d.pending.keys)
    → OnOk r (records_of new ≡ records_of old ++ unmark_records s s.entries)
marks_told r d s old new i h ordered told = on_ok_by r told (λ e.
    e ∙ ap (λ (v : List model.Record). records_of old ++ v)
    (sym (marks_whole s d.pending.keys i h.ascend (ascending_keys d.pending.keys ordered)
    (λ f t m. has_key d.pending.keys f (h.pending f t m)))))
