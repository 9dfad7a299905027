-- Records that were written are read as they were.
use Rattle.std.proofs.Common.{◌≡◌, ℕ, ◌+◌, List, [], ◌∷◌, ◌++◌, length, refl, sym, ap, subst, ◌∙◌, arith, append_assoc, length-append}
use Rattle.std.proofs.lemmas.List.{append-nil}
use Rattle.std.proofs.lemmas.List.Elements.{All-head, All-tail}
use Rattle.spec_wire.specs.messages.Places.{le}
use Rattle.spec_wire.specs.messages.Table.{Field, Num, Raw, Any, AreWritable, Stands, with_fields}
use Rattle.spec_wire.proofs.messages.Numbers.{length-le}
use Rattle.law_wire.proofs.messages.Rows.{table_again}
use Rattle.journal_bytes.specs.record_bytes.Grammar.{behind_fields, record_table, next_version, IsKept, AreRecords}
use Rattle.journal_bytes.specs.record_bytes.Grammar.{SpellsRecords, IsWritableRecord, AreWritableRecords, record_spelling}
use Rattle.journal_bytes.specs.record_bytes.Grammar.{records_spelling}
use Rattle.journal_bytes.specs.declared.record_bytes.value.Record.{Record}
use Rattle.journal_bytes.proofs.record_bytes.Standing.{behind_front}
use Rattle.journal_bytes.specs.declared.record_bytes.value.Record.TheVariants.{Epoch, Create, Write, SetEnd, SetBasic, SetDelete}
use Rattle.journal_bytes.specs.declared.record_bytes.value.Record.TheVariants.{Rename, Remove, Lock, Shut, Version, Expire}

-- the length of what is written
pub length_written : (fs : List Field) (out : List ℕ) → AreWritable fs → length (with_fields out fs) ≡ behind_fields (length out) fs
length_written [] out fit = refl
length_written (Num w n ∷ fs) out fit = length_written fs (out ++ le w n) fit.1 ∙ ap (λ (k : ℕ). behind_fields k fs)
    (length-append out (le w n) ∙ ap (λ (k : ℕ). length out + k) (length-le w n))
length_written (Raw w b ∷ fs) out fit = length_written fs (out ++ b) fit.1 ∙ ap (λ (k : ℕ). behind_fields k fs)
    (length-append out b ∙ ap (λ (k : ℕ). length out + k) fit.0)
length_written (Any w ∷ fs) out fit = length_written fs (out ++ le w 0) fit ∙ ap (λ (k : ℕ). behind_fields k fs)
    (length-append out (le w 0) ∙ ap (λ (k : ℕ). length out + k) (length-le w 0))

stays_second : (r : Record) → IsKept 2 r → next_version 2 r ≡ 2
stays_second (Epoch told_number) kept = refl
stays_second (Create origin action file path attributes directory time opened) kept = refl
stays_second (Write origin file at time bytes) kept = refl
stays_second (SetEnd origin file size time) kept = refl
stays_second (SetBasic origin file basic) kept = refl
stays_second (SetDelete origin file marked) kept = refl
stays_second (Rename origin file replaced path) kept = refl
stays_second (Remove origin file) kept = refl
stays_second (Lock origin id index tried_number status elements) kept = refl
stays_second (Shut origin id) kept = refl
stays_second (Version told_number) kept = kept
stays_second (Expire origin id) kept = refl

again_first : (r : Record) (rs : List Record) (front : List ℕ) (at : ℕ) → length front ≡ at → IsWritableRecord r
    → AreRecords 2 ((front ++ record_spelling r) ++ records_spelling rs) (behind_fields at (record_table 2 r))
    (length ((front ++ record_spelling r) ++ records_spelling rs)) rs
    → AreRecords 2 (front ++ records_spelling (r ∷ rs)) at (length (front ++ records_spelling (r ∷ rs))) (r ∷ rs)
again_first r rs front at e fit rest = (record { fields = here; kept = fit.kept }, there)
  where
    here : Stands (front ++ (record_spelling r ++ records_spelling rs)) at (record_table 2 r)
    here = table_again (record_table 2 r) front (records_spelling rs) at e fit.fits

    there : AreRecords (next_version 2 r) (front ++ (record_spelling r ++ records_spelling rs))
        (behind_fields at (record_table 2 r)) (length (front ++ (record_spelling r ++ records_spelling rs))) rs
    there = subst (λ (v : ℕ). AreRecords v (front ++ (record_spelling r ++ records_spelling rs))
        (behind_fields at (record_table 2 r)) (length (front ++ (record_spelling r ++ records_spelling rs))) rs)
        (sym (stays_second r fit.kept))
        (subst (λ (l : List ℕ). AreRecords 2 l (behind_fields at (record_table 2 r)) (length l) rs)
        (append_assoc front (record_spelling r) (records_spelling rs)) rest)

size_behind_front : (r : Record) (front : List ℕ) (at : ℕ) → length front ≡ at → IsWritableRecord r
    → length (front ++ record_spelling r) ≡ behind_fields at (record_table 2 r)
size_behind_front r front at e fit = length-append front (record_spelling r) ∙ ap (λ (n : ℕ). length front + n)
    (length_written (record_table 2 r) [] fit.fits)
    ∙ sym (behind_front (length front) 0 (length front) (record_table 2 r) (omega arith))
    ∙ ap (λ (n : ℕ). behind_fields n (record_table 2 r)) e

again_behind : (rs : List Record) (front : List ℕ) (at : ℕ) → length front ≡ at → AreWritableRecords rs
    → AreRecords 2 (front ++ records_spelling rs) at (length (front ++ records_spelling rs)) rs
again_behind [] front at e fit = sym e ∙ sym (ap length (append-nil front))
again_behind (r ∷ rs) front at e fit =
    let first : IsWritableRecord r = All-head IsWritableRecord r rs fit in
    again_first r rs front at e first (again_behind rs (front ++ record_spelling r) (behind_fields at (record_table 2 r))
    (size_behind_front r front at e first) (All-tail IsWritableRecord r rs fit))

pub read_again : (rs : List Record) → AreWritableRecords rs → SpellsRecords 2 (records_spelling rs) rs
read_again rs fit = again_behind rs [] 0 refl fit
