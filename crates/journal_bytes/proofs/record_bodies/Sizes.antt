-- How many bytes a body takes.
use Rattle.std.proofs.Common.{◌≡◌, ℕ, ◌+◌, ◌≤◌, ◌==◌, ◌||◌, nat_le, Bool, true, false, List, [], ◌∷◌, length}
use Rattle.std.proofs.Common.{refl, sym, ap, subst, ◌∙◌, arith}
use Rattle.spec_exchange.specs.State as model
use Rattle.spec_exchange.specs.State.{Server, EpochRecord, CreateRecord, WriteRecord, EndRecord, BasicRecord, DeleteRecord}
use Rattle.spec_exchange.specs.State.{RenameRecord, RemoveRecord, LockRecord, CloseRecord, VersionRecord, ExpireRecord}
use Rattle.spec_exchange.specs.Records.{record_size, records_size, entry_bytes, fits}
use Rattle.journal_bytes.specs.record_bytes.Grammar.{SpellsRecords}
use Rattle.journal_bytes.specs.record_bytes.Meaning.{record_of, records_of}
use Rattle.journal_bytes.specs.declared.record_bytes.value.Record.{Record}
use Rattle.journal_bytes.proofs.record_bytes.Sizes.{written_size}
use Rattle.journal_bytes.proofs.record_bytes.Again.{read_again}
use Rattle.journal_bytes.specs.record_bodies.Body.{IsBody, IsBodyOf, added_by, fits_by}

five : (r : model.Record) → 5 ≤ record_size r
unfolding record_size
five (EpochRecord number) = omega arith
five (CreateRecord origin action f path attributes is_dir time opened) = omega arith
five (WriteRecord origin f at time bytes) = omega arith
five (EndRecord origin f size time) = omega arith
five (BasicRecord origin f basic) = omega arith
five (DeleteRecord origin f flag) = omega arith
five (RenameRecord origin f replaced path) = omega arith
five (RemoveRecord origin f) = omega arith
five (LockRecord origin o index number status elements) = omega arith
five (CloseRecord origin o) = omega arith
five (VersionRecord number) = omega arith
five (ExpireRecord origin o) = omega arith

several : (r : model.Record) (rs : List model.Record) → 5 ≤ records_size (r ∷ rs)
unfolding records_size
several r rs = let h = five r in omega (arith, h)

added_more : (body : List ℕ) → 5 ≤ length body → added_by body ≡ 5 + length body
added_more [] h = absurd (omega (arith, h))
added_more (c ∷ cs) h = refl

entry_more : (r : model.Record) (rs : List model.Record) → 5 + records_size (r ∷ rs) ≡ entry_bytes (r ∷ rs)
unfolding entry_bytes
entry_more r rs = refl

no_entry : entry_bytes [] ≡ 0
unfolding entry_bytes
no_entry = refl

as_many : (body : List ℕ) (r : Record) (rs : List Record) → IsBody body (r ∷ rs) → length body ≡ records_size (records_of (r ∷ rs))
as_many body r rs is = ap (λ (m : List ℕ). length m) is.1 ∙ written_size (r ∷ rs) is.0

pub added : (body : List ℕ) (rs : List model.Record) → IsBodyOf body rs → added_by body ≡ entry_bytes rs
added body rs is = by is.0 is.1 is.2
  where
    by : (front : List Record) → records_of front ≡ rs → IsBody body front → added_by body ≡ entry_bytes rs
    by [] e b = ap (λ (m : List ℕ). added_by m) b ∙ (sym no_entry ∙ ap (λ (v : List model.Record). entry_bytes v) e)
    by (r ∷ front) e b =
        let n = as_many body r front b in
        let some = several (record_of r) (records_of front) in
        added_more body (omega (arith, n, some))
        ∙ (ap (λ (k : ℕ). 5 + k) n
        ∙ (entry_more (record_of r) (records_of front) ∙ ap (λ (v : List model.Record). entry_bytes v) e))

none_fits : (s : Server) → fits s [] ≡ true
unfolding fits
none_fits s = refl

some_fit : (s : Server) (r : model.Record) (rs : List model.Record) → s.limit ≡ 939524096
    → fits s (r ∷ rs) ≡ nat_le (s.journal + (5 + records_size (r ∷ rs))) 939524096
unfolding fits entry_bytes
some_fit s r rs h = ap (λ (n : ℕ). nat_le (s.journal + (5 + records_size (r ∷ rs))) n) h

fits_more : (j m n : ℕ) → n ≡ m → 5 ≤ m → nat_le (j + (5 + m)) 939524096 ≡ fits_by j n
fits_more j m n e h =
    let off : (n == 0) ≡ false = grind arith in
    skip (n == 0) (nat_le (j + (5 + m)) 939524096) (nat_le (j + 5 + n) 939524096) off
    (ap (λ (k : ℕ). nat_le k 939524096) (omega (arith, e)))
  where
    skip : (b v w : Bool) → b ≡ false → v ≡ w → v ≡ (b || w)
    skip true v w e i = absurd (cc)
    skip false v w e i = i

pub fits_as : (s : Server) (body : List ℕ) (rs : List model.Record) → s.limit ≡ 939524096 → IsBodyOf body rs
    → fits s rs ≡ fits_by s.journal (length body)
fits_as s body rs whole is = by is.0 is.1 is.2
  where
    by : (front : List Record) → records_of front ≡ rs → IsBody body front → fits s rs ≡ fits_by s.journal (length body)
    by [] e b =
        sym (ap (λ (v : List model.Record). fits s v) e)
        ∙ (none_fits s ∙ ap (λ (m : List ℕ). fits_by s.journal (length m)) (sym b))
    by (r ∷ front) e b =
        sym (ap (λ (v : List model.Record). fits s v) e)
        ∙ (some_fit s (record_of r) (records_of front) whole
        ∙ fits_more s.journal (records_size (records_of (r ∷ front))) (length body) (as_many body r front b)
        (several (record_of r) (records_of front)))

pub again : (body : List ℕ) (r : Record) (rs : List Record) → IsBody body (r ∷ rs) → SpellsRecords 2 body (r ∷ rs)
again body r rs is = subst (λ (m : List ℕ). SpellsRecords 2 m (r ∷ rs)) (sym is.1) (read_again (r ∷ rs) is.0)
