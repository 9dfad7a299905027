-- What bytes say at which a record stands, by the byte that tells its kind.
use Rattle.std.proofs.Common.{◌≡◌, ℕ, ◌+◌, ◌*◌, ◌/◌, ◌<◌, ◌≤◌, ◌==◌, if◌then◌else◌, Bool, List, length, Option}
use Rattle.std.proofs.Common.{sym, ap, subst, ◌∙◌, arith}
use Rattle.std.specs.Prelude.{IsUtf8}
use Rattle.spec_wire.specs.messages.Places.{number, bytes_at}
use Rattle.spec_wire.specs.messages.Table.{Stands}
use Rattle.spec_wire.specs.messages.Utf16.{utf16}
use Rattle.journal_bytes.specs.record_bytes.Grammar.{flag, kind, record_fields, record_table, opened_table, OpenIsKept, StandsRecord}
use Rattle.journal_bytes.specs.declared.record_bytes.value.NewOpen.{NewOpen}
use Rattle.journal_bytes.specs.declared.record_bytes.value.Record.{Record}
use Rattle.journal_bytes.specs.declared.record_bytes.value.Record.TheVariants.{Epoch, Create, Write, SetEnd, SetBasic, SetDelete}
use Rattle.journal_bytes.specs.declared.record_bytes.value.Record.TheVariants.{Rename, Remove, Lock, Shut, Version, Expire}
use Rattle.journal_bytes.proofs.record_bytes.Standing.{ends_inside, ends_later}

-- ---- the kinds that have always the same size

abbrev pub fixed_size : ℕ → ℕ
fixed_size k = if k == 1 then 5 else if k == 4 then 45 else if k == 5 then 65 else if k == 8 then 29 else if k == 10
    then 29 else if k == 12 then 29 else 0

fits : (v : ℕ) (m : List ℕ) (r : Record) → StandsRecord v m 0 r → fixed_size (kind r) ≤ length m
fits v m (Epoch told_number) s = ends_inside m 0 (record_table v (Epoch told_number)) s.fields
fits v m (Create origin action file path attributes directory time opened) s = omega arith
fits v m (Write origin file at time bytes) s = omega arith
fits v m (SetEnd origin file size time) s = ends_inside m 0 (record_table v (SetEnd origin file size time)) s.fields
fits v m (SetBasic origin file basic) s = ends_inside m 0 (record_table v (SetBasic origin file basic)) s.fields
fits v m (SetDelete origin file marked) s = omega arith
fits v m (Rename origin file replaced path) s = omega arith
fits v m (Remove origin file) s = ends_inside m 0 (record_table v (Remove origin file)) s.fields
fits v m (Lock origin id index tried_number status elements) s = omega arith
fits v m (Shut origin id) s = ends_inside m 0 (record_table v (Shut origin id)) s.fields
fits v m (Version told_number) s = omega arith
fits v m (Expire origin id) s = ends_inside m 0 (record_table v (Expire origin id)) s.fields

pub too_short : (v : ℕ) (m : List ℕ) (k : ℕ) → number 1 m 0 ≡ k → length m < fixed_size k → (r : Record) → StandsRecord v m 0 r → ⊥
too_short v m k is short r s =
    let fit : fixed_size k ≤ length m = subst (λ (n : ℕ). fixed_size n ≤ length m) (sym s.fields.0 ∙ is) (fits v m r s) in
    omega (arith, fit, short)

-- ---- any record

pub no_bytes : (v : ℕ) (m : List ℕ) → length m < 1 → (r : Record) → StandsRecord v m 0 r → ⊥
no_bytes v m short r s =
    let end = ends_inside m 1 (record_fields v r) s.fields.1 in
    let later = ends_later 1 (record_fields v r) in
    omega (arith, end, later, short)

known : (r : Record) → (0 < kind r) × (kind r ≤ 12)
known (Epoch told_number) = (omega arith, omega arith)
known (Create origin action file path attributes directory time opened) = (omega arith, omega arith)
known (Write origin file at time bytes) = (omega arith, omega arith)
known (SetEnd origin file size time) = (omega arith, omega arith)
known (SetBasic origin file basic) = (omega arith, omega arith)
known (SetDelete origin file marked) = (omega arith, omega arith)
known (Rename origin file replaced path) = (omega arith, omega arith)
known (Remove origin file) = (omega arith, omega arith)
known (Lock origin id index tried_number status elements) = (omega arith, omega arith)
known (Shut origin id) = (omega arith, omega arith)
known (Version told_number) = (omega arith, omega arith)
known (Expire origin id) = (omega arith, omega arith)

pub is_known : (v : ℕ) (m : List ℕ) (r : Record) → StandsRecord v m 0 r → (0 < number 1 m 0) × (number 1 m 0 ≤ 12)
is_known v m r s = subst (λ (n : ℕ). (0 < n) × (n ≤ 12)) (sym s.fields.0) (known r)

-- ---- the other kinds

-- what is written fits
pub write_says : (v : ℕ) (m : List ℕ) → number 1 m 0 ≡ 3 → (r : Record) → StandsRecord v m 0 r → 49 + number 4 m 45 ≤ length m
write_says v m is (Epoch told_number) s = absurd (omega (arith, s.fields.0, is))
write_says v m is (Create origin action file path attributes directory time opened) s = absurd (omega (arith, s.fields.0, is))
write_says v m is (Write origin file at time bytes) s =
    let size = s.fields.1.1.1.1.1.1.1.0 in
    let end : 49 + length bytes ≤ length m = ends_inside m 0 (record_table v (Write origin file at time bytes)) s.fields in
    omega (arith, size, end)
write_says v m is (SetEnd origin file size time) s = absurd (omega (arith, s.fields.0, is))
write_says v m is (SetBasic origin file basic) s = absurd (omega (arith, s.fields.0, is))
write_says v m is (SetDelete origin file marked) s = absurd (omega (arith, s.fields.0, is))
write_says v m is (Rename origin file replaced path) s = absurd (omega (arith, s.fields.0, is))
write_says v m is (Remove origin file) s = absurd (omega (arith, s.fields.0, is))
write_says v m is (Lock origin id index tried_number status elements) s = absurd (omega (arith, s.fields.0, is))
write_says v m is (Shut origin id) s = absurd (omega (arith, s.fields.0, is))
write_says v m is (Version told_number) s = absurd (omega (arith, s.fields.0, is))
write_says v m is (Expire origin id) s = absurd (omega (arith, s.fields.0, is))

pub record DeleteSays (m : List ℕ) : Type 0 where
  pub fits : 30 ≤ length m
  pub marked : Bool
  pub told : flag marked ≡ number 1 m 29

-- the mark is 0 or 1
pub delete_says : (v : ℕ) (m : List ℕ) → number 1 m 0 ≡ 6 → (r : Record) → StandsRecord v m 0 r → DeleteSays m
delete_says v m is (Epoch told_number) s = absurd (omega (arith, s.fields.0, is))
delete_says v m is (Create origin action file path attributes directory time opened) s = absurd (omega (arith, s.fields.0, is))
delete_says v m is (Write origin file at time bytes) s = absurd (omega (arith, s.fields.0, is))
delete_says v m is (SetEnd origin file size time) s = absurd (omega (arith, s.fields.0, is))
delete_says v m is (SetBasic origin file basic) s = absurd (omega (arith, s.fields.0, is))
delete_says v m is (SetDelete origin file marked) s =
    let told = s.fields.1.1.1.1.1.0 in
    record { fits = ends_inside m 0 (record_table v (SetDelete origin file marked)) s.fields; marked = marked; told = sym told }
delete_says v m is (Rename origin file replaced path) s = absurd (omega (arith, s.fields.0, is))
delete_says v m is (Remove origin file) s = absurd (omega (arith, s.fields.0, is))
delete_says v m is (Lock origin id index tried_number status elements) s = absurd (omega (arith, s.fields.0, is))
delete_says v m is (Shut origin id) s = absurd (omega (arith, s.fields.0, is))
delete_says v m is (Version told_number) s = absurd (omega (arith, s.fields.0, is))
delete_says v m is (Expire origin id) s = absurd (omega (arith, s.fields.0, is))

-- a text behind its length
pub record TextSays (m : List ℕ) (at : ℕ) (text : List ℕ) : Type 0 where
  pub is_text : IsUtf8 text
  pub size : number 2 m at ≡ length (utf16 text)
  pub bytes : bytes_at (length (utf16 text)) m (at + 2) ≡ utf16 text

pub record RenameSays (m : List ℕ) : Type 0 where
  pub fits : 39 + number 2 m 37 ≤ length m
  pub path : List ℕ
  pub says : TextSays m 37 path

-- the path is a text
pub rename_says : (v : ℕ) (m : List ℕ) → number 1 m 0 ≡ 7 → (r : Record) → StandsRecord v m 0 r → RenameSays m
rename_says v m is (Epoch told_number) s = absurd (omega (arith, s.fields.0, is))
rename_says v m is (Create origin action file path attributes directory time opened) s = absurd (omega (arith, s.fields.0, is))
rename_says v m is (Write origin file at time bytes) s = absurd (omega (arith, s.fields.0, is))
rename_says v m is (SetEnd origin file size time) s = absurd (omega (arith, s.fields.0, is))
rename_says v m is (SetBasic origin file basic) s = absurd (omega (arith, s.fields.0, is))
rename_says v m is (SetDelete origin file marked) s = absurd (omega (arith, s.fields.0, is))
rename_says v m is (Rename origin file replaced path) s =
    let size = s.fields.1.1.1.1.1.1.0 in
    let bytes = s.fields.1.1.1.1.1.1.1.0 in
    let end : 39 + length (utf16 path) ≤ length m = ends_inside m 0 (record_table v (Rename origin file replaced path)) s.fields in
    record { fits = omega (arith, size, end); path = path; says = record { is_text = s.kept; size = size; bytes = bytes } }
rename_says v m is (Remove origin file) s = absurd (omega (arith, s.fields.0, is))
rename_says v m is (Lock origin id index tried_number status elements) s = absurd (omega (arith, s.fields.0, is))
rename_says v m is (Shut origin id) s = absurd (omega (arith, s.fields.0, is))
rename_says v m is (Version told_number) s = absurd (omega (arith, s.fields.0, is))
rename_says v m is (Expire origin id) s = absurd (omega (arith, s.fields.0, is))

-- the elements fit
pub lock_says : (v : ℕ) (m : List ℕ) → number 1 m 0 ≡ 9 → (r : Record) → StandsRecord v m 0 r → 37 + 24 * number 2 m 35 ≤ length m
lock_says v m is (Epoch told_number) s = absurd (omega (arith, s.fields.0, is))
lock_says v m is (Create origin action file path attributes directory time opened) s = absurd (omega (arith, s.fields.0, is))
lock_says v m is (Write origin file at time bytes) s = absurd (omega (arith, s.fields.0, is))
lock_says v m is (SetEnd origin file size time) s = absurd (omega (arith, s.fields.0, is))
lock_says v m is (SetBasic origin file basic) s = absurd (omega (arith, s.fields.0, is))
lock_says v m is (SetDelete origin file marked) s = absurd (omega (arith, s.fields.0, is))
lock_says v m is (Rename origin file replaced path) s = absurd (omega (arith, s.fields.0, is))
lock_says v m is (Remove origin file) s = absurd (omega (arith, s.fields.0, is))
lock_says v m is (Lock origin id index tried_number status elements) s =
    let count = s.fields.1.1.1.1.1.1.1.1.0 in
    let end : 37 + 24 * (length elements / 24) ≤ length m =
    ends_inside m 0 (record_table v (Lock origin id index tried_number status elements)) s.fields in
    omega (arith, count, end)
lock_says v m is (Shut origin id) s = absurd (omega (arith, s.fields.0, is))
lock_says v m is (Version told_number) s = absurd (omega (arith, s.fields.0, is))
lock_says v m is (Expire origin id) s = absurd (omega (arith, s.fields.0, is))

-- the version is 2
pub version_says : (v : ℕ) (m : List ℕ) → number 1 m 0 ≡ 11 → (r : Record) → StandsRecord v m 0 r → (5 ≤ length m) × (number 4 m 1 ≡ 2)
version_says v m is (Epoch told_number) s = absurd (omega (arith, s.fields.0, is))
version_says v m is (Create origin action file path attributes directory time opened) s = absurd (omega (arith, s.fields.0, is))
version_says v m is (Write origin file at time bytes) s = absurd (omega (arith, s.fields.0, is))
version_says v m is (SetEnd origin file size time) s = absurd (omega (arith, s.fields.0, is))
version_says v m is (SetBasic origin file basic) s = absurd (omega (arith, s.fields.0, is))
version_says v m is (SetDelete origin file marked) s = absurd (omega (arith, s.fields.0, is))
version_says v m is (Rename origin file replaced path) s = absurd (omega (arith, s.fields.0, is))
version_says v m is (Remove origin file) s = absurd (omega (arith, s.fields.0, is))
version_says v m is (Lock origin id index tried_number status elements) s = absurd (omega (arith, s.fields.0, is))
version_says v m is (Shut origin id) s = absurd (omega (arith, s.fields.0, is))
version_says v m is (Version told_number) s =
    let told = s.fields.1.0 in
    (ends_inside m 0 (record_table v (Version told_number)) s.fields, told ∙ s.kept)
version_says v m is (Expire origin id) s = absurd (omega (arith, s.fields.0, is))

pub record CreateSays (v : ℕ) (m : List ℕ) : Type 0 where
  pub path : List ℕ
  pub says : TextSays m 33 path
  pub directory : Bool
  pub told : flag directory ≡ number 1 m (39 + length (utf16 path))
  pub opened : Option NewOpen
  pub stands : Stands m (48 + length (utf16 path)) (opened_table v opened)
  pub kept : OpenIsKept v opened

-- the path is a text, whether it is a directory is 0 or 1, and then stands what was opened
pub create_says : (v : ℕ) (m : List ℕ) → number 1 m 0 ≡ 2 → (r : Record) → StandsRecord v m 0 r → CreateSays v m
create_says v m is (Epoch told_number) s = absurd (omega (arith, s.fields.0, is))
create_says v m is (Create origin action file path attributes directory time opened) s =
    let size = s.fields.1.1.1.1.1.1.0 in
    let bytes = s.fields.1.1.1.1.1.1.1.0 in
    let told = s.fields.1.1.1.1.1.1.1.1.1.0 in
    let rest = s.fields.1.1.1.1.1.1.1.1.1.1.1 in
    let place : 35 + length (utf16 path) + 4 ≡ 39 + length (utf16 path) = omega arith in
    let last : 35 + length (utf16 path) + 4 + 1 + 8 ≡ 48 + length (utf16 path) = omega arith in
    record {
      path = path;
      says = record { is_text = s.kept.0; size = size; bytes = bytes };
      directory = directory;
      told = sym told ∙ ap (λ (p : ℕ). number 1 m p) place;
      opened = opened;
      stands = subst (λ (p : ℕ). Stands m p (opened_table v opened)) last rest;
      kept = s.kept.1;
    }
create_says v m is (Write origin file at time bytes) s = absurd (omega (arith, s.fields.0, is))
create_says v m is (SetEnd origin file size time) s = absurd (omega (arith, s.fields.0, is))
create_says v m is (SetBasic origin file basic) s = absurd (omega (arith, s.fields.0, is))
create_says v m is (SetDelete origin file marked) s = absurd (omega (arith, s.fields.0, is))
create_says v m is (Rename origin file replaced path) s = absurd (omega (arith, s.fields.0, is))
create_says v m is (Remove origin file) s = absurd (omega (arith, s.fields.0, is))
create_says v m is (Lock origin id index tried_number status elements) s = absurd (omega (arith, s.fields.0, is))
create_says v m is (Shut origin id) s = absurd (omega (arith, s.fields.0, is))
create_says v m is (Version told_number) s = absurd (omega (arith, s.fields.0, is))
create_says v m is (Expire origin id) s = absurd (omega (arith, s.fields.0, is))
