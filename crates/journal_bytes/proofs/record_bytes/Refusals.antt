-- Why bytes begin with no record of their kind, or with no open.
use Rattle.std.proofs.Common.{◌≡◌, ℕ, ◌+◌, ◌*◌, ◌/◌, ◌<◌, ◌≤◌, Bool, List, length, Option, Some, None, sym, ap, subst, ◌∙◌, arith}
use Rattle.std.specs.Prelude.{IsUtf8}
use Rattle.spec_wire.specs.messages.Places.{number, bytes_at}
use Rattle.spec_wire.specs.messages.Table.{Stands}
use Rattle.spec_wire.specs.messages.Utf16.{utf16}
use Rattle.spec_wire.proofs.messages.Numbers.{length-bytes_at}
use Rattle.journal_bytes.specs.record_bytes.Grammar.{flag, opened_table, timeout_table, OpenIsKept, IsRecordTimeout, StandsRecord}
use Rattle.journal_bytes.specs.declared.record_bytes.value.NewOpen.{NewOpen}
use Rattle.journal_bytes.specs.declared.record_bytes.value.Record.{Record}
use Rattle.journal_bytes.proofs.record_bytes.Standing.{ends_inside, ends_later}
use Rattle.journal_bytes.proofs.record_bytes.Told.{TextSays, write_says, delete_says, rename_says, lock_says, version_says, create_says}

-- a text that stands where these bytes stand spells them
same_text : (m : List ℕ) (at : ℕ) (bytes text : List ℕ) → TextSays m at text → number 2 m at ≡ length bytes
    → bytes_at (length bytes) m (at + 2) ≡ bytes → utf16 text ≡ bytes
same_text m at bytes text says size is = sym says.bytes ∙ ap (λ (n : ℕ). bytes_at n m (at + 2)) (sym says.size ∙ size) ∙ is

pub begins_inside : (m : List ℕ) (at : ℕ) (v : ℕ) (o : Option NewOpen) → Stands m at (opened_table v o) → at + 1 ≤ length m
begins_inside m at v None s = s.1
begins_inside m at v (Some n) s = let end = ends_inside m at (opened_table v (Some n)) s in let later =
    ends_later (at + 1 + 8 + 16 + 16 + 2 + length (utf16 n.user) + 4 + 4 + 4) (timeout_table v n.timeout) in
    omega (arith, end, later)

-- ---- kinds

pub write_short : (v : ℕ) (m : List ℕ) → number 1 m 0 ≡ 3 → length m < 49 + number 4 m 45 → (r : Record) → StandsRecord v m 0 r → ⊥
write_short v m is short r s = omega (arith, write_says v m is r s, short)

pub lock_short : (v : ℕ) (m : List ℕ) → number 1 m 0 ≡ 9 → length m < 37 + 24 * number 2 m 35 → (r : Record) → StandsRecord v m 0 r → ⊥
lock_short v m is short r s = omega (arith, lock_says v m is r s, short)

-- the elements that stand there are whole
pub lock_size : (m b : List ℕ) → bytes_at (24 * (length b / 24)) m 37 ≡ b → 37 + 24 * (length b / 24) ≤ length m
    → length b ≡ 24 * (length b / 24)
lock_size m b is inside = sym (ap length is) ∙ length-bytes_at (24 * (length b / 24)) m 37 inside

pub delete_short : (v : ℕ) (m : List ℕ) → number 1 m 0 ≡ 6 → length m < 30 → (r : Record) → StandsRecord v m 0 r → ⊥
delete_short v m is short r s = let fit : 30 ≤ length m = (delete_says v m is r s).fits in omega (arith, fit, short)

pub delete_flag : (v : ℕ) (m : List ℕ) (byte : ℕ) → number 1 m 0 ≡ 6 → number 1 m 29 ≡ byte
    → ((b : Bool) → flag b ≡ byte → ⊥) → (r : Record) → StandsRecord v m 0 r → ⊥
delete_flag v m byte is told none r s = let d = delete_says v m is r s in none d.marked (d.told ∙ told)

pub version_short : (v : ℕ) (m : List ℕ) → number 1 m 0 ≡ 11 → length m < 5 → (r : Record) → StandsRecord v m 0 r → ⊥
version_short v m is short r s = let fit : 5 ≤ length m = (version_says v m is r s).0 in omega (arith, fit, short)

pub version_other : (v : ℕ) (m : List ℕ) (n : ℕ) → number 1 m 0 ≡ 11 → number 4 m 1 ≡ n → (n ≡ 2 → ⊥) → (r : Record)
    → StandsRecord v m 0 r → ⊥
version_other v m n is told other r s = other (sym told ∙ (version_says v m is r s).1)

pub rename_short : (v : ℕ) (m : List ℕ) → number 1 m 0 ≡ 7 → length m < 39 + number 2 m 37 → (r : Record) → StandsRecord v m 0 r → ⊥
rename_short v m is short r s = let fit : 39 + number 2 m 37 ≤ length m = (rename_says v m is r s).fits in omega (arith, fit, short)

pub rename_text : (v : ℕ) (m bytes : List ℕ) → number 1 m 0 ≡ 7 → number 2 m 37 ≡ length bytes → bytes_at (length bytes)
    m 39 ≡ bytes → ((text : List ℕ) → IsUtf8 text → utf16 text ≡ bytes → ⊥)
    → (r : Record) → StandsRecord v m 0 r → ⊥
rename_text v m bytes is size told none r s = let d = rename_says v m is r s in none d.path d.says.is_text
    (same_text m 37 bytes d.path d.says size told)

pub create_short : (v : ℕ) (m : List ℕ) → number 1 m 0 ≡ 2 → length m < 48 + number 2 m 33 → (r : Record) → StandsRecord v m 0 r → ⊥
create_short v m is short r s =
    let d = create_says v m is r s in
    let fit : 48 + length (utf16 d.path) + 1 ≤ length m = begins_inside m (48 + length (utf16 d.path)) v d.opened d.stands in
    let size : number 2 m 33 ≡ length (utf16 d.path) = d.says.size in
    omega (arith, fit, size, short)

pub create_flag : (v : ℕ) (m bytes : List ℕ) (byte : ℕ) → number 1 m 0 ≡ 2 → number 2 m 33 ≡ length bytes
    → number 1 m (35 + length bytes + 4) ≡ byte → ((b : Bool) → flag b ≡ byte → ⊥)
    → (r : Record) → StandsRecord v m 0 r → ⊥
create_flag v m bytes byte is size told none r s =
    let d = create_says v m is r s in
    let same : number 2 m 33 ≡ length (utf16 d.path) = d.says.size in
    let place : 39 + length (utf16 d.path) ≡ 35 + length bytes + 4 = omega (arith, size, same) in
    none d.directory (d.told ∙ ap (λ (p : ℕ). number 1 m p) place ∙ told)

pub create_text : (v : ℕ) (m bytes : List ℕ) → number 1 m 0 ≡ 2 → number 2 m 33 ≡ length bytes → bytes_at (length bytes)
    m 35 ≡ bytes → ((text : List ℕ) → IsUtf8 text → utf16 text ≡ bytes → ⊥)
    → (r : Record) → StandsRecord v m 0 r → ⊥
create_text v m bytes is size told none r s = let d = create_says v m is r s in none d.path d.says.is_text
    (same_text m 33 bytes d.path d.says size told)

pub create_opened : (v : ℕ) (m bytes : List ℕ) (at : ℕ) → number 1 m 0 ≡ 2 → number 2 m 33 ≡ length bytes → at
    ≡ 35 + length bytes + 4 + 1 + 8
    → ((o : Option NewOpen) → Stands m at (opened_table v o) → OpenIsKept v o → ⊥) → (r : Record) → StandsRecord v m 0 r → ⊥
create_opened v m bytes at is size at_is none r s =
    let d = create_says v m is r s in
    let same : number 2 m 33 ≡ length (utf16 d.path) = d.says.size in
    let place : 48 + length (utf16 d.path) ≡ at = omega (arith, size, same, at_is) in
    none d.opened (subst (λ (p : ℕ). Stands m p (opened_table v d.opened)) place d.stands) d.kept

-- ---- opens

pub opened_short : (v : ℕ) (m : List ℕ) (at : ℕ) → length m < at + 1 → (o : Option NewOpen)
    → Stands m at (opened_table v o) → OpenIsKept v o → ⊥
opened_short v m at short o s kept = omega (arith, begins_inside m at v o s, short)

pub opened_told : (v : ℕ) (m : List ℕ) (at byte : ℕ) → byte ≡ number 1 m at → (byte ≡ 0 → ⊥) → (byte ≡ 1 → ⊥)
    → (o : Option NewOpen) → Stands m at (opened_table v o) → OpenIsKept v o → ⊥
opened_told v m at byte is none some None s kept = none (is ∙ s.0)
opened_told v m at byte is none some (Some n) s kept = some (is ∙ s.0)

pub record OpenSays (v : ℕ) (m : List ℕ) (at : ℕ) : Type 0 where
  pub user : List ℕ
  pub says : TextSays m (at + 41) user
  pub timeout : ℕ
  pub stands : Stands m (at + 55 + length (utf16 user)) (timeout_table v timeout)
  pub kept : IsRecordTimeout v timeout

open_says : (v : ℕ) (m : List ℕ) (at : ℕ) (o : Option NewOpen) → (number 1 m at ≡ 0 → ⊥)
    → Stands m at (opened_table v o) → OpenIsKept v o → OpenSays v m at
open_says v m at None some s kept = absurd (some s.0)
open_says v m at (Some n) some s kept =
    let size = s.1.1.1.1.0 in
    let bytes = s.1.1.1.1.1.0 in
    let rest = s.1.1.1.1.1.1.1.1.1 in
    let place : at + 1 + 8 + 16 + 16 ≡ at + 41 = omega arith in
    let behind_it : at + 1 + 8 + 16 + 16 + 2 ≡ at + 41 + 2 = omega arith in
    let last : at + 1 + 8 + 16 + 16 + 2 + length (utf16 n.user) + 4 + 4 + 4 ≡ at + 55 + length (utf16 n.user) = omega arith in
    record {
      user = n.user;
      says = record {
        is_text = kept.0;
        size = ap (λ (p : ℕ). number 2 m p) (sym place) ∙ size;
        bytes = ap (λ (p : ℕ). bytes_at (length (utf16 n.user)) m p) (sym behind_it) ∙ bytes;
      };
      timeout = n.timeout;
      stands = subst (λ (p : ℕ). Stands m p (timeout_table v n.timeout)) last rest;
      kept = kept.1;
    }

pub open_short : (v : ℕ) (m : List ℕ) (at : ℕ) → (number 1 m at ≡ 0 → ⊥)
    → length m < at + 1 + (54 + number 2 m (at + 1 + 40)) → (o : Option NewOpen) → Stands m at (opened_table v o)
    → OpenIsKept v o → ⊥
open_short v m at some short o s kept =
    let d = open_says v m at o some s kept in
    let end = ends_inside m (at + 55 + length (utf16 d.user)) (timeout_table v d.timeout) d.stands in
    let later = ends_later (at + 55 + length (utf16 d.user)) (timeout_table v d.timeout) in
    let size : number 2 m (at + 41) ≡ length (utf16 d.user) = d.says.size in
    let place : number 2 m (at + 1 + 40) ≡ number 2 m (at + 41) = ap (λ (p : ℕ). number 2 m p) (omega arith) in
    omega (arith, end, later, size, place, short)

pub open_text : (v : ℕ) (m bytes : List ℕ) (at : ℕ) → (number 1 m at ≡ 0 → ⊥) → number 2 m (at + 1 + 8 + 16 + 16)
    ≡ length bytes → bytes_at (length bytes) m (at + 1 + 8 + 16 + 16 + 2) ≡ bytes
    → ((text : List ℕ) → IsUtf8 text → utf16 text ≡ bytes → ⊥) → (o : Option NewOpen) → Stands m at (opened_table v o) → OpenIsKept v o → ⊥
open_text v m bytes at some size told none o s kept =
    let d = open_says v m at o some s kept in
    let place : at + 41 ≡ at + 1 + 8 + 16 + 16 = omega arith in
    let behind_it : at + 41 + 2 ≡ at + 1 + 8 + 16 + 16 + 2 = omega arith in
    none d.user d.says.is_text (same_text m (at + 41) bytes d.user d.says (ap (λ (p : ℕ). number 2 m p) place ∙ size)
    (ap (λ (p : ℕ). bytes_at (length bytes) m p) behind_it ∙ told))

pub open_timeout : (v : ℕ) (m bytes : List ℕ) (at there : ℕ) → (number 1 m at ≡ 0 → ⊥)
    → number 2 m (at + 1 + 8 + 16 + 16) ≡ length bytes → there ≡ at + 1 + 8 + 16 + 16 + 2 + length bytes + 4 + 4 + 4
    → ((t : ℕ) → Stands m there (timeout_table v t) → IsRecordTimeout v t → ⊥) → (o : Option NewOpen)
    → Stands m at (opened_table v o) → OpenIsKept v o → ⊥
open_timeout v m bytes at there some size there_is none o s kept =
    let d = open_says v m at o some s kept in
    let same : number 2 m (at + 41) ≡ length (utf16 d.user) = d.says.size in
    let place : number 2 m (at + 41) ≡ length bytes = ap (λ (p : ℕ). number 2 m p) (omega arith) ∙ size in
    let last : at + 55 + length (utf16 d.user) ≡ there = omega (arith, same, place, there_is) in
    none d.timeout (subst (λ (p : ℕ). Stands m p (timeout_table v d.timeout)) last d.stands) d.kept

-- Why a create's record doesn't read, and why its open doesn't.
pub ruleset creates = (create_short, create_flag, create_text, create_opened)

pub ruleset opens = (opened_short, opened_told, open_short, open_text, open_timeout)
