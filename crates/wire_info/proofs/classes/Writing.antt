-- An entry that is written behind others.
use Rattle.std.proofs.Common.{◌≡◌, ℕ, ◌+◌, Bool, true, false, List, ◌++◌, Result, Ok, Err, ap, ◌∙◌, append_assoc}
use Rattle.std.specs.Prelude.{OnOk}
use Rattle.spec_wire.specs.messages.Places.{le, gap_to_8}
use Rattle.spec_wire.specs.messages.Aligned.{aligned_gap}
use Rattle.spec_wire.specs.messages.Table.{with_fields}
use Rattle.spec_wire.specs.messages.Directory.{DirectoryEntryValue, directory_entry_whole, directory_entry_spelling, directory_entry_size}
use Rattle.spec_wire.specs.declared.messages.directory_class.DirectoryClass.{DirectoryClass}
use Rattle.law_wire.proofs.messages.Rows.{with_fields-append}
use Rattle.wire_info.specs.classes.Listing.{entry_if}

pub on_ok : {X E A B : Type 0} (r : Result X E) → (A → B) → OnOk r A → OnOk r B
on_ok (Ok x) f a = f a
on_ok (Err e) f a = tt

entry_behind : (out : List ℕ) (c : DirectoryClass) (v : DirectoryEntryValue) (next : ℕ)
    → with_fields out (directory_entry_whole c v next) ≡ out ++ directory_entry_spelling c v next
entry_behind out c v next = with_fields-append out (directory_entry_whole c v next)

pub last_entry : (more : Bool) (out new : List ℕ) (c : DirectoryClass) (v : DirectoryEntryValue) → more ≡ false → new
    ≡ with_fields out (directory_entry_whole c v 0) → new ≡ out ++ entry_if more c v
last_entry more out new c v last e = rw last (e ∙ entry_behind out c v 0)

pub linked_entry : (more : Bool) (out mid new : List ℕ) (c : DirectoryClass) (v : DirectoryEntryValue) (size gap : ℕ)
    → more ≡ true → size ≡ directory_entry_size c v → gap ≡ aligned_gap 1 size
    → mid ≡ with_fields out (directory_entry_whole c v (size + gap)) → new ≡ mid ++ le gap 0 → new ≡ out ++ entry_if more c v
linked_entry more out mid new c v size gap behind size_is gap_is mid_is new_is =
    let due : ℕ = directory_entry_size c v in
    let gap_due : gap ≡ gap_to_8 due = gap_is ∙ ap (λ (s : ℕ). gap_to_8 s) size_is in
    let next_due : size + gap ≡ due + gap_to_8 due = ap (λ (s : ℕ). s + gap) size_is ∙ ap (λ (g : ℕ). due + g) gap_due in
    let item : mid ≡ out ++ directory_entry_spelling c v (due + gap_to_8 due) = mid_is
    ∙ ap (λ (n : ℕ). with_fields out (directory_entry_whole c v n)) next_due
    ∙ entry_behind out c v (due + gap_to_8 due) in
    let all : new ≡ out ++ (directory_entry_spelling c v (due + gap_to_8 due) ++ le (gap_to_8 due) 0) =
    new_is ∙ ap (λ (g : ℕ). mid ++ le g 0) gap_due ∙ ap (λ (b : List ℕ). b ++ le (gap_to_8 due) 0) item
    ∙ append_assoc out (directory_entry_spelling c v (due + gap_to_8 due)) (le (gap_to_8 due) 0) in
    rw behind all
