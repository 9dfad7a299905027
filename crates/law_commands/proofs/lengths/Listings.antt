-- A listing takes at most what the model counts of its entries.
use Rattle.std.proofs.Common.{◌≡◌, ℕ, ◌+◌, ◌*◌, ◌≤◌, ◌==◌, Bool, true, false, if◌then◌else◌, List, [], ◌∷◌, ◌++◌, length, IsUtf8}
use Rattle.std.proofs.Common.{Option, Some, None, refl, ap, ◌∙◌, arith, length-append}
use Rattle.std.specs.Prelude.{nat_le}
use Rattle.spec_wire.specs.messages.Places.{le, gap_to_8}
use Rattle.spec_wire.proofs.messages.Numbers.{length-le}
use Rattle.spec_wire.specs.messages.Utf16.{utf16}
use Rattle.spec_wire.specs.messages.FileClasses.{file_standard_information_table}
use Rattle.spec_wire.specs.messages.Directory.{DirectoryEntryValue, directory_entry_spelling, directory_entry_whole}
use Rattle.spec_wire.specs.messages.Directory.{directory_entry_size, listing_spelling, entry_size as fixed_size}
use Rattle.spec_wire.specs.declared.messages.directory_class.DirectoryClass.{DirectoryClass}
use Rattle.spec_wire.specs.declared.messages.directory_class.DirectoryClass.TheVariants as class
use Rattle.spec_exchange.specs.Texts.{utf16_length}
use Rattle.spec_exchange.specs.State.{Named}
use Rattle.spec_exchange.specs.Listing.{entry_part, entry_size, next_multiple, fitting, first_of_them, one_or_all}
use Rattle.spec_commands.specs.Infos.{entry_of, entries_of, listing_of, listing_bytes, file_bytes, standard_of}
use Rattle.spec_commands.specs.Tables.{directory_class}
use Rattle.spec_commands.proofs.Lengths.{total, length_fields}
use Rattle.law_commands.specs.commands.Fitting.{AreTexts}
use Rattle.law_commands.proofs.commands.Limits.{at_most}
use Rattle.law_commands.specs.lengths.Lengths.{ListingsAreShort, StandardsAreShort}
use Rattle.law_commands.proofs.lengths.Units.{units_are_counted}

-- ---- an entry

entry_long : (c : DirectoryClass) (v : DirectoryEntryValue) (next : ℕ)
    → length (directory_entry_spelling c v next) ≡ fixed_size c + length v.name
unfolding total
entry_long class.Directory v next = length_fields (directory_entry_whole class.Directory v next) [] ∙ omega arith
entry_long class.FullDirectory v next = length_fields (directory_entry_whole class.FullDirectory v next) [] ∙ omega arith
entry_long class.BothDirectory v next = length_fields (directory_entry_whole class.BothDirectory v next) [] ∙ omega arith
entry_long class.Names v next = length_fields (directory_entry_whole class.Names v next) [] ∙ omega arith
entry_long class.IdBothDirectory v next = length_fields (directory_entry_whole class.IdBothDirectory v next) [] ∙ omega arith
entry_long class.IdFullDirectory v next = length_fields (directory_entry_whole class.IdFullDirectory v next) [] ∙ omega arith

same_name : (c : DirectoryClass) (n : Named) → (entry_of c n).name ≡ utf16 n.name
same_name class.Directory n = refl
same_name class.FullDirectory n = refl
same_name class.BothDirectory n = refl
same_name class.Names n = refl
same_name class.IdBothDirectory n = refl
same_name class.IdFullDirectory n = refl

abbrev listed : DirectoryClass → List Named → List ℕ
listed c ns = listing_spelling c (entries_of c ns)

-- an entry with the gap behind it
one_long : (c : DirectoryClass) (n : Named) (ns : List Named) (size : ℕ) → IsUtf8 n.name
    → size ≡ fixed_size c + 2 * utf16_length n.name → length (listed c (n ∷ ns)) ≤ size + gap_to_8 size + length (listed c ns)
one_long c n [] size is e =
    let v : DirectoryEntryValue = entry_of c n in
    let name : length v.name ≡ length (utf16 n.name) = ap length (same_name c n) in
    omega (arith, e, name, units_are_counted n.name is, entry_long c v 0, length-append (directory_entry_spelling c v 0) [])
one_long c n (m ∷ ms) size is e =
    let v : DirectoryEntryValue = entry_of c n in
    let name : length v.name ≡ length (utf16 n.name) = ap length (same_name c n) in
    let own : ℕ = directory_entry_size c v in
    let same : own ≡ size = omega (arith, e, name, units_are_counted n.name is) in
    let gaps : gap_to_8 own ≡ gap_to_8 size = ap gap_to_8 same in
    let next : ℕ = own + gap_to_8 own in
    let gap : List ℕ = le (gap_to_8 own) 0 in
    let rest : List ℕ = listed c (m ∷ ms) in
    omega (
      arith,
      same,
      gaps,
      entry_long c v next,
      length-le (gap_to_8 own) 0,
      length-append (directory_entry_spelling c v next) gap,
      length-append (directory_entry_spelling c v next ++ gap) rest,
    )

-- ---- the part of an entry by the class's number

abbrev PartOf : ℕ → Option DirectoryClass → Type 0
PartOf part None = Unit {0}
PartOf part (Some c) = fixed_size c ≡ part

part_by : (a b c d e f : Bool) → PartOf (if a then 64 else if b then 68 else if c then 94 else if d then 12 else if e then 104 else 80)
    (if a then Some class.Directory else if b then Some class.FullDirectory else if c then Some class.BothDirectory
    else if d then Some class.Names else if e then Some class.IdBothDirectory else if f then Some class.IdFullDirectory else None)
part_by true b c d e f = refl
part_by false true c d e f = refl
part_by false false true d e f = refl
part_by false false false true e f = refl
part_by false false false false true f = refl
part_by false false false false false true = refl
part_by false false false false false false = tt

part_of : (k : ℕ) → PartOf (entry_part k) (directory_class k)
unfolding entry_part directory_class
part_of k = part_by (k == 1) (k == 2) (k == 3) (k == 12) (k == 37) (k == 38)

-- ---- multiples of 8

rounded : (at size : ℕ) → size + gap_to_8 size + next_multiple at ≡ next_multiple (next_multiple at + size)
unfolding next_multiple
rounded at size = omega arith

as_much : (at room : ℕ) → at ≤ room → next_multiple at ≤ next_multiple room
unfolding next_multiple
as_much at room l = omega (arith, l)

past : (room : ℕ) → next_multiple room ≤ room + 7
unfolding next_multiple
past room = omega arith

first_at : next_multiple 0 ≡ 0
unfolding next_multiple
first_at = omega arith

counted : (k : ℕ) (m : Named) (part : ℕ) → part ≡ entry_part k → entry_size k m ≡ part + 2 * utf16_length m.name
unfolding entry_size
counted k m part e = omega (arith, e)

-- ---- the entries that fit

fit_step : (b : Bool) (c : DirectoryClass) (m : Named) (rest : List Named) (room at size : ℕ) → at ≤ room
    → size ≡ fixed_size c + 2 * utf16_length m.name
    → (b ≡ true → AreTexts rest → length (listed c rest) + next_multiple (next_multiple at + size) ≤ next_multiple room)
    → AreTexts (if b then m ∷ rest else [])
    → length (listed c (if b then m ∷ rest else [])) + next_multiple at ≤ next_multiple room
fit_step true c m rest room at size inside is later texts =
    let behind = later refl texts.1 in omega (arith, behind, rounded at size, one_long c m rest size texts.0 is)
fit_step false c m rest room at size inside is later texts = omega (arith, as_much at room inside)

fit_long : (c : DirectoryClass) (k room at : ℕ) (ns : List Named) → fixed_size c ≡ entry_part k → at ≤ room
    → AreTexts (fitting k room at ns) → length (listed c (fitting k room at ns)) + next_multiple at ≤ next_multiple room
unfolding fitting
fit_long c k room at [] part inside texts = omega (arith, as_much at room inside)
fit_long c k room at (m ∷ ms) part inside texts =
    let end : ℕ = next_multiple at + entry_size k m in
    fit_step (nat_le end room) c m (fitting k room end ms) room at (entry_size k m) inside (counted k m (fixed_size c) part)
    (λ e t. fit_long c k room end ms part (at_most end room e) t) texts

-- the first of them alone
first_step : (b : Bool) (c : DirectoryClass) (m : Named) (rest : List Named) (room size : ℕ)
    → (b ≡ true → next_multiple 0 + size ≤ room) → size ≡ fixed_size c + 2 * utf16_length m.name
    → AreTexts (first_of_them (if b then m ∷ rest else []))
    → length (listed c (first_of_them (if b then m ∷ rest else []))) ≤ room + 7
unfolding first_of_them
first_step true c m rest room size fits is texts =
    let inside = fits refl in omega (arith, inside, first_at, one_long c m [] size texts.0 is)
first_step false c m rest room size fits is texts = omega arith

first_long : (c : DirectoryClass) (k room : ℕ) (ns : List Named) → fixed_size c ≡ entry_part k
    → AreTexts (first_of_them (fitting k room 0 ns)) → length (listed c (first_of_them (fitting k room 0 ns))) ≤ room + 7
unfolding fitting first_of_them
first_long c k room [] part texts = omega arith
first_long c k room (m ∷ ms) part texts =
    let end : ℕ = next_multiple 0 + entry_size k m in
    first_step (nat_le end room) c m (fitting k room end ms) room (entry_size k m) (λ e. at_most end room e)
    (counted k m (fixed_size c) part) texts

no_more : (room : ℕ) → 0 ≤ room
no_more room = omega arith

some_long : (single : Bool) (c : DirectoryClass) (k room : ℕ) (ns : List Named) → fixed_size c ≡ entry_part k
    → AreTexts (one_or_all single (fitting k room 0 ns)) → length (listed c (one_or_all single (fitting k room 0 ns))) ≤ room + 7
unfolding one_or_all
some_long true c k room ns part texts = first_long c k room ns part texts
some_long false c k room ns part texts = omega (arith, past room, fit_long c k room 0 ns part (no_more room) texts)

long_by : (o : Option DirectoryClass) (single : Bool) (k room : ℕ) (ns : List Named) → PartOf (entry_part k) o
    → AreTexts (one_or_all single (fitting k room 0 ns))
    → length (listing_of o (one_or_all single (fitting k room 0 ns))) ≤ room + 7
long_by None single k room ns part texts = omega arith
long_by (Some c) single k room ns part texts = some_long single c k room ns part texts

pub listings_are_short : ListingsAreShort
unfolding listing_bytes
listings_are_short single k room ns texts = long_by (directory_class k) single k room ns (part_of k) texts

-- ---- what class 5 tells

pub standards_are_short : StandardsAreShort
unfolding file_bytes total
standards_are_short path i access options position = omega (arith, length_fields (file_standard_information_table (standard_of i)) [])
