-- What the server's checks give is within the room that was asked for.
use Rattle.std.proofs.Common.{◌≡◌, ℕ, ◌+◌, ◌*◌, ◌^◌, ◌<◌, ◌≤◌, Bool, true, false, List, [], ◌∷◌, ◌++◌, length, IsUtf8}
use Rattle.std.proofs.Common.{Option, Some, None, refl, ap, ◌∙◌, arith, length-append}
use Rattle.std.specs.Prelude.{◌==◌, nat_le, if◌then◌else◌}
use Rattle.spec_wire.specs.messages.Places.{le, gap_to_8}
use Rattle.spec_wire.proofs.messages.Numbers.{length-le}
use Rattle.spec_wire.specs.messages.Utf16.{utf16}
use Rattle.spec_wire.specs.messages.FileClasses.{file_basic_information_spelling, file_basic_information_table}
use Rattle.spec_wire.specs.messages.FileClasses.{file_standard_information_spelling, file_standard_information_table}
use Rattle.spec_wire.specs.messages.FileClasses.{file_internal_information_spelling, file_internal_information_table}
use Rattle.spec_wire.specs.messages.FileClasses.{file_network_open_information_spelling, file_network_open_information_table}
use Rattle.spec_wire.specs.messages.FileClasses.{file_all_information_spelling, file_all_information_whole}
use Rattle.spec_wire.specs.messages.FileClasses.{file_position_information_spelling, file_position_information_table}
use Rattle.spec_wire.specs.messages.FileClasses.{file_name_information_spelling, file_name_information_whole}
use Rattle.spec_wire.specs.messages.Directory.{DirectoryEntryValue, directory_entry_spelling, directory_entry_whole}
use Rattle.spec_wire.specs.messages.Directory.{directory_entry_size, listing_spelling, entry_size as fixed_size}
use Rattle.spec_wire.specs.declared.messages.directory_class.DirectoryClass.{DirectoryClass}
use Rattle.spec_wire.specs.declared.messages.directory_class.DirectoryClass.TheVariants as class
use Rattle.spec_exchange.specs.Texts.{utf16_length, units_of}
use Rattle.spec_exchange.specs.State.{Named, Info}
use Rattle.spec_exchange.specs.Listing.{entry_part, entry_size, next_multiple, fitting, first_of_them, one_or_all}
use Rattle.spec_exchange.specs.Listing.{file_info_size, is_short_class, streams_size}
use Rattle.spec_commands.specs.Fits.{AreListed, AreListedIn}
use Rattle.spec_commands.specs.Infos.{entry_of, entries_of, listing_of, listing_bytes, file_bytes, basic_of, standard_of}
use Rattle.spec_commands.specs.Infos.{network_open_of, all_of, short_bytes, streams_of}
use Rattle.spec_commands.specs.Tables.{directory_class}
use Rattle.spec_commands.proofs.Lengths.{total, length_fields, short_long, streams_long}
use Rattle.law_commands.specs.commands.Fitting.{AreTexts}
use Rattle.law_commands.proofs.commands.Limits.{ascii_then, at_most}
use Rattle.law_commands.proofs.commands.PathLength.{utf16_few, sum_append}

-- ---- an entry

gap_few : (n : ℕ) → gap_to_8 n ≤ 7
gap_few n = omega arith

entry_few : (c : DirectoryClass) (v : DirectoryEntryValue) (next : ℕ) → length (directory_entry_spelling c v next)
    ≡ fixed_size c + length v.name
unfolding total
entry_few class.Directory v next = length_fields (directory_entry_whole class.Directory v next) [] ∙ omega arith
entry_few class.FullDirectory v next = length_fields (directory_entry_whole class.FullDirectory v next) [] ∙ omega arith
entry_few class.BothDirectory v next = length_fields (directory_entry_whole class.BothDirectory v next) [] ∙ omega arith
entry_few class.Names v next = length_fields (directory_entry_whole class.Names v next) [] ∙ omega arith
entry_few class.IdBothDirectory v next = length_fields (directory_entry_whole class.IdBothDirectory v next) [] ∙ omega arith
entry_few class.IdFullDirectory v next = length_fields (directory_entry_whole class.IdFullDirectory v next) [] ∙ omega arith

same_name : (c : DirectoryClass) (n : Named) → (entry_of c n).name ≡ utf16 n.name
same_name class.Directory n = refl
same_name class.FullDirectory n = refl
same_name class.BothDirectory n = refl
same_name class.Names n = refl
same_name class.IdBothDirectory n = refl
same_name class.IdFullDirectory n = refl

least_part : (c : DirectoryClass) → 12 ≤ fixed_size c
least_part class.Directory = omega arith
least_part class.FullDirectory = omega arith
least_part class.BothDirectory = omega arith
least_part class.Names = omega arith
least_part class.IdBothDirectory = omega arith
least_part class.IdFullDirectory = omega arith

abbrev listed : DirectoryClass → List Named → List ℕ
listed c ns = listing_spelling c (entries_of c ns)

-- one entry with what stands behind it takes at most four times what the model counts
one_few : (c : DirectoryClass) (n : Named) (ns : List Named) (size : ℕ) → IsUtf8 n.name → size ≡ fixed_size c + 2 * utf16_length n.name
    → length (listed c (n ∷ ns)) ≤ 4 * size + length (listed c ns)
one_few c n [] size is e =
    let v : DirectoryEntryValue = entry_of c n in
    let name : length v.name ≡ length (utf16 n.name) = ap length (same_name c n) in
    omega (arith, e, name, utf16_few n.name is, least_part c, entry_few c v 0, length-append (directory_entry_spelling c v 0) [])
one_few c n (m ∷ ms) size is e =
    let v : DirectoryEntryValue = entry_of c n in
    let name : length v.name ≡ length (utf16 n.name) = ap length (same_name c n) in
    let next : ℕ = directory_entry_size c v + gap_to_8 (directory_entry_size c v) in
    let gap : List ℕ = le (gap_to_8 (directory_entry_size c v)) 0 in
    let rest : List ℕ = listed c (m ∷ ms) in
    omega (
      arith,
      e,
      name,
      utf16_few n.name is,
      least_part c,
      entry_few c v next,
      gap_few (directory_entry_size c v),
      length-le (gap_to_8 (directory_entry_size c v)) 0,
      length-append (directory_entry_spelling c v next) gap,
      length-append (directory_entry_spelling c v next ++ gap) rest,
    )

-- ---- the part of an entry by the class's number

abbrev PartOf : ℕ → Option DirectoryClass → Type 0
PartOf part None = Unit {0}
PartOf part (Some c) = fixed_size c ≡ part

part_by : (a b c d e f : Bool) → PartOf (if a then 64 else if b then 68 else if c then 94 else if d then 12 else if e then 104 else 80)
    (if a then Some class.Directory else if b then Some class.FullDirectory else if c then Some class.BothDirectory
    else if d then Some class.Names else if e then Some class.IdBothDirectory else if f then Some class.IdFullDirectory else None)
part_by true b c d e f = refl
part_by false true c d e f = refl
part_by false false true d e f = refl
part_by false false false true e f = refl
part_by false false false false true f = refl
part_by false false false false false true = refl
part_by false false false false false false = tt

part_of : (k : ℕ) → PartOf (entry_part k) (directory_class k)
unfolding entry_part directory_class
part_of k = part_by (k == 1) (k == 2) (k == 3) (k == 12) (k == 37) (k == 38)

-- ---- the entries that fit

past : (at : ℕ) → at ≤ next_multiple at
unfolding next_multiple
past at = omega arith

counted : (k : ℕ) (m : Named) (part : ℕ) → part ≡ entry_part k → entry_size k m ≡ part + 2 * utf16_length m.name
unfolding entry_size
counted k m part e = omega (arith, e)

fit_step : (b : Bool) (c : DirectoryClass) (m : Named) (rest : List Named) (room at next size : ℕ) → at ≤ room → at ≤ next
    → size ≡ fixed_size c + 2 * utf16_length m.name
    → (b ≡ true → AreTexts rest → length (listed c rest) + 4 * (next + size) ≤ 4 * room) → AreTexts (if b then m ∷ rest else [])
    → length (listed c (if b then m ∷ rest else [])) + 4 * at ≤ 4 * room
fit_step true c m rest room at next size inside far is later texts = let behind = later refl texts.1 in omega (
  arith,
  far,
  behind,
  one_few c m rest size texts.0 is,
)
fit_step false c m rest room at next size inside far is later texts = omega (arith, inside)

fit_few : (c : DirectoryClass) (k room at : ℕ) (ns : List Named) → fixed_size c ≡ entry_part k → at ≤ room
    → AreTexts (fitting k room at ns) → length (listed c (fitting k room at ns)) + 4 * at ≤ 4 * room
unfolding fitting
fit_few c k room at [] part inside texts = omega (arith, inside)
fit_few c k room at (m ∷ ms) part inside texts =
    let end : ℕ = next_multiple at + entry_size k m in
    fit_step (nat_le end room) c m (fitting k room end ms) room at (next_multiple at) (entry_size k m) inside (past at)
    (counted k m (fixed_size c) part) (λ e t. fit_few c k room end ms part (at_most end room e) t) texts

short_step : (b : Bool) (m : Named) (rest : List Named) (room next size part : ℕ) → room ≤ 1048576 → (b ≡ true → next + size ≤ room)
    → size ≡ part + 2 * utf16_length m.name → (b ≡ true → AreTexts rest → AreListed rest) → AreTexts (if b then m ∷ rest else [])
    → AreListed (if b then m ∷ rest else [])
short_step true m rest room next size part few fits is later texts =
    let inside = fits refl in
    (omega (arith, few, inside, is, utf16_few m.name texts.0), later refl texts.1)
short_step false m rest room next size part few fits is later texts = tt

fit_short : (k room at : ℕ) (ns : List Named) → room ≤ 1048576 → AreTexts (fitting k room at ns) → AreListed (fitting k room at ns)
unfolding fitting
fit_short k room at [] few texts = tt
fit_short k room at (m ∷ ms) few texts =
    let end : ℕ = next_multiple at + entry_size k m in
    short_step (nat_le end room) m (fitting k room end ms) room (next_multiple at) (entry_size k m) (entry_part k) few
    (λ e. at_most end room e) (counted k m (entry_part k) refl) (λ e t. fit_short k room end ms few t) texts

-- the first of them alone
first_step : (b : Bool) (c : DirectoryClass) (m : Named) (rest : List Named) (room next size : ℕ) → room ≤ 1048576
    → (b ≡ true → next + size ≤ room) → size ≡ fixed_size c + 2 * utf16_length m.name
    → AreTexts (first_of_them (if b then m ∷ rest else []))
    → AreListed (first_of_them (if b then m ∷ rest else [])) × (length (listed c (first_of_them (if b then m ∷ rest else []))) ≤ 4 * room)
unfolding first_of_them
first_step true c m rest room next size few fits is texts =
    let inside = fits refl in (
      (omega (arith, few, inside, is, utf16_few m.name texts.0), tt),
      omega (arith, inside, one_few c m [] size texts.0 is),
    )
first_step false c m rest room next size few fits is texts = (tt, omega arith)

first_few : (c : DirectoryClass) (k room : ℕ) (ns : List Named) → fixed_size c ≡ entry_part k → room ≤ 1048576
    → AreTexts (first_of_them (fitting k room 0 ns))
    → AreListed (first_of_them (fitting k room 0 ns)) × (length (listed c (first_of_them (fitting k room 0 ns))) ≤ 4 * room)
unfolding fitting first_of_them
first_few c k room [] part few texts = (tt, omega arith)
first_few c k room (m ∷ ms) part few texts =
    let end : ℕ = next_multiple 0 + entry_size k m in
    first_step (nat_le end room) c m (fitting k room end ms) room (next_multiple 0) (entry_size k m) few (λ e. at_most
    end room e) (counted k m (fixed_size c) part) texts

some_fit : (single : Bool) (c : DirectoryClass) (k room : ℕ) (ns : List Named) → fixed_size c ≡ entry_part k → room ≤ 1048576
    → AreTexts (one_or_all single (fitting k room 0 ns))
    → AreListed (one_or_all single (fitting k room 0 ns)) × (length (listed c (one_or_all single (fitting k room 0 ns))) ≤ 4 * room)
unfolding one_or_all
some_fit true c k room ns part few texts = first_few c k room ns part few texts
some_fit false c k room ns part few texts = (
  fit_short k room 0 ns few texts,
  omega (arith, fit_few c k room 0 ns part (omega arith) texts),
)

fits_by : (o : Option DirectoryClass) (single : Bool) (k room : ℕ) (ns : List Named) → PartOf (entry_part k) o → room ≤ 1048576
    → AreTexts (one_or_all single (fitting k room 0 ns))
    → AreListedIn o (one_or_all single (fitting k room 0 ns)) × (length (listing_of o (one_or_all single (fitting k room 0 ns))) < 2 ^ 32)
fits_by None single k room ns part few texts = (tt, omega arith)
fits_by (Some c) single k room ns part few texts =
    let all = some_fit single c k room ns part few texts in
    let bytes = all.1 in
    (all.0, omega (arith, few, bytes))

pub list_fits : (single : Bool) (k room : ℕ) (ns : List Named) → room ≤ 1048576 → AreTexts (one_or_all single (fitting k room 0 ns))
    → AreListedIn (directory_class k) (one_or_all single (fitting k room 0 ns))
    × (length (listing_bytes k (one_or_all single (fitting k room 0 ns))) < 2 ^ 32)
unfolding listing_bytes
list_fits single k room ns few texts = fits_by (directory_class k) single k room ns (part_of k) few texts

-- ---- what is told of a file

backslash_few : utf16_length (92 ∷ []) ≤ 1
unfolding utf16_length units_of
backslash_few = omega arith

rooted_few : (path : List ℕ) → IsUtf8 path → length (utf16 (92 ∷ path)) ≤ 4 * (utf16_length path + 1)
rooted_few path is = omega (
  arith,
  utf16_few (92 ∷ path) (ascii_then 92 path (omega arith) is),
  sum_append (92 ∷ []) path,
  backslash_few,
)

file_by : (k : ℕ) (a b c d e f g h : Bool) (path : List ℕ) (i : Info) (access options position : ℕ) → IsUtf8 path
    → length (if a then file_basic_information_spelling (basic_of i)
    else if b then file_standard_information_spelling (standard_of i)
    else if c then file_internal_information_spelling (record { index_number = i.file })
    else if d then file_network_open_information_spelling (network_open_of i)
    else if e then short_bytes k access
    else if f then file_position_information_spelling (record { current_byte_offset = position })
    else if g then streams_of i
    else if h then file_name_information_spelling (record { name = utf16 (92 ∷ path) })
    else file_all_information_spelling (all_of path i access options position))
    ≤ 2 * (if a then 40 else if b then 24 else if c then 8 else if d then 56 else if e then 4 else if f then 8
    else if g then streams_size i.is_directory else (if h then 4 else 100) + 2 * (utf16_length path + 1))
unfolding total
file_by k true b c d e f g h path i access options position is = omega (arith, length_fields (file_basic_information_table (basic_of i)) [])
file_by k false true c d e f g h path i access options position is =
    omega (arith, length_fields (file_standard_information_table (standard_of i)) [])
file_by k false false true d e f g h path i access options position is = omega (
  arith,
  length_fields (file_internal_information_table (record { index_number = i.file })) [],
)
file_by k false false false true e f g h path i access options position is =
    omega (arith, length_fields (file_network_open_information_table (network_open_of i)) [])
file_by k false false false false true f g h path i access options position is = omega (arith, short_long k access)
file_by k false false false false false true g h path i access options position is = omega (
  arith,
  length_fields (file_position_information_table (record { current_byte_offset = position })) [],
)
file_by k false false false false false false true h path i access options position is = omega (arith, streams_long i)
file_by k false false false false false false false true path i access options position is = omega (
  arith,
  length_fields (file_name_information_whole (record { name = utf16 (92 ∷ path) })) [],
  rooted_few path is,
)
file_by k false false false false false false false false path i access options position is = omega (
  arith,
  length_fields (file_all_information_whole (all_of path i access options position)) [],
  rooted_few path is,
)

pub file_few : (k : ℕ) (path : List ℕ) (i : Info) (access options position : ℕ) → IsUtf8 path
    → length (file_bytes k path i access options position) ≤ 2 * file_info_size k i.is_directory path
unfolding file_bytes file_info_size
file_few k path i access options position is =
    file_by k (k == 4) (k == 5) (k == 6) (k == 34) (is_short_class k) (k == 14) (k == 22) (k == 9) path i access options position is
