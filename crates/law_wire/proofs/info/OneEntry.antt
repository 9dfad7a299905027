-- One entry of a listing: it stands once, breaks nothing, and reads back as it was written.
use Rattle.std.proofs.Common.{rules, ◌≡◌, ℕ, ◌≤◌, Bool, true, false, List, [], ◌∷◌, ◌++◌, length, take, None, refl, arith}
use Rattle.std.specs.Prelude.{if◌then◌else◌}
use Rattle.std.proofs.lemmas.Grind.{common_steps}
use Rattle.std.proofs.lemmas.List.{length-take}
use Rattle.spec_wire.specs.messages.Places.{number}
use Rattle.spec_wire.specs.messages.Table.{widths}
use Rattle.spec_wire.specs.messages.Fault.{short_fault, part_fault}
use Rattle.spec_wire.specs.messages.Chain.{is_badly_linked, piece}
use Rattle.spec_wire.specs.messages.Directory.{DirectoryEntryValue, SpellsDirectoryEntry, IsWritableDirectoryEntry}
use Rattle.spec_wire.specs.messages.Directory.{directory_entry_table, directory_entry_in, directory_entry_fault}
use Rattle.spec_wire.specs.messages.Directory.{directory_entry_whole, directory_entry_spelling, first_entry_fault, link_fault}
use Rattle.spec_wire.specs.declared.messages.directory_class.DirectoryClass.{DirectoryClass}
use Rattle.spec_wire.specs.declared.messages.directory_class.DirectoryClass.TheVariants as classes
use Rattle.spec_wire.specs.declared.messages.error.Part.TheVariants.{Name}
use Rattle.law_wire.proofs.messages.Rows.{table_again}
use Rattle.law_wire.proofs.messages.Faults.{no_part_fault, part_stands, none_of}

pub same_entry : (c : DirectoryClass) (m : List ℕ) (v w : DirectoryEntryValue) → SpellsDirectoryEntry c m v
    → SpellsDirectoryEntry c m w → v ≡ w
same_entry classes.Directory m v w s t = search rules
same_entry classes.FullDirectory m v w s t = search rules
same_entry classes.BothDirectory m v w s t = search rules
same_entry classes.Names m v w s t = search rules
same_entry classes.IdBothDirectory m v w s t = search rules
same_entry classes.IdFullDirectory m v w s t = search rules

pub whole_entry : (c : DirectoryClass) (m : List ℕ) (v : DirectoryEntryValue) → SpellsDirectoryEntry c m v
    → directory_entry_fault c m ≡ None
whole_entry classes.Directory m v p = let name : part_fault m 64 (number 4 m 60) 64 Name ≡ None = no_part_fault m _ _ _
    _ Name p.name in grind (arith, common_steps)
whole_entry classes.FullDirectory m v p = let name : part_fault m 68 (number 4 m 60) 68 Name ≡ None = no_part_fault m _
    _ _ _ Name p.name in grind (arith, common_steps)
whole_entry classes.BothDirectory m v p = let name : part_fault m 94 (number 4 m 60) 94 Name ≡ None = no_part_fault m _
    _ _ _ Name p.name in grind (arith, common_steps)
whole_entry classes.Names m v p = let name : part_fault m 12 (number 4 m 8) 12 Name ≡ None = no_part_fault m _ _ _ _
    Name p.name in grind (arith, common_steps)
whole_entry classes.IdBothDirectory m v p = let name : part_fault m 104 (number 4 m 60) 104 Name ≡ None =
    no_part_fault m _ _ _ _ Name p.name in grind (arith, common_steps)
whole_entry classes.IdFullDirectory m v p = let name : part_fault m 80 (number 4 m 60) 80 Name ≡ None =
    no_part_fault m _ _ _ _ Name p.name in grind (arith, common_steps)

pub given_entry : (c : DirectoryClass) (m : List ℕ) → directory_entry_fault c m ≡ None → SpellsDirectoryEntry c m (directory_entry_in c m)
given_entry classes.Directory m none =
    let split = none_of (short_fault m 0
    (widths (directory_entry_table classes.Directory (directory_entry_in classes.Directory m) (number 4 m 0))))
    (part_fault m 64 (number 4 m 60) 64 Name) none in
    let name = part_stands m 64 (number 4 m 60) 64 Name split.1 in
    record { fixed = grind (arith, common_steps); name = name; rest = refl }
given_entry classes.FullDirectory m none =
    let split = none_of (short_fault m 0
    (widths (directory_entry_table classes.FullDirectory (directory_entry_in classes.FullDirectory m)
    (number 4 m 0)))) (part_fault m 68 (number 4 m 60) 68 Name) none in
    let name = part_stands m 68 (number 4 m 60) 68 Name split.1 in
    record { fixed = grind (arith, common_steps); name = name; rest = refl }
given_entry classes.BothDirectory m none =
    let split = none_of (short_fault m 0
    (widths (directory_entry_table classes.BothDirectory (directory_entry_in classes.BothDirectory m)
    (number 4 m 0)))) (part_fault m 94 (number 4 m 60) 94 Name) none in
    let name = part_stands m 94 (number 4 m 60) 94 Name split.1 in
    record { fixed = grind (arith, common_steps); name = name; rest = refl }
given_entry classes.Names m none =
    let split = none_of (short_fault m 0
    (widths (directory_entry_table classes.Names (directory_entry_in classes.Names m) (number 4 m 0))))
    (part_fault m 12 (number 4 m 8) 12 Name) none in
    let name = part_stands m 12 (number 4 m 8) 12 Name split.1 in
    record { fixed = grind (arith, common_steps); name = name; rest = (refl, refl, refl, refl, refl, refl, refl, refl) }
given_entry classes.IdBothDirectory m none =
    let split = none_of (short_fault m 0
    (widths (directory_entry_table classes.IdBothDirectory (directory_entry_in classes.IdBothDirectory m)
    (number 4 m 0)))) (part_fault m 104 (number 4 m 60) 104 Name) none in
    let name = part_stands m 104 (number 4 m 60) 104 Name split.1 in
    record { fixed = grind (arith, common_steps); name = name; rest = tt }
given_entry classes.IdFullDirectory m none =
    let split = none_of (short_fault m 0
    (widths (directory_entry_table classes.IdFullDirectory (directory_entry_in classes.IdFullDirectory m)
    (number 4 m 0)))) (part_fault m 80 (number 4 m 60) 80 Name) none in
    let name = part_stands m 80 (number 4 m 60) 80 Name split.1 in
    record { fixed = grind (arith, common_steps); name = name; rest = tt }

pub again_entry : (c : DirectoryClass) (rest : List ℕ) (v : DirectoryEntryValue) (next : ℕ) → IsWritableDirectoryEntry c
    v next → SpellsDirectoryEntry c (directory_entry_spelling c v next ++ rest) v
again_entry classes.Directory rest v next fit =
    let row = table_again (directory_entry_whole classes.Directory v next) [] rest 0 refl fit.fits in
    record {
      fixed = grind (arith, common_steps);
      name = record { bytes = grind (arith, common_steps); whole = grind (arith, common_steps); place = grind (arith, common_steps) };
      rest = fit.rest;
    }
again_entry classes.FullDirectory rest v next fit =
    let row = table_again (directory_entry_whole classes.FullDirectory v next) [] rest 0 refl fit.fits in
    record {
      fixed = grind (arith, common_steps);
      name = record { bytes = grind (arith, common_steps); whole = grind (arith, common_steps); place = grind (arith, common_steps) };
      rest = fit.rest;
    }
again_entry classes.BothDirectory rest v next fit =
    let row = table_again (directory_entry_whole classes.BothDirectory v next) [] rest 0 refl fit.fits in
    record {
      fixed = grind (arith, common_steps);
      name = record { bytes = grind (arith, common_steps); whole = grind (arith, common_steps); place = grind (arith, common_steps) };
      rest = fit.rest;
    }
again_entry classes.Names rest v next fit =
    let row = table_again (directory_entry_whole classes.Names v next) [] rest 0 refl fit.fits in
    record {
      fixed = grind (arith, common_steps);
      name = record { bytes = grind (arith, common_steps); whole = grind (arith, common_steps); place = grind (arith, common_steps) };
      rest = fit.rest;
    }
again_entry classes.IdBothDirectory rest v next fit =
    let row = table_again (directory_entry_whole classes.IdBothDirectory v next) [] rest 0 refl fit.fits in
    record {
      fixed = grind (arith, common_steps);
      name = record { bytes = grind (arith, common_steps); whole = grind (arith, common_steps); place = grind (arith, common_steps) };
      rest = fit.rest;
    }
again_entry classes.IdFullDirectory rest v next fit =
    let row = table_again (directory_entry_whole classes.IdFullDirectory v next) [] rest 0 refl fit.fits in
    record {
      fixed = grind (arith, common_steps);
      name = record { bytes = grind (arith, common_steps); whole = grind (arith, common_steps); place = grind (arith, common_steps) };
      rest = fit.rest;
    }

pub no_entry : (c : DirectoryClass) (v : DirectoryEntryValue) → SpellsDirectoryEntry c [] v → ⊥
no_entry classes.Directory v p = grind (arith, common_steps)
no_entry classes.FullDirectory v p = grind (arith, common_steps)
no_entry classes.BothDirectory v p = grind (arith, common_steps)
no_entry classes.Names v p = grind (arith, common_steps)
no_entry classes.IdBothDirectory v p = grind (arith, common_steps)
no_entry classes.IdFullDirectory v p = grind (arith, common_steps)

four_in : (c : DirectoryClass) (m : List ℕ) (v : DirectoryEntryValue) → SpellsDirectoryEntry c m v → 4 ≤ length m
four_in classes.Directory m v p = grind (arith, common_steps)
four_in classes.FullDirectory m v p = grind (arith, common_steps)
four_in classes.BothDirectory m v p = grind (arith, common_steps)
four_in classes.Names m v p = grind (arith, common_steps)
four_in classes.IdBothDirectory m v p = grind (arith, common_steps)
four_in classes.IdFullDirectory m v p = grind (arith, common_steps)

longer : (m : List ℕ) (last : Bool) (next : ℕ) → 4 ≤ length (if last then m else take next m) → 4 ≤ length m
longer m true next le = le
longer m false next le = omega (arith, length-take next m)

four_whole : (m : List ℕ) → 4 ≤ length m → short_fault m 0 (4 ∷ []) ≡ None
four_whole m le = grind (arith, common_steps)

linked_whole : (m : List ℕ) → is_badly_linked m ≡ false → link_fault m ≡ None
unfolding link_fault
linked_whole m e = rw e refl

pub whole_first_entry : (c : DirectoryClass) (m : List ℕ) (v : DirectoryEntryValue) → is_badly_linked m ≡ false
    → SpellsDirectoryEntry c (piece m) v → first_entry_fault c m ≡ None
unfolding piece
whole_first_entry c m v link is =
    let four : 4 ≤ length m = longer m _ (number 4 m 0) (four_in c (piece m) v is) in
    rw (four_whole m four, linked_whole m link) (whole_entry c (piece m) v is)
