use Rattle.std.proofs.Common.{◌≡◌, ℕ, ◌≤◌, Bool, false, List, length, ap, arith}
use Rattle.std.specs.Prelude.{is_some}
use Rattle.std.proofs.lemmas.Grind.{common_steps}
use Rattle.spec_wire.specs.messages.Chain.{is_badly_linked, piece}
use Rattle.spec_wire.specs.messages.Directory.{DirectoryEntryValue, SpellsDirectoryEntry, directory_entry_in, first_entry_fault}
use Rattle.spec_wire.specs.declared.messages.directory_class.DirectoryClass.{DirectoryClass}
use Rattle.spec_wire.specs.declared.messages.directory_class.DirectoryClass.TheVariants as class
use Rattle.law_wire.proofs.info.OneEntry.{whole_first_entry}
use Rattle.law_commands.proofs.commands.Items.{items_again}
use Rattle.law_commands.proofs.commands.Broken.{items_broken}
use Rattle.law_commands.proofs.commands.reading.same_listing_law.Goals as goal

abbrev breaks : DirectoryClass → List ℕ → Bool
breaks c m = is_some (first_entry_fault c m)

whole_entry : (c : DirectoryClass) (m : List ℕ) (v : DirectoryEntryValue) → is_badly_linked m ≡ false
    → SpellsDirectoryEntry c (piece m) v → breaks c m ≡ false
whole_entry c m v link is = ap is_some (whole_first_entry c m v link is)

some_entry : (c : DirectoryClass) (m : List ℕ) (v : DirectoryEntryValue) → SpellsDirectoryEntry c m v → 1 ≤ length m
some_entry class.Directory m v is = grind (arith, common_steps)
some_entry class.FullDirectory m v is = grind (arith, common_steps)
some_entry class.BothDirectory m v is = grind (arith, common_steps)
some_entry class.Names m v is = grind (arith, common_steps)
some_entry class.IdBothDirectory m v is = grind (arith, common_steps)
some_entry class.IdFullDirectory m v is = grind (arith, common_steps)

pub returns-clause-listing : goal.returns-clause-listing
returns-clause-listing c = λ k m vs s.
    let one = c.directory_entry_law.ensures in
    let given : (m : List ℕ) (v : DirectoryEntryValue) → SpellsDirectoryEntry k m v → directory_entry_in k m ≡ v =
    λ m v is. one.one k m (directory_entry_in k m) v (one.given k m (one.whole k m v is)) is in
    items_again (SpellsDirectoryEntry k) (directory_entry_in k) (breaks k) (whole_entry k) given (some_entry k) m vs s

pub returns-clause-no_listing : goal.returns-clause-no_listing
returns-clause-no_listing c = λ k m e b. items_broken (directory_entry_in k) (first_entry_fault k) m e b
