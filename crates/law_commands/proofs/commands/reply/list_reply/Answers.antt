use Rattle.std.proofs.Common.{◌≡◌, ℕ, Bool, false, List, ◌++◌, Option, refl, ap, ◌∙◌, arith}
use Rattle.std.specs.Prelude.{is_some, option_map, option_and_then}
use Rattle.spec_wire.specs.messages.Chain.{is_badly_linked, piece}
use Rattle.spec_wire.specs.messages.QueryDirectory.{QueryDirectoryResponseValue, SpellsQueryDirectoryResponse}
use Rattle.spec_wire.specs.messages.QueryDirectory.{query_directory_response_fault, query_directory_response_in}
use Rattle.spec_wire.specs.messages.QueryDirectory.{query_directory_response_spelling}
use Rattle.spec_wire.specs.messages.Directory.{DirectoryEntryValue, SpellsDirectoryEntry, directory_entry_in}
use Rattle.spec_wire.specs.messages.Directory.{first_entry_fault, listing_spelling}
use Rattle.spec_wire.specs.declared.messages.directory_class.DirectoryClass.TheVariants as class
use Rattle.law_wire.proofs.info.OneEntry.{whole_first_entry}
use Rattle.spec_exchange.specs.State.{Body, Listing}
use Rattle.spec_commands.specs.Tables.{directory_class}
use Rattle.spec_commands.specs.Infos.{listing_bytes, entries_of}
use Rattle.spec_commands.specs.ReplyOf.{body_in, listing_in, names_of}
use Rattle.law_commands.proofs.commands.ReadBack.{found}
use Rattle.law_commands.proofs.commands.HeardBack.{heard_as}
use Rattle.law_commands.proofs.commands.Items.{items_again}
use Rattle.law_commands.proofs.commands.Names.{entries_fit, some_entry, names_again}
use Rattle.law_commands.proofs.commands.reply.list_reply.Goals as goal

abbrev told_in : QueryDirectoryResponseValue → Option Body
told_in v = listing_in 12 v.output

abbrev breaks : List ℕ → Bool
breaks m = is_some (first_entry_fault class.Names m)

whole_entry : (m : List ℕ) (v : DirectoryEntryValue) → is_badly_linked m ≡ false → SpellsDirectoryEntry class.Names
    (piece m) v → breaks m ≡ false
whole_entry m v link is = ap is_some (whole_first_entry class.Names m v link is)

pub returns : goal.returns
unfolding body_in listing_bytes listing_in directory_class
returns c = λ header rest token file restart single pattern room ns len names few.
    let law = c.query_directory_response_law.ensures in
    let one = c.directory_entry_law.ensures in
    let entries : List DirectoryEntryValue = entries_of class.Names ns in
    let bytes : List ℕ = listing_spelling class.Names entries in
    let v : QueryDirectoryResponseValue = record { output = bytes } in
    let m : List ℕ = header ++ (query_directory_response_spelling v ++ rest) in
    let row = found SpellsQueryDirectoryResponse query_directory_response_fault query_directory_response_in law.one
    law.whole law.given m v (law.again header rest v len (omega arith, (omega arith, (few, (refl, tt))))) in
    let given : (m : List ℕ) (v : DirectoryEntryValue) → SpellsDirectoryEntry class.Names m v → directory_entry_in class.Names m ≡ v =
    λ m v is. one.one class.Names m (directory_entry_in class.Names m) v (one.given class.Names m (one.whole class.Names m v is)) is in
    let items = items_again (SpellsDirectoryEntry class.Names) (directory_entry_in class.Names) breaks whole_entry given
    some_entry bytes entries (c.listing_law.ensures.again class.Names entries (entries_fit ns names)) in
    heard_as query_directory_response_fault query_directory_response_in told_in m v row
    ∙ ap (λ (o : Option (List DirectoryEntryValue)). option_map (Listing 12) (option_and_then names_of o)) items
    ∙ ap (option_map (Listing 12)) (names_again ns names)
