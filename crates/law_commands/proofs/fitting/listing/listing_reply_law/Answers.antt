use Rattle.std.proofs.Common.{◌≡◌, ℕ, Bool, false, List, ◌++◌, Option, Some, refl, sym, subst, ap, ◌∙◌, arith}
use Rattle.std.specs.Prelude.{is_some, option_map, option_and_then}
use Rattle.spec_wire.specs.messages.Chain.{is_badly_linked, piece}
use Rattle.spec_wire.specs.messages.QueryDirectory.{QueryDirectoryResponseValue, SpellsQueryDirectoryResponse}
use Rattle.spec_wire.specs.messages.QueryDirectory.{query_directory_response_fault, query_directory_response_in}
use Rattle.spec_wire.specs.messages.QueryDirectory.{query_directory_response_spelling}
use Rattle.spec_wire.specs.messages.Directory.{DirectoryEntryValue, SpellsDirectoryEntry, SpellsListing, directory_entry_in}
use Rattle.spec_wire.specs.messages.Directory.{first_entry_fault, listing_spelling}
use Rattle.spec_wire.specs.declared.messages.directory_class.DirectoryClass.{DirectoryClass}
use Rattle.law_wire.proofs.info.OneEntry.{whole_first_entry}
use Rattle.spec_exchange.specs.State.{Named, Listing}
use Rattle.spec_commands.specs.Tables.{directory_class}
use Rattle.spec_commands.specs.Infos.{listing_bytes, listing_of, entries_of}
use Rattle.spec_commands.specs.ReplyOf.{body_in, listing_in, listing_by, names_of}
use Rattle.law_commands.proofs.commands.ReadBack.{found}
use Rattle.law_commands.proofs.commands.HeardBack.{heard_as}
use Rattle.law_commands.proofs.commands.Items.{items_again}
use Rattle.law_commands.proofs.fitting.Entries.{entries_fit, some_entry, names_again}
use Rattle.law_commands.proofs.fitting.listing.listing_reply_law.Goals as goal

abbrev breaks : DirectoryClass → List ℕ → Bool
breaks c m = is_some (first_entry_fault c m)

whole_entry : (c : DirectoryClass) (m : List ℕ) (v : DirectoryEntryValue) → is_badly_linked m ≡ false → SpellsDirectoryEntry c
    (piece m) v → breaks c m ≡ false
whole_entry c m v link is = ap is_some (whole_first_entry c m v link is)

bytes_are : (class : ℕ) (c : DirectoryClass) (ns : List Named) → directory_class class ≡ Some c → listing_bytes class ns
    ≡ listing_spelling c (entries_of c ns)
unfolding listing_bytes
bytes_are class c ns is = ap (λ (o : Option DirectoryClass). listing_of o ns) is

pub returns-clause-output : goal.returns-clause-output
returns-clause-output c = λ header rest token file class told restart single pattern room ns len few.
    let law = c.query_directory_response_law.ensures in
    let v : QueryDirectoryResponseValue = record { output = listing_bytes told ns } in
    let m : List ℕ = header ++ (query_directory_response_spelling v ++ rest) in
    let is = found SpellsQueryDirectoryResponse query_directory_response_fault query_directory_response_in law.one
    law.whole law.given m v (law.again header rest v len (omega arith, (omega arith, (few, (refl, tt))))) in
    (is.0, ap (λ (v : QueryDirectoryResponseValue). v.output) is.1)

pub returns-clause-entries : goal.returns-clause-entries
returns-clause-entries c = λ class kind ns is are.
    let vs : List DirectoryEntryValue = entries_of kind ns in
    subst (λ (m : List ℕ). SpellsListing kind m vs) (sym (bytes_are class kind ns is))
    (c.listing_law.ensures.again kind vs (entries_fit kind ns are))

pub returns-clause-heard : goal.returns-clause-heard
unfolding body_in listing_in
returns-clause-heard c = λ header rest token file class restart single pattern room kind ns len is are few.
    let law = c.query_directory_response_law.ensures in
    let one = c.directory_entry_law.ensures in
    let vs : List DirectoryEntryValue = entries_of kind ns in
    let bytes : List ℕ = listing_bytes class ns in
    let v : QueryDirectoryResponseValue = record { output = bytes } in
    let m : List ℕ = header ++ (query_directory_response_spelling v ++ rest) in
    let row = found SpellsQueryDirectoryResponse query_directory_response_fault query_directory_response_in law.one
    law.whole law.given m v (law.again header rest v len (omega arith, (omega arith, (few, (refl, tt))))) in
    let given : (m : List ℕ) (v : DirectoryEntryValue) → SpellsDirectoryEntry kind m v → directory_entry_in kind m ≡ v =
    λ m v e. one.one kind m (directory_entry_in kind m) v (one.given kind m (one.whole kind m v e)) e in
    let spells : SpellsListing kind bytes vs = subst (λ (m : List ℕ). SpellsListing kind m vs) (sym
    (bytes_are class kind ns is)) (c.listing_law.ensures.again kind vs (entries_fit kind ns are)) in
    let items = items_again (SpellsDirectoryEntry kind) (directory_entry_in kind) (breaks kind) (whole_entry kind) given
    (some_entry kind) bytes vs spells in
    heard_as query_directory_response_fault query_directory_response_in (λ (v : QueryDirectoryResponseValue). listing_in
    class v.output) m v row
    ∙ ap (λ (o : Option DirectoryClass). listing_by o class bytes) is
    ∙ ap (λ (o : Option (List DirectoryEntryValue)). option_map (Listing class) (option_and_then names_of o)) items
    ∙ ap (option_map (Listing class)) (names_again kind ns are)
