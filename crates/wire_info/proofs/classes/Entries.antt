-- The walk over the entries of a listing.
use Rattle.std.proofs.Common.{◌≡◌, ℕ, List, [], ◌∷◌, ◌++◌, drop, Some, None, false, refl, sym, subst, ◌∙◌, append_assoc}
use Rattle.std.proofs.lemmas.List.{append-nil}
use Rattle.spec_wire.specs.messages.Places.{number}
use Rattle.spec_wire.specs.messages.Chain.{is_badly_linked, piece, IsChainOf}
use Rattle.spec_wire.specs.messages.Directory.{DirectoryEntryValue, SpellsDirectoryEntry, SpellsListing, BreaksListing, first_entry_fault}
use Rattle.spec_wire.specs.declared.messages.directory_class.DirectoryClass.{DirectoryClass}
use Rattle.spec_wire.specs.declared.messages.error.MessageError.{MessageError}
use Rattle.spec_wire.proofs.messages.Walk.{Walked, begins, goes_on, ends, breaks}

abbrev one : DirectoryEntryValue → List DirectoryEntryValue
one v = v ∷ []

abbrev both : List DirectoryEntryValue → List DirectoryEntryValue → List DirectoryEntryValue
both xs ys = xs ++ ys

abbrev none : List DirectoryEntryValue
none = []

abbrev all : List DirectoryEntryValue → List DirectoryEntryValue
all vs = vs

abbrev pub EntriesFound : DirectoryClass → List ℕ → List ℕ → List DirectoryEntryValue → Type 0
EntriesFound c m rest found = Walked (SpellsDirectoryEntry c) (first_entry_fault c) one both none all m rest found

step : (v : DirectoryEntryValue) (vs : List DirectoryEntryValue) → all (v ∷ vs) ≡ both (one v) (all vs)
step v vs = refl

pub entries_begin : (c : DirectoryClass) (m : List ℕ) → (m ≡ [] → ⊥) → EntriesFound c m m []
entries_begin c m some = begins (SpellsDirectoryEntry c) (first_entry_fault c) one both none all (λ x. refl) m some

pub entries_go_on : (c : DirectoryClass) (m rest : List ℕ) (found : List DirectoryEntryValue) (v : DirectoryEntryValue)
    (next : ℕ) → EntriesFound c m rest found
    → first_entry_fault c rest ≡ None → is_badly_linked rest ≡ false → SpellsDirectoryEntry c (piece rest) v → next
    ≡ number 4 rest 0 → (next ≡ 0 → ⊥) → EntriesFound c m (drop next rest) (found ++ v ∷ [])
entries_go_on c m rest found v next walked whole link is told more =
    subst (λ (k : ℕ). EntriesFound c m (drop k rest) (found ++ v ∷ [])) (sym told)
    (goes_on (SpellsDirectoryEntry c) (first_entry_fault c) one both none all step append_assoc m rest found v
    walked whole (λ z. more (told ∙ z)) link is)

pub entries_end : (c : DirectoryClass) (m rest : List ℕ) (found : List DirectoryEntryValue) (v : DirectoryEntryValue)
    (next : ℕ) → EntriesFound c m rest found
    → is_badly_linked rest ≡ false → SpellsDirectoryEntry c (piece rest) v → next ≡ number 4 rest 0 → next ≡ 0
    → SpellsListing c m (found ++ v ∷ [])
entries_end c m rest found v next walked link is told last =
    let t = ends (SpellsDirectoryEntry c) (first_entry_fault c) one both none all step append-nil refl m rest found v
    walked (sym told ∙ last) link is in
    subst (λ (vs : List DirectoryEntryValue). IsChainOf (SpellsDirectoryEntry c) m vs) (sym t.says) t.chain

pub entries_break : (c : DirectoryClass) (m rest : List ℕ) (found : List DirectoryEntryValue) (e : MessageError)
    → EntriesFound c m rest found → first_entry_fault c rest ≡ Some e → BreaksListing c m e
entries_break c m rest found e walked here = breaks (SpellsDirectoryEntry c) (first_entry_fault c) one both none all m
    rest found e walked here
