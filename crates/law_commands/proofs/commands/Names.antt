-- The names of a listing are written and read back.
use Rattle.std.proofs.Common.{◌≡◌, ℕ, ◌+◌, ◌^◌, ◌≤◌, ◌<◌, List, [], ◌∷◌, length, Option, Some, refl, ap, ◌∙◌, arith}
use Rattle.std.specs.Prelude.{◌||◌, if◌then◌else◌, option_map}
use Rattle.std.proofs.lemmas.Grind.{common_steps}
use Rattle.spec_wire.specs.messages.Places.{gap_to_8}
use Rattle.spec_wire.specs.messages.Utf16.{utf16}
use Rattle.spec_wire.specs.messages.Directory.{DirectoryEntryValue, IsWritableDirectoryEntry, directory_entry_size, SpellsDirectoryEntry}
use Rattle.spec_wire.specs.declared.messages.directory_class.DirectoryClass.TheVariants as class
use Rattle.law_wire.specs.info.Entries.{AreWritableEntries}
use Rattle.spec_exchange.specs.Content.{same_bytes}
use Rattle.spec_exchange.specs.State.{Named}
use Rattle.spec_exchange.specs.Operations.{names_in}
use Rattle.spec_commands.specs.Infos.{entry_of, entries_of}
use Rattle.spec_commands.specs.ReplyOf.{named_of, in_front, names_of}
use Rattle.law_commands.specs.commands.Fitting.{IsFittingName, AreFittingNames, as_named}
use Rattle.law_commands.proofs.commands.Texts.{text_again}

gap_small : (n : ℕ) → gap_to_8 n ≤ 7
gap_small n = omega arith

one_fits : (n : Named) (next : ℕ) → IsFittingName n.name → next < 256 ^ 4 → IsWritableDirectoryEntry class.Names
    (entry_of class.Names n) next
one_fits n next is le = let short = is.short in record {
  fits = (le, (omega (arith, short), (refl, tt)));
  rest = (
    refl,
    refl,
    refl,
    refl,
    refl,
    refl,
    refl,
    refl,
  );
}

next_small : (n : Named) → IsFittingName n.name → directory_entry_size class.Names (entry_of class.Names n) + gap_to_8
    (directory_entry_size class.Names (entry_of class.Names n)) < 256 ^ 4
next_small n is = let short = is.short in omega (arith, short, gap_small (12 + length (utf16 n.name)))

pub entries_fit : (ns : List Named) → AreFittingNames ns → AreWritableEntries class.Names (entries_of class.Names ns)
entries_fit [] is = tt
entries_fit (n ∷ []) is = one_fits n 0 is.0 (omega arith)
entries_fit (n ∷ k ∷ ks) is = (one_fits n _ is.0 (next_small n is.0), entries_fit (k ∷ ks) is.1)

pub some_entry : (m : List ℕ) (v : DirectoryEntryValue) → SpellsDirectoryEntry class.Names m v → 1 ≤ length m
some_entry m v is = grind (arith, common_steps)

pub names_again : (ns : List Named) → AreFittingNames ns → names_of (entries_of class.Names ns) ≡ Some (as_named ns)
unfolding names_of
names_again [] is = refl
names_again (n ∷ ns) is =
    ap (λ (t : Option (List ℕ)). in_front (option_map (named_of 0) t) (names_of (entries_of class.Names ns))) (text_again n.name is.0.utf8)
    ∙ ap (option_map (λ (ks : List Named). named_of 0 n.name ∷ ks)) (names_again ns is.1)

pub same_names : (ns : List Named) → names_in (as_named ns) ≡ names_in ns
unfolding names_in
same_names [] = refl
same_names (n ∷ ns) = ap (λ (l : List (List ℕ)). if same_bytes n.name (46 ∷ []) || same_bytes n.name (46 ∷ 46 ∷ []) then
    l else n.name ∷ l) (same_names ns)
