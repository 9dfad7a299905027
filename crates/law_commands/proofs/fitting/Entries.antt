-- The entries of a listing are written and read back, in each class.
use Rattle.std.proofs.Common.{◌≡◌, ℕ, ◌+◌, ◌^◌, ◌≤◌, ◌<◌, List, [], ◌∷◌, length, Option, Some, refl, ap, ◌∙◌, arith}
use Rattle.std.specs.Prelude.{option_map}
use Rattle.spec_wire.specs.messages.Places.{number, gap_to_8}
use Rattle.spec_wire.specs.messages.Utf16.{utf16}
use Rattle.spec_wire.specs.messages.Table.{Field, Num, Raw, Any, Stands}
use Rattle.spec_wire.specs.messages.Directory.{DirectoryEntryValue, IsWritableDirectoryEntry, SpellsDirectoryEntry, directory_entry_size}
use Rattle.spec_wire.specs.messages.Directory.{directory_entry_table, entry_size}
use Rattle.spec_wire.specs.declared.messages.directory_class.DirectoryClass.{DirectoryClass}
use Rattle.spec_wire.specs.declared.messages.directory_class.DirectoryClass.TheVariants as class
use Rattle.law_wire.specs.info.Entries.{AreWritableEntries}
use Rattle.spec_exchange.specs.State.{Named}
use Rattle.spec_commands.specs.Infos.{entry_of, entries_of}
use Rattle.spec_commands.specs.ReplyOf.{named_of, in_front, names_of}
use Rattle.spec_commands.specs.Text.{text_in}
use Rattle.law_commands.specs.commands.Fitting.{IsFittingName, IsInfo}
use Rattle.law_commands.specs.fitting.Listings.{AreListingEntries, as_listed}
use Rattle.law_commands.proofs.commands.Infos.{allocation_small, attributes_small}
use Rattle.law_commands.proofs.commands.Texts.{text_again}

same_name : (c : DirectoryClass) (n : Named) → (entry_of c n).name ≡ utf16 n.name
same_name class.Directory n = refl
same_name class.FullDirectory n = refl
same_name class.BothDirectory n = refl
same_name class.Names n = refl
same_name class.IdBothDirectory n = refl
same_name class.IdFullDirectory n = refl

-- ---- they can be written

-- the numbers of an entry fit their fields
record Fits (n : Named) (next : ℕ) : Type 0 where
  link : next < 256 ^ 4
  name : length (utf16 n.name) < 256 ^ 4
  info : IsInfo n.info
  size : n.info.size < 256 ^ 8

fits_of : (n : Named) (next : ℕ) → IsFittingName n.name → IsInfo n.info → next < 256 ^ 4 → Fits n next
fits_of n next name info few = let short = name.short in let size = info.size in record {
  link = few;
  name = omega (arith, short);
  info = info;
  size = omega (arith, size);
}

one_fits : (c : DirectoryClass) (n : Named) (next : ℕ) → Fits n next → IsWritableDirectoryEntry c (entry_of c n) next
one_fits class.Names n next f = record { fits = (f.link, (f.name, (refl, tt))); rest = (refl, refl, refl, refl, refl, refl, refl, refl) }
one_fits class.Directory n next f = record {
  fits = (
    f.link,
    (
      f.info.times.created,
      (
        f.info.times.accessed,
        (
          f.info.times.written,
          (
            f.info.times.changed,
            (
              f.size,
              (
                allocation_small n.info.size f.info.size,
                (attributes_small n.info f.info.times.attributes, (f.name, (refl, tt))),
              ),
            ),
          ),
        ),
      ),
    ),
  );
  rest = refl;
}
one_fits class.FullDirectory n next f = record {
  fits = (
    f.link,
    (
      f.info.times.created,
      (
        f.info.times.accessed,
        (
          f.info.times.written,
          (
            f.info.times.changed,
            (
              f.size,
              (
                allocation_small n.info.size f.info.size,
                (attributes_small n.info f.info.times.attributes, (f.name, (refl, tt))),
              ),
            ),
          ),
        ),
      ),
    ),
  );
  rest = refl;
}
one_fits class.BothDirectory n next f = record {
  fits = (
    f.link,
    (
      f.info.times.created,
      (
        f.info.times.accessed,
        (
          f.info.times.written,
          (
            f.info.times.changed,
            (
              f.size,
              (
                allocation_small n.info.size f.info.size,
                (attributes_small n.info f.info.times.attributes, (f.name, (refl, tt))),
              ),
            ),
          ),
        ),
      ),
    ),
  );
  rest = refl;
}
one_fits class.IdBothDirectory n next f = record {
  fits = (
    f.link,
    (
      f.info.times.created,
      (
        f.info.times.accessed,
        (
          f.info.times.written,
          (
            f.info.times.changed,
            (
              f.size,
              (
                allocation_small n.info.size f.info.size,
                (
                  attributes_small n.info f.info.times.attributes,
                  (
                    f.name,
                    (
                      f.info.file,
                      (refl, tt),
                    ),
                  ),
                ),
              ),
            ),
          ),
        ),
      ),
    ),
  );
  rest = tt;
}
one_fits class.IdFullDirectory n next f = record {
  fits = (
    f.link,
    (
      f.info.times.created,
      (
        f.info.times.accessed,
        (
          f.info.times.written,
          (
            f.info.times.changed,
            (
              f.size,
              (
                allocation_small n.info.size f.info.size,
                (
                  attributes_small n.info f.info.times.attributes,
                  (
                    f.name,
                    (
                      f.info.file,
                      (refl, tt),
                    ),
                  ),
                ),
              ),
            ),
          ),
        ),
      ),
    ),
  );
  rest = tt;
}

most_fixed : (c : DirectoryClass) → entry_size c ≤ 104
most_fixed class.Directory = omega arith
most_fixed class.FullDirectory = omega arith
most_fixed class.BothDirectory = omega arith
most_fixed class.Names = omega arith
most_fixed class.IdBothDirectory = omega arith
most_fixed class.IdFullDirectory = omega arith

gap_few : (n : ℕ) → gap_to_8 n ≤ 7
gap_few n = omega arith

next_small : (c : DirectoryClass) (n : Named) → IsFittingName n.name → directory_entry_size c (entry_of c n) + gap_to_8
    (directory_entry_size c (entry_of c n)) < 256 ^ 4
next_small c n is =
    let short = is.short in
    let name : length (entry_of c n).name ≡ length (utf16 n.name) = ap length (same_name c n) in
    omega (arith, short, name, most_fixed c, gap_few (directory_entry_size c (entry_of c n)))

pub entries_fit : (c : DirectoryClass) (ns : List Named) → AreListingEntries ns → AreWritableEntries c (entries_of c ns)
entries_fit c [] is = tt
entries_fit c (n ∷ []) is = one_fits c n 0 (fits_of n 0 is.0 is.1 (omega arith))
entries_fit c (n ∷ k ∷ ks) is = (
  one_fits c n _ (fits_of n _ is.0 is.1 (next_small c n is.0)),
  entries_fit c (k ∷ ks) is.2,
)

-- ---- they are not empty

abbrev ends : ℕ → List Field → ℕ
ends at [] = at
ends at (Num w n ∷ fs) = ends (at + w) fs
ends at (Raw w b ∷ fs) = ends (at + w) fs
ends at (Any w ∷ fs) = ends (at + w) fs

inside : (m : List ℕ) (at : ℕ) (fs : List Field) → Stands m at fs → ends at fs ≤ length m
inside m at [] s = s
inside m at (Num w n ∷ fs) s = inside m (at + w) fs s.1
inside m at (Raw w b ∷ fs) s = inside m (at + w) fs s.1
inside m at (Any w ∷ fs) s = inside m (at + w) fs s

pub some_entry : (c : DirectoryClass) (m : List ℕ) (v : DirectoryEntryValue) → SpellsDirectoryEntry c m v → 1 ≤ length m
some_entry class.Directory m v is = let long : 64 ≤ length m =
    inside m 0 (directory_entry_table class.Directory v (number 4 m 0)) is.fixed in omega (arith, long)
some_entry class.FullDirectory m v is = let long : 68 ≤ length m =
    inside m 0 (directory_entry_table class.FullDirectory v (number 4 m 0)) is.fixed in omega (arith, long)
some_entry class.BothDirectory m v is = let long : 94 ≤ length m =
    inside m 0 (directory_entry_table class.BothDirectory v (number 4 m 0)) is.fixed in omega (arith, long)
some_entry class.Names m v is = let long : 12 ≤ length m =
    inside m 0 (directory_entry_table class.Names v (number 4 m 0)) is.fixed in omega (arith, long)
some_entry class.IdBothDirectory m v is = let long : 104 ≤ length m =
    inside m 0 (directory_entry_table class.IdBothDirectory v (number 4 m 0)) is.fixed in omega (arith, long)
some_entry class.IdFullDirectory m v is = let long : 80 ≤ length m =
    inside m 0 (directory_entry_table class.IdFullDirectory v (number 4 m 0)) is.fixed in omega (arith, long)

-- ---- their names

pub names_again : (c : DirectoryClass) (ns : List Named) → AreListingEntries ns → names_of (entries_of c ns) ≡ Some (as_listed c ns)
unfolding names_of
names_again c [] is = refl
names_again c (n ∷ ns) is =
    let size : ℕ = (entry_of c n).end_of_file in
    ap (λ (l : List ℕ). in_front (option_map (named_of size) (text_in l)) (names_of (entries_of c ns))) (same_name c n)
    ∙ ap (λ (t : Option (List ℕ)). in_front (option_map (named_of size) t) (names_of (entries_of c ns))) (text_again n.name is.0.utf8)
    ∙ ap (option_map (λ (ks : List Named). named_of size n.name ∷ ks)) (names_again c ns is.2)
