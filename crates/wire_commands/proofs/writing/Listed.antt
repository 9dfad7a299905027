-- The entries of a listing as they are written one behind the other.
use Rattle.std.proofs.Common.{◌≡◌, ℕ, zero, suc, ◌+◌, ◌<◌, ◌≤◌, Bool, true, false, List, [], ◌∷◌, ◌++◌, length, drop}
use Rattle.std.proofs.Common.{refl, sym, ap, subst, ◌∙◌, arith, append_assoc}
use Rattle.std.specs.Prelude.{nat_lt, ◌^◌}
use Rattle.std.proofs.lemmas.Grind.{common_steps}
use Rattle.std.proofs.Math.ListN.{drop_of_length-le}
use Rattle.spec_wire.specs.messages.Utf16.{utf16}
use Rattle.spec_wire.specs.messages.Directory.{DirectoryEntryValue, listing_spelling}
use Rattle.spec_wire.specs.declared.messages.directory_class.DirectoryClass.{DirectoryClass}
use Rattle.spec_wire.specs.declared.messages.directory_class.DirectoryClass.TheVariants as class
use Rattle.wire_info.specs.classes.Listing.{entry_if}
use Rattle.spec_exchange.specs.State.{Named}
use Rattle.spec_commands.specs.Infos.{entry_of, entries_of, with_info}
use Rattle.spec_commands.specs.Fits.{AreListed}
use Rattle.wire_commands.specs.writing.Writing.{FullEntry}

-- a full entry in each class that tells all
module _ (v : DirectoryEntryValue) (n : Named) (more : Bool) where
  pub told_directory : FullEntry v n.info 0 (utf16 n.name) → entry_if more class.Directory v ≡ entry_if more class.Directory (with_info n 0)
  told_directory is = cc

  pub told_full : FullEntry v n.info 0 (utf16 n.name) → entry_if more class.FullDirectory v
      ≡ entry_if more class.FullDirectory (with_info n 0)
  told_full is = cc

  pub told_both : FullEntry v n.info 0 (utf16 n.name) → entry_if more class.BothDirectory v
      ≡ entry_if more class.BothDirectory (with_info n 0)
  told_both is = cc

  pub told_id_both : FullEntry v n.info n.info.file (utf16 n.name) → entry_if more class.IdBothDirectory v
      ≡ entry_if more class.IdBothDirectory (with_info n n.info.file)
  told_id_both is = cc

  pub told_id_full : FullEntry v n.info n.info.file (utf16 n.name) → entry_if more class.IdFullDirectory v
      ≡ entry_if more class.IdFullDirectory (with_info n n.info.file)
  told_id_full is = cc

-- ---- one behind the other

some : List Named → Bool
some [] = false
some (n ∷ ns) = true

abbrev listed : DirectoryClass → List Named → List ℕ
listed c ns = listing_spelling c (entries_of c ns)

linked_is : (c : DirectoryClass) (n : Named) (ns : List Named) → entry_if (some ns) c (entry_of c n) ++ listed c ns ≡ listed c (n ∷ ns)
unfolding some
linked_is c n [] = refl
linked_is c n (m ∷ ms) = refl

some_is : (i : ℕ) (ns : List Named) → some (drop i ns) ≡ nat_lt i (length ns)
unfolding some
some_is i [] = grind (arith, common_steps)
some_is zero (n ∷ ns) = grind (arith, common_steps)
some_is (suc i) (n ∷ ns) = let h = some_is i ns in grind (arith, common_steps)

pub ruleset told_entries = (told_directory, told_full, told_both, told_id_both, told_id_full)

-- what stands is the front of the listing, and the next entry is put behind it
pub entries_go_on : (c : DirectoryClass) (ns : List Named) (n : Named) (i : ℕ) (out : List ℕ) → drop i ns ≡ n ∷ drop (i + 1) ns
    → listed c ns ≡ out ++ listed c (drop i ns)
    → listed c ns ≡ (out ++ entry_if (nat_lt (i + 1) (length ns)) c (entry_of c n)) ++ listed c (drop (i + 1) ns)
entries_go_on c ns n i out front is =
    is ∙ ap (λ (ms : List Named). out ++ listed c ms) front
    ∙ ap (λ (l : List ℕ). out ++ l) (sym (linked_is c n (drop (i + 1) ns)) ∙ ap (λ (b : Bool). entry_if b c (entry_of c
    n) ++ listed c (drop (i + 1) ns)) (some_is (i + 1) ns))
    ∙ sym (append_assoc out (entry_if (nat_lt (i + 1) (length ns)) c (entry_of c n)) (listed c (drop (i + 1) ns)))

pub listed_at : (ns : List Named) (i : ℕ) (n : Named) (rest : List Named) → AreListed ns → drop i ns ≡ n ∷ rest
    → length (utf16 n.name) < 2 ^ 31
listed_at [] zero n rest are is = absurd (let none : [] ≡ n ∷ rest = is in cc)
listed_at [] (suc i) n rest are is = absurd (let none : [] ≡ n ∷ rest = is in cc)
listed_at (m ∷ ms) zero n rest are is = let same : m ≡ n = cc in subst (λ (k : Named). length (utf16 k.name) < 2 ^ 31) same are.0
listed_at (m ∷ ms) (suc i) n rest are is = listed_at ms i n rest are.1 is

pub listed_on : (ns : List Named) (i : ℕ) (n : Named) → drop i ns ≡ n ∷ drop (i + 1) ns → length (utf16 n.name) < 2 ^ 31
    → (AreListed (drop i ns) → AreListed ns) → AreListed (drop (i + 1) ns) → AreListed ns
listed_on ns i n front small go are = go (subst AreListed (sym front) (small, are))

pub listed_end : (ns : List Named) (i : ℕ) → length ns ≤ i → (AreListed (drop i ns) → AreListed ns) → AreListed ns
listed_end ns i past go = go (subst AreListed (sym (drop_of_length-le ns past)) tt)
