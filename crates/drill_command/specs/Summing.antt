-- How many operations came out how, and what the files hold.
use Rattle.std.specs.Prelude.{ℕ, ◌+◌, Bool, true, false, if◌then◌else◌, List, [], ◌∷◌, ◌++◌, length, codes}
use Rattle.std.specs.Fmt.{decimal}
use Rattle.spec_exchange.specs.Operations.{Outcome, Unsettled, WasRefused, NoSlot, NoOpen, Unknown, is_ok}
use Rattle.store_files.specs.declared.file_tree.files.StoredFile.{StoredFile}
use Rattle.drill_command.specs.declared.summing.Kind.{Kind}
use Rattle.drill_command.specs.declared.summing.Kind.TheVariants as kinds

abbrev pub was_refused : Outcome → Bool
was_refused (WasRefused status) = true
was_refused _ = false

abbrev pub had_no_slot : Outcome → Bool
had_no_slot (NoSlot create) = true
had_no_slot _ = false

abbrev pub had_no_open : Outcome → Bool
had_no_open (NoOpen create) = true
had_no_open _ = false

-- one that never settled is unknown, since the script ended
abbrev pub is_unknown : Outcome → Bool
is_unknown Unsettled = true
is_unknown (Unknown why) = true
is_unknown _ = false

abbrev pub is_kind : Kind → Outcome → Bool
is_kind kinds.Ok o = is_ok o
is_kind kinds.Refused o = was_refused o
is_kind kinds.NoSlot o = had_no_slot o
is_kind kinds.NoOpen o = had_no_open o
is_kind kinds.Unknown o = is_unknown o

abbrev pub one_if : Bool → ℕ
one_if b = if b then 1 else 0

unfoldable pub count_of : Kind → List Outcome → ℕ
count_of kind [] = 0
count_of kind (o ∷ os) = one_if (is_kind kind o) + count_of kind os

unfoldable pub stored_bytes : List StoredFile → ℕ
stored_bytes [] = 0
stored_bytes (f ∷ fs) = length f.bytes + stored_bytes fs

unfoldable pub counts_line : ℕ → ℕ → ℕ → ℕ → ℕ → List ℕ
counts_line ok refused no_slot no_open unknown =
    codes "# ok " ++ (decimal ok ++ (codes " refused " ++ (decimal refused ++ (codes " noslot " ++ (decimal no_slot ++ (codes " noopen "
    ++ (decimal no_open ++ (codes " unknown " ++ (decimal unknown ++ codes "\n")))))))))

unfoldable pub files_line : ℕ → ℕ → List ℕ
files_line held bytes = codes "# files " ++ (decimal held ++ (codes " bytes " ++ (decimal bytes ++ codes "\n")))

abbrev pub counts_of : List Outcome → List ℕ
counts_of os =
    counts_line (count_of kinds.Ok os) (count_of kinds.Refused os) (count_of kinds.NoSlot os) (count_of kinds.NoOpen os)
    (count_of kinds.Unknown os)

abbrev pub summary_text : List Outcome → List StoredFile → List ℕ
summary_text os fs = counts_of os ++ files_line (length fs) (stored_bytes fs)
