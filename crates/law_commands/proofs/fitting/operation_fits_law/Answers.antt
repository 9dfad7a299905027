use Rattle.std.proofs.Common.{◌≡◌, ℕ, ◌^◌, ◌<◌, Bool, true, false, List, [], ◌∷◌, length, subst, sym, arith}
use Rattle.std.specs.Prelude.{◌&&◌, nat_le}
use Rattle.spec_wire.specs.messages.Utf16.{utf16}
use Rattle.spec_wire.specs.messages.FileClasses as files
use Rattle.spec_exchange.specs.Commands.{SetEnd, SetBasic, Rename, SetDelete}
use Rattle.spec_exchange.specs.State.{Body, Content, Listing, FileInfo, Named, Info}
use Rattle.spec_exchange.specs.Operations.{Op, OpCreate, OpWrite, OpRead, OpEnd, OpTime, OpRename, OpRemove, OpLock}
use Rattle.spec_exchange.specs.Operations.{OpUnlock, OpFlush, OpStat, OpList, OpClose, keeps_limits, request_of}
use Rattle.spec_exchange.specs.Operations.{reconnect_of, fits_64, are_below, only_written, is_spelled_path}
use Rattle.spec_commands.specs.Tables.{directory_class, bit_if}
use Rattle.spec_commands.specs.BodyOf.{setting_bytes, basic_value}
use Rattle.spec_commands.specs.Infos.{listing_bytes, file_bytes, standard_of}
use Rattle.spec_commands.specs.Fits.{FitsAsked, FitsSuccess, AreListed, AreListedIn, IsShort}
use Rattle.spec_commands.proofs.Lengths.{total, length_fields}
use Rattle.law_commands.specs.commands.Fitting.{IsFittingName, IsFittingAnswer, AreFittingNames}
use Rattle.law_commands.proofs.commands.Limits.{both, at_most, path_is, star_is}
use Rattle.law_commands.proofs.fitting.operation_fits_law.Goals as goal

short : (path : List ℕ) → IsFittingName path → IsShort path
short path is = omega (arith, is.short)

created : (path : List ℕ) (rest : Bool) → (is_spelled_path path && rest) ≡ true → IsShort path
created path rest e = short path (path_is path (both (is_spelled_path path) rest e).0)

basic_few : (time : ℕ) → length (setting_bytes (SetBasic (only_written time))) < 2 ^ 32
unfolding total
basic_few time = omega (arith, length_fields (files.file_basic_information_table (basic_value (only_written time))) [])

end_few : (size : ℕ) → length (setting_bytes (SetEnd size)) < 2 ^ 32
unfolding total
end_few size = omega (arith, length_fields (files.file_end_of_file_information_table (record { end_of_file = size })) [])

delete_few : (b : Bool) → length (setting_bytes (SetDelete b)) < 2 ^ 32
unfolding total
delete_few b = omega (arith, length_fields (files.file_disposition_information_table (record { delete_pending = bit_if b 1 })) [])

abbrev rename_value : List ℕ → files.FileRenameInformationValue
rename_value path = record { replace_if_exists = bit_if false 1; root_directory = 0; name = utf16 path }

rename_few : (path : List ℕ) → IsFittingName path → length (setting_bytes (Rename false path)) < 2 ^ 32
unfolding total
rename_few path is = omega (arith, is.short, length_fields (files.file_rename_information_whole (rename_value path)) [])

pub returns-clause-asked : goal.returns-clause-asked
returns-clause-asked c = λ op guid file slot number keeps low few. by_op op guid file slot number keeps low few
  where
    by_op : (op : Op) (guid file slot number : ℕ) → keeps_limits op ≡ true → slot < 2 ^ 28 → number < 16 → FitsAsked
        (request_of op guid file slot number)
    by_op (OpCreate path access share disposition persist directory) guid file slot number keeps low few = created path _ keeps
    by_op (OpWrite create at bytes) guid file slot number keeps low few =
        let p = both (fits_64 at) (are_below 256 bytes && nat_le (length bytes) 1048577) keeps in
        let q = both (are_below 256 bytes) (nat_le (length bytes) 1048577) p.1 in
        let few = at_most (length bytes) 1048577 q.1 in
        omega (arith, few)
    by_op (OpRead create at size) guid file slot number keeps low few = tt
    by_op (OpEnd create size) guid file slot number keeps low few = (tt, end_few size)
    by_op (OpTime create time) guid file slot number keeps low few = (tt, basic_few time)
    by_op (OpRename create path) guid file slot number keeps low few =
        let is = path_is path keeps in
        (omega (arith, is.short), rename_few path is)
    by_op (OpRemove create) guid file slot number keeps low few = (tt, delete_few true)
    by_op (OpLock create at n exclusive) guid file slot number keeps low few = (low, few, omega arith, omega arith)
    by_op (OpUnlock create at n) guid file slot number keeps low few = (low, few, omega arith, omega arith)
    by_op (OpFlush create) guid file slot number keeps low few = tt
    by_op (OpStat create) guid file slot number keeps low few = tt
    by_op (OpList create) guid file slot number keeps low few = short (42 ∷ []) star_is
    by_op (OpClose create) guid file slot number keeps low few = tt

pub returns-clause-attach : goal.returns-clause-attach
returns-clause-attach c = λ op guid file keeps. by_op op guid file keeps
  where
    by_op : (op : Op) (guid file : ℕ) → keeps_limits op ≡ true → FitsAsked (reconnect_of op guid file)
    by_op (OpCreate path access share disposition persist directory) guid file keeps = created path _ keeps
    by_op _ guid file keeps = tt

names_short : (ns : List Named) → AreFittingNames ns → AreListed ns
names_short [] are = tt
names_short (n ∷ ns) are = let first = are.0.short in (omega (arith, first), names_short ns are.1)

names_class : (ns : List Named) → AreFittingNames ns → AreListedIn (directory_class 12) ns
unfolding directory_class
names_class ns are = names_short ns are

length_few : (path : List ℕ) (i : Info) (access options position : ℕ) → length (file_bytes 5 path i access options position) < 2 ^ 32
unfolding file_bytes total
length_few path i access options position = omega (arith, length_fields (files.file_standard_information_table (standard_of i)) [])

pub returns-clause-answered : goal.returns-clause-answered
returns-clause-answered c = λ token op guid file slot number r is told. by_op token op guid file slot number r.body is
  where
    by_op : (token : List ℕ) (op : Op) (guid file slot number : ℕ) (b : Body) → IsFittingAnswer op b → FitsSuccess token
        (request_of op guid file slot number) b
    by_op token (OpCreate path access share disposition persist directory) guid file slot number b is = tt
    by_op token (OpWrite create at bytes) guid file slot number b is = tt
    by_op token (OpRead create at size) guid file slot number (Content bytes) is = omega (arith, is)
    by_op token (OpRead create at size) guid file slot number _ is = absurd is
    by_op token (OpEnd create size) guid file slot number b is = tt
    by_op token (OpTime create time) guid file slot number b is = tt
    by_op token (OpRename create path) guid file slot number b is = tt
    by_op token (OpRemove create) guid file slot number b is = tt
    by_op token (OpLock create at n exclusive) guid file slot number b is = tt
    by_op token (OpUnlock create at n) guid file slot number b is = tt
    by_op token (OpFlush create) guid file slot number b is = tt
    by_op token (OpStat create) guid file slot number (FileInfo class path info access options position) is = subst (λ (k : ℕ).
        length (file_bytes k path info access options position) < 2 ^ 32) (sym is.0) (length_few path info access options position)
    by_op token (OpStat create) guid file slot number _ is = absurd is
    by_op token (OpList create) guid file slot number (Listing class entries) is =
        let few = is.2 in
        subst (λ (k : ℕ). AreListedIn (directory_class k) entries × (length (listing_bytes k entries) < 2 ^ 32)) (sym is.0)
        (names_class entries is.1, omega (arith, few))
    by_op token (OpList create) guid file slot number _ is = absurd is
    by_op token (OpClose create) guid file slot number b is = tt
