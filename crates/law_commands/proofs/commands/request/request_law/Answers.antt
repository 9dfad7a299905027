use Rattle.std.proofs.Common.{◌≡◌, ℕ, ◌^◌, ◌<◌, ◌≤◌, Bool, true, false, List, [], ◌∷◌, ◌++◌, length, Option, Some, None, refl, ap, ◌∙◌, arith}
use Rattle.std.specs.Prelude.{◌==◌, ◌&&◌, nat_le, if◌then◌else◌}
use Rattle.spec_wire.specs.declared.messages.header.Header.{Header}
use Rattle.spec_wire.specs.messages.Utf16.{utf16}
use Rattle.spec_wire.specs.messages.Classes.{is_query_class, is_directory_class}
use Rattle.spec_exchange.specs.Commands.{Command, CreateRequest, Setting, SetEnd, SetBasic, Rename, SetDelete}
use Rattle.spec_exchange.specs.Operations.{Op, OpCreate, OpWrite, OpRead, OpEnd, OpTime, OpRename, OpRemove, OpLock}
use Rattle.spec_exchange.specs.Operations.{OpUnlock, OpFlush, OpStat, OpList, OpClose, keeps_limits, is_create}
use Rattle.spec_exchange.specs.Texts.{utf16_length}
use Rattle.spec_exchange.specs.Operations.{request_of, reconnect_of, is_spelled_path, is_text, fits_32, fits_64, are_below, weight, charge}
use Rattle.spec_exchange.specs.Operations.{create_request, durable_of, only_written, lock_flags, element}
use Rattle.spec_commands.specs.CommandOf.{Told, command_of, named_command}
use Rattle.spec_commands.specs.BodyOf.{body_of, number_of_command, setting_bytes}
use Rattle.law_commands.specs.commands.Fitting.{IsFittingName, IsSetting}
use Rattle.law_commands.proofs.commands.Limits.{both, at_most, in_32, in_64, path_is, flags_small, options_small, star_is}
use Rattle.law_commands.proofs.commands.Paid.{grows}
use Rattle.law_commands.proofs.commands.PathLength.{utf16_few}
use Rattle.law_commands.proofs.commands.SettingBytes.{name_bytes, bytes_most}
use Rattle.law_commands.proofs.commands.request.request_law.Goals as goal

-- by the number of the header
abbrev by_number : ℕ → Told → Header → List ℕ → Option Command
by_number n t h m = if n == 12 then None else Some (named_command n t h m)

stat_known : is_query_class 1 5 ≡ true
unfolding is_query_class
stat_known = refl

names_known : is_directory_class 12 ≡ true
unfolding is_directory_class
names_known = refl

create_is : (path : List ℕ) (access share disposition : ℕ) (persist directory : Bool)
    → keeps_limits (OpCreate path access share disposition persist directory) ≡ true
    → IsFittingName path × (access < 256 ^ 4) × (share < 256 ^ 4) × (disposition < 256 ^ 4)
create_is path access share disposition persist directory e =
    let p = both (is_spelled_path path) (fits_32 access && (fits_32 share && fits_32 disposition)) e in
    let q = both (fits_32 access) (fits_32 share && fits_32 disposition) p.1 in
    let r = both (fits_32 share) (fits_32 disposition) q.1 in
    (path_is path p.0, in_32 access q.0, in_32 share r.0, in_32 disposition r.1)

-- SET_INFO costs one credit
set_pays : (s : Setting) (paid : ℕ) → IsSetting s → name_bytes s ≤ 4096 → charge 0 ≤ paid → charge (length (setting_bytes s)) ≤ paid
set_pays s paid is few pays = omega (arith, grows (length (setting_bytes s)) 65536 (omega (arith, bytes_most s is, few)), pays)

name_few : (path : List ℕ) → is_spelled_path path ≡ true → length (utf16 path) ≤ 4096
unfolding is_spelled_path
name_few path e =
    let p = both (is_text path) (nat_le (utf16_length path) 1024) e in
    let is = path_is path e in
    omega (arith, utf16_few path is.utf8, at_most (utf16_length path) 1024 p.1)

pub returns-clause-own : goal.returns-clause-own
unfolding command_of
returns-clause-own c = λ t h header rest op guid file slot number len keeps unique small low few pays is.
    ap (λ (n : ℕ). by_number n t h (header ++ (body_of (request_of op guid file slot number) ++ rest))) is ∙ by_op op t
    h header rest guid file slot number len keeps unique small low few pays
  where
    by_op : (op : Op) (t : Told) (h : Header) (header rest : List ℕ) (guid file slot number : ℕ) → length header ≡ 64 →
        keeps_limits op ≡ true → guid < 256 ^ 16 → file < 256 ^ 8 → slot < 256 ^ 3 → number < 16
        → charge (weight op) ≤ h.charge
        → by_number (number_of_command (request_of op guid file slot number)) t h (header ++ (body_of (request_of op
        guid file slot number) ++ rest)) ≡ Some (request_of op guid file slot number)
    by_op (OpCreate path access share disposition persist directory) t h header rest guid file slot number len keeps unique small low few pays =
        let r : CreateRequest = create_request path access share disposition directory (Some (durable_of guid persist)) None in
        let p = create_is path access share disposition persist directory keeps in
        ap Some (c.create_again.ensures header rest r len (record {
          path = p.0;
          access = p.1;
          share = p.2;
          attributes =
              omega arith;
          disposition = p.3;
          options = options_small directory;
          durable = (omega arith, unique);
          reconnect = tt;
        }))
    by_op (OpWrite create at bytes) t h header rest guid file slot number len keeps unique small low few pays =
        let p = both (fits_64 at) (are_below 256 bytes && nat_le (length bytes) 1048577) keeps in
        let q = both (are_below 256 bytes) (nat_le (length bytes) 1048577) p.1 in
        let short = at_most (length bytes) 1048577 q.1 in
        ap Some (c.write_again.ensures h.charge header rest file at bytes 0 len small (in_64 at p.0) (omega (arith, short)) (omega arith) pays)
    by_op (OpRead create at size) t h header rest guid file slot number len keeps unique small low few pays =
        let p = both (fits_64 at) (nat_le size 1048577) keeps in
        let short = at_most size 1048577 p.1 in
        ap Some (c.read_again.ensures h.charge header rest file at size 0 0 len small (in_64 at p.0) (omega (arith, short))
        (omega arith) (omega arith) pays)
    by_op (OpEnd create size) t h header rest guid file slot number len keeps unique small low few pays = ap Some
        (c.set_again.ensures h.charge header rest file (SetEnd size) len small (in_64 size keeps) (set_pays (SetEnd size) h.charge (in_64 size keeps) (omega arith) pays))
    by_op (OpTime create time) t h header rest guid file slot number len keeps unique small low few pays =
        let is : IsSetting (SetBasic (only_written time)) = record {
          created = omega arith;
          accessed = omega arith;
          written = in_64 time keeps;
          changed = omega arith;
          attributes = omega arith;
        } in
        ap Some (c.set_again.ensures h.charge header rest file (SetBasic (only_written time)) len small is
        (set_pays (SetBasic (only_written time)) h.charge is (omega arith) pays))
    by_op (OpRename create path) t h header rest guid file slot number len keeps unique small low few pays = ap Some
        (c.set_again.ensures h.charge header rest file (Rename false path) len small (path_is path keeps)
        (set_pays (Rename false path) h.charge (path_is path keeps) (omega (arith, name_few path keeps)) pays))
    by_op (OpRemove create) t h header rest guid file slot number len keeps unique small low few pays = ap Some
        (c.set_again.ensures h.charge header rest file (SetDelete true) len small tt
        (set_pays (SetDelete true) h.charge tt (omega arith) pays))
    by_op (OpLock create at n exclusive) t h header rest guid file slot number len keeps unique small low few pays =
        let p = both (fits_64 at) (fits_64 n) keeps in
        ap Some (c.lock_again.ensures header rest file slot number (element at n (lock_flags exclusive)) len small low
        few (omega arith) (omega arith) (
          record {
            at = in_64 at p.0;
            size = in_64 n p.1;
            flags = flags_small
                exclusive;
          },
          tt,
        ))
    by_op (OpUnlock create at n) t h header rest guid file slot number len keeps unique small low few pays =
        let p = both (fits_64 at) (fits_64 n) keeps in
        ap Some (c.lock_again.ensures header rest file slot number (element at n 0x4) len small low few (omega arith)
        (omega arith) (record { at = in_64 at p.0; size = in_64 n p.1; flags = omega arith }, tt))
    by_op (OpFlush create) t h header rest guid file slot number len keeps unique small low few pays = ap Some
        (c.flush_again.ensures header rest file len small)
    by_op (OpStat create) t h header rest guid file slot number len keeps unique small low few pays = ap Some
        (c.query_again.ensures h.charge header rest file 5 24 len small (omega arith) stat_known refl (omega arith) pays)
    by_op (OpList create) t h header rest guid file slot number len keeps unique small low few pays =
        ap Some (c.list_again.ensures h.charge header rest file 12 true false (42 ∷ []) 1048576 len small (omega arith)
        names_known star_is (omega arith) pays)
    by_op (OpClose create) t h header rest guid file slot number len keeps unique small low few pays = ap Some
        (c.close_again.ensures header rest file false len small)

pub returns-clause-attach : goal.returns-clause-attach
unfolding command_of
returns-clause-attach c = λ t h header rest op guid file len keeps made unique small is.
    ap (λ (n : ℕ). by_number n t h (header ++ (body_of (reconnect_of op guid file) ++ rest))) is ∙ by_op op t h header
    rest guid file len keeps made unique small
  where
    by_op : (op : Op) (t : Told) (h : Header) (header rest : List ℕ) (guid file : ℕ) → length header ≡ 64 → keeps_limits
        op ≡ true → is_create op ≡ true → guid < 256 ^ 16 → file < 256 ^ 8
        → by_number (number_of_command (reconnect_of op guid file)) t h (header ++ (body_of (reconnect_of op guid file)
        ++ rest)) ≡ Some (reconnect_of op guid file)
    by_op (OpCreate path access share disposition persist directory) t h header rest guid file len keeps made unique small =
        let r : CreateRequest = create_request path access share disposition directory None (Some (record { file = file; guid = guid })) in
        let p = create_is path access share disposition persist directory keeps in
        ap Some (c.create_again.ensures header rest r len (record {
          path = p.0;
          access = p.1;
          share = p.2;
          attributes =
              omega arith;
          disposition = p.3;
          options = options_small directory;
          durable = tt;
          reconnect = (small, unique);
        }))
    by_op _ t h header rest guid file len keeps made unique small = absurd cc
