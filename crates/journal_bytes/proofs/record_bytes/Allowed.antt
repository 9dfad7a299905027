-- What `can_write` lets pass is writable, with numbers in their fields.
use Rattle.std.proofs.Common.{◌≡◌, ℕ, ◌*◌, ◌/◌, ◌%◌, ◌^◌, ◌<◌, Bool, true, false, List, [], ◌∷◌, length, Option, Some, None, refl, arith}
use Rattle.std.proofs.lemmas.List.Elements.{All-nil, All-cons, All-head, All-tail}
use Rattle.spec_wire.specs.messages.Table.{AreWritable}
use Rattle.journal_bytes.specs.record_bytes.Grammar.{flag, opened_table, OpenFits, WrittenRecordFits, WrittenRecordsFit, OpenIsKept, open_numbers}
use Rattle.journal_bytes.specs.record_bytes.Grammar.{HasUser, IsInRange, AreInRange, IsWritableRecord, AreWritableRecords}
use Rattle.journal_bytes.specs.declared.record_bytes.value.NewOpen.{NewOpen}
use Rattle.journal_bytes.specs.declared.record_bytes.value.Record.{Record}
use Rattle.journal_bytes.specs.declared.record_bytes.value.Record.TheVariants.{Epoch, Create, Write, SetEnd, SetBasic, SetDelete}
use Rattle.journal_bytes.specs.declared.record_bytes.value.Record.TheVariants.{Rename, Remove, Lock, Shut, Version, Expire}

pub flag_small : (b : Bool) → flag b < 256 ^ 1
flag_small false = omega arith
flag_small true = omega arith

whole : (elements : List ℕ) → length elements % 24 ≡ 0 → length elements ≡ 24 * (length elements / 24)
whole elements is = omega (arith, is)

open_writable : (o : Option NewOpen) → OpenFits o → AreWritable (open_numbers o) → AreWritable (opened_table 2 o)
open_writable None fit n = (omega arith, tt)
open_writable (Some o) fit n = (omega arith, (n.0, (n.1.0, (n.1.1.0, (omega (arith, fit), (refl, n.1.1.1))))))

open_kept : (o : Option NewOpen) → HasUser o → OpenIsKept 2 o
open_kept None is = tt
open_kept (Some o) is = (is, λ e. absurd (omega (arith, e)))

writable : (r : Record) → WrittenRecordFits r → IsInRange r → IsWritableRecord r
writable (Epoch told_number) fit is = record { fits = (omega arith, is.numbers); kept = tt }
writable (Create origin action file path attributes directory time opened) fit is =
    let n = is.numbers in
    record {
      fits = (
        omega arith,
        (
          n.0,
          (
            n.1.0,
            (
              n.1.1.0,
              (
                n.1.1.1.0,
                (
                  n.1.1.1.1.0,
                  (
                    omega (arith, fit.0),
                    (refl, (n.1.1.1.1.1.0, (flag_small directory, (n.1.1.1.1.1.1.0, open_writable opened fit.1 n.1.1.1.1.1.1.1)))),
                  ),
                ),
              ),
            ),
          ),
        ),
      );
      kept = (is.texts.0, open_kept opened is.texts.1);
    }
writable (Write origin file at time bytes) fit is =
    let n = is.numbers in
    record {
      fits = (
        omega arith,
        (n.0, (n.1.0, (n.1.1.0, (n.1.1.1.0, (n.1.1.1.1.0, (n.1.1.1.1.1.0, (omega (arith, fit), (refl, tt)))))))),
      );
      kept = tt;
    }
writable (SetEnd origin file size time) fit is = record { fits = (omega arith, is.numbers); kept = tt }
writable (SetBasic origin file basic) fit is = record { fits = (omega arith, is.numbers); kept = tt }
writable (SetDelete origin file marked) fit is =
    let n = is.numbers in
    record { fits = (omega arith, (n.0, (n.1.0, (n.1.1.0, (n.1.1.1.0, (flag_small marked, tt)))))); kept = tt }
writable (Rename origin file replaced path) fit is =
    let n = is.numbers in
    record {
      fits = (omega arith, (n.0, (n.1.0, (n.1.1.0, (n.1.1.1.0, (n.1.1.1.1.0, (omega (arith, fit), (refl, tt))))))));
      kept = is.texts;
    }
writable (Remove origin file) fit is = record { fits = (omega arith, is.numbers); kept = tt }
writable (Lock origin id index tried_number status elements) fit is =
    let n = is.numbers in
    record {
      fits = (
        omega arith,
        (
          n.0,
          (
            n.1.0,
            (
              n.1.1.0,
              (
                n.1.1.1.0,
                (
                  n.1.1.1.1.0,
                  (
                    n.1.1.1.1.1.0,
                    (
                      n.1.1.1.1.1.1.0,
                      (
                        omega (arith, fit.0),
                        (whole elements fit.1, tt),
                      ),
                    ),
                  ),
                ),
              ),
            ),
          ),
        ),
      );
      kept = tt;
    }
writable (Shut origin id) fit is = record { fits = (omega arith, is.numbers); kept = tt }
writable (Version told_number) fit is = record { fits = (omega arith, is.numbers); kept = fit }
writable (Expire origin id) fit is = record { fits = (omega arith, is.numbers); kept = tt }

pub all_writable : (rs : List Record) → WrittenRecordsFit rs → AreInRange rs → AreWritableRecords rs
all_writable [] fit is = All-nil IsWritableRecord
all_writable (r ∷ rs) fit is = All-cons IsWritableRecord r rs
    (writable r (All-head WrittenRecordFits r rs fit) (All-head IsInRange r rs is))
    (all_writable rs (All-tail WrittenRecordFits r rs fit) (All-tail IsInRange r rs is))
