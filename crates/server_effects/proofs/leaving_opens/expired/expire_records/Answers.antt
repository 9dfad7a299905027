use Rattle.server_effects.proofs.leaving_opens.Files.{expired_told}
use Rattle.std.proofs.Common.{List, ap}
use Rattle.journal_bytes.specs.record_bytes.Meaning.{records_of}
use Rattle.journal_bytes.specs.declared.record_bytes.value.Record.{Record}
use Rattle.server_effects.proofs.leaving_opens.expired.expire_records.Goals as goal

pub returns : goal.returns
returns c = λ s f o t st. expired_told s c.args.origin c.args.id c.file_of-file.result c.fate_with-fate.result _ _ _
    (ap (λ (v : List Record). records_of v) c.new-records.ensures) c.in_ok-push_record.ensures c.in_ok-push_parted.ensures
    (c.fate_with-fate.ensures s f o t st) (c.file_of-file.ensures.shown s o st)
