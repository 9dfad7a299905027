use Rattle.std.proofs.Common.{List, ap, ◌∙◌}
use Rattle.journal_bytes.specs.record_bytes.Meaning.{records_of}
use Rattle.journal_bytes.specs.declared.record_bytes.value.Record.{Record}
use Rattle.server_plan.proofs.owed_records.records.one_record.Goals as goal

pub returns : goal.returns
returns c = ap (λ (v : List Record). records_of v) (c.from_vec.ensures ∙ c.in_ok-records.ensures.items)
