use Rattle.wire_commands.specs.values.Meaning.{message_of}
use Rattle.journal_bytes.specs.record_bytes.Meaning.{opened}
use Rattle.server_plan.proofs.owed_records.Told.{told_create}
use Rattle.server_plan.proofs.owed_records.create.create_record.Goals as goal

pub returns : goal.returns
returns c = λ s t i.
    told_create (message_of c.args.m.now) c.args.action c.args.now _ _ _ _ _ _ _ _ (opened c.args.made) _
    c.origin_of-origin.ensures (c.new_file-file.ensures s t) c.in_ok-path.ensures (c.final_attributes-attributes.ensures s t i)
    c.has_bit-directory.ensures
