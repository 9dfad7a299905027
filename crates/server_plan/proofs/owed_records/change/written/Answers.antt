use Rattle.std.proofs.Common.{ℕ, List, [], ◌∷◌, ap, ◌∙◌}
use Rattle.spec_exchange.specs.State as model
use Rattle.spec_exchange.specs.Records.{origin_of}
use Rattle.wire_commands.specs.values.Meaning.{message_of}
use Rattle.server_plan.proofs.owed_records.Told.{if_ok_by}
use Rattle.server_plan.proofs.owed_records.change.written.Goals as goal

pub returns : goal.returns
returns c =
    let m = message_of c.args.m.now in
    if_ok_by c.one_record.result c.one_record.ensures
    (λ rs e. e
    ∙ ap (λ (o : model.Origin). model.WriteRecord o c.args.file c.args.at c.args.now c.in_ok-bytes.bytes ∷ []) c.origin_of-origin.ensures
    ∙ ap (λ (b : List ℕ). model.WriteRecord (origin_of m) c.args.file c.args.at c.args.now b ∷ [])
    (c.in_ok-bytes.ensures ∙ c.bytes_of.ensures))
