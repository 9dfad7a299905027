use Rattle.std.proofs.Common.{ℕ, List, [], ◌∷◌, ap, ◌∙◌}
use Rattle.spec_exchange.specs.State as model
use Rattle.spec_exchange.specs.Records.{origin_of}
use Rattle.spec_exchange.specs.Table.{number_or_zero}
use Rattle.wire_commands.specs.values.Meaning.{message_of}
use Rattle.server_plan.proofs.owed_records.Told.{if_ok_by}
use Rattle.server_plan.proofs.owed_records.change.renamed.Goals as goal

pub returns : goal.returns
returns c =
    let m = message_of c.args.m.now in
    if_ok_by c.one_record.result c.one_record.ensures
    (λ rs e. e ∙ ap (λ (o : model.Origin). model.RenameRecord o c.args.file c.number_or_zero-replaced.result c.in_ok-path.path ∷ [])
    c.origin_of-origin.ensures
    ∙ ap (λ (n : ℕ). model.RenameRecord (origin_of m) c.args.file n c.in_ok-path.path ∷ []) c.number_or_zero-replaced.ensures
    ∙ ap (λ (b : List ℕ). model.RenameRecord (origin_of m) c.args.file (number_or_zero c.args.replaced) b ∷ [])
    (c.in_ok-path.ensures ∙ c.path_of.ensures))
