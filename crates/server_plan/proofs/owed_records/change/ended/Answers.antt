use Rattle.std.proofs.Common.{[], ◌∷◌, ap, ◌∙◌}
use Rattle.spec_exchange.specs.State as model
use Rattle.server_plan.proofs.owed_records.Told.{if_ok_by}
use Rattle.server_plan.proofs.owed_records.change.ended.Goals as goal

pub returns : goal.returns
returns c =
    if_ok_by c.one_record.result c.one_record.ensures
    (λ rs e. e ∙ ap (λ (o : model.Origin). model.EndRecord o c.args.file c.args.size c.args.now ∷ []) c.origin_of-origin.ensures)
