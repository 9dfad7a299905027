use Rattle.std.proofs.Common.{ap, ◌∙◌}
use Rattle.spec_exchange.specs.Records.{origin_at}
use Rattle.spec_exchange.specs.State.{Origin}
use Rattle.spec_exchange.specs.Step.{expire_records}
use Rattle.server_core.proofs.behind_expiry.Stays.{if_ok_by}
use Rattle.server_core.proofs.behind_expiry.behind.front_body.Goals as goal

pub returns-in-Ok : goal.returns-in-Ok
returns-in-Ok c = λ s f h w. if_ok_by c.spelled.result c.spelled.ensures.told (λ b i. (
  c.in-Ok.records,
  c.in-Ok.ensures s f h.opens h.files w
      ∙ ap (λ (g : Origin). expire_records s g c.args.id) (c.at_connection.ensures ∙ ap origin_at c.connection-connection.ensures),
  i,
))
