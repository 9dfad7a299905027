use Rattle.std.proofs.Common.{List, ap, ◌∙◌}
use Rattle.spec_exchange.specs.State as model
use Rattle.spec_exchange.specs.Opens.{leave_records}
use Rattle.journal_bytes.specs.record_bytes.Meaning.{records_of}
use Rattle.journal_bytes.specs.declared.record_bytes.value.Record.{Record}
use Rattle.server_plan.proofs.owed_records.Told.{behind_none}
use Rattle.server_plan.proofs.owed_records.verdict.leaving_records.Goals as goal

pub returns : goal.returns
returns c = λ s f o t st.
    behind_none _ _ _ (ap (λ (v : List Record). records_of v) c.new-records.ensures)
    (c.in_ok-leave_in.ensures s s f o t (c.new-leaving.ensures s f) st).1
    ∙ ap (λ (z : model.Origin). leave_records s z c.args.id) c.origin_of-origin.ensures
