use Rattle.std.proofs.Common.{ℕ, List, length, ◌/◌, ap, ◌∙◌}
use Rattle.spec_exchange.specs.Commands.{Element}
use Rattle.spec_exchange.specs.State as model
use Rattle.spec_exchange.specs.Records.{origin_of}
use Rattle.spec_exchange.specs.Effects.{recorded_index}
use Rattle.wire_commands.specs.values.Meaning.{message_of}
use Rattle.journal_bytes.specs.record_bytes.Meaning.{elements_in}
use Rattle.server_plan.proofs.owed_records.lock.lock_record.Goals as goal

pub returns : goal.returns
returns c =
    let m = message_of c.args.m.now in
    ap (λ (o : model.Origin). model.LockRecord o c.args.id c.recorded_index-index.result c.args.number c.args.status
    (elements_in (length c.in_ok-elements.elements / 24) c.in_ok-elements.elements)) c.origin_of-origin.ensures
    ∙ ap (λ (n : ℕ). model.LockRecord (origin_of m) c.args.id n c.args.number c.args.status
    (elements_in (length c.in_ok-elements.elements / 24) c.in_ok-elements.elements)) c.recorded_index-index.ensures
    ∙ ap (λ (es : List Element). model.LockRecord (origin_of m) c.args.id (recorded_index c.args.index) c.args.number c.args.status es)
    (c.in_ok-elements.ensures ∙ c.elements_of.ensures)
