use Rattle.std.proofs.Common.{List, ap, ◌∙◌}
use Rattle.spec_exchange.specs.State as model
use Rattle.spec_exchange.specs.Effects.{end_records, leave_all_records, plain_of}
use Rattle.journal_bytes.specs.record_bytes.Meaning.{records_of}
use Rattle.journal_bytes.specs.declared.record_bytes.value.Record.{Record}
use Rattle.server_plan.proofs.owed_records.Told.{behind_none, ended_records, not_quiet, plain_stand}
use Rattle.server_plan.proofs.owed_records.verdict.end_records.Goals as goal

pub returns-then-quiet-clause-told : goal.returns-then-quiet-clause-told
unfolding end_records
returns-then-quiet-clause-told c = λ s f o t. rw c.if-quiet.true c.no_record.ensures

pub returns-clause-told : goal.returns-clause-told
returns-clause-told c = λ s f o t.
    ended_records s _ c.args.session c.args.quiet _ c.if-quiet.false
    (behind_none _ _ _ (ap (λ (v : List Record). records_of v) c.new-records.ensures)
    (c.in_ok-end_in.ensures s s f o t (c.new-leaving.ensures s f) (plain_stand s c.args.session f)).1
    ∙ ap (λ (z : model.Origin). leave_all_records s z (plain_of s c.args.session)) c.origin_of-origin.ensures)

pub returns-in_err-end_in-clause-sure : goal.returns-in_err-end_in-clause-sure
returns-in_err-end_in-clause-sure c = λ h. absurd (not_quiet c.args.quiet c.if-quiet.false h)
