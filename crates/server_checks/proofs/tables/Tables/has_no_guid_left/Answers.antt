use Rattle.std.proofs.Common.{nat_le, is_some, not, ap, ◌∙◌}
use Rattle.std.specs.Prelude.{option_map}
use Rattle.wire_commands.specs.values.Meaning.{durable_of}
use Rattle.spec_exchange.specs.CheckCreate.{max_guids}
use Rattle.server_checks.proofs.Creates.{full_capped, some_durable}
use Rattle.server_checks.proofs.Passed.{back_is, front_out}
use Rattle.server_checks.proofs.tables.Tables.has_no_guid_left.Goals as goal

pub returns-then-is_none : goal.returns-then-is_none
returns-then-is_none c = λ s t.
    front_out (is_some (option_map durable_of c.args.request.now.durable)) (nat_le max_guids (s.guids c.args.m.now.session_id))
    (some_durable c.args.request.now.durable ∙ (c.is_none.ensures ∙ ap not c.if-is_none.true))

pub returns : goal.returns
returns c = λ s t.
    back_is (is_some (option_map durable_of c.args.request.now.durable)) (nat_le max_guids c.guids_of.result)
    (nat_le max_guids (s.guids c.args.m.now.session_id))
    (some_durable c.args.request.now.durable ∙ (c.is_none.ensures ∙ ap not c.if-is_none.false))
    (ap (nat_le max_guids) (c.guids_of.ensures s t.opens) ∙ full_capped (s.guids c.args.m.now.session_id))
