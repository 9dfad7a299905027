use Rattle.std.proofs.Common.{nat_eq, ◌∙◌}
use Rattle.std.specs.HashMap.{get}
use Rattle.std.proofs.lemmas.List.{take_more}
use Rattle.server_checks.proofs.session_table.Rows.{one_more}
use Rattle.server_checks.proofs.session_table.ids.clear_links.Goals as goal

pub loop-connection-preserved : goal.loop-connection-preserved
loop-connection-preserved c = λ q.
    rw (take_more c.args.channels.now c.loop-connection.connection-index 0 c.loop-connection-test.true)
    (c.clear_link.ensures q ∙ one_more c.args.session q _ _ (get nat_eq c.args.links.now q)
    (get nat_eq c.loop-connection.links q) (c.loop-connection.invariant q))
