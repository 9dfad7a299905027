use Rattle.std.proofs.Common.{length, sym, ◌∙◌}
use Rattle.law_client.proofs.table.Chosen.{is_less}
use Rattle.client_rows.proofs.operation_rows.Walking.{positive}
use Rattle.client_steps.proofs.whole_client.Taken.{not_below, not_zero}
use Rattle.client_events.proofs.played_client.sent.has_op.Goals as goal

pub returns-then-index-eq0 : goal.returns-then-index-eq0
returns-then-index-eq0 c =
    record {
      above = λ e. absurd (cc);
      within = λ e. absurd (cc);
      none = λ e p l. not_zero c.args.index c.if-index-eq0.true p;
    }

pub returns : goal.returns
returns c =
    let n = length c.args.client.now.table.rows.items in
    record {
      above = λ e. positive c.args.index c.if-index-eq0.false;
      within = λ e. is_less c.args.index n (sym c.has_row.ensures ∙ e);
      none = λ e p l. not_below c.args.index n (sym c.has_row.ensures ∙ e) l;
    }
