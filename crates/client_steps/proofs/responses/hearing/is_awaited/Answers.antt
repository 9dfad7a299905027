use Rattle.std.proofs.Common.{◌&&◌, not, true, false, if◌then◌else◌, length, sym, ◌∙◌}
use Rattle.spec_exchange.specs.Table.{is_at}
use Rattle.law_client.proofs.table.Chosen.{is_less}
use Rattle.client_rows.proofs.operation_rows.Walking.{positive}
use Rattle.client_steps.proofs.responses.Heard.{clash, none_awaited, not_below, not_zero}
use Rattle.client_steps.proofs.responses.hearing.is_awaited.Goals as goal

pub returns-then-index-eq0 : goal.returns-then-index-eq0
returns-then-index-eq0 c =
    let x = c.args.index in
    record {
      inside = λ e. absurd (cc);
      told = λ d s k. sym (none_awaited c.args.channel (d.outstanding_on x) (if d.asks_attach x then c.args.asking else not c.args.asking)
          (λ e. not_zero x c.if-index-eq0.true (k.stands.out_taken x e).0));
    }

pub returns-then-not-has_row : goal.returns-then-not-has_row
returns-then-not-has_row c =
    let x = c.args.index in
    record {
      inside = λ e. absurd (cc);
      told = λ d s k. sym (none_awaited c.args.channel (d.outstanding_on x) (if d.asks_attach x then c.args.asking else not c.args.asking)
          (λ e. (
          let t = k.stands.out_taken x e in
          not_below x (length c.args.table.now.rows.items) (sym c.has_row.ensures ∙ c.if-not-has_row.true) (s.rows.places.has_row x t.0 t.1)
          )));
    }

pub returns-then-not-stands_at : goal.returns-then-not-stands_at
returns-then-not-stands_at c =
    let x = c.args.index in
    record {
      inside = λ e. absurd (cc);
      told = λ d s k. sym (none_awaited c.args.channel (d.outstanding_on x) (if d.asks_attach x then c.args.asking else not c.args.asking)
          (λ e. (
          let t = k.stands.out_taken x e in
          clash c.stands_at.result
          (c.stands_at.ensures ∙ sym (s.rows.places.unsettled x t.0 t.1) ∙ k.stands.out_unsettled x e) c.if-not-stands_at.true
          )));
    }

pub returns : goal.returns
returns c =
    let x = c.args.index in
    record {
      inside = λ e. (
        positive x c.if-index-eq0.false,
        is_less x (length c.args.table.now.rows.items) (sym c.has_row.ensures ∙ c.if-not-has_row.false),
        sym c.stands_at.ensures ∙ c.if-not-stands_at.false,
      );
      told = λ d s k. c.is_out_so.ensures ∙ (λ t. is_at c.args.channel ((sym (s.rows.sends.out_is x)) t)
          && (if (sym (s.rows.sends.asks_is x)) t then c.args.asking else not c.args.asking));
    }
