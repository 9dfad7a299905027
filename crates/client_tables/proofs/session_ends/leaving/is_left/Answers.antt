use Rattle.std.proofs.Common.{◌<◌, ◌≤◌, true, false, length, sym, ap, ◌∙◌, subst}
use Rattle.spec_exchange.specs.Operations.{persists}
use Rattle.client_rows.specs.operation_rows.Rows.{stands, owner}
use Rattle.client_tables.specs.settling.Shown.{op_at}
use Rattle.client_tables.proofs.session_ends.Ended.{at_once, only_if}
use Rattle.client_tables.proofs.session_ends.leaving.is_left.Goals as goal

pub persists_at-requires : goal.persists_at-requires
persists_at-requires c =
    let e = c.create_of.ensures in
    record {
      above = subst (λ y. 0 < y) (sym e) c.requires.above;
      within = subst (λ y. y ≤ length c.args.ops.now) (sym e) c.requires.owned;
    }

pub returns-then-not-rows-index : goal.returns-then-not-rows-index
returns-then-not-rows-index c =
    sym (at_once (stands c.args.rows.now c.args.index) (persists (op_at c.args.ops.now (owner c.args.rows.now c.args.index)))
    c.if-not-rows-index.true)

pub returns : goal.returns
returns c =
    c.persists_at.ensures ∙ ap (λ y. persists (op_at c.args.ops.now y)) c.create_of.ensures
    ∙ sym (only_if (stands c.args.rows.now c.args.index) (persists (op_at c.args.ops.now (owner c.args.rows.now c.args.index)))
    c.if-not-rows-index.false)
