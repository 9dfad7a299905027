use Rattle.std.proofs.Common.{List, refl, sym, subst}
use Rattle.client_values.specs.declared.outcomes.outcome.RefusedDialog.{RefusedDialog as Refused}
use Rattle.client_tables.specs.whole_table.Shown.{ShowsParts}
use Rattle.client_tables.proofs.whole_table.Ready.{on_err, refused_shown}
use Rattle.client_tables.proofs.whole_table.parts.Table.refused.Goals as goal

pub returns : goal.returns
returns c =
    let t = c.args.self.now in
    record {
      fits = c.requires.fits;
      rows = refl;
      shown = λ d s. refused_shown t.session t.rows.items t.holders.items t.prices t.watchers t.ops.items t.settled.items t.order.items
          t.dialogs.items c.push.new.self.items d s c.args.channel c.args.why c.in_ok-push.ensures.items;
      kept = tt;
    }

pub returns-in_err-push-clause-kept : goal.returns-in_err-push-clause-kept
returns-in_err-push-clause-kept c =
    let t = c.args.self.now in
    on_err c.from_residual.result (λ d s. subst (λ (xs : List Refused). ShowsParts t.session t.rows.items t.holders.items t.prices
    t.watchers t.ops.items t.settled.items t.order.items xs d) (sym c.in_err-push.ensures.items) s)
