use Rattle.std.proofs.Common.{sym, subst}
use Rattle.store_opens.specs.open_table.Shown.{HasOpensRoom}
use Rattle.store_opens.specs.declared.open_table.table.Opens.{Opens}
use Rattle.store_opens.specs.open_table.Taken.{IsUndated}
use Rattle.spec_exchange.specs.Opens.{drop_open}
use Rattle.server_effects.proofs.expiry.Behind.{opens_taken, files_marked, unmarked_so, was_marked, was_among}
use Rattle.server_effects.proofs.expiry.expiry.expire_taken.Goals as goal

pub returns-clause-shows : goal.returns-clause-shows
returns-clause-shows c = λ s o f st k opens files gone undated fate room less.
    let e = k.row_is.1.opened_is in (
      record {
        taken = k;
        gone = gone;
        was_pending = was_marked _ s o c.args.gone c.args.taken.row c.info-was_pending.result f st e gone files c.info-was_pending.ensures;
        was_kept = was_among s o c.args.taken.row _ e (c.is_kept-was_kept.ensures (drop_open s o) opens);
        room = subst (λ (t : Opens). HasOpensRoom t) (sym c.expire_guid.ensures.rest) room;
        undated = subst (λ (t : Opens). IsUndated t s o) (sym c.expire_guid.ensures.rest) undated;
      },
      (
        opens_taken _ s o c.args.taken.row e (c.expire_guid.ensures.shown (drop_open s o) opens less),
        files_marked _ s o c.args.taken.row _ _ e c.deletes_on_close.ensures (unmarked_so s o c.args.fate _ c.is_unmarked.ensures fate)
            (c.unmark_if.ensures _ (c.mark_if.ensures _ files)),
      ),
    )

pub returns-clause-room : goal.returns-clause-room
returns-clause-room c = λ room. subst (λ (t : Opens). HasOpensRoom t) (sym c.expire_guid.ensures.rest) room
