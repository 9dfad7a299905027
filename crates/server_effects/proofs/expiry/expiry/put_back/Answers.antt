use Rattle.std.proofs.Common.{◌≡◌, true, false, sym, subst, ap, refl, ◌∙◌}
use Rattle.spec_exchange.specs.State as model
use Rattle.spec_exchange.specs.Opens.{drop_open}
use Rattle.spec_exchange.specs.Step.{add_expired_guid, expire}
use Rattle.store_opens.specs.open_table.Shown.{HasOpensRoom, ShowsOpens}
use Rattle.store_opens.specs.open_table.Taken.{IsUndated}
use Rattle.store_opens.specs.declared.open_table.table.Opens.{Opens}
use Rattle.server_effects.proofs.expiry.Back.{stayed}
use Rattle.server_effects.proofs.expiry.Behind.{back_at, opens_before, kept_before}
use Rattle.server_effects.specs.expiry.Expired.{goes_behind}
use Rattle.server_effects.proofs.expiry.expiry.put_back.Goals as goal

pub put_back-requires : goal.put_back-requires
put_back-requires c = subst (λ (t : Opens). HasOpensRoom t) (sym c.keep_guid_no_more.ensures.rest) c.requires

pub returns-then-not-file_back-clause-shows : goal.returns-then-not-file_back-clause-shows
returns-then-not-file_back-clause-shows c = λ s o f st none x b.
    (refl, (b.0, c.file_back.ensures.stays (expire s o) c.if-not-file_back.true b.1))

pub returns-then-not-file_back-clause-back : goal.returns-then-not-file_back-clause-back
returns-then-not-file_back-clause-back c = λ s o x b.
    let none_went = stayed (goes_behind s o) c.args.expired.gone s (s.opened o).file b x.gone in
    let e : true ≡ false = sym (c.file_back.ensures.plain none_went) ∙ c.if-not-file_back.true in absurd (cc)

pub returns-clause-shows : goal.returns-clause-shows
returns-clause-shows c = λ s o f st none x b.
    let e = x.taken.row_is.1.opened_is in
    let back = c.keep_guid_no_more.ensures.shown (drop_open s o)
    (subst (λ (r : model.Open). ShowsOpens c.args.opens.now (add_expired_guid (drop_open s o) r.client_guid r.create_guid)) e
    (opens_before _ s o b.0))
    (kept_before s o c.args.expired.taken.row _ e x.was_kept) in (
      back_at _ _ s o c.args.expired.taken f x.taken back st none
          (subst (λ (t : Opens). IsUndated t s o) (sym c.keep_guid_no_more.ensures.rest) x.undated) c.put_back.ensures,
      c.file_back.ensures.back s o f st (sym (ap (λ (r : model.Open). r.file) e)) c.if-not-file_back.false x.gone x.was_pending b.1,
    )
