use Rattle.std.proofs.Common.{◌≤◌, IfSome, arith, length, sym, subst, ◌∙◌}
use Rattle.spec_exchange.specs.State.{Server}
use Rattle.store_files.specs.file_tree.Placed.{IsPathOrder}
use Rattle.store_opens.specs.open_table.Shown.{ShowsOpens}
use Rattle.store_opens.specs.open_table.Stood.{AreExpired}
use Rattle.server_core.proofs.snapshot_writing.WholeLemmas.{some_epoch}
use Rattle.server_core.proofs.snapshot_writing.writing.write_snapshot.Goals as goal

pub returns-clause-whole : goal.returns-clause-whole
returns-clause-whole g c = λ s fits files shows version d.
    let expired = subst (λ o. IfSome o (λ v. (z : Server) → ShowsOpens c.args.opens.now z → AreExpired v.items z)) c.in-Ok-Some.field-0-is
    c.in-Ok-Some.ensures.told in
    c.write_lists.ensures.whole s fits files shows version
    (subst (λ l. IsPathOrder l s) (sym c.as_slice.ensures.value) (c.in-Ok.ensures s files))
    (c.as_slice-2.ensures.value ∙ c.in-Ok-ids.ensures s fits shows)
    (subst (λ l. AreExpired l s) (sym c.as_slice-3.ensures.value) (expired s shows))
    (some_epoch c.epoch-epoch.result s.epoch (c.epoch-epoch.ensures s shows) c.if-epoch-eq0.false)
    (subst (λ l. length l ≤ 65536) (sym c.as_slice-3.ensures.value)
    (let t = c.if-len-gt-MOST_EXPIRED.false in let e = c.len.ensures in omega arith)) d
