use Rattle.std.proofs.Common.{◌≡◌, ◌==◌, ◌&&◌, not, true, false, if◌then◌else◌, refl, sym, ap, ◌∙◌, subst}
use Rattle.spec_exchange.specs.Table.{put2}
use Rattle.spec_exchange.specs.Status.{disk_full}
use Rattle.spec_exchange.specs.Operations.{is_lock}
use Rattle.spec_exchange.specs.Client.{Client, create_for}
use Rattle.law_client.proofs.table.Chosen.{and_left}
use Rattle.client_tables.specs.whole_table.Shown.{ShowsTable}
use Rattle.client_tables.specs.attached_opens.Known.{ShowsOpened}
use Rattle.client_tables.specs.attached_opens.Opens.{ShowsAttached}
use Rattle.client_steps.specs.open_updates.Columns.{filled_now}
use Rattle.client_steps.proofs.open_updates.Noted.{table_beside}
use Rattle.client_steps.proofs.hearing.Noted.{lock_at}
use Rattle.client_steps.proofs.hearing.settling.fill.Goals as goal

pub returns-then-is_full : goal.returns-then-is_full
returns-then-is_full c =
    let t = c.args.table.now in
    let rows = t.rows.items in
    let x = c.args.index in
    let r = c.requires in
    let e = c.fill_at.ensures in
    record {
      opens = e.opens;
      count = e.count;
      shown = λ d opened s a k. (
          let tested : (is_lock (d.op x) && (not c.args.asking && (c.args.status == disk_full))) ≡ true =
          ap (λ b. b && (not c.args.asking && (c.args.status == disk_full)))
          (lock_at rows t.holders.items t.prices t.watchers d x r.above r.within s.rows) ∙ sym c.is_full.ensures ∙ c.if-is_full.true in
          let lock = and_left (is_lock (d.op x)) (not c.args.asking && (c.args.status == disk_full)) tested in
          subst (λ (z : Client). ShowsTable t z × ShowsAttached rows c.fill_at.new.attached z × ShowsOpened rows opened z)
          (sym (ap (λ b. if b then filled_now d x else d) tested)) (
            table_beside t.session rows t.holders.items t.prices t.watchers t.ops.items t.settled.items t.order.items t.dialogs.items d
                d.file d.closed_ok (put2 d.full (create_for d x) (d.slot_of x) true) s,
            e.shown d opened r.fits s a k lock,
            k,
          )
          );
    }

pub returns-else-is_full : goal.returns-else-is_full
returns-else-is_full c =
    let t = c.args.table.now in
    let rows = t.rows.items in
    let x = c.args.index in
    let r = c.requires in
    record {
      opens = r.opens;
      count = refl;
      shown = λ d opened s a k. (
          let tested : (is_lock (d.op x) && (not c.args.asking && (c.args.status == disk_full))) ≡ false =
          ap (λ b. b && (not c.args.asking && (c.args.status == disk_full)))
          (lock_at rows t.holders.items t.prices t.watchers d x r.above r.within s.rows) ∙ sym c.is_full.ensures ∙ c.if-is_full.false in
          subst (λ (z : Client). ShowsTable t z × ShowsAttached rows c.args.attached.now z × ShowsOpened rows opened z)
          (sym (ap (λ b. if b then filled_now d x else d) tested)) (s, a, k)
          );
    }
