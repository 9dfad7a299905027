use Rattle.std.proofs.Common.{◌≡◌, ℕ, List, length, refl, sym, ap, ◌∙◌, subst, arith}
use Rattle.std.proofs.lemmas.Grind.{common_steps}
use Rattle.spec_exchange.specs.Operations.{Op}
use Rattle.client_tables.specs.declared.choice.finding.Attached.{Attached}
use Rattle.client_tables.proofs.whole_table.Losing.{whole}
use Rattle.client_tables.specs.attached_opens.Opens.{FitsOpens, ShowsAttached}
use Rattle.client_steps.specs.pushing.Acts.{chosen_with, pushed_by}
use Rattle.client_steps.specs.submitting.Marked.{ShowsMarks}
use Rattle.client_steps.specs.submitting.Whole.{ShowsWhole}
use Rattle.client_steps.specs.whole_client.Shown.{FitsAll}
use Rattle.client_steps.proofs.whole_client.Around.{fits_changed, marks_moved}
use Rattle.client_steps.proofs.whole_client.StillAsked.{push_op}
use Rattle.client_steps.proofs.whole_client.client.Client.push.Goals as goal

pub push-requires : goal.push-requires
push-requires c =
    let x = c.args.self.now in
    record {
      fits = c.requires.fits.whole.table;
      opens = subst (λ (xs : List Attached). FitsOpens x.table.rows.items xs) (sym c.deref_mut.ensures.value) c.requires.fits.whole.opens;
    }

pub returns : goal.returns
returns c =
    let x = c.args.self.now in
    let f = c.requires.fits in
    let t = x.table in
    let rows = t.rows.items in
    let marks = x.marks.items in
    let opened = x.opened.items in
    let u = c.push.new.table in
    let new = u.rows.items in
    let e = c.push.ensures in
    let a = c.deref_mut.ensures.value in
    let att = c.push.new.attached in
    let n : length x.attached.items ≡ x.attached.len = grind (arith, common_steps) in
    let count : length att ≡ length x.attached.items = c.push.auto.attached ∙ ap (λ (xs : List Attached). length xs) a in
    let v = whole x.attached.len x.attached.items att n count in
    let k = c.args.channel in
    record {
      fits = subst (λ (xs : List Attached). FitsAll u xs opened marks x.later.items) (sym v)
          (fits_changed t u att opened marks e.places x.attached.items opened x.later.items e.fits e.opens count refl f);
      shown = λ d s kept. (
          let b = subst (λ (xs : List Attached). ShowsAttached rows xs d) (sym a) s.attached in
          let choice = chosen_with d k c.args.credits in
          let behind = pushed_by d k choice in
          let all : ShowsWhole u att opened marks behind = record {
            table = e.shown d s.table b kept;
            attached = e.attached d s.table b kept;
            opened = e.known d opened s.table b kept s.opened;
            marked = marks_moved rows new e.places marks behind.op
                (subst (λ (h : ℕ → Op). ShowsMarks rows marks h) (sym (push_op d k choice.slotless choice.pick)) s.marked);
          } in
          subst (λ (xs : List Attached). ShowsWhole u xs opened marks behind) (sym v) all
          );
      told = λ d s kept. e.told d s.table (subst (λ (xs : List Attached). ShowsAttached rows xs d) (sym a) s.attached) kept;
    }
