use Rattle.std.proofs.Common.{◌≡◌, ℕ, List, length, take, drop, ◌++◌, sym, ap, ◌∙◌, subst, arith}
use Rattle.std.proofs.lemmas.Grind.{common_steps}
use Rattle.spec_exchange.specs.Operations.{Op}
use Rattle.spec_exchange.specs.ClientStep.{hear_after}
use Rattle.client_tables.specs.declared.choice.finding.Attached.{Attached}
use Rattle.client_tables.proofs.whole_table.Losing.{whole}
use Rattle.client_tables.specs.declared.attached_opens.opened.Opened.{Opened}
use Rattle.client_tables.specs.attached_opens.Known.{ShowsOpened}
use Rattle.client_tables.specs.attached_opens.Opens.{FitsOpens, ShowsAttached}
use Rattle.client_steps.specs.unsent.Ascending.{Ascends}
use Rattle.client_steps.specs.submitting.Marked.{ShowsMarks}
use Rattle.client_steps.specs.submitting.Whole.{ShowsWhole}
use Rattle.client_steps.specs.whole_client.Shown.{FitsAll}
use Rattle.client_steps.proofs.whole_client.Around.{fits_changed, hear_op, marks_moved}
use Rattle.client_steps.proofs.whole_client.client.Client.hear.Goals as goal

pub last_of-last-requires : goal.last_of-last-requires
last_of-last-requires c = record { fits = c.requires.fits }

pub hear-requires : goal.hear-requires
hear-requires c =
    let x = c.args.self.now in
    let f = c.requires.fits in
    let rows = x.table.rows.items in
    let a = c.deref_mut.ensures.value in
    let o = c.deref_mut-2.ensures.value in
    record {
      fits = f.whole.table;
      opens = subst (λ (xs : List Attached). FitsOpens rows xs) (sym a) f.whole.opens;
      known = ap (λ (xs : List Opened). length xs) o ∙ f.whole.known ∙ sym (ap (λ (xs : List Attached). length xs) a);
      later = subst (λ (xs : List ℕ). Ascends rows xs) (sym c.deref.ensures.value) f.later;
      last = c.last_of-last.ensures;
    }

pub returns : goal.returns
returns c =
    let x = c.args.self.now in
    let f = c.requires.fits in
    let t = x.table in
    let rows = t.rows.items in
    let marks = x.marks.items in
    let u = c.hear.new.table in
    let new = u.rows.items in
    let e = c.hear.ensures in
    let a = c.deref_mut.ensures.value in
    let o = c.deref_mut-2.ensures.value in
    let att = c.hear.new.attached in
    let opened = c.hear.new.opened in
    let n : length x.attached.items ≡ x.attached.len = grind (arith, common_steps) in
    let k : length x.opened.items ≡ x.opened.len = grind (arith, common_steps) in
    let count : length att ≡ length x.attached.items = e.count ∙ ap (λ (xs : List Attached). length xs) a in
    let known : length opened ≡ length x.opened.items = e.known ∙ ap (λ (xs : List Opened). length xs) o in
    let v = whole x.attached.len x.attached.items att n count in
    let w = whole x.opened.len x.opened.items opened k known in
    let lent = take x.attached.len (att ++ drop (length att) x.attached.items) in
    let both = take x.opened.len (opened ++ drop (length opened) x.opened.items) in
    record {
      fits = subst (λ (xs : List Attached). FitsAll u xs both marks x.later.items) (sym v)
          (subst (λ (xs : List Opened). FitsAll u att xs marks x.later.items) (sym w)
          (fits_changed t u att opened marks e.places x.attached.items x.opened.items x.later.items e.fits e.opens count known f));
      shown = λ d r place s kept reads. (
          let told = e.shown d r place s.table
          (subst (λ (xs : List Attached). ShowsAttached rows xs d) (sym a) s.attached)
          (subst (λ (xs : List Opened). ShowsOpened rows xs d) (sym o) s.opened) kept reads in
          let behind = hear_after d c.args.channel c.args.index c.args.asking r place in
          let all : ShowsWhole u att opened marks behind = record {
            table = told.0;
            attached = told.1;
            opened = told.2;
            marked = marks_moved rows new e.places marks behind.op
                (subst (λ (h : ℕ → Op). ShowsMarks rows marks h)
                (sym (hear_op d c.args.channel c.args.index c.args.asking r place)) s.marked);
          } in
          subst (λ (xs : List Attached). ShowsWhole u xs both marks behind) (sym v)
          (subst (λ (xs : List Opened). ShowsWhole u att xs marks behind) (sym w) all)
          );
      told = λ d r s kept reads. e.told d r s.table kept reads;
    }
