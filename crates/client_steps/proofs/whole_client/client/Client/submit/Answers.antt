use Rattle.std.proofs.Common.{◌≡◌, ℕ, ◌+◌, ◌<◌, ◌==◌, ◌&&◌, ◌||◌, nat_lt, true, List, length, sym, ◌∙◌, subst, arith}
use Rattle.spec_exchange.specs.Operations.{Op, create_of, is_create, keeps_limits}
use Rattle.spec_exchange.specs.Client.{Client, may_take, take_op}
use Rattle.law_client.proofs.table.Chosen.{and_left, in_both, is_same}
use Rattle.client_values.specs.operations.Meaning.{op_of}
use Rattle.client_rows.specs.declared.operation_rows.row.Row.{Row}
use Rattle.client_rows.specs.operation_rows.Rows.{row_at}
use Rattle.client_rows.specs.open_marks.Marks.{is_create_kind}
use Rattle.client_tables.proofs.whole_table.Ready.{on_err}
use Rattle.client_steps.proofs.submits_on_opens.Onto.{clash, next_is}
use Rattle.client_steps.specs.submitting.Whole.{ShowsWhole}
use Rattle.client_steps.proofs.whole_client.FirstRow.{kept_or_begun}
use Rattle.client_steps.proofs.whole_client.client.Client.submit.Goals as goal

-- what may be taken is the next one
number_is : (d : Client) (number : ℕ) (op : Op) → may_take d number op ≡ true → number ≡ d.taken + 1
number_is d number op e =
    is_same number (d.taken + 1)
    (and_left (number == d.taken + 1)
    (keeps_limits op && (is_create op
    || (nat_lt 0 (create_of number op) && (nat_lt (create_of number op) number && is_create (d.op (create_of number op)))))) e)

nothing_below : (x : ℕ) → x < 0 → ⊥
nothing_below x l = omega arith

pub may_take-requires : goal.may_take-requires
may_take-requires c = record { fits = c.requires.fits.whole.table }

pub returns-then-not-may_take : goal.returns-then-not-may_take
returns-then-not-may_take c =
    let x = c.args.self.now in
    let n = c.args.number in
    let op = op_of c.args.kind in
    let told = c.may_take.ensures.shown in
    record {
      fits = c.requires.fits;
      shown = λ d s kept. in_both (λ (z : Client). ShowsWhole x.table x.attached.items x.opened.items x.marks.items z) (may_take d n op)
          (take_op d n op) d
          (λ e. absurd (clash (may_take d n op) e (sym (told d s.table) ∙ c.if-not-may_take.true))) (λ e. s);
      told = λ d s. sym c.if-not-may_take.true ∙ told d s.table;
      kept = tt;
      order = tt;
    }

pub make_way-requires : goal.make_way-requires
make_way-requires c = record { fits = c.requires.fits }

pub returns-in_err-make_way-clause-fits : goal.returns-in_err-make_way-clause-fits
returns-in_err-make_way-clause-fits c = c.make_way.ensures.fits

pub returns-in_err-make_way-clause-kept : goal.returns-in_err-make_way-clause-kept
returns-in_err-make_way-clause-kept c = on_err c.from_residual.result (λ d s. c.make_way.ensures.shown d s)

pub returns-in_err-make_way-clause-order : goal.returns-in_err-make_way-clause-order
returns-in_err-make_way-clause-order c =
    on_err c.from_residual.result (λ d s. sym (c.may_take.ensures.shown d s.table) ∙ c.if-not-may_take.false)

pub take-requires : goal.take-requires
take-requires c =
    let rows = c.args.self.now.table.rows.items in
    let w = c.in_ok-make_way.ensures in
    record {
      fits = c.make_way.ensures.fits;
      some = w.some;
      few = w.few;
      room = w.room;
      later = w.later;
      limits = c.may_take.ensures.limits c.if-not-may_take.false;
      made = λ is create names. kept_or_begun
          (λ (xs : List Row). (0 < create) × (create < length xs) × (is_create_kind (row_at xs create).kind ≡ true)) rows
          c.make_way.new.self.table.rows.items (λ h. absurd (nothing_below create h.1)) c.make_way.ensures.rows
          (c.may_take.ensures.made c.if-not-may_take.false is create names);
    }

pub returns-in_err-take-clause-fits : goal.returns-in_err-take-clause-fits
returns-in_err-take-clause-fits c = c.take.ensures.fits

pub returns-in_err-take-clause-kept : goal.returns-in_err-take-clause-kept
returns-in_err-take-clause-kept c =
    on_err c.from_residual-in_err-take.result (λ d s. c.in_err-take.ensures.kept d (c.make_way.ensures.shown d s))

pub returns-in_err-take-clause-order : goal.returns-in_err-take-clause-order
returns-in_err-take-clause-order c =
    on_err c.from_residual-in_err-take.result (λ d s. sym (c.may_take.ensures.shown d s.table) ∙ c.if-not-may_take.false)

pub returns : goal.returns
returns c =
    let n = c.args.number in
    let op = op_of c.args.kind in
    let told = c.may_take.ensures.shown in
    let t = c.make_way.new.self.table in
    let x = c.take.new.self in
    record {
      fits = c.take.ensures.fits;
      shown = λ d s kept. (
          let way = c.make_way.ensures.shown d s in
          let next = next_is t.rows.items t.holders.items t.prices t.watchers d way.table.rows c.in_ok-make_way.ensures.some in
          in_both (λ (z : Client). ShowsWhole x.table x.attached.items x.opened.items x.marks.items z) (may_take d n op) (take_op d n op) d
          (λ e. subst (λ (m : ℕ). ShowsWhole x.table x.attached.items x.opened.items x.marks.items (take_op d m op))
          (next ∙ sym (number_is d n op e)) (c.in_ok-take.ensures.shown d way kept))
          (λ e. absurd (clash (may_take d n op) (sym (told d s.table) ∙ c.if-not-may_take.false) e))
          );
      told = λ d s. sym c.if-not-may_take.false ∙ told d s.table;
      kept = tt;
      order = tt;
    }
