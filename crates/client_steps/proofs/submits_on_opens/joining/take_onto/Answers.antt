use Rattle.std.proofs.Common.{◌≡◌, ℕ, ◌<◌, ◌≤◌, if◌then◌else◌, length, refl, ap, sym, ◌∙◌, subst, arith}
use Rattle.spec_exchange.specs.Operations.{charge, weight}
use Rattle.spec_exchange.specs.Client.{Client, is_attached, is_gone}
use Rattle.client_values.specs.operations.Meaning.{op_of}
use Rattle.client_values.specs.operations.Waiting.{at_of, size_of}
use Rattle.client_rows.specs.declared.operation_rows.row.Row.{Row}
use Rattle.base_lists.specs.range_index.Shown.{top}
use Rattle.client_rows.specs.open_marks.Marks.{is_lock_kind}
use Rattle.client_tables.specs.settling.Shown.{outcome_by}
use Rattle.client_tables.specs.opens.Opened.{IsOpenOn, placed_row}
use Rattle.client_tables.proofs.whole_table.Ready.{on_err}
use Rattle.client_steps.specs.taking.Taken.{OperationTakesOn}
use Rattle.client_steps.proofs.taking.Roomed.{ok_more}
use Rattle.client_steps.specs.submits_on_opens.Joined.{SubmitJoins}
use Rattle.client_steps.proofs.submits_on_opens.Onto.{counted_so, first_is, row_on}
use Rattle.client_steps.proofs.submits_on_opens.Stood.{err_more, ok_two, on_ok}
use Rattle.client_steps.proofs.submits_on_opens.joining.take_onto.Goals as goal

some : (x y : ℕ) → 0 < x → x < y → 0 < y
some x y a b = omega arith

within : (x n : ℕ) → x < n → x ≤ n
within x n l = omega arith

pub of-shape-requires : goal.of-shape-requires
of-shape-requires c = c.requires.limits

pub returns-in_err-make_slots-clause-room : goal.returns-in_err-make_slots-clause-room
returns-in_err-make_slots-clause-room c = c.make_slots.ensures.room

pub returns-in_err-make_slots-clause-same : goal.returns-in_err-make_slots-clause-same
returns-in_err-make_slots-clause-same c = on_err c.from_residual.result refl

pub returns-in_err-make_slots-clause-marks : goal.returns-in_err-make_slots-clause-marks
returns-in_err-make_slots-clause-marks c = on_err c.from_residual.result refl

pub returns-in_err-make_slots-clause-still : goal.returns-in_err-make_slots-clause-still
returns-in_err-make_slots-clause-still c = on_err c.from_residual.result c.requires.fits

pub returns-in_err-make_slots-clause-kept : goal.returns-in_err-make_slots-clause-kept
returns-in_err-make_slots-clause-kept c = on_err c.from_residual.result (λ d s. s)

pub returns-in_err-make_slots-clause-stays : goal.returns-in_err-make_slots-clause-stays
returns-in_err-make_slots-clause-stays c = on_err c.from_residual.result (λ d n s. s)

pub returns-in_err-make_slots-clause-tops : goal.returns-in_err-make_slots-clause-tops
returns-in_err-make_slots-clause-tops c = on_err c.from_residual.result c.requires.topped

pub is_gone_now-gone-requires : goal.is_gone_now-gone-requires
is_gone_now-gone-requires c = record { fits = c.requires.fits; above = c.requires.above; within = c.requires.within }

pub take_row-requires : goal.take_row-requires
take_row-requires c =
    let rows = c.args.table.now.rows.items in
    let is = ap (λ (w : Row). w.create) c.new_row-row.ensures in
    record {
      fits = c.requires.fits;
      some = some c.args.create (length rows) c.requires.above c.requires.within;
      few = c.requires.few;
      room = c.requires.room;
      below = c.requires.below;
      topped = c.requires.topped;
      above = subst (λ y. 0 < y) (sym is) c.requires.above;
      own = subst (λ y. y ≤ length rows) (sym is) (within c.args.create (length rows) c.requires.within);
      unsent = ap (λ (w : Row). w.outstanding_on) c.new_row-row.ensures;
    }

pub returns : goal.returns
returns c =
    let t = c.args.table.now in
    let rows = t.rows.items in
    let x = c.args.create in
    let op = op_of c.args.kind in
    let shape = c.of-shape.result in
    let sh = c.of-shape.ensures in
    let m = c.make_slots.ensures in
    let gone = c.is_gone_now-gone.result in
    let pays = c.cost_of-cost.result in
    let r = c.new_row-row.result in
    let made = c.new_row-row.ensures in
    let e = c.take_row.ensures in
    let p = c.requires.above in
    let l = c.requires.within in
    let takes : (d : Client) → SubmitJoins t c.args.own.now c.args.known.now c.args.mark.now d x op
    → OperationTakesOn t c.args.mark.now d op x shape r c.first_outcome.result = (λ d j.
    let same = j.session ∙ sym m.session in
    let g : gone ≡ is_gone d x = c.is_gone_now-gone.ensures d j.shown same j.shut j.persist in
    let cost : pays ≡ (if is_attached d x then charge (weight op) else 1) = c.cost_of-cost.ensures d x j.shown same
    ∙ ap (λ y. if is_attached d x then y else 1) sh.charge in
    record {
      shown = j.shown;
      next = counted_so rows t.holders.items t.prices t.watchers d op x j.shown.rows j.kept j.shown.bounds p l j.made j.other j.names
          c.requires.limits;
      on = subst (λ (w : Row). IsOpenOn rows d op x (length rows) shape w) (sym made)
          (row_on rows t.holders.items t.prices t.watchers d op x j.shown.rows j.kept j.shown.bounds p l j.made j.other j.names
          c.requires.limits shape pays c.args.«open» gone sh.kind sh.at sh.size sh.charge g cost);
      marked = j.marked;
      limits = c.requires.limits;
      first = first_is d (length rows) op x gone c.first_outcome.result j.other (j.names (length rows)) g c.first_outcome.ensures
          ∙ ap (λ (w : Row). outcome_by w.unsettled c.first_outcome.result) (sym made);
    }) in
    record {
      session = m.session;
      slots = m.slots;
      room = m.room;
      row = ok_more c.take_row.result (λ q. (
        placed_row r (length t.holders.items) (length c.take_row.new.table.holders.items) c.args.mark.now.marks,
        q,
        ap (λ (w : Row). w.create) made,
        ap (λ (w : Row). w.«open») made,
        ap (λ (w : Row). w.kind) made ∙ sh.kind,
      )) e.row;
      locks = on_ok c.take_row.result (λ k. c.in_ok-make_slots.ensures.more (c.is_lock.ensures ∙ ap (λ z. is_lock_kind z) (sh.kind ∙ k)));
      below = e.below;
      topped = e.topped;
      tops = e.tops;
      last = e.last;
      fits = e.fits;
      joined = ok_two c.take_row.result (λ s k d j. (s d x (takes d j), k d x (takes d j))) e.shown e.keeps;
      others = ok_more c.take_row.result (λ h d other mark apart s. h d other mark.marks (top mark.written) (top mark.locked)
          (λ q. apart (sym (ap (λ (w : Row). w.create) made) ∙ q)) s) e.others;
      same = e.same;
      marks = e.marks;
      still = e.still;
      kept = e.kept;
      stays = err_more c.take_row.result (λ h d n s. h (λ y. at_of (d.op y)) (λ y. size_of (d.op y)) x n s) e.stays;
    }
