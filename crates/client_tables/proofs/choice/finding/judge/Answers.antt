use Rattle.std.proofs.Common.{◌+◌, ◌≤◌, List, length, refl, sym, subst, arith}
use Rattle.client_rows.specs.declared.operation_rows.slots.Slot.{Slot}
use Rattle.client_rows.specs.operation_rows.Rows.{row_at}
use Rattle.client_rows.specs.lock_slots.Shown.{HaveRows}
use Rattle.client_tables.specs.pushes.Shown.{PushShowsOpen}
use Rattle.client_tables.specs.declared.choice.finding.Attached.{Attached}
use Rattle.client_tables.proofs.choice.Telling.{one_at}
use Rattle.client_tables.proofs.choice.finding.judge.Goals as goal

pub bounds-opens-rows : goal.bounds-opens-rows
bounds-opens-rows c = c.requires.opens c.args.index c.requires.above c.requires.within

pub pick-requires : goal.pick-requires
pick-requires c =
    let i = (row_at c.args.rows.now c.args.index).«open» in
    let b = c.requires.bounded i c.index-opens-rows.result (c.requires.opens c.args.index c.requires.above c.requires.within)
    c.index-opens-rows.is in
    record {
      above = c.requires.above;
      within = c.requires.within;
      few = subst (λ (xs : List Slot). length xs ≤ 64) (sym c.deref.ensures.value) b.0;
      users = subst (λ (xs : List Slot). HaveRows c.args.rows.now xs) (sym c.deref.ensures.value) b.1;
    }

pub returns-in-Some : goal.returns-in-Some
returns-in-Some c =
    let rows = c.args.rows.now in
    let x = c.args.index in
    let own = c.index-opens-rows.result in
    record {
      inside = (
        omega arith,
        c.requires.within,
        λ o at. subst (λ (p : Attached). c.in-Some.slot ≤ length p.slots.items + 1)
            (one_at c.args.opens.now (row_at rows x).«open» own o (c.requires.opens x c.requires.above c.requires.within)
            c.index-opens-rows.is at)
            (subst (λ (xs : List Slot). c.in-Some.slot ≤ length xs + 1) c.deref.ensures.value c.in-Some.ensures.slot),
        c.in-Some.ensures.few,
      );
      some = λ e. absurd (cc);
      told = λ d holders prices watchers k credits slotless s o i r w. (
          let shown = subst (λ (xs : List Slot). PushShowsOpen rows xs c.args.session.now own.session x d) (sym c.deref.ensures.value)
          (o x own c.requires.above c.requires.within c.index-opens-rows.is) in (
            refl,
            c.in-Some.ensures.has d holders prices watchers s shown,
            λ n. c.in-Some.ensures.some d holders prices watchers k credits n slotless s shown,
          )
          );
    }

pub returns-in-None : goal.returns-in-None
returns-in-None c =
    let rows = c.args.rows.now in
    let x = c.args.index in
    let own = c.index-opens-rows.result in
    record {
      inside = (omega arith, c.requires.within);
      some = λ e. absurd (cc);
      told = λ d holders prices watchers k credits slotless s o i r w. (
          let shown = subst (λ (xs : List Slot). PushShowsOpen rows xs c.args.session.now own.session x d) (sym c.deref.ensures.value)
          (o x own c.requires.above c.requires.within c.index-opens-rows.is) in (
            refl,
            c.in-None.ensures.lacks d holders prices watchers k credits s shown i r w,
            λ n. c.in-None.ensures.none d holders prices watchers k credits n slotless s shown,
          )
          );
    }
