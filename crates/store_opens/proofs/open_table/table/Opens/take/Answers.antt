use Rattle.std.proofs.Common.{map, List, None, refl, ap, ◌∙◌}
use Rattle.store_opens.specs.declared.share_modes.lists.Range.{Range}
use Rattle.store_opens.specs.share_modes.Locking.{range_of}
use Rattle.store_opens.specs.declared.open_table.table.Opens.{Opens}
use Rattle.store_opens.proofs.open_table.Dropped.{drop_left, told_left, row_found}
use Rattle.store_opens.proofs.open_table.table.Opens.take.Goals as goal

pub returns-in-Some-clause-taken : goal.returns-in-Some-clause-taken
returns-in-Some-clause-taken c = λ s i h st.
    let t = c.reserve_row.new.self in
    let g = c.reserve_row.ensures.same s h in (
      record {
        id_is = refl;
        row_is = row_found t s c.args.id c.in-Some.row g c.in-Some.ensures.left.was;
        ranges_are = ap (λ (v : List Range). map range_of v) c.in_ok-ranges.ensures.items ∙ c.ranges-held.ensures.shown
            s h ∙ ap s.ranges (c.file_of.ensures.shown s h st);
      },
      drop_left t c.take_row.new.self c.args.id c.in-Some.row s c.in-Some.ensures.left
          (ap (λ (w : Opens). w.sessions) c.take_row.ensures.rest) i g st,
    )

pub returns-in-None-clause-taken : goal.returns-in-None-clause-taken
returns-in-None-clause-taken c = λ s i h st.
    absurd (let e = told_left c.reserve_row.new.self c.args.id s None c.in-None.ensures.row
    (c.reserve_row.ensures.same s h) in cc)
