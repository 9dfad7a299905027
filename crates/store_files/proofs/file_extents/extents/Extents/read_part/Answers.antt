use Rattle.std.proofs.Common.{◌-◌, ◌++◌, sym, ap, refl, ◌∙◌, arith}
use Rattle.std.specs.Prelude.{vec_items}
use Rattle.std.specs.Ordering.{nat_cmp}
use Rattle.std.specs.BTreeMap.{get}
use Rattle.store_files.proofs.file_extents.Shown.{shows-gap, shows-part}
use Rattle.store_files.proofs.file_extents.extents.Extents.read_part.Goals as goal

pub returns-in_default-clause-bytes : goal.returns-in_default-clause-bytes
returns-in_default-clause-bytes c b s =
    let w = c.gap_end-behind.ensures.goes in let l = s.len in let r = c.requires in
    c.in_ok-add_zeros.ensures.ok ∙ ap (λ x. c.args.out.now.items ++ x)
    (sym (shows-gap vec_items (λ k. get nat_cmp c.args.self.now.pieces k) b c.args.at (c.gap_end-behind.result - c.args.at) s.shows
    (c.in_default.ensures.none b s.shows)
    (λ q i o. let v = c.gap_end-behind.ensures.free q i o in omega arith) (omega arith)))

pub returns-clause-bytes : goal.returns-clause-bytes
returns-clause-bytes c b s =
    let l = c.in-Some.ensures.inside in let m = c.min-count.ensures in let d = c.deref.ensures in let n = c.len.ensures in
    shows-part vec_items (λ k. get nat_cmp c.args.self.now.pieces k)
    b c.in-Some.place c.in-Some.piece.now c.args.at c.min-count.result _ _ _
    c.args.out.now.items c.extend_from_slice.new.self.items c.deref.result.now
    s.shows c.in-Some.ensures.piece l.0 refl (omega arith) (omega arith) (omega arith) d.value c.in_ok-extend_from_slice.ensures.items
