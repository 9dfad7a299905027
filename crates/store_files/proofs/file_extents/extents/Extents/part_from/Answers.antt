use Rattle.std.proofs.Common.{◌-◌, sym, subst, arith}
use Rattle.std.specs.Ordering.{nat_cmp}
use Rattle.std.specs.BTreeMap.{get}
use Rattle.store_files.specs.file_extents.Parts.{IsFilePart}
use Rattle.store_files.proofs.file_extents.Told.{is_part, on_some, on_none}
use Rattle.store_files.proofs.file_extents.extents.Extents.part_from.Goals as goal

pub returns-in-Some-clause-some : goal.returns-in-Some-clause-some
returns-in-Some-clause-some c = λ b i.
    let n = c.in-Some.ensures.inside in
    subst (λ d. IsFilePart b c.args.at c.args.most c.args.at d) (sym c.cut.ensures.is)
    (is_part (λ q. get nat_cmp c.args.self.now.pieces q) b i.shows c.in-Some.place c.in-Some.piece.now c.in-Some.ensures.piece
    c.args.at c.args.most (c.args.at - c.in-Some.place) c.args.at (omega arith) (omega arith) (omega arith) c.requires
    (λ k l m. absurd (omega arith)))

pub returns-in-None-clause-some : goal.returns-in-None-clause-some
returns-in-None-clause-some c = on_some c.first_from.result _ _ (λ x p b i. p b i (c.in-None.ensures.none b i.shows))
    c.first_from.ensures.some

pub returns-in-None-clause-none : goal.returns-in-None-clause-none
returns-in-None-clause-none c = on_none c.first_from.result _ _ (λ p b i. p b i (c.in-None.ensures.none b i.shows))
    c.first_from.ensures.none

pub returns-in-Some-clause-sized : goal.returns-in-Some-clause-sized
returns-in-Some-clause-sized c =
    let n = c.in-Some.ensures.inside in
    let l = c.cut.ensures.sized in
    let m = c.requires in
    (omega arith, omega (arith, n, l, m), omega (arith, l))
