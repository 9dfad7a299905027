use Rattle.std.proofs.Common.{sym, subst, arith}
use Rattle.std.specs.Ordering.{nat_cmp}
use Rattle.std.specs.BTreeMap.{get}
use Rattle.store_files.specs.file_extents.Parts.{IsFilePart}
use Rattle.store_files.proofs.file_extents.Told.{is_part, zeros_before, none_from, filled_is}
use Rattle.store_files.proofs.file_extents.extents.Extents.first_from.Goals as goal

pub returns-in-Some-get-clause-some : goal.returns-in-Some-get-clause-some
returns-in-Some-get-clause-some c = λ b i clear.
    let e = sym c.in-Some-get.ensures.value in
    let n = c.in-Some.ensures.some in
    subst (λ d. IsFilePart b c.args.at c.args.most c.in-Some.place d) (sym c.cut.ensures.is)
    (is_part (λ q. get nat_cmp c.args.self.now.pieces q) b i.shows c.in-Some.place c.in-Some-get.piece.now e c.args.at c.args.most 0 c.in-Some.place (omega arith) n.0
    (filled_is (get nat_cmp c.args.self.now.pieces c.in-Some.place) c.in-Some-get.piece.now e n.1) c.requires
    (zeros_before (λ q. get nat_cmp c.args.self.now.pieces q) b i.shows c.args.at clear c.in-Some.place n.2))

pub returns-in-None-clause-none : goal.returns-in-None-clause-none
returns-in-None-clause-none c = λ b i clear.
    none_from (λ q. get nat_cmp c.args.self.now.pieces q) b i.shows c.args.at clear (λ end. c.in-None.ensures.none b end i)

pub returns-in-Some-get-clause-sized : goal.returns-in-Some-get-clause-sized
returns-in-Some-get-clause-sized c =
    let n = c.in-Some.ensures.some in
    let f = filled_is (get nat_cmp c.args.self.now.pieces c.in-Some.place) c.in-Some-get.piece.now (sym c.in-Some-get.ensures.value) n.1 in
    let l = c.cut.ensures.sized in
    let m = c.requires in
    (n.0, omega (arith, f, l, m), omega (arith, l))
