use Rattle.std.proofs.Common.{◌≡◌, ◌≤◌, ◌+◌, ◌==◌, ℕ, length, is_some, arith, ap, refl, sym, subst, Vec, Global}
use Rattle.std.specs.Prelude.{Option}
use Rattle.std.specs.Ordering.{nat_cmp}
use Rattle.std.specs.BTreeMap.{get}
use Rattle.store_files.proofs.file_extents.Planned.{ends-there, same-piece}
use Rattle.store_files.proofs.file_extents.write.left_part.Goals as goal

pub returns-in_default-clause-left : goal.returns-in_default-clause-left
returns-in_default-clause-left c b s q p e l = c.in_default.ensures.none b s q p e (omega arith)

pub returns-clause-left : goal.returns-clause-left
returns-clause-left c b s =
    let f : ℕ → Option (Vec ℕ Global) = λ k. get nat_cmp c.args.pieces.now k in
    let i = c.in-Some.ensures.inside in
    let r = c.requires in
    let n = c.len.ensures in
    let m = c.min-count.ensures in (
      record {
        some = omega arith;
        place = omega arith;
        first = omega arith;
        count = omega arith;
        there = ap (λ v. is_some v) c.in-Some.ensures.piece;
        fits = λ q e. let w = same-piece f c.in-Some.place c.in-Some.piece.now q c.in-Some.ensures.piece e in omega arith;
      },
      (λ h q p e l.
          let all : c.args.at + c.min-count.result ≡ c.in-Some.place + length c.in-Some.piece.now.items = omega arith in
          subst (λ v. q + length p.items ≤ v) (sym all)
          (ends-there f b c.in-Some.place c.in-Some.piece.now s c.in-Some.ensures.piece q p (q == c.in-Some.place) refl e
          (omega arith))),
    )
