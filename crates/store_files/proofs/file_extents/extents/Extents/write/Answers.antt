use Rattle.std.proofs.Common.{◌≡◌, length, arith, sym, subst}
use Rattle.store_files.specs.file_extents.Kept.{IsContent}
use Rattle.std.proofs.lemmas.Bool.Decides.{nat_tests}
use Rattle.store_files.proofs.file_extents.Planned.{written-none}
use Rattle.store_files.proofs.file_extents.extents.Extents.write.Goals as goal

pub returns-then-is_empty-clause-ok : goal.returns-then-is_empty-clause-ok
returns-then-is_empty-clause-ok c b s =
    let e : length c.args.bytes.now ≡ 0 = (let t = c.if-is_empty.true in let u = c.is_empty.ensures in grind (arith, nat_tests)) in
    subst (λ v. IsContent c.args.self.now v) (sym (written-none c.args.at c.args.bytes.now b e)) s

pub returns-clause-held : goal.returns-clause-held
returns-clause-held c b h s e = c.finish.ensures.held c.args.at h (c.in_ok-prepared.ensures.ready b s) (c.prepare.ensures.held h e)
