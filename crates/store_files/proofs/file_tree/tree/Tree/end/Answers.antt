use Rattle.std.proofs.Common.{ap, subst, ◌∙◌}
use Rattle.spec_exchange.specs.Commands.{Basic}
use Rattle.spec_exchange.specs.Content.{ended}
use Rattle.spec_exchange.specs.Files.{store_basic, touched}
use Rattle.store_files.specs.file_tree.Shown.{ShowsFiles}
use Rattle.store_files.specs.file_tree.Bytes.{with_content}
use Rattle.store_files.proofs.file_tree.Lengths.{told_basic}
use Rattle.store_files.proofs.file_tree.tree.Tree.end.Goals as goal

pub returns-clause-shown : goal.returns-clause-shown
returns-clause-shown c = λ s h e d r.
    let f = c.args.file in
    let t = with_content s f (ended c.args.size (s.content f)) in
    subst (λ (b : Basic). ShowsFiles c.set_basic.new.self (store_basic t f b)) (c.touched-basic.ensures
    ∙ ap (λ (b : Basic). touched b c.args.now) (told_basic c.info.result s f (c.info.ensures s h e)))
    (c.set_basic.ensures.shown t (c.put_end.ensures.shown s h e d r))
