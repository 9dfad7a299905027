use Rattle.std.proofs.Common.{ap, subst, ◌∙◌}
use Rattle.spec_exchange.specs.Commands.{Basic}
use Rattle.spec_exchange.specs.Content.{ended}
use Rattle.spec_exchange.specs.Files.{store_basic, emptied_basic}
use Rattle.store_files.specs.file_tree.Shown.{ShowsFiles}
use Rattle.store_files.specs.file_tree.Bytes.{with_content}
use Rattle.store_files.proofs.file_tree.Lengths.{none_passes, told_basic}
use Rattle.store_files.proofs.file_tree.tree.Tree.empty.Goals as goal

pub returns-clause-shown : goal.returns-clause-shown
unfolding ended
returns-clause-shown c = λ s h e d.
    let f = c.args.file in
    let t = with_content s f (ended 0 (s.content f)) in
    subst (λ (b : Basic). ShowsFiles c.set_basic.new.self (store_basic t f b)) (c.emptied-basic.ensures
    ∙ ap (λ (b : Basic). emptied_basic b c.args.attributes c.args.now)
    (told_basic c.info.result s f (c.info.ensures s h e)))
    (c.set_basic.ensures.shown t (c.put_end.ensures.shown s h e d (none_passes s f)))
