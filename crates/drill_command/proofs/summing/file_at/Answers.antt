use Rattle.std.proofs.Common.{◌+◌, ◌∷◌, drop, sym, ap, ◌∙◌}
use Rattle.std.proofs.lemmas.List.{drop_more}
use Rattle.store_files.specs.declared.file_tree.files.StoredFile.{StoredFile as Item}
use Rattle.drill_command.proofs.summing.file_at.Goals as goal

pub returns : goal.returns
returns c =
    let items = c.args.files.now in
    let own = c.index-files-place.result in
    drop_more items c.args.place own c.requires ∙ ap (λ (o : Item). o ∷ drop (c.args.place + 1) items) (sym c.index-files-place.is)
