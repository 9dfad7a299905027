use Rattle.spec_exchange.specs.Commands.{asks_directory}
use Rattle.server_effects.proofs.Made.{file_emptied, file_left, file_new, file_there}
use Rattle.server_effects.proofs.making.put_file.Goals as goal
use Rattle.spec_exchange.specs.Effects.{made_attributes}

pub finish_make-requires : goal.finish_make-requires
finish_make-requires c = rw c.in-New.is at c.requires

pub returns-in-New-clause-shows : goal.returns-in-New-clause-shows
returns-in-New-clause-shows c = λ s r found x h.
    let k = rw c.in-New.is at h in
    file_new s r found c.args.now c.finish_make.new.self k.0
    (c.finish_make.ensures.shown s r.path (asks_directory r) (made_attributes r) c.args.now k.1).1

pub returns-in-Emptied-clause-shows : goal.returns-in-Emptied-clause-shows
returns-in-Emptied-clause-shows c = λ s r found x h.
    let k = rw c.in-Emptied.is at h in
    let y = file_there s r c.in-Emptied.file found k.0 x in
    file_emptied s r found c.in-Emptied.file c.in-Emptied.attributes c.args.now c.empty.new.self k.0 k.1 k.2
    (c.empty.ensures.shown s k.3 y.0 (y.1 k.2))

pub returns-in-AsItIs-clause-shows : goal.returns-in-AsItIs-clause-shows
returns-in-AsItIs-clause-shows c = λ s r found x h.
    let k = rw c.in-AsItIs.is at h in file_left s r found c.in-AsItIs.file c.args.now c.args.t.now.tree k.0 k.1 k.2
