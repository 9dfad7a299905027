use Rattle.server_core.proofs.snapshot_writing.FileLemmas.{front_is, there, apart}
use Rattle.server_core.proofs.snapshot_writing.files.front_of.Goals as goal

pub returns : goal.returns
returns c = λ s h is. front_is c.info-info.result s c.args.file (apart c.args.tree.now s c.args.file h is)
    (c.info-info.ensures s h (there s c.args.file is))
