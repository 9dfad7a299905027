use Rattle.std.proofs.Common.{rules}
use Rattle.std.proofs.lemmas.Iterator.{YieldsList-from_map_by}
use Rattle.std.proofs.lemmas.Iterator.Adapters.{YieldsList-from_vec}
use Rattle.std.proofs.lemmas.Iterator.Consumers.{map_from_collect}
use Rattle.wire_commands.specs.values.Meaning.{named_of}
use Rattle.store_files.specs.file_tree.Listed.{model_named}
use Rattle.server_checks.proofs.check_open.all_named.Goals as goal

pub returns : goal.returns
returns c = map_from_collect _ c.collect.ensures.ran
    (YieldsList-from_map_by _ named_of model_named (YieldsList-from_vec c.args.entries.items (cc) (cc c.args.entries.ok.0))
    c.map.ensures.closure (λ x r q k. search rules))
