use Rattle.std.proofs.Common.{true}
use Rattle.std.specs.String.{string_bytes}
use Rattle.std.proofs.lemmas.Map.Text.{hash_set_updates_text}
use Rattle.script_words.proofs.user_names.add_name.Goals as goal

pub returns-in-Ok-clause-ok : goal.returns-in-Ok-clause-ok
returns-in-Ok-clause-ok c =
    hash_set_updates_text (string_bytes c.args.key) c.args.names.now c.insert.new.self true c.in-Ok.ensures.updates
