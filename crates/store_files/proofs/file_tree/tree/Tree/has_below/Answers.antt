use Rattle.std.proofs.Common.{◌∙◌}
use Rattle.std.specs.String.{string_bytes}
use Rattle.std.specs.BTreeMap.{get_by_text}
use Rattle.store_files.proofs.file_tree.Below.{next_below, none_below}
use Rattle.store_files.proofs.file_tree.tree.Tree.has_below.Goals as goal

pub returns-in-Some : goal.returns-in-Some
returns-in-Some c = λ s h p n f. c.starts.ensures ∙ rw (c.as_str-in-Some.ensures.value, c.as_str.ensures.value)
    (next_below p n s.entries (string_bytes c.args.below.now) (λ q. get_by_text c.args.self.now.paths q) f h.keys_are
    (string_bytes c.in-Some.key.now) c.in-Some.ensures)

pub returns-in-None : goal.returns-in-None
returns-in-None c = λ s h p n f. none_below p n s.entries (string_bytes c.args.below.now)
    (λ q. get_by_text c.args.self.now.paths q) f h.keys_are c.in-None.ensures
