use Rattle.std.proofs.Common.{option_map, ap, ◌∙◌}
use Rattle.store_files.proofs.file_tree.Listings.{behind_dot, behind_none}
use Rattle.store_files.proofs.file_tree.list.is_behind_dot.Goals as goal

pub returns-in-Some : goal.returns-in-Some
returns-in-Some c = c.eq.ensures ∙ behind_dot (option_map (λ t. t.now) c.args.last) c.in-Some.name.now
    (ap (option_map (λ t. t.now)) c.in-Some.is)

pub returns-in-None : goal.returns-in-None
returns-in-None c = behind_none (option_map (λ t. t.now) c.args.last) (ap (option_map (λ t. t.now)) c.in-None.is)
