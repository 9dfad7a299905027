use Rattle.std.proofs.Common.{sym, ◌∙◌, refl}
use Rattle.store_files.proofs.file_tree.new_name.forget_old.Goals as goal

pub returns-in-Some : goal.returns-in-Some
returns-in-Some c = λ q. c.forget_path.ensures q ∙ rw (c.as_str.ensures.value, sym c.in-Some.ensures.value) refl

pub returns-in-None : goal.returns-in-None
returns-in-None c = λ q. rw (sym c.in-None.ensures.value) refl
