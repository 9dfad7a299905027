use Rattle.std.proofs.Common.{List, sym, subst, ◌∙◌}
use Rattle.std.specs.String.{string_bytes}
use Rattle.store_files.specs.file_tree.Stored.{AreFiles}
use Rattle.store_files.specs.declared.file_tree.files.StoredFile.{StoredFile}
use Rattle.drill_command.proofs.drill_text.Added.{ok_with}
use Rattle.drill_command.proofs.drill_text.Ended.{is_text}
use Rattle.drill_command.proofs.drill_text.printing.text_of.Goals as goal

pub returns : goal.returns
returns c =
    ok_with c.run_text.result (λ text shown z w h.
    is_text w.values c.args.world.now.client c.as_slice.result.now c.as_slice-2.result.now c.as_slice-3.result.now c.as_slice-4.result.now
    (string_bytes text) h.client c.as_slice.ensures.value c.as_slice-2.ensures.value
    (c.as_slice-3.ensures.value ∙ c.in_ok-orders.ensures z w h)
    (subst (λ (l : List StoredFile). AreFiles l w.values.server) (sym c.as_slice-4.ensures.value) (c.in_ok-files.ensures z w h)) shown)
    c.run_text.ensures
