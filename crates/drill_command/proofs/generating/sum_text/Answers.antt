use Rattle.std.proofs.Common.{List, subst, sym}
use Rattle.std.specs.String.{string_bytes}
use Rattle.store_files.specs.file_tree.Stored.{AreFiles}
use Rattle.store_files.specs.declared.file_tree.files.StoredFile.{StoredFile}
use Rattle.drill_command.proofs.drill_text.Added.{ok_with}
use Rattle.drill_command.proofs.Summed.{is_sum}
use Rattle.drill_command.proofs.generating.sum_text.Goals as goal

pub returns : goal.returns
returns c =
    ok_with c.summary_text.result (λ text shown z w h.
    is_sum w.values c.args.ended.now.client c.as_slice.result.now c.as_slice-2.result.now (string_bytes text) h.client
    c.as_slice.ensures.value
    (subst (λ (l : List StoredFile). AreFiles l w.values.server) (sym c.as_slice-2.ensures.value) (c.in_ok-files.ensures z w h)) shown)
    c.summary_text.ensures
