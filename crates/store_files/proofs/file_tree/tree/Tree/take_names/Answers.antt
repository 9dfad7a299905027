use Rattle.std.proofs.Common.{List, nat_eq, take, refl, ap, ◌∙◌}
use Rattle.std.specs.HashMap.{get}
use Rattle.std.specs.BTreeMap.{get_by_text}
use Rattle.store_files.specs.declared.file_tree.new_name.NewName.{NewName}
use Rattle.store_files.specs.file_tree.Moved.{name_taken, given_back, one_by_one}
use Rattle.store_files.proofs.file_tree.Full.{there_in}
use Rattle.store_files.proofs.file_tree.RowsMade.{same_rows}
use Rattle.store_files.proofs.file_tree.Landed.{allowed_any, allowed_other, restored}
use Rattle.store_files.proofs.file_tree.tree.Tree.take_names.Goals as goal

pub returns-in-Ok-take_keys-clause-prepared : goal.returns-in-Ok-take_keys-clause-prepared
returns-in-Ok-take_keys-clause-prepared c = λ s replace h e r.
    let t = c.args.self.now in
    let f = c.args.file in
    let to = c.args.to.now in
    let there = there_in s f (allowed_other s f replace to r) e in
    let n = c.in-Ok.ensures s h there in record {
      rows = same_rows t _ s (λ q. refl) refl refl refl refl refl h.rows;
      there = there;
      allowed = allowed_any s f replace to r;
      replaced_is = c.target-replaced.ensures s h;
      names_are = n.0;
      whole = n.1;
      keys_are = λ q. c.in-Ok-take_keys.ensures.ok q
          ∙ (ap (λ (l : List NewName). one_by_one name_taken l q (get_by_text t.paths q)) c.deref.ensures.value
          ∙ ap (λ o. one_by_one name_taken c.in-Ok.names.items q o) (h.keys_are q));
    }

pub returns-in-Err-take_keys-clause-prepared : goal.returns-in-Err-take_keys-clause-prepared
returns-in-Err-take_keys-clause-prepared c = λ s replace h e r.
    let t = c.args.self.now in
    let x = c.in-Err-take_keys.ensures.err in
    let ns = take x.0 c.deref.result.now in record {
      rows = same_rows t _ s (λ q. refl) refl refl refl refl refl h.rows;
      keys_are = λ q. x.1 q
          ∙ (ap (λ o. one_by_one (given_back (λ f. get nat_eq t.rows f)) ns q (one_by_one name_taken ns q o)) (h.keys_are q)
          ∙ restored t s h.rows ns q);
    }
