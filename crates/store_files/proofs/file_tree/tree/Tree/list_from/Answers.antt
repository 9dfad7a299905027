use Rattle.std.proofs.Common.{List, ℕ, Some, option_map, sym, ap, ◌∙◌}
use Rattle.spec_exchange.specs.Table.{is_filled}
use Rattle.spec_exchange.specs.Listing.{all_named, fitting, one_or_all, wanted}
use Rattle.store_files.proofs.file_tree.Listings.{given_end}
use Rattle.store_files.proofs.file_tree.tree.Tree.list_from.Goals as goal

pub returns : goal.returns
returns c = λ s h e.
    let t = c.in_ok-taken.ensures s h e in
    let last = option_map (λ l. l.now) c.args.last in
    let b = c.as_bytes.ensures.value in (
      sym (given_end (record {
        pattern = c.as_bytes.result;
        class = Some c.args.class;
        room = c.args.room;
        single = c.args.single;
      }) c.in_ok-taken.taken)
          ∙ (t.0 ∙ ap (λ (p : List ℕ). one_or_all c.args.single
          (fitting c.args.class c.args.room 0 (wanted last p (all_named s c.args.directory)))) b),
      c.is_any-any.ensures ∙ (t.1 ∙ ap (λ (p : List ℕ). is_filled (wanted last p (all_named s c.args.directory))) b),
    )
