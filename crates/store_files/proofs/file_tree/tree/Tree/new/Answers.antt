use Rattle.std.proofs.Common.{arith, refl, sym, ◌∙◌}
use Rattle.store_files.specs.file_tree.Shown.{path_at, at_key}
use Rattle.spec_exchange.specs.Files.{sizes}
use Rattle.store_files.proofs.file_tree.Found.{never_long}
use Rattle.store_files.proofs.file_tree.Housed.{housed_none}
use Rattle.store_files.proofs.file_tree.tree.Tree.new.Goals as goal

pub returns-clause-shown : goal.returns-clause-shown
unfolding at_key path_at sizes
returns-clause-shown c = λ s b rm. record {
  rows = record {
    apart = rw b.entries tt;
    fresh = λ f l. rw b.entries refl;
    above = rw b.next_file (omega arith);
    no_root = rw b.entries refl;
    no_empty = rw b.entries refl;
    housed = housed_none s.entries s.directory b.entries;
    plain = rw b.entries tt;
    root_path = c.new-3.ensures;
    root_below = c.new-5.ensures.bytes;
    root_is = record {
      key_is = rw c.new-3.ensures c.new-4.ensures.bytes;
      below_is = λ n d. absurd (let e = never_long _ c.new-3.ensures n in cc);
      directory_is = refl;
      delete_pending_is = b.delete_pending;
      basic_is = b.basic ∙ sym c.times_at.ensures;
      content_is = rw b.content c.new-6.ensures.empty;
    };
    rows_are = λ f. rw (b.entries, c.new.ensures.empty) refl;
    count_is = rw b.entries (sym c.new.ensures.len);
    next_is = b.next_file;
    used_is = rw b.entries refl;
    room_is = rm;
  };
  keys_are = λ q. rw (b.entries, c.new-2.ensures.empty) refl;
}
