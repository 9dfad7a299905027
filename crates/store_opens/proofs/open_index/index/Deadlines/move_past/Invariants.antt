use Rattle.std.proofs.Common.{◌≡◌, ℕ, true}
use Rattle.std.specs.BTreeSet.{btree_set_len}
use Rattle.store_opens.specs.open_index.Index.{indexes}
use Rattle.store_opens.proofs.open_index.index.Deadlines.move_past.Given as goal

abbrev pub invariant-loop-id : goal.invariant-loop-id
invariant-loop-id l = record {
  kept : l.self.is_whole ≡ true → (o d : ℕ) → indexes l.fn.self d o ≡ true → indexes l.self d o ≡ true;
  whole : l.self.is_whole ≡ true → l.fn.self.is_whole ≡ true;
}

abbrev pub decreases-loop-id : goal.decreases-loop-id
decreases-loop-id l = btree_set_len l.self.pending
