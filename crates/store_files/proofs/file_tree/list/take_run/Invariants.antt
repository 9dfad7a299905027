use Rattle.std.proofs.Common.{◌≡◌, ℕ, nat_eq}
use Rattle.std.specs.HashMap.{get}
use Rattle.std.specs.BTreeMap.{get_by_text}
use Rattle.std.specs.String.{string_bytes}
use Rattle.spec_exchange.specs.State.{Named}
use Rattle.store_files.specs.file_tree.Listed.{listing_given, any_at, listing_accepted, kids, from_key, AreListingRows}
use Rattle.store_files.proofs.file_tree.Passing.{Runs}
use Rattle.store_files.proofs.file_tree.list.take_run.Given as goal

abbrev pub invariant-loop-key : goal.invariant-loop-key
invariant-loop-key l =
    (goal.iterator-loop-key).can_next l.key-iterator ×
    (goal.iterator-loop-key).is_finite l.key-iterator ×
    ((names : ℕ → Named) → AreListingRows (λ q. get_by_text l.fn.paths q) (get nat_eq l.fn.rows) names
    → (listing_given l.fn.asked l.taken (listing_accepted l.fn.asked.pattern.now (kids names (string_bytes l.fn.front) l.key-iterator))
    ≡ listing_given l.fn.asked l.fn.taken
    (listing_accepted l.fn.asked.pattern.now
    (kids names (string_bytes l.fn.front) (from_key (string_bytes l.fn.start) l.fn.paths.entries))))
    × (any_at l.taken.stage (listing_accepted l.fn.asked.pattern.now (kids names (string_bytes l.fn.front) l.key-iterator))
    ≡ any_at l.fn.taken.stage
    (listing_accepted l.fn.asked.pattern.now
    (kids names (string_bytes l.fn.front) (from_key (string_bytes l.fn.start) l.fn.paths.entries))))) ×
    Runs (string_bytes l.fn.front) (string_bytes l.fn.start) l.fn.paths.entries l.key-iterator
