use Rattle.std.proofs.Common.{◌≡◌, ℕ, true, length, nat_eq}
use Rattle.std.specs.HashMap.{get}
use Rattle.std.specs.BTreeMap.{get_by_text}
use Rattle.std.specs.String.{string_bytes}
use Rattle.spec_exchange.specs.State.{Named}
use Rattle.store_files.specs.file_tree.Keys.{key_le}
use Rattle.store_files.specs.file_tree.Listed.{listing_given, any_at, listing_accepted, kids, from_key, AreListingRows}
use Rattle.store_files.proofs.file_tree.list.take_from.Given as goal

abbrev pub invariant-loop-from : goal.invariant-loop-from
invariant-loop-from l = (names : ℕ → Named) → AreListingRows (λ q. get_by_text l.fn.paths q) (get nat_eq l.fn.rows) names
    → key_le (string_bytes l.fn.front) (string_bytes l.fn.start) ≡ true
    → (key_le (string_bytes l.fn.front) (string_bytes l.from) ≡ true)
    × (listing_given l.fn.asked l.taken
    (listing_accepted l.fn.asked.pattern.now
    (kids names (string_bytes l.fn.front) (from_key (string_bytes l.from) l.fn.paths.entries)))
    ≡ listing_given l.fn.asked l.fn.taken
    (listing_accepted l.fn.asked.pattern.now
    (kids names (string_bytes l.fn.front) (from_key (string_bytes l.fn.start) l.fn.paths.entries))))
    × (any_at l.taken.stage
    (listing_accepted l.fn.asked.pattern.now
    (kids names (string_bytes l.fn.front) (from_key (string_bytes l.from) l.fn.paths.entries)))
    ≡ any_at l.fn.taken.stage
    (listing_accepted l.fn.asked.pattern.now
    (kids names (string_bytes l.fn.front) (from_key (string_bytes l.fn.start) l.fn.paths.entries))))

abbrev pub decreases-loop-from : goal.decreases-loop-from
decreases-loop-from l = length (from_key (string_bytes l.from) l.fn.paths.entries)
