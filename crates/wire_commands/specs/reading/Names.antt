-- The names of create contexts that a reader has met.
use Rattle.std.specs.Prelude.{ℕ, Bool, ◌&&◌, ◌||◌, List}
use Rattle.std.specs.Borrow.{Bor}
use Rattle.std.specs.Cmp.Lexicographic.{slice_cmp}
use Rattle.std.specs.Ordering.{nat_cmp}
use Rattle.std.specs.BTreeSet.{BTreeSet, contains_by}
use Rattle.spec_wire.specs.messages.CreateContexts.{dh2c}
use Rattle.spec_commands.specs.Clashes.{dhnq, dhnc}

-- it is one of them
abbrev pub has_name : BTreeSet (Bor (List ℕ)) → List ℕ → Bool
has_name names name = contains_by (λ k. slice_cmp nat_cmp name k.now) names

abbrev pub mixes_versions : BTreeSet (Bor (List ℕ)) → Bool
mixes_versions names = has_name names dh2c && (has_name names dhnq || has_name names dhnc)
