-- In which state a LOCK of one element that may wait does: where nothing answers it before its range is looked at.
use Rattle.std.specs.Prelude.{◌≡◌, ℕ, ◌+◌, nat_lt, Bool, not, ◌&&◌, if◌then◌else◌, None, is_some}
use Rattle.spec_exchange.specs.Commands.{Element}
use Rattle.spec_exchange.specs.State.{Server, Message}
use Rattle.spec_exchange.specs.Files.{is_directory}
use Rattle.spec_exchange.specs.Opens.{is_of_tree}
use Rattle.spec_exchange.specs.Ranges.{count_owned, wraps}
use Rattle.spec_exchange.specs.CheckOpen.{file_of, kept_lock}
use Rattle.spec_exchange.specs.CheckSetup.{tree_in}
use Rattle.spec_exchange.specs.Check.{has_session}
use Rattle.law_waiting.specs.held.Held.{first_in_the_way, wanted_range, would_wait}

-- its session, signature and tree are as owed
abbrev pub is_owed : Server → Message → Bool
is_owed s m = has_session s m && (not (is_some m.fault) && is_some (tree_in (s.trees m.session_id) m.tree_id))

-- its open stands there, no slot keeps an answer, and it is of a file
abbrev pub is_on_file : Server → Message → ℕ → ℕ → ℕ → Bool
is_on_file s m o index number = is_of_tree s o m.session_id m.tree_id && (not (is_some (kept_lock s o index number))
    && not (is_directory s (file_of s o)))

-- it has one range more at most 1,024, which doesn't pass the last byte
abbrev pub is_countable : Server → ℕ → Element → Bool
is_countable s o e = not (nat_lt 1024 (count_owned o (s.ranges (file_of s o)) + 1)) && not (wraps (wanted_range o e))

abbrev pub comes_to_ranges : Server → Message → ℕ → ℕ → ℕ → Element → Bool
comes_to_ranges s m o index number e = is_owed s m && (is_on_file s m o index number && is_countable s o e)

abbrev pub WaitsExactly : Server → Message → ℕ → ℕ → ℕ → Element → Type 0
WaitsExactly s m o index number e =
    would_wait s m ≡ (if comes_to_ranges s m o index number e then first_in_the_way (s.ranges (file_of s o)) (wanted_range o e) else None)
