-- The three statements as tests of one run.
use Rattle.std.specs.Prelude.{ℕ, zero, suc, ◌+◌, ◌==◌, nat_le, Bool, true, false, not, ◌&&◌, ◌||◌, if◌then◌else◌, List, [], ◌∷◌, Some, None}
use Rattle.spec_exchange.specs.Table.{is_at}
use Rattle.spec_exchange.specs.Content.{ContentOp, ContentReply, Counted, Gives, Done, effect, value, past_end, same_bytes, is_listed}
use Rattle.spec_exchange.specs.Order.{Account, Settlement, Settled_ok, Settled_end, applies, count, precedes, is_firm}
use Rattle.spec_exchange.specs.Order.{order_of, bytes_at_birth, bytes_at_last}
use Rattle.spec_exchange.specs.Operations.{is_ok}
use Rattle.spec_exchange.specs.Network.{World, Event, start}
use Rattle.spec_exchange.specs.Runs.{acts, is_once, never_acted, is_newer, account, isolates, stands_open}
use Rattle.spec_exchange.specs.Schedules.{Line, course}
use Rattle.examples_exchange.specs.Scripts.{beginning, settings}

-- a test of each number from n down to 1
abbrev pub all_to : (ℕ → Bool) → ℕ → Bool
all_to test zero = true
all_to test (suc n) = test (n + 1) && all_to test n

-- ---- once

abbrev pub once_at : List Event → World → World → ℕ → Bool
once_at events first last g =
    let times = acts events first g in
    nat_le times 1 && ((not (is_ok (last.client.outcome g)) || (times == 1)) && (not (never_acted (last.client.outcome g)) || (times == 0)))

abbrev pub is_once_run : List Event → World → World → Bool
is_once_run events first last = all_to (λ g. not (is_once (last.client.op g)) || once_at events first last g) last.client.taken

-- ---- newer

-- of the places below i, none of a newer pair than place n reached the open that was written to at n
abbrev pub no_newer_below : World → ℕ → ℕ → ℕ → Bool
no_newer_below w n o zero = true
no_newer_below w n o (suc i) = (not (is_at o (w.trace.reached i)) || not (is_newer w i n)) && no_newer_below w n o i

abbrev pub newer_at : World → ℕ → Bool
newer_at w n = elim (w.log.did n) [ false ↦ true | true ↦ elim (w.trace.altered n) [ None ↦ true | Some o ↦ no_newer_below w n o n ] ]

abbrev pub newer_below : World → ℕ → Bool
newer_below w zero = true
newer_below w (suc n) = newer_at w n && newer_below w n

abbrev pub is_newer_run : World → Bool
is_newer_run w = newer_below w w.log.places

-- ---- one connection's

abbrev pub same_reply : ContentReply → ContentReply → Bool
same_reply (Counted m) (Counted n) = m == n
same_reply (Gives b) (Gives c) = same_bytes b c
same_reply Done Done = true
same_reply _ _ = false

abbrev pub fits : ContentOp → List ℕ → Settlement → Bool
fits op c (Settled_ok v) = not (past_end op c) && same_reply (value op c) v
fits op c Settled_end = past_end op c
fits op c _ = true

abbrev pub replays : Account → List ℕ → List ℕ → List ℕ → Bool
replays a [] c end = same_bytes c end
replays a (g ∷ gs) c end = fits (a.ops g) c (a.settlement g) && replays a gs (if applies a g then effect (a.ops g) c else c) end

abbrev pub stands_once : Account → ℕ → List ℕ → ℕ → Bool
stands_once a c order g = nat_le (count g order) 1
    && (not ((a.of g == c) && (is_listed (a.ops g) && is_firm (a.settlement g))) || (count g order == 1))

abbrev pub stands_before : Account → List ℕ → ℕ → ℕ → Bool
stands_before a order h g = not (a.log.prior h g && ((count g order == 1) && (count h order == 1))) || precedes g h order

abbrev pub is_legal : Account → ℕ → ℕ → List ℕ → Bool
is_legal a c taken order =
    replays a order (bytes_at_birth a c) (bytes_at_last a c)
    && (all_to (stands_once a c order) taken && all_to (λ h. all_to (stands_before a order h) taken) taken)

abbrev pub is_bytes_now : World → ℕ → Bool
is_bytes_now w c = elim (w.trace.open_of c) [
  | None ↦ true
  | Some o ↦ not (stands_open w c o)
      || same_bytes (bytes_at_last (account w) c) (w.server.content (w.server.opened o).file)
]

abbrev pub is_ordered_run : World → Bool
is_ordered_run w = all_to (λ c. not (isolates w c) || (is_legal (account w) c w.client.taken (order_of (account w) c)
    && is_bytes_now w c)) w.client.taken

-- ---- all three, of a script's run

abbrev pub laws_hold : ℕ → ℕ → List Line → Bool
laws_hold n room script =
    let c = course n script (beginning room) in is_once_run c.events (start (settings room)) c.world
    && (is_newer_run c.world && is_ordered_run c.world)
