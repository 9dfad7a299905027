-- What the server's end of a connection takes in a repeat run until the connection is opened again.
use Rattle.std.specs.Prelude.{◌≡◌, ℕ, ◌≤◌, ◌==◌, Bool, true, false, ◌&&◌, if◌then◌else◌, List, [], ◌∷◌, ◌++◌, Option, Some, None, slice_get}
use Rattle.spec_exchange.specs.Network.{Event, Open, is_possible}
use Rattle.spec_wire.specs.credits.Ids.{times}
use Rattle.spec_world.specs.Settings.{WorldSettings}
use Rattle.spec_world.specs.Ends.{first_server_end}
use Rattle.spec_world.specs.Hearing.{check_frame}
use Rattle.spec_hostile.specs.RepeatRuns.{RepeatWorld, RepeatEvent, Same, Give, UpFrame, is_served, repeat_happens}
use Rattle.law_hostile.specs.taken_ids.Hands.{ids_heard}

abbrev pub ids_given : RepeatWorld → ℕ → ℕ → Option UpFrame → List ℕ
ids_given r k j None = []
ids_given r k j (Some u) =
    if is_served r.world j && (j == k) then ids_heard (check_frame (r.world.wires k).server_end u.frame) else []

abbrev pub ids_now : RepeatWorld → ℕ → RepeatEvent → List ℕ
ids_now r k (Same e) = []
ids_now r k (Give j true place) = ids_given r k j (slice_get r.ups place)
ids_now r k (Give j false place) = []

abbrev pub is_open_of : ℕ → Event → Bool
is_open_of k (Open j) = k == j
is_open_of k _ = false

abbrev pub is_opened_by : RepeatWorld → ℕ → RepeatEvent → Bool
is_opened_by r k (Same e) = is_open_of k e && is_possible r.world.values e
is_opened_by r k (Give j up place) = false

unfoldable pub ids_until : WorldSettings → ℕ → RepeatWorld → List RepeatEvent → List ℕ
ids_until z k r [] = []
ids_until z k r (e ∷ es) = if is_opened_by r k e then [] else ids_now r k e ++ ids_until z k (repeat_happens z r e) es

-- behind an Open of it each id is taken at most once before the next
abbrev pub OpeningTakesOnce : Type 0
OpeningTakesOnce =
    (z : WorldSettings) (k : ℕ) (r : RepeatWorld) (salt : List ℕ) (es : List RepeatEvent) (id : ℕ)
    → (r.world.wires k).server_end ≡ first_server_end salt → times id (ids_until z k r es) ≤ 1
