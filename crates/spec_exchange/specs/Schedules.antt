-- The program's own choices, as lists of events: which operation a push sends, how a channel is linked, how a run is settled.
-- The laws speak of every list of events, so nothing here is a premise of them.
use Rattle.std.specs.Prelude.{ℕ, zero, suc, ◌+◌, ◌-◌, ◌*◌, ◌==◌, nat_le, Bool, true, false, not, ◌&&◌, ◌||◌}
use Rattle.std.specs.Prelude.{if◌then◌else◌, List, [], ◌∷◌, ◌++◌, length, Option, Some, None}
use Rattle.spec_exchange.specs.Table.{is_at, is_filled}
use Rattle.spec_exchange.specs.Operations.{Refusal, weight, charge}
use Rattle.spec_exchange.specs.Client.{Client, Stage, Apart, RefusedDialog, create_for, may_push, goes_itself}
use Rattle.spec_exchange.specs.Client.{needs_slot, is_free, settle_no_slot}
use Rattle.spec_exchange.specs.ClientStep.{Pick, some_unsettled}
use Rattle.spec_exchange.specs.Network.{World, Conn, Event, Open, Push, Serve, Take, Cut, Drop, Finish, happens, may_serve, may_take_reply}

-- ---- a push: the lowest operation that may go out and is paid for

pub record Choice : Type 0 where
  pub slotless : List ℕ
  pub pick : Option Pick

unfoldable pub least_free : Client → ℕ → ℕ → ℕ → Option ℕ
least_free c create i zero = None
least_free c create i (suc n) = elim (is_free c create i) [ true ↦ Some i | false ↦ least_free c create (i + 1) n ]

-- a request to attach pays 1
abbrev pub cost : Client → ℕ → ℕ
cost c g = if goes_itself c g then charge (weight (c.op g)) else 1

abbrev pub paid : Client → ℕ → ℕ
paid c g = if c.asks_attach g then 1 else charge (weight (c.op g))

-- what the operations from 1 to n have outstanding on a channel
unfoldable pub paid_on : Client → ℕ → ℕ → ℕ
paid_on c k zero = 0
paid_on c k (suc n) = (if is_at k (c.outstanding_on (n + 1)) then paid c (n + 1) else 0) + paid_on c k n

-- the credits that a ready channel's client holds: each request asks for 512, and its reply gives back what it paid
abbrev pub purse : Client → ℕ → ℕ
purse c k = 512 - paid_on c k c.taken

unfoldable pub choose : Client → ℕ → ℕ → List ℕ → ℕ → ℕ → Choice
choose c k credits slotless g zero = record { slotless = slotless; pick = None }
choose c k credits slotless g (suc n) =
    elim (may_push c k g && nat_le (cost c g) credits) [
      | false ↦ choose c k credits slotless (g + 1) n
      | true ↦
          elim (goes_itself c g && needs_slot c g) [
            | false ↦ record { slotless = slotless; pick = Some (record { op = g; slot = 0 }) }
            | true ↦
                elim (least_free c (create_for c g) 1 64) [
                  | Some i ↦ record { slotless = slotless; pick = Some (record { op = g; slot = i }) }
                  | None ↦ choose (settle_no_slot c k g) k credits (slotless ++ g ∷ []) (g + 1) n
                ]
          ]
    ]

abbrev pub push_by : ℕ → Choice → Event
push_by k x = Push k x.slotless x.pick

-- the program's push on a channel
abbrev pub push_lowest : World → ℕ → Event
push_lowest w k = push_by k (choose w.client k (purse w.client k) [] 1 w.client.taken)

-- ---- a schedule and the world that it comes to

pub record Course : Type 0 where
  pub world : World
  pub events : List Event

unfoldable pub went : Course → Event → Course
went c e = record { world = happens c.world e; events = c.events ++ e ∷ [] }

unfoldable pub went_push : Course → ℕ → Course
went_push c k = went c (push_lowest c.world k)

-- ---- link: open, then serve and take in turn until the channel is ready or an end is closed

unfoldable pub both_open : Conn → Bool
both_open c = c.client_open && c.server_open

unfoldable pub is_linking : World → ℕ → Bool
is_linking w k = both_open (w.conns k) && not (w.client.ready k)

unfoldable pub linking : ℕ → Course → ℕ → Course
linking zero c k = c
linking (suc n) c k = elim (is_linking c.world k) [ true ↦ linking n (went (went c (Serve k)) (Take k)) k | false ↦ c ]

-- a dialog has four requests
unfoldable pub link : Course → ℕ → Course
link c k = linking 8 (went c (Open k)) k

-- ---- settle

unfoldable pub serve_all : ℕ → Course → ℕ → Course
serve_all zero c k = c
serve_all (suc n) c k = elim (may_serve c.world k) [ true ↦ serve_all n (went c (Serve k)) k | false ↦ c ]

unfoldable pub take_all : ℕ → Course → ℕ → Course
take_all zero c k = c
take_all (suc n) c k = elim (may_take_reply c.world k) [ true ↦ take_all n (went c (Take k)) k | false ↦ c ]

-- the whole up list, and the whole down list
unfoldable pub served_all : Course → ℕ → Course
served_all c k = serve_all (length (c.world.conns k).up) c k

unfoldable pub taken_all : Course → ℕ → Course
taken_all c k = take_all (length (c.world.conns k).down) c k

unfoldable pub has_more : World → ℕ → Bool
has_more w k = both_open (w.conns k) && (is_filled (w.conns k).up || is_filled (w.conns k).down)

-- serve the whole up list and take the whole down list, and again while both ends are open and a list isn't empty
unfoldable pub drain : ℕ → Course → ℕ → Course
drain zero c k = c
drain (suc n) c k =
    let d = taken_all (served_all c k) k in elim (has_more d.world k) [ true ↦ drain n d k | false ↦ d ]

unfoldable pub is_talking : Stage → Bool
is_talking Apart = false
is_talking _ = true

-- the client's end alone is open, or a dialog that was begun didn't end
unfoldable pub hangs : World → ℕ → Bool
hangs w k = (w.conns k).client_open && (not (w.conns k).server_open || is_talking (w.client.stage k))

unfoldable pub is_orphan : World → ℕ → Bool
is_orphan w k = (w.conns k).server_open && not (w.conns k).client_open

unfoldable pub went_if : Bool → Course → Event → Course
went_if b c e = elim b [ true ↦ went c e | false ↦ c ]

unfoldable pub last_refusal : List RefusedDialog → Option Refusal
last_refusal [] = None
last_refusal (d ∷ []) = Some d.refusal
last_refusal (d ∷ e ∷ ds) = last_refusal (e ∷ ds)

unfoldable pub finished_by : Option Refusal → Course → Course
finished_by None c = c
finished_by (Some refusal) c = went c (Finish refusal)

-- where the dialog of a new session was refused on the way from one course to the other, all is given up
unfoldable pub finished_after : Bool → Course → Course → Course
finished_after is_new c d =
    elim (is_new && not (length c.world.client.refusals == length d.world.client.refusals))
    [ true ↦ finished_by (last_refusal d.world.client.refusals) d | false ↦ d ]

unfoldable pub drain_and_cut : Course → ℕ → Course
drain_and_cut c k = let d = finished_after (is_at k c.world.client.making) c (drain 64 c k) in went_if (hangs d.world k) d (Cut k)

-- for each of the n channels from k upwards
unfoldable pub each : (Course → ℕ → Course) → ℕ → ℕ → Course → Course
each act k zero c = c
each act k (suc n) c = each act (k + 1) n (act c k)

unfoldable pub drop_orphan : Course → ℕ → Course
drop_orphan c k = went_if (is_orphan c.world k) c (Drop k)

-- a channel with one closed end is cut or dropped
unfoldable pub tidy : Course → ℕ → Course
tidy c k = drop_orphan (went_if ((c.world.conns k).client_open && not (c.world.conns k).server_open) c (Cut k)) k

unfoldable pub least : (ℕ → Bool) → ℕ → ℕ → ℕ
least holds k zero = k
least holds k (suc n) = elim (holds k) [ true ↦ k | false ↦ least holds (k + 1) n ]

unfoldable pub is_apart : World → ℕ → Bool
is_apart w k = not (w.conns k).client_open && not (w.conns k).server_open

-- a new session is made where no channel is ready; where its dialog is refused, all is given up
unfoldable pub linked : ℕ → Course → Course
linked n c = elim (c.world.client.channels == 0) [ false ↦ c | true ↦ finished_after true c (link c (least (is_apart c.world) 0 n)) ]

unfoldable pub pushed_round : Course → ℕ → Course
pushed_round c k =
    let d = went_push c k in elim (is_filled (d.world.conns k).up || is_filled (d.world.conns k).down)
    [ true ↦ drain 64 d k | false ↦ went d (Cut k) ]

unfoldable pub ready_round : ℕ → Course → Course
ready_round n c = elim (c.world.client.channels == 0) [ true ↦ c | false ↦ pushed_round c (least c.world.client.ready 0 n) ]

unfoldable pub rounds : ℕ → ℕ → Course → Course
rounds n zero c = c
rounds n (suc fuel) c = elim (some_unsettled c.world.client c.world.client.taken) [
  | false ↦ c
  | true ↦
      rounds n fuel (each tidy 0 n (ready_round n (linked n c)))
]

-- over the channels below n, in at most so many rounds
unfoldable pub settle_below : ℕ → ℕ → Course → Course
settle_below n fuel c = rounds n fuel (each drop_orphan 0 n (each drain_and_cut 0 n c))

-- ---- a script's events: those of the network, and the two that stand for lists of them

pub data Line : Type 0 where
  Does : (event : Event) → Line
  Pushes : (k : ℕ) → Line  -- the program's own push
  Links : (k : ℕ) → Line
  Settles : Line

unfoldable pub go : ℕ → Course → Line → Course
go n c (Does e) = went c e
go n c (Pushes k) = went_push c k
go n c (Links k) = link c k
-- an operation takes a few rounds, and each other one cuts a channel
go n c Settles = settle_below n (8 * (c.world.client.taken + n + 1)) c

-- the course of a script over the channels below n
unfoldable pub course : ℕ → List Line → Course → Course
course n [] c = c
course n (l ∷ ls) c = course n ls (go n c l)
