-- Which events of the world over bytes a script's lines come to (this project's): the program's own choices, as the model of values has
-- them, with the credits that the client's end of a connection holds, and with tampering. No statement on runs takes them as a premise.
use Rattle.std.specs.Prelude.{ℕ, zero, suc, ◌+◌, ◌*◌, ◌==◌, Bool, true, false, not, ◌&&◌, ◌||◌, List, [], ◌∷◌, ◌++◌, length, Option}
use Rattle.std.specs.Prelude.{Some, None, ◌≡◌, map}
use Rattle.spec_exchange.specs.Schedules as values
use Rattle.spec_exchange.specs.Table.{is_at, is_filled}
use Rattle.spec_exchange.specs.Operations.{Refusal}
use Rattle.spec_exchange.specs.ClientStep.{some_unsettled}
use Rattle.spec_exchange.specs.Network.{Event, Open, Serve, Take, Cut, Drop, Finish, may_serve, may_take_reply, start}
use Rattle.spec_exchange.specs.Schedules.{choose, push_by, is_linking, has_more, hangs, is_orphan, is_apart, last_refusal, least}
use Rattle.spec_world.specs.Settings.{WorldSettings, values_of}
use Rattle.spec_world.specs.Notes.{WorldError, event_error, step_error, open_error, unless_open}
use Rattle.spec_world.specs.World.{World}
use Rattle.spec_world.specs.Events.{ByteEvent, Plain, forge, flip, bytes_happen, bytes_start}

-- ---- a push: the lowest operation that may go out and is paid for by what the client's end holds

abbrev pub push_lowest : World → ℕ → Event
push_lowest w k = push_by k (choose w.values.client k (w.wires k).client_end.purse.held [] 1 w.values.client.taken)

-- ---- a course and the world that it comes to

pub record Course : Type 0 where
  pub world : World
  pub events : List ByteEvent

abbrev pub opening : WorldSettings → Course
opening z = record { world = bytes_start z; events = [] }

unfoldable pub went_byte : WorldSettings → Course → ByteEvent → Course
went_byte z c e = record { world = bytes_happen z c.world e; events = c.events ++ e ∷ [] }

abbrev pub went : WorldSettings → Course → Event → Course
went z c e = went_byte z c (Plain e)

unfoldable pub went_push : WorldSettings → Course → ℕ → Course
went_push z c k = went z c (push_lowest c.world k)

-- ---- link: open, then serve and take in turn until the channel is ready or an end is closed

unfoldable pub linking : WorldSettings → ℕ → Course → ℕ → Course
linking z zero c k = c
linking z (suc n) c k =
    elim (is_linking c.world.values k) [ true ↦ linking z n (went z (went z c (Serve k)) (Take k)) k | false ↦ c ]

-- a dialog has four requests
unfoldable pub link : WorldSettings → Course → ℕ → Course
link z c k = linking z 8 (went z c (Open k)) k

-- ---- settle

unfoldable pub serve_all : WorldSettings → ℕ → Course → ℕ → Course
serve_all z zero c k = c
serve_all z (suc n) c k = elim (may_serve c.world.values k) [ true ↦ serve_all z n (went z c (Serve k)) k | false ↦ c ]

unfoldable pub take_all : WorldSettings → ℕ → Course → ℕ → Course
take_all z zero c k = c
take_all z (suc n) c k = elim (may_take_reply c.world.values k) [ true ↦ take_all z n (went z c (Take k)) k | false ↦ c ]

-- the whole up list, and the whole down list
unfoldable pub served_all : WorldSettings → Course → ℕ → Course
served_all z c k = serve_all z (length (c.world.wires k).up) c k

unfoldable pub taken_all : WorldSettings → Course → ℕ → Course
taken_all z c k = take_all z (length (c.world.wires k).down) c k

-- serve the whole up list and take the whole down list, and again while both ends are open and a list isn't empty
unfoldable pub drain : WorldSettings → ℕ → Course → ℕ → Course
drain z zero c k = c
drain z (suc n) c k =
    let d = taken_all z (served_all z c k) k in elim (has_more d.world.values k) [ true ↦ drain z n d k | false ↦ d ]

unfoldable pub went_if : WorldSettings → Bool → Course → Event → Course
went_if z b c e = elim b [ true ↦ went z c e | false ↦ c ]

unfoldable pub finished_by : WorldSettings → Option Refusal → Course → Course
finished_by z None c = c
finished_by z (Some refusal) c = went z c (Finish refusal)

-- where the dialog of a new session was refused on the way from one course to the other, all is given up
unfoldable pub finished_after : WorldSettings → Bool → Course → Course → Course
finished_after z is_new c d =
    elim (is_new && not (length c.world.values.client.refusals == length d.world.values.client.refusals))
    [ true ↦ finished_by z (last_refusal d.world.values.client.refusals) d | false ↦ d ]

unfoldable pub drain_and_cut : WorldSettings → Course → ℕ → Course
drain_and_cut z c k =
    let d = finished_after z (is_at k c.world.values.client.making) c (drain z 64 c k) in went_if z (hangs d.world.values k) d (Cut k)

-- for each of the n channels from k upwards
unfoldable pub each : (Course → ℕ → Course) → ℕ → ℕ → Course → Course
each act k zero c = c
each act k (suc n) c = each act (k + 1) n (act c k)

unfoldable pub drop_orphan : WorldSettings → Course → ℕ → Course
drop_orphan z c k = went_if z (is_orphan c.world.values k) c (Drop k)

-- a channel with one closed end is cut or dropped
unfoldable pub tidy : WorldSettings → Course → ℕ → Course
tidy z c k =
    drop_orphan z
    (went_if z ((c.world.values.conns k).client_open && not (c.world.values.conns k).server_open) c (Cut k)) k

-- a new session is made where no channel is ready; where its dialog is refused, all is given up
unfoldable pub linked : WorldSettings → ℕ → Course → Course
linked z n c =
    elim (c.world.values.client.channels == 0)
    [ false ↦ c | true ↦ finished_after z true c (link z c (least (is_apart c.world.values) 0 n)) ]

unfoldable pub pushed_round : WorldSettings → Course → ℕ → Course
pushed_round z c k =
    let d = went_push z c k in elim (is_filled (d.world.wires k).up || is_filled (d.world.wires k).down)
    [ true ↦ drain z 64 d k | false ↦ went z d (Cut k) ]

unfoldable pub ready_round : WorldSettings → ℕ → Course → Course
ready_round z n c =
    elim (c.world.values.client.channels == 0) [ true ↦ c | false ↦ pushed_round z c (least c.world.values.client.ready 0 n) ]

unfoldable pub rounds : WorldSettings → ℕ → ℕ → Course → Course
rounds z n zero c = c
rounds z n (suc fuel) c = elim (some_unsettled c.world.values.client c.world.values.client.taken) [
  | false ↦ c
  | true ↦
      rounds z n fuel (each (tidy z) 0 n (ready_round z n (linked z n c)))
]

-- over the channels below n, in at most so many rounds
unfoldable pub settle_below : WorldSettings → ℕ → ℕ → Course → Course
settle_below z n fuel c = rounds z n fuel (each (drop_orphan z) 0 n (each (drain_and_cut z) 0 n c))

-- ---- a script's events: those of the network, the two that tamper, and those that stand for the program's choices

pub data Line : Type 0 where
  Does : (event : Event) → Line
  Forges : (k : ℕ) (up : Bool) (bytes : List ℕ) → Line  -- the front is replaced
  Flips : (k : ℕ) (up : Bool) (at : ℕ) (mask : List ℕ) → Line  -- the front's bytes from a place on, by exclusive or
  Pushes : (k : ℕ) → Line  -- the program's own push
  Links : (k : ℕ) → Line
  Settles : Line

unfoldable pub go : WorldSettings → ℕ → Course → Line → Course
go z n c (Does e) = went z c e
go z n c (Forges k up bytes) = went_byte z c (forge k up bytes)
go z n c (Flips k up at mask) = went_byte z c (flip k up at mask)
go z n c (Pushes k) = went_push z c k
go z n c (Links k) = link z c k
-- an operation takes a few rounds, and each other one cuts a channel
go z n c Settles = settle_below z n (8 * (c.world.values.client.taken + n + 1)) c

-- the course of a script over the channels below n
unfoldable pub course : WorldSettings → ℕ → List Line → Course → Course
course z n [] c = c
course z n (l ∷ ls) c = course z n ls (go z n c l)

-- ---- the first line whose event the world doesn't meet, by its place from 0; the schedule ends there

abbrev pub line_error : World → Line → Option WorldError
line_error w (Does e) = event_error w e
line_error w (Forges k up bytes) = step_error w (forge k up bytes)
line_error w (Flips k up at mask) = step_error w (flip k up at mask)
line_error w (Pushes k) = unless_open (w.values.client.ready k) k
line_error w (Links k) = open_error w k
line_error w Settles = None

pub record LineError : Type 0 where
  pub line : ℕ
  pub why : WorldError

abbrev pub error_or : ℕ → Option WorldError → Option LineError → Option LineError
error_or i None later = later
error_or i (Some why) later = Some (record { line = i; why = why })

unfoldable pub first_error : WorldSettings → ℕ → ℕ → List Line → Course → Option LineError
first_error z n i [] c = None
first_error z n i (l ∷ ls) c = error_or i (line_error c.world l) (first_error z n (i + 1) ls (go z n c l))

-- ---- in step: without tampering a script comes to the values that the model of values has

abbrev pub line_of : values.Line → Line
line_of (values.Does e) = Does e
line_of (values.Pushes k) = Pushes k
line_of (values.Links k) = Links k
line_of values.Settles = Settles

abbrev pub values_opening : WorldSettings → values.Course
values_opening z = record { world = start (values_of z); events = [] }

abbrev pub IsCourseInStep : WorldSettings → ℕ → List values.Line → Type 0
IsCourseInStep z n ls =
    (course z n (map line_of ls) (opening z)).world.values ≡ (values.course n ls (values_opening z)).world
