-- A network that hands any request that was ever put up to any server's end, and any reply that was ever put down to any client's
-- end, in any order, any number of times or never. The ends are those of the world over bytes, and take each step there: between two
-- events its lists are empty, and all that an end put on them stands here, in one list for each direction, in the order in which it
-- was put, counted from 0.
use Rattle.std.specs.Prelude.{ℕ, ◌+◌, Bool, true, false, ◌&&◌, if◌then◌else◌, List, [], ◌∷◌, ◌++◌, Option, Some, None, slice_get}
use Rattle.spec_exchange.specs.Table.{put}
use Rattle.spec_exchange.specs.Network.{Event, Submit, Open, Push, Cut, Drop, Restart, Serve, Take, Crash, Wait, Finish, Sent}
use Rattle.spec_exchange.specs.Network.{Received, is_possible}
use Rattle.spec_world.specs.Settings.{WorldSettings}
use Rattle.spec_world.specs.World.{World}
use Rattle.spec_world.specs.Events.{Plain, bytes_happen, bytes_start}

-- ---- what was put up or down: its bytes, and what they were made for, at which no step looks

pub record UpFrame : Type 0 where
  pub frame : List ℕ
  pub sent : Sent
  pub connection : ℕ  -- on which it was put
  pub opening : ℕ  -- how often that was opened until then

pub record DownFrame : Type 0 where
  pub frame : List ℕ
  pub received : Received

pub record RepeatWorld : Type 0 where
  pub world : World
  pub ups : List UpFrame
  pub downs : List DownFrame
  pub openings : ℕ → ℕ  -- by connection: how often it was opened

pub data RepeatEvent : Type 0 where
  Same : (event : Event) → RepeatEvent  -- Submit, Open, Push, Cut, Drop or Restart; another one is none
  Give : (k : ℕ) (up : Bool) (place : ℕ) → RepeatEvent  -- what stands at this place, to this end of connection k

-- the events that use no list
abbrev pub uses_no_list : Event → Bool
uses_no_list (Submit g op) = true
uses_no_list (Open k) = true
uses_no_list (Push k slotless pick) = true
uses_no_list (Serve k) = false
uses_no_list (Take k) = false
uses_no_list (Cut k) = true
uses_no_list (Drop k) = true
uses_no_list Restart = true
uses_no_list (Crash k kept) = false
uses_no_list (Wait n) = false
uses_no_list (Finish refusal) = false

-- ---- a list of the world as what was put, and back

unfoldable pub puts_up : ℕ → ℕ → List (List ℕ) → List Sent → List UpFrame
puts_up k n [] xs = []
puts_up k n (b ∷ bs) [] = []
puts_up k n (b ∷ bs) (x ∷ xs) = record { frame = b; sent = x; connection = k; opening = n } ∷ puts_up k n bs xs

unfoldable pub puts_down : List (List ℕ) → List Received → List DownFrame
puts_down [] ys = []
puts_down (b ∷ bs) [] = []
puts_down (b ∷ bs) (y ∷ ys) = record { frame = b; received = y } ∷ puts_down bs ys

unfoldable pub sents : List UpFrame → List Sent
sents [] = []
sents (u ∷ us) = u.sent ∷ sents us

unfoldable pub up_frames : List UpFrame → List (List ℕ)
up_frames [] = []
up_frames (u ∷ us) = u.frame ∷ up_frames us

unfoldable pub receiveds : List DownFrame → List Received
receiveds [] = []
receiveds (d ∷ ds) = d.received ∷ receiveds ds

unfoldable pub down_frames : List DownFrame → List (List ℕ)
down_frames [] = []
down_frames (d ∷ ds) = d.frame ∷ down_frames ds

-- the world with these lists on a connection, and whether its client's end is open
abbrev pub lists_as : World → ℕ → List UpFrame → List DownFrame → Bool → World
lists_as w k us ds heard = record w {
  values = record w.values {
    conns = put w.values.conns k (record (w.values.conns k) {
      client_open = heard;
      up = sents us;
      down = receiveds ds;
    });
  };
  wires = put w.wires k (record (w.wires k) { up = up_frames us; down = down_frames ds });
}

abbrev pub is_heard : World → ℕ → Bool
is_heard w k = (w.values.conns k).client_open

abbrev pub is_served : World → ℕ → Bool
is_served w k = (w.values.conns k).server_open

abbrev pub new_ups : World → ℕ → ℕ → List UpFrame
new_ups w k n = puts_up k n (w.wires k).up (w.values.conns k).up

abbrev pub new_downs : World → ℕ → List DownFrame
new_downs w k = puts_down (w.wires k).down (w.values.conns k).down

-- what an end put on the lists of a connection goes behind all that was put before
abbrev pub collected : RepeatWorld → ℕ → World → Bool → RepeatWorld
collected r k w heard = record r {
  world = lists_as w k [] [] heard;
  ups = r.ups ++ new_ups w k (r.openings k);
  downs = r.downs ++ new_downs w k;
}

-- ---- an event that uses no list: what it puts stands on the lists of its own connection

abbrev pub own_connection : Event → ℕ
own_connection (Open k) = k
own_connection (Push k slotless pick) = k
own_connection (Cut k) = k
own_connection (Drop k) = k
own_connection _ = 0

abbrev pub is_opening : Event → Bool
is_opening (Open k) = true
is_opening _ = false

abbrev pub with_opening : RepeatWorld → Event → RepeatWorld
with_opening r e =
    let k = own_connection e in
    if is_opening e && is_possible r.world.values e then record r { openings = put r.openings k (r.openings k + 1) } else r

abbrev pub same_done : WorldSettings → RepeatWorld → Event → RepeatWorld
same_done z r e =
    let w = bytes_happen z r.world (Plain e) in
    collected (with_opening r e) (own_connection e) w (is_heard w (own_connection e))

-- ---- Give: the message at this place alone is on its way, and is served or taken

-- a reply is put whether or not the client's end is open
abbrev pub loaded_up : RepeatWorld → ℕ → UpFrame → World
loaded_up r k u = lists_as r.world k (u ∷ []) [] true

abbrev pub given_up : WorldSettings → RepeatWorld → ℕ → UpFrame → RepeatWorld
given_up z r k u = collected r k (bytes_happen z (loaded_up r k u) (Plain (Serve k))) (is_heard r.world k)

abbrev pub loaded_down : RepeatWorld → ℕ → DownFrame → World
loaded_down r k d = lists_as r.world k [] (d ∷ []) true

abbrev pub given_down : WorldSettings → RepeatWorld → ℕ → DownFrame → RepeatWorld
given_down z r k d =
    let w = bytes_happen z (loaded_down r k d) (Plain (Take k)) in
    collected r k w (is_heard w k)

-- the end that it is given to is open
abbrev pub give_up : WorldSettings → RepeatWorld → ℕ → Option UpFrame → RepeatWorld
give_up z r k None = r
give_up z r k (Some u) = if is_served r.world k then given_up z r k u else r

abbrev pub give_down : WorldSettings → RepeatWorld → ℕ → Option DownFrame → RepeatWorld
give_down z r k None = r
give_down z r k (Some d) = if is_heard r.world k then given_down z r k d else r

-- an event that the world can't meet is none
abbrev pub repeat_happens : WorldSettings → RepeatWorld → RepeatEvent → RepeatWorld
repeat_happens z r (Same e) = if uses_no_list e then same_done z r e else r
repeat_happens z r (Give k true place) = give_up z r k (slice_get r.ups place)
repeat_happens z r (Give k false place) = give_down z r k (slice_get r.downs place)

unfoldable pub repeat_run : WorldSettings → List RepeatEvent → RepeatWorld → RepeatWorld
repeat_run z [] r = r
repeat_run z (e ∷ es) r = repeat_run z es (repeat_happens z r e)

abbrev pub repeat_start : WorldSettings → RepeatWorld
repeat_start z = record { world = bytes_start z; ups = []; downs = []; openings = λ k. 0 }
