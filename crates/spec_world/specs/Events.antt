-- The events of the world over bytes: those of the network, and one that changes what it carries.
use Rattle.std.specs.Prelude.{ℕ, Bool, false, ◌&&◌, if◌then◌else◌, List, [], ◌∷◌, ◌++◌, take, drop, bit_xor}
use Rattle.spec_exchange.specs.Table.{is_filled}
use Rattle.spec_exchange.specs.Network.{Event, Submit, Open, Push, Serve, Take, Cut, Drop, Restart, Crash, Wait, Finish, is_possible}
use Rattle.spec_exchange.specs.Network.{changed, moments, later, start}
use Rattle.spec_world.specs.Settings.{WorldSettings, values_of}
use Rattle.spec_world.specs.Ends.{no_client_end, first_server_end, no_logons, no_keys}
use Rattle.spec_world.specs.World.{Wires, World, with_values, with_wires, opened_wires, paid, pushed_with, serve_frame, absorb_frame}
use Rattle.spec_world.specs.World.{take_frame, cut_wires, dropped_wires, restarted_wires}

-- ---- what is changed: the front of a list, by any function of its bytes

pub data ByteEvent : Type 0 where
  Plain : (event : Event) → ByteEvent
  Tamper : (k : ℕ) (up : Bool) (change : List ℕ → List ℕ) → ByteEvent

-- the front replaced
abbrev pub forge : ℕ → Bool → List ℕ → ByteEvent
forge k up bytes = Tamper k up (λ front. bytes)

-- the exclusive or of bytes from the front on with a mask; where one of them ends, nothing changes
unfoldable pub masked : List ℕ → List ℕ → List ℕ
masked [] mask = []
masked (b ∷ bs) [] = b ∷ bs
masked (b ∷ bs) (m ∷ ms) = bit_xor b m ∷ masked bs ms

abbrev pub flipped : ℕ → List ℕ → List ℕ → List ℕ
flipped at mask bytes = take at bytes ++ masked (drop at bytes) mask

-- some of its bytes changed from a place on
abbrev pub flip : ℕ → Bool → ℕ → List ℕ → ByteEvent
flip k up at mask = Tamper k up (flipped at mask)

abbrev pub with_front : (List ℕ → List ℕ) → List (List ℕ) → List (List ℕ)
with_front change [] = []
with_front change (b ∷ bs) = change b ∷ bs

abbrev pub tampered : World → ℕ → Bool → (List ℕ → List ℕ) → World
tampered w k up change =
    let u = w.wires k in
    with_wires w k (if up then record u { up = with_front change u.up } else record u { down = with_front change u.down })

-- the end that would take the message is open, and there is one
abbrev pub may_tamper : World → ℕ → Bool → Bool
may_tamper w k up =
    if up then (w.values.conns k).server_open && is_filled (w.wires k).up
    else (w.values.conns k).client_open && is_filled (w.wires k).down

-- ---- what an event does

abbrev pub bytes_changed : WorldSettings → World → Event → World
bytes_changed z w (Open k) = opened_wires z w k
bytes_changed z w (Push k slotless pick) = pushed_with w k slotless (paid w k slotless pick)
bytes_changed z w (Serve k) = serve_frame z w k (w.wires k).up (w.values.conns k).up
bytes_changed z w (Take k) = take_frame z w k (w.wires k).down (w.values.conns k).down
bytes_changed z w (Cut k) = cut_wires w k
bytes_changed z w (Drop k) = dropped_wires w k
bytes_changed z w Restart = restarted_wires w
bytes_changed z w (Crash k kept) = restarted_wires (if kept then absorb_frame z w k (w.wires k).up (w.values.conns k).up else w)
bytes_changed z w (Submit g op) = with_values w (changed w.values (Submit g op))
bytes_changed z w (Wait n) = with_values w (changed w.values (Wait n))
bytes_changed z w (Finish refusal) = with_values w (changed w.values (Finish refusal))

abbrev pub bytes_later : World → ℕ → World
bytes_later w n = with_values w (later w.values n)

-- an event that the world can't meet is none
abbrev pub bytes_happen : WorldSettings → World → ByteEvent → World
bytes_happen z w (Plain e) = if is_possible w.values e then bytes_later (bytes_changed z w e) (moments e) else w
bytes_happen z w (Tamper k up change) = if may_tamper w k up then bytes_later (tampered w k up change) 1 else w

unfoldable pub bytes_run : WorldSettings → List ByteEvent → World → World
bytes_run z [] w = w
bytes_run z (e ∷ es) w = bytes_run z es (bytes_happen z w e)

-- ---- the opening state; the first draw is the client's

abbrev pub no_wires : Wires
no_wires = record { client_end = no_client_end; server_end = first_server_end []; up = []; down = [] }

abbrev pub bytes_start : WorldSettings → World
bytes_start z = record {
  values = start (values_of z);
  wires = λ k. no_wires;
  logons = no_logons;
  keys = no_keys;
  encrypts = false;
  numbers = 0;
  draws = 1;
  made = [];
  accepted = [];
  sealings = [];
}
