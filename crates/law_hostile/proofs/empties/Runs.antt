-- Each event of a repeat run collects what it put.
use Rattle.std.proofs.Common.{◌≡◌, ℕ, ◌==◌, Bool, true, false, List, [], ◌∷◌, refl, Option, Some, None, slice_get}
use Rattle.law_server.proofs.tables.Logic.{either}
use Rattle.spec_exchange.specs.Network.{Conn, Event, Serve, Take}
use Rattle.spec_world.specs.Settings.{WorldSettings}
use Rattle.spec_world.specs.World.{World, Wires}
use Rattle.spec_world.specs.Events.{Plain, bytes_happen, bytes_start}
use Rattle.spec_hostile.specs.RepeatRuns.{RepeatWorld, RepeatEvent, Same, Give, UpFrame, DownFrame, sents, receiveds, up_frames, down_frames}
use Rattle.spec_hostile.specs.RepeatRuns.{lists_as, is_heard, is_served, uses_no_list, own_connection, same_done, loaded_up, loaded_down}
use Rattle.spec_hostile.specs.RepeatRuns.{given_up, given_down, give_up, give_down, repeat_happens, repeat_run, repeat_start}
use Rattle.law_hostile.specs.empties.Empties.{HasEmptyLists, ListsAreEmpty}
use Rattle.law_hostile.proofs.empties.Calm.{Calm, wires_put, conns_put, then_calm, same_calm, serves_calm, takes_calm}

lists_calm : (w : World) (k : ℕ) (us : List UpFrame) (ds : List DownFrame) (heard : Bool) → Calm k w (lists_as w k us ds heard)
lists_calm w k us ds heard = (wires_put k w.wires _, conns_put k w.values.conns _)

-- the lists of this connection are collected, and those of the others were empty
emptied : (w v : World) (k : ℕ) (heard : Bool) → HasEmptyLists w → Calm k w v → HasEmptyLists (lists_as v k [] [] heard)
unfolding sents receiveds up_frames down_frames
emptied w v k heard i h =
    let u : Wires = record (v.wires k) { up = up_frames []; down = down_frames [] } in
    let c : Conn = record (v.values.conns k) { client_open = heard; up = sents []; down = receiveds [] } in
    record {
      up = λ j. either (λ (x : Wires). x.up ≡ []) (j == k) u (v.wires j) (λ _. refl) (λ off. (h.0 j off).0 (i.up j));
      down = λ j. either (λ (x : Wires). x.down ≡ []) (j == k) u (v.wires j) (λ _. refl) (λ off. (h.0 j off).1 (i.down j));
      sent = λ j. either (λ (x : Conn). x.up ≡ []) (j == k) c (v.values.conns j) (λ _. refl) (λ off. (h.1 j off).0 (i.sent j));
      received = λ j. either (λ (x : Conn). x.down ≡ []) (j == k) c (v.values.conns j) (λ _. refl) (λ off. (h.1 j off).1 (i.received j));
    }

-- ---- one event

same_empties : (z : WorldSettings) (r : RepeatWorld) (e : Event) → uses_no_list e ≡ true → HasEmptyLists r.world
    → HasEmptyLists (same_done z r e).world
same_empties z r e s i =
    let w = bytes_happen z r.world (Plain e) in
    emptied r.world w (own_connection e) (is_heard w (own_connection e)) i (same_calm z r.world e s)

up_empties : (z : WorldSettings) (r : RepeatWorld) (k : ℕ) (u : UpFrame) → HasEmptyLists r.world → HasEmptyLists (given_up z r k u).world
up_empties z r k u i =
    let v = loaded_up r k u in
    let w = bytes_happen z v (Plain (Serve k)) in
    emptied r.world w k (is_heard r.world k) i
    (then_calm k r.world v w (lists_calm r.world k (u ∷ []) [] true) (serves_calm z v k))

down_empties : (z : WorldSettings) (r : RepeatWorld) (k : ℕ) (d : DownFrame) → HasEmptyLists r.world
    → HasEmptyLists (given_down z r k d).world
down_empties z r k d i =
    let v = loaded_down r k d in
    let w = bytes_happen z v (Plain (Take k)) in
    emptied r.world w k (is_heard w k) i
    (then_calm k r.world v w (lists_calm r.world k [] (d ∷ []) true) (takes_calm z v k))

give_up_empties : (z : WorldSettings) (r : RepeatWorld) (k : ℕ) (o : Option UpFrame) → HasEmptyLists r.world
    → HasEmptyLists (give_up z r k o).world
give_up_empties z r k None i = i
give_up_empties z r k (Some u) i =
    either (λ (v : RepeatWorld). HasEmptyLists v.world) (is_served r.world k) (given_up z r k u) r (λ _. up_empties z r k u i) (λ _. i)

give_down_empties : (z : WorldSettings) (r : RepeatWorld) (k : ℕ) (o : Option DownFrame) → HasEmptyLists r.world
    → HasEmptyLists (give_down z r k o).world
give_down_empties z r k None i = i
give_down_empties z r k (Some d) i =
    either (λ (v : RepeatWorld). HasEmptyLists v.world) (is_heard r.world k) (given_down z r k d) r (λ _. down_empties z r k d i) (λ _. i)

pub event_empties : (z : WorldSettings) (r : RepeatWorld) (e : RepeatEvent) → HasEmptyLists r.world
    → HasEmptyLists (repeat_happens z r e).world
event_empties z r (Same e) i =
    either (λ (v : RepeatWorld). HasEmptyLists v.world) (uses_no_list e) (same_done z r e) r (λ s. same_empties z r e s i) (λ _. i)
event_empties z r (Give k true place) i = give_up_empties z r k (slice_get r.ups place) i
event_empties z r (Give k false place) i = give_down_empties z r k (slice_get r.downs place) i

-- ---- a run

run_empties : (z : WorldSettings) (es : List RepeatEvent) (r : RepeatWorld) → HasEmptyLists r.world → HasEmptyLists (repeat_run z es r).world
unfolding repeat_run
run_empties z [] r i = i
run_empties z (e ∷ es) r i = run_empties z es (repeat_happens z r e) (event_empties z r e i)

pub start_empties : (z : WorldSettings) → HasEmptyLists (bytes_start z)
start_empties z = record { up = λ k. refl; down = λ k. refl; sent = λ k. refl; received = λ k. refl }

pub lists_are_empty : ListsAreEmpty
lists_are_empty z es = run_empties z es (repeat_start z) (start_empties z)
