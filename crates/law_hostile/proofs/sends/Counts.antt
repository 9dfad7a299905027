-- How many operations and epochs the events of a repeat run begin, and what its server's epoch is bounded by.
use Rattle.std.proofs.Common.{◌≡◌, ℕ, ◌+◌, ◌≤◌, ◌<◌, ◌^◌, List, [], ◌∷◌, ◌++◌, arith}
use Rattle.spec_exchange.specs.Network.{Event, Submit, Open, Push, Serve, Take, Cut, Drop, Restart, Crash, Wait, Finish}
use Rattle.spec_world.specs.Settings.{WorldSettings, values_of}
use Rattle.spec_hostile.specs.RepeatRuns.{RepeatWorld, RepeatEvent, Same, Give, repeat_happens, repeat_run, repeat_start}
use Rattle.spec_hostile.specs.HostileNetwork.{IsBounded, own_events, repeated}
use Rattle.law_ties.specs.wire_facts.Steps.{restarts_in, submits_in}
use Rattle.law_hostile.proofs.greeted.Greeting.{AllFine}
use Rattle.law_hostile.proofs.loosely.Over.{Stands}
use Rattle.law_hostile.proofs.ended.Moving.{event_moves}
use Rattle.law_hostile.proofs.ended.Standing.{start_stands, fine_on, start_fine}
use Rattle.law_hostile.proofs.sends.Taking.{limit_behind, limit_at}
use Rattle.law_hostile.proofs.sends.Epochs.{epochs_behind, epochs_at, event_upto, first_epoch}

-- ---- operations

moved : (n s : ℕ) → n + (1 + s) < 2 ^ 64 → (n + 1) + s < 2 ^ 64
moved n s l = omega (arith, l)

event_room : (e : Event) (n : ℕ) (es : List Event) → n + submits_in (e ∷ es) < 2 ^ 64 → limit_behind e n + submits_in es < 2 ^ 64
unfolding submits_in
event_room (Submit g op) n es l = moved n (submits_in es) l
event_room (Open k) n es l = l
event_room (Push k slotless pick) n es l = l
event_room (Serve k) n es l = l
event_room (Take k) n es l = l
event_room (Cut k) n es l = l
event_room (Drop k) n es l = l
event_room Restart n es l = l
event_room (Crash k kept) n es l = l
event_room (Wait m) n es l = l
event_room (Finish refusal) n es l = l

pub room_on : (e : RepeatEvent) (n : ℕ) (es : List RepeatEvent) → n + submits_in (own_events (e ∷ es)) < 2 ^ 64
    → limit_at e n + submits_in (own_events es) < 2 ^ 64
unfolding own_events
room_on (Same e) n es l = event_room e n (own_events es) l
room_on (Give k up place) n es l = l

-- ---- epochs

event_epochs : (e : Event) (n : ℕ) (es : List Event) → epochs_behind e n + restarts_in es ≤ n + restarts_in (e ∷ es)
unfolding restarts_in
event_epochs Restart n es = omega arith
event_epochs (Crash k kept) n es = omega arith
event_epochs (Submit g op) n es = omega arith
event_epochs (Open k) n es = omega arith
event_epochs (Push k slotless pick) n es = omega arith
event_epochs (Serve k) n es = omega arith
event_epochs (Take k) n es = omega arith
event_epochs (Cut k) n es = omega arith
event_epochs (Drop k) n es = omega arith
event_epochs (Wait m) n es = omega arith
event_epochs (Finish refusal) n es = omega arith

epochs_on : (e : RepeatEvent) (n : ℕ) (es : List RepeatEvent)
    → epochs_at e n + restarts_in (own_events es) ≤ n + restarts_in (own_events (e ∷ es))
unfolding own_events
epochs_on (Same e) n es = event_epochs e n (own_events es)
epochs_on (Give k up place) n es = omega arith

no_more : (a b c : ℕ) → a ≤ b → b ≤ c → a ≤ c
no_more a b c l m = omega (arith, l, m)

nothing_more : (a n : ℕ) → a ≤ n → a ≤ n + restarts_in []
unfolding restarts_in
nothing_more a n l = omega (arith, l)

epochs_from : (z : WorldSettings) → z.client.ciphers ≡ [] → (es : List RepeatEvent) (r : RepeatWorld) (n : ℕ) → AllFine z r → Stands r.world.values
    → r.world.values.server.epoch ≤ n → (repeat_run z es r).world.values.server.epoch ≤ n + restarts_in (own_events es)
unfolding repeat_run own_events
epochs_from z c [] r n fine stands l = nothing_more r.world.values.server.epoch n l
epochs_from z c (e ∷ es) r n fine stands l =
    let v = repeat_happens z r e in
    let m = event_moves z r e fine stands in
    no_more (repeat_run z es v).world.values.server.epoch (epochs_at e n + restarts_in (own_events es)) (n + restarts_in (own_events (e ∷ es)))
    (epochs_from z c es v (epochs_at e n) (fine_on z r e c fine) m.stands (event_upto z r e n fine stands l)) (epochs_on e n es)

one_low : (a : ℕ) → a ≡ 1 → a ≤ 1
one_low a e = omega (arith, e)

pub epochs_low : (z : WorldSettings) (es : List RepeatEvent) → z.client.ciphers ≡ []
    → (repeated z es).world.values.server.epoch ≤ 1 + restarts_in (own_events es)
epochs_low z es c =
    epochs_from z c es (repeat_start z) 1 (start_fine z) (start_stands z)
    (one_low (repeat_start z).world.values.server.epoch (first_epoch (values_of z)))

-- a front of the run has no more of them
zero_more : (n : ℕ) → 0 ≤ n
zero_more n = omega arith

with_more : (e : Event) (a b : List Event) → restarts_in a ≤ restarts_in b → restarts_in (e ∷ a) ≤ restarts_in (e ∷ b)
unfolding restarts_in
with_more Restart a b l = omega (arith, l)
with_more (Crash k kept) a b l = omega (arith, l)
with_more (Submit g op) a b l = l
with_more (Open k) a b l = l
with_more (Push k slotless pick) a b l = l
with_more (Serve k) a b l = l
with_more (Take k) a b l = l
with_more (Cut k) a b l = l
with_more (Drop k) a b l = l
with_more (Wait m) a b l = l
with_more (Finish refusal) a b l = l

none_restarts : (es : List Event) → restarts_in [] ≤ restarts_in es
unfolding restarts_in
none_restarts es = zero_more (restarts_in es)

pub front_restarts : (a b : List RepeatEvent) → restarts_in (own_events a) ≤ restarts_in (own_events (a ++ b))
unfolding own_events
front_restarts [] b = none_restarts (own_events b)
front_restarts (Same e ∷ a) b = with_more e (own_events a) (own_events (a ++ b)) (front_restarts a b)
front_restarts (Give k up place ∷ a) b = front_restarts a b

with_more_sent : (e : Event) (a b : List Event) → submits_in a ≤ submits_in b → submits_in (e ∷ a) ≤ submits_in (e ∷ b)
unfolding submits_in
with_more_sent (Submit g op) a b l = omega (arith, l)
with_more_sent (Open k) a b l = l
with_more_sent (Push k slotless pick) a b l = l
with_more_sent (Serve k) a b l = l
with_more_sent (Take k) a b l = l
with_more_sent (Cut k) a b l = l
with_more_sent (Drop k) a b l = l
with_more_sent Restart a b l = l
with_more_sent (Crash k kept) a b l = l
with_more_sent (Wait m) a b l = l
with_more_sent (Finish refusal) a b l = l

none_submits : (es : List Event) → submits_in [] ≤ submits_in es
unfolding submits_in
none_submits es = zero_more (submits_in es)

front_submits : (a b : List RepeatEvent) → submits_in (own_events a) ≤ submits_in (own_events (a ++ b))
unfolding own_events
front_submits [] b = none_submits (own_events b)
front_submits (Same e ∷ a) b = with_more_sent e (own_events a) (own_events (a ++ b)) (front_submits a b)
front_submits (Give k up place ∷ a) b = front_submits a b

fewer_restarts : (a b : ℕ) → a ≤ b → b < 4294967295 → a < 4294967295
fewer_restarts a b l m = omega (arith, l, m)

fewer_submits : (a b : ℕ) → a ≤ b → b < 2 ^ 64 → a < 2 ^ 64
fewer_submits a b l m = omega (arith, l, m)

pub front_bounded : (z : WorldSettings) (a b : List RepeatEvent) → IsBounded z (a ++ b) → IsBounded z a
front_bounded z a b h =
    record {
      fitting = h.fitting;
      restarts = fewer_restarts (restarts_in (own_events a)) (restarts_in (own_events (a ++ b))) (front_restarts a b) h.restarts;
      submits = fewer_submits (submits_in (own_events a)) (submits_in (own_events (a ++ b))) (front_submits a b) h.submits;
    }
