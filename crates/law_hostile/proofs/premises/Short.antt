-- A run has no more restarts and operations than events.
use Rattle.std.proofs.Common.{ℕ, ◌+◌, ◌≤◌, ◌<◌, ◌^◌, List, [], ◌∷◌, length, arith}
use Rattle.spec_exchange.specs.Network.{Event, Submit, Open, Push, Serve, Take, Cut, Drop, Restart, Crash, Wait, Finish}
use Rattle.law_ties.specs.wire_facts.Steps.{restarts_in, submits_in}
use Rattle.spec_hostile.specs.RepeatRuns.{RepeatEvent, Same, Give}
use Rattle.spec_hostile.specs.HostileNetwork.{own_events}
use Rattle.law_hostile.specs.premises.Premises.{ShortRunsAreBounded}

one_restart : (e : Event) (es : List Event) → restarts_in (e ∷ es) ≤ 1 + restarts_in es
unfolding restarts_in
one_restart (Submit g op) es = omega arith
one_restart (Open k) es = omega arith
one_restart (Push k slotless pick) es = omega arith
one_restart (Serve k) es = omega arith
one_restart (Take k) es = omega arith
one_restart (Cut k) es = omega arith
one_restart (Drop k) es = omega arith
one_restart Restart es = omega arith
one_restart (Crash k kept) es = omega arith
one_restart (Wait n) es = omega arith
one_restart (Finish refusal) es = omega arith

one_submit : (e : Event) (es : List Event) → submits_in (e ∷ es) ≤ 1 + submits_in es
unfolding submits_in
one_submit (Submit g op) es = omega arith
one_submit (Open k) es = omega arith
one_submit (Push k slotless pick) es = omega arith
one_submit (Serve k) es = omega arith
one_submit (Take k) es = omega arith
one_submit (Cut k) es = omega arith
one_submit (Drop k) es = omega arith
one_submit Restart es = omega arith
one_submit (Crash k kept) es = omega arith
one_submit (Wait n) es = omega arith
one_submit (Finish refusal) es = omega arith

none_few : (es : List RepeatEvent) → 0 ≤ length es
none_few es = omega arith

one_more : (a b : ℕ) (e : RepeatEvent) (es : List RepeatEvent) → a ≤ 1 + b → b ≤ length es → a ≤ length (e ∷ es)
one_more a b e es l m = omega (arith, l, m)

no_more : (a : ℕ) (e : RepeatEvent) (es : List RepeatEvent) → a ≤ length es → a ≤ length (e ∷ es)
no_more a e es l = omega (arith, l)

restarts_few : (es : List RepeatEvent) → restarts_in (own_events es) ≤ length es
unfolding own_events restarts_in
restarts_few [] = none_few []
restarts_few (Same e ∷ es) =
    one_more (restarts_in (e ∷ own_events es)) (restarts_in (own_events es)) (Same e) es (one_restart e (own_events es)) (restarts_few es)
restarts_few (Give k up place ∷ es) = no_more (restarts_in (own_events es)) (Give k up place) es (restarts_few es)

submits_few : (es : List RepeatEvent) → submits_in (own_events es) ≤ length es
unfolding own_events submits_in
submits_few [] = none_few []
submits_few (Same e ∷ es) =
    one_more (submits_in (e ∷ own_events es)) (submits_in (own_events es)) (Same e) es (one_submit e (own_events es)) (submits_few es)
submits_few (Give k up place ∷ es) = no_more (submits_in (own_events es)) (Give k up place) es (submits_few es)

below : (a b c : ℕ) → a ≤ b → b < c → a < c
below a b c l m = omega (arith, l, m)

far_below : (a b : ℕ) → a ≤ b → b < 4294967295 → a < 2 ^ 64
far_below a b l m = omega (arith, l, m)

pub short_runs : ShortRunsAreBounded
short_runs z es fits few =
    record {
      fitting = fits;
      restarts = below (restarts_in (own_events es)) (length es) 4294967295 (restarts_few es) few;
      submits = far_below (submits_in (own_events es)) (length es) (submits_few es) few;
    }
