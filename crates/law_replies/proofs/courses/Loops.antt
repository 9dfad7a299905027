-- What each event that is no line of a script carries on, the program's own pushes, links and settles carry on too.
use Rattle.std.proofs.Common.{◌≡◌, ℕ, ◌+◌, ◌==◌, Bool, true, false, not, ◌&&◌, ◌||◌, length, refl, Option, Some, None, zero, suc}
use Rattle.spec_exchange.specs.Table.{is_at, is_filled}
use Rattle.spec_exchange.specs.Operations.{Refusal}
use Rattle.spec_exchange.specs.ClientStep.{some_unsettled}
use Rattle.spec_exchange.specs.Schedules.{has_more, is_linking, last_refusal, least, is_apart, is_orphan, hangs}
use Rattle.spec_exchange.specs.Network.{Event, Open, Serve, Take, Cut, Drop, Finish, Submit, Restart, Crash, may_serve, may_take_reply}
use Rattle.law_answers.proofs.completeness.Equations.{by_test}
use Rattle.spec_world.specs.Courses.{Course, went, went_if, went_push, push_lowest, serve_all, take_all, served_all, taken_all, drain}
use Rattle.spec_world.specs.Courses.{linking, link, finished_after, finished_by, drain_and_cut, each, drop_orphan, tidy, linked}
use Rattle.spec_world.specs.Courses.{pushed_round, ready_round, rounds, settle_below}
use Rattle.spec_world.specs.Settings.{WorldSettings}
use Rattle.law_replies.proofs.courses.Equations.{one_round, serve_on, serve_off, take_on, take_off, drain_on, drain_off}
use Rattle.law_replies.proofs.courses.Equations.{linking_on, linking_off}
use Rattle.law_replies.proofs.courses.Equations.{went_on, went_off, finished_on, finished_off, linked_on, linked_off, ready_on, ready_off}
use Rattle.law_replies.proofs.courses.Equations.{pushed_on, pushed_off, rounds_on, rounds_off}

-- none that a script's line alone can be
abbrev pub is_own : Event → Bool
is_own (Submit g op) = false
is_own Restart = false
is_own (Crash k kept) = false
is_own _ = true

abbrev pub CarriesOn : WorldSettings → (Course → Type 0) → Type 0
CarriesOn z P = (c : Course) (e : Event) → is_own e ≡ true → P c → P (went z c e)

serves : (z : WorldSettings) (P : Course → Type 0) → CarriesOn z P → (n : ℕ) (c : Course) (k : ℕ) → P c → P (serve_all z n c k)
unfolding serve_all
serves z P on zero c k h = h
serves z P on (suc n) c k h =
    let again = serves z P on n (went z c (Serve k)) k (on c (Serve k) refl h) in
    by_test P (may_serve c.world.values k) (serve_all z (suc n) c k) (serve_all z n (went z c (Serve k)) k) c (serve_on z n c k)
    (serve_off z n c k) (λ _. again) (λ _. h)

takes : (z : WorldSettings) (P : Course → Type 0) → CarriesOn z P → (n : ℕ) (c : Course) (k : ℕ) → P c → P (take_all z n c k)
unfolding take_all
takes z P on zero c k h = h
takes z P on (suc n) c k h =
    let again = takes z P on n (went z c (Take k)) k (on c (Take k) refl h) in
    by_test P (may_take_reply c.world.values k) (take_all z (suc n) c k) (take_all z n (went z c (Take k)) k) c (take_on z n c k)
    (take_off z n c k) (λ _. again) (λ _. h)

passes : (z : WorldSettings) (P : Course → Type 0) → CarriesOn z P → (c : Course) (k : ℕ) → P c
    → P (taken_all z (served_all z c k) k)
unfolding taken_all served_all
passes z P on c k h = let d = served_all z c k in takes z P on (length (d.world.wires k).down) d k
    (serves z P on (length (c.world.wires k).up) c k h)

drains : (z : WorldSettings) (P : Course → Type 0) → CarriesOn z P → (n : ℕ) (c : Course) (k : ℕ) → P c → P (drain z n c k)
unfolding drain
drains z P on zero c k h = h
drains z P on (suc n) c k h =
    let d = taken_all z (served_all z c k) k in let p = passes z P on c k h in let again = drains z P on n d k p in
    by_test P (has_more d.world.values k) (drain z (suc n) c k) (drain z n d k) d (drain_on z n c k) (drain_off z n c k)
    (λ _. again) (λ _. p)

links_on : (z : WorldSettings) (P : Course → Type 0) → CarriesOn z P → (n : ℕ) (c : Course) (k : ℕ) → P c → P (linking z n c k)
unfolding linking
links_on z P on zero c k h = h
links_on z P on (suc n) c k h =
    let u = went z c (Serve k) in let v = went z u (Take k) in
    let again = links_on z P on n v k (on u (Take k) refl (on c (Serve k) refl h)) in
    by_test P (is_linking c.world.values k) (linking z (suc n) c k) (linking z n v k) c (linking_on z n c k) (linking_off z n c k)
    (λ _. again) (λ _. h)

pub links : (z : WorldSettings) (P : Course → Type 0) → CarriesOn z P → (c : Course) (k : ℕ) → P c → P (link z c k)
unfolding link
links z P on c k h = links_on z P on 8 (went z c (Open k)) k (on c (Open k) refl h)

pub pushes : (z : WorldSettings) (P : Course → Type 0) → CarriesOn z P → (c : Course) (k : ℕ) → P c → P (went_push z c k)
unfolding went_push
pushes z P on c k h = on c (push_lowest c.world k) refl h

finishes_by : (z : WorldSettings) (P : Course → Type 0) → CarriesOn z P → (o : Option Refusal) (c : Course) → P c
    → P (finished_by z o c)
unfolding finished_by
finishes_by z P on None c h = h
finishes_by z P on (Some refusal) c h = on c (Finish refusal) refl h

finishes : (z : WorldSettings) (P : Course → Type 0) → CarriesOn z P → (n : Bool) (c d : Course) → P d → P (finished_after z n c d)
finishes z P on n c d h =
    by_test P (n && not (length c.world.values.client.refusals == length d.world.values.client.refusals)) (finished_after z n c d)
    (finished_by z (last_refusal d.world.values.client.refusals) d) d (finished_on z n c d) (finished_off z n c d)
    (λ _. finishes_by z P on (last_refusal d.world.values.client.refusals) d h) (λ _. h)

goes_if : (z : WorldSettings) (P : Course → Type 0) → CarriesOn z P → (b : Bool) (c : Course) (e : Event) → is_own e ≡ true → P c
    → P (went_if z b c e)
goes_if z P on b c e own h =
    by_test P b (went_if z b c e) (went z c e) c (went_on z b c e) (went_off z b c e) (λ _. on c e own h) (λ _. h)

drains_and_cuts : (z : WorldSettings) (P : Course → Type 0) → CarriesOn z P → (c : Course) (k : ℕ) → P c → P (drain_and_cut z c k)
unfolding drain_and_cut
drains_and_cuts z P on c k h =
    let d = drain z 64 c k in let n = is_at k c.world.values.client.making in let e = finished_after z n c d in
    goes_if z P on (hangs e.world.values k) e (Cut k) refl (finishes z P on n c d (drains z P on 64 c k h))

drops : (z : WorldSettings) (P : Course → Type 0) → CarriesOn z P → (c : Course) (k : ℕ) → P c → P (drop_orphan z c k)
unfolding drop_orphan
drops z P on c k h = goes_if z P on (is_orphan c.world.values k) c (Drop k) refl h

tidies : (z : WorldSettings) (P : Course → Type 0) → CarriesOn z P → (c : Course) (k : ℕ) → P c → P (tidy z c k)
unfolding tidy
tidies z P on c k h =
    let b = (c.world.values.conns k).client_open && not (c.world.values.conns k).server_open in
    drops z P on (went_if z b c (Cut k)) k (goes_if z P on b c (Cut k) refl h)

begins : (z : WorldSettings) (P : Course → Type 0) → CarriesOn z P → (n : ℕ) (c : Course) → P c → P (linked z n c)
begins z P on n c h =
    let k = least (is_apart c.world.values) 0 n in
    by_test P (c.world.values.client.channels == 0) (linked z n c) (finished_after z true c (link z c k)) c (linked_on z n c)
    (linked_off z n c) (λ _. finishes z P on true c (link z c k) (links z P on c k h)) (λ _. h)

pushes_on : (z : WorldSettings) (P : Course → Type 0) → CarriesOn z P → (c : Course) (k : ℕ) → P c → P (pushed_round z c k)
pushes_on z P on c k h =
    let v = went_push z c k in let p = pushes z P on c k h in
    by_test P (is_filled (v.world.wires k).up || is_filled (v.world.wires k).down) (pushed_round z c k) (drain z 64 v k)
    (went z v (Cut k)) (pushed_on z c k) (pushed_off z c k) (λ _. drains z P on 64 v k p) (λ _. on v (Cut k) refl p)

readies : (z : WorldSettings) (P : Course → Type 0) → CarriesOn z P → (n : ℕ) (c : Course) → P c → P (ready_round z n c)
readies z P on n c h =
    let k = least c.world.values.client.ready 0 n in
    by_test P (c.world.values.client.channels == 0) (ready_round z n c) c (pushed_round z c k) (ready_on z n c) (ready_off z n c)
    (λ _. h) (λ _. pushes_on z P on c k h)

-- each of the channels in turn
each_on : (P : Course → Type 0) (act : Course → ℕ → Course) → ((c : Course) (k : ℕ) → P c → P (act c k))
    → (k n : ℕ) (c : Course) → P c → P (each act k n c)
unfolding each
each_on P act s k zero c h = h
each_on P act s k (suc n) c h = each_on P act s (k + 1) n (act c k) (s c k h)

round_on : (z : WorldSettings) (P : Course → Type 0) → CarriesOn z P → (n : ℕ) (c : Course) → P c → P (one_round z n c)
round_on z P on n c h =
    let d = linked z n c in
    each_on P (tidy z) (tidies z P on) 0 n (ready_round z n d) (readies z P on n d (begins z P on n c h))

rounds_go : (z : WorldSettings) (P : Course → Type 0) → CarriesOn z P → (n fuel : ℕ) (c : Course) → P c → P (rounds z n fuel c)
unfolding rounds
rounds_go z P on n zero c h = h
rounds_go z P on n (suc fuel) c h =
    let d = one_round z n c in let again = rounds_go z P on n fuel d (round_on z P on n c h) in
    by_test P (some_unsettled c.world.values.client c.world.values.client.taken) (rounds z n (suc fuel) c) (rounds z n fuel d) c
    (rounds_on z n fuel c) (rounds_off z n fuel c) (λ _. again) (λ _. h)

pub settles : (z : WorldSettings) (P : Course → Type 0) → CarriesOn z P → (n fuel : ℕ) (c : Course) → P c
    → P (settle_below z n fuel c)
unfolding settle_below
settles z P on n fuel c h =
    let d = each (drain_and_cut z) 0 n c in
    rounds_go z P on n fuel (each (drop_orphan z) 0 n d)
    (each_on P (drop_orphan z) (drops z P on) 0 n d (each_on P (drain_and_cut z) (drains_and_cuts z P on) 0 n c h))
