-- Settling cuts a channel only where every operation is settled, and drops what the client let go.
use Rattle.std.proofs.Common.{◌≡◌, ℕ, ◌≤◌, ◌<◌, ◌==◌, Bool, true, false, not, ◌&&◌, ◌||◌, List, [], ◌∷◌, ◌++◌, ◌⊎◌, inl, inr}
use Rattle.std.proofs.Common.{refl, arith, sym, subst, ap, Option, Some, zero, suc}
use Rattle.spec_exchange.specs.Table.{is_filled, is_at}
use Rattle.spec_exchange.specs.Operations.{is_unsettled}
use Rattle.spec_exchange.specs.Client.{Client, Stage, goes_itself, settle_no_slots}
use Rattle.spec_exchange.specs.ClientStep.{Pick, some_unsettled}
use Rattle.spec_exchange.specs.Schedules.{Course, Choice, choose, purse, went, went_if, went_push, drain}
use Rattle.spec_exchange.specs.Schedules.{hangs, is_talking, is_orphan, finished_after, drain_and_cut, each, drop_orphan, tidy}
use Rattle.spec_exchange.specs.Schedules.{both_open, has_more, linked, pushed_round, ready_round, rounds, settle_below, least}
use Rattle.spec_exchange.specs.Network.{World, Push, Cut, Drop, Finish, Conn, Sent, Received, Settings, happens}
use Rattle.law_server.proofs.tables.Logic.{front_of, back_of}
use Rattle.law_sessions.specs.sessions.Dialogs.{Channel, IsClosed, IsReady, IsInDialog, MessageAlone, ReplyAlone, IsLost}
use Rattle.law_answers.proofs.completeness.Equations.{by_test, went_on, went_off, linked_off, ready_on, ready_off, pushed_on, pushed_off}
use Rattle.law_answers.proofs.completeness.Equations.{rounds_on, rounds_off}
use Rattle.law_answers.proofs.completeness.Later.{Later, now, push_later, one_round}
use Rattle.law_answers.proofs.completeness.Choose.{Calm, Chosen, Sending, SettledAll, chooses, full_purse}
use Rattle.law_answers.proofs.completeness.Exchange.{own_push, ask_push, quiet_push}
use Rattle.law_answers.proofs.completeness.Drain.{drains_all}
use Rattle.law_answers.proofs.completeness.Round.{Idle}
use Rattle.law_answers.proofs.completeness.Clean.{Clean, each_of, finished_conns}
use Rattle.law_answers.proofs.completeness.Tidy.{Rested, idle_of, calm_of, least_ready, all_dropped}
use Rattle.law_answers.proofs.completeness.NewSession.{seeks}
use Rattle.law_answers.proofs.completeness.Rounds.{SettledTo, LeastTo, seek, all_settled, one_round_on}
use Rattle.law_answers.proofs.completeness.Settling.{first_steps, all_clean}
use Rattle.law_answers.proofs.completeness.Runs.{OfRun, always, present}
use Rattle.law_outcomes.specs.scripts.Scripts.{is_quiet}
use Rattle.law_outcomes.proofs.scripts.Paired.{Held, absent}
use Rattle.law_outcomes.proofs.scripts.Quiet.{Quietly, of_run, facts_of, goes_on, quiet_event}
use Rattle.law_outcomes.proofs.scripts.Loops.{CarriedOn, drains, finishes, begins, pushes, each_on}

pub carried_on : (z : Settings) → CarriedOn (Quietly z)
carried_on z =
    record {
      event = λ c e plain h. quiet_event z c e (front_of (is_quiet e) _ plain) h;
      finish = λ c refusal is h. quiet_event z c (Finish refusal) refl h;
    }

-- ---- cuts and drops of single channels

-- what waits on a channel with two open ends is more to drain
waits_up : (d : Conn) (x : Sent) → d.client_open ≡ true → d.server_open ≡ true → d.up ≡ x ∷ []
    → (both_open d && (is_filled d.up || is_filled d.down)) ≡ false → ⊥
unfolding both_open is_filled
waits_up d x o s up e = absurd (grind arith)

waits_down : (d : Conn) (y : Received) → d.client_open ≡ true → d.server_open ≡ true → d.down ≡ y ∷ []
    → (both_open d && (is_filled d.up || is_filled d.down)) ≡ false → ⊥
unfolding both_open is_filled
waits_down d y o s down e = absurd (grind arith)

-- a dialog that was begun, of two open ends, has its message or its reply there
dialog_over : (r : Bool) (s : Stage) (d : Conn) → Channel r s d → Held d → (both_open d && (is_filled d.up || is_filled d.down)) ≡ false
    → d.client_open ≡ true → is_talking s ≡ false
unfolding is_talking
dialog_over r s d (IsClosed off apart shut none) h e o = absent d.client_open _ o shut
dialog_over r s d (IsReady on apart stands) h e o = grind arith
dialog_over r s d (IsInDialog off talks stands (MessageAlone x one none token)) h e o = absurd (waits_up d x o (h o) one e)
dialog_over r s d (IsInDialog off talks stands (ReplyAlone y none one token)) h e o = absurd (waits_down d y o (h o) one e)
dialog_over r s d (IsInDialog off talks stands (IsLost gone none empty)) h e o = absent d.server_open _ (h o) gone

none_hangs : (a b t : Bool) → (a ≡ true → b ≡ true) → (a ≡ true → t ≡ false) → (a && (not b || t)) ≡ false
none_hangs true b t h f = let e = h refl in let g = f refl in grind arith
none_hangs false b t h f = refl

never_hangs : (w v : World) (k : ℕ) → v.conns ≡ w.conns → has_more w k ≡ false → Channel (v.client.ready k) (v.client.stage k) (v.conns k)
    → Held (v.conns k) → hangs v k ≡ false
unfolding has_more hangs
never_hangs w v k e more stands h =
    none_hangs (v.conns k).client_open (v.conns k).server_open (is_talking (v.client.stage k)) h
    (dialog_over (v.client.ready k) (v.client.stage k) (v.conns k) stands h
    (subst (λ f. (both_open (f k) && (is_filled (f k).up || is_filled (f k).down)) ≡ false) (sym e) more))

-- no dialog hangs, so none is cut
drains_and_cuts : (z : Settings) (c : Course) (k : ℕ) → Quietly z c → Quietly z (drain_and_cut c k)
unfolding drain_and_cut
drains_and_cuts z c k h =
    let d = drain 64 c k in let n = is_at k c.world.client.making in let e = finished_after n c d in
    let q = finishes (Quietly z) (carried_on z) n c d (drains (Quietly z) (carried_on z) 64 c k h) in
    let off = never_hangs d.world e.world k (finished_conns n c d) (drains_all (OfRun z) (always z) c k (of_run z c h)).done
    ((facts_of z e q).channels k) (q.paired k) in
    subst (Quietly z) (sym (went_off (hangs e.world k) e (Cut k) off)) q

let_go : (w : World) (k : ℕ) → is_orphan w k ≡ true → not (w.conns k).client_open ≡ true
unfolding is_orphan
let_go w k e = back_of (w.conns k).server_open _ e

drops : (z : Settings) (c : Course) (k : ℕ) → Quietly z c → Quietly z (drop_orphan c k)
unfolding drop_orphan
drops z c k h =
    by_test (Quietly z) (is_orphan c.world k) (went_if (is_orphan c.world k) c (Drop k)) (went c (Drop k)) c
    (went_on (is_orphan c.world k) c (Drop k)) (went_off (is_orphan c.world k) c (Drop k))
    (λ e. goes_on z c (Drop k) (let_go c.world k e) h) (λ _. h)

-- no client's end is open alone
none_alone : (a b : Bool) → (a ≡ true → b ≡ true) → (a && not b) ≡ false
none_alone true b h = ap not (h refl)
none_alone false b h = refl

tidies : (z : Settings) (c : Course) (k : ℕ) → Quietly z c → Quietly z (tidy c k)
unfolding tidy
tidies z c k h =
    let b = (c.world.conns k).client_open && not (c.world.conns k).server_open in
    drops z (went_if b c (Cut k)) k
    (subst (Quietly z) (sym (went_off b c (Cut k) (none_alone (c.world.conns k).client_open (c.world.conns k).server_open (h.paired k)))) h)

-- ---- the push of a round

filled_by : (xs ys : List Sent) (x : Sent) (b : Bool) → ys ≡ xs ++ x ∷ [] → (is_filled ys || b) ≡ true
unfolding is_filled
filled_by [] ys x b e = grind arith
filled_by (y ∷ xs) ys x b e = grind arith

-- a push behind which nothing waits leaves nothing unsettled
leaves_settled : (w : World) (k : ℕ) (x : Choice) → w.client.ready k ≡ true → Chosen w.client k x
    → (is_filled ((happens w (Push k x.slotless x.pick)).conns k).up
    || is_filled ((happens w (Push k x.slotless x.pick)).conns k).down) ≡ false
    → (h : ℕ) → 0 < h → h ≤ w.client.taken → is_unsettled ((happens w (Push k x.slotless x.pick)).client.outcome h) ≡ false
leaves_settled w k x on (SettledAll none all) off h low high =
    let q = quiet_push w k x.slotless on in
    subst (λ (p : Option Pick). is_unsettled ((happens w (Push k x.slotless p)).client.outcome h) ≡ false) (sym none)
    (subst (λ (c : Client). is_unsettled (c.outcome h) ≡ false) (sym q.client) (all h low high))
leaves_settled w k x on (Sending p pick may slot lower) off h low high =
    absent _ _ (subst (λ (o : Option Pick). (is_filled ((happens w (Push k x.slotless o)).conns k).up
    || is_filled ((happens w (Push k x.slotless o)).conns k).down) ≡ true) (sym pick) filled) off
  where
    v : World
    v = happens w (Push k x.slotless (Some p))

    filled : (is_filled (v.conns k).up || is_filled (v.conns k).down) ≡ true
    filled =
        elim (goes_itself (settle_no_slots w.client k x.slotless) p.op) as
        (λ b. goes_itself (settle_no_slots w.client k x.slotless) p.op ≡ b
        → (is_filled (v.conns k).up || is_filled (v.conns k).down) ≡ true) [
          | true ↦ λ own. let o = own_push w k p.op p.slot x.slotless on may own (slot own) in
              filled_by (w.conns k).up (v.conns k).up o.0 (is_filled (v.conns k).down) o.1.up
          | false ↦ λ ask. let o = ask_push w k p.op p.slot x.slotless on may ask in
              filled_by (w.conns k).up (v.conns k).up o.0 (is_filled (v.conns k).down) o.1.up
        ] refl

choice_of : (c : Course) (k : ℕ) → Calm c.world.client k → Chosen c.world.client k
    (choose c.world.client k (purse c.world.client k) [] 1 c.world.client.taken)
unfolding settle_no_slots
choice_of c k q =
    let w = c.world in
    chooses w.client.taken w.client w.client k (purse w.client k) [] 1 refl refl (omega arith) (omega arith)
    (full_purse w.client k q.idle) q
    (λ h a b. absurd (omega (arith, a, b)))

idle_push : (z : Settings) (c : Course) (k : ℕ) → Quietly z c → Idle c.world k → Calm c.world.client k
    → (is_filled ((went_push c k).world.conns k).up || is_filled ((went_push c k).world.conns k).down) ≡ false
    → some_unsettled (went_push c k).world.client (went_push c k).world.client.taken ≡ false
unfolding went_push went
idle_push z c k h i q off =
    let v = went_push c k in let l = push_later (OfRun z) (always z) c k (of_run z c h) in
    all_settled v.world.client v.world.client.taken
    (λ g low high. leaves_settled c.world k (choose c.world.client k (purse c.world.client k) [] 1 c.world.client.taken)
    i.ready (choice_of c k q) off g low (subst (λ n. g ≤ n) l.taken high))

pushes_on : (z : Settings) (c : Course) (k : ℕ) → Quietly z c → Idle c.world k → Calm c.world.client k → Quietly z (pushed_round c k)
pushes_on z c k h i q =
    let v = went_push c k in let p = pushes (Quietly z) (carried_on z) c k h in
    by_test (Quietly z) (is_filled (v.world.conns k).up || is_filled (v.world.conns k).down) (pushed_round c k)
    (drain 64 v k) (went v (Cut k)) (pushed_on c k) (pushed_off c k)
    (λ _. drains (Quietly z) (carried_on z) 64 v k p)
    (λ off. goes_on z v (Cut k) (ap not (idle_push z c k h i q off)) p)

readies : (z : Settings) (c : Course) → Quietly z c → ((q : ℕ) → Clean c.world.conns q) → Quietly z (ready_round 256 c)
readies z c h clean =
    let k = least c.world.client.ready 0 256 in let F = facts_of z c h in
    by_test (Quietly z) (c.world.client.channels == 0) (ready_round 256 c) c (pushed_round c k) (ready_on 256 c) (ready_off 256 c) (λ _. h)
    (λ some. let on = least_ready c.world F some in pushes_on z c k h (idle_of c.world k F clean on) (calm_of c.world k F clean on))

-- ---- the rounds

found_clean : (z : Settings) (c : Course) → Quietly z c → Rested c.world → (q : ℕ) → Clean (linked 256 c).world.conns q
found_clean z c h rest =
    elim (c.world.client.channels == 0) as (λ b. c.world.client.channels == 0 ≡ b → (q : ℕ) → Clean (linked 256 c).world.conns q) [
      | true ↦ λ none. (seeks (OfRun z) (always z) (present z) c (of_run z c h) rest none).clean
      | false ↦ λ some. subst (λ (d : Course). (q : ℕ) → Clean d.world.conns q) (sym (linked_off 256 c some)) rest.clean
    ] refl

round_on : (z : Settings) (c : Course) → Quietly z c → Rested c.world → Quietly z (one_round 256 c)
round_on z c h rest =
    let d = linked 256 c in
    each_on (Quietly z) tidy (tidies z) 0 256 (ready_round 256 d)
    (readies z d (begins (Quietly z) (carried_on z) 256 c h) (found_clean z c h rest))

rounds_on_all : (z : Settings) (fuel : ℕ) (c : Course) → Quietly z c → Rested c.world → Quietly z (rounds 256 fuel c)
unfolding rounds
rounds_on_all z zero c h rest = h
rounds_on_all z (suc fuel) c h rest =
    let d = one_round 256 c in
    let again = λ (r : Rested d.world). rounds_on_all z fuel d (round_on z c h rest) r in
    by_test (Quietly z) (some_unsettled c.world.client c.world.client.taken) (rounds 256 (suc fuel) c)
    (rounds 256 fuel d) c (rounds_on 256 fuel c) (rounds_off 256 fuel c)
    (λ some. again (by some (seek c.world.client c.world.client.taken))) (λ _. h)
  where
    by : some_unsettled c.world.client c.world.client.taken ≡ true → SettledTo c.world.client c.world.client.taken
        ⊎ LeastTo c.world.client c.world.client.taken → Rested (one_round 256 c).world
    by some (inl s) = absent (some_unsettled c.world.client c.world.client.taken) _ some (all_settled c.world.client c.world.client.taken s)
    by some (inr m) = (one_round_on (OfRun z) (always z) (present z) c m.op (of_run z c h) rest (record {
      low = m.low;
      high = m.high;
      lower = m.lower;
    })).rested

-- ---- the three parts

pub settles : (z : Settings) (fuel : ℕ) (c : Course) → Quietly z c → Quietly z (settle_below 256 fuel c)
unfolding settle_below
settles z fuel c h =
    let K = OfRun z in let A = always z in
    let first = each_of (Later K c) (λ q e. Clean e.world.conns q) drain_and_cut (first_steps K A c) 0 256 c (now K c (of_run z c h)) in
    let d = each drain_and_cut 0 256 c in
    let t = all_dropped K A d first.keeps.known (all_clean K A c d first) in
    rounds_on_all z fuel (each drop_orphan 0 256 d)
    (each_on (Quietly z) drop_orphan (drops z) 0 256 d (each_on (Quietly z) drain_and_cut (drains_and_cuts z) 0 256 c h)) t.rested
