-- Each event, and each run.
use Rattle.std.proofs.Common.{◌≡◌, ℕ, Bool, true, false, ◌&&◌, if◌then◌else◌, List, [], ◌∷◌, refl, ◌∙◌}
use Rattle.std.proofs.Common.{Option, Some, None, inl}
use Rattle.spec_exchange.specs.Table.{is_filled}
use Rattle.spec_exchange.specs.Operations.{Op, NoSession}
use Rattle.spec_exchange.specs.Client.{Client, Apart, AskedTree, may_take, take_op, finish}
use Rattle.spec_exchange.specs.ClientStep.{Pushes, act, client_after}
use Rattle.spec_exchange.specs.Network.{Event, Submit, Open, Push, Serve, Take, Cut, Drop, Restart, Crash, Wait, Finish, Sent, Received}
use Rattle.spec_exchange.specs.Network.{with_client, is_possible, moments}
use Rattle.spec_world.specs.Settings.{WorldSettings}
use Rattle.spec_world.specs.Ends.{ConnEnd}
use Rattle.spec_world.specs.Connection.{ConnectionStep}
use Rattle.spec_world.specs.World.{World, with_values, paid, served_on, served_mutely, served_by, step_at, serve_frame, absorb_frame}
use Rattle.spec_world.specs.World.{dropped_wires, behind_frame, take_frame, hears, restarted_wires}
use Rattle.spec_world.specs.Events.{ByteEvent, Plain, Tamper, tampered, may_tamper, bytes_changed, bytes_later, bytes_happen, bytes_run}
use Rattle.spec_world.specs.Events.{bytes_start}
use Rattle.spec_world.specs.Statements.{ChannelsAreNumbered, ChannelNumbersRise}
use Rattle.law_ties.specs.channel_numbers.Counted.{Counted, AcceptedIsAlwaysKept}
use Rattle.law_ties.proofs.channel_numbers.Moves.{no_keys_at, AreKept, Unmoved, Next, unmoved, unmoved_then, then_next, rises_still}
use Rattle.law_ties.proofs.channel_numbers.Quiet.{Same, same, client_unmoved, later_unmoved, push_same, pushed_unmoved}
use Rattle.law_ties.proofs.channel_numbers.Quiet.{served_unmoved, mutely_unmoved}
use Rattle.law_ties.proofs.channel_numbers.Quiet.{dropped_unmoved, restarted_unmoved, behind_unmoved, tampered_unmoved}
use Rattle.law_ties.proofs.channel_numbers.Dialogs.{cut_next, hears_next, opened_next}

nothing : (w : World) → Counted w → Next w w
nothing w i = record { counted = i; rises = rises_still w w i (λ k e. e) refl; kept = λ old. old }

-- ---- the client alone

submit_same : (c : Client) (g : ℕ) (op : Op) (b : Bool) → Same c (if b then take_op c g op else c)
submit_same c g op true = record { live = refl; making = refl; ready = refl; stage = refl }
submit_same c g op false = same c

-- ---- Serve and Crash

served_next : (w : World) (k : ℕ) (bs : List (List ℕ)) (x : Sent) (xs : List Sent) (S : ConnectionStep) (o : Option ConnEnd) → Counted w
    → Next w (served_by w k bs xs x.token S o)
served_next w k bs x xs S None i = unmoved w (served_on w k bs xs x.token S) (served_unmoved w k bs xs x.token S) i
served_next w k bs x xs S (Some why) i =
    let m = served_mutely w k bs xs x.token S in
    unmoved_then w m (dropped_wires m k) (dropped_unmoved m k) (unmoved w m (mutely_unmoved w k bs xs x.token S) i)

serve_next : (z : WorldSettings) (w : World) (k : ℕ) (bs : List (List ℕ)) (xs : List Sent) → Counted w → Next w (serve_frame z w k bs xs)
serve_next z w k [] xs i = nothing w i
serve_next z w k (b ∷ bs) [] i = nothing w i
serve_next z w k (b ∷ bs) (x ∷ xs) i = served_next w k bs x xs (step_at z w k b) (step_at z w k b).ends i

absorb_next : (z : WorldSettings) (w : World) (k : ℕ) (bs : List (List ℕ)) (xs : List Sent) → Counted w → Next w (absorb_frame z w k bs xs)
absorb_next z w k [] xs i = nothing w i
absorb_next z w k (b ∷ bs) [] i = nothing w i
absorb_next z w k (b ∷ bs) (x ∷ xs) i =
    unmoved w (served_mutely w k bs xs x.token (step_at z w k b)) (mutely_unmoved w k bs xs x.token (step_at z w k b)) i

-- ---- Take

take_next : (z : WorldSettings) (w : World) (k : ℕ) (bs : List (List ℕ)) (ys : List Received) → (w.values.conns k).client_open ≡ true
    → Counted w → Next w (take_frame z w k bs ys)
take_next z w k [] ys co i = nothing w i
take_next z w k (b ∷ bs) [] co i = nothing w i
take_next z w k (b ∷ bs) (y ∷ ys) co i =
    let v = behind_frame w k bs ys in
    let u = behind_unmoved w k bs ys in
    let n = unmoved w v u i in
    let at = u.end_stage k in
    let so = u.is_open k in
    then_next w v (hears z v k b y.place (w.wires k).client_end.stage) u
    (hears_next z v k b y.place (w.wires k).client_end.stage at (so ∙ co) n.counted)

-- ---- each event

first_of : (a b : Bool) → (a && b) ≡ true → a ≡ true
first_of true b e = refl
first_of false b e = e

changed_next : (z : WorldSettings) (w : World) (e : Event) → is_possible w.values e ≡ true → Counted w → Next w (bytes_changed z w e)
changed_next z w (Submit g op) can i =
    let d = if may_take w.values.client g op then take_op w.values.client g op else w.values.client in
    unmoved w (with_values w (with_client w.values d))
    (client_unmoved w d (submit_same w.values.client g op (may_take w.values.client g op))) i
changed_next z w (Open k) can i = opened_next z w k can i
changed_next z w (Push k slotless pick) can i =
    let p = paid w k slotless pick in
    let d = client_after w.values.client (Pushes k slotless p) in
    unmoved w (bytes_changed z w (Push k slotless pick))
    (pushed_unmoved w k d (act w.values.client (Pushes k slotless p)) (push_same w.values.client k slotless p)) i
changed_next z w (Serve k) can i = serve_next z w k (w.wires k).up (w.values.conns k).up i
changed_next z w (Take k) can i =
    take_next z w k (w.wires k).down (w.values.conns k).down
    (first_of (w.values.conns k).client_open (is_filled (w.values.conns k).down) can) i
changed_next z w (Cut k) can i = cut_next w k i
changed_next z w (Drop k) can i = unmoved w (dropped_wires w k) (dropped_unmoved w k) i
changed_next z w Restart can i = unmoved w (restarted_wires w) (restarted_unmoved w) i
changed_next z w (Crash k true) can i =
    let v = absorb_frame z w k (w.wires k).up (w.values.conns k).up in
    unmoved_then w v (restarted_wires v) (restarted_unmoved v) (absorb_next z w k (w.wires k).up (w.values.conns k).up i)
changed_next z w (Crash k false) can i = unmoved w (restarted_wires w) (restarted_unmoved w) i
changed_next z w (Wait n) can i = unmoved w (bytes_changed z w (Wait n)) (client_unmoved w w.values.client (same w.values.client)) i
changed_next z w (Finish refusal) can i =
    unmoved w (bytes_changed z w (Finish refusal))
    (client_unmoved w (finish w.values.client (NoSession refusal)) (record { live = refl; making = refl; ready = refl; stage = refl })) i

plain_next : (z : WorldSettings) (w : World) (e : Event) (b : Bool) → is_possible w.values e ≡ b → Counted w
    → Next w (if b then bytes_later (bytes_changed z w e) (moments e) else w)
plain_next z w e false is i = nothing w i
plain_next z w e true is i =
    let v = bytes_changed z w e in
    unmoved_then w v (bytes_later v (moments e)) (later_unmoved v (moments e)) (changed_next z w e is i)

tampered_next : (w v : World) (b : Bool) → Unmoved w v → Counted w → Next w (if b then bytes_later v 1 else w)
tampered_next w v false u i = nothing w i
tampered_next w v true u i = unmoved_then w v (bytes_later v 1) (later_unmoved v 1) (unmoved w v u i)

pub happen_next : (z : WorldSettings) (w : World) (e : ByteEvent) → Counted w → Next w (bytes_happen z w e)
happen_next z w (Plain e) i = plain_next z w e (is_possible w.values e) refl i
happen_next z w (Tamper k up change) i =
    tampered_next w (tampered w k up change) (may_tamper w k up) (tampered_unmoved w k up change) i

run_counted : (z : WorldSettings) (es : List ByteEvent) (w : World) → Counted w → Counted (bytes_run z es w)
unfolding bytes_run
run_counted z [] w i = i
run_counted z (e ∷ es) w i = (let n = happen_next z w e i in run_counted z es (bytes_happen z w e) n.counted)

run_kept : (z : WorldSettings) (es : List ByteEvent) (w : World) → Counted w → AreKept w → AreKept (bytes_run z es w)
unfolding bytes_run
run_kept z [] w i old = old
run_kept z (e ∷ es) w i old = (let n = happen_next z w e i in run_kept z es (bytes_happen z w e) n.counted (n.kept old))

pub start_counted : (z : WorldSettings) → Counted (bytes_start z)
start_counted z = record {
  making = λ k e. absurd (let h : false ≡ true = e in cc);
  not_live = λ k e. refl;
  none_ready = λ e k. refl;
  none_binds = λ e k. refl;
  apart = λ k e. absurd (let h : false ≡ true = e in cc);
  stages = λ k e. refl;
  given = λ k e. absurd (let h : false ≡ true = e in cc);
  own = λ j k a b e. absurd (let h : false ≡ true = a in cc);
  asked = λ k e. absurd (let h : Apart ≡ AskedTree = e in cc);
}

always : (z : WorldSettings) (es : List ByteEvent) → Counted (bytes_run z es (bytes_start z))
always z es = run_counted z es (bytes_start z) (start_counted z)

pub numbered : ChannelsAreNumbered
numbered z es = (let i = always z es in record { given = i.given; own = i.own })

pub rising : ChannelNumbersRise
rising z es e = (let n = happen_next z (bytes_run z es (bytes_start z)) e (always z es) in n.rises)

start_kept : (z : WorldSettings) → AreKept (bytes_start z)
start_kept z k = no_keys_at (bytes_start z) k refl (λ e. (let h : Apart ≡ AskedTree = e in cc))

pub accepted_kept : AcceptedIsAlwaysKept
accepted_kept z es k e = run_kept z es (bytes_start z) (start_counted z) (start_kept z) k (inl e)
