-- In every run without tampering what is on its way under a seal is noted.
use Rattle.std.proofs.Common.{◌≡◌, ℕ, suc, ◌==◌, Bool, true, false, if◌then◌else◌, List, [], ◌∷◌, length, refl, sym, ap, ◌∙◌}
use Rattle.std.proofs.Common.{Option}
use Rattle.spec_exchange.specs.Table.{is_filled}
use Rattle.spec_exchange.specs.Status.{success}
use Rattle.spec_exchange.specs.State.{Accept}
use Rattle.spec_exchange.specs.Operations.{weight, charge}
use Rattle.spec_exchange.specs.Client.{Client, SaidNegotiate, own_message, ask_message}
use Rattle.spec_exchange.specs.ClientStep.{Pick, Act, Nothing, Sends, Asks, CloseChannel, CloseChannels, AllSettled}
use Rattle.spec_exchange.specs.ClientStep.{Pushes, client_after, act}
use Rattle.spec_exchange.specs.Dialogs.{dialog_message}
use Rattle.spec_exchange.specs.Step.{step}
use Rattle.spec_exchange.specs.Network.{World as Values, Event, Submit, Open, Push, Serve, Take, Cut, Drop, Restart, Crash, Wait, Finish}
use Rattle.spec_exchange.specs.Network.{ForOp, ForAttach, Received, is_possible, moments, run, start}
use Rattle.law_sessions.proofs.messages.Run.{connections}
use Rattle.spec_wire.specs.credits.Exchange.{NothingIsRefused}
use Rattle.law_server.proofs.tables.Logic.{either, front_of}
use Rattle.spec_world.specs.Settings.{WorldSettings, values_of}
use Rattle.spec_world.specs.World.{World, Wires, salt_of, fresh_wires, greeting_of, paid, pushed_wires, pushed_with, absorb_frame}
use Rattle.spec_world.specs.World.{restarted_wires}
use Rattle.spec_world.specs.Events.{Plain, bytes_changed, bytes_later, bytes_happen, bytes_start}
use Rattle.spec_world.specs.Statements.{plainly, plain_run, value_events}
use Rattle.law_ties.specs.wire_facts.Lawful.{IsLawful, WireFacts}
use Rattle.law_ties.proofs.frame_counts.Along.{always}
use Rattle.law_ties.specs.events.Links.{IsTied}
use Rattle.law_dialogs.specs.runs.Bounds.{RunsGoInStep}
use Rattle.law_dialogs.proofs.runs.Supplied.{Supplies}
use Rattle.law_runs.proofs.accepted.Runs.{on_plain_runs}
use Rattle.law_runs.specs.sealed.Kept.{PlainSealsAreKept}
use Rattle.law_runs.proofs.sealed.Spelled.{IsKept, Told, AllKept, all_plain, all_at, SpellsOf, one}
use Rattle.law_runs.proofs.sealed.Sent.{greeting_plain, line}
use Rattle.law_runs.proofs.sealed.Takes.{cut, takes}
use Rattle.law_runs.proofs.sealed.Serves.{Shuts, serves, absorbs}

-- ---- one event

first_up : (P : List ℕ → Type 0) (b : List ℕ) → AllKept P (b ∷ []) → (served : Bool) → AllKept P (if served then b ∷ [] else [])
first_up P b h true = h
first_up P b h false = tt

opened : (z : WorldSettings) → IsLawful z → (w : World) (k : ℕ) → SpellsOf w → SpellsOf (bytes_changed z w (Open k))
opened z law w k h =
    let greeting = greeting_of z w k in
    let served = (step w.values.server w.values.moment (Accept k)).reply.status == success in
    let u : Wires = fresh_wires z w greeting served in
    let P = IsKept w.sealings u.client_end.keys true in
    let plain = greeting_plain z law z.client (salt_of z w) (dialog_message w.values.client k 0 (SaidNegotiate w.values.client.live)) in
    one w.sealings w.wires k u (first_up P greeting (all_plain P greeting plain) served) tt h

pushed : (z : WorldSettings) → IsLawful z → (w : World) (k : ℕ) (c : Client) (a : Act) → SpellsOf w → SpellsOf (pushed_wires w k c a)
pushed z law w k c (Sends g) h =
    line z law w k (ForOp g) (own_message c k (w.wires k).client_end.purse.next g) (charge (weight (c.op g))) h
pushed z law w k c (Asks g) h = line z law w k (ForAttach g) (ask_message c k (w.wires k).client_end.purse.next g) 1 h
pushed z law w k c Nothing h = h
pushed z law w k c CloseChannel h = h
pushed z law w k c CloseChannels h = h
pushed z law w k c AllSettled h = h

pushes : (z : WorldSettings) → IsLawful z → (w : World) (k : ℕ) (slotless : List ℕ) (pick : Option Pick) → SpellsOf w
    → SpellsOf (pushed_with w k slotless pick)
pushes z law w k slotless pick h =
    pushed z law w k (client_after w.values.client (Pushes k slotless pick)) (act w.values.client (Pushes k slotless pick)) h

restarts : (w : World) → SpellsOf w → SpellsOf (restarted_wires w)
restarts w h = record { ups = λ j. tt; downs = h.downs }

crashes : NothingIsRefused → (z : WorldSettings) → IsLawful z → (w : World) → IsTied z w → Supplies z w → Shuts w → (k : ℕ) (kept : Bool)
    → (w.values.conns k).server_open ≡ true → SpellsOf w
    → SpellsOf (restarted_wires (if kept then absorb_frame z w k (w.wires k).up (w.values.conns k).up else w))
crashes held z law w i s shut k kept so h =
    restarts (if kept then absorb_frame z w k (w.wires k).up (w.values.conns k).up else w)
    (either SpellsOf kept (absorb_frame z w k (w.wires k).up (w.values.conns k).up) w
    (λ _. absorbs held z law w i s shut k so (w.wires k).up (w.values.conns k).up refl refl h) (λ _. h))

dropped : (z : WorldSettings) (w : World) (k : ℕ) → SpellsOf w → SpellsOf (bytes_changed z w (Drop k))
dropped z w k h = one w.sealings w.wires k (record (w.wires k) { up = [] }) tt (h.downs k) h

changes : NothingIsRefused → (z : WorldSettings) → IsLawful z → (w : World) → IsTied z w → Supplies z w → Shuts w → (e : Event)
    → is_possible w.values e ≡ true → SpellsOf w → SpellsOf (bytes_changed z w e)
changes held z law w i s shut (Submit g op) may h = h
changes held z law w i s shut (Open k) may h = opened z law w k h
changes held z law w i s shut (Push k slotless pick) may h = pushes z law w k slotless (paid w k slotless pick) h
changes held z law w i s shut (Serve k) may h =
    serves held z law w i s shut k (front_of (w.values.conns k).server_open (is_filled (w.values.conns k).up) may) (w.wires k).up
    (w.values.conns k).up refl refl h
changes held z law w i s shut (Take k) may h =
    takes z law w i k (front_of (w.values.conns k).client_open (is_filled (w.values.conns k).down) may) (w.wires k).down
    (w.values.conns k).down refl h
changes held z law w i s shut (Cut k) may h = cut w k h
changes held z law w i s shut (Drop k) may h = dropped z w k h
changes held z law w i s shut Restart may h = restarts w h
changes held z law w i s shut (Crash k kept) may h =
    crashes held z law w i s shut k kept (front_of (w.values.conns k).server_open (is_filled (w.values.conns k).up) may) h
changes held z law w i s shut (Wait n) may h = h
changes held z law w i s shut (Finish refusal) may h = h

happens : NothingIsRefused → (z : WorldSettings) → IsLawful z → (w : World) → IsTied z w → Supplies z w → Shuts w → (e : Event) → SpellsOf w
    → SpellsOf (bytes_happen z w (Plain e))
happens held z law w i s shut e h =
    either SpellsOf (is_possible w.values e) (bytes_later (bytes_changed z w e) (moments e)) w
    (λ may. changes held z law w i s shut e may h) (λ _. h)

-- ---- a client's end that has closed has nothing

none_along : (bs : List (List ℕ)) (ys : List Received) → length bs ≡ length ys → ys ≡ [] → bs ≡ []
none_along [] ys e q = refl
none_along (b ∷ bs) ys e q = absurd (let h : suc (length bs) ≡ 0 = e ∙ ap length q in cc)

pub shuts : (z : WorldSettings) (before : List Event)
    → (plain_run z before).values ≡ run (value_events z (bytes_start z) before) (start (values_of z)) → Shuts (plain_run z before)
shuts z before is k co =
    let w = plain_run z before in
    let along = always z (plainly before) in
    let i = connections (values_of z) (value_events z (bytes_start z) before) in
    let run_of = run (value_events z (bytes_start z) before) (start (values_of z)) in
    let shut : (run_of.conns k).down ≡ [] = i.down_open k (sym (ap (λ (v : Values). (v.conns k).client_open) is) ∙ co) in
    none_along (w.wires k).down (w.values.conns k).down (along.down k) (ap (λ (v : Values). (v.conns k).down) is ∙ shut)

-- ---- what waits

first : (z : WorldSettings) → SpellsOf (bytes_start z)
first z = record { ups = λ j. tt; downs = λ j. tt }

pub seals_are_kept : NothingIsRefused → WireFacts → RunsGoInStep → PlainSealsAreKept
seals_are_kept held facts runs z events fit few taken =
    let w = plain_run z events in
    let h = on_plain_runs SpellsOf held facts runs z events fit few taken
    (λ before e i s is m. happens held z (facts z fit) (plain_run z before) i s (shuts z before is) e m) (first z) in record {
      up = λ k j frame e s. all_at (IsKept w.sealings (w.wires k).client_end.keys true) (w.wires k).up j frame (h.ups k) e s;
      down = λ k j frame e s. all_at (Told w.sealings (w.wires k).server_end.keys) (w.wires k).down j frame (h.downs k) e s;
    }
