-- Every event leaves it so, and so does each run.
use Rattle.std.proofs.Common.{◌≡◌, ℕ, ◌<◌, ◌≤◌, ◌^◌, Bool, true, List, [], ◌∷◌, ◌++◌, refl, sym, ◌∙◌, subst, arith}
use Rattle.std.proofs.Common.{if◌then◌else◌, ◌==◌, Option}
use Rattle.std.proofs.lemmas.List.{append-nil, append_assoc}
use Rattle.spec_exchange.specs.Table.{is_filled}
use Rattle.spec_exchange.specs.Status.{success}
use Rattle.spec_exchange.specs.State.{Accept}
use Rattle.spec_exchange.specs.Operations.{weight, charge}
use Rattle.spec_exchange.specs.Client.{Client, own_message, ask_message}
use Rattle.spec_exchange.specs.ClientStep.{Pick, Act, Nothing, Sends, Asks, CloseChannel, CloseChannels, AllSettled}
use Rattle.spec_exchange.specs.ClientStep.{Pushes, client_after, act}
use Rattle.spec_exchange.specs.Step.{step}
use Rattle.spec_exchange.specs.Network.{Event, Submit, Open, Push, Serve, Take, Cut, Drop, Restart, Crash, Wait, Finish, ForOp, ForAttach}
use Rattle.spec_exchange.specs.Network.{is_possible, moments, run, start}
use Rattle.spec_wire.specs.credits.Exchange.{NothingIsRefused}
use Rattle.law_server.proofs.tables.Logic.{either, front_of}
use Rattle.spec_world.specs.Settings.{WorldSettings, values_of}
use Rattle.spec_world.specs.World.{World, Wires, fresh_wires, greeting_of, paid, pushed_wires, pushed_with, absorb_frame, restarted_wires}
use Rattle.spec_world.specs.Events.{Plain, bytes_changed, bytes_later, bytes_happen, bytes_run, bytes_start}
use Rattle.spec_world.specs.Statements.{plainly, plain_run, value_events}
use Rattle.law_ties.specs.wire_facts.Fitting.{IsFitting}
use Rattle.law_ties.specs.wire_facts.Lawful.{IsLawful, WireFacts}
use Rattle.law_ties.specs.wire_facts.Steps.{restarts_in, submits_in}
use Rattle.law_ties.specs.events.Links.{IsTied}
use Rattle.law_dialogs.proofs.waiting.Due.{worlds_are_due}
use Rattle.law_dialogs.specs.runs.Bounds.{RunsGoInStep}
use Rattle.law_dialogs.proofs.runs.Supplied.{Supplies, supplies}
use Rattle.law_runs.proofs.untampered.Prefix.{restarts_same, submits_same, restarts_part, submits_part}
use Rattle.law_runs.proofs.untampered.Plain.{bounds_of, in_step}
use Rattle.law_nonces.proofs.negotiation.Tables.{none_there}
use Rattle.law_runs.specs.accepted.Made.{PlainRunsAreMade}
use Rattle.law_runs.proofs.accepted.Minds.{IsIn, none_waits, MindsOf, one, line}
use Rattle.law_runs.proofs.accepted.Takes.{cut, takes}
use Rattle.law_runs.proofs.accepted.Serves.{serves, absorbs}

-- ---- one event

opened : (z : WorldSettings) (w : World) (k : ℕ) → MindsOf w → MindsOf (bytes_changed z w (Open k))
opened z w k h =
    let u : Wires =
    fresh_wires z w (greeting_of z w k) ((step w.values.server w.values.moment (Accept k)).reply.status == success) in
    one w.made w.accepted w.wires k u (none_waits w.made u.client_end [] refl) h

pushed : (w : World) (k : ℕ) (c : Client) (a : Act) → MindsOf w → MindsOf (pushed_wires w k c a)
pushed w k c (Sends g) h =
    line w k (ForOp g) (own_message c k (w.wires k).client_end.purse.next g) (charge (weight (c.op g))) h
pushed w k c (Asks g) h = line w k (ForAttach g) (ask_message c k (w.wires k).client_end.purse.next g) 1 h
pushed w k c Nothing h = h
pushed w k c CloseChannel h = h
pushed w k c CloseChannels h = h
pushed w k c AllSettled h = h

pushes : (w : World) (k : ℕ) (slotless : List ℕ) (pick : Option Pick) → MindsOf w → MindsOf (pushed_with w k slotless pick)
pushes w k slotless pick h =
    pushed w k (client_after w.values.client (Pushes k slotless pick)) (act w.values.client (Pushes k slotless pick)) h

restarts : (w : World) → MindsOf w → MindsOf (restarted_wires w)
restarts w h = record { waits = h.waits; taken = h.taken }

crashes : (z : WorldSettings) (w : World) (k : ℕ) (kept : Bool) → MindsOf w
    → MindsOf (restarted_wires (if kept then absorb_frame z w k (w.wires k).up (w.values.conns k).up else w))
crashes z w k kept h =
    restarts (if kept then absorb_frame z w k (w.wires k).up (w.values.conns k).up else w)
    (either MindsOf kept (absorb_frame z w k (w.wires k).up (w.values.conns k).up) w
    (λ _. absorbs z w k (w.wires k).up (w.values.conns k).up h) (λ _. h))

dropped : (z : WorldSettings) (w : World) (k : ℕ) → MindsOf w → MindsOf (bytes_changed z w (Drop k))
dropped z w k h = one w.made w.accepted w.wires k (record (w.wires k) { up = [] }) (h.waits k) h

changes : NothingIsRefused → (z : WorldSettings) → IsLawful z → (w : World) → IsTied z w → Supplies z w → (e : Event)
    → is_possible w.values e ≡ true → MindsOf w → MindsOf (bytes_changed z w e)
changes held z law w i s (Submit g op) may h = h
changes held z law w i s (Open k) may h = opened z w k h
changes held z law w i s (Push k slotless pick) may h = pushes w k slotless (paid w k slotless pick) h
changes held z law w i s (Serve k) may h =
    serves held z law w i s k (front_of (w.values.conns k).server_open (is_filled (w.values.conns k).up) may) (w.wires k).up
    (w.values.conns k).up refl refl h
changes held z law w i s (Take k) may h =
    takes z w i k (front_of (w.values.conns k).client_open (is_filled (w.values.conns k).down) may) (w.wires k).down (w.values.conns k).down
    refl h
changes held z law w i s (Cut k) may h = cut w k h
changes held z law w i s (Drop k) may h = dropped z w k h
changes held z law w i s Restart may h = restarts w h
changes held z law w i s (Crash k kept) may h = crashes z w k kept h
changes held z law w i s (Wait n) may h = h
changes held z law w i s (Finish refusal) may h = h

happens : NothingIsRefused → (z : WorldSettings) → IsLawful z → (w : World) → IsTied z w → Supplies z w → (e : Event) → MindsOf w
    → MindsOf (bytes_happen z w (Plain e))
happens held z law w i s e h =
    either MindsOf (is_possible w.values e) (bytes_later (bytes_changed z w e) (moments e)) w
    (λ may. changes held z law w i s e may h) (λ _. h)

-- ---- a run

pub bytes_more : (z : WorldSettings) (es : List Event) (e : Event) (w : World)
    → bytes_run z (plainly (es ++ e ∷ [])) w ≡ bytes_happen z (bytes_run z (plainly es) w) (Plain e)
unfolding bytes_run plainly
bytes_more z [] e w = refl
bytes_more z (x ∷ es) e w = bytes_more z es e (bytes_happen z w (Plain x))

pub nothing_happened : (z : WorldSettings) → bytes_start z ≡ plain_run z []
unfolding bytes_run plainly
nothing_happened z = refl

low_by : (a b c n : ℕ) → a ≡ b → b ≤ c → c < n → a < n
low_by a b c n e l h = omega (arith, e, l, h)

pub part_by : (b c n : ℕ) → b ≤ c → c < n → b < n
part_by b c n l h = omega (arith, l, h)

-- what each event of a run keeps, whose ends are tied and which is one of the model so far
abbrev pub IsKept : WorldSettings → (World → Type 0) → Type 0
IsKept z P =
    (before : List Event) (e : Event) → IsTied z (plain_run z before) → Supplies z (plain_run z before) →
    (plain_run z before).values ≡ run (value_events z (bytes_start z) before) (start (values_of z)) → P (plain_run z before) →
    P (bytes_happen z (plain_run z before) (Plain e))

same_low : (n : ℕ) → n ≤ n
same_low n = omega arith

next : (P : World → Type 0) → NothingIsRefused → WireFacts → RunsGoInStep → (z : WorldSettings) → IsKept z P → (before : List Event)
    (e : Event) → IsFitting z → restarts_in before < 4294967295 → submits_in before < 2 ^ 64 → P (plain_run z before)
    → P (plain_run z (before ++ e ∷ []))
next P held facts runs z keeps before e fit few taken h =
    let w = plain_run z before in
    let law = facts z fit in
    let r = in_step held facts runs z before fit few taken in
    let values = value_events z (bytes_start z) before in
    let is : w.values ≡ run values (start (values_of z)) = r.in_step in
    let restarts = low_by (restarts_in values) (restarts_in before) (restarts_in before) 4294967295 (restarts_same z before (bytes_start z))
    (same_low (restarts_in before)) few in
    let submits = low_by (submits_in values) (submits_in before) (submits_in before) (2 ^ 64) (submits_same z before (bytes_start z))
    (same_low (submits_in before)) taken in
    let b = bounds_of held z fit law w values is r.tied restarts submits in
    let s = supplies z w values is r.tied (worlds_are_due z w values is) b in
    subst P (sym (bytes_more z before e (bytes_start z))) (keeps before e r.tied s is h)

on : (P : World → Type 0) → NothingIsRefused → WireFacts → RunsGoInStep → (z : WorldSettings) → IsKept z P → (events : List Event)
    → IsFitting z → restarts_in events < 4294967295 → submits_in events < 2 ^ 64 → (es before : List Event) → before ++ es ≡ events
    → P (plain_run z before) → P (plain_run z events)
on P held facts runs z keeps events fit few taken [] before part h =
    subst (λ xs. P (plain_run z xs)) (sym (append-nil before) ∙ part) h
on P held facts runs z keeps events fit few taken (e ∷ es) before part h =
    let restarts = part_by (restarts_in before) (restarts_in (before ++ e ∷ es)) 4294967295 (restarts_part before (e ∷ es))
    (subst (λ xs. restarts_in xs < 4294967295) (sym part) few) in
    let submits = part_by (submits_in before) (submits_in (before ++ e ∷ es)) (2 ^ 64) (submits_part before (e ∷ es))
    (subst (λ xs. submits_in xs < 2 ^ 64) (sym part) taken) in
    on P held facts runs z keeps events fit few taken es (before ++ e ∷ []) (append_assoc before (e ∷ []) es ∙ part)
    (next P held facts runs z keeps before e fit restarts submits h)

pub on_plain_runs : (P : World → Type 0) → NothingIsRefused → WireFacts → RunsGoInStep → (z : WorldSettings) (events : List Event)
    → IsFitting z → restarts_in events < 4294967295 → submits_in events < 2 ^ 64 → IsKept z P → P (bytes_start z)
    → P (plain_run z events)
on_plain_runs P held facts runs z events fit few taken keeps first =
    on P held facts runs z keeps events fit few taken events [] refl (subst P (nothing_happened z) first)

-- ---- what is accepted

first : (z : WorldSettings) → MindsOf (bytes_start z)
first z = record { waits = λ j. none_waits [] ((bytes_start z).wires j).client_end [] refl; taken = none_there (IsIn []) }

pub accepted_is_made : NothingIsRefused → WireFacts → RunsGoInStep → PlainRunsAreMade
accepted_is_made held facts runs z events fit few taken =
    let h = on_plain_runs MindsOf held facts runs z events fit few taken
    (λ before e i s is m. happens held z (facts z fit) (plain_run z before) i s e m) (first z) in
    h.taken
