-- All that a world on the way wants, and with it the law.
use Rattle.std.proofs.Common.{◌≡◌, ℕ, ◌+◌, ◌<◌, ◌≤◌, ◌^◌, List, [], ◌∷◌, ◌++◌, length, take, drop, ap, arith}
use Rattle.std.proofs.lemmas.List.{take-append-drop}
use Rattle.spec_exchange.specs.Commands.{TreeConnect}
use Rattle.spec_exchange.specs.Network.{Event, Received, run, start}
use Rattle.spec_wire.specs.credits.Exchange.{NothingIsRefused}
use Rattle.spec_wire.specs.messages.TreeConnect.{tree_connect_request_whole}
use Rattle.spec_commands.specs.BodyOf.{body_of, host, tree_connect_value}
use Rattle.spec_commands.proofs.Lengths.{total, length_fields}
use Rattle.law_commands.specs.commands.Fitting.{IsFittingName}
use Rattle.spec_world.specs.Settings.{WorldSettings, values_of}
use Rattle.spec_world.specs.World.{World, paid}
use Rattle.spec_world.specs.Events.{bytes_start}
use Rattle.spec_world.specs.Statements.{plain_run, value_events, IsInStep}
use Rattle.law_ties.specs.wire_facts.Fitting.{IsFitting}
use Rattle.law_ties.specs.wire_facts.Lawful.{IsLawful, WireFacts}
use Rattle.law_ties.specs.wire_facts.Steps.{restarts_in, submits_in}
use Rattle.law_ties.specs.events.Links.{IsTied}
use Rattle.law_replies.specs.counters.Low.{last_id}
use Rattle.law_replies.proofs.counters.Low.{front_down}
use Rattle.law_nonces.specs.client_nonces.Sent.{PlainNonces}
use Rattle.law_dialogs.specs.runs.Bounds.{GoingBounds, AcceptingBounds, RunBounds, RunsInStep, RunsGoInStep}
use Rattle.law_runs.specs.untampered.Plain.{PlainRunsGoInStep}
use Rattle.law_runs.proofs.untampered.Prefix.{restarts_same, submits_same, restarts_part, submits_part}
use Rattle.law_runs.proofs.untampered.Greeting.{greeting_short}
use Rattle.law_runs.proofs.untampered.Short.{requests_are_short}
use Rattle.law_runs.proofs.untampered.Values.{Facts, facts_at}
use Rattle.law_runs.proofs.untampered.Pushed.{small_id, pushes_fit}
use Rattle.law_runs.proofs.untampered.Talked.{dialogs_fit}
use Rattle.law_runs.proofs.untampered.Left.{left_of}
use Rattle.law_runs.proofs.untampered.Lined.{lines_fit}
use Rattle.law_runs.proofs.untampered.Heard.{replies_are_heard}

-- ---- the Takes of a dialog

goes_fit : (z : WorldSettings) (w : World) (es : List Event) → Facts (values_of z) es w.values → restarts_in es < 4294967295
    → (k : ℕ) (y : Received) (ys : List Received) → (w.values.conns k).down ≡ y ∷ ys → GoingBounds w y
goes_fit z w es f few k y ys h =
    let low = f.low in
    let r = restarts_in es in
    let told = front_down (last_id es) (w.values.conns k).down y ys h (low.down k) in
    record {
      session = small_id w.values.client.session r few low.session;
      accepted = small_id w.values.client.accepted r few low.accepted;
      pending = small_id w.values.client.pending r few low.pending;
      told = small_id y.reply.session_id r few told.0;
    }

tree_few : (share : List ℕ) → IsFittingName (host ++ share) → 64 + length (body_of (TreeConnect share)) ≤ 1114060
unfolding body_of total
tree_few share is =
    let few = is.short in omega (arith, few, length_fields (tree_connect_request_whole (tree_connect_value share)) [])

as_64 : (n : ℕ) → n < 256 ^ 8 → n < 2 ^ 64
as_64 n l = omega (arith, l)

accepts_fit : (z : WorldSettings) → IsFitting z → (w : World) (es : List Event) → Facts (values_of z) es w.values
    → restarts_in es < 4294967295 → AcceptingBounds z w
accepts_fit z fit w es f few =
    let low = f.low in
    record {
      pending = as_64 w.values.client.pending (small_id w.values.client.pending (restarts_in es) few low.pending);
      short = tree_few z.share fit.share;
    }

-- ---- a world on the way

pub bounds_of : NothingIsRefused → (z : WorldSettings) → IsFitting z → IsLawful z → (w : World) (es : List Event)
    → w.values ≡ run es (start (values_of z)) → IsTied z w → restarts_in es < 4294967295 → submits_in es < 2 ^ 64 → RunBounds z w
bounds_of held z fit law w es e i few taken =
    let f = facts_at (values_of z) es w.values e in
    record {
      opens = λ k. greeting_short z law fit w k;
      pushes = λ k slotless pick ready.
          pushes_fit held requests_are_short z law w es e i few taken k slotless (paid w k slotless pick) ready;
      lines = λ k x xs so h line. lines_fit z w es e f few k x xs so h line (left_of z w es e f few k x xs h);
      dialogs = λ k x xs so h talks. dialogs_fit z w es e f few k x xs so h talks;
      going = λ k y ys co h on. goes_fit z w es f few k y ys h;
      accepting = λ k co at. accepts_fit z fit w es f few;
    }

-- ---- every run

low_of : (a b c d n : ℕ) → a ≡ b → b ≤ c → c ≡ d → d < n → a < n
low_of a b c d n p l q h = omega (arith, p, l, q, h)

pub in_step : NothingIsRefused → WireFacts → RunsGoInStep → (z : WorldSettings) (events : List Event) → IsFitting z
    → restarts_in events < 4294967295 → submits_in events < 2 ^ 64 → RunsInStep z events
in_step held facts runs z events fit few taken =
    let law = facts z fit in
    runs z events law (λ before after e w part reached is i.
    (let values = value_events z (bytes_start z) before in
    let restarts = low_of (restarts_in values) (restarts_in before) (restarts_in (before ++ e ∷ after)) (restarts_in events) 4294967295
    (restarts_same z before (bytes_start z)) (restarts_part before (e ∷ after)) (ap restarts_in part) few in
    let submits = low_of (submits_in values) (submits_in before) (submits_in (before ++ e ∷ after)) (submits_in events) (2 ^ 64)
    (submits_same z before (bytes_start z)) (submits_part before (e ∷ after)) (ap submits_in part) taken in
    bounds_of held z fit law w values is i restarts submits))

-- ---- each beginning of it

part_low : (a b c n : ℕ) → a ≤ b → b ≡ c → c < n → a < n
part_low a b c n l e h = omega (arith, l, e, h)

step_part : NothingIsRefused → WireFacts → RunsGoInStep → (z : WorldSettings) (events : List Event) → IsFitting z
    → restarts_in events < 4294967295 → submits_in events < 2 ^ 64 → (n : ℕ) → IsInStep z (take n events)
step_part held facts runs z events fit few taken n =
    let front = take n events in
    let rest = drop n events in
    let restarts = part_low (restarts_in front) (restarts_in (front ++ rest)) (restarts_in events) 4294967295 (restarts_part front rest)
    (ap restarts_in (take-append-drop n events)) few in
    let submits = part_low (submits_in front) (submits_in (front ++ rest)) (submits_in events) (2 ^ 64) (submits_part front rest)
    (ap submits_in (take-append-drop n events)) taken in
    let r = in_step held facts runs z front fit restarts submits in
    r.in_step

pub plain_runs : NothingIsRefused → WireFacts → RunsGoInStep → PlainNonces → PlainRunsGoInStep
plain_runs held facts runs once z events fit few taken =
    let r = in_step held facts runs z events fit few taken in
    record {
      runs = r;
      replies = replies_are_heard z (plain_run z events) r.tied;
      nonces = once z events (step_part held facts runs z events fit few taken);
    }
