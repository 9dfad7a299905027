-- A course over bytes and one of values in step: what each event, and a push on a channel with nothing on its way, leaves of it.
use Rattle.std.proofs.lemmas.Bool.Decides.{nat_tests}
use Rattle.std.proofs.Common.{◌≡◌, ℕ, ◌+◌, ◌^◌, ◌≤◌, ◌<◌, nat_le, nat_lt, Bool, true, false, ◌&&◌, if◌then◌else◌, List, [], ◌∷◌, ◌++◌}
use Rattle.std.proofs.Common.{refl, sym, ap, ◌∙◌, subst, arith, Option, Some, None}
use Rattle.spec_exchange.specs.Operations.{Op, weight, charge}
use Rattle.spec_exchange.specs.Client.{Client, goes_itself, has_its_slot, lacks_slot, may_push, is_taken, settle_no_slot, settle_no_slots}
use Rattle.spec_exchange.specs.ClientStep.{Act, Nothing, Sends, Asks, CloseChannel, CloseChannels, AllSettled, Pick, Pushes}
use Rattle.spec_exchange.specs.ClientStep.{act, client_after, pick_act, some_unsettled}
use Rattle.spec_exchange.specs.Network.{Event, Submit, Open, Push, Serve, Take, Cut, Drop, Restart, Crash, Wait, Finish, World as Values}
use Rattle.spec_exchange.specs.Network.{happens, changed, later, pushed_by, run, start}
use Rattle.spec_exchange.specs.Schedules as values
use Rattle.spec_exchange.specs.Schedules.{Choice, choose, purse, push_by}
use Rattle.spec_wire.specs.credits.Ids.{counted}
use Rattle.spec_wire.specs.credits.Exchange.{NothingIsRefused}
use Rattle.law_server.proofs.tables.Logic.{either, front_of, back_of}
use Rattle.law_answers.proofs.completeness.Events.{if_on}
use Rattle.law_answers.proofs.completeness.Columns.{Limits, taken_on}
use Rattle.law_answers.proofs.completeness.Choose.{Calm, full_purse}
use Rattle.law_answers.proofs.completeness.Facts.{Facts}
use Rattle.law_answers.proofs.completeness.Runs.{OfRun, always}
use Rattle.law_answers.proofs.completeness.Round.{Idle}
use Rattle.law_replies.specs.courses.Courses.{restarts_of, submits_of}
use Rattle.spec_world.specs.Courses.{Course, went, went_push, push_lowest}
use Rattle.spec_world.specs.Events.{ByteEvent, Plain, bytes_happen, bytes_start}
use Rattle.spec_world.specs.Sending.{may_seal}
use Rattle.spec_world.specs.Settings.{WorldSettings, values_of}
use Rattle.spec_world.specs.Statements.{AreAlong, ListsAreAlong, plain_run, plainly, value_event, value_events}
use Rattle.spec_world.specs.World.{World, cost, cost_of, may_pay}
use Rattle.law_ties.specs.wire_facts.Fitting.{IsFitting}
use Rattle.law_ties.specs.wire_facts.Steps.{restarts_in, submits_in}
use Rattle.law_ties.proofs.events.InStep.{tied_goes}
use Rattle.law_dialogs.proofs.waiting.Due.{worlds_are_due}
use Rattle.law_runs.specs.untampered.Plain.{PlainRunsGoInStep}
use Rattle.law_runs.specs.purses.Purse.{StillChannelsHaveAll, IsStill, HasAll, pushes_in}
use Rattle.law_runs.proofs.purses.Runs.{pushes_of, pushes_more, bytes_more}
use Rattle.law_scripts.proofs.settling.Bytes as bytes
use Rattle.law_scripts.proofs.settling.Values as plain
use Rattle.law_scripts.proofs.settling.Counts.{restarts_more, submits_more, plainly_more, values_more, opens_alike}
use Rattle.law_scripts.proofs.settling.Numbers.{numbered, numbered_on, opens_of}
use Rattle.law_scripts.proofs.settling.Loops.{both_by, Follows, is_bare}

-- what stands of other crates' laws
pub record Laws : Type 0 where
  pub held : NothingIsRefused
  pub plain : PlainRunsGoInStep
  pub purse : StillChannelsHaveAll
  pub along : ListsAreAlong

-- ---- a course of events of the network, whose restarts and Submits are at most i, and its pushes and its client's sessions at most m

pub record At (z : WorldSettings) (i m : ℕ) (c : Course) (events : List Event) : Type 0 where
  pub told : c.events ≡ plainly events
  pub is : c.world ≡ plain_run z events
  pub restarts : restarts_in events ≤ i
  pub submits : submits_in events ≤ i
  pub pushes : pushes_in events ≤ m
  pub numbers : numbered c.world.values.client ≤ m

-- and a course of values that has the same ones
pub record Rel (z : WorldSettings) (i m : ℕ) (c : Course) (d : values.Course) : Type 0 where
  pub events : List Event
  pub at : At z i m c events
  pub same : c.world.values ≡ d.world
  pub values : d.events ≡ value_events z (bytes_start z) events

-- ---- what is known of such a world

pub record Stands (z : WorldSettings) (w : World) : Type 0 where
  pub goes : (e : Event) → (bytes_happen z w (Plain e)).values ≡ happens w.values (value_event w e)
  pub along : AreAlong w
  pub facts : Facts w.values

few_restarts : (n i : ℕ) → n ≤ i → i ≤ 16777216 → n < 4294967295
few_restarts n i l h = omega (arith, l, h)

few_submits : (n i : ℕ) → n ≤ i → i ≤ 16777216 → n < 2 ^ 64
few_submits n i l h = omega (arith, l, h)

stands_run : Laws → (z : WorldSettings) → IsFitting z → (es : List Event) → restarts_in es < 4294967295 → submits_in es < 2 ^ 64
    → Stands z (plain_run z es)
stands_run L z fit es few taken =
    let w = plain_run z es in
    let r = L.plain z es fit few taken in
    let due = worlds_are_due z w (value_events z (bytes_start z) es) r.runs.in_step in
    let g = tied_goes L.held z w r.runs.tied due.due in
    let A = always (values_of z) in
    let known : OfRun (values_of z) w.values = record { events = value_events z (bytes_start z) es; is = sym r.runs.in_step } in
    record { goes = g.values; along = L.along z (plainly es); facts = A.facts w.values known }

pub stands : Laws → (z : WorldSettings) → IsFitting z → (i m : ℕ) → i ≤ 16777216 → (c : Course) (es : List Event) → At z i m c es
    → Stands z c.world
stands L z fit i m low c es a =
    subst (Stands z) (sym a.is)
    (stands_run L z fit es (few_restarts (restarts_in es) i a.restarts low) (few_submits (submits_in es) i a.submits low))

in_step_run : Laws → (z : WorldSettings) → IsFitting z → (es : List Event) → restarts_in es < 4294967295 → submits_in es < 2 ^ 64
    → (plain_run z es).values ≡ run (value_events z (bytes_start z) es) (start (values_of z))
in_step_run L z fit es few taken = (let r = L.plain z es fit few taken in r.runs.in_step)

pub in_step : Laws → (z : WorldSettings) → IsFitting z → (i m : ℕ) → i ≤ 16777216 → (c : Course) (es : List Event) → At z i m c es
    → c.world.values ≡ run (value_events z (bytes_start z) es) (start (values_of z))
in_step L z fit i m low c es a =
    ap (λ (w : World). w.values) a.is
    ∙ in_step_run L z fit es (few_restarts (restarts_in es) i a.restarts low) (few_submits (submits_in es) i a.submits low)

-- ---- one event more

sum_within : (a b c i j : ℕ) → a ≡ b + c → b ≤ i → i + c ≤ j → a ≤ j
sum_within a b c i j e l h = omega (arith, e, l, h)

within : (a b j : ℕ) → a ≤ b → b ≤ j → a ≤ j
within a b j l h = omega (arith, l, h)

number_within : (a b x y m n : ℕ) → a ≤ b + x → x ≡ y → b ≤ m → m + y ≤ n → a ≤ n
number_within a b x y m n l e h k = omega (arith, l, e, h, k)

pub at_went : Laws → (z : WorldSettings) → IsFitting z → (i m : ℕ) → i ≤ 16777216 → (c : Course) (es : List Event) → At z i m c es
    → (e : Event) (j n : ℕ) → i + restarts_of e ≤ j → i + submits_of e ≤ j → m + pushes_of e ≤ n → m + opens_of e ≤ n
    → At z j n (went z c e) (es ++ e ∷ [])
at_went L z fit i m low c es a e j n r s p o =
    let st = stands L z fit i m low c es a in
    let f = value_event c.world e in
    let world : (went z c e).world ≡ bytes_happen z c.world (Plain e) = bytes.world_is z c e in
    let values : (went z c e).world.values ≡ happens c.world.values f = ap (λ (w : World). w.values) world ∙ st.goes e in
    let numbers : numbered (happens c.world.values f).client ≤ n =
    number_within (numbered (happens c.world.values f).client) (numbered c.world.values.client) (opens_of f) (opens_of e) m n
    (numbered_on c.world.values f st.facts) (opens_alike c.world e) a.numbers o in
    record {
      told = bytes.events_are z c e ∙ (ap (λ (l : List ByteEvent). l ++ Plain e ∷ []) a.told ∙ plainly_more es e);
      is = world ∙ (ap (λ (w : World). bytes_happen z w (Plain e)) a.is ∙ sym (bytes_more z es e (bytes_start z)));
      restarts = sum_within (restarts_in (es ++ e ∷ [])) (restarts_in es) (restarts_of e) i j (restarts_more es e) a.restarts r;
      submits = sum_within (submits_in (es ++ e ∷ [])) (submits_in es) (submits_of e) i j (submits_more es e) a.submits s;
      pushes = sum_within (pushes_in (es ++ e ∷ [])) (pushes_in es) (pushes_of e) m n (pushes_more es e) a.pushes p;
      numbers = subst (λ (v : Values). numbered v.client ≤ n) (sym values) numbers;
    }

-- the model's event is another where a push isn't paid for
pub rel_went : Laws → (z : WorldSettings) → IsFitting z → (i m : ℕ) → i ≤ 16777216 → (c : Course) (d : values.Course) → Rel z i m c d
    → (e f : Event) → value_event c.world e ≡ f → (j n : ℕ) → i + restarts_of e ≤ j → i + submits_of e ≤ j → m + pushes_of e ≤ n
    → m + opens_of e ≤ n → Rel z j n (went z c e) (values.went d f)
rel_went L z fit i m low c d h e f is j n r s p o =
    let es = h.events in
    let a = h.at in
    let st = stands L z fit i m low c es a in
    record {
      events = es ++ e ∷ [];
      at = at_went L z fit i m low c es a e j n r s p o;
      same = ap (λ (w : World). w.values) (bytes.world_is z c e)
          ∙ (st.goes e ∙ (ap (λ (v : Event). happens c.world.values v) is ∙ (ap (λ (v : Values). happens v f) h.same
          ∙ sym (plain.world_is d f))));
      values = plain.events_are d f
          ∙ (ap (λ (l : List Event). l ++ f ∷ []) h.values
          ∙ (ap (λ (v : Event). value_events z (bytes_start z) es ++ v ∷ []) (sym is ∙ ap (λ (w : World). value_event w e) a.is)
          ∙ sym (values_more z es e (bytes_start z))));
    }

nothing_more : (i : ℕ) → i + 0 ≤ i
nothing_more i = omega arith

abbrev Goes : WorldSettings → ℕ → ℕ → Course → values.Course → Event → Type 0
Goes z i m c d e = is_bare e ≡ true → Rel z i m c d → Rel z i m (went z c e) (values.went d e)

bare_goes : Laws → (z : WorldSettings) → IsFitting z → (i m : ℕ) → i ≤ 16777216 → (c : Course) (d : values.Course) (e : Event)
    → Goes z i m c d e
bare_goes L z fit i m low c d (Serve k) bare h =
    rel_went L z fit i m low c d h (Serve k) (Serve k) refl i m (nothing_more i) (nothing_more i) (nothing_more m) (nothing_more m)
bare_goes L z fit i m low c d (Take k) bare h =
    rel_went L z fit i m low c d h (Take k) (Take k) refl i m (nothing_more i) (nothing_more i) (nothing_more m) (nothing_more m)
bare_goes L z fit i m low c d (Cut k) bare h =
    rel_went L z fit i m low c d h (Cut k) (Cut k) refl i m (nothing_more i) (nothing_more i) (nothing_more m) (nothing_more m)
bare_goes L z fit i m low c d (Drop k) bare h =
    rel_went L z fit i m low c d h (Drop k) (Drop k) refl i m (nothing_more i) (nothing_more i) (nothing_more m) (nothing_more m)
bare_goes L z fit i m low c d (Finish refusal) bare h =
    rel_went L z fit i m low c d h (Finish refusal) (Finish refusal) refl i m (nothing_more i) (nothing_more i)
    (nothing_more m) (nothing_more m)
bare_goes L z fit i m low c d (Open k) bare h = absurd (let q : false ≡ true = bare in cc)
bare_goes L z fit i m low c d (Submit g op) bare h = absurd (let q : false ≡ true = bare in cc)
bare_goes L z fit i m low c d (Push k slotless pick) bare h = absurd (let q : false ≡ true = bare in cc)
bare_goes L z fit i m low c d Restart bare h = absurd (let q : false ≡ true = bare in cc)
bare_goes L z fit i m low c d (Crash k kept) bare h = absurd (let q : false ≡ true = bare in cc)
bare_goes L z fit i m low c d (Wait n) bare h = absurd (let q : false ≡ true = bare in cc)

pub follows : Laws → (z : WorldSettings) → IsFitting z → (i m : ℕ) → i ≤ 16777216 → Follows z (Rel z i m)
follows L z fit i m low = record {
  same = λ c d h. h.same;
  along = λ c d h. (let s = stands L z fit i m low c h.events h.at in s.along);
  goes = λ c d e bare h. bare_goes L z fit i m low c d e bare h;
}

pub rel_more : (z : WorldSettings) (i m n : ℕ) → m ≤ n → (c : Course) (d : values.Course) → Rel z i m c d → Rel z i n c d
rel_more z i m n l c d h =
    let a = h.at in
    record {
      events = h.events;
      at = record {
        told = a.told;
        is = a.is;
        restarts = a.restarts;
        submits = a.submits;
        pushes = within (pushes_in h.events) m n a.pushes l;
        numbers = within (numbered c.world.values.client) m n a.numbers l;
      };
      same = h.same;
      values = h.values;
    }

same_bound : (m : ℕ) → m ≤ m
same_bound m = omega arith

up_by_none : (m : ℕ) → m + 0 ≤ m + 1
up_by_none m = omega arith

-- a connection opens
pub rel_opened : Laws → (z : WorldSettings) → IsFitting z → (i m : ℕ) → i ≤ 16777216 → (c : Course) (d : values.Course) (k : ℕ)
    → Rel z i m c d → Rel z i (m + 1) (went z c (Open k)) (values.went d (Open k))
rel_opened L z fit i m low c d k h =
    rel_went L z fit i m low c d h (Open k) (Open k) refl i (m + 1) (nothing_more i) (nothing_more i) (up_by_none m) (same_bound (m + 1))

-- ---- what a push costs at most

one_slot_op : (c : Client) (k g : ℕ) → ((settle_no_slot c k g).op ≡ c.op) × ((settle_no_slot c k g).taken ≡ c.taken)
one_slot_op c k g = either (λ (d : Client). (d.op ≡ c.op) × (d.taken ≡ c.taken)) (lacks_slot c k g) _ c
    (λ _. (refl, refl)) (λ _. (refl, refl))

slots_op : (c : Client) (k : ℕ) (gs : List ℕ) → ((settle_no_slots c k gs).op ≡ c.op) × ((settle_no_slots c k gs).taken ≡ c.taken)
unfolding settle_no_slots
slots_op c k [] = (refl, refl)
slots_op c k (g ∷ gs) =
    let one = one_slot_op c k g in
    let rest = slots_op (settle_no_slot c k g) k gs in
    (rest.0 ∙ one.0, rest.1 ∙ one.1)

pushed_client : (w : Values) (k : ℕ) (c : Client) (a : Act) → (pushed_by w k c a).client ≡ c
pushed_client w k c (Sends g) = refl
pushed_client w k c (Asks g) = refl
pushed_client w k c Nothing = refl
pushed_client w k c CloseChannel = refl
pushed_client w k c CloseChannels = refl
pushed_client w k c AllSettled = refl

-- the operations stay as they are
pushed_op : (w : Values) (k : ℕ) (slotless : List ℕ) (pick : Option Pick) → w.client.ready k ≡ true
    → (client_after w.client (Pushes k slotless pick)).op ≡ w.client.op
pushed_op w k slotless pick on =
    let e = Push k slotless pick in
    let d = client_after w.client (Pushes k slotless pick) in
    let a = act w.client (Pushes k slotless pick) in
    let is : happens w e ≡ later (changed w e) 1 = if_on (w.client.ready k) (later (changed w e) 1) w on in
    let same : (happens w e).client ≡ d = ap (λ (v : Values). v.client) is ∙ pushed_client w k d a in
    ap (λ (c : Client). c.op) (sym same) ∙ (taken_on w e refl).op

one_low : counted 0 ≤ 512
one_low = omega arith

asked_low : counted 1 ≤ 512
asked_low = omega arith

counted_low : (n : ℕ) → n ≤ 512 → counted n ≤ 512
counted_low n l = omega (arith, l)

is_above : (g : ℕ) → nat_lt 0 g ≡ true → 0 < g
is_above g e = grind (arith, nat_tests)

is_within : (g n : ℕ) → nat_le g n ≡ true → g ≤ n
is_within g n e = grind (arith, nat_tests)

tested : (g n : ℕ) → g ≤ n → nat_le g n ≡ true
tested g n l = grind (arith, nat_tests)

-- an operation that may go out was taken, so it asks for no more than a channel holds
sends_low : (w : Values) (k : ℕ) (slotless : List ℕ) (p : Pick) → w.client.ready k ≡ true → Limits w.client
    → may_push (settle_no_slots w.client k slotless) k p.op ≡ true
    → counted (charge (weight ((client_after w.client (Pushes k slotless (Some p))).op p.op))) ≤ 512
sends_low w k slotless p on limits may =
    let v = settle_no_slots w.client k slotless in
    let same = slots_op w.client k slotless in
    let taken = front_of (is_taken v p.op) _ (back_of (v.ready k) _ may) in
    let low = is_above p.op (front_of (nat_lt 0 p.op) _ taken) in
    let high : p.op ≤ w.client.taken =
    subst (λ n. p.op ≤ n) same.1 (is_within p.op v.taken (back_of (nat_lt 0 p.op) _ taken)) in
    counted_low (charge (weight ((client_after w.client (Pushes k slotless (Some p))).op p.op)))
    (subst (λ (f : ℕ → Op). charge (weight (f p.op)) ≤ 512) (sym (pushed_op w k slotless (Some p) on)) (limits p.op low high))

picked_low : (w : Values) (k : ℕ) (slotless : List ℕ) (pick : Option Pick) → w.client.ready k ≡ true → Limits w.client
    → counted (cost_of (client_after w.client (Pushes k slotless pick)) (pick_act (settle_no_slots w.client k slotless) k pick)) ≤ 512
picked_low w k slotless None on limits =
    let v = settle_no_slots w.client k slotless in
    let d = client_after w.client (Pushes k slotless None) in
    either (λ (a : Act). counted (cost_of d a) ≤ 512) (some_unsettled v v.taken) Nothing AllSettled (λ _. one_low) (λ _. one_low)
picked_low w k slotless (Some p) on limits =
    let v = settle_no_slots w.client k slotless in
    let d = client_after w.client (Pushes k slotless (Some p)) in
    either (λ (a : Act). counted (cost_of d a) ≤ 512) (may_push v k p.op)
    (if goes_itself v p.op then (if has_its_slot v p.op p.slot then Sends p.op else Nothing) else Asks p.op) Nothing
    (λ may. either (λ (a : Act). counted (cost_of d a) ≤ 512) (goes_itself v p.op)
    (if has_its_slot v p.op p.slot then Sends p.op else Nothing) (Asks p.op)
    (λ _. either (λ (a : Act). counted (cost_of d a) ≤ 512) (has_its_slot v p.op p.slot) (Sends p.op) Nothing
    (λ _. sends_low w k slotless p on limits may) (λ _. one_low))
    (λ _. asked_low))
    (λ _. one_low)

cost_low : (w : Values) (k : ℕ) (slotless : List ℕ) (pick : Option Pick) → w.client.ready k ≡ true → Limits w.client
    → counted (cost w.client k slotless pick) ≤ 512
cost_low w k slotless pick on limits =
    let c = w.client in
    let d = client_after c (Pushes k slotless pick) in
    either (λ (a : Act). counted (cost_of d a) ≤ 512) (c.ready k) (pick_act (settle_no_slots c k slotless) k pick)
    (if some_unsettled c c.taken then CloseChannels else AllSettled) (λ _. picked_low w k slotless pick on limits)
    (λ off. absurd (let q : true ≡ false = sym on ∙ off in cc))

both_true : (a b : Bool) → a ≡ true → b ≡ true → (a && b) ≡ true
both_true a b e f = ap (λ x. x && b) e ∙ f

below : (n m : ℕ) → n ≤ m → m < 2 ^ 54 → n < 2 ^ 54
below n m l h = omega (arith, l, h)

-- ---- a push on a channel with nothing on its way

idle_is : (v w : Values) (k : ℕ) → v ≡ w → Idle w k → Idle v k
idle_is v w k e i = subst (λ (x : Values). Idle x k) (sym e) i

still_at : (w : World) (k : ℕ) → Idle w.values k → IsStill w k
still_at w k i = record { ready = i.ready; server_open = i.server_end; up = i.up; down = i.down }

abbrev chosen : Values → ℕ → Choice
chosen v k = choose v.client k 512 [] 1 v.client.taken

-- it is paid for
chosen_paid : (w : World) (k : ℕ) (x : Choice) → HasAll (w.wires k).client_end → counted (cost w.values.client k x.slotless x.pick) ≤ 512
    → value_event w (push_by k x) ≡ push_by k x
chosen_paid w k x all low =
    let n = (w.wires k).client_end in
    let q = cost w.values.client k x.slotless x.pick in
    let pays : may_pay n q ≡ true =
    both_true (nat_le (counted q) n.purse.held) (may_seal n)
    (subst (λ h. nat_le (counted q) h ≡ true) (sym all.held) (tested (counted q) 512 low)) all.nonce in
    ap (λ (p : Option Pick). Push k x.slotless p) (if_on (may_pay n q) x.pick None pays)

pub push_still : Laws → (z : WorldSettings) → IsFitting z → (i m : ℕ) → i ≤ 16777216 → m < 2 ^ 54 → (c : Course) (d : values.Course) (k : ℕ)
    → Rel z i m c d → Idle d.world k → Calm d.world.client k → Rel z i (m + 1) (went_push z c k) (values.went_push d k)
push_still L z fit i m low few c d k h idle calm =
    let a = h.at in
    let es = h.events in
    let still : IsStill c.world k = still_at c.world k (idle_is c.world.values d.world k h.same idle) in
    let all : HasAll (c.world.wires k).client_end =
    subst (λ (w : World). HasAll (w.wires k).client_end) (sym a.is)
    (L.purse z es fit (few_restarts (restarts_in es) i a.restarts low) (few_submits (submits_in es) i a.submits low)
    (below (pushes_in es) m a.pushes few) k (subst (λ (w : World). IsStill w k) a.is still)) in
    let x = chosen d.world k in
    let held = (c.world.wires k).client_end.purse.held in
    let own : push_lowest c.world k ≡ push_by k x =
    ap (λ (v : Values). push_by k (choose v.client k held [] 1 v.client.taken)) h.same
    ∙ ap (λ n. push_by k (choose d.world.client k n [] 1 d.world.client.taken)) all.held in
    let model : values.push_lowest d.world k ≡ push_by k x =
    ap (λ n. push_by k (choose d.world.client k n [] 1 d.world.client.taken)) (full_purse d.world.client k calm.idle) in
    let cheap : counted (cost c.world.values.client k x.slotless x.pick) ≤ 512 =
    subst (λ (v : Values). counted (cost v.client k x.slotless x.pick) ≤ 512) (sym h.same)
    (cost_low d.world k x.slotless x.pick idle.ready calm.limits) in
    both_by (Rel z i (m + 1)) (went_push z c k) (went z c (push_by k x)) (values.went_push d k) (values.went d (push_by k x))
    (bytes.push_is z c k ∙ ap (λ e. went z c e) own) (plain.push_is d k ∙ ap (λ e. values.went d e) model)
    (rel_went L z fit i m low c d h (push_by k x) (push_by k x) (chosen_paid c.world k x all cheap) i (m + 1) (nothing_more i)
    (nothing_more i) (same_bound (m + 1)) (up_by_none m))

-- ---- and any push

pub push_any : Laws → (z : WorldSettings) → IsFitting z → (i m : ℕ) → i ≤ 16777216 → (c : Course) (d : values.Course) (k : ℕ)
    → Rel z i m c d → Rel z i (m + 1) (went_push z c k) (values.went d (value_event c.world (push_lowest c.world k)))
push_any L z fit i m low c d k h =
    let e = push_lowest c.world k in
    subst (λ (u : Course). Rel z i (m + 1) u (values.went d (value_event c.world e))) (sym (bytes.push_is z c k))
    (rel_went L z fit i m low c d h e (value_event c.world e) refl i (m + 1) (nothing_more i) (nothing_more i)
    (same_bound (m + 1)) (up_by_none m))
