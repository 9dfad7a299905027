-- What a Push sends fits and reads back: what the laws on values say of the world behind the push holds of its client.
use Rattle.std.proofs.Common.{◌≡◌, ℕ, suc, ◌+◌, ◌*◌, ◌<◌, ◌≤◌, ◌^◌, ◌-◌, ◌==◌, nat_le, Bool, true, false, if◌then◌else◌}
use Rattle.std.proofs.Common.{List, [], ◌∷◌, ◌++◌}
use Rattle.std.proofs.Common.{refl, sym, ap, ◌∙◌, subst, arith, Option, Some, slice_get}
use Rattle.spec_wire.specs.messages.Places.{number_of}
use Rattle.spec_exchange.specs.Table.{put}
use Rattle.spec_exchange.specs.State.{Message}
use Rattle.spec_exchange.specs.CheckSetup.{last_tree}
use Rattle.spec_exchange.specs.Opens.{id_of, max_ids}
use Rattle.spec_exchange.specs.Operations.{is_ok, weight, charge}
use Rattle.spec_exchange.specs.Client.{Client, Identity, own_message, ask_message, create_for, guid_for}
use Rattle.spec_exchange.specs.ClientStep.{Pick, Act, Sends, Asks, Pushes, client_after, act}
use Rattle.spec_exchange.specs.Network.{World as Values, Event, Push, Conn, Sent, Token, ForOp, ForAttach, Settings}
use Rattle.spec_exchange.specs.Network.{happens, later, changed}
use Rattle.spec_exchange.specs.Network.{pushed_by, send_up, run, start}
use Rattle.law_sessions.specs.messages.Connections.{makes_open, its_create, create_at}
use Rattle.law_sessions.proofs.messages.Run.{makes_one}
use Rattle.law_sessions.proofs.messages.Reached.{run_more}
use Rattle.spec_wire.specs.credits.Ids.{counted}
use Rattle.spec_wire.specs.credits.Exchange.{NothingIsRefused}
use Rattle.spec_wire.specs.credits.Purse.{Credits}
use Rattle.spec_world.specs.Settings.{WorldSettings, identity_of, values_of}
use Rattle.spec_world.specs.Ends.{ClientEnd}
use Rattle.spec_world.specs.World.{World}
use Rattle.law_ties.specs.wire_facts.Lawful.{IsLawful}
use Rattle.law_ties.specs.wire_facts.Steps.{restarts_in, submits_in}
use Rattle.law_ties.specs.events.Links.{IsTied}
use Rattle.law_ties.proofs.events.InStep.{next_low}
use Rattle.law_ties.specs.requests.Sending.{IsLineMessage}
use Rattle.law_replies.proofs.counters.Bounds.{restarts_more, submits_more}
use Rattle.law_dialogs.specs.runs.Bounds.{PushBounds}
use Rattle.law_runs.specs.untampered.Plain.{RequestsAreShort}
use Rattle.law_runs.proofs.untampered.Salt.{salt_fits}
use Rattle.law_runs.proofs.untampered.Values.{Facts, facts_at}
use Rattle.law_runs.proofs.untampered.Requests.{own_reads, creates, slot_low, own_plain, asked_plain, charge_fits, charge_some}

-- ---- numbers

pub small_id : (a r : ℕ) → r < 4294967295 → a ≤ id_of (1 + r) max_ids → a < 256 ^ 8
small_id a r few l = omega (arith, few, l)

small_file : (a e g r : ℕ) → r < 4294967295 → a ≤ id_of e g → e ≤ 1 + r → g ≤ max_ids → a < 256 ^ 8
small_file a e g r few l m h = omega (arith, few, l, m, h)

small_guid : (salt g : ℕ) → salt < 2 ^ 64 → g < 2 ^ 64 → salt * 0x1_0000_0000_0000_0000 + g < 256 ^ 16
small_guid salt g s l = omega (arith, s, l)

below : (g t n : ℕ) → g ≤ t → t ≤ n → n < 2 ^ 64 → g < 2 ^ 64
below g t n a b c = omega (arith, a, b, c)

small_sequence : (n : ℕ) → n ≤ 32767 → n < 256 ^ 2
small_sequence n l = omega (arith, l)

pub small_tree : (n : ℕ) → n ≤ last_tree → n < 256 ^ 4
small_tree n l = omega (arith, l)

small_next : (n l : ℕ) → n ≡ l → l ≤ 2 ^ 64 - 1 → n < 256 ^ 8
small_next n l e h = omega (arith, e, h)

-- ---- the world behind a Push, by what the client does

abbrev next_by : Values → ℕ → Client → Act → Values
next_by v k d a = later (pushed_by v k d a) 1

if_true : {X : Type 0} (b : Bool) (x y : X) → b ≡ true → (if b then x else y) ≡ x
if_true true x y e = refl
if_true false x y e = absurd (let h : false ≡ true = e in cc)

next_is : (z : Settings) (v : Values) (es : List Event) (k : ℕ) (slotless : List ℕ) (pick : Option Pick) → v ≡ run es (start z)
    → v.client.ready k ≡ true
    → next_by v k (client_after v.client (Pushes k slotless pick)) (act v.client (Pushes k slotless pick))
    ≡ run (es ++ Push k slotless pick ∷ []) (start z)
next_is z v es k slotless pick e ready =
    let x = Push k slotless pick in
    let made : happens v x ≡ next_by v k (client_after v.client (Pushes k slotless pick)) (act v.client (Pushes k slotless pick)) =
    if_true (v.client.ready k) (later (changed v x) 1) v ready in
    sym made ∙ (ap (λ u. happens u x) e ∙ sym (run_more es x (start z)))

none_more : (a b : ℕ) → a ≡ b + 0 → a ≡ b
none_more a b e = omega (arith, e)

restarts_next : (es : List Event) (k : ℕ) (slotless : List ℕ) (pick : Option Pick)
    → restarts_in (es ++ Push k slotless pick ∷ []) ≡ restarts_in es
unfolding restarts_in
restarts_next es k slotless pick =
    none_more (restarts_in (es ++ Push k slotless pick ∷ [])) (restarts_in es) (restarts_more es (Push k slotless pick))

submits_next : (es : List Event) (k : ℕ) (slotless : List ℕ) (pick : Option Pick)
    → submits_in (es ++ Push k slotless pick ∷ []) ≡ submits_in es
unfolding submits_in
submits_next es k slotless pick =
    none_more (submits_in (es ++ Push k slotless pick ∷ [])) (submits_in es) (submits_more es (Push k slotless pick))

-- ---- what was sent is the last that waits

last_found : (xs : List Sent) (x : Sent) → (n : ℕ) × (slice_get (xs ++ x ∷ []) n ≡ Some x)
last_found [] x = (0, refl)
last_found (y ∷ ys) x = (let r = last_found ys x in (suc r.0, r.1))

put_here : (conns : ℕ → Conn) (k : ℕ) (d : Conn) → put conns k d k ≡ d
put_here conns k d = ap (λ b. if b then d else conns k) (self k)
  where
    self : (n : ℕ) → (n == n) ≡ true
    self n = grind arith

sent_found : (conns : ℕ → Conn) (k n : ℕ) (t : Token) (m : Message)
    → (i : ℕ) × (slice_get (put conns k (send_up (conns k) t m n) k).up i ≡ Some (record { token = t; message = m }))
sent_found conns k n t m =
    let x : Sent = record { token = t; message = m } in
    let r = last_found (conns k).up x in
    (r.0, ap (λ (d : Conn). slice_get d.up r.0) (put_here conns k (send_up (conns k) t m n)) ∙ r.1)

-- ---- a client whose numbers fit

record Fit (z : WorldSettings) (c : Client) : Type 0 where
  who : c.who ≡ identity_of z
  sequence : c.sequence < 256 ^ 2
  session : c.session < 256 ^ 8
  tree : c.tree < 256 ^ 4

fit_of : (z : WorldSettings) (es : List Event) (v : Values) → Facts (values_of z) es v → restarts_in es < 4294967295 → Fit z v.client
fit_of z es v f few =
    let sits = f.sits in
    let talk = f.talk in
    let low = f.low in
    record {
      who = talk.who;
      sequence = small_sequence v.client.sequence sits.sequence_low;
      session = small_id v.client.session (restarts_in es) few low.session;
      tree = small_tree v.client.tree low.tree;
    }

guid_fits : (z : WorldSettings) (c : Client) (g : ℕ) → c.who ≡ identity_of z → g < 2 ^ 64 → guid_for c g < 256 ^ 16
guid_fits z c g who l =
    small_guid c.who.salt g (subst (λ (i : Identity). i.salt < 2 ^ 64) (sym who) (salt_fits z)) l

-- an operation that was taken, and its create
taken_low : (z : WorldSettings) (es : List Event) (v : Values) → Facts (values_of z) es v → submits_in es < 2 ^ 64 → (g : ℕ)
    → g ≤ v.client.taken → g < 2 ^ 64
taken_low z es v f few g l =
    let bounded = f.bounded in below g v.client.taken (submits_in es) l bounded.taken few

file_low : (z : WorldSettings) (es : List Event) (v : Values) → Facts (values_of z) es v → restarts_in es < 4294967295 → (q : ℕ)
    → makes_open (v.client.op q) ≡ true → is_ok (v.client.outcome q) ≡ true → v.client.file q < 256 ^ 8
file_low z es v f few q mk ok =
    let made = f.made in
    let bounded = f.bounded in
    let named = made.file_guid q mk ok in
    small_file (v.client.file q) v.server.epoch v.server.open_ids_given (restarts_in es) few named.0 bounded.epoch f.given

-- ---- the client's messages on a connection's purse

abbrev Paid : ClientEnd → ℕ → Type 0
Paid n charge = nat_le (counted charge) n.purse.held ≡ true

line_of : NothingIsRefused → (z : WorldSettings) (w : World) → IsTied z w → (k : ℕ) → (w.wires k).client_end.purse.next < 256 ^ 8
line_of held z w i k =
    let t = i.tied k in
    let link = t.link in
    small_next (w.wires k).client_end.purse.next link.line.purse.next (ap (λ (p : Credits). p.next) link.purse)
    (next_low held link.line link.reached)

sends_fit : NothingIsRefused → RequestsAreShort → (z : WorldSettings) → IsLawful z → (w : World) → IsTied z w → (k : ℕ) (es : List Event)
    (v : Values) → Facts (values_of z) es v → restarts_in es < 4294967295 → submits_in es < 2 ^ 64 → (g : ℕ)
    → v.client.sent g ≡ true → (0 < g) × (g ≤ v.client.taken) → Paid (w.wires k).client_end (charge (weight (v.client.op g)))
    → IsLineMessage z (w.wires k).client_end k (own_message v.client k (w.wires k).client_end.purse.next g)
    (charge (weight (v.client.op g)))
unfolding its_create
sends_fit held short z law w i k es v f few taken g sent own paid =
    let c = v.client in
    let op = c.op g in
    let fit = fit_of z es v f few in
    let keeps = f.kept g own.0 own.1 in
    let carried = f.carried in
    let locked = f.locked in
    let guid = guid_for c g in
    let file = c.file (create_for c g) in
    let plain = own_plain op guid file (c.slot_of g) (c.number_of g) in
    let file_fits : makes_open op ≡ false → file < 256 ^ 8 =
    λ no_create. (let q = carried.creates g own.0 own.1 no_create in
    file_low z es v f few (create_for c g) q.2 (makes_one op (c.outcome (create_for c g)) (carried.has_open g sent) no_create)) in
    let commands = law.commands in
    let requests = short op guid file (c.slot_of g) (c.number_of g) keeps in
    record {
      connection = refl;
      client = ap (λ (who : Identity). who.guid) fit.who;
      fault = refl;
      id = refl;
      sent = record {
        charge_fits = charge_fits op keeps;
        channel_sequence = fit.sequence;
        message_id = line_of held z w i k;
        tree_id = fit.tree;
        session_id = fit.session;
      };
      paid = paid;
      positive = charge_some (weight op);
      small = plain.small;
      greets_not = plain.greets_not;
      sets_up_not = plain.sets_up_not;
      cancels_not = plain.cancels_not;
      short = requests.0;
      reads = own_reads commands op guid file (c.slot_of g) (c.number_of g) keeps
          (guid_fits z c g fit.who (taken_low z es v f taken g own.1)) file_fits
          (λ locks. slot_low (c.slot_of g) (locked.slot_index g sent locks)) (f.numbers g);
    }

asks_fit : NothingIsRefused → RequestsAreShort → (z : WorldSettings) → IsLawful z → (w : World) → IsTied z w → (k : ℕ) (es : List Event)
    (v : Values) → Facts (values_of z) es v → restarts_in es < 4294967295 → submits_in es < 2 ^ 64 → (g : ℕ)
    → (0 < g) × (g ≤ v.client.taken) → makes_open (v.client.op g) ≡ false → is_ok (v.client.outcome (create_at v.client g)) ≡ true
    → Paid (w.wires k).client_end 1
    → IsLineMessage z (w.wires k).client_end k (ask_message v.client k (w.wires k).client_end.purse.next g) 1
unfolding its_create
asks_fit held short z law w i k es v f few taken g own no_create ok paid =
    let c = v.client in
    let create = create_for c g in
    let op = c.op create in
    let fit = fit_of z es v f few in
    let carried = f.carried in
    let q = carried.creates g own.0 own.1 no_create in
    let within = lower create g c.taken q.1 own.1 in
    let keeps = f.kept create q.0 within in
    let makes = creates op q.2 in
    let guid = guid_for c create in
    let file = c.file create in
    let plain = asked_plain op guid file makes in
    let commands = law.commands in
    let requests = short op guid file 0 0 keeps in
    record {
      connection = refl;
      client = ap (λ (who : Identity). who.guid) fit.who;
      fault = refl;
      id = refl;
      sent = record {
        charge_fits = omega arith;
        channel_sequence = fit.sequence;
        message_id = line_of held z w i k;
        tree_id = fit.tree;
        session_id = fit.session;
      };
      paid = paid;
      positive = omega arith;
      small = plain.small;
      greets_not = plain.greets_not;
      sets_up_not = plain.sets_up_not;
      cancels_not = plain.cancels_not;
      short = requests.1;
      reads = λ t h b fits is pays told. commands.attach t h b op guid file fits is told keeps makes
          (guid_fits z c create fit.who (taken_low z es v f taken create within)) (file_low z es v f few create q.2 ok);
    }
  where
    lower : (a b n : ℕ) → a < b → b ≤ n → a ≤ n
    lower a b n l m = omega (arith, l, m)

-- ---- behind the push

sends_behind : NothingIsRefused → RequestsAreShort → (z : WorldSettings) → IsLawful z → (w : World) → IsTied z w → (k : ℕ)
    (more : List Event) (d : Client) (a : Act) → Facts (values_of z) more (next_by w.values k d a) → restarts_in more < 4294967295
    → submits_in more < 2 ^ 64 → (g : ℕ) → a ≡ Sends g → Paid (w.wires k).client_end (charge (weight (d.op g)))
    → IsLineMessage z (w.wires k).client_end k (own_message d k (w.wires k).client_end.purse.next g) (charge (weight (d.op g)))
sends_behind held short z law w i k more d a f restarts submits g e paid =
    let v = next_by w.values k d (Sends g) in
    let facts : Facts (values_of z) more v = subst (λ b. Facts (values_of z) more (next_by w.values k d b)) e f in
    let carried = facts.carried in
    let conn = w.values.conns k in
    let found = sent_found w.values.conns k (charge (weight (d.op g))) (ForOp g) (own_message d k conn.next_id g) in
    let body = carried.bodies k found.0 g (record { token = ForOp g; message = own_message d k conn.next_id g }) found.1 refl in
    sends_fit held short z law w i k more v facts restarts submits g body.0 (carried.taken g body.0) paid

asks_behind : NothingIsRefused → RequestsAreShort → (z : WorldSettings) → IsLawful z → (w : World) → IsTied z w → (k : ℕ)
    (more : List Event) (d : Client) (a : Act) → Facts (values_of z) more (next_by w.values k d a) → restarts_in more < 4294967295
    → submits_in more < 2 ^ 64 → (g : ℕ) → a ≡ Asks g → Paid (w.wires k).client_end 1
    → IsLineMessage z (w.wires k).client_end k (ask_message d k (w.wires k).client_end.purse.next g) 1
asks_behind held short z law w i k more d a f restarts submits g e paid =
    let v = next_by w.values k d (Asks g) in
    let facts : Facts (values_of z) more v = subst (λ b. Facts (values_of z) more (next_by w.values k d b)) e f in
    let locked = facts.locked in
    let conn = w.values.conns k in
    let found = sent_found w.values.conns k 1 (ForAttach g) (ask_message d k conn.next_id g) in
    let asked = locked.ask_up k found.0 g (record { token = ForAttach g; message = ask_message d k conn.next_id g }) found.1 refl in
    asks_fit held short z law w i k more v facts restarts submits g (asked.0, asked.1) asked.2 asked.3 paid

pub pushes_fit : NothingIsRefused → RequestsAreShort → (z : WorldSettings) → IsLawful z → (w : World) (es : List Event)
    → w.values ≡ run es (start (values_of z)) → IsTied z w → restarts_in es < 4294967295 → submits_in es < 2 ^ 64
    → (k : ℕ) (slotless : List ℕ) (pick : Option Pick) → w.values.client.ready k ≡ true → PushBounds z w k slotless pick
pushes_fit held short z law w es is i few taken k slotless pick ready =
    let c = w.values.client in
    let d = client_after c (Pushes k slotless pick) in
    let a = act c (Pushes k slotless pick) in
    let more = es ++ Push k slotless pick ∷ [] in
    let at : next_by w.values k d a ≡ run more (start (values_of z)) = next_is (values_of z) w.values es k slotless pick is ready in
    let f = facts_at (values_of z) more (next_by w.values k d a) at in
    let restarts = subst (λ n. n < 4294967295) (sym (restarts_next es k slotless pick)) few in
    let submits = subst (λ n. n < 2 ^ 64) (sym (submits_next es k slotless pick)) taken in
    record {
      sends = λ g e paid. sends_behind held short z law w i k more d a f restarts submits g e paid;
      asks = λ g e paid. asks_behind held short z law w i k more d a f restarts submits g e paid;
    }
