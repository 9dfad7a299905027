-- In every run without tampering there is a number where the success of a binding comes.
use Rattle.std.proofs.Common.{◌≡◌, ℕ, zero, suc, ◌+◌, ◌<◌, ◌≤◌, ◌^◌, ◌==◌, Bool, true, false, if◌then◌else◌, List, []}
use Rattle.std.proofs.Common.{◌∷◌, ◌++◌, refl, sym, ap}
use Rattle.std.proofs.Common.{◌∙◌, subst, arith, Option, Some}
use Rattle.std.proofs.lemmas.List.{append_assoc}
use Rattle.spec_exchange.specs.Table.{is_filled}
use Rattle.spec_exchange.specs.Status.{success}
use Rattle.spec_exchange.specs.State.{Accept, End}
use Rattle.spec_exchange.specs.Operations.{weight, charge}
use Rattle.spec_exchange.specs.Client.{Client, Stage, SaidSecond, own_message, ask_message}
use Rattle.spec_exchange.specs.ClientStep.{Pick, Act, Nothing, Sends, Asks, CloseChannel, CloseChannels, AllSettled}
use Rattle.spec_exchange.specs.ClientStep.{Pushes, client_after, act}
use Rattle.spec_exchange.specs.Step.{step}
use Rattle.spec_exchange.specs.Network.{World as Values, Event, Submit, Open, Push, Serve, Take, Cut, Drop, Restart, Crash, Wait, Finish}
use Rattle.spec_exchange.specs.Network.{Sent, Received, ForOp, ForAttach, is_possible, moments, run, start}
use Rattle.law_sessions.proofs.messages.Lists.{front_up}
use Rattle.law_sessions.proofs.sessions.Always.{sessions}
use Rattle.law_answers.proofs.statuses.Waits.{plain_up}
use Rattle.spec_wire.specs.credits.Exchange.{Line, NothingIsRefused}
use Rattle.spec_crypto.specs.declared.sessions.material.Keys.{Keys}
use Rattle.spec_exchange.specs.Fold.{recovery_records}
use Rattle.law_records.proofs.recovery.Restarts.{bare_fold}
use Rattle.law_server.proofs.tables.Logic.{either, front_of}
use Rattle.spec_world.specs.Settings.{WorldSettings, values_of}
use Rattle.spec_world.specs.Messages.{HeardMessage}
use Rattle.spec_world.specs.Ends.{ClientEnd, ServerEnd, Logons}
use Rattle.spec_world.specs.Dialog.{dialog_response, own_final}
use Rattle.spec_world.specs.World.{World, Wires, fresh_wires, greeting_of, paid, pushed_wires, pushed_with, cut_wires}
use Rattle.spec_world.specs.World.{absorb_frame, take_frame}
use Rattle.spec_world.specs.World.{restarted_wires}
use Rattle.spec_world.specs.Events.{ByteEvent, Plain, bytes_changed, bytes_later, bytes_happen, bytes_run, bytes_start}
use Rattle.spec_world.specs.Statements.{plainly, plain_run, value_events}
use Rattle.law_ties.specs.wire_facts.Fitting.{IsFitting}
use Rattle.law_ties.specs.wire_facts.Lawful.{IsLawful, WireFacts}
use Rattle.law_ties.specs.wire_facts.Steps.{restarts_in, submits_in}
use Rattle.law_ties.specs.events.Links.{Shared, Talks, Waits, Comes as ComesDown, Lost, Coming, is_lined, IsTied}
use Rattle.law_dialogs.proofs.dialog_requests.Front.{shared_at}
use Rattle.law_ties.specs.channel_numbers.Counted.{makes_new, binds, Counted}
use Rattle.law_ties.proofs.channel_numbers.Moves.{not_both}
use Rattle.law_ties.proofs.channel_numbers.Runs.{happen_next, start_counted}
use Rattle.law_nonces.proofs.negotiation.Making.{FaultFine}
use Rattle.law_nonces.specs.server_nonces.Numbering.{NonceKeeps, NonceDraws}
use Rattle.law_nonces.proofs.server_nonces.Serving.{absorb_keeps}
use Rattle.law_nonces.proofs.server_nonces.Drawing.{same_draws, accept_numbers, end_numbers}
use Rattle.law_nonces.specs.client_nonces.Sent.{HasNumber, HasSealingRoom}
use Rattle.law_dialogs.specs.runs.Bounds.{RunsGoInStep}
use Rattle.law_dialogs.proofs.runs.Supplied.{Supplies}
use Rattle.law_runs.proofs.untampered.Prefix.{restarts_part, submits_part}
use Rattle.law_runs.proofs.untampered.Plain.{in_step}
use Rattle.law_runs.proofs.accepted.Takes.{one_comes}
use Rattle.law_runs.proofs.accepted.Runs.{bytes_more, nothing_happened, part_by, on_plain_runs}
use Rattle.law_runs.proofs.sealed.Serves.{Shuts}
use Rattle.law_runs.proofs.sealed.Runs.{shuts}
use Rattle.law_runs.specs.binding_room.Room.{PlainRunsHaveRoom}
use Rattle.law_runs.proofs.binding_room.Few.{few_none}
use Rattle.law_runs.proofs.binding_room.Rooms.{Comes, none_comes, RoomsOf, same_low, one, line}
use Rattle.law_runs.proofs.binding_room.Takes.{BeginsAt, cut, takes}
use Rattle.law_runs.proofs.binding_room.Worlds.{RoomOf, IsFineUp, serves, absorbs, restarts}
use Rattle.law_runs.proofs.binding_room.Still.{IsStill, push_still, cut_still, take_still}

-- ---- where a new session's success comes

same_heard : (a b : HeardMessage) → Some a ≡ Some b → a ≡ b
same_heard a b e = cc

same_first : (a b : List ℕ) → a ∷ [] ≡ b ∷ [] → a ≡ b
same_first a b e = cc

none_down : {X : Type 0} (down : List (List ℕ)) (b : List ℕ) → down ≡ [] → down ≡ b ∷ [] → X
none_down down b e d = absurd (let h : [] ≡ b ∷ [] = sym e ∙ d in cc)

lasting_at : (z : WorldSettings) (s : Shared) (k : ℕ) (so : Bool) (n : ClientEnd) (f : ServerEnd) (up down : List (List ℕ)) (xs : List Sent)
    (ys : List Received) (l : Line) (stage : Stage) (b : List ℕ) (y : HeardMessage) → stage ≡ SaidSecond false → down ≡ b ∷ []
    → dialog_response n (SaidSecond false) b ≡ Some y → (y.header.status == success) ≡ true
    → Talks z s k so n f up down xs ys l stage → s.logons.keys s.pending ≡ own_final n false s.pending
lasting_at z s k so n f up down xs ys l stage b y at e r ok (Waits c x e1 e2 e3 e4 g) = none_down down b e3 e
lasting_at z s k so n f up down xs ys l stage b y at e r ok (Lost e1 e2 e3 e4 e5) = none_down down b e3 e
lasting_at z s k so n f up down xs ys l stage b y at e r ok (ComesDown a v e1 e2 e3 e4 c) =
    let C : Coming z s k so n f b v l.grants (SaidSecond false) =
    subst (λ q. Coming z s k so n f b v l.grants q) at
    (subst (λ q. Coming z s k so n f q v l.grants stage) (same_first a b (sym e3 ∙ e)) c) in
    let is : y ≡ C.heard = same_heard y C.heard (sym r ∙ C.opens) in
    let last = C.lasting (ap (λ (q : HeardMessage). q.header.status == success) (sym is) ∙ ok) in
    last.0

-- no dialog binds while one makes a session
none_binds : (w : World) (k : ℕ) → Counted w → Shuts w → makes_new (w.values.client.stage k) ≡ true → (j : ℕ) → Comes (w.wires j) → ⊥
none_binds w k c shut makes j comes = by (w.values.conns j).client_open refl
  where
    by : (o : Bool) → (w.values.conns j).client_open ≡ o → ⊥
    by false e = none_comes (w.wires j) (shut j e) comes
    by true e =
        let dead = c.not_live k (c.making k makes) in
        not_both (binds (w.values.client.stage j)) (ap binds (sym (c.stages j e) ∙ comes.2)) (c.none_binds dead j)

begins_at : (z : WorldSettings) (w : World) (es : List Event) → w.values ≡ run es (start (values_of z)) → IsTied z w → Shuts w → Counted w
    → (h : RoomOf w) → (k : ℕ) → (w.values.conns k).client_open ≡ true → BeginsAt h.drawn w k
begins_at z w es is i shut c h k co b y e at r ok =
    let n = (w.wires k).client_end in
    let u = w.wires k in
    let d = w.values.conns k in
    let t = i.tied k in
    let off : is_lined n.stage ≡ false = ap is_lined at in
    let last : w.logons.keys w.values.client.pending ≡ own_final n false w.values.client.pending =
    lasting_at z (shared_at w) k d.server_open n u.server_end u.up u.down d.up d.down t.link.line n.stage b y at e r ok (t.talk co off) in
    let stage : w.values.client.stage k ≡ SaidSecond false = sym (c.stages k co) ∙ at in
    let s = sessions (values_of z) es in
    let there = s.pending_given k (ap (λ (v : Values). v.client.stage k) (sym is) ∙ stage) in
    let up : 0 < w.values.client.pending = subst (λ (v : Values). 0 < v.client.pending) (sym is) there.0 in
    record {
      drew = h.given w.values.client.pending up (ap (λ (q : Keys). q.session) last);
      none = none_binds w k c shut (ap makes_new stage);
    }

-- ---- one event

opened : (z : WorldSettings) (w : World) (k : ℕ) → RoomOf w → RoomOf (bytes_changed z w (Open k))
opened z w k h =
    let v = w.values in
    let A = step v.server v.moment (Accept k) in
    let u : Wires = fresh_wires z w (greeting_of z w k) (A.reply.status == success) in
    record {
      drawn = h.drawn;
      draws = same_draws v.server A.server h.drawn (accept_numbers v.server v.moment k) h.draws;
      low = h.low;
      given = h.given;
      few = one h.drawn w.keys.session w.numbers w.wires k u (λ c. none_comes u refl c) h.few;
    }

-- what leaves the server and its logons
still : (w x : World) (h : RoomOf w) → IsStill w x → RoomsOf h.drawn x → RoomOf x
still w x h s few =
    record {
      drawn = h.drawn;
      draws = subst (λ q. NonceDraws q h.drawn) (sym s.server) h.draws;
      low = h.low;
      given = λ y up e. h.given y up (sym (ap (λ (q : Logons). (q.keys y).session) s.logons) ∙ e);
      few = few;
    }

pushed : (drawn : ℕ → ℕ) (w : World) (k : ℕ) (c : Client) (a : Act) → RoomsOf drawn w → RoomsOf drawn (pushed_wires w k c a)
pushed drawn w k c (Sends g) h =
    line drawn w k (ForOp g) (own_message c k (w.wires k).client_end.purse.next g) (charge (weight (c.op g))) h
pushed drawn w k c (Asks g) h = line drawn w k (ForAttach g) (ask_message c k (w.wires k).client_end.purse.next g) 1 h
pushed drawn w k c Nothing h = h
pushed drawn w k c CloseChannel h = h
pushed drawn w k c CloseChannels h = h
pushed drawn w k c AllSettled h = h

pushes : (w : World) (k : ℕ) (slotless : List ℕ) (pick : Option Pick) → RoomOf w → RoomOf (pushed_with w k slotless pick)
pushes w k slotless pick h =
    still w (pushed_with w k slotless pick) h (push_still w k slotless pick)
    (pushed h.drawn w k (client_after w.values.client (Pushes k slotless pick)) (act w.values.client (Pushes k slotless pick)) h.few)

dropped : (z : WorldSettings) (w : World) (k : ℕ) → RoomOf w → RoomOf (bytes_changed z w (Drop k))
dropped z w k h =
    let v = w.values in
    record {
      drawn = h.drawn;
      draws = same_draws v.server (step v.server v.moment (End k)).server h.drawn (end_numbers v.server v.moment k) h.draws;
      low = h.low;
      given = h.given;
      few = one h.drawn w.keys.session w.numbers w.wires k (record (w.wires k) { up = [] }) (λ c. c) h.few;
    }

-- what is known of a world before its event
record Before (z : WorldSettings) (w : World) : Type 0 where
  tied : IsTied z w
  supplies : Supplies z w
  shut : Shuts w
  kept : NonceKeeps w
  fine : IsFineUp w
  begins : (h : RoomOf w) (k : ℕ) → (w.values.conns k).client_open ≡ true → BeginsAt h.drawn w k

crashes : NothingIsRefused → (z : WorldSettings) → IsLawful z → (w : World) → Before z w → (k : ℕ) (kept : Bool)
    → (w.values.conns k).server_open ≡ true → RoomOf w
    → RoomOf (restarted_wires (if kept then absorb_frame z w k (w.wires k).up (w.values.conns k).up else w))
crashes held z law w p k true so h =
    let m = absorb_keeps z w k (w.wires k).up (w.values.conns k).up p.kept so in
    restarts (absorb_frame z w k (w.wires k).up (w.values.conns k).up) m.tables
    (absorbs held z law w p.tied p.supplies p.shut p.kept p.fine k so (w.wires k).up (w.values.conns k).up refl refl h)
crashes held z law w p k false so h = (let t = p.kept in restarts w t.tables h)

changes : NothingIsRefused → (z : WorldSettings) → IsLawful z → (w : World) → Before z w → (e : Event) → is_possible w.values e ≡ true
    → RoomOf w → RoomOf (bytes_changed z w e)
changes held z law w p (Submit g op) may h = h
changes held z law w p (Open k) may h = opened z w k h
changes held z law w p (Push k slotless pick) may h = pushes w k slotless (paid w k slotless pick) h
changes held z law w p (Serve k) may h =
    serves held z law w p.tied p.supplies p.shut p.kept p.fine k
    (front_of (w.values.conns k).server_open (is_filled (w.values.conns k).up) may)
    (w.wires k).up (w.values.conns k).up refl refl h
changes held z law w p (Take k) may h =
    let co = front_of (w.values.conns k).client_open (is_filled (w.values.conns k).down) may in
    still w (take_frame z w k (w.wires k).down (w.values.conns k).down) h (take_still z w k (w.wires k).down (w.values.conns k).down)
    (takes h.drawn z w p.tied k co (w.wires k).down (w.values.conns k).down refl (p.begins h k co) h.few)
changes held z law w p (Cut k) may h = still w (cut_wires w k) h (cut_still w k) (cut h.drawn w k h.few)
changes held z law w p (Drop k) may h = dropped z w k h
changes held z law w p Restart may h = (let t = p.kept in restarts w t.tables h)
changes held z law w p (Crash k kept) may h =
    crashes held z law w p k kept (front_of (w.values.conns k).server_open (is_filled (w.values.conns k).up) may) h
changes held z law w p (Wait n) may h = h
changes held z law w p (Finish refusal) may h = h

happens : NothingIsRefused → (z : WorldSettings) → IsLawful z → (w : World) → Before z w → (e : Event) → RoomOf w
    → RoomOf (bytes_happen z w (Plain e))
happens held z law w p e h =
    either RoomOf (is_possible w.values e) (bytes_later (bytes_changed z w e) (moments e)) w
    (λ may. changes held z law w p e may h) (λ _. h)

-- ---- a run

abbrev pub AreKept : Type 0
AreKept = (z : WorldSettings) (es : List ByteEvent) → NonceKeeps (bytes_run z es (bytes_start z))

record Kept (w : World) : Type 0 where
  room : RoomOf w
  counted : Counted w

fine_up : (z : WorldSettings) (w : World) (es : List Event) → w.values ≡ run es (start (values_of z)) → IsFineUp w
fine_up z w es is k x xs e =
    let up : ((run es (start (values_of z))).conns k).up ≡ x ∷ xs = ap (λ (v : Values). (v.conns k).up) (sym is) ∙ e in
    let plain = plain_up (values_of z) es k 0 x (front_up ((run es (start (values_of z))).conns k).up x xs up) in
    subst FaultFine (sym plain.fault) tt

none_drawn : (z : WorldSettings) → NonceDraws (bytes_start z).values.server (λ x. 0)
none_drawn z =
    let bare = bare_fold ([] ++ recovery_records []) in
    record {
      present = λ x p. absurd (let h = bare.absent x in let g : true ≡ false = sym p ∙ h in cc);
      making = λ k x e. refl;
      fresh = λ x above. refl;
    }

not_above : (x : ℕ) → 0 < x → 0 ≡ x → ⊥
not_above x up e = omega (arith, up, e)

zero_low : 0 < 2 ^ 16
zero_low = omega arith

first : (z : WorldSettings) → RoomOf (bytes_start z)
first z =
    record {
      drawn = λ x. 0;
      draws = none_drawn z;
      low = λ x. zero_low;
      given = λ x up e. absurd (not_above x up e);
      few = few_none (λ j. Comes ((bytes_start z).wires j)) (bytes_start z).numbers 0
          (λ j c. none_comes ((bytes_start z).wires j) refl c) (same_low 0);
    }

next : NothingIsRefused → AreKept → (z : WorldSettings) → IsLawful z → (before : List Event) (e : Event) → IsTied z (plain_run z before)
    → Supplies z (plain_run z before)
    → (plain_run z before).values ≡ run (value_events z (bytes_start z) before) (start (values_of z)) → Kept (plain_run z before)
    → Kept (bytes_happen z (plain_run z before) (Plain e))
next held kept z law before e i s is h =
    let w = plain_run z before in
    let es = value_events z (bytes_start z) before in
    let shut = shuts z before is in
    let n = happen_next z w (Plain e) h.counted in
    let p : Before z w = record {
      tied = i;
      supplies = s;
      shut = shut;
      kept = kept z (plainly before);
      fine = fine_up z w es is;
      begins = λ r k co. begins_at z w es is i shut h.counted r k co;
    } in
    record { room = happens held z law w p e h.room; counted = n.counted }

kept_at : NothingIsRefused → WireFacts → RunsGoInStep → AreKept → (z : WorldSettings) (events : List Event) → IsFitting z
    → restarts_in events < 4294967295 → submits_in events < 2 ^ 64 → Kept (plain_run z events)
kept_at held facts runs kept z events fit few taken =
    on_plain_runs Kept held facts runs z events fit few taken (λ before e i s is h. next held kept z (facts z fit) before e i s is h)
    (record { room = first z; counted = start_counted z })

-- ---- the number of one more

room_by : (n d : ℕ) → n + suc zero ≤ d → d < 2 ^ 16 → n < 65535
room_by n d h low = omega (arith, h, low)

number_at : (z : WorldSettings) (w : World) → IsTied z w → Kept w → HasNumber w
number_at z w i h k b bs x co stage e r ok =
    let n = (w.wires k).client_end in
    let u = w.wires k in
    let d = w.values.conns k in
    let t = i.tied k in
    let g = h.room in
    let at : n.stage ≡ SaidSecond true = i.stages k co ∙ stage in
    let off : is_lined n.stage ≡ false = ap is_lined at in
    let alone : bs ≡ [] =
    one_comes z (shared_at w) k d.server_open n u.server_end u.up u.down d.up d.down t.link.line n.stage b bs e (t.talk co off) in
    room_by w.numbers (g.drawn w.keys.session)
    (g.few (k ∷ []) (tt, tt) ((b, x, at, e ∙ ap (λ q. b ∷ q) alone, r, ok), tt)) (g.low w.keys.session)

rooms : NothingIsRefused → WireFacts → RunsGoInStep → AreKept → (z : WorldSettings) (events : List Event) → IsFitting z
    → restarts_in events < 4294967295 → submits_in events < 2 ^ 64 → (es before : List Event) → before ++ es ≡ events
    → HasSealingRoom z es (plain_run z before)
rooms held facts runs kept z events fit few taken [] before part = tt
rooms held facts runs kept z events fit few taken (e ∷ es) before part =
    let restarts = part_by (restarts_in before) (restarts_in (before ++ e ∷ es)) 4294967295 (restarts_part before (e ∷ es))
    (subst (λ xs. restarts_in xs < 4294967295) (sym part) few) in
    let submits = part_by (submits_in before) (submits_in (before ++ e ∷ es)) (2 ^ 64) (submits_part before (e ∷ es))
    (subst (λ xs. submits_in xs < 2 ^ 64) (sym part) taken) in
    let r = in_step held facts runs z before fit restarts submits in
    let here = number_at z (plain_run z before) r.tied (kept_at held facts runs kept z before fit restarts submits) in
    let later = rooms held facts runs kept z events fit few taken es (before ++ e ∷ []) (append_assoc before (e ∷ []) es ∙ part) in
    (here, subst (λ (x : World). HasSealingRoom z es x) (bytes_more z before e (bytes_start z)) later)

pub have_room : AreKept → NothingIsRefused → WireFacts → RunsGoInStep → PlainRunsHaveRoom
have_room kept held facts runs z events fit few taken =
    subst (λ (x : World). HasSealingRoom z events x) (sym (nothing_happened z))
    (rooms held facts runs kept z events fit few taken events [] refl)
