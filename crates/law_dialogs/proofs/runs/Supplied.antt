-- What the laws on single events ask of a world's values, by the laws on what waits, where the bounds that are left hold.
use Rattle.std.proofs.Common.{◌≡◌, ℕ, ◌≤◌, nat_le, Bool, true, false, not, ◌&&◌, if◌then◌else◌, List, [], ◌∷◌, length}
use Rattle.std.proofs.Common.{refl, sym, ap, ◌∙◌, subst, Option, None}
use Rattle.spec_exchange.specs.Commands.{Command}
use Rattle.spec_exchange.specs.Operations.{charge, weight}
use Rattle.spec_exchange.specs.Client.{settle_no_slots, Stage, Apart, SaidNegotiate, SaidFirst, SaidSecond, AskedTree}
use Rattle.spec_exchange.specs.ClientStep.{Pick, Act, Nothing, Sends, Asks, CloseChannels, AllSettled, Pushes}
use Rattle.spec_exchange.specs.ClientStep.{act, client_after, pick_act, some_unsettled}
use Rattle.spec_exchange.specs.Network.{World as Values, Event, Sent, Received, run, start}
use Rattle.spec_wire.specs.credits.Ids.{counted}
use Rattle.spec_wire.specs.credits.Exchange.{Line}
use Rattle.law_sessions.specs.sessions.Sessions.{makes_session}
use Rattle.spec_world.specs.Settings.{WorldSettings, values_of}
use Rattle.spec_world.specs.Ends.{ClientEnd, ServerEnd}
use Rattle.spec_world.specs.Sending.{may_seal}
use Rattle.spec_world.specs.World.{World, cost, cost_of, greeting_of, may_pay, paid}
use Rattle.law_ties.specs.events.Links.{Shared, shared_of, Talks, Waits, Comes, Lost, IsDialogCommand, is_lined, IsTied}
use Rattle.law_ties.specs.requests.Lines.{is_lines, IsLineFront}
use Rattle.law_ties.specs.requests.Pushed.{PushFits}
use Rattle.law_ties.specs.channel_numbers.Counted.{binds}
use Rattle.law_dialogs.specs.dialog_requests.Serving.{IsDialogFront}
use Rattle.law_dialogs.specs.dialog_responses.Talking.{goes_on, IsGoing}
use Rattle.law_dialogs.specs.acceptance.Accepting.{IsAccepting}
use Rattle.law_dialogs.specs.waiting.Due.{IsWaitingDue}
use Rattle.law_dialogs.proofs.waiting.Alone.{dialogs_are_alone}
use Rattle.law_dialogs.proofs.waiting.Apart.{sessions_are_apart}
use Rattle.law_dialogs.specs.runs.Bounds.{PushBounds, LineBounds, DialogBounds, GoingBounds, AcceptingBounds, RunBounds}

-- all that they ask but for `IsWaitingDue`
pub record Supplies (z : WorldSettings) (w : World) : Type 0 where
  pub opens : (k : ℕ) → length (greeting_of z w k) ≤ 66000
  pub pushes :
      (k : ℕ) (slotless : List ℕ) (pick : Option Pick) → w.values.client.ready k ≡ true → PushFits z w k slotless (paid w k slotless pick)
  pub lines :
      (k : ℕ) (x : Sent) (xs : List Sent) → (w.values.conns k).server_open ≡ true → (w.values.conns k).up ≡ x ∷ xs →
      is_lines x.message.command ≡ true → IsLineFront z w k x
  pub dialogs :
      (k : ℕ) (x : Sent) (xs : List Sent) → (w.values.conns k).server_open ≡ true → (w.values.conns k).up ≡ x ∷ xs →
      is_lines x.message.command ≡ false → IsDialogFront z w k x xs
  pub going :
      (k : ℕ) (y : Received) (ys : List Received) → (w.values.conns k).client_open ≡ true → (w.values.conns k).down ≡ y ∷ ys →
      goes_on (w.values.client.stage k) ≡ true → IsGoing z w k y
  pub accepting :
      (k : ℕ) → (w.values.conns k).client_open ≡ true → w.values.client.stage k ≡ SaidSecond false → IsAccepting z w k

-- ---- a line's request waits where the client's end, if it is open, is a line: of a dialog another message waits

own_command : (stage : Stage) (c : Command) → is_lined stage ≡ false → IsDialogCommand stage c → is_lines c ≡ false
own_command Apart c off e = absurd (let h : true ≡ false = off in cc)
own_command AskedTree c off e = absurd (let h : true ≡ false = off in cc)
own_command (SaidNegotiate bound) c off e = ap is_lines e
own_command (SaidFirst bound) c off e = ap is_lines e.1
own_command (SaidSecond bound) c off e = ap is_lines e.1

not_both : {X : Type 0} (b : Bool) → b ≡ true → b ≡ false → X
not_both b e f = absurd (let h : true ≡ false = sym e ∙ f in cc)

front_same : (v x : Sent) (xs : List Sent) → v ∷ [] ≡ x ∷ xs → v ≡ x
front_same v x xs e = cc

none_waits : (z : WorldSettings) (s : Shared) (k : ℕ) (so : Bool) (n : ClientEnd) (f : ServerEnd) (up down : List (List ℕ)) (xs : List Sent)
    (ys : List Received) (l : Line) (stage : Stage) (x : Sent) (rest : List Sent) → so ≡ true → xs ≡ x ∷ rest
    → is_lines x.message.command ≡ true → is_lined stage ≡ false → Talks z s k so n f up down xs ys l stage → ⊥
none_waits z s k so n f up down xs ys l stage x rest o e line off (Comes a y e1 e2 e3 e4 c) =
    absurd (let q : [] ≡ x ∷ rest = sym e2 ∙ e in cc)
none_waits z s k so n f up down xs ys l stage x rest o e line off (Lost e1 e2 e3 e4 e5) =
    absurd (let q : [] ≡ x ∷ rest = sym e2 ∙ e in cc)
none_waits z s k so n f up down xs ys l stage x rest o e line off (Waits b v e1 e2 e3 e4 w) =
    let g = w o in
    let q : v ≡ x = front_same v x rest (sym e2 ∙ e) in
    not_both (is_lines x.message.command) line
    (ap (λ (r : Sent). is_lines r.message.command) (sym q) ∙ own_command stage v.message.command off g.command)

lined_at : (z : WorldSettings) (w : World) → IsTied z w → (k : ℕ) (x : Sent) (xs : List Sent) → (w.values.conns k).server_open ≡ true
    → (w.values.conns k).up ≡ x ∷ xs → is_lines x.message.command ≡ true → (w.values.conns k).client_open ≡ true
    → is_lined (w.wires k).client_end.stage ≡ true
lined_at z w i k x xs so h line co = by (is_lined (w.wires k).client_end.stage) refl
  where
    by : (b : Bool) → is_lined (w.wires k).client_end.stage ≡ b → is_lined (w.wires k).client_end.stage ≡ true
    by true e = e
    by false e =
        let d = w.values.conns k in
        let u = w.wires k in
        let t = i.tied k in
        absurd (none_waits z (shared_of w.values.client w.keys w.logons) k d.server_open u.client_end u.server_end u.up u.down d.up d.down
        t.link.line u.client_end.stage x xs so h line e (t.talk co e))

-- ---- what goes up is paid for: another pick is as none

abbrev goes_up : Act → Bool
goes_up (Sends g) = true
goes_up (Asks g) = true
goes_up _ = false

ready_by : (r s : Bool) (a : Act) → goes_up (if r then a else if s then CloseChannels else AllSettled) ≡ true → goes_up a ≡ true
ready_by true s a e = e
ready_by false true a e = absurd (let h : false ≡ true = e in cc)
ready_by false false a e = absurd (let h : false ≡ true = e in cc)

none_goes : (b : Bool) → goes_up (if b then Nothing else AllSettled) ≡ true → ⊥
none_goes true e = absurd (let h : false ≡ true = e in cc)
none_goes false e = absurd (let h : false ≡ true = e in cc)

first_of : (a b : Bool) → (a && b) ≡ true → a ≡ true
first_of true b e = refl
first_of false b e = e

none_picked : (w : World) (k : ℕ) (slotless : List ℕ) → goes_up (act w.values.client (Pushes k slotless None)) ≡ true → ⊥
none_picked w k slotless e =
    let c = w.values.client in
    let d = settle_no_slots c k slotless in
    none_goes (some_unsettled d d.taken) (ready_by (c.ready k) (some_unsettled c c.taken) (pick_act d k None) e)

sends_paid : (w : World) (k : ℕ) (slotless : List ℕ) (pick : Option Pick) (g : ℕ) (b : Bool)
    → may_pay (w.wires k).client_end (cost w.values.client k slotless pick) ≡ b
    → act w.values.client (Pushes k slotless (if b then pick else None)) ≡ Sends g
    → nat_le (counted (charge (weight ((client_after w.values.client (Pushes k slotless (if b then pick else None))).op g))))
    (w.wires k).client_end.purse.held ≡ true
sends_paid w k slotless pick g true may e =
    let n = (w.wires k).client_end in
    let c = w.values.client in
    subst (λ x. nat_le (counted x) n.purse.held ≡ true) (ap (λ (a : Act). cost_of (client_after c (Pushes k slotless pick)) a) e)
    (first_of (nat_le (counted (cost c k slotless pick)) n.purse.held) (may_seal n) may)
sends_paid w k slotless pick g false may e = absurd (none_picked w k slotless (ap goes_up e))

asks_paid : (w : World) (k : ℕ) (slotless : List ℕ) (pick : Option Pick) (g : ℕ) (b : Bool)
    → may_pay (w.wires k).client_end (cost w.values.client k slotless pick) ≡ b
    → act w.values.client (Pushes k slotless (if b then pick else None)) ≡ Asks g
    → nat_le (counted 1) (w.wires k).client_end.purse.held ≡ true
asks_paid w k slotless pick g true may e =
    let n = (w.wires k).client_end in
    let c = w.values.client in
    subst (λ x. nat_le (counted x) n.purse.held ≡ true) (ap (λ (a : Act). cost_of (client_after c (Pushes k slotless pick)) a) e)
    (first_of (nat_le (counted (cost c k slotless pick)) n.purse.held) (may_seal n) may)
asks_paid w k slotless pick g false may e = absurd (none_picked w k slotless (ap goes_up e))

-- ---- what each event asks

push_fits : (z : WorldSettings) (w : World) → IsWaitingDue z w → (k : ℕ) (slotless : List ℕ) (pick : Option Pick)
    → w.values.client.ready k ≡ true
    → PushBounds z w k slotless (paid w k slotless pick) → PushFits z w k slotless (paid w k slotless pick)
push_fits z w d k slotless pick r b =
    let s = d.ready k r in
    let may = may_pay (w.wires k).client_end (cost w.values.client k slotless pick) in
    record {
      is_open = s.0;
      apart = s.1;
      sends = λ g e. b.sends g e (sends_paid w k slotless pick g may refl e);
      asks = λ g e. b.asks g e (asks_paid w k slotless pick g may refl e);
    }

line_front : (z : WorldSettings) (w : World) → IsTied z w → (k : ℕ) (x : Sent) (xs : List Sent) → (w.values.conns k).server_open ≡ true
    → (w.values.conns k).up ≡ x ∷ xs → is_lines x.message.command ≡ true → LineBounds z w x → IsLineFront z w k x
line_front z w i k x xs so h line b =
    record { line = line; lined = λ co. lined_at z w i k x xs so h line co; fits = b.fits; tells = b.tells }

dialog_front : (z : WorldSettings) (w : World) (values : List Event) → w.values ≡ run values (start (values_of z))
    → IsTied z w → IsWaitingDue z w
    → (k : ℕ) (x : Sent) (xs : List Sent) → (w.values.conns k).up ≡ x ∷ xs → is_lines x.message.command ≡ false → DialogBounds z w k x
    → IsDialogFront z w k x xs
dialog_front z w values e i d k x xs h talks b =
    record {
      talk = record { own = b.own; talks = talks; apart = sessions_are_apart z w values e i k x xs h };
      alone = dialogs_are_alone (values_of z) values k x xs (ap (λ (v : Values). (v.conns k).up) (sym e) ∙ h) b.own;
      unlined = λ co. ap is_lined (i.stages k co) ∙ b.unlined co;
      fits = b.fits;
      moment = b.moment;
      bound_session = λ co at. d.bound_session k (sym (ap binds (i.stages k co)) ∙ at);
      logs_on = λ co bound at ok. b.logs_on co bound (sym (i.stages k co) ∙ at) ok;
      seals = b.seals;
    }

makes : (stage : Stage) → goes_on stage ≡ true → binds stage ≡ false → makes_session stage ≡ true
makes Apart g e = absurd (let h : false ≡ true = g in cc)
makes AskedTree g e = absurd (let h : false ≡ true = g in cc)
makes (SaidNegotiate bound) g e = ap not e
makes (SaidFirst bound) g e = ap not e
makes (SaidSecond bound) g e = absurd (let h : false ≡ true = g in cc)

goes : (z : WorldSettings) (w : World) → IsWaitingDue z w → (k : ℕ) (y : Received) → goes_on (w.values.client.stage k)
    ≡ true → GoingBounds w y
    → IsGoing z w k y
goes z w d k y on b =
    record {
      who = d.who;
      session = b.session;
      accepted = b.accepted;
      pending = b.pending;
      told = b.told;
      bound_session = d.bound_session k;
      quiet = λ off. d.quiet k (makes (w.values.client.stage k) on off);
    }

accepts : (z : WorldSettings) (w : World) → IsWaitingDue z w → (k : ℕ) → w.values.client.stage k ≡ SaidSecond false → AcceptingBounds z w
    → IsAccepting z w k
accepts z w d k at b =
    record { who = d.who; pending = b.pending; short = b.short; quiet = d.quiet k (ap makes_session at) }

pub supplies : (z : WorldSettings) (w : World) (values : List Event) → w.values ≡ run values (start (values_of z))
    → IsTied z w → IsWaitingDue z w
    → RunBounds z w → Supplies z w
supplies z w values e i d b =
    record {
      opens = b.opens;
      pushes = λ k slotless pick r. push_fits z w d k slotless pick r (b.pushes k slotless pick r);
      lines = λ k x xs so h line. line_front z w i k x xs so h line (b.lines k x xs so h line);
      dialogs = λ k x xs so h talks. dialog_front z w values e i d k x xs h talks (b.dialogs k x xs so h talks);
      going = λ k y ys co h on. goes z w d k y on (b.going k y ys co h on);
      accepting = λ k co at. accepts z w d k at (b.accepting k co at);
    }
