-- Each event keeps what holds of locks.
use Rattle.std.proofs.Common.{eqb-true, ◌≡◌, ℕ, ◌+◌, ◌≤◌, ◌==◌, Bool, true, false, not, ◌&&◌, if◌then◌else◌, List, []}
use Rattle.std.proofs.Common.{◌∷◌, refl, arith, sym, subst, ◌∙◌, ap, Option, Some, None, slice_get}
use Rattle.spec_exchange.specs.Table.{put, is_filled}
use Rattle.spec_exchange.specs.Status.{success, user_session_deleted}
use Rattle.spec_exchange.specs.Commands.{deletes_on_close}
use Rattle.spec_exchange.specs.State.{Server, Reply, Answer, Open as OpenRow}
use Rattle.spec_exchange.specs.Records.{entry_bytes}
use Rattle.spec_exchange.specs.Fold.{recovery_records}
use Rattle.spec_exchange.specs.Operations.{Op, Outcome, Unsettled, WasOk, WasRefused, NoSlot, NoOpen, Unknown}
use Rattle.spec_exchange.specs.Operations.{NoSession, Why, SessionLost, is_unsettled, is_ok, is_create, persists}
use Rattle.spec_exchange.specs.Operations.{create_of, id_in, value_in, OpReply}
use Rattle.spec_exchange.specs.Client.{Client, Stage, Apart, SaidNegotiate, SaidFirst, SaidSecond, AskedTree}
use Rattle.spec_exchange.specs.Client.{create_for, guid_for, may_take, outcome_at_first, is_gone, is_gone_after}
use Rattle.spec_exchange.specs.Client.{cut_channel, ends_at_cut, end_session, outcome_after_end, plain_after_end}
use Rattle.spec_exchange.specs.Client.{unsent_after_end, is_taken, outcome_after_finish, finish}
use Rattle.spec_exchange.specs.Settling.{Heard as Hearing, Settles, GoesAgain, Attaches, EndsSession, heard, hear}
use Rattle.spec_exchange.specs.Settling.{is_awaited, answered, ok_or_unknown, refused, goes_again, refuses_all}
use Rattle.spec_exchange.specs.Settling.{may_have_acted, was_closed}
use Rattle.spec_exchange.specs.Dialogs.{DialogStep, GoesOn, Accepts, Binds, Readies, Refuses, dialog_step}
use Rattle.spec_exchange.specs.Dialogs.{dialog_message, went_on, accepted}
use Rattle.spec_exchange.specs.ClientStep.{Nothing, CloseChannels, act_heard, Pick}
use Rattle.spec_exchange.specs.Network.{World, Event, Submit, Open, Push, Serve, Take, Cut, Drop, Restart, Crash, Wait}
use Rattle.spec_exchange.specs.Network.{Finish, Conn, Sent, Received, Token, ForDialog, ForOp, ForAttach, op_of}
use Rattle.spec_exchange.specs.Network.{happens, changed, later, may_open, may_serve, answer, absorbed, replied}
use Rattle.spec_exchange.specs.Network.{serve_front, absorb_front, behind_front, take_front, take_reply, took_by}
use Rattle.spec_exchange.specs.Network.{dialog_took, op_took, closed_by, cut_by, with_client, behind_reply, restarted}
use Rattle.spec_exchange.specs.Network.{client_off}
use Rattle.spec_exchange.specs.Runs.{front_acts}
use Rattle.law_sessions.specs.messages.Connections.{Connections, copies, makes_open, its_create, acts_once}
use Rattle.law_sessions.proofs.messages.Lists.{front_up, front_down, waited_down, counted_down}
use Rattle.law_sessions.proofs.messages.Behind.{behind_keeps as exchange_behind_keeps}
use Rattle.law_sessions.proofs.messages.Answered.{answered_keeps as exchange_answered_keeps}
use Rattle.law_sessions.proofs.messages.Run.{next_of, both_ways, put_self, front_reply_gone, awaited_of, heard_firm, heard_ends}
use Rattle.law_sessions.proofs.messages.Run.{after, still_open, closed_of, ended_well}
use Rattle.law_server.specs.tables.Fits.{Fits}
use Rattle.law_server.proofs.tables.Logic.{either, not_true}
use Rattle.law_sessions.specs.sessions.Sessions.{Sessions, is_ops, makes_session}
use Rattle.law_records.specs.recovery.Restarted.{Restarted}
use Rattle.law_records.proofs.recovery.Restarts.{was_named, stood}
use Rattle.law_creates.specs.Creates.{Creates, seen, guid_at}
use Rattle.law_creates.proofs.Requests.{same_guid}
use Rattle.law_locks.specs.Locks.{Locks, firm, refused_for_good}
use Rattle.law_locks.proofs.Words.{down_is_open}
use Rattle.law_locks.proofs.Serving.{counted, Served}
use Rattle.law_locks.proofs.Serve.{Under, served}
use Rattle.law_locks.proofs.Ends.{accepts, ends}
use Rattle.law_locks.proofs.Pushing.{LocksHold, pushes}
use Rattle.law_locks.proofs.Lines.{Tells, heard_tells}
use Rattle.law_locks.proofs.Settling.{settles, own_for}
use Rattle.law_locks.proofs.Taking.{Taken, says_of}
use Rattle.law_locks.proofs.Submit.{submit_keeps}
use Rattle.law_locks.proofs.Opened.{opened_keeps}
use Rattle.law_locks.proofs.Dropped.{dropped_keeps}
use Rattle.law_locks.proofs.AllDropped.{all_dropped_keeps}
use Rattle.law_locks.proofs.Behind.{behind_keeps}
use Rattle.law_locks.proofs.Front.{front_keeps}
use Rattle.law_locks.proofs.DialogSent.{dialog_sent_keeps}
use Rattle.law_locks.proofs.WentOn.{went_on_keeps}
use Rattle.law_locks.proofs.Accepted.{accepted_keeps}
use Rattle.law_locks.proofs.Bound.{bound_keeps}
use Rattle.law_locks.proofs.DialogRefused.{dialog_refused_keeps}
use Rattle.law_locks.proofs.DialogOff.{dialog_off_keeps}
use Rattle.law_locks.proofs.Readied.{readied_keeps}
use Rattle.law_locks.proofs.Joined.{joined_keeps}
use Rattle.law_locks.proofs.Answered.{answered_keeps}
use Rattle.law_locks.proofs.Cut.{cut_keeps}
use Rattle.law_locks.proofs.Leave.{leave_keeps}
use Rattle.law_locks.proofs.Finish.{finish_keeps}
use Rattle.law_locks.proofs.Moves.{moves_keeps}
use Rattle.law_locks.proofs.Say.{MaySay, say_told}

-- what the layers below say at a world
pub record Known (w : World) (a : ℕ → ℕ) : Type 0 where
  pub under : Under w.client w.conns w.server a
  pub pushed : (k : ℕ) (slotless : List ℕ) (pick : Option Pick) → w.client.ready k ≡ true
      → Connections (changed w (Push k slotless pick)).client (changed w (Push k slotless pick)).conns a
  pub anew : Restarted w.server (restarted w).server
  pub anew_kept : (k : ℕ) → may_serve w k ≡ true → Restarted (absorb_front w k (w.conns k).up).server
      (restarted (absorb_front w k (w.conns k).up)).server

-- ---- Submit

unsent_next : (c : Client) (conns : ℕ → Conn) (a : ℕ → ℕ) (g : ℕ) → Connections c conns a → g ≡ c.taken + 1 → c.sent g ≡ false
unsent_next c conns a g C e = elim (c.sent g) as (λ b. c.sent g ≡ b → c.sent g ≡ false) [
  | true ↦ λ h. let t = C.taken g h in absurd (omega (arith, e, t.1))
  | false ↦ λ h. h
] refl

none_named : (c : Client) (conns : ℕ → Conn) (s : Server) (a : ℕ → ℕ) (g : ℕ) → Creates c conns (seen s) a → a g ≡ 0
    → s.by_guid c.who.guid (guid_for c g) ≡ None
none_named c conns s a g cr z = by_named (s.by_guid c.who.guid (guid_for c g)) refl
  where
    by_named : (u : Option ℕ) → s.by_guid c.who.guid (guid_for c g) ≡ u → u ≡ None
    by_named None e = refl
    by_named (Some o) e = let m = cr.made g o (subst (λ z. s.by_guid c.who.guid z ≡ Some o) (same_guid c g) e) in
        absurd (let l = m.1 in omega (arith, l, z))

first_quiet : (c : Client) (g : ℕ) (op : Op) → firm (outcome_at_first c g op) ≡ false × is_ok (outcome_at_first c g op) ≡ false
unfolding firm
first_quiet c g op =
    let P : Outcome → Type 0 = λ o. firm o ≡ false × is_ok o ≡ false in
    either P (is_create op) _ _ (λ _. (refl, refl)) (λ _. either P (is_gone c (create_of g op)) _ _ (λ _. (refl, refl)) (λ _. (refl, refl)))

gone_shut : (c : Client) (q : ℕ) (o : Outcome) → is_ok o ≡ true → c.closed_ok q ≡ true → is_gone_after c q o ≡ true
gone_shut c q (WasOk reply) e f = grind arith
gone_shut c q Unsettled e f = absurd (cc)
gone_shut c q (WasRefused status) e f = refl
gone_shut c q (NoSlot n) e f = refl
gone_shut c q (NoOpen n) e f = refl
gone_shut c q (Unknown why) e f = refl

first_gone : (c : Client) (g : ℕ) (op : Op) → ((q : ℕ) → c.closed_ok q ≡ true → is_ok (c.outcome q) ≡ true)
    → makes_open op ≡ false → c.closed_ok (its_create g op) ≡ true → is_unsettled (outcome_at_first c g op) ≡ false
unfolding makes_open its_create
first_gone c g op made m sh =
    let P : Outcome → Type 0 = λ o. is_unsettled o ≡ false in
    either P (is_create op) Unsettled (if is_gone c (create_of g op) then NoOpen (create_of g op) else Unsettled)
    (λ e. absurd (grind arith))
    (λ _. either P (is_gone c (create_of g op)) (NoOpen (create_of g op)) Unsettled (λ _. refl)
    (λ off. absurd (let x = sym (gone_shut c (create_of g op) (c.outcome (create_of g op))
    (made (create_of g op) sh) sh) ∙ off in cc)))

submits : (w : World) (a : ℕ → ℕ) (g : ℕ) (op : Op) → Known w a → LocksHold w a → LocksHold (changed w (Submit g op)) a
submits w a g op b i =
    let c = w.client in
    either (λ d. Locks d w.conns w.server a) (may_take c g op) _ _
    (λ may. let e = next_of c g op may in let un = unsent_next c w.conns a g b.under.links e in
    let never = (b.under.links.fresh g un).1 in let q = first_quiet c g op in
    submit_keeps c w.conns w.server a g op (outcome_at_first c g op) e q.0 q.1
    (none_named c w.conns w.server a g b.under.creates never)
    (λ m sh. first_gone c g op (λ x y. (i.shut_made x y).0) m sh) never b.under.links i)
    (λ _. i)

-- ---- Serve

takes_front : (w : World) (a : ℕ → ℕ) (k : ℕ) (x : Sent) (rest : List Sent) → (w.conns k).up ≡ x ∷ rest
    → Served w.client w.conns a k x (answer w x) → LocksHold (absorbed w k x rest (answer w x))
    (counted a x.token (answer w x).acted)
takes_front w a k x rest is good = front_keeps w.client w.conns (answer w x).server
    (counted a x.token (answer w x).acted) k x rest is good.0

heads : (w : World) (a : ℕ → ℕ) (k : ℕ) (x : Sent) (rest : List Sent) → (w.conns k).up ≡ x ∷ rest → Known w a
    → LocksHold w a → Served w.client w.conns a k x (answer w x)
heads w a k x rest is b i = served w.client w.conns w.server a k x w.moment b.under i
    (front_up (w.conns k).up x rest is) x.message.command refl

says : (w : World) (a : ℕ → ℕ) (k : ℕ) (x : Sent) (rest : List Sent) (place : ℕ) → (w.conns k).up ≡ x ∷ rest
    → Served w.client w.conns a k x (answer w x)
    → LocksHold (replied (absorbed w k x rest (answer w x)) k (record {
      token = x.token;
      reply = (answer w x).reply;
      place = place;
    })) (counted a x.token (answer w x).acted)
says w a k x rest place is good =
    let f : ℕ → Conn = put w.conns k (behind_front (w.conns k) rest) in
    let A : Answer = answer w x in
    let j = takes_front w a k x rest is good in
    either (λ d. Locks w.client (put f k d) A.server (counted a x.token A.acted)) (f k).client_open _ _
    (λ o. say_told w.client f A.server (counted a x.token A.acted) k (record {
      token = x.token;
      reply = A.reply;
      place = place;
    }) (good.1 (still_open w.conns k rest o) place) j)
    (λ _. subst (λ d. Locks w.client d A.server (counted a x.token A.acted)) (put_self f k) j)

serves : (w : World) (a : ℕ → ℕ) (k : ℕ) → Known w a → LocksHold w a → (xs : List Sent) → (w.conns k).up ≡ xs
    → LocksHold (serve_front w k xs) (λ g. if front_acts w xs g then a g + 1 else a g)
serves w a k b i [] is = i
serves w a k b i (x ∷ rest) is = says w a k x rest w.log.places is (heads w a k x rest is b i)

absorbs : (w : World) (a : ℕ → ℕ) (k : ℕ) → Known w a → LocksHold w a → (xs : List Sent) → (w.conns k).up ≡ xs
    → LocksHold (absorb_front w k xs) (λ g. if front_acts w xs g then a g + 1 else a g)
absorbs w a k b i [] is = i
absorbs w a k b i (x ∷ rest) is = takes_front w a k x rest is (heads w a k x rest is b i)

serve_open : (w : World) (a : ℕ → ℕ) (k : ℕ) → Known w a → LocksHold w a → (b : Bool)
    → LocksHold (if b then later (serve_front w k (w.conns k).up) 1 else w) (λ g. if b && front_acts w (w.conns k).up g
    then a g + 1 else a g)
serve_open w a k f i true = serves w a k f i (w.conns k).up refl
serve_open w a k f i false = i

-- ---- Restart and Crash

no_two : (b : Bool) (P : Type 0) → b ≡ true → b ≡ false → P
no_two b P e f = absurd (grind arith)

more_journal : (n m : ℕ) → n ≤ n + m
more_journal n m = omega arith

anew_locks : (c : Client) (conns : ℕ → Conn) (s u : Server) (a : ℕ → ℕ) → Connections c conns a → s.journal ≤ u.journal
    → Restarted s u → Locks c conns s a → Locks c conns u a
anew_locks c conns s u a C grown r i =
    moves_keeps c conns s a u a (λ p m. refl) grown
    (λ j n x h o p. no_two (u.present x.message.session_id) _ p (r.bare.absent x.message.session_id))
    (λ l p. no_two (u.present c.session) _ p (r.bare.absent c.session))
    (λ q m ok st. (stood s u r (c.file q) st).0)
    (λ o y at st p. no_two (u.present y) _ p (r.bare.absent y))
    (λ q n m ok st. r.lock_sequences (c.file q) n (sym (r.standing (c.file q)) ∙ st))
    (λ q m ok st. ap (λ (z : OpenRow). z.persistent) (stood s u r (c.file q) st).2)
    (λ q m ok st pl g. no_two (s.opened (c.file q)).persistent _ (stood s u r (c.file q) st).1 pl)
    (λ q n o m ok e. let wn = was_named s u r c.who.guid (guid_for c q) o e in r.lock_sequences o n wn.1 ∙ i.no_slots q n o m ok wn.0)
    i.made_plain
    (λ o st. let t = stood s u r o st in subst (λ (z : OpenRow). deletes_on_close z.options ≡ false) (sym t.2) (i.kept_files o t.0))
    (λ j n g y h t m e st. (stood s u r (id_in y.reply.body) st).0)
    (λ g m s0 un lv at1 p st off. no_two (u.present c.session) _ p (r.bare.absent c.session))
    (λ j n g y h t e lv p st off. no_two (u.present c.session) _ p (r.bare.absent c.session))
    C i

restarts : (w : World) (a : ℕ → ℕ) → Connections w.client w.conns a → Restarted w.server (restarted w).server
    → LocksHold w a → LocksHold (restarted w) a
restarts w a C r i = all_dropped_keeps w.client w.conns (restarted w).server a
    (anew_locks w.client w.conns w.server (restarted w).server a C
    (more_journal w.server.journal (entry_bytes (recovery_records w.records))) r i)

crash_open : (w : World) (a : ℕ → ℕ) (k : ℕ) → Known w a
    → (may_serve w k ≡ true → Connections (absorb_front w k (w.conns k).up).client
    (absorb_front w k (w.conns k).up).conns (λ g. if front_acts w (w.conns k).up g then a g + 1 else a g))
    → LocksHold w a → (kept b : Bool) → may_serve w k ≡ b
    → LocksHold (if b then later (if kept then restarted (absorb_front w k (w.conns k).up) else restarted w) 1 else w)
    (λ g. if kept && (b && front_acts w (w.conns k).up g) then a g + 1 else a g)
crash_open w a k f C i true true e = restarts (absorb_front w k (w.conns k).up) _ (C e) (f.anew_kept k e)
    (absorbs w a k f i (w.conns k).up refl)
crash_open w a k f C i true false e = i
crash_open w a k f C i false true e = restarts w a f.under.links f.anew i
crash_open w a k f C i false false e = i

-- ---- the session's end

end_same : (c : Client) (h : ℕ) (o : Outcome) → is_unsettled o ≡ false → outcome_after_end c h o ≡ o
end_same c h Unsettled e = absurd (cc)
end_same c h (WasOk reply) e = refl
end_same c h (WasRefused status) e = refl
end_same c h (NoSlot n) e = refl
end_same c h (NoOpen n) e = refl
end_same c h (Unknown why) e = refl

-- what it leaves of an unsettled operation
abbrev Ended : Client → ℕ → Outcome → Type 0
Ended c h o = (firm o ≡ false × is_ok o ≡ false) × (refused_for_good o ≡ true → c.sent h ≡ false)

unsent_ended : (c : Client) (h create : ℕ) (b : Bool) (o : Outcome) → c.sent h ≡ false → Ended c h (unsent_after_end create b o)
unfolding firm refused_for_good
unsent_ended c h create true Unsettled e = ((refl, refl), λ _. e)
unsent_ended c h create false Unsettled e = ((refl, refl), λ x. absurd (cc))
unsent_ended c h create b (WasOk reply) e = ((refl, refl), λ _. e)
unsent_ended c h create b (WasRefused status) e = ((refl, refl), λ _. e)
unsent_ended c h create b (NoSlot n) e = ((refl, refl), λ _. e)
unsent_ended c h create b (NoOpen n) e = ((refl, refl), λ _. e)
unsent_ended c h create b (Unknown why) e = ((refl, refl), λ _. e)

plain_ended : (c : Client) (h create : ℕ) → Ended c h (plain_after_end c h create)
unfolding firm refused_for_good
plain_ended c h create =
    either (λ o. Ended c h o) (c.sent h) (Unknown (SessionLost c.session_number)) _ (λ _. ((refl, refl), λ x. absurd (cc)))
    (λ e. either (λ o. Ended c h o) (is_create (c.op h)) Unsettled _ (λ _. ((refl, refl), λ x. absurd (cc)))
    (λ _. unsent_ended c h create (c.sent create) (c.outcome create) e))

end_gives : (c : Client) (h : ℕ) (o : Outcome) → is_unsettled o ≡ true → Ended c h (outcome_after_end c h o)
unfolding firm refused_for_good
end_gives c h Unsettled e = either (λ o. Ended c h o) (persists (c.op (create_for c h))) Unsettled
    (plain_after_end c h (create_for c h)) (λ _. ((refl, refl), λ x. absurd (cc)))
    (λ _. plain_ended c h (create_for c h))
end_gives c h (WasOk reply) e = absurd (cc)
end_gives c h (WasRefused status) e = absurd (cc)
end_gives c h (NoSlot n) e = absurd (cc)
end_gives c h (NoOpen n) e = absurd (cc)
end_gives c h (Unknown why) e = absurd (cc)

leaves : (c : Client) (conns : ℕ → Conn) (s : Server) (a : ℕ → ℕ) → Connections c conns a → Locks c conns s a
    → Locks (end_session c) (λ j. client_off (conns j)) s a
leaves c conns s a C i = leave_keeps c conns s a (λ g. outcome_after_end c g (c.outcome g))
    (λ h e. end_same c h (c.outcome h) e) (λ h e. (end_gives c h (c.outcome h) e).0)
    (λ h e f. (end_gives c h (c.outcome h) e).1 f) C i

-- ---- Take

attaches_by : (c : Client) (g : ℕ) (asking : Bool) (r : Reply) → heard c g asking r ≡ Attaches → asking ≡ true × r.status ≡ success
attaches_by c g asking r = by_line
  where
    Is : Hearing → Type 0
    Is h = h ≡ Attaches → asking ≡ true × r.status ≡ success

    by_ok : (b : Bool) → asking ≡ b → (r.status == success) ≡ true → Is (if b then Attaches else ok_or_unknown (value_in (c.op g) r.body))
    by_ok true e s = λ _. (e, eqb-true r.status success s)
    by_ok false e s = by_value (value_in (c.op g) r.body)
      where
        by_value : (v : Option OpReply) → Is (ok_or_unknown v)
        by_value None = λ f. absurd (cc)
        by_value (Some reply) = λ f. absurd (cc)

    by_refused : Is (refused (c.op g) asking (c.unanswered g) r.status)
    by_refused =
        either Is (not (c.unanswered g)) _ _ (λ _ f. absurd (cc)) (λ _. either Is (was_closed (c.op g) asking r.status)
        _ _ (λ _ f. absurd (cc))
        (λ _. either Is (may_have_acted (c.op g) asking r.status) _ _ (λ _ f. absurd (cc))
        (λ _. either Is (refuses_all (c.op g) r.status) _ _ (λ _ f. absurd (cc)) (λ _ f. absurd (cc)))))

    by_line : Is (heard c g asking r)
    by_line =
        either Is (r.status == user_session_deleted) _ _ (λ _ f. absurd (cc))
        (λ _. either Is (r.status == success) _ _ (λ s. by_ok asking refl s)
        (λ _. either Is (goes_again c g asking r.status) _ _ (λ _ f. absurd (cc)) (λ _. by_refused)))

hears : (w : World) (a : ℕ → ℕ) (k g : ℕ) (asking : Bool) (y : Received) → Taken w.client w.conns w.server a k g asking
    y → (asking ≡ false → acts_once (w.client.op g) ≡ true → y.reply.status ≡ user_session_deleted
    → w.client.unanswered g ≡ false → a g ≡ 0)
    → (h : Hearing) → heard w.client g asking y.reply ≡ h
    → LocksHold (with_client (closed_by w k (act_heard h)) (hear w.client g asking y.reply y.place h)) a
hears w a k g asking y t gone (Settles o) e =
    let firm0 = heard_firm w.client g asking y.reply o e in
    settles w.client w.conns w.server a k g asking y.reply y.place o (says_of w.client w.conns w.server a k g asking y o
    t (subst (λ h. Tells (w.client.op g) asking (w.client.unanswered g) y.reply.status h) e
    (heard_tells w.client g asking y.reply)) firm0)
hears w a k g asking y t gone GoesAgain e = answered_keeps w.client w.conns w.server a g t.locks
hears w a k g asking y t gone Attaches e =
    let at = attaches_by w.client g asking y.reply e in
    let tk = t.ask at.0 in
    joined_keeps w.client w.conns w.server a g (create_for w.client g) (own_for w.client g)
    (λ m ok lv p st. subst (λ z. w.server.standing (w.client.file z) ≡ true → w.server.session_of_open (w.client.file z)
    ≡ Some w.client.session) (sym (own_for w.client g)) (λ sd. t.said.of_join_reply g tk at.1 lv p sd) st)
    (λ lv p st. subst (λ z. w.server.standing (w.client.file z) ≡ false → w.client.attached z ≡ w.client.session_number)
    (sym (own_for w.client g)) (λ sd. t.said.of_joined_reply g tk at.1 lv p sd) st) t.locks
hears w a k g asking y t gone EndsSession e =
    leaves (answered w.client g) w.conns w.server a
    (exchange_answered_keeps w.client w.conns a k g t.outstanding_on t.none
    (λ o b q. gone (sym t.asks ∙ q) o (heard_ends w.client g asking y.reply e) b) t.links)
    (answered_keeps w.client w.conns w.server a g t.locks)

took : (w : World) (a : ℕ → ℕ) (k g : ℕ) (asking : Bool) (y : Received)
    → (w.client.outstanding_on g ≡ Some k → w.client.asks_attach g ≡ asking → Taken w.client w.conns w.server a k g
    asking y) → (asking ≡ false → acts_once (w.client.op g) ≡ true → y.reply.status ≡ user_session_deleted
    → w.client.unanswered g ≡ false → a g ≡ 0) → LocksHold w a
    → LocksHold (op_took w k g asking y.reply y.place) a
took w a k g asking y t gone i =
    both_ways (λ c x. LocksHold (with_client (closed_by w k x) c) a) (is_awaited w.client k g asking)
    (hear w.client g asking y.reply y.place (heard w.client g asking y.reply)) w.client
    (act_heard (heard w.client g asking y.reply)) Nothing
    (λ aw. let q = awaited_of w.client k g asking aw in hears w a k g asking y (t q.0 q.1) gone (heard w.client g asking y.reply) refl)
    (λ _. i)

-- ---- dialogs

readies_stage : (t : Stage) (status : ℕ) → dialog_step t status ≡ Readies → t ≡ AskedTree
readies_stage Apart status e = absurd (cc)
readies_stage (SaidNegotiate bound) status e = absurd (grind arith)
readies_stage (SaidFirst bound) status e = absurd (grind arith)
readies_stage (SaidSecond true) status e = absurd (grind arith)
readies_stage (SaidSecond false) status e = absurd (grind arith)
readies_stage AskedTree status e = refl

dead_of : (c : Client) (conns : ℕ → Conn) (s : Server) (k : ℕ) → Sessions c conns s → c.stage k ≡ AskedTree → c.live ≡ false
dead_of c conns s k ss e =
    let m : c.making ≡ Some k = ss.making k (ap makes_session e) in
    elim c.live as (λ b. c.live ≡ b → c.live ≡ false) [
      | true ↦ λ q. let l = (ss.live_accepted q).2 in
          absurd (some_none c.making k m l)
      | false ↦ λ q. q
    ] refl
  where
    some_none : (u : Option ℕ) (k : ℕ) → u ≡ Some k → u ≡ None → ⊥
    some_none u k e f = absurd (grind arith)

up_behind : (conns : ℕ → Conn) (k : ℕ) (rest : List Received) (j n : ℕ) (x : Sent)
    → slice_get (put conns k (take_front (conns k) rest) j).up n ≡ Some x → slice_get (conns j).up n ≡ Some x
up_behind conns k rest j n x h = grind arith

absent_up : (c : Client) (conns : ℕ → Conn) (s : Server) (k : ℕ) → Sessions c conns s → c.stage k ≡ AskedTree
    → (j n : ℕ) (x : Sent) → slice_get (conns j).up n ≡ Some x → is_ops x.token ≡ true → s.present x.message.session_id
    ≡ false
absent_up c conns s k ss e j n x h o = elim (s.present x.message.session_id) as (λ b. s.present x.message.session_id ≡ b
    → s.present x.message.session_id ≡ false) [
      | true ↦ λ p. absurd (ss.asked_fresh k j n x e h o (ss.present_accepted x.message.session_id p
          (ss.ranked_up j n x h o) ∙ sym (ss.pending_accepted k e).0))
      | false ↦ λ p. p
    ] refl

idle_down : (c : Client) (conns : ℕ → Conn) (s : Server) (a : ℕ → ℕ) (k : ℕ) → Connections c conns a
    → Sessions c conns s → c.stage k ≡ AskedTree → (j n : ℕ) (y : Received) → slice_get (conns j).down n ≡ Some y
    → is_ops y.token ≡ false
idle_down c conns s a k C ss e j n y h = elim (is_ops y.token) as (λ b. is_ops y.token ≡ b → is_ops y.token ≡ false) [
  | true ↦ λ o. no_two c.live _ (ss.current_down j n y h o (down_is_open conns C.down_open j n y h)).0 (dead_of c conns s k ss e)
  | false ↦ λ o. o
] refl

-- of the connections in front of the reply the sessions are known
dialogs : (w : World) (a : ℕ → ℕ) (k : ℕ) (rest : List Received) (y : Received) → (w.conns k).down ≡ y ∷ rest
    → Known w a → Connections w.client (put w.conns k (take_front (w.conns k) rest)) a → w.client.ready k ≡ false
    → LocksHold (behind_reply w k rest) a
    → (d : DialogStep) → dialog_step (w.client.stage k) y.reply.status ≡ d → LocksHold (dialog_took (behind_reply w k rest) k y.reply d) a
dialogs w a k rest y is b C apart i (GoesOn stage) e =
    let f : ℕ → Conn = put w.conns k (take_front (w.conns k) rest) in
    dialog_sent_keeps (went_on w.client k stage y.reply) f w.server a k 1
    (dialog_message (went_on w.client k stage y.reply) k (f k).next_id stage)
    (went_on_keeps w.client f w.server a k stage y.reply i)
dialogs w a k rest y is b C apart i Accepts e =
    let f : ℕ → Conn = put w.conns k (take_front (w.conns k) rest) in
    dialog_sent_keeps (accepted w.client k) f w.server a k 1 (dialog_message (accepted w.client k) k (f k).next_id
    AskedTree) (accepted_keeps w.client f w.server a k i)
dialogs w a k rest y is b C apart i Binds e =
    let f : ℕ → Conn = put w.conns k (take_front (w.conns k) rest) in
    ended_well (λ v. LocksHold v a) (behind_reply w k rest) k w.client.session w.client.tree
    (λ _. bound_keeps w.client f w.server a k i) (λ dead newer. absurd (omega (arith, newer)))
    (dialog_off_keeps w.client f w.server a k apart C i)
dialogs w a k rest y is b C apart i Readies e =
    let st = readies_stage (w.client.stage k) y.reply.status e in
    let f : ℕ → Conn = put w.conns k (take_front (w.conns k) rest) in
    ended_well (λ v. LocksHold v a) (behind_reply w k rest) k w.client.pending y.reply.tree_id (λ _. bound_keeps w.client f w.server a k i)
    (λ _ _. readied_keeps w.client f w.server a k w.client.pending y.reply.tree_id
    (λ j n x h o. absent_up w.client w.conns w.server k b.under.sessions st j n x (up_behind w.conns k rest j n x h) o)
    (λ j n z h. let v = waited_down w.conns k y rest j n z is h in idle_down w.client w.conns w.server a k b.under.links
    b.under.sessions st j v.0 z v.1) i)
    (dialog_off_keeps w.client f w.server a k apart C i)
dialogs w a k rest y is b C apart i (Refuses status) e = dialog_refused_keeps w.client
    (put w.conns k (take_front (w.conns k) rest)) w.server a k status apart C i

-- ---- a reply that is taken

unsettled_on : (c : Client) (g k : ℕ) → ((h : ℕ) → is_unsettled (c.outcome h) ≡ false → c.outstanding_on h ≡ None)
    → c.outstanding_on g ≡ Some k → is_unsettled (c.outcome g) ≡ true
unsettled_on c g k f e = elim (is_unsettled (c.outcome g)) as (λ b. is_unsettled (c.outcome g) ≡ b
    → is_unsettled (c.outcome g) ≡ true) [ true ↦ λ q. q | false ↦ λ q. let h = f g q in absurd (grind arith) ] refl

said_of : (c : Client) (conns : ℕ → Conn) (s : Server) (a : ℕ → ℕ) (k : ℕ) (y : Received) → Locks c conns s a
    → slice_get (conns k).down 0 ≡ Some y → MaySay c s a y
said_of c conns s a k y i f0 =
    record {
      of_ask_down = λ g t. i.ask_down k 0 g y f0 t;
      of_opened_reply = λ g t. i.opened_reply k 0 g y f0 t;
      of_join_reply = λ g t. i.join_reply k 0 g y f0 t;
      of_joined_reply = λ g t. i.joined_reply k 0 g y f0 t;
      of_lost_reply = λ g t. i.lost_reply k 0 g y f0 t;
      of_ok_reply = λ g t. i.ok_reply k 0 g y f0 t;
      of_no_reply = λ g t. i.no_reply k 0 g y f0 t;
      of_kept_reply = λ g t. i.kept_reply k 0 g y f0 t;
      of_first_reply = λ g t. i.first_reply k 0 g y f0 t;
      of_close_done = λ g t. i.close_done k 0 g y f0 t;
      of_close_full = λ g t. i.close_full k 0 g y f0 t;
      of_close_stuck = λ g t. i.close_stuck k 0 g y f0 t;
    }

named_by : (c : Client) (conns : ℕ → Conn) (s : Server) (a : ℕ → ℕ) (k g : ℕ) (y : Received) → Creates c conns (seen s)
    a → Fits s → slice_get (conns k).down 0 ≡ Some y → y.token ≡ ForOp g → makes_open (c.op g) ≡ true → y.reply.status
    ≡ success → s.standing (id_in y.reply.body) ≡ true
    → s.by_guid c.who.guid (guid_for c g) ≡ Some (id_in y.reply.body)
named_by c conns s a k g y cr f f0 t m st sd =
    let rg = (cr.reply_guid k 0 g y f0 t m st).1 sd in
    subst (λ z. s.by_guid c.who.guid z ≡ Some (id_in y.reply.body)) (sym (same_guid c g))
    (subst (λ z. s.by_guid z (guid_at c g) ≡ Some (id_in y.reply.body)) rg.0
    (f.open_guid (id_in y.reply.body) (guid_at c g) sd rg.1))

no_dialog : (c : Client) (conns : ℕ → Conn) (k : ℕ) → ((k : ℕ) → c.ready k ≡ true → (conns k).client_open ≡ true
    × c.live ≡ true × copies 0 (conns k) ≡ 0) → 1 ≤ copies 0 (conns k) → c.ready k ≡ false
no_dialog c conns k r l = elim (c.ready k) as (λ b. c.ready k ≡ b → c.ready k ≡ false)
    [ true ↦ λ e. let q = (r k e).2 in absurd (omega (arith, q, l)) | false ↦ λ e. e ] refl

takes_by : (w : World) (a : ℕ → ℕ) (k : ℕ) (y : Received) (rest : List Received) → (w.conns k).down ≡ y ∷ rest
    → Known w a → LocksHold w a → (t : Token) → y.token ≡ t
    → LocksHold (took_by (behind_reply w k rest) k y.reply y.place t) a
takes_by w a k y rest is b i ForDialog e =
    let C = b.under.links in let f0 = front_down (w.conns k).down y rest is in
    dialogs w a k rest y is b (exchange_behind_keeps w.client w.conns a k y rest is C)
    (no_dialog w.client w.conns k C.ready (counted_dialog (w.conns k) y f0 (ap op_of e)))
    (behind_keeps w.client w.conns w.server a k y rest is i) (dialog_step (w.client.stage k) y.reply.status) refl
  where
    counted_dialog : (d : Conn) (y : Received) → slice_get d.down 0 ≡ Some y → op_of y.token ≡ 0 → 1 ≤ copies 0 d
    counted_dialog d y h e = let l = counted_down 0 d.down 0 y h e in omega (arith, l)
takes_by w a k y rest is b i (ForOp g) e =
    let C = b.under.links in let f0 = front_down (w.conns k).down y rest is in
    took (behind_reply w k rest) a k g false y
    (λ on asks. let rd = C.on_ready g k on in
    record {
      links = exchange_behind_keeps w.client w.conns a k y rest is C;
      locks = behind_keeps w.client w.conns w.server a k y rest is i;
      outstanding_on = on;
      asks = asks;
      none = subst (λ z. copies z (put w.conns k (take_front (w.conns k) rest) k) ≡ 0) (ap op_of e)
          (front_reply_gone w.conns k y rest is (C.once k (op_of y.token)));
      live = (C.ready k rd.0).1;
      pending = unsettled_on w.client g k C.settled on;
      said = said_of w.client w.conns w.server a k y i f0;
      own = λ _. (e, C.sent_replies k 0 g y f0 e);
      ask = λ q. absurd (cc);
      guid = λ _ m st sd. named_by w.client w.conns w.server a k g y b.under.creates b.under.fits f0 e m st sd;
    })
    (λ _ ao st bf. C.deleted k 0 g y f0 e ao st bf) (behind_keeps w.client w.conns w.server a k y rest is i)
takes_by w a k y rest is b i (ForAttach g) e =
    let C = b.under.links in let f0 = front_down (w.conns k).down y rest is in
    took (behind_reply w k rest) a k g true y
    (λ on asks. let rd = C.on_ready g k on in
    record {
      links = exchange_behind_keeps w.client w.conns a k y rest is C;
      locks = behind_keeps w.client w.conns w.server a k y rest is i;
      outstanding_on = on;
      asks = asks;
      none = subst (λ z. copies z (put w.conns k (take_front (w.conns k) rest) k) ≡ 0) (ap op_of e)
          (front_reply_gone w.conns k y rest is (C.once k (op_of y.token)));
      live = (C.ready k rd.0).1;
      pending = unsettled_on w.client g k C.settled on;
      said = said_of w.client w.conns w.server a k y i f0;
      own = λ q. absurd (cc);
      ask = λ _. e;
      guid = λ q. absurd (cc);
    })
    (λ q. absurd (cc)) (behind_keeps w.client w.conns w.server a k y rest is i)

takes : (w : World) (a : ℕ → ℕ) (k : ℕ) → Known w a → LocksHold w a → (ys : List Received) → (w.conns k).down ≡ ys
    → LocksHold (take_reply w k ys) a
takes w a k b i [] is = i
takes w a k b i (y ∷ rest) is = takes_by w a k y rest is b i y.token refl

-- ---- Cut and Finish

cuts_ready : (w : World) (a : ℕ → ℕ) (k : ℕ) → Connections w.client w.conns a → LocksHold w a → (b e : Bool) → b ≡ true
    → LocksHold (with_client (cut_by w k (if b && e then CloseChannels else Nothing))
    (if b then (if e then end_session w.client else cut_channel w.client k) else w.client)) a
cuts_ready w a k C i true true h = leaves w.client w.conns w.server a C i
cuts_ready w a k C i true false h = cut_keeps w.client w.conns w.server a k C i
cuts_ready w a k C i false e h = absurd (cc)

cuts : (w : World) (a : ℕ → ℕ) (k : ℕ) → Connections w.client w.conns a → LocksHold w a → LocksHold (changed w (Cut k)) a
cuts w a k C i =
    either (λ v. LocksHold v a) (w.client.ready k) _ _ (λ ready. cuts_ready w a k C i (w.client.ready k)
    (ends_at_cut w.client) ready) (λ apart. dialog_off_keeps w.client w.conns w.server a k apart C i)

finish_same : (why : Why) (b : Bool) (o : Outcome) → is_unsettled o ≡ false → (if b then outcome_after_finish why o else o) ≡ o
finish_same why true Unsettled e = absurd (cc)
finish_same why true (WasOk reply) e = refl
finish_same why true (WasRefused status) e = refl
finish_same why true (NoSlot n) e = refl
finish_same why true (NoOpen n) e = refl
finish_same why true (Unknown x) e = refl
finish_same why false o e = refl

finish_gives : (why : Why) (b : Bool) (o : Outcome) → is_unsettled o ≡ true
    → firm (if b then outcome_after_finish why o else o) ≡ false × is_ok (if b then outcome_after_finish why o else o)
    ≡ false × refused_for_good (if b then outcome_after_finish why o else o) ≡ false
unfolding firm refused_for_good
finish_gives why true Unsettled e = (refl, refl, refl)
finish_gives why false Unsettled e = (refl, refl, refl)
finish_gives why b (WasOk reply) e = absurd (cc)
finish_gives why b (WasRefused status) e = absurd (cc)
finish_gives why b (NoSlot n) e = absurd (cc)
finish_gives why b (NoOpen n) e = absurd (cc)
finish_gives why b (Unknown x) e = absurd (cc)

finishes : (c : Client) (conns : ℕ → Conn) (s : Server) (a : ℕ → ℕ) (why : Why) → c.live ≡ false → Connections c conns a
    → Locks c conns s a → Locks (finish c why) conns s a
finishes c conns s a why dead C i =
    finish_keeps c conns s a (λ g. if is_taken c g then outcome_after_finish why (c.outcome g) else c.outcome g)
    (finish c why).given_up dead
    (λ h e. finish_same why (is_taken c h) (c.outcome h) e) (λ h e. let f = finish_gives why (is_taken c h)
    (c.outcome h) e in (f.0, f.1)) (λ h e r. let f = finish_gives why (is_taken c h) (c.outcome h) e in
    no_two _ _ r f.2) C i

-- ---- every event

pub keeps : (w : World) (a : ℕ → ℕ) (e : Event) → Known w a
    → ((k : ℕ) → may_serve w k ≡ true → Connections (absorb_front w k (w.conns k).up).client
    (absorb_front w k (w.conns k).up).conns (λ g. if front_acts w (w.conns k).up g then a g + 1 else a g))
    → LocksHold w a → LocksHold (happens w e) (after w e a)
keeps w a (Submit g op) b C i = submits w a g op b i
keeps w a (Open k) b C i =
    either (λ v. LocksHold v a) (may_open w k) _ _ (λ m. opened_keeps w.client w.conns _ a k _ (closed_of w k m)
    (accepts w.client w.conns w.server a k w.moment b.under i)) (λ _. i)
keeps w a (Push k slotless pick) b C i = either (λ v. LocksHold v a) (w.client.ready k) _ _
    (λ ready. pushes w a k slotless pick ready (b.under.links, i) (b.pushed k slotless pick ready)) (λ _. i)
keeps w a (Serve k) b C i = serve_open w a k b i (may_serve w k)
keeps w a (Take k) b C i = either (λ v. LocksHold v a) ((w.conns k).client_open && is_filled (w.conns k).down) _ _
    (λ m. takes w a k b i (w.conns k).down refl) (λ _. i)
keeps w a (Cut k) b C i = either (λ v. LocksHold v a) (w.conns k).client_open _ _ (λ _. cuts w a k b.under.links i) (λ _. i)
keeps w a (Drop k) b C i = either (λ v. LocksHold v a) (w.conns k).server_open _ _
    (λ _. dropped_keeps w.client w.conns _ a k (ends w.client w.conns w.server a k w.moment b.under i)) (λ _. i)
keeps w a Restart b C i = restarts w a b.under.links b.anew i
keeps w a (Crash k kept) b C i = crash_open w a k b (C k) i kept (may_serve w k) refl
keeps w a (Wait n) b C i = i
keeps w a (Finish refusal) b C i = either (λ v. LocksHold v a) (not w.client.live) _ _
    (λ d. finishes w.client w.conns w.server a (NoSession refusal) (not_true w.client.live d) b.under.links i) (λ _. i)
