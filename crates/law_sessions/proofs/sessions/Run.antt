-- Each event keeps what holds of sessions, and so does each run.
use Rattle.std.proofs.lemmas.Bool.{eqb-false}
use Rattle.std.proofs.Common.{◌≡◌, ◌≢◌, ℕ, ◌+◌, ◌*◌, ◌≤◌, ◌==◌, nat_lt, Bool, true, false, not, ◌&&◌, if◌then◌else◌}
use Rattle.std.proofs.Common.{List, [], ◌∷◌, ◌++◌, refl, arith, sym, subst, ◌∙◌, ap, Option, Some, None, is_some}
use Rattle.spec_exchange.specs.Table.{put, is_filled}
use Rattle.spec_exchange.specs.Status.{success}
use Rattle.spec_exchange.specs.Commands.{TreeDisconnect}
use Rattle.spec_exchange.specs.State.{Server, Reply, Answer, Accept, End}
use Rattle.spec_exchange.specs.Opens.{max_ids}
use Rattle.spec_exchange.specs.Operations.{Op, Refusal, NoSession, request_of, reconnect_of, weight, charge}
use Rattle.spec_exchange.specs.Client.{Client, SaidNegotiate, create_for, guid_for, may_take, outcome_at_first}
use Rattle.spec_exchange.specs.Client.{may_push, has_its_slot, goes_itself, settle_no_slots, begun, outstanding, asked}
use Rattle.spec_exchange.specs.Client.{own_message, ask_message, cut_channel, ends_at_cut, end_session, last_sequence}
use Rattle.spec_exchange.specs.Client.{finish}
use Rattle.spec_exchange.specs.Settling.{Heard as Hearing, Settles, GoesAgain, Attaches, EndsSession, heard, hear, is_awaited, answered}
use Rattle.spec_exchange.specs.Dialogs.{DialogStep, GoesOn, Accepts, Binds, Readies, Refuses, dialog_step, dialog_message}
use Rattle.spec_exchange.specs.ClientStep.{Pick, Act, Nothing, CloseChannels, Sends, Asks, pick_after, pick_act}
use Rattle.spec_exchange.specs.ClientStep.{act_heard, some_unsettled, IsReady}
use Rattle.spec_exchange.specs.Fold.{fold, recovered_from, recovery_records}
use Rattle.spec_exchange.specs.Step.{step}
use Rattle.spec_exchange.specs.Network.{opened_by, World, Event, Submit, Open, Push, Serve, Take, Cut, Drop, Restart}
use Rattle.spec_exchange.specs.Network.{Crash, Wait, Finish, Conn, Sent, Received, Token, ForDialog, ForOp, ForAttach}
use Rattle.spec_exchange.specs.Network.{op_of, happens, changed, later, may_open, may_serve, max_channel, pushed_by}
use Rattle.spec_exchange.specs.Network.{answer, absorbed, replied, serve_front, absorb_front, behind_front, take_front}
use Rattle.spec_exchange.specs.Network.{take_reply, took_by, dialog_took, op_took, closed_by, cut_by, with_client}
use Rattle.spec_exchange.specs.Network.{behind_reply, restarted, dialog_ended}
use Rattle.law_sessions.specs.messages.Connections.{Once, Ready, copies}
use Rattle.law_sessions.proofs.messages.Lists.{front_up, front_down}
use Rattle.law_server.proofs.tables.Logic.{either, back_of, not_true, none_of, back_off}
use Rattle.law_server.specs.tables.Fits.{Attached, OnPresent, MakingOnce, Begun}
use Rattle.law_sessions.specs.sessions.Sessions.{Sessions, is_ops, is_work, is_dialog, logs_on, logon_user}
use Rattle.law_sessions.proofs.sessions.Same.{same_keeps}
use Rattle.law_sessions.proofs.sessions.Moved.{moved_keeps}
use Rattle.law_sessions.proofs.sessions.Opened.{opened_keeps}
use Rattle.law_sessions.proofs.sessions.ServerOff.{server_off_keeps}
use Rattle.law_sessions.proofs.sessions.AllServerOff.{all_server_off_keeps}
use Rattle.law_sessions.proofs.sessions.Unqueued.{unqueued_keeps}
use Rattle.law_sessions.proofs.sessions.Behind.{behind_keeps}
use Rattle.law_sessions.proofs.sessions.DialogOff.{dialog_off_keeps}
use Rattle.law_sessions.proofs.sessions.Cut.{cut_keeps}
use Rattle.law_sessions.proofs.sessions.Leave.{leave_keeps}
use Rattle.law_sessions.proofs.sessions.SentUp.{sent_up_keeps}
use Rattle.law_sessions.proofs.sessions.Say.{say_keeps}
use Rattle.law_sessions.proofs.sessions.Dialog.{took_dialog, Tells}
use Rattle.law_sessions.proofs.sessions.Table.{Keeps, keeps_so, keeps_no_slots, keeps_begun, keeps_asked}
use Rattle.law_sessions.proofs.sessions.Table.{keeps_answered, keeps_joined, keeps_settle}
use Rattle.law_sessions.proofs.sessions.Answers.{Facts}
use Rattle.law_sessions.proofs.sessions.Heard.{answered as answered_by}
use Rattle.law_sessions.proofs.sessions.Serving.{moves_of, reply_current, reply_first, reply_second, reply_tree, work_keeps, dialog_keeps}
use Rattle.law_sessions.proofs.sessions.Trees.{ties_answered, open_trees_of}
use Rattle.law_sessions.proofs.sessions.Written.{Folds, folds_more, anew}
use Rattle.law_sessions.proofs.sessions.Owed.{clean_answer, clean_accept, clean_end}
use Rattle.law_sessions.proofs.sessions.Connected.{falls_accept, falls_end, moves_falls, moves_restart}
use Rattle.law_sessions.proofs.messages.Run.{both_ways, put_self, still_open, front_reply_gone, ended_well}

-- ---- what holds of a world

abbrev pub SessionsFit : World → Type 0
SessionsFit w = Sessions w.client w.conns w.server

abbrev pub Stored : World → Type 0
Stored w = Folds w.client.who.guid (logon_user w.client.who.logon) w.server.epoch (fold w.records)

pub record SessionsHold (w : World) : Type 0 where
  pub sits : SessionsFit w
  pub stored : Stored w

-- of the server alone
pub record Bounds (s : Server) : Type 0 where
  pub on_present : OnPresent s
  pub making_once : MakingOnce s
  pub begun : Begun s
  pub attached : Attached s

stored_by : (c d : Client) (number : ℕ) (f : Server) → d.who ≡ c.who → Folds c.who.guid (logon_user c.who.logon) number
    f → Folds d.who.guid (logon_user d.who.logon) number f
stored_by c d number f e q = subst (λ who. Folds who.guid (logon_user who.logon) number f) (sym e) q

kept : (c d : Client) (conns : ℕ → Conn) (s : Server) → Keeps c d → Sessions c conns s → Sessions d conns s
kept c d conns s k i = same_keeps c conns s d k.same (k.numbers i.numbered_sessions) i

-- ---- small facts

-- ---- Submit

submits : (w : World) (g : ℕ) (op : Op) → SessionsHold w → SessionsHold (changed w (Submit g op))
submits w g op h =
    either (λ d. SessionsHold (with_client w d)) (may_take w.client g op) _ _
    (λ _. record {
      sits = same_keeps w.client w.conns w.server (record w.client {
        taken = g;
        op = put w.client.op g op;
        outcome = put w.client.outcome g (outcome_at_first w.client g op);
      })
          (record {
            who = refl;
            live = refl;
            session = refl;
            number = refl;
            tree = refl;
            sequence = refl;
            stage = refl;
            making = refl;
            pending = refl;
            accepted = refl;
            accepted_count = refl;
            rank = refl;
          }) h.sits.numbered_sessions h.sits;
      stored = h.stored;
    })
    (λ _. h)

-- ---- Open and Drop

opens_session : (w : World) (k : ℕ) (A : Answer) → Sessions w.client w.conns A.server → w.client.making ≡ None
    → SessionsFit (opened_by w k A)
unfolding is_dialog logs_on
opens_session w k A i free =
    opened_keeps w.client w.conns A.server k (A.reply.status == success)
    (dialog_message w.client k 0 (SaidNegotiate w.client.live)) free refl refl refl refl refl refl i

opens : (w : World) (k : ℕ) → SessionsHold w → w.client.making ≡ None → SessionsHold (changed w (Open k))
opens w k h free =
    let A = step w.server w.moment (Accept k) in let f = falls_accept w.server w.moment k in
    record {
      sits = opens_session w k A (moved_keeps w.client w.conns w.server A.server
          (moves_falls w.client w.server A.server f h.sits.making_unranked h.sits.session_users h.sits.open_users h.sits.open_trees)
          h.sits) free;
      stored = subst (λ n. Folds w.client.who.guid (logon_user w.client.who.logon) n (fold (w.records ++ A.records))) (sym f.epoch)
          (folds_more w.client.who.guid (logon_user w.client.who.logon) w.server.epoch w.records A.records
          (clean_accept w.client.who.guid (logon_user w.client.who.logon) w.server w.moment k) h.stored);
    }

drops : (w : World) (k : ℕ) → SessionsHold w → SessionsHold (changed w (Drop k))
drops w k h =
    let A = step w.server w.moment (End k) in let f = falls_end w.server w.moment k in
    record {
      sits = server_off_keeps w.client w.conns A.server k (moved_keeps w.client w.conns w.server A.server
          (moves_falls w.client w.server A.server f h.sits.making_unranked h.sits.session_users h.sits.open_users h.sits.open_trees)
          h.sits);
      stored = subst (λ n. Folds w.client.who.guid (logon_user w.client.who.logon) n (fold (w.records ++ A.records))) (sym f.epoch)
          (folds_more w.client.who.guid (logon_user w.client.who.logon) w.server.epoch w.records A.records
          (clean_end w.client.who.guid (logon_user w.client.who.logon) w.server w.moment k) h.stored);
    }

pub free_of : (w : World) (k : ℕ) → may_open w k ≡ true → w.client.making ≡ None
free_of w k m =
    none_of w.client.making
    (not_true (is_some w.client.making)
    (back_of (not (w.conns k).server_open) _
    (back_of (not (w.conns k).client_open) _ (back_of (nat_lt k max_channel) _ m))))

-- ---- Push

pub own_work : (op : Op) (guid file slot number : ℕ) → is_work (request_of op guid file slot number) ≡ true
    × logs_on (request_of op guid file slot number) ≡ false
unfolding is_work logs_on
own_work op guid file slot number = (grind arith, grind arith)

pub ask_work : (op : Op) (guid file : ℕ) → is_work (reconnect_of op guid file) ≡ true × logs_on (reconnect_of op guid file) ≡ false
unfolding is_work logs_on
ask_work op guid file = (grind arith, grind arith)

sends_own : (w : World) (k g : ℕ) (c : Client) → Keeps w.client c → w.client.live ≡ true → SessionsHold w
    → SessionsHold (pushed_by w k c (Sends g))
sends_own w k g c q live h =
    let m = own_message c k (w.conns k).next_id g in let u = own_work (c.op g) (guid_for c g) (c.file (create_for c g))
    (c.slot_of g) (c.number_of g) in
    record {
      sits = sent_up_keeps c w.conns w.server k (charge (weight (c.op g))) (ForOp g) m refl (q.same.live ∙ live) refl
          refl refl refl refl refl u.0 u.1 (kept w.client c w.conns w.server q h.sits);
      stored = stored_by w.client c w.server.epoch (fold w.records) q.same.who h.stored;
    }

asks_attach : (w : World) (k g : ℕ) (c : Client) → Keeps w.client c → w.client.live ≡ true → SessionsHold w
    → SessionsHold (pushed_by w k (asked c k g) (Asks g))
asks_attach w k g c q live h =
    let d = asked c k g in let e = keeps_so w.client c d q (keeps_asked c k g) in let m = ask_message d k (w.conns k).next_id g in
    let u = ask_work (d.op (create_for d g)) (guid_for d (create_for d g)) (d.file (create_for d g)) in
    record {
      sits = sent_up_keeps d w.conns w.server k 1 (ForAttach g) m refl (e.same.live ∙ live) refl refl refl refl refl
          refl u.0 u.1 (kept w.client d w.conns w.server e h.sits);
      stored = stored_by w.client d w.server.epoch (fold w.records) e.same.who h.stored;
    }

-- nothing goes out
idles : (w : World) (c : Client) → Keeps w.client c → SessionsHold w → SessionsHold (with_client w c)
idles w c q h = record {
  sits = kept w.client c w.conns w.server q h.sits;
  stored = stored_by w.client c w.server.epoch (fold w.records) q.same.who h.stored;
}

pushes_op : (w : World) (k g s : ℕ) (c : Client) → Keeps w.client c → w.client.live ≡ true → SessionsHold w
    → SessionsHold (pushed_by w k (pick_after c k (Some (record { op = g; slot = s })))
    (pick_act c k (Some (record { op = g; slot = s }))))
pushes_op w k g s c q live h =
    let P : Client → Act → Type 0 = λ d x. SessionsHold (pushed_by w k d x) in
    both_ways P (may_push c k g) _ _ _ _
    (λ _. both_ways P (goes_itself c g) _ _ _ _
    (λ _. both_ways P (has_its_slot c g s) _ _ _ _
    (λ _. sends_own w k g (outstanding (begun c g s) k g) (keeps_so w.client c (outstanding (begun c g s) k g) q
    (keeps_begun c k g s)) live h) (λ _. idles w c q h))
    (λ _. asks_attach w k g c q live h))
    (λ _. idles w c q h)

picks : (w : World) (k : ℕ) (c : Client) (pick : Option Pick) → Keeps w.client c → w.client.live ≡ true → SessionsHold w
    → SessionsHold (pushed_by w k (pick_after c k pick) (pick_act c k pick))
picks w k c None q live h = either (λ x. SessionsHold (pushed_by w k c x)) (some_unsettled c c.taken) _ _
    (λ _. idles w c q h) (λ _. idles w c q h)
picks w k c (Some p) q live h = pushes_op w k p.op p.slot c q live h

not_both : (b : Bool) (P : Type 0) → b ≡ true → b ≡ false → P
not_both b P e f = absurd (cc)

pushes : (w : World) (k : ℕ) (slotless : List ℕ) (pick : Option Pick) → w.client.ready k ≡ true → w.client.live ≡ true
    → SessionsHold w → SessionsHold (changed w (Push k slotless pick))
pushes w k slotless pick ready live h =
    both_ways (λ d x. SessionsHold (pushed_by w k d x)) (w.client.ready k) _ _ _ _
    (λ _. picks w k (settle_no_slots w.client k slotless) pick (keeps_no_slots w.client k slotless) live h)
    (λ off. not_both (w.client.ready k) _ ready off)

-- ---- Serve

no_ops : (t : Token) → is_ops t ≡ true → is_ops t ≡ false → (P : Type 0) → P
no_ops t e f P = absurd (cc)

keeps_trees : (x : Sent) → (is_ops x.token ≡ true → is_work x.message.command ≡ true)
    → (is_ops x.token ≡ false → is_dialog x.message.command ≡ true) → x.message.command ≢ TreeDisconnect
keeps_trees x work dialog =
    elim (is_ops x.token) as (λ b. is_ops x.token ≡ b → x.message.command ≢ TreeDisconnect)
    [ true ↦ λ e. work_keeps x.message.command (work e) | false ↦ λ e. dialog_keeps x.message.command (dialog e) ]
    refl

pub answer_facts : (w : World) (x : Sent) → Facts w.server x.message (answer w x)
answer_facts w x = answered_by w.server w.moment x.message x.message.command refl

-- the step is taken, and the front still waits
hears_front : (w : World) (k : ℕ) (x : Sent) (rest : List Sent) → (w.conns k).up ≡ x ∷ rest → Bounds w.server
    → SessionsHold w → Sessions w.client w.conns (answer w x).server
hears_front w k x rest is bounds h =
    let i = h.sits in let f0 = front_up (w.conns k).up x rest is in
    moved_keeps w.client w.conns w.server (answer w x).server
    (moves_of w.client w.server x.message (answer w x) (answer_facts w x) i.making_unranked i.ranked_given
    i.session_users i.open_users
    (open_trees_of w.client w.conns w.server k x (answer w x).server (ties_answered w.server w.moment x.message x.message.command)
    f0 bounds.on_present i.open_trees i.sent_trees i.ranked_up i.present_accepted i.dialog_up)
    bounds.on_present (i.from_client k 0 x f0).0
    (keeps_trees x (i.work_up k 0 x f0) (λ e. (i.dialog_up k 0 x f0 e).1)) (i.logon_up k 0 x f0)) i

stored_front : (w : World) (k : ℕ) (x : Sent) (rest : List Sent) → (w.conns k).up ≡ x ∷ rest → Bounds w.server → SessionsHold w
    → Folds w.client.who.guid (logon_user w.client.who.logon) (answer w x).server.epoch (fold (w.records ++ (answer w x).records))
stored_front w k x rest is bounds h =
    let i = h.sits in let f0 = front_up (w.conns k).up x rest is in let f = answer_facts w x in let guid =
    w.client.who.guid in let user = logon_user w.client.who.logon in
    subst (λ n. Folds guid user n (fold (w.records ++ (answer w x).records))) (sym f.epoch)
    (folds_more guid user w.server.epoch w.records (answer w x).records
    (clean_answer guid user w.server w.moment x.message (i.from_client k 0 x f0).0
    (λ on. i.session_users x.message.session_id (bounds.on_present x.message.connection x.message.session_id on))
    x.message.command) h.stored)

absorbs_front : (w : World) (k : ℕ) (x : Sent) (rest : List Sent) → (w.conns k).up ≡ x ∷ rest → Bounds w.server
    → SessionsHold w → SessionsHold (absorbed w k x rest (answer w x))
absorbs_front w k x rest is bounds h =
    record {
      sits = unqueued_keeps w.client w.conns (answer w x).server k x rest is
          (hears_front w k x rest is bounds h);
      stored = stored_front w k x rest is bounds h;
    }

says : (w : World) (k : ℕ) (x : Sent) (rest : List Sent) (place : ℕ) → (w.conns k).up ≡ x ∷ rest → Bounds w.server
    → SessionsHold w → SessionsHold (replied (absorbed w k x rest (answer w x)) k (record {
      token = x.token;
      reply = (answer w x).reply;
      place = place;
    }))
says w k x rest place is bounds h =
    let i = h.sits in let f0 = front_up (w.conns k).up x rest is in let A = answer w x in let f = answer_facts w x in
    let g : ℕ → Conn = put w.conns k (behind_front (w.conns k) rest) in let j = absorbs_front w k x rest is bounds h in
    record {
      sits = either (λ d. Sessions w.client (put g k d) A.server) (g k).client_open _ _
          (λ o. let stands = still_open w.conns k rest o in
          say_keeps w.client g A.server k (record { token = x.token; reply = A.reply; place = place })
          (λ ops. reply_current w.client w.conns w.server k x A f f0 stands i.current_up i.work_up ops)
          (λ d st u. reply_first w.client w.conns w.server k x A f f0 stands i.first_up i.from_client i.ranked_given d st u)
          (λ d st u. reply_second w.client w.conns w.server k x A f f0 stands i.second_up i.from_client i.logon_up
          i.making_unranked i.session_users bounds.making_once d st u)
          (λ d st u p. reply_tree w.client w.conns w.server k x A f f0 stands i.tree_connect_up i.from_client
          i.pending_accepted d st u) j.sits)
          (λ _. subst (λ v. Sessions w.client v A.server) (put_self g k) j.sits);
      stored = j.stored;
    }

serves : (w : World) (k : ℕ) → Bounds w.server → SessionsHold w → (xs : List Sent) → (w.conns k).up ≡ xs → SessionsHold (serve_front w k xs)
serves w k bounds h [] is = h
serves w k bounds h (x ∷ rest) is = says w k x rest w.log.places is bounds h

absorbs : (w : World) (k : ℕ) → Bounds w.server → SessionsHold w → (xs : List Sent) → (w.conns k).up ≡ xs
    → SessionsHold (absorb_front w k xs)
absorbs w k bounds h [] is = h
absorbs w k bounds h (x ∷ rest) is = absorbs_front w k x rest is bounds h

-- ---- Restart and Crash

renumbered : (guid : ℕ) (user : List ℕ) (number : ℕ) (d : Server) → Folds guid user number d → Folds guid user d.epoch d
renumbered guid user number d f = record { epoch = refl; present = f.present; making = f.making; opens = f.opens; attached = f.attached }

restarts : (w : World) → w.server.session_ids_given ≤ max_ids → SessionsHold w → SessionsHold (restarted w)
restarts w low h =
    let guid = w.client.who.guid in let user = logon_user w.client.who.logon in let a = anew guid user w.server w.records h.stored in
    record {
      sits = all_server_off_keeps w.client w.conns (recovered_from w.server w.records)
          (moved_keeps w.client w.conns w.server (recovered_from w.server w.records)
          (moves_restart w.client w.server w.records low h.stored) h.sits);
      stored = renumbered guid user (w.server.epoch + 1) (fold (w.records ++ recovery_records w.records)) a.folds;
    }

-- a served message leaves the server as an absorbed one does
same_server : (w : World) (k : ℕ) (xs : List Sent) → (serve_front w k xs).server ≡ (absorb_front w k xs).server
same_server w k [] = refl
same_server w k (x ∷ rest) = refl

served_low : (w : World) (k : ℕ) → may_serve w k ≡ true → (happens w (Serve k)).server.session_ids_given ≤ max_ids
    → (absorb_front w k (w.conns k).up).server.session_ids_given ≤ max_ids
served_low w k m l = subst (λ s. s.session_ids_given ≤ max_ids) (same_server w k (w.conns k).up)
    (one_side (may_serve w k) (later (serve_front w k (w.conns k).up) 1) w m l)
  where
    one_side : (b : Bool) (x y : World) → b ≡ true → (if b then x else y).server.session_ids_given ≤ max_ids
        → x.server.session_ids_given ≤ max_ids
    one_side true x y e l = l
    one_side false x y e l = absurd (cc)

crashes : (w : World) (k : ℕ) (kept : Bool) → Bounds w.server
    → (may_serve w k ≡ true → (absorb_front w k (w.conns k).up).server.session_ids_given ≤ max_ids) → may_serve w k
    ≡ true → SessionsHold w
    → SessionsHold (if kept then restarted (absorb_front w k (w.conns k).up) else restarted w)
crashes w k true bounds low m h = restarts (absorb_front w k (w.conns k).up) (low m) (absorbs w k bounds h (w.conns k).up refl)
crashes w k false bounds low m h = restarts w bounds.begun h

-- ---- Take

tells_dialog : (w : World) (k : ℕ) (y : Received) (rest : List Received) → (w.conns k).down ≡ y ∷ rest → y.token
    ≡ ForDialog → SessionsFit w → Tells (behind_reply w k rest) k y.reply
tells_dialog w k y rest is t i =
    let f0 = front_down (w.conns k).down y rest is in let d : is_ops y.token ≡ false = ap is_ops t in
    record {
      first = λ at st. i.first_reply k 0 y f0 d at st;
      second = λ at st. i.second_reply k 0 y f0 d at st;
      tree = λ at st p. i.tree_reply k 0 y f0 d at st p;
    }

hears : (w : World) (k g : ℕ) (asking : Bool) (r : Reply) (place : ℕ) → SessionsHold w → (h : Hearing)
    → SessionsHold (with_client (closed_by w k (act_heard h)) (hear w.client g asking r place h))
hears w k g asking r place i (Settles o) = idles w _ (keeps_settle w.client g asking r place o) i
hears w k g asking r place i GoesAgain = idles w _ (keeps_answered w.client g) i
hears w k g asking r place i Attaches = idles w _ (keeps_joined w.client g) i
hears w k g asking r place i EndsSession =
    let j = idles w (answered w.client g) (keeps_answered w.client g) i in record {
      sits = leave_keeps (answered w.client g) w.conns w.server j.sits;
      stored = i.stored;
    }

took : (w : World) (k g : ℕ) (asking : Bool) (r : Reply) (place : ℕ) → SessionsHold w → SessionsHold (op_took w k g asking r place)
took w k g asking r place i =
    both_ways (λ c x. SessionsHold (with_client (closed_by w k x) c)) (is_awaited w.client k g asking)
    (hear w.client g asking r place (heard w.client g asking r)) w.client (act_heard (heard w.client g asking r))
    Nothing
    (λ _. hears w k g asking r place i (heard w.client g asking r)) (λ _. i)

takes_by : (w : World) (k : ℕ) (y : Received) (rest : List Received) → (w.conns k).down ≡ y ∷ rest → Once w.conns
    → Attached w.server → SessionsHold w → (t : Token) → y.token ≡ t → SessionsHold (took_by (behind_reply w k rest) k y.reply y.place t)
takes_by w k y rest is once there i ForDialog e =
    let j = behind_keeps w.client w.conns w.server k y rest is i.sits in
    dialog_stored (behind_reply w k rest) k y.reply i.stored
    (took_dialog (behind_reply w k rest) k y.reply (subst (λ g. copies g (put w.conns k (take_front (w.conns k) rest) k)
    ≡ 0) (ap op_of e) (front_reply_gone w.conns k y rest is (once k (op_of y.token))))
    (tells_dialog w k y rest is e i.sits) (λ o x h. (there o x h).1) j (w.client.stage k) refl)
  where
    end_stored : (w : World) (k session tree : ℕ) → Stored w → Stored (dialog_ended w k (IsReady k session tree))
    end_stored w k session tree s = ended_well Stored w k session tree (λ _. s) (λ _ _. s) s

    step_stored : (w : World) (k : ℕ) (r : Reply) → Stored w → (d : DialogStep) → SessionsFit (dialog_took w k r d)
        → SessionsHold (dialog_took w k r d)
    step_stored w k r s (GoesOn stage) i = record { sits = i; stored = s }
    step_stored w k r s Accepts i = record { sits = i; stored = s }
    step_stored w k r s Binds i = record { sits = i; stored = end_stored w k w.client.session w.client.tree s }
    step_stored w k r s Readies i = record { sits = i; stored = end_stored w k w.client.pending r.tree_id s }
    step_stored w k r s (Refuses status) i = record { sits = i; stored = s }

    dialog_stored : (w : World) (k : ℕ) (r : Reply) → Stored w
        → SessionsFit (dialog_took w k r (dialog_step (w.client.stage k) r.status))
        → SessionsHold (dialog_took w k r (dialog_step (w.client.stage k) r.status))
    dialog_stored w k r s i = step_stored w k r s (dialog_step (w.client.stage k) r.status) i
takes_by w k y rest is once there i (ForOp g) e =
    took (behind_reply w k rest) k g false y.reply y.place (record {
      sits = behind_keeps w.client w.conns w.server k y rest is i.sits;
      stored = i.stored;
    })
takes_by w k y rest is once there i (ForAttach g) e =
    took (behind_reply w k rest) k g true y.reply y.place (record {
      sits = behind_keeps w.client w.conns w.server k y rest is i.sits;
      stored = i.stored;
    })

takes : (w : World) (k : ℕ) → Once w.conns → Attached w.server → SessionsHold w → (ys : List Received) → (w.conns k).down ≡ ys
    → SessionsHold (take_reply w k ys)
takes w k once there i [] is = i
takes w k once there i (y ∷ rest) is = takes_by w k y rest is once there i y.token refl

-- ---- Cut

cuts_ready : (w : World) (k : ℕ) → SessionsHold w → (b e : Bool) → b ≡ true → (e ≡ false → w.client.sequence ≢ 32767)
    → SessionsHold (with_client (cut_by w k (if b && e then CloseChannels else Nothing))
    (if b then (if e then end_session w.client else cut_channel w.client k) else w.client))
cuts_ready w k i true true h n = record { sits = leave_keeps w.client w.conns w.server i.sits; stored = i.stored }
cuts_ready w k i true false h n = record { sits = cut_keeps w.client w.conns w.server k (n refl) i.sits; stored = i.stored }
cuts_ready w k i false e h n = absurd (cc)

not_last : (c : Client) → ends_at_cut c ≡ false → c.sequence ≢ 32767
not_last c e = eqb-false c.sequence 32767 (back_off (c.channels == 1) (c.sequence == last_sequence) e)

cuts : (w : World) (k : ℕ) → SessionsHold w → SessionsHold (changed w (Cut k))
cuts w k i =
    either (λ v. SessionsHold v) (w.client.ready k) _ _ (λ ready. cuts_ready w k i (w.client.ready k)
    (ends_at_cut w.client) ready (not_last w.client))
    (λ apart. record { sits = dialog_off_keeps w.client w.conns w.server k w.client.refusals i.sits; stored = i.stored })

-- ---- Finish

finishes : (w : World) (refusal : Refusal) → SessionsHold w → SessionsHold (changed w (Finish refusal))
finishes w refusal i =
    record {
      sits = same_keeps w.client w.conns w.server (finish w.client (NoSession refusal))
          (record {
            who = refl;
            live = refl;
            session = refl;
            number = refl;
            tree = refl;
            sequence = refl;
            stage = refl;
            making = refl;
            pending = refl;
            accepted = refl;
            accepted_count = refl;
            rank = refl;
          }) i.sits.numbered_sessions i.sits;
      stored = i.stored;
    }

-- ---- every event

served_open : (w : World) (k : ℕ) → Bounds w.server → SessionsHold w → (b : Bool)
    → SessionsHold (if b then later (serve_front w k (w.conns k).up) 1 else w)
served_open w k bounds i true = record {
  sits = (serves w k bounds i (w.conns k).up refl).sits;
  stored = (serves w k bounds i (w.conns k).up refl).stored;
}
served_open w k bounds i false = i

-- a later moment is no change
later_holds : (w : World) (n : ℕ) → SessionsHold w → SessionsHold (later w n)
later_holds w n h = record { sits = h.sits; stored = h.stored }

pub keeps : (w : World) (e : Event) → Once w.conns → Ready w.client w.conns → Bounds w.server
    → ((k : ℕ) → (happens w (Serve k)).server.session_ids_given ≤ max_ids) → SessionsHold w → SessionsHold (happens w e)
keeps w (Submit g op) once ready bounds low i = later_holds (changed w (Submit g op)) 1 (submits w g op i)
keeps w (Open k) once ready bounds low i = either SessionsHold (may_open w k) _ _
    (λ m. later_holds (changed w (Open k)) 1 (opens w k i (free_of w k m))) (λ _. i)
keeps w (Push k slotless pick) once ready bounds low i =
    either SessionsHold (w.client.ready k) _ _ (λ r. later_holds (changed w (Push k slotless pick)) 1
    (pushes w k slotless pick r (ready k r).1 i)) (λ _. i)
keeps w (Serve k) once ready bounds low i = served_open w k bounds i (may_serve w k)
keeps w (Take k) once ready bounds low i = either SessionsHold ((w.conns k).client_open && is_filled (w.conns k).down) _
    _ (λ m. later_holds (changed w (Take k)) 1 (takes w k once bounds.attached i (w.conns k).down refl)) (λ _. i)
keeps w (Cut k) once ready bounds low i = either SessionsHold (w.conns k).client_open _ _
    (λ _. later_holds (changed w (Cut k)) 1 (cuts w k i)) (λ _. i)
keeps w (Drop k) once ready bounds low i = either SessionsHold (w.conns k).server_open _ _
    (λ _. later_holds (changed w (Drop k)) 1 (drops w k i)) (λ _. i)
keeps w Restart once ready bounds low i = later_holds (restarted w) 1 (restarts w bounds.begun i)
keeps w (Crash k kept) once ready bounds low i =
    either SessionsHold (may_serve w k) _ _ (λ m. later_holds (changed w (Crash k kept)) 1
    (crashes w k kept bounds (λ n. served_low w k n (low k)) m i)) (λ _. i)
keeps w (Wait n) once ready bounds low i = later_holds w (10000 * n) i
keeps w (Finish refusal) once ready bounds low i = either SessionsHold (not w.client.live) _ _
    (λ d. later_holds (changed w (Finish refusal)) 1 (finishes w refusal i)) (λ _. i)
