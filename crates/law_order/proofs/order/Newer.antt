-- No write or set-info acts after a newer pair reached its open: each event of a run keeps it.
use Rattle.std.proofs.lemmas.Bool.{eqb-false}
use Rattle.std.proofs.lemmas.Bool.Decides.{nat_tests}
use Rattle.std.proofs.Common.{eqb-true, ◌≡◌, ◌≢◌, ℕ, ◌+◌, ◌*◌, ◌≤◌, ◌<◌, ◌==◌, nat_lt, Bool, true, false, not, ◌&&◌}
use Rattle.std.proofs.Common.{◌||◌, if◌then◌else◌, List, [], ◌∷◌, refl, arith, sym, subst, ◌∙◌, ap, Option, Some, None}
use Rattle.std.proofs.Common.{slice_get}
use Rattle.spec_exchange.specs.Table.{put, is_at, is_filled}
use Rattle.spec_exchange.specs.Status.{disk_full}
use Rattle.spec_exchange.specs.State.{Server, Message, Reply, Body, Answer}
use Rattle.spec_exchange.specs.Opens.{id_of}
use Rattle.spec_exchange.specs.CheckSetup.{is_new}
use Rattle.spec_exchange.specs.Fold.{fold}
use Rattle.spec_exchange.specs.Operations.{Outcome, Unsettled, WasOk, WasRefused, NoSlot, NoOpen, Unknown, is_create, is_close, is_lock}
use Rattle.spec_exchange.specs.Client.{Client, Stage, may_take, may_push, has_its_slot, goes_itself, lacks_slot}
use Rattle.spec_exchange.specs.Client.{settle_no_slot, settle_no_slots, outstanding, ends_at_cut, begin, again}
use Rattle.spec_exchange.specs.Client.{create_for, SaidSecond, SaidNegotiate, SaidFirst, Apart, AskedTree}
use Rattle.spec_exchange.specs.Settling.{Heard as Hearing, Settles, GoesAgain, Attaches, EndsSession, heard, hear}
use Rattle.spec_exchange.specs.Settling.{is_awaited, settle, settled, noted, noted_full, settles_open}
use Rattle.spec_exchange.specs.Dialogs.{DialogStep, GoesOn, Accepts, Binds, Readies, Refuses, dialog_step}
use Rattle.spec_exchange.specs.ClientStep.{Pick, Act, Nothing, Sends, Asks, CloseChannels, AllSettled, push_after}
use Rattle.spec_exchange.specs.ClientStep.{pick_after, op_after, push_act, hear_after, hear_act, cut_after, cut_act}
use Rattle.spec_exchange.specs.ClientStep.{IsReady, CloseChannel}
use Rattle.spec_exchange.specs.Network.{World, Event, Submit, Open, Push, Serve, Take, Cut, Drop, Restart, Crash, Wait}
use Rattle.spec_exchange.specs.Network.{Finish, Sent, Received, Token, ForDialog, ForOp, ForAttach, happens, run, start}
use Rattle.spec_exchange.specs.Network.{Settings, blank_server, later, may_open, may_serve, pushed_by, answer, absorbed}
use Rattle.spec_exchange.specs.Network.{serve_front, absorb_front, take_reply, took_by, dialog_took, closed_by, cut_by}
use Rattle.spec_exchange.specs.Network.{with_client, behind_reply, restarted, opened, dropped, transmitted, is_own}
use Rattle.spec_exchange.specs.Network.{dialog_ended}
use Rattle.spec_exchange.specs.Order.{Log}
use Rattle.spec_exchange.specs.Runs.{is_newer, alters}
use Rattle.spec_exchange.specs.Statements.{Newer}
use Rattle.law_server.proofs.tables.Logic.{either}
use Rattle.law_sessions.proofs.messages.Reached.{on_every_run, one_event_on}
use Rattle.law_server.specs.tables.Fits.{Given as GivenIds}
use Rattle.law_sessions.specs.sessions.Sessions.{PendingUnranked, MakingUnranked, is_ops, is_dialog}
use Rattle.law_order.specs.order.Newest.{Pair, LowSequences, Newest, Below, BelowAll}
use Rattle.law_order.proofs.order.Pairs.{Moves}
use Rattle.law_order.proofs.order.Answers.{Facts, Given, facts}
use Rattle.law_order.proofs.order.Others.{accept_moves, end_moves_all, blank_recovered, recovered_ids}
use Rattle.law_order.proofs.order.Calm.{aloof}
use Rattle.law_sessions.proofs.messages.Run.{ended_well}

-- what is remembered is the same, and so are the ranks
record Alike (w v : World) : Type 0 where
  places : v.log.places ≡ w.log.places
  did : v.log.did ≡ w.log.did
  trace : v.trace ≡ w.trace
  rank : v.client.rank ≡ w.client.rank

ids : World → ℕ
ids w = id_of w.server.epoch w.server.open_ids_given

-- what the server does between two places
record Goes (w v : World) : Type 0 where
  pair : (x q o : ℕ) → 0 < w.client.rank x → o ≤ id_of w.server.epoch w.server.open_ids_given → Pair w.server x q o → Pair v.server x q o
  ids_up : id_of w.server.epoch w.server.open_ids_given ≤ id_of v.server.epoch v.server.open_ids_given
  low : LowSequences v.server

goes_same : (w v : World) → v.server ≡ w.server → LowSequences w.server → Goes w v
goes_same w v e low =
    record {
      pair = λ x q o r l p. subst (λ s. Pair s x q o) (sym e) p;
      ids_up = subst (λ (s : Server). id_of w.server.epoch w.server.open_ids_given ≤ id_of s.epoch s.open_ids_given)
          (sym e) (omega arith);
      low = subst LowSequences (sym e) low;
    }

goes_moves : (w v : World) → Moves w.server v.server → LowSequences w.server → Goes w v
goes_moves w v m low =
    record {
      pair = λ x q o r l p. m.pair x q o p;
      ids_up = let a = m.epoch in let b = m.given in same_id w.server.epoch w.server.open_ids_given v.server.epoch
          v.server.open_ids_given a b;
      low = m.low low;
    }
  where
    same_id : (a b c d : ℕ) → c ≡ a → d ≡ b → id_of a b ≤ id_of c d
    same_id a b c d e f = omega (arith, e, f)

kept : (w v : World) → Alike w v → Goes w v → Newest w → Newest v
kept w v a g n =
    let pl = a.places in let di = a.did in let tr = a.trace in let rk = a.rank in
    record {
      ranked = λ i o l h. let old = n.ranked i o in grind arith;
      ranked_change = λ i o l h. let old = n.ranked_change i o in grind arith;
      reached_given = λ i o l h. let old : o ≤ id_of w.server.epoch w.server.open_ids_given = n.reached_given i o
          (subst (λ p. i < p) pl l) (ap (λ t. t.reached i) (sym tr) ∙ h) in let up = g.ids_up in omega (arith, old, up);
      held = λ i o l h.
          let l' : i < w.log.places = subst (λ p. i < p) pl l in let h' : w.trace.reached i ≡ Some o = ap (λ t. t.reached i) (sym tr) ∙ h in
          subst (λ t. Pair v.server (t.session i) (t.sequence i) o) (sym tr)
          (g.pair (w.trace.session i) (w.trace.sequence i) o (n.ranked i o l' h') (n.reached_given i o l' h')
          (n.held i o l' h'));
      low_sequences = g.low;
      ordered = λ p i o l m d h. let old = n.ordered p i o in grind arith;
    }

kept_server : (w v : World) → Alike w v → v.server ≡ w.server → Newest w → Newest v
kept_server w v a e n = kept w v a (goes_same w v e n.low_sequences) n

-- ---- the front of a connection is taken

-- a place below the new one, or the new one
split : (P : ℕ → Type 0) (n i : ℕ) → i < n + 1 → (i < n → P i) → P n → P i
split P n i l f p = elim (i == n) as (λ b. i == n ≡ b → P i) [
  | true ↦ λ e. subst P (sym (eqb-true i n e)) p
  | false ↦ λ e. let z = eqb-false i n e in f (omega (arith, l, z))
] refl

put_new : {X : Type 0} (f : ℕ → X) (n : ℕ) (v : X) → put f n v n ≡ v
put_new f n v = grind arith

put_old : {X : Type 0} (f : ℕ → X) (n : ℕ) (v : X) (i : ℕ) → i < n → put f n v i ≡ f i
put_old f n v i l = let d : i ≢ n = omega arith in grind arith

-- the front's message: it is an operation's where an open is reached
record Front (w : World) (m : Message) (A : Answer) : Type 0 where
  facts : Facts w.server m A
  ranked : (o : ℕ) → A.reached ≡ Some o → 0 < w.client.rank m.session_id
  ranked_change : (o : ℕ) → A.altered ≡ Some o → 0 < w.client.rank m.session_id

new_pair : (w : World) (x : ℕ) (k : ℕ) → MakingUnranked w.client w.server → 0 < w.client.rank x → is_new x (w.server.making k) ≡ false
new_pair w x k u r = by_test (is_new x (w.server.making k)) refl
  where
    by_test : (b : Bool) → is_new x (w.server.making k) ≡ b → is_new x (w.server.making k) ≡ false
    by_test true e = let z = u k x e in absurd (omega (arith, z, r))
    by_test false e = e

-- a change is no older than any pair that reached its open before
not_newer : (rx rm q s : ℕ) → rx ≤ rm → (rx ≡ rm → q ≤ s) → (nat_lt rm rx || ((rm == rx) && nat_lt s q)) ≡ false
not_newer rx rm q s l f = elim (rm == rx) as (λ b. rm == rx ≡ b → (nat_lt rm rx || ((rm == rx) && nat_lt s q)) ≡ false) [
  | true ↦ λ e. let z = eqb-true rm rx e in let g = f (sym z) in grind (arith, nat_tests)
  | false ↦ λ e. grind (arith, nat_tests)
] refl

in_order : (w : World) (m : Message) (A : Answer) → Below w → Newest w → Front w m A → (i o : ℕ) → i < w.log.places
    → A.altered ≡ Some o → w.trace.reached i ≡ Some o
    → (nat_lt (w.client.rank m.session_id) (w.client.rank (w.trace.session i))
    || ((w.client.rank m.session_id == w.client.rank (w.trace.session i)) && nat_lt m.channel_sequence
    (w.trace.sequence i))) ≡ false
in_order w m A b n f i o l a h =
    let c = f.facts.altered o a in let r = f.ranked_change o a in let rx = n.ranked i o l h in
    let here : m.session_id ≡ w.client.accepted = b.present_accepted m.session_id c.0 r in
    let some : 0 < w.client.accepted_count = (let z = b.ranks m.session_id in omega (arith, z, r)) in
    let last : w.client.rank m.session_id ≡ w.client.accepted_count = ap w.client.rank here ∙ b.last_rank some in
    let le = b.ranks (w.trace.session i) in
    not_newer (w.client.rank (w.trace.session i)) (w.client.rank m.session_id) (w.trace.sequence i) m.channel_sequence
    (omega (arith, last, le))
    (λ e. let z : w.trace.session i ≡ m.session_id = b.rank_once (w.trace.session i) m.session_id rx e in
    (c.1 (w.trace.session i) (w.trace.sequence i) (n.held i o l h) (ap w.server.present z ∙ c.0)).1)

absorb_newest : (w : World) (k : ℕ) (x : Sent) (rest : List Sent) (A : Answer) → Below w → Newest w
    → Front w x.message A → x.message.channel_sequence ≤ 32767 → Newest (absorbed w k x rest A)
absorb_newest w k x rest A b n f low =
    let m = x.message in let N = w.log.places in let v = absorbed w k x rest A in
    record {
      ranked = λ i o l. split (λ j. v.trace.reached j ≡ Some o → 0 < w.client.rank (v.trace.session j)) N i l
          (λ lt h. subst (λ s. 0 < w.client.rank s) (sym (put_old w.trace.session N m.session_id i lt))
          (n.ranked i o lt (sym (put_old w.trace.reached N A.reached i lt) ∙ h)))
          (λ h. subst (λ s. 0 < w.client.rank s) (sym (put_new w.trace.session N m.session_id))
          (f.ranked o (sym (put_new w.trace.reached N A.reached) ∙ h)));
      ranked_change = λ i o l. split (λ j. v.trace.altered j ≡ Some o → 0 < w.client.rank (v.trace.session j)) N i l
          (λ lt h. subst (λ s. 0 < w.client.rank s) (sym (put_old w.trace.session N m.session_id i lt))
          (n.ranked_change i o lt (sym (put_old w.trace.altered N A.altered i lt) ∙ h)))
          (λ h. subst (λ s. 0 < w.client.rank s) (sym (put_new w.trace.session N m.session_id))
          (f.ranked_change o (sym (put_new w.trace.altered N A.altered) ∙ h)));
      reached_given = λ i o l. split (λ j. v.trace.reached j ≡ Some o → o ≤ id_of A.server.epoch A.server.open_ids_given) N i l
          (λ lt h. let old = n.reached_given i o lt (sym (put_old w.trace.reached N A.reached i lt) ∙ h) in
          let up = f.facts.ids in omega (arith, old, up))
          (λ h. (f.facts.reached o (sym (put_new w.trace.reached N A.reached) ∙ h)).0);
      held = λ i o l. split (λ j. v.trace.reached j ≡ Some o → Pair A.server (v.trace.session j) (v.trace.sequence j) o) N i l
          (λ lt h. let h' = sym (put_old w.trace.reached N A.reached i lt) ∙ h in
          subst (λ s. Pair A.server s (v.trace.sequence i) o) (sym (put_old w.trace.session N m.session_id i lt))
          (subst (λ q. Pair A.server (w.trace.session i) q o)
          (sym (put_old w.trace.sequence N m.channel_sequence i lt))
          (f.facts.pair (w.trace.session i) (w.trace.sequence i) o (new_pair w (w.trace.session i) m.connection
          b.making_unranked (n.ranked i o lt h')) (n.reached_given i o lt h') (n.held i o lt h'))))
          (λ h. subst (λ s. Pair A.server s (v.trace.sequence N) o) (sym (put_new w.trace.session N m.session_id))
          (subst (λ q. Pair A.server m.session_id q o) (sym (put_new w.trace.sequence N m.channel_sequence))
          (f.facts.reached o (sym (put_new w.trace.reached N A.reached) ∙ h)).1));
      low_sequences = f.facts.low;
      ordered = λ p i o l lt. split (λ j. i < j → alters v j o ≡ true → v.trace.reached i ≡ Some o → is_newer v i j ≡ false) N p l
          (λ lp li d h. old_order p i o lp li d h)
          (λ li d h. new_order i o li d h) lt;
    }
  where
    is_there : (b : Bool) (o : ℕ) (a : Option ℕ) → (b && is_at o a) ≡ true → a ≡ Some o
    is_there b o a e = grind arith

    old_order : (p i o : ℕ) → p < w.log.places → i < p → alters (absorbed w k x rest A) p o ≡ true
        → (absorbed w k x rest A).trace.reached i ≡ Some o → is_newer (absorbed w k x rest A) i p ≡ false
    old_order p i o lp li d h =
        let N = w.log.places in let m = x.message in let l : i < N = omega arith in
        let e1 = put_old w.log.did N (is_own x.token && A.acted) p lp in let e2 = put_old w.trace.altered N A.altered p
        lp in let e3 = put_old w.trace.reached N A.reached i l in
        let e4 = put_old w.trace.session N m.session_id p lp in let e5 = put_old w.trace.session N m.session_id i l in
        let e6 = put_old w.trace.sequence N m.channel_sequence p lp in let e7 = put_old w.trace.sequence N
        m.channel_sequence i l in
        let old = n.ordered p i o lp li (ap (λ a. w.log.did p && is_at o a) (sym e2)
        ∙ (ap (λ b. b && is_at o (put w.trace.altered N A.altered p)) (sym e1) ∙ d)) (sym e3 ∙ h) in
        rw (e4, e5, e6, e7) old

    new_order : (i o : ℕ) → i < w.log.places → alters (absorbed w k x rest A) w.log.places o ≡ true
        → (absorbed w k x rest A).trace.reached i ≡ Some o → is_newer (absorbed w k x rest A) i w.log.places ≡ false
    new_order i o li d h =
        let N = w.log.places in let m = x.message in
        let e2 = put_new w.trace.altered N A.altered in let e3 = put_old w.trace.reached N A.reached i li in
        let e4 = put_new w.trace.session N m.session_id in let e5 = put_old w.trace.session N m.session_id i li in
        let e6 = put_new w.trace.sequence N m.channel_sequence in let e7 = put_old w.trace.sequence N
        m.channel_sequence i li in
        let old = in_order w m A b n f i o li (sym e2 ∙ is_there (put w.log.did N (is_own x.token && A.acted) N) o
        (put w.trace.altered N A.altered N) d) (sym e3 ∙ h) in
        rw (e4, e5, e6, e7) old

first_of_list : (xs : List Sent) (x : Sent) (rest : List Sent) → xs ≡ x ∷ rest → slice_get xs 0 ≡ Some x
first_of_list xs x rest e = rw e refl

given_at : (w : World) (k : ℕ) (x : Sent) → slice_get (w.conns k).up 0 ≡ Some x → Below w → Newest w → Given w.server x.message
given_at w k x h b n =
    record {
      low = n.low_sequences;
      sequence = (b.sequences_up k 0 x h).0;
      attached = λ o y e. (b.attached o y e).1;
      named = λ c g o e. (b.open_ids o (b.guid_open c g o e).0).1;
      ids = λ o e. (b.open_ids o e).1;
    }

front_at : (w : World) (k : ℕ) (x : Sent) → slice_get (w.conns k).up 0 ≡ Some x → Below w → Newest w → Front w x.message (answer w x)
front_at w k x h b n =
    record {
      facts = facts w.server w.moment x.message x.message.command (given_at w k x h b n);
      ranked = λ o e. by_kind (is_ops x.token) refl (answer w x).reached o e
          (λ d. let a = aloof w.server w.moment x.message x.message.command d in a.reached);
      ranked_change = λ o e. by_kind (is_ops x.token) refl (answer w x).altered o e
          (λ d. let a = aloof w.server w.moment x.message x.message.command d in a.altered);
    }
  where
    by_kind : (t : Bool) → is_ops x.token ≡ t → (a : Option ℕ) (o : ℕ) → a ≡ Some o
        → (is_dialog x.message.command ≡ true → a ≡ None) → 0 < w.client.rank x.message.session_id
    by_kind true e a o s f = b.ranked_up k 0 x h e
    by_kind false e a o s f = absurd (let z = f (b.dialog_up k 0 x h e).1 in grind arith)

-- a world that differs in its connections and moment alone
replied_newest : (w v : World) → v.log ≡ w.log → v.trace ≡ w.trace → v.client ≡ w.client → v.server ≡ w.server → Newest w → Newest v
replied_newest w v l t c s n = kept_server w v (record {
  places = ap (λ x. x.places) l;
  did = ap (λ x. x.did) l;
  trace = t;
  rank = ap (λ x. x.rank) c;
}) s n

serve_newest : (w : World) (k : ℕ) → Below w → Newest w → (xs : List Sent) → (w.conns k).up ≡ xs → Newest (serve_front w k xs)
serve_newest w k b n [] e = n
serve_newest w k b n (x ∷ rest) e =
    let h = first_of_list (w.conns k).up x rest e in
    replied_newest (absorbed w k x rest (answer w x)) (serve_front w k (x ∷ rest)) refl refl refl refl
    (absorb_newest w k x rest (answer w x) b n (front_at w k x h b n) (b.sequences_up k 0 x h).0)

crash_newest : (w : World) (k : ℕ) → Below w → Newest w → (xs : List Sent) → (w.conns k).up ≡ xs → Newest (absorb_front w k xs)
crash_newest w k b n [] e = n
crash_newest w k b n (x ∷ rest) e = let h = first_of_list (w.conns k).up x rest e in
    absorb_newest w k x rest (answer w x) b n (front_at w k x h b n) (b.sequences_up k 0 x h).0

-- ---- a restart

restart_goes : (w : World) → (fold w.records).epoch ≡ w.server.epoch → GivenIds w.server → Goes w (restarted w)
restart_goes w e g =
    let b = blank_recovered w.server w.records in
    record {
      pair = λ x q o r l p st pr. absurd (let z = b.present x in grind arith);
      ids_up = recovered_ids w.server w.records e g;
      low = λ o. let z = b.sequence o in omega (arith, z);
    }

restart_newest : (w : World) → (fold w.records).epoch ≡ w.server.epoch → GivenIds w.server → Newest w → Newest (restarted w)
restart_newest w e g n = kept w (restarted w) (record { places = refl; did = refl; trace = refl; rank = refl }) (restart_goes w e g) n

-- ---- the client's events leave ranks alone, but where a session is accepted

abbrev Ranks_same : Client → Client → Type 0
Ranks_same c d = d.rank ≡ c.rank

slotless_rank : (c : Client) (k : ℕ) (gs : List ℕ) → Ranks_same c (settle_no_slots c k gs)
unfolding settle_no_slots
slotless_rank c k [] = refl
slotless_rank c k (g ∷ gs) = slotless_rank (settle_no_slot c k g) k gs ∙ either (Ranks_same c) (lacks_slot c k g)
    (record c { outcome = put c.outcome g (NoSlot (create_for c g)) }) c (λ _. refl) (λ _. refl)

begun_rank : (c : Client) (k g i : ℕ) (b : Bool) → Ranks_same c (outstanding (if b then again c g else begin c g i) k g)
begun_rank c k g i true = either (λ d. Ranks_same c (outstanding d k g)) (is_lock (c.op g)) _ _ (λ _. refl) (λ _. refl)
begun_rank c k g i false = either (λ d. Ranks_same c (outstanding d k g)) (is_lock (c.op g)) _ _ (λ _. refl) (λ _. refl)

op_rank : (c : Client) (k g i : ℕ) → Ranks_same c (op_after c k g i)
op_rank c k g i =
    either (Ranks_same c) (may_push c k g) _ _
    (λ _. either (Ranks_same c) (goes_itself c g) _ _ (λ _. either (Ranks_same c) (has_its_slot c g i) _ _
    (λ _. begun_rank c k g i (c.sent g)) (λ _. refl)) (λ _. refl))
    (λ _. refl)

pick_rank : (c : Client) (k : ℕ) (pick : Option Pick) → Ranks_same c (pick_after c k pick)
pick_rank c k None = refl
pick_rank c k (Some p) = op_rank c k p.op p.slot

push_rank : (c : Client) (k : ℕ) (slotless : List ℕ) (pick : Option Pick) → Ranks_same c (push_after c k slotless pick)
push_rank c k slotless pick = either (Ranks_same c) (c.ready k) _ _ (λ _. pick_rank (settle_no_slots c k slotless) k
    pick ∙ slotless_rank c k slotless) (λ _. refl)

noted_rank : (c : Client) (g : ℕ) (body : Body) (o : Outcome) → Ranks_same c (noted c g o body)
noted_rank c g body (WasOk reply) = either (Ranks_same c) (is_create (c.op g)) _ _ (λ _. refl)
    (λ _. either (Ranks_same c) (is_close (c.op g)) _ _ (λ _. refl) (λ _. refl))
noted_rank c g body Unsettled = refl
noted_rank c g body (WasRefused status) = refl
noted_rank c g body (NoSlot n) = refl
noted_rank c g body (NoOpen n) = refl
noted_rank c g body (Unknown why) = refl

full_rank : (d : Client) (g : ℕ) (asking : Bool) (status : ℕ) → Ranks_same d (noted_full d g asking status)
full_rank d g asking status = either (Ranks_same d) (is_lock (d.op g) && (not asking && (status == disk_full))) _ _ (λ _. refl) (λ _. refl)

settle_rank : (c : Client) (g : ℕ) (asking : Bool) (r : Reply) (place : ℕ) (o : Outcome) → Ranks_same c (settle c g asking r place o)
settle_rank c g asking r place o =
    let e = full_rank (noted c g o r.body) g asking r.status ∙ noted_rank c g r.body o in
    either (Ranks_same c) (settles_open (c.op g)) _ (settled (noted_full (noted c g o r.body) g asking r.status) g o
    place) (λ _. e) (λ _. e)

hearing_rank : (c : Client) (g : ℕ) (asking : Bool) (r : Reply) (place : ℕ) (h : Hearing) → Ranks_same c (hear c g asking r place h)
hearing_rank c g asking r place (Settles o) = settle_rank c g asking r place o
hearing_rank c g asking r place GoesAgain = refl
hearing_rank c g asking r place Attaches = refl
hearing_rank c g asking r place EndsSession = refl

hear_rank : (c : Client) (k g : ℕ) (asking : Bool) (r : Reply) (place : ℕ) → Ranks_same c (hear_after c k g asking r place)
hear_rank c k g asking r place = either (Ranks_same c) (is_awaited c k g asking) _ _
    (λ _. hearing_rank c g asking r place (heard c g asking r)) (λ _. refl)

cut_rank : (c : Client) (k : ℕ) → Ranks_same c (cut_after c k)
cut_rank c k = either (Ranks_same c) (c.ready k) _ _ (λ _. either (Ranks_same c) (ends_at_cut c) _ _ (λ _. refl) (λ _. refl)) (λ _. refl)

-- ---- events

pushed_newest : (w : World) (k : ℕ) (c : Client) (a : Act) → Ranks_same w.client c → Newest w → Newest (pushed_by w k c a)
pushed_newest w k c Nothing e n = kept_server w _ (record { places = refl; did = refl; trace = refl; rank = e }) refl n
pushed_newest w k c (Sends g) e n = kept_server w (transmitted w k g c) (record {
  places = either (λ (l : Log). l.places ≡ w.log.places) (w.client.sent g) _ _ (λ _. refl) (λ _. refl);
  did = either (λ (l : Log). l.did ≡ w.log.did) (w.client.sent g) _ _ (λ _. refl) (λ _. refl);
  trace = refl;
  rank = e;
}) refl n
pushed_newest w k c (Asks g) e n = kept_server w _ (record { places = refl; did = refl; trace = refl; rank = e }) refl n
pushed_newest w k c CloseChannel e n = kept_server w _ (record { places = refl; did = refl; trace = refl; rank = e }) refl n
pushed_newest w k c CloseChannels e n = kept_server w _ (record { places = refl; did = refl; trace = refl; rank = e }) refl n
pushed_newest w k c AllSettled e n = kept_server w _ (record { places = refl; did = refl; trace = refl; rank = e }) refl n

closed_newest : (w : World) (k : ℕ) (c : Client) (a : Act) → Ranks_same w.client c → Newest w → Newest (with_client (closed_by w k a) c)
closed_newest w k c Nothing e n = kept_server w _ (record { places = refl; did = refl; trace = refl; rank = e }) refl n
closed_newest w k c (Sends g) e n = kept_server w _ (record { places = refl; did = refl; trace = refl; rank = e }) refl n
closed_newest w k c (Asks g) e n = kept_server w _ (record { places = refl; did = refl; trace = refl; rank = e }) refl n
closed_newest w k c CloseChannel e n = kept_server w _ (record { places = refl; did = refl; trace = refl; rank = e }) refl n
closed_newest w k c CloseChannels e n = kept_server w _ (record { places = refl; did = refl; trace = refl; rank = e }) refl n
closed_newest w k c AllSettled e n = kept_server w _ (record { places = refl; did = refl; trace = refl; rank = e }) refl n

cut_newest : (w : World) (k : ℕ) (c : Client) (a : Act) → Ranks_same w.client c → Newest w → Newest (with_client (cut_by w k a) c)
cut_newest w k c Nothing e n = kept_server w _ (record { places = refl; did = refl; trace = refl; rank = e }) refl n
cut_newest w k c (Sends g) e n = kept_server w _ (record { places = refl; did = refl; trace = refl; rank = e }) refl n
cut_newest w k c (Asks g) e n = kept_server w _ (record { places = refl; did = refl; trace = refl; rank = e }) refl n
cut_newest w k c CloseChannel e n = kept_server w _ (record { places = refl; did = refl; trace = refl; rank = e }) refl n
cut_newest w k c CloseChannels e n = kept_server w _ (record { places = refl; did = refl; trace = refl; rank = e }) refl n
cut_newest w k c AllSettled e n = kept_server w _ (record { places = refl; did = refl; trace = refl; rank = e }) refl n

-- a session is accepted whose rank was 0: no pair is of it
other_rank : (w : World) (x r : ℕ) → w.client.rank w.client.pending ≡ 0 → 0 < w.client.rank x
    → put w.client.rank w.client.pending r x ≡ w.client.rank x
other_rank w x r e l = elim (x == w.client.pending) as (λ b. x == w.client.pending ≡ b
    → put w.client.rank w.client.pending r x ≡ w.client.rank x) [
      | true ↦ λ t. let z = eqb-true x w.client.pending t in absurd (let y = ap w.client.rank z in omega (arith, y, e, l))
      | false ↦ λ t. grind arith
    ] refl

accepted_newest : (w v : World) (r : ℕ) → w.client.rank w.client.pending ≡ 0 → v.log ≡ w.log → v.trace ≡ w.trace
    → v.server ≡ w.server → v.client.rank ≡ put w.client.rank w.client.pending r → Newest w → Newest v
accepted_newest w v r z l t s c n =
    let u : World = record w { client = record w.client { rank = put w.client.rank w.client.pending r } } in
    replied_newest' u v l t s c
    (record {
      ranked = λ i o lt h. let q = n.ranked i o lt h in subst (λ x. 0 < x) (sym (other_rank w (w.trace.session i) r z q)) q;
      ranked_change = λ i o lt h. let q = n.ranked_change i o lt h in subst (λ x. 0 < x) (sym (other_rank w (w.trace.session i) r z q)) q;
      reached_given = n.reached_given;
      held = n.held;
      low_sequences = n.low_sequences;
      ordered = λ p i o lp li d h.
          let e1 = other_rank w (w.trace.session i) r z (n.ranked i o (omega (arith, lp, li)) h) in let e2 =
          other_rank w (w.trace.session p) r z
          (n.ranked_change p o lp (is_there (w.log.did p) o (w.trace.altered p) d)) in
          rw (e1, e2) (n.ordered p i o lp li d h);
    })
  where
    is_there : (b : Bool) (o : ℕ) (a : Option ℕ) → (b && is_at o a) ≡ true → a ≡ Some o
    is_there b o a e = grind arith

    replied_newest' : (u v : World) → v.log ≡ u.log → v.trace ≡ u.trace → v.server ≡ u.server → v.client.rank
        ≡ u.client.rank → Newest u → Newest v
    replied_newest' u v l t s c n = kept_server u v (record {
      places = ap (λ x. x.places) l;
      did = ap (λ x. x.did) l;
      trace = t;
      rank = c;
    }) s n

accepts_of : (t : Stage) (status : ℕ) → dialog_step t status ≡ Accepts → t ≡ SaidSecond false
accepts_of Apart status e = absurd (cc)
accepts_of (SaidNegotiate bound) status e = absurd (grind arith)
accepts_of (SaidFirst bound) status e = absurd (grind arith)
accepts_of (SaidSecond true) status e = absurd (grind arith)
accepts_of (SaidSecond false) status e = refl
accepts_of AskedTree status e = absurd (grind arith)

ended_newest : (w : World) (k session tree : ℕ) → Newest w → Newest (dialog_ended w k (IsReady k session tree))
ended_newest w k session tree n =
    ended_well Newest w k session tree (λ _. kept_server w _ (record { places = refl; did = refl; trace = refl; rank = refl }) refl n)
    (λ _ _. kept_server w _ (record { places = refl; did = refl; trace = refl; rank = refl }) refl n)
    (kept_server w _ (record { places = refl; did = refl; trace = refl; rank = refl }) refl n)

dialog_newest : (w : World) (k : ℕ) (r : Reply) → PendingUnranked w.client → Newest w → (d : DialogStep)
    → dialog_step (w.client.stage k) r.status ≡ d → Newest (dialog_took w k r d)
dialog_newest w k r p n (GoesOn stage) e = kept_server w _ (record { places = refl; did = refl; trace = refl; rank = refl }) refl n
dialog_newest w k r p n Accepts e = accepted_newest w _ (w.client.accepted_count + 1)
    (p k (accepts_of (w.client.stage k) r.status e)) refl refl refl refl n
dialog_newest w k r p n Binds e = ended_newest w k w.client.session w.client.tree n
dialog_newest w k r p n Readies e = ended_newest w k w.client.pending r.tree_id n
dialog_newest w k r p n (Refuses status) e = kept_server w _ (record { places = refl; did = refl; trace = refl; rank = refl }) refl n

took_newest : (w : World) (k : ℕ) (r : Reply) (place : ℕ) → PendingUnranked w.client → Newest w → (t : Token)
    → Newest (took_by w k r place t)
took_newest w k r place p n ForDialog = dialog_newest w k r p n (dialog_step (w.client.stage k) r.status) refl
took_newest w k r place p n (ForOp g) = closed_newest w k _ (hear_act w.client k g false r) (hear_rank w.client k g false r place) n
took_newest w k r place p n (ForAttach g) = closed_newest w k _ (hear_act w.client k g true r) (hear_rank w.client k g true r place) n

take_newest : (w : World) (k : ℕ) → PendingUnranked w.client → Newest w → (ys : List Received) → Newest (take_reply w k ys)
take_newest w k p n [] = n
take_newest w k p n (y ∷ rest) = took_newest (behind_reply w k rest) k y.reply y.place p
    (replied_newest w (behind_reply w k rest) refl refl refl refl n) y.token

later_newest : (w : World) (n : ℕ) → Newest w → Newest (later w n)
later_newest w n x = replied_newest w (later w n) refl refl refl refl x

crashes : (w : World) (k : ℕ) (kept : Bool) → Below w → ((xs : List Sent) → (w.conns k).up ≡ xs
    → (fold (absorb_front w k xs).records).epoch ≡ (absorb_front w k xs).server.epoch
    × GivenIds (absorb_front w k xs).server) → Newest w
    → Newest (if kept then restarted (absorb_front w k (w.conns k).up) else restarted w)
crashes w k true b f n = restart_newest (absorb_front w k (w.conns k).up) (f (w.conns k).up refl).0
    (f (w.conns k).up refl).1 (crash_newest w k b n (w.conns k).up refl)
crashes w k false b f n = restart_newest w b.recorded b.given n

-- the same front served and absorbed leaves one server
served_server : (w : World) (k : ℕ) (xs : List Sent) → (serve_front w k xs).server ≡ (absorb_front w k xs).server
served_server w k [] = refl
served_server w k (x ∷ rest) = refl

served_records : (w : World) (k : ℕ) (xs : List Sent) → (serve_front w k xs).records ≡ (absorb_front w k xs).records
served_records w k [] = refl
served_records w k (x ∷ rest) = refl

if_true : {X : Type 0} (b : Bool) (x y : X) → b ≡ true → (if b then x else y) ≡ x
if_true b x y e = grind arith

behind_crash : (w : World) (k : ℕ) → may_serve w k ≡ true → Below (happens w (Serve k)) → (xs : List Sent) → (w.conns k).up ≡ xs
    → (fold (absorb_front w k xs).records).epoch ≡ (absorb_front w k xs).server.epoch × GivenIds (absorb_front w k xs).server
behind_crash w k may b xs e =
    let v = subst Below (if_true (may_serve w k) (later (serve_front w k (w.conns k).up) 1) w may) b in (
      subst (λ s. (fold (absorb_front w k xs).records).epoch ≡ s.epoch) (served_server w k xs)
          (subst (λ rs. (fold rs).epoch ≡ (serve_front w k xs).server.epoch) (served_records w k xs)
          (subst (λ ys. (fold (serve_front w k ys).records).epoch ≡ (serve_front w k ys).server.epoch) e v.recorded)),
      subst GivenIds (served_server w k xs) (subst (λ ys. GivenIds (serve_front w k ys).server) e v.given),
    )

pub keeps : (w : World) (e : Event) → Below w → ((k : ℕ) → Below (happens w (Serve k))) → Newest w → Newest (happens w e)
keeps w (Submit g op) b more n = later_newest _ 1 (kept_server w _ (record {
  places = refl;
  did = refl;
  trace = refl;
  rank = either (Ranks_same w.client) (may_take w.client g op) _ _ (λ _. refl) (λ _. refl);
}) refl n)
keeps w (Open k) b more n =
    either Newest (may_open w k) _ _
    (λ _. later_newest _ 1 (kept w (opened w k) (record {
      places = refl;
      did = refl;
      trace = refl;
      rank = refl;
    }) (goes_moves w (opened w k) (accept_moves w.server w.moment k) n.low_sequences) n)) (λ _. n)
keeps w (Push k slotless pick) b more n =
    either Newest (w.client.ready k) _ _
    (λ _. later_newest _ 1 (pushed_newest w k (push_after w.client k slotless pick) (push_act w.client k slotless pick)
    (push_rank w.client k slotless pick) n)) (λ _. n)
keeps w (Serve k) b more n = either Newest (may_serve w k) _ _ (λ _. later_newest _ 1 (serve_newest w k b n (w.conns k).up refl)) (λ _. n)
keeps w (Take k) b more n = either Newest ((w.conns k).client_open && is_filled (w.conns k).down) _ _
    (λ _. later_newest _ 1 (take_newest w k b.pending_unranked n (w.conns k).down)) (λ _. n)
keeps w (Cut k) b more n =
    either Newest (w.conns k).client_open _ _
    (λ _. later_newest _ 1
    (either Newest (w.client.ready k) _ _ (λ _. cut_newest w k (cut_after w.client k) (cut_act w.client k)
    (cut_rank w.client k) n)
    (λ _. kept_server w _ (record { places = refl; did = refl; trace = refl; rank = refl }) refl n))) (λ _. n)
keeps w (Drop k) b more n =
    either Newest (w.conns k).server_open _ _
    (λ _. later_newest _ 1 (kept w (dropped w k) (record {
      places = refl;
      did = refl;
      trace = refl;
      rank = refl;
    }) (goes_moves w (dropped w k) (end_moves_all w.server w.moment k) n.low_sequences) n)) (λ _. n)
keeps w Restart b more n = later_newest _ 1 (restart_newest w b.recorded b.given n)
keeps w (Crash k kept) b more n =
    either Newest (may_serve w k) _ _ (λ may. later_newest _ 1 (crashes w k kept b (behind_crash w k may (more k)) n)) (λ _. n)
keeps w (Wait m) b more n = later_newest w (10000 * m) n
keeps w (Finish refusal) b more n = either Newest (not w.client.live) _ _
    (λ _. later_newest _ 1 (kept_server w _ (record { places = refl; did = refl; trace = refl; rank = refl }) refl n))
    (λ _. n)

-- ---- every run, where the layers below hold on every run

begins : (z : Settings) → Newest (start z)
begins z =
    let b = blank_recovered (blank_server z) [] in
    record {
      ranked = λ i o l. absurd (omega (arith, l));
      ranked_change = λ i o l. absurd (omega (arith, l));
      reached_given = λ i o l. absurd (omega (arith, l));
      held = λ i o l. absurd (omega (arith, l));
      low_sequences = λ o. let z = b.sequence o in omega (arith, z);
      ordered = λ p i o l. absurd (omega (arith, l));
    }

below_next : (z : Settings) → BelowAll z → (es : List Event) (e : Event) → Below (happens (run es (start z)) e)
below_next z all es e = one_event_on (λ w a. Below w) z all es e

pub newest : (z : Settings) → BelowAll z → (es : List Event) → Newest (run es (start z))
newest z all es = on_every_run (λ w a. Newest w) z (begins z) (λ ds e n. keeps (run ds (start z)) e (all ds)
    (λ k. below_next z all ds (Serve k)) n) es

pub newer : ((z : Settings) → BelowAll z) → Newer
newer all z es = (newest z (all z) es).ordered
