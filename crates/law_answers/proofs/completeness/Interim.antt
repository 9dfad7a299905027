-- The interim reply that waits tells an id above that of the last session: behind each event.
use Rattle.std.proofs.lemmas.Bool.{eqb-false}
use Rattle.std.proofs.Common.{eqb-true, ◌≡◌, ◌≢◌, ℕ, ◌<◌, ◌==◌, Bool, true, false, not, if◌then◌else◌, List, [], ◌∷◌}
use Rattle.std.proofs.Common.{◌++◌, ◌⊎◌, inl, inr, refl, arith, sym, subst, ◌∙◌, ap}
use Rattle.spec_exchange.specs.Table.{put, is_filled}
use Rattle.spec_exchange.specs.Status.{more_processing_required}
use Rattle.spec_exchange.specs.Client.{Stage, Apart, SaidFirst}
use Rattle.spec_exchange.specs.Network.{World, Event, Submit, Open, Push, Serve, Take, Cut, Drop, Restart, Crash, Wait}
use Rattle.spec_exchange.specs.Network.{Finish, Conn, Sent, Received, ForDialog, happens, changed, later, may_open}
use Rattle.spec_exchange.specs.Network.{may_serve, may_take_reply, answer, behind_front, server_off, absorb_front}
use Rattle.spec_exchange.specs.Network.{restarted}
use Rattle.law_sessions.proofs.messages.Lists.{front_up}
use Rattle.law_sessions.proofs.messages.Run.{closed_of}
use Rattle.law_server.proofs.tables.Logic.{either, front_of, back_of}
use Rattle.law_sessions.specs.sessions.Sessions.{Sessions, is_ops}
use Rattle.law_sessions.specs.sessions.Dialogs.{Awaits, MessageAlone, ReplyAlone, IsLost, Channel, IsClosed, IsReady, IsInDialog, Channels}
use Rattle.law_sessions.proofs.sessions.Run.{answer_facts}
use Rattle.law_answers.proofs.completeness.Events.{if_on, if_off, Elsewhere, serves, serve_elsewhere, take_elsewhere}
use Rattle.law_answers.proofs.completeness.Events.{open_elsewhere, pushed_elsewhere, cut_away}
use Rattle.law_answers.proofs.completeness.Facts.{Facts as Known, ends_of}
use Rattle.law_answers.proofs.completeness.Taking.{Taken, Further, IsOver, IsRefused, IsCountedOut, Heard, Stays, Closes}
use Rattle.law_answers.proofs.completeness.Taking.{takes_dialog, takes_op, not_dialog}
use Rattle.law_answers.proofs.completeness.Drain.{front_and_rest}
use Rattle.law_answers.proofs.completeness.Rising.{Rising, ReplyAbove, first_by, above_given}
use Rattle.law_answers.proofs.completeness.Round.{cut_shuts}

absent : (b : Bool) (P : Type 0) → b ≡ true → b ≡ false → P
absent b P e f = absurd (cc)

first_talks : (s : Stage) → s ≡ SaidFirst false → s ≢ Apart
first_talks s e f = absurd (grind arith)

-- a channel at its first SESSION_SETUP is in its dialog
pub record AtFirst (r : Bool) (c : Conn) : Type 0 where
  pub off : r ≡ false
  pub stands : c.client_open ≡ true
  pub waits : Awaits c

at_first : (r : Bool) (s : Stage) (c : Conn) → s ≡ SaidFirst false → Channel r s c → AtFirst r c
at_first r s c e (IsClosed off apart shut none) = absurd (first_talks s e apart)
at_first r s c e (IsReady on apart stands) = absurd (first_talks s e apart)
at_first r s c e (IsInDialog off talks stands waits) = record { off = off; stands = stands; waits = waits }

same_front : {X : Type 0} (xs : List X) (x y : X) (rest : List X) → xs ≡ x ∷ [] → xs ≡ y ∷ rest → y ≡ x
same_front xs x y rest e f = grind arith

one_said : (xs : List Received) (y : Received) → xs ≡ [] → xs ++ y ∷ [] ≡ y ∷ []
one_said xs y e = ap (λ ys. ys ++ y ∷ []) e

no_up : (w : World) (k : ℕ) → (w.conns k).up ≡ [] → may_serve w k ≡ false
unfolding is_filled
no_up w k e = grind arith

no_down : (w : World) (k : ℕ) → (w.conns k).down ≡ [] → may_take_reply w k ≡ false
unfolding is_filled
no_down w k e = grind arith

-- ---- the reply that is said now

said_above : (w : World) (k : ℕ) (x : Sent) → Sessions w.client w.conns w.server → Rising w.client → (w.conns k).up
    ≡ x ∷ [] → (w.conns k).client_open ≡ true → x.token ≡ ForDialog → w.client.stage k ≡ SaidFirst false
    → (answer w x).reply.status ≡ more_processing_required
    → w.client.session < (answer w x).reply.session_id
said_above w k x s h up stands token at status =
    let f0 = front_up (w.conns k).up x [] up in let f = answer_facts w x in
    let new = s.first_up k 0 x f0 stands (ap is_ops token) at in let c = f.counted (f.interim status new (s.from_client k 0 x f0).2) in
    subst (λ n. w.client.session < n) (sym c.1) (above_given w.client w.server h.zero_session s.session_ranked s.ranked_given)

same_world : (w : World) (b : Bool) (v : World) → b ≡ false → (if b then v else w) ≡ w
same_world w b v e = if_off b v w e

served_first : (w : World) (k : ℕ) (y : Received) (rest : List Received) → Sessions w.client w.conns w.server
    → Rising w.client → ReplyAbove w.client w.conns → w.client.stage k ≡ SaidFirst false → AtFirst (w.client.ready k)
    (w.conns k)
    → ((happens w (Serve k)).conns k).down ≡ y ∷ rest → y.token ≡ ForDialog → y.reply.status ≡ more_processing_required
    → w.client.session < y.reply.session_id
served_first w k y rest s h r at f is token status = by (may_serve w k) refl f.waits
  where
    by : (b : Bool) → may_serve w k ≡ b → Awaits (w.conns k) → w.client.session < y.reply.session_id
    by false off waits = let e = if_off (may_serve w k) (later (changed w (Serve k)) 1) w off in
        r k y rest at (ap (λ (v : World). (v.conns k).down) (sym e) ∙ is) token status
    by true on (MessageAlone x one none t) =
        let a = serves w k x [] on one in let m : Received = record { token = x.token; reply = (answer w x).reply; place = w.log.places } in
        let down = ap (λ (d : Conn). d.down)
        (a.here ∙ if_on (w.conns k).client_open (record (behind_front (w.conns k) []) {
          down = (w.conns k).down ++ m ∷ [];
        }) (behind_front (w.conns k) []) f.stands) ∙ one_said (w.conns k).down m
        none in
        let e = same_front ((happens w (Serve k)).conns k).down m y rest down is in
        subst (λ (z : Received). w.client.session < z.reply.session_id) (sym e)
        (said_above w k x s h one f.stands t at (ap (λ (z : Received). z.reply.status) (sym e) ∙ status))
    by true on (ReplyAlone z none one t) = absent (may_serve w k) _ on (no_up w k none)
    by true on (IsLost gone none empty) = absent (may_serve w k) _ on (no_up w k none)

-- ---- the reply that is taken leaves none behind

taken_first : (w : World) (k : ℕ) (y : Received) (rest : List Received) → Known w → ReplyAbove w.client w.conns
    → (happens w (Take k)).client.stage k ≡ SaidFirst false → AtFirst ((happens w (Take k)).client.ready k)
    ((happens w (Take k)).conns k)
    → ((happens w (Take k)).conns k).down ≡ y ∷ rest → y.token ≡ ForDialog → y.reply.status ≡ more_processing_required
    → w.client.session < y.reply.session_id
taken_first w k y rest F r at f is token status = by (may_take_reply w k) refl
  where
    dialog : Taken w (happens w (Take k)) k → w.client.session < y.reply.session_id
    dialog (Further x lower talks refusals stands up down) = absurd (grind arith)
    dialog (IsOver ready refusals stands up down) = absent ((happens w (Take k)).client.ready k) _ ready f.off
    dialog (IsRefused shut refusals live) = absent ((happens w (Take k)).conns k).client_open _ f.stands shut
    dialog (IsCountedOut shut asked out) = absent ((happens w (Take k)).conns k).client_open _ f.stands shut

    heard : (rest0 : List Received) → w.client.stage k ≡ Apart → Heard w (happens w (Take k)) k rest0
        → w.client.session < y.reply.session_id
    heard rest0 apart (Stays same conns) = absurd (first_talks (w.client.stage k) (ap (λ g. g k) (sym same.stage) ∙ at) apart)
    heard rest0 apart (Closes shut) = absent ((happens w (Take k)).conns k).client_open _ f.stands (shut k)

    channel : may_take_reply w k ≡ true → Channel (w.client.ready k) (w.client.stage k) (w.conns k) → w.client.session < y.reply.session_id
    channel on (IsClosed off apart shut none) = absent (w.conns k).client_open _ (front_of (w.conns k).client_open _ on) shut
    channel on (IsReady ready apart stands) =
        let q = front_and_rest (w.conns k).down (back_of (w.conns k).client_open _ on) in
        heard q.1 apart (takes_op w k q.0 q.1 stands q.2 (not_dialog w.client w.conns k q.0 q.1 F.fit.ready ready
        q.2))
    channel on (IsInDialog off talks stands (MessageAlone x one none t)) = absent (may_take_reply w k) _ on (no_down w k none)
    channel on (IsInDialog off talks stands (ReplyAlone z none one t)) = dialog (takes_dialog w k z stands none one t (ends_of w k F))
    channel on (IsInDialog off talks stands (IsLost gone none empty)) = absent (may_take_reply w k) _ on (no_down w k empty)

    by : (b : Bool) → may_take_reply w k ≡ b → w.client.session < y.reply.session_id
    by true on = channel on (F.channels k)
    by false off =
        let e = if_off (may_take_reply w k) (later (changed w (Take k)) 1) w off in
        r k y rest (ap (λ (v : World). v.client.stage k) (sym e) ∙ at) (ap (λ (v : World). (v.conns k).down) (sym e) ∙ is) token status

-- ---- every event

at_key : (P : ℕ → Type 0) (k q : ℕ) → (q ≡ k → P q) → (q ≢ k → P q) → P q
at_key P k q here there = elim (q == k) as (λ b. q == k ≡ b → P q) [
  | true ↦ λ e. here (eqb-true q k e)
  | false ↦ λ e.
      there (eqb-false q k e)
] refl

drop_down : (w : World) (k q : ℕ) → ((happens w (Drop k)).conns q).down ≡ (w.conns q).down
drop_down w k q = either (λ (v : World). (v.conns q).down ≡ (w.conns q).down) (w.conns k).server_open
    (later (changed w (Drop k)) 1) w (λ _. put_down w.conns k (server_off (w.conns k)) q refl) (λ _. refl)
  where
    put_down : (f : ℕ → Conn) (k : ℕ) (d : Conn) (q : ℕ) → d.down ≡ (f k).down → (put f k d q).down ≡ (f q).down
    put_down f k d q e = grind arith

crash_down : (w : World) (k q : ℕ) (kept : Bool) → ((happens w (Crash k kept)).conns q).down ≡ (w.conns q).down
crash_down w k q kept = either (λ (v : World). (v.conns q).down ≡ (w.conns q).down) (may_serve w k)
    (later (changed w (Crash k kept)) 1) w (λ _. by kept) (λ _. refl)
  where
    put_down : (f : ℕ → Conn) (k : ℕ) (d : Conn) (q : ℕ) → d.down ≡ (f k).down → (put f k d q).down ≡ (f q).down
    put_down f k d q e = grind arith

    list : (xs : List Sent) → ((restarted (absorb_front w k xs)).conns q).down ≡ (w.conns q).down
    list [] = refl
    list (x ∷ rest) = put_down w.conns k (behind_front (w.conns k) rest) q refl

    by : (b : Bool) → ((changed w (Crash k b)).conns q).down ≡ (w.conns q).down
    by true = list (w.conns k).up
    by false = refl

-- of an event that is no Take
from_before : (w : World) (e : Event) (k : ℕ) (y : Received) (rest : List Received) → ReplyAbove w.client w.conns
    → w.client.stage k ≡ SaidFirst false → ((happens w e).conns k).down ≡ (w.conns k).down
    → ((happens w e).conns k).down ≡ y ∷ rest → y.token ≡ ForDialog
    → y.reply.status ≡ more_processing_required → w.client.session < y.reply.session_id
from_before w e k y rest r at same is token status = r k y rest at (sym same ∙ is) token status

elsewhere_before : (w : World) (e : Event) (j k : ℕ) (y : Received) (rest : List Received) → ReplyAbove w.client w.conns
    → w.client.stage k ≡ SaidFirst false → Elsewhere w.conns (happens w e).conns j → k ≢ j
    → ((happens w e).conns k).client_open ≡ true
    → ((happens w e).conns k).down ≡ y ∷ rest → y.token ≡ ForDialog → y.reply.status ≡ more_processing_required
    → w.client.session < y.reply.session_id
elsewhere_before w e j k y rest r at away n o is token status = from_before w e k y rest r at
    (ap (λ (d : Conn). d.down) (away.same k n o)) is token status

same_take : (j k : ℕ) → Take j ≡ Take k → k ≡ j
same_take j k t = cc

pub reply_on : (w : World) (e : Event) → Known w → Sessions w.client w.conns w.server → Channels (happens w e).client
    (happens w e).conns → Rising w.client → ReplyAbove w.client w.conns → ReplyAbove (happens w e).client
    (happens w e).conns
reply_on w e F S ch h r k y rest at is token status =
    let q = (first_by w e S.making).first k at in
    subst (λ n. n < y.reply.session_id) (sym q.1)
    (by e q.0 (at_first ((happens w e).client.ready k) ((happens w e).client.stage k) ((happens w e).conns k) at
    (ch k)) at is)
  where
    before : w.client.stage k ≡ SaidFirst false → AtFirst (w.client.ready k) (w.conns k)
    before s = at_first (w.client.ready k) (w.client.stage k) (w.conns k) s (F.channels k)

    same : (e : Event) → w.client.stage k ≡ SaidFirst false → ((happens w e).conns k).down ≡ (w.conns k).down
        → ((happens w e).conns k).down ≡ y ∷ rest → w.client.session < y.reply.session_id
    same e s d is = from_before w e k y rest r s d is token status

    stage_of : (e : Event) → (w.client.stage k ≡ SaidFirst false) ⊎ (e ≡ Take k) → (e ≡ Take k → ⊥) → w.client.stage k ≡ SaidFirst false
    stage_of e (inl s) n = s
    stage_of e (inr t) n = absurd (n t)

    open_off : (j : ℕ) → k ≡ j → AtFirst (w.client.ready k) (w.conns k) → may_open w j ≡ false
    open_off j z f = no (may_open w j) refl
      where
        no : (b : Bool) → may_open w j ≡ b → may_open w j ≡ false
        no true m = absent (w.conns k).client_open _ f.stands (ap (λ i. (w.conns i).client_open) z ∙ closed_of w j m)
        no false m = m

    by : (e : Event) → (w.client.stage k ≡ SaidFirst false) ⊎ (e ≡ Take k) → AtFirst ((happens w e).client.ready k)
        ((happens w e).conns k) → (happens w e).client.stage k ≡ SaidFirst false → ((happens w e).conns k).down
        ≡ y ∷ rest → w.client.session < y.reply.session_id
    by (Submit g op) q f at is = same (Submit g op) (stage_of (Submit g op) q (λ t. absurd (cc))) refl is
    by (Open j) q f at is =
        let s = stage_of (Open j) q (λ t. absurd (cc)) in
        at_key (λ x. x ≡ k → w.client.session < y.reply.session_id) j k
        (λ z _. same (Open j) s
        (ap (λ (v : World). (v.conns k).down) (if_off (may_open w j) (later (changed w (Open j)) 1) w
        (open_off j z (before s)))) is)
        (λ n _. elsewhere_before w (Open j) j k y rest r s (open_elsewhere w j) n f.stands is token status) refl
    by (Push j slotless pick) q f at is =
        let s = stage_of (Push j slotless pick) q (λ t. absurd (cc)) in
        at_key (λ x. x ≡ k → w.client.session < y.reply.session_id) j k
        (λ z _. same (Push j slotless pick) s
        (ap (λ (v : World). (v.conns k).down)
        (if_off (w.client.ready j) (later (changed w (Push j slotless pick)) 1) w (ap w.client.ready (sym z)
        ∙ (before s).off))) is)
        (λ n _. elsewhere_before w (Push j slotless pick) j k y rest r s (pushed_elsewhere w j slotless pick) n f.stands
        is token status) refl
    by (Serve j) q f at is =
        let s = stage_of (Serve j) q (λ t. absurd (cc)) in
        at_key (λ x. x ≡ k → w.client.session < y.reply.session_id) j k
        (λ z _. served_first w k y rest S h r s (before s) (subst (λ i. ((happens w (Serve i)).conns k).down ≡ y ∷ rest)
        (sym z) is) token status)
        (λ n _. elsewhere_before w (Serve j) j k y rest r s (serve_elsewhere w j) n f.stands is token status) refl
    by (Take j) q f at is =
        at_key (λ x. x ≡ k → w.client.session < y.reply.session_id) j k
        (λ z _. taken_first w k y rest F r (subst (λ i. (happens w (Take i)).client.stage k ≡ SaidFirst false) (sym z)
        at) (subst (λ i. AtFirst ((happens w (Take i)).client.ready k) ((happens w (Take i)).conns k)) (sym z) f)
        (subst (λ i. ((happens w (Take i)).conns k).down ≡ y ∷ rest) (sym z) is) token status)
        (λ n _. elsewhere_before w (Take j) j k y rest r (stage_of (Take j) q (λ t. absurd (n (same_take j k t))))
        (take_elsewhere w j) n f.stands is token status) refl
    by (Cut j) q f at is =
        let s = stage_of (Cut j) q (λ t. absurd (cc)) in
        at_key (λ x. x ≡ k → w.client.session < y.reply.session_id) j k
        (λ z _. absent ((happens w (Cut j)).conns k).client_open _ f.stands
        (subst (λ i. ((happens w (Cut i)).conns k).client_open ≡ false) z (cut_shuts w k (before s).stands)))
        (λ n _. elsewhere_before w (Cut j) j k y rest r s (cut_away w j) n f.stands is token status) refl
    by (Drop j) q f at is = same (Drop j) (stage_of (Drop j) q (λ t. absurd (cc))) (drop_down w j k) is
    by Restart q f at is = same Restart (stage_of Restart q (λ t. absurd (cc))) refl is
    by (Crash j kept) q f at is = same (Crash j kept) (stage_of (Crash j kept) q (λ t. absurd (cc))) (crash_down w j k kept) is
    by (Wait n) q f at is = same (Wait n) (stage_of (Wait n) q (λ t. absurd (cc))) refl is
    by (Finish refusal) q f at is = same (Finish refusal) (stage_of (Finish refusal) q (λ t. absurd (cc)))
        (either (λ (v : World). (v.conns k).down ≡ (w.conns k).down) (not w.client.live)
        (later (changed w (Finish refusal)) 1) w (λ _. refl) (λ _. refl)) is
