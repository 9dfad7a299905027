-- Each event keeps what holds of the bytes under opens, and so does each run.
use Rattle.std.proofs.Common.{eqb-true, ◌≡◌, ℕ, ◌+◌, ◌≤◌, ◌==◌, Bool, true, false, not, ◌&&◌, if◌then◌else◌, List, []}
use Rattle.std.proofs.Common.{◌∷◌, refl, arith, sym, subst, ◌∙◌, ap, Some, slice_get}
use Rattle.spec_exchange.specs.Table.{put, is_filled}
use Rattle.spec_exchange.specs.Fold.{fold_from, sweep, recovered_from, unmark_records}
use Rattle.spec_exchange.specs.Texts.{same_name}
use Rattle.spec_exchange.specs.CheckSetup.{pipes_name}
use Rattle.spec_exchange.specs.Operations.{NoSession}
use Rattle.spec_exchange.specs.Client.{Client}
use Rattle.spec_exchange.specs.Network.{World, Event, Submit, Open, Push, Serve, Take, Cut, Drop, Restart, Crash, Wait}
use Rattle.spec_exchange.specs.Network.{Finish, Conn, Sent, Settings, happens, run, start, later, may_open, may_serve}
use Rattle.spec_exchange.specs.Network.{answer, absorbed, serve_front, absorb_front, behind_front, restarted}
use Rattle.spec_exchange.specs.Runs.{acts, front_acts}
use Rattle.spec_exchange.specs.Statements.{OneConnection}
use Rattle.law_sessions.specs.messages.Connections.{makes_open}
use Rattle.law_sessions.proofs.messages.Lists.{waited}
use Rattle.law_server.proofs.tables.Logic.{either, front_of, not_true}
use Rattle.law_sessions.proofs.messages.Run.{connections, closed_of, after}
use Rattle.law_sessions.proofs.messages.Reached.{At, on_every_run, one_event_on}
use Rattle.law_sessions.proofs.messages.Stays.{beyond}
use Rattle.law_server.specs.tables.Fits.{Fits}
use Rattle.law_server.proofs.tables.Run.{fitting}
use Rattle.law_records.specs.recovery.Recovers.{RecordRecovers}
use Rattle.law_records.specs.recovery.Restarted.{Restarted}
use Rattle.law_records.proofs.recovery.Worlds.{recovers}
use Rattle.law_records.proofs.recovery.Restarts.{restarted as restarted_by}
use Rattle.law_sessions.proofs.sessions.Always.{sessions}
use Rattle.law_sessions.proofs.sessions.KindsAlways.{kinds, open_kind}
use Rattle.law_creates.specs.Creates.{AtMost}
use Rattle.law_creates.proofs.Law.{creates}
use Rattle.law_order.proofs.order.Front.{Lower, ContentsHold}
use Rattle.law_order.proofs.order.Server.{absorbs, serves, opens_conn, drops, restarts, ranked_of, alive_of, current_of}
use Rattle.law_order.proofs.order.Table.{submits, finishes, cuts, pushes}
use Rattle.law_order.proofs.order.Replies.{takes}
use Rattle.law_order.proofs.order.Legal.{one_connections, bytes_now}
use Rattle.law_order.proofs.order.Lower.{below}
use Rattle.law_order.proofs.order.Newer.{newest}

-- a server that would start anew from its records
abbrev Anew : World → Type 0
Anew w = Fits w.server × Restarted w.server (recovered_from w.server w.records)

-- how often each operation acted where the front is taken
abbrev Behind : World → (ℕ → ℕ) → List Sent → ℕ → ℕ
Behind w a xs g = if front_acts w xs g then a g + 1 else a g

-- what the layers below say at a world, and of what the server takes there
record Known (w : World) (a : ℕ → ℕ) : Type 0 where
  lower : Lower w a
  most : (k : ℕ) → may_serve w k ≡ true → (g : ℕ) → makes_open (w.client.op g) ≡ true → Behind w a (w.conns k).up g ≤ 1
  anew_kept : (k : ℕ) → may_serve w k ≡ true → Anew (absorb_front w k (w.conns k).up)

-- ---- the server takes a message, or starts anew

serve_any : (w : World) (a : ℕ → ℕ) (k : ℕ) → Lower w a → ContentsHold w a → (xs : List Sent) → (w.conns k).up ≡ xs
    → ((g : ℕ) → makes_open (w.client.op g) ≡ true → Behind w a xs g ≤ 1) → ContentsHold (serve_front w k xs)
    (Behind w a xs)
serve_any w a k l i [] is most = i
serve_any w a k l i (x ∷ rest) is most = serves w a k x rest is l most i

serve_open : (w : World) (a : ℕ → ℕ) (k : ℕ) → Known w a → ContentsHold w a → (b : Bool) → may_serve w k ≡ b
    → ContentsHold (if b then later (serve_front w k (w.conns k).up) 1 else w) (λ g. if b && front_acts w (w.conns k).up
    g then a g + 1 else a g)
serve_open w a k f i true e = serve_any w a k f.lower i (w.conns k).up refl (f.most k e)
serve_open w a k f i false e = i

down_at : (f : ℕ → Conn) (k : ℕ) (rest : List Sent) (j : ℕ) → (put f k (behind_front (f k) rest) j).down ≡ (f j).down
down_at f k rest j = elim (j == k) as (λ b. j == k ≡ b → (put f k (behind_front (f k) rest) j).down ≡ (f j).down) [
  | true ↦ λ e. let s = eqb-true j k e in grind arith
  | false ↦ λ e. grind arith
] refl

starts_anew : (w : World) (a : ℕ → ℕ) → Lower w a → ContentsHold w a → ContentsHold (restarted w) a
starts_anew w a l i = restarts w a l.fits l.anew (ranked_of w a l) (current_of w a l) (alive_of w a l) i

anew_any : (w : World) (a : ℕ → ℕ) (k : ℕ) → Lower w a → ContentsHold w a → (xs : List Sent) → (w.conns k).up ≡ xs
    → ((g : ℕ) → makes_open (w.client.op g) ≡ true → Behind w a xs g ≤ 1) → Anew (absorb_front w k xs)
    → ContentsHold (restarted (absorb_front w k xs)) (Behind w a xs)
anew_any w a k l i [] is most r = starts_anew w a l i
anew_any w a k l i (x ∷ rest) is most r =
    restarts (absorbed w k x rest (answer w x)) (Behind w a (x ∷ rest)) r.0 r.1
    (λ j n u h e. let o = waited w.conns k x rest j n u is h in ranked_of w a l j o.0 u o.1 e)
    (λ j n y h e. current_of w a l j n y (subst (λ ys. slice_get ys n ≡ Some y) (down_at w.conns k rest j) h) e)
    (alive_of w a l) (absorbs w a k x rest is l most i)

crash_open : (w : World) (a : ℕ → ℕ) (k : ℕ) → Known w a → ContentsHold w a → (kept b : Bool) → may_serve w k ≡ b
    → ContentsHold (if b then later (if kept then restarted (absorb_front w k (w.conns k).up) else restarted w) 1 else
    w) (λ g. if kept && (b && front_acts w (w.conns k).up g) then a g + 1 else a g)
crash_open w a k f i true true e = anew_any w a k f.lower i (w.conns k).up refl (f.most k e) (f.anew_kept k e)
crash_open w a k f i true false e = i
crash_open w a k f i false true e = starts_anew w a f.lower i
crash_open w a k f i false false e = i

-- ---- every event

keeps : (w : World) (a : ℕ → ℕ) (e : Event) → Known w a → ContentsHold w a → ContentsHold (happens w e) (after w e a)
keeps w a (Submit g op) f i = submits w a g op f.lower i
keeps w a (Open k) f i = either (λ v. ContentsHold v a) (may_open w k) _ _ (λ m. opens_conn w a k (closed_of w k m) f.lower i) (λ _. i)
keeps w a (Push k slotless pick) f i = either (λ v. ContentsHold v a) (w.client.ready k) _ _
    (λ ready. pushes w a k slotless pick ready f.lower i) (λ _. i)
keeps w a (Serve k) f i = serve_open w a k f i (may_serve w k) refl
keeps w a (Take k) f i = either (λ v. ContentsHold v a) ((w.conns k).client_open && is_filled (w.conns k).down) _ _
    (λ m. takes w a k (front_of (w.conns k).client_open _ m) f.lower i (w.conns k).down refl) (λ _. i)
keeps w a (Cut k) f i = either (λ v. ContentsHold v a) (w.conns k).client_open _ _ (λ _. cuts w a k f.lower i) (λ _. i)
keeps w a (Drop k) f i = either (λ v. ContentsHold v a) (w.conns k).server_open _ _ (λ _. drops w a k f.lower i) (λ _. i)
keeps w a Restart f i = starts_anew w a f.lower i
keeps w a (Crash k kept) f i = crash_open w a k f i kept (may_serve w k) refl
keeps w a (Wait n) f i = i
keeps w a (Finish refusal) f i = either (λ v. ContentsHold v a) (not w.client.live) _ _
    (λ d. finishes w a (NoSession refusal) (not_true w.client.live d) i) (λ _. i)

-- ---- at the start

begins : (z : Settings) → ContentsHold (start z) (λ g. 0)
unfolding fold_from sweep unmark_records
begins z =
    record {
      token_up = λ j n x h. absurd (cc);
      token_down = λ j n y h. absurd (cc);
      opens_up = λ j n x h. absurd (cc);
      asked_as = λ j n p x h. absurd (cc);
      lost_unknown = λ p v e. absurd (cc);
      lost_dead = λ p e. absurd (cc);
      lost_known = λ p v e. absurd (cc);
      lost_asked = λ p j v st. absurd (cc);
      session_known = λ l. absurd (omega (arith, l));
      session_asked = λ j st. absurd (cc);
      pairwise = λ p q lt st. absurd (cc);
      first_up = λ j n p x h. absurd (cc);
      unacted = λ p ed b no u. refl;
      fresh_first = λ p st. (refl, refl);
      not_done = λ j n p y h. absurd (cc);
      cut_seq = λ j n p x h. absurd (cc);
      open_seq = λ j n p x h. absurd (cc);
      older = λ j n k p x h. absurd (cc);
      no_replay = λ j n k q p m x h. absurd (cc);
      copy_pair = λ j n p x h. absurd (cc);
      now_pair = λ q at lv. absurd (cc);
      create_reply = λ j n p y h. absurd (cc);
      attach_reply = λ j n p y h. absurd (cc);
      reached = λ j n p y h. absurd (cc);
      closed_reply = λ j n p y h. absurd (cc);
      attach_refused = λ j n p y h. absurd (cc);
      stale_reply = λ j n p y h. absurd (cc);
      session_seq = λ o lv. absurd (cc);
      pending_at = λ o j st. absurd (cc);
      live_unsettled = λ j n p x h. absurd (cc);
      live_replay = λ j n p x h. absurd (cc);
      shows = λ p ed iso sd. absurd (cc);
      denied = λ o p sd. absurd (cc);
      open_of = λ q mk ok. absurd (cc);
      named_open = λ q o e. absurd (cc);
      open_given = λ q o e. absurd (cc);
      open_row = λ q o e. absurd (cc);
      open_acted = λ q o e. absurd (cc);
      bytes = λ q o e. absurd (cc);
      quiet = λ n q lt. absurd (omega (arith, lt));
      foreign = λ n q lt. absurd (omega (arith, lt));
      acted = λ n lt. absurd (omega (arith, lt));
      gave = λ n v lt. absurd (omega (arith, lt));
      gave_end = λ n lt. absurd (omega (arith, lt));
      whose = λ n lt. absurd (omega (arith, lt));
      born = λ n lt. absurd (omega (arith, lt));
      birth_le = λ q. omega arith;
      first_at = λ p n e. absurd (cc);
      by = λ p n e. absurd (cc);
      by_ok = λ p n v ls e. absurd (cc);
      by_end = λ p n e. absurd (cc);
      by_some = λ p f. absurd (cc);
      replies = λ j n y h. absurd (cc);
      attach_status = λ j n p y h. absurd (cc);
      since_le = λ p. omega arith;
      since_reply = λ j n y h. absurd (cc);
      since_by = λ p n e. absurd (cc);
      since_first = λ p n e. absurd (cc);
      prior = λ p q e. absurd (cc);
      prior_by = λ p q n e. absurd (cc);
      prior_first = λ p q n ed e. absurd (cc);
    }

-- ---- every run

anew_at : (w : World) → Fits w.server → RecordRecovers w.records w.server → Anew w
anew_at w f r = (f, restarted_by w.server w.records r)

anew_behind : (w : World) (k : ℕ) (xs : List Sent) → Anew (serve_front w k xs) → Anew (absorb_front w k xs)
anew_behind w k [] h = h
anew_behind w k (x ∷ rest) h = h

served_as : (w : World) (k : ℕ) → may_serve w k ≡ true → happens w (Serve k) ≡ later (serve_front w k (w.conns k).up) 1
served_as w k may = rw may refl

same_client : (w : World) (k : ℕ) (xs : List Sent) → (serve_front w k xs).client ≡ w.client
same_client w k [] = refl
same_client w k (x ∷ rest) = refl

most_of : (b f : Bool) (n : ℕ) → b ≡ true → (if b && f then n + 1 else n) ≤ 1 → (if f then n + 1 else n) ≤ 1
most_of b f n e l = grind arith

at_most_behind : (w : World) (a : ℕ → ℕ) (k : ℕ) → may_serve w k ≡ true → AtMost (happens w (Serve k)).client
    (after w (Serve k) a) → (g : ℕ) → makes_open (w.client.op g) ≡ true → Behind w a (w.conns k).up g ≤ 1
at_most_behind w a k may most g mk =
    most_of (may_serve w k) (front_acts w (w.conns k).up g) (a g) may
    (most g (subst (λ (c : Client). makes_open (c.op g) ≡ true)
    (sym (ap (λ (v : World). v.client) (served_as w k may) ∙ same_client w k (w.conns k).up)) mk))

no_pipes : (b v : Bool) → (b ≡ true → v ≡ false) → v ≡ true → b ≡ false
no_pipes true v f e = absurd (let z = f refl in grind arith)
no_pipes false v f e = refl

-- what the layers below say of every run
pub lower : (z : Settings) (es : List Event) → Lower (run es (start z)) (acts es (start z))
lower z es =
    let w : World = run es (start z) in
    let f = fitting z es in
    record {
      cn = connections z es;
      fits = f;
      ss = sessions z es;
      cr = creates z es;
      beyond = beyond z es;
      low = (newest z (below z) es).low_sequences;
      anew = (anew_at w f (recovers z (fitting z) es)).1;
      disk = λ y id o e. no_pipes (w.server.standing o) (same_name w.client.who.share pipes_name) (open_kind z es o)
          (sym (kinds z es y id true e));
    }

known : (z : Settings) (es : List Event) → Known (run es (start z)) (acts es (start z))
known z es =
    let w : World = run es (start z) in
    record {
      lower = lower z es;
      most = λ k may. at_most_behind w (acts es (start z)) k may (one_event_on (λ (v : World) b. AtMost v.client b) z
          (λ ds. (creates z ds).at_most) es (Serve k));
      anew_kept = λ k may.
          anew_behind w k (w.conns k).up (subst Anew (served_as w k may)
          (anew_at (happens w (Serve k)) (one_event_on (λ (v : World) b. Fits v.server) z (fitting z) es (Serve k))
          (one_event_on (λ (v : World) b. RecordRecovers v.records v.server) z (recovers z (fitting z)) es (Serve k))));
    }

pub contents : (z : Settings) → (es : List Event) → At ContentsHold z es
contents z = on_every_run ContentsHold z (begins z) (λ es e i. keeps (run es (start z)) (acts es (start z)) e (known z es) i)

pub one_connection : OneConnection
one_connection z es = let i = contents z es in (
  one_connections (run es (start z)) (acts es (start z)) i,
  bytes_now (run es (start z)) (acts es (start z)) i,
)
