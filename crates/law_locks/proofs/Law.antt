-- What holds of locks on every run, and what creates, locks and unlocks do once.
use Rattle.std.proofs.Common.{◌≡◌, ℕ, ◌+◌, Bool, true, false, if◌then◌else◌, List, [], ◌∷◌, ◌++◌, refl, arith, subst, ◌∙◌, ap, Option}
use Rattle.spec_exchange.specs.Fold.{fold_from, sweep, unmark_records}
use Rattle.spec_exchange.specs.Operations.{Op, Outcome, is_create, is_lock, is_unsettled}
use Rattle.spec_exchange.specs.ClientStep.{Pick}
use Rattle.spec_exchange.specs.Network.{World, Event, Push, Serve, Sent, Settings, happens, run, start, changed, later}
use Rattle.spec_exchange.specs.Network.{may_serve, serve_front, absorb_front, restarted, answer}
use Rattle.spec_exchange.specs.Runs.{acts, never_acted, front_acts, is_once}
use Rattle.spec_exchange.specs.Statements.{ExactlyOnce}
use Rattle.law_sessions.specs.messages.Connections.{Connections}
use Rattle.law_sessions.proofs.messages.Absorb.{absorb_keeps}
use Rattle.law_sessions.proofs.messages.Run.{connections}
use Rattle.law_sessions.proofs.messages.Reached.{At, on_every_run, one_event_on}
use Rattle.law_sessions.proofs.messages.Stays.{settled_stays, settled_op}
use Rattle.law_server.proofs.tables.Run.{fitting}
use Rattle.law_records.specs.recovery.Recovers.{RecordRecovers}
use Rattle.law_records.specs.recovery.Restarted.{Restarted}
use Rattle.law_records.proofs.recovery.Worlds.{recovers}
use Rattle.law_records.proofs.recovery.Restarts.{restarted as restarted_by}
use Rattle.law_sessions.proofs.sessions.Always.{sessions}
use Rattle.law_sessions.proofs.sessions.KindsAlways.{kinds}
use Rattle.law_creates.proofs.Law.{creates, at_most_of, acknowledged_of, never_of}
use Rattle.law_locks.specs.Locks.{locking, refused_for_good}
use Rattle.law_locks.proofs.Pushing.{LocksHold}
use Rattle.law_locks.proofs.Run.{Known, keeps}
use Rattle.law_server.proofs.tables.Logic.{other_on}

-- ---- what is known of each world of a run

if_true : {X : Type 0} (b : Bool) (x y : X) → b ≡ true → (if b then x else y) ≡ x
if_true true x y e = refl
if_true false x y e = absurd (cc)

pushed_of : (w : World) (a : ℕ → ℕ) (k : ℕ) (slotless : List ℕ) (pick : Option Pick) → w.client.ready k ≡ true
    → Connections (happens w (Push k slotless pick)).client (happens w (Push k slotless pick)).conns a
    → Connections (changed w (Push k slotless pick)).client (changed w (Push k slotless pick)).conns a
pushed_of w a k slotless pick ready C =
    let e : happens w (Push k slotless pick) ≡ later (changed w (Push k slotless pick)) 1 = if_true (w.client.ready k)
    (later (changed w (Push k slotless pick)) 1) w ready in
    subst (λ (v : World). Connections v.client v.conns a) e C

abbrev Anew : World → Type 0
Anew w = Restarted w.server (restarted w).server

anew_behind : (w : World) (k : ℕ) (xs : List Sent) → Anew (serve_front w k xs) → Anew (absorb_front w k xs)
anew_behind w k [] h = h
anew_behind w k (x ∷ rest) h = h

anew_at : (w : World) → RecordRecovers w.records w.server → Anew w
anew_at w r = restarted_by w.server w.records r

anew_kept : (w : World) (k : ℕ) → may_serve w k ≡ true → RecordRecovers (happens w (Serve k)).records
    (happens w (Serve k)).server → Anew (absorb_front w k (w.conns k).up)
anew_kept w k may r =
    let e : happens w (Serve k) ≡ later (serve_front w k (w.conns k).up) 1 = if_true (may_serve w k)
    (later (serve_front w k (w.conns k).up) 1) w may in
    anew_behind w k (w.conns k).up (subst Anew e (anew_at (happens w (Serve k)) r))

absorbed_links : (w : World) (a : ℕ → ℕ) (k : ℕ) → Connections w.client w.conns a → (xs : List Sent) → (w.conns k).up
    ≡ xs → Connections (absorb_front w k xs).client (absorb_front w k xs).conns
    (λ g. if front_acts w xs g then a g + 1 else a g)
absorbed_links w a k C [] is = C
absorbed_links w a k C (x ∷ rest) is = absorb_keeps w.client w.conns a k x rest (answer w x).acted is C

known : (z : Settings) → (es : List Event) → Known (run es (start z)) (acts es (start z))
known z es =
    let w : World = run es (start z) in
    record {
      under = record {
        links = connections z es;
        sessions = sessions z es;
        kinds = kinds z es;
        creates = creates z es;
        fits = fitting z es;
      };
      pushed = λ k slotless pick ready. pushed_of w (acts es (start z)) k slotless pick ready
          (one_event_on (λ (v : World) a. Connections v.client v.conns a) z (connections z) es (Push k slotless pick));
      anew = anew_at w (recovers z (fitting z) es);
      anew_kept = λ k may. anew_kept w k may (one_event_on (λ (v : World) a. RecordRecovers v.records v.server) z
          (recovers z (fitting z)) es (Serve k));
    }

begins : (z : Settings) → LocksHold (start z) (λ g. 0)
unfolding fold_from sweep unmark_records
begins z =
    record {
      slot_index = λ g s. absurd (cc);
      user_body = λ q i g e. absurd (cc);
      in_use = λ g s. absurd (cc);
      full_free = λ g s. absurd (cc);
      attached_low = λ q. omega arith;
      shut_ok = λ h s e. absurd (cc);
      shut_made = λ q e. absurd (cc);
      shut_gone = λ g l m n e. absurd (cc);
      close_before = λ g h s. absurd (cc);
      close_after = λ h g s. absurd (cc);
      unsent_gone = λ g e. refl;
      unanswered = λ k n g x h. absurd (cc);
      ask_up = λ k n g x h. absurd (cc);
      ask_down = λ k n g y h. absurd (cc);
      users = λ k n g x h. absurd (cc);
      copy_now = λ k n g x h. absurd (cc);
      retried_on = λ k n g x h. absurd (cc);
      retried_done = λ k n g x h. absurd (cc);
      copy_attached = λ k n g x h. absurd (cc);
      now_attached = λ q m e. absurd (cc);
      opened_reply = λ k n g y h. absurd (cc);
      join_reply = λ k n g y h. absurd (cc);
      joined_reply = λ k n g y h. absurd (cc);
      lost_reply = λ k n g y h. absurd (cc);
      kept_says = λ g st e. absurd (cc);
      not_kept = λ g e. absurd (cc);
      firm_kept = λ g e. absurd (cc);
      no_user = λ q i e. absurd (cc);
      no_slots = λ q i o m e h. refl;
      full_dead = λ k n g x h. absurd (cc);
      ok_reply = λ k n g y h. absurd (cc);
      no_reply = λ k n g y h. absurd (cc);
      kept_reply = λ k n g y h. absurd (cc);
      first_reply = λ k n g y h. absurd (cc);
      closed_not = λ g l s. absurd (cc);
      kept_files = λ o s. absurd (cc);
      left_full = λ k n h x e. absurd (cc);
      left_stuck = λ k n h x e. absurd (cc);
      left_idle = λ k n h g x e. absurd (cc);
      close_done = λ k n h y e. absurd (cc);
      close_full = λ k n h y e. absurd (cc);
      close_stuck = λ k n h y e. absurd (cc);
      made_plain = λ q m l. absurd (omega (arith, l));
      at_most = λ g l. omega arith;
      ok_acted = λ g l e. absurd (cc);
      refused_not = λ g l e. refl;
    }

pub locks : (z : Settings) → (es : List Event) → At LocksHold z es
locks z = on_every_run LocksHold z (begins z) (λ es e h. keeps (run es (start z)) (acts es (start z)) e (known z es)
    (λ k may. absorbed_links (run es (start z)) (acts es (start z)) k (connections z es) ((run es (start z)).conns k).up
    refl) h)

-- ---- acts

of_lock : (op : Op) → is_lock op ≡ true → locking op ≡ true
unfolding locking
of_lock op e = e

of_refused : (o : Outcome) → never_acted o ≡ true → refused_for_good o ≡ true
unfolding refused_for_good
of_refused o e = e

never_settled : (o : Outcome) → never_acted o ≡ true → is_unsettled o ≡ false
never_settled o e = grind arith

-- a create, or a lock or unlock
by_kind : (op : Op) (P : Type 0) → is_once op ≡ true → (is_create op ≡ true → P) → (is_lock op ≡ true → P) → P
by_kind op P e f g = elim (is_create op) as (λ b. is_create op ≡ b → P) [
  | true ↦ λ h. f h
  | false ↦ λ h. g (other_on (is_create op) (is_lock op) e h)
] refl

never_lock : (z : Settings) → (es more : List Event) (g : ℕ) → is_lock ((run es (start z)).client.op g) ≡ true
    → never_acted ((run es (start z)).client.outcome g) ≡ true → acts (es ++ more) (start z) g ≡ 0
never_lock z es more g e never =
    let s = never_settled ((run es (start z)).client.outcome g) never in
    (locks z (es ++ more)).refused_not g (of_lock _ (ap is_lock (settled_op z es more g s) ∙ e))
    (of_refused _ (ap never_acted (settled_stays z es more g s) ∙ never))

pub exactly_once : ExactlyOnce
exactly_once z es =
    record {
      at_most = λ g e. by_kind ((run es (start z)).client.op g) _ e (λ h. at_most_of z es g h) (λ h. (locks z es).at_most g (of_lock _ h));
      acknowledged = λ g e ok. by_kind ((run es (start z)).client.op g) _ e (λ h. acknowledged_of z es g h ok)
          (λ h. (locks z es).ok_acted g (of_lock _ h) ok);
      never = λ g more e n. by_kind ((run es (start z)).client.op g) _ e (λ h. never_of z es more g h n) (λ h. never_lock z es more g h n);
    }
