-- What holds of creates on every run, and what it says of their acts.
use Rattle.std.proofs.Common.{◌≡◌, ℕ, ◌≤◌, true, false, List, [], ◌∷◌, ◌++◌, refl, arith, subst, ◌∙◌, ap}
use Rattle.spec_exchange.specs.State.{Server, Open}
use Rattle.spec_exchange.specs.Fold.{fold_from, sweep, recovered_from, unmark_records}
use Rattle.spec_exchange.specs.Operations.{Op, Outcome, is_create, is_ok, is_unsettled}
use Rattle.spec_exchange.specs.Network.{World, Event, Serve, Sent, Settings, happens, run, start, later, may_serve}
use Rattle.spec_exchange.specs.Network.{serve_front, absorb_front}
use Rattle.spec_exchange.specs.Runs.{acts, never_acted}
use Rattle.law_sessions.specs.messages.Connections.{makes_open}
use Rattle.law_sessions.proofs.messages.Run.{connections}
use Rattle.law_sessions.proofs.messages.Reached.{At, on_every_run, one_event_on}
use Rattle.law_sessions.proofs.messages.Stays.{settled_stays, settled_op}
use Rattle.law_server.specs.tables.Fits.{Fits}
use Rattle.law_server.proofs.tables.Run.{fitting}
use Rattle.law_records.specs.recovery.Recovers.{RecordRecovers}
use Rattle.law_records.specs.recovery.Restarted.{Restarted}
use Rattle.law_records.proofs.recovery.Worlds.{recovers}
use Rattle.law_records.proofs.recovery.Restarts.{restarted as restarted_by, was_named, stays_named, stood, ids_above}
use Rattle.law_sessions.proofs.sessions.Always.{sessions}
use Rattle.law_creates.specs.Creates.{seen, Restarts}
use Rattle.law_creates.proofs.Run.{CreatesHold, Known, StartsAnew, keeps}
use Rattle.law_server.proofs.tables.Logic.{both}
use Rattle.law_sessions.proofs.sessions.KindsAlways.{kinds}

-- ---- a restart

restarts_of : (s u : Server) → Fits s → Restarted s u → Restarts (seen s) (seen u)
restarts_of s u f r =
    record {
      absent = r.bare.absent;
      apart = r.bare.apart;
      unrefused = r.bare.unrefused;
      stays = λ p q o e k. stays_named s u r p q o e (both (s.standing o) (s.opened o).persistent (f.guid_open p q o e).0 k);
      was = λ p q o e. (was_named s u r p q o e).0;
      named = λ p q o e. r.standing o ∙ (was_named s u r p q o e).1;
      stood = λ o e. let t = stood s u r o e in (t.0, t.2, ap (λ (x : Open). x.persistent) t.2 ∙ t.1);
      expired_guids = r.expired_guids;
      last = ids_above s u r f.given;
    }

anew_at : (w : World) → Fits w.server → RecordRecovers w.records w.server → StartsAnew w
anew_at w f r = restarts_of w.server (recovered_from w.server w.records) f (restarted_by w.server w.records r)

-- the server behind an absorbed front is the one behind a serve
anew_behind : (w : World) (k : ℕ) (xs : List Sent) → StartsAnew (serve_front w k xs) → StartsAnew (absorb_front w k xs)
anew_behind w k [] h = h
anew_behind w k (x ∷ rest) h = h

anew_kept : (w : World) (k : ℕ) → may_serve w k ≡ true → Fits (happens w (Serve k)).server
    → RecordRecovers (happens w (Serve k)).records (happens w (Serve k)).server → StartsAnew (absorb_front w k (w.conns k).up)
anew_kept w k may f r =
    let e : happens w (Serve k) ≡ later (serve_front w k (w.conns k).up) 1 = rw may refl in
    anew_behind w k (w.conns k).up (subst StartsAnew e (anew_at (happens w (Serve k)) f r))

-- ---- every run

known : (z : Settings) → (es : List Event) → Known (run es (start z)) (acts es (start z))
known z es =
    let w : World = run es (start z) in
    let s = sessions z es in
    let f = fitting z es in
    record {
      fit = connections z es;
      below = record {
        ranked = s.ranked_up;
        here = s.present_accepted;
        lives = s.live_accepted;
        making = s.making_unranked;
        users = s.session_users;
        on_present = f.on_present;
        trees = s.tree_up;
        kinds = kinds z es;
      };
      anew = anew_at w f (recovers z (fitting z) es);
      anew_kept = λ k may. anew_kept w k may
          (one_event_on (λ (v : World) a. Fits v.server) z (fitting z) es (Serve k))
          (one_event_on (λ (v : World) a. RecordRecovers v.records v.server) z (recovers z (fitting z)) es (Serve k));
    }

begins : (z : Settings) → CreatesHold (start z) (λ g. 0)
unfolding fold_from sweep unmark_records
begins z =
    record {
      made = λ p o h. absurd (cc);
      named = λ p o h. absurd (cc);
      named_kind = λ p o h. absurd (cc);
      named_given = λ p o h. absurd (cc);
      attached = λ o x h. absurd (cc);
      plain_attached = λ o h. absurd (cc);
      unclosed = λ p m u l. absurd (omega (arith, l));
      acted_kept = λ k n g x h. absurd (cc);
      at_most = λ p m. omega arith;
      form_acted = λ p m l. absurd (omega (arith, l));
      refused_not = λ p m e. refl;
      dead_refused = λ k n g x h. absurd (cc);
      no_reply = λ k n g y h. absurd (cc);
      barred_reply = λ k n g y h. absurd (cc);
      refused_status = λ x q t e. absurd (cc);
      ok_acted = λ p m e. absurd (cc);
      ok_reply = λ k n g y h. absurd (cc);
      file_guid = λ p m e. absurd (cc);
      file_of = λ p o m e. absurd (cc);
      reply_guid = λ k n g y h. absurd (cc);
      reply_of = λ k n g o y h. absurd (cc);
      plain_dead = λ p l m o s. absurd (cc);
      asking_other = λ p e. absurd (cc);
      dialog_up = λ k n x h. absurd (cc);
      ask_up = λ k n g x h. absurd (cc);
    }

pub creates : (z : Settings) → (es : List Event) → At CreatesHold z es
creates z = on_every_run CreatesHold z (begins z) (λ es e h. keeps (run es (start z)) (acts es (start z)) e (known z es) h)

-- ---- acts

of_create : (op : Op) → is_create op ≡ true → makes_open op ≡ true
unfolding makes_open
of_create op e = e

pub at_most_of : (z : Settings) → (es : List Event) (g : ℕ) → is_create ((run es (start z)).client.op g) ≡ true → acts es (start z) g ≤ 1
at_most_of z es g e = (creates z es).at_most g (of_create _ e)

one_of : (n : ℕ) → n ≤ 1 → 1 ≤ n → n ≡ 1
one_of n l m = omega (arith, l, m)

pub acknowledged_of : (z : Settings) → (es : List Event) (g : ℕ) → is_create ((run es (start z)).client.op g) ≡ true
    → is_ok ((run es (start z)).client.outcome g) ≡ true → acts es (start z) g ≡ 1
acknowledged_of z es g e ok = one_of (acts es (start z) g) (at_most_of z es g e) ((creates z es).ok_acted g (of_create _ e) ok)

never_settled : (o : Outcome) → never_acted o ≡ true → is_unsettled o ≡ false
never_settled o e = grind arith

pub never_of : (z : Settings) → (es more : List Event) (g : ℕ) → is_create ((run es (start z)).client.op g) ≡ true
    → never_acted ((run es (start z)).client.outcome g) ≡ true → acts (es ++ more) (start z) g ≡ 0
never_of z es more g e never =
    let s = never_settled ((run es (start z)).client.outcome g) never in
    (creates z (es ++ more)).refused_not g (of_create _ (ap is_create (settled_op z es more g s) ∙ e))
    (ap never_acted (settled_stays z es more g s) ∙ never)
