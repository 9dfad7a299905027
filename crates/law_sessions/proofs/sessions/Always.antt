-- What holds of sessions holds at the start, and so in every world that a run leads to.
use Rattle.std.proofs.Common.{◌≡◌, ℕ, ◌≤◌, Bool, true, false, List, [], ◌∷◌, ◌++◌, refl, arith, subst, None}
use Rattle.spec_exchange.specs.State.{Server}
use Rattle.spec_exchange.specs.CheckSetup.{is_new}
use Rattle.spec_exchange.specs.Opens.{max_ids}
use Rattle.spec_exchange.specs.Fold.{fold, recovery_records}
use Rattle.spec_exchange.specs.Network.{Event, Serve, happens, run, start, Settings, new_client, no_conn, blank_server}
use Rattle.law_sessions.proofs.messages.Run.{connections}
use Rattle.law_sessions.proofs.messages.Reached.{run_more, on_every_run}
use Rattle.law_server.specs.tables.Fits.{Fits}
use Rattle.law_server.proofs.tables.Run.{fitting}
use Rattle.law_sessions.specs.sessions.Sessions.{Sessions, logon_user}
use Rattle.law_sessions.proofs.sessions.Written.{Folds, Anew, anew, folds_nothing}
use Rattle.law_sessions.proofs.sessions.Run.{SessionsHold, Bounds, keeps}

never : (b : Bool) → b ≡ false → b ≡ true → (P : Type 0) → P
never b e f P = absurd (cc)

not_made : (y : ℕ) (s : Server) (k : ℕ) → s.making k ≡ None → is_new y (s.making k) ≡ true → (P : Type 0) → P
not_made y s k e h P = absurd (grind arith)

begins_new : (z : Settings) → Anew z.who.guid (logon_user z.who.logon) 1 (fold (recovery_records []))
begins_new z = anew z.who.guid (logon_user z.who.logon) (blank_server z) [] (folds_nothing z.who.guid (logon_user z.who.logon))

sits_at_first : (z : Settings) (s : Server) → ((x : ℕ) → s.present x ≡ false) → ((k : ℕ) → s.making k ≡ None)
    → ((o : ℕ) → s.standing o ≡ true → (s.opened o).user ≡ logon_user z.who.logon × (s.opened o).client_guid
    ≡ z.who.guid)
    → ((o : ℕ) → s.session_of_open o ≡ None)
    → Sessions (new_client z.who) (λ k. no_conn) s
sits_at_first z s present making opens unattached =
    record {
      live_accepted = λ l. absurd (cc);
      session_ranked = λ l. absurd (omega (arith, l));
      ranks = λ x. omega arith;
      last_rank = λ l. absurd (omega (arith, l));
      rank_once = λ x y l. absurd (omega (arith, l));
      making = λ k m. absurd (cc);
      pending_accepted = λ k e. absurd (cc);
      pending_unranked = λ k e. absurd (cc);
      sequence_low = omega arith;
      numbered_sessions = λ p q. (omega arith, omega arith, λ l. absurd (cc));
      current_up = λ k n x h. absurd (cc);
      current_down = λ k n y h. absurd (cc);
      ranked_up = λ k n x h. absurd (cc);
      from_client = λ k n x h. absurd (cc);
      sequences_up = λ k n x h. absurd (cc);
      work_up = λ k n x h. absurd (cc);
      dialog_up = λ k n x h. absurd (cc);
      logon_up = λ k n x h. absurd (cc);
      first_up = λ k n x h. absurd (cc);
      second_up = λ k n x h. absurd (cc);
      tree_connect_up = λ k n x h. absurd (cc);
      asked_fresh = λ p k n x a h. absurd (cc);
      present_accepted = λ x p r. never (s.present x) (present x) p _;
      ranked_given = λ x r. absurd (omega (arith, r));
      making_unranked = λ k y h. refl;
      session_users = λ x p. never (s.present x) (present x) p _;
      open_users = opens;
      pending_given = λ k e. absurd (cc);
      first_reply = λ k n y h. absurd (cc);
      second_reply = λ k n y h. absurd (cc);
      tree_up = λ k n x h. absurd (cc);
      tree_live = λ l. absurd (cc);
      tree_reply = λ k n y h. absurd (cc);
      sent_trees = λ k n x h. absurd (cc);
      asked_new = λ k e. absurd (cc);
      open_trees = λ o x h. absurd (let n = unattached o in cc);
    }

begins : (z : Settings) → SessionsHold (start z)
begins z =
    let a = begins_new z in
    record {
      sits = sits_at_first z (start z).server a.folds.present a.folds.making a.folds.opens a.folds.attached;
      stored = record { epoch = refl; present = a.folds.present; making = a.folds.making; opens = a.folds.opens; attached = a.folds.attached };
    }

bounds_of : (s : Server) → Fits s → Bounds s
bounds_of s f = record { on_present = f.on_present; making_once = f.making_once; begun = f.begun; attached = f.attached }

behind : (z : Settings) (es : List Event) (k : ℕ) → (happens (run es (start z)) (Serve k)).server.session_ids_given ≤ max_ids
behind z es k = subst (λ w. w.server.session_ids_given ≤ max_ids) (run_more es (Serve k) (start z)) (fitting z (es ++ Serve k ∷ [])).begun

pub holds : (z : Settings) (es : List Event) → SessionsHold (run es (start z))
holds z es =
    on_every_run (λ w a. SessionsHold w) z (begins z)
    (λ xs e h. let c = connections z xs in keeps (run xs (start z)) e c.once c.ready
    (bounds_of (run xs (start z)).server (fitting z xs)) (behind z xs) h) es

-- ---- for the laws above: at a world of a run, and one event further

pub sessions : (z : Settings) (es : List Event) → Sessions (run es (start z)).client (run es (start z)).conns (run es (start z)).server
sessions z es = (holds z es).sits

pub sessions_behind : (z : Settings) (es : List Event) (e : Event) → Sessions (happens (run es (start z)) e).client
    (happens (run es (start z)) e).conns (happens (run es (start z)) e).server
sessions_behind z es e = subst (λ w. Sessions w.client w.conns w.server) (run_more es e (start z)) (sessions z (es ++ e ∷ []))

-- the epoch of the records is the server's, and the opens that they restore are this client's
pub stored : (z : Settings) (es : List Event) → Folds (run es (start z)).client.who.guid
    (logon_user (run es (start z)).client.who.logon) (run es (start z)).server.epoch (fold (run es (start z)).records)
stored z es = (holds z es).stored
