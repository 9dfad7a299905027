-- What each law on once and newer rests on holds in every world of a loose run.
use Rattle.std.proofs.Common.{◌≡◌, ℕ, ◌+◌, Bool, true, false, if◌then◌else◌, List, [], ◌∷◌, refl, ap, ◌∙◌, subst, Option}
use Rattle.spec_exchange.specs.Table.{put}
use Rattle.spec_exchange.specs.State.{Server, Open}
use Rattle.spec_exchange.specs.Fold.{recovered_from}
use Rattle.spec_exchange.specs.ClientStep.{Pick}
use Rattle.spec_exchange.specs.Network.{World, Event, Push, Serve, Conn, Sent, happens, changed, later, may_serve, serve_front}
use Rattle.spec_exchange.specs.Network.{absorb_front, restarted, answer}
use Rattle.spec_exchange.specs.Runs.{front_acts}
use Rattle.law_server.specs.tables.Fits.{Fits}
use Rattle.law_server.proofs.tables.Logic.{both}
use Rattle.law_server.proofs.tables.Run.{ServerFits, holds_behind}
use Rattle.law_records.specs.recovery.Recovers.{RecordRecovers}
use Rattle.law_records.specs.recovery.Restarted.{Restarted}
use Rattle.law_records.proofs.recovery.Worlds.{keeps as records_keep}
use Rattle.law_records.proofs.recovery.Restarts.{restarted as restarted_by, was_named, stays_named, stood, ids_above}
use Rattle.law_sessions.specs.messages.Connections.{Connections}
use Rattle.law_sessions.proofs.messages.Absorb.{absorb_keeps}
use Rattle.law_sessions.proofs.messages.Run.{after, keeps as links_keep}
use Rattle.law_sessions.proofs.sessions.Run.{SessionsHold, Bounds, keeps as sessions_keep}
use Rattle.law_creates.specs.Creates.{seen, Restarts}
use Rattle.law_creates.proofs.Run.{CreatesHold, StartsAnew, Known as CreatesKnown, keeps as creates_keep}
use Rattle.law_locks.proofs.Pushing.{LocksHold}
use Rattle.law_locks.proofs.Run.{Known as LocksKnown, keeps as locks_keep}
use Rattle.law_order.specs.order.Newest.{Newest, Below}
use Rattle.law_order.proofs.order.Newer.{keeps as newest_keeps}
use Rattle.law_hostile.specs.sifting.Sifting.{Sifted}
use Rattle.law_hostile.specs.loosely.LooseRuns.{with_connection}
use Rattle.law_hostile.proofs.sifting.OfConnections.{connections_sift}
use Rattle.law_hostile.proofs.sifting.OfSessions.{sessions_sift}
use Rattle.law_hostile.proofs.sifting.OfCreates.{creates_sift}
use Rattle.law_hostile.proofs.sifting.OfLocks.{locks_sift}
use Rattle.law_hostile.proofs.sifting.OfNewest.{newest_sifts}
use Rattle.law_hostile.proofs.loosely.KindsStay.{KindsHold, carries, put_waits, trees_of, keeps as kinds_keep}

-- ---- what speaks of no acts but the first

pub record Core (share : List ℕ) (w : World) (a : ℕ → ℕ) : Type 0 where
  pub links : Connections w.client w.conns a
  pub fits : ServerFits w
  pub sessions : SessionsHold w
  pub kinds : KindsHold share w
  pub recorded : RecordRecovers w.records w.server

bounds_of : (s : Server) → Fits s → Bounds s
bounds_of s f = record { on_present = f.on_present; making_once = f.making_once; begun = f.begun; attached = f.attached }

core_keeps : (share : List ℕ) (w : World) (a : ℕ → ℕ) (e : Event) → Core share w a → Core share (happens w e) (after w e a)
core_keeps share w a e i =
    let f = holds_behind w e i.fits in
    let s = sessions_keep w e i.links.once i.links.ready (bounds_of w.server i.fits.0)
    (λ k. (holds_behind w (Serve k) i.fits).0.begun) i.sessions in
    record {
      links = links_keep w a e i.links;
      fits = f;
      sessions = s;
      kinds = kinds_keep share w e (record { none = f.0.no_trees; absent = s.stored.present }) i.kinds;
      recorded = records_keep w e i.fits.0 (λ x. (holds_behind w x i.fits).0) i.recorded;
    }

core_sifts : (share : List ℕ) (w : World) (a : ℕ → ℕ) (k : ℕ) (d : Conn) → Sifted (w.conns k) d → Core share w a
    → Core share (with_connection w k d) a
core_sifts share w a k d one i =
    record {
      links = connections_sift w.client w.conns a k d one i.links;
      fits = i.fits;
      sessions = record {
        sits = sessions_sift w.client w.conns w.server k d one i.sessions.sits;
        stored = i.sessions.stored;
      };
      kinds = carries share w (put w.conns k d)
          (put_waits share w.conns k d (λ n x h. let m = one.up n x h in i.kinds.waits k m.0 x m.1) i.kinds.waits) i.kinds;
      recorded = i.recorded;
    }

-- ---- a restart, and the server behind an absorbed front, which is the one behind a serve

restarts_of : (s u : Server) → Fits s → Restarted s u → Restarts (seen s) (seen u)
restarts_of s u f r =
    record {
      absent = r.bare.absent;
      apart = r.bare.apart;
      unrefused = r.bare.unrefused;
      stays = λ p q o e k. stays_named s u r p q o e (both (s.standing o) (s.opened o).persistent (f.guid_open p q o e).0 k);
      was = λ p q o e. (was_named s u r p q o e).0;
      named = λ p q o e. r.standing o ∙ (was_named s u r p q o e).1;
      stood = λ o e. let t = stood s u r o e in (t.0, t.2, ap (λ (x : Open). x.persistent) t.2 ∙ t.1);
      expired_guids = r.expired_guids;
      last = ids_above s u r f.given;
    }

anew_at : (w : World) → Fits w.server → RecordRecovers w.records w.server → StartsAnew w
anew_at w f r = restarts_of w.server (recovered_from w.server w.records) f (restarted_by w.server w.records r)

abbrev Anew : World → Type 0
Anew w = Restarted w.server (restarted w).server

if_true : {X : Type 0} (b : Bool) (x y : X) → b ≡ true → (if b then x else y) ≡ x
if_true true x y e = refl
if_true false x y e = absurd (cc)

served_as : (w : World) (k : ℕ) → may_serve w k ≡ true → happens w (Serve k) ≡ later (serve_front w k (w.conns k).up) 1
served_as w k may = if_true (may_serve w k) (later (serve_front w k (w.conns k).up) 1) w may

starts_behind : (w : World) (k : ℕ) (xs : List Sent) → StartsAnew (serve_front w k xs) → StartsAnew (absorb_front w k xs)
starts_behind w k [] h = h
starts_behind w k (x ∷ rest) h = h

anew_behind : (w : World) (k : ℕ) (xs : List Sent) → Anew (serve_front w k xs) → Anew (absorb_front w k xs)
anew_behind w k [] h = h
anew_behind w k (x ∷ rest) h = h

absorbed_links : (w : World) (a : ℕ → ℕ) (k : ℕ) → Connections w.client w.conns a → (xs : List Sent) → (w.conns k).up ≡ xs
    → Connections (absorb_front w k xs).client (absorb_front w k xs).conns (λ g. if front_acts w xs g then a g + 1 else a g)
absorbed_links w a k C [] is = C
absorbed_links w a k C (x ∷ rest) is = absorb_keeps w.client w.conns a k x rest (answer w x).acted is C

pushed_of : (w : World) (a : ℕ → ℕ) (k : ℕ) (slotless : List ℕ) (pick : Option Pick) → w.client.ready k ≡ true
    → Connections (happens w (Push k slotless pick)).client (happens w (Push k slotless pick)).conns a
    → Connections (changed w (Push k slotless pick)).client (changed w (Push k slotless pick)).conns a
pushed_of w a k slotless pick ready C =
    let e : happens w (Push k slotless pick) ≡ later (changed w (Push k slotless pick)) 1 = if_true (w.client.ready k)
    (later (changed w (Push k slotless pick)) 1) w ready in
    subst (λ (v : World). Connections v.client v.conns a) e C

-- ---- what the laws above know

creates_known : (share : List ℕ) (w : World) (a : ℕ → ℕ) → Core share w a → CreatesKnown w a
creates_known share w a i =
    let s = i.sessions.sits in
    record {
      fit = i.links;
      below = record {
        ranked = s.ranked_up;
        here = s.present_accepted;
        lives = s.live_accepted;
        making = s.making_unranked;
        users = s.session_users;
        on_present = i.fits.0.on_present;
        trees = s.tree_up;
        kinds = trees_of share w i.kinds;
      };
      anew = anew_at w i.fits.0 i.recorded;
      anew_kept = λ k may. (let b = core_keeps share w a (Serve k) i in
          starts_behind w k (w.conns k).up (subst StartsAnew (served_as w k may) (anew_at (happens w (Serve k)) b.fits.0 b.recorded)));
    }

locks_known : (share : List ℕ) (w : World) (a : ℕ → ℕ) → Core share w a → CreatesHold w a → LocksKnown w a
locks_known share w a i c =
    record {
      under = record {
        links = i.links;
        sessions = i.sessions.sits;
        kinds = trees_of share w i.kinds;
        creates = c;
        fits = i.fits.0;
      };
      pushed = λ k slotless pick ready. pushed_of w a k slotless pick ready (links_keep w a (Push k slotless pick) i.links);
      anew = restarted_by w.server w.records i.recorded;
      anew_kept = λ k may. (let b = core_keeps share w a (Serve k) i in
          let v = happens w (Serve k) in
          anew_behind w k (w.conns k).up (subst Anew (served_as w k may) (restarted_by v.server v.records b.recorded)));
    }

below_of : (share : List ℕ) (w : World) (a : ℕ → ℕ) → Core share w a → Below w
below_of share w a i =
    let f = i.fits.0 in let s = i.sessions.sits in
    record {
      attached = f.attached;
      guid_open = f.guid_open;
      open_ids = f.open_ids;
      given = f.given;
      ranks = s.ranks;
      last_rank = s.last_rank;
      rank_once = s.rank_once;
      pending_unranked = s.pending_unranked;
      ranked_up = s.ranked_up;
      sequences_up = s.sequences_up;
      dialog_up = s.dialog_up;
      present_accepted = s.present_accepted;
      making_unranked = s.making_unranked;
      recorded = i.sessions.stored.epoch;
    }

-- ---- all of it

pub record Held (share : List ℕ) (w : World) (a : ℕ → ℕ) : Type 0 where
  pub core : Core share w a
  pub creates : CreatesHold w a
  pub locks : LocksHold w a
  pub newest : Newest w

pub held_keeps : (share : List ℕ) (w : World) (a : ℕ → ℕ) (e : Event) → Held share w a → Held share (happens w e) (after w e a)
held_keeps share w a e i =
    record {
      core = core_keeps share w a e i.core;
      creates = creates_keep w a e (creates_known share w a i.core) i.creates;
      locks = locks_keep w a e (locks_known share w a i.core i.creates)
          (λ k may. absorbed_links w a k i.core.links (w.conns k).up refl) i.locks;
      newest = newest_keeps w e (below_of share w a i.core)
          (λ k. below_of share (happens w (Serve k)) (after w (Serve k) a) (core_keeps share w a (Serve k) i.core)) i.newest;
    }

pub held_sifts : (share : List ℕ) (w : World) (a : ℕ → ℕ) (k : ℕ) (d : Conn) → Sifted (w.conns k) d → Held share w a
    → Held share (with_connection w k d) a
held_sifts share w a k d one i =
    record {
      core = core_sifts share w a k d one i.core;
      creates = creates_sift w.client w.conns (seen w.server) a k d one i.creates;
      locks = locks_sift w.client w.conns w.server a k d one i.locks;
      newest = newest_sifts w k d one i.newest;
    }
