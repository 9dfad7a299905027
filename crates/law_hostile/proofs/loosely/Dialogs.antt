-- What each law on once and newer rests on stays where a dialog's response comes down that no server's list had, and where a client waits for
-- the end of a session's dialog at once.
use Rattle.std.proofs.Common.{◌≡◌, ℕ, ◌≤◌, ◌<◌, true, false, List, [], ◌∷◌, ◌++◌, arith, Some}
use Rattle.spec_exchange.specs.Table.{put}
use Rattle.spec_exchange.specs.Status.{success}
use Rattle.spec_exchange.specs.State.{Reply, Empty}
use Rattle.spec_exchange.specs.Opens.{id_of}
use Rattle.spec_exchange.specs.Client.{SaidSecond}
use Rattle.spec_exchange.specs.Network.{World, Conn, Received, ForDialog, ForOp, ForAttach, Take, happens, with_client, later}
use Rattle.law_sessions.specs.messages.Connections.{copies}
use Rattle.law_sessions.proofs.messages.WentOn.{went_on_keeps as went_on_links}
use Rattle.law_sessions.proofs.messages.Say.{say_keeps as say_links}
use Rattle.law_sessions.proofs.sessions.Told.{told_keeps}
use Rattle.law_sessions.proofs.sessions.Say.{say_keeps as say_sessions}
use Rattle.law_sessions.proofs.sessions.Dialog.{Tells}
use Rattle.law_creates.specs.Creates.{seen}
use Rattle.law_creates.proofs.WentOn.{went_on_creates}
use Rattle.law_creates.proofs.Say.{say_creates}
use Rattle.law_locks.proofs.WentOn.{went_on_keeps as went_on_locks}
use Rattle.law_locks.proofs.Say.{say_told}
use Rattle.law_hostile.specs.loosely.LooseRuns.{with_connection}
use Rattle.law_hostile.proofs.loosely.KindsStay.{carries, put_waits}
use Rattle.law_hostile.proofs.loosely.Staying.{Held, held_keeps}

-- ---- a moment passes

pub held_later : (share : List ℕ) (w : World) (a : ℕ → ℕ) (n : ℕ) → Held share w a → Held share (later w n) a
held_later share w a n i =
    let c = i.core in
    let s = c.sessions in
    let q = c.kinds in
    let m = i.newest in
    record {
      core = record {
        links = c.links;
        fits = c.fits;
        sessions = record { sits = s.sits; stored = s.stored };
        kinds = record { who = q.who; waits = q.waits; sorted = q.sorted; bare = q.bare };
        recorded = c.recorded;
      };
      creates = i.creates;
      locks = i.locks;
      newest = record {
        ranked = m.ranked;
        ranked_change = m.ranked_change;
        reached_given = m.reached_given;
        held = m.held;
        low_sequences = m.low_sequences;
        ordered = m.ordered;
      };
    }

-- ---- the session that a dialog makes is told

-- its id
abbrev told_id : ℕ → Reply
told_id id = record { status = success; session_id = id; tree_id = 0; body = Empty }

abbrev pub waits_for : World → ℕ → ℕ → World
waits_for w k id = with_client w (record w.client { stage = put w.client.stage k (SaidSecond false); pending = id })

not_bound : (w : World) → false ≡ true → w.client.live ≡ true
not_bound w e = absurd (let h : false ≡ true = e in cc)

pub held_waits : (share : List ℕ) (w : World) (a : ℕ → ℕ) (k id : ℕ) → copies 0 (w.conns k) ≡ 0 → w.client.making ≡ Some k
    → w.client.rank id ≡ 0 → 0 < id → id ≤ id_of w.server.epoch w.server.session_ids_given → Held share w a
    → Held share (waits_for w k id) a
held_waits share w a k id none mine unranked above given i =
    let c = i.core in
    let s = c.sessions in
    let q = c.kinds in
    let m = i.newest in
    let r = told_id id in
    record {
      core = record {
        links = went_on_links w.client w.conns a k (SaidSecond false) r (not_bound w) c.links;
        fits = c.fits;
        sessions = record {
          sits = told_keeps w.client w.conns w.server k id none mine unranked above given s.sits;
          stored = s.stored;
        };
        kinds = record { who = q.who; waits = q.waits; sorted = q.sorted; bare = q.bare };
        recorded = c.recorded;
      };
      creates = went_on_creates w.client w.conns (seen w.server) a k (SaidSecond false) r i.creates;
      locks = went_on_locks w.client w.conns w.server a k (SaidSecond false) r i.locks;
      newest = record {
        ranked = m.ranked;
        ranked_change = m.ranked_change;
        reached_given = m.reached_given;
        held = m.held;
        low_sequences = m.low_sequences;
        ordered = m.ordered;
      };
    }

-- ---- a response comes down

abbrev pub response_of : Reply → ℕ → Received
response_of r place = record { token = ForDialog; reply = r; place = place }

abbrev pub comes_down : World → ℕ → Received → World
comes_down w k y = with_connection w k (record (w.conns k) { down = (w.conns k).down ++ y ∷ [] })

no_op : (g : ℕ) (P : Type 0) → ForDialog ≡ ForOp g → P
no_op g P e = absurd (let h : ForDialog ≡ ForOp g = e in cc)

no_attach : (g : ℕ) (P : Type 0) → ForDialog ≡ ForAttach g → P
no_attach g P e = absurd (let h : ForDialog ≡ ForAttach g = e in cc)

pub held_comes : (share : List ℕ) (w : World) (a : ℕ → ℕ) (k : ℕ) (r : Reply) (place : ℕ) → (w.conns k).client_open ≡ true
    → copies 0 (w.conns k) ≡ 0 → w.client.ready k ≡ false → Tells w k r → Held share w a
    → Held share (comes_down w k (response_of r place)) a
held_comes share w a k r place on none apart tells i =
    let core = i.core in
    let s = core.sessions in
    let q = core.kinds in
    let m = i.newest in
    let y = response_of r place in
    let c = w.client in
    let d : Conn = record (w.conns k) { down = (w.conns k).down ++ y ∷ [] } in
    record {
      core = record {
        links = say_links c w.conns a k y on none (λ l. absurd (omega (arith, l))) (λ g e. no_op g _ e) (λ g e. no_attach g _ e) (λ _. apart)
            (λ g e. no_op g _ e) (λ g e. no_op g _ e) core.links;
        fits = core.fits;
        sessions = record {
          sits = say_sessions c w.conns w.server k y (λ e. absurd (let h : false ≡ true = e in cc)) (λ _ at due. tells.first at due)
              (λ _ at due. tells.second at due) (λ _ at due. tells.tree at due) s.sits;
          stored = s.stored;
        };
        kinds = carries share w (put w.conns k d) (put_waits share w.conns k d (q.waits k) q.waits) q;
        recorded = core.recorded;
      };
      creates = say_creates c w.conns (seen w.server) a k y (λ g e. no_op g _ e) (λ g e. no_op g _ e) (λ g e. no_op g _ e)
          (λ g e. no_op g _ e) (λ g o e. no_op g _ e) i.creates;
      locks = say_told c w.conns w.server a k y (record {
        of_ask_down = λ g e. no_attach g _ e;
        of_opened_reply = λ g e. no_op g _ e;
        of_join_reply = λ g e. no_attach g _ e;
        of_joined_reply = λ g e. no_attach g _ e;
        of_lost_reply = λ g e. no_attach g _ e;
        of_ok_reply = λ g e. no_op g _ e;
        of_no_reply = λ g e. no_op g _ e;
        of_kept_reply = λ g e. no_op g _ e;
        of_first_reply = λ g e. no_op g _ e;
        of_close_done = λ g e. no_op g _ e;
        of_close_full = λ g e. no_op g _ e;
        of_close_stuck = λ g e. no_op g _ e;
      }) i.locks;
      newest = record {
        ranked = m.ranked;
        ranked_change = m.ranked_change;
        reached_given = m.reached_given;
        held = m.held;
        low_sequences = m.low_sequences;
        ordered = m.ordered;
      };
    }

-- and is taken
pub held_told : (share : List ℕ) (w : World) (a : ℕ → ℕ) (k : ℕ) (r : Reply) (place : ℕ) → (w.conns k).client_open ≡ true
    → copies 0 (w.conns k) ≡ 0 → w.client.ready k ≡ false → Tells w k r → Held share w a
    → Held share (happens (comes_down w k (response_of r place)) (Take k)) a
held_told share w a k r place on none apart tells i =
    held_keeps share (comes_down w k (response_of r place)) a (Take k) (held_comes share w a k r place on none apart tells i)
