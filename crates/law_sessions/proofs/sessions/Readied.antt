-- Written by tools/law_sessions.py. A session is ready.
use Rattle.std.proofs.Common.{◌≡◌, ℕ, true, arith, Some, is_some}
use Rattle.spec_exchange.specs.State.{Server, Reply}
use Rattle.spec_exchange.specs.CheckSetup.{tree_in}
use Rattle.spec_exchange.specs.Client.{Client, AskedTree, begin_session}
use Rattle.spec_exchange.specs.Network.{Conn}
use Rattle.law_sessions.specs.messages.Connections.{copies}
use Rattle.law_sessions.proofs.messages.Lists.{get-push}
use Rattle.law_sessions.specs.sessions.Sessions.{Sessions, LiveAccepted, SessionRanked, Making, PendingAccepted, PendingUnranked, SequenceLow, NumberedSessions, CurrentUp, CurrentDown, SequencesUp, DialogUp, FirstUp, SecondUp, TreeConnectUp, AskedFresh, PresentAccepted, PendingGiven, FirstReply, SecondReply, TreeLive, TreeReply, SentTrees, AskedNew, OpenTrees}

readied_live_accepted : (c : Client) (conns : ℕ → Conn) (s : Server) (k : ℕ) (r : Reply) → (c.stage k ≡ AskedTree) → PendingAccepted c → LiveAccepted (begin_session c k c.pending r.tree_id)
readied_live_accepted c conns s k r at i_pending_accepted =
    λ l. let a = i_pending_accepted k at in grind arith

readied_session_ranked : (c : Client) (conns : ℕ → Conn) (s : Server) (k : ℕ) (r : Reply) → (c.stage k ≡ AskedTree) → PendingAccepted c → SessionRanked (begin_session c k c.pending r.tree_id)
readied_session_ranked c conns s k r at i_pending_accepted =
    λ l. let a = i_pending_accepted k at in grind arith

readied_making : (c : Client) (conns : ℕ → Conn) (s : Server) (k : ℕ) (r : Reply) → (c.stage k ≡ AskedTree) → Making c → Making (begin_session c k c.pending r.tree_id)
readied_making c conns s k r at i_making =
    λ p. let m = i_making p in let m0 = i_making k in grind arith

readied_pending_accepted : (c : Client) (conns : ℕ → Conn) (s : Server) (k : ℕ) (r : Reply) → (c.stage k ≡ AskedTree) → PendingAccepted c → PendingAccepted (begin_session c k c.pending r.tree_id)
readied_pending_accepted c conns s k r at i_pending_accepted =
    λ p. let old = i_pending_accepted p in grind arith

readied_pending_unranked : (c : Client) (conns : ℕ → Conn) (s : Server) (k : ℕ) (r : Reply) → (c.stage k ≡ AskedTree) → PendingUnranked c → PendingUnranked (begin_session c k c.pending r.tree_id)
readied_pending_unranked c conns s k r at i_pending_unranked =
    λ p. let old = i_pending_unranked p in grind arith

readied_sequence_low : (c : Client) (conns : ℕ → Conn) (s : Server) (k : ℕ) (r : Reply) → (c.stage k ≡ AskedTree) → SequenceLow c → SequenceLow (begin_session c k c.pending r.tree_id)
readied_sequence_low c conns s k r at i_sequence_low =
    let old = i_sequence_low in grind arith

readied_numbered_sessions : (c : Client) (conns : ℕ → Conn) (s : Server) (k : ℕ) (r : Reply) → (c.stage k ≡ AskedTree) → NumberedSessions c → NumberedSessions (begin_session c k c.pending r.tree_id)
readied_numbered_sessions c conns s k r at i_numbered_sessions =
    λ p q. let old = i_numbered_sessions p q in grind arith

readied_current_up : (c : Client) (conns : ℕ → Conn) (s : Server) (k : ℕ) (r : Reply) → (c.stage k ≡ AskedTree) → CurrentUp c conns → LiveAccepted c → Making c → CurrentUp (begin_session c k c.pending r.tree_id) conns
readied_current_up c conns s k r at i_current_up i_live_accepted i_making =
    λ j n x. let old = i_current_up j n x in let l = i_live_accepted in let m0 = i_making k in grind arith

readied_current_down : (c : Client) (conns : ℕ → Conn) (s : Server) (k : ℕ) (r : Reply) → (c.stage k ≡ AskedTree) → CurrentDown c conns → LiveAccepted c → Making c → CurrentDown (begin_session c k c.pending r.tree_id) conns
readied_current_down c conns s k r at i_current_down i_live_accepted i_making =
    λ j n y. let old = i_current_down j n y in let l = i_live_accepted in let m0 = i_making k in grind arith

readied_sequences_up : (c : Client) (conns : ℕ → Conn) (s : Server) (k : ℕ) (r : Reply) → (c.stage k ≡ AskedTree) → SequencesUp c conns → AskedFresh c conns → DialogUp conns → SequencesUp (begin_session c k c.pending r.tree_id) conns
readied_sequences_up c conns s k r at i_sequences_up i_asked_fresh i_dialog_up =
    λ j n x h. let old = i_sequences_up j n x h in let f = i_asked_fresh k j n x at h in let d = i_dialog_up j n x h in grind arith

readied_first_up : (c : Client) (conns : ℕ → Conn) (s : Server) (k : ℕ) (r : Reply) → (c.stage k ≡ AskedTree) → FirstUp c conns → FirstUp (begin_session c k c.pending r.tree_id) conns
readied_first_up c conns s k r at i_first_up =
    λ j n x. let old = i_first_up j n x in grind (arith, get-push)

readied_second_up : (c : Client) (conns : ℕ → Conn) (s : Server) (k : ℕ) (r : Reply) → (c.stage k ≡ AskedTree) → SecondUp c conns → SecondUp (begin_session c k c.pending r.tree_id) conns
readied_second_up c conns s k r at i_second_up =
    λ j n x. let old = i_second_up j n x in grind (arith, get-push)

readied_tree_connect_up : (c : Client) (conns : ℕ → Conn) (s : Server) (k : ℕ) (r : Reply) → (c.stage k ≡ AskedTree) → TreeConnectUp c conns → TreeConnectUp (begin_session c k c.pending r.tree_id) conns
readied_tree_connect_up c conns s k r at i_tree_connect_up =
    λ j n x. let old = i_tree_connect_up j n x in grind (arith, get-push)

readied_asked_fresh : (c : Client) (conns : ℕ → Conn) (s : Server) (k : ℕ) (r : Reply) → (c.stage k ≡ AskedTree) → AskedFresh c conns → AskedFresh (begin_session c k c.pending r.tree_id) conns
readied_asked_fresh c conns s k r at i_asked_fresh =
    λ p j n x. let old = i_asked_fresh p j n x in grind (arith, get-push)

readied_pending_given : (c : Client) (conns : ℕ → Conn) (s : Server) (k : ℕ) (r : Reply) → (c.stage k ≡ AskedTree) → PendingGiven c s → PendingGiven (begin_session c k c.pending r.tree_id) s
readied_pending_given c conns s k r at i_pending_given =
    λ p. let old = i_pending_given p in grind arith

readied_first_reply : (c : Client) (conns : ℕ → Conn) (s : Server) (k : ℕ) (r : Reply) → (c.stage k ≡ AskedTree) → FirstReply c conns s → FirstReply (begin_session c k c.pending r.tree_id) conns s
readied_first_reply c conns s k r at i_first_reply =
    λ j n y. let old = i_first_reply j n y in grind (arith, get-push)

readied_second_reply : (c : Client) (conns : ℕ → Conn) (s : Server) (k : ℕ) (r : Reply) → (c.stage k ≡ AskedTree) → SecondReply c conns s → SecondReply (begin_session c k c.pending r.tree_id) conns s
readied_second_reply c conns s k r at i_second_reply =
    λ j n y. let old = i_second_reply j n y in grind (arith, get-push)

readied_tree_live : (c : Client) (conns : ℕ → Conn) (s : Server) (k : ℕ) (r : Reply) → (c.stage k ≡ AskedTree) → (s.present c.accepted ≡ true → is_some (tree_in (s.trees c.accepted) r.tree_id) ≡ true) → PendingAccepted c → TreeLive (begin_session c k c.pending r.tree_id) s
readied_tree_live c conns s k r at told i_pending_accepted =
    λ l. let a = i_pending_accepted k at in let t = told in grind arith

readied_tree_reply : (c : Client) (conns : ℕ → Conn) (s : Server) (k : ℕ) (r : Reply) → (c.stage k ≡ AskedTree) → TreeReply c conns s → TreeReply (begin_session c k c.pending r.tree_id) conns s
readied_tree_reply c conns s k r at i_tree_reply =
    λ j n y. let old = i_tree_reply j n y in grind (arith, get-push)

readied_sent_trees : (c : Client) (conns : ℕ → Conn) (s : Server) (k : ℕ) (r : Reply) → (c.stage k ≡ AskedTree) → AskedFresh c conns → PendingAccepted c → SentTrees (begin_session c k c.pending r.tree_id) conns
readied_sent_trees c conns s k r at i_asked_fresh i_pending_accepted =
    λ j n x h t. let f = i_asked_fresh k j n x at h t in let a = i_pending_accepted k at in grind arith

readied_asked_new : (c : Client) (conns : ℕ → Conn) (s : Server) (k : ℕ) (r : Reply) → (c.stage k ≡ AskedTree) → Making c → AskedNew (begin_session c k c.pending r.tree_id)
readied_asked_new c conns s k r at i_making =
    λ p. let m = i_making p in let m0 = i_making k in grind arith

readied_open_trees : (c : Client) (conns : ℕ → Conn) (s : Server) (k : ℕ) (r : Reply) → (c.stage k ≡ AskedTree) → ((o x : ℕ) → s.session_of_open o ≡ Some x → s.present x ≡ true) → OpenTrees c s → AskedNew c → PendingAccepted c → PresentAccepted c s → SessionRanked c → OpenTrees (begin_session c k c.pending r.tree_id) s
readied_open_trees c conns s k r at attached i_open_trees i_asked_new i_pending_accepted i_present_accepted i_session_ranked =
    λ p x h. let old = i_open_trees p x h in let q = attached p x h in let r = i_session_ranked old.0 in let a = i_present_accepted x in let b = i_pending_accepted k at in let d = i_asked_new k at old.0 in absurd (grind arith)

pub readied_keeps : (c : Client) (conns : ℕ → Conn) (s : Server) (k : ℕ) (r : Reply) → (copies 0 (conns k) ≡ 0) → (c.stage k ≡ AskedTree) → (s.present c.accepted ≡ true → is_some (tree_in (s.trees c.accepted) r.tree_id) ≡ true) → ((o x : ℕ) → s.session_of_open o ≡ Some x → s.present x ≡ true) → Sessions c conns s → Sessions (begin_session c k c.pending r.tree_id) conns s
readied_keeps c conns s k r none at told attached i =
    record {
      live_accepted = readied_live_accepted c conns s k r at i.pending_accepted;
      session_ranked = readied_session_ranked c conns s k r at i.pending_accepted;
      ranks = i.ranks;
      last_rank = i.last_rank;
      rank_once = i.rank_once;
      making = readied_making c conns s k r at i.making;
      pending_accepted = readied_pending_accepted c conns s k r at i.pending_accepted;
      pending_unranked = readied_pending_unranked c conns s k r at i.pending_unranked;
      sequence_low = readied_sequence_low c conns s k r at i.sequence_low;
      numbered_sessions = readied_numbered_sessions c conns s k r at i.numbered_sessions;
      current_up = readied_current_up c conns s k r at i.current_up i.live_accepted i.making;
      current_down = readied_current_down c conns s k r at i.current_down i.live_accepted i.making;
      ranked_up = i.ranked_up;
      from_client = i.from_client;
      sequences_up = readied_sequences_up c conns s k r at i.sequences_up i.asked_fresh i.dialog_up;
      work_up = i.work_up;
      dialog_up = i.dialog_up;
      logon_up = i.logon_up;
      first_up = readied_first_up c conns s k r at i.first_up;
      second_up = readied_second_up c conns s k r at i.second_up;
      tree_connect_up = readied_tree_connect_up c conns s k r at i.tree_connect_up;
      asked_fresh = readied_asked_fresh c conns s k r at i.asked_fresh;
      present_accepted = i.present_accepted;
      ranked_given = i.ranked_given;
      making_unranked = i.making_unranked;
      session_users = i.session_users;
      open_users = i.open_users;
      pending_given = readied_pending_given c conns s k r at i.pending_given;
      first_reply = readied_first_reply c conns s k r at i.first_reply;
      second_reply = readied_second_reply c conns s k r at i.second_reply;
      tree_up = i.tree_up;
      tree_live = readied_tree_live c conns s k r at told i.pending_accepted;
      tree_reply = readied_tree_reply c conns s k r at i.tree_reply;
      sent_trees = readied_sent_trees c conns s k r at i.asked_fresh i.pending_accepted;
      asked_new = readied_asked_new c conns s k r at i.making;
      open_trees = readied_open_trees c conns s k r at attached i.open_trees i.asked_new i.pending_accepted i.present_accepted i.session_ranked;
    }
