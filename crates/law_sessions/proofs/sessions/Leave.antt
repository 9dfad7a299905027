-- Written by tools/law_sessions.py. The session ends.
use Rattle.std.proofs.Common.{ℕ, arith}
use Rattle.spec_exchange.specs.State.{Server}
use Rattle.spec_exchange.specs.Client.{Client, end_session}
use Rattle.spec_exchange.specs.Network.{Conn, client_off}
use Rattle.law_sessions.proofs.messages.Lists.{get-push}
use Rattle.law_sessions.specs.sessions.Sessions.{Sessions, LiveAccepted, Making, PendingAccepted, PendingUnranked, NumberedSessions, CurrentUp, CurrentDown, RankedUp, FromClient, SequencesUp, WorkUp, DialogUp, LogonUp, FirstUp, SecondUp, TreeConnectUp, AskedFresh, PendingGiven, FirstReply, SecondReply, TreeUp, TreeLive, TreeReply, SentTrees, AskedNew}

leave_live_accepted : (c : Client) (conns : ℕ → Conn) (s : Server) → LiveAccepted c → LiveAccepted (end_session c)
leave_live_accepted c conns s i_live_accepted =
    let old = i_live_accepted in grind arith

leave_making : (c : Client) (conns : ℕ → Conn) (s : Server) → Making c → Making (end_session c)
leave_making c conns s i_making =
    λ p. let old = i_making p in grind arith

leave_pending_accepted : (c : Client) (conns : ℕ → Conn) (s : Server) → PendingAccepted c → PendingAccepted (end_session c)
leave_pending_accepted c conns s i_pending_accepted =
    λ p. let old = i_pending_accepted p in grind arith

leave_pending_unranked : (c : Client) (conns : ℕ → Conn) (s : Server) → PendingUnranked c → PendingUnranked (end_session c)
leave_pending_unranked c conns s i_pending_unranked =
    λ p. let old = i_pending_unranked p in grind arith

leave_numbered_sessions : (c : Client) (conns : ℕ → Conn) (s : Server) → NumberedSessions c → NumberedSessions (end_session c)
leave_numbered_sessions c conns s i_numbered_sessions =
    λ p q. let old = i_numbered_sessions p q in grind arith

leave_current_up : (c : Client) (conns : ℕ → Conn) (s : Server) → CurrentUp c conns → CurrentUp (end_session c) (λ q. client_off (conns q))
leave_current_up c conns s i_current_up =
    λ j n x. let old = i_current_up j n x in grind (arith, get-push)

leave_current_down : (c : Client) (conns : ℕ → Conn) (s : Server) → CurrentDown c conns → CurrentDown (end_session c) (λ q. client_off (conns q))
leave_current_down c conns s i_current_down =
    λ j n y. let old = i_current_down j n y in grind (arith, get-push)

leave_ranked_up : (c : Client) (conns : ℕ → Conn) (s : Server) → RankedUp c conns → RankedUp (end_session c) (λ q. client_off (conns q))
leave_ranked_up c conns s i_ranked_up =
    λ j n x. let old = i_ranked_up j n x in grind (arith, get-push)

leave_from_client : (c : Client) (conns : ℕ → Conn) (s : Server) → FromClient c conns → FromClient (end_session c) (λ q. client_off (conns q))
leave_from_client c conns s i_from_client =
    λ j n x. let old = i_from_client j n x in grind (arith, get-push)

leave_sequences_up : (c : Client) (conns : ℕ → Conn) (s : Server) → SequencesUp c conns → SequencesUp (end_session c) (λ q. client_off (conns q))
leave_sequences_up c conns s i_sequences_up =
    λ j n x. let old = i_sequences_up j n x in grind (arith, get-push)

leave_work_up : (c : Client) (conns : ℕ → Conn) (s : Server) → WorkUp conns → WorkUp (λ q. client_off (conns q))
leave_work_up c conns s i_work_up =
    λ j n x. let old = i_work_up j n x in grind (arith, get-push)

leave_dialog_up : (c : Client) (conns : ℕ → Conn) (s : Server) → DialogUp conns → DialogUp (λ q. client_off (conns q))
leave_dialog_up c conns s i_dialog_up =
    λ j n x. let old = i_dialog_up j n x in grind (arith, get-push)

leave_logon_up : (c : Client) (conns : ℕ → Conn) (s : Server) → LogonUp c conns → LogonUp (end_session c) (λ q. client_off (conns q))
leave_logon_up c conns s i_logon_up =
    λ j n x. let old = i_logon_up j n x in grind (arith, get-push)

leave_first_up : (c : Client) (conns : ℕ → Conn) (s : Server) → FirstUp c conns → FirstUp (end_session c) (λ q. client_off (conns q))
leave_first_up c conns s i_first_up =
    λ j n x. let old = i_first_up j n x in grind (arith, get-push)

leave_second_up : (c : Client) (conns : ℕ → Conn) (s : Server) → SecondUp c conns → SecondUp (end_session c) (λ q. client_off (conns q))
leave_second_up c conns s i_second_up =
    λ j n x. let old = i_second_up j n x in grind (arith, get-push)

leave_tree_connect_up : (c : Client) (conns : ℕ → Conn) (s : Server) → TreeConnectUp c conns → TreeConnectUp (end_session c) (λ q. client_off (conns q))
leave_tree_connect_up c conns s i_tree_connect_up =
    λ j n x. let old = i_tree_connect_up j n x in grind (arith, get-push)

leave_asked_fresh : (c : Client) (conns : ℕ → Conn) (s : Server) → AskedFresh c conns → AskedFresh (end_session c) (λ q. client_off (conns q))
leave_asked_fresh c conns s i_asked_fresh =
    λ p j n x. let old = i_asked_fresh p j n x in grind (arith, get-push)

leave_pending_given : (c : Client) (conns : ℕ → Conn) (s : Server) → PendingGiven c s → PendingGiven (end_session c) s
leave_pending_given c conns s i_pending_given =
    λ p. let old = i_pending_given p in grind arith

leave_first_reply : (c : Client) (conns : ℕ → Conn) (s : Server) → FirstReply c conns s → FirstReply (end_session c) (λ q. client_off (conns q)) s
leave_first_reply c conns s i_first_reply =
    λ j n y. let old = i_first_reply j n y in grind (arith, get-push)

leave_second_reply : (c : Client) (conns : ℕ → Conn) (s : Server) → SecondReply c conns s → SecondReply (end_session c) (λ q. client_off (conns q)) s
leave_second_reply c conns s i_second_reply =
    λ j n y. let old = i_second_reply j n y in grind (arith, get-push)

leave_tree_up : (c : Client) (conns : ℕ → Conn) (s : Server) → TreeUp conns s → TreeUp (λ q. client_off (conns q)) s
leave_tree_up c conns s i_tree_up =
    λ j n x. let old = i_tree_up j n x in grind (arith, get-push)

leave_tree_live : (c : Client) (conns : ℕ → Conn) (s : Server) → TreeLive c s → TreeLive (end_session c) s
leave_tree_live c conns s i_tree_live =
    let old = i_tree_live in grind arith

leave_tree_reply : (c : Client) (conns : ℕ → Conn) (s : Server) → TreeReply c conns s → TreeReply (end_session c) (λ q. client_off (conns q)) s
leave_tree_reply c conns s i_tree_reply =
    λ j n y. let old = i_tree_reply j n y in grind (arith, get-push)

leave_sent_trees : (c : Client) (conns : ℕ → Conn) (s : Server) → SentTrees c conns → SentTrees (end_session c) (λ q. client_off (conns q))
leave_sent_trees c conns s i_sent_trees =
    λ j n x. let old = i_sent_trees j n x in grind (arith, get-push)

leave_asked_new : (c : Client) (conns : ℕ → Conn) (s : Server) → AskedNew c → AskedNew (end_session c)
leave_asked_new c conns s i_asked_new =
    λ p. let old = i_asked_new p in grind arith

pub leave_keeps : (c : Client) (conns : ℕ → Conn) (s : Server) → Sessions c conns s → Sessions (end_session c) (λ q. client_off (conns q)) s
leave_keeps c conns s i =
    record {
      live_accepted = leave_live_accepted c conns s i.live_accepted;
      session_ranked = i.session_ranked;
      ranks = i.ranks;
      last_rank = i.last_rank;
      rank_once = i.rank_once;
      making = leave_making c conns s i.making;
      pending_accepted = leave_pending_accepted c conns s i.pending_accepted;
      pending_unranked = leave_pending_unranked c conns s i.pending_unranked;
      sequence_low = i.sequence_low;
      numbered_sessions = leave_numbered_sessions c conns s i.numbered_sessions;
      current_up = leave_current_up c conns s i.current_up;
      current_down = leave_current_down c conns s i.current_down;
      ranked_up = leave_ranked_up c conns s i.ranked_up;
      from_client = leave_from_client c conns s i.from_client;
      sequences_up = leave_sequences_up c conns s i.sequences_up;
      work_up = leave_work_up c conns s i.work_up;
      dialog_up = leave_dialog_up c conns s i.dialog_up;
      logon_up = leave_logon_up c conns s i.logon_up;
      first_up = leave_first_up c conns s i.first_up;
      second_up = leave_second_up c conns s i.second_up;
      tree_connect_up = leave_tree_connect_up c conns s i.tree_connect_up;
      asked_fresh = leave_asked_fresh c conns s i.asked_fresh;
      present_accepted = i.present_accepted;
      ranked_given = i.ranked_given;
      making_unranked = i.making_unranked;
      session_users = i.session_users;
      open_users = i.open_users;
      pending_given = leave_pending_given c conns s i.pending_given;
      first_reply = leave_first_reply c conns s i.first_reply;
      second_reply = leave_second_reply c conns s i.second_reply;
      tree_up = leave_tree_up c conns s i.tree_up;
      tree_live = leave_tree_live c conns s i.tree_live;
      tree_reply = leave_tree_reply c conns s i.tree_reply;
      sent_trees = leave_sent_trees c conns s i.sent_trees;
      asked_new = leave_asked_new c conns s i.asked_new;
      open_trees = i.open_trees;
    }
