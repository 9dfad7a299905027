-- Written by tools/law_sessions.py. A further channel is ready.
use Rattle.std.proofs.Common.{ℕ, arith}
use Rattle.spec_exchange.specs.State.{Server}
use Rattle.spec_exchange.specs.Client.{Client, bind_channel}
use Rattle.spec_exchange.specs.Network.{Conn}
use Rattle.law_sessions.proofs.messages.Lists.{get-push}
use Rattle.law_sessions.specs.sessions.Sessions.{Sessions, Making, PendingAccepted, PendingUnranked, FirstUp, SecondUp, TreeConnectUp, AskedFresh, PendingGiven, FirstReply, SecondReply, TreeReply, AskedNew}

bound_making : (c : Client) (conns : ℕ → Conn) (s : Server) (k : ℕ) → Making c → Making (bind_channel c k)
bound_making c conns s k i_making =
    λ p. let old = i_making p in grind arith

bound_pending_accepted : (c : Client) (conns : ℕ → Conn) (s : Server) (k : ℕ) → PendingAccepted c → PendingAccepted (bind_channel c k)
bound_pending_accepted c conns s k i_pending_accepted =
    λ p. let old = i_pending_accepted p in grind arith

bound_pending_unranked : (c : Client) (conns : ℕ → Conn) (s : Server) (k : ℕ) → PendingUnranked c → PendingUnranked (bind_channel c k)
bound_pending_unranked c conns s k i_pending_unranked =
    λ p. let old = i_pending_unranked p in grind arith

bound_first_up : (c : Client) (conns : ℕ → Conn) (s : Server) (k : ℕ) → FirstUp c conns → FirstUp (bind_channel c k) conns
bound_first_up c conns s k i_first_up =
    λ j n x. let old = i_first_up j n x in grind (arith, get-push)

bound_second_up : (c : Client) (conns : ℕ → Conn) (s : Server) (k : ℕ) → SecondUp c conns → SecondUp (bind_channel c k) conns
bound_second_up c conns s k i_second_up =
    λ j n x. let old = i_second_up j n x in grind (arith, get-push)

bound_tree_connect_up : (c : Client) (conns : ℕ → Conn) (s : Server) (k : ℕ) → TreeConnectUp c conns → TreeConnectUp (bind_channel c k) conns
bound_tree_connect_up c conns s k i_tree_connect_up =
    λ j n x. let old = i_tree_connect_up j n x in grind (arith, get-push)

bound_asked_fresh : (c : Client) (conns : ℕ → Conn) (s : Server) (k : ℕ) → AskedFresh c conns → AskedFresh (bind_channel c k) conns
bound_asked_fresh c conns s k i_asked_fresh =
    λ p j n x. let old = i_asked_fresh p j n x in grind (arith, get-push)

bound_pending_given : (c : Client) (conns : ℕ → Conn) (s : Server) (k : ℕ) → PendingGiven c s → PendingGiven (bind_channel c k) s
bound_pending_given c conns s k i_pending_given =
    λ p. let old = i_pending_given p in grind arith

bound_first_reply : (c : Client) (conns : ℕ → Conn) (s : Server) (k : ℕ) → FirstReply c conns s → FirstReply (bind_channel c k) conns s
bound_first_reply c conns s k i_first_reply =
    λ j n y. let old = i_first_reply j n y in grind (arith, get-push)

bound_second_reply : (c : Client) (conns : ℕ → Conn) (s : Server) (k : ℕ) → SecondReply c conns s → SecondReply (bind_channel c k) conns s
bound_second_reply c conns s k i_second_reply =
    λ j n y. let old = i_second_reply j n y in grind (arith, get-push)

bound_tree_reply : (c : Client) (conns : ℕ → Conn) (s : Server) (k : ℕ) → TreeReply c conns s → TreeReply (bind_channel c k) conns s
bound_tree_reply c conns s k i_tree_reply =
    λ j n y. let old = i_tree_reply j n y in grind (arith, get-push)

bound_asked_new : (c : Client) (conns : ℕ → Conn) (s : Server) (k : ℕ) → AskedNew c → AskedNew (bind_channel c k)
bound_asked_new c conns s k i_asked_new =
    λ p. let old = i_asked_new p in grind arith

pub bound_keeps : (c : Client) (conns : ℕ → Conn) (s : Server) (k : ℕ) → Sessions c conns s → Sessions (bind_channel c k) conns s
bound_keeps c conns s k i =
    record {
      live_accepted = i.live_accepted;
      session_ranked = i.session_ranked;
      ranks = i.ranks;
      last_rank = i.last_rank;
      rank_once = i.rank_once;
      making = bound_making c conns s k i.making;
      pending_accepted = bound_pending_accepted c conns s k i.pending_accepted;
      pending_unranked = bound_pending_unranked c conns s k i.pending_unranked;
      sequence_low = i.sequence_low;
      numbered_sessions = i.numbered_sessions;
      current_up = i.current_up;
      current_down = i.current_down;
      ranked_up = i.ranked_up;
      from_client = i.from_client;
      sequences_up = i.sequences_up;
      work_up = i.work_up;
      dialog_up = i.dialog_up;
      logon_up = i.logon_up;
      first_up = bound_first_up c conns s k i.first_up;
      second_up = bound_second_up c conns s k i.second_up;
      tree_connect_up = bound_tree_connect_up c conns s k i.tree_connect_up;
      asked_fresh = bound_asked_fresh c conns s k i.asked_fresh;
      present_accepted = i.present_accepted;
      ranked_given = i.ranked_given;
      making_unranked = i.making_unranked;
      session_users = i.session_users;
      open_users = i.open_users;
      pending_given = bound_pending_given c conns s k i.pending_given;
      first_reply = bound_first_reply c conns s k i.first_reply;
      second_reply = bound_second_reply c conns s k i.second_reply;
      tree_up = i.tree_up;
      tree_live = i.tree_live;
      tree_reply = bound_tree_reply c conns s k i.tree_reply;
      sent_trees = i.sent_trees;
      asked_new = bound_asked_new c conns s k i.asked_new;
      open_trees = i.open_trees;
    }
