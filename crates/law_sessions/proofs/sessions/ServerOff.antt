-- Written by tools/law_sessions.py. The server closes its end.
use Rattle.std.proofs.Common.{ℕ, arith}
use Rattle.spec_exchange.specs.Table.{put}
use Rattle.spec_exchange.specs.State.{Server}
use Rattle.spec_exchange.specs.Client.{Client}
use Rattle.spec_exchange.specs.Network.{Conn, server_off}
use Rattle.law_sessions.proofs.messages.Lists.{get-push}
use Rattle.law_sessions.specs.sessions.Sessions.{Sessions, CurrentUp, CurrentDown, RankedUp, FromClient, SequencesUp, WorkUp, DialogUp, LogonUp, FirstUp, SecondUp, TreeConnectUp, AskedFresh, FirstReply, SecondReply, TreeUp, TreeReply, SentTrees}

server_off_current_up : (c : Client) (conns : ℕ → Conn) (s : Server) (k : ℕ) → CurrentUp c conns → CurrentUp c (put conns k (server_off (conns k)))
server_off_current_up c conns s k i_current_up =
    λ j n x. let old = i_current_up j n x in grind (arith, get-push)

server_off_current_down : (c : Client) (conns : ℕ → Conn) (s : Server) (k : ℕ) → CurrentDown c conns → CurrentDown c (put conns k (server_off (conns k)))
server_off_current_down c conns s k i_current_down =
    λ j n y. let old = i_current_down j n y in grind (arith, get-push)

server_off_ranked_up : (c : Client) (conns : ℕ → Conn) (s : Server) (k : ℕ) → RankedUp c conns → RankedUp c (put conns k (server_off (conns k)))
server_off_ranked_up c conns s k i_ranked_up =
    λ j n x. let old = i_ranked_up j n x in grind (arith, get-push)

server_off_from_client : (c : Client) (conns : ℕ → Conn) (s : Server) (k : ℕ) → FromClient c conns → FromClient c (put conns k (server_off (conns k)))
server_off_from_client c conns s k i_from_client =
    λ j n x. let old = i_from_client j n x in grind (arith, get-push)

server_off_sequences_up : (c : Client) (conns : ℕ → Conn) (s : Server) (k : ℕ) → SequencesUp c conns → SequencesUp c (put conns k (server_off (conns k)))
server_off_sequences_up c conns s k i_sequences_up =
    λ j n x. let old = i_sequences_up j n x in grind (arith, get-push)

server_off_work_up : (c : Client) (conns : ℕ → Conn) (s : Server) (k : ℕ) → WorkUp conns → WorkUp (put conns k (server_off (conns k)))
server_off_work_up c conns s k i_work_up =
    λ j n x. let old = i_work_up j n x in grind (arith, get-push)

server_off_dialog_up : (c : Client) (conns : ℕ → Conn) (s : Server) (k : ℕ) → DialogUp conns → DialogUp (put conns k (server_off (conns k)))
server_off_dialog_up c conns s k i_dialog_up =
    λ j n x. let old = i_dialog_up j n x in grind (arith, get-push)

server_off_logon_up : (c : Client) (conns : ℕ → Conn) (s : Server) (k : ℕ) → LogonUp c conns → LogonUp c (put conns k (server_off (conns k)))
server_off_logon_up c conns s k i_logon_up =
    λ j n x. let old = i_logon_up j n x in grind (arith, get-push)

server_off_first_up : (c : Client) (conns : ℕ → Conn) (s : Server) (k : ℕ) → FirstUp c conns → FirstUp c (put conns k (server_off (conns k)))
server_off_first_up c conns s k i_first_up =
    λ j n x. let old = i_first_up j n x in grind (arith, get-push)

server_off_second_up : (c : Client) (conns : ℕ → Conn) (s : Server) (k : ℕ) → SecondUp c conns → SecondUp c (put conns k (server_off (conns k)))
server_off_second_up c conns s k i_second_up =
    λ j n x. let old = i_second_up j n x in grind (arith, get-push)

server_off_tree_connect_up : (c : Client) (conns : ℕ → Conn) (s : Server) (k : ℕ) → TreeConnectUp c conns → TreeConnectUp c (put conns k (server_off (conns k)))
server_off_tree_connect_up c conns s k i_tree_connect_up =
    λ j n x. let old = i_tree_connect_up j n x in grind (arith, get-push)

server_off_asked_fresh : (c : Client) (conns : ℕ → Conn) (s : Server) (k : ℕ) → AskedFresh c conns → AskedFresh c (put conns k (server_off (conns k)))
server_off_asked_fresh c conns s k i_asked_fresh =
    λ p j n x. let old = i_asked_fresh p j n x in grind (arith, get-push)

server_off_first_reply : (c : Client) (conns : ℕ → Conn) (s : Server) (k : ℕ) → FirstReply c conns s → FirstReply c (put conns k (server_off (conns k))) s
server_off_first_reply c conns s k i_first_reply =
    λ j n y. let old = i_first_reply j n y in grind (arith, get-push)

server_off_second_reply : (c : Client) (conns : ℕ → Conn) (s : Server) (k : ℕ) → SecondReply c conns s → SecondReply c (put conns k (server_off (conns k))) s
server_off_second_reply c conns s k i_second_reply =
    λ j n y. let old = i_second_reply j n y in grind (arith, get-push)

server_off_tree_up : (c : Client) (conns : ℕ → Conn) (s : Server) (k : ℕ) → TreeUp conns s → TreeUp (put conns k (server_off (conns k))) s
server_off_tree_up c conns s k i_tree_up =
    λ j n x. let old = i_tree_up j n x in grind (arith, get-push)

server_off_tree_reply : (c : Client) (conns : ℕ → Conn) (s : Server) (k : ℕ) → TreeReply c conns s → TreeReply c (put conns k (server_off (conns k))) s
server_off_tree_reply c conns s k i_tree_reply =
    λ j n y. let old = i_tree_reply j n y in grind (arith, get-push)

server_off_sent_trees : (c : Client) (conns : ℕ → Conn) (s : Server) (k : ℕ) → SentTrees c conns → SentTrees c (put conns k (server_off (conns k)))
server_off_sent_trees c conns s k i_sent_trees =
    λ j n x. let old = i_sent_trees j n x in grind (arith, get-push)

pub server_off_keeps : (c : Client) (conns : ℕ → Conn) (s : Server) (k : ℕ) → Sessions c conns s → Sessions c (put conns k (server_off (conns k))) s
server_off_keeps c conns s k i =
    record {
      live_accepted = i.live_accepted;
      session_ranked = i.session_ranked;
      ranks = i.ranks;
      last_rank = i.last_rank;
      rank_once = i.rank_once;
      making = i.making;
      pending_accepted = i.pending_accepted;
      pending_unranked = i.pending_unranked;
      sequence_low = i.sequence_low;
      numbered_sessions = i.numbered_sessions;
      current_up = server_off_current_up c conns s k i.current_up;
      current_down = server_off_current_down c conns s k i.current_down;
      ranked_up = server_off_ranked_up c conns s k i.ranked_up;
      from_client = server_off_from_client c conns s k i.from_client;
      sequences_up = server_off_sequences_up c conns s k i.sequences_up;
      work_up = server_off_work_up c conns s k i.work_up;
      dialog_up = server_off_dialog_up c conns s k i.dialog_up;
      logon_up = server_off_logon_up c conns s k i.logon_up;
      first_up = server_off_first_up c conns s k i.first_up;
      second_up = server_off_second_up c conns s k i.second_up;
      tree_connect_up = server_off_tree_connect_up c conns s k i.tree_connect_up;
      asked_fresh = server_off_asked_fresh c conns s k i.asked_fresh;
      present_accepted = i.present_accepted;
      ranked_given = i.ranked_given;
      making_unranked = i.making_unranked;
      session_users = i.session_users;
      open_users = i.open_users;
      pending_given = i.pending_given;
      first_reply = server_off_first_reply c conns s k i.first_reply;
      second_reply = server_off_second_reply c conns s k i.second_reply;
      tree_up = server_off_tree_up c conns s k i.tree_up;
      tree_live = i.tree_live;
      tree_reply = server_off_tree_reply c conns s k i.tree_reply;
      sent_trees = server_off_sent_trees c conns s k i.sent_trees;
      asked_new = i.asked_new;
      open_trees = i.open_trees;
    }
