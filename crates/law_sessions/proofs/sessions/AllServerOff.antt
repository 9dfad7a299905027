-- Written by tools/law_sessions.py. The server closes every end.
use Rattle.std.proofs.Common.{ℕ, arith}
use Rattle.spec_exchange.specs.State.{Server}
use Rattle.spec_exchange.specs.Client.{Client}
use Rattle.spec_exchange.specs.Network.{Conn, server_off}
use Rattle.law_sessions.proofs.messages.Lists.{get-push}
use Rattle.law_sessions.specs.sessions.Sessions.{Sessions, CurrentUp, CurrentDown, RankedUp, FromClient, SequencesUp, WorkUp, DialogUp, LogonUp, FirstUp, SecondUp, TreeConnectUp, AskedFresh, FirstReply, SecondReply, TreeUp, TreeReply, SentTrees}

all_server_off_current_up : (c : Client) (conns : ℕ → Conn) (s : Server) → CurrentUp c conns → CurrentUp c (λ q. server_off (conns q))
all_server_off_current_up c conns s i_current_up =
    λ j n x. let old = i_current_up j n x in grind (arith, get-push)

all_server_off_current_down : (c : Client) (conns : ℕ → Conn) (s : Server) → CurrentDown c conns → CurrentDown c (λ q. server_off (conns q))
all_server_off_current_down c conns s i_current_down =
    λ j n y. let old = i_current_down j n y in grind (arith, get-push)

all_server_off_ranked_up : (c : Client) (conns : ℕ → Conn) (s : Server) → RankedUp c conns → RankedUp c (λ q. server_off (conns q))
all_server_off_ranked_up c conns s i_ranked_up =
    λ j n x. let old = i_ranked_up j n x in grind (arith, get-push)

all_server_off_from_client : (c : Client) (conns : ℕ → Conn) (s : Server) → FromClient c conns → FromClient c (λ q. server_off (conns q))
all_server_off_from_client c conns s i_from_client =
    λ j n x. let old = i_from_client j n x in grind (arith, get-push)

all_server_off_sequences_up : (c : Client) (conns : ℕ → Conn) (s : Server) → SequencesUp c conns → SequencesUp c (λ q. server_off (conns q))
all_server_off_sequences_up c conns s i_sequences_up =
    λ j n x. let old = i_sequences_up j n x in grind (arith, get-push)

all_server_off_work_up : (c : Client) (conns : ℕ → Conn) (s : Server) → WorkUp conns → WorkUp (λ q. server_off (conns q))
all_server_off_work_up c conns s i_work_up =
    λ j n x. let old = i_work_up j n x in grind (arith, get-push)

all_server_off_dialog_up : (c : Client) (conns : ℕ → Conn) (s : Server) → DialogUp conns → DialogUp (λ q. server_off (conns q))
all_server_off_dialog_up c conns s i_dialog_up =
    λ j n x. let old = i_dialog_up j n x in grind (arith, get-push)

all_server_off_logon_up : (c : Client) (conns : ℕ → Conn) (s : Server) → LogonUp c conns → LogonUp c (λ q. server_off (conns q))
all_server_off_logon_up c conns s i_logon_up =
    λ j n x. let old = i_logon_up j n x in grind (arith, get-push)

all_server_off_first_up : (c : Client) (conns : ℕ → Conn) (s : Server) → FirstUp c conns → FirstUp c (λ q. server_off (conns q))
all_server_off_first_up c conns s i_first_up =
    λ j n x. let old = i_first_up j n x in grind (arith, get-push)

all_server_off_second_up : (c : Client) (conns : ℕ → Conn) (s : Server) → SecondUp c conns → SecondUp c (λ q. server_off (conns q))
all_server_off_second_up c conns s i_second_up =
    λ j n x. let old = i_second_up j n x in grind (arith, get-push)

all_server_off_tree_connect_up : (c : Client) (conns : ℕ → Conn) (s : Server) → TreeConnectUp c conns → TreeConnectUp c (λ q. server_off (conns q))
all_server_off_tree_connect_up c conns s i_tree_connect_up =
    λ j n x. let old = i_tree_connect_up j n x in grind (arith, get-push)

all_server_off_asked_fresh : (c : Client) (conns : ℕ → Conn) (s : Server) → AskedFresh c conns → AskedFresh c (λ q. server_off (conns q))
all_server_off_asked_fresh c conns s i_asked_fresh =
    λ p j n x. let old = i_asked_fresh p j n x in grind (arith, get-push)

all_server_off_first_reply : (c : Client) (conns : ℕ → Conn) (s : Server) → FirstReply c conns s → FirstReply c (λ q. server_off (conns q)) s
all_server_off_first_reply c conns s i_first_reply =
    λ j n y. let old = i_first_reply j n y in grind (arith, get-push)

all_server_off_second_reply : (c : Client) (conns : ℕ → Conn) (s : Server) → SecondReply c conns s → SecondReply c (λ q. server_off (conns q)) s
all_server_off_second_reply c conns s i_second_reply =
    λ j n y. let old = i_second_reply j n y in grind (arith, get-push)

all_server_off_tree_up : (c : Client) (conns : ℕ → Conn) (s : Server) → TreeUp conns s → TreeUp (λ q. server_off (conns q)) s
all_server_off_tree_up c conns s i_tree_up =
    λ j n x. let old = i_tree_up j n x in grind (arith, get-push)

all_server_off_tree_reply : (c : Client) (conns : ℕ → Conn) (s : Server) → TreeReply c conns s → TreeReply c (λ q. server_off (conns q)) s
all_server_off_tree_reply c conns s i_tree_reply =
    λ j n y. let old = i_tree_reply j n y in grind (arith, get-push)

all_server_off_sent_trees : (c : Client) (conns : ℕ → Conn) (s : Server) → SentTrees c conns → SentTrees c (λ q. server_off (conns q))
all_server_off_sent_trees c conns s i_sent_trees =
    λ j n x. let old = i_sent_trees j n x in grind (arith, get-push)

pub all_server_off_keeps : (c : Client) (conns : ℕ → Conn) (s : Server) → Sessions c conns s → Sessions c (λ q. server_off (conns q)) s
all_server_off_keeps c conns s i =
    record {
      live_accepted = i.live_accepted;
      session_ranked = i.session_ranked;
      ranks = i.ranks;
      last_rank = i.last_rank;
      rank_once = i.rank_once;
      making = i.making;
      pending_accepted = i.pending_accepted;
      pending_unranked = i.pending_unranked;
      sequence_low = i.sequence_low;
      numbered_sessions = i.numbered_sessions;
      current_up = all_server_off_current_up c conns s i.current_up;
      current_down = all_server_off_current_down c conns s i.current_down;
      ranked_up = all_server_off_ranked_up c conns s i.ranked_up;
      from_client = all_server_off_from_client c conns s i.from_client;
      sequences_up = all_server_off_sequences_up c conns s i.sequences_up;
      work_up = all_server_off_work_up c conns s i.work_up;
      dialog_up = all_server_off_dialog_up c conns s i.dialog_up;
      logon_up = all_server_off_logon_up c conns s i.logon_up;
      first_up = all_server_off_first_up c conns s i.first_up;
      second_up = all_server_off_second_up c conns s i.second_up;
      tree_connect_up = all_server_off_tree_connect_up c conns s i.tree_connect_up;
      asked_fresh = all_server_off_asked_fresh c conns s i.asked_fresh;
      present_accepted = i.present_accepted;
      ranked_given = i.ranked_given;
      making_unranked = i.making_unranked;
      session_users = i.session_users;
      open_users = i.open_users;
      pending_given = i.pending_given;
      first_reply = all_server_off_first_reply c conns s i.first_reply;
      second_reply = all_server_off_second_reply c conns s i.second_reply;
      tree_up = all_server_off_tree_up c conns s i.tree_up;
      tree_live = i.tree_live;
      tree_reply = all_server_off_tree_reply c conns s i.tree_reply;
      sent_trees = all_server_off_sent_trees c conns s i.sent_trees;
      asked_new = i.asked_new;
      open_trees = i.open_trees;
    }
