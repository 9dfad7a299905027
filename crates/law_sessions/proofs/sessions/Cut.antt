-- Written by tools/law_sessions.py. A ready channel is cut.
use Rattle.std.proofs.Common.{◌≢◌, ℕ, arith}
use Rattle.spec_exchange.specs.Table.{put}
use Rattle.spec_exchange.specs.State.{Server}
use Rattle.spec_exchange.specs.Client.{Client, cut_channel}
use Rattle.spec_exchange.specs.Network.{Conn, client_off}
use Rattle.law_sessions.proofs.messages.Lists.{get-push}
use Rattle.law_sessions.specs.sessions.Sessions.{Sessions, SequenceLow, CurrentUp, CurrentDown, RankedUp, FromClient, SequencesUp, WorkUp, DialogUp, LogonUp, FirstUp, SecondUp, TreeConnectUp, AskedFresh, FirstReply, SecondReply, TreeUp, TreeReply, SentTrees}

cut_sequence_low : (c : Client) (conns : ℕ → Conn) (s : Server) (k : ℕ) → (c.sequence ≢ 32767) → SequenceLow c → SequenceLow (cut_channel c k)
cut_sequence_low c conns s k low i_sequence_low =
    let old = i_sequence_low in grind arith

cut_current_up : (c : Client) (conns : ℕ → Conn) (s : Server) (k : ℕ) → (c.sequence ≢ 32767) → CurrentUp c conns → CurrentUp (cut_channel c k) (put conns k (client_off (conns k)))
cut_current_up c conns s k low i_current_up =
    λ j n x. let old = i_current_up j n x in grind (arith, get-push)

cut_current_down : (c : Client) (conns : ℕ → Conn) (s : Server) (k : ℕ) → (c.sequence ≢ 32767) → CurrentDown c conns → CurrentDown (cut_channel c k) (put conns k (client_off (conns k)))
cut_current_down c conns s k low i_current_down =
    λ j n y. let old = i_current_down j n y in grind (arith, get-push)

cut_ranked_up : (c : Client) (conns : ℕ → Conn) (s : Server) (k : ℕ) → (c.sequence ≢ 32767) → RankedUp c conns → RankedUp (cut_channel c k) (put conns k (client_off (conns k)))
cut_ranked_up c conns s k low i_ranked_up =
    λ j n x. let old = i_ranked_up j n x in grind (arith, get-push)

cut_from_client : (c : Client) (conns : ℕ → Conn) (s : Server) (k : ℕ) → (c.sequence ≢ 32767) → FromClient c conns → FromClient (cut_channel c k) (put conns k (client_off (conns k)))
cut_from_client c conns s k low i_from_client =
    λ j n x. let old = i_from_client j n x in grind (arith, get-push)

cut_sequences_up : (c : Client) (conns : ℕ → Conn) (s : Server) (k : ℕ) → (c.sequence ≢ 32767) → SequencesUp c conns → SequencesUp (cut_channel c k) (put conns k (client_off (conns k)))
cut_sequences_up c conns s k low i_sequences_up =
    λ j n x. let old = i_sequences_up j n x in grind (arith, get-push)

cut_work_up : (c : Client) (conns : ℕ → Conn) (s : Server) (k : ℕ) → (c.sequence ≢ 32767) → WorkUp conns → WorkUp (put conns k (client_off (conns k)))
cut_work_up c conns s k low i_work_up =
    λ j n x. let old = i_work_up j n x in grind (arith, get-push)

cut_dialog_up : (c : Client) (conns : ℕ → Conn) (s : Server) (k : ℕ) → (c.sequence ≢ 32767) → DialogUp conns → DialogUp (put conns k (client_off (conns k)))
cut_dialog_up c conns s k low i_dialog_up =
    λ j n x. let old = i_dialog_up j n x in grind (arith, get-push)

cut_logon_up : (c : Client) (conns : ℕ → Conn) (s : Server) (k : ℕ) → (c.sequence ≢ 32767) → LogonUp c conns → LogonUp (cut_channel c k) (put conns k (client_off (conns k)))
cut_logon_up c conns s k low i_logon_up =
    λ j n x. let old = i_logon_up j n x in grind (arith, get-push)

cut_first_up : (c : Client) (conns : ℕ → Conn) (s : Server) (k : ℕ) → (c.sequence ≢ 32767) → FirstUp c conns → FirstUp (cut_channel c k) (put conns k (client_off (conns k)))
cut_first_up c conns s k low i_first_up =
    λ j n x. let old = i_first_up j n x in grind (arith, get-push)

cut_second_up : (c : Client) (conns : ℕ → Conn) (s : Server) (k : ℕ) → (c.sequence ≢ 32767) → SecondUp c conns → SecondUp (cut_channel c k) (put conns k (client_off (conns k)))
cut_second_up c conns s k low i_second_up =
    λ j n x. let old = i_second_up j n x in grind (arith, get-push)

cut_tree_connect_up : (c : Client) (conns : ℕ → Conn) (s : Server) (k : ℕ) → (c.sequence ≢ 32767) → TreeConnectUp c conns → TreeConnectUp (cut_channel c k) (put conns k (client_off (conns k)))
cut_tree_connect_up c conns s k low i_tree_connect_up =
    λ j n x. let old = i_tree_connect_up j n x in grind (arith, get-push)

cut_asked_fresh : (c : Client) (conns : ℕ → Conn) (s : Server) (k : ℕ) → (c.sequence ≢ 32767) → AskedFresh c conns → AskedFresh (cut_channel c k) (put conns k (client_off (conns k)))
cut_asked_fresh c conns s k low i_asked_fresh =
    λ p j n x. let old = i_asked_fresh p j n x in grind (arith, get-push)

cut_first_reply : (c : Client) (conns : ℕ → Conn) (s : Server) (k : ℕ) → (c.sequence ≢ 32767) → FirstReply c conns s → FirstReply (cut_channel c k) (put conns k (client_off (conns k))) s
cut_first_reply c conns s k low i_first_reply =
    λ j n y. let old = i_first_reply j n y in grind (arith, get-push)

cut_second_reply : (c : Client) (conns : ℕ → Conn) (s : Server) (k : ℕ) → (c.sequence ≢ 32767) → SecondReply c conns s → SecondReply (cut_channel c k) (put conns k (client_off (conns k))) s
cut_second_reply c conns s k low i_second_reply =
    λ j n y. let old = i_second_reply j n y in grind (arith, get-push)

cut_tree_up : (c : Client) (conns : ℕ → Conn) (s : Server) (k : ℕ) → (c.sequence ≢ 32767) → TreeUp conns s → TreeUp (put conns k (client_off (conns k))) s
cut_tree_up c conns s k low i_tree_up =
    λ j n x. let old = i_tree_up j n x in grind (arith, get-push)

cut_tree_reply : (c : Client) (conns : ℕ → Conn) (s : Server) (k : ℕ) → (c.sequence ≢ 32767) → TreeReply c conns s → TreeReply (cut_channel c k) (put conns k (client_off (conns k))) s
cut_tree_reply c conns s k low i_tree_reply =
    λ j n y. let old = i_tree_reply j n y in grind (arith, get-push)

cut_sent_trees : (c : Client) (conns : ℕ → Conn) (s : Server) (k : ℕ) → (c.sequence ≢ 32767) → SentTrees c conns → SentTrees (cut_channel c k) (put conns k (client_off (conns k)))
cut_sent_trees c conns s k low i_sent_trees =
    λ j n x. let old = i_sent_trees j n x in grind (arith, get-push)

pub cut_keeps : (c : Client) (conns : ℕ → Conn) (s : Server) (k : ℕ) → (c.sequence ≢ 32767) → Sessions c conns s → Sessions (cut_channel c k) (put conns k (client_off (conns k))) s
cut_keeps c conns s k low i =
    record {
      live_accepted = i.live_accepted;
      session_ranked = i.session_ranked;
      ranks = i.ranks;
      last_rank = i.last_rank;
      rank_once = i.rank_once;
      making = i.making;
      pending_accepted = i.pending_accepted;
      pending_unranked = i.pending_unranked;
      sequence_low = cut_sequence_low c conns s k low i.sequence_low;
      numbered_sessions = i.numbered_sessions;
      current_up = cut_current_up c conns s k low i.current_up;
      current_down = cut_current_down c conns s k low i.current_down;
      ranked_up = cut_ranked_up c conns s k low i.ranked_up;
      from_client = cut_from_client c conns s k low i.from_client;
      sequences_up = cut_sequences_up c conns s k low i.sequences_up;
      work_up = cut_work_up c conns s k low i.work_up;
      dialog_up = cut_dialog_up c conns s k low i.dialog_up;
      logon_up = cut_logon_up c conns s k low i.logon_up;
      first_up = cut_first_up c conns s k low i.first_up;
      second_up = cut_second_up c conns s k low i.second_up;
      tree_connect_up = cut_tree_connect_up c conns s k low i.tree_connect_up;
      asked_fresh = cut_asked_fresh c conns s k low i.asked_fresh;
      present_accepted = i.present_accepted;
      ranked_given = i.ranked_given;
      making_unranked = i.making_unranked;
      session_users = i.session_users;
      open_users = i.open_users;
      pending_given = i.pending_given;
      first_reply = cut_first_reply c conns s k low i.first_reply;
      second_reply = cut_second_reply c conns s k low i.second_reply;
      tree_up = cut_tree_up c conns s k low i.tree_up;
      tree_live = i.tree_live;
      tree_reply = cut_tree_reply c conns s k low i.tree_reply;
      sent_trees = cut_sent_trees c conns s k low i.sent_trees;
      asked_new = i.asked_new;
      open_trees = i.open_trees;
    }
