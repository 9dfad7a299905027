-- Written by tools/law_sessions.py. An operation goes out.
use Rattle.std.proofs.Common.{◌≡◌, ℕ, true, false, arith, None}
use Rattle.spec_exchange.specs.Table.{put}
use Rattle.spec_exchange.specs.State.{Server, Message}
use Rattle.spec_exchange.specs.Client.{Client}
use Rattle.spec_exchange.specs.Network.{Conn, Token, send_up}
use Rattle.law_sessions.proofs.messages.Lists.{get-push}
use Rattle.law_sessions.specs.sessions.Sessions.{Sessions, is_ops, is_work, logs_on, LiveAccepted, Making, SequenceLow, NumberedSessions, CurrentUp, CurrentDown, RankedUp, FromClient, SequencesUp, WorkUp, DialogUp, LogonUp, FirstUp, SecondUp, TreeConnectUp, AskedFresh, FirstReply, SecondReply, TreeUp, TreeLive, TreeReply, SentTrees}

sent_up_current_up : (c : Client) (conns : ℕ → Conn) (s : Server) (k n0 : ℕ) (t : Token) (m : Message) → (is_ops t ≡ true) → (c.live ≡ true) → (m.session_id ≡ c.session) → (m.tree_id ≡ c.tree) → (m.channel_sequence ≡ c.sequence) → (m.client_guid ≡ c.who.guid) → (m.connection ≡ k) → (m.fault ≡ None) → (is_work m.command ≡ true) → (logs_on m.command ≡ false) → CurrentUp c conns → CurrentUp c (put conns k (send_up (conns k) t m n0))
sent_up_current_up c conns s k n0 t m ops live session tree sequence client connection fault work quiet i_current_up =
    λ j n x. let old = i_current_up j n x in grind (arith, get-push)

sent_up_current_down : (c : Client) (conns : ℕ → Conn) (s : Server) (k n0 : ℕ) (t : Token) (m : Message) → (is_ops t ≡ true) → (c.live ≡ true) → (m.session_id ≡ c.session) → (m.tree_id ≡ c.tree) → (m.channel_sequence ≡ c.sequence) → (m.client_guid ≡ c.who.guid) → (m.connection ≡ k) → (m.fault ≡ None) → (is_work m.command ≡ true) → (logs_on m.command ≡ false) → CurrentDown c conns → CurrentDown c (put conns k (send_up (conns k) t m n0))
sent_up_current_down c conns s k n0 t m ops live session tree sequence client connection fault work quiet i_current_down =
    λ j n y. let old = i_current_down j n y in grind (arith, get-push)

sent_up_ranked_up : (c : Client) (conns : ℕ → Conn) (s : Server) (k n0 : ℕ) (t : Token) (m : Message) → (is_ops t ≡ true) → (c.live ≡ true) → (m.session_id ≡ c.session) → (m.tree_id ≡ c.tree) → (m.channel_sequence ≡ c.sequence) → (m.client_guid ≡ c.who.guid) → (m.connection ≡ k) → (m.fault ≡ None) → (is_work m.command ≡ true) → (logs_on m.command ≡ false) → RankedUp c conns → LiveAccepted c → RankedUp c (put conns k (send_up (conns k) t m n0))
sent_up_ranked_up c conns s k n0 t m ops live session tree sequence client connection fault work quiet i_ranked_up i_live_accepted =
    λ j n x. let old = i_ranked_up j n x in let l = i_live_accepted live in grind (arith, get-push)

sent_up_from_client : (c : Client) (conns : ℕ → Conn) (s : Server) (k n0 : ℕ) (t : Token) (m : Message) → (is_ops t ≡ true) → (c.live ≡ true) → (m.session_id ≡ c.session) → (m.tree_id ≡ c.tree) → (m.channel_sequence ≡ c.sequence) → (m.client_guid ≡ c.who.guid) → (m.connection ≡ k) → (m.fault ≡ None) → (is_work m.command ≡ true) → (logs_on m.command ≡ false) → FromClient c conns → FromClient c (put conns k (send_up (conns k) t m n0))
sent_up_from_client c conns s k n0 t m ops live session tree sequence client connection fault work quiet i_from_client =
    λ j n x. let old = i_from_client j n x in grind (arith, get-push)

sent_up_sequences_up : (c : Client) (conns : ℕ → Conn) (s : Server) (k n0 : ℕ) (t : Token) (m : Message) → (is_ops t ≡ true) → (c.live ≡ true) → (m.session_id ≡ c.session) → (m.tree_id ≡ c.tree) → (m.channel_sequence ≡ c.sequence) → (m.client_guid ≡ c.who.guid) → (m.connection ≡ k) → (m.fault ≡ None) → (is_work m.command ≡ true) → (logs_on m.command ≡ false) → SequencesUp c conns → SequenceLow c → SequencesUp c (put conns k (send_up (conns k) t m n0))
sent_up_sequences_up c conns s k n0 t m ops live session tree sequence client connection fault work quiet i_sequences_up i_sequence_low =
    λ j n x. let old = i_sequences_up j n x in let l = i_sequence_low in grind (arith, get-push)

sent_up_work_up : (c : Client) (conns : ℕ → Conn) (s : Server) (k n0 : ℕ) (t : Token) (m : Message) → (is_ops t ≡ true) → (c.live ≡ true) → (m.session_id ≡ c.session) → (m.tree_id ≡ c.tree) → (m.channel_sequence ≡ c.sequence) → (m.client_guid ≡ c.who.guid) → (m.connection ≡ k) → (m.fault ≡ None) → (is_work m.command ≡ true) → (logs_on m.command ≡ false) → WorkUp conns → WorkUp (put conns k (send_up (conns k) t m n0))
sent_up_work_up c conns s k n0 t m ops live session tree sequence client connection fault work quiet i_work_up =
    λ j n x. let old = i_work_up j n x in grind (arith, get-push)

sent_up_dialog_up : (c : Client) (conns : ℕ → Conn) (s : Server) (k n0 : ℕ) (t : Token) (m : Message) → (is_ops t ≡ true) → (c.live ≡ true) → (m.session_id ≡ c.session) → (m.tree_id ≡ c.tree) → (m.channel_sequence ≡ c.sequence) → (m.client_guid ≡ c.who.guid) → (m.connection ≡ k) → (m.fault ≡ None) → (is_work m.command ≡ true) → (logs_on m.command ≡ false) → DialogUp conns → DialogUp (put conns k (send_up (conns k) t m n0))
sent_up_dialog_up c conns s k n0 t m ops live session tree sequence client connection fault work quiet i_dialog_up =
    λ j n x. let old = i_dialog_up j n x in grind (arith, get-push)

sent_up_logon_up : (c : Client) (conns : ℕ → Conn) (s : Server) (k n0 : ℕ) (t : Token) (m : Message) → (is_ops t ≡ true) → (c.live ≡ true) → (m.session_id ≡ c.session) → (m.tree_id ≡ c.tree) → (m.channel_sequence ≡ c.sequence) → (m.client_guid ≡ c.who.guid) → (m.connection ≡ k) → (m.fault ≡ None) → (is_work m.command ≡ true) → (logs_on m.command ≡ false) → LogonUp c conns → LogonUp c (put conns k (send_up (conns k) t m n0))
sent_up_logon_up c conns s k n0 t m ops live session tree sequence client connection fault work quiet i_logon_up =
    λ j n x. let old = i_logon_up j n x in grind (arith, get-push)

sent_up_first_up : (c : Client) (conns : ℕ → Conn) (s : Server) (k n0 : ℕ) (t : Token) (m : Message) → (is_ops t ≡ true) → (c.live ≡ true) → (m.session_id ≡ c.session) → (m.tree_id ≡ c.tree) → (m.channel_sequence ≡ c.sequence) → (m.client_guid ≡ c.who.guid) → (m.connection ≡ k) → (m.fault ≡ None) → (is_work m.command ≡ true) → (logs_on m.command ≡ false) → FirstUp c conns → FirstUp c (put conns k (send_up (conns k) t m n0))
sent_up_first_up c conns s k n0 t m ops live session tree sequence client connection fault work quiet i_first_up =
    λ j n x. let old = i_first_up j n x in grind (arith, get-push)

sent_up_second_up : (c : Client) (conns : ℕ → Conn) (s : Server) (k n0 : ℕ) (t : Token) (m : Message) → (is_ops t ≡ true) → (c.live ≡ true) → (m.session_id ≡ c.session) → (m.tree_id ≡ c.tree) → (m.channel_sequence ≡ c.sequence) → (m.client_guid ≡ c.who.guid) → (m.connection ≡ k) → (m.fault ≡ None) → (is_work m.command ≡ true) → (logs_on m.command ≡ false) → SecondUp c conns → SecondUp c (put conns k (send_up (conns k) t m n0))
sent_up_second_up c conns s k n0 t m ops live session tree sequence client connection fault work quiet i_second_up =
    λ j n x. let old = i_second_up j n x in grind (arith, get-push)

sent_up_tree_connect_up : (c : Client) (conns : ℕ → Conn) (s : Server) (k n0 : ℕ) (t : Token) (m : Message) → (is_ops t ≡ true) → (c.live ≡ true) → (m.session_id ≡ c.session) → (m.tree_id ≡ c.tree) → (m.channel_sequence ≡ c.sequence) → (m.client_guid ≡ c.who.guid) → (m.connection ≡ k) → (m.fault ≡ None) → (is_work m.command ≡ true) → (logs_on m.command ≡ false) → TreeConnectUp c conns → TreeConnectUp c (put conns k (send_up (conns k) t m n0))
sent_up_tree_connect_up c conns s k n0 t m ops live session tree sequence client connection fault work quiet i_tree_connect_up =
    λ j n x. let old = i_tree_connect_up j n x in grind (arith, get-push)

sent_up_asked_fresh : (c : Client) (conns : ℕ → Conn) (s : Server) (k n0 : ℕ) (t : Token) (m : Message) → (is_ops t ≡ true) → (c.live ≡ true) → (m.session_id ≡ c.session) → (m.tree_id ≡ c.tree) → (m.channel_sequence ≡ c.sequence) → (m.client_guid ≡ c.who.guid) → (m.connection ≡ k) → (m.fault ≡ None) → (is_work m.command ≡ true) → (logs_on m.command ≡ false) → AskedFresh c conns → LiveAccepted c → Making c → AskedFresh c (put conns k (send_up (conns k) t m n0))
sent_up_asked_fresh c conns s k n0 t m ops live session tree sequence client connection fault work quiet i_asked_fresh i_live_accepted i_making =
    λ p j n x a. let old = i_asked_fresh p j n x a in let l = i_live_accepted live in let m = i_making p in grind (arith, get-push)

sent_up_first_reply : (c : Client) (conns : ℕ → Conn) (s : Server) (k n0 : ℕ) (t : Token) (m : Message) → (is_ops t ≡ true) → (c.live ≡ true) → (m.session_id ≡ c.session) → (m.tree_id ≡ c.tree) → (m.channel_sequence ≡ c.sequence) → (m.client_guid ≡ c.who.guid) → (m.connection ≡ k) → (m.fault ≡ None) → (is_work m.command ≡ true) → (logs_on m.command ≡ false) → FirstReply c conns s → FirstReply c (put conns k (send_up (conns k) t m n0)) s
sent_up_first_reply c conns s k n0 t m ops live session tree sequence client connection fault work quiet i_first_reply =
    λ j n y. let old = i_first_reply j n y in grind (arith, get-push)

sent_up_second_reply : (c : Client) (conns : ℕ → Conn) (s : Server) (k n0 : ℕ) (t : Token) (m : Message) → (is_ops t ≡ true) → (c.live ≡ true) → (m.session_id ≡ c.session) → (m.tree_id ≡ c.tree) → (m.channel_sequence ≡ c.sequence) → (m.client_guid ≡ c.who.guid) → (m.connection ≡ k) → (m.fault ≡ None) → (is_work m.command ≡ true) → (logs_on m.command ≡ false) → SecondReply c conns s → SecondReply c (put conns k (send_up (conns k) t m n0)) s
sent_up_second_reply c conns s k n0 t m ops live session tree sequence client connection fault work quiet i_second_reply =
    λ j n y. let old = i_second_reply j n y in grind (arith, get-push)

sent_up_tree_up : (c : Client) (conns : ℕ → Conn) (s : Server) (k n0 : ℕ) (t : Token) (m : Message) → (is_ops t ≡ true) → (c.live ≡ true) → (m.session_id ≡ c.session) → (m.tree_id ≡ c.tree) → (m.channel_sequence ≡ c.sequence) → (m.client_guid ≡ c.who.guid) → (m.connection ≡ k) → (m.fault ≡ None) → (is_work m.command ≡ true) → (logs_on m.command ≡ false) → TreeUp conns s → TreeLive c s → TreeUp (put conns k (send_up (conns k) t m n0)) s
sent_up_tree_up c conns s k n0 t m ops live session tree sequence client connection fault work quiet i_tree_up i_tree_live =
    λ j n x. let old = i_tree_up j n x in let l = i_tree_live in grind (arith, get-push)

sent_up_tree_reply : (c : Client) (conns : ℕ → Conn) (s : Server) (k n0 : ℕ) (t : Token) (m : Message) → (is_ops t ≡ true) → (c.live ≡ true) → (m.session_id ≡ c.session) → (m.tree_id ≡ c.tree) → (m.channel_sequence ≡ c.sequence) → (m.client_guid ≡ c.who.guid) → (m.connection ≡ k) → (m.fault ≡ None) → (is_work m.command ≡ true) → (logs_on m.command ≡ false) → TreeReply c conns s → TreeReply c (put conns k (send_up (conns k) t m n0)) s
sent_up_tree_reply c conns s k n0 t m ops live session tree sequence client connection fault work quiet i_tree_reply =
    λ j n y. let old = i_tree_reply j n y in grind (arith, get-push)

sent_up_sent_trees : (c : Client) (conns : ℕ → Conn) (s : Server) (k n0 : ℕ) (t : Token) (m : Message) → (is_ops t ≡ true) → (c.live ≡ true) → (m.session_id ≡ c.session) → (m.tree_id ≡ c.tree) → (m.channel_sequence ≡ c.sequence) → (m.client_guid ≡ c.who.guid) → (m.connection ≡ k) → (m.fault ≡ None) → (is_work m.command ≡ true) → (logs_on m.command ≡ false) → SentTrees c conns → LiveAccepted c → NumberedSessions c → SentTrees c (put conns k (send_up (conns k) t m n0))
sent_up_sent_trees c conns s k n0 t m ops live session tree sequence client connection fault work quiet i_sent_trees i_live_accepted i_numbered_sessions =
    λ j n x. let old = i_sent_trees j n x in let l = i_live_accepted live in let m = (i_numbered_sessions 0 0).2 live in grind (arith, get-push)

pub sent_up_keeps : (c : Client) (conns : ℕ → Conn) (s : Server) (k n0 : ℕ) (t : Token) (m : Message) → (is_ops t ≡ true) → (c.live ≡ true) → (m.session_id ≡ c.session) → (m.tree_id ≡ c.tree) → (m.channel_sequence ≡ c.sequence) → (m.client_guid ≡ c.who.guid) → (m.connection ≡ k) → (m.fault ≡ None) → (is_work m.command ≡ true) → (logs_on m.command ≡ false) → Sessions c conns s → Sessions c (put conns k (send_up (conns k) t m n0)) s
sent_up_keeps c conns s k n0 t m ops live session tree sequence client connection fault work quiet i =
    record {
      live_accepted = i.live_accepted;
      session_ranked = i.session_ranked;
      ranks = i.ranks;
      last_rank = i.last_rank;
      rank_once = i.rank_once;
      making = i.making;
      pending_accepted = i.pending_accepted;
      pending_unranked = i.pending_unranked;
      sequence_low = i.sequence_low;
      numbered_sessions = i.numbered_sessions;
      current_up = sent_up_current_up c conns s k n0 t m ops live session tree sequence client connection fault work quiet i.current_up;
      current_down = sent_up_current_down c conns s k n0 t m ops live session tree sequence client connection fault work quiet i.current_down;
      ranked_up = sent_up_ranked_up c conns s k n0 t m ops live session tree sequence client connection fault work quiet i.ranked_up i.live_accepted;
      from_client = sent_up_from_client c conns s k n0 t m ops live session tree sequence client connection fault work quiet i.from_client;
      sequences_up = sent_up_sequences_up c conns s k n0 t m ops live session tree sequence client connection fault work quiet i.sequences_up i.sequence_low;
      work_up = sent_up_work_up c conns s k n0 t m ops live session tree sequence client connection fault work quiet i.work_up;
      dialog_up = sent_up_dialog_up c conns s k n0 t m ops live session tree sequence client connection fault work quiet i.dialog_up;
      logon_up = sent_up_logon_up c conns s k n0 t m ops live session tree sequence client connection fault work quiet i.logon_up;
      first_up = sent_up_first_up c conns s k n0 t m ops live session tree sequence client connection fault work quiet i.first_up;
      second_up = sent_up_second_up c conns s k n0 t m ops live session tree sequence client connection fault work quiet i.second_up;
      tree_connect_up = sent_up_tree_connect_up c conns s k n0 t m ops live session tree sequence client connection fault work quiet i.tree_connect_up;
      asked_fresh = sent_up_asked_fresh c conns s k n0 t m ops live session tree sequence client connection fault work quiet i.asked_fresh i.live_accepted i.making;
      present_accepted = i.present_accepted;
      ranked_given = i.ranked_given;
      making_unranked = i.making_unranked;
      session_users = i.session_users;
      open_users = i.open_users;
      pending_given = i.pending_given;
      first_reply = sent_up_first_reply c conns s k n0 t m ops live session tree sequence client connection fault work quiet i.first_reply;
      second_reply = sent_up_second_reply c conns s k n0 t m ops live session tree sequence client connection fault work quiet i.second_reply;
      tree_up = sent_up_tree_up c conns s k n0 t m ops live session tree sequence client connection fault work quiet i.tree_up i.tree_live;
      tree_live = i.tree_live;
      tree_reply = sent_up_tree_reply c conns s k n0 t m ops live session tree sequence client connection fault work quiet i.tree_reply;
      sent_trees = sent_up_sent_trees c conns s k n0 t m ops live session tree sequence client connection fault work quiet i.sent_trees i.live_accepted i.numbered_sessions;
      asked_new = i.asked_new;
      open_trees = i.open_trees;
    }
