-- Written by tools/law_sessions.py. The next message of a dialog goes out.
use Rattle.std.proofs.Common.{◌≡◌, ℕ, true, false, arith, None}
use Rattle.spec_exchange.specs.Table.{put}
use Rattle.spec_exchange.specs.State.{Server, Message}
use Rattle.spec_exchange.specs.Client.{Client, SaidFirst, SaidSecond, AskedTree}
use Rattle.spec_exchange.specs.Network.{Conn, ForDialog, send_up}
use Rattle.law_sessions.specs.messages.Connections.{copies}
use Rattle.law_sessions.proofs.messages.Lists.{get-push}
use Rattle.law_sessions.specs.sessions.Sessions.{Sessions, logon_user, is_dialog, is_new_setup, is_tree_connect, logs_on, user_in, previous_in, CurrentUp, CurrentDown, RankedUp, FromClient, SequencesUp, WorkUp, DialogUp, LogonUp, FirstUp, SecondUp, TreeConnectUp, AskedFresh, FirstReply, SecondReply, TreeUp, TreeReply, SentTrees}

dialog_sent_current_up : (c : Client) (conns : ℕ → Conn) (s : Server) (k n0 : ℕ) (m : Message) → (m.client_guid ≡ c.who.guid) → (m.connection ≡ k) → (m.fault ≡ None) → (m.channel_sequence ≡ 0) → (is_dialog m.command ≡ true) → CurrentUp c conns → CurrentUp c (put conns k (send_up (conns k) ForDialog m n0))
dialog_sent_current_up c conns s k n0 m client connection fault sequence dialog i_current_up =
    λ j n x. let old = i_current_up j n x in grind (arith, get-push)

dialog_sent_current_down : (c : Client) (conns : ℕ → Conn) (s : Server) (k n0 : ℕ) (m : Message) → (m.client_guid ≡ c.who.guid) → (m.connection ≡ k) → (m.fault ≡ None) → (m.channel_sequence ≡ 0) → (is_dialog m.command ≡ true) → CurrentDown c conns → CurrentDown c (put conns k (send_up (conns k) ForDialog m n0))
dialog_sent_current_down c conns s k n0 m client connection fault sequence dialog i_current_down =
    λ j n y. let old = i_current_down j n y in grind (arith, get-push)

dialog_sent_ranked_up : (c : Client) (conns : ℕ → Conn) (s : Server) (k n0 : ℕ) (m : Message) → (m.client_guid ≡ c.who.guid) → (m.connection ≡ k) → (m.fault ≡ None) → (m.channel_sequence ≡ 0) → (is_dialog m.command ≡ true) → RankedUp c conns → RankedUp c (put conns k (send_up (conns k) ForDialog m n0))
dialog_sent_ranked_up c conns s k n0 m client connection fault sequence dialog i_ranked_up =
    λ j n x. let old = i_ranked_up j n x in grind (arith, get-push)

dialog_sent_from_client : (c : Client) (conns : ℕ → Conn) (s : Server) (k n0 : ℕ) (m : Message) → (m.client_guid ≡ c.who.guid) → (m.connection ≡ k) → (m.fault ≡ None) → (m.channel_sequence ≡ 0) → (is_dialog m.command ≡ true) → FromClient c conns → FromClient c (put conns k (send_up (conns k) ForDialog m n0))
dialog_sent_from_client c conns s k n0 m client connection fault sequence dialog i_from_client =
    λ j n x. let old = i_from_client j n x in grind (arith, get-push)

dialog_sent_sequences_up : (c : Client) (conns : ℕ → Conn) (s : Server) (k n0 : ℕ) (m : Message) → (m.client_guid ≡ c.who.guid) → (m.connection ≡ k) → (m.fault ≡ None) → (m.channel_sequence ≡ 0) → (is_dialog m.command ≡ true) → SequencesUp c conns → SequencesUp c (put conns k (send_up (conns k) ForDialog m n0))
dialog_sent_sequences_up c conns s k n0 m client connection fault sequence dialog i_sequences_up =
    λ j n x. let old = i_sequences_up j n x in grind (arith, get-push)

dialog_sent_work_up : (c : Client) (conns : ℕ → Conn) (s : Server) (k n0 : ℕ) (m : Message) → (m.client_guid ≡ c.who.guid) → (m.connection ≡ k) → (m.fault ≡ None) → (m.channel_sequence ≡ 0) → (is_dialog m.command ≡ true) → WorkUp conns → WorkUp (put conns k (send_up (conns k) ForDialog m n0))
dialog_sent_work_up c conns s k n0 m client connection fault sequence dialog i_work_up =
    λ j n x. let old = i_work_up j n x in grind (arith, get-push)

dialog_sent_dialog_up : (c : Client) (conns : ℕ → Conn) (s : Server) (k n0 : ℕ) (m : Message) → (m.client_guid ≡ c.who.guid) → (m.connection ≡ k) → (m.fault ≡ None) → (m.channel_sequence ≡ 0) → (is_dialog m.command ≡ true) → DialogUp conns → DialogUp (put conns k (send_up (conns k) ForDialog m n0))
dialog_sent_dialog_up c conns s k n0 m client connection fault sequence dialog i_dialog_up =
    λ j n x. let old = i_dialog_up j n x in grind (arith, get-push)

dialog_sent_logon_up : (c : Client) (conns : ℕ → Conn) (s : Server) (k n0 : ℕ) (m : Message) → (m.client_guid ≡ c.who.guid) → (m.connection ≡ k) → (m.fault ≡ None) → (m.channel_sequence ≡ 0) → (is_dialog m.command ≡ true) → (logs_on m.command ≡ true → user_in m.command ≡ logon_user c.who.logon) → LogonUp c conns → LogonUp c (put conns k (send_up (conns k) ForDialog m n0))
dialog_sent_logon_up c conns s k n0 m client connection fault sequence dialog logon i_logon_up =
    λ j n x. let old = i_logon_up j n x in let q = logon in grind (arith, get-push)

dialog_sent_first_up : (c : Client) (conns : ℕ → Conn) (s : Server) (k n0 : ℕ) (m : Message) → (m.client_guid ≡ c.who.guid) → (m.connection ≡ k) → (m.fault ≡ None) → (m.channel_sequence ≡ 0) → (is_dialog m.command ≡ true) → (c.stage k ≡ SaidFirst false → is_new_setup m.command ≡ true) → FirstUp c conns → FirstUp c (put conns k (send_up (conns k) ForDialog m n0))
dialog_sent_first_up c conns s k n0 m client connection fault sequence dialog first i_first_up =
    λ j n x. let old = i_first_up j n x in let q = first in grind (arith, get-push)

dialog_sent_second_up : (c : Client) (conns : ℕ → Conn) (s : Server) (k n0 : ℕ) (m : Message) → (m.client_guid ≡ c.who.guid) → (m.connection ≡ k) → (m.fault ≡ None) → (m.channel_sequence ≡ 0) → (is_dialog m.command ≡ true) → (c.stage k ≡ SaidSecond false → is_new_setup m.command ≡ true × previous_in m.command ≡ c.accepted × m.session_id ≡ c.pending) → SecondUp c conns → SecondUp c (put conns k (send_up (conns k) ForDialog m n0))
dialog_sent_second_up c conns s k n0 m client connection fault sequence dialog second i_second_up =
    λ j n x. let old = i_second_up j n x in let q = second in grind (arith, get-push)

dialog_sent_tree_connect_up : (c : Client) (conns : ℕ → Conn) (s : Server) (k n0 : ℕ) (m : Message) → (m.client_guid ≡ c.who.guid) → (m.connection ≡ k) → (m.fault ≡ None) → (m.channel_sequence ≡ 0) → (is_dialog m.command ≡ true) → (c.stage k ≡ AskedTree → is_tree_connect m.command ≡ true × m.session_id ≡ c.pending) → TreeConnectUp c conns → TreeConnectUp c (put conns k (send_up (conns k) ForDialog m n0))
dialog_sent_tree_connect_up c conns s k n0 m client connection fault sequence dialog tree i_tree_connect_up =
    λ j n x. let old = i_tree_connect_up j n x in let q = tree in grind (arith, get-push)

dialog_sent_asked_fresh : (c : Client) (conns : ℕ → Conn) (s : Server) (k n0 : ℕ) (m : Message) → (m.client_guid ≡ c.who.guid) → (m.connection ≡ k) → (m.fault ≡ None) → (m.channel_sequence ≡ 0) → (is_dialog m.command ≡ true) → AskedFresh c conns → AskedFresh c (put conns k (send_up (conns k) ForDialog m n0))
dialog_sent_asked_fresh c conns s k n0 m client connection fault sequence dialog i_asked_fresh =
    λ p j n x. let old = i_asked_fresh p j n x in grind (arith, get-push)

dialog_sent_first_reply : (c : Client) (conns : ℕ → Conn) (s : Server) (k n0 : ℕ) (m : Message) → (m.client_guid ≡ c.who.guid) → (m.connection ≡ k) → (m.fault ≡ None) → (m.channel_sequence ≡ 0) → (is_dialog m.command ≡ true) → FirstReply c conns s → FirstReply c (put conns k (send_up (conns k) ForDialog m n0)) s
dialog_sent_first_reply c conns s k n0 m client connection fault sequence dialog i_first_reply =
    λ j n y. let old = i_first_reply j n y in grind (arith, get-push)

dialog_sent_second_reply : (c : Client) (conns : ℕ → Conn) (s : Server) (k n0 : ℕ) (m : Message) → (m.client_guid ≡ c.who.guid) → (m.connection ≡ k) → (m.fault ≡ None) → (m.channel_sequence ≡ 0) → (is_dialog m.command ≡ true) → SecondReply c conns s → SecondReply c (put conns k (send_up (conns k) ForDialog m n0)) s
dialog_sent_second_reply c conns s k n0 m client connection fault sequence dialog i_second_reply =
    λ j n y. let old = i_second_reply j n y in grind (arith, get-push)

dialog_sent_tree_up : (c : Client) (conns : ℕ → Conn) (s : Server) (k n0 : ℕ) (m : Message) → (m.client_guid ≡ c.who.guid) → (m.connection ≡ k) → (m.fault ≡ None) → (m.channel_sequence ≡ 0) → (is_dialog m.command ≡ true) → TreeUp conns s → TreeUp (put conns k (send_up (conns k) ForDialog m n0)) s
dialog_sent_tree_up c conns s k n0 m client connection fault sequence dialog i_tree_up =
    λ j n x. let old = i_tree_up j n x in grind (arith, get-push)

dialog_sent_tree_reply : (c : Client) (conns : ℕ → Conn) (s : Server) (k n0 : ℕ) (m : Message) → (m.client_guid ≡ c.who.guid) → (m.connection ≡ k) → (m.fault ≡ None) → (m.channel_sequence ≡ 0) → (is_dialog m.command ≡ true) → TreeReply c conns s → TreeReply c (put conns k (send_up (conns k) ForDialog m n0)) s
dialog_sent_tree_reply c conns s k n0 m client connection fault sequence dialog i_tree_reply =
    λ j n y. let old = i_tree_reply j n y in grind (arith, get-push)

dialog_sent_sent_trees : (c : Client) (conns : ℕ → Conn) (s : Server) (k n0 : ℕ) (m : Message) → (m.client_guid ≡ c.who.guid) → (m.connection ≡ k) → (m.fault ≡ None) → (m.channel_sequence ≡ 0) → (is_dialog m.command ≡ true) → SentTrees c conns → SentTrees c (put conns k (send_up (conns k) ForDialog m n0))
dialog_sent_sent_trees c conns s k n0 m client connection fault sequence dialog i_sent_trees =
    λ j n x. let old = i_sent_trees j n x in grind (arith, get-push)

pub dialog_sent_keeps : (c : Client) (conns : ℕ → Conn) (s : Server) (k n0 : ℕ) (m : Message) → (copies 0 (conns k) ≡ 0) → (m.client_guid ≡ c.who.guid) → (m.connection ≡ k) → (m.fault ≡ None) → (m.channel_sequence ≡ 0) → (is_dialog m.command ≡ true) → (logs_on m.command ≡ true → user_in m.command ≡ logon_user c.who.logon) → (c.stage k ≡ SaidFirst false → is_new_setup m.command ≡ true) → (c.stage k ≡ SaidSecond false → is_new_setup m.command ≡ true × previous_in m.command ≡ c.accepted × m.session_id ≡ c.pending) → (c.stage k ≡ AskedTree → is_tree_connect m.command ≡ true × m.session_id ≡ c.pending) → Sessions c conns s → Sessions c (put conns k (send_up (conns k) ForDialog m n0)) s
dialog_sent_keeps c conns s k n0 m none client connection fault sequence dialog logon first second tree i =
    record {
      live_accepted = i.live_accepted;
      session_ranked = i.session_ranked;
      ranks = i.ranks;
      last_rank = i.last_rank;
      rank_once = i.rank_once;
      making = i.making;
      pending_accepted = i.pending_accepted;
      pending_unranked = i.pending_unranked;
      sequence_low = i.sequence_low;
      numbered_sessions = i.numbered_sessions;
      current_up = dialog_sent_current_up c conns s k n0 m client connection fault sequence dialog i.current_up;
      current_down = dialog_sent_current_down c conns s k n0 m client connection fault sequence dialog i.current_down;
      ranked_up = dialog_sent_ranked_up c conns s k n0 m client connection fault sequence dialog i.ranked_up;
      from_client = dialog_sent_from_client c conns s k n0 m client connection fault sequence dialog i.from_client;
      sequences_up = dialog_sent_sequences_up c conns s k n0 m client connection fault sequence dialog i.sequences_up;
      work_up = dialog_sent_work_up c conns s k n0 m client connection fault sequence dialog i.work_up;
      dialog_up = dialog_sent_dialog_up c conns s k n0 m client connection fault sequence dialog i.dialog_up;
      logon_up = dialog_sent_logon_up c conns s k n0 m client connection fault sequence dialog logon i.logon_up;
      first_up = dialog_sent_first_up c conns s k n0 m client connection fault sequence dialog first i.first_up;
      second_up = dialog_sent_second_up c conns s k n0 m client connection fault sequence dialog second i.second_up;
      tree_connect_up = dialog_sent_tree_connect_up c conns s k n0 m client connection fault sequence dialog tree i.tree_connect_up;
      asked_fresh = dialog_sent_asked_fresh c conns s k n0 m client connection fault sequence dialog i.asked_fresh;
      present_accepted = i.present_accepted;
      ranked_given = i.ranked_given;
      making_unranked = i.making_unranked;
      session_users = i.session_users;
      open_users = i.open_users;
      pending_given = i.pending_given;
      first_reply = dialog_sent_first_reply c conns s k n0 m client connection fault sequence dialog i.first_reply;
      second_reply = dialog_sent_second_reply c conns s k n0 m client connection fault sequence dialog i.second_reply;
      tree_up = dialog_sent_tree_up c conns s k n0 m client connection fault sequence dialog i.tree_up;
      tree_live = i.tree_live;
      tree_reply = dialog_sent_tree_reply c conns s k n0 m client connection fault sequence dialog i.tree_reply;
      sent_trees = dialog_sent_sent_trees c conns s k n0 m client connection fault sequence dialog i.sent_trees;
      asked_new = i.asked_new;
      open_trees = i.open_trees;
    }
