-- Written by tools/law_sessions.py. A connection is made.
use Rattle.std.proofs.Common.{◌≡◌, ℕ, Bool, true, false, if◌then◌else◌, [], ◌∷◌, arith, None}
use Rattle.spec_exchange.specs.Table.{put}
use Rattle.spec_exchange.specs.State.{Server, Message}
use Rattle.spec_exchange.specs.Client.{Client}
use Rattle.spec_exchange.specs.Dialogs.{open_channel}
use Rattle.spec_exchange.specs.Network.{Conn, ForDialog}
use Rattle.law_sessions.proofs.messages.Lists.{get-push}
use Rattle.law_sessions.specs.sessions.Sessions.{Sessions, is_dialog, logs_on, LiveAccepted, Making, PendingAccepted, PendingUnranked, CurrentUp, CurrentDown, RankedUp, FromClient, SequencesUp, WorkUp, DialogUp, LogonUp, FirstUp, SecondUp, TreeConnectUp, AskedFresh, PendingGiven, FirstReply, SecondReply, TreeUp, TreeReply, SentTrees, AskedNew}

opened_live_accepted : (c : Client) (conns : ℕ → Conn) (s : Server) (k : ℕ) (served : Bool) (m : Message) → (c.making ≡ None) → (m.client_guid ≡ c.who.guid) → (m.connection ≡ k) → (m.fault ≡ None) → (m.channel_sequence ≡ 0) → (is_dialog m.command ≡ true) → (logs_on m.command ≡ false) → LiveAccepted c → LiveAccepted (open_channel c k)
opened_live_accepted c conns s k served m free client connection fault sequence dialog quiet i_live_accepted =
    let old = i_live_accepted in grind arith

opened_making : (c : Client) (conns : ℕ → Conn) (s : Server) (k : ℕ) (served : Bool) (m : Message) → (c.making ≡ None) → (m.client_guid ≡ c.who.guid) → (m.connection ≡ k) → (m.fault ≡ None) → (m.channel_sequence ≡ 0) → (is_dialog m.command ≡ true) → (logs_on m.command ≡ false) → Making c → Making (open_channel c k)
opened_making c conns s k served m free client connection fault sequence dialog quiet i_making =
    λ p. let old = i_making p in grind arith

opened_pending_accepted : (c : Client) (conns : ℕ → Conn) (s : Server) (k : ℕ) (served : Bool) (m : Message) → (c.making ≡ None) → (m.client_guid ≡ c.who.guid) → (m.connection ≡ k) → (m.fault ≡ None) → (m.channel_sequence ≡ 0) → (is_dialog m.command ≡ true) → (logs_on m.command ≡ false) → PendingAccepted c → PendingAccepted (open_channel c k)
opened_pending_accepted c conns s k served m free client connection fault sequence dialog quiet i_pending_accepted =
    λ p. let old = i_pending_accepted p in grind arith

opened_pending_unranked : (c : Client) (conns : ℕ → Conn) (s : Server) (k : ℕ) (served : Bool) (m : Message) → (c.making ≡ None) → (m.client_guid ≡ c.who.guid) → (m.connection ≡ k) → (m.fault ≡ None) → (m.channel_sequence ≡ 0) → (is_dialog m.command ≡ true) → (logs_on m.command ≡ false) → PendingUnranked c → PendingUnranked (open_channel c k)
opened_pending_unranked c conns s k served m free client connection fault sequence dialog quiet i_pending_unranked =
    λ p. let old = i_pending_unranked p in grind arith

opened_current_up : (c : Client) (conns : ℕ → Conn) (s : Server) (k : ℕ) (served : Bool) (m : Message) → (c.making ≡ None) → (m.client_guid ≡ c.who.guid) → (m.connection ≡ k) → (m.fault ≡ None) → (m.channel_sequence ≡ 0) → (is_dialog m.command ≡ true) → (logs_on m.command ≡ false) → CurrentUp c conns → CurrentUp (open_channel c k) (put conns k (record { client_open = true; server_open = served; up = if served then record { token = ForDialog; message = m } ∷ [] else []; down = []; next_id = 1 }))
opened_current_up c conns s k served m free client connection fault sequence dialog quiet i_current_up =
    λ j n x. let old = i_current_up j n x in grind (arith, get-push)

opened_current_down : (c : Client) (conns : ℕ → Conn) (s : Server) (k : ℕ) (served : Bool) (m : Message) → (c.making ≡ None) → (m.client_guid ≡ c.who.guid) → (m.connection ≡ k) → (m.fault ≡ None) → (m.channel_sequence ≡ 0) → (is_dialog m.command ≡ true) → (logs_on m.command ≡ false) → CurrentDown c conns → CurrentDown (open_channel c k) (put conns k (record { client_open = true; server_open = served; up = if served then record { token = ForDialog; message = m } ∷ [] else []; down = []; next_id = 1 }))
opened_current_down c conns s k served m free client connection fault sequence dialog quiet i_current_down =
    λ j n y. let old = i_current_down j n y in grind (arith, get-push)

opened_ranked_up : (c : Client) (conns : ℕ → Conn) (s : Server) (k : ℕ) (served : Bool) (m : Message) → (c.making ≡ None) → (m.client_guid ≡ c.who.guid) → (m.connection ≡ k) → (m.fault ≡ None) → (m.channel_sequence ≡ 0) → (is_dialog m.command ≡ true) → (logs_on m.command ≡ false) → RankedUp c conns → RankedUp (open_channel c k) (put conns k (record { client_open = true; server_open = served; up = if served then record { token = ForDialog; message = m } ∷ [] else []; down = []; next_id = 1 }))
opened_ranked_up c conns s k served m free client connection fault sequence dialog quiet i_ranked_up =
    λ j n x. let old = i_ranked_up j n x in grind (arith, get-push)

opened_from_client : (c : Client) (conns : ℕ → Conn) (s : Server) (k : ℕ) (served : Bool) (m : Message) → (c.making ≡ None) → (m.client_guid ≡ c.who.guid) → (m.connection ≡ k) → (m.fault ≡ None) → (m.channel_sequence ≡ 0) → (is_dialog m.command ≡ true) → (logs_on m.command ≡ false) → FromClient c conns → FromClient (open_channel c k) (put conns k (record { client_open = true; server_open = served; up = if served then record { token = ForDialog; message = m } ∷ [] else []; down = []; next_id = 1 }))
opened_from_client c conns s k served m free client connection fault sequence dialog quiet i_from_client =
    λ j n x. let old = i_from_client j n x in grind (arith, get-push)

opened_sequences_up : (c : Client) (conns : ℕ → Conn) (s : Server) (k : ℕ) (served : Bool) (m : Message) → (c.making ≡ None) → (m.client_guid ≡ c.who.guid) → (m.connection ≡ k) → (m.fault ≡ None) → (m.channel_sequence ≡ 0) → (is_dialog m.command ≡ true) → (logs_on m.command ≡ false) → SequencesUp c conns → SequencesUp (open_channel c k) (put conns k (record { client_open = true; server_open = served; up = if served then record { token = ForDialog; message = m } ∷ [] else []; down = []; next_id = 1 }))
opened_sequences_up c conns s k served m free client connection fault sequence dialog quiet i_sequences_up =
    λ j n x. let old = i_sequences_up j n x in grind (arith, get-push)

opened_work_up : (c : Client) (conns : ℕ → Conn) (s : Server) (k : ℕ) (served : Bool) (m : Message) → (c.making ≡ None) → (m.client_guid ≡ c.who.guid) → (m.connection ≡ k) → (m.fault ≡ None) → (m.channel_sequence ≡ 0) → (is_dialog m.command ≡ true) → (logs_on m.command ≡ false) → WorkUp conns → WorkUp (put conns k (record { client_open = true; server_open = served; up = if served then record { token = ForDialog; message = m } ∷ [] else []; down = []; next_id = 1 }))
opened_work_up c conns s k served m free client connection fault sequence dialog quiet i_work_up =
    λ j n x. let old = i_work_up j n x in grind (arith, get-push)

opened_dialog_up : (c : Client) (conns : ℕ → Conn) (s : Server) (k : ℕ) (served : Bool) (m : Message) → (c.making ≡ None) → (m.client_guid ≡ c.who.guid) → (m.connection ≡ k) → (m.fault ≡ None) → (m.channel_sequence ≡ 0) → (is_dialog m.command ≡ true) → (logs_on m.command ≡ false) → DialogUp conns → DialogUp (put conns k (record { client_open = true; server_open = served; up = if served then record { token = ForDialog; message = m } ∷ [] else []; down = []; next_id = 1 }))
opened_dialog_up c conns s k served m free client connection fault sequence dialog quiet i_dialog_up =
    λ j n x. let old = i_dialog_up j n x in grind (arith, get-push)

opened_logon_up : (c : Client) (conns : ℕ → Conn) (s : Server) (k : ℕ) (served : Bool) (m : Message) → (c.making ≡ None) → (m.client_guid ≡ c.who.guid) → (m.connection ≡ k) → (m.fault ≡ None) → (m.channel_sequence ≡ 0) → (is_dialog m.command ≡ true) → (logs_on m.command ≡ false) → LogonUp c conns → LogonUp (open_channel c k) (put conns k (record { client_open = true; server_open = served; up = if served then record { token = ForDialog; message = m } ∷ [] else []; down = []; next_id = 1 }))
opened_logon_up c conns s k served m free client connection fault sequence dialog quiet i_logon_up =
    λ j n x. let old = i_logon_up j n x in grind (arith, get-push)

opened_first_up : (c : Client) (conns : ℕ → Conn) (s : Server) (k : ℕ) (served : Bool) (m : Message) → (c.making ≡ None) → (m.client_guid ≡ c.who.guid) → (m.connection ≡ k) → (m.fault ≡ None) → (m.channel_sequence ≡ 0) → (is_dialog m.command ≡ true) → (logs_on m.command ≡ false) → FirstUp c conns → FirstUp (open_channel c k) (put conns k (record { client_open = true; server_open = served; up = if served then record { token = ForDialog; message = m } ∷ [] else []; down = []; next_id = 1 }))
opened_first_up c conns s k served m free client connection fault sequence dialog quiet i_first_up =
    λ j n x. let old = i_first_up j n x in grind (arith, get-push)

opened_second_up : (c : Client) (conns : ℕ → Conn) (s : Server) (k : ℕ) (served : Bool) (m : Message) → (c.making ≡ None) → (m.client_guid ≡ c.who.guid) → (m.connection ≡ k) → (m.fault ≡ None) → (m.channel_sequence ≡ 0) → (is_dialog m.command ≡ true) → (logs_on m.command ≡ false) → SecondUp c conns → SecondUp (open_channel c k) (put conns k (record { client_open = true; server_open = served; up = if served then record { token = ForDialog; message = m } ∷ [] else []; down = []; next_id = 1 }))
opened_second_up c conns s k served m free client connection fault sequence dialog quiet i_second_up =
    λ j n x. let old = i_second_up j n x in grind (arith, get-push)

opened_tree_connect_up : (c : Client) (conns : ℕ → Conn) (s : Server) (k : ℕ) (served : Bool) (m : Message) → (c.making ≡ None) → (m.client_guid ≡ c.who.guid) → (m.connection ≡ k) → (m.fault ≡ None) → (m.channel_sequence ≡ 0) → (is_dialog m.command ≡ true) → (logs_on m.command ≡ false) → TreeConnectUp c conns → TreeConnectUp (open_channel c k) (put conns k (record { client_open = true; server_open = served; up = if served then record { token = ForDialog; message = m } ∷ [] else []; down = []; next_id = 1 }))
opened_tree_connect_up c conns s k served m free client connection fault sequence dialog quiet i_tree_connect_up =
    λ j n x. let old = i_tree_connect_up j n x in grind (arith, get-push)

opened_asked_fresh : (c : Client) (conns : ℕ → Conn) (s : Server) (k : ℕ) (served : Bool) (m : Message) → (c.making ≡ None) → (m.client_guid ≡ c.who.guid) → (m.connection ≡ k) → (m.fault ≡ None) → (m.channel_sequence ≡ 0) → (is_dialog m.command ≡ true) → (logs_on m.command ≡ false) → AskedFresh c conns → AskedFresh (open_channel c k) (put conns k (record { client_open = true; server_open = served; up = if served then record { token = ForDialog; message = m } ∷ [] else []; down = []; next_id = 1 }))
opened_asked_fresh c conns s k served m free client connection fault sequence dialog quiet i_asked_fresh =
    λ p j n x. let old = i_asked_fresh p j n x in grind (arith, get-push)

opened_pending_given : (c : Client) (conns : ℕ → Conn) (s : Server) (k : ℕ) (served : Bool) (m : Message) → (c.making ≡ None) → (m.client_guid ≡ c.who.guid) → (m.connection ≡ k) → (m.fault ≡ None) → (m.channel_sequence ≡ 0) → (is_dialog m.command ≡ true) → (logs_on m.command ≡ false) → PendingGiven c s → PendingGiven (open_channel c k) s
opened_pending_given c conns s k served m free client connection fault sequence dialog quiet i_pending_given =
    λ p. let old = i_pending_given p in grind arith

opened_first_reply : (c : Client) (conns : ℕ → Conn) (s : Server) (k : ℕ) (served : Bool) (m : Message) → (c.making ≡ None) → (m.client_guid ≡ c.who.guid) → (m.connection ≡ k) → (m.fault ≡ None) → (m.channel_sequence ≡ 0) → (is_dialog m.command ≡ true) → (logs_on m.command ≡ false) → FirstReply c conns s → FirstReply (open_channel c k) (put conns k (record { client_open = true; server_open = served; up = if served then record { token = ForDialog; message = m } ∷ [] else []; down = []; next_id = 1 })) s
opened_first_reply c conns s k served m free client connection fault sequence dialog quiet i_first_reply =
    λ j n y. let old = i_first_reply j n y in grind (arith, get-push)

opened_second_reply : (c : Client) (conns : ℕ → Conn) (s : Server) (k : ℕ) (served : Bool) (m : Message) → (c.making ≡ None) → (m.client_guid ≡ c.who.guid) → (m.connection ≡ k) → (m.fault ≡ None) → (m.channel_sequence ≡ 0) → (is_dialog m.command ≡ true) → (logs_on m.command ≡ false) → SecondReply c conns s → SecondReply (open_channel c k) (put conns k (record { client_open = true; server_open = served; up = if served then record { token = ForDialog; message = m } ∷ [] else []; down = []; next_id = 1 })) s
opened_second_reply c conns s k served m free client connection fault sequence dialog quiet i_second_reply =
    λ j n y. let old = i_second_reply j n y in grind (arith, get-push)

opened_tree_up : (c : Client) (conns : ℕ → Conn) (s : Server) (k : ℕ) (served : Bool) (m : Message) → (c.making ≡ None) → (m.client_guid ≡ c.who.guid) → (m.connection ≡ k) → (m.fault ≡ None) → (m.channel_sequence ≡ 0) → (is_dialog m.command ≡ true) → (logs_on m.command ≡ false) → TreeUp conns s → TreeUp (put conns k (record { client_open = true; server_open = served; up = if served then record { token = ForDialog; message = m } ∷ [] else []; down = []; next_id = 1 })) s
opened_tree_up c conns s k served m free client connection fault sequence dialog quiet i_tree_up =
    λ j n x. let old = i_tree_up j n x in grind (arith, get-push)

opened_tree_reply : (c : Client) (conns : ℕ → Conn) (s : Server) (k : ℕ) (served : Bool) (m : Message) → (c.making ≡ None) → (m.client_guid ≡ c.who.guid) → (m.connection ≡ k) → (m.fault ≡ None) → (m.channel_sequence ≡ 0) → (is_dialog m.command ≡ true) → (logs_on m.command ≡ false) → TreeReply c conns s → TreeReply (open_channel c k) (put conns k (record { client_open = true; server_open = served; up = if served then record { token = ForDialog; message = m } ∷ [] else []; down = []; next_id = 1 })) s
opened_tree_reply c conns s k served m free client connection fault sequence dialog quiet i_tree_reply =
    λ j n y. let old = i_tree_reply j n y in grind (arith, get-push)

opened_sent_trees : (c : Client) (conns : ℕ → Conn) (s : Server) (k : ℕ) (served : Bool) (m : Message) → (c.making ≡ None) → (m.client_guid ≡ c.who.guid) → (m.connection ≡ k) → (m.fault ≡ None) → (m.channel_sequence ≡ 0) → (is_dialog m.command ≡ true) → (logs_on m.command ≡ false) → SentTrees c conns → SentTrees (open_channel c k) (put conns k (record { client_open = true; server_open = served; up = if served then record { token = ForDialog; message = m } ∷ [] else []; down = []; next_id = 1 }))
opened_sent_trees c conns s k served m free client connection fault sequence dialog quiet i_sent_trees =
    λ j n x. let old = i_sent_trees j n x in grind (arith, get-push)

opened_asked_new : (c : Client) (conns : ℕ → Conn) (s : Server) (k : ℕ) (served : Bool) (m : Message) → (c.making ≡ None) → (m.client_guid ≡ c.who.guid) → (m.connection ≡ k) → (m.fault ≡ None) → (m.channel_sequence ≡ 0) → (is_dialog m.command ≡ true) → (logs_on m.command ≡ false) → AskedNew c → AskedNew (open_channel c k)
opened_asked_new c conns s k served m free client connection fault sequence dialog quiet i_asked_new =
    λ p. let old = i_asked_new p in grind arith

pub opened_keeps : (c : Client) (conns : ℕ → Conn) (s : Server) (k : ℕ) (served : Bool) (m : Message) → (c.making ≡ None) → (m.client_guid ≡ c.who.guid) → (m.connection ≡ k) → (m.fault ≡ None) → (m.channel_sequence ≡ 0) → (is_dialog m.command ≡ true) → (logs_on m.command ≡ false) → Sessions c conns s → Sessions (open_channel c k) (put conns k (record { client_open = true; server_open = served; up = if served then record { token = ForDialog; message = m } ∷ [] else []; down = []; next_id = 1 })) s
opened_keeps c conns s k served m free client connection fault sequence dialog quiet i =
    record {
      live_accepted = opened_live_accepted c conns s k served m free client connection fault sequence dialog quiet i.live_accepted;
      session_ranked = i.session_ranked;
      ranks = i.ranks;
      last_rank = i.last_rank;
      rank_once = i.rank_once;
      making = opened_making c conns s k served m free client connection fault sequence dialog quiet i.making;
      pending_accepted = opened_pending_accepted c conns s k served m free client connection fault sequence dialog quiet i.pending_accepted;
      pending_unranked = opened_pending_unranked c conns s k served m free client connection fault sequence dialog quiet i.pending_unranked;
      sequence_low = i.sequence_low;
      numbered_sessions = i.numbered_sessions;
      current_up = opened_current_up c conns s k served m free client connection fault sequence dialog quiet i.current_up;
      current_down = opened_current_down c conns s k served m free client connection fault sequence dialog quiet i.current_down;
      ranked_up = opened_ranked_up c conns s k served m free client connection fault sequence dialog quiet i.ranked_up;
      from_client = opened_from_client c conns s k served m free client connection fault sequence dialog quiet i.from_client;
      sequences_up = opened_sequences_up c conns s k served m free client connection fault sequence dialog quiet i.sequences_up;
      work_up = opened_work_up c conns s k served m free client connection fault sequence dialog quiet i.work_up;
      dialog_up = opened_dialog_up c conns s k served m free client connection fault sequence dialog quiet i.dialog_up;
      logon_up = opened_logon_up c conns s k served m free client connection fault sequence dialog quiet i.logon_up;
      first_up = opened_first_up c conns s k served m free client connection fault sequence dialog quiet i.first_up;
      second_up = opened_second_up c conns s k served m free client connection fault sequence dialog quiet i.second_up;
      tree_connect_up = opened_tree_connect_up c conns s k served m free client connection fault sequence dialog quiet i.tree_connect_up;
      asked_fresh = opened_asked_fresh c conns s k served m free client connection fault sequence dialog quiet i.asked_fresh;
      present_accepted = i.present_accepted;
      ranked_given = i.ranked_given;
      making_unranked = i.making_unranked;
      session_users = i.session_users;
      open_users = i.open_users;
      pending_given = opened_pending_given c conns s k served m free client connection fault sequence dialog quiet i.pending_given;
      first_reply = opened_first_reply c conns s k served m free client connection fault sequence dialog quiet i.first_reply;
      second_reply = opened_second_reply c conns s k served m free client connection fault sequence dialog quiet i.second_reply;
      tree_up = opened_tree_up c conns s k served m free client connection fault sequence dialog quiet i.tree_up;
      tree_live = i.tree_live;
      tree_reply = opened_tree_reply c conns s k served m free client connection fault sequence dialog quiet i.tree_reply;
      sent_trees = opened_sent_trees c conns s k served m free client connection fault sequence dialog quiet i.sent_trees;
      asked_new = opened_asked_new c conns s k served m free client connection fault sequence dialog quiet i.asked_new;
      open_trees = i.open_trees;
    }
