-- Written by tools/law_sessions.py. The client closes a channel that isn't ready.
use Rattle.std.proofs.Common.{ℕ, List, arith}
use Rattle.spec_exchange.specs.Table.{put}
use Rattle.spec_exchange.specs.State.{Server}
use Rattle.spec_exchange.specs.Client.{Client, Apart, RefusedDialog, unmade}
use Rattle.spec_exchange.specs.Network.{Conn, client_off}
use Rattle.law_sessions.proofs.messages.Lists.{get-push}
use Rattle.law_sessions.specs.sessions.Sessions.{Sessions, LiveAccepted, Making, PendingAccepted, PendingUnranked, CurrentUp, CurrentDown, RankedUp, FromClient, SequencesUp, WorkUp, DialogUp, LogonUp, FirstUp, SecondUp, TreeConnectUp, AskedFresh, PendingGiven, FirstReply, SecondReply, TreeUp, TreeReply, SentTrees, AskedNew}

dialog_off_live_accepted : (c : Client) (conns : ℕ → Conn) (s : Server) (k : ℕ) (rs : List RefusedDialog) → LiveAccepted c → LiveAccepted (record c { stage = put c.stage k Apart; making = unmade k c.making; refusals = rs })
dialog_off_live_accepted c conns s k rs i_live_accepted =
    let old = i_live_accepted in grind arith

dialog_off_making : (c : Client) (conns : ℕ → Conn) (s : Server) (k : ℕ) (rs : List RefusedDialog) → Making c → Making (record c { stage = put c.stage k Apart; making = unmade k c.making; refusals = rs })
dialog_off_making c conns s k rs i_making =
    λ p. let old = i_making p in grind arith

dialog_off_pending_accepted : (c : Client) (conns : ℕ → Conn) (s : Server) (k : ℕ) (rs : List RefusedDialog) → PendingAccepted c → PendingAccepted (record c { stage = put c.stage k Apart; making = unmade k c.making; refusals = rs })
dialog_off_pending_accepted c conns s k rs i_pending_accepted =
    λ p. let old = i_pending_accepted p in grind arith

dialog_off_pending_unranked : (c : Client) (conns : ℕ → Conn) (s : Server) (k : ℕ) (rs : List RefusedDialog) → PendingUnranked c → PendingUnranked (record c { stage = put c.stage k Apart; making = unmade k c.making; refusals = rs })
dialog_off_pending_unranked c conns s k rs i_pending_unranked =
    λ p. let old = i_pending_unranked p in grind arith

dialog_off_current_up : (c : Client) (conns : ℕ → Conn) (s : Server) (k : ℕ) (rs : List RefusedDialog) → CurrentUp c conns → CurrentUp (record c { stage = put c.stage k Apart; making = unmade k c.making; refusals = rs }) (put conns k (client_off (conns k)))
dialog_off_current_up c conns s k rs i_current_up =
    λ j n x. let old = i_current_up j n x in grind (arith, get-push)

dialog_off_current_down : (c : Client) (conns : ℕ → Conn) (s : Server) (k : ℕ) (rs : List RefusedDialog) → CurrentDown c conns → CurrentDown (record c { stage = put c.stage k Apart; making = unmade k c.making; refusals = rs }) (put conns k (client_off (conns k)))
dialog_off_current_down c conns s k rs i_current_down =
    λ j n y. let old = i_current_down j n y in grind (arith, get-push)

dialog_off_ranked_up : (c : Client) (conns : ℕ → Conn) (s : Server) (k : ℕ) (rs : List RefusedDialog) → RankedUp c conns → RankedUp (record c { stage = put c.stage k Apart; making = unmade k c.making; refusals = rs }) (put conns k (client_off (conns k)))
dialog_off_ranked_up c conns s k rs i_ranked_up =
    λ j n x. let old = i_ranked_up j n x in grind (arith, get-push)

dialog_off_from_client : (c : Client) (conns : ℕ → Conn) (s : Server) (k : ℕ) (rs : List RefusedDialog) → FromClient c conns → FromClient (record c { stage = put c.stage k Apart; making = unmade k c.making; refusals = rs }) (put conns k (client_off (conns k)))
dialog_off_from_client c conns s k rs i_from_client =
    λ j n x. let old = i_from_client j n x in grind (arith, get-push)

dialog_off_sequences_up : (c : Client) (conns : ℕ → Conn) (s : Server) (k : ℕ) (rs : List RefusedDialog) → SequencesUp c conns → SequencesUp (record c { stage = put c.stage k Apart; making = unmade k c.making; refusals = rs }) (put conns k (client_off (conns k)))
dialog_off_sequences_up c conns s k rs i_sequences_up =
    λ j n x. let old = i_sequences_up j n x in grind (arith, get-push)

dialog_off_work_up : (c : Client) (conns : ℕ → Conn) (s : Server) (k : ℕ) (rs : List RefusedDialog) → WorkUp conns → WorkUp (put conns k (client_off (conns k)))
dialog_off_work_up c conns s k rs i_work_up =
    λ j n x. let old = i_work_up j n x in grind (arith, get-push)

dialog_off_dialog_up : (c : Client) (conns : ℕ → Conn) (s : Server) (k : ℕ) (rs : List RefusedDialog) → DialogUp conns → DialogUp (put conns k (client_off (conns k)))
dialog_off_dialog_up c conns s k rs i_dialog_up =
    λ j n x. let old = i_dialog_up j n x in grind (arith, get-push)

dialog_off_logon_up : (c : Client) (conns : ℕ → Conn) (s : Server) (k : ℕ) (rs : List RefusedDialog) → LogonUp c conns → LogonUp (record c { stage = put c.stage k Apart; making = unmade k c.making; refusals = rs }) (put conns k (client_off (conns k)))
dialog_off_logon_up c conns s k rs i_logon_up =
    λ j n x. let old = i_logon_up j n x in grind (arith, get-push)

dialog_off_first_up : (c : Client) (conns : ℕ → Conn) (s : Server) (k : ℕ) (rs : List RefusedDialog) → FirstUp c conns → FirstUp (record c { stage = put c.stage k Apart; making = unmade k c.making; refusals = rs }) (put conns k (client_off (conns k)))
dialog_off_first_up c conns s k rs i_first_up =
    λ j n x. let old = i_first_up j n x in grind (arith, get-push)

dialog_off_second_up : (c : Client) (conns : ℕ → Conn) (s : Server) (k : ℕ) (rs : List RefusedDialog) → SecondUp c conns → SecondUp (record c { stage = put c.stage k Apart; making = unmade k c.making; refusals = rs }) (put conns k (client_off (conns k)))
dialog_off_second_up c conns s k rs i_second_up =
    λ j n x. let old = i_second_up j n x in grind (arith, get-push)

dialog_off_tree_connect_up : (c : Client) (conns : ℕ → Conn) (s : Server) (k : ℕ) (rs : List RefusedDialog) → TreeConnectUp c conns → TreeConnectUp (record c { stage = put c.stage k Apart; making = unmade k c.making; refusals = rs }) (put conns k (client_off (conns k)))
dialog_off_tree_connect_up c conns s k rs i_tree_connect_up =
    λ j n x. let old = i_tree_connect_up j n x in grind (arith, get-push)

dialog_off_asked_fresh : (c : Client) (conns : ℕ → Conn) (s : Server) (k : ℕ) (rs : List RefusedDialog) → AskedFresh c conns → AskedFresh (record c { stage = put c.stage k Apart; making = unmade k c.making; refusals = rs }) (put conns k (client_off (conns k)))
dialog_off_asked_fresh c conns s k rs i_asked_fresh =
    λ p j n x. let old = i_asked_fresh p j n x in grind (arith, get-push)

dialog_off_pending_given : (c : Client) (conns : ℕ → Conn) (s : Server) (k : ℕ) (rs : List RefusedDialog) → PendingGiven c s → PendingGiven (record c { stage = put c.stage k Apart; making = unmade k c.making; refusals = rs }) s
dialog_off_pending_given c conns s k rs i_pending_given =
    λ p. let old = i_pending_given p in grind arith

dialog_off_first_reply : (c : Client) (conns : ℕ → Conn) (s : Server) (k : ℕ) (rs : List RefusedDialog) → FirstReply c conns s → FirstReply (record c { stage = put c.stage k Apart; making = unmade k c.making; refusals = rs }) (put conns k (client_off (conns k))) s
dialog_off_first_reply c conns s k rs i_first_reply =
    λ j n y. let old = i_first_reply j n y in grind (arith, get-push)

dialog_off_second_reply : (c : Client) (conns : ℕ → Conn) (s : Server) (k : ℕ) (rs : List RefusedDialog) → SecondReply c conns s → SecondReply (record c { stage = put c.stage k Apart; making = unmade k c.making; refusals = rs }) (put conns k (client_off (conns k))) s
dialog_off_second_reply c conns s k rs i_second_reply =
    λ j n y. let old = i_second_reply j n y in grind (arith, get-push)

dialog_off_tree_up : (c : Client) (conns : ℕ → Conn) (s : Server) (k : ℕ) (rs : List RefusedDialog) → TreeUp conns s → TreeUp (put conns k (client_off (conns k))) s
dialog_off_tree_up c conns s k rs i_tree_up =
    λ j n x. let old = i_tree_up j n x in grind (arith, get-push)

dialog_off_tree_reply : (c : Client) (conns : ℕ → Conn) (s : Server) (k : ℕ) (rs : List RefusedDialog) → TreeReply c conns s → TreeReply (record c { stage = put c.stage k Apart; making = unmade k c.making; refusals = rs }) (put conns k (client_off (conns k))) s
dialog_off_tree_reply c conns s k rs i_tree_reply =
    λ j n y. let old = i_tree_reply j n y in grind (arith, get-push)

dialog_off_sent_trees : (c : Client) (conns : ℕ → Conn) (s : Server) (k : ℕ) (rs : List RefusedDialog) → SentTrees c conns → SentTrees (record c { stage = put c.stage k Apart; making = unmade k c.making; refusals = rs }) (put conns k (client_off (conns k)))
dialog_off_sent_trees c conns s k rs i_sent_trees =
    λ j n x. let old = i_sent_trees j n x in grind (arith, get-push)

dialog_off_asked_new : (c : Client) (conns : ℕ → Conn) (s : Server) (k : ℕ) (rs : List RefusedDialog) → AskedNew c → AskedNew (record c { stage = put c.stage k Apart; making = unmade k c.making; refusals = rs })
dialog_off_asked_new c conns s k rs i_asked_new =
    λ p. let old = i_asked_new p in grind arith

pub dialog_off_keeps : (c : Client) (conns : ℕ → Conn) (s : Server) (k : ℕ) (rs : List RefusedDialog) → Sessions c conns s → Sessions (record c { stage = put c.stage k Apart; making = unmade k c.making; refusals = rs }) (put conns k (client_off (conns k))) s
dialog_off_keeps c conns s k rs i =
    record {
      live_accepted = dialog_off_live_accepted c conns s k rs i.live_accepted;
      session_ranked = i.session_ranked;
      ranks = i.ranks;
      last_rank = i.last_rank;
      rank_once = i.rank_once;
      making = dialog_off_making c conns s k rs i.making;
      pending_accepted = dialog_off_pending_accepted c conns s k rs i.pending_accepted;
      pending_unranked = dialog_off_pending_unranked c conns s k rs i.pending_unranked;
      sequence_low = i.sequence_low;
      numbered_sessions = i.numbered_sessions;
      current_up = dialog_off_current_up c conns s k rs i.current_up;
      current_down = dialog_off_current_down c conns s k rs i.current_down;
      ranked_up = dialog_off_ranked_up c conns s k rs i.ranked_up;
      from_client = dialog_off_from_client c conns s k rs i.from_client;
      sequences_up = dialog_off_sequences_up c conns s k rs i.sequences_up;
      work_up = dialog_off_work_up c conns s k rs i.work_up;
      dialog_up = dialog_off_dialog_up c conns s k rs i.dialog_up;
      logon_up = dialog_off_logon_up c conns s k rs i.logon_up;
      first_up = dialog_off_first_up c conns s k rs i.first_up;
      second_up = dialog_off_second_up c conns s k rs i.second_up;
      tree_connect_up = dialog_off_tree_connect_up c conns s k rs i.tree_connect_up;
      asked_fresh = dialog_off_asked_fresh c conns s k rs i.asked_fresh;
      present_accepted = i.present_accepted;
      ranked_given = i.ranked_given;
      making_unranked = i.making_unranked;
      session_users = i.session_users;
      open_users = i.open_users;
      pending_given = dialog_off_pending_given c conns s k rs i.pending_given;
      first_reply = dialog_off_first_reply c conns s k rs i.first_reply;
      second_reply = dialog_off_second_reply c conns s k rs i.second_reply;
      tree_up = dialog_off_tree_up c conns s k rs i.tree_up;
      tree_live = i.tree_live;
      tree_reply = dialog_off_tree_reply c conns s k rs i.tree_reply;
      sent_trees = dialog_off_sent_trees c conns s k rs i.sent_trees;
      asked_new = dialog_off_asked_new c conns s k rs i.asked_new;
      open_trees = i.open_trees;
    }
