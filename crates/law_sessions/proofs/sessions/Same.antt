-- Written by tools/law_sessions.py. The client's other columns change.
use Rattle.std.proofs.Common.{ℕ, arith}
use Rattle.spec_exchange.specs.State.{Server}
use Rattle.spec_exchange.specs.Client.{Client}
use Rattle.spec_exchange.specs.Network.{Conn}
use Rattle.law_sessions.proofs.messages.Lists.{get-push}
use Rattle.law_sessions.specs.sessions.Sessions.{Sessions, LiveAccepted, SessionRanked, Ranks, LastRank, RankOnce, Making, PendingAccepted, PendingUnranked, SequenceLow, NumberedSessions, CurrentUp, CurrentDown, RankedUp, FromClient, SequencesUp, LogonUp, FirstUp, SecondUp, TreeConnectUp, AskedFresh, PresentAccepted, RankedGiven, MakingUnranked, SessionUsers, OpenUsers, PendingGiven, FirstReply, SecondReply, TreeLive, TreeReply, SentTrees, AskedNew, OpenTrees}
use Rattle.law_sessions.proofs.sessions.Words.{SameSession}

same_live_accepted : (c : Client) (conns : ℕ → Conn) (s : Server) (d : Client) → (SameSession c d) → (NumberedSessions d) → LiveAccepted c → LiveAccepted d
same_live_accepted c conns s d same noted i_live_accepted =
    let old = i_live_accepted in grind arith

same_session_ranked : (c : Client) (conns : ℕ → Conn) (s : Server) (d : Client) → (SameSession c d) → (NumberedSessions d) → SessionRanked c → SessionRanked d
same_session_ranked c conns s d same noted i_session_ranked =
    let old = i_session_ranked in grind arith

same_ranks : (c : Client) (conns : ℕ → Conn) (s : Server) (d : Client) → (SameSession c d) → (NumberedSessions d) → Ranks c → Ranks d
same_ranks c conns s d same noted i_ranks =
    λ p. let old = i_ranks p in grind arith

same_last_rank : (c : Client) (conns : ℕ → Conn) (s : Server) (d : Client) → (SameSession c d) → (NumberedSessions d) → LastRank c → LastRank d
same_last_rank c conns s d same noted i_last_rank =
    let old = i_last_rank in grind arith

same_rank_once : (c : Client) (conns : ℕ → Conn) (s : Server) (d : Client) → (SameSession c d) → (NumberedSessions d) → RankOnce c → RankOnce d
same_rank_once c conns s d same noted i_rank_once =
    λ p q. let old = i_rank_once p q in grind arith

same_making : (c : Client) (conns : ℕ → Conn) (s : Server) (d : Client) → (SameSession c d) → (NumberedSessions d) → Making c → Making d
same_making c conns s d same noted i_making =
    λ p. let old = i_making p in grind arith

same_pending_accepted : (c : Client) (conns : ℕ → Conn) (s : Server) (d : Client) → (SameSession c d) → (NumberedSessions d) → PendingAccepted c → PendingAccepted d
same_pending_accepted c conns s d same noted i_pending_accepted =
    λ p. let old = i_pending_accepted p in grind arith

same_pending_unranked : (c : Client) (conns : ℕ → Conn) (s : Server) (d : Client) → (SameSession c d) → (NumberedSessions d) → PendingUnranked c → PendingUnranked d
same_pending_unranked c conns s d same noted i_pending_unranked =
    λ p. let old = i_pending_unranked p in grind arith

same_sequence_low : (c : Client) (conns : ℕ → Conn) (s : Server) (d : Client) → (SameSession c d) → (NumberedSessions d) → SequenceLow c → SequenceLow d
same_sequence_low c conns s d same noted i_sequence_low =
    let old = i_sequence_low in grind arith

same_numbered_sessions : (c : Client) (conns : ℕ → Conn) (s : Server) (d : Client) → (SameSession c d) → (NumberedSessions d) → NumberedSessions d
same_numbered_sessions c conns s d same noted =
    noted

same_current_up : (c : Client) (conns : ℕ → Conn) (s : Server) (d : Client) → (SameSession c d) → (NumberedSessions d) → CurrentUp c conns → CurrentUp d conns
same_current_up c conns s d same noted i_current_up =
    λ j n x. let old = i_current_up j n x in grind (arith, get-push)

same_current_down : (c : Client) (conns : ℕ → Conn) (s : Server) (d : Client) → (SameSession c d) → (NumberedSessions d) → CurrentDown c conns → CurrentDown d conns
same_current_down c conns s d same noted i_current_down =
    λ j n y. let old = i_current_down j n y in grind (arith, get-push)

same_ranked_up : (c : Client) (conns : ℕ → Conn) (s : Server) (d : Client) → (SameSession c d) → (NumberedSessions d) → RankedUp c conns → RankedUp d conns
same_ranked_up c conns s d same noted i_ranked_up =
    λ j n x. let old = i_ranked_up j n x in grind (arith, get-push)

same_from_client : (c : Client) (conns : ℕ → Conn) (s : Server) (d : Client) → (SameSession c d) → (NumberedSessions d) → FromClient c conns → FromClient d conns
same_from_client c conns s d same noted i_from_client =
    λ j n x. let old = i_from_client j n x in grind (arith, get-push)

same_sequences_up : (c : Client) (conns : ℕ → Conn) (s : Server) (d : Client) → (SameSession c d) → (NumberedSessions d) → SequencesUp c conns → SequencesUp d conns
same_sequences_up c conns s d same noted i_sequences_up =
    λ j n x. let old = i_sequences_up j n x in grind (arith, get-push)

same_logon_up : (c : Client) (conns : ℕ → Conn) (s : Server) (d : Client) → (SameSession c d) → (NumberedSessions d) → LogonUp c conns → LogonUp d conns
same_logon_up c conns s d same noted i_logon_up =
    λ j n x. let old = i_logon_up j n x in grind (arith, get-push)

same_first_up : (c : Client) (conns : ℕ → Conn) (s : Server) (d : Client) → (SameSession c d) → (NumberedSessions d) → FirstUp c conns → FirstUp d conns
same_first_up c conns s d same noted i_first_up =
    λ j n x. let old = i_first_up j n x in grind (arith, get-push)

same_second_up : (c : Client) (conns : ℕ → Conn) (s : Server) (d : Client) → (SameSession c d) → (NumberedSessions d) → SecondUp c conns → SecondUp d conns
same_second_up c conns s d same noted i_second_up =
    λ j n x. let old = i_second_up j n x in grind (arith, get-push)

same_tree_connect_up : (c : Client) (conns : ℕ → Conn) (s : Server) (d : Client) → (SameSession c d) → (NumberedSessions d) → TreeConnectUp c conns → TreeConnectUp d conns
same_tree_connect_up c conns s d same noted i_tree_connect_up =
    λ j n x. let old = i_tree_connect_up j n x in grind (arith, get-push)

same_asked_fresh : (c : Client) (conns : ℕ → Conn) (s : Server) (d : Client) → (SameSession c d) → (NumberedSessions d) → AskedFresh c conns → AskedFresh d conns
same_asked_fresh c conns s d same noted i_asked_fresh =
    λ p j n x. let old = i_asked_fresh p j n x in grind (arith, get-push)

same_present_accepted : (c : Client) (conns : ℕ → Conn) (s : Server) (d : Client) → (SameSession c d) → (NumberedSessions d) → PresentAccepted c s → PresentAccepted d s
same_present_accepted c conns s d same noted i_present_accepted =
    λ p. let old = i_present_accepted p in grind arith

same_ranked_given : (c : Client) (conns : ℕ → Conn) (s : Server) (d : Client) → (SameSession c d) → (NumberedSessions d) → RankedGiven c s → RankedGiven d s
same_ranked_given c conns s d same noted i_ranked_given =
    λ p. let old = i_ranked_given p in grind arith

same_making_unranked : (c : Client) (conns : ℕ → Conn) (s : Server) (d : Client) → (SameSession c d) → (NumberedSessions d) → MakingUnranked c s → MakingUnranked d s
same_making_unranked c conns s d same noted i_making_unranked =
    λ p q. let old = i_making_unranked p q in grind arith

same_session_users : (c : Client) (conns : ℕ → Conn) (s : Server) (d : Client) → (SameSession c d) → (NumberedSessions d) → SessionUsers c s → SessionUsers d s
same_session_users c conns s d same noted i_session_users =
    λ p. let old = i_session_users p in grind arith

same_open_users : (c : Client) (conns : ℕ → Conn) (s : Server) (d : Client) → (SameSession c d) → (NumberedSessions d) → OpenUsers c s → OpenUsers d s
same_open_users c conns s d same noted i_open_users =
    λ p. let old = i_open_users p in grind arith

same_pending_given : (c : Client) (conns : ℕ → Conn) (s : Server) (d : Client) → (SameSession c d) → (NumberedSessions d) → PendingGiven c s → PendingGiven d s
same_pending_given c conns s d same noted i_pending_given =
    λ p. let old = i_pending_given p in grind arith

same_first_reply : (c : Client) (conns : ℕ → Conn) (s : Server) (d : Client) → (SameSession c d) → (NumberedSessions d) → FirstReply c conns s → FirstReply d conns s
same_first_reply c conns s d same noted i_first_reply =
    λ j n y. let old = i_first_reply j n y in grind (arith, get-push)

same_second_reply : (c : Client) (conns : ℕ → Conn) (s : Server) (d : Client) → (SameSession c d) → (NumberedSessions d) → SecondReply c conns s → SecondReply d conns s
same_second_reply c conns s d same noted i_second_reply =
    λ j n y. let old = i_second_reply j n y in grind (arith, get-push)

same_tree_live : (c : Client) (conns : ℕ → Conn) (s : Server) (d : Client) → (SameSession c d) → (NumberedSessions d) → TreeLive c s → TreeLive d s
same_tree_live c conns s d same noted i_tree_live =
    let old = i_tree_live in grind arith

same_tree_reply : (c : Client) (conns : ℕ → Conn) (s : Server) (d : Client) → (SameSession c d) → (NumberedSessions d) → TreeReply c conns s → TreeReply d conns s
same_tree_reply c conns s d same noted i_tree_reply =
    λ j n y. let old = i_tree_reply j n y in grind (arith, get-push)

same_sent_trees : (c : Client) (conns : ℕ → Conn) (s : Server) (d : Client) → (SameSession c d) → (NumberedSessions d) → SentTrees c conns → SentTrees d conns
same_sent_trees c conns s d same noted i_sent_trees =
    λ j n x. let old = i_sent_trees j n x in grind (arith, get-push)

same_asked_new : (c : Client) (conns : ℕ → Conn) (s : Server) (d : Client) → (SameSession c d) → (NumberedSessions d) → AskedNew c → AskedNew d
same_asked_new c conns s d same noted i_asked_new =
    λ p. let old = i_asked_new p in grind arith

same_open_trees : (c : Client) (conns : ℕ → Conn) (s : Server) (d : Client) → (SameSession c d) → (NumberedSessions d) → OpenTrees c s → OpenTrees d s
same_open_trees c conns s d same noted i_open_trees =
    λ p x. let old = i_open_trees p x in grind arith

pub same_keeps : (c : Client) (conns : ℕ → Conn) (s : Server) (d : Client) → (SameSession c d) → (NumberedSessions d) → Sessions c conns s → Sessions d conns s
same_keeps c conns s d same noted i =
    record {
      live_accepted = same_live_accepted c conns s d same noted i.live_accepted;
      session_ranked = same_session_ranked c conns s d same noted i.session_ranked;
      ranks = same_ranks c conns s d same noted i.ranks;
      last_rank = same_last_rank c conns s d same noted i.last_rank;
      rank_once = same_rank_once c conns s d same noted i.rank_once;
      making = same_making c conns s d same noted i.making;
      pending_accepted = same_pending_accepted c conns s d same noted i.pending_accepted;
      pending_unranked = same_pending_unranked c conns s d same noted i.pending_unranked;
      sequence_low = same_sequence_low c conns s d same noted i.sequence_low;
      numbered_sessions = same_numbered_sessions c conns s d same noted;
      current_up = same_current_up c conns s d same noted i.current_up;
      current_down = same_current_down c conns s d same noted i.current_down;
      ranked_up = same_ranked_up c conns s d same noted i.ranked_up;
      from_client = same_from_client c conns s d same noted i.from_client;
      sequences_up = same_sequences_up c conns s d same noted i.sequences_up;
      work_up = i.work_up;
      dialog_up = i.dialog_up;
      logon_up = same_logon_up c conns s d same noted i.logon_up;
      first_up = same_first_up c conns s d same noted i.first_up;
      second_up = same_second_up c conns s d same noted i.second_up;
      tree_connect_up = same_tree_connect_up c conns s d same noted i.tree_connect_up;
      asked_fresh = same_asked_fresh c conns s d same noted i.asked_fresh;
      present_accepted = same_present_accepted c conns s d same noted i.present_accepted;
      ranked_given = same_ranked_given c conns s d same noted i.ranked_given;
      making_unranked = same_making_unranked c conns s d same noted i.making_unranked;
      session_users = same_session_users c conns s d same noted i.session_users;
      open_users = same_open_users c conns s d same noted i.open_users;
      pending_given = same_pending_given c conns s d same noted i.pending_given;
      first_reply = same_first_reply c conns s d same noted i.first_reply;
      second_reply = same_second_reply c conns s d same noted i.second_reply;
      tree_up = i.tree_up;
      tree_live = same_tree_live c conns s d same noted i.tree_live;
      tree_reply = same_tree_reply c conns s d same noted i.tree_reply;
      sent_trees = same_sent_trees c conns s d same noted i.sent_trees;
      asked_new = same_asked_new c conns s d same noted i.asked_new;
      open_trees = same_open_trees c conns s d same noted i.open_trees;
    }
