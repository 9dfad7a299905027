-- Written by tools/law_sessions.py. The server takes a step.
use Rattle.std.proofs.Common.{ℕ, arith}
use Rattle.spec_exchange.specs.State.{Server}
use Rattle.spec_exchange.specs.Client.{Client}
use Rattle.spec_exchange.specs.Network.{Conn}
use Rattle.law_sessions.specs.sessions.Sessions.{Sessions, LiveAccepted, PendingAccepted, RankedUp, PresentAccepted, RankedGiven, MakingUnranked, SessionUsers, OpenUsers, PendingGiven, FirstReply, SecondReply, TreeUp, TreeLive, TreeReply, OpenTrees}
use Rattle.law_sessions.proofs.sessions.Words.{Moves, moved_unmade}

moved_present_accepted : (c : Client) (conns : ℕ → Conn) (s : Server) (t : Server) → (Moves c s t) → PresentAccepted c s → PresentAccepted c t
moved_present_accepted c conns s t moves i_present_accepted =
    λ p. let old = i_present_accepted p in let q = moves.present p in grind arith

moved_ranked_given : (c : Client) (conns : ℕ → Conn) (s : Server) (t : Server) → (Moves c s t) → RankedGiven c s → RankedGiven c t
moved_ranked_given c conns s t moves i_ranked_given =
    λ p. let old = i_ranked_given p in let q = moves.ids in grind arith

moved_making_unranked : (c : Client) (conns : ℕ → Conn) (s : Server) (t : Server) → (Moves c s t) → MakingUnranked c t
moved_making_unranked c conns s t moves =
    moves.unranked

moved_session_users : (c : Client) (conns : ℕ → Conn) (s : Server) (t : Server) → (Moves c s t) → SessionUsers c t
moved_session_users c conns s t moves =
    moves.users

moved_open_users : (c : Client) (conns : ℕ → Conn) (s : Server) (t : Server) → (Moves c s t) → OpenUsers c t
moved_open_users c conns s t moves =
    moves.opens

moved_pending_given : (c : Client) (conns : ℕ → Conn) (s : Server) (t : Server) → (Moves c s t) → PendingGiven c s → PendingGiven c t
moved_pending_given c conns s t moves i_pending_given =
    λ p. let old = i_pending_given p in let q = moves.ids in grind arith

moved_first_reply : (c : Client) (conns : ℕ → Conn) (s : Server) (t : Server) → (Moves c s t) → FirstReply c conns s → FirstReply c conns t
moved_first_reply c conns s t moves i_first_reply =
    λ p n y. let old = i_first_reply p n y in let q = moves.ids in grind arith

moved_second_reply : (c : Client) (conns : ℕ → Conn) (s : Server) (t : Server) → (Moves c s t) → SecondReply c conns s → PendingGiven c s → SecondReply c conns t
moved_second_reply c conns s t moves i_second_reply i_pending_given =
    λ p n y h o st u. let old = i_second_reply p n y h o st u in let g = i_pending_given p st in let q = moves.present c.accepted in (grind arith, λ j. moved_unmade c.pending (s.making j) (t.making j) (moves.making j c.pending g.1) (old.1 j))

moved_tree_up : (c : Client) (conns : ℕ → Conn) (s : Server) (t : Server) → (Moves c s t) → TreeUp conns s → RankedUp c conns → TreeUp conns t
moved_tree_up c conns s t moves i_tree_up i_ranked_up =
    λ j n x h o l. let old = i_tree_up j n x h o in let r = i_ranked_up j n x h o in let q = moves.present x.message.session_id in let tr = moves.trees x.message.session_id x.message.tree_id in grind arith

moved_tree_live : (c : Client) (conns : ℕ → Conn) (s : Server) (t : Server) → (Moves c s t) → TreeLive c s → LiveAccepted c → TreeLive c t
moved_tree_live c conns s t moves i_tree_live i_live_accepted =
    let old = i_tree_live in let l = i_live_accepted in let q = moves.present c.session in let tr = moves.trees c.session c.tree in grind arith

moved_tree_reply : (c : Client) (conns : ℕ → Conn) (s : Server) (t : Server) → (Moves c s t) → TreeReply c conns s → PendingAccepted c → TreeReply c conns t
moved_tree_reply c conns s t moves i_tree_reply i_pending_accepted =
    λ j n y h o st u. let old = i_tree_reply j n y h o st u in let r = i_pending_accepted j st in let q = moves.present c.accepted in let tr = moves.trees c.accepted y.reply.tree_id in grind arith

moved_open_trees : (c : Client) (conns : ℕ → Conn) (s : Server) (t : Server) → (Moves c s t) → OpenTrees c t
moved_open_trees c conns s t moves =
    moves.attached

pub moved_keeps : (c : Client) (conns : ℕ → Conn) (s : Server) (t : Server) → (Moves c s t) → Sessions c conns s → Sessions c conns t
moved_keeps c conns s t moves i =
    record {
      live_accepted = i.live_accepted;
      session_ranked = i.session_ranked;
      ranks = i.ranks;
      last_rank = i.last_rank;
      rank_once = i.rank_once;
      making = i.making;
      pending_accepted = i.pending_accepted;
      pending_unranked = i.pending_unranked;
      sequence_low = i.sequence_low;
      numbered_sessions = i.numbered_sessions;
      current_up = i.current_up;
      current_down = i.current_down;
      ranked_up = i.ranked_up;
      from_client = i.from_client;
      sequences_up = i.sequences_up;
      work_up = i.work_up;
      dialog_up = i.dialog_up;
      logon_up = i.logon_up;
      first_up = i.first_up;
      second_up = i.second_up;
      tree_connect_up = i.tree_connect_up;
      asked_fresh = i.asked_fresh;
      present_accepted = moved_present_accepted c conns s t moves i.present_accepted;
      ranked_given = moved_ranked_given c conns s t moves i.ranked_given;
      making_unranked = moved_making_unranked c conns s t moves;
      session_users = moved_session_users c conns s t moves;
      open_users = moved_open_users c conns s t moves;
      pending_given = moved_pending_given c conns s t moves i.pending_given;
      first_reply = moved_first_reply c conns s t moves i.first_reply;
      second_reply = moved_second_reply c conns s t moves i.second_reply i.pending_given;
      tree_up = moved_tree_up c conns s t moves i.tree_up i.ranked_up;
      tree_live = moved_tree_live c conns s t moves i.tree_live i.live_accepted;
      tree_reply = moved_tree_reply c conns s t moves i.tree_reply i.pending_accepted;
      sent_trees = i.sent_trees;
      asked_new = i.asked_new;
      open_trees = moved_open_trees c conns s t moves;
    }
