-- What `Sessions` says stays where lists are sifted, part by part.
use Rattle.std.proofs.Common.{ℕ, arith}
use Rattle.spec_exchange.specs.Table.{put}
use Rattle.spec_exchange.specs.State.{Server}
use Rattle.spec_exchange.specs.Client.{Client}
use Rattle.spec_exchange.specs.Network.{Conn}
use Rattle.law_sessions.specs.sessions.Sessions.{CurrentUp, CurrentDown, RankedUp, FromClient, SequencesUp}
use Rattle.law_sessions.specs.sessions.Sessions.{WorkUp, DialogUp, LogonUp, FirstUp, SecondUp, TreeConnectUp, AskedFresh}
use Rattle.law_sessions.specs.sessions.Sessions.{FirstReply, SecondReply, TreeUp, TreeReply, SentTrees}
use Rattle.law_hostile.specs.sifting.Sifting.{SessionsSift}
use Rattle.law_hostile.proofs.sifting.Lists.{All, all}

sift_current_up : (c : Client) (s : Server) (old new : ℕ → Conn) → All old new → CurrentUp c old → CurrentUp c new
sift_current_up c s old new sifts was =
    λ k n x at. let moved = (sifts k).up n x at in let same = (sifts k).client in let then_ = was k moved.0 x moved.1 in grind arith

sift_current_down : (c : Client) (s : Server) (old new : ℕ → Conn) → All old new → CurrentDown c old → CurrentDown c new
sift_current_down c s old new sifts was =
    λ k n y at. let moved = (sifts k).down n y at in let same = (sifts k).client in let then_ = was k moved.0 y moved.1 in grind arith

sift_ranked_up : (c : Client) (s : Server) (old new : ℕ → Conn) → All old new → RankedUp c old → RankedUp c new
sift_ranked_up c s old new sifts was =
    λ k n x at. let moved = (sifts k).up n x at in was k moved.0 x moved.1

sift_from_client : (c : Client) (s : Server) (old new : ℕ → Conn) → All old new → FromClient c old → FromClient c new
sift_from_client c s old new sifts was =
    λ k n x at. let moved = (sifts k).up n x at in was k moved.0 x moved.1

sift_sequences_up : (c : Client) (s : Server) (old new : ℕ → Conn) → All old new → SequencesUp c old → SequencesUp c new
sift_sequences_up c s old new sifts was =
    λ k n x at. let moved = (sifts k).up n x at in was k moved.0 x moved.1

sift_work_up : (c : Client) (s : Server) (old new : ℕ → Conn) → All old new → WorkUp old → WorkUp new
sift_work_up c s old new sifts was =
    λ k n x at. let moved = (sifts k).up n x at in was k moved.0 x moved.1

sift_dialog_up : (c : Client) (s : Server) (old new : ℕ → Conn) → All old new → DialogUp old → DialogUp new
sift_dialog_up c s old new sifts was =
    λ k n x at. let moved = (sifts k).up n x at in was k moved.0 x moved.1

sift_logon_up : (c : Client) (s : Server) (old new : ℕ → Conn) → All old new → LogonUp c old → LogonUp c new
sift_logon_up c s old new sifts was =
    λ k n x at. let moved = (sifts k).up n x at in was k moved.0 x moved.1

sift_first_up : (c : Client) (s : Server) (old new : ℕ → Conn) → All old new → FirstUp c old → FirstUp c new
sift_first_up c s old new sifts was =
    λ k n x at. let moved = (sifts k).up n x at in let same = (sifts k).client in let then_ = was k moved.0 x moved.1 in grind arith

sift_second_up : (c : Client) (s : Server) (old new : ℕ → Conn) → All old new → SecondUp c old → SecondUp c new
sift_second_up c s old new sifts was =
    λ k n x at. let moved = (sifts k).up n x at in let same = (sifts k).client in let then_ = was k moved.0 x moved.1 in grind arith

sift_tree_connect_up : (c : Client) (s : Server) (old new : ℕ → Conn) → All old new → TreeConnectUp c old → TreeConnectUp c new
sift_tree_connect_up c s old new sifts was =
    λ k n x at. let moved = (sifts k).up n x at in let same = (sifts k).client in let then_ = was k moved.0 x moved.1 in grind arith

sift_asked_fresh : (c : Client) (s : Server) (old new : ℕ → Conn) → All old new → AskedFresh c old → AskedFresh c new
sift_asked_fresh c s old new sifts was =
    λ j k n x before0 at. let moved = (sifts k).up n x at in was j k moved.0 x before0 moved.1

sift_first_reply : (c : Client) (s : Server) (old new : ℕ → Conn) → All old new → FirstReply c old s → FirstReply c new s
sift_first_reply c s old new sifts was =
    λ k n y at. let moved = (sifts k).down n y at in was k moved.0 y moved.1

sift_second_reply : (c : Client) (s : Server) (old new : ℕ → Conn) → All old new → SecondReply c old s → SecondReply c new s
sift_second_reply c s old new sifts was =
    λ k n y at. let moved = (sifts k).down n y at in was k moved.0 y moved.1

sift_tree_up : (c : Client) (s : Server) (old new : ℕ → Conn) → All old new → TreeUp old s → TreeUp new s
sift_tree_up c s old new sifts was =
    λ k n x at. let moved = (sifts k).up n x at in was k moved.0 x moved.1

sift_tree_reply : (c : Client) (s : Server) (old new : ℕ → Conn) → All old new → TreeReply c old s → TreeReply c new s
sift_tree_reply c s old new sifts was =
    λ k n y at. let moved = (sifts k).down n y at in was k moved.0 y moved.1

sift_sent_trees : (c : Client) (s : Server) (old new : ℕ → Conn) → All old new → SentTrees c old → SentTrees c new
sift_sent_trees c s old new sifts was =
    λ k n x at. let moved = (sifts k).up n x at in was k moved.0 x moved.1

pub sessions_sift : SessionsSift
sessions_sift c conns s k d one was =
    let sifts = all conns k d one in
    record {
      live_accepted = was.live_accepted;
      session_ranked = was.session_ranked;
      ranks = was.ranks;
      last_rank = was.last_rank;
      rank_once = was.rank_once;
      making = was.making;
      pending_accepted = was.pending_accepted;
      pending_unranked = was.pending_unranked;
      sequence_low = was.sequence_low;
      numbered_sessions = was.numbered_sessions;
      current_up = sift_current_up c s conns (put conns k d) sifts was.current_up;
      current_down = sift_current_down c s conns (put conns k d) sifts was.current_down;
      ranked_up = sift_ranked_up c s conns (put conns k d) sifts was.ranked_up;
      from_client = sift_from_client c s conns (put conns k d) sifts was.from_client;
      sequences_up = sift_sequences_up c s conns (put conns k d) sifts was.sequences_up;
      work_up = sift_work_up c s conns (put conns k d) sifts was.work_up;
      dialog_up = sift_dialog_up c s conns (put conns k d) sifts was.dialog_up;
      logon_up = sift_logon_up c s conns (put conns k d) sifts was.logon_up;
      first_up = sift_first_up c s conns (put conns k d) sifts was.first_up;
      second_up = sift_second_up c s conns (put conns k d) sifts was.second_up;
      tree_connect_up = sift_tree_connect_up c s conns (put conns k d) sifts was.tree_connect_up;
      asked_fresh = sift_asked_fresh c s conns (put conns k d) sifts was.asked_fresh;
      present_accepted = was.present_accepted;
      ranked_given = was.ranked_given;
      making_unranked = was.making_unranked;
      session_users = was.session_users;
      open_users = was.open_users;
      pending_given = was.pending_given;
      first_reply = sift_first_reply c s conns (put conns k d) sifts was.first_reply;
      second_reply = sift_second_reply c s conns (put conns k d) sifts was.second_reply;
      tree_up = sift_tree_up c s conns (put conns k d) sifts was.tree_up;
      tree_live = was.tree_live;
      tree_reply = sift_tree_reply c s conns (put conns k d) sifts was.tree_reply;
      sent_trees = sift_sent_trees c s conns (put conns k d) sifts was.sent_trees;
      asked_new = was.asked_new;
      open_trees = was.open_trees;
    }
