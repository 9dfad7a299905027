-- Written by tools/law_sessions.py. A reply leaves its connection.
use Rattle.std.proofs.Common.{◌≡◌, ℕ, List, ◌∷◌, arith}
use Rattle.spec_exchange.specs.Table.{put}
use Rattle.spec_exchange.specs.State.{Server}
use Rattle.spec_exchange.specs.Client.{Client}
use Rattle.spec_exchange.specs.Network.{Conn, Received, take_front}
use Rattle.law_sessions.proofs.messages.Lists.{get-push, waited_down}
use Rattle.law_sessions.specs.sessions.Sessions.{Sessions, CurrentUp, CurrentDown, RankedUp, FromClient, SequencesUp, WorkUp, DialogUp, LogonUp, FirstUp, SecondUp, TreeConnectUp, AskedFresh, FirstReply, SecondReply, TreeUp, TreeReply, SentTrees}

behind_current_up : (c : Client) (conns : ℕ → Conn) (s : Server) (k : ℕ) (y0 : Received) (rest : List Received) → ((conns k).down ≡ y0 ∷ rest) → CurrentUp c conns → CurrentUp c (put conns k (take_front (conns k) rest))
behind_current_up c conns s k y0 rest is i_current_up =
    λ j n x. let old = i_current_up j n x in grind (arith, get-push)

behind_current_down : (c : Client) (conns : ℕ → Conn) (s : Server) (k : ℕ) (y0 : Received) (rest : List Received) → ((conns k).down ≡ y0 ∷ rest) → CurrentDown c conns → CurrentDown c (put conns k (take_front (conns k) rest))
behind_current_down c conns s k y0 rest is i_current_down =
    λ j n y h. let o = waited_down conns k y0 rest j n y is h in let old = i_current_down j o.0 y o.1 in grind arith

behind_ranked_up : (c : Client) (conns : ℕ → Conn) (s : Server) (k : ℕ) (y0 : Received) (rest : List Received) → ((conns k).down ≡ y0 ∷ rest) → RankedUp c conns → RankedUp c (put conns k (take_front (conns k) rest))
behind_ranked_up c conns s k y0 rest is i_ranked_up =
    λ j n x. let old = i_ranked_up j n x in grind (arith, get-push)

behind_from_client : (c : Client) (conns : ℕ → Conn) (s : Server) (k : ℕ) (y0 : Received) (rest : List Received) → ((conns k).down ≡ y0 ∷ rest) → FromClient c conns → FromClient c (put conns k (take_front (conns k) rest))
behind_from_client c conns s k y0 rest is i_from_client =
    λ j n x. let old = i_from_client j n x in grind (arith, get-push)

behind_sequences_up : (c : Client) (conns : ℕ → Conn) (s : Server) (k : ℕ) (y0 : Received) (rest : List Received) → ((conns k).down ≡ y0 ∷ rest) → SequencesUp c conns → SequencesUp c (put conns k (take_front (conns k) rest))
behind_sequences_up c conns s k y0 rest is i_sequences_up =
    λ j n x. let old = i_sequences_up j n x in grind (arith, get-push)

behind_work_up : (c : Client) (conns : ℕ → Conn) (s : Server) (k : ℕ) (y0 : Received) (rest : List Received) → ((conns k).down ≡ y0 ∷ rest) → WorkUp conns → WorkUp (put conns k (take_front (conns k) rest))
behind_work_up c conns s k y0 rest is i_work_up =
    λ j n x. let old = i_work_up j n x in grind (arith, get-push)

behind_dialog_up : (c : Client) (conns : ℕ → Conn) (s : Server) (k : ℕ) (y0 : Received) (rest : List Received) → ((conns k).down ≡ y0 ∷ rest) → DialogUp conns → DialogUp (put conns k (take_front (conns k) rest))
behind_dialog_up c conns s k y0 rest is i_dialog_up =
    λ j n x. let old = i_dialog_up j n x in grind (arith, get-push)

behind_logon_up : (c : Client) (conns : ℕ → Conn) (s : Server) (k : ℕ) (y0 : Received) (rest : List Received) → ((conns k).down ≡ y0 ∷ rest) → LogonUp c conns → LogonUp c (put conns k (take_front (conns k) rest))
behind_logon_up c conns s k y0 rest is i_logon_up =
    λ j n x. let old = i_logon_up j n x in grind (arith, get-push)

behind_first_up : (c : Client) (conns : ℕ → Conn) (s : Server) (k : ℕ) (y0 : Received) (rest : List Received) → ((conns k).down ≡ y0 ∷ rest) → FirstUp c conns → FirstUp c (put conns k (take_front (conns k) rest))
behind_first_up c conns s k y0 rest is i_first_up =
    λ j n x. let old = i_first_up j n x in grind (arith, get-push)

behind_second_up : (c : Client) (conns : ℕ → Conn) (s : Server) (k : ℕ) (y0 : Received) (rest : List Received) → ((conns k).down ≡ y0 ∷ rest) → SecondUp c conns → SecondUp c (put conns k (take_front (conns k) rest))
behind_second_up c conns s k y0 rest is i_second_up =
    λ j n x. let old = i_second_up j n x in grind (arith, get-push)

behind_tree_connect_up : (c : Client) (conns : ℕ → Conn) (s : Server) (k : ℕ) (y0 : Received) (rest : List Received) → ((conns k).down ≡ y0 ∷ rest) → TreeConnectUp c conns → TreeConnectUp c (put conns k (take_front (conns k) rest))
behind_tree_connect_up c conns s k y0 rest is i_tree_connect_up =
    λ j n x. let old = i_tree_connect_up j n x in grind (arith, get-push)

behind_asked_fresh : (c : Client) (conns : ℕ → Conn) (s : Server) (k : ℕ) (y0 : Received) (rest : List Received) → ((conns k).down ≡ y0 ∷ rest) → AskedFresh c conns → AskedFresh c (put conns k (take_front (conns k) rest))
behind_asked_fresh c conns s k y0 rest is i_asked_fresh =
    λ p j n x. let old = i_asked_fresh p j n x in grind (arith, get-push)

behind_first_reply : (c : Client) (conns : ℕ → Conn) (s : Server) (k : ℕ) (y0 : Received) (rest : List Received) → ((conns k).down ≡ y0 ∷ rest) → FirstReply c conns s → FirstReply c (put conns k (take_front (conns k) rest)) s
behind_first_reply c conns s k y0 rest is i_first_reply =
    λ j n y h. let o = waited_down conns k y0 rest j n y is h in let old = i_first_reply j o.0 y o.1 in grind arith

behind_second_reply : (c : Client) (conns : ℕ → Conn) (s : Server) (k : ℕ) (y0 : Received) (rest : List Received) → ((conns k).down ≡ y0 ∷ rest) → SecondReply c conns s → SecondReply c (put conns k (take_front (conns k) rest)) s
behind_second_reply c conns s k y0 rest is i_second_reply =
    λ j n y h. let o = waited_down conns k y0 rest j n y is h in let old = i_second_reply j o.0 y o.1 in grind arith

behind_tree_up : (c : Client) (conns : ℕ → Conn) (s : Server) (k : ℕ) (y0 : Received) (rest : List Received) → ((conns k).down ≡ y0 ∷ rest) → TreeUp conns s → TreeUp (put conns k (take_front (conns k) rest)) s
behind_tree_up c conns s k y0 rest is i_tree_up =
    λ j n x. let old = i_tree_up j n x in grind (arith, get-push)

behind_tree_reply : (c : Client) (conns : ℕ → Conn) (s : Server) (k : ℕ) (y0 : Received) (rest : List Received) → ((conns k).down ≡ y0 ∷ rest) → TreeReply c conns s → TreeReply c (put conns k (take_front (conns k) rest)) s
behind_tree_reply c conns s k y0 rest is i_tree_reply =
    λ j n y h. let o = waited_down conns k y0 rest j n y is h in let old = i_tree_reply j o.0 y o.1 in grind arith

behind_sent_trees : (c : Client) (conns : ℕ → Conn) (s : Server) (k : ℕ) (y0 : Received) (rest : List Received) → ((conns k).down ≡ y0 ∷ rest) → SentTrees c conns → SentTrees c (put conns k (take_front (conns k) rest))
behind_sent_trees c conns s k y0 rest is i_sent_trees =
    λ j n x. let old = i_sent_trees j n x in grind (arith, get-push)

pub behind_keeps : (c : Client) (conns : ℕ → Conn) (s : Server) (k : ℕ) (y0 : Received) (rest : List Received) → ((conns k).down ≡ y0 ∷ rest) → Sessions c conns s → Sessions c (put conns k (take_front (conns k) rest)) s
behind_keeps c conns s k y0 rest is i =
    record {
      live_accepted = i.live_accepted;
      session_ranked = i.session_ranked;
      ranks = i.ranks;
      last_rank = i.last_rank;
      rank_once = i.rank_once;
      making = i.making;
      pending_accepted = i.pending_accepted;
      pending_unranked = i.pending_unranked;
      sequence_low = i.sequence_low;
      numbered_sessions = i.numbered_sessions;
      current_up = behind_current_up c conns s k y0 rest is i.current_up;
      current_down = behind_current_down c conns s k y0 rest is i.current_down;
      ranked_up = behind_ranked_up c conns s k y0 rest is i.ranked_up;
      from_client = behind_from_client c conns s k y0 rest is i.from_client;
      sequences_up = behind_sequences_up c conns s k y0 rest is i.sequences_up;
      work_up = behind_work_up c conns s k y0 rest is i.work_up;
      dialog_up = behind_dialog_up c conns s k y0 rest is i.dialog_up;
      logon_up = behind_logon_up c conns s k y0 rest is i.logon_up;
      first_up = behind_first_up c conns s k y0 rest is i.first_up;
      second_up = behind_second_up c conns s k y0 rest is i.second_up;
      tree_connect_up = behind_tree_connect_up c conns s k y0 rest is i.tree_connect_up;
      asked_fresh = behind_asked_fresh c conns s k y0 rest is i.asked_fresh;
      present_accepted = i.present_accepted;
      ranked_given = i.ranked_given;
      making_unranked = i.making_unranked;
      session_users = i.session_users;
      open_users = i.open_users;
      pending_given = i.pending_given;
      first_reply = behind_first_reply c conns s k y0 rest is i.first_reply;
      second_reply = behind_second_reply c conns s k y0 rest is i.second_reply;
      tree_up = behind_tree_up c conns s k y0 rest is i.tree_up;
      tree_live = i.tree_live;
      tree_reply = behind_tree_reply c conns s k y0 rest is i.tree_reply;
      sent_trees = behind_sent_trees c conns s k y0 rest is i.sent_trees;
      asked_new = i.asked_new;
      open_trees = i.open_trees;
    }
