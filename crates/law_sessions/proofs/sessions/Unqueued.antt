-- Written by tools/law_sessions.py. The server takes the front.
use Rattle.std.proofs.Common.{◌≡◌, ℕ, List, ◌∷◌, arith}
use Rattle.spec_exchange.specs.Table.{put}
use Rattle.spec_exchange.specs.State.{Server}
use Rattle.spec_exchange.specs.Client.{Client}
use Rattle.spec_exchange.specs.Network.{Conn, Sent, behind_front}
use Rattle.law_sessions.proofs.messages.Lists.{get-push, waited}
use Rattle.law_sessions.specs.sessions.Sessions.{Sessions, CurrentUp, CurrentDown, RankedUp, FromClient, SequencesUp, WorkUp, DialogUp, LogonUp, FirstUp, SecondUp, TreeConnectUp, AskedFresh, FirstReply, SecondReply, TreeUp, TreeReply, SentTrees}

unqueued_current_up : (c : Client) (conns : ℕ → Conn) (s : Server) (k : ℕ) (x0 : Sent) (rest : List Sent) → ((conns k).up ≡ x0 ∷ rest) → CurrentUp c conns → CurrentUp c (put conns k (behind_front (conns k) rest))
unqueued_current_up c conns s k x0 rest is i_current_up =
    λ j n x h. let o = waited conns k x0 rest j n x is h in let old = i_current_up j o.0 x o.1 in grind arith

unqueued_current_down : (c : Client) (conns : ℕ → Conn) (s : Server) (k : ℕ) (x0 : Sent) (rest : List Sent) → ((conns k).up ≡ x0 ∷ rest) → CurrentDown c conns → CurrentDown c (put conns k (behind_front (conns k) rest))
unqueued_current_down c conns s k x0 rest is i_current_down =
    λ j n y. let old = i_current_down j n y in grind (arith, get-push)

unqueued_ranked_up : (c : Client) (conns : ℕ → Conn) (s : Server) (k : ℕ) (x0 : Sent) (rest : List Sent) → ((conns k).up ≡ x0 ∷ rest) → RankedUp c conns → RankedUp c (put conns k (behind_front (conns k) rest))
unqueued_ranked_up c conns s k x0 rest is i_ranked_up =
    λ j n x h. let o = waited conns k x0 rest j n x is h in let old = i_ranked_up j o.0 x o.1 in grind arith

unqueued_from_client : (c : Client) (conns : ℕ → Conn) (s : Server) (k : ℕ) (x0 : Sent) (rest : List Sent) → ((conns k).up ≡ x0 ∷ rest) → FromClient c conns → FromClient c (put conns k (behind_front (conns k) rest))
unqueued_from_client c conns s k x0 rest is i_from_client =
    λ j n x h. let o = waited conns k x0 rest j n x is h in let old = i_from_client j o.0 x o.1 in grind arith

unqueued_sequences_up : (c : Client) (conns : ℕ → Conn) (s : Server) (k : ℕ) (x0 : Sent) (rest : List Sent) → ((conns k).up ≡ x0 ∷ rest) → SequencesUp c conns → SequencesUp c (put conns k (behind_front (conns k) rest))
unqueued_sequences_up c conns s k x0 rest is i_sequences_up =
    λ j n x h. let o = waited conns k x0 rest j n x is h in let old = i_sequences_up j o.0 x o.1 in grind arith

unqueued_work_up : (c : Client) (conns : ℕ → Conn) (s : Server) (k : ℕ) (x0 : Sent) (rest : List Sent) → ((conns k).up ≡ x0 ∷ rest) → WorkUp conns → WorkUp (put conns k (behind_front (conns k) rest))
unqueued_work_up c conns s k x0 rest is i_work_up =
    λ j n x h. let o = waited conns k x0 rest j n x is h in let old = i_work_up j o.0 x o.1 in grind arith

unqueued_dialog_up : (c : Client) (conns : ℕ → Conn) (s : Server) (k : ℕ) (x0 : Sent) (rest : List Sent) → ((conns k).up ≡ x0 ∷ rest) → DialogUp conns → DialogUp (put conns k (behind_front (conns k) rest))
unqueued_dialog_up c conns s k x0 rest is i_dialog_up =
    λ j n x h. let o = waited conns k x0 rest j n x is h in let old = i_dialog_up j o.0 x o.1 in grind arith

unqueued_logon_up : (c : Client) (conns : ℕ → Conn) (s : Server) (k : ℕ) (x0 : Sent) (rest : List Sent) → ((conns k).up ≡ x0 ∷ rest) → LogonUp c conns → LogonUp c (put conns k (behind_front (conns k) rest))
unqueued_logon_up c conns s k x0 rest is i_logon_up =
    λ j n x h. let o = waited conns k x0 rest j n x is h in let old = i_logon_up j o.0 x o.1 in grind arith

unqueued_first_up : (c : Client) (conns : ℕ → Conn) (s : Server) (k : ℕ) (x0 : Sent) (rest : List Sent) → ((conns k).up ≡ x0 ∷ rest) → FirstUp c conns → FirstUp c (put conns k (behind_front (conns k) rest))
unqueued_first_up c conns s k x0 rest is i_first_up =
    λ j n x h. let o = waited conns k x0 rest j n x is h in let old = i_first_up j o.0 x o.1 in grind arith

unqueued_second_up : (c : Client) (conns : ℕ → Conn) (s : Server) (k : ℕ) (x0 : Sent) (rest : List Sent) → ((conns k).up ≡ x0 ∷ rest) → SecondUp c conns → SecondUp c (put conns k (behind_front (conns k) rest))
unqueued_second_up c conns s k x0 rest is i_second_up =
    λ j n x h. let o = waited conns k x0 rest j n x is h in let old = i_second_up j o.0 x o.1 in grind arith

unqueued_tree_connect_up : (c : Client) (conns : ℕ → Conn) (s : Server) (k : ℕ) (x0 : Sent) (rest : List Sent) → ((conns k).up ≡ x0 ∷ rest) → TreeConnectUp c conns → TreeConnectUp c (put conns k (behind_front (conns k) rest))
unqueued_tree_connect_up c conns s k x0 rest is i_tree_connect_up =
    λ j n x h. let o = waited conns k x0 rest j n x is h in let old = i_tree_connect_up j o.0 x o.1 in grind arith

unqueued_asked_fresh : (c : Client) (conns : ℕ → Conn) (s : Server) (k : ℕ) (x0 : Sent) (rest : List Sent) → ((conns k).up ≡ x0 ∷ rest) → AskedFresh c conns → AskedFresh c (put conns k (behind_front (conns k) rest))
unqueued_asked_fresh c conns s k x0 rest is i_asked_fresh =
    λ p j n x a h. let o = waited conns k x0 rest j n x is h in i_asked_fresh p j o.0 x a o.1

unqueued_first_reply : (c : Client) (conns : ℕ → Conn) (s : Server) (k : ℕ) (x0 : Sent) (rest : List Sent) → ((conns k).up ≡ x0 ∷ rest) → FirstReply c conns s → FirstReply c (put conns k (behind_front (conns k) rest)) s
unqueued_first_reply c conns s k x0 rest is i_first_reply =
    λ j n y. let old = i_first_reply j n y in grind (arith, get-push)

unqueued_second_reply : (c : Client) (conns : ℕ → Conn) (s : Server) (k : ℕ) (x0 : Sent) (rest : List Sent) → ((conns k).up ≡ x0 ∷ rest) → SecondReply c conns s → SecondReply c (put conns k (behind_front (conns k) rest)) s
unqueued_second_reply c conns s k x0 rest is i_second_reply =
    λ j n y. let old = i_second_reply j n y in grind (arith, get-push)

unqueued_tree_up : (c : Client) (conns : ℕ → Conn) (s : Server) (k : ℕ) (x0 : Sent) (rest : List Sent) → ((conns k).up ≡ x0 ∷ rest) → TreeUp conns s → TreeUp (put conns k (behind_front (conns k) rest)) s
unqueued_tree_up c conns s k x0 rest is i_tree_up =
    λ j n x h. let o = waited conns k x0 rest j n x is h in let old = i_tree_up j o.0 x o.1 in grind arith

unqueued_tree_reply : (c : Client) (conns : ℕ → Conn) (s : Server) (k : ℕ) (x0 : Sent) (rest : List Sent) → ((conns k).up ≡ x0 ∷ rest) → TreeReply c conns s → TreeReply c (put conns k (behind_front (conns k) rest)) s
unqueued_tree_reply c conns s k x0 rest is i_tree_reply =
    λ j n y. let old = i_tree_reply j n y in grind (arith, get-push)

unqueued_sent_trees : (c : Client) (conns : ℕ → Conn) (s : Server) (k : ℕ) (x0 : Sent) (rest : List Sent) → ((conns k).up ≡ x0 ∷ rest) → SentTrees c conns → SentTrees c (put conns k (behind_front (conns k) rest))
unqueued_sent_trees c conns s k x0 rest is i_sent_trees =
    λ j n x h. let o = waited conns k x0 rest j n x is h in let old = i_sent_trees j o.0 x o.1 in grind arith

pub unqueued_keeps : (c : Client) (conns : ℕ → Conn) (s : Server) (k : ℕ) (x0 : Sent) (rest : List Sent) → ((conns k).up ≡ x0 ∷ rest) → Sessions c conns s → Sessions c (put conns k (behind_front (conns k) rest)) s
unqueued_keeps c conns s k x0 rest is i =
    record {
      live_accepted = i.live_accepted;
      session_ranked = i.session_ranked;
      ranks = i.ranks;
      last_rank = i.last_rank;
      rank_once = i.rank_once;
      making = i.making;
      pending_accepted = i.pending_accepted;
      pending_unranked = i.pending_unranked;
      sequence_low = i.sequence_low;
      numbered_sessions = i.numbered_sessions;
      current_up = unqueued_current_up c conns s k x0 rest is i.current_up;
      current_down = unqueued_current_down c conns s k x0 rest is i.current_down;
      ranked_up = unqueued_ranked_up c conns s k x0 rest is i.ranked_up;
      from_client = unqueued_from_client c conns s k x0 rest is i.from_client;
      sequences_up = unqueued_sequences_up c conns s k x0 rest is i.sequences_up;
      work_up = unqueued_work_up c conns s k x0 rest is i.work_up;
      dialog_up = unqueued_dialog_up c conns s k x0 rest is i.dialog_up;
      logon_up = unqueued_logon_up c conns s k x0 rest is i.logon_up;
      first_up = unqueued_first_up c conns s k x0 rest is i.first_up;
      second_up = unqueued_second_up c conns s k x0 rest is i.second_up;
      tree_connect_up = unqueued_tree_connect_up c conns s k x0 rest is i.tree_connect_up;
      asked_fresh = unqueued_asked_fresh c conns s k x0 rest is i.asked_fresh;
      present_accepted = i.present_accepted;
      ranked_given = i.ranked_given;
      making_unranked = i.making_unranked;
      session_users = i.session_users;
      open_users = i.open_users;
      pending_given = i.pending_given;
      first_reply = unqueued_first_reply c conns s k x0 rest is i.first_reply;
      second_reply = unqueued_second_reply c conns s k x0 rest is i.second_reply;
      tree_up = unqueued_tree_up c conns s k x0 rest is i.tree_up;
      tree_live = i.tree_live;
      tree_reply = unqueued_tree_reply c conns s k x0 rest is i.tree_reply;
      sent_trees = unqueued_sent_trees c conns s k x0 rest is i.sent_trees;
      asked_new = i.asked_new;
      open_trees = i.open_trees;
    }
