-- Written by tools/law_sessions.py. A dialog is told the new session's id.
use Rattle.std.proofs.Common.{◌≡◌, ℕ, ◌≤◌, ◌<◌, false, arith, Some}
use Rattle.spec_exchange.specs.Table.{put}
use Rattle.spec_exchange.specs.State.{Server}
use Rattle.spec_exchange.specs.Opens.{id_of}
use Rattle.spec_exchange.specs.Client.{Client, SaidSecond}
use Rattle.spec_exchange.specs.Network.{Conn}
use Rattle.law_sessions.specs.messages.Connections.{copies}
use Rattle.law_sessions.specs.sessions.Sessions.{Sessions, Making, PendingAccepted, PendingUnranked, FirstUp, SecondUp, TreeConnectUp, AskedFresh, PendingGiven, FirstReply, SecondReply, TreeReply, AskedNew}
use Rattle.law_sessions.proofs.sessions.Words.{no_dialog_up, no_dialog_down}

told_making : (c : Client) (conns : ℕ → Conn) (s : Server) (k id : ℕ) → (c.making ≡ Some k) → (c.rank id ≡ 0) → (0 < id) → (id ≤ id_of s.epoch s.session_ids_given) → Making c → Making (record c { stage = put c.stage k (SaidSecond false); pending = id })
told_making c conns s k id mine unranked above given i_making =
    λ p. let old = i_making p in grind arith

told_pending_accepted : (c : Client) (conns : ℕ → Conn) (s : Server) (k id : ℕ) → (c.making ≡ Some k) → (c.rank id ≡ 0) → (0 < id) → (id ≤ id_of s.epoch s.session_ids_given) → PendingAccepted c → Making c → PendingAccepted (record c { stage = put c.stage k (SaidSecond false); pending = id })
told_pending_accepted c conns s k id mine unranked above given i_pending_accepted i_making =
    λ p. let old = i_pending_accepted p in let m = i_making p in grind arith

told_pending_unranked : (c : Client) (conns : ℕ → Conn) (s : Server) (k id : ℕ) → (c.making ≡ Some k) → (c.rank id ≡ 0) → (0 < id) → (id ≤ id_of s.epoch s.session_ids_given) → PendingUnranked c → Making c → PendingUnranked (record c { stage = put c.stage k (SaidSecond false); pending = id })
told_pending_unranked c conns s k id mine unranked above given i_pending_unranked i_making =
    λ p. let old = i_pending_unranked p in let m = i_making p in grind arith

told_first_up : (c : Client) (conns : ℕ → Conn) (s : Server) (k id : ℕ) → (copies 0 (conns k) ≡ 0) → (c.making ≡ Some k) → (c.rank id ≡ 0) → (0 < id) → (id ≤ id_of s.epoch s.session_ids_given) → FirstUp c conns → FirstUp (record c { stage = put c.stage k (SaidSecond false); pending = id }) conns
told_first_up c conns s k id none mine unranked above given i_first_up =
    λ j n x. let old = i_first_up j n x in let d = no_dialog_up conns k none j n x in grind arith

told_second_up : (c : Client) (conns : ℕ → Conn) (s : Server) (k id : ℕ) → (copies 0 (conns k) ≡ 0) → (c.making ≡ Some k) → (c.rank id ≡ 0) → (0 < id) → (id ≤ id_of s.epoch s.session_ids_given) → SecondUp c conns → Making c → SecondUp (record c { stage = put c.stage k (SaidSecond false); pending = id }) conns
told_second_up c conns s k id none mine unranked above given i_second_up i_making =
    λ j n x. let old = i_second_up j n x in let m = i_making j in let d = no_dialog_up conns k none j n x in grind arith

told_tree_connect_up : (c : Client) (conns : ℕ → Conn) (s : Server) (k id : ℕ) → (copies 0 (conns k) ≡ 0) → (c.making ≡ Some k) → (c.rank id ≡ 0) → (0 < id) → (id ≤ id_of s.epoch s.session_ids_given) → TreeConnectUp c conns → Making c → TreeConnectUp (record c { stage = put c.stage k (SaidSecond false); pending = id }) conns
told_tree_connect_up c conns s k id none mine unranked above given i_tree_connect_up i_making =
    λ j n x. let old = i_tree_connect_up j n x in let m = i_making j in let d = no_dialog_up conns k none j n x in grind arith

told_asked_fresh : (c : Client) (conns : ℕ → Conn) (s : Server) (k id : ℕ) → (c.making ≡ Some k) → (c.rank id ≡ 0) → (0 < id) → (id ≤ id_of s.epoch s.session_ids_given) → Making c → AskedFresh (record c { stage = put c.stage k (SaidSecond false); pending = id }) conns
told_asked_fresh c conns s k id mine unranked above given i_making =
    λ p j n x a. let m = i_making p in grind arith

told_pending_given : (c : Client) (conns : ℕ → Conn) (s : Server) (k id : ℕ) → (c.making ≡ Some k) → (c.rank id ≡ 0) → (0 < id) → (id ≤ id_of s.epoch s.session_ids_given) → PendingGiven c s → Making c → PendingGiven (record c { stage = put c.stage k (SaidSecond false); pending = id }) s
told_pending_given c conns s k id mine unranked above given i_pending_given i_making =
    λ p. let old = i_pending_given p in let m = i_making p in grind arith

told_first_reply : (c : Client) (conns : ℕ → Conn) (s : Server) (k id : ℕ) → (copies 0 (conns k) ≡ 0) → (c.making ≡ Some k) → (c.rank id ≡ 0) → (0 < id) → (id ≤ id_of s.epoch s.session_ids_given) → FirstReply c conns s → Making c → FirstReply (record c { stage = put c.stage k (SaidSecond false); pending = id }) conns s
told_first_reply c conns s k id none mine unranked above given i_first_reply i_making =
    λ j n y. let old = i_first_reply j n y in let m = i_making j in let d = no_dialog_down conns k none j n y in grind arith

told_second_reply : (c : Client) (conns : ℕ → Conn) (s : Server) (k id : ℕ) → (copies 0 (conns k) ≡ 0) → (c.making ≡ Some k) → (c.rank id ≡ 0) → (0 < id) → (id ≤ id_of s.epoch s.session_ids_given) → SecondReply c conns s → Making c → SecondReply (record c { stage = put c.stage k (SaidSecond false); pending = id }) conns s
told_second_reply c conns s k id none mine unranked above given i_second_reply i_making =
    λ j n y. let old = i_second_reply j n y in let m = i_making j in let d = no_dialog_down conns k none j n y in grind arith

told_tree_reply : (c : Client) (conns : ℕ → Conn) (s : Server) (k id : ℕ) → (copies 0 (conns k) ≡ 0) → (c.making ≡ Some k) → (c.rank id ≡ 0) → (0 < id) → (id ≤ id_of s.epoch s.session_ids_given) → TreeReply c conns s → Making c → TreeReply (record c { stage = put c.stage k (SaidSecond false); pending = id }) conns s
told_tree_reply c conns s k id none mine unranked above given i_tree_reply i_making =
    λ j n y. let old = i_tree_reply j n y in let m = i_making j in let d = no_dialog_down conns k none j n y in grind arith

told_asked_new : (c : Client) (conns : ℕ → Conn) (s : Server) (k id : ℕ) → (c.making ≡ Some k) → (c.rank id ≡ 0) → (0 < id) → (id ≤ id_of s.epoch s.session_ids_given) → AskedNew c → Making c → AskedNew (record c { stage = put c.stage k (SaidSecond false); pending = id })
told_asked_new c conns s k id mine unranked above given i_asked_new i_making =
    λ p. let old = i_asked_new p in let m = i_making p in grind arith

pub told_keeps : (c : Client) (conns : ℕ → Conn) (s : Server) (k id : ℕ) → (copies 0 (conns k) ≡ 0) → (c.making ≡ Some k) → (c.rank id ≡ 0) → (0 < id) → (id ≤ id_of s.epoch s.session_ids_given) → Sessions c conns s → Sessions (record c { stage = put c.stage k (SaidSecond false); pending = id }) conns s
told_keeps c conns s k id none mine unranked above given i =
    record {
      live_accepted = i.live_accepted;
      session_ranked = i.session_ranked;
      ranks = i.ranks;
      last_rank = i.last_rank;
      rank_once = i.rank_once;
      making = told_making c conns s k id mine unranked above given i.making;
      pending_accepted = told_pending_accepted c conns s k id mine unranked above given i.pending_accepted i.making;
      pending_unranked = told_pending_unranked c conns s k id mine unranked above given i.pending_unranked i.making;
      sequence_low = i.sequence_low;
      numbered_sessions = i.numbered_sessions;
      current_up = i.current_up;
      current_down = i.current_down;
      ranked_up = i.ranked_up;
      from_client = i.from_client;
      sequences_up = i.sequences_up;
      work_up = i.work_up;
      dialog_up = i.dialog_up;
      logon_up = i.logon_up;
      first_up = told_first_up c conns s k id none mine unranked above given i.first_up;
      second_up = told_second_up c conns s k id none mine unranked above given i.second_up i.making;
      tree_connect_up = told_tree_connect_up c conns s k id none mine unranked above given i.tree_connect_up i.making;
      asked_fresh = told_asked_fresh c conns s k id mine unranked above given i.making;
      present_accepted = i.present_accepted;
      ranked_given = i.ranked_given;
      making_unranked = i.making_unranked;
      session_users = i.session_users;
      open_users = i.open_users;
      pending_given = told_pending_given c conns s k id mine unranked above given i.pending_given i.making;
      first_reply = told_first_reply c conns s k id none mine unranked above given i.first_reply i.making;
      second_reply = told_second_reply c conns s k id none mine unranked above given i.second_reply i.making;
      tree_up = i.tree_up;
      tree_live = i.tree_live;
      tree_reply = told_tree_reply c conns s k id none mine unranked above given i.tree_reply i.making;
      sent_trees = i.sent_trees;
      asked_new = told_asked_new c conns s k id mine unranked above given i.asked_new i.making;
      open_trees = i.open_trees;
    }
