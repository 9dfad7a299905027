-- Written by tools/law_sessions.py. A dialog goes on.
use Rattle.std.proofs.Common.{◌≡◌, ◌≢◌, ℕ, true, false, arith, Some}
use Rattle.spec_exchange.specs.Table.{put}
use Rattle.spec_exchange.specs.State.{Server}
use Rattle.spec_exchange.specs.Client.{Client, Stage, SaidSecond, AskedTree}
use Rattle.spec_exchange.specs.Network.{Conn}
use Rattle.law_sessions.specs.messages.Connections.{copies}
use Rattle.law_sessions.proofs.messages.Lists.{get-push}
use Rattle.law_sessions.specs.sessions.Sessions.{Sessions, makes_session, Making, PendingAccepted, PendingUnranked, FirstUp, SecondUp, TreeConnectUp, AskedFresh, PendingGiven, FirstReply, SecondReply, TreeReply, AskedNew}
use Rattle.law_sessions.proofs.sessions.Words.{no_dialog_up, no_dialog_down}

went_on_making : (c : Client) (conns : ℕ → Conn) (s : Server) (k : ℕ) (stage : Stage) → (makes_session stage ≡ true → c.making ≡ Some k) → (stage ≢ SaidSecond false) → (stage ≢ AskedTree) → Making c → Making (record c { stage = put c.stage k stage })
went_on_making c conns s k stage from untold unasked i_making =
    λ p. let old = i_making p in let f = from in grind arith

went_on_pending_accepted : (c : Client) (conns : ℕ → Conn) (s : Server) (k : ℕ) (stage : Stage) → (stage ≢ SaidSecond false) → (stage ≢ AskedTree) → PendingAccepted c → PendingAccepted (record c { stage = put c.stage k stage })
went_on_pending_accepted c conns s k stage untold unasked i_pending_accepted =
    λ p. let old = i_pending_accepted p in grind arith

went_on_pending_unranked : (c : Client) (conns : ℕ → Conn) (s : Server) (k : ℕ) (stage : Stage) → (stage ≢ SaidSecond false) → (stage ≢ AskedTree) → PendingUnranked c → PendingUnranked (record c { stage = put c.stage k stage })
went_on_pending_unranked c conns s k stage untold unasked i_pending_unranked =
    λ p. let old = i_pending_unranked p in grind arith

went_on_first_up : (c : Client) (conns : ℕ → Conn) (s : Server) (k : ℕ) (stage : Stage) → (copies 0 (conns k) ≡ 0) → (stage ≢ SaidSecond false) → (stage ≢ AskedTree) → FirstUp c conns → FirstUp (record c { stage = put c.stage k stage }) conns
went_on_first_up c conns s k stage none untold unasked i_first_up =
    λ j n x. let old = i_first_up j n x in let d = no_dialog_up conns k none j n x in grind arith

went_on_second_up : (c : Client) (conns : ℕ → Conn) (s : Server) (k : ℕ) (stage : Stage) → (copies 0 (conns k) ≡ 0) → (stage ≢ SaidSecond false) → (stage ≢ AskedTree) → SecondUp c conns → Making c → SecondUp (record c { stage = put c.stage k stage }) conns
went_on_second_up c conns s k stage none untold unasked i_second_up i_making =
    λ j n x. let old = i_second_up j n x in let m = i_making j in let d = no_dialog_up conns k none j n x in grind arith

went_on_tree_connect_up : (c : Client) (conns : ℕ → Conn) (s : Server) (k : ℕ) (stage : Stage) → (copies 0 (conns k) ≡ 0) → (stage ≢ SaidSecond false) → (stage ≢ AskedTree) → TreeConnectUp c conns → Making c → TreeConnectUp (record c { stage = put c.stage k stage }) conns
went_on_tree_connect_up c conns s k stage none untold unasked i_tree_connect_up i_making =
    λ j n x. let old = i_tree_connect_up j n x in let m = i_making j in let d = no_dialog_up conns k none j n x in grind arith

went_on_asked_fresh : (c : Client) (conns : ℕ → Conn) (s : Server) (k : ℕ) (stage : Stage) → (stage ≢ SaidSecond false) → (stage ≢ AskedTree) → AskedFresh c conns → AskedFresh (record c { stage = put c.stage k stage }) conns
went_on_asked_fresh c conns s k stage untold unasked i_asked_fresh =
    λ p j n x. let old = i_asked_fresh p j n x in grind (arith, get-push)

went_on_pending_given : (c : Client) (conns : ℕ → Conn) (s : Server) (k : ℕ) (stage : Stage) → (stage ≢ SaidSecond false) → (stage ≢ AskedTree) → PendingGiven c s → PendingGiven (record c { stage = put c.stage k stage }) s
went_on_pending_given c conns s k stage untold unasked i_pending_given =
    λ p. let old = i_pending_given p in grind arith

went_on_first_reply : (c : Client) (conns : ℕ → Conn) (s : Server) (k : ℕ) (stage : Stage) → (copies 0 (conns k) ≡ 0) → (stage ≢ SaidSecond false) → (stage ≢ AskedTree) → FirstReply c conns s → Making c → FirstReply (record c { stage = put c.stage k stage }) conns s
went_on_first_reply c conns s k stage none untold unasked i_first_reply i_making =
    λ j n y. let old = i_first_reply j n y in let m = i_making j in let d = no_dialog_down conns k none j n y in grind arith

went_on_second_reply : (c : Client) (conns : ℕ → Conn) (s : Server) (k : ℕ) (stage : Stage) → (copies 0 (conns k) ≡ 0) → (stage ≢ SaidSecond false) → (stage ≢ AskedTree) → SecondReply c conns s → Making c → SecondReply (record c { stage = put c.stage k stage }) conns s
went_on_second_reply c conns s k stage none untold unasked i_second_reply i_making =
    λ j n y. let old = i_second_reply j n y in let m = i_making j in let d = no_dialog_down conns k none j n y in grind arith

went_on_tree_reply : (c : Client) (conns : ℕ → Conn) (s : Server) (k : ℕ) (stage : Stage) → (copies 0 (conns k) ≡ 0) → (stage ≢ SaidSecond false) → (stage ≢ AskedTree) → TreeReply c conns s → Making c → TreeReply (record c { stage = put c.stage k stage }) conns s
went_on_tree_reply c conns s k stage none untold unasked i_tree_reply i_making =
    λ j n y. let old = i_tree_reply j n y in let m = i_making j in let d = no_dialog_down conns k none j n y in grind arith

went_on_asked_new : (c : Client) (conns : ℕ → Conn) (s : Server) (k : ℕ) (stage : Stage) → (stage ≢ SaidSecond false) → (stage ≢ AskedTree) → AskedNew c → AskedNew (record c { stage = put c.stage k stage })
went_on_asked_new c conns s k stage untold unasked i_asked_new =
    λ p. let old = i_asked_new p in grind arith

pub went_on_keeps : (c : Client) (conns : ℕ → Conn) (s : Server) (k : ℕ) (stage : Stage) → (copies 0 (conns k) ≡ 0) → (makes_session stage ≡ true → c.making ≡ Some k) → (stage ≢ SaidSecond false) → (stage ≢ AskedTree) → Sessions c conns s → Sessions (record c { stage = put c.stage k stage }) conns s
went_on_keeps c conns s k stage none from untold unasked i =
    record {
      live_accepted = i.live_accepted;
      session_ranked = i.session_ranked;
      ranks = i.ranks;
      last_rank = i.last_rank;
      rank_once = i.rank_once;
      making = went_on_making c conns s k stage from untold unasked i.making;
      pending_accepted = went_on_pending_accepted c conns s k stage untold unasked i.pending_accepted;
      pending_unranked = went_on_pending_unranked c conns s k stage untold unasked i.pending_unranked;
      sequence_low = i.sequence_low;
      numbered_sessions = i.numbered_sessions;
      current_up = i.current_up;
      current_down = i.current_down;
      ranked_up = i.ranked_up;
      from_client = i.from_client;
      sequences_up = i.sequences_up;
      work_up = i.work_up;
      dialog_up = i.dialog_up;
      logon_up = i.logon_up;
      first_up = went_on_first_up c conns s k stage none untold unasked i.first_up;
      second_up = went_on_second_up c conns s k stage none untold unasked i.second_up i.making;
      tree_connect_up = went_on_tree_connect_up c conns s k stage none untold unasked i.tree_connect_up i.making;
      asked_fresh = went_on_asked_fresh c conns s k stage untold unasked i.asked_fresh;
      present_accepted = i.present_accepted;
      ranked_given = i.ranked_given;
      making_unranked = i.making_unranked;
      session_users = i.session_users;
      open_users = i.open_users;
      pending_given = went_on_pending_given c conns s k stage untold unasked i.pending_given;
      first_reply = went_on_first_reply c conns s k stage none untold unasked i.first_reply i.making;
      second_reply = went_on_second_reply c conns s k stage none untold unasked i.second_reply i.making;
      tree_up = i.tree_up;
      tree_live = i.tree_live;
      tree_reply = went_on_tree_reply c conns s k stage none untold unasked i.tree_reply i.making;
      sent_trees = i.sent_trees;
      asked_new = went_on_asked_new c conns s k stage untold unasked i.asked_new;
      open_trees = i.open_trees;
    }
