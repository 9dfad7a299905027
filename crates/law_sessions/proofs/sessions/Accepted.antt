-- Written by tools/law_sessions.py. A new session is accepted.
use Rattle.std.proofs.Common.{◌≡◌, ℕ, ◌<◌, false, arith}
use Rattle.spec_exchange.specs.State.{Server}
use Rattle.spec_exchange.specs.CheckSetup.{is_new}
use Rattle.spec_exchange.specs.Client.{Client, SaidSecond, unmade}
use Rattle.spec_exchange.specs.Dialogs.{accepted}
use Rattle.spec_exchange.specs.Network.{Conn}
use Rattle.law_sessions.specs.messages.Connections.{copies}
use Rattle.law_sessions.proofs.messages.Lists.{get-push}
use Rattle.law_sessions.specs.sessions.Sessions.{Sessions, LiveAccepted, SessionRanked, Ranks, LastRank, RankOnce, Making, PendingAccepted, PendingUnranked, RankedUp, FirstUp, SecondUp, TreeConnectUp, AskedFresh, PresentAccepted, RankedGiven, MakingUnranked, PendingGiven, FirstReply, SecondReply, TreeReply, SentTrees, AskedNew}
use Rattle.law_sessions.proofs.sessions.Words.{no_dialog_up, no_dialog_down}

accepted_live_accepted : (c : Client) (conns : ℕ → Conn) (s : Server) (k : ℕ) → (c.stage k ≡ SaidSecond false) → LiveAccepted c → Making c → LiveAccepted (accepted c k)
accepted_live_accepted c conns s k at i_live_accepted i_making =
    λ l. let old = i_live_accepted l in let m = i_making k in grind arith

accepted_session_ranked : (c : Client) (conns : ℕ → Conn) (s : Server) (k : ℕ) → (c.stage k ≡ SaidSecond false) → SessionRanked c → SessionRanked (accepted c k)
accepted_session_ranked c conns s k at i_session_ranked =
    λ l. let old = i_session_ranked l in grind arith

accepted_ranks : (c : Client) (conns : ℕ → Conn) (s : Server) (k : ℕ) → (c.stage k ≡ SaidSecond false) → Ranks c → Ranks (accepted c k)
accepted_ranks c conns s k at i_ranks =
    λ p. let old = i_ranks p in grind arith

accepted_last_rank : (c : Client) (conns : ℕ → Conn) (s : Server) (k : ℕ) → (c.stage k ≡ SaidSecond false) → LastRank c → LastRank (accepted c k)
accepted_last_rank c conns s k at i_last_rank =
    let old = i_last_rank in grind arith

accepted_rank_once : (c : Client) (conns : ℕ → Conn) (s : Server) (k : ℕ) → (c.stage k ≡ SaidSecond false) → RankOnce c → Ranks c → RankOnce (accepted c k)
accepted_rank_once c conns s k at i_rank_once i_ranks =
    λ p q. let old = i_rank_once p q in let r1 = i_ranks p in let r2 = i_ranks q in grind arith

accepted_making : (c : Client) (conns : ℕ → Conn) (s : Server) (k : ℕ) → (c.stage k ≡ SaidSecond false) → Making c → Making (accepted c k)
accepted_making c conns s k at i_making =
    λ p. let old = i_making p in grind arith

accepted_pending_accepted : (c : Client) (conns : ℕ → Conn) (s : Server) (k : ℕ) → (c.stage k ≡ SaidSecond false) → PendingAccepted c → Making c → PendingAccepted (accepted c k)
accepted_pending_accepted c conns s k at i_pending_accepted i_making =
    λ p. let old = i_pending_accepted p in let m = i_making p in let m0 = i_making k in grind arith

accepted_pending_unranked : (c : Client) (conns : ℕ → Conn) (s : Server) (k : ℕ) → (c.stage k ≡ SaidSecond false) → Making c → PendingUnranked (accepted c k)
accepted_pending_unranked c conns s k at i_making =
    λ p. let m = i_making p in let m0 = i_making k in grind arith

accepted_ranked_up : (c : Client) (conns : ℕ → Conn) (s : Server) (k : ℕ) → (c.stage k ≡ SaidSecond false) → RankedUp c conns → RankedUp (accepted c k) conns
accepted_ranked_up c conns s k at i_ranked_up =
    λ j n x. let old = i_ranked_up j n x in grind (arith, get-push)

accepted_first_up : (c : Client) (conns : ℕ → Conn) (s : Server) (k : ℕ) → (copies 0 (conns k) ≡ 0) → (c.stage k ≡ SaidSecond false) → FirstUp c conns → FirstUp (accepted c k) conns
accepted_first_up c conns s k none at i_first_up =
    λ j n x. let old = i_first_up j n x in let d = no_dialog_up conns k none j n x in grind arith

accepted_second_up : (c : Client) (conns : ℕ → Conn) (s : Server) (k : ℕ) → (copies 0 (conns k) ≡ 0) → (c.stage k ≡ SaidSecond false) → Making c → SecondUp (accepted c k) conns
accepted_second_up c conns s k none at i_making =
    λ j n x h o t st. let m = i_making j in let m0 = i_making k in let d = no_dialog_up conns k none j n x in grind arith

accepted_tree_connect_up : (c : Client) (conns : ℕ → Conn) (s : Server) (k : ℕ) → (copies 0 (conns k) ≡ 0) → (c.stage k ≡ SaidSecond false) → Making c → TreeConnectUp (accepted c k) conns
accepted_tree_connect_up c conns s k none at i_making =
    λ j n x h o t st. let m = i_making j in let m0 = i_making k in let d = no_dialog_up conns k none j n x in grind arith

accepted_asked_fresh : (c : Client) (conns : ℕ → Conn) (s : Server) (k : ℕ) → (c.stage k ≡ SaidSecond false) → Making c → PendingUnranked c → RankedUp c conns → AskedFresh (accepted c k) conns
accepted_asked_fresh c conns s k at i_making i_pending_unranked i_ranked_up =
    λ p j n x a h t. let m = i_making p in let m0 = i_making k in let u = i_pending_unranked k at in let r = i_ranked_up j n x h t in grind arith

accepted_present_accepted : (c : Client) (conns : ℕ → Conn) (s : Server) (k : ℕ) → (c.stage k ≡ SaidSecond false) → (0 < c.rank c.accepted → s.present c.accepted ≡ false) → PresentAccepted c s → PresentAccepted (accepted c k) s
accepted_present_accepted c conns s k at gone i_present_accepted =
    λ p q. let old = i_present_accepted p q in let g = gone in grind arith

accepted_ranked_given : (c : Client) (conns : ℕ → Conn) (s : Server) (k : ℕ) → (c.stage k ≡ SaidSecond false) → RankedGiven c s → PendingGiven c s → RankedGiven (accepted c k) s
accepted_ranked_given c conns s k at i_ranked_given i_pending_given =
    λ p. let old = i_ranked_given p in let g = i_pending_given k at in grind arith

accepted_making_unranked : (c : Client) (conns : ℕ → Conn) (s : Server) (k : ℕ) → (c.stage k ≡ SaidSecond false) → ((q : ℕ) → is_new c.pending (s.making q) ≡ false) → MakingUnranked c s → MakingUnranked (accepted c k) s
accepted_making_unranked c conns s k at unmade i_making_unranked =
    λ p q h. let old = i_making_unranked p q h in let u = unmade p in grind arith

accepted_pending_given : (c : Client) (conns : ℕ → Conn) (s : Server) (k : ℕ) → (c.stage k ≡ SaidSecond false) → PendingGiven c s → PendingGiven (accepted c k) s
accepted_pending_given c conns s k at i_pending_given =
    λ p. let old = i_pending_given p in grind arith

accepted_first_reply : (c : Client) (conns : ℕ → Conn) (s : Server) (k : ℕ) → (copies 0 (conns k) ≡ 0) → (c.stage k ≡ SaidSecond false) → Making c → FirstReply (accepted c k) conns s
accepted_first_reply c conns s k none at i_making =
    λ j n y h t st. let m = i_making j in let m0 = i_making k in let d = no_dialog_down conns k none j n y in grind arith

accepted_second_reply : (c : Client) (conns : ℕ → Conn) (s : Server) (k : ℕ) → (copies 0 (conns k) ≡ 0) → (c.stage k ≡ SaidSecond false) → Making c → SecondReply (accepted c k) conns s
accepted_second_reply c conns s k none at i_making =
    λ j n y h t st. let m = i_making j in let m0 = i_making k in let d = no_dialog_down conns k none j n y in absurd (grind arith)

accepted_tree_reply : (c : Client) (conns : ℕ → Conn) (s : Server) (k : ℕ) → (copies 0 (conns k) ≡ 0) → (c.stage k ≡ SaidSecond false) → Making c → TreeReply (accepted c k) conns s
accepted_tree_reply c conns s k none at i_making =
    λ j n y h t st. let m = i_making j in let m0 = i_making k in let d = no_dialog_down conns k none j n y in grind arith

accepted_sent_trees : (c : Client) (conns : ℕ → Conn) (s : Server) (k : ℕ) → (c.stage k ≡ SaidSecond false) → SentTrees c conns → PendingUnranked c → RankedUp c conns → SentTrees (accepted c k) conns
accepted_sent_trees c conns s k at i_sent_trees i_pending_unranked i_ranked_up =
    λ j n x h t. let old = i_sent_trees j n x h t in let u = i_pending_unranked k at in let r = i_ranked_up j n x h t in grind arith

accepted_asked_new : (c : Client) (conns : ℕ → Conn) (s : Server) (k : ℕ) → (c.stage k ≡ SaidSecond false) → AskedNew c → PendingUnranked c → SessionRanked c → AskedNew (accepted c k)
accepted_asked_new c conns s k at i_asked_new i_pending_unranked i_session_ranked =
    λ p. let old = i_asked_new p in let r = i_session_ranked in let u = i_pending_unranked k at in grind arith

pub accepted_keeps : (c : Client) (conns : ℕ → Conn) (s : Server) (k : ℕ) → (copies 0 (conns k) ≡ 0) → (c.stage k ≡ SaidSecond false) → (0 < c.rank c.accepted → s.present c.accepted ≡ false) → ((q : ℕ) → is_new c.pending (s.making q) ≡ false) → Sessions c conns s → Sessions (accepted c k) conns s
accepted_keeps c conns s k none at gone unmade i =
    record {
      live_accepted = accepted_live_accepted c conns s k at i.live_accepted i.making;
      session_ranked = accepted_session_ranked c conns s k at i.session_ranked;
      ranks = accepted_ranks c conns s k at i.ranks;
      last_rank = accepted_last_rank c conns s k at i.last_rank;
      rank_once = accepted_rank_once c conns s k at i.rank_once i.ranks;
      making = accepted_making c conns s k at i.making;
      pending_accepted = accepted_pending_accepted c conns s k at i.pending_accepted i.making;
      pending_unranked = accepted_pending_unranked c conns s k at i.making;
      sequence_low = i.sequence_low;
      numbered_sessions = i.numbered_sessions;
      current_up = i.current_up;
      current_down = i.current_down;
      ranked_up = accepted_ranked_up c conns s k at i.ranked_up;
      from_client = i.from_client;
      sequences_up = i.sequences_up;
      work_up = i.work_up;
      dialog_up = i.dialog_up;
      logon_up = i.logon_up;
      first_up = accepted_first_up c conns s k none at i.first_up;
      second_up = accepted_second_up c conns s k none at i.making;
      tree_connect_up = accepted_tree_connect_up c conns s k none at i.making;
      asked_fresh = accepted_asked_fresh c conns s k at i.making i.pending_unranked i.ranked_up;
      present_accepted = accepted_present_accepted c conns s k at gone i.present_accepted;
      ranked_given = accepted_ranked_given c conns s k at i.ranked_given i.pending_given;
      making_unranked = accepted_making_unranked c conns s k at unmade i.making_unranked;
      session_users = i.session_users;
      open_users = i.open_users;
      pending_given = accepted_pending_given c conns s k at i.pending_given;
      first_reply = accepted_first_reply c conns s k none at i.making;
      second_reply = accepted_second_reply c conns s k none at i.making;
      tree_up = i.tree_up;
      tree_live = i.tree_live;
      tree_reply = accepted_tree_reply c conns s k none at i.making;
      sent_trees = accepted_sent_trees c conns s k at i.sent_trees i.pending_unranked i.ranked_up;
      asked_new = accepted_asked_new c conns s k at i.asked_new i.pending_unranked i.session_ranked;
      open_trees = i.open_trees;
    }
