-- Written by tools/law_sessions.py. A reply is on its way.
use Rattle.std.proofs.Common.{◌≡◌, ℕ, ◌≤◌, ◌<◌, true, false, [], ◌∷◌, ◌++◌, arith, is_some}
use Rattle.spec_exchange.specs.Table.{put}
use Rattle.spec_exchange.specs.Status.{success, more_processing_required}
use Rattle.spec_exchange.specs.State.{Server}
use Rattle.spec_exchange.specs.CheckSetup.{is_new, tree_in}
use Rattle.spec_exchange.specs.Opens.{id_of}
use Rattle.spec_exchange.specs.Client.{Client, SaidFirst, SaidSecond, AskedTree}
use Rattle.spec_exchange.specs.Network.{Conn, Received}
use Rattle.law_sessions.proofs.messages.Lists.{get-push}
use Rattle.law_sessions.specs.sessions.Sessions.{Sessions, is_ops, CurrentUp, CurrentDown, RankedUp, FromClient, SequencesUp, WorkUp, DialogUp, LogonUp, FirstUp, SecondUp, TreeConnectUp, AskedFresh, FirstReply, SecondReply, TreeUp, TreeReply, SentTrees}

say_current_up : (c : Client) (conns : ℕ → Conn) (s : Server) (k : ℕ) (y0 : Received) → CurrentUp c conns → CurrentUp c (put conns k (record (conns k) { down = (conns k).down ++ y0 ∷ [] }))
say_current_up c conns s k y0 i_current_up =
    λ j n x. let old = i_current_up j n x in grind (arith, get-push)

say_current_down : (c : Client) (conns : ℕ → Conn) (s : Server) (k : ℕ) (y0 : Received) → (is_ops y0.token ≡ true → c.live ≡ true × y0.reply.session_id ≡ c.session) → CurrentDown c conns → CurrentDown c (put conns k (record (conns k) { down = (conns k).down ++ y0 ∷ [] }))
say_current_down c conns s k y0 ops i_current_down =
    λ j n y. let old = i_current_down j n y in let q = ops in grind (arith, get-push)

say_ranked_up : (c : Client) (conns : ℕ → Conn) (s : Server) (k : ℕ) (y0 : Received) → RankedUp c conns → RankedUp c (put conns k (record (conns k) { down = (conns k).down ++ y0 ∷ [] }))
say_ranked_up c conns s k y0 i_ranked_up =
    λ j n x. let old = i_ranked_up j n x in grind (arith, get-push)

say_from_client : (c : Client) (conns : ℕ → Conn) (s : Server) (k : ℕ) (y0 : Received) → FromClient c conns → FromClient c (put conns k (record (conns k) { down = (conns k).down ++ y0 ∷ [] }))
say_from_client c conns s k y0 i_from_client =
    λ j n x. let old = i_from_client j n x in grind (arith, get-push)

say_sequences_up : (c : Client) (conns : ℕ → Conn) (s : Server) (k : ℕ) (y0 : Received) → SequencesUp c conns → SequencesUp c (put conns k (record (conns k) { down = (conns k).down ++ y0 ∷ [] }))
say_sequences_up c conns s k y0 i_sequences_up =
    λ j n x. let old = i_sequences_up j n x in grind (arith, get-push)

say_work_up : (c : Client) (conns : ℕ → Conn) (s : Server) (k : ℕ) (y0 : Received) → WorkUp conns → WorkUp (put conns k (record (conns k) { down = (conns k).down ++ y0 ∷ [] }))
say_work_up c conns s k y0 i_work_up =
    λ j n x. let old = i_work_up j n x in grind (arith, get-push)

say_dialog_up : (c : Client) (conns : ℕ → Conn) (s : Server) (k : ℕ) (y0 : Received) → DialogUp conns → DialogUp (put conns k (record (conns k) { down = (conns k).down ++ y0 ∷ [] }))
say_dialog_up c conns s k y0 i_dialog_up =
    λ j n x. let old = i_dialog_up j n x in grind (arith, get-push)

say_logon_up : (c : Client) (conns : ℕ → Conn) (s : Server) (k : ℕ) (y0 : Received) → LogonUp c conns → LogonUp c (put conns k (record (conns k) { down = (conns k).down ++ y0 ∷ [] }))
say_logon_up c conns s k y0 i_logon_up =
    λ j n x. let old = i_logon_up j n x in grind (arith, get-push)

say_first_up : (c : Client) (conns : ℕ → Conn) (s : Server) (k : ℕ) (y0 : Received) → FirstUp c conns → FirstUp c (put conns k (record (conns k) { down = (conns k).down ++ y0 ∷ [] }))
say_first_up c conns s k y0 i_first_up =
    λ j n x. let old = i_first_up j n x in grind (arith, get-push)

say_second_up : (c : Client) (conns : ℕ → Conn) (s : Server) (k : ℕ) (y0 : Received) → SecondUp c conns → SecondUp c (put conns k (record (conns k) { down = (conns k).down ++ y0 ∷ [] }))
say_second_up c conns s k y0 i_second_up =
    λ j n x. let old = i_second_up j n x in grind (arith, get-push)

say_tree_connect_up : (c : Client) (conns : ℕ → Conn) (s : Server) (k : ℕ) (y0 : Received) → TreeConnectUp c conns → TreeConnectUp c (put conns k (record (conns k) { down = (conns k).down ++ y0 ∷ [] }))
say_tree_connect_up c conns s k y0 i_tree_connect_up =
    λ j n x. let old = i_tree_connect_up j n x in grind (arith, get-push)

say_asked_fresh : (c : Client) (conns : ℕ → Conn) (s : Server) (k : ℕ) (y0 : Received) → AskedFresh c conns → AskedFresh c (put conns k (record (conns k) { down = (conns k).down ++ y0 ∷ [] }))
say_asked_fresh c conns s k y0 i_asked_fresh =
    λ p j n x. let old = i_asked_fresh p j n x in grind (arith, get-push)

say_first_reply : (c : Client) (conns : ℕ → Conn) (s : Server) (k : ℕ) (y0 : Received) → (is_ops y0.token ≡ false → c.stage k ≡ SaidFirst false → y0.reply.status ≡ more_processing_required → c.rank y0.reply.session_id ≡ 0 × 0 < y0.reply.session_id × y0.reply.session_id ≤ id_of s.epoch s.session_ids_given) → FirstReply c conns s → FirstReply c (put conns k (record (conns k) { down = (conns k).down ++ y0 ∷ [] })) s
say_first_reply c conns s k y0 first i_first_reply =
    λ j n y. let old = i_first_reply j n y in let q = first in grind (arith, get-push)

say_second_reply : (c : Client) (conns : ℕ → Conn) (s : Server) (k : ℕ) (y0 : Received) → (is_ops y0.token ≡ false → c.stage k ≡ SaidSecond false → y0.reply.status ≡ success → (0 < c.rank c.accepted → s.present c.accepted ≡ false) × ((j : ℕ) → is_new c.pending (s.making j) ≡ false)) → SecondReply c conns s → SecondReply c (put conns k (record (conns k) { down = (conns k).down ++ y0 ∷ [] })) s
say_second_reply c conns s k y0 second i_second_reply =
    λ j n y. let old = i_second_reply j n y in let q = second in grind (arith, get-push)

say_tree_up : (c : Client) (conns : ℕ → Conn) (s : Server) (k : ℕ) (y0 : Received) → TreeUp conns s → TreeUp (put conns k (record (conns k) { down = (conns k).down ++ y0 ∷ [] })) s
say_tree_up c conns s k y0 i_tree_up =
    λ j n x. let old = i_tree_up j n x in grind (arith, get-push)

say_tree_reply : (c : Client) (conns : ℕ → Conn) (s : Server) (k : ℕ) (y0 : Received) → (is_ops y0.token ≡ false → c.stage k ≡ AskedTree → y0.reply.status ≡ success → s.present c.accepted ≡ true → is_some (tree_in (s.trees c.accepted) y0.reply.tree_id) ≡ true) → TreeReply c conns s → TreeReply c (put conns k (record (conns k) { down = (conns k).down ++ y0 ∷ [] })) s
say_tree_reply c conns s k y0 tree i_tree_reply =
    λ j n y. let old = i_tree_reply j n y in let q = tree in grind (arith, get-push)

say_sent_trees : (c : Client) (conns : ℕ → Conn) (s : Server) (k : ℕ) (y0 : Received) → SentTrees c conns → SentTrees c (put conns k (record (conns k) { down = (conns k).down ++ y0 ∷ [] }))
say_sent_trees c conns s k y0 i_sent_trees =
    λ j n x. let old = i_sent_trees j n x in grind (arith, get-push)

pub say_keeps : (c : Client) (conns : ℕ → Conn) (s : Server) (k : ℕ) (y0 : Received) → (is_ops y0.token ≡ true → c.live ≡ true × y0.reply.session_id ≡ c.session) → (is_ops y0.token ≡ false → c.stage k ≡ SaidFirst false → y0.reply.status ≡ more_processing_required → c.rank y0.reply.session_id ≡ 0 × 0 < y0.reply.session_id × y0.reply.session_id ≤ id_of s.epoch s.session_ids_given) → (is_ops y0.token ≡ false → c.stage k ≡ SaidSecond false → y0.reply.status ≡ success → (0 < c.rank c.accepted → s.present c.accepted ≡ false) × ((j : ℕ) → is_new c.pending (s.making j) ≡ false)) → (is_ops y0.token ≡ false → c.stage k ≡ AskedTree → y0.reply.status ≡ success → s.present c.accepted ≡ true → is_some (tree_in (s.trees c.accepted) y0.reply.tree_id) ≡ true) → Sessions c conns s → Sessions c (put conns k (record (conns k) { down = (conns k).down ++ y0 ∷ [] })) s
say_keeps c conns s k y0 ops first second tree i =
    record {
      live_accepted = i.live_accepted;
      session_ranked = i.session_ranked;
      ranks = i.ranks;
      last_rank = i.last_rank;
      rank_once = i.rank_once;
      making = i.making;
      pending_accepted = i.pending_accepted;
      pending_unranked = i.pending_unranked;
      sequence_low = i.sequence_low;
      numbered_sessions = i.numbered_sessions;
      current_up = say_current_up c conns s k y0 i.current_up;
      current_down = say_current_down c conns s k y0 ops i.current_down;
      ranked_up = say_ranked_up c conns s k y0 i.ranked_up;
      from_client = say_from_client c conns s k y0 i.from_client;
      sequences_up = say_sequences_up c conns s k y0 i.sequences_up;
      work_up = say_work_up c conns s k y0 i.work_up;
      dialog_up = say_dialog_up c conns s k y0 i.dialog_up;
      logon_up = say_logon_up c conns s k y0 i.logon_up;
      first_up = say_first_up c conns s k y0 i.first_up;
      second_up = say_second_up c conns s k y0 i.second_up;
      tree_connect_up = say_tree_connect_up c conns s k y0 i.tree_connect_up;
      asked_fresh = say_asked_fresh c conns s k y0 i.asked_fresh;
      present_accepted = i.present_accepted;
      ranked_given = i.ranked_given;
      making_unranked = i.making_unranked;
      session_users = i.session_users;
      open_users = i.open_users;
      pending_given = i.pending_given;
      first_reply = say_first_reply c conns s k y0 first i.first_reply;
      second_reply = say_second_reply c conns s k y0 second i.second_reply;
      tree_up = say_tree_up c conns s k y0 i.tree_up;
      tree_live = i.tree_live;
      tree_reply = say_tree_reply c conns s k y0 tree i.tree_reply;
      sent_trees = say_sent_trees c conns s k y0 i.sent_trees;
      asked_new = i.asked_new;
      open_trees = i.open_trees;
    }
