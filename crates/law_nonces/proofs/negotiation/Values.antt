-- What the events of the model of values do to the servers' ends of connections, and to what is in the making.
use Rattle.std.proofs.Common.{◌≡◌, ℕ, nat_le, Bool, true, false}
use Rattle.std.proofs.Common.{List, ◌++◌, length}
use Rattle.std.proofs.Common.{inl, inr, refl, sym, ◌∙◌, ap, subst, None, is_some}
use Rattle.spec_exchange.specs.Table.{put}
use Rattle.spec_exchange.specs.State.{Server, Reply, Record, Answer, ServerEvent, Accept, End}
use Rattle.spec_exchange.specs.Operations.{HadStatus, weight, charge}
use Rattle.spec_exchange.specs.Client.{Client, AskedTree, own_message, ask_message}
use Rattle.spec_exchange.specs.ClientStep.{Act, Nothing, Sends, Asks, CloseChannel, CloseChannels, AllSettled}
use Rattle.spec_exchange.specs.ClientStep.{ClientEvent, Hears, IsCut, IsReady, IsRefused, client_after}
use Rattle.spec_exchange.specs.ClientStep.{act}
use Rattle.spec_exchange.specs.Dialogs.{DialogStep, GoesOn, Accepts, Binds, Readies, Refuses, dialog_message, went_on, accepted}
use Rattle.spec_exchange.specs.Step.{step, Ruling, TakesIn, TurnsAway, TakesOut, ruling_without_room}
use Rattle.spec_exchange.specs.Step.{carried_out, max_connections, ends_with}
use Rattle.spec_exchange.specs.Network.{World as Values, Conn, Sent, Received, ForDialog, ForOp, ForAttach}
use Rattle.spec_exchange.specs.Network.{send_up, take_front, pushed_by}
use Rattle.spec_exchange.specs.Network.{absorbed, behind_front, say_down, replied, client_off}
use Rattle.spec_exchange.specs.Network.{closed_by, cut_by, cut_off, dialog_ended, dialog_took, op_took}
use Rattle.spec_exchange.specs.Network.{behind_reply}
use Rattle.law_server.proofs.tables.Logic.{either}
use Rattle.law_server.proofs.tables.Doors.{by_ruling, Front, Rules}
use Rattle.spec_exchange.specs.Fold.{recovered_from, recovery_records}
use Rattle.law_records.proofs.recovery.Restarts.{bare_fold}
use Rattle.law_sessions.proofs.sessions.Answers.{ends}
use Rattle.law_sessions.proofs.sessions.Heard.{before_stays}
use Rattle.law_nonces.proofs.negotiation.Tables.{SameOpen, put_open}

-- the server is the same, and its ends are open alike
pub record ClientOnly (v w : Values) : Type 0 where
  pub server : w.server ≡ v.server
  pub opened : SameOpen v.conns w.conns

-- ---- Push

pub pushed_only : (v : Values) (k : ℕ) (c : Client) (a : Act) → ClientOnly v (pushed_by v k c a)
pushed_only v k c (Sends g) =
    record {
      server = refl;
      opened = put_open v.conns k (send_up (v.conns k) (ForOp g) (own_message c k (v.conns k).next_id g)
          (charge (weight (c.op g)))) refl;
    }
pushed_only v k c (Asks g) =
    record { server = refl; opened = put_open v.conns k (send_up (v.conns k) (ForAttach g) (ask_message c k (v.conns k).next_id g) 1) refl }
pushed_only v k c Nothing = record { server = refl; opened = λ j. refl }
pushed_only v k c CloseChannel = record { server = refl; opened = λ j. refl }
pushed_only v k c CloseChannels = record { server = refl; opened = λ j. refl }
pushed_only v k c AllSettled = record { server = refl; opened = λ j. refl }

-- ---- Take and Cut

closed_only : (v : Values) (k : ℕ) (a : Act) (c : Client) → ClientOnly v (record (closed_by v k a) { client = c })
closed_only v k CloseChannels c = record { server = refl; opened = λ j. refl }
closed_only v k CloseChannel c = record { server = refl; opened = put_open v.conns k (client_off (v.conns k)) refl }
closed_only v k Nothing c = record { server = refl; opened = λ j. refl }
closed_only v k (Sends g) c = record { server = refl; opened = λ j. refl }
closed_only v k (Asks g) c = record { server = refl; opened = λ j. refl }
closed_only v k AllSettled c = record { server = refl; opened = λ j. refl }

cut_by_only : (v : Values) (k : ℕ) (a : Act) (c : Client) → ClientOnly v (record (cut_by v k a) { client = c })
cut_by_only v k CloseChannels c = record { server = refl; opened = λ j. refl }
cut_by_only v k CloseChannel c = record { server = refl; opened = put_open v.conns k (client_off (v.conns k)) refl }
cut_by_only v k Nothing c = record { server = refl; opened = put_open v.conns k (client_off (v.conns k)) refl }
cut_by_only v k (Sends g) c = record { server = refl; opened = put_open v.conns k (client_off (v.conns k)) refl }
cut_by_only v k (Asks g) c = record { server = refl; opened = put_open v.conns k (client_off (v.conns k)) refl }
cut_by_only v k AllSettled c = record { server = refl; opened = put_open v.conns k (client_off (v.conns k)) refl }

pub cut_only : (v : Values) (k : ℕ) → ClientOnly v (cut_off v k)
cut_only v k =
    either (λ w. ClientOnly v w) (v.client.ready k) _ _
    (λ _. cut_by_only v k (act v.client (IsCut k)) (client_after v.client (IsCut k)))
    (λ _. record { server = refl; opened = put_open v.conns k (client_off (v.conns k)) refl })

pub ended_only : (v : Values) (k : ℕ) (e : ClientEvent) → ClientOnly v (dialog_ended v k e)
ended_only v k e = closed_only v k (act v.client e) (client_after v.client e)

pub op_only : (v : Values) (k g : ℕ) (asking : Bool) (r : Reply) (place : ℕ) → ClientOnly v (op_took v k g asking r place)
op_only v k g asking r place = closed_only v k (act v.client (Hears k g asking r place)) (client_after v.client (Hears k g asking r place))

pub dialog_only : (v : Values) (k : ℕ) (r : Reply) (s : DialogStep) → ClientOnly v (dialog_took v k r s)
dialog_only v k r (GoesOn stage) =
    record {
      server = refl;
      opened = put_open v.conns k
          (send_up (v.conns k) ForDialog (dialog_message (went_on v.client k stage r) k (v.conns k).next_id stage) 1)
          refl;
    }
dialog_only v k r Accepts =
    record {
      server = refl;
      opened = put_open v.conns k
          (send_up (v.conns k) ForDialog (dialog_message (accepted v.client k) k (v.conns k).next_id AskedTree) 1) refl;
    }
dialog_only v k r Binds = ended_only v k (IsReady k v.client.session v.client.tree)
dialog_only v k r Readies = ended_only v k (IsReady k v.client.pending r.tree_id)
dialog_only v k r (Refuses status) = ended_only v k (IsRefused k (HadStatus status))

pub behind_only : (v : Values) (k : ℕ) (ys : List Received) → ClientOnly v (behind_reply v k ys)
behind_only v k ys = record { server = refl; opened = put_open v.conns k (take_front (v.conns k) ys) refl }

-- ---- Serve: the servers' ends stay as open as they were

pub absorbed_open : (v : Values) (k : ℕ) (x : Sent) (xs : List Sent) (A : Answer) → SameOpen v.conns (absorbed v k x xs A).conns
absorbed_open v k x xs A = put_open v.conns k (behind_front (v.conns k) xs) refl

said_open : (c : Conn) (y : Received) → (say_down c y).server_open ≡ c.server_open
said_open c y = either (λ d. d.server_open ≡ c.server_open) c.client_open _ c (λ _. refl) (λ _. refl)

pub replied_open : (v : Values) (k : ℕ) (y : Received) → SameOpen v.conns (replied v k y).conns
replied_open v k y = put_open v.conns k (say_down (v.conns k) y) (said_open (v.conns k) y)

-- ---- a connection that is taken in or ends

front_making : (s : Server) (now : ℕ) (e : ServerEvent) (t : Server) (front : List Record) → Front s now e t front → t.making ≡ s.making
front_making s now e t front (inl q) = let h = before_stays s now t (inl q.0) in h.making
front_making s now e t front (inr q) = let h = before_stays s now t (inr (q.0, q.1, q.2)) in h.making

pub accept_making : (s : Server) (now k : ℕ) → (step s now (Accept k)).server.making ≡ s.making
accept_making s now k =
    by_ruling (λ A. A.server.making ≡ s.making) s now (Accept k)
    (λ t front r at rules. ruled t front r (front_making s now (Accept k) t front at) rules)
  where
    taken : (t : Server) (r : Ruling) → t.making ≡ s.making → Rules t (Accept k) r → (carried_out t now r).server.making ≡ s.making
    taken t r m (inl q) =
        subst (λ x. (carried_out t now x).server.making ≡ s.making) (sym q)
        (either (λ x. (carried_out t now x).server.making ≡ s.making) (nat_le max_connections (length t.connections))
        TurnsAway (TakesIn k) (λ _. m) (λ _. m))
    taken t r m (inr q) =
        subst (λ x. (carried_out t now x).server.making ≡ s.making) (sym q)
        (either (λ x. (carried_out t now (ruling_without_room x)).server.making ≡ s.making)
        (nat_le max_connections (length t.connections)) TurnsAway (TakesIn k) (λ _. m) (λ _. m))

    ruled : (t : Server) (front : List Record) (r : Ruling) → t.making ≡ s.making → Rules t (Accept k) r
        → (carried_out t now r).server.making ≡ s.making
    ruled t front r m rules = taken t r m rules

pub end_making : (s : Server) (now k : ℕ) → (step s now (End k)).server.making ≡ put s.making k None
end_making s now k =
    by_ruling (λ A. A.server.making ≡ put s.making k None) s now (End k)
    (λ t front r at rules. taken t r (front_making s now (End k) t front at) rules)
  where
    out : (t : Server) (is_quiet : Bool) → t.making ≡ s.making → (carried_out t now (TakesOut k is_quiet)).server.making
        ≡ put s.making k None
    out t is_quiet m = let h = ends t now is_quiet (ends_with t k) in ap (λ f. put f k None) (h.making ∙ m)

    taken : (t : Server) (r : Ruling) → t.making ≡ s.making → Rules t (End k) r → (carried_out t now r).server.making ≡ put s.making k None
    taken t r m (inl q) = subst (λ x. (carried_out t now x).server.making ≡ put s.making k None) (sym q) (out t false m)
    taken t r m (inr q) = subst (λ x. (carried_out t now x).server.making ≡ put s.making k None) (sym q) (out t true m)

-- ---- a restart leaves nothing in the making

pub recovered_making : (s : Server) (rs : List Record) (k : ℕ) → is_some ((recovered_from s rs).making k) ≡ false
recovered_making s rs k = let h = bare_fold (rs ++ recovery_records rs) in ap is_some (h.unmade k)
