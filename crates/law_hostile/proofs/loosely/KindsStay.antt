-- Of which kind the trees and opens are, in a world of a loose run: as `KindsAlways` of `law_sessions` proves it of a run, from any world
-- in which it holds.
use Rattle.std.proofs.Common.{◌≡◌, ℕ, ◌+◌, ◌==◌, Bool, true, false, List, [], ◌∷◌, ◌++◌, ◌⊎◌, inl, inr, refl, arith}
use Rattle.std.proofs.Common.{sym, ◌∙◌, ap, Option, Some, None, slice_get}
use Rattle.spec_exchange.specs.Table.{put}
use Rattle.spec_exchange.specs.Status.{success}
use Rattle.spec_exchange.specs.Texts.{same_name}
use Rattle.spec_exchange.specs.Commands.{TreeConnect}
use Rattle.spec_exchange.specs.State.{Server, Reply, Accept, End, Record}
use Rattle.spec_exchange.specs.CheckSetup.{tree_in, pipes_name}
use Rattle.spec_exchange.specs.Operations.{Op, NoSession, request_of, reconnect_of, weight, charge}
use Rattle.spec_exchange.specs.Client.{Client, Stage, Apart, SaidNegotiate, SaidFirst, SaidSecond, AskedTree}
use Rattle.spec_exchange.specs.Client.{create_for, guid_for, may_take, may_push, has_its_slot, goes_itself}
use Rattle.spec_exchange.specs.Client.{settle_no_slots, begun, outstanding, asked, own_message, ask_message}
use Rattle.spec_exchange.specs.Client.{ends_at_cut, finish, bind_channel, begin_session, leave_dialog}
use Rattle.spec_exchange.specs.Settling.{Heard as Hearing, Settles, GoesAgain, Attaches, EndsSession, heard, hear, is_awaited, answered}
use Rattle.spec_exchange.specs.Dialogs.{DialogStep, GoesOn, Accepts, Binds, Readies, Refuses, dialog_step}
use Rattle.spec_exchange.specs.Dialogs.{dialog_message, stage_command, went_on, accepted}
use Rattle.spec_exchange.specs.ClientStep.{Pick, Act, Nothing, CloseChannels, Sends, Asks, AllSettled, pick_after}
use Rattle.spec_exchange.specs.ClientStep.{pick_act, act_heard, cut_act, cut_after, some_unsettled, IsReady}
use Rattle.spec_exchange.specs.ClientStep.{CloseChannel}
use Rattle.spec_exchange.specs.Fold.{fold, recovered_from, recovery_records}
use Rattle.spec_exchange.specs.Step.{step}
use Rattle.spec_exchange.specs.Network.{World, Event, Submit, Open, Push, Serve, Take, Cut, Drop, Restart, Crash, Wait}
use Rattle.spec_exchange.specs.Network.{Finish, Settings, Conn, Sent, Received, Token, ForDialog, ForOp, ForAttach}
use Rattle.spec_exchange.specs.Network.{fresh, happens, run, start, changed, later, is_possible, pushed_by, send_up}
use Rattle.spec_exchange.specs.Network.{answer, absorbed, say_down, serve_front, absorb_front, behind_front, take_reply}
use Rattle.spec_exchange.specs.Network.{behind_reply, took_by, dialog_sent, dialog_took, op_took, closed_by, cut_by}
use Rattle.spec_exchange.specs.Network.{client_off, server_off, with_client, restarted, blank_server, dialog_ended}
use Rattle.law_sessions.proofs.messages.Lists.{get-push, rest_of}
use Rattle.law_server.proofs.tables.Logic.{either}
use Rattle.law_sessions.proofs.messages.Run.{both_ways, ended_well}
use Rattle.law_server.specs.tables.Fits.{NoTrees}
use Rattle.law_server.proofs.tables.Run.{fitting}
use Rattle.law_sessions.specs.sessions.Kinds.{TreeKinds}
use Rattle.law_sessions.proofs.sessions.Table.{Keeps, keeps_so, keeps_no_slots, keeps_begun, keeps_asked, keeps_settle}
use Rattle.law_sessions.proofs.sessions.Heard.{answered as answered_by}
use Rattle.law_sessions.proofs.sessions.Connected.{falls_accept, falls_end}
use Rattle.law_sessions.proofs.sessions.Written.{folds_nothing}
use Rattle.law_sessions.proofs.sessions.Owed.{clean_accept, clean_end}
use Rattle.law_sessions.proofs.sessions.Always.{stored}
use Rattle.law_sessions.proofs.sessions.Restoring.{Bare, bare_more, bare_anew, bare_opens}
use Rattle.law_sessions.proofs.sessions.Sorted.{Sorted, answer_sorted, answer_bare, accept_sorted, end_sorted}

-- ---- what waits

-- a TREE_CONNECT asks for this share
abbrev pub AsksShare : List ℕ → Sent → Type 0
AsksShare share x = (other : List ℕ) → x.message.command ≡ TreeConnect other → other ≡ share

abbrev pub AllAsk : List ℕ → List Sent → Type 0
AllAsk share xs = (n : ℕ) (x : Sent) → slice_get xs n ≡ Some x → AsksShare share x

none_ask : (share : List ℕ) → AllAsk share []
none_ask share n x h = absurd (cc)

asks_same : (share : List ℕ) (x y : Sent) → Some x ≡ Some y → AsksShare share x → AsksShare share y
asks_same share x y e f other is = f other (command_of x y e ∙ is)
  where
    command_of : (x y : Sent) → Some x ≡ Some y → x.message.command ≡ y.message.command
    command_of x y e = grind arith

pushed_ask : (share : List ℕ) (xs : List Sent) (x : Sent) → AsksShare share x → AllAsk share xs → AllAsk share (xs ++ x ∷ [])
pushed_ask share xs x f i n y h = of_either ((get-push xs x n).1)
  where
    of_either : (slice_get (xs ++ x ∷ []) n ≡ slice_get xs n) ⊎ (slice_get (xs ++ x ∷ []) n ≡ Some x) → AsksShare share y
    of_either (inl e) = i n y (sym e ∙ h)
    of_either (inr e) = asks_same share x y (sym e ∙ h) f

rest_ask : (share : List ℕ) (xs : List Sent) (x : Sent) (rest : List Sent) → xs ≡ x ∷ rest → AllAsk share xs → AllAsk share rest
rest_ask share xs x rest is i n y h = i (n + 1) y ((rest_of xs x rest n is).1 ∙ h)

first_asks : (share : List ℕ) (xs : List Sent) (x : Sent) (rest : List Sent) → xs ≡ x ∷ rest → AllAsk share xs → AsksShare share x
first_asks share xs x rest is i = i 0 x (ap (λ l. slice_get l 0) is)

abbrev pub Waits : List ℕ → (ℕ → Conn) → Type 0
Waits share conns = (k : ℕ) → AllAsk share (conns k).up

pub put_waits : (share : List ℕ) (conns : ℕ → Conn) (k : ℕ) (c : Conn) → AllAsk share c.up → Waits share conns → Waits share (put conns k c)
put_waits share conns k c f i j = either (λ (d : Conn). AllAsk share d.up) (j == k) c (conns j) (λ _. f) (λ _. i j)

-- ---- what goes out

own_asks : (op : Op) (guid file slot number : ℕ) (other : List ℕ) (P : Type 0) → request_of op guid file slot number ≡ TreeConnect other → P
own_asks op guid file slot number other P e = absurd (grind arith)

attach_asks : (op : Op) (guid file : ℕ) (other : List ℕ) (P : Type 0) → reconnect_of op guid file ≡ TreeConnect other → P
attach_asks op guid file other P e = absurd (grind arith)

dialog_asks : (c : Client) (stage : Stage) (other : List ℕ) → stage_command c stage ≡ TreeConnect other → other ≡ c.who.share
dialog_asks c Apart other e = absurd (cc)
dialog_asks c (SaidNegotiate bound) other e = absurd (cc)
dialog_asks c (SaidFirst bound) other e = absurd (cc)
dialog_asks c (SaidSecond bound) other e = absurd (cc)
dialog_asks c AskedTree other e = grind arith

-- ---- what holds of a world of a client whose share this is

abbrev pub Piped : List ℕ → Bool
Piped share = same_name share pipes_name

pub record KindsHold (share : List ℕ) (w : World) : Type 0 where
  pub who : w.client.who.share ≡ share
  pub waits : Waits share w.conns
  pub sorted : Sorted (Piped share) w.server
  pub bare : Bare (Piped share) w.server.epoch w.records

-- a restarted server has no session, and so no tree
pub record Empties (w : World) : Type 0 where
  pub none : NoTrees w.server
  pub absent : (x : ℕ) → (fold w.records).present x ≡ false

-- the client alone changes
becomes : (share : List ℕ) (w : World) (c : Client) → c.who ≡ w.client.who → KindsHold share w → KindsHold share (with_client w c)
becomes share w c e h = record { who = ap (λ who. who.share) e ∙ h.who; waits = h.waits; sorted = h.sorted; bare = h.bare }

-- the connections alone change
pub carries : (share : List ℕ) (w : World) (conns : ℕ → Conn) → Waits share conns → KindsHold share w
    → KindsHold share (record w { conns = conns })
carries share w conns f h = record { who = h.who; waits = f; sorted = h.sorted; bare = h.bare }

cuts_one : (share : List ℕ) (w : World) (k : ℕ) → KindsHold share w → KindsHold share (record w {
  conns = put w.conns k (client_off (w.conns k));
})
cuts_one share w k h = carries share w (put w.conns k (client_off (w.conns k)))
    (put_waits share w.conns k (client_off (w.conns k)) (h.waits k) h.waits) h

cuts_all : (share : List ℕ) (w : World) → KindsHold share w → KindsHold share (record w { conns = λ k. client_off (w.conns k) })
cuts_all share w h = carries share w (λ k. client_off (w.conns k)) h.waits h

sends_dialog : (share : List ℕ) (w : World) (k : ℕ) (stage : Stage) → KindsHold share w → KindsHold share (dialog_sent w k stage)
sends_dialog share w k stage h =
    let x : Sent = record { token = ForDialog; message = dialog_message w.client k (w.conns k).next_id stage } in
    let d = send_up (w.conns k) ForDialog x.message 1 in
    carries share w (put w.conns k d)
    (put_waits share w.conns k d (pushed_ask share (w.conns k).up x (λ other e. dialog_asks w.client stage other e
    ∙ h.who) (h.waits k)) h.waits) h

-- ---- Open and Drop

fresh_asks : (share : List ℕ) (c : Client) (k : ℕ) (served : Bool) → AllAsk share (fresh c k served).up
fresh_asks share c k served =
    let x : Sent = record { token = ForDialog; message = dialog_message c k 0 (SaidNegotiate c.live) } in
    either (λ xs. AllAsk share xs) served (x ∷ []) [] (λ _. pushed_ask share [] x (λ other e. absurd (cc))
    (none_ask share)) (λ _. none_ask share)

opens : (share : List ℕ) (w : World) (k : ℕ) → KindsHold share w → KindsHold share (changed w (Open k))
opens share w k h =
    let A = step w.server w.moment (Accept k) in let c = fresh w.client k (A.reply.status == success) in
    record {
      who = h.who;
      waits = put_waits share w.conns k c (fresh_asks share w.client k (A.reply.status == success)) h.waits;
      sorted = accept_sorted (Piped share) w.server w.moment k h.sorted;
      bare = bare_more (Piped share) w.server.epoch A.server.epoch w.records A.records
          (falls_accept w.server w.moment k).epoch (λ _ g. clean_accept g [] w.server w.moment k) h.bare;
    }

drops : (share : List ℕ) (w : World) (k : ℕ) → KindsHold share w → KindsHold share (changed w (Drop k))
drops share w k h =
    let A = step w.server w.moment (End k) in
    record {
      who = h.who;
      waits = put_waits share w.conns k (server_off (w.conns k)) (none_ask share) h.waits;
      sorted = end_sorted (Piped share) w.server w.moment k h.sorted;
      bare = bare_more (Piped share) w.server.epoch A.server.epoch w.records A.records
          (falls_end w.server w.moment k).epoch (λ _ g. clean_end g [] w.server w.moment k) h.bare;
    }

-- ---- Push

pushes_up : (share : List ℕ) (w : World) (k n : ℕ) (x : Sent) → AsksShare share x → KindsHold share w
    → Waits share (put w.conns k (send_up (w.conns k) x.token x.message n))
pushes_up share w k n x f h = let d = send_up (w.conns k) x.token x.message n in put_waits share w.conns k d
    (pushed_ask share (w.conns k).up x f (h.waits k)) h.waits

sends_own : (share : List ℕ) (w : World) (k g : ℕ) (c : Client) → Keeps w.client c → KindsHold share w
    → KindsHold share (pushed_by w k c (Sends g))
sends_own share w k g c q h =
    let x : Sent = record { token = ForOp g; message = own_message c k (w.conns k).next_id g } in
    record {
      who = ap (λ who. who.share) q.same.who ∙ h.who;
      waits = pushes_up share w k (charge (weight (c.op g))) x (λ other e. own_asks (c.op g) (guid_for c g)
          (c.file (create_for c g)) (c.slot_of g) (c.number_of g) other _ e) h;
      sorted = h.sorted;
      bare = h.bare;
    }

asks_attach : (share : List ℕ) (w : World) (k g : ℕ) (c : Client) → Keeps w.client c → KindsHold share w
    → KindsHold share (pushed_by w k c (Asks g))
asks_attach share w k g c q h =
    let x : Sent = record { token = ForAttach g; message = ask_message c k (w.conns k).next_id g } in
    record {
      who = ap (λ who. who.share) q.same.who ∙ h.who;
      waits = pushes_up share w k 1 x (λ other e. attach_asks (c.op (create_for c g)) (guid_for c (create_for c g))
          (c.file (create_for c g)) other _ e) h;
      sorted = h.sorted;
      bare = h.bare;
    }

picks : (share : List ℕ) (w : World) (k : ℕ) (c : Client) (pick : Option Pick) → Keeps w.client c → KindsHold share w
    → KindsHold share (pushed_by w k (pick_after c k pick) (pick_act c k pick))
picks share w k c None q h =
    either (λ x. KindsHold share (pushed_by w k c x)) (some_unsettled c c.taken) _ _
    (λ _. becomes share w c q.same.who h) (λ _. becomes share w c q.same.who h)
picks share w k c (Some p) q h =
    let P : Client → Act → Type 0 = λ d x. KindsHold share (pushed_by w k d x) in let g = p.op in
    both_ways P (may_push c k g) _ _ _ _
    (λ _. both_ways P (goes_itself c g) _ _ _ _
    (λ _. both_ways P (has_its_slot c g p.slot) _ _ _ _
    (λ _. let d = outstanding (begun c g p.slot) k g in
    sends_own share w k g d (keeps_so w.client c d q (keeps_begun c k g p.slot)) h)
    (λ _. becomes share w c q.same.who h))
    (λ _. let d = asked c k g in asks_attach share w k g d (keeps_so w.client c d q (keeps_asked c k g)) h))
    (λ _. becomes share w c q.same.who h)

pushes : (share : List ℕ) (w : World) (k : ℕ) (slotless : List ℕ) (pick : Option Pick) → KindsHold share w
    → KindsHold share (changed w (Push k slotless pick))
pushes share w k slotless pick h =
    both_ways (λ d x. KindsHold share (pushed_by w k d x)) (w.client.ready k) _ _ _ _
    (λ _. picks share w k (settle_no_slots w.client k slotless) pick (keeps_no_slots w.client k slotless) h)
    (λ _. either (λ x. KindsHold share (pushed_by w k w.client x)) (some_unsettled w.client w.client.taken) _ _
    (λ _. becomes share w w.client refl h) (λ _. becomes share w w.client refl h))

-- ---- Serve

absorbs_front : (share : List ℕ) (w : World) (k : ℕ) (x : Sent) (rest : List Sent) → (w.conns k).up ≡ x ∷ rest
    → KindsHold share w → KindsHold share (absorbed w k x rest (answer w x))
absorbs_front share w k x rest is h =
    let A = answer w x in let kind = Piped share in
    record {
      who = h.who;
      waits = put_waits share w.conns k (behind_front (w.conns k) rest) (rest_ask share (w.conns k).up x rest is (h.waits k)) h.waits;
      sorted = answer_sorted share w.server w.moment x.message (first_asks share (w.conns k).up x rest is (h.waits k))
          h.sorted x.message.command;
      bare = bare_more kind w.server.epoch A.server.epoch w.records A.records
          (answered_by w.server w.moment x.message x.message.command refl).epoch
          (λ piped g. answer_bare kind w.server w.moment x.message h.sorted piped g x.message.command) h.bare;
    }

-- a reply leaves what waits to be served
says : (share : List ℕ) (w : World) (k : ℕ) (y : Received) → KindsHold share w → KindsHold share (record w {
  conns = put w.conns k (say_down (w.conns k) y);
})
says share w k y h =
    let d = say_down (w.conns k) y in
    carries share w (put w.conns k d)
    (put_waits share w.conns k d (either (λ (e : Conn). AllAsk share e.up) (w.conns k).client_open (record (w.conns k) {
      down = (w.conns k).down ++ y ∷ [];
    }) (w.conns k) (λ _. h.waits k) (λ _. h.waits k)) h.waits) h

serves : (share : List ℕ) (w : World) (k : ℕ) → KindsHold share w → (xs : List Sent) → (w.conns k).up ≡ xs
    → KindsHold share (serve_front w k xs)
serves share w k h [] is = h
serves share w k h (x ∷ rest) is =
    let A = answer w x in says share (absorbed w k x rest A) k (record {
      token = x.token;
      reply = A.reply;
      place = w.log.places;
    }) (absorbs_front share w k x rest is h)

absorbs : (share : List ℕ) (w : World) (k : ℕ) → KindsHold share w → (xs : List Sent) → (w.conns k).up ≡ xs
    → KindsHold share (absorb_front w k xs)
absorbs share w k h [] is = h
absorbs share w k h (x ∷ rest) is = absorbs_front share w k x rest is h

-- ---- Restart and Crash

restarted_sorted : (kind : Bool) (s : Server) (rs : List Record) → Bare kind s.epoch rs → NoTrees (recovered_from s rs)
    → ((x : ℕ) → (fold (rs ++ recovery_records rs)).present x ≡ false) → Sorted kind (recovered_from s rs)
restarted_sorted kind s rs b none absent = (
  λ x id p h. no_tree kind p (sym (ap (λ ts. tree_in ts id) (none x (absent x))) ∙ h),
  bare_opens kind (fold (rs ++ recovery_records rs)).epoch (rs ++ recovery_records rs) (bare_anew kind s rs b),
)
  where
    no_tree : (kind p : Bool) → None ≡ Some p → p ≡ kind
    no_tree kind p e = absurd (cc)

restarts : (share : List ℕ) (w : World) → Empties (restarted w) → KindsHold share w → KindsHold share (restarted w)
restarts share w e h =
    record {
      who = h.who;
      waits = λ k. none_ask share;
      sorted = restarted_sorted (Piped share) w.server w.records h.bare e.none e.absent;
      bare = bare_anew (Piped share) w.server w.records h.bare;
    }

-- ---- Take

ends_dialog : (share : List ℕ) (w : World) (k session tree : ℕ) → KindsHold share w
    → KindsHold share (dialog_ended w k (IsReady k session tree))
ends_dialog share w k session tree h =
    ended_well (KindsHold share) w k session tree (λ _. becomes share w (bind_channel w.client k) refl h)
    (λ _ _. becomes share w (begin_session w.client k session tree) refl h)
    (cuts_one share _ k (becomes share w (leave_dialog w.client k) refl h))

takes_dialog : (share : List ℕ) (w : World) (k : ℕ) (r : Reply) (d : DialogStep) → KindsHold share w → KindsHold share (dialog_took w k r d)
takes_dialog share w k r (GoesOn stage) h = sends_dialog share (with_client w (went_on w.client k stage r)) k stage
    (becomes share w (went_on w.client k stage r) refl h)
takes_dialog share w k r Accepts h = sends_dialog share (with_client w (accepted w.client k)) k AskedTree
    (becomes share w (accepted w.client k) refl h)
takes_dialog share w k r Binds h = ends_dialog share w k w.client.session w.client.tree h
takes_dialog share w k r Readies h = ends_dialog share w k w.client.pending r.tree_id h
takes_dialog share w k r (Refuses status) h = cuts_one share _ k (becomes share w _ refl h)

hears : (share : List ℕ) (w : World) (k g : ℕ) (asking : Bool) (r : Reply) (place : ℕ) → KindsHold share w
    → (h : Hearing) → KindsHold share (with_client (closed_by w k (act_heard h)) (hear w.client g asking r place h))
hears share w k g asking r place i (Settles o) = becomes share w (hear w.client g asking r place (Settles o))
    (keeps_settle w.client g asking r place o).same.who i
hears share w k g asking r place i GoesAgain = becomes share w (answered w.client g) refl i
hears share w k g asking r place i Attaches = becomes share w (hear w.client g asking r place Attaches) refl i
hears share w k g asking r place i EndsSession = becomes share (closed_by w k CloseChannels)
    (hear w.client g asking r place EndsSession) refl (cuts_all share w i)

took : (share : List ℕ) (w : World) (k g : ℕ) (asking : Bool) (r : Reply) (place : ℕ) → KindsHold share w
    → KindsHold share (op_took w k g asking r place)
took share w k g asking r place i =
    both_ways (λ c x. KindsHold share (with_client (closed_by w k x) c)) (is_awaited w.client k g asking)
    (hear w.client g asking r place (heard w.client g asking r)) w.client (act_heard (heard w.client g asking r))
    Nothing
    (λ _. hears share w k g asking r place i (heard w.client g asking r)) (λ _. i)

takes_by : (share : List ℕ) (w : World) (k : ℕ) (r : Reply) (place : ℕ) → KindsHold share w → (t : Token)
    → KindsHold share (took_by w k r place t)
takes_by share w k r place h ForDialog = takes_dialog share w k r (dialog_step (w.client.stage k) r.status) h
takes_by share w k r place h (ForOp g) = took share w k g false r place h
takes_by share w k r place h (ForAttach g) = took share w k g true r place h

takes : (share : List ℕ) (w : World) (k : ℕ) → KindsHold share w → (ys : List Received) → KindsHold share (take_reply w k ys)
takes share w k h [] = h
takes share w k h (y ∷ rest) =
    let v = behind_reply w k rest in takes_by share v k y.reply y.place
    (carries share w v.conns (put_waits share w.conns k _ (h.waits k) h.waits) h) y.token

-- ---- Cut

cut_from : (share : List ℕ) (w : World) (k : ℕ) (a : Act) → KindsHold share w → KindsHold share (cut_by w k a)
cut_from share w k CloseChannel h = cuts_one share w k h
cut_from share w k CloseChannels h = cuts_all share w h
cut_from share w k Nothing h = cuts_one share w k h
cut_from share w k (Sends g) h = cuts_one share w k h
cut_from share w k (Asks g) h = cuts_one share w k h
cut_from share w k AllSettled h = cuts_one share w k h

cut_who : (c : Client) (k : ℕ) → (cut_after c k).who ≡ c.who
cut_who c k = either (λ (d : Client). d.who ≡ c.who) (c.ready k) _ _ (λ _. either (λ (d : Client). d.who ≡ c.who)
    (ends_at_cut c) _ _ (λ _. refl) (λ _. refl)) (λ _. refl)

cut_client : (share : List ℕ) (w : World) (k : ℕ) (a : Act) (c : Client) → c.who ≡ w.client.who → KindsHold share w
    → KindsHold share (with_client (cut_by w k a) c)
cut_client share w k CloseChannel c e h = becomes share (cut_by w k CloseChannel) c e (cut_from share w k CloseChannel h)
cut_client share w k CloseChannels c e h = becomes share (cut_by w k CloseChannels) c e (cut_from share w k CloseChannels h)
cut_client share w k Nothing c e h = becomes share (cut_by w k Nothing) c e (cut_from share w k Nothing h)
cut_client share w k (Sends g) c e h = becomes share (cut_by w k (Sends g)) c e (cut_from share w k (Sends g) h)
cut_client share w k (Asks g) c e h = becomes share (cut_by w k (Asks g)) c e (cut_from share w k (Asks g) h)
cut_client share w k AllSettled c e h = becomes share (cut_by w k AllSettled) c e (cut_from share w k AllSettled h)

cuts : (share : List ℕ) (w : World) (k : ℕ) → KindsHold share w → KindsHold share (changed w (Cut k))
cuts share w k h =
    either (λ v. KindsHold share v) (w.client.ready k) _ _ (λ _. cut_client share w k (cut_act w.client k)
    (cut_after w.client k) (cut_who w.client k) h) (λ _. cuts_one share _ k (becomes share w _ refl h))

-- ---- every event

changes : (share : List ℕ) (w : World) (e : Event) → Empties (changed w e) → KindsHold share w → KindsHold share (changed w e)
changes share w (Submit g op) v h = either (λ c. KindsHold share (with_client w c)) (may_take w.client g op) _ _
    (λ _. becomes share w _ refl h) (λ _. becomes share w w.client refl h)
changes share w (Open k) v h = opens share w k h
changes share w (Push k slotless pick) v h = pushes share w k slotless pick h
changes share w (Serve k) v h = serves share w k h (w.conns k).up refl
changes share w (Take k) v h = takes share w k h (w.conns k).down
changes share w (Cut k) v h = cuts share w k h
changes share w (Drop k) v h = drops share w k h
changes share w Restart v h = restarts share w v h
changes share w (Crash k true) v h = restarts share (absorb_front w k (w.conns k).up) v (absorbs share w k h (w.conns k).up refl)
changes share w (Crash k false) v h = restarts share w v h
changes share w (Wait n) v h = h
changes share w (Finish refusal) v h = becomes share w (finish w.client (NoSession refusal)) refl h

later_holds : (share : List ℕ) (w : World) (n : ℕ) → KindsHold share w → KindsHold share (later w n)
later_holds share w n h = record { who = h.who; waits = h.waits; sorted = h.sorted; bare = h.bare }

pub keeps : (share : List ℕ) (w : World) (e : Event) → Empties (happens w e) → KindsHold share w → KindsHold share (happens w e)
keeps share w e v h =
    either (λ u. Empties u → KindsHold share u) (is_possible w e) (later (changed w e) _) w
    (λ _ u. later_holds share (changed w e) _ (changes share w e (record { none = u.none; absent = u.absent }) h)) (λ _ u. h) v

-- ---- the first world, and what the laws above take of it

empties : (z : Settings) (es : List Event) → Empties (run es (start z))
empties z es = record { none = (fitting z es).no_trees; absent = (stored z es).present }

first_empties : (z : Settings) → Empties (start z)
unfolding run
first_empties z = empties z []

pub begins : (z : Settings) → KindsHold z.who.share (start z)
begins z =
    let s = blank_server z in let b : Bare (Piped z.who.share) s.epoch [] = λ piped g. folds_nothing g [] in let e = first_empties z in
    record {
      who = refl;
      waits = λ k. none_ask z.who.share;
      sorted = restarted_sorted (Piped z.who.share) s [] b e.none e.absent;
      bare = bare_anew (Piped z.who.share) s [] b;
    }

pub trees_of : (share : List ℕ) (w : World) → KindsHold share w → TreeKinds w.client w.server
trees_of share w h = let p = ap (λ l. same_name l pipes_name) (sym h.who) in λ x id b g. h.sorted.0 x id b g ∙ p
