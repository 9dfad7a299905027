-- Cuts, replies that end the session, and the dialogs.
use Rattle.std.proofs.Common.{◌≡◌, ℕ, ◌+◌, ◌==◌, nat_lt, Bool, true, false, not, ◌&&◌, if◌then◌else◌, List, refl, sym}
use Rattle.std.proofs.Common.{ap, ◌∙◌, subst, arith, Option, Some, None, is_some}
use Rattle.spec_exchange.specs.Table.{put}
use Rattle.spec_exchange.specs.Status.{success, more_processing_required}
use Rattle.spec_exchange.specs.State.{Reply, Accept}
use Rattle.spec_exchange.specs.Operations.{Refusal, BadToken, HadStatus}
use Rattle.spec_exchange.specs.Client.{Client, Stage, Apart, SaidNegotiate, SaidFirst, SaidSecond, AskedTree, ends_at_cut, cut_channel}
use Rattle.spec_exchange.specs.Client.{end_session, unmade, leave_dialog, bind_channel, begin_session}
use Rattle.spec_exchange.specs.Settling.{Heard as Hearing, Settles, GoesAgain, Attaches, EndsSession, answered, heard, hear, is_awaited}
use Rattle.spec_exchange.specs.ClientStep.{Act, Nothing, CloseChannel, CloseChannels, act_heard}
use Rattle.spec_exchange.specs.ClientStep.{becomes_ready}
use Rattle.spec_exchange.specs.Dialogs.{DialogStep, GoesOn, Accepts, Binds, Readies, Refuses, dialog_step, accepted}
use Rattle.spec_exchange.specs.Dialogs.{dialog_message}
use Rattle.spec_exchange.specs.Network.{World as Values, Conn, Token, ForDialog, ForOp, ForAttach, with_client, send_up}
use Rattle.spec_exchange.specs.Network.{fresh, client_off, one_cut, cut_by, closed_by, dialog_took, max_channel}
use Rattle.spec_exchange.specs.Step.{step}
use Rattle.spec_commands.specs.ReplyOf.{reply_of}
use Rattle.spec_world.specs.Settings.{WorldSettings}
use Rattle.spec_world.specs.Messages.{HeardMessage}
use Rattle.spec_world.specs.Ends.{ClientEnd}
use Rattle.spec_world.specs.Sending.{line_frame, spent, sealed_on}
use Rattle.spec_world.specs.Dialog.{line_response, dialog_response, status_due, dialog_fault, paid_in, noted_heard, ended_on}
use Rattle.spec_world.specs.Dialog.{accepted_end, bound_end}
use Rattle.spec_world.specs.World.{World, Wires, queued, with_values, with_client_end, client_end_off, one_off}
use Rattle.spec_world.specs.World.{closed_wires, off_by, cut_wires}
use Rattle.spec_world.specs.World.{command_asked, op_heard, line_heard, line_hears, dialog_off, channel_bound}
use Rattle.spec_world.specs.World.{dialog_reply, dialog_wires, dialog_passed, dialog_hears, hears, opened_wires, greeting_of, fresh_wires}
use Rattle.law_ties.specs.channel_numbers.Counted.{makes_new, binds, Counted}
use Rattle.law_ties.proofs.channel_numbers.Moves.{put_same, put_other, put_field, not_both, remembered, IsKeptIn}
use Rattle.law_ties.proofs.channel_numbers.Moves.{kept_more, kept_last, Unmoved, Next, unmoved, closes}
use Rattle.law_ties.proofs.channel_numbers.Moves.{ended, goes_to, asks, begins, binds_one}
use Rattle.law_ties.proofs.channel_numbers.Quiet.{Same, same, hear_same}

-- ---- an end closes: what its client makes of it

unmade_other : (k j : ℕ) (o : Option ℕ) → (j == k) ≡ false → o ≡ Some j → unmade k o ≡ Some j
unmade_other k j o q e = ap (unmade k) e ∙ ap (λ b. if b then None else Some j) q

none_or : (b : Bool) (h j : ℕ) → (if b then None else Some h) ≡ Some j → Some h ≡ Some j
none_or true h j e = absurd (let q : None ≡ Some j = e in cc)
none_or false h j e = e

unmade_was : (k j : ℕ) (o : Option ℕ) → unmade k o ≡ Some j → o ≡ Some j
unmade_was k j None e = e
unmade_was k j (Some h) e = none_or (h == k) h j e

-- the wires may have any client's end there
left_at : (w v : World) (k : ℕ) (u : Wires) → v.values.client.live ≡ w.values.client.live
    → v.values.client.making ≡ unmade k w.values.client.making → v.values.client.ready ≡ w.values.client.ready
    → v.values.client.stage ≡ put w.values.client.stage k Apart → v.values.conns ≡ put w.values.conns k (client_off (w.values.conns k))
    → ((j : ℕ) → (j == k) ≡ false → v.wires j ≡ w.wires j) → v.numbers ≡ w.numbers → v.accepted ≡ w.accepted
    → w.values.client.ready k ≡ false → Counted w → Next w v
left_at w v k u live making ready stage conns wires numbers more idle i =
    closes w v k (record {
      elsewhere = record {
        ready = λ j q. ap (λ (f : ℕ → Bool). f j) ready;
        stage = λ j q. ap (λ (f : ℕ → Stage). f j) stage ∙ put_other w.values.client.stage k j Apart q;
        is_open = λ j q. ap (λ (f : ℕ → Conn). (f j).client_open) conns
            ∙ ap (λ (x : Conn). x.client_open) (put_other w.values.conns k j (client_off (w.values.conns k)) q);
        end_stage = λ j q. ap (λ (x : Wires). x.client_end.stage) (wires j q);
        channel = λ j q. ap (λ (x : Wires). x.client_end.channel) (wires j q);
        ends = λ j q. ap (λ (x : Wires). remembered x.client_end) (wires j q);
      };
      live = live;
      kept = λ j q e. making ∙ unmade_other k j w.values.client.making q e;
      left = λ j e. unmade_was k j w.values.client.making (sym making ∙ e);
      ready = ap (λ (f : ℕ → Bool). f k) ready ∙ idle;
      stage = ap (λ (f : ℕ → Stage). f k) stage ∙ put_same w.values.client.stage k Apart;
      is_open = ap (λ (f : ℕ → Conn). (f k).client_open) conns
          ∙ ap (λ (x : Conn). x.client_open) (put_same w.values.conns k (client_off (w.values.conns k)));
      numbers = numbers;
      accepted = more;
    }) i

-- ---- Cut

abbrev act_by : Bool → Bool → Act
act_by ready last = if ready && last then CloseChannels else Nothing

abbrev cut_client : Client → ℕ → Bool → Bool → Client
cut_client c k ready last = if ready then (if last then end_session c else cut_channel c k) else c

abbrev cut_values : Values → ℕ → Bool → Bool → Values
cut_values v k ready last =
    if ready then with_client (cut_by v k (act_by ready last)) (cut_client v.client k ready last)
    else one_cut (with_client v (leave_dialog v.client k)) k

abbrev cut_world : World → ℕ → Bool → Bool → World
cut_world w k ready last =
    if ready then with_values (off_by w k (act_by ready last)) (cut_values w.values k ready last)
    else with_values (one_off w k) (cut_values w.values k ready last)

cut_by_tests : (w : World) (k : ℕ) (ready last : Bool) → w.values.client.ready k ≡ ready → Counted w → Next w (cut_world w k ready last)
cut_by_tests w k true true is i =
    ended w (cut_world w k true true) (record {
      live = refl;
      making = refl;
      ready = λ j. refl;
      stage = λ j. refl;
      is_open = λ j. refl;
      numbers = refl;
    }) i
cut_by_tests w k true false is i =
    let a = i.apart k is in
    closes w (cut_world w k true false) k (record {
      elsewhere = record {
        ready = λ j q. put_other w.values.client.ready k j false q;
        stage = λ j q. refl;
        is_open = λ j q. ap (λ (x : Conn). x.client_open) (put_other w.values.conns k j (client_off (w.values.conns k)) q);
        end_stage = λ j q. ap (λ (x : Wires). x.client_end.stage) (put_other w.wires k j (client_end_off (w.wires k)) q);
        channel = λ j q. ap (λ (x : Wires). x.client_end.channel) (put_other w.wires k j (client_end_off (w.wires k)) q);
        ends = λ j q. ap (λ (x : Wires). remembered x.client_end) (put_other w.wires k j (client_end_off (w.wires k)) q);
      };
      live = refl;
      kept = λ j q e. e;
      left = λ j e. e;
      ready = put_same w.values.client.ready k false;
      stage = a.0;
      is_open = ap (λ (x : Conn). x.client_open) (put_same w.values.conns k (client_off (w.values.conns k)));
      numbers = refl;
      accepted = refl;
    }) i
cut_by_tests w k false last is i =
    left_at w (cut_world w k false last) k (w.wires k) refl refl refl refl refl
    (λ j q. put_other w.wires k j (client_end_off (w.wires k)) q) refl refl is i

pub cut_next : (w : World) (k : ℕ) → Counted w → Next w (cut_wires w k)
cut_next w k i = cut_by_tests w k (w.values.client.ready k) (ends_at_cut w.values.client) refl i

-- ---- a line's reply

abbrev heard_act : Bool → Hearing → Act
heard_act awaited h = if awaited then act_heard h else Nothing

abbrev heard_world : World → ℕ → ClientEnd → Bool → Hearing → Client → World
heard_world w k n awaited h d =
    with_values (closed_wires (with_client_end w k n) k (heard_act awaited h))
    (with_client (closed_by w.values k (heard_act awaited h)) (if awaited then d else w.values.client))

kept_world : (w : World) (k : ℕ) (n : ClientEnd) (d : Client) → n.stage ≡ (w.wires k).client_end.stage
    → n.channel ≡ (w.wires k).client_end.channel → remembered n ≡ remembered (w.wires k).client_end → Same w.values.client d
    → Unmoved w (with_values (with_client_end w k n) (with_client w.values d))
kept_world w k n d a b r s = record {
  live = s.live;
  making = s.making;
  ready = λ j. ap (λ (f : ℕ → Bool). f j) s.ready;
  stage = λ j. ap (λ (f : ℕ → Stage). f j) s.stage;
  is_open = λ j. refl;
  end_stage = λ j. put_field (λ (x : Wires). x.client_end.stage) w.wires k (record (w.wires k) { client_end = n }) a j;
  channel = λ j. put_field (λ (x : Wires). x.client_end.channel) w.wires k (record (w.wires k) { client_end = n }) b j;
  ends = λ j. put_field (λ (x : Wires). remembered x.client_end) w.wires k (record (w.wires k) { client_end = n }) r j;
  numbers = refl;
  accepted = refl;
}

heard_next : (w : World) (k g : ℕ) (asking : Bool) (r : Reply) (place : ℕ) (n : ClientEnd) (awaited : Bool) (h : Hearing)
    → n.stage ≡ (w.wires k).client_end.stage → n.channel ≡ (w.wires k).client_end.channel
    → remembered n ≡ remembered (w.wires k).client_end → Counted w
    → Next w (heard_world w k n awaited h (hear w.values.client g asking r place h))
heard_next w k g asking r place n false h a b m i =
    unmoved w (heard_world w k n false h (hear w.values.client g asking r place h))
    (kept_world w k n w.values.client a b m (same w.values.client)) i
heard_next w k g asking r place n true EndsSession a b m i =
    ended w (heard_world w k n true EndsSession (end_session (answered w.values.client g))) (record {
      live = refl;
      making = refl;
      ready = λ j. refl;
      stage = λ j. refl;
      is_open = λ j. refl;
      numbers = refl;
    }) i
heard_next w k g asking r place n true (Settles o) a b m i =
    unmoved w (heard_world w k n true (Settles o) (hear w.values.client g asking r place (Settles o)))
    (kept_world w k n (hear w.values.client g asking r place (Settles o)) a b m
    (hear_same w.values.client g asking r place (Settles o) refl)) i
heard_next w k g asking r place n true GoesAgain a b m i =
    unmoved w (heard_world w k n true GoesAgain (hear w.values.client g asking r place GoesAgain))
    (kept_world w k n (hear w.values.client g asking r place GoesAgain) a b m (hear_same w.values.client g asking r place GoesAgain refl)) i
heard_next w k g asking r place n true Attaches a b m i =
    unmoved w (heard_world w k n true Attaches (hear w.values.client g asking r place Attaches))
    (kept_world w k n (hear w.values.client g asking r place Attaches) a b m (hear_same w.values.client g asking r place Attaches refl)) i

op_next : (w : World) (k g : ℕ) (asking : Bool) (x : HeardMessage) (place : ℕ) → Counted w → Next w (op_heard w k g asking x place)
op_next w k g asking x place i =
    let c = w.values.client in
    let r = reply_of (command_asked c g asking) x.header x.bytes in
    heard_next w k g asking r place (paid_in (w.wires k).client_end x.header) (is_awaited c k g asking)
    (heard c g asking r) refl refl refl i

line_heard_next : (w : World) (k : ℕ) (x : HeardMessage) (place : ℕ) (o : Option Token) → Counted w → Next w (line_heard w k x place o)
line_heard_next w k x place None i = cut_next w k i
line_heard_next w k x place (Some ForDialog) i = cut_next w k i
line_heard_next w k x place (Some (ForOp g)) i = op_next w k g false x place i
line_heard_next w k x place (Some (ForAttach g)) i = op_next w k g true x place i

line_next : (w : World) (k place : ℕ) (o : Option HeardMessage) → Counted w → Next w (line_hears w k place o)
line_next w k place None i = cut_next w k i
line_next w k place (Some x) i = line_heard_next w k x place ((w.wires k).client_end.awaited x.header.message) i

-- ---- a dialog that is refused

refused_next : (w : World) (k : ℕ) (why : Refusal) → w.values.client.ready k ≡ false → Counted w → Next w (dialog_off w k why)
refused_next w k why idle i =
    left_at w (dialog_off w k why) k (w.wires k) refl refl refl refl refl
    (λ j q. put_other w.wires k j (client_end_off (w.wires k)) q) refl refl idle i

-- what is known of a connection whose dialog is on its way
record Talking (w : World) (k : ℕ) (stage : Stage) : Type 0 where
  counted : Counted w
  is_open : (w.values.conns k).client_open ≡ true
  at : w.values.client.stage k ≡ stage
  idle : w.values.client.ready k ≡ false

idle_by : (w : World) (k : ℕ) (stage : Stage) (b : Bool) → w.values.client.ready k ≡ b → (stage ≡ Apart → ⊥)
    → w.values.client.stage k ≡ stage → Counted w → b ≡ false
idle_by w k stage false is off at i = refl
idle_by w k stage true is off at i = absurd (off (sym at ∙ (let a = i.apart k is in a.0)))

talking : (w : World) (k : ℕ) (stage : Stage) → (stage ≡ Apart → ⊥) → (w.wires k).client_end.stage ≡ stage
    → (w.values.conns k).client_open ≡ true → Counted w → Talking w k stage
talking w k stage off at co i =
    let here = sym (i.stages k co) ∙ at in record {
      counted = i;
      is_open = co;
      at = here;
      idle = idle_by w k stage (w.values.client.ready k) refl off here i;
    }

either : {X : Type 0} (P : X → Type 0) (b : Bool) (x y : X) → (b ≡ true → P x) → (b ≡ false → P y) → P (if b then x else y)
either P true x y f g = f refl
either P false x y f g = g refl

abbrev Passes : WorldSettings → World → ℕ → Stage → HeardMessage → DialogStep → Type 0
Passes z w k stage x s =
    Next w (with_values (dialog_wires z w k stage x s) (dialog_took w.values k (dialog_reply w stage x) s))

-- ---- a dialog that goes on

-- the wires behind it, and its client's end there
wires_elsewhere : (wires : ℕ → Wires) (k : ℕ) (a u : Wires) (j : ℕ) → (j == k) ≡ false → put (put wires k a) k u j ≡ wires j
wires_elsewhere wires k a u j q = put_other (put wires k a) k j u q ∙ put_other wires k j a q

goes_on : (w v : World) (k : ℕ) (stage next : Stage) (a u : Wires) (d : Conn) → Talking w k stage → makes_new next ≡ makes_new stage
    → binds next ≡ binds stage → (next ≡ AskedTree → ⊥) → v.values.client.live ≡ w.values.client.live
    → v.values.client.making ≡ w.values.client.making
    → v.values.client.ready ≡ w.values.client.ready → v.values.client.stage ≡ put w.values.client.stage k next
    → v.values.conns ≡ put w.values.conns k d → v.wires ≡ put (put w.wires k a) k u → v.numbers ≡ w.numbers
    → v.accepted ≡ w.accepted → u.client_end.stage ≡ next → Next w v
goes_on w v k stage next a u d t makes bound before live making ready stages conns wires numbers more is =
    let i = t.counted in
    let at = t.at in
    goes_to w v k next (record {
      elsewhere = record {
        ready = λ j q. ap (λ (f : ℕ → Bool). f j) ready;
        stage = λ j q. ap (λ (f : ℕ → Stage). f j) stages ∙ put_other w.values.client.stage k j next q;
        is_open = λ j q. ap (λ (f : ℕ → Conn). (f j).client_open) conns
            ∙ ap (λ (x : Conn). x.client_open) (put_other w.values.conns k j d q);
        end_stage = λ j q. ap (λ (f : ℕ → Wires). (f j).client_end.stage) wires
            ∙ ap (λ (x : Wires). x.client_end.stage) (wires_elsewhere w.wires k a u j q);
        channel = λ j q. ap (λ (f : ℕ → Wires). (f j).client_end.channel) wires
            ∙ ap (λ (x : Wires). x.client_end.channel) (wires_elsewhere w.wires k a u j q);
        ends = λ j q. ap (λ (f : ℕ → Wires). remembered (f j).client_end) wires
            ∙ ap (λ (x : Wires). remembered x.client_end) (wires_elsewhere w.wires k a u j q);
      };
      live = live;
      kept = λ j q e. making ∙ e;
      made = λ e. making ∙ i.making k (ap makes_new at ∙ (sym makes ∙ e));
      dead = λ j e. i.not_live j (sym making ∙ e);
      bound = λ e. bound ∙ (ap binds (sym at) ∙ i.none_binds e k);
      before = before;
      ready = ap (λ (f : ℕ → Bool). f k) ready ∙ t.idle;
      is = ap (λ (f : ℕ → Stage). f k) stages ∙ put_same w.values.client.stage k next;
      end_stage = ap (λ (f : ℕ → Wires). (f k).client_end.stage) wires
          ∙ (ap (λ (x : Wires). x.client_end.stage) (put_same (put w.wires k a) k u) ∙ is);
      numbers = numbers;
      accepted = more;
    }) i

first_next : (z : WorldSettings) (w : World) (k : ℕ) (bound : Bool) (x : HeardMessage) → Talking w k (SaidNegotiate bound)
    → Passes z w k (SaidNegotiate bound) x (GoesOn (SaidFirst bound))
first_next z w k bound x t =
    goes_on w (with_values (dialog_wires z w k (SaidNegotiate bound) x (GoesOn (SaidFirst bound)))
    (dialog_took w.values k (dialog_reply w (SaidNegotiate bound) x) (GoesOn (SaidFirst bound)))) k
    (SaidNegotiate bound) (SaidFirst bound)
    (record (w.wires k) { client_end = noted_heard (w.wires k).client_end (SaidNegotiate bound) x }) _ _ t refl refl
    (λ e. (let h : SaidFirst bound ≡ AskedTree = e in cc)) refl refl refl refl refl refl refl refl refl

second_next : (z : WorldSettings) (w : World) (k : ℕ) (bound : Bool) (x : HeardMessage) → Talking w k (SaidFirst bound)
    → Passes z w k (SaidFirst bound) x (GoesOn (SaidSecond bound))
second_next z w k bound x t =
    goes_on w (with_values (dialog_wires z w k (SaidFirst bound) x (GoesOn (SaidSecond bound)))
    (dialog_took w.values k (dialog_reply w (SaidFirst bound) x) (GoesOn (SaidSecond bound)))) k
    (SaidFirst bound) (SaidSecond bound)
    (record (w.wires k) { client_end = noted_heard (w.wires k).client_end (SaidFirst bound) x }) _ _ t refl refl
    (λ e. (let h : SaidSecond bound ≡ AskedTree = e in cc)) refl refl refl refl refl refl refl refl refl

-- ---- a new session is accepted

asks_next : (z : WorldSettings) (w : World) (k : ℕ) (x : HeardMessage) → Talking w k (SaidSecond false)
    → Passes z w k (SaidSecond false) x Accepts
asks_next z w k x t =
    let v = with_values (dialog_wires z w k (SaidSecond false) x Accepts)
    (dialog_took w.values k (dialog_reply w (SaidSecond false) x) Accepts) in
    let c = w.values.client in
    let n = accepted_end (w.wires k).client_end x c.pending in
    let a : Wires = record (w.wires k) { client_end = n } in
    let here = put w.wires k a k in
    let m = dialog_message (accepted c k) k here.client_end.purse.next AskedTree in
    let u = queued here (sealed_on (spent here.client_end 1 ForDialog)) (line_frame here.client_end m 1) in
    let d = send_up (w.values.conns k) ForDialog (dialog_message (accepted c k) k (w.values.conns k).next_id AskedTree) 1 in
    let kept : remembered (v.wires k).client_end ≡ remembered n =
    ap (λ (y : Wires). remembered y.client_end) (put_same (put w.wires k a) k u)
    ∙ ap (λ (y : Wires). remembered y.client_end) (put_same w.wires k a) in
    asks w v k (ap makes_new t.at) (record {
      elsewhere = record {
        ready = λ j q. refl;
        stage = λ j q. put_other c.stage k j AskedTree q;
        is_open = λ j q. ap (λ (y : Conn). y.client_open) (put_other w.values.conns k j d q);
        end_stage = λ j q. ap (λ (y : Wires). y.client_end.stage) (wires_elsewhere w.wires k a u j q);
        channel = λ j q. ap (λ (y : Wires). y.client_end.channel) (wires_elsewhere w.wires k a u j q);
        ends = λ j q. ap (λ (y : Wires). remembered y.client_end) (wires_elsewhere w.wires k a u j q);
      };
      live = refl;
      making = refl;
      ready = λ j. refl;
      is = put_same c.stage k AskedTree;
      end_stage = ap (λ (y : Wires). y.client_end.stage) (put_same (put w.wires k a) k u)
          ∙ ap (λ (y : Wires). y.client_end.stage) (put_same w.wires k a);
      channel = ap (λ (y : Wires). y.client_end.channel) (put_same (put w.wires k a) k u)
          ∙ ap (λ (y : Wires). y.client_end.channel) (put_same w.wires k a);
      numbers = refl;
      mine = subst (λ r. IsKeptIn v.accepted r) (sym kept)
          (kept_last w.accepted (ended_on (w.wires k).client_end x false) (remembered n) refl refl refl);
    }) t.counted

-- ---- a further channel is bound

abbrev ready_act_by : Bool → Act
ready_act_by becomes = if becomes then Nothing else CloseChannel

abbrev ready_client : Client → ℕ → ℕ → ℕ → Bool → Bool → Client
ready_client c k session tree becomes live =
    if becomes then (if live then bind_channel c k else begin_session c k session tree) else leave_dialog c k

-- behind the end of a dialog, with the world in which the client's end has changed
abbrev ready_world : World → World → ℕ → ℕ → ℕ → Bool → Bool → World
ready_world w a k session tree becomes live =
    with_values (closed_wires a k (ready_act_by becomes))
    (with_client (closed_by w.values k (ready_act_by becomes)) (ready_client w.values.client k session tree becomes live))

bound_next : (w : World) (k : ℕ) (x : HeardMessage) → Talking w k (SaidSecond true) → w.values.client.live ≡ true
    → Next w (ready_world w (channel_bound w k x) k w.values.client.session w.values.client.tree true true)
bound_next w k x t alive =
    let v = ready_world w (channel_bound w k x) k w.values.client.session w.values.client.tree true true in
    let n = bound_end (w.wires k).client_end x (w.numbers + 1) in
    let a : Wires = record (w.wires k) { client_end = n } in
    let kept : remembered (v.wires k).client_end ≡ remembered n =
    ap (λ (y : Wires). remembered y.client_end) (put_same w.wires k a) in
    binds_one w v k alive (record {
      elsewhere = record {
        ready = λ j q. put_other w.values.client.ready k j true q;
        stage = λ j q. put_other w.values.client.stage k j Apart q;
        is_open = λ j q. refl;
        end_stage = λ j q. ap (λ (y : Wires). y.client_end.stage) (put_other w.wires k j a q);
        channel = λ j q. ap (λ (y : Wires). y.client_end.channel) (put_other w.wires k j a q);
        ends = λ j q. ap (λ (y : Wires). remembered y.client_end) (put_other w.wires k j a q);
      };
      live = refl;
      making = refl;
      ready = put_same w.values.client.ready k true;
      is = put_same w.values.client.stage k Apart;
      is_open = t.is_open;
      end_stage = ap (λ (y : Wires). y.client_end.stage) (put_same w.wires k a);
      channel = ap (λ (y : Wires). y.client_end.channel) (put_same w.wires k a);
      numbers = refl;
      mine = subst (λ r. IsKeptIn v.accepted r) (sym kept)
          (kept_last w.accepted (ended_on (w.wires k).client_end x true) (remembered n) refl refl refl);
      grown = λ r old. kept_more w.accepted (ended_on (w.wires k).client_end x true) r old;
    }) t.counted

-- while a dialog binds, a session is live
alive_by : (w : World) (k : ℕ) (b : Bool) → w.values.client.live ≡ b → binds (w.values.client.stage k) ≡ true → Counted w → b ≡ true
alive_by w k true is e i = refl
alive_by w k false is e i = not_both (binds (w.values.client.stage k)) e (i.none_binds is k)

becomes_bound : (c : Client) → c.live ≡ true → becomes_ready c c.session ≡ true
becomes_bound c e = ap (λ b. if b then c.session == c.session else nat_lt c.session c.session && nat_lt c.session_number 0xffff_ffff) e
    ∙ own_session c.session
  where
    own_session : (n : ℕ) → (n == n) ≡ true
    own_session n = grind arith

binds_next : (z : WorldSettings) (w : World) (k : ℕ) (x : HeardMessage) → Talking w k (SaidSecond true)
    → Passes z w k (SaidSecond true) x Binds
binds_next z w k x t =
    let c = w.values.client in
    let alive : c.live ≡ true = alive_by w k c.live refl (ap binds t.at) t.counted in
    subst (λ b. Next w (ready_world w (channel_bound w k x) k c.session c.tree b c.live)) (sym (becomes_bound c alive))
    (subst (λ b. Next w (ready_world w (channel_bound w k x) k c.session c.tree true b)) (sym alive) (bound_next w k x t alive))

-- ---- a new session is ready, or there is no number for it

abbrev tree_end : World → ℕ → HeardMessage → World
tree_end w k x = with_client_end w k (record (paid_in (w.wires k).client_end x.header) { stage = Apart })

begun_next : (w : World) (k : ℕ) (x : HeardMessage) (session tree : ℕ) (becomes : Bool) → Talking w k AskedTree
    → Next w (ready_world w (tree_end w k x) k session tree becomes false)
begun_next w k x session tree true t =
    let v = ready_world w (tree_end w k x) k session tree true false in
    let a : Wires = record (w.wires k) { client_end = record (paid_in (w.wires k).client_end x.header) { stage = Apart } } in
    begins w v k t.at (record {
      elsewhere = record {
        ready = λ j q. put_other w.values.client.ready k j true q;
        stage = λ j q. put_other w.values.client.stage k j Apart q;
        is_open = λ j q. refl;
        end_stage = λ j q. ap (λ (y : Wires). y.client_end.stage) (put_other w.wires k j a q);
        channel = λ j q. ap (λ (y : Wires). y.client_end.channel) (put_other w.wires k j a q);
        ends = λ j q. ap (λ (y : Wires). remembered y.client_end) (put_other w.wires k j a q);
      };
      making = refl;
      live = refl;
      ready = put_same w.values.client.ready k true;
      is = put_same w.values.client.stage k Apart;
      is_open = t.is_open;
      end_stage = ap (λ (y : Wires). y.client_end.stage) (put_same w.wires k a);
      channel = ap (λ (y : Wires). y.client_end.channel) (put_same w.wires k a);
      ends = ap (λ (y : Wires). remembered y.client_end) (put_same w.wires k a);
      numbers = refl;
      accepted = refl;
    }) t.counted
begun_next w k x session tree false t =
    let a : Wires = record (w.wires k) { client_end = record (paid_in (w.wires k).client_end x.header) { stage = Apart } } in
    left_at w (ready_world w (tree_end w k x) k session tree false false) k (w.wires k) refl refl refl refl refl
    (λ j q. wires_elsewhere w.wires k a (client_end_off (put w.wires k a k)) j q) refl refl t.idle t.counted

readies_next : (z : WorldSettings) (w : World) (k : ℕ) (x : HeardMessage) → Talking w k AskedTree → Passes z w k AskedTree x Readies
readies_next z w k x t =
    let c = w.values.client in
    let i = t.counted in
    let tree = (dialog_reply w AskedTree x).tree_id in
    let dead : c.live ≡ false = i.not_live k (i.making k (ap makes_new t.at)) in
    subst (λ b. Next w (ready_world w (tree_end w k x) k c.pending tree (becomes_ready c c.pending) b)) (sym dead)
    (begun_next w k x c.pending tree (becomes_ready c c.pending) t)

-- ---- each response of a dialog

step_next : (z : WorldSettings) (w : World) (k : ℕ) (stage : Stage) (x : HeardMessage) → Talking w k stage
    → Passes z w k stage x (dialog_step stage x.header.status)
step_next z w k Apart x t = (let idle = t.idle in refused_next w k (HadStatus x.header.status) idle t.counted)
step_next z w k (SaidNegotiate bound) x t =
    either (Passes z w k (SaidNegotiate bound) x) (x.header.status == success) (GoesOn (SaidFirst bound)) (Refuses x.header.status)
    (λ _. first_next z w k bound x t) (λ _. refused_next w k (HadStatus x.header.status) t.idle t.counted)
step_next z w k (SaidFirst bound) x t =
    either (Passes z w k (SaidFirst bound) x) (x.header.status == more_processing_required) (GoesOn (SaidSecond bound))
    (Refuses x.header.status) (λ _. second_next z w k bound x t)
    (λ _. refused_next w k (HadStatus x.header.status) t.idle t.counted)
step_next z w k (SaidSecond true) x t =
    either (Passes z w k (SaidSecond true) x) (x.header.status == success) Binds (Refuses x.header.status)
    (λ _. binds_next z w k x t) (λ _. refused_next w k (HadStatus x.header.status) t.idle t.counted)
step_next z w k (SaidSecond false) x t =
    either (Passes z w k (SaidSecond false) x) (x.header.status == success) Accepts (Refuses x.header.status)
    (λ _. asks_next z w k x t) (λ _. refused_next w k (HadStatus x.header.status) t.idle t.counted)
step_next z w k AskedTree x t =
    either (Passes z w k AskedTree x) (x.header.status == success) Readies (Refuses x.header.status)
    (λ _. readies_next z w k x t) (λ _. refused_next w k (HadStatus x.header.status) t.idle t.counted)

passed_next : (z : WorldSettings) (w : World) (k : ℕ) (stage : Stage) (x : HeardMessage) (o : Option Refusal) → Talking w k stage
    → Next w (dialog_passed z w k stage x o)
passed_next z w k stage x (Some why) t = refused_next w k why t.idle t.counted
passed_next z w k stage x None t = step_next z w k stage x t

dialog_next : (z : WorldSettings) (w : World) (k : ℕ) (stage : Stage) (o : Option HeardMessage) → Talking w k stage
    → Next w (dialog_hears z w k stage o)
dialog_next z w k stage None t = refused_next w k BadToken t.idle t.counted
dialog_next z w k stage (Some x) t =
    passed_next z w k stage x (if x.header.status == status_due stage then dialog_fault z.client (w.wires k).client_end stage x else None) t

pub hears_next : (z : WorldSettings) (w : World) (k : ℕ) (b : List ℕ) (place : ℕ) (stage : Stage)
    → (w.wires k).client_end.stage ≡ stage → (w.values.conns k).client_open ≡ true → Counted w → Next w (hears z w k b place stage)
hears_next z w k b place Apart at co i = line_next w k place (line_response (w.wires k).client_end b) i
hears_next z w k b place (SaidNegotiate bound) at co i =
    dialog_next z w k (SaidNegotiate bound) (dialog_response (w.wires k).client_end (SaidNegotiate bound) b)
    (talking w k (SaidNegotiate bound) (λ e. (let h : SaidNegotiate bound ≡ Apart = e in cc)) at co i)
hears_next z w k b place (SaidFirst bound) at co i =
    dialog_next z w k (SaidFirst bound) (dialog_response (w.wires k).client_end (SaidFirst bound) b)
    (talking w k (SaidFirst bound) (λ e. (let h : SaidFirst bound ≡ Apart = e in cc)) at co i)
hears_next z w k b place (SaidSecond bound) at co i =
    dialog_next z w k (SaidSecond bound) (dialog_response (w.wires k).client_end (SaidSecond bound) b)
    (talking w k (SaidSecond bound) (λ e. (let h : SaidSecond bound ≡ Apart = e in cc)) at co i)
hears_next z w k b place AskedTree at co i =
    dialog_next z w k AskedTree (dialog_response (w.wires k).client_end AskedTree b)
    (talking w k AskedTree (λ e. (let h : AskedTree ≡ Apart = e in cc)) at co i)

-- ---- Open: its dialog begins

may_begin : (a b c d : Bool) → (a && (not b && (not c && not d))) ≡ true → (b ≡ false) × (d ≡ false)
may_begin true false false false e = (refl, refl)
may_begin false b c d e = absurd (let h : false ≡ true = e in cc)
may_begin true true c d e = absurd (let h : false ≡ true = e in cc)
may_begin true false true d e = absurd (let h : false ≡ true = e in cc)
may_begin true false false true e = absurd (let h : false ≡ true = e in cc)

no_making : {P : Type 0} (o : Option ℕ) (j : ℕ) → is_some o ≡ false → o ≡ Some j → P
no_making o j e f = absurd (let h : true ≡ false = sym (ap is_some f) ∙ e in cc)

made_by : (live : Bool) (o : Option ℕ) (k : ℕ) → not live ≡ true → (if live then o else Some k) ≡ Some k
made_by true o k e = absurd (let h : false ≡ true = e in cc)
made_by false o k e = refl

dead_by : (live : Bool) (o : Option ℕ) (k j : ℕ) → is_some o ≡ false → (if live then o else Some k) ≡ Some j → live ≡ false
dead_by true o k j none e = no_making o j none e
dead_by false o k j none e = refl

closed_idle : (w : World) (k : ℕ) (b : Bool) → w.values.client.ready k ≡ b → (w.values.conns k).client_open ≡ false → Counted w → b ≡ false
closed_idle w k false is off i = refl
closed_idle w k true is off i = (let a = i.apart k is in not_both (w.values.conns k).client_open a.1 off)

pub opened_next : (z : WorldSettings) (w : World) (k : ℕ)
    → (nat_lt k max_channel && (not (w.values.conns k).client_open && (not (w.values.conns k).server_open
    && not (is_some w.values.client.making)))) ≡ true → Counted w → Next w (opened_wires z w k)
opened_next z w k can i =
    let c = w.values.client in
    let may = may_begin (nat_lt k max_channel) (w.values.conns k).client_open (w.values.conns k).server_open (is_some c.making) can in
    let served = (step w.values.server w.values.moment (Accept k)).reply.status == success in
    let u = fresh_wires z w (greeting_of z w k) served in
    goes_to w (opened_wires z w k) k (SaidNegotiate c.live) (record {
      elsewhere = record {
        ready = λ j q. refl;
        stage = λ j q. put_other c.stage k j (SaidNegotiate c.live) q;
        is_open = λ j q. ap (λ (x : Conn). x.client_open) (put_other w.values.conns k j (fresh c k served) q);
        end_stage = λ j q. ap (λ (x : Wires). x.client_end.stage) (put_other w.wires k j u q);
        channel = λ j q. ap (λ (x : Wires). x.client_end.channel) (put_other w.wires k j u q);
        ends = λ j q. ap (λ (x : Wires). remembered x.client_end) (put_other w.wires k j u q);
      };
      live = refl;
      kept = λ j q e. no_making c.making j may.1 e;
      made = λ e. made_by c.live c.making k e;
      dead = λ j e. dead_by c.live c.making k j may.1 e;
      bound = λ e. e;
      before = λ e. (let h : SaidNegotiate c.live ≡ AskedTree = e in cc);
      ready = closed_idle w k (c.ready k) refl may.0 i;
      is = put_same c.stage k (SaidNegotiate c.live);
      end_stage = ap (λ (x : Wires). x.client_end.stage) (put_same w.wires k u);
      numbers = refl;
      accepted = refl;
    }) i
