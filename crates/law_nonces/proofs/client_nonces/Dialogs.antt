-- Cuts, replies that end the session, and the dialogs.
use Rattle.std.proofs.Common.{◌≡◌, ℕ, ◌+◌, ◌==◌, ◌<◌, nat_lt, Bool, true, false, not, ◌&&◌, ◌||◌, if◌then◌else◌, List, refl, sym}
use Rattle.std.proofs.Common.{ap, ◌∙◌, subst, arith, Option, Some, None, is_some}
use Rattle.spec_exchange.specs.Table.{put}
use Rattle.spec_exchange.specs.Status.{success, more_processing_required}
use Rattle.spec_exchange.specs.State.{Reply, Accept}
use Rattle.spec_exchange.specs.Operations.{Refusal, BadToken, HadStatus}
use Rattle.spec_exchange.specs.Client.{Client, Stage, Apart, SaidNegotiate, SaidFirst, SaidSecond, AskedTree, ends_at_cut, cut_channel}
use Rattle.spec_exchange.specs.Client.{end_session, leave_dialog, bind_channel, begin_session}
use Rattle.spec_exchange.specs.Settling.{Heard as Hearing, Settles, GoesAgain, Attaches, EndsSession, answered, heard, hear, is_awaited}
use Rattle.spec_exchange.specs.ClientStep.{Act, Nothing, CloseChannel, CloseChannels, act_heard}
use Rattle.spec_exchange.specs.ClientStep.{becomes_ready}
use Rattle.spec_exchange.specs.Dialogs.{DialogStep, GoesOn, Accepts, Binds, Readies, Refuses, dialog_step, accepted}
use Rattle.spec_exchange.specs.Dialogs.{dialog_message}
use Rattle.spec_exchange.specs.Network.{World as Values, Token, ForDialog, ForOp, ForAttach, with_client}
use Rattle.spec_exchange.specs.Network.{one_cut, cut_by, closed_by, dialog_took, max_channel}
use Rattle.spec_exchange.specs.Step.{step}
use Rattle.spec_commands.specs.ReplyOf.{reply_of}
use Rattle.spec_world.specs.Settings.{WorldSettings}
use Rattle.spec_world.specs.Messages.{HeardMessage}
use Rattle.spec_world.specs.Ends.{ClientEnd, no_keys}
use Rattle.spec_world.specs.Sending.{line_frame, spent, sealed_on}
use Rattle.spec_world.specs.Dialog.{line_response, dialog_response, status_due, dialog_fault, paid_in}
use Rattle.spec_world.specs.Dialog.{noted_heard, accepted_end, bound_end, is_asked}
use Rattle.spec_world.specs.World.{World, Wires, queued, with_values, with_client_end, client_end_off}
use Rattle.spec_world.specs.World.{one_off, closed_wires, off_by, cut_wires}
use Rattle.spec_world.specs.World.{command_asked, op_heard, line_heard, line_hears, dialog_off, channel_bound}
use Rattle.spec_world.specs.World.{dialog_reply, dialog_wires, dialog_passed, dialog_hears, hears, opened_wires, greeting_of, fresh_wires}
use Rattle.law_server.proofs.tables.Logic.{either}
use Rattle.law_ties.specs.channel_numbers.Counted.{makes_new, binds, Counted}
use Rattle.law_ties.proofs.channel_numbers.Moves.{put_same, put_other, put_field, not_both, remembered, Unmoved}
use Rattle.law_ties.proofs.channel_numbers.Quiet.{Same, same, hear_same}
use Rattle.law_ties.proofs.events.Columns.{hear_keeps}
use Rattle.law_nonces.specs.client_nonces.Sent.{HasNewId, may_send, sender_of, SealingSends}
use Rattle.law_nonces.proofs.client_nonces.Ends.{untouched, same_seals, off_at, all_off, goes_on, accepts, bound, second_true}

-- ---- an end closes

left_off : (w v : World) (k : ℕ) → v.values.client.ready ≡ w.values.client.ready → v.values.client.stage ≡ put w.values.client.stage k Apart
    → ((j : ℕ) → (j == k) ≡ false → v.wires j ≡ w.wires j) → v.keys ≡ w.keys → v.numbers ≡ w.numbers → v.sealings ≡ w.sealings
    → v.values.client.rank ≡ w.values.client.rank → v.values.client.live ≡ w.values.client.live
    → w.values.client.ready k ≡ false → SealingSends w → SealingSends v
left_off w v k ready stage wires keys numbers seals rank live idle i =
    let r : v.values.client.ready k ≡ false = ap (λ (f : ℕ → Bool). f k) ready ∙ idle in
    let s : v.values.client.stage k ≡ Apart = ap (λ (f : ℕ → Stage). f k) stage ∙ put_same w.values.client.stage k Apart in
    off_at w v k (record {
      beside = record {
        ready = λ j q. ap (λ (f : ℕ → Bool). f j) ready;
        stage = λ j q. ap (λ (f : ℕ → Stage). f j) stage ∙ put_other w.values.client.stage k j Apart q;
        ends = λ j q. ap (λ (x : Wires). sender_of true x.client_end) (wires j q);
      };
      off = λ t. r t || is_asked (s t);
      bound = λ h. not_both (binds (v.values.client.stage k)) h (ap binds s);
      keys = keys;
      numbers = numbers;
      seals = seals;
      rank = rank;
      live = live;
    }) i

-- ---- Cut

abbrev act_by : Bool → Bool → Act
act_by ready last = if ready && last then CloseChannels else Nothing

abbrev cut_client : Client → ℕ → Bool → Bool → Client
cut_client c k ready last = if ready then (if last then end_session c else cut_channel c k) else c

abbrev cut_values : Values → ℕ → Bool → Bool → Values
cut_values v k ready last =
    if ready then with_client (cut_by v k (act_by ready last)) (cut_client v.client k ready last)
    else one_cut (with_client v (leave_dialog v.client k)) k

abbrev cut_world : World → ℕ → Bool → Bool → World
cut_world w k ready last =
    if ready then with_values (off_by w k (act_by ready last)) (cut_values w.values k ready last)
    else with_values (one_off w k) (cut_values w.values k ready last)

cut_by_tests : (w : World) (k : ℕ) (ready last : Bool) → w.values.client.ready k ≡ ready → Counted w → SealingSends w
    → SealingSends (cut_world w k ready last)
cut_by_tests w k true true is c i =
    all_off w (cut_world w k true true) (record {
      off = λ j. refl;
      apart = λ j. refl;
      keys = refl;
      numbers = refl;
      seals = refl;
      rank = refl;
      dead = refl;
    }) i
cut_by_tests w k true false is c i =
    let a = c.apart k is in
    let idle = put_same w.values.client.ready k false in
    let stage : w.values.client.stage k ≡ Apart = a.0 in
    off_at w (cut_world w k true false) k (record {
      beside = record {
        ready = λ j q. put_other w.values.client.ready k j false q;
        stage = λ j q. refl;
        ends = λ j q. ap (λ (x : Wires). sender_of true x.client_end) (put_other w.wires k j (client_end_off (w.wires k)) q);
      };
      off = λ t. idle t || is_asked (stage t);
      bound = λ h. not_both (binds (w.values.client.stage k)) h (ap binds stage);
      keys = refl;
      numbers = refl;
      seals = refl;
      rank = refl;
      live = refl;
    }) i
cut_by_tests w k false last is c i =
    left_off w (cut_world w k false last) k refl refl (λ j q. put_other w.wires k j (client_end_off (w.wires k)) q)
    refl refl refl refl refl is i

pub cut_sends : (w : World) (k : ℕ) → Counted w → SealingSends w → SealingSends (cut_wires w k)
cut_sends w k c i = cut_by_tests w k (w.values.client.ready k) (ends_at_cut w.values.client) refl c i

-- ---- a line's reply

abbrev heard_act : Bool → Hearing → Act
heard_act awaited h = if awaited then act_heard h else Nothing

abbrev heard_world : World → ℕ → ClientEnd → Bool → Hearing → Client → World
heard_world w k n awaited h d =
    with_values (closed_wires (with_client_end w k n) k (heard_act awaited h))
    (with_client (closed_by w.values k (heard_act awaited h)) (if awaited then d else w.values.client))

kept_world : (w : World) (k : ℕ) (n : ClientEnd) (d : Client) → n.stage ≡ (w.wires k).client_end.stage
    → n.channel ≡ (w.wires k).client_end.channel → remembered n ≡ remembered (w.wires k).client_end → Same w.values.client d
    → Unmoved w (with_values (with_client_end w k n) (with_client w.values d))
kept_world w k n d a b r s = record {
  live = s.live;
  making = s.making;
  ready = λ j. ap (λ (f : ℕ → Bool). f j) s.ready;
  stage = λ j. ap (λ (f : ℕ → Stage). f j) s.stage;
  is_open = λ j. refl;
  end_stage = λ j. put_field (λ (x : Wires). x.client_end.stage) w.wires k (record (w.wires k) { client_end = n }) a j;
  channel = λ j. put_field (λ (x : Wires). x.client_end.channel) w.wires k (record (w.wires k) { client_end = n }) b j;
  ends = λ j. put_field (λ (x : Wires). remembered x.client_end) w.wires k (record (w.wires k) { client_end = n }) r j;
  numbers = refl;
  accepted = refl;
}

kept_sends : (w : World) (k : ℕ) (x : HeardMessage) (d : Client) → Same w.values.client d → d.rank ≡ w.values.client.rank → SealingSends w
    → SealingSends (with_values (with_client_end w k (paid_in (w.wires k).client_end x.header)) (with_client w.values d))
kept_sends w k x d s rank i =
    let n = paid_in (w.wires k).client_end x.header in
    let u : Wires = record (w.wires k) { client_end = n } in
    let v = with_values (with_client_end w k n) (with_client w.values d) in
    untouched w v (record {
      unmoved = kept_world w k n d refl refl refl s;
      session = λ j. put_field (λ (y : Wires). y.client_end.keys.session) w.wires k u refl j;
      counter = λ j. put_field (λ (y : Wires). y.client_end.counter) w.wires k u refl j;
      keys = refl;
      seals = same_seals w v refl;
      rank = rank;
      ups = λ b y e up. (b, e);
    }) i

heard_sends : (w : World) (k g : ℕ) (asking : Bool) (r : Reply) (place : ℕ) (x : HeardMessage) (awaited : Bool)
    (h : Hearing) → SealingSends w
    → SealingSends (heard_world w k (paid_in (w.wires k).client_end x.header) awaited h (hear w.values.client g asking r place h))
heard_sends w k g asking r place x false h i = kept_sends w k x w.values.client (same w.values.client) refl i
heard_sends w k g asking r place x true EndsSession i =
    all_off w (heard_world w k (paid_in (w.wires k).client_end x.header) true EndsSession (end_session (answered w.values.client g)))
    (record {
      off = λ j. refl;
      apart = λ j. refl;
      keys = refl;
      numbers = refl;
      seals = refl;
      rank = refl;
      dead = refl;
    }) i
heard_sends w k g asking r place x true (Settles o) i =
    let stays = hear_keeps w.values.client g asking r place (Settles o) refl in
    kept_sends w k x (hear w.values.client g asking r place (Settles o))
    (hear_same w.values.client g asking r place (Settles o) refl) stays.rank i
heard_sends w k g asking r place x true GoesAgain i =
    let stays = hear_keeps w.values.client g asking r place GoesAgain refl in
    kept_sends w k x (hear w.values.client g asking r place GoesAgain)
    (hear_same w.values.client g asking r place GoesAgain refl) stays.rank i
heard_sends w k g asking r place x true Attaches i =
    let stays = hear_keeps w.values.client g asking r place Attaches refl in
    kept_sends w k x (hear w.values.client g asking r place Attaches)
    (hear_same w.values.client g asking r place Attaches refl) stays.rank i

op_sends : (w : World) (k g : ℕ) (asking : Bool) (x : HeardMessage) (place : ℕ) → SealingSends w
    → SealingSends (op_heard w k g asking x place)
op_sends w k g asking x place i =
    let c = w.values.client in
    let r = reply_of (command_asked c g asking) x.header x.bytes in
    heard_sends w k g asking r place x (is_awaited c k g asking) (heard c g asking r) i

line_heard_sends : (w : World) (k : ℕ) (x : HeardMessage) (place : ℕ) (o : Option Token) → Counted w → SealingSends w
    → SealingSends (line_heard w k x place o)
line_heard_sends w k x place None c i = cut_sends w k c i
line_heard_sends w k x place (Some ForDialog) c i = cut_sends w k c i
line_heard_sends w k x place (Some (ForOp g)) c i = op_sends w k g false x place i
line_heard_sends w k x place (Some (ForAttach g)) c i = op_sends w k g true x place i

line_sends : (w : World) (k place : ℕ) (o : Option HeardMessage) → Counted w → SealingSends w → SealingSends (line_hears w k place o)
line_sends w k place None c i = cut_sends w k c i
line_sends w k place (Some x) c i = line_heard_sends w k x place ((w.wires k).client_end.awaited x.header.message) c i

-- ---- a dialog that is refused

refused_sends : (w : World) (k : ℕ) (why : Refusal) → w.values.client.ready k ≡ false → SealingSends w → SealingSends (dialog_off w k why)
refused_sends w k why idle i =
    left_off w (dialog_off w k why) k refl refl (λ j q. put_other w.wires k j (client_end_off (w.wires k)) q)
    refl refl refl refl refl idle i

-- what is known of a connection whose dialog is on its way
record Talking (w : World) (k : ℕ) (stage : Stage) : Type 0 where
  counted : Counted w
  fresh_id : HasNewId w
  sends : SealingSends w
  at : w.values.client.stage k ≡ stage
  idle : w.values.client.ready k ≡ false

idle_by : (w : World) (k : ℕ) (stage : Stage) (b : Bool) → w.values.client.ready k ≡ b → (stage ≡ Apart → ⊥)
    → w.values.client.stage k ≡ stage → Counted w → b ≡ false
idle_by w k stage false is off at i = refl
idle_by w k stage true is off at i = absurd (off (sym at ∙ (let a = i.apart k is in a.0)))

talking : (w : World) (k : ℕ) (stage : Stage) → (stage ≡ Apart → ⊥) → (w.wires k).client_end.stage ≡ stage
    → (w.values.conns k).client_open ≡ true → Counted w → HasNewId w → SealingSends w → Talking w k stage
talking w k stage off at co c new i =
    let here = sym (c.stages k co) ∙ at in record {
      counted = c;
      fresh_id = new;
      sends = i;
      at = here;
      idle = idle_by w k stage (w.values.client.ready k) refl off here c;
    }

abbrev Passes : WorldSettings → World → ℕ → Stage → HeardMessage → DialogStep → Type 0
Passes z w k stage x s =
    SealingSends (with_values (dialog_wires z w k stage x s) (dialog_took w.values k (dialog_reply w stage x) s))

-- ---- a dialog that goes on

wires_elsewhere : (wires : ℕ → Wires) (k : ℕ) (a u : Wires) (j : ℕ) → (j == k) ≡ false → put (put wires k a) k u j ≡ wires j
wires_elsewhere wires k a u j q = put_other (put wires k a) k j u q ∙ put_other wires k j a q

stays : (w v : World) (k : ℕ) (stage next : Stage) (a u : Wires) → Talking w k stage → binds next ≡ binds stage → is_asked next ≡ false
    → v.values.client.ready ≡ w.values.client.ready → v.values.client.stage ≡ put w.values.client.stage k next
    → v.wires ≡ put (put w.wires k a) k u → v.keys ≡ w.keys → v.numbers ≡ w.numbers → v.sealings ≡ w.sealings
    → v.values.client.rank ≡ w.values.client.rank → v.values.client.live ≡ w.values.client.live
    → u.client_end.keys.session ≡ (w.wires k).client_end.keys.session → SealingSends v
stays w v k stage next a u t binding asked ready stages wires keys numbers seals rank live session =
    let i = t.sends in
    let r : v.values.client.ready k ≡ false = ap (λ (f : ℕ → Bool). f k) ready ∙ t.idle in
    let s : v.values.client.stage k ≡ next = ap (λ (f : ℕ → Stage). f k) stages ∙ put_same w.values.client.stage k next in
    let end : (v.wires k).client_end.keys.session ≡ (w.wires k).client_end.keys.session =
    ap (λ (f : ℕ → Wires). (f k).client_end.keys.session) wires
    ∙ (ap (λ (x : Wires). x.client_end.keys.session) (put_same (put w.wires k a) k u) ∙ session) in
    let quiet : may_send v.values.client k ≡ is_asked next = λ t. r t || is_asked (s t) in
    let before : binds (v.values.client.stage k) ≡ binds (w.values.client.stage k) = ap binds s ∙ (binding ∙ ap binds (sym t.at)) in
    off_at w v k (record {
      beside = record {
        ready = λ j q. ap (λ (f : ℕ → Bool). f j) ready;
        stage = λ j q. ap (λ (f : ℕ → Stage). f j) stages ∙ put_other w.values.client.stage k j next q;
        ends = λ j q. ap (λ (f : ℕ → Wires). sender_of true (f j).client_end) wires
            ∙ ap (λ (x : Wires). sender_of true x.client_end) (wires_elsewhere w.wires k a u j q);
      };
      off = quiet ∙ asked;
      bound = λ h. end
          ∙ i.own k (second_true (may_send w.values.client k) (binds (w.values.client.stage k)) (sym before ∙ h));
      keys = keys;
      numbers = numbers;
      seals = seals;
      rank = rank;
      live = live;
    }) i

first_sends : (z : WorldSettings) (w : World) (k : ℕ) (bound : Bool) (x : HeardMessage) → Talking w k (SaidNegotiate bound)
    → Passes z w k (SaidNegotiate bound) x (GoesOn (SaidFirst bound))
first_sends z w k bound x t =
    let a : Wires = record (w.wires k) { client_end = noted_heard (w.wires k).client_end (SaidNegotiate bound) x } in
    stays w (with_values (dialog_wires z w k (SaidNegotiate bound) x (GoesOn (SaidFirst bound)))
    (dialog_took w.values k (dialog_reply w (SaidNegotiate bound) x) (GoesOn (SaidFirst bound)))) k
    (SaidNegotiate bound) (SaidFirst bound) a _ t refl refl refl refl refl refl refl refl refl refl
    (ap (λ (y : Wires). y.client_end.keys.session) (put_same w.wires k a))

next_sends : (z : WorldSettings) (w : World) (k : ℕ) (bound : Bool) (x : HeardMessage) → Talking w k (SaidFirst bound)
    → Passes z w k (SaidFirst bound) x (GoesOn (SaidSecond bound))
next_sends z w k bound x t =
    let a : Wires = record (w.wires k) { client_end = noted_heard (w.wires k).client_end (SaidFirst bound) x } in
    stays w (with_values (dialog_wires z w k (SaidFirst bound) x (GoesOn (SaidSecond bound)))
    (dialog_took w.values k (dialog_reply w (SaidFirst bound) x) (GoesOn (SaidSecond bound)))) k
    (SaidFirst bound) (SaidSecond bound) a _ t refl refl refl refl refl refl refl refl refl refl
    (ap (λ (y : Wires). y.client_end.keys.session) (put_same w.wires k a))

-- ---- a new session is accepted

or_true : (b : Bool) → (b || true) ≡ true
or_true true = refl
or_true false = refl

accepts_sends : (z : WorldSettings) (w : World) (k : ℕ) (x : HeardMessage) → Talking w k (SaidSecond false)
    → Passes z w k (SaidSecond false) x Accepts
accepts_sends z w k x t =
    let v = with_values (dialog_wires z w k (SaidSecond false) x Accepts)
    (dialog_took w.values k (dialog_reply w (SaidSecond false) x) Accepts) in
    let c = w.values.client in
    let n = accepted_end (w.wires k).client_end x c.pending in
    let a : Wires = record (w.wires k) { client_end = n } in
    let here = put w.wires k a k in
    let is : here ≡ a = put_same w.wires k a in
    let m = dialog_message (accepted c k) k here.client_end.purse.next AskedTree in
    let u = queued here (sealed_on (spent here.client_end 1 ForDialog)) (line_frame here.client_end m 1) in
    let id : here.client_end.keys.session ≡ c.pending = ap (λ (y : Wires). y.client_end.keys.session) is in
    let stage : w.values.client.stage k ≡ SaidSecond false = t.at in
    let idle : w.values.client.ready k ≡ false = t.idle in
    let new = t.fresh_id in
    let at_tree = put_same c.stage k AskedTree in
    let seals_now : may_send v.values.client k ≡ (c.ready k || true) = λ r. c.ready k || is_asked (at_tree r) in
    accepts w v k here.client_end m ForDialog (record {
      beside = record {
        ready = λ j q. refl;
        stage = λ j q. put_other c.stage k j AskedTree q;
        ends = λ j q. ap (λ (y : Wires). sender_of true y.client_end) (wires_elsewhere w.wires k a u j q);
      };
      makes = ap makes_new stage;
      waits = λ r. idle r || is_asked (stage r);
      on = seals_now ∙ or_true (c.ready k);
      channel = ap (λ (y : Wires). y.client_end.channel) is;
      counter = ap (λ (y : Wires). y.client_end.counter) is;
      end = ap (λ (y : Wires). y.client_end) (put_same (put w.wires k a) k u);
      keys = sym id;
      numbers = refl;
      seals = refl;
      y = c.pending;
      count = c.accepted_count;
      session = id;
      unranked = new k stage;
      rank = refl;
    }) t.counted t.sends

-- ---- a further channel is bound

abbrev ready_act_by : Bool → Act
ready_act_by becomes = if becomes then Nothing else CloseChannel

abbrev ready_client : Client → ℕ → ℕ → ℕ → Bool → Bool → Client
ready_client c k session tree becomes live =
    if becomes then (if live then bind_channel c k else begin_session c k session tree) else leave_dialog c k

abbrev ready_world : World → World → ℕ → ℕ → ℕ → Bool → Bool → World
ready_world w a k session tree becomes live =
    with_values (closed_wires a k (ready_act_by becomes))
    (with_client (closed_by w.values k (ready_act_by becomes)) (ready_client w.values.client k session tree becomes live))

bound_sends : (w : World) (k : ℕ) (x : HeardMessage) → w.numbers < 65535 → w.values.client.live ≡ true → Talking w k (SaidSecond true)
    → SealingSends (ready_world w (channel_bound w k x) k w.values.client.session w.values.client.tree true true)
bound_sends w k x room alive t =
    let v = ready_world w (channel_bound w k x) k w.values.client.session w.values.client.tree true true in
    let c = w.values.client in
    let n = bound_end (w.wires k).client_end x (w.numbers + 1) in
    let a : Wires = record (w.wires k) { client_end = n } in
    let ready_is = put_same c.ready k true in
    let stage_is = put_same c.stage k Apart in
    bound w v k (record {
      beside = record {
        ready = λ j q. put_other c.ready k j true q;
        stage = λ j q. put_other c.stage k j Apart q;
        ends = λ j q. ap (λ (y : Wires). sender_of true y.client_end) (put_other w.wires k j a q);
      };
      binding = ap binds t.at;
      on = λ r. ready_is r || is_asked (stage_is r);
      session = ap (λ (y : Wires). y.client_end.keys.session) (put_same w.wires k a);
      channel = ap (λ (y : Wires). y.client_end.channel) (put_same w.wires k a);
      keys = refl;
      numbers = refl;
      seals = refl;
      room = room;
      rank = refl;
      alive = alive;
    }) t.sends

-- while a dialog binds, a session is live
alive_by : (w : World) (k : ℕ) (b : Bool) → w.values.client.live ≡ b → binds (w.values.client.stage k) ≡ true → Counted w → b ≡ true
alive_by w k true is e i = refl
alive_by w k false is e i = not_both (binds (w.values.client.stage k)) e (i.none_binds is k)

becomes_bound : (c : Client) → c.live ≡ true → becomes_ready c c.session ≡ true
becomes_bound c e = ap (λ b. if b then c.session == c.session else nat_lt c.session c.session && nat_lt c.session_number 0xffff_ffff) e
    ∙ own_session c.session
  where
    own_session : (n : ℕ) → (n == n) ≡ true
    own_session n = grind arith

binds_sends : (z : WorldSettings) (w : World) (k : ℕ) (x : HeardMessage) → w.numbers < 65535 → Talking w k (SaidSecond true)
    → Passes z w k (SaidSecond true) x Binds
binds_sends z w k x room t =
    let c = w.values.client in
    let alive : c.live ≡ true = alive_by w k c.live refl (ap binds t.at) t.counted in
    subst (λ b. SealingSends (ready_world w (channel_bound w k x) k c.session c.tree b c.live)) (sym (becomes_bound c alive))
    (subst (λ b. SealingSends (ready_world w (channel_bound w k x) k c.session c.tree true b)) (sym alive) (bound_sends w k x room alive t))

-- ---- a new session is ready, or there is no number for it

abbrev tree_end : World → ℕ → HeardMessage → World
tree_end w k x = with_client_end w k (record (paid_in (w.wires k).client_end x.header) { stage = Apart })

begun_sends : (w : World) (k : ℕ) (x : HeardMessage) (session tree : ℕ) (becomes : Bool) → Talking w k AskedTree
    → SealingSends (ready_world w (tree_end w k x) k session tree becomes false)
begun_sends w k x session tree true t =
    let v = ready_world w (tree_end w k x) k session tree true false in
    let c = w.values.client in
    let a : Wires = record (w.wires k) { client_end = record (paid_in (w.wires k).client_end x.header) { stage = Apart } } in
    let stage : w.values.client.stage k ≡ AskedTree = t.at in
    let idle : w.values.client.ready k ≡ false = t.idle in
    let ready_is = put_same c.ready k true in
    let stage_is = put_same c.stage k Apart in
    goes_on w v k (record {
      beside = record {
        ready = λ j q. put_other c.ready k j true q;
        stage = λ j q. put_other c.stage k j Apart q;
        ends = λ j q. ap (λ (y : Wires). sender_of true y.client_end) (put_other w.wires k j a q);
      };
      before = λ r. idle r || is_asked (stage r);
      on = λ r. ready_is r || is_asked (stage_is r);
      end = ap (λ (y : Wires). sender_of true y.client_end) (put_same w.wires k a);
      keys = refl;
      numbers = refl;
      seals = refl;
      rank = refl;
    }) t.sends
begun_sends w k x session tree false t =
    let a : Wires = record (w.wires k) { client_end = record (paid_in (w.wires k).client_end x.header) { stage = Apart } } in
    left_off w (ready_world w (tree_end w k x) k session tree false false) k refl refl
    (λ j q. wires_elsewhere w.wires k a (client_end_off (put w.wires k a k)) j q) refl refl refl refl refl t.idle t.sends

readies_sends : (z : WorldSettings) (w : World) (k : ℕ) (x : HeardMessage) → Talking w k AskedTree → Passes z w k AskedTree x Readies
readies_sends z w k x t =
    let c = w.values.client in
    let i = t.counted in
    let tree = (dialog_reply w AskedTree x).tree_id in
    let dead : c.live ≡ false = i.not_live k (i.making k (ap makes_new t.at)) in
    subst (λ b. SealingSends (ready_world w (tree_end w k x) k c.pending tree (becomes_ready c c.pending) b)) (sym dead)
    (begun_sends w k x c.pending tree (becomes_ready c c.pending) t)

-- ---- each response of a dialog

-- at the success of a binding there is a number
abbrev Roomy : World → Stage → HeardMessage → Type 0
Roomy w stage x = stage ≡ SaidSecond true → (x.header.status == success) ≡ true → w.numbers < 65535

step_sends : (z : WorldSettings) (w : World) (k : ℕ) (stage : Stage) (x : HeardMessage) → Roomy w stage x → Talking w k stage
    → Passes z w k stage x (dialog_step stage x.header.status)
step_sends z w k Apart x room t = refused_sends w k (HadStatus x.header.status) t.idle t.sends
step_sends z w k (SaidNegotiate bound) x room t =
    either (Passes z w k (SaidNegotiate bound) x) (x.header.status == success) (GoesOn (SaidFirst bound)) (Refuses x.header.status)
    (λ _. first_sends z w k bound x t) (λ _. refused_sends w k (HadStatus x.header.status) t.idle t.sends)
step_sends z w k (SaidFirst bound) x room t =
    either (Passes z w k (SaidFirst bound) x) (x.header.status == more_processing_required) (GoesOn (SaidSecond bound))
    (Refuses x.header.status) (λ _. next_sends z w k bound x t)
    (λ _. refused_sends w k (HadStatus x.header.status) t.idle t.sends)
step_sends z w k (SaidSecond true) x room t =
    either (Passes z w k (SaidSecond true) x) (x.header.status == success) Binds (Refuses x.header.status)
    (λ ok. binds_sends z w k x (room refl ok) t) (λ _. refused_sends w k (HadStatus x.header.status) t.idle t.sends)
step_sends z w k (SaidSecond false) x room t =
    either (Passes z w k (SaidSecond false) x) (x.header.status == success) Accepts (Refuses x.header.status)
    (λ _. accepts_sends z w k x t) (λ _. refused_sends w k (HadStatus x.header.status) t.idle t.sends)
step_sends z w k AskedTree x room t =
    either (Passes z w k AskedTree x) (x.header.status == success) Readies (Refuses x.header.status)
    (λ _. readies_sends z w k x t) (λ _. refused_sends w k (HadStatus x.header.status) t.idle t.sends)

passed_sends : (z : WorldSettings) (w : World) (k : ℕ) (stage : Stage) (x : HeardMessage) (o : Option Refusal) → Roomy w stage x
    → Talking w k stage
    → SealingSends (dialog_passed z w k stage x o)
passed_sends z w k stage x (Some why) room t = refused_sends w k why t.idle t.sends
passed_sends z w k stage x None room t = step_sends z w k stage x room t

dialog_sends : (z : WorldSettings) (w : World) (k : ℕ) (stage : Stage) (o : Option HeardMessage)
    → ((x : HeardMessage) → o ≡ Some x → Roomy w stage x) → Talking w k stage
    → SealingSends (dialog_hears z w k stage o)
dialog_sends z w k stage None room t = refused_sends w k BadToken t.idle t.sends
dialog_sends z w k stage (Some x) room t =
    passed_sends z w k stage x (if x.header.status == status_due stage then dialog_fault z.client (w.wires k).client_end stage x else None)
    (room x refl) t

pub hears_sends : (z : WorldSettings) (w : World) (k : ℕ) (b : List ℕ) (place : ℕ) (stage : Stage)
    → (w.wires k).client_end.stage ≡ stage → (w.values.conns k).client_open ≡ true → Counted w → HasNewId w
    → ((x : HeardMessage) → stage ≡ SaidSecond true → dialog_response (w.wires k).client_end (SaidSecond true) b ≡ Some x
    → (x.header.status == success) ≡ true → w.numbers < 65535) → SealingSends w → SealingSends (hears z w k b place stage)
hears_sends z w k b place Apart at co c new room i = line_sends w k place (line_response (w.wires k).client_end b) c i
hears_sends z w k b place (SaidNegotiate bound) at co c new room i =
    dialog_sends z w k (SaidNegotiate bound) (dialog_response (w.wires k).client_end (SaidNegotiate bound) b)
    (λ x e s ok. room x s (subst (λ q. dialog_response (w.wires k).client_end q b ≡ Some x) s e) ok)
    (talking w k (SaidNegotiate bound) (λ e. (let h : SaidNegotiate bound ≡ Apart = e in cc)) at co c new i)
hears_sends z w k b place (SaidFirst bound) at co c new room i =
    dialog_sends z w k (SaidFirst bound) (dialog_response (w.wires k).client_end (SaidFirst bound) b)
    (λ x e s ok. room x s (subst (λ q. dialog_response (w.wires k).client_end q b ≡ Some x) s e) ok)
    (talking w k (SaidFirst bound) (λ e. (let h : SaidFirst bound ≡ Apart = e in cc)) at co c new i)
hears_sends z w k b place (SaidSecond bound) at co c new room i =
    dialog_sends z w k (SaidSecond bound) (dialog_response (w.wires k).client_end (SaidSecond bound) b)
    (λ x e s ok. room x s (subst (λ q. dialog_response (w.wires k).client_end q b ≡ Some x) s e) ok)
    (talking w k (SaidSecond bound) (λ e. (let h : SaidSecond bound ≡ Apart = e in cc)) at co c new i)
hears_sends z w k b place AskedTree at co c new room i =
    dialog_sends z w k AskedTree (dialog_response (w.wires k).client_end AskedTree b)
    (λ x e s ok. room x s (subst (λ q. dialog_response (w.wires k).client_end q b ≡ Some x) s e) ok)
    (talking w k AskedTree (λ e. (let h : AskedTree ≡ Apart = e in cc)) at co c new i)

-- ---- Open: its dialog begins

closed_idle : (w : World) (k : ℕ) (b : Bool) → w.values.client.ready k ≡ b → (w.values.conns k).client_open ≡ false → Counted w → b ≡ false
closed_idle w k false is off i = refl
closed_idle w k true is off i = (let a = i.apart k is in not_both (w.values.conns k).client_open a.1 off)

is_shut : (a b c : Bool) → (a && (not b && c)) ≡ true → b ≡ false
is_shut true false c e = refl
is_shut true true c e = absurd (let h : false ≡ true = e in cc)
is_shut false b c e = absurd (let h : false ≡ true = e in cc)

pub opened_sends : (z : WorldSettings) (w : World) (k : ℕ)
    → (nat_lt k max_channel && (not (w.values.conns k).client_open && (not (w.values.conns k).server_open
    && not (is_some w.values.client.making)))) ≡ true → Counted w → SealingSends w → SealingSends (opened_wires z w k)
opened_sends z w k can c i =
    let d = w.values.client in
    let shut = is_shut (nat_lt k max_channel) (w.values.conns k).client_open
    (not (w.values.conns k).server_open && not (is_some d.making)) can in
    let idle : d.ready k ≡ false = closed_idle w k (d.ready k) refl shut c in
    let served = (step w.values.server w.values.moment (Accept k)).reply.status == success in
    let u = fresh_wires z w (greeting_of z w k) served in
    let stage_is = put_same d.stage k (SaidNegotiate d.live) in
    off_at w (opened_wires z w k) k (record {
      beside = record {
        ready = λ j q. refl;
        stage = λ j q. put_other d.stage k j (SaidNegotiate d.live) q;
        ends = λ j q. ap (λ (x : Wires). sender_of true x.client_end) (put_other w.wires k j u q);
      };
      off = λ r. idle r || is_asked (stage_is r);
      bound = λ h. ap (λ (x : Wires). x.client_end.keys.session) (put_same w.wires k u)
          ∙ ap (λ b. (if b then w.keys else no_keys).session) (sym (ap binds stage_is) ∙ h);
      keys = refl;
      numbers = refl;
      seals = refl;
      rank = refl;
      live = refl;
    }) i
