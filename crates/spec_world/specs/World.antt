-- The world over bytes: the exchange's values, and beside them what stands on the wires, both ends of each connection, and the keys
-- (MS-SMB2 3.2, 3.3). The lists of messages in `values` are what each frame was made for; no step looks at them but for the token
-- and the place that stand beside a frame.
use Rattle.std.specs.Prelude.{ℕ, ◌+◌, ◌==◌, nat_le, Bool, true, false, ◌&&◌, if◌then◌else◌, List, [], ◌∷◌, ◌++◌, take, Option}
use Rattle.std.specs.Prelude.{Some, None}
use Rattle.spec_exchange.specs.Table.{put}
use Rattle.spec_exchange.specs.Status.{success}
use Rattle.spec_exchange.specs.Commands.{Command}
use Rattle.spec_exchange.specs.State.{Message, Reply, Empty, Accept}
use Rattle.spec_exchange.specs.Operations.{Refusal, BadToken, HadStatus, weight, charge, request_of, reconnect_of}
use Rattle.spec_exchange.specs.Client.{Client, Stage, Apart, SaidNegotiate, SaidFirst, SaidSecond, AskedTree, create_for, own_message}
use Rattle.spec_exchange.specs.Client.{ask_message}
use Rattle.spec_exchange.specs.ClientStep.{Pick, Act, Sends, Asks, CloseChannel, CloseChannels, Pushes, Hears, IsCut, IsReady}
use Rattle.spec_exchange.specs.ClientStep.{IsRefused, client_after, act}
use Rattle.spec_exchange.specs.Dialogs.{DialogStep, GoesOn, Accepts, Binds, Readies, Refuses, dialog_step, dialog_message}
use Rattle.spec_exchange.specs.Dialogs.{stage_command, went_on, accepted}
use Rattle.spec_exchange.specs.Step.{step}
use Rattle.spec_exchange.specs.Network.{World as Values, Sent, Received, Token, ForDialog, ForOp, ForAttach, changed, Push}
use Rattle.spec_exchange.specs.Network.{behind_front, absorbed, replied, dropped, opened, cut_off, with_client, behind_reply}
use Rattle.spec_exchange.specs.Network.{dialog_ended, dialog_took, op_took, restarted}
use Rattle.spec_commands.specs.ReplyOf.{reply_of}
use Rattle.spec_wire.specs.credits.Ids.{counted}
use Rattle.spec_wire.specs.credits.Purse.{first_purse, after_spend}
use Rattle.spec_crypto.specs.declared.sessions.material.Keys.{Keys}
use Rattle.spec_crypto.specs.tokens.Tokens.{first_token}
use Rattle.spec_world.specs.Settings.{WorldSettings, draw}
use Rattle.spec_world.specs.Messages.{HeardMessage}
use Rattle.spec_world.specs.Ends.{ClientEnd, ServerEnd, first_server_end, Logons, no_keys, no_choice, ConnEnd}
use Rattle.spec_world.specs.Answering.{Ending, Seal}
use Rattle.spec_world.specs.Connection.{LastTaken, ConnectionStep, connection_step}
use Rattle.spec_world.specs.Sending.{line_frame, seal_sent, may_seal, spent, sealed_on, greeting_text, setup_frame, answer_of, or_no_token}
use Rattle.spec_world.specs.Dialog.{line_response, dialog_response, status_due, dialog_fault, setup_token, seals_told, own_final, paid_in}
use Rattle.spec_world.specs.Dialog.{noted_heard, ended_on, accepted_end, bound_end}

pub record Wires : Type 0 where
  pub client_end : ClientEnd
  pub server_end : ServerEnd
  pub up : List (List ℕ)
  pub down : List (List ℕ)

pub record World : Type 0 where
  pub values : Values
  pub wires : ℕ → Wires
  pub logons : Logons
  -- the client's session: its keys, whether it seals, and how many channels were accepted for it
  pub keys : Keys
  pub encrypts : Bool
  pub numbers : ℕ
  pub draws : ℕ
  -- what is only remembered
  pub made : List Ending
  pub accepted : List Ending
  pub sealings : List Seal

abbrev pub with_values : World → Values → World
with_values w v = record w { values = v }

abbrev pub with_wires : World → ℕ → Wires → World
with_wires w k u = record w { wires = put w.wires k u }

abbrev pub with_client_end : World → ℕ → ClientEnd → World
with_client_end w k n = with_wires w k (record (w.wires k) { client_end = n })

-- ---- a request goes up

abbrev pub queued : Wires → ClientEnd → List ℕ → Wires
queued u n frame = record u { client_end = n; up = u.up ++ frame ∷ [] }

-- on a line
abbrev pub line_sent : World → ℕ → Token → Message → ℕ → World
line_sent w k token m charge =
    let u = w.wires k in
    record w {
      wires = put w.wires k (queued u (sealed_on (spent u.client_end charge token)) (line_frame u.client_end m charge));
      sealings = w.sealings ++ seal_sent u.client_end m charge;
    }

-- ---- Open: the client's salt, challenge and key are drawn, and then the server's salt

abbrev pub salt_of : WorldSettings → World → List ℕ
salt_of z w = take 32 (draw z.seed w.draws)

abbrev pub first_client_end : WorldSettings → World → List ℕ → ClientEnd
first_client_end z w greeting = record {
  stage = SaidNegotiate w.values.client.live;
  purse = after_spend 1 first_purse;
  awaited = put (λ id. None) 0 (Some ForDialog);
  base = take 16 (draw z.seed (w.draws + 2));
  challenge = take 8 (draw z.seed (w.draws + 1));
  chosen = no_choice;
  transcript = greeting ∷ [];
  keys = if w.values.client.live then w.keys else no_keys;
  encrypts = w.values.client.live && w.encrypts;
  channel = 0;
  counter = 0;
}

abbrev pub greeting_of : WorldSettings → World → ℕ → List ℕ
greeting_of z w k = greeting_text z.client (salt_of z w) (dialog_message w.values.client k 0 (SaidNegotiate w.values.client.live))

abbrev pub fresh_wires : WorldSettings → World → List ℕ → Bool → Wires
fresh_wires z w greeting served = record {
  client_end = first_client_end z w greeting;
  server_end = first_server_end (take 32 (draw z.seed (w.draws + 3)));
  up = if served then greeting ∷ [] else [];
  down = [];
}

abbrev pub opened_wires : WorldSettings → World → ℕ → World
opened_wires z w k = record w {
  values = opened w.values k;
  wires = put w.wires k (fresh_wires z w (greeting_of z w k) ((step w.values.server w.values.moment (Accept k)).reply.status == success));
  draws = w.draws + 4;
}

-- ---- Push: what is picked must be paid for, with a nonce where one is wanted

abbrev pub cost_of : Client → Act → ℕ
cost_of c (Sends g) = charge (weight (c.op g))
cost_of c (Asks g) = 1
cost_of c _ = 0

abbrev pub cost : Client → ℕ → List ℕ → Option Pick → ℕ
cost c k slotless pick = cost_of (client_after c (Pushes k slotless pick)) (act c (Pushes k slotless pick))

abbrev pub may_pay : ClientEnd → ℕ → Bool
may_pay n cost = nat_le (counted cost) n.purse.held && may_seal n

-- another pick is as none
abbrev pub paid : World → ℕ → List ℕ → Option Pick → Option Pick
paid w k slotless pick = if may_pay (w.wires k).client_end (cost w.values.client k slotless pick) then pick else None

abbrev pub pushed_wires : World → ℕ → Client → Act → World
pushed_wires w k c (Sends g) = line_sent w k (ForOp g) (own_message c k (w.wires k).client_end.purse.next g) (charge (weight (c.op g)))
pushed_wires w k c (Asks g) = line_sent w k (ForAttach g) (ask_message c k (w.wires k).client_end.purse.next g) 1
pushed_wires w k c _ = w

abbrev pub pushed_with : World → ℕ → List ℕ → Option Pick → World
pushed_with w k slotless pick =
    with_values (pushed_wires w k (client_after w.values.client (Pushes k slotless pick)) (act w.values.client (Pushes k slotless pick)))
    (changed w.values (Push k slotless pick))

-- ---- Serve: the front leaves, and this end of the connection answers it or closes

abbrev pub server_end_off : Wires → Wires
server_end_off u = record u { up = [] }

abbrev pub dropped_wires : World → ℕ → World
dropped_wires w k = record w { values = dropped w.values k; wires = put w.wires k (server_end_off (w.wires k)) }

-- the values behind what the server took of the frame: a place in the log for all of it
abbrev pub values_took : Values → ℕ → Token → List Sent → Option LastTaken → Values
values_took v k token xs None = record v { conns = put v.conns k (behind_front (v.conns k) xs) }
values_took v k token xs (Some t) = absorbed v k (record { token = token; message = t.message }) xs t.answer

abbrev pub last_reply : Option LastTaken → Reply
last_reply None = record { status = success; session_id = 0; tree_id = 0; body = Empty }
last_reply (Some t) = t.answer.reply

-- a reply goes down for each frame of the answer
unfoldable pub replied_each : Values → ℕ → Received → List (List ℕ) → Values
replied_each v k y [] = v
replied_each v k y (frame ∷ frames) = replied_each (replied v k y) k y frames

abbrev pub values_said : Values → ℕ → Token → List Sent → ConnectionStep → Values
values_said v k token xs S =
    replied_each (values_took v k token xs S.taken) k (record { token = token; reply = last_reply S.taken; place = v.log.places }) S.frames

-- a reply to a client's end that has closed goes nowhere
abbrev pub answered_wires : Wires → Bool → ServerEnd → List (List ℕ) → List (List ℕ) → Wires
answered_wires u heard behind bs frames = record u { server_end = behind; up = bs; down = if heard then u.down ++ frames else u.down }

-- the server's end goes on
abbrev pub served_on : World → ℕ → List (List ℕ) → List Sent → Token → ConnectionStep → World
served_on w k bs xs token S = record w {
  values = values_said w.values k token xs S;
  wires = put w.wires k (answered_wires (w.wires k) (w.values.conns k).client_open S.server_end bs S.frames);
  logons = S.logons;
  draws = w.draws + 1;
  made = w.made ++ S.made;
  sealings = w.sealings ++ S.sealings;
}

-- what the server took stands, and nothing is said
abbrev pub served_mutely : World → ℕ → List (List ℕ) → List Sent → Token → ConnectionStep → World
served_mutely w k bs xs token S = record w {
  values = values_took w.values k token xs S.taken;
  wires = put w.wires k (record (w.wires k) { server_end = S.server_end; up = bs });
  logons = S.logons;
  draws = w.draws + 1;
}

abbrev pub served_by : World → ℕ → List (List ℕ) → List Sent → Token → ConnectionStep → Option ConnEnd → World
served_by w k bs xs token S None = served_on w k bs xs token S
served_by w k bs xs token S (Some why) = dropped_wires (served_mutely w k bs xs token S) k

abbrev pub step_at : WorldSettings → World → ℕ → List ℕ → ConnectionStep
step_at z w k frame =
    connection_step z.server k w.values.moment (take 8 (draw z.seed w.draws)) w.values.server w.logons (w.wires k).server_end frame

abbrev pub serve_frame : WorldSettings → World → ℕ → List (List ℕ) → List Sent → World
serve_frame z w k (b ∷ bs) (x ∷ xs) = let S = step_at z w k b in served_by w k bs xs x.token S S.ends
serve_frame z w k _ _ = w

abbrev pub absorb_frame : WorldSettings → World → ℕ → List (List ℕ) → List Sent → World
absorb_frame z w k (b ∷ bs) (x ∷ xs) = served_mutely w k bs xs x.token (step_at z w k b)
absorb_frame z w k _ _ = w

-- ---- Cut: the client closes its end

abbrev pub client_end_off : Wires → Wires
client_end_off u = record u { down = [] }

abbrev pub all_off : World → World
all_off w = record w { wires = λ k. client_end_off (w.wires k) }

abbrev pub one_off : World → ℕ → World
one_off w k = with_wires w k (client_end_off (w.wires k))

-- as the client is told: its end of this connection, or of every one
abbrev pub closed_wires : World → ℕ → Act → World
closed_wires w k CloseChannels = all_off w
closed_wires w k CloseChannel = one_off w k
closed_wires w k _ = w

-- a cut closes this one at least
abbrev pub off_by : World → ℕ → Act → World
off_by w k CloseChannels = all_off w
off_by w k _ = one_off w k

abbrev pub cut_wires : World → ℕ → World
cut_wires w k =
    if w.values.client.ready k then with_values (off_by w k (act w.values.client (IsCut k))) (cut_off w.values k)
    else with_values (one_off w k) (cut_off w.values k)

-- ---- Take, on a line: a reply to a request that waits for it, and else the channel is cut

-- the command of an operation, or of the DH2C in its place, as far as it tells how a response reads
abbrev pub command_asked : Client → ℕ → Bool → Command
command_asked c g asking = if asking then reconnect_of (c.op (create_for c g)) 0 0 else request_of (c.op g) 0 0 0 0

abbrev pub op_heard : World → ℕ → ℕ → Bool → HeardMessage → ℕ → World
op_heard w k g asking x place =
    let reply = reply_of (command_asked w.values.client g asking) x.header x.bytes in
    let paid = with_client_end w k (paid_in (w.wires k).client_end x.header) in
    with_values (closed_wires paid k (act w.values.client (Hears k g asking reply place)))
    (op_took w.values k g asking reply place)

abbrev pub line_heard : World → ℕ → HeardMessage → ℕ → Option Token → World
line_heard w k x place (Some (ForOp g)) = op_heard w k g false x place
line_heard w k x place (Some (ForAttach g)) = op_heard w k g true x place
line_heard w k x place _ = cut_wires w k

abbrev pub line_hears : World → ℕ → ℕ → Option HeardMessage → World
line_hears w k place None = cut_wires w k
line_hears w k place (Some x) = line_heard w k x place ((w.wires k).client_end.awaited x.header.message)

-- ---- Take, of a dialog

-- it is refused by the client
abbrev pub dialog_off : World → ℕ → Refusal → World
dialog_off w k why =
    with_values (closed_wires w k (act w.values.client (IsRefused k why))) (dialog_ended w.values k (IsRefused k why))

-- its next message goes up
abbrev pub noted_sent : ClientEnd → Stage → List ℕ → ClientEnd
noted_sent n stage frame = record n { stage = stage; transcript = n.transcript ++ frame ∷ [] }

abbrev pub previous_of : Client → Bool → ℕ
previous_of c bound = if bound then 0 else c.accepted

abbrev pub setup_of : World → ℕ → Stage → Bool → List ℕ → List ℕ
setup_of w k stage bound token =
    let n = (w.wires k).client_end in
    setup_frame n bound (previous_of w.values.client bound) token (dialog_message w.values.client k n.purse.next stage)

abbrev pub setup_sent : World → ℕ → Stage → Bool → List ℕ → World
setup_sent w k stage bound token =
    let u = w.wires k in
    let frame = setup_of w k stage bound token in
    with_wires w k (queued u (noted_sent (spent u.client_end 1 ForDialog) stage frame) frame)

abbrev pub dialog_went : World → ℕ → Stage → List ℕ → World
dialog_went w k (SaidFirst bound) token = setup_sent w k (SaidFirst bound) bound token
dialog_went w k (SaidSecond bound) token = setup_sent w k (SaidSecond bound) bound token
dialog_went w k stage token = w

-- the token that it carries: a first one, or the answer to the interim one
abbrev pub next_token : WorldSettings → ClientEnd → Stage → List ℕ → List ℕ
next_token z n (SaidSecond bound) m = or_no_token (answer_of z.client n (setup_token m))
next_token z n _ m = first_token

-- a session is accepted, and its TREE_CONNECT goes up
abbrev pub session_accepted : World → ℕ → HeardMessage → World
session_accepted w k x =
    let n = (w.wires k).client_end in
    record (with_client_end w k (accepted_end n x w.values.client.pending)) {
      keys = own_final n false w.values.client.pending;
      encrypts = seals_told x.bytes;
      numbers = 1;
      accepted = w.accepted ++ ended_on n x false ∷ [];
    }

-- a further channel is bound
abbrev pub channel_bound : World → ℕ → HeardMessage → World
channel_bound w k x =
    let n = (w.wires k).client_end in
    record (with_client_end w k (bound_end n x (w.numbers + 1))) {
      numbers = w.numbers + 1;
      accepted = w.accepted ++ ended_on n x true ∷ [];
    }

abbrev pub dialog_reply : World → Stage → HeardMessage → Reply
dialog_reply w stage x = reply_of (stage_command w.values.client stage) x.header x.bytes

-- the client's own wires behind a step of its dialog
abbrev pub dialog_wires : WorldSettings → World → ℕ → Stage → HeardMessage → DialogStep → World
dialog_wires z w k stage x (GoesOn next) =
    let n = (w.wires k).client_end in
    let c = went_on w.values.client k next (dialog_reply w stage x) in
    dialog_went (with_client_end (with_values w (with_client w.values c)) k (noted_heard n stage x)) k next (next_token z n next x.bytes)
dialog_wires z w k stage x Accepts =
    let a = session_accepted w k x in
    line_sent a k ForDialog (dialog_message (accepted w.values.client k) k (a.wires k).client_end.purse.next AskedTree) 1
dialog_wires z w k stage x Binds =
    closed_wires (channel_bound w k x) k (act w.values.client (IsReady k w.values.client.session w.values.client.tree))
dialog_wires z w k stage x Readies =
    closed_wires (with_client_end w k (record (paid_in (w.wires k).client_end x.header) { stage = Apart })) k
    (act w.values.client (IsReady k w.values.client.pending (dialog_reply w stage x).tree_id))
dialog_wires z w k stage x (Refuses status) = closed_wires w k (act w.values.client (IsRefused k (HadStatus status)))

abbrev pub dialog_passed : WorldSettings → World → ℕ → Stage → HeardMessage → Option Refusal → World
dialog_passed z w k stage x (Some why) = dialog_off w k why
dialog_passed z w k stage x None =
    with_values (dialog_wires z w k stage x (dialog_step stage x.header.status))
    (dialog_took w.values k (dialog_reply w stage x) (dialog_step stage x.header.status))

abbrev pub dialog_hears : WorldSettings → World → ℕ → Stage → Option HeardMessage → World
dialog_hears z w k stage None = dialog_off w k BadToken
dialog_hears z w k stage (Some x) =
    dialog_passed z w k stage x (if x.header.status == status_due stage then dialog_fault z.client (w.wires k).client_end stage x else None)

-- by the stage of its dialog; a ready channel has none
abbrev pub hears : WorldSettings → World → ℕ → List ℕ → ℕ → Stage → World
hears z w k frame place Apart = line_hears w k place (line_response (w.wires k).client_end frame)
hears z w k frame place stage = dialog_hears z w k stage (dialog_response (w.wires k).client_end stage frame)

abbrev pub behind_frame : World → ℕ → List (List ℕ) → List Received → World
behind_frame w k bs ys = record w { values = behind_reply w.values k ys; wires = put w.wires k (record (w.wires k) { down = bs }) }

abbrev pub take_frame : WorldSettings → World → ℕ → List (List ℕ) → List Received → World
take_frame z w k (b ∷ bs) (y ∷ ys) = hears z (behind_frame w k bs ys) k b y.place (w.wires k).client_end.stage
take_frame z w k _ _ = w

-- ---- Restart

abbrev pub restarted_wires : World → World
restarted_wires w = record w { values = restarted w.values; wires = λ k. server_end_off (w.wires k) }
