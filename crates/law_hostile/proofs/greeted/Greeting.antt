-- Along a repeat run each server's end has greeted the client, or nobody.
use Rattle.std.proofs.Common.{◌≡◌, ℕ, ◌==◌, Bool, true, false, not, ◌&&◌, if◌then◌else◌, List, [], ◌∷◌, ◌⊎◌, inl, inr, refl, sym, ap, ◌∙◌}
use Rattle.std.proofs.Common.{subst, arith, eqb-true, length, take, Option, Some, None, slice_get, Result, Ok, Err}
use Rattle.std.specs.Prelude.{option_map, is_some}
use Rattle.law_server.proofs.tables.Logic.{either, front_of, back_of}
use Rattle.spec_wire.specs.messages.Places.{number_of}
use Rattle.spec_wire.specs.declared.messages.header.Header.{Header}
use Rattle.spec_exchange.specs.Status.{success, invalid_parameter}
use Rattle.spec_exchange.specs.Commands.{Command, Aside}
use Rattle.spec_exchange.specs.State.{Server, Message}
use Rattle.spec_exchange.specs.Network.{answer_to}
use Rattle.spec_commands.specs.CommandOf.{Told, heard_as, command_of, message_of, named_command}
use Rattle.spec_world.specs.Settings.{WorldSettings, ServerSettings, draw, chosen_of}
use Rattle.spec_world.specs.Messages.{HeardMessage, heard_in, messages_in}
use Rattle.spec_world.specs.Ends.{ServerEnd, Greeting, Logons, ConnEnd, BadFrame, client_on}
use Rattle.spec_world.specs.Negotiate.{negotiate_status, negotiated, client_told}
use Rattle.spec_world.specs.Answering.{SaidReply, greeting_behind, told_each, server_end_moved, first_text, all_texts, joined_in}
use Rattle.spec_world.specs.Answering.{text_limit, each_joined, concatenated}
use Rattle.spec_world.specs.Logon.{Progress, Stays, Interim, Final}
use Rattle.spec_world.specs.Hearing.{Checked, Frame, check_frame, checked_as, checked_text, begins_sealed, is_negotiate, is_misplaced}
use Rattle.spec_world.specs.Hearing.{if_in_turn, is_too_long, opened_by, opened_text, split_text}
use Rattle.spec_world.specs.Connection.{step_of, answered, went_all, beginning, counted_on, heard_message, told_of, placed, misplaced}
use Rattle.spec_world.specs.Connection.{misplaced_command, said_to, client_by}
use Rattle.spec_hostile.specs.RepeatRuns.{RepeatWorld, RepeatEvent, loaded_up, repeat_happens, repeat_run, repeat_start}
use Rattle.law_ties.specs.wire_facts.Fitting.{IsFitting}
use Rattle.law_ties.proofs.wire_facts.Greeting.{IsRead, negotiated_is, client_is}
use Rattle.law_hostile.specs.taken_ids.TakenIds.{is_opened_by}
use Rattle.law_hostile.specs.greeted.Greeted.{EndsGreetClient, RequestsAreTheClients}
use Rattle.law_hostile.proofs.greeted.Bytes.{NegotiateReads, negotiates}
use Rattle.law_hostile.proofs.ids.Bearing.{IsRequest, bears_one, bears_request}
use Rattle.law_hostile.proofs.ids.Frames as frames
use Rattle.law_hostile.proofs.ids.PlainRuns as plains
use Rattle.law_hostile.proofs.meant.Reading.{Reads, reads_frame}
use Rattle.law_hostile.proofs.meant.Telling.{only_get}
use Rattle.law_hostile.proofs.finals.Replying.{Lone, lone_frame}
use Rattle.law_hostile.proofs.replied.Saying.{SaidBy, said_all}
use Rattle.law_hostile.proofs.taken_ids.Runs.{event_end, EndStays, GivenEnd}
use Rattle.law_hostile.proofs.taken_ids.Once.{event_opened}

-- ---- whose a greeting is

abbrev pub GreetsOwn : WorldSettings → Option Greeting → Type 0
GreetsOwn z o = (g : Greeting) → o ≡ Some g → (g.client ≡ number_of z.client.guid) × (g.chosen ≡ chosen_of z.client)

none_greeted : (z : WorldSettings) → GreetsOwn z None
none_greeted z g e = absurd (let q : None ≡ Some g = e in cc)

-- ---- a NEGOTIATE that is answered with success was heard so

same_message : (x y : Message) → Some x ≡ Some y → x ≡ y
same_message x y e = cc

misplaced_status : (s : Server) (now : ℕ) (m : Message) (o : Option ℕ) (status : ℕ)
    → (answer_to s now m (misplaced_command o (Aside status))).reply.status ≡ success → status ≡ success
misplaced_status s now m (Some fault) status e = e
misplaced_status s now m None status e = absurd (let q : invalid_parameter ≡ success = e in omega (arith, q))

placed_status : (s : Server) (now : ℕ) (t : Told) (h : Header) (broken : Bool) (status : ℕ) (m : Message)
    → placed broken (Some (heard_as t h (Aside status))) ≡ Some m → (answer_to s now m m.command).reply.status ≡ success → status ≡ success
placed_status s now t h true status m e ok =
    let x = heard_as t h (Aside status) in
    let same : misplaced x ≡ m = same_message (misplaced x) m e in
    misplaced_status s now (misplaced x) x.fault status
    (subst (λ (n : Message). (answer_to s now n n.command).reply.status ≡ success) (sym same) ok)
placed_status s now t h false status m e ok =
    let x = heard_as t h (Aside status) in
    let same : x ≡ m = same_message x m e in
    subst (λ (n : Message). (answer_to s now n n.command).reply.status ≡ success) (sym same) ok

asked_status : (z : ServerSettings) (L : Logons) (k : ℕ) (f : ServerEnd) (c : Checked) (m : Message) (s : Server) (now : ℕ)
    → heard_message z L k f c ≡ Some m → c.header.command ≡ 0 → (answer_to s now m m.command).reply.status ≡ success
    → negotiate_status c.bytes ≡ success
unfolding message_of command_of
asked_status z L k f c m s now heard zero ok =
    let t = told_of z L k f c in
    let h = c.header in
    let is : command_of t h c.bytes ≡ Some (Aside t.negotiated) =
    ap (λ n. if n == 12 then None else Some (named_command n t h c.bytes)) zero in
    placed_status s now t h (is_misplaced c) t.negotiated m
    (ap (λ o. placed (is_misplaced c) (option_map (heard_as t h) o)) (sym is) ∙ heard) ok

-- ---- one reply

-- the answer to a frame of this message
record Greets (z : WorldSettings) (frame : List ℕ) (c : Checked) : Type 0 where
  bytes : c.bytes ≡ frame
  own : c.header.command ≡ 0 → negotiate_status frame ≡ success
      → (client_told frame ≡ number_of z.client.guid) × (negotiated frame ≡ chosen_of z.client)

greeting_same : (x y : Greeting) → Some x ≡ Some y → (x.client ≡ y.client) × (x.chosen ≡ y.chosen)
greeting_same x y e = let q : x ≡ y = cc in (ap (λ (g : Greeting). g.client) q, ap (λ (g : Greeting). g.chosen) q)

behind_greets : (z : WorldSettings) (g : Option Greeting) (r : SaidReply) (frame text : List ℕ) → GreetsOwn z g → Greets z frame r.request
    → (r.request.header.command ≡ 0 → r.header.status ≡ success → negotiate_status frame ≡ success)
    → GreetsOwn z (greeting_behind g r text)
behind_greets z g r frame text old now read =
    either (GreetsOwn z) (is_negotiate r.request.header && (r.header.status == success)) _ g
    (λ on x e. (
    let zero : r.request.header.command ≡ 0 = eqb-true r.request.header.command 0 (front_of _ _ on) in
    let ok : r.header.status ≡ success = eqb-true r.header.status success (back_of _ _ on) in
    let fine = now.own zero (read zero ok) in
    let same = greeting_same (record { client = client_told r.request.bytes; chosen = negotiated r.request.bytes; transcript = r.request.raw ∷ text ∷ [] }) x e in
    (sym same.0 ∙ (ap client_told now.bytes ∙ fine.0), sym same.1 ∙ (ap negotiated now.bytes ∙ fine.1))))
    (λ _. old)

moved_greeting : (f : ServerEnd) (r : SaidReply) (text : List ℕ) (p : Progress) → (server_end_moved f r text p).greeting ≡ f.greeting
moved_greeting f r text Stays = refl
moved_greeting f r text (Interim binding) = refl
moved_greeting f r text (Final binding channel encrypts) = refl

-- ---- the step

told_greets : (z : WorldSettings) (frame : List ℕ) (k now : ℕ) (fresh : List ℕ) (f h : ServerEnd) (s : Server) (L : Logons) (c : Checked)
    (rs : List SaidReply) (texts : List (List ℕ)) → GreetsOwn z h.greeting → Greets z frame c
    → (rs ≡ []) ⊎ SaidBy z.server k now fresh f s L c rs → GreetsOwn z (told_each false h rs texts).server_end.greeting
unfolding told_each
told_greets z frame k now fresh f h s L c rs texts old own (inl none) =
    subst (λ l. GreetsOwn z (told_each false h l texts).server_end.greeting) (sym none) old
told_greets z frame k now fresh f h s L c rs texts old own (inr b) =
    let m = b.message in
    subst (λ l. GreetsOwn z (told_each false h l texts).server_end.greeting) (sym b.is)
    (behind_greets z h.greeting (said_to z.server k now fresh f L f.window c m.command (answer_to s now m m.command)) frame (first_text texts) old own
    (λ zero ok. subst (λ l. negotiate_status l ≡ success) own.bytes (asked_status z.server L k f c m s now b.heard zero ok)))

answered_greets : (z : WorldSettings) (frame : List ℕ) (k now : ℕ) (fresh : List ℕ) (s : Server) (L : Logons) (x : Frame) (c : Checked)
    → x.sealed ≡ false → x.messages ≡ c ∷ [] → GreetsOwn z x.server_end.greeting → Greets z frame c
    → GreetsOwn z (answered x.server_end x.sealed (went_all z.server k now fresh x.server_end (beginning s L x.server_end) x.messages)).server_end.greeting
answered_greets z frame k now fresh s L x c plain one old own =
    let f = x.server_end in
    let g = went_all z.server k now fresh f (beginning s L f) x.messages in
    let rows = all_texts false (joined_in (text_limit false) g.replies) in
    subst (λ b. GreetsOwn z (answered f b g).server_end.greeting) (sym plain)
    (told_greets z frame k now fresh f (counted_on f false g (length (each_joined rows))) s L c g.replies (concatenated rows) old own
    (said_all z.server k now fresh f s L x.messages c one))

abbrev StepGreets : WorldSettings → ℕ → ℕ → List ℕ → Server → Logons → ServerEnd → Result Frame ConnEnd → Type 0
StepGreets z k now fresh s L f r = GreetsOwn z (step_of z.server k now fresh s L f r).server_end.greeting

frame_greets : (z : WorldSettings) (frame : List ℕ) (k now : ℕ) (fresh : List ℕ) (s : Server) (L : Logons) (f : ServerEnd) (r : Result Frame ConnEnd)
    → Reads f (heard_in frame) r → Lone r → GreetsOwn z f.greeting → Greets z frame (checked_as f false false true (heard_in frame))
    → StepGreets z k now fresh s L f r
frame_greets z frame k now fresh s L f (Err why) reads one old own = old
frame_greets z frame k now fresh s L f (Ok x) reads one old own =
    let same : x.server_end.greeting ≡ f.greeting = ap (λ (g : ServerEnd). g.greeting) reads.1 in
    answered_greets z frame k now fresh s L x (checked_as f false false true (heard_in frame)) one.sealed reads.0
    (subst (GreetsOwn z) (sym same) old) own

-- ---- of a frame that was put up

abbrev pub AllFine : WorldSettings → RepeatWorld → Type 0
AllFine z r = frames.Holds z r × plains.Holds r

reads_own : (z : WorldSettings) → NegotiateReads → IsFitting z → (frame : List ℕ) (m : Message) (f : ServerEnd) (k : ℕ) → IsRequest z k frame m
    → Greets z frame (checked_as f false false true (heard_in frame))
reads_own z law fitting frame m f k own =
    record {
      bytes = refl;
      own = λ zero ok. by ok (negotiates law z frame m fitting.client own.meant zero);
    }
  where
    by : negotiate_status frame ≡ success
        → ((salt : List ℕ) × IsRead frame z.client salt) ⊎ (negotiate_status frame ≡ invalid_parameter)
        → (client_told frame ≡ number_of z.client.guid) × (negotiated frame ≡ chosen_of z.client)
    by ok (inl q) = (client_is frame z.client q.0 q.1, negotiated_is frame z.client q.0 q.1)
    by ok (inr bad) = absurd (omega (arith, ok, bad))

abbrev EndGreets : WorldSettings → RepeatWorld → ℕ → Type 0
EndGreets z r k = GreetsOwn z (r.world.wires k).server_end.greeting

given_greets : (z : WorldSettings) → NegotiateReads → IsFitting z → (r : RepeatWorld) (k : ℕ) (e : RepeatEvent) → GivenEnd z r k e → AllFine z r
    → EndGreets z r k → EndGreets z (repeat_happens z r e) k
given_greets z law fitting r k e g fine old =
    let u = g.put in
    let w = loaded_up r k u in
    let f = (w.wires k).server_end in
    let bare = fine.1.ups g.place u g.at in
    let bears = fine.0.bear g.place u g.at in
    let one = bears_one z u.connection u.frame u.sent.message bare bears in
    let now = w.values.moment in
    let fresh = take 8 (draw z.seed w.draws) in
    let before : GreetsOwn z f.greeting = subst (λ (h : ServerEnd). GreetsOwn z h.greeting) (sym g.before) old in
    subst (λ (h : ServerEnd). GreetsOwn z h.greeting) (sym g.behind)
    (frame_greets z u.frame k now fresh w.values.server w.logons f (check_frame f u.frame)
    (reads_frame f u.frame (heard_in u.frame) bare one.alone) (lone_frame f u.frame bare one.alone) before
    (reads_own z law fitting u.frame u.sent.message f u.connection (bears_request z u.connection u.frame u.sent.message bare bears)))

event_greets : (z : WorldSettings) → NegotiateReads → IsFitting z → (r : RepeatWorld) (e : RepeatEvent) (k : ℕ) → AllFine z r
    → EndGreets z r k → EndGreets z (repeat_happens z r e) k
event_greets z law fitting r e k fine old = by_opening (is_opened_by r k e) refl
  where
    by_end : EndStays z r k e ⊎ GivenEnd z r k e → EndGreets z (repeat_happens z r e) k
    by_end (inl same) = subst (λ (h : ServerEnd). GreetsOwn z h.greeting) (sym same) old
    by_end (inr g) = given_greets z law fitting r k e g fine old

    by_opening : (b : Bool) → is_opened_by r k e ≡ b → EndGreets z (repeat_happens z r e) k
    by_opening true on = let f = event_opened z r k e on in subst (λ (h : ServerEnd). GreetsOwn z h.greeting) (sym f.1) (none_greeted z)
    by_opening false off = by_end (event_end z r k e off)

run_greets : (z : WorldSettings) → NegotiateReads → IsFitting z → z.client.ciphers ≡ [] → (es : List RepeatEvent) (r : RepeatWorld) (k : ℕ)
    → AllFine z r → EndGreets z r k → EndGreets z (repeat_run z es r) k
unfolding repeat_run
run_greets z law fitting c [] r k fine old = old
run_greets z law fitting c (e ∷ es) r k fine old =
    run_greets z law fitting c es (repeat_happens z r e) k (frames.event_holds z r e fine.0, plains.event_holds z r e c fine.1)
    (event_greets z law fitting r e k fine old)

pub ends_greet : NegotiateReads → EndsGreetClient
ends_greet law z es k g fitting c at =
    run_greets z law fitting c es (repeat_start z) k (frames.start_holds z, plains.start_holds z) (none_greeted z) g at

-- ---- what is heard of a frame that was put up

abbrev Turned : ServerEnd → Header → Result Frame ConnEnd → Type 0
Turned f h (Err why) = Unit {0}
Turned f h (Ok x) = (is_some f.greeting ≡ true) ⊎ (is_negotiate h ≡ true)

turned_any : (f : ServerEnd) (h : Header) (r : Result Frame ConnEnd) → (is_some f.greeting ≡ true) ⊎ (is_negotiate h ≡ true) → Turned f h r
turned_any f h (Err why) p = tt
turned_any f h (Ok x) p = p

one_of : (a b : Bool) → (not a && not b) ≡ false → (a ≡ true) ⊎ (b ≡ true)
one_of true b e = inl refl
one_of false true e = inr refl
one_of false false e = absurd (let q : true ≡ false = e in cc)

turned_in : (f : ServerEnd) (h : Header) (later : Option ConnEnd) (rest : Result Frame ConnEnd)
    → Turned f h (if_in_turn (if not (is_some f.greeting) && not (is_negotiate h) then Some BadFrame else later) rest)
turned_in f h later rest =
    either (λ o. Turned f h (if_in_turn o rest)) (not (is_some f.greeting) && not (is_negotiate h)) (Some BadFrame) later (λ _. tt)
    (λ off. turned_any f h (if_in_turn later rest) (one_of (is_some f.greeting) (is_negotiate h) off))

turned_split : (f : ServerEnd) (y : HeardMessage) (o : Option (List HeardMessage)) → o ≡ Some (y ∷ [])
    → Turned f y.header (checked_text f (split_text false o))
turned_split f y o e = subst (λ p. Turned f y.header (checked_text f (split_text false p))) (sym e) (turned_in f y.header _ _)

turned_frame : (f : ServerEnd) (frame : List ℕ) (y : HeardMessage) → begins_sealed frame ≡ false → messages_in frame ≡ Some (y ∷ [])
    → Turned f y.header (check_frame f frame)
turned_frame f frame y bare one =
    either (λ r. Turned f y.header (checked_text f r)) (is_too_long f.keys frame) (Err BadFrame) _ (λ _. tt)
    (λ _. either (λ r. Turned f y.header (checked_text f r)) (begins_sealed frame) (opened_text (opened_by f.keys frame))
    (split_text false (messages_in frame)) (λ on. absurd (let a = on in let b = bare in cc)) (λ _. turned_split f y (messages_in frame) one))

placed_client : (t : Told) (h : Header) (broken : Bool) (o : Option Command) (m : Message)
    → placed broken (option_map (heard_as t h) o) ≡ Some m → m.client_guid ≡ t.client
placed_client t h true None m e = absurd (let q : None ≡ Some m = e in cc)
placed_client t h false None m e = absurd (let q : None ≡ Some m = e in cc)
placed_client t h true (Some c) m e = sym (ap (λ (x : Message). x.client_guid) (same_message (misplaced (heard_as t h c)) m e))
placed_client t h false (Some c) m e = sym (ap (λ (x : Message). x.client_guid) (same_message (heard_as t h c) m e))

heard_client : (z : ServerSettings) (L : Logons) (k : ℕ) (f : ServerEnd) (c : Checked) (m : Message) → heard_message z L k f c ≡ Some m
    → m.client_guid ≡ client_by f c
unfolding message_of
heard_client z L k f c m e = placed_client (told_of z L k f c) c.header (is_misplaced c) (command_of (told_of z L k f c) c.header c.bytes) m e

own_client : (z : WorldSettings) (o : Option Greeting) → is_some o ≡ true → GreetsOwn z o → client_on o ≡ number_of z.client.guid
own_client z None e own = absurd (let q : false ≡ true = e in cc)
own_client z (Some g) e own = (own g refl).0

if_false : {X : Type 0} (b : Bool) (x y : X) → b ≡ false → (if b then x else y) ≡ y
if_false true x y e = absurd (let h : true ≡ false = e in cc)
if_false false x y e = refl

heard_of : (z : WorldSettings) (L : Logons) (k n : ℕ) (f : ServerEnd) (frame : List ℕ) (x : Frame) (c : Checked) (m : Message)
    → begins_sealed frame ≡ false → messages_in frame ≡ Some (heard_in frame ∷ []) → GreetsOwn z f.greeting → check_frame f frame ≡ Ok x
    → slice_get x.messages n ≡ Some c → is_negotiate c.header ≡ false → heard_message z.server L k x.server_end c ≡ Some m
    → m.client_guid ≡ number_of z.client.guid
heard_of z L k n f frame x c m bare one own ok at other heard =
    let y = heard_in frame in
    let reads : Reads f y (Ok x) = subst (Reads f y) ok (reads_frame f frame y bare one) in
    let turned : Turned f y.header (Ok x) = subst (Turned f y.header) ok (turned_frame f frame y bare one) in
    let d = checked_as f false false true y in
    let same : d ≡ c = only_get x.messages d c n reads.0 at in
    let not_it : is_negotiate y.header ≡ false = ap (λ (e : Checked). is_negotiate e.header) same ∙ other in
    let greeting : x.server_end.greeting ≡ f.greeting = ap (λ (g : ServerEnd). g.greeting) reads.1 in
    heard_client z.server L k x.server_end c m heard
    ∙ (if_false (is_negotiate c.header) (client_told c.bytes) (client_on x.server_end.greeting) other
    ∙ (ap client_on greeting ∙ own_client z f.greeting (by turned not_it) own))
  where
    by : (is_some f.greeting ≡ true) ⊎ (is_negotiate (heard_in frame).header ≡ true) → is_negotiate (heard_in frame).header ≡ false
        → is_some f.greeting ≡ true
    by (inl e) off = e
    by (inr on) off = absurd (cc)

pub requests_own : NegotiateReads → RequestsAreTheClients
requests_own law z es i k n u L x c m fitting bare at ok got other heard =
    let plain = plains.own_frames_plain z es i u bare at in
    let one = frames.own_frames_bear z es i u at plain in
    heard_of z L k n ((repeat_run z es (repeat_start z)).world.wires k).server_end u.frame x c m plain one.alone
    (run_greets z law fitting bare es (repeat_start z) k (frames.start_holds z, plains.start_holds z) (none_greeted z)) ok got other heard
