-- Where nothing is forged, the response that ends a dialog of the client answers the TREE_CONNECT that it sent.
use Rattle.std.proofs.Common.{◌≡◌, ℕ, ◌+◌, ◌<◌, ◌^◌, ◌==◌, ◌&&◌, Bool, true, false, if◌then◌else◌, List, ◌∷◌, ◌++◌, refl, sym, ◌∙◌}
use Rattle.std.proofs.Common.{ap, subst, arith, Option, Some, None, slice_get, eqb-true}
use Rattle.law_server.proofs.tables.Logic.{front_of, back_of}
use Rattle.spec_wire.specs.messages.Places.{number, number_of, le, bytes_at}
use Rattle.spec_wire.specs.declared.messages.header.Header.{Header}
use Rattle.spec_wire.proofs.messages.Numbers.{number_of-le}
use Rattle.spec_crypto.specs.declared.sessions.material.Signer.{Signer}
use Rattle.spec_crypto.specs.sessions.Signing.{signed}
use Rattle.spec_crypto.specs.sessions.Sealing.{opened}
use Rattle.spec_exchange.specs.State.{Message, Reply}
use Rattle.spec_exchange.specs.Operations.{Op, OpCreate, OpWrite, OpRead, OpEnd, OpTime, OpRename, OpRemove}
use Rattle.spec_exchange.specs.Operations.{OpLock, OpUnlock, OpFlush, OpStat, OpList, OpClose}
use Rattle.spec_exchange.specs.Operations.{Refusal, BadToken, request_of, reconnect_of}
use Rattle.spec_exchange.specs.Client.{Client, AskedTree, create_for, guid_for}
use Rattle.spec_exchange.specs.ClientStep.{Act, Nothing, Sends, Asks, CloseChannel, CloseChannels, AllSettled, Pushes, client_after, act}
use Rattle.spec_exchange.specs.Dialogs.{DialogStep, GoesOn, Accepts, Binds, Readies, Refuses, dialog_step}
use Rattle.spec_exchange.specs.Network.{Sent, ForDialog}
use Rattle.spec_commands.specs.BodyOf.{number_of_command}
use Rattle.spec_world.specs.Settings.{WorldSettings}
use Rattle.spec_world.specs.Messages.{HeardMessage, has_header, header_in, heard_in, message_spelling}
use Rattle.spec_world.specs.Ends.{ClientEnd}
use Rattle.spec_world.specs.Answering.{with_signature}
use Rattle.spec_world.specs.Dialog.{dialog_response, dialog_text, response_in, dialog_fault, first_refusal, unless}
use Rattle.spec_world.specs.Dialog.{has_form, is_response, is_dialogs, body_reads}
use Rattle.spec_world.specs.World.{paid, dialog_reply}
use Rattle.spec_hostile.specs.RepeatRuns.{RepeatWorld, RepeatEvent, Give, repeat_start}
use Rattle.spec_hostile.specs.SignedFor.{Watched, SignedEntry, Passes, PassesAt, TakesDown, TakenDown, opening_of, own_secret, watching}
use Rattle.spec_hostile.specs.HostileNetwork.{SignsAlone, IsBounded, repeated}
use Rattle.law_ties.specs.wire_facts.Lawful.{AreHeadersLawful, AreCommandsLawful, TreeFacts}
use Rattle.law_hostile.specs.unforged.Unforged.{AllSigned}
use Rattle.law_hostile.specs.placed.Placed.{GivesMessage, watched_to}
use Rattle.law_hostile.specs.greeted.Greeted.{RequestsAreTheClients}
use Rattle.law_hostile.specs.meant.Meant.{IsMeant, AsksNegotiate, AsksSetup, AsksLine}
use Rattle.law_hostile.specs.replied.Replies.{answer_said, IsAnswer}
use Rattle.law_hostile.specs.sends.OwnSends.{PushSends, DialogSends, SendsAt, AtOpen, AtPush, AtResponse}
use Rattle.law_hostile.specs.sends.HeardSends.{IsHeardSend}
use Rattle.law_hostile.specs.sends.TreeSends.{TakenTreesAnswerSend}
use Rattle.law_hostile.proofs.ids.Bearing.{bears_request}
use Rattle.law_hostile.proofs.ids.Frames.{own_frames_bear, own_requests_meant}
use Rattle.law_hostile.proofs.ids.PlainRuns.{own_frames_plain}
use Rattle.law_hostile.proofs.greeted.Bytes.{setup_command, line_command, small_number}
use Rattle.law_hostile.proofs.setups.Own.{greeting_command}
use Rattle.law_hostile.proofs.finals.Signing.{Holds, start_holds, fine_of}
use Rattle.law_hostile.proofs.meant.Telling.{raw_of}
use Rattle.law_hostile.proofs.replied.Saying.{signed_replies_answer}
use Rattle.law_hostile.proofs.replied.Owning.{run_fine, signed_at, plain_frame, place_of}
use Rattle.law_hostile.proofs.replied.Awaiting.{given_header}
use Rattle.law_hostile.proofs.sends.Counts.{front_bounded}
use Rattle.law_hostile.proofs.sends.Lines.{front_signed}
use Rattle.law_hostile.proofs.sends.Meaning.{heard_sends}

-- ---- what of the client's asks for a tree is its dialog's

never_tree : (op : Op) (guid file slot turn : ℕ) → number_of_command (request_of op guid file slot turn) ≡ 3 → ⊥
never_tree (OpCreate path access share disposition persist directory) guid file slot turn e = absurd (let h : 5 ≡ 3 = e in omega (arith, h))
never_tree (OpWrite create at bytes) guid file slot turn e = absurd (let h : 9 ≡ 3 = e in omega (arith, h))
never_tree (OpRead create at size) guid file slot turn e = absurd (let h : 8 ≡ 3 = e in omega (arith, h))
never_tree (OpEnd create size) guid file slot turn e = absurd (let h : 17 ≡ 3 = e in omega (arith, h))
never_tree (OpTime create time) guid file slot turn e = absurd (let h : 17 ≡ 3 = e in omega (arith, h))
never_tree (OpRename create path) guid file slot turn e = absurd (let h : 17 ≡ 3 = e in omega (arith, h))
never_tree (OpRemove create) guid file slot turn e = absurd (let h : 17 ≡ 3 = e in omega (arith, h))
never_tree (OpLock create at size exclusive) guid file slot turn e = absurd (let h : 10 ≡ 3 = e in omega (arith, h))
never_tree (OpUnlock create at size) guid file slot turn e = absurd (let h : 10 ≡ 3 = e in omega (arith, h))
never_tree (OpFlush create) guid file slot turn e = absurd (let h : 7 ≡ 3 = e in omega (arith, h))
never_tree (OpStat create) guid file slot turn e = absurd (let h : 16 ≡ 3 = e in omega (arith, h))
never_tree (OpList create) guid file slot turn e = absurd (let h : 14 ≡ 3 = e in omega (arith, h))
never_tree (OpClose create) guid file slot turn e = absurd (let h : 6 ≡ 3 = e in omega (arith, h))

aside_off : (n : ℕ) → n ≡ 3 → n ≡ 0 → ⊥
aside_off n e zero = absurd (omega (arith, e, zero))

never_asked : (op : Op) (guid file : ℕ) → number_of_command (reconnect_of op guid file) ≡ 3 → ⊥
never_asked (OpCreate path access share disposition persist directory) guid file e = absurd (let h : 5 ≡ 3 = e in omega (arith, h))
never_asked (OpWrite create at bytes) guid file e = aside_off 0 e refl
never_asked (OpRead create at size) guid file e = aside_off 0 e refl
never_asked (OpEnd create size) guid file e = aside_off 0 e refl
never_asked (OpTime create time) guid file e = aside_off 0 e refl
never_asked (OpRename create path) guid file e = aside_off 0 e refl
never_asked (OpRemove create) guid file e = aside_off 0 e refl
never_asked (OpLock create at size exclusive) guid file e = aside_off 0 e refl
never_asked (OpUnlock create at size) guid file e = aside_off 0 e refl
never_asked (OpFlush create) guid file e = aside_off 0 e refl
never_asked (OpStat create) guid file e = aside_off 0 e refl
never_asked (OpList create) guid file e = aside_off 0 e refl
never_asked (OpClose create) guid file e = aside_off 0 e refl

abbrev IfTree : Sent → Type 0
IfTree x = number_of_command x.message.command ≡ 3 → x.token ≡ ForDialog

pushed_tree : (k id : ℕ) (c : Client) (a : Act) (x : Sent) → PushSends k id c a x → IfTree x
pushed_tree k id c (Sends g) x e =
    subst IfTree (sym e) (λ n. absurd (never_tree (c.op g) (guid_for c g) (c.file (create_for c g)) (c.slot_of g) (c.number_of g) n))
pushed_tree k id c (Asks g) x e =
    subst IfTree (sym e) (λ n. absurd (never_asked (c.op (create_for c g)) (guid_for c (create_for c g)) (c.file (create_for c g)) n))
pushed_tree k id c Nothing x e = absurd e
pushed_tree k id c CloseChannel x e = absurd e
pushed_tree k id c CloseChannels x e = absurd e
pushed_tree k id c AllSettled x e = absurd e

dialog_tree : (k id : ℕ) (c : Client) (r : Reply) (d : DialogStep) (x : Sent) → DialogSends k id c r d x → IfTree x
dialog_tree k id c r (GoesOn next) x e = subst IfTree (sym e) (λ n. refl)
dialog_tree k id c r Accepts x e = subst IfTree (sym e) (λ n. refl)
dialog_tree k id c r Binds x e = absurd e
dialog_tree k id c r Readies x e = absurd e
dialog_tree k id c r (Refuses status) x e = absurd e

sends_tree : (z : WorldSettings) (r : RepeatWorld) (k : ℕ) (x : Sent) (e : RepeatEvent) → SendsAt z r k x e → IfTree x
sends_tree z r k x _ (AtOpen may is) = subst IfTree (sym is) (λ n. refl)
sends_tree z r k x _ (AtPush slotless pick ready h) =
    let p = Pushes k slotless (paid r.world k slotless pick) in
    pushed_tree k (r.world.values.conns k).next_id (client_after r.world.values.client p) (act r.world.values.client p) x h
sends_tree z r k x _ (AtResponse place d y at on heard fine h) =
    let n = (r.world.wires k).client_end in
    dialog_tree k (r.world.values.conns k).next_id r.world.values.client (dialog_reply r.world n.stage y)
    (dialog_step n.stage y.header.status) x h

-- ---- the number in a request's header

meant_small : (z : WorldSettings) (frame : List ℕ) (m : Message) → IsMeant z frame m → (header_in frame).command < 2 ^ 16
meant_small z frame m (AsksNegotiate draws command e) =
    subst (λ n. n < 2 ^ 16) (sym (greeting_command z _ m frame e)) (omega arith)
meant_small z frame m (AsksSetup n r token command sequence own e) =
    subst (λ n. n < 2 ^ 16) (sym (setup_command n r.binding r.previous token m frame e)) (omega arith)
meant_small z frame m (AsksLine signer e) =
    subst (λ n. n < 2 ^ 16) (sym (line_command signer m _ frame e)) (small_number m.command)

meant_tree : (z : WorldSettings) (frame : List ℕ) (m : Message) → IsMeant z frame m → (header_in frame).command ≡ 3
    → number_of_command m.command ≡ 3
meant_tree z frame m (AsksNegotiate draws command e) three =
    absurd (let h : 0 ≡ 3 = sym (greeting_command z _ m frame e) ∙ three in omega (arith, h))
meant_tree z frame m (AsksSetup n r token command sequence own e) three =
    absurd (let h : 1 ≡ 3 = sym (setup_command n r.binding r.previous token m frame e) ∙ three in omega (arith, h))
meant_tree z frame m (AsksLine signer e) three = sym (line_command signer m _ frame e) ∙ three

-- ---- the response

answered_by : (has : Bool) (m : List ℕ) (y : HeardMessage) → (if has then Some (heard_in m) else None) ≡ Some y → y ≡ heard_in m
answered_by true m y e = let q : Some (heard_in m) ≡ Some y = e in cc
answered_by false m y e = absurd (let q : None ≡ Some y = e in cc)

tree_read : (n : ClientEnd) (m : List ℕ) (y : HeardMessage) → n.encrypts ≡ false → dialog_response n AskedTree m ≡ Some y → y ≡ heard_in m
tree_read n m y bare e =
    let text : dialog_text n AskedTree m ≡ Some m = ap (λ b. if b then opened n.keys false m else Some m) bare in
    answered_by (has_header m) m y (sym (ap (λ o. response_in o) text) ∙ e)

no_first : (b : Bool) (why : Refusal) (later : Option Refusal) → first_refusal (unless b why) later ≡ None → b ≡ true
no_first true why later e = refl
no_first false why later e = absurd (let q : Some why ≡ None = e in cc)

tree_due : (z : WorldSettings) (n : ClientEnd) (y : HeardMessage) → dialog_fault z.client n AskedTree y ≡ None → y.header.command ≡ 3
tree_due z n y e =
    let form = no_first (has_form n AskedTree y) BadToken _ e in
    let rest = is_dialogs (n.awaited y.header.message) && body_reads AskedTree y.bytes in
    eqb-true y.header.command 3
    (front_of (y.header.command == 3) rest (back_of (is_response y.header) ((y.header.command == 3) && rest) form))

spelled_both : (h : Header) (body : List ℕ)
    → ((header_in (message_spelling h body)).command ≡ number_of (le 2 h.command))
    × ((header_in (message_spelling h body)).message ≡ number_of (le 8 h.message))
unfolding header_in message_spelling bytes_at le
spelled_both h body = (refl, refl)

signed_both : (s : Signer) (h : Header) (body : List ℕ)
    → ((header_in (signed s (message_spelling h body))).command ≡ number_of (le 2 h.command))
    × ((header_in (signed s (message_spelling h body))).message ≡ number_of (le 8 h.message))
unfolding header_in message_spelling signed bytes_at le
signed_both s h body = (refl, refl)

abbrev HasBoth : Header → Header → Type 0
HasBoth a h = (a.command ≡ h.command) × (a.message ≡ h.message)

text_both : (o : Option Signer) (h : Header) (body : List ℕ) → h.command < 2 ^ 16 → h.message < 2 ^ 64
    → HasBoth (header_in (with_signature o h body)) h
text_both None h body low small =
    let q = spelled_both h body in
    (q.0 ∙ number_of-le 2 h.command low, q.1 ∙ number_of-le 8 h.message small)
text_both (Some s) h body low small =
    let q = signed_both s (record h { flags = h.flags + 8 }) body in
    (q.0 ∙ number_of-le 2 h.command low, q.1 ∙ number_of-le 8 h.message small)

-- ---- what it answers

-- The reply has the number and the id of the request that the server's end answered, which was put up.
answers_both : (z : WorldSettings) (t : Watched) (k place : ℕ) (e : SignedEntry) → Holds z t → (q : IsAnswer z t k place e)
    → (let c = q.checked in HasBoth (header_in e.message) c.header × (header_in q.put.frame ≡ c.header))
answers_both z t k place e holds q =
    let c = q.checked in
    let fine = fine_of z t holds place q.put q.at in
    let bears = fine.1 in
    let request = bears_request z q.put.connection q.put.frame q.put.sent.message fine.0 (holds.bear.bear place q.put q.at) in
    let head = given_header z t k place e holds q in
    let low : c.header.command < 2 ^ 16 =
    subst (λ (h : Header). h.command < 2 ^ 16) head (meant_small z q.put.frame q.put.sent.message request.meant) in
    let small : c.header.message < 2 ^ 64 =
    subst (λ i. i < 2 ^ 64) (sym bears.id_is ∙ ap (λ (h : Header). h.message) head) request.small in
    let r = answer_said z t.repeating.world k q.frame c q.message in
    (subst (λ m. HasBoth (header_in m) c.header) (sym q.text) (text_both r.signer _ _ low small), head)

-- the server's end hears it as the model's client sent it
answered_send : AreHeadersLawful → AreCommandsLawful → TreeFacts → RequestsAreTheClients → (z : WorldSettings)
    (es before : List RepeatEvent) (k place : ℕ) (after : List RepeatEvent) (e : SignedEntry)
    → SignsAlone z → IsBounded z es → AllSigned z es (watching (repeat_start z))
    → es ≡ before ++ Give k true place ∷ after → (a : IsAnswer z (watched_to z before) k place e)
    → (let c = a.checked in c.header.command ≡ 3) → IsHeardSend z before (watched_to z before).repeating.world.logons k a.frame a.checked
answered_send heads law trees clients z es before k place after e alone bounds all run a three =
    let start = watching (repeat_start z) in
    let t = watched_to z before in
    let c = a.checked in
    let signed = subst (λ l. AllSigned z l start) run all in
    let h = run_fine z before start alone.offered (start_holds z) in
    let g : GivesMessage t k place c = record {
      put = a.put;
      at = a.at;
      served = a.served;
      frame = a.frame;
      heard = a.checks;
      plain = plain_frame z t k place e h a;
      index = 0;
      message = ap (λ l. slice_get l 0) a.alone;
    } in
    heard_sends heads law trees clients z before k place c t.repeating.world.logons alone
    (front_bounded z before (Give k true place ∷ after) (subst (IsBounded z) run bounds))
    (front_signed z before (Give k true place ∷ after) start signed) (signed_at z before (Give k true place) after start signed) g a.fine
    (ap (λ n. n == 0) three) (ap (λ n. n == 1) three) (ap (λ n. (n == 13) && (number 8 c.raw 40 == 0)) three)

pub taken_trees : AreHeadersLawful → AreCommandsLawful → TreeFacts → RequestsAreTheClients → TakenTreesAnswerSend
taken_trees heads law trees clients z es k place d y alone bounds all now at on stage heard status fine =
    let start = watching (repeat_start z) in
    let t = watched_to z es in
    let n = (t.repeating.world.wires k).client_end in
    let e : SignedEntry = record {
      to_server = false;
      secret = own_secret n;
      place = opening_of t.repeating k;
      message = d.frame;
    } in
    let passes : PassesAt z n AskedTree d.frame = subst (Passes z n AskedTree) (sym heard) (status, fine) in
    let takes : TakenDown z t k n d.frame e n.stage =
    subst (λ s. TakenDown z t k n d.frame e s) (sym stage) (passes, refl, refl) in
    let w = now e (TakesDown k place d at on refl refl takes) in
    let a = signed_replies_answer z es w.0 e alone w.1 refl in
    let q = a.answer in
    let c = q.checked in
    let b = watched_to z a.before in
    let place_is = place_of z t b k e a.k a.place refl q in
    let holds = run_fine z a.before start alone.offered (start_holds z) in
    let plain = run_fine z es start alone.offered (start_holds z) in
    let ends = plain.plain.world.0 k in
    let both = answers_both z b a.k a.place e holds q in
    let read : HasBoth y.header c.header =
    subst (λ (x : HeardMessage). HasBoth x.header c.header) (sym (tree_read n d.frame y ends.ends.bare heard)) both.0 in
    let three : c.header.command ≡ 3 = sym read.0 ∙ tree_due z n y fine in
    let s = answered_send heads law trees clients z es a.before a.k a.place a.after e alone bounds all a.run q three in
    let bare = fine_of z b holds a.place q.put q.at in
    let one = bare.1 in
    let raw : c.raw ≡ q.put.frame =
    raw_of (b.repeating.world.wires a.k).server_end q.put.frame q.frame c 0 q.checks bare.0 one.alone (ap (λ l. slice_get l 0) q.alone) in
    let head : header_in s.put.frame ≡ c.header = ap header_in (s.frame ∙ raw) ∙ both.1 in
    let unsealed = own_frames_plain z a.before s.index s.put alone.offered s.at in
    let bears = own_frames_bear z a.before s.index s.put s.at unsealed in
    let own = own_requests_meant z a.before s.index s.put s.at unsealed in
    let command = meant_tree z s.put.frame s.put.sent.message own.meant (ap (λ (h : Header). h.command) head ∙ three) in
    let sent = s.sent in
    record {
      entry = e;
      text = refl;
      answered = a;
      here = place_is.0;
      opening = place_is.1;
      own = s;
      id = sym bears.id_is ∙ (ap (λ (h : Header). h.message) head ∙ sym read.1);
      command = command;
      token = sends_tree z (repeated z sent.before) s.put.connection s.put.sent sent.event sent.sends command;
    }
