-- What a client reads of a signed reply to an own request whose numbers fit.
use Rattle.std.proofs.Common.{◌≡◌, ℕ, ◌+◌, ◌<◌, ◌^◌, ◌==◌, Bool, true, false, List, [], ◌∷◌, ◌++◌, take, refl, sym, ap, ◌∙◌, subst, arith}
use Rattle.std.proofs.Common.{eqb-true, Option, Some, None, slice_get}
use Rattle.std.proofs.lemmas.List.{append-nil}
use Rattle.spec_wire.specs.messages.Header.{IsWritableHeader}
use Rattle.spec_wire.specs.declared.messages.header.Header.{Header}
use Rattle.spec_exchange.specs.Status.{success}
use Rattle.spec_exchange.specs.Commands.{Command}
use Rattle.spec_exchange.specs.State.{Message, Reply}
use Rattle.spec_exchange.specs.Operations.{Op, value_in, id_in, request_of}
use Rattle.spec_exchange.specs.Operations.{charge as charge_of}
use Rattle.spec_exchange.specs.Network.{Token, ForDialog, ForOp, ForAttach, answer_to}
use Rattle.spec_commands.specs.BodyOf.{number_of_command, body_of}
use Rattle.spec_commands.specs.ReplyBody.{reply_body}
use Rattle.spec_commands.specs.ReplyOf.{reply_of}
use Rattle.spec_commands.specs.Tables.{bit_if}
use Rattle.spec_crypto.specs.declared.sessions.material.Signer.{Signer}
use Rattle.spec_crypto.specs.sessions.Signing.{signed}
use Rattle.spec_wire.specs.credits.Window.{granted}
use Rattle.spec_world.specs.Settings.{WorldSettings, draw}
use Rattle.spec_world.specs.Messages.{HeardMessage, header_in, heard_in, messages_in, message_spelling}
use Rattle.spec_world.specs.Hearing.{Checked, Frame, checked_as, behind_turn, is_negotiate, is_setup}
use Rattle.spec_world.specs.Logon.{token_in, answer_token_by, progress}
use Rattle.spec_world.specs.Answering.{said_text, with_signature}
use Rattle.spec_world.specs.Sending.{request_text}
use Rattle.spec_world.specs.Dialog.{response_in}
use Rattle.spec_world.specs.World.{World}
use Rattle.spec_hostile.specs.RepeatRuns.{UpFrame, repeat_start}
use Rattle.spec_hostile.specs.SignedFor.{Watched, SignedEntry, watching}
use Rattle.law_ties.specs.wire_facts.Fitting.{IsMessage, Bare, Signed}
use Rattle.law_ties.specs.wire_facts.Lawful.{header_as, heard_under, AreHeadersLawful, AreCommandsLawful}
use Rattle.law_ties.specs.events.Fronts.{TellsBody}
use Rattle.law_ties.specs.requests.Lines.{ReplyFits, TellsOperation, TellsToken}
use Rattle.law_ties.proofs.requests.Hearing.{told_header, HeaderFits}
use Rattle.law_ties.proofs.requests.Line.{body_is, few_granted}
use Rattle.law_hostile.specs.placed.Placed.{watched_to}
use Rattle.law_hostile.specs.meant.Meant.{IsMeant, AsksNegotiate, AsksSetup, AsksLine, bytes_moved}
use Rattle.law_hostile.specs.meant.Heard.{FitsRequest}
use Rattle.law_hostile.specs.replied.Replies.{answer_said, IsAnswer}
use Rattle.law_hostile.specs.replied.Told.{TellsGiven, SignedRepliesTell}
use Rattle.law_hostile.proofs.ids.Bearing.{bears_request}
use Rattle.law_hostile.proofs.finals.Signing.{Holds, start_holds, fine_of}
use Rattle.law_hostile.proofs.meant.Reading.{head_of, head_fits, text_signed, line_number, charge_low, moves_low, long_id, fits_no_dialog, Reads, reads_frame}
use Rattle.law_hostile.proofs.meant.Telling.{only_get, raw_of}
use Rattle.law_hostile.proofs.replied.Owning.{run_fine}

-- ---- its text is a message of one header and one body, signed or not

record IsSpelled (q : Header) (r : Reply) (credits : ℕ) (body m : List ℕ) : Type 0 where
  flags : ℕ
  low : flags < 256 ^ 4
  is : IsMessage (told_header q r credits flags) body m

text_is : (q : Header) (r : Reply) (credits flags : ℕ) (body : List ℕ) (o : Option Signer) → flags + 8 < 256 ^ 4
    → IsSpelled q r credits body (with_signature o (told_header q r credits flags) (body ++ []))
text_is q r credits flags body None low =
    record { flags = flags; low = omega (arith, low); is = Bare (ap (message_spelling (told_header q r credits flags)) (append-nil body)) }
text_is q r credits flags body (Some s) low =
    record {
      flags = flags + 8;
      low = low;
      is = Signed s (ap (λ b. signed s (message_spelling (told_header q r credits (flags + 8)) b)) (append-nil body));
    }

flags_low : (related : Bool) → (1 + bit_if related 4) + 8 < 256 ^ 4
unfolding bit_if
flags_low true = omega arith
flags_low false = omega arith

header_fits : (q : Header) (c : Command) (r : Reply) (credits flags : ℕ) → HeaderFits q → ReplyFits c r → credits < 256 ^ 2
    → flags < 256 ^ 4 → IsWritableHeader (told_header q r credits flags)
header_fits q c r credits flags h f few low = (
  refl,
  (
    omega arith,
    (
      h.charge,
      (f.status, (h.command, (few, (low, (omega arith, (h.message, (f.tree, (f.session, (refl, tt))))))))),
    ),
  ),
)

-- ---- what it tells of an operation's reply

by_status : (P : Type 0) (status : ℕ) (b : Bool) → (status == success) ≡ b → (status ≡ success → P) → ((status ≡ success → ⊥) → P) → P
by_status P status true e f g = f (eqb-true status success e)
by_status P status false e f g = g (λ q. (let h : true ≡ false = sym (ap (λ n. n == success) q) ∙ e in cc))

abbrev BodyTold : Op → Header → List ℕ → Reply → Type 0
BodyTold op h m reply =
    (value_in op (reply_of (request_of op 0 0 0 0) (header_as h m) m).body ≡ value_in op reply.body)
    × (id_in (reply_of (request_of op 0 0 0 0) (header_as h m) m).body ≡ id_in reply.body)

operation_told : AreCommandsLawful → (h : Header) (m token : List ℕ) (op : Op) (c : Command) (reply : Reply) → TellsOperation op c reply
    → IsWritableHeader h → h.status ≡ reply.status → IsMessage h (reply_body token c reply) m → BodyTold op h m reply
operation_told commands h m token op c reply t fit same is =
    let own : IsMessage h (reply_body token (request_of op t.guid t.file t.slot t.number) reply) m =
    subst (λ q. IsMessage h (reply_body token q reply) m) t.command is in
    by_status (BodyTold op h m reply) reply.status (reply.status == success) refl
    (λ ok. (let a = commands.reply h m token op t.guid t.file t.slot t.number reply fit own same ok (t.told ok) in (a.value, a.id)))
    (λ off. (let e = commands.refused (request_of op 0 0 0 0) h m (λ q. off (sym same ∙ q)) ∙ sym (t.refused off) in
    (ap (value_in op) e, ap id_in e)))

body_told : AreCommandsLawful → (z : WorldSettings) (op : ℕ → Op) (h : Header) (m token : List ℕ) (c : Command) (reply : Reply)
    → IsWritableHeader h → h.status ≡ reply.status → IsMessage h (reply_body token c reply) m → (t : Token) → TellsToken z op t c reply
    → TellsBody op (heard_under h m) reply t
body_told commands z op h m token c reply fit same is ForDialog tells = tt
body_told commands z op h m token c reply fit same is (ForOp g) tells =
    operation_told commands h m token (op g) c reply tells fit same is
body_told commands z op h m token c reply fit same is (ForAttach g) tells = tt

-- ---- the header of the request

pub record IsLineHeader (h : Header) : Type 0 where
  pub fits : HeaderFits h
  pub greets_not : is_negotiate h ≡ false
  pub sets_not : is_setup h ≡ false
  pub asks_not : (h.command == 13) ≡ false

same_heard : (a b : HeardMessage) (o : Option (List HeardMessage)) → o ≡ Some (a ∷ []) → o ≡ Some (b ∷ []) → a ≡ b
same_heard a b o e f = let q : Some (a ∷ []) ≡ Some (b ∷ []) = sym e ∙ f in cc

line_header : AreHeadersLawful → (z : WorldSettings) (s : Signer) (m : Message) (frame : List ℕ) → FitsRequest z m → m.message_id < 2 ^ 64
    → frame ≡ signed s (request_text m (charge_of (bytes_moved m.command)) true) → messages_in frame ≡ Some (heard_in frame ∷ [])
    → IsLineHeader (header_in frame)
line_header heads z s m frame i id is one =
    let h = head_of m in
    let fit = head_fits z m i id in
    let number = line_number z m.command i.command in
    let told : heard_in frame ≡ heard_under h frame =
    same_heard (heard_in frame) (heard_under h frame) (messages_in frame) one
    (heads.alone h (body_of m.command) frame fit refl (text_signed s m frame is)) in
    let same : header_in frame ≡ header_as h frame = ap (λ (x : HeardMessage). x.header) told in
    subst IsLineHeader (sym same) (record {
      fits = record {
        charge = charge_low (bytes_moved m.command) (moves_low z m.command i.command);
        command = number.small;
        message = long_id m.message_id id;
      };
      greets_not = number.greets_not;
      sets_not = number.sets_not;
      asks_not = number.asks_not;
    })

pub meant_header : AreHeadersLawful → (z : WorldSettings) (m : Message) (frame : List ℕ) → FitsRequest z m → m.message_id < 2 ^ 64
    → IsMeant z frame m → messages_in frame ≡ Some (heard_in frame ∷ []) → IsLineHeader (header_in frame)
meant_header heads z m frame i id (AsksNegotiate draws command e) one =
    absurd (fits_no_dialog z m.command i.command (ap number_of_command command))
meant_header heads z m frame i id (AsksSetup n r token command sequence own e) one =
    absurd (fits_no_dialog z m.command i.command (ap number_of_command command))
meant_header heads z m frame i id (AsksLine s e) one = line_header heads z s m frame i id e one

-- of the message that was answered
pub asked_header : AreHeadersLawful → (z : WorldSettings) (t : Watched) (k place : ℕ) (e : SignedEntry) → Holds z t
    → (q : IsAnswer z t k place e) (index : ℕ) (u : UpFrame) → slice_get t.repeating.ups index ≡ Some u → (let c = q.checked in u.frame ≡ c.raw)
    → FitsRequest z u.sent.message → (let c = q.checked in IsLineHeader c.header)
asked_header heads z t k place e holds q index u at same fits =
    let f = (t.repeating.world.wires k).server_end in
    let g = fine_of z t holds place q.put q.at in
    let one = g.1 in
    let own = fine_of z t holds index u at in
    let bears = own.1 in
    let r = bears_request z u.connection u.frame u.sent.message own.0 (holds.bear.bear index u at) in
    let c = q.checked in
    let frame = q.put.frame in
    let first : slice_get q.frame.messages 0 ≡ Some c = ap (λ l. slice_get l 0) q.alone in
    let raw : c.raw ≡ frame = raw_of f frame q.frame c 0 q.checks g.0 one.alone first in
    let got : (q.frame.messages ≡ checked_as f false false true (heard_in frame) ∷ []) × (q.frame.server_end ≡ behind_turn f (header_in frame)) =
    subst (Reads f (heard_in frame)) q.checks (reads_frame f frame (heard_in frame) g.0 one.alone) in
    let is : checked_as f false false true (heard_in frame) ≡ c =
    only_get q.frame.messages (checked_as f false false true (heard_in frame)) c 0 got.0 first in
    let told : header_in u.frame ≡ c.header = ap header_in (same ∙ raw) ∙ ap (λ (d : Checked). d.header) is in
    subst IsLineHeader told (meant_header heads z u.sent.message u.frame fits r.small r.meant bears.alone)

-- ---- all of it

answers_with : (a b : HeardMessage) (o : Option HeardMessage) → o ≡ Some a → o ≡ Some b → a ≡ b
answers_with a b o e f = let q : Some a ≡ Some b = sym e ∙ f in cc

reply_told : AreHeadersLawful → AreCommandsLawful → (z : WorldSettings) (w : World) (k : ℕ) (x : Frame) (c : Checked) (m : Message) (text : List ℕ)
    (y : HeardMessage) → text ≡ said_text false false (answer_said z w k x c m) → response_in (Some text) ≡ Some y → IsLineHeader c.header
    → (let r = (answer_to w.values.server w.values.moment m m.command).reply in ReplyFits m.command r → TellsGiven z y c m.command r)
reply_told heads commands z w k x c m text y is read h rf =
    let r = (answer_to w.values.server w.values.moment m m.command).reply in
    let said = answer_said z w k x c m in
    let credits = granted c.header.credits x.server_end.window in
    let fresh = take 8 (draw z.seed w.draws) in
    let token = answer_token_by z.server.users (w.logons.pending k) (token_in c.bytes) fresh w.values.moment (progress m.command r) in
    let t : IsSpelled c.header r credits said.body text =
    subst (IsSpelled c.header r credits said.body) (sym is)
    (text_is c.header r credits (1 + bit_if c.related 4) said.body said.signer (flags_low c.related)) in
    let head = told_header c.header r credits t.flags in
    let fit : IsWritableHeader head =
    header_fits c.header m.command r credits t.flags h.fits rf (few_granted c.header.credits x.server_end.window) t.low in
    let body : said.body ≡ reply_body token m.command r =
    body_is z.server.guid x.server_end.salt w.values.moment c token m.command r h.greets_not in
    let own : IsMessage head (reply_body token m.command r) text = subst (λ b. IsMessage head b text) body t.is in
    let same : y ≡ heard_under head text =
    answers_with y (heard_under head text) (response_in (Some text)) read (heads.heard head said.body text fit t.is) in
    record {
      id = ap (λ (v : HeardMessage). v.header.message) same;
      same = record {
        status = ap (λ (v : HeardMessage). v.header.status) same;
        session = ap (λ (v : HeardMessage). v.header.session) same;
        tree = ap (λ (v : HeardMessage). v.header.tree) same;
      };
      body = λ op token_of tells. subst (λ v. TellsBody op v r token_of) (sym same)
          (body_told commands z op head text token m.command r fit refl own token_of tells);
    }

pub signed_replies_tell : AreHeadersLawful → AreCommandsLawful → SignedRepliesTell
signed_replies_tell heads commands z es e y fitting alone read a h fits rf =
    let q = a.answer in
    let t = watched_to z a.before in
    let holds = run_fine z a.before (watching (repeat_start z)) alone.offered (start_holds z) in
    reply_told heads commands z t.repeating.world a.k q.frame q.checked q.message e.message y q.text read
    (asked_header heads z t a.k a.place e holds q h.index h.put h.at h.frame fits) rf
