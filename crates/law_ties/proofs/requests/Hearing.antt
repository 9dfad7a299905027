-- The client hears the answer to a line's request: it opens or verifies, and tells the reply.
use Rattle.std.proofs.Common.{◌≡◌, ℕ, ◌+◌, ◌<◌, ◌≤◌, ◌^◌, ◌==◌, Bool, true, false, if◌then◌else◌, List, [], ◌++◌, length}
use Rattle.std.proofs.Common.{refl, sym, ap, ◌∙◌, subst, eqb-true, arith, Some, None}
use Rattle.std.proofs.lemmas.List.{append-nil}
use Rattle.spec_wire.specs.messages.Header.{IsWritableHeader}
use Rattle.spec_wire.specs.declared.messages.header.Header.{Header}
use Rattle.spec_exchange.specs.Status.{success}
use Rattle.spec_exchange.specs.Commands.{Command, TreeConnect, has_bit}
use Rattle.spec_exchange.specs.State.{Reply}
use Rattle.spec_exchange.specs.Operations.{Op, value_in, id_in, request_of}
use Rattle.spec_exchange.specs.Client.{AskedTree}
use Rattle.spec_exchange.specs.Network.{Token, ForDialog, ForOp, ForAttach}
use Rattle.spec_commands.specs.ReplyBody.{reply_body}
use Rattle.spec_commands.specs.ReplyOf.{reply_of}
use Rattle.spec_commands.specs.Tables.{bit_if}
use Rattle.spec_crypto.specs.declared.sessions.material.Keys.{Keys}
use Rattle.spec_crypto.specs.declared.sessions.material.Signer.{Signer}
use Rattle.spec_crypto.specs.sessions.Signing.{signed, verifies}
use Rattle.spec_crypto.specs.sessions.Sealing.{sealed as sealed_under, opened}
use Rattle.spec_world.specs.Settings.{WorldSettings}
use Rattle.spec_world.specs.Messages.{HeardMessage, message_spelling, unsigned_field}
use Rattle.spec_world.specs.Ends.{ClientEnd, ServerEnd, nonce_at}
use Rattle.spec_world.specs.Answering.{SaidReply, said_text, said_header, with_signature}
use Rattle.spec_world.specs.Dialog.{response_in, is_response, if_response, line_text, line_response, body_reads}
use Rattle.law_ties.specs.wire_facts.Fitting.{IsMessage, Bare, Signed}
use Rattle.law_ties.specs.wire_facts.Lawful.{header_as, heard_under, IsLawful}
use Rattle.law_ties.specs.events.Fronts.{TellsBody}
use Rattle.law_ties.specs.requests.Lines.{ReplyFits, TellsOperation, LineTellsTree, TellsToken}
use Rattle.law_ties.proofs.requests.Answering.{answer_frame}

-- ---- the header of a reply to a request that isn't related

abbrev pub plain_flags : ℕ
plain_flags = 1 + bit_if false 4

abbrev pub told_header : Header → Reply → ℕ → ℕ → Header
told_header q r credits flags = record {
  charge = q.charge;
  status = r.status;
  command = q.command;
  credits = credits;
  flags = flags;
  next = 0;
  message = q.message;
  tree = r.tree_id;
  session = r.session_id;
  signature = unsigned_field;
}

pub flags_fit : (plain_flags < 256 ^ 4) × (plain_flags + 8 < 256 ^ 4)
unfolding bit_if
flags_fit = (omega arith, omega arith)

pub flags_tell : (has_bit plain_flags 1 ≡ true) × (has_bit (plain_flags + 8) 1 ≡ true)
unfolding has_bit bit_if
flags_tell = (refl, refl)

-- what of the request's header stands in it
pub record HeaderFits (q : Header) : Type 0 where
  pub charge : q.charge < 256 ^ 2
  pub command : q.command < 256 ^ 2
  pub message : q.message < 256 ^ 8

header_fits : (q : Header) (c : Command) (r : Reply) (credits flags : ℕ) → HeaderFits q → ReplyFits c r → credits < 256 ^ 2
    → flags < 256 ^ 4 → IsWritableHeader (told_header q r credits flags)
header_fits q c r credits flags h f few low = (
  refl,
  (
    omega arith,
    (
      h.charge,
      (f.status, (h.command, (few, (low, (omega arith, (h.message, (f.tree, (f.session, (refl, tt))))))))),
    ),
  ),
)

-- ---- the text, and the frame

-- a reply before it is signed or sealed: its header and body, and who signs
pub record IsSaid (r : SaidReply) (h : Header) (body : List ℕ) (s : Signer) : Type 0 where
  pub header : r.header ≡ h
  pub says : r.body ≡ body
  pub signer : r.signer ≡ Some s

abbrev pub with_flags : Header → ℕ → Header
with_flags h flags = record h { flags = flags }

plain_text : (r : SaidReply) (h : Header) (body : List ℕ) (s : Signer) → IsSaid r h body s → h.next ≡ 0
    → said_text true false r ++ [] ≡ message_spelling h body
plain_text r h body s i last =
    append-nil (said_text true false r)
    ∙ (ap (λ (q : Header). message_spelling (record q { next = 0 }) (r.body ++ [])) i.header
    ∙ (ap (λ n. message_spelling (record h { next = n }) (r.body ++ [])) (sym last)
    ∙ ap (message_spelling h) (append-nil r.body ∙ i.says)))

signed_text : (r : SaidReply) (h : Header) (body : List ℕ) (s : Signer) → IsSaid r h body s → h.next ≡ 0
    → said_text false false r ++ [] ≡ signed s (message_spelling (with_flags h (h.flags + 8)) body)
signed_text r h body s i last =
    append-nil (said_text false false r)
    ∙ (ap (λ o. with_signature o (said_header false r) (r.body ++ [])) i.signer
    ∙ (ap (λ (q : Header). with_signature (Some s) (record q { next = 0 }) (r.body ++ [])) i.header
    ∙ (ap (λ n. with_signature (Some s) (record h { next = n }) (r.body ++ [])) (sym last)
    ∙ ap (with_signature (Some s) h) (append-nil r.body ∙ i.says))))

-- ---- the client opens it

heard_if : (b : Bool) (x : HeardMessage) → b ≡ true → (if b then Some x else None) ≡ Some x
heard_if true x e = refl
heard_if false x e = absurd (let h : false ≡ true = e in cc)

-- of a message of this header and body
message_heard : (z : WorldSettings) → IsLawful z → (h : Header) (body m : List ℕ) → IsWritableHeader h → IsMessage h body m
    → has_bit h.flags 1 ≡ true → if_response (response_in (Some m)) ≡ Some (heard_under h m)
message_heard z law h body m fit is answers =
    let heads = law.headers in
    ap if_response (heads.heard h body m fit is) ∙ heard_if (is_response (header_as h m)) (heard_under h m) answers

line_opens : (n : ClientEnd) (keys : Keys) (encrypts : Bool) (frame : List ℕ) → n.keys ≡ keys → n.encrypts ≡ encrypts
    → line_text n frame
    ≡ (if encrypts then opened keys false frame else if verifies keys.signing frame then Some frame else None)
line_opens n keys encrypts frame e f =
    ap (λ q. if q then opened n.keys false frame else if verifies n.keys.signing frame then Some frame else None) f
    ∙ ap (λ (k : Keys). if encrypts then opened k false frame else if verifies k.signing frame then Some frame else None) e

some_if : (b : Bool) (m : List ℕ) → b ≡ true → (if b then Some m else None) ≡ Some m
some_if true m e = refl
some_if false m e = absurd (let h : false ≡ true = e in cc)

pub record IsAnswered (keys : Keys) (encrypts : Bool) (frame : List ℕ) (h : Header) (body : List ℕ) : Type 0 where
  pub bytes : List ℕ
  pub flags : ℕ
  pub fits : IsWritableHeader (with_flags h flags)
  pub is : IsMessage (with_flags h flags) body bytes
  pub opens : (n : ClientEnd) → n.keys ≡ keys → n.encrypts ≡ encrypts → line_response n frame
      ≡ Some (heard_under (with_flags h flags) bytes)

-- a frame that the server makes of it
pub answered_to : (z : WorldSettings) → IsLawful z → (q : Header) (c : Command) (reply : Reply) (credits : ℕ)
    (body : List ℕ) (r : SaidReply)
    (keys : Keys) (f : ServerEnd) (encrypts : Bool) → HeaderFits q → ReplyFits c reply → credits < 256 ^ 2
    → keys.session < 2 ^ 64 → 64 + length body ≤ 1114060 → IsSaid r (told_header q reply credits plain_flags) body keys.signing
    → IsAnswered keys encrypts (answer_frame keys f encrypts r) (told_header q reply credits plain_flags) body
answered_to z law q c reply credits body r keys f true hf rf few id short said =
    let h = told_header q reply credits plain_flags in
    let fit : IsWritableHeader h = header_fits q c reply credits plain_flags hf rf few flags_fit.0 in
    let m = said_text true false r ++ [] in
    let is : IsMessage h body m = Bare (plain_text r h body keys.signing said refl) in
    let heads = law.headers in
    let ciphers = law.ciphers in
    let size : length m ≡ 64 + length body = heads.size h body m fit is in
    let low : length m ≤ 1114060 = omega (arith, size, short) in
    let frame = sealed_under keys false (nonce_at f.channel f.counter) m in
    let opens : opened keys false frame ≡ Some m = ciphers.opens keys false f.channel f.counter m low id in record {
      bytes = m;
      flags = plain_flags;
      fits = fit;
      is = is;
      opens = λ n e g. ap (λ o. if_response (response_in o)) (line_opens n keys true frame e g ∙ opens)
          ∙ message_heard z law h body m fit is flags_tell.0;
    }
answered_to z law q c reply credits body r keys f false hf rf few id short said =
    let h = told_header q reply credits plain_flags in
    let k = told_header q reply credits (plain_flags + 8) in
    let fit : IsWritableHeader k = header_fits q c reply credits (plain_flags + 8) hf rf few flags_fit.1 in
    let plain = message_spelling k body in
    let m = signed keys.signing plain in
    let is : IsMessage k body m = Signed keys.signing refl in
    let heads = law.headers in
    let ciphers = law.ciphers in
    let size : length plain ≡ 64 + length body = heads.size k body plain fit (Bare refl) in
    let right : verifies keys.signing m ≡ true = ciphers.verified keys.signing plain (omega (arith, size)) in
    let same : said_text false false r ++ [] ≡ m = signed_text r h body keys.signing said refl in
    let opens : (if verifies keys.signing m then Some m else None) ≡ Some m = some_if (verifies keys.signing m) m right in record {
      bytes = m;
      flags = plain_flags + 8;
      fits = fit;
      is = is;
      opens = λ n e g. ap (λ b. line_response n b) same
          ∙ (ap (λ o. if_response (response_in o)) (line_opens n keys false m e g ∙ opens)
          ∙ message_heard z law k body m fit is flags_tell.1);
    }

-- ---- what it tells

-- by whether it is a success
by_status : (P : Type 0) (status : ℕ) (b : Bool) → (status == success) ≡ b → (status ≡ success → P) → ((status ≡ success → ⊥) → P) → P
by_status P status true e f g = f (eqb-true status success e)
by_status P status false e f g = g (λ q. (let h : true ≡ false = sym (ap (λ n. n == success) q) ∙ e in cc))

abbrev BodyTold : Op → Header → List ℕ → Reply → Type 0
BodyTold op h m reply =
    (value_in op (reply_of (request_of op 0 0 0 0) (header_as h m) m).body ≡ value_in op reply.body)
    × (id_in (reply_of (request_of op 0 0 0 0) (header_as h m) m).body ≡ id_in reply.body)

operation_told : (z : WorldSettings) → IsLawful z → (h : Header) (m token : List ℕ) (op : Op) (c : Command) (reply : Reply)
    → TellsOperation op c reply → IsWritableHeader h → h.status ≡ reply.status → IsMessage h (reply_body token c reply) m
    → BodyTold op h m reply
operation_told z law h m token op c reply t fit same is =
    let commands = law.commands in
    let own : IsMessage h (reply_body token (request_of op t.guid t.file t.slot t.number) reply) m =
    subst (λ q. IsMessage h (reply_body token q reply) m) t.command is in
    by_status (BodyTold op h m reply) reply.status (reply.status == success) refl
    (λ ok. (let a = commands.reply h m token op t.guid t.file t.slot t.number reply fit own same ok (t.told ok) in (a.value, a.id)))
    (λ off. (let e = commands.refused (request_of op 0 0 0 0) h m (λ q. off (sym same ∙ q)) ∙ sym (t.refused off) in
    (ap (value_in op) e, ap id_in e)))

pub body_told : (z : WorldSettings) → IsLawful z → (op : ℕ → Op) (h : Header) (m token : List ℕ) (t : Token) (c : Command)
    (reply : Reply) → TellsToken z op t c reply → IsWritableHeader h → h.status ≡ reply.status → IsMessage h (reply_body token c reply) m
    → TellsBody op (heard_under h m) reply t
body_told z law op h m token ForDialog c reply t fit same is = tt
body_told z law op h m token (ForOp g) c reply t fit same is = operation_told z law h m token (op g) c reply t fit same is
body_told z law op h m token (ForAttach g) c reply t fit same is = tt

pub tree_told : (z : WorldSettings) → IsLawful z → (op : ℕ → Op) (h : Header) (m token : List ℕ) (t : Token) (c : Command)
    (reply : Reply) → t ≡ ForDialog → TellsToken z op t c reply → IsWritableHeader h → reply.status ≡ success
    → IsMessage h (reply_body token c reply) m → body_reads AskedTree m ≡ true
tree_told z law op h m token t c reply e tells fit ok is =
    let tree : LineTellsTree z c reply = subst (λ q. TellsToken z op q c reply) e tells in
    let trees = law.trees in
    let told = tree.told ok in
    let own : IsMessage h (reply_body token (TreeConnect z.share) reply) m =
    subst (λ q. IsMessage h (reply_body token q reply) m) tree.command is in
    trees.tree_told h token m told.0 told.1 told.2 reply ok told.3 fit own told.4 told.5 told.6
