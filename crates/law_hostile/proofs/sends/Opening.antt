-- Of the answer to a CREATE a client reads an open of at most 8 bytes, where the server's open is one.
use Rattle.std.proofs.Common.{◌≡◌, ℕ, ◌+◌, ◌<◌, ◌^◌, ◌==◌, ◌&&◌, Bool, true, false, if◌then◌else◌, List, [], ◌++◌, length, take, drop, refl, sym, ap}
use Rattle.std.proofs.Common.{◌∙◌, arith, subst, append_assoc, length-append, Option, Some, None}
use Rattle.std.proofs.Math.Seq.{drop-append-add}
use Rattle.law_server.proofs.tables.Logic.{either}
use Rattle.spec_wire.specs.messages.Places.{number_of, le, bytes_at}
use Rattle.spec_wire.specs.declared.messages.header.Header.{Header}
use Rattle.spec_wire.specs.declared.messages.error.MessageError.{MessageError}
use Rattle.spec_wire.specs.messages.Error.{error_response_spelling}
use Rattle.spec_wire.specs.messages.CreateResponse.{create_response_fault, create_response_in, create_response_spelling}
use Rattle.spec_crypto.specs.declared.sessions.material.Signer.{Signer}
use Rattle.spec_crypto.specs.sessions.Signing.{signed, signature}
use Rattle.spec_exchange.specs.Status.{success}
use Rattle.spec_exchange.specs.Commands.{Create, CreateRequest}
use Rattle.spec_exchange.specs.State.{Body, Empty, Created, Closed, Content, Count, Interfaces, ObjectId, Listing, FileInfo, VolumeInfo, SetUp, Connected}
use Rattle.spec_exchange.specs.State.{Reply, CreateReply}
use Rattle.spec_exchange.specs.Operations.{Op, OpCreate, OpWrite, OpRead, OpEnd, OpTime, OpRename, OpRemove, OpLock, OpUnlock, OpFlush, OpStat, OpList}
use Rattle.spec_exchange.specs.Operations.{OpClose, is_create, request_of, id_in}
use Rattle.spec_commands.specs.Ids.{file_id, file_kept}
use Rattle.spec_commands.specs.ReplyBody.{reply_body, success_body, is_told, created_value}
use Rattle.spec_commands.specs.ReplyOf.{reply_of, body_in, or_other, unless, created_of}
use Rattle.spec_world.specs.Messages.{message_spelling}
use Rattle.spec_world.specs.Answering.{reply_header, said_body, with_signature}
use Rattle.spec_world.specs.Hearing.{Checked, is_negotiate}
use Rattle.law_commands.proofs.commands.Halves.{told}
use Rattle.law_ties.proofs.wire_facts.Signed.{signature_length}

-- ---- what the client reads

abbrev pub KeepsLow : List ℕ → Type 0
KeepsLow m = file_kept (bytes_at 16 m 128) < 256 ^ 8

none_low : 0 < 256 ^ 8
none_low = omega arith

created_low : (o : Option MessageError) (m : List ℕ) → KeepsLow m
    → id_in (or_other (unless o (Some (Created (created_of (create_response_in m)))))) < 256 ^ 8
created_low None m low = low
created_low (Some e) m low = none_low

create_heard : (r : CreateRequest) (h : Header) (m : List ℕ) → KeepsLow m → id_in (reply_of (Create r) h m).body < 256 ^ 8
unfolding reply_of body_in
create_heard r h m low =
    either (λ b. id_in b < 256 ^ 8) (h.status == success) (or_other (body_in (Create r) m)) Empty
    (λ _. created_low (create_response_fault m) m low) (λ _. none_low)

pub own_heard : (op : Op) (h : Header) (m : List ℕ) → is_create op ≡ true → KeepsLow m → id_in (reply_of (request_of op 0 0 0 0) h m).body < 256 ^ 8
own_heard (OpCreate path access share disposition persist directory) h m on low = create_heard _ h m low
own_heard (OpWrite create at bytes) h m on low = absurd (cc)
own_heard (OpRead create at size) h m on low = absurd (cc)
own_heard (OpEnd create size) h m on low = absurd (cc)
own_heard (OpTime create time) h m on low = absurd (cc)
own_heard (OpRename create path) h m on low = absurd (cc)
own_heard (OpRemove create) h m on low = absurd (cc)
own_heard (OpLock create at n exclusive) h m on low = absurd (cc)
own_heard (OpUnlock create at n) h m on low = absurd (cc)
own_heard (OpFlush create) h m on low = absurd (cc)
own_heard (OpStat create) h m on low = absurd (cc)
own_heard (OpList create) h m on low = absurd (cc)
own_heard (OpClose create) h m on low = absurd (cc)

-- ---- a text is 64 bytes and its body, signed or not

abbrev plain_header : Checked → ℕ → ℕ → ℕ → ℕ → ℕ → Header
plain_header c status session tree credits flags = record (reply_header c status session tree credits) { flags = flags; next = 0 }

head_long : (c : Checked) (status session tree credits flags : ℕ)
    → length (take 64 (message_spelling (plain_header c status session tree credits flags) [])) ≡ 64
unfolding message_spelling le
head_long c status session tree credits flags = refl

bare_is : (c : Checked) (status session tree credits flags : ℕ) (body : List ℕ) → message_spelling (plain_header c status session tree credits flags) body
    ≡ take 64 (message_spelling (plain_header c status session tree credits flags) []) ++ body
unfolding message_spelling le
bare_is c status session tree credits flags body = refl

front_long : (c : Checked) (status session tree credits flags : ℕ) (body : List ℕ)
    → length (take 48 (message_spelling (plain_header c status session tree credits flags) body)) ≡ 48
unfolding message_spelling le
front_long c status session tree credits flags body = refl

back_is : (c : Checked) (status session tree credits flags : ℕ) (body : List ℕ)
    → drop 64 (message_spelling (plain_header c status session tree credits flags) body) ≡ body
unfolding message_spelling le
back_is c status session tree credits flags body = refl

-- what stands at a place behind so many bytes
place_is : (n : ℕ) → n ≡ 64 → 128 ≡ n + 64
place_is n e = omega (arith, e)

behind : (front body : List ℕ) → length front ≡ 64 → bytes_at 16 (front ++ body) 128 ≡ bytes_at 16 body 64
unfolding bytes_at
behind front body e =
    ap (take 16) (ap (λ n. drop n (front ++ body)) (place_is (length front) e) ∙ drop-append-add front body 64)

signed_is : (s : Signer) (c : Checked) (status session tree credits flags : ℕ) (body : List ℕ)
    → (let t = message_spelling (plain_header c status session tree credits flags) body in signed s t ≡ (take 48 t ++ signature s t) ++ body)
unfolding signed
signed_is s c status session tree credits flags body =
    let t = message_spelling (plain_header c status session tree credits flags) body in
    ap (λ l. take 48 t ++ (signature s t ++ l)) (back_is c status session tree credits flags body)
    ∙ sym (append_assoc (take 48 t) (signature s t) body)

summed : (a b : ℕ) → a ≡ 48 → b ≡ 16 → a + b ≡ 64
summed a b e f = omega (arith, e, f)

text_place : (o : Option Signer) (c : Checked) (status session tree credits : ℕ) (body : List ℕ)
    → bytes_at 16 (with_signature o (record (reply_header c status session tree credits) { next = 0 }) body) 128 ≡ bytes_at 16 body 64
text_place None c status session tree credits body =
    let flags = (reply_header c status session tree credits).flags in
    let front = take 64 (message_spelling (plain_header c status session tree credits flags) []) in
    ap (λ l. bytes_at 16 l 128) (bare_is c status session tree credits flags body)
    ∙ behind front body (head_long c status session tree credits flags)
text_place (Some s) c status session tree credits body =
    let flags = (reply_header c status session tree credits).flags + 8 in
    let t = message_spelling (plain_header c status session tree credits flags) body in
    let long : length (take 48 t ++ signature s t) ≡ 64 =
    length-append (take 48 t) (signature s t)
    ∙ summed (length (take 48 t)) (length (signature s t)) (front_long c status session tree credits flags body) (signature_length s t) in
    ap (λ l. bytes_at 16 l 128) (signed_is s c status session tree credits flags body) ∙ behind (take 48 t ++ signature s t) body long

-- ---- its body

abbrev BodyLow : List ℕ → Type 0
BodyLow body = file_kept (bytes_at 16 (body ++ []) 64) < 256 ^ 8

nothing_kept : file_kept [] ≡ 0
unfolding file_kept number_of bytes_at
nothing_kept = refl

no_bytes : bytes_at 16 ([] ++ []) 64 ≡ []
unfolding bytes_at
no_bytes = refl

error_bytes : bytes_at 16 (error_response_spelling (record { error_context_count = 0; byte_count = 0 }) ++ []) 64 ≡ []
unfolding bytes_at le
error_bytes = refl

kept_nothing : (bytes : List ℕ) → bytes ≡ [] → file_kept bytes < 256 ^ 8
kept_nothing bytes e = subst (λ n. n < 256 ^ 8) (sym (ap file_kept e ∙ nothing_kept)) none_low

create_bytes : (r : CreateReply) → bytes_at 16 (create_response_spelling (created_value r) ++ []) 64 ≡ file_id r.id
unfolding bytes_at le file_id
create_bytes r = refl

wide : (o : ℕ) → o < 256 ^ 8 → o < 256 ^ 16
wide o l = omega (arith, l)

success_low : (token : List ℕ) (r : CreateRequest) (body : Body) → id_in body < 256 ^ 8 → BodyLow (success_body token (Create r) body)
success_low token r (Created reply) low =
    subst (λ n. n < 256 ^ 8) (sym (ap file_kept (create_bytes reply) ∙ told reply.id (wide reply.id low))) low
success_low token r Empty low = kept_nothing (bytes_at 16 ([] ++ []) 64) no_bytes
success_low token r (Closed info) low = kept_nothing (bytes_at 16 ([] ++ []) 64) no_bytes
success_low token r (Content bytes) low = kept_nothing (bytes_at 16 ([] ++ []) 64) no_bytes
success_low token r (Count count) low = kept_nothing (bytes_at 16 ([] ++ []) 64) no_bytes
success_low token r (Interfaces address) low = kept_nothing (bytes_at 16 ([] ++ []) 64) no_bytes
success_low token r (ObjectId number) low = kept_nothing (bytes_at 16 ([] ++ []) 64) no_bytes
success_low token r (Listing class entries) low = kept_nothing (bytes_at 16 ([] ++ []) 64) no_bytes
success_low token r (FileInfo class path info access options position) low = kept_nothing (bytes_at 16 ([] ++ []) 64) no_bytes
success_low token r (VolumeInfo class size used) low = kept_nothing (bytes_at 16 ([] ++ []) 64) no_bytes
success_low token r (SetUp sealed channel) low = kept_nothing (bytes_at 16 ([] ++ []) 64) no_bytes
success_low token r (Connected kind capabilities access) low = kept_nothing (bytes_at 16 ([] ++ []) 64) no_bytes

reply_low : (token : List ℕ) (r : CreateRequest) (reply : Reply) → id_in reply.body < 256 ^ 8 → BodyLow (reply_body token (Create r) reply)
unfolding reply_body
reply_low token r reply low =
    either BodyLow (is_told (Create r) reply.status) (success_body token (Create r) reply.body)
    (error_response_spelling (record { error_context_count = 0; byte_count = 0 }))
    (λ _. success_low token r reply.body low) (λ _. kept_nothing _ error_bytes)

if_not : {X : Type 0} (a b : Bool) (x y : X) → a ≡ false → (if a && b then x else y) ≡ y
if_not a b x y e = ap (λ c. if c && b then x else y) e

-- an answer to a CREATE that is no NEGOTIATE
pub answer_low : (o : Option Signer) (guid salt : List ℕ) (now : ℕ) (c : Checked) (session tree credits : ℕ) (token : List ℕ) (r : CreateRequest)
    (reply : Reply) → is_negotiate c.header ≡ false → id_in reply.body < 256 ^ 8
    → KeepsLow (with_signature o (record (reply_header c reply.status session tree credits) { next = 0 })
    (said_body guid salt now c token (Create r) reply ++ []))
unfolding said_body
answer_low o guid salt now c session tree credits token r reply off low =
    let body = said_body guid salt now c token (Create r) reply in
    subst (λ bs. file_kept bs < 256 ^ 8) (sym (text_place o c reply.status session tree credits (body ++ [])))
    (subst BodyLow (sym (if_not (is_negotiate c.header) (reply.status == success) _ (reply_body token (Create r) reply) off))
    (reply_low token r reply low))
