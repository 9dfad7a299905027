-- A reply by its parts.
use Rattle.std.proofs.Common.{◌≡◌, ℕ, zero, suc, ◌+◌, ◌-◌, ◌≤◌, ◌<◌, ◌==◌, Bool, true, false, not, ◌&&◌, ◌||◌, if◌then◌else◌, List, [], ◌∷◌}
use Rattle.std.proofs.Common.{length, take, drop, length-drop}
use Rattle.std.proofs.lemmas.List.{length-take-le}
use Rattle.std.proofs.Common.{Option, Some, None, Result, Ok, Err, refl, sym, ap, subst, ◌∙◌, arith}
use Rattle.std.specs.Prelude.{slice_get, is_some, ⊤}
use Rattle.std.proofs.lemmas.Bool.Decides.{nat_tests}
use Rattle.spec_wire.specs.messages.Places.{number}
use Rattle.spec_exchange.specs.Status.{invalid_parameter, success}
use Rattle.spec_exchange.specs.Commands.{has_bit}
use Rattle.spec_wire.specs.messages.Bare.{bare_spelling}
use Rattle.spec_wire.specs.messages.Error.{error_response_spelling}
use Rattle.spec_wire.specs.declared.messages.header.Header.{Header}
use Rattle.spec_commands.specs.Tables.{bit_if}
use Rattle.spec_commands.specs.ReplyBody.{reply_body}
use Rattle.spec_wire.specs.credits.Window.{HeldIds}
use Rattle.spec_crypto.specs.declared.sessions.material.Keys.{Keys}
use Rattle.spec_crypto.specs.declared.sessions.material.Signer.{Signer}
use Rattle.spec_world.specs.Messages.{unsigned_field}
use Rattle.spec_world.specs.Negotiate.{negotiate_response_body}
use Rattle.spec_world.specs.Settings.{ServerSettings}
use Rattle.spec_world.specs.Ends.{ServerEnd, signer_on}
use Rattle.spec_world.specs.Hearing as hearing
use Rattle.spec_world.specs.Logon as logon
use Rattle.spec_world.specs.Answering as answering
use Rattle.spec_world.specs.Connection.{said_failed}
use Rattle.conn_core.specs.declared.served.error.ServeError.{ServeError}
use Rattle.conn_core.specs.declared.conn.Progress.{Progress}
use Rattle.conn_core.specs.declared.conn.Progress.TheVariants.{Stays}
use Rattle.conn_core.specs.declared.frame_messages.checked.Checked.{Checked}
use Rattle.conn_core.specs.declared.served.serve.Reply.{Reply}
use Rattle.conn_core.specs.declared.reply_sealing.said.Said.{Said}
use Rattle.conn_core.specs.reply_sealing.Saying.{IsReplySaid, MovesAs}
use Rattle.conn_core.specs.related.Carrying.{breaks_form, is_broken}
use Rattle.conn_core.specs.declared.message_replies.plain.Named.{Named}
use Rattle.conn_core.specs.message_replies.Replying.{AreMessagesShort, IsLike, IsShortAnswer, SaidIf, SaidOf}
use Rattle.conn_core.specs.message_replies.Replying.{aside_status, echo_due, negotiate_due, has_message_event, progress_signer}
use Rattle.conn_core.specs.message_replies.Replying.{signer_due, said_aside}

abbrev error_bytes : List ℕ
error_bytes = error_response_spelling (record { error_context_count = 0; byte_count = 0 })

not_true : (b : Bool) → (b ≡ true → ⊥) → b ≡ false
not_true true h = absurd (h refl)
not_true false h = refl

is_it : (n k : ℕ) → (n == k) ≡ true → n ≡ k
is_it n k e = grind (arith, nat_tests)

-- a test of a number
pub differs : (n k : ℕ) → (n ≡ k → ⊥) → (n == k) ≡ false
differs n k other = not_true (n == k) (λ e. other (is_it n k e))

-- ---- the header

abbrev due : Header → Bool → ℕ → ℕ → ℕ → ℕ → Header
due h related status session tree credits = record {
  charge = h.charge;
  status = status;
  command = h.command;
  credits = credits;
  flags = 1 + bit_if related 4;
  next = 0;
  message = h.message;
  tree = tree;
  session = session;
  signature = unsigned_field;
}

pub header_due : (c : hearing.Checked) (m : Checked) (status session tree credits flags : ℕ) → IsLike m c → flags ≡ 1 + bit_if m.related 4
    → answering.reply_header c status session tree credits ≡ record {
      charge = m.header.charge;
      status = status;
      command = m.header.command;
      credits = credits;
      flags = flags;
      next = 0;
      message = m.header.message;
      tree = tree;
      session = session;
      signature = unsigned_field;
    }
header_due c m status session tree credits flags like f =
    ap (λ (h : Header). due h c.related status session tree credits) like.header
    ∙ (ap (λ (b : Bool). due m.header b status session tree credits) like.related
    ∙ ap (λ (n : ℕ). record (due m.header m.related status session tree credits) { flags = n }) (sym f))

-- of the message's own ids
pub own_header : (c : hearing.Checked) (m : Checked) (named : Named) (status credits : ℕ) → IsLike m c
    → named ≡ record { status = status; session = m.header.session; tree = m.header.tree }
    → answering.reply_header c status c.header.session c.header.tree credits
    ≡ answering.reply_header c named.status named.session named.tree credits
own_header c m named status credits like e =
    ap (λ (h : Header). answering.reply_header c status h.session h.tree credits) like.header
    ∙ ap (λ (n : Named). answering.reply_header c n.status n.session n.tree credits) (sym e)

-- ---- a reply of no progress

pub is_plain : (said : Said) (s : answering.SaidReply) → s.header ≡ said.header → s.body ≡ said.body.now → s.signer ≡ said.signer
    → said.progress ≡ Stays → s.progress ≡ logon.Stays → IsReplySaid said s
is_plain said s h b g p q = record {
  header = h;
  body = b;
  signer = g;
  progress = subst (λ (x : Progress). MovesAs x s) (sym p) q;
}

-- what isn't an ECHO isn't one of SessionId 0
pub no_probe : (h : Header) (m : List ℕ) → (h.command == 13) ≡ false → hearing.is_probe h m ≡ false
no_probe h m e = ap (λ (b : Bool). b && (number 8 m 40 == 0)) e

pub signs_on : (f : ServerEnd) (c : hearing.Checked) → (c.header.command == 13) ≡ false
    → logon.plain_signer f c ≡ signer_on f.keys
signs_on f c e = ap (λ (b : Bool). if b then None else signer_on f.keys) (no_probe c.header c.bytes e)

pub other_than : (n k other : ℕ) → (n == k) ≡ true → (k == other) ≡ false → (n == other) ≡ false
other_than n k other e f = ap (λ (i : ℕ). i == other) (is_it n k e) ∙ f

-- the bytes of a message have room for its header
pub part_long : (start end : ℕ) (bytes : List ℕ) → start + 64 ≤ end → end ≤ length bytes
    → 64 ≤ length (take (end - start) (drop start bytes))
part_long start end bytes whole inside =
    let rest : length (drop start bytes) ≡ length bytes - start = length-drop start bytes in
    let room : end - start ≤ length (drop start bytes) = omega (arith, rest, whole, inside) in
    let size : length (take (end - start) (drop start bytes)) ≡ end - start = length-take-le (end - start) (drop start bytes) room in
    omega (arith, size, whole)

-- who signs it
pub signer_same : (f : ServerEnd) (c : hearing.Checked) (m : Checked) (keys : Option Keys) (p : Progress) → f.keys ≡ keys → IsLike m c
    → signer_due f c p ≡ logon.unless_faulty m.fault (progress_signer p (signer_on keys))
signer_same f c m keys p k like = λ i. logon.unless_faulty (like.fault i) (progress_signer p (signer_on (k i)))

pub own_signer : (f : ServerEnd) (c : hearing.Checked) (m : Checked) (keys : Option Keys) → f.keys ≡ keys → IsLike m c
    → logon.unless_faulty c.fault (signer_on f.keys) ≡ logon.unless_faulty m.fault (signer_on keys)
own_signer f c m keys k like = signer_same f c m keys Stays k like

-- of an ECHO, by what signs without its SessionId
unless_swapped : (fault : Option ℕ) (b : Bool) (s : Option Signer)
    → logon.unless_faulty fault (if b then None else s) ≡ (if b then None else logon.unless_faulty fault s)
unless_swapped None b s = refl
unless_swapped (Some status) true s = refl
unless_swapped (Some status) false s = refl

pub probe_signer : (f : ServerEnd) (c : hearing.Checked) (m : Checked) (keys : Option Keys) (message : List ℕ) (own told : Option Signer)
    → f.keys ≡ keys → IsLike m c → c.bytes ≡ message → own ≡ logon.unless_faulty m.fault (signer_on keys)
    → told ≡ (if hearing.is_probe m.header message then None else own) → logon.unless_faulty c.fault (logon.plain_signer f c) ≡ told
probe_signer f c m keys message own told k like bytes own_is told_is =
    let same : logon.unless_faulty c.fault (logon.plain_signer f c)
    ≡ logon.unless_faulty m.fault (if hearing.is_probe m.header message then None else signer_on keys) =
    λ i. logon.unless_faulty (like.fault i) (if hearing.is_probe (like.header i) (bytes i) then None else signer_on (k i)) in
    same ∙ (unless_swapped m.fault (hearing.is_probe m.header message) (signer_on keys)
    ∙ (ap (λ (o : Option Signer). if hearing.is_probe m.header message then None else o) (sym own_is) ∙ sym told_is))

-- ---- bodies that the connection makes by itself

by_status : (n t : Bool) (x bare error : List ℕ) → n ≡ false
    → (if n && t then x else (if t || false then bare else error)) ≡ (if t then bare else error)
by_status false true x bare error e = refl
by_status false false x bare error e = refl
by_status true t x bare error e = absurd (cc)

by_success : (n t : Bool) (x y : List ℕ) → n ≡ true → t ≡ true → (if n && t then x else y) ≡ x
by_success true true x y e f = refl
by_success true false x y e f = absurd (cc)
by_success false t x y e f = absurd (cc)

by_failure : (n t : Bool) (x bare error : List ℕ) → t ≡ false → (if n && t then x else (if t || false then bare else error)) ≡ error
by_failure true false x bare error e = refl
by_failure false false x bare error e = refl
by_failure n true x bare error e = absurd (cc)

-- of an ECHO
pub bare_body : (z : ServerSettings) (now : ℕ) (f : ServerEnd) (w : HeldIds) (c : hearing.Checked) (status : ℕ)
    → hearing.is_negotiate c.header ≡ false
    → (said_aside z now f w c status).body ≡ (if status == 0 then bare_spelling else error_bytes)
unfolding answering.said_body reply_body
bare_body z now f w c status other =
    by_status (hearing.is_negotiate c.header) (status == success) (negotiate_response_body z.guid f.salt now c.bytes)
    bare_spelling error_bytes
    other

-- of a NEGOTIATE
pub greeting_body : (z : ServerSettings) (now : ℕ) (f : ServerEnd) (w : HeldIds) (c : hearing.Checked) (status : ℕ)
    → hearing.is_negotiate c.header ≡ true → status ≡ success
    → (said_aside z now f w c status).body ≡ negotiate_response_body z.guid f.salt now c.bytes
unfolding answering.said_body reply_body
greeting_body z now f w c status greets e =
    by_success (hearing.is_negotiate c.header) (status == success) (negotiate_response_body z.guid f.salt now c.bytes) _ greets
    (ap (λ (n : ℕ). n == success) e)

aside_body : (z : ServerSettings) (now : ℕ) (f : ServerEnd) (w : HeldIds) (c : hearing.Checked) (status : ℕ) → (status == success) ≡ false
    → (said_aside z now f w c status).body ≡ error_bytes
unfolding answering.said_body reply_body
aside_body z now f w c status fails =
    by_failure (hearing.is_negotiate c.header) (status == success) (negotiate_response_body z.guid f.salt now c.bytes)
    bare_spelling error_bytes
    fails

-- one that fails
pub aside_fails : (z : ServerSettings) (now : ℕ) (f : ServerEnd) (w : HeldIds) (c : hearing.Checked) (status told : ℕ) (said : Said)
    → (c.header.command == 13) ≡ false → told ≡ status → (told ≡ 0 → ⊥) → IsReplySaid said (said_failed f w c told)
    → IsReplySaid said (said_aside z now f w c status)
aside_fails z now f w c status told said echo e fails is =
    let other : (status == success) ≡ false = ap (λ (n : ℕ). n == 0) (sym e) ∙ differs told 0 fails in
    let due : IsReplySaid said (said_failed f w c status) = subst (λ (n : ℕ). IsReplySaid said (said_failed f w c n)) e is in
    subst (λ (o : Option Signer). IsReplySaid said (record (said_aside z now f w c status) { signer = logon.unless_faulty c.fault o })) (sym (signs_on f c echo))
    (subst (λ (b : List ℕ). IsReplySaid said (record (said_failed f w c status) { body = b }))
    (sym (aside_body z now f w c status other)) due)

-- the status of a message that the connection answers by itself, in code
pub status_is : (m : Checked) (c : hearing.Checked) (status told : ℕ) → IsLike m c → c.fault ≡ m.fault → status ≡ told
    → (if is_broken c then invalid_parameter else status) ≡ (if breaks_form m then invalid_parameter else told)
status_is m c status told like fault e =
    λ i. if not (is_some (fault i)) && (not (like.related i) && has_bit (like.header i).flags 4) then invalid_parameter else e i

pub good_status : (broken : Bool) (status : ℕ) → (if broken then invalid_parameter else status) ≡ success → status ≡ success
good_status true status e = absurd (let h : invalid_parameter ≡ success = e in cc)
good_status false status e = e

abbrev by_command : Bool → Bool → ℕ → ℕ → Option ℕ
by_command greets echoes a b = if greets then Some a else if echoes then Some b else None

-- ---- the answers of events

abbrev short_if : Option (Result Reply ServeError) → Type 0
short_if None = ⊤
short_if (Some r) = IsShortAnswer r

pub short_at : (rs : List (Result Reply ServeError)) (place : ℕ) (r : Result Reply ServeError) → AreMessagesShort rs
    → slice_get rs place ≡ Some r
    → IsShortAnswer r
unfolding AreMessagesShort
short_at [] place r short e = subst short_if e tt
short_at (Ok x ∷ rs) zero r short e = subst short_if e short.0
short_at (Err x ∷ rs) zero r short e = subst short_if e tt
short_at (Ok x ∷ rs) (suc place) r short e = short_at rs place r short.1 e
short_at (Err x ∷ rs) (suc place) r short e = short_at rs place r short e

-- ---- what is known of the message at a place

pub same_message : {X : Type 0} (o : Option X) (m n : X) → o ≡ Some m → o ≡ Some n → n ≡ m
same_message o m n e f = let both : Some m ≡ Some n = sym e ∙ f in cc

pub inside : {X : Type 0} (xs : List X) (at : ℕ) (x : X) → slice_get xs at ≡ Some x → at < length xs
inside [] at x e = absurd (cc)
inside (y ∷ ys) zero x e = omega arith
inside (y ∷ ys) (suc at) x e = (let later = inside ys at x e in omega arith)

pub greets_not : (b : Bool) → b ≡ true → b ≡ false → ⊥
greets_not true e f = cc
greets_not false e f = cc

-- by which of NEGOTIATE and ECHO a message is
pub aside_greets : (z : ServerSettings) (now : ℕ) (f : ServerEnd) (w : HeldIds) (c : hearing.Checked) (o : Option (Result Reply ServeError))
    (said : Said) → hearing.is_negotiate c.header ≡ true → IsReplySaid said (said_aside z now f w c (negotiate_due c))
    → SaidIf z now f w c None (aside_status c) o said
aside_greets z now f w c o said greets is =
    subst (λ (b : Bool). SaidIf z now f w c None (by_command b (c.header.command == 13) (negotiate_due c)
    (echo_due c)) o said) (sym greets) is

pub aside_echoes : (z : ServerSettings) (now : ℕ) (f : ServerEnd) (w : HeldIds) (c : hearing.Checked) (o : Option (Result Reply ServeError))
    (said : Said) → hearing.is_negotiate c.header ≡ false → (c.header.command == 13) ≡ true
    → IsReplySaid said (said_aside z now f w c (echo_due c)) → SaidIf z now f w c None (aside_status c) o said
aside_echoes z now f w c o said other echoes is =
    subst (λ (b : Bool). SaidIf z now f w c None (by_command b (c.header.command == 13) (negotiate_due c)
    (echo_due c)) o said) (sym other)
    (subst (λ (b : Bool). SaidIf z now f w c None (by_command false b (negotiate_due c)
    (echo_due c)) o said) (sym echoes) is)

pub aside_heard : (z : ServerSettings) (now : ℕ) (f : ServerEnd) (w : HeldIds) (c : hearing.Checked) (o : Option (Result Reply ServeError))
    (said : Said) → hearing.is_negotiate c.header ≡ false → (c.header.command == 13) ≡ false → SaidOf f w c o said
    → SaidIf z now f w c None (aside_status c) o said
aside_heard z now f w c o said other none is =
    subst (λ (b : Bool). SaidIf z now f w c None (by_command b (c.header.command == 13) (negotiate_due c)
    (echo_due c)) o said) (sym other)
    (subst (λ (b : Bool). SaidIf z now f w c None (by_command false b (negotiate_due c)
    (echo_due c)) o said) (sym none) is)

-- a CANCEL has no event
none_of : (a b d e : Bool) → e ≡ true → (a && (b && (d && not e))) ≡ false
none_of false b d true h = refl
none_of true false d true h = refl
none_of true true false true h = refl
none_of true true true true h = refl
none_of a b d false h = absurd (cc)

pub no_event : (m : Checked) → (m.header.command == 12) ≡ true → has_message_event m ≡ false
no_event m cancel =
    none_of (not (is_some m.fails)) (not (m.header.command == 0)) (not (m.header.command == 13)) (m.header.command == 12) cancel
