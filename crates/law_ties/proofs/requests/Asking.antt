-- A line's request is read as what it was made for, where both ends have the same keys.
use Rattle.std.proofs.Common.{◌≡◌, ℕ, ◌+◌, ◌%◌, ◌<◌, ◌≤◌, ◌^◌, ◌==◌, nat_lt, Bool, true, false, not, ◌&&◌, ◌||◌, if◌then◌else◌, List}
use Rattle.std.proofs.Common.{[], ◌∷◌, length, refl, sym, ap, ◌∙◌, arith, Option, Some, None, is_some, Result, Ok, Err}
use Rattle.std.proofs.lemmas.Bool.Decides.{nat_tests}
use Rattle.std.specs.Prelude.{option_map}
use Rattle.spec_wire.specs.messages.Places.{number_of}
use Rattle.spec_wire.specs.messages.Header.{IsWritableHeader}
use Rattle.spec_wire.specs.declared.messages.header.Header.{Header}
use Rattle.spec_exchange.specs.Status.{access_denied}
use Rattle.spec_exchange.specs.Commands.{has_bit}
use Rattle.spec_exchange.specs.State.{Message}
use Rattle.spec_exchange.specs.Network.{Token, ForDialog}
use Rattle.spec_commands.specs.CommandOf.{Told, heard_as as message_as, command_of, message_of}
use Rattle.spec_commands.specs.BodyOf.{body_of, number_of_command}
use Rattle.spec_commands.specs.Tables.{bit_if}
use Rattle.spec_crypto.specs.declared.sessions.material.Keys.{Keys}
use Rattle.spec_crypto.specs.sessions.Signing.{signed, verifies}
use Rattle.spec_crypto.specs.sessions.Sealing.{sealed, opened}
use Rattle.spec_world.specs.Settings.{WorldSettings}
use Rattle.spec_world.specs.Messages.{HeardMessage, messages_in, message_spelling}
use Rattle.spec_world.specs.Ends.{ClientEnd, ServerEnd, Logons, ConnEnd, BadFrame, client_on, nonce_at}
use Rattle.spec_world.specs.Hearing.{FrameText, begins_sealed, opened_by, opened_text, split_text, is_too_long, text_of, is_negotiate, is_setup, signed_by, is_protected, fault_of, checked_as, is_misplaced, is_encrypted, owes_nothing}
use Rattle.spec_world.specs.Negotiate.{client_told}
use Rattle.spec_world.specs.Connection.{told_of, heard_message}
use Rattle.spec_world.specs.Sending.{request_header, request_text, line_frame}
use Rattle.law_ties.specs.wire_facts.Fitting.{IsMessage, Bare, Signed}
use Rattle.law_ties.specs.wire_facts.Lawful.{header_as, heard_under, IsLawful}
use Rattle.law_ties.specs.events.Links.{is_line, is_operations, Asked}
use Rattle.law_ties.specs.requests.Sending.{IsLineMessage}
use Rattle.law_ties.proofs.requests.Commands.{placed_well}

-- ---- the header

flags_fit : (a b : Bool) → bit_if a 8 + bit_if b 0x2000_0000 < 256 ^ 4
unfolding bit_if
flags_fit true true = omega arith
flags_fit true false = omega arith
flags_fit false true = omega arith
flags_fit false false = omega arith

signed_told : (b : Bool) → has_bit (bit_if true 8 + bit_if b 0x2000_0000) 8 ≡ true
unfolding has_bit bit_if
signed_told true = refl
signed_told false = refl

pub replay_told : (a b : Bool) → has_bit (bit_if a 8 + bit_if b 0x2000_0000) 0x2000_0000 ≡ b
unfolding has_bit bit_if
replay_told true true = refl
replay_told true false = refl
replay_told false true = refl
replay_told false false = refl

-- a client's request isn't related
pub related_not : (a b : Bool) → has_bit (bit_if a 8 + bit_if b 0x2000_0000) 4 ≡ false
unfolding bit_if has_bit
related_not true true = refl
related_not true false = refl
related_not false true = refl
related_not false false = refl

abbrev pub head_of : Message → ℕ → Bool → Header
head_of m charge is_signed = request_header m charge (number_of_command m.command) is_signed

head_fits : (z : WorldSettings) (n : ClientEnd) (k : ℕ) (m : Message) (charge : ℕ) (is_signed : Bool) → IsLineMessage z n k m charge
    → IsWritableHeader (head_of m charge is_signed)
head_fits z n k m charge is_signed i =
    let s = i.sent in (
      refl,
      (
        omega arith,
        (
          s.charge_fits,
          (
            (let sequence = s.channel_sequence in omega (arith, sequence)),
            (
              i.small,
              (
                omega arith,
                (
                  flags_fit is_signed m.replay,
                  (omega arith, (s.message_id, (s.tree_id, (s.session_id, (refl, tt))))),
                ),
              ),
            ),
          ),
        ),
      ),
    )

-- ---- the frame's text

pub not_long : (limit n : ℕ) → n ≤ limit → nat_lt limit n ≡ false
not_long limit n e = grind (arith, nat_tests)

sealed_by_tests : (long begins : Bool) (o : Option (List ℕ)) (rest : Result FrameText ConnEnd) (x : HeardMessage)
    (text : List ℕ) → long ≡ false
    → begins ≡ true → o ≡ Some text → messages_in text ≡ Some (x ∷ [])
    → (if long then Err BadFrame else if begins then opened_text o else rest) ≡ Ok (record { sealed = true; messages = x ∷ [] })
sealed_by_tests true begins o rest x text e f g h = absurd (let q : true ≡ false = e in cc)
sealed_by_tests false false o rest x text e f g h = absurd (let q : false ≡ true = f in cc)
sealed_by_tests false true o rest x text e f g h = ap opened_text g ∙ ap (split_text true) h

pub plain_by_tests : (long begins : Bool) (o : Result FrameText ConnEnd) (m : Option (List HeardMessage)) (x : HeardMessage) → long ≡ false
    → begins ≡ false → m ≡ Some (x ∷ [])
    → (if long then Err BadFrame else if begins then o else split_text false m) ≡ Ok (record { sealed = false; messages = x ∷ [] })
plain_by_tests true begins o m x e f g = absurd (let q : true ≡ false = e in cc)
plain_by_tests false true o m x e f g = absurd (let q : true ≡ false = f in cc)
plain_by_tests false false o m x e f g = ap (split_text false) g

opens_by : (none flagged : Bool) (o : Option (List ℕ)) → none ≡ false → flagged ≡ true
    → (if none then None else if flagged then o else None) ≡ o
opens_by true flagged o e f = absurd (let q : true ≡ false = e in cc)
opens_by false true o e f = refl
opens_by false false o e f = absurd (let q : false ≡ true = f in cc)

pub record IsTexted (keys : Keys) (m : Message) (charge : ℕ) (encrypts : Bool) (frame : List ℕ) : Type 0 where
  pub bytes : List ℕ
  pub fits : IsWritableHeader (head_of m charge (not encrypts))
  pub is : IsMessage (head_of m charge (not encrypts)) (body_of m.command) bytes
  pub text : text_of (Some keys) frame ≡ Ok (record {
    sealed = encrypts;
    messages = heard_under (head_of m charge (not encrypts)) bytes ∷ [];
  })
  pub verified : encrypts ≡ false → verifies keys.signing bytes ≡ true

texted : (z : WorldSettings) → IsLawful z → (n : ClientEnd) (k : ℕ) (m : Message) (charge : ℕ) (encrypts : Bool) → n.encrypts ≡ encrypts
    → IsLineMessage z n k m charge → n.keys.session < 2 ^ 64 → (encrypts ≡ true → (n.keys.cipher == 0) ≡ false)
    → IsTexted n.keys m charge encrypts (line_frame n m charge)
unfolding request_text
texted z law n k m charge true e i id sealable =
    let h = head_of m charge false in
    let body = body_of m.command in
    let fit = head_fits z n k m charge false i in
    let plain = message_spelling h body in
    let is : IsMessage h body plain = Bare refl in
    let heads = law.headers in
    let ciphers = law.ciphers in
    let size : length plain ≡ 64 + length body = heads.size h body plain fit is in
    let short = i.short in
    let low : length plain ≤ 1114060 = omega (arith, size, short) in
    let frame = sealed n.keys true (nonce_at n.channel n.counter) plain in
    let long : is_too_long (Some n.keys) frame ≡ false =
    not_long 1114112 (length frame) (ciphers.short n.keys true n.channel n.counter plain low) in
    let opens : opened_by (Some n.keys) frame ≡ Some plain =
    opens_by (n.keys.cipher == 0) (is_encrypted frame) (opened n.keys true frame) (sealable refl)
    (ciphers.flagged n.keys true n.channel n.counter plain) ∙ ciphers.opens n.keys true n.channel n.counter plain low id in
    let whole : text_of (Some n.keys) frame ≡ Ok (record { sealed = true; messages = heard_under h plain ∷ [] }) =
    sealed_by_tests (is_too_long (Some n.keys) frame) (begins_sealed frame) (opened_by (Some n.keys) frame) (split_text false (messages_in frame))
    (heard_under h plain) plain long (ciphers.begins n.keys true (nonce_at n.channel n.counter) plain) opens
    (heads.alone h body plain fit refl is) in
    let same : line_frame n m charge ≡ frame =
    ap (λ b. if b then sealed n.keys true (nonce_at n.channel n.counter) plain else signed n.keys.signing
    (request_text m charge true)) e in record {
      bytes = plain;
      fits = fit;
      is = is;
      text = ap (text_of (Some n.keys)) same ∙ whole;
      verified = λ q. absurd (let g : true ≡ false = q in cc);
    }
texted z law n k m charge false e i id sealable =
    let h = head_of m charge true in
    let body = body_of m.command in
    let fit = head_fits z n k m charge true i in
    let plain = message_spelling h body in
    let frame = signed n.keys.signing plain in
    let is : IsMessage h body frame = Signed n.keys.signing refl in
    let heads = law.headers in
    let ciphers = law.ciphers in
    let size : length frame ≡ 64 + length body = heads.size h body frame fit is in
    let plain_size : length plain ≡ 64 + length body = heads.size h body plain fit (Bare refl) in
    let short = i.short in
    let long : is_too_long (Some n.keys) frame ≡ false = not_long 1114112 (length frame) (omega (arith, size, short)) in
    let whole : text_of (Some n.keys) frame ≡ Ok (record { sealed = false; messages = heard_under h frame ∷ [] }) =
    plain_by_tests (is_too_long (Some n.keys) frame) (begins_sealed frame) (opened_text (opened_by (Some n.keys) frame)) (messages_in frame)
    (heard_under h frame) long (heads.plain h body frame is) (heads.alone h body frame fit refl is) in
    let same : line_frame n m charge ≡ frame =
    ap (λ b. if b then sealed n.keys true (nonce_at n.channel n.counter) (request_text m charge false) else frame) e in record {
      bytes = frame;
      fits = fit;
      is = is;
      text = ap (text_of (Some n.keys)) same ∙ whole;
      verified = λ q. ciphers.verified n.keys.signing plain (omega (arith, plain_size));
    }

-- ---- the message

pub small_low : (n : ℕ) → n < 256 ^ 2 → n % 65536 ≡ n
small_low n e = omega (arith, e)

fault_none : (free protected : Bool) → protected ≡ true → (if free then None else if protected then None else Some access_denied) ≡ None
fault_none true protected e = refl
fault_none false true e = refl
fault_none false false e = absurd (let q : false ≡ true = e in cc)

protected_by : (encrypts end_encrypts flagged right : Bool) → end_encrypts ≡ encrypts → (encrypts ≡ false → flagged ≡ true)
    → (encrypts ≡ false → right ≡ true) → (encrypts || (not end_encrypts && (flagged && right))) ≡ true
protected_by true end_encrypts flagged right e f g = refl
protected_by false end_encrypts flagged right e f g =
    ap (λ b. not b && (flagged && right)) e ∙ (ap (λ b. b && right) (f refl) ∙ g refl)

flagged_if : (encrypts : Bool) (replay : Bool) → encrypts ≡ false → has_bit (bit_if (not encrypts) 8 + bit_if replay 0x2000_0000) 8 ≡ true
flagged_if true replay e = absurd (let q : true ≡ false = e in cc)
flagged_if false replay e = signed_told replay

there : (first second : Bool) → first ≡ false → second ≡ false → (not first && not second) ≡ true
there first second e f = ap (λ b. not b && not second) e ∙ ap not f

client_not : (b : Bool) (told other : ℕ) → b ≡ false → (if b then told else other) ≡ other
client_not true told other e = absurd (let q : true ≡ false = e in cc)
client_not false told other e = refl

pub no_dialogs : (t : Token) → is_operations t ≡ true → t ≡ ForDialog → ⊥
no_dialogs t e f = let h : false ≡ true = sym (ap is_operations f) ∙ e in cc

-- what the server hears
message_is : (z : WorldSettings) (n : ClientEnd) (k : ℕ) (m : Message) (charge : ℕ) (is_signed : Bool) (t : Told) (bytes : List ℕ)
    → IsLineMessage z n k m charge → t.connection ≡ k → t.client ≡ m.client_guid → t.fault ≡ None
    → command_of t (header_as (head_of m charge is_signed) bytes) bytes ≡ Some m.command
    → message_of t (header_as (head_of m charge is_signed) bytes) bytes ≡ Some m
unfolding message_of
message_is z n k m charge is_signed t bytes i at client fault command =
    let h = header_as (head_of m charge is_signed) bytes in
    let s = i.sent in
    let same : message_as t h m.command ≡ m = (λ j. record {
      connection = (at ∙ sym i.connection) j;
      client_guid = client j;
      session_id = m.session_id;
      tree_id = m.tree_id;
      message_id = m.message_id;
      channel_sequence = small_low m.channel_sequence s.channel_sequence j;
      replay = replay_told is_signed m.replay j;
      fault = (fault ∙ sym i.fault) j;
      command = m.command;
    }) in
    ap (option_map (message_as t h)) command ∙ ap Some same

pub asked_new : (z : WorldSettings) → IsLawful z → (L : Logons) (n : ClientEnd) (f : ServerEnd) (k : ℕ) (token : Token) (m : Message)
    (charge next : ℕ) → IsLineMessage z n k m charge → (token ≡ ForDialog → number_of_command m.command ≡ 3) → n.keys.session < 2 ^ 64
    → (n.encrypts ≡ true → (n.keys.cipher == 0) ≡ false) → f.keys ≡ Some n.keys → f.encrypts ≡ n.encrypts → is_some f.greeting ≡ true
    → client_on f.greeting ≡ number_of z.client.guid → n.purse.next ≡ next
    → Asked z L k f (line_frame n m charge) (record { token = token; message = m }) (next, charge)
asked_new z law L n f k token m charge next i asks id sealable keys encrypts greeted client same_next =
    let e = n.encrypts in
    let t = texted z law n k m charge e refl i id sealable in
    let h = head_of m charge (not e) in
    let x = heard_under h t.bytes in
    let first : is_negotiate x.header ≡ false = i.greets_not in
    let second : is_setup x.header ≡ false = i.sets_up_not in
    let s = i.sent in
    let right : e ≡ false → signed_by f.keys t.bytes ≡ true = λ q. ap (λ o. signed_by o t.bytes) keys ∙ t.verified q in
    let protected : is_protected f e x ≡ true =
    protected_by e f.encrypts (has_bit x.header.flags 8) (signed_by f.keys t.bytes) encrypts (λ q. flagged_if e m.replay q) right in
    let fault : fault_of f e false x ≡ None = fault_none (owes_nothing x) (is_protected f e x) protected in
    let c = checked_as f e false true x in
    let told = told_of z.server L k f c in
    let command = i.reads told h t.bytes t.fits t.is refl refl in
    let message : heard_message z.server L k f c ≡ Some m =
    placed_well (is_misplaced c) (message_of told x.header t.bytes) (Some m) (related_not (not e) m.replay)
    (message_is z n k m charge (not e) told t.bytes i refl
    (client_not (is_negotiate x.header) (client_told t.bytes) (client_on f.greeting) first
    ∙ (client ∙ sym i.client)) fault command) in
    let line : is_line x ≡ true = there (is_negotiate x.header) (is_setup x.header) first second in record {
      reads = record {
        sealed = e;
        heard = x;
        text = ap (λ o. text_of o (line_frame n m charge)) keys ∙ t.text;
        message = message;
        id = i.id ∙ same_next;
        charge = refl;
        turn = greeted ∙ sym (ap not first);
        first = λ q. absurd (let g : true ≡ false = sym q ∙ first in cc);
      };
      fault = fault;
      credits = refl;
      counts = i.cancels_not;
      apart = related_not (not e) m.replay;
      charge_fits = s.charge_fits;
      command_fits = i.small;
      message_fits = s.message_id;
      sealing = λ q. (sym encrypts, ap is_some keys);
      plain = λ q. absurd (let g : true ≡ false = sym line ∙ q in cc);
      kind = λ q. line;
      tree = λ q g. asks q;
    }
