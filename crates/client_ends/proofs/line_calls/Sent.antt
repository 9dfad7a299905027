-- What a line sends, and the end behind it.
use Rattle.std.proofs.Common.{◌≡◌, ℕ, ◌+◌, ◌^◌, ◌<◌, ◌≤◌, nat_lt, Bool, true, false, not, ◌||◌, if◌then◌else◌, List, ◌++◌, length, Ok, Err, Result}
use Rattle.std.proofs.Common.{refl, sym, ap, subst, ◌∙◌, arith}
use Rattle.std.proofs.lemmas.Bool.Decides.{nat_tests}
use Rattle.spec_commands.specs.BodyOf.{body_of, number_of_command}
use Rattle.spec_wire.specs.credits.Ids.{counted}
use Rattle.spec_wire.specs.credits.Purse.{Credits}
use Rattle.spec_exchange.specs.Network.{Token}
use Rattle.spec_exchange.specs.State.{Message}
use Rattle.spec_crypto.specs.declared.sessions.material.Keys.{Keys}
use Rattle.spec_crypto.specs.sessions.Nonces.{NonceState, last_counter, nonce_of}
use Rattle.spec_crypto.specs.sessions.Sealing.{sealed}
use Rattle.spec_crypto.specs.sessions.Signing.{signed}
use Rattle.crypto_sessions.specs.session_keys.Sealing.{HasCipher}
use Rattle.wire_bytes.specs.declared.headers.request.Request.{Request}
use Rattle.spec_wire.specs.messages.Header.{header_spelling}
use Rattle.spec_wire.specs.declared.messages.header.Header.{Header}
use Rattle.spec_world.specs.Ends.{ClientEnd, nonce_at}
use Rattle.spec_world.specs.Messages.{message_spelling}
use Rattle.spec_world.specs.Sending.{line_frame, may_seal, request_header, request_text, sealed_on, spent}
use Rattle.client_ends.specs.declared.ends.line.Line.{Line}
use Rattle.client_ends.specs.declared.ends.line.LineError.{LineError}
use Rattle.client_ends.specs.declared.ends.line.LineError.TheVariants.{Spent}
use Rattle.client_ends.specs.declared.ends.line.Outstanding.{Outstanding}
use Rattle.client_ends.specs.ends.Shown.{EndKeeps, ShowsLine, ShowsSeals, EndShowsTalk, awaited_in, token_of}
use Rattle.client_ends.specs.line_calls.Sending.{IsRequest, LineCounts, LineSends, MakesFrame}

-- ---- the text

text_is : (m : Message) (charge : ℕ) (signs : Bool) (h : Header) (body : List ℕ)
    → h ≡ request_header m charge (number_of_command m.command) signs → body ≡ body_of m.command
    → header_spelling h ++ body ≡ request_text m charge signs
unfolding request_text message_spelling
text_is m charge signs h body e b = λ t. header_spelling (e t) ++ b t

-- ---- the end

held_is : (p q : Credits) (k charge : ℕ) → p ≡ q → k ≡ charge → counted k ≤ q.held → counted charge ≤ p.held
held_is p q k charge e f h =
    subst (λ (x : Credits). counted charge ≤ x.held) (sym e) (subst (λ (c : ℕ). counted c ≤ q.held) f h)

-- a talk behind a request, of the charge that it has
talk_of : (new : Line) (n : ClientEnd) (k charge : ℕ) (token : Token) → k ≡ charge → EndShowsTalk new (spent n k token)
    → EndShowsTalk new (spent n charge token)
talk_of new n k charge token e s = subst (λ (c : ℕ). EndShowsTalk new (spent n c token)) e s

-- the counter isn't looked at by it
talk_on : (new : Line) (n : ClientEnd) → EndShowsTalk new n → EndShowsTalk new (sealed_on n)
talk_on new n s = record { purse = s.purse; awaited = s.awaited }

kept : (old new : Line) (n : ClientEnd) (charge : ℕ) (token : Token) → old.encrypts ≡ false → EndKeeps old new → ShowsSeals old n
    → ShowsSeals new (sealed_on (spent n charge token))
kept old new n charge token plain k s = record {
  keys = s.keys ∙ sym k.keys;
  encrypts = s.encrypts ∙ sym k.encrypts;
  sealing = λ e. subst HasCipher (sym k.keys) (s.sealing (sym k.encrypts ∙ e));
  channel = s.channel ∙ ap (λ (x : NonceState). x.channel) (sym k.nonces);
  counter =
      ap (λ (b : Bool). if b then n.counter + 1 else n.counter) (s.encrypts ∙ plain)
      ∙ (s.counter ∙ ap (λ (x : NonceState). x.counter) (sym k.nonces));
}

-- ---- a signed request

signed_frame_is : (n : ClientEnd) (m : Message) (charge : ℕ) (keys : Keys) (text frame : List ℕ) → n.encrypts ≡ false → n.keys ≡ keys
    → text ≡ request_text m charge true → frame ≡ signed keys.signing text → frame ≡ line_frame n m charge
signed_frame_is n m charge keys text frame plain k t e =
    e ∙ ((λ i. signed (sym k i).signing (t i))
    ∙ ap (λ (b : Bool). if b then sealed n.keys true (nonce_at n.channel n.counter) (request_text m charge false)
    else signed n.keys.signing (request_text m charge true)) (sym plain))

plain_may : (n : ClientEnd) → n.encrypts ≡ false → may_seal n ≡ true
plain_may n plain = ap (λ (b : Bool). not b || nat_lt n.counter last_counter) plain

pub plain_sent : (old new : Line) (req : Request) (n : ClientEnd) (m : Message) (charge : ℕ) (h : Header) (body frame : List ℕ)
    → ShowsLine old n → IsRequest req m charge → old.encrypts ≡ false → counted req.header.charge ≤ old.purse.held
    → ((x : ClientEnd) → EndShowsTalk old x → EndShowsTalk new (spent x req.header.charge (token_of req.token))) → EndKeeps old new
    → h ≡ request_header m charge (number_of_command m.command) true → body ≡ req.body
    → frame ≡ signed new.keys.signing (header_spelling h ++ body) → LineSends n m charge (token_of req.token) new (Ok frame)
plain_sent old new req n m charge h body frame s r plain held talk k head rest e =
    let off : n.encrypts ≡ false = s.1.encrypts ∙ plain in
    let text : header_spelling h ++ body ≡ request_text m charge true = text_is m charge true h body head (rest ∙ r.body) in (
      held_is n.purse old.purse req.header.charge charge s.0.purse r.costs held,
      plain_may n off,
      signed_frame_is n m charge new.keys (header_spelling h ++ body) frame off (s.1.keys ∙ sym k.keys) text e,
      (
        talk_on new (spent n charge (token_of req.token))
            (talk_of new n req.header.charge charge (token_of req.token) r.costs (talk n s.0)),
        kept old new n charge (token_of req.token) plain k s.1,
      ),
    )

-- ---- a sealed request

sealed_may : (n : ClientEnd) (counter : ℕ) → n.counter ≡ counter → counter < last_counter → may_seal n ≡ true
sealed_may n counter e h =
    below (not n.encrypts) (nat_lt n.counter last_counter) (less n.counter last_counter (subst (λ (k : ℕ). k < last_counter) (sym e) h))
  where
    less : (i j : ℕ) → i < j → nat_lt i j ≡ true
    less i j h = grind (arith, nat_tests)

    below : (a b : Bool) → b ≡ true → (a || b) ≡ true
    below true b e = refl
    below false b e = e

sealed_frame_is : (n : ClientEnd) (m : Message) (charge : ℕ) (keys : Keys) (nonces : NonceState) (nonce text frame : List ℕ)
    → n.encrypts ≡ true → n.keys ≡ keys → n.channel ≡ nonces.channel → n.counter ≡ nonces.counter → nonce ≡ nonce_of nonces
    → text ≡ request_text m charge false → frame ≡ sealed keys true nonce text → frame ≡ line_frame n m charge
sealed_frame_is n m charge keys nonces nonce text frame on k a b o t e =
    let own : nonce ≡ nonce_at n.channel n.counter = o ∙ (λ i. nonce_of (record { channel = sym a i; counter = sym b i })) in
    e ∙ ((λ i. sealed (sym k i) true (own i) (t i))
    ∙ ap (λ (c : Bool). if c then sealed n.keys true (nonce_at n.channel n.counter) (request_text m charge false)
    else signed n.keys.signing (request_text m charge true)) (sym on))

counted_on : (old mid new : Line) (n : ClientEnd) (charge : ℕ) (token : Token) → old.encrypts ≡ true → mid.keys ≡ old.keys
    → mid.encrypts ≡ old.encrypts → mid.nonces ≡ record old.nonces { counter = old.nonces.counter + 1 } → EndKeeps mid new
    → ShowsSeals old n → ShowsSeals new (sealed_on (spent n charge token))
counted_on old mid new n charge token on same also next k s = record {
  keys = s.keys ∙ (sym same ∙ sym k.keys);
  encrypts = s.encrypts ∙ (sym also ∙ sym k.encrypts);
  sealing = λ e. subst HasCipher (sym same ∙ sym k.keys) (s.sealing (sym also ∙ (sym k.encrypts ∙ e)));
  channel =
      s.channel ∙ (ap (λ (x : NonceState). x.channel) (sym next) ∙ ap (λ (x : NonceState). x.channel) (sym k.nonces));
  counter =
      ap (λ (b : Bool). if b then n.counter + 1 else n.counter) (s.encrypts ∙ on)
      ∙ (ap (λ (i : ℕ). i + 1) s.counter
      ∙ (ap (λ (x : NonceState). x.counter) (sym next) ∙ ap (λ (x : NonceState). x.counter) (sym k.nonces)));
}

pub sealed_sent : (old mid new : Line) (req : Request) (n : ClientEnd) (m : Message) (charge : ℕ) (h : Header) (nonce body frame : List ℕ)
    → ShowsLine old n → IsRequest req m charge → old.encrypts ≡ true → counted req.header.charge ≤ old.purse.held
    → mid.purse ≡ old.purse → mid.awaited.items ≡ old.awaited.items → mid.keys ≡ old.keys → mid.encrypts ≡ old.encrypts
    → (old.nonces.counter < last_counter) × (nonce ≡ nonce_of old.nonces)
    × (mid.nonces ≡ record old.nonces { counter = old.nonces.counter + 1 })
    → ((x : ClientEnd) → EndShowsTalk mid x → EndShowsTalk new (spent x req.header.charge (token_of req.token))) → EndKeeps mid new
    → h ≡ request_header m charge (number_of_command m.command) false → body ≡ req.body
    → frame ≡ sealed new.keys true nonce (header_spelling h ++ body) → LineSends n m charge (token_of req.token) new (Ok frame)
sealed_sent old mid new req n m charge h nonce body frame s r on held purse waits same also given talk k head rest e =
    let seals : n.encrypts ≡ true = s.1.encrypts ∙ on in
    let text : header_spelling h ++ body ≡ request_text m charge false = text_is m charge false h body head (rest ∙ r.body) in
    let mid_talk : EndShowsTalk mid n = talk_at old mid n purse waits s.0 in (
      held_is n.purse old.purse req.header.charge charge s.0.purse r.costs held,
      sealed_may n old.nonces.counter s.1.counter given.0,
      sealed_frame_is n m charge new.keys old.nonces nonce (header_spelling h ++ body) frame seals
          (s.1.keys ∙ (sym same ∙ sym k.keys)) s.1.channel s.1.counter given.1 text e,
      (
        talk_on new (spent n charge (token_of req.token))
            (talk_of new n req.header.charge charge (token_of req.token) r.costs (talk n mid_talk)),
        counted_on old mid new n charge (token_of req.token) on same also given.2 k s.1,
      ),
    )
  where
    talk_at : (old mid : Line) (n : ClientEnd) → mid.purse ≡ old.purse → mid.awaited.items ≡ old.awaited.items → EndShowsTalk old n
        → EndShowsTalk mid n
    talk_at old mid n purse waits t = record {
      purse = t.purse ∙ sym purse;
      awaited = λ id. t.awaited id ∙ ap (λ (os : List Outstanding). awaited_in os id) (sym waits);
    }

-- ---- nothing is sent

pub no_nonce : (old new : Line) (n : ClientEnd) (m : Message) (charge : ℕ) (token : Token) → ShowsLine old n → old.encrypts ≡ true
    → new.purse ≡ old.purse → new.awaited.items ≡ old.awaited.items → new.keys ≡ old.keys → new.encrypts ≡ old.encrypts
    → (old.nonces.counter ≡ last_counter) × (new.nonces ≡ old.nonces) → LineSends n m charge token new (Err Spent)
no_nonce old new n m charge token s on purse waits same also given = (
  never n.encrypts n.counter (s.1.encrypts ∙ on) (s.1.counter ∙ given.0),
  (
    record { purse = s.0.purse ∙ sym purse; awaited = λ id. s.0.awaited id ∙ ap (λ (os : List Outstanding). awaited_in os id) (sym waits) },
    record {
      keys = s.1.keys ∙ sym same;
      encrypts = s.1.encrypts ∙ sym also;
      sealing = λ e. subst HasCipher (sym same) (s.1.sealing (sym also ∙ e));
      channel = s.1.channel ∙ ap (λ (x : NonceState). x.channel) (sym given.1);
      counter = s.1.counter ∙ ap (λ (x : NonceState). x.counter) (sym given.1);
    },
  ),
)
  where
    not_less : (i j : ℕ) → i ≡ j → nat_lt i j ≡ false
    not_less i j e = grind (arith, nat_tests)

    never : (b : Bool) (k : ℕ) → b ≡ true → k ≡ last_counter → (not b || nat_lt k last_counter) ≡ false
    never true k e f = not_less k last_counter f
    never false k e f = absurd cc

-- a line that changed nothing that is shown
pub as_before : (old new : Line) (n : ClientEnd) → ((x : ClientEnd) → EndShowsTalk old x → EndShowsTalk new x) → EndKeeps old new
    → ShowsLine old n → ShowsLine new n
as_before old new n talk k s = (
  talk n s.0,
  record {
    keys = s.1.keys ∙ sym k.keys;
    encrypts = s.1.encrypts ∙ sym k.encrypts;
    sealing = λ e. subst HasCipher (sym k.keys) (s.1.sealing (sym k.encrypts ∙ e));
    channel = s.1.channel ∙ ap (λ (x : NonceState). x.channel) (sym k.nonces);
    counter = s.1.counter ∙ ap (λ (x : NonceState). x.counter) (sym k.nonces);
  },
)

pub too_dear : (l : Line) (n : ClientEnd) (k charge held cost : ℕ) → ShowsLine l n → k ≡ charge → held ≡ l.purse.held → cost ≡ counted k
    → held < cost → (held ≡ n.purse.held) × (held < counted charge)
too_dear l n k charge held cost s e h c less = (
  h ∙ ap (λ (p : Credits). p.held) (sym s.0.purse),
  subst (λ (x : ℕ). held < x) (c ∙ ap counted e) less,
)

pub affords : (k held cost : ℕ) (p q : Credits) → held ≡ p.held → cost ≡ counted k → q ≡ p → cost ≤ held → counted k ≤ q.held
affords k held cost p q h c e less =
    subst (λ (x : Credits). counted k ≤ x.held) (sym e)
    (subst (λ (x : ℕ). counted k ≤ x) h (subst (λ (x : ℕ). x ≤ held) c less))

-- ---- keys without a cipher; frames

pub lacks_cipher : (k : Keys) → k.cipher < 1 → HasCipher k → ⊥
lacks_cipher k less h = let least : 1 ≤ k.cipher = h.least in omega (arith, less, least)

pub past_ciphers : (k : Keys) → 4 < k.cipher → HasCipher k → ⊥
past_ciphers k more h = let most : k.cipher ≤ 4 = h.most in omega (arith, more, most)

pub front_fits : (n front body : ℕ) → n ≡ front + body → front ≤ n
front_fits n front body e = omega (arith, e)

pub frame_short : (n body : ℕ) → n ≡ 64 + body → body ≤ 1113996 → n < 2 ^ 60
frame_short n body e h = omega (arith, e, h)

pub frame_fits : (n body : ℕ) → n ≡ 116 + body → body ≤ 1113996 → n ≤ 1114112
frame_fits n body e h = omega (arith, e, h)

pub body_is : (told due : List ℕ) → told ≡ due → length due ≤ 1113996 → length told ≤ 1113996
body_is told due e h = subst (λ (b : List ℕ). length b ≤ 1113996) (sym e) h

-- ---- nonces

abbrev Outcome : Type 0
Outcome = Result (List ℕ) LineError

pub signed_counts : (old new : Line) (text frame : List ℕ) → old.encrypts ≡ false → EndKeeps old new → frame ≡ signed new.keys.signing text
    → LineCounts old new (Ok frame)
signed_counts old new text frame plain k e = (
  k.keys,
  k.encrypts,
  subst (λ (b : Bool). MakesFrame b old.keys old.nonces new.nonces frame) (sym plain)
      (record { text = text; frame_is = e ∙ ap (λ (x : Keys). signed x.signing text) k.keys; stays = k.nonces }),
)

pub sealed_counts : (old mid new : Line) (nonce text frame : List ℕ) → old.encrypts ≡ true → mid.keys ≡ old.keys
    → mid.encrypts ≡ old.encrypts
    → (old.nonces.counter < last_counter) × (nonce ≡ nonce_of old.nonces)
    × (mid.nonces ≡ record old.nonces { counter = old.nonces.counter + 1 })
    → EndKeeps mid new → frame ≡ sealed new.keys true nonce text → LineCounts old new (Ok frame)
sealed_counts old mid new nonce text frame on same also given k e =
    let keys : new.keys ≡ old.keys = k.keys ∙ same in (
      keys,
      k.encrypts ∙ also,
      subst (λ (b : Bool). MakesFrame b old.keys old.nonces new.nonces frame) (sym on)
          (record {
            text = text;
            below = given.0;
            frame_is = e ∙ (λ i. sealed (keys i) true (given.1 i) text);
            counts = k.nonces ∙ given.2;
          }),
    )

-- what is sent behind a change that keeps a line's keys and nonces
pub counts_behind : (old mid new : Line) (frame : List ℕ) → EndKeeps old mid → LineCounts mid new (Ok frame) → LineCounts old new (Ok frame)
counts_behind old mid new frame k h = (
  h.0 ∙ k.keys,
  h.1 ∙ k.encrypts,
  subst (λ (b : Bool). MakesFrame b old.keys old.nonces new.nonces frame) k.encrypts
      (subst (λ (x : Keys). MakesFrame mid.encrypts x old.nonces new.nonces frame) k.keys
      (subst (λ (x : NonceState). MakesFrame mid.encrypts mid.keys x new.nonces frame) k.nonces h.2)),
)

pub keeps_behind : (old mid new : Line) → EndKeeps old mid → EndKeeps mid new → EndKeeps old new
keeps_behind old mid new k h = record { keys = h.keys ∙ k.keys; encrypts = h.encrypts ∙ k.encrypts; nonces = h.nonces ∙ k.nonces }

pub line_counts_behind : (old mid new : Line) (r : Outcome) → EndKeeps old mid → LineCounts mid new r → LineCounts old new r
line_counts_behind old mid new (Ok frame) k h = counts_behind old mid new frame k h
line_counts_behind old mid new (Err why) k h = keeps_behind old mid new k h

pub keeps_all : (l : Line) → EndKeeps l l
keeps_all l = record { keys = refl; encrypts = refl; nonces = refl }
