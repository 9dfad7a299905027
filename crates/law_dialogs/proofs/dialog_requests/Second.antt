-- The final response comes: the client finds no fault in a success, and both ends have the same keys.
use Rattle.std.proofs.Common.{◌≡◌, ℕ, ◌==◌, inl, Bool, true, false, not, ◌&&◌, List, [], ◌∷◌}
use Rattle.std.proofs.Common.{◌++◌, refl, sym, ap, ◌∙◌, subst, eqb-true, Option, Some, None}
use Rattle.spec_exchange.specs.Table.{put}
use Rattle.spec_exchange.specs.Status.{success}
use Rattle.spec_exchange.specs.Commands.{has_bit}
use Rattle.spec_exchange.specs.Client.{SaidSecond}
use Rattle.spec_exchange.specs.Network.{Sent, answer}
use Rattle.spec_wire.specs.credits.Window.{granted}
use Rattle.spec_commands.specs.ReplyBody.{reply_body, seals_in}
use Rattle.spec_commands.specs.Tables.{bit_if}
use Rattle.spec_crypto.specs.declared.sessions.material.Keys.{Keys}
use Rattle.spec_crypto.specs.sessions.Chain.{chain}
use Rattle.spec_crypto.specs.sessions.Derivation.{keys_of, bound_keys, known}
use Rattle.spec_crypto.specs.tokens.Tokens.{Users}
use Rattle.spec_crypto.specs.tokens.Tokens.{Pending, is_final}
use Rattle.spec_world.specs.Settings.{WorldSettings, chosen_of}
use Rattle.spec_world.specs.Messages.{HeardMessage}
use Rattle.spec_world.specs.Ends.{ClientEnd, ServerEnd, Logons, chosen_on}
use Rattle.spec_world.specs.Hearing.{behind_turn, window_behind}
use Rattle.spec_world.specs.Logon.{Progress, Final, progress, channel_in, token_in, exported, challenge_of, final_of}
use Rattle.spec_world.specs.Logon.{answer_token_by, before_setup, full_transcript, keys_behind, final_keys}
use Rattle.spec_world.specs.Answering.{server_end_moved}
use Rattle.spec_world.specs.Connection.{keys_said}
use Rattle.spec_world.specs.Sending.{answer_of}
use Rattle.spec_world.specs.Dialog.{body_reads, has_form, has_token, is_signed, flags_fit, setup_token, setup_flags, seals_told, own_final}
use Rattle.spec_world.specs.Dialog.{pays_next}
use Rattle.spec_world.specs.World.{World}
use Rattle.law_ties.specs.wire_facts.Fitting.{IsMessage, IsSetUpBy}
use Rattle.law_ties.specs.wire_facts.Lawful.{IsLawfulAnswered, IsLawful}
use Rattle.law_ties.specs.events.Links.{Shared, GreetedAs, ChosenAs, IsAhead, IsLasting}
use Rattle.law_ties.proofs.events.Taking.{put_same}
use Rattle.law_ties.proofs.requests.Hearing.{with_flags}
use Rattle.law_ties.proofs.requests.Line.{fresh_of, checked_of, token_of, few_granted, body_is}
use Rattle.law_dialogs.proofs.dialog_requests.Sparing.{with_logons}
use Rattle.law_dialogs.proofs.dialog_requests.Credit.{pays}
use Rattle.law_dialogs.proofs.dialog_requests.Step.{said_by, text_by, end_by, counted_by, logons_by, logons_to, progress_by, final_is, signer_now}
use Rattle.law_dialogs.proofs.dialog_requests.Told.{right_by}
use Rattle.law_dialogs.proofs.dialog_requests.Front.{Front, shared_at, head_by, told_at, hears_it, form_is, no_fault, IsComing, comes}
use Rattle.law_dialogs.proofs.dialog_requests.First.{one_is, same_greeting}

-- ---- the token that was answered

final_token : (users : Users) (pending : Option Pending) (token fresh : List ℕ) (now : ℕ)
    (bound encrypts : Bool) (channel : ℕ) (p : Progress)
    → p ≡ Final bound channel encrypts → answer_token_by users pending token fresh now p ≡ final_of users pending token
unfolding answer_token_by
final_token users pending token fresh now bound encrypts channel p e = ap (answer_token_by users pending token fresh now) e

same_token : (o : Option (List ℕ)) (a b : List ℕ) → o ≡ Some a → o ≡ Some b → a ≡ b
same_token o a b e f = (let h : Some a ≡ Some b = sym e ∙ f in cc)

-- the client's own answer stands in the request
pub answered_now : (z : WorldSettings) → IsLawful z → (w : World) (k : ℕ) (b : List ℕ) (x : Sent) (h : HeardMessage) (bound : Bool)
    → Front z w k b x h (SaidSecond bound) → IsLawfulAnswered z (w.wires k).client_end (w.logons.pending k) (token_in h.bytes)
answered_now z law w k b x h bound F =
    let n = (w.wires k).client_end in
    let c = F.carries in
    let begun = c.0 in
    let tokens = law.tokens in
    let all = tokens.answer n begun.0 begun.1 F.logon begun.2 begun.3 in
    let same : all.0 ≡ token_in h.bytes =
    same_token (answer_of z.client n (challenge_of (w.logons.pending k))) all.0 (token_in h.bytes)
    (ap (λ p. answer_of z.client n (challenge_of p)) begun.4 ∙ all.1) c.1 in
    subst (IsLawfulAnswered z n (w.logons.pending k)) same (subst (λ p. IsLawfulAnswered z n p all.0) (sym begun.4) all.2)

-- ---- the keys

final_same : (users : Users) (L : Logons) (k : ℕ) (f : ServerEnd) (raw base : List ℕ) (n : ClientEnd) (old session : ℕ)
    (bound : Bool) → base ≡ n.base → n.transcript ≡ full_transcript f raw → (bound ≡ true → L.keys session ≡ n.keys)
    → (chosen_on f.greeting).cipher ≡ n.chosen.cipher → (chosen_on f.greeting).signing ≡ n.chosen.signing
    → keys_behind f raw base (L.keys session) session bound ≡ own_final n bound session
final_same users L k f raw base n old session true e tr own cipher signing =
    ap (λ v. bound_keys v (chain (full_transcript f raw)) (L.keys session)) e
    ∙ (ap (λ t. bound_keys n.base (chain t) (L.keys session)) (sym tr) ∙ ap (bound_keys n.base (chain n.transcript)) (own refl))
final_same users L k f raw base n old session false e tr own cipher signing =
    ap (λ v. keys_of v (chain (full_transcript f raw)) (chosen_on f.greeting).cipher (chosen_on f.greeting).signing session) e
    ∙ (ap (λ t. keys_of n.base (chain t) (chosen_on f.greeting).cipher (chosen_on f.greeting).signing session) (sym tr)
    ∙ (ap (λ c. keys_of n.base (chain n.transcript) c (chosen_on f.greeting).signing session) cipher
    ∙ ap (λ s. keys_of n.base (chain n.transcript) n.chosen.cipher s session) signing))

pub own_signing : (n : ClientEnd) (bound : Bool) (a b : ℕ) → (own_final n bound a).signing ≡ (own_final n bound b).signing
own_signing n true a b = refl
own_signing n false a b = refl

own_cipher : (z : WorldSettings) (n : ClientEnd) (bound : Bool) → ChosenAs z n.chosen
    → (bound ≡ true → n.keys.cipher ≡ known (chosen_of z.client).cipher) → (own_final n bound 0).cipher ≡ known (chosen_of z.client).cipher
own_cipher z n true chosen own = own refl
own_cipher z n false chosen own = ap known chosen.cipher

-- ---- the front's own facts

pub record IsFinal (z : WorldSettings) (w : World) (k : ℕ) (x : Sent) (h : HeardMessage) (bound : Bool) : Type 0 where
  pub progress_is :
      progress_by w x
      ≡ Final bound (channel_in (answer w.values x).reply.body) (seals_in (answer w.values x).reply.body)
  pub keys :
      final_keys z.server.users w.logons k (behind_turn (w.wires k).server_end h.header) (checked_of w k false h) bound
      ≡ own_final (w.wires k).client_end bound h.header.session
  pub reads : body_reads (SaidSecond bound) (text_by z w k h x) ≡ true
  pub token_final : is_final (w.wires k).client_end.base (setup_token (text_by z w k h x)) ≡ true
  pub flags : setup_flags (text_by z w k h x) ≡ bit_if (seals_in (answer w.values x).reply.body) 4

pub finished : (z : WorldSettings) → IsLawful z → (w : World) (k : ℕ) (b : List ℕ) (x : Sent) (h : HeardMessage) (bound : Bool)
    → Front z w k b x h (SaidSecond bound) → (answer w.values x).reply.status ≡ success → IsFinal z w k x h bound
finished z law w k b x h bound F ok =
    let stage = SaidSecond bound in
    let n = (w.wires k).client_end in
    let f = (w.wires k).server_end in
    let now = w.values.moment in
    let fresh = fresh_of z w in
    let reply = (answer w.values x).reply in
    let command = x.message.command in
    let text = text_by z w k h x in
    let t = told_at z w k b x h stage F in
    let c = F.command in
    let carries = F.carries in
    let p : progress_by w x ≡ Final bound (channel_in reply.body) (seals_in reply.body) =
    ap (λ v. progress v reply) c.1 ∙ final_is c.0.binding bound reply c.2 ok in
    let answered = answered_now z law w k b x h bound F in
    let user = F.logs_on bound refl ok in
    let token = final_of z.server.users (w.logons.pending k) (token_in h.bytes) in
    let is_token : token_of z w k h x ≡ token =
    final_token z.server.users (w.logons.pending k) (token_in h.bytes) fresh now bound (seals_in reply.body) (channel_in reply.body)
    (progress_by w x) p in
    let body : (said_by z w k h x).body ≡ reply_body token command reply =
    body_is z.server.guid f.salt now (checked_of w k false h) (token_of z w k h x) command reply (one_is h.header.command F.header)
    ∙ ap (λ v. reply_body v command reply) is_token in
    let is : IsMessage (with_flags (head_by w k h x) t.flags) (reply_body token command reply) text =
    subst (λ m. IsMessage (with_flags (head_by w k h x) t.flags) m text) body t.is in
    let setups = law.setups in
    let by : IsSetUpBy command reply token =
    record { request = c.0; command = c.1; status = inl ok; short = answered.final_short } in
    let all = setups.told command (with_flags (head_by w k h x) t.flags) token text reply bound t.fits is by in
    let greeted = F.behind.0 in
    let chosen = F.behind.3 in
    let own : bound ≡ true → w.logons.keys h.header.session ≡ n.keys = λ e. (let binding = carries.2 e in
    let mine = F.bound e in
    ap w.logons.keys binding.0 ∙ (mine.0 ∙ sym binding.1)) in record {
      progress_is = p;
      keys = final_same z.server.users w.logons k (behind_turn f h.header) h.bytes
          (exported z.server.users (w.logons.pending k) (token_in h.bytes)) n 0 h.header.session bound (answered.exported_is user.0 user.1)
          (F.behind.2 ∙ ap (λ v. before_setup f ++ v ∷ []) (sym F.bytes)) own (greeted.cipher ∙ sym chosen.cipher)
          (greeted.signing ∙ sym chosen.signing);
      reads = all.0;
      token_final = ap (is_final n.base) all.1 ∙ answered.final user.0 user.1;
      flags = all.2;
    }

-- ---- SessionFlags

flags_are : (e c : Bool) → (e ≡ true → c ≡ false)
    → (not (has_bit (bit_if e 4) 1) && (not (has_bit (bit_if e 4) 2) && not (has_bit (bit_if e 4) 4 && c))) ≡ true
unfolding has_bit bit_if
flags_are true c f = ap not (f refl)
flags_are false c f = refl

seals_are : (e : Bool) → has_bit (bit_if e 4) 4 ≡ e
unfolding has_bit bit_if
seals_are true = refl
seals_are false = refl

seals_by : (text : List ℕ) (e : Bool) → setup_flags text ≡ bit_if e 4 → e ≡ seals_told text
unfolding seals_told
seals_by text e is = sym (ap (λ v. has_bit v 4) is ∙ seals_are e)

flags_now : (n : ClientEnd) (bound : Bool) (text : List ℕ) (e : Bool) (cipher : ℕ) → setup_flags text ≡ bit_if e 4
    → (own_final n bound 0).cipher ≡ cipher → (e ≡ true → (cipher == 0) ≡ false) → flags_fit n (SaidSecond bound) text ≡ true
flags_now n bound text e cipher is same sealing =
    ap (λ v. not (has_bit v 1) && (not (has_bit v 2) && not (has_bit v 4 && ((own_final n bound 0).cipher == 0)))) is
    ∙ flags_are e ((own_final n bound 0).cipher == 0) (λ q. ap (λ v. v == 0) same ∙ sealing q)

-- ---- what stands behind it

ahead_by : (z : WorldSettings) (s : Shared) (k : ℕ) (n : ClientEnd) (f : ServerEnd) (text : List ℕ) (y : HeardMessage)
    (bound : Bool) (session : ℕ)
    → f.keys ≡ Some (own_final n bound session) → f.encrypts ≡ seals_told y.bytes → GreetedAs z f.greeting
    → (bound ≡ false → session ≡ s.pending) → IsAhead s k n f z text y (SaidSecond bound)
ahead_by z s k n f text y true session keys encrypts greeted at = (keys, encrypts, greeted)
ahead_by z s k n f text y false session keys encrypts greeted at =
    (keys ∙ ap (λ i. Some (own_final n false i)) (at refl), encrypts, greeted)

lasting_by : (z : WorldSettings) (w : World) (k : ℕ) (x : Sent) (h : HeardMessage) (y : HeardMessage) (bound : Bool)
    → IsFinal z w k x h bound
    → ChosenAs z (w.wires k).client_end.chosen → (bound ≡ false → h.header.session ≡ w.values.client.pending)
    → IsLasting z (with_logons (shared_at w) (logons_by z w k h x)) k (w.wires k).client_end y (SaidSecond bound)
lasting_by z w k x h y true v chosen at = tt
lasting_by z w k x h y false v chosen at =
    let n = (w.wires k).client_end in
    let pending = w.values.client.pending in
    let keys = final_keys z.server.users w.logons k (behind_turn (w.wires k).server_end h.header) (checked_of w k false h) false in
    let put_at : put w.logons.keys h.header.session keys pending ≡ keys =
    ap (λ i. put w.logons.keys i keys pending) (at refl) ∙ put_same w.logons.keys pending keys in (
      ap (λ p. (logons_to z w k h p).keys pending) v.progress_is ∙ (put_at ∙ (v.keys ∙ ap (own_final n false) (at refl))),
      chosen,
    )

pub second_comes : (z : WorldSettings) → IsLawful z → (w : World) (k : ℕ) (b : List ℕ) (x : Sent) (h : HeardMessage)
    (bound : Bool) (place : ℕ)
    → Front z w k b x h (SaidSecond bound) → IsComing z w k h x place (SaidSecond bound)
second_comes z law w k b x h bound place F =
    let stage = SaidSecond bound in
    let n = (w.wires k).client_end in
    let f = (w.wires k).server_end in
    let reply = (answer w.values x).reply in
    let t = told_at z w k b x h stage F in
    let text = text_by z w k h x in
    let y = hears_it w k h x t.flags text in
    let carries = F.carries in
    let chosen = F.behind.3 in
    let said = said_by z w k h x in
    let G = counted_by w k h in
    let done = λ (ok : (reply.status == success) ≡ true). finished z law w k b x h bound F (eqb-true reply.status success ok) in
    let ciphers : bound ≡ true → n.keys.cipher ≡ known (chosen_of z.client).cipher = λ e. (let binding = carries.2 e in
    let mine = F.bound e in
    ap (λ (q : Keys). q.cipher) binding.1 ∙ mine.1) in
    comes z law w k b x h stage place F refl t
    (λ ok. (let v = done ok in
    let signer : said.signer ≡ Some (own_final n bound 0).signing =
    signer_now z w k h x (Final bound (channel_in reply.body) (seals_in reply.body)) F.header v.progress_is
    ∙ (ap (λ (q : Keys). Some q.signing) v.keys ∙ ap Some (own_signing n bound h.header.session 0)) in
    no_fault (has_form n stage y) (has_token z.client n stage text) (is_signed n stage text) (flags_fit n stage text)
    (pays_next n stage y.header) None (form_is z w k b x h stage F t.flags text t.answers v.reads) refl v.token_final
    (right_by z law said h.header reply (granted h.header.credits (window_behind f.window h.header))
    (own_final n bound 0).signing signer refl
    F.head F.fits (few_granted h.header.credits (window_behind f.window h.header)))
    (flags_now n bound text (seals_in reply.body) (known (chosen_of z.client).cipher) v.flags (own_cipher z n bound chosen ciphers) F.seals)
    (pays n stage y.header refl F.credit F.purse)))
    (λ ok. (let v = done ok in
    ahead_by z (with_logons (shared_at w) (logons_by z w k h x)) k n (end_by z w k h x) text y bound h.header.session
    (ap (λ p. (server_end_moved G said text p).keys) v.progress_is
    ∙ ap Some (ap (keys_said z.server w.logons k (behind_turn f h.header) (checked_of w k false h)) v.progress_is ∙ v.keys))
    (ap (λ p. (server_end_moved G said text p).encrypts) v.progress_is ∙ seals_by text (seals_in reply.body) v.flags)
    (subst (GreetedAs z) (sym (same_greeting z w k x h F.header)) F.behind.0) carries.3))
    (λ ok. lasting_by z w k x h y bound (done ok) chosen carries.3)
