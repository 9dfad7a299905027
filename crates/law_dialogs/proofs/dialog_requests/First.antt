-- The interim response comes: the client finds no fault in it, and both ends have its transcript and its challenge.
use Rattle.std.proofs.Common.{◌≡◌, ℕ, ◌==◌, inr, Bool, true, false, List, [], ◌∷◌, ◌++◌}
use Rattle.std.proofs.Common.{length, refl, sym, ap, ◌∙◌, subst, eqb-true, arith, Option, Some, None, is_some}
use Rattle.std.proofs.lemmas.List.{length-take-le, append_assoc}
use Rattle.sha2.proofs.Facts256.{length-sha256}
use Rattle.spec_wire.specs.messages.Places.{le}
use Rattle.spec_exchange.specs.Status.{more_processing_required}
use Rattle.spec_exchange.specs.Client.{SaidFirst, SaidSecond}
use Rattle.spec_exchange.specs.Network.{Sent, answer}
use Rattle.spec_wire.specs.credits.Window.{granted}
use Rattle.spec_commands.specs.ReplyBody.{reply_body}
use Rattle.spec_crypto.specs.declared.sessions.material.Keys.{Keys}
use Rattle.spec_crypto.specs.tokens.Tokens.{Users}
use Rattle.spec_crypto.specs.tokens.Tokens.{Begun, Pending, first_token}
use Rattle.spec_world.specs.Settings.{WorldSettings, draw}
use Rattle.spec_world.specs.Messages.{HeardMessage}
use Rattle.spec_world.specs.Hearing.{window_behind}
use Rattle.spec_world.specs.Logon.{Progress, Interim, progress, token_in, pending_by, challenge_of, answer_token_by, greeting_transcript}
use Rattle.spec_world.specs.Logon.{made_or_greeted, pending_with}
use Rattle.spec_world.specs.Answering.{server_end_moved}
use Rattle.spec_world.specs.Sending.{answer_of}
use Rattle.spec_world.specs.Dialog.{body_reads, has_form, has_token, is_signed, setup_token, pays_next}
use Rattle.spec_world.specs.World.{World}
use Rattle.law_ties.specs.wire_facts.Fitting.{IsMessage, IsSetUpBy}
use Rattle.law_ties.specs.wire_facts.Lawful.{IsLawful}
use Rattle.law_ties.specs.events.Links.{GreetedAs}
use Rattle.law_ties.proofs.events.Taking.{put_same}
use Rattle.law_ties.proofs.requests.Answering.{no_greeting}
use Rattle.law_ties.proofs.requests.Hearing.{with_flags}
use Rattle.law_ties.proofs.requests.Line.{fresh_of, checked_of, token_of, few_granted, body_is}
use Rattle.law_dialogs.proofs.dialog_requests.Credit.{pays}
use Rattle.law_dialogs.proofs.dialog_requests.Step.{said_by, text_by, end_by, counted_by, logons_by, logons_to, progress_by, interim_is, signer_now}
use Rattle.law_dialogs.proofs.dialog_requests.Told.{right_by}
use Rattle.law_dialogs.proofs.dialog_requests.Front.{Front, head_by, told_at, hears_it, form_is, no_fault, IsComing, comes}

-- ---- the 8 random bytes

pub fresh_length : (z : WorldSettings) (w : World) → length (fresh_of z w) ≡ 8
unfolding draw
fresh_length z w =
    length-take-le 8 (draw z.seed w.draws) (let e = length-sha256 (z.seed ++ le 8 w.draws) in omega (arith, e))

pub one_is : (n : ℕ) → n ≡ 1 → (n == 0) ≡ false
one_is n e = ap (λ m. m == 0) e

-- ---- a SESSION_SETUP leaves the greeting

pub same_greeting : (z : WorldSettings) (w : World) (k : ℕ) (x : Sent) (h : HeardMessage) → h.header.command ≡ 1
    → (end_by z w k h x).greeting ≡ (w.wires k).server_end.greeting
same_greeting z w k x h e = no_greeting (w.wires k).server_end (said_by z w k h x) (text_by z w k h x) (one_is h.header.command e)

-- ---- the challenge, and the logon in the making

interim_token : (users : Users) (pending : Option Pending) (token fresh : List ℕ) (now : ℕ) (bound : Bool) (p : Progress)
    → p ≡ Interim bound → answer_token_by users pending token fresh now p
    ≡ challenge_of (pending_by users.bare token fresh now)
unfolding answer_token_by
interim_token users pending token fresh now bound p e = ap (answer_token_by users pending token fresh now) e

-- the client's first token is SPNEGO's, whatever else the server takes
same_pending : (z : WorldSettings) → IsLawful z → (bare : Bool) (fresh : List ℕ) (now : ℕ)
    → pending_by bare first_token fresh now ≡ pending_by false first_token fresh now
unfolding pending_by
same_pending z law bare fresh now =
    let tokens = law.tokens in
    let first = tokens.first in
    ap (λ (o : Option Begun). pending_with o fresh now) (first.1 bare)
    ∙ sym (ap (λ (o : Option Begun). pending_with o fresh now) (first.1 false))

-- what the reply's text is, and what is heard in it
pub record IsSetUp (token text : List ℕ) (bound : Bool) : Type 0 where
  pub reads : body_reads (SaidSecond bound) text ≡ true
  pub token_is : setup_token text ≡ token

interim : (z : WorldSettings) (w : World) (k : ℕ) (b : List ℕ) (x : Sent) (h : HeardMessage) (bound : Bool)
    → Front z w k b x h (SaidFirst bound)
    → ((answer w.values x).reply.status == more_processing_required) ≡ true → progress_by w x ≡ Interim bound
interim z w k b x h bound F ok =
    let c = F.command in
    let reply = (answer w.values x).reply in
    ap (λ v. progress v reply) c.1 ∙ interim_is c.0.binding bound reply c.2 ok

set_up : (z : WorldSettings) → IsLawful z → (w : World) (k : ℕ) (b : List ℕ) (x : Sent) (h : HeardMessage) (bound : Bool)
    → Front z w k b x h (SaidFirst bound) → ((answer w.values x).reply.status == more_processing_required) ≡ true
    → IsSetUp (challenge_of (pending_by false first_token (fresh_of z w) w.values.moment)) (text_by z w k h x) bound
set_up z law w k b x h bound F ok =
    let stage = SaidFirst bound in
    let f = (w.wires k).server_end in
    let now = w.values.moment in
    let fresh = fresh_of z w in
    let reply = (answer w.values x).reply in
    let command = x.message.command in
    let text = text_by z w k h x in
    let t = told_at z w k b x h stage F in
    let c = F.command in
    let carries = F.carries in
    let token = challenge_of (pending_by false first_token fresh now) in
    let is_token : token_of z w k h x ≡ token =
    interim_token z.server.users (w.logons.pending k) (token_in h.bytes) fresh now bound (progress_by w x) (interim z w k b x h bound F ok)
    ∙ (ap (λ v. challenge_of (pending_by z.server.users.bare v fresh now)) carries.0
    ∙ ap challenge_of (same_pending z law z.server.users.bare fresh now)) in
    let body : (said_by z w k h x).body ≡ reply_body token command reply =
    body_is z.server.guid f.salt now (checked_of w k false h) (token_of z w k h x) command reply (one_is h.header.command F.header)
    ∙ ap (λ v. reply_body v command reply) is_token in
    let is : IsMessage (with_flags (head_by w k h x) t.flags) (reply_body token command reply) text =
    subst (λ m. IsMessage (with_flags (head_by w k h x) t.flags) m text) body t.is in
    let setups = law.setups in
    let tokens = law.tokens in
    let by : IsSetUpBy command reply token = record {
      request = c.0;
      command = c.1;
      status = inr (eqb-true reply.status more_processing_required ok);
      short = tokens.challenge fresh now (fresh_length z w) F.moment;
    } in
    let all = setups.told command (with_flags (head_by w k h x) t.flags) token text reply bound t.fits is by in
    record { reads = all.0; token_is = all.1 }

-- ---- in a binding the session signs it

signed_now : (z : WorldSettings) → IsLawful z → (w : World) (k : ℕ) (b : List ℕ) (x : Sent) (h : HeardMessage) (bound : Bool)
    → Front z w k b x h (SaidFirst bound) → ((answer w.values x).reply.status == more_processing_required) ≡ true
    → is_signed (w.wires k).client_end (SaidFirst bound) (text_by z w k h x) ≡ true
signed_now z law w k b x h false F ok = refl
signed_now z law w k b x h true F ok =
    let n = (w.wires k).client_end in
    let f = (w.wires k).server_end in
    let carries = F.carries in
    let binding = carries.1 refl in
    let own = F.bound refl in
    let keys : w.logons.keys h.header.session ≡ n.keys = ap w.logons.keys binding.0 ∙ (own.0 ∙ sym binding.1) in
    let signer : (said_by z w k h x).signer ≡ Some n.keys.signing =
    signer_now z w k h x (Interim true) F.header (interim z w k b x h true F ok) ∙ ap (λ (q : Keys). Some q.signing) keys in
    right_by z law (said_by z w k h x) h.header (answer w.values x).reply (granted h.header.credits (window_behind f.window h.header))
    n.keys.signing signer refl F.head F.fits (few_granted h.header.credits (window_behind f.window h.header))

-- ---- what stands behind it

begun_now : (z : WorldSettings) → IsLawful z → (w : World) (k : ℕ) (b : List ℕ) (x : Sent) (h : HeardMessage) (bound : Bool)
    → Front z w k b x h (SaidFirst bound)
    → ((answer w.values x).reply.status == more_processing_required) ≡ true
    → (logons_by z w k h x).pending k ≡ pending_by false first_token (fresh_of z w) w.values.moment
begun_now z law w k b x h bound F ok =
    let now = w.values.moment in
    let fresh = fresh_of z w in
    let carries = F.carries in
    ap (λ p. (logons_to z w k h p).pending k) (interim z w k b x h bound F ok)
    ∙ (put_same w.logons.pending k (pending_by z.server.users.bare (token_in h.bytes) fresh now)
    ∙ (ap (λ v. pending_by z.server.users.bare v fresh now) carries.0 ∙ same_pending z law z.server.users.bare fresh now))

making_now : (z : WorldSettings) (w : World) (k : ℕ) (b : List ℕ) (x : Sent) (h : HeardMessage) (bound : Bool)
    → Front z w k b x h (SaidFirst bound)
    → ((answer w.values x).reply.status == more_processing_required) ≡ true
    → (end_by z w k h x).making ≡ Some ((w.wires k).client_end.transcript ++ text_by z w k h x ∷ [])
making_now z w k b x h bound F ok =
    let f = (w.wires k).server_end in
    let n = (w.wires k).client_end in
    let text = text_by z w k h x in
    let g = greeting_transcript f.greeting in
    let before : n.transcript ≡ g ++ b ∷ [] = F.behind.2 ∙ ap (λ m. made_or_greeted m f.greeting ++ b ∷ []) F.behind.1 in
    ap (λ p. (server_end_moved (counted_by w k h) (said_by z w k h x) text p).making) (interim z w k b x h bound F ok)
    ∙ (ap (λ v. Some (g ++ (v ∷ text ∷ []))) F.bytes
    ∙ ap Some (sym (append_assoc g (b ∷ []) (text ∷ [])) ∙ ap (λ v. v ++ text ∷ []) (sym before)))

pub first_comes : (z : WorldSettings) → IsLawful z → (w : World) (k : ℕ) (b : List ℕ) (x : Sent) (h : HeardMessage)
    (bound : Bool) (place : ℕ)
    → Front z w k b x h (SaidFirst bound) → IsComing z w k h x place (SaidFirst bound)
first_comes z law w k b x h bound place F =
    let stage = SaidFirst bound in
    let n = (w.wires k).client_end in
    let now = w.values.moment in
    let fresh = fresh_of z w in
    let t = told_at z w k b x h stage F in
    let text = text_by z w k h x in
    let y = hears_it w k h x t.flags text in
    let tokens = law.tokens in
    let answers = tokens.answer n fresh now F.logon (fresh_length z w) F.moment in
    comes z law w k b x h stage place F refl t
    (λ ok. (let g = set_up z law w k b x h bound F ok in
    no_fault (has_form n stage y) (has_token z.client n stage text) (is_signed n stage text) true (pays_next n stage y.header) None
    (form_is z w k b x h stage F t.flags text t.answers g.reads) refl
    (ap (λ v. is_some (answer_of z.client n v)) g.token_is ∙ ap is_some answers.1)
    (signed_now z law w k b x h bound F ok) refl (pays n stage y.header refl F.credit F.purse)))
    (λ ok. (let g = set_up z law w k b x h bound F ok in (
      ap (λ p. (server_end_moved (counted_by w k h) (said_by z w k h x) text p).keys) (interim z w k b x h bound F ok) ∙ F.no_keys,
      subst (GreetedAs z) (sym (same_greeting z w k x h F.header)) F.behind.0,
      making_now z w k b x h bound F ok,
      g.token_is ∙ ap challenge_of (sym (begun_now z law w k b x h bound F ok)),
    )))
    (λ ok. ((fresh, now, fresh_length z w, F.moment, begun_now z law w k b x h bound F ok), F.behind.3))
