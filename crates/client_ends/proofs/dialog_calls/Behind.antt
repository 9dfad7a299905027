-- What a dialog comes to behind a response that was judged.
use Rattle.std.proofs.Common.{◌≡◌, ℕ, nat_lt, Bool, true, false, List, Option, Some, None, Ok, refl, sym, ap, subst, ◌∙◌}
use Rattle.std.specs.Prelude.{is_some}
use Rattle.client_values.specs.outcomes.Meaning.{refusal_of}
use Rattle.spec_wire.specs.credits.Purse.{Credits}
use Rattle.spec_exchange.specs.Client.{Stage, SaidNegotiate, SaidFirst, SaidSecond}
use Rattle.spec_exchange.specs.Operations.{Refusal, BadToken}
use Rattle.wire_bytes.specs.declared.session_messages.refusal.Refusal.{Refusal as DialogRefusal}
use Rattle.wire_bytes.specs.declared.session_messages.refusal.Refusal.TheVariants as refusals
use Rattle.spec_crypto.specs.tokens.Tokens.{first_token}
use Rattle.spec_world.specs.Ends.{ClientEnd}
use Rattle.spec_world.specs.Messages.{HeardMessage, has_header, header_in}
use Rattle.spec_world.specs.Sending.{answer_of, or_no_token}
use Rattle.spec_world.specs.Dialog.{noted_heard, pays_next, response_in, setup_token, unless}
use Rattle.spec_wire.specs.declared.messages.header.Header.{Header}
use Rattle.client_ends.specs.declared.ends.dialog.Dialog.{Dialog}
use Rattle.client_ends.specs.declared.ends.dialog.Stage.TheVariants as stages
use Rattle.client_ends.specs.ends.Shown.{ShowsTalking, settings_of}
use Rattle.client_ends.specs.declared.response_faults.greeting.Greeted.{Greeted}
use Rattle.client_ends.specs.declared.response_faults.setup.Begun.{Begun}
use Rattle.client_ends.specs.response_faults.Judging.{JudgesGreeting, JudgesInterim, response_judged}
use Rattle.client_ends.proofs.response_faults.Forms.{headed, heard_as}
use Rattle.client_ends.specs.declared.dialog_calls.heard.Heard.{Heard}
use Rattle.client_ends.specs.declared.dialog_calls.heard.Heard.TheVariants.{Say, Accepted, Ready, Refused}
use Rattle.client_ends.specs.dialog_calls.Turning.{DialogComes, ComesBy, DialogGoesOn, HearsMessage, IsDialogRefused, DialogSays, Turns}
use Rattle.client_ends.proofs.dialog_calls.Paying.{judged_first, unfaulted}
use Rattle.client_ends.proofs.dialog_calls.Talking.{ChainLaw, IsNoted, first_said, second_said}

-- ---- it is refused

pub refused_turn : (s : Stage) (d new : Dialog) (n : ClientEnd) (o : Option HeardMessage) (channel : ℕ) (why : DialogRefusal) (h : Heard)
    → response_judged (settings_of d.config) n s o ≡ Some (refusal_of why) → IsDialogRefused why new h → HearsMessage s d n o channel new h
refused_turn s d new n o channel why h e r =
    subst (λ (w : Option Refusal). Turns w (ComesBy s d n o channel new h) new h)
    (sym (judged_first (settings_of d.config) n s o (refusal_of why) e)) (why, refl, r)

-- for want of a credit
pub unpaid_turn : (s : Stage) (d new : Dialog) (n : ClientEnd) (m : List ℕ) (channel : ℕ) (head : Header) (h : Heard)
    → has_header m ≡ true → header_in m ≡ head → response_judged (settings_of d.config) n s (response_in (Some m)) ≡ None
    → pays_next n s head ≡ false → IsDialogRefused refusals.BadToken new h → HearsMessage s d n (response_in (Some m)) channel new h
unpaid_turn s d new n m channel head h has is e pays r =
    subst (λ (w : Option Refusal). Turns w (ComesBy s d n (response_in (Some m)) channel new h) new h)
    (sym (unfaulted (settings_of d.config) n s m head has is e ∙ ap (λ (b : Bool). unless b BadToken) pays)) (refusals.BadToken, refl, r)

-- or it goes on
pub paid_turn : (s : Stage) (d new : Dialog) (n : ClientEnd) (m : List ℕ) (channel : ℕ) (head : Header) (h : Heard) → has_header m ≡ true
    → header_in m ≡ head → response_judged (settings_of d.config) n s (response_in (Some m)) ≡ None → pays_next n s head ≡ true
    → DialogComes s d n (headed head m) channel new h → HearsMessage s d n (response_in (Some m)) channel new h
paid_turn s d new n m channel head h has is e pays comes =
    subst (λ (w : Option Refusal). Turns w (ComesBy s d n (response_in (Some m)) channel new h) new h)
    (sym (unfaulted (settings_of d.config) n s m head has is e ∙ ap (λ (b : Bool). unless b BadToken) pays))
    (subst (λ (o : Option HeardMessage). ComesBy s d n o channel new h) (sym (heard_as m head has is)) comes)

-- ---- whether a credit is left is what the line holds behind the response

pub pays_by : (d mid : Dialog) (n : ClientEnd) (head : Header) (m : List ℕ) (b : Bool) → ShowsTalking d n → IsNoted d mid head m
    → nat_lt 0 mid.line.purse.held ≡ b → pays_next n (SaidNegotiate (is_some d.bound)) head ≡ b
pays_by d mid n head m b t note e = ap (λ (p : Credits). nat_lt 0 p.held) (note.talk n t.talk).purse ∙ e

-- ---- behind NEGOTIATE

greeting_goes : (d mid new : Dialog) (n : ClientEnd) (head : Header) (m token : List ℕ) (h : Heard) → ChainLaw → ShowsTalking d n
    → IsNoted d mid head m → mid.session ≡ d.session → token ≡ first_token
    → ((frame : List ℕ) → h ≡ Say frame → DialogSays mid token stages.SaidFirst new (Say frame) → DialogGoesOn d
    (noted_heard n (SaidNegotiate (is_some d.bound)) (headed head m)) (SaidFirst (is_some d.bound)) d.session first_token new (Say frame))
    → DialogSays mid token stages.SaidFirst new h
    → DialogGoesOn d (noted_heard n (SaidNegotiate (is_some d.bound)) (headed head m)) (SaidFirst (is_some d.bound))
    d.session first_token new h
greeting_goes d mid new n head m token (Say frame) law t note e f goes s = goes frame refl s
greeting_goes d mid new n head m token (Accepted keys chosen frame) law t note e f goes s = absurd s
greeting_goes d mid new n head m token (Ready line session tree) law t note e f goes s = absurd s
greeting_goes d mid new n head m token (Refused why) law t note e f goes s = absurd s

pub greeted_turn : (d mid new : Dialog) (n : ClientEnd) (number : ℕ) (told : Greeted) (m token : List ℕ) (h : Heard) → ChainLaw
    → ShowsTalking d n → JudgesGreeting d.config n (is_some d.bound) m (Ok told) → IsNoted d mid told.header m → mid.chosen ≡ told.chosen
    → mid.session ≡ d.session → nat_lt 0 mid.line.purse.held ≡ true → token ≡ first_token → DialogSays mid token stages.SaidFirst new h
    → HearsMessage (SaidNegotiate (is_some d.bound)) d n (response_in (Some m)) number new h
greeted_turn d mid new n number told m token h law t j note chosen e held f s =
    paid_turn (SaidNegotiate (is_some d.bound)) d new n m number told.header h j.1.0 j.1.1 j.0
    (pays_by d mid n told.header m true t note held)
    (greeting_goes d mid new n told.header m token h law t note e f
    (λ frame same say. subst (λ (x : List ℕ). DialogGoesOn d (noted_heard n (SaidNegotiate (is_some d.bound)) (headed told.header m))
    (SaidFirst (is_some d.bound)) d.session x new (Say frame)) f
    (first_said d mid new n told.header m token frame law t note (j.2 ∙ sym chosen) e say)) s)

-- ---- behind the interim response

interim_goes : (d mid new : Dialog) (n : ClientEnd) (head : Header) (m token : List ℕ) (h : Heard)
    → ((frame : List ℕ) → DialogSays mid token stages.SaidSecond new (Say frame) → DialogGoesOn d
    (noted_heard n (SaidFirst (is_some d.bound)) (headed head m)) (SaidSecond (is_some d.bound)) head.session
    (or_no_token (answer_of (settings_of d.config) n (setup_token m))) new (Say frame)) → DialogSays mid token stages.SaidSecond new h
    → DialogGoesOn d (noted_heard n (SaidFirst (is_some d.bound)) (headed head m)) (SaidSecond (is_some d.bound)) head.session
    (or_no_token (answer_of (settings_of d.config) n (setup_token m))) new h
interim_goes d mid new n head m token (Say frame) goes s = goes frame s
interim_goes d mid new n head m token (Accepted keys chosen frame) goes s = absurd s
interim_goes d mid new n head m token (Ready line session tree) goes s = absurd s
interim_goes d mid new n head m token (Refused why) goes s = absurd s

pub answered_turn : (d mid new : Dialog) (n : ClientEnd) (number : ℕ) (told : Begun) (m : List ℕ) (h : Heard) → ChainLaw → ShowsTalking d n
    → JudgesInterim d.config n (is_some d.bound) m (Ok told) → IsNoted d mid told.header m → mid.chosen ≡ d.chosen
    → mid.session ≡ told.header.session → nat_lt 0 mid.line.purse.held ≡ true → DialogSays mid told.token stages.SaidSecond new h
    → HearsMessage (SaidFirst (is_some d.bound)) d n (response_in (Some m)) number new h
answered_turn d mid new n number told m h law t j note chosen e held s =
    let token : told.token ≡ or_no_token (answer_of (settings_of d.config) n (setup_token m)) =
    ap (λ (o : Option (List ℕ)). or_no_token o) (sym j.2) in
    paid_turn (SaidFirst (is_some d.bound)) d new n m number told.header h j.1.0 j.1.1 j.0 (pays_by d mid n told.header m true t note held)
    (interim_goes d mid new n told.header m told.token h
    (λ frame say. subst (λ (x : List ℕ). DialogGoesOn d (noted_heard n (SaidFirst (is_some d.bound)) (headed told.header m))
    (SaidSecond (is_some d.bound)) told.header.session x new (Say frame)) token
    (second_said d mid new n told.header m told.token frame law t note (t.chosen ∙ sym chosen) e say)) s)
