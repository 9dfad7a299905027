-- The response to TREE_CONNECT, which opens where the line seals.
use Rattle.std.proofs.Common.{◌≡◌, ℕ, ◌-◌, ◌<◌, ◌^◌, Bool, true, false, if◌then◌else◌, List, length, drop, Option, Some, None, Result}
use Rattle.std.proofs.Common.{Ok, Err, IfOk, refl, sym, ap, subst, ◌∙◌, arith, length-drop}
use Rattle.spec_exchange.specs.Client.{AskedTree}
use Rattle.wire_bytes.specs.declared.session_messages.refusal.Refusal.TheVariants as refusals
use Rattle.spec_crypto.specs.declared.sessions.error.SealError.{SealError}
use Rattle.spec_crypto.specs.declared.sessions.error.SealError.TheVariants as seals
use Rattle.spec_crypto.specs.declared.sessions.material.Keys.{Keys}
use Rattle.spec_crypto.specs.sessions.Sealing.{frame_fault, if_given, if_whole, key_for, opened, shown, tag_is_right, unsealed, unsealed_by}
use Rattle.crypto_sessions.specs.session_keys.Unsealing.{Unseals}
use Rattle.law_crypto.proofs.sealing.Frames.{ciphertext_length}
use Rattle.spec_wire.specs.messages.Places.{bytes_at}
use Rattle.spec_wire.specs.declared.messages.header.Header.{Header}
use Rattle.spec_world.specs.Ends.{ClientEnd}
use Rattle.spec_world.specs.Messages.{HeardMessage}
use Rattle.spec_world.specs.Dialog.{dialog_response, paid_in, response_in}
use Rattle.client_ends.specs.declared.ends.dialog.Dialog.{Dialog}
use Rattle.client_ends.specs.declared.ends.dialog.Stage.TheVariants as stages
use Rattle.client_ends.specs.declared.ends.line.Line.{Line}
use Rattle.client_ends.specs.ends.Shown.{EndKeeps, ShowsLine, ShowsSeals, EndShowsTalk}
use Rattle.client_ends.specs.response_faults.Judging.{JudgesTree}
use Rattle.client_ends.specs.dialog_calls.Ending.{IsLacking}
use Rattle.client_ends.specs.dialog_calls.Turning.{DialogHears, HearsMessage, IsDialogRefused}
use Rattle.client_ends.specs.declared.dialog_calls.heard.Heard.{Heard}
use Rattle.client_ends.specs.declared.dialog_calls.heard.Heard.TheVariants.{Ready}
use Rattle.client_ends.proofs.dialog_calls.Behind.{paid_turn}
use Rattle.client_ends.proofs.dialog_calls.Lines.{paid_line}

pub tree_turn : (d new : Dialog) (mid : Line) (n : ClientEnd) (number : ℕ) (head : Header) (m : List ℕ) (h : Heard) → ShowsLine d.line n
    → JudgesTree d.config n m (Ok head) → EndShowsTalk mid (paid_in n head) → EndKeeps d.line mid → h ≡ Ready mid d.session head.tree
    → new.stage ≡ stages.Over → HearsMessage AskedTree d n (response_in (Some m)) number new h
tree_turn d new mid n number head m h s j paid keeps told stage =
    subst (λ (x : Heard). HearsMessage AskedTree d n (response_in (Some m)) number new x) (sym told)
    (paid_turn AskedTree d new n m number head (Ready mid d.session head.tree) j.1.0 j.1.1 j.0 refl
    (paid_line d.line mid n head s paid keeps, refl, refl, stage))

-- ---- the message in its frame

pub plain_heard : (d new : Dialog) (n : ClientEnd) (number : ℕ) (frame : List ℕ) (h : Heard) → n.encrypts ≡ false
    → HearsMessage AskedTree d n (response_in (Some frame)) number new h → DialogHears AskedTree d n frame number new h
plain_heard d new n number frame h e r =
    subst (λ (b : Bool). HearsMessage AskedTree d n (response_in (if b then opened n.keys false frame else Some frame)) number new h)
    (sym e) r

pub opened_as : (n : ClientEnd) (keys : Keys) (frame text : List ℕ) → n.encrypts ≡ true → n.keys ≡ keys
    → unsealed keys false frame ≡ Ok text → dialog_response n AskedTree frame ≡ response_in (Some text)
opened_as n keys frame text on same u =
    ap (λ (b : Bool). response_in (if b then opened n.keys false frame else Some frame)) on
    ∙ (ap (λ (k : Keys). response_in (opened k false frame)) same
    ∙ ap (λ (r : Result (List ℕ) SealError). response_in (if_given r)) u)

unopened : (n : ClientEnd) (keys : Keys) (frame : List ℕ) (why : SealError) → n.encrypts ≡ true → n.keys ≡ keys
    → unsealed keys false frame ≡ Err why → dialog_response n AskedTree frame ≡ None
unopened n keys frame why on same u =
    ap (λ (b : Bool). response_in (if b then opened n.keys false frame else Some frame)) on
    ∙ (ap (λ (k : Keys). response_in (opened k false frame)) same
    ∙ ap (λ (r : Result (List ℕ) SealError). response_in (if_given r)) u)

is_due : (due : Result (List ℕ) SealError) (why : SealError) → Unseals due (Err why) → IsLacking why false → due ≡ Err why
is_due due seals.Memory u l = absurd cc
is_due due seals.NotSealed u l = u
is_due due (seals.BadSize size) u l = u
is_due due (seals.OtherSession session) u l = u
is_due due seals.BadTag u l = u

none_heard : (d new : Dialog) (n : ClientEnd) (number : ℕ) (frame : List ℕ) (h : Heard) → dialog_response n AskedTree frame ≡ None
    → IsDialogRefused refusals.BadToken new h → DialogHears AskedTree d n frame number new h
none_heard d new n number frame h e r =
    subst (λ (o : Option HeardMessage). HearsMessage AskedTree d n o number new h) (sym e) (refusals.BadToken, refl, r)

pub unopened_turn : {E : Type 0} (d new : Dialog) (n : ClientEnd) (number : ℕ) (frame : List ℕ) (why : SealError) (r : Result Heard E)
    → ShowsSeals d.line n → d.line.encrypts ≡ true → Unseals (unsealed d.line.keys false frame) (Err why)
    → IfOk r (λ h. IsDialogRefused refusals.BadToken new h) → IfOk r (λ h. IsLacking why false)
    → IfOk r (λ h. DialogHears AskedTree d n frame number new h)
unopened_turn d new n number frame why (Ok h) s on u refused lacks =
    none_heard d new n number frame h
    (unopened n d.line.keys frame why (s.encrypts ∙ on) s.keys (is_due (unsealed d.line.keys false frame) why u lacks)) refused
unopened_turn d new n number frame why (Err e) s on u refused lacks = tt

-- ---- what opens isn't longer than its frame

from_whole : (fault : Option SealError) (right : Bool) (text given : List ℕ)
    → if_whole fault (if right then Ok text else Err seals.BadTag) ≡ Ok given → text ≡ given
from_whole (Some why) right text given e = absurd cc
from_whole None true text given e = cc
from_whole None false text given e = absurd cc

pub text_short : (keys : Keys) (frame text : List ℕ) → unsealed keys false frame ≡ Ok text → length frame < 2 ^ 60 → length text < 2 ^ 60
unfolding unsealed_by
text_short keys frame text u short =
    let hidden = bytes_at 16 frame 20 in
    let key = key_for keys false in
    let same : shown keys.cipher key frame ≡ text =
    from_whole (frame_fault keys.session frame) (tag_is_right keys.cipher key frame) (shown keys.cipher key frame) text u in
    let size : length (shown keys.cipher key frame) ≡ length (drop 52 frame) = ciphertext_length keys.cipher key hidden (drop 52 frame) in
    let less = length-drop 52 frame in
    subst (λ (x : List ℕ). length x < 2 ^ 60) same (omega (arith, size, less, short))
