-- What a client makes of a reply hangs on its status, its ids, its value and its open alone.
use Rattle.std.proofs.Common.{◌≡◌, ℕ, ◌==◌, Bool, true, false, not, ◌&&◌, if◌then◌else◌}
use Rattle.std.proofs.Common.{refl, sym, ap, ◌∙◌}
use Rattle.spec_exchange.specs.Table.{put}
use Rattle.spec_exchange.specs.Status.{success, user_session_deleted, object_name_not_found}
use Rattle.spec_exchange.specs.State.{Body, Reply}
use Rattle.spec_exchange.specs.Operations.{Op, OpCreate, OpWrite, OpRead, OpEnd, OpTime, OpRename, OpRemove, OpLock, OpUnlock}
use Rattle.spec_exchange.specs.Operations.{OpFlush, OpStat, OpList, OpClose, Outcome, Unsettled, WasOk, WasRefused, NoSlot, NoOpen}
use Rattle.spec_exchange.specs.Operations.{Unknown, WithStatus, IsDone, is_create, is_close, value_in, id_in}
use Rattle.spec_exchange.specs.Client.{Client, create_for}
use Rattle.spec_exchange.specs.Settling.{Heard, Settles, GoesAgain, Attaches, EndsSession, ok_or_unknown, refuses_all, was_closed}
use Rattle.spec_exchange.specs.Settling.{may_have_acted, refused, goes_again, heard, noted, noted_full, settled, settle, settles_open}
use Rattle.spec_exchange.specs.Settling.{with_no_opens, hear, is_awaited}
use Rattle.spec_exchange.specs.ClientStep.{Nothing, act_heard}
use Rattle.spec_exchange.specs.Network.{World as Values, closed_by, with_client, op_took}

either : {X : Type 0} (P : X → Type 0) (b : Bool) (x y : X) → (b ≡ true → P x) → (b ≡ false → P y) → P (if b then x else y)
either P true x y f g = f refl
either P false x y f g = g refl

front_of : (a b : Bool) → (a && b) ≡ true → a ≡ true
front_of true b e = refl
front_of false b e = e

-- ---- an operation's own reply

pub record Alike (op : Op) (r s : Reply) : Type 0 where
  pub status : r.status ≡ s.status
  pub value : value_in op r.body ≡ value_in op s.body
  pub id : id_in r.body ≡ id_in s.body

heard_alike : (c : Client) (g : ℕ) (r s : Reply) → Alike (c.op g) r s → heard c g false r ≡ heard c g false s
heard_alike c g r s a =
    ap (λ n. if n == user_session_deleted then EndsSession else if n == success then ok_or_unknown (value_in (c.op g) r.body)
    else if goes_again c g false n then GoesAgain else refused (c.op g) false (c.unanswered g) n) a.status
    ∙ ap (λ v. if s.status == user_session_deleted then EndsSession else if s.status == success then ok_or_unknown v
    else if goes_again c g false s.status then GoesAgain else refused (c.op g) false (c.unanswered g) s.status) a.value

noted_alike : (c : Client) (g : ℕ) (o : Outcome) (x y : Body) → id_in x ≡ id_in y → noted c g o x ≡ noted c g o y
noted_alike c g Unsettled x y e = refl
noted_alike c g (WasOk reply) x y e =
    ap (λ i. if is_create (c.op g) then record c { file = put c.file g i; attached = put c.attached g c.session_number }
    else if is_close (c.op g) then record c { closed_ok = put c.closed_ok (create_for c g) true } else c) e
noted_alike c g (WasRefused status) x y e = refl
noted_alike c g (NoSlot create) x y e = refl
noted_alike c g (NoOpen create) x y e = refl
noted_alike c g (Unknown why) x y e = refl

-- behind what is noted, the status alone
settled_with : Client → ℕ → Bool → ℕ → Outcome → ℕ → Client → Client
settled_with c g asking place o status d =
    let e = settled (noted_full d g asking status) g o place in if settles_open (c.op g) then with_no_opens e (create_for c g) else e

settle_alike : (c : Client) (g : ℕ) (asking : Bool) (r s : Reply) (place : ℕ) (o : Outcome) → r.status ≡ s.status
    → noted c g o r.body ≡ noted c g o s.body → settle c g asking r place o ≡ settle c g asking s place o
unfolding settled_with
settle_alike c g asking r s place o status same =
    ap (settled_with c g asking place o r.status) same
    ∙ ap (λ n. settled_with c g asking place o n (noted c g o s.body)) status

hear_alike : (c : Client) (g : ℕ) (r s : Reply) (place : ℕ) (h : Heard) → Alike (c.op g) r s
    → hear c g false r place h ≡ hear c g false s place h
hear_alike c g r s place (Settles o) a = settle_alike c g false r s place o a.status (noted_alike c g o r.body s.body a.id)
hear_alike c g r s place GoesAgain a = refl
hear_alike c g r s place Attaches a = refl
hear_alike c g r s place EndsSession a = refl

took_with : Values → ℕ → ℕ → Bool → Heard → Client → Values
took_with v k g asking h d =
    with_client (closed_by v k (if is_awaited v.client k g asking then act_heard h else Nothing))
    (if is_awaited v.client k g asking then d else v.client)

pub op_alike : (v : Values) (k g : ℕ) (r s : Reply) (place : ℕ) → Alike (v.client.op g) r s
    → op_took v k g false r place ≡ op_took v k g false s place
unfolding took_with
op_alike v k g r s place a =
    ap (λ h. took_with v k g false h (hear v.client g false r place h)) (heard_alike v.client g r s a)
    ∙ ap (took_with v k g false (heard v.client g false s)) (hear_alike v.client g r s place (heard v.client g false s) a)

-- ---- the reply to a DH2C in an operation's place: its status alone

no_create : (op : Op) → is_close op ≡ true → is_create op ≡ false
no_create (OpCreate path access share disposition persist directory) e = absurd (let h : false ≡ true = e in cc)
no_create (OpWrite create at bytes) e = refl
no_create (OpRead create at size) e = refl
no_create (OpEnd create size) e = refl
no_create (OpTime create time) e = refl
no_create (OpRename create path) e = refl
no_create (OpRemove create) e = refl
no_create (OpLock create at n exclusive) e = refl
no_create (OpUnlock create at n) e = refl
no_create (OpFlush create) e = refl
no_create (OpStat create) e = refl
no_create (OpList create) e = refl
no_create (OpClose create) e = refl

closed_noted : (c : Client) (g : ℕ) (x y : Body) → is_create (c.op g) ≡ false → noted c g (WasOk IsDone) x ≡ noted c g (WasOk IsDone) y
closed_noted c g x y e =
    let rest = if is_close (c.op g) then record c { closed_ok = put c.closed_ok (create_for c g) true } else c in
    let opened = λ (body : Body). record c { file = put c.file g (id_in body); attached = put c.attached g c.session_number } in
    ap (λ b. if b then opened x else rest) e ∙ sym (ap (λ b. if b then opened y else rest) e)

-- what is left of a refusal's cases
abbrev last_cases : Op → ℕ → Heard
last_cases op n = if refuses_all op n then Settles (WasRefused n) else Settles (Unknown (WithStatus n))

abbrev later_cases : Op → ℕ → Heard
later_cases op n = if may_have_acted op true n then Settles (Unknown (WithStatus n)) else last_cases op n

abbrev closed_cases : Op → ℕ → Heard
closed_cases op n = if was_closed op true n then Settles (WasOk IsDone) else later_cases op n

abbrev AskedAlike : Client → ℕ → Reply → Reply → ℕ → Heard → Type 0
AskedAlike c g r s place h = hear c g true r place h ≡ hear c g true s place h

asked_refused : (c : Client) (g : ℕ) (r s : Reply) (place : ℕ) (unanswered : Bool) → r.status ≡ s.status
    → AskedAlike c g r s place (refused (c.op g) true unanswered s.status)
asked_refused c g r s place unanswered e =
    let P = AskedAlike c g r s place in
    let n = s.status in
    let op = c.op g in
    let was = settle_alike c g true r s place (WasRefused n) e refl in
    let unknown = settle_alike c g true r s place (Unknown (WithStatus n)) e refl in
    either P (not unanswered) (Settles (WasRefused n)) (closed_cases op n) (λ _. was)
    (λ _. either P (was_closed op true n) (Settles (WasOk IsDone)) (later_cases op n)
    (λ closed. settle_alike c g true r s place (WasOk IsDone) e
    (closed_noted c g r.body s.body (no_create op (front_of (is_close op) (n == object_name_not_found) closed))))
    (λ _. either P (may_have_acted op true n) (Settles (Unknown (WithStatus n))) (last_cases op n) (λ _. unknown)
    (λ _. either P (refuses_all op n) (Settles (WasRefused n)) (Settles (Unknown (WithStatus n))) (λ _. was) (λ _. unknown))))

asked_hears : (c : Client) (g : ℕ) (r s : Reply) (place : ℕ) → r.status ≡ s.status → AskedAlike c g r s place (heard c g true s)
asked_hears c g r s place e =
    let P = AskedAlike c g r s place in
    let n = s.status in
    let last = refused (c.op g) true (c.unanswered g) n in
    let later = if goes_again c g true n then GoesAgain else last in
    either P (n == user_session_deleted) EndsSession (if n == success then Attaches else later) (λ _. refl)
    (λ _. either P (n == success) Attaches later (λ _. refl)
    (λ _. either P (goes_again c g true n) GoesAgain last (λ _. refl) (λ _. asked_refused c g r s place (c.unanswered g) e)))

asked_heard : (c : Client) (g : ℕ) (r s : Reply) → r.status ≡ s.status → heard c g true r ≡ heard c g true s
asked_heard c g r s e =
    ap (λ n. if n == user_session_deleted then EndsSession else if n == success then Attaches
    else if goes_again c g true n then GoesAgain else refused (c.op g) true (c.unanswered g) n) e

pub asked_alike : (v : Values) (k g : ℕ) (r s : Reply) (place : ℕ) → r.status ≡ s.status
    → op_took v k g true r place ≡ op_took v k g true s place
unfolding took_with
asked_alike v k g r s place e =
    ap (λ h. took_with v k g true h (hear v.client g true r place h)) (asked_heard v.client g r s e)
    ∙ ap (took_with v k g true (heard v.client g true s)) (asked_hears v.client g r s place e)
