-- What is heard, in the model.
use Rattle.std.proofs.Common.{◌≡◌, ℕ, ◌<◌, ◌==◌, ◌&&◌, nat_lt, not, Bool, true, false, if◌then◌else◌, List, length}
use Rattle.std.proofs.Common.{Option, Some, None, is_some}
use Rattle.std.proofs.Common.{refl, ap, sym, ◌∙◌, subst, arith}
use Rattle.spec_exchange.specs.Table.{is_at, put, put2}
use Rattle.spec_exchange.specs.State.{Body, Reply}
use Rattle.spec_exchange.specs.Status.{disk_full, success, user_session_deleted, file_not_available}
use Rattle.spec_exchange.specs.Operations.{Op, OpReply, Outcome, NoOpen, NoSlot, Unknown, Unsettled, WasOk, WasRefused, id_in, is_change}
use Rattle.spec_exchange.specs.Operations.{is_close, is_create, is_lock}
use Rattle.spec_exchange.specs.Client.{Client, create_for}
use Rattle.spec_exchange.specs.ClientStep.{CloseChannels, Nothing, act_heard, hear_act, hear_after}
use Rattle.spec_exchange.specs.Settling.{Attaches, EndsSession, GoesAgain, Heard, Settles, answered, hear, heard}
use Rattle.spec_exchange.specs.Settling.{is_awaited, noted, noted_full}
use Rattle.spec_exchange.specs.Settling.{ok_or_unknown, refused, settle, settled, settles_open, with_no_opens}
use Rattle.law_client.proofs.table.Chosen.{is_same}
use Rattle.client_rows.specs.declared.operation_rows.row.Row.{Row}
use Rattle.client_rows.specs.operation_rows.Rows.{owner}
use Rattle.client_rows.specs.open_marks.Marks.{IsHighest}
use Rattle.client_values.specs.outcomes.Hearing.{heard_by}
use Rattle.client_steps.specs.responses.Reading.{response_ends, heard_then}

-- ---- what was answered is as it was heard

twice_by : {X : Type 0} (b : Bool) (v w : X) → (if b then v else (if b then v else w)) ≡ (if b then v else w)
twice_by true v w = refl
twice_by false v w = refl

-- nothing is outstanding of g any more
abbrev quiet : Client → ℕ → Client → Client
quiet c g n = record n { outstanding_on = put c.outstanding_on g None }

twice : (c : Client) (g : ℕ) → put (put c.outstanding_on g None) g None ≡ put c.outstanding_on g None
twice c g = λ t x. (twice_by (x == g) None (c.outstanding_on x)) t

ok_by : (create close : Bool) (c : Client) (g : ℕ) (body : Body)
    → (if create then record (answered c g) { file = put c.file g (id_in body); attached = put c.attached g c.session_number }
    else if close then record (answered c g) { closed_ok = put c.closed_ok (create_for c g) true } else answered c g)
    ≡ quiet c g (if create then record c { file = put c.file g (id_in body); attached = put c.attached g c.session_number }
    else if close then record c { closed_ok = put c.closed_ok (create_for c g) true } else c)
ok_by true close c g body = refl
ok_by false true c g body = refl
ok_by false false c g body = refl

noted_quiet : (c : Client) (g : ℕ) (o : Outcome) (body : Body) → noted (answered c g) g o body ≡ quiet c g (noted c g o body)
noted_quiet c g (WasOk reply) body = ok_by (is_create (c.op g)) (is_close (c.op g)) c g body
noted_quiet c g Unsettled body = refl
noted_quiet c g (WasRefused status) body = refl
noted_quiet c g (NoSlot create) body = refl
noted_quiet c g (NoOpen create) body = refl
noted_quiet c g (Unknown why) body = refl

full_by : (b : Bool) (c n : Client) (g : ℕ)
    → (if b then record (quiet c g n) { full = put2 n.full (create_for n g) (n.slot_of g) true } else quiet c g n)
    ≡ quiet c g (if b then record n { full = put2 n.full (create_for n g) (n.slot_of g) true } else n)
full_by true c n g = refl
full_by false c n g = refl

full_quiet : (c n : Client) (g : ℕ) (asking : Bool) (status : ℕ)
    → noted_full (quiet c g n) g asking status ≡ quiet c g (noted_full n g asking status)
full_quiet c n g asking status = full_by (is_lock (n.op g) && (not asking && (status == disk_full))) c n g

-- noting leaves what is outstanding
out_by : (create close : Bool) (c : Client) (g : ℕ) (body : Body)
    → (if create then record c { file = put c.file g (id_in body); attached = put c.attached g c.session_number }
    else if close then record c { closed_ok = put c.closed_ok (create_for c g) true } else c).outstanding_on ≡ c.outstanding_on
out_by true close c g body = refl
out_by false true c g body = refl
out_by false false c g body = refl

noted_out : (c : Client) (g : ℕ) (o : Outcome) (body : Body) → (noted c g o body).outstanding_on ≡ c.outstanding_on
noted_out c g (WasOk reply) body = out_by (is_create (c.op g)) (is_close (c.op g)) c g body
noted_out c g Unsettled body = refl
noted_out c g (WasRefused status) body = refl
noted_out c g (NoSlot create) body = refl
noted_out c g (NoOpen create) body = refl
noted_out c g (Unknown why) body = refl

full_out_by : (b : Bool) (n : Client) (g : ℕ)
    → (if b then record n { full = put2 n.full (create_for n g) (n.slot_of g) true } else n).outstanding_on ≡ n.outstanding_on
full_out_by true n g = refl
full_out_by false n g = refl

settled_quiet : (c n : Client) (g place : ℕ) (o : Outcome) → n.outstanding_on ≡ c.outstanding_on
    → settled (quiet c g n) g o place ≡ settled n g o place
settled_quiet c n g place o e =
    ap (λ (f : ℕ → Option ℕ). record (settled n g o place) { outstanding_on = f })
    (twice c g ∙ ap (λ (f : ℕ → Option ℕ). put f g None) (sym e))

settle_answered : (c : Client) (g : ℕ) (asking : Bool) (r : Reply) (place : ℕ) (o : Outcome)
    → settle (answered c g) g asking r place o ≡ settle c g asking r place o
settle_answered c g asking r place o =
    let n = noted_full (noted c g o r.body) g asking r.status in
    let e : noted_full (noted (answered c g) g o r.body) g asking r.status ≡ quiet c g n =
    ap (λ (z : Client). noted_full z g asking r.status) (noted_quiet c g o r.body) ∙ full_quiet c (noted c g o r.body) g asking r.status in
    let out : n.outstanding_on ≡ c.outstanding_on =
    full_out_by (is_lock ((noted c g o r.body).op g) && (not asking && (r.status == disk_full))) (noted c g o r.body) g
    ∙ noted_out c g o r.body in
    ap (λ (z : Client). if settles_open (c.op g) then with_no_opens z (create_for c g) else z)
    (ap (λ (z : Client). settled z g o place) e ∙ settled_quiet c n g place o out)

pub heard_so : (c : Client) (g : ℕ) (asking : Bool) (r : Reply) (place : ℕ) (h : Heard)
    → heard_then (answered c g) g asking r place h ≡ hear c g asking r place h
heard_so c g asking r place (Settles o) = settle_answered c g asking r place o
heard_so c g asking r place GoesAgain = refl
heard_so c g asking r place Attaches = refl
heard_so c g asking r place EndsSession = refl

-- ---- of what it says only a success of the operation itself is looked at

alike_by : (response_ends ok asking : Bool) (v w rest : Heard) → (ok ≡ true → asking ≡ false → v ≡ w)
    → (if response_ends then EndsSession else if ok then (if asking then Attaches else v) else rest)
    ≡ (if response_ends then EndsSession else if ok then (if asking then Attaches else w) else rest)
alike_by true ok asking v w rest h = refl
alike_by false false asking v w rest h = refl
alike_by false true true v w rest h = refl
alike_by false true false v w rest h = h refl refl

pub heard_alike : (op : Op) (asking unanswered is_older : Bool) (status : ℕ) (v w : Option OpReply)
    → (status ≡ success → asking ≡ false → v ≡ w)
    → heard_by op asking unanswered is_older status v ≡ heard_by op asking unanswered is_older status w
heard_alike op asking unanswered is_older status v w h =
    alike_by (status == user_session_deleted) (status == success) asking (ok_or_unknown v) (ok_or_unknown w)
    (if not asking && (is_change op && ((status == file_not_available) && is_older)) then GoesAgain
    else refused op asking unanswered status)
    (λ e a. ap (λ z. ok_or_unknown z) (h (is_same status success e) a))

-- ---- whether it is awaited

pub none_awaited : (k : ℕ) (o : Option ℕ) (b : Bool) → (is_some o ≡ true → ⊥) → (is_at k o && b) ≡ false
none_awaited k None b h = refl
none_awaited k (Some j) b h = absurd (h refl)

pub out_of : (k : ℕ) (o : Option ℕ) (b : Bool) → (is_at k o && b) ≡ true → is_some o ≡ true
out_of k None b h = absurd (cc)
out_of k (Some j) b h = refl

-- ---- the whole

pub hears : (c : Client) (k g : ℕ) (asking : Bool) (r : Reply) (place : ℕ) → is_awaited c k g asking ≡ true
    → hear_after c k g asking r place ≡ hear c g asking r place (heard c g asking r)
hears c k g asking r place e = ap (λ b. if b then hear c g asking r place (heard c g asking r) else c) e

pub hears_not : (c : Client) (k g : ℕ) (asking : Bool) (r : Reply) (place : ℕ) → is_awaited c k g asking ≡ false
    → hear_after c k g asking r place ≡ c
hears_not c k g asking r place e = ap (λ b. if b then hear c g asking r place (heard c g asking r) else c) e

act_by : (h : Heard) → act_heard h ≡ (if response_ends h then CloseChannels else Nothing)
act_by (Settles o) = refl
act_by GoesAgain = refl
act_by Attaches = refl
act_by EndsSession = refl

pub act_so : (c : Client) (k g : ℕ) (asking : Bool) (r : Reply) → is_awaited c k g asking ≡ true
    → hear_act c k g asking r ≡ (if response_ends (heard c g asking r) then CloseChannels else Nothing)
act_so c k g asking r e = ap (λ b. if b then act_heard (heard c g asking r) else Nothing) e ∙ act_by (heard c g asking r)

pub act_not : (c : Client) (k g : ℕ) (asking : Bool) (r : Reply) → is_awaited c k g asking ≡ false → hear_act c k g asking r ≡ Nothing
act_not c k g asking r e = ap (λ b. if b then act_heard (heard c g asking r) else Nothing) e

pub not_below : (x n : ℕ) → nat_lt x n ≡ false → x < n → ⊥
not_below x n e l = grind arith

pub not_zero : (x : ℕ) → x ≡ 0 → 0 < x → ⊥
not_zero x e p = omega arith

pub clash : (b : Bool) → b ≡ true → b ≡ false → ⊥
clash b e f = absurd (cc)

-- the highest operation of an open stays so
pub highest_moved : (rows new : List Row) (index last : ℕ) → length new ≡ length rows → ((g : ℕ) → owner new g ≡ owner rows g)
    → IsHighest (owner rows) (λ h. true) (owner rows index) (length rows) last
    → IsHighest (owner new) (λ h. true) (owner new index) (length new) last
highest_moved rows new index last n o i =
    record {
      below = λ p. subst (λ m. last < m) (sym n) (i.below p);
      own = λ p. o last ∙ i.own p ∙ sym (o index);
      is = λ p. refl;
      none = λ h l k e. i.none h l (subst (λ m. h < m) n k) (sym (o h) ∙ e ∙ o index);
    }
