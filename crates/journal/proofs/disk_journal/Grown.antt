-- Bodies in front of one more.
use Rattle.std.proofs.Common.{◌≡◌, inl, inr, ℕ, ◌+◌, ◌^◌, ◌<◌, List, [], ◌∷◌, ◌++◌, length, refl, sym, ◌∙◌, ap, arith}
use Rattle.std.proofs.Common.{append_assoc, length-append, false, true, Ok, Err, Result}
use Rattle.std.proofs.lemmas.List.{append-nil}
use Rattle.std.specs.Result.{IfErr, OnOk, is_err}
use Rattle.spec_journal.specs.Castagnoli.{crc32c}
use Rattle.spec_wire.specs.messages.Places.{le}
use Rattle.spec_wire.proofs.messages.Numbers.{length-le}
use Rattle.spec_wire.specs.journal.Grammar.{magic, entry, opened, front, AllFit, IsClosed}
use Rattle.spec_journal.specs.declared.form.Form.{Form}
use Rattle.spec_journal.specs.declared.form.Form.TheVariants.{Plain, Summed}
use Rattle.spec_journal.specs.Forms.{form_mark, sum_size, form_sum, form_entry, form_opened, form_front, JournalHolds}
use Rattle.journal.specs.disk_journal.Entry.{StaysClosed, IsClosedOrOpened}
use Rattle.journal.specs.disk_journal.Journal.{BeforeOrAfter}

-- ---- lengths

pub length-sum : (form : Form) (body : List ℕ) → length (form_sum form body) ≡ sum_size form
length-sum Plain body = refl
length-sum Summed body = length-le 4 (crc32c (entry body))

pub length-mark : (form : Form) → length (form_mark form) ≡ 8
length-mark Plain = refl
length-mark Summed = refl

pub length-entry : (form : Form) (body : List ℕ) → length (form_entry form body) ≡ 4 + sum_size form + length body
length-entry form body =
    let outer : length (form_entry form body) ≡ length (le 4 (length body)) + length (form_sum form body ++ body) =
    length-append (le 4 (length body)) (form_sum form body ++ body) in
    let inner : length (form_sum form body ++ body) ≡ length (form_sum form body) + length body = length-append (form_sum form body) body in
    let four : length (le 4 (length body)) ≡ 4 = length-le 4 (length body) in
    omega (arith, outer, inner, four, length-sum form body)

-- ---- one body more

pub opened-push : (form : Form) (bodies : List (List ℕ)) (body rest : List ℕ) → form_opened form bodies ++ 1 ∷ (form_entry form body ++ rest)
    ≡ form_opened form (bodies ++ body ∷ []) ++ rest
opened-push form [] body rest = ap (λ (l : List ℕ). 1 ∷ (l ++ rest)) (sym (append-nil (form_entry form body)))
opened-push form (b ∷ bodies) body rest =
    ap (λ (l : List ℕ). 1 ∷ l) (append_assoc (form_entry form b) (form_opened form bodies) (1 ∷ (form_entry form body ++ rest)))
    ∙ ap (λ (l : List ℕ). 1 ∷ (form_entry form b ++ l)) (opened-push form bodies body rest)
    ∙ ap (λ (l : List ℕ). 1 ∷ l) (sym (append_assoc (form_entry form b) (form_opened form (bodies ++ body ∷ [])) rest))

-- an entry whose gate is open belongs to what stands before the next gate
pub front-push : (form : Form) (bodies : List (List ℕ)) (body rest : List ℕ) → form_front form bodies ++ 1 ∷ (form_entry form body ++ rest)
    ≡ form_front form (bodies ++ body ∷ []) ++ rest
front-push form bodies body rest =
    append_assoc (form_mark form) (form_opened form bodies) (1 ∷ (form_entry form body ++ rest))
    ∙ ap (λ (l : List ℕ). form_mark form ++ l) (opened-push form bodies body rest)
    ∙ sym (append_assoc (form_mark form) (form_opened form (bodies ++ body ∷ [])) rest)

pub length-front-push : (form : Form) (bodies : List (List ℕ)) (body : List ℕ) → length (form_front form (bodies ++ body ∷ []))
    ≡ length (form_front form bodies) + 5 + sum_size form + length body
length-front-push form bodies body =
    let sizes : length (form_front form bodies ++ 1 ∷ (form_entry form body ++ [])) ≡ length (form_front form (bodies ++ body ∷ []) ++ []) =
    ap length (front-push form bodies body []) in
    let left : length (form_front form bodies ++ 1 ∷ (form_entry form body ++ [])) ≡ length (form_front form bodies) + length
    (1 ∷ (form_entry form body ++ [])) = length-append (form_front form bodies) (1 ∷ (form_entry form body ++ [])) in
    let middle : length (form_entry form body ++ []) ≡ length (form_entry form body) = ap length (append-nil (form_entry form body)) in
    let inner : length (form_entry form body) ≡ 4 + sum_size form + length body = length-entry form body in
    let right : length (form_front form (bodies ++ body ∷ []) ++ []) ≡ length (form_front form (bodies ++ body ∷ [])) =
    ap length (append-nil (form_front form (bodies ++ body ∷ []))) in
    omega (arith, sizes, left, middle, inner, right)

-- ---- without checksums

plain_opened : (bodies : List (List ℕ)) → opened bodies ≡ form_opened Plain bodies
plain_opened [] = refl
plain_opened (b ∷ bodies) = ap (λ (l : List ℕ). 1 ∷ (entry b ++ l)) (plain_opened bodies)

plain_front : (bodies : List (List ℕ)) → front bodies ≡ form_front Plain bodies
plain_front bodies = ap (λ (l : List ℕ). magic ++ l) (plain_opened bodies)

pub length-plain-push : (bodies : List (List ℕ)) (body : List ℕ) → length (front (bodies ++ body ∷ []))
    ≡ length (front bodies) + 5 + length body
length-plain-push bodies body =
    let more : length (front (bodies ++ body ∷ [])) ≡ length (form_front Plain (bodies ++ body ∷ [])) =
    ap length (plain_front (bodies ++ body ∷ [])) in
    let now : length (front bodies) ≡ length (form_front Plain bodies) = ap length (plain_front bodies) in
    let step : length (form_front Plain (bodies ++ body ∷ [])) ≡ length (form_front Plain bodies) + 5 + 0 + length body =
    length-front-push Plain bodies body in
    omega (arith, more, now, step)

pub all_fit_push : (bodies : List (List ℕ)) (body : List ℕ) → AllFit bodies → length body < 2 ^ 32 → AllFit (bodies ++ body ∷ [])
all_fit_push [] body fit small = (small, tt)
all_fit_push (b ∷ bodies) body fit small = (fit.0, all_fit_push bodies body fit.1 small)

-- a gate that stays closed behind these bodies
pub stands : (form : Form) (bodies : List (List ℕ)) (bytes : List ℕ) → AllFit bodies → StaysClosed (form_front form bodies) bytes
    → JournalHolds bytes bodies
stands form bodies bytes fit stays = record {
  form = form;
  gate = stays.gate;
  rest = stays.rest;
  spelled = stays.file;
  closed = stays.closed;
  fit = fit;
}

pub zero_shut : IsClosed 0
zero_shut = omega arith

-- an entry with its closed gate, and what stands behind that
pub pushed : (form : Form) (bodies : List (List ℕ)) (body rest : List ℕ) (last : ℕ)
    → form_front form bodies ++ 1 ∷ ((form_entry form body ++ last ∷ []) ++ rest) ≡ form_front form (bodies ++ body ∷ []) ++ last ∷ rest
pushed form bodies body rest last =
    ap (λ (l : List ℕ). form_front form bodies ++ 1 ∷ l) (append_assoc (form_entry form body) (last ∷ []) rest)
    ∙ front-push form bodies body (last ∷ rest)

-- a gate that is closed, or open before a whole entry
pub either : (form : Form) (bodies : List (List ℕ)) (body bytes : List ℕ) (last : ℕ) → IsClosed last → AllFit bodies → length body < 2 ^ 32
    → IsClosedOrOpened (form_front form bodies) (form_entry form body ++ last ∷ []) bytes → BeforeOrAfter bodies body bytes
either form bodies body bytes last closed fit small (inl stays) = inl (inr (stands form bodies bytes fit stays))
either form bodies body bytes last closed fit small (inr whole) =
    inr (inr (record {
      form = form;
      gate = last;
      rest = whole.0;
      spelled = whole.1 ∙ pushed form bodies body whole.0 last;
      closed = closed;
      fit = all_fit_push bodies body fit small;
    }))

pub ok_part : {T E : Type 0} (r : Result T E) (P : Type 0) → is_err r ≡ false → OnOk r P → P
ok_part (Ok x) P ok holds = holds
ok_part (Err e) P ok holds = absurd (cc ok)

pub no_err : {T E : Type 0} (r : Result T E) → is_err r ≡ true → IfErr r (λ e. ⊥) → ⊥
no_err (Ok x) failed never = absurd (cc failed)
no_err (Err e) failed never = never
