-- Entries with open gates between them, behind one gate.
use Rattle.std.proofs.Common.{◌≡◌, ◌⊎◌, inl, inr, ℕ, ◌≤◌, List, [], ◌∷◌, ◌++◌, length, refl, sym, ◌∙◌, ap, append_assoc, arith, length-append, ◌+◌}
use Rattle.std.proofs.Common.{Ok, Err, Result}
use Rattle.std.proofs.lemmas.List.{append-nil}
use Rattle.std.specs.Result.{OnOk}
use Rattle.spec_wire.specs.journal.Grammar.{AllFit}
use Rattle.spec_wire.specs.messages.Places.{le}
use Rattle.spec_wire.proofs.messages.Numbers.{length-le}
use Rattle.spec_journal.specs.declared.form.Form.{Form}
use Rattle.spec_journal.specs.declared.form.Form.TheVariants.{Plain, Summed}
use Rattle.spec_journal.specs.Forms.{form_mark, form_entry, form_opened, form_front, form_sum, StandsFor}
use Rattle.journal.specs.disk_journal.Entry.{IsClosedOrOpened}
use Rattle.journal.specs.disk_journal.Group.{IsGroup}
use Rattle.journal.proofs.disk_journal.Grown.{length-sum, opened-push, stands, zero_shut}

pub sum_short : (form : Form) (body : List ℕ) → length (form_sum form body) ≤ 4
sum_short Plain body = omega arith
sum_short Summed body = omega (arith, length-sum Summed body)

-- an entry and a closed gate, put behind what stands there part by part
pub put_parts : (form : Form) (body old f g h : List ℕ) → f ≡ (old ++ le 4 (length body)) ++ form_sum form body → g ≡ f ++ body
    → h ≡ g ++ 0 ∷ [] → h ≡ old ++ (form_entry form body ++ 0 ∷ [])
put_parts form body old f g h first second last =
    let front : List ℕ = le 4 (length body) in
    let sum : List ℕ = form_sum form body in
    last ∙ ap (λ (l : List ℕ). l ++ 0 ∷ []) (second ∙ ap (λ (l : List ℕ). l ++ body) first
    ∙ append_assoc (old ++ front) sum body ∙ append_assoc old front (sum ++ body))
    ∙ append_assoc old (form_entry form body) (0 ∷ [])

pub head_short : (form : Form) (body old new : List ℕ) → new ≡ (old ++ le 4 (length body)) ++ form_sum form body
    → length new ≤ length old + 8
head_short form body old new is =
    omega (
      arith,
      ap length is,
      length-append (old ++ le 4 (length body)) (form_sum form body),
      length-append old (le 4 (length body)),
      length-le 4 (length body),
      sum_short form body,
    )

pub on_ok : {T E : Type 0} (r : Result T E) (P Q : Type 0) → (P → Q) → OnOk r P → OnOk r Q
on_ok (Ok x) P Q f holds = f holds
on_ok (Err e) P Q f holds = tt

abbrev behind_first : List ℕ → List ℕ
behind_first [] = []
behind_first (x ∷ xs) = xs

-- one entry more
pub one_gathered : (form : Form) (more : List (List ℕ)) (body group opened new : List ℕ) → IsGroup form more group
    → (group ≡ [] → opened ≡ []) → ((front : List ℕ) (last : ℕ) → group ≡ front ++ last ∷ [] → opened ≡ front ++ 1 ∷ [])
    → new ≡ opened ++ (form_entry form body ++ 0 ∷ []) → IsGroup form (more ++ body ∷ []) new
one_gathered form [] body group opened new is none some made =
    ap (λ (l : List ℕ). 1 ∷ l) (made ∙ ap (λ (l : List ℕ). l ++ (form_entry form body ++ 0 ∷ [])) (none is)
    ∙ ap (λ (l : List ℕ). l ++ 0 ∷ []) (sym (append-nil (form_entry form body))))
one_gathered form (b ∷ bs) body group opened new is none some made =
    let front : List ℕ = form_entry form b ++ form_opened form bs in
    let whole : opened ≡ front ++ 1 ∷ [] = some front 0 (ap behind_first is) in
    ap (λ (l : List ℕ). 1 ∷ l) (made ∙ ap (λ (l : List ℕ). l ++ (form_entry form body ++ 0 ∷ [])) whole
    ∙ append_assoc front (1 ∷ []) (form_entry form body ++ 0 ∷ []))
    ∙ opened-push form (b ∷ bs) body (0 ∷ [])

opened_both : (form : Form) (kept more : List (List ℕ)) → form_opened form kept ++ form_opened form more ≡ form_opened form (kept ++ more)
opened_both form [] more = refl
opened_both form (b ∷ kept) more =
    ap (λ (l : List ℕ). 1 ∷ l) (append_assoc (form_entry form b) (form_opened form kept) (form_opened form more)
    ∙ ap (λ (l : List ℕ). form_entry form b ++ l) (opened_both form kept more))

-- a group whose first gate is open belongs to what stands before the gate at its end
pub group_opened : (form : Form) (kept more : List (List ℕ)) (group rest : List ℕ) → 1 ∷ group ≡ form_opened form more ++ 0 ∷ []
    → form_front form kept ++ 1 ∷ (group ++ rest) ≡ form_front form (kept ++ more) ++ 0 ∷ rest
group_opened form kept more group rest is =
    ap (λ (l : List ℕ). form_front form kept ++ (l ++ rest)) is
    ∙ ap (λ (l : List ℕ). form_front form kept ++ l) (append_assoc (form_opened form more) (0 ∷ []) rest)
    ∙ append_assoc (form_mark form) (form_opened form kept) (form_opened form more ++ 0 ∷ rest)
    ∙ ap (λ (l : List ℕ). form_mark form ++ l) (sym (append_assoc (form_opened form kept) (form_opened form more) (0 ∷ rest))
    ∙ ap (λ (l : List ℕ). l ++ 0 ∷ rest) (opened_both form kept more))
    ∙ sym (append_assoc (form_mark form) (form_opened form (kept ++ more)) (0 ∷ rest))

-- what a crash leaves while it is put there: the bodies before, or these and all of the group's
pub group_either : (form : Form) (kept more : List (List ℕ)) (group bytes : List ℕ) → 1 ∷ group ≡ form_opened form more ++ 0 ∷ []
    → AllFit kept → AllFit (kept ++ more) → IsClosedOrOpened (form_front form kept) group bytes
    → StandsFor bytes kept ⊎ StandsFor bytes (kept ++ more)
group_either form kept more group bytes is fit both (inl stays) = inl (inr (stands form kept bytes fit stays))
group_either form kept more group bytes is fit both (inr whole) =
    inr (inr (record {
      form = form;
      gate = 0;
      rest = whole.0;
      spelled = whole.1 ∙ group_opened form kept more group whole.0 is;
      closed = zero_shut;
      fit = both;
    }))
