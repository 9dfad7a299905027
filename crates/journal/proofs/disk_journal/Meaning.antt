-- Bytes stand for at most one list of bodies, and for none where they break the grammar.
use Rattle.std.proofs.Common.{◌≡◌, ◌≢◌, inl, inr, ℕ, ◌+◌, ◌^◌, ◌<◌, ◌≤◌, List, [], ◌∷◌, ◌++◌, length, take, drop, get_or}
use Rattle.std.proofs.Common.{refl, sym, ◌∙◌, ap, subst, arith, append_assoc, length-append}
use Rattle.std.proofs.lemmas.Bool.{cases_lt}
use Rattle.std.proofs.lemmas.List.{take_at, drop_at, drop-drop, append_cancel_left, get_or_append_left, get_or-take}
use Rattle.spec_wire.specs.messages.Places.{le, number_of}
use Rattle.spec_wire.proofs.messages.Numbers.{number_of-le, length-le}
use Rattle.spec_wire.specs.journal.Grammar.{magic, AllFit}
use Rattle.spec_journal.specs.declared.form.Form.{Form}
use Rattle.spec_journal.specs.declared.form.Form.TheVariants.{Plain, Summed}
use Rattle.spec_journal.specs.Forms.{form_mark, sum_size, form_sum, form_entry, form_opened, form_front, JournalHolds, StandsFor}
use Rattle.spec_journal.specs.Forms.{DiffersAt, IsNoEntry, NoEntryAt, BreaksAt}
use Rattle.journal.proofs.disk_journal.Grown.{length-sum, length-mark, length-entry}
use Rattle.journal.proofs.disk_journal.Lists.{parts}

-- ---- one form

form_one : (f g : Form) (p q bytes : List ℕ) → bytes ≡ form_mark f ++ p → bytes ≡ form_mark g ++ q → f ≡ g
form_one Plain Plain p q bytes one two = refl
form_one Summed Summed p q bytes one two = refl
form_one Plain Summed p q bytes one two =
    let bad : 49 ≡ 50 = ap (λ (l : List ℕ). get_or l 7 0) (sym one ∙ two) in absurd (omega (arith, bad))
form_one Summed Plain p q bytes one two =
    let bad : 50 ≡ 49 = ap (λ (l : List ℕ). get_or l 7 0) (sym one ∙ two) in absurd (omega (arith, bad))

pub same_form : (f g : Form) (a b : List (List ℕ)) (r s bytes : List ℕ) → bytes ≡ form_front f a ++ r → bytes ≡ form_front g b ++ s → g ≡ f
same_form f g a b r s bytes one two =
    sym (form_one f g (form_opened f a ++ r) (form_opened g b ++ s) bytes (one ∙ append_assoc (form_mark f) (form_opened f a) r)
    (two ∙ append_assoc (form_mark g) (form_opened g b) s))

-- ---- entries

-- an entry is split in one way
peel : (form : Form) (x y r s : List ℕ) → length x < 2 ^ 32 → length y < 2 ^ 32 → form_entry form x ++ r ≡ form_entry form y ++ s
    → (x ≡ y) × (r ≡ s)
peel form x y r s small small2 same =
    let lengths = parts (le 4 (length x)) (le 4 (length y)) ((form_sum form x ++ x) ++ r) ((form_sum form y ++ y) ++ s)
    (length-le 4 (length x) ∙ sym (length-le 4 (length y))) (sym (append_assoc (le 4 (length x)) (form_sum form x ++ x) r) ∙ same
    ∙ append_assoc (le 4 (length y)) (form_sum form y ++ y) s) in
    let long : length x ≡ length y = sym (number_of-le 4 (length x) small) ∙ ap number_of lengths.0 ∙ number_of-le 4 (length y) small2 in
    let one : length (form_sum form x ++ x) ≡ length (form_sum form x) + length x = length-append (form_sum form x) x in
    let two : length (form_sum form y ++ y) ≡ length (form_sum form y) + length y = length-append (form_sum form y) y in
    let sums : length (form_sum form x) ≡ length (form_sum form y) = length-sum form x ∙ sym (length-sum form y) in
    let halves = parts (form_sum form x ++ x) (form_sum form y ++ y) r s (omega (arith, one, two, sums, long)) lengths.1 in
    ((parts (form_sum form x) (form_sum form y) x y sums halves.0).1, halves.1)

next : (form : Form) (x y : List ℕ) (a b r s : List ℕ) → length x < 2 ^ 32 → length y < 2 ^ 32 → (1 ∷ (form_entry form x ++ a)) ++ r
    ≡ (1 ∷ (form_entry form y ++ b)) ++ s → (x ≡ y) × (a ++ r ≡ b ++ s)
next form x y a b r s small small2 same =
    let behind : (form_entry form x ++ a) ++ r ≡ (form_entry form y ++ b) ++ s = cc in
    peel form x y (a ++ r) (b ++ s) small small2 (sym (append_assoc (form_entry form x) a r) ∙ behind ∙ append_assoc (form_entry form y) b s)

one_list : (form : Form) (a b : List (List ℕ)) (g h : ℕ) (r s : List ℕ) → AllFit a → AllFit b → g ≢ 1 → h ≢ 1
    → form_opened form a ++ g ∷ r ≡ form_opened form b ++ h ∷ s → a ≡ b
one_list form [] [] g h r s fit fit2 shut shut2 same = refl
one_list form [] (y ∷ b) g h r s fit fit2 shut shut2 same = let is : g ≡ 1 = cc in absurd (shut is)
one_list form (x ∷ a) [] g h r s fit fit2 shut shut2 same = let is : h ≡ 1 = cc in absurd (shut2 is)
one_list form (x ∷ a) (y ∷ b) g h r s fit fit2 shut shut2 same =
    let both = next form x y (form_opened form a) (form_opened form b) (g ∷ r) (h ∷ s) fit.0 fit2.0 same in
    let rest : a ≡ b = one_list form a b g h r s fit.1 fit2.1 shut shut2 both.1 in
    λ i. both.0 i ∷ rest i

-- where an entry stands with a byte behind it, there isn't none
module _ (form : Form) (x a r s : List ℕ) (small : length x < 2 ^ 32) (is : (form_entry form x ++ a) ++ r ≡ s) where
  four : length (le 4 (length x)) ≡ 4
  four = length-le 4 (length x)

  split : s ≡ le 4 (length x) ++ (form_sum form x ++ (x ++ (a ++ r)))
  split = sym is ∙ append_assoc (form_entry form x) a r ∙ append_assoc (le 4 (length x)) (form_sum form x ++ x) (a ++ r)
      ∙ ap (λ (l : List ℕ). le 4 (length x) ++ l) (append_assoc (form_sum form x) x (a ++ r))

  value : number_of (take 4 s) ≡ length x
  value = ap (λ (l : List ℕ). number_of (take 4 l)) split
      ∙ ap number_of (take_at (le 4 (length x)) (form_sum form x ++ (x ++ (a ++ r))) 4 four) ∙ number_of-le 4 (length x) small

  behind_length : drop 4 s ≡ form_sum form x ++ (x ++ (a ++ r))
  behind_length = ap (λ (l : List ℕ). drop 4 l) split ∙ drop_at (le 4 (length x)) (form_sum form x ++ (x ++ (a ++ r))) 4 four

  the_sum : take (sum_size form) (drop 4 s) ≡ form_sum form x
  the_sum = ap (λ (l : List ℕ). take (sum_size form) l) behind_length
      ∙ take_at (form_sum form x) (x ++ (a ++ r)) (sum_size form) (length-sum form x)

  the_body : take (number_of (take 4 s)) (drop (4 + sum_size form) s) ≡ x
  the_body =
      ap (λ (l : List ℕ). take (number_of (take 4 s)) l) (sym (drop-drop (sum_size form) 4 s)
      ∙ ap (λ (l : List ℕ). drop (sum_size form) l) behind_length
      ∙ drop_at (form_sum form x) (x ++ (a ++ r)) (sum_size form) (length-sum form x))
      ∙ ap (λ (k : ℕ). take k (x ++ (a ++ r))) value ∙ take_at x (a ++ r) (length x) refl

  not_none : IsNoEntry form s → 0 < length r → ⊥
  not_none (inl early) some =
      let whole : length ((form_entry form x ++ a) ++ r) ≡ length (form_entry form x ++ a) + length r = length-append (form_entry form x ++ a) r in
      let inner : length (form_entry form x ++ a) ≡ length (form_entry form x) + length a = length-append (form_entry form x) a in
      let same : length ((form_entry form x ++ a) ++ r) ≡ length s = ap length is in
      omega (arith, whole, inner, same, length-entry form x, early, some, value)
  not_none (inr other) some = other (the_sum ∙ sym (ap (λ (l : List ℕ). form_sum form l) the_body))

-- no whole entry stands where none stands
no_list : (form : Form) (a b : List (List ℕ)) (g : ℕ) (r s : List ℕ) → AllFit a → AllFit b → g ≢ 1 → IsNoEntry form s
    → form_opened form a ++ g ∷ r ≡ form_opened form b ++ 1 ∷ s → ⊥
no_list form [] [] g r s fit fit2 shut none same = let is : g ≡ 1 = cc in shut is
no_list form [] (y ∷ b) g r s fit fit2 shut none same = let is : g ≡ 1 = cc in shut is
no_list form (x ∷ a) [] g r s fit fit2 shut none same =
    let behind : (form_entry form x ++ form_opened form a) ++ g ∷ r ≡ s = cc in
    not_none form x (form_opened form a) (g ∷ r) s fit.0 behind none (omega arith)
no_list form (x ∷ a) (y ∷ b) g r s fit fit2 shut none same =
    let both = next form x y (form_opened form a) (form_opened form b) (g ∷ r) (1 ∷ s) fit.0 fit2.0 same in
    no_list form a b g r s fit.1 fit2.1 shut none both.1

behind_mark : (form : Form) (a b : List ℕ) (r s bytes : List ℕ) → bytes ≡ (form_mark form ++ a) ++ r → bytes ≡ (form_mark form ++ b) ++ s
    → a ++ r ≡ b ++ s
behind_mark form a b r s bytes one two =
    append_cancel_left (form_mark form) (a ++ r) (b ++ s) (sym (append_assoc (form_mark form) a r) ∙ sym one ∙ two
    ∙ append_assoc (form_mark form) b s)

holds_long : (bytes : List ℕ) (bodies : List (List ℕ)) → JournalHolds bytes bodies → length bytes ≤ 9 → bodies ≡ []
holds_long bytes [] holds short = refl
holds_long bytes (body ∷ bodies) holds short =
    let form = holds.form in
    let long : length bytes ≡ length (form_front form (body ∷ bodies)) + length (holds.gate ∷ holds.rest) =
    ap length holds.spelled ∙ length-append (form_front form (body ∷ bodies)) (holds.gate ∷ holds.rest) in
    let outer : length (form_front form (body ∷ bodies)) ≡ length (form_mark form) + length (1 ∷ (form_entry form body ++ form_opened form bodies)) =
    length-append (form_mark form) (1 ∷ (form_entry form body ++ form_opened form bodies)) in
    let inner : length (form_entry form body ++ form_opened form bodies) ≡ length (form_entry form body) + length (form_opened form bodies) =
    length-append (form_entry form body) (form_opened form bodies) in
    absurd (omega (arith, long, outer, inner, length-mark form, length-entry form body, short))

pub stands_for_one : (bytes : List ℕ) (a b : List (List ℕ)) → StandsFor bytes a → StandsFor bytes b → a ≡ b
stands_for_one bytes a b (inl short) (inl also) = short.1 ∙ sym also.1
stands_for_one bytes a b (inl short) (inr holds) = short.1 ∙ sym (holds_long bytes b holds short.0)
stands_for_one bytes a b (inr holds) (inl short) = holds_long bytes a holds short.0 ∙ sym short.1
stands_for_one bytes a b (inr one) (inr two) =
    let same = same_form one.form two.form a b (one.gate ∷ one.rest) (two.gate ∷ two.rest) bytes one.spelled two.spelled in
    let there : bytes ≡ form_front one.form b ++ two.gate ∷ two.rest =
    subst (λ (f : Form). bytes ≡ form_front f b ++ two.gate ∷ two.rest) same two.spelled in
    one_list one.form a b one.gate two.gate one.rest two.rest one.fit two.fit one.closed two.closed
    (behind_mark one.form (form_opened one.form a) (form_opened one.form b) (one.gate ∷ one.rest) (two.gate ∷ two.rest) bytes one.spelled there)

differs : (bytes : List ℕ) (bodies : List (List ℕ)) (at : ℕ) → JournalHolds bytes bodies → DiffersAt bytes at → ⊥
differs bytes bodies at holds breaks =
    let form = holds.form in
    let within : at < length (form_mark form) = omega (arith, length-mark form, breaks.within) in
    let same : get_or bytes at 0 ≡ get_or (form_mark form) at 0 =
    ap (λ (l : List ℕ). get_or l at 0) (holds.spelled ∙ append_assoc (form_mark form) (form_opened form bodies) (holds.gate ∷ holds.rest))
    ∙ get_or_append_left (form_mark form) (form_opened form bodies ++ holds.gate ∷ holds.rest) 0 at within in
    breaks.other form same

pub breaks_for_none : (bytes : List ℕ) (bodies : List (List ℕ)) (at : ℕ) → StandsFor bytes bodies → BreaksAt bytes at → ⊥
breaks_for_none bytes bodies at (inl short) breaks = omega (arith, short.0, breaks.0)
breaks_for_none bytes bodies at (inr holds) breaks = elim breaks.1 [
  | inl other ↦ differs bytes bodies at holds other
  | inr none ↦ unheld bytes bodies at holds none
]
  where
    unheld : (bytes : List ℕ) (bodies : List (List ℕ)) (at : ℕ) → JournalHolds bytes bodies → NoEntryAt bytes at → ⊥
    unheld bytes bodies at holds none =
        let same = same_form none.form holds.form none.bodies bodies (1 ∷ none.rest) (holds.gate ∷ holds.rest) bytes none.spelled
        holds.spelled in
        let there : bytes ≡ form_front none.form bodies ++ holds.gate ∷ holds.rest =
        subst (λ (f : Form). bytes ≡ form_front f bodies ++ holds.gate ∷ holds.rest) same holds.spelled in
        no_list none.form bodies none.bodies holds.gate holds.rest none.rest holds.fit none.fit holds.closed none.broken
        (behind_mark none.form (form_opened none.form bodies) (form_opened none.form none.bodies) (holds.gate ∷ holds.rest) (1 ∷ none.rest) bytes
        there none.spelled)

-- two open gates without an entry stand behind the same bodies
one_none : (form : Form) (a b : List (List ℕ)) (r s : List ℕ) → AllFit a → AllFit b → IsNoEntry form r → IsNoEntry form s
    → form_opened form a ++ 1 ∷ r ≡ form_opened form b ++ 1 ∷ s → a ≡ b
one_none form [] [] r s fit fit2 none none2 same = refl
one_none form [] (y ∷ b) r s fit fit2 none none2 same =
    let behind : (form_entry form y ++ form_opened form b) ++ 1 ∷ s ≡ r = cc in
    absurd (not_none form y (form_opened form b) (1 ∷ s) r fit2.0 behind none (omega arith))
one_none form (x ∷ a) [] r s fit fit2 none none2 same =
    let behind : (form_entry form x ++ form_opened form a) ++ 1 ∷ r ≡ s = cc in
    absurd (not_none form x (form_opened form a) (1 ∷ r) s fit.0 behind none2 (omega arith))
one_none form (x ∷ a) (y ∷ b) r s fit fit2 none none2 same =
    let both = next form x y (form_opened form a) (form_opened form b) (1 ∷ r) (1 ∷ s) fit.0 fit2.0 same in
    let rest : a ≡ b = one_none form a b r s fit.1 fit2.1 none none2 both.1 in
    λ i. both.0 i ∷ rest i

not_behind : (bytes : List ℕ) (a b : ℕ) → DiffersAt bytes a → DiffersAt bytes b → a < b → ⊥
not_behind bytes a b one two less =
    one.other Plain (sym (get_or-take b bytes a 0 less) ∙ ap (λ (l : List ℕ). get_or l a 0) two.same ∙ get_or-take b magic a 0 less)

one_difference : (bytes : List ℕ) (a b : ℕ) → DiffersAt bytes a → DiffersAt bytes b → a ≡ b
one_difference bytes a b one two = elim (cases_lt a b) [
  | inl less ↦ absurd (not_behind bytes a b one two less)
  | inr more ↦ elim (cases_lt b a) [
    | inl less ↦ absurd (not_behind bytes b a two one less)
    | inr same ↦ omega arith
  ]
]

marked : (bytes : List ℕ) (a b : ℕ) → DiffersAt bytes a → NoEntryAt bytes b → ⊥
marked bytes a b other none =
    let within : a < length (form_mark none.form) = omega (arith, length-mark none.form, other.within) in
    other.other none.form (ap (λ (l : List ℕ). get_or l a 0) (none.spelled ∙ append_assoc (form_mark none.form) (form_opened none.form none.bodies)
    (1 ∷ none.rest)) ∙ get_or_append_left (form_mark none.form) (form_opened none.form none.bodies ++ 1 ∷ none.rest) 0 a within)

one_end : (bytes : List ℕ) (a b : ℕ) → NoEntryAt bytes a → NoEntryAt bytes b → a ≡ b
one_end bytes a b one two =
    let form_is = same_form one.form two.form one.bodies two.bodies (1 ∷ one.rest) (1 ∷ two.rest) bytes one.spelled two.spelled in
    let spelled : bytes ≡ form_front one.form two.bodies ++ 1 ∷ two.rest =
    subst (λ (f : Form). bytes ≡ form_front f two.bodies ++ 1 ∷ two.rest) form_is two.spelled in
    let broken : IsNoEntry one.form two.rest = subst (λ (f : Form). IsNoEntry f two.rest) form_is two.broken in
    let place : b ≡ length (form_front one.form two.bodies) = subst (λ (f : Form). b ≡ length (form_front f two.bodies)) form_is two.place in
    let same : one.bodies ≡ two.bodies = one_none one.form one.bodies two.bodies one.rest two.rest one.fit two.fit one.broken broken
    (behind_mark one.form (form_opened one.form one.bodies) (form_opened one.form two.bodies) (1 ∷ one.rest) (1 ∷ two.rest) bytes one.spelled
    spelled) in
    one.place ∙ ap (λ (l : List (List ℕ)). length (form_front one.form l)) same ∙ sym place

pub breaks_at_one : (bytes : List ℕ) (a b : ℕ) → BreaksAt bytes a → BreaksAt bytes b → a ≡ b
breaks_at_one bytes a b one two = elim one.1 [
  | inl other ↦ elim two.1 [ inl also ↦ one_difference bytes a b other also | inr none ↦ absurd (marked bytes a b other none) ]
  | inr none ↦ elim two.1 [ inl other ↦ absurd (marked bytes b a other none) | inr also ↦ one_end bytes a b none also ]
]
