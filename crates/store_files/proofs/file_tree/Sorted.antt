-- Names in ascending order of their keys, and two lists of such names.
use Rattle.std.proofs.Common.{◌≡◌, ℕ, Bool, true, false, if◌then◌else◌, List, [], ◌∷◌}
use Rattle.std.proofs.Common.{Option, Some, None, refl, sym, ap, ◌∙◌}
use Rattle.std.specs.Bool.{⊤}
use Rattle.std.proofs.lemmas.Cmp.{nat_list_cmp_total}
use Rattle.std.specs.declared.cmp.Ordering.{Ordering}
use Rattle.std.specs.declared.cmp.Ordering.TheVariants.{Less, Equal, Greater}
use Rattle.std.specs.Ordering.{is_eq, nat_cmp, ordering_reverse}
use Rattle.std.specs.Str.{bytes_eq}
use Rattle.std.specs.Cmp.Lexicographic.{slice_cmp, nat_list_eq_equiv}
use Rattle.std.proofs.lemmas.Map.Text.{is_eq-slice_cmp}
use Rattle.spec_exchange.specs.State.{Named}
use Rattle.store_files.specs.file_tree.Shown.{folded}
use Rattle.store_files.proofs.file_tree.Entries.{bytes_same}

abbrev pub key_cmp : List ℕ → List ℕ → Ordering
key_cmp a b = slice_cmp nat_cmp a b

abbrev pub key_of : Named → List ℕ
key_of n = folded n.name

-- the name with a key
unfoldable pub named : List Named → List ℕ → Option Named
named [] k = None
named (n ∷ ns) k = if bytes_eq (key_of n) k then Some n else named ns k

-- a key stands before those of all names
abbrev pub AllAfter : List ℕ → List Named → Type 0
AllAfter k [] = ⊤
AllAfter k (n ∷ ns) = (key_cmp k (key_of n) ≡ Less) × AllAfter k ns

abbrev pub Ascends : List Named → Type 0
Ascends [] = ⊤
Ascends (n ∷ ns) = AllAfter (key_of n) ns × Ascends ns

itself : (k : List ℕ) → key_cmp k k ≡ Equal
itself k = by (key_cmp k k) refl
  where
    eq : is_eq (key_cmp k k) ≡ true
    eq = is_eq-slice_cmp k k ∙ nat_list_eq_equiv.refl k

    by : (o : Ordering) → key_cmp k k ≡ o → o ≡ Equal
    by Less e = absurd (let x = ap is_eq e in let y = eq in cc)
    by Equal e = refl
    by Greater e = absurd (let x = ap is_eq e in let y = eq in cc)

pub less_after : (a b : List ℕ) (ns : List Named) → key_cmp a b ≡ Less → AllAfter b ns → AllAfter a ns
less_after a b [] e h = tt
less_after a b (n ∷ ns) e h = (nat_list_cmp_total.trans a b (key_of n) e h.0, less_after a b ns e h.1)

pub none_before : (k : List ℕ) (ns : List Named) → AllAfter k ns → named ns k ≡ None
unfolding named
none_before k [] h = refl
none_before k (n ∷ ns) h = by (bytes_eq (key_of n) k) refl (none_before k ns h.1)
  where
    by : (b : Bool) → bytes_eq (key_of n) k ≡ b → named ns k ≡ None → (if b then Some n else named ns k) ≡ None
    by false e t = t
    by true e t =
        let same = bytes_same (key_of n) k e in
        let x = ap (λ (q : List ℕ). key_cmp k q) same in
        let y = itself k in
        let z = h.0 in
        absurd (cc)

first_named : (n : Named) (ns : List Named) → named (n ∷ ns) (key_of n) ≡ Some n
unfolding named
first_named n ns = rw (nat_list_eq_equiv.refl (key_of n)) refl

other_named : (n : Named) (ns : List Named) (k : List ℕ) → bytes_eq (key_of n) k ≡ false → named (n ∷ ns) k ≡ named ns k
unfolding named
other_named n ns k e = rw e refl

-- ascending lists that have the same name for each key are the same
pub same_names : (xs ys : List Named) → Ascends xs → Ascends ys → ((k : List ℕ) → named xs k ≡ named ys k) → xs ≡ ys
same_names [] [] a b h = refl
same_names [] (y ∷ ys) a b h = absurd (let x = h (key_of y) ∙ first_named y ys in let e = none_before (key_of y) [] tt in cc)
same_names (x ∷ xs) [] a b h = absurd (let y = sym (h (key_of x)) ∙ first_named x xs in let e = none_before (key_of x) [] tt in cc)
same_names (x ∷ xs) (y ∷ ys) a b h = by (key_cmp (key_of x) (key_of y)) refl (λ t. same_names xs ys a.1 b.1 t)
  where
    turned : key_cmp (key_of x) (key_of y) ≡ Greater → key_cmp (key_of y) (key_of x) ≡ Less
    turned e = other (key_cmp (key_of y) (key_of x)) refl (sym (nat_list_cmp_total.antisymm (key_of x) (key_of y)) ∙ e)
      where
        other : (o : Ordering) → key_cmp (key_of y) (key_of x) ≡ o → ordering_reverse o ≡ Greater → o ≡ Less
        other Less i r = refl
        other Equal i r = absurd (cc)
        other Greater i r = absurd (cc)

    first : key_cmp (key_of x) (key_of y) ≡ Less → Some x ≡ None
    first e = sym (first_named x xs) ∙ (h (key_of x) ∙ none_before (key_of x) (y ∷ ys) (e, less_after (key_of x) (key_of y) ys e b.0))

    second : key_cmp (key_of y) (key_of x) ≡ Less → Some y ≡ None
    second e = sym (first_named y ys)
        ∙ (sym (h (key_of y)) ∙ none_before (key_of y) (x ∷ xs) (e, less_after (key_of y) (key_of x) xs e a.0))

    both : key_of x ≡ key_of y → (((k : List ℕ) → named xs k ≡ named ys k) → xs ≡ ys) → x ∷ xs ≡ y ∷ ys
    both e more =
        let same : x ≡ y = (let s = sym (first_named x xs) ∙ (h (key_of x) ∙ (ap (named (y ∷ ys)) e ∙ first_named y ys)) in cc) in
        let tails = more (λ k. tail k (bytes_eq (key_of x) k) refl e) in
        cc
      where
        tail : (k : List ℕ) (c : Bool) → bytes_eq (key_of x) k ≡ c → key_of x ≡ key_of y → named xs k ≡ named ys k
        tail k true i e =
            let s = bytes_same (key_of x) k i in
            ap (named xs) (sym s) ∙ (none_before (key_of x) xs a.0 ∙ sym (ap (named ys) (sym s ∙ e) ∙ none_before (key_of y) ys b.0))
        tail k false i e = sym (other_named x xs k i) ∙ (h k ∙ other_named y ys k (ap (λ (q : List ℕ). bytes_eq q k) (sym e) ∙ i))

    by : (o : Ordering) → key_cmp (key_of x) (key_of y) ≡ o → (((k : List ℕ) → named xs k ≡ named ys k) → xs ≡ ys) → x ∷ xs ≡ y ∷ ys
    by Less e more = absurd (let z = first e in cc)
    by Equal e more = both (bytes_same (key_of x) (key_of y) (sym (is_eq-slice_cmp (key_of x) (key_of y)) ∙ ap is_eq e)) more
    by Greater e more = absurd (let z = second (turned e) in cc)
