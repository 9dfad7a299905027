-- Marks behind one operation more, and lists that go on.
use Rattle.std.proofs.Common.{◌≡◌, ℕ, ◌+◌, ◌-◌, ◌<◌, ◌≤◌, Bool, true, false, if◌then◌else◌, List, [], ◌∷◌, ◌++◌, length, get_or}
use Rattle.std.proofs.Common.{refl, ap, sym, ◌∙◌, arith, subst, ◌⊎◌, inl, inr, Result, Ok, Err, OnOk, OnErr}
use Rattle.std.proofs.lemmas.Grind.{common_steps}
use Rattle.base_lists.specs.range_index.Tops.{RangeGoesOn, IsTop, RangeLists}
use Rattle.client_rows.specs.open_marks.Marks.{MarkAdds, AllTold, IsHighest, IsIn, ListsHolders, MarkTold}

below_or_not : (i n : ℕ) → (i < n) ⊎ (n ≤ i)
below_or_not i n = grind arith

pub highest_more : (o : ℕ → ℕ) (such : ℕ → Bool) (create n m m2 : ℕ) (test : Bool) → IsHighest o such create n m
    → o n ≡ create → such n ≡ test → m2 ≡ (if test then n else m) → IsHighest o such create (n + 1) m2
highest_more o such create n m m2 true i own s e =
    subst (λ z. IsHighest o such create (n + 1) z) (sym e) (record {
      below = λ p. omega arith;
      own = λ p. own;
      is = λ p. s;
      none = λ h a b c. absurd (omega arith);
    })
highest_more o such create n m m2 false i own s e =
    subst (λ z. IsHighest o such create (n + 1) z) (sym e) (record {
      below = λ p. (let l = i.below p in omega arith);
      own = i.own;
      is = i.is;
      none = λ h a b c. (
          elim (below_or_not h n) as (λ _. such h ≡ false) [
            | inl q ↦ i.none h a q c
            | inr q ↦ (let r : h ≡ n = omega arith in ap such r ∙ s)
          ]
          );
    })

-- one more on another open
pub highest_other : (o : ℕ → ℕ) (such : ℕ → Bool) (create n m : ℕ) → IsHighest o such create n m → (o n ≡ create → ⊥)
    → IsHighest o such create (n + 1) m
highest_other o such create n m i apart =
    record {
      below = λ p. (let l = i.below p in omega arith);
      own = i.own;
      is = i.is;
      none = λ h a b c. (
          elim (below_or_not h n) as (λ _. such h ≡ false) [
            | inl q ↦ i.none h a q c
            | inr q ↦ absurd (let r : h ≡ n = omega arith in apart (ap o (sym r) ∙ c))
          ]
          );
    }

-- ---- lists

pub adds_none : (such : ℕ → Type 0) (xs : List ℕ) → MarkAdds such xs xs
adds_none such xs = record { longer = omega arith; front = λ i l. refl; behind = λ i l k. absurd (omega arith) }

last_of : (xs : List ℕ) (l : ℕ) → get_or (xs ++ l ∷ []) (length xs) 0 ≡ l
last_of xs l = grind (arith, common_steps)

front_of : (xs ys : List ℕ) (i : ℕ) → i < length xs → get_or (xs ++ ys) i 0 ≡ get_or xs i 0
front_of xs ys i l = grind (arith, common_steps)

behind_of : (xs ys : List ℕ) (i : ℕ) → length xs ≤ i → get_or (xs ++ ys) i 0 ≡ get_or ys (i - length xs) 0
behind_of xs ys i l = grind (arith, common_steps)

length_both : (xs ys : List ℕ) → length (xs ++ ys) ≡ length xs + length ys
length_both xs ys = grind (arith, common_steps)

length_one : (xs : List ℕ) (l : ℕ) → length (xs ++ l ∷ []) ≡ length xs + 1
length_one xs l = grind (arith, common_steps)

pub adds_one : (such : ℕ → Type 0) (xs : List ℕ) (l : ℕ) → such l → MarkAdds such xs (xs ++ l ∷ [])
adds_one such xs l s =
    let n = length_one xs l in
    record {
      longer = omega arith;
      front = λ i a. front_of xs (l ∷ []) i a;
      behind = λ i a b. (
          let e : i ≡ length xs = omega arith in
          subst (λ z. such z) (sym (ap (λ j. get_or (xs ++ l ∷ []) j 0) e ∙ last_of xs l)) s
          );
    }

pub told_one : (u : ℕ → Bool) (xs : List ℕ) (l : ℕ) → MarkTold u (xs ++ l ∷ []) (length xs) (length (xs ++ l ∷ [])) l
told_one u xs l p =
    let n = length_one xs l in
    inr (record { at = length xs; behind = omega arith; within = omega arith; is = last_of xs l })

pub adds_then : (p q r : ℕ → Type 0) (a b c : List ℕ) → ((l : ℕ) → p l → r l) → ((l : ℕ) → q l → r l)
    → MarkAdds p a b → MarkAdds q b c → MarkAdds r a c
adds_then p q r a b c f g x y =
    let m = x.longer in
    let n = y.longer in
    record {
      longer = omega arith;
      front = λ i l. y.front i (omega arith) ∙ x.front i l;
      behind = λ i l k. (
          elim (below_or_not i (length b)) as (λ _. r (get_or c i 0)) [
            | inl z ↦ subst (λ w. r w) (sym (y.front i z)) (f (get_or b i 0) (x.behind i l z))
            | inr z ↦ g (get_or c i 0) (y.behind i z k)
          ]
          );
    }

-- what is listed stays so where the list goes on, and where one begins to look earlier
pub in_more : (such : ℕ → Type 0) (b c : List ℕ) (begin l : ℕ) → MarkAdds such b c → IsIn b begin (length b) l → IsIn c begin (length c) l
in_more such b c begin l y i =
    let n = y.longer in
    let w = i.within in
    record { at = i.at; behind = i.behind; within = omega arith; is = y.front i.at i.within ∙ i.is }

pub in_earlier : (c : List ℕ) (begin mid end l : ℕ) → begin ≤ mid → IsIn c mid end l → IsIn c begin end l
in_earlier c begin mid end l a i =
    let b = i.behind in record { at = i.at; behind = omega arith; within = i.within; is = i.is }

pub adds_tops : (top : ℕ → ℕ) (at size : ℕ) (old new : List ℕ) → RangeLists top at size old new
    → MarkAdds (λ l. IsTop top at size l) old new
adds_tops top at size old new t =
    subst (λ (xs : List ℕ). MarkAdds (λ l. IsTop top at size l) old xs) (sym t.is) (
    let n = length_both old t.more in
    record {
      longer = omega arith;
      front = λ i l. front_of old t.more i l;
      behind = λ i l k. subst (λ z. IsTop top at size z) (sym (behind_of old t.more i l)) (t.each (i - length old) (omega arith));
    })

pub positive_not : (x : ℕ) → 0 < x → x ≡ 0 → ⊥
positive_not x p e = absurd (omega arith)

pub told_tops : (top : ℕ → ℕ) (at size : ℕ) (old new : List ℕ) → RangeLists top at size old new
    → AllTold top new (length old) (length new) at size
told_tops top at size old new t x f a b p =
    elim (t.all x a b f) as (λ _. IsIn new (length old) (length new) (top x)) [
      | inl e ↦ absurd (positive_not (top x) p e)
      | inr e ↦ (
          let n = length_both old t.more in
          let k = e.1 in
          let j : length old + e.0 - length old ≡ e.0 = omega arith in
          subst (λ (xs : List ℕ). IsIn xs (length old) (length xs) (top x)) (sym t.is) (record {
            at = length old + e.0;
            behind = omega arith;
            within = omega arith;
            is = behind_of old t.more (length old + e.0) (omega arith) ∙ ap (λ z. get_or t.more z 0) j ∙ e.2;
          })
          )
    ]

append_none : (xs : List ℕ) → xs ≡ xs ++ []
append_none xs = grind (arith, common_steps)

pub lists_none : (at size : ℕ) (xs : List ℕ) → RangeLists (λ x. 0) at size xs xs
lists_none at size xs = record { more = []; is = append_none xs; each = λ i l. absurd (omega arith); all = λ x a b f. inl refl }

-- ---- lists that go on, whether all is told or not

pub goes_none : (xs : List ℕ) → RangeGoesOn xs xs
goes_none xs = ([], append_none xs)

pub goes_one : {T E : Type 0} (r : Result T E) (old new : List ℕ) (x : ℕ) → OnOk r (new ≡ old ++ x ∷ []) → OnErr r (new ≡ old)
    → RangeGoesOn old new
goes_one (Ok t) old new x p q = (x ∷ [], p)
goes_one (Err e) old new x p q = ([], q ∙ append_none old)

append_both : (xs ys zs : List ℕ) → (xs ++ ys) ++ zs ≡ xs ++ (ys ++ zs)
append_both [] ys zs = refl
append_both (x ∷ xs) ys zs = ap (λ (l : List ℕ). x ∷ l) (append_both xs ys zs)

pub goes_then : (a b c : List ℕ) → RangeGoesOn a b → RangeGoesOn b c → RangeGoesOn a c
goes_then a b c x y = (x.0 ++ y.0, y.1 ∙ ap (λ (l : List ℕ). l ++ y.0) x.1 ∙ append_both a x.0 y.0)

-- ---- all that is listed

pub lists_all : (u : ℕ → Bool) (close mark : ℕ) (top : ℕ → ℕ) (at size : ℕ) (a b c d : List ℕ)
    → MarkAdds (λ l. (0 < l) × (l ≡ close)) a b → MarkTold u b (length a) (length b) close
    → MarkAdds (λ l. (0 < l) × (l ≡ mark)) b c → MarkTold u c (length b) (length c) mark
    → RangeLists top at size c d → ListsHolders u close mark top at size a d
lists_all u close mark top at size a b c d x tx y ty t =
    let z = adds_tops top at size c d t in
    let m = x.longer in
    let n = y.longer in
    record {
      adds = adds_then (λ l. (0 < l) × ((l ≡ close) ⊎ (l ≡ mark))) (λ l. IsTop top at size l)
          (λ l. (0 < l) × ((l ≡ close) ⊎ ((l ≡ mark) ⊎ IsTop top at size l))) a c d (λ l w. (w.0, widen l w.1))
          (λ l w. (w.some, inr (inr w)))
          (adds_then (λ l. (0 < l) × (l ≡ close)) (λ l. (0 < l) × (l ≡ mark)) (λ l. (0 < l) × ((l ≡ close) ⊎ (l ≡ mark))) a b c
          (λ l w. (w.0, inl w.1)) (λ l w. (w.0, inr w.1)) x y) z;
      close_told = λ p. (
          elim (tx p) as (λ _. (u close ≡ false) ⊎ IsIn d (length a) (length d) close) [
            | inl e ↦ inl e
            | inr e ↦ inr (in_more (λ l. IsTop top at size l) c d (length a) close z
                (in_more (λ l. (0 < l) × (l ≡ mark)) b c (length a) close y e))
          ]
          );
      mark_told = λ p. (
          elim (ty p) as (λ _. (u mark ≡ false) ⊎ IsIn d (length a) (length d) mark) [
            | inl e ↦ inl e
            | inr e ↦ inr (in_earlier d (length a) (length b) (length d) mark m
                (in_more (λ l. IsTop top at size l) c d (length b) mark z e))
          ]
          );
      tops_told = λ w f p q s. in_earlier d (length a) (length c) (length d) (top w) (omega arith) (told_tops top at size c d t w f p q s);
    }
  where
    widen : (l : ℕ) → (l ≡ close) ⊎ (l ≡ mark) → (l ≡ close) ⊎ ((l ≡ mark) ⊎ IsTop top at size l)
    widen l (inl e) = inl e
    widen l (inr e) = inr (inl e)
