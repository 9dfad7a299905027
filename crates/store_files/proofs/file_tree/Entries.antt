-- Entries by key and by number, after one came or went.
use Rattle.std.proofs.Common.{◌≡◌, ℕ, ◌==◌, Bool, true, false, if◌then◌else◌, List, [], ◌∷◌, ◌++◌, Option, Some, None, refl, ◌∙◌, arith}
use Rattle.std.proofs.lemmas.Grind.{common_steps}
use Rattle.std.specs.Str.{bytes_eq}
use Rattle.std.specs.Cmp.Lexicographic.{nat_list_eq_equiv, bytes_decides}
use Rattle.spec_exchange.specs.State.{Entry}
use Rattle.spec_exchange.specs.Files.{without_file}
use Rattle.store_files.specs.file_tree.Shown.{folded, at_key, path_at, FileApart}

pub bytes_turned : (a b : List ℕ) → bytes_eq a b ≡ bytes_eq b a
bytes_turned a b = nat_list_eq_equiv.symm a b

pub bytes_same : (a b : List ℕ) → bytes_eq a b ≡ true → a ≡ b
bytes_same a b e = (bytes_decides a b).0 e

-- ---- one more at the end

pub key_added : (es : List Entry) (e : Entry) (q : List ℕ) → at_key es (folded e.path) ≡ None → at_key (es ++ e ∷ []) q
    ≡ (if bytes_eq (folded e.path) q then Some e.file else at_key es q)
unfolding at_key
key_added [] e q n = refl
key_added (x ∷ xs) e q n = let h = key_added xs e q in let s = bytes_same (folded e.path) q in grind (arith, common_steps)

pub path_added : (es : List Entry) (e : Entry) (f : ℕ) → path_at es e.file ≡ None → path_at (es ++ e ∷ []) f
    ≡ (if f == e.file then Some e.path else path_at es f)
unfolding path_at
path_added [] e f n = grind (arith, common_steps)
path_added (x ∷ xs) e f n = let h = path_added xs e f in grind (arith, common_steps)

pub key_differs : (x e : Entry) (xs : List Entry) → at_key (x ∷ xs) (folded e.path) ≡ None
    → (bytes_eq (folded e.path) (folded x.path) ≡ false) × (at_key xs (folded e.path) ≡ None)
unfolding at_key
key_differs x e xs n = let t = bytes_turned (folded e.path) (folded x.path) in grind (arith, common_steps)

pub number_differs : (x e : Entry) (xs : List Entry) → path_at (x ∷ xs) e.file ≡ None → ((x.file == e.file) ≡ false)
    × (path_at xs e.file ≡ None)
unfolding path_at
number_differs x e xs n = grind (arith, common_steps)

pub apart_added : (es : List Entry) (e : Entry) → FileApart es → at_key es (folded e.path) ≡ None → path_at es e.file ≡ None
    → FileApart (es ++ e ∷ [])
unfolding at_key path_at
apart_added [] e a n m = (refl, refl, tt)
apart_added (x ∷ xs) e a n m =
    let d = key_differs x e xs n in let g = number_differs x e xs m in
    (key_added xs e (folded x.path) d.1 ∙ rw (d.0) a.0, path_added xs e x.file g.1 ∙ rw (g.0) a.1, apart_added xs e a.2 d.1 g.1)

-- ---- one less

pub without_absent : (f : ℕ) (es : List Entry) → path_at es f ≡ None → without_file f es ≡ es
unfolding without_file path_at
without_absent f [] n = refl
without_absent f (x ∷ xs) n = let h = without_absent f xs in grind (arith, common_steps)

pub path_head : (x : Entry) (xs : List Entry) (f : ℕ) → FileApart (x ∷ xs) → (x.file == f) ≡ true → path_at xs f ≡ None
path_head x xs f a e = let n = a.1 in grind (arith, common_steps)

pub path_gone : (es : List Entry) (f g : ℕ) → path_at (without_file f es) g ≡ (if f == g then None else path_at es g)
unfolding without_file path_at
path_gone [] f g = grind (arith, common_steps)
path_gone (x ∷ xs) f g = let h = path_gone xs f g in grind (arith, common_steps)

-- each entry is what its key finds
pub key_of_path : (es : List Entry) (f : ℕ) (p : List ℕ) → FileApart es → path_at es f ≡ Some p → at_key es (folded p) ≡ Some f
unfolding at_key path_at
key_of_path [] f p a e = absurd (cc)
key_of_path (x ∷ xs) f p a e = let h = key_of_path xs f p a.2 in let n = a.0 in let r = nat_list_eq_equiv.refl
    (folded p) in let s = bytes_same (folded x.path) (folded p) in grind (arith, common_steps)

pub key_gone : (es : List Entry) (f : ℕ) (p q : List ℕ) → FileApart es → path_at es f ≡ Some p → at_key (without_file f es)
    q ≡ (if bytes_eq (folded p) q then None else at_key es q)
unfolding at_key path_at without_file
key_gone [] f p q a e = absurd (cc)
key_gone (x ∷ xs) f p q a e =
    let h = key_gone xs f p q a.2 in
    let k = key_of_path xs f p a.2 in
    let w = without_absent f xs in
    let m = path_head x xs f a in
    let n = a.0 in
    let s = bytes_same (folded x.path) q in
    let t = bytes_same (folded p) q in
    grind (arith, common_steps)

pub none_if : {X : Type 0} (b : Bool) (o : Option X) → o ≡ None → (if b then None else o) ≡ None
none_if true o e = refl
none_if false o e = e

-- what nothing finds nothing finds in fewer
pub key_stays_free : (es : List Entry) (f : ℕ) (q : List ℕ) → at_key es q ≡ None → at_key (without_file f es) q ≡ None
unfolding at_key without_file
key_stays_free [] f q n = refl
key_stays_free (x ∷ xs) f q n = let h = key_stays_free xs f q in grind (arith, common_steps)

apart_if : (b : Bool) (x : Entry) (xs ys : List Entry) → FileApart ys → at_key ys (folded x.path) ≡ None → path_at ys x.file
    ≡ None → FileApart (if b then ys else x ∷ ys)
apart_if true x xs ys a n m = a
apart_if false x xs ys a n m = (n, m, a)

pub apart_gone : (es : List Entry) (f : ℕ) → FileApart es → FileApart (without_file f es)
unfolding without_file
apart_gone [] f a = tt
apart_gone (x ∷ xs) f a =
    apart_if (x.file == f) x xs (without_file f xs) (apart_gone xs f a.2) (key_stays_free xs f (folded x.path) a.0)
    (path_gone xs f x.file ∙ none_if (f == x.file) (path_at xs x.file) a.1)
