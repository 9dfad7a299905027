-- A directory is renamed: keys with the old front get the new one.
use Rattle.std.proofs.Common.{◌≡◌, ℕ, ◌==◌, Bool, true, false, if◌then◌else◌, List, [], ◌∷◌, ◌++◌, Option, Some, None}
use Rattle.std.proofs.Common.{refl, sym, ap, ◌∙◌, arith}
use Rattle.std.proofs.lemmas.Grind.{common_steps}
use Rattle.std.specs.Str.{bytes_eq}
use Rattle.spec_exchange.specs.State.{Entry}
use Rattle.spec_exchange.specs.Files.{moved_path, moved_entry, moved_entries}
use Rattle.store_files.specs.file_tree.Moved.{after_key, name_within, moved_key}
use Rattle.store_files.specs.file_tree.Shown.{folded, at_key}
use Rattle.store_files.proofs.file_tree.Entries.{bytes_same, none_if}

pub free_behind : (x : Entry) (xs : List Entry) (q : List ℕ) → at_key (x ∷ xs) q ≡ None → (at_key xs q ≡ None)
    × (bytes_eq (folded x.path) q ≡ false)
unfolding at_key
free_behind x xs q n = grind (arith, common_steps)

pub after_front : (front rest : List ℕ) → after_key front (front ++ rest) ≡ Some rest
unfolding after_key
after_front [] rest = refl
after_front (x ∷ xs) rest = let h = after_front xs rest in grind (arith, common_steps)

cons_same : (x y : ℕ) (xs ys : List ℕ) → (x == y) ≡ true → ys ≡ xs → y ∷ ys ≡ x ∷ xs
cons_same x y xs ys a b = grind (arith, common_steps)

pub front_back : (front q rest : List ℕ) → after_key front q ≡ Some rest → q ≡ front ++ rest
unfolding after_key
front_back [] q rest e = cc
front_back (x ∷ xs) [] rest e = absurd (cc)
front_back (x ∷ xs) (y ∷ ys) rest e = let h = front_back xs ys rest in let c = cons_same x y (xs ++ rest) ys in grind (arith, common_steps)

pub fronts_cancel : (front a b : List ℕ) → bytes_eq (front ++ a) (front ++ b) ≡ bytes_eq a b
fronts_cancel [] a b = refl
fronts_cancel (x ∷ xs) a b = let h = fronts_cancel xs a b in grind (arith, common_steps)

-- one entry: its moved key is the key with the new front exactly where its key is the one with the old front
pub one_in : (old to key rest : List ℕ) → name_within (Some rest) ≡ true
    → (name_within (after_key old key) ≡ false → bytes_eq key (to ++ rest) ≡ false)
    → bytes_eq (moved_key (name_within (after_key old key)) to (after_key old key) key) (to ++ rest) ≡ bytes_eq key (old ++ rest)
unfolding moved_key name_within
one_in old to key rest w free = by (after_key old key) refl free
  where
    apart : (b : Bool) → bytes_eq key (old ++ rest) ≡ b → name_within (after_key old key) ≡ false → false ≡ b
    apart false s o = refl
    apart true s o = let f = ap (λ (k : List ℕ). name_within (after_key old k)) (bytes_same key (old ++ rest) s)
        ∙ ap name_within (after_front old rest) ∙ w in sym o ∙ f

    put : (b : Bool) (r : List ℕ) → after_key old key ≡ Some r → b ≡ name_within (Some r)
        → (b ≡ false → bytes_eq key (to ++ rest) ≡ false) → bytes_eq (if b then to ++ r else key) (to ++ rest)
        ≡ bytes_eq key (old ++ rest)
    put true r e i f = fronts_cancel to r rest
        ∙ sym (ap (λ (k : List ℕ). bytes_eq k (old ++ rest)) (front_back old key r e) ∙ fronts_cancel old r rest)
    put false r e i f = f refl ∙ apart (bytes_eq key (old ++ rest)) refl (ap name_within e ∙ sym i)

    by : (o : Option (List ℕ)) → after_key old key ≡ o → (name_within o ≡ false → bytes_eq key (to ++ rest) ≡ false)
        → bytes_eq (moved_key (name_within o) to o key) (to ++ rest) ≡ bytes_eq key (old ++ rest)
    by None e f = f refl ∙ apart (bytes_eq key (old ++ rest)) refl (ap name_within e)
    by (Some r) e f = put (name_within (Some r)) r e refl f

false_true : false ≡ true → ⊥
false_true e = absurd (cc)

pub one_out : (old to key q : List ℕ) → name_within (after_key to q) ≡ false
    → bytes_eq (moved_key (name_within (after_key old key)) to (after_key old key) key) q
    ≡ (if name_within (after_key old q) then false else bytes_eq key q)
unfolding moved_key name_within
one_out old to key q n = by (after_key old key) refl
  where
    kept : (b c : Bool) → bytes_eq key q ≡ b → name_within (after_key old q) ≡ c → name_within (after_key old key) ≡ false → b
        ≡ (if c then false else b)
    kept b false s t o = refl
    kept false true s t o = refl
    kept true true s t o = sym (sym o ∙ ap (λ (k : List ℕ). name_within (after_key old k)) (bytes_same key q s) ∙ t)

    gone : (b c d : Bool) (r : List ℕ) → bytes_eq (to ++ r) q ≡ b → name_within (after_key old q) ≡ c → bytes_eq key q ≡ d
        → name_within (Some r) ≡ true → after_key old key ≡ Some r → b ≡ (if c then false else d)
    gone true c d r s t u w e = let f = ap (λ (k : List ℕ). name_within (after_key to k)) (bytes_same (to ++ r) q s) in
        let g = ap name_within (after_front to r) in absurd (false_true (sym n ∙ sym f ∙ g ∙ w))
    gone false true d r s t u w e = refl
    gone false false false r s t u w e = refl
    gone false false true r s t u w e = sym t
        ∙ sym (ap (λ (k : List ℕ). name_within (after_key old k)) (bytes_same key q u)) ∙ ap name_within e ∙ w

    put : (b : Bool) (r : List ℕ) → after_key old key ≡ Some r → name_within (Some r) ≡ b
        → bytes_eq (if b then to ++ r else key) q ≡ (if name_within (after_key old q) then false else bytes_eq key q)
    put true r e i = gone (bytes_eq (to ++ r) q) (name_within (after_key old q)) (bytes_eq key q) r refl refl refl i e
    put false r e i = kept (bytes_eq key q) (name_within (after_key old q)) refl refl (ap name_within e ∙ i)

    by : (o : Option (List ℕ)) → after_key old key ≡ o → bytes_eq (moved_key (name_within o) to o key) q
        ≡ (if name_within (after_key old q) then false else bytes_eq key q)
    by None e = kept (bytes_eq key q) (name_within (after_key old q)) refl refl (ap name_within e)
    by (Some r) e = put (name_within (Some r)) r e refl

-- ---- the model's entries

free_head : (to old key rest : List ℕ) (f : ℕ) (o : Option ℕ) → name_within (Some rest) ≡ true
    → (name_within (after_key to (to ++ rest)) ≡ true → name_within (after_key old (to ++ rest)) ≡ false
    → (if bytes_eq key (to ++ rest) then Some f else o) ≡ None)
    → name_within (after_key old key) ≡ false → bytes_eq key (to ++ rest) ≡ false
free_head to old key rest f o w free off = by (bytes_eq key (to ++ rest)) refl
  where
    some_none : (b : Bool) → b ≡ true → (if b then Some f else o) ≡ None → true ≡ false
    some_none true e n = absurd (cc)
    some_none false e n = sym e

    by : (b : Bool) → bytes_eq key (to ++ rest) ≡ b → b ≡ false
    by false s = refl
    by true s = some_none (bytes_eq key (to ++ rest)) s (free (ap name_within (after_front to rest) ∙ w)
        (ap (λ (k : List ℕ). name_within (after_key old k)) (sym (bytes_same key (to ++ rest) s)) ∙ off))

pub moved_in : (old to : List ℕ) (folds : (path : List ℕ) → folded (moved_path old to path)
    ≡ moved_key (name_within (after_key (folded old) (folded path))) (folded to) (after_key (folded old) (folded path))
    (folded path))
    → (es : List Entry) (rest : List ℕ) → name_within (Some rest) ≡ true
    → ((q : List ℕ) → name_within (after_key (folded to) q) ≡ true → name_within (after_key (folded old) q) ≡ false → at_key es q ≡ None)
    → at_key (moved_entries old to es) (folded to ++ rest) ≡ at_key es (folded old ++ rest)
unfolding at_key moved_entries moved_entry
moved_in old to folds [] rest w free = refl
moved_in old to folds (x ∷ xs) rest w free =
    let o = one_in (folded old) (folded to) (folded x.path) rest w (free_head (folded to) (folded old) (folded x.path)
    rest x.file (at_key xs (folded to ++ rest)) w (free (folded to ++ rest))) in
    let h = moved_in old to folds xs rest w (λ q a b. (free_behind x xs q (free q a b)).0) in
    rw (folds x.path, o, h) refl

split_if : (b c : Bool) (v o : Option ℕ) → (if (if c then false else b) then v else (if c then None else o))
    ≡ (if c then None else (if b then v else o))
split_if b true v o = refl
split_if b false v o = refl

pub moved_out : (old to : List ℕ) (folds : (path : List ℕ) → folded (moved_path old to path)
    ≡ moved_key (name_within (after_key (folded old) (folded path))) (folded to) (after_key (folded old) (folded path))
    (folded path))
    → (es : List Entry) (q : List ℕ) → name_within (after_key (folded to) q) ≡ false
    → at_key (moved_entries old to es) q ≡ (if name_within (after_key (folded old) q) then None else at_key es q)
unfolding at_key moved_entries moved_entry
moved_out old to folds [] q n = sym (none_if (name_within (after_key (folded old) q)) None refl)
moved_out old to folds (x ∷ xs) q n =
    rw (folds x.path, one_out (folded old) (folded to) (folded x.path) q n, moved_out old to folds xs q n)
    (split_if (bytes_eq (folded x.path) q) (name_within (after_key (folded old) q)) (Some x.file) (at_key xs q))
