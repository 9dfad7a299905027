-- Whatever stands below a path has a directory there: after one file came or went.
use Rattle.std.proofs.Common.{◌≡◌, ◌⊎◌, inl, inr, ℕ, ◌==◌, Bool, true, false, ◌&&◌, ◌||◌, if◌then◌else◌, List, [], ◌∷◌}
use Rattle.std.proofs.Common.{◌++◌, length, Option, Some, None, is_some, refl, sym, ap, subst, ◌∙◌, arith}
use Rattle.std.proofs.lemmas.Grind.{common_steps}
use Rattle.std.proofs.lemmas.Bool.Decides.{nat_tests}
use Rattle.std.specs.Str.{bytes_eq}
use Rattle.std.specs.Char.{to_ascii_uppercase}
use Rattle.spec_exchange.specs.State.{Server, Entry}
use Rattle.spec_exchange.specs.Texts.{parent_of, begins_with_backslash}
use Rattle.spec_exchange.specs.Files.{find, has_parent, is_directory, is_found_directory, exists_in, has_below, without_file}
use Rattle.store_files.specs.file_tree.Shown.{folded, at_key, path_at, FileApart, IsHouse}
use Rattle.store_files.proofs.file_tree.Entries.{bytes_same, key_of_path, key_gone}
use Rattle.store_files.specs.file_tree.Keys.{key_begins}
use Rattle.store_files.proofs.file_tree.Keys.{find_other, exists_is}
use Rattle.store_files.proofs.file_tree.Found.{key_there, none_found}
use Rattle.store_files.proofs.file_tree.Below.{shown}
use Rattle.store_files.proofs.file_tree.Children.{has_slash, parent_is}

-- ---- a list cut at a backslash

pub has_slash_in : (a b : List ℕ) → has_slash (a ++ 92 ∷ b) ≡ true
unfolding has_slash
has_slash_in [] b = refl
has_slash_in (x ∷ xs) b = let h = has_slash_in xs b in grind (arith, common_steps)

pub last_slash : (p : List ℕ) → has_slash p ≡ true → (d : List ℕ) × (l : List ℕ) × (p ≡ d ++ 92 ∷ l) × (has_slash l ≡ false)
unfolding has_slash
last_slash [] e = absurd (cc)
last_slash (c ∷ cs) e = by (last_slash cs) (has_slash cs) refl
  where
    head : (has_slash cs ≡ false) → c ≡ 92
    head f = grind (arith, common_steps)

    by : (has_slash cs ≡ true → (d : List ℕ) × (l : List ℕ) × (cs ≡ d ++ 92 ∷ l) × (has_slash l ≡ false)) → (b : Bool) → has_slash cs ≡ b
        → (d : List ℕ) × (l : List ℕ) × (c ∷ cs ≡ d ++ 92 ∷ l) × (has_slash l ≡ false)
    by more true t = let h = more t in (c ∷ h.0, h.1, ap (λ l. c ∷ l) h.2, h.3)
    by more false t = ([], cs, ap (λ x. x ∷ cs) (head t), t)

-- a key that goes on behind a backslash is cut at its last one there, or before
pub cut_before : (a b d l : List ℕ) → has_slash l ≡ false → a ++ 92 ∷ b ≡ d ++ 92 ∷ l → (a ≡ d) ⊎ ((m : List ℕ) × (d ≡ a ++ 92 ∷ m))
cut_before [] b [] l n e = inl refl
cut_before [] b (y ∷ ys) l n e = inr (ys, (cc))
cut_before (x ∷ xs) b [] l n e = absurd (let s = has_slash_in xs b in let t : xs ++ 92 ∷ b ≡ l = cc in let u = ap has_slash t in cc)
cut_before (x ∷ xs) b (y ∷ ys) l n e = by (cut_before xs b ys l n (cc))
  where
    by : (xs ≡ ys) ⊎ ((m : List ℕ) × (ys ≡ xs ++ 92 ∷ m)) → (x ∷ xs ≡ y ∷ ys) ⊎ ((m : List ℕ) × (y ∷ ys ≡ x ∷ (xs ++ 92 ∷ m)))
    by (inl h) = inl (cc)
    by (inr h) = let m = h.1 in inr (h.0, (cc))

pub folded_append : (a b : List ℕ) → folded (a ++ b) ≡ folded a ++ folded b
folded_append [] b = refl
folded_append (x ∷ xs) b = ap (λ l. to_ascii_uppercase x ∷ l) (folded_append xs b)

pub slash_folded : (p : List ℕ) → has_slash (folded p) ≡ has_slash p
unfolding has_slash
slash_folded [] = refl
slash_folded (c ∷ cs) = let h = slash_folded cs in let s : (to_ascii_uppercase c == 92) ≡ (c == 92) = grind arith in
    grind (arith, common_steps)

-- ---- a new path

no_front : (l : List ℕ) → begins_with_backslash (92 ∷ l) ≡ false → true ≡ false
unfolding begins_with_backslash
no_front l e = absurd (cc)

-- a number that no entry has is named by no key
pub absent_number : (es : List Entry) (q : List ℕ) (f n : ℕ) → path_at es n ≡ None → at_key es q ≡ Some f → (f == n) ≡ false
absent_number es q f n z e = by (f == n) refl
  where
    by : (b : Bool) → (f == n) ≡ b → b ≡ false
    by false t = refl
    by true t =
        let same : f ≡ n = grind (arith, nat_tests) in
        let there = key_there es q f e in
        sym (none_found (path_at es n) z (sym (exists_is es n) ∙ ap (exists_in es) (sym same) ∙ there))

-- the directory of such a path is there
pub parent_house : (s : Server) (d : List ℕ) → path_at s.entries 0 ≡ None → (length d == 0) ≡ false
    → is_found_directory s (find s d) ≡ true → IsHouse (at_key s.entries (folded d)) s.directory
unfolding is_found_directory is_directory
parent_house s d z n h = by (at_key s.entries (folded d)) refl (ap (is_found_directory s) (sym (find_other s d n)) ∙ h)
  where
    kept : (b c : Bool) → b ≡ false → (b || c) ≡ true → c ≡ true
    kept true c e t = absurd (cc)
    kept false c e t = t

    by : (o : Option ℕ) → at_key s.entries (folded d) ≡ o → is_found_directory s o ≡ true → IsHouse o s.directory
    by None e t = absurd (cc)
    by (Some f) e t = kept (f == 0) (s.directory f) (absent_number s.entries (folded d) f 0 z e) t

some_found : (s : Server) (o : Option ℕ) → is_found_directory s o ≡ true → is_some o ≡ true
unfolding is_found_directory
some_found s None e = absurd (cc)
some_found s (Some f) e = refl

filled_folded : (d a m : List ℕ) → folded d ≡ a ++ 92 ∷ m → (length d == 0) ≡ false
filled_folded [] [] m e = absurd (cc)
filled_folded [] (x ∷ xs) m e = absurd (cc)
filled_folded (c ∷ cs) a m e = grind arith

filled_front : (p d l : List ℕ) → begins_with_backslash p ≡ false → p ≡ d ++ 92 ∷ l → (length d == 0) ≡ false
filled_front p [] l f e = absurd (let x = no_front l (ap begins_with_backslash (sym e) ∙ f) in cc)
filled_front p (c ∷ cs) l f e = grind arith

-- each directory above such a path is there
pub ancestor_house : (s : Server) (p : List ℕ) → path_at s.entries 0 ≡ None
    → ((a b : List ℕ) → is_some (at_key s.entries (a ++ 92 ∷ b)) ≡ true → IsHouse (at_key s.entries a) s.directory)
    → begins_with_backslash p ≡ false → has_parent s p ≡ true → (a b : List ℕ) → folded p ≡ a ++ 92 ∷ b
    → IsHouse (at_key s.entries a) s.directory
unfolding has_parent
ancestor_house s p z old form parent a b e =
    let slash : has_slash p ≡ true = sym (slash_folded p) ∙ (ap has_slash e ∙ has_slash_in a b) in
    let c = last_slash p slash in
    let d = c.0 in
    let l = c.1 in
    let above : is_found_directory s (find s d) ≡ true = ap (λ (q : List ℕ). is_found_directory s (find s q))
    (sym (ap parent_of c.2 ∙ parent_is d l c.3)) ∙ parent in
    let cut = cut_before a b (folded d) (folded l) (slash_folded l ∙ c.3) (sym e ∙ (ap folded c.2 ∙ folded_append d (92 ∷ l))) in
    by d l c.2 above cut
  where
    by : (d l : List ℕ) → p ≡ d ++ 92 ∷ l → is_found_directory s (find s d) ≡ true → (a ≡ folded d)
        ⊎ ((m : List ℕ) × (folded d ≡ a ++ 92 ∷ m)) → IsHouse (at_key s.entries a) s.directory
    by d l e above (inl same) = subst (λ (k : List ℕ). IsHouse (at_key s.entries k) s.directory) (sym same)
        (parent_house s d z (filled_front p d l form e) above)
    by d l e above (inr h) =
        old a h.0 (ap (λ (k : List ℕ). is_some (at_key s.entries k)) (sym h.1)
        ∙ (ap is_some (sym (find_other s d (filled_folded d a h.0 h.1))) ∙ some_found s (find s d) above))

-- ---- one more, and one less

house_more : (es : List Entry) (q : List ℕ) (o : Option ℕ) (directory : ℕ → Bool) (n : ℕ) (dir : Bool) → path_at es n
    ≡ None → at_key es q ≡ o → IsHouse o directory
    → IsHouse o (λ f. if f == n then dir else directory f)
house_more es q None directory n dir z e h = h
house_more es q (Some f) directory n dir z e h = let a = absent_number es q f n z e in grind (arith, common_steps)

no_house : (o : Option ℕ) (directory : ℕ → Bool) (b : Bool) → o ≡ None → IsHouse o directory → b ≡ true
no_house None directory b e h = absurd h
no_house (Some f) directory b e h = absurd (cc)

-- behind a new file at a number that no entry has, whose path has its directory
pub housed_made : (s : Server) (more : List Entry) (n : ℕ) (p : List ℕ) (dir : Bool) → path_at s.entries 0 ≡ None → path_at s.entries n
    ≡ None → at_key s.entries (folded p) ≡ None
    → ((a b : List ℕ) → is_some (at_key s.entries (a ++ 92 ∷ b)) ≡ true → IsHouse (at_key s.entries a) s.directory)
    → begins_with_backslash p ≡ false → has_parent s p ≡ true
    → ((q : List ℕ) → at_key more q ≡ (if bytes_eq (folded p) q then Some n else at_key s.entries q))
    → (a b : List ℕ) → is_some (at_key more (a ++ 92 ∷ b)) ≡ true
    → IsHouse (at_key more a) (λ f. if f == n then dir else s.directory f)
housed_made s more n p dir z m free old form parent keys a b there = rw (keys a) (put (bytes_eq (folded p) a) refl)
  where
    house : (c : Bool) → bytes_eq (folded p) (a ++ 92 ∷ b) ≡ c
        → is_some (if c then Some n else at_key s.entries (a ++ 92 ∷ b)) ≡ true → IsHouse (at_key s.entries a)
        s.directory
    house true e t = ancestor_house s p z old form parent a b (bytes_same (folded p) (a ++ 92 ∷ b) e)
    house false e t = old a b t

    above : IsHouse (at_key s.entries a) s.directory
    above = house (bytes_eq (folded p) (a ++ 92 ∷ b)) refl (ap is_some (sym (keys (a ++ 92 ∷ b))) ∙ there)

    put : (c : Bool) → bytes_eq (folded p) a ≡ c → IsHouse (if c then Some n else at_key s.entries a)
        (λ f. if f == n then dir else s.directory f)
    put true e = no_house (at_key s.entries a) s.directory _ (ap (at_key s.entries) (sym (bytes_same (folded p) a e)) ∙ free) above
    put false e = house_more s.entries a (at_key s.entries a) s.directory n dir m refl above

begins_front : (a b : List ℕ) → key_begins (a ++ 92 ∷ []) (a ++ 92 ∷ b) ≡ true
unfolding key_begins
begins_front [] b = refl
begins_front (x ∷ xs) b = let h = begins_front xs b in grind (arith, common_steps)

pub housed_gone : (es : List Entry) (directory : ℕ → Bool) (f : ℕ) (p : List ℕ) → FileApart es → path_at es f ≡ Some p
    → (length p == 0) ≡ false → (directory f && has_below es p) ≡ false
    → ((a b : List ℕ) → is_some (at_key es (a ++ 92 ∷ b)) ≡ true → IsHouse (at_key es a) directory)
    → (a b : List ℕ) → is_some (at_key (without_file f es) (a ++ 92 ∷ b)) ≡ true → IsHouse (at_key (without_file f es) a) directory
housed_gone es directory f p apart e n full old a b there = rw (key_gone es f p a apart e) (put (bytes_eq (folded p) a) refl)
  where
    stood : (c : Bool) (o : Option ℕ) → is_some (if c then None else o) ≡ true → is_some o ≡ true
    stood true o t = absurd (cc)
    stood false o t = t

    was : is_some (at_key es (a ++ 92 ∷ b)) ≡ true
    was = stood (bytes_eq (folded p) (a ++ 92 ∷ b)) (at_key es (a ++ 92 ∷ b))
        (ap is_some (sym (key_gone es f p (a ++ 92 ∷ b) apart e)) ∙ there)

    both : (c d : Bool) → c ≡ true → d ≡ true → (c && d) ≡ false → true ≡ false
    both true true s t u = u
    both true false s t u = absurd (cc)
    both false d s t u = absurd (cc)

    never : (o : Option ℕ) → o ≡ Some f → has_below es p ≡ true → IsHouse o directory → true ≡ false
    never None s t h = absurd h
    never (Some g) s t h = let same : g ≡ f = cc in both (directory f) (has_below es p) (ap directory (sym same) ∙ h) t full

    put : (c : Bool) → bytes_eq (folded p) a ≡ c → IsHouse (if c then None else at_key es a) directory
    put false s = old a b was
    put true s =
        let same = bytes_same (folded p) a s in
        let below = shown p n es (a ++ 92 ∷ b) was (ap (λ (k : List ℕ). key_begins (k ++ 92 ∷ []) (a ++ 92 ∷ b)) same ∙ begins_front a b) in
        absurd (let x = never (at_key es a) (ap (at_key es) (sym same) ∙ key_of_path es f p apart e) below (old a b was) in cc)

pub housed_none : (es : List Entry) (directory : ℕ → Bool) → es ≡ [] → (a b : List ℕ)
    → is_some (at_key es (a ++ 92 ∷ b)) ≡ true → IsHouse (at_key es a) directory
unfolding at_key
housed_none [] directory e a b t = absurd (cc)
housed_none (x ∷ xs) directory e a b t = absurd (cc)
