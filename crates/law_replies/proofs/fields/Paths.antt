-- The names at the ends of paths, and of the paths behind a rename.
use Rattle.std.proofs.Common.{◌≡◌, ℕ, ◌+◌, ◌<◌, ◌≤◌, ◌==◌, true, false, ◌||◌, if◌then◌else◌, List, [], ◌∷◌, ◌++◌}
use Rattle.std.proofs.Common.{◌⊎◌, inl, inr, length, drop, IsUtf8, length-append, refl, sym, ap, ◌∙◌, subst, arith, eqb-true}
use Rattle.std.proofs.Common.{Option, Some, None}
use Rattle.std.specs.Prelude.{get_or, nat_le}
use Rattle.std.proofs.lemmas.Grind.{common_steps}
use Rattle.std.proofs.lemmas.List.{append-nil, append_assoc, drop_at, get_or_at}
use Rattle.std.proofs.lemmas.Str.{IsUtf8-drop, IsCharBoundary-after_ascii}
use Rattle.spec_exchange.specs.Texts.{upper, same_name, utf16_length, leaf_from, leaf_of, after_name, begins_below, is_below}
use Rattle.spec_exchange.specs.State.{Server, Entry}
use Rattle.spec_exchange.specs.Files.{root, exists_in, exists, path_in, without_file, without_target, path_behind}
use Rattle.spec_exchange.specs.Files.{moved_path, moved_entry, moved_entries}
use Rattle.spec_exchange.specs.CheckCreate.{last_file}
use Rattle.spec_exchange.specs.Operations.{is_text, is_spelled_path}
use Rattle.law_server.proofs.tables.Logic.{either, back_of, other_on}
use Rattle.law_commands.specs.commands.Fitting.{IsFittingName}
use Rattle.law_commands.proofs.commands.Limits.{at_most, path_is}
use Rattle.law_commands.proofs.commands.PathLength.{sum_append, utf16_few}
use Rattle.law_replies.specs.fields.Rows.{is_below_root, IsLeaf, IsFieldPlace, AreFieldEntries}

pub off : {X : Type 0} → false ≡ true → X
off e = absurd (let h : false ≡ true = e in cc)

-- ---- the name at the end: all, or what stands behind a `\`

abbrev Split : List ℕ → List ℕ → List ℕ → Type 0
Split leaf path r = (r ≡ leaf ++ path) ⊎ ((d : List ℕ) × (path ≡ d ++ 92 ∷ r))

at_slash : (leaf : List ℕ) (c : ℕ) (cs r : List ℕ) → c ≡ 92 → Split [] cs r → Split leaf (c ∷ cs) r
at_slash leaf c cs r e (inl q) = inr ([], ap (λ n. n ∷ cs) e ∙ ap (λ (l : List ℕ). 92 ∷ l) (sym q))
at_slash leaf c cs r e (inr q) = inr (c ∷ q.0, ap (λ (l : List ℕ). c ∷ l) q.1)

past_char : (leaf : List ℕ) (c : ℕ) (cs r : List ℕ) → Split (leaf ++ c ∷ []) cs r → Split leaf (c ∷ cs) r
past_char leaf c cs r (inl q) = inl (q ∙ append_assoc leaf (c ∷ []) cs)
past_char leaf c cs r (inr q) = inr (c ∷ q.0, ap (λ (l : List ℕ). c ∷ l) q.1)

leaf_split : (leaf path : List ℕ) → Split leaf path (leaf_from leaf path)
unfolding leaf_from
leaf_split leaf [] = inl (sym (append-nil leaf))
leaf_split leaf (c ∷ cs) =
    either (λ (r : List ℕ). Split leaf (c ∷ cs) r) (c == 92) (leaf_from [] cs) (leaf_from (leaf ++ c ∷ []) cs)
    (λ e. at_slash leaf c cs (leaf_from [] cs) (eqb-true c 92 e) (leaf_split [] cs))
    (λ _. past_char leaf c cs (leaf_from (leaf ++ c ∷ []) cs) (leaf_split (leaf ++ c ∷ []) cs))

behind_text : (d l : List ℕ) → IsUtf8 (d ++ 92 ∷ l) → IsUtf8 l
behind_text d l u =
    let bs : List ℕ = d ++ 92 ∷ l in
    let at : get_or bs (length d) 0 ≡ 92 = get_or_at d 92 l 0 (length d) refl in
    let inside : length d < length bs = omega (arith, length-append d (92 ∷ l)) in
    let small : get_or bs (length d) 0 < 128 = omega (arith, at) in
    let rest : drop (length d + 1) bs ≡ l =
    ap (λ (q : List ℕ). drop (length d + 1) q) (sym (append_assoc d (92 ∷ []) l))
    ∙ drop_at (d ++ 92 ∷ []) l (length d + 1) (length-append d (92 ∷ [])) in
    subst IsUtf8 rest (IsUtf8-drop bs (length d + 1) u (IsCharBoundary-after_ascii bs (length d) u inside small))

behind_few : (d l : List ℕ) → utf16_length l ≤ utf16_length (d ++ 92 ∷ l)
behind_few d l = omega (arith, sum_append d (92 ∷ l), sum_append (92 ∷ []) l)

pub name_is : (text : List ℕ) → IsUtf8 text → utf16_length text ≤ 1024 → IsFittingName text
name_is text u few = record { utf8 = u; short = omega (arith, utf16_few text u, few) }

leaf_is : (path r : List ℕ) → Split [] path r → IsUtf8 path → utf16_length path ≤ 1024 → IsFittingName r
leaf_is path r (inl q) u few = subst IsFittingName (sym q) (name_is path u few)
leaf_is path r (inr q) u few =
    let text : IsUtf8 (q.0 ++ 92 ∷ r) = subst IsUtf8 q.1 u in
    let short : utf16_length (q.0 ++ 92 ∷ r) ≤ 1024 = subst (λ (l : List ℕ). utf16_length l ≤ 1024) q.1 few in
    name_is r (behind_text q.0 r text) (omega (arith, short, behind_few q.0 r))

pub spelled_leaf : (path : List ℕ) → is_spelled_path path ≡ true → IsLeaf path
unfolding is_spelled_path leaf_of
spelled_leaf path e =
    let few = at_most (utf16_length path) 1024 (back_of (is_text path) (nat_le (utf16_length path) 1024) e) in
    let is = path_is path e in
    leaf_is path (leaf_from [] path) (leaf_split [] path) is.utf8 few

-- ---- behind a rename

leaf_from_behind : (leaf d rest : List ℕ) → leaf_from leaf (d ++ 92 ∷ rest) ≡ leaf_from [] rest
unfolding leaf_from
leaf_from_behind leaf [] rest = refl
leaf_from_behind leaf (c ∷ cs) rest =
    let h = leaf_from_behind [] cs rest in
    let g = leaf_from_behind (leaf ++ c ∷ []) cs rest in
    grind (arith, common_steps)

-- the name depends on what stands behind the last `\` alone
leaf_behind : (d rest : List ℕ) → leaf_of (d ++ 92 ∷ rest) ≡ leaf_of rest
unfolding leaf_of
leaf_behind d rest = leaf_from_behind [] d rest

abbrev Front : List ℕ → List ℕ → Type 0
Front rest path = (p : List ℕ) × (path ≡ p ++ rest)

same_rest : (a b : List ℕ) → Some a ≡ Some b → a ≡ b
same_rest a b e = cc

no_rest : {X : Type 0} (rest : List ℕ) → None ≡ Some rest → X
no_rest rest e = absurd (let h : None ≡ Some rest = e in cc)

after_split : (old path rest : List ℕ) → after_name old path ≡ Some rest → Front rest path
unfolding after_name
after_split [] path rest e = ([], same_rest path rest e)
after_split (x ∷ xs) [] rest e = no_rest rest e
after_split (x ∷ xs) (y ∷ ys) rest e =
    elim (upper x == upper y) as (λ b. (if b then after_name xs ys else None) ≡ Some rest → Front rest (y ∷ ys)) [
      | true ↦ λ q. let h = after_split xs ys rest q in (y ∷ h.0, ap (λ (l : List ℕ). y ∷ l) h.1)
      | false ↦ λ q. no_rest rest q
    ] e

begins : (c : ℕ) (r : List ℕ) → begins_below (Some (c ∷ r)) ≡ true → c ≡ 92
unfolding begins_below
begins c r e = eqb-true c 92 e

begins_not : {X : Type 0} → begins_below (Some []) ≡ true → X
unfolding begins_below
begins_not e = off e

still : (to : List ℕ) (c : ℕ) (r : List ℕ) → is_below_root (to ++ c ∷ r) ≡ true
still [] c r = refl
still (x ∷ xs) c r = refl

behind : (to path r : List ℕ) (c : ℕ) → c ≡ 92 → Front (c ∷ r) path → IsFieldPlace path → IsFieldPlace (to ++ c ∷ r)
behind to path r c e f h =
    let p = f.0 in
    let slashed : path ≡ p ++ 92 ∷ r = f.1 ∙ ap (λ n. p ++ n ∷ r) e in
    let same : leaf_of path ≡ leaf_of (to ++ c ∷ r) =
    ap leaf_of slashed ∙ (leaf_behind p r ∙ (sym (leaf_behind to r) ∙ ap (λ n. leaf_of (to ++ n ∷ r)) (sym e))) in
    record { named = still to c r; leaf = subst IsFittingName same h.leaf }

below_by : (d : ℕ) (ds path to q : List ℕ) → after_name (d ∷ ds) path ≡ Some q → begins_below (Some q) ≡ true → IsFieldPlace path
    → IsFieldPlace (to ++ q)
below_by d ds path to [] e b h = begins_not b
below_by d ds path to (c ∷ r) e b h = behind to path r c (begins c r b) (after_split (d ∷ ds) path (c ∷ r) e) h

below_at : (old path rest to : List ℕ) → is_below_root old ≡ true → after_name old path ≡ Some rest → is_below old path ≡ true
    → IsFieldPlace path → IsFieldPlace (to ++ rest)
unfolding is_below
below_at [] path rest to n e b h = off n
below_at (d ∷ ds) path rest to n e b h =
    below_by d ds path to rest e (subst (λ (u : Option (List ℕ)). begins_below u ≡ true) e b) h

moved_by : (old to path : List ℕ) (u : Option (List ℕ)) → after_name old path ≡ u → is_below_root old ≡ true
    → IsFieldPlace to → IsFieldPlace path
    → IsFieldPlace (path_behind old to path u)
unfolding path_behind
moved_by old to path None e n t h = h
moved_by old to path (Some rest) e n t h =
    either IsFieldPlace (same_name old path) to (if is_below old path then to ++ rest else path) (λ _. t)
    (λ _. either IsFieldPlace (is_below old path) (to ++ rest) path (λ b. below_at old path rest to n e b h) (λ _. h))

moved : (old to path : List ℕ) → is_below_root old ≡ true → IsFieldPlace to → IsFieldPlace path → IsFieldPlace (moved_path old to path)
unfolding moved_path
moved old to path n t h = moved_by old to path (after_name old path) refl n t h

pub entries_moved : (old to : List ℕ) (es : List Entry) → is_below_root old ≡ true → IsFieldPlace to → AreFieldEntries es
    → AreFieldEntries (moved_entries old to es)
unfolding moved_entries moved_entry
entries_moved old to [] n t h = tt
entries_moved old to (e ∷ es) n t h = (moved old to e.path n t h.0, h.1, entries_moved old to es n t h.2)

-- ---- entries

pub entries_gone : (f : ℕ) (es : List Entry) → AreFieldEntries es → AreFieldEntries (without_file f es)
unfolding without_file
entries_gone f [] h = tt
entries_gone f (e ∷ es) h =
    either AreFieldEntries (e.file == f) (without_file f es) (e ∷ without_file f es) (λ _. entries_gone f es h.2)
    (λ _. (h.0, h.1, entries_gone f es h.2))

pub entries_replaced : (u : Option ℕ) (es : List Entry) → AreFieldEntries es → AreFieldEntries (without_target u es)
unfolding without_target
entries_replaced None es h = h
entries_replaced (Some t) es h = entries_gone t es h

pub entries_more : (es : List Entry) (e : Entry) → AreFieldEntries es → IsFieldPlace e.path → e.file ≤ last_file
    → AreFieldEntries (es ++ e ∷ [])
entries_more [] e h p l = (p, l, tt)
entries_more (x ∷ xs) e h p l = (h.0, h.1, entries_more xs e h.2 p l)

number_low : (es : List Entry) (f : ℕ) → AreFieldEntries es → exists_in es f ≡ true → f ≤ last_file
unfolding exists_in
number_low [] f h e = off e
number_low (x ∷ xs) f h e =
    elim (x.file == f) as (λ b. x.file == f ≡ b → (if b then true else exists_in xs f) ≡ true → f ≤ last_file) [
      | true ↦ λ q g. subst (λ n. n ≤ last_file) (eqb-true x.file f q) h.1
      | false ↦ λ q g. number_low xs f h.2 g
    ] refl e

place_at : (es : List Entry) (f : ℕ) → AreFieldEntries es → exists_in es f ≡ true → is_below_root (path_in es f) ≡ true
unfolding exists_in path_in
place_at [] f h e = off e
place_at (x ∷ xs) f h e =
    elim (x.file == f) as (λ b. (if b then true else exists_in xs f) ≡ true → is_below_root (if b then x.path else path_in xs f) ≡ true) [
      | true ↦ λ g. let p = h.0 in p.named
      | false ↦ λ g. place_at xs f h.2 g
    ] e

root_low : (f : ℕ) → f ≡ root → f ≤ last_file
root_low f e = omega (arith, e)

pub exists_low : (s : Server) (f : ℕ) → AreFieldEntries s.entries → exists s f ≡ true → f ≤ last_file
unfolding exists
exists_low s f h e =
    elim (f == root) as (λ b. f == root ≡ b → (b || exists_in s.entries f) ≡ true → f ≤ last_file) [
      | true ↦ λ q g. root_low f (eqb-true f root q)
      | false ↦ λ q g. number_low s.entries f h g
    ] refl e

pub exists_named : (s : Server) (f : ℕ) → AreFieldEntries s.entries → exists s f ≡ true → (f == root) ≡ false
    → is_below_root (path_in s.entries f) ≡ true
unfolding exists
exists_named s f h e no_root = place_at s.entries f h (other_on (f == root) (exists_in s.entries f) e no_root)
