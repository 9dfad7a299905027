-- Opens of files that stand below a directory.
use Rattle.std.proofs.Common.{◌≡◌, ℕ, ◌==◌, Bool, true, false, ◌&&◌, ◌||◌, List, [], ◌∷◌, None, refl, sym, ap}
use Rattle.std.proofs.Common.{◌∙◌, subst, arith, if◌then◌else◌}
use Rattle.spec_exchange.specs.Table.{has}
use Rattle.spec_exchange.specs.State.{Server, Entry}
use Rattle.spec_exchange.specs.Files.{exists_in, path_in, path_of, is_directory}
use Rattle.spec_exchange.specs.Texts.{is_below}
use Rattle.spec_exchange.specs.Opens.{file_has_open}
use Rattle.spec_exchange.specs.CheckOpen.{open_below}
use Rattle.store_files.specs.file_tree.Shown.{FileApart, path_at}
use Rattle.law_server.proofs.tables.Logic.{front_of, back_of}
use Rattle.server_checks.specs.Looks.{any_open}

-- an open file that stands below a path
record Found (s : Server) (es : List Entry) (path : List ℕ) : Type 0 where
  file : ℕ
  there : exists_in es file ≡ true
  below : is_below path (path_in es file) ≡ true
  opens : file_has_open s file ≡ true

either_true : (x y : Bool) → y ≡ true → (x || y) ≡ true
either_true true y e = refl
either_true false y e = e

either_case : (x y : Bool) → y ≡ true → (if x then true else y) ≡ true
either_case true y e = refl
either_case false y e = e

both_true : (x y : Bool) → x ≡ true → y ≡ true → (x && y) ≡ true
both_true true y e f = f
both_true false y e f = e

-- ---- a list of files

same_file : (f g : ℕ) → (f == g) ≡ true → f ≡ g
same_file f g e = grind arith

self_file : (f : ℕ) → (f == f) ≡ true
self_file f = grind arith

pub listed_open : (s : Server) (fs : List ℕ) (g : ℕ) → has g fs ≡ true → file_has_open s g ≡ true → any_open s fs ≡ true
listed_open s [] g h o = absurd (cc)
listed_open s (f ∷ fs) g h o = by (f == g) refl (λ k. listed_open s fs g k o)
  where
    by : (b : Bool) → (f == g) ≡ b → (has g fs ≡ true → any_open s fs ≡ true) → any_open s (f ∷ fs) ≡ true
    by true e rest = rw (ap (file_has_open s) (same_file f g e) ∙ o) refl
    by false e rest = either_true (file_has_open s f) (any_open s fs) (rest (rw e at h))

-- one of the list that is open
record Listed (s : Server) (fs : List ℕ) : Type 0 where
  file : ℕ
  there : has file fs ≡ true
  opens : file_has_open s file ≡ true

some_listed : (s : Server) (fs : List ℕ) → any_open s fs ≡ true → Listed s fs
some_listed s [] e = absurd (cc)
some_listed s (f ∷ fs) e = by (file_has_open s f) refl (λ k. some_listed s fs k)
  where
    rest : file_has_open s f ≡ false → any_open s fs ≡ true
    rest k = rw k at e

    more : Listed s fs → Listed s (f ∷ fs)
    more l = record { file = l.file; there = either_case (f == l.file) (has l.file fs) l.there; opens = l.opens }

    by : (b : Bool) → file_has_open s f ≡ b → (any_open s fs ≡ true → Listed s fs) → Listed s (f ∷ fs)
    by true k again = record { file = f; there = rw (self_file f) refl; opens = k }
    by false k again = more (again (rest k))

-- ---- the entries

gone : (es : List Entry) (g : ℕ) → exists_in es g ≡ true → path_at es g ≡ None → ⊥
unfolding exists_in path_at
gone [] g e n = absurd (cc)
gone (x ∷ xs) g e n = by (x.file == g) refl (λ a b. gone xs g a b)
  where
    by : (b : Bool) → (x.file == g) ≡ b → (exists_in xs g ≡ true → path_at xs g ≡ None → ⊥) → ⊥
    by true k rest = let m = rw k at n in absurd (cc)
    by false k rest = rest (rw k at e) (rw k at n)

behind : (s : Server) (x : Entry) (xs : List Entry) (path : List ℕ) → path_at xs x.file ≡ None → Found s xs path → Found s (x ∷ xs) path
unfolding exists_in path_in
behind s x xs path n found = by (x.file == found.file) refl
  where
    by : (b : Bool) → (x.file == found.file) ≡ b → Found s (x ∷ xs) path
    by true k = absurd (gone xs found.file found.there (subst (λ (g : ℕ). path_at xs g ≡ None) (same_file x.file found.file k) n))
    by false k = record {
      file = found.file;
      there = rw k found.there;
      below = rw k found.below;
      opens = found.opens;
    }

below_found : (s : Server) (es : List Entry) (path : List ℕ) → FileApart es → open_below s es path ≡ true → Found s es path
unfolding open_below exists_in path_in
below_found s [] path a e = absurd (cc)
below_found s (x ∷ xs) path a e = by (is_below path x.path && file_has_open s x.file) refl (λ k. below_found s xs path a.2 k)
  where
    by : (b : Bool) → (is_below path x.path && file_has_open s x.file) ≡ b → (open_below s xs path ≡ true → Found s xs path)
        → Found s (x ∷ xs) path
    by true k rest = record {
      file = x.file;
      there = rw (self_file x.file) refl;
      below = rw (self_file x.file) (front_of (is_below path x.path) (file_has_open s x.file) k);
      opens = back_of (is_below path x.path) (file_has_open s x.file) k;
    }
    by false k rest = behind s x xs path a.1 (rest (rw k at e))

found_below : (s : Server) (es : List Entry) (path : List ℕ) (g : ℕ) → exists_in es g ≡ true → is_below path (path_in es g) ≡ true
    → file_has_open s g ≡ true → open_below s es path ≡ true
unfolding open_below exists_in path_in
found_below s [] path g t b o = absurd (cc)
found_below s (x ∷ xs) path g t b o = by (x.file == g) refl (λ u v. found_below s xs path g u v o)
  where
    by : (c : Bool) → (x.file == g) ≡ c
        → (exists_in xs g ≡ true → is_below path (path_in xs g) ≡ true → open_below s xs path ≡ true)
        → open_below s (x ∷ xs) path ≡ true
    by true k rest = rw (both_true (is_below path x.path) (file_has_open s x.file) (rw k at b)
        (ap (file_has_open s) (same_file x.file g k) ∙ o)) refl
    by false k rest = either_true (is_below path x.path && file_has_open s x.file) (open_below s xs path)
        (rest (rw k at t) (rw k at b))

pub below_is : (s : Server) (fs : List ℕ) (d : ℕ) → FileApart s.entries
    → ((g : ℕ) → has g fs ≡ (is_directory s d && (exists_in s.entries g && is_below (path_of s d) (path_in s.entries g))))
    → any_open s fs ≡ (is_directory s d && open_below s s.entries (path_of s d))
below_is s fs d a h = by (any_open s fs) refl
  where
    one : Listed s fs → (is_directory s d && open_below s s.entries (path_of s d)) ≡ true
    one l =
        let k : (is_directory s d && (exists_in s.entries l.file && is_below (path_of s d) (path_in s.entries l.file))) ≡ true
        = sym (h l.file) ∙ l.there in
        let m : (exists_in s.entries l.file && is_below (path_of s d) (path_in s.entries l.file)) ≡ true
        = back_of (is_directory s d) (exists_in s.entries l.file && is_below (path_of s d) (path_in s.entries l.file)) k in
        both_true (is_directory s d) (open_below s s.entries (path_of s d))
        (front_of (is_directory s d) (exists_in s.entries l.file && is_below (path_of s d) (path_in s.entries l.file)) k)
        (found_below s s.entries (path_of s d) l.file
        (front_of (exists_in s.entries l.file) (is_below (path_of s d) (path_in s.entries l.file)) m)
        (back_of (exists_in s.entries l.file) (is_below (path_of s d) (path_in s.entries l.file)) m) l.opens)

    other : Found s s.entries (path_of s d) → is_directory s d ≡ true → any_open s fs ≡ true
    other f t = listed_open s fs f.file (h f.file ∙ both_true (is_directory s d)
        (exists_in s.entries f.file && is_below (path_of s d) (path_in s.entries f.file)) t
        (both_true (exists_in s.entries f.file) (is_below (path_of s d) (path_in s.entries f.file)) f.there f.below)) f.opens

    none : any_open s fs ≡ false → (b : Bool) → (is_directory s d && open_below s s.entries (path_of s d)) ≡ b → false ≡ b
    none e false k = refl
    none e true k = absurd (let p = other (below_found s s.entries (path_of s d) a
        (back_of (is_directory s d) (open_below s s.entries (path_of s d)) k))
        (front_of (is_directory s d) (open_below s s.entries (path_of s d)) k) in cc)

    by : (b : Bool) → any_open s fs ≡ b → any_open s fs ≡ (is_directory s d && open_below s s.entries (path_of s d))
    by true e = e ∙ sym (one (some_listed s fs e))
    by false e = e ∙ none e (is_directory s d && open_below s s.entries (path_of s d)) refl
