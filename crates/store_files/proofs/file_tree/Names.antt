-- What the keys name while a rename goes on.
use Rattle.std.proofs.Common.{◌≡◌, ℕ, ◌==◌, Bool, true, false, not, ◌&&◌, ◌||◌, if◌then◌else◌, List, [], ◌∷◌, Option}
use Rattle.std.proofs.Common.{Some, None, is_some, option_map, Result, Ok, Err, OnOk, refl, sym, ap, ◌∙◌, arith}
use Rattle.std.specs.Bool.{⊤}
use Rattle.std.proofs.lemmas.Grind.{common_steps}
use Rattle.std.proofs.lemmas.Bool.Decides.{nat_tests}
use Rattle.std.specs.Str.{bytes_eq}
use Rattle.std.specs.String.{string_bytes}
use Rattle.store_files.proofs.file_tree.Entries.{bytes_same}
use Rattle.store_files.specs.declared.file_tree.row.Row.{Row}
use Rattle.store_files.specs.declared.file_tree.new_name.NewName.{NewName}
use Rattle.store_files.specs.file_tree.Moved.{row_key, name_taken, given_back, moved_to, one_by_one, same_file, has_name}

-- some name has the key
unfoldable pub keyed : List NewName → List ℕ → Bool
keyed [] q = false
keyed (n ∷ ns) q = bytes_eq (string_bytes n.key) q || keyed ns q

self_same : (f : ℕ) → (f == f) ≡ true
self_same f = grind arith

off : (b c : Bool) → (b || c) ≡ false → b ≡ false
off true c e = absurd (cc)
off false c e = refl

rest : (b c : Bool) → (b || c) ≡ false → c ≡ false
rest true c e = absurd (cc)
rest false c e = e

if_more : (b c : Bool) → c ≡ true → (if b then true else c) ≡ true
if_more true c e = refl
if_more false c e = e

-- ---- taking keys

pub taken_none : (ns : List NewName) (q : List ℕ) (o : Option ℕ) → keyed ns q ≡ false → one_by_one name_taken ns q o ≡ o
unfolding keyed
taken_none [] q o e = refl
taken_none (n ∷ ns) q o e = let h = taken_none ns q o in grind (arith, common_steps)

pub taken_stays : (ns : List NewName) (q : List ℕ) (g : ℕ) → one_by_one name_taken ns q (Some g) ≡ Some g
taken_stays [] q g = refl
taken_stays (n ∷ ns) q g = by (bytes_eq (string_bytes n.key) q) (taken_stays ns q g)
  where
    by : (b : Bool) → one_by_one name_taken ns q (Some g) ≡ Some g → one_by_one name_taken ns q (if b then Some g else Some g) ≡ Some g
    by true t = t
    by false t = t

pub taken_some : (ns : List NewName) (q : List ℕ) (o : Option ℕ) → keyed ns q ≡ true → is_some (one_by_one name_taken ns q o) ≡ true
unfolding keyed
taken_some [] q o e = absurd (cc)
taken_some (n ∷ ns) q (Some g) e = ap is_some (taken_stays (n ∷ ns) q g)
taken_some (n ∷ ns) q None e = by (bytes_eq (string_bytes n.key) q) refl (taken_some ns q None)
  where
    later : (b : Bool) → (b || keyed ns q) ≡ true → b ≡ false → keyed ns q ≡ true
    later true e f = absurd (cc)
    later false e f = e

    by : (b : Bool) → bytes_eq (string_bytes n.key) q ≡ b → (keyed ns q ≡ true → is_some (one_by_one name_taken ns q None)
        ≡ true) → is_some (one_by_one name_taken ns q (if b then Some n.file else None)) ≡ true
    by true t more = ap is_some (taken_stays ns q n.file)
    by false t more = more (later (bytes_eq (string_bytes n.key) q) e t)

-- ---- giving them back

module _ (rows : ℕ → Option Row) (q : List ℕ) where
  back_none : (ns : List NewName) → one_by_one (given_back rows) ns q None ≡ None
  back_none [] = refl
  back_none (n ∷ ns) = by (bytes_eq (string_bytes n.key) q) (back_none ns)
    where
      by : (b : Bool) → one_by_one (given_back rows) ns q None ≡ None → one_by_one (given_back rows) ns q
          (if b && (false && not (row_key (rows n.file) q)) then None else None) ≡ None
      by true t = t
      by false t = t

  module _ (g : ℕ) (own : row_key (rows g) q ≡ true) where
    back_one : (n : NewName) → given_back rows n q (Some g) ≡ Some g
    back_one n = by (bytes_eq (string_bytes n.key) q) (g == n.file) refl
      where
        same : (g == n.file) ≡ true → row_key (rows n.file) q ≡ true
        same e = let i : g ≡ n.file = grind (arith, nat_tests) in ap (λ f. row_key (rows f) q) (sym i) ∙ own

        by : (b c : Bool) → (g == n.file) ≡ c → (if b && (c && not (row_key (rows n.file) q)) then None else Some g) ≡ Some g
        by false c e = refl
        by true false e = refl
        by true true e = rw (same e) refl

    -- a key that named its own file goes on naming it
    back_stays : (ns : List NewName) → one_by_one (given_back rows) ns q (Some g) ≡ Some g
    back_stays [] = refl
    back_stays (n ∷ ns) = ap (λ o. one_by_one (given_back rows) ns q o) (back_one n) ∙ back_stays ns

    pub back_own : (ns : List NewName) → one_by_one (given_back rows) ns q (one_by_one name_taken ns q (Some g)) ≡ Some g
    back_own ns = ap (λ o. one_by_one (given_back rows) ns q o) (taken_stays ns q g) ∙ back_stays ns

  -- a key that named nothing names nothing again
  pub back_free : (ns : List NewName) → ((f : ℕ) → row_key (rows f) q ≡ false) → one_by_one (given_back rows) ns q
      (one_by_one name_taken ns q None) ≡ None
  back_free [] none = refl
  back_free (n ∷ ns) none = by (bytes_eq (string_bytes n.key) q) refl (back_free ns none)
    where
      by : (b : Bool) → bytes_eq (string_bytes n.key) q ≡ b → one_by_one (given_back rows) ns q
          (one_by_one name_taken ns q None) ≡ None → one_by_one (given_back rows) (n ∷ ns) q
          (one_by_one name_taken (n ∷ ns) q None) ≡ None
      by false e t = rw e t
      by true e t = rw (e, taken_stays ns q n.file, self_same n.file, none n.file) (back_none ns)

-- ---- moving the files

-- of the names with this key each is of file g, and no file of the others has it
abbrev pub OnlyOf : (ℕ → Option Row) → List NewName → List ℕ → ℕ → Type 0
OnlyOf rows [] q g = ⊤
OnlyOf rows (n ∷ ns) q g = (bytes_eq (string_bytes n.key) q ≡ true → n.file ≡ g)
    × (bytes_eq (string_bytes n.key) q ≡ false → row_key (rows n.file) q ≡ false) × OnlyOf rows ns q g

module _ (rows : ℕ → Option Row) (q : List ℕ) where
  pub moved_none : (ns : List NewName) → one_by_one (moved_to rows) ns q None ≡ None
  moved_none [] = refl
  moved_none (n ∷ ns) = by (bytes_eq (string_bytes n.key) q) (row_key (rows n.file) q) (moved_none ns)
    where
      by : (b c : Bool) → one_by_one (moved_to rows) ns q None ≡ None → one_by_one (moved_to rows) ns q
          (if b then None else if c then None else None) ≡ None
      by true c t = t
      by false true t = t
      by false false t = t

  pub moved_kept : (ns : List NewName) (o : Option ℕ) → keyed ns q ≡ false
      → ((f : ℕ) → has_name ns f ≡ true → row_key (rows f) q ≡ false) → one_by_one (moved_to rows) ns q o ≡ o
  unfolding keyed
  moved_kept [] o e none = refl
  moved_kept (n ∷ ns) o e none =
      rw (off (bytes_eq (string_bytes n.key) q) (keyed ns q) e, none n.file (rw (self_same n.file) refl))
      (moved_kept ns o (rest (bytes_eq (string_bytes n.key) q) (keyed ns q) e) (λ f h. none f (if_more (n.file == f) (has_name ns f) h)))

  pub moved_gone : (ns : List NewName) (g : ℕ) → keyed ns q ≡ false → has_name ns g ≡ true → row_key (rows g) q ≡ true
      → one_by_one (moved_to rows) ns q (Some g) ≡ None
  unfolding keyed
  moved_gone [] g e h own = absurd (cc)
  moved_gone (n ∷ ns) g e h own = rw (off (bytes_eq (string_bytes n.key) q) (keyed ns q) e)
      (by (row_key (rows n.file) q) refl (λ k t. moved_gone ns g k t own))
    where
      still : (b : Bool) → (n.file == g) ≡ b → row_key (rows n.file) q ≡ false → (if b then true else has_name ns g)
          ≡ true → has_name ns g ≡ true
      still true i o t = let same : n.file ≡ g = grind (arith, nat_tests) in absurd (let x = ap (λ f. row_key (rows f) q) same in cc)
      still false i o t = t

      by : (b : Bool) → row_key (rows n.file) q ≡ b → (keyed ns q ≡ false → has_name ns g ≡ true
          → one_by_one (moved_to rows) ns q (Some g) ≡ None) → one_by_one (moved_to rows) ns q
          (if b then None else Some g) ≡ None
      by true o more = moved_none ns
      by false o more = more (rest (bytes_eq (string_bytes n.key) q) (keyed ns q) e) (still (n.file == g) refl o h)

  module _ (g : ℕ) where
    moved_same : (ns : List NewName) → OnlyOf rows ns q g → one_by_one (moved_to rows) ns q (Some g) ≡ Some g
    moved_same [] a = refl
    moved_same (n ∷ ns) a = by (bytes_eq (string_bytes n.key) q) refl (moved_same ns a.2)
      where
        by : (b : Bool) → bytes_eq (string_bytes n.key) q ≡ b → one_by_one (moved_to rows) ns q (Some g) ≡ Some g
            → one_by_one (moved_to rows) ns q (if b then Some n.file else if row_key (rows n.file) q then None else Some
            g) ≡ Some g
        by true e t = rw (a.0 e) t
        by false e t = rw (a.1 e) t

    pub moved_there : (ns : List NewName) (x : ℕ) → keyed ns q ≡ true → OnlyOf rows ns q g → one_by_one (moved_to rows)
        ns q (Some x) ≡ Some g
    unfolding keyed
    moved_there [] x e a = absurd (cc)
    moved_there (n ∷ ns) x e a = by (bytes_eq (string_bytes n.key) q) refl e (λ k. moved_there ns x k a.2)
      where
        by : (b : Bool) → bytes_eq (string_bytes n.key) q ≡ b → (b || keyed ns q) ≡ true
            → (keyed ns q ≡ true → one_by_one (moved_to rows) ns q (Some x) ≡ Some g) → one_by_one (moved_to rows) ns q
            (if b then Some n.file else if row_key (rows n.file) q then None else Some x) ≡ Some g
        by true e t more = rw (a.0 e) (moved_same ns a.2)
        by false e t more = rw (a.1 e) (more t)

-- ---- one name

some_found : (o : Option ℕ) (x : ℕ) → is_some o ≡ true → o ≡ (if is_some o then o else Some x)
some_found o x e = rw e refl

none_found : (o : Option ℕ) (x : ℕ) → is_some o ≡ false → Some x ≡ (if is_some o then o else Some x)
none_found o x e = rw e refl

module _ (n : NewName) (q : List ℕ) (at : List ℕ → Option ℕ) where
  same_key : bytes_eq (string_bytes n.key) q ≡ true → string_bytes n.key ≡ q
  same_key e = bytes_same (string_bytes n.key) q e

  -- a key that named something stays
  pub taken_stood : is_some (at (string_bytes n.key)) ≡ true → at q ≡ name_taken n q (at q)
  taken_stood e = by (bytes_eq (string_bytes n.key) q) refl
    where
      by : (b : Bool) → bytes_eq (string_bytes n.key) q ≡ b → at q ≡ (if b then (if is_some (at q) then at q else Some n.file) else at q)
      by true i = some_found (at q) n.file (ap (λ (k : List ℕ). is_some (at k)) (sym (same_key i)) ∙ e)
      by false i = refl

  -- any other is taken
  pub taken_new : is_some (at (string_bytes n.key)) ≡ false
      → (if bytes_eq (string_bytes n.key) q then Some n.file else at q) ≡ name_taken n q (at q)
  taken_new e = by (bytes_eq (string_bytes n.key) q) refl
    where
      by : (b : Bool) → bytes_eq (string_bytes n.key) q ≡ b → (if b then Some n.file else at q)
          ≡ (if b then (if is_some (at q) then at q else Some n.file) else at q)
      by true i = none_found (at q) n.file (ap (λ (k : List ℕ). is_some (at k)) (sym (same_key i)) ∙ e)
      by false i = refl

  module _ (rows : ℕ → Option Row) where
    abbrev is_given : List ℕ → Bool
    is_given k = same_file (at k) n.file && not (row_key (rows n.file) k)

    pub given_forgot : is_given (string_bytes n.key) ≡ true → (if bytes_eq (string_bytes n.key) q then None else at q)
        ≡ given_back rows n q (at q)
    given_forgot e = by (bytes_eq (string_bytes n.key) q) refl
      where
        by : (b : Bool) → bytes_eq (string_bytes n.key) q ≡ b → (if b then None else at q) ≡ (if b && is_given q then None else at q)
        by true i = rw (ap is_given (sym (same_key i)) ∙ e) refl
        by false i = refl

    pub given_stays : is_given (string_bytes n.key) ≡ false → at q ≡ given_back rows n q (at q)
    given_stays e = by (bytes_eq (string_bytes n.key) q) refl
      where
        by : (b : Bool) → bytes_eq (string_bytes n.key) q ≡ b → at q ≡ (if b && is_given q then None else at q)
        by true i = rw (ap is_given (sym (same_key i)) ∙ e) refl
        by false i = refl

    -- the key was the file's own
    pub moved_own : row_key (rows n.file) (string_bytes n.key) ≡ true
        → (if bytes_eq (string_bytes n.key) q then option_map (λ (_ : ℕ). n.file) (at q) else at q)
        ≡ moved_to rows n q (at q)
    moved_own e = by (bytes_eq (string_bytes n.key) q) refl
      where
        other : (o : Option Row) → row_key o (string_bytes n.key) ≡ true → bytes_eq (string_bytes n.key) q ≡ false → row_key o q ≡ false
        other None e i = absurd (cc)
        other (Some r) e i = ap (λ (k : List ℕ). bytes_eq k q) (bytes_same (string_bytes r.key) (string_bytes n.key) e) ∙ i

        by : (b : Bool) → bytes_eq (string_bytes n.key) q ≡ b
            → (if b then option_map (λ (_ : ℕ). n.file) (at q) else at q)
            ≡ (if b then option_map (λ (_ : ℕ). n.file) (at q) else if row_key (rows n.file) q then None else at q)
        by true i = refl
        by false i = rw (other (rows n.file) e i) refl

    -- the file had another key, which names nothing now
    pub moved_other : row_key (rows n.file) (string_bytes n.key) ≡ false
        → (if bytes_eq (string_bytes n.key) q then option_map (λ (_ : ℕ). n.file)
        (if row_key (rows n.file) q then None else at q) else (if row_key (rows n.file) q then None else at q))
        ≡ moved_to rows n q (at q)
    moved_other e = by (bytes_eq (string_bytes n.key) q) refl
      where
        by : (b : Bool) → bytes_eq (string_bytes n.key) q ≡ b
            → (if b then option_map (λ (_ : ℕ). n.file) (if row_key (rows n.file) q then None else at q) else
            (if row_key (rows n.file) q then None else at q))
            ≡ (if b then option_map (λ (_ : ℕ). n.file) (at q) else if row_key (rows n.file) q then None else at q)
        by true i = rw (ap (row_key (rows n.file)) (sym (same_key i)) ∙ e) refl
        by false i = refl

-- ---- a key that names another file

mapped_some : (o : Option ℕ) (v : ℕ) → is_some o ≡ true → Some v ≡ option_map (λ (_ : ℕ). v) o
mapped_some None v e = absurd (cc)
mapped_some (Some x) v e = refl

mapped_none : (o : Option ℕ) (v : ℕ) → is_some o ≡ false → o ≡ option_map (λ (_ : ℕ). v) o
mapped_none None v e = refl
mapped_none (Some x) v e = absurd (cc)

pub set_there : (key q : List ℕ) (v : ℕ) (at : List ℕ → Option ℕ) → is_some (at key) ≡ true
    → (if bytes_eq key q then Some v else at q) ≡ (if bytes_eq key q then option_map (λ (_ : ℕ). v) (at q) else at q)
set_there key q v at e = by (bytes_eq key q) refl
  where
    by : (b : Bool) → bytes_eq key q ≡ b → (if b then Some v else at q) ≡ (if b then option_map (λ (_ : ℕ). v) (at q) else at q)
    by true i = mapped_some (at q) v (ap (λ (k : List ℕ). is_some (at k)) (sym (bytes_same key q i)) ∙ e)
    by false i = refl

pub set_absent : (key q : List ℕ) (v : ℕ) (at : List ℕ → Option ℕ) → is_some (at key) ≡ false → at q
    ≡ (if bytes_eq key q then option_map (λ (_ : ℕ). v) (at q) else at q)
set_absent key q v at e = by (bytes_eq key q) refl
  where
    by : (b : Bool) → bytes_eq key q ≡ b → at q ≡ (if b then option_map (λ (_ : ℕ). v) (at q) else at q)
    by true i = mapped_none (at q) v (ap (λ (k : List ℕ). is_some (at k)) (sym (bytes_same key q i)) ∙ e)
    by false i = refl

pub taken_key : {X E : Type 0} (n : NewName) (at new : List ℕ → Option ℕ) (r : Result X E) → is_some (at (string_bytes n.key)) ≡ false
    → OnOk r ((q : List ℕ) → new q ≡ (if bytes_eq (string_bytes n.key) q then Some n.file else at q))
    → OnOk r ((q : List ℕ) → new q ≡ name_taken n q (at q))
taken_key n at new (Ok u) e h = λ q. h q ∙ taken_new n q at e
taken_key n at new (Err x) e h = h
