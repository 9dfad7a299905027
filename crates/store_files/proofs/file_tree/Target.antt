-- What may stand at the new path of a rename, and what is left of the entries without it.
use Rattle.std.proofs.Common.{◌≡◌, ◌⊎◌, inl, inr, ℕ, ◌+◌, ◌==◌, Bool, true, false, ◌&&◌, ◌||◌, if◌then◌else◌, List, []}
use Rattle.std.proofs.Common.{◌∷◌, ◌++◌, length, Option, Some, None, is_some, refl, sym, ap, subst, ◌∙◌, arith}
use Rattle.std.proofs.lemmas.Grind.{common_steps}
use Rattle.std.proofs.lemmas.Bool.Decides.{nat_tests}
use Rattle.std.proofs.lemmas.List.{append-nil, append_assoc}
use Rattle.std.specs.Str.{bytes_eq}
use Rattle.std.specs.Cmp.Lexicographic.{nat_list_eq_equiv}
use Rattle.spec_exchange.specs.State.{Server, Entry}
use Rattle.spec_exchange.specs.Commands.{path_form}
use Rattle.spec_exchange.specs.Texts.{is_below}
use Rattle.spec_exchange.specs.Files.{find, has_parent, is_directory, has_below, without_file, without_target, moved_path, moved_entries}
use Rattle.spec_exchange.specs.CheckOpen.{target_of}
use Rattle.store_files.specs.file_tree.Shown.{folded, below_key, at_key, path_at, FileApart, IsHouse}
use Rattle.store_files.specs.file_tree.Keys.{key_begins}
use Rattle.store_files.specs.file_tree.Moved.{after_key, name_within, moved_key, target_is_directory}
use Rattle.store_files.proofs.file_tree.Entries.{bytes_same, key_of_path, key_gone, key_stays_free, apart_gone}
use Rattle.store_files.proofs.file_tree.Keys.{find_other}
use Rattle.store_files.proofs.file_tree.Full.{path_filled}
use Rattle.store_files.proofs.file_tree.Below.{below_is}
use Rattle.store_files.proofs.file_tree.Plain.{made_front}
use Rattle.store_files.proofs.file_tree.Housed.{ancestor_house, housed_gone}
use Rattle.store_files.proofs.file_tree.Fronts.{folded_moved}
use Rattle.store_files.proofs.file_tree.Carried.{after_front, front_back, moved_in, moved_out}
use Rattle.store_files.proofs.file_tree.Moving.{path_of_key, one_key}

-- ---- two fronts of one list

pub two_fronts : (a b x y : List ℕ) → a ++ x ≡ b ++ y → ((m : List ℕ) × (b ≡ a ++ m) × (x ≡ m ++ y))
    ⊎ ((m : List ℕ) × (a ≡ b ++ m) × (y ≡ m ++ x))
two_fronts [] b x y e = inl (b, refl, e)
two_fronts (c ∷ cs) [] x y e = inr (c ∷ cs, refl, sym e)
two_fronts (c ∷ cs) (d ∷ ds) x y e = by (two_fronts cs ds x y (cc))
  where
    by : ((m : List ℕ) × (ds ≡ cs ++ m) × (x ≡ m ++ y)) ⊎ ((m : List ℕ) × (cs ≡ ds ++ m) × (y ≡ m ++ x))
        → ((m : List ℕ) × (d ∷ ds ≡ (c ∷ cs) ++ m) × (x ≡ m ++ y)) ⊎ ((m : List ℕ) × (c ∷ cs ≡ (d ∷ ds) ++ m) × (y ≡ m ++ x))
    by (inl h) = let i = h.1 in inl (h.0, (cc), h.2)
    by (inr h) = let i = h.1 in inr (h.0, (cc), h.2)

-- what follows a front within it is nothing, or goes on behind a backslash
pub within_cases : (r : List ℕ) → name_within (Some r) ≡ true → (r ≡ []) ⊎ ((l : List ℕ) × (r ≡ 92 ∷ l))
unfolding name_within
within_cases [] w = inl refl
within_cases (c ∷ cs) w = let e : c ≡ 92 = grind (arith, nat_tests) in inr (cs, ap (λ (x : ℕ). x ∷ cs) e)

within_front : (m r : List ℕ) → name_within (Some (m ++ r)) ≡ true → (m ≡ []) ⊎ ((l : List ℕ) × (m ≡ 92 ∷ l))
unfolding name_within
within_front [] r w = inl refl
within_front (c ∷ cs) r w = let e : c ≡ 92 = grind (arith, nat_tests) in inr (cs, ap (λ (x : ℕ). x ∷ cs) e)

within_part : (m b : List ℕ) → name_within (Some (m ++ 92 ∷ b)) ≡ true → name_within (Some m) ≡ true
unfolding name_within
within_part [] b w = refl
within_part (c ∷ cs) b w = w

pub within_slash : (l : List ℕ) → name_within (Some (92 ∷ l)) ≡ true
unfolding name_within
within_slash l = refl

pub within_none : name_within (Some []) ≡ true
unfolding name_within
within_none = refl

-- what a key within a front is
pub within_rest : (front q : List ℕ) → name_within (after_key front q) ≡ true → (r : List ℕ) × (q ≡ front ++ r)
    × (name_within (Some r) ≡ true)
unfolding name_within
within_rest front q w = by (after_key front q) refl w
  where
    by : (o : Option (List ℕ)) → after_key front q ≡ o → name_within o ≡ true → (r : List ℕ) × (q ≡ front ++ r)
        × (name_within (Some r) ≡ true)
    by None e w = absurd (cc)
    by (Some r) e w = (r, front_back front q r e, w)

pub in_front : (front r : List ℕ) → name_within (Some r) ≡ true → name_within (after_key front (front ++ r)) ≡ true
in_front front r w = ap name_within (after_front front r) ∙ w

pub itself_within : (front : List ℕ) → name_within (after_key front front) ≡ true
itself_within front = subst (λ (q : List ℕ). name_within (after_key front q) ≡ true) (append-nil front) (in_front front [] within_none)

pub below_within : (front l : List ℕ) → name_within (after_key front (front ++ 92 ∷ l)) ≡ true
below_within front l = in_front front (92 ∷ l) (within_slash l)

slashed : (r b : List ℕ) → name_within (Some r) ≡ true → name_within (Some (r ++ 92 ∷ b)) ≡ true
unfolding name_within
slashed [] b w = refl
slashed (c ∷ cs) b w = w

pub within_more : (front a b : List ℕ) → name_within (after_key front a) ≡ true → name_within (after_key front (a ++ 92 ∷ b)) ≡ true
within_more front a b w =
    let h = within_rest front a w in
    let e : a ++ 92 ∷ b ≡ front ++ (h.0 ++ 92 ∷ b) = ap (λ (q : List ℕ). q ++ 92 ∷ b) h.1 ∙ append_assoc front h.0 (92 ∷ b) in
    subst (λ (q : List ℕ). name_within (after_key front q) ≡ true) (sym e) (in_front front (h.0 ++ 92 ∷ b) (slashed h.0 b h.2))

pub begins_append : (a b : List ℕ) → key_begins a (a ++ b) ≡ true
unfolding key_begins
begins_append [] b = refl
begins_append (x ∷ xs) b = let h = begins_append xs b in grind (arith, common_steps)

-- no list is itself and more
pub no_longer : (a m : List ℕ) (c : ℕ) → a ≡ a ++ c ∷ m → false ≡ true
no_longer [] m c e = absurd (cc)
no_longer (x ∷ xs) m c e = no_longer xs m c (cc)

pub some_is : (o : Option ℕ) (g : ℕ) → o ≡ Some g → is_some o ≡ true
some_is None g e = absurd (cc)
some_is (Some x) g e = refl

pub house_of : (o : Option ℕ) (d : ℕ → Bool) (g : ℕ) → o ≡ Some g → IsHouse o d → d g ≡ true
house_of None d g e h = absurd h
house_of (Some x) d g e h = let i : x ≡ g = cc in ap d (sym i) ∙ h

house_some : (o : Option ℕ) (d : ℕ → Bool) → IsHouse o d → (g : ℕ) × (o ≡ Some g) × (d g ≡ true)
house_some None d h = absurd h
house_some (Some g) d h = (g, refl, h)

never : false ≡ true → ⊥
never e = absurd (cc)

both : (b c : Bool) → b ≡ true → c ≡ true → (b && c) ≡ false → false ≡ true
both true true s t u = sym u
both true false s t u = t
both false c s t u = s

-- what stood at the new key: nothing, the file itself, or a file that goes
pub data Stood (es : List Entry) (o : Option ℕ) (f : ℕ) (directory : ℕ → Bool) (old to : List ℕ) : Type 0 where
  Free : o ≡ None → at_key es to ≡ None → Stood es o f directory old to
  Same : o ≡ None → old ≡ to → Stood es o f directory old to
  Goes : (g : ℕ) → o ≡ Some g → at_key es to ≡ Some g → (g == f) ≡ false → directory g ≡ false → Stood es o f directory old to

module _ (s : Server) (f : ℕ) (old to : List ℕ) (apart : FileApart s.entries) (zero : path_at s.entries 0 ≡ None)
    (no_empty : at_key s.entries [] ≡ None)
    (housed : (a b : List ℕ) → is_some (at_key s.entries (a ++ 92 ∷ b)) ≡ true → IsHouse (at_key s.entries a) s.directory)
    (stands : path_at s.entries f ≡ Some old) (form : path_form to ≡ None) (parent : has_parent s to ≡ true)
    (outside : (s.directory f && is_below old to) ≡ false)
    (target : target_is_directory s (target_of f (find s to)) ≡ false) (other : (f == 0) ≡ false) where
  pub filled : (length old == 0) ≡ false
  filled = path_filled s.entries f old apart no_empty stands

  own : at_key s.entries (folded old) ≡ Some f
  own = key_of_path s.entries f old apart stands

  -- the new path isn't the root
  pub to_filled : (length to == 0) ≡ false
  unfolding find is_directory
  to_filled = by to refl target
    where
      turned : (b : Bool) → (f == 0) ≡ false → (0 == f) ≡ b → b ≡ false
      turned true e i = absurd (let x : (f == 0) ≡ true = grind (arith, nat_tests) in cc)
      turned false e i = refl

      by : (p : List ℕ) → to ≡ p → target_is_directory s (target_of f (find s p)) ≡ false → (length p == 0) ≡ false
      by [] e t = absurd (let x = turned (0 == f) other refl in let y = rw x at t in cc)
      by (c ∷ cs) e t = grind arith

  pub found : find s to ≡ at_key s.entries (folded to)
  found = find_other s to to_filled

  -- the new path doesn't stand below the old one
  pub not_below : name_within (after_key (folded old) (folded to)) ≡ true → folded old ≡ folded to
  not_below w =
      let h = within_rest (folded old) (folded to) w in
      by h.0 h.1 (within_cases h.0 h.2)
    where
      by : (r : List ℕ) → folded to ≡ folded old ++ r → (r ≡ []) ⊎ ((l : List ℕ) × (r ≡ 92 ∷ l)) → folded old ≡ folded to
      by r e (inl z) = sym (e ∙ (ap (λ (q : List ℕ). folded old ++ q) z ∙ append-nil (folded old)))
      by r e (inr h) =
          let k : folded to ≡ folded old ++ 92 ∷ h.0 = e ∙ ap (λ (q : List ℕ). folded old ++ q) h.1 in
          let house = house_of (at_key s.entries (folded old)) s.directory f own
          (ancestor_house s to zero housed (made_front to form) parent (folded old) h.0 k) in
          let lies : is_below old to ≡ true = below_is old to filled
          ∙ (ap (key_begins (below_key old)) (k ∙ sym (append_assoc (folded old) (92 ∷ []) h.0))
          ∙ begins_append (below_key old) h.0) in
          absurd (never (both (s.directory f) (is_below old to) house lies outside))

  is_dir : (g : ℕ) → s.directory g ≡ true → is_directory s g ≡ true
  unfolding is_directory
  is_dir g e = by (g == 0)
    where
      by : (b : Bool) → (b || s.directory g) ≡ true
      by true = refl
      by false = e

  -- no directory stands at the new path but the renamed one
  pub no_house : IsHouse (at_key s.entries (folded to)) s.directory → folded old ≡ folded to
  no_house h =
      let k = house_some (at_key s.entries (folded to)) s.directory h in
      by k.0 k.1 k.2 (k.0 == f) refl
    where
      told : (g : ℕ) → at_key s.entries (folded to) ≡ Some g → (g == f) ≡ false
          → target_is_directory s (target_of f (find s to)) ≡ is_directory s g
      told g e n = ap (λ (o : Option ℕ). target_is_directory s (target_of f o)) (found ∙ e) ∙ rw n refl

      by : (g : ℕ) → at_key s.entries (folded to) ≡ Some g → s.directory g ≡ true → (b : Bool) → (g == f) ≡ b → folded old ≡ folded to
      by g e d true i = let same : g ≡ f = grind (arith, nat_tests) in one_key s.entries (folded old) (folded to) f
          apart own (e ∙ ap Some same)
      by g e d false i = absurd (never (sym target ∙ (told g e i ∙ is_dir g d)))

  -- a key within both has both fronts alike
  pub disjoint : (q : List ℕ) → name_within (after_key (folded to) q) ≡ true → name_within (after_key (folded old) q)
      ≡ true → folded old ≡ folded to
  disjoint q w v =
      let h = within_rest (folded to) q w in
      let k = within_rest (folded old) q v in
      by h.0 k.0 h.2 k.2 (two_fronts (folded old) (folded to) k.0 h.0 (sym k.1 ∙ h.1))
    where
      above : (m : List ℕ) → folded to ≡ folded old ++ m → (m ≡ []) ⊎ ((l : List ℕ) × (m ≡ 92 ∷ l)) → folded old ≡ folded to
      above m e (inl z) = sym (e ∙ (ap (λ (q : List ℕ). folded old ++ q) z ∙ append-nil (folded old)))
      above m e (inr h) = not_below (subst (λ (q : List ℕ). name_within (after_key (folded old) q) ≡ true)
          (sym (e ∙ ap (λ (q : List ℕ). folded old ++ q) h.1)) (below_within (folded old) h.0))

      under : (m : List ℕ) → folded old ≡ folded to ++ m → (m ≡ []) ⊎ ((l : List ℕ) × (m ≡ 92 ∷ l)) → folded old ≡ folded to
      under m e (inl z) = e ∙ (ap (λ (q : List ℕ). folded to ++ q) z ∙ append-nil (folded to))
      under m e (inr h) = no_house
          (housed (folded to) h.0 (some_is (at_key s.entries (folded to ++ 92 ∷ h.0)) f
          (ap (at_key s.entries) (sym (e ∙ ap (λ (q : List ℕ). folded to ++ q) h.1)) ∙ own)))

      by : (r p : List ℕ) → name_within (Some r) ≡ true → name_within (Some p) ≡ true
          → ((m : List ℕ) × (folded to ≡ folded old ++ m) × (p ≡ m ++ r))
          ⊎ ((m : List ℕ) × (folded old ≡ folded to ++ m) × (r ≡ m ++ p)) → folded old ≡ folded to
      by r p w v (inl h) = above h.0 h.1 (within_front h.0 r (ap (λ (l : List ℕ). name_within (Some l)) (sym h.2) ∙ v))
      by r p w v (inr h) = under h.0 h.1 (within_front h.0 p (ap (λ (l : List ℕ). name_within (Some l)) (sym h.2) ∙ w))

  -- ---- the entries without the target

  abbrev pub left : List Entry
  left = without_target (target_of f (find s to)) s.entries

  abbrev pub Stands : Type 0
  Stands = Stood s.entries (target_of f (find s to)) f s.directory (folded old) (folded to)

  pub left_none : target_of f (find s to) ≡ None → left ≡ s.entries
  unfolding without_target
  left_none e = ap (λ (o : Option ℕ). without_target o s.entries) e

  pub left_some : (g : ℕ) → target_of f (find s to) ≡ Some g → left ≡ without_file g s.entries
  unfolding without_target
  left_some g e = ap (λ (o : Option ℕ). without_target o s.entries) e

  pub stood : Stands
  unfolding is_directory
  stood = by (at_key s.entries (folded to)) refl
    where
      off : (b c : Bool) → (b || c) ≡ false → c ≡ false
      off true c e = absurd (cc)
      off false c e = e

      put : (g : ℕ) → at_key s.entries (folded to) ≡ Some g → (b : Bool) → (g == f) ≡ b → Stands
      put g e true i =
          let eq : g ≡ f = grind (arith, nat_tests) in
          Same (ap (target_of f) (found ∙ e) ∙ rw i refl) (one_key s.entries (folded old) (folded to) f apart own (e ∙ ap Some eq))
      put g e false i =
          Goes g (ap (target_of f) (found ∙ e) ∙ rw i refl) e i
          (off (g == 0) (s.directory g) (sym (ap (λ (o : Option ℕ). target_is_directory s (target_of f o)) (found ∙ e)
          ∙ rw i refl) ∙ target))

      by : (o : Option ℕ) → at_key s.entries (folded to) ≡ o → Stands
      by None e = Free (ap (target_of f) (found ∙ e)) e
      by (Some g) e = put g e (g == f) refl

  by_key : (g : ℕ) → at_key s.entries (folded to) ≡ Some g → (p : List ℕ) × (path_at s.entries g ≡ Some p) × (folded p ≡ folded to)
  by_key g e = path_of_key s.entries (folded to) g apart e

  pub kept : (q : List ℕ) → bytes_eq (folded to) q ≡ false → at_key left q ≡ at_key s.entries q
  kept q n = by stood
    where
      by : Stands → at_key left q ≡ at_key s.entries q
      by (Free e z) = ap (λ es. at_key es q) (left_none e)
      by (Same e z) = ap (λ es. at_key es q) (left_none e)
      by (Goes g e k i d) =
          let p = by_key g k in
          ap (λ es. at_key es q) (left_some g e) ∙ (key_gone s.entries g p.0 q apart p.1 ∙ rw (p.2, n) refl)

  pub all : folded old ≡ folded to → (q : List ℕ) → at_key left q ≡ at_key s.entries q
  all z q = by stood
    where
      by : Stands → at_key left q ≡ at_key s.entries q
      by (Free e n) = ap (λ es. at_key es q) (left_none e)
      by (Same e n) = ap (λ es. at_key es q) (left_none e)
      by (Goes g e k i d) =
          let same : g ≡ f = (let x = sym k ∙ (ap (at_key s.entries) (sym z) ∙ own) in cc) in
          absurd (let t : (g == f) ≡ true = grind (arith, nat_tests) in cc)

  -- what no entry has none that is left has
  pub left_free : (q : List ℕ) → at_key s.entries q ≡ None → at_key left q ≡ None
  left_free q n = by stood
    where
      by : Stands → at_key left q ≡ None
      by (Free e z) = ap (λ es. at_key es q) (left_none e) ∙ n
      by (Same e z) = ap (λ es. at_key es q) (left_none e) ∙ n
      by (Goes g e k i d) = ap (λ es. at_key es q) (left_some g e) ∙ key_stays_free s.entries g q n

  -- nothing that isn't renamed itself stands at the new path or below it
  pub free_there : (q : List ℕ) → name_within (after_key (folded to) q) ≡ true → name_within (after_key (folded old) q)
      ≡ false → at_key left q ≡ None
  free_there q w n =
      let h = within_rest (folded to) q w in
      by h.0 h.1 (within_cases h.0 h.2)
    where
      apart_from : folded old ≡ folded to → false ≡ true
      apart_from z = sym n ∙ (ap (λ (k : List ℕ). name_within (after_key k q)) z ∙ w)

      here : q ≡ folded to → Stands → at_key left q ≡ None
      here e (Free x z) = left_free q (ap (at_key s.entries) e ∙ z)
      here e (Same x z) = absurd (never (apart_from z))
      here e (Goes g x k i d) =
          let p = by_key g k in
          ap (λ es. at_key es q) (left_some g x)
          ∙ (key_gone s.entries g p.0 q apart p.1 ∙ rw (p.2, e, nat_list_eq_equiv.refl (folded to)) refl)

      none : (o : Option ℕ) → at_key s.entries q ≡ o → (l : List ℕ) → q ≡ folded to ++ 92 ∷ l → at_key s.entries q ≡ None
      none None e l i = e
      none (Some g) e l i =
          absurd (never (apart_from
          (no_house (housed (folded to) l (some_is (at_key s.entries (folded to ++ 92 ∷ l)) g
          (ap (at_key s.entries) (sym i) ∙ e))))))

      by : (r : List ℕ) → q ≡ folded to ++ r → (r ≡ []) ⊎ ((l : List ℕ) × (r ≡ 92 ∷ l)) → at_key left q ≡ None
      by r e (inl z) = here (e ∙ (ap (λ (k : List ℕ). folded to ++ k) z ∙ append-nil (folded to))) stood
      by r e (inr h) = left_free q (none (at_key s.entries q) refl h.0 (e ∙ ap (λ (k : List ℕ). folded to ++ k) h.1))

  pub left_apart : FileApart left
  left_apart = by stood
    where
      by : Stands → FileApart left
      by (Free e z) = subst (λ es. FileApart es) (sym (left_none e)) apart
      by (Same e z) = subst (λ es. FileApart es) (sym (left_none e)) apart
      by (Goes g e k i d) = subst (λ es. FileApart es) (sym (left_some g e)) (apart_gone s.entries g apart)

  abbrev Housed : List Entry → Type 0
  Housed es = (a b : List ℕ) → is_some (at_key es (a ++ 92 ∷ b)) ≡ true → IsHouse (at_key es a) s.directory

  left_housed : Housed left
  left_housed = by stood
    where
      none : (b c : Bool) → b ≡ false → (b && c) ≡ false
      none true c e = absurd (cc)
      none false c e = refl

      by : Stands → Housed left
      by (Free e z) = subst (λ es. Housed es) (sym (left_none e)) housed
      by (Same e z) = subst (λ es. Housed es) (sym (left_none e)) housed
      by (Goes g e k i d) =
          let p = by_key g k in
          subst (λ es. Housed es) (sym (left_some g e))
          (housed_gone s.entries s.directory g p.0 apart p.1 (path_filled s.entries g p.0 apart no_empty p.1)
          (none (s.directory g) (has_below s.entries p.0) d) housed)

  folds : (path : List ℕ) → folded (moved_path old to path) ≡ moved_key (name_within (after_key (folded old) (folded path)))
      (folded to) (after_key (folded old) (folded path)) (folded path)
  folds path = folded_moved old to path filled

  -- the entries behind the rename, by keys with the new front and by others
  with_new : (r : List ℕ) → name_within (Some r) ≡ true → at_key (moved_entries old to left) (folded to ++ r)
      ≡ at_key left (folded old ++ r)
  with_new r w = moved_in old to folds left r w free_there

  pub without_new : (q : List ℕ) → name_within (after_key (folded to) q) ≡ false → at_key (moved_entries old to left) q
      ≡ (if name_within (after_key (folded old) q) then None else at_key left q)
  without_new q n = moved_out old to folds left q n

  not_here : (b : Bool) → (b ≡ true → false ≡ true) → b ≡ false
  not_here true h = sym (h refl)
  not_here false h = refl

  -- a directory above the new path stays where it is
  above : (a l : List ℕ) → folded to ≡ a ++ 92 ∷ l → IsHouse (at_key (moved_entries old to left) a) s.directory
  above a l e = rw (without_new a outside_new, not_here (name_within (after_key (folded old) a)) not_old, kept a differs)
      (ancestor_house s to zero housed (made_front to form) parent a l e)
    where
      shorter : (m : List ℕ) → a ≡ folded to ++ m → false ≡ true
      shorter [] z = no_longer a l 92 (z ∙ (append-nil (folded to) ∙ e))
      shorter (c ∷ cs) z =
          no_longer a (l ++ c ∷ cs) 92 (z ∙ (ap (λ (q : List ℕ). q ++ c ∷ cs) e ∙ append_assoc a (92 ∷ l) (c ∷ cs)))

      outside_new : name_within (after_key (folded to) a) ≡ false
      outside_new = not_here (name_within (after_key (folded to) a)) (λ w. let h = within_rest (folded to) a w in shorter h.0 h.1)

      longer : (r : List ℕ) → a ≡ folded old ++ r → folded old ≡ folded to → false ≡ true
      longer r i z = shorter r (i ∙ ap (λ (q : List ℕ). q ++ r) z)

      not_old : name_within (after_key (folded old) a) ≡ true → false ≡ true
      not_old w =
          let h = within_rest (folded old) a w in
          longer h.0 h.1 (not_below (subst (λ (q : List ℕ). name_within (after_key (folded old) q) ≡ true) (sym e)
          (within_more (folded old) a l w)))

      differs : bytes_eq (folded to) a ≡ false
      differs = not_here (bytes_eq (folded to) a) (λ t. shorter [] (sym (bytes_same (folded to) a t) ∙ sym (append-nil (folded to))))

  pub housed_moved : Housed (moved_entries old to left)
  housed_moved a b t = by (name_within (after_key (folded to) (a ++ 92 ∷ b))) refl
    where
      head_is : (c : ℕ) (m r : List ℕ) → 92 ∷ b ≡ (c ∷ m) ++ r → c ≡ 92
      head_is c m r e = sym (cc)

      below : (r m : List ℕ) → name_within (Some r) ≡ true → a ++ 92 ∷ b ≡ folded to ++ r → a ≡ folded to ++ m → r ≡ m
          ++ 92 ∷ b → IsHouse (at_key (moved_entries old to left) a) s.directory
      below r m w e i j =
          let v = within_part m b (ap (λ (l : List ℕ). name_within (Some l)) (sym j) ∙ w) in
          let q : folded old ++ r ≡ (folded old ++ m) ++ 92 ∷ b = ap (λ (l : List ℕ). folded old ++ l) j
          ∙ sym (append_assoc (folded old) m (92 ∷ b)) in
          let there : is_some (at_key left ((folded old ++ m) ++ 92 ∷ b)) ≡ true =
          ap (λ (l : List ℕ). is_some (at_key left l)) (sym q)
          ∙ (ap is_some (sym (with_new r w)) ∙ (ap (λ (l : List ℕ). is_some (at_key (moved_entries old to left) l))
          (sym e) ∙ t)) in
          subst (λ (o : Option ℕ). IsHouse o s.directory)
          (sym (ap (at_key (moved_entries old to left)) i ∙ with_new m v)) (left_housed (folded old ++ m) b there)

      up : (r m : List ℕ) → name_within (Some r) ≡ true → a ++ 92 ∷ b ≡ folded to ++ r → folded to ≡ a ++ m → 92 ∷ b ≡ m ++ r
          → IsHouse (at_key (moved_entries old to left) a) s.directory
      up r [] w e i j = below r [] w e (sym (append-nil a) ∙ (sym i ∙ sym (append-nil (folded to)))) (sym j)
      up r (c ∷ cs) w e i j = above a cs (i ∙ ap (λ (x : ℕ). a ++ x ∷ cs) (head_is c cs r j))

      inside : (r : List ℕ) → name_within (Some r) ≡ true → a ++ 92 ∷ b ≡ folded to ++ r
          → ((m : List ℕ) × (folded to ≡ a ++ m) × (92 ∷ b ≡ m ++ r))
          ⊎ ((m : List ℕ) × (a ≡ folded to ++ m) × (r ≡ m ++ 92 ∷ b))
          → IsHouse (at_key (moved_entries old to left) a) s.directory
      inside r w e (inl h) = up r h.0 w e h.1 h.2
      inside r w e (inr h) = below r h.0 w e h.1 h.2

      some_if : (c : Bool) (o : Option ℕ) → is_some (if c then None else o) ≡ true → (c ≡ false) × (is_some o ≡ true)
      some_if true o e = absurd (cc)
      some_if false o e = (refl, e)

      by : (c : Bool) → name_within (after_key (folded to) (a ++ 92 ∷ b)) ≡ c → IsHouse (at_key (moved_entries old to left) a) s.directory
      by true w =
          let h = within_rest (folded to) (a ++ 92 ∷ b) w in
          inside h.0 h.2 h.1 (two_fronts a (folded to) (92 ∷ b) h.0 h.1)
      by false w =
          let x = some_if (name_within (after_key (folded old) (a ++ 92 ∷ b))) (at_key left (a ++ 92 ∷ b))
          (ap is_some (sym (without_new (a ++ 92 ∷ b) w)) ∙ t) in
          rw (
            without_new a (not_here (name_within (after_key (folded to) a)) (λ v. sym w ∙ within_more (folded to) a b v)),
            not_here (name_within (after_key (folded old) a)) (λ v. sym x.0 ∙ within_more (folded old) a b v),
          ) (left_housed a b x.1)
