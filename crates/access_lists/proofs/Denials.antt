-- The first rule that denies, and the least of the rules that deny each right.
use Rattle.std.proofs.Common.{◌≡◌, ◌≤◌, ◌+◌, ℕ, Bool, true, false, not, ◌&&◌, ◌||◌, ◌⊎◌, inl, inr, List, [], ◌∷◌}
use Rattle.std.proofs.Common.{Option, Some, None, nat_le, if◌then◌else◌, subst, le_refl, refl, sym, ap, ◌∙◌, arith}
use Rattle.std.proofs.lemmas.Bool.Decides.{nat_tests}
use Rattle.access_lists.specs.declared.rules.Rule.{Rule}
use Rattle.access_lists.specs.declared.deciding.Asked.{Asked}
use Rattle.access_lists.specs.Decide.{has_right, bears_on, deciding, Deciding, denying, denial, least}
use Rattle.access_lists.specs.Walk.{asked_of, meets, left_of, judged_one, judged_behind}

-- no number, or one that isn't below m
abbrev AtLeast : ℕ → Option ℕ → Type 0
AtLeast m None = Unit {0}
AtLeast m (Some k) = m ≤ k

weaker : (m : ℕ) (o : Option ℕ) → AtLeast (m + 1) o → AtLeast m o
weaker m None l = tt {0}
weaker m (Some k) l = omega (arith, l)

chosen_bound : (m x y : ℕ) (b : Bool) → m ≤ x → m ≤ y → AtLeast m (if b then Some x else Some y)
chosen_bound m x y true p q = p
chosen_bound m x y false p q = q

second_of : (m x : ℕ) → m ≤ x → (b : Bool) → nat_le x m ≡ b → (if b then Some x else Some m) ≡ Some m
second_of m x p true e = let s : x ≡ m = grind (arith, nat_tests) in ap Some s
second_of m x p false e = refl

least_bound : (m : ℕ) (a b : Option ℕ) → AtLeast m a → AtLeast m b → AtLeast m (least a b)
unfolding least
least_bound m None b p q = q
least_bound m (Some x) None p q = p
least_bound m (Some x) (Some y) p q = chosen_bound m x y (nat_le x y) p q

least_first : (m : ℕ) (b : Option ℕ) → AtLeast m b → least (Some m) b ≡ Some m
unfolding least
least_first m None q = refl
least_first m (Some y) q = let e : nat_le m y ≡ true = grind (arith, nat_tests) in rw e refl

least_second : (m : ℕ) (a : Option ℕ) → AtLeast m a → least a (Some m) ≡ Some m
unfolding least
least_second m None p = refl
least_second m (Some x) p = second_of m x p (nat_le x m) refl

-- one of three is the number than which none is less
one_found : (m : ℕ) (a b c : Option ℕ) → AtLeast m a → AtLeast m b → AtLeast m c → (a ≡ Some m) ⊎ ((b ≡ Some m) ⊎ (c ≡ Some m))
    → least a (least b c) ≡ Some m
one_found m a b c p q r (inl e) = rw e (least_first m (least b c) (least_bound m b c q r))
one_found m a b c p q r (inr (inl e)) = rw (e, least_first m c r) (least_second m a p)
one_found m a b c p q r (inr (inr e)) = rw (e, least_second m b q) (least_second m a p)

allowed : (b : Bool) → ((true && true) && not b) ≡ false → b ≡ true
allowed true d = refl
allowed false d = sym d

-- ---- one right

module _ (x : Rule) (xs : List Rule) (name path : List ℕ) (r n : ℕ) where
  -- a rule that doesn't bear on the user and the path decides nothing
  unborne : (asked : Bool) → bears_on x name path ≡ false
      → denial n (x ∷ xs) name path r asked ≡ denial (n + 1) xs name path r asked
  unfolding denial deciding
  unborne false e = refl
  unborne true e = rw e refl

  -- where a rule that bears denies nothing that is asked, what it has is asked no more
  passed : (asked has : Bool) → bears_on x name path ≡ true → has_right x.rights r ≡ has → ((asked && has) && not x.allow) ≡ false
      → denial n (x ∷ xs) name path r asked ≡ denial (n + 1) xs name path r (asked && not has)
  unfolding denial deciding denying
  passed false has e h d = refl
  passed true false e h d = rw (e, h) refl
  passed true true e h d = rw (e, h, allowed x.allow d) refl

  -- a rule that bears denies what it has
  denied : (asked : Bool) → bears_on x name path ≡ true → has_right x.rights r ≡ true → asked ≡ true → x.allow ≡ false
      → denial n (x ∷ xs) name path r asked ≡ Some n
  unfolding denial deciding denying
  denied asked e h a d = rw (a, e, h, d) refl

bounded_at : (n : ℕ) (b : Bool) → AtLeast n (if b then None else Some n)
bounded_at n true = tt {0}
bounded_at n false = le_refl n

bounded_by : (n : ℕ) (x : Rule) (o : Option Deciding) (b : Bool) → AtLeast n (denying o)
    → AtLeast n (denying (if b then Some (record { rule = n; allows = x.allow }) else o))
unfolding denying
bounded_by n x o false l = l
bounded_by n x o true l = bounded_at n x.allow

bounded : (n : ℕ) (xs : List Rule) (name path : List ℕ) (r : ℕ) (asked : Bool) → AtLeast n (denial n xs name path r asked)
unfolding denial deciding denying
bounded n xs name path r false = tt {0}
bounded n [] name path r true = tt {0}
bounded n (x ∷ xs) name path r true = bounded_by n x (deciding (n + 1) xs name path r) (bears_on x name path && has_right x.rights r)
    (weaker n (denying (deciding (n + 1) xs name path r)) (bounded (n + 1) xs name path r true))

-- ---- all three

-- what each rule of a list, counted from n on, leaves of what is asked
unfoldable pub judged_from : ℕ → List Rule → List ℕ → List ℕ → Asked → Option ℕ
judged_from n [] name path a = None
judged_from n (x ∷ xs) name path a = judged_behind (judged_one x name path a) (n + 1) (λ b. judged_from (n + 1) xs name path b)

unfoldable pub least_denial : ℕ → List Rule → List ℕ → List ℕ → Asked → Option ℕ
least_denial n xs name path a = least (denial n xs name path 0 a.read)
    (least (denial n xs name path 1 a.write) (denial n xs name path 2 a.delete))

Holds : Bool → Type 0
Holds true = Unit {0}
Holds false = ⊥

pub true_false : true ≡ false → ⊥
unfolding Holds
true_false e = subst Holds e (tt {0})

and_nothing : (b : Bool) → (b && not true) ≡ false
and_nothing true = refl
and_nothing false = refl

-- what a rule that bears denies nothing of, and where it denies something
none_met : (p q s allow : Bool) → ((p || (q || s)) && not allow) ≡ false
    → ((p && not allow) ≡ false) × (((q && not allow) ≡ false) × ((s && not allow) ≡ false))
none_met p q s true e = (and_nothing p, (and_nothing q, and_nothing s))
none_met false false false false e = (refl, (refl, refl))
none_met true q s false e = absurd (true_false e)
none_met false true s false e = absurd (true_false e)
none_met false false true false e = absurd (true_false e)

some_met : (p q s allow : Bool) → ((p || (q || s)) && not allow) ≡ true
    → (allow ≡ false) × ((p ≡ true) ⊎ ((q ≡ true) ⊎ (s ≡ true)))
some_met true q s false e = (refl, inl refl)
some_met false true s false e = (refl, inr (inl refl))
some_met false false true false e = (refl, inr (inr refl))
some_met false false false false e = absurd (true_false (sym e))
some_met p q s true e = absurd (true_false (sym e ∙ and_nothing (p || (q || s))))

met_one : {P Q S A B C : Type 0} → P ⊎ (Q ⊎ S) → (P → A) → (Q → B) → (S → C) → A ⊎ (B ⊎ C)
met_one (inl p) f g h = inl (f p)
met_one (inr (inl q)) f g h = inr (inl (g q))
met_one (inr (inr s)) f g h = inr (inr (h s))

pub first_true : (a b : Bool) → (a && b) ≡ true → a ≡ true
first_true true b e = refl
first_true false b e = absurd (true_false (sym e))

pub second_true : (a b : Bool) → (a && b) ≡ true → b ≡ true
second_true true b e = e
second_true false b e = absurd (true_false (sym e))

none_denied : (n r : ℕ) (name path : List ℕ) (asked : Bool) → denial n [] name path r asked ≡ None
unfolding denial deciding denying
none_denied n r name path false = refl
none_denied n r name path true = refl

nothing_left : (n : ℕ) (name path : List ℕ) (a : Asked) → None ≡ least_denial (n + 1) [] name path a
unfolding least least_denial
nothing_left n name path a =
    rw (none_denied (n + 1) 0 name path a.read, none_denied (n + 1) 1 name path a.write, none_denied (n + 1) 2 name path a.delete) refl

module _ (x : Rule) (xs : List Rule) (name path : List ℕ) (n : ℕ) (a : Asked) where
  not_borne : bears_on x name path ≡ false → least_denial n (x ∷ xs) name path a ≡ least_denial (n + 1) xs name path a
  unfolding least_denial
  not_borne e = rw (unborne x xs name path 0 n a.read e, unborne x xs name path 1 n a.write e, unborne x xs name path 2 n a.delete e) refl

  nothing_denied : bears_on x name path ≡ true → (meets a (asked_of x.rights) && not x.allow) ≡ false
      → least_denial n (x ∷ xs) name path a ≡ least_denial (n + 1) xs name path (left_of a (asked_of x.rights))
  unfolding least_denial
  nothing_denied e d =
      let m = none_met (a.read && has_right x.rights 0) (a.write && has_right x.rights 1) (a.delete && has_right x.rights 2) x.allow d in
      rw (
        passed x xs name path 0 n a.read (has_right x.rights 0) e refl m.0,
        passed x xs name path 1 n a.write (has_right x.rights 1) e refl m.1.0,
        passed x xs name path 2 n a.delete (has_right x.rights 2) e refl m.1.1,
      ) refl

  something_denied : bears_on x name path ≡ true → (meets a (asked_of x.rights) && not x.allow) ≡ true
      → least_denial n (x ∷ xs) name path a ≡ Some n
  unfolding least_denial
  something_denied e d =
      let m = some_met (a.read && has_right x.rights 0) (a.write && has_right x.rights 1) (a.delete && has_right x.rights 2) x.allow d in
      one_found n (denial n (x ∷ xs) name path 0 a.read) (denial n (x ∷ xs) name path 1 a.write) (denial n (x ∷ xs) name path 2 a.delete)
      (bounded n (x ∷ xs) name path 0 a.read) (bounded n (x ∷ xs) name path 1 a.write) (bounded n (x ∷ xs) name path 2 a.delete)
      (met_one m.1
      (λ t. denied x xs name path 0 n a.read e (second_true a.read (has_right x.rights 0) t)
      (first_true a.read (has_right x.rights 0) t) m.0)
      (λ t. denied x xs name path 1 n a.write e (second_true a.write (has_right x.rights 1) t)
      (first_true a.write (has_right x.rights 1) t) m.0)
      (λ t. denied x xs name path 2 n a.delete e (second_true a.delete (has_right x.rights 2) t)
      (first_true a.delete (has_right x.rights 2) t) m.0))

-- a rule's step, by what the rule is
step_is : (bears denies : Bool) (a l : Asked) (n : ℕ) (f : Asked → Option ℕ) (whole : Option ℕ)
    → (bears ≡ false → f a ≡ whole) → (bears ≡ true → denies ≡ false → f l ≡ whole) → (bears ≡ true → denies ≡ true → Some n ≡ whole)
    → judged_behind (if not bears then Some a else if denies then None else Some l) n f ≡ whole
step_is false denies a l n f whole p q r = p refl
step_is true false a l n f whole p q r = q refl refl
step_is true true a l n f whole p q r = r refl refl

pub judged_all : (n : ℕ) (xs : List Rule) (name path : List ℕ) (a : Asked)
    → judged_from n xs name path a ≡ least_denial (n + 1) xs name path a
unfolding judged_one judged_from
judged_all n [] name path a = nothing_left n name path a
judged_all n (x ∷ xs) name path a = step_is (bears_on x name path) (meets a (asked_of x.rights) && not x.allow) a
    (left_of a (asked_of x.rights))
    (n + 1) (λ b. judged_from (n + 1) xs name path b) (least_denial (n + 1) (x ∷ xs) name path a)
    (λ e. judged_all (n + 1) xs name path a ∙ sym (not_borne x xs name path (n + 1) a e))
    (λ e d. judged_all (n + 1) xs name path (left_of a (asked_of x.rights)) ∙ sym (nothing_denied x xs name path (n + 1) a e d))
    (λ e d. sym (something_denied x xs name path (n + 1) a e d))
