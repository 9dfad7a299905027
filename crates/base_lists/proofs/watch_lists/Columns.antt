-- Columns of the links behind a change of one.
use Rattle.std.proofs.Common.{◌≡◌, ℕ, ◌<◌, ◌≤◌, ◌==◌, if◌then◌else◌, List, [], ◌∷◌, ◌++◌, length, set, get_or, refl, ap}
use Rattle.std.proofs.Common.{sym, ◌∙◌, arith, subst, ◌⊎◌, inl, inr}
use Rattle.std.proofs.lemmas.Grind.{common_steps}
use Rattle.std.proofs.lemmas.List.{get_or-set_same, get_or-set_other}
use Rattle.base_lists.specs.declared.watch_lists.Link.{Link}
use Rattle.base_lists.specs.watch_lists.Watching.{put_watch}
use Rattle.base_lists.specs.watch_lists.Listed.{WatcherLists, no_link, link_at, watches}

abbrev pub col : (Link → ℕ) → List Link → ℕ → ℕ
col f links g = f (link_at links g)

test_if : (g x a b c : ℕ) → (g ≡ x → c ≡ a) → ((g ≡ x → ⊥) → c ≡ b) → c ≡ (if g == x then a else b)
test_if g x a b c h k = grind arith

pub col_set : (f : Link → ℕ) (links : List Link) (x : ℕ) (r : Link) → x < length links → (g : ℕ)
    → col f (set links x r) g ≡ put_watch (col f links) x (f r) g
col_set f links x r h g = test_if g x (f r) (f (get_or links g no_link)) (f (get_or (set links x r) g no_link))
    (λ e. rw (e, get_or-set_same links x r no_link h) refl) (λ e. rw (get_or-set_other links x g r no_link e) refl)

pub put_same : (f : ℕ → ℕ) (x v : ℕ) → v ≡ f x → (g : ℕ) → put_watch f x v g ≡ f g
put_same f x v e g = sym (test_if g x v (f g) (f g) (λ k. rw k (sym e)) (λ k. refl))

pub col_kept : (f : Link → ℕ) (links : List Link) (x : ℕ) (r : Link) → x < length links → f r ≡ f (link_at links x)
    → (g : ℕ) → col f (set links x r) g ≡ col f links g
col_kept f links x r h e g = col_set f links x r h g ∙ put_same (col f links) x (f r) e g

pub all : (f g : ℕ → ℕ) → ((x : ℕ) → f x ≡ g x) → f ≡ g
all f g h = λ t x. h x t

-- a number beyond the links watches none
pub inside : (links : List Link) (g : ℕ) → 0 < watches links g → g < length links
inside links g h =
    let case : (g < length links) ⊎ (length links ≤ g) = grind arith in
    elim case [ inl k ↦ k | inr k ↦ absurd (beyond links g k h) ]
  where
    beyond : (links : List Link) (g : ℕ) → length links ≤ g → 0 < (get_or links g no_link).watch → ⊥
    beyond links g k h = (let e : get_or links g no_link ≡ no_link = grind (arith, common_steps)
        in (let p : 0 < no_link.watch = subst (λ (r : Link). 0 < r.watch) e h in omega arith))

-- lists are those of equal columns
pub moved : (watch first next watch' first' next' : ℕ → ℕ) → ((g : ℕ) → watch' g ≡ watch g)
    → ((g : ℕ) → first' g ≡ first g) → ((g : ℕ) → next' g ≡ next g) → WatcherLists watch first next → WatcherLists watch' first' next'
moved watch first next watch' first' next' a b c l =
    subst (λ (d : ℕ → ℕ). WatcherLists d first' next') (sym (all watch' watch a))
    (subst (λ (d : ℕ → ℕ). WatcherLists watch d next') (sym (all first' first b))
    (subst (λ (d : ℕ → ℕ). WatcherLists watch first d) (sym (all next' next c)) l))

pub put_alike : (f g : ℕ → ℕ) (x v : ℕ) → ((i : ℕ) → f i ≡ g i) → (i : ℕ) → put_watch f x v i ≡ put_watch g x v i
put_alike f g x v h i = ap (λ (d : ℕ → ℕ). put_watch d x v i) (all f g h)

-- one more number, which watches none
pub link_more : (links : List Link) (g : ℕ) → link_at (links ++ no_link ∷ []) g ≡ link_at links g
link_more links g =
    let case : (g < length links) ⊎ ((g ≡ length links) ⊎ (length links < g)) = grind arith in
    elim case [
      | inl k ↦ grind (arith, common_steps)
      | inr (inl k) ↦ grind (arith, common_steps)
      | inr (inr k) ↦ grind (arith, common_steps)
    ]
