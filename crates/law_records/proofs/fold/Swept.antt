-- A sweep over numbers: those that aren't delete pending change nothing, so that ascending numbers which hold all that are
-- sweep the same.
use Rattle.std.proofs.Common.{◌≡◌, ℕ, ◌==◌, nat_lt, Bool, true, false, not, ◌&&◌, ◌||◌, if◌then◌else◌, List, [], ◌∷◌, ◌++◌}
use Rattle.std.proofs.Common.{refl, sym, ap, subst, ◌∙◌, arith, eqb-true}
use Rattle.std.proofs.lemmas.Bool.Decides.{nat_tests}
use Rattle.spec_exchange.specs.Table.{has}
use Rattle.spec_exchange.specs.State.{Server, Entry}
use Rattle.spec_exchange.specs.Files.{root, exists, exists_in, is_full_directory, remove_file}
use Rattle.spec_exchange.specs.Opens.{file_has_open, goes, without_gone}
use Rattle.spec_exchange.specs.Fold.{sweep}
use Rattle.law_server.specs.tables.Fits.{is_ascending}
use Rattle.law_server.proofs.tables.Logic.{either, front_of, back_of, both}
use Rattle.law_server.proofs.tables.Lists.{exists-without}
use Rattle.law_records.specs.fold.Order.{numbers, FilesAscend, swept_of}
use Rattle.law_records.proofs.fold.Numbers.{has_numbers, above, above_less, ascending_above, ascending_rest, ascending_front}
use Rattle.law_records.proofs.fold.Numbers.{above_absent, here, removed_ascend}

clash : (b : Bool) → b ≡ false → b ≡ true → ⊥
clash b e f = cc

-- ---- one file

abbrev may_go : Server → ℕ → Bool
may_go u f = exists_in u.entries f && u.delete_pending f

off : (d r e o w : Bool) → (e && d) ≡ false → (d && (not r && ((r || e) && (not o && not w)))) ≡ false
off d r e o w h = grind arith

stays : (u : Server) (f : ℕ) → may_go u f ≡ false → goes u f ≡ false
unfolding goes exists
stays u f h = off (u.delete_pending f) (f == root) (exists_in u.entries f) (file_has_open u f) (is_full_directory u f) h

gone_same : (u : Server) (f : ℕ) → may_go u f ≡ false → without_gone u f ≡ u
gone_same u f h = either (λ (w : Server). w ≡ u) (goes u f) (remove_file u f) u (λ q. absurd (clash (goes u f) (stays u f h) q)) (λ _. refl)

-- what is there behind it was there before
there_before : (u : Server) (x f : ℕ) → exists_in (without_gone u x).entries f ≡ true → exists_in u.entries f ≡ true
there_before u x f =
    either (λ (w : Server). exists_in w.entries f ≡ true → exists_in u.entries f ≡ true) (goes u x) (remove_file u x) u
    (λ _ h. cut (x == f) (exists_in u.entries f) (sym (exists-without x u.entries f) ∙ h)) (λ _ h. h)
  where
    cut : (b v : Bool) → (if b then false else v) ≡ true → v ≡ true
    cut true v e = absurd (cc)
    cut false v e = e

pending_same : (u : Server) (x f : ℕ) → (without_gone u x).delete_pending f ≡ u.delete_pending f
pending_same u x f = either (λ (w : Server). w.delete_pending f ≡ u.delete_pending f) (goes u x) (remove_file u x) u (λ _. refl) (λ _. refl)

may_before : (u : Server) (x f : ℕ) → may_go (without_gone u x) f ≡ true → may_go u f ≡ true
may_before u x f h =
    both (exists_in u.entries f) (u.delete_pending f)
    (there_before u x f (front_of (exists_in (without_gone u x).entries f) ((without_gone u x).delete_pending f) h))
    (sym (pending_same u x f) ∙ back_of (exists_in (without_gone u x).entries f) ((without_gone u x).delete_pending f) h)

gone_entries : (u : Server) (f : ℕ) → without_gone u f ≡ record u { entries = (without_gone u f).entries }
gone_entries u f = either (λ (w : Server). w ≡ record u { entries = w.entries }) (goes u f) (remove_file u f) u (λ _. refl) (λ _. refl)

gone_ascend : (u : Server) (f : ℕ) → FilesAscend u → FilesAscend (without_gone u f)
gone_ascend u f a = either (λ (w : Server). FilesAscend w) (goes u f) (remove_file u f) u (λ _. removed_ascend u f a) (λ _. a)

-- ---- several

pub swept_next : (s : Server) (fs : List ℕ) (f : ℕ) → swept_of s (fs ++ f ∷ []) ≡ without_gone (swept_of s fs) f
unfolding swept_of
swept_next s [] f = refl
swept_next s (g ∷ fs) f = swept_next (without_gone s g) fs f

pub swept_entries : (s : Server) (fs : List ℕ) → swept_of s fs ≡ record s { entries = (swept_of s fs).entries }
unfolding swept_of
swept_entries s [] = refl
swept_entries s (f ∷ fs) =
    swept_entries (without_gone s f) fs
    ∙ ap (λ (w : Server). record w { entries = (swept_of (without_gone s f) fs).entries }) (gone_entries s f)

pub swept_ascend : (s : Server) (fs : List ℕ) → FilesAscend s → FilesAscend (swept_of s fs)
unfolding swept_of
swept_ascend s [] a = a
swept_ascend s (f ∷ fs) a = swept_ascend (without_gone s f) fs (gone_ascend s f a)

pub swept_before : (s : Server) (fs : List ℕ) (f : ℕ) → exists_in (swept_of s fs).entries f ≡ true → exists_in s.entries f ≡ true
unfolding swept_of
swept_before s [] f h = h
swept_before s (g ∷ fs) f h = there_before s g f (swept_before (without_gone s g) fs f h)

-- ---- without those that stay

unfoldable pub kept : (ℕ → Bool) → List ℕ → List ℕ
kept p [] = []
kept p (x ∷ xs) = if p x then x ∷ kept p xs else kept p xs

no_may : (a b : Bool) → (a ≡ true → b ≡ true) → b ≡ false → a ≡ false
no_may true b h e = absurd (clash b e (h refl))
no_may false b h e = refl

swept_kept : (p : ℕ → Bool) (u : Server) (xs : List ℕ) → ((f : ℕ) → may_go u f ≡ true → p f ≡ true)
    → swept_of u xs ≡ swept_of u (kept p xs)
unfolding swept_of kept
swept_kept p u [] h = refl
swept_kept p u (x ∷ xs) h =
    either (λ (ys : List ℕ). swept_of (without_gone u x) xs ≡ swept_of u ys) (p x) (x ∷ kept p xs) (kept p xs)
    (λ _. swept_kept p (without_gone u x) xs (λ f m. h f (may_before u x f m)))
    (λ e. subst (λ (w : Server). swept_of w xs ≡ swept_of u (kept p xs))
    (sym (gone_same u x (no_may (may_go u x) (p x) (h x) e))) (swept_kept p u xs h))

pub has_kept : (p : ℕ → Bool) (f : ℕ) (xs : List ℕ) → has f (kept p xs) ≡ (p f && has f xs)
unfolding kept
has_kept p f [] = none (p f)
  where
    none : (b : Bool) → false ≡ (b && false)
    none true = refl
    none false = refl
has_kept p f (x ∷ xs) = let old = has_kept p f xs in grind arith

above_kept : (p : ℕ → Bool) (n : ℕ) (xs : List ℕ) → above n xs ≡ true → above n (kept p xs) ≡ true
unfolding kept
above_kept p n [] h = refl
above_kept p n (x ∷ xs) h = by (p x) (above_kept p n xs (back_of (nat_lt n x) (above n xs) h))
  where
    by : (b : Bool) → above n (kept p xs) ≡ true → above n (if b then x ∷ kept p xs else kept p xs) ≡ true
    by true old = both (nat_lt n x) (above n (kept p xs)) (front_of (nat_lt n x) (above n xs) h) old
    by false old = old

pub kept_ascends : (p : ℕ → Bool) (xs : List ℕ) → is_ascending xs ≡ true → is_ascending (kept p xs) ≡ true
unfolding kept
kept_ascends p [] h = h
kept_ascends p (x ∷ xs) h = by (p x) (kept_ascends p xs (ascending_rest x xs h))
  where
    by : (b : Bool) → is_ascending (kept p xs) ≡ true → is_ascending (if b then x ∷ kept p xs else kept p xs) ≡ true
    by true old = ascending_front x (kept p xs) (above_kept p x xs (ascending_above x xs h)) old
    by false old = old

-- ---- two ascending lists of the same numbers

abbrev SameNumbers : List ℕ → List ℕ → Type 0
SameNumbers xs ys = (f : ℕ) → has f xs ≡ has f ys

not_less : (x : ℕ) (xs : List ℕ) (y : ℕ) (ys : List ℕ) → is_ascending (y ∷ ys) ≡ true → SameNumbers (x ∷ xs) (y ∷ ys) → nat_lt x y ≡ false
not_less x xs y ys b h = by (nat_lt x y) refl
  where
    by : (c : Bool) → nat_lt x y ≡ c → c ≡ false
    by false e = refl
    by true e = absurd (clash (has x (y ∷ ys))
        (above_absent x (y ∷ ys) (both (nat_lt x y) (above x ys) e (above_less x y ys e (ascending_above y ys b))))
        (sym (h x) ∙ here x xs))

equal_of : (x y : ℕ) → nat_lt x y ≡ false → nat_lt y x ≡ false → x ≡ y
equal_of x y a b = grind (arith, nat_tests)

tail_same : (x : ℕ) (xs ys : List ℕ) → has x xs ≡ false → has x ys ≡ false → SameNumbers (x ∷ xs) (x ∷ ys) → SameNumbers xs ys
tail_same x xs ys a b h = λ f. by f (x == f) refl (h f)
  where
    cut : (c u v : Bool) → c ≡ false → (if c then true else u) ≡ (if c then true else v) → u ≡ v
    cut true u v e i = absurd (cc)
    cut false u v e i = i

    by : (f : ℕ) (c : Bool) → (x == f) ≡ c → has f (x ∷ xs) ≡ has f (x ∷ ys) → has f xs ≡ has f ys
    by f true e i = subst (λ (z : ℕ). has z xs ≡ has z ys) (eqb-true x f e) (a ∙ sym b)
    by f false e i = cut (x == f) (has f xs) (has f ys) e i

pub same_lists : (xs ys : List ℕ) → is_ascending xs ≡ true → is_ascending ys ≡ true → SameNumbers xs ys → xs ≡ ys
same_lists [] [] a b h = refl
same_lists [] (y ∷ ys) a b h = absurd (clash (has y (y ∷ ys)) (sym (h y)) (here y ys))
same_lists (x ∷ xs) [] a b h = absurd (clash (has x (x ∷ xs)) (h x) (here x xs))
same_lists (x ∷ xs) (y ∷ ys) a b h =
    let e = equal_of x y (not_less x xs y ys b h) (not_less y ys x xs a (λ f. sym (h f))) in
    let rest = same_lists xs ys (ascending_rest x xs a) (ascending_rest y ys b)
    (tail_same x xs ys (above_absent x xs (ascending_above x xs a))
    (subst (λ (z : ℕ). has z ys ≡ false) (sym e) (above_absent y ys (ascending_above y ys b)))
    (subst (λ (z : ℕ). SameNumbers (x ∷ xs) (z ∷ ys)) (sym e) h)) in
    ap (λ (v : List ℕ). x ∷ v) rest ∙ ap (λ (z : ℕ). z ∷ ys) e

-- ---- the whole sweep

sweep_is : (s : Server) (es : List Entry) → sweep s es ≡ swept_of s (numbers es)
unfolding sweep swept_of numbers
sweep_is s [] = refl
sweep_is s (e ∷ es) = sweep_is (without_gone s e.file) es

pub both_have : (e d p q : Bool) → q ≡ e → (e ≡ true → d ≡ true → p ≡ true) → ((e && d) && q) ≡ ((e && d) && p)
both_have true true p q i h = i ∙ sym (h refl refl)
both_have true false p q i h = refl
both_have false d p q i h = refl

pub swept_whole : (s : Server) (fs : List ℕ) → FilesAscend s → is_ascending fs ≡ true
    → ((f : ℕ) → exists_in s.entries f ≡ true → s.delete_pending f ≡ true → has f fs ≡ true)
    → sweep s s.entries ≡ swept_of s fs
swept_whole s fs a b h =
    let p = λ (f : ℕ). may_go s f in
    let same = same_lists (kept p (numbers s.entries)) (kept p fs) (kept_ascends p (numbers s.entries) a) (kept_ascends p fs b)
    (λ f. has_kept p f (numbers s.entries)
    ∙ (both_have (exists_in s.entries f) (s.delete_pending f) (has f fs) (has f (numbers s.entries)) (has_numbers f s.entries) (h f)
    ∙ sym (has_kept p f fs))) in
    sweep_is s s.entries
    ∙ (swept_kept p s (numbers s.entries) (λ f m. m)
    ∙ (ap (λ (v : List ℕ). swept_of s v) same ∙ sym (swept_kept p s fs (λ f m. m))))
