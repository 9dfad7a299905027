-- Directories in which nothing is left.
use Rattle.std.proofs.Common.{◌≡◌, ℕ, ◌==◌, Bool, true, false, not, ◌&&◌, ◌||◌, if◌then◌else◌, List, [], ◌∷◌, refl, sym}
use Rattle.std.proofs.Common.{ap, subst, ◌∙◌, arith, eqb-true}
use Rattle.spec_exchange.specs.Table.{has}
use Rattle.spec_exchange.specs.State.{Server, Entry}
use Rattle.spec_exchange.specs.Texts.{is_below}
use Rattle.spec_exchange.specs.Files.{root, exists, exists_in, path_in, path_of, has_below, is_directory, is_full_directory}
use Rattle.law_server.proofs.tables.Logic.{front_of, back_of}
use Rattle.law_records.specs.leaving_opens.Since.{entries_left, LeftSince, OpensNumbered, all_gone, AreOpensBelow}
use Rattle.law_records.proofs.leaving_opens.Entries.{none_gone}

-- ---- the entries that are left

clash : {X : Type 0} (b : Bool) → b ≡ true → b ≡ false → X
clash true e f = absurd (cc)
clash false e f = absurd (cc)

kept : (went : ℕ → Bool) (f : ℕ) (es : List Entry) → exists_in (entries_left went es) f ≡ true → went f ≡ false
unfolding entries_left exists_in
kept went f [] h = absurd (cc)
kept went f (e ∷ es) h = by (went e.file) refl (λ k. kept went f es k) h
  where
    over : (b : Bool) → (e.file == f) ≡ b → went e.file ≡ false → (exists_in (entries_left went es) f ≡ true → went f ≡ false)
        → (if b then true else exists_in (entries_left went es) f) ≡ true → went f ≡ false
    over true i w old k = subst (λ (z : ℕ). went z ≡ false) (eqb-true e.file f i) w
    over false i w old k = old k

    by : (b : Bool) → went e.file ≡ b → (exists_in (entries_left went es) f ≡ true → went f ≡ false)
        → exists_in (if b then entries_left went es else e ∷ entries_left went es) f ≡ true → went f ≡ false
    by true w old k = old k
    by false w old k = over (e.file == f) refl w old k

path_left : (went : ℕ → Bool) (f : ℕ) (es : List Entry) → exists_in (entries_left went es) f ≡ true
    → path_in (entries_left went es) f ≡ path_in es f
unfolding entries_left exists_in path_in
path_left went f [] h = refl
path_left went f (e ∷ es) h = by (went e.file) refl (λ k. path_left went f es k) h
  where
    behind : (b : Bool) → (e.file == f) ≡ b → went e.file ≡ true
        → (exists_in (entries_left went es) f ≡ true → path_in (entries_left went es) f ≡ path_in es f)
        → exists_in (entries_left went es) f ≡ true → path_in (entries_left went es) f ≡ (if b then e.path else path_in es f)
    behind true i w old k = clash (went e.file) w (subst (λ (z : ℕ). went z ≡ false) (sym (eqb-true e.file f i)) (kept went f es k))
    behind false i w old k = old k

    over : (b : Bool) → (exists_in (entries_left went es) f ≡ true → path_in (entries_left went es) f ≡ path_in es f)
        → (if b then true else exists_in (entries_left went es) f) ≡ true
        → (if b then e.path else path_in (entries_left went es) f) ≡ (if b then e.path else path_in es f)
    over true old k = refl
    over false old k = old k

    by : (b : Bool) → went e.file ≡ b → (exists_in (entries_left went es) f ≡ true → path_in (entries_left went es) f ≡ path_in es f)
        → exists_in (if b then entries_left went es else e ∷ entries_left went es) f ≡ true
        → path_in (if b then entries_left went es else e ∷ entries_left went es) f ≡ (if e.file == f then e.path else path_in es f)
    by true w old k = behind (e.file == f) refl w old k
    by false w old k = over (e.file == f) old k

below_before : (went : ℕ → Bool) (p : List ℕ) (es : List Entry) → has_below (entries_left went es) p ≡ true → has_below es p ≡ true
unfolding entries_left has_below
below_before went p [] h = h
below_before went p (e ∷ es) h = by (went e.file) (λ k. below_before went p es k) h
  where
    behind : (c : Bool) → has_below es p ≡ true → (if c then true else has_below es p) ≡ true
    behind true i = refl
    behind false i = i

    over : (c : Bool) → (has_below (entries_left went es) p ≡ true → has_below es p ≡ true)
        → (if c then true else has_below (entries_left went es) p) ≡ true → (if c then true else has_below es p) ≡ true
    over true old k = refl
    over false old k = old k

    by : (b : Bool) → (has_below (entries_left went es) p ≡ true → has_below es p ≡ true)
        → has_below (if b then entries_left went es else e ∷ entries_left went es) p ≡ true
        → (if is_below p e.path then true else has_below es p) ≡ true
    by true old k = behind (is_below p e.path) (old k)
    by false old k = over (is_below p e.path) old k

-- ---- all that stands below went, or something is left

-- what stands below by its number went
abbrev AreGone : (ℕ → Bool) → List ℕ → List Entry → Type 0
AreGone went p es = (g : ℕ) → exists_in es g ≡ true → is_below p (path_in es g) ≡ true → went g ≡ true

same_number : (n : ℕ) → (n == n) ≡ true
same_number n = grind arith

nothing_left : (went : ℕ → Bool) (p : List ℕ) (es : List Entry) → OpensNumbered es → AreGone went p es
    → has_below (entries_left went es) p ≡ false
unfolding entries_left has_below exists_in path_in
nothing_left went p [] n a = refl
nothing_left went p (e ∷ es) n a = by (went e.file) refl (is_below p e.path) refl (nothing_left went p es n.1 others)
  where
    first : is_below p e.path ≡ true → went e.file ≡ true
    first i = a e.file (rw (same_number e.file) refl) (rw (same_number e.file) i)

    others : AreGone went p es
    others g i k = at (e.file == g) refl
      where
        at : (b : Bool) → (e.file == g) ≡ b → went g ≡ true
        at true j = clash (exists_in es g) i (subst (λ (z : ℕ). exists_in es z ≡ false) (eqb-true e.file g j) n.0)
        at false j = a g (rw j i) (rw j k)

    by : (b : Bool) → went e.file ≡ b → (c : Bool) → is_below p e.path ≡ c → has_below (entries_left went es) p ≡ false
        → has_below (if b then entries_left went es else e ∷ entries_left went es) p ≡ false
    by true w c i old = old
    by false w true i old = clash (went e.file) (first i) w
    by false w false i old = rw i old

something_left : (went : ℕ → Bool) (p : List ℕ) (g : ℕ) (es : List Entry) → exists_in es g ≡ true
    → is_below p (path_in es g) ≡ true → went g ≡ false
    → has_below (entries_left went es) p ≡ true
unfolding entries_left has_below exists_in path_in
something_left went p g [] i k w = absurd (cc)
something_left went p g (e ∷ es) i k w = by (e.file == g) refl i k (λ h l. something_left went p g es h l w)
  where
    more : (b c : Bool) → has_below (entries_left went es) p ≡ true → is_below p e.path ≡ c
        → has_below (if b then entries_left went es else e ∷ entries_left went es) p ≡ true
    more true c h j = h
    more false true h j = rw j refl
    more false false h j = rw j h

    by : (b : Bool) → (e.file == g) ≡ b → (if b then true else exists_in es g) ≡ true
        → is_below p (if b then e.path else path_in es g) ≡ true
        → (exists_in es g ≡ true → is_below p (path_in es g) ≡ true → has_below (entries_left went es) p ≡ true)
        → has_below (if went e.file then entries_left went es else e ∷ entries_left went es) p ≡ true
    by true j h l old = rw (subst (λ (z : ℕ). went z ≡ false) (sym (eqb-true e.file g j)) w, l) refl
    by false j h l old = more (went e.file) (is_below p e.path) (old h l) refl

-- ---- a list of those below

all_of : (went : ℕ → Bool) (fs : List ℕ) → all_gone went fs ≡ true → (g : ℕ) → has g fs ≡ true → went g ≡ true
unfolding all_gone
all_of went [] h g i = absurd (cc)
all_of went (f ∷ fs) h g i = by (f == g) refl i (λ k. all_of went fs (back_of (went f) (all_gone went fs) h) g k)
  where
    by : (b : Bool) → (f == g) ≡ b → (if b then true else has g fs) ≡ true → (has g fs ≡ true → went g ≡ true) → went g ≡ true
    by true e k old = subst (λ (z : ℕ). went z ≡ true) (eqb-true f g e) (front_of (went f) (all_gone went fs) h)
    by false e k old = old k

of_all : (went : ℕ → Bool) (fs : List ℕ) → ((g : ℕ) → has g fs ≡ true → went g ≡ true) → all_gone went fs ≡ true
unfolding all_gone
of_all went [] h = refl
of_all went (f ∷ fs) h = rw (h f (rw (same_number f) refl), of_all went fs (λ g i. h g (later (f == g) g i))) refl
  where
    later : (b : Bool) (g : ℕ) → has g fs ≡ true → (if b then true else has g fs) ≡ true
    later true g i = refl
    later false g i = i

all_or_some : (went : ℕ → Bool) (p : List ℕ) (es : List Entry) (fs : List ℕ) → OpensNumbered es
    → ((g : ℕ) → has g fs ≡ (exists_in es g && is_below p (path_in es g))) → all_gone went fs ≡ not (has_below (entries_left went es) p)
all_or_some went p es fs n below = by (all_gone went fs) refl (has_below (entries_left went es) p) refl
  where
    are_gone : all_gone went fs ≡ true → AreGone went p es
    are_gone h g i k = all_of went fs h g (below g ∙ both_true (exists_in es g) (is_below p (path_in es g)) i k)
      where
        both_true : (b c : Bool) → b ≡ true → c ≡ true → (b && c) ≡ true
        both_true true true e f = refl
        both_true true false e f = absurd (cc)
        both_true false c e f = absurd (cc)

    left_alone : has_below (entries_left went es) p ≡ false → (g : ℕ) → has g fs ≡ true → went g ≡ true
    left_alone h g i = at (went g) refl
      where
        at : (b : Bool) → went g ≡ b → b ≡ true
        at true w = refl
        at false w =
            clash (has_below (entries_left went es) p)
            (something_left went p g es (front_of (exists_in es g) (is_below p (path_in es g)) (sym (below g) ∙ i))
            (back_of (exists_in es g) (is_below p (path_in es g)) (sym (below g) ∙ i)) w) h

    by : (a : Bool) → all_gone went fs ≡ a → (b : Bool) → has_below (entries_left went es) p ≡ b → a ≡ not b
    by true h false k = refl
    by false h true k = refl
    by true h true k = clash (has_below (entries_left went es) p) k (nothing_left went p es n (are_gone h))
    by false h false k = clash (all_gone went fs) (of_all went fs (left_alone k)) h

-- ---- whole directories

told_by : (went : ℕ → Bool) (left : ℕ → ℕ) (marked : ℕ → Bool) (s u : Server) (f : ℕ) → LeftSince left marked went s u
    → exists u f ≡ true → (f == root) ≡ false
    → is_full_directory u f ≡ (is_directory s f && has_below (entries_left went s.entries) (path_of s f))
unfolding is_full_directory is_directory path_of exists
told_by went left marked s u f a there below =
    rw (a.directory, a.entries, path_left went f s.entries (inside (f == root) below there)) refl
  where
    inside : (b : Bool) → b ≡ false → (b || exists_in u.entries f) ≡ true → exists_in (entries_left went s.entries) f ≡ true
    inside true e h = absurd (cc)
    inside false e h = subst (λ (v : List Entry). exists_in v f ≡ true) a.entries h

pub emptied : (left : ℕ → ℕ) (marked went : ℕ → Bool) (s u : Server) (f : ℕ) → LeftSince left marked went s u
    → exists u f ≡ true → (f == root) ≡ false
    → is_full_directory s f ≡ false → is_full_directory u f ≡ false
unfolding is_full_directory
emptied left marked went s u f a there below h =
    told_by went left marked s u f a there below ∙ by (is_directory s f) (has_below (entries_left went s.entries) (path_of s f)) refl h
  where
    by : (d b : Bool) → has_below (entries_left went s.entries) (path_of s f) ≡ b
        → (d && has_below s.entries (path_of s f)) ≡ false → (d && b) ≡ false
    by false b e k = refl
    by true false e k = refl
    by true true e k = clash (has_below s.entries (path_of s f)) (below_before went (path_of s f) s.entries e) k

pub same_full : (left : ℕ → ℕ) (marked went : ℕ → Bool) (s u : Server) (f : ℕ) → LeftSince left marked went s u
    → exists u f ≡ true → (f == root) ≡ false
    → ((g : ℕ) → went g ≡ false) → is_full_directory u f ≡ is_full_directory s f
unfolding is_full_directory
same_full left marked went s u f a there below h =
    told_by went left marked s u f a there below
    ∙ ap (λ (es : List Entry). is_directory s f && has_below es (path_of s f)) (none_gone went s.entries h)

pub gone_or_full : (left : ℕ → ℕ) (marked went : ℕ → Bool) (s u : Server) (f : ℕ) (fs : List ℕ)
    → LeftSince left marked went s u → exists u f ≡ true → (f == root) ≡ false
    → OpensNumbered s.entries → is_full_directory s f ≡ true → AreOpensBelow s f fs → all_gone went fs ≡ not (is_full_directory u f)
unfolding is_full_directory
gone_or_full left marked went s u f fs a there below n full are =
    let d : is_directory s f ≡ true = front_of (is_directory s f) (has_below s.entries (path_of s f)) full in
    all_or_some went (path_of s f) s.entries fs n
    (λ g. are g ∙ ap (λ (b : Bool). b && (exists_in s.entries g && is_below (path_of s f) (path_in s.entries g))) d)
    ∙ ap (λ (b : Bool). not b) (ap (λ (b : Bool). b && has_below (entries_left went s.entries) (path_of s f)) (sym d)
    ∙ sym (told_by went left marked s u f a there below))
