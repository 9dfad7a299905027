-- The entries behind files that went.
use Rattle.std.proofs.Common.{◌≡◌, ℕ, ◌==◌, Bool, true, false, ◌||◌, if◌then◌else◌, List, [], ◌∷◌, refl, ap, ◌∙◌}
use Rattle.spec_exchange.specs.State.{Entry}
use Rattle.spec_exchange.specs.Files.{exists_in, without_file}
use Rattle.law_records.specs.leaving_opens.Since.{entries_left}

pub none_gone : (went : ℕ → Bool) (es : List Entry) → ((g : ℕ) → went g ≡ false) → entries_left went es ≡ es
unfolding entries_left
none_gone went [] h = refl
none_gone went (e ∷ es) h = rw (h e.file, none_gone went es h) refl

same_left : (went gone : ℕ → Bool) (es : List Entry) → ((q : ℕ) → gone q ≡ went q) → entries_left went es ≡ entries_left gone es
unfolding entries_left
same_left went gone [] h = refl
same_left went gone (e ∷ es) h = rw (h e.file, same_left went gone es h) refl

one_gone : (went gone : ℕ → Bool) (f : ℕ) (es : List Entry) → ((q : ℕ) → gone q ≡ (if q == f then true else went q))
    → without_file f (entries_left went es) ≡ entries_left gone es
unfolding entries_left without_file
one_gone went gone f [] h = refl
one_gone went gone f (e ∷ es) h = rw (h e.file) (by (went e.file) (e.file == f) refl (one_gone went gone f es h))
  where
    by : (b c : Bool) → (e.file == f) ≡ c → without_file f (entries_left went es) ≡ entries_left gone es
        → without_file f (if b then entries_left went es else e ∷ entries_left went es)
        ≡ (if (if c then true else b) then entries_left gone es else e ∷ entries_left gone es)
    by true true k i = i
    by true false k i = i
    by false true k i = rw k i
    by false false k i = rw k (ap (λ (v : List Entry). e ∷ v) i)

-- the file goes, or it doesn't
pub maybe_gone : (went gone : ℕ → Bool) (f : ℕ) (goes : Bool) (es : List Entry)
    → ((q : ℕ) → gone q ≡ (if q == f then goes || went q else went q))
    → (if goes then without_file f (entries_left went es) else entries_left went es) ≡ entries_left gone es
maybe_gone went gone f true es h = one_gone went gone f es h
maybe_gone went gone f false es h = same_left went gone es (λ q. h q ∙ either_way (q == f) (went q))
  where
    either_way : (b c : Bool) → (if b then c else c) ≡ c
    either_way true c = refl
    either_way false c = refl

-- a file that is there yet was there before
pub there_before : (went : ℕ → Bool) (f : ℕ) (es : List Entry) → exists_in (entries_left went es) f ≡ true → exists_in es f ≡ true
unfolding entries_left exists_in
there_before went f [] h = h
there_before went f (e ∷ es) h = by (went e.file) (λ k. there_before went f es k) h
  where
    behind : (c : Bool) → exists_in es f ≡ true → (if c then true else exists_in es f) ≡ true
    behind true i = refl
    behind false i = i

    over : (c : Bool) → (exists_in (entries_left went es) f ≡ true → exists_in es f ≡ true)
        → (if c then true else exists_in (entries_left went es) f) ≡ true → (if c then true else exists_in es f) ≡ true
    over true i k = refl
    over false i k = i k

    by : (b : Bool) → (exists_in (entries_left went es) f ≡ true → exists_in es f ≡ true)
        → exists_in (if b then entries_left went es else e ∷ entries_left went es) f ≡ true
        → (if e.file == f then true else exists_in es f) ≡ true
    by true i k = behind (e.file == f) (i k)
    by false i k = over (e.file == f) i k
