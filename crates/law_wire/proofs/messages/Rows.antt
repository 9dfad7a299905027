-- Fields that were written stand where they were written, and what stands at a place stands there alone.
use Rattle.std.proofs.Common.{◌≡◌, ℕ, ◌+◌, List, [], ◌∷◌, ◌++◌, length, refl, sym, ap, subst, ◌∙◌, append_assoc, arith, length-append}
use Rattle.std.proofs.lemmas.List.{append-nil}
use Rattle.spec_wire.specs.messages.Places.{le, number_of, number, bytes_at}
use Rattle.spec_wire.specs.messages.Table.{Field, Num, Raw, Any, Stands, with_fields, AreWritable, layout}
use Rattle.spec_wire.proofs.messages.Numbers.{length-le, number_of-le, bytes_at-behind}

-- what is written is behind what was there
pub with_fields-append : (out : List ℕ) (fs : List Field) → with_fields out fs ≡ out ++ with_fields [] fs
with_fields-append out [] = sym (append-nil out)
with_fields-append out (Num w n ∷ fs) = with_fields-append (out ++ le w n) fs ∙ append_assoc out (le w n)
    (with_fields [] fs) ∙ ap (λ (x : List ℕ). out ++ x) (sym (with_fields-append (le w n) fs))
with_fields-append out (Raw w b ∷ fs) = with_fields-append (out ++ b) fs ∙ append_assoc out b (with_fields [] fs)
    ∙ ap (λ (x : List ℕ). out ++ x) (sym (with_fields-append b fs))
with_fields-append out (Any w ∷ fs) = with_fields-append (out ++ le w 0) fs ∙ append_assoc out (le w 0)
    (with_fields [] fs) ∙ ap (λ (x : List ℕ). out ++ x) (sym (with_fields-append (le w 0) fs))

length-with : (front x : List ℕ) (at w : ℕ) → at ≡ length front → length x ≡ w → at + w ≡ length (front ++ x)
length-with front x at w e len = omega (arith, length-append front x)

-- one field written behind `out`, and what follows it
one_behind : (out x rest : List ℕ) (fs : List Field) → with_fields (out ++ x) fs ++ rest ≡ out ++ (x ++ (with_fields [] fs ++ rest))
one_behind out x rest fs = rw (
  with_fields-append (out ++ x) fs,
  append_assoc (out ++ x) (with_fields [] fs) rest,
  append_assoc out x (with_fields [] fs ++ rest),
) refl

-- The fields stand in whatever begins with them, behind any front.
pub row_stands : (fs : List Field) (out rest : List ℕ) (at : ℕ) → at ≡ length out → AreWritable fs
    → Stands (with_fields out fs ++ rest) at fs
row_stands [] out rest at e fit = omega (arith, length-append out rest)
row_stands (Num w n ∷ fs) out rest at e fit =
    let len = length-le w n in
    let here : bytes_at w (with_fields (out ++ le w n) fs ++ rest) at ≡ le w n = rw (one_behind out (le w n) rest fs)
    (bytes_at-behind w out (le w n) (with_fields [] fs ++ rest) at e len) in
    (ap number_of here ∙ number_of-le w n fit.0, row_stands fs (out ++ le w n) rest (at + w) (length-with out (le w n) at w e len) fit.1)
row_stands (Raw w b ∷ fs) out rest at e fit =
    let here : bytes_at w (with_fields (out ++ b) fs ++ rest) at ≡ b = rw (one_behind out b rest fs)
    (bytes_at-behind w out b (with_fields [] fs ++ rest) at e fit.0) in
    (here, row_stands fs (out ++ b) rest (at + w) (length-with out b at w e fit.0) fit.1)
row_stands (Any w ∷ fs) out rest at e fit = row_stands fs (out ++ le w 0) rest (at + w)
    (length-with out (le w 0) at w e (length-le w 0)) fit

-- The same behind a front of so many bytes.
pub table_again : (fs : List Field) (front rest : List ℕ) (at : ℕ) → length front ≡ at → AreWritable fs
    → Stands (front ++ (with_fields [] fs ++ rest)) at fs
table_again fs front rest at e fit = rw (← append_assoc front (with_fields [] fs) rest, ← with_fields-append front fs)
    (row_stands fs front rest at (sym e) fit)

-- how many bytes the fields take
unfoldable pub size_of : List Field → ℕ
size_of [] = 0
size_of (Num w n ∷ fs) = w + size_of fs
size_of (Raw w b ∷ fs) = w + size_of fs
size_of (Any w ∷ fs) = w + size_of fs

pub length-with_fields : (fs : List Field) (out : List ℕ) → AreWritable fs → length (with_fields out fs) ≡ length out + size_of fs
unfolding size_of
length-with_fields [] out fit = omega arith
length-with_fields (Num w n ∷ fs) out fit = length-with_fields fs (out ++ le w n) fit.1
    ∙ omega (arith, length-append out (le w n), length-le w n)
length-with_fields (Raw w b ∷ fs) out fit = length-with_fields fs (out ++ b) fit.1 ∙ omega (arith, length-append out b, fit.0)
length-with_fields (Any w ∷ fs) out fit = length-with_fields fs (out ++ le w 0) fit
    ∙ omega (arith, length-append out (le w 0), length-le w 0)

-- Two tables of one layout that stand at one place are one.
pub same_fields : (m : List ℕ) (at : ℕ) (fs gs : List Field) → layout fs ≡ layout gs → Stands m at fs → Stands m at gs → fs ≡ gs
same_fields m at [] [] e s t = refl
same_fields m at [] (Num v k ∷ gs) e s t = absurd cc
same_fields m at [] (Raw v c ∷ gs) e s t = absurd cc
same_fields m at [] (Any v ∷ gs) e s t = absurd cc
same_fields m at (Num w n ∷ fs) [] e s t = absurd cc
same_fields m at (Num w n ∷ fs) (Raw v c ∷ gs) e s t = absurd cc
same_fields m at (Num w n ∷ fs) (Any v ∷ gs) e s t = absurd cc
same_fields m at (Raw w b ∷ fs) [] e s t = absurd cc
same_fields m at (Raw w b ∷ fs) (Num v k ∷ gs) e s t = absurd cc
same_fields m at (Raw w b ∷ fs) (Any v ∷ gs) e s t = absurd cc
same_fields m at (Any w ∷ fs) [] e s t = absurd cc
same_fields m at (Any w ∷ fs) (Num v k ∷ gs) e s t = absurd cc
same_fields m at (Any w ∷ fs) (Raw v c ∷ gs) e s t = absurd cc
same_fields m at (Num w n ∷ fs) (Num v k ∷ gs) e s t =
    let width : w ≡ v = cc in
    let same : n ≡ k = sym s.0 ∙ ap (λ (x : ℕ). number x m at) width ∙ t.0 in
    let rest : layout fs ≡ layout gs = cc in
    let later : fs ≡ gs = same_fields m (at + w) fs gs rest s.1 (subst (λ (x : ℕ). Stands m (at + x) gs) (sym width) t.1) in
    cc
same_fields m at (Raw w b ∷ fs) (Raw v c ∷ gs) e s t =
    let width : w ≡ v = cc in
    let same : b ≡ c = sym s.0 ∙ ap (λ (x : ℕ). bytes_at x m at) width ∙ t.0 in
    let rest : layout fs ≡ layout gs = cc in
    let later : fs ≡ gs = same_fields m (at + w) fs gs rest s.1 (subst (λ (x : ℕ). Stands m (at + x) gs) (sym width) t.1) in
    cc
same_fields m at (Any w ∷ fs) (Any v ∷ gs) e s t =
    let width : w ≡ v = cc in
    let rest : layout fs ≡ layout gs = cc in
    let later : fs ≡ gs = same_fields m (at + w) fs gs rest s (subst (λ (x : ℕ). Stands m (at + x) gs) (sym width) t) in
    cc
