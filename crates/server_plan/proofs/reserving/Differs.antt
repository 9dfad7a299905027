-- Whether anything differs behind a change.
use Rattle.std.proofs.Common.{◌≡◌, ℕ, ◌-◌, ◌==◌, not, ◌&&◌, if◌then◌else◌, Bool, true, false, List, [], ◌∷◌, length}
use Rattle.std.proofs.Common.{None, refl, sym, ap, ◌∙◌, arith}
use Rattle.std.specs.Str.{bytes_eq}
use Rattle.std.proofs.lemmas.List.{append-nil}
use Rattle.std.proofs.Math.Seq.{take-length}
use Rattle.spec_exchange.proofs.Content.{length-ended, same_bytes-true, same_bytes-refl}
use Rattle.spec_exchange.specs.Commands.{Basic}
use Rattle.spec_exchange.specs.Content.{ended, padded, same_bytes, written}
use Rattle.spec_exchange.specs.Effects.{change_acts, is_touched_at}
use Rattle.spec_exchange.specs.Files.{path_of, same_basic}
use Rattle.spec_exchange.specs.State.{Server}
use Rattle.spec_exchange.specs.Verdict as verdicts

-- ---- bytes of texts

pub same_is : (a b : List ℕ) → same_bytes a b ≡ bytes_eq a b
unfolding same_bytes
same_is [] [] = refl
same_is [] (y ∷ ys) = refl
same_is (x ∷ xs) [] = refl
same_is (x ∷ xs) (y ∷ ys) = rw (same_is xs ys) refl

-- ---- a new end that changes nothing is the old one

whole : (c : List ℕ) → ended (length c) c ≡ c
unfolding ended padded
whole c = let k : length c - length c ≡ 0 = omega arith in rw (k, append-nil c) (take-length c)

ended_same : (n : ℕ) (c : List ℕ) → same_bytes (ended n c) c ≡ (n == length c)
ended_same n c = by (n == length c) refl
  where
    other : (b : Bool) → same_bytes (ended n c) c ≡ b → (n == length c) ≡ false → b ≡ false
    other false e k = refl
    other true e k = absurd (let l : n ≡ length c = sym (length-ended n c) ∙ ap length (same_bytes-true (ended n c) c e) in grind arith)

    by : (b : Bool) → (n == length c) ≡ b → same_bytes (ended n c) c ≡ b
    by true k = let l : n ≡ length c = grind arith in rw (l, whole c) (same_bytes-refl c)
    by false k = other (same_bytes (ended n c) c) refl k

-- ---- each change

-- the same bytes, at the same moment
both_held : (a b x y r : Bool) → r ≡ not (a && b) → a ≡ x → b ≡ y → r ≡ not (x && y)
both_held a b x y r e h k = e ∙ (ap (λ (z : Bool). not (z && b)) h ∙ ap (λ (z : Bool). not (x && z)) k)

pub bytes_differ : (s : Server) (f now p : ℕ) (d v : List ℕ) (a b r : Bool) → r ≡ not (a && b) → d ≡ v
    → a ≡ same_bytes (written p d (s.content f)) (s.content f) → b ≡ is_touched_at (s.basic f) now
    → r ≡ change_acts s f now (verdicts.PutBytes p v)
bytes_differ s f now p d v a b r e i h k = both_held a b _ _ r e
    (h ∙ ap (λ (z : List ℕ). same_bytes (written p z (s.content f)) (s.content f)) i) k

pub end_differs : (s : Server) (f now size : ℕ) (a b r : Bool) → r ≡ not (a && b) → a ≡ (size == length (s.content f))
    → b ≡ is_touched_at (s.basic f) now → r ≡ change_acts s f now (verdicts.PutEnd size)
end_differs s f now size a b r e h k = both_held a b _ _ r e (h ∙ sym (ended_same size (s.content f))) k

pub basic_differs : (s : Server) (f now : ℕ) (basic old : Basic) (a : Bool) → a ≡ same_basic basic old → old ≡ s.basic f
    → not a ≡ change_acts s f now (verdicts.PutBasic basic)
basic_differs s f now basic old a e h = ap not (e ∙ ap (same_basic basic) h)

pub pending_on : (s : Server) (f now : ℕ) (flag b : Bool) → b ≡ s.delete_pending f → b ≡ true
    → not flag ≡ change_acts s f now (verdicts.PutDeletePending flag)
pending_on s f now flag b e h = ap (λ (z : Bool). if z then not flag else flag) (sym h ∙ e)

pub pending_off : (s : Server) (f now : ℕ) (flag b : Bool) → b ≡ s.delete_pending f → b ≡ false
    → flag ≡ change_acts s f now (verdicts.PutDeletePending flag)
pending_off s f now flag b e h = ap (λ (z : Bool). if z then not flag else flag) (sym h ∙ e)

pub path_differs : (s : Server) (f now : ℕ) (a b v : List ℕ) (x : Bool) → x ≡ same_bytes a b → a ≡ v → b ≡ path_of s f
    → not x ≡ change_acts s f now (verdicts.PutPath None v)
path_differs s f now a b v x e h k = ap not (e ∙ (ap (λ (z : List ℕ). same_bytes z b) h ∙ ap (same_bytes v) k))
