-- What passes over a link, one call behind another.
use Rattle.std.proofs.Common.{◌≡◌, ℕ, Bool, true, false, List, [], ◌++◌, ◌||◌, ◌&&◌, ◌<◌, ◌==◌, not, length}
use Rattle.std.proofs.Common.{refl, sym, ap, ◌∙◌, append_assoc, arith}
use Rattle.std.proofs.lemmas.Grind.{common_steps}
use Rattle.std.proofs.lemmas.List.{append-nil}
use Rattle.base_outside.specs.network.Link.{is_link_end}
use Rattle.serve_turns.specs.link_serving.Passage.{Passed}

module _ {K : Type 0} (told : Type 0) (given left written : K → List ℕ) where
  pub passed_on : (l m n : K) (a b x y : List ℕ) → Passed told given left written l m a x → Passed told given left written m n b y
      → Passed told given left written l n (a ++ b) (x ++ y)
  passed_on l m n a b x y h k =
      record {
        given_is = λ t. k.given_is t ∙ ap (λ (z : List ℕ). z ++ b) (h.given_is t) ∙ append_assoc (given l) a b;
        left_is = λ t. h.left_is t ∙ ap (λ (z : List ℕ). a ++ z) (k.left_is t) ∙ sym (append_assoc a b (left n));
        written_is = λ t. k.written_is t ∙ ap (λ (z : List ℕ). z ++ y) (h.written_is t) ∙ append_assoc (written l) x y;
      }

  -- a link with which nothing was done
  pub passed_none : (l : K) → Passed told given left written l l [] []
  passed_none l = record {
    given_is = λ t. sym (append-nil (given l));
    left_is = λ t. refl;
    written_is = λ t. sym (append-nil (written l));
  }

  -- the link gave bytes and took none
  pub gave : (l n : K) (bytes : List ℕ) → (told → given n ≡ given l ++ bytes) → (told → left l ≡ bytes ++ left n)
      → (told → written n ≡ written l) → Passed told given left written l n bytes []
  gave l n bytes h q k = record { given_is = h; left_is = q; written_is = λ t. k t ∙ sym (append-nil (written l)) }

  -- it gave none in a read
  pub gave_none : (l n : K) → (told → (left n ≡ left l) × (given n ≡ given l)) → (told → written n ≡ written l)
      → Passed told given left written l n [] []
  gave_none l n h k = gave l n [] (λ t. (h t).1 ∙ sym (append-nil (given l))) (λ t. sym (h t).0) k

-- a read of nothing into a buffer that has room is the end
is_last : (ended : Bool) (n : ℕ) → 0 < n → (ended || ((0 == 0) && not (n == 0))) ≡ true
is_last true n some = refl
is_last false n some = let test : (n == 0) ≡ false = grind (arith, common_steps) in rw test refl

pub at_end : (ended ended' : Bool) (buffer : List ℕ) (count : ℕ) → count ≡ 0 → 0 < length buffer
    → ended' ≡ (ended || is_link_end count buffer) → ended' ≡ true
at_end ended ended' buffer count is some e =
    e ∙ ap (λ (x : ℕ). ended || is_link_end x buffer) is ∙ is_last ended (length buffer) some
