-- Replies joined first and written then are the same frames as replies written one after the other.
use Rattle.std.proofs.Common.{◌≡◌, ℕ, ◌+◌, nat_le, Bool, true, false, if◌then◌else◌, List, [], ◌∷◌, ◌++◌}
use Rattle.std.proofs.Common.{refl, ap, ◌∙◌, arith}
use Rattle.spec_world.specs.Answering.{SaidReply, said_text, said_size, whole_size, text_limit, gathered, joined_in}
use Rattle.spec_world.specs.Answering.{texts_of, all_texts}
use Rattle.conn_core.specs.reply_sealing.Joining.{reply_rows}

if_both : {X : Type 0} (b : Bool) (x y u v : X) → x ≡ u → y ≡ v → (if b then x else y) ≡ (if b then u else v)
if_both true x y u v e f = e
if_both false x y u v e f = f

texts_if : (sealed b : Bool) (x y : List (List SaidReply)) → all_texts sealed (if b then x else y)
    ≡ (if b then all_texts sealed x else all_texts sealed y)
texts_if sealed true x y = refl
texts_if sealed false x y = refl

-- the texts of replies behind each of which another one follows
unfoldable followed : Bool → List SaidReply → List (List ℕ)
followed sealed [] = []
followed sealed (r ∷ rs) = said_text sealed true r ∷ followed sealed rs

followed-append : (sealed : Bool) (rs : List SaidReply) (r : SaidReply) → followed sealed (rs ++ r ∷ []) ≡ followed sealed rs
    ++ said_text sealed true r ∷ []
unfolding followed
followed-append sealed [] r = refl
followed-append sealed (x ∷ xs) r = ap (λ (ts : List (List ℕ)). said_text sealed true x ∷ ts) (followed-append sealed xs r)

texts_last : (sealed : Bool) (front : List SaidReply) (r : SaidReply) → texts_of sealed (front ++ r ∷ [])
    ≡ followed sealed front ++ said_text sealed false r ∷ []
unfolding texts_of followed
texts_last sealed [] r = refl
texts_last sealed (x ∷ []) r = refl
texts_last sealed (x ∷ y ∷ ys) r = ap (λ (ts : List (List ℕ)). said_text sealed true x ∷ ts) (texts_last sealed (y ∷ ys) r)

from_none : (n : ℕ) → n ≡ 0 + n
from_none n = omega arith

-- front is what is joined before r, of this size
gather : (sealed : Bool) (front : List SaidReply) (before : ℕ) (r : SaidReply) (rs : List SaidReply)
    → all_texts sealed (gathered (text_limit sealed) (before + whole_size r) (front ++ r ∷ []) rs)
    ≡ reply_rows sealed (followed sealed front) before (r ∷ rs)
unfolding gathered all_texts reply_rows followed
gather sealed front before r [] = ap (λ (ts : List (List ℕ)). ts ∷ []) (texts_last sealed front r)
gather sealed front before r (n ∷ rs) =
    let limit = text_limit sealed in
    let fits : Bool = nat_le (before + whole_size r + said_size n) limit in
    let joined = gathered limit (before + whole_size r + whole_size n) ((front ++ r ∷ []) ++ n ∷ []) rs in
    let apart = gathered limit (whole_size n) (n ∷ []) rs in
    texts_if sealed fits joined ((front ++ r ∷ []) ∷ apart)
    ∙ if_both fits (all_texts sealed joined) (texts_of sealed (front ++ r ∷ []) ∷ all_texts sealed apart)
    (reply_rows sealed (followed sealed front ++ said_text sealed true r ∷ []) (before + whole_size r) (n ∷ rs))
    ((followed sealed front ++ said_text sealed false r ∷ []) ∷ reply_rows sealed [] 0 (n ∷ rs))
    (gather sealed (front ++ r ∷ []) (before + whole_size r) n rs
    ∙ ap (λ (ts : List (List ℕ)). reply_rows sealed ts (before + whole_size r) (n ∷ rs)) (followed-append sealed front r))
    (ap (λ (ts : List (List ℕ)). ts ∷ all_texts sealed apart) (texts_last sealed front r)
    ∙ ap (λ (rest : List (List (List ℕ))). (followed sealed front ++ said_text sealed false r ∷ []) ∷ rest)
    (ap (λ (k : ℕ). all_texts sealed (gathered limit k (n ∷ []) rs)) (from_none (whole_size n)) ∙ gather sealed [] 0 n rs))

-- of a whole answer
pub rows_are : (sealed : Bool) (rs : List SaidReply) → all_texts sealed (joined_in (text_limit sealed) rs) ≡ reply_rows sealed [] 0 rs
unfolding all_texts reply_rows followed
rows_are sealed [] = refl
rows_are sealed (r ∷ rs) =
    ap (λ (k : ℕ). all_texts sealed (gathered (text_limit sealed) k (r ∷ []) rs)) (from_none (whole_size r)) ∙ gather sealed [] 0 r rs
