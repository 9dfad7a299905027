-- The frames of replies as they are written one after the other: one reply more, and the texts in their order.
use Rattle.std.proofs.Common.{◌≡◌, ℕ, ◌+◌, nat_le, Bool, true, false, if◌then◌else◌, List, [], ◌∷◌, ◌++◌, append_assoc, length}
use Rattle.std.proofs.Common.{drop, refl, sym, ap, ◌∙◌}
use Rattle.std.proofs.lemmas.List.{append-nil, drop_at}
use Rattle.spec_world.specs.Answering.{SaidReply, said_text, said_size, whole_size, text_limit, concatenated, each_joined}
use Rattle.conn_core.specs.reply_sealing.Joining.{joins_next, reply_rows}
use Rattle.conn_core.specs.reply_frames.Joined.{next_of}

-- the rows behind one more reply
abbrev pub rows_behind : Bool → Bool → List (List ℕ) → ℕ → SaidReply → List SaidReply → List (List (List ℕ))
rows_behind true sealed front size r rs = reply_rows sealed (front ++ said_text sealed true r ∷ []) (size + whole_size r) rs
rows_behind false sealed front size r rs = (front ++ said_text sealed false r ∷ []) ∷ reply_rows sealed [] 0 rs

rows_by : (more sealed : Bool) (front : List (List ℕ)) (size : ℕ) (r : SaidReply) (rs : List SaidReply)
    → (if more then reply_rows sealed (front ++ said_text sealed true r ∷ []) (size + whole_size r) rs
    else (front ++ said_text sealed false r ∷ []) ∷ reply_rows sealed [] 0 rs) ≡ rows_behind more sealed front size r rs
rows_by true sealed front size r rs = refl
rows_by false sealed front size r rs = refl

pub one_row_more : (sealed : Bool) (front : List (List ℕ)) (size : ℕ) (r : SaidReply) (rs : List SaidReply)
    → reply_rows sealed front size (r ∷ rs) ≡ rows_behind (joins_next sealed size r (next_of rs)) sealed front size r rs
unfolding reply_rows
one_row_more sealed front size r [] = refl
one_row_more sealed front size r (n ∷ rs) =
    rows_by (nat_le (size + whole_size r + said_size n) (text_limit sealed)) sealed front size r (n ∷ rs)

abbrev Begins : List (List ℕ) → List (List (List ℕ)) → Type 0
Begins front xs = (rest : List (List ℕ)) × (concatenated xs ≡ front ++ rest)

begins_by : (more sealed : Bool) (front : List (List ℕ)) (size : ℕ) (r n : SaidReply) (rs : List SaidReply)
    → Begins (front ++ said_text sealed true r ∷ []) (reply_rows sealed (front ++ said_text sealed true r ∷ [])
    (size + whole_size r) (n ∷ rs))
    → Begins front (if more then reply_rows sealed (front ++ said_text sealed true r ∷ []) (size + whole_size r) (n ∷ rs)
    else (front ++ said_text sealed false r ∷ []) ∷ reply_rows sealed [] 0 (n ∷ rs))
unfolding concatenated
begins_by true sealed front size r n rs h = (
  said_text sealed true r ∷ h.0,
  h.1 ∙ append_assoc front (said_text sealed true r ∷ []) h.0,
)
begins_by false sealed front size r n rs h = (
  said_text sealed false r ∷ concatenated (reply_rows sealed [] 0 (n ∷ rs)),
  append_assoc front (said_text sealed false r ∷ []) (concatenated (reply_rows sealed [] 0 (n ∷ rs))),
)

begins : (sealed : Bool) (front : List (List ℕ)) (size : ℕ) (r : SaidReply) (rs : List SaidReply)
    → Begins front (reply_rows sealed front size (r ∷ rs))
unfolding reply_rows concatenated
begins sealed front size r [] = (said_text sealed false r ∷ [], append-nil (front ++ said_text sealed false r ∷ []))
begins sealed front size r (n ∷ rs) =
    begins_by (nat_le (size + whole_size r + said_size n) (text_limit sealed)) sealed front size r n rs
    (begins sealed (front ++ said_text sealed true r ∷ []) (size + whole_size r) n rs)

-- the texts of rows begin with those in front
pub begin_with : (sealed : Bool) (front : List (List ℕ)) (size : ℕ) (r : SaidReply) (rs : List SaidReply)
    → concatenated (reply_rows sealed front size (r ∷ rs)) ≡ front
    ++ drop (length front) (concatenated (reply_rows sealed front size (r ∷ rs)))
begin_with sealed front size r rs =
    let all : List (List ℕ) = concatenated (reply_rows sealed front size (r ∷ rs)) in
    let is = begins sealed front size r rs in
    let rest : drop (length front) all ≡ is.0 =
    ap (λ (l : List (List ℕ)). drop (length front) l) is.1 ∙ drop_at front is.0 (length front) refl in
    is.1 ∙ ap (λ (l : List (List ℕ)). front ++ l) (sym rest)

pub each_more : (rows_done : List (List (List ℕ))) (ts : List (List ℕ))
    → each_joined (rows_done ++ ts ∷ []) ≡ each_joined rows_done ++ concatenated ts ∷ []
unfolding each_joined
each_more [] ts = refl
each_more (x ∷ xs) ts = ap (λ (l : List (List ℕ)). concatenated x ∷ l) (each_more xs ts)
