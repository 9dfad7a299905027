-- A long frame whose message is gathered apart: what is fed to it, and what stands at the front of the stream.
use Rattle.std.proofs.Common.{◌≡◌, ◌⊎◌, inl, inr, ℕ, zero, suc, ◌+◌, ◌-◌, ◌*◌, ◌<◌, ◌≤◌, ◌==◌, Bool, true, false}
use Rattle.std.proofs.Common.{List, [], ◌++◌, length, take, drop, get_or, refl, sym, ap, subst, ◌∙◌, arith, append-nil}
use Rattle.std.proofs.Common.{length-append, length-drop}
use Rattle.std.proofs.lemmas.Bool.Decides.{nat_tests}
use Rattle.std.proofs.Math.Seq.{drop-append_seam, take-append_seam}
use Rattle.std.proofs.lemmas.List.{append_assoc, drop-append-le, drop-drop, get_or_append_left, take-append-drop, take_all}
use Rattle.spec_wire.specs.messages.Places.{bytes_at}
use Rattle.spec_wire.specs.messages.Frames.{Waits, Whole, front, told_length}
use Rattle.wire_bytes.specs.frames.Long.{Gathers, HasLong, HasNone}

-- ---- a piece is fed

nothing_of : (head long rest piece : List ℕ)
    → (head ++ (long ++ [])) ++ (rest ++ piece) ≡ ((head ++ long) ++ rest) ++ piece
nothing_of head long rest piece =
    ap (λ (l : List ℕ). (head ++ l) ++ (rest ++ piece)) (append-nil long) ∙ sym (append_assoc (head ++ long) rest piece)

part_of : (head long piece : List ℕ) (own : ℕ)
    → (head ++ (long ++ take own piece)) ++ drop own piece ≡ ((head ++ long) ++ []) ++ piece
part_of head long piece own =
    ap (λ (l : List ℕ). l ++ drop own piece) (sym (append_assoc head long (take own piece)))
    ∙ append_assoc (head ++ long) (take own piece) (drop own piece)
    ∙ ap (λ (l : List ℕ). (head ++ long) ++ l) (take-append-drop own piece)
    ∙ ap (λ (l : List ℕ). l ++ piece) (sym (append-nil (head ++ long)))

by_missing : (head long rest piece : List ℕ) (missing own : ℕ) → Gathers head long missing rest → own ≤ missing
    → (head ++ (long ++ take own piece)) ++ (rest ++ drop own piece) ≡ ((head ++ long) ++ rest) ++ piece
by_missing head long rest piece zero own g few =
    subst (λ (n : ℕ). (head ++ (long ++ take n piece)) ++ (rest ++ drop n piece) ≡ ((head ++ long) ++ rest) ++ piece)
    (let none : 0 ≡ own = omega (arith, few) in none) (nothing_of head long rest piece)
by_missing head long rest piece (suc n) own (inl x) few = absurd (let none = x.none_missing in omega (arith, none))
by_missing head long rest piece (suc n) own (inr x) few =
    subst (λ (r : List ℕ). (head ++ (long ++ take own piece)) ++ (r ++ drop own piece) ≡ ((head ++ long) ++ r) ++ piece)
    (sym (x.last (omega arith))) (part_of head long piece own)

pub added : (head long long' bytes bytes' piece view : List ℕ) (missing at own : ℕ)
    → (at ≤ length bytes) × Gathers head long missing (drop at bytes) → (head ++ long) ++ drop at bytes ≡ view → own ≤ missing
    → long' ≡ long ++ take own piece → bytes' ≡ bytes ++ take (length piece - own) (drop own piece)
    → (head ++ long') ++ drop at bytes' ≡ view ++ piece
added head long long' bytes bytes' piece view missing at own held is few e f =
    let whole : take (length piece - own) (drop own piece) ≡ drop own piece = take_all (length piece - own) (drop own piece)
    (omega (arith, length-drop own piece)) in
    let behind : drop at bytes' ≡ drop at bytes ++ drop own piece = ap (drop at) f
    ∙ drop-append-le at bytes (take (length piece - own) (drop own piece)) held.0
    ∙ ap (λ (l : List ℕ). drop at bytes ++ l) whole in
    ap (λ (l : List ℕ). (head ++ l) ++ drop at bytes') e ∙ ap (λ (l : List ℕ). (head ++ (long ++ take own piece)) ++ l) behind
    ∙ by_missing head long (drop at bytes) piece missing own held.1 few ∙ ap (λ (l : List ℕ). l ++ piece) is

-- ---- the front of a stream

tells : (head more : List ℕ) → length head ≡ 4 → told_length (head ++ more) ≡ told_length head
tells head more size =
    ap (λ (n : ℕ). 65536 * n + 256 * get_or (head ++ more) 2 0 + get_or (head ++ more) 3 0)
    (get_or_append_left head more 0 1 (omega (arith, size)))
    ∙ ap (λ (n : ℕ). 65536 * get_or head 1 0 + 256 * n + get_or (head ++ more) 3 0)
    (get_or_append_left head more 0 2 (omega (arith, size)))
    ∙ ap (λ (n : ℕ). 65536 * get_or head 1 0 + 256 * get_or head 2 0 + n)
    (get_or_append_left head more 0 3 (omega (arith, size)))

leads : (head more : List ℕ) → length head ≡ 4 → get_or head 0 0 ≡ 0 → get_or (head ++ more) 0 0 ≡ 0
leads head more size lead = get_or_append_left head more 0 0 (omega (arith, size)) ∙ lead

waits_at : (s : List ℕ) (told : ℕ) → get_or s 0 0 ≡ 0 → told_length s ≡ told → told ≤ 1114112 → 4 ≤ length s
    → length s < 4 + told → front s ≡ Waits
unfolding front
waits_at s told lead tells most size short = grind (arith, nat_tests)

whole_at : (s : List ℕ) (told : ℕ) → get_or s 0 0 ≡ 0 → told_length s ≡ told → told ≤ 1114112 → 4 + told ≤ length s
    → front s ≡ Whole (bytes_at told s 4) (drop (4 + told) s)
unfolding front
whole_at s told lead tells most size = grind (arith, nat_tests)

has_one : (head long : List ℕ) (missing : ℕ) (rest : List ℕ) (empty : Bool) → Gathers head long missing rest
    → empty ≡ (length head == 0) → empty ≡ false → HasLong head long missing rest
has_one head long missing rest empty (inr x) is some = x
has_one head long missing rest empty (inl x) is some =
    absurd (let e : empty ≡ true = is ∙ ap (λ (l : List ℕ). length l == 0) x.head_is in cc)

pub waits : (head long bytes view : List ℕ) (missing at : ℕ) (empty : Bool)
    → (at ≤ length bytes) × Gathers head long missing (drop at bytes) → (head ++ long) ++ drop at bytes ≡ view
    → empty ≡ (length head == 0) → empty ≡ false → 1 ≤ missing → front view ≡ Waits
waits head long bytes view missing at empty held is none some more =
    let x = has_one head long missing (drop at bytes) empty held.1 none some in
    let s : (head ++ long) ++ drop at bytes ≡ head ++ (long ++ drop at bytes) = append_assoc head long (drop at bytes) in
    let size : length (head ++ (long ++ drop at bytes)) ≡ 4 + length long = length-append head (long ++ drop at bytes)
    ∙ ap (λ (l : List ℕ). length head + length (long ++ l)) (x.last more) ∙ ap (λ (l : List ℕ). length head + length l) (append-nil long)
    ∙ ap (λ (n : ℕ). n + length long) x.size in
    let told = x.told in let most = x.most in
    ap front (sym is ∙ s)
    ∙ waits_at (head ++ (long ++ drop at bytes)) (told_length head) (leads head (long ++ drop at bytes) x.size x.lead)
    (tells head (long ++ drop at bytes) x.size) x.most (omega (arith, size)) (omega (arith, size, told, more))

pub hands : (head long bytes view head' long' message : List ℕ) (missing at : ℕ) (empty : Bool)
    → (at ≤ length bytes) × Gathers head long missing (drop at bytes) → (head ++ long) ++ drop at bytes ≡ view
    → empty ≡ (length head == 0) → empty ≡ false → missing ≤ 0 → head' ≡ [] → long' ≡ [] → message ≡ long
    → front view ≡ Whole message ((head' ++ long') ++ drop at bytes)
unfolding bytes_at
hands head long bytes view head' long' message missing at empty held is none some done e f same =
    let x = has_one head long missing (drop at bytes) empty held.1 none some in
    let rest = drop at bytes in
    let s : (head ++ long) ++ rest ≡ head ++ (long ++ rest) = append_assoc head long rest in
    let told = x.told in
    let all : told_length head ≡ length long = omega (arith, told, done) in
    let size : length (head ++ (long ++ rest)) ≡ 4 + (length long + length rest) = length-append head (long ++ rest)
    ∙ ap (λ (n : ℕ). length head + n) (length-append long rest) ∙ ap (λ (n : ℕ). n + (length long + length rest)) x.size in
    let behind : drop 4 (head ++ (long ++ rest)) ≡ long ++ rest = behind_head head (long ++ rest) x.size in
    let text : take (told_length head) (drop 4 (head ++ (long ++ rest))) ≡ long = ap (λ (n : ℕ). take n (drop 4 (head ++ (long ++ rest)))) all
    ∙ ap (take (length long)) behind ∙ front_part long rest in
    let later : drop (4 + told_length head) (head ++ (long ++ rest)) ≡ rest = ap (λ (n : ℕ). drop (4 + n) (head ++ (long ++ rest))) all
    ∙ sym (drop-drop (length long) 4 (head ++ (long ++ rest))) ∙ ap (drop (length long)) behind ∙ back_part long rest in
    ap front (sym is ∙ s)
    ∙ whole_at (head ++ (long ++ rest)) (told_length head) (leads head (long ++ rest) x.size x.lead)
    (tells head (long ++ rest) x.size) x.most (omega (arith, size, all))
    ∙ ap (λ (b : List ℕ). Whole b (drop (4 + told_length head) (head ++ (long ++ rest)))) (text ∙ sym same)
    ∙ ap (λ (b : List ℕ). Whole message b) (later ∙ sym (ap (λ (l : List ℕ). (l ++ long') ++ rest) e ∙ ap (λ (l : List ℕ). l ++ rest) f))
  where
    behind_head : (head more : List ℕ) → length head ≡ 4 → drop 4 (head ++ more) ≡ more
    behind_head head more size =
        subst (λ (n : ℕ). drop n (head ++ more) ≡ more) size (drop-append_seam head more)

    front_part : (xs ys : List ℕ) → take (length xs) (xs ++ ys) ≡ xs
    front_part xs ys = take-append_seam xs ys

    back_part : (xs ys : List ℕ) → drop (length xs) (xs ++ ys) ≡ ys
    back_part xs ys = drop-append_seam xs ys
