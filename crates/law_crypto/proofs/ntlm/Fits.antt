-- The pairs of a challenge fit, and those of an answer: the server's pairs, then the client's own and the end.
use Rattle.std.proofs.Common.{◌≡◌, ℕ, zero, suc, ◌+◌, ◌≤◌, ◌==◌, nat_lt, Bool, true, false, if◌then◌else◌, List, []}
use Rattle.std.proofs.Common.{◌++◌, append_assoc, length, take, drop, replicate, length-append, length-drop, refl, sym}
use Rattle.std.proofs.Common.{ap, subst, ◌∙◌, arith, Option, Some, None, Ok}
use Rattle.std.proofs.lemmas.Bool.Decides.{nat_tests}
use Rattle.std.proofs.lemmas.List.{take-append-le, drop-append-le, drop_at, take-append-drop, length-take-le}
use Rattle.std.proofs.Math.Seq.{take-add}
use Rattle.spec_wire.specs.messages.Places.{le, number, number_of, bytes_at}
use Rattle.spec_crypto.specs.tokens.Pairs.{pair, end_pair, pair_size, pairs_break, end_at}
use Rattle.spec_wire.proofs.messages.Numbers.{bytes_at-nothing}
use Rattle.spec_crypto.specs.declared.tokens.ntlm.NtlmError.{NtlmError}
use Rattle.spec_crypto.specs.declared.tokens.ntlm.NtlmField.TheVariants.{TargetName, TargetInfo}
use Rattle.spec_crypto.specs.tokens.Messages.{Type2Value, ◌or_else◌, start_fault, part_fault, part_in, info_fault, pairs_fault}
use Rattle.spec_crypto.specs.tokens.Messages.{type2_fault, type2_value, given, type2_in}
use Rattle.spec_crypto.specs.tokens.Acceptor.{server_info}
use Rattle.spec_crypto.specs.tokens.Answer.{client_info}

-- ---- a challenge's pairs

pub server_fits : (at now : ℕ) → info_fault at (server_info now) ≡ None
unfolding info_fault pairs_break le bytes_at number_of
server_fits at now = refl

pub server_size : (now : ℕ) → length (server_info now) ≡ 80
unfolding le
server_size now = refl

-- ---- an answer's pairs

number_front : (a b : List ℕ) (at : ℕ) → at + 2 ≤ length a → number 2 (a ++ b) at ≡ number 2 a at
unfolding bytes_at
number_front a b at fit =
    ap number_of (ap (take 2) (drop-append-le at a b (omega arith)) ∙ take-append-le 2 (drop at a) b (let l =
    length-drop at a in omega arith))

not_short : (n k : ℕ) → k ≤ n → nat_lt n k ≡ false
not_short n k h = grind (arith, nat_tests)

long_enough : (n k : ℕ) → nat_lt n k ≡ false → k ≤ n
long_enough n k h = grind (arith, nat_tests)

-- one whole pair in front
one_pair : (m at : ℕ) (info rest : List ℕ) → 4 ≤ length info → (number 2 info 0 == 0) ≡ false → pair_size info ≤ length
    info → pairs_break (suc m) at (take (pair_size info) info ++ rest) ≡ pairs_break m (at + pair_size info) rest
unfolding pairs_break
one_pair m at info rest long more fits =
    let s : ℕ = pair_size info in
    let p : List ℕ = take s info in
    let size : length p ≡ s = length-take-le s info fits in
    let whole : p ++ drop s info ≡ info = take-append-drop s info in
    let id : number 2 (p ++ rest) 0 ≡ number 2 info 0 = number_front p rest 0 (omega arith) ∙ sym (number_front p (drop
    s info) 0 (omega arith)) ∙ ap (λ (x : List ℕ). number 2 x 0) whole in
    let count : number 2 (p ++ rest) 2 ≡ number 2 info 2 = number_front p rest 2 (omega arith) ∙ sym (number_front p
    (drop s info) 2 (omega arith)) ∙ ap (λ (x : List ℕ). number 2 x 2) whole in
    let all : length (p ++ rest) ≡ length p + length rest = length-append p rest in
    let told : nat_lt (length (p ++ rest)) 4 ≡ false = not_short (length (p ++ rest)) 4 (omega arith) in
    let inside : nat_lt (length (p ++ rest)) s ≡ false = not_short (length (p ++ rest)) s (omega arith) in
    let behind : drop s (p ++ rest) ≡ rest = drop_at p rest s size in
    rw (told, id, more, count, inside, behind) refl

abbrev Follows : List ℕ → Type 0
Follows tail = (j b : ℕ) → 2 ≤ j → pairs_break j b tail ≡ None

abbrev broken : Bool → Bool → Bool → ℕ → Option ℕ → Option ℕ
broken short done long at rest = if short then Some at else if done then None else if long then Some at else rest

abbrev ended : Bool → Bool → Bool → ℕ → ℕ
ended short done long rest = if short then 0 else if done then 0 else if long then 0 else rest

one_more : (n m at at' : ℕ) (info tail : List ℕ) → Follows tail
    → ((m at at' : ℕ) → pairs_break n at (drop (pair_size info) info) ≡ None → end_at n (drop (pair_size info) info) + 2
    ≤ m → pairs_break m at' (take (end_at n (drop (pair_size info) info)) (drop (pair_size info) info) ++ tail) ≡
    None)
    → (short done long : Bool) → nat_lt (length info) 4 ≡ short → (number 2 info 0 == 0) ≡ done → nat_lt (length info)
    (pair_size info) ≡ long
    → broken short done long at (pairs_break n (at + pair_size info) (drop (pair_size info) info)) ≡ None
    → ended short done long (pair_size info + end_at n (drop (pair_size info) info)) + 2 ≤ m
    → pairs_break m at' (take (ended short done long (pair_size info + end_at n (drop (pair_size info) info))) info ++ tail) ≡ None
one_more n m at at' info tail follows later true done long s d l h le = absurd cc
one_more n m at at' info tail follows later false true long s d l h le = follows m at' (omega arith)
one_more n m at at' info tail follows later false false true s d l h le = absurd cc
one_more n zero at at' info tail follows later false false false s d l h le = absurd (omega arith)
one_more n (suc m) at at' info tail follows later false false false s d l h le =
    let size : ℕ = pair_size info in
    let rest : List ℕ = drop size info in
    let front : ℕ = end_at n rest in
    let split : take (size + front) info ++ tail ≡ take size info ++ (take front rest ++ tail) = ap (λ (x : List ℕ). x
    ++ tail) (take-add size front info) ∙ append_assoc (take size info) (take front rest) tail in
    ap (λ (x : List ℕ). pairs_break (suc m) at' x) split
    ∙ one_pair m at' info (take front rest ++ tail) (long_enough (length info) 4 s) d (long_enough (length info) size l)
    ∙ later m (at + size) (at' + size) h (omega arith)

-- pairs that fit, up to the end pair, and others that fit behind them
fits_on : (n m at at' : ℕ) (info tail : List ℕ) → Follows tail → pairs_break n at info ≡ None → end_at n info + 2 ≤ m →
    pairs_break m at' (take (end_at n info) info ++ tail) ≡ None
unfolding pairs_break end_at
fits_on zero m at at' info tail follows h le = absurd cc
fits_on (suc n) m at at' info tail follows h le =
    one_more n m at at' info tail follows (λ m at at' h le. fits_on n m at at' (drop (pair_size info) info) tail follows h le)
    (nat_lt (length info) 4) (number 2 info 0 == 0) (nat_lt (length info) (pair_size info)) refl refl refl h le

ended_within : (n : ℕ) (info : List ℕ) (short done long : Bool) → nat_lt (length info) (pair_size info) ≡ long → end_at
    n (drop (pair_size info) info) ≤ length (drop (pair_size info) info)
    → ended short done long (pair_size info + end_at n (drop (pair_size info) info)) ≤ length info
ended_within n info true done long l h = omega arith
ended_within n info false true long l h = omega arith
ended_within n info false false true l h = omega arith
ended_within n info false false false l h = let fits = long_enough (length info) (pair_size info) l in let d =
    length-drop (pair_size info) info in omega arith

-- the end pair stands inside
end_within : (n : ℕ) (info : List ℕ) → end_at n info ≤ length info
unfolding end_at
end_within zero info = omega arith
end_within (suc n) info =
    ended_within n info (nat_lt (length info) 4) (number 2 info 0 == 0) (nat_lt (length info) (pair_size info)) refl
    (end_within n (drop (pair_size info) info))

abbrev pub own_pairs : List ℕ
own_pairs = (pair 6 (le 4 2) ++ end_pair) ++ replicate 4 0

own_follow : Follows own_pairs
unfolding pairs_break le bytes_at number_of
own_follow zero b h = absurd (omega arith)
own_follow (suc zero) b h = absurd (omega arith)
own_follow (suc (suc j)) b h = refl

own_size : length own_pairs ≡ 16
unfolding le
own_size = refl

-- the pairs of an answer, and the zeros behind them
pub answer_pairs : (at at' : ℕ) (info : List ℕ) → pairs_break (length info) at info ≡ None → info_fault at' (client_info
    info ++ replicate 4 0) ≡ None
unfolding info_fault client_info
answer_pairs at at' info h =
    let end : ℕ = end_at (length info) info in
    let front : List ℕ = take end info in
    let joined : (front ++ (pair 6 (le 4 2) ++ end_pair)) ++ replicate 4 0 ≡ front ++ own_pairs = append_assoc front
    (pair 6 (le 4 2) ++ end_pair) (replicate 4 0) in
    let size : length front ≡ end = length-take-le end info (end_within (length info) info) in
    let whole = length-append front own_pairs in
    let own = own_size in
    ap (λ (x : List ℕ). pairs_fault (pairs_break (length x) at' x)) joined
    ∙ ap pairs_fault (fits_on (length info) (length (front ++ own_pairs)) at at' info own_pairs own_follow h (omega arith))

pub answer_alone : (at' : ℕ) → info_fault at' (client_info [] ++ replicate 4 0) ≡ None
unfolding info_fault client_info pairs_break end_at le bytes_at number_of
answer_alone at' = refl

-- ---- what was read has pairs that fit, or none

last_none : (x y : Option NtlmError) → (x or_else y) ≡ None → y ≡ None
last_none None y h = h
last_none (Some e) y h = absurd cc

no_break : (o : Option ℕ) → pairs_fault o ≡ None → o ≡ None
no_break None h = refl
no_break (Some at) h = absurd cc

pub given_value : {V : Type 0} (f : Option NtlmError) (x v : V) → given f x ≡ Ok v → (f ≡ None) × (x ≡ v)
given_value None x v h = (refl, cc)
given_value (Some e) x v h = absurd cc

pub data HasPairs (info : List ℕ) : Type 0 where
  Without : info ≡ [] → HasPairs info
  With : (at : ℕ) → pairs_break (length info) at info ≡ None → HasPairs info

is_zero : (n : ℕ) → (n == 0) ≡ true → n ≡ 0
is_zero n h = grind (arith, nat_tests)

pairs_by : (none : Bool) (m : List ℕ) (count at : ℕ) → (count == 0) ≡ none → (if none then None else info_fault at
    (bytes_at count m at)) ≡ None → HasPairs (bytes_at count m at)
unfolding info_fault
pairs_by true m count at e h = Without (ap (λ (n : ℕ). bytes_at n m at) (is_zero count e) ∙ bytes_at-nothing m at)
pairs_by false m count at e h = With at (no_break (pairs_break (length (bytes_at count m at)) at (bytes_at count m at)) h)

-- the target information of a type 2 that reads
pub info_read : (m : List ℕ) (v : Type2Value) → type2_in m ≡ Ok v → HasPairs v.target_info
info_read m v h =
    let both = given_value (type2_fault m) (type2_value m) v h in
    let last : (if number 2 m 40 == 0 then None else info_fault (number 4 m 44) (part_in m 40)) ≡ None =
    last_none (start_fault m 56 2 or_else part_fault m 12 TargetName or_else part_fault m 40 TargetInfo) (if number 2 m
    40 == 0 then None else info_fault (number 4 m 44) (part_in m 40)) both.0 in
    subst (λ (x : Type2Value). HasPairs x.target_info) both.1 (pairs_by (number 2 m 40 == 0) m (number 2 m 40) (number 4 m 44) refl last)

pub answer_fits : (at' : ℕ) (info : List ℕ) → HasPairs info → info_fault at' (client_info info ++ replicate 4 0) ≡ None
answer_fits at' info (Without e) = ap (λ (x : List ℕ). info_fault at' (client_info x ++ replicate 4 0)) e ∙ answer_alone at'
answer_fits at' info (With at h) = answer_pairs at at' info h
