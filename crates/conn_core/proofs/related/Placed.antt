-- The other messages of a frame, where bytes at one place of it change.
use Rattle.std.proofs.Common.{◌≡◌, ℕ, ◌+◌, ◌-◌, ◌≤◌, List, ◌++◌, length, take, drop, length-append, length-drop, sym, ap, ◌∙◌, arith}
use borrow.Rule.Slice.PartMut.{put_mid}
use Rattle.std.proofs.lemmas.List.{drop-drop, drop-take, drop_at, take_at, take-append-le, take-take, length-take-le}
use Rattle.spec_wire.specs.declared.messages.header.Span.{Span}
use Rattle.conn_core.specs.frame_messages.Checking.{bytes_of}

-- the place itself
pub itself : (s : Span) (old new part : List ℕ) → s.start ≤ s.end → s.end ≤ length old → length part ≡ s.end - s.start
    → new ≡ take s.start old ++ (part ++ drop s.end old) → bytes_of new s ≡ part
itself s old new part order inside long e =
    let size : length (take s.start old) ≡ s.start = length-take-le s.start old (omega (arith, order, inside)) in
    let rest : drop s.start new ≡ part ++ drop s.end old =
    ap (λ (x : List ℕ). drop s.start x) e ∙ drop_at (take s.start old) (part ++ drop s.end old) s.start size in
    ap (λ (x : List ℕ). take (s.end - s.start) x) rest ∙ take_at part (drop s.end old) (s.end - s.start) long

-- one in front of it
pub in_front : (s t : Span) (old new part : List ℕ) → t.start ≤ t.end → t.end ≤ s.start → s.start ≤ s.end → s.end ≤ length old
    → new ≡ take s.start old ++ (part ++ drop s.end old) → take t.end new ≡ take t.end old
in_front s t old new part first before order inside e =
    let size : length (take s.start old) ≡ s.start = length-take-le s.start old (omega (arith, order, inside)) in
    let least : t.end ≤ length (take s.start old) = omega (arith, size, before) in
    ap (λ (x : List ℕ). take t.end x) e
    ∙ (take-append-le t.end (take s.start old) (part ++ drop s.end old) least ∙ take-take t.end s.start old before)

-- what is behind the place
behind : (s : Span) (old new part : List ℕ) → s.start ≤ s.end → s.end ≤ length old → length part ≡ s.end - s.start
    → new ≡ take s.start old ++ (part ++ drop s.end old) → drop s.end new ≡ drop s.end old
behind s old new part order inside long e =
    let size : length (take s.start old) ≡ s.start = length-take-le s.start old (omega (arith, order, inside)) in
    let sum : s.start + (s.end - s.start) ≡ s.end = omega (arith, order) in
    let rest : drop s.start new ≡ part ++ drop s.end old =
    ap (λ (x : List ℕ). drop s.start x) e ∙ drop_at (take s.start old) (part ++ drop s.end old) s.start size in
    ap (λ (n : ℕ). drop n new) (sym sum)
    ∙ (sym (drop-drop (s.end - s.start) s.start new)
    ∙ (ap (λ (x : List ℕ). drop (s.end - s.start) x) rest ∙ drop_at part (drop s.end old) (s.end - s.start) long))

-- the bytes of a place in front of it, and of one behind it
pub before_it : (s t : Span) (old new part : List ℕ) → t.start ≤ t.end → t.end ≤ s.start → s.start ≤ s.end → s.end ≤ length old
    → new ≡ take s.start old ++ (part ++ drop s.end old) → bytes_of new t ≡ bytes_of old t
before_it s t old new part first before order inside e =
    let sum : t.start + (t.end - t.start) ≡ t.end = omega (arith, first) in
    let same = in_front s t old new part first before order inside e in
    sym (drop-take t.start (t.end - t.start) new)
    ∙ (ap (λ (n : ℕ). drop t.start (take n new)) sum
    ∙ (ap (λ (x : List ℕ). drop t.start x) same
    ∙ (ap (λ (n : ℕ). drop t.start (take n old)) (sym sum) ∙ drop-take t.start (t.end - t.start) old)))

pub behind_it : (s t : Span) (old new part : List ℕ) → s.end ≤ t.start → s.start ≤ s.end → s.end ≤ length old
    → length part ≡ s.end - s.start → new ≡ take s.start old ++ (part ++ drop s.end old) → bytes_of new t ≡ bytes_of old t
behind_it s t old new part past order inside long e =
    let sum : s.end + (t.start - s.end) ≡ t.start = omega (arith, past) in
    let same = behind s old new part order inside long e in
    ap (λ (x : List ℕ). take (t.end - t.start) x)
    (ap (λ (n : ℕ). drop n new) (sym sum)
    ∙ (sym (drop-drop (t.start - s.end) s.end new)
    ∙ (ap (λ (x : List ℕ). drop (t.start - s.end) x) same
    ∙ (drop-drop (t.start - s.end) s.end old ∙ ap (λ (n : ℕ). drop n old) sum))))

-- how long what was put there is, where the whole is as long as before
pub put_long : (s : Span) (old new part : List ℕ) → s.start ≤ s.end → s.end ≤ length old
    → new ≡ take s.start old ++ (part ++ drop s.end old) → length new ≡ length old → length part ≡ s.end - s.start
put_long s old new part order inside e same =
    let front : length (take s.start old) ≡ s.start = length-take-le s.start old (omega (arith, order, inside)) in
    let rest : length (drop s.end old) ≡ length old - s.end = length-drop s.end old in
    let tail : length (part ++ drop s.end old) ≡ length part + length (drop s.end old) = length-append part (drop s.end old) in
    let all : length (take s.start old ++ (part ++ drop s.end old)) ≡ length (take s.start old) + length (part ++ drop s.end old) =
    length-append (take s.start old) (part ++ drop s.end old) in
    let made : length new ≡ length (take s.start old ++ (part ++ drop s.end old)) = ap (λ (x : List ℕ). length x) e in
    omega (arith, order, inside, front, rest, tail, all, made, same)

-- bytes put into the middle of a text
pub put_there : (s : Span) (old part : List ℕ) → s.start ≤ s.end
    → put_mid s.start (s.end - s.start) old part ≡ take s.start old ++ (part ++ drop s.end old)
put_there s old part order =
    let sum : s.start + (s.end - s.start) ≡ s.end = omega (arith, order) in
    ap (λ (x : List ℕ). take s.start old ++ (part ++ x)) (drop-drop (s.end - s.start) s.start old ∙ ap (λ (n : ℕ). drop n old) sum)
