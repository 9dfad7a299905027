-- The frames of an answer go down.
use Rattle.std.proofs.Common.{◌≡◌, ℕ, suc, ◌+◌, ◌*◌, ◌/◌, ◌%◌, ◌≤◌, ◌<◌, ◌^◌, refl, sym, ap, subst, ◌∙◌, arith}
use Rattle.std.proofs.Common.{List, [], ◌∷◌, ◌++◌, length, take, drop, length-append, Option, Some, None}
use Rattle.conn_core.specs.reply_frames.Joined.{AreAtMost}
use Rattle.conn_core.specs.reply_sealing.Saying.{all_framed, framed}
use Rattle.spec_exchange.specs.Network.{Received}
use Rattle.spec_wire.specs.messages.Frames.{told_length}
use Rattle.world_ends.specs.Channels.{AreDown, IsDown}
use Rattle.world_ends.specs.declared.sides.Down.{Down}
use Rattle.world_steps.specs.serving.Said.{AreRepliesSaid, IsServeLeft, PartsIn, ServeSays, SaysAll, SaysOne, SaysSoFar}
use Rattle.world_steps.specs.declared.serving.parting.Parted.{Parted}

append_assoc : {X : Type 0} (xs ys zs : List X) → (xs ++ ys) ++ zs ≡ xs ++ (ys ++ zs)
append_assoc [] ys zs = refl
append_assoc (x ∷ xs) ys zs = ap (λ l. x ∷ l) (append_assoc xs ys zs)

pub append_none : {X : Type 0} (xs : List X) → xs ++ [] ≡ xs
append_none [] = refl
append_none (x ∷ xs) = ap (λ l. x ∷ l) (append_none xs)

-- ---- the loop

pub first_left : (old : List Down) (place : ℕ) (answer : List ℕ) → SaysSoFar old place answer answer old
first_left old place answer = λ frames is short. record {
  left = frames;
  rest_is = is;
  short = short;
  goes_on = λ new h. h;
}

said_more : (old now : List Down) (place : ℕ) (m : List ℕ) (ms : List (List ℕ)) (new : List Down)
    → SaysOne old place m now → ServeSays now place ms new
    → ServeSays old place (m ∷ ms) new
said_more old now place m ms new one h = record {
  said = one.said ∷ h.said;
  are_said = (one.place_is, one.bytes_are, h.are_said);
  added = h.added ∙ (ap (λ (l : List Down). l ++ h.said) one.added ∙ append_assoc old (one.said ∷ []) h.said);
}

pub none_said : (old : List Down) (place : ℕ) → ServeSays old place [] old
none_said old place = record { said = []; are_said = tt; added = sym (append_none old) }

abbrev Parts : List ℕ → Option Parted → Type 0
Parts bytes o = (m rest : List ℕ) → length m ≤ 1114112 → bytes ≡ framed m ++ rest → PartsIn m rest o

none_below : (n : ℕ) → n < 0 → ⊥
none_below n l = omega (arith, l)

-- the frame in front went down
next_by : (old now new : List Down) (place : ℕ) (frames left : List (List ℕ)) (p : Parted) → Parts (all_framed left) (Some p)
    → length p.rest.now < length (all_framed left) → AreAtMost 1114112 left
    → ((ys : List Down) → ServeSays now place left ys → ServeSays old place frames ys) → SaysOne now place p.frame.now new
    → IsServeLeft old place frames p.rest.now new
unfolding AreAtMost all_framed
next_by old now new place frames [] p parts shorter short goes one = absurd (none_below (length p.rest.now) shorter)
next_by old now new place frames (m ∷ ms) p parts shorter short goes one =
    let is = parts m (all_framed ms) short.0 refl in
    record {
      left = ms;
      rest_is = is.1;
      short = short.1;
      goes_on = λ ys h. goes ys (said_more now new place m ms ys (record {
        said = one.said;
        place_is = one.place_is;
        bytes_are = one.bytes_are ∙ is.0;
        added = one.added;
      }) h);
    }

pub next_left : (old now new : List Down) (place : ℕ) (answer bytes : List ℕ) (p : Parted) → Parts bytes (Some p)
    → length p.rest.now < length bytes → SaysSoFar old place answer bytes now → SaysOne now place p.frame.now new
    → SaysSoFar old place answer p.rest.now new
next_left old now new place answer bytes p parts shorter so one = λ frames is short.
    let l = so frames is short in
    next_by old now new place frames l.left p (subst (λ (x : List ℕ). Parts x (Some p)) l.rest_is parts)
    (subst (λ (x : List ℕ). length p.rest.now < length x) l.rest_is shorter) l.short l.goes_on one

none_left : (old now : List Down) (place : ℕ) (frames left : List (List ℕ)) → Parts (all_framed left) None → AreAtMost 1114112 left
    → ((ys : List Down) → ServeSays now place left ys → ServeSays old place frames ys) → ServeSays old place frames now
unfolding AreAtMost all_framed
none_left old now place frames [] parts short goes = goes now (none_said now place)
none_left old now place frames (m ∷ ms) parts short goes = absurd (parts m (all_framed ms) short.0 refl)

pub all_said : (old now : List Down) (place : ℕ) (answer bytes : List ℕ) → Parts bytes None → SaysSoFar old place answer bytes now
    → SaysAll old place answer now
all_said old now place answer bytes parts so = λ frames is short.
    let l = so frames is short in
    none_left old now place frames l.left (subst (λ (x : List ℕ). Parts x None) l.rest_is parts) l.short l.goes_on

-- ---- the frame in front

three_bytes : (n : ℕ) → n ≤ 1114112 → 65536 * (n / 65536 % 256) + 256 * (n / 256 % 256) + n % 256 ≡ n
three_bytes n l = omega (arith, l)

pub told : (m rest bytes : List ℕ) → length m ≤ 1114112 → bytes ≡ framed m ++ rest → told_length bytes ≡ length m
told m rest bytes short is = ap told_length is ∙ three_bytes (length m) short

take_front : (m rest : List ℕ) → take (length m) (m ++ rest) ≡ m
take_front [] rest = refl
take_front (b ∷ m) rest = ap (λ l. b ∷ l) (take_front m rest)

drop_front : (m rest : List ℕ) → drop (length m) (m ++ rest) ≡ rest
drop_front [] rest = refl
drop_front (b ∷ m) rest = drop_front m rest

-- ---- what is on its way down shows the definitions'

-- a reply for each frame
abbrev pub replies : List Received → Received → List (List ℕ) → List Received
replies rs y [] = rs
replies rs y (f ∷ fs) = replies (rs ++ y ∷ []) y fs

down_end : (d : Down) (b : List ℕ) (y : Received) (ds : List Down) (bs : List (List ℕ)) (ys : List Received)
    → IsDown d b y → AreDown ds bs ys
    → AreDown (ds ++ d ∷ []) (bs ++ b ∷ []) (ys ++ y ∷ [])
down_end d b y [] [] [] one h = (one, tt)
down_end d b y [] [] (v ∷ ys) one h = absurd h
down_end d b y [] (a ∷ bs) ys one h = absurd h
down_end d b y (e ∷ ds) [] ys one h = absurd h
down_end d b y (e ∷ ds) (a ∷ bs) [] one h = absurd h
down_end d b y (e ∷ ds) (a ∷ bs) (v ∷ ys) one h = (h.0, down_end d b y ds bs ys one h.1)

well_short : (n : ℕ) → n ≤ 1114112 → n < 2 ^ 60
well_short n l = omega (arith, l)

said_down : (place : ℕ) (ds : List Down) (frames : List (List ℕ)) (old : List Down) (bs : List (List ℕ)) (rs : List Received) (y : Received)
    → y.place ≡ place → AreRepliesSaid place ds frames → AreAtMost 1114112 frames → AreDown old bs rs
    → AreDown (old ++ ds) (bs ++ frames) (replies rs y frames)
unfolding AreAtMost
said_down place [] [] old bs rs y at said short h =
    subst (λ (l : List Down). AreDown l (bs ++ []) rs) (sym (append_none old))
    (subst (λ (l : List (List ℕ)). AreDown old l rs) (sym (append_none bs)) h)
said_down place [] (f ∷ frames) old bs rs y at said short h = absurd said
said_down place (d ∷ ds) [] old bs rs y at said short h = absurd said
said_down place (d ∷ ds) (f ∷ frames) old bs rs y at said short h =
    let one : IsDown d f y = record { bytes = sym said.1; place = at ∙ sym said.0; short = well_short (length f) short.0 } in
    subst (λ (l : List Down). AreDown l (bs ++ f ∷ frames) (replies (rs ++ y ∷ []) y frames)) (append_assoc old (d ∷ []) ds)
    (subst (λ (l : List (List ℕ)). AreDown ((old ++ d ∷ []) ++ ds) l (replies (rs ++ y ∷ []) y frames)) (append_assoc bs (f ∷ []) frames)
    (said_down place ds frames (old ++ d ∷ []) (bs ++ f ∷ []) (rs ++ y ∷ []) y at said.2 short.1 (down_end d f y old bs rs one h)))

pub downs : (place : ℕ) (answer : List ℕ) (frames : List (List ℕ)) (old new : List Down) (bs : List (List ℕ))
    (rs : List Received) (y : Received)
    → y.place ≡ place → SaysAll old place answer new → answer ≡ all_framed frames → AreAtMost 1114112 frames → AreDown old bs rs
    → AreDown new (bs ++ frames) (replies rs y frames)
downs place answer frames old new bs rs y at all is short h =
    let s = all frames is short in
    subst (λ (l : List Down). AreDown l (bs ++ frames) (replies rs y frames)) (sym s.added)
    (said_down place s.said frames old bs rs y at s.are_said short h)

-- ---- the frame in front, by its length

rest_long : (m rest bytes : List ℕ) → bytes ≡ framed m ++ rest → length bytes ≡ 4 + (length m + length rest)
rest_long m rest bytes is = ap length is ∙ (let e = length-append m rest in omega (arith, e))

-- too few bytes
pub few : (m rest bytes : List ℕ) → bytes ≡ framed m ++ rest → length bytes < 4 → ⊥
few m rest bytes is l = (let e = rest_long m rest bytes is in omega (arith, e, l))

pub fewer : (m rest bytes : List ℕ) (n : ℕ) → length m ≤ 1114112 → bytes ≡ framed m ++ rest → n ≡ told_length bytes
    → length bytes < 4 + n → ⊥
fewer m rest bytes n short is told_is l =
    (let e = rest_long m rest bytes is in let f = told_is ∙ told m rest bytes short is in omega (arith, e, f, l))

drop_more : (n a b c d : ℕ) (l : List ℕ) → drop (4 + n) (a ∷ b ∷ c ∷ d ∷ l) ≡ drop n l
drop_more n a b c d l = ap (λ (k : ℕ). drop k (a ∷ b ∷ c ∷ d ∷ l)) (let e : 4 + n ≡ suc (suc (suc (suc n))) = omega arith in e)

-- the message and what stands behind it
pub frame_is : (m rest bytes : List ℕ) (n : ℕ) → length m ≤ 1114112 → bytes ≡ framed m ++ rest → n ≡ told_length bytes
    → take n (drop 4 bytes) ≡ m
frame_is m rest bytes n short is told_is =
    ap (λ (k : ℕ). take k (drop 4 bytes)) (told_is ∙ told m rest bytes short is)
    ∙ (ap (λ (l : List ℕ). take (length m) (drop 4 l)) is ∙ take_front m rest)

pub rest_is : (m rest bytes : List ℕ) (n : ℕ) → length m ≤ 1114112 → bytes ≡ framed m ++ rest → n ≡ told_length bytes
    → drop (4 + n) bytes ≡ rest
rest_is m rest bytes n short is told_is =
    ap (λ (k : ℕ). drop (4 + k) bytes) (told_is ∙ told m rest bytes short is)
    ∙ (ap (λ (l : List ℕ). drop (4 + length m) l) is
    ∙ (drop_more (length m) 0 (length m / 65536 % 256) (length m / 256 % 256) (length m % 256) (m ++ rest) ∙ drop_front m rest))
