-- A checked message's header is that of its bytes.
use Rattle.std.proofs.Common.{◌≡◌, ℕ, zero, suc, ◌==◌, not, Bool, true, false, List, [], ◌∷◌, length, take, drop}
use Rattle.std.proofs.Common.{Option, Some, None, slice_get, Result, Ok, Err, refl, subst, option_map}
use Rattle.spec_wire.specs.messages.Places.{number}
use Rattle.law_server.proofs.tables.Logic.{either}
use Rattle.spec_world.specs.Messages.{HeardMessage, has_header, header_in, heard_in, leads_on, messages_from, messages_in}
use Rattle.spec_world.specs.Ends.{ServerEnd, ConnEnd}
use Rattle.spec_world.specs.Hearing.{Checked, Frame, FrameText, check_frame, checked_text, checked_in, checked_behind, checked_as, in_front}
use Rattle.spec_world.specs.Hearing.{if_in_turn, turn_end, behind_turn, bars, text_of, split_text, opened_text, opened_by, begins_sealed}
use Rattle.spec_world.specs.Hearing.{is_too_long}

-- ---- messages as they were heard

abbrev AllHeard : List HeardMessage → Type 0
AllHeard xs = (n : ℕ) (x : HeardMessage) → slice_get xs n ≡ Some x → x.header ≡ header_in x.bytes

abbrev IfHeard : Option (List HeardMessage) → Type 0
IfHeard None = Unit {0}
IfHeard (Some xs) = AllHeard xs

none_heard : AllHeard []
none_heard zero x h = absurd (let q : None ≡ Some x = h in cc)
none_heard (suc n) x h = absurd (let q : None ≡ Some x = h in cc)

one_more : (m : List ℕ) (xs : List HeardMessage) → AllHeard xs → AllHeard (heard_in m ∷ xs)
one_more m xs all zero x h =
    let q : Some (heard_in m) ≡ Some x = h in
    let r : heard_in m ≡ x = cc in
    subst (λ (y : HeardMessage). y.header ≡ header_in y.bytes) r refl
one_more m xs all (suc n) x h = all n x h

mapped_heard : (m : List ℕ) (o : Option (List HeardMessage)) → IfHeard o → IfHeard (option_map (λ xs. heard_in m ∷ xs) o)
mapped_heard m None h = tt
mapped_heard m (Some xs) h = one_more m xs h

from_heard : (n : ℕ) (m : List ℕ) → IfHeard (messages_from n m)
unfolding messages_from
from_heard zero m = tt
from_heard (suc n) m =
    let next = number 4 m 20 in
    either IfHeard (not (has_header m)) _ _ (λ _. tt)
    (λ _. either IfHeard (next == 0) _ _ (λ _. one_more m [] none_heard)
    (λ _. either IfHeard (leads_on m next) _ _
    (λ _. mapped_heard (take next m) (messages_from n (drop next m)) (from_heard n (drop next m))) (λ _. tt)))

in_heard : (m : List ℕ) → IfHeard (messages_in m)
unfolding messages_in
in_heard m = from_heard (length m) m

-- ---- a frame's text

abbrev TextHeard : Result FrameText ConnEnd → Type 0
TextHeard (Err why) = Unit {0}
TextHeard (Ok t) = AllHeard t.messages

split_heard : (sealed : Bool) (o : Option (List HeardMessage)) → IfHeard o → TextHeard (split_text sealed o)
split_heard sealed None h = tt
split_heard sealed (Some xs) h = h

opened_heard : (o : Option (List ℕ)) → TextHeard (opened_text o)
opened_heard None = tt
opened_heard (Some text) = split_heard true (messages_in text) (in_heard text)

text_heard : (f : ServerEnd) (frame : List ℕ) → TextHeard (text_of f.keys frame)
text_heard f frame =
    either TextHeard (is_too_long f.keys frame) _ _ (λ _. tt)
    (λ _. either TextHeard (begins_sealed frame) _ _ (λ _. opened_heard (opened_by f.keys frame))
    (λ _. split_heard false (messages_in frame) (in_heard frame)))

-- ---- its checked messages

abbrev AllChecked : List Checked → Type 0
AllChecked cs = (n : ℕ) (c : Checked) → slice_get cs n ≡ Some c → c.header ≡ header_in c.raw

abbrev FrameChecked : Result Frame ConnEnd → Type 0
FrameChecked (Err why) = Unit {0}
FrameChecked (Ok x) = AllChecked x.messages

none_checked : AllChecked []
none_checked zero c h = absurd (let q : None ≡ Some c = h in cc)
none_checked (suc n) c h = absurd (let q : None ≡ Some c = h in cc)

with_checked : (c : Checked) (cs : List Checked) → c.header ≡ header_in c.raw → AllChecked cs → AllChecked (c ∷ cs)
with_checked c cs p all zero d h =
    let q : Some c ≡ Some d = h in
    let r : c ≡ d = cc in
    subst (λ (y : Checked). y.header ≡ header_in y.raw) r p
with_checked c cs p all (suc n) d h = all n d h

front_checked : (c : Checked) (r : Result Frame ConnEnd) → c.header ≡ header_in c.raw → FrameChecked r → FrameChecked (in_front c r)
front_checked c (Err why) p h = tt
front_checked c (Ok x) p h = with_checked c x.messages p h

turn_checked : (o : Option ConnEnd) (r : Result Frame ConnEnd) → FrameChecked r → FrameChecked (if_in_turn o r)
turn_checked None r h = h
turn_checked (Some why) r h = tt

rest_heard : (x : HeardMessage) (xs : List HeardMessage) → AllHeard (x ∷ xs) → AllHeard xs
rest_heard x xs all n y h = all (suc n) y h

behind_checked : (f : ServerEnd) (sealed barred : Bool) (xs : List HeardMessage) → AllHeard xs
    → FrameChecked (checked_behind f sealed barred xs)
unfolding checked_behind
behind_checked f sealed barred [] all = none_checked
behind_checked f sealed barred (x ∷ xs) all =
    turn_checked (turn_end f x.header) _
    (front_checked (checked_as f sealed barred false x) _ (all 0 x refl)
    (behind_checked (behind_turn f x.header) sealed (bars f sealed barred x) xs (rest_heard x xs all)))

in_checked : (f : ServerEnd) (sealed : Bool) (xs : List HeardMessage) → AllHeard xs → FrameChecked (checked_in f sealed xs)
in_checked f sealed [] all = tt
in_checked f sealed (x ∷ xs) all =
    turn_checked (turn_end f x.header) _
    (front_checked (checked_as f sealed false true x) _ (all 0 x refl)
    (behind_checked (behind_turn f x.header) sealed (bars f sealed false x) xs (rest_heard x xs all)))

text_checked : (f : ServerEnd) (t : Result FrameText ConnEnd) → TextHeard t → FrameChecked (checked_text f t)
text_checked f (Err why) h = tt
text_checked f (Ok t) h = in_checked f t.sealed t.messages h

frame_checked : (f : ServerEnd) (frame : List ℕ) → FrameChecked (check_frame f frame)
frame_checked f frame = text_checked f (text_of f.keys frame) (text_heard f frame)

pub header_is : (f : ServerEnd) (frame : List ℕ) (x : Frame) (n : ℕ) (c : Checked) → check_frame f frame ≡ Ok x
    → slice_get x.messages n ≡ Some c → c.header ≡ header_in c.raw
header_is f frame x n c e h = subst FrameChecked e (frame_checked f frame) n c h
