-- The places that a reader of a frame's messages tells, as the messages that the definitions have.
use Rattle.std.proofs.Common.{◌≡◌, ℕ, zero, suc, ◌+◌, ◌-◌, ◌≤◌, ◌%◌, ◌==◌, nat_le, Bool, true, false, not, ◌&&◌}
use Rattle.std.proofs.Common.{if◌then◌else◌}
use Rattle.std.proofs.Common.{List, [], ◌∷◌, ◌++◌, take, drop, length, length-drop, Option, Some, None, option_map}
use Rattle.std.proofs.Common.{refl, sym, ap, subst, ◌∙◌, arith}
use Rattle.std.proofs.lemmas.List.{take_all, drop-drop, drop-take, take-take, length-take-le}
use Rattle.spec_wire.specs.messages.Places.{number, number_of, bytes_at}
use Rattle.spec_wire.specs.messages.Compound.{LeadsOn, IsJoined, AreJoined, IsLast, SpellsCompound, BreaksAt, BreaksCompound}
use Rattle.spec_wire.specs.declared.messages.header.Span.{Span}
use Rattle.spec_wire.specs.declared.messages.error.HeaderError.{HeaderError}
use Rattle.spec_wire.specs.declared.messages.error.HeaderError.TheVariants as errors
use Rattle.spec_world.specs.Messages.{has_header, heard_in, leads_on, messages_from, messages_in}
use Rattle.conn_core.specs.frame_messages.Checking.{bytes_of, heard_at, AreMessages, InOrder}
use Rattle.conn_core.proofs.frame_messages.Headers.{not_true, both, and_front, and_back, at_least, is_least}
use Rattle.conn_core.proofs.frame_messages.Headers.{same_number, one_number, other_number}
use Rattle.conn_core.proofs.frame_messages.Headers.{has, next_is, whole_of, heads, begins_of, size_of, headless}

-- ---- the choice at one place

on_last : {X : Type 0} (head last : Bool) (x rest : Option X) → head ≡ true → last ≡ true
    → (if not head then None else if last then x else rest) ≡ x
on_last true true x rest h l = refl
on_last true false x rest h l = absurd cc
on_last false last x rest h l = absurd cc

on_next : {X : Type 0} (head last leads : Bool) (x y : Option X) → head ≡ true → last ≡ false → leads ≡ true
    → (if not head then None else if last then x else if leads then y else None) ≡ y
on_next true false true x y h l n = refl
on_next true false false x y h l n = absurd cc
on_next true true leads x y h l n = absurd cc
on_next false last leads x y h l n = absurd cc

on_none : {X : Type 0} (head : Bool) (rest : Option X) → head ≡ false → (if not head then None else rest) ≡ None
on_none false rest h = refl
on_none true rest h = absurd cc

on_lost : {X : Type 0} (head last leads : Bool) (x y : Option X) → head ≡ true → last ≡ false → leads ≡ false
    → (if not head then None else if last then x else if leads then y else None) ≡ None
on_lost true false false x y h l n = refl
on_lost true false true x y h l n = absurd cc
on_lost true true leads x y h l n = absurd cc
on_lost false last leads x y h l n = absurd cc

-- ---- what is due from a place on

due_last : (n : ℕ) (m : List ℕ) → has_header m ≡ true → number 4 m 20 ≡ 0 → messages_from (suc n) m ≡ Some (heard_in m ∷ [])
unfolding messages_from
due_last n m head zero_next =
    on_last (has_header m) (number 4 m 20 == 0) (Some (heard_in m ∷ [])) _ head (same_number (number 4 m 20) 0 zero_next)

due_next : (n : ℕ) (m : List ℕ) → has_header m ≡ true → (number 4 m 20 ≡ 0 → ⊥) → leads_on m (number 4 m 20) ≡ true
    → messages_from (suc n) m
    ≡ option_map (λ ms. heard_in (take (number 4 m 20) m) ∷ ms) (messages_from n (drop (number 4 m 20) m))
unfolding messages_from
due_next n m head differs leads =
    on_next (has_header m) (number 4 m 20 == 0) (leads_on m (number 4 m 20)) (Some (heard_in m ∷ []))
    (option_map (λ ms. heard_in (take (number 4 m 20) m) ∷ ms) (messages_from n (drop (number 4 m 20) m)))
    head (other_number (number 4 m 20) 0 differs) leads

due_none : (n : ℕ) (m : List ℕ) → has_header m ≡ false → messages_from n m ≡ None
unfolding messages_from
due_none zero m head = refl
due_none (suc n) m head = on_none (has_header m) _ head

due_lost : (n : ℕ) (m : List ℕ) → has_header m ≡ true → (number 4 m 20 ≡ 0 → ⊥) → leads_on m (number 4 m 20) ≡ false
    → messages_from n m ≡ None
unfolding messages_from
due_lost zero m head differs leads = refl
due_lost (suc n) m head differs leads =
    on_lost (has_header m) (number 4 m 20 == 0) (leads_on m (number 4 m 20)) (Some (heard_in m ∷ []))
    (option_map (λ ms. heard_in (take (number 4 m 20) m) ∷ ms) (messages_from n (drop (number 4 m 20) m)))
    head (other_number (number 4 m 20) 0 differs) leads

-- of a part that is due at a place, the rest is due behind it
due_behind : (n : ℕ) (m : List ℕ) (next : ℕ) → has_header m ≡ true → number 4 m 20 ≡ next → (next ≡ 0 → ⊥) → leads_on m next ≡ true
    → messages_from (suc n) m ≡ option_map (λ ms. heard_in (take next m) ∷ ms) (messages_from n (drop next m))
due_behind n m next head read differs leads =
    let kept : leads_on m (number 4 m 20) ≡ true = subst (λ (k : ℕ). leads_on m k ≡ true) (sym read) leads in
    subst (λ (k : ℕ). messages_from (suc n) m ≡ option_map (λ ms. heard_in (take k m) ∷ ms) (messages_from n (drop k m))) read
    (due_next n m head (λ e. differs (sym read ∙ e)) kept)

-- ---- NextCommand

leads : (frame : List ℕ) (at next : ℕ) → at ≤ length frame → LeadsOn frame at next → leads_on (drop at frame) next ≡ true
leads frame at next inside l =
    let size : length (drop at frame) ≡ length frame - at = length-drop at frame in
    let most : at + next + 64 ≤ length frame = l.2 in
    let room : next + 64 ≤ length (drop at frame) = omega (arith, size, most) in
    both (next % 8 == 0) _ (same_number (next % 8) 0 l.0)
    (both (nat_le 64 next) _ (at_least 64 next l.1) (at_least (next + 64) (length (drop at frame)) room))

led : (frame : List ℕ) (at next : ℕ) → at ≤ length frame → leads_on (drop at frame) next ≡ true → LeadsOn frame at next
led frame at next inside h =
    let size : length (drop at frame) ≡ length frame - at = length-drop at frame in
    let rest : (nat_le 64 next && nat_le (next + 64) (length (drop at frame))) ≡ true = and_back (next % 8 == 0) _ h in
    let room : next + 64 ≤ length (drop at frame) =
    is_least (next + 64) (length (drop at frame)) (and_back (nat_le 64 next) _ rest) in
    let most : at + next + 64 ≤ length frame = omega (arith, size, room, inside) in
    (one_number (next % 8) 0 (and_front (next % 8 == 0) _ h), is_least 64 next (and_front (nat_le 64 next) _ rest), most)

leads_not : (frame : List ℕ) (at next : ℕ) → at ≤ length frame → (LeadsOn frame at next → ⊥) → leads_on (drop at frame) next ≡ false
leads_not frame at next inside differs = not_true (leads_on (drop at frame) next) (λ h. differs (led frame at next inside h))

-- ---- places one after the other

-- a joined message in its own words: where it ends, and what is due from its place on
pub record Joined (frame : List ℕ) (s : Span) : Type 0 where
  pub heard : has_header (drop s.start frame) ≡ true
  pub next : ℕ
  pub read : number 4 (drop s.start frame) 20 ≡ next
  pub some : next ≡ 0 → ⊥
  pub past : 64 ≤ next
  pub ends : s.end ≡ s.start + next
  pub inside : s.start + next + 64 ≤ length frame
  pub leads_to : leads_on (drop s.start frame) next ≡ true

joined : (frame : List ℕ) (s : Span) → IsJoined frame s → Joined frame s
joined frame s (h, stands, on, ends) =
    let past : 64 ≤ h.next = on.1 in
    let most : s.start + h.next + 64 ≤ length frame = on.2 in
    let first : s.start ≤ length frame = omega (arith, most) in
    record {
      heard = heads (drop s.start frame) h stands;
      next = h.next;
      read = next_is (drop s.start frame) h stands;
      some = λ e. let z : h.next ≡ 0 = e in absurd (omega (arith, past, z));
      past = past;
      ends = ends;
      inside = most;
      leads_to = leads frame s.start h.next first on;
    }

-- its bytes, and the text behind it
front_is : (frame : List ℕ) (s : Span) (next : ℕ) → s.end ≡ s.start + next → take next (drop s.start frame) ≡ bytes_of frame s
front_is frame s next e =
    let size : next ≡ s.end - s.start = omega (arith, e) in ap (λ (n : ℕ). take n (drop s.start frame)) size

behind_is : (frame : List ℕ) (s : Span) (next : ℕ) → s.end ≡ s.start + next → drop next (drop s.start frame) ≡ drop s.end frame
behind_is frame s next e = drop-drop next s.start frame ∙ ap (λ (n : ℕ). drop n frame) (sym e)

due_joined : (n : ℕ) (frame : List ℕ) (s : Span) → Joined frame s → messages_from (suc n) (drop s.start frame)
    ≡ option_map (λ ms. heard_in (bytes_of frame s) ∷ ms) (messages_from n (drop s.end frame))
due_joined n frame s j =
    let due = due_behind n (drop s.start frame) j.next j.heard j.read j.some j.leads_to in
    let front : take j.next (drop s.start frame) ≡ bytes_of frame s = front_is frame s j.next j.ends in
    let rest : drop j.next (drop s.start frame) ≡ drop s.end frame = behind_is frame s j.next j.ends in
    due ∙ (ap (λ (m : List ℕ). option_map (λ ms. heard_in m ∷ ms) (messages_from n (drop j.next (drop s.start frame)))) front
    ∙ ap (λ (m : List ℕ). option_map (λ ms. heard_in (bytes_of frame s) ∷ ms) (messages_from n m)) rest)

-- the last message takes the rest
pub record Last (frame : List ℕ) (l : Span) : Type 0 where
  pub heard : has_header (drop l.start frame) ≡ true
  pub read : number 4 (drop l.start frame) 20 ≡ 0
  pub ends : l.end ≡ length frame
  pub long : l.start + 64 ≤ length frame

last_is : (frame : List ℕ) (l : Span) → IsLast frame l → Last frame l
last_is frame l (h, stands, none, ends) =
    let whole : 64 ≤ length (drop l.start frame) = whole_of (drop l.start frame) h stands in
    let size : length (drop l.start frame) ≡ length frame - l.start = length-drop l.start frame in
    let long : l.start + 64 ≤ length frame = omega (arith, whole, size) in
    record {
      heard = heads (drop l.start frame) h stands;
      read = next_is (drop l.start frame) h stands ∙ none;
      ends = ends;
      long = long;
    }

last_bytes : (frame : List ℕ) (l : Span) → l.end ≡ length frame → bytes_of frame l ≡ drop l.start frame
last_bytes frame l e =
    let size : length (drop l.start frame) ≡ length frame - l.start = length-drop l.start frame in
    let most : length (drop l.start frame) ≤ l.end - l.start = omega (arith, size, e) in
    take_all (l.end - l.start) (drop l.start frame) most

due_at_last : (n : ℕ) (frame : List ℕ) (l : Span) → Last frame l
    → messages_from (suc n) (drop l.start frame) ≡ Some (heard_at frame (l ∷ []))
due_at_last n frame l last =
    due_last n (drop l.start frame) last.heard last.read
    ∙ ap (λ (m : List ℕ). Some (heard_in m ∷ [])) (sym (last_bytes frame l last.ends))

chain : (n : ℕ) (frame : List ℕ) (at : ℕ) (ss : List Span) (l : Span) → length (drop at frame) ≤ n → AreJoined frame at ss l.start
    → IsLast frame l → messages_from n (drop at frame) ≡ Some (heard_at frame (ss ++ l ∷ []))
chain zero frame at [] l few j last =
    let x = last_is frame l last in
    let long : l.start + 64 ≤ length frame = x.long in
    let same : at ≡ l.start = j in
    let size : length (drop at frame) ≡ length frame - at = length-drop at frame in
    absurd (omega (arith, long, same, size, few))
chain zero frame at (s ∷ ss) l few j last =
    let x = joined frame s j.1 in
    let most : s.start + x.next + 64 ≤ length frame = x.inside in
    let same : s.start ≡ at = j.0 in
    let size : length (drop at frame) ≡ length frame - at = length-drop at frame in
    absurd (omega (arith, most, same, size, few))
chain (suc n) frame at [] l few j last =
    subst (λ (k : ℕ). messages_from (suc n) (drop k frame) ≡ Some (heard_at frame (l ∷ []))) (sym j)
    (due_at_last n frame l (last_is frame l last))
chain (suc n) frame at (s ∷ ss) l few j last =
    let x = joined frame s j.1 in
    let same : s.start ≡ at = j.0 in
    let past : 64 ≤ x.next = x.past in
    let most : s.start + x.next + 64 ≤ length frame = x.inside in
    let ends : s.end ≡ s.start + x.next = x.ends in
    let size : length (drop at frame) ≡ length frame - at = length-drop at frame in
    let less : length (drop s.end frame) ≡ length frame - s.end = length-drop s.end frame in
    let fewer : length (drop s.end frame) ≤ n = omega (arith, few, same, past, most, ends, size, less) in
    let rest : messages_from n (drop s.end frame) ≡ Some (heard_at frame (ss ++ l ∷ [])) = chain n frame s.end ss l fewer j.2 last in
    subst (λ (k : ℕ). messages_from (suc n) (drop k frame) ≡ Some (heard_at frame (s ∷ (ss ++ l ∷ [])))) same
    (due_joined n frame s x ∙ ap (option_map (λ ms. heard_in (bytes_of frame s) ∷ ms)) rest)

-- ---- each place is inside and begins with a header

-- what stands in front of a place is that of the front
front_same : (w : ℕ) (m : List ℕ) (at n : ℕ) → at + w ≤ n → bytes_at w (take n m) at ≡ bytes_at w m at
unfolding bytes_at
front_same w m at n inside =
    let rest : at + (n - at) ≡ n = omega (arith, inside) in
    let few : w ≤ n - at = omega (arith, inside) in
    ap (λ (k : ℕ). take w (drop at (take k m))) (sym rest)
    ∙ (ap (λ (xs : List ℕ). take w xs) (drop-take at (n - at) m) ∙ take-take w (n - at) (drop at m) few)

-- a header's 64 bytes are in front of the next message
headed_take : (m : List ℕ) (next : ℕ) → has_header m ≡ true → 64 ≤ next → next ≤ length m → has_header (take next m) ≡ true
headed_take m next head past inside =
    let size : length (take next m) ≡ next = length-take-le next m inside in
    let whole : 64 ≤ length (take next m) = omega (arith, size, past) in
    let four : 0 + 4 ≤ next = omega (arith, past) in
    let six : 4 + 2 ≤ next = omega (arith, past) in
    has (take next m) whole (front_same 4 m 0 next four ∙ begins_of m head)
    (ap (λ (xs : List ℕ). number_of xs) (front_same 2 m 4 next six) ∙ size_of m head)

message_joined : (frame : List ℕ) (s : Span) → Joined frame s
    → (s.start ≤ s.end) × (s.end ≤ length frame) × (has_header (bytes_of frame s) ≡ true)
message_joined frame s j =
    let past : 64 ≤ j.next = j.past in
    let most : s.start + j.next + 64 ≤ length frame = j.inside in
    let ends : s.end ≡ s.start + j.next = j.ends in
    let size : length (drop s.start frame) ≡ length frame - s.start = length-drop s.start frame in
    let first : s.start ≤ s.end = omega (arith, ends) in
    let inside : s.end ≤ length frame = omega (arith, ends, most) in
    let room : j.next ≤ length (drop s.start frame) = omega (arith, size, most) in (
      first,
      inside,
      subst (λ (m : List ℕ). has_header m ≡ true) (front_is frame s j.next ends)
          (headed_take (drop s.start frame) j.next j.heard past room),
    )

message_last : (frame : List ℕ) (l : Span) → Last frame l
    → (l.start ≤ l.end) × (l.end ≤ length frame) × (has_header (bytes_of frame l) ≡ true)
message_last frame l x =
    let ends : l.end ≡ length frame = x.ends in
    let long : l.start + 64 ≤ length frame = x.long in
    let first : l.start ≤ l.end = omega (arith, ends, long) in
    let inside : l.end ≤ length frame = omega (arith, ends) in
    (first, inside, subst (λ (m : List ℕ). has_header m ≡ true) (sym (last_bytes frame l ends)) x.heard)

each : (frame : List ℕ) (at : ℕ) (ss : List Span) (l : Span) → AreJoined frame at ss l.start → IsLast frame l
    → AreMessages frame (ss ++ l ∷ [])
each frame at [] l j last = let m = message_last frame l (last_is frame l last) in (m.0, m.1, m.2, tt)
each frame at (s ∷ ss) l j last =
    let m = message_joined frame s (joined frame s j.1) in (m.0, m.1, m.2, each frame s.end ss l j.2 last)

-- ---- each behind the one before it

order_of : (frame : List ℕ) (at : ℕ) (ss : List Span) (l : Span) → AreJoined frame at ss l.start → IsLast frame l
    → InOrder at (length frame) (ss ++ l ∷ [])
order_of frame at [] l j last =
    let x = last_is frame l last in
    let same : at ≡ l.start = j in
    let ends : l.end ≡ length frame = x.ends in
    let long : l.start + 64 ≤ length frame = x.long in
    let front : at ≤ l.start = omega (arith, same) in
    let whole : l.start + 64 ≤ l.end = omega (arith, long, ends) in
    let inside : l.end ≤ length frame = omega (arith, ends) in
    (front, whole, inside, tt)
order_of frame at (s ∷ ss) l j last =
    let x = joined frame s j.1 in
    let same : s.start ≡ at = j.0 in
    let past : 64 ≤ x.next = x.past in
    let most : s.start + x.next + 64 ≤ length frame = x.inside in
    let ends : s.end ≡ s.start + x.next = x.ends in
    let front : at ≤ s.start = omega (arith, same) in
    let whole : s.start + 64 ≤ s.end = omega (arith, past, ends) in
    let inside : s.end ≤ length frame = omega (arith, most, ends) in
    (front, whole, inside, order_of frame s.end ss l j.2 last)

-- ---- a frame that is split, and one that isn't

pub split_is : (frame : List ℕ) (spans : List Span) → SpellsCompound frame spans
    → (messages_in frame ≡ Some (heard_at frame spans)) × AreMessages frame spans
unfolding messages_in
split_is frame spans s =
    let few : length frame ≤ length frame = omega arith in (
      chain (length frame) frame 0 s.joined s.last few s.are_joined s.is_last
          ∙ ap (λ (ss : List Span). Some (heard_at frame ss)) (sym s.whole),
      subst (λ (ss : List Span). AreMessages frame ss) (sym s.whole) (each frame 0 s.joined s.last s.are_joined s.is_last),
    )

pub split_order : (frame : List ℕ) (spans : List Span) → SpellsCompound frame spans → InOrder 0 (length frame) spans
split_order frame spans s =
    subst (λ (ss : List Span). InOrder 0 (length frame) ss) (sym s.whole) (order_of frame 0 s.joined s.last s.are_joined s.is_last)

pub split_some : (frame : List ℕ) (spans : List Span) → SpellsCompound frame spans → spans ≡ [] → ⊥
split_some frame spans s none = some_stand s.joined (sym s.whole ∙ none)
  where
    some_stand : (front : List Span) → front ++ s.last ∷ [] ≡ [] → ⊥
    some_stand [] e = absurd cc
    some_stand (x ∷ xs) e = absurd cc

abbrev pub Told : HeaderError → Type 0
Told errors.Memory = ⊥
Told _ = Unit {0}

broken : (n : ℕ) (frame : List ℕ) (at : ℕ) (e : HeaderError) → at ≤ length frame → Told e → BreaksAt frame at e
    → messages_from n (drop at frame) ≡ None
broken n frame at errors.Memory inside told b = absurd told
broken n frame at errors.Short inside told b = due_none n (drop at frame) (headless (drop at frame) errors.Short b)
broken n frame at (errors.BadProtocol p) inside told b = due_none n (drop at frame) (headless (drop at frame) (errors.BadProtocol p) b)
broken n frame at (errors.BadSize k) inside told b = due_none n (drop at frame) (headless (drop at frame) (errors.BadSize k) b)
broken n frame at (errors.BadNext place) inside told (same, (h, stands, differs, lost)) =
    let read : number 4 (drop at frame) 20 ≡ h.next = next_is (drop at frame) h stands in
    due_lost n (drop at frame) (heads (drop at frame) h stands) (λ z. differs (sym read ∙ z))
    (ap (λ (k : ℕ). leads_on (drop at frame) k) read ∙ leads_not frame at h.next inside lost)

chain_breaks : (n : ℕ) (frame : List ℕ) (at : ℕ) (ss : List Span) (to : ℕ) (e : HeaderError) → at ≤ length frame → Told e
    → AreJoined frame at ss to → BreaksAt frame to e → messages_from n (drop at frame) ≡ None
unfolding messages_from
chain_breaks n frame at [] to e inside told j b =
    broken n frame at e inside told (subst (λ (k : ℕ). BreaksAt frame k e) (sym j) b)
chain_breaks zero frame at (s ∷ ss) to e inside told j b = refl
chain_breaks (suc n) frame at (s ∷ ss) to e inside told j b =
    let x = joined frame s j.1 in
    let same : s.start ≡ at = j.0 in
    let most : s.start + x.next + 64 ≤ length frame = x.inside in
    let ends : s.end ≡ s.start + x.next = x.ends in
    let inside_end : s.end ≤ length frame = omega (arith, most, ends) in
    subst (λ (k : ℕ). messages_from (suc n) (drop k frame) ≡ None) same
    (due_joined n frame s x
    ∙ ap (option_map (λ ms. heard_in (bytes_of frame s) ∷ ms)) (chain_breaks n frame s.end ss to e inside_end told j.2 b))

pub split_breaks : (frame : List ℕ) (e : HeaderError) → Told e → BreaksCompound frame e → messages_in frame ≡ None
unfolding messages_in
split_breaks frame e told b =
    let start : 0 ≤ length frame = omega arith in
    chain_breaks (length frame) frame 0 b.joined b.at e start told b.are_joined b.breaks
