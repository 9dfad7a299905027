-- The messages of a frame, checked one after the other.
use Rattle.std.proofs.Common.{◌≡◌, ℕ, zero, suc, ◌+◌, ◌-◌, ◌≤◌, ◌<◌, ◌==◌, Bool, true, false, ◌||◌, if◌then◌else◌, List, [], ◌∷◌, ◌++◌}
use Rattle.std.proofs.Common.{take, drop, map, length, length-append, length-drop, min, Option, Some, None, Result, Ok, Err, get_or}
use Rattle.std.proofs.Common.{refl, sym, ap, subst, ◌∙◌, arith, is_some}
use Rattle.std.proofs.lemmas.List.{append-nil, drop-drop, drop_more, length-take}
use Rattle.std.proofs.Math.Nat.{min-le_left}
use Rattle.std.proofs.Math.ListN.{drop_of_length-le}
use Rattle.spec_wire.specs.declared.messages.header.Span.{Span}
use Rattle.spec_exchange.specs.Status.{access_denied}
use Rattle.spec_world.specs.Ends as ends
use Rattle.spec_world.specs.Messages.{HeardMessage, has_header, header_in, heard_in}
use Rattle.spec_world.specs.Hearing as hearing
use Rattle.conn_core.specs.declared.conn.Conn.{Conn}
use Rattle.conn_core.specs.declared.frame_messages.checked.Checked.{Checked}
use Rattle.conn_core.specs.declared.end.ConnEnd.{ConnEnd}
use Rattle.conn_core.specs.declared.end.ConnEnd.TheVariants as causes
use Rattle.conn_core.specs.Shown.{ShowsEnd, IsEnd}
use Rattle.conn_core.specs.frame_messages.Checking.{message_in, bytes_of, heard_at, AreMessages, ShowsGoing}
use Rattle.conn_core.specs.frame_messages.Checking.{ShowsMessages, IsChecked, ChecksOne}
use Rattle.conn_core.specs.frame_messages.Checking.{CheckEndsBy, AllGo, EndsAll, check_prefixed, rest_due, IsDenied, InOrder, places_of}
use Rattle.conn_core.proofs.frame_messages.Headers.{long_of, other_number, true_is_not_false}
use Rattle.conn_core.proofs.frame_messages.Prefixes.{Due, due_next, due_ends, prefixed_more, prefixed_err, prefixed_ok}

-- ---- places

pub moved_bytes : (bytes : List ℕ) (at : ℕ) (p s : Span) → s.start ≡ at + p.start → s.end ≡ at + p.end
    → bytes_of bytes s ≡ bytes_of (drop at bytes) p
moved_bytes bytes at p s start end =
    let size : s.end - s.start ≡ p.end - p.start = omega (arith, start, end) in
    ap (λ (k : ℕ). take (s.end - s.start) (drop k bytes)) start
    ∙ (ap (λ (xs : List ℕ). take (s.end - s.start) xs) (sym (drop-drop p.start at bytes))
    ∙ ap (λ (n : ℕ). take n (drop p.start (drop at bytes))) size)

-- the message at a place of the list, and those behind it
pub record Stands (text : List ℕ) (spans : List Span) (i : ℕ) (p : Span) : Type 0 where
  pub first : p.start ≤ p.end
  pub inside : p.end ≤ length text
  pub head : has_header (bytes_of text p) ≡ true
  pub due : heard_at text (drop i spans) ≡ heard_in (bytes_of text p) ∷ heard_at text (drop (i + 1) spans)

front : (text : List ℕ) (p : Span) (ps : List Span) → AreMessages text (p ∷ ps)
    → (p.start ≤ p.end) × (p.end ≤ length text) × (has_header (bytes_of text p) ≡ true)
front text p ps a = (a.0, a.1, a.2)

behind : (text : List ℕ) (i : ℕ) (spans : List Span) → AreMessages text spans → AreMessages text (drop i spans)
behind text zero spans a = a
behind text (suc i) [] a = tt
behind text (suc i) (p ∷ ps) a = behind text i ps a.3

pub stands : (text : List ℕ) (spans : List Span) (i : ℕ) (p d : Span) → AreMessages text spans → i < length spans
    → p ≡ get_or spans i d → Stands text spans i p
stands text spans i p d a less e =
    let cut : drop i spans ≡ get_or spans i d ∷ drop (i + 1) spans = drop_more spans i d less in
    let mine : drop i spans ≡ p ∷ drop (i + 1) spans = cut ∙ ap (λ (x : Span). x ∷ drop (i + 1) spans) (sym e) in
    let m = front text p (drop (i + 1) spans) (subst (λ (ps : List Span). AreMessages text ps) mine (behind text i spans a)) in
    record { first = m.0; inside = m.1; head = m.2; due = ap (λ (ps : List Span). heard_at text ps) mine }

taken : (n : ℕ) (xs : List ℕ) → length (take n xs) ≤ n
taken n xs =
    let size : length (take n xs) ≡ min n (length xs) = length-take n xs in
    let few : min n (length xs) ≤ n = min-le_left n (length xs) in
    omega (arith, size, few)

-- ---- one message more

pub shows_more : (bytes : List ℕ) (ms : List Checked) (cs : List hearing.Checked) (m : Checked) (c : hearing.Checked)
    → ShowsMessages bytes ms cs → ShowsGoing bytes m c → m.fails ≡ None → ShowsMessages bytes (ms ++ m ∷ []) (cs ++ c ∷ [])
shows_more bytes [] [] m c s g f = (g, f, tt)
shows_more bytes (x ∷ xs) (y ∷ ys) m c s g f = (s.0, s.1, shows_more bytes xs ys m c s.2 g f)
shows_more bytes [] (y ∷ ys) m c s g f = absurd s
shows_more bytes (x ∷ xs) [] m c s g f = absurd s

denied : (setup free protected : Bool)
    → IsDenied (if setup then Some access_denied else if free then None else if protected then None else Some access_denied)
denied true free protected = refl
denied false true protected = tt
denied false false true = tt
denied false false false = refl

pub going : (bytes : List ℕ) (f : ends.ServerEnd) (sealed setup first : Bool) (m : Checked) (s : Span) → m.span ≡ s
    → s.end ≤ length bytes → has_header (bytes_of bytes s) ≡ true
    → IsChecked m (hearing.checked_as f sealed setup first (heard_in (bytes_of bytes s)))
    → ShowsGoing bytes m (hearing.checked_as f sealed setup first (heard_in (bytes_of bytes s)))
going bytes f sealed setup first m s is inside head checked =
    let same : bytes_of bytes s ≡ message_in bytes m = ap (λ (x : Span). bytes_of bytes x) (sym is) in
    let long : 64 ≤ length (bytes_of bytes s) = long_of (bytes_of bytes s) head in
    let cut : length (bytes_of bytes s) ≤ s.end - s.start = taken (s.end - s.start) (drop s.start bytes) in
    let room : s.start + 64 ≤ s.end = omega (arith, long, cut) in
    let x : HeardMessage = heard_in (bytes_of bytes s) in
    record {
      whole = subst (λ (x : Span). x.start + 64 ≤ x.end) (sym is) room;
      inside = subst (λ (x : Span). x.end ≤ length bytes) (sym is) inside;
      header = checked.header;
      bytes_are = same;
      raw = λ none. same;
      related = checked.related;
      fault = checked.fault;
      denied = subst (λ (o : Option ℕ). IsDenied o) checked.fault (denied setup (hearing.owes_nothing x)
          (hearing.is_protected f sealed x));
    }

-- what is checked so far, in front of what is due of the rest, is what is due of all
pub record SoFar (k : ℕ) (guid bytes : List ℕ) (due : Due) (sealed : Bool) (conn : Conn) (setup : Bool) (ms : List Checked)
    (xs : List HeardMessage) : Type 0 where
  pub server_end : ends.ServerEnd
  pub checked : List hearing.Checked
  pub shows : ShowsEnd k guid conn server_end
  pub messages : ShowsMessages bytes ms checked
  pub is : due ≡ check_prefixed checked (rest_due (length ms == 0) server_end sealed setup xs)

not_none : (ms : List Checked) (m : Checked) → (length (ms ++ m ∷ []) == 0) ≡ false
not_none ms m =
    let size : length (ms ++ m ∷ []) ≡ length ms + 1 = length-append ms (m ∷ []) in
    other_number (length (ms ++ m ∷ [])) 0 (λ e. absurd (omega (arith, size, e)))

by_turn : (k : ℕ) (guid : List ℕ) (o : Option ends.ConnEnd) (behind : ends.ServerEnd) (new : Conn) (c : hearing.Checked) (s : Span)
    (m : Checked) → ChecksOne k guid o behind new c s (Ok m)
    → (o ≡ None) × ShowsEnd k guid new behind × IsChecked m c × (m.span ≡ s)
by_turn k guid None behind new c s m x = (refl, x.0, x.1, x.2)
by_turn k guid (Some why) behind new c s m x = absurd x

by_end : (k : ℕ) (guid : List ℕ) (o : Option ends.ConnEnd) (behind : ends.ServerEnd) (new : Conn) (c : hearing.Checked) (s : Span)
    (e : ConnEnd) → ChecksOne k guid o behind new c s (Err e) → (why : ends.ConnEnd) × (o ≡ Some why) × IsEnd e why
by_end k guid None behind new c s e x = absurd x
by_end k guid (Some why) behind new c s e x = (why, refl, x)

pub goes_on : (k : ℕ) (guid bytes : List ℕ) (due : Due) (sealed setup : Bool) (old new : Conn) (ms : List Checked) (m : Checked)
    (s : Span) (xs : List HeardMessage) → (setup ≡ true → (length ms == 0) ≡ true → ⊥) → s.end ≤ length bytes
    → has_header (bytes_of bytes s) ≡ true → SoFar k guid bytes due sealed old setup ms (heard_in (bytes_of bytes s) ∷ xs)
    → ((f : ends.ServerEnd) → ShowsEnd k guid old f
    → ChecksOne k guid (hearing.turn_end f (header_in (bytes_of bytes s))) (hearing.behind_turn f (header_in (bytes_of bytes s))) new
    (hearing.checked_as f sealed setup (length ms == 0) (heard_in (bytes_of bytes s))) s (Ok m))
    → SoFar k guid bytes due sealed new (setup || ((m.header.command == 1) || is_some m.fault)) (ms ++ m ∷ []) xs
goes_on k guid bytes due sealed setup old new ms m s xs apart inside head far one =
    let f = far.server_end in
    let x = heard_in (bytes_of bytes s) in
    let c = hearing.checked_as f sealed setup (length ms == 0) x in
    let t = by_turn k guid (hearing.turn_end f x.header) (hearing.behind_turn f x.header) new c s m (one f far.shows) in
    let next = due_next (length ms == 0) sealed setup f x xs apart t.0 in
    let behind_it = rest_due false (hearing.behind_turn f x.header) sealed (hearing.bars f sealed setup x) xs in
    let named : hearing.bars f sealed setup x ≡ (setup || ((m.header.command == 1) || is_some m.fault)) =
    λ i. setup || (((t.2.header i).command == 1) || is_some (t.2.fault i)) in
    let joined : due ≡ check_prefixed (far.checked ++ c ∷ []) behind_it =
    far.is ∙ (ap (λ (d : Due). check_prefixed far.checked d) next ∙ sym (prefixed_more far.checked c behind_it)) in
    let later : due ≡ check_prefixed (far.checked ++ c ∷ [])
    (rest_due (length (ms ++ m ∷ []) == 0) (hearing.behind_turn f x.header) sealed (hearing.bars f sealed setup x) xs) =
    joined ∙ ap (λ (b : Bool). check_prefixed (far.checked ++ c ∷ []) (rest_due b (hearing.behind_turn f x.header) sealed
    (hearing.bars f sealed setup x) xs)) (sym (not_none ms m)) in
    record {
      server_end = hearing.behind_turn f x.header;
      checked = far.checked ++ c ∷ [];
      shows = t.1;
      messages = shows_more bytes ms far.checked m c far.messages (going bytes f sealed setup (length ms == 0) m s t.3 inside head t.2)
          t.2.fails;
      is = later ∙ ap (λ (b : Bool). check_prefixed (far.checked ++ c ∷ []) (rest_due (length (ms ++ m ∷ []) == 0)
          (hearing.behind_turn f x.header) sealed b xs)) named;
    }

-- ---- the exits

pub by_cause : (due : Due) (e : ConnEnd) (why : ends.ConnEnd) → due ≡ Err why → IsEnd e why → EndsAll due e
by_cause due causes.BadFrame why is x = subst (λ (d : Due). CheckEndsBy d causes.BadFrame) (sym is) x
by_cause due (causes.OutsideWindow id) why is x = subst (λ (d : Due). CheckEndsBy d (causes.OutsideWindow id)) (sym is) x
by_cause due causes.SecondNegotiate why is x = subst (λ (d : Due). CheckEndsBy d causes.SecondNegotiate) (sym is) x
by_cause due causes.Unsealable why is x = subst (λ (d : Due). CheckEndsBy d causes.Unsealable) (sym is) x
by_cause due causes.Spent why is x = subst (λ (d : Due). CheckEndsBy d causes.Spent) (sym is) x
by_cause due causes.Full why is x = subst (λ (d : Due). CheckEndsBy d causes.Full) (sym is) x
by_cause due (causes.LinkFault count) why is x = absurd x
by_cause due (causes.Stopped count) why is x = subst (λ (d : Due). CheckEndsBy d (causes.Stopped count)) (sym is) x
by_cause due causes.Memory why is x = tt

pub ends_here : (k : ℕ) (guid bytes : List ℕ) (due : Due) (sealed setup : Bool) (old new : Conn) (ms : List Checked) (e : ConnEnd)
    (s : Span) (x : List ℕ) (xs : List HeardMessage) → SoFar k guid bytes due sealed old setup ms (heard_in x ∷ xs)
    → ((f : ends.ServerEnd) → ShowsEnd k guid old f
    → ChecksOne k guid (hearing.turn_end f (header_in x)) (hearing.behind_turn f (header_in x)) new
    (hearing.checked_as f sealed setup (length ms == 0) (heard_in x)) s (Err e))
    → EndsAll due e
ends_here k guid bytes due sealed setup old new ms e s x xs far one =
    let f = far.server_end in
    let c = hearing.checked_as f sealed setup (length ms == 0) (heard_in x) in
    let t = by_end k guid (hearing.turn_end f (header_in x)) (hearing.behind_turn f (header_in x)) new c s e (one f far.shows) in
    by_cause due e t.0
    (far.is ∙ (ap (λ (d : Due). check_prefixed far.checked d) (due_ends (length ms == 0) sealed setup f (heard_in x) xs t.0 t.1)
    ∙ prefixed_err far.checked t.0)) t.2

none_left : (f : ends.ServerEnd) (sealed setup : Bool)
    → hearing.checked_behind f sealed setup [] ≡ Ok (record { server_end = f; sealed = sealed; messages = [] })
unfolding hearing.checked_behind
none_left f sealed setup = refl

pub ends_whole : (k : ℕ) (guid bytes : List ℕ) (due : Due) (sealed setup : Bool) (conn : Conn) (ms : List Checked)
    → (length ms == 0) ≡ false → SoFar k guid bytes due sealed conn setup ms [] → AllGo k guid bytes due conn ms
ends_whole k guid bytes due sealed setup conn ms some far =
    let f = far.server_end in
    let rest : rest_due (length ms == 0) f sealed setup [] ≡ Ok (record { server_end = f; sealed = sealed; messages = [] }) =
    ap (λ (b : Bool). rest_due b f sealed setup []) some ∙ none_left f sealed setup in
    subst (λ (d : Due). AllGo k guid bytes d conn ms)
    (sym (far.is ∙ (ap (λ (d : Due). check_prefixed far.checked d) rest ∙ prefixed_ok far.checked f sealed))) (far.shows, far.messages)

-- ---- the loop

pub record Loops (old now : Conn) (sealed : Bool) (bytes text : List ℕ) (spans : List Span) (i : ℕ) (setup : Bool) (ms : List Checked)
    : Type 0 where
  pub count : length ms ≡ i
  pub apart : setup ≡ true → (length ms == 0) ≡ true → ⊥
  pub so_far : (k : ℕ) (guid : List ℕ) (f : ends.ServerEnd) → ShowsEnd k guid old f
      → SoFar k guid bytes (hearing.checked_in f sealed (heard_at text spans)) sealed now setup ms (heard_at text (drop i spans))

begun : (k : ℕ) (guid bytes : List ℕ) (f : ends.ServerEnd) (conn : Conn) (sealed : Bool) (xs : List HeardMessage) → ShowsEnd k guid conn f
    → SoFar k guid bytes (hearing.checked_in f sealed xs) sealed conn false [] xs
unfolding check_prefixed
begun k guid bytes f conn sealed xs s = record { server_end = f; checked = []; shows = s; messages = tt; is = refl }

pub loops_first : (conn : Conn) (sealed : Bool) (bytes text : List ℕ) (spans : List Span)
    → Loops conn conn sealed bytes text spans 0 false []
loops_first conn sealed bytes text spans = record {
  count = refl;
  apart = λ h e. absurd cc;
  so_far = λ k guid f s. begun k guid bytes f conn sealed (heard_at text spans) s;
}

-- a message that is checked in its turn
pub loops_next : (old now new : Conn) (sealed : Bool) (bytes : List ℕ) (at : ℕ) (spans : List Span) (i : ℕ) (setup : Bool)
    (ms : List Checked) (p d s : Span) (m : Checked) → AreMessages (drop at bytes) spans → i < length spans → p ≡ get_or spans i d
    → at ≤ length bytes → s.start ≡ at + p.start → s.end ≡ at + p.end
    → ((k : ℕ) (guid : List ℕ) (f : ends.ServerEnd) → ShowsEnd k guid now f
    → ChecksOne k guid (hearing.turn_end f (header_in (bytes_of bytes s))) (hearing.behind_turn f (header_in (bytes_of bytes s))) new
    (hearing.checked_as f sealed setup (length ms == 0) (heard_in (bytes_of bytes s))) s (Ok m))
    → Loops old now sealed bytes (drop at bytes) spans i setup ms
    → Loops old new sealed bytes (drop at bytes) spans (i + 1)
    (setup || ((m.header.command == 1) || is_some m.fault)) (ms ++ m ∷ [])
loops_next old now new sealed bytes at spans i setup ms p d s m are less e room start end one l =
    let x = stands (drop at bytes) spans i p d are less e in
    let same : bytes_of bytes s ≡ bytes_of (drop at bytes) p = moved_bytes bytes at p s start end in
    let size : length (drop at bytes) ≡ length bytes - at = length-drop at bytes in
    let most : p.end ≤ length (drop at bytes) = x.inside in
    let inside : s.end ≤ length bytes = omega (arith, size, most, end, room) in
    let head : has_header (bytes_of bytes s) ≡ true = ap (λ (b : List ℕ). has_header b) same ∙ x.head in
    let due : heard_at (drop at bytes) (drop i spans)
    ≡ heard_in (bytes_of bytes s) ∷ heard_at (drop at bytes) (drop (i + 1) spans) =
    x.due ∙ ap (λ (b : List ℕ). heard_in b ∷ heard_at (drop at bytes) (drop (i + 1) spans)) (sym same) in
    let size_more : length (ms ++ m ∷ []) ≡ length ms + 1 = length-append ms (m ∷ []) in
    let count : length ms ≡ i = l.count in
    record {
      count = omega (arith, size_more, count);
      apart = λ h none. apart_more ms m none;
      so_far = λ k guid f shown.
          goes_on k guid bytes (hearing.checked_in f sealed (heard_at (drop at bytes) spans)) sealed setup now new ms m s
          (heard_at (drop at bytes) (drop (i + 1) spans)) l.apart inside head
          (subst (λ (xs : List HeardMessage). SoFar k guid bytes (hearing.checked_in f sealed (heard_at (drop at bytes) spans))
          sealed now setup ms xs)
          due (l.so_far k guid f shown)) (λ g shows. one k guid g shows);
    }
  where
    apart_more : (ms : List Checked) (m : Checked) → (length (ms ++ m ∷ []) == 0) ≡ true → ⊥
    apart_more ms m none = true_is_not_false (sym none ∙ not_none ms m)

-- one that ends the connection
pub loops_ends : (old now new : Conn) (sealed : Bool) (bytes : List ℕ) (at : ℕ) (spans : List Span) (i : ℕ) (setup : Bool)
    (ms : List Checked) (p d s : Span) (e : ConnEnd) (k : ℕ) (guid : List ℕ) (f : ends.ServerEnd) → AreMessages (drop at bytes) spans
    → i < length spans → p ≡ get_or spans i d → s.start ≡ at + p.start → s.end ≡ at + p.end
    → ((k : ℕ) (guid : List ℕ) (f : ends.ServerEnd) → ShowsEnd k guid now f
    → ChecksOne k guid (hearing.turn_end f (header_in (bytes_of bytes s))) (hearing.behind_turn f (header_in (bytes_of bytes s))) new
    (hearing.checked_as f sealed setup (length ms == 0) (heard_in (bytes_of bytes s))) s (Err e))
    → Loops old now sealed bytes (drop at bytes) spans i setup ms → ShowsEnd k guid old f
    → EndsAll (hearing.checked_in f sealed (heard_at (drop at bytes) spans)) e
loops_ends old now new sealed bytes at spans i setup ms p d s e k guid f are less is start end one l shown =
    let x = stands (drop at bytes) spans i p d are less is in
    let same : bytes_of bytes s ≡ bytes_of (drop at bytes) p = moved_bytes bytes at p s start end in
    let due : heard_at (drop at bytes) (drop i spans)
    ≡ heard_in (bytes_of bytes s) ∷ heard_at (drop at bytes) (drop (i + 1) spans) =
    x.due ∙ ap (λ (b : List ℕ). heard_in b ∷ heard_at (drop at bytes) (drop (i + 1) spans)) (sym same) in
    ends_here k guid bytes (hearing.checked_in f sealed (heard_at (drop at bytes) spans)) sealed setup now new ms e s (bytes_of bytes s)
    (heard_at (drop at bytes) (drop (i + 1) spans))
    (subst (λ (xs : List HeardMessage).
    SoFar k guid bytes (hearing.checked_in f sealed (heard_at (drop at bytes) spans)) sealed now setup ms xs)
    due (l.so_far k guid f shown)) (λ g shows. one k guid g shows)

-- all are checked
pub loops_whole : (old now : Conn) (sealed : Bool) (bytes text : List ℕ) (spans : List Span) (i : ℕ) (setup : Bool) (ms : List Checked)
    (k : ℕ) (guid : List ℕ) (f : ends.ServerEnd) → (spans ≡ [] → ⊥) → length spans ≤ i
    → Loops old now sealed bytes text spans i setup ms → ShowsEnd k guid old f
    → AllGo k guid bytes (hearing.checked_in f sealed (heard_at text spans)) now ms
loops_whole old now sealed bytes text spans i setup ms k guid f some past l shown =
    let count : length ms ≡ i = l.count in
    let none_behind : drop i spans ≡ [] = drop_of_length-le spans past in
    let least : 1 ≤ length spans = some_length spans some in
    let none : (length ms == 0) ≡ false = other_number (length ms) 0 (λ e. absurd (omega (arith, count, past, least, e))) in
    ends_whole k guid bytes (hearing.checked_in f sealed (heard_at text spans)) sealed setup now ms none
    (subst (λ (ps : List Span). SoFar k guid bytes (hearing.checked_in f sealed (heard_at text spans)) sealed now setup ms
    (heard_at text ps)) none_behind (l.so_far k guid f shown))
  where
    some_length : (ps : List Span) → (ps ≡ [] → ⊥) → 1 ≤ length ps
    some_length [] differs = absurd (differs refl)
    some_length (p ∷ ps) differs = omega arith

-- ---- the places of the loop

pub place_fits : (bytes : List ℕ) (at : ℕ) (spans : List Span) (i : ℕ) (p d : Span) → AreMessages (drop at bytes) spans → i < length spans
    → p ≡ get_or spans i d → at ≤ length bytes → (at + p.start ≤ at + p.end) × (at + p.end ≤ length bytes)
place_fits bytes at spans i p d are less e room =
    let x = stands (drop at bytes) spans i p d are less e in
    let size : length (drop at bytes) ≡ length bytes - at = length-drop at bytes in
    let first : p.start ≤ p.end = x.first in
    let most : p.end ≤ length (drop at bytes) = x.inside in
    (omega (arith, first), omega (arith, size, most, room))

pub place_heads : (bytes : List ℕ) (at : ℕ) (spans : List Span) (i : ℕ) (p d s : Span) → AreMessages (drop at bytes) spans
    → i < length spans → p ≡ get_or spans i d → s.start ≡ at + p.start → s.end ≡ at + p.end → has_header (bytes_of bytes s) ≡ true
place_heads bytes at spans i p d s are less e start end =
    let x = stands (drop at bytes) spans i p d are less e in
    ap (λ (b : List ℕ). has_header b) (moved_bytes bytes at p s start end) ∙ x.head

-- what a check of a message said, by the message's place
pub as_placed : (k : ℕ) (guid : List ℕ) (f : ends.ServerEnd) (sealed setup first second : Bool) (new : Conn) (m b : List ℕ) (s : Span)
    (r : Result Checked ConnEnd) → first ≡ second → m ≡ b
    → ChecksOne k guid (hearing.turn_end f (header_in m)) (hearing.behind_turn f (header_in m)) new
    (hearing.checked_as f sealed setup first (heard_in m)) s r
    → ChecksOne k guid (hearing.turn_end f (header_in b)) (hearing.behind_turn f (header_in b)) new
    (hearing.checked_as f sealed setup second (heard_in b)) s r
as_placed k guid f sealed setup first second new m b s r same place h =
    subst (λ (x : List ℕ). ChecksOne k guid (hearing.turn_end f (header_in x)) (hearing.behind_turn f (header_in x)) new
    (hearing.checked_as f sealed setup second (heard_in x)) s r) place
    (subst (λ (y : Bool). ChecksOne k guid (hearing.turn_end f (header_in m)) (hearing.behind_turn f (header_in m)) new
    (hearing.checked_as f sealed setup y (heard_in m)) s r) same h)

-- ---- each behind the one before it

abbrev pub moved_to : ℕ → Span → Span
moved_to from p = record { start = from + p.start; end = from + p.end }

abbrev pub moved_all : ℕ → List Span → List Span
moved_all from ps = map (λ p. moved_to from p) ps

order_moved : (from size most at : ℕ) (ps : List Span) → from + size ≤ most → InOrder at size ps
    → InOrder (from + at) most (moved_all from ps)
order_moved from size most at [] room o = tt
order_moved from size most at (p ∷ ps) room o =
    let first : at ≤ p.start = o.0 in
    let whole : p.start + 64 ≤ p.end = o.1 in
    let inside : p.end ≤ size = o.2 in
    let front : from + at ≤ from + p.start = omega (arith, first) in
    let long : from + p.start + 64 ≤ from + p.end = omega (arith, whole) in
    let room_in : from + p.end ≤ most = omega (arith, inside, room) in
    (front, long, room_in, order_moved from size most p.end ps room o.3)

lower : (at to size : ℕ) (ps : List Span) → at ≤ to → InOrder to size ps → InOrder at size ps
lower at to size [] less o = tt
lower at to size (p ∷ ps) less o =
    let first : to ≤ p.start = o.0 in
    let front : at ≤ p.start = omega (arith, less, first) in
    (front, o.1, o.2, o.3)

-- the places of the checked messages, and those of the rest behind them
pub record Places (from size : ℕ) (spans : List Span) (i : ℕ) (ms : List Checked) : Type 0 where
  pub order : InOrder 0 size (places_of ms ++ moved_all from (drop i spans))

pub places_first : (bytes : List ℕ) (from : ℕ) (spans : List Span) (ms : List Checked) → ms ≡ [] → from ≤ length bytes
    → InOrder 0 (length (drop from bytes)) spans → Places from (length bytes) spans 0 ms
places_first bytes from spans ms none room o =
    let size : length (drop from bytes) ≡ length bytes - from = length-drop from bytes in
    let fits : from + length (drop from bytes) ≤ length bytes = omega (arith, size, room) in
    let start : 0 ≤ from + 0 = omega arith in
    let begun : Places from (length bytes) spans 0 [] = record {
      order = lower 0 (from + 0) (length bytes) (moved_all from spans) start
          (order_moved from (length (drop from bytes)) (length bytes) 0 spans fits o);
    } in
    subst (λ (xs : List Checked). Places from (length bytes) spans 0 xs) (sym none) begun

same_place : (s t : Span) → s.start ≡ t.start → s.end ≡ t.end → s ≡ t
same_place s t start end = λ i. record { start = start i; end = end i }

one_behind : (ms : List Checked) (m : Checked) (rest : List Span) → places_of (ms ++ m ∷ []) ++ rest ≡ places_of ms ++ (m.span ∷ rest)
one_behind [] m rest = refl
one_behind (x ∷ xs) m rest = ap (λ (ps : List Span). x.span ∷ ps) (one_behind xs m rest)

pub places_next : (from size : ℕ) (spans : List Span) (i : ℕ) (ms : List Checked) (p d s : Span) (m : Checked) → i < length spans
    → p ≡ get_or spans i d → s.start ≡ from + p.start → s.end ≡ from + p.end → m.span ≡ s → Places from size spans i ms
    → Places from size spans (i + 1) (ms ++ m ∷ [])
places_next from size spans i ms p d s m less e start end is l =
    let cut : drop i spans ≡ p ∷ drop (i + 1) spans =
    drop_more spans i d less ∙ ap (λ (x : Span). x ∷ drop (i + 1) spans) (sym e) in
    let mine : m.span ≡ moved_to from p = is ∙ same_place s (moved_to from p) start end in
    let whole : places_of (ms ++ m ∷ []) ++ moved_all from (drop (i + 1) spans) ≡ places_of ms ++ moved_all from (drop i spans) =
    one_behind ms m (moved_all from (drop (i + 1) spans))
    ∙ (ap (λ (x : Span). places_of ms ++ (x ∷ moved_all from (drop (i + 1) spans))) mine
    ∙ ap (λ (ps : List Span). places_of ms ++ moved_all from ps) (sym cut)) in
    record { order = subst (λ (ps : List Span). InOrder 0 size ps) (sym whole) l.order }

pub places_whole : (from size : ℕ) (spans : List Span) (i : ℕ) (ms : List Checked) → length spans ≤ i → Places from size spans i ms
    → InOrder 0 size (places_of ms)
places_whole from size spans i ms past l =
    let none_behind : drop i spans ≡ [] = drop_of_length-le spans past in
    let whole : places_of ms ++ moved_all from (drop i spans) ≡ places_of ms =
    ap (λ (ps : List Span). places_of ms ++ moved_all from ps) none_behind ∙ append-nil (places_of ms) in
    subst (λ (ps : List Span). InOrder 0 size ps) whole l.order
