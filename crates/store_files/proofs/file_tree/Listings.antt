-- What a listing gives, entry by entry.
use Rattle.std.proofs.Common.{◌≡◌, ℕ, zero, suc, ◌+◌, ◌*◌, ◌/◌, ◌<◌, ◌≤◌, ◌==◌, nat_le, nat_lt, Bool, true, false, not}
use Rattle.std.proofs.Common.{◌&&◌, ◌||◌, if◌then◌else◌, List, [], ◌∷◌, ◌++◌, map, Option, Some, None, refl, sym, ap}
use Rattle.std.proofs.Common.{◌∙◌, arith}
use Rattle.std.proofs.lemmas.Bool.Decides.{nat_tests}
use Rattle.std.proofs.lemmas.List.{append-nil, append_assoc}
use Rattle.std.specs.Str.{bytes_eq}
use Rattle.spec_exchange.specs.State.{Server, Named}
use Rattle.spec_exchange.specs.Table.{is_filled}
use Rattle.spec_exchange.specs.Content.{same_bytes}
use Rattle.spec_exchange.specs.Texts.{parent_of, name_before}
use Rattle.spec_exchange.specs.Files.{find, info_of, path_of}
use Rattle.spec_exchange.specs.Listing.{accepts, rank, listed_before, is_behind, fitting, first_of_them, one_or_all}
use Rattle.spec_exchange.specs.Listing.{entry_size, next_multiple, parent_file, all_named, children, wanted}
use Rattle.store_files.specs.declared.file_tree.list.Entry.{Entry}
use Rattle.store_files.specs.declared.file_tree.list.Asked.{Asked}
use Rattle.store_files.specs.declared.file_tree.list.Taken.{Taken}
use Rattle.store_files.specs.declared.file_tree.list.Stage.{Stage}
use Rattle.store_files.specs.declared.file_tree.list.Stage.TheVariants.{Nothing, More, Full}
use Rattle.store_files.specs.file_tree.Listed.{model_named, fitting_of, given_at, listing_given, any_at}
use Rattle.store_files.specs.file_tree.Listed.{is_listing_full, stage_behind, ListingEnds}
use Rattle.store_files.specs.file_tree.Listed.{with_accepted, with_dot, with_dots, listing_refusal}

-- ---- at the end

none_fit : (class : Option ℕ) (room at : ℕ) → fitting_of class room at [] ≡ []
unfolding fitting
none_fit None room at = refl
none_fit (Some c) room at = refl

none_left : (single : Bool) → one_or_all single [] ≡ []
unfolding one_or_all first_of_them
none_left true = refl
none_left false = refl

stage_end : (st : Stage) (es : List Named) → given_at st es [] ≡ es
stage_end Nothing es = append-nil es
stage_end More es = append-nil es
stage_end Full es = refl

pub given_end : (a : Asked) (t : Taken) → listing_given a t [] ≡ map model_named t.entries.items
given_end a t = rw (none_fit a.class a.room t.at, none_left a.single) (stage_end t.stage (map model_named t.entries.items))

-- ---- a full listing takes nothing more

pub full_given : (st : Stage) (es x y : List Named) → is_listing_full st ≡ true → given_at st es x ≡ given_at st es y
full_given Nothing es x y e = absurd (cc)
full_given More es x y e = absurd (cc)
full_given Full es x y e = refl

pub full_any : (st : Stage) (x y : List Named) → is_listing_full st ≡ true → any_at st x ≡ any_at st y
full_any Nothing x y e = absurd (cc)
full_any More x y e = absurd (cc)
full_any Full x y e = refl

-- ---- one entry more

fits_front : (class : Option ℕ) (room at end : ℕ) (n : Named) (ns : List Named) → ListingEnds (Some end) class room at n.name
    → fitting_of class room at (n ∷ ns) ≡ n ∷ fitting_of class room end ns
unfolding fitting entry_size
fits_front None room at end n ns e = refl
fits_front (Some c) room at end n ns e = rw (e.1, e.0) refl

no_front : (class : Option ℕ) (room at : ℕ) (n : Named) (ns : List Named) → ListingEnds None class room at n.name
    → fitting_of class room at (n ∷ ns) ≡ []
unfolding fitting entry_size
no_front None room at n ns e = absurd (cc)
no_front (Some c) room at n ns e = rw e refl

one_more : (single : Bool) (st : Stage) (es : List Named) (n : Named) (more : List Named) → is_listing_full st ≡ false
    → given_at (stage_behind single) (es ++ n ∷ []) (one_or_all single more) ≡ given_at st es (one_or_all single (n ∷ more))
unfolding one_or_all first_of_them
one_more true Nothing es n more e = refl
one_more true More es n more e = refl
one_more true Full es n more e = absurd (cc)
one_more false Nothing es n more e = append_assoc es (n ∷ []) more
one_more false More es n more e = append_assoc es (n ∷ []) more
one_more false Full es n more e = absurd (cc)

pub put_fits : (a : Asked) (st st2 : Stage) (es fs : List Named) (n : Named) (ns : List Named) (at end : ℕ) → is_listing_full st
    ≡ false → ListingEnds (Some end) a.class a.room at n.name → st2 ≡ stage_behind a.single → fs ≡ es ++ n ∷ []
    → given_at st2 fs (one_or_all a.single (fitting_of a.class a.room end ns))
    ≡ given_at st es (one_or_all a.single (fitting_of a.class a.room at (n ∷ ns)))
put_fits a st st2 es fs n ns at end f e s l =
    rw (s, l, fits_front a.class a.room at end n ns e) (one_more a.single st es n (fitting_of a.class a.room end ns) f)

no_more : (single : Bool) (st : Stage) (es : List Named) → is_listing_full st ≡ false → es ≡ given_at st es (one_or_all single [])
no_more single Nothing es f = sym (append-nil es) ∙ ap (λ (x : List Named). es ++ x) (sym (none_left single))
no_more single More es f = sym (append-nil es) ∙ ap (λ (x : List Named). es ++ x) (sym (none_left single))
no_more single Full es f = absurd (cc)

pub put_not : (a : Asked) (st : Stage) (es : List Named) (n : Named) (ns : List Named) (at : ℕ) → is_listing_full st ≡ false
    → ListingEnds None a.class a.room at n.name
    → es ≡ given_at st es (one_or_all a.single (fitting_of a.class a.room at (n ∷ ns)))
put_not a st es n ns at f e = rw (no_front a.class a.room at n ns e) (no_more a.single st es f)

pub any_behind : (single : Bool) (ns : List Named) → any_at (stage_behind single) ns ≡ true
any_behind true ns = refl
any_behind false ns = refl

pub any_some : (st : Stage) (n : Named) (ns : List Named) → true ≡ any_at st (n ∷ ns)
unfolding is_filled
any_some Nothing n ns = refl
any_some More n ns = refl
any_some Full n ns = refl

pub named_pushed : (items : List Entry) (e : Entry) → map model_named (items ++ e ∷ []) ≡ map model_named items ++ model_named e ∷ []
named_pushed [] e = refl
named_pushed (x ∷ xs) e = ap (λ (l : List Named). model_named x ∷ l) (named_pushed xs e)

-- ---- `.` and `..`

rank_dot : rank (46 ∷ []) ≡ 0
unfolding rank same_bytes
rank_dot = refl

none_lower : (r : ℕ) (b : Bool) → (nat_lt r 0 || ((r == 0) && ((r == 2) && b))) ≡ false
none_lower zero b = refl
none_lower (suc r) b =
    let a : nat_lt (suc r) 0 ≡ false = grind (arith, nat_tests) in
    let e : (suc r == 0) ≡ false = grind (arith, nat_tests) in
    rw (a, e) refl

no_dot : (last : List ℕ) → listed_before last (46 ∷ []) ≡ false
unfolding listed_before
no_dot last = rw rank_dot (none_lower (rank last) (name_before last (46 ∷ [])))

dot_if : (last : Option (List ℕ)) (pattern : List ℕ) (s : Server) (f : ℕ) (ns : List Named)
    → (if is_behind last (46 ∷ []) && accepts pattern (46 ∷ []) then record {
      name = 46 ∷ [];
      info = info_of s f;
    } ∷ ns else ns) ≡ with_dot last pattern s f ns
unfolding is_behind
dot_if None pattern s f ns = refl
dot_if (Some last) pattern s f ns = rw (no_dot last) refl

dots_if : (b a : Bool) (n : Named) (ns : List Named) → (if b && a then n ∷ ns else ns) ≡ (if b then (if a then n ∷ ns else ns) else ns)
dots_if true a n ns = refl
dots_if false a n ns = refl

pub all_wanted : (last : Option (List ℕ)) (pattern : List ℕ) (s : Server) (f : ℕ)
    → wanted last pattern (all_named s f) ≡ with_dot last pattern s f
    (with_dots last pattern s f (wanted last pattern (children s s.entries (path_of s f))))
unfolding wanted all_named
all_wanted last pattern s f =
    let rest = wanted last pattern (children s s.entries (path_of s f)) in
    let parent : Named = record { name = 46 ∷ 46 ∷ []; info = info_of s (parent_file (find s (parent_of (path_of s f)))) } in
    let two = dots_if (is_behind last (46 ∷ 46 ∷ [])) (accepts pattern (46 ∷ 46 ∷ [])) parent rest in
    ap (λ (l : List Named). if is_behind last (46 ∷ []) && accepts pattern (46 ∷ []) then record {
      name = 46 ∷ [];
      info = info_of s f;
    } ∷ l else l) two
    ∙ dot_if last pattern s f (with_dots last pattern s f rest)

pub dots_there : (last : Option (List ℕ)) (pattern : List ℕ) (s : Server) (f : ℕ) (ns : List Named) → is_behind last (46 ∷ 46 ∷ []) ≡ true
    → with_accepted pattern (record {
      name = 46 ∷ 46 ∷ [];
      info = info_of s (parent_file (find s (parent_of (path_of s f))));
    }) ns ≡ with_dots last pattern s f ns
dots_there last pattern s f ns b = rw b refl

pub dots_not : (last : Option (List ℕ)) (pattern : List ℕ) (s : Server) (f : ℕ) (ns : List Named)
    → is_behind last (46 ∷ 46 ∷ []) ≡ false → ns ≡ with_dots last pattern s f ns
dots_not last pattern s f ns b = rw b refl

-- ---- from nothing to the whole

pub begun_given : (a : Asked) (t : Taken) (ns : List Named) → t.entries.items ≡ [] → t.at ≡ 0 → t.stage ≡ Nothing
    → listing_given a t ns ≡ one_or_all a.single (fitting_of a.class a.room 0 ns)
begun_given a t ns e i st = rw (e, i, st) refl

pub begun_any : (t : Taken) (ns : List Named) → t.stage ≡ Nothing → any_at t.stage ns ≡ is_filled ns
begun_any t ns st = rw st refl

-- names without a class and more than one are all there are
pub all_given : (a : Asked) (ns : List Named) → a.class ≡ None → a.single ≡ false
    → one_or_all a.single (fitting_of a.class a.room 0 ns) ≡ ns
unfolding one_or_all
all_given a ns c s = rw (c, s) refl

pub dot_there : (pattern : List ℕ) (s : Server) (f : ℕ) (ns : List Named) → with_accepted pattern (record {
  name = 46 ∷ [];
  info = info_of s f;
}) ns ≡ with_dot None pattern s f ns
dot_there pattern s f ns = refl

pub accepted_so : (pattern : List ℕ) (n : Named) (ns : List Named) → accepts pattern n.name ≡ true → n ∷ ns ≡ with_accepted pattern n ns
accepted_so pattern n ns e = rw e refl

pub not_accepted : (pattern : List ℕ) (n : Named) (ns : List Named) → accepts pattern n.name ≡ false → ns ≡ with_accepted pattern n ns
not_accepted pattern n ns e = rw e refl

-- ---- whether an entry fits

pub too_long : (at part units room : ℕ) → room < ((at + 7) / 8) * 8 + (part + 2 * units)
    → nat_le (next_multiple at + (part + 2 * units)) room ≡ false
unfolding next_multiple
too_long at part units room l = grind (arith, nat_tests)

pub not_long : (at part units room : ℕ) → ((at + 7) / 8) * 8 + (part + 2 * units) ≤ room
    → nat_le (next_multiple at + (part + 2 * units)) room ≡ true
unfolding next_multiple
not_long at part units room l = grind (arith, nat_tests)

-- ---- names that aren't `.` or `..`

same_is : (a b : List ℕ) → same_bytes a b ≡ bytes_eq a b
unfolding same_bytes
same_is [] [] = refl
same_is [] (y ∷ ys) = refl
same_is (x ∷ xs) [] = refl
same_is (x ∷ xs) (y ∷ ys) = rw (same_is xs ys) refl

rank_bytes : (name : List ℕ) → rank name ≡ (if bytes_eq name (46 ∷ []) then 0 else if bytes_eq name (46 ∷ 46 ∷ []) then 1 else 2)
unfolding rank
rank_bytes name = rw (same_is name (46 ∷ []), same_is name (46 ∷ 46 ∷ [])) refl

two_dots : rank (46 ∷ 46 ∷ []) ≡ 1
unfolding rank same_bytes
two_dots = refl

pub rank_dots : (name : List ℕ) → (rank name == 2) ≡ (not (bytes_eq name (46 ∷ [])) && not (bytes_eq name (46 ∷ 46 ∷ [])))
unfolding rank
rank_dots name = rw (same_is name (46 ∷ []), same_is name (46 ∷ 46 ∷ [])) (by (bytes_eq name (46 ∷ [])) (bytes_eq name (46 ∷ 46 ∷ [])))
  where
    by : (b c : Bool) → ((if b then 0 else if c then 1 else 2) == 2) ≡ (not b && not c)
    by true c = refl
    by false true = refl
    by false false = refl

pub ends_at : (at part units : ℕ) → ((at + 7) / 8) * 8 + (part + 2 * units) ≡ next_multiple at + (part + 2 * units)
unfolding next_multiple
ends_at at part units = refl

-- `..` stands behind `.` alone
dots_behind : (n : List ℕ) → bytes_eq n (46 ∷ []) ≡ listed_before n (46 ∷ 46 ∷ [])
unfolding listed_before
dots_behind n = rw (rank_two, rank_is) (by (bytes_eq n (46 ∷ [])) (bytes_eq n (46 ∷ 46 ∷ [])) (name_before n (46 ∷ 46 ∷ [])))
  where
    rank_two : rank (46 ∷ 46 ∷ []) ≡ 1
    rank_two = two_dots

    rank_is : rank n ≡ (if bytes_eq n (46 ∷ []) then 0 else if bytes_eq n (46 ∷ 46 ∷ []) then 1 else 2)
    rank_is = rank_bytes n

    by : (b c d : Bool) → b ≡ (nat_lt (if b then 0 else if c then 1 else 2) 1
        || (((if b then 0 else if c then 1 else 2) == 1) && (((if b then 0 else if c then 1 else 2) == 2) && d)))
    by true c d = refl
    by false true d = refl
    by false false d = refl

pub behind_dot : (last : Option (List ℕ)) (name : List ℕ) → last ≡ Some name → bytes_eq name (46 ∷ []) ≡ is_behind last (46 ∷ 46 ∷ [])
unfolding is_behind
behind_dot None name e = absurd (cc)
behind_dot (Some l) name e = let same : l ≡ name = cc in ap (λ (x : List ℕ). bytes_eq x (46 ∷ [])) (sym same) ∙ dots_behind l

pub behind_none : (last : Option (List ℕ)) → last ≡ None → true ≡ is_behind last (46 ∷ 46 ∷ [])
unfolding is_behind
behind_none None e = refl
behind_none (Some l) e = absurd (cc)

-- ---- a whole listing

pub listed : (s : Server) (f : ℕ) (pattern bytes : List ℕ) (a : Asked) (t : Taken) → bytes ≡ pattern → a.class ≡ None → a.single ≡ false
    → listing_given a t [] ≡ one_or_all a.single (fitting_of a.class a.room 0 (wanted None bytes (all_named s f)))
    → any_at t.stage [] ≡ is_filled (wanted None bytes (all_named s f)) → any_at t.stage [] ≡ true
    → (listing_refusal s f pattern ≡ None) × (map model_named t.entries.items ≡ wanted None pattern (all_named s f))
listed s f pattern bytes a t b c one g any there =
    let filled : is_filled (wanted None pattern (all_named s f)) ≡ true =
    ap (λ (p : List ℕ). is_filled (wanted None p (all_named s f))) (sym b) ∙ (sym any ∙ there) in (
      rw filled refl,
      sym (given_end a t)
          ∙ (g ∙ (all_given a (wanted None bytes (all_named s f)) c one
          ∙ ap (λ (p : List ℕ). wanted None p (all_named s f)) b)),
    )

pub dot_so : (last : Option (List ℕ)) (pattern : List ℕ) (s : Server) (f : ℕ) (ns : List Named) → last ≡ None
    → with_accepted pattern (record { name = 46 ∷ []; info = info_of s f }) ns ≡ with_dot last pattern s f ns
dot_so None pattern s f ns e = refl
dot_so (Some l) pattern s f ns e = absurd (cc)
