use Rattle.std.proofs.Common.{◌≡◌, ℕ, ◌^◌, ◌<◌, ◌≤◌, Bool, true, false, List, [], ◌∷◌, length, Option, Some, None}
use Rattle.std.proofs.Common.{take, drop, refl, subst, sym, arith, length-take}
use Rattle.std.specs.Prelude.{nat_lt, not, ◌==◌, ◌&&◌, ◌||◌, if◌then◌else◌}
use Rattle.std.proofs.lemmas.Grind.{common_steps}
use Rattle.spec_exchange.specs.State.{Body, Content, Listing, FileInfo, Named, Info}
use Rattle.spec_exchange.specs.Verdict.{Verdict, Tell, Show, TurnDown, Place}
use Rattle.spec_exchange.specs.Status.{access_denied, invalid_device_request, invalid_parameter, info_length_mismatch}
use Rattle.spec_exchange.specs.Status.{end_of_file, file_lock_conflict, object_name_not_found}
use Rattle.spec_exchange.specs.Files.{path_of, is_directory, info_of}
use Rattle.spec_exchange.specs.Ranges.{may_read}
use Rattle.spec_exchange.specs.CheckOpen.{file_of, has_access, there, needs_attributes, begins_at, list_from, listing_of}
use Rattle.spec_exchange.specs.Listing.{all_named, wanted, one_or_all, fitting, file_info_size}
use Rattle.spec_commands.specs.Tables.{directory_class}
use Rattle.spec_commands.specs.Infos.{listing_bytes, file_bytes}
use Rattle.spec_commands.specs.Fits.{AreListedIn}
use Rattle.law_commands.specs.commands.Fitting.{AreTexts}
use Rattle.law_commands.proofs.fitting.Rooms.{list_fits, file_few}
use Rattle.law_commands.proofs.commands.Volumes.{volume_short}
use Rattle.law_commands.proofs.fitting.success_fits_law.Goals as goal

-- ---- the form

first_kept : (b : Bool) (x : ℕ) (o : Option ℕ) → (if b then Some x else o) ≡ None → b ≡ false
first_kept true x o e = absurd cc
first_kept false x o e = refl

in_room : (n : ℕ) → nat_lt 1048576 n ≡ false → n ≤ 1048576
in_room n e = grind (arith, common_steps)

not_less : (a b : ℕ) → nat_lt a b ≡ false → b ≤ a
not_less a b e = grind (arith, common_steps)

-- ---- what a check gives, behind those that turn down

take_few : (n : ℕ) (l : List ℕ) → length (take n l) ≤ n
take_few n l = omega (arith, length-take n l)

content_few : (a b c d e : Bool) (o p u v w x y n : ℕ) (l bytes : List ℕ) → (if a then TurnDown o u else if b then TurnDown o v
    else if c then TurnDown o w else if d then TurnDown o x else if e then TurnDown o y else Tell o (Content (take n l)))
    ≡ Tell p (Content bytes) → length bytes ≤ n
content_few true b c d e o p u v w x y n l bytes is = absurd cc
content_few false true c d e o p u v w x y n l bytes is = absurd cc
content_few false false true d e o p u v w x y n l bytes is = absurd cc
content_few false false false true e o p u v w x y n l bytes is = absurd cc
content_few false false false false true o p u v w x y n l bytes is = absurd cc
content_few false false false false false o p u v w x y n l bytes is =
    let same : take n l ≡ bytes = cc in subst (λ (k : List ℕ). length k ≤ n) same (take_few n l)

file_given : (a b d : Bool) (o p u v w k told : ℕ) (P path : List ℕ) (I info : Info) (A access O options Q position : ℕ)
    → (if a then TurnDown o u else if b then TurnDown o v else if d then TurnDown o w else Tell o (FileInfo k P I A O Q))
    ≡ Tell p (FileInfo told path info access options position) → (d ≡ false) × (k ≡ told) × (P ≡ path) × (I ≡ info)
file_given true b d o p u v w k told P path I info A access O options Q position is = absurd cc
file_given false true d o p u v w k told P path I info A access O options Q position is = absurd cc
file_given false false true o p u v w k told P path I info A access O options Q position is = absurd cc
file_given false false false o p u v w k told P path I info A access O options Q position is = (refl, cc, cc, cc)

show_given : (a b : Bool) (o u v : ℕ) (c s : Verdict) (p : ℕ) (l : Place) (body : Body) → s ≡ Show p l body
    → (if a then TurnDown o u else if b then TurnDown o v else c) ≡ s → c ≡ s
show_given true b o u v c s p l body shows is = absurd cc
show_given false true o u v c s p l body shows is = absurd cc
show_given false false o u v c s p l body shows is = is

listing_given : (o k p told : ℕ) (last : Option (List ℕ)) (l : Place) (all fit entries : List Named)
    → listing_of o k last all fit ≡ Show p l (Listing told entries) → (k ≡ told) × (fit ≡ entries)
unfolding listing_of
listing_given o k p told last l [] fit entries is = absurd cc
listing_given o k p told last l (n ∷ ns) [] entries is = absurd cc
listing_given o k p told last l (n ∷ ns) (m ∷ ms) entries is = (cc, cc)

pub returns-clause-read : goal.returns-clause-read
returns-clause-read c = λ token s o at size minimum channel bytes keeps gives.
    let small : size ≤ 1048576 = in_room size (first_kept _ _ _ keeps) in
    let file : ℕ = file_of s o in
    let few : length bytes ≤ size = content_few (not (has_access s o 0x1 || has_access s o 0x20)) (is_directory s file)
    (not (may_read (s.ranges file) o at size)) (not (size == 0) && not (nat_lt at (length (s.content file))))
    (nat_lt (there s file at size) minimum) o o access_denied invalid_device_request file_lock_conflict end_of_file
    end_of_file size (drop at (s.content file)) bytes gives in
    omega (arith, small, few)

pub returns-clause-list : goal.returns-clause-list
returns-clause-list c = λ token s o class restart single pattern room told place entries keeps gives texts.
    let small : room ≤ 1048576 = in_room room (first_kept _ _ _ keeps) in
    let from : Option (List ℕ) = begins_at restart (s.enumeration_location o) in
    let all : List Named = wanted from pattern (all_named s (file_of s o)) in
    let shown : list_from s o class single pattern room from ≡ Show o place (Listing told entries) = show_given
    (not (has_access s o 0x1)) (not (is_directory s (file_of s o))) o access_denied invalid_parameter
    (list_from s o class single pattern room from) (Show o place (Listing told entries)) o place (Listing told entries) refl gives in
    let is = listing_given o class o told from place all (one_or_all single (fitting class room 0 all)) entries shown in
    subst (λ (k : ℕ). AreListedIn (directory_class k) entries × (length (listing_bytes k entries) < 2 ^ 32)) is.0
    (subst (λ (ns : List Named). AreListedIn (directory_class class) ns × (length (listing_bytes class ns) < 2 ^ 32)) is.1
    (list_fits single class room all small (subst AreTexts (sym is.1) texts)))

pub returns-clause-file : goal.returns-clause-file
unfolding info_of
returns-clause-file c = λ token s o class room told path info access options position keeps gives text.
    let small : room ≤ 1048576 = in_room room (first_kept _ _ _ keeps) in
    let file : ℕ = file_of s o in
    let is = file_given (needs_attributes class && not (has_access s o 0x80)) (class == 21)
    (nat_lt room (file_info_size class (is_directory s file) (path_of s file))) o o access_denied object_name_not_found
    info_length_mismatch class told (path_of s file) path (info_of s file) info (s.opened o).access access
    (s.opened o).options options (s.current_byte_offset o) position gives in
    let enough : file_info_size class (is_directory s file) (path_of s file) ≤ room = not_less room
    (file_info_size class (is_directory s file) (path_of s file)) is.0 in
    let fits : file_info_size class info.is_directory path ≤ room = subst (λ (q : Info). file_info_size class q.is_directory path ≤ room)
    is.3 (subst (λ (l : List ℕ). file_info_size class (is_directory s file) l ≤ room) is.2 enough) in
    subst (λ (k : ℕ). length (file_bytes k path info access options position) < 2 ^ 32) is.1
    (omega (arith, small, fits, file_few class path info access options position text))

pub returns-clause-volume : goal.returns-clause-volume
returns-clause-volume c = λ token file class room told size used. volume_short told size used
