-- What the checks tell of a file's bytes, of a listing and of a file, by what was asked.
use Rattle.std.proofs.Common.{◌≡◌, ℕ, ◌+◌, ◌*◌, ◌≤◌, ◌==◌, min, nat_lt, Bool, true, false, not, ◌&&◌, ◌||◌, if◌then◌else◌}
use Rattle.std.proofs.Common.{List, [], ◌∷◌, length, take, drop, IsUtf8, refl, arith, sym, subst, inl, inr, Option, Some, None}
use Rattle.std.proofs.lemmas.Bool.Decides.{nat_tests}
use Rattle.std.proofs.lemmas.List.{length-take}
use Rattle.spec_wire.specs.messages.Utf16.{utf16}
use Rattle.spec_wire.specs.messages.FileClasses.{file_basic_information_spelling, file_basic_information_table}
use Rattle.spec_wire.specs.messages.FileClasses.{file_standard_information_spelling, file_standard_information_table}
use Rattle.spec_wire.specs.messages.FileClasses.{file_internal_information_spelling, file_internal_information_table}
use Rattle.spec_wire.specs.messages.FileClasses.{file_network_open_information_spelling, file_network_open_information_table}
use Rattle.spec_wire.specs.messages.FileClasses.{file_all_information_spelling, file_all_information_whole}
use Rattle.spec_wire.specs.messages.FileClasses.{file_position_information_spelling, file_position_information_table}
use Rattle.spec_wire.specs.messages.FileClasses.{file_name_information_spelling, file_name_information_whole}
use Rattle.spec_wire.specs.declared.messages.directory_class.DirectoryClass.{DirectoryClass}
use Rattle.spec_exchange.specs.Status.{user_session_deleted, invalid_parameter}
use Rattle.spec_exchange.specs.Texts.{utf16_length, units_of}
use Rattle.spec_exchange.specs.Commands.{Command, Unreadable, Aside, Setup, Logoff, TreeConnect, TreeDisconnect, Create, Close, Flush}
use Rattle.spec_exchange.specs.Commands.{Read, Write, Lock, Ioctl, ListDirectory, QueryFile, QueryVolume, SetInfo, form, is_setup}
use Rattle.spec_exchange.specs.State.{Server, Message, Heard, Named, Info, Record, Body, Empty, Content, FileInfo, Listing}
use Rattle.spec_exchange.specs.Files.{is_directory, path_of, info_of}
use Rattle.spec_exchange.specs.Ranges.{may_read}
use Rattle.spec_exchange.specs.Opens.{is_of_tree}
use Rattle.spec_exchange.specs.CheckOpen.{file_of, has_access, needs_attributes, there, read_check, file_query_check}
use Rattle.spec_exchange.specs.CheckOpen.{begins_at, listing_of, list_check}
use Rattle.spec_exchange.specs.Listing.{all_named, wanted, fitting, one_or_all, file_info_size, is_short_class, streams_size}
use Rattle.spec_exchange.specs.CheckSetup.{tree_in}
use Rattle.spec_exchange.specs.Check.{check, owed, formed, command_check, with_tree, in_tree, tree_command, on_open, has_session}
use Rattle.spec_exchange.specs.Effects.{apply}
use Rattle.spec_exchange.specs.Verdict.{Verdict, Refuse, Give, KeepRefusal, Repeat, Attach, Make, TurnDown, Tell, Show}
use Rattle.spec_exchange.specs.Verdict.{KeepSlot, PutRanges, Alter, CloseOpen, Challenge, ChallengeBinding, Begin, Join}
use Rattle.spec_exchange.specs.Verdict.{EndSession, AddTree, DropTree}
use Rattle.spec_exchange.specs.Step.{step, without_room, with_deadlines}
use Rattle.law_server.proofs.tables.Logic.{either}
use Rattle.law_server.proofs.tables.Doors.{Before, Finds, by_verdict, recorded}
use Rattle.spec_commands.specs.Fits.{AreListed, AreListedIn}
use Rattle.spec_commands.specs.Infos.{listing_bytes, file_bytes, basic_of, standard_of, network_open_of, all_of}
use Rattle.spec_commands.specs.Infos.{short_bytes, streams_of}
use Rattle.spec_commands.specs.Tables.{directory_class}
use Rattle.spec_commands.proofs.Lengths.{total, length_fields, short_long, streams_long}
use Rattle.law_commands.specs.commands.Fitting.{AreFittingNames}
use Rattle.law_commands.proofs.commands.Limits.{ascii_then}
use Rattle.law_commands.proofs.commands.PathLength.{sum_append}
use Rattle.law_commands.proofs.lengths.Listings.{listings_are_short}
use Rattle.law_commands.proofs.lengths.Units.{units_are_counted}
use Rattle.law_replies.specs.fields.Rows.{RowsFit}
use Rattle.law_replies.proofs.fields.Changes.{expired}
use Rattle.law_replies.proofs.fields.Names.{all_names, wanted_names, some_names, texts_of}

-- ---- what a success of a READ, of a QUERY_DIRECTORY and of a QUERY_INFO of a file tells

abbrev pub BodyIs : Command → Body → Type 0
BodyIs (Read file at size minimum channel) (Content bytes) = length bytes ≤ min size 1048576
BodyIs (ListDirectory file class restart single pattern room) (Listing told entries) =
    AreListedIn (directory_class told) entries × (length (listing_bytes told entries) ≤ min room 1048576 + 7)
BodyIs (QueryFile file class room) (FileInfo told path info access options position) =
    IsUtf8 path → length (file_bytes told path info access options position) ≤ min room 1048576 + 8
BodyIs _ _ = Unit {0}

-- of the verdicts on these
abbrev Tells : Command → Verdict → Type 0
Tells c (Refuse status) = Unit {0}
Tells c (TurnDown o status) = Unit {0}
Tells c (Tell o body) = BodyIs c body
Tells c (Show o last body) = BodyIs c body
Tells c _ = ⊥

-- ---- a READ

no_more : (n : ℕ) (xs : List ℕ) → length (take n xs) ≤ n
no_more n xs = omega (arith, length-take n xs)

within : (n m : ℕ) → n ≤ m → m ≤ 1048576 → n ≤ min m 1048576
within n m a b = omega (arith, a, b)

told_read : (s : Server) (o at size minimum channel : ℕ) → size ≤ 1048576
    → Tells (Read o at size minimum channel) (read_check s o at size minimum)
told_read s o at size minimum channel small =
    let P : Verdict → Type 0 = λ v. Tells (Read o at size minimum channel) v in
    let part = take size (drop at (s.content (file_of s o))) in
    either P (not (has_access s o 0x1 || has_access s o 0x20)) _ _ (λ _. tt)
    (λ _. either P (is_directory s (file_of s o)) _ _ (λ _. tt)
    (λ _. either P (not (may_read (s.ranges (file_of s o)) o at size)) _ _ (λ _. tt)
    (λ _. either P (not (size == 0) && not (nat_lt at (length (s.content (file_of s o))))) _ _ (λ _. tt)
    (λ _. either P (nat_lt (there s (file_of s o) at size) minimum) _ _ (λ _. tt)
    (λ _. within (length part) size (no_more size (drop at (s.content (file_of s o)))) small)))))

-- ---- a QUERY_INFO of a file

backslash_few : utf16_length (92 ∷ []) ≤ 1
unfolding utf16_length units_of
backslash_few = omega arith

rooted_few : (path : List ℕ) → IsUtf8 path → length (utf16 (92 ∷ path)) ≤ 2 * (utf16_length path + 1)
rooted_few path is =
    omega (arith, units_are_counted (92 ∷ path) (ascii_then 92 path (omega arith) is), sum_append (92 ∷ []) path, backslash_few)

file_by : (k : ℕ) (a b c d e f g h : Bool) (path : List ℕ) (i : Info) (access options position : ℕ) → IsUtf8 path
    → length (if a then file_basic_information_spelling (basic_of i)
    else if b then file_standard_information_spelling (standard_of i)
    else if c then file_internal_information_spelling (record { index_number = i.file })
    else if d then file_network_open_information_spelling (network_open_of i)
    else if e then short_bytes k access
    else if f then file_position_information_spelling (record { current_byte_offset = position })
    else if g then streams_of i
    else if h then file_name_information_spelling (record { name = utf16 (92 ∷ path) })
    else file_all_information_spelling (all_of path i access options position))
    ≤ (if a then 40 else if b then 24 else if c then 8 else if d then 56 else if e then 4 else if f then 8
    else if g then streams_size i.is_directory else (if h then 4 else 100) + 2 * (utf16_length path + 1)) + 8
unfolding total
file_by k true b c d e f g h path i access options position is = omega (arith, length_fields (file_basic_information_table (basic_of i)) [])
file_by k false true c d e f g h path i access options position is =
    omega (arith, length_fields (file_standard_information_table (standard_of i)) [])
file_by k false false true d e f g h path i access options position is = omega (
  arith,
  length_fields (file_internal_information_table (record { index_number = i.file })) [],
)
file_by k false false false true e f g h path i access options position is =
    omega (arith, length_fields (file_network_open_information_table (network_open_of i)) [])
file_by k false false false false true f g h path i access options position is = omega (arith, short_long k access)
file_by k false false false false false true g h path i access options position is = omega (
  arith,
  length_fields (file_position_information_table (record { current_byte_offset = position })) [],
)
file_by k false false false false false false true h path i access options position is = omega (arith, streams_long i)
file_by k false false false false false false false true path i access options position is = omega (
  arith,
  length_fields (file_name_information_whole (record { name = utf16 (92 ∷ path) })) [],
  rooted_few path is,
)
file_by k false false false false false false false false path i access options position is = omega (
  arith,
  length_fields (file_all_information_whole (all_of path i access options position)) [],
  rooted_few path is,
)

file_few : (k : ℕ) (path : List ℕ) (i : Info) (access options position : ℕ) → IsUtf8 path
    → length (file_bytes k path i access options position) ≤ file_info_size k i.is_directory path + 8
unfolding file_bytes file_info_size
file_few k path i access options position is =
    file_by k (k == 4) (k == 5) (k == 6) (k == 34) (is_short_class k) (k == 14) (k == 22) (k == 9) path i access options position is

not_less : (a b : ℕ) → nat_lt a b ≡ false → b ≤ a
not_less a b e = grind (arith, nat_tests)

in_room : (n size room : ℕ) → n ≤ size + 8 → size ≤ room → room ≤ 1048576 → n ≤ min room 1048576 + 8
in_room n size room a b c = omega (arith, a, b, c)

told_query : (s : Server) (o class room : ℕ) → room ≤ 1048576 → Tells (QueryFile o class room) (file_query_check s o class room)
unfolding info_of
told_query s o class room few =
    let P : Verdict → Type 0 = λ v. Tells (QueryFile o class room) v in
    let f = file_of s o in
    either P (needs_attributes class && not (has_access s o 0x80)) _ _ (λ _. tt)
    (λ _. either P (class == 21) _ _ (λ _. tt)
    (λ _. either P (nat_lt room (file_info_size class (is_directory s f) (path_of s f))) _ _ (λ _. tt)
    (λ e is. in_room
    (length (file_bytes class (path_of s f) (info_of s f) (s.opened o).access (s.opened o).options (s.current_byte_offset o)))
    (file_info_size class (is_directory s f) (path_of s f)) room
    (file_few class (path_of s f) (info_of s f) (s.opened o).access (s.opened o).options (s.current_byte_offset o) is)
    (not_less room (file_info_size class (is_directory s f) (path_of s f)) e) few)))

-- ---- a QUERY_DIRECTORY

listed : (ns : List Named) → AreFittingNames ns → AreListed ns
listed [] h = tt
listed (n ∷ ns) h = let i = h.0 in (omega (arith, i.short), listed ns h.1)

listed_in : (o : Option DirectoryClass) (ns : List Named) → AreFittingNames ns → AreListedIn o ns
listed_in None ns h = tt
listed_in (Some c) ns h = listed ns h

few_bytes : (n room : ℕ) → n ≤ room + 7 → room ≤ 1048576 → n ≤ min room 1048576 + 7
few_bytes n room l h = omega (arith, l, h)

told_listing : (o class : ℕ) (restart single : Bool) (pattern : List ℕ) (room : ℕ) (last : Option (List ℕ)) (all fit : List Named)
    → BodyIs (ListDirectory o class restart single pattern room) (Listing class fit)
    → Tells (ListDirectory o class restart single pattern room) (listing_of o class last all fit)
unfolding listing_of
told_listing o class restart single pattern room last [] fit f = tt
told_listing o class restart single pattern room last (x ∷ xs) [] f = tt
told_listing o class restart single pattern room last (x ∷ xs) (y ∷ ys) f = f

told_list : (s : Server) (o class : ℕ) (restart single : Bool) (pattern : List ℕ) (room : ℕ) → room ≤ 1048576 → RowsFit s
    → Tells (ListDirectory o class restart single pattern room) (list_check s o class restart single pattern room)
told_list s o class restart single pattern room few h =
    let P : Verdict → Type 0 = λ v. Tells (ListDirectory o class restart single pattern room) v in
    let last : Option (List ℕ) = begins_at restart (s.enumeration_location o) in
    let all : List Named = wanted last pattern (all_named s (file_of s o)) in
    let fit : List Named = one_or_all single (fitting class room 0 all) in
    let told : AreFittingNames fit =
    some_names single class room all
    (wanted_names last pattern (all_named s (file_of s o)) (all_names s (file_of s o) h.places)) in
    let short = few_bytes (length (listing_bytes class fit)) room (listings_are_short single class room all (texts_of fit told)) few in
    either P (not (has_access s o 0x1)) _ _ (λ _. tt)
    (λ _. either P (not (is_directory s (file_of s o))) _ _ (λ _. tt)
    (λ _. told_listing o class restart single pattern room last all fit (listed_in (directory_class class) fit told, short)))

-- ---- the ordered checks

told_open : (c : Command) (s : Server) (m : Message) (o : ℕ) (v : Verdict) → Tells c v → Tells c (on_open s m o v)
told_open c s m o v e = either (Tells c) (is_of_tree s o m.session_id m.tree_id) v _ (λ _. e) (λ _. tt)

walk : (c : Command) (s : Server) (m : Message) → m.command ≡ c → command_check s m c ≡ with_tree s m
    → (form c ≡ None → (pipes : Bool) → Tells c (tree_command s m pipes c)) → Tells c (check s m)
walk c s m e at deep =
    either (Tells c) (is_setup m.command || has_session s m) (owed s m m.fault) (Refuse user_session_deleted)
    (λ _. by_fault m.fault) (λ _. tt)
  where
    in_trees : (u : Option Bool) → form c ≡ None → Tells c (in_tree s m u)
    in_trees None k = tt
    in_trees (Some pipes) k = subst (λ (d : Command). Tells c (tree_command s m pipes d)) (sym e) (deep k pipes)

    by_form : (u : Option ℕ) → form m.command ≡ u → Tells c (formed s m u)
    by_form (Some status) k = tt
    by_form None k =
        let good : form c ≡ None = subst (λ (d : Command). form d ≡ None) e k in
        subst (λ (d : Command). Tells c (command_check s m d)) (sym e)
        (subst (Tells c) (sym at) (in_trees (tree_in (s.trees m.session_id) m.tree_id) good))

    by_fault : (u : Option ℕ) → Tells c (owed s m u)
    by_fault (Some status) = tt
    by_fault None = by_form (form m.command) refl

first_kept : (b : Bool) (x : ℕ) (u : Option ℕ) → (if b then Some x else u) ≡ None → b ≡ false
first_kept true x u e = absurd cc
first_kept false x u e = refl

few_asked : (n : ℕ) → nat_lt 1048576 n ≡ false → n ≤ 1048576
few_asked n e = grind (arith, nat_tests)

read_told : (s : Server) (m : Message) (o at size minimum channel : ℕ) → m.command ≡ Read o at size minimum channel
    → Tells (Read o at size minimum channel) (check s m)
read_told s m o at size minimum channel e =
    walk (Read o at size minimum channel) s m e refl
    (λ k pipes. told_open (Read o at size minimum channel) s m o (read_check s o at size minimum)
    (told_read s o at size minimum channel (few_asked size (first_kept (nat_lt 1048576 size) invalid_parameter _ k))))

query_told : (s : Server) (m : Message) (o class room : ℕ) → m.command ≡ QueryFile o class room
    → Tells (QueryFile o class room) (check s m)
query_told s m o class room e =
    walk (QueryFile o class room) s m e refl
    (λ k pipes. told_open (QueryFile o class room) s m o (file_query_check s o class room)
    (told_query s o class room (few_asked room (first_kept (nat_lt 1048576 room) invalid_parameter _ k))))

list_told : (s : Server) (m : Message) (o class : ℕ) (restart single : Bool) (pattern : List ℕ) (room : ℕ) → RowsFit s
    → m.command ≡ ListDirectory o class restart single pattern room
    → Tells (ListDirectory o class restart single pattern room) (check s m)
list_told s m o class restart single pattern room h e =
    walk (ListDirectory o class restart single pattern room) s m e refl
    (λ k pipes. told_open (ListDirectory o class restart single pattern room) s m o
    (list_check s o class restart single pattern room)
    (told_list s o class restart single pattern room (few_asked room (first_kept (nat_lt 1048576 room) invalid_parameter _ k)) h))

told_full : (c : Command) (v : Verdict) → Tells c v → Tells c (without_room v)
told_full c (Refuse status) e = tt
told_full c (TurnDown o status) e = tt
told_full c (Tell o body) e = e
told_full c (Show o last body) e = e
told_full c (KeepRefusal guid status) e = absurd e
told_full c (Repeat o r) e = absurd e
told_full c (Attach o r) e = absurd e
told_full c (Make r found action) e = absurd e
told_full c (Give body) e = absurd e
told_full c (KeepSlot o index number status elements) e = absurd e
told_full c (PutRanges o index number ranges elements) e = absurd e
told_full c (Alter o change body) e = absurd e
told_full c (CloseOpen o body) e = absurd e
told_full c Challenge e = absurd e
told_full c (ChallengeBinding session) e = absurd e
told_full c (Begin session user previous r is_quiet) e = absurd e
told_full c (Join session) e = absurd e
told_full c (EndSession session is_quiet) e = absurd e
told_full c (AddTree pipes) e = absurd e
told_full c DropTree e = absurd e

finds_told : (c : Command) (t : Server) (m : Message) (v : Verdict) → Tells c (check t m) → Finds t m v → Tells c v
finds_told c t m v e (inl is) = subst (Tells c) (sym is) e
finds_told c t m v e (inr is) = subst (Tells c) (sym is) (told_full c (check t m) e)

-- ---- the answer

by_verdicts : (c : Command) (t : Server) (m : Message) (now : ℕ) (records : List Record) (v : Verdict) → BodyIs c Empty → Tells c v
    → BodyIs c (recorded (apply t m now v) records).reply.body
by_verdicts c t m now records (Refuse status) none e = none
by_verdicts c t m now records (TurnDown o status) none e = none
by_verdicts c t m now records (Tell o body) none e = e
by_verdicts c t m now records (Show o last body) none e = e
by_verdicts c t m now records (KeepRefusal guid status) none e = absurd e
by_verdicts c t m now records (Repeat o r) none e = absurd e
by_verdicts c t m now records (Attach o r) none e = absurd e
by_verdicts c t m now records (Make r found action) none e = absurd e
by_verdicts c t m now records (Give body) none e = absurd e
by_verdicts c t m now records (KeepSlot o index number status elements) none e = absurd e
by_verdicts c t m now records (PutRanges o index number ranges elements) none e = absurd e
by_verdicts c t m now records (Alter o change body) none e = absurd e
by_verdicts c t m now records (CloseOpen o body) none e = absurd e
by_verdicts c t m now records Challenge none e = absurd e
by_verdicts c t m now records (ChallengeBinding session) none e = absurd e
by_verdicts c t m now records (Begin session user previous r is_quiet) none e = absurd e
by_verdicts c t m now records (Join session) none e = absurd e
by_verdicts c t m now records (EndSession session is_quiet) none e = absurd e
by_verdicts c t m now records (AddTree pipes) none e = absurd e
by_verdicts c t m now records DropTree none e = absurd e

rows_seen : (s : Server) (now : ℕ) (t : Server) → Before s now t → RowsFit s → RowsFit t
rows_seen s now t (inl q) h = subst (λ (u : Server). RowsFit u) (sym q) h
rows_seen s now t (inr q) h = subst (λ (u : Server). RowsFit u) (sym q.2) (expired (with_deadlines s now) q.0 h)

stepped : (c : Command) (s : Server) (now : ℕ) (m : Message) → BodyIs c Empty → RowsFit s
    → ((t : Server) → RowsFit t → Tells c (check t m)) → BodyIs c (step s now (Heard m)).reply.body
stepped c s now m none h tells =
    by_verdict (λ A. BodyIs c A.reply.body) s now m
    (λ t v records b f. by_verdicts c t m now records v none (finds_told c t m v (tells t (rows_seen s now t b h)) f))

told_by : (c : Command) (s : Server) (now : ℕ) (m : Message) → m.command ≡ c → RowsFit s → BodyIs c (step s now (Heard m)).reply.body
told_by (Read o at size minimum channel) s now m e h =
    stepped (Read o at size minimum channel) s now m tt h (λ t i. read_told t m o at size minimum channel e)
told_by (QueryFile o class room) s now m e h = stepped (QueryFile o class room) s now m tt h (λ t i. query_told t m o class room e)
told_by (ListDirectory o class restart single pattern room) s now m e h =
    stepped (ListDirectory o class restart single pattern room) s now m tt h
    (λ t i. list_told t m o class restart single pattern room i e)
told_by (Unreadable status) s now m e h = tt
told_by (Aside status) s now m e h = tt
told_by (Setup request) s now m e h = tt
told_by Logoff s now m e h = tt
told_by (TreeConnect share) s now m e h = tt
told_by TreeDisconnect s now m e h = tt
told_by (Create request) s now m e h = tt
told_by (Close file query) s now m e h = tt
told_by (Flush file) s now m e h = tt
told_by (Write file at bytes channel) s now m e h = tt
told_by (Lock file index number elements) s now m e h = tt
told_by (Ioctl file code room) s now m e h = tt
told_by (QueryVolume file class room) s now m e h = tt
told_by (SetInfo file setting) s now m e h = tt

pub body_is : (s : Server) (now : ℕ) (m : Message) → RowsFit s → BodyIs m.command (step s now (Heard m)).reply.body
body_is s now m h = told_by m.command s now m refl h
