-- What QUERY_DIRECTORY gives (MS-SMB2 3.3.5.18, MS-FSA 2.1.4.4 and 2.1.5.6.3).
use Rattle.std.specs.Prelude.{ℕ, ◌+◌, ◌*◌, ◌/◌, ◌==◌, nat_lt, nat_le, Bool, true, false, ◌&&◌, ◌||◌, if◌then◌else◌}
use Rattle.std.specs.Prelude.{List, [], ◌∷◌, Option, Some, None}
use Rattle.spec_exchange.specs.Content.{same_bytes}
use Rattle.spec_exchange.specs.Texts.{upper, same_name, name_before, utf16_length, parent_of, leaf_of}
use Rattle.spec_exchange.specs.State.{Server, Entry, Named}
use Rattle.spec_exchange.specs.Files.{root, find, info_of, path_of}

-- ---- patterns: `*` stands for any characters, `?` for one

unfoldable pub any_tail : (List ℕ → Bool) → List ℕ → Bool
any_tail accepts [] = accepts []
any_tail accepts (c ∷ cs) = accepts (c ∷ cs) || any_tail accepts cs

-- behind the bytes of one character that begins before
unfoldable pub after_character : (List ℕ → Bool) → List ℕ → Bool
after_character accepts [] = accepts []
after_character accepts (c ∷ cs) = if nat_le 128 c && nat_lt c 192 then after_character accepts cs else accepts (c ∷ cs)

unfoldable pub one_character : (List ℕ → Bool) → List ℕ → Bool
one_character accepts [] = false
one_character accepts (c ∷ cs) = after_character accepts cs

unfoldable pub one_byte : ℕ → (List ℕ → Bool) → List ℕ → Bool
one_byte p accepts [] = false
one_byte p accepts (c ∷ cs) = (upper p == upper c) && accepts cs

unfoldable pub matches : List ℕ → List ℕ → Bool
matches [] [] = true
matches [] (c ∷ cs) = false
matches (p ∷ ps) name = if p == 42 then any_tail (matches ps) name else if p == 63 then one_character (matches ps) name
    else one_byte p (matches ps) name

-- an empty pattern counts as `*`
unfoldable pub accepts : List ℕ → List ℕ → Bool
accepts [] name = true
accepts (p ∷ ps) name = matches (p ∷ ps) name

-- ---- the order: `.`, `..`, then names in byte order of their ASCII upper case

unfoldable pub rank : List ℕ → ℕ
rank name = if same_bytes name (46 ∷ []) then 0 else if same_bytes name (46 ∷ 46 ∷ []) then 1 else 2

unfoldable pub listed_before : List ℕ → List ℕ → Bool
listed_before a b = nat_lt (rank a) (rank b) || ((rank a == rank b) && ((rank a == 2) && name_before a b))

unfoldable pub insert_named : Named → List Named → List Named
insert_named n [] = n ∷ []
insert_named n (m ∷ ms) = if listed_before n.name m.name then n ∷ m ∷ ms else m ∷ insert_named n ms

-- the entries of a directory, in their order
unfoldable pub children : Server → List Entry → List ℕ → List Named
children s [] path = []
children s (e ∷ es) path = if same_name (parent_of e.path) path then insert_named (record {
  name = leaf_of e.path;
  info = info_of s e.file;
}) (children s es path) else children s es path

unfoldable pub parent_file : Option ℕ → ℕ
parent_file None = root
parent_file (Some f) = f

unfoldable pub all_named : Server → ℕ → List Named
all_named s f =
    record { name = 46 ∷ []; info = info_of s f } ∷ record {
      name = 46 ∷ 46 ∷ [];
      info = info_of s (parent_file (find s (parent_of (path_of s f))));
    } ∷ children s s.entries (path_of s f)

unfoldable pub is_behind : Option (List ℕ) → List ℕ → Bool
is_behind None name = true
is_behind (Some last) name = listed_before last name

-- those behind the last name that the pattern accepts
unfoldable pub wanted : Option (List ℕ) → List ℕ → List Named → List Named
wanted last pattern [] = []
wanted last pattern (n ∷ ns) = if is_behind last n.name && accepts pattern n.name then n ∷ wanted last pattern ns else
    wanted last pattern ns

-- ---- what fits (MS-FSCC 2.4): an entry's fixed part by its class, then its name in UTF-16; entries begin at multiples of 8

unfoldable pub entry_part : ℕ → ℕ
entry_part class = if class == 1 then 64 else if class == 2 then 68 else if class == 3 then 94 else if class == 12 then
    12 else if class == 37 then 104 else 80

unfoldable pub entry_size : ℕ → Named → ℕ
entry_size class n = entry_part class + 2 * utf16_length n.name

unfoldable pub next_multiple : ℕ → ℕ
next_multiple n = ((n + 7) / 8) * 8

unfoldable pub fitting : ℕ → ℕ → ℕ → List Named → List Named
fitting class room at [] = []
fitting class room at (n ∷ ns) = if nat_le (next_multiple at + entry_size class n) room then n ∷ fitting class room
    (next_multiple at + entry_size class n) ns else []

unfoldable pub first_of_them : List Named → List Named
first_of_them [] = []
first_of_them (n ∷ ns) = n ∷ []

unfoldable pub one_or_all : Bool → List Named → List Named
one_or_all true ns = first_of_them ns
one_or_all false ns = ns

unfoldable pub last_name : Option (List ℕ) → List Named → Option (List ℕ)
last_name last [] = last
last_name last (n ∷ ns) = last_name (Some n.name) ns

-- ---- QUERY_INFO: the bytes of an answer by its class (MS-FSCC 2.4 and 2.5)

-- the answers of four bytes: of extended attributes, access, mode and alignment
unfoldable pub is_short_class : ℕ → Bool
is_short_class class = (class == 7) || ((class == 8) || ((class == 16) || (class == 17)))

-- the name `::$DATA` of a file's one stream has 14 bytes behind 24; a directory has no stream
unfoldable pub streams_size : Bool → ℕ
streams_size directory = if directory then 0 else 38

unfoldable pub file_info_size : ℕ → Bool → List ℕ → ℕ
file_info_size class directory path =
    if class == 4 then 40
    else if class == 5 then 24
    else if class == 6 then 8
    else if class == 34 then 56
    else if is_short_class class then 4
    else if class == 14 then 8
    else if class == 22 then streams_size directory
    else (if class == 9 then 4 else 100) + 2 * (utf16_length path + 1)

-- the volume has no label, and its file system is named NTFS
unfoldable pub volume_info_size : ℕ → ℕ
volume_info_size class = if class == 1 then 18 else if class == 3 then 24 else if class == 4 then 8 else if class == 5 then 20
    else if class == 11 then 28 else 32
