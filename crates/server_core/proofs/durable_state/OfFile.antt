-- Records of a file alone: what their guards are, and what stands behind a call that went through or was refused.
use Rattle.std.proofs.Common.{◌≡◌, ℕ, ◌+◌, ◌<◌, ◌==◌, Bool, true, false, not, ◌&&◌, if◌then◌else◌, List, [], ◌∷◌, length}
use Rattle.std.proofs.Common.{Option, Some, None, refl, sym, ap, subst, ◌∙◌, arith}
use Rattle.std.proofs.lemmas.Bool.Decides.{nat_tests}
use Rattle.std.specs.Prelude.{Result, Ok, Err, MatchResult, OnOk}
use Rattle.spec_exchange.specs.Status.{access_denied, directory_not_empty, invalid_parameter, object_path_not_found, disk_full}
use Rattle.spec_exchange.specs.Commands.{path_form}
use Rattle.spec_exchange.specs.Content.{written, ended, is_empty}
use Rattle.spec_exchange.specs.CheckOpen.{target_of}
use Rattle.spec_exchange.specs.State.{Server, Origin, WriteRecord, EndRecord, RenameRecord}
use Rattle.spec_exchange.specs.State.{RemoveRecord}
use Rattle.spec_exchange.specs.Table.{put}
use Rattle.spec_exchange.specs.Texts.{is_path, is_below}
use Rattle.spec_exchange.specs.Files.{root, exists, exists_in, find, has_parent, path_of, is_directory, is_full_directory, passes_room}
use Rattle.spec_exchange.specs.Files.{set_content, remove_file, rename_file, without_file, without_target}
use Rattle.spec_exchange.specs.Files.{moved_entries, touched}
use Rattle.spec_exchange.specs.Fold.{is_file, same_target, may_replace, may_rename, may_remove, with_record}
use Rattle.spec_exchange.specs.Opens.{file_has_open}
use Rattle.store_files.specs.file_tree.Shown.{ShowsFiles}
use Rattle.store_files.specs.file_tree.Refusals.{room_refusal, remove_refusal, form_first, StoreTells, StoreRefuses}
use Rattle.store_files.specs.file_tree.Moved.{rename_refusal, move_refusal, target_is_directory}
use Rattle.store_files.specs.declared.file_tree.error.StoreError.{StoreError}
use Rattle.store_files.specs.declared.file_tree.error.StoreError.TheVariants.{Memory, Status}
use Rattle.store_files.specs.declared.file_tree.tree.Tree.{Tree}
use Rattle.law_server.proofs.tables.Logic.{front_of, back_of, both, not_true}
use Rattle.law_server.proofs.tables.Lists.{exists-without, exists-moved}
use Rattle.law_records.proofs.fold.Numbers.{removed_ascend, renamed_ascend}
use Rattle.law_records.proofs.fold.Created.{path_of_form, form_of_path}
use Rattle.server_core.specs.durable_state.Durable.{DurableShown, is_unopened, durable_may_take}
use Rattle.server_core.specs.declared.durable_state.durable.Durable.{Durable}
use Rattle.server_core.proofs.durable_state.Choice.{clash, on, off, first_off, second_off, not_on, not_off, and_on}
use Rattle.server_core.proofs.durable_state.Shown.{content_behind, same_files, entries_behind}

-- ---- a file that is no directory

pub file_there : (s : Server) (f : ℕ) → is_file s f ≡ true → exists s f ≡ true
unfolding is_file
file_there s f h = front_of (exists s f) (not (is_directory s f)) h

pub file_plain : (s : Server) (f : ℕ) → is_file s f ≡ true → is_directory s f ≡ false
unfolding is_file
file_plain s f h = not_true (is_directory s f) (back_of (exists s f) (not (is_directory s f)) h)

pub file_is : (s : Server) (f : ℕ) (e d : Bool) → e ≡ exists s f → (exists s f ≡ true → d ≡ is_directory s f) → (e && not d) ≡ is_file s f
unfolding is_file
file_is s f e d h k = by e (exists s f) h k
  where
    by : (e x : Bool) → e ≡ x → (x ≡ true → d ≡ is_directory s f) → (e && not d) ≡ (x && not (is_directory s f))
    by true true h k = ap (λ (b : Bool). not b) (k refl)
    by true false h k = absurd (cc)
    by false true h k = absurd (cc)
    by false false h k = refl

pub file_on : (s : Server) (f : ℕ) (d : Bool) → exists s f ≡ true → d ≡ is_directory s f → not d ≡ is_file s f
unfolding is_file
file_on s f d e k = ap (λ (b : Bool). not b) k ∙ and_on (exists s f) (not (is_directory s f)) e

pub file_off : (s : Server) (f : ℕ) → exists s f ≡ false → false ≡ is_file s f
unfolding is_file
file_off s f e = sym (first_off (exists s f) (not (is_directory s f)) e)

pub take_off : (s : Server) (f replaced : ℕ) (path : List ℕ) → exists s f ≡ false → false ≡ durable_may_take s f replaced path
unfolding durable_may_take
take_off s f replaced path e =
    sym (first_off (exists s f) (same_target (target_of f (find s path)) replaced && is_unopened s (target_of f (find s path))) e)

pub take_other : (s : Server) (f replaced : ℕ) (path : List ℕ) (T : Option ℕ) → T ≡ target_of f (find s path)
    → same_target T replaced ≡ false → false ≡ durable_may_take s f replaced path
unfolding durable_may_take
take_other s f replaced path T t e =
    sym (second_off (exists s f) (same_target (target_of f (find s path)) replaced && is_unopened s (target_of f (find s path)))
    (first_off (same_target (target_of f (find s path)) replaced) (is_unopened s (target_of f (find s path)))
    (subst (λ (x : Option ℕ). same_target x replaced ≡ false) t e)))

pub take_on : (s : Server) (f replaced : ℕ) (path : List ℕ) (T : Option ℕ) (b : Bool) → T ≡ target_of f (find s path)
    → exists s f ≡ true → same_target T replaced ≡ true → b ≡ is_unopened s T → b ≡ durable_may_take s f replaced path
unfolding durable_may_take
take_on s f replaced path T b t e k u =
    subst (λ (x : Option ℕ). b ≡ is_unopened s x) t u
    ∙ (and_on (same_target (target_of f (find s path)) replaced) (is_unopened s (target_of f (find s path)))
    (subst (λ (x : Option ℕ). same_target x replaced ≡ true) t k)
    ∙ and_on (exists s f) (same_target (target_of f (find s path)) replaced && is_unopened s (target_of f (find s path))) e)

pub filled_bytes : (bytes : List ℕ) → (length bytes == 0) ≡ false → 0 < length bytes
filled_bytes bytes e = grind (arith, nat_tests)

-- ---- room

room_left : (s : Server) (f size : ℕ) → room_refusal s f size ≡ None → passes_room s f size ≡ false
room_left s f size e = by (passes_room s f size) e
  where
    by : (b : Bool) → (if b then Some disk_full else None) ≡ None → b ≡ false
    by true e = absurd (cc)
    by false e = refl

no_room_left : (s : Server) (f size status : ℕ) → room_refusal s f size ≡ Some status → passes_room s f size ≡ true
no_room_left s f size status e = by (passes_room s f size) e
  where
    by : (b : Bool) → (if b then Some disk_full else None) ≡ Some status → b ≡ true
    by true e = refl
    by false e = absurd (cc)

write_off : (a b c : Bool) → c ≡ true → (a && (b && not c)) ≡ false
write_off a b c e = second_off a (b && not c) (second_off b (not c) (not_off c e))

pub write_shown : {E : Type 0} (answer : Result Unit StoreError) (out : Result Unit E) (d : Durable) (t : Tree) (s : Server)
    (origin : Origin) (f at : ℕ) (bytes : List ℕ) (time : ℕ) → DurableShown d s → is_file s f ≡ true → is_empty bytes ≡ false
    → MatchResult answer
    (λ _. (s : Server) → ShowsFiles d.tree s → exists s f ≡ true → is_directory s f ≡ false
    → (room_refusal s f (at + length bytes) ≡ None) × ShowsFiles t (set_content s f (written at bytes (s.content f)) time))
    (λ e. (s : Server) → ShowsFiles d.tree s → exists s f ≡ true → is_directory s f ≡ false
    → StoreTells e (room_refusal s f (at + length bytes)) × ShowsFiles t s)
    → MatchResult out (λ _. answer ≡ Err Memory → ⊥) (λ _. answer ≡ Err Memory)
    → OnOk out (DurableShown (record d { tree = t }) (with_record s (WriteRecord origin f at time bytes)))
write_shown answer (Err x) d t s origin f at bytes time h file filled done told = tt
write_shown (Ok y) (Ok x) d t s origin f at bytes time h file filled done told =
    let k = done s h.files (file_there s f file) (file_plain s f file) in
    on (λ (u : Server). DurableShown (record d { tree = t }) u)
    (is_file s f && (not (is_empty bytes) && not (passes_room s f (at + length bytes))))
    (set_content s f (written at bytes (s.content f)) time) s
    (both (is_file s f) (not (is_empty bytes) && not (passes_room s f (at + length bytes))) file
    (both (not (is_empty bytes)) (not (passes_room s f (at + length bytes))) (not_on (is_empty bytes) filled)
    (not_on (passes_room s f (at + length bytes)) (room_left s f (at + length bytes) k.0))))
    (content_behind d t s (put s.content f (written at bytes (s.content f))) (put s.basic f (touched (s.basic f) time)) h k.1)
write_shown (Err Memory) (Ok x) d t s origin f at bytes time h file filled done told = absurd (told refl)
write_shown (Err (Status status)) (Ok x) d t s origin f at bytes time h file filled done told =
    let k = done s h.files (file_there s f file) (file_plain s f file) in
    off (λ (u : Server). DurableShown (record d { tree = t }) u)
    (is_file s f && (not (is_empty bytes) && not (passes_room s f (at + length bytes))))
    (set_content s f (written at bytes (s.content f)) time) s
    (write_off (is_file s f) (not (is_empty bytes)) (passes_room s f (at + length bytes))
    (no_room_left s f (at + length bytes) status k.0))
    (same_files d t s h k.1)

pub write_none : (d : Durable) (s : Server) (origin : Origin) (f at : ℕ) (bytes : List ℕ) (time : ℕ)
    → (is_file s f && (not (is_empty bytes) && not (passes_room s f (at + length bytes)))) ≡ false → DurableShown d s
    → DurableShown d (with_record s (WriteRecord origin f at time bytes))
write_none d s origin f at bytes time e h =
    off (λ (u : Server). DurableShown d u) (is_file s f && (not (is_empty bytes) && not (passes_room s f (at + length bytes))))
    (set_content s f (written at bytes (s.content f)) time) s e h

pub end_shown : {E : Type 0} (answer : Result Unit StoreError) (out : Result Unit E) (d : Durable) (t : Tree) (s : Server)
    (origin : Origin) (f size time : ℕ) → DurableShown d s → is_file s f ≡ true
    → MatchResult answer
    (λ _. (s : Server) → ShowsFiles d.tree s → exists s f ≡ true → is_directory s f ≡ false
    → (room_refusal s f size ≡ None) × ShowsFiles t (set_content s f (ended size (s.content f)) time))
    (λ e. (s : Server) → ShowsFiles d.tree s → exists s f ≡ true → is_directory s f ≡ false
    → StoreRefuses e (room_refusal s f size) × ShowsFiles t s)
    → MatchResult out (λ _. answer ≡ Err Memory → ⊥) (λ _. answer ≡ Err Memory)
    → OnOk out (DurableShown (record d { tree = t }) (with_record s (EndRecord origin f size time)))
end_shown answer (Err x) d t s origin f size time h file done told = tt
end_shown (Ok y) (Ok x) d t s origin f size time h file done told =
    let k = done s h.files (file_there s f file) (file_plain s f file) in
    on (λ (u : Server). DurableShown (record d { tree = t }) u) (is_file s f && not (passes_room s f size))
    (set_content s f (ended size (s.content f)) time) s
    (both (is_file s f) (not (passes_room s f size)) file (not_on (passes_room s f size) (room_left s f size k.0)))
    (content_behind d t s (put s.content f (ended size (s.content f))) (put s.basic f (touched (s.basic f) time)) h k.1)
end_shown (Err Memory) (Ok x) d t s origin f size time h file done told = absurd (told refl)
end_shown (Err (Status status)) (Ok x) d t s origin f size time h file done told =
    let k = done s h.files (file_there s f file) (file_plain s f file) in
    off (λ (u : Server). DurableShown (record d { tree = t }) u) (is_file s f && not (passes_room s f size))
    (set_content s f (ended size (s.content f)) time) s
    (second_off (is_file s f) (not (passes_room s f size)) (not_off (passes_room s f size) (no_room_left s f size status k.0)))
    (same_files d t s h k.1)

-- ---- a rename

replace_is : (s : Server) (t : Option ℕ) → may_replace s t ≡ (not (target_is_directory s t) && is_unopened s t)
unfolding may_replace is_unopened
replace_is s None = refl
replace_is s (Some t) = refl

formed : (form rest : Option ℕ) → form_first form rest ≡ None → (form ≡ None) × (rest ≡ None)
formed None rest e = (refl, e)
formed (Some status) rest e = absurd (cc)

-- what a rename that goes through has found
record Moves (s : Server) (f : ℕ) (to : List ℕ) : Type 0 where
  pub path : is_path to ≡ true
  pub no_root : (f == root) ≡ false
  pub apart : (is_directory s f && is_below (path_of s f) to) ≡ false
  pub housed : has_parent s to ≡ true
  pub plain : target_is_directory s (target_of f (find s to)) ≡ false

moves_of : (s : Server) (f : ℕ) (to : List ℕ) → rename_refusal s f true to ≡ None → Moves s f to
moves_of s f to e =
    let k = formed (path_form to) (move_refusal s f true to) e in
    let m = by (f == root) (is_directory s f && is_below (path_of s f) to) (has_parent s to)
    (target_is_directory s (target_of f (find s to))) k.1 in
    record { path = path_of_form to k.0; no_root = m.0; apart = m.1; housed = m.2; plain = m.3 }
  where
    by : (r b h d : Bool) → (if r then Some access_denied else if b then Some invalid_parameter else if not h then
        Some object_path_not_found else if d then Some access_denied else None) ≡ None
        → (r ≡ false) × (b ≡ false) × (h ≡ true) × (d ≡ false)
    by true b h d e = absurd (cc)
    by false true h d e = absurd (cc)
    by false false false d e = absurd (cc)
    by false false true true e = absurd (cc)
    by false false true false e = (refl, refl, refl, refl)

-- one that is refused
refused_test : (e p t r b h d u : Bool) (status : ℕ) → (p ≡ true → (if r then Some access_denied else if b then
    Some invalid_parameter else if not h then Some object_path_not_found else if d then Some access_denied else None) ≡ Some status)
    → (e && (not r && (p && (h && (not b && (t && (not d && u))))))) ≡ false
refused_test e false t r b h d u status k = second_off e _ (second_off (not r) false refl)
refused_test e true t true b h d u status k = second_off e false refl
refused_test e true t false true h d u status k = second_off e _ (second_off h false refl)
refused_test e true t false false false d u status k = second_off e false refl
refused_test e true t false false true true u status k = second_off e _ (second_off t false refl)
refused_test e true t false false true false u status k = absurd (let f = k refl in cc)

refused_form : (s : Server) (f status : ℕ) (to : List ℕ) → rename_refusal s f true to ≡ Some status → is_path to ≡ true
    → move_refusal s f true to ≡ Some status
refused_form s f status to e p =
    ap (λ (o : Option ℕ). form_first o (move_refusal s f true to)) (sym (form_of_path to p)) ∙ e

rename_on : (s : Server) (f replaced : ℕ) (to : List ℕ) → durable_may_take s f replaced to ≡ true → Moves s f to
    → may_rename s f replaced to ≡ true
unfolding durable_may_take may_rename
rename_on s f replaced to h m =
    let T = target_of f (find s to) in
    let rest = back_of (exists s f) (same_target T replaced && is_unopened s T) h in
    both (exists s f) _ (front_of (exists s f) (same_target T replaced && is_unopened s T) h)
    (both (not (f == root)) _ (not_on (f == root) m.no_root)
    (both (is_path to) _ m.path
    (both (has_parent s to) _ m.housed
    (both (not (is_directory s f && is_below (path_of s f) to)) _ (not_on (is_directory s f && is_below (path_of s f) to) m.apart)
    (both (same_target T replaced) (may_replace s T) (front_of (same_target T replaced) (is_unopened s T) rest)
    (replace_is s T ∙ both (not (target_is_directory s T)) (is_unopened s T) (not_on (target_is_directory s T) m.plain)
    (back_of (same_target T replaced) (is_unopened s T) rest)))))))

rename_off : (s : Server) (f replaced status : ℕ) (to : List ℕ) → rename_refusal s f true to ≡ Some status
    → may_rename s f replaced to ≡ false
unfolding may_rename
rename_off s f replaced status to e =
    let T = target_of f (find s to) in
    subst (λ (m : Bool). (exists s f && (not (f == root) && (is_path to && (has_parent s to
    && (not (is_directory s f && is_below (path_of s f) to) && (same_target T replaced && m)))))) ≡ false) (sym (replace_is s T))
    (refused_test (exists s f) (is_path to) (same_target T replaced) (f == root) (is_directory s f && is_below (path_of s f) to)
    (has_parent s to) (target_is_directory s T) (is_unopened s T) status (refused_form s f status to e))

not_taken : (e t u n r p h b d : Bool) → (e && (t && u)) ≡ false
    → (e && (not r && (p && (h && (not b && (t && (not d && u))))))) ≡ false
not_taken false t u n r p h b d k = refl
not_taken true true true n r p h b d k = absurd (cc)
not_taken true false u n r p h b d k = second_off (not r) _ (second_off p _ (second_off h _ (second_off (not b) false refl)))
not_taken true true false n r p h b d k =
    second_off (not r) _ (second_off p _ (second_off h _ (second_off (not b) _ (second_off (not d) false refl))))

pub rename_none : (s : Server) (f replaced : ℕ) (to : List ℕ) → durable_may_take s f replaced to ≡ false
    → may_rename s f replaced to ≡ false
unfolding durable_may_take may_rename
rename_none s f replaced to h =
    let T = target_of f (find s to) in
    subst (λ (m : Bool). (exists s f && (not (f == root) && (is_path to && (has_parent s to
    && (not (is_directory s f && is_below (path_of s f) to) && (same_target T replaced && m)))))) ≡ false) (sym (replace_is s T))
    (not_taken (exists s f) (same_target T replaced) (is_unopened s T) true (f == root) (is_path to) (has_parent s to)
    (is_directory s f && is_below (path_of s f) to) (target_is_directory s T) h)

renamed_before : (s : Server) (f : ℕ) (replaced : Option ℕ) (to : List ℕ) (g : ℕ)
    → exists_in (moved_entries (path_of s f) to (without_target replaced s.entries)) g ≡ true → exists_in s.entries g ≡ true
unfolding without_target
renamed_before s f None to g h = sym (exists-moved (path_of s f) to s.entries g) ∙ h
renamed_before s f (Some t) to g h =
    cut (t == g) (exists_in s.entries g)
    (sym (exists-without t s.entries g) ∙ (sym (exists-moved (path_of s f) to (without_file t s.entries) g) ∙ h))
  where
    cut : (b v : Bool) → (if b then false else v) ≡ true → v ≡ true
    cut true v e = absurd (cc)
    cut false v e = e

pub rename_shown : {E : Type 0} (answer : Result Unit StoreError) (out : Result Unit E) (d : Durable) (t : Tree) (s : Server)
    (origin : Origin) (f replaced : ℕ) (to : List ℕ) → DurableShown d s → durable_may_take s f replaced to ≡ true
    → MatchResult answer
    (λ _. (s : Server) → ShowsFiles d.tree s → exists s f ≡ true → (rename_refusal s f true to ≡ None)
    × ShowsFiles t (rename_file s f (target_of f (find s to)) to))
    (λ e. (s : Server) → ShowsFiles d.tree s → exists s f ≡ true → StoreTells e (rename_refusal s f true to) × ShowsFiles t s)
    → MatchResult out (λ _. answer ≡ Err Memory → ⊥) (λ _. answer ≡ Err Memory)
    → OnOk out (DurableShown (record d { tree = t }) (with_record s (RenameRecord origin f replaced to)))
unfolding durable_may_take
rename_shown answer (Err x) d t s origin f replaced to h may done told = tt
rename_shown (Ok y) (Ok x) d t s origin f replaced to h may done told =
    let k = done s h.files (front_of (exists s f) _ may) in
    on (λ (u : Server). DurableShown (record d { tree = t }) u) (may_rename s f replaced to)
    (rename_file s f (target_of f (find s to)) to) s (rename_on s f replaced to may (moves_of s f to k.0))
    (entries_behind d t s (moved_entries (path_of s f) to (without_target (target_of f (find s to)) s.entries)) h k.1
    (renamed_ascend s f (target_of f (find s to)) to h.ascend) (renamed_before s f (target_of f (find s to)) to))
rename_shown (Err Memory) (Ok x) d t s origin f replaced to h may done told = absurd (told refl)
rename_shown (Err (Status status)) (Ok x) d t s origin f replaced to h may done told =
    let k = done s h.files (front_of (exists s f) _ may) in
    off (λ (u : Server). DurableShown (record d { tree = t }) u) (may_rename s f replaced to)
    (rename_file s f (target_of f (find s to)) to) s (rename_off s f replaced status to k.0) (same_files d t s h k.1)

-- ---- a removal

closed_there : (s : Server) (f : ℕ) → (exists s f && not (file_has_open s f)) ≡ true → exists s f ≡ true
closed_there s f h = front_of (exists s f) (not (file_has_open s f)) h

remove_test : (e r o u : Bool) → (e && not o) ≡ true
    → (if r then Some access_denied else if u then Some directory_not_empty else None) ≡ None
    → (e && (not r && (not o && not u))) ≡ true
remove_test e true o u h k = absurd (cc)
remove_test e false o true h k = absurd (cc)
remove_test e false o false h k = both e _ (front_of e (not o) h) (both (not o) true (back_of e (not o) h) refl)

keep_test : (e r o u : Bool) (status : ℕ) → (if r then Some access_denied else if u then Some directory_not_empty else None) ≡ Some status
    → (e && (not r && (not o && not u))) ≡ false
keep_test e true o u status k = second_off e false refl
keep_test e false o true status k = second_off e _ (second_off (not o) false refl)
keep_test e false o false status k = absurd (cc)

open_test : (e r o u : Bool) → (e && not o) ≡ false → (e && (not r && (not o && not u))) ≡ false
open_test false r o u h = refl
open_test true r true u h = second_off (not r) false refl
open_test true r false u h = absurd (cc)

remove_on : (s : Server) (f : ℕ) → (exists s f && not (file_has_open s f)) ≡ true → remove_refusal s f ≡ None → may_remove s f ≡ true
unfolding may_remove
remove_on s f h e = remove_test (exists s f) (f == root) (file_has_open s f) (is_full_directory s f) h e

remove_off : (s : Server) (f status : ℕ) → remove_refusal s f ≡ Some status → may_remove s f ≡ false
unfolding may_remove
remove_off s f status e = keep_test (exists s f) (f == root) (file_has_open s f) (is_full_directory s f) status e

pub remove_none : (s : Server) (f : ℕ) → (exists s f && not (file_has_open s f)) ≡ false → may_remove s f ≡ false
unfolding may_remove
remove_none s f h = open_test (exists s f) (f == root) (file_has_open s f) (is_full_directory s f) h

removed_before : (s : Server) (f g : ℕ) → exists_in (without_file f s.entries) g ≡ true → exists_in s.entries g ≡ true
removed_before s f g h = cut (f == g) (exists_in s.entries g) (sym (exists-without f s.entries g) ∙ h)
  where
    cut : (b v : Bool) → (if b then false else v) ≡ true → v ≡ true
    cut true v e = absurd (cc)
    cut false v e = e

pub remove_shown : (answer : Result Unit StoreError) (d : Durable) (t : Tree) (s : Server) (origin : Origin) (f : ℕ) → DurableShown d s
    → (exists s f && not (file_has_open s f)) ≡ true
    → MatchResult answer
    (λ _. (s : Server) → ShowsFiles d.tree s → exists s f ≡ true → (remove_refusal s f ≡ None) × ShowsFiles t (remove_file s f))
    (λ e. (s : Server) → ShowsFiles d.tree s → exists s f ≡ true → StoreRefuses e (remove_refusal s f) × ShowsFiles t s)
    → DurableShown (record d { tree = t }) (with_record s (RemoveRecord origin f))
remove_shown (Ok x) d t s origin f h closed done =
    let k = done s h.files (closed_there s f closed) in
    on (λ (u : Server). DurableShown (record d { tree = t }) u) (may_remove s f) (remove_file s f) s (remove_on s f closed k.0)
    (entries_behind d t s (without_file f s.entries) h k.1 (removed_ascend s f h.ascend) (removed_before s f))
remove_shown (Err Memory) d t s origin f h closed done = absurd ((done s h.files (closed_there s f closed)).0)
remove_shown (Err (Status status)) d t s origin f h closed done =
    let k = done s h.files (closed_there s f closed) in
    off (λ (u : Server). DurableShown (record d { tree = t }) u) (may_remove s f) (remove_file s f) s (remove_off s f status k.0)
    (same_files d t s h k.1)

-- ---- tests

pub is_empty_of : (bytes : List ℕ) (b : Bool) → b ≡ (length bytes == 0) → is_empty bytes ≡ b
unfolding is_empty
is_empty_of [] b e = sym e
is_empty_of (x ∷ xs) b e = let n : (length (x ∷ xs) == 0) ≡ false = grind arith in sym (e ∙ n)

-- ---- a call that was refused for another reason than memory

abbrev tells_memory : Result Unit StoreError → Bool
tells_memory (Ok u) = false
tells_memory (Err Memory) = true
tells_memory (Err (Status status)) = false

pub other_error : (answer : Result Unit StoreError) (error : StoreError) (status : ℕ) → answer ≡ Err error → error ≡ Status status
    → answer ≡ Err Memory → ⊥
other_error answer error status k m e =
    clash (tells_memory answer)
    (ap (λ (r : Result Unit StoreError). tells_memory r) (subst (λ (x : StoreError). answer ≡ Err x) m k))
    (ap (λ (r : Result Unit StoreError). tells_memory r) e)

pub memory_error : (answer : Result Unit StoreError) (error : StoreError) → answer ≡ Err error → error ≡ Memory → answer ≡ Err Memory
memory_error answer error k m = subst (λ (x : StoreError). answer ≡ Err x) m k
