-- Writes and set-infos, each with its record.
use Rattle.std.proofs.Common.{eqb-true, ◌≡◌, ℕ, ◌+◌, ◌<◌, ◌==◌, nat_lt, Bool, true, false, not, ◌&&◌, ◌||◌}
use Rattle.std.proofs.Common.{if◌then◌else◌, List, length, refl, arith, sym, subst, ◌∙◌, ap, Option, Some, None, ◌⊎◌}
use Rattle.std.proofs.Common.{inl, inr}
use Rattle.std.proofs.lemmas.Bool.Decides.{nat_tests}
use Rattle.spec_exchange.specs.Texts.{is_path, is_below}
use Rattle.spec_exchange.specs.Content.{written, ended, is_empty}
use Rattle.spec_exchange.specs.Commands.{Basic, Setting, SetBasic, Rename, SetDelete, SetAllocation, SetEnd}
use Rattle.spec_exchange.specs.Commands.{SetPosition, SetMode}
use Rattle.spec_exchange.specs.State.{Server, Message, Origin, WriteRecord, EndRecord, BasicRecord, DeleteRecord, RenameRecord, Body}
use Rattle.spec_exchange.specs.Table.{number_or_zero}
use Rattle.spec_exchange.specs.Files.{root, find, path_of, exists, is_directory, has_parent, passes_room, set_content}
use Rattle.spec_exchange.specs.Files.{store_basic, set_delete_pending, rename_file, allocated}
use Rattle.spec_exchange.specs.Opens.{file_has_open}
use Rattle.spec_exchange.specs.CheckOpen.{file_of, target_of, target_refused, delete_names}
use Rattle.spec_exchange.specs.Verdict.{Change, PutBytes, PutEnd, PutBasic, PutDeletePending, PutPath, PutNothing}
use Rattle.spec_exchange.specs.Records.{origin_of}
use Rattle.spec_exchange.specs.Effects.{change_file, change_records}
use Rattle.spec_exchange.specs.Fold.{with_record, fold_from, is_file, may_rename, may_replace, same_target}
use Rattle.law_server.specs.tables.Fits.{Listed}
use Rattle.law_server.proofs.tables.Found.{AlterFacts, WriteFacts, SettingFacts, setting_change, SettingSays}
use Rattle.law_records.specs.recovery.Recovers.{Files, Mirrors}
use Rattle.law_records.proofs.recovery.Lists.{ext}
use Rattle.law_records.proofs.recovery.Guards.{same_exists, same_directory, same_find, same_parent, same_path, has_room, none_open}
use Rattle.law_records.proofs.recovery.Files.{stores_basic, sets_content, sets_pending, renames_file}

-- what the checks found of a change, as the record's guard asks for it
pub record NameFacts (s : Server) (f : ℕ) (path : List ℕ) : Type 0 where
  pub is_text : is_path path ≡ true
  pub no_root : (f == root) ≡ false
  pub not_below : (is_directory s f && is_below (path_of s f) path) ≡ false
  pub parent : has_parent s path ≡ true
  pub target : target_refused s (target_of f (find s path)) ≡ false

abbrev pub Allows : Server → ℕ → Change → Type 0
Allows s f (PutBytes at bytes) = is_directory s f ≡ false × is_empty bytes ≡ false × passes_room s f (at + length bytes) ≡ false
Allows s f (PutEnd size) = is_directory s f ≡ false × passes_room s f size ≡ false
Allows s f (PutBasic basic) = Unit {0}
Allows s f (PutDeletePending flag) = flag ≡ true → (f == root) ≡ false
Allows s f (PutPath replaced path) = replaced ≡ target_of f (find s path) × NameFacts s f path
Allows s f PutNothing = Unit {0}

-- ---- each record

file_by : (e i : Bool) → e ≡ true → i ≡ false → (e && not i) ≡ true
file_by e i a b = grind arith

still_file : (d s : Server) (f : ℕ) → Files d s → exists s f ≡ true → is_directory s f ≡ false → is_file d f ≡ true
unfolding is_file
still_file d s f h there plain = file_by (exists d f) (is_directory d f) (same_exists d s h.entries f ∙ there)
    (same_directory d s h.directory f ∙ plain)

write_test : (a b c : Bool) → a ≡ true → b ≡ false → c ≡ false → (a && (not b && not c)) ≡ true
write_test a b c x y z = grind arith

end_test : (a c : Bool) → a ≡ true → c ≡ false → (a && not c) ≡ true
end_test a c x z = grind arith

wrote : (d s : Server) (origin : Origin) (f at now : ℕ) (bytes : List ℕ) → exists s f ≡ true → Allows s f (PutBytes at bytes) → Mirrors d s
    → Mirrors (with_record d (WriteRecord origin f at now bytes)) (set_content s f (written at bytes (s.content f)) now)
wrote d s origin f at now bytes there ok h =
    rw (write_test (is_file d f) (is_empty bytes) (passes_room d f (at + length bytes))
    (still_file d s f h.0 there ok.0) ok.1 (has_room d s f (at + length bytes) h.0.entries h.0.content h.2.full
    h.2.room ok.2))
    (sets_content d s f (written at bytes) now h)

set_end : (d s : Server) (origin : Origin) (f size now : ℕ) → exists s f ≡ true → Allows s f (PutEnd size) → Mirrors d s
    → Mirrors (with_record d (EndRecord origin f size now)) (set_content s f (ended size (s.content f)) now)
set_end d s origin f size now there ok h =
    rw (end_test (is_file d f) (passes_room d f size) (still_file d s f h.0 there ok.0)
    (has_room d s f size h.0.entries h.0.content h.2.full h.2.room ok.1))
    (sets_content d s f (ended size) now h)

set_basic : (d s : Server) (origin : Origin) (f : ℕ) (basic : Basic) → exists s f ≡ true → Mirrors d s
    → Mirrors (with_record d (BasicRecord origin f basic)) (store_basic s f basic)
set_basic d s origin f basic there h = rw (same_exists d s h.0.entries f ∙ there) (stores_basic d s f basic h)

-- the root is never delete pending, so that clearing the flag changes nothing
clears_root : (d s : Server) (f : ℕ) → f ≡ root → s.delete_pending root ≡ false → Mirrors d s → Mirrors d (set_delete_pending s f false)
clears_root d s f e m h = (
  record {
    entries = h.0.entries;
    next_file = h.0.next_file;
    directory = h.0.directory;
    delete_pending = h.0.delete_pending
        ∙ ext s.delete_pending _ (same_pending s.delete_pending f (ap s.delete_pending e ∙ m));
    basic = h.0.basic;
    content = h.0.content;
  },
  h.1,
  h.2,
)
  where
    same_pending : (delete_pending : ℕ → Bool) (f : ℕ) → delete_pending f ≡ false → (q : ℕ) → delete_pending q
        ≡ (if q == f then false else delete_pending q)
    same_pending delete_pending f e q = grind arith

set_pending_by : (d s : Server) (origin : Origin) (f : ℕ) (flag b : Bool) → (f == root) ≡ b → exists s f ≡ true
    → (flag ≡ true → b ≡ false) → s.delete_pending root ≡ false → Mirrors d s
    → Mirrors (with_record d (DeleteRecord origin f flag)) (set_delete_pending s f flag)
set_pending_by d s origin f flag false e there ok m h =
    rw (file_by (exists d f) (f == root) (same_exists d s h.0.entries f ∙ there) e) (sets_pending d s f flag h)
set_pending_by d s origin f true true e there ok m h = absurd (cc (ok refl))
set_pending_by d s origin f false true e there ok m h = rw (off (exists d f) (f == root) e) (clears_root d s f (eqb-true f root e) m h)
  where
    off : (x y : Bool) → y ≡ true → (x && not y) ≡ false
    off x y e = grind arith

same_target_of : (x : Option ℕ) → same_target x (number_or_zero x) ≡ true
unfolding same_target
same_target_of None = refl
same_target_of (Some t) = grind arith

nor : (x y : Bool) → (x || y) ≡ false → x ≡ false × y ≡ false
nor x y e = (grind arith, grind arith)

neither : (x y : Bool) → x ≡ false → y ≡ false → (not x && not y) ≡ true
neither x y e f = grind arith

replaceable : (d s : Server) (x : Option ℕ) → Mirrors d s → Listed s → target_refused s x ≡ false → may_replace d x ≡ true
unfolding target_refused may_replace
replaceable d s None h l e = refl
replaceable d s (Some t) h l e =
    let both_off = nor (is_directory s t) (file_has_open s t) e in
    neither (is_directory d t) (file_has_open d t) (same_directory d s h.0.directory t ∙ both_off.0) (none_open d s t h.1 l both_off.1)

rename_test : (a b c e f g k : Bool) → a ≡ true → b ≡ false → c ≡ true → e ≡ true → f ≡ false → g ≡ true → k ≡ true
    → (a && (not b && (c && (e && (not f && (g && k)))))) ≡ true
rename_test a b c e f g k ha hb hc he hf hg hk = grind arith

same_below : (d s : Server) (f : ℕ) (path : List ℕ) → Files d s → (is_directory d f && is_below (path_of d f) path)
    ≡ (is_directory s f && is_below (path_of s f) path)
same_below d s f path h = rw (same_directory d s h.directory f, same_path d s h.entries f) refl

renamed : (d s : Server) (origin : Origin) (f : ℕ) (path : List ℕ) → exists s f ≡ true → NameFacts s f path → Listed s → Mirrors d s
    → Mirrors (with_record d (RenameRecord origin f (number_or_zero (target_of f (find s path))) path))
    (rename_file s f (target_of f (find s path)) path)
unfolding may_rename
renamed d s origin f path there ok l h =
    let found = same_find d s h.0.entries path in let target = target_of f (find s path) in
    let same = ap (target_of f) found in
    let test = rename_test (exists d f) (f == root) (is_path path) (has_parent d path) (is_directory d f
    && is_below (path_of d f) path) (same_target (target_of f (find d path)) (number_or_zero target))
    (may_replace d (target_of f (find d path)))
    (same_exists d s h.0.entries f ∙ there) ok.no_root ok.is_text (same_parent d s h.0.entries h.0.directory path
    ∙ ok.parent) (same_below d s f path h.0 ∙ ok.not_below)
    (ap (λ x. same_target x (number_or_zero target)) same ∙ same_target_of target) (ap (may_replace d) same
    ∙ replaceable d s target h l ok.target) in
    let step : with_record d (RenameRecord origin f (number_or_zero target) path)
    ≡ rename_file d f (target_of f (find d path)) path = rw test refl in
    subst (λ x. Mirrors x (rename_file s f target path)) (sym step)
    (subst (λ x. Mirrors (rename_file d f x path) (rename_file s f target path)) (sym same)
    (renames_file d s f target path h))

pub changes : (d s : Server) (m : Message) (f now : ℕ) (c : Change) → exists s f ≡ true → Allows s f c
    → s.delete_pending root ≡ false → Listed s → Mirrors d s → Mirrors (fold_from d (change_records m f now c))
    (change_file s f now c)
unfolding change_records fold_from
changes d s m f now (PutBytes at bytes) there ok other l h = wrote d s (origin_of m) f at now bytes there ok h
changes d s m f now (PutEnd size) there ok other l h = set_end d s (origin_of m) f size now there ok h
changes d s m f now (PutBasic basic) there ok other l h = set_basic d s (origin_of m) f basic there h
changes d s m f now (PutDeletePending flag) there ok other l h = set_pending_by d s (origin_of m) f flag (f == root) refl there ok other h
changes d s m f now (PutPath replaced path) there ok other l h =
    subst (λ x. Mirrors (with_record d (RenameRecord (origin_of m) f (number_or_zero x) path)) (rename_file s f x path))
    (sym ok.0) (renamed d s (origin_of m) f path there ok.1 l h)
changes d s m f now PutNothing there ok other l h = h

-- ---- from what the checks found

bytes_allowed : (s : Server) (f at : ℕ) (bytes : List ℕ) (b : Bool) → is_empty bytes ≡ b → is_directory s f ≡ false
    → (not b && passes_room s f (at + length bytes)) ≡ false → Allows s f (if b then PutNothing else PutBytes at bytes)
bytes_allowed s f at bytes true e plain room = tt
bytes_allowed s f at bytes false e plain room = (plain, e, room)

end_allowed : (s : Server) (f size : ℕ) (b : Bool) → is_directory s f ≡ false
    → (b ≡ true → passes_room s f size ≡ false) → Allows s f (if b then PutEnd size else PutNothing)
end_allowed s f size true plain room = (plain, room refl)
end_allowed s f size false plain room = tt

pending_names : (s : Server) (f : ℕ) (flag : Bool) → delete_names s f flag ≡ None → flag ≡ true → (f == root) ≡ false
unfolding delete_names
pending_names s f true e q = by (f == root) _ e
  where
    by : (b : Bool) (x : Option ℕ) → (if b then Some 3221225506 else x) ≡ None → b ≡ false
    by true x e = absurd (cc)
    by false x e = refl
pending_names s f false e q = absurd (cc)

cut_size : (size old : ℕ) → nat_lt size old ≡ true → allocated size old ≡ size
unfolding allocated
cut_size size old e = let l : size < old = grind (arith, nat_tests) in omega arith

setting_allowed : (s : Server) (o : ℕ) (setting : Setting) → SettingSays s o setting → Allows s (file_of s o) (setting_change s o setting)
setting_allowed s o (SetBasic basic) says = tt
setting_allowed s o (Rename replace path) says = (
  refl,
  record {
    is_text = says.is_text;
    no_root = says.no_root;
    not_below = says.not_below;
    parent = says.parent;
    target = says.target;
  },
)
setting_allowed s o (SetDelete flag) says = pending_names s (file_of s o) flag says.names
setting_allowed s o (SetAllocation size) says =
    let f = file_of s o in let old = length (s.content f) in
    end_allowed s f size (nat_lt size old) says.file (λ e. ap (passes_room s f) (sym (cut_size size old e)) ∙ says.room)
setting_allowed s o (SetEnd size) says = (says.file, says.room)
setting_allowed s o (SetPosition position) says = tt
setting_allowed s o SetMode says = tt

pub allowed : (s : Server) (m : Message) (o : ℕ) (c : Change) (body : Body) → AlterFacts s m o c body → Allows s (file_of s o) c
allowed s m o c body facts = by facts.asked
  where
    by : WriteFacts s m o c body ⊎ SettingFacts s m o c body → Allows s (file_of s o) c
    by (inl w) = subst (Allows s (file_of s o)) (sym w.change_is) (bytes_allowed s (file_of s o) w.at w.bytes
        (is_empty w.bytes) refl w.file w.room)
    by (inr t) = subst (Allows s (file_of s o)) (sym t.change_is) (setting_allowed s o t.setting t.says)
