-- The tables behind an open that was taken out, and its file.
use Rattle.std.proofs.Common.{◌≡◌, ℕ, Bool, true, false, if◌then◌else◌, Option, Some, None, refl, sym, ap, subst, ◌∙◌}
use Rattle.spec_exchange.specs.State as model
use Rattle.spec_exchange.specs.Commands.{deletes_on_close}
use Rattle.spec_exchange.specs.State.{Server}
use Rattle.spec_exchange.specs.Files.{exists, exists_in, info_of, is_full_directory, remove_file, set_delete_pending}
use Rattle.spec_exchange.specs.Opens.{drop_open, goes, is_kept_back, pending_behind}
use Rattle.spec_exchange.specs.Step.{add_expired_guid, expire}
use Rattle.law_server.specs.tables.Fits.{Fits}
use Rattle.law_server.proofs.tables.Logic.{either}
use Rattle.store_opens.specs.open_table.Changes.{is_expired_in}
use Rattle.store_opens.specs.open_table.Rows.{open_of}
use Rattle.store_opens.specs.open_table.Taken.{IsTaken, IsUndated}
use Rattle.store_opens.specs.declared.open_table.leave.Taken.{Taken}
use Rattle.store_opens.specs.declared.open_table.row.Row.{Row}
use Rattle.store_opens.specs.open_table.Shown.{ShowsOpens}
use Rattle.store_opens.specs.declared.open_table.table.Opens.{Opens}
use Rattle.store_files.specs.file_tree.Shown.{ShowsFiles, model_info}
use Rattle.store_files.specs.declared.file_tree.gone.Gone.{Gone}
use Rattle.store_files.specs.declared.file_tree.row.Info.{Info}
use Rattle.store_files.specs.declared.file_tree.tree.Tree.{Tree}
use Rattle.server_effects.specs.declared.fates.Fate.{Fate}
use Rattle.server_effects.specs.Fates.{removed_by, unmarked_by}
use Rattle.server_effects.specs.expiry.Expired.{GoneWith, behind_gone, fate_behind, goes_behind, kept_behind}
use Rattle.server_effects.proofs.Parted.{goes_is, unmarked_is, kept_apart}
use Rattle.server_effects.proofs.expiry.Goes.{there, not_full}

-- of either state, where the table shows both alike
from_either : {X Q : Type 0} (P : X → Type 0) (b : Bool) (x y : X) → (P x → Q) → (P y → Q) → P (if b then x else y) → Q
from_either P true x y f g h = f h
from_either P false x y f g h = g h

-- ---- opens: neither the mark nor the file is a column of theirs

pub opens_behind : (t : Opens) (s : Server) (o : ℕ)
    → ShowsOpens t (add_expired_guid (drop_open s o) (s.opened o).client_guid (s.opened o).create_guid) → ShowsOpens t (expire s o)
opens_behind t s o h =
    either (λ (w : Server). ShowsOpens t (add_expired_guid w c (s.opened o).create_guid))
    (is_kept_back (drop_open (pending_behind s o) o) f) _ _
    (λ _. cleared (drop_open (pending_behind s o) o) (s.opened o).create_guid marked)
    (λ _. either (λ (w : Server). ShowsOpens t (add_expired_guid w c (s.opened o).create_guid)) (goes (drop_open (pending_behind s o) o) f) _ _
    (λ _. gone (drop_open (pending_behind s o) o) (s.opened o).create_guid marked) (λ _. marked))
  where
    c : ℕ
    c = (s.opened o).client_guid

    f : ℕ
    f = (s.opened o).file

    gone : (w : Server) (g : Option ℕ) → ShowsOpens t (add_expired_guid w c g) → ShowsOpens t (add_expired_guid (remove_file w f) c g)
    gone w None k = k
    gone w (Some g) k = k

    cleared : (w : Server) (g : Option ℕ) → ShowsOpens t (add_expired_guid w c g)
        → ShowsOpens t (add_expired_guid (set_delete_pending w f false) c g)
    cleared w None k = k
    cleared w (Some g) k = k

    marks : (g : Option ℕ) → ShowsOpens t (add_expired_guid (drop_open s o) c g)
        → ShowsOpens t (add_expired_guid (drop_open (set_delete_pending s f true) o) c g)
    marks None k = k
    marks (Some g) k = k

    marked : ShowsOpens t (add_expired_guid (drop_open (pending_behind s o) o) c (s.opened o).create_guid)
    marked =
        either (λ (w : Server). ShowsOpens t (add_expired_guid (drop_open w o) c (s.opened o).create_guid))
        (deletes_on_close (s.opened o).options) _ _ (λ _. marks (s.opened o).create_guid h) (λ _. h)

pub opens_before : (t : Opens) (s : Server) (o : ℕ) → ShowsOpens t (expire s o)
    → ShowsOpens t (add_expired_guid (drop_open s o) (s.opened o).client_guid (s.opened o).create_guid)
opens_before t s o h =
    from_either (λ (w : Server). ShowsOpens t (add_expired_guid w c (s.opened o).create_guid))
    (is_kept_back (drop_open (pending_behind s o) o) f) _ _
    (λ k. marked (cleared (drop_open (pending_behind s o) o) (s.opened o).create_guid k))
    (λ j. from_either (λ (w : Server). ShowsOpens t (add_expired_guid w c (s.opened o).create_guid))
    (goes (drop_open (pending_behind s o) o) f) _ _
    (λ k. marked (gone (drop_open (pending_behind s o) o) (s.opened o).create_guid k)) (λ k. marked k) j) h
  where
    c : ℕ
    c = (s.opened o).client_guid

    f : ℕ
    f = (s.opened o).file

    gone : (w : Server) (g : Option ℕ) → ShowsOpens t (add_expired_guid (remove_file w f) c g) → ShowsOpens t (add_expired_guid w c g)
    gone w None k = k
    gone w (Some g) k = k

    cleared : (w : Server) (g : Option ℕ) → ShowsOpens t (add_expired_guid (set_delete_pending w f false) c g)
        → ShowsOpens t (add_expired_guid w c g)
    cleared w None k = k
    cleared w (Some g) k = k

    marks : (g : Option ℕ) → ShowsOpens t (add_expired_guid (drop_open (set_delete_pending s f true) o) c g)
        → ShowsOpens t (add_expired_guid (drop_open s o) c g)
    marks None k = k
    marks (Some g) k = k

    marked : ShowsOpens t (add_expired_guid (drop_open (pending_behind s o) o) c (s.opened o).create_guid)
        → ShowsOpens t (add_expired_guid (drop_open s o) c (s.opened o).create_guid)
    marked =
        from_either (λ (w : Server). ShowsOpens t (add_expired_guid (drop_open w o) c (s.opened o).create_guid))
        (deletes_on_close (s.opened o).options) _ _ (λ k. marks (s.opened o).create_guid k) (λ k. k)

-- ---- files: its guids, its opens and their ranges are no columns of theirs

-- its file is delete pending where it deletes on close
abbrev pub marked_behind : Server → Server → ℕ → Server
marked_behind s w o = if deletes_on_close (s.opened o).options then set_delete_pending w (s.opened o).file true else w

-- and no longer, where it can't go
abbrev pub unmarked_behind : Server → Server → ℕ → Server
unmarked_behind s w o = if kept_behind s o then set_delete_pending (marked_behind s w o) (s.opened o).file false else marked_behind s w o

-- what is told of its file by tests of their own: kept back, gone, deleted on close
abbrev told_of : Server → ℕ → Bool → Bool → Bool → Server
told_of s f k b d =
    let w = if d then set_delete_pending (if b then remove_file s f else s) f true else (if b then remove_file s f else s) in
    if k then set_delete_pending w f false else w

abbrev left_of : Server → ℕ → Bool → Bool → Bool → Server
left_of s o k b d =
    let f = (s.opened o).file in let w = drop_open (if d then set_delete_pending s f true else s) o in
    if k then set_delete_pending w f false else (if b then remove_file w f else w)

files_at : (t : Tree) (s : Server) (o : ℕ) (k b d : Bool) (g : Option ℕ) → (k ≡ true → b ≡ false)
    → ShowsFiles t (told_of s (s.opened o).file k b d) → ShowsFiles t (add_expired_guid (left_of s o k b d) (s.opened o).client_guid g)
files_at t s o true true d g a h = absurd (let e : true ≡ false = a refl in cc)
files_at t s o true false true None a h = h
files_at t s o true false true (Some g) a h = h
files_at t s o true false false None a h = h
files_at t s o true false false (Some g) a h = h
files_at t s o false true true None a h = h
files_at t s o false true true (Some g) a h = h
files_at t s o false true false None a h = h
files_at t s o false true false (Some g) a h = h
files_at t s o false false true None a h = h
files_at t s o false false true (Some g) a h = h
files_at t s o false false false None a h = h
files_at t s o false false false (Some g) a h = h

kept_stays : (s : Server) (o : ℕ) → kept_behind s o ≡ true → goes_behind s o ≡ false
kept_stays s o h = kept_apart (drop_open (pending_behind s o) o) (s.opened o).file h

pub files_behind : (t : Tree) (s : Server) (o : ℕ) → ShowsFiles t (unmarked_behind s (behind_gone s o) o) → ShowsFiles t (expire s o)
files_behind t s o h = files_at t s o (kept_behind s o) (goes_behind s o) (deletes_on_close (s.opened o).options) (s.opened o).create_guid
    (kept_stays s o) h

files_from : (t : Tree) (s : Server) (o : ℕ) (k b d : Bool) (g : Option ℕ) → (k ≡ true → b ≡ false)
    → ShowsFiles t (add_expired_guid (left_of s o k b d) (s.opened o).client_guid g) → ShowsFiles t (told_of s (s.opened o).file k b d)
files_from t s o true true d g a h = absurd (let e : true ≡ false = a refl in cc)
files_from t s o true false true None a h = h
files_from t s o true false true (Some g) a h = h
files_from t s o true false false None a h = h
files_from t s o true false false (Some g) a h = h
files_from t s o false true true None a h = h
files_from t s o false true true (Some g) a h = h
files_from t s o false true false None a h = h
files_from t s o false true false (Some g) a h = h
files_from t s o false false true None a h = h
files_from t s o false false true (Some g) a h = h
files_from t s o false false false None a h = h
files_from t s o false false false (Some g) a h = h

pub files_before : (t : Tree) (s : Server) (o : ℕ) → ShowsFiles t (expire s o) → ShowsFiles t (unmarked_behind s (behind_gone s o) o)
files_before t s o h = files_from t s o (kept_behind s o) (goes_behind s o) (deletes_on_close (s.opened o).options) (s.opened o).create_guid
    (kept_stays s o) h

-- ---- what becomes of its file

pub goes_so : (s : Server) (o : ℕ) (fate : Fate) (b : Bool) → b ≡ removed_by fate → fate ≡ fate_behind s o → b ≡ goes_behind s o
goes_so s o fate b w e = w ∙ (ap removed_by e ∙ goes_is (kept_behind s o) (goes_behind s o) (kept_stays s o))

pub unmarked_so : (s : Server) (o : ℕ) (fate : Fate) (b : Bool) → b ≡ unmarked_by fate → fate ≡ fate_behind s o → b ≡ kept_behind s o
unmarked_so s o fate b w e = w ∙ (ap unmarked_by e ∙ unmarked_is (kept_behind s o) (goes_behind s o))

-- ---- what was taken out

-- where it has no deadline it waits for one, as before
pub undated_yet : (old new : Opens) (s : Server) (o : ℕ) → new.undated ≡ old.undated → ShowsOpens old s → s.standing o ≡ true
    → s.session_of_open o ≡ None → IsUndated new s o
undated_yet old new s o e h st none = λ d. rw e (h.undated o st none d)

-- what a file that goes with its open is
pub gone_parts : (s : Server) (o : ℕ) (goes : Bool) (file : ℕ) → Fits s → s.standing o ≡ true → goes ≡ goes_behind s o
    → (s.opened o).file ≡ file
    → goes ≡ true → (exists_in s.entries file ≡ true) × (is_full_directory s file ≡ false)
gone_parts s o goes file f st g e h =
    subst (λ (z : ℕ). (exists_in s.entries z ≡ true) × (is_full_directory s z ≡ false)) e
    (there s o f st (sym g ∙ h), not_full s o f st (sym g ∙ h))

-- the store without it, in the words of the state
pub gone_files : (t : Tree) (s : Server) (o : ℕ) (goes : Bool) (gone : Option Gone) (file : ℕ) → goes ≡ goes_behind s o
    → (s.opened o).file ≡ file → GoneWith goes gone s file × ShowsFiles t (if goes then remove_file s file else s)
    → GoneWith (goes_behind s o) gone s (s.opened o).file × ShowsFiles t (behind_gone s o)
gone_files t s o goes gone file g e h =
    subst (λ (b : Bool). GoneWith b gone s (s.opened o).file × ShowsFiles t (if b then remove_file s (s.opened o).file else s)) g
    (subst (λ (z : ℕ). GoneWith goes gone s z × ShowsFiles t (if goes then remove_file s z else s)) (sym e) h)

-- an open that was taken out goes back where it was
pub back_at : (old new : Opens) (s : Server) (o : ℕ) (taken : Taken) → Fits s → IsTaken taken s o → ShowsOpens old (drop_open s o)
    → s.standing o ≡ true → s.session_of_open o ≡ None → IsUndated old s o
    → ((s : Server) → Fits s → ShowsOpens old (drop_open s taken.id) → s.standing taken.id ≡ true → s.session_of_open taken.id ≡ None
    → IsUndated old s taken.id → IsTaken taken s taken.id → ShowsOpens new s)
    → ShowsOpens new s
back_at old new s o taken f k opens st none undated back =
    subst (λ (z : ℕ). ShowsOpens old (drop_open s z) → s.standing z ≡ true → s.session_of_open z ≡ None → IsUndated old s z
    → IsTaken taken s z → ShowsOpens new s) k.id_is (λ a b c d e. back s f a b c d e) opens st none undated k

pub opens_taken : (t : Opens) (s : Server) (o : ℕ) (row : Row) → s.opened o ≡ open_of row
    → ShowsOpens t (add_expired_guid (drop_open s o) row.client row.guid) → ShowsOpens t (expire s o)
opens_taken t s o row e h =
    opens_behind t s o (subst (λ (r : model.Open). ShowsOpens t (add_expired_guid (drop_open s o) r.client_guid r.create_guid)) (sym e) h)

-- what is told of its mark
abbrev at : Bool → Bool → Server → ℕ → Server
at k d w f = if k then set_delete_pending (if d then set_delete_pending w f true else w) f false
    else (if d then set_delete_pending w f true else w)

pub files_marked : (t : Tree) (s : Server) (o : ℕ) (row : Row) (deletes unmarked : Bool) → s.opened o ≡ open_of row
    → deletes ≡ deletes_on_close row.options → unmarked ≡ kept_behind s o
    → ShowsFiles t (if unmarked then set_delete_pending (if deletes then set_delete_pending (behind_gone s o) row.file true
    else behind_gone s o) row.file false else (if deletes then set_delete_pending (behind_gone s o) row.file true else behind_gone s o))
    → ShowsFiles t (expire s o)
files_marked t s o row deletes unmarked e d u h =
    let w = behind_gone s o in
    files_behind t s o (subst (λ (r : model.Open). ShowsFiles t (at (kept_behind s o) (deletes_on_close r.options) w r.file)) (sym e)
    (subst (λ (b : Bool). ShowsFiles t (at (kept_behind s o) b w row.file)) d
    (subst (λ (b : Bool). ShowsFiles t (at b deletes w row.file)) u h)))

-- a file that is there yet didn't go
stays : (b : Bool) (g : Option Gone) (s : Server) (f : ℕ) → GoneWith b g s f → g ≡ None → b ≡ false
stays false g s f h e = refl
stays true None s f h e = absurd h
stays true (Some g) s f h e = absurd (cc)

marked_of : (i : Info) (s : Server) (f : ℕ) → model_info i ≡ info_of s f → i.marked ≡ s.delete_pending f
unfolding info_of
marked_of i s f e = ap (λ (x : model.Info). x.is_delete_pending) e

pub was_marked : (t : Tree) (s : Server) (o : ℕ) (gone : Option Gone) (row : Row) (i : Info) → Fits s → s.standing o ≡ true
    → s.opened o ≡ open_of row → GoneWith (goes_behind s o) gone s (s.opened o).file → ShowsFiles t (behind_gone s o)
    → ((s : Server) → ShowsFiles t s → exists s row.file ≡ true → model_info i ≡ info_of s row.file)
    → gone ≡ None → i.marked ≡ s.delete_pending (s.opened o).file
was_marked t s o gone row i f st e g files told n =
    let same = ap (λ (b : Bool). if b then remove_file s (s.opened o).file else s) (stays (goes_behind s o) gone s (s.opened o).file g n) in
    let file = ap (λ (r : model.Open). r.file) e in
    marked_of i s row.file (told s (subst (λ (w : Server). ShowsFiles t w) same files)
    (subst (λ (z : ℕ). exists s z ≡ true) file (f.open_files o st))) ∙ ap (λ (z : ℕ). s.delete_pending z) (sym file)

pub was_among : (s : Server) (o : ℕ) (row : Row) (kept : Bool) → s.opened o ≡ open_of row
    → kept ≡ is_expired_in (drop_open s o) row.client row.guid
    → kept ≡ is_expired_in s (s.opened o).client_guid (s.opened o).create_guid
was_among s o row kept e h = h ∙ same row.guid ∙ ap (λ (r : model.Open). is_expired_in s r.client_guid r.create_guid) (sym e)
  where
    same : (g : Option ℕ) → is_expired_in (drop_open s o) row.client g ≡ is_expired_in s row.client g
    same None = refl
    same (Some g) = refl

pub kept_before : (s : Server) (o : ℕ) (row : Row) (kept : Bool) → s.opened o ≡ open_of row
    → kept ≡ is_expired_in s (s.opened o).client_guid (s.opened o).create_guid → kept ≡ is_expired_in (drop_open s o) row.client row.guid
kept_before s o row kept e h = h ∙ ap (λ (r : model.Open). is_expired_in s r.client_guid r.create_guid) e ∙ same row.guid
  where
    same : (g : Option ℕ) → is_expired_in s row.client g ≡ is_expired_in (drop_open s o) row.client g
    same None = refl
    same (Some g) = refl
