-- What opens that left make of one file.
use Rattle.std.proofs.Common.{◌≡◌, ◌≤◌, ◌<◌, ℕ, ◌+◌, ◌==◌, nat_le, Bool, true, false, not, ◌&&◌, ◌||◌, if◌then◌else◌, List}
use Rattle.std.proofs.Common.{◌∷◌, [], ◌++◌, length, drop, get_or, map, refl, sym, ap, subst, ◌∙◌, Option, Some, None}
use Rattle.std.proofs.Common.{arith, nat_eq, Result, Ok, Err, OnOk, IfOk}
use Rattle.std.proofs.lemmas.Bool.Decides.{nat_tests}
use Rattle.std.specs.Map.{lookup}
use Rattle.std.specs.List.{list_any}
use Rattle.std.proofs.lemmas.List.{at_drop_more, at_drop_all, map-append}
use Rattle.spec_exchange.specs.State as model
use Rattle.spec_exchange.specs.Table.{is_at}
use Rattle.spec_exchange.specs.Files.{root, exists, exists_in, info_of, is_full_directory}
use Rattle.spec_exchange.specs.State.{ExpireRecord}
use Rattle.spec_exchange.specs.Opens.{opens_of, drop_open, goes, is_kept_back, gone_records, left_file_records, pending_behind}
use Rattle.spec_exchange.specs.Step.{expire_records}
use Rattle.law_server.specs.tables.Fits.{Fits}
use Rattle.journal_bytes.specs.record_bytes.Meaning.{record_of, records_of}
use Rattle.journal_bytes.specs.declared.record_bytes.value.Record.{Record}
use Rattle.store_files.specs.file_tree.Shown.{FileApart, model_info, path_at}
use Rattle.store_files.specs.declared.file_tree.row.Info.{Info}
use Rattle.law_records.specs.leaving_opens.Out.{channel_left}
use Rattle.law_records.specs.leaving_opens.Since.{OpensNumbered, AreOpensBelow, all_gone, parted_records}
use Rattle.law_records.proofs.leaving_opens.Full.{emptied, gone_or_full}
use Rattle.law_records.proofs.leaving_opens.Left.{begun, file_there}
use Rattle.server_effects.specs.declared.fates.Fate.{Fate}
use Rattle.server_effects.specs.Fates.{fate_of, removed_by, unmarked_by}
use Rattle.server_effects.proofs.Parted.{goes_is, unmarked_is, kept_apart}
use Rattle.server_effects.specs.declared.leaving_opens.leaving.Left.{Left}
use Rattle.server_effects.specs.declared.leaving_opens.leaving.Leaving.{Leaving}
use Rattle.server_effects.specs.leaving_opens.Left.{left_of, opens_left, marked_by, went_with, HasLeft}

-- ---- where memory may run out

pub on_ok_by : {T E P Q : Type 0} (r : Result T E) → OnOk r P → (P → Q) → OnOk r Q
on_ok_by (Ok x) p f = f p
on_ok_by (Err e) p f = tt

pub if_ok_by : {X Y : Type 0} {P Q : X → Type 0} (r : Result X Y) → IfOk r P → ((x : X) → P x → Q x) → IfOk r Q
if_ok_by (Ok x) p f = f x p
if_ok_by (Err y) p f = tt

-- ---- records

pub more_records : (old new : List Record) (r : Record) → new ≡ old ++ r ∷ [] → records_of new ≡ records_of old ++ record_of r ∷ []
more_records old new r e = ap (λ (v : List Record). map record_of v) e ∙ map-append record_of old (r ∷ [])

-- the records of an open that expires
parted_told : (s : model.Server) (origin : model.Origin) (f : ℕ) (fate : Fate) → fate ≡ fate_of (is_kept_back s f) (goes s f)
    → parted_records (unmarked_by fate) (removed_by fate) origin f ≡ left_file_records s origin f
unfolding left_file_records gone_records
parted_told s origin f fate e =
    ap (λ (x : Fate). parted_records (unmarked_by x) (removed_by x) origin f) e
    ∙ (ap (λ (b : Bool). parted_records b (removed_by (fate_of (is_kept_back s f) (goes s f))) origin f) (unmarked_is (is_kept_back s f) (goes s f))
    ∙ ap (λ (b : Bool). parted_records (is_kept_back s f) b origin f) (goes_is (is_kept_back s f) (goes s f) (kept_apart s f)))

pub expired_told : (s : model.Server) (origin : model.Origin) (o f : ℕ) (fate : Fate) (r0 r1 r2 : List model.Record) → r0 ≡ []
    → r1 ≡ r0 ++ ExpireRecord origin o ∷ [] → r2 ≡ r1 ++ parted_records (unmarked_by fate) (removed_by fate) origin f
    → fate ≡ fate_of (is_kept_back (drop_open (pending_behind s o) o) (s.opened o).file)
    (goes (drop_open (pending_behind s o) o) (s.opened o).file) → f ≡ (s.opened o).file → r2 ≡ expire_records s origin o
unfolding expire_records
expired_told s origin o f fate r0 r1 r2 none one more g e =
    more ∙ ap (λ (v : List model.Record). v ++ parted_records (unmarked_by fate) (removed_by fate) origin f) one
    ∙ ap (λ (v : List model.Record). (v ++ ExpireRecord origin o ∷ []) ++ parted_records (unmarked_by fate) (removed_by fate) origin f) none
    ∙ ap (λ (z : ℕ). ExpireRecord origin o ∷ parted_records (unmarked_by fate) (removed_by fate) origin z) e
    ∙ ap (λ (v : List model.Record). ExpireRecord origin o ∷ v)
    (parted_told (drop_open (pending_behind s o) o) origin (s.opened o).file fate g)

-- ---- before any open leaves

pub none_at : (l : Leaving) (s : model.Server) → l.files.entries ≡ [] → l.gone.keys ≡ [] → Fits s → HasLeft l s s
none_at l s e g i =
    begun (opens_left l) (marked_by l) (went_with l) s
    (λ f. ap (λ (es : List (ℕ × Left)). (left_of (lookup (nat_eq f) es)).opens) e)
    (λ f. ap (λ (es : List (ℕ × Left)). (left_of (lookup (nat_eq f) es)).pending) e)
    (λ f. ap (λ (ks : List ℕ). list_any (nat_eq f) ks) g) i

-- ---- directories

numbers : (es : List model.Entry) (f : ℕ) → path_at es f ≡ None → exists_in es f ≡ false
unfolding path_at exists_in
numbers [] f h = refl
numbers (e ∷ es) f h = by (e.file == f) h (λ i. numbers es f i)
  where
    by : (b : Bool) → (if b then Some e.path else path_at es f) ≡ None → (path_at es f ≡ None → exists_in es f ≡ false)
        → (if b then true else exists_in es f) ≡ false
    by true i old = absurd (cc)
    by false i old = old i

pub numbered : (es : List model.Entry) → FileApart es → OpensNumbered es
numbered [] a = tt
numbered (e ∷ es) a = (numbers es e.file a.1, numbered es a.2)

pub empty_yet : (l : Leaving) (s u : model.Server) (f : ℕ) → HasLeft l s u → exists u f ≡ true → (f == root) ≡ false
    → is_full_directory s f ≡ false → true ≡ not (is_full_directory u f)
empty_yet l s u f a there below h =
    sym (ap (λ (b : Bool). not b) (emptied (opens_left l) (marked_by l) (went_with l) s u f a there below h))

pub empty_now : (l : Leaving) (s u : model.Server) (f : ℕ) (fs : List ℕ) (b : Bool) → HasLeft l s u → exists u f ≡ true
    → (f == root) ≡ false → OpensNumbered s.entries → is_full_directory s f ≡ true → AreOpensBelow s f fs → b ≡ all_gone (went_with l) fs
    → b ≡ not (is_full_directory u f)
empty_now l s u f fs b a there below n full are e =
    e ∙ gone_or_full (opens_left l) (marked_by l) (went_with l) s u f fs a there below n full are

pub all_gone_more : (went : ℕ → Bool) (fs : List ℕ) (i : ℕ) → i < length fs → went (get_or fs i 0) ≡ true
    → all_gone went (drop (i + 1) fs) ≡ all_gone went (drop i fs)
unfolding all_gone
all_gone_more went fs i h e =
    ap (λ (b : Bool). b && all_gone went (drop (i + 1) fs)) (sym e) ∙ sym (at_drop_more (λ (v : List ℕ). all_gone went v) fs i 0 h)

pub all_gone_off : (went : ℕ → Bool) (fs : List ℕ) (i : ℕ) → i < length fs → went (get_or fs i 0) ≡ false
    → false ≡ all_gone went (drop i fs)
unfolding all_gone
all_gone_off went fs i h e =
    ap (λ (b : Bool). b && all_gone went (drop (i + 1) fs)) (sym e) ∙ sym (at_drop_more (λ (v : List ℕ). all_gone went v) fs i 0 h)

pub all_gone_end : (went : ℕ → Bool) (fs : List ℕ) (i : ℕ) → length fs ≤ i → true ≡ all_gone went (drop i fs)
unfolding all_gone
all_gone_end went fs i h = sym (at_drop_all (λ (v : List ℕ). all_gone went v) fs i h)

-- ---- what becomes of a file

pub full_there : (d : Bool) → not d ≡ false → d ≡ true
full_there true e = refl
full_there false e = absurd (cc)

pub many : (count n : ℕ) → count ≡ n → 1 < count → nat_le n (0 + 1) ≡ false
many count n e l = grind (arith, nat_tests)

pub few : (count n : ℕ) → count ≡ n → count ≤ 1 → nat_le n (0 + 1) ≡ true
few count n e l = grind (arith, nat_tests)

-- ---- delete pending

pub info_marked : (i : Info) (s : model.Server) (f : ℕ) → model_info i ≡ info_of s f → i.marked ≡ s.delete_pending f
unfolding info_of
info_marked i s f e = ap (λ (x : model.Info). x.is_delete_pending) e

pub marked_first : (m p x : Bool) → m ≡ true → m ≡ p → m ≡ (p || x)
marked_first m p x e h = e ∙ ap (λ (b : Bool). b || x) (sym e ∙ h)

pub marked_last : (m p r x : Bool) → m ≡ false → m ≡ p → r ≡ x → r ≡ (p || x)
marked_last m p r x e h i = i ∙ ap (λ (b : Bool). b || x) (sym e ∙ h)

-- ---- maps and sets

flip : (k q : ℕ) → (k == q) ≡ (q == k)
flip k q = grind arith

pub left_put : {X : Type 0} (k q : ℕ) (w v : X) → (if k == q then w else v) ≡ (if q == k then w else v)
left_put k q w v = ap (λ (b : Bool). if b then w else v) (flip k q)

pub none_put : (goes b x : Bool) → goes ≡ false → x ≡ (if b then goes || x else x)
none_put goes true x e = ap (λ (g : Bool). g || x) (sym e)
none_put goes false x e = refl

pub gone_put : (k q : ℕ) (goes r x : Bool) → goes ≡ true → r ≡ (if k == q then true else x) → r ≡ (if q == k then goes || x else x)
gone_put k q goes r x g e = e ∙ left_put k q true x ∙ ap (λ (d : Bool). if q == k then d || x else x) (sym g)

-- ---- channels

pub few_on : (n m x : ℕ) → n ≡ m → n ≤ 1 → Some x ≡ (if nat_le m 1 then Some x else None)
few_on n m x e l =
    let t : nat_le m 1 ≡ true = grind (arith, nat_tests) in ap (λ (b : Bool). if b then Some x else None) (sym t)

pub few_off : (n m x : ℕ) → n ≡ m → 1 < n → None ≡ (if nat_le m 1 then Some x else None)
few_off n m x e l =
    let t : nat_le m 1 ≡ false = grind (arith, nat_tests) in ap (λ (b : Bool). if b then Some x else None) (sym t)

pub channel_is : (lost r : Bool) (x n : ℕ) (o : Option ℕ) (d : Bool) → lost ≡ false → r ≡ d → r ≡ is_at x o
    → n ≡ (if d then 1 else 0) → n ≡ channel_left lost x o
channel_is lost r x n o d h i e k =
    k ∙ ap (λ (b : Bool). if b then 1 else 0) (sym i ∙ e) ∙ ap (λ (b : Bool). if not b && is_at x o then 1 else 0) (sym h)

-- ---- the file of a row

pub row_there : (l : Leaving) (s u : model.Server) (o : ℕ) (row : model.Open) → HasLeft l s u → u.standing o ≡ true → s.opened o ≡ row
    → (exists u row.file ≡ true) × (exists s row.file ≡ true) × (opens_left l row.file + 1 ≤ length (opens_of s row.file))
row_there l s u o row a stands e =
    subst (λ (r : model.Open). (exists u r.file ≡ true) × (exists s r.file ≡ true) × (opens_left l r.file + 1 ≤ length (opens_of s r.file)))
    e (file_there (opens_left l) (marked_by l) (went_with l) s u o a stands)
