-- What a record asks of a state before it changes anything: the same of states that are alike.
use Rattle.std.proofs.Common.{◌≡◌, ℕ, ◌+◌, ◌-◌, ◌==◌, nat_lt, nat_le, Bool, true, false, not, ◌&&◌, ◌||◌, if◌then◌else◌, List, [], ◌∷◌, length}
use Rattle.std.proofs.Common.{Option, Some, None, is_some, refl, sym, ap, subst, ◌∙◌, arith}
use Rattle.spec_exchange.specs.Commands.{Basic}
use Rattle.spec_exchange.specs.Texts.{same_name, is_path, parent_of, is_below}
use Rattle.spec_exchange.specs.State.{Server, Entry, Kept, NewOpen}
use Rattle.spec_exchange.specs.Files.{root, exists, exists_in, find, find_in, path_of, is_directory, is_found_directory, has_parent, has_below}
use Rattle.spec_exchange.specs.Files.{is_full_directory, sizes, used, passes_room}
use Rattle.spec_exchange.specs.Opens.{file_has_open, goes}
use Rattle.spec_exchange.specs.CheckOpen.{target_of}
use Rattle.spec_exchange.specs.Fold.{is_file, may_make, may_create, may_have_open, may_restore, may_replace, may_rename, may_remove, same_target}
use Rattle.law_server.proofs.tables.Logic.{front_of}
use Rattle.law_snapshots.specs.behind.Alike.{RecordAlike}

abbrev pub over : Server → (ℕ → Bool) → (ℕ → Bool) → (ℕ → Basic) → (ℕ → List ℕ) → (ℕ → List ℕ) → (ℕ → ℕ → Option Kept) → Server
over d D P B C W L = record d {
  directory = D;
  delete_pending = P;
  basic = B;
  content = C;
  stored = W;
  lock_sequences = L;
}

-- what holds of each state and one with other columns holds of all that are alike
pub of_over : (Q : Server → Server → Type 0)
    → ((d : Server) (D P : ℕ → Bool) (B : ℕ → Basic) (C W : ℕ → List ℕ) (L : ℕ → ℕ → Option Kept) → RecordAlike d (over d D P B C W L)
    → Q d (over d D P B C W L)) → (d e : Server) → RecordAlike d e → Q d e
of_over Q h d e a =
    subst (λ (x : Server). Q d x) (sym a.is)
    (h d e.directory e.delete_pending e.basic e.content e.stored e.lock_sequences (subst (λ (x : Server). RecordAlike d x) a.is a))

pub and_same : (x a b : Bool) → (x ≡ true → a ≡ b) → (x && a) ≡ (x && b)
and_same true a b h = h refl
and_same false a b h = refl

pub or_same : (r a b : Bool) → (r ≡ false → a ≡ b) → (r || a) ≡ (r || b)
or_same true a b h = refl
or_same false a b h = h refl

pub or_on : (b c : Bool) → c ≡ true → (b || c) ≡ true
or_on true c h = refl
or_on false c h = h

-- of what is there and no directory, so not the root
pub plain_entry : (r b c : Bool) → ((r || b) && not (r || c)) ≡ true → b ≡ true
plain_entry true b c h = absurd (cc)
plain_entry false b c h = front_of b (not c) h

-- a file that is found is there
found_in : (es : List Entry) (path : List ℕ) (f : ℕ) → find_in es path ≡ Some f → exists_in es f ≡ true
unfolding find_in exists_in
found_in [] path f h = absurd (cc)
found_in (e ∷ es) path f h = by (same_name e.path path) refl (found_in es path f)
  where
    some_same : (x y : ℕ) → Some x ≡ Some y → x ≡ y
    some_same x y h = cc

    by : (b : Bool) → same_name e.path path ≡ b → (find_in es path ≡ Some f → exists_in es f ≡ true)
        → (if e.file == f then true else exists_in es f) ≡ true
    by true q more =
        let k : e.file ≡ f = some_same e.file f (subst (λ (b : Bool). (if b then Some e.file else find_in es path) ≡ Some f) q h) in
        let z : (e.file == f) ≡ true = grind arith in rw z refl
    by false q more = later (e.file == f) (more (subst (λ (b : Bool). (if b then Some e.file else find_in es path) ≡ Some f) q h))
      where
        later : (b : Bool) → exists_in es f ≡ true → (if b then true else exists_in es f) ≡ true
        later true i = refl
        later false i = i

pub found_there : (d : Server) (path : List ℕ) (f : ℕ) → find d path ≡ Some f → exists d f ≡ true
unfolding find exists
found_there d [] f h = let k : f ≡ 0 = cc in let z : (f == root) ≡ true = grind arith in rw z refl
found_there d (c ∷ cs) f h = or_on (f == root) (exists_in d.entries f) (found_in d.entries (c ∷ cs) f h)

module _ (d : Server) (D P : ℕ → Bool) (B : ℕ → Basic) (C W : ℕ → List ℕ) (L : ℕ → ℕ → Option Kept) (a : RecordAlike d (over d D P B C W L)) where
  -- another file than the root that is there
  pub entry_of : (f : ℕ) → (f == root) ≡ false → exists d f ≡ true → exists_in d.entries f ≡ true
  unfolding exists
  entry_of f e h = subst (λ (b : Bool). (b || exists_in d.entries f) ≡ true) e h

  pub there_of_entry : (f : ℕ) → exists_in d.entries f ≡ true → exists d f ≡ true
  unfolding exists
  there_of_entry f h = or_on (f == root) (exists_in d.entries f) h

  pub file_entry : (f : ℕ) → is_file d f ≡ true → exists_in d.entries f ≡ true
  unfolding is_file exists is_directory
  file_entry f h = plain_entry (f == root) (exists_in d.entries f) (d.directory f) h

  pub dir_same : (f : ℕ) → exists d f ≡ true → is_directory (over d D P B C W L) f ≡ is_directory d f
  unfolding is_directory
  dir_same f h = or_same (f == root) (D f) (d.directory f) (λ e. (a.at f (entry_of f e h)).directory)

  pub file_same : (f : ℕ) → is_file (over d D P B C W L) f ≡ is_file d f
  unfolding is_file exists
  file_same f = and_same (exists d f) _ _ (λ h. ap (λ (b : Bool). not b) (dir_same f h))

  found_dir : (o : Option ℕ) → ((f : ℕ) → o ≡ Some f → exists d f ≡ true) → is_found_directory (over d D P B C W L) o ≡ is_found_directory d o
  unfolding is_found_directory
  found_dir None h = refl
  found_dir (Some f) h = dir_same f (h f refl)

  pub parent_same : (path : List ℕ) → has_parent (over d D P B C W L) path ≡ has_parent d path
  unfolding has_parent find
  parent_same path = found_dir (find d (parent_of path)) (found_there d (parent_of path))

  sizes_same : (es : List Entry) → ((f : ℕ) → exists_in es f ≡ true → C f ≡ d.content f) → sizes C es ≡ sizes d.content es
  unfolding sizes exists_in
  sizes_same [] h = refl
  sizes_same (e ∷ es) h =
      let here : C e.file ≡ d.content e.file = h e.file (let z : (e.file == e.file) ≡ true = grind arith in rw z refl) in
      let rest = sizes_same es (λ f i. h f (later (e.file == f) (exists_in es f) i)) in
      λ k. length (here k) + rest k
    where
      later : (b c : Bool) → c ≡ true → (if b then true else c) ≡ true
      later true c i = refl
      later false c i = i

  used_same : used (over d D P B C W L) ≡ used d
  unfolding used exists
  used_same = sizes_same d.entries (λ f h. (a.at f h).content)

  pub room_same : (f n : ℕ) → exists_in d.entries f ≡ true → passes_room (over d D P B C W L) f n ≡ passes_room d f n
  unfolding passes_room
  room_same f n h =
      let u = used_same in let c = (a.at f h).content in
      λ k. nat_lt d.room ((u k - length (c k)) + n) && nat_lt (length (c k)) n

  pub full_same : (f : ℕ) → exists d f ≡ true → is_full_directory (over d D P B C W L) f ≡ is_full_directory d f
  unfolding is_full_directory path_of
  full_same f h = ap (λ (b : Bool). b && has_below d.entries (path_of d f)) (dir_same f h)

  pub goes_same : (f : ℕ) → goes (over d D P B C W L) f ≡ goes d f
  unfolding goes exists file_has_open
  goes_same f = by (f == root) refl (exists d f) refl
    where
      at_root : (p r x : Bool) → r ≡ true → (p && (not r && x)) ≡ false
      at_root true true x h = refl
      at_root false true x h = refl
      at_root p false x h = absurd (cc)

      dead : (p r x b : Bool) → b ≡ false → (p && (r && (b && x))) ≡ false
      dead true true x false h = refl
      dead true false x false h = refl
      dead false r x false h = refl
      dead p r x true h = absurd (cc)

      by : (r : Bool) → (f == root) ≡ r → (b : Bool) → exists d f ≡ b → goes (over d D P B C W L) f ≡ goes d f
      by true e b h = at_root _ (f == root) _ e ∙ sym (at_root _ (f == root) _ e)
      by false e true h =
          let p = (a.at f (entry_of f e h)).delete_pending in let q = full_same f h in
          λ k. p k && (not (f == root) && (exists d f && (not (file_has_open d f) && not (q k))))
      by false e false h = dead _ _ _ (exists d f) h ∙ sym (dead _ _ _ (exists d f) h)

  pub make_same : (f : ℕ) (path : List ℕ) → may_make (over d D P B C W L) f path ≡ may_make d f path
  unfolding may_make find
  make_same f path =
      let p = parent_same path in
      λ k. (f == d.next_file) && (is_path path && (not (is_some (find d path)) && (p k && (nat_lt (length d.entries) 65536
      && nat_le d.next_file 0xffff_ffff_ffff_fffe))))

  pub create_same : (action f : ℕ) (path : List ℕ) → may_create (over d D P B C W L) action f path ≡ may_create d action f path
  unfolding may_create exists
  create_same action f path =
      let m = make_same f path in let n = and_same (exists d f) _ _ (λ h. ap (λ (b : Bool). not b) (dir_same f h)) in
      λ k. if action == 2 then m k else if action == 1 then exists d f else if nat_lt action 4 then n k else false

  pub open_same : (n : Option NewOpen) → may_have_open (over d D P B C W L) n ≡ may_have_open d n
  unfolding may_have_open may_restore
  open_same None = refl
  open_same (Some n) = refl

  replace_same : (o : Option ℕ) → ((f : ℕ) → o ≡ Some f → exists d f ≡ true) → may_replace (over d D P B C W L) o ≡ may_replace d o
  unfolding may_replace file_has_open
  replace_same None h = refl
  replace_same (Some t) h = ap (λ (b : Bool). not b && not (file_has_open d t)) (dir_same t (h t refl))

  pub remove_same : (f : ℕ) → may_remove (over d D P B C W L) f ≡ may_remove d f
  unfolding may_remove exists file_has_open
  remove_same f = and_same (exists d f) _ _ (λ h. ap (λ (b : Bool). not (f == root) && (not (file_has_open d f) && not b)) (full_same f h))

  target_there : (f : ℕ) (o : Option ℕ) → ((t : ℕ) → o ≡ Some t → exists d t ≡ true) → (t : ℕ) → target_of f o ≡ Some t → exists d t ≡ true
  target_there f None h t e = absurd (cc)
  target_there f (Some u) h t e = by (u == f) refl
    where
      by : (b : Bool) → (u == f) ≡ b → exists d t ≡ true
      by true q = absurd (let z : None ≡ Some t = subst (λ (b : Bool). (if b then None else Some u) ≡ Some t) q e in cc)
      by false q = h t (subst (λ (b : Bool). (if b then None else Some u) ≡ Some t) q e)

  pub rename_same : (f replaced : ℕ) (path : List ℕ) → may_rename (over d D P B C W L) f replaced path ≡ may_rename d f replaced path
  unfolding may_rename exists find path_of
  rename_same f replaced path = and_same (exists d f) _ _ (λ h.
      let p = parent_same path in let q = dir_same f h in
      let r = replace_same (target_of f (find d path)) (target_there f (find d path) (found_there d path)) in
      λ k. not (f == root) && (is_path path && (p k && (not (q k && is_below (path_of d f) path)
      && (same_target (target_of f (find d path)) replaced && r k)))))
