-- What a record changes, of states that are alike.
use Rattle.std.proofs.Common.{◌≡◌, ℕ, ◌+◌, ◌==◌, nat_lt, nat_le, Bool, true, false, not, ◌&&◌, ◌||◌, if◌then◌else◌, List, [], ◌∷◌, ◌++◌, length}
use Rattle.std.proofs.Common.{Option, Some, None, refl, sym, ap, subst, ◌∙◌, arith}
use Rattle.spec_exchange.specs.Table.{put, put2}
use Rattle.spec_exchange.specs.Status.{success}
use Rattle.spec_exchange.specs.Content.{written, ended, is_empty}
use Rattle.spec_exchange.specs.Commands.{Basic, Element, all_lock, all_unlock, deletes_on_close}
use Rattle.spec_exchange.specs.State.{Server, Entry, Kept, NewOpen, Record, EpochRecord, CreateRecord, WriteRecord, EndRecord, BasicRecord}
use Rattle.spec_exchange.specs.State.{DeleteRecord, RenameRecord, RemoveRecord, LockRecord, CloseRecord, VersionRecord, ExpireRecord}
use Rattle.spec_exchange.specs.Files.{root, exists, exists_in, is_directory, find, path_of, passes_room, touched, emptied_basic, make_file, set_content}
use Rattle.spec_exchange.specs.Files.{empty_file, store_basic, set_delete_pending, remove_file, rename_file, without_target, without_file, moved_entries}
use Rattle.spec_exchange.specs.Ranges.{RangeAnswer, Stands, Denied, change_ranges}
use Rattle.spec_exchange.specs.Opens.{drop_open, without_gone, goes, pending_behind}
use Rattle.spec_exchange.specs.Effects.{keep_slot}
use Rattle.spec_exchange.specs.CheckOpen.{is_slot, file_of, target_of}
use Rattle.spec_exchange.specs.Step.{add_expired_guid, max_expired_guids}
use Rattle.spec_exchange.specs.Fold.{fold_from, with_record, sweep, restore, created_file, may_create, may_have_open, is_file}
use Rattle.spec_exchange.specs.Fold.{may_rename, may_remove, lock_granted, lock_recorded, shut_recorded}
use Rattle.law_server.proofs.tables.Logic.{front_of}
use Rattle.law_server.proofs.tables.Lists.{exists-pushed, exists-without, exists-moved}
use Rattle.law_snapshots.specs.behind.Alike.{RecordAlike}
use Rattle.law_snapshots.proofs.behind.Guards.{over, of_over, and_same, file_same, room_same, goes_same, create_same, open_same, remove_same}
use Rattle.law_snapshots.proofs.behind.Guards.{rename_same, plain_entry, file_entry, there_of_entry}

same_exists : (d : Server) (D P : ℕ → Bool) (B : ℕ → Basic) (C W : ℕ → List ℕ) (L : ℕ → ℕ → Option Kept) (f : ℕ) → exists (over d D P B C W L) f ≡ exists d f
unfolding exists
same_exists d D P B C W L f = refl

same_find : (d : Server) (D P : ℕ → Bool) (B : ℕ → Basic) (C W : ℕ → List ℕ) (L : ℕ → ℕ → Option Kept) (path : List ℕ) → find (over d D P B C W L) path ≡ find d path
unfolding find
same_find d D P B C W L [] = refl
same_find d D P B C W L (c ∷ cs) = refl

only_there : (m e n i j k : Bool) → i ≡ false → j ≡ false → (if i then m else if j then e else if k then e && n else false) ≡ true
    → (e && n) ≡ true
only_there m e n true j k p q h = absurd (cc)
only_there m e n false true k p q h = absurd (cc)
only_there m e n false false true p q h = h
only_there m e n false false false p q h = absurd (cc)

alike_if : (b c : Bool) (x y u v : Server) → c ≡ b → (b ≡ true → RecordAlike x y) → (b ≡ false → RecordAlike u v)
    → RecordAlike (if b then x else u) (if c then y else v)
alike_if b c x y u v q h i = subst (λ (k : Bool). RecordAlike (if b then x else u) (if k then y else v)) (sym q) (by b h i)
  where
    by : (b : Bool) → (b ≡ true → RecordAlike x y) → (b ≡ false → RecordAlike u v) → RecordAlike (if b then x else u) (if b then y else v)
    by true h i = h refl
    by false h i = i refl

put_both : {X : Type 0} (c b : ℕ → X) (f g : ℕ) (x y : X) → y ≡ x → b g ≡ c g → put b f y g ≡ put c f x g
put_both c b f g x y e h = λ k. if g == f then e k else h k

put_at : {X : Type 0} (c b : ℕ → X) (f g : ℕ) (x : X) → ((g == f) ≡ false → b g ≡ c g) → put b f x g ≡ put c f x g
put_at c b f g x h = by (g == f) refl
  where
    by : (k : Bool) → (g == f) ≡ k → (if k then x else b g) ≡ (if k then x else c g)
    by true e = refl
    by false e = h e

one_of : (r b c : Bool) → (r || (b || c)) ≡ true → c ≡ false → (r || b) ≡ true
one_of true b c h e = refl
one_of false true c h e = refl
one_of false false c h e = absurd (cc)

one_in : (b c : Bool) → (b || c) ≡ true → c ≡ false → b ≡ true
one_in true c h e = refl
one_in false c h e = absurd (cc)

both_of : (r b c : Bool) → (b ≡ true → c ≡ true) → (r || b) ≡ true → (r || c) ≡ true
both_of true b c h i = refl
both_of false b c h i = h i

put2_both : (c b : ℕ → ℕ → Option Kept) (o i p q : ℕ) (x : Option Kept) → b p q ≡ c p q → put2 b o i x p q ≡ put2 c o i x p q
put2_both c b o i p q x h = λ k. if p == o then (if q == i then x else h k) else h k

put_slots : (c b : ℕ → ℕ → Option Kept) (o p q : ℕ) (v : ℕ → Option Kept) → b p q ≡ c p q → put b o v p q ≡ put c o v p q
put_slots c b o p q v h = by (p == o)
  where
    by : (k : Bool) → (if k then v else b p) q ≡ (if k then v else c p) q
    by true = refl
    by false = h

module _ (d : Server) (D P : ℕ → Bool) (B : ℕ → Basic) (C W : ℕ → List ℕ) (L : ℕ → ℕ → Option Kept) (a : RecordAlike d (over d D P B C W L)) where
  content_alike : (f : ℕ) (w : List ℕ → List ℕ) (time : ℕ) → exists_in d.entries f ≡ true
      → RecordAlike (set_content d f (w (d.content f)) time) (set_content (over d D P B C W L) f (w (C f)) time)
  unfolding exists
  content_alike f w time there = record {
    is = refl;
    basic = λ g h. put_both d.basic B f g _ _
        (ap (λ (b : Basic). touched b time) (a.basic f (there_of_entry d D P B C W L a f there))) (a.basic g h);
    at = λ g h. record {
      directory = (a.at g h).directory;
      delete_pending = (a.at g h).delete_pending;
      content = put_both d.content C f g _ _ (ap w (a.at f there).content) (a.at g h).content;
    };
    slots = a.slots;
  }

  emptied_alike : (f attributes time : ℕ) → exists_in d.entries f ≡ true
      → RecordAlike (empty_file d f attributes time) (empty_file (over d D P B C W L) f attributes time)
  unfolding exists
  emptied_alike f attributes time there = record {
    is = refl;
    basic = λ g h. put_both d.basic B f g _ _
        (ap (λ (b : Basic). emptied_basic b attributes time) (a.basic f (there_of_entry d D P B C W L a f there))) (a.basic g h);
    at = λ g h. record {
      directory = (a.at g h).directory;
      delete_pending = (a.at g h).delete_pending;
      content = put_both d.content C f g [] [] refl (a.at g h).content;
    };
    slots = a.slots;
  }

  stored_alike : (f : ℕ) (b : Basic) → RecordAlike (store_basic d f b) (store_basic (over d D P B C W L) f b)
  unfolding exists
  stored_alike f b = record { is = refl; basic = λ g h. put_both d.basic B f g b b refl (a.basic g h); at = a.at; slots = a.slots }

  pending_alike : (f : ℕ) (b : Bool) → RecordAlike (set_delete_pending d f b) (set_delete_pending (over d D P B C W L) f b)
  unfolding exists
  pending_alike f b = record {
    is = refl;
    basic = a.basic;
    at = λ g h. record {
      directory = (a.at g h).directory;
      delete_pending = put_both d.delete_pending P f g b b refl (a.at g h).delete_pending;
      content = (a.at g h).content;
    };
    slots = a.slots;
  }

  abbrev next_entry : List ℕ → Entry
  next_entry path = record { file = d.next_file; path = path }

  older : (path : List ℕ) (g : ℕ) → ((g == root) || exists_in (d.entries ++ next_entry path ∷ []) g) ≡ true → (g == d.next_file) ≡ false
      → exists d g ≡ true
  unfolding exists
  older path g h e =
      let off : (d.next_file == g) ≡ false = grind arith in
      one_of (g == root) (exists_in d.entries g) (d.next_file == g)
      (subst (λ (b : Bool). ((g == root) || b) ≡ true) (exists-pushed d.entries (next_entry path) g) h) off

  older_in : (path : List ℕ) (g : ℕ) → exists_in (d.entries ++ next_entry path ∷ []) g ≡ true → (g == d.next_file) ≡ false
      → exists_in d.entries g ≡ true
  older_in path g h e =
      let off : (d.next_file == g) ≡ false = grind arith in
      one_in (exists_in d.entries g) (d.next_file == g) (sym (exists-pushed d.entries (next_entry path) g) ∙ h) off

  made_alike : (path : List ℕ) (is_dir : Bool) (attributes time : ℕ)
      → RecordAlike (make_file d path is_dir attributes time) (make_file (over d D P B C W L) path is_dir attributes time)
  unfolding exists
  made_alike path is_dir attributes time = record {
    is = refl;
    basic = λ g h. put_at d.basic B d.next_file g _ (λ e. a.basic g (older path g h e));
    at = λ g h. record {
      directory = put_at d.directory D d.next_file g is_dir (λ e. (a.at g (older_in path g h e)).directory);
      delete_pending = put_at d.delete_pending P d.next_file g false (λ e. (a.at g (older_in path g h e)).delete_pending);
      content = put_at d.content C d.next_file g [] (λ e. (a.at g (older_in path g h e)).content);
    };
    slots = a.slots;
  }

  still_in : (f g : ℕ) → exists_in (without_file f d.entries) g ≡ true → exists_in d.entries g ≡ true
  still_in f g i = before (f == g) (sym (exists-without f d.entries g) ∙ i)
    where
      before : {x : Bool} (b : Bool) → (if b then false else x) ≡ true → x ≡ true
      before true i = absurd (cc)
      before false i = i

  removed_alike : (f : ℕ) → RecordAlike (remove_file d f) (remove_file (over d D P B C W L) f)
  unfolding exists
  removed_alike f = record {
    is = refl;
    basic = λ g h. a.basic g (both_of (g == root) (exists_in (without_file f d.entries) g) (exists_in d.entries g) (still_in f g) h);
    at = λ g h. a.at g (still_in f g h);
    slots = a.slots;
  }

  pub gone_alike : (f : ℕ) → RecordAlike (without_gone d f) (without_gone (over d D P B C W L) f)
  gone_alike f = alike_if (goes d f) (goes (over d D P B C W L) f) _ _ _ _ (goes_same d D P B C W L a f) (λ _. removed_alike f) (λ _. a)

  target_before : (o : Option ℕ) (g : ℕ) → exists_in (without_target o d.entries) g ≡ true → exists_in d.entries g ≡ true
  unfolding without_target
  target_before None g h = h
  target_before (Some t) g h = before (t == g) (sym (exists-without t d.entries g) ∙ h)
    where
      before : {x : Bool} (b : Bool) → (if b then false else x) ≡ true → x ≡ true
      before true i = absurd (cc)
      before false i = i

  renamed_alike : (f : ℕ) (o : Option ℕ) (path : List ℕ) → RecordAlike (rename_file d f o path) (rename_file (over d D P B C W L) f o path)
  unfolding exists path_of
  renamed_alike f o path =
      let back : (g : ℕ) → exists_in (moved_entries (path_of d f) path (without_target o d.entries)) g ≡ true → exists_in d.entries g ≡ true =
      λ g i. target_before o g (sym (exists-moved (path_of d f) path (without_target o d.entries) g) ∙ i) in
      record {
        is = refl;
        basic = λ g h. a.basic g (both_of (g == root) _ (exists_in d.entries g) (back g) h);
        at = λ g h. a.at g (back g h);
        slots = a.slots;
      }

  kept_alike : (o index number status : ℕ) → RecordAlike (keep_slot d o index number status) (keep_slot (over d D P B C W L) o index number status)
  unfolding exists
  kept_alike o index number status = alike_if (is_slot index) (is_slot index) _ _ _ _ refl (λ _. record {
    is = refl;
    basic = a.basic;
    at = a.at;
    slots = λ p i l m. put2_both d.lock_sequences L o index p i (Some (record { number = number; status = status })) (a.slots p i l m);
  }) (λ _. a)

  dropped_alike : (o : ℕ) → RecordAlike (drop_open d o) (drop_open (over d D P B C W L) o)
  unfolding exists
  dropped_alike o = record { is = refl; basic = a.basic; at = a.at; slots = a.slots }

  marked_alike : (c : ℕ) (g : Option ℕ) → RecordAlike (add_expired_guid d c g) (add_expired_guid (over d D P B C W L) c g)
  unfolding exists
  marked_alike c None = a
  marked_alike c (Some g) = record { is = refl; basic = a.basic; at = a.at; slots = a.slots }

  restored_alike : (f action : ℕ) (n : Option NewOpen) → RecordAlike (restore d f action n) (restore (over d D P B C W L) f action n)
  unfolding exists
  restored_alike f action None = a
  restored_alike f action (Some n) = record {
    is = refl;
    basic = a.basic;
    at = a.at;
    slots = λ p i l m. put_slots d.lock_sequences L n.id p i (λ j. None) (a.slots p i l m);
  }

  renumbered_alike : (epoch : ℕ) → RecordAlike (record d { epoch = epoch; open_ids_given = 0; session_ids_given = 0 })
      (record (over d D P B C W L) { epoch = epoch; open_ids_given = 0; session_ids_given = 0 })
  unfolding exists
  renumbered_alike epoch = record { is = refl; basic = a.basic; at = a.at; slots = a.slots }

  versioned_alike : RecordAlike (record d { version = 2 }) (record (over d D P B C W L) { version = 2 })
  unfolding exists
  versioned_alike = record { is = refl; basic = a.basic; at = a.at; slots = a.slots }

  granted_alike : (o index number : ℕ) (r : RangeAnswer)
      → RecordAlike (lock_granted d o index number r) (lock_granted (over d D P B C W L) o index number r)
  unfolding exists
  granted_alike o index number (Denied status) = a
  granted_alike o index number (Stands ranges) = alike_if (is_slot index) (is_slot index) _ _ _ _ refl
      (λ _. record {
        is = refl;
        basic = a.basic;
        at = a.at;
        slots = λ p i l m. put2_both d.lock_sequences L o index p i (Some (record { number = number; status = success })) (a.slots p i l m);
      }) (λ _. record { is = refl; basic = a.basic; at = a.at; slots = a.slots })

  locked_alike : (o index number status : ℕ) (es : List Element)
      → RecordAlike (lock_recorded d o index number status es) (lock_recorded (over d D P B C W L) o index number status es)
  locked_alike o index number status es =
      alike_if (not (all_lock es || all_unlock es)) (not (all_lock es || all_unlock es)) _ _ _ _ refl (λ _. a)
      (λ _. alike_if (status == success) (status == success) _ _ _ _ refl
      (λ _. granted_alike o index number (change_ranges (d.ranges (file_of d o)) o es)) (λ _. kept_alike o index number status))

  behind_alike : (o : ℕ) → RecordAlike (pending_behind d o) (pending_behind (over d D P B C W L) o)
  behind_alike o = alike_if (deletes_on_close (d.opened o).options) (deletes_on_close (d.opened o).options) _ _ _ _ refl
      (λ _. pending_alike (d.opened o).file true) (λ _. a)

  there_of : (action f : ℕ) (path : List ℕ) → (action == 2) ≡ false → (action == 1) ≡ false → may_create d action f path ≡ true
      → exists_in d.entries f ≡ true
  unfolding may_create exists is_directory
  there_of action f path p q h = plain_entry (f == root) (exists_in d.entries f) (d.directory f)
      (only_there _ _ _ (action == 2) (action == 1) (nat_lt action 4) p q h)

  created_alike : (action f : ℕ) (path : List ℕ) (attributes : ℕ) (is_dir : Bool) (time : ℕ) → may_create d action f path ≡ true
      → RecordAlike (created_file d action f path attributes is_dir time) (created_file (over d D P B C W L) action f path attributes is_dir time)
  created_alike action f path attributes is_dir time h =
      alike_if (action == 2) (action == 2) _ _ _ _ refl (λ _. made_alike path is_dir attributes time)
      (λ p. alike_if (action == 1) (action == 1) _ _ _ _ refl (λ _. a)
      (λ q. emptied_alike f attributes time (there_of action f path p q h)))

-- ---- of all that are alike

gone : (d e : Server) → RecordAlike d e → (f : ℕ) → RecordAlike (without_gone d f) (without_gone e f)
gone = of_over (λ d e. (f : ℕ) → RecordAlike (without_gone d f) (without_gone e f)) gone_alike

swept : (d e : Server) (es : List Entry) → RecordAlike d e → RecordAlike (sweep d es) (sweep e es)
unfolding sweep
swept d e [] a = a
swept d e (x ∷ xs) a = swept (without_gone d x.file) (without_gone e x.file) xs (gone d e a x.file)

renumbered : (d e : Server) → RecordAlike d e → (epoch : ℕ) → RecordAlike (record d { epoch = epoch; open_ids_given = 0; session_ids_given = 0 })
    (record e { epoch = epoch; open_ids_given = 0; session_ids_given = 0 })
renumbered = of_over (λ d e. (epoch : ℕ) → RecordAlike (record d { epoch = epoch; open_ids_given = 0; session_ids_given = 0 })
    (record e { epoch = epoch; open_ids_given = 0; session_ids_given = 0 })) renumbered_alike

dropped : (d e : Server) → RecordAlike d e → (o : ℕ) → RecordAlike (drop_open d o) (drop_open e o)
dropped = of_over (λ d e. (o : ℕ) → RecordAlike (drop_open d o) (drop_open e o)) dropped_alike

marked : (d e : Server) → RecordAlike d e → (c : ℕ) (g : Option ℕ) → RecordAlike (add_expired_guid d c g) (add_expired_guid e c g)
marked = of_over (λ d e. (c : ℕ) (g : Option ℕ) → RecordAlike (add_expired_guid d c g) (add_expired_guid e c g)) marked_alike

restored : (d e : Server) → RecordAlike d e → (f action : ℕ) (n : Option NewOpen) → RecordAlike (restore d f action n) (restore e f action n)
restored = of_over (λ d e. (f action : ℕ) (n : Option NewOpen) → RecordAlike (restore d f action n) (restore e f action n)) restored_alike

module _ (d : Server) (D P : ℕ → Bool) (B : ℕ → Basic) (C W : ℕ → List ℕ) (L : ℕ → ℕ → Option Kept) (a : RecordAlike d (over d D P B C W L)) where
  shut_alike : (o : ℕ) → RecordAlike (shut_recorded d o) (shut_recorded (over d D P B C W L) o)
  shut_alike o = dropped (pending_behind d o) (pending_behind (over d D P B C W L) o) (behind_alike d D P B C W L a o) o

  there_is : (f : ℕ) → is_file d f ≡ true → exists_in d.entries f ≡ true
  there_is f h = file_entry d D P B C W L a f h

  step_alike : (r : Record) → RecordAlike (with_record d r) (with_record (over d D P B C W L) r)
  step_alike (EpochRecord number) = alike_if (number == d.epoch + 1) (number == d.epoch + 1) _ _ _ _ refl
      (λ _. renumbered (sweep d d.entries) (sweep (over d D P B C W L) d.entries) (swept d (over d D P B C W L) d.entries a) number) (λ _. a)
  step_alike (VersionRecord number) = alike_if ((number == 2) && (d.version == 1)) ((number == 2) && (d.version == 1)) _ _ _ _ refl
      (λ _. versioned_alike d D P B C W L a) (λ _. a)
  step_alike (CreateRecord origin action f path attributes is_dir time opened) =
      let c = create_same d D P B C W L a action f path in let o = open_same d D P B C W L a opened in
      alike_if (may_create d action f path && may_have_open d opened)
      (may_create (over d D P B C W L) action f path && may_have_open (over d D P B C W L) opened) _ _ _ _ (λ k. c k && o k)
      (λ h. restored (created_file d action f path attributes is_dir time) (created_file (over d D P B C W L) action f path attributes is_dir time)
      (created_alike d D P B C W L a action f path attributes is_dir time (front_of (may_create d action f path) _ h)) f action opened) (λ _. a)
  step_alike (WriteRecord origin f at time bytes) =
      let p = file_same d D P B C W L a f in
      alike_if (is_file d f && (not (is_empty bytes) && not (passes_room d f (at + length bytes))))
      (is_file (over d D P B C W L) f && (not (is_empty bytes) && not (passes_room (over d D P B C W L) f (at + length bytes)))) _ _ _ _
      (ap (λ (b : Bool). b && (not (is_empty bytes) && not (passes_room (over d D P B C W L) f (at + length bytes)))) p
      ∙ and_same (is_file d f) _ _ (λ h. ap (λ (b : Bool). not (is_empty bytes) && not b) (room_same d D P B C W L a f (at + length bytes) (there_is f h))))
      (λ h. content_alike d D P B C W L a f (λ (c : List ℕ). written at bytes c) time (there_is f (front_of (is_file d f) _ h))) (λ _. a)
  step_alike (EndRecord origin f size time) =
      let p = file_same d D P B C W L a f in
      alike_if (is_file d f && not (passes_room d f size)) (is_file (over d D P B C W L) f && not (passes_room (over d D P B C W L) f size)) _ _ _ _
      (ap (λ (b : Bool). b && not (passes_room (over d D P B C W L) f size)) p
      ∙ and_same (is_file d f) _ _ (λ h. ap (λ (b : Bool). not b) (room_same d D P B C W L a f size (there_is f h))))
      (λ h. content_alike d D P B C W L a f (λ (c : List ℕ). ended size c) time (there_is f (front_of (is_file d f) _ h))) (λ _. a)
  step_alike (BasicRecord origin f basic) = alike_if (exists d f) (exists (over d D P B C W L) f) _ _ _ _ (same_exists d D P B C W L f)
      (λ _. stored_alike d D P B C W L a f basic) (λ _. a)
  step_alike (DeleteRecord origin f flag) = alike_if (exists d f && not (f == root)) (exists (over d D P B C W L) f && not (f == root)) _ _ _ _
      (ap (λ (b : Bool). b && not (f == root)) (same_exists d D P B C W L f)) (λ _. pending_alike d D P B C W L a f flag) (λ _. a)
  step_alike (RenameRecord origin f replaced path) = alike_if (may_rename d f replaced path) (may_rename (over d D P B C W L) f replaced path) _ _ _ _
      (rename_same d D P B C W L a f replaced path)
      (λ _. subst (λ (o : Option ℕ). RecordAlike (rename_file d f (target_of f (find d path)) path) (rename_file (over d D P B C W L) f o path))
      (sym (ap (λ (o : Option ℕ). target_of f o) (same_find d D P B C W L path))) (renamed_alike d D P B C W L a f (target_of f (find d path)) path)) (λ _. a)
  step_alike (RemoveRecord origin f) = alike_if (may_remove d f) (may_remove (over d D P B C W L) f) _ _ _ _ (remove_same d D P B C W L a f)
      (λ _. removed_alike d D P B C W L a f) (λ _. a)
  step_alike (LockRecord origin o index number status elements) = alike_if (d.standing o && nat_le index 64) (d.standing o && nat_le index 64) _ _ _ _
      refl (λ _. locked_alike d D P B C W L a o index number status elements) (λ _. a)
  step_alike (CloseRecord origin o) = alike_if (d.standing o) (d.standing o) _ _ _ _ refl (λ _. shut_alike o) (λ _. a)
  step_alike (ExpireRecord origin o) =
      alike_if (d.standing o && nat_lt d.expired_count max_expired_guids) (d.standing o && nat_lt d.expired_count max_expired_guids) _ _ _ _ refl
      (λ _. marked (shut_recorded d o) (shut_recorded (over d D P B C W L) o) (shut_alike o) (d.opened o).client_guid (d.opened o).create_guid) (λ _. a)

pub steps_alike : (d e : Server) → RecordAlike d e → (r : Record) → RecordAlike (with_record d r) (with_record e r)
steps_alike = of_over (λ d e. (r : Record) → RecordAlike (with_record d r) (with_record e r)) step_alike

pub folds_alike : (d e : Server) (rs : List Record) → RecordAlike d e → RecordAlike (fold_from d rs) (fold_from e rs)
unfolding fold_from
folds_alike d e [] a = a
folds_alike d e (r ∷ rs) a = folds_alike (with_record d r) (with_record e r) rs (steps_alike d e a r)
