-- Of the files a new epoch takes those alone that are delete pending and have no open.
use Rattle.std.proofs.Common.{◌≡◌, ◌≢◌, ℕ, ◌+◌, ◌==◌, Bool, true, false, not, ◌&&◌, List, [], ◌∷◌, refl, arith, sym, subst, ◌∙◌}
use Rattle.spec_exchange.specs.State.{Server, Entry, VersionRecord, EpochRecord}
use Rattle.spec_exchange.specs.Files.{root, exists, exists_in, path_in, is_full_directory, remove_file, without_file}
use Rattle.spec_exchange.specs.Opens.{file_has_open, goes, without_gone}
use Rattle.spec_exchange.specs.Fold.{fold_from, sweep, begin_epoch, set_version, epoch_records}
use Rattle.law_server.proofs.tables.Logic.{either}

exists_cut : (es : List Entry) (f : ℕ) → exists_in (without_file f es) f ≡ false
unfolding exists_in without_file
exists_cut [] f = refl
exists_cut (e ∷ es) f = let rest = exists_cut es f in grind arith

exists_rest : (es : List Entry) (f g : ℕ) → g ≢ f → exists_in (without_file f es) g ≡ exists_in es g
unfolding exists_in without_file
exists_rest [] f g n = refl
exists_rest (e ∷ es) f g n = let rest = exists_rest es f g n in grind arith

path_rest : (es : List Entry) (f g : ℕ) → g ≢ f → path_in (without_file f es) g ≡ path_in es g
unfolding path_in without_file
path_rest [] f g n = refl
path_rest (e ∷ es) f g n = let rest = path_rest es f g n in grind arith

-- a file that is there behind it was there, at the same path
abbrev pub Left : Server → Server → Type 0
Left s u = (g : ℕ) → exists_in u.entries g ≡ true → exists_in s.entries g ≡ true × path_in u.entries g ≡ path_in s.entries g

apart_of : (es : List Entry) (f g : ℕ) → exists_in (without_file f es) g ≡ true → g ≢ f
apart_of es f g e q = cc (exists_cut es f, subst (λ x. exists_in (without_file f es) x ≡ true) q e)

left_gone : (s u : Server) (f : ℕ) → Left s u → Left s (without_gone u f)
left_gone s u f h =
    either (λ x. Left s x) (goes u f) (remove_file u f) u
    (λ _ g e. let n = apart_of u.entries f g e in let old = h g (sym (exists_rest u.entries f g n) ∙ e) in
    (old.0, path_rest u.entries f g n ∙ old.1))
    (λ _. h)

left_swept : (s u : Server) (es : List Entry) → Left s u → Left s (sweep u es)
unfolding sweep
left_swept s u [] h = h
left_swept s u (e ∷ es) h = left_swept s (without_gone u e.file) es (left_gone s u e.file h)

left_epoch : (s u : Server) (number : ℕ) → Left s u → Left s (begin_epoch u number)
left_epoch s u number h = either (λ x. Left s x) (number == u.epoch + 1) (record (sweep u u.entries) {
  epoch = number;
  open_ids_given = 0;
  session_ids_given = 0;
}) u (λ _. left_swept s u u.entries h) (λ _. h)

left_version : (s u : Server) (number : ℕ) → Left s u → Left s (set_version u number)
left_version s u number h = either (λ x. Left s x) ((number == 2) && (u.version == 1)) (record u { version = 2 }) u (λ _. h) (λ _. h)

pub left_behind : (d s : Server) → Left d (fold_from d (epoch_records s))
unfolding fold_from
left_behind d s =
    let all : Left d d = λ g e. (e, refl) in
    either (λ rs. Left d (fold_from d rs)) (s.version == 1) (VersionRecord 2 ∷ EpochRecord (s.epoch + 1) ∷ [])
    (EpochRecord (s.epoch + 1) ∷ [])
    (λ _. left_epoch d (set_version d 2) (s.epoch + 1) (left_version d d 2 all))
    (λ _. left_epoch d d (s.epoch + 1) all)

-- a file that isn't delete pending, or has an open, stays
abbrev pub Stays : Server → ℕ → Type 0
Stays s g = (s.delete_pending g && not (file_has_open s g)) ≡ false

-- it stays there as it was
pub record Held (s u : Server) (g : ℕ) : Type 0 where
  pub there : exists_in u.entries g ≡ exists_in s.entries g
  pub still : Stays u g

goes_not : (m r e o u : Bool) → (m && not o) ≡ false → (m && (not r && (e && (not o && not u)))) ≡ false
goes_not m r e o u h = grind arith

never_goes : (s : Server) (g : ℕ) → Stays s g → goes s g ≡ false
unfolding goes
never_goes s g h = goes_not (s.delete_pending g) (g == root) (exists s g) (file_has_open s g) (is_full_directory s g) h

clash : (b : Bool) → b ≡ false → b ≡ true → ⊥
clash b e f = cc

held_gone : (s u : Server) (f g : ℕ) → Held s u g → Held s (without_gone u f) g
unfolding file_has_open
held_gone s u f g h =
    either (λ x. Held s x g) (goes u f) (remove_file u f) u
    (λ q. let n : g ≢ f = λ t. clash (goes u g) (never_goes u g h.still) (subst (λ x. goes u x ≡ true) (sym t) q) in
    record { there = exists_rest u.entries f g n ∙ h.there; still = h.still })
    (λ _. h)

held_swept : (s u : Server) (es : List Entry) (g : ℕ) → Held s u g → Held s (sweep u es) g
unfolding sweep
held_swept s u [] g h = h
held_swept s u (e ∷ es) g h = held_swept s (without_gone u e.file) es g (held_gone s u e.file g h)

held_epoch : (s u : Server) (number g : ℕ) → Held s u g → Held s (begin_epoch u number) g
unfolding file_has_open
held_epoch s u number g h =
    let t = held_swept s u u.entries g h in
    either (λ x. Held s x g) (number == u.epoch + 1) (record (sweep u u.entries) {
      epoch = number;
      open_ids_given = 0;
      session_ids_given = 0;
    }) u (λ _. record { there = t.there; still = t.still }) (λ _. h)

held_version : (s u : Server) (number g : ℕ) → Held s u g → Held s (set_version u number) g
unfolding file_has_open
held_version s u number g h = either (λ x. Held s x g) ((number == 2) && (u.version == 1)) (record u { version = 2 }) u
    (λ _. record { there = h.there; still = h.still }) (λ _. h)

pub held_behind : (d s : Server) (g : ℕ) → Stays d g → exists_in (fold_from d (epoch_records s)).entries g ≡ exists_in d.entries g
unfolding fold_from
held_behind d s g stays =
    let all : Held d d g = record { there = refl; still = stays } in
    (either (λ rs. Held d (fold_from d rs) g) (s.version == 1) (VersionRecord 2 ∷ EpochRecord (s.epoch + 1) ∷ [])
    (EpochRecord (s.epoch + 1) ∷ [])
    (λ _. held_epoch d (set_version d 2) (s.epoch + 1) g (held_version d d 2 g all))
    (λ _. held_epoch d d (s.epoch + 1) g all)).there
