-- What a state keeps of another, and what mirrors it column by column.
use Rattle.std.proofs.Common.{◌≡◌, ℕ, ◌<◌, ◌≤◌, ◌==◌, Bool, true, false, ◌||◌, if◌then◌else◌, List, Option, Some, None}
use Rattle.std.proofs.Common.{refl, sym, ap, subst, ◌∙◌, eqb-true}
use Rattle.spec_exchange.specs.Commands.{Basic}
use Rattle.spec_exchange.specs.State.{Server, Entry, Kept}
use Rattle.spec_exchange.specs.Files.{root, exists, exists_in}
use Rattle.spec_exchange.specs.Fold.{stays, stays_by_guid}
use Rattle.law_records.specs.recovery.Recovers.{staying, kept_guid, Mirrors}
use Rattle.law_records.proofs.recovery.Lists.{ext2}
use Rattle.law_records.proofs.recovery.Ranges.{kept_that_stay}
use Rattle.law_snapshots.specs.behind.Alike.{RecordAlike}
use Rattle.law_snapshots.specs.snapshots.Kept.{Keeps}
use Rattle.law_snapshots.proofs.behind.Guards.{over, of_over}

guid_stays : (s : Server) (x : Option ℕ) → stays_by_guid s x ≡ kept_guid (staying s.standing s.opened) x
guid_stays s None = refl
guid_stays s (Some o) = refl

-- the slots of opens that stay, whole
abbrev its_slots : Server → Server → ℕ → ℕ → Option Kept
its_slots d s o i = if stays s o then s.lock_sequences o i else d.lock_sequences o i

abbrev borrowed : Server → Server → Server
borrowed d s = over d s.directory s.delete_pending s.basic s.content d.stored (its_slots d s)

module _ (d s : Server) (k : Keeps d s) where
  there : (f : ℕ) → exists_in d.entries f ≡ true → exists_in s.entries f ≡ true
  there f h = subst (λ (v : List Entry). exists_in v f ≡ true) k.files.entries h

  same_times : (f : ℕ) → exists d f ≡ true → s.basic f ≡ d.basic f
  unfolding exists
  same_times f h = by (f == root) refl h
    where
      by : (b : Bool) → (f == root) ≡ b → (b || exists_in d.entries f) ≡ true → s.basic f ≡ d.basic f
      by true e i = subst (λ (g : ℕ). s.basic g ≡ d.basic g) (sym (eqb-true f root e)) (sym k.files.root_times)
      by false e i = sym (k.files.basic f (there f i))

  same_slots : (o i : ℕ) → 0 < i → i ≤ 64 → its_slots d s o i ≡ d.lock_sequences o i
  same_slots o i l m = by (stays s o) (λ h. sym (k.opens.lock_sequences o i h l m))
    where
      by : (b : Bool) → (b ≡ true → s.lock_sequences o i ≡ d.lock_sequences o i)
          → (if b then s.lock_sequences o i else d.lock_sequences o i) ≡ d.lock_sequences o i
      by true h = h refl
      by false h = refl

  borrowed_alike : RecordAlike d (borrowed d s)
  borrowed_alike = record {
    is = refl;
    basic = same_times;
    at = λ f h. record {
      directory = sym (k.files.directory f (there f h));
      delete_pending = sym (k.files.delete_pending f (there f h));
      content = sym (k.files.content f (there f h));
    };
    slots = same_slots;
  }

  borrowed_mirrors : Mirrors (borrowed d s) s
  borrowed_mirrors = (
    record {
      entries = k.files.entries;
      next_file = k.files.next_file;
      directory = refl;
      delete_pending = refl;
      basic = refl;
      content = refl;
    },
    record {
      opens = k.opens.opens;
      standing = k.opens.standing;
      opened = k.opens.opened;
      lock_sequences = λ o i h. ap (λ (b : Bool). if b then s.lock_sequences o i else d.lock_sequences o i) h;
      by_guid = λ c g. k.opens.by_guid c g ∙ guid_stays s (s.by_guid c g);
      ranges = λ f. k.opens.ranges f ∙ kept_that_stay s (s.ranges f);
    },
    record {
      version = k.counts.version;
      epoch = k.counts.epoch;
      open_ids_given = k.counts.open_ids_given;
      full = k.counts.full;
      room = k.counts.room;
      expired_guids = ext2 d.expired_guids s.expired_guids k.counts.expired_guids;
      expired_count = k.counts.expired_count;
    },
  )

  pub mirrored : (e : Server) × RecordAlike d e × Mirrors e s
  mirrored = (borrowed d s, borrowed_alike, borrowed_mirrors)

-- and the other way round
root_there : (d : Server) → exists d root ≡ true
unfolding exists
root_there d = refl

entered : (d : Server) (f : ℕ) → exists_in d.entries f ≡ true → exists d f ≡ true
unfolding exists
entered d f i = by (f == root) i
  where
    by : (b : Bool) → exists_in d.entries f ≡ true → (b || exists_in d.entries f) ≡ true
    by true j = refl
    by false j = j

kept_over : (s d : Server) (D P : ℕ → Bool) (B : ℕ → Basic) (C W : ℕ → List ℕ) (L : ℕ → ℕ → Option Kept) → RecordAlike d (over d D P B C W L)
    → Mirrors (over d D P B C W L) s → Keeps d s
kept_over s d D P B C W L a h =
    let back : (f : ℕ) → exists_in s.entries f ≡ true → exists_in d.entries f ≡ true =
    λ f i. subst (λ (v : List Entry). exists_in v f ≡ true) (sym h.0.entries) i in
    record {
      files = record {
        entries = h.0.entries;
        next_file = h.0.next_file;
        root_times = sym (a.basic root (root_there d)) ∙ ap (λ (t : ℕ → Basic). t root) h.0.basic;
        directory = λ f i. sym (a.at f (back f i)).directory ∙ ap (λ (t : ℕ → Bool). t f) h.0.directory;
        delete_pending = λ f i. sym (a.at f (back f i)).delete_pending ∙ ap (λ (t : ℕ → Bool). t f) h.0.delete_pending;
        basic = λ f i. sym (a.basic f (entered d f (back f i))) ∙ ap (λ (t : ℕ → Basic). t f) h.0.basic;
        content = λ f i. sym (a.at f (back f i)).content ∙ ap (λ (t : ℕ → List ℕ). t f) h.0.content;
      };
      opens = record {
        opens = h.1.opens;
        standing = h.1.standing;
        opened = h.1.opened;
        lock_sequences = λ o i e l m. sym (a.slots o i l m) ∙ h.1.lock_sequences o i e;
        by_guid = λ c g. h.1.by_guid c g ∙ sym (guid_stays s (s.by_guid c g));
        ranges = λ f. h.1.ranges f ∙ sym (kept_that_stay s (s.ranges f));
      };
      counts = record {
        version = h.2.version;
        epoch = h.2.epoch;
        open_ids_given = h.2.open_ids_given;
        full = h.2.full;
        room = h.2.room;
        expired_guids = λ c g. ap (λ (t : ℕ → ℕ → Bool). t c g) h.2.expired_guids;
        expired_count = h.2.expired_count;
      };
    }

pub kept : (d e s : Server) → RecordAlike d e → Mirrors e s → Keeps d s
kept d e s a = of_over (λ (x y : Server). Mirrors y s → Keeps x s) (λ x D P B C W L. kept_over s x D P B C W L) d e a
