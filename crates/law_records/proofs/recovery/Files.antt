-- What a record does to a file, the server did.
use Rattle.std.proofs.Common.{◌≡◌, ℕ, ◌+◌, Bool, true, false, List, [], ◌∷◌, ◌++◌, arith, ◌∙◌, ap, Option}
use Rattle.spec_exchange.specs.Table.{put}
use Rattle.spec_exchange.specs.Commands.{Basic}
use Rattle.spec_exchange.specs.State.{Server, Entry, Range}
use Rattle.spec_exchange.specs.Files.{path_of, path_in, times_at, touched, emptied_basic, make_file, set_content}
use Rattle.spec_exchange.specs.Files.{empty_file, set_delete_pending, store_basic, without_file, remove_file}
use Rattle.spec_exchange.specs.Files.{moved_entries, without_target, rename_file}
use Rattle.law_records.specs.recovery.Recovers.{staying, kept_ranges, Mirrors}
use Rattle.law_records.proofs.recovery.Lists.{ext}

pub stores_basic : (d s : Server) (f : ℕ) (b : Basic) → Mirrors d s → Mirrors (store_basic d f b) (store_basic s f b)
stores_basic d s f b h = (
  record {
    entries = h.0.entries;
    next_file = h.0.next_file;
    directory = h.0.directory;
    delete_pending = h.0.delete_pending;
    basic = ap (λ x. put x f b) h.0.basic;
    content = h.0.content;
  },
  h.1,
  h.2,
)

pub sets_content : (d s : Server) (f : ℕ) (change : List ℕ → List ℕ) (now : ℕ) → Mirrors d s
    → Mirrors (set_content d f (change (d.content f)) now) (set_content s f (change (s.content f)) now)
sets_content d s f change now h = (
  record {
    entries = h.0.entries;
    next_file = h.0.next_file;
    directory = h.0.directory;
    delete_pending = h.0.delete_pending;
    basic = ap (λ (x : ℕ → Basic). put x f (touched (x f) now)) h.0.basic;
    content = ap (λ (x : ℕ → List ℕ). put x f (change (x f))) h.0.content;
  },
  h.1,
  h.2,
)

pub empties_file : (d s : Server) (f attributes now : ℕ) → Mirrors d s → Mirrors (empty_file d f attributes now)
    (empty_file s f attributes now)
empties_file d s f attributes now h = (
  record {
    entries = h.0.entries;
    next_file = h.0.next_file;
    directory = h.0.directory;
    delete_pending = h.0.delete_pending;
    basic = ap (λ (x : ℕ → Basic). put x f (emptied_basic (x f) attributes now)) h.0.basic;
    content = ap (λ (x : ℕ → List ℕ). put x f []) h.0.content;
  },
  h.1,
  h.2,
)

pub sets_pending : (d s : Server) (f : ℕ) (flag : Bool) → Mirrors d s → Mirrors (set_delete_pending d f flag) (set_delete_pending s f flag)
sets_pending d s f flag h = (
  record {
    entries = h.0.entries;
    next_file = h.0.next_file;
    directory = h.0.directory;
    delete_pending = ap (λ x. put x f flag) h.0.delete_pending;
    basic = h.0.basic;
    content = h.0.content;
  },
  h.1,
  h.2,
)

pub put_same_bool : (f : ℕ → Bool) (k : ℕ) → f k ≡ true → (q : ℕ) → f q ≡ put f k true q
put_same_bool f k h q = grind arith

-- a file that is delete pending already
pub pending_again : (d s : Server) (f : ℕ) → s.delete_pending f ≡ true → Mirrors d s → Mirrors d (set_delete_pending s f true)
pending_again d s f m h = (
  record {
    entries = h.0.entries;
    next_file = h.0.next_file;
    directory = h.0.directory;
    delete_pending = h.0.delete_pending ∙ ext s.delete_pending (put s.delete_pending f true)
        (put_same_bool s.delete_pending f m);
    basic = h.0.basic;
    content = h.0.content;
  },
  h.1,
  h.2,
)

pub removes_file : (d s : Server) (f : ℕ) → Mirrors d s → Mirrors (remove_file d f) (remove_file s f)
removes_file d s f h = (
  record {
    entries = ap (without_file f) h.0.entries;
    next_file = h.0.next_file;
    directory = h.0.directory;
    delete_pending = h.0.delete_pending;
    basic = h.0.basic;
    content = h.0.content;
  },
  h.1,
  h.2,
)

pub renames_file : (d s : Server) (f : ℕ) (replaced : Option ℕ) (path : List ℕ) → Mirrors d s
    → Mirrors (rename_file d f replaced path) (rename_file s f replaced path)
unfolding path_of
renames_file d s f replaced path h = (
  record {
    entries = ap (λ es. moved_entries (path_in es f) path (without_target replaced es)) h.0.entries;
    next_file = h.0.next_file;
    directory = h.0.directory;
    delete_pending = h.0.delete_pending;
    basic = h.0.basic;
    content = h.0.content;
  },
  h.1,
  h.2,
)

abbrev entry : ℕ → List ℕ → Entry
entry f path = record { file = f; path = path }

-- a new file has no ranges, in both
new_ranges : (p : ℕ → Bool) (drs rs : ℕ → List Range) (n m : ℕ) → n ≡ m → ((f : ℕ) → drs f ≡ kept_ranges p (rs f))
    → (f : ℕ) → put drs n [] f ≡ kept_ranges p (put rs m [] f)
unfolding kept_ranges
new_ranges p drs rs n m e h f = let old = h f in grind arith

pub makes_file : (d s : Server) (path : List ℕ) (is_dir : Bool) (attributes now : ℕ) → Mirrors d s
    → Mirrors (make_file d path is_dir attributes now) (make_file s path is_dir attributes now)
makes_file d s path is_dir attributes now h =
    let n = h.0.next_file in (
      record {
        entries = λ t. h.0.entries t ++ entry (n t) path ∷ [];
        next_file = λ t. n t + 1;
        directory = λ t. put (h.0.directory t) (n t) is_dir;
        delete_pending = λ t. put (h.0.delete_pending t) (n t) false;
        basic = λ t. put (h.0.basic t) (n t) (times_at now attributes);
        content = λ t. put (h.0.content t) (n t) [];
      },
      record {
        opens = h.1.opens;
        standing = h.1.standing;
        opened = h.1.opened;
        lock_sequences = h.1.lock_sequences;
        by_guid = h.1.by_guid;
        ranges = new_ranges (staying s.standing s.opened) d.ranges s.ranges d.next_file s.next_file n h.1.ranges;
      },
      h.2,
    )
