-- One row of the table, after a change at one number.
use Rattle.std.proofs.Common.{ℕ, Bool, true, false, if◌then◌else◌, List, Option, Some, None, option_map, refl}
use Rattle.spec_exchange.specs.Commands.{Basic}
use Rattle.store_files.specs.declared.file_tree.row.Row.{Row}
use Rattle.store_files.specs.file_tree.Shown.{FileRowShown}

pub row_basic : (b : Bool) (old : Option Row) (path : Option (List ℕ)) (directory delete_pending : Bool)
    (basic new : Basic) (content : List ℕ) → FileRowShown old path directory delete_pending basic content
    → FileRowShown (if b then option_map (λ (r : Row). record r { basic = new }) old else old) path directory delete_pending
    (if b then new else basic) content
row_basic true None path directory delete_pending basic new content h = h
row_basic true (Some r) path directory delete_pending basic new content h = (
  h.0,
  record {
    key_is = h.1.key_is;
    below_is = h.1.below_is;
    directory_is = h.1.directory_is;
    delete_pending_is = h.1.delete_pending_is;
    basic_is = refl;
    content_is = h.1.content_is;
  },
)
row_basic false old path directory delete_pending basic new content h = h

pub row_pending : (b : Bool) (old : Option Row) (path : Option (List ℕ)) (directory delete_pending new : Bool)
    (basic : Basic) (content : List ℕ) → FileRowShown old path directory delete_pending basic content
    → FileRowShown (if b then option_map (λ (r : Row). record r { delete_pending = new }) old else old) path directory
    (if b then new else delete_pending) basic content
row_pending true None path directory delete_pending new basic content h = h
row_pending true (Some r) path directory delete_pending new basic content h = (
  h.0,
  record {
    key_is = h.1.key_is;
    below_is = h.1.below_is;
    directory_is = h.1.directory_is;
    delete_pending_is = refl;
    basic_is = h.1.basic_is;
    content_is = h.1.content_is;
  },
)
row_pending false old path directory delete_pending new basic content h = h
