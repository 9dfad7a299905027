-- One row of the table behind a change at one id.
use Rattle.std.proofs.Common.{◌≡◌, ℕ, ◌+◌, ◌==◌, subst, arith, Bool, true, false, if◌then◌else◌, List}
use Rattle.std.proofs.Common.{[], ◌∷◌, ◌++◌, ◌∙◌, Option, Some, None, refl, sym, eqb-true}
use Rattle.std.proofs.lemmas.Grind.{common_steps}
use Rattle.spec_exchange.specs.Table.{has, is_at}
use Rattle.spec_exchange.specs.State as model
use Rattle.spec_exchange.specs.Effects.{cleared, dated}
use Rattle.spec_exchange.specs.Step.{first_deadline}
use Rattle.law_server.proofs.tables.Logic.{either}
use Rattle.store_opens.specs.declared.open_table.row.Row.{Row}
use Rattle.store_opens.specs.open_table.Rows.{OpenPlace, OpenRowIs, OpenRowShown, OpenTreeShown, open_of, attached_row, detached_row}
use Rattle.store_opens.specs.open_table.Due.{dated_row}

-- a new row stands at the id, or the old one where it is another
pub row_added : (b : Bool) (old : Option Row) (w : Row) (stands : Bool) (opened : model.Open) (session : Option ℕ)
    (sequence : ℕ) (deadline : Option ℕ) (location : Option (List ℕ)) (offset : ℕ) (locks : ℕ → Option model.Kept)
    (new_opened : model.Open) (new_session : Option ℕ) (new_sequence : ℕ) (new_deadline : Option ℕ)
    (new_location : Option (List ℕ)) (new_offset : ℕ) (new_locks : ℕ → Option model.Kept)
    → OpenRowShown old stands opened session sequence deadline (location, offset) locks
    → OpenRowIs w new_opened new_session new_sequence new_deadline (new_location, new_offset) new_locks
    → OpenRowShown (if b then Some w else old) (if b then true else stands) (if b then new_opened else opened)
    (if b then new_session else session) (if b then new_sequence else sequence)
    (if b then new_deadline else deadline)
    (if b then new_location else location, if b then new_offset else offset) (if b then new_locks else locks)
row_added true old w stands opened session sequence deadline location offset locks opened1 session1 sequence1 deadline1
    location1 offset1 locks1 h new = (refl, new)
row_added false old w stands opened session sequence deadline location offset locks opened1 session1 sequence1 deadline1
    location1 offset1 locks1 h new = h

-- the row of an id goes
pub row_dropped : (b : Bool) (old : Option Row) (stands : Bool) (opened : model.Open) (session : Option ℕ)
    (sequence : ℕ) (deadline : Option ℕ) (location : OpenPlace) (locks : ℕ → Option model.Kept)
    → OpenRowShown old stands opened session sequence deadline location locks
    → OpenRowShown (if b then None else old) (if b then false else stands) opened (if b then None else session) sequence
    (if b then None else deadline) location locks
row_dropped true old stands opened session sequence deadline location locks h = refl
row_dropped false old stands opened session sequence deadline location locks h = h

-- a row put back at its id
pub row_back : (P : ℕ → Option Row → Type 0) (o id : ℕ) (old : Option Row) (w : Row) → P id (Some w)
    → ((o == id) ≡ false → P o old) → P o (if o == id then Some w else old)
row_back P o id old w here there = either (P o) (o == id) (Some w) old
    (λ e. subst (λ (q : ℕ). P q (Some w)) (sym (eqb-true o id e)) here) there

-- ---- a session's end

pub detached_twice : (session now : ℕ) (r : Option Row) → detached_row session now (detached_row session now r) ≡ detached_row session now r
detached_twice session now None = refl
detached_twice session now (Some r) = grind (arith, common_steps)

pub row_detached : (r : Option Row) (stands : Bool) (opened : model.Open) (session : Option ℕ) (sequence : ℕ)
    (deadline : Option ℕ) (location : OpenPlace) (locks : ℕ → Option model.Kept) (x now : ℕ)
    → OpenRowShown r stands opened session sequence deadline location locks
    → OpenRowShown (detached_row x now r) stands opened (cleared x session) sequence (dated x now opened session deadline) location locks
row_detached None stands opened session sequence deadline location locks x now h = h
row_detached (Some r) stands opened session sequence deadline location locks x now h = detached_shown (is_at x r.session) refl
  where
    detached_shown : (b : Bool) → is_at x r.session ≡ b → OpenRowShown (if b then Some (record r {
      session = None;
      deadline = dated x now (open_of r) r.session r.deadline;
    }) else Some r) stands opened (cleared x session)
        sequence (dated x now opened session deadline) location locks
    detached_shown true e = (
      h.0,
      record {
        opened_is = h.1.opened_is;
        session_is = grind (arith, common_steps, h.1.session_is);
        sequence_is = h.1.sequence_is;
        deadline_is = rw (h.1.opened_is, h.1.session_is, h.1.deadline_is) refl;
        location_is = h.1.location_is;
        position_is = h.1.position_is;
        slots_are = h.1.slots_are;
      },
    )
    detached_shown false e = (
      h.0,
      record {
        opened_is = h.1.opened_is;
        session_is = grind (arith, common_steps, h.1.session_is);
        sequence_is = h.1.sequence_is;
        deadline_is = grind (arith, common_steps, h.1.session_is, h.1.deadline_is);
        location_is = h.1.location_is;
        position_is = h.1.position_is;
        slots_are = h.1.slots_are;
      },
    )

-- ---- the first deadline

pub dated_twice : (now : ℕ) (r : Option Row) → dated_row now (dated_row now r) ≡ dated_row now r
dated_twice now None = refl
dated_twice now (Some r) = twice r.session r.deadline
  where
    twice : (session deadline : Option ℕ) → Some (record r {
      session = session;
      deadline = first_deadline now true session (open_of r) (first_deadline now true session (open_of r) deadline);
    })
        ≡ Some (record r { session = session; deadline = first_deadline now true session (open_of r) deadline })
    twice None None = refl
    twice None (Some d) = refl
    twice (Some x) deadline = refl

pub row_dated : (r : Option Row) (stands : Bool) (opened : model.Open) (session : Option ℕ) (sequence : ℕ)
    (deadline : Option ℕ) (location : OpenPlace) (locks : ℕ → Option model.Kept) (now : ℕ)
    → OpenRowShown r stands opened session sequence deadline location locks
    → OpenRowShown (dated_row now r) stands opened session sequence (first_deadline now stands session opened deadline) location locks
row_dated None stands opened session sequence deadline location locks now h = h
row_dated (Some r) stands opened session sequence deadline location locks now h = (
  h.0,
  record {
    opened_is = h.1.opened_is;
    session_is = h.1.session_is;
    sequence_is = h.1.sequence_is;
    deadline_is = rw (h.0, h.1.opened_is, h.1.session_is, h.1.deadline_is) refl;
    location_is = h.1.location_is;
    position_is = h.1.position_is;
    slots_are = h.1.slots_are;
  },
)

-- ---- the tree of an attached open

pub tree_added : (b : Bool) (old : Option Row) (w : Row) (tree new : ℕ) → OpenTreeShown old tree
    → ((x : ℕ) → w.session ≡ Some x → new ≡ w.tree) → OpenTreeShown (if b then Some w else old) (if b then new else tree)
tree_added true old w tree new h n = n
tree_added false old w tree new h n = h

-- one that isn't attached
pub tree_kept : (b : Bool) (old : Option Row) (w : Row) (tree : ℕ) → w.session ≡ None → OpenTreeShown old tree
    → OpenTreeShown (if b then Some w else old) tree
tree_kept true old w tree e h = λ x k. absurd (cc (e, k))
tree_kept false old w tree e h = h

pub tree_back : (P : Option Row → Type 0) (b : Bool) (old : Option Row) (w : Row) → P (Some w) → (b ≡ false → P old)
    → P (if b then Some w else old)
tree_back P true old w here there = here
tree_back P false old w here there = there refl

pub tree_dropped : (b : Bool) (old : Option Row) (tree : ℕ) → OpenTreeShown old tree → OpenTreeShown (if b then None else old) tree
tree_dropped true old tree h = tt
tree_dropped false old tree h = h

pub tree_attached : (b : Bool) (r : Option Row) (tree x t n : ℕ) → OpenTreeShown r tree
    → OpenTreeShown (if b then attached_row x t n r else r) (if b then t else tree)
tree_attached true None tree x t n h = tt
tree_attached true (Some r) tree x t n h = λ y e. refl
tree_attached false r tree x t n h = h

pub tree_detached : (r : Option Row) (tree x now : ℕ) → OpenTreeShown r tree → OpenTreeShown (detached_row x now r) tree
tree_detached None tree x now h = tt
tree_detached (Some r) tree x now h = either (λ (w : Option Row). OpenTreeShown w tree) (is_at x r.session) (Some (record r {
  session = None;
  deadline = dated x now (open_of r) r.session r.deadline;
})) (Some r) (λ e y q. absurd (cc)) (λ e. h)

pub tree_dated : (b : Bool) (r : Option Row) (tree now : ℕ) → OpenTreeShown r tree → OpenTreeShown (if b then dated_row now r else r) tree
tree_dated true None tree now h = tt
tree_dated true (Some r) tree now h = h
tree_dated false r tree now h = h

-- ---- rows behind a loop over a list of ids

pub has_more : (q x : ℕ) (xs : List ℕ) → has q (xs ++ x ∷ []) ≡ (if x == q then true else has q xs)
has_more q x [] = refl
has_more q x (y ∷ ys) = let e = has_more q x ys in grind (arith, common_steps)

turned : (q x : ℕ) → (q == x) ≡ (x == q)
turned q x = grind arith

-- one more of them, where the change does nothing a second time
pub one_more : (f : Option Row → Option Row) → ((r : Option Row) → f (f r) ≡ f r) → (q x : ℕ) (xs : List ℕ)
    (old before : Option Row) → before ≡ (if has q xs then f old else old)
    → (if q == x then f before else before) ≡ (if has q (xs ++ x ∷ []) then f old else old)
one_more f twice q x xs old before e = rw (e, has_more q x xs, turned q x) (by (x == q) (has q xs))
  where
    by : (b c : Bool) → (if b then f (if c then f old else old) else (if c then f old else old))
        ≡ (if (if b then true else c) then f old else old)
    by true true = twice old
    by true false = refl
    by false c = refl

-- a change that does nothing to what isn't listed is one of all
pub all_of : (f : Option Row → Option Row) (q : ℕ) (xs : List ℕ) (old new : Option Row) → new
    ≡ (if has q xs then f old else old) → (has q xs ≡ false → f old ≡ old) → new ≡ f old
all_of f q xs old new e h = e ∙ by (has q xs) h
  where
    by : (b : Bool) → (b ≡ false → f old ≡ old) → (if b then f old else old) ≡ f old
    by true g = refl
    by false g = sym (g refl)

-- one less of those that are left
pub one_less : (f : Option Row → Option Row) → ((r : Option Row) → f (f r) ≡ f r) → (q x : ℕ) (xs : List ℕ)
    (old new all : Option Row) → new ≡ (if q == x then f old else old)
    → (if has q (x ∷ xs) then f old else old) ≡ all → (if has q xs then f new else new) ≡ all
one_less f twice q x xs old new all e h = rw (e, turned q x) (by (x == q) (has q xs) ∙ h)
  where
    by : (b c : Bool) → (if c then f (if b then f old else old) else (if b then f old else old))
        ≡ (if (if b then true else c) then f old else old)
    by true true = twice old
    by true false = refl
    by false true = refl
    by false false = refl
