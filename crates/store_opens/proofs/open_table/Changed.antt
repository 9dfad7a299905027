-- The table behind a change of one row's sequence, listing or slots.
use Rattle.std.proofs.Common.{◌≡◌, ◌≤◌, ℕ, ◌==◌, nat_eq, nat_le, nat_lt, Bool, true, false, if◌then◌else◌}
use Rattle.std.proofs.Common.{◌-◌, List, Option, Some, None, refl, sym, ap, subst, ◌∙◌, arith, eqb-true, IfSome}
use Rattle.std.proofs.lemmas.Bool.Decides.{nat_tests}
use Rattle.std.specs.HashMap.{get, hash_map_len}
use Rattle.spec_exchange.specs.Table.{put, put2}
use Rattle.spec_exchange.specs.State as model
use Rattle.spec_exchange.specs.CheckOpen.{is_stale, is_slot}
use Rattle.spec_exchange.specs.Effects.{keep_slot}
use Rattle.law_server.proofs.tables.Logic.{either}
use Rattle.store_opens.specs.channel_sequence.Offered.{offered, kept_after, difference}
use Rattle.store_opens.specs.declared.channel_sequence.seen.Offered.{Offered}
use Rattle.store_opens.specs.lock_replay.Shown.{SlotsShown}
use Rattle.store_opens.specs.declared.lock_replay.slots.Slots.{Slots}
use Rattle.store_opens.specs.declared.open_table.row.Row.{Row}
use Rattle.store_opens.specs.declared.open_table.table.Opens.{Opens}
use Rattle.store_opens.specs.open_table.Rows.{OpenPlace, OpenRowShown, OpenTreeShown, offered_row, located_row}
use Rattle.store_opens.specs.open_table.Rows.{positioned_row, SlotsPut}
use Rattle.store_opens.specs.open_table.Changes.{offered_to, located_at, offset_at}
use Rattle.store_opens.specs.open_table.Shown.{ShowsOpens}

-- only rows changed, and none came or went
pub record RowsChanged (t u : Opens) : Type 0 where
  pub rest : u ≡ record t { rows = u.rows }
  pub len : hash_map_len u.rows ≡ hash_map_len t.rows

pub shows_columns : (t u : Opens) (s : model.Server) (sequence : ℕ → ℕ) (location : ℕ → Option (List ℕ))
    (offset : ℕ → ℕ) (locks : ℕ → ℕ → Option model.Kept) → RowsChanged t u
    → ((q : ℕ) → OpenRowShown (get nat_eq u.rows q) (s.standing q) (s.opened q) (s.session_of_open q) (sequence q)
    (s.deadline q) (location q, offset q) (locks q)) → ((q : ℕ) → OpenTreeShown (get nat_eq u.rows q) (s.tree_of_open q)) → ShowsOpens t s
    → ShowsOpens u (record s {
      sequence = sequence;
      enumeration_location = location;
      current_byte_offset = offset;
      lock_sequences = locks;
    })
shows_columns t u s sequence location offset locks c rows trees h =
    subst (λ (v : Opens). ShowsOpens v (record s {
      sequence = sequence;
      enumeration_location = location;
      current_byte_offset = offset;
      lock_sequences = locks;
    })) (sym c.rest) (record {
      epoch_is = h.epoch_is;
      given_is = h.given_is;
      count_is = h.count_is ∙ sym c.len;
      rows_are = rows;
      trees_are = trees;
      guids_are = h.guids_are;
      files_are = h.files_are;
      sessions_are = h.sessions_are;
      listed = h.listed;
      plain_listed = h.plain_listed;
      named = h.named;
      expired_are = h.expired_are;
      expired_count_is = h.expired_count_is;
      indexed = h.indexed;
      undated = h.undated;
    })

-- ---- sequences

kept_is : (n k : ℕ) → kept_after n k ≡ (if is_stale n k then k else n)
kept_is n k = by (difference n k)
  where
    by : (d : ℕ) → (if nat_lt d 0x8000 then n else k) ≡ (if nat_le 32768 d then k else n)
    by d = grind (arith, nat_tests)

row_offered : (b : Bool) (r : Option Row) (n : ℕ) (stands : Bool) (opened : model.Open) (session : Option ℕ)
    (sequence : ℕ) (deadline : Option ℕ) (location : OpenPlace) (locks : ℕ → Option model.Kept)
    → OpenRowShown r stands opened session sequence deadline location locks → OpenRowShown (if b then offered_row n r else r)
    stands opened session (if b then kept_after n sequence else sequence) deadline location locks
row_offered true None n stands opened session sequence deadline location locks h = h
row_offered true (Some r) n stands opened session sequence deadline location locks h = (
  h.0,
  record {
    opened_is = h.1.opened_is;
    session_is = h.1.session_is;
    sequence_is = ap (kept_after n) h.1.sequence_is;
    deadline_is = h.1.deadline_is;
    location_is = h.1.location_is;
    position_is = h.1.position_is;
    slots_are = h.1.slots_are;
  },
)
row_offered false r n stands opened session sequence deadline location locks h = h

tree_offered : (b : Bool) (r : Option Row) (tree n : ℕ) → OpenTreeShown r tree → OpenTreeShown (if b then offered_row n r else r) tree
tree_offered true None tree n h = tt
tree_offered true (Some r) tree n h = h
tree_offered false r tree n h = h

tree_located : (b : Bool) (r : Option Row) (tree : ℕ) (last : Option (List ℕ)) → OpenTreeShown r tree
    → OpenTreeShown (if b then located_row last r else r) tree
tree_located true None tree last h = tt
tree_located true (Some r) tree last h = h
tree_located false r tree last h = h

tree_slots : (r w : Option Row) (P : Slots → Slots → Type 0) (tree : ℕ) → SlotsPut r w P → OpenTreeShown r tree → OpenTreeShown w tree
tree_slots None w P tree p h = subst (λ (v : Option Row). OpenTreeShown v tree) (sym p) tt
tree_slots (Some r) w P tree p h = subst (λ (v : Option Row). OpenTreeShown v tree) (sym p.1) h

stays_at : (b : Bool) (q o n : ℕ) (f : ℕ → ℕ) → (q == o) ≡ b → is_stale n (f o) ≡ true → (if b then kept_after n (f q) else f q) ≡ f q
stays_at true q o n f e st = subst (λ (z : ℕ). kept_after n (f z) ≡ f z) (sym (eqb-true q o e)) (kept_is n (f o) ∙ rw st refl)
stays_at false q o n f e st = refl

moves_at : (b : Bool) (q o n : ℕ) (f : ℕ → ℕ) → (q == o) ≡ b → is_stale n (f o) ≡ false
    → (if b then kept_after n (f q) else f q) ≡ (if b then n else f q)
moves_at true q o n f e st = subst (λ (z : ℕ). kept_after n (f z) ≡ n) (sym (eqb-true q o e)) (kept_is n (f o) ∙ rw st refl)
moves_at false q o n f e st = refl

pub shows_offered : (t u : Opens) (s : model.Server) (o n : ℕ) → RowsChanged t u
    → ((q : ℕ) → get nat_eq u.rows q ≡ (if q == o then offered_row n (get nat_eq t.rows q) else get nat_eq t.rows q))
    → ShowsOpens t s → ShowsOpens u (offered_to s o n)
shows_offered t u s o n c rows h =
    either (λ (v : model.Server). ShowsOpens u v) (is_stale n (s.sequence o)) s (record s { sequence = put s.sequence o n })
    (λ e. shows_columns t u s s.sequence s.enumeration_location s.current_byte_offset s.lock_sequences c
    (λ q. subst (λ (k : ℕ). OpenRowShown (get nat_eq u.rows q) (s.standing q) (s.opened q) (s.session_of_open q) k
    (s.deadline q) (s.enumeration_location q, s.current_byte_offset q) (s.lock_sequences q)) (stays_at (q == o) q o n s.sequence refl e)
    (shown q)) trees h)
    (λ e. shows_columns t u s (put s.sequence o n) s.enumeration_location s.current_byte_offset s.lock_sequences c
    (λ q. subst (λ (k : ℕ). OpenRowShown (get nat_eq u.rows q) (s.standing q) (s.opened q) (s.session_of_open q) k
    (s.deadline q) (s.enumeration_location q, s.current_byte_offset q) (s.lock_sequences q)) (moves_at (q == o) q o n s.sequence refl e)
    (shown q)) trees h)
  where
    shown : (q : ℕ) → OpenRowShown (get nat_eq u.rows q) (s.standing q) (s.opened q) (s.session_of_open q)
        (if q == o then kept_after n (s.sequence q) else s.sequence q) (s.deadline q) (s.enumeration_location q, s.current_byte_offset q)
        (s.lock_sequences q)
    shown q = rw (rows q) (row_offered (q == o) (get nat_eq t.rows q) n _ _ _ _ _ _ _ (h.rows_are q))

    trees : (q : ℕ) → OpenTreeShown (get nat_eq u.rows q) (s.tree_of_open q)
    trees q = rw (rows q) (tree_offered (q == o) (get nat_eq t.rows q) (s.tree_of_open q) n (h.trees_are q))

pub told_offered : (t : Opens) (s : model.Server) (o n : ℕ) (result : Offered) → ShowsOpens t s → s.standing o ≡ true
    → IfSome (get nat_eq t.rows o) (λ r. result ≡ offered n r.sequence) → result ≡ offered n (s.sequence o)
told_offered t s o n result h st f = by (get nat_eq t.rows o) (h.rows_are o) f
  where
    by : (r : Option Row) → OpenRowShown r (s.standing o) (s.opened o) (s.session_of_open o) (s.sequence o) (s.deadline o)
        (s.enumeration_location o, s.current_byte_offset o) (s.lock_sequences o)
        → IfSome r (λ r. result ≡ offered n r.sequence) → result ≡ offered n (s.sequence o)
    by None e f = absurd (cc)
    by (Some r) e f = f ∙ ap (offered n) (sym e.1.sequence_is)

-- ---- listings

row_located : (b : Bool) (r : Option Row) (last : Option (List ℕ)) (stands : Bool) (opened : model.Open)
    (session : Option ℕ) (sequence : ℕ) (deadline : Option ℕ) (location : Option (List ℕ)) (offset : ℕ)
    (locks : ℕ → Option model.Kept)
    → OpenRowShown r stands opened session sequence deadline (location, offset) locks
    → OpenRowShown (if b then located_row last r else r) stands opened session sequence deadline
    (if b then last else location, offset) locks
row_located true None last stands opened session sequence deadline location offset locks h = h
row_located true (Some r) last stands opened session sequence deadline location offset locks h = (
  h.0,
  record {
    opened_is = h.1.opened_is;
    session_is = h.1.session_is;
    sequence_is = h.1.sequence_is;
    deadline_is = h.1.deadline_is;
    location_is = refl;
    position_is = h.1.position_is;
    slots_are = h.1.slots_are;
  },
)
row_located false r last stands opened session sequence deadline location offset locks h = h

pub shows_located : (t u : Opens) (s : model.Server) (o : ℕ) (last : Option (List ℕ)) → RowsChanged t u
    → ((q : ℕ) → get nat_eq u.rows q ≡ (if q == o then located_row last (get nat_eq t.rows q) else get nat_eq t.rows q))
    → ShowsOpens t s → ShowsOpens u (located_at s o last)
shows_located t u s o last c rows h =
    shows_columns t u s s.sequence (put s.enumeration_location o last) s.current_byte_offset s.lock_sequences c
    (λ q. rw (rows q) (row_located (q == o) (get nat_eq t.rows q) last _ _ _ _ _ _ _ _ (h.rows_are q)))
    (λ q. rw (rows q) (tree_located (q == o) (get nat_eq t.rows q) (s.tree_of_open q) last (h.trees_are q))) h

-- ---- positions

row_positioned : (b : Bool) (r : Option Row) (position : ℕ) (stands : Bool) (opened : model.Open) (session : Option ℕ)
    (sequence : ℕ) (deadline : Option ℕ) (location : Option (List ℕ)) (offset : ℕ) (locks : ℕ → Option model.Kept)
    → OpenRowShown r stands opened session sequence deadline (location, offset) locks
    → OpenRowShown (if b then positioned_row position r else r) stands opened session sequence deadline
    (location, if b then position else offset) locks
row_positioned true None position stands opened session sequence deadline location offset locks h = h
row_positioned true (Some r) position stands opened session sequence deadline location offset locks h = (
  h.0,
  record {
    opened_is = h.1.opened_is;
    session_is = h.1.session_is;
    sequence_is = h.1.sequence_is;
    deadline_is = h.1.deadline_is;
    location_is = h.1.location_is;
    position_is = refl;
    slots_are = h.1.slots_are;
  },
)
row_positioned false r position stands opened session sequence deadline location offset locks h = h

tree_positioned : (b : Bool) (r : Option Row) (tree position : ℕ) → OpenTreeShown r tree
    → OpenTreeShown (if b then positioned_row position r else r) tree
tree_positioned true None tree position h = tt
tree_positioned true (Some r) tree position h = h
tree_positioned false r tree position h = h

pub shows_positioned : (t u : Opens) (s : model.Server) (o position : ℕ) → RowsChanged t u
    → ((q : ℕ) → get nat_eq u.rows q ≡ (if q == o then positioned_row position (get nat_eq t.rows q) else get nat_eq t.rows q))
    → ShowsOpens t s → ShowsOpens u (offset_at s o position)
shows_positioned t u s o position c rows h =
    shows_columns t u s s.sequence s.enumeration_location (put s.current_byte_offset o position) s.lock_sequences c
    (λ q. rw (rows q) (row_positioned (q == o) (get nat_eq t.rows q) position _ _ _ _ _ _ _ _ (h.rows_are q)))
    (λ q. rw (rows q) (tree_positioned (q == o) (get nat_eq t.rows q) (s.tree_of_open q) position (h.trees_are q))) h

-- ---- slots

slots_put : (r w : Option Row) (P : Slots → Slots → Type 0) (stands : Bool) (opened : model.Open) (session : Option ℕ)
    (sequence : ℕ) (deadline : Option ℕ) (location : OpenPlace) (old new : ℕ → Option model.Kept)
    → SlotsPut r w P → ((x y : Slots) → P x y → SlotsShown x old → SlotsShown y new) → OpenRowShown r stands opened session
    sequence deadline location old → OpenRowShown w stands opened session sequence deadline location new
slots_put None w P stands opened session sequence deadline location old new p f h =
    subst (λ (v : Option Row). OpenRowShown v stands opened session sequence deadline location new) (sym p) h
slots_put (Some r) w P stands opened session sequence deadline location old new p f h =
    subst (λ (v : Option Row). OpenRowShown v stands opened session sequence deadline location new) (sym p.1) (
      h.0,
      record {
        opened_is = h.1.opened_is;
        session_is = h.1.session_is;
        sequence_is = h.1.sequence_is;
        deadline_is = h.1.deadline_is;
        location_is = h.1.location_is;
        position_is = h.1.position_is;
        slots_are = f r.slots p.0 p.2 h.1.slots_are;
      },
    )

pub shows_slot : (t u : Opens) (s : model.Server) (o index : ℕ) (kept : model.Kept) → RowsChanged t u
    → SlotsPut (get nat_eq t.rows o) (get nat_eq u.rows o) (λ x y. (k : ℕ → Option model.Kept) → SlotsShown x k
    → SlotsShown y (put k index (Some kept)))
    → ((q : ℕ) → (q == o) ≡ false → get nat_eq u.rows q ≡ get nat_eq t.rows q)
    → ShowsOpens t s → ShowsOpens u (record s { lock_sequences = put2 s.lock_sequences o index (Some kept) })
shows_slot t u s o index kept c there others h =
    shows_columns t u s s.sequence s.enumeration_location s.current_byte_offset (put2 s.lock_sequences o index (Some kept)) c (λ q. by q (q == o) refl)
    (λ q. tree_by q (q == o) refl) h
  where
    here : put2 s.lock_sequences o index (Some kept) o ≡ put (s.lock_sequences o) index (Some kept)
    here = λ t i. cell i t
      where
        cell : (i : ℕ) → put2 s.lock_sequences o index (Some kept) o i ≡ put (s.lock_sequences o) index (Some kept) i
        cell i = grind arith

    other : (q : ℕ) → (q == o) ≡ false → put2 s.lock_sequences o index (Some kept) q ≡ s.lock_sequences q
    other q e = λ t i. cell i t
      where
        cell : (i : ℕ) → put2 s.lock_sequences o index (Some kept) q i ≡ s.lock_sequences q i
        cell i = rw e refl

    by : (q : ℕ) (b : Bool) → (q == o) ≡ b → OpenRowShown (get nat_eq u.rows q) (s.standing q) (s.opened q)
        (s.session_of_open q) (s.sequence q) (s.deadline q) (s.enumeration_location q, s.current_byte_offset q)
        (put2 s.lock_sequences o index (Some kept) q)
    by q true e = subst (λ (z : ℕ). OpenRowShown (get nat_eq u.rows z) (s.standing z) (s.opened z) (s.session_of_open z)
        (s.sequence z) (s.deadline z) (s.enumeration_location z, s.current_byte_offset z) (put2 s.lock_sequences o index (Some kept) z))
        (sym (eqb-true q o e))
        (subst (λ (k : ℕ → Option model.Kept). OpenRowShown (get nat_eq u.rows o) (s.standing o) (s.opened o)
        (s.session_of_open o) (s.sequence o) (s.deadline o) (s.enumeration_location o, s.current_byte_offset o) k) (sym here)
        (slots_put (get nat_eq t.rows o) (get nat_eq u.rows o) _ _ _ _ _ _ _ (s.lock_sequences o) _ there
        (λ x y p k. p (s.lock_sequences o) k) (h.rows_are o)))
    by q false e = subst (λ (k : ℕ → Option model.Kept). OpenRowShown (get nat_eq u.rows q) (s.standing q) (s.opened q)
        (s.session_of_open q) (s.sequence q) (s.deadline q) (s.enumeration_location q, s.current_byte_offset q) k) (sym (other q e))
        (rw (others q e) (h.rows_are q))

    tree_by : (q : ℕ) (b : Bool) → (q == o) ≡ b → OpenTreeShown (get nat_eq u.rows q) (s.tree_of_open q)
    tree_by q true e = subst (λ (z : ℕ). OpenTreeShown (get nat_eq u.rows z) (s.tree_of_open z)) (sym (eqb-true q o e))
        (tree_slots (get nat_eq t.rows o) (get nat_eq u.rows o) _ (s.tree_of_open o) there (h.trees_are o))
    tree_by q false e = rw (others q e) (h.trees_are q)

is_one : (i : ℕ) → 1 ≤ i → i ≤ 64 → is_slot i ≡ true
is_one i a b = grind (arith, nat_tests)

-- of a slot that is one
pub kept_slot : (u : Opens) (s : model.Server) (o index number status : ℕ) → 1 ≤ index → index ≤ 64
    → ShowsOpens u (record s {
      lock_sequences = put2 s.lock_sequences o index (Some (record { number = number; status = status }));
    })
    → ShowsOpens u (keep_slot s o index number status)
kept_slot u s o index number status a b h = rw (is_one index a b) h

-- a row written in place
pub slots_written : (a b : Option Row) (r : Row) (x : Slots) (P : Slots → Slots → Type 0) → a ≡ Some r → b
    ≡ Some (record r { slots = x }) → P r.slots x → SlotsPut a b P
slots_written a b r x P e f p = subst (λ (v : Option Row). SlotsPut v b P) (sym e) (x, f, p)
