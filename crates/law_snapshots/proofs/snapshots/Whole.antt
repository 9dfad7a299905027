-- A snapshot stands for the part of a state that outlives a restart.
use Rattle.std.proofs.Common.{◌≡◌, ℕ, ◌+◌, ◌≤◌, ◌==◌, Bool, true, false, ◌&&◌, ◌||◌, if◌then◌else◌, List, [], ◌++◌, length}
use Rattle.std.proofs.Common.{Option, Some, None, refl, sym, ap, subst, ◌∙◌, arith, eqb-true}
use Rattle.spec_exchange.specs.Table.{has}
use Rattle.spec_exchange.specs.State.{Server, Entry, Range}
use Rattle.spec_exchange.specs.Files.{root, exists, exists_in}
use Rattle.spec_exchange.specs.Fold.{persistent_in, stays, stays_by_guid, ranges_that_stay}
use Rattle.law_server.specs.tables.Fits.{Fits}
use Rattle.law_records.specs.fold.Order.{FilesAscend}
use Rattle.law_snapshots.specs.snapshots.Pieces.{FileBytes, with_pieces, file_pieces, open_pieces, range_pieces, all_range_pieces, guid_pieces, snapshot_in, unfolded}
use Rattle.law_snapshots.specs.snapshots.Kept.{IsOrderOf, Keeps, ListsGuids, TellsBytes, OpensKept, CountsKept, SnapshotKeeps, has_pair}
use Rattle.law_snapshots.proofs.snapshots.Files.{behind_both, Walked}
use Rattle.law_snapshots.proofs.snapshots.Tables.{based, files_walked, walked_entries, files_kept, no_root, behind_files}
use Rattle.law_snapshots.proofs.snapshots.Order.{order_itself}
use Rattle.law_snapshots.proofs.snapshots.Opens.{Opened, opened_all, told_of, has_persistent, ascending_persistent}
use Rattle.law_snapshots.proofs.snapshots.Ranges.{Ranged, ranged, stay_owned, AllRanged, all_ranged, no_ranges, Expired, expired, file_in}

-- the list of what stays is the table of it
pub stay_listed : (s : Server) → Fits s → (p : ℕ) → has p (persistent_in s.opened s.opens) ≡ stays s p
stay_listed s i p = has_persistent s.opened p s.opens ∙ ap (λ (b : Bool). b && (s.opened p).persistent) (i.listed p)

none_told : (v : Option ℕ) → None ≡ told_of [] v
none_told None = refl
none_told (Some o) = refl

-- no open stands yet
pub first_opened : (s : Server) (stored : ℕ → List ℕ) (t : Server) (es : List Entry) → Walked s (based s stored) t es → Opened s t t []
first_opened s stored t es w = record {
  is = refl;
  opens = ap (λ (x : Server). x.opens) w.is;
  standing = λ p. ap (λ (x : Server). x.standing p) w.is;
  opened = λ p h. absurd (cc);
  slots = λ p j h a l. absurd (cc);
  guids = λ c g. ap (λ (x : Server). x.by_guid c g) w.is ∙ none_told (s.by_guid c g);
}

told_stays : (s : Server) (os : List ℕ) → ((p : ℕ) → has p os ≡ stays s p) → (v : Option ℕ) → told_of os v ≡ stays_by_guid s v
told_stays s os h None = refl
told_stays s os h (Some o) = ap (λ (b : Bool). if b then Some o else None) (h o)

or_none : (a b : Bool) → b ≡ false → (a || b) ≡ a
or_none true b h = refl
or_none false b h = h

-- the states between the parts of a snapshot
pub record Chain (s : Server) (stored : ℕ → List ℕ) (guids : List (ℕ × ℕ)) (order : List Entry) (t o q r g : Server) : Type 0 where
  pub is_order : IsOrderOf order s.entries
  pub walked : Walked s (based s stored) t order
  pub opened : Opened s t o (persistent_in s.opened s.opens)
  pub at_root : Ranged o q root (ranges_that_stay s (s.ranges root))
  pub at_files : AllRanged s q r order
  pub guids_are : Expired r g guids

pub chain_over : (s : Server) (stored : ℕ → List ℕ) (guids : List (ℕ × ℕ)) (order : List Entry) (t o q r g : Server) → Chain s stored guids order t o q r g
    → g ≡ record o { ranges = g.ranges; expired_guids = g.expired_guids; expired_count = g.expired_count }
chain_over s stored guids order t o q r g c =
    c.guids_are.is
    ∙ ap (λ (x : Server). record x { expired_guids = g.expired_guids; expired_count = g.expired_count }) (c.at_files.is
    ∙ ap (λ (x : Server). record x { ranges = r.ranges }) c.at_root.is)
    ∙ ap (λ (k : ℕ → List Range). record o { ranges = k; expired_guids = g.expired_guids; expired_count = g.expired_count })
    (sym (ap (λ (x : Server). x.ranges) c.guids_are.is))

chain_ranges : (s : Server) (stored : ℕ → List ℕ) (guids : List (ℕ × ℕ)) (order : List Entry) (t o q r g : Server) → Chain s stored guids order t o q r g → Fits s → (f : ℕ)
    → g.ranges f ≡ ranges_that_stay s (s.ranges f)
unfolding exists ranges_that_stay
chain_ranges s stored guids order t o q r g c i f =
    ap (λ (x : Server). x.ranges f) c.guids_are.is ∙ by (f == root) refl (exists_in s.entries f) refl
  where
    empty : (f : ℕ) → o.ranges f ≡ []
    empty f = ap (λ (x : Server). x.ranges f) c.opened.is ∙ c.walked.unlocked f refl

    by : (b : Bool) → (f == root) ≡ b → (k : Bool) → exists_in s.entries f ≡ k → r.ranges f ≡ ranges_that_stay s (s.ranges f)
    by true e k n =
        let z : f ≡ root = eqb-true f root e in
        subst (λ (y : ℕ). r.ranges y ≡ ranges_that_stay s (s.ranges y)) (sym z)
        (c.at_files.other root (c.is_order.there root ∙ no_root s i) ∙ c.at_root.here
        ∙ ap (λ (v : List Range). v ++ ranges_that_stay s (s.ranges root)) (ap (λ (x : Server). x.ranges root) c.opened.is
        ∙ c.walked.unlocked root refl))
    by false e true n =
        c.at_files.here f (c.is_order.there f ∙ n)
        ∙ ap (λ (v : List Range). v ++ ranges_that_stay s (s.ranges f)) (c.at_root.other f e ∙ ap (λ (x : Server). x.ranges f) c.opened.is
        ∙ c.walked.unlocked f refl)
    by false e false n =
        let gone : exists s f ≡ false = grind arith in
        c.at_files.other f (c.is_order.there f ∙ n) ∙ c.at_root.other f e ∙ ap (λ (x : Server). x.ranges f) c.opened.is ∙ c.walked.unlocked f refl
        ∙ ap (λ (v : List Range). ranges_that_stay s v) (sym (no_ranges s f i gone))

chain_opens : (s : Server) (stored : ℕ → List ℕ) (guids : List (ℕ × ℕ)) (order : List Entry) (t o q r g : Server) → Chain s stored guids order t o q r g → Fits s → OpensKept g s
chain_opens s stored guids order t o q r g c i =
    let over = chain_over s stored guids order t o q r g c in
    record {
      opens = ap (λ (x : Server). x.opens) over ∙ c.opened.opens;
      standing = λ p. ap (λ (x : Server). x.standing p) over ∙ c.opened.standing p ∙ stay_listed s i p;
      opened = λ p h. ap (λ (x : Server). x.opened p) over ∙ c.opened.opened p (stay_listed s i p ∙ h);
      lock_sequences = λ p j h a l. ap (λ (x : Server). x.lock_sequences p j) over ∙ c.opened.slots p j (stay_listed s i p ∙ h) a l;
      by_guid = λ a b. ap (λ (x : Server). x.by_guid a b) over ∙ c.opened.guids a b
          ∙ told_stays s (persistent_in s.opened s.opens) (stay_listed s i) (s.by_guid a b);
      ranges = chain_ranges s stored guids order t o q r g c i;
    }

-- nothing but files, opens, ranges and guids was changed behind the numbers
pub chain_apart : (s : Server) (stored : ℕ → List ℕ) (guids : List (ℕ × ℕ)) (order : List Entry) (t o q r g : Server) → Chain s stored guids order t o q r g
    → (g.version ≡ s.version) × (g.epoch ≡ s.epoch) × (g.open_ids_given ≡ s.open_ids_given) × (g.room ≡ 1125899906842624)
    × ((c k : ℕ) → r.expired_guids c k ≡ false) × (r.expired_count ≡ 0)
chain_apart s stored guids order t o q r g c =
    let over = chain_over s stored guids order t o q r g c in
    let back : r ≡ record o { ranges = r.ranges } = c.at_files.is ∙ ap (λ (x : Server). record x { ranges = r.ranges }) c.at_root.is in (
      ap (λ (x : Server). x.version) over ∙ ap (λ (x : Server). x.version) c.opened.is ∙ ap (λ (x : Server). x.version) c.walked.is,
      ap (λ (x : Server). x.epoch) over ∙ ap (λ (x : Server). x.epoch) c.opened.is ∙ ap (λ (x : Server). x.epoch) c.walked.is,
      ap (λ (x : Server). x.open_ids_given) over ∙ ap (λ (x : Server). x.open_ids_given) c.opened.is
          ∙ ap (λ (x : Server). x.open_ids_given) c.walked.is,
      ap (λ (x : Server). x.room) over ∙ ap (λ (x : Server). x.room) c.opened.is ∙ ap (λ (x : Server). x.room) c.walked.is,
      (λ a b. ap (λ (x : Server). x.expired_guids a b) back ∙ ap (λ (x : Server). x.expired_guids a b) c.opened.is
          ∙ ap (λ (x : Server). x.expired_guids a b) c.walked.is),
      ap (λ (x : Server). x.expired_count) back ∙ ap (λ (x : Server). x.expired_count) c.opened.is
          ∙ ap (λ (x : Server). x.expired_count) c.walked.is,
    )

chain_counts : (s : Server) (stored : ℕ → List ℕ) (guids : List (ℕ × ℕ)) (order : List Entry) (t o q r g : Server) → Chain s stored guids order t o q r g → Fits s → ListsGuids s guids → CountsKept g s
chain_counts s stored guids order t o q r g c fits l =
    let apart = chain_apart s stored guids order t o q r g c in
    record {
      version = apart.0;
      epoch = apart.1;
      open_ids_given = no_more g.open_ids_given s.open_ids_given apart.2;
      full = apart.3;
      room = fits.room;
      expired_guids = λ a b. c.guids_are.each a b ∙ or_none (has_pair a b guids) (r.expired_guids a b) (apart.4 a b) ∙ sym (l.each a b);
      expired_count = c.guids_are.count ∙ ap (λ (n : ℕ). n + length guids) apart.5 ∙ zero_more (length guids) ∙ l.count;
    }
  where
    no_more : (a b : ℕ) → a ≡ b → a ≤ b
    no_more a b e = omega (arith, e)

    zero_more : (n : ℕ) → 0 + n ≡ n
    zero_more n = omega arith

-- the states that the parts of a snapshot lead to, one behind the other
abbrev pub told_files : Server → (ℕ → List ℕ) → (ℕ → FileBytes) → List Entry → Server
told_files s stored held order = with_pieces (based s stored) (file_pieces s held order)

abbrev pub told_opens : Server → (ℕ → List ℕ) → (ℕ → FileBytes) → List Entry → Server
told_opens s stored held order = with_pieces (told_files s stored held order) (open_pieces s (persistent_in s.opened s.opens))

abbrev pub told_root : Server → (ℕ → List ℕ) → (ℕ → FileBytes) → List Entry → Server
told_root s stored held order = with_pieces (told_opens s stored held order) (range_pieces (ranges_that_stay s (s.ranges root)))

abbrev pub told_ranges : Server → (ℕ → List ℕ) → (ℕ → FileBytes) → List Entry → Server
told_ranges s stored held order = with_pieces (told_root s stored held order) (all_range_pieces s order)

abbrev pub told_guids : Server → (ℕ → List ℕ) → (ℕ → FileBytes) → List Entry → List (ℕ × ℕ) → Server
told_guids s stored held order guids = with_pieces (told_ranges s stored held order) (guid_pieces guids)

pub chained : (s : Server) (stored : ℕ → List ℕ) (held : ℕ → FileBytes) (guids : List (ℕ × ℕ)) (order : List Entry) → Fits s → FilesAscend s
    → TellsBytes (record s { stored = stored }) held → IsOrderOf order s.entries
    → Chain s stored guids order (told_files s stored held order) (told_opens s stored held order) (told_root s stored held order)
    (told_ranges s stored held order) (told_guids s stored held order guids)
chained s stored held guids order i ascend told n =
    let os : List ℕ = persistent_in s.opened s.opens in
    let t : Server = told_files s stored held order in
    let o : Server = told_opens s stored held order in
    let q : Server = told_root s stored held order in
    let w : Walked s (based s stored) t order = files_walked s stored held order i told n in
    let p : Opened s t o os = opened_all s t t [] os (first_opened s stored t order w) i (walked_entries s stored t order ascend n w)
    (λ x h. sym (stay_listed s i x) ∙ h)
    (ascending_persistent s.opened s.opens i.ascending) (λ x h. absurd (cc)) in
    let stands : (x : ℕ) → stays s x ≡ true → (o.standing x ≡ true) × (file_in o x ≡ (s.opened x).file) = λ x h.
    (p.standing x ∙ stay_listed s i x ∙ h, ap (λ (y : _). y.file) (p.opened x (stay_listed s i x ∙ h))) in
    let m : Ranged o q root (ranges_that_stay s (s.ranges root)) =
    ranged o root (ranges_that_stay s (s.ranges root)) (stay_owned s o root (s.ranges root) (i.range_owners root) stands) in
    let kept : (x : ℕ) → stays s x ≡ true → (q.standing x ≡ true) × (file_in q x ≡ (s.opened x).file) = λ x h.
    (ap (λ (y : Server). y.standing x) m.is ∙ (stands x h).0, ap (λ (y : Server). file_in y x) m.is ∙ (stands x h).1) in
    record {
      is_order = n;
      walked = w;
      opened = p;
      at_root = m;
      at_files = all_ranged s q order i n.once kept;
      guids_are = expired (told_ranges s stored held order) guids;
    }

all_told : (s : Server) (stored : ℕ → List ℕ) (held : ℕ → FileBytes) (guids : List (ℕ × ℕ)) (order : List Entry)
    → unfolded (snapshot_in s held guids order) stored ≡ told_guids s stored held order guids
unfolding with_pieces
all_told s stored held guids order =
    behind_both (based s stored) (file_pieces s held order) (behind_files s guids order)
    ∙ behind_both (told_files s stored held order) (open_pieces s (persistent_in s.opened s.opens)) _
    ∙ behind_both (told_opens s stored held order) (range_pieces (ranges_that_stay s (s.ranges root))) _
    ∙ behind_both (told_root s stored held order) (all_range_pieces s order) (guid_pieces guids)

pub order_keeps : (s : Server) (stored : ℕ → List ℕ) (held : ℕ → FileBytes) (guids : List (ℕ × ℕ)) (order : List Entry) → Fits s
    → FilesAscend s → TellsBytes (record s { stored = stored }) held → ListsGuids s guids → IsOrderOf order s.entries
    → Keeps (unfolded (snapshot_in s held guids order) stored) s
order_keeps s stored held guids order i ascend told lists n =
    let x = chained s stored held guids order i ascend told n in
    let whole = sym (all_told s stored held guids order) in
    record {
      files = files_kept s stored held guids order i ascend told n;
      opens = subst (λ (y : Server). OpensKept y s) whole (chain_opens s stored guids order _ _ _ _ _ x i);
      counts = subst (λ (y : Server). CountsKept y s) whole (chain_counts s stored guids order _ _ _ _ _ x i lists);
    }

pub snapshot_keeps : (s : Server) (held : ℕ → FileBytes) (guids : List (ℕ × ℕ)) → SnapshotKeeps s held guids
snapshot_keeps s held guids i ascend told lists = order_keeps s s.stored held guids s.entries i ascend told lists (order_itself s.entries ascend)

-- it gives as many ids of opens as the server did
pub order_given : (s : Server) (stored : ℕ → List ℕ) (held : ℕ → FileBytes) (guids : List (ℕ × ℕ)) (order : List Entry) → Fits s
    → FilesAscend s → TellsBytes (record s { stored = stored }) held → IsOrderOf order s.entries
    → (unfolded (snapshot_in s held guids order) stored).open_ids_given ≡ s.open_ids_given
order_given s stored held guids order i ascend told n =
    ap (λ (y : Server). y.open_ids_given) (all_told s stored held guids order)
    ∙ (chain_apart s stored guids order _ _ _ _ _ (chained s stored held guids order i ascend told n)).2
