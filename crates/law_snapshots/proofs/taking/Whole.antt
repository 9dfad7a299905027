-- All pieces of a snapshot are taken, one behind the other.
use Rattle.std.proofs.Common.{◌≡◌, ℕ, ◌+◌, ◌<◌, ◌≤◌, ◌==◌, nat_le, nat_lt, true, List, [], length, refl, sym, ap, subst}
use Rattle.std.proofs.Common.{◌∙◌, arith}
use Rattle.std.proofs.lemmas.Bool.Decides.{nat_tests}
use Rattle.spec_exchange.specs.State.{Server, Entry}
use Rattle.spec_exchange.specs.Files.{root, exists_in, find_in, sizes, used}
use Rattle.spec_exchange.specs.Fold.{nothing_yet, persistent_in, ranges_that_stay}
use Rattle.spec_exchange.specs.Opens.{max_ids}
use Rattle.law_server.specs.tables.Fits.{Fits}
use Rattle.law_server.proofs.tables.Logic.{both}
use Rattle.law_records.specs.fold.Order.{FilesAscend}
use Rattle.law_snapshots.specs.snapshots.Kept.{IsOrderOf, TellsBytes}
use Rattle.law_snapshots.specs.snapshots.Pieces.{FileBytes, base_piece, file_pieces, guid_pieces, open_pieces, all_range_pieces, range_pieces}
use Rattle.law_snapshots.specs.snapshots.Pieces.{snapshot_in, unfolded, with_pieces}
use Rattle.law_snapshots.specs.snapshots.Taken.{IsTakable, is_unnumbered, takes_piece, takes_pieces}
use Rattle.law_snapshots.proofs.snapshots.Opens.{ascending_persistent}
use Rattle.law_snapshots.proofs.snapshots.Order.{order_placed}
use Rattle.law_snapshots.proofs.snapshots.Tables.{based, behind_files, first_behind, walked_entries}
use Rattle.law_snapshots.proofs.snapshots.Whole.{chain_apart, chained, first_opened, stay_listed, told_files, told_opens, told_ranges, told_root}
use Rattle.law_snapshots.proofs.taking.Names.{sizes_all}
use Rattle.law_snapshots.proofs.taking.Rest.{Stand, all_ranges_taken, guids_taken, opens_taken, ranges_taken}
use Rattle.law_snapshots.proofs.taking.Taken.{taken_both}
use Rattle.law_snapshots.proofs.taking.Told.{Has, files_taken}

base_taken : (s : Server) (stored : ℕ → List ℕ) → Fits s → s.version ≡ 2 → 0 < s.epoch
    → takes_piece (record nothing_yet { stored = stored }) (base_piece s) ≡ true
unfolding is_unnumbered
base_taken s stored i v e =
    let version : (s.version == 2) ≡ true = grind arith in
    let epoch : nat_lt 0 s.epoch ≡ true = grind (arith, nat_tests) in
    let given : nat_le s.open_ids_given max_ids ≡ true = let l = i.given in grind (arith, nat_tests) in
    let next : nat_lt 0 s.next_file ≡ true = let l = i.next_file in grind (arith, nat_tests) in
    both (s.version == 2) _ version (both (nat_lt 0 s.epoch) _ epoch (both (nat_le s.open_ids_given max_ids) _ given next))

first_has : (s : Server) (stored : ℕ → List ℕ) → Has s (based s stored) []
unfolding find_in exists_in sizes
first_has s stored = record { found = λ p. refl; there = λ f. refl; directory = λ f h. absurd (cc); lengths = refl }

sum_of : (s : Server) (order : List Entry) → IsOrderOf order s.entries → FilesAscend s → used s < 0x1_0000_0000_0000_0000
    → sizes s.content [] + sizes s.content order < 0x1_0000_0000_0000_0000
unfolding used sizes
sum_of s order n a l =
    let same : sizes s.content order + 0 ≡ sizes s.content s.entries =
    sym (sizes_all s.content order []) ∙ ap (λ (es : List Entry). sizes s.content es) (order_placed order s.entries n a) in
    omega (arith, same, l)

files_told : (s : Server) (stored : ℕ → List ℕ) (held : ℕ → FileBytes) (guids : List (ℕ × ℕ)) (order : List Entry) → Fits s → FilesAscend s
    → TellsBytes (record s { stored = stored }) held → IsOrderOf order s.entries → IsTakable s held guids order
    → takes_pieces (based s stored) (file_pieces s held order) ≡ true
files_told s stored held guids order i ascend bytes n can =
    files_taken s stored (based s stored) held [] order (first_behind s stored held order i bytes n) (first_has s stored) can.parents
    (sum_of s order n ascend can.bytes) (λ f h. (can.stored f (sym (n.there f) ∙ h), can.filled f (sym (n.there f) ∙ h)))

opens_told : (s : Server) (stored : ℕ → List ℕ) (held : ℕ → FileBytes) (guids : List (ℕ × ℕ)) (order : List Entry) → Fits s → FilesAscend s
    → TellsBytes (record s { stored = stored }) held → IsOrderOf order s.entries
    → takes_pieces (told_files s stored held order) (open_pieces s (persistent_in s.opened s.opens)) ≡ true
opens_told s stored held guids order i ascend bytes n =
    let t : Server = told_files s stored held order in
    let x = chained s stored held guids order i ascend bytes n in
    opens_taken s t t [] (persistent_in s.opened s.opens) (first_opened s stored t order x.walked) i (walked_entries s stored t order ascend n x.walked)
    (ap (λ (y : Server). y.epoch) x.walked.is) (ap (λ (y : Server). y.open_ids_given) x.walked.is) (λ o h. sym (stay_listed s i o) ∙ h)
    (ascending_persistent s.opened s.opens i.ascending) (λ p h. absurd (cc))

guids_told : (s : Server) (stored : ℕ → List ℕ) (held : ℕ → FileBytes) (guids : List (ℕ × ℕ)) (order : List Entry) → Fits s → FilesAscend s
    → TellsBytes (record s { stored = stored }) held → IsOrderOf order s.entries → IsTakable s held guids order
    → takes_pieces (told_ranges s stored held order) (guid_pieces guids) ≡ true
guids_told s stored held guids order i ascend bytes n can =
    let r : Server = told_ranges s stored held order in
    let x = chained s stored held guids order i ascend bytes n in
    let apart = chain_apart s stored guids order _ _ _ _ _ x in
    let epoch : r.epoch ≡ s.epoch = sym (ap (λ (y : Server). y.epoch) x.guids_are.is) ∙ apart.1 in
    guids_taken r guids (subst (λ (k : ℕ). 0 < k) (sym epoch) can.epoch)
    (subst (λ (k : ℕ). k + length guids ≤ 65536) (sym apart.5) (none_more (length guids) can.expired)) (λ a b h. apart.4 a b) can.expired_once
  where
    none_more : (k : ℕ) → k ≤ 65536 → 0 + k ≤ 65536
    none_more k l = omega (arith, l)

pub told : (s : Server) (stored : ℕ → List ℕ) (held : ℕ → FileBytes) (guids : List (ℕ × ℕ)) (order : List Entry) → Fits s → FilesAscend s
    → TellsBytes (record s { stored = stored }) held → IsOrderOf order s.entries → IsTakable s held guids order
    → takes_pieces (unfolded [] stored) (snapshot_in s held guids order) ≡ true
unfolding with_pieces takes_pieces
told s stored held guids order i ascend bytes n can =
    let o : Server = told_opens s stored held order in
    let q : Server = told_root s stored held order in
    let x = chained s stored held guids order i ascend bytes n in
    let stand : Stand s o = λ p h. x.opened.standing p ∙ stay_listed s i p ∙ h in
    let root_told = ranges_taken s o (s.ranges root) stand in
    both (takes_piece (record nothing_yet { stored = stored }) (base_piece s)) _ (base_taken s stored i can.version can.epoch)
    (taken_both (based s stored) (file_pieces s held order) (behind_files s guids order)
    ∙ both (takes_pieces (based s stored) (file_pieces s held order)) _ (files_told s stored held guids order i ascend bytes n can)
    (taken_both (told_files s stored held order) (open_pieces s (persistent_in s.opened s.opens)) _
    ∙ both (takes_pieces (told_files s stored held order) (open_pieces s (persistent_in s.opened s.opens))) _
    (opens_told s stored held guids order i ascend bytes n)
    (taken_both o (range_pieces (ranges_that_stay s (s.ranges root))) _
    ∙ both (takes_pieces o (range_pieces (ranges_that_stay s (s.ranges root)))) _ root_told.0
    (taken_both q (all_range_pieces s order) (guid_pieces guids)
    ∙ both (takes_pieces q (all_range_pieces s order)) _ (all_ranges_taken s q order root_told.1)
    (guids_told s stored held guids order i ascend bytes n can)))))
