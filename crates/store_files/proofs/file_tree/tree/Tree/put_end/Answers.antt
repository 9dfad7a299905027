use Rattle.std.proofs.Common.{◌≡◌, ◌+◌, ◌-◌, ◌&&◌, ◌≤◌, ℕ, List, false, nat_lt, refl, sym, subst, ◌∙◌}
use Rattle.spec_exchange.specs.Content.{ended}
use Rattle.spec_exchange.specs.Files.{path_in, used}
use Rattle.spec_exchange.proofs.Content.{length-ended}
use Rattle.store_files.specs.declared.file_tree.tree.Tree.{Tree}
use Rattle.store_files.specs.file_extents.Kept.{IsContent}
use Rattle.store_files.proofs.file_tree.Full.{there_in}
use Rattle.store_files.proofs.file_tree.Keys.{some_there}
use Rattle.store_files.proofs.file_tree.Lengths.{no_root, rows_changed, shows_changed, sum_changed, part_of_used, room_left_used}
use Rattle.store_files.proofs.file_tree.tree.Tree.put_end.Goals as goal

pub returns-clause-shown : goal.returns-clause-shown
returns-clause-shown c = λ s h e d r.
    let f = c.args.file in
    let t = c.args.self.now in
    let u : Tree = record t { rows = c.end_row.new.rows; used = c.used_behind-self.result; held = c.held_after-self.result } in
    let size = c.args.size in
    let z = no_root s f d in
    let p = some_there s.entries f (there_in s f z e) in
    let new = ended size (s.content f) in
    let len = c.length-length.ensures s h e in
    let sum = subst (λ (n : ℕ). c.used_behind-self.result ≡ (used s - n) + size) len
    (c.used_behind-self.ensures s h (subst (λ (n : ℕ). n ≤ used s) (sym len) (part_of_used s f (path_in s.entries f) h.rows.apart p))
    (subst (λ (n : ℕ). (nat_lt s.room ((used s - n) + size) && nat_lt n size) ≡ false) (sym len) (room_left_used s f size r))) in
    shows_changed t u s f new z
    (rows_changed t u f (λ x y. (c : List ℕ) → IsContent x c → IsContent y (ended size c)) c.end_row.ensures.there
    c.end_row.ensures.others s h new (λ x y q i. q (s.content f) i))
    c.end_row.ensures.count
    (sum_changed s f size (path_in s.entries f) new h.rows.apart p (length-ended size (s.content f)) ∙ sym sum)
    refl refl refl refl h
