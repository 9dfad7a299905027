use Rattle.std.proofs.Common.{◌≡◌, ℕ, if◌then◌else◌, nat_eq}
use Rattle.std.specs.HashMap.{get, hash_map_len}
use Rattle.spec_exchange.specs.Table.{has}
use Rattle.store_opens.specs.open_table.Rows.{detached_row}
use Rattle.store_opens.specs.open_table.Due.{IndexGrows}
use Rattle.store_opens.proofs.open_table.table.Opens.detach_all.Given as goal

abbrev pub invariant-loop-id : goal.invariant-loop-id
invariant-loop-id l = record {
  rows : (q : ℕ) → (if has q l.id-iterator then detached_row l.session l.now (get nat_eq l.self.rows q) else get nat_eq l.self.rows q)
      ≡ (if has q l.opens.keys then detached_row l.session l.now (get nat_eq l.fn.self.rows q) else get nat_eq l.fn.self.rows q);
  len : hash_map_len l.self.rows ≡ hash_map_len l.fn.self.rows;
  indexed : IndexGrows (λ q. get nat_eq l.fn.self.rows q) (λ q. get nat_eq l.self.rows q) l.fn.self.deadlines l.self.deadlines;
  rest : l.self ≡ record l.fn.self { rows = l.self.rows; deadlines = l.self.deadlines };
}
